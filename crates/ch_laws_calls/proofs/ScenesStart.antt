-- Two nodes of a journal in its new world are seen as a pair at the start.
use mathlib.Core.Path.{fun_ext}
use Rattle.std.proofs.Common.{◌≡◌, ℕ, Bool, true, false, not, List, [], refl, sym, ap, ◌∙◌}
use Rattle.std.specs.List.{list_any}
use Rattle.std.specs.Prelude.{find, Some}
use Rattle.ch_base.specs.declared.address.Address.{Address}
use Rattle.ch_link.specs.declared.LinkState.{LinkState}
use Rattle.ch_link.specs.declared.LinkState.TheVariants.{Idle}
use Rattle.ch_model.specs.declared.line.Line.{Line}
use Rattle.ch_model.specs.HostState.{Link, HostState}
use Rattle.ch_model.specs.HostSteps.{is_open_endpoint, is_link, link_or_new}
use Rattle.ch_model.specs.Naming.{is_named}
use Rattle.ch_model.specs.World.{names_of, nodes_of, first_of_hosts, cell_at, world_new}
use Rattle.ch_model.specs.WorldSockets.{is_host_of}
use Rattle.ch_model.specs.WorldState.{Cell, Named}
use Rattle.ch_race.specs.Pair.{Side, other, Sock, Pair, dead, start}
use Rattle.ch_laws_many.proofs.Addresses.{nodes_are}
use Rattle.ch_laws_many.proofs.Reached.{IsJournal, named}
use Rattle.ch_laws_race.specs.Scene.{Party, hosts_of}
use Rattle.ch_laws_race.specs.View.{place_of, with_places, is_shut, view}
use Rattle.ch_laws_calls.specs.Scenes.{IsPairOf, scene_of, Raced}
use Rattle.ch_laws_calls.proofs.ScenesGiven.{host_is}
use Rattle.ch_laws_calls.proofs.ScenesOpened.{open_at, keeps_at}
use Rattle.ch_laws_calls.proofs.ScenesPlaces.{Stands, stands_at, hosts_same, host_parts, text_at, IsMadeAt, made_at}

-- the host of one of the two, as it is made
record IsHostOf (journal : List Line) (a : Address) (host : HostState) : Type 0 where
  address : Address
  is : (cell_at journal address).host ≡ host
  text : a.host ≡ address.host
  port : a.port ≡ address.port

host_of : (journal : List Line) (party : Side → Party) → IsPairOf journal party → (x : Side) → IsHostOf journal (party x).address (hosts_of (world_new journal) (party x).place)
host_of journal party pair x = record { address = made.address; is = ap (λ (c : Cell × ℕ). c.0.host) made.made ∙ sym (host_is (world_new journal) (party x).place at.0 at.1); text = sym parts.0 ∙ there.0; port = sym parts.1 ∙ there.1 } where
  at : Stands (is_host_of (party x).address) (world_new journal).cells (party x).place
  at = stands_at (is_host_of (party x).address) (world_new journal).cells (party x).place (pair.placed x)

  made : IsMadeAt journal (first_of_hosts [] (nodes_of journal)) (party x).place at.0
  made = made_at journal (first_of_hosts [] (nodes_of journal)) (party x).place at.0 at.1

  parts : (at.0.0.host.host ≡ (party x).address.host) × (at.0.0.host.port ≡ (party x).address.port)
  parts = host_parts (party x).address at.0 at.2

  there : (at.0.0.host.host ≡ made.address.host) × (at.0.0.host.port ≡ made.address.port)
  there = (ap (λ (c : Cell × ℕ). c.0.host.host) (sym made.made) ∙ (text_at journal made.address).0, ap (λ (c : Cell × ℕ). c.0.host.port) (sym made.made) ∙ (text_at journal made.address).1)

link_idle : (journal : List Line) (party : Side → Party) → IsPairOf journal party → (x : Side) → (view (scene_of party (world_new journal))).link x ≡ Idle
link_idle journal party pair x =
    let host = host_of journal party pair x in
    ap (λ (l : List Link). with_places (place_of (party x).place []) (link_or_new (party x).address.id (party (other x)).address (find (is_link (party x).address.id (party (other x)).address) l)).state)
    (ap (λ (h : HostState). h.links) (sym host.is) ∙ keeps_at (λ (h : HostState). h.links) (λ h ends. refl) journal host.address)

end_open : (journal : List Line) (party : Side → Party) → IsJournal journal → IsPairOf journal party → (x : Side) → (view (scene_of party (world_new journal))).shut x ≡ false
end_open journal party j pair x = ap (λ (h : HostState). is_shut (party x).address.id h) (sym host.is) ∙ ap (λ (n : ℕ). is_shut n (cell_at journal host.address).host) (ap (λ (a : Address). a.id) (sym at)) ∙ ap not opened where
  host : IsHostOf journal (party x).address (hosts_of (world_new journal) (party x).place)
  host = host_of journal party pair x

  d : Named
  d = (pair.named x).0

  at : d.address ≡ (party x).address
  at = (pair.named x).3

  found : find (is_named (party x).name) (nodes_of journal) ≡ Some d
  found = ap (find (is_named (party x).name)) (nodes_are (names_of journal) (named journal j)) ∙ (pair.named x).1

  opened : list_any (is_open_endpoint d.address.id) (cell_at journal host.address).host.ends ≡ true
  opened = open_at journal host.address (party x).name d found (hosts_same d.address host.address (ap (λ (a : Address). a.host) at ∙ host.text) (ap (λ (a : Address). a.port) at ∙ host.port))

as_start : (link : Side → LinkState) (shut : Side → Bool) (sock : ℕ → Sock) → link ≡ (λ x. Idle) → shut ≡ (λ x. false) → sock ≡ (λ i. dead) → ◌≡◌ {A = Pair} (record { link = link; shut = shut; sock = sock; quiet = true }) (start (λ x. false))
as_start link shut sock l s k =
    ap {B = Pair} (λ (z : Side → LinkState). record { link = z; shut = shut; sock = sock; quiet = true }) l
    ∙ ap {B = Pair} (λ (z : Side → Bool). record { link = λ x. Idle; shut = z; sock = sock; quiet = true }) s
    ∙ ap {B = Pair} (λ (z : ℕ → Sock). record { link = λ x. Idle; shut = λ x. false; sock = z; quiet = true }) k

pub view_at_start : (journal : List Line) → IsJournal journal → (party : Side → Party) → IsPairOf journal party → view (scene_of party (world_new journal)) ≡ start (λ x. false)
view_at_start journal j party pair = as_start seen.link seen.shut seen.sock (fun_ext (link_idle journal party pair)) (fun_ext (end_open journal party j pair)) (fun_ext no_socket) where
  seen : Pair
  seen = view (scene_of party (world_new journal))

  no_socket : (i : ℕ) → seen.sock i ≡ dead
  no_socket i = refl

pub raced_at_start : (journal : List Line) → IsJournal journal → Raced journal [] (world_new journal)
raced_at_start journal j party pair = ((λ x. false), [], tt, sym (view_at_start journal j party pair))
