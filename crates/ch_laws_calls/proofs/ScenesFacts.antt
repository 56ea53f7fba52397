-- What is so of the scene of two nodes: who they are, and what their hosts' records and links say of the sockets between them.
use Rattle.std.proofs.Common.{◌≡◌, ◌≤◌, ℕ, ◌*◌, Bool, true, false, ◌&&◌, List, [], ◌∷◌, inl, inr, refl, sym, ap, ◌∙◌, subst, arith}
use Rattle.std.proofs.lemmas.Slice.Eq.{bytes_eq-Decides}
use Rattle.std.specs.List.{list_any}
use Rattle.std.specs.Option.{option_map}
use Rattle.std.specs.Prelude.{◌⊎◌, ◌==◌, find, is_some, slice_get, Option, Some, None}
use Rattle.std.specs.Str.{bytes_eq}
use Rattle.ch_base.specs.declared.address.Address.{Address}
use Rattle.ch_wire.specs.declared.frame.Frame.{Frame}
use Rattle.ch_watch.specs.Same.{same_node}
use Rattle.ch_model.specs.declared.entry.Entry.{Entry}
use Rattle.ch_model.specs.declared.line.Line.{Line}
use Rattle.ch_model.specs.declared.name.End.{End}
use Rattle.ch_model.specs.declared.name.End.TheVariants.{O, T}
use Rattle.ch_model.specs.declared.name.SockName.{SockName}
use Rattle.ch_model.specs.declared.step.Weight.{Weight}
use Rattle.ch_model.specs.HostLinks.{next_dial}
use Rattle.ch_model.specs.HostState.{Socket, HostState}
use Rattle.ch_model.specs.HostSteps.{is_socket, own_address, link_with}
use Rattle.ch_model.specs.Naming.{called}
use Rattle.ch_model.specs.Same.{is_between}
use Rattle.ch_model.specs.Stages.{Ended}
use Rattle.ch_model.specs.WorldSockets.{end_of, is_end_of, end_of_nobody, find_end, next_name, new_socket}
use Rattle.ch_model.specs.WorldState.{Cell, WorldSocket, World}
use Rattle.ch_race.specs.Pair.{Side, Lesser, Greater, other}
use Rattle.ch_laws_log.proofs.Homes.{node_self}
use Rattle.ch_laws_log.proofs.Kept.{IsIn}
use Rattle.ch_laws_log.proofs.Stored.{number_same}
use Rattle.ch_laws_ends.proofs.Apart.{all_apart}
use Rattle.ch_laws_ends.proofs.Found.{none_found}
use Rattle.ch_laws_writes.specs.Orderly as orderly
use Rattle.ch_laws_writes.specs.Orderly.{LinkFits, link_at, user_of}
use Rattle.ch_laws_bytes.proofs.Lines.{own_of}
use Rattle.ch_laws_race.specs.Scene.{Party, host_of, link_of}
use Rattle.ch_laws_race.specs.View.{opener_of, has_end}
use Rattle.ch_laws_race.specs.Sound.{AreApart, Acts, HasEnd, AreFrames}
use Rattle.ch_laws_race.specs.Reading.{IsUser}
use Rattle.ch_laws_race.specs.Others.{AreKnown, IsOthers, IsFree}
use Rattle.ch_laws_race.proofs.Readings.{other_twice}
use Rattle.ch_laws_race.proofs.Sockets.{given}
use Rattle.ch_laws_calls.specs.Scenes.{IsOfSide, IsOthersLink, scene_of}
use Rattle.ch_laws_calls.proofs.ScenesGiven.{IsGiven, names_differ, called_in, is_called_in, hosted, own_there, own_by, place_by, end_by, own_is_at, host_is, ends_differ}
use Rattle.ch_laws_calls.proofs.ScenesHeld.{held_by, found_at, any_found, found_held}
use Rattle.ch_laws_calls.proofs.ScenesDialed.{opened_by, opened_as, IsDialed, dialed, of_side, is_in, used_for}
use Rattle.ch_laws_calls.proofs.ScenesPeers.{between_names}
use Rattle.ch_laws_calls.proofs.ScenesStreams.{host_has}

-- ---- the nodes

pub are_apart : (journal : List Line) (log : List Entry) (world : World) (party : Side → Party) → IsGiven journal log world party → AreApart world.sockets
are_apart journal log world party g = let apart = all_apart world.sockets g.sound.ends.sure.ends.sorted.0.apart g.sound.ends.sure.ends.each in record { named = apart.named; numbered = apart.numbered }

pub acts_there : (journal : List Line) (log : List Entry) (world : World) (party : Side → Party) → IsGiven journal log world party → (x : Side) (cell : Cell × ℕ) → slice_get world.cells (party x).place ≡ Some cell → Acts (scene_of party world) x cell
acts_there journal log world party g x cell at = record {
  there = at;
  own = ap (λ (h : HostState). own_address h (party x).address.id) (host_is world (party x).place cell at) ∙ own_there journal log world party g x cell at;
  order = g.pair.order x;
  differ = ends_differ journal log world party g x;
  apart = are_apart journal log world party g;
}

pub texts_differ : (journal : List Line) (log : List Entry) (world : World) (party : Side → Party) → IsGiven journal log world party → bytes_eq (party Greater).name (party Lesser).name ≡ false
texts_differ journal log world party g = by_test (bytes_eq (party Greater).name (party Lesser).name) refl where
  by_test : (b : Bool) → bytes_eq (party Greater).name (party Lesser).name ≡ b → b ≡ false
  by_test true h = absurd (names_differ journal log world party g Greater ((bytes_eq-Decides (party Greater).name (party Lesser).name).0 h))
  by_test false h = refl

-- ---- what a host has a record of is an end of the world

pub held_there : (journal : List Line) (log : List Entry) (world : World) (party : Side → Party) → IsGiven journal log world party → (place n : ℕ) (cell : Cell × ℕ) (known : Socket) → slice_get world.cells place ≡ Some cell → find (is_socket n) cell.0.host.sockets ≡ Some known → (at : SockName × End) × (find_end place n world.sockets ≡ Some at)
held_there journal log world party g place n cell known at kept = found_held (find_end place n world.sockets) world.sockets known.stage (sym (g.sound.ends.sure.ends.agrees.ends place cell at n) ∙ ap (option_map (λ (w : Socket). w.stage)) kept)

has_user : (o : Option Socket) (user : ℕ × Address) → user_of o ≡ Some user → (known : Socket) × (o ≡ Some known)
has_user None user e = absurd cc
has_user (Some known) user e = (known, refl)

links_fit : (journal : List Line) (log : List Entry) (world : World) (party : Side → Party) → IsGiven journal log world party → (x : Side) (cell : Cell × ℕ) → slice_get world.cells (party x).place ≡ Some cell
    → LinkFits cell.0.host.sockets (party x).address.id (party (other x)).address (link_of (scene_of party world) x)
links_fit journal log world party g x cell at = subst (LinkFits cell.0.host.sockets (party x).address.id (party (other x)).address) (ap (λ (h : HostState). link_with h (party x).address.id (party (other x)).address) (sym (host_is world (party x).place cell at)))
    ((g.sound.ends.flowing.orderly (party x).place cell at).links (party x).address.id (party (other x)).address)

pub are_known : (journal : List Line) (log : List Entry) (world : World) (party : Side → Party) → IsGiven journal log world party → AreKnown (scene_of party world)
are_known journal log world party g z m named =
    let at = hosted journal log world party g z in
    let known = has_user (find (is_socket m) at.0.0.host.sockets) ((party z).address.id, (party (other z)).address) ((links_fit journal log world party g z at.0 at.1).named m named) in
    let held = held_there journal log world party g (party z).place m at.0 known.0 at.1 known.1 in
    any_found (party z).place m world.sockets ∙ ap is_some held.1

are_frames : (waits : List (Frame × Weight)) → orderly.AreFrames waits → AreFrames waits
are_frames [] f = tt
are_frames (wait ∷ rest) f = (f.0, are_frames rest f.1)

pub all_frames : (journal : List Line) (log : List Entry) (world : World) (party : Side → Party) → IsGiven journal log world party → (x : Side) → AreFrames (link_of (scene_of party world) x).waits
all_frames journal log world party g x = let at = hosted journal log world party g x in are_frames (link_of (scene_of party world) x).waits (links_fit journal log world party g x at.0 at.1).spelled

-- ---- an end for the link of the two is one between them

-- an end of x of a socket of the world
pub record IsEndOf (party : Side → Party) (world : World) (x : Side) (n : ℕ) : Type 0 where
  pub i : ℕ
  pub socket : WorldSocket
  pub e : End
  pub has : HasEnd (scene_of party world) x e i n socket

user_parts : (a c : ℕ) (b d : Address) → ◌≡◌ {A = Option (ℕ × Address)} (Some (a, b)) (Some (c, d)) → (a ≡ c) × (b ≡ d)
user_parts a c b d e = let both : ◌≡◌ {A = ℕ × Address} (a, b) (c, d) = cc in (ap (λ (p : ℕ × Address). p.0) both, ap (λ (p : ℕ × Address). p.1) both)

led_there : (journal : List Line) (log : List Entry) (world : World) (party : Side → Party) → IsGiven journal log world party → (socket : WorldSocket) → IsIn socket world → is_between (party Lesser).name (party Greater).name socket.name ≡ true → is_some socket.t.cell ≡ true
led_there journal log world party g socket is between = ap is_some (of_side journal log world party g socket is between T).cell

opener_between : (journal : List Line) (log : List Entry) (world : World) (party : Side → Party) → IsGiven journal log world party → (x : Side) (n i : ℕ) (socket : WorldSocket) (cell : Cell × ℕ) (known : Socket) → slice_get world.cells (party x).place ≡ Some cell → find (is_socket n) cell.0.host.sockets ≡ Some known → IsUser (scene_of party world) x known
    → slice_get world.sockets i ≡ Some socket → is_end_of (party x).place n socket.o ≡ true → HasEnd (scene_of party world) x O i n socket
opener_between journal log world party g x n i socket cell known at kept user there of = record { at = there; end = of; between = its.0; opener = its.1; target = led_there journal log world party g socket is its.0 } where
  is : IsIn socket world
  is = is_in journal log world party g i socket there

  d : IsDialed journal world socket
  d = dialed journal log world party g socket is

  held : (socket.o.cell ≡ Some (party x).place) × (socket.o.number ≡ Some n)
  held = held_by (party x).place n socket.o of

  place : d.place ≡ (party x).place
  place = given d.place (party x).place (sym d.cell_is ∙ held.0)

  number : d.n ≡ n
  number = given d.n n (sym d.number_is ∙ held.1)

  same_cell : d.cell ≡ cell
  same_cell = given d.cell cell (sym d.at ∙ ap (λ (p : ℕ). slice_get world.cells p) place ∙ at)

  one : d.held ≡ known
  one = given d.held known (sym d.kept ∙ ap (λ (m : ℕ). find (is_socket m) d.cell.0.host.sockets) number ∙ ap (λ (c : Cell × ℕ). find (is_socket n) c.0.host.sockets) same_cell ∙ kept)

  parts : (d.used.end ≡ (party x).address.id) × (d.used.peer ≡ (party (other x)).address)
  parts = user_parts d.used.end (party x).address.id d.used.peer (party (other x)).address (sym d.used.user ∙ ap (λ (s : Socket). s.user) one ∙ user)

  from : socket.name.from ≡ (party x).name
  from = sym d.used.from ∙ ap (called world.names) (ap (λ (p : ℕ). own_of journal p d.used.end) place ∙ ap (own_of journal (party x).place) parts.0 ∙ own_is_at journal log world party g x) ∙ called_in journal log world party g x

  to : socket.name.to ≡ (party (other x)).name
  to = sym d.used.to ∙ ap (called world.names) parts.1 ∙ called_in journal log world party g (other x)

  its : (is_between (party Lesser).name (party Greater).name socket.name ≡ true) × (opener_of party socket ≡ x)
  its = opened_as journal log world party g socket x from to

target_between : (journal : List Line) (log : List Entry) (world : World) (party : Side → Party) → IsGiven journal log world party → (x : Side) (n i : ℕ) (socket : WorldSocket) (cell : Cell × ℕ) (known : Socket) → slice_get world.cells (party x).place ≡ Some cell → find (is_socket n) cell.0.host.sockets ≡ Some known → IsUser (scene_of party world) x known
    → slice_get world.sockets i ≡ Some socket → is_end_of (party x).place n socket.t ≡ true → HasEnd (scene_of party world) x T i n socket
target_between journal log world party g x n i socket cell known at kept user there of = record { at = there; end = of; between = its.0; opener = its.1; target = led_there journal log world party g socket is its.0 } where
  is : IsIn socket world
  is = is_in journal log world party g i socket there

  held : (socket.t.cell ≡ Some (party x).place) × (socket.t.number ≡ Some n)
  held = held_by (party x).place n socket.t of

  called_so : (called world.names (own_of journal (party x).place (party x).address.id) ≡ socket.name.to) × (called world.names (party (other x)).address ≡ socket.name.from)
  called_so = ((g.used socket.name socket is).target (party x).place n cell known held.0 held.1 at kept).user (party x).address.id (party (other x)).address (between_names journal log world party g socket is) user

  from : socket.name.from ≡ (party (other x)).name
  from = sym called_so.1 ∙ called_in journal log world party g (other x)

  to : socket.name.to ≡ (party (other (other x))).name
  to = sym called_so.0 ∙ ap (called world.names) (own_is_at journal log world party g x) ∙ called_in journal log world party g x ∙ ap (λ (z : Side). (party z).name) (sym (other_twice x))

  its : (is_between (party Lesser).name (party Greater).name socket.name ≡ true) × (opener_of party socket ≡ other x)
  its = opened_as journal log world party g socket (other x) from to

pub end_between : (journal : List Line) (log : List Entry) (world : World) (party : Side → Party) → IsGiven journal log world party → (x : Side) (n : ℕ) (known : Socket) → find (is_socket n) (host_of (scene_of party world) x).sockets ≡ Some known → IsUser (scene_of party world) x known → IsEndOf party world x n
end_between journal log world party g x n known kept user =
    let at = hosted journal log world party g x in
    let there = host_has world party x n known at.0 at.1 kept in
    let held = held_there journal log world party g (party x).place n at.0 known at.1 there in
    let found = found_at (party x).place n world.sockets held.0 held.1 in
    by_end held.0.1 found.i found.socket at.0 at.1 there found.there found.of where
      by_end : (e : End) (i : ℕ) (socket : WorldSocket) (cell : Cell × ℕ) → slice_get world.cells (party x).place ≡ Some cell → find (is_socket n) cell.0.host.sockets ≡ Some known → slice_get world.sockets i ≡ Some socket → is_end_of (party x).place n (end_of e socket) ≡ true → IsEndOf party world x n
      by_end O i socket cell at there is of = record { i = i; socket = socket; e = O; has = opener_between journal log world party g x n i socket cell known at there user is of }
      by_end T i socket cell at there is of = record { i = i; socket = socket; e = T; has = target_between journal log world party g x n i socket cell known at there user is of }

-- ---- others

none_or : {A : Type 0} (u : A) (o : Option A) → o ≡ Some u → o ≡ None → ⊥
none_or u o e f = absurd cc

-- an end that is for another link than theirs isn't between them
pub other_end : (journal : List Line) (log : List Entry) (world : World) (party : Side → Party) → IsGiven journal log world party → (place n : ℕ) (cell : Cell × ℕ) (known : Socket) (end : ℕ) (peer : Address) → slice_get world.cells place ≡ Some cell → find (is_socket n) cell.0.host.sockets ≡ Some known → known.user ≡ Some (end, peer) → IsOthersLink party place end peer
    → IsFree (scene_of party world) place n
other_end journal log world party g place n cell known end peer at kept user others j u there between e = by_test (is_end_of place n (end_of e u)) refl where
  is : IsIn u world
  is = is_in journal log world party g j u there

  side : IsOfSide party e u
  side = of_side journal log world party g u is between e

  at_side : is_end_of place n (end_of e u) ≡ true → place ≡ (party side.side).place
  at_side of = given place (party side.side).place (sym (held_by place n (end_of e u) of).0 ∙ side.cell)

  their_link : (z : Side) → (party z).place ≡ place → end ≡ (party z).address.id → peer ≡ (party (other z)).address → ⊥
  their_link z p m a =
      let clash : true ≡ false = sym (ap (λ (b : Bool). b && same_node peer (party (other z)).address) (ap (λ (k : ℕ). k == (party z).address.id) m ∙ number_same (party z).address.id) ∙ ap (λ (c : Address). same_node c (party (other z)).address) a ∙ node_self (party (other z)).address) ∙ others z p in
      absurd cc

  clash : is_end_of place n (end_of e u) ≡ true → ⊥
  clash of =
      let p = at_side of in
      let has : HasEnd (scene_of party world) side.side e j n u = record { at = there; end = subst (λ (q : ℕ). is_end_of q n (end_of e u) ≡ true) p of; between = between; opener = side.opener; target = led_there journal log world party g u is between } in
      by_user p (used_for journal log world party g side.side e j n u known has cell (subst (λ (q : ℕ). slice_get world.cells q ≡ Some cell) p at) kept) where
        by_user : place ≡ (party side.side).place → (known.user ≡ None) ⊎ IsUser (scene_of party world) side.side known → ⊥
        by_user p (inl e) = none_or (end, peer) known.user user e
        by_user p (inr e) = let parts = user_parts end (party side.side).address.id peer (party (other side.side)).address (sym user ∙ e) in their_link side.side (sym p) parts.0 parts.1

  by_test : (b : Bool) → is_end_of place n (end_of e u) ≡ b → b ≡ false
  by_test true of = absurd (clash of)
  by_test false of = refl

-- nor is a socket that such a link dials
pub other_name : (journal : List Line) (log : List Entry) (world : World) (party : Side → Party) → IsGiven journal log world party → (place : ℕ) (cell : Cell × ℕ) (end : ℕ) (peer : Address) → slice_get world.cells place ≡ Some cell → IsOthersLink party place end peer
    → IsOthers party (next_name world (called world.names (own_address cell.0.host end)) (called world.names peer))
other_name journal log world party g place cell end peer at others = by_test (is_between (party Lesser).name (party Greater).name new.name) refl where
  new : WorldSocket
  new = new_socket world (called world.names (own_address cell.0.host end)) (called world.names peer) [] (end_of_nobody None None Ended) peer

  clash : is_between (party Lesser).name (party Greater).name new.name ≡ true → ⊥
  clash between =
      let by = opened_by journal log world party g new between in
      let own : own_of journal place end ≡ (party by.0).address = sym (own_by journal log world party g place end cell at) ∙ is_called_in journal log world party g by.0 (own_address cell.0.host end) by.1.from in
      let p : place ≡ (party by.0).place = place_by journal log world party g by.0 place end cell at own in
      let m : end ≡ (party by.0).address.id = end_by journal log world party g by.0 place end cell at own in
      let a : peer ≡ (party (other by.0)).address = is_called_in journal log world party g (other by.0) peer by.1.to in
      let both : true ≡ false = sym (ap (λ (b : Bool). b && same_node peer (party (other by.0)).address) (ap (λ (k : ℕ). k == (party by.0).address.id) m ∙ number_same (party by.0).address.id) ∙ ap (λ (c : Address). same_node c (party (other by.0)).address) a ∙ node_self (party (other by.0)).address) ∙ others by.0 (sym p) in
      absurd cc

  by_test : (b : Bool) → is_between (party Lesser).name (party Greater).name new.name ≡ b → b ≡ false
  by_test true h = absurd (clash h)
  by_test false h = refl

itself : (k : ℕ) → k ≤ k
itself k = omega arith

-- the number of a host's next dial is no end's
pub next_is_free : (journal : List Line) (log : List Entry) (world : World) (party : Side → Party) → IsGiven journal log world party → (place : ℕ) (cell : Cell × ℕ) → slice_get world.cells place ≡ Some cell → list_any (has_end place (next_dial cell.0.host)) world.sockets ≡ false
next_is_free journal log world party g place cell at = any_found place (next_dial cell.0.host) world.sockets
    ∙ ap is_some (none_found place (2 * cell.0.host.dials) world.sockets (g.sound.ends.sure.ends.agrees.dialed place cell at cell.0.host.dials (itself cell.0.host.dials)))
