-- A request that a node reads while it is up elsewhere and isn't probed, as a move: it crosses, and probes there.
use Rattle.std.specs.Prelude.{◌≡◌, ℕ, true, false, ◌==◌, nat_eq, List, [], ◌∷◌, map, find, slice_get, slice_set, Option, Some, None, Ok}
use Rattle.std.proofs.Common.{refl, ap, sym, ◌∙◌}
use Rattle.std.proofs.lemmas.Bool.{eqb-true, eq-eqb, and_parts}
use Rattle.ch_base.specs.declared.address.Address.{Address}
use Rattle.ch_wire.specs.Spelling.{answer_spelling, frame_spelling}
use Rattle.ch_wire.specs.declared.frame.Frame.TheVariants as frames
use Rattle.ch_wire.specs.declared.answer.Answer.TheVariants as answers
use Rattle.ch_reader.specs.declared.item.Expected.TheVariants as expected
use Rattle.ch_reader.specs.declared.item.Item.{Item}
use Rattle.ch_reader.specs.declared.item.Item.TheVariants as items
use Rattle.ch_light.proofs.Lists.{set_other}
use Rattle.ch_link.specs.declared.LinkState.{LinkState}
use Rattle.ch_link.specs.declared.LinkState.TheVariants.{Up}
use Rattle.ch_model.specs.declared.name.End.{End}
use Rattle.ch_model.specs.declared.name.End.TheVariants.{O, T}
use Rattle.ch_model.specs.declared.step.Step.TheVariants as steps
use Rattle.ch_model.specs.Stages.{Ended}
use Rattle.ch_model.specs.CellSteps.{told_steps}
use Rattle.ch_model.specs.HostState.{Link, Socket, HostState}
use Rattle.ch_model.specs.HostSteps as host
use Rattle.ch_model.specs.HostSteps.{is_socket, link_with, with_link, with_socket}
use Rattle.ch_model.specs.HostItems.{is_mismatch}
use Rattle.ch_model.specs.WorldState.{Cell, WorldEnd, WorldSocket, World}
use Rattle.ch_model.specs.WorldSockets as world
use Rattle.ch_model.specs.WorldSockets.{end_of, with_end, is_end_of, same_number, item_arrives}
use Rattle.ch_model.specs.WorldSteps.{stepped, all_told}
use Rattle.ch_race.specs.Pair as pair
use Rattle.ch_race.specs.Pair.{Side, other, Sock, Pair, put, point, says}
use Rattle.ch_race.specs.Moves.{Read_t}
use Rattle.ch_laws_race.specs.Scene.{Scene, hosts_of, host_of, link_of}
use Rattle.ch_laws_race.specs.View.{kind, Reader, reader_of, reader_at, opener_of, place_of, with_places, is_shut, sock_of, seen, view}
use Rattle.ch_laws_race.specs.Sound.{Acts, AreApart, HasEnd, TakesItem, first_of, opener_by}
use Rattle.ch_laws_race.specs.Reading.{Reads, IsSeen, reads_front}
use Rattle.ch_laws_race.specs.Requests.{request_to}
use Rattle.ch_laws_race.proofs.Keys.{socket_kept, other_socket, wrong}
use Rattle.ch_laws_race.proofs.Sockets.{by_test, same_place, other_place, given, Alike, alike_self, set_apart, no_other_end, place_found, set_same}
use Rattle.ch_laws_race.proofs.Views.{at_place, host_here, hosts_set, Kept, kept_all, own_reader}
use Rattle.ch_laws_race.proofs.Pairs.{point_point}
use Rattle.ch_laws_race.proofs.Steps.{arrived_alike, writes_there, leaves_there}
use Rattle.ch_laws_race.proofs.Socks.{sock_by, wrote}
use Rattle.ch_laws_race.proofs.Readings.{taken}
use Rattle.ch_laws_race.proofs.Heard.{crosses_up, turned_down, crossed_and_probed}
use Rattle.ch_laws_race.proofs.One as one
use Rattle.ch_laws_race.proofs.One.{by_end}
use Rattle.ch_laws_race.proofs.Read as read
use Rattle.ch_laws_race.proofs.RequestsRead as requests
use Rattle.ch_laws_race.proofs.Two.{placed_twice, stage, reader_stays}

never_other : {A : Type 0} (x : Side) → x ≡ other x → A
never_other x h = absurd (clash x h) where
  clash : (x : Side) → x ≡ other x → ⊥
  clash pair.Lesser h = cc
  clash pair.Greater h = cc

number_of : (cell number : ℕ) (end : WorldEnd) → is_end_of cell number end ≡ true → end.number ≡ Some number
number_of cell number end h = by (end.number) (and_parts (same_number end.cell cell) (same_number end.number number) h).1 where
  by : (m : Option ℕ) → same_number m number ≡ true → m ≡ Some number
  by None q = absurd (clash q) where
    clash : false ≡ true → ⊥
    clash q = cc
  by (Some m) q = ap (λ (z : ℕ). Some z) (eqb-true m number q)

module _ (scene : Scene) (x : Side) (cell : Cell × ℕ) (i : ℕ) (s : WorldSocket) (known : Socket) (acts : Acts scene x cell) (reads : Reads scene x T i s known (items.Request (request_to scene x)))
    (matches : is_mismatch (host_of scene x) known.peer_host (scene.party x).address.id (scene.party (other x)).address ≡ false)
    (e : End) (j : ℕ) (standing : WorldSocket) (up : Socket) (has : HasEnd scene x e j up.number standing) (differ : (known.number == up.number) ≡ false)
    (up_kept : find (is_socket up.number) (host_of scene x).sockets ≡ Some up) where
  abbrev V : Pair
  V = view scene

  abbrev W : World
  W = scene.world

  abbrev xs : List WorldSocket
  xs = W.sockets

  abbrev H : ℕ → HostState
  H = hosts_of W

  abbrev Own : HostState
  Own = host_of scene x

  abbrev P : ℕ
  P = (scene.party x).place

  abbrev Number : ℕ
  Number = (scene.party x).address.id

  abbrev Peer : Address
  Peer = (scene.party (other x)).address

  abbrev L : Link
  L = link_of scene x

  abbrev The : Item
  The = items.Request (request_to scene x)

  abbrev Now : Socket
  Now = taken known reads.more

  abbrev Used : Socket
  Used = record Now { user = Some (Number, Peer) }

  abbrev Gone : Socket
  Gone = record Used { stage = Ended; since = [] }

  abbrev Asking : HostState
  Asking = with_socket Used (with_socket Now Own)

  abbrev State : LinkState
  State = Up up.number true

  abbrev Crossed : HostState
  Crossed = with_socket Gone (with_link (record L { state = State }) Asking)

  abbrev Read : WorldSocket
  Read = read.Read scene x cell T i s known The acts reads

  abbrev Wrote : WorldSocket
  Wrote = read.Wrote scene x cell T i s known The acts reads (items.Answer answers.Crossed) None

  abbrev Over : WorldSocket
  Over = with_end T (world.ended Wrote.t) Wrote

  abbrev Left_there : Sock
  Left_there = record (sock_of scene.party H s) { in_t = map kind reads.rest }

  same_socket_clash : (f : End) → standing ≡ s → is_end_of P up.number (end_of f standing) ≡ true → opener_of scene.party standing ≡ opener_by f x → (known.number == up.number) ≡ true
  same_socket_clash O same mine opener = never_other x (sym opener ∙ ap (opener_of scene.party) same ∙ reads.has.opener)
  same_socket_clash T same mine opener = eq-eqb known.number up.number (given known.number up.number (sym (number_of P known.number s.t reads.has.end) ∙ ap (λ (z : WorldSocket). z.t.number) (sym same) ∙ number_of P up.number standing.t mine))

  apart_places : nat_eq j i ≡ false
  apart_places = by_test (nat_eq j i)
      (λ h. wrong (sym (same_socket_clash e (given standing s (sym has.at ∙ ap (λ (n : ℕ). slice_get xs n) (sym (same_place i j h)) ∙ reads.has.at)) has.end has.opener) ∙ differ)) (λ h. h)

  -- ---- the world

  abbrev Base : World
  Base = read.Then scene x cell T i s known The acts reads Crossed

  abbrev At : Cell
  At = record (cell.0) { host = Crossed }

  abbrev xs1 : List WorldSocket
  xs1 = slice_set xs i Over

  abbrev Probed : WorldSocket
  Probed = with_end (world.other e) (item_arrives (frame_spelling frames.Probe) None (end_of (world.other e) standing)) standing

  over_alike : Alike s Over
  over_alike = requests.over_alike scene x cell i s known acts reads matches answers.Crossed

  probed_alike : Alike standing Probed
  probed_alike = arrived_alike (world.other e) standing standing (frame_spelling frames.Probe) None (alike_self standing)

  apart1 : AreApart xs1
  apart1 = set_apart xs i s Over acts.apart reads.has.at over_alike

  up_at : slice_get xs1 j ≡ Some standing
  up_at = set_other xs i Over j (other_place i j apart_places) ∙ has.at

  told : (all_told P At (told_steps (steps.Write known.number (answer_spelling answers.Crossed) None ∷ steps.Left known.number ∷ steps.Write up.number (frame_spelling frames.Probe) None ∷ [])) (record Base { sockets = slice_set xs i Read })).1
      ≡ record Base { sockets = slice_set xs1 j Probed }
  told = ap (λ (w : World). (all_told P At (told_steps (steps.Left known.number ∷ steps.Write up.number (frame_spelling frames.Probe) None ∷ [])) w).1)
      (writes_there Base i s Read T P known.number At acts.apart reads.has.at (read.read_alike scene x cell T i s known The acts reads) reads.has.end (answer_spelling answers.Crossed) None)
      ∙ ap (λ (w : World). (stepped P At (steps.Write up.number (frame_spelling frames.Probe) None) w).1)
      (leaves_there Base i s Wrote T P known.number At acts.apart reads.has.at (read.wrote_alike scene x cell T i s known The acts reads (items.Answer answers.Crossed) None) reads.has.end)
      ∙ ap (λ (z : List WorldSocket). (stepped P At (steps.Write up.number (frame_spelling frames.Probe) None) (record Base { sockets = z })).1) (sym (set_same xs1 j standing up_at))
      ∙ writes_there (record Base { sockets = xs1 }) j standing standing e P up.number At apart1 up_at (alike_self standing) has.end (frame_spelling frames.Probe) None

  -- ---- what is seen, change by change

  abbrev H1 : ℕ → HostState
  H1 = at_place P Crossed H

  kept1 : Kept known.number Number Peer Own Crossed State
  kept1 = requests.kept_crossed scene x cell i s known acts reads matches State

  found1 : find (is_socket known.number) Crossed.sockets ≡ Some Gone
  found1 = socket_kept Gone Asking.sockets

  up_there : find (is_socket up.number) Crossed.sockets ≡ Some up
  up_there = other_socket Gone up.number differ Asking.sockets ∙ other_socket Used up.number differ (with_socket Now Own).sockets ∙ other_socket Now up.number differ Own.sockets ∙ up_kept

  abbrev Their_up : Reader
  Their_up = reader_at H (first_of (world.other e)) (end_of (world.other e) standing)

  module _ (way : TakesItem H expected.Answer s.o (items.Answer answers.Crossed)) (probe : TakesItem H (first_of (world.other e)) (end_of (world.other e) standing) (items.Frame frames.Probe)) where
    first_seen : seen scene.party H1 xs1 scene.quiet ≡ point x (Up j true) (put i (turned_down pair.Crossed Left_there) V)
    first_seen = stage scene.party x H Own Crossed xs scene.quiet i known.number T s Over State Gone acts.differ acts.apart reads.has.at reads.has.end reads.has.between over_alike refl kept1 found1
        ∙ ap (λ (z : Sock). point x (with_places (place_of P xs) State) (put i z V)) (requests.over_is scene x cell i s known acts reads matches answers.Crossed way)
        ∙ ap (λ (n : ℕ). point x (Up n true) (put i (turned_down pair.Crossed Left_there) V)) (place_found xs j standing e P up.number acts.apart has.at has.end)

    up_seen : sock_by scene.party e (up.expected, up.since) Their_up standing ≡ V.sock j
    up_seen = ap (λ (r : Reader). sock_by scene.party e r Their_up standing) (sym (own_reader H P up.number (first_of e) (end_of e standing) has.end ∙ ap (reader_of (first_of e)) up_kept))
        ∙ sym (by_end e scene.party H standing) ∙ sym (one.sock_is scene x cell e j up.number standing acts has)

    second_seen : seen scene.party (at_place P Crossed H1) (slice_set xs1 j Probed) scene.quiet ≡ point x (Up j true) (put j (says x pair.Probe (V.sock j)) (seen scene.party H1 xs1 scene.quiet))
    second_seen = stage scene.party x H1 Crossed Crossed xs1 scene.quiet j up.number e standing Probed (link_with Crossed Number Peer).state up acts.differ apart1 up_at has.end has.between probed_alike (host_here P Crossed H)
        (kept_all up.number Number Peer Crossed) up_there
        ∙ ap (λ (k : LinkState). point x (with_places (place_of P xs1) k) (put j (sock_by scene.party e (up.expected, up.since) (reader_at H1 (first_of (world.other e)) (end_of (world.other e) standing)) Probed) (seen scene.party H1 xs1 scene.quiet))) kept1.link
        ∙ ap (λ (n : ℕ). point x (Up n true) (put j (sock_by scene.party e (up.expected, up.since) (reader_at H1 (first_of (world.other e)) (end_of (world.other e) standing)) Probed) (seen scene.party H1 xs1 scene.quiet)))
        (place_found xs1 j standing e P up.number apart1 up_at has.end)
        ∙ ap (λ (r : Reader). point x (Up j true) (put j (sock_by scene.party e (up.expected, up.since) r Probed) (seen scene.party H1 xs1 scene.quiet)))
        (reader_stays scene.party x H Own Crossed xs scene.quiet i known.number T s Over State Gone acts.differ acts.apart reads.has.at reads.has.end reads.has.between over_alike refl kept1 found1
        (first_of (world.other e)) (end_of (world.other e) standing) (no_other_end xs i j s standing T (world.other e) P known.number acts.apart reads.has.at has.at reads.has.end apart_places))
        ∙ ap (λ (z : Sock). point x (Up j true) (put j z (seen scene.party H1 xs1 scene.quiet)))
        (wrote scene.party e x (up.expected, up.since) Their_up standing (items.Frame frames.Probe) None has.opener has.target probe ∙ ap (says x pair.Probe) up_seen)

    -- a request to a node that is up elsewhere
    pub request_up : is_shut Number Own ≡ false → L.state ≡ Up up.number false → IsSeen scene x cell (reads_front scene x known) (Read_t i ∷ [])
    request_up stands is = record {
      steps = steps.Read known.number ∷ steps.Write known.number (answer_spelling answers.Crossed) None ∷ steps.Left known.number ∷ steps.Write up.number (frame_spelling frames.Probe) None ∷ [];
      host = Crossed;
      does = requests.hears_request scene x cell i s known acts reads matches stands
          ∙ ap (host.after_steps (steps.Read known.number ∷ [])) (crosses_up L up.number known.number Asking is)
          ∙ ap (λ (z : HostState). Ok (steps.Read known.number ∷ steps.Write known.number (answer_spelling answers.Crossed) None ∷ steps.Left known.number ∷ steps.Write up.number (frame_spelling frames.Probe) None ∷ [], z))
          (requests.ends_used scene x cell i s known acts reads matches State);
      allowed = (tt, tt);
      seen = ap (λ (w : World). view (record scene { world = w }))
          (ap (λ (w : World). (all_told P At (told_steps (steps.Write known.number (answer_spelling answers.Crossed) None ∷ steps.Left known.number ∷ steps.Write up.number (frame_spelling frames.Probe) None ∷ [])) w).1)
          (one.read_told scene x cell T i known.number s acts reads.has Crossed) ∙ told)
          ∙ ap (λ (f : ℕ → HostState). seen scene.party f (slice_set xs1 j Probed) scene.quiet) (hosts_set W P cell At cell.1 acts.there ∙ sym (placed_twice P Crossed Crossed H))
          ∙ second_seen ∙ ap (λ (v : Pair). point x (Up j true) (put j (says x pair.Probe (V.sock j)) v)) first_seen
          ∙ point_point x (Up j true) (Up j true) (put j (says x pair.Probe (V.sock j)) (put i (turned_down pair.Crossed Left_there) V))
          ∙ sym (requests.asked_so scene x cell i s known acts reads matches false stands ∙ crossed_and_probed V x i j Left_there up_here apart_places);
    } where
      up_here : V.link x ≡ Up j false
      up_here = ap (with_places (place_of P xs)) is ∙ ap (λ (n : ℕ). Up n false) (place_found xs j standing e P up.number acts.apart has.at has.end)
