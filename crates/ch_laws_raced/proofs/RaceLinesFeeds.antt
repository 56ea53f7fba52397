-- Bytes that are fed, as no move of two nodes.
use Rattle.std.specs.Prelude.{◌≡◌, ℕ, Bool, true, false, cond, List, [], ◌++◌, take, drop, find, slice_get, slice_set, Option, Some, None}
use Rattle.std.proofs.Common.{refl, ap, sym, ◌∙◌, subst}
use Rattle.std.proofs.lemmas.Bool.{and_parts}
use Rattle.ch_model.specs.declared.name.End.{End}
use Rattle.ch_model.specs.declared.step.SocketEvent.TheVariants as sockets
use Rattle.ch_model.specs.declared.step.Step.{Step}
use Rattle.ch_model.specs.Host.{host_on}
use Rattle.ch_model.specs.HostState.{Socket, HostState}
use Rattle.ch_model.specs.HostSteps.{Stepped, still, is_socket, with_socket}
use Rattle.ch_model.specs.Same.{is_between}
use Rattle.ch_model.specs.Stages.{Stage, Pending, Open, Ended, is_open}
use Rattle.ch_model.specs.WorldLines.{can_feed, is_at_work}
use Rattle.ch_model.specs.WorldSockets.{end_of, with_end, is_of_host, has_input, is_socket_named}
use Rattle.ch_model.specs.WorldState.{Cell, WorldSocket, World}
use Rattle.ch_race.specs.Pair.{Side, Lesser, Greater}
use Rattle.ch_laws_race.specs.Arrivals.{Feeds}
use Rattle.ch_laws_race.specs.Others.{IsOthers, KeepsPair, IsFree}
use Rattle.ch_laws_race.specs.Scene.{Party, Scene, host_in, host_of}
use Rattle.ch_laws_race.specs.Sound.{HasEnd}
use Rattle.ch_laws_race.proofs.Fed.{fed_it}
use Rattle.ch_laws_race.proofs.OtherReads.{Stays, keeps_socket, socket_numbered}
use Rattle.ch_laws_race.proofs.Sockets.{by_test, Alike, alike_self, alike_with, at_alike, end_changed}
use Rattle.ch_laws_calls.specs.Calls.{IsIn, IsHeldBy, IsCalled, done_at, fed_in}
use Rattle.ch_laws_calls.specs.Scenes.{SceneFacts, IsOfSide, IsMoved, scene_of}
use Rattle.ch_laws_raced.proofs.RaceLinesBeside.{IsBeside, beside_set, stays_moved, keeps_own}
use Rattle.ch_laws_raced.proofs.RaceLinesEnds.{place_found, held_is, moved_from, own_end, free_end}

pub open_is : (stage : Stage) → is_open stage ≡ true → stage ≡ Open
open_is Open h = refl
open_is Pending h = absurd cc
open_is Ended h = absurd cc

-- ---- at a socket of others

-- a host that is handed bytes keeps them
feed_stays : (scene : Scene) (place n : ℕ) (bytes : List ℕ) (host : HostState) → IsFree scene place n → KeepsPair scene place host → Stays scene place (host_on host (sockets.Fed n bytes))
unfolding host_on
feed_stays scene place n bytes host free keeps = by_socket (find (is_socket n) host.sockets) refl where
  kept : Socket → Socket
  kept known = record known { since = known.since ++ bytes }

  by_stage : (known : Socket) → known.number ≡ n → (b : Bool) → Stays scene place (cond b (still (with_socket (kept known) host)) (still host))
  by_stage known is true = (tt, keeps_socket scene place (kept known) host (subst (λ (m : ℕ). IsFree scene place m) (sym is) free) keeps)
  by_stage known is false = (tt, keeps)

  by_socket : (o : Option Socket) → find (is_socket n) host.sockets ≡ o → Stays scene place (elim o as (λ o. Stepped) [
    | None ↦ still host
    | Some socket ↦ cond (is_open socket.stage) (still (with_socket (kept socket) host)) (still host)
  ])
  by_socket None is = (tt, keeps)
  by_socket (Some known) is = by_stage known (socket_numbered n known host.sockets is) (is_open known.stage)

module _ (world : World) (party : Side → Party) (facts : SceneFacts party world) (socket : WorldSocket) (e : End) (count : ℕ) (bytes : List ℕ) (place n : ℕ) (cell : Cell × ℕ) (steps : List Step) (host : HostState)
    (is : IsIn socket world) (can : can_feed e socket ≡ true) (handed : take count (end_of e socket).unread ≡ bytes) (held : IsHeldBy place n (end_of e socket)) (called : IsCalled world place cell (sockets.Fed n bytes) steps host) where
  abbrev Now : World
  Now = fed_in e count socket world

  abbrev Left : WorldSocket
  Left = with_end e (record (end_of e socket) { unread = drop count (end_of e socket).unread }) socket

  there : (i : ℕ) × (slice_get world.sockets i ≡ Some socket)
  there = place_found (is_socket_named socket.name) world.sockets socket is

  standing : (end_of e socket).stage ≡ Open
  standing = open_is (end_of e socket).stage (and_parts (is_open (end_of e socket).stage) (is_of_host (end_of e socket)) (and_parts (is_at_work e socket) (has_input e socket) can).0).0

  now_is : Now ≡ record world { sockets = slice_set world.sockets there.0 Left }
  now_is = end_changed world there.0 socket e (λ end. record end { unread = drop count end.unread }) facts.apart there.1

  at_now : slice_get Now.cells place ≡ Some cell
  at_now = ap (λ (w : World). slice_get w.cells place) now_is ∙ called.at

  left_alike : Alike socket Left
  left_alike = alike_with e socket socket (record (end_of e socket) { unread = drop count (end_of e socket).unread }) (alike_self socket) refl refl

  -- ---- of others

  beside : IsOthers party socket.name → IsBeside party world Now
  beside off = beside_set party world Now there.0 socket Left (ap (λ (w : World). λ (p : ℕ). host_in (slice_get w.cells p)) now_is) (ap (λ (w : World). w.sockets) now_is) there.1 left_alike.name off
      (λ c m h. at_alike socket Left c m left_alike)

  feeds_others : IsOthers party socket.name → IsMoved party world (done_at place cell steps host Now).1
  feeds_others off = stays_moved party world Now facts (beside off) place cell at_now (host_on cell.0.host (sockets.Fed n bytes)) (steps, host)
      (feed_stays (scene_of party Now) place n bytes cell.0.host
      (λ j u got between f. free_end party world facts there.0 socket there.1 e place n (held_is place n (end_of e socket) held) off j u ((beside off).same j u got between) between f) (keeps_own party Now place cell at_now)) called.does

  -- ---- between the two

  module _ (between : is_between (party Lesser).name (party Greater).name socket.name ≡ true) where
    side : IsOfSide party e socket
    side = facts.sides there.0 socket there.1 between e

    abbrev X : Side
    X = side.side

    here : place ≡ (party X).place
    here = one (sym held.cell ∙ side.cell) where
      one : Some place ≡ Some (party X).place → place ≡ (party X).place
      one h = cc

    at_side : slice_get world.cells (party X).place ≡ Some cell
    at_side = subst (λ (p : ℕ). slice_get world.cells p ≡ Some cell) here called.at

    its_host : host_of (scene_of party world) X ≡ cell.0.host
    its_host = ap host_in at_side

    has : HasEnd (scene_of party world) X e there.0 n socket
    has = own_end party world facts there.0 socket there.1 e side n between held.number

    kept : (known : Socket) × (find (is_socket n) (host_of (scene_of party world) X).sockets ≡ Some known)
    kept = facts.kept X e there.0 n socket has

    abbrev Known : Socket
    Known = kept.0

    number : Known.number ≡ n
    number = socket_numbered n Known (host_of (scene_of party world) X).sockets kept.1

    the_feeds : Feeds (scene_of party world) X cell e there.0 socket Known
    the_feeds = record {
      acts = facts.acts X cell at_side;
      has = subst (λ (m : ℕ). HasEnd (scene_of party world) X e there.0 m socket) (sym number) has;
      kept = subst (λ (m : ℕ). find (is_socket m) (host_of (scene_of party world) X).sockets ≡ Some Known) (sym number) kept.1;
      stands = facts.stands X e there.0 n socket Known has kept.1 ∙ standing;
    }

    feeds_own : IsMoved party world (done_at place cell steps host Now).1
    feeds_own = subst (λ (p : ℕ). IsMoved party world (done_at p cell steps host Now).1) (sym here)
        (moved_from party world Now X cell (host_on (host_of (scene_of party world) X) (sockets.Fed Known.number (take count (end_of e socket).unread))) [] (steps, host) (fed_it (scene_of party world) X cell e there.0 count socket Known the_feeds)
        (ap (λ (h : HostState). host_on h (sockets.Fed Known.number (take count (end_of e socket).unread))) its_host ∙ ap (λ (m : ℕ). host_on cell.0.host (sockets.Fed m (take count (end_of e socket).unread))) number
        ∙ ap (λ (all : List ℕ). host_on cell.0.host (sockets.Fed n all)) handed ∙ called.does))

  -- bytes that are fed
  pub feeds_moved : IsMoved party world (done_at place cell steps host Now).1
  feeds_moved = by_test (is_between (party Lesser).name (party Greater).name socket.name) feeds_own feeds_others
