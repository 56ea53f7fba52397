-- A socket that comes, as a move of two nodes.
use Rattle.std.specs.Prelude.{◌≡◌, ◌≤◌, ◌==◌, ℕ, ◌+◌, ◌*◌, Bool, true, false, cond, ◌&&◌, ◌||◌, List, [], ◌∷◌, is_some, slice_get, slice_set, Option, Some, None}
use Rattle.std.specs.List.{list_any}
use Rattle.std.proofs.Common.{refl, ap, sym, ◌∙◌, subst, arith}
use Rattle.std.proofs.lemmas.Bool.{and_parts, eqb-true}
use Rattle.std.proofs.lemmas.Option.{slice_get_within}
use Rattle.ch_light.proofs.Lists.{set_here}
use Rattle.ch_model.specs.declared.entry.Entry.{Entry}
use Rattle.ch_model.specs.declared.line.Line.{Line}
use Rattle.ch_model.specs.declared.name.End.{End}
use Rattle.ch_model.specs.declared.name.End.TheVariants.{O, T}
use Rattle.ch_model.specs.declared.name.SockName.{SockName}
use Rattle.ch_model.specs.declared.step.SocketEvent.TheVariants as sockets
use Rattle.ch_model.specs.declared.step.Step.{Step}
use Rattle.ch_model.specs.Host.{accepted, host_on}
use Rattle.ch_model.specs.HostState.{HostState}
use Rattle.ch_model.specs.Same.{is_between}
use Rattle.ch_model.specs.Stages.{Stage, Pending}
use Rattle.ch_model.specs.WorldHappenings.{with_cell}
use Rattle.ch_model.specs.WorldLines.{can_come}
use Rattle.ch_model.specs.WorldSockets.{opened, same_number, with_end, is_end_of, end_at, find_end, is_socket_named}
use Rattle.ch_model.specs.WorldState.{Cell, WorldSocket, World}
use Rattle.ch_race.specs.Moves.{Come}
use Rattle.ch_race.specs.Pair.{Side, Lesser, Greater}
use Rattle.ch_laws_ends.proofs.Found.{none_found}
use Rattle.ch_laws_ends.proofs.Known.{TargetIs, pending_is}
use Rattle.ch_laws_race.specs.Arrivals.{Comes}
use Rattle.ch_laws_race.specs.Others.{IsOthers, KeepsPair, IsFree}
use Rattle.ch_laws_race.specs.Scene.{Party, Scene, host_in, hosts_of, host_of}
use Rattle.ch_laws_race.specs.View.{has_end}
use Rattle.ch_laws_race.proofs.Come.{comes_it}
use Rattle.ch_laws_race.proofs.Grown.{nobody_has}
use Rattle.ch_laws_race.proofs.OtherReads.{Stays, keeps_socket}
use Rattle.ch_laws_race.proofs.Sockets.{by_test, end_changed}
use Rattle.ch_laws_race.proofs.Views.{at_place, hosts_set}
use Rattle.ch_laws_race.proofs.InTurn.{placed_same}
use Rattle.ch_laws_calls.specs.Calls.{IsIn, IsCalled, done_at, come_in}
use Rattle.ch_laws_calls.specs.Scenes.{SceneFacts, IsOfSide, IsMoved, scene_of}
use Rattle.ch_laws_calls.specs.Sound.{Sound}
use Rattle.ch_laws_raced.proofs.RaceLinesBeside.{IsBeside, beside_set, stays_moved, keeps_own}
use Rattle.ch_laws_raced.proofs.RaceLinesEnds.{place_found, moved_from}

clash : {A : Type 0} → true ≡ false → A
clash h = absurd (no h) where
  no : true ≡ false → ⊥
  no h = cc

-- a number that a cell has nothing under is no end's
nobody : (c m : ℕ) (all : List WorldSocket) → find_end c m all ≡ None → list_any (has_end c m) all ≡ false
nobody c m [] h = refl
nobody c m (known ∷ rest) h = by_end (end_at c m known) h (nobody c m rest) where
  found : Option End → Option (SockName × End)
  found o = elim o [
    | Some e ↦ Some (known.name, e)
    | None ↦ find_end c m rest
  ]

  by_end : (o : Option End) → found o ≡ None → (find_end c m rest ≡ None → list_any (has_end c m) rest ≡ false) → (is_some o || list_any (has_end c m) rest) ≡ false
  by_end None h more = more h
  by_end (Some e) h more = absurd cc

-- a host that takes a socket keeps it
come_stays : (scene : Scene) (place n : ℕ) (from : List ℕ) (host : HostState) → IsFree scene place n → KeepsPair scene place host → Stays scene place (host_on host (sockets.Came n from))
unfolding host_on
come_stays scene place n from host free keeps = (tt, keeps_socket scene place (accepted n from) host free keeps)

module _ (journal : List Line) (log : List Entry) (world : World) (sound : Sound journal log world) (party : Side → Party) (facts : SceneFacts party world) (socket : WorldSocket) (place : ℕ) (cell : Cell × ℕ) (steps : List Step) (host : HostState)
    (is : IsIn socket world) (can : can_come socket ≡ true) (cell_is : socket.t.cell ≡ Some place) (called : IsCalled world place cell (sockets.Came (2 * cell.1 + 1) socket.from_host) steps host) where
  abbrev Now : World
  Now = come_in place cell socket world

  abbrev Next : ℕ
  Next = 2 * cell.1 + 1

  abbrev Came : WorldSocket
  Came = with_end T (record (opened socket.t) { number = Some Next }) socket

  there : (i : ℕ) × (slice_get world.sockets i ≡ Some socket)
  there = place_found (is_socket_named socket.name) world.sockets socket is

  target : TargetIs Pending socket.t.cell socket.t.number
  target = subst (λ (s : Stage). TargetIs s socket.t.cell socket.t.number) (pending_is socket.t.stage can) (sound.ends.sure.ends.sorted.1 socket.name socket is).t

  new_number : list_any (has_end place Next) world.sockets ≡ false
  new_number = nobody place Next world.sockets (none_found place Next world.sockets (sound.ends.sure.ends.agrees.accepted place cell called.at cell.1 (self cell.1))) where
    self : (k : ℕ) → k ≤ k
    self k = omega arith

  now_is : Now ≡ record (with_cell place (cell.0, cell.1 + 1) world) { sockets = slice_set world.sockets there.0 Came }
  now_is = end_changed (with_cell place (cell.0, cell.1 + 1) world) there.0 socket T (λ end. record (opened end) { number = Some Next }) facts.apart there.1

  at_now : slice_get Now.cells place ≡ Some (cell.0, cell.1 + 1)
  at_now = ap (λ (w : World). slice_get w.cells place) now_is ∙ set_here world.cells place (cell.0, cell.1 + 1) (slice_get_within world.cells place cell called.at)

  -- ---- of others

  hosts_now : hosts_of Now ≡ hosts_of world
  hosts_now = ap (λ (w : World). λ (p : ℕ). host_in (slice_get w.cells p)) now_is ∙ hosts_set world place cell cell.0 (cell.1 + 1) called.at
      ∙ ap (λ (h : HostState). at_place place h (hosts_of world)) (sym (ap host_in called.at)) ∙ placed_same place (hosts_of world)

  -- an end that is there isn't the new one
  ends_now : (c m : ℕ) → list_any (has_end c m) world.sockets ≡ true → end_at c m Came ≡ end_at c m socket
  ends_now c m known = ap (λ b. cond (is_end_of c m socket.o) (Some O) (cond b (Some T) None)) (ap (λ (k : Option ℕ). same_number k c && (Next == m)) cell_is ∙ not_new ∙ sym (off (same_number socket.t.cell c) target.1)) where
    not_new : ((place == c) && (Next == m)) ≡ false
    not_new = by_test ((place == c) && (Next == m))
        (λ q. let parts = and_parts (place == c) (Next == m) q in clash (sym known ∙ ap (λ (z : ℕ). list_any (has_end z m) world.sockets) (sym (eqb-true place c parts.0)) ∙ ap (λ (z : ℕ). list_any (has_end place z) world.sockets) (sym (eqb-true Next m parts.1)) ∙ new_number))
        (λ q. q)

    off : (b : Bool) → socket.t.number ≡ None → (b && same_number socket.t.number m) ≡ false
    off b none = ap (λ (k : Option ℕ). b && same_number k m) none ∙ never b where
      never : (b : Bool) → (b && false) ≡ false
      never true = refl
      never false = refl

  beside : IsOthers party socket.name → IsBeside party world Now
  beside off = beside_set party world Now there.0 socket Came hosts_now (ap (λ (w : World). w.sockets) now_is) there.1 refl off ends_now

  comes_others : IsOthers party socket.name → IsMoved party world (done_at place (cell.0, cell.1 + 1) steps host Now).1
  comes_others off = stays_moved party world Now facts (beside off) place (cell.0, cell.1 + 1) at_now (host_on cell.0.host (sockets.Came Next socket.from_host)) (steps, host) (come_stays (scene_of party Now) place Next socket.from_host cell.0.host free (keeps_own party Now place (cell.0, cell.1 + 1) at_now)) called.does where
    free : IsFree (scene_of party Now) place Next
    free j u got between e = nobody_has place Next world.sockets new_number j u ((beside off).same j u got between) e

  -- ---- between the two

  module _ (between : is_between (party Lesser).name (party Greater).name socket.name ≡ true) where
    side : IsOfSide party T socket
    side = facts.sides there.0 socket there.1 between T

    abbrev X : Side
    X = side.side

    here : place ≡ (party X).place
    here = one (sym cell_is ∙ side.cell) where
      one : Some place ≡ Some (party X).place → place ≡ (party X).place
      one h = cc

    at_side : slice_get world.cells (party X).place ≡ Some cell
    at_side = subst (λ (p : ℕ). slice_get world.cells p ≡ Some cell) here called.at

    the_comes : Comes (scene_of party world) X cell there.0 socket
    the_comes = record {
      acts = facts.acts X cell at_side;
      at = there.1;
      between = between;
      opener = side.opener;
      cell_is = side.cell;
      unnumbered = target.1;
      waiting = pending_is socket.t.stage can;
      new_number = subst (λ (p : ℕ). list_any (has_end p Next) world.sockets ≡ false) here new_number;
      known = facts.known;
    }

    comes_own : IsMoved party world (done_at place (cell.0, cell.1 + 1) steps host Now).1
    comes_own = subst (λ (p : ℕ). IsMoved party world (done_at p (cell.0, cell.1 + 1) steps host (come_in p cell socket world)).1) (sym here)
        (moved_from party world (come_in (party X).place cell socket world) X (cell.0, cell.1 + 1) (host_on (host_of (scene_of party world) X) (sockets.Came Next socket.from_host)) (Come there.0 ∷ []) (steps, host) (comes_it (scene_of party world) X cell there.0 socket the_comes)
        (ap (λ (h : HostState). host_on h (sockets.Came Next socket.from_host)) (ap host_in at_side) ∙ called.does))

  -- a socket that comes
  pub comes_moved : IsMoved party world (done_at place (cell.0, cell.1 + 1) steps host Now).1
  comes_moved = by_test (is_between (party Lesser).name (party Greater).name socket.name) comes_own comes_others
