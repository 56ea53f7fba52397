-- What a cell hears, and what happens to sockets, leaves the users of the openers' ends called as they were.
use Rattle.std.proofs.Common.{◌≡◌, ℕ, ◌+◌, ◌*◌, Bool, true, false, cond, List, [], ◌∷◌, length, take, drop, Ok, Err, refl, sym, ap, ◌∙◌, subst}
use Rattle.std.specs.Prelude.{slice_get, slice_set, Option, Some, None, ◌==◌}
use Rattle.ch_base.specs.declared.address.Address.{Address}
use Rattle.ch_model.specs.declared.entry.Entry.{Entry}
use Rattle.ch_model.specs.declared.entry.Entry.TheVariants as entries
use Rattle.ch_model.specs.declared.entry.Verdict.TheVariants as verdicts
use Rattle.ch_model.specs.declared.local.LocalEntry.{LocalEntry}
use Rattle.ch_model.specs.declared.local.LocalEvent.{LocalEvent}
use Rattle.ch_model.specs.declared.local.LocalEvent.TheVariants as events
use Rattle.ch_model.specs.declared.name.End.{End}
use Rattle.ch_model.specs.declared.name.End.TheVariants.{O, T}
use Rattle.ch_model.specs.declared.name.SockName.{SockName}
use Rattle.ch_model.specs.declared.step.SocketEvent.{SocketEvent}
use Rattle.ch_model.specs.declared.step.SocketEvent.TheVariants as sockets
use Rattle.ch_model.specs.Cell.{Celled, cell_step}
use Rattle.ch_model.specs.HostSteps.{own_address}
use Rattle.ch_model.specs.Naming.{Names, address_as, named_as}
use Rattle.ch_model.specs.WorldHappenings.{Answered, after_entry, with_cell, cell_told, cell_hears, end_hears, mark_of, joins, refuses, comes_at, comes, hands, feeds, loses, times_out}
use Rattle.ch_model.specs.WorldLines.{node_hears, cuts, knocks, pokes, quits}
use Rattle.ch_model.specs.WorldSockets.{end_of, opened, ended, cut, arrives, with_end_of, cell_of}
use Rattle.ch_model.specs.WorldState.{Cell, WorldEnd, WorldSocket, World}
use Rattle.ch_model.specs.WorldSteps.{all_told}
use Rattle.ch_laws_log.specs.HostEnds.{steps_in}
use Rattle.ch_laws_log.proofs.Kept.{stranger_socket}
use Rattle.ch_laws_log.proofs.Stored.{number_is}
use Rattle.ch_laws_ends.proofs.Changes.{getting, cells_stay, told_cells}
use Rattle.ch_laws_ends.proofs.Places.{set_split}
use Rattle.ch_laws_bytes.proofs.Event.{set_at}
use Rattle.ch_laws_bytes.proofs.Told.{end_names, told_names}
use Rattle.ch_laws_pairs.specs.Askers.{Asker, asker_at, asker_after_all, AreFresh, IsAsking, Asks, ComesOddTo}
use Rattle.ch_laws_pairs.specs.Users.{asker_in, askers_of, AllNamed, all_moved}
use Rattle.ch_laws_pairs.proofs.AskingCells.{cell_asks}
use Rattle.ch_laws_pairs.proofs.Named.{all_as, stored_named, KeepsOpener, end_named, any_kept, target_odd, told_named, moved_is}

-- a host whose endpoints have these addresses, on whose free numbers nobody asks
pub record IsHome (own : ℕ → Address) (cell : Cell × ℕ) : Type 0 where
  pub asking : IsAsking cell.0.host
  pub own_is : (end : ℕ) → own_address cell.0.host end ≡ own end

-- each host is such, and the users of all openers' ends are called so
pub record Asked (own : ℕ → ℕ → Address) (world : World) : Type 0 where
  pub homes : (place : ℕ) (cell : Cell × ℕ) → slice_get world.cells place ≡ Some cell → IsHome (own place) cell
  pub named : AllNamed own world.names (askers_of world.cells) world.sockets

abbrev pub Led : (ℕ → ℕ → Address) → Answered → Type 0
Led own (Ok done) = Asked own done.1
Led own (Err stop) = Unit {0}

pub entry_led : (own : ℕ → ℕ → Address) (entry : Entry) (done : Answered) → Led own done → Led own (after_entry entry done)
entry_led own entry (Ok done) l = l
entry_led own entry (Err stop) l = tt

-- ---- a cell is set

askers_set : (cells : List (Cell × ℕ)) (place : ℕ) (was now : Cell × ℕ) → slice_get cells place ≡ Some was → (p n : ℕ) → askers_of (slice_set cells place now) p n ≡ cond (place == p) (asker_at now.0.host n) (askers_of cells p n)
askers_set cells place was now at p n = ap (λ (o : Option (Cell × ℕ)). asker_in o n) (set_at cells place was now p at) ∙ by_test (place == p) where
  by_test : (b : Bool) → asker_in (cond b (Some now) (slice_get cells p)) n ≡ cond b (asker_at now.0.host n) (askers_of cells p n)
  by_test true = refl
  by_test false = refl

askers_there : (cells : List (Cell × ℕ)) (place : ℕ) (cell : Cell × ℕ) → slice_get cells place ≡ Some cell → (n : ℕ) → askers_of cells place n ≡ asker_at cell.0.host n
askers_there cells place cell at n = ap (λ (o : Option (Cell × ℕ)). asker_in o n) at

pub told_asked : (own : ℕ → ℕ → Address) (world : World) (place : ℕ) (cell : Cell × ℕ) (after : Cell) (told : List LocalEntry) → slice_get world.cells place ≡ Some cell → Asks cell.0.host (steps_in told) after.host → Asked own world → Asked own (all_told place after told (with_cell place (after, cell.1) world)).1
told_asked own world place cell after told at asks a = record {
  homes = λ p c f. set_split world.cells place cell (after, cell.1) at (λ p c. IsHome (own p) c) here (λ p c e f. a.homes p c f) p c (sym (ap (λ (l : List (Cell × ℕ)). slice_get l p) cells_now) ∙ f);
  named = subst (λ (known : Names). AllNamed own known (askers_of final.cells) final.sockets) (sym (told_names place after told kept))
      (all_as own world.names (all_moved place (steps_in told) (askers_of world.cells)) (askers_of final.cells) final.sockets now
      (told_named own world.names (askers_of world.cells) place after told kept refl here.own_is (λ n. subst (λ (asker : Asker). AreFresh n (steps_in told) asker) (sym (askers_there world.cells place cell at n)) (asks.fresh n)) a.named));
} where
  kept : World
  kept = with_cell place (after, cell.1) world

  final : World
  final = (all_told place after told kept).1

  here : IsHome (own place) (after, cell.1)
  here = record { asking = asks.asking; own_is = λ end. asks.home end ∙ (a.homes place cell at).own_is end }

  cells_now : final.cells ≡ slice_set world.cells place (after, cell.1)
  cells_now = told_cells place after told kept

  now : (p n : ℕ) → askers_of final.cells p n ≡ all_moved place (steps_in told) (askers_of world.cells) p n
  now p n = ap (λ (l : List (Cell × ℕ)). askers_of l p n) cells_now ∙ askers_set world.cells place cell (after, cell.1) at p n ∙ sym (moved_is place (steps_in told) (askers_of world.cells) p n ∙ by_test (place == p) refl) where
    by_test : (b : Bool) → (place == p) ≡ b → cond b (asker_after_all n (steps_in told) (askers_of world.cells p n)) (askers_of world.cells p n) ≡ cond b (asker_at after.host n) (askers_of world.cells p n)
    by_test true e = ap (asker_after_all n (steps_in told)) (ap (λ (k : ℕ). askers_of world.cells k n) (sym (number_is place p e)) ∙ askers_there world.cells place cell at n) ∙ sym (asks.askers n)
    by_test false e = refl

-- ---- a cell hears something

pub hears_asked : (own : ℕ → ℕ → Address) (place : ℕ) (event : LocalEvent) (world : World) → ComesOddTo event → Asked own world → Led own (cell_hears place event world)
hears_asked own place event world of a = by_cell (slice_get world.cells place) refl where
  by_done : (cell : Cell × ℕ) → slice_get world.cells place ≡ Some cell → (done : Celled) → cell_step cell.0 event ≡ done → Led own (cell_told place cell world done)
  by_done cell at (Err stop) e = tt
  by_done cell at (Ok done) e = told_asked own world place cell done.1 done.0.1 at (cell_asks cell.0 done.1 event done.0.0 done.0.1 of (a.homes place cell at).asking e) a

  by_cell : (o : Option (Cell × ℕ)) → slice_get world.cells place ≡ o → Led own (elim o as (λ o. Answered) [
    | None ↦ Ok ((verdicts.Nothing, []), world)
    | Some cell ↦ cell_told place cell world (cell_step cell.0 event)
  ])
  by_cell None at = a
  by_cell (Some cell) at = by_done cell at (cell_step cell.0 event) refl

-- a socket's event other than that it comes
end_hears_asked : (own : ℕ → ℕ → Address) (end : WorldEnd) (event : ℕ → SocketEvent) (world : World) → ((n : ℕ) → ComesOddTo (events.Socket (event n))) → Asked own world → Led own (end_hears end event world)
end_hears_asked own end event world of a = by_end end.cell end.number where
  by_end : (c n : Option ℕ) → Led own (elim c as (λ o. Answered) [
    | None ↦ Ok ((verdicts.Nothing, []), world)
    | Some place ↦ elim n [
      | None ↦ Ok ((verdicts.Nothing, []), world)
      | Some number ↦ cell_hears place (events.Socket (event number)) world
    ]
  ])
  by_end None n = a
  by_end (Some place) None = a
  by_end (Some place) (Some number) = hears_asked own place (events.Socket (event number)) world (of number) a

pub node_asked : (own : ℕ → ℕ → Address) (name : List ℕ) (event : ℕ → LocalEvent) (world : World) → ((end : ℕ) → ComesOddTo (event end)) → Asked own world → Led own (node_hears name event world)
node_asked own name event world of a = by_cell (cell_of world (address_as world.names name)) where
  by_cell : (o : Option ℕ) → Led own (elim o as (λ o. Answered) [
    | None ↦ Ok ((verdicts.Nothing, []), world)
    | Some place ↦ cell_hears place (event (address_as world.names name).id) world
  ])
  by_cell None = a
  by_cell (Some place) = hears_asked own place (event (address_as world.names name).id) world (of (address_as world.names name).id) a

-- ---- an end is changed

pub changed_asked : (own : ℕ → ℕ → Address) (s : SockName) (e : End) (f : WorldEnd → WorldEnd) (world : World) → KeepsOpener e f → Asked own world → Asked own (with_end_of s e f world)
changed_asked own s e f world k a = record {
  homes = λ p c at. a.homes p c (ap (λ (l : List (Cell × ℕ)). slice_get l p) (sym (cells_stay s e f world)) ∙ at);
  named = subst (λ (known : Names). AllNamed own known (askers_of now.cells) now.sockets) (sym (end_names s e f world))
      (subst (λ (l : List (Cell × ℕ)). AllNamed own world.names (askers_of l) now.sockets) (sym (cells_stay s e f world)) (end_named own world.names (askers_of world.cells) s e f world k a.named));
} where
  now : World
  now = with_end_of s e f world

pub counted_asked : (own : ℕ → ℕ → Address) (place count : ℕ) (cell : Cell × ℕ) (world : World) → slice_get world.cells place ≡ Some cell → Asked own world → Asked own (with_cell place (cell.0, count) world)
counted_asked own place count cell world at a = record {
  homes = set_split world.cells place cell (cell.0, count) at (λ p c. IsHome (own p) c) (record { asking = (a.homes place cell at).asking; own_is = (a.homes place cell at).own_is }) (λ p c e f. a.homes p c f);
  named = all_as own world.names (askers_of world.cells) (askers_of (slice_set world.cells place (cell.0, count))) world.sockets (λ p n. askers_set world.cells place cell (cell.0, count) at p n ∙ by_test p n (place == p) refl) a.named;
} where
  by_test : (p n : ℕ) (b : Bool) → (place == p) ≡ b → cond b (asker_at cell.0.host n) (askers_of world.cells p n) ≡ askers_of world.cells p n
  by_test p n true e = sym (ap (λ (k : ℕ). askers_of world.cells k n) (sym (number_is place p e)) ∙ askers_there world.cells place cell at n)
  by_test p n false e = refl

-- ---- what happens

pub joins_asked : (own : ℕ → ℕ → Address) (socket : WorldSocket) (world : World) → Asked own world → Led own (joins socket world)
joins_asked own socket world a = entry_led own (entries.Joined socket.name) (end_hears socket.o (λ sock. sockets.Joined sock) (with_end_of socket.name O opened world))
    (end_hears_asked own socket.o (λ sock. sockets.Joined sock) (with_end_of socket.name O opened world) (λ n. tt) (changed_asked own socket.name O opened world (λ end. (refl, refl)) a))

pub refuses_asked : (own : ℕ → ℕ → Address) (socket : WorldSocket) (world : World) → Asked own world → Led own (refuses socket world)
refuses_asked own socket world a = entry_led own (entries.Refused socket.name) (end_hears socket.o (λ sock. sockets.Refused sock) world) (end_hears_asked own socket.o (λ sock. sockets.Refused sock) world (λ n. tt) a)

pub comes_asked : (own : ℕ → ℕ → Address) (socket : WorldSocket) (world : World) → Asked own world → Led own (comes socket world)
comes_asked own socket world a = by_place socket.t.cell where
  by_cell : (place : ℕ) (o : Option (Cell × ℕ)) → slice_get world.cells place ≡ o → Led own (elim o as (λ o. Answered) [
    | None ↦ Ok ((verdicts.Nothing, []), world)
    | Some cell ↦ cell_hears place (events.Came (mark_of socket.o) (2 * cell.1 + 1) socket.from_host)
        (with_end_of socket.name T (λ end. record (opened end) { number = Some (2 * cell.1 + 1) }) (with_cell place (cell.0, cell.1 + 1) world))
  ])
  by_cell place None at = a
  by_cell place (Some cell) at = hears_asked own place (events.Came (mark_of socket.o) (2 * cell.1 + 1) socket.from_host)
      (with_end_of socket.name T (λ end. record (opened end) { number = Some (2 * cell.1 + 1) }) (with_cell place (cell.0, cell.1 + 1) world)) (cell.1, refl)
      (changed_asked own socket.name T (λ end. record (opened end) { number = Some (2 * cell.1 + 1) }) (with_cell place (cell.0, cell.1 + 1) world) (λ end odd. (cell.1, refl)) (counted_asked own place (cell.1 + 1) cell world at a))

  by_place : (o : Option ℕ) → Led own (elim o as (λ o. Answered) [
    | None ↦ Ok ((verdicts.Nothing, []), world)
    | Some place ↦ after_entry (entries.Came socket.name) (comes_at place socket world)
  ])
  by_place None = a
  by_place (Some place) = entry_led own (entries.Came socket.name) (comes_at place socket world) (by_cell place (slice_get world.cells place) refl)

hands_asked : (own : ℕ → ℕ → Address) (bytes : List ℕ) (end : WorldEnd) (world : World) → Asked own world → Led own (hands bytes end world)
hands_asked own [] end world a = end_hears_asked own end (λ sock. sockets.Ended sock) world (λ n. tt) a
hands_asked own (b ∷ bytes) end world a = end_hears_asked own end (λ sock. sockets.Fed sock (b ∷ bytes)) world (λ n. tt) a

pub feeds_asked : (own : ℕ → ℕ → Address) (which : End) (count : ℕ) (socket : WorldSocket) (world : World) → Asked own world → Led own (feeds which count socket world)
feeds_asked own which count socket world a = entry_led own (entries.Fed socket.name which (length (take count (end_of which socket).unread))) (hands (take count (end_of which socket).unread) (end_of which socket) (with_end_of socket.name which (λ end. record end { unread = drop count end.unread }) world))
    (hands_asked own (take count (end_of which socket).unread) (end_of which socket) (with_end_of socket.name which (λ end. record end { unread = drop count end.unread }) world)
    (changed_asked own socket.name which (λ end. record end { unread = drop count end.unread }) world (any_kept which (λ end. record end { unread = drop count end.unread }) (λ end. (refl, refl))) a))

pub loses_asked : (own : ℕ → ℕ → Address) (which : End) (socket : WorldSocket) (world : World) → Asked own world → Led own (loses which socket world)
loses_asked own which socket world a = entry_led own (entries.Lost socket.name which) (end_hears (end_of which socket) (λ sock. sockets.Lost sock) world) (end_hears_asked own (end_of which socket) (λ sock. sockets.Lost sock) world (λ n. tt) a)

pub times_asked : (own : ℕ → ℕ → Address) (node peer : List ℕ) (world : World) → Asked own world → Led own (times_out node peer world)
times_asked own node peer world a = by_cell (cell_of world (named_as world.names node).address) where
  late : LocalEvent
  late = events.Socket (sockets.Late (named_as world.names node).address.id (named_as world.names peer).address)

  by_cell : (o : Option ℕ) → Led own (elim o as (λ o. Answered) [
    | None ↦ Ok ((verdicts.Nothing, []), world)
    | Some place ↦ after_entry (entries.Timed node peer) (cell_hears place late world)
  ])
  by_cell None = a
  by_cell (Some place) = entry_led own (entries.Timed node peer) (cell_hears place late world) (hears_asked own place late world tt a)

pub cuts_asked : (own : ℕ → ℕ → Address) (which : End) (socket : WorldSocket) (world : World) → Asked own world → Led own (cuts which socket world)
cuts_asked own which socket world a = changed_asked own socket.name which cut world (any_kept which cut (λ end. (refl, refl))) a

pub quits_asked : (own : ℕ → ℕ → Address) (socket : WorldSocket) (world : World) → Asked own world → Led own (quits socket world)
quits_asked own socket world a = changed_asked own socket.name O ended world (λ end. (refl, refl)) a

pub pokes_asked : (own : ℕ → ℕ → Address) (bytes : List ℕ) (socket : WorldSocket) (world : World) → Asked own world → Led own (pokes bytes socket world)
pokes_asked own bytes socket world a = changed_asked own socket.name T (arrives bytes) world (any_kept T (arrives bytes) (getting bytes).place) a

pub knocks_asked : (own : ℕ → ℕ → Address) (stranger node : List ℕ) (world : World) → Asked own world → Led own (knocks stranger node world)
knocks_asked own stranger node world a = record { homes = a.homes; named = stored_named own world.names (askers_of world.cells) (stranger_socket stranger node world) world.sockets (tt, target_odd (cell_of world (address_as world.names node))) a.named }
