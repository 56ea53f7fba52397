-- In every world that lines make the host of each cell is naming.
use Rattle.std.proofs.Common.{◌≡◌, ◌≤◌, ℕ, zero, suc, ◌+◌, ◌*◌, Bool, true, false, cond, List, [], ◌∷◌, ◌++◌, map, drop, Ok, Err, inl, inr, refl, sym, ap, ◌∙◌, subst, arith}
use Rattle.std.proofs.lemmas.Bool.Decides.{nat_tests}
use Rattle.std.proofs.lemmas.List.{append-nil}
use Rattle.std.proofs.Common.{append_assoc}
use Rattle.std.specs.List.{list_any}
use Rattle.std.specs.Prelude.{◌⊎◌, ◌==◌, find, slice_get, slice_set, Option, Some, None}
use Rattle.ch_base.specs.declared.address.Address.{Address}
use Rattle.ch_model.specs.declared.entry.Entry.{Entry}
use Rattle.ch_model.specs.declared.entry.Entry.TheVariants as entries
use Rattle.ch_model.specs.declared.entry.Verdict.{Verdict}
use Rattle.ch_model.specs.declared.entry.Verdict.TheVariants as verdicts
use Rattle.ch_model.specs.declared.line.Line.{Line}
use Rattle.ch_model.specs.declared.local.LocalEntry.{LocalEntry}
use Rattle.ch_model.specs.declared.local.LocalEntry.TheVariants as local
use Rattle.ch_model.specs.declared.local.LocalEvent.{LocalEvent}
use Rattle.ch_model.specs.declared.local.LocalEvent.TheVariants as events
use Rattle.ch_model.specs.declared.name.End.{End}
use Rattle.ch_model.specs.declared.name.End.TheVariants.{O, T}
use Rattle.ch_model.specs.declared.name.SockName.{SockName}
use Rattle.ch_model.specs.declared.step.SocketEvent.{SocketEvent}
use Rattle.ch_model.specs.declared.step.SocketEvent.TheVariants as sockets
use Rattle.ch_model.specs.declared.step.Step.{Step}
use Rattle.ch_model.specs.declared.step.Step.TheVariants as steps
use Rattle.ch_model.specs.Cell.{Celled, cell_step, opened_for}
use Rattle.ch_model.specs.Host.{accepted}
use Rattle.ch_model.specs.HostCalls.{host_open}
use Rattle.ch_model.specs.HostState.{Socket, HostState}
use Rattle.ch_model.specs.HostSteps.{is_endpoint, is_socket, with_socket}
use Rattle.ch_model.specs.NodeState.{NodeState}
use Rattle.ch_model.specs.Settle.{Happened}
use Rattle.ch_model.specs.Stages.{Open, is_pending}
use Rattle.ch_model.specs.World.{world_new, cell_at, first_of_hosts, nodes_of, log_from}
use Rattle.ch_model.specs.WorldHappenings.{Answered, after_entry, cell_told, cell_hears, end_hears, with_cell, joins, comes_at, comes, mark_of}
use Rattle.ch_model.specs.WorldSockets as worlds
use Rattle.ch_model.specs.WorldSockets.{end_of, with_end, other, ended, cut, opened, arrives, item_arrives, is_socket_named, with_end_of, find_end}
use Rattle.ch_model.specs.WorldState.{Cell, WorldEnd, WorldSocket, World}
use Rattle.ch_model.specs.WorldSteps.{on_end, later_places, item_is_read, reads_item, end_closes, stepped, local_told, all_told}
use Rattle.ch_laws_log.specs.HostEnds.{opens_no_end, opens_nothing}
use Rattle.ch_laws_log.proofs.Agreeing.{Good, AnyCount, keeps_good}
use Rattle.ch_laws_log.proofs.HostTold.{find_stored, number_found}
use Rattle.ch_laws_log.proofs.Kept.{Keeps, IsIn, Led, LedOn, one_told}
use Rattle.ch_laws_log.proofs.Told.{fresh}
use Rattle.ch_laws_links.specs.Naming.{IsNaming}
use Rattle.ch_laws_links.specs.Standing.{ComesFree}
use Rattle.ch_laws_links.specs.Cells.{ComesFreeTo, IsNamingCell}
use Rattle.ch_laws_links.proofs.Ends.{still_free, stored_changed}
use Rattle.ch_laws_links.proofs.Hosts.{fresh_naming, open_naming}
use Rattle.ch_laws_links.proofs.Cells.{IsFreeAt, IsFreeLocal, cell_naming}
use Rattle.ch_laws_links.proofs.Happenings.{Holds, all_led}

-- ---- cells by place

abbrev pub AllNaming : List (Cell × ℕ) → Type 0
AllNaming cells = (place : ℕ) (cell : Cell × ℕ) → slice_get cells place ≡ Some cell → IsNamingCell cell

pub set_get : {X : Type 0} (xs : List X) (k : ℕ) (y : X) (j : ℕ) (x : X) → slice_get (slice_set xs k y) j ≡ Some x → (y ≡ x) ⊎ (slice_get xs j ≡ Some x)
set_get [] k y j x e = inr e
set_get (first ∷ rest) zero y zero x e = inl cc
set_get (first ∷ rest) zero y (suc j) x e = inr e
set_get (first ∷ rest) (suc k) y zero x e = inr e
set_get (first ∷ rest) (suc k) y (suc j) x e = set_get rest k y j x e

pub set_naming : (cells : List (Cell × ℕ)) (place : ℕ) (next : Cell × ℕ) → AllNaming cells → IsNamingCell next → AllNaming (slice_set cells place next)
set_naming cells place next all one at cell e = by_place (set_get cells place next at cell e) where
  by_place : (next ≡ cell) ⊎ (slice_get cells at ≡ Some cell) → IsNamingCell cell
  by_place (inl same) = subst IsNamingCell same one
  by_place (inr there) = all at cell there

-- ---- what follows at a cell leaves the cells

pub end_cells : (n : SockName) (e : End) (f : WorldEnd → WorldEnd) (world : World) → (with_end_of n e f world).cells ≡ world.cells
end_cells n e f world = by_socket (find (is_socket_named n) world.sockets) where
  by_socket : (o : Option WorldSocket) → (elim o as (λ o. World) [
    | None ↦ world
    | Some socket ↦ worlds.with_socket (with_end e (f (end_of e socket)) socket) world
  ]).cells ≡ world.cells
  by_socket None = refl
  by_socket (Some socket) = refl

on_end_cells : (place sock : ℕ) (f : SockName × End → World → List Entry × World) (world : World) → ((at : SockName × End) → (f at world).1.cells ≡ world.cells) → (on_end place sock f world).1.cells ≡ world.cells
on_end_cells place sock f world each = by_end (find_end place sock world.sockets) where
  by_end : (o : Option (SockName × End)) → (elim o as (λ o. List Entry × World) [
    | None ↦ ([], world)
    | Some at ↦ f at world
  ]).1.cells ≡ world.cells
  by_end None = refl
  by_end (Some at) = each at

read_cells : (at : SockName × End) (world : World) → (reads_item at world).1.cells ≡ world.cells
read_cells at world = by_socket (find (is_socket_named at.0) world.sockets) where
  by_socket : (o : Option WorldSocket) → (item_is_read at o world).cells ≡ world.cells
  by_socket None = refl
  by_socket (Some socket) = end_cells at.0 at.1 (λ end. record end { places = later_places end.places }) world

step_cells : (place : ℕ) (cell : Cell) (step : Step) (world : World) → (stepped place cell step world).1.cells ≡ world.cells
step_cells place cell (steps.Dial sock end peer) world = refl
step_cells place cell (steps.Read sock) world = on_end_cells place sock reads_item world (λ at. read_cells at world)
step_cells place cell (steps.Write sock bytes said) world = on_end_cells place sock (λ at now. (entries.Wrote at.0 at.1 bytes ∷ [], with_end_of at.0 (other at.1) (item_arrives bytes said) now)) world (λ at. end_cells at.0 (other at.1) (item_arrives bytes said) world)
step_cells place cell (steps.Up sock) world = on_end_cells place sock (λ at now. (entries.Up at.0 at.1 ∷ [], now)) world (λ at. refl)
step_cells place cell (steps.Down sock) world = on_end_cells place sock (λ at now. (entries.Down at.0 at.1 ∷ [], end_closes at now)) world (λ at. end_cells at.0 at.1 ended world)
step_cells place cell (steps.Left sock) world = on_end_cells place sock (λ at now. (entries.Left at.0 at.1 ∷ [], end_closes at now)) world (λ at. end_cells at.0 at.1 ended world)
step_cells place cell (steps.Broke end peer why) world = refl
step_cells place cell (steps.Post end event) world = refl

pub told_cells : (place : ℕ) (cell : Cell) (told : List LocalEntry) (world : World) → (all_told place cell told world).1.cells ≡ world.cells
told_cells place cell [] world = refl
told_cells place cell (local.Step step ∷ rest) world = told_cells place cell rest (stepped place cell step world).1 ∙ step_cells place cell step world
told_cells place cell (local.Note note ∷ rest) world = told_cells place cell rest (local_told place cell (local.Note note) world).1

-- ---- what a cell makes of an event

-- the numbers that are free stay so once an event's end is open, where none is
own_free : (event : LocalEvent) (host : HostState) (k : ℕ) → opens_no_end event ≡ true → IsFreeAt host k → IsFreeLocal event host k
own_free (events.Make end) host k o f = f
own_free (events.Command end by command) host k o f = f
own_free (events.Shut end) host k o f = f
own_free (events.Came mark sock peer_host) host k o f = absurd cc
own_free (events.Socket event) host k o f = by_event event o where
  by_event : (event : SocketEvent) → opens_nothing event ≡ true → IsFreeLocal (events.Socket event) host k
  by_event (sockets.Joined sock) o = absurd cc
  by_event (sockets.Came sock peer_host) o = absurd cc
  by_event (sockets.Refused sock) o = f
  by_event (sockets.Fed sock bytes) o = f
  by_event (sockets.Ended sock) o = f
  by_event (sockets.Lost sock) o = f
  by_event (sockets.Late end peer) o = f

own_comes : (event : LocalEvent) (host : HostState) → opens_no_end event ≡ true → ComesFreeTo host event
own_comes (events.Make end) host o = tt
own_comes (events.Command end by command) host o = tt
own_comes (events.Shut end) host o = tt
own_comes (events.Came mark sock peer_host) host o = absurd cc
own_comes (events.Socket event) host o = by_event event o where
  by_event : (event : SocketEvent) → opens_nothing event ≡ true → ComesFree host event
  by_event (sockets.Joined sock) o = absurd cc
  by_event (sockets.Came sock peer_host) o = absurd cc
  by_event (sockets.Refused sock) o = tt
  by_event (sockets.Fed sock bytes) o = tt
  by_event (sockets.Ended sock) o = tt
  by_event (sockets.Lost sock) o = tt
  by_event (sockets.Late end peer) o = tt

-- nor does a number become free or taken where an end is joined
joined_free : (sock : ℕ) (host : HostState) (k : ℕ) → IsFreeAt host k → IsFreeLocal (events.Socket (sockets.Joined sock)) host k
joined_free sock host k free = by_socket (find (is_socket sock) host.sockets) refl where
  by_pending : (socket : Socket) → find (is_socket socket.number) host.sockets ≡ Some socket → (b : Bool) → IsFreeAt (cond b (with_socket (record socket { stage = Open }) host) host) k
  by_pending socket found true = still_free socket.number (2 * k + 1) socket (record socket { stage = Open }) host (with_socket (record socket { stage = Open }) host) (stored_changed (record socket { stage = Open }) host) found free
  by_pending socket found false = free

  by_socket : (o : Option Socket) → find (is_socket sock) host.sockets ≡ o → IsFreeAt (elim o as (λ x. HostState) [
    | None ↦ host
    | Some socket ↦ cond (is_pending socket.stage) (with_socket (record socket { stage = Open }) host) host
  ]) k
  by_socket None found = free
  by_socket (Some socket) found = by_pending socket (subst (λ (n : ℕ). find (is_socket n) host.sockets ≡ Some socket) (sym (number_found sock host.sockets socket found)) found) (is_pending socket.stage)

-- the number of an end that came is free no more, and those after it are
came_free : (count : ℕ) (peer_host : List ℕ) (host : HostState) (k : ℕ) → count + 1 ≤ k → IsFreeAt host k → IsFreeLocal (events.Socket (sockets.Came (2 * count + 1) peer_host)) host k
came_free count peer_host host k l free = find_stored (accepted (2 * count + 1) peer_host) host.sockets (2 * k + 1) ∙ ap (λ b. cond b (Some (accepted (2 * count + 1) peer_host)) (find (is_socket (2 * k + 1)) host.sockets)) (apart count k l) ∙ free where
  apart : (c k : ℕ) → c + 1 ≤ k → (2 * c + 1 == 2 * k + 1) ≡ false
  apart c k l = grind (arith, nat_tests)

-- the event may come, and the numbers of the next sockets are free once its end is open
pub record MayHear (cell : Cell × ℕ) (event : LocalEvent) : Type 0 where
  pub comes : ComesFreeTo cell.0.host event
  pub free : (k : ℕ) → cell.1 ≤ k → IsFreeLocal event cell.0.host k

pub own_may : (cell : Cell × ℕ) (event : LocalEvent) → opens_no_end event ≡ true → IsNamingCell cell → MayHear cell event
own_may cell event o s = record { comes = own_comes event cell.0.host o; free = λ k l. own_free event cell.0.host k o (s.free k l) }

pub joined_may : (cell : Cell × ℕ) (sock : ℕ) → IsNamingCell cell → MayHear cell (events.Socket (sockets.Joined sock))
joined_may cell sock s = record { comes = tt; free = λ k l. joined_free sock cell.0.host k (s.free k l) }

pub came_may : (cell : Cell × ℕ) (mark : ℕ) (peer_host : List ℕ) → IsNamingCell cell → MayHear (cell.0, cell.1 + 1) (events.Came mark (2 * cell.1 + 1) peer_host)
came_may cell mark peer_host s = record { comes = (cell.1, refl, s.free cell.1 (same_as cell.1)); free = λ k l. came_free cell.1 peer_host cell.0.host k l (s.free k (below cell.1 k l)) } where
  same_as : (n : ℕ) → n ≤ n
  same_as n = omega arith

  below : (c k : ℕ) → c + 1 ≤ k → c ≤ k
  below c k l = omega arith

pub naming_after : (cell : Cell × ℕ) (event : LocalEvent) (verdict : Verdict) (told : List LocalEntry) (after : Cell) → MayHear cell event → IsNaming cell.0.host → cell_step cell.0 event ≡ Ok ((verdict, told), after) → IsNamingCell (after, cell.1)
naming_after cell event verdict told after m s e = let g = cell_naming cell.0 after event verdict told m.comes s e in record { naming = g.naming; free = λ k l. g.odd k (m.free k l) }

-- ---- worlds

-- a world whose cells are naming
abbrev pub Named : List Line → List Entry → World → Type 0
Named journal log world = Good journal log world × AllNaming world.cells

rested : (journal : List Line) (log : List Entry) (world : World) → Named journal log world → Named journal (log ++ []) world
rested journal log world n = subst (λ (l : List Entry). Named journal l world) (sym (append-nil log)) n

good_told : (journal : List Line) (log : List Entry) (place : ℕ) (cell : Cell) (all : List LocalEntry) (world : World) → Good journal log world → Good journal (log ++ (all_told place cell all world).0) (all_told place cell all world).1
good_told journal log place cell [] world g = subst (λ (l : List Entry). Good journal l world) (sym (append-nil log)) g
good_told journal log place cell (entry ∷ rest) world g = subst (λ (l : List Entry). Good journal l (all_told place cell rest (local_told place cell entry world).1).1) (append_assoc log (local_told place cell entry world).0 (all_told place cell rest (local_told place cell entry world).1).0)
    (good_told journal (log ++ (local_told place cell entry world).0) place cell rest (local_told place cell entry world).1 (one_told (Good journal) (keeps_good journal) log place cell entry world g))

hears_named : (journal : List Line) (log : List Entry) (world : World) (place : ℕ) (cell : Cell × ℕ) (event : LocalEvent) (verdict : Verdict) (told : List LocalEntry) (after : Cell) → Named journal log world → slice_get world.cells place ≡ Some cell → MayHear cell event → cell_step cell.0 event ≡ Ok ((verdict, told), after)
    → Named journal (log ++ (all_told place after told (with_cell place (after, cell.1) world)).0) (all_told place after told (with_cell place (after, cell.1) world)).1
hears_named journal log world place cell event verdict told after n at m e = (
  good_told journal log place after told (with_cell place (after, cell.1) world) ((keeps_good journal).cell log world place (after, cell.1) n.0),
  subst AllNaming (sym (told_cells place after told (with_cell place (after, cell.1) world))) (set_naming world.cells place (after, cell.1) n.1 (naming_after cell event verdict told after m (n.1 place cell at).naming e)),
)

cell_named : (journal : List Line) (log : List Entry) (place : ℕ) (event : LocalEvent) (world : World) → Named journal log world → ((cell : Cell × ℕ) → slice_get world.cells place ≡ Some cell → MayHear cell event) → Led (Named journal) log (cell_hears place event world)
cell_named journal log place event world n may = by_cell (slice_get world.cells place) refl where
  by_done : (cell : Cell × ℕ) → slice_get world.cells place ≡ Some cell → (done : Celled) → cell_step cell.0 event ≡ done → Led (Named journal) log (cell_told place cell world done)
  by_done cell at (Err stop) e = tt
  by_done cell at (Ok done) e = hears_named journal log world place cell event done.0.0 done.0.1 done.1 n at (may cell at) e

  by_cell : (o : Option (Cell × ℕ)) → slice_get world.cells place ≡ o → Led (Named journal) log (elim o as (λ o. Answered) [
    | None ↦ Ok ((verdicts.Nothing, []), world)
    | Some cell ↦ cell_told place cell world (cell_step cell.0 event)
  ])
  by_cell None at = rested journal log world n
  by_cell (Some cell) at = by_done cell at (cell_step cell.0 event) refl

-- a happening with an entry of its own first
entry_first : (journal : List Line) (log : List Entry) (entry : Entry) (done : Answered) → Led (Named journal) (log ++ entry ∷ []) done → Led (Named journal) log (after_entry entry done)
entry_first journal log entry (Ok done) l = subst (λ (all : List Entry). Named journal all done.1) (append_assoc log (entry ∷ []) done.0.1) l
entry_first journal log entry (Err stop) l = tt

joins_named : (journal : List Line) (log : List Entry) (world : World) (socket : WorldSocket) → IsIn socket world → is_pending socket.o.stage ≡ true → Named journal log world → Led (Named journal) log (joins socket world)
joins_named journal log world socket is pending n = entry_first journal log (entries.Joined socket.name) (end_hears socket.o (λ sock. sockets.Joined sock) open_world) (by_cell socket.o.cell socket.o.number) where
  open_world : World
  open_world = with_end_of socket.name O opened world

  now : List Entry
  now = log ++ entries.Joined socket.name ∷ []

  named : Named journal now open_world
  named = ((keeps_good journal).joined log world socket is pending n.0, subst AllNaming (sym (end_cells socket.name O opened world)) n.1)

  by_cell : (o n : Option ℕ) → Led (Named journal) now (elim o as (λ o. Answered) [
    | None ↦ Ok ((verdicts.Nothing, []), open_world)
    | Some place ↦ elim n [
      | None ↦ Ok ((verdicts.Nothing, []), open_world)
      | Some number ↦ cell_hears place (events.Socket (sockets.Joined number)) open_world
    ]
  ])
  by_cell None n = rested journal now open_world named
  by_cell (Some place) None = rested journal now open_world named
  by_cell (Some place) (Some number) = cell_named journal now place (events.Socket (sockets.Joined number)) open_world named (λ cell at. joined_may cell number (named.1 place cell at))

pub set_here : {X : Type 0} (xs : List X) (k : ℕ) (x y z : X) → slice_get xs k ≡ Some x → slice_get (slice_set xs k y) k ≡ Some z → z ≡ y
set_here [] k x y z a e = absurd cc
set_here (first ∷ rest) zero x y z a e = cc
set_here (first ∷ rest) (suc k) x y z a e = set_here rest k x y z a e

comes_named : (journal : List Line) (log : List Entry) (world : World) (socket : WorldSocket) → IsIn socket world → is_pending socket.t.stage ≡ true → Named journal log world → Led (Named journal) log (comes socket world)
comes_named journal log world socket is pending n = by_place socket.t.cell refl where
  now : List Entry
  now = log ++ entries.Came socket.name ∷ []

  came_there : ℕ → Cell × ℕ → World
  came_there place cell = with_end_of socket.name T (λ end. record (opened end) { number = Some (2 * cell.1 + 1) }) (with_cell place (cell.0, cell.1 + 1) world)

  came_cells : (place : ℕ) (cell : Cell × ℕ) → (came_there place cell).cells ≡ slice_set world.cells place (cell.0, cell.1 + 1)
  came_cells place cell = end_cells socket.name T (λ end. record (opened end) { number = Some (2 * cell.1 + 1) }) (with_cell place (cell.0, cell.1 + 1) world)

  counted : (cell : Cell × ℕ) → IsNamingCell cell → IsNamingCell (cell.0, cell.1 + 1)
  counted cell s = record { naming = s.naming; free = λ k l. s.free k (below cell.1 k l) } where
    below : (c k : ℕ) → c + 1 ≤ k → c ≤ k
    below c k l = omega arith

  named : (place : ℕ) (cell : Cell × ℕ) → slice_get world.cells place ≡ Some cell → Named journal now (came_there place cell)
  named place cell at = (
    (keeps_good journal).came log (with_cell place (cell.0, cell.1 + 1) world) socket (2 * cell.1 + 1) is pending ((keeps_good journal).cell log world place (cell.0, cell.1 + 1) n.0),
    subst AllNaming (sym (came_cells place cell)) (set_naming world.cells place (cell.0, cell.1 + 1) n.1 (counted cell (n.1 place cell at))),
  )

  may : (place : ℕ) (cell : Cell × ℕ) → slice_get world.cells place ≡ Some cell → (next : Cell × ℕ) → slice_get (came_there place cell).cells place ≡ Some next → MayHear next (events.Came (mark_of socket.o) (2 * cell.1 + 1) socket.from_host)
  may place cell at next e = let is_next : next ≡ (cell.0, cell.1 + 1) = set_here world.cells place cell (cell.0, cell.1 + 1) next at (sym (ap (λ cells. slice_get cells place) (came_cells place cell)) ∙ e) in
      subst (λ (c : Cell × ℕ). MayHear c (events.Came (mark_of socket.o) (2 * cell.1 + 1) socket.from_host)) (sym is_next) (came_may cell (mark_of socket.o) socket.from_host (n.1 place cell at))

  by_cell : (place : ℕ) → socket.t.cell ≡ Some place → (o : Option (Cell × ℕ)) → slice_get world.cells place ≡ o → Led (Named journal) now (elim o as (λ o. Answered) [
    | None ↦ Ok ((verdicts.Nothing, []), world)
    | Some cell ↦ cell_hears place (events.Came (mark_of socket.o) (2 * cell.1 + 1) socket.from_host) (came_there place cell)
  ])
  by_cell place to None at = rested journal now world ((keeps_good journal).came_nowhere log world socket place is to at n.0, n.1)
  by_cell place to (Some cell) at = cell_named journal now place (events.Came (mark_of socket.o) (2 * cell.1 + 1) socket.from_host) (came_there place cell) (named place cell at) (may place cell at)

  by_place : (o : Option ℕ) → socket.t.cell ≡ o → Led (Named journal) log (elim o as (λ o. Answered) [
    | None ↦ Ok ((verdicts.Nothing, []), world)
    | Some place ↦ after_entry (entries.Came socket.name) (comes_at place socket world)
  ])
  by_place None to = rested journal log world n
  by_place (Some place) to = entry_first journal log (entries.Came socket.name) (comes_at place socket world) (by_cell place to (slice_get world.cells place) refl)

pub holds_named : (journal : List Line) → Holds (Named journal)
holds_named journal = record {
  distinct = λ log world n. n.0.apart;
  mark = λ log world number answer n. (k.mark log world number answer n.0, n.1);
  settled = λ log world n. (k.settled log world n.0, n.1);
  hears = λ log world place cell event verdict told after n at o e. hears_named journal log world place cell event verdict told after n at (own_may cell event o (n.1 place cell at)) e;
  joined = joins_named journal;
  came = comes_named journal;
  refused = λ log world socket is pending n. (k.refused tt log world socket is pending n.0, n.1);
  fed = λ log world socket which count is stands input n. (k.fed log world socket which count is stands input tt n.0, subst AllNaming (sym (end_cells socket.name which (λ end. record end { unread = drop count end.unread }) world)) n.1);
  lost = λ log world socket which n. (k.lost log world socket which n.0, n.1);
  timed = λ log world node peer n. (k.timed log world node peer n.0, n.1);
  was_cut = λ log world socket which is n. (k.was_cut log world socket which is n.0, subst AllNaming (sym (end_cells socket.name which cut world)) n.1);
  knocked = λ log world stranger node n. (k.knocked log world stranger node n.0, n.1);
  poked = λ log world socket bytes is n. (k.poked log world socket bytes is n.0, subst AllNaming (sym (end_cells socket.name T (arrives bytes) world)) n.1);
  quitted = λ log world socket is n. (k.quitted log world socket is n.0, subst AllNaming (sym (end_cells socket.name O ended world)) n.1);
} where
  k : Keeps (Unit {0}) AnyCount (Good journal)
  k = keeps_good journal

-- ---- where nothing has happened

fresh_opened : (nodes : List (ℕ × NodeState)) (host : HostState) → IsNaming host → host.sockets ≡ [] → IsNaming (opened_for nodes host) × ((opened_for nodes host).sockets ≡ [])
unfolding host_open
fresh_opened [] host s e = (s, e)
fresh_opened (node ∷ rest) host s e = fresh_opened rest (host_open host node.0).1 (open_naming host node.0 s) (by_test (list_any (is_endpoint node.0) host.ends)) where
  by_test : (b : Bool) → (cond {A = Bool × HostState} b (false, host) (true, record host { ends = host.ends ++ record { number = node.0; is_open = true; arrived = 0 } ∷ [] })).1.sockets ≡ []
  by_test true = e
  by_test false = e

pub fresh_host : (journal : List Line) (address : Address) → IsNaming (cell_at journal address).host × ((cell_at journal address).host.sockets ≡ [])
fresh_host journal address = fresh_opened (cell_at journal address).nodes _ (fresh_naming address.host address.port _) refl

fresh_cell : (journal : List Line) (address : Address) → IsNamingCell (cell_at journal address, 0)
fresh_cell journal address = record { naming = (fresh_host journal address).0; free = λ k l. ap (λ (all : List Socket). find (is_socket (2 * k + 1)) all) (fresh_host journal address).1 }

fresh_cells : (journal : List Line) (addresses : List Address) → AllNaming (map (λ address. (cell_at journal address, 0)) addresses)
fresh_cells journal [] place cell e = absurd cc
fresh_cells journal (address ∷ rest) zero cell e = let is : ◌≡◌ {A = Cell × ℕ} (cell_at journal address, 0) cell = cc in subst IsNamingCell is (fresh_cell journal address)
fresh_cells journal (address ∷ rest) (suc place) cell e = fresh_cells journal rest place cell e

pub named_after : (journal lines : List Line) (log : List Entry) (world : World) → log_from (world_new journal) lines ≡ Ok (log, world) → Named journal log world
named_after journal lines log world is = by_log (log_from (world_new journal) lines) (all_led (Named journal) (holds_named journal) lines [] (world_new journal) (fresh journal, fresh_cells journal (first_of_hosts [] (nodes_of journal)))) is where
  by_log : (done : Happened) → LedOn (Named journal) [] done → done ≡ Ok (log, world) → Named journal log world
  by_log done l e = subst (λ (d : Happened). LedOn (Named journal) [] d) e l

pub naming_in : (journal lines : List Line) (log : List Entry) (world : World) (place : ℕ) (cell : Cell × ℕ) → log_from (world_new journal) lines ≡ Ok (log, world) → slice_get world.cells place ≡ Some cell → IsNamingCell cell
naming_in journal lines log world place cell is at = (named_after journal lines log world is).1 place cell at
