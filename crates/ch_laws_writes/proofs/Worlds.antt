-- The cells of a world stay orderly, whatever its lines do.
use Rattle.std.proofs.Common.{◌≡◌, ◌≤◌, ℕ, zero, suc, ◌+◌, ◌*◌, Bool, true, false, cond, List, [], ◌∷◌, ◌++◌, drop, map, Ok, refl, sym, ap, ◌∙◌, subst, append_assoc, arith}
use Rattle.std.proofs.lemmas.Bool.Decides.{nat_tests}
use Rattle.std.proofs.lemmas.List.{append-nil}
use Rattle.std.specs.Prelude.{find, is_some, slice_get, slice_set, Option, Some, None, ◌==◌}
use Rattle.ch_base.specs.declared.address.Address.{Address}
use Rattle.ch_model.specs.declared.entry.Entry.{Entry}
use Rattle.ch_model.specs.declared.entry.Entry.TheVariants as entries
use Rattle.ch_model.specs.declared.entry.Verdict.{Verdict}
use Rattle.ch_model.specs.declared.line.Line.{Line}
use Rattle.ch_model.specs.declared.local.LocalEntry.{LocalEntry}
use Rattle.ch_model.specs.declared.local.LocalEntry.TheVariants as local
use Rattle.ch_model.specs.declared.local.LocalEvent.{LocalEvent}
use Rattle.ch_model.specs.declared.local.LocalEvent.TheVariants as events
use Rattle.ch_model.specs.declared.name.End.{End}
use Rattle.ch_model.specs.declared.name.End.TheVariants.{O, T}
use Rattle.ch_model.specs.declared.name.SockName.{SockName}
use Rattle.ch_model.specs.declared.step.SocketEvent.TheVariants as sockets
use Rattle.ch_model.specs.declared.step.Step.{Step}
use Rattle.ch_model.specs.declared.step.Step.TheVariants as steps
use Rattle.ch_model.specs.Cell.{cell_step, cell_new, opened_for}
use Rattle.ch_model.specs.HostCalls.{host_new, host_open}
use Rattle.ch_model.specs.HostState.{HostState, Socket}
use Rattle.ch_model.specs.HostSteps.{is_socket, own_address, is_endpoint}
use Rattle.ch_model.specs.Settle.{Happened}
use Rattle.ch_model.specs.Stages.{Stage}
use Rattle.ch_model.specs.World.{cell_at, world_new, log_from}
use Rattle.ch_model.specs.WorldHappenings.{with_cell}
use Rattle.ch_model.specs.WorldSockets.{opened, cut, ended, arrives, item_arrives, other, is_socket_named, with_end, end_of, with_end_of, with_socket, find_end}
use Rattle.ch_model.specs.WorldState.{Cell, WorldEnd, WorldSocket, World}
use Rattle.ch_model.specs.WorldSteps.{on_end, later_places, reads_item, item_is_read, end_closes, stepped, local_told, all_told}
use Rattle.ch_laws_log.specs.HostEnds.{stage_at, stage_after_all, steps_in}
use Rattle.ch_laws_log.proofs.Agreeing.{Good, AnyCount, keeps_good}
use Rattle.ch_laws_log.proofs.Kept.{one_told, LedOn}
use Rattle.ch_laws_log.proofs.Told.{any_allowed, fresh}
use Rattle.ch_laws_writes.specs.Orderly.{IsOrderly, ComesNewTo}
use Rattle.ch_laws_writes.proofs.CellEnds.{TellsFrom, has_after, cell_tells}
use Rattle.ch_laws_writes.proofs.Cells.{cell_writes, fresh_cell}
use Rattle.ch_laws_writes.proofs.Runs.{Keeps, Mid, comes_none, after_all, all_led}
use Rattle.std.specs.Option.{option_map}
use Rattle.ch_model.specs.NodeState.{NodeState}
use Rattle.std.specs.List.{list_any}
use Rattle.ch_model.specs.Node.{node_new}

-- ---- lists by place

pub got_set : {A : Type 0} (xs : List A) (p : ℕ) (x y : A) → slice_get (slice_set xs p x) p ≡ Some y → y ≡ x
got_set [] p x y e = absurd cc
got_set (known ∷ rest) zero x y e = cc
got_set (known ∷ rest) (suc p) x y e = got_set rest p x y e

pub got_other : {A : Type 0} (xs : List A) (p q : ℕ) (x y : A) → (p ≡ q → ⊥) → slice_get (slice_set xs p x) q ≡ Some y → slice_get xs q ≡ Some y
got_other [] p q x y n e = absurd cc
got_other (known ∷ rest) zero zero x y n e = absurd (n refl)
got_other (known ∷ rest) zero (suc q) x y n e = e
got_other (known ∷ rest) (suc p) zero x y n e = e
got_other (known ∷ rest) (suc p) (suc q) x y n e = got_other rest p q x y (λ s. n (ap suc s)) e

pub number_is : (a b : ℕ) → (a == b) ≡ true → a ≡ b
number_is a b e = grind (arith, nat_tests)

pub number_same : (a : ℕ) → (a == a) ≡ true
number_same a = grind (arith, nat_tests)

pub numbers_differ : (a b : ℕ) → (a == b) ≡ false → a ≡ b → ⊥
numbers_differ a b e is = let yes : (a == b) ≡ true = subst (λ (m : ℕ). (a == m) ≡ true) is (number_same a) in let no : true ≡ false = sym yes ∙ e in absurd cc

-- ---- what leaves the cells

pub end_cells : (s : SockName) (e : End) (f : WorldEnd → WorldEnd) (world : World) → (with_end_of s e f world).cells ≡ world.cells
end_cells s e f world = by_socket (find (is_socket_named s) world.sockets) where
  by_socket : (o : Option WorldSocket) → (elim o as (λ o. World) [
    | None ↦ world
    | Some socket ↦ with_socket (with_end e (f (end_of e socket)) socket) world
  ]).cells ≡ world.cells
  by_socket None = refl
  by_socket (Some socket) = refl

on_end_cells : (place sock : ℕ) (f : SockName × End → World → List Entry × World) (world : World) → ((at : SockName × End) → (f at world).1.cells ≡ world.cells) → (on_end place sock f world).1.cells ≡ world.cells
on_end_cells place sock f world each = by_end (find_end place sock world.sockets) where
  by_end : (o : Option (SockName × End)) → (elim o as (λ o. List Entry × World) [
    | None ↦ ([], world)
    | Some at ↦ f at world
  ]).1.cells ≡ world.cells
  by_end None = refl
  by_end (Some at) = each at

read_cells : (at : SockName × End) (o : Option WorldSocket) (world : World) → (item_is_read at o world).cells ≡ world.cells
read_cells at None world = refl
read_cells at (Some socket) world = end_cells at.0 at.1 (λ end. record end { places = later_places end.places }) world

pub step_cells : (place : ℕ) (cell : Cell) (step : Step) (world : World) → (stepped place cell step world).1.cells ≡ world.cells
step_cells place cell (steps.Dial sock end peer) world = refl
step_cells place cell (steps.Read sock) world = on_end_cells place sock reads_item world (λ at. read_cells at (find (is_socket_named at.0) world.sockets) world)
step_cells place cell (steps.Write sock bytes said) world = on_end_cells place sock (λ at now. (entries.Wrote at.0 at.1 bytes ∷ [], with_end_of at.0 (other at.1) (item_arrives bytes said) now)) world (λ at. end_cells at.0 (other at.1) (item_arrives bytes said) world)
step_cells place cell (steps.Up sock) world = on_end_cells place sock (λ at now. (entries.Up at.0 at.1 ∷ [], now)) world (λ at. refl)
step_cells place cell (steps.Down sock) world = on_end_cells place sock (λ at now. (entries.Down at.0 at.1 ∷ [], end_closes at now)) world (λ at. end_cells at.0 at.1 ended world)
step_cells place cell (steps.Left sock) world = on_end_cells place sock (λ at now. (entries.Left at.0 at.1 ∷ [], end_closes at now)) world (λ at. end_cells at.0 at.1 ended world)
step_cells place cell (steps.Broke end peer why) world = refl
step_cells place cell (steps.Post end event) world = refl

pub one_cells : (place : ℕ) (cell : Cell) (entry : LocalEntry) (world : World) → (local_told place cell entry world).1.cells ≡ world.cells
one_cells place cell (local.Step step) world = step_cells place cell step world
one_cells place cell (local.Note note) world = refl

pub all_cells : (place : ℕ) (cell : Cell) (told : List LocalEntry) (world : World) → (all_told place cell told world).1.cells ≡ world.cells
all_cells place cell [] world = refl
all_cells place cell (entry ∷ rest) world = all_cells place cell rest (local_told place cell entry world).1 ∙ one_cells place cell entry world

-- ---- sockets as told

pub told_good : (journal : List Line) (log : List Entry) (place : ℕ) (cell : Cell) (told : List LocalEntry) (world : World) → Good journal log world → Good journal (log ++ (all_told place cell told world).0) (all_told place cell told world).1
told_good journal log place cell [] world g = subst (λ (l : List Entry). Good journal l world) (sym (append-nil log)) g
told_good journal log place cell (entry ∷ rest) world g = subst (λ (l : List Entry). Good journal l (all_told place cell rest (local_told place cell entry world).1).1) (append_assoc log (local_told place cell entry world).0 (all_told place cell rest (local_told place cell entry world).1).0)
    (told_good journal (log ++ (local_told place cell entry world).0) place cell rest (local_told place cell entry world).1 (one_told (Good journal) (keeps_good journal) log place cell entry world g))

-- ---- one cell

-- a cell that has accepted so many sockets: its host is orderly, and has no socket with a later odd number
pub record CellFits (cell : Cell × ℕ) : Type 0 where
  pub orderly : IsOrderly (own_address cell.0.host) cell.0.host
  pub odd : (k : ℕ) → cell.1 ≤ k → stage_at cell.0.host (2 * k + 1) ≡ None

abbrev pub CellsFit : World → Type 0
CellsFit world = (place : ℕ) (cell : Cell × ℕ) → slice_get world.cells place ≡ Some cell → CellFits cell

pub own_orderly : (own : ℕ → Address) (host : HostState) → IsOrderly own host → IsOrderly (own_address host) host
own_orderly own host o = record { sound = o.sound; own_is = λ end. refl; apart = o.apart; links = o.links; sockets = o.sockets }

none_of : {A : Type 0} (o : Option A) → is_some o ≡ false → o ≡ None
none_of None e = refl
none_of (Some x) e = absurd cc

pub no_more : (event : LocalEvent) → comes_none event ≡ true → (n : ℕ) (b : Bool) → has_after event n b ≡ b
no_more (events.Make end) e n b = refl
no_more (events.Command end by command) e n b = refl
no_more (events.Shut end) e n b = refl
no_more (events.Came mark sock peer_host) e n b = absurd cc
no_more (events.Socket (sockets.Joined sock)) e n b = refl
no_more (events.Socket (sockets.Came sock peer_host)) e n b = absurd cc
no_more (events.Socket (sockets.Refused sock)) e n b = refl
no_more (events.Socket (sockets.Fed sock bytes)) e n b = refl
no_more (events.Socket (sockets.Ended sock)) e n b = refl
no_more (events.Socket (sockets.Lost sock)) e n b = refl
no_more (events.Socket (sockets.Late end peer)) e n b = refl

pub nothing_new : (host : HostState) (event : LocalEvent) → comes_none event ≡ true → ComesNewTo host event
nothing_new host (events.Make end) e = tt
nothing_new host (events.Command end by command) e = tt
nothing_new host (events.Shut end) e = tt
nothing_new host (events.Came mark sock peer_host) e = absurd cc
nothing_new host (events.Socket (sockets.Joined sock)) e = tt
nothing_new host (events.Socket (sockets.Came sock peer_host)) e = absurd cc
nothing_new host (events.Socket (sockets.Refused sock)) e = tt
nothing_new host (events.Socket (sockets.Fed sock bytes)) e = tt
nothing_new host (events.Socket (sockets.Ended sock)) e = tt
nothing_new host (events.Socket (sockets.Lost sock)) e = tt
nothing_new host (events.Socket (sockets.Late end peer)) e = tt

-- a cell that has heard an event fits, where the socket that came with it is counted
pub cell_fits : (cell : Cell × ℕ) (event : LocalEvent) (verdict : Verdict) (told : List LocalEntry) (after : Cell) → CellFits cell → ComesNewTo cell.0.host event → ((k : ℕ) → cell.1 ≤ k → has_after event (2 * k + 1) false ≡ false) → cell_step cell.0 event ≡ Ok ((verdict, told), after) → CellFits (after, cell.1)
cell_fits cell event verdict told after f new later e = record {
  orderly = own_orderly (own_address cell.0.host) after.host (cell_writes (own_address cell.0.host) cell.0 after event verdict told f.orderly new e).orderly;
  odd = λ k l. t.stages (2 * k + 1) ∙ ap (stage_after_all (2 * k + 1) (steps_in told)) (none_of (t.first (2 * k + 1)) (t.has (2 * k + 1) ∙ ap (λ (s : Option Stage). has_after event (2 * k + 1) (is_some s)) (f.odd k l) ∙ later k l)) ∙ t.even k;
} where
  t : TellsFrom cell.0.host event told after.host
  t = cell_tells (own_address cell.0.host) cell.0 after event verdict told f.orderly new e

-- ---- one cell among others

-- the cell at one place fits, and all others did
pub set_fits : (world : World) (place : ℕ) (cell : Cell × ℕ) → CellsFit world → CellFits cell → CellsFit (with_cell place cell world)
set_fits world place cell f fits q other e = by_test (place == q) refl where
  by_test : (b : Bool) → (place == q) ≡ b → CellFits other
  by_test true h = let is : other ≡ cell = got_set world.cells place cell other (subst (λ (n : ℕ). slice_get (slice_set world.cells place cell) n ≡ Some other) (sym (number_is place q h)) e) in subst CellFits (sym is) fits
  by_test false h = f q other (got_other world.cells place q cell other (numbers_differ place q h) e)

same_fits : (one two : World) → two.cells ≡ one.cells → CellsFit one → CellsFit two
same_fits one two same f place cell e = f place cell (ap (λ (cells : List (Cell × ℕ)). slice_get cells place) (sym same) ∙ e)

end_fits : (s : SockName) (e : End) (f : WorldEnd → WorldEnd) (world : World) → CellsFit world → CellsFit (with_end_of s e f world)
end_fits s e f world fits = same_fits world (with_end_of s e f world) (end_cells s e f world) fits

-- a socket has come to the cell at this place, which doesn't know of it
pub record HasCome (number : ℕ) (cell : Cell × ℕ) : Type 0 where
  pub none : stage_at cell.0.host number ≡ None
  pub odd : (k : ℕ) → (number == 2 * k) ≡ false
  pub counted : (k : ℕ) → cell.1 ≤ k → (number == 2 * k + 1) ≡ false

-- ---- all lines

pub record Orderly (journal : List Line) (log : List Entry) (world : World) : Type 0 where
  pub good : Good journal log world
  pub cells : CellsFit world

pub record OrderlyMid (journal : List Line) (place number : ℕ) (log : List Entry) (world : World) : Type 0 where
  pub good : Good journal log world
  pub cells : CellsFit world
  pub come : (cell : Cell × ℕ) → slice_get world.cells place ≡ Some cell → HasCome number cell

not_there : (host : HostState) (n : ℕ) → stage_at host n ≡ None → find (is_socket n) host.sockets ≡ None
not_there host n e = by_socket (find (is_socket n) host.sockets) e where
  by_socket : (o : Option Socket) → option_map (λ (w : Socket). w.stage) o ≡ None → o ≡ None
  by_socket None e = refl
  by_socket (Some socket) e = absurd cc

pub come_new : (number mark : ℕ) (host : List ℕ) (cell : Cell × ℕ) → HasCome number cell → ComesNewTo cell.0.host (events.Came mark number host)
come_new number mark host cell c = (not_there cell.0.host number c.none, λ k l. c.odd k)

pub come_later : (number mark : ℕ) (host : List ℕ) (cell : Cell × ℕ) → HasCome number cell → (k : ℕ) → cell.1 ≤ k → has_after (events.Came mark number host) (2 * k + 1) false ≡ false
come_later number mark host cell c k l = ap (λ b. cond b true false) (c.counted k l)

-- the next socket to come has a number that is new
pub next_comes : (cell : Cell × ℕ) → CellFits cell → HasCome (2 * cell.1 + 1) (cell.0, cell.1 + 1)
next_comes cell f = record { none = f.odd cell.1 (self cell.1); odd = λ k. apart (2 * cell.1 + 1) (2 * k) (uneven cell.1 k); counted = λ k l. apart (2 * cell.1 + 1) (2 * k + 1) (above cell.1 k l) } where
  self : (n : ℕ) → n ≤ n
  self n = omega arith

  uneven : (c k : ℕ) → 2 * c + 1 ≡ 2 * k → ⊥
  uneven c k e = omega arith

  above : (c k : ℕ) → c + 1 ≤ k → 2 * c + 1 ≡ 2 * k + 1 → ⊥
  above c k l e = omega arith

  apart : (a b : ℕ) → (a ≡ b → ⊥) → (a == b) ≡ false
  apart a b n = by_test (a == b) refl where
    by_test : (c : Bool) → (a == b) ≡ c → c ≡ false
    by_test true e = absurd (n (number_is a b e))
    by_test false e = refl

pub counted_fits : (cell : Cell × ℕ) → CellFits cell → CellFits (cell.0, cell.1 + 1)
counted_fits cell f = record { orderly = f.orderly; odd = λ k l. f.odd k (less cell.1 k l) } where
  less : (c k : ℕ) → c + 1 ≤ k → c ≤ k
  less c k l = omega arith

heard_orderly : (journal : List Line) (log : List Entry) (world : World) (place : ℕ) (cell : Cell × ℕ) (told : List LocalEntry) (after : Cell) → Good journal log world → CellsFit world → CellFits (after, cell.1) → Orderly journal (log ++ (after_all place after cell.1 told world).0) (after_all place after cell.1 told world).1
heard_orderly journal log world place cell told after g f fits = record {
  good = told_good journal log place after told (with_cell place (after, cell.1) world) ((keeps_good journal).cell log world place (after, cell.1) g);
  cells = same_fits (with_cell place (after, cell.1) world) (after_all place after cell.1 told world).1 (all_cells place after told (with_cell place (after, cell.1) world)) (set_fits world place (after, cell.1) f fits);
}

-- an end that has come under a number
abbrev pub come_end : ℕ → WorldEnd → WorldEnd
come_end number end = record (opened end) { number = Some number }

pub keeps_orderly : (journal : List Line) → Keeps (Unit {0}) AnyCount (OrderlyMid journal) (Orderly journal)
keeps_orderly journal = record {
  whole = λ left. tt;
  distinct = λ log world i. i.good.apart;
  mark = λ log world number answer i. record { good = (keeps_good journal).mark log world number answer i.good; cells = i.cells };
  settled = λ log world i. record { good = (keeps_good journal).settled log world i.good; cells = i.cells };
  heard = λ log world place cell event verdict told after none at e i. heard_orderly journal log world place cell told after i.good i.cells
      (cell_fits cell event verdict told after (i.cells place cell at) (nothing_new cell.0.host event none) (λ k l. no_more event none (2 * k + 1) false) e);
  heard_come = λ log world place number mark host cell verdict told after at e i. heard_orderly journal log world place cell told after i.good i.cells
      (cell_fits cell (events.Came mark number host) verdict told after (i.cells place cell at) (come_new number mark host cell (i.come cell at)) (come_later number mark host cell (i.come cell at)) e);
  heard_nowhere = λ log world place number at i. record { good = i.good; cells = i.cells };
  joined = λ log world socket is pending i. record { good = (keeps_good journal).joined log world socket is pending i.good; cells = end_fits socket.name O opened world i.cells };
  refused = λ r log world socket is pending i. record { good = (keeps_good journal).refused r log world socket is pending i.good; cells = i.cells };
  came = λ log world socket place cell is pending of at i. record {
    good = (keeps_good journal).came log (with_cell place (cell.0, cell.1 + 1) world) socket (2 * cell.1 + 1) is pending ((keeps_good journal).cell log world place (cell.0, cell.1 + 1) i.good);
    cells = end_fits socket.name T (come_end (2 * cell.1 + 1)) (with_cell place (cell.0, cell.1 + 1) world) (set_fits world place (cell.0, cell.1 + 1) i.cells (counted_fits cell (i.cells place cell at)));
    come = λ there e. come_there world place socket.name cell there (i.cells place cell at) (ap (λ (cells : List (Cell × ℕ)). slice_get cells place) (sym (end_cells socket.name T (come_end (2 * cell.1 + 1)) (with_cell place (cell.0, cell.1 + 1) world))) ∙ e);
  };
  came_nowhere = λ log world socket place is of at i. record { good = (keeps_good journal).came_nowhere log world socket place is of at i.good; cells = i.cells };
  fed = λ log world socket which count is stands input w i. record { good = (keeps_good journal).fed log world socket which count is stands input w i.good; cells = end_fits socket.name which (λ end. record end { unread = drop count end.unread }) world i.cells };
  lost = λ log world socket which i. record { good = (keeps_good journal).lost log world socket which i.good; cells = i.cells };
  timed = λ log world node peer i. record { good = (keeps_good journal).timed log world node peer i.good; cells = i.cells };
  was_cut = λ log world socket which is i. record { good = (keeps_good journal).was_cut log world socket which is i.good; cells = end_fits socket.name which cut world i.cells };
  knocked = λ log world stranger node i. record { good = (keeps_good journal).knocked log world stranger node i.good; cells = i.cells };
  poked = λ log world socket bytes is i. record { good = (keeps_good journal).poked log world socket bytes is i.good; cells = end_fits socket.name T (arrives bytes) world i.cells };
  quitted = λ log world socket is i. record { good = (keeps_good journal).quitted log world socket is i.good; cells = end_fits socket.name O ended world i.cells };
} where
  come_there : (world : World) (place : ℕ) (s : SockName) (cell there : Cell × ℕ) → CellFits cell → slice_get (slice_set world.cells place (cell.0, cell.1 + 1)) place ≡ Some there → HasCome (2 * cell.1 + 1) there
  come_there world place s cell there f e = subst (HasCome (2 * cell.1 + 1)) (sym (got_set world.cells place (cell.0, cell.1 + 1) there e)) (next_comes cell f)

-- ---- where nothing has happened

opened_none : (nodes : List (ℕ × NodeState)) (host : HostState) → host.sockets ≡ [] → (opened_for nodes host).sockets ≡ []
unfolding host_open
opened_none [] host e = e
opened_none (node ∷ rest) host e = opened_none rest (host_open host node.0).1 (by_test (list_any (is_endpoint node.0) host.ends)) where
  by_test : (b : Bool) → (cond {A = Bool × HostState} b (false, host) (true, record host { ends = host.ends ++ record { number = node.0; is_open = true; arrived = 0 } ∷ [] })).1.sockets ≡ []
  by_test true = e
  by_test false = e

pub new_cell_fits : (host : List ℕ) (port : ℕ) (circle : List (List ℕ)) (nodes : List (ℕ × ℕ × List (List ℕ))) → CellFits (cell_new host port circle nodes, 0)
new_cell_fits host port circle nodes = record {
  orderly = own_orderly (own_address (host_new host port circle)) (cell_new host port circle nodes).host (fresh_cell host port circle nodes);
  odd = λ k l. ap (λ (s : List Socket). option_map (λ (w : Socket). w.stage) (find (is_socket (2 * k + 1)) s)) (opened_none (map (λ (node : ℕ × ℕ × List (List ℕ)). (node.0, node_new (record { host = host; port = port; id = node.0 }) node.1 node.2)) nodes) (host_new host port circle) refl);
}

new_cells_fit : (journal : List Line) (addresses : List Address) (place : ℕ) (cell : Cell × ℕ) → slice_get (map (λ (address : Address). (cell_at journal address, 0)) addresses) place ≡ Some cell → CellFits cell
new_cells_fit journal [] place cell e = absurd cc
new_cells_fit journal (address ∷ rest) zero cell e = let is : (cell_at journal address, 0) ≡ cell = cc in subst CellFits is (new_cell_fits address.host address.port _ _)
new_cells_fit journal (address ∷ rest) (suc place) cell e = new_cells_fit journal rest place cell e

pub fresh_orderly : (journal : List Line) → Orderly journal [] (world_new journal)
fresh_orderly journal = record { good = fresh journal; cells = new_cells_fit journal _ }

-- what each thing keeps, and holds where nothing has happened, holds after some lines
pub holds_after : {M : Mid} (I : List Entry → World → Type 0) → Keeps (Unit {0}) AnyCount M I → (journal lines : List Line) → I [] (world_new journal) → (log : List Entry) (world : World) → log_from (world_new journal) lines ≡ Ok (log, world) → I log world
holds_after I k journal lines first log world is = subst (λ (d : Happened). LedOn I [] d) is (all_led I k lines [] (world_new journal) (any_allowed lines) first)

pub cells_orderly : (journal lines : List Line) (log : List Entry) (world : World) (place : ℕ) (cell : Cell × ℕ) → log_from (world_new journal) lines ≡ Ok (log, world) → slice_get world.cells place ≡ Some cell → IsOrderly (own_address cell.0.host) cell.0.host
cells_orderly journal lines log world place cell is at = ((holds_after (Orderly journal) (keeps_orderly journal) journal lines (fresh_orderly journal) log world is).cells place cell at).orderly
