-- No line of many nodes shuts a node: each declared name's node stands at its cell, under its number, and isn't shut.
use Rattle.std.proofs.Common.{◌≡◌, ℕ, zero, suc, ◌+◌, ◌*◌, Bool, true, false, cond, ◌&&◌, List, [], ◌∷◌, length, map, take, drop, Ok, Err, refl, sym, ap, ◌∙◌, subst}
use Rattle.std.proofs.lemmas.Bool.{and_parts}
use Rattle.std.proofs.lemmas.List.Quantifiers.{position-Some}
use Rattle.std.proofs.lemmas.Slice.Eq.{bytes_eq-Decides}
use Rattle.std.specs.Option.{option_map}
use Rattle.std.specs.Prelude.{find, filter, get_or, slice_get, slice_set, Option, Some, None, ◌==◌}
use Rattle.std.specs.Str.{bytes_eq}
use Rattle.ch_base.specs.declared.address.Address.{Address}
use Rattle.ch_static.specs.declared.command.Command.TheVariants as commands
use Rattle.ch_model.specs.declared.entry.Entry.{Entry}
use Rattle.ch_model.specs.declared.entry.Entry.TheVariants as entries
use Rattle.ch_model.specs.declared.entry.Verdict.TheVariants as verdicts
use Rattle.ch_model.specs.declared.line.Line.{Line}
use Rattle.ch_model.specs.declared.line.What.{What}
use Rattle.ch_model.specs.declared.line.What.TheVariants as lines
use Rattle.ch_model.specs.declared.local.LocalEvent.{LocalEvent}
use Rattle.ch_model.specs.declared.local.LocalEvent.TheVariants as events
use Rattle.ch_model.specs.declared.name.End.{End}
use Rattle.ch_model.specs.declared.name.End.TheVariants.{O, T}
use Rattle.ch_model.specs.declared.name.SockName.{SockName}
use Rattle.ch_model.specs.declared.step.SocketEvent.{SocketEvent}
use Rattle.ch_model.specs.declared.step.SocketEvent.TheVariants as sockets
use Rattle.ch_model.specs.Cell.{Celled, cell_new, cell_step}
use Rattle.ch_model.specs.CellSteps.{is_at}
use Rattle.ch_model.specs.HostCalls.{host_new}
use Rattle.ch_model.specs.Naming.{is_named, address_as, target_as}
use Rattle.ch_model.specs.Node.{node_new}
use Rattle.ch_model.specs.NodeState.{NodeState}
use Rattle.ch_model.specs.Settle.{Happened}
use Rattle.ch_model.specs.World.{names_of, nodes_of, labels_of, same_host, first_of_hosts, cell_at, world_new, world_step, line_answered}
use Rattle.ch_model.specs.WorldHappenings.{Answered, after_entry, with_cell, cell_told, cell_hears, end_hears, joins, comes_at, comes, hands, feeds, mark_of}
use Rattle.ch_model.specs.WorldLines.{node_hears, on_socket, can_join, can_come, can_feed, line_done}
use Rattle.ch_model.specs.WorldSockets.{end_of, opened, is_socket_named, with_end_of, is_host_of, cell_of}
use Rattle.ch_model.specs.WorldState.{Cell, Named, WorldEnd, WorldSocket, World}
use Rattle.ch_laws_log.proofs.Stored.{number_is, number_same, bytes_same}
use Rattle.ch_laws_ends.proofs.Changes.{cells_stay, told_cells}
use Rattle.ch_laws_many.specs.ManyLines.{is_of_many}
use Rattle.ch_laws_many.proofs.Addresses.{AllNamed, nodes_are, all_opened, both}
use Rattle.ch_laws_many.proofs.UnshutCells.{seats_of, ShutsNone, cell_after}

-- which nodes of each cell are shut
abbrev pub seats_in : List (Cell × ℕ) → List (List (ℕ × Bool))
seats_in [] = []
seats_in (cell ∷ rest) = seats_of cell.0.nodes ∷ seats_in rest

-- ---- lines

abbrev Stays : World → Answered → Type 0
Stays world (Ok done) = seats_in done.1.cells ≡ seats_in world.cells
Stays world (Err stop) = Unit {0}

from : (one two : World) (done : Answered) → seats_in two.cells ≡ seats_in one.cells → Stays two done → Stays one done
from one two (Ok done) e s = s ∙ e
from one two (Err stop) e s = tt

set_seats : (cells : List (Cell × ℕ)) (place : ℕ) (cell next : Cell × ℕ) → slice_get cells place ≡ Some cell → seats_of next.0.nodes ≡ seats_of cell.0.nodes → seats_in (slice_set cells place next) ≡ seats_in cells
set_seats [] place cell next e same = absurd cc
set_seats (first ∷ rest) zero cell next e same = let this : cell ≡ first = cc in ap (λ (s : List (ℕ × Bool)). s ∷ seats_in rest) (same ∙ ap (λ (c : Cell × ℕ). seats_of c.0.nodes) this)
set_seats (first ∷ rest) (suc place) cell next e same = ap (λ (s : List (List (ℕ × Bool))). seats_of first.0.nodes ∷ s) (set_seats rest place cell next e same)

hears_stays : (place : ℕ) (event : LocalEvent) (world : World) → ShutsNone event → Stays world (cell_hears place event world)
hears_stays place event world of = by_cell (slice_get world.cells place) refl where
  by_done : (cell : Cell × ℕ) → slice_get world.cells place ≡ Some cell → (done : Celled) → cell_step cell.0 event ≡ done → Stays world (cell_told place cell world done)
  by_done cell found (Err stop) is = tt
  by_done cell found (Ok done) is = ap seats_in (told_cells place done.1 done.0.1 (with_cell place (done.1, cell.1) world)) ∙ set_seats world.cells place cell (done.1, cell.1) found (cell_after cell.0 done.1 event done.0 of is)

  by_cell : (o : Option (Cell × ℕ)) → slice_get world.cells place ≡ o → Stays world (elim o as (λ o. Answered) [
    | None ↦ Ok ((verdicts.Nothing, []), world)
    | Some cell ↦ cell_told place cell world (cell_step cell.0 event)
  ])
  by_cell None e = refl
  by_cell (Some cell) e = by_done cell e (cell_step cell.0 event) refl

end_stays : (end : WorldEnd) (event : ℕ → SocketEvent) (world : World) → Stays world (end_hears end event world)
end_stays end event world = by_cell end.cell end.number where
  by_cell : (o n : Option ℕ) → Stays world (elim o as (λ o. Answered) [
    | None ↦ Ok ((verdicts.Nothing, []), world)
    | Some place ↦ elim n [
      | None ↦ Ok ((verdicts.Nothing, []), world)
      | Some number ↦ cell_hears place (events.Socket (event number)) world
    ]
  ])
  by_cell None n = refl
  by_cell (Some place) None = refl
  by_cell (Some place) (Some number) = hears_stays place (events.Socket (event number)) world tt

entry_stays : (entry : Entry) (world : World) (done : Answered) → Stays world done → Stays world (after_entry entry done)
entry_stays entry world (Ok done) s = s
entry_stays entry world (Err stop) s = tt

joins_stays : (socket : WorldSocket) (world : World) → Stays world (joins socket world)
joins_stays socket world = entry_stays (entries.Joined socket.name) world (end_hears socket.o (λ sock. sockets.Joined sock) next) (from world next (end_hears socket.o (λ sock. sockets.Joined sock) next) (ap seats_in (cells_stay socket.name O opened world)) (end_stays socket.o (λ sock. sockets.Joined sock) next)) where
  next : World
  next = with_end_of socket.name O opened world

comes_stays : (socket : WorldSocket) (world : World) → Stays world (comes socket world)
comes_stays socket world = by_place socket.t.cell where
  came_there : ℕ → Cell × ℕ → World
  came_there place cell = with_end_of socket.name T (λ end. record (opened end) { number = Some (2 * cell.1 + 1) }) (with_cell place (cell.0, cell.1 + 1) world)

  by_cell : (place : ℕ) (o : Option (Cell × ℕ)) → slice_get world.cells place ≡ o → Stays world (elim o as (λ o. Answered) [
    | None ↦ Ok ((verdicts.Nothing, []), world)
    | Some cell ↦ cell_hears place (events.Came (mark_of socket.o) (2 * cell.1 + 1) socket.from_host) (came_there place cell)
  ])
  by_cell place None e = refl
  by_cell place (Some cell) e = from world (came_there place cell) (cell_hears place (events.Came (mark_of socket.o) (2 * cell.1 + 1) socket.from_host) (came_there place cell))
      (ap seats_in (cells_stay socket.name T (λ end. record (opened end) { number = Some (2 * cell.1 + 1) }) (with_cell place (cell.0, cell.1 + 1) world)) ∙ set_seats world.cells place cell (cell.0, cell.1 + 1) e refl)
      (hears_stays place (events.Came (mark_of socket.o) (2 * cell.1 + 1) socket.from_host) (came_there place cell) tt)

  by_place : (o : Option ℕ) → Stays world (elim o as (λ o. Answered) [
    | None ↦ Ok ((verdicts.Nothing, []), world)
    | Some place ↦ after_entry (entries.Came socket.name) (comes_at place socket world)
  ])
  by_place None = refl
  by_place (Some place) = entry_stays (entries.Came socket.name) world (comes_at place socket world) (by_cell place (slice_get world.cells place) refl)

hands_stays : (bytes : List ℕ) (end : WorldEnd) (world : World) → Stays world (hands bytes end world)
hands_stays [] end world = end_stays end (λ sock. sockets.Ended sock) world
hands_stays (b ∷ bytes) end world = end_stays end (λ sock. sockets.Fed sock (b ∷ bytes)) world

feeds_stays : (which : End) (count : ℕ) (socket : WorldSocket) (world : World) → Stays world (feeds which count socket world)
feeds_stays which count socket world = entry_stays (entries.Fed socket.name which (length bytes)) world (hands bytes (end_of which socket) next) (from world next (hands bytes (end_of which socket) next) (ap seats_in (cells_stay socket.name which (λ end. record end { unread = drop count end.unread }) world)) (hands_stays bytes (end_of which socket) next)) where
  bytes : List ℕ
  bytes = take count (end_of which socket).unread

  next : World
  next = with_end_of socket.name which (λ end. record end { unread = drop count end.unread }) world

node_stays : (name : List ℕ) (event : ℕ → LocalEvent) (world : World) → ((end : ℕ) → ShutsNone (event end)) → Stays world (node_hears name event world)
node_stays name event world of = by_cell (cell_of world (address_as world.names name)) where
  by_cell : (o : Option ℕ) → Stays world (elim o as (λ o. Answered) [
    | None ↦ Ok ((verdicts.Nothing, []), world)
    | Some place ↦ cell_hears place (event (address_as world.names name).id) world
  ])
  by_cell None = refl
  by_cell (Some place) = hears_stays place (event (address_as world.names name).id) world (of (address_as world.names name).id)

socket_stays : (sock : SockName) (test : WorldSocket → Bool) (f : WorldSocket → World → Answered) (world : World) → ((socket : WorldSocket) → Stays world (f socket world)) → Stays world (on_socket sock test f world)
socket_stays sock test f world each = by_socket (find (is_socket_named sock) world.sockets) where
  by_test : (s : WorldSocket) (b : Bool) → Stays world (cond b (f s world) (Ok ((verdicts.Nothing, []), world)))
  by_test s true = each s
  by_test s false = refl

  by_socket : (o : Option WorldSocket) → Stays world (elim o as (λ o. Answered) [
    | None ↦ Ok ((verdicts.Nothing, []), world)
    | Some socket ↦ cond (test socket) (f socket world) (Ok ((verdicts.Nothing, []), world))
  ])
  by_socket None = refl
  by_socket (Some s) = by_test s (test s)

line_stays : (known : List Named) (what : What) (world : World) → is_of_many known what ≡ true → Stays world (line_done what world)
line_stays known (lines.Node name address unique) world of = refl
line_stays known (lines.Proc node) world of = node_stays node (λ end. events.Make end) world (λ end. tt)
line_stays known (lines.Send by to mark body) world of = node_stays by.node (λ end. events.Command end by.counter (commands.Send (target_as world.names to) (record { mark = mark; body = body }))) world (λ end. tt)
line_stays known (lines.Recv by mark) world of = node_stays by.node (λ end. events.Command end by.counter (commands.Receive mark)) world (λ end. tt)
line_stays known (lines.End by) world of = node_stays by.node (λ end. events.Command end by.counter commands.End) world (λ end. tt)
line_stays known (lines.Join sock) world of = socket_stays sock can_join joins world (λ s. joins_stays s world)
line_stays known (lines.Come sock) world of = socket_stays sock can_come comes world (λ s. comes_stays s world)
line_stays known (lines.Feed sock end count) world of = socket_stays sock (can_feed end) (feeds end count) world (λ s. feeds_stays end count s world)
line_stays known what world of = absurd cc

abbrev pub StaysOn : World → Happened → Type 0
StaysOn world (Ok done) = seats_in done.1.cells ≡ seats_in world.cells
StaysOn world (Err stop) = Unit {0}

marked : (number : ℕ) (world : World) (done : Answered) → Stays world done → StaysOn world (line_answered number done)
marked number world (Ok done) s = s
marked number world (Err stop) s = tt

pub step_stays : (known : List Named) (number : ℕ) (what : What) (world : World) → is_of_many known what ≡ true → StaysOn world (world_step world (record { number = number; what = what }))
step_stays known number (lines.Node name address unique) world of = refl
step_stays known number (lines.Away name address unique) world of = absurd cc
step_stays known number (lines.Label node label) world of = absurd cc
step_stays known number (lines.Stranger name host) world of = absurd cc
step_stays known number lines.Settle world of = absurd cc
step_stays known number what world of = marked number world (line_done what world) (line_stays known what world of)

-- ---- a node at its place

-- the cell at this place has a node under this number, which isn't shut
abbrev pub AwakeAt : List (Cell × ℕ) → ℕ → ℕ → Type 0
AwakeAt cells place end = (cell : Cell × ℕ) → slice_get cells place ≡ Some cell → option_map (λ (node : ℕ × NodeState). node.1.is_shut) (find (is_at end) cell.0.nodes) ≡ Some false

-- whether the node under this number is shut
abbrev seat_in : ℕ → List (ℕ × Bool) → Option Bool
seat_in end [] = None
seat_in end (seat ∷ rest) = cond (seat.0 == end) (Some seat.1) (seat_in end rest)

seat_found : (end : ℕ) (nodes : List (ℕ × NodeState)) → option_map (λ (node : ℕ × NodeState). node.1.is_shut) (find (is_at end) nodes) ≡ seat_in end (seats_of nodes)
seat_found end [] = refl
seat_found end (node ∷ rest) = by_test (node.0 == end) (seat_found end rest) where
  by_test : (b : Bool) → option_map (λ (n : ℕ × NodeState). n.1.is_shut) (find (is_at end) rest) ≡ seat_in end (seats_of rest) → option_map (λ (n : ℕ × NodeState). n.1.is_shut) (cond b (Some node) (find (is_at end) rest)) ≡ cond b (Some node.1.is_shut) (seat_in end (seats_of rest))
  by_test true e = refl
  by_test false e = e

pub awake_still : (now before : List (Cell × ℕ)) (place end : ℕ) → seats_in now ≡ seats_in before → AwakeAt before place end → AwakeAt now place end
awake_still [] before place end e a cell found = absurd cc
awake_still (next ∷ rest) [] place end e a cell found = absurd cc
awake_still (next ∷ rest) (known ∷ more) zero end e a cell found =
    let this : next ≡ cell = cc in
    let same : seats_of next.0.nodes ≡ seats_of known.0.nodes = cc in
    subst (λ (c : Cell × ℕ). option_map (λ (n : ℕ × NodeState). n.1.is_shut) (find (is_at end) c.0.nodes) ≡ Some false) this (seat_found end next.0.nodes ∙ ap (seat_in end) same ∙ sym (seat_found end known.0.nodes) ∙ a known refl)
awake_still (next ∷ rest) (known ∷ more) (suc place) end e a cell found = let others : seats_in rest ≡ seats_in more = cc in awake_still rest more place end others (λ c f. a c f) cell found

-- ---- where nothing has happened

-- each cell is of an address
made_at : (journal : List Line) (addresses : List Address) (place : ℕ) (cell : Cell × ℕ) → slice_get (map (λ (address : Address). (cell_at journal address, 0)) addresses) place ≡ Some cell → (address : Address) × ((cell_at journal address, 0) ≡ cell)
made_at journal [] place cell e = absurd cc
made_at journal (address ∷ rest) zero cell e = (address, cc)
made_at journal (address ∷ rest) (suc place) cell e = made_at journal rest place cell e

get_is : (cells : List (Cell × ℕ)) (place : ℕ) (cell d : Cell × ℕ) → slice_get cells place ≡ Some cell → get_or cells place d ≡ cell
get_is [] place cell d e = absurd cc
get_is (known ∷ rest) zero cell d e = cc
get_is (known ∷ rest) (suc place) cell d e = get_is rest place cell d e

host_same : (host : List ℕ) (port : ℕ) (circle : List (List ℕ)) (nodes : List (ℕ × ℕ × List (List ℕ))) (at : Address) → is_host_of at (cell_new host port circle nodes, 0) ≡ true → (bytes_eq at.host host && at.port == port) ≡ true
host_same host port circle nodes at e =
    let opened = all_opened (map (λ (node : ℕ × ℕ × List (List ℕ)). (node.0, node_new (record { host = host; port = port; id = node.0 }) node.1 node.2)) nodes) (host_new host port circle) in
    let parts = and_parts (bytes_eq (cell_new host port circle nodes).host.host at.host) ((cell_new host port circle nodes).host.port == at.port) e in
    both (bytes_eq at.host host) (at.port == port)
    (subst (λ (h : List ℕ). bytes_eq h host ≡ true) (sym (opened_host opened.0 parts.0)) (bytes_same host))
    (subst (λ (p : ℕ). (p == port) ≡ true) (sym (opened_port opened.1 parts.1)) (number_same port))
  where
    opened_host : {a : List ℕ} → a ≡ host → bytes_eq a at.host ≡ true → at.host ≡ host
    opened_host {a = a} e h = sym ((bytes_eq-Decides a at.host).0 h) ∙ e

    opened_port : {p : ℕ} → p ≡ port → (p == at.port) ≡ true → at.port ≡ port
    opened_port {p = p} e h = sym (number_is p at.port h) ∙ e

-- a node of the cell's host stands there, new
seated : (journal : List Line) (address : Address) (name : List ℕ) (d : Named) (all : List Named) → find (is_named name) all ≡ Some d → same_host d.address address ≡ true
    → option_map (λ (n : ℕ × NodeState). n.1.is_shut) (find (is_at d.address.id) (map (λ (node : ℕ × ℕ × List (List ℕ)). (node.0, node_new (record { host = address.host; port = address.port; id = node.0 }) node.1 node.2)) (map (λ (named : Named). (named.address.id, named.unique, labels_of journal named.name)) (filter (λ (named : Named). same_host named.address address) all)))) ≡ Some false
unfolding node_new
seated journal address name d [] found same = absurd cc
seated journal address name d (n ∷ rest) found same = by_tests (is_named name n) (same_host n.address address) refl found (seated journal address name d rest) where
  made : List Named → List (ℕ × NodeState)
  made named = map (λ (node : ℕ × ℕ × List (List ℕ)). (node.0, node_new (record { host = address.host; port = address.port; id = node.0 }) node.1 node.2)) (map (λ (named : Named). (named.address.id, named.unique, labels_of journal named.name)) named)

  at_head : (b : Bool) → ((b ≡ false) → option_map (λ (m : ℕ × NodeState). m.1.is_shut) (find (is_at d.address.id) (made (filter (λ (named : Named). same_host named.address address) rest))) ≡ Some false)
      → option_map (λ (m : ℕ × NodeState). m.1.is_shut) (cond b (Some (n.address.id, node_new (record { host = address.host; port = address.port; id = n.address.id }) n.unique (labels_of journal n.name))) (find (is_at d.address.id) (made (filter (λ (named : Named). same_host named.address address) rest)))) ≡ Some false
  at_head true more = refl
  at_head false more = more refl

  by_tests : (a b : Bool) → same_host n.address address ≡ b → cond a (Some n) (find (is_named name) rest) ≡ Some d
      → (find (is_named name) rest ≡ Some d → same_host d.address address ≡ true → option_map (λ (m : ℕ × NodeState). m.1.is_shut) (find (is_at d.address.id) (made (filter (λ (named : Named). same_host named.address address) rest))) ≡ Some false)
      → option_map (λ (m : ℕ × NodeState). m.1.is_shut) (find (is_at d.address.id) (made (cond b (n ∷ filter (λ (named : Named). same_host named.address address) rest) (filter (λ (named : Named). same_host named.address address) rest)))) ≡ Some false
  by_tests true true h found more = let this : n ≡ d = cc in at_head (n.address.id == d.address.id) (λ no. let own : (n.address.id == d.address.id) ≡ true = subst (λ (m : Named). (n.address.id == m.address.id) ≡ true) this (number_same n.address.id) in absurd cc)
  by_tests true false h found more = let this : n ≡ d = cc in let there : same_host n.address address ≡ true = subst (λ (m : Named). same_host m.address address ≡ true) (sym this) same in absurd cc
  by_tests false true h found more = at_head (n.address.id == d.address.id) (λ no. more found same)
  by_tests false false h found more = more found same

pub fresh_awake : (journal : List Line) → AllNamed (names_of journal) → (name : List ℕ) (d : Named) (place : ℕ) → find (is_named name) (names_of journal) ≡ Some d → cell_of (world_new journal) d.address ≡ Some place → AwakeAt (world_new journal).cells place d.address.id
fresh_awake journal all name d place found at cell is = by_made (made_at journal (first_of_hosts [] (nodes_of journal)) place cell is) where
  there : is_host_of d.address cell ≡ true
  there = subst (λ (c : Cell × ℕ). is_host_of d.address c ≡ true) (get_is (world_new journal).cells place cell cell is) (position-Some (is_host_of d.address) (world_new journal).cells place cell at).1

  by_made : (made : (address : Address) × ((cell_at journal address, 0) ≡ cell)) → option_map (λ (n : ℕ × NodeState). n.1.is_shut) (find (is_at d.address.id) cell.0.nodes) ≡ Some false
  by_made (address, e) = subst (λ (c : Cell × ℕ). option_map (λ (n : ℕ × NodeState). n.1.is_shut) (find (is_at d.address.id) c.0.nodes) ≡ Some false) e
      (seated journal address name d (nodes_of journal) (subst (λ (ns : List Named). find (is_named name) ns ≡ Some d) (sym (nodes_are (names_of journal) all)) found)
      (host_same address.host address.port (map (λ (named : Named). named.address.host) (nodes_of journal)) (map (λ (named : Named). (named.address.id, named.unique, labels_of journal named.name)) (filter (λ (named : Named). same_host named.address address) (nodes_of journal))) d.address (subst (λ (c : Cell × ℕ). is_host_of d.address c ≡ true) (sym e) there)))
