-- Processes by their names and by their ids, and where a node of a world stands: at its name's address, with its name's unique number.
use Rattle.std.proofs.Common.{◌≡◌, ℕ, zero, suc, Bool, true, false, cond, List, [], ◌∷◌, ◌++◌, refl, sym, ap, ◌∙◌, subst}
use Rattle.std.proofs.lemmas.Bool.{and_parts}
use Rattle.std.proofs.lemmas.List.Quantifiers.{position-Some}
use Rattle.std.proofs.lemmas.Slice.Eq.{bytes_eq-Decides}
use Rattle.std.specs.Option.{option_map}
use Rattle.std.specs.Prelude.{filter, find, is_some, map, slice_get, get_or, Option, Some, None, ◌==◌}
use Rattle.std.specs.Str.{bytes_eq}
use Rattle.ch_base.specs.Addresses.{IsAddress}
use Rattle.ch_base.specs.declared.address.Address.{Address}
use Rattle.ch_watch.specs.Same.{same_node}
use Rattle.ch_model.specs.declared.entry.Entry.{Entry}
use Rattle.ch_model.specs.declared.line.Line.{Line}
use Rattle.ch_model.specs.declared.line.What.{What}
use Rattle.ch_model.specs.declared.line.What.TheVariants as lines
use Rattle.ch_model.specs.declared.name.ProcName.{ProcName}
use Rattle.ch_model.specs.CellSteps.{is_at}
use Rattle.ch_model.specs.Declarations.{Peer, declared_by, peer, process_id}
use Rattle.ch_model.specs.HostSteps.{own_address}
use Rattle.ch_model.specs.Logs.{or_else}
use Rattle.ch_model.specs.Naming.{Names, is_named, or_nobody, named_as, address_as, process_as, process_called}
use Rattle.ch_model.specs.Node.{node_new}
use Rattle.ch_model.specs.NodeState.{NodeState}
use Rattle.ch_model.specs.World.{name_in, names_of, nodes_of, labels_of, same_host, first_of_hosts, cell_at, world_new}
use Rattle.ch_model.specs.WorldSockets.{is_host_of, cell_of}
use Rattle.ch_model.specs.WorldState.{Named, Cell, World}
use Rattle.ch_laws_acting.proofs.Uniques.{IsOnce, AllFirst, all_first, found_first}
use Rattle.ch_laws_bytes.specs.Streams.{AreAddresses}
use Rattle.ch_laws_calls.specs.Sound.{Sound}
use Rattle.ch_laws_items.specs.Stays.{Who, seats_of}
use Rattle.ch_laws_log.specs.Declared.{AreApart, is_declared}
use Rattle.ch_laws_log.proofs.Homes.{SeatsAt, AllAtHome, Housed, fresh_housed, called_so, own_is}
use Rattle.ch_laws_log.proofs.Stored.{number_is}
use Rattle.ch_laws_calls.proofs.ScenesPlaces.{homed_as}
use Rattle.ch_laws_world.specs.Grows.{Home, home_of, homes_of}
use Rattle.ch_laws_messages.proofs.SaidEnds.{some_is}

-- ---- names and ids

-- as what a name stands for is declared
abbrev peer_as : Named → Peer
peer_as d = record { address = d.address; unique = d.unique; is_node = d.is_node }

peer_named : (journal : List Line) (x : List ℕ) (d : Named) → find (is_named x) (names_of journal) ≡ Some d → peer journal x ≡ Some (peer_as d)
peer_named [] x d e = absurd cc
peer_named (line ∷ rest) x d e = by_what line.what e (peer_named rest x d) where
  by_name : (one : Named) (b : Bool) → cond b (Some one) (find (is_named x) (names_of rest)) ≡ Some d → (find (is_named x) (names_of rest) ≡ Some d → peer rest x ≡ Some (peer_as d)) → or_else (cond b (Some (peer_as one)) None) (peer rest x) ≡ Some (peer_as d)
  by_name one true e more = ap (λ (n : Named). Some (peer_as n)) (some_is e)
  by_name one false e more = more e

  by_what : (w : What) → find (is_named x) (name_in w ++ names_of rest) ≡ Some d → (find (is_named x) (names_of rest) ≡ Some d → peer rest x ≡ Some (peer_as d)) → or_else (declared_by x w) (peer rest x) ≡ Some (peer_as d)
  by_what (lines.Node name address unique) e more = by_name (record { name = name; address = address; unique = unique; is_node = true }) (bytes_eq name x) e more
  by_what (lines.Away name address unique) e more = by_name (record { name = name; address = address; unique = unique; is_node = false }) (bytes_eq name x) e more
  by_what w e more = more e

-- the id of a process of a declared node
pub id_as : (journal : List Line) (p : ProcName) → is_declared (names_of journal) p.node ≡ true → process_id journal p ≡ Some (process_as (names_of journal) p)
id_as journal p declared = by_found (find (is_named p.node) (names_of journal)) refl declared where
  by_found : (o : Option Named) → find (is_named p.node) (names_of journal) ≡ o → is_some o ≡ true → process_id journal p ≡ Some (record { node = (or_nobody o).address; unique = (or_nobody o).unique; counter = p.counter })
  by_found None e some = absurd cc
  by_found (Some d) e some = ap (λ (o : Option Peer). option_map (λ (at : Peer). record { node = at.address; unique = at.unique; counter = p.counter }) o) (peer_named journal p.node d e)

-- it is called as it was
pub named_back : (known : Names) (p : ProcName) → AreApart known → is_declared known p.node ≡ true → process_called known (process_as known p) ≡ p
named_back known p apart declared = ap (λ (n : List ℕ). record { node = n; counter = p.counter }) (called_so known p.node apart declared)

-- the address of a declared name may be spelled
pub address_spelled : (known : Names) (name : List ℕ) → AreAddresses known → is_declared known name ≡ true → IsAddress (address_as known name)
address_spelled [] name all declared = absurd cc
address_spelled (named ∷ rest) name all declared = by_test (is_named name named) declared (address_spelled rest name all.1) where
  by_test : (b : Bool) → is_some (cond b (Some named) (find (is_named name) rest)) ≡ true → (is_declared rest name ≡ true → IsAddress (address_as rest name)) → IsAddress (or_nobody (cond b (Some named) (find (is_named name) rest))).address
  by_test true declared more = all.0
  by_test false declared more = more declared

-- ---- addresses of nodes

home_kept : (before after : Cell) → home_of after ≡ home_of before → SeatsAt before.host.host before.host.port (seats_of before.nodes) → SeatsAt after.host.host after.host.port (seats_of after.nodes)
home_kept before after e at = subst (λ (h : Home). SeatsAt h.0 h.1 h.3) (sym e) at

homes_kept : (before after : List (Cell × ℕ)) → homes_of after ≡ homes_of before → AllAtHome before → AllAtHome after
homes_kept before [] e at = tt
homes_kept [] (next ∷ more) e at = absurd cc
homes_kept (known ∷ rest) (next ∷ more) e at =
    let head : home_of next.0 ≡ home_of known.0 = cc in
    let others : homes_of more ≡ homes_of rest = cc in
    (home_kept known.0 next.0 head at.0, homes_kept rest more others at.1)

housed : (journal : List Line) (log : List Entry) (world : World) → Sound journal log world → Housed journal world
housed journal log world sound = record { names = sound.ends.set.names; homes = homes_kept (world_new journal).cells world.cells sound.ends.homes (fresh_housed journal).homes; numbered = sound.ends.set.numbered }

-- a node stands at its own address
pub own_named : (journal : List Line) (log : List Entry) (world : World) (own : Address) (place number : ℕ) (cell : Cell × ℕ) (node : NodeState) → Sound journal log world → cell_of world own ≡ Some place → slice_get world.cells place ≡ Some cell → find (is_at own.id) cell.0.nodes ≡ Some (number, node) → node.own ≡ own
own_named journal log world own place number cell node sound of at found = own_is journal world own place cell (number, node) (housed journal log world sound) of at found

get_is : (cells : List (Cell × ℕ)) (place : ℕ) (cell d : Cell × ℕ) → slice_get cells place ≡ Some cell → get_or cells place d ≡ cell
get_is [] place cell d e = absurd cc
get_is (known ∷ rest) zero cell d e = cc
get_is (known ∷ rest) (suc place) cell d e = get_is rest place cell d e

host_is : (own : Address) (cell : Cell × ℕ) → is_host_of own cell ≡ true → own_address cell.0.host own.id ≡ own
host_is own cell e = let parts = and_parts (bytes_eq cell.0.host.host own.host) (cell.0.host.port == own.port) e in
    ap (λ (h : List ℕ). record { host = h; port = cell.0.host.port; id = own.id }) ((bytes_eq-Decides cell.0.host.host own.host).0 parts.0) ∙ ap (λ (p : ℕ). record { host = own.host; port = p; id = own.id }) (number_is cell.0.host.port own.port parts.1)

-- so does the endpoint of its cell
pub own_there : (world : World) (own : Address) (place : ℕ) (cell : Cell × ℕ) → cell_of world own ≡ Some place → slice_get world.cells place ≡ Some cell → own_address cell.0.host own.id ≡ own
own_there world own place cell of at = host_is own cell (subst (λ (c : Cell × ℕ). is_host_of own c ≡ true) (get_is world.cells place cell cell at) (position-Some (is_host_of own) world.cells place cell of).1)

-- ---- unique numbers of nodes

first_filtered : (known : Names) (test : Named → Bool) (some : List Named) → AllFirst known some → AllFirst known (filter test some)
first_filtered known test [] f = tt
first_filtered known test (m ∷ some) f = by_test (test m) (first_filtered known test some f.1) where
  by_test : (t : Bool) → AllFirst known (filter test some) → AllFirst known (cond t (m ∷ filter test some) (filter test some))
  by_test true more = (f.0, more)
  by_test false more = more

-- each node has the unique number of the one name at its address
abbrev SeatsOnce : Names → List (ℕ × Who) → Type 0
SeatsOnce known [] = Unit {0}
SeatsOnce known (seat ∷ rest) = IsOnce known seat.1.0 seat.1.1 × SeatsOnce known rest

seats_once : (known : Names) (journal : List Line) (address : Address) (all : List Named) → AllFirst known all
    → SeatsOnce known (seats_of (map (λ (node : ℕ × ℕ × List (List ℕ)). (node.0, node_new (record { host = address.host; port = address.port; id = node.0 }) node.1 node.2)) (map (λ (named : Named). (named.address.id, named.unique, labels_of journal named.name)) (filter (λ named. same_host named.address address) all))))
unfolding node_new
seats_once known journal address [] f = tt
seats_once known journal address (m ∷ rest) f = by_host (same_host m.address address) refl (seats_once known journal address rest f.1) where
  by_host : (t : Bool) → same_host m.address address ≡ t
      → SeatsOnce known (seats_of (map (λ (node : ℕ × ℕ × List (List ℕ)). (node.0, node_new (record { host = address.host; port = address.port; id = node.0 }) node.1 node.2)) (map (λ (named : Named). (named.address.id, named.unique, labels_of journal named.name)) (filter (λ named. same_host named.address address) rest))))
      → SeatsOnce known (seats_of (map (λ (node : ℕ × ℕ × List (List ℕ)). (node.0, node_new (record { host = address.host; port = address.port; id = node.0 }) node.1 node.2)) (map (λ (named : Named). (named.address.id, named.unique, labels_of journal named.name)) (cond t (m ∷ filter (λ named. same_host named.address address) rest) (filter (λ named. same_host named.address address) rest)))))
  by_host true h more =
      let parts = and_parts (bytes_eq m.address.host address.host) (m.address.port == address.port) h in
      let at : m.address ≡ record { host = address.host; port = address.port; id = m.address.id } = ap (λ (x : List ℕ). record { host = x; port = m.address.port; id = m.address.id }) ((bytes_eq-Decides m.address.host address.host).0 parts.0) ∙ ap (λ (x : ℕ). record { host = address.host; port = x; id = m.address.id }) (number_is m.address.port address.port parts.1) in
      ((m, subst (λ (a : Address). find (λ (n : Named). same_node n.address a) known ≡ Some m) at f.0, refl), more)
  by_host false h more = more

fresh_seats : (known : Names) (journal : List Line) → AllFirst known (nodes_of journal) → (addresses : List Address) (p : ℕ) (cell : Cell × ℕ) → slice_get (map (λ (address : Address). (cell_at journal address, 0)) addresses) p ≡ Some cell → SeatsOnce known (seats_of cell.0.nodes)
fresh_seats known journal f [] p cell e = absurd cc
fresh_seats known journal f (a ∷ rest) zero cell e = let is : ◌≡◌ {A = Cell × ℕ} (cell_at journal a, 0) cell = cc in subst (λ (c : Cell × ℕ). SeatsOnce known (seats_of c.0.nodes)) is (seats_once known journal a (nodes_of journal) f)
fresh_seats known journal f (a ∷ rest) (suc p) cell e = fresh_seats known journal f rest p cell e

seat_once : (known : Names) (end : ℕ) (nodes : List (ℕ × NodeState)) (there : ℕ × NodeState) → SeatsOnce known (seats_of nodes) → find (is_at end) nodes ≡ Some there → IsOnce known there.1.own there.1.unique
seat_once known end [] there s e = absurd cc
seat_once known end (node ∷ rest) there s e = by_test (is_at end node) e (seat_once known end rest there s.1) where
  by_test : (b : Bool) → cond b (Some node) (find (is_at end) rest) ≡ Some there → (find (is_at end) rest ≡ Some there → IsOnce known there.1.own there.1.unique) → IsOnce known there.1.own there.1.unique
  by_test true e more = subst (λ (n : ℕ × NodeState). IsOnce known n.1.own n.1.unique) (some_is e) s.0
  by_test false e more = more e

unique_is : (known : Names) (name : List ℕ) (own : Address) (unique : ℕ) → AllFirst known known → is_declared known name ≡ true → own ≡ address_as known name → IsOnce known own unique → (named_as known name).unique ≡ unique
unique_is known name own unique all declared at once = by_found (find (is_named name) known) refl declared at where
  by_found : (o : Option Named) → find (is_named name) known ≡ o → is_some o ≡ true → own ≡ (or_nobody o).address → (or_nobody o).unique ≡ unique
  by_found None e some at = absurd cc
  by_found (Some d) e some at =
      let first : find (λ (n : Named). same_node n.address own) known ≡ Some d = subst (λ (a : Address). find (λ (n : Named). same_node n.address a) known ≡ Some d) (sym at) (found_first known (is_named name) known d all e) in
      let both : Some d ≡ Some once.0 = sym first ∙ once.1 in
      let is : d ≡ once.0 = cc in ap (λ (m : Named). m.unique) is ∙ once.2

-- a node has its name's unique number
pub unique_named : (journal : List Line) (log : List Entry) (world : World) (name : List ℕ) (place number end : ℕ) (cell : Cell × ℕ) (node : NodeState) → AreApart (names_of journal) → Sound journal log world → is_declared (names_of journal) name ≡ true → slice_get world.cells place ≡ Some cell → find (is_at end) cell.0.nodes ≡ Some (number, node) → node.own ≡ address_as (names_of journal) name
    → (named_as (names_of journal) name).unique ≡ node.unique
unique_named journal log world name place number end cell node apart sound declared at found own = unique_is (names_of journal) name node.own node.unique all declared own once where
  all : AllFirst (names_of journal) (names_of journal)
  all = all_first (names_of journal) apart

  once : IsOnce (names_of journal) node.own node.unique
  once = let h = homed_as world.cells (world_new journal).cells place cell sound.ends.homes at in
      seat_once (names_of journal) end cell.0.nodes (number, node) (subst (λ (home : Home). SeatsOnce (names_of journal) home.3) h.home (fresh_seats (names_of journal) journal (first_filtered (names_of journal) (λ named. named.is_node) (names_of journal) all) (first_of_hosts [] (nodes_of journal)) place h.other h.at)) found
