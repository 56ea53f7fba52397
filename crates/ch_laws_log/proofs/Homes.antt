-- Each node of a world has the address of its host and port, with the number of its endpoint; and a declared name is
-- what its address is called.
use Rattle.std.proofs.Common.{◌≡◌, ℕ, zero, suc, Bool, true, false, cond, ◌&&◌, List, [], ◌∷◌, ◌++◌, map, Ok, Err, refl, sym, ap, ◌∙◌, subst}
use Rattle.std.proofs.lemmas.Bool.{and_parts}
use Rattle.std.proofs.lemmas.List.Quantifiers.{position-Some}
use Rattle.std.proofs.lemmas.Slice.Eq.{bytes_eq-Decides}
use Rattle.std.specs.Prelude.{find, is_some, slice_get, get_or, Option, Some, None, ◌==◌}
use Rattle.std.specs.List.{list_any}
use Rattle.std.specs.Str.{bytes_eq}
use Rattle.ch_base.specs.declared.address.Address.{Address}
use Rattle.ch_watch.specs.Same.{same_node}
use Rattle.ch_model.specs.declared.entry.Entry.{Entry}
use Rattle.ch_model.specs.declared.line.Line.{Line}
use Rattle.ch_model.specs.declared.line.What.{What}
use Rattle.ch_model.specs.Cell.{opened_for, cell_new}
use Rattle.ch_model.specs.CellSteps.{is_at}
use Rattle.ch_model.specs.HostCalls.{host_new, host_open}
use Rattle.ch_model.specs.HostState.{HostState}
use Rattle.ch_model.specs.HostSteps.{is_endpoint}
use Rattle.ch_model.specs.Naming.{Names, is_named, or_nobody, address_as, called}
use Rattle.ch_model.specs.Node.{node_new}
use Rattle.ch_model.specs.NodeState.{NodeState}
use Rattle.ch_model.specs.Settle.{Happened}
use Rattle.ch_model.specs.World.{names_of, cell_at, world_new, world_step}
use Rattle.ch_model.specs.WorldSockets.{is_host_of, cell_of}
use Rattle.ch_model.specs.WorldState.{Cell, Named, World}
use Rattle.ch_laws_items.specs.Stays.{Who, seats_of}
use Rattle.ch_laws_world.specs.Grows.{Home, home_of, homes_of, Numbered}
use Rattle.ch_laws_world.proofs.Journals.{step_grows, grown}
use Rattle.ch_laws_log.specs.Declared.{AreApart, is_declared}
use Rattle.ch_laws_log.proofs.Kept.{LedOn}
use Rattle.ch_laws_log.proofs.Stored.{number_is, number_same, bytes_same}

abbrev address_at : List ℕ → ℕ → ℕ → Address
address_at host port id = record { host = host; port = port; id = id }

-- each seat is of a node with the address of the host, the port and the number of its endpoint
abbrev pub SeatsAt : List ℕ → ℕ → List (ℕ × Who) → Type 0
SeatsAt host port [] = Unit {0}
SeatsAt host port (seat ∷ rest) = (seat.1.0 ≡ address_at host port seat.0) × SeatsAt host port rest

abbrev pub AllAtHome : List (Cell × ℕ) → Type 0
AllAtHome [] = Unit {0}
AllAtHome (cell ∷ rest) = SeatsAt cell.0.host.host cell.0.host.port (seats_of cell.0.nodes) × AllAtHome rest

-- what lines keep of a world: its names, who lives where, and the order of its sockets
pub record Housed (journal : List Line) (world : World) : Type 0 where
  pub names : world.names ≡ names_of journal
  pub homes : AllAtHome world.cells
  pub numbered : Numbered world.sockets

-- ---- where nothing has happened

abbrev StaysThere : HostState → Bool × HostState → Type 0
StaysThere host done = (done.1.host ≡ host.host) × (done.1.port ≡ host.port)

one_opened : (end : ℕ) (host : HostState) → StaysThere host (host_open host end)
unfolding host_open
one_opened end host = by_test (list_any (is_endpoint end) host.ends) where
  by_test : (b : Bool) → StaysThere host (cond b (false, host) (true, record host { ends = host.ends ++ record { number = end; is_open = true; arrived = 0 } ∷ [] }))
  by_test true = (refl, refl)
  by_test false = (refl, refl)

all_opened : (nodes : List (ℕ × NodeState)) (host : HostState) → ((opened_for nodes host).host ≡ host.host) × ((opened_for nodes host).port ≡ host.port)
all_opened [] host = (refl, refl)
all_opened (node ∷ rest) host =
    let later = all_opened rest (host_open host node.0).1 in
    let one = one_opened node.0 host in
    (later.0 ∙ one.0, later.1 ∙ one.1)

made_seats : (host : List ℕ) (port : ℕ) (nodes : List (ℕ × ℕ × List (List ℕ))) → SeatsAt host port (seats_of (map (λ (node : ℕ × ℕ × List (List ℕ)). (node.0, node_new (address_at host port node.0) node.1 node.2)) nodes))
unfolding node_new
made_seats host port [] = tt
made_seats host port (node ∷ rest) = (refl, made_seats host port rest)

new_seats : (host : List ℕ) (port : ℕ) (circle : List (List ℕ)) (nodes : List (ℕ × ℕ × List (List ℕ))) → SeatsAt (cell_new host port circle nodes).host.host (cell_new host port circle nodes).host.port (seats_of (cell_new host port circle nodes).nodes)
new_seats host port circle nodes =
    let opened = all_opened (map (λ (node : ℕ × ℕ × List (List ℕ)). (node.0, node_new (address_at host port node.0) node.1 node.2)) nodes) (host_new host port circle) in
    subst (λ (h : List ℕ). SeatsAt h (cell_new host port circle nodes).host.port (seats_of (cell_new host port circle nodes).nodes)) (sym opened.0)
    (subst (λ (p : ℕ). SeatsAt host p (seats_of (cell_new host port circle nodes).nodes)) (sym opened.1) (made_seats host port nodes))

new_homes : (journal : List Line) (addresses : List Address) → AllAtHome (map (λ (address : Address). (cell_at journal address, 0)) addresses)
new_homes journal [] = tt
new_homes journal (address ∷ rest) = (new_seats address.host address.port _ _, new_homes journal rest)

pub fresh_housed : (journal : List Line) → Housed journal (world_new journal)
fresh_housed journal = record { names = refl; homes = new_homes journal _; numbered = tt }

-- ---- lines

home_kept : (before after : Cell) → home_of after ≡ home_of before → SeatsAt before.host.host before.host.port (seats_of before.nodes) → SeatsAt after.host.host after.host.port (seats_of after.nodes)
home_kept before after e at = subst (λ (h : Home). SeatsAt h.0 h.1 h.3) (sym e) at

homes_kept : (before after : List (Cell × ℕ)) → homes_of after ≡ homes_of before → AllAtHome before → AllAtHome after
homes_kept before [] e at = tt
homes_kept [] (next ∷ more) e at = absurd cc
homes_kept (known ∷ rest) (next ∷ more) e at =
    let head : home_of next.0 ≡ home_of known.0 = cc in
    let others : homes_of more ≡ homes_of rest = cc in
    (home_kept known.0 next.0 head at.0, homes_kept rest more others at.1)

pub housed_kept : (journal : List Line) (log : List Entry) (world : World) (number : ℕ) (what : What) → Housed journal world → LedOn (λ l w. Housed journal w) log (world_step world (record { number = number; what = what }))
housed_kept journal log world number what h = by_done (world_step world (record { number = number; what = what })) refl where
  by_done : (done : Happened) → world_step world (record { number = number; what = what }) ≡ done → LedOn (λ l w. Housed journal w) log done
  by_done (Ok done) e =
      let g = grown world done.1 done.0 (world_step world (record { number = number; what = what })) (step_grows world (record { number = number; what = what }) h.numbered) e in
      record { names = g.names ∙ h.names; homes = homes_kept world.cells done.1.cells g.homes h.homes; numbered = g.numbered }
  by_done (Err stop) e = tt

-- ---- a node by its address

seated : (host : List ℕ) (port end : ℕ) (nodes : List (ℕ × NodeState)) (there : ℕ × NodeState) → SeatsAt host port (seats_of nodes) → find (is_at end) nodes ≡ Some there → there.1.own ≡ address_at host port end
seated host port end [] there at e = absurd cc
seated host port end (known ∷ rest) there at e = by_test (known.0 == end) refl e (seated host port end rest there at.1) where
  by_test : (b : Bool) → (known.0 == end) ≡ b → cond b (Some known) (find (is_at end) rest) ≡ Some there → (find (is_at end) rest ≡ Some there → there.1.own ≡ address_at host port end) → there.1.own ≡ address_at host port end
  by_test true is e more = let same : known ≡ there = cc in ap (λ (n : ℕ × NodeState). n.1.own) (sym same) ∙ at.0 ∙ ap (address_at host port) (number_is known.0 end is)
  by_test false is e more = more e

home_at : (cells : List (Cell × ℕ)) (place : ℕ) (cell : Cell × ℕ) → AllAtHome cells → slice_get cells place ≡ Some cell → SeatsAt cell.0.host.host cell.0.host.port (seats_of cell.0.nodes)
home_at [] place cell at e = absurd cc
home_at (known ∷ rest) zero cell at e = let same : known ≡ cell = cc in subst (λ (c : Cell × ℕ). SeatsAt c.0.host.host c.0.host.port (seats_of c.0.nodes)) same at.0
home_at (known ∷ rest) (suc place) cell at e = home_at rest place cell at.1 e

get_is : (cells : List (Cell × ℕ)) (place : ℕ) (cell d : Cell × ℕ) → slice_get cells place ≡ Some cell → get_or cells place d ≡ cell
get_is [] place cell d e = absurd cc
get_is (known ∷ rest) zero cell d e = cc
get_is (known ∷ rest) (suc place) cell d e = get_is rest place cell d e

host_is : (own : Address) (cell : Cell × ℕ) → is_host_of own cell ≡ true → address_at cell.0.host.host cell.0.host.port own.id ≡ own
host_is own cell e = let parts = and_parts (bytes_eq cell.0.host.host own.host) (cell.0.host.port == own.port) e in
    ap (λ (h : List ℕ). address_at h cell.0.host.port own.id) ((bytes_eq-Decides cell.0.host.host own.host).0 parts.0) ∙ ap (λ (p : ℕ). address_at own.host p own.id) (number_is cell.0.host.port own.port parts.1)

-- the node at an address's host and endpoint has this address
pub own_is : (journal : List Line) (world : World) (own : Address) (place : ℕ) (cell : Cell × ℕ) (there : ℕ × NodeState) → Housed journal world → cell_of world own ≡ Some place → slice_get world.cells place ≡ Some cell → find (is_at own.id) cell.0.nodes ≡ Some there → there.1.own ≡ own
own_is journal world own place cell there h of at is =
    seated cell.0.host.host cell.0.host.port own.id cell.0.nodes there (home_at world.cells place cell h.homes at) is
    ∙ host_is own cell (subst (λ (c : Cell × ℕ). is_host_of own c ≡ true) (get_is world.cells place cell cell at) (position-Some (is_host_of own) world.cells place cell of).1)

-- ---- names

pub node_self : (a : Address) → same_node a a ≡ true
unfolding same_node
node_self a = ap (λ b. b && ((a.port == a.port) && (a.id == a.id))) (bytes_same a.host) ∙ ap (λ b. b && (a.id == a.id)) (number_same a.port) ∙ number_same a.id

not_among : (p q : Named → Bool) (known : Names) (d : Named) → find p known ≡ None → find q known ≡ Some d → p d ≡ false
not_among p q [] d none e = absurd cc
not_among p q (n ∷ rest) d none e = by_tests (p n) refl (q n) none e (not_among p q rest d) where
  by_tests : (a : Bool) → p n ≡ a → (b : Bool) → cond a (Some n) (find p rest) ≡ None → cond b (Some n) (find q rest) ≡ Some d → (find p rest ≡ None → find q rest ≡ Some d → p d ≡ false) → p d ≡ false
  by_tests true h b none e more = absurd cc
  by_tests false h true none e more = let same : n ≡ d = cc in subst (λ (m : Named). p m ≡ false) same h
  by_tests false h false none e more = more none e

found_again : (known : Names) (name : List ℕ) (d : Named) → AreApart known → find (is_named name) known ≡ Some d → find (λ (n : Named). same_node n.address d.address) known ≡ Some d
found_again [] name d apart e = absurd cc
found_again (n ∷ rest) name d apart e = by_test (is_named name n) e (found_again rest name d apart.1) where
  by_test : (b : Bool) → cond b (Some n) (find (is_named name) rest) ≡ Some d → (find (is_named name) rest ≡ Some d → find (λ (m : Named). same_node m.address d.address) rest ≡ Some d) → cond (same_node n.address d.address) (Some n) (find (λ (m : Named). same_node m.address d.address) rest) ≡ Some d
  by_test true e more = let same : n ≡ d = cc in ap (λ b. cond b (Some n) (find (λ (m : Named). same_node m.address d.address) rest)) (ap (λ (m : Named). same_node m.address d.address) same ∙ node_self d.address) ∙ ap Some same
  by_test false e more = ap (λ b. cond b (Some n) (find (λ (m : Named). same_node m.address d.address) rest)) (not_among (λ (m : Named). same_node n.address m.address) (is_named name) rest d apart.0 e) ∙ more e

-- a declared name is what its address is called
pub called_so : (known : Names) (name : List ℕ) → AreApart known → is_declared known name ≡ true → called known (address_as known name) ≡ name
called_so known name apart declared = by_found (find (is_named name) known) refl declared where
  named : (ns : Names) (d : Named) → find (is_named name) ns ≡ Some d → d.name ≡ name
  named [] d e = absurd cc
  named (n ∷ rest) d e = by_test (bytes_eq n.name name) refl e (named rest d) where
    by_test : (b : Bool) → bytes_eq n.name name ≡ b → cond b (Some n) (find (is_named name) rest) ≡ Some d → (find (is_named name) rest ≡ Some d → d.name ≡ name) → d.name ≡ name
    by_test true h e more = let same : n ≡ d = cc in ap (λ (m : Named). m.name) (sym same) ∙ (bytes_eq-Decides n.name name).0 h
    by_test false h e more = more e

  by_found : (o : Option Named) → find (is_named name) known ≡ o → is_some o ≡ true → called known (or_nobody o).address ≡ name
  by_found None e some = absurd cc
  by_found (Some d) e some = ap (λ (o : Option Named). (or_nobody o).name) (found_again known name d apart e) ∙ named known d e
