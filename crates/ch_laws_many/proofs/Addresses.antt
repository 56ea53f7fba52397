-- Declared names: each is of a node, whose address has a cell in the world and a host in the journal.
use Rattle.std.proofs.Common.{◌≡◌, ℕ, suc, ◌+◌, Bool, true, false, cond, not, ◌&&◌, ◌||◌, List, [], ◌∷◌, ◌++◌, length, map, refl, sym, ap, ◌∙◌, subst, arith}
use Rattle.std.proofs.lemmas.Bool.{and_parts}
use Rattle.std.proofs.lemmas.Bool.Decides.{nat_tests}
use Rattle.std.proofs.lemmas.Slice.Eq.{bytes_eq-Decides}
use Rattle.std.specs.List.{list_any, prefix_len}
use Rattle.std.specs.Prelude.{find, filter, is_some, position, Option, Some, None, nat_lt, ◌==◌}
use Rattle.std.specs.Option.{option_map}
use Rattle.std.specs.Str.{bytes_eq}
use Rattle.ch_base.specs.declared.address.Address.{Address}
use Rattle.ch_watch.specs.Same.{same_node}
use Rattle.ch_model.specs.declared.line.Line.{Line}
use Rattle.ch_model.specs.declared.line.What.{What}
use Rattle.ch_model.specs.declared.line.What.TheVariants as lines
use Rattle.ch_model.specs.Cell.{opened_for, cell_new}
use Rattle.ch_model.specs.Declarations.{Peer, peer, is_hosted_by, has_host, declares_stranger, is_stranger}
use Rattle.ch_model.specs.Fields.{is_node_name_of}
use Rattle.ch_model.specs.HostCalls.{host_new, host_open}
use Rattle.ch_model.specs.HostState.{HostState}
use Rattle.ch_model.specs.HostSteps.{is_endpoint}
use Rattle.ch_model.specs.Logs.{or_else, some_and}
use Rattle.ch_model.specs.Naming.{is_named, or_nobody, called}
use Rattle.ch_model.specs.Node.{node_new}
use Rattle.ch_model.specs.NodeState.{NodeState}
use Rattle.ch_model.specs.World.{names_of, nodes_of, labels_of, same_host, first_of_hosts, cell_at, world_new}
use Rattle.ch_model.specs.WorldSockets.{is_host_of, cell_of}
use Rattle.ch_model.specs.WorldState.{Named, World}
use Rattle.ch_laws_world.specs.Grows.{homes_of}
use Rattle.ch_laws_world.proofs.Journals.{address_stays}
use Rattle.ch_laws_log.specs.Declared.{is_declared}
use Rattle.ch_laws_log.specs.Lines.{AllLines}
use Rattle.ch_laws_log.proofs.Keys.{node_is}
use Rattle.ch_laws_log.proofs.Stored.{number_is, number_same, bytes_same}
use Rattle.ch_laws_many.specs.ManyLines.{is_of_many}

-- each address has a cell
abbrev pub AllHomed : World → List Named → Type 0
AllHomed world [] = Unit {0}
AllHomed world (named ∷ rest) = (is_some (cell_of world named.address) ≡ true) × AllHomed world rest

pub homed_still : (one two : World) (known : List Named) → homes_of two.cells ≡ homes_of one.cells → AllHomed one known → AllHomed two known
homed_still one two [] e h = tt
homed_still one two (named ∷ rest) e h = (ap is_some (address_stays named.address one two e) ∙ h.0, homed_still one two rest e h.1)

-- each name is one of a node
abbrev pub AllNamed : List Named → Type 0
AllNamed [] = Unit {0}
AllNamed (named ∷ rest) = (is_node_name_of named.name ≡ true) × (named.is_node ≡ true) × AllNamed rest

pub names_named : (known : List Named) (journal : List Line) → AllLines (is_of_many known) journal → AllNamed (names_of journal)
names_named known [] all = tt
names_named known (line ∷ rest) all = by_line line.what all.0 (names_named known rest all.1) where
  by_line : (what : What) → is_of_many known what ≡ true → AllNamed (names_of rest) → AllNamed (names_of (record { number = 0; what = what } ∷ rest))
  by_line (lines.Node name address unique) e more = (e, refl, more)
  by_line (lines.Proc node) e more = more
  by_line (lines.Send by to mark body) e more = more
  by_line (lines.Recv by mark) e more = more
  by_line (lines.End by) e more = more
  by_line (lines.Join sock) e more = more
  by_line (lines.Come sock) e more = more
  by_line (lines.Feed sock end count) e more = more
  by_line (lines.Away name address unique) e more = absurd cc
  by_line what e more = more

-- nobody's name is declared
not_nobody : (known : List Named) → AllNamed known → is_declared known [] ≡ true → ⊥
not_nobody [] all e = cc
not_nobody (named ∷ rest) all e = by_name named.name refl all.0 (not_nobody rest all.2) e where
  by_name : (name : List ℕ) → named.name ≡ name → is_node_name_of named.name ≡ true → (is_declared rest [] ≡ true → ⊥) → is_some (cond (bytes_eq named.name []) (Some named) (find (is_named []) rest)) ≡ true → ⊥
  by_name [] is named_so more e = let no : is_node_name_of [] ≡ true = subst (λ (n : List ℕ). is_node_name_of n ≡ true) is named_so in absurd cc
  by_name (b ∷ bs) is named_so more e = more (sym (ap (λ (n : List ℕ). is_some (cond (bytes_eq n []) (Some named) (find (is_named []) rest))) is) ∙ e)

-- an address that has a declared name has a cell
pub called_homed : (world : World) (known : List Named) (at : Address) → AllNamed known → AllHomed world known → is_declared known (called known at) ≡ true → is_some (cell_of world at) ≡ true
called_homed world known at all homed declared = by_found (find (λ (n : Named). same_node n.address at) known) refl declared where
  found_homed : (ns : List Named) (d : Named) → AllHomed world ns → find (λ (n : Named). same_node n.address at) ns ≡ Some d → is_some (cell_of world at) ≡ true
  found_homed [] d h e = absurd cc
  found_homed (n ∷ rest) d h e = by_test (same_node n.address at) refl e (found_homed rest d h.1) where
    by_test : (b : Bool) → same_node n.address at ≡ b → cond b (Some n) (find (λ (m : Named). same_node m.address at) rest) ≡ Some d → (find (λ (m : Named). same_node m.address at) rest ≡ Some d → is_some (cell_of world at) ≡ true) → is_some (cell_of world at) ≡ true
    by_test true is e more = subst (λ (a : Address). is_some (cell_of world a) ≡ true) (node_is n.address at is) h.0
    by_test false is e more = more e

  by_found : (o : Option Named) → find (λ (n : Named). same_node n.address at) known ≡ o → is_declared known (or_nobody o).name ≡ true → is_some (cell_of world at) ≡ true
  by_found None e declared = absurd (not_nobody known all declared)
  by_found (Some d) e declared = found_homed known d homed e

-- ---- the world where nothing has happened

one_opened : (end : ℕ) (host : HostState) → ((host_open host end).1.host ≡ host.host) × ((host_open host end).1.port ≡ host.port)
unfolding host_open
one_opened end host = by_test (list_any (is_endpoint end) host.ends) where
  after : Bool → HostState
  after b = (cond {A = Bool × HostState} b (false, host) (true, record host { ends = host.ends ++ record { number = end; is_open = true; arrived = 0 } ∷ [] })).1

  by_test : (b : Bool) → ((after b).host ≡ host.host) × ((after b).port ≡ host.port)
  by_test true = (refl, refl)
  by_test false = (refl, refl)

pub all_opened : (nodes : List (ℕ × NodeState)) (host : HostState) → ((opened_for nodes host).host ≡ host.host) × ((opened_for nodes host).port ≡ host.port)
all_opened [] host = (refl, refl)
all_opened (node ∷ rest) host =
    let later = all_opened rest (host_open host node.0).1 in
    let one = one_opened node.0 host in
    (later.0 ∙ one.0, later.1 ∙ one.1)

pub both : (a b : Bool) → a ≡ true → b ≡ true → (a && b) ≡ true
both true true p q = refl
both true false p q = q
both false b p q = p

new_at : (host : List ℕ) (port : ℕ) (circle : List (List ℕ)) (nodes : List (ℕ × ℕ × List (List ℕ))) (number : ℕ) → is_host_of (record { host = host; port = port; id = number }) (cell_new host port circle nodes, 0) ≡ true
new_at host port circle nodes number =
    let opened = all_opened (map (λ (node : ℕ × ℕ × List (List ℕ)). (node.0, node_new (record { host = host; port = port; id = node.0 }) node.1 node.2)) nodes) (host_new host port circle) in
    both (bytes_eq (cell_new host port circle nodes).host.host host) ((cell_new host port circle nodes).host.port == port)
    (ap (λ (h : List ℕ). bytes_eq h host) opened.0 ∙ bytes_same host) (ap (λ (p : ℕ). p == port) opened.1 ∙ number_same port)

-- an address of the host is at the host's cell
cell_is : (journal : List Line) (at address : Address) → same_host at address ≡ true → is_host_of at (cell_at journal address, 0) ≡ true
cell_is journal at address same = let parts = and_parts (bytes_eq at.host address.host) (at.port == address.port) same in
    subst (λ (h : List ℕ). is_host_of (record { host = h; port = at.port; id = at.id }) (cell_at journal address, 0) ≡ true) (sym ((bytes_eq-Decides at.host address.host).0 parts.0))
    (subst (λ (p : ℕ). is_host_of (record { host = address.host; port = p; id = at.id }) (cell_at journal address, 0) ≡ true) (sym (number_is at.port address.port parts.1))
    (new_at address.host address.port (map (λ (named : Named). named.address.host) (nodes_of journal))
    (map (λ (named : Named). (named.address.id, named.unique, labels_of journal named.name)) (filter (λ (named : Named). same_host named.address address) (nodes_of journal))) at.id))

-- where one passes, a first one is found
pub is_placed : {X : Type 0} (p : X → Bool) (xs : List X) → list_any p xs ≡ true → is_some (position p xs) ≡ true
is_placed p xs e = by_test (nat_lt (prefix_len (λ x. not (p x)) xs) (length xs)) (before xs e) where
  before : (ys : _) → list_any p ys ≡ true → nat_lt (prefix_len (λ x. not (p x)) ys) (length ys) ≡ true
  before [] e = absurd cc
  before (y ∷ ys) e = by_one (p y) e (before ys) where
    later : (n l : ℕ) → nat_lt n l ≡ true → nat_lt (1 + n) (suc l) ≡ true
    later n l h = grind (arith, nat_tests)

    first : (l : ℕ) → nat_lt 0 (suc l) ≡ true
    first l = grind (arith, nat_tests)

    by_one : (b : Bool) → (b || list_any p ys) ≡ true → (list_any p ys ≡ true → nat_lt (prefix_len (λ x. not (p x)) ys) (length ys) ≡ true) → nat_lt (cond (not b) (1 + prefix_len (λ x. not (p x)) ys) 0) (suc (length ys)) ≡ true
    by_one true e more = first (length ys)
    by_one false e more = later (prefix_len (λ x. not (p x)) ys) (length ys) (more e)

  by_test : (b : Bool) → b ≡ true → is_some (cond b (Some (prefix_len (λ x. not (p x)) xs)) None) ≡ true
  by_test true e = refl
  by_test false e = e

same_host_self : (a : Address) → same_host a a ≡ true
same_host_self a = both (bytes_eq a.host a.host) (a.port == a.port) (bytes_same a.host) (number_same a.port)

-- each address is of a host that is kept, or was before
abbrev AreKept : List Address → List Address → List Named → Type 0
AreKept known kept [] = Unit {0}
AreKept known kept (named ∷ rest) = ((list_any (same_host named.address) known || list_any (same_host named.address) kept) ≡ true) × AreKept known kept rest

kept_more : (known kept : List Address) (new : Address) (all : List Named) → AreKept (new ∷ known) kept all → AreKept known (new ∷ kept) all
kept_more known kept new [] k = tt
kept_more known kept new (named ∷ rest) k = (moved (same_host named.address new) (list_any (same_host named.address) known) (list_any (same_host named.address) kept) k.0, kept_more known kept new rest k.1) where
  moved : (a b c : Bool) → ((a || b) || c) ≡ true → (b || (a || c)) ≡ true
  moved true true c e = refl
  moved true false c e = refl
  moved false b c e = e

hosts_kept : (known : List Address) (all : List Named) → AreKept known (first_of_hosts known all) all
hosts_kept known [] = tt
hosts_kept known (named ∷ rest) = by_test (list_any (same_host named.address) known) refl (hosts_kept known rest) (hosts_kept (named.address ∷ known) rest) where
  by_test : (b : Bool) → list_any (same_host named.address) known ≡ b → AreKept known (first_of_hosts known rest) rest → AreKept (named.address ∷ known) (first_of_hosts (named.address ∷ known) rest) rest
      → AreKept known (cond b (first_of_hosts known rest) (named.address ∷ first_of_hosts (named.address ∷ known) rest)) (named ∷ rest)
  by_test true e more other = (ap (λ b. b || list_any (same_host named.address) (first_of_hosts known rest)) e, more)
  by_test false e more other = (
    ap (λ b. b || (same_host named.address named.address || list_any (same_host named.address) (first_of_hosts (named.address ∷ known) rest))) e ∙ ap (λ b. b || list_any (same_host named.address) (first_of_hosts (named.address ∷ known) rest)) (same_host_self named.address),
    kept_more known (first_of_hosts (named.address ∷ known) rest) named.address rest other,
  )

among_cells : (journal : List Line) (at : Address) (addresses : List Address) → list_any (same_host at) addresses ≡ true → list_any (is_host_of at) (map (λ (address : Address). (cell_at journal address, 0)) addresses) ≡ true
among_cells journal at [] e = e
among_cells journal at (address ∷ rest) e = by_test (same_host at address) refl e (among_cells journal at rest) where
  first : (a b : Bool) → a ≡ true → (a || b) ≡ true
  first true b e = refl
  first false b e = absurd cc

  second : (a b : Bool) → b ≡ true → (a || b) ≡ true
  second true b e = refl
  second false b e = e

  by_test : (b : Bool) → same_host at address ≡ b → (b || list_any (same_host at) rest) ≡ true → (list_any (same_host at) rest ≡ true → list_any (is_host_of at) (map (λ (address : Address). (cell_at journal address, 0)) rest) ≡ true)
      → (is_host_of at (cell_at journal address, 0) || list_any (is_host_of at) (map (λ (address : Address). (cell_at journal address, 0)) rest)) ≡ true
  by_test true is e more = first (is_host_of at (cell_at journal address, 0)) (list_any (is_host_of at) (map (λ (address : Address). (cell_at journal address, 0)) rest)) (cell_is journal at address is)
  by_test false is e more = second (is_host_of at (cell_at journal address, 0)) (list_any (is_host_of at) (map (λ (address : Address). (cell_at journal address, 0)) rest)) (more e)

pub nodes_are : (known : List Named) → AllNamed known → filter (λ (named : Named). named.is_node) known ≡ known
nodes_are [] all = refl
nodes_are (named ∷ rest) all = by_test named.is_node all.1 (nodes_are rest all.2) where
  by_test : (b : Bool) → b ≡ true → filter (λ (n : Named). n.is_node) rest ≡ rest → cond b (named ∷ filter (λ (n : Named). n.is_node) rest) (filter (λ (n : Named). n.is_node) rest) ≡ named ∷ rest
  by_test true e more = ap (λ l. named ∷ l) more
  by_test false e more = absurd cc

pub fresh_homed : (journal : List Line) → AllNamed (names_of journal) → AllHomed (world_new journal) (names_of journal)
fresh_homed journal all = each (names_of journal) (subst (λ (ns : List Named). AreKept [] (first_of_hosts [] (nodes_of journal)) ns) (nodes_are (names_of journal) all) (hosts_kept [] (nodes_of journal))) where
  each : (ns : List Named) → AreKept [] (first_of_hosts [] (nodes_of journal)) ns → AllHomed (world_new journal) ns
  each [] k = tt
  each (named ∷ rest) k = (is_placed (is_host_of named.address) (world_new journal).cells (among_cells journal named.address (first_of_hosts [] (nodes_of journal)) k.0), each rest k.1)

-- ---- hosts and strangers

-- a declared name has a host: its own node's
pub declared_hosted : (known : List Named) (journal : List Line) (name : List ℕ) → AllLines (is_of_many known) journal → is_declared (names_of journal) name ≡ true → has_host journal name ≡ true
declared_hosted known journal name all declared = by_peer (peer journal name) (found journal all declared) where
  Hosts : List Line → Option Peer → Type 0
  Hosts within None = ⊥
  Hosts within (Some p) = list_any (λ (line : Line). is_hosted_by p.address line.what) within ≡ true

  later : (line : Line) (within : List Line) (o : Option Peer) → Hosts within o → Hosts (line ∷ within) o
  later line within None h = h
  later line within (Some p) h = second (is_hosted_by p.address line.what) (list_any (λ (l : Line). is_hosted_by p.address l.what) within) h where
    second : (a b : Bool) → b ≡ true → (a || b) ≡ true
    second true b e = refl
    second false b e = e

  found : (within : List Line) → AllLines (is_of_many known) within → is_declared (names_of within) name ≡ true → Hosts within (peer within name)
  found [] all e = absurd cc
  found (line ∷ rest) all e = by_line line.what refl all.0 e (found rest all.1) where
    Rest : Type 0
    Rest = is_declared (names_of rest) name ≡ true → Hosts rest (peer rest name)

    by_line : (what : What) → line.what ≡ what → is_of_many known what ≡ true → is_declared (names_of (record { number = line.number; what = what } ∷ rest)) name ≡ true → Rest → Hosts (record { number = line.number; what = what } ∷ rest) (peer (record { number = line.number; what = what } ∷ rest) name)
    by_line (lines.Node own address unique) is of e more = by_test (bytes_eq own name) e where
      self : (a b c : Bool) → a ≡ true → b ≡ true → ((a && b) || c) ≡ true
      self true true c p q = refl
      self true false c p q = absurd cc
      self false b c p q = absurd cc

      here : Line
      here = record { number = line.number; what = lines.Node own address unique }

      by_test : (b : Bool) → is_some (cond {A = Option Named} b (Some (record { name = own; address = address; unique = unique; is_node = true })) (find (is_named name) (names_of rest))) ≡ true → Hosts (here ∷ rest) (or_else (cond {A = Option Peer} b (Some (record { address = address; unique = unique; is_node = true })) None) (peer rest name))
      by_test true e = self (bytes_eq address.host address.host) (address.port == address.port) (list_any (λ (l : Line). is_hosted_by address l.what) rest) (bytes_same address.host) (number_same address.port)
      by_test false e = later here rest (peer rest name) (more e)
    by_line (lines.Proc node) is of e more = later (record { number = line.number; what = lines.Proc node }) rest (peer rest name) (more e)
    by_line (lines.Send by to mark body) is of e more = later (record { number = line.number; what = lines.Send by to mark body }) rest (peer rest name) (more e)
    by_line (lines.Recv by mark) is of e more = later (record { number = line.number; what = lines.Recv by mark }) rest (peer rest name) (more e)
    by_line (lines.End by) is of e more = later (record { number = line.number; what = lines.End by }) rest (peer rest name) (more e)
    by_line (lines.Join sock) is of e more = later (record { number = line.number; what = lines.Join sock }) rest (peer rest name) (more e)
    by_line (lines.Come sock) is of e more = later (record { number = line.number; what = lines.Come sock }) rest (peer rest name) (more e)
    by_line (lines.Feed sock end count) is of e more = later (record { number = line.number; what = lines.Feed sock end count }) rest (peer rest name) (more e)
    by_line what is of e more = absurd cc

  by_peer : (o : Option Peer) → Hosts journal o → some_and (λ at. list_any (λ (line : Line). is_hosted_by at line.what) journal) (option_map (λ (p : Peer). p.address) o) ≡ true
  by_peer None h = absurd h
  by_peer (Some p) h = h

-- no name is a stranger's
pub no_stranger : (known : List Named) (journal : List Line) (name : List ℕ) → AllLines (is_of_many known) journal → is_stranger journal name ≡ false
no_stranger known [] name all = refl
no_stranger known (line ∷ rest) name all = by_line line.what all.0 (no_stranger known rest name all.1) where
  by_line : (what : What) → is_of_many known what ≡ true → is_stranger rest name ≡ false → (declares_stranger name what || is_stranger rest name) ≡ false
  by_line (lines.Stranger own host) e more = absurd cc
  by_line what e more = more
