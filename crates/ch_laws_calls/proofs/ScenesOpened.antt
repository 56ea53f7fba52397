-- A host of a new world: its endpoints are open, and all else is as a new host has it.
use Rattle.std.proofs.Common.{◌≡◌, ℕ, Bool, true, false, cond, ◌&&◌, ◌||◌, List, [], ◌∷◌, ◌++◌, map, refl, ap, ◌∙◌, subst}
use Rattle.std.proofs.lemmas.List.Folds.{list_any-append}
use Rattle.std.specs.List.{list_any}
use Rattle.std.specs.Prelude.{◌==◌, find, filter, Some}
use Rattle.std.specs.Str.{bytes_eq}
use Rattle.ch_base.specs.declared.address.Address.{Address}
use Rattle.ch_model.specs.declared.line.Line.{Line}
use Rattle.ch_model.specs.Cell.{opened_for}
use Rattle.ch_model.specs.HostCalls.{host_new, host_open}
use Rattle.ch_model.specs.HostState.{Endpoint, HostState}
use Rattle.ch_model.specs.HostSteps.{is_endpoint, is_open_endpoint}
use Rattle.ch_model.specs.Naming.{Names, is_named}
use Rattle.ch_model.specs.Node.{node_new}
use Rattle.ch_model.specs.NodeState.{NodeState}
use Rattle.ch_model.specs.World.{nodes_of, labels_of, same_host, cell_at}
use Rattle.ch_model.specs.WorldState.{Named}
use Rattle.ch_laws_log.proofs.Stored.{number_is, number_same}
use Rattle.ch_laws_calls.proofs.ScenesPlaces.{first_or, second_or}

-- ---- what opening keeps

abbrev KeepsEnds : {A : Type 0} → (HostState → A) → Type 0
KeepsEnds f = (host : HostState) (ends : List Endpoint) → f (record host { ends = ends }) ≡ f host

one_keeps : {A : Type 0} (f : HostState → A) → KeepsEnds f → (end : ℕ) (host : HostState) → f (host_open host end).1 ≡ f host
unfolding host_open
one_keeps f keeps end host = by_test (list_any (is_endpoint end) host.ends) where
  by_test : (b : Bool) → f (cond {A = Bool × HostState} b (false, host) (true, record host { ends = host.ends ++ record { number = end; is_open = true; arrived = 0 } ∷ [] })).1 ≡ f host
  by_test true = refl
  by_test false = keeps host (host.ends ++ record { number = end; is_open = true; arrived = 0 } ∷ [])

all_keep : {A : Type 0} (f : HostState → A) → KeepsEnds f → (nodes : List (ℕ × NodeState)) (host : HostState) → f (opened_for nodes host) ≡ f host
all_keep f keeps [] host = refl
all_keep f keeps (node ∷ rest) host = all_keep f keeps rest (host_open host node.0).1 ∙ one_keeps f keeps node.0 host

-- ---- endpoints

abbrev AllOpen : List Endpoint → Type 0
AllOpen [] = Unit {0}
AllOpen (end ∷ rest) = (end.is_open ≡ true) × AllOpen rest

open_more : (ends : List Endpoint) (new : Endpoint) → new.is_open ≡ true → AllOpen ends → AllOpen (ends ++ new ∷ [])
open_more [] new e all = (e, tt)
open_more (end ∷ rest) new e all = (all.0, open_more rest new e all.1)

-- an endpoint that is there is open
is_open_there : (ends : List Endpoint) (m : ℕ) → AllOpen ends → list_any (is_endpoint m) ends ≡ true → list_any (is_open_endpoint m) ends ≡ true
is_open_there [] m all h = h
is_open_there (end ∷ rest) m all h = by_test (end.number == m) end.is_open all.0 h (is_open_there rest m all.1) where
  by_test : (b c : Bool) → c ≡ true → (b || list_any (is_endpoint m) rest) ≡ true → (list_any (is_endpoint m) rest ≡ true → list_any (is_open_endpoint m) rest ≡ true) → ((b && c) || list_any (is_open_endpoint m) rest) ≡ true
  by_test true true e h more = refl
  by_test true false e h more = absurd cc
  by_test false c e h more = more h

-- this endpoint is there, among open ones
record HasOpen (m : ℕ) (ends : List Endpoint) : Type 0 where
  all : AllOpen ends
  there : list_any (is_endpoint m) ends ≡ true

one_open : (n : ℕ) (host : HostState) → AllOpen host.ends → AllOpen (host_open host n).1.ends × (list_any (is_endpoint n) (host_open host n).1.ends ≡ true)
unfolding host_open
one_open n host all = by_test (list_any (is_endpoint n) host.ends) refl where
  new : Endpoint
  new = record { number = n; is_open = true; arrived = 0 }

  after : Bool → HostState
  after b = (cond {A = Bool × HostState} b (false, host) (true, record host { ends = host.ends ++ new ∷ [] })).1

  by_test : (b : Bool) → list_any (is_endpoint n) host.ends ≡ b → AllOpen (after b).ends × (list_any (is_endpoint n) (after b).ends ≡ true)
  by_test true h = (all, h)
  by_test false h = (
    open_more host.ends new refl all,
    list_any-append (is_endpoint n) host.ends (new ∷ []) ∙ second_or (list_any (is_endpoint n) host.ends) ((n == n) || false) (first_or (n == n) false (number_same n)),
  )

still_there : (n m : ℕ) (host : HostState) → list_any (is_endpoint m) host.ends ≡ true → list_any (is_endpoint m) (host_open host n).1.ends ≡ true
unfolding host_open
still_there n m host there = by_test (list_any (is_endpoint n) host.ends) where
  new : Endpoint
  new = record { number = n; is_open = true; arrived = 0 }

  by_test : (b : Bool) → list_any (is_endpoint m) (cond {A = Bool × HostState} b (false, host) (true, record host { ends = host.ends ++ new ∷ [] })).1.ends ≡ true
  by_test true = there
  by_test false = list_any-append (is_endpoint m) host.ends (new ∷ []) ∙ first_or (list_any (is_endpoint m) host.ends) (list_any (is_endpoint m) (new ∷ [])) there

keeps_open : (nodes : List (ℕ × NodeState)) (host : HostState) (m : ℕ) → HasOpen m host.ends → HasOpen m (opened_for nodes host).ends
keeps_open [] host m has = has
keeps_open (node ∷ rest) host m has = keeps_open rest (host_open host node.0).1 m (record { all = (one_open node.0 host has.all).0; there = still_there node.0 m host has.there })

all_open : (nodes : List (ℕ × NodeState)) (host : HostState) (m : ℕ) → AllOpen host.ends → list_any (λ (node : ℕ × NodeState). node.0 == m) nodes ≡ true → HasOpen m (opened_for nodes host).ends
all_open [] host m all any = absurd cc
all_open (node ∷ rest) host m all any = by_test (node.0 == m) refl any (all_open rest (host_open host node.0).1 m one.0) where
  one : AllOpen (host_open host node.0).1.ends × (list_any (is_endpoint node.0) (host_open host node.0).1.ends ≡ true)
  one = one_open node.0 host all

  by_test : (b : Bool) → (node.0 == m) ≡ b → (b || list_any (λ (n : ℕ × NodeState). n.0 == m) rest) ≡ true → (list_any (λ (n : ℕ × NodeState). n.0 == m) rest ≡ true → HasOpen m (opened_for rest (host_open host node.0).1).ends) → HasOpen m (opened_for rest (host_open host node.0).1).ends
  by_test true h any more = keeps_open rest (host_open host node.0).1 m (record { all = one.0; there = subst (λ (k : ℕ). list_any (is_endpoint k) (host_open host node.0).1.ends ≡ true) (number_is node.0 m h) one.1 })
  by_test false h any more = more any

-- ---- the nodes of a host

abbrev named_at : List Line → Address → Names → List (ℕ × NodeState)
named_at journal address known = map (λ (node : ℕ × ℕ × List (List ℕ)). (node.0, node_new (record { host = address.host; port = address.port; id = node.0 }) node.1 node.2)) (map (λ (n : Named). (n.address.id, n.unique, labels_of journal n.name)) (filter (λ (n : Named). same_host n.address address) known))

-- one whose address is there is among them
is_among : (journal : List Line) (address : Address) (known : Names) (name : List ℕ) (d : Named) → find (is_named name) known ≡ Some d → same_host d.address address ≡ true → list_any (λ (node : ℕ × NodeState). node.0 == d.address.id) (named_at journal address known) ≡ true
is_among journal address [] name d found here = absurd cc
is_among journal address (n ∷ rest) name d found here = by_name (bytes_eq n.name name) found (is_among journal address rest name d) where
  Rest : Bool
  Rest = list_any (λ (node : ℕ × NodeState). node.0 == d.address.id) (named_at journal address rest)

  among : Bool → Bool
  among b = list_any (λ (node : ℕ × NodeState). node.0 == d.address.id) (map (λ (node : ℕ × ℕ × List (List ℕ)). (node.0, node_new (record { host = address.host; port = address.port; id = node.0 }) node.1 node.2)) (map (λ (m : Named). (m.address.id, m.unique, labels_of journal m.name)) (cond b (n ∷ filter (λ (m : Named). same_host m.address address) rest) (filter (λ (m : Named). same_host m.address address) rest))))

  later : (b : Bool) → Rest ≡ true → among b ≡ true
  later true h = second_or (n.address.id == d.address.id) Rest h
  later false h = h

  by_name : (b : Bool) → cond b (Some n) (find (is_named name) rest) ≡ Some d → (find (is_named name) rest ≡ Some d → same_host d.address address ≡ true → Rest ≡ true) → among (same_host n.address address) ≡ true
  by_name true found more =
      let same : n ≡ d = cc in
      ap among (ap (λ (m : Named). same_host m.address address) same ∙ here) ∙ first_or (n.address.id == d.address.id) Rest (ap (λ (m : Named). m.address.id == d.address.id) same ∙ number_same d.address.id)
  by_name false found more = later (same_host n.address address) (more found here)

-- so its endpoint is open
pub open_at : (journal : List Line) (address : Address) (name : List ℕ) (d : Named) → find (is_named name) (nodes_of journal) ≡ Some d → same_host d.address address ≡ true → list_any (is_open_endpoint d.address.id) (cell_at journal address).host.ends ≡ true
open_at journal address name d found here =
    let has = all_open (named_at journal address (nodes_of journal)) (host_new address.host address.port (map (λ (n : Named). n.address.host) (nodes_of journal))) d.address.id tt (is_among journal address (nodes_of journal) name d found here) in
    is_open_there (cell_at journal address).host.ends d.address.id has.all has.there

-- what a new host has but its endpoints
pub keeps_at : {A : Type 0} (f : HostState → A) → ((host : HostState) (ends : List Endpoint) → f (record host { ends = ends }) ≡ f host) → (journal : List Line) (address : Address) → f (cell_at journal address).host ≡ f (host_new address.host address.port (map (λ (n : Named). n.address.host) (nodes_of journal)))
keeps_at f keeps journal address = all_keep f keeps (named_at journal address (nodes_of journal)) (host_new address.host address.port (map (λ (n : Named). n.address.host) (nodes_of journal)))
