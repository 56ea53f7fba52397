-- Each host of a journal's world is of one of its nodes, and takes the host texts of all.
use Rattle.std.proofs.Common.{◌≡◌, ℕ, zero, suc, Bool, true, false, cond, ◌||◌, List, [], ◌∷◌, ◌++◌, map, refl, sym, ap, ◌∙◌, subst}
use Rattle.std.proofs.lemmas.Option.{slice_get-map}
use Rattle.std.specs.List.{list_any}
use Rattle.std.specs.Option.{option_map}
use Rattle.std.specs.Prelude.{slice_get, filter, Option, Some, None}
use Rattle.std.specs.Str.{bytes_eq}
use Rattle.ch_base.specs.declared.address.Address.{Address}
use Rattle.ch_model.specs.declared.line.Line.{Line}
use Rattle.ch_model.specs.Cell.{opened_for}
use Rattle.ch_model.specs.HostCalls.{host_new, host_open}
use Rattle.ch_model.specs.HostState.{HostState}
use Rattle.ch_model.specs.HostSteps.{is_endpoint, own_address}
use Rattle.ch_model.specs.Node.{node_new}
use Rattle.ch_model.specs.NodeState.{NodeState}
use Rattle.ch_model.specs.World.{nodes_of, labels_of, same_host, first_of_hosts, cell_at, world_new}
use Rattle.ch_model.specs.WorldState.{Cell, Named, World}
use Rattle.ch_laws_world.specs.Grows.{Home, home_of, homes_of}
use Rattle.ch_laws_log.proofs.Stored.{bytes_same}
use Rattle.ch_laws_many.proofs.Addresses.{all_opened}
use Rattle.ch_laws_bytes.proofs.Lines.{own_of}
use Rattle.ch_laws_calls.specs.UsersCarried.{hosts_of}

-- ---- a host at its place

-- the home at this place was there at the start
record IsAtHome (news : List (Cell × ℕ)) (place : ℕ) (cell : Cell) : Type 0 where
  new : Cell × ℕ
  is : slice_get news place ≡ Some new
  same : home_of cell ≡ home_of new.0

home_at : (cells news : List (Cell × ℕ)) (place : ℕ) (cell : Cell × ℕ) → homes_of cells ≡ homes_of news → slice_get cells place ≡ Some cell → IsAtHome news place cell.0
home_at [] news place cell e at = absurd cc
home_at (known ∷ rest) [] place cell e at = absurd cc
home_at (known ∷ rest) (new ∷ more) zero cell e at =
    let is : known ≡ cell = cc in
    let same : home_of known.0 ≡ home_of new.0 = cc in
    record { new = new; is = refl; same = subst (λ (c : Cell × ℕ). home_of c.0 ≡ home_of new.0) is same }
home_at (known ∷ rest) (new ∷ more) (suc place) cell e at =
    let others : homes_of rest ≡ homes_of more = cc in
    let there = home_at rest more place cell others at in
    record { new = there.new; is = there.is; same = there.same }

-- ---- the hosts at the start

opened_circle : (nodes : List (ℕ × NodeState)) (host : HostState) → (opened_for nodes host).circle ≡ host.circle
unfolding host_open
opened_circle [] host = refl
opened_circle (node ∷ rest) host = opened_circle rest (host_open host node.0).1 ∙ one node.0 host where
  one : (end : ℕ) (host : HostState) → (host_open host end).1.circle ≡ host.circle
  one end host = by_test (list_any (is_endpoint end) host.ends) where
    by_test : (b : Bool) → (cond {A = Bool × HostState} b (false, host) (true, record host { ends = host.ends ++ record { number = end; is_open = true; arrived = 0 } ∷ [] })).1.circle ≡ host.circle
    by_test true = refl
    by_test false = refl

-- the nodes of an address's host
abbrev made_at : List Line → Address → List (ℕ × NodeState)
made_at journal address = map (λ (node : ℕ × ℕ × List (List ℕ)). (node.0, node_new (record { host = address.host; port = address.port; id = node.0 }) node.1 node.2))
    (map (λ (named : Named). (named.address.id, named.unique, labels_of journal named.name)) (filter (λ (named : Named). same_host named.address address) (nodes_of journal)))

cell_host : (journal : List Line) (address : Address) → (cell_at journal address).host.host ≡ address.host
cell_host journal address = (all_opened (made_at journal address) (host_new address.host address.port (hosts_of journal))).0

cell_circle : (journal : List Line) (address : Address) → (cell_at journal address).host.circle ≡ hosts_of journal
cell_circle journal address = opened_circle (made_at journal address) (host_new address.host address.port (hosts_of journal))

-- a host at the start is that of an address
record IsOfAddress (journal : List Line) (place : ℕ) (new : Cell × ℕ) : Type 0 where
  address : Address
  at : slice_get (first_of_hosts [] (nodes_of journal)) place ≡ Some address
  is : new ≡ (cell_at journal address, 0)

new_at : (journal : List Line) (place : ℕ) (new : Cell × ℕ) → slice_get (world_new journal).cells place ≡ Some new → IsOfAddress journal place new
new_at journal place new e = by_address (slice_get (first_of_hosts [] (nodes_of journal)) place) refl (sym (slice_get-map (λ (a : Address). (cell_at journal a, 0)) (first_of_hosts [] (nodes_of journal)) place) ∙ e) where
  by_address : (o : Option Address) → slice_get (first_of_hosts [] (nodes_of journal)) place ≡ o → option_map (λ (a : Address). (cell_at journal a, 0)) o ≡ Some new → IsOfAddress journal place new
  by_address None at e = absurd cc
  by_address (Some address) at e = record { address = address; at = at; is = sym (one e) } where
    one : ◌≡◌ {A = Option (Cell × ℕ)} (Some (cell_at journal address, 0)) (Some new) → (cell_at journal address, 0) ≡ new
    one e = cc

-- the addresses of hosts are those of nodes
taken_in : (known : List Address) (nodes : List Named) (place : ℕ) (address : Address) → slice_get (first_of_hosts known nodes) place ≡ Some address → list_any (bytes_eq address.host) (map (λ (named : Named). named.address.host) nodes) ≡ true
taken_in known [] place address e = absurd cc
taken_in known (named ∷ rest) place address e = by_test (list_any (same_host named.address) known) place e (taken_in known rest) (taken_in (named.address ∷ known) rest) where
  Later : List Address → Type 0
  Later known = (place : ℕ) (address : Address) → slice_get (first_of_hosts known rest) place ≡ Some address → list_any (bytes_eq address.host) (map (λ (named : Named). named.address.host) rest) ≡ true

  or_right : (a b : Bool) → b ≡ true → (a || b) ≡ true
  or_right true b e = refl
  or_right false b e = e

  or_left : (a b : Bool) → a ≡ true → (a || b) ≡ true
  or_left true b e = refl
  or_left false b e = absurd cc

  by_test : (b : Bool) (place : ℕ) → slice_get (cond b (first_of_hosts known rest) (named.address ∷ first_of_hosts (named.address ∷ known) rest)) place ≡ Some address → Later known → Later (named.address ∷ known)
      → (bytes_eq address.host named.address.host || list_any (bytes_eq address.host) (map (λ (named : Named). named.address.host) rest)) ≡ true
  by_test true place e more later = or_right (bytes_eq address.host named.address.host) (list_any (bytes_eq address.host) (map (λ (named : Named). named.address.host) rest)) (more place address e)
  by_test false zero e more later = let is : named.address ≡ address = cc in or_left (bytes_eq address.host named.address.host) (list_any (bytes_eq address.host) (map (λ (named : Named). named.address.host) rest)) (subst (λ (a : Address). bytes_eq address.host a.host ≡ true) (sym is) (bytes_same address.host))
  by_test false (suc place) e more later = or_right (bytes_eq address.host named.address.host) (list_any (bytes_eq address.host) (map (λ (named : Named). named.address.host) rest)) (later place address e)

-- ---- a host of a world

pub own_taken : (journal : List Line) (world : World) (place : ℕ) (cell : Cell × ℕ) → homes_of world.cells ≡ homes_of (world_new journal).cells → slice_get world.cells place ≡ Some cell → own_address cell.0.host 0 ≡ own_of journal place 0 → list_any (bytes_eq (own_of journal place 0).host) (hosts_of journal) ≡ true
own_taken journal world place cell homes at own_is =
    let home = home_at world.cells (world_new journal).cells place cell homes at in
    let of = new_at journal place home.new home.is in
    let host : (own_of journal place 0).host ≡ of.address.host = ap (λ (a : Address). a.host) (sym own_is) ∙ ap (λ (h : Home). h.0) home.same ∙ ap (λ (c : Cell × ℕ). c.0.host.host) of.is ∙ cell_host journal of.address in
    ap (λ (h : List ℕ). list_any (bytes_eq h) (hosts_of journal)) host ∙ taken_in [] (nodes_of journal) place of.address of.at

pub circle_is : (journal : List Line) (world : World) (place : ℕ) (cell : Cell × ℕ) → homes_of world.cells ≡ homes_of (world_new journal).cells → slice_get world.cells place ≡ Some cell → cell.0.host.circle ≡ hosts_of journal
circle_is journal world place cell homes at =
    let home = home_at world.cells (world_new journal).cells place cell homes at in
    let of = new_at journal place home.new home.is in
    ap (λ (h : Home). h.2) home.same ∙ ap (λ (c : Cell × ℕ). c.0.host.circle) of.is ∙ cell_circle journal of.address
