-- Endpoints that are opened at a new host, and the nodes there.
use Rattle.std.proofs.Common.{◌≡◌, ℕ, Bool, true, false, cond, List, [], ◌∷◌, ◌++◌, map, refl, sym, ap, ◌∙◌, subst, append_assoc}
use Rattle.std.specs.List.{list_any}
use Rattle.std.specs.Prelude.{Result, Ok, Err, IfOk, OnErr, IsErr}
use Rattle.ch_base.specs.AddressValues.{AddressValue}
use Rattle.ch_model.specs.HostState.{HostState}
use Rattle.ch_model.specs.HostSteps.{is_endpoint}
use Rattle.ch_model.specs.HostCalls.{host_new, host_open}
use Rattle.ch_model.specs.NodeState.{NodeState}
use Rattle.ch_model.specs.Node.{node_new}
use Rattle.ch_model.specs.WorldState.{Cell}
use Rattle.ch_model.specs.Cell.{opened_for, cell_new}
use Rattle.ch_endpoint.specs.Kept.{Kept}
use Rattle.ch_laws_items.specs.Kept.{Apart}
use Rattle.ch_cell.specs.declared.site.Opening.{Opening}
use Rattle.ch_cell.specs.New.{node_of, site_new, opened_at, all_opened, AreOf, named}
use Rattle.ch_cell.proofs.Kept.{Sound}

-- an endpoint that is opened changes no socket
open_stays : (host : HostState) (end : ℕ) → Apart host.sockets → Apart (host_open host end).1.sockets
unfolding host_open
open_stays host end a = by_test (list_any (is_endpoint end) host.ends)
  where
    by_test : (b : Bool) → Apart (cond {A = Bool × HostState} b (false, host) (true, record host { ends = host.ends ++ record { number = end; is_open = true; arrived = 0 } ∷ [] })).1.sockets
    by_test true = a
    by_test false = a

-- a host that opens an endpoint hasn't failed
hale : (b : Bool) → (b ≡ true → false ≡ true) → b ≡ false
hale true spent = let never : false ≡ true = spent refl in absurd cc
hale false spent = refl

-- opening an endpoint keeps a host sound
pub open_sound : {E : Type 0} (end : ℕ) (old new : Kept) (result : Result Bool E) → Sound old → IfOk result (λ did. host_open old.state end ≡ (did, new.state)) → OnErr result (new.failed ≡ true) → (old.failed ≡ true → IsErr result) → Sound new
open_sound end old new (Ok did) a does err spent = λ h. subst (λ (p : Bool × HostState). Apart p.1.sockets) does (open_stays old.state end (a (hale old.failed spent)))
open_sound end old new (Err e) a does err spent = λ h. absurd cc

-- one node after another, and all of them at once, are the same
pub one_by_one : (openings : List Opening) (cell : Cell) → all_opened openings cell ≡ record { host = opened_for (map node_of openings) cell.host; nodes = cell.nodes ++ map node_of openings }
one_by_one [] cell = ap (λ (nodes : List (ℕ × NodeState)). record { host = cell.host; nodes = nodes }) (sym (append_nothing cell.nodes))
  where
    append_nothing : (nodes : List (ℕ × NodeState)) → (nodes ++ []) ≡ nodes
    append_nothing [] = refl
    append_nothing (x ∷ nodes) = ap (λ (rest : List (ℕ × NodeState)). x ∷ rest) (append_nothing nodes)
one_by_one (opening ∷ rest) cell = one_by_one rest (opened_at opening cell) ∙ ap (λ (nodes : List (ℕ × NodeState)). record { host = opened_for (map node_of rest) (host_open cell.host opening.own.id).1; nodes = nodes }) (append_assoc cell.nodes (node_of opening ∷ []) (map node_of rest))

nodes_named : (host : List ℕ) (port : ℕ) (openings : List Opening) → AreOf host port openings → map node_of openings ≡ map (λ node. (node.0, node_new (record { host = host; port = port; id = node.0 }) node.1 node.2)) (map named openings)
nodes_named host port [] a = refl
nodes_named host port (opening ∷ rest) a =
    let own : opening.own ≡ record { host = host; port = port; id = opening.own.id } = own_is a.0 a.1 in
    ap (λ (nodes : List (ℕ × NodeState)). node_of opening ∷ nodes) (nodes_named host port rest a.2) ∙ ap (λ (address : AddressValue). (opening.own.id, node_new address opening.unique opening.labels) ∷ map (λ node. (node.0, node_new (record { host = host; port = port; id = node.0 }) node.1 node.2)) (map named rest)) own
  where
    own_is : opening.own.host ≡ host → opening.own.port ≡ port → opening.own ≡ record { host = host; port = port; id = opening.own.id }
    own_is h p = ap (λ (t : List ℕ). record { host = t; port = opening.own.port; id = opening.own.id }) h ∙ ap (λ (n : ℕ). record { host = host; port = n; id = opening.own.id }) p

-- where the own addresses are of the host and port, the site is the model's new cell
pub is_model : (host : List ℕ) (port : ℕ) (circle : List (List ℕ)) (openings : List Opening) → AreOf host port openings → site_new host port circle openings ≡ cell_new host port circle (map named openings)
is_model host port circle openings a = ap (λ (nodes : List (ℕ × NodeState)). record { host = opened_for nodes (host_new host port circle); nodes = nodes }) (nodes_named host port openings a)

-- a new host has no socket
pub new_sound : (host : List ℕ) (port : ℕ) (circle : List (List ℕ)) (new : Kept) → new.state ≡ host_new host port circle → Sound new
new_sound host port circle new e = λ h. subst (λ (state : HostState). Apart state.sockets) (sym e) tt

-- all that are opened at a new host are the new site
new_made : (host : List ℕ) (port : ℕ) (circle : List (List ℕ)) (openings : List Opening) (state : HostState) (site : Cell) → state ≡ host_new host port circle → site ≡ all_opened openings (record { host = state; nodes = [] }) → site ≡ site_new host port circle openings
new_made host port circle openings state site h e = e ∙ one_by_one openings (record { host = state; nodes = [] }) ∙ ap (λ (state : HostState). record { host = opened_for (map node_of openings) state; nodes = map node_of openings }) h

pub new_is : {E : Type 0} (host : List ℕ) (port : ℕ) (circle : List (List ℕ)) (openings : List Opening) (state : HostState) (nodes : List (ℕ × NodeState)) (result : Result Cell E) → state ≡ host_new host port circle → nodes ≡ [] → IfOk result (λ site. site ≡ all_opened openings (record { host = state; nodes = nodes })) → IfOk result (λ site. site ≡ site_new host port circle openings)
new_is host port circle openings state nodes (Ok site) h n e = new_made host port circle openings state site h (e ∙ ap (λ (nodes : List (ℕ × NodeState)). all_opened openings (record { host = state; nodes = nodes })) n)
new_is host port circle openings state nodes (Err stop) h n e = tt

pub new_is_model : {E : Type 0} (host : List ℕ) (port : ℕ) (circle : List (List ℕ)) (openings : List Opening) (result : Result Cell E) → IfOk result (λ site. site ≡ site_new host port circle openings) → IfOk result (λ site. AreOf host port openings → site ≡ cell_new host port circle (map named openings))
new_is_model host port circle openings (Ok site) e = λ a. e ∙ is_model host port circle openings a
new_is_model host port circle openings (Err stop) e = tt
