-- Where nothing has happened, nothing was said.
use Rattle.std.proofs.Common.{◌≡◌, inl, ℕ, zero, suc, Bool, true, false, cond, List, [], ◌∷◌, ◌++◌, map, refl, sym, ap, ◌∙◌, subst}
use Rattle.std.specs.List.{list_any}
use Rattle.std.specs.Prelude.{find, slice_get, Option, Some, None}
use Rattle.ch_base.specs.declared.address.Address.{Address}
use Rattle.ch_wire.specs.declared.frame.Frame.{Frame}
use Rattle.ch_ident.specs.declared.identifier.ProcessId.{ProcessId}
use Rattle.ch_static.specs.declared.target.Target.TheVariants as targets
use Rattle.ch_model.specs.declared.line.Line.{Line}
use Rattle.ch_model.specs.declared.step.Weight.{Weight}
use Rattle.ch_model.specs.Cell.{opened_for}
use Rattle.ch_model.specs.CellSteps.{is_at}
use Rattle.ch_model.specs.HostCalls.{host_open}
use Rattle.ch_model.specs.HostState.{Link, HostState}
use Rattle.ch_model.specs.HostSteps.{is_endpoint, link_with}
use Rattle.ch_model.specs.AccountsItems.{first_payload}
use Rattle.ch_model.specs.NodePairs.{is_pair, pair_of}
use Rattle.ch_model.specs.NodeState.{NodeState, Pair, Unopened, Opened, Broken}
use Rattle.ch_model.specs.Node.{node_new}
use Rattle.ch_model.specs.World.{cell_at, world_new, first_of_hosts, nodes_of}
use Rattle.ch_race.specs.Pair.{other}
use Rattle.ch_laws_race.specs.Scene.{host_in}
use Rattle.ch_laws_writes.specs.Orderly.{link_at}
use Rattle.ch_laws_peers.specs.Words.{words_in, datas_in, waiting_as, TrueWords}
use Rattle.ch_laws_peers.specs.Says.{node_in, node_of, ArePlaced, AllSay}
use Rattle.ch_laws_peers.specs.Standing.{IsOfNodes}
use Rattle.ch_laws_messages.specs.SaidGoes.{waits_for, mark_of}

-- ---- hosts

opened_links : (nodes : List (ℕ × NodeState)) (host : HostState) → host.links ≡ [] → (opened_for nodes host).links ≡ []
unfolding host_open
opened_links [] host e = e
opened_links (node ∷ rest) host e = opened_links rest (host_open host node.0).1 (by_test (list_any (is_endpoint node.0) host.ends)) where
  by_test : (b : Bool) → (cond {A = Bool × HostState} b (false, host) (true, record host { ends = host.ends ++ record { number = node.0; is_open = true; arrived = 0 } ∷ [] })).1.links ≡ []
  by_test true = e
  by_test false = e

no_waits : (host : HostState) (end : ℕ) (peer : Address) → host.links ≡ [] → (link_with host end peer).waits ≡ []
no_waits host end peer none = ap (λ (l : List Link). (link_at l end peer).waits) none

fresh_waits : (journal : List Line) (addresses : List Address) (place end : ℕ) (peer : Address) → (link_with (host_in (slice_get (map (λ (address : Address). (cell_at journal address, 0)) addresses) place)) end peer).waits ≡ []
fresh_waits journal [] place end peer = refl
fresh_waits journal (address ∷ rest) zero end peer = no_waits (cell_at journal address).host end peer (opened_links (cell_at journal address).nodes _ refl)
fresh_waits journal (address ∷ rest) (suc place) end peer = fresh_waits journal rest place end peer

-- ---- nodes

no_pairs : (own : Address) (unique : ℕ) (labels : List (List ℕ)) → (node_new own unique labels).pairs ≡ []
unfolding node_new
no_pairs own unique labels = refl

-- what is so of each that is made is so of each that is found
found_made : {A : Type 0} (make : A → ℕ × NodeState) → ((x : A) → (make x).1.pairs ≡ []) → (xs : List A) (end : ℕ) (node : NodeState) → (elim (find (is_at end) (map make xs)) as (λ o. Option NodeState) [
  | None ↦ None
  | Some there ↦ Some there.1
]) ≡ Some node → node.pairs ≡ []
found_made make each [] end node e = absurd cc
found_made make each (x ∷ xs) end node e = by_test (is_at end (make x)) e (found_made make each xs end node) where
  by_test : (b : Bool) → (elim (cond b (Some (make x)) (find (is_at end) (map make xs))) as (λ o. Option NodeState) [
    | None ↦ None
    | Some there ↦ Some there.1
  ]) ≡ Some node → ((elim (find (is_at end) (map make xs)) as (λ o. Option NodeState) [
    | None ↦ None
    | Some there ↦ Some there.1
  ]) ≡ Some node → node.pairs ≡ []) → node.pairs ≡ []
  by_test true e more = let is : (make x).1 ≡ node = cc in subst (λ (n : NodeState). n.pairs ≡ []) is (each x)
  by_test false e more = more e

fresh_pairs : (journal : List Line) (addresses : List Address) (place end : ℕ) (node : NodeState) → node_in (slice_get (map (λ (address : Address). (cell_at journal address, 0)) addresses) place) end ≡ Some node → node.pairs ≡ []
fresh_pairs journal [] place end node e = absurd cc
fresh_pairs journal (address ∷ rest) zero end node e = found_made _ (λ x. no_pairs _ _ _) _ end node e
fresh_pairs journal (address ∷ rest) (suc place) end node e = fresh_pairs journal rest place end node e

no_mark : (node : NodeState) (by : ℕ) (to : ProcessId) → node.pairs ≡ [] → mark_of node by to ≡ Unopened
unfolding pair_of
no_mark node by to none = ap (λ (l : List Pair). (pair_of l by (targets.Process to)).mark) none

-- ---- nothing was said

pub fresh_say : (journal : List Line) → IsOfNodes journal → AllSay journal [] (world_new journal)
fresh_say journal of party pair x = record {
  placed = subst (λ (w : List (Frame × Weight)). ArePlaced (waiting_as w)) (sym none) tt;
  words = subst (λ (w : List (Frame × Weight)). TrueWords journal [] [] 0 (words_in (waiting_as w)) 0) (sym none) refl;
  one = λ s e is. inl refl;
  down = λ off. refl;
  declared = λ node pair to there found is at. absurd (no_pair node pair there found);
  opened = λ node by to conn there at marked. let no : Unopened ≡ Opened conn = sym (no_mark node by to (pairs node there)) ∙ marked in absurd cc;
  unopened = λ node by to there at declared marked living. refl;
  unbroken = λ node by to there at marked. let no : Unopened ≡ Broken = sym (no_mark node by to (pairs node there)) ∙ marked in absurd cc;
  unmade = λ node by q there le. refl;
  alone = λ i j opening a b. absurd (no_first i opening (subst (λ (w : List (Frame × Weight)). first_payload i (datas_in (words_in (waiting_as w))) ≡ Some opening) none a));
} where
  none : waits_for party (world_new journal) x ≡ []
  none = fresh_waits journal (first_of_hosts [] (nodes_of journal)) (party x).place (party x).address.id (party (other x)).address

  pairs : (node : NodeState) → node_of party (world_new journal) x ≡ Some node → node.pairs ≡ []
  pairs node there = fresh_pairs journal (first_of_hosts [] (nodes_of journal)) (party x).place (party x).address.id node there

  no_pair : (node : NodeState) (pair : Pair) → node_of party (world_new journal) x ≡ Some node → find (is_pair pair.by pair.to) node.pairs ≡ Some pair → ⊥
  no_pair node pair there found = never (subst (λ (l : List Pair). find (is_pair pair.by pair.to) l ≡ Some pair) (pairs node there) found) where
    never : ◌≡◌ {A = Option Pair} None (Some pair) → ⊥
    never e = absurd cc

  no_first : (i : ℕ) (opening : List ℕ) → first_payload i [] ≡ Some opening → ⊥
  no_first i opening e = absurd cc
