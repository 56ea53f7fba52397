-- What is found by its key: links, pairs, and the tests by which they are found.
use Rattle.std.specs.Prelude.{◌≡◌, ℕ, Bool, true, false, cond, ◌&&◌, ◌==◌, List, [], ◌∷◌, find, Option, Some, None, unwrap_or}
use Rattle.std.specs.Str.{bytes_eq}
use Rattle.std.proofs.Common.{refl, ap, sym, ◌∙◌}
use Rattle.std.proofs.lemmas.Bool.{eqb-true, eq-eqb, and_parts}
use Rattle.std.proofs.lemmas.Slice.Eq.{bytes_eq-Decides}
use Rattle.ch_base.specs.AddressValues.{AddressValue}
use Rattle.ch_ident.specs.declared.identifier.ProcessId.{ProcessId}
use Rattle.ch_ident.specs.declared.identifier.SendPortId.{SendPortId}
use Rattle.ch_static.specs.declared.target.Target.{Target}
use Rattle.ch_static.specs.declared.target.Target.TheVariants as targets
use Rattle.ch_watch.specs.Same.{same_node}
use Rattle.ch_model.specs.HostState.{Link, HostState}
use Rattle.ch_model.specs.HostSteps.{is_link, link_or_new, link_with, store_link, with_link}
use Rattle.ch_model.specs.NodeState.{Pair}
use Rattle.ch_model.specs.NodePairs.{same_process, same_port, same_target, is_pair, new_pair, pair_of, with_pair}

-- ---- tests

equal_bytes : (xs : List ℕ) → bytes_eq xs xs ≡ true
equal_bytes xs = (bytes_eq-Decides xs xs).1 refl

equal_numbers : (i : ℕ) → (i == i) ≡ true
equal_numbers i = eq-eqb i i refl

pub node_self : (a : AddressValue) → same_node a a ≡ true
unfolding same_node
node_self a = ap (λ b. b && ((a.port == a.port) && (a.id == a.id))) (equal_bytes a.host) ∙ ap (λ b. b && (a.id == a.id)) (equal_numbers a.port) ∙ equal_numbers a.id

pub node_is : (a b : AddressValue) → same_node a b ≡ true → a ≡ b
unfolding same_node
node_is a b h =
    let parts = and_parts (bytes_eq a.host b.host) ((a.port == b.port) && (a.id == b.id)) h in
    let rest = and_parts (a.port == b.port) (a.id == b.id) parts.1 in
    ap (λ (z : List ℕ). record a { host = z }) ((bytes_eq-Decides a.host b.host).0 parts.0)
    ∙ ap (λ (z : ℕ). record a { host = b.host; port = z }) (eqb-true a.port b.port rest.0)
    ∙ ap (λ (z : ℕ). record b { id = z }) (eqb-true a.id b.id rest.1)

pub process_self : (a : ProcessId) → same_process a a ≡ true
unfolding same_process
process_self a = ap (λ b. b && ((a.unique == a.unique) && (a.counter == a.counter))) (node_self a.node) ∙ ap (λ b. b && (a.counter == a.counter)) (equal_numbers a.unique) ∙ equal_numbers a.counter

pub process_is : (a b : ProcessId) → same_process a b ≡ true → a ≡ b
unfolding same_process
process_is a b h =
    let parts = and_parts (same_node a.node b.node) ((a.unique == b.unique) && (a.counter == b.counter)) h in
    let rest = and_parts (a.unique == b.unique) (a.counter == b.counter) parts.1 in
    ap (λ (z : AddressValue). record a { node = z }) (node_is a.node b.node parts.0)
    ∙ ap (λ (z : ℕ). record a { node = b.node; unique = z }) (eqb-true a.unique b.unique rest.0)
    ∙ ap (λ (z : ℕ). record b { counter = z }) (eqb-true a.counter b.counter rest.1)

port_self : (a : SendPortId) → same_port a a ≡ true
unfolding same_port
port_self a = ap (λ b. b && (a.port == a.port)) (process_self a.process) ∙ equal_numbers a.port

port_is : (a b : SendPortId) → same_port a b ≡ true → a ≡ b
unfolding same_port
port_is a b h =
    let parts = and_parts (same_process a.process b.process) (a.port == b.port) h in
    ap (λ (z : ProcessId). record a { process = z }) (process_is a.process b.process parts.0) ∙ ap (λ (z : ℕ). record b { port = z }) (eqb-true a.port b.port parts.1)

pub target_self : (a : Target) → same_target a a ≡ true
unfolding same_target
target_self (targets.Process p) = process_self p
target_self (targets.Port p) = port_self p
target_self (targets.Named at name) = ap (λ b. b && bytes_eq name name) (node_self at) ∙ equal_bytes name

wrong : {A : Type 0} → false ≡ true → A
wrong h = absurd (clash h) where
  clash : false ≡ true → ⊥
  clash h = cc

pub target_is : (a b : Target) → same_target a b ≡ true → a ≡ b
unfolding same_target
target_is (targets.Process p) (targets.Process q) h = ap targets.Process (process_is p q h)
target_is (targets.Port p) (targets.Port q) h = ap targets.Port (port_is p q h)
target_is (targets.Named at name) (targets.Named other word) h =
    let parts = and_parts (same_node at other) (bytes_eq name word) h in
    ap (λ (z : AddressValue). targets.Named z name) (node_is at other parts.0) ∙ ap (λ (z : List ℕ). targets.Named other z) ((bytes_eq-Decides name word).0 parts.1)
target_is (targets.Process p) (targets.Port q) h = wrong h
target_is (targets.Process p) (targets.Named at name) h = wrong h
target_is (targets.Port p) (targets.Process q) h = wrong h
target_is (targets.Port p) (targets.Named at name) h = wrong h
target_is (targets.Named at name) (targets.Process q) h = wrong h
target_is (targets.Named at name) (targets.Port q) h = wrong h

-- ---- links

pub link_test : (link : Link) → is_link link.end link.peer link ≡ true
link_test link = ap (λ b. b && same_node link.peer link.peer) (equal_numbers link.end) ∙ node_self link.peer

link_stored : (link : Link) (links : List Link) → find (is_link link.end link.peer) (store_link link links) ≡ Some link
link_stored link [] = ap (λ b. cond b (Some link) None) (link_test link)
link_stored link (known ∷ rest) = by_test (is_link link.end link.peer known) refl (link_stored link rest) where
  by_test : (x : Bool) → is_link link.end link.peer known ≡ x → find (is_link link.end link.peer) (store_link link rest) ≡ Some link → find (is_link link.end link.peer) (cond x (link ∷ rest) (known ∷ store_link link rest)) ≡ Some link
  by_test true h later = ap (λ b. cond b (Some link) (find (is_link link.end link.peer) rest)) (link_test link)
  by_test false h later = ap (λ b. cond b (Some known) (find (is_link link.end link.peer) (store_link link rest))) h ∙ later

-- a link that is kept is found
pub link_kept : (link : Link) (host : HostState) → link_with (with_link link host) link.end link.peer ≡ link
link_kept link host = ap (link_or_new link.end link.peer) (link_stored link host.links)

-- what is found has the key
pub link_named : (host : HostState) (end : ℕ) (peer : AddressValue) → ((link_with host end peer).end ≡ end) × ((link_with host end peer).peer ≡ peer)
link_named host end peer = named host.links where
  named : (links : List Link) → ((link_or_new end peer (find (is_link end peer) links)).end ≡ end) × ((link_or_new end peer (find (is_link end peer) links)).peer ≡ peer)
  named [] = (refl, refl)
  named (known ∷ rest) = by_test (is_link end peer known) refl (named rest) where
    by_test : (x : Bool) → is_link end peer known ≡ x → ((link_or_new end peer (find (is_link end peer) rest)).end ≡ end) × ((link_or_new end peer (find (is_link end peer) rest)).peer ≡ peer)
        → ((link_or_new end peer (cond x (Some known) (find (is_link end peer) rest))).end ≡ end) × ((link_or_new end peer (cond x (Some known) (find (is_link end peer) rest))).peer ≡ peer)
    by_test true h later = let parts = and_parts (known.end == end) (same_node known.peer peer) h in (eqb-true known.end end parts.0, node_is known.peer peer parts.1)
    by_test false h later = later

-- ---- pairs

pub pair_test : (pair : Pair) → is_pair pair.by pair.to pair ≡ true
unfolding is_pair
pair_test pair = ap (λ b. b && same_target pair.to pair.to) (equal_numbers pair.by) ∙ target_self pair.to

pub pair_key : (by : ℕ) (to : Target) (pair : Pair) → is_pair by to pair ≡ true → (pair.by ≡ by) × (pair.to ≡ to)
unfolding is_pair
pair_key by to pair h = let parts = and_parts (pair.by == by) (same_target pair.to to) h in (eqb-true pair.by by parts.0, target_is pair.to to parts.1)

-- what is found has the key
pub pair_named : (pairs : List Pair) (by : ℕ) (to : Target) → ((pair_of pairs by to).by ≡ by) × ((pair_of pairs by to).to ≡ to)
unfolding pair_of
pair_named [] by to = (refl, refl)
pair_named (known ∷ rest) by to = by_test (is_pair by to known) refl (pair_named rest by to) where
  by_test : (x : Bool) → is_pair by to known ≡ x → ((unwrap_or (find (is_pair by to) rest) (new_pair by to)).by ≡ by) × ((unwrap_or (find (is_pair by to) rest) (new_pair by to)).to ≡ to)
      → ((unwrap_or (cond x (Some known) (find (is_pair by to) rest)) (new_pair by to)).by ≡ by) × ((unwrap_or (cond x (Some known) (find (is_pair by to) rest)) (new_pair by to)).to ≡ to)
  by_test true h later = pair_key by to known h
  by_test false h later = later

pair_stored : (pair : Pair) (pairs : List Pair) → find (is_pair pair.by pair.to) (with_pair pair pairs) ≡ Some pair
pair_stored pair [] = ap (λ b. cond b (Some pair) None) (pair_test pair)
pair_stored pair (known ∷ rest) = by_test (is_pair pair.by pair.to known) refl (pair_stored pair rest) where
  by_test : (x : Bool) → is_pair pair.by pair.to known ≡ x → find (is_pair pair.by pair.to) (with_pair pair rest) ≡ Some pair → find (is_pair pair.by pair.to) (cond x (pair ∷ rest) (known ∷ with_pair pair rest)) ≡ Some pair
  by_test true h later = ap (λ b. cond b (Some pair) (find (is_pair pair.by pair.to) rest)) (pair_test pair)
  by_test false h later = ap (λ b. cond b (Some known) (find (is_pair pair.by pair.to) (with_pair pair rest))) h ∙ later

-- a pair that is kept is found
pub pair_kept : (pair : Pair) (pairs : List Pair) → pair_of (with_pair pair pairs) pair.by pair.to ≡ pair
unfolding pair_of
pair_kept pair pairs = ap (λ (z : Option Pair). unwrap_or z (new_pair pair.by pair.to)) (pair_stored pair pairs)

module _ (pair : Pair) (by : ℕ) (to : Target) (off : is_pair by to pair ≡ false) where
  same_key : (known : Pair) → is_pair pair.by pair.to known ≡ true → is_pair by to known ≡ false
  unfolding is_pair
  same_key known h = let key = pair_key pair.by pair.to known h in
      ap (λ (z : ℕ). (z == by) && same_target known.to to) key.0 ∙ ap (λ (z : Target). (pair.by == by) && same_target z to) key.1 ∙ off

  other_found : (pairs : List Pair) → find (is_pair by to) (with_pair pair pairs) ≡ find (is_pair by to) pairs
  other_found [] = ap (λ b. cond b (Some pair) None) off
  other_found (known ∷ rest) = by_test (is_pair pair.by pair.to known) refl (other_found rest) where
    by_test : (x : Bool) → is_pair pair.by pair.to known ≡ x → find (is_pair by to) (with_pair pair rest) ≡ find (is_pair by to) rest → find (is_pair by to) (cond x (pair ∷ rest) (known ∷ with_pair pair rest)) ≡ find (is_pair by to) (known ∷ rest)
    by_test true h later = ap (λ b. cond b (Some pair) (find (is_pair by to) rest)) off ∙ sym (ap (λ b. cond b (Some known) (find (is_pair by to) rest)) (same_key known h))
    by_test false h later = ap (λ (z : Option Pair). cond (is_pair by to known) (Some known) z) later

  -- every other pair is found as before
  pub other_kept : (pairs : List Pair) → pair_of (with_pair pair pairs) by to ≡ pair_of pairs by to
  unfolding pair_of
  other_kept pairs = ap (λ (z : Option Pair). unwrap_or z (new_pair by to)) (other_found pairs)
