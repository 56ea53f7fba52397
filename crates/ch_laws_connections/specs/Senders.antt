-- What a node keeps of the connections that it has opened, and what its acts make of that.
use Rattle.std.specs.Prelude.{◌≡◌, ◌≤◌, ◌<◌, ℕ, ◌+◌, ◌*◌, Bool, true, false, ◌&&◌, ◌==◌, List, [], ◌∷◌, if◌then◌else◌}
use Rattle.std.specs.List.{list_any}
use Rattle.ch_base.specs.declared.address.Address.{Address}
use Rattle.ch_watch.specs.Same.{same_node}
use Rattle.ch_model.specs.declared.act.Act.{Act}
use Rattle.ch_model.specs.declared.act.Act.TheVariants as acts
use Rattle.ch_model.specs.HostWrites.{is_counted}
use Rattle.ch_model.specs.NodeIds.{target_at}
use Rattle.ch_model.specs.NodeState.{NodeState, Pair, Mark, Opened}

-- The sending side of a node: whether it is shut, its pairs, its own connections to other nodes, and how many
-- connections it has opened.
pub record Sender : Type 0 where
  pub is_shut : Bool
  pub pairs : List Pair
  pub to_nodes : List (Address × ℕ)
  pub opened : ℕ

abbrev pub sender_of : NodeState → Sender
sender_of node = record { is_shut = node.is_shut; pairs = node.pairs; to_nodes = node.to_nodes; opened = node.opened }

-- one where it is so, and else none
abbrev pub once : Bool → ℕ
once b = if b then 1 else 0

-- the mark says that this connection is open
abbrev pub marks : ℕ → Mark → ℕ
marks conn (Opened other) = once (other == conn)
marks conn mark = 0

-- the pair has this connection open, to a target at the peer
abbrev pub pair_has : ℕ → Address → Pair → ℕ
pair_has conn peer pair = if same_node (target_at pair.to) peer then marks conn pair.mark else 0

-- the node's own connection to the peer is this one
abbrev pub node_has : ℕ → Address → Address × ℕ → ℕ
node_has conn peer known = if same_node known.0 peer then once (known.1 == conn) else 0

-- a number for each of a list, all together
abbrev pub total : {A : Type 0} → (A → ℕ) → List A → ℕ
total f [] = 0
total f (x ∷ rest) = f x + total f rest

-- how often the node has a connection open to a peer
abbrev pub open_at : Sender → ℕ → Address → ℕ
open_at s conn peer = total (pair_has conn peer) s.pairs + total (node_has conn peer) s.to_nodes

-- how often it has a connection open, to whatever peer
abbrev pub open_to_any : Sender → ℕ → ℕ
open_to_any s conn = total (λ pair. marks conn pair.mark) s.pairs + total (λ known. once (known.1 == conn)) s.to_nodes

-- the number is that of one of the first n connections
abbrev pub IsOfFirst : ℕ → ℕ → Type 0
IsOfFirst n conn = (k : ℕ) × (k < n) × (conn ≡ 2 * k)

-- a node has each connection open once at most, under numbers that it has drawn
pub record Own (s : Sender) : Type 0 where
  pub alone : (conn : ℕ) → open_to_any s conn ≤ 1
  pub drawn : (conn : ℕ) → 1 ≤ open_to_any s conn → IsOfFirst s.opened conn

-- how often a connection is open after some acts, where it was so often before them
abbrev pub open_after : List Act → ℕ → Address → ℕ → ℕ
open_after [] conn peer n = n
open_after (acts.Open c p ∷ rest) conn peer n = open_after rest conn peer (once ((c == conn) && same_node p peer) + n)
open_after (acts.Close c ∷ rest) conn peer n = open_after rest conn peer (if c == conn then 0 else n)
open_after (act ∷ rest) conn peer n = open_after rest conn peer n

-- how many of the acts open a connection to a peer
abbrev pub opens_to : List Act → Address → ℕ
opens_to [] peer = 0
opens_to (acts.Open c p ∷ rest) peer = once (same_node p peer) + opens_to rest peer
opens_to (act ∷ rest) peer = opens_to rest peer

-- the acts open connections under the next numbers in order, from n on up to m
abbrev pub OpensFrom : ℕ → List Act → ℕ → Type 0
OpensFrom n [] m = n ≡ m
OpensFrom n (acts.Open c p ∷ rest) m = (c ≡ 2 * n) × OpensFrom (n + 1) rest m
OpensFrom n (act ∷ rest) m = OpensFrom n rest m

-- one id is kept for the node's own connection to a peer, where it has none yet
abbrev pub kept_free : Sender → Address → ℕ
kept_free s peer = if list_any (λ known. same_node known.0 peer) s.to_nodes then 0 else 1

-- Each act that closes or sends on a connection does so while that is open to some peer, where so many are open before the
-- acts, and so many peers have room for one counted payload: one counted payload goes to such a peer, and no other.
abbrev pub AllUsed : List Act → (ℕ → Address → ℕ) → (Address → Bool) → Type 0
AllUsed [] held roomy = Unit {0}
AllUsed (acts.Open c p ∷ rest) held roomy = AllUsed rest (λ conn peer. once ((c == conn) && same_node p peer) + held conn peer) roomy
AllUsed (acts.Close c ∷ rest) held roomy = ((peer : Address) × (1 ≤ held c peer)) × AllUsed rest (λ conn peer. if c == conn then 0 else held conn peer) roomy
AllUsed (acts.Put c payload weight ∷ rest) held roomy = ((peer : Address) × (1 ≤ held c peer) × (is_counted weight ≡ true → roomy peer ≡ true)) × AllUsed rest held (λ peer. if is_counted weight then false else roomy peer)
AllUsed (acts.Note note ∷ rest) held roomy = AllUsed rest held roomy
