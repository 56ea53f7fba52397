-- Pairs of a sending process and a target: their epochs and indexes, and what becomes of their connections.
use Rattle.std.specs.Prelude.{ℕ, ◌+◌, Bool, false, ◌&&◌, ◌==◌, List, [], ◌∷◌, map, find, filter_map, Option, Some, None, Result, Ok, unwrap_or, nat_le, if◌then◌else◌}
use Rattle.std.specs.Str.{bytes_eq}
use Rattle.ch_base.specs.declared.address.Address.{Address}
use Rattle.ch_base.specs.declared.memory.Stop.{Stop}
use Rattle.ch_ident.specs.declared.identifier.ProcessId.{ProcessId}
use Rattle.ch_ident.specs.declared.identifier.SendPortId.{SendPortId}
use Rattle.ch_static.specs.declared.target.Target.{Target}
use Rattle.ch_static.specs.declared.target.Target.TheVariants as targets
use Rattle.ch_watch.specs.Same.{same_node}
use Rattle.ch_model.specs.NodeState.{NodeState, Pair, Mark, Unopened, Opened, Broken}
use Rattle.ch_model.specs.NodeActs.{◌>>=◌, growing}
use Rattle.ch_model.specs.NodeIds.{target_at}

-- two processes are one
unfoldable pub same_process : ProcessId → ProcessId → Bool
same_process a b = same_node a.node b.node && ((a.unique == b.unique) && (a.counter == b.counter))

-- two ports are one
unfoldable pub same_port : SendPortId → SendPortId → Bool
same_port a b = same_process a.process b.process && (a.port == b.port)

-- two targets are one
unfoldable pub same_target : Target → Target → Bool
same_target (targets.Process a) (targets.Process b) = same_process a b
same_target (targets.Port a) (targets.Port b) = same_port a b
same_target (targets.Named at name) (targets.Named other word) = same_node at other && bytes_eq name word
same_target a b = false

-- it is the pair of this process and this target
unfoldable pub is_pair : ℕ → Target → Pair → Bool
is_pair by to pair = (pair.by == by) && same_target pair.to to

-- a pair that has said nothing
abbrev pub new_pair : ℕ → Target → Pair
new_pair by to = record { by = by; to = to; epoch = 0; index = 0; mark = Unopened }

-- the pair of a process and a target
unfoldable pub pair_of : List Pair → ℕ → Target → Pair
pair_of pairs by to = unwrap_or (find (is_pair by to) pairs) (new_pair by to)

-- the pairs, with this one in its place, or after the others where it is new
abbrev pub with_pair : Pair → List Pair → List Pair
with_pair pair [] = pair ∷ []
with_pair pair (known ∷ others) = if is_pair pair.by pair.to known then pair ∷ others else known ∷ with_pair pair others

-- the node, with this pair in its place
abbrev pub keeping : NodeState → Pair → NodeState
keeping node pair = record node { pairs = with_pair pair node.pairs }

-- a pair begins its next epoch, without a connection
unfoldable pub next_epoch : Pair → Result Pair Stop
next_epoch pair = do
  epoch ← growing pair.epoch
  Ok (record pair { epoch = epoch + 1; index = 0; mark = Unopened })

-- ---- the end of a process closes its connections

-- the connection of a mark
abbrev pub conn_of : Mark → Option ℕ
conn_of (Opened conn) = Some conn
conn_of mark = None

-- a mark after its connection is closed
abbrev pub closed_mark : Mark → Mark
closed_mark (Opened conn) = Unopened
closed_mark mark = mark

-- the connection of a pair, where it is of this process
abbrev pub conn_by : ℕ → Pair → Option ℕ
conn_by by pair = if pair.by == by then conn_of pair.mark else None

-- a pair after all connections of a process are closed
abbrev pub closed_by : ℕ → Pair → Pair
closed_by by pair = if pair.by == by then record pair { mark = closed_mark pair.mark } else pair

-- a number is put into its place among rising ones
abbrev pub in_place : ℕ → List ℕ → List ℕ
in_place n [] = n ∷ []
in_place n (m ∷ rest) = if nat_le n m then n ∷ m ∷ rest else m ∷ in_place n rest

-- numbers in rising order
abbrev pub rising : List ℕ → List ℕ
rising [] = []
rising (n ∷ rest) = in_place n (rising rest)

-- the open connections of a process, in order of opening
unfoldable pub conns_by : List Pair → ℕ → List ℕ
conns_by pairs by = rising (filter_map (conn_by by) pairs)

-- the pairs after all connections of a process are closed
unfoldable pub closed_pairs : List Pair → ℕ → List Pair
closed_pairs pairs by = map (closed_by by) pairs

-- ---- a link fails

-- an open pair after its link failed: it is broken, but a pair to a name begins its next epoch
abbrev pub broken : Pair → Target → Result Pair Stop
broken pair (targets.Named at name) = next_epoch pair
broken pair to = Ok (record pair { mark = Broken })

-- a pair after its link failed
abbrev pub lost_as : Pair → Mark → Result Pair Stop
lost_as pair (Opened conn) = broken pair pair.to
lost_as pair mark = Ok pair

-- a pair after the link with a peer failed
unfoldable pub lost_pair : Address → Pair → Result Pair Stop
lost_pair peer pair = if same_node (target_at pair.to) peer then lost_as pair pair.mark else Ok pair

-- the pairs after the link with a peer failed
abbrev pub lost_pairs : Address → List Pair → Result (List Pair) Stop
lost_pairs peer [] = Ok []
lost_pairs peer (pair ∷ others) = do
  lost ← lost_pair peer pair
  rest ← lost_pairs peer others
  Ok (lost ∷ rest)
