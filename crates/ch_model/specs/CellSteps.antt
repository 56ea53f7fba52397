-- How a host and its nodes work together: a step that posts an event goes to a node, the node's acts go back to the
-- host, and all that followed is told as one list.
use Rattle.std.specs.Prelude.{ℕ, zero, suc, Bool, ◌==◌, List, [], ◌∷◌, ◌++◌, length, map, sum_by, find, Some, None, Result, Ok, Err, if◌then◌else◌}
use Rattle.ch_base.specs.declared.event.Event.{Event}
use Rattle.ch_base.specs.declared.memory.Stop.{Stop}
use Rattle.ch_base.specs.declared.memory.Stop.TheVariants as stops
use Rattle.ch_model.specs.declared.act.Act.{Act}
use Rattle.ch_model.specs.declared.act.Act.TheVariants as acts
use Rattle.ch_model.specs.declared.local.LocalEntry.{LocalEntry}
use Rattle.ch_model.specs.declared.local.LocalEntry.TheVariants as local
use Rattle.ch_model.specs.declared.step.EndError.{EndError}
use Rattle.ch_model.specs.declared.step.EndError.TheVariants as errors
use Rattle.ch_model.specs.declared.step.Step.{Step}
use Rattle.ch_model.specs.declared.step.Step.TheVariants as steps
use Rattle.ch_model.specs.HostState.{HostState}
use Rattle.ch_model.specs.HostCalls.{host_connect, host_send, host_close}
use Rattle.ch_model.specs.Host.{host_next}
use Rattle.ch_model.specs.NodeState.{NodeState}
use Rattle.ch_model.specs.Node.{node_event}
use Rattle.ch_model.specs.WorldState.{Cell}

-- what followed, and the cell after it; or a count stands at its type's last value
abbrev pub Followed : Type 0
Followed = Result (List LocalEntry × Cell) Stop

-- entries before those of what follows
abbrev pub after_entries : List LocalEntry → Followed → Followed
after_entries entries (Ok more) = Ok (entries ++ more.0, more.1)
after_entries entries (Err stop) = Err stop

infixl 10 ◌then◌
-- one thing and then another, with the entries of both in order
abbrev pub ◌then◌ : Followed → (Cell → Followed) → Followed
(Ok done) then f = after_entries done.0 (f done.1)
(Err stop) then f = Err stop

-- ---- nodes by the number of their endpoint

abbrev pub is_at : ℕ → ℕ × NodeState → Bool
is_at end node = node.0 == end

-- the node is kept in place of the one at its endpoint
abbrev pub store_node : ℕ → NodeState → List (ℕ × NodeState) → List (ℕ × NodeState)
store_node end node [] = []
store_node end node (known ∷ rest) = if is_at end known then (end, node) ∷ rest else known ∷ store_node end node rest

abbrev pub with_node : ℕ → NodeState → Cell → Cell
with_node end node cell = record cell { nodes = store_node end node cell.nodes }

-- ---- what a node's act asks of the host

-- a step of the host is told as it is
abbrev pub told_steps : List Step → List LocalEntry
told_steps done = map (λ step. local.Step step) done

-- What a node asks of its host gives steps that post nothing. A refusal, which no node's act meets, does nothing.
abbrev pub asked : Cell → Result (List Step × HostState) EndError → Followed
asked cell (Ok done) = Ok (told_steps done.0, record cell { host = done.1 })
asked cell (Err errors.Worn) = Err stops.Worn
asked cell (Err errors.OutOfMemory) = Err stops.OutOfMemory
asked cell (Err e) = Ok ([], cell)

-- an act of the node at an endpoint
abbrev pub act_on : ℕ → Act → Cell → Followed
act_on end (acts.Note note) cell = Ok (local.Note note ∷ [], cell)
act_on end (acts.Open conn peer) cell = asked cell (host_connect cell.host end peer conn)
act_on end (acts.Put conn payload weight) cell = asked cell (host_send cell.host end conn payload weight)
act_on end (acts.Close conn) cell = asked cell (host_close cell.host end conn)

abbrev pub acts_on : ℕ → List Act → Cell → Followed
acts_on end [] cell = Ok ([], cell)
acts_on end (act ∷ rest) cell = act_on end act cell then acts_on end rest

-- ---- what a step of the host tells a node

-- what a node made of an event
abbrev pub node_followed : ℕ → Cell → Result (List Act × NodeState) Stop → Followed
node_followed end cell (Ok done) = acts_on end done.0 (with_node end done.1 cell)
node_followed end cell (Err stop) = Err stop

-- the node at an endpoint hears an event
abbrev pub posted : ℕ → Event → Cell → Followed
posted end event cell = elim (find (is_at end) cell.nodes) [
  | None ↦ Ok ([], cell)
  | Some node ↦ node_followed end cell (node_event node.1 event)
]

-- a step that posts an event is no entry; every other is told
abbrev pub step_on : Step → Cell → Followed
step_on (steps.Post end event) cell = posted end event cell
step_on step cell = Ok (local.Step step ∷ [], cell)

abbrev pub steps_on : List Step → Cell → Followed
steps_on [] cell = Ok ([], cell)
steps_on (step ∷ rest) cell = step_on step cell then steps_on rest

-- ---- items, one after another

-- the bytes that are kept unread by a host: no more items than these are handled
abbrev pub kept_bytes : HostState → ℕ
kept_bytes host = sum_by (λ socket. length socket.since) host.sockets

-- Each item is handled with all its consequences before the next, until no whole one is left.
abbrev pub items_on : ℕ → Cell → Followed
items_on zero cell = Ok ([], cell)
items_on (suc fuel) cell = elim (host_next cell.host) [
  | Err stop ↦ Err stop
  | Ok next ↦ elim next.0 [
    | None ↦ Ok ([], cell)
    | Some done ↦ (steps_on done (record cell { host = next.1 }) then items_on fuel)
  ]
]

-- all whole items are handled
abbrev pub all_items : Cell → Followed
all_items cell = items_on (kept_bytes cell.host) cell
