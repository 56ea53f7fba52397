-- Which message each frame carries. What a node says to another, on pairs that don't wait to be reconnected, it writes in
-- the order said, whichever sockets it goes on; a break of the link drops what isn't written yet.
use Rattle.std.specs.Prelude.{ℕ, Bool, not, ◌&&◌, List, [], ◌∷◌, length, filter_map, slice_get, Option, Some, None, ◌==◌, nat_lt, nat_le, ◌+◌, cond, if◌then◌else◌}
use Rattle.std.specs.Option.{option_map}
use Rattle.std.specs.Str.{bytes_eq}
use Rattle.ch_ident.specs.Spelling as spelling
use Rattle.ch_ident.specs.declared.identifier.Identifier.{Identifier}
use Rattle.ch_ident.specs.declared.identifier.Identifier.TheVariants as identifiers
use Rattle.ch_ident.specs.declared.identifier.ProcessId.{ProcessId}
use Rattle.ch_ident.specs.declared.node_message.NodeMessage.TheVariants as messages
use Rattle.ch_model.specs.declared.name.ProcName.{ProcName}
use Rattle.ch_model.specs.declared.name.SockName.{SockName}
use Rattle.ch_model.specs.declared.name.TargetName.{TargetName}
use Rattle.ch_model.specs.declared.name.TargetName.TheVariants as targets
use Rattle.ch_model.specs.declared.name.End.{End}
use Rattle.ch_model.specs.declared.entry.Entry.{Entry}
use Rattle.ch_model.specs.declared.entry.Entry.TheVariants as entries
use Rattle.ch_model.specs.declared.line.Line.{Line}
use Rattle.ch_model.specs.Same.{same_process, same_target, same_socket, same_end, node_of, owner, across, is_end_of}
use Rattle.ch_model.specs.Logs.{collected, never, some_and}
use Rattle.ch_model.specs.Declarations.{address_of, process_id}
use Rattle.ch_model.specs.Epochs.{breaks, is_broken}
use Rattle.ch_model.specs.AccountsItems.{frame_of, frames_of, data_of, first_payload, opens_nodes}

-- what a said entry says
pub record Saying : Type 0 where
  pub by : ProcName
  pub to : TargetName
  pub epoch : ℕ
  pub index : ℕ
  pub mark : List ℕ
  pub body : List ℕ

-- the saying is of this pair, epoch and index
abbrev pub is_saying : ProcName → TargetName → ℕ → ℕ → Saying → Bool
is_saying p d e k s = same_process s.by p && same_target s.to d && s.epoch == e && s.index == k

-- what x says to y by this entry, on a pair that doesn't wait to be reconnected
abbrev pub going : List ℕ → List ℕ → List Entry → Entry → Option Saying
going x y log (entries.Said by to epoch index mark body) =
    if bytes_eq by.node x && bytes_eq (node_of to) y && not (is_broken log by to)
    then Some (record { by = by; to = to; epoch = epoch; index = index; mark = mark; body = body }) else None
going x y log entry = None

-- what x has said to y since its last break with it, in order
abbrev pub said_between : List Entry → List ℕ → List ℕ → List Saying
said_between log x y = collected (breaks x y) (going x y) log

-- the payload and its id, where these bytes are a frame that carries one, and aren't the end's first item
abbrev pub data_written : List Entry → SockName → End → List ℕ → Option (ℕ × List ℕ)
data_written log sock end bytes = elim (frame_of bytes) [
  | None ↦ None
  | Some frame ↦ data_of frame
]

-- the payloads that this end wrote, each with its id
abbrev pub datas : List Entry → SockName → End → List (ℕ × List ℕ)
datas log sock end = filter_map data_of (frames_of log sock end)

-- A user's payload of x towards y: not the first of its connection, which isn't the one from node to node.
abbrev pub is_user_data : List Line → List Entry → SockName → End → ℕ × List ℕ → Bool
is_user_data journal log sock end d =
    some_and (λ opening. not (opens_nodes journal (owner sock end) (owner sock (across end)) opening)) (first_payload d.0 (datas log sock end))

-- the user's payload of x towards y that is written by this entry, with its id
abbrev pub user_data : List Line → List ℕ → List ℕ → List Entry → Entry → Option (ℕ × List ℕ)
user_data journal x y log (entries.Wrote sock end bytes) =
    if is_end_of x y sock end
    then elim (data_written log sock end bytes) [ None ↦ None | Some d ↦ if is_user_data journal log sock end d then Some d else None ]
    else None
user_data journal x y log entry = None

-- what x's next user's payload towards y carries: as many were written since the last break as were said before it
abbrev pub next_carried : List Line → List Entry → List ℕ → List ℕ → Option Saying
next_carried journal log x y = slice_get (said_between log x y) (length (collected (breaks x y) (user_data journal x y) log))

-- what an entry carries from x to y: nothing, where it writes no user's payload
abbrev pub carried : List Line → List ℕ → List ℕ → List Entry → Entry → Option Saying
carried journal x y log entry = elim (user_data journal x y log entry) [
  | None ↦ None
  | Some d ↦ next_carried journal log x y
]

-- all that was written from x to y of what was said, in the order written
abbrev pub written_sayings : List Line → List Entry → List ℕ → List ℕ → List Saying
written_sayings journal log x y = collected never (carried journal x y) log

-- an item that was written towards an end: its size, and what it carries
abbrev pub Arriving : Type 0
Arriving = ℕ × Option Saying

-- the item that is written towards this end by an entry
abbrev pub arriving_by : List Line → SockName → End → List Entry → Entry → Option Arriving
arriving_by journal s e log (entries.Wrote sock end bytes) =
    if same_socket sock s && same_end end (across e)
    then Some (length bytes, carried journal (owner s (across e)) (owner s e) log (entries.Wrote sock end bytes)) else None
arriving_by journal s e log entry = None

-- what an item carries, if anything, before the others
abbrev pub with_carried : Option Saying → List Saying → List Saying
with_carried None others = others
with_carried (Some saying) others = saying ∷ others

-- what is carried by items that end after the place low, and not after high
abbrev pub ending_within : ℕ → ℕ → ℕ → List Arriving → List Saying
ending_within low high at [] = []
ending_within low high at (item ∷ items) =
    let stop : ℕ = at + item.0 in
    let others : List Saying = ending_within low high stop items in
    cond (nat_lt low stop && nat_le stop high) (with_carried item.1 others) others

-- a connection's target, as its opening names it: a name's connection goes to its node
abbrev pub target_id : List Line → TargetName → Option Identifier
target_id journal (targets.Process process) = option_map identifiers.Process (process_id journal process)
target_id journal (targets.Port process port) = option_map (λ (p : ProcessId). identifiers.Port (record { process = p; port = port })) (process_id journal process)
target_id journal (targets.Named node name) = option_map identifiers.Node (address_of journal node)

-- the opening message of a pair's connection
abbrev pub pair_opening : List Line → ProcName → TargetName → Option (List ℕ)
pair_opening journal p d = elim (process_id journal p) [
  | None ↦ None
  | Some from ↦ option_map (λ (to : Identifier). spelling.message (messages.Opening (identifiers.Process from) to)) (target_id journal d)
]

-- the payload of a message to a target: one to a name says the name
abbrev pub payload_to : TargetName → List ℕ → List ℕ → List ℕ
payload_to (targets.Named node name) mark body = spelling.message (messages.NamedSend name mark body)
payload_to target mark body = spelling.user (record { mark = mark; body = body })

-- the payload of what is said
abbrev pub payload_of : Saying → List ℕ
payload_of s = payload_to s.to s.mark s.body
