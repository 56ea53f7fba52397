-- Mailboxes and ports: what a process takes is what has entered there, in that order.
use Rattle.std.specs.Prelude.{ℕ, Bool, true, false, ◌&&◌, List, [], ◌++◌, count_by, filter_map, slice_get, Option, Some, None, IsTrue, ◌==◌, length, nat_lt, codes, if◌then◌else◌}
use Rattle.std.specs.Option.{option_map}
use Rattle.std.specs.Str.{bytes_eq}
use Rattle.ch_ident.specs.declared.identifier.Ref.{Ref}
use Rattle.ch_ident.specs.declared.message.Message.{Message}
use Rattle.ch_ident.specs.Spelling as spelling
use Rattle.ch_watch.specs.declared.waiting.Kind.TheVariants as kinds
use Rattle.ch_model.specs.declared.name.ProcName.{ProcName}
use Rattle.ch_model.specs.declared.name.RefName.{RefName}
use Rattle.ch_model.specs.declared.name.TargetName.{TargetName}
use Rattle.ch_model.specs.declared.name.TargetName.TheVariants as targets
use Rattle.ch_model.specs.declared.entry.Entry.{Entry}
use Rattle.ch_model.specs.declared.entry.Entry.TheVariants as entries
use Rattle.ch_model.specs.declared.line.Line.{Line}
use Rattle.ch_model.specs.Same.{same_process, same_target, same_finding}
use Rattle.ch_model.specs.Logs.{each, collected, never, first_of, some_and}
use Rattle.ch_model.specs.Declarations.{process_id, reference_id}
use Rattle.ch_model.specs.Marks.{owner_of_reference}
use Rattle.ch_model.specs.Epochs.{says_it}
use Rattle.ch_model.specs.Watches.{watch_of}

-- the message that the entry says, where it is of this pair, epoch and index
abbrev pub said_as : ProcName → TargetName → ℕ → ℕ → Entry → Option Message
said_as p d e k (entries.Said by to epoch index mark body) =
    if says_it p d e k (entries.Said by to epoch index mark body) then Some (record { mark = mark; body = body }) else None
said_as p d e k entry = None

-- the message of this pair, epoch and index
abbrev pub message_of : List Entry → ProcName → TargetName → ℕ → ℕ → Option Message
message_of log p d e k = first_of (said_as p d e k) log

-- a message of the node's own, under a reference: its fields come after the reference
abbrev pub own_message : List Line → List ℕ → RefName → List ℕ → Option Message
own_message journal mark m fields = option_map (λ (r : Ref). record { mark = mark; body = spelling.reference r ++ fields }) (reference_id journal m)

-- the fields of what was found: a process or none, where the process is of a declared name
abbrev pub found_fields : List Line → Option ProcName → List ℕ
found_fields journal None = spelling.found None
found_fields journal (Some p) = spelling.found (process_id journal p)

-- the fields of a process
abbrev pub process_fields : List Line → ProcName → List ℕ
process_fields journal p = elim (process_id journal p) [
  | None ↦ []
  | Some id ↦ spelling.process id
]

-- the message, where it is for this process
abbrev pub if_for : ProcName → Option ProcName → Option Message → Option Message
if_for p owner message = if same_finding owner (Some p) then message else None

-- the owner of a monitor; a link's owner gets no message
abbrev pub monitors_as : List Entry → RefName → Option ProcName
monitors_as log m = elim (watch_of log m) [
  | None ↦ None
  | Some w ↦ elim w.kind [ kinds.Monitor ↦ Some w.by | _ ↦ None ]
]

-- The message that enters the process's mailbox by an entry, after the log before it: one that it got otherwise than by
-- a port; the end of what it monitors; or the answer to a spawn or to a question for a name.
abbrev pub entering : List Line → ProcName → List Entry → Entry → Option Message
entering journal p log (entries.Got by (targets.Port process port) epoch index receiver) = None
entering journal p log (entries.Got by to epoch index receiver) = if_for p receiver (message_of log by to epoch index)
entering journal p log (entries.Told watch reason) = if_for p (monitors_as log watch) (own_message journal (codes "$died") watch (spelling.reason reason))
entering journal p log (entries.Spawned question process) =
    if_for p (owner_of_reference journal log question) (own_message journal (codes "$spawned") question (process_fields journal process))
entering journal p log (entries.Isat question found) =
    if_for p (owner_of_reference journal log question) (own_message journal (codes "$isat") question (found_fields journal found))
entering journal p log entry = None

-- the message that enters this port by an entry, after the log before it
abbrev pub entering_port : ProcName → ℕ → List Entry → Entry → Option Message
entering_port p n log (entries.Got by to epoch index receiver) = if same_target to (targets.Port p n) then message_of log by to epoch index else None
entering_port p n log entry = None

-- the body, where the message has this mark
abbrev pub body_of : List ℕ → Message → Option (List ℕ)
body_of word m = if bytes_eq m.mark word then Some m.body else None

-- the bodies of this mark that entered the process's mailbox, in order
abbrev pub entered : List Line → List Entry → ProcName → List ℕ → List (List ℕ)
entered journal log p word = filter_map (body_of word) (collected never (entering journal p) log)

-- the messages that entered this port, in order
abbrev pub entered_port : List Entry → ProcName → ℕ → List Message
entered_port log p n = collected never (entering_port p n) log

-- the entry takes a message of this mark from the process's mailbox
abbrev pub takes_marked : ProcName → List ℕ → Entry → Bool
takes_marked p word (entries.Took by None mark body) = same_process by p && bytes_eq mark word
takes_marked p word entry = false

-- the entry takes a message from this port
abbrev pub takes_from : ProcName → ℕ → Entry → Bool
takes_from p n (entries.Took by (Some port) mark body) = same_process by p && port == n
takes_from p n entry = false

-- a message of this mark has entered the process's mailbox and wasn't taken
abbrev pub has_marked : List Line → List Entry → ProcName → List ℕ → Bool
has_marked journal log p word = nat_lt (count_by (takes_marked p word) log) (length (entered journal log p word))

-- a message has entered this port and wasn't taken
abbrev pub has_in_port : List Entry → ProcName → ℕ → Bool
has_in_port log p n = nat_lt (count_by (takes_from p n) log) (length (entered_port log p n))

-- what is taken of a mark is the first body that entered and wasn't taken
abbrev pub takes_the_first : List Line → List Entry → Entry → Bool
takes_the_first journal log (entries.Took by None mark body) =
    some_and (bytes_eq body) (slice_get (entered journal log by mark) (count_by (takes_marked by mark) log))
takes_the_first journal log entry = true

-- what is taken from a port is the first message that entered it and wasn't taken
abbrev pub takes_the_first_of_port : List Entry → Entry → Bool
takes_the_first_of_port log (entries.Took by (Some port) mark body) =
    some_and (λ (m : Message). bytes_eq mark m.mark && bytes_eq body m.body) (slice_get (entered_port log by port) (count_by (takes_from by port) log))
takes_the_first_of_port log entry = true

-- mailboxes and ports are lists
pub record FollowsMailboxes (journal : List Line) (log : List Entry) : Type 0 where
  pub from_mailboxes : IsTrue (each (takes_the_first journal) log)
  pub from_ports : IsTrue (each takes_the_first_of_port log)
