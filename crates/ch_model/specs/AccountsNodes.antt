-- Messages from node to node by their bytes: each that is written has a cause before it, and what it brings about stands after it was read.
use Rattle.std.specs.Prelude.{ℕ, Bool, false, List, drop, filter_map, Option, Some, None, if◌then◌else◌}
use Rattle.std.specs.List.{list_any, flat_map}
use Rattle.std.specs.Str.{bytes_eq}
use Rattle.ch_ident.specs.Spelling as spelling
use Rattle.ch_ident.specs.declared.identifier.ProcessId.{ProcessId}
use Rattle.ch_ident.specs.declared.identifier.Ref.{Ref}
use Rattle.ch_ident.specs.declared.reason.Reason.{Reason}
use Rattle.ch_ident.specs.declared.node_message.NodeMessage.{NodeMessage}
use Rattle.ch_ident.specs.declared.node_message.NodeMessage.TheVariants as messages
use Rattle.ch_watch.specs.declared.waiting.Kind.{Kind}
use Rattle.ch_watch.specs.declared.waiting.Kind.TheVariants as kinds
use Rattle.ch_model.specs.declared.name.ProcName.{ProcName}
use Rattle.ch_model.specs.declared.name.RefName.{RefName}
use Rattle.ch_model.specs.declared.name.SockName.{SockName}
use Rattle.ch_model.specs.declared.entry.Entry.{Entry}
use Rattle.ch_model.specs.declared.entry.Entry.TheVariants as entries
use Rattle.ch_model.specs.declared.line.Line.{Line}
use Rattle.ch_model.specs.Same.{is_between, end_of}
use Rattle.ch_model.specs.Declarations.{process_id, reference_id}
use Rattle.ch_model.specs.Sockets.{read_pieces}
use Rattle.ch_model.specs.AccountsItems.{frame_of, data_of, node_payload}

-- a message under a reference, where its name is of a declared node
abbrev pub under : List Line → RefName → (Ref → NodeMessage) → Option NodeMessage
under journal m make = elim (reference_id journal m) [
  | None ↦ None
  | Some r ↦ Some (make r)
]

-- a message about a process, where its name is of a declared node
abbrev pub about : List Line → ProcName → (ProcessId → NodeMessage) → Option NodeMessage
about journal p make = elim (process_id journal p) [
  | None ↦ None
  | Some id ↦ Some (make id)
]

-- a message under a reference about a process
abbrev pub under_about : List Line → RefName → ProcName → (Ref → ProcessId → NodeMessage) → Option NodeMessage
under_about journal m p make = elim (process_id journal p) [
  | None ↦ None
  | Some id ↦ under journal m (λ r. make r id)
]

-- the message that asks for a watch
abbrev pub watch_message : List Line → RefName → Kind → ProcName → Option NodeMessage
watch_message journal m kinds.Link target = under_about journal m target messages.Link
watch_message journal m kind target = under_about journal m target messages.Monitor

-- the message that takes a watch back
abbrev pub unwatch_message : List Line → RefName → Kind → Option NodeMessage
unwatch_message journal m kinds.Link = under journal m messages.Unlink
unwatch_message journal m kind = under journal m messages.Unmonitor

-- the message that tells a watch's node the end of its target
abbrev pub died_message : List Line → RefName → Reason → Option NodeMessage
died_message journal m reason = under journal m (λ r. messages.Died r reason)

-- the message that answers a question for a name
abbrev pub found_message : List Line → RefName → Option ProcName → Option NodeMessage
found_message journal m None = under journal m (λ r. messages.IsAt r None)
found_message journal m (Some p) = under_about journal m p (λ r id. messages.IsAt r (Some id))

-- a socket that was dialed between these nodes
abbrev pub dialed_between : List ℕ → List ℕ → Entry → Option SockName
dialed_between x y (entries.Dial sock) = if is_between x y sock then Some sock else None
dialed_between x y entry = None

-- the payloads, each with its id, that were fed whole to y's end of a socket with x
abbrev pub read_datas : List Entry → List ℕ → SockName → List (ℕ × List ℕ)
read_datas log y sock = filter_map data_of (filter_map frame_of (drop 1 (read_pieces log sock (end_of y sock))))

-- the payloads of node messages among these
abbrev pub node_payloads : List Line → List ℕ → List ℕ → List (ℕ × List ℕ) → List (List ℕ)
node_payloads journal x y datas = filter_map (node_payload journal x y datas) datas

-- the payloads of node messages of x that were fed whole to y, on whichever socket
abbrev pub read_from_node : List Line → List Entry → List ℕ → List ℕ → List (List ℕ)
read_from_node journal log x y = flat_map (λ sock. node_payloads journal x y (read_datas log y sock)) (filter_map (dialed_between x y) log)

-- the payload spells this message
abbrev pub is_spelled : List ℕ → Option NodeMessage → Bool
is_spelled payload None = false
is_spelled payload (Some m) = bytes_eq payload (spelling.message m)

-- this message of x was fed whole to y
abbrev pub has_read : List Line → List Entry → List ℕ → List ℕ → Option NodeMessage → Bool
has_read journal log x y message = list_any (λ payload. is_spelled payload message) (read_from_node journal log x y)
