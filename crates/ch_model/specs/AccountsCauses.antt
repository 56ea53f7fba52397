-- The causes of node messages, and what node messages bring about.
use Rattle.std.specs.Prelude.{ℕ, Bool, true, false, not, ◌&&◌, ◌||◌, List, length, Option, Some, None, ◌==◌, if◌then◌else◌}
use Rattle.std.specs.List.{list_any}
use Rattle.std.specs.Str.{bytes_eq}
use Rattle.ch_ident.specs.declared.reason.Reason.{Reason}
use Rattle.ch_ident.specs.declared.reason.Reason.TheVariants as reasons
use Rattle.ch_ident.specs.declared.node_message.NodeMessage.{NodeMessage}
use Rattle.ch_ident.specs.declared.node_message.NodeMessage.TheVariants as messages
use Rattle.ch_model.specs.declared.name.ProcName.{ProcName}
use Rattle.ch_model.specs.declared.name.RefName.{RefName}
use Rattle.ch_model.specs.declared.name.SockName.{SockName}
use Rattle.ch_model.specs.declared.name.End.{End}
use Rattle.ch_model.specs.declared.entry.Entry.{Entry}
use Rattle.ch_model.specs.declared.entry.Entry.TheVariants as entries
use Rattle.ch_model.specs.declared.line.Line.{Line}
use Rattle.ch_model.specs.declared.line.What.{What}
use Rattle.ch_model.specs.declared.line.What.TheVariants as lines
use Rattle.ch_model.specs.Same.{same_process, owner, across}
use Rattle.ch_model.specs.Logs.{once, some_and, none_or}
use Rattle.ch_model.specs.Marks.{does, line_of_reference}
use Rattle.ch_model.specs.Names.{stands}
use Rattle.ch_model.specs.Watches.{Watching, watch_of}
use Rattle.ch_model.specs.Sockets.{writings}
use Rattle.ch_model.specs.AccountsItems.{first_payload, opens_nodes}
use Rattle.ch_model.specs.AccountsFrames.{data_written, datas}
use Rattle.ch_model.specs.AccountsNodes.{under, about, under_about, watch_message, unwatch_message, died_message, found_message, is_spelled, has_read}

-- the message, where it goes from x to y
abbrev pub if_between : List ℕ → List ℕ → List ℕ → List ℕ → Option NodeMessage → Option NodeMessage
if_between x y from to message = if bytes_eq from x && bytes_eq to y then message else None

-- the message that a question asked of another node is sent by
abbrev pub question_message : List Line → RefName → What → Option NodeMessage
question_message journal m (lines.Spawn by at label args) = under journal m (λ r. messages.Spawn r label args)
question_message journal m (lines.Whereis by at name) = under journal m (λ r. messages.WhereIs r name)
question_message journal m what = None

-- the message of the line by which the reference was taken
abbrev pub asking_message : List Line → List Entry → RefName → Option NodeMessage
asking_message journal log m = elim (line_of_reference journal log m) [
  | None ↦ None
  | Some what ↦ question_message journal m what
]

-- the message from x to y that a watch has caused: its opening, or its taking back
abbrev pub of_watch : List Line → List ℕ → List ℕ → Option Watching → (Watching → Option NodeMessage) → Option NodeMessage
of_watch journal x y None make = None
of_watch journal x y (Some w) make = if_between x y w.by.node w.target.node (make w)

-- the message from x to y that an entry causes, other than the end of a process and the answer to a question for a name
abbrev pub caused_by : List Line → List Entry → List ℕ → List ℕ → Entry → Option NodeMessage
caused_by journal log x y (entries.Watch watch by target kind) = if_between x y by.node target.node (watch_message journal watch kind target)
caused_by journal log x y (entries.Unwatch watch) = of_watch journal x y (watch_of log watch) (λ (w : Watching). unwatch_message journal watch w.kind)
caused_by journal log x y (entries.Asked question by at) = if_between x y by.node at (asking_message journal log question)
caused_by journal log x y (entries.Made process (Some spawn) label) = if_between x y process.node spawn.node (under_about journal spawn process messages.DidSpawn)
caused_by journal log x y (entries.Absent watch) =
    of_watch journal y x (watch_of log watch) (λ w. died_message journal watch reasons.UnknownId)
caused_by journal log x y entry = None

-- the entry watches this process from y, and this is its message at the end with this reason
abbrev pub tells_end : List Line → List ℕ → ProcName → Reason → List ℕ → Entry → Bool
tells_end journal y p reason payload (entries.Watch watch by target kind) =
    bytes_eq by.node y && same_process target p && is_spelled payload (died_message journal watch reason)
tells_end journal y p reason payload entry = false

-- the entry ends a process of x that is watched from y, and the payload tells this
abbrev pub ends_watched : List Line → List Entry → List ℕ → List ℕ → List ℕ → Entry → Bool
ends_watched journal log x y payload (entries.Over process reason) = bytes_eq process.node x && list_any (tells_end journal y process reason payload) log
ends_watched journal log x y payload entry = false

-- the payload is the message of an exit or kill from x to y that was done
abbrev pub dooms_across : List Line → List ℕ → List ℕ → List ℕ → What → Bool
dooms_across journal x y payload (lines.Exit by target text) =
    bytes_eq by.node x && bytes_eq target.node y && is_spelled payload (about journal target (λ id. messages.Exit id text))
dooms_across journal x y payload (lines.Kill by target text) =
    bytes_eq by.node x && bytes_eq target.node y && is_spelled payload (about journal target (λ id. messages.Kill id text))
dooms_across journal x y payload what = false

-- the payload answers, as the name stood at the moment, a question for a name
abbrev pub answers_as_stood : List Line → List Entry → RefName → List ℕ → What → Bool
answers_as_stood journal moment m payload (lines.Whereis by at name) = is_spelled payload (found_message journal m (stands moment at name))
answers_as_stood journal moment m payload what = false

-- the entry asked x for a name from y, x has read it, and the payload answers as the name has stood since
abbrev pub answers_question : List Line → List Entry → List ℕ → List ℕ → List ℕ → Entry → Bool
answers_question journal log x y payload (entries.Asked question by at) =
    bytes_eq by.node y && bytes_eq at x
    && once (λ moment. has_read journal moment y x (asking_message journal moment question)
    && some_and (answers_as_stood journal moment question payload) (line_of_reference journal moment question)) log
answers_question journal log x y payload entry = false

-- the payload of a node message of x towards y has a cause before it
abbrev pub is_caused : List Line → List Entry → List ℕ → List ℕ → List ℕ → Bool
is_caused journal log x y payload =
    list_any (λ entry. is_spelled payload (caused_by journal log x y entry)) log
    || list_any (ends_watched journal log x y payload) log
    || list_any (does journal (dooms_across journal x y payload)) log
    || list_any (answers_question journal log x y payload) log

-- a payload that follows the opening of a connection from node to node has a cause
abbrev pub is_caused_data : List Line → List Entry → SockName → End → ℕ × List ℕ → Bool
is_caused_data journal log sock end d =
    not (some_and (opens_nodes journal (owner sock end) (owner sock (across end))) (first_payload d.0 (datas log sock end)))
    || is_caused journal log (owner sock end) (owner sock (across end)) d.1

-- each node message that is written has a cause before it
abbrev pub writes_caused : List Line → List Entry → Entry → Bool
writes_caused journal log (entries.Wrote sock end bytes) =
    length (writings log sock end) == 0 || none_or (is_caused_data journal log sock end) (data_written log sock end bytes)
writes_caused journal log entry = true
