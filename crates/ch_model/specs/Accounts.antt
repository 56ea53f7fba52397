-- The log is accounted for by its bytes: what a node does because of another it does by what was fed to it.
use Rattle.std.specs.Prelude.{ℕ, Bool, true, false, not, ◌&&◌, ◌||◌, List, Option, Some, None, IsTrue}
use Rattle.std.specs.List.{list_any}
use Rattle.std.specs.Str.{bytes_eq}
use Rattle.ch_ident.specs.declared.reason.Reason.{Reason}
use Rattle.ch_ident.specs.declared.reason.Reason.TheVariants as reasons
use Rattle.ch_ident.specs.declared.node_message.NodeMessage.{NodeMessage}
use Rattle.ch_ident.specs.declared.node_message.NodeMessage.TheVariants as messages
use Rattle.ch_model.specs.declared.name.ProcName.{ProcName}
use Rattle.ch_model.specs.declared.name.RefName.{RefName}
use Rattle.ch_model.specs.declared.entry.Entry.{Entry}
use Rattle.ch_model.specs.declared.entry.Entry.TheVariants as entries
use Rattle.ch_model.specs.declared.line.Line.{Line}
use Rattle.ch_model.specs.declared.line.What.{What}
use Rattle.ch_model.specs.declared.line.What.TheVariants as lines
use Rattle.ch_model.specs.Logs.{each, some_and, last_is}
use Rattle.ch_model.specs.Marks.{does, line_of_reference}
use Rattle.ch_model.specs.LifeRules.{dooms_by, tells_link}
use Rattle.ch_model.specs.Watches.{Watching, watch_of}
use Rattle.ch_model.specs.AccountsBytes.{IsWrittenAndFed}
use Rattle.ch_model.specs.AccountsMessages.{IsCarried}
use Rattle.ch_model.specs.AccountsNodes.{about, under_about, watch_message, died_message, found_message, has_read}
use Rattle.ch_model.specs.AccountsCauses.{asking_message, writes_caused}

-- the watch is within one node, or the message of its reference has come across: from its target's node, or to it
abbrev pub is_within : Watching → Bool
is_within w = bytes_eq w.by.node w.target.node

-- a target of another node is found absent after the watch's message was read there
abbrev pub absent_by_bytes : List Line → List Entry → Entry → Bool
absent_by_bytes journal log (entries.Absent watch) =
    some_and (λ (w : Watching). is_within w || has_read journal log w.by.node w.target.node (watch_message journal watch w.kind w.target)) (watch_of log watch)
absent_by_bytes journal log entry = true

-- the reason comes from the target's node, and isn't that of a break
abbrev pub is_told_across : Reason → Bool
is_told_across reasons.Disconnect = false
is_told_across reasons.NodeDown = false
is_told_across reason = true

-- the end of a target of another node is told after its message was read
abbrev pub told_by_bytes : List Line → List Entry → Entry → Bool
told_by_bytes journal log (entries.Told watch reason) =
    not (is_told_across reason)
    || some_and (λ (w : Watching). is_within w || has_read journal log w.target.node w.by.node (died_message journal watch reason)) (watch_of log watch)
told_by_bytes journal log entry = true

-- the node that a line asks
abbrev pub asked_of : What → Option (List ℕ)
asked_of (lines.Spawn by at label args) = Some at
asked_of (lines.Whereis by at name) = Some at
asked_of what = None

-- the question was of its own node, or this answer of the asked node was read
abbrev pub is_answered_by : List Line → List Entry → RefName → Option NodeMessage → What → Bool
is_answered_by journal log m message what = some_and (λ at. bytes_eq at m.node || has_read journal log at m.node message) (asked_of what)

-- a spawn or a question for a name that another node was asked is answered after its message was read
abbrev pub answered_by_bytes : List Line → List Entry → Entry → Bool
answered_by_bytes journal log (entries.Spawned question process) =
    some_and (is_answered_by journal log question (under_about journal question process messages.DidSpawn)) (line_of_reference journal log question)
answered_by_bytes journal log (entries.Isat question found) =
    some_and (is_answered_by journal log question (found_message journal question found)) (line_of_reference journal log question)
answered_by_bytes journal log entry = true

-- a process is made for a spawn of another node after the spawn's message was read
abbrev pub made_by_bytes : List Line → List Entry → Entry → Bool
made_by_bytes journal log (entries.Made process (Some spawn) label) =
    bytes_eq process.node spawn.node || has_read journal log spawn.node process.node (asking_message journal log spawn)
made_by_bytes journal log entry = true

-- the line's exit or kill dooms this process so, from its own node or by a message that was read there
abbrev pub reaches : List Line → List Entry → ProcName → What → Bool
reaches journal log p (lines.Exit by target text) =
    bytes_eq by.node p.node || has_read journal log by.node p.node (about journal p (λ id. messages.Exit id text))
reaches journal log p (lines.Kill by target text) =
    bytes_eq by.node p.node || has_read journal log by.node p.node (about journal p (λ id. messages.Kill id text))
reaches journal log p what = false

-- the line dooms this process by this text, and has reached it
abbrev pub dooms_and_reaches : List Line → List Entry → ProcName → List ℕ → What → Bool
dooms_and_reaches journal log p text what = dooms_by p text what && reaches journal log p what

-- a doom by an exit or kill of another node comes after its message was read
abbrev pub doomed_by_bytes : List Line → List Entry → Entry → Bool
doomed_by_bytes journal log (entries.Doom process text) =
    last_is (tells_link log process text) log || list_any (does journal (dooms_and_reaches journal log process text)) log
doomed_by_bytes journal log entry = true

-- messages from node to node are caused, and what they bring about stands after they were read
pub record IsBroughtAbout (journal : List Line) (log : List Entry) : Type 0 where
  pub caused : IsTrue (each (writes_caused journal) log)
  pub absent : IsTrue (each (absent_by_bytes journal) log)
  pub told : IsTrue (each (told_by_bytes journal) log)
  pub answered : IsTrue (each (answered_by_bytes journal) log)
  pub made : IsTrue (each (made_by_bytes journal) log)
  pub doomed : IsTrue (each (doomed_by_bytes journal) log)

-- the log is accounted for by its bytes
pub record IsAccountedFor (journal : List Line) (log : List Entry) : Type 0 where
  pub of_bytes : IsWrittenAndFed journal log
  pub of_messages : IsCarried journal log
  pub of_nodes : IsBroughtAbout journal log
