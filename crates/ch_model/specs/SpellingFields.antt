-- The one text of each field of a line or an entry.
use Rattle.std.specs.Prelude.{ℕ, List, [], ◌∷◌, ◌++◌, Option, Some, None, codes}
use Rattle.std.specs.List.{flat_map}
use Rattle.std.specs.Fmt.{decimal}
use Rattle.hex.specs.Hex.{encode_lower}
use Rattle.ch_base.specs.declared.event.Why.{Why}
use Rattle.ch_base.specs.declared.event.Why.TheVariants as whys
use Rattle.ch_ident.specs.declared.reason.Reason.{Reason}
use Rattle.ch_ident.specs.declared.reason.Reason.TheVariants as reasons
use Rattle.ch_watch.specs.declared.waiting.Kind.{Kind}
use Rattle.ch_watch.specs.declared.waiting.Kind.TheVariants as kinds
use Rattle.ch_model.specs.declared.name.End.{End}
use Rattle.ch_model.specs.declared.name.End.TheVariants as ends
use Rattle.ch_model.specs.declared.name.ProcName.{ProcName}
use Rattle.ch_model.specs.declared.name.RefName.{RefName}
use Rattle.ch_model.specs.declared.name.SockName.{SockName}
use Rattle.ch_model.specs.declared.name.TargetName.{TargetName}
use Rattle.ch_model.specs.declared.name.TargetName.TheVariants.{Process, Port, Named}
use Rattle.ch_model.specs.declared.entry.Verdict.{Verdict}
use Rattle.ch_model.specs.declared.entry.Verdict.TheVariants as verdicts

-- a space and a field
abbrev pub field : List ℕ → List ℕ
field text = 32 ∷ text

-- a word and fields, with one space before each field and a newline at the end
abbrev pub line_text_of : List ℕ → List (List ℕ) → List ℕ
line_text_of word fields = word ++ flat_map field fields ++ 10 ∷ []

-- a process: its node's name, a dot and its number
abbrev pub process_text : ProcName → List ℕ
process_text process = process.node ++ 46 ∷ decimal process.counter

-- a port: its process, a slash and its number
abbrev pub port_text : ProcName → ℕ → List ℕ
port_text process port = process_text process ++ 47 ∷ decimal port

-- a target: a process, a port, or a node's name, a colon and a name there
abbrev pub target_text : TargetName → List ℕ
target_text (Process process) = process_text process
target_text (Port process port) = port_text process port
target_text (Named node name) = node ++ 58 ∷ name

-- a reference: its node's name, an exclamation mark and its number
abbrev pub reference_text : RefName → List ℕ
reference_text reference = reference.node ++ 33 ∷ decimal reference.number

-- a socket: the opener's name, `>`, the target's name, a dot and its number
abbrev pub socket_text : SockName → List ℕ
socket_text socket = socket.from ++ 62 ∷ socket.to ++ 46 ∷ decimal socket.number

-- an end of a socket: `o` for the opener's, `t` for the target's
abbrev pub end_text : End → List ℕ
end_text ends.O = codes "o"
end_text ends.T = codes "t"

-- lower-case hexadecimal, and `-` for no byte
abbrev pub bytes_text : List ℕ → List ℕ
bytes_text [] = 45 ∷ []
bytes_text (b ∷ bs) = encode_lower (b ∷ bs)

-- a process, or `-` for none
abbrev pub process_or_dash : Option ProcName → List ℕ
process_or_dash None = codes "-"
process_or_dash (Some process) = process_text process

-- a reference, or `-` for none
abbrev pub reference_or_dash : Option RefName → List ℕ
reference_or_dash None = codes "-"
reference_or_dash (Some reference) = reference_text reference

-- a name, or `-` for none
abbrev pub name_or_dash : Option (List ℕ) → List ℕ
name_or_dash None = codes "-"
name_or_dash (Some name) = name

-- where a message was taken from: the process's mailbox, or its port
abbrev pub taken_from : ProcName → Option ℕ → List ℕ
taken_from process None = process_text process
taken_from process (Some port) = port_text process port

-- why a process is over, or why a watch was told
abbrev pub reason_text : Reason → List ℕ
reason_text reasons.Normal = codes "normal"
reason_text (reasons.Exception text) = codes "exception " ++ text
reason_text reasons.Disconnect = codes "disconnect"
reason_text reasons.NodeDown = codes "nodedown"
reason_text reasons.UnknownId = codes "unknownid"

-- why a link has failed
abbrev pub why_text : Why → List ℕ
why_text whys.Disconnect = codes "disconnect"
why_text whys.NodeDown = codes "nodedown"

-- what waits under a reference; a watch is one of the first two
abbrev pub kind_text : Kind → List ℕ
kind_text kinds.Monitor = codes "monitor"
kind_text kinds.Link = codes "link"
kind_text kinds.Spawn = codes "spawn"
kind_text kinds.Ask = codes "whereis"

-- the answer to an event line
abbrev pub verdict_text : Verdict → List ℕ
verdict_text verdicts.Ok = codes "ok"
verdict_text verdicts.Unknown = codes "unknown"
verdict_text verdicts.Dead = codes "dead"
verdict_text verdicts.Hale = codes "hale"
verdict_text verdicts.Taken = codes "taken"
verdict_text verdicts.NoName = codes "noname"
verdict_text verdicts.NoRef = codes "noref"
verdict_text verdicts.Empty = codes "empty"
verdict_text verdicts.Long = codes "long"
verdict_text verdicts.Full = codes "full"
verdict_text verdicts.Spent = codes "spent"
verdict_text verdicts.Nothing = codes "none"
