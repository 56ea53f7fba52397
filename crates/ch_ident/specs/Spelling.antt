-- The one spelling of each field and of each message.
use Rattle.std.specs.Prelude.{ℕ, List, [], ◌∷◌, ◌++◌, length, Option, Some, None}
use Rattle.std.specs.Int.{w32, to_be_bytes}
use Rattle.ch_base.specs.Addresses.{address_text}
use Rattle.ch_base.specs.declared.address.Address.{Address}
use Rattle.ch_ident.specs.declared.identifier.ProcessId.{ProcessId}
use Rattle.ch_ident.specs.declared.identifier.SendPortId.{SendPortId}
use Rattle.ch_ident.specs.declared.identifier.Ref.{Ref}
use Rattle.ch_ident.specs.declared.identifier.Identifier.{Identifier}
use Rattle.ch_ident.specs.declared.identifier.Identifier.TheVariants as ends
use Rattle.ch_ident.specs.declared.reason.Reason.{Reason}
use Rattle.ch_ident.specs.declared.reason.Reason.TheVariants as reasons
use Rattle.ch_ident.specs.declared.message.Message.{Message}
use Rattle.ch_ident.specs.declared.node_message.NodeMessage.{NodeMessage}
use Rattle.ch_ident.specs.declared.node_message.NodeMessage.TheVariants as messages

-- four bytes, the highest first
abbrev pub number : ℕ → List ℕ
number n = to_be_bytes w32 n

-- a length of one byte, and that many bytes: a name or a text
abbrev pub short : List ℕ → List ℕ
short bytes = length bytes ∷ bytes

-- a length of four bytes, and that many bytes
abbrev pub long : List ℕ → List ℕ
long bytes = number (length bytes) ++ bytes

-- the text of an address, after its length
abbrev pub address : Address → List ℕ
address a = short (address_text a)

-- a process id: its node's address, then the two numbers
abbrev pub process : ProcessId → List ℕ
process p = address p.node ++ number p.unique ++ number p.counter

-- a port id: its process, then its number
abbrev pub port : SendPortId → List ℕ
port p = process p.process ++ number p.port

-- a reference: its node's address, then its number
abbrev pub reference : Ref → List ℕ
reference r = address r.node ++ number r.number

-- an end of a connection, after its tag
abbrev pub identifier : Identifier → List ℕ
identifier (ends.Node a) = 0 ∷ address a
identifier (ends.Process p) = 1 ∷ process p
identifier (ends.Port p) = 2 ∷ port p

-- a reason: its tag, and the text of an exception
abbrev pub reason : Reason → List ℕ
reason reasons.Normal = 0 ∷ []
reason (reasons.Exception text) = 1 ∷ short text
reason reasons.Disconnect = 2 ∷ []
reason reasons.NodeDown = 3 ∷ []
reason reasons.UnknownId = 4 ∷ []

-- whether a process was found, and which
abbrev pub found : Option ProcessId → List ℕ
found None = 0 ∷ []
found (Some p) = 1 ∷ process p

-- a message from node to node: its tag, then its fields in order
abbrev pub message : NodeMessage → List ℕ
message (messages.Opening from to) = 0 ∷ identifier from ++ identifier to
message (messages.Monitor watch target) = 1 ∷ reference watch ++ process target
message (messages.Unmonitor watch) = 2 ∷ reference watch
message (messages.Link watch target) = 3 ∷ reference watch ++ process target
message (messages.Unlink watch) = 4 ∷ reference watch
message (messages.Spawn question label args) = 5 ∷ reference question ++ short label ++ long args
message (messages.DidSpawn question made) = 6 ∷ reference question ++ process made
message (messages.Died watch why) = 7 ∷ reference watch ++ reason why
message (messages.WhereIs question name) = 8 ∷ reference question ++ short name
message (messages.IsAt question at) = 9 ∷ reference question ++ found at
message (messages.NamedSend name mark body) = 10 ∷ short name ++ short mark ++ long body
message (messages.Exit target text) = 11 ∷ process target ++ short text
message (messages.Kill target text) = 12 ∷ process target ++ short text

-- a user's message: its mark, and the body to the end
abbrev pub user : Message → List ℕ
user m = short m.mark ++ m.body
