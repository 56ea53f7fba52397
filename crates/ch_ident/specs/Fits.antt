-- What has a spelling: each text and each length in its rule.
use Rattle.std.specs.Prelude.{◌≡◌, ◌<◌, ◌^◌, length, true, Option, Some, None}
use Rattle.ch_base.specs.Addresses.{IsAddress}
use Rattle.ch_ident.specs.declared.identifier.ProcessId.{ProcessId}
use Rattle.ch_ident.specs.declared.identifier.SendPortId.{SendPortId}
use Rattle.ch_ident.specs.declared.identifier.Ref.{Ref}
use Rattle.ch_ident.specs.declared.identifier.Identifier.{Identifier}
use Rattle.ch_ident.specs.declared.identifier.Identifier.TheVariants as ends
use Rattle.ch_ident.specs.declared.reason.Reason.{Reason}
use Rattle.ch_ident.specs.declared.reason.Reason.TheVariants as reasons
use Rattle.ch_ident.specs.declared.message.Message.{Message}
use Rattle.ch_ident.specs.declared.node_message.NodeMessage.{NodeMessage}
use Rattle.ch_ident.specs.declared.node_message.NodeMessage.TheVariants as messages
use Rattle.ch_ident.specs.Names.{is_name, is_text}

-- what a caller of the put calls shows of a reason
abbrev pub FitsReason : Reason → Type 0
FitsReason (reasons.Exception text) = is_text text ≡ true
FitsReason why = Unit {0}

-- what a caller of the put calls shows of a message: its texts are texts, and its lengths fit their words
abbrev pub FitsMessage : NodeMessage → Type 0
FitsMessage (messages.Spawn question label args) = length args < 2 ^ 32
FitsMessage (messages.Died watch why) = FitsReason why
FitsMessage (messages.NamedSend name mark body) = length body < 2 ^ 32
FitsMessage (messages.Exit target text) = is_text text ≡ true
FitsMessage (messages.Kill target text) = is_text text ≡ true
FitsMessage m = Unit {0}

-- a process of a node with an address, its numbers of four bytes
abbrev pub IsProcess : ProcessId → Type 0
IsProcess p = IsAddress p.node × (p.unique < 2 ^ 32) × (p.counter < 2 ^ 32)

-- a port of such a process
abbrev pub IsPort : SendPortId → Type 0
IsPort p = IsProcess p.process × (p.port < 2 ^ 32)

-- a reference of a node with an address
abbrev pub IsReference : Ref → Type 0
IsReference r = IsAddress r.node × (r.number < 2 ^ 32)

-- an end of a connection, of a node with an address
abbrev pub IsIdentifier : Identifier → Type 0
IsIdentifier (ends.Node a) = IsAddress a
IsIdentifier (ends.Process p) = IsProcess p
IsIdentifier (ends.Port p) = IsPort p

-- a process that was found, of a node with an address
abbrev pub IsFound : Option ProcessId → Type 0
IsFound None = Unit {0}
IsFound (Some p) = IsProcess p

-- a message whose every field is in its rule
abbrev pub IsMessage : NodeMessage → Type 0
IsMessage (messages.Opening from to) = IsIdentifier from × IsIdentifier to
IsMessage (messages.Monitor watch target) = IsReference watch × IsProcess target
IsMessage (messages.Unmonitor watch) = IsReference watch
IsMessage (messages.Link watch target) = IsReference watch × IsProcess target
IsMessage (messages.Unlink watch) = IsReference watch
IsMessage (messages.Spawn question label args) = IsReference question × (is_name label ≡ true) × (length args < 2 ^ 32)
IsMessage (messages.DidSpawn question made) = IsReference question × IsProcess made
IsMessage (messages.Died watch why) = IsReference watch × FitsReason why
IsMessage (messages.WhereIs question name) = IsReference question × (is_name name ≡ true)
IsMessage (messages.IsAt question at) = IsReference question × IsFound at
IsMessage (messages.NamedSend name mark body) = (is_name name ≡ true) × (is_name mark ≡ true) × (length body < 2 ^ 32)
IsMessage (messages.Exit target text) = IsProcess target × (is_text text ≡ true)
IsMessage (messages.Kill target text) = IsProcess target × (is_text text ≡ true)

-- a user's message: its mark is a name
abbrev pub IsUser : Message → Type 0
IsUser m = is_name m.mark ≡ true
