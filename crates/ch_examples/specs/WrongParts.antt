-- The parts of which right and wrong logs of two nodes are made: a at h:1:0, and b at i:1:0, whose address is the greater.
use Rattle.std.specs.Prelude.{ℕ, suc, List, [], ◌∷◌, ◌++◌, Some, None, codes}
use Rattle.ch_base.specs.declared.address.Address.{Address}
use Rattle.ch_base.specs.declared.event.Why.TheVariants.{Disconnect}
use Rattle.ch_ident.specs.Spelling as spelling
use Rattle.ch_ident.specs.declared.identifier.ProcessId.{ProcessId}
use Rattle.ch_ident.specs.declared.identifier.Identifier.TheVariants as identifiers
use Rattle.ch_ident.specs.declared.node_message.NodeMessage.{NodeMessage}
use Rattle.ch_ident.specs.declared.node_message.NodeMessage.TheVariants as messages
use Rattle.ch_wire.specs.Spelling.{request_spelling, answer_spelling, frame_spelling}
use Rattle.ch_wire.specs.declared.answer.Answer.{Answer}
use Rattle.ch_wire.specs.declared.answer.Answer.TheVariants as answers
use Rattle.ch_wire.specs.declared.frame.Frame.TheVariants as frames
use Rattle.ch_model.specs.declared.name.ProcName.{ProcName}
use Rattle.ch_model.specs.declared.name.RefName.{RefName}
use Rattle.ch_model.specs.declared.name.SockName.{SockName}
use Rattle.ch_model.specs.declared.name.TargetName.TheVariants as targets
use Rattle.ch_model.specs.declared.name.End.{End}
use Rattle.ch_model.specs.declared.name.End.TheVariants.{O, T}
use Rattle.ch_model.specs.declared.entry.Entry.{Entry}
use Rattle.ch_model.specs.declared.entry.Entry.TheVariants as entries
use Rattle.ch_model.specs.declared.entry.Verdict.TheVariants.{Ok}
use Rattle.ch_model.specs.declared.line.Line.{Line}
use Rattle.ch_model.specs.declared.line.What.{What}
use Rattle.ch_model.specs.declared.line.What.TheVariants as lines

-- the node a
abbrev pub a : List ℕ
a = codes "a"

-- the node b
abbrev pub b : List ℕ
b = codes "b"

-- the address of a
abbrev pub at_a : Address
at_a = record { host = codes "h"; port = 1; id = 0 }

-- the address of b
abbrev pub at_b : Address
at_b = record { host = codes "i"; port = 1; id = 0 }

-- the process a.0
abbrev pub a0 : ProcName
a0 = record { node = a; counter = 0 }

-- the process b.0
abbrev pub b0 : ProcName
b0 = record { node = b; counter = 0 }

-- a.0 on the wire
abbrev pub a0_id : ProcessId
a0_id = record { node = at_a; unique = 7; counter = 0 }

-- b.0 on the wire
abbrev pub b0_id : ProcessId
b0_id = record { node = at_b; unique = 9; counter = 0 }

-- the first reference of a
abbrev pub first : RefName
first = record { node = a; number = 0 }

-- the n-th socket that a dials to b
abbrev pub ab : ℕ → SockName
ab n = record { from = a; to = b; number = n }

-- the n-th socket that b dials to a
abbrev pub ba : ℕ → SockName
ba n = record { from = b; to = a; number = n }

-- lines with their numbers, from this one on
abbrev pub numbered : ℕ → List What → List Line
numbered n [] = []
numbered n (what ∷ rest) = record { number = n; what = what } ∷ numbered (suc n) rest

-- the journal that declares both nodes, makes a process of each, and goes on so, from line 6
abbrev pub journal_of : List What → List Line
journal_of rest = numbered 2 (lines.Node a at_a 7 ∷ lines.Node b at_b 9 ∷ lines.Proc a ∷ lines.Proc b ∷ rest)

-- a.0 sends b.0 a message of this byte
abbrev pub sends : ℕ → What
sends byte = lines.Send a0 (targets.Process b0) (codes "t") (byte ∷ [])

-- b.0 sends a.0 one
abbrev pub sends_back : ℕ → What
sends_back byte = lines.Send b0 (targets.Process a0) (codes "t") (byte ∷ [])

-- the line of this number was done
abbrev pub done : ℕ → Entry
done n = entries.Line n Ok

-- both processes are made
abbrev pub made : List Entry
made = done 4 ∷ entries.Made a0 None None ∷ done 5 ∷ entries.Made b0 None None ∷ []

-- a.0 says this byte to b.0, in this epoch and with this index
abbrev pub says : ℕ → ℕ → ℕ → Entry
says byte epoch index = entries.Said a0 (targets.Process b0) epoch index (codes "t") (byte ∷ [])

-- b.0 gets the message of this epoch and index
abbrev pub gets : ℕ → ℕ → Entry
gets epoch index = entries.Got a0 (targets.Process b0) epoch index (Some b0)

-- b.0 says this byte to a.0
abbrev pub says_back : ℕ → Entry
says_back byte = entries.Said b0 (targets.Process a0) 0 0 (codes "t") (byte ∷ [])

-- a.0 gets it
abbrev pub gets_back : Entry
gets_back = entries.Got b0 (targets.Process a0) 0 0 (Some a0)

-- the opener, of this address, is joined and asks
abbrev pub asks : SockName → Address → List Entry
asks s from = entries.Joined s ∷ entries.Wrote s O (request_spelling (record { target = 0; from = from })) ∷ []

-- the target answers so
abbrev pub replies : SockName → Answer → Entry
replies s answer = entries.Wrote s T (answer_spelling answer)

-- the target comes up, and accepts
abbrev pub accepts : SockName → List Entry
accepts s = entries.Up s T ∷ replies s answers.Accepted ∷ []

-- the opener has read what the target answered, and comes up
abbrev pub rises : SockName → List Entry
rises s = entries.Fed s O 4 ∷ entries.Up s O ∷ []

-- a socket from a to b, from its dial's success up to where both are up
abbrev pub links : SockName → List Entry
links s = asks s at_a ++ entries.Came s ∷ entries.Fed s T 13 ∷ accepts s ++ rises s

-- a connection is created and opened at this end by this message
abbrev pub opens : SockName → End → NodeMessage → List Entry
opens s e opening =
    entries.Wrote s e (frame_spelling (frames.Created 1024)) ∷ entries.Wrote s e (frame_spelling (frames.Data 1024 (spelling.message opening))) ∷ []

-- the opening of the connection from a.0 to b.0
abbrev pub to_b0 : NodeMessage
to_b0 = messages.Opening (identifiers.Process a0_id) (identifiers.Process b0_id)

-- the opening of the connection from b.0 to a.0
abbrev pub to_a0 : NodeMessage
to_a0 = messages.Opening (identifiers.Process b0_id) (identifiers.Process a0_id)

-- a message of this byte is written
abbrev pub writes : SockName → End → ℕ → Entry
writes s e byte = entries.Wrote s e (frame_spelling (frames.Data 1024 (spelling.user (record { mark = codes "t"; body = byte ∷ [] }))))

-- a message between nodes is written
abbrev pub tells : SockName → End → NodeMessage → Entry
tells s e message = entries.Wrote s e (frame_spelling (frames.Data 1024 (spelling.message message)))

-- a loses the socket, and its link with b breaks
abbrev pub loses : SockName → List Entry
loses s = entries.Lost s O ∷ entries.Down s O ∷ entries.Broke a b Disconnect ∷ []

-- b reads the end of the socket, and its link with a breaks
abbrev pub hears_loss : SockName → List Entry
hears_loss s = entries.Fed s T 0 ∷ entries.Down s T ∷ entries.Broke b a Disconnect ∷ []
