-- Wrong notices, beside the right one: a.0 monitors b.0, which ends; then the socket is lost.
use Rattle.std.specs.Prelude.{List, [], ◌∷◌, ◌++◌, Some, codes}
use Rattle.ch_ident.specs.declared.identifier.Ref.{Ref}
use Rattle.ch_ident.specs.declared.identifier.Identifier.TheVariants as identifiers
use Rattle.ch_ident.specs.declared.reason.Reason.{Reason}
use Rattle.ch_ident.specs.declared.reason.Reason.TheVariants as reasons
use Rattle.ch_ident.specs.declared.node_message.NodeMessage.{NodeMessage}
use Rattle.ch_ident.specs.declared.node_message.NodeMessage.TheVariants as messages
use Rattle.ch_watch.specs.declared.waiting.Kind.TheVariants.{Monitor}
use Rattle.ch_model.specs.declared.name.ProcName.{ProcName}
use Rattle.ch_model.specs.declared.name.End.TheVariants.{O, T}
use Rattle.ch_model.specs.declared.entry.Entry.{Entry}
use Rattle.ch_model.specs.declared.entry.Entry.TheVariants as entries
use Rattle.ch_model.specs.declared.line.Line.{Line}
use Rattle.ch_model.specs.declared.line.What.TheVariants as lines
use Rattle.ch_examples.specs.WrongParts.{b, a0, b0, at_a, at_b, b0_id, first, ab, journal_of, done, made, links, opens, tells, loses, hears_loss, says_back, gets_back}

-- the monitor, the end and the loss, with a settle after each
abbrev pub monitored : List Line
monitored = journal_of (lines.Monitor a0 b0 ∷ lines.Settle ∷ lines.End b0 ∷ lines.Settle ∷ lines.Lose (ab 0) O ∷ lines.Settle ∷ [])

-- the reference of the monitor, on the wire
abbrev pub first_id : Ref
first_id = record { node = at_a; number = 0 }

-- the opening of the connection from a to b
abbrev pub a_to_b : NodeMessage
a_to_b = messages.Opening (identifiers.Node at_a) (identifiers.Node at_b)

-- that of the connection from b to a
abbrev pub b_to_a : NodeMessage
b_to_a = messages.Opening (identifiers.Node at_b) (identifiers.Node at_a)

-- the monitor is opened, and read by b
abbrev pub watched : List Entry
watched =
    made ++ done 6 ∷ entries.Watch first a0 b0 Monitor ∷ entries.Dial (ab 0) ∷ done 7
    ∷ links (ab 0) ++ opens (ab 0) O a_to_b ++ tells (ab 0) O (messages.Monitor first_id b0_id) ∷ entries.Fed (ab 0) T 64 ∷ entries.Settled ∷ []

-- b.0 ends, and b says so
abbrev pub ended : List Entry
ended = watched ++ done 8 ∷ entries.Over b0 reasons.Normal ∷ opens (ab 0) T b_to_a ++ tells (ab 0) T (messages.Died first_id reasons.Normal) ∷ []

-- the monitor is told this at the settle
abbrev pub told : Reason → List Entry
told reason = ended ++ done 9 ∷ entries.Fed (ab 0) O 51 ∷ entries.Told first reason ∷ entries.Settled ∷ []

-- its right log: after the end was told nothing more is
abbrev pub monitored_log : List Entry
monitored_log = told reasons.Normal ++ done 10 ∷ loses (ab 0) ++ done 11 ∷ hears_loss (ab 0) ++ entries.Settled ∷ []

-- the monitor is told again, at the loss
abbrev pub told_twice : List Entry
told_twice = told reasons.Normal ++ done 10 ∷ loses (ab 0) ++ entries.Told first reasons.Disconnect ∷ []

-- the monitor is told a loss where nothing was lost
abbrev pub told_a_loss : List Entry
told_a_loss = told reasons.Disconnect

-- the monitor is told another end than there was
abbrev pub told_another_end : List Entry
told_another_end = told (reasons.Exception (codes "odd"))

-- the monitor isn't told at the settle
abbrev pub never_told : List Entry
never_told = ended ++ done 9 ∷ entries.Fed (ab 0) O 51 ∷ entries.Settled ∷ []

-- the socket is lost before b.0 ends, and the monitor isn't told at the break
abbrev pub never_told_at_break : List Entry
never_told_at_break = watched ++ done 8 ∷ loses (ab 0)

-- a.0 has a process made at b, which never answers
abbrev pub spawns : List Line
spawns = journal_of (lines.Spawn a0 b (codes "w") [] ∷ lines.Settle ∷ [])

-- the process that is made
abbrev pub b1 : ProcName
b1 = record { node = b; counter = 1 }

-- b makes the process, and doesn't tell a
abbrev pub never_answered : List Entry
never_answered =
    made ++ done 6 ∷ entries.Asked first a0 b ∷ entries.Dial (ab 0) ∷ done 7
    ∷ links (ab 0) ++ opens (ab 0) O a_to_b ++ tells (ab 0) O (messages.Spawn first_id (codes "w") []) ∷ entries.Fed (ab 0) T 57
    ∷ entries.Made b1 (Some first) (Some (codes "w")) ∷ entries.Over b1 (reasons.Exception (codes "unknown label")) ∷ entries.Settled ∷ []

-- b.0 says something to a.0 and ends, and a.0 gets it before it is told the end
abbrev pub told_last : List Entry
told_last = watched ++ done 8 ∷ says_back 2 ∷ done 9 ∷ entries.Over b0 reasons.Normal ∷ done 10 ∷ gets_back ∷ entries.Told first reasons.Normal ∷ []

-- a.0 is told the end first
abbrev pub told_before : List Entry
told_before = watched ++ done 8 ∷ says_back 2 ∷ done 9 ∷ entries.Over b0 reasons.Normal ∷ done 10 ∷ entries.Told first reasons.Normal ∷ gets_back ∷ []
