-- Wrong races, beside the right one: a.0 and b.0 say a message to each other, and both nodes dial.
use Rattle.std.specs.Prelude.{List, [], ◌∷◌, ◌++◌}
use Rattle.ch_base.specs.declared.event.Why.TheVariants.{Disconnect}
use Rattle.ch_wire.specs.declared.answer.Answer.TheVariants as answers
use Rattle.ch_model.specs.declared.name.End.TheVariants.{O, T}
use Rattle.ch_model.specs.declared.entry.Entry.{Entry}
use Rattle.ch_model.specs.declared.entry.Entry.TheVariants as entries
use Rattle.ch_model.specs.declared.line.Line.{Line}
use Rattle.ch_model.specs.declared.line.What.TheVariants as lines
use Rattle.ch_examples.specs.WrongParts.{a, b, at_a, at_b, ab, ba, journal_of, sends, sends_back, done, made, says, gets, says_back, gets_back, asks, replies, accepts, rises, opens, to_b0, to_a0, writes}

-- two messages that cross
abbrev pub crossed : List Line
crossed = journal_of (sends 1 ∷ sends_back 2 ∷ lines.Settle ∷ [])

-- both dial, are joined and come
abbrev pub both_ask : List Entry
both_ask =
    made ++ done 6 ∷ says 1 0 0 ∷ entries.Dial (ab 0) ∷ done 7 ∷ says_back 2 ∷ entries.Dial (ba 0) ∷ done 8
    ∷ asks (ab 0) at_a ++ entries.Came (ab 0) ∷ asks (ba 0) at_b ++ entries.Came (ba 0) ∷ []

-- b, whose address is the greater, crosses a's request, and a leaves its own socket and accepts b's
abbrev pub crossed_log : List Entry
crossed_log =
    both_ask ++ entries.Fed (ab 0) T 13 ∷ replies (ab 0) answers.Crossed ∷ entries.Left (ab 0) T
    ∷ entries.Fed (ba 0) T 13 ∷ entries.Left (ab 0) O ∷ accepts (ba 0) ++ opens (ba 0) T to_b0 ++ writes (ba 0) T 1
    ∷ entries.Fed (ba 0) O 62 ∷ entries.Up (ba 0) O ∷ opens (ba 0) O to_a0 ++ writes (ba 0) O 2 ∷ gets 0 0
    ∷ entries.Fed (ba 0) T 58 ∷ gets_back ∷ entries.Settled ∷ []

-- both requests are accepted
abbrev pub both_accepted : List Entry
both_accepted = both_ask ++ entries.Fed (ab 0) T 13 ∷ accepts (ab 0) ++ entries.Fed (ba 0) T 13 ∷ accepts (ba 0)

-- a request is accepted while the socket of another is up at both ends
abbrev pub accepted_over : List Entry
accepted_over = both_ask ++ entries.Fed (ab 0) T 13 ∷ accepts (ab 0) ++ rises (ab 0) ++ entries.Fed (ba 0) T 13 ∷ accepts (ba 0)

-- both requests are crossed, and both sockets left
abbrev pub both_crossed : List Entry
both_crossed =
    both_ask ++ entries.Fed (ab 0) T 13 ∷ replies (ab 0) answers.Crossed ∷ entries.Left (ab 0) T ∷ entries.Fed (ba 0) T 13 ∷ replies (ba 0) answers.Crossed
    ∷ entries.Left (ba 0) T ∷ entries.Fed (ab 0) O 4 ∷ entries.Left (ab 0) O ∷ entries.Fed (ba 0) O 4 ∷ entries.Left (ba 0) O ∷ []

-- what waits is dropped without a word
abbrev pub dropped : List Entry
dropped = both_crossed ++ entries.Settled ∷ []

-- what waits is dropped by breaks, though nothing was lost
abbrev pub dropped_by_breaks : List Entry
dropped_by_breaks = both_crossed ++ entries.Broke a b Disconnect ∷ entries.Broke b a Disconnect ∷ entries.Settled ∷ []
