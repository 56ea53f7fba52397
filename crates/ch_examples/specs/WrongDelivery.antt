-- Wrong deliveries, each beside a right log. First a.0 says 1 to b.0, and b.0 gets it; then the socket is lost.
use Rattle.std.specs.Prelude.{List, [], ◌∷◌, ◌++◌}
use Rattle.ch_base.specs.declared.event.Why.TheVariants.{Disconnect, NodeDown}
use Rattle.ch_wire.specs.declared.answer.Answer.TheVariants as answers
use Rattle.ch_model.specs.declared.name.End.TheVariants.{O, T}
use Rattle.ch_model.specs.declared.name.TargetName.TheVariants as targets
use Rattle.ch_model.specs.declared.entry.Entry.{Entry}
use Rattle.ch_model.specs.declared.entry.Entry.TheVariants as entries
use Rattle.ch_model.specs.declared.line.Line.{Line}
use Rattle.ch_model.specs.declared.line.What.TheVariants as lines
use Rattle.ch_examples.specs.WrongParts.{a, b, a0, b0, at_a, ab, journal_of, sends, done, made, says, gets, asks, replies, links, opens, to_b0, writes, loses, hears_loss}

-- one message
abbrev pub one_message : List Line
one_message = journal_of (sends 1 ∷ lines.Settle ∷ [])

-- a.0 has said it, a has dialed, and the settle begins
abbrev pub said_and_dialed : List Entry
said_and_dialed = made ++ done 6 ∷ says 1 0 0 ∷ entries.Dial (ab 0) ∷ done 7 ∷ []

-- its right log
abbrev pub one_message_log : List Entry
one_message_log = said_and_dialed ++ links (ab 0) ++ opens (ab 0) O to_b0 ++ writes (ab 0) O 1 ∷ entries.Fed (ab 0) T 58 ∷ gets 0 0 ∷ entries.Settled ∷ []

-- the message is got, and no frame carries it
abbrev pub without_bytes : List Entry
without_bytes = said_and_dialed ++ links (ab 0) ++ gets 0 0 ∷ entries.Settled ∷ []

-- the frame stands where it should, and the message is got before its last byte was fed
abbrev pub before_the_last_byte : List Entry
before_the_last_byte = said_and_dialed ++ links (ab 0) ++ opens (ab 0) O to_b0 ++ writes (ab 0) O 1 ∷ entries.Fed (ab 0) T 57 ∷ gets 0 0 ∷ entries.Settled ∷ []

-- all is written, and the link breaks though nothing was lost
abbrev pub without_cause : List Entry
without_cause =
    said_and_dialed ++ links (ab 0) ++ opens (ab 0) O to_b0 ++ writes (ab 0) O 1 ∷ entries.Fed (ab 0) T 58 ∷ gets 0 0
    ∷ entries.Down (ab 0) O ∷ entries.Broke a b Disconnect ∷ entries.Settled ∷ []

-- the request is answered as if b were no endpoint
abbrev pub answered_invalid : List Entry
answered_invalid =
    said_and_dialed ++ asks (ab 0) at_a ++ entries.Came (ab 0) ∷ entries.Fed (ab 0) T 13 ∷ replies (ab 0) answers.Invalid ∷ entries.Left (ab 0) T
    ∷ entries.Fed (ab 0) O 4 ∷ entries.Left (ab 0) O ∷ entries.Broke a b NodeDown ∷ entries.Settled ∷ []

-- the socket is lost and replaced, after a message that was said and not written, and a reconnect
abbrev pub replaced : List Line
replaced = journal_of (sends 1 ∷ lines.Settle ∷ lines.Lose (ab 0) O ∷ lines.Settle ∷ sends 2 ∷ lines.Again a0 (targets.Process b0) ∷ sends 3 ∷ lines.Settle ∷ [])

-- the loss at a, and what b hears of it
abbrev pub lost : List Entry
lost = one_message_log ++ done 8 ∷ loses (ab 0) ++ done 9 ∷ hears_loss (ab 0) ++ entries.Settled ∷ []

-- what is said after the loss: 2, which goes nowhere, and 3 after the reconnect, for which a dials again
abbrev pub said_after : List Entry
said_after = lost ++ done 10 ∷ says 2 0 1 ∷ done 11 ∷ entries.Again a0 (targets.Process b0) 1 ∷ done 12 ∷ says 3 1 0 ∷ entries.Dial (ab 1) ∷ done 13 ∷ []

-- its right log
abbrev pub replaced_log : List Entry
replaced_log = said_after ++ links (ab 1) ++ opens (ab 1) O to_b0 ++ writes (ab 1) O 3 ∷ entries.Fed (ab 1) T 58 ∷ gets 1 0 ∷ entries.Settled ∷ []

-- what was got by the old socket comes again by the new one
abbrev pub repeated : List Entry
repeated = said_after ++ links (ab 1) ++ opens (ab 1) O to_b0 ++ writes (ab 1) O 1 ∷ entries.Fed (ab 1) T 58 ∷ gets 0 0 ∷ entries.Settled ∷ []

-- what was said after the loss, without a reconnect, comes by the new socket
abbrev pub past_the_loss : List Entry
past_the_loss = said_after ++ links (ab 1) ++ opens (ab 1) O to_b0 ++ writes (ab 1) O 2 ∷ entries.Fed (ab 1) T 58 ∷ gets 0 1 ∷ entries.Settled ∷ []

-- bytes are fed to the end that went down with the old socket
abbrev pub old_socket_fed : List Entry
old_socket_fed = said_after ++ links (ab 1) ++ entries.Fed (ab 0) T 1 ∷ []

-- what the new socket brings is got while b is still up on the old one, whose end it hasn't read
abbrev pub old_socket_up : List Entry
old_socket_up =
    one_message_log ++ done 8 ∷ loses (ab 0) ++ done 9 ∷ says 2 0 1 ∷ done 10 ∷ entries.Again a0 (targets.Process b0) 1 ∷ done 11 ∷ says 3 1 0 ∷ entries.Dial (ab 1) ∷ done 12
    ∷ links (ab 1)
