-- What is so before and after each turn, with what was said and got.
use Rattle.std.specs.Prelude.{List}
use Rattle.ch_model.specs.declared.line.Line.{Line}
use Rattle.ch_laws_calls.specs.Calls.{Claim, Both}
use Rattle.ch_laws_peers.specs.Reads.{AllGet}
use Rattle.ch_laws_messages.specs.WayReadingGoes.{Known}
use Rattle.ch_laws_messages.specs.GotSaidWell.{SaidWell}

-- what is known, and that messages are said well
abbrev pub KnownWell : List Line → Claim
KnownWell journal = Both (Known journal) (λ log world. SaidWell journal log)

-- and what was got
abbrev pub KnownGot : List Line → Claim
KnownGot journal = Both (KnownWell journal) (AllGet journal)
