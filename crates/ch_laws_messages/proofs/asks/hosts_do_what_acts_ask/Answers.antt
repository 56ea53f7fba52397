use Rattle.ch_laws_messages.proofs.AsksActs.{acts_do}
use Rattle.ch_laws_messages.proofs.AsksBare.{closed_bare}
use Rattle.ch_laws_messages.proofs.asks.hosts_do_what_acts_ask.Goals as goal

pub returns : goal.returns
returns z = record { does = acts_do; closes = closed_bare }
