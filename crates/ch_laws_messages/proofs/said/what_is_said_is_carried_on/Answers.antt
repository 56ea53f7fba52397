use Rattle.ch_laws_messages.proofs.SaidQuiet as quiet
use Rattle.ch_laws_messages.proofs.SaidSent as sent
use Rattle.ch_laws_messages.proofs.said.what_is_said_is_carried_on.Goals as goal

pub returns-clause-stays : goal.returns-clause-stays
returns-clause-stays c = quiet.stays

pub returns-clause-sends : goal.returns-clause-sends
returns-clause-sends c = sent.sends
