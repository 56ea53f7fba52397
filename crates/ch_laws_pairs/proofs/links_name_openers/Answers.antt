use Rattle.ch_laws_pairs.proofs.LinkedOpeners.{dialing_called, up_called}
use Rattle.ch_laws_pairs.proofs.links_name_openers.Goals as goal

pub returns-clause-dialing : goal.returns-clause-dialing
returns-clause-dialing c = dialing_called

pub returns-clause-up : goal.returns-clause-up
returns-clause-up c = up_called
