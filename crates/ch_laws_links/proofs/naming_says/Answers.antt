use Rattle.ch_laws_links.proofs.Says as says
use Rattle.ch_laws_links.proofs.naming_says.Goals as goal

pub returns-clause-dialing : goal.returns-clause-dialing
returns-clause-dialing c = says.dialing

pub returns-clause-up : goal.returns-clause-up
returns-clause-up c = says.risen

pub returns-clause-used : goal.returns-clause-used
returns-clause-used c = says.used

pub returns-clause-unused : goal.returns-clause-unused
returns-clause-unused c = says.unused

pub returns-clause-rises : goal.returns-clause-rises
returns-clause-rises c = says.up_stands

pub returns-clause-risen : goal.returns-clause-risen
returns-clause-risen c = says.stands_risen
