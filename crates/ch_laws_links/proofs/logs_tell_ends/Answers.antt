use Rattle.ch_laws_links.proofs.Journals.{stands_in}
use Rattle.ch_laws_links.proofs.logs_tell_ends.Goals as goal

pub returns : goal.returns
returns c = stands_in
