use Rattle.ch_laws_links.proofs.Worlds.{naming_in}
use Rattle.ch_laws_links.proofs.worlds_are_naming.Goals as goal

pub returns : goal.returns
returns c = naming_in
