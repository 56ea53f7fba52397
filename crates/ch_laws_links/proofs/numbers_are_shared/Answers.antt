use Rattle.ch_laws_links.proofs.Journals.{numbers_in, named_in}
use Rattle.ch_laws_links.proofs.numbers_are_shared.Goals as goal

pub returns-clause-shared : goal.returns-clause-shared
returns-clause-shared c = numbers_in

pub returns-clause-named : goal.returns-clause-named
returns-clause-named c = named_in
