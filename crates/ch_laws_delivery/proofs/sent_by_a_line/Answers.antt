use Rattle.ch_laws_delivery.proofs.Worlds.{is_sent_in, is_sent_first_in}
use Rattle.ch_laws_delivery.proofs.UpWorlds.{is_written_in}
use Rattle.ch_laws_delivery.proofs.UpFirstWorlds.{is_written_first_in}
use Rattle.ch_laws_delivery.proofs.sent_by_a_line.Goals as goal

pub returns-clause-later : goal.returns-clause-later
returns-clause-later z = λ names apart world from to legs scene c name conn id said by target s new l h sends. is_sent_in names apart world from to legs scene c name conn id said by target s new l h sends

pub returns-clause-first : goal.returns-clause-first
returns-clause-first z = λ names apart world from to legs scene c name conn said by target s new l h sends. is_sent_first_in names apart world from to legs scene c name conn said by target s new l h sends

pub returns-clause-up : goal.returns-clause-up
returns-clause-up z = λ names named_apart world from to legs scene c name conn id sock probed said by target s apart l h sends. is_written_in names named_apart world from to legs scene c name conn id sock probed said by target s apart l h sends

pub returns-clause-first_up : goal.returns-clause-first_up
returns-clause-first_up z = λ names named_apart world from to legs scene c name conn sock probed said by target s apart l h sends. is_written_first_in names named_apart world from to legs scene c name conn sock probed said by target s apart l h sends
