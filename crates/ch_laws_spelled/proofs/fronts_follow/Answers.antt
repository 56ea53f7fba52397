use Rattle.std.specs.Prelude.{◌+◌, take}
use Rattle.ch_model.specs.Journal.{journal_of, raw_lines, longest_journal}
use Rattle.ch_model.specs.LinesBuilt.{many_nodes}
use Rattle.ch_laws_lines.proofs.ManyNodes.{many_in_order}
use Rattle.ch_laws_many.proofs.Journals.{is_journal}
use Rattle.ch_laws_spelled.proofs.Follows.{front_follows, first_follows}
use Rattle.ch_laws_spelled.proofs.fronts_follow.Goals as goal

pub returns-clause-fronts : goal.returns-clause-fronts
returns-clause-fronts c = λ bytes front rest cut log world is. front_follows (journal_of many_nodes bytes) (many_in_order (raw_lines (take (longest_journal + 1) bytes))) (is_journal bytes) front rest cut log world is

pub returns-clause-first : goal.returns-clause-first
returns-clause-first c = λ one two f. first_follows one two f
