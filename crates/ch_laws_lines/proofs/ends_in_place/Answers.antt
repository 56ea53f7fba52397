use Rattle.std.specs.Prelude.{◌+◌, take}
use Rattle.ch_model.specs.Journal.{raw_lines, longest_journal}
use Rattle.ch_laws_one_node.proofs.Places.{looked_at, all_numbered, first_fault_place}
use Rattle.ch_laws_lines.proofs.ends_in_place.Goals as goal

pub returns-clause-looked_at : goal.returns-clause-looked_at
returns-clause-looked_at c = λ built bytes. looked_at built bytes

pub returns-clause-numbered : goal.returns-clause-numbered
returns-clause-numbered c = λ built bytes. all_numbered built (raw_lines (take (longest_journal + 1) bytes))

pub returns-clause-first : goal.returns-clause-first
returns-clause-first c = λ built b bytes number fault is. first_fault_place built b bytes number fault is
