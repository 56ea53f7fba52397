use Rattle.ch_laws_lines.proofs.Worlds.{of_declarations}
use Rattle.ch_laws_lines.proofs.world_of_declarations.Goals as goal

pub returns : goal.returns
returns c = λ declared events happen. of_declarations declared events happen
