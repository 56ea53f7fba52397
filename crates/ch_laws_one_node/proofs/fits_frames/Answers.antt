use Rattle.std.specs.Prelude.{◌+◌, take}
use Rattle.ch_model.specs.Journal.{raw_lines, longest_journal}
use Rattle.ch_laws_one_node.proofs.Frames.{all_framed}
use Rattle.ch_laws_one_node.proofs.fits_frames.Goals as goal

pub returns : goal.returns
returns c = λ bytes. all_framed (raw_lines (take (longest_journal + 1) bytes))
