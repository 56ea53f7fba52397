use Rattle.std.proofs.lemmas.Result.{IfOk-weaker}
use Rattle.std.specs.List.{flat_map}
use Rattle.ch_reader.proofs.Streams.{decodes_once}
use Rattle.ch_reader.proofs.stream.decode.Goals as goal

pub returns-clause-only : goal.returns-clause-only
returns-clause-only c =
    IfOk-weaker c.drained.result _ _ (λ d h items refusal k. decodes_once c.args.role (flat_map (λ piece. piece) c.args.pieces.now) d.items.items items d.refusal refusal h k) c.drained.ensures
