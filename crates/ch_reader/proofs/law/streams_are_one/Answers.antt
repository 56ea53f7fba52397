use Rattle.ch_reader.specs.Items.{first_expected}
use Rattle.ch_reader.proofs.Streams.{stream_is_one, refusal_is_one, never_both, items_apart}
use Rattle.ch_reader.proofs.law.streams_are_one.Goals as goal

pub returns-clause-items : goal.returns-clause-items
returns-clause-items c = items_apart

pub returns-clause-stream : goal.returns-clause-stream
returns-clause-stream c role = stream_is_one (first_expected role)

pub returns-clause-refusal : goal.returns-clause-refusal
returns-clause-refusal c role = refusal_is_one (first_expected role)

pub returns-clause-apart : goal.returns-clause-apart
returns-clause-apart c role = never_both (first_expected role)
