use Rattle.std.proofs.Common.{Ok, ap, ◌∙◌, ◌++◌}
use Rattle.ch_model.specs.Spelling.{log_text}
use Rattle.ch_replay.proofs.LinesRead.{goes_on, settles_not}
use Rattle.ch_replay.proofs.replay.turn.Goals as goal

pub returns-in-Ok : goal.returns-in-Ok
returns-in-Ok c = goes_on c.args.reading.now c.line.new.self c.args.run.now c.step.new.self c.args.line.now c.in-Ok-Some.line c.in_ok-entries-in-Ok-Some.entries.items c.args.text.now.items c.put_entries.new.text.items c.requires.grammar c.requires.fresh c.requires.few (c.in-Ok-Some.ensures.0 ∙ ap (λ o. Ok o) c.in-Ok-Some.field-0-is) c.in-Ok-Some.ensures.1 c.in_ok-entries-in-Ok-Some.ensures (c.in-Ok.ensures ∙ ap (λ es. c.args.text.now.items ++ log_text es) c.as_slice.ensures.value)

pub step-requires : goal.step-requires
step-requires c = settles_not c.args.reading.now c.args.line.now c.in-Ok-Some.line c.requires.grammar c.requires.fresh c.requires.few (c.in-Ok-Some.ensures.0 ∙ ap (λ o. Ok o) c.in-Ok-Some.field-0-is)
