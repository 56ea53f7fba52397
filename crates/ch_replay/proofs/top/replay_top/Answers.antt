use Rattle.std.proofs.Common.{ℕ, List, length, arith, subst, ap, sym, ◌∙◌}
use Rattle.ch_base.specs.declared.memory.Stop.{Stop}
use Rattle.ch_journal.specs.declared.status.Status.{Status}
use Rattle.ch_replay.specs.Ends.{Ends}
use Rattle.ch_replay.specs.Outside.{Appended, AppendedSome}
use Rattle.ch_replay.specs.Replayed.{Stops, replay_of}
use Rattle.ch_replay.proofs.Tops.{ends_written, ends_in_part, ends_worn}
use Rattle.ch_replay.proofs.top.replay_top.Goals as goal

pub log_journal-requires : goal.log_journal-requires
log_journal-requires g c = omega (arith, ap length c.as_slice.ensures.value, c.in-Ok.ensures.small)

pub returns-in-Err-Worn-clause-ends : goal.returns-in-Err-Worn-clause-ends
returns-in-Err-Worn-clause-ends g c =
    ends_worn (g.S.Source.left c.args.source.now) (g.S.Source.left c.take_journal.new.source) (g.K.Sink.held c.args.sink.now) c.in-Ok.journal.items c.in-Ok.ensures.taken
    (ap replay_of (sym c.as_slice.ensures.value) ∙ subst (λ (s : Stop). Stops s (replay_of c.as_slice.result.now)) c.in-Err-Worn.field-0-is c.in-Err-Worn.ensures)

pub returns-in-Ok-write_all-clause-ends : goal.returns-in-Ok-write_all-clause-ends
returns-in-Ok-write_all-clause-ends g c =
    subst (λ (s : Status). Ends s (g.S.Source.left c.args.source.now) (g.S.Source.left c.take_journal.new.source) (g.K.Sink.held c.args.sink.now) (g.K.Sink.held c.write_all.new.sink)) (sym c.status_of.ensures)
    (ends_written (g.S.Source.left c.args.source.now) (g.S.Source.left c.take_journal.new.source) (g.K.Sink.held c.args.sink.now) (g.K.Sink.held c.write_all.new.sink) c.in-Ok.journal.items c.in-Ok-log_journal.logged.text.items c.in-Ok-log_journal.logged.fault c.in-Ok.ensures.taken
    (ap replay_of (sym c.as_slice.ensures.value) ∙ c.in-Ok-log_journal.ensures)
    (subst (λ (t : List ℕ). Appended t (g.K.Sink.held c.args.sink.now) (g.K.Sink.held c.write_all.new.sink)) c.as_slice-2.ensures.value c.in-Ok-write_all.ensures.ok))

pub returns-clause-ends : goal.returns-clause-ends
returns-clause-ends g c =
    ends_in_part (g.S.Source.left c.args.source.now) (g.S.Source.left c.take_journal.new.source) (g.K.Sink.held c.args.sink.now) (g.K.Sink.held c.write_all.new.sink) c.in-Ok.journal.items c.in-Ok-log_journal.logged.text.items c.in-Ok-log_journal.logged.fault c.in-Ok.ensures.taken
    (ap replay_of (sym c.as_slice.ensures.value) ∙ c.in-Ok-log_journal.ensures)
    (subst (λ (t : List ℕ). AppendedSome t (g.K.Sink.held c.args.sink.now) (g.K.Sink.held c.write_all.new.sink)) c.as_slice-2.ensures.value c.in-Err.ensures.err)
