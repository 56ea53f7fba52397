use Rattle.std.proofs.Common.{ℕ, List, arith, subst}
use Rattle.ch_base.specs.Outside.{Writes}
use Rattle.ch_replay.proofs.Pieces.{appended_more}
use Rattle.ch_replay.proofs.output.write_all.Goals as goal

pub pieces-preserved : goal.pieces-preserved
pieces-preserved g c = record {
  within = omega (arith, c.in_ok-n.ensures.within, c.split_at.ensures.back_len);
  appended = appended_more c.args.text.now c.pieces.at c.in_ok-n.n (g.K.Sink.held c.args.sink.now) (g.K.Sink.held c.pieces.sink) (g.K.Sink.held c.write.new.self) c.pieces.invariant.within c.pieces.invariant.appended
      (subst (λ (x : List ℕ). Writes (g.K.Sink.held c.pieces.sink) (g.K.Sink.held c.write.new.self) c.in_ok-n.n x) c.split_at.ensures.back c.in_ok-n.ensures.taken);
  counted = omega (arith, c.in_ok-n.ensures.counted, c.pieces.invariant.counted);
}
