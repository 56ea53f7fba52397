use Rattle.std.proofs.Common.{length, ap, sym, ◌∙◌}
use Rattle.ch_endpoint.proofs.Arriving.{closed_as_many}
use Rattle.ch_endpoint.proofs.link.Link.close_id.Goals as goal
use Rattle.ch_endpoint.proofs.link.Link.close_id.Goals.{in-Ok, in-Err}

pub invariant_of-self : goal.invariant_of-self
invariant_of-self c = elim c.match-closed.branch [ in-Ok w ↦ (c.self.invariant.0, c.self.invariant.1, c.self.invariant.2 ∙ sym (closed_as_many c.args.id _ _ _ w.in-Ok.ensures.does)) | in-Err w ↦ (c.self.invariant.0, c.self.invariant.1, c.self.invariant.2 ∙ sym (ap length w.in-Err.ensures.err)) ]
