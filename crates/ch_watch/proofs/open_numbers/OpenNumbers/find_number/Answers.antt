use Rattle.std.proofs.Common.{ap, find, sym, ◌∙◌}
use Rattle.ch_watch.specs.Open.{has_number}
use Rattle.ch_watch.proofs.Rising.{found_number, same_number}
use Rattle.ch_watch.proofs.open_numbers.OpenNumbers.find_number.Goals as goal

pub returns : goal.returns
returns c = c.get.ensures.value ∙ sym (found_number _ c.args.number (same_number c.args.number) 0 _ _ c.self.invariant) ∙ ap (λ v. find (has_number c.args.number) v.waiting) c.self.view_is
