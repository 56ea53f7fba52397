use Rattle.std.proofs.Common.{ap, sym, subst, ◌∙◌}
use Rattle.ch_watch.specs.Firsts.{first_that}
use Rattle.ch_watch.specs.Open.{has_number}
use Rattle.ch_watch.specs.Rising.{Rises}
use Rattle.ch_watch.proofs.Rising.{gives, removed, same_number, taken_number}
use Rattle.std.specs.Map.{values_of}
use Rattle.ch_watch.proofs.open_numbers.OpenNumbers.close_number.Goals as goal

pub invariant_of-self : goal.invariant_of-self
invariant_of-self c = subst (λ es. Rises 0 es c.self.inside.next) (sym c.remove.ensures.entries) (removed _ 0 _ _ c.self.invariant)

pub returns-clause-taken : goal.returns-clause-taken
returns-clause-taken c =
    let first = ap (λ v. first_that (has_number c.args.number) v.waiting) (sym c.self.view_is) ∙ taken_number _ c.args.number (same_number c.args.number) 0 _ _ c.self.invariant in
    gives _ _ c.remove.result _ _ first c.remove.ensures.value (ap values_of c.remove.ensures.entries)
