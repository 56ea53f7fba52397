use Rattle.std.proofs.Common.{ap, find, sym, subst, ◌∙◌}
use Rattle.std.specs.Map.{values_of}
use Rattle.ch_watch.specs.Firsts.{first_that}
use Rattle.ch_watch.specs.Open.{is_watch_of}
use Rattle.ch_watch.specs.Rising.{Rises}
use Rattle.ch_watch.proofs.Rising.{gives, removed, same_number, taken_watch, found_watch, not_taken, passed}
use Rattle.ch_watch.proofs.open_numbers.OpenNumbers.close_watch.Goals as goal

pub returns-in-None-clause-taken : goal.returns-in-None-clause-taken
returns-in-None-clause-taken c = not_taken (is_watch_of c.args.owner c.args.watch) c.args.self.now.waiting c.in-None.ensures

pub invariant_of-self : goal.invariant_of-self
invariant_of-self c = subst (λ es. Rises 0 es c.self.inside.next) (sym c.remove.ensures.entries) (removed _ 0 _ _ c.self.invariant)

pub returns-in-Some-clause-taken : goal.returns-in-Some-clause-taken
returns-in-Some-clause-taken c =
    let test = is_watch_of c.args.owner c.args.watch in
    let first = ap (λ v. first_that test v.waiting) (sym c.self.view_is) ∙ taken_watch _ c.args.owner c.args.watch (same_number c.args.watch) 0 _ _ c.self.invariant in
    let there = c.in-Some.ensures ∙ ap (λ v. find test v.waiting) (sym c.self.view_is) ∙ found_watch _ c.args.owner c.args.watch (same_number c.args.watch) 0 _ _ c.self.invariant in
    gives _ _ c.remove.result _ _ first (c.remove.ensures.value ∙ passed test _ _ there) (ap values_of c.remove.ensures.entries)
