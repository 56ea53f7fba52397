use Rattle.std.proofs.Common.{◌+◌, refl, sym, subst, ◌∙◌}
use Rattle.ch_watch.specs.Rising.{Rises}
use Rattle.ch_watch.proofs.Rising.{appended, at_end, one_more}
use Rattle.ch_watch.proofs.open_numbers.OpenNumbers.open_next.Goals as goal

pub invariant_of-self-2 : goal.invariant_of-self-2
invariant_of-self-2 c =
    let last = c.in_ok-insert.ensures.entries ∙ at_end 0 _ _ _ c.self.invariant in
    subst (λ es. Rises 0 es (c.self.inside.next + 1)) (sym last) (appended 0 _ _ _ refl c.self.invariant)

pub returns-clause-ok : goal.returns-clause-ok
returns-clause-ok c = one_more c.self.inside.next c.args.owner c.args.kind _ _ _ _ _ c.self.view_is c.in_ok-target.ensures (c.in_ok-insert.ensures.entries ∙ at_end 0 _ _ _ c.self.invariant)
