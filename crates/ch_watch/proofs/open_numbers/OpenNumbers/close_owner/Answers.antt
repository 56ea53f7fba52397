use Rattle.std.proofs.Common.{rules, sym, subst, not, ◌==◌}
use Rattle.indexmap.proofs.CallerLemmas.{filter-RetainsPairs}
use Rattle.ch_watch.specs.Rising.{Rises}
use Rattle.ch_watch.proofs.Rising.{filtered, kept_open}
use Rattle.ch_watch.proofs.open_numbers.OpenNumbers.close_owner.Goals as goal

pub invariant_of-self : goal.invariant_of-self
invariant_of-self c =
    let kept = filter-RetainsPairs _ (λ e. not (e.1.owner == c.args.owner)) _ (λ k v b w g call. search rules) _ _ c.retain.ensures.filtered in
    subst (λ es. Rises 0 es c.self.inside.next) (sym kept) (filtered _ 0 _ _ c.self.invariant)

pub returns : goal.returns
returns c =
    let kept = filter-RetainsPairs _ (λ e. not (e.1.owner == c.args.owner)) _ (λ k v b w g call. search rules) _ _ c.retain.ensures.filtered in
    kept_open (λ waiting. not (waiting.owner == c.args.owner)) c.self.inside.next _ _ _ c.self.view_is kept
