use Rattle.std.proofs.Common.{ap, find, sym, ◌∙◌}
use Rattle.ch_watch.specs.Open.{is_watch_of}
use Rattle.ch_watch.proofs.Rising.{found_watch, passing, passes, fails, same_number}
use Rattle.ch_watch.proofs.open_numbers.OpenNumbers.find_watch.Goals as goal

pub returns-in-None : goal.returns-in-None
returns-in-None c =
    let test = is_watch_of c.args.owner c.args.number in
    ap (passing test) c.in-None.ensures.value ∙ sym (found_watch _ c.args.owner c.args.number (same_number c.args.number) 0 _ _ c.self.invariant) ∙ ap (λ v. find test v.waiting) c.self.view_is

pub returns-then-is_watch_of : goal.returns-then-is_watch_of
returns-then-is_watch_of c =
    let test = is_watch_of c.args.owner c.args.number in
    passes test _ (sym c.is_watch_of.ensures ∙ c.if-is_watch_of.true) ∙ ap (passing test) c.in-Some.ensures.value ∙ sym (found_watch _ c.args.owner c.args.number (same_number c.args.number) 0 _ _ c.self.invariant) ∙ ap (λ v. find test v.waiting) c.self.view_is

pub returns-else-is_watch_of : goal.returns-else-is_watch_of
returns-else-is_watch_of c =
    let test = is_watch_of c.args.owner c.args.number in
    fails test _ (sym c.is_watch_of.ensures ∙ c.if-is_watch_of.false) ∙ ap (passing test) c.in-Some.ensures.value ∙ sym (found_watch _ c.args.owner c.args.number (same_number c.args.number) 0 _ _ c.self.invariant) ∙ ap (λ v. find test v.waiting) c.self.view_is
