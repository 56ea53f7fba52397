use Rattle.std.proofs.Common.{rules, Bool, ap, sym, subst, filter, not, ◌==◌, ◌∙◌}
use Rattle.std.specs.Map.{values_of}
use Rattle.indexmap.proofs.CallerLemmas.{filter-RetainsPairs}
use Rattle.ch_watch.specs.declared.named.Named.{Named}
use Rattle.ch_watch.specs.Tables.{UnderNames}
use Rattle.ch_watch.proofs.Rising.{values-filter}
use Rattle.ch_watch.proofs.NameTables.{kept_names}
use Rattle.ch_watch.proofs.name_table.NameTable.drop_process.Goals as goal

pub invariant_of-self : goal.invariant_of-self
invariant_of-self c =
    let kept = filter-RetainsPairs _ (λ e. not (e.1.process == c.args.process)) _ (λ k v b w g call. search rules) _ _ c.retain.ensures.filtered in
    subst (λ es. UnderNames (λ key. key.items) es) (sym kept) (kept_names (λ key. key.items) _ _ c.self.invariant)

pub returns : goal.returns
returns c =
    let kept = filter-RetainsPairs _ (λ e. not (e.1.process == c.args.process)) _ (λ k v b w g call. search rules) _ _ c.retain.ensures.filtered in
    let test : Named → Bool = λ named. not (named.process == c.args.process) in
    ap values_of kept ∙ values-filter test _ ∙ ap (filter test) c.self.view_is
