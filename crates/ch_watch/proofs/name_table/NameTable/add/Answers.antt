use Rattle.std.proofs.Common.{ap, sym, subst, ◌∙◌}
use Rattle.std.specs.List.{list_any}
use Rattle.std.specs.Map.{values_of}
use Rattle.indexmap.proofs.CallerLemmas.{insert_entry-new}
use Rattle.ch_watch.specs.Names.{has_name}
use Rattle.ch_watch.specs.Tables.{UnderNames}
use Rattle.ch_watch.proofs.Rising.{values-append}
use Rattle.ch_watch.proofs.NameTables.{absent, added_name, same_name, stood}
use Rattle.ch_watch.proofs.name_table.NameTable.add.Goals as goal

pub invariant_of-self-2 : goal.invariant_of-self-2
invariant_of-self-2 c =
    let key_is = c.into_vec-key.ensures ∙ c.in_ok-copy.ensures ∙ c.name.view_is in
    let same = same_name (λ key. key.items) _ c.args.name.now key_is in
    let free = absent (λ key. key.items) _ c.args.name.now same _ c.self.invariant (ap (list_any (has_name c.args.name.now)) c.self.view_is ∙ c.requires) in
    let last = c.in_ok-insert.ensures.entries ∙ insert_entry-new _ c.self.inside.table _ _ free in
    subst (λ es. UnderNames (λ key. key.items) es) (sym last) (added_name (λ key. key.items) _ _ _ (c.in_ok-name.ensures ∙ sym key_is) c.self.invariant)

pub returns-clause-ok : goal.returns-clause-ok
returns-clause-ok c =
    let key_is = c.into_vec-key.ensures ∙ c.in_ok-copy.ensures ∙ c.name.view_is in
    let same = same_name (λ key. key.items) _ c.args.name.now key_is in
    let free = absent (λ key. key.items) _ c.args.name.now same _ c.self.invariant (ap (list_any (has_name c.args.name.now)) c.self.view_is ∙ c.requires) in
    let last = c.in_ok-insert.ensures.entries ∙ insert_entry-new _ c.self.inside.table _ _ free in
    ap values_of last ∙ values-append _ _ _ ∙ stood c.args.process c.self.view_is c.in_ok-name.ensures
