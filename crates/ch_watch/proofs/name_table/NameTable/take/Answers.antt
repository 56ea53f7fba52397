use Rattle.std.proofs.Common.{ap, sym, subst, ◌∙◌}
use Rattle.std.specs.Map.{values_of}
use Rattle.ch_watch.specs.Firsts.{first_that}
use Rattle.ch_watch.specs.Names.{has_name}
use Rattle.ch_watch.specs.Tables.{UnderNames}
use Rattle.ch_watch.proofs.Rising.{gives}
use Rattle.ch_watch.proofs.NameTables.{taken_name, removed_name, same_name}
use Rattle.ch_watch.proofs.name_table.NameTable.take.Goals as goal

pub invariant_of-self : goal.invariant_of-self
invariant_of-self c = subst (λ es. UnderNames (λ key. key.items) es) (sym c.shift_remove.ensures.entries) (removed_name (λ key. key.items) _ _ c.self.invariant)

pub returns-clause-taken : goal.returns-clause-taken
returns-clause-taken c =
    let same = same_name (λ key. key.items) _ c.args.name.now (c.as_slice.ensures ∙ c.name.view_is) in
    let first = ap (first_that (has_name c.args.name.now)) (sym c.self.view_is) ∙ taken_name (λ key. key.items) _ c.args.name.now same _ c.self.invariant in
    gives _ _ c.shift_remove.result _ _ first c.shift_remove.ensures.value (ap values_of c.shift_remove.ensures.entries)
