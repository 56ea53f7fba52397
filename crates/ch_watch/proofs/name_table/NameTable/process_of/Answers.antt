use Rattle.std.proofs.Common.{ap, find, ◌∙◌}
use Rattle.std.specs.Option.{option_map}
use Rattle.ch_watch.specs.declared.named.Named.{Named}
use Rattle.ch_watch.specs.Names.{has_name}
use Rattle.ch_watch.proofs.NameTables.{found_name, same_name}
use Rattle.ch_watch.proofs.name_table.NameTable.process_of.Goals as goal

pub returns-in-None : goal.returns-in-None
returns-in-None c =
    let same = same_name (λ key. key.items) _ c.args.name.now (c.as_slice.ensures ∙ c.name.view_is) in
    ap (option_map (λ (named : Named). named.process)) (c.in-None.ensures.value ∙ found_name (λ key. key.items) _ c.args.name.now same _ c.self.invariant ∙ ap (find (has_name c.args.name.now)) c.self.view_is)

pub returns-in-Some : goal.returns-in-Some
returns-in-Some c =
    let same = same_name (λ key. key.items) _ c.args.name.now (c.as_slice.ensures ∙ c.name.view_is) in
    ap (option_map (λ (named : Named). named.process)) (c.in-Some.ensures.value ∙ found_name (λ key. key.items) _ c.args.name.now same _ c.self.invariant ∙ ap (find (has_name c.args.name.now)) c.self.view_is)
