use Rattle.std.proofs.Common.{ap, ◌∙◌}
use Rattle.std.specs.List.{list_any}
use Rattle.ch_watch.specs.Names.{has_name}
use Rattle.ch_watch.proofs.NameTables.{stands, same_name}
use Rattle.ch_watch.proofs.name_table.NameTable.has.Goals as goal

pub returns : goal.returns
returns c =
    let same = same_name (λ key. key.items) _ c.args.name.now (c.as_slice.ensures ∙ c.name.view_is) in
    c.contains_key.ensures ∙ stands (λ key. key.items) _ c.args.name.now same _ c.self.invariant ∙ ap (list_any (has_name c.args.name.now)) c.self.view_is
