use Rattle.std.proofs.Common.{List, ℕ, find, ap, ◌∙◌}
use Rattle.std.specs.Map.{lookup}
use Rattle.std.specs.Str.{bytes_eq}
use Rattle.ch_model.specs.Naming.{is_named}
use Rattle.ch_names.proofs.Tables.{found_there, none_there}
use Rattle.ch_names.proofs.names.Names.named.Goals as goal

pub returns-in-None : goal.returns-in-None
returns-in-None c =
    let place = ap (λ (n : List ℕ). lookup (λ k. bytes_eq n k.items) c.self.inside.by_name.entries) c.as_slice.ensures ∙ c.self.invariant.by_name c.args.name.now in
    none_there (is_named c.args.name.now) c.self.inside.rows.items _ c.in-None.ensures.value place ∙ ap (find (is_named c.args.name.now)) c.self.view_is

pub returns-in-Some : goal.returns-in-Some
returns-in-Some c =
    let place = ap (λ (n : List ℕ). lookup (λ k. bytes_eq n k.items) c.self.inside.by_name.entries) c.as_slice.ensures ∙ c.self.invariant.by_name c.args.name.now in
    found_there (is_named c.args.name.now) c.self.inside.rows.items _ _ _ _ c.deref.ensures.value c.in-Some.ensures.value place c.get-in-Some.ensures.lookup ∙ ap (find (is_named c.args.name.now)) c.self.view_is
