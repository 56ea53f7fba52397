use Rattle.std.proofs.Common.{List, ℕ, ap, sym, ◌∙◌}
use Rattle.std.specs.List.{position, count_by}
use Rattle.std.specs.Str.{bytes_eq}
use Rattle.ch_model.specs.Naming.{same_ends}
use Rattle.ch_sockets.specs.Names.{or_zero}
use Rattle.ch_sockets.proofs.NameTables.{pair_count, none_from, none_to}
use Rattle.ch_sockets.proofs.names.Names.count.Goals as goal

pub returns-in-None : goal.returns-in-None
returns-in-None c =
    let none = ap (λ (b : List ℕ). position (λ k. bytes_eq b k.items) c.self.inside.texts.keys) (sym c.as_slice.ensures) ∙ sym c.in-None.ensures.index in
    sym (none_from (λ text. text.items) c.self.inside.texts.keys c.args.from.now c.args.to.now c.self.inside.keys.keys none c.self.invariant.0) ∙ ap (count_by (same_ends c.args.from.now c.args.to.now)) c.self.view_is

pub returns-in-None-get_index_of : goal.returns-in-None-get_index_of
returns-in-None-get_index_of c =
    let none = ap (λ (b : List ℕ). position (λ k. bytes_eq b k.items) c.self.inside.texts.keys) (sym c.as_slice-in-Some.ensures) ∙ sym c.in-None-get_index_of.ensures.index in
    sym (none_to (λ text. text.items) c.self.inside.texts.keys c.args.from.now c.args.to.now c.self.inside.keys.keys none c.self.invariant.0) ∙ ap (count_by (same_ends c.args.from.now c.args.to.now)) c.self.view_is

pub returns-in-Some-get_index_of : goal.returns-in-Some-get_index_of
returns-in-Some-get_index_of c =
    let from = ap (λ (b : List ℕ). position (λ k. bytes_eq b k.items) c.self.inside.texts.keys) (sym c.as_slice.ensures) ∙ sym c.in-Some.ensures.index in
    let to = ap (λ (b : List ℕ). position (λ k. bytes_eq b k.items) c.self.inside.texts.keys) (sym c.as_slice-in-Some.ensures) ∙ sym c.in-Some-get_index_of.ensures.index in
    c.known_or_zero.ensures
    ∙ ap or_zero (c.copied.ensures ∙ c.get.ensures.value)
    ∙ c.self.invariant.1 c.in-Some.from c.in-Some-get_index_of.to
    ∙ pair_count (λ text. text.items) c.self.inside.texts.keys c.args.from.now c.args.to.now c.in-Some.from c.in-Some-get_index_of.to c.self.inside.keys.keys from to c.self.invariant.0
    ∙ ap (count_by (same_ends c.args.from.now c.args.to.now)) c.self.view_is
