use Rattle.std.proofs.Common.{List, ℕ, ap, sym, ◌∙◌}
use Rattle.std.specs.List.{position}
use Rattle.std.specs.Str.{bytes_eq}
use Rattle.ch_model.specs.Same.{same_socket}
use Rattle.ch_sockets.proofs.NameTables.{key_place, no_from, no_to}
use Rattle.ch_sockets.proofs.names.Names.place.Goals as goal

pub returns-in-None-clause-place : goal.returns-in-None-clause-place
returns-in-None-clause-place c =
    let none = ap (λ (b : List ℕ). position (λ k. bytes_eq b k.items) c.self.inside.texts.keys) (sym c.as_slice.ensures) ∙ sym c.in-None.ensures.index in
    sym (no_from (λ text. text.items) c.self.inside.texts.keys c.args.name.now c.self.inside.keys.keys none c.self.invariant.0) ∙ ap (position (λ known. same_socket known c.args.name.now)) c.self.view_is

pub returns-in-None-get_index_of-clause-place : goal.returns-in-None-get_index_of-clause-place
returns-in-None-get_index_of-clause-place c =
    let none = ap (λ (b : List ℕ). position (λ k. bytes_eq b k.items) c.self.inside.texts.keys) (sym c.as_slice-in-Some.ensures) ∙ sym c.in-None-get_index_of.ensures.index in
    sym (no_to (λ text. text.items) c.self.inside.texts.keys c.args.name.now c.self.inside.keys.keys none c.self.invariant.0) ∙ ap (position (λ known. same_socket known c.args.name.now)) c.self.view_is

pub returns-in-Some-get_index_of-clause-place : goal.returns-in-Some-get_index_of-clause-place
returns-in-Some-get_index_of-clause-place c =
    let from = ap (λ (b : List ℕ). position (λ k. bytes_eq b k.items) c.self.inside.texts.keys) (sym c.as_slice.ensures) ∙ sym c.in-Some.ensures.index in
    let to = ap (λ (b : List ℕ). position (λ k. bytes_eq b k.items) c.self.inside.texts.keys) (sym c.as_slice-in-Some.ensures) ∙ sym c.in-Some-get_index_of.ensures.index in
    c.get_index_of-in-Some-get_index_of.ensures.index
    ∙ key_place (λ text. text.items) c.self.inside.texts.keys c.args.name.now c.in-Some.from c.in-Some-get_index_of.to c.self.inside.keys.keys from to c.self.invariant.0
    ∙ ap (position (λ known. same_socket known c.args.name.now)) c.self.view_is
