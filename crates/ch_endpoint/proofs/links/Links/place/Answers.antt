use Rattle.std.proofs.Common.{List, ℕ, length, ap, sym, subst, ◌∙◌}
use Rattle.std.specs.List.{position}
use Rattle.std.specs.Str.{bytes_eq}
use Rattle.ch_model.specs.HostSteps.{is_link}
use Rattle.ch_endpoint.specs.Places.{Apart}
use Rattle.ch_endpoint.proofs.KeyTables.{keys_found, no_host, lengths, if_within}
use Rattle.ch_endpoint.proofs.links.Links.place.Goals as goal

pub returns-in-None-clause-place : goal.returns-in-None-clause-place
returns-in-None-clause-place c =
    let none = ap (λ (b : List ℕ). position (λ k. bytes_eq b k.items) c.self.inside.hosts.keys) (sym c.as_slice.ensures) ∙ sym c.in-None.ensures.index in
    sym (no_host (λ text. text.items) c.self.inside.hosts.keys c.args.end (record { host = c.peer.inside.host; port = c.peer.inside.port; id = c.peer.inside.id }) c.self.inside.keys.keys c.self.inside.rows.items none c.self.invariant.1)
    ∙ (λ i. position (is_link c.args.end (c.peer.view_is i)) (c.self.view_is i))

pub returns-in-Some-clause-place : goal.returns-in-Some-clause-place
returns-in-Some-clause-place c =
    let at = ap (λ (b : List ℕ). position (λ k. bytes_eq b k.items) c.self.inside.hosts.keys) (sym c.as_slice.ensures) ∙ sym c.in-Some.ensures.index in
    c.get_index_of-in-Some.ensures.index
    ∙ keys_found (λ text. text.items) c.self.inside.hosts.keys c.args.end c.in-Some.host (record { host = c.peer.inside.host; port = c.peer.inside.port; id = c.peer.inside.id }) c.self.inside.keys.keys c.self.inside.rows.items at c.self.invariant.1
    ∙ (λ i. position (is_link c.args.end (c.peer.view_is i)) (c.self.view_is i))

pub returns-in-Some-clause-within : goal.returns-in-Some-clause-within
returns-in-Some-clause-within c = if_within c.get_index_of-in-Some.result _ _ (lengths (λ text. text.items) c.self.inside.hosts.keys c.self.inside.keys.keys c.self.inside.rows.items c.self.invariant.1 ∙ ap length c.self.view_is) c.get_index_of-in-Some.ensures.within

pub returns-in-None-clause-apart : goal.returns-in-None-clause-apart
returns-in-None-clause-apart c = subst Apart c.self.view_is c.self.invariant.0

pub returns-in-Some-clause-apart : goal.returns-in-Some-clause-apart
returns-in-Some-clause-apart c = subst Apart c.self.view_is c.self.invariant.0
