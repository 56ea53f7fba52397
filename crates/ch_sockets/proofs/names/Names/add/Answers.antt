use Rattle.std.proofs.Common.{List, ℕ, ap, sym, subst, ◌∙◌}
use Rattle.ch_sockets.specs.Names.{Key, names_at, AreKeys, AreCounts}
use Rattle.ch_sockets.proofs.Named.{always_err}
use Rattle.ch_sockets.proofs.NameTables.{one_put, both_put, key_back, counts_added}
use Rattle.ch_sockets.proofs.names.Names.add.Goals as goal

pub invariant_of-self-in_err-to : goal.invariant_of-self-in_err-to
invariant_of-self-in_err-to c =
    let one = one_put (λ text. text.items) c.self.inside.texts.keys c.insert_full.new.self.keys c.in_ok-opener.opener c.self.inside.keys.keys c.args.self.now c.in_ok-from.ensures.keys c.self.invariant.0 c.self.view_is in
    (subst (λ ks. AreKeys (λ text. text.items) ks c.self.inside.keys.keys) (sym c.in_err-to.ensures.err) one.1, c.self.invariant.1)

pub returns-in_err-to-clause-err : goal.returns-in_err-to-clause-err
returns-in_err-to-clause-err c =
    let one = one_put (λ text. text.items) c.self.inside.texts.keys c.insert_full.new.self.keys c.in_ok-opener.opener c.self.inside.keys.keys c.args.self.now c.in_ok-from.ensures.keys c.self.invariant.0 c.self.view_is in
    always_err c.from_residual-in_err-to.result _ (ap (λ ks. names_at (λ text. text.items) ks c.self.inside.keys.keys) c.in_err-to.ensures.err ∙ one.0)

pub invariant_of-self-in_err-insert : goal.invariant_of-self-in_err-insert
invariant_of-self-in_err-insert c =
    let added = both_put (λ text. text.items) c.self.inside.texts.keys c.insert_full.new.self.keys c.insert_full-2.new.self.keys c.in_ok-opener.opener c.in_ok-target.target c.in_ok-from.from c.in_ok-to.to c.args.name.now c.self.inside.keys.keys c.args.self.now (c.in_ok-opener.ensures.items ∙ c.as_slice.ensures) (c.in_ok-target.ensures.items ∙ c.as_slice-2.ensures) c.in_ok-from.ensures.keys c.in_ok-from.ensures.index c.in_ok-to.ensures.keys c.in_ok-to.ensures.index c.self.invariant.0 c.self.view_is c.requires.fresh in
    subst (λ (ks : List Key). AreKeys (λ text. text.items) c.insert_full-2.new.self.keys ks × AreCounts c.self.inside.counts.entries ks) (sym c.in_err-insert.ensures.err) (added.kept, c.self.invariant.1)

pub returns-in_err-insert-clause-err : goal.returns-in_err-insert-clause-err
returns-in_err-insert-clause-err c =
    let added = both_put (λ text. text.items) c.self.inside.texts.keys c.insert_full.new.self.keys c.insert_full-2.new.self.keys c.in_ok-opener.opener c.in_ok-target.target c.in_ok-from.from c.in_ok-to.to c.args.name.now c.self.inside.keys.keys c.args.self.now (c.in_ok-opener.ensures.items ∙ c.as_slice.ensures) (c.in_ok-target.ensures.items ∙ c.as_slice-2.ensures) c.in_ok-from.ensures.keys c.in_ok-from.ensures.index c.in_ok-to.ensures.keys c.in_ok-to.ensures.index c.self.invariant.0 c.self.view_is c.requires.fresh in
    always_err c.from_residual-in_err-insert.result _ (ap (names_at (λ text. text.items) c.insert_full-2.new.self.keys) c.in_err-insert.ensures.err ∙ added.same)

pub invariant_of-self-in-Ok : goal.invariant_of-self-in-Ok
invariant_of-self-in-Ok c =
    let added = both_put (λ text. text.items) c.self.inside.texts.keys c.insert_full.new.self.keys c.insert_full-2.new.self.keys c.in_ok-opener.opener c.in_ok-target.target c.in_ok-from.from c.in_ok-to.to c.args.name.now c.self.inside.keys.keys c.args.self.now (c.in_ok-opener.ensures.items ∙ c.as_slice.ensures) (c.in_ok-target.ensures.items ∙ c.as_slice-2.ensures) c.in_ok-from.ensures.keys c.in_ok-from.ensures.index c.in_ok-to.ensures.keys c.in_ok-to.ensures.index c.self.invariant.0 c.self.view_is c.requires.fresh in
    let grown = added.grown c.insert.new.self.keys c.in_ok-insert.ensures.keys in
    (grown.2, counts_added c.in_ok-from.from c.in_ok-to.to c.args.name.now.number c.in_ok-count.count c.self.inside.counts.entries c.insert-2.new.self.entries c.self.inside.keys.keys c.insert.new.self.keys (c.requires.next ∙ sym added.count) c.in_ok-count.ensures c.in-Ok.ensures.updates.0 grown.0 c.self.invariant.1)

pub invariant_of-self-in-Err : goal.invariant_of-self-in-Err
invariant_of-self-in-Err c =
    let added = both_put (λ text. text.items) c.self.inside.texts.keys c.insert_full.new.self.keys c.insert_full-2.new.self.keys c.in_ok-opener.opener c.in_ok-target.target c.in_ok-from.from c.in_ok-to.to c.args.name.now c.self.inside.keys.keys c.args.self.now (c.in_ok-opener.ensures.items ∙ c.as_slice.ensures) (c.in_ok-target.ensures.items ∙ c.as_slice-2.ensures) c.in_ok-from.ensures.keys c.in_ok-from.ensures.index c.in_ok-to.ensures.keys c.in_ok-to.ensures.index c.self.invariant.0 c.self.view_is c.requires.fresh in
    let grown = added.grown c.insert.new.self.keys c.in_ok-insert.ensures.keys in
    let back = key_back c.self.inside.keys.keys c.insert.new.self.keys c.truncate.new.self.keys (c.in_ok-from.from, c.in_ok-to.to, c.args.name.now.number) c.len-place.result c.len-place.ensures.len grown.0 c.truncate.ensures.keys in
    subst (λ (ks : List Key). AreKeys (λ text. text.items) c.insert_full-2.new.self.keys ks × AreCounts c.insert-2.new.self.entries ks) (sym back) (added.kept, subst (λ (es : List ((ℕ × ℕ) × ℕ)). AreCounts es c.self.inside.keys.keys) (sym c.in-Err.ensures.err) c.self.invariant.1)

pub returns-in-Ok-clause-ok : goal.returns-in-Ok-clause-ok
returns-in-Ok-clause-ok c =
    let added = both_put (λ text. text.items) c.self.inside.texts.keys c.insert_full.new.self.keys c.insert_full-2.new.self.keys c.in_ok-opener.opener c.in_ok-target.target c.in_ok-from.from c.in_ok-to.to c.args.name.now c.self.inside.keys.keys c.args.self.now (c.in_ok-opener.ensures.items ∙ c.as_slice.ensures) (c.in_ok-target.ensures.items ∙ c.as_slice-2.ensures) c.in_ok-from.ensures.keys c.in_ok-from.ensures.index c.in_ok-to.ensures.keys c.in_ok-to.ensures.index c.self.invariant.0 c.self.view_is c.requires.fresh in
    (added.grown c.insert.new.self.keys c.in_ok-insert.ensures.keys).1

pub returns-in-Err-clause-err : goal.returns-in-Err-clause-err
returns-in-Err-clause-err c =
    let added = both_put (λ text. text.items) c.self.inside.texts.keys c.insert_full.new.self.keys c.insert_full-2.new.self.keys c.in_ok-opener.opener c.in_ok-target.target c.in_ok-from.from c.in_ok-to.to c.args.name.now c.self.inside.keys.keys c.args.self.now (c.in_ok-opener.ensures.items ∙ c.as_slice.ensures) (c.in_ok-target.ensures.items ∙ c.as_slice-2.ensures) c.in_ok-from.ensures.keys c.in_ok-from.ensures.index c.in_ok-to.ensures.keys c.in_ok-to.ensures.index c.self.invariant.0 c.self.view_is c.requires.fresh in
    let grown = added.grown c.insert.new.self.keys c.in_ok-insert.ensures.keys in
    let back = key_back c.self.inside.keys.keys c.insert.new.self.keys c.truncate.new.self.keys (c.in_ok-from.from, c.in_ok-to.to, c.args.name.now.number) c.len-place.result c.len-place.ensures.len grown.0 c.truncate.ensures.keys in
    ap (names_at (λ text. text.items) c.insert_full-2.new.self.keys) back ∙ added.same
