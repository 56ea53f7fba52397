use Rattle.std.proofs.Common.{◌≡◌, ◌<◌, List, length, refl, ap, sym, subst, ◌∙◌}
use Rattle.ch_model.specs.WorldState.{WorldSocket}
use Rattle.ch_model.specs.declared.name.End.TheVariants.{T}
use Rattle.ch_sockets.specs.Among.{come_under}
use Rattle.ch_sockets.specs.Ends.{IsNoted, under}
use Rattle.ch_sockets.proofs.Named.{changed, unchanged}
use Rattle.ch_sockets.proofs.Kept.{come_tables, read_twice}
use Rattle.ch_sockets.proofs.sockets.Sockets.come.Goals as goal

pub invariant_of-self-in-Some : goal.invariant_of-self-in-Some
invariant_of-self-in-Some c =
    let within : c.in-Some.place < length c.self.inside.rows.items = subst (λ (ls : List WorldSocket). c.in-Some.place < length ls) (sym c.self.view_is) c.in-Some.ensures.within in
    let same : c.index.result.now ≡ c.index_mut.result.now = read_twice c.self.inside.rows.items c.in-Some.place c.index.result.now c.index_mut.result.now within c.index.ensures c.index_mut.ensures.value in
    let told = subst (λ key. IsNoted key c.in-Some.place c.self.inside.ends.entries c.note.new.ends.entries) (c.target_key.ensures ∙ ap (λ (s : WorldSocket). under c.args.number s.t.cell) same) c.in_ok-note-in-Some.ensures.ok in
    come_tables c.args.number c.in-Some.place c.self.inside.names c.self.inside.ends.entries c.note.new.ends.entries c.self.inside.rows.items c.index_mut.result.now c.come.new.self told within c.index_mut.ensures.value c.come.ensures c.self.invariant

pub returns-in-None : goal.returns-in-None
returns-in-None c = unchanged T (come_under c.args.number) c.args.name.now c.args.self.now _ refl (sym c.place.ensures.place ∙ c.in-None.is)

pub returns-in_ok-note-in-Some : goal.returns-in_ok-note-in-Some
returns-in_ok-note-in-Some c = changed T (come_under c.args.number) c.args.name.now c.args.self.now _ c.in-Some.place c.self.view_is (sym c.place.ensures.place ∙ c.in-Some.is) _ c.come.new.self c.index_mut.ensures.value c.come.ensures
