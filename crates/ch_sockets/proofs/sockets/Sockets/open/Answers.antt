use Rattle.std.proofs.Common.{◌≡◌, List, length, arith, ap, sym, subst, ◌∙◌, [], ◌∷◌, ◌++◌}
use Rattle.ch_model.specs.declared.name.SockName.{SockName}
use Rattle.ch_model.specs.WorldState.{WorldSocket}
use Rattle.ch_model.specs.WorldSockets.{target_end}
use Rattle.ch_sockets.specs.Openers.{opener_end}
use Rattle.ch_sockets.specs.Numbers.{Numbered}
use Rattle.ch_sockets.specs.Ends.{IsNoted, AreTables, opener_key}
use Rattle.ch_sockets.proofs.Fresh.{opened_last}
use Rattle.ch_sockets.proofs.Kept.{opened_tables, noted_tables, taken_back, name_count, next_same, next_nowhere}
use Rattle.ch_sockets.proofs.sockets.Sockets.open.Goals as goal

pub add-requires-clause-next : goal.add-requires-clause-next
add-requires-clause-next c = next_same (record { from = c.args.from; to = c.args.to; number = c.count-number.result }) c.in_ok-answer.answer c.self.inside.names c.in_ok-answer.ensures c.count-number.ensures

pub add-requires-clause-fresh : goal.add-requires-clause-fresh
add-requires-clause-fresh c =
    next_nowhere c.in_ok-answer.answer c.self.inside.names c.self.invariant.1 (next_same (record { from = c.args.from; to = c.args.to; number = c.count-number.result }) c.in_ok-answer.answer c.self.inside.names c.in_ok-answer.ensures c.count-number.ensures)

pub invariant_of-self-in_err-push : goal.invariant_of-self-in_err-push
invariant_of-self-in_err-push c =
    let at : c.len-place.result ≡ length c.self.inside.rows.items = grind (arith, c.len-place.ensures, c.self.inside.rows.ok) in
    let told = subst (λ key. IsNoted key c.len-place.result c.self.inside.ends.entries c.note.new.ends.entries) c.key.ensures c.in_ok-note.ensures.ok in
    subst (λ (ls : List WorldSocket). AreTables c.self.inside.names c.note.new.ends.entries ls) (sym c.in_err-push.ensures.items) (noted_tables (opener_key c.args.opener) c.len-place.result c.self.inside.names c.self.inside.ends.entries c.note.new.ends.entries c.self.inside.rows.items told (omega (arith, at)) c.self.invariant)

pub invariant_of-self-in-Ok : goal.invariant_of-self-in-Ok
invariant_of-self-in-Ok c =
    let at : c.len-place.result ≡ length c.self.inside.rows.items = grind (arith, c.len-place.ensures, c.self.inside.rows.ok) in
    let told = subst (λ key. IsNoted key c.len-place.result c.self.inside.ends.entries c.note.new.ends.entries) c.key.ensures c.in_ok-note.ensures.ok in
    let name : SockName = record { from = c.args.from; to = c.args.to; number = c.count-number.result } in
    let own : c.new-socket.result.name ≡ name = ap (λ (s : WorldSocket). s.name) c.new-socket.ensures in
    let grown = c.in-Ok.ensures.ok ∙ ap (λ (n : SockName). c.self.inside.names ++ n ∷ []) (c.in_ok-answer.ensures ∙ sym own) in
    opened_tables c.args.opener c.args.target c.len-place.result c.self.inside.names c.add.new.self c.self.inside.ends.entries c.note.new.ends.entries c.self.inside.rows.items c.push.new.self.items c.new-socket.result told at (next_same name c.new-socket.result.name c.self.inside.names own c.count-number.ensures) (ap (λ (s : WorldSocket). s.o) c.new-socket.ensures) (ap (λ (s : WorldSocket). s.t) c.new-socket.ensures) grown c.in_ok-push.ensures.items c.self.invariant

pub invariant_of-self-in-Err-1 : goal.invariant_of-self-in-Err-1
invariant_of-self-in-Err-1 c =
    let at : c.len-place.result ≡ length c.self.inside.rows.items = grind (arith, c.len-place.ensures, c.self.inside.rows.ok) in
    let told = subst (λ key. IsNoted key c.len-place.result c.self.inside.ends.entries c.note.new.ends.entries) c.key.ensures c.in_ok-note.ensures.ok in
    let back = taken_back c.self.inside.rows.items c.push.new.self.items c.truncate.new.self.items c.new-socket.result c.len-place.result at c.in_ok-push.ensures.items c.truncate.ensures.items in
    let tables = noted_tables (opener_key c.args.opener) c.len-place.result c.self.inside.names c.self.inside.ends.entries c.note.new.ends.entries c.self.inside.rows.items told (omega (arith, at)) c.self.invariant in
    subst (λ (names : List SockName). AreTables names c.note.new.ends.entries c.truncate.new.self.items) (sym c.in-Err.ensures.err) (subst (λ (ls : List WorldSocket). AreTables c.self.inside.names c.note.new.ends.entries ls) (sym back) tables)

pub returns-in-Ok-clause-opened : goal.returns-in-Ok-clause-opened
returns-in-Ok-clause-opened c =
    let count = c.count-number.ensures ∙ name_count c.args.from c.args.to c.self.inside.names c.self.inside.rows.items c.args.self.now c.self.invariant.0 c.self.view_is in
    let is = c.new-socket.ensures ∙ (λ i. record { name = record { from = c.args.from; to = c.args.to; number = count i }; from_host = c.args.from_host; o = opener_end c.args.opener; t = target_end c.args.target }) in
    opened_last c.args.from c.args.to c.args.from_host (opener_end c.args.opener) c.args.target c.args.self.now c.self.inside.rows.items c.push.new.self.items c.new-socket.result (subst Numbered c.self.invariant.0 c.self.invariant.1) c.self.view_is is c.in_ok-push.ensures.items
