use Rattle.std.proofs.Common.{◌≡◌, ◌≤◌, ◌<◌, ◌-◌, ◌∙◌, ◌++◌, List, ℕ, ap, sym, subst, arith, length, take, drop}
use Rattle.std.proofs.lemmas.List.{take_rest, take_all, length-drop}
use Rattle.ch_reader.specs.Runs.{IsBytes, Accounts}
use Rattle.ch_reader.specs.Decoding.{IsReadyUnless}
use Rattle.ch_reader.proofs.Decoding.{Steps, accounts_on, ready_on, takes_some, accounts_refused, rest_bytes}
use Rattle.ch_reader.proofs.stream.drain.Goals as goal

pub piece-smaller : goal.piece-smaller
piece-smaller c =
    let done = c.piece.done in
    let n = c.in_ok-done.field-0 in
    let piece = c.args.piece.now in
    let rest : List ℕ = take (length piece - done) (drop done piece) in
    let tail : rest ≡ drop done piece = take_rest piece done in
    let steps : Steps c.piece.reader c.feed.new.self c.take_into.new.reader c.piece.items.items c.take_into.new.items.items rest n = record { fed_is = c.in_ok-done.ensures.ok; after_is = c.in_ok-take_into.ensures.reader; items_are = c.in_ok-take_into.ensures.items } in
    let long : 0 < length rest = omega (arith, ap length tail, length-drop done piece) in
    let some : 0 < n = takes_some c.piece.items.items c.take_into.new.items.items c.piece.reader c.feed.new.self c.take_into.new.reader rest n (rest_bytes piece rest done tail (λ i. omega (arith, c.type_inv.piece i))) steps c.piece.invariant.ready long in
    omega arith

pub piece-preserved : goal.piece-preserved
piece-preserved c =
    let done = c.piece.done in
    let n = c.in_ok-done.field-0 in
    let piece = c.args.piece.now in
    let rest : List ℕ = take (length piece - done) (drop done piece) in
    let tail : rest ≡ drop done piece = take_rest piece done in
    let whole : IsBytes piece = λ i. omega (arith, c.type_inv.piece i) in
    let steps : Steps c.piece.reader c.feed.new.self c.take_into.new.reader c.piece.items.items c.take_into.new.items.items rest n = record { fed_is = c.in_ok-done.ensures.ok; after_is = c.in_ok-take_into.ensures.reader; items_are = c.in_ok-take_into.ensures.items } in
    record {
      within = omega (arith, c.in_ok-done.ensures.within, ap length tail, length-drop done piece);
      ready = subst (λ r. IsReadyUnless r c.take_into.new.reader) c.in-None.is (ready_on c.piece.items.items c.take_into.new.items.items c.piece.reader c.feed.new.self c.take_into.new.reader rest n c.in_ok-take_into.field-0 (rest_bytes piece rest done tail whole) steps c.piece.invariant.ready c.in_ok-take_into.ensures.refusal);
      account = accounts_on c.args.items.now.items c.piece.items.items c.take_into.new.items.items c.args.reader.now c.piece.reader c.feed.new.self c.take_into.new.reader piece rest done n (rest_bytes piece rest done tail whole) whole tail steps c.piece.invariant.account;
    }

pub returns-in-Some-clause-accounts : goal.returns-in-Some-clause-accounts
returns-in-Some-clause-accounts c =
    let done = c.piece.done in
    let n = c.in_ok-done.field-0 in
    let piece = c.args.piece.now in
    let rest : List ℕ = take (length piece - done) (drop done piece) in
    let tail : rest ≡ drop done piece = take_rest piece done in
    let whole : IsBytes piece = λ i. omega (arith, c.type_inv.piece i) in
    let steps : Steps c.piece.reader c.feed.new.self c.take_into.new.reader c.piece.items.items c.take_into.new.items.items rest n = record { fed_is = c.in_ok-done.ensures.ok; after_is = c.in_ok-take_into.ensures.reader; items_are = c.in_ok-take_into.ensures.items } in
    accounts_refused c.args.items.now.items c.piece.items.items c.take_into.new.items.items c.args.reader.now c.piece.reader c.feed.new.self c.take_into.new.reader piece rest done n c.in-Some.error (rest_bytes piece rest done tail whole) whole tail steps c.piece.invariant.account
    (sym c.in_ok-take_into.ensures.refusal ∙ c.in-Some.is)

pub returns-clause-accounts : goal.returns-clause-accounts
returns-clause-accounts c role bytes fits a =
    let l : length c.args.piece.now ≤ c.piece.done = omega arith in
    subst (λ (xs : List ℕ). Accounts role (bytes ++ xs) c.piece.items.items c.piece.reader) (take_all c.piece.done c.args.piece.now l) (c.piece.invariant.account role bytes fits a)
