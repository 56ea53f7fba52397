use Rattle.std.proofs.Common.{◌≡◌, true, List, ℕ, sym, subst, arith}
use Rattle.ch_ident.specs.Names.{is_name}
use Rattle.ch_ident.proofs.Fields.{tested_name}
use Rattle.ch_ident.proofs.field.read_name.Goals as goal

pub invariant_of-result : goal.invariant_of-result
invariant_of-result c =
    let is : is_name c.in_ok-name.name.now ≡ true = tested_name c.in_ok-len.len.now c.in_ok-len.rest.now c.in_ok-name.name.now c.in_ok-name.rest.now (omega arith) (omega arith) c.in_ok-name.ensures in
    subst (λ (bytes : List ℕ). is_name bytes ≡ true) (sym c.in_ok-bytes.ensures) is
