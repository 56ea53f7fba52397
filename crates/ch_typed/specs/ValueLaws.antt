-- What was spelled is read again, and what is read was spelled so.
use Rattle.std.proofs.Common.{◌≡◌, ℕ, ◌^◌, ◌<◌, Bool, true, false, cond, eqb, List, [], ◌++◌, length, take, Option, Some, None, Result, Ok, Err, refl, sym, ap, subst, ◌∙◌, arith}
use Rattle.std.specs.Int.{w32, w64, from_be_bytes, to_be_bytes}
use Rattle.std.proofs.lemmas.Bool.{eqb-true}
use Rattle.std.proofs.lemmas.List.{append-nil, take_all, nil_from_length}
use Rattle.std.proofs.lemmas.Nat.{be_bytes_4, be_bytes_8, from_be_bytes-to_be_bytes_4, from_be_bytes-to_be_bytes_8}
use Rattle.ch_ident.specs.declared.error.IdentError.{IdentError}
use Rattle.ch_ident.specs.declared.error.IdentError.TheVariants as ident
use Rattle.ch_ident.specs.declared.identifier.ProcessId.{ProcessId}
use Rattle.ch_ident.specs.declared.identifier.SendPortId.{SendPortId}
use Rattle.ch_ident.specs.declared.identifier.Identifier.{Identifier}
use Rattle.ch_ident.specs.declared.identifier.Identifier.TheVariants as ends
use Rattle.ch_ident.specs.Outcome.{Fails as IdentFails, ◌>>=◌}
use Rattle.ch_ident.specs.Fits.{IsIdentifier, IsProcess, IsPort}
use Rattle.ch_ident.specs.Spelling.{identifier}
use Rattle.ch_ident.specs.Reading.{identifier_at, identifier_of, whole}
use Rattle.ch_ident.proofs.Identifiers.{identifier_reads}
use Rattle.ch_typed.specs.Outcomes.{Fails, body_of}
use Rattle.ch_typed.specs.Reading.{AreBytes}
use Rattle.ch_typed.specs.Values.{word_read, long_read, as_process, as_port, picked, process_spelling, process_read, port_spelling, port_read, of_reading}

-- a number that was read had its length
with_length : {A : Type 0} (b : Bool) (x y : A) → cond b (Some x) None ≡ Some y → (b ≡ true) × (x ≡ y)
with_length true x y e = (refl, cc)
with_length false x y e = absurd cc

pub word_again : (n : ℕ) → n < 2 ^ 32 → word_read (to_be_bytes w32 n) ≡ Some n
unfolding word_read
word_again n small =
    let some : ℕ → Option ℕ = λ k. Some k in
    ap some (from_be_bytes-to_be_bytes_4 n small)

pub word_exact : (bytes : List ℕ) (n : ℕ) → AreBytes bytes → word_read bytes ≡ Some n → (n < 2 ^ 32) × (to_be_bytes w32 n ≡ bytes)
unfolding word_read
word_exact bytes n are e =
    let found = with_length (eqb (length bytes) 4) (from_be_bytes w32 (take 4 bytes)) n e in
    let len : length bytes ≡ 4 = eqb-true _ _ found.0 in
    let all : take 4 bytes ≡ bytes = take_all 4 bytes (omega (arith, len)) in
    let value : n ≡ from_be_bytes w32 bytes = sym found.1 ∙ ap (from_be_bytes w32) all in
    (omega (arith, value, are 0, are 1, are 2, are 3), be_bytes_4 bytes n len are value)

pub long_again : (n : ℕ) → n < 2 ^ 64 → long_read (to_be_bytes w64 n) ≡ Some n
unfolding long_read
long_again n small =
    let some : ℕ → Option ℕ = λ k. Some k in
    ap some (from_be_bytes-to_be_bytes_8 n small)

pub long_exact : (bytes : List ℕ) (n : ℕ) → AreBytes bytes → long_read bytes ≡ Some n → (n < 2 ^ 64) × (to_be_bytes w64 n ≡ bytes)
unfolding long_read
long_exact bytes n are e =
    let found = with_length (eqb (length bytes) 8) (from_be_bytes w64 (take 8 bytes)) n e in
    let len : length bytes ≡ 8 = eqb-true _ _ found.0 in
    let all : take 8 bytes ≡ bytes = take_all 8 bytes (omega (arith, len)) in
    let value : n ≡ from_be_bytes w64 bytes = sym found.1 ∙ ap (from_be_bytes w64) all in
    (omega (arith, value, are 0, are 1, are 2, are 3, are 4, are 5, are 6, are 7), be_bytes_8 bytes n len are value)

-- an identifier that was spelled is read again
identifier_again : (i : Identifier) → IsIdentifier i → identifier_of (identifier i) ≡ Ok i
unfolding identifier_of whole
identifier_again i is =
    let again : identifier_at (identifier i) ≡ Ok (i, []) = subst (λ (bytes : List ℕ). identifier_at bytes ≡ Ok (i, [])) (append-nil (identifier i)) (identifier_reads.again i [] is) in
    rw again refl

-- an identifier that was read was spelled so
identifier_exact : (bytes : List ℕ) (i : Identifier) → AreBytes bytes → identifier_of bytes ≡ Ok i → IsIdentifier i × (identifier i ≡ bytes)
unfolding identifier_of whole
identifier_exact bytes i are e = ended (identifier_at bytes) refl e
  where
    closed : (x : Identifier × List ℕ) (b : Bool) → identifier_at bytes ≡ Ok x → eqb (length x.1) 0 ≡ b → cond b (Ok x.0) (Err ident.Extra) ≡ Ok i → IsIdentifier i × (identifier i ≡ bytes)
    closed x true read empty e =
        let t = identifier_reads.takes bytes x are read in
        let none : x.1 ≡ [] = nil_from_length x.1 (eqb-true _ _ empty) in
        let same : x.0 ≡ i = cc in
        let parts : bytes ≡ identifier x.0 = t.0.parts ∙ ap (λ (rest : List ℕ). identifier x.0 ++ rest) none ∙ append-nil (identifier x.0) in
        subst (λ (j : Identifier). IsIdentifier j × (identifier j ≡ bytes)) same (t.1, sym parts)
    closed x false read empty e = absurd cc

    ended : (r : Result (Identifier × List ℕ) IdentError) → identifier_at bytes ≡ r → (r >>= whole) ≡ Ok i → IsIdentifier i × (identifier i ≡ bytes)
    ended (Ok x) read e = closed x (eqb (length x.1) 0) read refl e
    ended (Err fault) read e = absurd cc

pub process_again : (process : ProcessId) → IsProcess process → process_read (process_spelling process) ≡ Some process
process_again process is = rw (identifier_again (ends.Process process) is) refl

pub port_again : (port : SendPortId) → IsPort port → port_read (port_spelling port) ≡ Some port
port_again port is = rw (identifier_again (ends.Port port) is) refl

pub process_exact : (bytes : List ℕ) (process : ProcessId) → AreBytes bytes → process_read bytes ≡ Some process → IsProcess process × (process_spelling process ≡ bytes)
process_exact bytes process are e = of_identifier (identifier_of bytes) refl e
  where
    of_identifier : (r : Result Identifier IdentError) → identifier_of bytes ≡ r → picked as_process r ≡ Some process → IsProcess process × (process_spelling process ≡ bytes)
    of_identifier (Ok (ends.Node node)) read e = absurd cc
    of_identifier (Ok (ends.Process own)) read e =
        let same : own ≡ process = cc in
        subst (λ (p : ProcessId). IsProcess p × (process_spelling p ≡ bytes)) same (identifier_exact bytes (ends.Process own) are read)
    of_identifier (Ok (ends.Port port)) read e = absurd cc
    of_identifier (Err fault) read e = absurd cc

pub port_exact : (bytes : List ℕ) (port : SendPortId) → AreBytes bytes → port_read bytes ≡ Some port → IsPort port × (port_spelling port ≡ bytes)
port_exact bytes port are e = of_identifier (identifier_of bytes) refl e
  where
    of_identifier : (r : Result Identifier IdentError) → identifier_of bytes ≡ r → picked as_port r ≡ Some port → IsPort port × (port_spelling port ≡ bytes)
    of_identifier (Ok (ends.Node node)) read e = absurd cc
    of_identifier (Ok (ends.Process process)) read e = absurd cc
    of_identifier (Ok (ends.Port own)) read e =
        let same : own ≡ port = cc in
        subst (λ (p : SendPortId). IsPort p × (port_spelling p ≡ bytes)) same (identifier_exact bytes (ends.Port own) are read)
    of_identifier (Err fault) read e = absurd cc

-- where no identifier was read, no value was
pub refused : {A : Type 0} (pick : Identifier → Option A) (e : IdentError) (given : Result Identifier IdentError) → IdentFails e given → Fails (of_reading e) (body_of (picked pick given))
refused pick ident.OutOfMemory given fails = tt
refused pick ident.Short given fails = rw fails refl
refused pick ident.BadTag given fails = rw fails refl
refused pick ident.BadText given fails = rw fails refl
refused pick ident.Extra given fails = rw fails refl
