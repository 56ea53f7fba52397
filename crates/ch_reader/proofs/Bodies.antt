-- How a body goes on and ends.
use Rattle.std.proofs.Common.{◌≡◌, ℕ, ◌+◌, ◌-◌, ◌≤◌, List, ◌++◌, length, take, Result, Ok, Err, refl, sym, ap, ◌∙◌, arith}
use Rattle.std.proofs.Math.Seq.{take-append-add}
use Rattle.std.proofs.lemmas.Bool.{le-ltb}
use Rattle.std.proofs.lemmas.List.{length-append}
use Rattle.ch_base.specs.AddressValues.{AddressValue}
use Rattle.ch_base.specs.Addresses.{read_address}
use Rattle.ch_base.specs.declared.address.AddressError.{AddressError}
use Rattle.ch_reader.specs.declared.item.Front.{Front}
use Rattle.ch_reader.specs.declared.item.Front.TheVariants.{Unfinished}
use Rattle.ch_reader.specs.declared.glance.Opened.{Opened}
use Rattle.ch_reader.specs.declared.glance.Opened.TheVariants as opened
use Rattle.ch_reader.specs.declared.glance.Glance.TheVariants.{Body}
use Rattle.ch_reader.specs.Reading.{request_front, body_front, rest_reading}
use Rattle.ch_reader.specs.Keeping.{Continues}

-- what stands at the front, and how many bytes are of it
abbrev pub at : Front → ℕ → Front × ℕ
at front n = (front, n)

request_ends : (target : ℕ) (read : Result AddressValue AddressError) → request_front target read ≡ Unfinished → ⊥
request_ends target (Ok a) e = cc
request_ends target (Err x) e = cc

-- two pairs of the same
pub pair : {f g : Front} {m n : ℕ} → f ≡ g → m ≡ n → at f m ≡ at g n
pair {f} {g} {m} {n} p q = ap (λ (h : Front). at h m) p ∙ ap (at g) q

-- a whole body ends something
pub body_ends : (o : Opened) (body : List ℕ) → body_front o body ≡ Unfinished → ⊥
body_ends (opened.Request target) body e = request_ends target (read_address body) e
body_ends (opened.Data id) body e = cc

-- what is read where the count is reached
pub body_whole : (o : Opened) (count : ℕ) (rest : List ℕ) → count ≤ length rest → rest_reading (Body o count) rest ≡ (body_front o (take count rest), count)
body_whole o count rest le = rw (le-ltb (length rest) count le) refl

-- a body that its last bytes end
pub ends_body : (o : Opened) (count : ℕ) (body was rest now : List ℕ) (front : Front) (had : ℕ) → had ≡ length body → was ≡ body → length body ≤ count → count - had ≤ length rest
    → front ≡ body_front o (was ++ take (count - had) rest) → Continues (Body o count) body rest front (count - had) now
ends_body o count body was rest now front had len same fits enough e =
    let sum : length body + (count - had) ≡ count = omega arith in
    let text : take count (body ++ rest) ≡ was ++ take (count - had) rest =
    ap (λ (k : ℕ). take k (body ++ rest)) (sym sum) ∙ take-append-add body rest (count - had) ∙ ap (λ (xs : List ℕ). xs ++ take (count - had) rest) (sym same) in
    let whole = body_whole o count (body ++ rest) (omega (arith, length-append body rest)) in
    let found : rest_reading (Body o count) (body ++ rest) ≡ (front, length body + (count - had)) = whole ∙ pair (ap (body_front o) text ∙ sym e) (sym sum) in
    (sym found, λ (u : front ≡ Unfinished). absurd (body_ends o (was ++ take (count - had) rest) (sym e ∙ u)))
