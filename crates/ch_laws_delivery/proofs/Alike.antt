-- Passages that agree in all their parts are one.
use mathlib.Core.Path.{fun_ext}
use Rattle.std.specs.Prelude.{◌≡◌, ℕ, Bool, List, Option}
use Rattle.std.proofs.Common.{ap, ◌∙◌}
use Rattle.ch_delivery.specs.Passage.{Mark, Item, Binding, Entry, Passage}

-- what the sending node keeps may differ in form
pub sending_alike : (p q : Passage) → p.named ≡ q.named → ((c : ℕ) → p.mark c ≡ q.mark c) → ((c : ℕ) → p.epoch c ≡ q.epoch c) → ((c : ℕ) → p.index c ≡ q.index c) → p.waits ≡ q.waits → p.up ≡ q.up
    → p.on ≡ q.on → p.flight ≡ q.flight → p.cut ≡ q.cut → p.at ≡ q.at → ((c e : ℕ) → p.bound c e ≡ q.bound c e) → ((c : ℕ) → p.stands c ≡ q.stands c) → p.log ≡ q.log → p ≡ q
sending_alike p q n m e i w u o f k a b s l =
    ap (λ (z : ℕ → Bool). record p { named = z }) n
    ∙ ap (λ (z : ℕ → Mark). record p { named = q.named; mark = z }) (fun_ext m)
    ∙ ap (λ (z : ℕ → ℕ). record p { named = q.named; mark = q.mark; epoch = z }) (fun_ext e)
    ∙ ap (λ (z : ℕ → ℕ). record p { named = q.named; mark = q.mark; epoch = q.epoch; index = z }) (fun_ext i)
    ∙ ap (λ (z : List Item). record p { named = q.named; mark = q.mark; epoch = q.epoch; index = q.index; waits = z }) w
    ∙ ap (λ (z : Bool). record p { named = q.named; mark = q.mark; epoch = q.epoch; index = q.index; waits = q.waits; up = z }) u
    ∙ ap (λ (z : ℕ). record q { on = z; flight = p.flight; cut = p.cut; at = p.at; bound = p.bound; stands = p.stands; log = p.log }) o
    ∙ ap (λ (z : ℕ → List Item). record q { flight = z; cut = p.cut; at = p.at; bound = p.bound; stands = p.stands; log = p.log }) f
    ∙ ap (λ (z : ℕ → Bool). record q { cut = z; at = p.at; bound = p.bound; stands = p.stands; log = p.log }) k
    ∙ ap (λ (z : ℕ). record q { at = z; bound = p.bound; stands = p.stands; log = p.log }) a
    ∙ ap (λ (z : ℕ → ℕ → Binding). record q { bound = z; stands = p.stands; log = p.log }) (fun_ext (λ c. fun_ext (b c)))
    ∙ ap (λ (z : ℕ → Option ℕ). record q { stands = z; log = p.log }) (fun_ext s)
    ∙ ap (λ (z : List Entry). record q { log = z }) l
