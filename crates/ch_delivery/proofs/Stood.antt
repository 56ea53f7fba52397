-- A message whose index is below the count of those said before the break stands in the log.
use Rattle.std.proofs.Common.{◌≡◌, ◌<◌, ℕ, nat_eq, Bool, true, false, not, ◌&&◌, List, [], ◌∷◌, refl, ap, sym, ◌∙◌, arith}
use Rattle.std.proofs.lemmas.Bool.Decides.{nat_tests}
use Rattle.ch_delivery.specs.Passage.{Entry, Said, Again, Got, Rose, Broke, Came, Fell, Stood}
use Rattle.ch_delivery.specs.Log.{plus, saids, has_broken, meant, same, Lawful, WasSaid, AllSaid}
use Rattle.ch_delivery.proofs.Counts.{unmeant}
use Rattle.ch_delivery.proofs.Links.{by_order}

none_of : (n : ℕ) → not (nat_eq n 0) ≡ false → n ≡ 0
none_of n h = grind (arith, nat_tests)

-- where an epoch hasn't broken, all its messages count
all_meant : (c e : ℕ) (l : List Entry) → has_broken c e l ≡ false → meant c e l ≡ saids c e l
all_meant c e [] h = refl
all_meant c e (Broke ∷ l) h = unmeant c e l (none_of (saids c e l) h) ∙ sym (none_of (saids c e l) h)
all_meant c e (Got d f k r ∷ l) h = all_meant c e l h
all_meant c e (Again d f ∷ l) h = all_meant c e l h
all_meant c e (Stood f ∷ l) h = all_meant c e l h
all_meant c e (Rose i ∷ l) h = all_meant c e l h
all_meant c e (Came i ∷ l) h = all_meant c e l h
all_meant c e (Fell ∷ l) h = all_meant c e l h
all_meant c e (Said d f k ∷ l) h = ap (λ (b : Bool). plus (same c e d f && not b) (meant c e l)) h ∙ hits (same c e d f) ∙ ap (plus (same c e d f)) (all_meant c e l h) where
  hits : (b : Bool) → plus (b && not false) (meant c e l) ≡ plus b (meant c e l)
  hits true = refl
  hits false = refl

push : (c e k : ℕ) (x : Entry) (l : List Entry) → WasSaid c e k l → WasSaid c e k (x ∷ l)
push c e k x l s = record { later = x ∷ s.later; earlier = s.earlier; stands = ap (λ (v : List Entry). x ∷ v) s.stands; sound = s.sound }

said_here : (c e d f k n : ℕ) (l : List Entry) → (b : Bool) → (b ≡ true → (c ≡ d) × (e ≡ f)) → (a : Bool) → has_broken c e l ≡ a → n ≡ saids d f l → (k < meant c e l → WasSaid c e k l) → k < plus (b && not a) (meant c e l) → WasSaid c e k (Said d f n ∷ l)
said_here c e d f k n l false same a is num rest h = push c e k (Said d f n) l (rest h)
said_here c e d f k n l true same true is num rest h = push c e k (Said d f n) l (rest h)
said_here c e d f k n l true same false is num rest h = by_order {P = WasSaid c e k (Said d f n ∷ l)} (meant c e l) k
    (λ g. record { later = []; earlier = l; stands = ap (λ (z : ℕ). Said z f n ∷ l) (sym (same refl).0) ∙ ap (λ (z : ℕ). Said c z n ∷ l) (sym (same refl).1) ∙ ap (λ (z : ℕ). Said c e z ∷ l) (numbered (omega arith)); sound = is })
    (λ g. push c e k (Said d f n) l (rest g)) where
      numbered : k ≡ meant c e l → n ≡ k
      numbered g = num ∙ ap (λ (z : ℕ). saids z f l) (sym (same refl).0) ∙ ap (λ (z : ℕ). saids c z l) (sym (same refl).1) ∙ sym (all_meant c e l is) ∙ sym g

equal_pair : (c e d f : ℕ) → (nat_eq c d && nat_eq e f) ≡ true → (c ≡ d) × (e ≡ f)
equal_pair c e d f h = (one h, two h) where
  one : (nat_eq c d && nat_eq e f) ≡ true → c ≡ d
  one h = grind (arith, nat_tests)

  two : (nat_eq c d && nat_eq e f) ≡ true → e ≡ f
  two h = grind (arith, nat_tests)

stands : (named : ℕ → Bool) (c e k : ℕ) (l : List Entry) → Lawful named l → k < meant c e l → WasSaid c e k l
stands named c e k [] g h = absurd (omega arith)
stands named c e k (Broke ∷ l) g h = push c e k Broke l (stands named c e k l g h)
stands named c e k (Got d f n r ∷ l) g h = push c e k (Got d f n r) l (stands named c e k l g.1 h)
stands named c e k (Again d f ∷ l) g h = push c e k (Again d f) l (stands named c e k l g.1 h)
stands named c e k (Stood f ∷ l) g h = push c e k (Stood f) l (stands named c e k l g h)
stands named c e k (Rose i ∷ l) g h = push c e k (Rose i) l (stands named c e k l g h)
stands named c e k (Came i ∷ l) g h = push c e k (Came i) l (stands named c e k l g h)
stands named c e k (Fell ∷ l) g h = push c e k (Fell) l (stands named c e k l g h)
stands named c e k (Said d f n ∷ l) g h = said_here c e d f k n l (same c e d f) (λ x. equal_pair c e d f x) (has_broken c e l) refl g.1 (λ x. stands named c e k l g.2 x) h

pub all_said : (named : ℕ → Bool) (l : List Entry) → Lawful named l → AllSaid l
all_said named [] g = tt
all_said named (Broke ∷ l) g = all_said named l g
all_said named (Again d f ∷ l) g = all_said named l g.1
all_said named (Stood f ∷ l) g = all_said named l g
all_said named (Rose i ∷ l) g = all_said named l g
all_said named (Came i ∷ l) g = all_said named l g
all_said named (Fell ∷ l) g = all_said named l g
all_said named (Said d f n ∷ l) g = all_said named l g.2
all_said named (Got d f n r ∷ l) g = (stands named d f n l g.1 g.0.said, all_said named l g.1)
