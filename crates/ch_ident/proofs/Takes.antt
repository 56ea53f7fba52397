-- What a reader takes from the front of its bytes, and how readers in a row take.
use Rattle.std.proofs.Common.{◌≡◌, ℕ, suc, ◌+◌, ◌<◌, Bool, true, false, cond, List, ◌∷◌, ◌++◌, get_or, take, drop, Result, Ok, Err, refl, sym, ap, subst, ◌∙◌, append_assoc, arith, inl, inr}
use Rattle.std.proofs.lemmas.Bool.{cases_lt}
use Rattle.std.proofs.lemmas.List.{length-take, get_or-drop, get_or-take, get_or_past}
use Rattle.ch_ident.specs.declared.error.IdentError.{IdentError}
use Rattle.ch_ident.specs.Outcome.{◌>>=◌}

-- each is a byte
abbrev pub IsBytes : List ℕ → Type 0
IsBytes bytes = (i : ℕ) → get_or bytes i 0 < 256

pub IsBytes-drop : (n : ℕ) (bytes : List ℕ) → IsBytes bytes → IsBytes (drop n bytes)
IsBytes-drop n bytes h i = rw get_or-drop (h (n + i))

pub IsBytes-take : (n : ℕ) (bytes : List ℕ) → IsBytes bytes → IsBytes (take n bytes)
IsBytes-take n bytes h i =
    elim (cases_lt i n) [
      | inl lt ↦ rw (get_or-take n bytes i 0 lt) (h i)
      | inr le ↦ rw (get_or_past (take n bytes) i 0 (omega (arith, length-take n bytes))) (omega arith)
    ]

pub IsBytes-rest : (b : ℕ) (bytes : List ℕ) → IsBytes (b ∷ bytes) → IsBytes bytes
IsBytes-rest b bytes h i = h (suc i)

-- the value of a step that did not fail
pub bind_ok : {A B : Type 0} (r : Result A IdentError) (f : A → Result B IdentError) (y : B) → (r >>= f) ≡ Ok y → (x : A) × (r ≡ Ok x) × (f x ≡ Ok y)
bind_ok (Ok x) f y e = (x, refl, e)
bind_ok (Err d) f y e = absurd cc

-- a test that did not refuse
pub passed : {A : Type 0} (b : Bool) (d : IdentError) (r : Result A IdentError) (y : A) → cond b r (Err d) ≡ Ok y → (b ≡ true) × (r ≡ Ok y)
passed true d r y e = (refl, e)
passed false d r y e = absurd cc

pub not_refused : {A : Type 0} (b : Bool) (d : IdentError) (r : Result A IdentError) (y : A) → cond b (Err d) r ≡ Ok y → (b ≡ false) × (r ≡ Ok y)
not_refused true d r y e = absurd cc
not_refused false d r y e = (refl, e)

abbrev done : {A : Type 0} → A → Result A IdentError
done x = Ok x

pub ok_is : {A : Type 0} (x y : A) → done x ≡ done y → x ≡ y
ok_is x y e = cc

-- these bytes are the text and then the rest
pub record Takes (bytes text rest : List ℕ) : Type 0 where
  pub parts : bytes ≡ text ++ rest
  pub rest_fits : IsBytes rest

pub Takes-then : (a x b y c : List ℕ) → Takes a x b → Takes b y c → Takes a (x ++ y) c
Takes-then a x b y c p q = record { parts = p.parts ∙ ap (λ (t : List ℕ). x ++ t) q.parts ∙ sym (append_assoc x y c); rest_fits = q.rest_fits }

pub Takes-after : (tag : ℕ) (a x b : List ℕ) → Takes a x b → Takes (tag ∷ a) (tag ∷ x) b
Takes-after tag a x b p = record { parts = ap (λ (t : List ℕ). tag ∷ t) p.parts; rest_fits = p.rest_fits }

-- a reader of one field: what it takes is the field's spelling, and it takes each spelling
pub record Reads {A : Type 0} (read : List ℕ → Result (A × List ℕ) IdentError) (spell : A → List ℕ) (Is : A → Type 0) : Type 0 where
  pub takes : (bytes : List ℕ) (x : A × List ℕ) → IsBytes bytes → read bytes ≡ Ok x → Takes bytes (spell x.0) x.1 × Is x.0
  pub again : (a : A) (rest : List ℕ) → Is a → read (spell a ++ rest) ≡ Ok (a, rest)

-- one field, and what is made of it
abbrev pub read1 : {A C : Type 0} → (List ℕ → Result (A × List ℕ) IdentError) → (A → C) → List ℕ → Result (C × List ℕ) IdentError
read1 read make bytes = read bytes >>= λ a. Ok (make a.0, a.1)

-- two fields in a row, and what is made of them
abbrev pub read2 : {A B C : Type 0} → (List ℕ → Result (A × List ℕ) IdentError) → (List ℕ → Result (B × List ℕ) IdentError) → (A → B → C) → List ℕ → Result (C × List ℕ) IdentError
read2 read next make bytes = read bytes >>= λ a. next a.1 >>= λ b. Ok (make a.0 b.0, b.1)

-- three fields in a row, and what is made of them
abbrev pub read3 : {A B D C : Type 0} → (List ℕ → Result (A × List ℕ) IdentError) → (List ℕ → Result (B × List ℕ) IdentError) → (List ℕ → Result (D × List ℕ) IdentError) → (A → B → D → C) → List ℕ → Result (C × List ℕ) IdentError
read3 read next last make bytes = read bytes >>= λ a. next a.1 >>= λ b. last b.1 >>= λ d. Ok (make a.0 b.0 d.0, d.1)

regroup : (a b c : List ℕ) → a ++ (b ++ c) ≡ a ++ b ++ c
regroup a b c = sym (append_assoc a b c)

-- what one field gave
pub record Took1 {A C : Type 0} (spell : A → List ℕ) (Is : A → Type 0) (make : A → C) (bytes : List ℕ) (x : C × List ℕ) : Type 0 where
  pub first : A
  pub made : make first ≡ x.0
  pub takes : Takes bytes (spell first) x.1
  pub is : Is first

pub takes1 : {A C : Type 0} (read : List ℕ → Result (A × List ℕ) IdentError) (spell : A → List ℕ) (Is : A → Type 0) → Reads read spell Is → (make : A → C) (bytes : List ℕ) (x : C × List ℕ)
    → IsBytes bytes → read1 read make bytes ≡ Ok x → Took1 spell Is make bytes x
takes1 read spell Is reads make bytes x fits e =
    let a = bind_ok (read bytes) (λ a. Ok (make a.0, a.1)) x e in
    let t = reads.takes bytes a.0 fits a.1 in
    let is : (make a.0.0, a.0.1) ≡ x = ok_is (make a.0.0, a.0.1) x a.2 in
    record { first = a.0.0; made = ap (λ p. p.0) is; takes = subst (λ (r : List ℕ). Takes bytes (spell a.0.0) r) (ap (λ p. p.1) is) t.0; is = t.1 }

-- what two fields gave
pub record Took2 {A B C : Type 0} (spell : A → List ℕ) (Is : A → Type 0) (spell2 : B → List ℕ) (Is2 : B → Type 0) (make : A → B → C) (bytes : List ℕ) (x : C × List ℕ) : Type 0 where
  pub first : A
  pub second : B
  pub made : make first second ≡ x.0
  pub takes : Takes bytes (spell first ++ spell2 second) x.1
  pub is : Is first
  pub is2 : Is2 second

pub takes2 : {A B C : Type 0} (read : List ℕ → Result (A × List ℕ) IdentError) (spell : A → List ℕ) (Is : A → Type 0) → Reads read spell Is
    → (next : List ℕ → Result (B × List ℕ) IdentError) (spell2 : B → List ℕ) (Is2 : B → Type 0) → Reads next spell2 Is2 → (make : A → B → C) (bytes : List ℕ) (x : C × List ℕ)
    → IsBytes bytes → read2 read next make bytes ≡ Ok x → Took2 spell Is spell2 Is2 make bytes x
takes2 read spell Is reads next spell2 Is2 reads2 make bytes x fits e =
    let a = bind_ok (read bytes) (λ a. read1 next (make a.0) a.1) x e in
    let t = reads.takes bytes a.0 fits a.1 in
    let u = takes1 next spell2 Is2 reads2 (make a.0.0) a.0.1 x t.0.rest_fits a.2 in
    record { first = a.0.0; second = u.first; made = u.made; takes = Takes-then bytes (spell a.0.0) a.0.1 (spell2 u.first) x.1 t.0 u.takes; is = t.1; is2 = u.is }

-- what three fields gave
pub record Took3 {A B D C : Type 0} (spell : A → List ℕ) (Is : A → Type 0) (spell2 : B → List ℕ) (Is2 : B → Type 0) (spell3 : D → List ℕ) (Is3 : D → Type 0) (make : A → B → D → C) (bytes : List ℕ) (x : C × List ℕ) : Type 0 where
  pub first : A
  pub second : B
  pub third : D
  pub made : make first second third ≡ x.0
  pub takes : Takes bytes (spell first ++ spell2 second ++ spell3 third) x.1
  pub is : Is first
  pub is2 : Is2 second
  pub is3 : Is3 third

pub takes3 : {A B D C : Type 0} (read : List ℕ → Result (A × List ℕ) IdentError) (spell : A → List ℕ) (Is : A → Type 0) → Reads read spell Is
    → (next : List ℕ → Result (B × List ℕ) IdentError) (spell2 : B → List ℕ) (Is2 : B → Type 0) → Reads next spell2 Is2
    → (last : List ℕ → Result (D × List ℕ) IdentError) (spell3 : D → List ℕ) (Is3 : D → Type 0) → Reads last spell3 Is3 → (make : A → B → D → C) (bytes : List ℕ) (x : C × List ℕ)
    → IsBytes bytes → read3 read next last make bytes ≡ Ok x → Took3 spell Is spell2 Is2 spell3 Is3 make bytes x
takes3 read spell Is reads next spell2 Is2 reads2 last spell3 Is3 reads3 make bytes x fits e =
    let a = bind_ok (read bytes) (λ a. read2 next last (make a.0) a.1) x e in
    let t = reads.takes bytes a.0 fits a.1 in
    let u = takes2 next spell2 Is2 reads2 last spell3 Is3 reads3 (make a.0.0) a.0.1 x t.0.rest_fits a.2 in
    record {
      first = a.0.0;
      second = u.first;
      third = u.second;
      made = u.made;
      takes = subst (λ (s : List ℕ). Takes bytes s x.1) (regroup (spell a.0.0) (spell2 u.first) (spell3 u.second)) (Takes-then bytes (spell a.0.0) a.0.1 (spell2 u.first ++ spell3 u.second) x.1 t.0 u.takes);
      is = t.1;
      is2 = u.is;
      is3 = u.is2;
    }

-- one spelling is read
pub again1 : {A C : Type 0} (read : List ℕ → Result (A × List ℕ) IdentError) (spell : A → List ℕ) (Is : A → Type 0) → Reads read spell Is → (make : A → C) (a : A) (rest : List ℕ)
    → Is a → read1 read make (spell a ++ rest) ≡ Ok (make a, rest)
again1 read spell Is reads make a rest is = rw (reads.again a rest is) refl

-- two spellings in a row are read
pub again2 : {A B C : Type 0} (read : List ℕ → Result (A × List ℕ) IdentError) (spell : A → List ℕ) (Is : A → Type 0) → Reads read spell Is
    → (next : List ℕ → Result (B × List ℕ) IdentError) (spell2 : B → List ℕ) (Is2 : B → Type 0) → Reads next spell2 Is2 → (make : A → B → C) (a : A) (b : B) (rest : List ℕ)
    → Is a → Is2 b → read2 read next make (spell a ++ spell2 b ++ rest) ≡ Ok (make a b, rest)
again2 read spell Is reads next spell2 Is2 reads2 make a b rest is is2 = rw (append_assoc (spell a) (spell2 b) rest, reads.again a (spell2 b ++ rest) is, reads2.again b rest is2) refl

-- three spellings in a row are read
pub again3 : {A B D C : Type 0} (read : List ℕ → Result (A × List ℕ) IdentError) (spell : A → List ℕ) (Is : A → Type 0) → Reads read spell Is
    → (next : List ℕ → Result (B × List ℕ) IdentError) (spell2 : B → List ℕ) (Is2 : B → Type 0) → Reads next spell2 Is2
    → (last : List ℕ → Result (D × List ℕ) IdentError) (spell3 : D → List ℕ) (Is3 : D → Type 0) → Reads last spell3 Is3 → (make : A → B → D → C) (a : A) (b : B) (d : D) (rest : List ℕ)
    → Is a → Is2 b → Is3 d → read3 read next last make (spell a ++ spell2 b ++ spell3 d ++ rest) ≡ Ok (make a b d, rest)
again3 read spell Is reads next spell2 Is2 reads2 last spell3 Is3 reads3 make a b d rest is is2 is3 =
    rw (append_assoc (spell a ++ spell2 b) (spell3 d) rest, append_assoc (spell a) (spell2 b) (spell3 d ++ rest), reads.again a (spell2 b ++ (spell3 d ++ rest)) is, reads2.again b (spell3 d ++ rest) is2, reads3.again d rest is3) refl
