-- A test that each plain entry passes, whatever stood before, each entry of a plain log passes.
use Rattle.std.proofs.Common.{◌≡◌, Bool, true, false, ◌&&◌, List, [], ◌∷◌, ◌++◌, refl, ◌∙◌}
use Rattle.std.proofs.lemmas.Bool.{and_parts}
use Rattle.std.proofs.lemmas.List.Folds.{list_all-append}
use Rattle.std.specs.List.{list_all}
use Rattle.ch_model.specs.declared.entry.Entry.{Entry}
use Rattle.ch_model.specs.Logs.{each, each_after, each_between, each_between_after, always, always_after}
use Rattle.ch_laws_plain_logs.specs.Plain.{is_plain, IsPlain}

pub both_true : (a b : Bool) → a ≡ true → b ≡ true → (a && b) ≡ true
both_true true b h k = k
both_true false b h k = absurd cc

pub all_more : (p : Entry → Bool) (before : List Entry) (x : Entry) → list_all p before ≡ true → p x ≡ true → list_all p (before ++ x ∷ []) ≡ true
all_more p before x b h = list_all-append p before (x ∷ []) ∙ both_true (list_all p before) (p x && true) b (both_true (p x) true h refl)

pub plain_more : (before : List Entry) (x : Entry) → IsPlain before → is_plain x ≡ true → IsPlain (before ++ x ∷ [])
plain_more before x b p = all_more is_plain before x b p

-- ---- each entry, after a plain log

each_from : (test : List Entry → Entry → Bool) → ((before : List Entry) (x : Entry) → IsPlain before → is_plain x ≡ true → test before x ≡ true) → (before log : List Entry) → IsPlain before → IsPlain log → each_after test before log ≡ true
each_from test one before [] b p = refl
each_from test one before (x ∷ log) b p =
    let parts = and_parts (is_plain x) (list_all is_plain log) p in
    both_true (test before x) (each_after test (before ++ x ∷ []) log) (one before x b parts.0) (each_from test one (before ++ x ∷ []) log (plain_more before x b parts.0) parts.1)

-- a test that each plain entry passes after a plain log, each entry of a plain log passes
pub each_after_plain : (test : List Entry → Entry → Bool) → ((before : List Entry) (x : Entry) → IsPlain before → is_plain x ≡ true → test before x ≡ true) → (log : List Entry) → IsPlain log → each test log ≡ true
each_after_plain test one log p = each_from test one [] log refl p

-- the same, whatever stood before
pub each_plain : (test : List Entry → Entry → Bool) → ((before : List Entry) (x : Entry) → is_plain x ≡ true → test before x ≡ true) → (log : List Entry) → IsPlain log → each test log ≡ true
each_plain test one log p = each_after_plain test (λ before x b q. one before x q) log p

-- ---- each entry, between two plain logs

between_from : (test : List Entry → Entry → List Entry → Bool) → ((before : List Entry) (x : Entry) (rest : List Entry) → IsPlain before → is_plain x ≡ true → IsPlain rest → test before x rest ≡ true) → (before log : List Entry) → IsPlain before → IsPlain log → each_between_after test before log ≡ true
between_from test one before [] b p = refl
between_from test one before (x ∷ log) b p =
    let parts = and_parts (is_plain x) (list_all is_plain log) p in
    both_true (test before x log) (each_between_after test (before ++ x ∷ []) log) (one before x log b parts.0 parts.1) (between_from test one (before ++ x ∷ []) log (plain_more before x b parts.0) parts.1)

-- a test that each plain entry passes between plain logs, each entry of a plain log passes
pub each_between_plains : (test : List Entry → Entry → List Entry → Bool) → ((before : List Entry) (x : Entry) (rest : List Entry) → IsPlain before → is_plain x ≡ true → IsPlain rest → test before x rest ≡ true) → (log : List Entry) → IsPlain log → each_between test log ≡ true
each_between_plains test one log p = between_from test one [] log refl p

-- the same, whatever stands before and after
pub each_between_plain : (test : List Entry → Entry → List Entry → Bool) → ((before : List Entry) (x : Entry) (rest : List Entry) → is_plain x ≡ true → test before x rest ≡ true) → (log : List Entry) → IsPlain log → each_between test log ≡ true
each_between_plain test one log p = each_between_plains test (λ before x rest b q r. one before x rest q) log p

-- ---- each moment

always_from : (test : List Entry → Bool) → ((moment : List Entry) → IsPlain moment → test moment ≡ true) → (before log : List Entry) → IsPlain before → IsPlain log → always_after test before log ≡ true
always_from test one before [] b p = one before b
always_from test one before (x ∷ log) b p =
    let parts = and_parts (is_plain x) (list_all is_plain log) p in
    both_true (test before) (always_after test (before ++ x ∷ []) log) (one before b) (always_from test one (before ++ x ∷ []) log (plain_more before x b parts.0) parts.1)

-- a test that each plain log passes, a plain log passes at each moment
pub always_plain : (test : List Entry → Bool) → ((moment : List Entry) → IsPlain moment → test moment ≡ true) → (log : List Entry) → IsPlain log → always test log ≡ true
always_plain test one log p = always_from test one [] log refl p
