-- What no plain entry passes or gives is in no plain log.
use Rattle.std.proofs.Common.{◌≡◌, ℕ, ◌+◌, Bool, true, false, cond, ◌||◌, List, [], ◌∷◌, ◌++◌, refl, sym, ap, ◌∙◌, append_assoc}
use Rattle.std.proofs.lemmas.List.{append-nil}
use Rattle.std.proofs.lemmas.Bool.{and_parts}
use Rattle.std.proofs.lemmas.List.Recursion.{is_count_by}
use Rattle.std.specs.List.{list_all, list_any, filter_map, cons_option, fold}
use Rattle.std.specs.Prelude.{count_by, Option, None}
use Rattle.ch_model.specs.declared.entry.Entry.{Entry}
use Rattle.ch_model.specs.Logs.{since, until, from_first, or_else, first_of, last_of, never, collected, collected_after, kept_with}
use Rattle.ch_laws_plain_logs.specs.Plain.{is_plain, IsPlain}

-- no plain entry passes the test
abbrev pub NonePasses : (Entry → Bool) → Type 0
NonePasses test = (x : Entry) → is_plain x ≡ true → test x ≡ false

-- no plain entry gives anything
abbrev pub NoneGives : {A : Type 0} → (Entry → Option A) → Type 0
NoneGives look = (x : Entry) → is_plain x ≡ true → look x ≡ None

pub none_any : (test : Entry → Bool) → NonePasses test → (log : List Entry) → IsPlain log → list_any test log ≡ false
none_any test fails [] p = refl
none_any test fails (x ∷ log) p =
    let parts = and_parts (is_plain x) (list_all is_plain log) p in
    ap (λ b. b || list_any test log) (fails x parts.0) ∙ none_any test fails log parts.1

abbrev counted : (Entry → Bool) → List Entry → ℕ
counted test [] = 0
counted test (x ∷ log) = cond (test x) (1 + counted test log) (counted test log)

pub none_counted : (test : Entry → Bool) → NonePasses test → (log : List Entry) → IsPlain log → count_by test log ≡ 0
none_counted test fails log p = sym (is_count_by (counted test) test refl (λ x xs. refl) log) ∙ zero_counted log p where
  zero_counted : (log : List Entry) → IsPlain log → counted test log ≡ 0
  zero_counted [] p = refl
  zero_counted (x ∷ log) p =
      let parts = and_parts (is_plain x) (list_all is_plain log) p in
      ap (λ b. cond b (1 + counted test log) (counted test log)) (fails x parts.0) ∙ zero_counted log parts.1

pub none_kept : {A : Type 0} (look : Entry → Option A) → NoneGives look → (log : List Entry) → IsPlain log → filter_map look log ≡ []
none_kept look fails [] p = refl
none_kept look fails (x ∷ log) p =
    let parts = and_parts (is_plain x) (list_all is_plain log) p in
    ap (λ o. cons_option o (filter_map look log)) (fails x parts.0) ∙ none_kept look fails log parts.1

pub none_first : {A : Type 0} (look : Entry → Option A) → NoneGives look → (log : List Entry) → IsPlain log → first_of look log ≡ None
none_first look fails [] p = refl
none_first look fails (x ∷ log) p =
    let parts = and_parts (is_plain x) (list_all is_plain log) p in
    ap (λ o. or_else o (first_of look log)) (fails x parts.0) ∙ none_first look fails log parts.1

pub none_last : {A : Type 0} (look : Entry → Option A) → NoneGives look → (log : List Entry) → IsPlain log → last_of look log ≡ None
none_last look fails [] p = refl
none_last look fails (x ∷ log) p =
    let parts = and_parts (is_plain x) (list_all is_plain log) p in
    ap (λ o. fold (λ found entry. or_else (look entry) found) (or_else o None) log) (fails x parts.0) ∙ none_last look fails log parts.1

-- ---- what the tests cut off

since_from : (test : Entry → Bool) → NonePasses test → (kept log : List Entry) → IsPlain log → fold (λ kept entry. cond (test entry) [] (kept ++ entry ∷ [])) kept log ≡ kept ++ log
since_from test fails kept [] p = sym (append-nil kept)
since_from test fails kept (x ∷ log) p =
    let parts = and_parts (is_plain x) (list_all is_plain log) p in
    ap (λ b. fold (λ kept entry. cond (test entry) [] (kept ++ entry ∷ [])) (cond b [] (kept ++ x ∷ [])) log) (fails x parts.0)
    ∙ since_from test fails (kept ++ x ∷ []) log parts.1 ∙ append_assoc kept (x ∷ []) log

-- all of the log stands after what isn't there
pub since_all : (test : Entry → Bool) → NonePasses test → (log : List Entry) → IsPlain log → since test log ≡ log
since_all test fails log p = since_from test fails [] log p

-- and before it
pub until_all : (test : Entry → Bool) → NonePasses test → (log : List Entry) → IsPlain log → until test log ≡ log
until_all test fails [] p = refl
until_all test fails (x ∷ log) p =
    let parts = and_parts (is_plain x) (list_all is_plain log) p in
    ap (λ b. cond b [] (x ∷ until test log)) (fails x parts.0) ∙ ap (λ l. x ∷ l) (until_all test fails log parts.1)

-- what stands from an entry on is as all of the log
pub all_from_first : (p test : Entry → Bool) (log : List Entry) → list_all p log ≡ true → list_all p (from_first test log) ≡ true
all_from_first p test [] all = refl
all_from_first p test (x ∷ log) all = by_test (test x) (all_from_first p test log (and_parts (p x) (list_all p log) all).1) where
  by_test : (b : Bool) → list_all p (from_first test log) ≡ true → list_all p (cond b (x ∷ log) (from_first test log)) ≡ true
  by_test true more = all
  by_test false more = more

never_from : {A : Type 0} (reset : Entry → Bool) → NonePasses reset → (look : List Entry → Entry → Option A) (before : List Entry) (kept : List A) (log : List Entry) → IsPlain log → collected_after reset look before kept log ≡ collected_after never look before kept log
never_from reset fails look before kept [] p = refl
never_from reset fails look before kept (x ∷ log) p =
    let parts = and_parts (is_plain x) (list_all is_plain log) p in
    ap (λ b. collected_after reset look (before ++ x ∷ []) (cond b [] (kept_with (look before x) kept)) log) (fails x parts.0)
    ∙ never_from reset fails look (before ++ x ∷ []) (kept_with (look before x) kept) log parts.1

-- what is collected begins anew nowhere
pub never_resets : {A : Type 0} (reset : Entry → Bool) → NonePasses reset → (look : List Entry → Entry → Option A) (log : List Entry) → IsPlain log → collected reset look log ≡ collected never look log
never_resets reset fails look log p = never_from reset fails look [] [] log p
