-- What each payload carries, and all that was written: the first of the sayings, in order.
use Rattle.std.proofs.Common.{◌≡◌, ◌≤◌, ◌<◌, ℕ, zero, suc, Bool, true, false, List, [], ◌∷◌, ◌++◌, length, take, refl, sym, ap, ◌∙◌, arith}
use Rattle.std.specs.Prelude.{slice_get, Option, Some, None}
use Rattle.ch_model.specs.declared.entry.Entry.{Entry}
use Rattle.ch_model.specs.declared.entry.Entry.TheVariants as entries
use Rattle.ch_model.specs.declared.line.Line.{Line}
use Rattle.ch_model.specs.AccountsFrames.{Saying, next_carried, carried, written_sayings}
use Rattle.ch_model.specs.AccountsItems.{first_payload}
use Rattle.ch_model.specs.Logs.{collected, kept_with, never}
use Rattle.ch_model.specs.Same.{is_end_of}
use Rattle.ch_laws_plain_logs.proofs.Simply as simply
use Rattle.ch_laws_peers.specs.Words.{carried_after, sayings}
use Rattle.ch_laws_messages.specs.CarriedCounts.{carried_in, carried_next}
use Rattle.ch_laws_messages.specs.CarriedInTime.{datas_to}
use Rattle.ch_laws_messages.proofs.CarriedLogs.{by_last, collected_more, collected_while, data_by, datas_more, take_next}
use Rattle.ch_laws_messages.proofs.CarriedCounting.{Data, carried_last}
use Rattle.ch_laws_messages.proofs.CarriedSure.{Sure, sure_before}
use Rattle.ch_laws_messages.proofs.CarriedUsers.{user_first, user_of, user_by, data_off, users_count}

-- what a payload behind these carries, if it is there
abbrev pub carried_of : List Saying → List Data → Option Data → Option Saying
carried_of said before None = None
carried_of said before (Some d) = carried_next said (carried_in [] before) (first_payload d.0 before)

got_within : {A : Type 0} (xs ys : List A) (n : ℕ) → n < length xs → slice_get (xs ++ ys) n ≡ slice_get xs n
got_within [] ys n h = absurd (omega arith)
got_within (x ∷ xs) ys zero h = refl
got_within (x ∷ xs) ys (suc n) h = got_within xs ys n (omega arith)

-- a user's payload carries what is said next, of all that is ever said: so much was said before it
next_is : (journal : List Line) (x y : List ℕ) (said : List Saying) (log : List Entry) (entry : Entry) (d : Data) (opening : List ℕ) → Sure journal x y said (log ++ entry ∷ []) → data_by x y log entry ≡ Some d → first_payload d.0 (datas_to x y log) ≡ Some opening
    → carried_in [] (datas_to x y (log ++ entry ∷ [])) ≤ length (sayings x y log) → next_carried journal log x y ≡ slice_get said (carried_in [] (datas_to x y log))
next_is journal x y said log entry d opening k is first soon =
    simply.carried_next journal log x y before.plain ∙ ap (slice_get (sayings x y log)) (users_count journal x y said log before) ∙ sym (got_within (sayings x y log) before.more (carried_in [] (datas_to x y log)) lower)
    ∙ ap (λ (l : List Saying). slice_get l (carried_in [] (datas_to x y log))) before.said_is
  where
    before : Sure journal x y said log
    before = sure_before journal x y said log entry k

    counted : carried_in [] (datas_to x y (log ++ entry ∷ [])) ≡ suc (carried_in [] (datas_to x y log))
    counted = ap (carried_in []) (datas_more x y log entry ∙ ap (λ (o : Option Data). kept_with o (datas_to x y log)) is) ∙ carried_last (datas_to x y log) d ∙ ap (λ (f : Option (List ℕ)). carried_after f (carried_in [] (datas_to x y log))) first

    lower : carried_in [] (datas_to x y log) < length (sayings x y log)
    lower = let e = counted in let s = soon in omega arith

-- what is carried by an entry
abbrev next_if : Option Data → Option Saying → Option Saying
next_if o next = elim o [ None ↦ None | Some d ↦ next ]

carried_so : (journal : List Line) (x y : List ℕ) (said : List Saying) (log : List Entry) (entry : Entry) → Sure journal x y said (log ++ entry ∷ []) → carried_in [] (datas_to x y (log ++ entry ∷ [])) ≤ length (sayings x y log) → carried journal x y log entry ≡ carried_of said (datas_to x y log) (data_by x y log entry)
carried_so journal x y said log entry k soon = ap (λ (o : Option Data). next_if o (next_carried journal log x y)) (user_by journal x y said log entry k) ∙ by_data (data_by x y log entry) refl where
  by_first : (d : Data) (f : Option (List ℕ)) → data_by x y log entry ≡ Some d → first_payload d.0 (datas_to x y log) ≡ f → next_if (user_first d f) (next_carried journal log x y) ≡ carried_next said (carried_in [] (datas_to x y log)) f
  by_first d None h g = refl
  by_first d (Some opening) h g = next_is journal x y said log entry d opening k h g soon

  by_data : (o : Option Data) → data_by x y log entry ≡ o → next_if (user_of (datas_to x y log) o) (next_carried journal log x y) ≡ carried_of said (datas_to x y log) o
  by_data None h = refl
  by_data (Some d) h = by_first d (first_payload d.0 (datas_to x y log)) h refl

pub carried_by : (journal : List Line) (x y : List ℕ) (said : List Saying) (log : List Entry) (entry : Entry) → Sure journal x y said (log ++ entry ∷ []) → carried journal x y log entry ≡ carried_of said (datas_to x y log) (data_by x y log entry)
carried_by journal x y said log (entries.Wrote s e bytes) k = by_end (is_end_of x y s e) refl where
  wrote : Entry
  wrote = entries.Wrote s e bytes

  by_end : (b : Bool) → is_end_of x y s e ≡ b → carried journal x y log wrote ≡ carried_of said (datas_to x y log) (data_by x y log wrote)
  by_end true h = carried_so journal x y said log wrote k (k.in_time log [] s e bytes refl h)
  by_end false h = ap (λ (o : Option Data). next_if o (next_carried journal log x y)) (user_by journal x y said log wrote k ∙ ap (user_of (datas_to x y log)) (data_off x y log s e bytes h)) ∙ sym (ap (carried_of said (datas_to x y log)) (data_off x y log s e bytes h))
carried_by journal x y said log entry k = refl

-- ---- all that was written

one_more : (said : List Saying) (before : List Data) (o : Option Data) → kept_with (carried_of said before o) (take (carried_in [] before) said) ≡ take (carried_in [] (kept_with o before)) said
one_more said before None = refl
one_more said before (Some d) = by_first (first_payload d.0 before) ∙ ap (λ (n : ℕ). take n said) (sym (carried_last before d)) where
  by_first : (f : Option (List ℕ)) → kept_with (carried_next said (carried_in [] before) f) (take (carried_in [] before) said) ≡ take (carried_after f (carried_in [] before)) said
  by_first None = refl
  by_first (Some opening) = sym (take_next (carried_in [] before) said)

-- all that was written carries the first of the sayings, as many as carry something
pub written_first : (journal : List Line) (x y : List ℕ) (said : List Saying) (log : List Entry) → Sure journal x y said log → written_sayings journal log x y ≡ take (carried_in [] (datas_to x y log)) said
written_first journal x y said log k = collected_while (Sure journal x y said) (carried journal x y) found (sure_before journal x y said) (carried_by journal x y said) log k ∙ all log where
  found : List Entry → Entry → Option Saying
  found log entry = carried_of said (datas_to x y log) (data_by x y log entry)

  more : (log : List Entry) (entry : Entry) → collected never found log ≡ take (carried_in [] (datas_to x y log)) said → collected never found (log ++ entry ∷ []) ≡ take (carried_in [] (datas_to x y (log ++ entry ∷ []))) said
  more log entry h = collected_more found log entry ∙ ap (kept_with (found log entry)) h ∙ one_more said (datas_to x y log) (data_by x y log entry) ∙ ap (λ (ds : List Data). take (carried_in [] ds) said) (sym (datas_more x y log entry))

  all : (log : List Entry) → collected never found log ≡ take (carried_in [] (datas_to x y log)) said
  all = by_last (λ log. collected never found log ≡ take (carried_in [] (datas_to x y log)) said) (none said) more where
    none : (l : List Saying) → [] ≡ take 0 l
    none [] = refl
    none (s ∷ l) = refl
