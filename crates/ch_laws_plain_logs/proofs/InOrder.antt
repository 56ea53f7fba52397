-- Where each message is said in its pair's epoch, and got after it was said, it is of the first epoch, and none comes late.
use Rattle.std.proofs.Common.{◌≡◌, ℕ, Bool, true, false, not, ◌&&◌, ◌||◌, List, [], ◌∷◌, ◌++◌, refl, sym, ap, ◌∙◌, ◌==◌, arith}
use Rattle.std.proofs.lemmas.Bool.{and_parts, eqb-true}
use Rattle.std.proofs.lemmas.Bool.Decides.{nat_tests}
use Rattle.std.proofs.Math.Bool.{and-false}
use Rattle.std.specs.List.{list_all, list_any}
use Rattle.std.specs.Prelude.{nat_lt}
use Rattle.ch_model.specs.declared.entry.Entry.{Entry}
use Rattle.ch_model.specs.declared.entry.Entry.TheVariants as entries
use Rattle.ch_model.specs.declared.name.ProcName.{ProcName}
use Rattle.ch_model.specs.declared.name.TargetName.{TargetName}
use Rattle.ch_model.specs.declared.name.TargetName.TheVariants as targets
use Rattle.ch_model.specs.Delivery.{gets_later, gets_the_said, gets_no_earlier}
use Rattle.ch_model.specs.Epochs.{says_in, says_it, is_said_in_epoch}
use Rattle.ch_model.specs.Logs.{each, each_after, from_first}
use Rattle.ch_model.specs.Same.{same_process, same_target}
use Rattle.ch_laws_plain_logs.specs.Plain.{is_plain, IsPlain}
use Rattle.ch_laws_plain_logs.proofs.Plain.{both_true, all_more, plain_more}
use Rattle.ch_laws_plain_logs.proofs.None.{all_from_first}
use Rattle.ch_laws_plain_logs.proofs.Absent.{first_epoch, all_unbroken}

-- the entry says no message of another epoch than the first
abbrev pub says_first : Entry → Bool
says_first (entries.Said by to epoch index mark body) = epoch == 0
says_first entry = true

-- nor gets one
abbrev pub gets_first : Entry → Bool
gets_first (entries.Got by to epoch index receiver) = epoch == 0
gets_first entry = true

-- a message that was said is of the first epoch
said_so : (p : ProcName) (d : TargetName) (e k : ℕ) (log : List Entry) → list_all says_first log ≡ true → list_any (says_it p d e k) log ≡ true → (e == 0) ≡ true
said_so p d e k [] all said = absurd cc
said_so p d e k (x ∷ log) all said = let parts = and_parts (says_first x) (list_all says_first log) all in by_test (says_it p d e k x) refl parts.0 (said_so p d e k log parts.1) said where
  by_entry : (x : Entry) → says_first x ≡ true → says_it p d e k x ≡ true → (e == 0) ≡ true
  by_entry (entries.Said by to epoch index mark body) first s =
      let one = and_parts (same_process by p && same_target to d && epoch == e) (index == k) s in
      let two = and_parts (same_process by p && same_target to d) (epoch == e) one.0 in
      ap (λ (n : ℕ). n == 0) (sym (eqb-true epoch e two.1)) ∙ first
  by_entry x first s = absurd cc

  by_test : (b : Bool) → says_it p d e k x ≡ b → says_first x ≡ true → (list_any (says_it p d e k) log ≡ true → (e == 0) ≡ true) → (b || list_any (says_it p d e k) log) ≡ true → (e == 0) ≡ true
  by_test true s first more h = by_entry x first s
  by_test false s first more h = more h

-- where no message of another epoch was got, none of a later one was
none_later : (p : ProcName) (d : TargetName) (e : ℕ) (log : List Entry) → list_all gets_first log ≡ true → list_any (gets_later p d e) log ≡ false
none_later p d e [] all = refl
none_later p d e (x ∷ log) all =
    let parts = and_parts (gets_first x) (list_all gets_first log) all in
    ap (λ b. b || list_any (gets_later p d e) log) (one x parts.0) ∙ none_later p d e log parts.1
  where
    not_below : (n : ℕ) → nat_lt n 0 ≡ false
    not_below n = grind (arith, nat_tests)

    one : (x : Entry) → gets_first x ≡ true → gets_later p d e x ≡ false
    one (entries.Got by to epoch index receiver) first =
        ap (λ (n : ℕ). same_process by p && same_target to d && nat_lt e n) (eqb-true epoch 0 first)
        ∙ ap (λ b. same_process by p && same_target to d && b) (not_below e) ∙ and-false (same_process by p && same_target to d)
    one x first = refl

-- ---- one entry

said_now : (before : List Entry) (x : Entry) → IsPlain before → is_plain x ≡ true → is_said_in_epoch before x ≡ true → says_first x ≡ true
said_now before (entries.Said by (targets.Process process) epoch index mark body) plain e said = ap (λ (n : ℕ). epoch == n) (sym (first_epoch before by process plain)) ∙ said
said_now before (entries.Said by (targets.Port process port) epoch index mark body) plain e said = absurd cc
said_now before (entries.Said by (targets.Named node name) epoch index mark body) plain e said = absurd cc
said_now before x plain e said = refl

got_now : (before : List Entry) (x : Entry) → IsPlain before → list_all says_first before ≡ true → gets_the_said before x ≡ true → gets_first x ≡ true
got_now before (entries.Got by to epoch index receiver) plain all said =
    said_so by to epoch index (from_first (says_in by to epoch) before) (all_from_first says_first (says_in by to epoch) before all)
    (ap (list_any (says_it by to epoch index)) (sym (all_unbroken before by to epoch plain)) ∙ said)
got_now before x plain all said = refl

none_now : (before : List Entry) (x : Entry) → list_all gets_first before ≡ true → gets_no_earlier before x ≡ true
none_now before (entries.Got by to epoch index receiver) all = ap not (none_later by to epoch before all)
none_now before x all = refl

-- ---- whole logs

order_from : (before log : List Entry) → IsPlain before → list_all says_first before ≡ true → list_all gets_first before ≡ true → IsPlain log
    → each_after is_said_in_epoch before log ≡ true → each_after gets_the_said before log ≡ true → each_after gets_no_earlier before log ≡ true
order_from before [] b said got plain in_epoch after_said = refl
order_from before (x ∷ log) b said got plain in_epoch after_said =
    let kinds = and_parts (is_plain x) (list_all is_plain log) plain in
    let epochs = and_parts (is_said_in_epoch before x) (each_after is_said_in_epoch (before ++ x ∷ []) log) in_epoch in
    let firsts = and_parts (gets_the_said before x) (each_after gets_the_said (before ++ x ∷ []) log) after_said in
    both_true (gets_no_earlier before x) (each_after gets_no_earlier (before ++ x ∷ []) log) (none_now before x got)
    (order_from (before ++ x ∷ []) log (plain_more before x b kinds.0) (all_more says_first before x said (said_now before x b kinds.0 epochs.0))
    (all_more gets_first before x got (got_now before x b said firsts.0)) kinds.1 epochs.1 firsts.1)

pub epochs_in_order : (log : List Entry) → IsPlain log → each is_said_in_epoch log ≡ true → each gets_the_said log ≡ true → each gets_no_earlier log ≡ true
epochs_in_order log plain in_epoch after_said = order_from [] log refl refl refl plain in_epoch after_said
