-- Entries that feed an end nothing leave what was fed to it; and a log is looked through piece by piece.
use Rattle.std.proofs.Common.{◌≡◌, ◌⊎◌, inl, inr, ℕ, ◌+◌, ◌<◌, ◌≤◌, Bool, true, false, cond, ◌&&◌, List, [], ◌∷◌, ◌++◌, length, take, refl, sym, ap, ◌∙◌, subst, append_assoc, arith}
use Rattle.std.proofs.lemmas.Bool.{and_parts, or_parts, cases_lt}
use Rattle.std.proofs.lemmas.Grind.{flat_map-append}
use Rattle.std.proofs.lemmas.List.{append-nil, length-append, take_all, take-append-le}
use Rattle.std.proofs.lemmas.List.Sums.{sum_by-cons, sum_by-append}
use Rattle.std.proofs.Math.Seq.{take-append_seam}
use Rattle.std.specs.List.{list_any}
use Rattle.ch_model.specs.declared.entry.Entry.{Entry}
use Rattle.ch_model.specs.declared.entry.Entry.TheVariants as entries
use Rattle.ch_model.specs.declared.name.End.{End}
use Rattle.ch_model.specs.declared.name.End.TheVariants.{O, T}
use Rattle.ch_model.specs.declared.name.SockName.{SockName}
use Rattle.ch_model.specs.AccountsBytes.{target_has_read, opener_has_read, accepts, accepts_next}
use Rattle.ch_model.specs.Logs.{each_after, each_between_after, next_is}
use Rattle.ch_model.specs.Same.{same_socket, same_end}
use Rattle.ch_model.specs.Sockets.{puts, feeds, written, fed}
use Rattle.ch_laws_log.proofs.Stored.{self_same}
use Rattle.ch_laws_risen.specs.Firsts.{IsFed, has_read}

pub both : (a b : Bool) → a ≡ true → b ≡ true → (a && b) ≡ true
both true b h g = g
both false b h g = absurd cc

-- ---- what was fed

pub zero_last : (n : ℕ) → n + 0 ≡ n
zero_last n = omega arith

zero_first : (n : ℕ) → 0 + n ≡ n
zero_first n = omega arith

-- no more was fed than was written
within : (n : ℕ) (all bytes : List ℕ) → n ≡ length bytes → take n all ≡ bytes → n ≤ length all
within n all bytes many are = by_case (cases_lt (length all) n) where
  by_case : (length all < n) ⊎ (n ≤ length all) → n ≤ length all
  by_case (inr le) = le
  by_case (inl lt) = let le : length all ≤ n = omega (arith, lt) in let same : length bytes ≡ length all = ap length (sym are ∙ take_all n all le) in omega (arith, lt, many, same)

-- more entries that feed nothing to it
pub stays : (log told : List Entry) (s : SockName) (e : End) (bytes : List ℕ) → fed told s e ≡ 0 → IsFed log s e bytes → IsFed (log ++ told) s e bytes
stays log told s e bytes none f = record {
  many = same ∙ f.many;
  are = ap (λ (n : ℕ). take n (written (log ++ told) s e)) same ∙ ap (take (fed log s e)) (flat_map-append (puts s e) log told)
      ∙ take-append-le (fed log s e) (written log s e) (written told s e) (within (fed log s e) (written log s e) bytes f.many f.are) ∙ f.are;
} where
  same : fed (log ++ told) s e ≡ fed log s e
  same = sum_by-append (feeds s e) log told ∙ ap (λ (n : ℕ). fed log s e + n) none ∙ zero_last (fed log s e)

pub same_itself : (e : End) → same_end e e ≡ true
same_itself O = refl
same_itself T = refl

-- bytes are fed that were written behind those that were fed
pub goes_on : (log : List Entry) (s : SockName) (e : End) (since bytes left : List ℕ) → written log s e ≡ since ++ (bytes ++ left) → IsFed log s e since → IsFed (log ++ entries.Fed s e (length bytes) ∷ []) s e (since ++ bytes)
goes_on log s e since bytes left wrote f = record {
  many = many;
  are = ap (λ (n : ℕ). take n (written (log ++ x ∷ []) s e)) many ∙ ap (take (length (since ++ bytes))) (flat_map-append (puts s e) log (x ∷ []) ∙ append-nil (written log s e) ∙ wrote ∙ sym (append_assoc since bytes left)) ∙ take-append_seam (since ++ bytes) left;
} where
  x : Entry
  x = entries.Fed s e (length bytes)

  one : feeds s e x ≡ length bytes
  one = ap (λ b. cond (b && same_end e e) (length bytes) 0) (self_same s) ∙ ap (λ b. cond b (length bytes) 0) (same_itself e)

  many : fed (log ++ x ∷ []) s e ≡ length (since ++ bytes)
  many = sum_by-append (feeds s e) log (x ∷ []) ∙ ap (λ (n : ℕ). fed log s e + n) (sum_by-cons (feeds s e) x [] ∙ zero_last (feeds s e x) ∙ one) ∙ ap (λ (n : ℕ). n + length bytes) f.many ∙ sym (length-append since bytes)

-- an entry that feeds another end
pub fed_elsewhere : (s t : SockName) (e a : End) (n : ℕ) → (same_socket s t && same_end e a) ≡ false → fed (entries.Fed s e n ∷ []) t a ≡ 0
fed_elsewhere s t e a n off = sum_by-cons (feeds t a) (entries.Fed s e n) [] ∙ zero_last (feeds t a (entries.Fed s e n)) ∙ ap (λ b. cond b n 0) off

-- ---- entries that feed nothing, and by which no link comes up

abbrev pub is_feeding : Entry → Bool
is_feeding (entries.Fed sock end count) = true
is_feeding entry = false

abbrev pub is_rising : Entry → Bool
is_rising (entries.Up sock end) = true
is_rising entry = false

one_unfed : (s : SockName) (e : End) (x : Entry) → is_feeding x ≡ false → feeds s e x ≡ 0
one_unfed s e (entries.Fed sock end count) h = absurd cc
one_unfed s e x h = refl

pub unfed : (told : List Entry) → list_any is_feeding told ≡ false → (s : SockName) (e : End) → fed told s e ≡ 0
unfed [] h s e = refl
unfed (x ∷ told) h s e = let parts = or_parts (is_feeding x) (list_any is_feeding told) h in sum_by-cons (feeds s e) x told ∙ ap (λ (n : ℕ). n + fed told s e) (one_unfed s e x parts.0) ∙ zero_first (fed told s e) ∙ unfed told parts.1 s e

one_reads : (log : List Entry) (x : Entry) → is_rising x ≡ false → has_read log x ≡ true
one_reads log (entries.Up sock end) h = absurd cc
one_reads log x h = refl

one_accepts : (log : List Entry) (x : Entry) (rest : List Entry) → is_rising x ≡ false → accepts_next log x rest ≡ true
one_accepts log (entries.Up sock end) rest h = absurd cc
one_accepts log x rest h = refl

pub quiet_read : (before told : List Entry) → list_any is_rising told ≡ false → each_after has_read before told ≡ true
quiet_read before [] h = refl
quiet_read before (x ∷ told) h = let parts = or_parts (is_rising x) (list_any is_rising told) h in both (has_read before x) (each_after has_read (before ++ x ∷ []) told) (one_reads before x parts.0) (quiet_read (before ++ x ∷ []) told parts.1)

pub quiet_accepted : (before told : List Entry) → list_any is_rising told ≡ false → each_between_after accepts_next before told ≡ true
quiet_accepted before [] h = refl
quiet_accepted before (x ∷ told) h = let parts = or_parts (is_rising x) (list_any is_rising told) h in both (accepts_next before x told) (each_between_after accepts_next (before ++ x ∷ []) told) (one_accepts before x told parts.0) (quiet_accepted (before ++ x ∷ []) told parts.1)

-- ---- two pieces of a log

next_still : (test : Entry → Bool) (xs ys : List Entry) → next_is test xs ≡ true → next_is test (xs ++ ys) ≡ true
next_still test [] ys h = absurd cc
next_still test (x ∷ xs) ys h = h

accepts_still : (log : List Entry) (x : Entry) (xs ys : List Entry) → accepts_next log x xs ≡ true → accepts_next log x (xs ++ ys) ≡ true
accepts_still log (entries.Up sock T) xs ys h = next_still (accepts sock) xs ys h
accepts_still log (entries.Up sock O) xs ys h = refl
accepts_still log x xs ys h = refl

pub accepted_both : (before xs ys : List Entry) → each_between_after accepts_next before xs ≡ true → each_between_after accepts_next (before ++ xs) ys ≡ true → each_between_after accepts_next before (xs ++ ys) ≡ true
accepted_both before [] ys a b = subst (λ (l : List Entry). each_between_after accepts_next l ys ≡ true) (append-nil before) b
accepted_both before (x ∷ xs) ys a b = let parts = and_parts (accepts_next before x xs) (each_between_after accepts_next (before ++ x ∷ []) xs) a in
    both (accepts_next before x (xs ++ ys)) (each_between_after accepts_next (before ++ x ∷ []) (xs ++ ys)) (accepts_still before x xs ys parts.0) (accepted_both (before ++ x ∷ []) xs ys parts.1 (subst (λ (l : List Entry). each_between_after accepts_next l ys ≡ true) (sym (append_assoc before (x ∷ []) xs)) b))

-- ---- targets and openers by themselves

one_target : (log : List Entry) (x : Entry) → has_read log x ≡ true → target_has_read log x ≡ true
one_target log (entries.Up sock T) h = h
one_target log (entries.Up sock O) h = refl
one_target log x h = refl

one_opener : (log : List Entry) (x : Entry) → has_read log x ≡ true → opener_has_read log x ≡ true
one_opener log (entries.Up sock T) h = refl
one_opener log (entries.Up sock O) h = h
one_opener log x h = refl

passes : (test : List Entry → Entry → Bool) → ((log : List Entry) (x : Entry) → has_read log x ≡ true → test log x ≡ true) → (before log : List Entry) → each_after has_read before log ≡ true → each_after test before log ≡ true
passes test one before [] a = refl
passes test one before (x ∷ log) a = let parts = and_parts (has_read before x) (each_after has_read (before ++ x ∷ []) log) a in both (test before x) (each_after test (before ++ x ∷ []) log) (one before x parts.0) (passes test one (before ++ x ∷ []) log parts.1)

pub targets_read : (before log : List Entry) → each_after has_read before log ≡ true → each_after target_has_read before log ≡ true
targets_read before log a = passes target_has_read one_target before log a

pub openers_read : (before log : List Entry) → each_after has_read before log ≡ true → each_after opener_has_read before log ≡ true
openers_read before log a = passes opener_has_read one_opener before log a
