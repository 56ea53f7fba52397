-- What a log tells at the end of a call says what it told as a link came up, or a socket was dialed, in that call.
use Rattle.std.proofs.Common.{◌≡◌, ◌⊎◌, inl, inr, ℕ, ◌+◌, Bool, true, false, cond, not, ◌&&◌, ◌||◌, List, [], ◌∷◌, ◌++◌, length, refl, sym, ap, ◌∙◌, subst, append_assoc, arith}
use Rattle.std.proofs.lemmas.Bool.{and_parts}
use Rattle.std.proofs.lemmas.List.{append-nil}
use Rattle.std.proofs.lemmas.List.Folds.{list_any-append}
use Rattle.std.proofs.lemmas.List.Sums.{sum_by-cons}
use Rattle.std.specs.List.{list_any, list_all, cons_option}
use Rattle.std.specs.Prelude.{filter, filter_map, count_by, nat_le, Some, None}
use Rattle.std.specs.Str.{bytes_eq}
use Rattle.ch_model.specs.declared.entry.Entry.{Entry}
use Rattle.ch_model.specs.declared.entry.Entry.TheVariants as entries
use Rattle.ch_model.specs.declared.name.End.{End}
use Rattle.ch_model.specs.declared.name.End.TheVariants.{O, T}
use Rattle.ch_model.specs.declared.name.SockName.{SockName}
use Rattle.ch_model.specs.Links.{rises, goes_down, has_risen, is_closed, risen_with}
use Rattle.ch_model.specs.LiveSockets.{accepted_by, is_unclosed, live_sockets, has_one_live}
use Rattle.ch_model.specs.Logs.{each_after, always_after}
use Rattle.ch_model.specs.Same.{same_pair, owner, across, is_end_of}
use Rattle.ch_model.specs.Sockets.{is_opening, closes}
use Rattle.ch_laws_links.proofs.Found.{one_self}
use Rattle.ch_laws_links.proofs.Risen.{may_tell}
use Rattle.ch_laws_calls.proofs.ScenesPlaces.{first_or, second_or}
use Rattle.ch_laws_live.specs.Turns.{is_start, is_turn, startless, turnless, start_last}
use Rattle.ch_laws_live.proofs.Entries.{both, last_turnless}
use Rattle.ch_laws_live.proofs.Logs.{IsMay, not_true, clash, or_either, any_more, any_less, none_among, each_front, rises_start, closes_turn, once_after}

-- ---- what is so at the end of a call

-- the end came up, and didn't go down
pub record IsUp (log : List Entry) (s : SockName) (e : End) : Type 0 where
  pub risen : has_risen log s e ≡ true
  pub still : list_any (goes_down s e) log ≡ false

-- the target came up, and neither end is closed
pub record IsLiveIn (log : List Entry) (s : SockName) : Type 0 where
  pub risen : has_risen log s T ≡ true
  pub opener : is_closed log s O ≡ false
  pub target : is_closed log s T ≡ false

-- the socket is the node's with the other, whichever dialed
abbrev pub IsOfBoth : SockName → SockName → End → Type 0
IsOfBoth s t f = ((owner t f ≡ s.from) × (owner t (across f) ≡ s.to)) ⊎ ((owner t f ≡ s.to) × (owner t (across f) ≡ s.from))

-- A node is up on one socket with each other; where it dials one, on none but that; live sockets of a pair are one; beside it no node
-- of the two is up on another; an opener that is up has a target that came up, or is closed; and sockets are between two names.
pub record Facts (log : List Entry) : Type 0 where
  pub may : IsMay log
  pub apart : (s : SockName) (e : End) → has_risen log s e ≡ true → bytes_eq s.from s.to ≡ false
  pub alone : (s t : SockName) (e f : End) → owner s e ≡ owner t f → owner s (across e) ≡ owner t (across f) → IsUp log s e → IsUp log t f → s ≡ t
  pub dials : (s t : SockName) (f : End) → list_any (is_opening s) log ≡ true → is_closed log s O ≡ false → owner t f ≡ s.from → owner t (across f) ≡ s.to → IsUp log t f → s ≡ t
  pub one : (s t : SockName) → IsLiveIn log s → IsLiveIn log t → same_pair s t ≡ true → s ≡ t
  pub beside : (s t : SockName) (f : End) → IsLiveIn log s → IsUp log t f → IsOfBoth s t f → s ≡ t
  pub behind : (s : SockName) → IsUp log s O → (has_risen log s T ≡ true) ⊎ (is_closed log s T ≡ true)

-- ---- sockets that are found in a log

pub all_in : (x y : List ℕ) (p q : SockName → Bool) (part : List Entry) → ((t : SockName) (f : End) → has_risen part t f ≡ true → is_end_of x y t f ≡ true → p t ≡ true → q t ≡ true) → list_all q (filter p (filter_map (risen_with x y) part)) ≡ true
all_in x y p q [] each = refl
all_in x y p q (z ∷ rest) each = by_entry z each (all_in x y p q rest) where
  Rest : List SockName
  Rest = filter_map (risen_with x y) rest

  by_entry : (z : Entry) → ((t : SockName) (f : End) → has_risen (z ∷ rest) t f ≡ true → is_end_of x y t f ≡ true → p t ≡ true → q t ≡ true)
      → (((t : SockName) (f : End) → has_risen rest t f ≡ true → is_end_of x y t f ≡ true → p t ≡ true → q t ≡ true) → list_all q (filter p Rest) ≡ true) → list_all q (filter p (cons_option (risen_with x y z) Rest)) ≡ true
  by_entry (entries.Up sock end) each more = by_end (is_end_of x y sock end) refl where
    later : list_all q (filter p Rest) ≡ true
    later = more (λ t f r. each t f (second_or (rises t f (entries.Up sock end)) (has_risen rest t f) r))

    by_test : (c : Bool) → p sock ≡ c → is_end_of x y sock end ≡ true → list_all q (cond c (sock ∷ filter p Rest) (filter p Rest)) ≡ true
    by_test true g h = both (q sock) (list_all q (filter p Rest)) (each sock end (first_or (rises sock end (entries.Up sock end)) (has_risen rest sock end) (one_self (sock, end))) h g) later
    by_test false g h = later

    by_end : (b : Bool) → is_end_of x y sock end ≡ b → list_all q (filter p (cons_option (cond b (Some sock) None) Rest)) ≡ true
    by_end true h = by_test (p sock) refl h
    by_end false h = later
  by_entry z each more = more (λ t f r. each t f (second_or (rises t f z) (has_risen rest t f) r))

pub none_up : (xs : List SockName) → list_all (λ t. false) xs ≡ true → nat_le 1 (length xs) ≡ false
none_up [] e = refl
none_up (x ∷ xs) e = absurd cc

all_live : (p q : SockName → Bool) (part : List Entry) → ((t : SockName) → has_risen part t T ≡ true → p t ≡ true → q t ≡ true) → list_all q (filter p (filter_map accepted_by part)) ≡ true
all_live p q [] each = refl
all_live p q (z ∷ rest) each = by_entry z each (all_live p q rest) where
  Rest : List SockName
  Rest = filter_map accepted_by rest

  by_entry : (z : Entry) → ((t : SockName) → has_risen (z ∷ rest) t T ≡ true → p t ≡ true → q t ≡ true)
      → (((t : SockName) → has_risen rest t T ≡ true → p t ≡ true → q t ≡ true) → list_all q (filter p Rest) ≡ true) → list_all q (filter p (cons_option (accepted_by z) Rest)) ≡ true
  by_entry (entries.Up sock T) each more = by_test (p sock) refl where
    later : list_all q (filter p Rest) ≡ true
    later = more (λ t r. each t (second_or (rises t T (entries.Up sock T)) (has_risen rest t T) r))

    by_test : (c : Bool) → p sock ≡ c → list_all q (cond c (sock ∷ filter p Rest) (filter p Rest)) ≡ true
    by_test true g = both (q sock) (list_all q (filter p Rest)) (each sock (first_or (rises sock T (entries.Up sock T)) (has_risen rest sock T) (one_self (sock, T))) g) later
    by_test false g = later
  by_entry z each more = more (λ t r. each t (second_or (rises t T z) (has_risen rest t T) r))

no_more : (n : ℕ) → 0 + n ≡ n
no_more n = omega arith

-- none of these is counted
none_live : (p q : SockName → Bool) (part : List Entry) → ((t : SockName) → has_risen part t T ≡ true → p t ≡ true → q t ≡ false) → count_by q (filter p (filter_map accepted_by part)) ≡ 0
none_live p q [] each = refl
none_live p q (z ∷ rest) each = by_entry z each (none_live p q rest) where
  Rest : List SockName
  Rest = filter_map accepted_by rest

  by_entry : (z : Entry) → ((t : SockName) → has_risen (z ∷ rest) t T ≡ true → p t ≡ true → q t ≡ false)
      → (((t : SockName) → has_risen rest t T ≡ true → p t ≡ true → q t ≡ false) → count_by q (filter p Rest) ≡ 0) → count_by q (filter p (cons_option (accepted_by z) Rest)) ≡ 0
  by_entry (entries.Up sock T) each more = by_test (p sock) refl where
    later : count_by q (filter p Rest) ≡ 0
    later = more (λ t r. each t (second_or (rises t T (entries.Up sock T)) (has_risen rest t T) r))

    by_test : (c : Bool) → p sock ≡ c → count_by q (cond c (sock ∷ filter p Rest) (filter p Rest)) ≡ 0
    by_test true g = sum_by-cons (λ x. cond (q x) 1 0) sock (filter p Rest) ∙ ap (λ b. cond b 1 0 + count_by q (filter p Rest)) (each sock (first_or (rises sock T (entries.Up sock T)) (has_risen rest sock T) (one_self (sock, T))) g) ∙ no_more (count_by q (filter p Rest)) ∙ later
    by_test false g = later
  by_entry z each more = more (λ t r. each t (second_or (rises t T z) (has_risen rest t T) r))

-- of these at most one is counted, as those that are are one
one_counted : (p q : SockName → Bool) (before part : List Entry) → each_after may_tell before part ≡ true → ((t u : SockName) → has_risen part t T ≡ true → has_risen part u T ≡ true → p t ≡ true → p u ≡ true → q t ≡ true → q u ≡ true → t ≡ u) → nat_le (count_by q (filter p (filter_map accepted_by part))) 1 ≡ true
one_counted p q before [] w same = refl
one_counted p q before (z ∷ rest) w same = let parts = and_parts (may_tell before z) (each_after may_tell (before ++ z ∷ []) rest) w in by_entry z parts.1 same (one_counted p q (before ++ z ∷ []) rest parts.1) where
  Rest : List SockName
  Rest = filter_map accepted_by rest

  Same : List Entry → Type 0
  Same all = (t u : SockName) → has_risen all t T ≡ true → has_risen all u T ≡ true → p t ≡ true → p u ≡ true → q t ≡ true → q u ≡ true → t ≡ u

  later : (z : Entry) → Same (z ∷ rest) → Same rest
  later z same t u r v = same t u (second_or (rises t T z) (has_risen rest t T) r) (second_or (rises u T z) (has_risen rest u T) v)

  by_entry : (z : Entry) → each_after may_tell (before ++ z ∷ []) rest ≡ true → Same (z ∷ rest) → (Same rest → nat_le (count_by q (filter p Rest)) 1 ≡ true) → nat_le (count_by q (filter p (cons_option (accepted_by z) Rest))) 1 ≡ true
  by_entry (entries.Up sock T) w same more = by_test (p sock) refl where
    here : has_risen (entries.Up sock T ∷ rest) sock T ≡ true
    here = first_or (rises sock T (entries.Up sock T)) (has_risen rest sock T) (one_self (sock, T))

    before_here : has_risen (before ++ entries.Up sock T ∷ []) sock T ≡ true
    before_here = list_any-append (rises sock T) before (entries.Up sock T ∷ []) ∙ second_or (has_risen before sock T) (rises sock T (entries.Up sock T) || false) (first_or (rises sock T (entries.Up sock T)) false (one_self (sock, T)))

    not_again : (t : SockName) → has_risen rest t T ≡ true → sock ≡ t → ⊥
    not_again t r e = clash (has_risen rest sock T) (subst (λ (u : SockName). has_risen rest u T ≡ true) (sym e) r) (once_after (before ++ entries.Up sock T ∷ []) rest w sock T before_here)

    others : p sock ≡ true → q sock ≡ true → (t : SockName) → has_risen rest t T ≡ true → p t ≡ true → (b : Bool) → q t ≡ b → b ≡ false
    others g h t r k false i = refl
    others g h t r k true i = absurd (not_again t r (same sock t here (second_or (rises t T (entries.Up sock T)) (has_risen rest t T) r) g k h i))

    by_count : p sock ≡ true → (c : Bool) → q sock ≡ c → nat_le (cond c 1 0 + count_by q (filter p Rest)) 1 ≡ true
    by_count g true h = ap (λ n. nat_le (1 + n) 1) (none_live p q rest (λ t r k. others g h t r k (q t) refl))
    by_count g false h = ap (λ n. nat_le n 1) (no_more (count_by q (filter p Rest))) ∙ more (later (entries.Up sock T) same)

    by_test : (c : Bool) → p sock ≡ c → nat_le (count_by q (cond c (sock ∷ filter p Rest) (filter p Rest))) 1 ≡ true
    by_test true g = ap (λ n. nat_le n 1) (sum_by-cons (λ x. cond (q x) 1 0) sock (filter p Rest)) ∙ by_count g (q sock) refl
    by_test false g = more (later (entries.Up sock T) same)
  by_entry z w same more = more (later z same)

-- ---- at most one live socket

abbrev pub AreOne : List Entry → Type 0
AreOne log = (s t : SockName) → IsLiveIn log s → IsLiveIn log t → same_pair s t ≡ true → s ≡ t

live_in : (log : List Entry) (s : SockName) → has_risen log s T ≡ true → is_unclosed log s ≡ true → IsLiveIn log s
live_in log s r u = let parts = and_parts (not (is_closed log s O)) (not (is_closed log s T)) u in record { risen = r; opener = not_true (is_closed log s O) parts.0; target = not_true (is_closed log s T) parts.1 }

pub one_live : (log : List Entry) → IsMay log → AreOne log → has_one_live log ≡ true
one_live log may one = all_live (is_unclosed log) (λ sock. nat_le (count_by (same_pair sock) (live_sockets log)) 1) log
    (λ s r u. one_counted (is_unclosed log) (same_pair s) [] log may (λ t v rt rv ut uv qt qv. sym (one s t (live_in log s r u) (live_in log t rt ut) qt) ∙ one s v (live_in log s r u) (live_in log v rv uv) qv))

last_live : (log rest : List Entry) (s : SockName) → turnless rest ≡ true → IsLiveIn log s → IsLiveIn (log ++ rest) s
last_live log rest s n live = record { risen = any_more (rises s T) log rest live.risen; opener = still O live.opener; target = still T live.target } where
  still : (e : End) → is_closed log s e ≡ false → is_closed (log ++ rest) s e ≡ false
  still e c = list_any-append (closes s e) log rest ∙ ap (λ b. b || is_closed rest s e) c ∙ none_among (closes s e) is_turn (closes_turn s e) rest n

first_live : (log : List Entry) (x : Entry) (s : SockName) → is_start x ≡ false → IsLiveIn (log ++ x ∷ []) s → IsLiveIn log s
first_live log x s n live = record { risen = by_or (or_either (has_risen log s T) (rises s T x || false) (sym (list_any-append (rises s T) log (x ∷ [])) ∙ live.risen)); opener = any_less (closes s O) log (x ∷ []) live.opener; target = any_less (closes s T) log (x ∷ []) live.target } where
  by_or : (has_risen log s T ≡ true) ⊎ ((rises s T x || false) ≡ true) → has_risen log s T ≡ true
  by_or (inl r) = r
  by_or (inr r) = absurd (clash (rises s T x || false) r (ap (λ b. b || false) (rises_start s T x n)))

pub always_one : (log more : List Entry) → start_last more ≡ true → AreOne log → AreOne (log ++ more) → IsMay (log ++ more) → always_after has_one_live log more ≡ true
always_one log [] n before after may = one_live log (subst IsMay (append-nil log) may) before
always_one log (x ∷ rest) n before after may = both (has_one_live log) (always_after has_one_live (log ++ x ∷ []) rest) (one_live log (each_front may_tell [] log (x ∷ rest) may) before)
    (by_start (is_start x) refl n (always_one (log ++ x ∷ []) rest)) where
      all_is : (log ++ x ∷ []) ++ rest ≡ log ++ x ∷ rest
      all_is = append_assoc log (x ∷ []) rest

      next_after : AreOne ((log ++ x ∷ []) ++ rest)
      next_after = subst AreOne (sym all_is) after

      next_may : IsMay ((log ++ x ∷ []) ++ rest)
      next_may = subst IsMay (sym all_is) may

      by_start : (b : Bool) → is_start x ≡ b → cond b (turnless rest) (start_last rest) ≡ true
          → (start_last rest ≡ true → AreOne (log ++ x ∷ []) → AreOne ((log ++ x ∷ []) ++ rest) → IsMay ((log ++ x ∷ []) ++ rest) → always_after has_one_live (log ++ x ∷ []) rest ≡ true) → always_after has_one_live (log ++ x ∷ []) rest ≡ true
      by_start true s n more = more (last_turnless rest n) (λ t u a b p. next_after t u (last_live (log ++ x ∷ []) rest t n a) (last_live (log ++ x ∷ []) rest u n b) p) next_after next_may
      by_start false s n more = more n (λ t u a b p. before t u (first_live log x t s a) (first_live log x u s b) p) next_after next_may

-- ---- at what starts

-- the entry starts, and after it nothing in the call turns
pub record IsLast (all log mid : List Entry) (x : Entry) (back : List Entry) : Type 0 where
  pub is : all ≡ (log ++ mid) ++ x ∷ back
  pub first : startless mid ≡ true
  pub start : is_start x ≡ true
  pub last : turnless back ≡ true

-- a test of what starts is passed by each entry of a call where it is by the last that starts
pub each_started : (test : List Entry → Entry → Bool) → ((l : List Entry) (x : Entry) → is_start x ≡ false → test l x ≡ true) → (all log mid more : List Entry) → all ≡ (log ++ mid) ++ more → startless mid ≡ true → start_last more ≡ true
    → ((mid : List Entry) (x : Entry) (back : List Entry) → IsLast all log mid x back → test (log ++ mid) x ≡ true) → each_after test (log ++ mid) more ≡ true
each_started test others all log mid [] is n s at = refl
each_started test others all log mid (x ∷ rest) is n s at = by_start (is_start x) refl s (each_started test others all log (mid ++ x ∷ []) rest) where
  onward : (log ++ mid) ++ x ∷ [] ≡ log ++ (mid ++ x ∷ [])
  onward = append_assoc log mid (x ∷ [])

  all_is : all ≡ (log ++ (mid ++ x ∷ [])) ++ rest
  all_is = is ∙ sym (append_assoc (log ++ mid) (x ∷ []) rest) ∙ ap (λ (l : List Entry). l ++ rest) onward

  still : is_start x ≡ false → startless (mid ++ x ∷ []) ≡ true
  still s = by_list mid n where
    by_list : (mid : List Entry) → startless mid ≡ true → startless (mid ++ x ∷ []) ≡ true
    by_list [] n = ap (λ b. not b && true) s
    by_list (y ∷ mid) n = let parts = and_parts (not (is_start y)) (startless mid) n in both (not (is_start y)) (startless (mid ++ x ∷ [])) parts.0 (by_list mid parts.1)

  plain : (l back : List Entry) → turnless back ≡ true → each_after test l back ≡ true
  plain l [] n = refl
  plain l (y ∷ back) n = let parts = and_parts (not (is_turn y)) (turnless back) n in both (test l y) (each_after test (l ++ y ∷ []) back) (others l y (starts_none y (not_true (is_turn y) parts.0))) (plain (l ++ y ∷ []) back parts.1) where
    starts_none : (y : Entry) → is_turn y ≡ false → is_start y ≡ false
    starts_none (entries.Dial sock) e = absurd cc
    starts_none (entries.Up sock end) e = absurd cc
    starts_none y e = refl

  by_start : (b : Bool) → is_start x ≡ b → cond b (turnless rest) (start_last rest) ≡ true
      → (all ≡ (log ++ (mid ++ x ∷ [])) ++ rest → startless (mid ++ x ∷ []) ≡ true → start_last rest ≡ true → ((mid : List Entry) (x : Entry) (back : List Entry) → IsLast all log mid x back → test (log ++ mid) x ≡ true) → each_after test (log ++ (mid ++ x ∷ [])) rest ≡ true)
      → (test (log ++ mid) x && each_after test ((log ++ mid) ++ x ∷ []) rest) ≡ true
  by_start true s l more = both (test (log ++ mid) x) (each_after test ((log ++ mid) ++ x ∷ []) rest) (at mid x rest (record { is = is; first = n; start = s; last = l })) (plain ((log ++ mid) ++ x ∷ []) rest l)
  by_start false s l more = both (test (log ++ mid) x) (each_after test ((log ++ mid) ++ x ∷ []) rest) (others (log ++ mid) x s) (subst (λ (k : List Entry). each_after test k rest ≡ true) (sym onward) (more all_is (still s) l at))
