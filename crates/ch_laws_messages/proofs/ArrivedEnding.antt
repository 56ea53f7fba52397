-- What ends among the bytes that were fed last, among all that was written towards an end.
use Rattle.std.proofs.Common.{◌≡◌, ℕ, suc, ◌+◌, ◌<◌, ◌≤◌, Bool, true, false, cond, ◌&&◌, ◌||◌, List, [], ◌∷◌, ◌++◌, length, refl, sym, ap, ◌∙◌, append_assoc, arith}
use Rattle.std.proofs.lemmas.Bool.Decides.{nat_tests}
use Rattle.std.proofs.lemmas.List.{append-nil}
use Rattle.std.specs.List.{list_any, cons_option}
use Rattle.std.specs.Prelude.{filter_map, slice_get, Option, Some, None, nat_lt, nat_le}
use Rattle.ch_wire.specs.declared.frame.Frame.{Frame}
use Rattle.ch_wire.specs.declared.frame.Frame.TheVariants as frames
use Rattle.ch_model.specs.declared.entry.Entry.{Entry}
use Rattle.ch_model.specs.declared.step.Place.{Place}
use Rattle.ch_model.specs.AccountsFrames.{Saying, Arriving, with_carried, ending_within}
use Rattle.ch_model.specs.AccountsItems.{data_of, first_payload}
use Rattle.ch_model.specs.Logs.{kept_with, collected_after, collected, never}
use Rattle.ch_laws_peers.specs.Words.{Placed, carried_after, place_next, placing}
use Rattle.ch_laws_messages.specs.CarriedCounts.{carried_in, carried_next, data_in, arriving_behind}

-- ---- what is collected

collected_both : {B : Type 0} (look : List Entry → Entry → Option B) (before : List Entry) (kept : List B) (xs ys : List Entry) → collected_after never look before kept (xs ++ ys) ≡ collected_after never look (before ++ xs) (collected_after never look before kept xs) ys
collected_both look before kept [] ys = ap (λ (l : List Entry). collected_after never look l kept ys) (sym (append-nil before))
collected_both look before kept (x ∷ xs) ys = collected_both look (before ++ x ∷ []) (kept_with (look before x) kept) xs ys ∙ ap (λ (l : List Entry). collected_after never look l (collected_after never look (before ++ x ∷ []) (kept_with (look before x) kept) xs) ys) (append_assoc before (x ∷ []) xs)

collected_more : {B : Type 0} (look : List Entry → Entry → Option B) (before : List Entry) (kept : List B) (rest : List Entry) → (more : List B) × (collected_after never look before kept rest ≡ kept ++ more)
collected_more look before kept [] = ([], sym (append-nil kept))
collected_more {B = B} look before kept (x ∷ rest) = by_found (look before x) (collected_more look (before ++ x ∷ []) (kept_with (look before x) kept) rest) where
  by_found : (o : Option B) → (more : List B) × (collected_after never look (before ++ x ∷ []) (kept_with o kept) rest ≡ kept_with o kept ++ more) → (more : List B) × (collected_after never look (before ++ x ∷ []) (kept_with o kept) rest ≡ kept ++ more)
  by_found None m = m
  by_found (Some y) m = (y ∷ m.0, m.1 ∙ append_assoc kept (y ∷ []) m.0)

-- what is collected of a log only grows, at its end
pub collected_grows : {B : Type 0} (look : List Entry → Entry → Option B) (log told : List Entry) → (more : List B) × (collected never look (log ++ told) ≡ collected never look log ++ more)
collected_grows look log told = let m = collected_more look log (collected never look log) told in (m.0, collected_both look [] [] log told ∙ m.1)

-- ---- what ends within

-- how many bytes items have
abbrev pub sizes : List Arriving → ℕ
sizes [] = 0
sizes (item ∷ rest) = item.0 + sizes rest

any_kept : (p : Saying → Bool) (o : Option Saying) (others : List Saying) → list_any p others ≡ true → list_any p (with_carried o others) ≡ true
any_kept p None others h = h
any_kept p (Some s) others h = ap (λ b. p s || b) h ∙ or_true (p s) where
  or_true : (b : Bool) → (b || true) ≡ true
  or_true true = refl
  or_true false = refl

any_within : (p : Saying → Bool) (b : Bool) (o : Option Saying) (others : List Saying) → list_any p others ≡ true → list_any p (cond b (with_carried o others) others) ≡ true
any_within p true o others h = any_kept p o others h
any_within p false o others h = h

any_here : (p : Saying → Bool) (s : Saying) (others : List Saying) → p s ≡ true → list_any p (s ∷ others) ≡ true
any_here p s others h = ap (λ b. b || list_any p others) h

tests_hold : (low high stop : ℕ) → low < stop → stop ≤ high → (nat_lt low stop && nat_le stop high) ≡ true
tests_hold low high stop lt le = grind (arith, nat_tests)

-- an item that ends there is one of those, and what it carries is found
pub ends_within : (p : Saying → Bool) (low high at : ℕ) (xs : List Arriving) (item : Arriving) (ys : List Arriving) (s : Saying) → item.1 ≡ Some s → p s ≡ true → low < (at + sizes xs) + item.0 → (at + sizes xs) + item.0 ≤ high → list_any p (ending_within low high at (xs ++ item ∷ ys)) ≡ true
ends_within p low high at [] item ys s is here lt le =
    ap (λ b. list_any p (cond b (with_carried item.1 (ending_within low high (at + item.0) ys)) (ending_within low high (at + item.0) ys))) (tests_hold low high (at + item.0) (less at item.0 low lt) (most at item.0 high le))
    ∙ ap (λ (o : Option Saying). list_any p (with_carried o (ending_within low high (at + item.0) ys))) is ∙ any_here p s (ending_within low high (at + item.0) ys) here
  where
    less : (a n l : ℕ) → l < (a + 0) + n → l < a + n
    less a n l h = omega arith

    most : (a n h : ℕ) → (a + 0) + n ≤ h → a + n ≤ h
    most a n h le = omega arith
ends_within p low high at (x ∷ xs) item ys s is here lt le = any_within p (nat_lt low (at + x.0) && nat_le (at + x.0) high) x.1 (ending_within low high (at + x.0) (xs ++ item ∷ ys))
    (ends_within p low high (at + x.0) xs item ys s is here (less at x.0 (sizes xs) item.0 low lt) (most at x.0 (sizes xs) item.0 high le))
  where
    less : (a m k n l : ℕ) → l < (a + (m + k)) + n → l < ((a + m) + k) + n
    less a m k n l h = omega arith

    most : (a m k n h : ℕ) → (a + (m + k)) + n ≤ h → ((a + m) + k) + n ≤ h
    most a m k n h le = omega arith

-- ---- pieces

-- how many bytes pieces have
abbrev pub total : List (List ℕ) → ℕ
total [] = 0
total (piece ∷ rest) = length piece + total rest

-- the payloads in pieces
abbrev pub datas_of : List (List ℕ) → List (ℕ × List ℕ)
datas_of pieces = filter_map data_in pieces

abbrev with_piece : List Saying → List (ℕ × List ℕ) → ℕ → List ℕ → List (List ℕ) → Option (ℕ × List ℕ) → List Arriving
with_piece said before n piece rest o = elim o as (λ o. List Arriving) [
  | None ↦ (length piece, None) ∷ arriving_behind said before n rest
  | Some d ↦ (length piece, carried_next said n (first_payload d.0 before)) ∷ arriving_behind said (before ++ d ∷ []) (carried_after (first_payload d.0 before) n) rest
]

pub behind_sizes : (said : List Saying) (before : List (ℕ × List ℕ)) (n : ℕ) (xs : List (List ℕ)) → sizes (arriving_behind said before n xs) ≡ total xs
behind_sizes said before n [] = refl
behind_sizes said before n (piece ∷ rest) = by_data (data_in piece) (λ b k. behind_sizes said b k rest) where
  by_data : (o : Option (ℕ × List ℕ)) → ((b : List (ℕ × List ℕ)) (k : ℕ) → sizes (arriving_behind said b k rest) ≡ total rest) → sizes (with_piece said before n piece rest o) ≡ length piece + total rest
  by_data None same = ap (λ (k : ℕ). length piece + k) (same before n)
  by_data (Some d) same = ap (λ (k : ℕ). length piece + k) (same (before ++ d ∷ []) (carried_after (first_payload d.0 before) n))

after_add : (o : Option (List ℕ)) (n k : ℕ) → carried_after o n + k ≡ n + carried_after o k
after_add None n k = refl
after_add (Some opening) n k = one_more n k where
  one_more : (a b : ℕ) → suc a + b ≡ a + suc b
  one_more a b = omega arith

none_more : (n : ℕ) → n ≡ n + 0
none_more n = omega arith

-- pieces, and others behind them
pub behind_both : (said : List Saying) (before : List (ℕ × List ℕ)) (n : ℕ) (xs ys : List (List ℕ)) → arriving_behind said before n (xs ++ ys) ≡ arriving_behind said before n xs ++ arriving_behind said (before ++ datas_of xs) (n + carried_in before (datas_of xs)) ys
behind_both said before n [] ys = ap (λ (l : List (ℕ × List ℕ)). arriving_behind said l n ys) (sym (append-nil before)) ∙ ap (λ (k : ℕ). arriving_behind said (before ++ []) k ys) (none_more n)
behind_both said before n (piece ∷ rest) ys = by_data (data_in piece) (λ b k. behind_both said b k rest ys) where
  by_data : (o : Option (ℕ × List ℕ)) → ((b : List (ℕ × List ℕ)) (k : ℕ) → arriving_behind said b k (rest ++ ys) ≡ arriving_behind said b k rest ++ arriving_behind said (b ++ datas_of rest) (k + carried_in b (datas_of rest)) ys) → with_piece said before n piece (rest ++ ys) o ≡ with_piece said before n piece rest o ++ arriving_behind said (before ++ cons_option o (datas_of rest)) (n + carried_in before (cons_option o (datas_of rest))) ys
  by_data None both = ap (λ (l : List Arriving). (length piece, None) ∷ l) (both before n)
  by_data (Some d) both = ap (λ (l : List Arriving). (length piece, carried_next said n (first_payload d.0 before)) ∷ l) (both (before ++ d ∷ []) (carried_after (first_payload d.0 before) n)
      ∙ ap (λ (l : List (ℕ × List ℕ)). arriving_behind said (before ++ d ∷ []) (carried_after (first_payload d.0 before) n) rest ++ arriving_behind said l (carried_after (first_payload d.0 before) n + carried_in (before ++ d ∷ []) (datas_of rest)) ys) (append_assoc before (d ∷ []) (datas_of rest))
      ∙ ap (λ (k : ℕ). arriving_behind said (before ++ d ∷ []) (carried_after (first_payload d.0 before) n) rest ++ arriving_behind said (before ++ d ∷ datas_of rest) k ys) (after_add (first_payload d.0 before) n (carried_in (before ++ d ∷ []) (datas_of rest))))

-- the piece behind others carries what it says, by the first payload under its id
pub carries_next : (said : List Saying) (xs : List (List ℕ)) (piece : List ℕ) (ys : List (List ℕ)) (id : ℕ) (payload opening : List ℕ) (s : Saying) → data_in piece ≡ Some (id, payload) → first_payload id (datas_of xs) ≡ Some opening → slice_get said (carried_in [] (datas_of xs)) ≡ Some s
    → (others : List Arriving) × (arriving_behind said [] 0 (xs ++ piece ∷ ys) ≡ arriving_behind said [] 0 xs ++ (length piece, Some s) ∷ others)
carries_next said xs piece ys id payload opening s holds opened next = (others, behind_both said [] 0 xs (piece ∷ ys) ∙ ap (λ (o : Option (ℕ × List ℕ)). arriving_behind said [] 0 xs ++ with_piece said (datas_of xs) (0 + n) piece ys o) holds ∙ ap (λ (c : Option Saying). arriving_behind said [] 0 xs ++ (length piece, c) ∷ others) carried) where
  n : ℕ
  n = carried_in [] (datas_of xs)

  others : List Arriving
  others = arriving_behind said (datas_of xs ++ (id, payload) ∷ []) (carried_after (first_payload id (datas_of xs)) (0 + n)) ys

  zero_first : (k : ℕ) → 0 + k ≡ k
  zero_first k = omega arith

  carried : carried_next said (0 + n) (first_payload id (datas_of xs)) ≡ Some s
  carried = ap (carried_next said (0 + n)) opened ∙ ap (slice_get said) (zero_first n) ∙ next

-- ---- what has a place

-- a payload that has a place isn't the first under its id
pub place_there : (said : List Saying) (before : List (ℕ × List ℕ)) (n : ℕ) (xs ys : List Frame) (id : ℕ) (payload : List ℕ) (place : Place) → slice_get (placing said before n (xs ++ frames.Data id payload ∷ ys)) (length xs) ≡ Some (frames.Data id payload, Some place)
    → (opening : List ℕ) × (first_payload id (before ++ filter_map data_of xs) ≡ Some opening)
place_there said before n [] ys id payload place e = by_first (first_payload id before) refl (second (frames.Data id payload) (place_next said n (first_payload id before)) (Some place) e) where
  second : (f : Frame) (a b : Option Place) → ◌≡◌ {A = Option Placed} (Some (f, a)) (Some (f, b)) → a ≡ b
  second f a b e = ap place_in e where
    place_in : Option Placed → Option Place
    place_in None = None
    place_in (Some placed) = placed.1

  by_first : (o : Option (List ℕ)) → first_payload id before ≡ o → place_next said n o ≡ Some place → (opening : List ℕ) × (first_payload id (before ++ []) ≡ Some opening)
  by_first None f e = absurd cc
  by_first (Some opening) f e = (opening, ap (first_payload id) (append-nil before) ∙ f)
place_there said before n (frames.Data i p ∷ xs) ys id payload place e = let more = place_there said (before ++ (i, p) ∷ []) (carried_after (first_payload i before) n) xs ys id payload place e in (more.0, ap (first_payload id) (sym (append_assoc before ((i, p) ∷ []) (filter_map data_of xs))) ∙ more.1)
place_there said before n (frames.Created i ∷ xs) ys id payload place e = place_there said before n xs ys id payload place e
place_there said before n (frames.Closed i ∷ xs) ys id payload place e = place_there said before n xs ys id payload place e
place_there said before n (frames.EndClosed ∷ xs) ys id payload place e = place_there said before n xs ys id payload place e
place_there said before n (frames.Probe ∷ xs) ys id payload place e = place_there said before n xs ys id payload place e
place_there said before n (frames.ProbeAck ∷ xs) ys id payload place e = place_there said before n xs ys id payload place e
