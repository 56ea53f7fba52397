-- A message that is got between two nodes is got after all that was written before it.
use Rattle.std.proofs.Common.{◌≡◌, ◌⊎◌, inl, inr, ℕ, zero, suc, ◌+◌, ◌<◌, ◌≤◌, Bool, true, false, cond, not, ◌&&◌, ◌||◌, List, [], ◌∷◌, ◌++◌, take, drop, refl, sym, ap, ◌∙◌, subst, arith}
use Rattle.std.proofs.lemmas.Bool.{and_parts, or_parts, cases_lt, lt-ltb}
use Rattle.std.proofs.lemmas.List.{map-append, take-append-drop}
use Rattle.std.proofs.lemmas.Iterator.Adapters.{position_from-zero}
use Rattle.std.proofs.lemmas.List.Elements.{filter_map-append}
use Rattle.std.proofs.lemmas.List.Folds.{list_all-append}
use Rattle.std.proofs.lemmas.Slice.Eq.{bytes_eq-Decides}
use Rattle.std.specs.List.{list_any, list_all, position_from}
use Rattle.std.specs.Prelude.{slice_get, position, Option, Some, None, nat_lt}
use Rattle.std.specs.Str.{bytes_eq}
use Rattle.ch_model.specs.declared.entry.Entry.{Entry}
use Rattle.ch_model.specs.declared.entry.Entry.TheVariants as entries
use Rattle.ch_model.specs.declared.line.Line.{Line}
use Rattle.ch_model.specs.declared.name.ProcName.{ProcName}
use Rattle.ch_model.specs.declared.name.TargetName.{TargetName}
use Rattle.ch_model.specs.AccountsFrames.{Saying, is_saying, carried, written_sayings}
use Rattle.ch_model.specs.AccountsItems.{first_payload}
use Rattle.ch_model.specs.AccountsMessages.{got_before, gets_in_order_written}
use Rattle.ch_model.specs.Epochs.{has_next_index}
use Rattle.ch_model.specs.Logs.{none_or, each}
use Rattle.ch_model.specs.Same.{node_of}
use Rattle.ch_model.specs.WorldState.{Cell, World}
use Rattle.ch_race.specs.Pair.{Side, other}
use Rattle.ch_laws_race.specs.Scene.{Party}
use Rattle.ch_laws_peers.specs.Words.{Placed, words_in, datas_in, word_of, carried_after, sayings}
use Rattle.ch_laws_peers.specs.Says.{towards}
use Rattle.ch_laws_peers.specs.Reads.{reads, read_of}
use Rattle.ch_laws_messages.specs.CarriedCounts.{carried_in}
use Rattle.ch_laws_messages.specs.CarriedNexts.{GetsNext, GotBelow, AllBelow}
use Rattle.ch_laws_messages.specs.CarriedWritten.{IsWritten}
use Rattle.ch_laws_ends.proofs.Places.{some_is}
use Rattle.ch_laws_messages.specs.ArrivedGets.{is_got}
use Rattle.ch_laws_messages.proofs.ArrivedEnding.{collected_grows}
use Rattle.ch_laws_messages.proofs.ArrivedSayings.{alone_after}
use Rattle.ch_laws_messages.proofs.SaidWords.{got_more}

-- ---- places in lists

-- the place that is found passes the test
found_at : {A : Type 0} (p : A → Bool) (i : ℕ) (xs : List A) (place : ℕ) → position_from p i xs ≡ Some place → (k : ℕ) × (t : A) × (place ≡ i + k) × (slice_get xs k ≡ Some t) × (p t ≡ true)
found_at p i [] place e = absurd cc
found_at {A = A} p i (x ∷ xs) place e = by_test (p x) refl e (found_at p (i + 1) xs place) where
  zero_last : (n : ℕ) → n ≡ n + 0
  zero_last n = omega arith

  one_more : (n k : ℕ) → (n + 1) + k ≡ n + suc k
  one_more n k = omega arith

  by_test : (b : Bool) → p x ≡ b → cond b (Some i) (position_from p (i + 1) xs) ≡ Some place → (position_from p (i + 1) xs ≡ Some place → (k : ℕ) × (t : A) × (place ≡ (i + 1) + k) × (slice_get xs k ≡ Some t) × (p t ≡ true)) → (k : ℕ) × (t : A) × (place ≡ i + k) × (slice_get (x ∷ xs) k ≡ Some t) × (p t ≡ true)
  by_test true h e more = (0, x, sym (some_is i place e) ∙ zero_last i, refl, h)
  by_test false h e more = let w = more e in (suc w.0, w.1, w.2 ∙ one_more i w.0, w.3, w.4)

-- it is the first
found_first : {A : Type 0} (p : A → Bool) (i : ℕ) (xs : List A) (place k : ℕ) (t : A) → position_from p i xs ≡ Some place → slice_get xs k ≡ Some t → p t ≡ true → place ≤ i + k
found_first p i [] place k t e at h = absurd cc
found_first p i (x ∷ xs) place k t e at h = by_test (p x) refl e k at (λ j g f. found_first p (i + 1) xs place j t f g h) where
  at_start : (n m : ℕ) → n ≤ n + m
  at_start n m = omega arith

  one_more : (n j a : ℕ) → a ≤ (n + 1) + j → a ≤ n + suc j
  one_more n j a le = omega arith

  by_test : (b : Bool) → p x ≡ b → cond b (Some i) (position_from p (i + 1) xs) ≡ Some place → (k : ℕ) → slice_get (x ∷ xs) k ≡ Some t → ((j : ℕ) → slice_get xs j ≡ Some t → position_from p (i + 1) xs ≡ Some place → place ≤ (i + 1) + j) → place ≤ i + k
  by_test true f e k at more = subst (λ (n : ℕ). n ≤ i + k) (some_is i place e) (at_start i k)
  by_test false f e zero at more = let no : true ≡ false = sym h ∙ ap p (sym (some_is x t at)) ∙ f in absurd cc
  by_test false f e (suc j) at more = one_more i j place (more j at e)

from_zero : {A : Type 0} (p : A → Bool) (xs : List A) (place : ℕ) → position p xs ≡ Some place → position_from p 0 xs ≡ Some place
from_zero p xs place e = sym (position_from-zero p xs) ∙ e

get_take : {A : Type 0} (k : ℕ) (xs : List A) (i : ℕ) (x : A) → slice_get xs i ≡ Some x → i < k → slice_get (take k xs) i ≡ Some x
get_take zero xs i x e lt = none_below i lt where
  none_below : {B : Type 0} (i : ℕ) → i < 0 → B
  none_below i l = absurd (omega arith)
get_take (suc k) [] i x e lt = e
get_take (suc k) (y ∷ xs) zero x e lt = e
get_take (suc k) (y ∷ xs) (suc i) x e lt = get_take k xs i x e (lower i k lt) where
  lower : (i j : ℕ) → suc i < suc j → i < j
  lower i j l = omega arith

get_below : {A : Type 0} (xs : List A) (m n : ℕ) (x : A) → slice_get xs n ≡ Some x → m ≤ n → (y : A) × (slice_get xs m ≡ Some y)
get_below [] m n x e le = absurd cc
get_below (y ∷ xs) zero n x e le = (y, refl)
get_below (y ∷ xs) (suc m) zero x e le = none_below m le where
  none_below : {B : Type 0} (i : ℕ) → suc i ≤ 0 → B
  none_below i l = absurd (omega arith)
get_below (y ∷ xs) (suc m) (suc n) x e le = get_below xs m n x e (lower m n le) where
  lower : (i j : ℕ) → suc i ≤ suc j → i ≤ j
  lower i j l = omega arith

-- ---- how many are carried

after_most : (o : Option (List ℕ)) (m n : ℕ) → m ≤ n → carried_after o m ≤ carried_after o n
after_most None m n le = le
after_most (Some opening) m n le = one_more m n le where
  one_more : (a b : ℕ) → a ≤ b → suc a ≤ suc b
  one_more a b l = omega arith

carried_front : (before xs ys : List (ℕ × List ℕ)) → carried_in before xs ≤ carried_in before (xs ++ ys)
carried_front before [] ys = least (carried_in before ys) where
  least : (n : ℕ) → 0 ≤ n
  least n = omega arith
carried_front before (d ∷ xs) ys = after_most (first_payload d.0 before) (carried_in (before ++ d ∷ []) xs) (carried_in (before ++ d ∷ []) (xs ++ ys)) (carried_front (before ++ d ∷ []) xs ys)

-- what was read is among what was written
read_within : (party : Side → Party) (world : World) (x : Side) (log : List Entry) → carried_in [] (read_of party world x log) ≤ carried_in [] (datas_in (words_in (towards (party x).name (party (other x)).name log)))
read_within party world x log = subst (λ (l : List (ℕ × List ℕ)). carried_in [] (read_of party world x log) ≤ carried_in [] l) (sym split) (carried_front [] (read_of party world x log) (datas_in (words_in (drop n all)))) where
  n : ℕ
  n = reads party world x log

  all : List Placed
  all = towards (party x).name (party (other x)).name log

  split : datas_in (words_in all) ≡ read_of party world x log ++ datas_in (words_in (drop n all))
  split = ap (λ (l : List Placed). datas_in (words_in l)) (sym (take-append-drop n all)) ∙ ap datas_in (filter_map-append word_of (take n all) (drop n all)) ∙ map-append _ (words_in (take n all)) (words_in (drop n all))

-- ---- what was got before

-- what is written carries the first of the sayings, and perhaps more; this one is the next that is got
record IsPlaced (said more : List Saying) (k n place : ℕ) : Type 0 where
  within : n ≤ k
  least : n ≤ place

-- what was got before has a lower place
earlier_below : (said more : List Saying) (k n place i : ℕ) (s : Saying) (p : Saying → Bool) → IsPlaced said more k n place → slice_get said i ≡ Some s → p s ≡ true → i < n → none_or (λ earlier. nat_lt earlier place) (position p (take k said ++ more)) ≡ true
earlier_below said more k n place i s p is at yes_it lt = by_place (position p (take k said ++ more)) refl where
  below : (j i n place : ℕ) → j ≤ 0 + i → i < n → n ≤ place → j < place
  below j i n place a b c = omega arith

  under : (i n k : ℕ) → i < n → n ≤ k → i < k
  under i n k a b = omega arith

  by_place : (o : Option ℕ) → position p (take k said ++ more) ≡ o → none_or (λ earlier. nat_lt earlier place) o ≡ true
  by_place None e = refl
  by_place (Some j) e = lt-ltb j place (below j i n place (found_first p 0 (take k said ++ more) j i s (from_zero p (take k said ++ more) j e) (got_more (take k said) more i s (get_take k said i s at (under i n k lt is.within))) yes_it) lt is.least)

-- this one has the place of the saying that it is, if that is written
placed_least : (said more : List Saying) (k n place : ℕ) (s : Saying) (p : Saying → Bool) → slice_get said n ≡ Some s → n ≤ k → ((m : ℕ) (t : Saying) → m < n → slice_get said m ≡ Some t → p t ≡ true → ⊥) → position p (take k said ++ more) ≡ Some place → n ≤ place
placed_least said more k n place s p at le alone e = by_order (cases_lt place n) (found_at p 0 (take k said ++ more) place (from_zero p (take k said ++ more) place e)) where
  under : (j n place : ℕ) → place ≡ 0 + j → place < n → j < n
  under j n place a b = omega arith

  no_more : (j n : ℕ) → j < n → j ≤ n
  no_more j n l = omega arith

  below : (j n k : ℕ) → j < n → n ≤ k → j < k
  below j n k a b = omega arith

  none : {B : Type 0} → ⊥ → B
  none h = absurd h

  by_order : (place < n) ⊎ (n ≤ place) → (j : ℕ) × (t : Saying) × (place ≡ 0 + j) × (slice_get (take k said ++ more) j ≡ Some t) × (p t ≡ true) → n ≤ place
  by_order (inr le) w = le
  by_order (inl lt) w =
      let lower : w.0 < n = under w.0 n place w.2 lt in
      let t = get_below said w.0 n s at (no_more w.0 n lower) in
      let same : w.1 ≡ t.0 = some_is w.1 t.0 (sym w.3 ∙ got_more (take k said) more w.0 t.0 (get_take k said w.0 t.0 t.1 (below w.0 n k lower le))) in
      none (alone w.0 t.0 lower t.1 (ap p (sym same) ∙ w.4))

-- so it is of each entry
one_before : (said more : List Saying) (k n place : ℕ) (x y : List ℕ) → IsPlaced said more k n place → (entry : Entry) → GotBelow x y said n entry → got_before (take k said ++ more) place x y entry ≡ true
one_before said more k n place x y is (entries.Got by to epoch index receiver) g = by_test (bytes_eq by.node x && bytes_eq (node_of to) y) refl where
  by_test : (b : Bool) → (bytes_eq by.node x && bytes_eq (node_of to) y) ≡ b → (not b || none_or (λ earlier. nat_lt earlier place) (position (is_saying by to epoch index) (take k said ++ more))) ≡ true
  by_test true h = let parts = and_parts (bytes_eq by.node x) (bytes_eq (node_of to) y) h in let w = g ((bytes_eq-Decides by.node x).0 parts.0) ((bytes_eq-Decides (node_of to) y).0 parts.1) in
      earlier_below said more k n place w.0 w.2.0 (is_saying by to epoch index) is w.2.1 w.2.2 w.1
  by_test false h = refl
one_before said more k n place x y is entry g = refl

all_before : (said more : List Saying) (k n place : ℕ) (x y : List ℕ) → IsPlaced said more k n place → (log : List Entry) → AllBelow x y said n log → list_all (got_before (take k said ++ more) place x y) log ≡ true
all_before said more k n place x y is [] a = refl
all_before said more k n place x y is (entry ∷ rest) a = ap (λ b. b && list_all (got_before (take k said ++ more) place x y) rest) (one_before said more k n place x y is entry a.0) ∙ all_before said more k n place x y is rest a.1

quiet_before : (sayings : List Saying) (place : ℕ) (x y : List ℕ) (told : List Entry) → list_any is_got told ≡ false → list_all (got_before sayings place x y) told ≡ true
quiet_before sayings place x y [] h = refl
quiet_before sayings place x y (entry ∷ told) h = let parts = or_parts (is_got entry) (list_any is_got told) h in ap (λ b. b && list_all (got_before sayings place x y) told) (one entry parts.0) ∙ quiet_before sayings place x y told parts.1 where
  one : (entry : Entry) → is_got entry ≡ false → got_before sayings place x y entry ≡ true
  one (entries.Got by to epoch index receiver) h = absurd cc
  one entry h = refl

-- ---- all of it

-- whatever is told before it in its turn, but for what is got
pub ordered_there : (journal : List Line) (log : List Entry) (world : World) (party : Side → Party) (x : Side) (cell : Cell × ℕ) (by : ProcName) (to : TargetName) (epoch index : ℕ) (receiver : Option ProcName) → IsWritten journal (party x).name (party (other x)).name log
    → AllBelow (party x).name (party (other x)).name (sayings (party x).name (party (other x)).name log) (carried_in [] (read_of party world x log)) log → each has_next_index log ≡ true → GetsNext log world party x cell by to epoch index → by.node ≡ (party x).name → node_of to ≡ (party (other x)).name
    → (told : List Entry) → list_any is_got told ≡ false → gets_in_order_written journal (log ++ told) (entries.Got by to epoch index receiver) ≡ true
ordered_there journal log world party x cell by to epoch index receiver wrote below numbered gets from goes told quiet = ap (λ (a : List ℕ). in_order a (node_of to)) from ∙ ap (in_order a) goes ∙ ordered where
  after : List Entry
  after = log ++ told

  a : List ℕ
  a = (party x).name

  b : List ℕ
  b = (party (other x)).name

  said : List Saying
  said = sayings a b log

  k : ℕ
  k = carried_in [] (datas_in (words_in (towards a b log)))

  n : ℕ
  n = carried_in [] (read_of party world x log)

  p : Saying → Bool
  p = is_saying by to epoch index

  in_list : List ℕ → List ℕ → List Saying → Bool
  in_list one two written = none_or (λ place. list_all (got_before written place one two) after) (position p written)

  in_order : List ℕ → List ℕ → Bool
  in_order one two = in_list one two (written_sayings journal after one two)

  grows : (more : List Saying) × (written_sayings journal after a b ≡ written_sayings journal log a b ++ more)
  grows = collected_grows (carried journal a b) log told

  more : List Saying
  more = grows.0

  by_place : (o : Option ℕ) → position p (take k said ++ more) ≡ o → none_or (λ place. list_all (got_before (take k said ++ more) place a b) after) o ≡ true
  by_place None e = refl
  by_place (Some place) e = list_all-append (got_before (take k said ++ more) place a b) log told ∙ ap (λ c. c && list_all (got_before (take k said ++ more) place a b) told) (all_before said more k n place a b is log below) ∙ quiet_before (take k said ++ more) place a b told quiet where
    is : IsPlaced said more k n place
    is = record {
      within = read_within party world x log;
      least = placed_least said more k n place gets.s p gets.next (read_within party world x log) (λ m t lt at yes_it. alone_after a b by to epoch index [] log numbered m n t gets.s lt at gets.next yes_it gets.is) e;
    }

  ordered : in_order a b ≡ true
  ordered = ap (in_list a b) (grows.1 ∙ ap (λ (l : List Saying). l ++ more) wrote.wrote) ∙ by_place (position p (take k said ++ more)) refl
