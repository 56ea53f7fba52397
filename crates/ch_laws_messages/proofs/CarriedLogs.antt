-- What is collected in a log as it grows by one entry, and the payloads that a node has written towards another.
use Rattle.std.proofs.Common.{◌≡◌, ℕ, zero, suc, List, [], ◌∷◌, ◌++◌, take, refl, sym, ap, ◌∙◌, subst, append_assoc}
use Rattle.std.proofs.lemmas.List.{append-nil}
use Rattle.std.proofs.lemmas.List.Elements.{filter_map-append}
use Rattle.std.specs.List.{cons_option}
use Rattle.std.specs.Prelude.{filter_map, slice_get, Option, Some, None}
use Rattle.ch_wire.specs.declared.frame.Frame.{Frame}
use Rattle.ch_model.specs.declared.entry.Entry.{Entry}
use Rattle.ch_model.specs.AccountsItems.{data_of}
use Rattle.ch_model.specs.Logs.{collected, collected_after, kept_with, never}
use Rattle.ch_laws_peers.specs.Says.{written_by, frames_towards}
use Rattle.ch_laws_messages.specs.CarriedInTime.{datas_to}

-- ---- one more entry

-- what is so of no entry, and of one more, is so of each log
pub by_last : (P : List Entry → Type 0) → P [] → ((log : List Entry) (entry : Entry) → P log → P (log ++ entry ∷ [])) → (log : List Entry) → P log
by_last P none more log = from [] log none where
  from : (before xs : List Entry) → P before → P (before ++ xs)
  from before [] p = subst P (sym (append-nil before)) p
  from before (entry ∷ xs) p = subst P (append_assoc before (entry ∷ []) xs) (from (before ++ entry ∷ []) xs (more before entry p))

more_after : {B : Type 0} (look : List Entry → Entry → Option B) (before xs : List Entry) (kept : List B) (entry : Entry) → collected_after never look before kept (xs ++ entry ∷ []) ≡ kept_with (look (before ++ xs) entry) (collected_after never look before kept xs)
more_after look before [] kept entry = ap (λ (l : List Entry). kept_with (look l entry) kept) (sym (append-nil before))
more_after look before (x ∷ xs) kept entry = more_after look (before ++ x ∷ []) xs (kept_with (look before x) kept) entry ∙ ap (λ (l : List Entry). kept_with (look l entry) (collected_after never look (before ++ x ∷ []) (kept_with (look before x) kept) xs)) (append_assoc before (x ∷ []) xs)

pub collected_more : {B : Type 0} (look : List Entry → Entry → Option B) (log : List Entry) (entry : Entry) → collected never look (log ++ entry ∷ []) ≡ kept_with (look log entry) (collected never look log)
collected_more look log entry = more_after look [] log [] entry

-- Two looks that find the same of each entry, as long as S holds, collect the same.
pub collected_while : {B : Type 0} (S : List Entry → Type 0) (look alike : List Entry → Entry → Option B) → ((log : List Entry) (entry : Entry) → S (log ++ entry ∷ []) → S log) → ((log : List Entry) (entry : Entry) → S (log ++ entry ∷ []) → look log entry ≡ alike log entry)
    → (log : List Entry) → S log → collected never look log ≡ collected never alike log
collected_while S look alike before same = by_last (λ log. S log → collected never look log ≡ collected never alike log) (λ s. refl) more where
  more : (log : List Entry) (entry : Entry) → (S log → collected never look log ≡ collected never alike log) → S (log ++ entry ∷ []) → collected never look (log ++ entry ∷ []) ≡ collected never alike (log ++ entry ∷ [])
  more log entry h s = collected_more look log entry ∙ ap (λ o. kept_with o (collected never look log)) (same log entry s) ∙ ap (kept_with (alike log entry)) (h (before log entry s)) ∙ sym (collected_more alike log entry)

pub kept_behind : {B : Type 0} (o : Option B) (kept : List B) → kept_with o kept ≡ kept ++ cons_option o []
kept_behind None kept = sym (append-nil kept)
kept_behind (Some x) kept = refl

-- ---- what is written towards another

pub towards_more : (x y : List ℕ) (log : List Entry) (entry : Entry) → frames_towards x y (log ++ entry ∷ []) ≡ kept_with (written_by x y log entry) (frames_towards x y log)
towards_more x y log entry = collected_more (written_by x y) log entry

-- the payload that a frame carries, if it is there
abbrev pub data_with : Option Frame → Option (ℕ × List ℕ)
data_with None = None
data_with (Some frame) = data_of frame

-- the payload that this entry writes from x towards y
abbrev pub data_by : List ℕ → List ℕ → List Entry → Entry → Option (ℕ × List ℕ)
data_by x y log entry = data_with (written_by x y log entry)

pub datas_kept : (o : Option Frame) (all : List Frame) → filter_map data_of (kept_with o all) ≡ kept_with (data_with o) (filter_map data_of all)
datas_kept None all = refl
datas_kept (Some frame) all = filter_map-append data_of all (frame ∷ []) ∙ sym (kept_behind (data_of frame) (filter_map data_of all))

pub datas_more : (x y : List ℕ) (log : List Entry) (entry : Entry) → datas_to x y (log ++ entry ∷ []) ≡ kept_with (data_by x y log entry) (datas_to x y log)
datas_more x y log entry = ap (filter_map data_of) (towards_more x y log entry) ∙ datas_kept (written_by x y log entry) (frames_towards x y log)

-- ---- lists

pub got_front : {A : Type 0} (xs ys : List A) (n : ℕ) (x : A) → slice_get xs n ≡ Some x → slice_get (xs ++ ys) n ≡ Some x
got_front [] ys n x e = absurd cc
got_front (y ∷ xs) ys zero x e = e
got_front (y ∷ xs) ys (suc n) x e = got_front xs ys n x e

-- the first so many, and the next, if it is there
pub take_next : {A : Type 0} (n : ℕ) (xs : List A) → take (suc n) xs ≡ kept_with (slice_get xs n) (take n xs)
take_next zero [] = refl
take_next (suc n) [] = refl
take_next zero (x ∷ xs) = refl
take_next (suc n) (x ∷ xs) = ap (λ (l : List _). x ∷ l) (take_next n xs) ∙ cons_kept x (slice_get xs n) (take n xs) where
  cons_kept : {A : Type 0} (x : A) (o : Option A) (kept : List A) → x ∷ kept_with o kept ≡ kept_with o (x ∷ kept)
  cons_kept x None kept = refl
  cons_kept x (Some y) kept = refl
