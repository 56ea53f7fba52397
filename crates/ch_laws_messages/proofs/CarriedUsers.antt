-- The users' payloads of a node towards another: all but the first under each id, so that they are as many as carry something.
use Rattle.std.proofs.Common.{◌≡◌, ◌⊎◌, inl, inr, ℕ, Bool, true, false, cond, not, ◌&&◌, ◌==◌, List, [], ◌∷◌, ◌++◌, length, refl, sym, ap, ◌∙◌, arith, length-append}
use Rattle.std.specs.Prelude.{drop, filter_map, Option, Some, None, is_some, if◌then◌else◌}
use Rattle.ch_wire.specs.declared.frame.Frame.{Frame}
use Rattle.ch_model.specs.declared.entry.Entry.{Entry}
use Rattle.ch_model.specs.declared.entry.Entry.TheVariants as entries
use Rattle.ch_model.specs.declared.line.Line.{Line}
use Rattle.ch_model.specs.declared.name.End.{End}
use Rattle.ch_model.specs.declared.name.SockName.{SockName}
use Rattle.ch_model.specs.AccountsFrames.{Saying, datas, is_user_data, user_data}
use Rattle.ch_model.specs.AccountsItems.{frame_of, frames_of, data_of, first_payload, opens_nodes}
use Rattle.ch_model.specs.Logs.{collected, kept_with, never, some_and}
use Rattle.ch_model.specs.Same.{is_end_of, owner, across}
use Rattle.ch_model.specs.Sockets.{writings}
use Rattle.ch_laws_peers.specs.Words.{carried_after}
use Rattle.ch_laws_peers.specs.Says.{frames_towards}
use Rattle.ch_laws_messages.specs.CarriedCounts.{carried_in, data_in}
use Rattle.ch_laws_messages.specs.CarriedInTime.{datas_to}
use Rattle.ch_laws_messages.proofs.CarriedLogs.{by_last, collected_more, collected_while, data_with, data_by, datas_more}
use Rattle.ch_laws_messages.proofs.CarriedCounting.{Data, carried_last}
use Rattle.ch_laws_messages.proofs.CarriedAlone.{frame_at, towards_at, all_before, none_now}
use Rattle.ch_laws_messages.proofs.CarriedSure.{Sure, sure_before}

-- ---- a payload behind others

-- the payload of an item that is written behind these
abbrev pub data_at : List (List ℕ) → List ℕ → Option Data
data_at pieces bytes = data_with (frame_at pieces bytes)

abbrev pub user_first : Data → Option (List ℕ) → Option Data
user_first d None = None
user_first d (Some opening) = Some d

-- a payload behind these is a user's, if it isn't the first under its id
abbrev pub user_of : List Data → Option Data → Option Data
user_of before None = None
user_of before (Some d) = user_first d (first_payload d.0 before)

abbrev chosen : Option Data → (Data → Bool) → Option Data
chosen o test = elim o [ None ↦ None | Some d ↦ if test d then Some d else None ]

chosen_as : (o : Option Data) (before : List Data) (test : Data → Bool) → ((d : Data) → test d ≡ is_some (first_payload d.0 before)) → chosen o test ≡ user_of before o
chosen_as None before test same = refl
chosen_as (Some d) before test same = ap (λ (b : Bool). cond b (Some d) None) (same d) ∙ by_first (first_payload d.0 before) where
  by_first : (f : Option (List ℕ)) → cond (is_some f) (Some d) None ≡ user_first d f
  by_first None = refl
  by_first (Some opening) = refl

behind_none : (o : Option Data) → user_of [] o ≡ None
behind_none None = refl
behind_none (Some d) = refl

pub data_in_is : (bytes : List ℕ) → data_in bytes ≡ data_with (frame_of bytes)
data_in_is bytes = by_frame (frame_of bytes) where
  by_frame : (o : Option Frame) → (elim o as (λ o. Option Data) [ None ↦ None | Some frame ↦ data_of frame ]) ≡ data_with o
  by_frame None = refl
  by_frame (Some frame) = refl

test_is : (journal : List Line) (log : List Entry) (s : SockName) (e : End) (before : List Data) (d : Data) → datas log s e ≡ before → ((id : ℕ) (opening : List ℕ) → first_payload id before ≡ Some opening → (u v : List ℕ) → opens_nodes journal u v opening ≡ false) → is_user_data journal log s e d ≡ is_some (first_payload d.0 before)
test_is journal log s e before d same none = ap (λ (l : List Data). some_and opens_none (first_payload d.0 l)) same ∙ by_first (first_payload d.0 before) refl where
  opens_none : List ℕ → Bool
  opens_none opening = not (opens_nodes journal (owner s e) (owner s (across e)) opening)

  by_first : (f : Option (List ℕ)) → first_payload d.0 before ≡ f → some_and opens_none f ≡ is_some f
  by_first None h = refl
  by_first (Some opening) h = ap not (none d.0 opening h (owner s e) (owner s (across e)))

-- ---- an entry

-- an item at an end of x towards y: it has no payload, or the end has written all before it
pub here : (journal : List Line) (x y : List ℕ) (said : List Saying) (log : List Entry) (s : SockName) (e : End) (bytes : List ℕ) → Sure journal x y said (log ++ entries.Wrote s e bytes ∷ []) → is_end_of x y s e ≡ true → (data_at (writings log s e) bytes ≡ None) ⊎ (datas log s e ≡ datas_to x y log)
here journal x y said log s e bytes k is = by_one (k.one s e is) where
  by_one : (frames_of (log ++ entries.Wrote s e bytes ∷ []) s e ≡ []) ⊎ (frames_of (log ++ entries.Wrote s e bytes ∷ []) s e ≡ frames_towards x y (log ++ entries.Wrote s e bytes ∷ [])) → (data_at (writings log s e) bytes ≡ None) ⊎ (datas log s e ≡ datas_to x y log)
  by_one (inl none) = inl (ap data_with (none_now log s e bytes none))
  by_one (inr all) = inr (ap (filter_map data_of) (all_before x y s e log (entries.Wrote s e bytes) is all))

user_here : (journal : List Line) (x y : List ℕ) (said : List Saying) (log : List Entry) (s : SockName) (e : End) (bytes : List ℕ) → Sure journal x y said (log ++ entries.Wrote s e bytes ∷ []) → is_end_of x y s e ≡ true → chosen (data_in bytes) (is_user_data journal log s e) ≡ user_of (datas_to x y log) (data_at (writings log s e) bytes)
user_here journal x y said log s e bytes k is = by_pieces (writings log s e) refl (here journal x y said log s e bytes k is) where
  wrote : Entry
  wrote = entries.Wrote s e bytes

  by_pieces : (pieces : List (List ℕ)) → writings log s e ≡ pieces → (data_at pieces bytes ≡ None) ⊎ (datas log s e ≡ datas_to x y log) → chosen (data_in bytes) (is_user_data journal log s e) ≡ user_of (datas_to x y log) (data_at pieces bytes)
  by_pieces [] h one = chosen_as (data_in bytes) [] (is_user_data journal log s e) (λ d. test_is journal log s e [] d (ap (λ (l : List (List ℕ)). filter_map data_of (filter_map frame_of (drop 1 l))) h) (λ id opening f u v. absurd cc)) ∙ behind_none (data_in bytes)
  by_pieces (first ∷ pieces) h (inl none) = ap (λ (o : Option Data). chosen o (is_user_data journal log s e)) (data_in_is bytes ∙ none) ∙ ap (user_of (datas_to x y log)) (sym none)
  by_pieces (first ∷ pieces) h (inr all) = chosen_as (data_in bytes) (datas_to x y log) (is_user_data journal log s e) (λ d. test_is journal log s e (datas_to x y log) d all (sure_before journal x y said log wrote k).openings) ∙ ap (user_of (datas_to x y log)) (data_in_is bytes)

-- the payload that it writes, if it is of x towards y
pub data_here : (x y : List ℕ) (log : List Entry) (s : SockName) (e : End) (bytes : List ℕ) → is_end_of x y s e ≡ true → data_by x y log (entries.Wrote s e bytes) ≡ data_at (writings log s e) bytes
data_here x y log s e bytes is = ap data_with (towards_at x y log s e bytes is)

pub data_off : (x y : List ℕ) (log : List Entry) (s : SockName) (e : End) (bytes : List ℕ) → is_end_of x y s e ≡ false → data_by x y log (entries.Wrote s e bytes) ≡ None
data_off x y log s e bytes h = ap (λ (b : Bool). data_with (elim (b && not (length (writings log s e) == 0)) as (λ b. Option Frame) [ true ↦ frame_of bytes | false ↦ None ])) h

-- the user's payload that the entry writes
pub user_by : (journal : List Line) (x y : List ℕ) (said : List Saying) (log : List Entry) (entry : Entry) → Sure journal x y said (log ++ entry ∷ []) → user_data journal x y log entry ≡ user_of (datas_to x y log) (data_by x y log entry)
user_by journal x y said log (entries.Wrote s e bytes) k = by_end (is_end_of x y s e) refl where
  by_end : (b : Bool) → is_end_of x y s e ≡ b → user_data journal x y log (entries.Wrote s e bytes) ≡ user_of (datas_to x y log) (data_by x y log (entries.Wrote s e bytes))
  by_end true h = ap (λ (b : Bool). cond b (chosen (data_in bytes) (is_user_data journal log s e)) None) h ∙ user_here journal x y said log s e bytes k h ∙ ap (user_of (datas_to x y log)) (sym (data_here x y log s e bytes h))
  by_end false h = ap (λ (b : Bool). cond b (chosen (data_in bytes) (is_user_data journal log s e)) None) h ∙ ap (user_of (datas_to x y log)) (sym (data_off x y log s e bytes h))
user_by journal x y said log entry k = refl

-- ---- how many

one_more : (before : List Data) (o : Option Data) (kept : List Data) → length kept ≡ carried_in [] before → length (kept_with (user_of before o) kept) ≡ carried_in [] (kept_with o before)
one_more before None kept h = h
one_more before (Some d) kept h = by_first (first_payload d.0 before) ∙ sym (carried_last before d) where
  by_first : (f : Option (List ℕ)) → length (kept_with (user_first d f) kept) ≡ carried_after f (carried_in [] before)
  by_first None = h
  by_first (Some opening) = let e = length-append kept (d ∷ []) in omega arith

-- a log's users' payloads of x towards y are as many as carry something
pub users_count : (journal : List Line) (x y : List ℕ) (said : List Saying) (log : List Entry) → Sure journal x y said log → length (collected never (user_data journal x y) log) ≡ carried_in [] (datas_to x y log)
users_count journal x y said log k = ap length (collected_while (Sure journal x y said) (user_data journal x y) found (sure_before journal x y said) (user_by journal x y said) log k) ∙ counted log where
  found : List Entry → Entry → Option Data
  found log entry = user_of (datas_to x y log) (data_by x y log entry)

  more : (log : List Entry) (entry : Entry) → length (collected never found log) ≡ carried_in [] (datas_to x y log) → length (collected never found (log ++ entry ∷ [])) ≡ carried_in [] (datas_to x y (log ++ entry ∷ []))
  more log entry h = ap length (collected_more found log entry) ∙ one_more (datas_to x y log) (data_by x y log entry) (collected never found log) h ∙ ap (carried_in []) (sym (datas_more x y log entry))

  counted : (log : List Entry) → length (collected never found log) ≡ carried_in [] (datas_to x y log)
  counted = by_last (λ log. length (collected never found log) ≡ carried_in [] (datas_to x y log)) refl more
