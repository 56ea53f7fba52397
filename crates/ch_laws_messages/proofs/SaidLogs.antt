-- What a log says of the frames of two nodes: those of the one end on which a node is up are all that it has written for the other.
use Rattle.std.proofs.Common.{◌≡◌, ◌⊎◌, inl, inr, ℕ, Bool, true, false, cond, not, ◌&&◌, ◌==◌, List, [], ◌∷◌, ◌++◌, length, refl, sym, ap, ◌∙◌, subst, append_assoc}
use Rattle.std.proofs.lemmas.Bool.{and_parts}
use Rattle.std.proofs.Math.Dec.{eqb-suc-zero}
use Rattle.std.proofs.lemmas.List.{append-nil}
use Rattle.std.proofs.lemmas.List.Elements.{filter_map-append}
use Rattle.std.specs.List.{cons_option}
use Rattle.std.specs.Prelude.{drop, filter_map, Option, Some, None}
use Rattle.ch_link.specs.declared.LinkState.{LinkState}
use Rattle.ch_link.specs.declared.LinkState.TheVariants.{Up}
use Rattle.ch_wire.specs.declared.frame.Frame.{Frame}
use Rattle.ch_model.specs.declared.entry.Entry.{Entry}
use Rattle.ch_model.specs.declared.entry.Entry.TheVariants as entries
use Rattle.ch_model.specs.declared.name.End.{End}
use Rattle.ch_model.specs.declared.name.End.TheVariants.{O, T}
use Rattle.ch_model.specs.declared.name.SockName.{SockName}
use Rattle.ch_model.specs.AccountsItems.{frame_of, frames_of}
use Rattle.ch_model.specs.HostWrites.{is_up}
use Rattle.ch_model.specs.Logs.{collected_after, kept_with, never}
use Rattle.ch_model.specs.Same.{is_end_of, same_socket, same_end}
use Rattle.ch_model.specs.Sockets.{writing, writings}
use Rattle.ch_model.specs.WorldSockets.{find_end}
use Rattle.ch_model.specs.WorldState.{World}
use Rattle.ch_race.specs.Pair.{Side, other}
use Rattle.ch_laws_race.specs.Scene.{Party, link_of}
use Rattle.ch_laws_calls.specs.Scenes.{scene_of}
use Rattle.ch_laws_log.proofs.Stored.{same_is, self_same}
use Rattle.ch_laws_peers.specs.Says.{written_by, frames_towards, IsUpOn}
use Rattle.ch_laws_messages.specs.SaidGoes.{frames_to, IsOne}
use Rattle.ch_laws_messages.proofs.PayloadsOwners.{back_none, front_none}
use Rattle.ch_laws_messages.proofs.CarriedLogs.{by_last}
use Rattle.ch_laws_messages.proofs.CarriedAlone.{same_end_is}

-- ---- one more entry

pub collected_more : {B : Type 0} (look : List Entry → Entry → Option B) (before xs : List Entry) (kept : List B) (entry : Entry) → collected_after never look before kept (xs ++ entry ∷ []) ≡ kept_with (look (before ++ xs) entry) (collected_after never look before kept xs)
collected_more look before [] kept entry = ap (λ (l : List Entry). kept_with (look l entry) kept) (sym (append-nil before))
collected_more look before (x ∷ xs) kept entry = collected_more look (before ++ x ∷ []) xs (kept_with (look before x) kept) entry ∙ ap (λ (l : List Entry). kept_with (look l entry) (collected_after never look (before ++ x ∷ []) (kept_with (look before x) kept) xs)) (append_assoc before (x ∷ []) xs)

pub towards_more : (x y : List ℕ) (log : List Entry) (entry : Entry) → frames_towards x y (log ++ entry ∷ []) ≡ kept_with (written_by x y log entry) (frames_towards x y log)
towards_more x y log entry = collected_more (written_by x y) [] log [] entry

-- the frame of an item that is written behind these
abbrev pub later : List (List ℕ) → Option (List ℕ) → List Frame
later [] piece = []
later (first ∷ pieces) piece = filter_map frame_of (cons_option piece [])

pub frames_more : (log : List Entry) (entry : Entry) (s : SockName) (e : End) → frames_of (log ++ entry ∷ []) s e ≡ frames_of log s e ++ later (writings log s e) (writing s e entry)
frames_more log entry s e = ap (λ (l : List (List ℕ)). filter_map frame_of (drop 1 l)) (filter_map-append (writing s e) log (entry ∷ [])) ∙ by_pieces (writings log s e) (writing s e entry) where
  by_pieces : (pieces : List (List ℕ)) (o : Option (List ℕ)) → filter_map frame_of (drop 1 (pieces ++ cons_option o [])) ≡ filter_map frame_of (drop 1 pieces) ++ later pieces o
  by_pieces [] None = refl
  by_pieces [] (Some piece) = refl
  by_pieces (first ∷ pieces) o = filter_map-append frame_of pieces (cons_option o [])

-- the entry writes nothing
abbrev pub IsSilent : Entry → Type 0
IsSilent entry = (s : SockName) (e : End) → writing s e entry ≡ None

pub same_self : (e : End) → same_end e e ≡ true
same_self O = refl
same_self T = refl

silent_by : (x y : List ℕ) (log : List Entry) (entry : Entry) → IsSilent entry → written_by x y log entry ≡ None
silent_by x y log (entries.Wrote sock end bytes) silent = let no : Some bytes ≡ None = sym (ap (λ (b : Bool). cond b (Some bytes) None) (ap (λ (b : Bool). b && same_end end end) (self_same sock) ∙ same_self end)) ∙ silent sock end in absurd cc
silent_by x y log entry silent = refl

pub silent_towards : (x y : List ℕ) (log : List Entry) (entry : Entry) → IsSilent entry → frames_towards x y (log ++ entry ∷ []) ≡ frames_towards x y log
silent_towards x y log entry silent = towards_more x y log entry ∙ ap (λ (o : Option Frame). kept_with o (frames_towards x y log)) (silent_by x y log entry silent)

pub silent_frames : (log : List Entry) (entry : Entry) (s : SockName) (e : End) → IsSilent entry → frames_of (log ++ entry ∷ []) s e ≡ frames_of log s e
silent_frames log entry s e silent = frames_more log entry s e ∙ ap (λ (o : Option (List ℕ)). frames_of log s e ++ later (writings log s e) o) (silent s e) ∙ by_pieces (writings log s e) where
  by_pieces : (pieces : List (List ℕ)) → frames_of log s e ++ later pieces None ≡ frames_of log s e
  by_pieces [] = append-nil (frames_of log s e)
  by_pieces (first ∷ pieces) = append-nil (frames_of log s e)

-- ---- one end, or none

abbrev pub is_chosen : Option (SockName × End) → SockName → End → Bool
is_chosen None s e = false
is_chosen (Some at) s e = same_socket s at.0 && same_end e at.1

abbrev pub frames_at : Option (SockName × End) → List Entry → List Frame
frames_at None log = []
frames_at (Some at) log = frames_of log at.0 at.1

-- no other end of x towards y has written a frame
abbrev pub OthersNone : List ℕ → List ℕ → Option (SockName × End) → List Entry → Type 0
OthersNone x y o log = (s : SockName) (e : End) → is_end_of x y s e ≡ true → is_chosen o s e ≡ false → frames_of log s e ≡ []

others_before : (x y : List ℕ) (o : Option (SockName × End)) (log : List Entry) (entry : Entry) → OthersNone x y o (log ++ entry ∷ []) → OthersNone x y o log
others_before x y o log entry n s e is off = front_none (frames_of log s e) (later (writings log s e) (writing s e entry)) (sym (frames_more log entry s e) ∙ n s e is off)

pub kept_is : (o : Option Frame) (kept : List Frame) → kept_with o kept ≡ kept ++ cons_option o []
kept_is None kept = sym (append-nil kept)
kept_is (Some frame) kept = refl

one_frame : (bytes : List ℕ) → filter_map frame_of (bytes ∷ []) ≡ cons_option (frame_of bytes) []
one_frame bytes = by_frame (frame_of bytes) where
  by_frame : (o : Option Frame) → cons_option o [] ≡ cons_option o []
  by_frame o = refl

none_frame : (o : Option Frame) → ◌≡◌ {A = List Frame} (cons_option o []) [] → o ≡ None
none_frame None e = refl
none_frame (Some frame) e = absurd cc

pub wrote_self : (s : SockName) (e : End) (bytes : List ℕ) → writing s e (entries.Wrote s e bytes) ≡ Some bytes
wrote_self s e bytes = ap (λ (b : Bool). cond b (Some bytes) None) (ap (λ (b : Bool). b && same_end e e) (self_same s) ∙ same_self e)

-- an item written at the end
at_end : (x y : List ℕ) (log : List Entry) (s : SockName) (e : End) (bytes : List ℕ) → is_end_of x y s e ≡ true → written_by x y log (entries.Wrote s e bytes) ≡ (elim (not (length (writings log s e) == 0)) [ true ↦ frame_of bytes | false ↦ None ])
at_end x y log s e bytes is = ap (λ (b : Bool). (elim (b && not (length (writings log s e) == 0)) as (λ b. Option Frame) [ true ↦ frame_of bytes | false ↦ None ])) is

same_pieces : (log : List Entry) (sock : SockName) (end : End) (bytes : List ℕ) (o : Option (SockName × End)) → is_chosen o sock end ≡ false → frames_at o (log ++ entries.Wrote sock end bytes ∷ []) ≡ frames_at o log
same_pieces log sock end bytes None h = refl
same_pieces log sock end bytes (Some at) h = frames_more log (entries.Wrote sock end bytes) at.0 at.1 ∙ ap (λ (b : Bool). frames_of log at.0 at.1 ++ later (writings log at.0 at.1) (cond b (Some bytes) None)) h ∙ by_pieces (writings log at.0 at.1) where
  by_pieces : (pieces : List (List ℕ)) → frames_of log at.0 at.1 ++ later pieces None ≡ frames_of log at.0 at.1
  by_pieces [] = append-nil (frames_of log at.0 at.1)
  by_pieces (first ∷ pieces) = append-nil (frames_of log at.0 at.1)

-- the frame of an item, where something was written before
abbrev framed : List (List ℕ) → List ℕ → Option Frame
framed pieces bytes = elim (not (length pieces == 0)) [ true ↦ frame_of bytes | false ↦ None ]

framed_behind : (bytes : List ℕ) (first : List ℕ) (pieces : List (List ℕ)) → framed (first ∷ pieces) bytes ≡ frame_of bytes
framed_behind bytes first pieces = ap (λ (b : Bool). (elim (not b) as (λ b. Option Frame) [ true ↦ frame_of bytes | false ↦ None ])) (eqb-suc-zero (length pieces))

no_frame : (bytes : List ℕ) (pieces : List (List ℕ)) → later pieces (Some bytes) ≡ [] → framed pieces bytes ≡ None
no_frame bytes [] e = refl
no_frame bytes (first ∷ pieces) e = framed_behind bytes first pieces ∙ none_frame (frame_of bytes) (sym (one_frame bytes) ∙ e)

-- at another end no frame was written
off_end : (x y : List ℕ) (o : Option (SockName × End)) (log : List Entry) (sock : SockName) (end : End) (bytes : List ℕ) → OthersNone x y o (log ++ entries.Wrote sock end bytes ∷ []) → is_chosen o sock end ≡ false → (b : Bool) → is_end_of x y sock end ≡ b → written_by x y log (entries.Wrote sock end bytes) ≡ None
off_end x y o log sock end bytes n off false h = ap (λ (b : Bool). (elim (b && not (length (writings log sock end) == 0)) as (λ b. Option Frame) [ true ↦ frame_of bytes | false ↦ None ])) h
off_end x y o log sock end bytes n off true h = at_end x y log sock end bytes h ∙ no_frame bytes (writings log sock end) (ap (later (writings log sock end)) (sym (wrote_self sock end bytes))
    ∙ back_none (frames_of log sock end) (later (writings log sock end) (writing sock end (entries.Wrote sock end bytes))) (sym (frames_more log (entries.Wrote sock end bytes) sock end) ∙ n sock end h off))

-- and at that end it stands behind the others
framed_more : (bytes : List ℕ) (before : List Frame) (pieces : List (List ℕ)) → kept_with (framed pieces bytes) before ≡ before ++ later pieces (Some bytes)
framed_more bytes before [] = sym (append-nil before)
framed_more bytes before (first ∷ pieces) = ap (λ (o : Option Frame). kept_with o before) (framed_behind bytes first pieces) ∙ kept_is (frame_of bytes) before ∙ ap (λ (l : List Frame). before ++ l) (sym (one_frame bytes))

on_end : (x y : List ℕ) (log : List Entry) (at : SockName × End) (bytes : List ℕ) → is_end_of x y at.0 at.1 ≡ true → kept_with (written_by x y log (entries.Wrote at.0 at.1 bytes)) (frames_of log at.0 at.1) ≡ frames_of (log ++ entries.Wrote at.0 at.1 bytes ∷ []) at.0 at.1
on_end x y log at bytes is = ap (λ (o : Option Frame). kept_with o (frames_of log at.0 at.1)) (at_end x y log at.0 at.1 bytes is) ∙ framed_more bytes (frames_of log at.0 at.1) (writings log at.0 at.1)
    ∙ ap (λ (o : Option (List ℕ)). frames_of log at.0 at.1 ++ later (writings log at.0 at.1) o) (sym (wrote_self at.0 at.1 bytes)) ∙ sym (frames_more log (entries.Wrote at.0 at.1 bytes) at.0 at.1)

-- the chosen end is one of x towards y
abbrev pub IsOfThese : List ℕ → List ℕ → Option (SockName × End) → Type 0
IsOfThese x y None = Unit {0}
IsOfThese x y (Some at) = is_end_of x y at.0 at.1 ≡ true

on_chosen : (x y : List ℕ) (log : List Entry) (sock : SockName) (end : End) (bytes : List ℕ) (o : Option (SockName × End)) → IsOfThese x y o → is_chosen o sock end ≡ true → kept_with (written_by x y log (entries.Wrote sock end bytes)) (frames_at o log) ≡ frames_at o (log ++ entries.Wrote sock end bytes ∷ [])
on_chosen x y log sock end bytes None is h = absurd cc
on_chosen x y log sock end bytes (Some at) is h = let parts = and_parts (same_socket sock at.0) (same_end end at.1) h in
    subst (λ (t : SockName). kept_with (written_by x y log (entries.Wrote t end bytes)) (frames_of log at.0 at.1) ≡ frames_of (log ++ entries.Wrote t end bytes ∷ []) at.0 at.1) (sym (same_is sock at.0 parts.0))
    (subst (λ (f : End). kept_with (written_by x y log (entries.Wrote at.0 f bytes)) (frames_of log at.0 at.1) ≡ frames_of (log ++ entries.Wrote at.0 f bytes ∷ []) at.0 at.1) (sym (same_end_is end at.1 parts.1)) (on_end x y log at bytes is))

one_more : (x y : List ℕ) (o : Option (SockName × End)) (log : List Entry) (sock : SockName) (end : End) (bytes : List ℕ) → IsOfThese x y o → OthersNone x y o (log ++ entries.Wrote sock end bytes ∷ []) → (b : Bool) → is_chosen o sock end ≡ b
    → kept_with (written_by x y log (entries.Wrote sock end bytes)) (frames_at o log) ≡ frames_at o (log ++ entries.Wrote sock end bytes ∷ [])
one_more x y o log sock end bytes is n true h = on_chosen x y log sock end bytes o is h
one_more x y o log sock end bytes is n false h = ap (λ (f : Option Frame). kept_with f (frames_at o log)) (off_end x y o log sock end bytes n h (is_end_of x y sock end) refl) ∙ sym (same_pieces log sock end bytes o h)

silent_at : (o : Option (SockName × End)) (log : List Entry) (entry : Entry) → IsSilent entry → frames_at o (log ++ entry ∷ []) ≡ frames_at o log
silent_at None log entry silent = refl
silent_at (Some at) log entry silent = silent_frames log entry at.0 at.1 silent

entry_more : (x y : List ℕ) (o : Option (SockName × End)) (log : List Entry) (entry : Entry) → IsOfThese x y o → OthersNone x y o (log ++ entry ∷ []) → frames_towards x y log ≡ frames_at o log → frames_towards x y (log ++ entry ∷ []) ≡ frames_at o (log ++ entry ∷ [])
entry_more x y o log (entries.Wrote sock end bytes) is n e = towards_more x y log (entries.Wrote sock end bytes) ∙ ap (kept_with (written_by x y log (entries.Wrote sock end bytes))) e ∙ one_more x y o log sock end bytes is n (is_chosen o sock end) refl
entry_more x y o log entry is n e = silent_towards x y log entry (λ s e. refl) ∙ e ∙ sym (silent_at o log entry (λ s e. refl))

start_at : (o : Option (SockName × End)) → frames_at o [] ≡ []
start_at None = refl
start_at (Some at) = refl

-- the frames of the one end are all
pub all_at : (x y : List ℕ) (o : Option (SockName × End)) (log : List Entry) → IsOfThese x y o → OthersNone x y o log → frames_towards x y log ≡ frames_at o log
all_at x y o log is = by_last (λ log. OthersNone x y o log → frames_towards x y log ≡ frames_at o log) (λ n. sym (start_at o)) (λ log entry more n. entry_more x y o log entry is n (more (others_before x y o log entry n))) log

-- ---- where frames are written only while x is up

abbrev pub number_of : LinkState → ℕ
number_of (Up number probed) = number
number_of state = 0

pub one_found : (a b : SockName × End) → ◌≡◌ {A = Option (SockName × End)} (Some a) (Some b) → a ≡ b
one_found a b e = cc

-- it is up on one end alone
pub same_place : (party : Side → Party) (world : World) (x : Side) (s : SockName) (e : End) (t : SockName) (f : End) → IsUpOn party world x s e → IsUpOn party world x t f → ◌≡◌ {A = SockName × End} (t, f) (s, e)
same_place party world x s e t f u v = one_found (t, f) (s, e) (sym v.found ∙ ap (λ (n : ℕ). find_end (party x).place n world.sockets) (ap number_of (sym v.up ∙ u.up)) ∙ u.found)

others_none : (party : Side → Party) (log : List Entry) (world : World) (x : Side) (s : SockName) (e : End) → IsUpOn party world x s e → (t : SockName) (f : End) → (same_socket t s && same_end f e) ≡ false → (frames_of log t f ≡ []) ⊎ IsUpOn party world x t f → frames_of log t f ≡ []
others_none party log world x s e u t f off (inl none) = none
others_none party log world x s e u t f off (inr v) =
    let same = same_place party world x s e t f u v in
    let yes : (same_socket t s && same_end f e) ≡ true = ap (λ (at : SockName × End). same_socket at.0 s && same_end at.1 e) same ∙ ap (λ (b : Bool). b && same_end e e) (self_same s) ∙ same_self e in
    let no : true ≡ false = sym yes ∙ off in absurd cc

-- the frames of the end that it is up on are all
pub at_up : (party : Side → Party) (x : Side) (log : List Entry) (world : World) → ((s : SockName) (e : End) → is_end_of (party x).name (party (other x)).name s e ≡ true → (frames_of log s e ≡ []) ⊎ IsUpOn party world x s e) → (s : SockName) (e : End) → is_end_of (party x).name (party (other x)).name s e ≡ true → IsUpOn party world x s e → frames_to party x log ≡ frames_of log s e
at_up party x log world each s e is u = all_at (party x).name (party (other x)).name (Some (s, e)) log is (λ t f at off. others_none party log world x s e u t f off (each t f at))

pub up_alone : (party : Side → Party) (x : Side) (log : List Entry) (world : World) → ((s : SockName) (e : End) → is_end_of (party x).name (party (other x)).name s e ≡ true → (frames_of log s e ≡ []) ⊎ IsUpOn party world x s e) → IsOne party x log world
up_alone party x log world each = record {
  one = λ s e is. by_end s e is (each s e is);
  down = λ off. all_at (party x).name (party (other x)).name None log tt (λ s e is h. none_down off s e (each s e is));
} where
  none_down : is_up (link_of (scene_of party world) x).state ≡ false → (s : SockName) (e : End) → (frames_of log s e ≡ []) ⊎ IsUpOn party world x s e → frames_of log s e ≡ []
  none_down off s e (inl none) = none
  none_down off s e (inr u) = let no : true ≡ false = sym (ap is_up u.up) ∙ off in absurd cc

  by_end : (s : SockName) (e : End) → is_end_of (party x).name (party (other x)).name s e ≡ true → (frames_of log s e ≡ []) ⊎ IsUpOn party world x s e → (frames_of log s e ≡ []) ⊎ (IsUpOn party world x s e × (frames_of log s e ≡ frames_to party x log))
  by_end s e is (inl none) = inl none
  by_end s e is (inr u) = inr (u, sym (at_up party x log world each s e is u))

-- so it is as one says of it
pub each_one : (party : Side → Party) (x : Side) (log : List Entry) (world : World) → IsOne party x log world → (s : SockName) (e : End) → is_end_of (party x).name (party (other x)).name s e ≡ true → (frames_of log s e ≡ []) ⊎ IsUpOn party world x s e
each_one party x log world o s e is = by_one (o.one s e is) where
  by_one : (frames_of log s e ≡ []) ⊎ (IsUpOn party world x s e × (frames_of log s e ≡ frames_to party x log)) → (frames_of log s e ≡ []) ⊎ IsUpOn party world x s e
  by_one (inl none) = inl none
  by_one (inr u) = inr u.0
