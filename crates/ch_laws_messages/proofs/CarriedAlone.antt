-- Where one end has written all frames of a node towards another, it had written all of them at each moment before.
use Rattle.std.proofs.Common.{◌≡◌, ◌⊎◌, inl, inr, ◌≤◌, ℕ, Bool, true, false, cond, not, ◌&&◌, ◌==◌, List, [], ◌∷◌, ◌++◌, length, refl, sym, ap, ◌∙◌, subst, arith, length-append}
use Rattle.std.proofs.lemmas.Bool.{and_parts}
use Rattle.std.proofs.Math.Dec.{eqb-suc-zero}
use Rattle.std.proofs.lemmas.List.{append-nil, append_cancel_right}
use Rattle.std.proofs.lemmas.List.Elements.{filter_map-append}
use Rattle.std.specs.List.{cons_option}
use Rattle.std.specs.Prelude.{drop, filter_map, Option, Some, None}
use Rattle.ch_wire.specs.declared.frame.Frame.{Frame}
use Rattle.ch_model.specs.declared.entry.Entry.{Entry}
use Rattle.ch_model.specs.declared.entry.Entry.TheVariants as entries
use Rattle.ch_model.specs.declared.name.End.{End}
use Rattle.ch_model.specs.declared.name.End.TheVariants.{O, T}
use Rattle.ch_model.specs.declared.name.SockName.{SockName}
use Rattle.ch_model.specs.AccountsItems.{frame_of, frames_of}
use Rattle.ch_model.specs.Logs.{kept_with}
use Rattle.ch_model.specs.Same.{is_end_of, same_socket, same_end}
use Rattle.ch_model.specs.Sockets.{writing, writings}
use Rattle.ch_laws_log.proofs.Stored.{same_is, self_same}
use Rattle.ch_laws_peers.specs.Says.{written_by, frames_towards}
use Rattle.ch_laws_messages.proofs.CarriedLogs.{by_last, kept_behind, towards_more}

-- ---- one end

pub same_end_self : (e : End) → same_end e e ≡ true
same_end_self O = refl
same_end_self T = refl

pub same_end_is : (a b : End) → same_end a b ≡ true → a ≡ b
same_end_is O O e = refl
same_end_is O T e = absurd cc
same_end_is T O e = absurd cc
same_end_is T T e = refl

pub wrote_here : (s : SockName) (e : End) (bytes : List ℕ) → writing s e (entries.Wrote s e bytes) ≡ Some bytes
wrote_here s e bytes = ap (λ (b : Bool). cond b (Some bytes) None) (ap (λ (b : Bool). b && same_end e e) (self_same s) ∙ same_end_self e)

-- the frame of an item that is written behind these
abbrev pub frame_at : List (List ℕ) → List ℕ → Option Frame
frame_at [] bytes = None
frame_at (first ∷ pieces) bytes = frame_of bytes

pub towards_at : (x y : List ℕ) (log : List Entry) (s : SockName) (e : End) (bytes : List ℕ) → is_end_of x y s e ≡ true → written_by x y log (entries.Wrote s e bytes) ≡ frame_at (writings log s e) bytes
towards_at x y log s e bytes is = ap (λ (b : Bool). (elim (b && not (length (writings log s e) == 0)) as (λ b. Option Frame) [ true ↦ frame_of bytes | false ↦ None ])) is ∙ by_pieces (writings log s e) where
  by_pieces : (pieces : List (List ℕ)) → (elim (not (length pieces == 0)) as (λ b. Option Frame) [ true ↦ frame_of bytes | false ↦ None ]) ≡ frame_at pieces bytes
  by_pieces [] = refl
  by_pieces (first ∷ pieces) = ap (λ (b : Bool). (elim (not b) as (λ b. Option Frame) [ true ↦ frame_of bytes | false ↦ None ])) (eqb-suc-zero (length pieces))

-- and of an item that may be
abbrev frame_with : List (List ℕ) → Option (List ℕ) → Option Frame
frame_with pieces None = None
frame_with pieces (Some bytes) = frame_at pieces bytes

frames_next : (log : List Entry) (entry : Entry) (s : SockName) (e : End) → frames_of (log ++ entry ∷ []) s e ≡ kept_with (frame_with (writings log s e) (writing s e entry)) (frames_of log s e)
frames_next log entry s e = ap (λ (l : List (List ℕ)). filter_map frame_of (drop 1 l)) (filter_map-append (writing s e) log (entry ∷ [])) ∙ by_pieces (writings log s e) (writing s e entry) where
  by_pieces : (pieces : List (List ℕ)) (o : Option (List ℕ)) → filter_map frame_of (drop 1 (pieces ++ cons_option o [])) ≡ kept_with (frame_with pieces o) (filter_map frame_of (drop 1 pieces))
  by_pieces [] None = refl
  by_pieces [] (Some piece) = refl
  by_pieces (first ∷ pieces) None = ap (filter_map frame_of) (append-nil pieces)
  by_pieces (first ∷ pieces) (Some piece) = filter_map-append frame_of pieces (piece ∷ []) ∙ sym (kept_behind (frame_of piece) (filter_map frame_of pieces))

pub frames_here : (log : List Entry) (s : SockName) (e : End) (bytes : List ℕ) → frames_of (log ++ entries.Wrote s e bytes ∷ []) s e ≡ kept_with (frame_at (writings log s e) bytes) (frames_of log s e)
frames_here log s e bytes = frames_next log (entries.Wrote s e bytes) s e ∙ ap (λ (o : Option (List ℕ)). kept_with (frame_with (writings log s e) o) (frames_of log s e)) (wrote_here s e bytes)

-- ---- one more entry

-- what the entry adds to all frames it adds to those of the end, or nothing
record Adds (x y : List ℕ) (s : SockName) (e : End) (log : List Entry) (entry : Entry) : Type 0 where
  frame : Option Frame
  all : frames_towards x y (log ++ entry ∷ []) ≡ kept_with frame (frames_towards x y log)
  here : (frames_of (log ++ entry ∷ []) s e ≡ kept_with frame (frames_of log s e)) ⊎ (frames_of (log ++ entry ∷ []) s e ≡ frames_of log s e)

quiet_here : (log : List Entry) (entry : Entry) (s : SockName) (e : End) → writing s e entry ≡ None → frames_of (log ++ entry ∷ []) s e ≡ frames_of log s e
quiet_here log entry s e none = frames_next log entry s e ∙ ap (λ (o : Option (List ℕ)). kept_with (frame_with (writings log s e) o) (frames_of log s e)) none

adds : (x y : List ℕ) (s : SockName) (e : End) (log : List Entry) (entry : Entry) → is_end_of x y s e ≡ true → Adds x y s e log entry
adds x y s e log (entries.Wrote sock end bytes) is = by_test (same_socket sock s && same_end end e) refl where
  wrote : Entry
  wrote = entries.Wrote sock end bytes

  at_this : (t : SockName) (f : End) → t ≡ s → f ≡ e → frames_of (log ++ entries.Wrote t f bytes ∷ []) s e ≡ kept_with (written_by x y log (entries.Wrote t f bytes)) (frames_of log s e)
  at_this t f a b = subst (λ (t : SockName). frames_of (log ++ entries.Wrote t f bytes ∷ []) s e ≡ kept_with (written_by x y log (entries.Wrote t f bytes)) (frames_of log s e)) (sym a)
      (subst (λ (f : End). frames_of (log ++ entries.Wrote s f bytes ∷ []) s e ≡ kept_with (written_by x y log (entries.Wrote s f bytes)) (frames_of log s e)) (sym b)
      (frames_here log s e bytes ∙ ap (λ (o : Option Frame). kept_with o (frames_of log s e)) (sym (towards_at x y log s e bytes is))))

  by_test : (b : Bool) → (same_socket sock s && same_end end e) ≡ b → Adds x y s e log wrote
  by_test true h = let parts = and_parts (same_socket sock s) (same_end end e) h in record { frame = written_by x y log wrote; all = towards_more x y log wrote; here = inl (at_this sock end (same_is sock s parts.0) (same_end_is end e parts.1)) }
  by_test false h = record { frame = written_by x y log wrote; all = towards_more x y log wrote; here = inr (quiet_here log wrote s e (ap (λ (b : Bool). cond b (Some bytes) None) h)) }
adds x y s e log entry is = record { frame = None; all = towards_more x y log entry; here = inr (quiet_here log entry s e refl) }

-- ---- all of one end

none_fewer : (o : Option Frame) (few many : List Frame) → length few ≤ length many → length (kept_with o few) ≤ length (kept_with o many)
none_fewer None few many h = h
none_fewer (Some frame) few many h = let a = length-append few (frame ∷ []) in let b = length-append many (frame ∷ []) in omega arith

more_only : (o : Option Frame) (few many : List Frame) → length few ≤ length many → length few ≤ length (kept_with o many)
more_only None few many h = h
more_only (Some frame) few many h = let b = length-append many (frame ∷ []) in omega arith

-- an end has written no more than all
no_more : (x y : List ℕ) (s : SockName) (e : End) → is_end_of x y s e ≡ true → (log : List Entry) → length (frames_of log s e) ≤ length (frames_towards x y log)
no_more x y s e is = by_last (λ log. length (frames_of log s e) ≤ length (frames_towards x y log)) (omega arith) more where
  by_here : (log : List Entry) (entry : Entry) (a : Adds x y s e log entry) → (frames_of (log ++ entry ∷ []) s e ≡ kept_with a.frame (frames_of log s e)) ⊎ (frames_of (log ++ entry ∷ []) s e ≡ frames_of log s e)
      → length (frames_of log s e) ≤ length (frames_towards x y log) → length (frames_of (log ++ entry ∷ []) s e) ≤ length (frames_towards x y (log ++ entry ∷ []))
  by_here log entry a (inl h) few = subst (λ (l : List Frame). length l ≤ length (frames_towards x y (log ++ entry ∷ []))) (sym h) (subst (λ (l : List Frame). length (kept_with a.frame (frames_of log s e)) ≤ length l) (sym a.all) (none_fewer a.frame (frames_of log s e) (frames_towards x y log) few))
  by_here log entry a (inr h) few = subst (λ (l : List Frame). length l ≤ length (frames_towards x y (log ++ entry ∷ []))) (sym h) (subst (λ (l : List Frame). length (frames_of log s e) ≤ length l) (sym a.all) (more_only a.frame (frames_of log s e) (frames_towards x y log) few))

  more : (log : List Entry) (entry : Entry) → length (frames_of log s e) ≤ length (frames_towards x y log) → length (frames_of (log ++ entry ∷ []) s e) ≤ length (frames_towards x y (log ++ entry ∷ []))
  more log entry few = let a = adds x y s e log entry is in by_here log entry a a.here few

kept_same : (o : Option Frame) (one two : List Frame) → kept_with o one ≡ kept_with o two → one ≡ two
kept_same None one two h = h
kept_same (Some frame) one two h = append_cancel_right one two (frame ∷ []) h

kept_none : (o : Option Frame) (few many : List Frame) → length few ≤ length many → few ≡ kept_with o many → few ≡ many
kept_none None few many l h = h
kept_none (Some frame) few many l h = let a = ap length h in let b = length-append many (frame ∷ []) in absurd (omega arith)

-- the one end had written all before
pub all_before : (x y : List ℕ) (s : SockName) (e : End) (log : List Entry) (entry : Entry) → is_end_of x y s e ≡ true → frames_of (log ++ entry ∷ []) s e ≡ frames_towards x y (log ++ entry ∷ []) → frames_of log s e ≡ frames_towards x y log
all_before x y s e log entry is same = by_here a.here where
  a : Adds x y s e log entry
  a = adds x y s e log entry is

  by_here : (frames_of (log ++ entry ∷ []) s e ≡ kept_with a.frame (frames_of log s e)) ⊎ (frames_of (log ++ entry ∷ []) s e ≡ frames_of log s e) → frames_of log s e ≡ frames_towards x y log
  by_here (inl h) = kept_same a.frame (frames_of log s e) (frames_towards x y log) (sym h ∙ same ∙ a.all)
  by_here (inr h) = kept_none a.frame (frames_of log s e) (frames_towards x y log) (no_more x y s e is log) (sym h ∙ same ∙ a.all)

kept_empty : (o : Option Frame) (l : List Frame) → kept_with o l ≡ [] → (l ≡ []) × (o ≡ None)
kept_empty None l h = (h, refl)
kept_empty (Some frame) [] h = absurd cc
kept_empty (Some frame) (first ∷ l) h = absurd cc

-- and one that has written none had written none before
pub none_before : (x y : List ℕ) (s : SockName) (e : End) (log : List Entry) (entry : Entry) → is_end_of x y s e ≡ true → frames_of (log ++ entry ∷ []) s e ≡ [] → frames_of log s e ≡ []
none_before x y s e log entry is none = by_here a.here where
  a : Adds x y s e log entry
  a = adds x y s e log entry is

  by_here : (frames_of (log ++ entry ∷ []) s e ≡ kept_with a.frame (frames_of log s e)) ⊎ (frames_of (log ++ entry ∷ []) s e ≡ frames_of log s e) → frames_of log s e ≡ []
  by_here (inl h) = (kept_empty a.frame (frames_of log s e) (sym h ∙ none)).0
  by_here (inr h) = sym h ∙ none

-- nor does it write one now
pub none_now : (log : List Entry) (s : SockName) (e : End) (bytes : List ℕ) → frames_of (log ++ entries.Wrote s e bytes ∷ []) s e ≡ [] → frame_at (writings log s e) bytes ≡ None
none_now log s e bytes none = (kept_empty (frame_at (writings log s e) bytes) (frames_of log s e) (sym (frames_here log s e bytes) ∙ none)).1
