-- The frames that are written along a log: those of a front of it come first, and at the one end that writes them they are all.
use Rattle.std.proofs.Common.{◌≡◌, ◌⊎◌, inl, inr, ℕ, true, false, ◌==◌, List, [], ◌∷◌, ◌++◌, length, sym, ap, ◌∙◌, append_assoc}
use Rattle.std.proofs.lemmas.List.{append-nil}
use Rattle.std.proofs.lemmas.List.Elements.{filter_map-append}
use Rattle.std.specs.List.{cons_option}
use Rattle.std.specs.Prelude.{filter_map, Option, Some}
use Rattle.ch_wire.specs.declared.frame.Frame.{Frame}
use Rattle.ch_model.specs.declared.entry.Entry.{Entry}
use Rattle.ch_model.specs.declared.entry.Entry.TheVariants as entries
use Rattle.ch_model.specs.declared.name.End.{End}
use Rattle.ch_model.specs.declared.name.SockName.{SockName}
use Rattle.ch_model.specs.AccountsItems.{frame_of, frames_of, data_of}
use Rattle.ch_model.specs.Logs.{kept_with}
use Rattle.ch_model.specs.Same.{is_end_of}
use Rattle.ch_model.specs.Sockets.{writing, writings}
use Rattle.ch_laws_peers.specs.Says.{written_by, frames_towards}
use Rattle.ch_laws_messages.proofs.SaidLogs.{towards_more, later, frames_more, OthersNone, all_at, kept_is, wrote_self}
use Rattle.ch_laws_messages.specs.CarriedInTime.{datas_to}
use Rattle.ch_laws_messages.proofs.PayloadsOwners.{front_none}

-- ---- towards a node

pub towards_grow : (x y : List ℕ) (front rest : List Entry) → (more : List Frame) × (frames_towards x y (front ++ rest) ≡ frames_towards x y front ++ more)
towards_grow x y front [] = ([], ap (frames_towards x y) (append-nil front) ∙ sym (append-nil (frames_towards x y front)))
towards_grow x y front (entry ∷ rest) = with_rest (towards_grow x y (front ++ entry ∷ []) rest) where
  new : List Frame
  new = cons_option (written_by x y front entry) []

  with_rest : (more : List Frame) × (frames_towards x y ((front ++ entry ∷ []) ++ rest) ≡ frames_towards x y (front ++ entry ∷ []) ++ more) → (more : List Frame) × (frames_towards x y (front ++ entry ∷ rest) ≡ frames_towards x y front ++ more)
  with_rest m = (
    new ++ m.0,
    ap (frames_towards x y) (sym (append_assoc front (entry ∷ []) rest)) ∙ m.1
        ∙ ap (λ (l : List Frame). l ++ m.0) (towards_more x y front entry ∙ kept_is (written_by x y front entry) (frames_towards x y front)) ∙ append_assoc (frames_towards x y front) new m.0,
  )

-- a frame that is written stands behind those before it
pub towards_at : (x y : List ℕ) (front rest : List Entry) (entry : Entry) (frame : Frame) → written_by x y front entry ≡ Some frame → (more : List Frame) × (frames_towards x y (front ++ entry ∷ rest) ≡ frames_towards x y front ++ frame ∷ more)
towards_at x y front rest entry frame e = with_rest (towards_grow x y (front ++ entry ∷ []) rest) where
  with_rest : (more : List Frame) × (frames_towards x y ((front ++ entry ∷ []) ++ rest) ≡ frames_towards x y (front ++ entry ∷ []) ++ more) → (more : List Frame) × (frames_towards x y (front ++ entry ∷ rest) ≡ frames_towards x y front ++ frame ∷ more)
  with_rest m = (
    m.0,
    ap (frames_towards x y) (sym (append_assoc front (entry ∷ []) rest)) ∙ m.1
        ∙ ap (λ (l : List Frame). l ++ m.0) (towards_more x y front entry ∙ ap (λ (o : Option Frame). kept_with o (frames_towards x y front)) e) ∙ append_assoc (frames_towards x y front) (frame ∷ []) m.0,
  )

pub datas_grow : (x y : List ℕ) (front rest : List Entry) → (more : List (ℕ × List ℕ)) × (datas_to x y (front ++ rest) ≡ datas_to x y front ++ more)
datas_grow x y front rest = with_frames (towards_grow x y front rest) where
  with_frames : (more : List Frame) × (frames_towards x y (front ++ rest) ≡ frames_towards x y front ++ more) → (more : List (ℕ × List ℕ)) × (datas_to x y (front ++ rest) ≡ datas_to x y front ++ more)
  with_frames m = (filter_map data_of m.0, ap (filter_map data_of) m.1 ∙ filter_map-append data_of (frames_towards x y front) m.0)

-- ---- at an end

one_framed : (pieces : List (List ℕ)) (bytes : List ℕ) (frame : Frame) → (length pieces == 0) ≡ false → frame_of bytes ≡ Some frame → later pieces (Some bytes) ≡ frame ∷ []
one_framed [] bytes frame e f = absurd cc
one_framed (first ∷ pieces) bytes frame e f = ap (λ (o : Option Frame). cons_option o []) f

at_end : (front : List Entry) (s : SockName) (e : End) (bytes : List ℕ) (frame : Frame) → (length (writings front s e) == 0) ≡ false → frame_of bytes ≡ Some frame → frames_of (front ++ entries.Wrote s e bytes ∷ []) s e ≡ frames_of front s e ++ frame ∷ []
at_end front s e bytes frame first is = frames_more front (entries.Wrote s e bytes) s e
    ∙ ap (λ (o : Option (List ℕ)). frames_of front s e ++ later (writings front s e) o) (wrote_self s e bytes) ∙ ap (λ (l : List Frame). frames_of front s e ++ l) (one_framed (writings front s e) bytes frame first is)

none_before : (front rest : List Entry) (s : SockName) (e : End) → frames_of (front ++ rest) s e ≡ [] → frames_of front s e ≡ []
none_before front [] s e h = ap (λ (l : List Entry). frames_of l s e) (sym (append-nil front)) ∙ h
none_before front (entry ∷ rest) s e h = front_none (frames_of front s e) (later (writings front s e) (writing s e entry))
    (sym (frames_more front entry s e) ∙ none_before (front ++ entry ∷ []) rest s e (ap (λ (l : List Entry). frames_of l s e) (append_assoc front (entry ∷ []) rest) ∙ h))

some_last : {A : Type 0} (xs : List A) (x : A) → xs ++ x ∷ [] ≡ [] → ⊥
some_last [] x e = absurd cc
some_last (y ∷ xs) x e = absurd cc

not_none : (front rest : List Entry) (s : SockName) (e : End) (bytes : List ℕ) (frame : Frame) → (length (writings front s e) == 0) ≡ false → frame_of bytes ≡ Some frame → frames_of (front ++ entries.Wrote s e bytes ∷ rest) s e ≡ [] → ⊥
not_none front rest s e bytes frame first is h = some_last (frames_of front s e) frame (sym (at_end front s e bytes frame first is)
    ∙ none_before (front ++ entries.Wrote s e bytes ∷ []) rest s e (ap (λ (l : List Entry). frames_of l s e) (append_assoc front (entries.Wrote s e bytes ∷ []) rest) ∙ h))

-- each end of x towards y has written no frame, or no other end has
abbrev pub OneWrites : List ℕ → List ℕ → List Entry → Type 0
OneWrites x y log = (s : SockName) (e : End) → is_end_of x y s e ≡ true → (frames_of log s e ≡ []) ⊎ OthersNone x y (Some (s, e)) log

-- so where one writes a frame, those that it has written before are all
pub same_frames : (x y : List ℕ) (log : List Entry) → OneWrites x y log → (front rest : List Entry) (s : SockName) (e : End) (bytes : List ℕ) (frame : Frame) → front ++ entries.Wrote s e bytes ∷ rest ≡ log → is_end_of x y s e ≡ true
    → (length (writings front s e) == 0) ≡ false → frame_of bytes ≡ Some frame → frames_of front s e ≡ frames_towards x y front
same_frames x y log one front rest s e bytes frame at is first framed = by_one (one s e is) where
  by_one : (frames_of log s e ≡ []) ⊎ OthersNone x y (Some (s, e)) log → frames_of front s e ≡ frames_towards x y front
  by_one (inl none) = absurd (not_none front rest s e bytes frame first framed (ap (λ (l : List Entry). frames_of l s e) at ∙ none))
  by_one (inr others) = sym (all_at x y (Some (s, e)) front is (λ t f at_f off. none_before front (entries.Wrote s e bytes ∷ rest) t f (ap (λ (l : List Entry). frames_of l t f) at ∙ others t f at_f off)))
