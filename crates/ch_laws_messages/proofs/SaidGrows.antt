-- What was written and what waits, once more goes behind it.
use Rattle.std.proofs.Common.{◌≡◌, ◌⊎◌, inl, inr, ℕ, List, [], ◌++◌, sym, ap, ◌∙◌, subst}
use Rattle.std.proofs.lemmas.List.{append-nil, map-append}
use Rattle.ch_wire.specs.declared.frame.Frame.{Frame}
use Rattle.ch_model.specs.declared.line.Line.{Line}
use Rattle.ch_model.specs.declared.step.Weight.{Weight}
use Rattle.ch_model.specs.AccountsFrames.{Saying}
use Rattle.ch_laws_peers.specs.Words.{Placed, words_in, placing, waiting_as, TrueWords}
use Rattle.ch_laws_peers.specs.Says.{ArePlaced}
use Rattle.ch_laws_messages.specs.SaidGoes.{bare, all_of, Flows}
use Rattle.ch_laws_messages.proofs.SaidWords.{placed_append, placing_placed, placing_bare, placing_true}

bare_append : (xs ys : List Placed) → bare (xs ++ ys) ≡ bare xs ++ bare ys
bare_append xs ys = map-append (λ (one : Placed). one.0) xs ys

-- where nothing waits, or nothing was written, all that there is is this
one_side : (journal : List Line) (said : List Saying) (frames : List Frame) (waits : List (Frame × Weight)) (all : List Placed) (end : ℕ) → ArePlaced all → TrueWords journal said [] 0 (words_in all) end
    → ((waits ≡ []) × (frames ≡ bare all)) ⊎ ((frames ≡ []) × (waiting_as waits ≡ all)) → all_of said frames waits ≡ all
one_side journal said frames waits all end a t (inl k) = ap (λ (f : List Frame). placing said [] 0 f ++ waiting_as waits) k.1 ∙ ap (λ (w : List (Frame × Weight)). placing said [] 0 (bare all) ++ waiting_as w) k.0 ∙ append-nil (placing said [] 0 (bare all)) ∙ placing_true journal said [] 0 all end a t
one_side journal said frames waits all end a t (inr k) = ap (λ (f : List Frame). placing said [] 0 f ++ waiting_as waits) k.0 ∙ k.1

pub all_placed : (said : List Saying) (frames : List Frame) (waits : List (Frame × Weight)) → ArePlaced (waiting_as waits) → ArePlaced (all_of said frames waits)
all_placed said frames waits a = placed_append (placing said [] 0 frames) (waiting_as waits) (placing_placed said [] 0 frames) a

-- all that there is then is what was there before, and the new behind it
pub grown : (journal : List Line) (said now : List Saying) (frames : List Frame) (waits : List (Frame × Weight)) (frames_now : List Frame) (waits_now : List (Frame × Weight)) (new : List Placed) (end : ℕ) → ArePlaced (waiting_as waits) → ArePlaced new
    → TrueWords journal now [] 0 (words_in (all_of said frames waits ++ new)) end → Flows frames waits frames_now waits_now new → all_of now frames_now waits_now ≡ all_of said frames waits ++ new
grown journal said now frames waits frames_now waits_now new end a b t flows = one_side journal now frames_now waits_now (all_of said frames waits ++ new) end (placed_append (all_of said frames waits) new (all_placed said frames waits a) b) t (by_flow flows) where
  written : (ws : List (Frame × Weight)) → ws ≡ [] → frames_now ≡ frames ++ bare new → frames_now ≡ bare (all_of said frames ws ++ new)
  written ws none e = e ∙ ap (λ (f : List Frame). f ++ bare new) (sym (placing_bare said [] 0 frames)) ∙ sym (bare_append (placing said [] 0 frames) new)
      ∙ ap (λ (l : List Placed). bare (l ++ new)) (sym (append-nil (placing said [] 0 frames)) ∙ ap (λ (w : List (Frame × Weight)). placing said [] 0 frames ++ waiting_as w) (sym none))

  unwritten : (fs : List Frame) → fs ≡ [] → all_of said fs waits ≡ waiting_as waits
  unwritten fs none = ap (λ (f : List Frame). placing said [] 0 f ++ waiting_as waits) none

  by_flow : Flows frames waits frames_now waits_now new → ((waits_now ≡ []) × (frames_now ≡ bare (all_of said frames waits ++ new))) ⊎ ((frames_now ≡ []) × (waiting_as waits_now ≡ all_of said frames waits ++ new))
  by_flow (inl k) = inl (k.1, written waits k.0 k.2)
  by_flow (inr (inl k)) = inr (k.1, k.2 ∙ ap (λ (l : List Placed). l ++ new) (sym (unwritten frames k.0)))
  by_flow (inr (inr k)) = inl (k.1, k.2 ∙ ap (λ (l : List Placed). bare (l ++ new)) (sym (unwritten frames k.0)))

-- what waits then has its places
pub waits_placed : (frames : List Frame) (waits : List (Frame × Weight)) (frames_now : List Frame) (waits_now : List (Frame × Weight)) (new : List Placed) → ArePlaced (waiting_as waits) → ArePlaced new → Flows frames waits frames_now waits_now new → ArePlaced (waiting_as waits_now)
waits_placed frames waits frames_now waits_now new a b (inl k) = subst (λ (w : List (Frame × Weight)). ArePlaced (waiting_as w)) (sym k.1) tt
waits_placed frames waits frames_now waits_now new a b (inr (inl k)) = subst ArePlaced (sym k.2) (placed_append (waiting_as waits) new a b)
waits_placed frames waits frames_now waits_now new a b (inr (inr k)) = subst (λ (w : List (Frame × Weight)). ArePlaced (waiting_as w)) (sym k.1) tt
