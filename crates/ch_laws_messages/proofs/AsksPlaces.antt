-- The places of what a message is written as, behind what was carried: they are told by how much is carried with it.
use Rattle.std.proofs.Common.{◌≡◌, ◌⊎◌, inl, inr, ℕ, suc, ◌+◌, Bool, cond, List, [], ◌∷◌, ◌++◌, length, refl, sym, ap, ◌∙◌, subst, arith}
use Rattle.std.proofs.lemmas.List.{length-append}
use Rattle.std.proofs.lemmas.List.Elements.{filter_map-append}
use Rattle.std.specs.Option.{option_map}
use Rattle.std.specs.Prelude.{drop, filter_map, slice_get, Option, Some, None}
use Rattle.ch_wire.specs.declared.frame.Frame.{Frame}
use Rattle.ch_wire.specs.declared.frame.Frame.TheVariants as frames
use Rattle.ch_model.specs.declared.line.Line.{Line}
use Rattle.ch_model.specs.declared.step.Place.{Place}
use Rattle.ch_model.specs.AccountsFrames.{Saying, payload_of}
use Rattle.ch_model.specs.AccountsItems.{frame_of, first_payload}
use Rattle.ch_laws_log.proofs.HostTold.{number_same}
use Rattle.ch_laws_plain.specs.Talks.{MaySpell}
use Rattle.ch_laws_peers.specs.Words.{Placed, carried_after, place_of, place_next, placing}
use Rattle.ch_laws_peers.specs.Reads.{frames_among, AreTruly}
use Rattle.ch_laws_messages.specs.WayGoes.{written_frames}
use Rattle.ch_laws_messages.proofs.WayLists.{datas_behind, count_behind, true_count, truly_placed, placed_all, frames_placed}
use Rattle.ch_laws_messages.proofs.WayPairs.{truly_behind}
use Rattle.ch_laws_messages.specs.SaidGoes.{bare, sent_next, sent_first}
use Rattle.ch_laws_messages.specs.SaidPuts.{spelled}
use Rattle.ch_laws_messages.proofs.SaidWritten.{frames_read}
use Rattle.ch_laws_messages.proofs.SaidWords.{got_last, first_more, first_later}
use Rattle.ch_laws_messages.specs.AsksMessages.{place_as, IsMessage, CarriesAll}

abbrev Data : Type 0
Data = ℕ × List ℕ

-- ---- counts

pub count_append : (before : List Data) (n : ℕ) (xs ys : List Frame) → count_behind before n (xs ++ ys) ≡ count_behind (datas_behind before xs) (count_behind before n xs) ys
count_append before n [] ys = refl
count_append before n (frames.Data id payload ∷ xs) ys = count_append (before ++ (id, payload) ∷ []) (carried_after (first_payload id before) n) xs ys
count_append before n (frames.Created id ∷ xs) ys = count_append before n xs ys
count_append before n (frames.Closed id ∷ xs) ys = count_append before n xs ys
count_append before n (frames.EndClosed ∷ xs) ys = count_append before n xs ys
count_append before n (frames.Probe ∷ xs) ys = count_append before n xs ys
count_append before n (frames.ProbeAck ∷ xs) ys = count_append before n xs ys

-- ---- a message

-- its payload alone is behind an opening, or its connection is opened with it
abbrev pub FollowsIn : List Data → List Placed → Saying → Type 0
FollowsIn before new s = ((id : ℕ) × (opening : List ℕ) × (new ≡ sent_next id s (place_as s)) × (first_payload id before ≡ Some opening)) ⊎ ((id : ℕ) × (opening : List ℕ) × (new ≡ sent_first id opening s (place_as s)) × (first_payload id before ≡ None))

-- so it is where one saying more is carried with it
pub counted : (before : List Data) (n : ℕ) (id : ℕ) (opening : List ℕ) (s : Saying) (new : List Placed) → IsMessage id opening s new → count_behind before n (bare new) ≡ suc n → FollowsIn before new s
counted before n id opening s new (inl is) count = by_first (first_payload id before) refl (subst (λ (l : List Placed). count_behind before n (bare l) ≡ suc n) is count) where
  none : n ≡ suc n → ⊥
  none e = omega arith

  by_first : (o : Option (List ℕ)) → first_payload id before ≡ o → carried_after (first_payload id before) n ≡ suc n → FollowsIn before new s
  by_first None e c = absurd (none (sym (ap (λ (o : Option (List ℕ)). carried_after o n) e) ∙ c))
  by_first (Some one) e c = inl (id, one, is, e)
counted before n id opening s new (inr is) count = by_first (first_payload id before) refl (subst (λ (l : List Placed). count_behind before n (bare l) ≡ suc n) is count) where
  twice : suc (suc n) ≡ suc n → ⊥
  twice e = omega arith

  by_first : (o : Option (List ℕ)) → first_payload id before ≡ o → carried_after (first_payload id (before ++ (id, opening) ∷ [])) (carried_after (first_payload id before) n) ≡ suc n → FollowsIn before new s
  by_first None e c = inr (id, opening, is, e)
  by_first (Some one) e c = absurd (twice (ap (λ (o : Option (List ℕ)). carried_after o (suc n)) (sym (first_more id before ((id, opening) ∷ []) one e)) ∙ ap (λ (o : Option (List ℕ)). carried_after (first_payload id (before ++ (id, opening) ∷ [])) (carried_after o n)) (sym e) ∙ c))

-- the first payload under an id that had none
opened_first : (id : ℕ) (before : List Data) (opening : List ℕ) → first_payload id before ≡ None → first_payload id (before ++ (id, opening) ∷ []) ≡ Some opening
opened_first id before opening e = first_later id before ((id, opening) ∷ []) e ∙ ap (λ (b : Bool). option_map (λ (d : Data). d.1) (cond b (Some (id, opening)) None)) (number_same id)

-- its places are those that the sayings give it
pub follows_placed : (said : List Saying) (before : List Data) (new : List Placed) (s : Saying) → FollowsIn before new s → placing (said ++ s ∷ []) before (length said) (frames_among new) ≡ new
follows_placed said before new s (inl k) = subst (λ (l : List Placed). placing (said ++ s ∷ []) before (length said) (frames_among l) ≡ l) (sym k.2)
    (ap (λ (p : Option Place). (frames.Data k.0 (payload_of s), p) ∷ []) (ap (place_next (said ++ s ∷ []) (length said)) k.3 ∙ ap place_of (got_last said s)))
follows_placed said before new s (inr k) = subst (λ (l : List Placed). placing (said ++ s ∷ []) before (length said) (frames_among l) ≡ l) (sym k.2)
    (ap (λ (p : Option Place). (frames.Created k.0, None) ∷ (frames.Data k.0 k.1, p) ∷ last) (ap (place_next (said ++ s ∷ []) (length said)) k.3)
    ∙ ap (λ (p : Option Place). (frames.Created k.0, None) ∷ (frames.Data k.0 k.1, None) ∷ (frames.Data k.0 (payload_of s), p) ∷ []) (last_place ∙ ap place_of (got_last said s)))
  where
    last : List Placed
    last = placing (said ++ s ∷ []) (before ++ (k.0, k.1) ∷ []) (carried_after (first_payload k.0 before) (length said)) (frames.Data k.0 (payload_of s) ∷ [])

    last_place : place_next (said ++ s ∷ []) (carried_after (first_payload k.0 before) (length said)) (first_payload k.0 (before ++ (k.0, k.1) ∷ [])) ≡ place_of (slice_get (said ++ s ∷ []) (length said))
    last_place = ap (λ (o : Option (List ℕ)). place_next (said ++ s ∷ []) (carried_after o (length said)) (first_payload k.0 (before ++ (k.0, k.1) ∷ []))) k.3 ∙ ap (place_next (said ++ s ∷ []) (length said)) (opened_first k.0 before k.1 k.3)

-- ---- behind what was written

-- What follows in a message's place, where as many sayings are carried before it as there were, and one more with it, at the end of one socket.
module _ (journal : List Line) (said : List Saying) (s : Saying) (wrote : List (List ℕ)) (new : List Placed) (id : ℕ) (opening : List ℕ) (goes : IsMessage id opening s new) (may : MaySpell (bare new))
    (before : CarriesAll journal said wrote) (after : CarriesAll journal (said ++ s ∷ []) (wrote ++ spelled new)) where
  abbrev there : List Frame
  there = filter_map frame_of (drop 1 wrote)

  abbrev now : List Frame
  now = filter_map frame_of (drop 1 (wrote ++ spelled new))

  counts : count_behind [] 0 there ≡ length said
  counts = sym (ap (count_behind [] 0) (frames_placed said [] 0 there)) ∙ true_count journal said [] 0 (length said) (written_frames said wrote) before

  one_longer : length (said ++ s ∷ []) ≡ suc (length said)
  one_longer = length-append said (s ∷ []) ∙ plus (length said) where
    plus : (n : ℕ) → n + 1 ≡ suc n
    plus n = omega arith

  counts_now : count_behind [] 0 now ≡ suc (length said)
  counts_now = sym (ap (count_behind [] 0) (frames_placed (said ++ s ∷ []) [] 0 now)) ∙ true_count journal (said ++ s ∷ []) [] 0 (length (said ++ s ∷ [])) (written_frames (said ++ s ∷ []) (wrote ++ spelled new)) after ∙ one_longer

  -- where nothing was written, what is written first is no frame that is read
  at_first : IsMessage id opening s new → count_behind [] 0 (filter_map frame_of (drop 1 (spelled new))) ≡ suc (length said) → FollowsIn [] new s
  at_first (inl is) c = absurd (none (length said) (subst (λ (l : List Placed). count_behind [] 0 (filter_map frame_of (drop 1 (spelled l))) ≡ suc (length said)) is c)) where
    none : (n : ℕ) → 0 ≡ suc n → ⊥
    none n e = omega arith
  at_first (inr is) c = inr (id, opening, is, refl)

  follows : FollowsIn (datas_behind [] there) new s
  follows = by_wrote wrote counts counts_now where
    by_wrote : (w : List (List ℕ)) → count_behind [] 0 (filter_map frame_of (drop 1 w)) ≡ length said → count_behind [] 0 (filter_map frame_of (drop 1 (w ++ spelled new))) ≡ suc (length said) → FollowsIn (datas_behind [] (filter_map frame_of (drop 1 w))) new s
    by_wrote [] c d = at_first goes d
    by_wrote (first ∷ rest) c d = counted (datas_behind [] (filter_map frame_of rest)) (length said) id opening s new goes
        (sym (ap (λ (n : ℕ). count_behind (datas_behind [] (filter_map frame_of rest)) n (bare new)) c) ∙ sym (count_append [] 0 (filter_map frame_of rest) (bare new)) ∙ sym (ap (count_behind [] 0) (filter_map-append frame_of rest (spelled new) ∙ ap (λ (l : List Frame). filter_map frame_of rest ++ l) (frames_read new may))) ∙ d)

  pub behind_true : AreTruly (said ++ s ∷ []) (written_frames said wrote ++ new)
  behind_true = truly_behind (said ++ s ∷ []) (written_frames said wrote) new (truly_placed journal said (s ∷ []) [] 0 (length said) (written_frames said wrote) before (placed_all said [] 0 there))
      (ap (λ (l : List Frame). placing (said ++ s ∷ []) (datas_behind [] l) (count_behind [] 0 l) (frames_among new)) (frames_placed said [] 0 there) ∙ ap (λ (n : ℕ). placing (said ++ s ∷ []) (datas_behind [] there) n (frames_among new)) counts ∙ follows_placed said (datas_behind [] there) new s follows)
