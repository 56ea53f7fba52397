-- What each item carries that is written towards an end.
use Rattle.std.proofs.Common.{◌≡◌, ◌⊎◌, inl, inr, ℕ, Bool, true, false, cond, ◌&&◌, List, [], ◌∷◌, ◌++◌, length, refl, sym, ap, ◌∙◌, subst, append_assoc}
use Rattle.std.proofs.lemmas.Bool.{and_parts}
use Rattle.std.proofs.lemmas.List.{append-nil}
use Rattle.std.proofs.lemmas.List.Elements.{filter_map-append}
use Rattle.std.proofs.lemmas.Slice.Eq.{bytes_eq-Decides}
use Rattle.std.specs.List.{cons_option}
use Rattle.std.specs.Prelude.{drop, filter_map, Option, Some, None}
use Rattle.std.specs.Str.{bytes_eq}
use Rattle.ch_wire.specs.declared.frame.Frame.{Frame}
use Rattle.ch_model.specs.declared.entry.Entry.{Entry}
use Rattle.ch_model.specs.declared.entry.Entry.TheVariants as entries
use Rattle.ch_model.specs.declared.line.Line.{Line}
use Rattle.ch_model.specs.declared.name.End.{End}
use Rattle.ch_model.specs.declared.name.End.TheVariants.{O, T}
use Rattle.ch_model.specs.declared.name.SockName.{SockName}
use Rattle.ch_model.specs.AccountsFrames.{Saying, Arriving, carried, arriving_by, datas}
use Rattle.ch_model.specs.AccountsItems.{frame_of, data_of, first_payload}
use Rattle.ch_model.specs.Logs.{collected, kept_with, never}
use Rattle.ch_model.specs.Same.{same_socket, same_end, is_end_of, owner, across}
use Rattle.ch_model.specs.Sockets.{writing, writings}
use Rattle.ch_laws_log.proofs.Stored.{same_is}
use Rattle.ch_laws_peers.specs.Words.{carried_after}
use Rattle.ch_laws_messages.specs.CarriedCounts.{carried_in, carried_next, data_in, arriving_behind, arriving_of}
use Rattle.ch_laws_messages.specs.CarriedInTime.{datas_to}
use Rattle.ch_laws_messages.proofs.CarriedLogs.{by_last, collected_more, collected_while, data_with}
use Rattle.ch_laws_messages.proofs.CarriedCounting.{Data, carried_last}
use Rattle.ch_laws_messages.proofs.CarriedAlone.{same_end_is}
use Rattle.ch_laws_messages.proofs.CarriedSure.{Sure, sure_before}
use Rattle.ch_laws_messages.proofs.CarriedUsers.{data_at, data_in_is, data_here, here}
use Rattle.ch_laws_messages.proofs.CarriedCarries.{carried_of, carried_by}

-- ---- an item behind others

-- what an item carries that is written behind these
abbrev pub carried_at : List Saying → List (List ℕ) → List ℕ → Option Saying
carried_at said [] bytes = None
carried_at said (first ∷ pieces) bytes = carried_of said (filter_map data_in pieces) (data_in bytes)

abbrev alone : Arriving → List Arriving
alone item = item ∷ []

behind_more : (said : List Saying) (before : List Data) (n : ℕ) (pieces : List (List ℕ)) (bytes : List ℕ) → n ≡ carried_in [] before → arriving_behind said before n (pieces ++ bytes ∷ []) ≡ arriving_behind said before n pieces ++ (length bytes, carried_of said (before ++ filter_map data_in pieces) (data_in bytes)) ∷ []
behind_more said before n [] bytes h = by_data (data_in bytes) ∙ ap (λ (l : List Data). alone (length bytes, carried_of said l (data_in bytes))) (sym (append-nil before)) where
  by_data : (o : Option Data) → (elim o as (λ o. List Arriving) [
    | None ↦ (length bytes, None) ∷ []
    | Some d ↦ (length bytes, carried_next said n (first_payload d.0 before)) ∷ []
  ]) ≡ (length bytes, carried_of said before o) ∷ []
  by_data None = refl
  by_data (Some d) = ap (λ (m : ℕ). alone (length bytes, carried_next said m (first_payload d.0 before))) h
behind_more said before n (piece ∷ pieces) bytes h = by_data (data_in piece) (λ b m g. behind_more said b m pieces bytes g) where
  by_data : (o : Option Data) → ((b : List Data) (m : ℕ) → m ≡ carried_in [] b → arriving_behind said b m (pieces ++ bytes ∷ []) ≡ arriving_behind said b m pieces ++ (length bytes, carried_of said (b ++ filter_map data_in pieces) (data_in bytes)) ∷ []) → (elim o as (λ o. List Arriving) [
    | None ↦ (length piece, None) ∷ arriving_behind said before n (pieces ++ bytes ∷ [])
    | Some d ↦ (length piece, carried_next said n (first_payload d.0 before)) ∷ arriving_behind said (before ++ d ∷ []) (carried_after (first_payload d.0 before) n) (pieces ++ bytes ∷ [])
  ]) ≡ (elim o as (λ o. List Arriving) [
    | None ↦ (length piece, None) ∷ arriving_behind said before n pieces
    | Some d ↦ (length piece, carried_next said n (first_payload d.0 before)) ∷ arriving_behind said (before ++ d ∷ []) (carried_after (first_payload d.0 before) n) pieces
  ]) ++ (length bytes, carried_of said (before ++ cons_option o (filter_map data_in pieces)) (data_in bytes)) ∷ []
  by_data None more = ap (λ (l : List Arriving). (length piece, None) ∷ l) (more before n h)
  by_data (Some d) more = ap (λ (l : List Arriving). (length piece, carried_next said n (first_payload d.0 before)) ∷ l) (more (before ++ d ∷ []) (carried_after (first_payload d.0 before) n) (ap (carried_after (first_payload d.0 before)) h ∙ sym (carried_last before d))
      ∙ ap (λ (l : List Data). arriving_behind said (before ++ d ∷ []) (carried_after (first_payload d.0 before) n) pieces ++ (length bytes, carried_of said l (data_in bytes)) ∷ []) (append_assoc before (d ∷ []) (filter_map data_in pieces)))

arriving_more : (said : List Saying) (pieces : List (List ℕ)) (bytes : List ℕ) → arriving_of said (pieces ++ bytes ∷ []) ≡ arriving_of said pieces ++ (length bytes, carried_at said pieces bytes) ∷ []
arriving_more said [] bytes = refl
arriving_more said (first ∷ pieces) bytes = ap (λ (l : List Arriving). (length first, None) ∷ l) (behind_more said [] 0 pieces bytes refl)

-- ---- what is written at an end

abbrev arrives : List Saying → List (List ℕ) → Option (List ℕ) → Option Arriving
arrives said pieces None = None
arrives said pieces (Some bytes) = Some (length bytes, carried_at said pieces bytes)

pieces_more : (said : List Saying) (pieces : List (List ℕ)) (o : Option (List ℕ)) → kept_with (arrives said pieces o) (arriving_of said pieces) ≡ arriving_of said (pieces ++ cons_option o [])
pieces_more said pieces None = ap (arriving_of said) (sym (append-nil pieces))
pieces_more said pieces (Some bytes) = sym (arriving_more said pieces bytes)

datas_in_pieces : (pieces : List (List ℕ)) → filter_map data_of (filter_map frame_of pieces) ≡ filter_map data_in pieces
datas_in_pieces [] = refl
datas_in_pieces (piece ∷ pieces) = by_frame (frame_of piece) (datas_in_pieces pieces) where
  by_frame : (o : Option Frame) → filter_map data_of (filter_map frame_of pieces) ≡ filter_map data_in pieces → filter_map data_of (cons_option o (filter_map frame_of pieces)) ≡ cons_option (elim o as (λ o. Option Data) [ None ↦ None | Some frame ↦ data_of frame ]) (filter_map data_in pieces)
  by_frame None more = more
  by_frame (Some frame) more = ap (cons_option (data_of frame)) more

item_carries : (journal : List Line) (x y : List ℕ) (said : List Saying) (log : List Entry) (s : SockName) (e : End) (bytes : List ℕ) → Sure journal x y said (log ++ entries.Wrote s e bytes ∷ []) → is_end_of x y s e ≡ true → carried journal x y log (entries.Wrote s e bytes) ≡ carried_at said (writings log s e) bytes
item_carries journal x y said log s e bytes k is = carried_by journal x y said log (entries.Wrote s e bytes) k ∙ ap (carried_of said (datas_to x y log)) (data_here x y log s e bytes is) ∙ by_pieces (writings log s e) refl (here journal x y said log s e bytes k is) where
  by_pieces : (pieces : List (List ℕ)) → writings log s e ≡ pieces → (data_at pieces bytes ≡ None) ⊎ (datas log s e ≡ datas_to x y log) → carried_of said (datas_to x y log) (data_at pieces bytes) ≡ carried_at said pieces bytes
  by_pieces [] h one = refl
  by_pieces (first ∷ pieces) h (inl none) = ap (carried_of said (datas_to x y log)) none ∙ sym (ap (carried_of said (filter_map data_in pieces)) (data_in_is bytes ∙ none))
  by_pieces (first ∷ pieces) h (inr all) = ap (λ (l : List Data). carried_of said l (data_with (frame_of bytes))) (sym all ∙ ap (λ (l : List (List ℕ)). filter_map data_of (filter_map frame_of (drop 1 l))) h ∙ datas_in_pieces pieces) ∙ ap (carried_of said (filter_map data_in pieces)) (sym (data_in_is bytes))

across_twice : (journal : List Line) (s : SockName) (e : End) (log : List Entry) (sock : SockName) (end : End) (bytes : List ℕ) → arriving_by journal s (across e) log (entries.Wrote sock end bytes) ≡ cond (same_socket sock s && same_end end e) (Some (length bytes, carried journal (owner s e) (owner s (across e)) log (entries.Wrote sock end bytes))) None
across_twice journal s O log sock end bytes = refl
across_twice journal s T log sock end bytes = refl

arrives_by : (journal : List Line) (x y : List ℕ) (said : List Saying) (s : SockName) (e : End) → is_end_of x y s e ≡ true → (log : List Entry) (entry : Entry) → Sure journal x y said (log ++ entry ∷ []) → arriving_by journal s (across e) log entry ≡ arrives said (writings log s e) (writing s e entry)
arrives_by journal x y said s e is log (entries.Wrote sock end bytes) k = across_twice journal s e log sock end bytes ∙ by_test (same_socket sock s && same_end end e) refl where
  ends : (bytes_eq (owner s e) x ≡ true) × (bytes_eq (owner s (across e)) y ≡ true)
  ends = let parts = and_parts (bytes_eq (owner s e) x) (bytes_eq (owner s (across e)) y) is in (parts.0, parts.1)

  this : (t : SockName) (f : End) → t ≡ s → f ≡ e → Sure journal x y said (log ++ entries.Wrote t f bytes ∷ []) → carried journal x y log (entries.Wrote t f bytes) ≡ carried_at said (writings log s e) bytes
  this t f a b = subst (λ (t : SockName). Sure journal x y said (log ++ entries.Wrote t f bytes ∷ []) → carried journal x y log (entries.Wrote t f bytes) ≡ carried_at said (writings log s e) bytes) (sym a)
      (subst (λ (f : End). Sure journal x y said (log ++ entries.Wrote s f bytes ∷ []) → carried journal x y log (entries.Wrote s f bytes) ≡ carried_at said (writings log s e) bytes) (sym b) (λ k. item_carries journal x y said log s e bytes k is))

  owned : carried journal (owner s e) (owner s (across e)) log (entries.Wrote sock end bytes) ≡ carried journal x y log (entries.Wrote sock end bytes)
  owned = ap (λ (u : List ℕ). carried journal u (owner s (across e)) log (entries.Wrote sock end bytes)) ((bytes_eq-Decides (owner s e) x).0 ends.0) ∙ ap (λ (v : List ℕ). carried journal x v log (entries.Wrote sock end bytes)) ((bytes_eq-Decides (owner s (across e)) y).0 ends.1)

  some_item : Arriving → Option Arriving
  some_item item = Some item

  by_test : (b : Bool) → (same_socket sock s && same_end end e) ≡ b → cond b (Some (length bytes, carried journal (owner s e) (owner s (across e)) log (entries.Wrote sock end bytes))) None ≡ arrives said (writings log s e) (cond b (Some bytes) None)
  by_test true h = let parts = and_parts (same_socket sock s) (same_end end e) h in ap (λ (c : Option Saying). some_item (length bytes, c)) (owned ∙ this sock end (same_is sock s parts.0) (same_end_is end e parts.1) k)
  by_test false h = refl
arrives_by journal x y said s e is log entry k = refl

-- what is written towards an end carries the sayings, one after another
pub all_arrive : (journal : List Line) (x y : List ℕ) (said : List Saying) (log : List Entry) (s : SockName) (e : End) → Sure journal x y said log → is_end_of x y s e ≡ true → collected never (arriving_by journal s (across e)) log ≡ arriving_of said (writings log s e)
all_arrive journal x y said log s e k is = collected_while (Sure journal x y said) (arriving_by journal s (across e)) found (sure_before journal x y said) (arrives_by journal x y said s e is) log k ∙ all log where
  found : List Entry → Entry → Option Arriving
  found log entry = arrives said (writings log s e) (writing s e entry)

  more : (log : List Entry) (entry : Entry) → collected never found log ≡ arriving_of said (writings log s e) → collected never found (log ++ entry ∷ []) ≡ arriving_of said (writings (log ++ entry ∷ []) s e)
  more log entry h = collected_more found log entry ∙ ap (kept_with (found log entry)) h ∙ pieces_more said (writings log s e) (writing s e entry) ∙ ap (arriving_of said) (sym (filter_map-append (writing s e) log (entry ∷ [])))

  all : (log : List Entry) → collected never found log ≡ arriving_of said (writings log s e)
  all = by_last (λ log. collected never found log ≡ arriving_of said (writings log s e)) refl more
