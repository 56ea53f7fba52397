-- The places at an end still stand by their items when items are read there and others are written.
use Rattle.std.proofs.Common.{◌≡◌, ℕ, suc, Bool, true, false, cond, List, [], ◌∷◌, ◌++◌, length, refl, sym, ap, ◌∙◌, subst, append_assoc}
use Rattle.std.proofs.lemmas.Grind.{flat_map-append}
use Rattle.std.specs.Prelude.{find, slice_get, slice_set, Option, Some, None, ◌==◌}
use Rattle.ch_base.specs.declared.address.Address.{Address}
use Rattle.ch_reader.specs.Items.{item_spelling, spellings, MayFollow, expected_after}
use Rattle.ch_reader.specs.declared.item.Expected.{Expected}
use Rattle.ch_reader.specs.declared.item.Item.{Item}
use Rattle.ch_model.specs.declared.line.Line.{Line}
use Rattle.ch_model.specs.declared.step.Place.{Place}
use Rattle.ch_model.specs.declared.step.Step.{Step}
use Rattle.ch_model.specs.HostState.{Socket, HostState}
use Rattle.ch_model.specs.HostSteps.{is_socket}
use Rattle.ch_model.specs.Stages.{is_ended}
use Rattle.ch_model.specs.WorldState.{Cell}
use Rattle.ch_laws_bytes.specs.Streams.{Reader, reader_in, reader_at, readers_of, due_in, dues_of, reads_at, writes_at, Fits, Spelled, Flows, MayAsk}
use Rattle.ch_laws_bytes.proofs.Event.{set_at}
use Rattle.ch_laws_bytes.proofs.Lines.{own_of}
use Rattle.ch_laws_bytes.proofs.Reading.{flows_after}
use Rattle.ch_laws_bytes.proofs.Sockets.{flip}
use Rattle.ch_laws_log.proofs.Stored.{number_is}
use Rattle.ch_laws_reads.specs.Reads.{AreRead, AreReadOf, IsKept, Reads, reads_of}
use Rattle.ch_laws_reads.proofs.Stays.{read_of_spelled}
use Rattle.ch_laws_writes.specs.Dues.{Due, Asking, Answering, Framing, due_at}
use Rattle.ch_laws_calls.specs.FitsTurns.{IsKind}
use Rattle.ch_laws_calls.proofs.FitsEnds.{own_by}
use Rattle.ch_laws_calls.proofs.FitsFrames.{follow, spelled_once}
use Rattle.ch_laws_places.specs.Places.{AllStand, Carried, CarriedAt}
use Rattle.ch_laws_places.specs.Said.{Piece, said_at, bytes_in, places_in, Written}
use Rattle.ch_laws_places.proofs.Sockets.{pieces_for, reads_for}
use Rattle.ch_laws_places.proofs.Writes.{none_written}

-- ---- places that stand

-- the places of the first items, and those of the rest
pub record Stands (places : List (Option Place)) (first rest : List Item) : Type 0 where
  pub taken : List (Option Place)
  pub left : List (Option Place)
  pub split : places ≡ taken ++ left
  pub many : length taken ≡ length first
  pub stand : AllStand rest left

pub stand_split : (first rest : List Item) (places : List (Option Place)) → AllStand (first ++ rest) places → Stands places first rest
stand_split [] rest places s = record { taken = []; left = places; split = refl; many = refl; stand = s }
stand_split (item ∷ first) rest [] s = absurd s
stand_split (item ∷ first) rest (place ∷ places) s = let more = stand_split first rest places s.1 in record { taken = place ∷ more.taken; left = more.left; split = ap (λ (l : List (Option Place)). place ∷ l) more.split; many = ap suc more.many; stand = more.stand }

stand_append : (xs ys : List Item) (ps qs : List (Option Place)) → AllStand xs ps → AllStand ys qs → AllStand (xs ++ ys) (ps ++ qs)
stand_append [] ys [] qs s t = t
stand_append [] ys (p ∷ ps) qs s t = absurd s
stand_append (x ∷ xs) ys [] qs s t = absurd s
stand_append (x ∷ xs) ys (p ∷ ps) qs s t = (s.0, stand_append xs ys ps qs s.1 t)

-- ---- one end

-- so many items were read at an end; or nothing is read there any more
abbrev pub ReaderReads : Option Reader → ℕ → Option Reader → Type 0
ReaderReads before count None = Unit {0}
ReaderReads None count (Some now) = ⊥
ReaderReads (Some reader) count (Some now) = (read : List Item) × (length read ≡ count) × AreRead reader.0 reader.1 read now.0 now.1

kind_follows : (own : ℕ → Address) (due : Option Due) (e : Expected) (said : List Item) → IsKind own due said → MayAsk own due → Fits e due → MayFollow e said
kind_follows own None e said k m f = subst (λ (l : List Item). MayFollow e l) (sym k) tt
kind_follows own (Some (Asking end peer)) e said k m f = subst (λ (x : Expected). MayFollow x said) (sym f) (k (m end peer refl))
kind_follows own (Some Answering) e said k m f = subst (λ (x : Expected). MayFollow x said) (sym f) k
kind_follows own (Some Framing) e said k m f = subst (λ (x : Expected). MayFollow x said) (sym f) k

-- the places after so many were taken, and those of these pieces have come
abbrev pub PlacesGo : List (Option Place) → ℕ → List Piece → List (Option Place) → Type 0
PlacesGo before count pieces after = (taken rest : List (Option Place)) → before ≡ taken ++ rest → length taken ≡ count → after ≡ rest ++ places_in pieces

carried_on : (own : ℕ → Address) (due : Option Due) (reader now : Reader) (unread : List ℕ) (pieces : List Piece) (count : ℕ) (before after : List (Option Place)) → Spelled reader unread due → MayAsk own due → Carried reader unread before → ReaderReads (Some reader) count (Some now) → Written own due pieces → PlacesGo before count pieces after → Carried now (unread ++ bytes_in pieces) after
carried_on own due reader now unread pieces count before after s may c r w go = record {
  all = left.items ++ w.said;
  whole = sym (append_assoc now.1 unread (bytes_in pieces)) ∙ ap (λ (l : List ℕ). l ++ bytes_in pieces) left.whole ∙ ap (λ (l : List ℕ). spellings left.items ++ l) w.spelled ∙ sym (flat_map-append item_spelling left.items w.said);
  each = follow now.0 left.items w.said left.each (kind_follows own due (expected_after now.0 left.items) w.said w.kind may left.next);
  stand = subst (AllStand (left.items ++ w.said)) (sym (go at.taken at.left at.split (at.many ∙ r.1))) (stand_append left.items w.said at.left (places_in pieces) (subst (λ (l : List Item). AllStand l at.left) rest_is at.stand) w.stand);
} where
  of : AreReadOf c.all r.0 now.0 now.1 unread
  of = read_of_spelled reader.0 now.0 reader.1 now.1 unread c.all r.0 c.whole c.each r.2

  left : Spelled now unread due
  left = flows_after (Some reader) (Some now) false unread due (r.0, r.2) s

  rest_is : of.rest ≡ left.items
  rest_is = spelled_once now.0 of.rest left.items of.each left.each (sym of.whole ∙ left.whole)

  at : Stands before r.0 of.rest
  at = stand_split r.0 of.rest before (subst (λ (l : List Item). AllStand l before) of.split c.stand)

-- whoever reads there, and whether it is over
pub carried_at : (own : ℕ → Address) (due : Option Due) (reader now : Option Reader) (over ends : Bool) (unread left : List ℕ) (pieces : List Piece) (count : ℕ) (before after : List (Option Place)) → (ends ≡ false → over ≡ false) → (ends ≡ false → left ≡ unread ++ bytes_in pieces) → (ends ≡ false → PlacesGo before count pieces after)
    → Flows reader over unread due → MayAsk own due → CarriedAt reader over unread before → ReaderReads reader count now → Written own due pieces → CarriedAt now ends left after
carried_at own due reader None over ends unread left pieces count before after lives is go f m c r w = tt
carried_at own due reader (Some now) over true unread left pieces count before after lives is go f m c r w = tt
carried_at own due None (Some now) over false unread left pieces count before after lives is go f m c r w = absurd r
carried_at own due (Some reader) (Some now) true false unread left pieces count before after lives is go f m c r w = let no : true ≡ false = lives refl in absurd cc
carried_at own due (Some reader) (Some now) false false unread left pieces count before after lives is go f m c r w = subst (λ (l : List ℕ). Carried now l after) (sym (is refl)) (carried_on own due reader now unread pieces count before after f m c r w (go refl))

-- ---- readers and writers

-- what is so of a call of a host, at each end that it has a record of
pub record Calls (own : ℕ → Address) (host : HostState) (told : List Step) (after : HostState) : Type 0 where
  pub reads : Reads host told after
  pub writes : (n : ℕ) → Written own (due_at host n) (said_at n told)

-- an end of the host has a record there
abbrev pub IsKnown : ℕ → HostState → Option ℕ → Option ℕ → Type 0
IsKnown place host cell number = (n : ℕ) → cell ≡ Some place → number ≡ Some n → (known : Socket) × (find (is_socket n) host.sockets ≡ Some known)

reader_rests : (reader : Option Reader) → ReaderReads reader 0 reader
reader_rests None = tt
reader_rests (Some reader) = ([], refl, (refl, refl))

-- of a record that is kept so many items were read
kept_reads : (count : ℕ) (known : Socket) (o : Option Socket) → IsKept count known o → ReaderReads (reader_in (Some known)) count (reader_in o)
kept_reads count known None k = absurd k
kept_reads count known (Some after) k = by_tests (is_ended known.stage) refl (is_ended after.stage) refl where
  by_tests : (b : Bool) → is_ended known.stage ≡ b → (c : Bool) → is_ended after.stage ≡ c → ReaderReads (cond b None (Some (known.expected, known.since))) count (cond c None (Some (after.expected, after.since)))
  by_tests b h true g = tt
  by_tests true h false g = let no : true ≡ false = sym (k.over h) ∙ g in absurd cc
  by_tests false h false g = let read = k.read g in (read.items, read.many, read.front)

pub reader_reads : (own : ℕ → Address) (cells : List (Cell × ℕ)) (place : ℕ) (cell now : Cell × ℕ) (told : List Step) (first : Expected) (c m : Option ℕ) → slice_get cells place ≡ Some cell → Calls own cell.0.host told now.0.host → IsKnown place cell.0.host c m
    → ReaderReads (reads_at (readers_of cells) first c m) (reads_for place told c m) (reads_at (readers_of (slice_set cells place now)) first c m)
reader_reads own cells place cell now told first None m at k known = tt
reader_reads own cells place cell now told first (Some p) None at k known = ([], refl, (refl, refl))
reader_reads own cells place cell now told first (Some p) (Some n) at k known = subst (λ (o : Option (Cell × ℕ)). ReaderReads (reader_at (slice_get cells p) n) (cond (p == place) (reads_of n told) 0) (reader_at o n)) (sym (set_at cells place cell now p at))
    (subst (λ (b : Bool). ReaderReads (reader_at (slice_get cells p) n) (cond b (reads_of n told) 0) (reader_at (cond (place == p) (Some now) (slice_get cells p)) n)) (flip place p) (by_test (place == p) refl))
  where
    by_test : (b : Bool) → (place == p) ≡ b → ReaderReads (reader_at (slice_get cells p) n) (cond b (reads_of n told) 0) (reader_at (cond b (Some now) (slice_get cells p)) n)
    by_test true h =
        let here : place ≡ p = number_is place p h in
        let of = known n (ap Some (sym here)) refl in
        let was : slice_get cells p ≡ Some cell = ap (slice_get cells) (sym here) ∙ at in
        subst (λ (o : Option (Cell × ℕ)). ReaderReads (reader_at o n) (reads_of n told) (reader_in (find (is_socket n) now.0.host.sockets))) (sym was)
        (subst (λ (o : Option Socket). ReaderReads (reader_in o) (reads_of n told) (reader_in (find (is_socket n) now.0.host.sockets))) (sym of.1) (kept_reads (reads_of n told) of.0 (find (is_socket n) now.0.host.sockets) (k.reads.known n of.0 of.1)))
    by_test false h = reader_rests (reader_at (slice_get cells p) n)

pub writer_writes : (journal : List Line) (cells : List (Cell × ℕ)) (place : ℕ) (cell now : Cell × ℕ) (told : List Step) (c m : Option ℕ) → slice_get cells place ≡ Some cell → Calls (own_of journal place) cell.0.host told now.0.host → Written (own_by journal c) (writes_at (dues_of cells) c m) (pieces_for place told c m)
writer_writes journal cells place cell now told None m at k = none_written (own_by journal None) None
writer_writes journal cells place cell now told (Some p) None at k = none_written (own_of journal p) (Some Answering)
writer_writes journal cells place cell now told (Some p) (Some n) at k = subst (λ (b : Bool). Written (own_of journal p) (due_in (slice_get cells p) n) (cond b (said_at n told) [])) (flip place p) (by_test (place == p) refl) where
  by_test : (b : Bool) → (place == p) ≡ b → Written (own_of journal p) (due_in (slice_get cells p) n) (cond b (said_at n told) [])
  by_test true h =
      let here : place ≡ p = number_is place p h in
      let was : slice_get cells p ≡ Some cell = ap (slice_get cells) (sym here) ∙ at in
      subst (λ (o : Option (Cell × ℕ)). Written (own_of journal p) (due_in o n) (said_at n told)) (sym was)
      (subst (λ (q : ℕ). Written (own_of journal q) (due_at cell.0.host n) (said_at n told)) here (k.writes n))
  by_test false h = none_written (own_of journal p) (due_in (slice_get cells p) n)
