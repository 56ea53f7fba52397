-- What steps write on a socket is items that may be written there, each with the place that stands by it.
use Rattle.std.proofs.Common.{◌≡◌, ℕ, Bool, true, false, cond, List, [], ◌∷◌, ◌++◌, drop, refl, sym, ap, ◌∙◌, subst}
use Rattle.std.specs.Prelude.{Option, Some, None, ◌==◌}
use Rattle.std.specs.Str.{bytes_eq}
use Rattle.ch_base.specs.declared.address.Address.{Address}
use Rattle.ch_wire.specs.Spelling.{answer_spelling}
use Rattle.ch_wire.specs.declared.answer.Answer.{Answer}
use Rattle.ch_wire.specs.declared.answer.Answer.TheVariants.{Accepted}
use Rattle.ch_wire.specs.declared.frame.Frame.TheVariants as frames
use Rattle.ch_reader.specs.Items.{item_spelling, MayFollow}
use Rattle.ch_reader.specs.declared.item.Expected.TheVariants as expected
use Rattle.ch_reader.specs.declared.item.Item.{Item}
use Rattle.ch_reader.specs.declared.item.Item.TheVariants as items
use Rattle.ch_model.specs.declared.step.Place.{Place}
use Rattle.ch_model.specs.declared.step.Step.{Step}
use Rattle.ch_model.specs.declared.step.Step.TheVariants as steps
use Rattle.ch_laws_bytes.specs.Streams.{AsksNothing}
use Rattle.ch_laws_log.proofs.Stored.{number_is}
use Rattle.ch_laws_writes.specs.Dues.{Due, Asking, Answering, Framing, due_past, IsDue, AllDue}
use Rattle.ch_laws_calls.specs.FitsTurns.{NoDials, IsKind}
use Rattle.ch_laws_calls.proofs.FitsStores.{none_kind}
use Rattle.ch_laws_places.specs.Places.{StandsBy}
use Rattle.ch_laws_places.specs.Said.{Piece, said_at, bytes_in, SpellsData, IsSaid, AllSaid, Written}

-- ---- one piece

pub none_written : (own : ℕ → Address) (due : Option Due) → Written own due []
none_written own due = record { said = []; spelled = refl; kind = none_kind own due; stand = tt }

-- an item is written, and those that follow are frames
one_more : (own : ℕ → Address) (due next : Option Due) (bytes : List ℕ) (place : Option Place) (pieces : List Piece) (item : Item) → bytes ≡ item_spelling item → StandsBy item place → (w : Written own next pieces) → IsKind own due (item ∷ w.said) → Written own due ((bytes, place) ∷ pieces)
one_more own due next bytes place pieces item is stands w kind = record {
  said = item ∷ w.said;
  spelled = ap (λ (l : List ℕ). l ++ bytes_in pieces) is ∙ ap (λ (l : List ℕ). item_spelling item ++ l) w.spelled;
  kind = kind;
  stand = (stands, w.stand);
}

-- behind an answer come frames, if anything does
frames_behind : (own : ℕ → Address) (b : Bool) (said : List Item) → IsKind own (cond b (Some Framing) None) said → MayFollow expected.Frame said
frames_behind own true said k = k
frames_behind own false said k = subst (λ (l : List Item). MayFollow expected.Frame l) (sym k) tt

-- no answer is spelled as a frame of data is
not_answer : {A : Type 0} (answer : Answer) (bytes : List ℕ) → bytes ≡ answer_spelling answer → SpellsData bytes → A
not_answer answer bytes is s = let no : true ≡ false = ap (λ (l : List ℕ). is_none (drop 4 l)) (sym is ∙ s.spelled) in absurd cc where
  is_none : List ℕ → Bool
  is_none [] = true
  is_none (x ∷ l) = false

written_one : (own : ℕ → Address) (due : Option Due) (bytes : List ℕ) (place : Option Place) (pieces : List Piece) → IsDue own due bytes → IsSaid due bytes place → Written own (due_past bytes due) pieces → Written own due ((bytes, place) ∷ pieces)
written_one own None bytes place pieces d s w = absurd d
written_one own (Some (Asking end peer)) bytes None pieces d s w = one_more own (Some (Asking end peer)) (Some Framing) bytes None pieces (items.Request (record { target = peer.id; from = own end })) d tt w (λ r. (r, w.kind))
written_one own (Some (Asking end peer)) bytes (Some place) pieces d s w = absurd s.0
written_one own (Some Answering) bytes None pieces d s w = one_more own (Some Answering) (due_past bytes (Some Answering)) bytes None pieces (items.Answer d.0) d.1 tt w (tt, frames_behind own (bytes_eq bytes (answer_spelling Accepted)) w.said w.kind)
written_one own (Some Answering) bytes (Some place) pieces d s w = not_answer d.0 bytes d.1 s.1
written_one own (Some Framing) bytes None pieces d s w = one_more own (Some Framing) (Some Framing) bytes None pieces (items.Frame d.0) d.2 tt w (d.1, w.kind)
written_one own (Some Framing) bytes (Some place) pieces d s w = one_more own (Some Framing) (Some Framing) bytes (Some place) pieces (items.Frame (frames.Data s.1.id s.1.payload)) s.1.spelled tt w (s.1.framed, w.kind)

-- where nothing may be written, nothing was, and that may be whatever is due
none_any : (own : ℕ → Address) (due : Option Due) (pieces : List Piece) → Written own None pieces → Written own due pieces
none_any own due pieces w = record { said = w.said; spelled = w.spelled; kind = subst (IsKind own due) (sym w.kind) (none_kind own due); stand = w.stand }

-- ---- all steps

-- after bytes no request is due
past_asks : (bytes : List ℕ) (due : Option Due) → AsksNothing (due_past bytes due)
past_asks bytes None = tt
past_asks bytes (Some (Asking end peer)) = tt
past_asks bytes (Some Answering) = by_test (bytes_eq bytes (answer_spelling Accepted)) where
  by_test : (b : Bool) → AsksNothing (cond b (Some Framing) None)
  by_test true = tt
  by_test false = tt
past_asks bytes (Some Framing) = tt

-- where no request was due, none is then, unless one is dialed
abbrev AsksStill : Option Due → Option Due → Type 0
AsksStill first now = AsksNothing first → AsksNothing now

same_said : (one two : Option Due) (bytes : List ℕ) (place : Option Place) → AsksStill one two → IsSaid one bytes place → IsSaid two bytes place
same_said one two bytes None a s = tt
same_said one two bytes (Some place) a s = (a s.0, s.1)

ended_asks : (b : Bool) (first now : Option Due) → AsksStill first now → AsksStill first (cond b None now)
ended_asks true first now a = λ h. tt
ended_asks false first now a = a

pub all_written : (own : ℕ → Address) (first : ℕ → Option Due) (n : ℕ) (told : List Step) (due : Option Due) → NoDials told → AsksStill (first n) due → AllDue own n told due → AllSaid first told → Written own due (said_at n told)
all_written own first n [] due alone asks all said = none_written own due
all_written own first n (steps.Write sock bytes place ∷ rest) due alone asks all said = by_test (sock == n) refl all.0 (all_written own first n rest (cond (sock == n) (due_past bytes due) due) alone (still (sock == n)) all.1 said.1) where
  still : (b : Bool) → AsksStill (first n) (cond b (due_past bytes due) due)
  still true = λ h. past_asks bytes due
  still false = asks

  by_test : (b : Bool) → (sock == n) ≡ b → (b ≡ true → IsDue own due bytes) → Written own (cond b (due_past bytes due) due) (said_at n rest) → Written own due (cond b ((bytes, place) ∷ said_at n rest) (said_at n rest))
  by_test true h d w = written_one own due bytes place (said_at n rest) (d refl) (same_said (first n) due bytes place asks (subst (λ (m : ℕ). IsSaid (first m) bytes place) (number_is sock n h) said.0)) w
  by_test false h d w = w
all_written own first n (steps.Dial sock end peer ∷ rest) due alone asks all said = absurd alone
all_written own first n (steps.Read sock ∷ rest) due alone asks all said = all_written own first n rest due alone asks all.1 said
all_written own first n (steps.Up sock ∷ rest) due alone asks all said = all_written own first n rest due alone asks all.1 said
all_written own first n (steps.Down sock ∷ rest) due alone asks all said = by_test (sock == n) (all_written own first n rest (cond (sock == n) None due) alone (ended_asks (sock == n) (first n) due asks) all.1 said) where
  by_test : (b : Bool) → Written own (cond b None due) (said_at n rest) → Written own due (said_at n rest)
  by_test true w = none_any own due (said_at n rest) w
  by_test false w = w
all_written own first n (steps.Left sock ∷ rest) due alone asks all said = by_test (sock == n) (all_written own first n rest (cond (sock == n) None due) alone (ended_asks (sock == n) (first n) due asks) all.1 said) where
  by_test : (b : Bool) → Written own (cond b None due) (said_at n rest) → Written own due (said_at n rest)
  by_test true w = none_any own due (said_at n rest) w
  by_test false w = w
all_written own first n (steps.Broke end peer why ∷ rest) due alone asks all said = all_written own first n rest due alone asks all.1 said
all_written own first n (steps.Post end event ∷ rest) due alone asks all said = all_written own first n rest due alone asks all.1 said
