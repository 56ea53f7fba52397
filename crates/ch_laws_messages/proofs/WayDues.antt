-- What is written where it is due are items; and which frames are among them.
use Rattle.std.proofs.Common.{◌≡◌, inl, inr, ℕ, Bool, true, false, cond, List, [], ◌∷◌, ◌++◌, drop, refl, sym, ap, ◌∙◌, subst}
use Rattle.std.specs.Prelude.{Option, Some, None, ◌==◌}
use Rattle.std.specs.Str.{bytes_eq}
use Rattle.ch_base.specs.declared.address.Address.{Address}
use Rattle.ch_wire.specs.Spelling.{IsFrame, answer_spelling, frame_spelling}
use Rattle.ch_wire.specs.declared.answer.Answer.{Answer}
use Rattle.ch_wire.specs.declared.answer.Answer.TheVariants as answers
use Rattle.ch_wire.specs.declared.frame.Frame.{Frame}
use Rattle.ch_wire.specs.declared.frame.Frame.TheVariants as frames
use Rattle.ch_reader.specs.Items.{item_spelling, MayFollow}
use Rattle.ch_reader.specs.declared.item.Expected.{Expected}
use Rattle.ch_reader.specs.declared.item.Expected.TheVariants as expected
use Rattle.ch_reader.specs.declared.item.Item.{Item}
use Rattle.ch_reader.specs.declared.item.Item.TheVariants as items
use Rattle.ch_model.specs.declared.step.Place.{Place}
use Rattle.ch_model.specs.declared.step.Step.{Step}
use Rattle.ch_model.specs.declared.step.Step.TheVariants as steps
use Rattle.ch_model.specs.declared.step.Weight.{Weight}
use Rattle.ch_model.specs.HostWrites.{said_of}
use Rattle.ch_laws_bytes.specs.Streams.{MayAsk}
use Rattle.ch_laws_writes.specs.Dues.{Due, Asking, Answering, Framing, due_past, IsDue, AllDue}
use Rattle.ch_laws_writes.specs.Orderly.{AreFrames}
use Rattle.ch_laws_calls.specs.FitsTurns.{NoDials, IsKind}
use Rattle.ch_laws_calls.proofs.FitsFrames.{spelled_once}
use Rattle.ch_laws_calls.proofs.FitsStores.{none_kind}
use Rattle.ch_laws_places.specs.Said.{Piece, said_at}
use Rattle.ch_laws_peers.specs.Words.{Placed, waiting_as}
use Rattle.ch_laws_peers.specs.Reads.{PlacedItem, items_in, placed_in}
use Rattle.ch_laws_messages.specs.WayGoes.{pieced, Adds}
use Rattle.ch_laws_messages.specs.WayNatures.{CarriesNone, IsBarePiece, AreBarePieces, flushed}
use Rattle.ch_laws_messages.proofs.WayLists.{IsBare, AreBare}

-- ---- items that are due

-- an item is written, and those that follow are frames
one_more : (own : ℕ → Address) (due next : Option Due) (bytes : List ℕ) (place : Option Place) (pieces : List Piece) (item : Item) → bytes ≡ item_spelling item → (w : (new : List PlacedItem) × Adds own next pieces new) → IsKind own due (item ∷ items_in w.0) → (new : List PlacedItem) × Adds own due ((bytes, place) ∷ pieces) new
one_more own due next bytes place pieces item is w kind = ((item, place) ∷ w.0, record { is = ap (λ (b : List ℕ). (b, place) ∷ pieces) is ∙ ap (λ (l : List Piece). (item_spelling item, place) ∷ l) w.1.is; kind = kind })

frames_behind : (own : ℕ → Address) (b : Bool) (said : List Item) → IsKind own (cond b (Some Framing) None) said → MayFollow expected.Frame said
frames_behind own true said k = k
frames_behind own false said k = subst (λ (l : List Item). MayFollow expected.Frame l) (sym k) tt

add_one : (own : ℕ → Address) (due : Option Due) (bytes : List ℕ) (place : Option Place) (pieces : List Piece) → IsDue own due bytes → (new : List PlacedItem) × Adds own (due_past bytes due) pieces new → (new : List PlacedItem) × Adds own due ((bytes, place) ∷ pieces) new
add_one own None bytes place pieces d w = absurd d
add_one own (Some (Asking end peer)) bytes place pieces d w = one_more own (Some (Asking end peer)) (Some Framing) bytes place pieces (items.Request (record { target = peer.id; from = own end })) d w (λ r. (r, w.1.kind))
add_one own (Some Answering) bytes place pieces d w = one_more own (Some Answering) (due_past bytes (Some Answering)) bytes place pieces (items.Answer d.0) d.1 w (tt, frames_behind own (bytes_eq bytes (answer_spelling answers.Accepted)) (items_in w.0) w.1.kind)
add_one own (Some Framing) bytes place pieces d w = one_more own (Some Framing) (Some Framing) bytes place pieces (items.Frame d.0) d.2 w (d.1, w.1.kind)

-- where nothing may be written, nothing was, and that may be whatever is due
none_any : (own : ℕ → Address) (due : Option Due) (pieces : List Piece) → (new : List PlacedItem) × Adds own None pieces new → (new : List PlacedItem) × Adds own due pieces new
none_any own due pieces w = (w.0, record { is = w.1.is; kind = subst (IsKind own due) (sym w.1.kind) (none_kind own due) })

pub due_adds : (own : ℕ → Address) (n : ℕ) (told : List Step) (due : Option Due) → NoDials told → AllDue own n told due → (new : List PlacedItem) × Adds own due (said_at n told) new
due_adds own n [] due alone all = ([], record { is = refl; kind = none_kind own due })
due_adds own n (steps.Write sock bytes place ∷ rest) due alone all = by_test (sock == n) all.0 (due_adds own n rest (cond (sock == n) (due_past bytes due) due) alone all.1) where
  by_test : (b : Bool) → (b ≡ true → IsDue own due bytes) → (new : List PlacedItem) × Adds own (cond b (due_past bytes due) due) (said_at n rest) new → (new : List PlacedItem) × Adds own due (cond b ((bytes, place) ∷ said_at n rest) (said_at n rest)) new
  by_test true d w = add_one own due bytes place (said_at n rest) (d refl) w
  by_test false d w = w
due_adds own n (steps.Dial sock end peer ∷ rest) due alone all = absurd alone
due_adds own n (steps.Read sock ∷ rest) due alone all = due_adds own n rest due alone all.1
due_adds own n (steps.Up sock ∷ rest) due alone all = due_adds own n rest due alone all.1
due_adds own n (steps.Down sock ∷ rest) due alone all = by_test (sock == n) (due_adds own n rest (cond (sock == n) None due) alone all.1) where
  by_test : (b : Bool) → (new : List PlacedItem) × Adds own (cond b None due) (said_at n rest) new → (new : List PlacedItem) × Adds own due (said_at n rest) new
  by_test true w = none_any own due (said_at n rest) w
  by_test false w = w
due_adds own n (steps.Left sock ∷ rest) due alone all = by_test (sock == n) (due_adds own n rest (cond (sock == n) None due) alone all.1) where
  by_test : (b : Bool) → (new : List PlacedItem) × Adds own (cond b None due) (said_at n rest) new → (new : List PlacedItem) × Adds own due (said_at n rest) new
  by_test true w = none_any own due (said_at n rest) w
  by_test false w = w
due_adds own n (steps.Broke end peer why ∷ rest) due alone all = due_adds own n rest due alone all.1
due_adds own n (steps.Post end event ∷ rest) due alone all = due_adds own n rest due alone all.1

-- ---- frames that carry no payload

not_answer : {A : Type 0} (id : ℕ) (payload : List ℕ) (answer : Answer) → frame_spelling (frames.Data id payload) ≡ answer_spelling answer → A
not_answer id payload answer is = let no : false ≡ true = ap (λ (l : List ℕ). is_none (drop 4 l)) is in absurd cc where
  is_none : List ℕ → Bool
  is_none [] = true
  is_none (x ∷ l) = false

-- frames that are spelled alike are one
pub one_frame : (f g : Frame) → IsFrame f → IsFrame g → frame_spelling f ≡ frame_spelling g → f ≡ g
one_frame f g a b e = first (spelled_once expected.Frame (items.Frame f ∷ []) (items.Frame g ∷ []) (a, tt) (b, tt) (ap (λ (l : List ℕ). l ++ []) e)) where
  frame_in : List Item → Frame
  frame_in (items.Frame frame ∷ rest) = frame
  frame_in other = f

  first : ◌≡◌ {A = List Item} (items.Frame f ∷ []) (items.Frame g ∷ []) → f ≡ g
  first h = ap frame_in h

bare_frame : (f : Frame) (place : Option Place) → IsFrame f → IsBarePiece (frame_spelling f, place) → IsBare (f, place)
bare_frame (frames.Data id payload) place may (none, inl a) = not_answer id payload a.0 a.1
bare_frame (frames.Data id payload) place may (none, inr g) = let same : frames.Data id payload ≡ g.0 = one_frame (frames.Data id payload) g.0 may g.1 g.3 in absurd (subst CarriesNone (sym same) g.2)
bare_frame (frames.Created id) place may b = b.0
bare_frame (frames.Closed id) place may b = b.0
bare_frame frames.EndClosed place may b = b.0
bare_frame frames.Probe place may b = b.0
bare_frame frames.ProbeAck place may b = b.0

bare_items : (e : Expected) (new : List PlacedItem) → MayFollow e (items_in new) → AreBarePieces (pieced new) → AreBare (placed_in new)
bare_items e [] m b = tt
bare_items e ((items.Request request, place) ∷ rest) m b = bare_items expected.Frame rest m.1 b.1
bare_items e ((items.Answer answer, place) ∷ rest) m b = bare_items expected.Frame rest m.1 b.1
bare_items expected.Frame ((items.Frame frame, place) ∷ rest) m b = (bare_frame frame place m.0 b.0, bare_items expected.Frame rest m.1 b.1)
bare_items expected.Request ((items.Frame frame, place) ∷ rest) m b = absurd m.0
bare_items expected.Answer ((items.Frame frame, place) ∷ rest) m b = absurd m.0

-- what is expected where these are due
kind_expects : (own : ℕ → Address) (due : Option Due) (said : List Item) → IsKind own due said → MayAsk own due → (e : Expected) × MayFollow e said
kind_expects own None said k m = (expected.Frame, subst (MayFollow expected.Frame) (sym k) tt)
kind_expects own (Some (Asking end peer)) said k m = (expected.Request, k (m end peer refl))
kind_expects own (Some Answering) said k m = (expected.Answer, k)
kind_expects own (Some Framing) said k m = (expected.Frame, k)

pub bare_new : (own : ℕ → Address) (due : Option Due) (pieces : List Piece) (new : List PlacedItem) → Adds own due pieces new → MayAsk own due → AreBarePieces pieces → AreBare (placed_in new)
bare_new own due pieces new a m b = let e = kind_expects own due (items_in new) a.kind m in bare_items e.0 new e.1 (subst AreBarePieces a.is b)

-- ---- what waited

pub flushed_frames : (new : List PlacedItem) (waits : List (Frame × Weight)) → MayFollow expected.Frame (items_in new) → AreFrames waits → flushed waits ≡ pieced new → placed_in new ≡ waiting_as waits
flushed_frames [] [] m f e = refl
flushed_frames [] (wait ∷ waits) m f e = absurd cc
flushed_frames (one ∷ rest) [] m f e = absurd cc
flushed_frames ((items.Frame frame, place) ∷ rest) (wait ∷ waits) m f e =
    let first : ◌≡◌ {A = Piece} (frame_spelling wait.0, said_of wait.1) (frame_spelling frame, place) = cc in
    let bytes : frame_spelling wait.0 ≡ frame_spelling frame = ap (λ (p : Piece). p.0) first in
    let place_is : said_of wait.1 ≡ place = ap (λ (p : Piece). p.1) first in
    let more : flushed waits ≡ pieced rest = cc in
    ap (λ (g : Frame). (g, place) ∷ placed_in rest) (sym (one_frame wait.0 frame f.0 m.0 bytes)) ∙ ap (λ (p : Option Place). (wait.0, p) ∷ placed_in rest) (sym place_is) ∙ ap (λ (l : List Placed). (wait.0, said_of wait.1) ∷ l) (flushed_frames rest waits m.1 f.1 more)
flushed_frames ((items.Request request, place) ∷ rest) (wait ∷ waits) m f e = absurd m.0
flushed_frames ((items.Answer answer, place) ∷ rest) (wait ∷ waits) m f e = absurd m.0

pub flushed_behind : (new : List PlacedItem) (waits : List (Frame × Weight)) (answer : Piece) → MayFollow expected.Answer (items_in new) → AreFrames waits → answer ∷ flushed waits ≡ pieced new → placed_in new ≡ waiting_as waits
flushed_behind [] waits answer m f e = absurd cc
flushed_behind ((items.Answer a, place) ∷ rest) waits answer m f e = let more : flushed waits ≡ pieced rest = cc in flushed_frames rest waits m.1 f more
flushed_behind ((items.Request request, place) ∷ rest) waits answer m f e = absurd m.0
flushed_behind ((items.Frame frame, place) ∷ rest) waits answer m f e = absurd m.0
