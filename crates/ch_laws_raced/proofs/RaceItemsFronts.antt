-- What stands ready at the front of a socket's bytes, where all that is unread is spelled: the first item.
use Rattle.std.specs.Prelude.{◌≡◌, ℕ, true, false, List, [], ◌∷◌, ◌++◌, drop, map, None}
use Rattle.std.proofs.Common.{refl, ap, sym, ◌∙◌, subst, append_assoc}
use Rattle.std.proofs.lemmas.List.{append_cancel_right}
use Rattle.ch_wire.specs.declared.answer.Answer.{Answer}
use Rattle.ch_wire.specs.declared.frame.Frame.{Frame}
use Rattle.ch_wire.specs.declared.request.Request.{Request}
use Rattle.ch_reader.specs.Items.{item_spelling, spellings, MayStand, MayFollow}
use Rattle.ch_reader.specs.Reading.{reading}
use Rattle.ch_reader.specs.declared.item.Expected.{Expected}
use Rattle.ch_reader.specs.declared.item.Expected.TheVariants as expected
use Rattle.ch_reader.specs.declared.item.Front.{Front}
use Rattle.ch_reader.specs.declared.item.Front.TheVariants.{Unfinished, Whole, Refused}
use Rattle.ch_reader.specs.declared.item.Item.{Item}
use Rattle.ch_reader.specs.declared.item.Item.TheVariants as items
use Rattle.ch_model.specs.Host.{front_of, is_ready_front}
use Rattle.ch_model.specs.HostState.{Socket}
use Rattle.ch_laws_reads.proofs.Stays.{read_of_spelled}
use Rattle.ch_laws_bytes.specs.Streams.{is_refusal}
use Rattle.ch_laws_bytes.proofs.Fronts.{read_as_spelled}

-- The item that stands first, the host's bytes behind it, and the items behind it.
pub record IsFirst (known : Socket) (unread : List ℕ) : Type 0 where
  pub item : Item
  pub more : List ℕ
  pub rest : List Item
  pub front : known.since ≡ item_spelling item ++ more
  pub whole : known.since ++ unread ≡ spellings (item ∷ rest)
  pub each : MayFollow known.expected (item ∷ rest)

nothing_refused : (e : Expected) (since unread : List ℕ) (all : List Item) → since ++ unread ≡ spellings all → MayFollow e all → is_refusal (reading e since).0 ≡ false
nothing_refused e since unread all whole each = (read_as_spelled (e, []) since unread None [] e since (record { items = all; whole = whole; each = each; next = tt }) (refl, refl)).1

pub first_item : (known : Socket) (unread : List ℕ) (all : List Item) → is_ready_front (front_of known).0 ≡ true → known.since ++ unread ≡ spellings all → MayFollow known.expected all → IsFirst known unread
first_item known unread all ready whole each = by_front (front_of known).0 refl ready (nothing_refused known.expected known.since unread all whole each) where
  left : List ℕ
  left = drop (front_of known).1 known.since

  by_front : (f : Front) → (front_of known).0 ≡ f → is_ready_front (front_of known).0 ≡ true → is_refusal (front_of known).0 ≡ false → IsFirst known unread
  by_front Unfinished is ready refused = let clash : false ≡ true = sym (ap is_ready_front is) ∙ ready in absurd cc
  by_front (Refused error) is ready refused = let clash : true ≡ false = sym (ap is_refusal is) ∙ refused in absurd cc
  by_front (Whole item) is ready refused =
      let of = read_of_spelled known.expected expected.Frame known.since left unread all (item ∷ []) whole each (is, (refl, refl)) in
      let spelled : known.since ++ unread ≡ spellings (item ∷ of.rest) = whole ∙ ap spellings of.split in
      record {
        item = item;
        more = left;
        rest = of.rest;
        front = append_cancel_right known.since (item_spelling item ++ left) unread (spelled ∙ ap (λ (z : List ℕ). item_spelling item ++ z) (sym of.whole) ∙ sym (append_assoc (item_spelling item) left unread));
        whole = spelled;
        each = subst (MayFollow known.expected) of.split each;
      }

-- ---- which items may stand

-- frames as items
abbrev pub as_items : List Frame → List Item
as_items frames = map (λ (frame : Frame). items.Frame frame) frames

pub request_is : (item : Item) → MayStand expected.Request item → (r : Request) × (item ≡ items.Request r)
request_is (items.Request r) may = (r, refl)
request_is (items.Answer a) may = absurd may
request_is (items.Frame f) may = absurd may

pub answer_is : (item : Item) → MayStand expected.Answer item → (a : Answer) × (item ≡ items.Answer a)
answer_is (items.Request r) may = absurd may
answer_is (items.Answer a) may = (a, refl)
answer_is (items.Frame f) may = absurd may

pub frame_is : (item : Item) → MayStand expected.Frame item → (f : Frame) × (item ≡ items.Frame f)
frame_is (items.Request r) may = absurd may
frame_is (items.Answer a) may = absurd may
frame_is (items.Frame f) may = (f, refl)

-- where frames alone may follow, all are frames
pub frames_are : (all : List Item) → MayFollow expected.Frame all → (frames : List Frame) × (all ≡ as_items frames)
frames_are [] each = ([], refl)
frames_are (item ∷ rest) each =
    let first = frame_is item each.0 in
    let later = frames_are rest each.1 in
    (first.0 ∷ later.0, ap (λ (i : Item). i ∷ rest) first.1 ∙ ap (λ (l : List Item). items.Frame first.0 ∷ l) later.1)
