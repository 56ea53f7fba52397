-- What was written towards an end is still there when items are read there and others are written.
use Rattle.std.proofs.Common.{◌≡◌, ℕ, Bool, true, false, List, [], ◌∷◌, ◌++◌, length, map, refl, sym, ap, ◌∙◌, subst, append_assoc}
use Rattle.std.proofs.lemmas.Grind.{flat_map-append}
use Rattle.std.proofs.lemmas.List.{length-map, map-append}
use Rattle.std.specs.Prelude.{Option, Some, None}
use Rattle.ch_base.specs.declared.address.Address.{Address}
use Rattle.ch_reader.specs.Items.{item_spelling, spellings, MayFollow, expected_after}
use Rattle.ch_reader.specs.declared.item.Expected.{Expected}
use Rattle.ch_reader.specs.declared.item.Expected.TheVariants as expected
use Rattle.ch_reader.specs.declared.item.Item.{Item}
use Rattle.ch_model.specs.declared.name.End.{End}
use Rattle.ch_model.specs.declared.step.Place.{Place}
use Rattle.ch_model.specs.AccountsFrames.{Saying}
use Rattle.ch_laws_bytes.specs.Streams.{Reader, Fits, Spelled, Flows, MayAsk, first_at}
use Rattle.ch_laws_reads.specs.Reads.{AreRead, AreReadOf}
use Rattle.ch_laws_reads.proofs.Stays.{read_of_spelled}
use Rattle.ch_laws_writes.specs.Dues.{Due, Asking, Answering, Framing}
use Rattle.ch_laws_calls.specs.FitsTurns.{IsKind}
use Rattle.ch_laws_calls.proofs.FitsFrames.{follow, spelled_once}
use Rattle.ch_laws_places.specs.Said.{Piece, bytes_in}
use Rattle.ch_laws_places.specs.Said as pieces_said
use Rattle.ch_laws_places.proofs.Ends.{ReaderReads, PlacesGo}
use Rattle.ch_laws_peers.specs.Words.{Placed, placing}
use Rattle.ch_laws_peers.specs.Reads.{PlacedItem, items_in, places_in, spelled_in, placed_in, AreTruly, Way, IsWay}
use Rattle.ch_laws_messages.specs.WayGoes.{pieced, Adds, written_frames, GoesOn, IsGoing}
use Rattle.ch_laws_messages.proofs.WayFrames.{frames_written, placed_append}

-- ---- lists of items with places

pieced_bytes : (new : List PlacedItem) → bytes_in (pieced new) ≡ spellings (items_in new)
pieced_bytes [] = refl
pieced_bytes (one ∷ rest) = ap (λ (l : List ℕ). item_spelling one.0 ++ l) (pieced_bytes rest)

pieced_places : (new : List PlacedItem) → pieces_said.places_in (pieced new) ≡ places_in new
pieced_places [] = refl
pieced_places (one ∷ rest) = ap (λ (l : List (Option Place)). one.1 ∷ l) (pieced_places rest)

pub pieced_spelled : (new : List PlacedItem) → map (λ (piece : Piece). piece.0) (pieced new) ≡ spelled_in new
pieced_spelled [] = refl
pieced_spelled (one ∷ rest) = ap (λ (l : List (List ℕ)). item_spelling one.0 ∷ l) (pieced_spelled rest)

pub items_append : (xs ys : List PlacedItem) → items_in (xs ++ ys) ≡ items_in xs ++ items_in ys
items_append xs ys = map-append (λ (one : PlacedItem). one.0) xs ys

places_append : (xs ys : List PlacedItem) → places_in (xs ++ ys) ≡ places_in xs ++ places_in ys
places_append xs ys = map-append (λ (one : PlacedItem). one.1) xs ys

spelled_append : (xs ys : List PlacedItem) → spelled_in (xs ++ ys) ≡ spelled_in xs ++ spelled_in ys
spelled_append xs ys = map-append (λ (one : PlacedItem). item_spelling one.0) xs ys

-- the first items of a list, and the others
record Split (all : List PlacedItem) (xs ys : List Item) : Type 0 where
  taken : List PlacedItem
  left : List PlacedItem
  is : all ≡ taken ++ left
  first : items_in taken ≡ xs
  second : items_in left ≡ ys

split_items : (all : List PlacedItem) (xs ys : List Item) → items_in all ≡ xs ++ ys → Split all xs ys
split_items all [] ys e = record { taken = []; left = all; is = refl; first = refl; second = e }
split_items [] (x ∷ xs) ys e = absurd cc
split_items (one ∷ all) (x ∷ xs) ys e =
    let here : one.0 ≡ x = cc in
    let more : items_in all ≡ xs ++ ys = cc in
    let s = split_items all xs ys more in
    record { taken = one ∷ s.taken; left = s.left; is = ap (λ (l : List PlacedItem). one ∷ l) s.is; first = ap (λ (i : Item). i ∷ items_in s.taken) here ∙ ap (λ (l : List Item). x ∷ l) s.first; second = s.second }

-- ---- which item is expected

all_frames : (l : List Item) → expected_after expected.Frame l ≡ expected.Frame
all_frames [] = refl
all_frames (i ∷ l) = refl

pub after_both : (e : Expected) (xs ys : List Item) → expected_after e (xs ++ ys) ≡ expected_after (expected_after e xs) ys
after_both e [] ys = refl
after_both e (x ∷ xs) ys = sym (all_frames ys)

pub follow_rest : (e : Expected) (xs ys : List Item) → MayFollow e (xs ++ ys) → MayFollow (expected_after e xs) ys
follow_rest e [] ys m = m
follow_rest e (x ∷ xs) ys m = subst (λ (k : Expected). MayFollow k ys) (all_frames xs) (follow_rest expected.Frame xs ys m.1)

pub follow_first : (e : Expected) (xs ys : List Item) → MayFollow e (xs ++ ys) → MayFollow e xs
follow_first e [] ys m = tt
follow_first e (x ∷ xs) ys m = (m.0, follow_first expected.Frame xs ys m.1)

read_expected : (e : Expected) (since : List ℕ) (xs : List Item) (next : Expected) (left : List ℕ) → AreRead e since xs next left → next ≡ expected_after e xs
read_expected e since [] next left r = r.0
read_expected e since (x ∷ xs) next left r = read_expected expected.Frame _ xs next left r.1 ∙ all_frames xs

kind_follows : (own : ℕ → Address) (due : Option Due) (e : Expected) (said : List Item) → IsKind own due said → MayAsk own due → Fits e due → MayFollow e said
kind_follows own None e said k m f = subst (λ (l : List Item). MayFollow e l) (sym k) tt
kind_follows own (Some (Asking end peer)) e said k m f = subst (λ (x : Expected). MayFollow x said) (sym f) (k (m end peer refl))
kind_follows own (Some Answering) e said k m f = subst (λ (x : Expected). MayFollow x said) (sym f) k
kind_follows own (Some Framing) e said k m f = subst (λ (x : Expected). MayFollow x said) (sym f) k

-- ---- the frames that were written

-- they are those among the items, with the places that those have
pub way_frames : (reader : Reader) (e : End) (unread : List ℕ) (places : List (Option Place)) (wrote : List (List ℕ)) (said : List Saying) (w : Way reader (first_at e) unread places wrote said) → written_frames said wrote ≡ placed_in (w.gone ++ w.all)
way_frames reader e unread places wrote said w = ap (written_frames said) w.is ∙ ap (placing said [] 0) (frames_written e (w.gone ++ w.all) w.may) ∙ w.truly

-- ---- an end

pub way_on : (own : ℕ → Address) (due : Option Due) (reader now : Reader) (e : End) (unread left : List ℕ) (pieces : List Piece) (count : ℕ) (before after : List (Option Place)) (wrote : List (List ℕ)) (said next : List Saying) (new : List PlacedItem) → Spelled reader unread due → MayAsk own due → (w : Way reader (first_at e) unread before wrote said)
    → ReaderReads (Some reader) count (Some now) → Adds own due pieces new → left ≡ unread ++ bytes_in pieces → PlacesGo before count pieces after → AreTruly next (written_frames said wrote ++ placed_in new) → GoesOn reader now (first_at e) unread left before after wrote (map (λ (piece : Piece). piece.0) pieces) said next count w new
way_on own due reader now e unread left pieces count before after wrote said next new s may w r a is go truly = record {
  then_way = record {
    gone = w.gone ++ at.taken;
    all = at.left ++ new;
    is = ap (λ (l : List (List ℕ)). l ++ map (λ (piece : Piece). piece.0) pieces) w.is ∙ ap (λ (l : List (List ℕ)). spelled_in (w.gone ++ w.all) ++ l) (ap (map (λ (piece : Piece). piece.0)) a.is ∙ pieced_spelled new) ∙ sym (spelled_append (w.gone ++ w.all) new) ∙ ap spelled_in (sym whole);
    may = subst (λ (l : List PlacedItem). MayFollow first (items_in l)) (sym whole) (subst (MayFollow first) (sym (items_append (w.gone ++ w.all) new)) (follow first (items_in (w.gone ++ w.all)) (items_in new) w.may new_follows));
    at = read_expected reader.0 reader.1 r.0 now.0 now.1 r.2 ∙ ap (λ (k : Expected). expected_after k r.0) w.at ∙ ap (expected_after (expected_after first (items_in w.gone))) (sym at.first) ∙ sym (after_both first (items_in w.gone) (items_in at.taken)) ∙ ap (expected_after first) (sym (items_append w.gone at.taken));
    bytes = ap (λ (l : List ℕ). now.1 ++ l) is ∙ sym (append_assoc now.1 unread (bytes_in pieces)) ∙ ap (λ (l : List ℕ). l ++ bytes_in pieces) (of.whole ∙ ap spellings (sym at.second)) ∙ ap (λ (l : List ℕ). spellings (items_in at.left) ++ l) (ap bytes_in a.is ∙ pieced_bytes new)
        ∙ sym (flat_map-append item_spelling (items_in at.left) (items_in new)) ∙ ap spellings (sym (items_append at.left new));
    stand = go (places_in at.taken) (places_in at.left) (w.stand ∙ ap places_in at.is ∙ places_append at.taken at.left) many ∙ ap (λ (l : List (Option Place)). places_in at.left ++ l) (ap pieces_said.places_in a.is ∙ pieced_places new) ∙ sym (places_append at.left new);
    truly = subst (λ (l : List PlacedItem). AreTruly next (placed_in l)) (sym whole) (subst (AreTruly next) (sym (placed_append (w.gone ++ w.all) new)) (subst (λ (l : List Placed). AreTruly next (l ++ placed_in new)) (way_frames reader e unread before wrote said w) truly));
  };
  taken = at.taken;
  many = sym (length-map at.taken (λ (one : PlacedItem). one.0)) ∙ ap length at.first ∙ r.1;
  gone = refl;
  others = at.left;
  split = at.is;
} where
  first : Expected
  first = first_at e

  -- what is unread
  follows : MayFollow reader.0 (items_in w.all)
  follows = subst (λ (k : Expected). MayFollow k (items_in w.all)) (sym w.at) (follow_rest first (items_in w.gone) (items_in w.all) (subst (MayFollow first) (items_append w.gone w.all) w.may))

  same : s.items ≡ items_in w.all
  same = spelled_once reader.0 s.items (items_in w.all) s.each follows (sym s.whole ∙ w.bytes)

  of : AreReadOf (items_in w.all) r.0 now.0 now.1 unread
  of = read_of_spelled reader.0 now.0 reader.1 now.1 unread (items_in w.all) r.0 w.bytes follows r.2

  at : Split w.all r.0 of.rest
  at = split_items w.all r.0 of.rest of.split

  many : length (places_in at.taken) ≡ count
  many = length-map at.taken (λ (one : PlacedItem). one.1) ∙ sym (length-map at.taken (λ (one : PlacedItem). one.0)) ∙ ap length at.first ∙ r.1

  -- all that was written then
  whole : (w.gone ++ at.taken) ++ (at.left ++ new) ≡ (w.gone ++ w.all) ++ new
  whole = append_assoc w.gone at.taken (at.left ++ new) ∙ ap (λ (l : List PlacedItem). w.gone ++ l) (sym (append_assoc at.taken at.left new) ∙ ap (λ (l : List PlacedItem). l ++ new) (sym at.is)) ∙ sym (append_assoc w.gone w.all new)

  next_is : expected_after reader.0 s.items ≡ expected_after first (items_in (w.gone ++ w.all))
  next_is = ap (expected_after reader.0) same ∙ ap (λ (k : Expected). expected_after k (items_in w.all)) w.at ∙ sym (after_both first (items_in w.gone) (items_in w.all)) ∙ ap (expected_after first) (sym (items_append w.gone w.all))

  new_follows : MayFollow (expected_after first (items_in (w.gone ++ w.all))) (items_in new)
  new_follows = subst (λ (k : Expected). MayFollow k (items_in new)) next_is (kind_follows own due (expected_after reader.0 s.items) (items_in new) a.kind may s.next)

-- whoever reads there, and whether it is over
pub way_at : (own : ℕ → Address) (due : Option Due) (reader now : Option Reader) (over : Bool) (e : End) (unread left : List ℕ) (pieces : List Piece) (count : ℕ) (before after : List (Option Place)) (wrote : List (List ℕ)) (said next : List Saying) (new : List PlacedItem) → over ≡ false → left ≡ unread ++ bytes_in pieces → PlacesGo before count pieces after → Flows reader over unread due → MayAsk own due
    → (w : IsWay reader (first_at e) unread before wrote said) → ReaderReads reader count now → Adds own due pieces new → AreTruly next (written_frames said wrote ++ placed_in new) → IsGoing reader now (first_at e) unread left before after wrote (map (λ (piece : Piece). piece.0) pieces) said next count w new
way_at own due reader None over e unread left pieces count before after wrote said next new o is go f m w r a truly = tt
way_at own due None (Some now) over e unread left pieces count before after wrote said next new o is go f m w r a truly = absurd r
way_at own due (Some reader) (Some now) true e unread left pieces count before after wrote said next new o is go f m w r a truly = let no : true ≡ false = o in absurd cc
way_at own due (Some reader) (Some now) false e unread left pieces count before after wrote said next new o is go f m w r a truly = way_on own due reader now e unread left pieces count before after wrote said next new f m w r a is go truly

-- the way after it
pub way_then : (reader now : Option Reader) (first : Expected) (unread left : List ℕ) (before after : List (Option Place)) (wrote more : List (List ℕ)) (said next : List Saying) (count : ℕ) (w : IsWay reader first unread before wrote said) (new : List PlacedItem)
    → IsGoing reader now first unread left before after wrote more said next count w new → IsWay now first left after (wrote ++ more) next
way_then reader None first unread left before after wrote more said next count w new g = tt
way_then None (Some now) first unread left before after wrote more said next count w new g = absurd g
way_then (Some reader) (Some now) first unread left before after wrote more said next count w new g = g.then_way
