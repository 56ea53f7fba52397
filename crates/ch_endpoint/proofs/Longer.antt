-- What stands at the front of bytes once a piece follows them.
use Rattle.std.proofs.Common.{◌≡◌, ℕ, ◌+◌, ◌-◌, ◌<◌, ◌≤◌, true, false, List, [], ◌++◌, length, take, drop, Option, Some, None, refl, ap, sym, subst, ◌∙◌, append_assoc, arith}
use Rattle.std.proofs.lemmas.List.{length-append, length-drop, drop-append-le, take-append-drop, drop-drop, get_or-drop}
use Rattle.ch_reader.specs.declared.item.Expected.{Expected}
use Rattle.ch_reader.specs.declared.item.Expected.TheVariants as expected
use Rattle.ch_reader.specs.declared.item.Front.{Front}
use Rattle.ch_reader.specs.declared.item.Front.TheVariants.{Unfinished, Whole, Refused}
use Rattle.ch_reader.specs.Items.{item_spelling}
use Rattle.ch_reader.specs.Reading.{reading}
use Rattle.ch_reader.specs.Runs.{IsBytes}
use Rattle.ch_reader.specs.States.{State, Waits, state_of, fed, taken}
use Rattle.ch_reader.specs.Streams.{IsRefusal}
use Rattle.ch_reader.proofs.Complete.{reads_item, reads_refusal}
use Rattle.ch_reader.proofs.Readings.{unfinished_is_all, reads_within}
use Rattle.ch_reader.proofs.Runs.{bytes_append, no_bytes, nothing_waits, whole_is_past, refused_is_past}
use Rattle.ch_reader.proofs.Sound.{SaysFront, says}
use Rattle.ch_model.specs.Host.{is_ready_front}
use Rattle.ch_endpoint.specs.Readers.{handed, read_to, HasRead, ReadsOn, KnowsFront, is_whole, past}
use Rattle.ch_endpoint.specs.Unread.{Unread}

abbrev unread : Expected → List ℕ → Unread
unread e since = record { expected = e; since = since }

-- the bytes from a place on are bytes
bytes_drop : (n : ℕ) (xs : List ℕ) → IsBytes xs → IsBytes (drop n xs)
bytes_drop n xs h i = subst (λ (k : ℕ). k < 256) (sym (get_or-drop n xs i 0)) (h (n + i))

-- an item or a refusal at the front stays, whatever follows
pub stands : (e : Expected) (since piece : List ℕ) → IsBytes since → is_ready_front (reading e since).0 ≡ true → reading e (since ++ piece) ≡ reading e since
stands e since piece fits ready = by_front (reading e since).0 refl ready
  where
    by_front : (front : Front) → (reading e since).0 ≡ front → is_ready_front front ≡ true → reading e (since ++ piece) ≡ reading e since
    by_front Unfinished is r = absurd cc
    by_front (Whole item) is r =
        let n : ℕ = (reading e since).1 in
        let s : SaysFront e since (Whole item) n = subst (λ (f : Front). SaysFront e since f n) is (says e since fits) in
        let longer : since ++ piece ≡ item_spelling item ++ (drop n since ++ piece) = ap (λ (xs : List ℕ). xs ++ piece) s.1 ∙ append_assoc (item_spelling item) (drop n since) piece in
        ap (reading e) longer ∙ reads_item e item (drop n since ++ piece) s.0 ∙ sym (ap (reading e) s.1 ∙ reads_item e item (drop n since) s.0)
    by_front (Refused error) is r =
        let n : ℕ = (reading e since).1 in
        let last : IsRefusal e error (take n since) = subst (λ (f : Front). SaysFront e since f n) is (says e since fits) in
        let split : take n since ++ drop n since ≡ since = take-append-drop n since in
        let longer : since ++ piece ≡ take n since ++ (drop n since ++ piece) = ap (λ (xs : List ℕ). xs ++ piece) (sym split) ∙ append_assoc (take n since) (drop n since) piece in
        ap (reading e) longer ∙ reads_refusal e error (take n since) (drop n since ++ piece) last ∙ sym (ap (reading e) (sym split) ∙ reads_refusal e error (take n since) (drop n since) last)

-- what is unfinished is of what stands at the front once a piece follows
pub at_least : (e : Expected) (since piece : List ℕ) → IsBytes (since ++ piece) → (reading e since).0 ≡ Unfinished → length since ≤ (reading e (since ++ piece)).1
at_least e since piece fits u = by_front (reading e (since ++ piece)).0 refl
  where
    by_front : (front : Front) → (reading e (since ++ piece)).0 ≡ front → length since ≤ (reading e (since ++ piece)).1
    by_front Unfinished is = omega (arith, unfinished_is_all e (since ++ piece) is, length-append since piece)
    by_front (Whole item) is = omega (arith, whole_is_past e since piece item fits u is)
    by_front (Refused error) is = omega (arith, refused_is_past e since piece error fits u is)

-- ---- what a reader does

-- what is handed out is what stands at the front
pub handed_is : (e : Expected) (bytes : List ℕ) (front : Front) → handed (taken (state_of e bytes front)).0 ≡ front
handed_is e bytes Unfinished = refl
handed_is e bytes (Whole item) = refl
handed_is e bytes (Refused error) = refl

pub left_is : (e : Expected) (bytes : List ℕ) (front : Front) → (taken (state_of e bytes front)).1 ≡ read_to e bytes front
left_is e bytes Unfinished = refl
left_is e bytes (Whole item) = refl
left_is e bytes (Refused error) = refl

-- a reader that has read bytes is fed, and hands out
pub read_more : (e : Expected) (since piece : List ℕ) (begun held left : State) (front : Front) (count : ℕ) → begun ≡ Waits e since → Path (ℕ × State) (count, held) (fed begun piece) → front ≡ handed (taken held).0 → left ≡ (taken held).1 → ReadsOn e since piece left front count
read_more e since piece begun held left front count b f h l =
    let g : Path (ℕ × State) (count, held) (fed (Waits e since) piece) = f ∙ ap (λ k. fed k piece) b in
    let held_is : held ≡ state_of e (since ++ piece) (reading e (since ++ piece)).0 = ap (λ (p : ℕ × State). p.1) g in
    let front_is : front ≡ (reading e (since ++ piece)).0 = h ∙ ap (λ k. handed (taken k).0) held_is ∙ handed_is e (since ++ piece) (reading e (since ++ piece)).0 in
    record {
      front_is = front_is;
      count_is = ap (λ (p : ℕ × State). p.0) g;
      reader_is = l ∙ ap (λ k. (taken k).1) held_is ∙ left_is e (since ++ piece) (reading e (since ++ piece)).0 ∙ ap (read_to e (since ++ piece)) (sym front_is);
    }

-- ---- what is known of the front

-- of no bytes nothing stands at the front
pub knows_none : (e : Expected) (bytes : List ℕ) → bytes ≡ [] → KnowsFront e bytes 0 None Unfinished 0
knows_none e bytes none =
    let knows : KnowsFront e [] 0 None Unfinished 0 = record {
      fits = no_bytes;
      within = omega arith;
      front_is = sym (nothing_waits e);
      count_is = sym (unfinished_is_all e [] (nothing_waits e));
      reader_is = refl;
    } in
    subst (λ (bs : List ℕ). KnowsFront e bs 0 None Unfinished 0) (sym none) knows

-- bytes behind an item or a refusal
pub knows_behind : (e : Expected) (bytes now piece : List ℕ) (read : ℕ) (reader : Option State) (front : Front) (count : ℕ) → IsBytes piece → is_ready_front (reading e (drop read bytes)).0 ≡ true → now ≡ bytes ++ piece → KnowsFront e bytes read reader front count → KnowsFront e now read reader front count
knows_behind e bytes now piece read reader front count fits ready grown knows =
    let since : List ℕ = drop read bytes in
    let all : drop read (bytes ++ piece) ≡ since ++ piece = drop-append-le read bytes piece knows.within in
    let same : reading e (drop read (bytes ++ piece)) ≡ reading e since = ap (reading e) all ∙ stands e since piece (bytes_drop read bytes knows.fits) ready in
    let known : KnowsFront e (bytes ++ piece) read reader front count = record {
      fits = bytes_append bytes piece knows.fits fits;
      within = omega (arith, length-append bytes piece, knows.within);
      front_is = knows.front_is ∙ sym (ap (λ (x : Front × ℕ). x.0) same);
      count_is = knows.count_is ∙ sym (ap (λ (x : Front × ℕ). x.1) same);
      reader_is = stays_read front reader since (drop read (bytes ++ piece)) (ap is_ready_front knows.front_is ∙ ready) knows.front_is knows.reader_is;
    } in
    subst (λ (bs : List ℕ). KnowsFront e bs read reader front count) (sym grown) known
  where
    stays_read : (front : Front) (reader : Option State) (since all : List ℕ) → is_ready_front front ≡ true → front ≡ (reading e since).0 → HasRead e since front reader → HasRead e all front reader
    stays_read front None since all r is has =
        let none : front ≡ Unfinished = is ∙ ap (λ (bs : List ℕ). (reading e bs).0) has ∙ nothing_waits e in
        absurd (let no : true ≡ false = sym r ∙ ap is_ready_front none in cc)
    stays_read Unfinished (Some k) since all r is has = absurd cc
    stays_read (Whole item) (Some k) since all r is has = has
    stays_read (Refused error) (Some k) since all r is has = has

sum_is : (l n total count : ℕ) → l ≤ total → n ≡ l → count ≡ total - l → n + count ≡ total
sum_is l n total count h is c = omega arith

-- bytes that follow what is unfinished
pub knows_more : (e : Expected) (bytes now piece : List ℕ) (read : ℕ) (held : Option State) (reader : State) (before front : Front) (had count : ℕ) → IsBytes piece → (reading e (drop read bytes)).0 ≡ Unfinished → now ≡ bytes ++ piece → KnowsFront e bytes read held before had → ReadsOn e (drop read bytes) piece reader front count → KnowsFront e now read (Some reader) front (had + count)
knows_more e bytes now piece read held reader before front had count fits u grown knows on =
    let since : List ℕ = drop read bytes in
    let all : drop read (bytes ++ piece) ≡ since ++ piece = drop-append-le read bytes piece knows.within in
    let known : KnowsFront e (bytes ++ piece) read (Some reader) front (had + count) = record {
      fits = bytes_append bytes piece knows.fits fits;
      within = omega (arith, length-append bytes piece, knows.within);
      front_is = on.front_is ∙ sym (ap (λ (bs : List ℕ). (reading e bs).0) all);
      count_is = sum_is (length since) had (reading e (since ++ piece)).1 count (at_least e since piece (bytes_append since piece (bytes_drop read bytes knows.fits) fits) u) (knows.count_is ∙ unfinished_is_all e since u) on.count_is ∙ sym (ap (λ (bs : List ℕ). (reading e bs).1) all);
      reader_is = on.reader_is ∙ sym (ap (λ (bs : List ℕ). read_to e bs front) all);
    } in
    subst (λ (bs : List ℕ). KnowsFront e bs read (Some reader) front (had + count)) (sym grown) known

-- the reader that has read what is unfinished
pub has_unfinished : (e : Expected) (since : List ℕ) (front : Front) (held : Option State) → front ≡ (reading e since).0 → (reading e since).0 ≡ Unfinished → HasRead e since front held → HasRead e since Unfinished held
has_unfinished e since front held is u has = subst (λ f. HasRead e since f held) (is ∙ u) has

-- the reader of an item that is whole has read nothing of the next
pub has_passed : (e : Expected) (since : List ℕ) (front : Front) (held : Option State) → front ≡ (reading e since).0 → is_whole (reading e since).0 ≡ true → HasRead e since front held → HasRead expected.Frame [] Unfinished held
has_passed e since front None is w has =
    let none : (reading e since).0 ≡ Unfinished = ap (λ (bs : List ℕ). (reading e bs).0) has ∙ nothing_waits e in
    absurd (let no : true ≡ false = sym w ∙ ap is_whole none in cc)
has_passed e since Unfinished (Some k) is w has = absurd (let no : true ≡ false = sym w ∙ ap is_whole (sym is) in cc)
has_passed e since (Whole item) (Some k) is w has = has
has_passed e since (Refused error) (Some k) is w has = absurd (let no : true ≡ false = sym w ∙ ap is_whole (sym is) in cc)

-- the item at the front is of the bytes
pub front_within : (e : Expected) (bytes : List ℕ) (read count : ℕ) (reader : Option State) (front : Front) → KnowsFront e bytes read reader front count → read + count ≤ length bytes
front_within e bytes read count reader front knows = omega (arith, knows.within, knows.count_is, reads_within e (drop read bytes), length-drop read bytes)

-- what is known behind an item that was handed out
pub knows_past : (bytes rest : List ℕ) (read : ℕ) (reader : State) (front : Front) (count : ℕ) → IsBytes bytes → read ≤ length bytes → rest ≡ drop read bytes → ReadsOn expected.Frame [] rest reader front count → KnowsFront expected.Frame bytes read (Some reader) front count
knows_past bytes rest read reader front count fits within is on =
    let same : [] ++ rest ≡ drop read bytes = is in
    record {
      fits = fits;
      within = within;
      front_is = on.front_is ∙ ap (λ (bs : List ℕ). (reading expected.Frame bs).0) same;
      count_is = on.count_is ∙ none_less _ ∙ ap (λ (bs : List ℕ). (reading expected.Frame bs).1) same;
      reader_is = on.reader_is ∙ ap (λ (bs : List ℕ). read_to expected.Frame bs front) same;
    }
  where
    none_less : (n : ℕ) → n - 0 ≡ n
    none_less n = omega arith

-- what is of the front, of bytes that are kept, is no more than these
pub more_within : (e : Expected) (bytes now piece : List ℕ) (read : ℕ) (held : Option State) (before : Front) (had count : ℕ) → (reading e (drop read bytes)).0 ≡ Unfinished → now ≡ bytes ++ piece → KnowsFront e bytes read held before had → count ≤ length piece → had + count ≤ length now
more_within e bytes now piece read held before had count u grown knows few =
    let all : had ≡ length (drop read bytes) = knows.count_is ∙ unfinished_is_all e (drop read bytes) u in
    let size : length now ≡ length (bytes ++ piece) = ap length grown in
    omega (arith, all, length-drop read bytes, size, length-append bytes piece, few, knows.within)

-- what is left once a whole item is handed out
pub past_is : (e : Expected) (bytes : List ℕ) (read count : ℕ) (now : Unread) → unread e (drop read bytes) ≡ now → is_whole (reading now.expected now.since).0 ≡ true → count ≡ (reading e (drop read bytes)).1 → unread expected.Frame (drop (read + count) bytes) ≡ past (reading now.expected now.since).0 (reading now.expected now.since).1 now
past_is e bytes read count now same whole is =
    let at : is_whole (reading e (drop read bytes)).0 ≡ true = ap (λ (u : Unread). is_whole (reading u.expected u.since).0) same ∙ whole in
    ap (unread expected.Frame) (sym (drop-drop count read bytes))
    ∙ ap (λ (n : ℕ). unread expected.Frame (drop n (drop read bytes))) is
    ∙ by_front (reading e (drop read bytes)).0 (reading e (drop read bytes)).1 (unread e (drop read bytes)) at
    ∙ ap (λ (u : Unread). past (reading u.expected u.since).0 (reading u.expected u.since).1 u) same
  where
    by_front : (front : Front) (n : ℕ) (u : Unread) → is_whole front ≡ true → unread expected.Frame (drop n u.since) ≡ past front n u
    by_front Unfinished n u w = absurd cc
    by_front (Whole item) n u w = refl
    by_front (Refused error) n u w = absurd cc
