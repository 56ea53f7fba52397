-- A feed goes on as the whole of the bytes since the last item is read.
use Rattle.std.proofs.Common.{◌≡◌, ℕ, ◌+◌, ◌-◌, ◌<◌, ◌≤◌, min, ◌⊎◌, inl, inr, List, [], ◌∷◌, ◌++◌, length, take, drop, refl, sym, ap, subst, ◌∙◌, append_assoc, arith}
use Rattle.std.proofs.lemmas.Bool.{cases_lt}
use Rattle.std.proofs.lemmas.List.{append-nil, length-append, length-take, take-append-drop, take_all, take_at, drop_at, nil_from_length}
use Rattle.ch_reader.specs.declared.item.Expected.{Expected}
use Rattle.ch_reader.specs.declared.item.Front.{Front}
use Rattle.ch_reader.specs.declared.item.Front.TheVariants.{Unfinished, Whole, Refused}
use Rattle.ch_reader.specs.declared.glance.Glance.{Glance}
use Rattle.ch_reader.specs.declared.glance.Glance.TheVariants.{Settled, Body}
use Rattle.ch_reader.specs.declared.glance.Opened.{Opened}
use Rattle.ch_reader.specs.Reading.{header_size, glance_at, rest_reading, reading}
use Rattle.ch_reader.specs.States.{State, Waits, state_of, fed, held}
use Rattle.ch_reader.specs.Keeping.{Completes, HasRoom, Continues, IsUnfinishedSplit, Keeps, IsMissing, KeepsMissing}
use Rattle.ch_reader.proofs.Bodies.{at, pair}
use Rattle.ch_reader.proofs.Headers.{size_bounds, size_front, size_of_front, glance_short, glance_of_front}
use Rattle.ch_reader.proofs.Readings.{read_by, reading_by, unsettled_short, unfinished_is_all, body_is_short, IsHeld, is_held, unfinished_is_held, reads_within, body_short}

-- the bytes are the words at their front and this rest
pub record Splits (e : Expected) (bytes words rest : List ℕ) : Type 0 where
  pub whole : bytes ≡ words ++ rest
  pub front : words ≡ take (header_size e bytes) bytes

-- behind a body the words are whole
pub words_are_whole : (e : Expected) (words : List ℕ) (x : ℕ) (xs : List ℕ) → words ≡ take (header_size e (words ++ x ∷ xs)) (words ++ x ∷ xs) → header_size e (words ++ x ∷ xs) ≡ length words
words_are_whole e words x xs h =
    let l : length words ≡ min (header_size e (words ++ x ∷ xs)) (length (words ++ x ∷ xs)) = ap length h ∙ length-take (header_size e (words ++ x ∷ xs)) (words ++ x ∷ xs) in
    omega (arith, length-append words (x ∷ xs))

splits_nil : (e : Expected) (words piece now : List ℕ) (n : ℕ) → Completes e words piece now n → Splits e ((words ++ []) ++ piece) now ([] ++ drop n piece)
splits_nil e words piece now n c =
    let same : (words ++ []) ++ piece ≡ words ++ piece = ap (λ (xs : List ℕ). xs ++ piece) (append-nil words) in
    record {
      whole = same ∙ ap (λ (xs : List ℕ). words ++ xs) (sym (take-append-drop n piece)) ∙ sym (append_assoc words (take n piece) (drop n piece)) ∙ ap (λ (xs : List ℕ). xs ++ drop n piece) (sym c.bytes);
      front = c.front ∙ ap (λ (xs : List ℕ). take (header_size e xs) xs) (sym same);
    }

-- behind a body the words stay, and nothing of a piece is of them
stays : (e : Expected) (words piece now : List ℕ) (n x : ℕ) (xs : List ℕ) → words ≡ take (header_size e (words ++ x ∷ xs)) (words ++ x ∷ xs) → Completes e words piece now n → (n ≡ 0) × (now ≡ words)
stays e words piece now n x xs h c =
    let size = words_are_whole e words x xs h in
    let four : 4 ≤ length words = omega (arith, (size_bounds e (words ++ x ∷ xs)).0) in
    let own : header_size e (words ++ piece) ≡ length words = size_front e words piece four ∙ sym (size_front e words (x ∷ xs) four) ∙ size in
    let same : now ≡ words = c.front ∙ ap (λ (k : ℕ). take k (words ++ piece)) own ∙ take_at words piece (length words) refl in
    (omega (arith, ap length same, ap length c.bytes, length-append words (take n piece), length-take n piece, c.within), same)

splits_cons : (e : Expected) (words piece now : List ℕ) (n x : ℕ) (xs : List ℕ) → words ≡ take (header_size e (words ++ x ∷ xs)) (words ++ x ∷ xs) → Completes e words piece now n
    → Splits e ((words ++ x ∷ xs) ++ piece) now ((x ∷ xs) ++ drop n piece)
splits_cons e words piece now n x xs h c =
    let k = stays e words piece now n x xs h c in
    let size = words_are_whole e words x xs h in
    let four : 4 ≤ length (words ++ x ∷ xs) = omega (arith, (size_bounds e (words ++ x ∷ xs)).0, length-append words (x ∷ xs)) in
    let all : header_size e ((words ++ x ∷ xs) ++ piece) ≡ length words = size_front e (words ++ x ∷ xs) piece four ∙ size in
    record {
      whole = append_assoc words (x ∷ xs) piece ∙ ap (λ (ws : List ℕ). ws ++ ((x ∷ xs) ++ piece)) (sym k.1) ∙ ap (λ (m : ℕ). now ++ ((x ∷ xs) ++ drop m piece)) (sym k.0);
      front = k.1 ∙ sym (take_at words ((x ∷ xs) ++ piece) (length words) refl) ∙ ap (take (length words)) (sym (append_assoc words (x ∷ xs) piece)) ∙ ap (λ (m : ℕ). take m ((words ++ x ∷ xs) ++ piece)) (sym all);
    }

pub splits : (e : Expected) (words body piece now : List ℕ) (n : ℕ) → IsUnfinishedSplit e words body → Completes e words piece now n → Splits e ((words ++ body) ++ piece) now (body ++ drop n piece)
splits e words [] piece now n k c = splits_nil e words piece now n c
splits e words (x ∷ xs) piece now n k c = splits_cons e words piece now n x xs k.front c

-- the words have room where they are completed
pub words_low : (e : Expected) (words body : List ℕ) → IsUnfinishedSplit e words body → length words ≤ header_size e words
words_low e words body k =
    let s : ℕ = header_size e (words ++ body) in
    let own : header_size e words ≡ s = ap (header_size e) k.front ∙ size_of_front e (words ++ body) in
    omega (arith, own, ap length k.front, length-take s (words ++ body))

any_room : (g : Glance) → HasRoom g []
any_room (Settled front) = tt
any_room (Body o count) = omega arith

room_by : (size len : ℕ) (rest : List ℕ) (g : Glance) → (read_by size len rest g).0 ≡ Unfinished → HasRoom g rest
room_by size len rest (Settled front) h = tt
room_by size len rest (Body o count) h = omega (arith, body_is_short size len rest o count h)

-- the body so far isn't longer than the words say
pub has_room : (e : Expected) (words body piece now : List ℕ) (n : ℕ) → IsUnfinishedSplit e words body → Completes e words piece now n → HasRoom (glance_at e now) body
has_room e words [] piece now n k c = any_room (glance_at e now)
has_room e words (x ∷ xs) piece now n k c =
    let since : List ℕ = words ++ x ∷ xs in
    let s : ℕ = header_size e since in
    let size : s ≡ length words = words_are_whole e words x xs k.front in
    let same : glance_at e now ≡ glance_at e since = ap (glance_at e) ((stays e words piece now n x xs k.front c).1 ∙ k.front) ∙ glance_of_front e since in
    let rest : drop s since ≡ x ∷ xs = drop_at words (x ∷ xs) s (sym size) in
    let reads : (reading e since).0 ≡ Unfinished = ap (λ (r : Front × ℕ). r.0) k.reads in
    subst (λ (g : Glance). HasRoom g (x ∷ xs)) (sym same) (room_by s (length since) (x ∷ xs) (glance_at e since) (subst (λ (xs : List ℕ). (read_by s (length since) xs (glance_at e since)).0 ≡ Unfinished) rest reads))

-- ---- the front that a feed finds

-- What a feed came to: this stands at the front of all, and so many bytes of the piece are of it; where it is unfinished all bytes are kept.
pub record Finds (e : Expected) (since all words body : List ℕ) (front : Front) (count : ℕ) : Type 0 where
  pub found : (reading e all).0 ≡ front
  pub counted : (reading e all).1 - length since ≡ count
  pub kept : front ≡ Unfinished → words ++ body ≡ all

whole_front : (e : Expected) (all words rest : List ℕ) → Splits e all words rest → length all < header_size e all → words ++ [] ≡ all
whole_front e all words rest s lt = append-nil words ∙ s.front ∙ take_all (header_size e all) all (omega arith)

finds_by : (e : Expected) (since all words body rest after : List ℕ) (front : Front) (n k : ℕ) (g : Glance)
    → glance_at e all ≡ g → Splits e all words (body ++ rest) → length words ≡ length since - length body + n → length body ≤ length since → (length body ≡ 0) ⊎ (n ≡ 0)
    → Continues g body rest front k after → Finds e since all words after front (n + k)
finds_by e since all words body rest after front n k (Settled settled) h s len le small c =
    let r : reading e all ≡ read_by (header_size e all) (length all) (drop (header_size e all) all) (Settled settled) = reading_by e all (Settled settled) h in
    let l : length words ≡ min (header_size e all) (length all) = ap length s.front ∙ length-take (header_size e all) all in
    record {
      found = ap (λ (p : Front × ℕ). p.0) r ∙ sym c.0;
      counted = ap (λ (p : Front × ℕ). p.1 - length since) r ∙ count_settled (length words) (min (header_size e all) (length all)) (length since) (length body) n k l len le small c.1;
      kept = λ (u : front ≡ Unfinished).
          let short : length all < header_size e all = unsettled_short e all (h ∙ ap Settled (sym c.0 ∙ u)) in
          let none : after ≡ [] = c.2 ∙ nil_from_length body (omega (arith, ap length s.whole, length-append words (body ++ rest), length-append body rest)) in
          ap (λ (xs : List ℕ). words ++ xs) none ∙ whole_front e all words (body ++ rest) s short;
    }
  where
    count_settled : (w m t b i j : ℕ) → w ≡ m → w ≡ t - b + i → b ≤ t → (b ≡ 0) ⊎ (i ≡ 0) → j ≡ 0 → m + 0 - t ≡ i + j
    count_settled w m t b i j p q r (inl z) y = omega arith
    count_settled w m t b i j p q r (inr z) y = omega arith
finds_by e since all words body rest after front n k (Body o count) h s len le small c =
    let size : ℕ = header_size e all in
    let r : reading e all ≡ read_by size (length all) (drop size all) (Body o count) = reading_by e all (Body o count) h in
    let l : length words ≡ min size (length all) = ap length s.front ∙ length-take size all in
    let long : size ≤ length all = not_short e all o count h in
    let tail : drop size all ≡ body ++ rest = ap (drop size) s.whole ∙ drop_at words (body ++ rest) size (omega arith) in
    let reads : rest_reading (Body o count) (drop size all) ≡ at front (length body + k) = ap (rest_reading (Body o count)) tail ∙ sym c.0 in
    record {
      found = ap (λ (p : Front × ℕ). p.0) r ∙ ap (λ (p : Front × ℕ). p.0) reads;
      counted = ap (λ (p : Front × ℕ). p.1 - length since) r ∙ ap (λ (p : Front × ℕ). min size (length all) + p.1 - length since) reads ∙ count_body (length words) (min size (length all)) (length since) (length body) n k l len le;
      kept = λ (u : front ≡ Unfinished). ap (λ (xs : List ℕ). words ++ xs) (c.1 u) ∙ sym s.whole;
    }
  where
    count_body : (w m t b i j : ℕ) → w ≡ m → w ≡ t - b + i → b ≤ t → m + (b + j) - t ≡ i + j
    count_body w m t b i j p q r = omega arith

    settled_is : (f : Front) (p : Opened) (m : ℕ) → Settled f ≡ Body p m → ⊥
    settled_is f p m x = cc

    not_short : (d : Expected) (bytes : List ℕ) (p : Opened) (m : ℕ) → glance_at d bytes ≡ Body p m → header_size d bytes ≤ length bytes
    not_short d bytes p m x = elim (cases_lt (length bytes) (header_size d bytes)) [
      | inl lt ↦ absurd (settled_is Unfinished p m (sym (glance_short d bytes lt) ∙ x))
      | inr ge ↦ ge
    ]

small_by : (e : Expected) (words body piece now : List ℕ) (n : ℕ) → IsUnfinishedSplit e words body → Completes e words piece now n → (length body ≡ 0) ⊎ (n ≡ 0)
small_by e words [] piece now n k c = inl refl
small_by e words (x ∷ xs) piece now n k c = inr (stays e words piece now n x xs k.front c).0

-- what a feed comes to
pub finds : (e : Expected) (words body piece now after : List ℕ) (front : Front) (n k : ℕ) → IsUnfinishedSplit e words body → Completes e words piece now n
    → Continues (glance_at e now) body (drop n piece) front k after → Finds e (words ++ body) ((words ++ body) ++ piece) now after front (n + k)
finds e words body piece now after front n k kept c goes =
    let all : List ℕ = (words ++ body) ++ piece in
    let s = splits e words body piece now n kept c in
    let same : glance_at e now ≡ glance_at e all = ap (glance_at e) s.front ∙ glance_of_front e all in
    finds_by e (words ++ body) all now body (drop n piece) after front n k (glance_at e all) refl s
    (omega (arith, length-append words body, ap length c.bytes, length-append words (take n piece), length-take n piece, c.within)) (omega (arith, length-append words body)) (small_by e words body piece now n kept c)
    (subst (λ (g : Glance). Continues g body (drop n piece) front k after) same goes)

-- ---- what a reader keeps and answers

keeps_by : (e : Expected) (since all words body : List ℕ) (front : Front) (count : ℕ) → Finds e since all words body front count → words ≡ take (header_size e all) all → Keeps e words body front
keeps_by e since all words body Unfinished count f front =
    let same : words ++ body ≡ all = f.kept refl in
    let reads : reading e all ≡ at Unfinished (length all) = pair f.found (unfinished_is_all e all f.found) in
    record {
      front = front ∙ ap (λ (xs : List ℕ). take (header_size e xs) xs) (sym same);
      reads = ap (reading e) same ∙ reads ∙ ap (λ (xs : List ℕ). at Unfinished (length xs)) (sym same);
    }
keeps_by e since all words body (Whole item) count f front = subst IsHeld f.found (is_held e all)
keeps_by e since all words body (Refused error) count f front = tt

abbrev fed_as : ℕ → State → ℕ × State
fed_as n s = (n, s)

state_by : (e : Expected) (since all words body : List ℕ) (front : Front) (count : ℕ) → Finds e since all words body front count → state_of e (words ++ body) front ≡ state_of e all front
state_by e since all words body Unfinished count f = ap (Waits e) (f.kept refl)
state_by e since all words body (Whole item) count f = refl
state_by e since all words body (Refused error) count f = refl

-- the answer of a feed, and the reader after it
pub feeds : (e : Expected) (words body piece now after : List ℕ) (front : Front) (n k : ℕ) → IsUnfinishedSplit e words body → Completes e words piece now n
    → Continues (glance_at e now) body (drop n piece) front k after → (n + k, state_of e (now ++ after) front) ≡ fed (Waits e (words ++ body)) piece
feeds e words body piece now after front n k kept c goes =
    let all : List ℕ = (words ++ body) ++ piece in
    let f = finds e words body piece now after front n k kept c goes in
    ap (λ (m : ℕ). fed_as m (state_of e (now ++ after) front)) (sym f.counted)
    ∙ ap (fed_as ((reading e all).1 - length (words ++ body))) (state_by e (words ++ body) all now after front (n + k) f ∙ ap (state_of e all) (sym f.found))

-- what a reader keeps after a feed
pub keeps : (e : Expected) (words body piece now after : List ℕ) (front : Front) (n k : ℕ) → IsUnfinishedSplit e words body → Completes e words piece now n
    → Continues (glance_at e now) body (drop n piece) front k after → Keeps e now after front
keeps e words body piece now after front n k kept c goes =
    keeps_by e (words ++ body) ((words ++ body) ++ piece) now after front (n + k) (finds e words body piece now after front n k kept c goes) (splits e words body piece now n kept c).front

-- what a reader keeps is small
pub keeps_little : (e : Expected) (words body : List ℕ) (front : Front) → Keeps e words body front → held (state_of e (words ++ body) front) ≤ 65544
keeps_little e words body Unfinished k = unfinished_is_held e (words ++ body) (ap (λ (r : Front × ℕ). r.0) k.reads)
keeps_little e words body (Whole item) k = k
keeps_little e words body (Refused error) k = omega arith

-- no more is taken than the piece has
pub takes_within : (e : Expected) (words body piece now after : List ℕ) (front : Front) (n k : ℕ) → IsUnfinishedSplit e words body → Completes e words piece now n
    → Continues (glance_at e now) body (drop n piece) front k after → n + k ≤ length piece
takes_within e words body piece now after front n k kept c goes =
    let all : List ℕ = (words ++ body) ++ piece in
    omega (arith, (finds e words body piece now after front n k kept c goes).counted, reads_within e all, length-append (words ++ body) piece)

-- the parts of a reader that waits
pub unfinished_parts : (e : Expected) (words body : List ℕ) (front : Front) → front ≡ Unfinished → Keeps e words body front → IsUnfinishedSplit e words body
unfinished_parts e words body front is k = subst (Keeps e words body) is k

-- the same words and the same rest
pub goes_on : (e : Expected) (seen now body rest piece after : List ℕ) (front : Front) (n k : ℕ) → seen ≡ now → rest ≡ drop n piece
    → Continues (glance_at e seen) body rest front k after → Continues (glance_at e now) body (drop n piece) front k after
goes_on e seen now body rest piece after front n k p q c =
    subst (λ (r : List ℕ). Continues (glance_at e now) body r front k after) q (subst (λ (w : List ℕ). Continues (glance_at e w) body rest front k after) p c)

-- what a reader that waits is
pub waits : (e : Expected) (words body : List ℕ) (front : Front) (state : State) → front ≡ Unfinished → state_of e (words ++ body) front ≡ state → Waits e (words ++ body) ≡ state
waits e words body front state is h = sym (ap (state_of e (words ++ body)) is) ∙ h

abbrev pub at_state : ℕ → State → ℕ × State
at_state n state = (n, state)

-- ---- a piece within a body

-- behind whole words nothing of a piece is of the words
stays_whole : (e : Expected) (words piece : List ℕ) → length words ≤ header_size e words → header_size e words ≤ length words → Completes e words piece words 0
stays_whole e words piece low high =
    let four : 4 ≤ length words = omega (arith, (size_bounds e words).0) in
    let size : header_size e (words ++ piece) ≡ length words = size_front e words piece four ∙ omega arith in
    record {
      within = omega arith;
      bytes = sym (append-nil words);
      front = sym (take_at words piece (length words) refl) ∙ ap (λ (k : ℕ). take k (words ++ piece)) (sym size);
    }

settled_isnt_body : (front : Front) (o : Opened) (count : ℕ) → Settled front ≡ Body o count → ⊥
settled_isnt_body front o count x = cc

within_by : (e : Expected) (words body piece : List ℕ) (missing : ℕ) (g : Glance) → glance_at e words ≡ g → length piece < missing → IsMissing g body missing
    → (header_size e words ≤ length words) × Continues (glance_at e words) body (drop 0 piece) Unfinished (length piece) (body ++ piece)
within_by e words body piece missing (Settled front) h lt m = absurd (omega arith)
within_by e words body piece missing (Body o count) h lt m =
    let sum : length body + missing ≡ count = m (omega arith) in
    let short : rest_reading (Body o count) (body ++ piece) ≡ at Unfinished (length body + length piece) =
    body_short o count (body ++ piece) (omega (arith, length-append body piece)) ∙ ap (at Unfinished) (length-append body piece) in (
      whole (cases_lt (length words) (header_size e words)),
      subst (λ (x : Glance). Continues x body piece Unfinished (length piece) (body ++ piece)) (sym h) (sym short, λ _. refl),
    )
  where
    whole : (length words < header_size e words) ⊎ (header_size e words ≤ length words) → header_size e words ≤ length words
    whole (inl lt) = absurd (settled_isnt_body Unfinished o count (sym (glance_short e words lt) ∙ h))
    whole (inr le) = le

-- a piece within a body
pub within_body : (e : Expected) (words body piece : List ℕ) (missing : ℕ) → IsUnfinishedSplit e words body → KeepsMissing e words body missing → length piece < missing
    → (at_state (length piece) (Waits e (words ++ (body ++ piece))) ≡ fed (Waits e (words ++ body)) piece) × IsUnfinishedSplit e words (body ++ piece)
within_body e words body piece missing kept m lt =
    let w = within_by e words body piece missing (glance_at e words) refl lt (m (omega arith)) in
    let c = stays_whole e words piece (words_low e words body kept) w.0 in (
      ap (λ (n : ℕ). at_state n (Waits e (words ++ (body ++ piece)))) (omega arith) ∙ feeds e words body piece words (body ++ piece) Unfinished 0 (length piece) kept c w.1,
      keeps e words body piece words (body ++ piece) Unfinished 0 (length piece) kept c w.1,
    )

missing_less : (g : Glance) (body piece : List ℕ) (missing : ℕ) → length piece < missing → IsMissing g body missing → IsMissing g (body ++ piece) (missing - length piece)
missing_less (Settled front) body piece missing lt m = absurd (omega arith)
missing_less (Body o count) body piece missing lt m = λ _. let sum = m (omega arith) in omega (arith, length-append body piece)

-- what is missing after such a piece
pub keeps_missing : (e : Expected) (words body piece : List ℕ) (missing : ℕ) → KeepsMissing e words body missing → length piece < missing → KeepsMissing e words (body ++ piece) (missing - length piece)
keeps_missing e words body piece missing m lt = λ _. missing_less (glance_at e words) body piece missing lt (m (omega arith))

-- the parts of a reader after such a piece
pub keeps_within : (e : Expected) (words body piece now : List ℕ) (front : Front) (missing : ℕ) → front ≡ Unfinished → now ≡ body ++ piece → Keeps e words body front → KeepsMissing e words body missing → length piece < missing
    → KeepsMissing e words now (missing - length piece) × Keeps e words now front
keeps_within e words body piece now front missing is same k m lt =
    let w = within_body e words body piece missing (unfinished_parts e words body front is k) m lt in (
      subst (λ (b : List ℕ). KeepsMissing e words b (missing - length piece)) (sym same) (keeps_missing e words body piece missing m lt),
      subst (Keeps e words now) (sym is) (subst (IsUnfinishedSplit e words) (sym same) w.1),
    )

-- the answer of a feed of such a piece, and the reader after it
pub feeds_within : (e : Expected) (words body piece now : List ℕ) (front : Front) (missing : ℕ) (state : State) → front ≡ Unfinished → now ≡ body ++ piece → Keeps e words body front → KeepsMissing e words body missing → length piece < missing
    → state_of e (words ++ body) front ≡ state → at_state (length piece) (state_of e (words ++ now) front) ≡ fed state piece
feeds_within e words body piece now front missing state is same k m lt view =
    let w = within_body e words body piece missing (unfinished_parts e words body front is k) m lt in
    ap (λ (f : Front). at_state (length piece) (state_of e (words ++ now) f)) is
    ∙ ap (λ (b : List ℕ). at_state (length piece) (Waits e (words ++ b))) same
    ∙ w.0
    ∙ ap (λ (s : State). fed s piece) (waits e words body front state is view)

-- what is missing of the same words and body
pub missing_at : (e : Expected) (seen words text body : List ℕ) (missing : ℕ) → seen ≡ words → text ≡ body → KeepsMissing e seen text missing → KeepsMissing e words body missing
missing_at e seen words text body missing p q m = subst (λ (b : List ℕ). KeepsMissing e words b missing) q (subst (λ (w : List ℕ). KeepsMissing e w text missing) p m)
