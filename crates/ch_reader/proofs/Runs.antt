-- Feeds and takes keep the account of the bytes taken.
use Rattle.std.proofs.Common.{◌≡◌, ℕ, ◌+◌, ◌-◌, ◌<◌, ◌≤◌, inl, inr, List, [], ◌∷◌, ◌++◌, length, take, drop, refl, sym, ap, subst, ◌∙◌, append_assoc, arith}
use Rattle.std.proofs.Math.Seq.{take-append-add}
use Rattle.std.specs.List.{AllByRecursion}
use Rattle.std.proofs.lemmas.Bool.{cases_lt}
use Rattle.std.proofs.lemmas.List.{append-nil, length-append, length-take, take_all, take_at, take-append-le, take-append-drop, flat_map_more, get_or_append_left, get_or-append_right, get_or-append-add, get_or-take, get_or_past}
use Rattle.ch_reader.specs.declared.item.Expected.{Expected}
use Rattle.ch_reader.specs.declared.item.Expected.TheVariants as expected
use Rattle.ch_reader.specs.declared.item.Item.{Item}
use Rattle.ch_reader.specs.declared.item.ReaderError.{ReaderError}
use Rattle.ch_reader.specs.declared.item.Role.{Role}
use Rattle.ch_reader.specs.declared.item.Front.{Front}
use Rattle.ch_reader.specs.declared.item.Front.TheVariants.{Unfinished, Whole, Refused}
use Rattle.ch_reader.specs.Items.{item_spelling, spellings, MayStand, MayFollow, expected_after, first_expected}
use Rattle.ch_reader.specs.Streams.{IsUnfinished, IsRefusal, IsStreamFrom, IsStream, IsMalformed}
use Rattle.ch_reader.specs.Reading.{reading}
use Rattle.ch_reader.specs.States.{State, Waits, Holds, Refuses, state_of, fed, taken, held}
use Rattle.ch_reader.specs.Runs.{Call, Feed, Take, Past, IsBytes, FeedsBytes, beginning, after, run, with_taken, Accounts}
use Rattle.ch_reader.proofs.Readings.{IsHeld, is_held, unfinished_is_held, unfinished_is_all}
use Rattle.ch_reader.proofs.Complete.{reads_item, reads_unfinished, reads_refusal}
use Rattle.ch_reader.proofs.Sound.{SaysFront, says}
use Rattle.ch_reader.proofs.Streams.{after_frame, refusal_is_one, never_both}

-- ---- bytes

pub bytes_append : (xs ys : List ℕ) → IsBytes xs → IsBytes ys → IsBytes (xs ++ ys)
bytes_append xs ys p q i =
    elim (cases_lt i (length xs)) [
      | inl lt ↦ rw (get_or_append_left xs ys 0 i lt) (p i)
      | inr le ↦ rw (get_or-append_right xs ys (length xs) i 0 refl le) (q (i - length xs))
    ]

bytes_tail : (xs ys : List ℕ) → IsBytes (xs ++ ys) → IsBytes ys
bytes_tail xs ys h i = subst (λ (n : ℕ). n < 256) (get_or-append-add xs ys i 0) (h (length xs + i))

pub bytes_take : (n : ℕ) (xs : List ℕ) → IsBytes xs → IsBytes (take n xs)
bytes_take n xs h i =
    elim (cases_lt i n) [
      | inl lt ↦ rw (get_or-take n xs i 0 lt) (h i)
      | inr le ↦ rw (get_or_past (take n xs) i 0 (omega (arith, length-take n xs))) (omega arith)
    ]

-- ---- what a piece adds

waits_not_whole : (item : Item) → Unfinished ≡ Whole item → ⊥
waits_not_whole item e = cc

waits_not_refused : (error : ReaderError) → Unfinished ≡ Refused error → ⊥
waits_not_refused error e = cc

-- the bytes of an item at the front, where it is one
record IsAt (e : Expected) (bytes : List ℕ) (item : Item) : Type 0 where
  stands : MayStand e item
  size : (reading e bytes).1 ≡ length (item_spelling item)
  spelled : take (reading e bytes).1 bytes ≡ item_spelling item

whole_at : (e : Expected) (bytes : List ℕ) (item : Item) → IsBytes bytes → (reading e bytes).0 ≡ Whole item → IsAt e bytes item
whole_at e bytes item fits is =
    let s : SaysFront e bytes (Whole item) (reading e bytes).1 = subst (λ (f : Front). SaysFront e bytes f (reading e bytes).1) is (says e bytes fits) in
    let n : ℕ = (reading e bytes).1 in
    let size : n ≡ length (item_spelling item) = ap (λ (xs : List ℕ). (reading e xs).1) s.1 ∙ ap (λ (p : Front × ℕ). p.1) (reads_item e item (drop n bytes) s.0) in
    record { stands = s.0; size = size; spelled = ap (take n) s.1 ∙ take_at (item_spelling item) (drop n bytes) n (sym size) }

refused_at : (e : Expected) (bytes : List ℕ) (error : ReaderError) → IsBytes bytes → (reading e bytes).0 ≡ Refused error → IsRefusal e error (take (reading e bytes).1 bytes)
refused_at e bytes error fits is = subst (λ (f : Front). SaysFront e bytes f (reading e bytes).1) is (says e bytes fits)

-- an item that stands once a piece has come has bytes of the piece
pub whole_is_past : (e : Expected) (since piece : List ℕ) (item : Item) → IsBytes (since ++ piece) → (reading e since).0 ≡ Unfinished → (reading e (since ++ piece)).0 ≡ Whole item → length since < (reading e (since ++ piece)).1
whole_is_past e since piece item fits waits is =
    let n : ℕ = (reading e (since ++ piece)).1 in
    let a = whole_at e (since ++ piece) item fits is in
    elim (cases_lt (length since) n) [
      | inl lt ↦ lt
      | inr le ↦
          let front : take n since ≡ item_spelling item = sym (take-append-le n since piece le) ∙ a.spelled in
          let split : since ≡ item_spelling item ++ drop n since = sym (take-append-drop n since) ∙ ap (λ (xs : List ℕ). xs ++ drop n since) front in
          absurd (waits_not_whole item (sym waits ∙ ap (λ (xs : List ℕ). (reading e xs).0) split ∙ ap (λ (p : Front × ℕ). p.0) (reads_item e item (drop n since) a.stands)))
    ]

pub refused_is_past : (e : Expected) (since piece : List ℕ) (error : ReaderError) → IsBytes (since ++ piece) → (reading e since).0 ≡ Unfinished → (reading e (since ++ piece)).0 ≡ Refused error → length since < (reading e (since ++ piece)).1
refused_is_past e since piece error fits waits is =
    let n : ℕ = (reading e (since ++ piece)).1 in
    let a = refused_at e (since ++ piece) error fits is in
    elim (cases_lt (length since) n) [
      | inl lt ↦ lt
      | inr le ↦
          let last : IsRefusal e error (take n since) = subst (IsRefusal e error) (take-append-le n since piece le) a in
          absurd (waits_not_refused error (sym waits ∙ ap (λ (xs : List ℕ). (reading e xs).0) (sym (take-append-drop n since)) ∙ ap (λ (p : Front × ℕ). p.0) (reads_refusal e error (take n since) (drop n since) last)))
    ]

-- what is taken of a piece, behind the bytes since
taken_front : (since piece : List ℕ) (n : ℕ) → length since ≤ n → since ++ take (n - length since) piece ≡ take n (since ++ piece)
taken_front since piece n le = sym (take-append-add since piece (n - length since)) ∙ ap (λ (k : ℕ). take k (since ++ piece)) (let k : length since + (n - length since) ≡ n = omega arith in k)

-- ---- one more item

after_more : (e : Expected) (items : List Item) (item : Item) → expected_after e (items ++ item ∷ []) ≡ expected.Frame
after_more e [] item = refl
after_more e (i ∷ is) item = refl

follows_more : (e : Expected) (items : List Item) (item : Item) → MayFollow e items → MayStand (expected_after e items) item → MayFollow e (items ++ item ∷ [])
follows_more e [] item f s = (s, tt)
follows_more e (i ∷ is) item f s = (f.0, follows_more expected.Frame is item f.1 (subst (λ (k : Expected). MayStand k item) (sym (after_frame is)) s))

nothing_unfinished : (e : Expected) → IsUnfinished e []
nothing_unfinished expected.Request = inl (omega arith)
nothing_unfinished expected.Answer = omega arith
nothing_unfinished expected.Frame = inl (omega arith)

stream_more : (e : Expected) (bytes since more : List ℕ) (items : List Item) (item : Item) → IsStreamFrom e bytes items since → MayStand (expected_after e items) item → since ++ more ≡ item_spelling item → IsStreamFrom e (bytes ++ more) (items ++ item ∷ []) []
stream_more e bytes since more items item s stands spelled = record {
  whole = ap (λ (xs : List ℕ). xs ++ more) s.whole ∙ append_assoc (spellings items) since more ∙ ap (λ (xs : List ℕ). spellings items ++ xs) spelled ∙ flat_map_more item_spelling [] items item ∙ sym (append-nil (spellings (items ++ item ∷ [])));
  each = follows_more e items item s.each stands;
  unfinished = subst (λ (k : Expected). IsUnfinished k []) (sym (after_more e items item)) (nothing_unfinished expected.Frame);
}

-- ---- the account of a feed and of a take

feed_by : (role : Role) (bytes : List ℕ) (items : List Item) (e : Expected) (since piece : List ℕ) (front : Front) (n : ℕ) → IsBytes (since ++ piece) → e ≡ expected_after (first_expected role) items → IsStream role bytes items since
    → (reading e (since ++ piece)).0 ≡ front → n ≡ (reading e (since ++ piece)).1 - length since → Accounts role (bytes ++ take n piece) items (state_of e (since ++ piece) front)
feed_by role bytes items e since piece Unfinished n fits is s front count =
    let all : n ≡ length piece = omega (arith, unfinished_is_all e (since ++ piece) front, length-append since piece) in (
      is,
      record {
        whole = ap (λ (xs : List ℕ). xs ++ take n piece) s.whole ∙ append_assoc (spellings items) since (take n piece) ∙ ap (λ (xs : List ℕ). spellings items ++ (since ++ xs)) (take_all n piece (omega arith));
        each = s.each;
        unfinished = subst (λ (k : Expected). IsUnfinished k (since ++ piece)) is (subst (λ (f : Front). SaysFront e (since ++ piece) f (reading e (since ++ piece)).1) front (says e (since ++ piece) fits));
      },
    )
feed_by role bytes items e since piece (Whole item) n fits is s front count =
    let a = whole_at e (since ++ piece) item fits front in
    let waits : (reading e since).0 ≡ Unfinished = ap (λ (p : Front × ℕ). p.0) (reads_unfinished e since (subst (λ (k : Expected). IsUnfinished k since) (sym is) s.unfinished)) in
    let past = whole_is_past e since piece item fits waits front in
    stream_more (first_expected role) bytes since (take n piece) items item s (subst (λ (k : Expected). MayStand k item) is a.stands)
    (ap (λ (k : ℕ). since ++ take k piece) count ∙ taken_front since piece (reading e (since ++ piece)).1 (omega arith) ∙ a.spelled)
feed_by role bytes items e since piece (Refused error) n fits is s front count =
    let waits : (reading e since).0 ≡ Unfinished = ap (λ (p : Front × ℕ). p.0) (reads_unfinished e since (subst (λ (k : Expected). IsUnfinished k since) (sym is) s.unfinished)) in
    let past = refused_is_past e since piece error fits waits front in
    let last : since ++ take n piece ≡ take (reading e (since ++ piece)).1 (since ++ piece) = ap (λ (k : ℕ). since ++ take k piece) count ∙ taken_front since piece (reading e (since ++ piece)).1 (omega arith) in (
      record {
        items = items;
        last = since ++ take n piece;
        whole = ap (λ (xs : List ℕ). xs ++ take n piece) s.whole ∙ append_assoc (spellings items) since (take n piece);
        each = s.each;
        refused = subst (λ (k : Expected). IsRefusal k error (since ++ take n piece)) is (subst (IsRefusal e error) (sym last) (refused_at e (since ++ piece) error fits front));
      },
      refl,
    )

since_bytes : (role : Role) (bytes : List ℕ) (items : List Item) (since : List ℕ) → IsBytes bytes → IsStream role bytes items since → IsBytes since
since_bytes role bytes items since fits s = bytes_tail (spellings items) since (subst IsBytes s.whole fits)

-- a feed keeps the account
pub accounts_feed : (role : Role) (bytes : List ℕ) (items : List Item) (state : State) (piece : List ℕ) → IsBytes bytes → IsBytes piece → Accounts role bytes items state → Accounts role (bytes ++ take (fed state piece).0 piece) items (fed state piece).1
accounts_feed role bytes items (Waits e since) piece fits more a =
    feed_by role bytes items e since piece (reading e (since ++ piece)).0 ((reading e (since ++ piece)).1 - length since) (bytes_append since piece (since_bytes role bytes items since fits a.1) more) a.0 a.1 refl refl
accounts_feed role bytes items (Holds item) piece fits more a = subst (λ (xs : List ℕ). Accounts role xs items (Holds item)) (sym (append-nil bytes)) a
accounts_feed role bytes items (Refuses error) piece fits more a = subst (λ (xs : List ℕ). Accounts role xs items (Refuses error)) (sym (append-nil bytes)) a

-- a take keeps the account
pub accounts_take : (role : Role) (bytes : List ℕ) (items : List Item) (state : State) → Accounts role bytes items state → Accounts role bytes (with_taken items (taken state).0) (taken state).1
accounts_take role bytes items (Waits e since) a = a
accounts_take role bytes items (Holds item) a = (sym (after_more (first_expected role) items item), a)
accounts_take role bytes items (Refuses error) a = a

-- nothing taken is accounted for
pub accounts_start : (role : Role) → Accounts role [] [] (Waits (first_expected role) [])
accounts_start role = (refl, record { whole = refl; each = tt; unfinished = nothing_unfinished (first_expected role) })

run_accounts : (role : Role) (p : Past) (calls : List Call) → IsBytes p.bytes → AllByRecursion FeedsBytes calls → Accounts role p.bytes p.items p.state → let q = run p calls in Accounts role q.bytes q.items q.state
run_accounts role p [] fits each a = a
run_accounts role p (Feed piece ∷ calls) fits each a =
    run_accounts role (after p (Feed piece)) calls (bytes_append p.bytes (take (fed p.state piece).0 piece) fits (bytes_take (fed p.state piece).0 piece each.0)) each.1 (accounts_feed role p.bytes p.items p.state piece fits each.0 a)
run_accounts role p (Take ∷ calls) fits each a = run_accounts role (after p Take) calls fits each.1 (accounts_take role p.bytes p.items p.state a)

pub no_bytes : IsBytes []
no_bytes i = omega arith

-- any feeds and takes keep the account
pub runs_account : (role : Role) (calls : List Call) → AllByRecursion FeedsBytes calls → let p = run (beginning role) calls in Accounts role p.bytes p.items p.state
runs_account role calls each = run_accounts role (beginning role) calls no_bytes each (accounts_start role)

refuses_by : (role : Role) (bytes : List ℕ) (items : List Item) (state : State) (error : ReaderError) → Accounts role bytes items state → IsMalformed role bytes error → state ≡ Refuses error
refuses_by role bytes items (Waits e since) error a m = absurd (never_both (first_expected role) bytes items since error a.1 m)
refuses_by role bytes items (Holds item) error a m = absurd (never_both (first_expected role) bytes (items ++ item ∷ []) [] error a m)
refuses_by role bytes items (Refuses other) error a m = ap Refuses (refusal_is_one (first_expected role) bytes other error a.0 m)

-- a refusal stands where the bytes are malformed
pub refuses_where : (role : Role) (calls : List Call) → AllByRecursion FeedsBytes calls → (error : ReaderError) → let p = run (beginning role) calls in IsMalformed role p.bytes error → p.state ≡ Refuses error
refuses_where role calls each error m = let p = run (beginning role) calls in refuses_by role p.bytes p.items p.state error (runs_account role calls each) m

-- ---- how much is held

abbrev IsLittle : State → Type 0
IsLittle (Waits e since) = (reading e since).0 ≡ Unfinished
IsLittle (Holds item) = length (item_spelling item) ≤ 65544
IsLittle (Refuses error) = Unit {0}

state_little : (e : Expected) (bytes : List ℕ) (front : Front) → (reading e bytes).0 ≡ front → IsLittle (state_of e bytes front)
state_little e bytes Unfinished is = is
state_little e bytes (Whole item) is = subst IsHeld is (is_held e bytes)
state_little e bytes (Refused error) is = tt

pub nothing_waits : (e : Expected) → (reading e []).0 ≡ Unfinished
nothing_waits e = ap (λ (p : Front × ℕ). p.0) (reads_unfinished e [] (nothing_unfinished e))

little_feed : (state : State) (piece : List ℕ) → IsLittle state → IsLittle (fed state piece).1
little_feed (Waits e since) piece h = state_little e (since ++ piece) (reading e (since ++ piece)).0 refl
little_feed (Holds item) piece h = h
little_feed (Refuses error) piece h = h

little_take : (state : State) → IsLittle state → IsLittle (taken state).1
little_take (Waits e since) h = h
little_take (Holds item) h = nothing_waits expected.Frame
little_take (Refuses error) h = h

little_run : (p : Past) (calls : List Call) → IsLittle p.state → IsLittle (run p calls).state
little_run p [] h = h
little_run p (Feed piece ∷ calls) h = little_run (after p (Feed piece)) calls (little_feed p.state piece h)
little_run p (Take ∷ calls) h = little_run (after p Take) calls (little_take p.state h)

little_is_held : (state : State) → IsLittle state → held state ≤ 65544
little_is_held (Waits e since) h = unfinished_is_held e since h
little_is_held (Holds item) h = h
little_is_held (Refuses error) h = omega arith

-- never more than two words and a payload
pub holds_little : (role : Role) (calls : List Call) → held (run (beginning role) calls).state ≤ 65544
holds_little role calls = little_is_held (run (beginning role) calls).state (little_run (beginning role) calls (nothing_waits (first_expected role)))
