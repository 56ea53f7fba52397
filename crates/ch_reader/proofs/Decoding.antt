-- A piece that is fed and taken to its end keeps the account.
use Rattle.std.proofs.Common.{get_or, ◌≡◌, ℕ, ◌+◌, ◌-◌, ◌<◌, ◌≤◌, Option, Some, None, List, [], ◌∷◌, ◌++◌, length, take, drop, refl, sym, ap, subst, ◌∙◌, append_assoc, arith}
use Rattle.std.proofs.Math.Seq.{take-add}
use Rattle.std.proofs.lemmas.List.{length-append, get_or-drop, take_more, take_all, take-append-drop, flat_map_more}
use Rattle.std.proofs.lemmas.Grind.{flat_map-append}
use Rattle.std.specs.List.{flat_map}
use Rattle.ch_reader.specs.declared.item.Expected.{Expected}
use Rattle.ch_reader.specs.declared.item.Expected.TheVariants as expected
use Rattle.ch_reader.specs.declared.item.Item.{Item}
use Rattle.ch_reader.specs.declared.item.ReaderError.{ReaderError}
use Rattle.ch_reader.specs.declared.item.Role.{Role}
use Rattle.ch_reader.specs.declared.item.Front.{Front}
use Rattle.ch_reader.specs.declared.item.Front.TheVariants.{Unfinished, Whole, Refused}
use Rattle.ch_reader.specs.Items.{first_expected}
use Rattle.ch_reader.specs.Reading.{reading}
use Rattle.ch_reader.specs.States.{State, Waits, Holds, Refuses, start, state_of, fed, taken}
use Rattle.ch_reader.specs.Runs.{IsBytes, Accounts, with_taken}
use Rattle.ch_reader.specs.Decoding.{Decodes, IsReady, IsReadyUnless, AccountsAll, refusal_of}
use Rattle.ch_reader.proofs.Readings.{unfinished_is_all}
use Rattle.ch_reader.proofs.Runs.{bytes_append, bytes_take, no_bytes, nothing_waits, whole_is_past, refused_is_past, accounts_feed, accounts_take, accounts_start}

some_by : (e : Expected) (since piece : List ℕ) (front : Front) → IsBytes (since ++ piece) → (reading e since).0 ≡ Unfinished → 0 < length piece → (reading e (since ++ piece)).0 ≡ front → 0 < (reading e (since ++ piece)).1 - length since
some_by e since piece Unfinished fits waits some is = omega (arith, unfinished_is_all e (since ++ piece) is, length-append since piece)
some_by e since piece (Whole item) fits waits some is = omega (arith, whole_is_past e since piece item fits waits is)
some_by e since piece (Refused error) fits waits some is = omega (arith, refused_is_past e since piece error fits waits is)

-- a reader that is ready takes bytes
pub feeds_some : (state : State) (piece : List ℕ) → IsReady state → IsBytes piece → 0 < length piece → 0 < (fed state piece).0
feeds_some (Waits e since) piece ready more some = some_by e since piece (reading e (since ++ piece)).0 (bytes_append since piece ready.1 more) ready.0 some refl
feeds_some (Holds item) piece ready more some = absurd ready
feeds_some (Refuses error) piece ready more some = absurd ready

ready_by : (e : Expected) (bytes : List ℕ) (front : Front) → IsBytes bytes → (reading e bytes).0 ≡ front → let t = taken (state_of e bytes front) in IsReadyUnless (refusal_of t.0) t.1
ready_by e bytes Unfinished fits is = (is, fits)
ready_by e bytes (Whole item) fits is = (nothing_waits expected.Frame, no_bytes)
ready_by e bytes (Refused error) fits is = tt

-- after a feed and a take a reader is ready again, where nothing was refused
pub ready_after : (state : State) (piece : List ℕ) → IsReady state → IsBytes piece → let t = taken (fed state piece).1 in IsReadyUnless (refusal_of t.0) t.1
ready_after (Waits e since) piece ready more = ready_by e (since ++ piece) (reading e (since ++ piece)).0 (bytes_append since piece ready.1 more) refl
ready_after (Holds item) piece ready more = absurd ready
ready_after (Refuses error) piece ready more = absurd ready

-- the account of a piece up to here, from any account before it
abbrev pub AccountsTo : List Item → State → List ℕ → ℕ → List Item → State → Type 0
AccountsTo items state piece done now after =
    (role : Role) (bytes : List ℕ) → IsBytes bytes → Accounts role bytes items state → Accounts role (bytes ++ take done piece) now after

abbrev fed_as : ℕ → State → ℕ × State
fed_as n state = (n, state)

carry : (role : Role) (xs ys : List ℕ) (is js : List Item) (s t : State) → xs ≡ ys → is ≡ js → s ≡ t → Accounts role xs is s → Accounts role ys js t
carry role xs ys is js s t p q r a =
    subst (Accounts role ys js) r (subst (λ (k : List Item). Accounts role ys k s) q (subst (λ (k : List ℕ). Accounts role k is s) p a))

-- what one feed and one take made of a reader and its items
pub record Steps (before fed_state after : State) (items now : List Item) (rest : List ℕ) (count : ℕ) : Type 0 where
  pub fed_is : fed_as count fed_state ≡ fed before rest
  pub after_is : after ≡ (taken fed_state).1
  pub items_are : now ≡ with_taken items (taken fed_state).0

-- one more feed and take
pub accounts_on : (items is js : List Item) (start before middle after : State) (piece rest : List ℕ) (done n : ℕ) → IsBytes rest → IsBytes piece → rest ≡ drop done piece → Steps before middle after is js rest n
    → AccountsTo items start piece done is before → AccountsTo items start piece (done + n) js after
accounts_on items is js start before middle after piece rest done n more whole tail s acc role bytes fits a =
    let front : List ℕ = bytes ++ take done piece in
    let f : State = (fed before rest).1 in
    let middle_is : middle ≡ f = ap (λ (p : ℕ × State). p.1) s.fed_is in
    let count : n ≡ (fed before rest).0 = ap (λ (p : ℕ × State). p.0) s.fed_is in
    let took = accounts_take role (front ++ take (fed before rest).0 rest) is f (accounts_feed role front is before rest (bytes_append bytes (take done piece) fits (bytes_take done piece whole)) more (acc role bytes fits a)) in
    carry role (front ++ take (fed before rest).0 rest) (bytes ++ take (done + n) piece) (with_taken is (taken f).0) js (taken f).1 after
    (append_assoc bytes (take done piece) (take (fed before rest).0 rest)
    ∙ ap (λ (xs : List ℕ). bytes ++ xs) (ap (λ (k : ℕ). take done piece ++ take k rest) (sym count) ∙ ap (λ (xs : List ℕ). take done piece ++ take n xs) tail ∙ sym (take-add done n piece)))
    (ap (λ (m : State). with_taken is (taken m).0) (sym middle_is) ∙ sym s.items_are)
    (ap (λ (m : State). (taken m).1) (sym middle_is) ∙ sym s.after_is)
    took

-- the reader is ready again after one that wasn't refused
pub ready_on : (is js : List Item) (before middle after : State) (rest : List ℕ) (n : ℕ) (refusal : Option ReaderError) → IsBytes rest → Steps before middle after is js rest n → IsReady before → refusal ≡ refusal_of (taken middle).0 → IsReadyUnless refusal after
ready_on is js before middle after rest n refusal more s ready r =
    let middle_is : middle ≡ (fed before rest).1 = ap (λ (p : ℕ × State). p.1) s.fed_is in
    subst (IsReadyUnless refusal) (ap (λ (m : State). (taken m).1) (sym middle_is) ∙ sym s.after_is)
    (subst (λ (x : Option ReaderError). IsReadyUnless x (taken (fed before rest).1).1) (ap (λ (m : State). refusal_of (taken m).0) (sym middle_is) ∙ sym r) (ready_after before rest ready more))

-- what one feed takes
pub takes_some : (is js : List Item) (before middle after : State) (rest : List ℕ) (n : ℕ) → IsBytes rest → Steps before middle after is js rest n → IsReady before → 0 < length rest → 0 < n
takes_some is js before middle after rest n more s ready some =
    let count : n ≡ (fed before rest).0 = ap (λ (p : ℕ × State). p.0) s.fed_is in
    omega (arith, feeds_some before rest ready more some)

none_is : (x : ReaderError) → None ≡ Some x → ⊥
none_is x e = cc

some_is : (x y : ReaderError) → Some x ≡ Some y → x ≡ y
some_is x y e = cc

-- a refusal stands for good
pub refused_state : (state : State) (error : ReaderError) → refusal_of (taken state).0 ≡ Some error → (taken state).1 ≡ Refuses error
refused_state (Waits e since) error h = absurd (none_is error h)
refused_state (Holds item) error h = absurd (none_is error h)
refused_state (Refuses other) error h = ap Refuses (some_is other error h)

-- the account where a refusal ends the piece
pub accounts_refused : (items is js : List Item) (start before middle after : State) (piece rest : List ℕ) (done n : ℕ) (error : ReaderError) → IsBytes rest → IsBytes piece → rest ≡ drop done piece → Steps before middle after is js rest n
    → AccountsTo items start piece done is before → refusal_of (taken middle).0 ≡ Some error
    → (role : Role) (bytes : List ℕ) → IsBytes bytes → Accounts role bytes items start → (count : ℕ) × Accounts role (bytes ++ take count piece) js (Refuses error)
accounts_refused items is js start before middle after piece rest done n error more whole tail s acc r role bytes fits a =
    (done + n, subst (Accounts role (bytes ++ take (done + n) piece) js) (s.after_is ∙ refused_state middle error r) (accounts_on items is js start before middle after piece rest done n more whole tail s acc role bytes fits a))

-- the rest of bytes is bytes
pub rest_bytes : (piece rest : List ℕ) (done : ℕ) → rest ≡ drop done piece → IsBytes piece → IsBytes rest
rest_bytes piece rest done e h = subst IsBytes (sym e) (λ i. rw get_or-drop (h (done + i)))

-- ---- the pieces one after the other

-- the bytes of pieces
abbrev pub joined : List (List ℕ) → List ℕ
joined pieces = flat_map (λ piece. piece) pieces

-- one more piece
pub joined_more : (pieces : List (List ℕ)) (i : ℕ) (piece found : List ℕ) → i < length pieces → piece ≡ found → found ≡ get_or pieces i found → joined (take (i + 1) pieces) ≡ joined (take i pieces) ++ piece
joined_more pieces i piece found lt p q =
    ap joined (take_more pieces i found lt ∙ ap (λ (x : List ℕ). take i pieces ++ x ∷ []) (sym (p ∙ q))) ∙ sym (flat_map_more (λ x. x) [] (take i pieces) piece)

pub account_more : (role : Role) (pieces : List (List ℕ)) (i : ℕ) (piece found : List ℕ) (items now : List Item) (before after : State) (refusal : Option ReaderError) → i < length pieces → piece ≡ found → found ≡ get_or pieces i found → refusal ≡ None
    → IsBytes (joined (take i pieces)) → Accounts role (joined (take i pieces)) items before
    → ((role : Role) (bytes : List ℕ) → IsBytes bytes → Accounts role bytes items before → AccountsAll role bytes piece now after refusal)
    → Accounts role (joined (take (i + 1) pieces)) now after
account_more role pieces i piece found items now before after refusal lt p q r fits a more =
    subst (λ (xs : List ℕ). Accounts role xs now after) (sym (joined_more pieces i piece found lt p q))
    (subst (λ (x : Option ReaderError). AccountsAll role (joined (take i pieces)) piece now after x) r (more role (joined (take i pieces)) fits a))

pub fits_more : (pieces : List (List ℕ)) (i : ℕ) (piece found : List ℕ) → i < length pieces → piece ≡ found → found ≡ get_or pieces i found → IsBytes (joined (take i pieces)) → IsBytes piece → IsBytes (joined (take (i + 1) pieces))
fits_more pieces i piece found lt p q fits more = subst IsBytes (sym (joined_more pieces i piece found lt p q)) (bytes_append (joined (take i pieces)) piece fits more)

-- where a piece is refused
pub decodes_refused : (role : Role) (pieces : List (List ℕ)) (i : ℕ) (piece found : List ℕ) (items now : List Item) (before after : State) (refusal : Option ReaderError) (error : ReaderError) → i < length pieces → piece ≡ found → found ≡ get_or pieces i found → refusal ≡ Some error
    → IsBytes (joined (take i pieces)) → Accounts role (joined (take i pieces)) items before
    → ((role : Role) (bytes : List ℕ) → IsBytes bytes → Accounts role bytes items before → AccountsAll role bytes piece now after refusal)
    → Decodes role (joined pieces) now (Some error)
decodes_refused role pieces i piece found items now before after refusal error lt p q r fits a more =
    let front : List ℕ = joined (take i pieces) in
    let rest : List ℕ = joined (drop (i + 1) pieces) in
    let last : AccountsAll role front piece now after (Some error) = subst (λ (x : Option ReaderError). AccountsAll role front piece now after x) r (more role front fits a) in
    let count : ℕ = last.0 in
    let split : joined pieces ≡ (front ++ take count piece) ++ (drop count piece ++ rest) =
    ap joined (sym (take-append-drop (i + 1) pieces)) ∙ flat_map-append (λ x. x) (take (i + 1) pieces) (drop (i + 1) pieces)
    ∙ ap (λ (xs : List ℕ). xs ++ rest) (joined_more pieces i piece found lt p q ∙ ap (λ (xs : List ℕ). front ++ xs) (sym (take-append-drop count piece)) ∙ sym (append_assoc front (take count piece) (drop count piece)))
    ∙ append_assoc (front ++ take count piece) (drop count piece) rest in
    (front ++ take count piece, drop count piece ++ rest, split, last.1.0, last.1.1)

ready_decodes : (role : Role) (bytes : List ℕ) (items : List Item) (state : State) → IsReady state → Accounts role bytes items state → Decodes role bytes items None
ready_decodes role bytes items (Waits e since) ready a = (since, a.1)
ready_decodes role bytes items (Holds item) ready a = absurd ready
ready_decodes role bytes items (Refuses error) ready a = absurd ready

-- where all pieces were taken
pub decodes_all : (role : Role) (pieces : List (List ℕ)) (i : ℕ) (items : List Item) (state : State) → length pieces ≤ i → IsReady state → Accounts role (joined (take i pieces)) items state → Decodes role (joined pieces) items None
decodes_all role pieces i items state le ready a = ready_decodes role (joined pieces) items state ready (subst (λ (xs : List (List ℕ)). Accounts role (joined xs) items state) (take_all i pieces le) a)

-- a new reader is ready, and nothing is accounted for
pub ready_start : (role : Role) (state : State) → state ≡ start role → IsReady state
ready_start role state e = subst IsReady (sym e) (nothing_waits (first_expected role), no_bytes)

pub account_start : (role : Role) (items : List Item) (state : State) → items ≡ [] → state ≡ start role → Accounts role [] items state
account_start role items state i e = carry role [] [] [] items (start role) state refl (sym i) (sym e) (accounts_start role)
