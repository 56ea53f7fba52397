-- Names in tables: what is found under a key is the name, and how many there are of two texts.
use Rattle.std.proofs.Common.{◌≡◌, ℕ, suc, ◌+◌, ◌<◌, ◌≤◌, Bool, true, false, not, cond, ◌&&◌, ◌||◌, ◌==◌, nat_lt, List, [], ◌∷◌, ◌++◌, length, take, get_or, Some, None, refl, ap, sym, subst, ◌∙◌, arith}
use Rattle.std.specs.List.{position_or_len, position, list_any, count_by}
use Rattle.std.specs.Map.{lookup}
use Rattle.std.specs.Str.{bytes_eq}
use Rattle.std.proofs.lemmas.Bool.{ltb-true, lt-ltb, le-ltb}
use Rattle.std.proofs.lemmas.Bool.Decides.{nat_tests}
use Rattle.std.proofs.Math.Seq.{take-append_seam}
use Rattle.std.proofs.lemmas.List.{length-append, map-append}
use Rattle.std.proofs.lemmas.List.Sums.{sum_by-cons, sum_by_push}
use Rattle.std.proofs.lemmas.Option.{slice_get-get_or}
use Rattle.std.proofs.lemmas.Slice.Eq.{bytes_eq-Decides}
use Rattle.ch_model.specs.declared.name.SockName.{SockName}
use Rattle.ch_model.specs.Same.{same_socket}
use Rattle.ch_model.specs.Naming.{same_ends}
use Rattle.ch_sockets.specs.Names.{Key, spelled_or_none, text_at, name_at, names_at, IsTextAt, IsKey, AreKeys, or_zero, is_pair, has_pair, AreCounts}
use Rattle.ch_sockets.proofs.Places.{found_there, found_passes}
use Rattle.ch_sockets.proofs.Named.{number_is, bytes_is}

-- ---- places

pub turned : (a b : ℕ) → (a == b) ≡ (b == a)
turned a b = both (a == b) (b == a) refl refl
  where
    both : (x y : Bool) → (a == b) ≡ x → (b == a) ≡ y → x ≡ y
    both true true p q = refl
    both true false p q = grind (arith, nat_tests)
    both false true p q = grind (arith, nat_tests)
    both false false p q = refl

pub number_same : (a : ℕ) → (a == a) ≡ true
number_same a = grind (arith, nat_tests)

-- a place is within the list
place_within : {X : Type 0} (p : X → Bool) (xs : List X) (i : ℕ) → position p xs ≡ Some i → (position_or_len p xs ≡ i) × (i < length xs)
place_within p xs i e = by_test (nat_lt (position_or_len p xs) (length xs)) refl e
  where
    by_test : (b : Bool) → nat_lt (position_or_len p xs) (length xs) ≡ b → cond b (Some (position_or_len p xs)) None ≡ Some i → (position_or_len p xs ≡ i) × (i < length xs)
    by_test true lt e = let same : position_or_len p xs ≡ i = cc in (same, subst (λ (n : ℕ). n < length xs) same (ltb-true _ _ lt))
    by_test false lt e = absurd cc

place_at : {X : Type 0} (p : X → Bool) (xs : List X) → position_or_len p xs < length xs → position p xs ≡ Some (position_or_len p xs)
place_at p xs lt = ap (λ b. cond b (Some (position_or_len p xs)) None) (lt-ltb _ _ lt)

no_place : {X : Type 0} (p : X → Bool) (xs : List X) → length xs ≤ position_or_len p xs → position p xs ≡ None
no_place p xs le = ap (λ b. cond b (Some (position_or_len p xs)) None) (le-ltb _ _ le)

-- what stands at the place passes
passes_at : {X : Type 0} (p : X → Bool) (d : X) (xs : List X) (i : ℕ) → position p xs ≡ Some i → p (get_or xs i d) ≡ true
passes_at p d xs i e = found_passes p (get_or xs i d) xs (found_there p d xs i e)

len_append : {X : Type 0} (p : X → Bool) (xs ys : List X) → position_or_len p xs < length xs → position_or_len p (xs ++ ys) ≡ position_or_len p xs
len_append p [] ys lt = absurd (omega arith)
len_append p (x ∷ xs) ys lt = by_test (p x) (len_append p xs ys) lt
  where
    by_test : (b : Bool) → (position_or_len p xs < length xs → position_or_len p (xs ++ ys) ≡ position_or_len p xs) → cond (not b) (1 + position_or_len p xs) 0 < suc (length xs) → cond (not b) (1 + position_or_len p (xs ++ ys)) 0 ≡ cond (not b) (1 + position_or_len p xs) 0
    by_test true ih lt = refl
    by_test false ih lt = ap (λ n. 1 + n) (ih (omega arith))

-- a place stays, whatever is appended
place_stays : {X : Type 0} (p : X → Bool) (xs ys : List X) (i : ℕ) → position p xs ≡ Some i → position p (xs ++ ys) ≡ Some i
place_stays p xs ys i e =
    let at = place_within p xs i e in
    let same : position_or_len p (xs ++ ys) ≡ position_or_len p xs = len_append p xs ys (omega (arith, at.0, at.1)) in
    place_at p (xs ++ ys) (omega (arith, same, at.0, at.1, length-append xs ys)) ∙ ap Some (same ∙ at.0)

len_absent : {X : Type 0} (p : X → Bool) (xs : List X) → list_any p xs ≡ false → position_or_len p xs ≡ length xs
len_absent p [] e = refl
len_absent p (x ∷ xs) e = by_test (p x) (len_absent p xs) e
  where
    by_test : (b : Bool) → (list_any p xs ≡ false → position_or_len p xs ≡ length xs) → (b || list_any p xs) ≡ false → cond (not b) (1 + position_or_len p xs) 0 ≡ suc (length xs)
    by_test true ih e = absurd cc
    by_test false ih e = let h : position_or_len p xs ≡ length xs = ih e in omega (arith, h)

len_present : {X : Type 0} (p : X → Bool) (xs : List X) → list_any p xs ≡ true → position_or_len p xs < length xs
len_present p [] e = absurd cc
len_present p (x ∷ xs) e = by_test (p x) (len_present p xs) e
  where
    by_test : (b : Bool) → (list_any p xs ≡ true → position_or_len p xs < length xs) → (b || list_any p xs) ≡ true → cond (not b) (1 + position_or_len p xs) 0 < suc (length xs)
    by_test true ih e = omega arith
    by_test false ih e = let h : position_or_len p xs < length xs = ih e in omega (arith, h)

len_last : {X : Type 0} (p : X → Bool) (x : X) (xs : List X) → p x ≡ true → list_any p xs ≡ false → position_or_len p (xs ++ x ∷ []) ≡ length xs
len_last p x [] own e = ap (λ b. cond (not b) 1 0) own
len_last p x (y ∷ ys) own e = by_test (p y) (len_last p x ys own) e
  where
    by_test : (b : Bool) → (list_any p ys ≡ false → position_or_len p (ys ++ x ∷ []) ≡ length ys) → (b || list_any p ys) ≡ false → cond (not b) (1 + position_or_len p (ys ++ x ∷ [])) 0 ≡ suc (length ys)
    by_test true ih e = absurd cc
    by_test false ih e = let h : position_or_len p (ys ++ x ∷ []) ≡ length ys = ih e in omega (arith, h)

-- what is put in where it isn't there stands at its place
put_at : {X : Type 0} (p : X → Bool) (x : X) (xs now : List X) (place : ℕ) → p x ≡ true → now ≡ cond (list_any p xs) xs (xs ++ x ∷ []) → place ≡ position_or_len p xs → position p now ≡ Some place
put_at {X} p x xs now place own put is = ap (position p) put ∙ by_test (list_any p xs) refl ∙ ap Some (sym is)
  where
    by_test : (b : Bool) → list_any p xs ≡ b → position p (cond b xs (xs ++ x ∷ [])) ≡ Some (position_or_len p xs)
    by_test true e = place_at p xs (len_present p xs e)
    by_test false e =
        let last : position_or_len p (xs ++ x ∷ []) ≡ length xs = len_last p x xs own e in
        place_at p (xs ++ x ∷ []) (omega (arith, last, length-append xs (x ∷ []))) ∙ ap Some (last ∙ sym (len_absent p xs e))

-- where none is found, none passes
not_there : {X : Type 0} (p : X → Bool) (xs : List X) → position p xs ≡ None → list_any p xs ≡ false
not_there p xs e = by_test (list_any p xs) refl
  where
    by_test : (b : Bool) → list_any p xs ≡ b → b ≡ false
    by_test false h = refl
    by_test true h = absurd (let no : None ≡ Some (position_or_len p xs) = sym e ∙ place_at p xs (len_present p xs h) in cc)

-- ---- texts

-- the test for a key
abbrev pub has_key : ℕ → ℕ → ℕ → Key → Bool
has_key from to number key = ((from == key.0) && (to == key.1)) && (number == key.2)

-- the text at its place
text_there : {K : Type 0} (spelled : K → List ℕ) (texts : List K) (text : List ℕ) (place : ℕ) → IsTextAt spelled texts text place → text_at spelled texts place ≡ text
text_there spelled [] text place e = absurd cc
text_there spelled (k ∷ ks) text place e =
    let at = place_within (λ t. bytes_eq text (spelled t)) (k ∷ ks) place e in
    let is : text ≡ spelled (get_or (k ∷ ks) place k) = bytes_is _ _ (passes_at (λ t. bytes_eq text (spelled t)) k (k ∷ ks) place e) in
    ap (spelled_or_none spelled (k ∷ ks)) (slice_get-get_or (k ∷ ks) place k at.1) ∙ sym is

module _ {K : Type 0} (spelled : K → List ℕ) (texts : List K) where
  -- one text has one place
  same_text : (text other : List ℕ) (h k : ℕ) → IsTextAt spelled texts text h → IsTextAt spelled texts other k → (h == k) ≡ bytes_eq other text
  same_text text other h k e f = by_tests (h == k) (bytes_eq other text) refl refl
    where
      by_tests : (a b : Bool) → (h == k) ≡ a → bytes_eq other text ≡ b → a ≡ b
      by_tests true true p q = refl
      by_tests false false p q = refl
      by_tests false true p q =
          let same : other ≡ text = bytes_is other text q in
          let places : Some k ≡ Some h = sym f ∙ ap (λ (x : List ℕ). position (λ t. bytes_eq x (spelled t)) texts) same ∙ e in
          let is : h ≡ k = cc in
          absurd (let no : true ≡ false = sym (number_same k) ∙ ap (λ n. n == k) (sym is) ∙ p in cc)
      by_tests true false p q =
          let is : h ≡ k = number_is h k p in
          let same : other ≡ text = sym (text_there spelled texts other k f) ∙ ap (text_at spelled texts) (sym is) ∙ text_there spelled texts text h e in
          absurd (let no : true ≡ false = sym ((bytes_eq-Decides other text).1 same) ∙ q in cc)

  -- a text that has no place is none of a key's
  other_text : (text own : List ℕ) (k : ℕ) → position (λ t. bytes_eq text (spelled t)) texts ≡ None → IsTextAt spelled texts own k → bytes_eq own text ≡ false
  other_text text own k none is = by_test (bytes_eq own text) refl
    where
      by_test : (b : Bool) → bytes_eq own text ≡ b → b ≡ false
      by_test false e = refl
      by_test true e =
          let there : position (λ t. bytes_eq text (spelled t)) texts ≡ Some k = ap (λ (x : List ℕ). position (λ t. bytes_eq x (spelled t)) texts) (sym (bytes_is own text e)) ∙ is in
          absurd (let no : None ≡ Some k = sym none ∙ there in cc)

  and_false : (b : Bool) → (b && false) ≡ false
  and_false true = refl
  and_false false = refl

  -- ---- a list of names by a test

  map_len : (keys : List Key) → length keys ≡ length (names_at spelled texts keys)
  map_len [] = refl
  map_len (k ∷ ks) = ap suc (map_len ks)

  -- tests that agree find the same place
  places_agree : (p : Key → Bool) (q : SockName → Bool) → ((key : Key) → IsKey spelled texts key → p key ≡ q (name_at spelled texts key)) → (keys : List Key) → AreKeys spelled texts keys → position p keys ≡ position q (names_at spelled texts keys)
  places_agree p q same keys a = (λ i. cond (nat_lt (at keys a i) (map_len keys i)) (Some (at keys a i)) None)
    where
      at : (keys : List Key) → AreKeys spelled texts keys → position_or_len p keys ≡ position_or_len q (names_at spelled texts keys)
      at [] a = refl
      at (k ∷ ks) a = (λ i. cond (not (same k a.0 i)) (1 + at ks a.1 i) 0)

  -- tests that agree count the same
  counts_agree : (p : Key → Bool) (q : SockName → Bool) → ((key : Key) → IsKey spelled texts key → p key ≡ q (name_at spelled texts key)) → (keys : List Key) → AreKeys spelled texts keys → count_by p keys ≡ count_by q (names_at spelled texts keys)
  counts_agree p q same [] a = refl
  counts_agree p q same (k ∷ ks) a =
      sum_by-cons (λ key. cond (p key) 1 0) k ks
      ∙ (λ i. cond (same k a.0 i) 1 0 + counts_agree p q same ks a.1 i)
      ∙ sym (sum_by-cons (λ name. cond (q name) 1 0) (name_at spelled texts k) (names_at spelled texts ks))

  -- a test that none passes finds none, and counts none
  none_passes : (q : SockName → Bool) → ((key : Key) → IsKey spelled texts key → q (name_at spelled texts key) ≡ false) → (keys : List Key) → AreKeys spelled texts keys → (position q (names_at spelled texts keys) ≡ None) × (count_by q (names_at spelled texts keys) ≡ 0)
  none_passes q fails keys a = (no_place q (names_at spelled texts keys) (omega (arith, len keys a)), sums keys a)
    where
      len : (keys : List Key) → AreKeys spelled texts keys → position_or_len q (names_at spelled texts keys) ≡ length (names_at spelled texts keys)
      len [] a = refl
      len (k ∷ ks) a =
          let rest = len ks a.1 in
          let one : 1 + position_or_len q (names_at spelled texts ks) ≡ suc (length (names_at spelled texts ks)) = omega (arith, rest) in
          ap (λ b. cond (not b) (1 + position_or_len q (names_at spelled texts ks)) 0) (fails k a.0) ∙ one

      sums : (keys : List Key) → AreKeys spelled texts keys → count_by q (names_at spelled texts keys) ≡ 0
      sums [] a = refl
      sums (k ∷ ks) a = sum_by-cons (λ name. cond (q name) 1 0) (name_at spelled texts k) (names_at spelled texts ks) ∙ (λ i. cond (fails k a.0 i) 1 0 + sums ks a.1 i)

  -- ---- what is looked up

  pub key_place : (name : SockName) (from to : ℕ) (keys : List Key) → IsTextAt spelled texts name.from from → IsTextAt spelled texts name.to to → AreKeys spelled texts keys → position (has_key from to name.number) keys ≡ position (λ known. same_socket known name) (names_at spelled texts keys)
  key_place name from to keys f t a =
      places_agree (has_key from to name.number) (λ known. same_socket known name) (λ key is. (λ i. same_text name.from (text_at spelled texts key.0) from key.0 f is.0 i && same_text name.to (text_at spelled texts key.1) to key.1 t is.1 i && turned name.number key.2 i)) keys a

  pub pair_count : (own other : List ℕ) (from to : ℕ) (keys : List Key) → IsTextAt spelled texts own from → IsTextAt spelled texts other to → AreKeys spelled texts keys → count_by (has_pair from to) keys ≡ count_by (same_ends own other) (names_at spelled texts keys)
  pair_count own other from to keys f t a =
      counts_agree (has_pair from to) (same_ends own other) (λ key is. (λ i. same_text own (text_at spelled texts key.0) from key.0 f is.0 i && same_text other (text_at spelled texts key.1) to key.1 t is.1 i)) keys a

  -- ---- what has no place

  pub no_from : (name : SockName) (keys : List Key) → position (λ t. bytes_eq name.from (spelled t)) texts ≡ None → AreKeys spelled texts keys → position (λ known. same_socket known name) (names_at spelled texts keys) ≡ None
  no_from name keys none a = (none_passes (λ known. same_socket known name) (λ key is. ap (λ b. b && bytes_eq (text_at spelled texts key.1) name.to && (key.2 == name.number)) (other_text name.from (text_at spelled texts key.0) key.0 none is.0)) keys a).0

  pub no_to : (name : SockName) (keys : List Key) → position (λ t. bytes_eq name.to (spelled t)) texts ≡ None → AreKeys spelled texts keys → position (λ known. same_socket known name) (names_at spelled texts keys) ≡ None
  no_to name keys none a = (none_passes (λ known. same_socket known name) (λ key is. ap (λ b. (bytes_eq (text_at spelled texts key.0) name.from && b) && (key.2 == name.number)) (other_text name.to (text_at spelled texts key.1) key.1 none is.1) ∙ ap (λ b. b && (key.2 == name.number)) (and_false (bytes_eq (text_at spelled texts key.0) name.from))) keys a).0

  pub none_from : (own other : List ℕ) (keys : List Key) → position (λ t. bytes_eq own (spelled t)) texts ≡ None → AreKeys spelled texts keys → count_by (same_ends own other) (names_at spelled texts keys) ≡ 0
  none_from own other keys none a = (none_passes (same_ends own other) (λ key is. ap (λ b. b && bytes_eq (text_at spelled texts key.1) other) (other_text own (text_at spelled texts key.0) key.0 none is.0)) keys a).1

  pub none_to : (own other : List ℕ) (keys : List Key) → position (λ t. bytes_eq other (spelled t)) texts ≡ None → AreKeys spelled texts keys → count_by (same_ends own other) (names_at spelled texts keys) ≡ 0
  none_to own other keys none a = (none_passes (same_ends own other) (λ key is. ap (λ b. bytes_eq (text_at spelled texts key.0) own && b) (other_text other (text_at spelled texts key.1) key.1 none is.1) ∙ and_false (bytes_eq (text_at spelled texts key.0) own)) keys a).1

-- ---- texts that are put in

module _ {K : Type 0} (spelled : K → List ℕ) where
  -- keys stand for the same names, whatever texts are appended
  text_stays : (texts more : List K) (place : ℕ) → IsTextAt spelled texts (text_at spelled texts place) place → text_at spelled (texts ++ more) place ≡ text_at spelled texts place
  text_stays texts more place is = text_there spelled (texts ++ more) (text_at spelled texts place) place (place_stays (λ t. bytes_eq (text_at spelled texts place) (spelled t)) texts more place is)

  place_kept : (texts more : List K) (place : ℕ) → IsTextAt spelled texts (text_at spelled texts place) place → IsTextAt spelled (texts ++ more) (text_at spelled (texts ++ more) place) place
  place_kept texts more place is =
      subst (λ (text : List ℕ). IsTextAt spelled (texts ++ more) text place) (sym (text_stays texts more place is)) (place_stays (λ t. bytes_eq (text_at spelled texts place) (spelled t)) texts more place is)

  keys_grown : (texts more : List K) (keys : List Key) → AreKeys spelled texts keys → (names_at spelled (texts ++ more) keys ≡ names_at spelled texts keys) × AreKeys spelled (texts ++ more) keys
  keys_grown texts more [] a = (refl, tt)
  keys_grown texts more (k ∷ ks) a =
      let rest = keys_grown texts more ks a.1 in (
        (λ i. record { from = text_stays texts more k.0 a.0.0 i; to = text_stays texts more k.1 a.0.1 i; number = k.2 } ∷ rest.0 i),
        ((place_kept texts more k.0 a.0.0, place_kept texts more k.1 a.0.1), rest.1),
      )

  -- What is known of the names once a text is put in.
  pub keys_put : (texts now : List K) (text : K) (keys : List Key) → now ≡ cond (list_any (λ t. bytes_eq (spelled text) (spelled t)) texts) texts (texts ++ text ∷ []) → AreKeys spelled texts keys → (names_at spelled now keys ≡ names_at spelled texts keys) × AreKeys spelled now keys
  keys_put texts now text keys put a = subst (λ (ks : List K). (names_at spelled ks keys ≡ names_at spelled texts keys) × AreKeys spelled ks keys) (sym put) (by_test (list_any (λ t. bytes_eq (spelled text) (spelled t)) texts))
    where
      by_test : (b : Bool) → (names_at spelled (cond b texts (texts ++ text ∷ [])) keys ≡ names_at spelled texts keys) × AreKeys spelled (cond b texts (texts ++ text ∷ [])) keys
      by_test true = (refl, a)
      by_test false = keys_grown texts (text ∷ []) keys a

  -- it stands at the place that was told
  pub text_put : (texts now : List K) (text : K) (place : ℕ) → now ≡ cond (list_any (λ t. bytes_eq (spelled text) (spelled t)) texts) texts (texts ++ text ∷ []) → place ≡ position_or_len (λ t. bytes_eq (spelled text) (spelled t)) texts → IsTextAt spelled now (spelled text) place
  text_put texts now text place put is = put_at (λ t. bytes_eq (spelled text) (spelled t)) text texts now place ((bytes_eq-Decides (spelled text) (spelled text)).1 refl) put is

  -- and stays there
  pub text_kept : (texts now : List K) (text : K) (own : List ℕ) (place : ℕ) → now ≡ cond (list_any (λ t. bytes_eq (spelled text) (spelled t)) texts) texts (texts ++ text ∷ []) → IsTextAt spelled texts own place → IsTextAt spelled now own place
  text_kept texts now text own place put is = subst (λ (ks : List K). IsTextAt spelled ks own place) (sym put) (by_test (list_any (λ t. bytes_eq (spelled text) (spelled t)) texts))
    where
      by_test : (b : Bool) → IsTextAt spelled (cond b texts (texts ++ text ∷ [])) own place
      by_test true = is
      by_test false = place_stays (λ t. bytes_eq own (spelled t)) texts (text ∷ []) place is

  -- ---- a name that is added

  keys_last : (texts : List K) (key : Key) (keys : List Key) → IsKey spelled texts key → AreKeys spelled texts keys → AreKeys spelled texts (keys ++ key ∷ [])
  keys_last texts key [] is a = (is, tt)
  keys_last texts key (k ∷ ks) is a = (a.0, keys_last texts key ks is a.1)

  -- the key of a name that is new comes last, and stands for the name
  pub key_added : (texts : List K) (from to : ℕ) (name : SockName) (keys after : List Key) → IsTextAt spelled texts name.from from → IsTextAt spelled texts name.to to → AreKeys spelled texts keys → position (λ known. same_socket known name) (names_at spelled texts keys) ≡ None → after ≡ cond (list_any (has_key from to name.number) keys) keys (keys ++ (from, to, name.number) ∷ []) → (after ≡ keys ++ (from, to, name.number) ∷ []) × (names_at spelled texts after ≡ names_at spelled texts keys ++ name ∷ []) × AreKeys spelled texts after
  key_added texts from to name keys after f t a none put =
      let key : Key = (from, to, name.number) in
      let absent : list_any (has_key from to name.number) keys ≡ false = not_there (has_key from to name.number) keys (key_place spelled texts name from to keys f t a ∙ none) in
      let last : after ≡ keys ++ key ∷ [] = put ∙ ap (λ b. cond b keys (keys ++ key ∷ [])) absent in
      let own : text_at spelled texts from ≡ name.from = text_there spelled texts name.from from f in
      let other : text_at spelled texts to ≡ name.to = text_there spelled texts name.to to t in
      let is : IsKey spelled texts key = (subst (λ (text : List ℕ). IsTextAt spelled texts text from) (sym own) f, subst (λ (text : List ℕ). IsTextAt spelled texts text to) (sym other) t) in (
        last,
        ap (names_at spelled texts) last ∙ map-append (name_at spelled texts) keys (key ∷ []) ∙ (λ i. names_at spelled texts keys ++ record { from = own i; to = other i; number = name.number } ∷ []),
        subst (AreKeys spelled texts) (sym last) (keys_last texts key keys is a),
      )

-- ---- counts

pub counts_added : (from to number count : ℕ) (counts now : List ((ℕ × ℕ) × ℕ)) (keys after : List Key) → number ≡ count_by (has_pair from to) keys → count ≡ number + 1 → ((q : ℕ × ℕ) → lookup (is_pair q.0 q.1) now ≡ cond (is_pair from to q) (Some count) (lookup (is_pair q.0 q.1) counts)) → after ≡ keys ++ (from, to, number) ∷ [] → AreCounts counts keys → AreCounts now after
counts_added from to number count counts now keys after is next told last a f t =
    ap or_zero (told (f, t))
    ∙ by_test (from == f) (to == t) refl refl
    ∙ sym (ap (count_by (has_pair f t)) last ∙ sum_by_push (λ k. cond (has_pair f t k) 1 0) keys (from, to, number))
  where
    by_test : (x y : Bool) → (from == f) ≡ x → (to == t) ≡ y → or_zero (cond (x && y) (Some count) (lookup (is_pair f t) counts)) ≡ count_by (has_pair f t) keys + cond ((f == from) && (t == to)) 1 0
    by_test true true p q =
        let own : count ≡ count_by (has_pair f t) keys + 1 = next ∙ ap (λ n. n + 1) is ∙ (λ i. count_by (has_pair (number_is from f p i) (number_is to t q i)) keys + 1) in
        own ∙ sym (λ i. count_by (has_pair f t) keys + cond ((turned f from ∙ p) i && (turned t to ∙ q) i) 1 0)
    by_test true false p q = a f t ∙ (let e : count_by (has_pair f t) keys ≡ count_by (has_pair f t) keys + 0 = omega arith in e) ∙ sym (λ i. count_by (has_pair f t) keys + cond ((turned f from ∙ p) i && (turned t to ∙ q) i) 1 0)
    by_test false y p q = a f t ∙ (let e : count_by (has_pair f t) keys ≡ count_by (has_pair f t) keys + 0 = omega arith in e) ∙ sym (λ i. count_by (has_pair f t) keys + cond ((turned f from ∙ p) i && (t == to)) 1 0)

-- ---- both texts and the key

-- What is known of the names once the texts of a new one are put in, and then its key.
pub record IsAdded {K : Type 0} (spelled : K → List ℕ) (texts : List K) (from to : ℕ) (name : SockName) (keys : List Key) (old : List SockName) : Type 0 where
  pub same : names_at spelled texts keys ≡ old
  pub kept : AreKeys spelled texts keys
  pub count : count_by (has_pair from to) keys ≡ count_by (same_ends name.from name.to) old
  pub grown : (after : List Key) → after ≡ cond (list_any (has_key from to name.number) keys) keys (keys ++ (from, to, name.number) ∷ []) → (after ≡ keys ++ (from, to, name.number) ∷ []) × (names_at spelled texts after ≡ old ++ name ∷ []) × AreKeys spelled texts after

-- where the first text is put in
pub one_put : {K : Type 0} (spelled : K → List ℕ) (texts now : List K) (text : K) (keys : List Key) (old : List SockName) → now ≡ cond (list_any (λ t. bytes_eq (spelled text) (spelled t)) texts) texts (texts ++ text ∷ []) → AreKeys spelled texts keys → names_at spelled texts keys ≡ old → (names_at spelled now keys ≡ old) × AreKeys spelled now keys
one_put spelled texts now text keys old put a same =
    let next = keys_put spelled texts now text keys put a in
    (next.0 ∙ same, next.1)

-- where both are
pub both_put : {K : Type 0} (spelled : K → List ℕ) (texts mid now : List K) (opener target : K) (from to : ℕ) (name : SockName) (keys : List Key) (old : List SockName) → spelled opener ≡ name.from → spelled target ≡ name.to → mid ≡ cond (list_any (λ t. bytes_eq (spelled opener) (spelled t)) texts) texts (texts ++ opener ∷ []) → from ≡ position_or_len (λ t. bytes_eq (spelled opener) (spelled t)) texts → now ≡ cond (list_any (λ t. bytes_eq (spelled target) (spelled t)) mid) mid (mid ++ target ∷ []) → to ≡ position_or_len (λ t. bytes_eq (spelled target) (spelled t)) mid → AreKeys spelled texts keys → names_at spelled texts keys ≡ old → position (λ known. same_socket known name) old ≡ None → IsAdded spelled now from to name keys old
both_put spelled texts mid now opener target from to name keys old own other put at put_too at_too a same fresh =
    let one = one_put spelled texts mid opener keys old put a same in
    let two = one_put spelled mid now target keys old put_too one.1 one.0 in
    let first : IsTextAt spelled mid name.from from = subst (λ (text : List ℕ). IsTextAt spelled mid text from) own (text_put spelled texts mid opener from put at) in
    let f : IsTextAt spelled now name.from from = text_kept spelled mid now target name.from from put_too first in
    let t : IsTextAt spelled now name.to to = subst (λ (text : List ℕ). IsTextAt spelled now text to) other (text_put spelled mid now target to put_too at_too) in
    let none : position (λ known. same_socket known name) (names_at spelled now keys) ≡ None = ap (position (λ known. same_socket known name)) two.0 ∙ fresh in
    record {
      same = two.0;
      kept = two.1;
      count = pair_count spelled now name.from name.to from to keys f t two.1 ∙ ap (count_by (same_ends name.from name.to)) two.0;
      grown = λ after is.
          let added = key_added spelled now from to name keys after f t two.1 none is in
          (added.0, added.1 ∙ ap (λ (ns : List SockName). ns ++ name ∷ []) two.0, added.2);
    }

-- a key that is taken back from the end
pub key_back : (keys now after : List Key) (key : Key) (place : ℕ) → place ≡ length keys → now ≡ keys ++ key ∷ [] → after ≡ take place now → after ≡ keys
key_back keys now after key place at grown cut = cut ∙ (λ i. take (at i) (grown i)) ∙ take-append_seam keys (key ∷ [])
