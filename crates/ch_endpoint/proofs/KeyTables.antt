-- The links of a host by their keys: what is found under a key is the link of that endpoint and peer.
use Rattle.std.proofs.Common.{◌≡◌, ℕ, zero, suc, ◌+◌, ◌<◌, ◌≤◌, Bool, true, false, not, cond, ◌&&◌, ◌||◌, ◌==◌, nat_lt, List, [], ◌∷◌, ◌++◌, length, take, get_or, Option, Some, None, IfSome, refl, ap, sym, subst, ◌∙◌, arith}
use Rattle.std.specs.List.{position_or_len, position, list_any}
use Rattle.std.specs.Prelude.{set, slice_set}
use Rattle.std.specs.Str.{bytes_eq}
use Rattle.std.proofs.lemmas.Bool.{ltb-true, lt-ltb, le-ltb}
use Rattle.std.proofs.Math.Seq.{take-append_seam}
use Rattle.std.proofs.lemmas.List.{length-append}
use Rattle.std.proofs.lemmas.Slice.Eq.{bytes_eq-Decides}
use Rattle.ch_base.specs.declared.address.Address.{Address}
use Rattle.ch_watch.specs.Same.{same_node}
use Rattle.ch_model.specs.HostState.{Link}
use Rattle.ch_model.specs.HostSteps.{is_link}
use Rattle.ch_endpoint.specs.LinkKeys.{IsHostAt, IsKey, AreKeys}
use Rattle.ch_endpoint.proofs.Tables.{number_is, number_same, found_there, found_passes}
use Rattle.ch_endpoint.proofs.SocketTables.{turned}

-- ---- places

abbrev pub Key : Type 0
Key = ℕ × ℕ × ℕ × ℕ

-- a place is within the list
pub place_within : {X : Type 0} (p : X → Bool) (xs : List X) (i : ℕ) → position p xs ≡ Some i → (position_or_len p xs ≡ i) × (i < length xs)
place_within p xs i e = by_test (nat_lt (position_or_len p xs) (length xs)) refl e
  where
    by_test : (b : Bool) → nat_lt (position_or_len p xs) (length xs) ≡ b → cond b (Some (position_or_len p xs)) None ≡ Some i → (position_or_len p xs ≡ i) × (i < length xs)
    by_test true lt e = let same : position_or_len p xs ≡ i = cc in (same, subst (λ (n : ℕ). n < length xs) same (ltb-true _ _ lt))
    by_test false lt e = absurd cc

place_at : {X : Type 0} (p : X → Bool) (xs : List X) → position_or_len p xs < length xs → position p xs ≡ Some (position_or_len p xs)
place_at p xs lt = ap (λ b. cond b (Some (position_or_len p xs)) None) (lt-ltb _ _ lt)

no_place : {X : Type 0} (p : X → Bool) (xs : List X) → length xs ≤ position_or_len p xs → position p xs ≡ None
no_place p xs le = ap (λ b. cond b (Some (position_or_len p xs)) None) (le-ltb _ _ le)

-- what stands at the place passes
passes_at : {X : Type 0} (p : X → Bool) (d : X) (xs : List X) (i : ℕ) → position p xs ≡ Some i → p (get_or xs i d) ≡ true
passes_at p d xs i e = found_passes p (get_or xs i d) xs (found_there p d xs i e)

-- two tests that both find this place pass together
both_pass : {X : Type 0} (p q : X → Bool) (xs : List X) (i : ℕ) → position p xs ≡ Some i → position q xs ≡ Some i → (x : X) × (p x ≡ true) × (q x ≡ true)
both_pass p q [] i e f = absurd cc
both_pass p q (x ∷ xs) i e f = (get_or (x ∷ xs) i x, passes_at p x (x ∷ xs) i e, passes_at q x (x ∷ xs) i f)

len_append : {X : Type 0} (p : X → Bool) (xs ys : List X) → position_or_len p xs < length xs → position_or_len p (xs ++ ys) ≡ position_or_len p xs
len_append p [] ys lt = absurd (omega arith)
len_append p (x ∷ xs) ys lt = by_test (p x) (len_append p xs ys) lt
  where
    by_test : (b : Bool) → (position_or_len p xs < length xs → position_or_len p (xs ++ ys) ≡ position_or_len p xs) → cond (not b) (1 + position_or_len p xs) 0 < suc (length xs) → cond (not b) (1 + position_or_len p (xs ++ ys)) 0 ≡ cond (not b) (1 + position_or_len p xs) 0
    by_test true ih lt = refl
    by_test false ih lt = ap (λ n. 1 + n) (ih (omega arith))

-- a place stays, whatever is appended
pub place_stays : {X : Type 0} (p : X → Bool) (xs ys : List X) (i : ℕ) → position p xs ≡ Some i → position p (xs ++ ys) ≡ Some i
place_stays p xs ys i e =
    let at = place_within p xs i e in
    let same : position_or_len p (xs ++ ys) ≡ position_or_len p xs = len_append p xs ys (omega (arith, at.0, at.1)) in
    place_at p (xs ++ ys) (omega (arith, same, at.0, at.1, length-append xs ys)) ∙ ap Some (same ∙ at.0)

len_absent : {X : Type 0} (p : X → Bool) (xs : List X) → list_any p xs ≡ false → position_or_len p xs ≡ length xs
len_absent p [] e = refl
len_absent p (x ∷ xs) e = by_test (p x) (len_absent p xs) e
  where
    by_test : (b : Bool) → (list_any p xs ≡ false → position_or_len p xs ≡ length xs) → (b || list_any p xs) ≡ false → cond (not b) (1 + position_or_len p xs) 0 ≡ suc (length xs)
    by_test true ih e = absurd cc
    by_test false ih e = let h : position_or_len p xs ≡ length xs = ih e in omega (arith, h)

len_present : {X : Type 0} (p : X → Bool) (xs : List X) → list_any p xs ≡ true → position_or_len p xs < length xs
len_present p [] e = absurd cc
len_present p (x ∷ xs) e = by_test (p x) (len_present p xs) e
  where
    by_test : (b : Bool) → (list_any p xs ≡ true → position_or_len p xs < length xs) → (b || list_any p xs) ≡ true → cond (not b) (1 + position_or_len p xs) 0 < suc (length xs)
    by_test true ih e = omega arith
    by_test false ih e = let h : position_or_len p xs < length xs = ih e in omega (arith, h)

len_last : {X : Type 0} (p : X → Bool) (x : X) (xs : List X) → p x ≡ true → list_any p xs ≡ false → position_or_len p (xs ++ x ∷ []) ≡ length xs
len_last p x [] own e = ap (λ b. cond (not b) 1 0) own
len_last p x (y ∷ ys) own e = by_test (p y) (len_last p x ys own) e
  where
    by_test : (b : Bool) → (list_any p ys ≡ false → position_or_len p (ys ++ x ∷ []) ≡ length ys) → (b || list_any p ys) ≡ false → cond (not b) (1 + position_or_len p (ys ++ x ∷ [])) 0 ≡ suc (length ys)
    by_test true ih e = absurd cc
    by_test false ih e = let h : position_or_len p (ys ++ x ∷ []) ≡ length ys = ih e in omega (arith, h)

-- what is put in where it isn't there stands at its place
pub put_at : {X : Type 0} (p : X → Bool) (x : X) (xs now : List X) (place : ℕ) → p x ≡ true → now ≡ cond (list_any p xs) xs (xs ++ x ∷ []) → place ≡ position_or_len p xs → position p now ≡ Some place
put_at {X} p x xs now place own put is = ap (position p) put ∙ by_test (list_any p xs) refl ∙ ap Some (sym is)
  where
    by_test : (b : Bool) → list_any p xs ≡ b → position p (cond b xs (xs ++ x ∷ [])) ≡ Some (position_or_len p xs)
    by_test true e = place_at p xs (len_present p xs e)
    by_test false e =
        let last : position_or_len p (xs ++ x ∷ []) ≡ length xs = len_last p x xs own e in
        place_at p (xs ++ x ∷ []) (omega (arith, last, length-append xs (x ∷ []))) ∙ ap Some (last ∙ sym (len_absent p xs e))

-- ---- keys

-- the test for a key
abbrev pub has_key : ℕ → ℕ → Address → Key → Bool
has_key end h peer key = (((end == key.0) && (h == key.1)) && (peer.port == key.2)) && (peer.id == key.3)

module _ {K : Type 0} (spelled : K → List ℕ) (hosts : List K) where
  -- a link that is written in place of one of its key
  pub keys_set : (keys : List Key) (links : List Link) (place : ℕ) (before after : Link) → before ≡ get_or links place before → after.end ≡ before.end → after.peer ≡ before.peer → AreKeys spelled hosts keys links → AreKeys spelled hosts keys (set links place after)
  keys_set [] [] place before after is e p a = tt
  keys_set [] (l ∷ ls) place before after is e p a = absurd a
  keys_set (k ∷ ks) [] place before after is e p a = absurd a
  keys_set (k ∷ ks) (l ∷ ls) zero before after is e p a =
      let end : l.end ≡ after.end = ap (λ (x : Link). x.end) (sym is) ∙ sym e in
      let peer : l.peer ≡ after.peer = ap (λ (x : Link). x.peer) (sym is) ∙ sym p in (
        (
          a.0.0 ∙ end,
          ap (λ (x : Address). position (λ text. bytes_eq x.host (spelled text)) hosts) (sym peer) ∙ a.0.1,
          a.0.2 ∙ ap (λ (x : Address). x.port) peer,
          a.0.3 ∙ ap (λ (x : Address). x.id) peer,
        ),
        a.1,
      )
  keys_set (k ∷ ks) (l ∷ ls) (suc n) before after is e p a = (a.0, keys_set ks ls n before after is e p a.1)

  pub keys_changed : (f : Link → Link) → ((l : Link) → ((f l).end ≡ l.end) × ((f l).peer ≡ l.peer)) → (keys : List Key) (rows : List Link) (place : ℕ) (before after : Link) → before ≡ get_or rows place before → after ≡ f before → AreKeys spelled hosts keys rows → AreKeys spelled hosts keys (slice_set rows place after)
  keys_changed f keeps keys rows place before after is done a =
      keys_set keys rows place before after is (ap (λ (x : Link). x.end) done ∙ (keeps before).0) (ap (λ (x : Link). x.peer) done ∙ (keeps before).1) a

  pub lengths : (keys : List Key) (links : List Link) → AreKeys spelled hosts keys links → length keys ≡ length links
  lengths [] [] a = refl
  lengths [] (l ∷ ls) a = absurd a
  lengths (k ∷ ks) [] a = absurd a
  lengths (k ∷ ks) (l ∷ ls) a = ap suc (lengths ks ls a.1)

  host_of : (a b : List ℕ) → bytes_eq a b ≡ true → a ≡ b
  host_of a b e = (bytes_eq-Decides a b).0 e

  -- one host text has one place
  same_host : (host other : List ℕ) (h k : ℕ) → IsHostAt spelled hosts host h → IsHostAt spelled hosts other k → bytes_eq other host ≡ (h == k)
  same_host host other h k e f = by_tests (bytes_eq other host) (h == k) refl refl
    where
      by_tests : (a b : Bool) → bytes_eq other host ≡ a → (h == k) ≡ b → a ≡ b
      by_tests true true p q = refl
      by_tests false false p q = refl
      by_tests true false p q =
          let same : other ≡ host = host_of other host p in
          let places : Some k ≡ Some h = sym f ∙ ap (λ (x : List ℕ). position (λ text. bytes_eq x (spelled text)) hosts) same ∙ e in
          let is : h ≡ k = cc in
          absurd (let no : true ≡ false = sym (number_same k) ∙ ap (λ n. n == k) (sym is) ∙ q in cc)
      by_tests false true p q =
          let is : h ≡ k = number_is h k q in
          let one = both_pass (λ text. bytes_eq host (spelled text)) (λ text. bytes_eq other (spelled text)) hosts k (e ∙ ap Some is) f in
          let same : other ≡ host = host_of other (spelled one.0) one.2 ∙ sym (host_of host (spelled one.0) one.1) in
          absurd (let no : true ≡ false = sym ((bytes_eq-Decides other host).1 same) ∙ p in cc)

  regrouped : (a b c d : Bool) → (((a && b) && c) && d) ≡ (a && (b && (c && d)))
  regrouped true true c d = refl
  regrouped true false c d = refl
  regrouped false b c d = refl

  -- a key passes where its link does
  agree : (end h : ℕ) (peer : Address) (key : Key) (link : Link) → IsHostAt spelled hosts peer.host h → IsKey spelled hosts key link → has_key end h peer key ≡ is_link end peer link
  unfolding same_node
  agree end h peer key link at is =
      let e : (end == key.0) ≡ (link.end == end) = turned end key.0 ∙ ap (λ n. n == end) is.0 in
      let host : (h == key.1) ≡ bytes_eq link.peer.host peer.host = sym (same_host peer.host link.peer.host h key.1 at is.1) in
      let port : (peer.port == key.2) ≡ (link.peer.port == peer.port) = turned peer.port key.2 ∙ ap (λ n. n == peer.port) is.2 in
      let id : (peer.id == key.3) ≡ (link.peer.id == peer.id) = turned peer.id key.3 ∙ ap (λ n. n == peer.id) is.3 in
      regrouped (end == key.0) (h == key.1) (peer.port == key.2) (peer.id == key.3) ∙ (λ i. e i && (host i && (port i && id i)))

  same_len : (end h : ℕ) (peer : Address) → IsHostAt spelled hosts peer.host h → (keys : List Key) (links : List Link) → AreKeys spelled hosts keys links → position_or_len (has_key end h peer) keys ≡ position_or_len (is_link end peer) links
  same_len end h peer at [] [] a = refl
  same_len end h peer at [] (l ∷ ls) a = absurd a
  same_len end h peer at (k ∷ ks) [] a = absurd a
  same_len end h peer at (k ∷ ks) (l ∷ ls) a = (λ i. cond (not (agree end h peer k l at a.0 i)) (1 + same_len end h peer at ks ls a.1 i) 0)

  -- what is found under a key is the link of that endpoint and peer
  pub keys_found : (end h : ℕ) (peer : Address) (keys : List Key) (links : List Link) → IsHostAt spelled hosts peer.host h → AreKeys spelled hosts keys links → position (has_key end h peer) keys ≡ position (is_link end peer) links
  keys_found end h peer keys links at a = (λ i. cond (nat_lt (same_len end h peer at keys links a i) (lengths keys links a i)) (Some (same_len end h peer at keys links a i)) None)

  -- a link of another host text isn't found
  other_host : (end : ℕ) (peer : Address) (key : Key) (link : Link) → position (λ text. bytes_eq peer.host (spelled text)) hosts ≡ None → IsKey spelled hosts key link → is_link end peer link ≡ false
  unfolding same_node
  other_host end peer key link none is = by_test (bytes_eq link.peer.host peer.host) refl
    where
      and_false : (b : Bool) → (b && false) ≡ false
      and_false true = refl
      and_false false = refl

      by_test : (b : Bool) → bytes_eq link.peer.host peer.host ≡ b → ((link.end == end) && (b && ((link.peer.port == peer.port) && (link.peer.id == peer.id)))) ≡ false
      by_test false e = and_false (link.end == end)
      by_test true e =
          let there : position (λ text. bytes_eq peer.host (spelled text)) hosts ≡ Some key.1 = ap (λ (x : List ℕ). position (λ text. bytes_eq x (spelled text)) hosts) (sym (host_of link.peer.host peer.host e)) ∙ is.1 in
          absurd (let no : None ≡ Some key.1 = sym none ∙ there in cc)

  no_len : (end : ℕ) (peer : Address) → position (λ text. bytes_eq peer.host (spelled text)) hosts ≡ None → (keys : List Key) (links : List Link) → AreKeys spelled hosts keys links → position_or_len (is_link end peer) links ≡ length links
  no_len end peer none [] [] a = refl
  no_len end peer none [] (l ∷ ls) a = absurd a
  no_len end peer none (k ∷ ks) [] a = absurd a
  no_len end peer none (k ∷ ks) (l ∷ ls) a =
      let rest : position_or_len (is_link end peer) ls ≡ length ls = no_len end peer none ks ls a.1 in
      let one : 1 + position_or_len (is_link end peer) ls ≡ suc (length ls) = omega (arith, rest) in
      ap (λ b. cond (not b) (1 + position_or_len (is_link end peer) ls) 0) (other_host end peer k l none a.0) ∙ one

  pub no_host : (end : ℕ) (peer : Address) (keys : List Key) (links : List Link) → position (λ text. bytes_eq peer.host (spelled text)) hosts ≡ None → AreKeys spelled hosts keys links → position (is_link end peer) links ≡ None
  no_host end peer keys links none a = no_place (is_link end peer) links (omega (arith, no_len end peer none keys links a))

-- ---- a link that is added

-- where none is found under a key, none has it
pub not_there : {X : Type 0} (p : X → Bool) (xs : List X) → position p xs ≡ None → list_any p xs ≡ false
not_there p xs e = by_test (list_any p xs) refl
  where
    by_test : (b : Bool) → list_any p xs ≡ b → b ≡ false
    by_test false h = refl
    by_test true h = absurd (let no : None ≡ Some (position_or_len p xs) = sym e ∙ place_at p xs (len_present p xs h) in cc)

module _ {K : Type 0} (spelled : K → List ℕ) where
  -- keys stay, whatever host texts are appended
  pub keys_grown : (hosts more : List K) (keys : List Key) (links : List Link) → AreKeys spelled hosts keys links → AreKeys spelled (hosts ++ more) keys links
  keys_grown hosts more [] [] a = tt
  keys_grown hosts more [] (l ∷ ls) a = absurd a
  keys_grown hosts more (k ∷ ks) [] a = absurd a
  keys_grown hosts more (k ∷ ks) (l ∷ ls) a = ((a.0.0, place_stays (λ text. bytes_eq l.peer.host (spelled text)) hosts more k.1 a.0.1, a.0.2, a.0.3), keys_grown hosts more ks ls a.1)

  -- keys stay where a host text is put in
  pub keys_put : (b : Bool) (hosts now : List K) (text : K) (keys : List Key) (links : List Link) → now ≡ cond b hosts (hosts ++ text ∷ []) → AreKeys spelled hosts keys links → AreKeys spelled now keys links
  keys_put b hosts now text keys links put a = subst (λ hs. AreKeys spelled hs keys links) (sym put) (by_test b)
    where
      by_test : (b : Bool) → AreKeys spelled (cond b hosts (hosts ++ text ∷ [])) keys links
      by_test true = a
      by_test false = keys_grown hosts (text ∷ []) keys links a

  -- a link and its key are added
  pub keys_added : (hosts : List K) (key : Key) (link : Link) (keys : List Key) (links : List Link) → IsKey spelled hosts key link → AreKeys spelled hosts keys links → AreKeys spelled hosts (keys ++ key ∷ []) (links ++ link ∷ [])
  keys_added hosts key link [] [] is a = (is, tt)
  keys_added hosts key link [] (l ∷ ls) is a = absurd a
  keys_added hosts key link (k ∷ ks) [] is a = absurd a
  keys_added hosts key link (k ∷ ks) (l ∷ ls) is a = (a.0, keys_added hosts key link ks ls is a.1)

pub if_within : (o : Option ℕ) (m n : ℕ) → m ≡ n → IfSome o (λ i. i < m) → IfSome o (λ i. i < n)
if_within None m n e h = h
if_within (Some i) m n e h = subst (λ (k : ℕ). i < k) e h

-- a link and its key are added, with the host text of its peer where that is new
pub add_keys : {K : Type 0} (spelled : K → List ℕ) (hosts now : List K) (text : K) (host : ℕ) (keys more : List Key) (rows after : List Link) (end : ℕ) (peer : Address) (link : Link) → spelled text ≡ peer.host → now ≡ cond (list_any (λ t. bytes_eq (spelled text) (spelled t)) hosts) hosts (hosts ++ text ∷ []) → host ≡ position_or_len (λ t. bytes_eq (spelled text) (spelled t)) hosts → AreKeys spelled hosts keys rows → position (is_link end peer) rows ≡ None → link.end ≡ end → link.peer ≡ peer → more ≡ cond (list_any (has_key end host peer) keys) keys (keys ++ (end, host, peer.port, peer.id) ∷ []) → after ≡ rows ++ link ∷ [] → AreKeys spelled now more after
add_keys spelled hosts now text host keys more rows after end peer link own put at are none e p insert push =
    let self : bytes_eq (spelled text) (spelled text) ≡ true = (bytes_eq-Decides (spelled text) (spelled text)).1 refl in
    let there : IsHostAt spelled now peer.host host = ap (λ (x : List ℕ). position (λ t. bytes_eq x (spelled t)) now) (sym own) ∙ put_at (λ t. bytes_eq (spelled text) (spelled t)) text hosts now host self put at in
    let known : AreKeys spelled now keys rows = keys_put spelled (list_any (λ t. bytes_eq (spelled text) (spelled t)) hosts) hosts now text keys rows put are in
    let absent : list_any (has_key end host peer) keys ≡ false = not_there (has_key end host peer) keys (keys_found spelled now end host peer keys rows there known ∙ none) in
    let grown : more ≡ keys ++ (end, host, peer.port, peer.id) ∷ [] = insert ∙ ap (λ b. cond b keys (keys ++ (end, host, peer.port, peer.id) ∷ [])) absent in
    let is : IsKey spelled now (end, host, peer.port, peer.id) link =
    (sym e, ap (λ (x : Address). position (λ t. bytes_eq x.host (spelled t)) now) p ∙ there, ap (λ (x : Address). x.port) (sym p), ap (λ (x : Address). x.id) (sym p)) in
    subst (λ (ls : List Link). AreKeys spelled now more ls) (sym push) (subst (λ (ks : List Key). AreKeys spelled now ks (rows ++ link ∷ [])) (sym grown) (keys_added spelled now (end, host, peer.port, peer.id) link keys rows is known))

-- a link that is taken back from the end
pub taken_back : (rows now after : List Link) (link : Link) (place : ℕ) → place ≡ length rows → now ≡ rows ++ link ∷ [] → after ≡ take place now → after ≡ rows
taken_back rows now after link place at grown cut = cut ∙ (λ i. take (at i) (grown i)) ∙ take-append_seam rows (link ∷ [])
