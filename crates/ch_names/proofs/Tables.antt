-- What a table by key finds, once a name was added.
use Rattle.std.proofs.Common.{◌≡◌, ℕ, suc, Bool, true, false, cond, ◌&&◌, ◌==◌, List, [], ◌∷◌, ◌++◌, length, find, is_some, option_map, slice_get, Option, Some, None, Bor, refl, sym, ap, ◌∙◌, arith}
use Rattle.std.specs.Map.{lookup}
use Rattle.std.specs.Option.{option_copied}
use Rattle.std.specs.Slice.{IsItemAt}
use Rattle.std.proofs.lemmas.Option.{slice_get_past, slice_get-get_or}
use Rattle.std.specs.Str.{bytes_eq}
use Rattle.std.proofs.lemmas.Bool.Decides.{nat_tests}
use Rattle.std.proofs.lemmas.Slice.Eq.{bytes_eq-Decides}
use Rattle.indexmap.specs.IndexMap.{IndexMap, insert_entry}
use Rattle.indexmap.proofs.CallerLemmas.{insert_entry-new}
use Rattle.ch_base.specs.declared.address.Address.{Address}
use Rattle.ch_watch.specs.Same.{same_node}
use Rattle.ch_model.specs.WorldState.{Named}
use Rattle.ch_model.specs.Naming.{is_named}
use Rattle.ch_names.specs.declared.spot.Spot.{Spot}
use Rattle.ch_names.specs.Tables.{address_of, is_at, first_place, first_entry, Finds, AreTables}

-- ---- places

-- the first of two that is there
abbrev or_else : {A : Type 0} → Option A → Option A → Option A
or_else (Some x) o = Some x
or_else None o = o

or_none : {A : Type 0} (o : Option A) → or_else o None ≡ o
or_none (Some x) = refl
or_none None = refl

one_later : (o : Option ℕ) (b : Bool) (n : ℕ) → option_map suc (or_else o (cond b (Some n) None)) ≡ or_else (option_map suc o) (cond b (Some (suc n)) None)
one_later (Some i) b n = refl
one_later None true n = refl
one_later None false n = refl

-- where one stands once another was added
place_added : {X : Type 0} (p : X → Bool) (xs : List X) (x : X) → first_place p (xs ++ x ∷ []) ≡ or_else (first_place p xs) (cond (p x) (Some (length xs)) None)
place_added p [] x = refl
place_added p (y ∷ ys) x = by (p y) (place_added p ys x)
  where
    by : (b : Bool) → first_place p (ys ++ x ∷ []) ≡ or_else (first_place p ys) (cond (p x) (Some (length ys)) None) → cond b (Some 0) (option_map suc (first_place p (ys ++ x ∷ []))) ≡ or_else (cond b (Some 0) (option_map suc (first_place p ys))) (cond (p x) (Some (suc (length ys))) None)
    by true ih = refl
    by false ih = ap (option_map suc) ih ∙ one_later (first_place p ys) (p x) (length ys)

-- what stands at a place, where one is known
abbrev pub at_place : {X : Type 0} → List X → Option ℕ → Option X
at_place xs None = None
at_place xs (Some i) = slice_get xs i

-- what stands at the place of the first is what is found
pub found : {X : Type 0} (p : X → Bool) (xs : List X) → at_place xs (first_place p xs) ≡ find p xs
found p [] = refl
found p (x ∷ xs) = by (p x) (found p xs)
  where
    past : (o : Option ℕ) → at_place (x ∷ xs) (option_map suc o) ≡ at_place xs o
    past None = refl
    past (Some i) = refl

    by : (b : Bool) → at_place xs (first_place p xs) ≡ find p xs → at_place (x ∷ xs) (cond b (Some 0) (option_map suc (first_place p xs))) ≡ cond b (Some x) (find p xs)
    by true ih = refl
    by false ih = past (first_place p xs) ∙ ih

-- ---- entries

looked_last : {K : Type 0} (t : K → Bool) (es : List (K × ℕ)) (k : K) (v : ℕ) → lookup t (es ++ (k, v) ∷ []) ≡ or_else (lookup t es) (cond (t k) (Some v) None)
looked_last t [] k v = refl
looked_last t (e ∷ es) k v = by (t e.0) (looked_last t es k v)
  where
    by : (b : Bool) → lookup t (es ++ (k, v) ∷ []) ≡ or_else (lookup t es) (cond (t k) (Some v) None) → cond b (Some e.1) (lookup t (es ++ (k, v) ∷ [])) ≡ or_else (cond b (Some e.1) (lookup t es)) (cond (t k) (Some v) None)
    by true ih = refl
    by false ih = ih

module _ {K Q : Type 0} (is : Q → K → Bool) (eq : K → K → Bool) (same : (q : Q) (x y : K) → eq x y ≡ true → is q x ≡ is q y) where
  -- what asks for a key finds one where an equal key stands
  stands : (q : Q) (k : K) (es : List (K × ℕ)) → is q k ≡ true → is_some (lookup (eq k) es) ≡ true → is_some (lookup (is q) es) ≡ true
  stands q k [] own h = h
  stands q k (e ∷ es) own h = by (eq k e.0) (is q e.0) refl refl h (stands q k es own)
    where
      by : (a b : Bool) → eq k e.0 ≡ a → is q e.0 ≡ b → is_some (cond a (Some e.1) (lookup (eq k) es)) ≡ true → (is_some (lookup (eq k) es) ≡ true → is_some (lookup (is q) es) ≡ true) → is_some (cond b (Some e.1) (lookup (is q) es)) ≡ true
      by a true f g h ih = refl
      by true false f g h ih = absurd (let no : true ≡ false = sym own ∙ same q k e.0 f ∙ g in cc)
      by false false f g h ih = ih h

  there : (q : Q) (k : K) (v : ℕ) (o : Option ℕ) (b : Bool) → is q k ≡ b → (is q k ≡ true → is_some o ≡ true) → o ≡ or_else o (cond b (Some v) None)
  there q k v (Some i) b e some = refl
  there q k v None true e some = absurd (let no : false ≡ true = some e in cc)
  there q k v None false e some = refl

  -- what is looked up once a value was put under a key where none stood
  put : (q : Q) (k : K) (v : ℕ) (es : List (K × ℕ)) → lookup (is q) (first_entry eq es k v) ≡ or_else (lookup (is q) es) (cond (is q k) (Some v) None)
  put q k v es = by (is_some (lookup (eq k) es)) refl
    where
      by : (b : Bool) → is_some (lookup (eq k) es) ≡ b → lookup (is q) (cond b es (es ++ (k, v) ∷ [])) ≡ or_else (lookup (is q) es) (cond (is q k) (Some v) None)
      by true h = there q k v (lookup (is q) es) (is q k) refl (λ own. stands q k es own h)
      by false h = looked_last (is q) es k v

  -- a name was added, and its place put under its key
  pub added : (has : Q → Named → Bool) (es mid now : List (K × ℕ)) (rows after : List Named) (k : K) (place : ℕ) (row : Named) → Finds is has es rows → mid ≡ es → now ≡ first_entry eq mid k place → place ≡ length rows → after ≡ rows ++ row ∷ [] → ((q : Q) → has q row ≡ is q k) → Finds is has now after
  added has es mid now rows after k place row finds m n last w own q =
      ap (lookup (is q)) n
      ∙ put q k place mid
      ∙ ap (λ l. or_else (lookup (is q) l) (cond (is q k) (Some place) None)) m
      ∙ ap (λ o. or_else o (cond (is q k) (Some place) None)) (finds q)
      ∙ ap (λ b. or_else (first_place (has q) rows) (cond b (Some place) None)) (sym (own q))
      ∙ ap (λ v. or_else (first_place (has q) rows) (cond (has q row) (Some v) None)) last
      ∙ sym (place_added (has q) rows row)
      ∙ sym (ap (first_place (has q)) w)

-- ---- keys that are equal are found by the same

both : (a b : Bool) → (a && b) ≡ true → (a ≡ true) × (b ≡ true)
both true true e = (refl, refl)
both true false e = absurd cc
both false b e = absurd cc

number_is : (m n : ℕ) → (m == n) ≡ true → m ≡ n
number_is m n e = grind (arith, nat_tests)

turned : (a b : ℕ) → (a == b) ≡ (b == a)
turned a b = by (a == b) (b == a) refl refl
  where
    by : (x y : Bool) → (a == b) ≡ x → (b == a) ≡ y → x ≡ y
    by true true p q = refl
    by true false p q = grind (arith, nat_tests)
    by false true p q = grind (arith, nat_tests)
    by false false p q = refl

bytes_turned : (xs ys : List ℕ) → bytes_eq xs ys ≡ bytes_eq ys xs
bytes_turned xs ys = by (bytes_eq xs ys) (bytes_eq ys xs) refl refl
  where
    by : (a b : Bool) → bytes_eq xs ys ≡ a → bytes_eq ys xs ≡ b → a ≡ b
    by true true p q = refl
    by true false p q = absurd (let h : bytes_eq ys xs ≡ true = (bytes_eq-Decides ys xs).1 (sym ((bytes_eq-Decides xs ys).0 p)) in cc)
    by false true p q = absurd (let h : bytes_eq xs ys ≡ true = (bytes_eq-Decides xs ys).1 (sym ((bytes_eq-Decides ys xs).0 q)) in cc)
    by false false p q = refl

-- it doesn't matter which of two addresses is asked for
node_turned : (a b : Address) → same_node a b ≡ same_node b a
unfolding same_node
node_turned a b = (λ i. bytes_turned a.host b.host i && (turned a.port b.port i && turned a.id b.id i))

module _ {K : Type 0} (spelled : K → List ℕ) where
  abbrev pub same_text : K → K → Bool
  same_text x y = bytes_eq (spelled x) (spelled y)

  abbrev pub spells : List ℕ → K → Bool
  spells name k = bytes_eq name (spelled k)

  text_same : (q : List ℕ) (x y : K) → same_text x y ≡ true → spells q x ≡ spells q y
  text_same q x y e = ap (bytes_eq q) ((bytes_eq-Decides (spelled x) (spelled y)).0 e)

-- how the table compares its keys
abbrev pub same_spot : Spot → Spot → Bool
same_spot x y = bytes_eq x.host.items y.host.items && ((x.port == y.port) && (x.id == y.id))

abbrev pub is_of : Address → Spot → Bool
is_of address spot = same_node address (address_of spot)

spot_same : (q : Address) (x y : Spot) → same_spot x y ≡ true → is_of q x ≡ is_of q y
unfolding same_node
spot_same q x y e =
    let a = both (bytes_eq x.host.items y.host.items) ((x.port == y.port) && (x.id == y.id)) e in
    let b = both (x.port == y.port) (x.id == y.id) a.1 in
    let host = (bytes_eq-Decides x.host.items y.host.items).0 a.0 in
    let port = number_is x.port y.port b.0 in
    let id = number_is x.id y.id b.1 in
    (λ i. bytes_eq q.host (host i) && ((q.port == port i) && (q.id == id i)))

-- a key looks up what its address looks up
pub looked_up : (k : Spot) (es : List (Spot × ℕ)) → lookup (same_spot k) es ≡ lookup (is_of (address_of k)) es
unfolding same_node
looked_up k es = refl

-- ---- the tables once a name was added

module _ {K : Type 0} {spelled : K → List ℕ} {names : List (K × ℕ)} {addresses : List (Spot × ℕ)} {rows : List Named} (old : AreTables spelled names addresses rows) where
  pub with_name : (key : K) (spot : Spot) (row : Named) {place : ℕ} {names_mid names_now : List (K × ℕ)} {at_mid at_now : List (Spot × ℕ)} {after : List Named}
      → spelled key ≡ row.name → address_of spot ≡ row.address → place ≡ length rows
      → names_mid ≡ names → names_now ≡ first_entry (same_text spelled) names_mid key place
      → at_mid ≡ addresses → at_now ≡ first_entry same_spot at_mid spot place
      → after ≡ rows ++ row ∷ []
      → AreTables spelled names_now at_now after
  with_name key spot row {place} {names_mid} {names_now} {at_mid} {at_now} {after} name address last nm nn am an w = record {
    by_name = added (spells spelled) (same_text spelled) (text_same spelled) is_named names names_mid names_now rows after key place row old.by_name nm nn last w (λ q. bytes_turned row.name q ∙ ap (bytes_eq q) (sym name));
    by_address = added is_of same_spot spot_same is_at addresses at_mid at_now rows after spot place row old.by_address am an last w (λ q. node_turned row.address q ∙ ap (same_node q) (sym address));
  }

-- ---- one entry more

none_of : {A : Type 0} (o : Option A) → is_some o ≡ false → o ≡ None
none_of None h = refl
none_of (Some x) h = absurd cc

-- what is put under a key where none stands comes last
pub put_new : {K S : Type 0} (eq : K → K → Bool) (m : IndexMap K ℕ S) (k : K) (v : ℕ) (now : List (K × ℕ)) → is_some (lookup (eq k) m.entries) ≡ false → now ≡ insert_entry eq m.entries k v → now ≡ first_entry eq m.entries k v
put_new eq m k v now free e = e ∙ insert_entry-new eq m k v (none_of (lookup (eq k) m.entries) free) ∙ sym (ap (λ b. cond b m.entries (m.entries ++ (k, v) ∷ [])) free)

-- ---- what a table finds

-- what is lent at a place
got : {X : Type 0} (xs : List X) (i : ℕ) (r : Option (Bor X)) → IsItemAt xs i r → option_copied r ≡ slice_get xs i
got xs i None h = sym (slice_get_past xs i h.3)
got xs i (Some x) h = ap Some h.1 ∙ sym (slice_get-get_or xs i x.now h.3.0)

-- where a place is looked up, what is lent there is what is found
pub found_there : (p : Named → Bool) (rows slice : List Named) (o : Option ℕ) (i : ℕ) (r : Option (Bor Named)) → slice ≡ rows → Some i ≡ o → o ≡ first_place p rows → IsItemAt slice i r → option_copied r ≡ find p rows
found_there p rows slice o i r same e place h = got slice i r h ∙ ap (λ xs. slice_get xs i) same ∙ ap (at_place rows) (e ∙ place) ∙ found p rows

-- where no place is looked up, nothing is found
pub none_there : (p : Named → Bool) (rows : List Named) (o : Option ℕ) → None ≡ o → o ≡ first_place p rows → None ≡ find p rows
none_there p rows o e place = ap (at_place rows) (e ∙ place) ∙ found p rows
