-- What a table by key finds, once a key was put in or a declaration came that it doesn't keep.
use Rattle.std.proofs.Common.{◌≡◌, ℕ, Bool, true, false, ◌&&◌, ◌||◌, List, [], ◌∷◌, ◌++◌, ◌==◌, if◌then◌else◌, refl, sym, ap, subst, ◌∙◌, arith}
use Rattle.std.specs.List.{list_any}
use Rattle.std.specs.Str.{bytes_eq}
use Rattle.std.proofs.lemmas.Bool.Decides.{nat_tests}
use Rattle.std.proofs.lemmas.List.Folds.{list_any-append}
use Rattle.std.proofs.lemmas.Slice.Eq.{bytes_eq-Decides}
use Rattle.indexmap.specs.IndexSet.{insert_key}
use Rattle.ch_base.specs.AddressValues.{AddressValue}
use Rattle.ch_base.proofs.Numbers.{both}
use Rattle.ch_watch.specs.Same.{same_node}
use Rattle.ch_model.specs.declared.line.What.{What}
use Rattle.ch_model.specs.declared.line.What.TheVariants as lines
use Rattle.ch_model.specs.LinesTold.{declares_node, declares_away, declares_stranger, declares_label, takes_host}
use Rattle.ch_lines.specs.Tables.{Finds, AreTables, declares_address, declares_guest}

or_false : (b : Bool) → (b || false) ≡ b
or_false true = refl
or_false false = refl

-- one declaration more
any_more : (p : What → Bool) (whats : List What) (what : What) → list_any p (whats ++ what ∷ []) ≡ (list_any p whats || p what)
any_more p whats what = list_any-append p whats (what ∷ []) ∙ ap (λ b. list_any p whats || b) (or_false (p what))

module _ {K Q : Type 0} (is : Q → K → Bool) (eq : K → K → Bool) (same : (q : Q) (x y : K) → eq x y ≡ true → is q x ≡ is q y) where
  here : (a b r : Bool) → b ≡ a → ((a || r) || b) ≡ (a || r)
  here true b r e = refl
  here false b r e = ap (λ c. r || c) e ∙ or_false r

  later : (a b r : Bool) → (r || b) ≡ r → ((a || r) || b) ≡ (a || r)
  later true b r e = refl
  later false b r e = e

  -- a key that is equal to one of the table is found by whatever finds that one
  again : (q : Q) (k : K) (ks : List K) → list_any (eq k) ks ≡ true → (list_any (is q) ks || is q k) ≡ list_any (is q) ks
  again q k [] h = absurd cc
  again q k (x ∷ xs) h = by (eq k x) refl h (λ g. again q k xs g)
    where
      by : (t : Bool) → eq k x ≡ t → (t || list_any (eq k) xs) ≡ true → (list_any (eq k) xs ≡ true → (list_any (is q) xs || is q k) ≡ list_any (is q) xs) → ((is q x || list_any (is q) xs) || is q k) ≡ (is q x || list_any (is q) xs)
      by true e g rest = here (is q x) (is q k) (list_any (is q) xs) (same q k x e)
      by false e g rest = later (is q x) (is q k) (list_any (is q) xs) (rest g)

  -- what is found once a key was put in
  put : (q : Q) (k : K) (ks : List K) → list_any (is q) (insert_key eq ks k) ≡ (list_any (is q) ks || is q k)
  put q k ks = by (list_any (eq k) ks) refl
    where
      by : (t : Bool) → list_any (eq k) ks ≡ t → list_any (is q) (if t then ks else ks ++ k ∷ []) ≡ (list_any (is q) ks || is q k)
      by true e = sym (again q k ks e)
      by false e = list_any-append (is q) ks (k ∷ []) ∙ ap (λ b. list_any (is q) ks || b) (or_false (is q k))

  -- a declaration came whose key was put in
  pub kept : (declares : Q → What → Bool) (ks : List K) (whats : List What) (k : K) (what : What) (mid now : List K) (after : List What) → Finds is declares ks whats → mid ≡ ks → now ≡ insert_key eq mid k → after ≡ whats ++ what ∷ [] → ((q : Q) → declares q what ≡ is q k) → Finds is declares now after
  kept declares ks whats k what mid now after finds m n w own q =
      ap (list_any (is q)) n
      ∙ put q k mid
      ∙ ap (λ l. list_any (is q) l || is q k) m
      ∙ ap (λ b. b || is q k) (finds q)
      ∙ ap (λ b. list_any (declares q) whats || b) (sym (own q))
      ∙ sym (any_more (declares q) whats what)
      ∙ sym (ap (list_any (declares q)) w)

-- a declaration came that the table doesn't keep
pub passed : {K Q : Type 0} (is : Q → K → Bool) (declares : Q → What → Bool) (ks : List K) (whats : List What) (what : What) (after : List What) → Finds is declares ks whats → after ≡ whats ++ what ∷ [] → ((q : Q) → declares q what ≡ false) → Finds is declares ks after
passed is declares ks whats what after finds w none q =
    finds q
    ∙ sym (or_false (list_any (declares q) whats))
    ∙ ap (λ b. list_any (declares q) whats || b) (sym (none q))
    ∙ sym (any_more (declares q) whats what)
    ∙ sym (ap (list_any (declares q)) w)

-- ---- keys that are equal are found by the same

module _ {K : Type 0} (spelled : K → List ℕ) where
  abbrev pub same_text : K → K → Bool
  same_text x y = bytes_eq (spelled x) (spelled y)

  abbrev pub spells : List ℕ → K → Bool
  spells text k = bytes_eq text (spelled k)

  pub text_same : (q : List ℕ) (x y : K) → same_text x y ≡ true → spells q x ≡ spells q y
  text_same q x y e = ap (bytes_eq q) ((bytes_eq-Decides (spelled x) (spelled y)).0 e)

module _ {L : Type 0} (place : L → AddressValue) where
  abbrev pub same_place : L → L → Bool
  same_place x y = bytes_eq (place x).host (place y).host && (((place x).port == (place y).port) && ((place x).id == (place y).id))

  abbrev pub stands : AddressValue → L → Bool
  stands address k = same_node address (place k)

  number_is : (m n : ℕ) → (m == n) ≡ true → m ≡ n
  number_is m n e = grind (arith, nat_tests)

  pub place_same : (q : AddressValue) (x y : L) → same_place x y ≡ true → stands q x ≡ stands q y
  unfolding same_node
  place_same q x y e =
      let a = both (bytes_eq (place x).host (place y).host) (((place x).port == (place y).port) && ((place x).id == (place y).id)) e in
      let b = both ((place x).port == (place y).port) ((place x).id == (place y).id) a.1 in
      let host = (bytes_eq-Decides (place x).host (place y).host).0 a.0 in
      let port = number_is (place x).port (place y).port b.0 in
      let id = number_is (place x).id (place y).id b.1 in
      rw (host, port, id) refl

  -- a key looks up what its address looks up
  pub looked_up : (k : L) (ks : List L) → list_any (same_place k) ks ≡ list_any (stands (place k)) ks
  unfolding same_node
  looked_up k ks = refl

module _ {M : Type 0} (parts : M → List ℕ × List ℕ) where
  abbrev pub same_parts : M → M → Bool
  same_parts x y = bytes_eq (parts x).0 (parts y).0 && bytes_eq (parts x).1 (parts y).1

  abbrev pub names : List ℕ × List ℕ → M → Bool
  names q k = bytes_eq q.0 (parts k).0 && bytes_eq q.1 (parts k).1

  pub parts_same : (q : List ℕ × List ℕ) (x y : M) → same_parts x y ≡ true → names q x ≡ names q y
  parts_same q x y e =
      let a = both (bytes_eq (parts x).0 (parts y).0) (bytes_eq (parts x).1 (parts y).1) e in
      let node = (bytes_eq-Decides (parts x).0 (parts y).0).0 a.0 in
      let label = (bytes_eq-Decides (parts x).1 (parts y).1).0 a.1 in
      rw (node, label) refl

-- ---- the tables once a line that declares was kept

module _ {K L M : Type 0} {spelled : K → List ℕ} {place : L → AddressValue} {parts : M → List ℕ × List ℕ} {nodes aways strangers hosts guests : List K} {addresses : List L} {labels : List M} {whats : List What}
    (old : AreTables spelled place parts nodes aways strangers hosts guests addresses labels whats) {after : List What} where
  pub with_node : {name : List ℕ} {address : AddressValue} (unique : ℕ) {key host : K} {at : L} {names_mid names_now hosts_mid hosts_now : List K} {at_mid at_now : List L}
      → names_mid ≡ nodes → names_now ≡ insert_key (same_text spelled) names_mid key → spelled key ≡ name
      → hosts_mid ≡ hosts → hosts_now ≡ insert_key (same_text spelled) hosts_mid host → spelled host ≡ address.host
      → at_mid ≡ addresses → at_now ≡ insert_key (same_place place) at_mid at → place at ≡ address
      → after ≡ whats ++ lines.Node name address unique ∷ []
      → AreTables spelled place parts names_now aways strangers hosts_now guests at_now labels after
  with_node {name} {address} unique {key} {host} {at} {names_mid} {names_now} {hosts_mid} {hosts_now} {at_mid} {at_now} nm nn ni hm hn hi am an ai w =
      let what : What = lines.Node name address unique in
      record {
        nodes = kept (spells spelled) (same_text spelled) (text_same spelled) declares_node nodes whats key what names_mid names_now after old.nodes nm nn w (λ q. ap (bytes_eq q) (sym ni));
        aways = passed (spells spelled) declares_away aways whats what after old.aways w (λ q. refl);
        strangers = passed (spells spelled) declares_stranger strangers whats what after old.strangers w (λ q. refl);
        hosts = kept (spells spelled) (same_text spelled) (text_same spelled) takes_host hosts whats host what hosts_mid hosts_now after old.hosts hm hn w (λ q. ap (bytes_eq q) (sym hi));
        guests = passed (spells spelled) declares_guest guests whats what after old.guests w (λ q. refl);
        addresses = kept (stands place) (same_place place) (place_same place) declares_address addresses whats at what at_mid at_now after old.addresses am an w (λ q. ap (same_node q) (sym ai));
        labels = passed (names parts) (λ q. declares_label q.0 q.1) labels whats what after old.labels w (λ q. refl);
      }

  pub with_away : {name : List ℕ} {address : AddressValue} (unique : ℕ) {key host : K} {at : L} {names_mid names_now hosts_mid hosts_now : List K} {at_mid at_now : List L}
      → names_mid ≡ aways → names_now ≡ insert_key (same_text spelled) names_mid key → spelled key ≡ name
      → hosts_mid ≡ hosts → hosts_now ≡ insert_key (same_text spelled) hosts_mid host → spelled host ≡ address.host
      → at_mid ≡ addresses → at_now ≡ insert_key (same_place place) at_mid at → place at ≡ address
      → after ≡ whats ++ lines.Away name address unique ∷ []
      → AreTables spelled place parts nodes names_now strangers hosts_now guests at_now labels after
  with_away {name} {address} unique {key} {host} {at} {names_mid} {names_now} {hosts_mid} {hosts_now} {at_mid} {at_now} nm nn ni hm hn hi am an ai w =
      let what : What = lines.Away name address unique in
      record {
        nodes = passed (spells spelled) declares_node nodes whats what after old.nodes w (λ q. refl);
        aways = kept (spells spelled) (same_text spelled) (text_same spelled) declares_away aways whats key what names_mid names_now after old.aways nm nn w (λ q. ap (bytes_eq q) (sym ni));
        strangers = passed (spells spelled) declares_stranger strangers whats what after old.strangers w (λ q. refl);
        hosts = kept (spells spelled) (same_text spelled) (text_same spelled) takes_host hosts whats host what hosts_mid hosts_now after old.hosts hm hn w (λ q. ap (bytes_eq q) (sym hi));
        guests = passed (spells spelled) declares_guest guests whats what after old.guests w (λ q. refl);
        addresses = kept (stands place) (same_place place) (place_same place) declares_address addresses whats at what at_mid at_now after old.addresses am an w (λ q. ap (same_node q) (sym ai));
        labels = passed (names parts) (λ q. declares_label q.0 q.1) labels whats what after old.labels w (λ q. refl);
      }

  pub with_label : {node label : List ℕ} {key : M} {mid now : List M}
      → mid ≡ labels → now ≡ insert_key (same_parts parts) mid key → (parts key).0 ≡ node → (parts key).1 ≡ label
      → after ≡ whats ++ lines.Label node label ∷ []
      → AreTables spelled place parts nodes aways strangers hosts guests addresses now after
  with_label {node} {label} {key} {mid} {now} m n i j w =
      let what : What = lines.Label node label in
      record {
        nodes = passed (spells spelled) declares_node nodes whats what after old.nodes w (λ q. refl);
        aways = passed (spells spelled) declares_away aways whats what after old.aways w (λ q. refl);
        strangers = passed (spells spelled) declares_stranger strangers whats what after old.strangers w (λ q. refl);
        hosts = passed (spells spelled) takes_host hosts whats what after old.hosts w (λ q. refl);
        guests = passed (spells spelled) declares_guest guests whats what after old.guests w (λ q. refl);
        addresses = passed (stands place) declares_address addresses whats what after old.addresses w (λ q. refl);
        labels = kept (names parts) (same_parts parts) (parts_same parts) (λ q. declares_label q.0 q.1) labels whats key what mid now after old.labels m n w (λ q. ap (λ (l : List ℕ). bytes_eq q.0 l && bytes_eq q.1 label) (sym i) ∙ ap (λ (l : List ℕ). bytes_eq q.0 (parts key).0 && bytes_eq q.1 l) (sym j));
      }

  pub with_stranger : {name host : List ℕ} {key guest : K} {names_mid names_now guests_mid guests_now : List K}
      → names_mid ≡ strangers → names_now ≡ insert_key (same_text spelled) names_mid key → spelled key ≡ name
      → guests_mid ≡ guests → guests_now ≡ insert_key (same_text spelled) guests_mid guest → spelled guest ≡ host
      → after ≡ whats ++ lines.Stranger name host ∷ []
      → AreTables spelled place parts nodes aways names_now hosts guests_now addresses labels after
  with_stranger {name} {host} {key} {guest} {names_mid} {names_now} {guests_mid} {guests_now} nm nn ni gm gn gi w =
      let what : What = lines.Stranger name host in
      record {
        nodes = passed (spells spelled) declares_node nodes whats what after old.nodes w (λ q. refl);
        aways = passed (spells spelled) declares_away aways whats what after old.aways w (λ q. refl);
        strangers = kept (spells spelled) (same_text spelled) (text_same spelled) declares_stranger strangers whats key what names_mid names_now after old.strangers nm nn w (λ q. ap (bytes_eq q) (sym ni));
        hosts = passed (spells spelled) takes_host hosts whats what after old.hosts w (λ q. refl);
        guests = kept (spells spelled) (same_text spelled) (text_same spelled) declares_guest guests whats guest what guests_mid guests_now after old.guests gm gn w (λ q. ap (bytes_eq q) (sym gi));
        addresses = passed (stands place) declares_address addresses whats what after old.addresses w (λ q. refl);
        labels = passed (names parts) (λ q. declares_label q.0 q.1) labels whats what after old.labels w (λ q. refl);
      }
