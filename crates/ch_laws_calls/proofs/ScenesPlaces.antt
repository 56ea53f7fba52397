-- Which cell of a journal's world an address is at: no two cells are of one host and port.
use Rattle.std.proofs.Common.{◌≡◌, ℕ, zero, suc, ◌+◌, ◌<◌, Bool, true, false, cond, not, ◌&&◌, ◌||◌, List, [], ◌∷◌, length, map, refl, sym, ap, ◌∙◌, subst, arith}
use Rattle.std.proofs.lemmas.Bool.{and_parts}
use Rattle.std.proofs.lemmas.Bool.Decides.{nat_tests}
use Rattle.std.proofs.lemmas.Option.{slice_get_within}
use Rattle.std.proofs.lemmas.Slice.Eq.{bytes_eq-Decides}
use Rattle.std.specs.List.{list_any, position_or_len}
use Rattle.std.specs.Prelude.{filter, position, slice_get, Some, None, nat_lt, ◌==◌}
use Rattle.std.specs.Str.{bytes_eq}
use Rattle.ch_base.specs.declared.address.Address.{Address}
use Rattle.ch_model.specs.declared.line.Line.{Line}
use Rattle.ch_model.specs.HostCalls.{host_new}
use Rattle.ch_model.specs.Node.{node_new}
use Rattle.ch_model.specs.World.{nodes_of, labels_of, same_host, first_of_hosts, cell_at, world_new}
use Rattle.ch_model.specs.WorldSockets.{is_host_of, cell_of}
use Rattle.ch_model.specs.WorldState.{Cell, Named}
use Rattle.ch_laws_world.specs.Grows.{home_of, homes_of}
use Rattle.ch_laws_log.proofs.Stored.{number_is, number_same, bytes_same}
use Rattle.ch_laws_many.proofs.Addresses.{all_opened, both}

-- ---- the place of the first

-- what passes stands at this place
abbrev pub Stands : {X : Type 0} → (X → Bool) → List X → ℕ → Type 0
Stands {X = X} p xs i = (x : X) × (slice_get xs i ≡ Some x) × (p x ≡ true)

in_rest : (n l : ℕ) → nat_lt (1 + n) (suc l) ≡ true → nat_lt n l ≡ true
in_rest n l h = grind (arith, nat_tests)

one_more : (n : ℕ) → suc n ≡ 1 + n
one_more n = omega arith

first_stands : {X : Type 0} (p : X → Bool) (xs : List X) → nat_lt (position_or_len p xs) (length xs) ≡ true → Stands p xs (position_or_len p xs)
first_stands p [] h = absurd cc
first_stands p (x ∷ xs) h = by_test (p x) refl h (first_stands p xs) where
  by_test : (b : Bool) → p x ≡ b → nat_lt (cond (not b) (1 + position_or_len p xs) 0) (suc (length xs)) ≡ true → (nat_lt (position_or_len p xs) (length xs) ≡ true → Stands p xs (position_or_len p xs)) → Stands p (x ∷ xs) (cond (not b) (1 + position_or_len p xs) 0)
  by_test true is h more = (x, refl, is)
  by_test false is h more = let one = more (in_rest (position_or_len p xs) (length xs) h) in subst (Stands p (x ∷ xs)) (one_more (position_or_len p xs)) (one.0, one.1, one.2)

pub stands_at : {X : Type 0} (p : X → Bool) (xs : List X) (i : ℕ) → position p xs ≡ Some i → Stands p xs i
stands_at p xs i e = by_test (nat_lt (position_or_len p xs) (length xs)) refl e where
  by_test : (b : Bool) → nat_lt (position_or_len p xs) (length xs) ≡ b → cond b (Some (position_or_len p xs)) None ≡ Some i → Stands p xs i
  by_test true h e = let is : position_or_len p xs ≡ i = cc in subst (Stands p xs) is (first_stands p xs h)
  by_test false h e = absurd cc

less : (i l : ℕ) → i < l → nat_lt i l ≡ true
less i l h = grind (arith, nat_tests)

place_is : {X : Type 0} (p : X → Bool) (xs : List X) (i : ℕ) (x : X) → slice_get xs i ≡ Some x → position_or_len p xs ≡ i → position p xs ≡ Some i
place_is p xs i x at is = ap (λ (n : ℕ). cond (nat_lt n (length xs)) (Some n) None) is ∙ ap (λ b. cond b (Some i) None) (less i (length xs) (slice_get_within xs i x at))

-- ---- hosts

pub hosts_same : (a b : Address) → a.host ≡ b.host → a.port ≡ b.port → same_host a b ≡ true
hosts_same a b h p = both (bytes_eq a.host b.host) (a.port == b.port) (ap (λ (x : List ℕ). bytes_eq x b.host) h ∙ bytes_same b.host) (ap (λ (n : ℕ). n == b.port) p ∙ number_same b.port)

abbrev any_of_host : List ℕ → ℕ → List Address → Bool
any_of_host host port known = list_any (λ (c : Address). bytes_eq host c.host && port == c.port) known

any_same : (a b : Address) (known : List Address) → a.host ≡ b.host → a.port ≡ b.port → list_any (same_host a) known ≡ list_any (same_host b) known
any_same a b known h p = ap (λ (x : List ℕ). any_of_host x a.port known) h ∙ ap (λ (n : ℕ). any_of_host b.host n known) p

pub first_or : (a b : Bool) → a ≡ true → (a || b) ≡ true
first_or true b e = refl
first_or false b e = absurd cc

pub second_or : (a b : Bool) → b ≡ true → (a || b) ≡ true
second_or true b e = refl
second_or false b e = e

-- none of a host that was there before is kept
none_again : (known : List Address) (all : List Named) (b : Address) → list_any (same_host b) known ≡ true → (p : ℕ) (y : Address) → slice_get (first_of_hosts known all) p ≡ Some y → b.host ≡ y.host → b.port ≡ y.port → ⊥
none_again known [] b h p y at host port = absurd cc
none_again known (named ∷ rest) b h p y at host port = by_test (list_any (same_host named.address) known) refl p at (none_again known rest b h) (none_again (named.address ∷ known) rest b (second_or (same_host b named.address) (list_any (same_host b) known) h)) where
  More : List Address → Type 0
  More seen = (p : ℕ) (y : Address) → slice_get (first_of_hosts seen rest) p ≡ Some y → b.host ≡ y.host → b.port ≡ y.port → ⊥

  by_test : (t : Bool) → list_any (same_host named.address) known ≡ t → (p : ℕ) → slice_get (cond t (first_of_hosts known rest) (named.address ∷ first_of_hosts (named.address ∷ known) rest)) p ≡ Some y → More known → More (named.address ∷ known) → ⊥
  by_test true is p at more other = more p y at host port
  by_test false is zero at more other =
      let same : named.address ≡ y = cc in
      let there : list_any (same_host named.address) known ≡ true = any_same named.address b known (ap (λ (a : Address). a.host) same ∙ sym host) (ap (λ (a : Address). a.port) same ∙ sym port) ∙ h in
      absurd cc
  by_test false is (suc p) at more other = other p y at host port

-- no two of these are of one host and port
abbrev Alone : List Address → Type 0
Alone [] = Unit {0}
Alone (x ∷ rest) = ((p : ℕ) (y : Address) → slice_get rest p ≡ Some y → x.host ≡ y.host → x.port ≡ y.port → ⊥) × Alone rest

are_alone : (known : List Address) (all : List Named) → Alone (first_of_hosts known all)
are_alone known [] = tt
are_alone known (named ∷ rest) = by_test (list_any (same_host named.address) known) (are_alone known rest) (are_alone (named.address ∷ known) rest) where
  here : list_any (same_host named.address) (named.address ∷ known) ≡ true
  here = first_or (same_host named.address named.address) (list_any (same_host named.address) known) (hosts_same named.address named.address refl refl)

  by_test : (t : Bool) → Alone (first_of_hosts known rest) → Alone (first_of_hosts (named.address ∷ known) rest) → Alone (cond t (first_of_hosts known rest) (named.address ∷ first_of_hosts (named.address ∷ known) rest))
  by_test true more other = more
  by_test false more other = (none_again (named.address ∷ known) rest named.address here, other)

-- ---- the cells of a new world

abbrev pub cells_at : List Line → List Address → List (Cell × ℕ)
cells_at journal addresses = map (λ (address : Address). (cell_at journal address, 0)) addresses

pub text_at : (journal : List Line) (address : Address) → ((cell_at journal address).host.host ≡ address.host) × ((cell_at journal address).host.port ≡ address.port)
text_at journal address = all_opened (map (λ (node : ℕ × ℕ × List (List ℕ)). (node.0, node_new (record { host = address.host; port = address.port; id = node.0 }) node.1 node.2)) (map (λ (named : Named). (named.address.id, named.unique, labels_of journal named.name)) (filter (λ (named : Named). same_host named.address address) (nodes_of journal))))
    (host_new address.host address.port (map (λ (named : Named). named.address.host) (nodes_of journal)))

host_there : (journal : List Line) (address a : Address) → a.host ≡ address.host → a.port ≡ address.port → is_host_of a (cell_at journal address, 0) ≡ true
host_there journal address a h p = both (bytes_eq (cell_at journal address).host.host a.host) ((cell_at journal address).host.port == a.port)
    (ap (λ (x : List ℕ). bytes_eq x a.host) ((text_at journal address).0 ∙ sym h) ∙ bytes_same a.host) (ap (λ (n : ℕ). n == a.port) ((text_at journal address).1 ∙ sym p) ∙ number_same a.port)

pub host_parts : (a : Address) (cell : Cell × ℕ) → is_host_of a cell ≡ true → (cell.0.host.host ≡ a.host) × (cell.0.host.port ≡ a.port)
host_parts a cell h = let parts = and_parts (bytes_eq cell.0.host.host a.host) (cell.0.host.port == a.port) h in ((bytes_eq-Decides cell.0.host.host a.host).0 parts.0, number_is cell.0.host.port a.port parts.1)

first_is : (journal : List Line) (addresses : List Address) → Alone addresses → (p : ℕ) (x a : Address) → slice_get addresses p ≡ Some x → a.host ≡ x.host → a.port ≡ x.port → position_or_len (is_host_of a) (cells_at journal addresses) ≡ p
first_is journal [] alone p x a at h k = absurd cc
first_is journal (y ∷ rest) alone zero x a at h k = let same : y ≡ x = cc in
    ap (λ b. cond (not b) (1 + position_or_len (is_host_of a) (cells_at journal rest)) 0) (host_there journal y a (h ∙ ap (λ (z : Address). z.host) (sym same)) (k ∙ ap (λ (z : Address). z.port) (sym same)))
first_is journal (y ∷ rest) alone (suc p) x a at h k = by_test (is_host_of a (cell_at journal y, 0)) refl (first_is journal rest alone.1 p x a at h k) where
  clash : is_host_of a (cell_at journal y, 0) ≡ true → ⊥
  clash is = let parts = host_parts a (cell_at journal y, 0) is in alone.0 p x at (sym (text_at journal y).0 ∙ parts.0 ∙ h) (sym (text_at journal y).1 ∙ parts.1 ∙ k)

  by_test : (b : Bool) → is_host_of a (cell_at journal y, 0) ≡ b → position_or_len (is_host_of a) (cells_at journal rest) ≡ p → cond (not b) (1 + position_or_len (is_host_of a) (cells_at journal rest)) 0 ≡ suc p
  by_test true is more = absurd (clash is)
  by_test false is more = ap (λ (n : ℕ). 1 + n) more ∙ sym (one_more p)

-- a cell of the new world is of an address
pub record IsMadeAt (journal : List Line) (addresses : List Address) (place : ℕ) (cell : Cell × ℕ) : Type 0 where
  pub address : Address
  pub at : slice_get addresses place ≡ Some address
  pub made : ◌≡◌ {A = Cell × ℕ} (cell_at journal address, 0) cell

pub made_at : (journal : List Line) (addresses : List Address) (place : ℕ) (cell : Cell × ℕ) → slice_get (cells_at journal addresses) place ≡ Some cell → IsMadeAt journal addresses place cell
made_at journal [] place cell e = absurd cc
made_at journal (a ∷ rest) zero cell e = let is : ◌≡◌ {A = Cell × ℕ} (cell_at journal a, 0) cell = cc in record { address = a; at = refl; made = is }
made_at journal (a ∷ rest) (suc place) cell e = let more = made_at journal rest place cell e in record { address = more.address; at = more.at; made = more.made }

-- where the cell at a place has this host and port, the address is there
pub is_there : (journal : List Line) (place : ℕ) (cell : Cell × ℕ) (a : Address) → slice_get (world_new journal).cells place ≡ Some cell → cell.0.host.host ≡ a.host → cell.0.host.port ≡ a.port → cell_of (world_new journal) a ≡ Some place
is_there journal place cell a at h k =
    let made = made_at journal (first_of_hosts [] (nodes_of journal)) place cell at in
    let text = text_at journal made.address in
    place_is (is_host_of a) (world_new journal).cells place cell at (first_is journal (first_of_hosts [] (nodes_of journal)) (are_alone [] (nodes_of journal)) place made.address a made.at
    (sym h ∙ ap (λ (c : Cell × ℕ). c.0.host.host) (sym made.made) ∙ text.0) (sym k ∙ ap (λ (c : Cell × ℕ). c.0.host.port) (sym made.made) ∙ text.1))

-- ---- cells at home

-- a cell at the same place, at home as this one
pub record IsHomedAs (cells : List (Cell × ℕ)) (place : ℕ) (cell : Cell × ℕ) : Type 0 where
  pub other : Cell × ℕ
  pub at : slice_get cells place ≡ Some other
  pub home : home_of other.0 ≡ home_of cell.0

pub homed_as : (cells others : List (Cell × ℕ)) (place : ℕ) (cell : Cell × ℕ) → homes_of cells ≡ homes_of others → slice_get cells place ≡ Some cell → IsHomedAs others place cell
homed_as [] others place cell e at = absurd cc
homed_as (known ∷ rest) [] place cell e at = absurd cc
homed_as (known ∷ rest) (now ∷ more) place cell e at =
    let here : home_of now.0 ≡ home_of known.0 = cc in
    let later : homes_of rest ≡ homes_of more = cc in
    by_place place at here (homed_as rest more) later where
      by_place : (p : ℕ) → slice_get (known ∷ rest) p ≡ Some cell → home_of now.0 ≡ home_of known.0 → ((q : ℕ) (c : Cell × ℕ) → homes_of rest ≡ homes_of more → slice_get rest q ≡ Some c → IsHomedAs more q c) → homes_of rest ≡ homes_of more → IsHomedAs (now ∷ more) p cell
      by_place zero at here further later = let is : known ≡ cell = cc in record { other = now; at = refl; home = subst (λ (c : Cell × ℕ). home_of now.0 ≡ home_of c.0) is here }
      by_place (suc q) at here further later = let one = further q cell later at in record { other = one.other; at = one.at; home = one.home }
