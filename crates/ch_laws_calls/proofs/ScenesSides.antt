-- Each two nodes of a journal are a pair: one of the two has the greater address.
use Rattle.std.proofs.Common.{◌≡◌, ℕ, Bool, true, false, cond, List, [], ◌∷◌, Ok, refl, sym, ap, ◌∙◌, subst}
use Rattle.std.proofs.lemmas.Cmp.{nat_list_cmp_total}
use Rattle.std.proofs.lemmas.Map.Lookups.{exact_bytes}
use Rattle.std.proofs.lemmas.Slice.Eq.{bytes_eq-Decides}
use Rattle.std.specs.Cmp.Lexicographic.{slice_cmp}
use Rattle.std.specs.Ordering.{nat_cmp, is_gt, ordering_reverse}
use Rattle.std.specs.Prelude.{find, is_some, Option, Some, None, Result}
use Rattle.std.specs.Str.{bytes_eq}
use Rattle.std.specs.declared.cmp.Ordering.{Ordering}
use Rattle.std.specs.declared.cmp.Ordering.TheVariants as orders
use Rattle.ch_base.specs.Addresses.{IsAddress, address_text, read_address}
use Rattle.ch_base.specs.declared.address.Address.{Address}
use Rattle.ch_base.proofs.Addresses.{read_again}
use Rattle.ch_model.specs.declared.line.Line.{Line}
use Rattle.ch_model.specs.Greater.{is_greater}
use Rattle.ch_model.specs.Naming.{Names, is_named, called}
use Rattle.ch_model.specs.World.{names_of, world_new}
use Rattle.ch_model.specs.WorldSockets.{cell_of}
use Rattle.ch_model.specs.WorldState.{Named}
use Rattle.ch_race.specs.Pair as pair
use Rattle.ch_race.specs.Pair.{Side, Lesser, Greater, other}
use Rattle.ch_laws_log.specs.Declared.{is_declared}
use Rattle.ch_laws_log.proofs.Homes.{called_so}
use Rattle.ch_laws_many.proofs.Addresses.{called_homed, fresh_homed}
use Rattle.ch_laws_many.proofs.Reached.{IsJournal, named}
use Rattle.ch_laws_bytes.specs.Streams.{AreAddresses}
use Rattle.ch_laws_race.specs.Scene.{Party}
use Rattle.ch_laws_calls.specs.Scenes.{IsPairOf}
use Rattle.ch_laws_calls.specs.ScenesPairs.{IsPairFor}
use Rattle.ch_laws_calls.proofs.ScenesGiven.{declared_called}
use Rattle.ch_laws_calls.proofs.ScenesNames.{name_found}

-- ---- the order of addresses

reversed : (o p : Ordering) → o ≡ ordering_reverse p → is_gt o ≡ true → is_gt p ≡ false
reversed o orders.Less e h = refl
reversed o orders.Equal e h = refl
reversed o orders.Greater e h = let less : is_gt orders.Less ≡ true = sym (ap is_gt e) ∙ h in absurd cc

turned : (o p : Ordering) → o ≡ ordering_reverse p → is_gt o ≡ false → (p ≡ orders.Equal → ⊥) → is_gt p ≡ true
turned o orders.Greater e h differ = refl
turned o orders.Equal e h differ = absurd (differ refl)
turned o orders.Less e h differ = let more : is_gt orders.Greater ≡ false = sym (ap is_gt e) ∙ h in absurd cc

one_greater : (a b : Address) → is_greater a b ≡ true → is_greater b a ≡ false
one_greater a b h = reversed (slice_cmp nat_cmp (address_text a) (address_text b)) (slice_cmp nat_cmp (address_text b) (address_text a)) (nat_list_cmp_total.antisymm (address_text a) (address_text b)) h

-- addresses of one text are one
same_text : (a b : Address) → IsAddress a → IsAddress b → address_text a ≡ address_text b → a ≡ b
same_text a b m n e = given (sym (read_again a m) ∙ ap read_address e ∙ read_again b n) where
  given : {E : Type 0} → ◌≡◌ {A = Result Address E} (Ok a) (Ok b) → a ≡ b
  given e = cc

other_greater : (a b : Address) → IsAddress a → IsAddress b → (a ≡ b → ⊥) → is_greater a b ≡ false → is_greater b a ≡ true
other_greater a b m n differ h = turned (slice_cmp nat_cmp (address_text a) (address_text b)) (slice_cmp nat_cmp (address_text b) (address_text a)) (nat_list_cmp_total.antisymm (address_text a) (address_text b)) h
    (λ e. differ (sym (same_text b a n m (exact_bytes (address_text b) (address_text a) e))))

-- ---- a node

-- the node of this name, with its host and its address
record IsNode (journal : List Line) (name : List ℕ) (p : Party) : Type 0 where
  d : Named
  found : find (is_named p.name) (names_of journal) ≡ Some d
  its_name : d.name ≡ p.name
  its_address : d.address ≡ p.address
  placed : cell_of (world_new journal) p.address ≡ Some p.place
  is : p.name ≡ name
  called_so : called (names_of journal) p.address ≡ name
  address_is : IsAddress p.address

address_found : (known : Names) (name : List ℕ) (d : Named) → AreAddresses known → find (is_named name) known ≡ Some d → IsAddress d.address
address_found [] name d all e = absurd cc
address_found (n ∷ rest) name d all e = by_test (bytes_eq n.name name) e (address_found rest name d all.1) where
  by_test : (b : Bool) → cond b (Some n) (find (is_named name) rest) ≡ Some d → (find (is_named name) rest ≡ Some d → IsAddress d.address) → IsAddress d.address
  by_test true e more = let same : n ≡ d = cc in subst (λ (m : Named). IsAddress m.address) same all.0
  by_test false e more = more e

node_for : (journal : List Line) → IsJournal journal → AreAddresses (names_of journal) → (name : List ℕ) → is_declared (names_of journal) name ≡ true → (p : Party) × IsNode journal name p
node_for journal j addresses name declared = by_found (find (is_named name) (names_of journal)) refl declared where
  by_place : (d : Named) → find (is_named name) (names_of journal) ≡ Some d → called (names_of journal) d.address ≡ name → (o : Option ℕ) → cell_of (world_new journal) d.address ≡ o → is_some o ≡ true → (p : Party) × IsNode journal name p
  by_place d e c None at some = absurd cc
  by_place d e c (Some place) at some = (
    record { name = name; place = place; address = d.address },
    record { d = d; found = e; its_name = name_found (names_of journal) name d e; its_address = refl; placed = at; is = refl; called_so = c; address_is = address_found (names_of journal) name d addresses e },
  )

  by_found : (o : Option Named) → find (is_named name) (names_of journal) ≡ o → is_some o ≡ true → (p : Party) × IsNode journal name p
  by_found None e some = absurd cc
  by_found (Some d) e some =
      let c : called (names_of journal) d.address ≡ name = declared_called (names_of journal) name d d.address e refl ∙ called_so (names_of journal) name j.apart declared in
      by_place d e c (cell_of (world_new journal) d.address) refl (called_homed (world_new journal) (names_of journal) d.address (named journal j) (fresh_homed journal (named journal j)) (ap (is_declared (names_of journal)) c ∙ declared))

-- ---- two nodes

abbrev two : Party → Party → Side → Party
two l g Lesser = l
two l g Greater = g

pair_of : (journal : List Line) (m n : List ℕ) (l g : Party) → IsNode journal m l → IsNode journal n g → is_greater l.address g.address ≡ false → is_greater g.address l.address ≡ true → IsPairOf journal (two l g)
pair_of journal m n l g a b less more = record { named = is_named_so; placed = is_placed; order = in_order } where
  is_named_so : (x : Side) → (d : Named) × (find (is_named (two l g x).name) (names_of journal) ≡ Some d) × (d.name ≡ (two l g x).name) × (d.address ≡ (two l g x).address)
  is_named_so Lesser = (a.d, a.found, a.its_name, a.its_address)
  is_named_so Greater = (b.d, b.found, b.its_name, b.its_address)

  is_placed : (x : Side) → cell_of (world_new journal) (two l g x).address ≡ Some (two l g x).place
  is_placed Lesser = a.placed
  is_placed Greater = b.placed

  in_order : (x : Side) → is_greater (two l g x).address (two l g (other x)).address ≡ pair.is_greater x
  in_order Lesser = less
  in_order Greater = more

pub pairs_of : (journal : List Line) → IsJournal journal → AreAddresses (names_of journal) → (a b : List ℕ) → is_declared (names_of journal) a ≡ true → is_declared (names_of journal) b ≡ true → bytes_eq a b ≡ false → IsPairFor journal a b
pairs_of journal j addresses a b first second apart = by_nodes (node_for journal j addresses a first) (node_for journal j addresses b second) where
  by_order : (p q : Party) → IsNode journal a p → IsNode journal b q → (p.address ≡ q.address → ⊥) → (t : Bool) → is_greater p.address q.address ≡ t → IsPairFor journal a b
  by_order p q m n differ true h = record { party = two q p; pair = pair_of journal b a q p n m (one_greater p.address q.address h) h; side = Greater; first = m.is; second = n.is }
  by_order p q m n differ false h = record { party = two p q; pair = pair_of journal a b p q m n h (other_greater p.address q.address m.address_is n.address_is differ h); side = Lesser; first = m.is; second = n.is }

  by_nodes : (p : Party) × IsNode journal a p → (q : Party) × IsNode journal b q → IsPairFor journal a b
  by_nodes p q = by_order p.0 q.0 p.1 q.1 differ (is_greater p.0.address q.0.address) refl where
    differ : p.0.address ≡ q.0.address → ⊥
    differ e = let same : bytes_eq a b ≡ true = (bytes_eq-Decides a b).1 (sym p.1.called_so ∙ ap (called (names_of journal)) e ∙ q.1.called_so) in absurd cc
