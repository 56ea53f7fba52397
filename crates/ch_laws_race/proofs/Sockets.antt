-- The world's sockets by name, by number and by place.
use Rattle.std.specs.Prelude.{◌≡◌, ◌≢◌, ℕ, zero, suc, Bool, true, false, cond, ◌&&◌, ◌==◌, nat_eq, List, [], ◌∷◌, find, is_some, slice_get, slice_set, Option, Some, None}
use Rattle.std.specs.Str.{bytes_eq}
use Rattle.std.proofs.Common.{refl, ap, sym, ◌∙◌, subst, arith}
use Rattle.std.proofs.lemmas.Bool.Decides.{nat_tests}
use Rattle.std.proofs.lemmas.Option.{slice_get_within}
use Rattle.ch_light.proofs.Lists.{set_here, set_other}
use Rattle.ch_model.specs.declared.name.End.{End}
use Rattle.ch_model.specs.declared.name.End.TheVariants.{O, T}
use Rattle.ch_model.specs.declared.name.SockName.{SockName}
use Rattle.ch_model.specs.Same.{same_socket}
use Rattle.ch_model.specs.WorldState.{WorldEnd, WorldSocket, World}
use Rattle.ch_model.specs.WorldSockets.{end_of, with_end, is_socket_named, store_in, with_socket, with_end_of, same_number, is_end_of, end_at, find_end}
use Rattle.ch_laws_race.specs.View.{has_end, place_of}
use Rattle.ch_laws_race.specs.Sound.{AreApart}
use Rattle.ch_laws_race.proofs.Keys.{equal_bytes, equal_numbers}

pub by_test : {P : Type 0} (b : Bool) → (b ≡ true → P) → (b ≡ false → P) → P
by_test true f g = f refl
by_test false f g = g refl

pub same_place : (i j : ℕ) → nat_eq j i ≡ true → i ≡ j
same_place i j h = grind (arith, nat_tests)

pub other_place : (i j : ℕ) → nat_eq j i ≡ false → j ≢ i
other_place i j h = λ e. clash i j h e where
  clash : (i j : ℕ) → nat_eq j i ≡ false → j ≡ i → ⊥
  clash i j h e = grind (arith, nat_tests)

pub given : {X : Type 0} (x y : X) → ◌≡◌ {A = Option X} (Some x) (Some y) → x ≡ y
given {X = X} x y h = ap {A = Option X} {B = X} (λ o. elim o [ Some z ↦ z | None ↦ x ]) h

pub none : {X A : Type 0} (x : X) → ◌≡◌ {A = Option X} None (Some x) → A
none {X = X} x h = absurd (clash h) where
  clash : ◌≡◌ {A = Option X} None (Some x) → ⊥
  clash h = cc

no_place : {A : Type 0} (k : ℕ) → zero ≡ suc k → A
no_place k h = absurd (clash h) where
  clash : zero ≡ suc k → ⊥
  clash h = omega arith

pub name_self : (name : SockName) → same_socket name name ≡ true
name_self name = ap (λ b. (b && bytes_eq name.to name.to) && (name.number == name.number)) (equal_bytes name.from) ∙ ap (λ b. b && (name.number == name.number)) (equal_bytes name.to) ∙ equal_numbers name.number

-- ---- sockets that go by the same keys

pub record Alike (s t : WorldSocket) : Type 0 where
  pub name : t.name ≡ s.name
  pub o_cell : t.o.cell ≡ s.o.cell
  pub o_number : t.o.number ≡ s.o.number
  pub t_cell : t.t.cell ≡ s.t.cell
  pub t_number : t.t.number ≡ s.t.number

pub alike_self : (s : WorldSocket) → Alike s s
alike_self s = record { name = refl; o_cell = refl; o_number = refl; t_cell = refl; t_number = refl }

-- an end is changed, and keeps its keys
pub alike_with : (e : End) (s t : WorldSocket) (end : WorldEnd) → Alike s t → end.cell ≡ (end_of e t).cell → end.number ≡ (end_of e t).number → Alike s (with_end e end t)
alike_with O s t end a c n = record { name = a.name; o_cell = c ∙ a.o_cell; o_number = n ∙ a.o_number; t_cell = a.t_cell; t_number = a.t_number }
alike_with T s t end a c n = record { name = a.name; o_cell = a.o_cell; o_number = a.o_number; t_cell = c ∙ a.t_cell; t_number = n ∙ a.t_number }

pub end_alike : (s t : WorldSocket) (cell number : ℕ) (e : End) → Alike s t → is_end_of cell number (end_of e t) ≡ is_end_of cell number (end_of e s)
end_alike s t cell number O a = ap (λ (z : Option ℕ). same_number z cell && same_number t.o.number number) a.o_cell ∙ ap (λ (z : Option ℕ). same_number s.o.cell cell && same_number z number) a.o_number
end_alike s t cell number T a = ap (λ (z : Option ℕ). same_number z cell && same_number t.t.number number) a.t_cell ∙ ap (λ (z : Option ℕ). same_number s.t.cell cell && same_number z number) a.t_number

abbrev ends_at : Bool → Bool → Option End
ends_at o t = cond o (Some O) (cond t (Some T) None)

pub at_alike : (s t : WorldSocket) (cell number : ℕ) → Alike s t → end_at cell number t ≡ end_at cell number s
at_alike s t cell number a = ap (λ b. ends_at b (is_end_of cell number t.t)) (end_alike s t cell number O a) ∙ ap (λ b. ends_at (is_end_of cell number s.o) b) (end_alike s t cell number T a)

-- ---- one socket of the list is changed

-- what is found in its place
pub record Was (xs : List WorldSocket) (j : ℕ) (u : WorldSocket) : Type 0 where
  pub before : WorldSocket
  pub at : slice_get xs j ≡ Some before
  pub alike : Alike before u

pub was_there : (xs : List WorldSocket) (i : ℕ) (s t : WorldSocket) → slice_get xs i ≡ Some s → Alike s t → (j : ℕ) (u : WorldSocket) → slice_get (slice_set xs i t) j ≡ Some u → Was xs j u
was_there xs i s t at a j u is = by_test (nat_eq j i)
    (λ h. let e = same_place i j h in record {
      before = s;
      at = ap (slice_get xs) (sym e) ∙ at;
      alike = subst (Alike s) (given t u (sym (ap (slice_get (slice_set xs i t)) (sym e) ∙ set_here xs i t (slice_get_within xs i s at)) ∙ is)) a;
    })
    (λ h. record { before = u; at = sym (set_other xs i t j (other_place i j h)) ∙ is; alike = alike_self u })

pub set_apart : (xs : List WorldSocket) (i : ℕ) (s t : WorldSocket) → AreApart xs → slice_get xs i ≡ Some s → Alike s t → AreApart (slice_set xs i t)
set_apart xs i s t apart at a = record {
  named = λ j k u v p q same. let w = was_there xs i s t at a j u p in let z = was_there xs i s t at a k v q in
      apart.named j k w.before z.before w.at z.at (ap (λ n. same_socket n z.before.name) (sym w.alike.name) ∙ ap (λ n. same_socket u.name n) (sym z.alike.name) ∙ same);
  numbered = λ j k u v e f cell number p q m n. let w = was_there xs i s t at a j u p in let z = was_there xs i s t at a k v q in
      apart.numbered j k w.before z.before e f cell number w.at z.at (sym (end_alike w.before u cell number e w.alike) ∙ m) (sym (end_alike z.before v cell number f z.alike) ∙ n);
}

-- ---- by name

not_first : (k : ℕ) → nat_eq 0 (suc k) ≡ false
not_first k = grind (arith, nat_tests)

-- what is apart is so without its first
pub rest_apart : (known : WorldSocket) (rest : List WorldSocket) → AreApart (known ∷ rest) → AreApart rest
rest_apart known rest apart = record {
  named = λ i j s t p q same. less i j (apart.named (suc i) (suc j) s t p q same);
  numbered = λ i j s t e f cell number p q m n. let both = apart.numbered (suc i) (suc j) s t e f cell number p q m n in (less i j both.0, both.1);
} where
  less : (i j : ℕ) → suc i ≡ suc j → i ≡ j
  less i j h = omega arith

-- the first is no other's namesake
first_other : (known : WorldSocket) (rest : List WorldSocket) (k : ℕ) (s : WorldSocket) → AreApart (known ∷ rest) → slice_get rest k ≡ Some s → same_socket known.name s.name ≡ false
first_other known rest k s apart at = by_test (same_socket known.name s.name) (λ h. no_place k (apart.named 0 (suc k) known s refl at h)) (λ h. h)

pub name_found : (xs : List WorldSocket) (i : ℕ) (s : WorldSocket) → AreApart xs → slice_get xs i ≡ Some s → find (is_socket_named s.name) xs ≡ Some s
name_found [] i s apart at = none s at
name_found (known ∷ rest) zero s apart at = ap (λ b. cond b (Some known) (find (is_socket_named s.name) rest)) (ap (λ (z : WorldSocket). same_socket z.name s.name) (given known s at) ∙ name_self s.name) ∙ at
name_found (known ∷ rest) (suc k) s apart at = ap (λ b. cond b (Some known) (find (is_socket_named s.name) rest)) (first_other known rest k s apart at) ∙ name_found rest k s (rest_apart known rest apart) at

pub name_stored : (xs : List WorldSocket) (i : ℕ) (s t : WorldSocket) → AreApart xs → slice_get xs i ≡ Some s → t.name ≡ s.name → store_in t xs ≡ slice_set xs i t
name_stored [] i s t apart at same = none s at
name_stored (known ∷ rest) zero s t apart at same = ap (λ b. cond b (t ∷ rest) (known ∷ store_in t rest)) (ap (λ (z : WorldSocket). same_socket z.name t.name) (given known s at) ∙ ap (same_socket s.name) same ∙ name_self s.name)
name_stored (known ∷ rest) (suc k) s t apart at same = ap (λ b. cond b (t ∷ rest) (known ∷ store_in t rest)) (ap (same_socket known.name) same ∙ first_other known rest k s apart at)
    ∙ ap (λ (z : List WorldSocket). known ∷ z) (name_stored rest k s t (rest_apart known rest apart) at same)

with_name : (e : End) (end : WorldEnd) (s : WorldSocket) → (with_end e end s).name ≡ s.name
with_name O end s = refl
with_name T end s = refl

-- an end of the i-th socket is changed
pub end_changed : (w : World) (i : ℕ) (s : WorldSocket) (e : End) (f : WorldEnd → WorldEnd) → AreApart w.sockets → slice_get w.sockets i ≡ Some s
    → with_end_of s.name e f w ≡ record w { sockets = slice_set w.sockets i (with_end e (f (end_of e s)) s) }
end_changed w i s e f apart at = ap (λ (o : Option WorldSocket). elim o [ None ↦ w | Some socket ↦ with_socket (with_end e (f (end_of e socket)) socket) w ]) (name_found w.sockets i s apart at)
    ∙ ap (λ (z : List WorldSocket). record w { sockets = z }) (name_stored w.sockets i s (with_end e (f (end_of e s)) s) apart at (with_name e (f (end_of e s)) s))

-- ---- by number

pub ends_differ : {A : Type 0} → O ≡ T → A
ends_differ h = absurd (clash h) where
  clash : O ≡ T → ⊥
  clash h = cc

-- the end of a socket that is alone under its number
pub at_end : (xs : List WorldSocket) (i : ℕ) (s : WorldSocket) (e : End) (cell number : ℕ) → AreApart xs → slice_get xs i ≡ Some s → is_end_of cell number (end_of e s) ≡ true → end_at cell number s ≡ Some e
at_end xs i s O cell number apart at own = ap (λ b. ends_at b (is_end_of cell number s.t)) own
at_end xs i s T cell number apart at own = ap (λ b. ends_at b (is_end_of cell number s.t)) (by_test (is_end_of cell number s.o) (λ h. ends_differ (apart.numbered i i s s O T cell number at at h own).1) (λ h. h))
    ∙ ap (λ b. ends_at false b) own

-- no other socket has it
pub no_other_end : (xs : List WorldSocket) (i j : ℕ) (s t : WorldSocket) (e f : End) (cell number : ℕ) → AreApart xs → slice_get xs i ≡ Some s → slice_get xs j ≡ Some t → is_end_of cell number (end_of e s) ≡ true
    → nat_eq j i ≡ false → is_end_of cell number (end_of f t) ≡ false
no_other_end xs i j s t e f cell number apart at other own off =
    by_test (is_end_of cell number (end_of f t)) (λ h. absurd (other_place i j off (sym (apart.numbered i j s t e f cell number at other own h).0))) (λ h. h)

no_end_at : (xs : List WorldSocket) (i j : ℕ) (s t : WorldSocket) (e : End) (cell number : ℕ) → AreApart xs → slice_get xs i ≡ Some s → slice_get xs j ≡ Some t → is_end_of cell number (end_of e s) ≡ true
    → nat_eq j i ≡ false → end_at cell number t ≡ None
no_end_at xs i j s t e cell number apart at other own off = ap (λ b. ends_at b (is_end_of cell number t.t)) (no_other_end xs i j s t e O cell number apart at other own off)
    ∙ ap (λ b. ends_at false b) (no_other_end xs i j s t e T cell number apart at other own off)

pub end_found : (xs : List WorldSocket) (i : ℕ) (s : WorldSocket) (e : End) (cell number : ℕ) → AreApart xs → slice_get xs i ≡ Some s → is_end_of cell number (end_of e s) ≡ true → find_end cell number xs ≡ Some (s.name, e)
end_found [] i s e cell number apart at own = none s at
end_found (known ∷ rest) zero s e cell number apart at own =
    ap (λ (o : Option End). elim o [ Some end ↦ Some (known.name, end) | None ↦ find_end cell number rest ]) (ap (end_at cell number) (given known s at) ∙ at_end (known ∷ rest) 0 s e cell number apart at own)
    ∙ ap (λ (z : WorldSocket). Some (z.name, e)) (given known s at)
end_found (known ∷ rest) (suc k) s e cell number apart at own =
    ap (λ (o : Option End). elim o [ Some end ↦ Some (known.name, end) | None ↦ find_end cell number rest ]) (no_end_at (known ∷ rest) (suc k) 0 s known e cell number apart at refl own (not_first k))
    ∙ end_found rest k s e cell number (rest_apart known rest apart) at own

pub place_found : (xs : List WorldSocket) (i : ℕ) (s : WorldSocket) (e : End) (cell number : ℕ) → AreApart xs → slice_get xs i ≡ Some s → is_end_of cell number (end_of e s) ≡ true → place_of cell xs number ≡ i
place_found [] i s e cell number apart at own = none s at
place_found (known ∷ rest) zero s e cell number apart at own =
    ap (λ (o : Option End). cond (is_some o) 0 (suc (place_of cell rest number))) (ap (end_at cell number) (given known s at) ∙ at_end (known ∷ rest) 0 s e cell number apart at own)
place_found (known ∷ rest) (suc k) s e cell number apart at own =
    ap (λ (o : Option End). cond (is_some o) 0 (suc (place_of cell rest number))) (no_end_at (known ∷ rest) (suc k) 0 s known e cell number apart at refl own (not_first k))
    ∙ ap suc (place_found rest k s e cell number (rest_apart known rest apart) at own)

-- the places are as before where one socket is changed
pub places_stay : (xs : List WorldSocket) (i : ℕ) (s t : WorldSocket) (cell number : ℕ) → slice_get xs i ≡ Some s → Alike s t → place_of cell (slice_set xs i t) number ≡ place_of cell xs number
places_stay [] i s t cell number at a = none s at
places_stay (known ∷ rest) zero s t cell number at a = ap (λ (o : Option End). cond (is_some o) 0 (suc (place_of cell rest number))) (at_alike s t cell number a ∙ ap (end_at cell number) (sym (given known s at)))
places_stay (known ∷ rest) (suc k) s t cell number at a = ap (λ (n : ℕ). cond (has_end cell number known) 0 (suc n)) (places_stay rest k s t cell number at a)

-- ---- changes of one place

pub set_set : {X : Type 0} (xs : List X) (i : ℕ) (x y : X) → slice_set (slice_set xs i x) i y ≡ slice_set xs i y
set_set [] i x y = refl
set_set (z ∷ xs) zero x y = refl
set_set (z ∷ xs) (suc i) x y = ap (λ rest. z ∷ rest) (set_set xs i x y)

pub set_same : {X : Type 0} (xs : List X) (i : ℕ) (x : X) → slice_get xs i ≡ Some x → slice_set xs i x ≡ xs
set_same [] i x at = refl
set_same (z ∷ xs) zero x at = ap (λ y. y ∷ xs) (sym (given z x at))
set_same (z ∷ xs) (suc i) x at = ap (λ rest. z ∷ rest) (set_same xs i x at)
