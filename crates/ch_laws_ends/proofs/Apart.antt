-- No two sockets have one name, and no two ends are of one cell under one number.
use Rattle.std.proofs.Common.{◌≡◌, ℕ, zero, suc, cond, List, [], ◌∷◌, refl, sym, ap, ◌∙◌, subst}
use Rattle.std.specs.Prelude.{find, slice_get, Option, Some, None}
use Rattle.ch_model.specs.declared.name.End.{End}
use Rattle.ch_model.specs.declared.name.End.TheVariants.{O}
use Rattle.ch_model.specs.declared.name.SockName.{SockName}
use Rattle.ch_model.specs.WorldSockets.{is_socket_named}
use Rattle.ch_model.specs.WorldState.{WorldSocket}
use Rattle.ch_laws_log.proofs.Stored.{same_is, self_same, found_before, Distinct}
use Rattle.ch_laws_ends.specs.Agree.{AreApart}
use Rattle.ch_laws_ends.proofs.Found.{EachFound}
use Rattle.ch_laws_ends.proofs.Places.{some_is}

-- each socket is found by its name
pub found_there : (sockets : List WorldSocket) (i : ℕ) (s : WorldSocket) → Distinct sockets → slice_get sockets i ≡ Some s → find (is_socket_named s.name) sockets ≡ Some s
found_there [] i s d e = absurd cc
found_there (known ∷ rest) zero s d e = let is : known ≡ s = some_is known s e in subst (λ (w : WorldSocket). find (is_socket_named w.name) (known ∷ rest) ≡ Some w) is (ap (λ b. cond b (Some known) (find (is_socket_named known.name) rest)) (self_same known.name))
found_there (known ∷ rest) (suc i) s d e = found_before s.name known rest s d (found_there rest i s d.1 e)

-- no other socket has the first one's name
not_first : (known : WorldSocket) (rest : List WorldSocket) (j : ℕ) (t : WorldSocket) → Distinct (known ∷ rest) → slice_get rest j ≡ Some t → known.name ≡ t.name → ⊥
not_first known rest j t d e name =
    let none : find (is_socket_named t.name) rest ≡ None = subst (λ (s : SockName). find (is_socket_named s) rest ≡ None) name d.0 in
    let some = found_there rest j t d.1 e in absurd cc

one_name : (sockets : List WorldSocket) (i j : ℕ) (s t : WorldSocket) → Distinct sockets → slice_get sockets i ≡ Some s → slice_get sockets j ≡ Some t → s.name ≡ t.name → i ≡ j
one_name [] i j s t d e f name = absurd cc
one_name (known ∷ rest) zero zero s t d e f name = refl
one_name (known ∷ rest) zero (suc j) s t d e f name = absurd (not_first known rest j t d f (ap (λ (w : WorldSocket). w.name) (some_is known s e) ∙ name))
one_name (known ∷ rest) (suc i) zero s t d e f name = absurd (not_first known rest i s d e (ap (λ (w : WorldSocket). w.name) (some_is known t f) ∙ sym name))
one_name (known ∷ rest) (suc i) (suc j) s t d e f name = ap suc (one_name rest i j s t d.1 e f name)

pub all_apart : (sockets : List WorldSocket) → Distinct sockets → EachFound sockets → AreApart sockets
all_apart sockets d each = record {
  named = λ i j s t e f name. one_name sockets i j s t d e f (same_is s.name t.name name);
  numbered = λ i j s t a b cell number e f of to. both i j s t a b e f (sym (each s.name s a cell number (found_there sockets i s d e) of) ∙ each t.name t b cell number (found_there sockets j t d f) to);
} where
  name_in : Option (SockName × End) → SockName → SockName
  name_in None other = other
  name_in (Some at) other = at.0

  end_in : Option (SockName × End) → End
  end_in None = O
  end_in (Some at) = at.1

  both : (i j : ℕ) (s t : WorldSocket) (a b : End) → slice_get sockets i ≡ Some s → slice_get sockets j ≡ Some t → ◌≡◌ {A = Option (SockName × End)} (Some (s.name, a)) (Some (t.name, b)) → (i ≡ j) × (a ≡ b)
  both i j s t a b e f is = (one_name sockets i j s t d e f (ap (λ o. name_in o s.name) is), ap end_in is)
