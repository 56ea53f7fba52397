-- Which end a cell has under a number, as sockets change.
use Rattle.std.proofs.Common.{◌≡◌, ℕ, Bool, true, false, cond, ◌&&◌, List, [], ◌∷◌, inl, inr, refl, sym, ap, ◌∙◌, subst}
use Rattle.std.proofs.lemmas.Bool.{and_parts, eqb-true}
use Rattle.std.specs.Prelude.{◌⊎◌, find, Option, Some, None, ◌==◌, is_some}
use Rattle.ch_model.specs.declared.name.End.{End}
use Rattle.ch_model.specs.declared.name.End.TheVariants.{O, T}
use Rattle.ch_model.specs.declared.name.SockName.{SockName}
use Rattle.ch_model.specs.Same.{same_socket, same_end}
use Rattle.ch_model.specs.Stages.{is_pending, is_ended}
use Rattle.ch_model.specs.WorldSockets.{end_of, with_end, is_socket_named, store_in, with_end_of, same_number, is_end_of, end_at, find_end}
use Rattle.ch_model.specs.WorldState.{WorldEnd, WorldSocket, World}
use Rattle.ch_laws_log.proofs.Agreeing.{with_end_is, name_of_end}
use Rattle.ch_laws_log.proofs.Stored.{same_is, self_same, find_name, find_stored, found_end, Distinct}
use Rattle.ch_laws_log.proofs.WorldEnds.{found_is}
use Rattle.ch_laws_links.proofs.Keys.{number_self}

-- what is found after an end of a socket, or in the rest
abbrev pub or_end : SockName → Option (SockName × End) → Option End → Option (SockName × End)
or_end name rest end = elim end [
  | Some end ↦ Some (name, end)
  | None ↦ rest
]

-- the same ends are found where a socket is kept in place of one with the same cells and numbers
pub same_found : (place n : ℕ) (new old : WorldSocket) (sockets : List WorldSocket) → find (is_socket_named new.name) sockets ≡ Some old → end_at place n new ≡ end_at place n old → find_end place n (store_in new sockets) ≡ find_end place n sockets
same_found place n new old [] e h = absurd cc
same_found place n new old (known ∷ rest) e h = by_test (same_socket known.name new.name) refl (same_found place n new old rest) e where
  by_test : (b : Bool) → same_socket known.name new.name ≡ b → (find (is_socket_named new.name) rest ≡ Some old → end_at place n new ≡ end_at place n old → find_end place n (store_in new rest) ≡ find_end place n rest) → cond b (Some known) (find (is_socket_named new.name) rest) ≡ Some old
      → find_end place n (cond b (new ∷ rest) (known ∷ store_in new rest)) ≡ find_end place n (known ∷ rest)
  by_test true name more e = let is : known ≡ old = cc in
      ap (or_end new.name (find_end place n rest)) (h ∙ ap (λ (w : WorldSocket). end_at place n w) (sym is)) ∙ ap (λ (s : SockName). or_end s (find_end place n rest) (end_at place n known)) (sym (same_is known.name new.name name))
  by_test false name more e = ap (λ (o : Option (SockName × End)). or_end known.name o (end_at place n known)) (more e h)

-- a socket in whose place another is kept has no end under the number that the other hasn't
abbrev pub IsLess : ℕ → ℕ → WorldSocket → List WorldSocket → Type 0
IsLess place n new sockets = end_at place n new ≡ None → (old : WorldSocket) → find (is_socket_named new.name) sockets ≡ Some old → end_at place n old ≡ None

-- an end of the socket that is kept
abbrev pub IsOfNew : ℕ → ℕ → WorldSocket → SockName × End → Type 0
IsOfNew place n new at = (end : End) × (end_at place n new ≡ Some end) × (at ≡ (new.name, end))

some_at : (name : SockName) (end : End) (at : SockName × End) → ◌≡◌ {A = Option (SockName × End)} (Some (name, end)) (Some at) → at ≡ (name, end)
some_at name end at e = cc

-- an end that is found where a socket was kept was found before, or is of that socket
pub stored_found : (place n : ℕ) (new : WorldSocket) (sockets : List WorldSocket) (at : SockName × End) → IsLess place n new sockets → find_end place n (store_in new sockets) ≡ Some at → (find_end place n sockets ≡ Some at) ⊎ IsOfNew place n new at
stored_found place n new [] at less e = by_end (end_at place n new) refl e where
  by_end : (o : Option End) → end_at place n new ≡ o → or_end new.name None o ≡ Some at → (◌≡◌ {A = Option (SockName × End)} None (Some at)) ⊎ IsOfNew place n new at
  by_end None h e = inl e
  by_end (Some end) h e = inr (end, h, some_at new.name end at e)
stored_found place n new (known ∷ rest) at less e = by_test (same_socket known.name new.name) refl less (stored_found place n new rest at) e where
  by_new : (end_at place n new ≡ None → end_at place n known ≡ None) → (o : Option End) → end_at place n new ≡ o → or_end new.name (find_end place n rest) o ≡ Some at → (find_end place n (known ∷ rest) ≡ Some at) ⊎ IsOfNew place n new at
  by_new none None h e = inl (ap (or_end known.name (find_end place n rest)) (none h) ∙ e)
  by_new none (Some end) h e = inr (end, h, some_at new.name end at e)

  by_known : (o : Option End) → ((find_end place n (store_in new rest) ≡ Some at) → (find_end place n rest ≡ Some at) ⊎ IsOfNew place n new at) → or_end known.name (find_end place n (store_in new rest)) o ≡ Some at → (or_end known.name (find_end place n rest) o ≡ Some at) ⊎ IsOfNew place n new at
  by_known None more e = more e
  by_known (Some end) more e = inl e

  by_test : (b : Bool) → same_socket known.name new.name ≡ b → (end_at place n new ≡ None → (old : WorldSocket) → cond b (Some known) (find (is_socket_named new.name) rest) ≡ Some old → end_at place n old ≡ None)
      → (IsLess place n new rest → find_end place n (store_in new rest) ≡ Some at → (find_end place n rest ≡ Some at) ⊎ IsOfNew place n new at)
      → find_end place n (cond b (new ∷ rest) (known ∷ store_in new rest)) ≡ Some at → (find_end place n (known ∷ rest) ≡ Some at) ⊎ IsOfNew place n new at
  by_test true name less more e = by_new (λ h. less h known refl) (end_at place n new) refl e
  by_test false name less more e = by_known (end_at place n known) (more less) e

-- ---- one end, one number

same_numbers : (o : Option ℕ) (a b : ℕ) → same_number o a ≡ true → same_number o b ≡ true → a ≡ b
same_numbers None a b p q = absurd cc
same_numbers (Some m) a b p q = sym (eqb-true m a p) ∙ eqb-true m b q

-- an end is of one cell, under one number
pub one_place : (p q n m : ℕ) (sockets : List WorldSocket) (at : SockName × End) → Distinct sockets → find_end p n sockets ≡ Some at → find_end q m sockets ≡ Some at → (p ≡ q) × (n ≡ m)
one_place p q n m sockets at d a b =
    let held = found_end p n sockets at a in
    let one = and_parts (same_number (end_of at.1 held.socket).cell p) (same_number (end_of at.1 held.socket).number n) (found_is p n sockets at held.socket d a held.is) in
    let two = and_parts (same_number (end_of at.1 held.socket).cell q) (same_number (end_of at.1 held.socket).number m) (found_is q m sockets at held.socket d b held.is) in
    (same_numbers (end_of at.1 held.socket).cell p q one.0 two.0, same_numbers (end_of at.1 held.socket).number n m one.1 two.1)

-- these are one end
abbrev pub is_one : SockName × End → SockName × End → Bool
is_one at other = same_socket at.0 other.0 && same_end at.1 other.1

end_is : (e f : End) → same_end e f ≡ true → e ≡ f
end_is O O h = refl
end_is T T h = refl
end_is O T h = absurd cc
end_is T O h = absurd cc

pub one_is : (at other : SockName × End) → is_one at other ≡ true → at ≡ other
one_is at other h = let parts = and_parts (same_socket at.0 other.0) (same_end at.1 other.1) h in ap (λ (s : SockName). (s, at.1)) (same_is at.0 other.0 parts.0) ∙ ap (λ (e : End). (other.0, e)) (end_is at.1 other.1 parts.1)

pub one_self : (at : SockName × End) → is_one at at ≡ true
one_self at = ap (λ b. b && same_end at.1 at.1) (self_same at.0) ∙ by_end at.1 where
  by_end : (e : End) → same_end e e ≡ true
  by_end O = refl
  by_end T = refl

-- the end that was found is this one, of this cell and number, or it is neither
pub which : (place sock p n : ℕ) (sockets : List WorldSocket) (at other : SockName × End) → Distinct sockets → find_end place sock sockets ≡ Some at → find_end p n sockets ≡ Some other
    → (((place == p) && (sock == n)) ≡ true × (at ≡ other)) ⊎ ((((place == p) && (sock == n)) ≡ false) × (is_one at other ≡ false))
which place sock p n sockets at other d a b = by_both ((place == p) && (sock == n)) refl where
  found_same : ((place == p) && (sock == n)) ≡ true → at ≡ other
  found_same h = let parts = and_parts (place == p) (sock == n) h in
      let there : find_end place sock sockets ≡ Some other = ap (λ (k : ℕ). find_end k sock sockets) (eqb-true place p parts.0) ∙ ap (λ (k : ℕ). find_end p k sockets) (eqb-true sock n parts.1) ∙ b in
      some_is (sym a ∙ there) where
        some_is : ◌≡◌ {A = Option (SockName × End)} (Some at) (Some other) → at ≡ other
        some_is e = cc

  by_one : ((place == p) && (sock == n)) ≡ false → (b : Bool) → is_one at other ≡ b → b ≡ false
  by_one off true h = let same = one_place place p sock n sockets other d (a ∙ ap Some (one_is at other h)) b in
      absurd (clash ((place == p) && (sock == n)) (ap (λ (k : ℕ). (place == k) && (sock == n)) (sym same.0) ∙ ap (λ (k : ℕ). (place == place) && (sock == k)) (sym same.1) ∙ ap (λ b. b && (sock == sock)) (number_self place) ∙ number_self sock) off) where
        clash : (b : Bool) → b ≡ true → b ≡ false → ⊥
        clash b t f = absurd cc
  by_one off false h = refl

  by_both : (b : Bool) → ((place == p) && (sock == n)) ≡ b → (((place == p) && (sock == n)) ≡ true × (at ≡ other)) ⊎ ((((place == p) && (sock == n)) ≡ false) × (is_one at other ≡ false))
  by_both true h = inl (h, found_same h)
  by_both false h = inr (h, by_one h (is_one at other) refl)

-- ---- an end of a socket is changed, and stays of its cell, under its number

abbrev pub KeepsPlace : (WorldEnd → WorldEnd) → Type 0
KeepsPlace f = (end : WorldEnd) → ((f end).cell ≡ end.cell) × ((f end).number ≡ end.number) × (is_pending (f end).stage ≡ true → is_pending end.stage ≡ true)

pub pending_kept : (e : End) (f : WorldEnd → WorldEnd) (old : WorldSocket) → KeepsPlace f → is_pending (with_end e (f (end_of e old)) old).t.stage ≡ true → is_pending old.t.stage ≡ true
pending_kept O f old k h = h
pending_kept T f old k h = (k old.t).2 h

pub ended_kept : (a e : End) (f : WorldEnd → WorldEnd) (old : WorldSocket) → (is_ended (end_of e old).stage ≡ true → is_ended (f (end_of e old)).stage ≡ true) → is_ended (end_of a old).stage ≡ true → is_ended (end_of a (with_end e (f (end_of e old)) old)).stage ≡ true
ended_kept O O f old o h = o h
ended_kept T T f old o h = o h
ended_kept O T f old o h = h
ended_kept T O f old o h = h

pub end_at_kept : (place n : ℕ) (e : End) (f : WorldEnd → WorldEnd) (old : WorldSocket) → KeepsPlace f → end_at place n (with_end e (f (end_of e old)) old) ≡ end_at place n old
end_at_kept place n e f old k = by_end e where
  kept : (end : WorldEnd) → is_end_of place n (f end) ≡ is_end_of place n end
  kept end = ap (λ (o : Option ℕ). same_number o place && same_number (f end).number n) (k end).0 ∙ ap (λ (o : Option ℕ). same_number end.cell place && same_number o n) (k end).1

  by_end : (e : End) → end_at place n (with_end e (f (end_of e old)) old) ≡ end_at place n old
  by_end O = ap (λ b. cond b (Some O) (cond (is_end_of place n old.t) (Some T) None)) (kept old.o)
  by_end T = ap (λ b. cond (is_end_of place n old.o) (Some O) (cond b (Some T) None)) (kept old.t)

pub number_kept : (a e : End) (f : WorldEnd → WorldEnd) (old : WorldSocket) → KeepsPlace f → (end_of a (with_end e (f (end_of e old)) old)).number ≡ (end_of a old).number
number_kept O O f old k = (k old.o).1
number_kept T T f old k = (k old.t).1
number_kept O T f old k = refl
number_kept T O f old k = refl

pub found_kept : (place n : ℕ) (name : SockName) (e : End) (f : WorldEnd → WorldEnd) (world : World) (old : WorldSocket) → find (is_socket_named name) world.sockets ≡ Some old → KeepsPlace f → find_end place n (with_end_of name e f world).sockets ≡ find_end place n world.sockets
found_kept place n name e f world old is k = ap (λ (w : World). find_end place n w.sockets) (with_end_is name e f world old is)
    ∙ same_found place n (with_end e (f (end_of e old)) old) old world.sockets (subst (λ (s : SockName). find (is_socket_named s) world.sockets ≡ Some old) (sym (name_of_end e (f (end_of e old)) old ∙ find_name name world.sockets old is)) is) (end_at_kept place n e f old k)

pub socket_kept : (name : SockName) (e : End) (f : WorldEnd → WorldEnd) (world : World) (old : WorldSocket) (s : SockName) → find (is_socket_named name) world.sockets ≡ Some old
    → find (is_socket_named s) (with_end_of name e f world).sockets ≡ cond (same_socket name s) (Some (with_end e (f (end_of e old)) old)) (find (is_socket_named s) world.sockets)
socket_kept name e f world old s is = ap (λ (w : World). find (is_socket_named s) w.sockets) (with_end_is name e f world old is) ∙ find_stored (with_end e (f (end_of e old)) old) world.sockets s
    ∙ ap (λ (m : SockName). cond (same_socket m s) (Some (with_end e (f (end_of e old)) old)) (find (is_socket_named s) world.sockets)) (name_of_end e (f (end_of e old)) old ∙ find_name name world.sockets old is)

-- ---- what is found stays found

-- an end is found under the number
abbrev pub IsKnown : ℕ → ℕ → List WorldSocket → Type 0
IsKnown place n sockets = is_some (find_end place n sockets) ≡ true

or_known : (name : SockName) (one two : Option (SockName × End)) (o : Option End) → (is_some one ≡ true → is_some two ≡ true) → is_some (or_end name one o) ≡ true → is_some (or_end name two o) ≡ true
or_known name one two None k h = k h
or_known name one two (Some end) k h = refl

end_known : (name : SockName) (rest : Option (SockName × End)) (o : Option End) → is_some o ≡ true → is_some (or_end name rest o) ≡ true
end_known name rest None h = absurd cc
end_known name rest (Some end) h = refl

-- where a socket is kept whose ends are found under the numbers of those of the one before
pub stored_known : (place n : ℕ) (new : WorldSocket) (sockets : List WorldSocket) → ((old : WorldSocket) → find (is_socket_named new.name) sockets ≡ Some old → is_some (end_at place n old) ≡ true → is_some (end_at place n new) ≡ true) → IsKnown place n sockets → IsKnown place n (store_in new sockets)
stored_known place n new [] keeps known = absurd cc
stored_known place n new (first ∷ rest) keeps known = by_test (same_socket first.name new.name) refl keeps (stored_known place n new rest) where
  by_end : (o p : Option End) → (is_some o ≡ true → is_some p ≡ true) → is_some (or_end first.name (find_end place n rest) o) ≡ true → is_some (or_end new.name (find_end place n rest) p) ≡ true
  by_end None None k h = h
  by_end None (Some end) k h = refl
  by_end (Some end) p k h = end_known new.name (find_end place n rest) p (k refl)

  by_test : (b : Bool) → same_socket first.name new.name ≡ b → ((old : WorldSocket) → cond b (Some first) (find (is_socket_named new.name) rest) ≡ Some old → is_some (end_at place n old) ≡ true → is_some (end_at place n new) ≡ true)
      → (((old : WorldSocket) → find (is_socket_named new.name) rest ≡ Some old → is_some (end_at place n old) ≡ true → is_some (end_at place n new) ≡ true) → IsKnown place n rest → IsKnown place n (store_in new rest)) → IsKnown place n (cond b (new ∷ rest) (first ∷ store_in new rest))
  by_test true h keeps more = by_end (end_at place n first) (end_at place n new) (keeps first refl) known
  by_test false h keeps more = or_known first.name (find_end place n rest) (find_end place n (store_in new rest)) (end_at place n first) (more keeps) known

-- an end of the socket that is kept is found
pub new_known : (place n : ℕ) (new : WorldSocket) (sockets : List WorldSocket) → is_some (end_at place n new) ≡ true → IsKnown place n (store_in new sockets)
new_known place n new [] h = end_known new.name None (end_at place n new) h
new_known place n new (first ∷ rest) h = by_test (same_socket first.name new.name) (new_known place n new rest h) where
  in_rest : (o : Option End) → IsKnown place n (store_in new rest) → is_some (or_end first.name (find_end place n (store_in new rest)) o) ≡ true
  in_rest None k = k
  in_rest (Some end) k = refl

  by_test : (b : Bool) → IsKnown place n (store_in new rest) → IsKnown place n (cond b (new ∷ rest) (first ∷ store_in new rest))
  by_test true k = end_known new.name (find_end place n rest) (end_at place n new) h
  by_test false k = in_rest (end_at place n first) k
