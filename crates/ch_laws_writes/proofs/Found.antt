-- Which ends of sockets a cell has under its numbers, where a socket is kept, opened, or has come.
use Rattle.std.proofs.Common.{◌≡◌, ℕ, Bool, true, false, cond, ◌&&◌, List, [], ◌∷◌, refl, sym, ap, ◌∙◌, subst}
use Rattle.std.proofs.lemmas.Bool.{and_parts}
use Rattle.std.specs.Prelude.{find, Option, Some, None, ◌==◌}
use Rattle.ch_model.specs.declared.name.End.{End}
use Rattle.ch_model.specs.declared.name.End.TheVariants.{O, T}
use Rattle.ch_model.specs.declared.name.SockName.{SockName}
use Rattle.ch_model.specs.Same.{same_socket, same_end}
use Rattle.ch_model.specs.WorldSockets.{end_of, with_end, is_socket_named, store_in, with_socket, with_end_of, same_number, is_end_of, end_at, find_end}
use Rattle.ch_model.specs.WorldState.{WorldEnd, WorldSocket, World}
use Rattle.ch_laws_log.proofs.Agreeing.{name_of_end}
use Rattle.ch_laws_log.proofs.Stored.{same_is, find_name, find_stored, found_end, Distinct, number_is, number_same}
use Rattle.ch_laws_log.proofs.WorldEnds.{found_is}
use Rattle.ch_model.specs.Stages.{is_pending}

-- what is found after an end of a socket, or in the rest
or_end : SockName → Option (SockName × End) → Option End → Option (SockName × End)
or_end name rest end = elim end [
  | Some end ↦ Some (name, end)
  | None ↦ rest
]

-- the same ends are found where a socket is kept in place of one with the same cells and numbers
pub same_found : (place n : ℕ) (new old : WorldSocket) (sockets : List WorldSocket) → find (is_socket_named new.name) sockets ≡ Some old → end_at place n new ≡ end_at place n old → find_end place n (store_in new sockets) ≡ find_end place n sockets
unfolding or_end
same_found place n new old [] e h = absurd cc
same_found place n new old (known ∷ rest) e h = by_test (same_socket known.name new.name) refl (same_found place n new old rest) e where
  by_test : (b : Bool) → same_socket known.name new.name ≡ b → (find (is_socket_named new.name) rest ≡ Some old → end_at place n new ≡ end_at place n old → find_end place n (store_in new rest) ≡ find_end place n rest) → cond b (Some known) (find (is_socket_named new.name) rest) ≡ Some old
      → find_end place n (cond b (new ∷ rest) (known ∷ store_in new rest)) ≡ find_end place n (known ∷ rest)
  by_test true name more e = let is : known ≡ old = cc in
      ap (or_end new.name (find_end place n rest)) (h ∙ ap (λ (w : WorldSocket). end_at place n w) (sym is)) ∙ ap (λ (s : SockName). or_end s (find_end place n rest) (end_at place n known)) (sym (same_is known.name new.name name))
  by_test false name more e = ap (λ (o : Option (SockName × End)). or_end known.name o (end_at place n known)) (more e h)

-- or the ends of a new one, after the others
abbrev pub or_new : WorldSocket → ℕ → ℕ → Option (SockName × End) → Option (SockName × End)
or_new new place n o = elim o [
  | Some at ↦ Some at
  | None ↦ elim (end_at place n new) [
    | Some end ↦ Some (new.name, end)
    | None ↦ None
  ]
]

pub new_found : (place n : ℕ) (new : WorldSocket) (sockets : List WorldSocket) → find (is_socket_named new.name) sockets ≡ None → find_end place n (store_in new sockets) ≡ or_new new place n (find_end place n sockets)
unfolding or_end
new_found place n new [] e = refl
new_found place n new (known ∷ rest) e = by_test (same_socket known.name new.name) refl (new_found place n new rest) e where
  by_end : (o : Option End) → find_end place n (store_in new rest) ≡ or_new new place n (find_end place n rest) → or_end known.name (find_end place n (store_in new rest)) o ≡ or_new new place n (or_end known.name (find_end place n rest) o)
  by_end None ih = ih
  by_end (Some end) ih = refl

  by_test : (b : Bool) → same_socket known.name new.name ≡ b → (find (is_socket_named new.name) rest ≡ None → find_end place n (store_in new rest) ≡ or_new new place n (find_end place n rest)) → cond b (Some known) (find (is_socket_named new.name) rest) ≡ None
      → find_end place n (cond b (new ∷ rest) (known ∷ store_in new rest)) ≡ or_new new place n (find_end place n (known ∷ rest))
  by_test true name more e = absurd cc
  by_test false name more e = by_end (end_at place n known) (more e)

-- where none is found, no socket has one
pub none_at : (place n : ℕ) (sockets : List WorldSocket) (s : SockName) (socket : WorldSocket) → find_end place n sockets ≡ None → find (is_socket_named s) sockets ≡ Some socket → end_at place n socket ≡ None
unfolding or_end
none_at place n [] s socket none e = absurd cc
none_at place n (known ∷ rest) s socket none e = by_end (end_at place n known) refl none (none_at place n rest s socket) where
  More : Type 0
  More = find_end place n rest ≡ None → find (is_socket_named s) rest ≡ Some socket → end_at place n socket ≡ None

  by_test : More → end_at place n known ≡ None → find_end place n rest ≡ None → (b : Bool) → cond b (Some known) (find (is_socket_named s) rest) ≡ Some socket → end_at place n socket ≡ None
  by_test ih here more true e = let is : known ≡ socket = cc in subst (λ (w : WorldSocket). end_at place n w ≡ None) is here
  by_test ih here more false e = ih more e

  by_end : (o : Option End) → end_at place n known ≡ o → or_end known.name (find_end place n rest) o ≡ None → More → end_at place n socket ≡ None
  by_end None h more ih = by_test ih h more (is_socket_named s known) e
  by_end (Some end) h more ih = absurd cc

-- the end that has come is found, where none was
pub come_found : (place n : ℕ) (new old : WorldSocket) (end : End) (sockets : List WorldSocket) → find (is_socket_named new.name) sockets ≡ Some old → find_end place n sockets ≡ None → end_at place n new ≡ Some end → find_end place n (store_in new sockets) ≡ Some (new.name, end)
unfolding or_end
come_found place n new old end [] e none at = absurd cc
come_found place n new old end (known ∷ rest) e none at = by_end (end_at place n known) refl none (λ f g. come_found place n new old end rest f g at) where
  More : Type 0
  More = find (is_socket_named new.name) rest ≡ Some old → find_end place n rest ≡ None → find_end place n (store_in new rest) ≡ Some (new.name, end)

  by_test : More → end_at place n known ≡ None → find_end place n rest ≡ None → (b : Bool) → cond b (Some known) (find (is_socket_named new.name) rest) ≡ Some old → find_end place n (cond b (new ∷ rest) (known ∷ store_in new rest)) ≡ Some (new.name, end)
  by_test ih here more true e = ap (or_end new.name (find_end place n rest)) at
  by_test ih here more false e = ap (or_end known.name (find_end place n (store_in new rest))) here ∙ ih e more

  by_end : (o : Option End) → end_at place n known ≡ o → or_end known.name (find_end place n rest) o ≡ None → More → find_end place n (store_in new (known ∷ rest)) ≡ Some (new.name, end)
  by_end None h more ih = by_test ih h more (is_socket_named new.name known) e
  by_end (Some x) h more ih = absurd cc

-- ---- an end that is changed

-- an end stays of its cell, under its number, and isn't made pending
pub record KeepsPlace (f : WorldEnd → WorldEnd) : Type 0 where
  pub cell : (end : WorldEnd) → (f end).cell ≡ end.cell
  pub number : (end : WorldEnd) → (f end).number ≡ end.number
  pub pending : (end : WorldEnd) → is_pending (f end).stage ≡ true → is_pending end.stage ≡ true

end_at_kept : (place n : ℕ) (e : End) (f : WorldEnd → WorldEnd) (old : WorldSocket) → KeepsPlace f → end_at place n (with_end e (f (end_of e old)) old) ≡ end_at place n old
end_at_kept place n e f old k = by_end e where
  kept : (end : WorldEnd) → is_end_of place n (f end) ≡ is_end_of place n end
  kept end = ap (λ (o : Option ℕ). same_number o place && same_number (f end).number n) (k.cell end) ∙ ap (λ (o : Option ℕ). same_number end.cell place && same_number o n) (k.number end)

  by_end : (e : End) → end_at place n (with_end e (f (end_of e old)) old) ≡ end_at place n old
  by_end O = ap (λ b. cond b (Some O) (cond (is_end_of place n old.t) (Some T) None)) (kept old.o)
  by_end T = ap (λ b. cond (is_end_of place n old.o) (Some O) (cond b (Some T) None)) (kept old.t)

-- the socket with the changed end, as it is stored
at_new : (s : SockName) (e : End) (end : WorldEnd) (old : WorldSocket) (sockets : List WorldSocket) → find (is_socket_named s) sockets ≡ Some old → find (is_socket_named (with_end e end old).name) sockets ≡ Some old
at_new s e end old sockets is = subst (λ (m : SockName). find (is_socket_named m) sockets ≡ Some old) (sym (name_of_end e end old ∙ find_name s sockets old is)) is

pub kept_ends : (s : SockName) (e : End) (f : WorldEnd → WorldEnd) (world : World) → KeepsPlace f → (p n : ℕ) → find_end p n (with_end_of s e f world).sockets ≡ find_end p n world.sockets
kept_ends s e f world k p n = by_socket (find (is_socket_named s) world.sockets) refl where
  by_socket : (o : Option WorldSocket) → find (is_socket_named s) world.sockets ≡ o → find_end p n (elim o as (λ o. World) [
    | None ↦ world
    | Some socket ↦ with_socket (with_end e (f (end_of e socket)) socket) world
  ]).sockets ≡ find_end p n world.sockets
  by_socket None is = refl
  by_socket (Some old) is = same_found p n (with_end e (f (end_of e old)) old) old world.sockets (at_new s e (f (end_of e old)) old world.sockets is) (end_at_kept p n e f old k)

-- the changed end is found at its socket, every other as before
found_changed : (s : SockName) (e : End) (end : WorldEnd) (old : WorldSocket) (sockets : List WorldSocket) (t : SockName) → find (is_socket_named s) sockets ≡ Some old → find (is_socket_named t) (store_in (with_end e end old) sockets) ≡ cond (same_socket s t) (Some (with_end e end old)) (find (is_socket_named t) sockets)
found_changed s e end old sockets t is = find_stored (with_end e end old) sockets t ∙ ap (λ (m : SockName). cond (same_socket m t) (Some (with_end e end old)) (find (is_socket_named t) sockets)) (name_of_end e end old ∙ find_name s sockets old is)

pub kept_absent : (s : SockName) (e : End) (f : WorldEnd → WorldEnd) (world : World) (t : SockName) → find (is_socket_named t) (with_end_of s e f world).sockets ≡ None → find (is_socket_named t) world.sockets ≡ None
kept_absent s e f world t none = by_socket (find (is_socket_named s) world.sockets) refl none where
  by_test : (new : WorldSocket) (b : Bool) → cond b (Some new) (find (is_socket_named t) world.sockets) ≡ None → find (is_socket_named t) world.sockets ≡ None
  by_test new true e = absurd cc
  by_test new false e = e

  by_socket : (o : Option WorldSocket) → find (is_socket_named s) world.sockets ≡ o → find (is_socket_named t) (elim o as (λ o. World) [
    | None ↦ world
    | Some socket ↦ with_socket (with_end e (f (end_of e socket)) socket) world
  ]).sockets ≡ None → find (is_socket_named t) world.sockets ≡ None
  by_socket None is none = none
  by_socket (Some old) is none = by_test (with_end e (f (end_of e old)) old) (same_socket s t) (sym (found_changed s e (f (end_of e old)) old world.sockets t is) ∙ none)

-- a socket whose target's end is pending was there, pending under the same number
pub record WasPending (t : SockName) (world : World) (socket : WorldSocket) : Type 0 where
  pub old : WorldSocket
  pub found : find (is_socket_named t) world.sockets ≡ Some old
  pub pending : is_pending old.t.stage ≡ true
  pub number : socket.t.number ≡ old.t.number

pub kept_pending : (s : SockName) (e : End) (f : WorldEnd → WorldEnd) (world : World) → KeepsPlace f → (t : SockName) (socket : WorldSocket) → find (is_socket_named t) (with_end_of s e f world).sockets ≡ Some socket → is_pending socket.t.stage ≡ true → WasPending t world socket
kept_pending s e f world k t socket found pending = by_socket (find (is_socket_named s) world.sockets) refl found where
  by_end : (old : WorldSocket) (x : End) → find (is_socket_named t) world.sockets ≡ Some old → with_end x (f (end_of x old)) old ≡ socket → WasPending t world socket
  by_end old O is e = record { old = old; found = is; pending = ap (λ (w : WorldSocket). is_pending w.t.stage) e ∙ pending; number = sym (ap (λ (w : WorldSocket). w.t.number) e) }
  by_end old T is e = record { old = old; found = is; pending = k.pending old.t (ap (λ (w : WorldSocket). is_pending w.t.stage) e ∙ pending); number = sym (ap (λ (w : WorldSocket). w.t.number) e) ∙ k.number old.t }

  by_test : (old : WorldSocket) → find (is_socket_named s) world.sockets ≡ Some old → (b : Bool) → same_socket s t ≡ b → cond b (Some (with_end e (f (end_of e old)) old)) (find (is_socket_named t) world.sockets) ≡ Some socket → WasPending t world socket
  by_test old is true h found = let same : with_end e (f (end_of e old)) old ≡ socket = cc in by_end old e (subst (λ (m : SockName). find (is_socket_named m) world.sockets ≡ Some old) (same_is s t h) is) same
  by_test old is false h found = record { old = socket; found = found; pending = pending; number = refl }

  by_socket : (o : Option WorldSocket) → find (is_socket_named s) world.sockets ≡ o → find (is_socket_named t) (elim o as (λ o. World) [
    | None ↦ world
    | Some socket ↦ with_socket (with_end e (f (end_of e socket)) socket) world
  ]).sockets ≡ Some socket → WasPending t world socket
  by_socket None is found = record { old = socket; found = found; pending = pending; number = refl }
  by_socket (Some old) is found = by_test old is (same_socket s t) refl (sym (found_changed s e (f (end_of e old)) old world.sockets t is) ∙ found)

-- a socket was there, with its ends of the same cells
pub record WasThere (t : SockName) (world : World) (socket : WorldSocket) : Type 0 where
  pub old : WorldSocket
  pub found : find (is_socket_named t) world.sockets ≡ Some old
  pub cell : (e : End) → (end_of e socket).cell ≡ (end_of e old).cell

pub kept_there : (s : SockName) (e : End) (f : WorldEnd → WorldEnd) (world : World) → ((end : WorldEnd) → (f end).cell ≡ end.cell) → (t : SockName) (socket : WorldSocket) → find (is_socket_named t) (with_end_of s e f world).sockets ≡ Some socket → WasThere t world socket
kept_there s e f world k t socket found = by_socket (find (is_socket_named s) world.sockets) refl found where
  cells : (old : WorldSocket) (x y : End) → (end_of y (with_end x (f (end_of x old)) old)).cell ≡ (end_of y old).cell
  cells old O O = k old.o
  cells old O T = refl
  cells old T O = refl
  cells old T T = k old.t

  by_test : (old : WorldSocket) → find (is_socket_named s) world.sockets ≡ Some old → (b : Bool) → same_socket s t ≡ b → cond b (Some (with_end e (f (end_of e old)) old)) (find (is_socket_named t) world.sockets) ≡ Some socket → WasThere t world socket
  by_test old is true h found = let same : with_end e (f (end_of e old)) old ≡ socket = cc in
      record { old = old; found = subst (λ (m : SockName). find (is_socket_named m) world.sockets ≡ Some old) (same_is s t h) is; cell = λ y. ap (λ (w : WorldSocket). (end_of y w).cell) (sym same) ∙ cells old e y }
  by_test old is false h found = record { old = socket; found = found; cell = λ y. refl }

  by_socket : (o : Option WorldSocket) → find (is_socket_named s) world.sockets ≡ o → find (is_socket_named t) (elim o as (λ o. World) [
    | None ↦ world
    | Some socket ↦ with_socket (with_end e (f (end_of e socket)) socket) world
  ]).sockets ≡ Some socket → WasThere t world socket
  by_socket None is found = record { old = socket; found = found; cell = λ y. refl }
  by_socket (Some old) is found = by_test old is (same_socket s t) refl (sym (found_changed s e (f (end_of e old)) old world.sockets t is) ∙ found)

-- ---- one end under one number

same_numbers : (o : Option ℕ) (a b : ℕ) → same_number o a ≡ true → same_number o b ≡ true → a ≡ b
same_numbers None a b p q = absurd cc
same_numbers (Some m) a b p q = sym (number_is m a p) ∙ number_is m b q

same_end_is : (a b : End) → same_end a b ≡ true → a ≡ b
same_end_is O O e = refl
same_end_is T T e = refl
same_end_is O T e = absurd cc
same_end_is T O e = absurd cc

pub same_end_self : (a : End) → same_end a a ≡ true
same_end_self O = refl
same_end_self T = refl

-- ends that are found under other numbers, or of other cells, are others
pub other_end : (sockets : List WorldSocket) (place sock p n : ℕ) (at a : SockName × End) → Distinct sockets → find_end place sock sockets ≡ Some at → find_end p n sockets ≡ Some a → ((place == p) && (sock == n)) ≡ false → (same_socket at.0 a.0 && same_end at.1 a.1) ≡ false
other_end sockets place sock p n at a d f g off = by_test (same_socket at.0 a.0 && same_end at.1 a.1) refl where
  both : (x y z w : ℕ) → x ≡ z → y ≡ w → ((x == z) && (y == w)) ≡ true
  both x y z w e h = subst (λ (k : ℕ). ((x == k) && (y == w)) ≡ true) e (ap (λ b. b && (y == w)) (number_same x) ∙ subst (λ (k : ℕ). (y == k) ≡ true) h (number_same y))

  by_test : (b : Bool) → (same_socket at.0 a.0 && same_end at.1 a.1) ≡ b → b ≡ false
  by_test true e =
      let parts = and_parts (same_socket at.0 a.0) (same_end at.1 a.1) e in
      let held = found_end place sock sockets at f in
      let name : at.0 ≡ a.0 = same_is at.0 a.0 parts.0 in
      let which : at.1 ≡ a.1 = same_end_is at.1 a.1 parts.1 in
      let one = and_parts (same_number (end_of at.1 held.socket).cell place) (same_number (end_of at.1 held.socket).number sock) (found_is place sock sockets at held.socket d f held.is) in
      let two = and_parts (same_number (end_of a.1 held.socket).cell p) (same_number (end_of a.1 held.socket).number n) (found_is p n sockets a held.socket d g (subst (λ (m : SockName). find (is_socket_named m) sockets ≡ Some held.socket) name held.is)) in
      let cells : place ≡ p = same_numbers (end_of at.1 held.socket).cell place p one.0 (subst (λ (x : End). same_number (end_of x held.socket).cell p ≡ true) (sym which) two.0) in
      let numbers : sock ≡ n = same_numbers (end_of at.1 held.socket).number sock n one.1 (subst (λ (x : End). same_number (end_of x held.socket).number n ≡ true) (sym which) two.1) in
      let no : true ≡ false = sym (both place sock p n cells numbers) ∙ off in
      no
  by_test false e = refl
