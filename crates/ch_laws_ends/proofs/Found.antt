-- Which end of the world is found under a cell's number, and how it stands, when a socket is changed or comes.
use Rattle.std.proofs.Common.{◌≡◌, ℕ, Bool, true, false, cond, ◌&&◌, List, [], ◌∷◌, refl, sym, ap, ◌∙◌, subst}
use Rattle.std.specs.Option.{option_map}
use Rattle.std.specs.Prelude.{find, Option, Some, None}
use Rattle.ch_model.specs.declared.name.End.{End}
use Rattle.ch_model.specs.declared.name.End.TheVariants.{O, T}
use Rattle.ch_model.specs.declared.name.SockName.{SockName}
use Rattle.ch_model.specs.Same.{same_socket, same_end}
use Rattle.ch_model.specs.Stages.{Stage}
use Rattle.ch_model.specs.WorldSockets.{end_of, with_end, is_socket_named, store_in, with_socket, with_end_of, same_number, is_end_of, end_at, find_end}
use Rattle.ch_model.specs.WorldState.{WorldEnd, WorldSocket, World}
use Rattle.ch_laws_log.specs.WorldEnds.{stage_found, stage_held}
use Rattle.ch_laws_log.proofs.Agreeing.{with_end_is, name_of_end}
use Rattle.ch_laws_log.proofs.Stored.{same_is, self_same, find_name, find_stored, found_end, Distinct}
use Rattle.ch_laws_log.proofs.WorldEnds.{found_is}

-- what is found after an end of a socket, or in the rest
abbrev pub or_end : SockName → Option (SockName × End) → Option End → Option (SockName × End)
or_end name rest end = elim end [
  | Some end ↦ Some (name, end)
  | None ↦ rest
]

-- ---- what is found

-- the same ends are found where a socket is kept in place of one with the same cells and numbers
pub same_found : (place n : ℕ) (new old : WorldSocket) (sockets : List WorldSocket) → find (is_socket_named new.name) sockets ≡ Some old → end_at place n new ≡ end_at place n old → find_end place n (store_in new sockets) ≡ find_end place n sockets
same_found place n new old [] e h = absurd cc
same_found place n new old (known ∷ rest) e h = by_test (same_socket known.name new.name) refl (same_found place n new old rest) e where
  by_test : (b : Bool) → same_socket known.name new.name ≡ b → (find (is_socket_named new.name) rest ≡ Some old → end_at place n new ≡ end_at place n old → find_end place n (store_in new rest) ≡ find_end place n rest) → cond b (Some known) (find (is_socket_named new.name) rest) ≡ Some old
      → find_end place n (cond b (new ∷ rest) (known ∷ store_in new rest)) ≡ find_end place n (known ∷ rest)
  by_test true name more e = let is : known ≡ old = cc in
      ap (or_end new.name (find_end place n rest)) (h ∙ ap (λ (w : WorldSocket). end_at place n w) (sym is)) ∙ ap (λ (s : SockName). or_end s (find_end place n rest) (end_at place n known)) (sym (same_is known.name new.name name))
  by_test false name more e = ap (λ (o : Option (SockName × End)). or_end known.name o (end_at place n known)) (more e h)

-- where none was found, an end is found that a socket now has
pub now_found : (place n : ℕ) (new old : WorldSocket) (e : End) (sockets : List WorldSocket) → find (is_socket_named new.name) sockets ≡ Some old → find_end place n sockets ≡ None → end_at place n new ≡ Some e → find_end place n (store_in new sockets) ≡ Some (new.name, e)
now_found place n new old e [] f none h = absurd cc
now_found place n new old e (known ∷ rest) f none h = by_test (same_socket known.name new.name) (now_found place n new old e rest) f where
  More : Type 0
  More = find (is_socket_named new.name) rest ≡ Some old → find_end place n rest ≡ None → end_at place n new ≡ Some e → find_end place n (store_in new rest) ≡ Some (new.name, e)

  by_known : (o : Option End) → or_end known.name (find_end place n rest) o ≡ None → (find_end place n rest ≡ None → find_end place n (store_in new rest) ≡ Some (new.name, e)) → or_end known.name (find_end place n (store_in new rest)) o ≡ Some (new.name, e)
  by_known None e more = more e
  by_known (Some end) e more = absurd cc

  by_test : (b : Bool) → More → cond b (Some known) (find (is_socket_named new.name) rest) ≡ Some old → find_end place n (cond b (new ∷ rest) (known ∷ store_in new rest)) ≡ Some (new.name, e)
  by_test true more f = ap (or_end new.name (find_end place n rest)) h
  by_test false more f = by_known (end_at place n known) none (λ gone. more f gone h)

-- a new socket's ends are found after the others
pub new_found : (place n : ℕ) (new : WorldSocket) (sockets : List WorldSocket) → find (is_socket_named new.name) sockets ≡ None → find_end place n (store_in new sockets) ≡ (elim (find_end place n sockets) as (λ o. Option (SockName × End)) [
  | Some at ↦ Some at
  | None ↦ or_end new.name None (end_at place n new)
])
new_found place n new [] e = refl
new_found place n new (known ∷ rest) e = by_test (same_socket known.name new.name) (new_found place n new rest) e where
  in_rest : Option (SockName × End) → Option (SockName × End)
  in_rest o = elim o [
    | Some at ↦ Some at
    | None ↦ or_end new.name None (end_at place n new)
  ]

  by_end : (o : Option End) → find_end place n (store_in new rest) ≡ in_rest (find_end place n rest) → or_end known.name (find_end place n (store_in new rest)) o ≡ in_rest (or_end known.name (find_end place n rest) o)
  by_end None ih = ih
  by_end (Some end) ih = refl

  by_test : (b : Bool) → (find (is_socket_named new.name) rest ≡ None → find_end place n (store_in new rest) ≡ in_rest (find_end place n rest)) → cond b (Some known) (find (is_socket_named new.name) rest) ≡ None
      → find_end place n (cond b (new ∷ rest) (known ∷ store_in new rest)) ≡ in_rest (find_end place n (known ∷ rest))
  by_test true more e = absurd cc
  by_test false more e = by_end (end_at place n known) (more e)

-- where nothing is held, nothing is found
pub none_found : (place n : ℕ) (sockets : List WorldSocket) → stage_held place n sockets ≡ None → find_end place n sockets ≡ None
none_found place n sockets e = by_found (find_end place n sockets) refl e where
  by_found : (o : Option (SockName × End)) → find_end place n sockets ≡ o → stage_found o sockets ≡ None → o ≡ None
  by_found None f e = refl
  by_found (Some a) f e = let held = found_end place n sockets a f in let some : option_map (λ (w : WorldSocket). (end_of a.1 w).stage) (find (is_socket_named a.0) sockets) ≡ Some (end_of a.1 held.socket).stage = ap (option_map (λ (w : WorldSocket). (end_of a.1 w).stage)) held.is in absurd cc

-- ---- each end is found under its number

-- of each socket, the end that a cell has under a number is the one that is found
abbrev pub EachFound : List WorldSocket → Type 0
EachFound sockets = (s : SockName) (socket : WorldSocket) (e : End) (p n : ℕ) → find (is_socket_named s) sockets ≡ Some socket → is_end_of p n (end_of e socket) ≡ true → find_end p n sockets ≡ Some (s, e)

-- an end stays of its cell, under its number
abbrev pub KeepsPlace : (WorldEnd → WorldEnd) → Type 0
KeepsPlace f = (end : WorldEnd) → ((f end).cell ≡ end.cell) × ((f end).number ≡ end.number)

place_kept : (p n : ℕ) (f : WorldEnd → WorldEnd) → KeepsPlace f → (end : WorldEnd) → is_end_of p n (f end) ≡ is_end_of p n end
place_kept p n f k end = ap (λ (o : Option ℕ). same_number o p && same_number (f end).number n) (k end).0 ∙ ap (λ (o : Option ℕ). same_number end.cell p && same_number o n) (k end).1

end_kept : (p n : ℕ) (a e : End) (f : WorldEnd → WorldEnd) (old : WorldSocket) → KeepsPlace f → is_end_of p n (end_of a (with_end e (f (end_of e old)) old)) ≡ is_end_of p n (end_of a old)
end_kept p n O O f old k = place_kept p n f k old.o
end_kept p n T T f old k = place_kept p n f k old.t
end_kept p n O T f old k = refl
end_kept p n T O f old k = refl

end_at_kept : (p n : ℕ) (e : End) (f : WorldEnd → WorldEnd) (old : WorldSocket) → KeepsPlace f → end_at p n (with_end e (f (end_of e old)) old) ≡ end_at p n old
end_at_kept p n e f old k = ap (λ b. cond b (Some O) (cond (is_end_of p n (end_of T (with_end e (f (end_of e old)) old))) (Some T) None)) (end_kept p n O e f old k) ∙ ap (λ b. cond (is_end_of p n old.o) (Some O) (cond b (Some T) None)) (end_kept p n T e f old k)

pub its_end : (e : End) (end : WorldEnd) (old : WorldSocket) → end_of e (with_end e end old) ≡ end
its_end O end old = refl
its_end T end old = refl

other_end : (a e : End) (end : WorldEnd) (old : WorldSocket) → same_end a e ≡ false → end_of a (with_end e end old) ≡ end_of a old
other_end O O end old h = absurd cc
other_end T T end old h = absurd cc
other_end O T end old h = refl
other_end T O end old h = refl

same_end_is : (a b : End) → same_end a b ≡ true → a ≡ b
same_end_is O O e = refl
same_end_is T T e = refl
same_end_is O T e = absurd cc
same_end_is T O e = absurd cc

-- the stage of what is found, in the changed sockets
abbrev pub Stands : End → Option WorldSocket → Option Stage
Stands e o = option_map (λ (w : WorldSocket). (end_of e w).stage) o

-- the socket that takes another's place has its name
pub new_name : (s : SockName) (e : End) (end : WorldEnd) (sockets : List WorldSocket) (old : WorldSocket) → find (is_socket_named s) sockets ≡ Some old → (with_end e end old).name ≡ s
new_name s e end sockets old is = name_of_end e end old ∙ find_name s sockets old is

-- how an end stands is known where its own is changed, and else as it was
pub changed_held : (p n : ℕ) (s : SockName) (e : End) (f : WorldEnd → WorldEnd) (world : World) (old : WorldSocket) → Distinct world.sockets → EachFound world.sockets → find (is_socket_named s) world.sockets ≡ Some old → KeepsPlace f
    → stage_held p n (with_end_of s e f world).sockets ≡ cond (is_end_of p n (end_of e old)) (Some (f (end_of e old)).stage) (stage_held p n world.sockets)
changed_held p n s e f world old d each is k = ap (λ (w : World). stage_held p n w.sockets) (with_end_is s e f world old is)
    ∙ ap (λ (o : Option (SockName × End)). stage_found o (store_in new world.sockets)) (same_found p n new old world.sockets at_new (end_at_kept p n e f old k)) ∙ by_mine (is_end_of p n (end_of e old)) refl where
      new : WorldSocket
      new = with_end e (f (end_of e old)) old

      named : new.name ≡ s
      named = new_name s e (f (end_of e old)) world.sockets old is

      at_new : find (is_socket_named new.name) world.sockets ≡ Some old
      at_new = subst (λ (m : SockName). find (is_socket_named m) world.sockets ≡ Some old) (sym named) is

      its_name : same_socket new.name s ≡ true
      its_name = subst (λ (m : SockName). same_socket m s ≡ true) (sym named) (self_same s)

      by_which : (a : SockName × End) → is_end_of p n (end_of e old) ≡ false → is_end_of p n (end_of a.1 old) ≡ true → (b : Bool) → same_end a.1 e ≡ b → Stands a.1 (Some new) ≡ Stands a.1 (Some old)
      by_which a apart mine true h = let other : is_end_of p n (end_of e old) ≡ true = subst (λ (x : End). is_end_of p n (end_of x old) ≡ true) (same_end_is a.1 e h) mine in absurd cc
      by_which a apart mine false h = ap (λ (end : WorldEnd). Some end.stage) (other_end a.1 e (f (end_of e old)) old h)

      by_name : (a : SockName × End) → find_end p n world.sockets ≡ Some a → is_end_of p n (end_of e old) ≡ false → (b : Bool) → same_socket new.name a.0 ≡ b → Stands a.1 (cond b (Some new) (find (is_socket_named a.0) world.sockets)) ≡ Stands a.1 (find (is_socket_named a.0) world.sockets)
      by_name a f apart true h =
          let o : find (is_socket_named a.0) world.sockets ≡ Some old = subst (λ (m : SockName). find (is_socket_named m) world.sockets ≡ Some old) (same_is new.name a.0 h) at_new in
          by_which a apart (found_is p n world.sockets a old d f o) (same_end a.1 e) refl ∙ ap (Stands a.1) (sym o)
      by_name a f apart false h = refl

      by_found : (o : Option (SockName × End)) → find_end p n world.sockets ≡ o → is_end_of p n (end_of e old) ≡ false → stage_found o (store_in new world.sockets) ≡ stage_found o world.sockets
      by_found None f apart = refl
      by_found (Some a) f apart = ap (Stands a.1) (find_stored new world.sockets a.0) ∙ by_name a f apart (same_socket new.name a.0) refl

      by_mine : (b : Bool) → is_end_of p n (end_of e old) ≡ b → stage_found (find_end p n world.sockets) (store_in new world.sockets) ≡ cond b (Some (f (end_of e old)).stage) (stage_held p n world.sockets)
      by_mine true h = ap (λ (o : Option (SockName × End)). stage_found o (store_in new world.sockets)) (each s old e p n is h)
          ∙ ap (Stands e) (find_stored new world.sockets s ∙ ap (λ b. cond b (Some new) (find (is_socket_named s) world.sockets)) its_name) ∙ ap (λ (end : WorldEnd). Some end.stage) (its_end e (f (end_of e old)) old)
      by_mine false h = by_found (find_end p n world.sockets) refl h

-- a change that leaves the stage leaves what is held
pub quiet_held : (p n : ℕ) (s : SockName) (e : End) (f : WorldEnd → WorldEnd) (world : World) (old : WorldSocket) → Distinct world.sockets → EachFound world.sockets → find (is_socket_named s) world.sockets ≡ Some old → KeepsPlace f → (f (end_of e old)).stage ≡ (end_of e old).stage → stage_held p n (with_end_of s e f world).sockets ≡ stage_held p n world.sockets
quiet_held p n s e f world old d each is k q = changed_held p n s e f world old d each is k ∙ by_mine (is_end_of p n (end_of e old)) refl where
  by_mine : (b : Bool) → is_end_of p n (end_of e old) ≡ b → cond b (Some (f (end_of e old)).stage) (stage_held p n world.sockets) ≡ stage_held p n world.sockets
  by_mine true h = ap Some q ∙ sym (ap (λ (o : Option (SockName × End)). stage_found o world.sockets) (each s old e p n is h) ∙ ap (Stands e) is)
  by_mine false h = refl

-- each end is found still where an end is changed and stays in its place
pub each_kept : (s : SockName) (e : End) (f : WorldEnd → WorldEnd) (world : World) → KeepsPlace f → EachFound world.sockets → EachFound (with_end_of s e f world).sockets
each_kept s e f world k each = by_socket (find (is_socket_named s) world.sockets) refl where
  after : Option WorldSocket → World
  after o = elim o [
    | None ↦ world
    | Some socket ↦ with_socket (with_end e (f (end_of e socket)) socket) world
  ]

  stored : (old : WorldSocket) → find (is_socket_named s) world.sockets ≡ Some old → EachFound (store_in (with_end e (f (end_of e old)) old) world.sockets)
  stored old is t socket a p n found of = same_found p n new old world.sockets at_new (end_at_kept p n e f old k) ∙ by_name (same_socket new.name t) refl (sym (find_stored new world.sockets t) ∙ found) where
    new : WorldSocket
    new = with_end e (f (end_of e old)) old

    at_new : find (is_socket_named new.name) world.sockets ≡ Some old
    at_new = subst (λ (m : SockName). find (is_socket_named m) world.sockets ≡ Some old) (sym (new_name s e (f (end_of e old)) world.sockets old is)) is

    by_name : (b : Bool) → same_socket new.name t ≡ b → cond b (Some new) (find (is_socket_named t) world.sockets) ≡ Some socket → find_end p n world.sockets ≡ Some (t, a)
    by_name true h found =
        let same : new ≡ socket = cc in
        let o : find (is_socket_named t) world.sockets ≡ Some old = subst (λ (m : SockName). find (is_socket_named m) world.sockets ≡ Some old) (same_is new.name t h) at_new in
        each t old a p n o (sym (end_kept p n a e f old k) ∙ subst (λ (w : WorldSocket). is_end_of p n (end_of a w) ≡ true) (sym same) of)
    by_name false h found = each t socket a p n found of

  by_socket : (o : Option WorldSocket) → find (is_socket_named s) world.sockets ≡ o → EachFound (after o).sockets
  by_socket None is = each
  by_socket (Some old) is = stored old is
