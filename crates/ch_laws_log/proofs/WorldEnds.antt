-- The world's ends follow what a cell tells: each stands as the cell's steps say.
use Rattle.std.proofs.Common.{◌≡◌, ℕ, Bool, true, false, cond, ◌&&◌, ◌||◌, List, [], ◌∷◌, ◌++◌, refl, sym, ap, ◌∙◌, subst}
use Rattle.std.proofs.lemmas.Bool.{and_parts}
use Rattle.std.specs.Option.{option_map}
use Rattle.std.specs.Prelude.{find, Option, Some, None, ◌==◌}
use Rattle.ch_base.specs.declared.address.Address.{Address}
use Rattle.ch_model.specs.declared.entry.Entry.{Entry}
use Rattle.ch_model.specs.declared.entry.Entry.TheVariants as entries
use Rattle.ch_model.specs.declared.line.Line.{Line}
use Rattle.ch_model.specs.declared.local.LocalEntry.{LocalEntry}
use Rattle.ch_model.specs.declared.local.LocalEntry.TheVariants as local
use Rattle.ch_model.specs.declared.name.End.{End}
use Rattle.ch_model.specs.declared.name.End.TheVariants.{O, T}
use Rattle.ch_model.specs.declared.name.SockName.{SockName}
use Rattle.ch_model.specs.declared.step.Place.{Place}
use Rattle.ch_model.specs.declared.step.Step.{Step}
use Rattle.ch_model.specs.declared.step.Step.TheVariants as steps
use Rattle.ch_model.specs.HostSteps.{own_address}
use Rattle.ch_model.specs.Naming.{called}
use Rattle.ch_model.specs.Same.{same_socket, same_end}
use Rattle.ch_model.specs.Stages.{Stage, Pending, Ended, is_ended}
use Rattle.ch_model.specs.WorldSockets.{end_of, other, with_end, ended, item_arrives, end_of_nobody, is_socket_named, store_in, with_socket, with_end_of, same_number, is_end_of, end_at, find_end, cell_of, target_end, new_socket}
use Rattle.ch_model.specs.WorldState.{Cell, WorldEnd, WorldSocket, World}
use Rattle.ch_model.specs.WorldSteps.{on_end, later_places, item_is_read, reads_item, end_closes, stepped, local_told, all_told}
use Rattle.ch_laws_log.specs.HostEnds.{stage_after, stage_after_all, IsNewTo, AreNewTo, steps_in}
use Rattle.ch_laws_log.specs.WorldEnds.{stage_found, stage_held, stage_there}
use Rattle.ch_laws_log.proofs.Agreeing.{with_end_is, name_of_end, Good, keeps_good}
use Rattle.ch_laws_log.proofs.Kept.{one_told}
use Rattle.ch_laws_log.proofs.HostTold.{number_same}
use Rattle.ch_laws_log.proofs.Stored.{number_is, same_is, self_same, find_name, find_stored, found_end, Distinct, next_is_new}

-- ---- which end is found

-- what is found after an end of a socket, or in the rest
or_end : SockName → Option (SockName × End) → Option End → Option (SockName × End)
or_end name rest end = elim end [
  | Some end ↦ Some (name, end)
  | None ↦ rest
]

-- the same ends are found where a socket is kept in place of one with the same cells and numbers
same_found : (place n : ℕ) (new old : WorldSocket) (sockets : List WorldSocket) → find (is_socket_named new.name) sockets ≡ Some old → end_at place n new ≡ end_at place n old → find_end place n (store_in new sockets) ≡ find_end place n sockets
unfolding or_end
same_found place n new old [] e h = absurd cc
same_found place n new old (known ∷ rest) e h = by_test (same_socket known.name new.name) refl (same_found place n new old rest) e where
  by_test : (b : Bool) → same_socket known.name new.name ≡ b → (find (is_socket_named new.name) rest ≡ Some old → end_at place n new ≡ end_at place n old → find_end place n (store_in new rest) ≡ find_end place n rest) → cond b (Some known) (find (is_socket_named new.name) rest) ≡ Some old
      → find_end place n (cond b (new ∷ rest) (known ∷ store_in new rest)) ≡ find_end place n (known ∷ rest)
  by_test true name more e = let is : known ≡ old = cc in
      ap (or_end new.name (find_end place n rest)) (h ∙ ap (λ (w : WorldSocket). end_at place n w) (sym is)) ∙ ap (λ (s : SockName). or_end s (find_end place n rest) (end_at place n known)) (sym (same_is known.name new.name name))
  by_test false name more e = ap (λ (o : Option (SockName × End)). or_end known.name o (end_at place n known)) (more e h)

-- a new socket's ends are found after the others
new_found : (place n : ℕ) (new : WorldSocket) (sockets : List WorldSocket) → find (is_socket_named new.name) sockets ≡ None → find_end place n (store_in new sockets) ≡ (elim (find_end place n sockets) as (λ o. Option (SockName × End)) [
  | Some at ↦ Some at
  | None ↦ or_end new.name None (end_at place n new)
])
unfolding or_end
new_found place n new [] e = refl
new_found place n new (known ∷ rest) e = by_test (same_socket known.name new.name) refl (new_found place n new rest) e where
  in_rest : Option (SockName × End) → Option (SockName × End)
  in_rest o = elim o [
    | Some at ↦ Some at
    | None ↦ or_end new.name None (end_at place n new)
  ]

  by_end : (o : Option End) → find_end place n (store_in new rest) ≡ in_rest (find_end place n rest) → or_end known.name (find_end place n (store_in new rest)) o ≡ in_rest (or_end known.name (find_end place n rest) o)
  by_end None ih = ih
  by_end (Some end) ih = refl

  by_test : (b : Bool) → same_socket known.name new.name ≡ b → (find (is_socket_named new.name) rest ≡ None → find_end place n (store_in new rest) ≡ in_rest (find_end place n rest)) → cond b (Some known) (find (is_socket_named new.name) rest) ≡ None
      → find_end place n (cond b (new ∷ rest) (known ∷ store_in new rest)) ≡ in_rest (find_end place n (known ∷ rest))
  by_test true name more e = absurd cc
  by_test false name more e = by_end (end_at place n known) (more e)

-- the end that is found is of that cell under that number
pub found_is : (place n : ℕ) (sockets : List WorldSocket) (at : SockName × End) (socket : WorldSocket) → Distinct sockets → find_end place n sockets ≡ Some at → find (is_socket_named at.0) sockets ≡ Some socket → is_end_of place n (end_of at.1 socket) ≡ true
found_is place n [] at socket d e f = absurd cc
found_is place n (known ∷ rest) at socket d e f = by_end (end_at place n known) refl (found_is place n rest at socket d.1) e where
  More : Type 0
  More = find_end place n rest ≡ Some at → find (is_socket_named at.0) rest ≡ Some socket → is_end_of place n (end_of at.1 socket) ≡ true

  name_in : Option (SockName × End) → SockName
  name_in None = known.name
  name_in (Some at) = at.0

  end_in : Option (SockName × End) → End
  end_in None = O
  end_in (Some at) = at.1

  its_end : (a b : Bool) → is_end_of place n known.o ≡ a → is_end_of place n known.t ≡ b → (e : End) → cond a (Some O) (cond b (Some T) None) ≡ Some e → is_end_of place n (end_of e known) ≡ true
  its_end true b p q O e = p
  its_end true b p q T e = absurd cc
  its_end false true p q T e = q
  its_end false true p q O e = absurd cc
  its_end false false p q e h = absurd cc

  at_known : same_socket known.name at.0 ≡ true → known ≡ socket
  at_known h = some_is (sym (ap (λ b. cond b (Some known) (find (is_socket_named at.0) rest)) h) ∙ f) where
    some_is : ◌≡◌ {A = Option WorldSocket} (Some known) (Some socket) → known ≡ socket
    some_is e = cc

  by_rest : More → find_end place n rest ≡ Some at → (b : Bool) → same_socket known.name at.0 ≡ b → is_end_of place n (end_of at.1 socket) ≡ true
  by_rest more e true h = let held = found_end place n rest at e in
      let none : find (is_socket_named at.0) rest ≡ None = subst (λ (s : SockName). find (is_socket_named s) rest ≡ None) (same_is known.name at.0 h) d.0 in
      let some = held.is in absurd cc
  by_rest more e false h = more e (sym (ap (λ b. cond b (Some known) (find (is_socket_named at.0) rest)) h) ∙ f)

  by_end : (o : Option End) → end_at place n known ≡ o → More → (elim o as (λ o. Option (SockName × End)) [
    | Some end ↦ Some (known.name, end)
    | None ↦ find_end place n rest
  ]) ≡ Some at → is_end_of place n (end_of at.1 socket) ≡ true
  by_end None h more e = by_rest more e (same_socket known.name at.0) refl
  by_end (Some end) h more e =
      let name : known.name ≡ at.0 = ap name_in e in
      let which : end ≡ at.1 = ap end_in e in
      let is : known ≡ socket = at_known (subst (λ (s : SockName). same_socket known.name s ≡ true) name (self_same known.name)) in
      subst (λ (w : WorldSocket). is_end_of place n (end_of at.1 w) ≡ true) is (subst (λ (x : End). is_end_of place n (end_of x known) ≡ true) which (its_end (is_end_of place n known.o) (is_end_of place n known.t) refl refl end h))

-- ---- how what is found stands

-- an end stays of its cell, under its number
abbrev KeepsPlace : (WorldEnd → WorldEnd) → Type 0
KeepsPlace f = (end : WorldEnd) → ((f end).cell ≡ end.cell) × ((f end).number ≡ end.number)

end_at_kept : (place n : ℕ) (e : End) (f : WorldEnd → WorldEnd) (old : WorldSocket) → KeepsPlace f → end_at place n (with_end e (f (end_of e old)) old) ≡ end_at place n old
end_at_kept place n e f old k = by_end e where
  kept : (end : WorldEnd) → is_end_of place n (f end) ≡ is_end_of place n end
  kept end = ap (λ (o : Option ℕ). same_number o place && same_number (f end).number n) (k end).0 ∙ ap (λ (o : Option ℕ). same_number end.cell place && same_number o n) (k end).1

  by_end : (e : End) → end_at place n (with_end e (f (end_of e old)) old) ≡ end_at place n old
  by_end O = ap (λ b. cond b (Some O) (cond (is_end_of place n old.t) (Some T) None)) (kept old.o)
  by_end T = ap (λ b. cond (is_end_of place n old.o) (Some O) (cond b (Some T) None)) (kept old.t)

same_numbers : (o : Option ℕ) (a b : ℕ) → same_number o a ≡ true → same_number o b ≡ true → a ≡ b
same_numbers None a b p q = absurd cc
same_numbers (Some m) a b p q = sym (number_is m a p) ∙ number_is m b q

one_place : (end : WorldEnd) (p q n m : ℕ) → is_end_of p n end ≡ true → is_end_of q m end ≡ true → (p ≡ q) × (n ≡ m)
one_place end p q n m a b =
    let one = and_parts (same_number end.cell p) (same_number end.number n) a in
    let two = and_parts (same_number end.cell q) (same_number end.number m) b in
    (same_numbers end.cell p q one.0 two.0, same_numbers end.number n m one.1 two.1)

-- the stage of what is found, in the changed sockets
abbrev Stands : End → Option WorldSocket → Option Stage
Stands e o = option_map (λ (w : WorldSocket). (end_of e w).stage) o

quiet_end : (a e : End) (f : WorldEnd → WorldEnd) (old : WorldSocket) → ((end : WorldEnd) → (f end).stage ≡ end.stage) → (end_of a (with_end e (f (end_of e old)) old)).stage ≡ (end_of a old).stage
quiet_end O O f old q = q old.o
quiet_end T T f old q = q old.t
quiet_end O T f old q = refl
quiet_end T O f old q = refl

-- a change that leaves the stage leaves what is held
quiet_held : (place n : ℕ) (s : SockName) (e : End) (f : WorldEnd → WorldEnd) (world : World) (old : WorldSocket) → find (is_socket_named s) world.sockets ≡ Some old → KeepsPlace f → ((end : WorldEnd) → (f end).stage ≡ end.stage) → stage_held place n (with_end_of s e f world).sockets ≡ stage_held place n world.sockets
quiet_held place n s e f world old is k q = ap (λ (w : World). stage_held place n w.sockets) (with_end_is s e f world old is)
    ∙ ap (λ (o : Option (SockName × End)). stage_found o (store_in new world.sockets)) (same_found place n new old world.sockets at_new (end_at_kept place n e f old k)) ∙ by_found (find_end place n world.sockets) where
      new : WorldSocket
      new = with_end e (f (end_of e old)) old

      named : new.name ≡ s
      named = name_of_end e (f (end_of e old)) old ∙ find_name s world.sockets old is

      at_new : find (is_socket_named new.name) world.sockets ≡ Some old
      at_new = subst (λ (m : SockName). find (is_socket_named m) world.sockets ≡ Some old) (sym named) is

      by_name : (a : SockName × End) (b : Bool) → same_socket new.name a.0 ≡ b → Stands a.1 (cond b (Some new) (find (is_socket_named a.0) world.sockets)) ≡ Stands a.1 (find (is_socket_named a.0) world.sockets)
      by_name a true h = ap Some (quiet_end a.1 e f old q) ∙ ap (Stands a.1) (sym (subst (λ (m : SockName). find (is_socket_named m) world.sockets ≡ Some old) (same_is new.name a.0 h) at_new))
      by_name a false h = refl

      by_found : (o : Option (SockName × End)) → stage_found o (store_in new world.sockets) ≡ stage_found o world.sockets
      by_found None = refl
      by_found (Some a) = ap (Stands a.1) (find_stored new world.sockets a.0) ∙ by_name a (same_socket new.name a.0) refl

-- ---- an end that is over

over_there : ℕ → ℕ → ℕ → ℕ → Option Stage → Option Stage
over_there place sock p n stage = cond (place == p) (cond (sock == n) (option_map (λ (s : Stage). Ended) stage) stage) stage

nothing_over : (c d : Bool) (stage : Option Stage) → stage ≡ None → stage ≡ cond c (cond d (option_map (λ (s : Stage). Ended) stage) stage) stage
nothing_over true true stage e = e ∙ sym (ap (option_map (λ (s : Stage). Ended)) e)
nothing_over true false stage e = refl
nothing_over false d stage e = refl

elsewhere : (c d : Bool) (stage : Option Stage) → (c ≡ true → d ≡ true → ⊥) → stage ≡ cond c (cond d (option_map (λ (s : Stage). Ended) stage) stage) stage
elsewhere true true stage n = absurd (n refl refl)
elsewhere true false stage n = refl
elsewhere false d stage n = refl

ended_end : (a e : End) (old : WorldSocket) → (end_of a (with_end e (ended (end_of e old)) old)).stage ≡ cond (same_end a e) Ended (end_of a old).stage
ended_end O O old = refl
ended_end T T old = refl
ended_end O T old = refl
ended_end T O old = refl

same_end_is : (a b : End) → same_end a b ≡ true → a ≡ b
same_end_is O O e = refl
same_end_is T T e = refl
same_end_is O T e = absurd cc
same_end_is T O e = absurd cc

same_end_self : (a : End) → same_end a a ≡ true
same_end_self O = refl
same_end_self T = refl

over_held : (place sock p n : ℕ) (at : SockName × End) (world : World) (old : WorldSocket) → Distinct world.sockets → find_end place sock world.sockets ≡ Some at → find (is_socket_named at.0) world.sockets ≡ Some old → stage_held p n (with_end_of at.0 at.1 ended world).sockets ≡ over_there place sock p n (stage_held p n world.sockets)
unfolding over_there
over_held place sock p n at world old d found is = ap (λ (w : World). stage_held p n w.sockets) (with_end_is at.0 at.1 ended world old is)
    ∙ ap (λ (o : Option (SockName × End)). stage_found o (store_in new world.sockets)) (same_found p n new old world.sockets at_new (end_at_kept p n at.1 ended old (λ end. (refl, refl)))) ∙ by_found (find_end p n world.sockets) refl where
      new : WorldSocket
      new = with_end at.1 (ended (end_of at.1 old)) old

      named : new.name ≡ at.0
      named = name_of_end at.1 (ended (end_of at.1 old)) old ∙ find_name at.0 world.sockets old is

      at_new : find (is_socket_named new.name) world.sockets ≡ Some old
      at_new = subst (λ (m : SockName). find (is_socket_named m) world.sockets ≡ Some old) (sym named) is

      -- the place and the number are of the end that is over
      is_it : (a : SockName × End) → find_end p n world.sockets ≡ Some a → (place == p) ≡ true → (sock == n) ≡ true → a ≡ at
      is_it a f c e = some_is (sym f ∙ ap (λ k. find_end k n world.sockets) (sym (number_is place p c)) ∙ ap (λ k. find_end place k world.sockets) (sym (number_is sock n e)) ∙ found) where
        some_is : ◌≡◌ {A = Option (SockName × End)} (Some a) (Some at) → a ≡ at
        some_is e = cc

      by_end : (a : SockName × End) → find_end p n world.sockets ≡ Some a → find (is_socket_named a.0) world.sockets ≡ Some old → a.0 ≡ at.0 → (w : Bool) → same_end a.1 at.1 ≡ w → ◌≡◌ {A = Option Stage} (Some (cond w Ended (end_of a.1 old).stage)) (cond (place == p) (cond (sock == n) (Some Ended) (Some (end_of a.1 old).stage)) (Some (end_of a.1 old).stage))
      by_end a f o name true w =
          let which : a.1 ≡ at.1 = same_end_is a.1 at.1 w in
          let mine = found_is p n world.sockets a old d f o in
          let its = found_is place sock world.sockets at old d found is in
          let both = one_place (end_of at.1 old) place p sock n its (subst (λ (e : End). is_end_of p n (end_of e old) ≡ true) which mine) in
          sym (ap (λ b. cond b (cond (sock == n) (Some Ended) (Some (end_of a.1 old).stage)) (Some (end_of a.1 old).stage)) (subst (λ k. (place == k) ≡ true) both.0 (number_same place))
          ∙ ap (λ b. cond b (Some Ended) (Some (end_of a.1 old).stage)) (subst (λ k. (sock == k) ≡ true) both.1 (number_same sock)))
      by_end a f o name false w = elsewhere (place == p) (sock == n) (Some (end_of a.1 old).stage) (λ c e. let same = is_it a f c e in let yes : same_end a.1 at.1 ≡ true = subst (λ (x : SockName × End). same_end a.1 x.1 ≡ true) same (same_end_self a.1) in absurd cc)

      by_name : (a : SockName × End) → find_end p n world.sockets ≡ Some a → (b : Bool) → same_socket new.name a.0 ≡ b → Stands a.1 (cond b (Some new) (find (is_socket_named a.0) world.sockets)) ≡ over_there place sock p n (Stands a.1 (find (is_socket_named a.0) world.sockets))
      by_name a f true h =
          let name : at.0 ≡ a.0 = sym named ∙ same_is new.name a.0 h in
          let o : find (is_socket_named a.0) world.sockets ≡ Some old = subst (λ (m : SockName). find (is_socket_named m) world.sockets ≡ Some old) name is in
          ap Some (ended_end a.1 at.1 old) ∙ by_end a f o (sym name) (same_end a.1 at.1) refl ∙ ap (λ (w : Option WorldSocket). over_there place sock p n (Stands a.1 w)) (sym o)
      by_name a f false h = elsewhere (place == p) (sock == n) (Stands a.1 (find (is_socket_named a.0) world.sockets)) (λ c e. let same = is_it a f c e in
          let yes : same_socket new.name a.0 ≡ true = subst (λ (x : SockName × End). same_socket new.name x.0 ≡ true) (sym same) (subst (λ (m : SockName). same_socket m at.0 ≡ true) (sym named) (self_same at.0)) in absurd cc)

      by_found : (o : Option (SockName × End)) → find_end p n world.sockets ≡ o → stage_found o (store_in new world.sockets) ≡ over_there place sock p n (stage_found o world.sockets)
      by_found None f = nothing_over (place == p) (sock == n) None refl
      by_found (Some a) f = ap (Stands a.1) (find_stored new world.sockets a.0) ∙ by_name a f (same_socket new.name a.0) refl

-- ---- a socket that is dialed

new_there : ℕ → ℕ → ℕ → ℕ → Option Stage → Option Stage
new_there place sock p n stage = cond (place == p) (cond (sock == n) (Some Pending) stage) stage

not_there : (c d : Bool) (stage : Option Stage) → (c ≡ true → d ≡ true → ⊥) → stage ≡ cond c (cond d (Some Pending) stage) stage
not_there true true stage n = absurd (n refl refl)
not_there true false stage n = refl
not_there false d stage n = refl

no_number : (c : Option ℕ) (p n : ℕ) → is_end_of p n (target_end c) ≡ false
no_number None p n = refl
no_number (Some m) p n = by_test (m == p) where
  by_test : (b : Bool) → (b && false) ≡ false
  by_test true = refl
  by_test false = refl

held_some : (place n : ℕ) (sockets : List WorldSocket) → stage_held place n sockets ≡ None → find_end place n sockets ≡ None
held_some place n sockets e = by_found (find_end place n sockets) refl e where
  by_found : (o : Option (SockName × End)) → find_end place n sockets ≡ o → stage_found o sockets ≡ None → o ≡ None
  by_found None f e = refl
  by_found (Some a) f e = let held = found_end place n sockets a f in let some : Stands a.1 (find (is_socket_named a.0) sockets) ≡ Some (end_of a.1 held.socket).stage = ap (Stands a.1) held.is in absurd cc

dialed_held : (place sock p n : ℕ) (from to from_host : List ℕ) (peer : Address) (world : World) → find (is_socket_named (new_socket world from to from_host (end_of_nobody (Some place) (Some sock) Pending) peer).name) world.sockets ≡ None → stage_held place sock world.sockets ≡ None
    → stage_held p n (with_socket (new_socket world from to from_host (end_of_nobody (Some place) (Some sock) Pending) peer) world).sockets ≡ new_there place sock p n (stage_held p n world.sockets)
unfolding or_end new_there
dialed_held place sock p n from to from_host peer world none free = ap (λ (o : Option (SockName × End)). stage_found o (store_in new world.sockets)) (new_found p n new world.sockets none) ∙ by_found (find_end p n world.sockets) refl where
  new : WorldSocket
  new = new_socket world from to from_host (end_of_nobody (Some place) (Some sock) Pending) peer

  it_is_new : (o : Option (SockName × End)) → find_end p n world.sockets ≡ o → (place == p) ≡ true → (sock == n) ≡ true → o ≡ None
  it_is_new o f c d = sym f ∙ ap (λ k. find_end k n world.sockets) (sym (number_is place p c)) ∙ ap (λ k. find_end place k world.sockets) (sym (number_is sock n d)) ∙ held_some place sock world.sockets free

  old_name : (a : SockName × End) → find_end p n world.sockets ≡ Some a → (b : Bool) → same_socket new.name a.0 ≡ b → Stands a.1 (cond b (Some new) (find (is_socket_named a.0) world.sockets)) ≡ Stands a.1 (find (is_socket_named a.0) world.sockets)
  old_name a f true h = let held = found_end p n world.sockets a f in let gone : find (is_socket_named a.0) world.sockets ≡ None = subst (λ (m : SockName). find (is_socket_named m) world.sockets ≡ None) (same_is new.name a.0 h) none in let there = held.is in absurd cc
  old_name a f false h = refl

  at_target : (b : Bool) → is_end_of p n new.t ≡ b → (c d : Bool) → ((c && d) ≡ false) → stage_found (or_end new.name None (cond b (Some T) None)) (store_in new world.sockets) ≡ cond c (cond d (Some Pending) None) None
  at_target true t c d e = let no = no_number (cell_of world peer) p n in absurd cc
  at_target false t true true e = absurd cc
  at_target false t true false e = refl
  at_target false t false d e = refl

  by_opener : (c d : Bool) → stage_found (or_end new.name None (cond (c && d) (Some O) (cond (is_end_of p n new.t) (Some T) None))) (store_in new world.sockets) ≡ cond c (cond d (Some Pending) None) None
  by_opener true true = ap (Stands O) (find_stored new world.sockets new.name ∙ ap (λ b. cond b (Some new) (find (is_socket_named new.name) world.sockets)) (self_same new.name))
  by_opener true false = at_target (is_end_of p n new.t) refl true false refl
  by_opener false d = at_target (is_end_of p n new.t) refl false d refl

  by_found : (o : Option (SockName × End)) → find_end p n world.sockets ≡ o → stage_found (elim o as (λ o. Option (SockName × End)) [
    | Some at ↦ Some at
    | None ↦ or_end new.name None (end_at p n new)
  ]) (store_in new world.sockets) ≡ cond (place == p) (cond (sock == n) (Some Pending) (stage_found o world.sockets)) (stage_found o world.sockets)
  by_found None f = by_opener (place == p) (sock == n)
  by_found (Some a) f = ap (Stands a.1) (find_stored new world.sockets a.0) ∙ old_name a f (same_socket new.name a.0) refl
      ∙ not_there (place == p) (sock == n) (Stands a.1 (find (is_socket_named a.0) world.sockets)) (λ c d. let gone = it_is_new (Some a) f c d in absurd cc)

-- ---- each step

either_same : {A : Type 0} (b : Bool) (x : A) → x ≡ cond b x x
either_same true x = refl
either_same false x = refl

at_end_held : (place sock p n : ℕ) (f : SockName × End → World → List Entry × World) (world : World) → ((at : SockName × End) (old : WorldSocket) → find_end place sock world.sockets ≡ Some at → find (is_socket_named at.0) world.sockets ≡ Some old → stage_held p n (f at world).1.sockets ≡ stage_held p n world.sockets) → stage_held p n (on_end place sock f world).1.sockets ≡ stage_held p n world.sockets
at_end_held place sock p n f world each = by_end (find_end place sock world.sockets) refl where
  told : Option (SockName × End) → List Entry × World
  told o = elim o as (λ o. List Entry × World) [
    | None ↦ ([], world)
    | Some at ↦ f at world
  ]

  by_end : (o : Option (SockName × End)) → find_end place sock world.sockets ≡ o → stage_held p n (told o).1.sockets ≡ stage_held p n world.sockets
  by_end None e = refl
  by_end (Some at) e = let held = found_end place sock world.sockets at e in each at held.socket e held.is

arrives_in_place : (bytes : List ℕ) (said : Option Place) → KeepsPlace (item_arrives bytes said)
arrives_in_place bytes said end = by_gone (is_ended end.stage || end.is_cut) where
  after : Bool → WorldEnd
  after b = cond b end (record end { unread = end.unread ++ bytes; places = end.places ++ said ∷ [] })

  by_gone : (b : Bool) → ((after b).cell ≡ end.cell) × ((after b).number ≡ end.number)
  by_gone true = (refl, refl)
  by_gone false = (refl, refl)

arrives_standing : (bytes : List ℕ) (said : Option Place) (end : WorldEnd) → (item_arrives bytes said end).stage ≡ end.stage
arrives_standing bytes said end = by_gone (is_ended end.stage || end.is_cut) where
  by_gone : (b : Bool) → (cond b end (record end { unread = end.unread ++ bytes; places = end.places ++ said ∷ [] })).stage ≡ end.stage
  by_gone true = refl
  by_gone false = refl

read_held : (p n : ℕ) (at : SockName × End) (world : World) (old : WorldSocket) → find (is_socket_named at.0) world.sockets ≡ Some old → stage_held p n (reads_item at world).1.sockets ≡ stage_held p n world.sockets
read_held p n at world old is = subst (λ (o : Option WorldSocket). stage_held p n (item_is_read at o world).sockets ≡ stage_held p n world.sockets) (sym is)
    (quiet_held p n at.0 at.1 (λ end. record end { places = later_places end.places }) world old is (λ end. (refl, refl)) (λ end. refl))

down_held : (place sock p n : ℕ) (f : SockName × End → World → List Entry × World) (world : World) → Distinct world.sockets → ((at : SockName × End) → (f at world).1 ≡ with_end_of at.0 at.1 ended world) → stage_held p n (on_end place sock f world).1.sockets ≡ over_there place sock p n (stage_held p n world.sockets)
unfolding over_there
down_held place sock p n f world d each = by_end (find_end place sock world.sockets) refl where
  told : Option (SockName × End) → List Entry × World
  told o = elim o as (λ o. List Entry × World) [
    | None ↦ ([], world)
    | Some at ↦ f at world
  ]

  none_held : find_end place sock world.sockets ≡ None → (place == p) ≡ true → (sock == n) ≡ true → stage_held p n world.sockets ≡ None
  none_held e c s = ap (λ (o : Option (SockName × End)). stage_found o world.sockets) (ap (λ k. find_end k n world.sockets) (sym (number_is place p c)) ∙ ap (λ k. find_end place k world.sockets) (sym (number_is sock n s)) ∙ e)

  by_tests : (c e : Bool) → (c ≡ true → e ≡ true → stage_held p n world.sockets ≡ None) → stage_held p n world.sockets ≡ cond c (cond e (option_map (λ (s : Stage). Ended) (stage_held p n world.sockets)) (stage_held p n world.sockets)) (stage_held p n world.sockets)
  by_tests true true h = h refl refl ∙ sym (ap (option_map (λ (s : Stage). Ended)) (h refl refl))
  by_tests true false h = refl
  by_tests false e h = refl

  by_end : (o : Option (SockName × End)) → find_end place sock world.sockets ≡ o → stage_held p n (told o).1.sockets ≡ over_there place sock p n (stage_held p n world.sockets)
  by_end None e = by_tests (place == p) (sock == n) (none_held e)
  by_end (Some at) e = let held = found_end place sock world.sockets at e in ap (λ (w : World). stage_held p n w.sockets) (each at) ∙ over_held place sock p n at world held.socket d e held.is

step_held : (journal : List Line) (log : List Entry) (place p n : ℕ) (cell : Cell) (step : Step) (world : World) → Good journal log world → ((m : ℕ) → IsNewTo m step (stage_held place m world.sockets))
    → stage_held p n (stepped place cell step world).1.sockets ≡ stage_there place p (stage_after n step (stage_held p n world.sockets)) (stage_held p n world.sockets)
unfolding over_there new_there
step_held journal log place p n cell (steps.Dial sock end peer) world g new = dialed_held place sock p n (called world.names (own_address cell.host end)) (called world.names peer) cell.host.host peer world
    (next_is_new world (called world.names (own_address cell.host end)) (called world.names peer) g.numbered) (new sock (number_same sock))
step_held journal log place p n cell (steps.Read sock) world g new = at_end_held place sock p n reads_item world (λ at old e is. read_held p n at world old is) ∙ either_same (place == p) (stage_held p n world.sockets)
step_held journal log place p n cell (steps.Write sock bytes said) world g new = at_end_held place sock p n (λ at now. (entries.Wrote at.0 at.1 bytes ∷ [], with_end_of at.0 (other at.1) (item_arrives bytes said) now)) world
    (λ at old e is. quiet_held p n at.0 (other at.1) (item_arrives bytes said) world old is (arrives_in_place bytes said) (arrives_standing bytes said)) ∙ either_same (place == p) (stage_held p n world.sockets)
step_held journal log place p n cell (steps.Up sock) world g new = at_end_held place sock p n (λ at now. (entries.Up at.0 at.1 ∷ [], now)) world (λ at old e is. refl) ∙ either_same (place == p) (stage_held p n world.sockets)
step_held journal log place p n cell (steps.Down sock) world g new = down_held place sock p n (λ at now. (entries.Down at.0 at.1 ∷ [], end_closes at now)) world g.apart (λ at. refl)
step_held journal log place p n cell (steps.Left sock) world g new = down_held place sock p n (λ at now. (entries.Left at.0 at.1 ∷ [], end_closes at now)) world g.apart (λ at. refl)
step_held journal log place p n cell (steps.Broke end peer why) world g new = either_same (place == p) (stage_held p n world.sockets)
step_held journal log place p n cell (steps.Post end event) world g new = either_same (place == p) (stage_held p n world.sockets)

-- ---- all that followed

two_there : (c : Bool) (f g : Option Stage → Option Stage) (stage : Option Stage) → cond c (g (cond c (f stage) stage)) (cond c (f stage) stage) ≡ cond c (g (f stage)) stage
two_there true f g stage = refl
two_there false f g stage = refl

pub told_held : (journal : List Line) (log : List Entry) (place p n : ℕ) (cell : Cell) (told : List LocalEntry) (world : World) → Good journal log world → ((m : ℕ) → AreNewTo m (steps_in told) (stage_held place m world.sockets))
    → stage_held p n (all_told place cell told world).1.sockets ≡ stage_there place p (stage_after_all n (steps_in told) (stage_held p n world.sockets)) (stage_held p n world.sockets)
told_held journal log place p n cell [] world g new = either_same (place == p) (stage_held p n world.sockets)
told_held journal log place p n cell (local.Note note ∷ rest) world g new = told_held journal (log ++ (local_told place cell (local.Note note) world).0) place p n cell rest (local_told place cell (local.Note note) world).1 (one_told (Good journal) (keeps_good journal) log place cell (local.Note note) world g) new
told_held journal log place p n cell (local.Step step ∷ rest) world g new =
    told_held journal (log ++ (stepped place cell step world).0) place p n cell rest (stepped place cell step world).1 (one_told (Good journal) (keeps_good journal) log place cell (local.Step step) world g)
    (λ m. subst (λ (s : Option Stage). AreNewTo m (steps_in rest) s) (sym (step_held journal log place place m cell step world g first ∙ here m)) (new m).1)
    ∙ ap (λ (s : Option Stage). stage_there place p (stage_after_all n (steps_in rest) s) s) (step_held journal log place p n cell step world g first)
    ∙ two_there (place == p) (stage_after n step) (stage_after_all n (steps_in rest)) (stage_held p n world.sockets)
  where
    first : (m : ℕ) → IsNewTo m step (stage_held place m world.sockets)
    first m = (new m).0

    here : (m : ℕ) → stage_there place place (stage_after m step (stage_held place m world.sockets)) (stage_held place m world.sockets) ≡ stage_after m step (stage_held place m world.sockets)
    here m = ap (λ b. cond b (stage_after m step (stage_held place m world.sockets)) (stage_held place m world.sockets)) (number_same place)
