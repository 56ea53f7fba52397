-- The log of a world tells how ends stand: each thing that happens keeps it so.
use Rattle.std.proofs.Common.{◌≡◌, ℕ, Bool, true, false, cond, ◌&&◌, List, [], ◌∷◌, ◌++◌, inl, inr, refl, sym, ap, ◌∙◌, subst, append_assoc}
use Rattle.std.proofs.lemmas.Bool.{and_parts, eqb-true}
use Rattle.std.proofs.lemmas.List.{append-nil}
use Rattle.std.specs.Option.{option_map}
use Rattle.std.specs.Prelude.{◌⊎◌, ◌==◌, ◌||◌, find, Option, Some, None, is_some}
use Rattle.ch_base.specs.declared.address.Address.{Address}
use Rattle.ch_model.specs.declared.entry.Entry.{Entry}
use Rattle.ch_model.specs.declared.entry.Entry.TheVariants as entries
use Rattle.ch_model.specs.declared.line.Line.{Line}
use Rattle.ch_model.specs.declared.local.LocalEntry.{LocalEntry}
use Rattle.ch_model.specs.declared.local.LocalEntry.TheVariants as local
use Rattle.ch_model.specs.declared.name.End.{End}
use Rattle.ch_model.specs.declared.name.End.TheVariants.{O, T}
use Rattle.ch_model.specs.declared.name.SockName.{SockName}
use Rattle.ch_model.specs.declared.note.Note.{Note}
use Rattle.ch_model.specs.declared.note.Note.TheVariants as notes
use Rattle.ch_model.specs.declared.step.Place.{Place}
use Rattle.ch_model.specs.declared.step.Step.{Step}
use Rattle.ch_model.specs.declared.step.Step.TheVariants as steps
use Rattle.ch_model.specs.HostSteps.{own_address}
use Rattle.ch_model.specs.Naming.{Names, called}
use Rattle.ch_model.specs.Links.{has_risen, is_closed}
use Rattle.ch_model.specs.Same.{same_socket}
use Rattle.ch_model.specs.Stages.{Pending, is_pending, is_ended}
use Rattle.ch_model.specs.WorldSockets.{end_of, with_end, other, ended, opened, item_arrives, end_of_nobody, target_end, cell_of, is_socket_named, store_in, with_end_of, same_number, is_end_of, end_at, find_end, next_name, new_socket}
use Rattle.ch_model.specs.WorldState.{Cell, WorldEnd, WorldSocket, World}
use Rattle.ch_model.specs.WorldSteps.{note_entry, on_end, later_places, item_is_read, reads_item, end_closes, stepped, local_told, all_told}
use Rattle.ch_laws_log.specs.HostEnds.{steps_in}
use Rattle.ch_laws_log.proofs.Agreeing.{Good, keeps_good, with_end_is}
use Rattle.ch_laws_log.proofs.Kept.{one_told}
use Rattle.ch_laws_log.proofs.Stored.{self_same, find_name, find_stored, found_end, Distinct, stored_distinct, same_is, next_is_new}
use Rattle.ch_laws_links.specs.Risings.{IsToldAs}
use Rattle.ch_laws_links.specs.Standing.{Standing, IsPending, IsOpen, IsRisen, IsOver, standing_after, standing_after_all, IsRight, AreRight}
use Rattle.ch_laws_links.proofs.Found.{IsKnown, stored_known, new_known, KeepsPlace, stored_found, same_found, found_kept, socket_kept}
use Rattle.ch_laws_links.proofs.Goes.{right_as}
use Rattle.ch_laws_links.proofs.Keys.{number_self}
use Rattle.ch_laws_links.proofs.Risen.{IsUntold, Agrees, IsQuiet, quietly, restand, rekept, set_at, unseen_at, up_told, down_told, left_told, wrote_told, opened_told}

-- ---- an end that comes

pub came_told : (now : ℕ → ℕ → Option Standing) (log : List Entry) (world : World) (name : SockName) (old : WorldSocket) (place number : ℕ) → find (is_socket_named name) world.sockets ≡ Some old → is_pending old.t.stage ≡ true → old.t.cell ≡ Some place → now place number ≡ None
    → Agrees now log world.sockets → Agrees (set_at place number (λ x. Some IsOpen) now) log (with_end_of name T (λ end. record (opened end) { number = Some number }) world).sockets
came_told now log world name old place number is pending at none a = subst (λ (w : World). Agrees next log w.sockets) (sym (with_end_is name T f world old is)) (record {
  held = λ p n there e. by_both p n there e ((place == p) && (number == n)) refl;
  unheld = λ s e socket found u. by_name s e socket (same_socket old.name s) refl (sym (find_stored new world.sockets s) ∙ found) u;
  unopened = λ s e found. none_of s e (same_socket old.name s) (sym (find_stored new world.sockets s) ∙ found);
  waiting = λ s socket found p. by_waiting s socket (same_socket old.name s) (sym (find_stored new world.sockets s) ∙ found) p;
  known = λ p n h. by_known p n ((place == p) && (number == n)) refl h;
  over = λ s e socket found c. by_over s e socket (same_socket old.name s) refl (sym (find_stored new world.sockets s) ∙ found) c;
  well = a.well;
}) where
  f : WorldEnd → WorldEnd
  f end = record (opened end) { number = Some number }

  new : WorldSocket
  new = with_end T (f old.t) old

  next : ℕ → ℕ → Option Standing
  next = set_at place number (λ x. Some IsOpen) now

  is_old : find (is_socket_named new.name) world.sockets ≡ Some old
  is_old = subst (λ (s : SockName). find (is_socket_named s) world.sockets ≡ Some old) (sym (find_name name world.sockets old is)) is

  unnumbered : old.t.number ≡ None
  unnumbered = a.waiting name old is pending

  and_false : (b : Bool) → (b && false) ≡ false
  and_false true = refl
  and_false false = refl

  old_target : (p n : ℕ) → is_end_of p n old.t ≡ false
  old_target p n = ap (λ (o : Option ℕ). same_number old.t.cell p && same_number o n) unnumbered ∙ and_false (same_number old.t.cell p)

  new_target : (p n : ℕ) → is_end_of p n new.t ≡ ((place == p) && (number == n))
  new_target p n = ap (λ (o : Option ℕ). same_number o p && (number == n)) at

  new_end : (p n : ℕ) → ((place == p) && (number == n)) ≡ true → (b : Bool) → is_end_of p n old.o ≡ b → is_some (end_at p n new) ≡ true
  new_end p n h true o = ap (λ b. is_some (cond b (Some O) (cond (is_end_of p n new.t) (Some T) None))) o
  new_end p n h false o = ap (λ b. is_some (cond b (Some O) (cond (is_end_of p n new.t) (Some T) None))) o ∙ ap (λ b. is_some (cond {A = Option End} b (Some T) None)) (new_target p n ∙ h)

  same_ends : (p n : ℕ) → ((place == p) && (number == n)) ≡ false → end_at p n new ≡ end_at p n old
  same_ends p n h = ap (λ b. cond (is_end_of p n old.o) (Some O) (cond b (Some T) None)) (new_target p n ∙ h ∙ sym (old_target p n))

  by_known : (p n : ℕ) (b : Bool) → ((place == p) && (number == n)) ≡ b → is_some (cond b (Some IsOpen) (now p n)) ≡ true → IsKnown p n (store_in new world.sockets)
  by_known p n true h s = new_known p n new world.sockets (new_end p n h (is_end_of p n old.o) refl)
  by_known p n false h s = stored_known p n new world.sockets (λ w is k. ap is_some (same_ends p n h) ∙ subst (λ (v : WorldSocket). is_some (end_at p n v) ≡ true) (the_old w (sym is ∙ is_old)) k) (a.known p n s) where
    the_old : (w : WorldSocket) → ◌≡◌ {A = Option WorldSocket} (Some w) (Some old) → w ≡ old
    the_old w e = cc

  not_there : (p n : ℕ) (there : SockName × End) → ((place == p) && (number == n)) ≡ true → find_end p n world.sockets ≡ Some there → ⊥
  not_there p n there h e = let parts = and_parts (place == p) (number == n) h in
      subst (λ (o : Option Standing). IsToldAs o (has_risen log there.0 there.1) (is_closed log there.0 there.1)) (ap (λ (k : ℕ). now k n) (sym (eqb-true place p parts.0)) ∙ ap (now place) (sym (eqb-true number n parts.1)) ∙ none) (a.held p n there e)

  none_old : (p n : ℕ) → is_end_of p n old.o ≡ false → end_at p n old ≡ None
  none_old p n h = ap (λ b. cond b (Some O) (cond (is_end_of p n old.t) (Some T) None)) h ∙ ap (λ b. cond {A = Option End} b (Some T) None) (old_target p n)

  some_end : (e : End) → ◌≡◌ {A = Option End} (Some T) (Some e) → T ≡ e
  some_end e h = cc

  by_found : (p n : ℕ) (there : SockName × End) → ((place == p) && (number == n)) ≡ true → is_end_of p n old.o ≡ false → (find_end p n world.sockets ≡ Some there) ⊎ ((end : End) × (end_at p n new ≡ Some end) × (there ≡ (new.name, end)))
      → IsUntold log there.0 there.1
  by_found p n there h o (inl e) = absurd (not_there p n there h e)
  by_found p n there h o (inr e) = let end_is : ◌≡◌ {A = Option End} (Some T) (Some e.0) = sym (ap (λ b. cond b (Some O) (cond (is_end_of p n new.t) (Some T) None)) o ∙ ap (λ b. cond {A = Option End} b (Some T) None) (new_target p n ∙ h)) ∙ e.1 in
      subst (λ (m : SockName × End). IsUntold log m.0 m.1) (sym (e.2 ∙ ap (λ (x : End). (new.name, x)) (sym (some_end e.0 end_is)))) (a.unheld new.name T old is_old unnumbered)

  by_opener : (p n : ℕ) (there : SockName × End) → find_end p n (store_in new world.sockets) ≡ Some there → ((place == p) && (number == n)) ≡ true → (b : Bool) → is_end_of p n old.o ≡ b → IsUntold log there.0 there.1
  by_opener p n there e h true o = absurd (not_there p n there h (sym (same_found p n new old world.sockets is_old (ap (λ b. cond b (Some O) (cond (is_end_of p n new.t) (Some T) None)) o ∙ sym (ap (λ b. cond b (Some O) (cond (is_end_of p n old.t) (Some T) None)) o))) ∙ e))
  by_opener p n there e h false o = by_found p n there h o (stored_found p n new world.sockets there (λ x known k. let same : old ≡ known = some_socket known (sym is_old ∙ k) in subst (λ (w : WorldSocket). end_at p n w ≡ None) same (none_old p n o)) e) where
    some_socket : (w : WorldSocket) → ◌≡◌ {A = Option WorldSocket} (Some old) (Some w) → old ≡ w
    some_socket w h = cc

  by_both : (p n : ℕ) (there : SockName × End) → find_end p n (store_in new world.sockets) ≡ Some there → (b : Bool) → ((place == p) && (number == n)) ≡ b → IsToldAs (cond b (Some IsOpen) (now p n)) (has_risen log there.0 there.1) (is_closed log there.0 there.1)
  by_both p n there e true h = by_opener p n there e h (is_end_of p n old.o) refl
  by_both p n there e false h = a.held p n there (sym (same_found p n new old world.sockets is_old (same_ends p n h)) ∙ e)

  by_name : (s : SockName) (e : End) (socket : WorldSocket) (b : Bool) → same_socket old.name s ≡ b → cond b (Some new) (find (is_socket_named s) world.sockets) ≡ Some socket → (end_of e socket).number ≡ None → IsUntold log s e
  by_name s e socket true h found u = let same : new ≡ socket = cc in by_end e (subst (λ (w : WorldSocket). (end_of e w).number ≡ None) (sym same) u) where
    by_end : (e : End) → (end_of e new).number ≡ None → IsUntold log s e
    by_end O u = a.unheld s O old (subst (λ (m : SockName). find (is_socket_named m) world.sockets ≡ Some old) (same_is old.name s h) is_old) u
    by_end T u = absurd cc
  by_name s e socket false h found u = a.unheld s e socket found u

  by_over : (s : SockName) (e : End) (socket : WorldSocket) (b : Bool) → same_socket old.name s ≡ b → cond b (Some new) (find (is_socket_named s) world.sockets) ≡ Some socket → is_closed log s e ≡ true → is_ended (end_of e socket).stage ≡ true
  by_over s e socket true h found c = let same : new ≡ socket = cc in subst (λ (w : WorldSocket). is_ended (end_of e w).stage ≡ true) same (by_end e c) where
    here : find (is_socket_named s) world.sockets ≡ Some old
    here = subst (λ (m : SockName). find (is_socket_named m) world.sockets ≡ Some old) (same_is old.name s h) is_old

    clash : (b : Bool) → b ≡ true → b ≡ false → ⊥
    clash b t f = absurd cc

    by_end : (e : End) → is_closed log s e ≡ true → is_ended (end_of e new).stage ≡ true
    by_end O c = a.over s O old here c
    by_end T c = absurd (clash (is_closed log s T) c (a.unheld s T old here unnumbered).1)
  by_over s e socket false h found c = a.over s e socket found c

  none_of : (s : SockName) (e : End) (b : Bool) → cond b (Some new) (find (is_socket_named s) world.sockets) ≡ None → IsUntold log s e
  none_of s e true found = absurd cc
  none_of s e false found = a.unopened s e found

  by_waiting : (s : SockName) (socket : WorldSocket) (b : Bool) → cond b (Some new) (find (is_socket_named s) world.sockets) ≡ Some socket → is_pending socket.t.stage ≡ true → socket.t.number ≡ None
  by_waiting s socket true found p = let same : new ≡ socket = cc in absurd (clash (subst (λ (w : WorldSocket). is_pending w.t.stage ≡ true) (sym same) p)) where
    clash : false ≡ true → ⊥
    clash e = cc
  by_waiting s socket false found p = a.waiting s socket found p

-- ---- a step that a cell tells

-- how ends stand after a step of the cell at this place, and after some
abbrev pub stepped_now : ℕ → Step → (ℕ → ℕ → Option Standing) → ℕ → ℕ → Option Standing
stepped_now place step now p n = cond (place == p) (standing_after step n (now p n)) (now p n)

abbrev pub told_now : ℕ → List Step → (ℕ → ℕ → Option Standing) → ℕ → ℕ → Option Standing
told_now place told now p n = cond (place == p) (standing_after_all told n (now p n)) (now p n)

pub as_stood : (now next : ℕ → ℕ → Option Standing) (log : List Entry) (all : List WorldSocket) → ((p n : ℕ) → now p n ≡ next p n) → Agrees now log all → Agrees next log all
as_stood now next log all e a = restand now next log all (λ p n r c t. subst (λ (o : Option Standing). IsToldAs o r c) (e p n) t) (λ p n h. ap is_some (e p n) ∙ h) a

nest : {A : Type 0} (a b : Bool) (y x : A) → cond (a && b) y x ≡ cond a (cond b y x) x
nest true b y x = refl
nest false b y x = refl

plain_now : {A : Type 0} (a : Bool) (x : A) → x ≡ cond a x x
plain_now true x = refl
plain_now false x = refl

still_some : (f : Standing → Standing) (x : Option Standing) → is_some (option_map f x) ≡ true → is_some x ≡ true
still_some f None h = absurd cc
still_some f (Some s) h = refl

-- of an end that the cell has under the number, or of none
at_end : (next : ℕ → ℕ → Option Standing) (log : List Entry) (place sock : ℕ) (f : SockName × End → World → List Entry × World) (world : World) → (find_end place sock world.sockets ≡ None → Agrees next log world.sockets)
    → ((at : SockName × End) (old : WorldSocket) → find_end place sock world.sockets ≡ Some at → find (is_socket_named at.0) world.sockets ≡ Some old → Agrees next (log ++ (f at world).0) (f at world).1.sockets) → Agrees next (log ++ (on_end place sock f world).0) (on_end place sock f world).1.sockets
at_end next log place sock f world nowhere there = by_end (find_end place sock world.sockets) refl where
  told : Option (SockName × End) → List Entry × World
  told o = elim o as (λ o. List Entry × World) [
    | None ↦ ([], world)
    | Some at ↦ f at world
  ]

  by_end : (o : Option (SockName × End)) → find_end place sock world.sockets ≡ o → Agrees next (log ++ (told o).0) (told o).1.sockets
  by_end None e = subst (λ (l : List Entry). Agrees next l world.sockets) (sym (append-nil log)) (nowhere e)
  by_end (Some at) e = let held = found_end place sock world.sockets at e in there at held.socket e held.is

arrives_in_place : (bytes : List ℕ) (said : Option Place) → KeepsPlace (item_arrives bytes said)
arrives_in_place bytes said end = by_gone (is_ended end.stage || end.is_cut) where
  after : Bool → WorldEnd
  after b = cond b end (record end { unread = end.unread ++ bytes; places = end.places ++ said ∷ [] })

  by_gone : (b : Bool) → ((after b).cell ≡ end.cell) × ((after b).number ≡ end.number) × (is_pending (after b).stage ≡ true → is_pending end.stage ≡ true)
  by_gone true = (refl, refl, λ h. h)
  by_gone false = (refl, refl, λ h. h)

ends_in_place : KeepsPlace ended
ends_in_place end = (refl, refl, λ h. absurd cc)

-- the end is found again where it has ended
found_after : (place sock : ℕ) (at : SockName × End) (f : WorldEnd → WorldEnd) (world : World) (old : WorldSocket) → find (is_socket_named at.0) world.sockets ≡ Some old → KeepsPlace f → find_end place sock world.sockets ≡ Some at → find_end place sock (with_end_of at.0 at.1 f world).sockets ≡ Some at
found_after place sock at f world old is k e = found_kept place sock at.0 at.1 f world old is k ∙ e

distinct_after : (at : SockName × End) (f : WorldEnd → WorldEnd) (world : World) (old : WorldSocket) → find (is_socket_named at.0) world.sockets ≡ Some old → Distinct world.sockets → Distinct (with_end_of at.0 at.1 f world).sockets
distinct_after at f world old is d = subst (λ (w : World). Distinct w.sockets) (sym (with_end_is at.0 at.1 f world old is)) (stored_distinct (with_end at.1 (f (end_of at.1 old)) old) world.sockets d)

arrives_ended : (bytes : List ℕ) (said : Option Place) (end : WorldEnd) → is_ended end.stage ≡ true → is_ended (item_arrives bytes said end).stage ≡ true
arrives_ended bytes said end h = by_gone (is_ended end.stage || end.is_cut) where
  by_gone : (b : Bool) → is_ended (cond b end (record end { unread = end.unread ++ bytes; places = end.places ++ said ∷ [] })).stage ≡ true
  by_gone true = h
  by_gone false = h

-- the end has ended in its socket
over_after : (at : SockName × End) (world : World) (old : WorldSocket) → find (is_socket_named at.0) world.sockets ≡ Some old → (socket : WorldSocket) → find (is_socket_named at.0) (end_closes at world).sockets ≡ Some socket → is_ended (end_of at.1 socket).stage ≡ true
over_after at world old is socket found = subst (λ (w : WorldSocket). is_ended (end_of at.1 w).stage ≡ true) (some_socket (with_end at.1 (ended (end_of at.1 old)) old) (sym (socket_kept at.0 at.1 ended world old at.0 is ∙ ap (λ b. cond b (Some (with_end at.1 (ended (end_of at.1 old)) old)) (find (is_socket_named at.0) world.sockets)) (self_same at.0)) ∙ found)) (by_end at.1) where
  some_socket : (w : WorldSocket) → ◌≡◌ {A = Option WorldSocket} (Some w) (Some socket) → w ≡ socket
  some_socket w e = cc

  by_end : (e : End) → is_ended (end_of e (with_end e (ended (end_of e old)) old)).stage ≡ true
  by_end O = refl
  by_end T = refl

read_told : (now : ℕ → ℕ → Option Standing) (log : List Entry) (at : SockName × End) (world : World) (old : WorldSocket) → find (is_socket_named at.0) world.sockets ≡ Some old → Agrees now log world.sockets → Agrees now log (reads_item at world).1.sockets
read_told now log at world old is a = subst (λ (o : Option WorldSocket). Agrees now log (item_is_read at o world).sockets) (sym is) (rekept now log world at.0 at.1 (λ end. record end { places = later_places end.places }) old is (λ end. (refl, refl, λ h. h)) (λ h. h) a)

-- a new socket's target end has no number
pub target_unnumbered : (o : Option ℕ) → (target_end o).number ≡ None
target_unnumbered None = refl
target_unnumbered (Some cell) = refl

dial_told : (now : ℕ → ℕ → Option Standing) (log : List Entry) (place sock : ℕ) (from to from_host : List ℕ) (peer : Address) (world : World) → find (is_socket_named (next_name world from to)) world.sockets ≡ None → now place sock ≡ None → Agrees now log world.sockets
    → Agrees (set_at place sock (λ x. Some IsPending) now) log (store_in (new_socket world from to from_host (end_of_nobody (Some place) (Some sock) Pending) peer) world.sockets)
dial_told now log place sock from to from_host peer world is_new none a = opened_told now next log world.sockets new is_new before first from_dial (target_unnumbered (cell_of world peer)) a where
  new : WorldSocket
  new = new_socket world from to from_host (end_of_nobody (Some place) (Some sock) Pending) peer

  next : ℕ → ℕ → Option Standing
  next = set_at place sock (λ x. Some IsPending) now

  before : (p n : ℕ) (r c : Bool) → IsToldAs (now p n) r c → IsToldAs (next p n) r c
  before p n r c t = by_both ((place == p) && (sock == n)) refl where
    by_both : (b : Bool) → ((place == p) && (sock == n)) ≡ b → IsToldAs (cond b (Some IsPending) (now p n)) r c
    by_both true h = let parts = and_parts (place == p) (sock == n) h in
        absurd (subst (λ (o : Option Standing). IsToldAs o r c) (ap (λ (k : ℕ). now k n) (sym (eqb-true place p parts.0)) ∙ ap (now place) (sym (eqb-true sock n parts.1)) ∙ none) t)
    by_both false h = t

  from_dial : (p n : ℕ) → is_some (next p n) ≡ true → (is_some (now p n) ≡ true) ⊎ (is_some (end_at p n new) ≡ true)
  from_dial p n h = by_both ((place == p) && (sock == n)) h where
    by_both : (b : Bool) → is_some (cond b (Some IsPending) (now p n)) ≡ true → (is_some (now p n) ≡ true) ⊎ (is_some (cond b (Some O) (cond (is_end_of p n new.t) (Some T) None)) ≡ true)
    by_both true h = inr refl
    by_both false h = inl h

  and_false : (b : Bool) → (b && false) ≡ false
  and_false true = refl
  and_false false = refl

  target_other : (p n : ℕ) → is_end_of p n new.t ≡ false
  target_other p n = ap (λ (o : Option ℕ). same_number new.t.cell p && same_number o n) (target_unnumbered (cell_of world peer)) ∙ and_false (same_number new.t.cell p)

  first : (p n : ℕ) (end : End) (r c : Bool) → end_at p n new ≡ Some end → r ≡ false → c ≡ false → IsToldAs (next p n) r c
  first p n end r c h x y = by_both ((place == p) && (sock == n)) (h) where
    by_both : (b : Bool) → cond b (Some O) (cond (is_end_of p n new.t) (Some T) None) ≡ Some end → IsToldAs (cond b (Some IsPending) (now p n)) r c
    by_both true h = (x, y)
    by_both false h = absurd (clash (sym (ap (λ b. cond {A = Option End} b (Some T) None) (target_other p n)) ∙ h)) where
      clash : ◌≡◌ {A = Option End} None (Some end) → ⊥
      clash e = cc

step_told : (journal : List Line) (log : List Entry) (place : ℕ) (cell : Cell) (step : Step) (world : World) (now : ℕ → ℕ → Option Standing) → Good journal log world → IsRight (now place) step → Agrees now log world.sockets
    → Agrees (stepped_now place step now) (log ++ (stepped place cell step world).0) (stepped place cell step world).1.sockets
step_told journal log place cell (steps.Dial sock end peer) world now g right a = quietly (stepped_now place (steps.Dial sock end peer) now) log _ (entries.Dial (next_name world (called world.names (own_address cell.host end)) (called world.names peer))) tt
    (as_stood (set_at place sock (λ x. Some IsPending) now) (stepped_now place (steps.Dial sock end peer) now) log _ (λ p n. nest (place == p) (sock == n) (Some IsPending) (now p n))
    (dial_told now log place sock (called world.names (own_address cell.host end)) (called world.names peer) cell.host.host peer world (next_is_new world (called world.names (own_address cell.host end)) (called world.names peer) g.numbered) right a))
step_told journal log place cell (steps.Read sock) world now g right a = as_stood now (stepped_now place (steps.Read sock) now) (log ++ (on_end place sock reads_item world).0) (on_end place sock reads_item world).1.sockets (λ p n. plain_now (place == p) (now p n))
    (at_end now log place sock reads_item world (λ e. a) (λ at old e is. subst (λ (l : List Entry). Agrees now l (reads_item at world).1.sockets) (sym (append-nil log)) (read_told now log at world old is a)))
step_told journal log place cell (steps.Write sock bytes said) world now g right a = as_stood now (stepped_now place (steps.Write sock bytes said) now) (log ++ (stepped place cell (steps.Write sock bytes said) world).0) (stepped place cell (steps.Write sock bytes said) world).1.sockets (λ p n. plain_now (place == p) (now p n))
    (at_end now log place sock (λ at then. (entries.Wrote at.0 at.1 bytes ∷ [], with_end_of at.0 (other at.1) (item_arrives bytes said) then)) world (λ e. a)
    (λ at old e is. wrote_told now log (with_end_of at.0 (other at.1) (item_arrives bytes said) world).sockets place sock at bytes (found_kept place sock at.0 (other at.1) (item_arrives bytes said) world old is (arrives_in_place bytes said) ∙ e) right
    (rekept now log world at.0 (other at.1) (item_arrives bytes said) old is (arrives_in_place bytes said) (arrives_ended bytes said (end_of (other at.1) old)) a)))
step_told journal log place cell (steps.Up sock) world now g right a = as_stood (set_at place sock g_up now) (stepped_now place (steps.Up sock) now) (log ++ (stepped place cell (steps.Up sock) world).0) (stepped place cell (steps.Up sock) world).1.sockets (λ p n. nest (place == p) (sock == n) (g_up (now p n)) (now p n))
    (at_end (set_at place sock g_up now) log place sock (λ at then. (entries.Up at.0 at.1 ∷ [], then)) world (λ e. unseen_at now log world.sockets place sock g_up (still_some (λ s. IsRisen)) e a) (λ at old e is. up_told now log world.sockets place sock at g.apart e right a)) where
      g_up : Option Standing → Option Standing
      g_up = option_map (λ (s : Standing). IsRisen)
step_told journal log place cell (steps.Down sock) world now g right a = as_stood (set_at place sock g_over now) (stepped_now place (steps.Down sock) now) (log ++ (stepped place cell (steps.Down sock) world).0) (stepped place cell (steps.Down sock) world).1.sockets (λ p n. nest (place == p) (sock == n) (g_over (now p n)) (now p n))
    (at_end (set_at place sock g_over now) log place sock (λ at then. (entries.Down at.0 at.1 ∷ [], end_closes at then)) world (λ e. unseen_at now log world.sockets place sock g_over (still_some (λ s. IsOver)) e a)
    (λ at old e is. down_told now log (end_closes at world).sockets place sock at (distinct_after at ended world old is g.apart) (found_after place sock at ended world old is ends_in_place e) (over_after at world old is) right (rekept now log world at.0 at.1 ended old is ends_in_place (λ h. refl) a))) where
      g_over : Option Standing → Option Standing
      g_over = option_map (λ (s : Standing). IsOver)
step_told journal log place cell (steps.Left sock) world now g right a = as_stood (set_at place sock g_over now) (stepped_now place (steps.Left sock) now) (log ++ (stepped place cell (steps.Left sock) world).0) (stepped place cell (steps.Left sock) world).1.sockets (λ p n. nest (place == p) (sock == n) (g_over (now p n)) (now p n))
    (at_end (set_at place sock g_over now) log place sock (λ at then. (entries.Left at.0 at.1 ∷ [], end_closes at then)) world (λ e. unseen_at now log world.sockets place sock g_over (still_some (λ s. IsOver)) e a)
    (λ at old e is. left_told now log (end_closes at world).sockets place sock at (distinct_after at ended world old is g.apart) (found_after place sock at ended world old is ends_in_place e) (over_after at world old is) right (rekept now log world at.0 at.1 ended old is ends_in_place (λ h. refl) a))) where
      g_over : Option Standing → Option Standing
      g_over = option_map (λ (s : Standing). IsOver)
step_told journal log place cell (steps.Broke end peer why) world now g right a = quietly (stepped_now place (steps.Broke end peer why) now) log world.sockets (entries.Broke (called world.names (own_address cell.host end)) (called world.names peer) why) tt
    (as_stood now (stepped_now place (steps.Broke end peer why) now) log world.sockets (λ p n. plain_now (place == p) (now p n)) a)
step_told journal log place cell (steps.Post end event) world now g right a = subst (λ (l : List Entry). Agrees (stepped_now place (steps.Post end event) now) l world.sockets) (sym (append-nil log)) (as_stood now (stepped_now place (steps.Post end event) now) log world.sockets (λ p n. plain_now (place == p) (now p n)) a)

-- ---- all that followed

pub note_quiet : (known : Names) (last : Option Place) (note : Note) → IsQuiet (note_entry known last note)
note_quiet known last (notes.Made process origin) = tt
note_quiet known last note = tt

pub all_agrees : (journal : List Line) (log : List Entry) (place : ℕ) (cell : Cell) (told : List LocalEntry) (world : World) (now : ℕ → ℕ → Option Standing) → Good journal log world → AreRight (now place) (steps_in told) → Agrees now log world.sockets
    → Agrees (told_now place (steps_in told) now) (log ++ (all_told place cell told world).0) (all_told place cell told world).1.sockets
all_agrees journal log place cell [] world now g right a = subst (λ (l : List Entry). Agrees (told_now place [] now) l world.sockets) (sym (append-nil log)) (as_stood now (told_now place [] now) log world.sockets (λ p n. plain_now (place == p) (now p n)) a)
all_agrees journal log place cell (local.Note note ∷ rest) world now g right a = subst (λ (l : List Entry). Agrees (told_now place (steps_in rest) now) l (all_told place cell rest next).1.sockets) (append_assoc log (note_entry world.names world.last note ∷ []) (all_told place cell rest next).0)
    (all_agrees journal (log ++ note_entry world.names world.last note ∷ []) place cell rest next now (one_told (Good journal) (keeps_good journal) log place cell (local.Note note) world g) right (quietly now log world.sockets (note_entry world.names world.last note) (note_quiet world.names world.last note) a)) where
      next : World
      next = (local_told place cell (local.Note note) world).1
all_agrees journal log place cell (local.Step step ∷ rest) world now g right a = subst (λ (l : List Entry). Agrees (told_now place (step ∷ steps_in rest) now) l (all_told place cell rest next).1.sockets) (append_assoc log (stepped place cell step world).0 (all_told place cell rest next).0)
    (as_stood (told_now place (steps_in rest) now2) (told_now place (step ∷ steps_in rest) now) ((log ++ (stepped place cell step world).0) ++ (all_told place cell rest next).0) (all_told place cell rest next).1.sockets (λ p n. two (place == p) n (now p n))
    (all_agrees journal (log ++ (stepped place cell step world).0) place cell rest next now2 (one_told (Good journal) (keeps_good journal) log place cell (local.Step step) world g)
    (right_as (λ n. standing_after step n (now place n)) (now2 place) (λ n. sym (ap (λ b. cond b (standing_after step n (now place n)) (now place n)) (number_self place))) (steps_in rest) right.1)
    (step_told journal log place cell step world now g right.0 a))) where
      next : World
      next = (stepped place cell step world).1

      now2 : ℕ → ℕ → Option Standing
      now2 = stepped_now place step now

      two : (b : Bool) (n : ℕ) (x : Option Standing) → cond b (standing_after_all (steps_in rest) n (cond b (standing_after step n x) x)) (cond b (standing_after step n x) x) ≡ cond b (standing_after_all (steps_in rest) n (standing_after step n x)) x
      two true n x = refl
      two false n x = refl
