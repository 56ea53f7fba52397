-- The opener's ends of some sockets have ended, and stay so.
use Rattle.std.proofs.Common.{◌≡◌, ℕ, Bool, true, false, cond, ◌||◌, List, [], ◌∷◌, ◌++◌, refl, sym, ap, ◌∙◌, subst}
use Rattle.std.proofs.lemmas.List.Folds.{list_any-append}
use Rattle.std.specs.List.{list_any}
use Rattle.std.specs.Prelude.{find, Option, Some, None}
use Rattle.ch_model.specs.declared.entry.Entry.{Entry}
use Rattle.ch_model.specs.declared.entry.Entry.TheVariants as entries
use Rattle.ch_model.specs.declared.line.Line.{Line}
use Rattle.ch_model.specs.declared.local.LocalEntry.{LocalEntry}
use Rattle.ch_model.specs.declared.local.LocalEntry.TheVariants as local
use Rattle.ch_model.specs.declared.name.End.{End}
use Rattle.ch_model.specs.declared.name.End.TheVariants.{O, T}
use Rattle.ch_model.specs.declared.name.SockName.{SockName}
use Rattle.ch_model.specs.declared.note.Note.{Note}
use Rattle.ch_model.specs.declared.note.Note.TheVariants as notes
use Rattle.ch_model.specs.declared.step.Place.{Place}
use Rattle.ch_model.specs.declared.step.Step.{Step}
use Rattle.ch_model.specs.declared.step.Step.TheVariants as steps
use Rattle.ch_model.specs.AnswersEntries.{refuses}
use Rattle.ch_model.specs.HostSteps.{own_address}
use Rattle.ch_model.specs.Naming.{Names, called}
use Rattle.ch_model.specs.Same.{same_socket}
use Rattle.ch_model.specs.Stages.{Stage, Pending, Open, Ended, is_ended}
use Rattle.ch_model.specs.WorldSockets.{end_of, other, with_end, ended, item_arrives, end_of_nobody, is_socket_named, store_in, with_socket, with_end_of, find_end, new_socket}
use Rattle.ch_model.specs.WorldState.{Cell, WorldEnd, WorldSocket, World}
use Rattle.ch_model.specs.WorldSteps.{note_entry, on_end, reads_item, end_closes, local_told, all_told}
use Rattle.ch_laws_log.proofs.Agreeing.{Good, keeps_good}
use Rattle.ch_laws_log.proofs.Kept.{one_told}
use Rattle.ch_laws_log.proofs.Stored.{same_is, find_stored, next_is_new}
use Rattle.ch_laws_ends.proofs.Changes.{GoesOn, Changes, OnDial, step_as}
use Rattle.ch_laws_ends.proofs.Found.{new_name}

-- Of the sockets of these names the opener's ends have ended; and all of these names are of sockets.
pub record Over (these : SockName → Bool) (sockets : List WorldSocket) : Type 0 where
  pub have_ended : (s : SockName) (socket : WorldSocket) → these s ≡ true → find (is_socket_named s) sockets ≡ Some socket → is_ended socket.o.stage ≡ true
  pub are_there : (s : SockName) → find (is_socket_named s) sockets ≡ None → these s ≡ false

-- the sockets whose dials were refused
abbrev pub refused_in : List Entry → SockName → Bool
refused_in log s = list_any (refuses s) log

pub same_over : (these those : SockName → Bool) (sockets : List WorldSocket) → ((s : SockName) → those s ≡ these s) → Over these sockets → Over those sockets
same_over these those sockets same o = record { have_ended = λ s socket p f. o.have_ended s socket (sym (same s) ∙ p) f; are_there = λ s f. same s ∙ o.are_there s f }

-- ---- sockets that change and come

pub none_stored : (new : WorldSocket) (sockets : List WorldSocket) (s : SockName) → find (is_socket_named s) (store_in new sockets) ≡ None → (same_socket new.name s ≡ false) × (find (is_socket_named s) sockets ≡ None)
none_stored new sockets s f = by_name (same_socket new.name s) refl (sym (find_stored new sockets s) ∙ f) where
  by_name : (b : Bool) → same_socket new.name s ≡ b → cond b (Some new) (find (is_socket_named s) sockets) ≡ None → (same_socket new.name s ≡ false) × (find (is_socket_named s) sockets ≡ None)
  by_name true h f = absurd cc
  by_name false h f = (h, f)

stored_over : (these : SockName → Bool) (new : WorldSocket) (sockets : List WorldSocket) → (these new.name ≡ true → is_ended new.o.stage ≡ true) → Over these sockets → Over these (store_in new sockets)
stored_over these new sockets own o = record {
  have_ended = λ s socket p f. by_name s socket p (same_socket new.name s) refl (sym (find_stored new sockets s) ∙ f);
  are_there = λ s f. o.are_there s (none_stored new sockets s f).1;
} where
  by_name : (s : SockName) (socket : WorldSocket) → these s ≡ true → (b : Bool) → same_socket new.name s ≡ b → cond b (Some new) (find (is_socket_named s) sockets) ≡ Some socket → is_ended socket.o.stage ≡ true
  by_name s socket p true h f = let is : new ≡ socket = cc in subst (λ (w : WorldSocket). is_ended w.o.stage ≡ true) is (own (subst (λ (n : SockName). these n ≡ true) (sym (same_is new.name s h)) p))
  by_name s socket p false h f = o.have_ended s socket p f

pub new_over : (these : SockName → Bool) (new : WorldSocket) (sockets : List WorldSocket) → find (is_socket_named new.name) sockets ≡ None → Over these sockets → Over these (store_in new sockets)
new_over these new sockets none o = stored_over these new sockets (λ p. let not_there = o.are_there new.name none in absurd cc) o

pub end_over : (these : SockName → Bool) (s : SockName) (e : End) (f : WorldEnd → WorldEnd) (world : World) → ((old : WorldSocket) → find (is_socket_named s) world.sockets ≡ Some old → is_ended old.o.stage ≡ true → is_ended (with_end e (f (end_of e old)) old).o.stage ≡ true) → Over these world.sockets → Over these (with_end_of s e f world).sockets
end_over these s e f world keeps o = by_socket (find (is_socket_named s) world.sockets) refl where
  by_socket : (found : Option WorldSocket) → find (is_socket_named s) world.sockets ≡ found → Over these (elim found as (λ o. World) [
    | None ↦ world
    | Some socket ↦ with_socket (with_end e (f (end_of e socket)) socket) world
  ]).sockets
  by_socket None is = o
  by_socket (Some old) is = stored_over these (with_end e (f (end_of e old)) old) world.sockets
      (λ p. keeps old is (o.have_ended s old (subst (λ (n : SockName). these n ≡ true) (new_name s e (f (end_of e old)) world.sockets old is) p) is)) o

still_ended : (a b : Stage) → GoesOn a b → is_ended a ≡ true → is_ended b ≡ true
still_ended a Ended g e = refl
still_ended Ended Pending g e = absurd g
still_ended Ended Open g e = absurd g
still_ended Pending Pending g e = e
still_ended Pending Open g e = absurd g
still_ended Open Pending g e = absurd g
still_ended Open Open g e = e

pub change_over : (these : SockName → Bool) (s : SockName) (e : End) (f : WorldEnd → WorldEnd) (world : World) → Changes f → Over these world.sockets → Over these (with_end_of s e f world).sockets
change_over these s e f world c o = end_over these s e f world (λ old is h. by_end e old h) o where
  by_end : (a : End) (old : WorldSocket) → is_ended old.o.stage ≡ true → is_ended (with_end a (f (end_of a old)) old).o.stage ≡ true
  by_end O old h = still_ended old.o.stage (f old.o).stage (c.stage old.o) h
  by_end T old h = h

-- ---- what a cell told

dial_over : (journal : List Line) (these : SockName → Bool) (log : List Entry) (place : ℕ) (cell : Cell) (step : Step) (world : World) → Good journal log world → Over these world.sockets → OnDial (λ w. Over these w.sockets) place cell step world
dial_over journal these log place cell (steps.Dial sock end peer) world g o = new_over these (new_socket world (called world.names (own_address cell.host end)) (called world.names peer) cell.host.host (end_of_nobody (Some place) (Some sock) Pending) peer) world.sockets
    (next_is_new world (called world.names (own_address cell.host end)) (called world.names peer) g.numbered) o
dial_over journal these log place cell step world g o = tt

pub told_over : (journal : List Line) (these : SockName → Bool) (place : ℕ) (cell : Cell) (told : List LocalEntry) (log : List Entry) (world : World) → Good journal log world → Over these world.sockets → Over these (all_told place cell told world).1.sockets
told_over journal these place cell [] log world g o = o
told_over journal these place cell (local.Note note ∷ rest) log world g o =
    let one = local_told place cell (local.Note note) world in
    told_over journal these place cell rest (log ++ one.0) one.1 (one_told (Good journal) (keeps_good journal) log place cell (local.Note note) world g) o
told_over journal these place cell (local.Step step ∷ rest) log world g o =
    let one = local_told place cell (local.Step step) world in
    told_over journal these place cell rest (log ++ one.0) one.1 (one_told (Good journal) (keeps_good journal) log place cell (local.Step step) world g)
    (step_as (λ w. Over these w.sockets) (λ one two c s k. subst (λ (l : List WorldSocket). Over these l) (sym s) k) place cell step world (dial_over journal these log place cell step world g o) (λ s e f c. change_over these s e f world c.changes o) o)

-- ---- no dial is refused by what a cell told

on_end_unrefused : (s : SockName) (place sock : ℕ) (f : SockName × End → World → List Entry × World) (world : World) → ((at : SockName × End) → list_any (refuses s) (f at world).0 ≡ false) → list_any (refuses s) (on_end place sock f world).0 ≡ false
on_end_unrefused s place sock f world each = by_end (find_end place sock world.sockets) where
  by_end : (o : Option (SockName × End)) → list_any (refuses s) (elim o as (λ o. List Entry × World) [
    | None ↦ ([], world)
    | Some at ↦ f at world
  ]).0 ≡ false
  by_end None = refl
  by_end (Some at) = each at

note_unrefused : (s : SockName) (known : Names) (last : Option Place) (note : Note) → list_any (refuses s) (note_entry known last note ∷ []) ≡ false
note_unrefused s known last (notes.Made process origin) = refl
note_unrefused s known last note = refl

one_unrefused : (s : SockName) (place : ℕ) (cell : Cell) (entry : LocalEntry) (world : World) → list_any (refuses s) (local_told place cell entry world).0 ≡ false
one_unrefused s place cell (local.Note note) world = note_unrefused s world.names world.last note
one_unrefused s place cell (local.Step (steps.Dial sock end peer)) world = refl
one_unrefused s place cell (local.Step (steps.Read sock)) world = on_end_unrefused s place sock reads_item world (λ at. refl)
one_unrefused s place cell (local.Step (steps.Write sock bytes said)) world = on_end_unrefused s place sock (λ at now. (entries.Wrote at.0 at.1 bytes ∷ [], with_end_of at.0 (other at.1) (item_arrives bytes said) now)) world (λ at. refl)
one_unrefused s place cell (local.Step (steps.Up sock)) world = on_end_unrefused s place sock (λ at now. (entries.Up at.0 at.1 ∷ [], now)) world (λ at. refl)
one_unrefused s place cell (local.Step (steps.Down sock)) world = on_end_unrefused s place sock (λ at now. (entries.Down at.0 at.1 ∷ [], end_closes at now)) world (λ at. refl)
one_unrefused s place cell (local.Step (steps.Left sock)) world = on_end_unrefused s place sock (λ at now. (entries.Left at.0 at.1 ∷ [], end_closes at now)) world (λ at. refl)
one_unrefused s place cell (local.Step (steps.Broke end peer why)) world = refl
one_unrefused s place cell (local.Step (steps.Post end event)) world = refl

pub told_unrefused : (s : SockName) (place : ℕ) (cell : Cell) (told : List LocalEntry) (world : World) → list_any (refuses s) (all_told place cell told world).0 ≡ false
told_unrefused s place cell [] world = refl
told_unrefused s place cell (entry ∷ rest) world = list_any-append (refuses s) (local_told place cell entry world).0 (all_told place cell rest (local_told place cell entry world).1).0
    ∙ ap (λ b. b || list_any (refuses s) (all_told place cell rest (local_told place cell entry world).1).0) (one_unrefused s place cell entry world) ∙ told_unrefused s place cell rest (local_told place cell entry world).1

pub or_not : (b : Bool) → (b || false) ≡ b
or_not true = refl
or_not false = refl

-- what refuses no dial changes nothing of which were refused
pub refused_still : (log told : List Entry) (s : SockName) → list_any (refuses s) told ≡ false → refused_in (log ++ told) s ≡ refused_in log s
refused_still log told s e = list_any-append (refuses s) log told ∙ ap (λ b. list_any (refuses s) log || b) e ∙ or_not (list_any (refuses s) log)

-- ---- an end that is left

-- one more has ended
pub one_more_over : (these : SockName → Bool) (s : SockName) (socket : WorldSocket) (world : World) → find (is_socket_named s) world.sockets ≡ Some socket → Over these world.sockets → Over (λ t. these t || same_socket s t) (with_end_of s O ended world).sockets
one_more_over these s socket world is o = subst (λ (found : Option WorldSocket). Over (λ t. these t || same_socket s t) (elim found as (λ o. World) [
  | None ↦ world
  | Some old ↦ with_socket (with_end O (ended (end_of O old)) old) world
]).sockets) (sym is) (record { have_ended = λ t w p f. by_name t w p (same_socket new.name t) refl (sym (find_stored new world.sockets t) ∙ f); are_there = λ t f. gone t (none_stored new world.sockets t f) }) where
  new : WorldSocket
  new = with_end O (ended (end_of O socket)) socket

  named : new.name ≡ s
  named = new_name s O (ended socket.o) world.sockets socket is

  its_name : (t : SockName) (b : Bool) → same_socket new.name t ≡ b → same_socket s t ≡ b
  its_name t b h = subst (λ (n : SockName). same_socket n t ≡ b) named h

  by_name : (t : SockName) (w : WorldSocket) → (these t || same_socket s t) ≡ true → (b : Bool) → same_socket new.name t ≡ b → cond b (Some new) (find (is_socket_named t) world.sockets) ≡ Some w → is_ended w.o.stage ≡ true
  by_name t w p true h f = let it : new ≡ w = cc in subst (λ (x : WorldSocket). is_ended x.o.stage ≡ true) it refl
  by_name t w p false h f = o.have_ended t w (sym (or_not (these t)) ∙ ap (λ b. these t || b) (sym (its_name t false h)) ∙ p) f

  gone : (t : SockName) → (same_socket new.name t ≡ false) × (find (is_socket_named t) world.sockets ≡ None) → (these t || same_socket s t) ≡ false
  gone t none = ap (λ b. b || same_socket s t) (o.are_there t none.1) ∙ its_name t false none.0
