-- Step by step what a cell tells is written in the log as it is due.
use Rattle.std.proofs.Common.{◌≡◌, ℕ, Bool, true, false, cond, ◌&&◌, ◌||◌, List, [], ◌∷◌, ◌++◌, refl, sym, ap, ◌∙◌, subst}
use Rattle.std.proofs.lemmas.List.{append-nil}
use Rattle.std.specs.Option.{option_map}
use Rattle.std.specs.Prelude.{find, slice_get, Option, Some, None, ◌==◌}
use Rattle.ch_base.specs.declared.address.Address.{Address}
use Rattle.ch_model.specs.declared.entry.Entry.{Entry}
use Rattle.ch_model.specs.declared.entry.Entry.TheVariants as entries
use Rattle.ch_model.specs.declared.line.Line.{Line}
use Rattle.ch_model.specs.declared.name.End.{End}
use Rattle.ch_model.specs.declared.name.End.TheVariants.{O, T}
use Rattle.ch_model.specs.declared.name.SockName.{SockName}
use Rattle.ch_model.specs.declared.step.Place.{Place}
use Rattle.ch_model.specs.declared.step.Step.{Step}
use Rattle.ch_model.specs.declared.step.Step.TheVariants as steps
use Rattle.ch_model.specs.AccountsBytes.{writes_after_accepting}
use Rattle.ch_model.specs.HostSteps.{own_address}
use Rattle.ch_model.specs.Logs.{each}
use Rattle.ch_model.specs.Naming.{called}
use Rattle.ch_model.specs.Same.{same_socket, same_end}
use Rattle.ch_model.specs.Sockets.{writing, writings}
use Rattle.ch_model.specs.Stages.{Stage, Pending, Ended, is_pending, is_ended}
use Rattle.ch_model.specs.WorldSockets.{end_of, other, ended, item_arrives, arrives, end_of_nobody, is_socket_named, store_in, with_socket, with_end_of, same_number, is_end_of, end_at, find_end, cell_of, target_end, new_socket}
use Rattle.ch_model.specs.WorldState.{Cell, WorldEnd, WorldSocket, World}
use Rattle.ch_model.specs.WorldSteps.{on_end, later_places, item_is_read, reads_item, end_closes, stepped}
use Rattle.ch_laws_log.specs.HostEnds.{stage_at, stage_after, IsNewTo}
use Rattle.ch_laws_log.proofs.Agreeing.{Good}
use Rattle.ch_laws_log.proofs.Stored.{same_is, find_stored, found_end, next_is_new}
use Rattle.ch_laws_log.proofs.WorldEnds.{found_is}
use Rattle.ch_laws_writes.specs.Dues.{Due, Asking, due_at, due_past, due_after, IsDue, WritesDue}
use Rattle.ch_laws_writes.specs.Writings.{WritesOne, EachWritesOne}
use Rattle.ch_laws_writes.proofs.Dues.{Dues}
use Rattle.ch_laws_writes.proofs.CellEnds.{Stages}
use Rattle.ch_laws_writes.proofs.Found.{or_new, new_found, KeepsPlace, kept_ends, kept_absent, WasPending, kept_pending, WasThere, kept_there, other_end}
use Rattle.ch_laws_writes.proofs.Worlds.{number_is, number_same, end_cells}
use Rattle.ch_laws_writes.proofs.Written.{FitsDue, next_fits, is_one, has_begun, wrote_more, wrote_other, wrote_here, each_more, accepting_more}

-- ---- a log and the ends of its world

-- each entry writes one item, after the accepting answer where it is a target's; nothing was written of a socket that wasn't opened,
-- nor by a target's end that hasn't come, nor by an end of no host
pub record LogFits (log : List Entry) (world : World) : Type 0 where
  pub spelled : EachWritesOne [] log
  pub accepting : each writes_after_accepting log ≡ true
  pub unopened : (s : SockName) (e : End) → find (is_socket_named s) world.sockets ≡ None → writings log s e ≡ []
  pub waiting : (s : SockName) (socket : WorldSocket) → find (is_socket_named s) world.sockets ≡ Some socket → is_pending socket.t.stage ≡ true → (socket.t.number ≡ None) × (writings log s T ≡ [])
  pub unowned : (s : SockName) (e : End) (socket : WorldSocket) → find (is_socket_named s) world.sockets ≡ Some socket → (end_of e socket).cell ≡ None → writings log s e ≡ []

-- what is due at the ends of a cell fits what they wrote
abbrev pub Agrees : Dues → ℕ → List Entry → List WorldSocket → Type 0
Agrees d place log sockets = (n : ℕ) (due : Due) (at : SockName × End) → d n ≡ Some due → find_end place n sockets ≡ Some at → FitsDue due at.1 (writings log at.0 at.1)

-- each end of a cell is of a socket that its host has
abbrev pub Known : Stages → ℕ → List WorldSocket → Type 0
Known st place sockets = (n : ℕ) → st n ≡ None → find_end place n sockets ≡ None

-- ---- what changes none of it

-- the same ends are found, and none is pending that wasn't
pub record SameEnds (one two : World) : Type 0 where
  pub ends : (p n : ℕ) → find_end p n two.sockets ≡ find_end p n one.sockets
  pub absent : (s : SockName) → find (is_socket_named s) two.sockets ≡ None → find (is_socket_named s) one.sockets ≡ None
  pub pending : (s : SockName) (socket : WorldSocket) → find (is_socket_named s) two.sockets ≡ Some socket → is_pending socket.t.stage ≡ true → WasPending s one socket
  pub there : (s : SockName) (socket : WorldSocket) → find (is_socket_named s) two.sockets ≡ Some socket → WasThere s one socket
  pub cells : two.cells ≡ one.cells

pub same_sockets : (one two : World) → two.sockets ≡ one.sockets → two.cells ≡ one.cells → SameEnds one two
same_sockets one two e c = record {
  ends = λ p n. ap (find_end p n) e;
  absent = λ s none. ap (find (is_socket_named s)) (sym e) ∙ none;
  pending = λ s socket found pending. record { old = socket; found = ap (find (is_socket_named s)) (sym e) ∙ found; pending = pending; number = refl };
  there = λ s socket found. record { old = socket; found = ap (find (is_socket_named s)) (sym e) ∙ found; cell = λ y. refl };
  cells = c;
}

pub kept_same : (s : SockName) (e : End) (f : WorldEnd → WorldEnd) (world : World) → KeepsPlace f → SameEnds world (with_end_of s e f world)
kept_same s e f world k = record { ends = kept_ends s e f world k; absent = kept_absent s e f world; pending = kept_pending s e f world k; there = kept_there s e f world k.cell; cells = end_cells s e f world }

pub record Quiet (log : List Entry) (one : World) (now : List Entry) (two : World) : Type 0 where
  pub same : SameEnds one two
  pub wrote : (s : SockName) (e : End) → writings now s e ≡ writings log s e
  pub spelled : EachWritesOne [] log → EachWritesOne [] now
  pub accepting : each writes_after_accepting log ≡ true → each writes_after_accepting now ≡ true

-- an entry that writes nothing
pub quiet_entry : (log : List Entry) (x : Entry) (one two : World) → SameEnds one two → ((s : SockName) (e : End) → writing s e x ≡ None) → WritesOne log x → writes_after_accepting log x ≡ true → Quiet log one (log ++ x ∷ []) two
quiet_entry log x one two same none w a = record { same = same; wrote = λ s e. wrote_more log x s e (none s e); spelled = λ each. each_more [] log x each w; accepting = λ each. accepting_more log x each a }

pub quiet_none : (log : List Entry) (one two : World) → SameEnds one two → Quiet log one (log ++ []) two
quiet_none log one two same = subst (λ (l : List Entry). Quiet log one l two) (sym (append-nil log)) (record { same = same; wrote = λ s e. refl; spelled = λ each. each; accepting = λ each. each })

pub quiet_fits : (log now : List Entry) (one two : World) → Quiet log one now two → LogFits log one → LogFits now two
quiet_fits log now one two q f = record {
  spelled = q.spelled f.spelled;
  accepting = q.accepting f.accepting;
  unopened = λ s e none. q.wrote s e ∙ f.unopened s e (q.same.absent s none);
  waiting = λ s socket found pending. let w = q.same.pending s socket found pending in let old = f.waiting s w.old w.found w.pending in (w.number ∙ old.0, q.wrote s T ∙ old.1);
  unowned = λ s e socket found none. let w = q.same.there s socket found in q.wrote s e ∙ f.unowned s e w.old w.found (sym (w.cell e) ∙ none);
}

pub quiet_agrees : (log now : List Entry) (one two : World) (d : Dues) (place : ℕ) → Quiet log one now two → Agrees d place log one.sockets → Agrees d place now two.sockets
quiet_agrees log now one two d place q a n due at is found = subst (FitsDue due at.1) (sym (q.wrote at.0 at.1)) (a n due at is (sym (q.same.ends place n) ∙ found))

pub quiet_known : (log now : List Entry) (one two : World) (st : Stages) (place : ℕ) → Quiet log one now two → Known st place one.sockets → Known st place two.sockets
quiet_known log now one two st place q k n none = q.same.ends place n ∙ k n none

-- ---- the acting cell, and all others

pub record Walk (place : ℕ) (d : Dues) (st : Stages) (log : List Entry) (world : World) : Type 0 where
  pub fits : LogFits log world
  pub here : Agrees d place log world.sockets
  pub known : Known st place world.sockets
  pub others : (p : ℕ) (cell : Cell × ℕ) → (place == p) ≡ false → slice_get world.cells p ≡ Some cell → Agrees (due_at cell.0.host) p log world.sockets
  pub others_known : (p : ℕ) (cell : Cell × ℕ) → (place == p) ≡ false → slice_get world.cells p ≡ Some cell → Known (stage_at cell.0.host) p world.sockets

pub walk_quiet : (place : ℕ) (d e : Dues) (st su : Stages) (log now : List Entry) (one two : World) → Quiet log one now two → ((n : ℕ) (due : Due) → e n ≡ Some due → d n ≡ Some due) → ((n : ℕ) → su n ≡ None → st n ≡ None) → Walk place d st log one → Walk place e su now two
walk_quiet place d e st su log now one two q less none w = record {
  fits = quiet_fits log now one two q w.fits;
  here = λ n due at is found. quiet_agrees log now one two d place q w.here n due at (less n due is) found;
  known = λ n is. quiet_known log now one two st place q w.known n (none n is);
  others = λ p cell off at. quiet_agrees log now one two (due_at cell.0.host) p q (w.others p cell off (was p cell at));
  others_known = λ p cell off at. quiet_known log now one two (stage_at cell.0.host) p q (w.others_known p cell off (was p cell at));
} where
  was : (p : ℕ) (cell : Cell × ℕ) → slice_get two.cells p ≡ Some cell → slice_get one.cells p ≡ Some cell
  was p cell at = ap (λ (cells : List (Cell × ℕ)). slice_get cells p) (sym q.same.cells) ∙ at

-- ---- ends that keep their places

pub ended_keeps : KeepsPlace ended
ended_keeps = record { cell = λ end. refl; number = λ end. refl; pending = λ end e. absurd cc }

pub read_keeps : KeepsPlace (λ end. record end { places = later_places end.places })
read_keeps = record { cell = λ end. refl; number = λ end. refl; pending = λ end e. e }

pub arrives_keeps : (bytes : List ℕ) → KeepsPlace (arrives bytes)
arrives_keeps bytes = record { cell = λ end. by_cell end (is_ended end.stage || end.is_cut); number = λ end. by_number end (is_ended end.stage || end.is_cut); pending = λ end. by_pending end (is_ended end.stage || end.is_cut) } where
  now : WorldEnd → Bool → WorldEnd
  now end b = cond b end (record end { unread = end.unread ++ bytes })

  by_cell : (end : WorldEnd) (b : Bool) → (now end b).cell ≡ end.cell
  by_cell end true = refl
  by_cell end false = refl

  by_number : (end : WorldEnd) (b : Bool) → (now end b).number ≡ end.number
  by_number end true = refl
  by_number end false = refl

  by_pending : (end : WorldEnd) (b : Bool) → is_pending (now end b).stage ≡ true → is_pending end.stage ≡ true
  by_pending end true e = e
  by_pending end false e = e

pub item_keeps : (bytes : List ℕ) (said : Option Place) → KeepsPlace (item_arrives bytes said)
item_keeps bytes said = record { cell = λ end. by_cell end (is_ended end.stage || end.is_cut); number = λ end. by_number end (is_ended end.stage || end.is_cut); pending = λ end. by_pending end (is_ended end.stage || end.is_cut) } where
  now : WorldEnd → Bool → WorldEnd
  now end b = cond b end (record end { unread = end.unread ++ bytes; places = end.places ++ said ∷ [] })

  by_cell : (end : WorldEnd) (b : Bool) → (now end b).cell ≡ end.cell
  by_cell end true = refl
  by_cell end false = refl

  by_number : (end : WorldEnd) (b : Bool) → (now end b).number ≡ end.number
  by_number end true = refl
  by_number end false = refl

  by_pending : (end : WorldEnd) (b : Bool) → is_pending (now end b).stage ≡ true → is_pending end.stage ≡ true
  by_pending end true e = e
  by_pending end false e = e

-- ---- a new socket

target_number : (o : Option ℕ) → (target_end o).number ≡ None
target_number None = refl
target_number (Some place) = refl

no_number : (end : WorldEnd) (p n : ℕ) → end.number ≡ None → is_end_of p n end ≡ false
no_number end p n e = ap (λ (o : Option ℕ). same_number end.cell p && same_number o n) e ∙ by_test (same_number end.cell p) where
  by_test : (b : Bool) → (b && false) ≡ false
  by_test true = refl
  by_test false = refl

-- a socket that was opened, by an entry that writes nothing, has written nothing
pub new_fits : (log : List Entry) (x : Entry) (new : WorldSocket) (world : World) → find (is_socket_named new.name) world.sockets ≡ None → new.t.number ≡ None → ((s : SockName) (e : End) → writing s e x ≡ None) → WritesOne log x → writes_after_accepting log x ≡ true → LogFits log world → LogFits (log ++ x ∷ []) (with_socket new world)
new_fits log x new world none number quiet w a f = record {
  spelled = each_more [] log x f.spelled w;
  accepting = accepting_more log x f.accepting a;
  unopened = λ s e absent. wrote_more log x s e (quiet s e) ∙ f.unopened s e (by_absent s (same_socket new.name s) (sym (find_stored new world.sockets s) ∙ absent));
  waiting = λ s socket found pending. by_found s socket pending (same_socket new.name s) refl (sym (find_stored new world.sockets s) ∙ found);
  unowned = λ s e socket found off. by_owned s e socket off (same_socket new.name s) refl (sym (find_stored new world.sockets s) ∙ found);
} where
  by_owned : (s : SockName) (e : End) (socket : WorldSocket) → (end_of e socket).cell ≡ None → (b : Bool) → same_socket new.name s ≡ b → cond b (Some new) (find (is_socket_named s) world.sockets) ≡ Some socket → writings (log ++ x ∷ []) s e ≡ []
  by_owned s e socket off true h found = wrote_more log x s e (quiet s e) ∙ f.unopened s e (subst (λ (m : SockName). find (is_socket_named m) world.sockets ≡ None) (same_is new.name s h) none)
  by_owned s e socket off false h found = wrote_more log x s e (quiet s e) ∙ f.unowned s e socket found off

  by_absent : (s : SockName) (b : Bool) → cond b (Some new) (find (is_socket_named s) world.sockets) ≡ None → find (is_socket_named s) world.sockets ≡ None
  by_absent s true e = absurd cc
  by_absent s false e = e

  by_found : (s : SockName) (socket : WorldSocket) → is_pending socket.t.stage ≡ true → (b : Bool) → same_socket new.name s ≡ b → cond b (Some new) (find (is_socket_named s) world.sockets) ≡ Some socket → (socket.t.number ≡ None) × (writings (log ++ x ∷ []) s T ≡ [])
  by_found s socket pending true h e = let is : new ≡ socket = cc in (sym (ap (λ (v : WorldSocket). v.t.number) is) ∙ number, wrote_more log x s T (quiet s T) ∙ f.unopened s T (subst (λ (m : SockName). find (is_socket_named m) world.sockets ≡ None) (same_is new.name s h) none))
  by_found s socket pending false h e = let old = f.waiting s socket e pending in (old.0, wrote_more log x s T (quiet s T) ∙ old.1)

-- where it has no end of this cell under this number the same is found
pub new_same : (p n : ℕ) (new : WorldSocket) (sockets : List WorldSocket) → find (is_socket_named new.name) sockets ≡ None → new.t.number ≡ None → is_end_of p n new.o ≡ false → find_end p n (store_in new sockets) ≡ find_end p n sockets
new_same p n new sockets none number off = new_found p n new sockets none ∙ by_found (find_end p n sockets) where
  no_end : end_at p n new ≡ None
  no_end = ap (λ b. cond b (Some O) (cond (is_end_of p n new.t) (Some T) None)) off ∙ ap (λ b. cond b (Some T) None) (no_number new.t p n number)

  by_found : (o : Option (SockName × End)) → or_new new p n o ≡ o
  by_found (Some at) = refl
  by_found None = ap (λ (e : Option End). elim e as (λ x. Option (SockName × End)) [
    | Some end ↦ Some (new.name, end)
    | None ↦ None
  ]) no_end

-- ---- steps

-- what happens at an end that writes nothing
pub end_quiet : (log : List Entry) (place sock : ℕ) (f : SockName × End → World → List Entry × World) (world : World) → ((at : SockName × End) → Quiet log world (log ++ (f at world).0) (f at world).1) → Quiet log world (log ++ (on_end place sock f world).0) (on_end place sock f world).1
end_quiet log place sock f world each = by_end (find_end place sock world.sockets) where
  told : Option (SockName × End) → List Entry × World
  told o = elim o as (λ o. List Entry × World) [
    | None ↦ ([], world)
    | Some at ↦ f at world
  ]

  by_end : (o : Option (SockName × End)) → Quiet log world (log ++ (told o).0) (told o).1
  by_end None = quiet_none log world world (same_sockets world world refl refl)
  by_end (Some at) = each at

pub read_quiet : (log : List Entry) (at : SockName × End) (world : World) → Quiet log world (log ++ []) (item_is_read at (find (is_socket_named at.0) world.sockets) world)
read_quiet log at world = by_socket (find (is_socket_named at.0) world.sockets) where
  by_socket : (o : Option WorldSocket) → Quiet log world (log ++ []) (item_is_read at o world)
  by_socket None = quiet_none log world world (same_sockets world world refl refl)
  by_socket (Some socket) = let k = kept_same at.0 at.1 (λ end. record end { places = later_places end.places }) world read_keeps in quiet_none log world (item_is_read at (Some socket) world)
      (record { ends = k.ends; absent = k.absent; pending = k.pending; there = k.there; cells = k.cells })

pub over_less : (d : Dues) (sock n : ℕ) (due : Due) → cond (sock == n) None (d n) ≡ Some due → d n ≡ Some due
over_less d sock n due e = by_test (sock == n) e where
  by_test : (b : Bool) → cond b None (d n) ≡ Some due → d n ≡ Some due
  by_test true e = absurd cc
  by_test false e = e

over_none : (st : Stages) (sock n : ℕ) → cond (sock == n) (option_map (λ (s : Stage). Ended) (st n)) (st n) ≡ None → st n ≡ None
over_none st sock n e = by_test (sock == n) (st n) e where
  by_test : (b : Bool) (o : Option Stage) → cond b (option_map (λ (s : Stage). Ended) o) o ≡ None → o ≡ None
  by_test true None e = refl
  by_test true (Some s) e = absurd cc
  by_test false o e = e

-- a dial opens a new socket, whose request is due
dial_walk : (place sock end : ℕ) (peer : Address) (own_name peer_name from_host : List ℕ) (world : World) (log : List Entry) (d : Dues) (st : Stages) → find (is_socket_named (new_socket world own_name peer_name from_host (end_of_nobody (Some place) (Some sock) Pending) peer).name) world.sockets ≡ None → st sock ≡ None → Walk place d st log world
    → Walk place (λ n. cond (sock == n) (Some (Asking end peer)) (d n)) (λ n. cond (sock == n) (Some Pending) (st n)) (log ++ entries.Dial (new_socket world own_name peer_name from_host (end_of_nobody (Some place) (Some sock) Pending) peer).name ∷ []) (with_socket (new_socket world own_name peer_name from_host (end_of_nobody (Some place) (Some sock) Pending) peer) world)
dial_walk place sock end peer own_name peer_name from_host world log d st none fresh w = record {
  fits = new_fits log (entries.Dial new.name) new world none number (λ s e. refl) tt refl w.fits;
  here = λ n due at is found. by_due n due at (sock == n) refl is found;
  known = λ n e. by_known n (sock == n) refl e;
  others = λ p cell off there n due at is found. wrote due at (w.others p cell off there n due at is (sym (elsewhere p n (ap (λ b. b && (sock == n)) off)) ∙ found));
  others_known = λ p cell off there n e. elsewhere p n (ap (λ b. b && (sock == n)) off) ∙ w.others_known p cell off there n e;
} where
  new : WorldSocket
  new = new_socket world own_name peer_name from_host (end_of_nobody (Some place) (Some sock) Pending) peer

  number : new.t.number ≡ None
  number = target_number (cell_of world peer)

  elsewhere : (p n : ℕ) → ((place == p) && (sock == n)) ≡ false → find_end p n (store_in new world.sockets) ≡ find_end p n world.sockets
  elsewhere p n off = new_same p n new world.sockets none number off

  wrote : (due : Due) (at : SockName × End) → FitsDue due at.1 (writings log at.0 at.1) → FitsDue due at.1 (writings (log ++ entries.Dial new.name ∷ []) at.0 at.1)
  wrote due at f = subst (FitsDue due at.1) (sym (wrote_more log (entries.Dial new.name) at.0 at.1 refl)) f

  not_here : (n : ℕ) → (sock == n) ≡ false → ((place == place) && (sock == n)) ≡ false
  not_here n h = ap (λ b. b && (sock == n)) (number_same place) ∙ h

  there : find_end place sock (store_in new world.sockets) ≡ Some (new.name, O)
  there = new_found place sock new world.sockets none ∙ ap (or_new new place sock) (w.known sock fresh) ∙ ap (λ (e : Option End). elim e as (λ x. Option (SockName × End)) [
    | Some end ↦ Some (new.name, end)
    | None ↦ None
  ]) (ap (λ b. cond b (Some O) (cond (is_end_of place sock new.t) (Some T) None)) (ap (λ b. b && (sock == sock)) (number_same place) ∙ number_same sock))

  by_due : (n : ℕ) (due : Due) (at : SockName × End) (b : Bool) → (sock == n) ≡ b → cond b (Some (Asking end peer)) (d n) ≡ Some due → find_end place n (store_in new world.sockets) ≡ Some at → FitsDue due at.1 (writings (log ++ entries.Dial new.name ∷ []) at.0 at.1)
  by_due n due at true h is found =
      let which : Asking end peer ≡ due = cc in
      let both : ◌≡◌ {A = Option (SockName × End)} (Some (new.name, O)) (Some at) = sym there ∙ ap (λ (m : ℕ). find_end place m (store_in new world.sockets)) (number_is sock n h) ∙ found in
      let same : (new.name, O) ≡ at = cc in
      subst (λ (x : Due). FitsDue x at.1 (writings (log ++ entries.Dial new.name ∷ []) at.0 at.1)) which (subst (λ (a : SockName × End). FitsDue (Asking end peer) a.1 (writings (log ++ entries.Dial new.name ∷ []) a.0 a.1)) same
      (refl, wrote_more log (entries.Dial new.name) new.name O refl ∙ w.fits.unopened new.name O none))
  by_due n due at false h is found = wrote due at (w.here n due at is (sym (elsewhere place n (not_here n h)) ∙ found))

  by_known : (n : ℕ) (b : Bool) → (sock == n) ≡ b → cond b (Some Pending) (st n) ≡ None → find_end place n (store_in new world.sockets) ≡ None
  by_known n true h e = absurd cc
  by_known n false h e = elsewhere place n (not_here n h) ∙ w.known n e

-- an item is written at an end, where it is due
write_walk : (own : ℕ → Address) (journal : List Line) (place sock : ℕ) (bytes : List ℕ) (said : Option Place) (at : SockName × End) (world : World) (log : List Entry) (d : Dues) (st : Stages) → Good journal log world → find_end place sock world.sockets ≡ Some at → IsDue own (d sock) bytes → Walk place d st log world
    → Walk place (λ n. cond (sock == n) (due_past bytes (d n)) (d n)) st (log ++ entries.Wrote at.0 at.1 bytes ∷ []) (with_end_of at.0 (other at.1) (item_arrives bytes said) world)
write_walk own journal place sock bytes said at world log d st g found due w = by_due (d sock) refl due where
  now : World
  now = with_end_of at.0 (other at.1) (item_arrives bytes said) world

  later : List Entry
  later = log ++ entries.Wrote at.0 at.1 bytes ∷ []

  same : SameEnds world now
  same = kept_same at.0 (other at.1) (item_arrives bytes said) world (item_keeps bytes said)

  -- what another end wrote
  other_wrote : (p n : ℕ) (a : SockName × End) → find_end p n world.sockets ≡ Some a → ((place == p) && (sock == n)) ≡ false → writings later a.0 a.1 ≡ writings log a.0 a.1
  other_wrote p n a f off = wrote_other log at.0 at.1 bytes a.0 a.1 (other_end world.sockets place sock p n at a g.apart found f off)

  not_here : (n : ℕ) → (sock == n) ≡ false → ((place == place) && (sock == n)) ≡ false
  not_here n h = ap (λ b. b && (sock == n)) (number_same place) ∙ h

  absent_wrote : (s : SockName) (e : End) → find (is_socket_named s) world.sockets ≡ None → (same_socket at.0 s && same_end at.1 e) ≡ false
  absent_wrote s e none = by_test (same_socket at.0 s) refl where
    by_test : (b : Bool) → same_socket at.0 s ≡ b → (b && same_end at.1 e) ≡ false
    by_test true h = let held = found_end place sock world.sockets at found in let gone : find (is_socket_named at.0) world.sockets ≡ None = subst (λ (m : SockName). find (is_socket_named m) world.sockets ≡ None) (sym (same_is at.0 s h)) none in let there = held.is in absurd cc
    by_test false h = refl

  waiting_wrote : (s : SockName) (old : WorldSocket) → find (is_socket_named s) world.sockets ≡ Some old → old.t.number ≡ None → (same_socket at.0 s && same_end at.1 T) ≡ false
  waiting_wrote s old f none = by_test (same_socket at.0 s) refl (same_end at.1 T) refl where
    is_target : (e : End) → same_end e T ≡ true → e ≡ T
    is_target T h = refl
    is_target O h = absurd cc

    by_test : (b : Bool) → same_socket at.0 s ≡ b → (c : Bool) → same_end at.1 T ≡ c → (b && c) ≡ false
    by_test true h true k =
        let mine = found_is place sock world.sockets at old g.apart found (subst (λ (m : SockName). find (is_socket_named m) world.sockets ≡ Some old) (sym (same_is at.0 s h)) f) in
        let target : is_end_of place sock old.t ≡ true = subst (λ (e : End). is_end_of place sock (end_of e old) ≡ true) (is_target at.1 k) mine in
        let no : true ≡ false = sym target ∙ no_number old.t place sock none in absurd cc
    by_test true h false k = refl
    by_test false h c k = refl

  unowned_wrote : (s : SockName) (e : End) (old : WorldSocket) → find (is_socket_named s) world.sockets ≡ Some old → (end_of e old).cell ≡ None → (same_socket at.0 s && same_end at.1 e) ≡ false
  unowned_wrote s e old f none = by_test (same_socket at.0 s) refl (same_end at.1 e) refl where
    same_end_is : (a b : End) → same_end a b ≡ true → a ≡ b
    same_end_is O O h = refl
    same_end_is T T h = refl
    same_end_is O T h = absurd cc
    same_end_is T O h = absurd cc

    by_test : (b : Bool) → same_socket at.0 s ≡ b → (c : Bool) → same_end at.1 e ≡ c → (b && c) ≡ false
    by_test true h true k =
        let mine = found_is place sock world.sockets at old g.apart found (subst (λ (m : SockName). find (is_socket_named m) world.sockets ≡ Some old) (sym (same_is at.0 s h)) f) in
        let its : is_end_of place sock (end_of e old) ≡ true = subst (λ (x : End). is_end_of place sock (end_of x old) ≡ true) (same_end_is at.1 e k) mine in
        let no : true ≡ false = sym its ∙ ap (λ (o : Option ℕ). same_number o place && same_number (end_of e old).number sock) none in absurd cc
    by_test true h false k = refl
    by_test false h c k = refl

  by_due : (o : Option Due) → d sock ≡ o → IsDue own o bytes → Walk place (λ n. cond (sock == n) (due_past bytes (d n)) (d n)) st later now
  by_due None is due = absurd due
  by_due (Some x) is due = record {
    fits = record {
      spelled = each_more [] log (entries.Wrote at.0 at.1 bytes) w.fits.spelled (is_one own x at.1 (writings log at.0 at.1) bytes (w.here sock x at is found) due);
      accepting = accepting_more log (entries.Wrote at.0 at.1 bytes) w.fits.accepting (accepts at.1 (w.here sock x at is found));
      unopened = λ s e none. wrote_other log at.0 at.1 bytes s e (absent_wrote s e (same.absent s none)) ∙ w.fits.unopened s e (same.absent s none);
      waiting = λ s socket f pending. let was = same.pending s socket f pending in let old = w.fits.waiting s was.old was.found was.pending in
          (was.number ∙ old.0, wrote_other log at.0 at.1 bytes s T (waiting_wrote s was.old was.found old.0) ∙ old.1);
      unowned = λ s e socket f off. let was = same.there s socket f in let none : (end_of e was.old).cell ≡ None = sym (was.cell e) ∙ off in
          wrote_other log at.0 at.1 bytes s e (unowned_wrote s e was.old was.found none) ∙ w.fits.unowned s e was.old was.found none;
    };
    here = λ n y a e f. by_number n y a (sock == n) refl e (sym (same.ends place n) ∙ f);
    known = λ n e. same.ends place n ∙ w.known n e;
    others = λ p cell off there n y a e f. let old : find_end p n world.sockets ≡ Some a = sym (same.ends p n) ∙ f in
        subst (FitsDue y a.1) (sym (other_wrote p n a old (ap (λ b. b && (sock == n)) off))) (w.others p cell off (was_there p cell there) n y a e old);
    others_known = λ p cell off there n e. same.ends p n ∙ w.others_known p cell off (was_there p cell there) n e;
  } where
    was_there : (p : ℕ) (cell : Cell × ℕ) → slice_get now.cells p ≡ Some cell → slice_get world.cells p ≡ Some cell
    was_there p cell e = ap (λ (cells : List (Cell × ℕ)). slice_get cells p) (sym same.cells) ∙ e

    accepts : (which : End) → FitsDue x which (writings log at.0 which) → writes_after_accepting log (entries.Wrote at.0 which bytes) ≡ true
    accepts O f = refl
    accepts T f = has_begun x (writings log at.0 T) f

    by_number : (n : ℕ) (y : Due) (a : SockName × End) (b : Bool) → (sock == n) ≡ b → cond b (due_past bytes (d n)) (d n) ≡ Some y → find_end place n world.sockets ≡ Some a → FitsDue y a.1 (writings later a.0 a.1)
    by_number n y a true h e f =
        let both : ◌≡◌ {A = Option (SockName × End)} (Some at) (Some a) = sym found ∙ ap (λ (m : ℕ). find_end place m world.sockets) (number_is sock n h) ∙ f in
        let one : at ≡ a = cc in
        let next : due_past bytes (Some x) ≡ Some y = ap (due_past bytes) (sym is ∙ ap d (number_is sock n h)) ∙ e in
        subst (λ (z : SockName × End). FitsDue y z.1 (writings later z.0 z.1)) one (subst (FitsDue y at.1) (sym (wrote_here log at.0 at.1 bytes)) (next_fits x at.1 (writings log at.0 at.1) bytes y (w.here sock x at is found) next))
    by_number n y a false h e f = subst (FitsDue y a.1) (sym (other_wrote place n a f (not_here n h))) (w.here n y a e f)

write_step : (own : ℕ → Address) (journal : List Line) (place sock : ℕ) (bytes : List ℕ) (said : Option Place) (world : World) (log : List Entry) (d : Dues) (st : Stages) → Good journal log world → IsDue own (d sock) bytes → Walk place d st log world
    → (o : Option (SockName × End)) → find_end place sock world.sockets ≡ o → Walk place (λ n. cond (sock == n) (due_past bytes (d n)) (d n)) st (log ++ (elim o as (λ o. List Entry × World) [
      | None ↦ ([], world)
      | Some at ↦ (entries.Wrote at.0 at.1 bytes ∷ [], with_end_of at.0 (other at.1) (item_arrives bytes said) world)
    ]).0) (elim o as (λ o. List Entry × World) [
      | None ↦ ([], world)
      | Some at ↦ (entries.Wrote at.0 at.1 bytes ∷ [], with_end_of at.0 (other at.1) (item_arrives bytes said) world)
    ]).1
write_step own journal place sock bytes said world log d st g due w (Some at) found = write_walk own journal place sock bytes said at world log d st g found due w
write_step own journal place sock bytes said world log d st g due w None none = subst (λ (l : List Entry). Walk place (λ n. cond (sock == n) (due_past bytes (d n)) (d n)) st l world) (sym (append-nil log)) (record {
  fits = w.fits;
  here = λ n y a e f. by_number n y a (sock == n) refl e f;
  known = w.known;
  others = w.others;
  others_known = w.others_known;
}) where
  by_number : (n : ℕ) (y : Due) (a : SockName × End) (b : Bool) → (sock == n) ≡ b → cond b (due_past bytes (d n)) (d n) ≡ Some y → find_end place n world.sockets ≡ Some a → FitsDue y a.1 (writings log a.0 a.1)
  by_number n y a true h e f = let no : ◌≡◌ {A = Option (SockName × End)} None (Some a) = sym none ∙ ap (λ (m : ℕ). find_end place m world.sockets) (number_is sock n h) ∙ f in absurd cc
  by_number n y a false h e f = w.here n y a e f

pub step_walk : (own : ℕ → Address) (journal : List Line) (place : ℕ) (cell : Cell) (step : Step) (world : World) (log : List Entry) (d : Dues) (st : Stages) → Good journal log world → ((n : ℕ) → WritesDue own n step (d n)) → ((n : ℕ) → IsNewTo n step (st n)) → Walk place d st log world
    → Walk place (λ n. due_after n step (d n)) (λ n. stage_after n step (st n)) (log ++ (stepped place cell step world).0) (stepped place cell step world).1
step_walk own journal place cell (steps.Dial sock end peer) world log d st g due new w = dial_walk place sock end peer (called world.names (own_address cell.host end)) (called world.names peer) cell.host.host world log d st
    (next_is_new world (called world.names (own_address cell.host end)) (called world.names peer) g.numbered) (new sock (number_same sock)) w
step_walk own journal place cell (steps.Read sock) world log d st g due new w = walk_quiet place d d st st log _ world _ (end_quiet log place sock reads_item world (λ at. read_quiet log at world)) (λ n x e. e) (λ n e. e) w
step_walk own journal place cell (steps.Write sock bytes said) world log d st g due new w = write_step own journal place sock bytes said world log d st g (due sock (number_same sock)) w (find_end place sock world.sockets) refl
step_walk own journal place cell (steps.Up sock) world log d st g due new w = walk_quiet place d d st st log _ world _ (end_quiet log place sock (λ at now. (entries.Up at.0 at.1 ∷ [], now)) world (λ at. quiet_entry log (entries.Up at.0 at.1) world world (same_sockets world world refl refl) (λ s e. refl) tt refl)) (λ n x e. e) (λ n e. e) w
step_walk own journal place cell (steps.Down sock) world log d st g due new w = walk_quiet place d _ st _ log _ world _ (end_quiet log place sock (λ at now. (entries.Down at.0 at.1 ∷ [], end_closes at now)) world (λ at. quiet_entry log (entries.Down at.0 at.1) world (end_closes at world) (kept_same at.0 at.1 ended world ended_keeps) (λ s e. refl) tt refl)) (over_less d sock) (over_none st sock) w
step_walk own journal place cell (steps.Left sock) world log d st g due new w = walk_quiet place d _ st _ log _ world _ (end_quiet log place sock (λ at now. (entries.Left at.0 at.1 ∷ [], end_closes at now)) world (λ at. quiet_entry log (entries.Left at.0 at.1) world (end_closes at world) (kept_same at.0 at.1 ended world ended_keeps) (λ s e. refl) tt refl)) (over_less d sock) (over_none st sock) w
step_walk own journal place cell (steps.Broke end peer why) world log d st g due new w = walk_quiet place d d st st log _ world world (quiet_entry log _ world world (same_sockets world world refl refl) (λ s e. refl) tt refl) (λ n x e. e) (λ n e. e) w
step_walk own journal place cell (steps.Post end event) world log d st g due new w = walk_quiet place d d st st log _ world world (quiet_none log world world (same_sockets world world refl refl)) (λ n x e. e) (λ n e. e) w
