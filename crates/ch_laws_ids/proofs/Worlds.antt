-- What a cell's host tells of a call leads on what each end of each socket wrote.
use Rattle.std.proofs.Common.{◌≡◌, ◌⊎◌, inl, inr, ℕ, Bool, true, false, cond, ◌&&◌, List, [], ◌∷◌, ◌++◌, refl, sym, ap, ◌∙◌, subst}
use Rattle.std.proofs.lemmas.Bool.{and_parts}
use Rattle.std.proofs.lemmas.List.{append-nil}
use Rattle.std.proofs.lemmas.List.Elements.{filter_map-append}
use Rattle.std.specs.List.{cons_option}
use Rattle.std.specs.Prelude.{find, slice_get, slice_set, Option, Some, None, ◌==◌}
use Rattle.ch_base.specs.declared.address.Address.{Address}
use Rattle.ch_model.specs.declared.entry.Entry.{Entry}
use Rattle.ch_model.specs.declared.entry.Entry.TheVariants as entries
use Rattle.ch_model.specs.declared.line.Line.{Line}
use Rattle.ch_model.specs.declared.local.LocalEntry.TheVariants as local
use Rattle.ch_model.specs.declared.name.End.{End}
use Rattle.ch_model.specs.declared.name.End.TheVariants.{O, T}
use Rattle.ch_model.specs.declared.name.SockName.{SockName}
use Rattle.ch_model.specs.declared.step.Place.{Place}
use Rattle.ch_model.specs.declared.step.Step.{Step}
use Rattle.ch_model.specs.declared.step.Step.TheVariants as steps
use Rattle.ch_model.specs.CellSteps.{told_steps}
use Rattle.ch_model.specs.HostState.{Socket, HostState}
use Rattle.ch_model.specs.HostSteps.{own_address, is_socket}
use Rattle.ch_model.specs.Naming.{called}
use Rattle.ch_model.specs.Same.{same_socket, same_end}
use Rattle.ch_model.specs.Sockets.{writings}
use Rattle.ch_model.specs.Stages.{Pending}
use Rattle.ch_model.specs.WorldHappenings.{with_cell}
use Rattle.ch_model.specs.WorldSockets.{end_of, other, with_end, item_arrives, end_of_nobody, is_socket_named, with_socket, with_end_of, same_number, is_end_of, find_end, cell_of, target_end, new_socket}
use Rattle.ch_model.specs.WorldState.{Cell, WorldEnd, WorldSocket, World}
use Rattle.ch_model.specs.WorldSteps.{on_end, reads_item, end_closes, stepped, all_told}
use Rattle.ch_laws_bytes.proofs.Event.{set_at}
use Rattle.ch_laws_bytes.proofs.Sockets.{flip, not_found}
use Rattle.ch_laws_calls.specs.Calls.{with_host, done_at}
use Rattle.ch_laws_ends.proofs.Changes.{OnDial, step_as, told_cells}
use Rattle.ch_laws_ends.proofs.Found.{KeepsPlace, EachFound, each_kept, new_name}
use Rattle.ch_laws_ends.proofs.Known.{Sorted, keeps_sorted}
use Rattle.ch_laws_ends.proofs.Places.{got_same}
use Rattle.ch_laws_log.proofs.Kept.{one_told}
use Rattle.ch_laws_log.proofs.Stored.{number_is, same_is, self_same, find_stored, found_end, next_is_new, Distinct}
use Rattle.ch_laws_log.proofs.WorldEnds.{found_is}
use Rattle.ch_laws_writes.specs.Dues.{Asking, due_at}
use Rattle.ch_laws_calls.specs.FitsFit.{final_at, Leads}
use Rattle.ch_laws_calls.specs.FitsTurns.{NoDials}
use Rattle.ch_laws_calls.proofs.FitsEnds.{IsKept}
use Rattle.ch_laws_calls.proofs.FitsTold.{hosts_hold}
use Rattle.ch_laws_ids.specs.Runs.{pieces_at, pieces_for, Runs, RunsThere, RunsFor, AllRun}
use Rattle.ch_laws_ids.proofs.Hosts.{Does, runs_on, fits_some}

-- ---- sockets that stay

-- the socket was there, with its ends in their places
pub record Was (world : World) (s : SockName) (socket : WorldSocket) : Type 0 where
  pub before : WorldSocket
  pub found : find (is_socket_named s) world.sockets ≡ Some before
  pub cell : (e : End) → (end_of e socket).cell ≡ (end_of e before).cell
  pub number : (e : End) → (end_of e socket).number ≡ (end_of e before).number

-- the sockets are those that were there
pub record Same (world after : World) : Type 0 where
  pub was : (s : SockName) (socket : WorldSocket) → find (is_socket_named s) after.sockets ≡ Some socket → Was world s socket
  pub none : (s : SockName) → find (is_socket_named s) after.sockets ≡ None → find (is_socket_named s) world.sockets ≡ None

pub same_self : (world after : World) → after.sockets ≡ world.sockets → Same world after
same_self world after is = record {
  was = λ s socket found. record { before = socket; found = ap (find (is_socket_named s)) (sym is) ∙ found; cell = λ e. refl; number = λ e. refl };
  none = λ s none. ap (find (is_socket_named s)) (sym is) ∙ none;
}

pub same_onward : (one two three : World) → Same one two → Same two three → Same one three
same_onward one two three a b = record {
  was = λ s socket found. let late = b.was s socket found in let soon = a.was s late.before late.found in record { before = soon.before; found = soon.found; cell = λ e. late.cell e ∙ soon.cell e; number = λ e. late.number e ∙ soon.number e };
  none = λ s none. a.none s (b.none s none);
}

-- an end is changed in its place
pub same_change : (s : SockName) (e : End) (f : WorldEnd → WorldEnd) (world : World) → KeepsPlace f → Same world (with_end_of s e f world)
same_change s e f world k = by_socket (find (is_socket_named s) world.sockets) refl where
  place : (old : WorldSocket) (e x : End) → ((end_of x (with_end e (f (end_of e old)) old)).cell ≡ (end_of x old).cell) × ((end_of x (with_end e (f (end_of e old)) old)).number ≡ (end_of x old).number)
  place old O O = k old.o
  place old O T = (refl, refl)
  place old T O = (refl, refl)
  place old T T = k old.t

  by_name : (old : WorldSocket) → find (is_socket_named s) world.sockets ≡ Some old → (t : SockName) (socket : WorldSocket) (b : Bool) → same_socket s t ≡ b → cond b (Some (with_end e (f (end_of e old)) old)) (find (is_socket_named t) world.sockets) ≡ Some socket → Was world t socket
  by_name old is t socket true h found =
      let new : with_end e (f (end_of e old)) old ≡ socket = cc in
      subst (Was world t) new (record { before = old; found = subst (λ (n : SockName). find (is_socket_named n) world.sockets ≡ Some old) (same_is s t h) is; cell = λ x. (place old e x).0; number = λ x. (place old e x).1 })
  by_name old is t socket false h found = record { before = socket; found = found; cell = λ x. refl; number = λ x. refl }

  by_none : (new : WorldSocket) (t : SockName) (b : Bool) → cond b (Some new) (find (is_socket_named t) world.sockets) ≡ None → find (is_socket_named t) world.sockets ≡ None
  by_none new t true none = absurd cc
  by_none new t false none = none

  by_socket : (o : Option WorldSocket) → find (is_socket_named s) world.sockets ≡ o → Same world (elim o as (λ o. World) [
    | None ↦ world
    | Some socket ↦ with_socket (with_end e (f (end_of e socket)) socket) world
  ])
  by_socket None is = same_self world world refl
  by_socket (Some old) is = record {
    was = λ t socket found. by_name old is t socket (same_socket s t) refl (ap (λ (n : SockName). cond (same_socket n t) (Some (with_end e (f (end_of e old)) old)) (find (is_socket_named t) world.sockets)) (sym (new_name s e (f (end_of e old)) world.sockets old is)) ∙ sym (find_stored (with_end e (f (end_of e old)) old) world.sockets t) ∙ found);
    none = λ t none. by_none (with_end e (f (end_of e old)) old) t (same_socket (with_end e (f (end_of e old)) old).name t) (sym (find_stored (with_end e (f (end_of e old)) old) world.sockets t) ∙ none);
  }

-- ---- one step

first_alone : (step : Step) (rest : List Step) → NoDials (step ∷ rest) → NoDials (step ∷ []) × NoDials rest
first_alone (steps.Dial sock end peer) rest n = absurd n
first_alone (steps.Read sock) rest n = (tt, n)
first_alone (steps.Write sock bytes said) rest n = (tt, n)
first_alone (steps.Up sock) rest n = (tt, n)
first_alone (steps.Down sock) rest n = (tt, n)
first_alone (steps.Left sock) rest n = (tt, n)
first_alone (steps.Broke end peer why) rest n = (tt, n)
first_alone (steps.Post end event) rest n = (tt, n)

no_dial : (P : World → Type 0) (place : ℕ) (cell : Cell) (step : Step) (world : World) → NoDials (step ∷ []) → OnDial P place cell step world
no_dial P place cell (steps.Dial sock end peer) world n = absurd n
no_dial P place cell (steps.Read sock) world n = tt
no_dial P place cell (steps.Write sock bytes said) world n = tt
no_dial P place cell (steps.Up sock) world n = tt
no_dial P place cell (steps.Down sock) world n = tt
no_dial P place cell (steps.Left sock) world n = tt
no_dial P place cell (steps.Broke end peer why) world n = tt
no_dial P place cell (steps.Post end event) world n = tt

step_same : (place : ℕ) (cell : Cell) (step : Step) (world : World) → NoDials (step ∷ []) → Same world (stepped place cell step world).1
step_same place cell step world n = step_as (Same world) (λ one two c s k. same_onward world one two k (same_self one two s)) place cell step world (no_dial (Same world) place cell step world n) (λ s e f c. same_change s e f world c.changes.place) (same_self world world refl)

step_each : (place : ℕ) (cell : Cell) (step : Step) (world : World) → NoDials (step ∷ []) → EachFound world.sockets → EachFound (stepped place cell step world).1.sockets
step_each place cell step world n each = step_as (λ w. EachFound w.sockets) (λ one two c s k. subst EachFound (sym s) k) place cell step world (no_dial (λ w. EachFound w.sockets) place cell step world n) (λ s e f c. each_kept s e f world c.changes.place each) each

same_end_is : (a b : End) → same_end a b ≡ true → a ≡ b
same_end_is O O e = refl
same_end_is O T e = absurd cc
same_end_is T O e = absurd cc
same_end_is T T e = refl

-- what is written on an end that is found, or nothing
on_end_writes : (place sock : ℕ) (f : SockName × End → World → List Entry × World) (world : World) (s : SockName) (e : End) (pieces : List (List ℕ)) → ((at : SockName × End) → find_end place sock world.sockets ≡ Some at → writings (f at world).0 s e ≡ pieces) → (find_end place sock world.sockets ≡ None → [] ≡ pieces) → writings (on_end place sock f world).0 s e ≡ pieces
on_end_writes place sock f world s e pieces each none = by_end (find_end place sock world.sockets) refl where
  by_end : (o : Option (SockName × End)) → find_end place sock world.sockets ≡ o → writings (elim o as (λ o. List Entry × World) [
    | None ↦ ([], world)
    | Some at ↦ f at world
  ]).0 s e ≡ pieces
  by_end None h = none h
  by_end (Some at) h = each at h

wrote_there : (at : SockName × End) (bytes : List ℕ) (s : SockName) (e : End) (b : Bool) → (same_socket at.0 s && same_end at.1 e) ≡ b → writings (entries.Wrote at.0 at.1 bytes ∷ []) s e ≡ cond b (bytes ∷ []) []
wrote_there at bytes s e b h = ap (λ c. cons_option (cond c (Some bytes) None) []) h ∙ by_test b where
  by_test : (b : Bool) → cons_option (cond b (Some bytes) None) [] ≡ cond b (bytes ∷ []) []
  by_test true = refl
  by_test false = refl

-- the pieces of one step
silent_pieces : (place : ℕ) (step : Step) (cell number : Option ℕ) → ((n : ℕ) → pieces_at n (step ∷ []) ≡ []) → [] ≡ pieces_for place (step ∷ []) cell number
silent_pieces place step None number s = refl
silent_pieces place step (Some p) None s = refl
silent_pieces place step (Some p) (Some n) s = by_test (p == place) where
  by_test : (b : Bool) → [] ≡ cond b (pieces_at n (step ∷ [])) []
  by_test true = sym (s n)
  by_test false = refl

write_pieces : (place sock : ℕ) (bytes : List ℕ) (said : Option Place) (end : WorldEnd) → pieces_for place (steps.Write sock bytes said ∷ []) end.cell end.number ≡ cond (is_end_of place sock end) (bytes ∷ []) []
write_pieces place sock bytes said end = by_end end.cell end.number where
  by_end : (c m : Option ℕ) → pieces_for place (steps.Write sock bytes said ∷ []) c m ≡ cond (same_number c place && same_number m sock) (bytes ∷ []) []
  by_end None m = refl
  by_end (Some p) None = by_test (p == place) where
    by_test : (b : Bool) → [] ≡ cond (b && false) (bytes ∷ []) []
    by_test true = refl
    by_test false = refl
  by_end (Some p) (Some n) = by_test (p == place) where
    by_test : (b : Bool) → cond b (cond (sock == n) (bytes ∷ []) []) [] ≡ cond (b && (n == sock)) (bytes ∷ []) []
    by_test true = ap (λ c. cond c (bytes ∷ []) []) (flip sock n)
    by_test false = refl

-- what a step writes at the end of a socket
step_pieces : (place : ℕ) (cell : Cell) (step : Step) (world : World) (s : SockName) (socket : WorldSocket) (e : End) → Distinct world.sockets → EachFound world.sockets → NoDials (step ∷ []) → find (is_socket_named s) world.sockets ≡ Some socket
    → writings (stepped place cell step world).0 s e ≡ pieces_for place (step ∷ []) (end_of e socket).cell (end_of e socket).number
step_pieces place cell (steps.Dial sock end peer) world s socket e apart each n found = absurd n
step_pieces place cell (steps.Read sock) world s socket e apart each n found = on_end_writes place sock reads_item world s e (pieces_for place (steps.Read sock ∷ []) (end_of e socket).cell (end_of e socket).number) (λ at h. silent_pieces place (steps.Read sock) (end_of e socket).cell (end_of e socket).number (λ m. refl)) (λ h. silent_pieces place (steps.Read sock) (end_of e socket).cell (end_of e socket).number (λ m. refl))
step_pieces place cell (steps.Write sock bytes said) world s socket e apart each n found = on_end_writes place sock (λ at now. (entries.Wrote at.0 at.1 bytes ∷ [], with_end_of at.0 (other at.1) (item_arrives bytes said) now)) world s e (pieces_for place (steps.Write sock bytes said ∷ []) (end_of e socket).cell (end_of e socket).number)
    (λ at h. by_same at h (same_socket at.0 s && same_end at.1 e) refl) (λ h. sym (off (λ g. clash s (sym h ∙ g))))
  where
    clash : (t : SockName) → ◌≡◌ {A = Option (SockName × End)} None (Some (t, e)) → ⊥
    clash t g = cc

    off : (find_end place sock world.sockets ≡ Some (s, e) → ⊥) → pieces_for place (steps.Write sock bytes said ∷ []) (end_of e socket).cell (end_of e socket).number ≡ []
    off never = write_pieces place sock bytes said (end_of e socket) ∙ ap (λ b. cond b (bytes ∷ []) []) (not_found place sock world.sockets s socket e each found never)

    same_at : (at : SockName × End) → (same_socket at.0 s && same_end at.1 e) ≡ true → at ≡ (s, e)
    same_at at h = let parts = and_parts (same_socket at.0 s) (same_end at.1 e) h in ap (λ (t : SockName). (t, at.1)) (same_is at.0 s parts.0) ∙ ap (λ (x : End). (s, x)) (same_end_is at.1 e parts.1)

    one_at : (x y : SockName × End) → ◌≡◌ {A = Option (SockName × End)} (Some x) (Some y) → x ≡ y
    one_at x y g = cc

    self_end : (x : End) → same_end x x ≡ true
    self_end O = refl
    self_end T = refl

    by_same : (at : SockName × End) → find_end place sock world.sockets ≡ Some at → (b : Bool) → (same_socket at.0 s && same_end at.1 e) ≡ b → writings (entries.Wrote at.0 at.1 bytes ∷ []) s e ≡ pieces_for place (steps.Write sock bytes said ∷ []) (end_of e socket).cell (end_of e socket).number
    by_same at h true g =
        let here : find_end place sock world.sockets ≡ Some (s, e) = h ∙ ap Some (same_at at g) in
        wrote_there at bytes s e true g ∙ sym (write_pieces place sock bytes said (end_of e socket) ∙ ap (λ b. cond b (bytes ∷ []) []) (found_is place sock world.sockets (s, e) socket apart here found))
    by_same at h false g = wrote_there at bytes s e false g ∙ sym (off (λ k. absurd (differs at (one_at at (s, e) (sym h ∙ k)) g))) where
      differs : (at : SockName × End) → at ≡ (s, e) → (same_socket at.0 s && same_end at.1 e) ≡ false → ⊥
      differs at is g = let yes : (same_socket at.0 s && same_end at.1 e) ≡ true = subst (λ (x : SockName × End). (same_socket x.0 s && same_end x.1 e) ≡ true) (sym is) (ap (λ b. b && same_end e e) (self_same s) ∙ self_end e) in absurd cc
step_pieces place cell (steps.Up sock) world s socket e apart each n found = on_end_writes place sock (λ at now. (entries.Up at.0 at.1 ∷ [], now)) world s e (pieces_for place (steps.Up sock ∷ []) (end_of e socket).cell (end_of e socket).number) (λ at h. silent_pieces place (steps.Up sock) (end_of e socket).cell (end_of e socket).number (λ m. refl)) (λ h. silent_pieces place (steps.Up sock) (end_of e socket).cell (end_of e socket).number (λ m. refl))
step_pieces place cell (steps.Down sock) world s socket e apart each n found = on_end_writes place sock (λ at now. (entries.Down at.0 at.1 ∷ [], end_closes at now)) world s e (pieces_for place (steps.Down sock ∷ []) (end_of e socket).cell (end_of e socket).number) (λ at h. silent_pieces place (steps.Down sock) (end_of e socket).cell (end_of e socket).number (λ m. refl)) (λ h. silent_pieces place (steps.Down sock) (end_of e socket).cell (end_of e socket).number (λ m. refl))
step_pieces place cell (steps.Left sock) world s socket e apart each n found = on_end_writes place sock (λ at now. (entries.Left at.0 at.1 ∷ [], end_closes at now)) world s e (pieces_for place (steps.Left sock ∷ []) (end_of e socket).cell (end_of e socket).number) (λ at h. silent_pieces place (steps.Left sock) (end_of e socket).cell (end_of e socket).number (λ m. refl)) (λ h. silent_pieces place (steps.Left sock) (end_of e socket).cell (end_of e socket).number (λ m. refl))
step_pieces place cell (steps.Broke end peer why) world s socket e apart each n found = silent_pieces place (steps.Broke end peer why) (end_of e socket).cell (end_of e socket).number (λ m. refl)
step_pieces place cell (steps.Post end event) world s socket e apart each n found = silent_pieces place (steps.Post end event) (end_of e socket).cell (end_of e socket).number (λ m. refl)

-- nothing is written of a socket that isn't there
step_none : (place : ℕ) (cell : Cell) (step : Step) (world : World) (s : SockName) (e : End) → NoDials (step ∷ []) → find (is_socket_named s) world.sockets ≡ None → writings (stepped place cell step world).0 s e ≡ []
step_none place cell (steps.Dial sock end peer) world s e n none = absurd n
step_none place cell (steps.Read sock) world s e n none = on_end_writes place sock reads_item world s e [] (λ at h. refl) (λ h. refl)
step_none place cell (steps.Write sock bytes said) world s e n none = on_end_writes place sock (λ at now. (entries.Wrote at.0 at.1 bytes ∷ [], with_end_of at.0 (other at.1) (item_arrives bytes said) now)) world s e []
    (λ at h. wrote_there at bytes s e false (by_same at h (same_socket at.0 s) refl)) (λ h. refl)
  where
    by_same : (at : SockName × End) → find_end place sock world.sockets ≡ Some at → (b : Bool) → same_socket at.0 s ≡ b → (b && same_end at.1 e) ≡ false
    by_same at h false g = refl
    by_same at h true g = let held = found_end place sock world.sockets at h in
        let there : find (is_socket_named s) world.sockets ≡ Some held.socket = subst (λ (m : SockName). find (is_socket_named m) world.sockets ≡ Some held.socket) (same_is at.0 s g) held.is in absurd (clash held.socket (sym none ∙ there)) where
          clash : (w : WorldSocket) → ◌≡◌ {A = Option WorldSocket} None (Some w) → ⊥
          clash w k = cc
step_none place cell (steps.Up sock) world s e n none = on_end_writes place sock (λ at now. (entries.Up at.0 at.1 ∷ [], now)) world s e [] (λ at h. refl) (λ h. refl)
step_none place cell (steps.Down sock) world s e n none = on_end_writes place sock (λ at now. (entries.Down at.0 at.1 ∷ [], end_closes at now)) world s e [] (λ at h. refl) (λ h. refl)
step_none place cell (steps.Left sock) world s e n none = on_end_writes place sock (λ at now. (entries.Left at.0 at.1 ∷ [], end_closes at now)) world s e [] (λ at h. refl) (λ h. refl)
step_none place cell (steps.Broke end peer why) world s e n none = refl
step_none place cell (steps.Post end event) world s e n none = refl

-- ---- all steps

first_at : (n : ℕ) (step : Step) (rest : List Step) → pieces_at n (step ∷ rest) ≡ pieces_at n (step ∷ []) ++ pieces_at n rest
first_at n (steps.Write sock bytes said) rest = by_test (sock == n) where
  by_test : (b : Bool) → cond b (bytes ∷ pieces_at n rest) (pieces_at n rest) ≡ cond b (bytes ∷ []) [] ++ pieces_at n rest
  by_test true = refl
  by_test false = refl
first_at n (steps.Dial sock end peer) rest = refl
first_at n (steps.Read sock) rest = refl
first_at n (steps.Up sock) rest = refl
first_at n (steps.Down sock) rest = refl
first_at n (steps.Left sock) rest = refl
first_at n (steps.Broke end peer why) rest = refl
first_at n (steps.Post end event) rest = refl

first_for : (place : ℕ) (step : Step) (rest : List Step) (cell number : Option ℕ) → pieces_for place (step ∷ rest) cell number ≡ pieces_for place (step ∷ []) cell number ++ pieces_for place rest cell number
first_for place step rest None number = refl
first_for place step rest (Some p) None = refl
first_for place step rest (Some p) (Some n) = by_test (p == place) where
  by_test : (b : Bool) → cond b (pieces_at n (step ∷ rest)) [] ≡ cond b (pieces_at n (step ∷ [])) [] ++ cond b (pieces_at n rest) []
  by_test true = first_at n step rest
  by_test false = refl

pub none_for : (place : ℕ) (cell number : Option ℕ) → pieces_for place [] cell number ≡ []
none_for place None number = refl
none_for place (Some p) None = refl
none_for place (Some p) (Some n) = by_test (p == place) where
  by_test : (b : Bool) → ◌≡◌ {A = List (List ℕ)} (cond b [] []) []
  by_test true = refl
  by_test false = refl

-- what steps do to the sockets, and write
record Told (place : ℕ) (told : List Step) (log : List Entry) (world after : World) : Type 0 where
  same : Same world after
  wrote : (s : SockName) (socket : WorldSocket) (e : End) → find (is_socket_named s) world.sockets ≡ Some socket → writings log s e ≡ pieces_for place told (end_of e socket).cell (end_of e socket).number
  silent : (s : SockName) (e : End) → find (is_socket_named s) after.sockets ≡ None → writings log s e ≡ []

all_steps : (journal : List Line) (place : ℕ) (cell : Cell) (told : List Step) (log : List Entry) (world : World) → Sorted journal log world → EachFound world.sockets → NoDials told → Told place told (all_told place cell (told_steps told) world).0 world (all_told place cell (told_steps told) world).1
all_steps journal place cell [] log world g each n = record { same = same_self world world refl; wrote = λ s socket e found. sym (none_for place (end_of e socket).cell (end_of e socket).number); silent = λ s e none. refl }
all_steps journal place cell (step ∷ rest) log world g each n = onward (all_steps journal place cell rest (log ++ (stepped place cell step world).0) one (one_told (Sorted journal) (keeps_sorted journal) log place cell (local.Step step) world g) (step_each place cell step world parts.0 each) parts.1) where
  parts : NoDials (step ∷ []) × NoDials rest
  parts = first_alone step rest n

  one : World
  one = (stepped place cell step world).1

  first : Same world one
  first = step_same place cell step world parts.0

  later : List Entry × World
  later = all_told place cell (told_steps rest) one

  both : (s : SockName) (e : End) → writings ((stepped place cell step world).0 ++ later.0) s e ≡ writings (stepped place cell step world).0 s e ++ writings later.0 s e
  both s e = filter_map-append _ (stepped place cell step world).0 later.0

  onward : Told place rest later.0 one later.1 → Told place (step ∷ rest) ((stepped place cell step world).0 ++ later.0) world later.1
  onward t = record {
    same = same_onward world one later.1 first t.same;
    wrote = λ s socket e found. both s e ∙ ap (λ l. l ++ writings later.0 s e) (step_pieces place cell step world s socket e g.0.apart each parts.0 found) ∙ ap (λ l. pieces_for place (step ∷ []) (end_of e socket).cell (end_of e socket).number ++ l) (rest_wrote s socket e found (find (is_socket_named s) one.sockets) refl) ∙ sym (first_for place step rest (end_of e socket).cell (end_of e socket).number);
    silent = λ s e none. both s e ∙ ap (λ l. l ++ writings later.0 s e) (step_none place cell step world s e parts.0 (first.none s (t.same.none s none))) ∙ t.silent s e none;
  } where
    rest_wrote : (s : SockName) (socket : WorldSocket) (e : End) → find (is_socket_named s) world.sockets ≡ Some socket → (o : Option WorldSocket) → find (is_socket_named s) one.sockets ≡ o → writings later.0 s e ≡ pieces_for place rest (end_of e socket).cell (end_of e socket).number
    rest_wrote s socket e found None h = let gone : find (is_socket_named s) world.sockets ≡ None = first.none s h in absurd cc
    rest_wrote s socket e found (Some now) h =
        let was = first.was s now h in
        let is : was.before ≡ socket = one_is was.before socket (sym was.found ∙ found) in
        t.wrote s now e h ∙ ap (λ (c : Option ℕ). pieces_for place rest c (end_of e now).number) (was.cell e ∙ ap (λ (w : WorldSocket). (end_of e w).cell) is) ∙ ap (pieces_for place rest (end_of e socket).cell) (was.number e ∙ ap (λ (w : WorldSocket). (end_of e w).number) is)
      where
        one_is : (x y : WorldSocket) → ◌≡◌ {A = Option WorldSocket} (Some x) (Some y) → x ≡ y
        one_is x y k = cc

-- ---- ends

-- each end of the host that it has a record of runs on
abbrev pub HostRuns : HostState → List Step → HostState → Type 0
HostRuns host told after = (n : ℕ) (known : Socket) (which : End) (pieces : List (List ℕ)) → find (is_socket n) host.sockets ≡ Some known → Runs host n which pieces → Runs after n which (pieces ++ pieces_at n told)

pub ends_on : (cells : List (Cell × ℕ)) (place : ℕ) (cell now : Cell × ℕ) (told : List Step) (c m : Option ℕ) (which : End) (pieces : List (List ℕ)) → slice_get cells place ≡ Some cell → HostRuns cell.0.host told now.0.host → IsKept place cell.0.host c m → RunsFor cells c m which pieces
    → RunsFor (slice_set cells place now) c m which (pieces ++ pieces_for place told c m)
ends_on cells place cell now told None m which pieces at h k r = append-nil pieces ∙ r
ends_on cells place cell now told (Some p) None which pieces at h k r = append-nil pieces ∙ r
ends_on cells place cell now told (Some p) (Some n) which pieces at h k r = subst (λ (o : Option (Cell × ℕ)). RunsThere o n which (pieces ++ cond (p == place) (pieces_at n told) [])) (sym (set_at cells place cell now p at))
    (subst (λ (b : Bool). RunsThere (cond (place == p) (Some now) (slice_get cells p)) n which (pieces ++ cond b (pieces_at n told) [])) (flip place p) (by_test (place == p) refl))
  where
    by_test : (b : Bool) → (place == p) ≡ b → RunsThere (cond b (Some now) (slice_get cells p)) n which (pieces ++ cond b (pieces_at n told) [])
    by_test true e =
        let here : place ≡ p = number_is place p e in
        let known = k n (ap Some (sym here)) refl in
        h n known.0 which pieces known.1 (subst (λ (o : Option (Cell × ℕ)). RunsThere o n which pieces) (ap (slice_get cells) (sym here) ∙ at) r)
    by_test false e = subst (RunsThere (slice_get cells p) n which) (sym (append-nil pieces)) r

-- ---- a call

-- what is so of a call of a host
pub record MayRun (journal : List Line) (own : ℕ → Address) (log : List Entry) (world : World) (place : ℕ) (cell : Cell × ℕ) (told : List Step) (host : HostState) : Type 0 where
  pub at : slice_get world.cells place ≡ Some cell
  pub sorted : Sorted journal log world
  pub each : EachFound world.sockets
  pub kept : (s : SockName) (socket : WorldSocket) (e : End) → find (is_socket_named s) world.sockets ≡ Some socket → IsKept place cell.0.host (end_of e socket).cell (end_of e socket).number
  pub does : Does own cell.0.host told host
  pub fresh : (sock end : ℕ) (peer : Address) → told ≡ steps.Dial sock end peer ∷ [] → (due_at host sock ≡ Some (Asking end peer)) × Leads (final_at host sock) (Some [])

-- the log with what is told
wrote_both : (log told : List Entry) (s : SockName) (e : End) → writings (log ++ told) s e ≡ writings log s e ++ writings told s e
wrote_both log told s e = filter_map-append _ log told

undialed : (journal : List Line) (own : ℕ → Address) (log more : List Entry) (world : World) (place : ℕ) (cell : Cell × ℕ) (told : List Step) (host : HostState) → MayRun journal own log world place cell told host → NoDials told → AllRun more world → AllRun (more ++ (done_at place cell told host world).0) (done_at place cell told host world).1
undialed journal own log more world place cell told host c n r = record {
  hosts = hosts_hold world after place cell (with_host cell host, cell.1) c.at cells r.hosts c.does.carries.holds;
  unopened = λ s e none. wrote_both more done.0 s e ∙ ap (λ l. l ++ writings done.0 s e) (r.unopened s e (t.same.none s none)) ∙ t.silent s e none;
  ends = λ s socket e found. by_was s socket e (t.same.was s socket found);
} where
  kept : World
  kept = with_cell place (with_host cell host, cell.1) world

  done : List Entry × World
  done = done_at place cell told host world

  after : World
  after = done.1

  cells : after.cells ≡ slice_set world.cells place (with_host cell host, cell.1)
  cells = told_cells place (with_host cell host) (told_steps told) kept

  t : Told place told done.0 kept after
  t = all_steps journal place (with_host cell host) told log kept ((keeps_sorted journal).cell log world place (with_host cell host, cell.1) c.sorted) c.each n

  by_was : (s : SockName) (socket : WorldSocket) (e : End) → Was kept s socket → RunsFor after.cells (end_of e socket).cell (end_of e socket).number e (writings (more ++ done.0) s e)
  by_was s socket e w = subst (RunsFor after.cells (end_of e socket).cell (end_of e socket).number e) (sym (wrote_both more done.0 s e ∙ ap (λ l. writings more s e ++ l) (t.wrote s w.before e w.found)))
      (subst (λ (m : Option ℕ). RunsFor after.cells (end_of e socket).cell m e (writings more s e ++ pieces_for place told (end_of e w.before).cell (end_of e w.before).number)) (sym (w.number e))
      (subst (λ (k : Option ℕ). RunsFor after.cells k (end_of e w.before).number e (writings more s e ++ pieces_for place told (end_of e w.before).cell (end_of e w.before).number)) (sym (w.cell e))
      (subst (λ (l : List (Cell × ℕ)). RunsFor l (end_of e w.before).cell (end_of e w.before).number e (writings more s e ++ pieces_for place told (end_of e w.before).cell (end_of e w.before).number)) (sym cells)
      (ends_on world.cells place cell (with_host cell host, cell.1) told (end_of e w.before).cell (end_of e w.before).number e (writings more s e) c.at (λ n known which pieces found run. runs_on own cell.0.host told host n known which pieces c.does found run) (c.kept s w.before e w.found) (r.ends s w.before e w.found)))))

dialed : (journal : List Line) (own : ℕ → Address) (log more : List Entry) (world : World) (place : ℕ) (cell : Cell × ℕ) (sock end : ℕ) (peer : Address) (host : HostState) → let told = steps.Dial sock end peer ∷ [] in MayRun journal own log world place cell told host → AllRun more world → AllRun (more ++ (done_at place cell told host world).0) (done_at place cell told host world).1
dialed journal own log more world place cell sock end peer host c r = record {
  hosts = hosts_hold world after place cell (with_host cell host, cell.1) c.at refl r.hosts c.does.carries.holds;
  unopened = λ s e none. wrote_none s e ∙ r.unopened s e (by_none s (same_socket new.name s) (sym (find_stored new world.sockets s) ∙ none));
  ends = λ s socket e found. by_name s socket e (same_socket new.name s) refl (sym (find_stored new world.sockets s) ∙ found);
} where
  told : List Step
  told = steps.Dial sock end peer ∷ []

  kept : World
  kept = with_cell place (with_host cell host, cell.1) world

  after : World
  after = (done_at place cell told host world).1

  new : WorldSocket
  new = new_socket kept (called kept.names (own_address host end)) (called kept.names peer) host.host (end_of_nobody (Some place) (Some sock) Pending) peer

  wrote_none : (s : SockName) (e : End) → writings (more ++ (done_at place cell told host world).0) s e ≡ writings more s e
  wrote_none s e = wrote_both more (done_at place cell told host world).0 s e ∙ append-nil (writings more s e)

  by_none : (s : SockName) (b : Bool) → cond b (Some new) (find (is_socket_named s) world.sockets) ≡ None → find (is_socket_named s) world.sockets ≡ None
  by_none s true h = absurd cc
  by_none s false h = h

  -- nothing was written under its name
  silent : (s : SockName) → same_socket new.name s ≡ true → (e : End) → writings (more ++ (done_at place cell told host world).0) s e ≡ []
  silent s h e = wrote_none s e ∙ r.unopened s e (subst (λ (m : SockName). find (is_socket_named m) world.sockets ≡ None) (same_is new.name s h) (next_is_new kept (called kept.names (own_address host end)) (called kept.names peer) c.sorted.0.numbered))

  target : (o : Option ℕ) (pieces : List (List ℕ)) → pieces ≡ [] → RunsFor after.cells (target_end o).cell (target_end o).number T pieces
  target None pieces none = none
  target (Some p) pieces none = none

  opener : (pieces : List (List ℕ)) → pieces ≡ [] → Runs host sock O pieces
  opener pieces none = let f = c.fresh sock end peer refl in subst (Runs host sock O) (sym none) (record { due = λ due e. fits_some (Some (Asking end peer)) O [] (refl, refl) due (sym f.0 ∙ e); leads = f.1 })

  new_runs : (pieces : List (List ℕ)) (e : End) → pieces ≡ [] → RunsFor after.cells (end_of e new).cell (end_of e new).number e pieces
  new_runs pieces O none = subst (λ (o : Option (Cell × ℕ)). RunsThere o sock O pieces) (sym (got_same world.cells place cell (with_host cell host, cell.1) c.at)) (opener pieces none)
  new_runs pieces T none = target (cell_of kept peer) pieces none

  by_name : (s : SockName) (socket : WorldSocket) (e : End) (b : Bool) → same_socket new.name s ≡ b → cond b (Some new) (find (is_socket_named s) world.sockets) ≡ Some socket → RunsFor after.cells (end_of e socket).cell (end_of e socket).number e (writings (more ++ (done_at place cell told host world).0) s e)
  by_name s socket e true h found = let is : new ≡ socket = cc in subst (λ (w : WorldSocket). RunsFor after.cells (end_of e w).cell (end_of e w).number e (writings (more ++ (done_at place cell told host world).0) s e)) is (new_runs (writings (more ++ (done_at place cell told host world).0) s e) e (silent s h e))
  by_name s socket e false h found = subst (RunsFor after.cells (end_of e socket).cell (end_of e socket).number e) (sym (wrote_none s e ∙ sym (append-nil (writings more s e)) ∙ ap (λ l. writings more s e ++ l) (sym (dial_none (end_of e socket).cell (end_of e socket).number))))
      (ends_on world.cells place cell (with_host cell host, cell.1) told (end_of e socket).cell (end_of e socket).number e (writings more s e) c.at (λ n known which pieces found run. runs_on own cell.0.host told host n known which pieces c.does found run) (c.kept s socket e found) (r.ends s socket e found)) where
        dial_none : (k m : Option ℕ) → pieces_for place told k m ≡ []
        dial_none k m = sym (silent_pieces place (steps.Dial sock end peer) k m (λ n. refl))

-- a call keeps that each end runs
pub call_runs : (journal : List Line) (own : ℕ → Address) (log more : List Entry) (world : World) (place : ℕ) (cell : Cell × ℕ) (told : List Step) (host : HostState) → MayRun journal own log world place cell told host → AllRun more world → AllRun (more ++ (done_at place cell told host world).0) (done_at place cell told host world).1
call_runs journal own log more world place cell told host c r = by_dials c.does.dials where
  by_dials : NoDials told ⊎ ((sock : ℕ) × (end : ℕ) × (peer : Address) × (told ≡ steps.Dial sock end peer ∷ []) × (find (is_socket sock) cell.0.host.sockets ≡ None)) → AllRun (more ++ (done_at place cell told host world).0) (done_at place cell told host world).1
  by_dials (inl n) = undialed journal own log more world place cell told host c n r
  by_dials (inr d) = subst (λ (l : List Step). MayRun journal own log world place cell l host → AllRun (more ++ (done_at place cell l host world).0) (done_at place cell l host world).1) (sym d.3) (λ c. dialed journal own log more world place cell d.0 d.1 d.2 host c r) c
