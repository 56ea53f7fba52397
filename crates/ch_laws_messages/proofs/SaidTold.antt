-- What all that a cell tells in a turn writes at the end of each socket.
use Rattle.std.proofs.Common.{◌≡◌, inl, inr, ℕ, Bool, true, false, cond, ◌&&◌, List, [], ◌∷◌, ◌++◌, refl, sym, ap, ◌∙◌, subst}
use Rattle.std.proofs.lemmas.Bool.{and_parts}
use Rattle.std.proofs.lemmas.List.Elements.{filter_map-append}
use Rattle.std.specs.List.{cons_option}
use Rattle.std.specs.Prelude.{find, slice_get, Option, Some, None, ◌==◌}
use Rattle.ch_base.specs.declared.address.Address.{Address}
use Rattle.ch_model.specs.declared.entry.Entry.{Entry}
use Rattle.ch_model.specs.declared.entry.Entry.TheVariants as entries
use Rattle.ch_model.specs.declared.line.Line.{Line}
use Rattle.ch_model.specs.declared.local.LocalEntry.TheVariants as local
use Rattle.ch_model.specs.declared.name.End.{End}
use Rattle.ch_model.specs.declared.name.End.TheVariants.{O, T}
use Rattle.ch_model.specs.declared.name.SockName.{SockName}
use Rattle.ch_model.specs.declared.step.Place.{Place}
use Rattle.ch_model.specs.declared.step.Step.{Step}
use Rattle.ch_model.specs.declared.step.Step.TheVariants as steps
use Rattle.ch_model.specs.HostSteps.{own_address}
use Rattle.ch_model.specs.Naming.{called}
use Rattle.ch_model.specs.Same.{same_socket, same_end}
use Rattle.ch_model.specs.Sockets.{writing, writings}
use Rattle.ch_model.specs.Stages.{Pending}
use Rattle.ch_model.specs.WorldHappenings.{with_cell}
use Rattle.ch_model.specs.WorldSockets.{end_of, other, with_end, item_arrives, end_of_nobody, is_socket_named, with_socket, with_end_of, same_number, is_end_of, end_at, find_end, new_socket}
use Rattle.ch_model.specs.WorldState.{Cell, WorldEnd, WorldSocket, World}
use Rattle.ch_model.specs.WorldSteps.{note_entry, place_after, on_end, reads_item, end_closes, stepped, all_told}
use Rattle.ch_laws_bytes.proofs.Sockets.{flip, not_found}
use Rattle.ch_laws_ends.proofs.Changes.{OnDial, step_as}
use Rattle.ch_laws_ends.proofs.Found.{KeepsPlace, EachFound, each_kept, new_name}
use Rattle.ch_laws_ends.proofs.Known.{Sorted, keeps_sorted}
use Rattle.ch_laws_log.proofs.Kept.{one_told}
use Rattle.ch_laws_log.proofs.Stored.{same_is, self_same, found_end, next_is_new, Distinct}
use Rattle.ch_laws_log.proofs.WorldEnds.{found_is}
use Rattle.ch_laws_calls.specs.FitsTurns.{NoDials}
use Rattle.ch_laws_ids.specs.Runs.{pieces_at, pieces_for}
use Rattle.ch_model.specs.Naming.{Names}
use Rattle.ch_model.specs.declared.local.LocalEntry.{LocalEntry}
use Rattle.ch_model.specs.declared.note.Note.{Note}
use Rattle.ch_model.specs.declared.note.Note.TheVariants as notes
use Rattle.ch_laws_ends.proofs.Told.{Sure}
use Rattle.ch_laws_links.proofs.Found.{same_found}
use Rattle.ch_laws_log.specs.HostEnds.{steps_in}
use Rattle.ch_laws_calls.specs.Turns.{told_on}
use Rattle.ch_laws_ends.proofs.Found.{new_found}
use Rattle.ch_laws_links.proofs.Found.{or_end}
use Rattle.ch_laws_messages.specs.SaidPuts.{DialsOne}
use Rattle.ch_laws_messages.proofs.CarriedAlone.{same_end_is}
use Rattle.ch_laws_ids.proofs.Worlds.{Same, same_self, same_onward, same_change}

-- ---- one step

pub first_alone : (step : Step) (rest : List Step) → NoDials (step ∷ rest) → NoDials (step ∷ []) × NoDials rest
first_alone (steps.Dial sock end peer) rest n = absurd n
first_alone (steps.Read sock) rest n = (tt, n)
first_alone (steps.Write sock bytes said) rest n = (tt, n)
first_alone (steps.Up sock) rest n = (tt, n)
first_alone (steps.Down sock) rest n = (tt, n)
first_alone (steps.Left sock) rest n = (tt, n)
first_alone (steps.Broke end peer why) rest n = (tt, n)
first_alone (steps.Post end event) rest n = (tt, n)

pub no_dial : (P : World → Type 0) (place : ℕ) (cell : Cell) (step : Step) (world : World) → NoDials (step ∷ []) → OnDial P place cell step world
no_dial P place cell (steps.Dial sock end peer) world n = absurd n
no_dial P place cell (steps.Read sock) world n = tt
no_dial P place cell (steps.Write sock bytes said) world n = tt
no_dial P place cell (steps.Up sock) world n = tt
no_dial P place cell (steps.Down sock) world n = tt
no_dial P place cell (steps.Left sock) world n = tt
no_dial P place cell (steps.Broke end peer why) world n = tt
no_dial P place cell (steps.Post end event) world n = tt

pub step_same : (place : ℕ) (cell : Cell) (step : Step) (world : World) → NoDials (step ∷ []) → Same world (stepped place cell step world).1
step_same place cell step world n = step_as (Same world) (λ one two c s k. same_onward world one two k (same_self one two s)) place cell step world (no_dial (Same world) place cell step world n) (λ s e f c. same_change s e f world c.changes.place) (same_self world world refl)

pub step_each : (place : ℕ) (cell : Cell) (step : Step) (world : World) → NoDials (step ∷ []) → EachFound world.sockets → EachFound (stepped place cell step world).1.sockets
step_each place cell step world n each = step_as (λ w. EachFound w.sockets) (λ one two c s k. subst EachFound (sym s) k) place cell step world (no_dial (λ w. EachFound w.sockets) place cell step world n) (λ s e f c. each_kept s e f world c.changes.place each) each

-- what is written on an end that is found, or nothing
pub on_end_writes : (place sock : ℕ) (f : SockName × End → World → List Entry × World) (world : World) (s : SockName) (e : End) (pieces : List (List ℕ)) → ((at : SockName × End) → find_end place sock world.sockets ≡ Some at → writings (f at world).0 s e ≡ pieces) → (find_end place sock world.sockets ≡ None → [] ≡ pieces) → writings (on_end place sock f world).0 s e ≡ pieces
on_end_writes place sock f world s e pieces each none = by_end (find_end place sock world.sockets) refl where
  by_end : (o : Option (SockName × End)) → find_end place sock world.sockets ≡ o → writings (elim o as (λ o. List Entry × World) [
    | None ↦ ([], world)
    | Some at ↦ f at world
  ]).0 s e ≡ pieces
  by_end None h = none h
  by_end (Some at) h = each at h

pub wrote_there : (at : SockName × End) (bytes : List ℕ) (s : SockName) (e : End) (b : Bool) → (same_socket at.0 s && same_end at.1 e) ≡ b → writings (entries.Wrote at.0 at.1 bytes ∷ []) s e ≡ cond b (bytes ∷ []) []
wrote_there at bytes s e b h = ap (λ c. cons_option (cond c (Some bytes) None) []) h ∙ by_test b where
  by_test : (b : Bool) → cons_option (cond b (Some bytes) None) [] ≡ cond b (bytes ∷ []) []
  by_test true = refl
  by_test false = refl

-- the pieces of one step
pub silent_pieces : (place : ℕ) (step : Step) (cell number : Option ℕ) → ((n : ℕ) → pieces_at n (step ∷ []) ≡ []) → [] ≡ pieces_for place (step ∷ []) cell number
silent_pieces place step None number s = refl
silent_pieces place step (Some p) None s = refl
silent_pieces place step (Some p) (Some n) s = by_test (p == place) where
  by_test : (b : Bool) → [] ≡ cond b (pieces_at n (step ∷ [])) []
  by_test true = sym (s n)
  by_test false = refl

pub write_pieces : (place sock : ℕ) (bytes : List ℕ) (said : Option Place) (end : WorldEnd) → pieces_for place (steps.Write sock bytes said ∷ []) end.cell end.number ≡ cond (is_end_of place sock end) (bytes ∷ []) []
write_pieces place sock bytes said end = by_end end.cell end.number where
  by_end : (c m : Option ℕ) → pieces_for place (steps.Write sock bytes said ∷ []) c m ≡ cond (same_number c place && same_number m sock) (bytes ∷ []) []
  by_end None m = refl
  by_end (Some p) None = by_test (p == place) where
    by_test : (b : Bool) → [] ≡ cond (b && false) (bytes ∷ []) []
    by_test true = refl
    by_test false = refl
  by_end (Some p) (Some n) = by_test (p == place) where
    by_test : (b : Bool) → cond b (cond (sock == n) (bytes ∷ []) []) [] ≡ cond (b && (n == sock)) (bytes ∷ []) []
    by_test true = ap (λ c. cond c (bytes ∷ []) []) (flip sock n)
    by_test false = refl

-- what a step writes at the end of a socket
pub step_pieces : (place : ℕ) (cell : Cell) (step : Step) (world : World) (s : SockName) (socket : WorldSocket) (e : End) → Distinct world.sockets → EachFound world.sockets → NoDials (step ∷ []) → find (is_socket_named s) world.sockets ≡ Some socket
    → writings (stepped place cell step world).0 s e ≡ pieces_for place (step ∷ []) (end_of e socket).cell (end_of e socket).number
step_pieces place cell (steps.Dial sock end peer) world s socket e apart each n found = absurd n
step_pieces place cell (steps.Read sock) world s socket e apart each n found = on_end_writes place sock reads_item world s e (pieces_for place (steps.Read sock ∷ []) (end_of e socket).cell (end_of e socket).number) (λ at h. silent_pieces place (steps.Read sock) (end_of e socket).cell (end_of e socket).number (λ m. refl)) (λ h. silent_pieces place (steps.Read sock) (end_of e socket).cell (end_of e socket).number (λ m. refl))
step_pieces place cell (steps.Write sock bytes said) world s socket e apart each n found = on_end_writes place sock (λ at now. (entries.Wrote at.0 at.1 bytes ∷ [], with_end_of at.0 (other at.1) (item_arrives bytes said) now)) world s e (pieces_for place (steps.Write sock bytes said ∷ []) (end_of e socket).cell (end_of e socket).number)
    (λ at h. by_same at h (same_socket at.0 s && same_end at.1 e) refl) (λ h. sym (off (λ g. clash s (sym h ∙ g))))
  where
    clash : (t : SockName) → ◌≡◌ {A = Option (SockName × End)} None (Some (t, e)) → ⊥
    clash t g = cc

    off : (find_end place sock world.sockets ≡ Some (s, e) → ⊥) → pieces_for place (steps.Write sock bytes said ∷ []) (end_of e socket).cell (end_of e socket).number ≡ []
    off never = write_pieces place sock bytes said (end_of e socket) ∙ ap (λ b. cond b (bytes ∷ []) []) (not_found place sock world.sockets s socket e each found never)

    same_at : (at : SockName × End) → (same_socket at.0 s && same_end at.1 e) ≡ true → at ≡ (s, e)
    same_at at h = let parts = and_parts (same_socket at.0 s) (same_end at.1 e) h in ap (λ (t : SockName). (t, at.1)) (same_is at.0 s parts.0) ∙ ap (λ (x : End). (s, x)) (same_end_is at.1 e parts.1)

    one_at : (x y : SockName × End) → ◌≡◌ {A = Option (SockName × End)} (Some x) (Some y) → x ≡ y
    one_at x y g = cc

    self_end : (x : End) → same_end x x ≡ true
    self_end O = refl
    self_end T = refl

    by_same : (at : SockName × End) → find_end place sock world.sockets ≡ Some at → (b : Bool) → (same_socket at.0 s && same_end at.1 e) ≡ b → writings (entries.Wrote at.0 at.1 bytes ∷ []) s e ≡ pieces_for place (steps.Write sock bytes said ∷ []) (end_of e socket).cell (end_of e socket).number
    by_same at h true g =
        let here : find_end place sock world.sockets ≡ Some (s, e) = h ∙ ap Some (same_at at g) in
        wrote_there at bytes s e true g ∙ sym (write_pieces place sock bytes said (end_of e socket) ∙ ap (λ b. cond b (bytes ∷ []) []) (found_is place sock world.sockets (s, e) socket apart here found))
    by_same at h false g = wrote_there at bytes s e false g ∙ sym (off (λ k. absurd (differs at (one_at at (s, e) (sym h ∙ k)) g))) where
      differs : (at : SockName × End) → at ≡ (s, e) → (same_socket at.0 s && same_end at.1 e) ≡ false → ⊥
      differs at is g = let yes : (same_socket at.0 s && same_end at.1 e) ≡ true = subst (λ (x : SockName × End). (same_socket x.0 s && same_end x.1 e) ≡ true) (sym is) (ap (λ b. b && same_end e e) (self_same s) ∙ self_end e) in absurd cc
step_pieces place cell (steps.Up sock) world s socket e apart each n found = on_end_writes place sock (λ at now. (entries.Up at.0 at.1 ∷ [], now)) world s e (pieces_for place (steps.Up sock ∷ []) (end_of e socket).cell (end_of e socket).number) (λ at h. silent_pieces place (steps.Up sock) (end_of e socket).cell (end_of e socket).number (λ m. refl)) (λ h. silent_pieces place (steps.Up sock) (end_of e socket).cell (end_of e socket).number (λ m. refl))
step_pieces place cell (steps.Down sock) world s socket e apart each n found = on_end_writes place sock (λ at now. (entries.Down at.0 at.1 ∷ [], end_closes at now)) world s e (pieces_for place (steps.Down sock ∷ []) (end_of e socket).cell (end_of e socket).number) (λ at h. silent_pieces place (steps.Down sock) (end_of e socket).cell (end_of e socket).number (λ m. refl)) (λ h. silent_pieces place (steps.Down sock) (end_of e socket).cell (end_of e socket).number (λ m. refl))
step_pieces place cell (steps.Left sock) world s socket e apart each n found = on_end_writes place sock (λ at now. (entries.Left at.0 at.1 ∷ [], end_closes at now)) world s e (pieces_for place (steps.Left sock ∷ []) (end_of e socket).cell (end_of e socket).number) (λ at h. silent_pieces place (steps.Left sock) (end_of e socket).cell (end_of e socket).number (λ m. refl)) (λ h. silent_pieces place (steps.Left sock) (end_of e socket).cell (end_of e socket).number (λ m. refl))
step_pieces place cell (steps.Broke end peer why) world s socket e apart each n found = silent_pieces place (steps.Broke end peer why) (end_of e socket).cell (end_of e socket).number (λ m. refl)
step_pieces place cell (steps.Post end event) world s socket e apart each n found = silent_pieces place (steps.Post end event) (end_of e socket).cell (end_of e socket).number (λ m. refl)

-- nothing is written of a socket that isn't there
pub step_none : (place : ℕ) (cell : Cell) (step : Step) (world : World) (s : SockName) (e : End) → NoDials (step ∷ []) → find (is_socket_named s) world.sockets ≡ None → writings (stepped place cell step world).0 s e ≡ []
step_none place cell (steps.Dial sock end peer) world s e n none = absurd n
step_none place cell (steps.Read sock) world s e n none = on_end_writes place sock reads_item world s e [] (λ at h. refl) (λ h. refl)
step_none place cell (steps.Write sock bytes said) world s e n none = on_end_writes place sock (λ at now. (entries.Wrote at.0 at.1 bytes ∷ [], with_end_of at.0 (other at.1) (item_arrives bytes said) now)) world s e []
    (λ at h. wrote_there at bytes s e false (by_same at h (same_socket at.0 s) refl)) (λ h. refl)
  where
    by_same : (at : SockName × End) → find_end place sock world.sockets ≡ Some at → (b : Bool) → same_socket at.0 s ≡ b → (b && same_end at.1 e) ≡ false
    by_same at h false g = refl
    by_same at h true g = let held = found_end place sock world.sockets at h in
        let there : find (is_socket_named s) world.sockets ≡ Some held.socket = subst (λ (m : SockName). find (is_socket_named m) world.sockets ≡ Some held.socket) (same_is at.0 s g) held.is in absurd (clash held.socket (sym none ∙ there)) where
          clash : (w : WorldSocket) → ◌≡◌ {A = Option WorldSocket} None (Some w) → ⊥
          clash w k = cc
step_none place cell (steps.Up sock) world s e n none = on_end_writes place sock (λ at now. (entries.Up at.0 at.1 ∷ [], now)) world s e [] (λ at h. refl) (λ h. refl)
step_none place cell (steps.Down sock) world s e n none = on_end_writes place sock (λ at now. (entries.Down at.0 at.1 ∷ [], end_closes at now)) world s e [] (λ at h. refl) (λ h. refl)
step_none place cell (steps.Left sock) world s e n none = on_end_writes place sock (λ at now. (entries.Left at.0 at.1 ∷ [], end_closes at now)) world s e [] (λ at h. refl) (λ h. refl)
step_none place cell (steps.Broke end peer why) world s e n none = refl
step_none place cell (steps.Post end event) world s e n none = refl

-- ---- all steps

pub first_at : (n : ℕ) (step : Step) (rest : List Step) → pieces_at n (step ∷ rest) ≡ pieces_at n (step ∷ []) ++ pieces_at n rest
first_at n (steps.Write sock bytes said) rest = by_test (sock == n) where
  by_test : (b : Bool) → cond b (bytes ∷ pieces_at n rest) (pieces_at n rest) ≡ cond b (bytes ∷ []) [] ++ pieces_at n rest
  by_test true = refl
  by_test false = refl
first_at n (steps.Dial sock end peer) rest = refl
first_at n (steps.Read sock) rest = refl
first_at n (steps.Up sock) rest = refl
first_at n (steps.Down sock) rest = refl
first_at n (steps.Left sock) rest = refl
first_at n (steps.Broke end peer why) rest = refl
first_at n (steps.Post end event) rest = refl

pub first_for : (place : ℕ) (step : Step) (rest : List Step) (cell number : Option ℕ) → pieces_for place (step ∷ rest) cell number ≡ pieces_for place (step ∷ []) cell number ++ pieces_for place rest cell number
first_for place step rest None number = refl
first_for place step rest (Some p) None = refl
first_for place step rest (Some p) (Some n) = by_test (p == place) where
  by_test : (b : Bool) → cond b (pieces_at n (step ∷ rest)) [] ≡ cond b (pieces_at n (step ∷ [])) [] ++ cond b (pieces_at n rest) []
  by_test true = first_at n step rest
  by_test false = refl

pub none_for : (place : ℕ) (cell number : Option ℕ) → pieces_for place [] cell number ≡ []
none_for place None number = refl
none_for place (Some p) None = refl
none_for place (Some p) (Some n) = by_test (p == place) where
  by_test : (b : Bool) → ◌≡◌ {A = List (List ℕ)} (cond b [] []) []
  by_test true = refl
  by_test false = refl

-- what all that is told does to the sockets, and writes
record Told (place : ℕ) (told : List LocalEntry) (log : List Entry) (world after : World) : Type 0 where
  same : Same world after
  wrote : (s : SockName) (socket : WorldSocket) (e : End) → find (is_socket_named s) world.sockets ≡ Some socket → writings log s e ≡ pieces_for place (steps_in told) (end_of e socket).cell (end_of e socket).number
  silent : (s : SockName) (e : End) → find (is_socket_named s) after.sockets ≡ None → writings log s e ≡ []

note_writes : (known : Names) (last : Option Place) (note : Note) (s : SockName) (e : End) → writings (note_entry known last note ∷ []) s e ≡ []
note_writes known last (notes.Made process origin) s e = refl
note_writes known last note s e = refl

all_steps : (journal : List Line) (place : ℕ) (cell : Cell) (told : List LocalEntry) (log : List Entry) (world : World) → Sorted journal log world → EachFound world.sockets → NoDials (steps_in told) → Told place told (all_told place cell told world).0 world (all_told place cell told world).1
all_steps journal place cell [] log world g each n = record { same = same_self world world refl; wrote = λ s socket e found. sym (none_for place (end_of e socket).cell (end_of e socket).number); silent = λ s e none. refl }
all_steps journal place cell (local.Note note ∷ rest) log world g each n = onward (all_steps journal place cell rest (log ++ note_entry world.names world.last note ∷ []) one (one_told (Sorted journal) (keeps_sorted journal) log place cell (local.Note note) world g) each n) where
  one : World
  one = record world { last = place_after world.last note }

  later : List Entry × World
  later = all_told place cell rest one

  both : (s : SockName) (e : End) → writings (note_entry world.names world.last note ∷ later.0) s e ≡ writings later.0 s e
  both s e = filter_map-append (writing s e) (note_entry world.names world.last note ∷ []) later.0 ∙ ap (λ l. l ++ writings later.0 s e) (note_writes world.names world.last note s e)

  onward : Told place rest later.0 one later.1 → Told place (local.Note note ∷ rest) (note_entry world.names world.last note ∷ later.0) world later.1
  onward t = record {
    same = same_onward world one later.1 (same_self world one refl) t.same;
    wrote = λ s socket e found. both s e ∙ t.wrote s socket e found;
    silent = λ s e none. both s e ∙ t.silent s e none;
  }
all_steps journal place cell (local.Step step ∷ rest) log world g each n = onward (all_steps journal place cell rest (log ++ (stepped place cell step world).0) one (one_told (Sorted journal) (keeps_sorted journal) log place cell (local.Step step) world g) (step_each place cell step world parts.0 each) parts.1) where
  parts : NoDials (step ∷ []) × NoDials (steps_in rest)
  parts = first_alone step (steps_in rest) n

  one : World
  one = (stepped place cell step world).1

  first : Same world one
  first = step_same place cell step world parts.0

  later : List Entry × World
  later = all_told place cell rest one

  both : (s : SockName) (e : End) → writings ((stepped place cell step world).0 ++ later.0) s e ≡ writings (stepped place cell step world).0 s e ++ writings later.0 s e
  both s e = filter_map-append (writing s e) (stepped place cell step world).0 later.0

  onward : Told place rest later.0 one later.1 → Told place (local.Step step ∷ rest) ((stepped place cell step world).0 ++ later.0) world later.1
  onward t = record {
    same = same_onward world one later.1 first t.same;
    wrote = λ s socket e found. both s e ∙ ap (λ l. l ++ writings later.0 s e) (step_pieces place cell step world s socket e g.0.apart each parts.0 found) ∙ ap (λ l. pieces_for place (step ∷ []) (end_of e socket).cell (end_of e socket).number ++ l) (rest_wrote s socket e found (find (is_socket_named s) one.sockets) refl) ∙ sym (first_for place step (steps_in rest) (end_of e socket).cell (end_of e socket).number);
    silent = λ s e none. both s e ∙ ap (λ l. l ++ writings later.0 s e) (step_none place cell step world s e parts.0 (first.none s (t.same.none s none))) ∙ t.silent s e none;
  } where
    rest_wrote : (s : SockName) (socket : WorldSocket) (e : End) → find (is_socket_named s) world.sockets ≡ Some socket → (o : Option WorldSocket) → find (is_socket_named s) one.sockets ≡ o → writings later.0 s e ≡ pieces_for place (steps_in rest) (end_of e socket).cell (end_of e socket).number
    rest_wrote s socket e found None h = let gone : find (is_socket_named s) world.sockets ≡ None = first.none s h in absurd cc
    rest_wrote s socket e found (Some now) h =
        let was = first.was s now h in
        let is : was.before ≡ socket = one_is was.before socket (sym was.found ∙ found) in
        t.wrote s now e h ∙ ap (λ (c : Option ℕ). pieces_for place (steps_in rest) c (end_of e now).number) (was.cell e ∙ ap (λ (w : WorldSocket). (end_of e w).cell) is) ∙ ap (pieces_for place (steps_in rest) (end_of e socket).cell) (was.number e ∙ ap (λ (w : WorldSocket). (end_of e w).number) is)
      where
        one_is : (x y : WorldSocket) → ◌≡◌ {A = Option WorldSocket} (Some x) (Some y) → x ≡ y
        one_is x y k = cc

-- ---- a turn

-- what a turn that dials nothing writes at the ends of the sockets that there are
pub turn_writes : (journal : List Line) (log : List Entry) (world : World) (place : ℕ) (cell : Cell × ℕ) (told : List LocalEntry) (after : Cell) → Sure journal log world → slice_get world.cells place ≡ Some cell → NoDials (steps_in told) → (s : SockName) (socket : WorldSocket) (e : End) → find (is_socket_named s) world.sockets ≡ Some socket
    → writings (told_on place cell after told world).0 s e ≡ pieces_for place (steps_in told) (end_of e socket).cell (end_of e socket).number
turn_writes journal log world place cell told after sure at n s socket e found =
    (all_steps journal place after told log (with_cell place (after, cell.1) world) ((keeps_sorted journal).cell log world place (after, cell.1) sure.ends.sorted) sure.ends.each n).wrote s socket e found

-- and none of one that isn't there
pub turn_silent : (journal : List Line) (log : List Entry) (world : World) (place : ℕ) (cell : Cell × ℕ) (told : List LocalEntry) (after : Cell) → Sure journal log world → slice_get world.cells place ≡ Some cell → NoDials (steps_in told) → (s : SockName) (e : End) → find (is_socket_named s) world.sockets ≡ None
    → writings (told_on place cell after told world).0 s e ≡ []
turn_silent journal log world place cell told after sure at n s e none = all.silent s e (by_now (find (is_socket_named s) done.1.sockets) refl) where
  done : List Entry × World
  done = told_on place cell after told world

  all : Told place told done.0 (with_cell place (after, cell.1) world) done.1
  all = all_steps journal place after told log (with_cell place (after, cell.1) world) ((keeps_sorted journal).cell log world place (after, cell.1) sure.ends.sorted) sure.ends.each n

  by_now : (o : Option WorldSocket) → find (is_socket_named s) done.1.sockets ≡ o → find (is_socket_named s) done.1.sockets ≡ None
  by_now None h = h
  by_now (Some now) h = let was = all.same.was s now h in let no : ◌≡◌ {A = Option WorldSocket} None (Some was.before) = sym none ∙ was.found in absurd cc

-- the ends stay under their numbers
step_found : (place : ℕ) (cell : Cell) (step : Step) (world : World) → NoDials (step ∷ []) → (p n : ℕ) → find_end p n (stepped place cell step world).1.sockets ≡ find_end p n world.sockets
step_found place cell step world none p n = step_as (λ w. find_end p n w.sockets ≡ find_end p n world.sockets) (λ one two c s k. ap (find_end p n) s ∙ k) place cell step world (no_dial (λ w. find_end p n w.sockets ≡ find_end p n world.sockets) place cell step world none) (λ s e f c. changed s e f c.changes.place) refl where
  changed : (s : SockName) (e : End) (f : WorldEnd → WorldEnd) → KeepsPlace f → find_end p n (with_end_of s e f world).sockets ≡ find_end p n world.sockets
  changed s e f k = by_socket (find (is_socket_named s) world.sockets) refl where
    by_socket : (o : Option WorldSocket) → find (is_socket_named s) world.sockets ≡ o → find_end p n (elim o as (λ o. World) [
      | None ↦ world
      | Some socket ↦ with_socket (with_end e (f (end_of e socket)) socket) world
    ]).sockets ≡ find_end p n world.sockets
    by_socket None h = refl
    by_socket (Some old) h = same_found p n (with_end e (f (end_of e old)) old) old world.sockets (ap (λ (m : SockName). find (is_socket_named m) world.sockets) (new_name s e (f (end_of e old)) world.sockets old h) ∙ h) (placed e) where
      end_kept : (end : WorldEnd) → is_end_of p n (f end) ≡ is_end_of p n end
      end_kept end = ap (λ (c : Option ℕ). same_number c p && same_number (f end).number n) (k end).0 ∙ ap (λ (m : Option ℕ). same_number end.cell p && same_number m n) (k end).1

      placed : (e : End) → end_at p n (with_end e (f (end_of e old)) old) ≡ end_at p n old
      placed O = ap (λ (b : Bool). cond b (Some O) (cond (is_end_of p n old.t) (Some T) None)) (end_kept old.o)
      placed T = ap (λ (b : Bool). cond (is_end_of p n old.o) (Some O) (cond b (Some T) None)) (end_kept old.t)

pub told_found : (place : ℕ) (cell : Cell) (told : List LocalEntry) (world : World) → NoDials (steps_in told) → (p n : ℕ) → find_end p n (all_told place cell told world).1.sockets ≡ find_end p n world.sockets
told_found place cell [] world none p n = refl
told_found place cell (local.Note note ∷ rest) world none p n = told_found place cell rest (record world { last = place_after world.last note }) none p n
told_found place cell (local.Step step ∷ rest) world none p n = let parts = first_alone step (steps_in rest) none in told_found place cell rest (stepped place cell step world).1 parts.1 p n ∙ step_found place cell step world parts.0 p n

-- ---- whatever is told

-- an end that was found is found still
pub told_keeps : (journal : List Line) (place : ℕ) (cell : Cell) (told : List LocalEntry) (log : List Entry) (world : World) → Sorted journal log world → (p n : ℕ) (at : SockName × End) → find_end p n world.sockets ≡ Some at → find_end p n (all_told place cell told world).1.sockets ≡ Some at
told_keeps journal place cell [] log world g p n at found = found
told_keeps journal place cell (local.Note note ∷ rest) log world g p n at found = told_keeps journal place cell rest (log ++ note_entry world.names world.last note ∷ []) (record world { last = place_after world.last note }) (one_told (Sorted journal) (keeps_sorted journal) log place cell (local.Note note) world g) p n at found
told_keeps journal place cell (local.Step (steps.Dial sock end peer) ∷ rest) log world g p n at found = told_keeps journal place cell rest (log ++ (stepped place cell (steps.Dial sock end peer) world).0) (stepped place cell (steps.Dial sock end peer) world).1 (one_told (Sorted journal) (keeps_sorted journal) log place cell (local.Step (steps.Dial sock end peer)) world g) p n at
    (new_found p n new world.sockets (next_is_new world (called world.names (own_address cell.host end)) (called world.names peer) g.0.numbered) ∙ ap or_new found)
  where
    new : WorldSocket
    new = new_socket world (called world.names (own_address cell.host end)) (called world.names peer) cell.host.host (end_of_nobody (Some place) (Some sock) Pending) peer

    or_new : Option (SockName × End) → Option (SockName × End)
    or_new o = elim o [
      | Some at ↦ Some at
      | None ↦ or_end new.name None (end_at p n new)
    ]
told_keeps journal place cell (local.Step step ∷ rest) log world g p n at found = told_keeps journal place cell rest (log ++ (stepped place cell step world).0) (stepped place cell step world).1 (one_told (Sorted journal) (keeps_sorted journal) log place cell (local.Step step) world g) p n at (step_found place cell step world tt p n ∙ found)

-- a turn that dials one socket, or none: what it writes at the ends that there are, and that they stay
pub record Turns (place : ℕ) (told : List LocalEntry) (log : List Entry) (world after : World) : Type 0 where
  pub wrote : (s : SockName) (socket : WorldSocket) (e : End) → find (is_socket_named s) world.sockets ≡ Some socket → writings log s e ≡ pieces_for place (steps_in told) (end_of e socket).cell (end_of e socket).number
  pub silent : (s : SockName) (e : End) → find (is_socket_named s) world.sockets ≡ None → writings log s e ≡ []
  pub found : (p n : ℕ) (at : SockName × End) → find_end p n world.sockets ≡ Some at → find_end p n after.sockets ≡ Some at

-- what one dial writes
dial_writes : (place : ℕ) (cell : Cell) (told : List LocalEntry) (world : World) (sock end : ℕ) (peer : Address) → steps_in told ≡ steps.Dial sock end peer ∷ [] → (s : SockName) (e : End) → writings (all_told place cell told world).0 s e ≡ []
dial_writes place cell [] world sock end peer is s e = absurd cc
dial_writes place cell (local.Note note ∷ rest) world sock end peer is s e = filter_map-append (writing s e) (note_entry world.names world.last note ∷ []) (all_told place cell rest (record world { last = place_after world.last note })).0 ∙ ap (λ l. l ++ writings (all_told place cell rest (record world { last = place_after world.last note })).0 s e) (note_writes world.names world.last note s e) ∙ dial_writes place cell rest (record world { last = place_after world.last note }) sock end peer is s e
dial_writes place cell (local.Step step ∷ rest) world sock end peer is s e =
    let same : step ≡ steps.Dial sock end peer = cc in
    let none : steps_in rest ≡ [] = cc in
    filter_map-append (writing s e) (stepped place cell step world).0 (all_told place cell rest (stepped place cell step world).1).0
    ∙ ap (λ (x : Step). writings (stepped place cell x world).0 s e ++ writings (all_told place cell rest (stepped place cell step world).1).0 s e) same
    ∙ notes_write rest none (stepped place cell step world).1
  where
    notes_write : (rest : List LocalEntry) → steps_in rest ≡ [] → (world : World) → writings (all_told place cell rest world).0 s e ≡ []
    notes_write [] none world = refl
    notes_write (local.Step step ∷ rest) none world = absurd cc
    notes_write (local.Note note ∷ rest) none world = filter_map-append (writing s e) (note_entry world.names world.last note ∷ []) (all_told place cell rest (record world { last = place_after world.last note })).0 ∙ ap (λ l. l ++ writings (all_told place cell rest (record world { last = place_after world.last note })).0 s e) (note_writes world.names world.last note s e) ∙ notes_write rest none (record world { last = place_after world.last note })

pub turns : (journal : List Line) (log : List Entry) (world : World) (place : ℕ) (cell : Cell × ℕ) (told : List LocalEntry) (after : Cell) → Sure journal log world → slice_get world.cells place ≡ Some cell → DialsOne (steps_in told) → Turns place told (told_on place cell after told world).0 world (told_on place cell after told world).1
turns journal log world place cell told after sure at (inl none) = record {
  wrote = turn_writes journal log world place cell told after sure at none;
  silent = turn_silent journal log world place cell told after sure at none;
  found = λ p n end found. told_keeps journal place after told log (with_cell place (after, cell.1) world) ((keeps_sorted journal).cell log world place (after, cell.1) sure.ends.sorted) p n end found;
}
turns journal log world place cell told after sure at (inr d) = record {
  wrote = λ s socket e found. dial_writes place after told (with_cell place (after, cell.1) world) d.0 d.1 d.2 d.3 s e ∙ sym (ap (λ (l : List Step). pieces_for place l (end_of e socket).cell (end_of e socket).number) d.3 ∙ sym (silent_pieces place (steps.Dial d.0 d.1 d.2) (end_of e socket).cell (end_of e socket).number (λ n. refl)));
  silent = λ s e none. dial_writes place after told (with_cell place (after, cell.1) world) d.0 d.1 d.2 d.3 s e;
  found = λ p n end found. told_keeps journal place after told log (with_cell place (after, cell.1) world) ((keeps_sorted journal).cell log world place (after, cell.1) sure.ends.sorted) p n end found;
}
