-- What is told of a turn at a cell: what each end of each socket writes by it, as its steps say.
use Rattle.std.proofs.Common.{◌≡◌, ℕ, Bool, true, false, cond, List, [], ◌∷◌, ◌++◌, map, refl, sym, ap, ◌∙◌}
use Rattle.std.proofs.lemmas.List.Elements.{filter_map-append}
use Rattle.std.specs.Prelude.{find, Option, Some, None, ◌==◌}
use Rattle.ch_model.specs.declared.entry.Entry.{Entry}
use Rattle.ch_model.specs.declared.line.Line.{Line}
use Rattle.ch_model.specs.declared.local.LocalEntry.{LocalEntry}
use Rattle.ch_model.specs.declared.local.LocalEntry.TheVariants as local
use Rattle.ch_model.specs.declared.name.End.{End}
use Rattle.ch_model.specs.declared.name.SockName.{SockName}
use Rattle.ch_model.specs.declared.note.Note.{Note}
use Rattle.ch_model.specs.declared.note.Note.TheVariants as notes
use Rattle.ch_model.specs.declared.step.Place.{Place}
use Rattle.ch_model.specs.declared.step.Step.{Step}
use Rattle.ch_model.specs.declared.step.Step.TheVariants as steps
use Rattle.ch_model.specs.Naming.{Names}
use Rattle.ch_model.specs.Sockets.{writings}
use Rattle.ch_model.specs.WorldSockets.{end_of, is_socket_named}
use Rattle.ch_model.specs.WorldState.{Cell, WorldSocket, World}
use Rattle.ch_model.specs.WorldSteps.{note_entry, noted, stepped, all_told}
use Rattle.ch_laws_ends.proofs.Found.{EachFound}
use Rattle.ch_laws_ends.proofs.Known.{Sorted, keeps_sorted}
use Rattle.ch_laws_log.specs.HostEnds.{steps_in}
use Rattle.ch_laws_log.proofs.Kept.{one_told}
use Rattle.ch_laws_log.proofs.Stored.{Distinct}
use Rattle.ch_laws_calls.specs.FitsTurns.{NoDials}
use Rattle.ch_laws_ids.specs.Runs.{pieces_at, pieces_for}
use Rattle.ch_laws_ids.proofs.Worlds.{Same, same_self, same_onward}
use Rattle.ch_laws_places.specs.Said.{Piece, said_at}
use Rattle.ch_laws_places.proofs.Sockets as sockets
use Rattle.ch_laws_messages.proofs.SaidTold.{first_alone, first_for, none_for, step_each, step_none, step_pieces, step_same}

-- ---- notes

-- a note writes nothing
pub note_silent : (known : Names) (last : Option Place) (note : Note) (s : SockName) (e : End) → writings (note_entry known last note ∷ []) s e ≡ []
note_silent known last (notes.Made process origin) s e = refl
note_silent known last (notes.Said by to epoch index message) s e = refl
note_silent known last (notes.Again by to epoch) s e = refl
note_silent known last (notes.Got by to receiver) s e = refl
note_silent known last (notes.Took by port message) s e = refl
note_silent known last (notes.Port port) s e = refl
note_silent known last (notes.Over process reason) s e = refl
note_silent known last (notes.Doom process text) s e = refl
note_silent known last (notes.Watch watch by target kind) s e = refl
note_silent known last (notes.Unwatch watch) s e = refl
note_silent known last (notes.Absent watch) s e = refl
note_silent known last (notes.Told watch reason) s e = refl
note_silent known last (notes.Asked question by at) s e = refl
note_silent known last (notes.Spawned question process) s e = refl
note_silent known last (notes.IsAt question found) s e = refl
note_silent known last (notes.Named node name process) s e = refl
note_silent known last (notes.Shut node) s e = refl

-- ---- a turn

-- what is told at a cell does to the sockets, and writes
pub record Told (place : ℕ) (told : List Step) (log : List Entry) (world after : World) : Type 0 where
  pub same : Same world after
  pub wrote : (s : SockName) (socket : WorldSocket) (e : End) → find (is_socket_named s) world.sockets ≡ Some socket → writings log s e ≡ pieces_for place told (end_of e socket).cell (end_of e socket).number
  pub silent : (s : SockName) (e : End) → find (is_socket_named s) after.sockets ≡ None → writings log s e ≡ []

pub wrote_both : (log told : List Entry) (s : SockName) (e : End) → writings (log ++ told) s e ≡ writings log s e ++ writings told s e
wrote_both log told s e = filter_map-append _ log told

one_is : (x y : WorldSocket) → ◌≡◌ {A = Option WorldSocket} (Some x) (Some y) → x ≡ y
one_is x y k = cc

note_onward : (place : ℕ) (cell : Cell) (note : Note) (rest : List LocalEntry) (world : World) → Told place (steps_in rest) (all_told place cell rest (noted note world).1).0 (noted note world).1 (all_told place cell rest (noted note world).1).1
    → Told place (steps_in rest) ((noted note world).0 ++ (all_told place cell rest (noted note world).1).0) world (all_told place cell rest (noted note world).1).1
note_onward place cell note rest world t = record {
  same = same_onward world one later.1 (same_self world one refl) t.same;
  wrote = λ s socket e found. wrote_both first later.0 s e ∙ ap (λ (l : List (List ℕ)). l ++ writings later.0 s e) (note_silent world.names world.last note s e) ∙ t.wrote s socket e found;
  silent = λ s e none. wrote_both first later.0 s e ∙ ap (λ (l : List (List ℕ)). l ++ writings later.0 s e) (note_silent world.names world.last note s e) ∙ t.silent s e none;
} where
  first : List Entry
  first = (noted note world).0

  one : World
  one = (noted note world).1

  later : List Entry × World
  later = all_told place cell rest one

step_onward : (place : ℕ) (cell : Cell) (step : Step) (rest : List LocalEntry) (world : World) → Distinct world.sockets → EachFound world.sockets → NoDials (step ∷ []) → Told place (steps_in rest) (all_told place cell rest (stepped place cell step world).1).0 (stepped place cell step world).1 (all_told place cell rest (stepped place cell step world).1).1
    → Told place (step ∷ steps_in rest) ((stepped place cell step world).0 ++ (all_told place cell rest (stepped place cell step world).1).0) world (all_told place cell rest (stepped place cell step world).1).1
step_onward place cell step rest world apart each alone t = record {
  same = same_onward world one later.1 first t.same;
  wrote = λ s socket e found. wrote_both (stepped place cell step world).0 later.0 s e ∙ ap (λ (l : List (List ℕ)). l ++ writings later.0 s e) (step_pieces place cell step world s socket e apart each alone found) ∙ ap (λ (l : List (List ℕ)). pieces_for place (step ∷ []) (end_of e socket).cell (end_of e socket).number ++ l) (rest_wrote s socket e found (find (is_socket_named s) one.sockets) refl)
      ∙ sym (first_for place step (steps_in rest) (end_of e socket).cell (end_of e socket).number);
  silent = λ s e none. wrote_both (stepped place cell step world).0 later.0 s e ∙ ap (λ (l : List (List ℕ)). l ++ writings later.0 s e) (step_none place cell step world s e alone (first.none s (t.same.none s none))) ∙ t.silent s e none;
} where
  one : World
  one = (stepped place cell step world).1

  first : Same world one
  first = step_same place cell step world alone

  later : List Entry × World
  later = all_told place cell rest one

  rest_wrote : (s : SockName) (socket : WorldSocket) (e : End) → find (is_socket_named s) world.sockets ≡ Some socket → (o : Option WorldSocket) → find (is_socket_named s) one.sockets ≡ o → writings later.0 s e ≡ pieces_for place (steps_in rest) (end_of e socket).cell (end_of e socket).number
  rest_wrote s socket e found None h = let gone : find (is_socket_named s) world.sockets ≡ None = first.none s h in absurd cc
  rest_wrote s socket e found (Some now) h =
      let was = first.was s now h in
      let is : was.before ≡ socket = one_is was.before socket (sym was.found ∙ found) in
      t.wrote s now e h ∙ ap (λ (c : Option ℕ). pieces_for place (steps_in rest) c (end_of e now).number) (was.cell e ∙ ap (λ (w : WorldSocket). (end_of e w).cell) is) ∙ ap (pieces_for place (steps_in rest) (end_of e socket).cell) (was.number e ∙ ap (λ (w : WorldSocket). (end_of e w).number) is)

pub all_entries : (journal : List Line) (place : ℕ) (cell : Cell) (told : List LocalEntry) (log : List Entry) (world : World) → Sorted journal log world → EachFound world.sockets → NoDials (steps_in told) → Told place (steps_in told) (all_told place cell told world).0 world (all_told place cell told world).1
all_entries journal place cell [] log world g each n = record { same = same_self world world refl; wrote = λ s socket e found. sym (none_for place (end_of e socket).cell (end_of e socket).number); silent = λ s e none. refl }
all_entries journal place cell (local.Note note ∷ rest) log world g each n = note_onward place cell note rest world (all_entries journal place cell rest (log ++ (noted note world).0) (noted note world).1 (one_told (Sorted journal) (keeps_sorted journal) log place cell (local.Note note) world g) each n)
all_entries journal place cell (local.Step step ∷ rest) log world g each n = let parts = first_alone step (steps_in rest) n in
    step_onward place cell step rest world g.0.apart each parts.0 (all_entries journal place cell rest (log ++ (stepped place cell step world).0) (stepped place cell step world).1 (one_told (Sorted journal) (keeps_sorted journal) log place cell (local.Step step) world g) (step_each place cell step world parts.0 each) parts.1)

-- ---- pieces, with and without their places

said_bytes : (n : ℕ) (told : List Step) → pieces_at n told ≡ map (λ (piece : Piece). piece.0) (said_at n told)
said_bytes n [] = refl
said_bytes n (steps.Write sock bytes said ∷ rest) = by_test (sock == n) (said_bytes n rest) where
  by_test : (b : Bool) → pieces_at n rest ≡ map (λ (piece : Piece). piece.0) (said_at n rest) → cond b (bytes ∷ pieces_at n rest) (pieces_at n rest) ≡ map (λ (piece : Piece). piece.0) (cond b ((bytes, said) ∷ said_at n rest) (said_at n rest))
  by_test true s = ap (λ (l : List (List ℕ)). bytes ∷ l) s
  by_test false s = s
said_bytes n (steps.Dial sock end peer ∷ rest) = said_bytes n rest
said_bytes n (steps.Read sock ∷ rest) = said_bytes n rest
said_bytes n (steps.Up sock ∷ rest) = said_bytes n rest
said_bytes n (steps.Down sock ∷ rest) = said_bytes n rest
said_bytes n (steps.Left sock ∷ rest) = said_bytes n rest
said_bytes n (steps.Broke end peer why ∷ rest) = said_bytes n rest
said_bytes n (steps.Post end event ∷ rest) = said_bytes n rest

pub for_bytes : (place : ℕ) (told : List Step) (c m : Option ℕ) → pieces_for place told c m ≡ map (λ (piece : Piece). piece.0) (sockets.pieces_for place told c m)
for_bytes place told None m = refl
for_bytes place told (Some p) None = refl
for_bytes place told (Some p) (Some n) = by_test (p == place) where
  by_test : (b : Bool) → cond b (pieces_at n told) [] ≡ map (λ (piece : Piece). piece.0) (cond b (said_at n told) [])
  by_test true = said_bytes n told
  by_test false = refl
