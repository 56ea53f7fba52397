-- A turn of a cell whose host dials a socket, and does nothing else to sockets.
use Rattle.std.proofs.Common.{◌≡◌, ◌⊎◌, inl, inr, ℕ, Bool, true, false, cond, List, [], ◌∷◌, ◌++◌, map, refl, sym, ap, ◌∙◌, subst}
use Rattle.std.proofs.lemmas.List.{append-nil}
use Rattle.std.specs.Prelude.{find, slice_get, slice_set, Option, Some, None, ◌==◌}
use Rattle.ch_base.specs.declared.address.Address.{Address}
use Rattle.ch_reader.specs.declared.item.Expected.{Expected}
use Rattle.ch_reader.specs.declared.item.Expected.TheVariants as expected
use Rattle.ch_model.specs.declared.entry.Entry.{Entry}
use Rattle.ch_model.specs.declared.line.Line.{Line}
use Rattle.ch_model.specs.declared.local.LocalEntry.{LocalEntry}
use Rattle.ch_model.specs.declared.local.LocalEntry.TheVariants as local
use Rattle.ch_model.specs.declared.name.End.{End}
use Rattle.ch_model.specs.declared.name.End.TheVariants.{O, T}
use Rattle.ch_model.specs.declared.name.SockName.{SockName}
use Rattle.ch_model.specs.declared.step.Step.{Step}
use Rattle.ch_model.specs.declared.step.Step.TheVariants as steps
use Rattle.ch_model.specs.AccountsFrames.{Saying}
use Rattle.ch_model.specs.CellSteps.{told_steps}
use Rattle.ch_model.specs.HostState.{Socket}
use Rattle.ch_model.specs.HostSteps.{own_address, is_socket}
use Rattle.ch_model.specs.Naming.{called}
use Rattle.ch_model.specs.Same.{same_socket, across}
use Rattle.ch_model.specs.Sockets.{writings}
use Rattle.ch_model.specs.Stages.{Pending, is_ended}
use Rattle.ch_model.specs.WorldHappenings.{with_cell}
use Rattle.ch_model.specs.WorldSockets.{end_of, is_socket_named, end_of_nobody, store_in, cell_of, target_end, new_socket}
use Rattle.ch_model.specs.WorldState.{Cell, WorldSocket, World}
use Rattle.ch_model.specs.WorldSteps.{noted, all_told}
use Rattle.ch_laws_bytes.specs.Streams.{reader_in, reader_at, readers_of, reads_at, first_at, reader_of}
use Rattle.ch_laws_ends.proofs.Changes.{told_cells}
use Rattle.ch_laws_ends.proofs.Places.{got_same}
use Rattle.ch_laws_log.specs.HostEnds.{steps_in}
use Rattle.ch_laws_log.proofs.Stored.{same_is, find_stored, next_is_new}
use Rattle.ch_laws_race.specs.Chains.{steps_told}
use Rattle.ch_laws_race.proofs.Same.{Same, all_same}
use Rattle.ch_laws_reads.specs.Reads.{IsFresh}
use Rattle.ch_laws_places.specs.Said.{Piece}
use Rattle.ch_laws_places.proofs.Sockets.{pieces_for, SocketGoes, dial_rests}
use Rattle.ch_laws_plain.proofs.Worlds.{steps_same}
use Rattle.ch_laws_calls.specs.Turns.{told_on}
use Rattle.ch_laws_peers.specs.Reads.{PlacedItem, IsWay}
use Rattle.ch_laws_messages.specs.WayGoes.{EndTurn, EndOpens, AllTurn}
use Rattle.ch_laws_messages.proofs.WaySteps.{note_silent, wrote_both}
use Rattle.ch_laws_messages.proofs.WayTurned.{MayTurn, there_turns}

-- ---- what is told

notes_silent : (place : ℕ) (cell : Cell) (told : List LocalEntry) (world : World) (s : SockName) (e : End) → steps_in told ≡ [] → writings (all_told place cell told world).0 s e ≡ []
notes_silent place cell [] world s e n = refl
notes_silent place cell (local.Note note ∷ rest) world s e n = wrote_both (noted note world).0 (all_told place cell rest (noted note world).1).0 s e ∙ ap (λ (l : List (List ℕ)). l ++ writings (all_told place cell rest (noted note world).1).0 s e) (note_silent world.names world.last note s e) ∙ notes_silent place cell rest (noted note world).1 s e n
notes_silent place cell (local.Step step ∷ rest) world s e n = absurd cc

-- a dial alone writes nothing
dial_silent : (place : ℕ) (cell : Cell) (told : List LocalEntry) (world : World) (sock end : ℕ) (peer : Address) (s : SockName) (e : End) → steps_in told ≡ steps.Dial sock end peer ∷ [] → writings (all_told place cell told world).0 s e ≡ []
dial_silent place cell [] world sock end peer s e n = absurd cc
dial_silent place cell (local.Note note ∷ rest) world sock end peer s e n = wrote_both (noted note world).0 (all_told place cell rest (noted note world).1).0 s e ∙ ap (λ (l : List (List ℕ)). l ++ writings (all_told place cell rest (noted note world).1).0 s e) (note_silent world.names world.last note s e) ∙ dial_silent place cell rest (noted note world).1 sock end peer s e n
dial_silent place cell (local.Step (steps.Dial m f p) ∷ rest) world sock end peer s e n = let none : steps_in rest ≡ [] = cc in notes_silent place cell rest _ s e none
dial_silent place cell (local.Step (steps.Read m) ∷ rest) world sock end peer s e n = absurd cc
dial_silent place cell (local.Step (steps.Write m bytes said) ∷ rest) world sock end peer s e n = absurd cc
dial_silent place cell (local.Step (steps.Up m) ∷ rest) world sock end peer s e n = absurd cc
dial_silent place cell (local.Step (steps.Down m) ∷ rest) world sock end peer s e n = absurd cc
dial_silent place cell (local.Step (steps.Left m) ∷ rest) world sock end peer s e n = absurd cc
dial_silent place cell (local.Step (steps.Broke f p why) ∷ rest) world sock end peer s e n = absurd cc
dial_silent place cell (local.Step (steps.Post f event) ∷ rest) world sock end peer s e n = absurd cc

-- ---- a socket that was dialed

-- where nothing was read or written yet
none_way : (e : End) (since : List ℕ) (next : List Saying) → since ≡ [] → IsWay (Some (first_at e, since)) (first_at e) [] [] [] next
none_way e since next none = record { gone = []; all = []; is = refl; may = tt; at = refl; bytes = ap (λ (l : List ℕ). l ++ []) none; stand = refl; truly = refl }

new_opener : (o : Option Socket) (next : List Saying) → IsFresh o → IsWay (reader_in o) expected.Answer [] [] [] next
new_opener None next f = tt
new_opener (Some known) next f = by_test (is_ended known.stage) refl where
  by_test : (b : Bool) → is_ended known.stage ≡ b → IsWay (cond b None (Some (known.expected, known.since))) expected.Answer [] [] [] next
  by_test true live = tt
  by_test false live = subst (λ (k : Expected). IsWay (Some (k, known.since)) expected.Answer [] [] [] next) (sym (f live).0) (none_way O known.since next (f live).1)

new_way : (final world : World) (place : ℕ) (now : Cell × ℕ) (sock : ℕ) (from to from_host : List ℕ) (address : Address) (r : End) (next : List Saying) → slice_get final.cells place ≡ Some now → IsFresh (find (is_socket sock) now.0.host.sockets)
    → let new = new_socket world from to from_host (end_of_nobody (Some place) (Some sock) Pending) address in IsWay (reader_of final new r) (first_at r) (end_of r new).unread (end_of r new).places [] next
new_way final world place now sock from to from_host address O next at fresh = subst (λ (o : Option (Cell × ℕ)). IsWay (reader_at o sock) expected.Answer [] [] [] next) (sym at) (new_opener (find (is_socket sock) now.0.host.sockets) next fresh)
new_way final world place now sock from to from_host address T next at fresh = by_cell (cell_of world address) where
  by_cell : (c : Option ℕ) → IsWay (reads_at (readers_of final.cells) expected.Request (target_end c).cell (target_end c).number) expected.Request (target_end c).unread (target_end c).places [] next
  by_cell None = tt
  by_cell (Some p) = none_way T [] next refl

-- ---- the turn

none_pieces : (place sock end : ℕ) (peer : Address) (c m : Option ℕ) → map (λ (piece : Piece). piece.0) (pieces_for place (steps.Dial sock end peer ∷ []) c m) ≡ []
none_pieces place sock end peer None m = refl
none_pieces place sock end peer (Some p) None = refl
none_pieces place sock end peer (Some p) (Some n) = by_test (p == place) where
  by_test : (b : Bool) → map (λ (piece : Piece). piece.0) (cond b [] []) ≡ []
  by_test true = refl
  by_test false = refl

pub dial_turns : (journal : List Line) (log : List Entry) (world : World) (place : ℕ) (cell : Cell × ℕ) (told : List LocalEntry) (after : Cell) (sock end : ℕ) (peer : Address) (new : ℕ → List PlacedItem) → MayTurn journal log world place cell (after, cell.1) (steps_in told) new → steps_in told ≡ steps.Dial sock end peer ∷ [] → find (is_socket sock) cell.0.host.sockets ≡ None
    → AllTurn place (steps_in told) new log world (log ++ (told_on place cell after told world).0) (told_on place cell after told world).1
dial_turns journal log world place cell told after sock end peer new m is free = record {
  ends = λ s socket e found. by_name s socket e (same_socket made.name s) refl (sym (find_stored made world.sockets s) ∙ ap (λ (l : List WorldSocket). find (is_socket_named s) l) (sym sockets) ∙ found);
  unopened = λ s e none. (by_none s (same_socket made.name s) (sym (find_stored made world.sockets s) ∙ ap (λ (l : List WorldSocket). find (is_socket_named s) l) (sym sockets) ∙ none), silent s e);
} where
  now : Cell × ℕ
  now = (after, cell.1)

  kept : World
  kept = with_cell place now world

  final : World
  final = (all_told place after told kept).1

  done : List Entry
  done = (all_told place after told kept).0

  cells : final.cells ≡ slice_set world.cells place now
  cells = told_cells place after told kept

  made : WorldSocket
  made = new_socket kept (called kept.names (own_address after.host end)) (called kept.names peer) after.host.host (end_of_nobody (Some place) (Some sock) Pending) peer

  alike : Same final (all_told place after (told_steps (steps_told told)) kept).1
  alike = all_same place after after told kept kept refl refl (record { names = refl; sockets = refl; places = λ a. refl })

  sockets : final.sockets ≡ store_in made world.sockets
  sockets = alike.sockets ∙ ap (λ (l : List Step). (all_told place after (told_steps l) kept).1.sockets) (steps_same told ∙ is)

  silent : (s : SockName) (e : End) → writings (log ++ done) s e ≡ writings log s e
  silent s e = wrote_both log done s e ∙ ap (λ (l : List (List ℕ)). writings log s e ++ l) (dial_silent place after told kept sock end peer s e is) ∙ append-nil (writings log s e)

  by_none : (s : SockName) (b : Bool) → cond b (Some made) (find (is_socket_named s) world.sockets) ≡ None → find (is_socket_named s) world.sockets ≡ None
  by_none s true h = absurd cc
  by_none s false h = h

  new_name : find (is_socket_named made.name) world.sockets ≡ None
  new_name = next_is_new kept (called kept.names (own_address after.host end)) (called kept.names peer) m.sound.ends.sure.ends.sorted.0.numbered

  nothing : (c k : Option ℕ) → map (λ (piece : Piece). piece.0) (pieces_for place (steps_in told) c k) ≡ []
  nothing c k = ap (λ (l : List Step). map (λ (piece : Piece). piece.0) (pieces_for place l c k)) is ∙ none_pieces place sock end peer c k

  by_name : (s : SockName) (socket : WorldSocket) (e : End) → (b : Bool) → same_socket made.name s ≡ b → cond b (Some made) (find (is_socket_named s) world.sockets) ≡ Some socket → EndTurn place (steps_in told) new log world (log ++ done) final s socket e ⊎ EndOpens log world (log ++ done) final s socket e
  by_name s socket e true h f = let one : made ≡ socket = cc in inr (subst (λ (w : WorldSocket). EndOpens log world (log ++ done) final s w e) one (record {
    none = subst (λ (n : SockName). find (is_socket_named n) world.sockets ≡ None) (same_is made.name s h) new_name;
    silent = silent s e;
    way = λ next. new_way final kept place now sock (called kept.names (own_address after.host end)) (called kept.names peer) after.host.host peer (across e) next (ap (λ (l : List (Cell × ℕ)). slice_get l place) cells ∙ got_same world.cells place cell now m.at) (m.does.reads.fresh sock free);
  }))
  by_name s socket e false h f = inl (there_turns journal log (log ++ done) world final place cell now (steps_in told) new m cells s socket e (record { before = socket; found = f; goes = subst (λ (l : List Step). SocketGoes place l socket socket) (sym is) (dial_rests place sock end peer socket) })
      (silent s e ∙ sym (append-nil (writings log s e)) ∙ ap (λ (l : List (List ℕ)). writings log s e ++ l) (sym (nothing (end_of e socket).cell (end_of e socket).number))))
