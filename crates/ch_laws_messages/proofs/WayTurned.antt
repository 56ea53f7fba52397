-- A turn of a cell, with all that it told: what was written towards each end goes on.
use Rattle.std.proofs.Common.{◌≡◌, ◌⊎◌, inl, inr, ℕ, Bool, true, false, cond, List, [], ◌++◌, map, refl, sym, ap, ◌∙◌, subst}
use Rattle.std.proofs.lemmas.List.{append-nil}
use Rattle.std.specs.Prelude.{find, slice_get, slice_set, Option, Some, None, ◌==◌}
use Rattle.ch_base.specs.declared.address.Address.{Address}
use Rattle.ch_reader.specs.declared.item.Expected.{Expected}
use Rattle.ch_model.specs.declared.entry.Entry.{Entry}
use Rattle.ch_model.specs.declared.line.Line.{Line}
use Rattle.ch_model.specs.declared.local.LocalEntry.{LocalEntry}
use Rattle.ch_model.specs.declared.name.End.{End}
use Rattle.ch_model.specs.declared.name.End.TheVariants.{O, T}
use Rattle.ch_model.specs.declared.name.SockName.{SockName}
use Rattle.ch_model.specs.declared.step.Step.{Step}
use Rattle.ch_model.specs.AccountsFrames.{Saying}
use Rattle.ch_model.specs.CellSteps.{told_steps}
use Rattle.ch_model.specs.HostState.{Socket}
use Rattle.ch_model.specs.HostSteps.{is_socket}
use Rattle.ch_model.specs.Same.{across, is_end_of}
use Rattle.ch_model.specs.Sockets.{writings}
use Rattle.ch_model.specs.Stages.{is_ended}
use Rattle.ch_model.specs.WorldHappenings.{with_cell}
use Rattle.ch_model.specs.WorldSockets as ends
use Rattle.ch_model.specs.WorldSockets.{end_of, is_socket_named}
use Rattle.ch_model.specs.WorldState.{Cell, WorldSocket, World}
use Rattle.ch_model.specs.WorldSteps.{all_told}
use Rattle.ch_laws_bytes.specs.Streams.{Reader, reader_in, reader_at, readers_of, due_in, dues_of, reads_at, writes_at, first_at, reader_of, due_of_end, is_over}
use Rattle.ch_laws_bytes.proofs.Event.{set_at}
use Rattle.ch_laws_bytes.proofs.Lines.{own_of}
use Rattle.ch_laws_bytes.proofs.Sockets.{flip}
use Rattle.ch_laws_calls.specs.Sound.{Sound}
use Rattle.ch_laws_ends.proofs.Changes.{told_cells}
use Rattle.ch_laws_ends.proofs.Known.{Sorted, keeps_sorted}
use Rattle.ch_laws_ends.proofs.Told.{Sure}
use Rattle.ch_laws_log.specs.HostEnds.{steps_in}
use Rattle.ch_laws_log.proofs.Stored.{number_is}
use Rattle.ch_laws_race.specs.Chains.{steps_told}
use Rattle.ch_laws_race.proofs.Same.{Same, all_same}
use Rattle.ch_laws_reads.specs.Reads.{IsKept, Reads, reads_of}
use Rattle.ch_laws_writes.specs.Dues.{Due, Answering, due_at}
use Rattle.ch_laws_calls.specs.FitsFit.{MayAskWell}
use Rattle.ch_laws_calls.specs.FitsTurns.{NoDials}
use Rattle.ch_laws_calls.proofs.FitsEnds.{own_by, FlowsThere, flows_there}
use Rattle.ch_laws_calls.proofs.FitsStores.{none_kind}
use Rattle.ch_laws_calls.proofs.FitsTold.{end_kept}
use Rattle.ch_laws_places.specs.Said.{Piece, said_at}
use Rattle.ch_laws_places.proofs.Ends.{ReaderReads, IsKnown}
use Rattle.ch_laws_places.proofs.Sockets.{pieces_for, reads_for, pieces_of, reads_at_end, WasThere, told_goes}
use Rattle.ch_laws_plain.proofs.Worlds.{steps_same}
use Rattle.ch_laws_calls.specs.Turns.{told_on}
use Rattle.ch_race.specs.Pair.{Side, other}
use Rattle.ch_laws_race.specs.Scene.{Party}
use Rattle.ch_laws_peers.specs.Words.{sayings}
use Rattle.ch_laws_peers.specs.Reads.{PlacedItem, placed_in, AreTruly, IsWay}
use Rattle.ch_laws_messages.specs.WayGoes.{Adds, written_frames, IsGoing, HostDoes, new_for, EndTurn, EndOpens, AllTurn, OnWay, GoTruly}
use Rattle.ch_laws_messages.proofs.WaySteps.{Told, wrote_both, all_entries, for_bytes}
use Rattle.ch_laws_messages.proofs.WayWays.{way_at, way_then}

-- ---- readers and writers

none_adds : (own : ℕ → Address) (due : Option Due) → Adds own due [] []
none_adds own due = record { is = refl; kind = none_kind own due }

reader_rests : (reader : Option Reader) → ReaderReads reader 0 reader
reader_rests None = tt
reader_rests (Some reader) = ([], refl, (refl, refl))

kept_reads : (count : ℕ) (known : Socket) (o : Option Socket) → IsKept count known o → ReaderReads (reader_in (Some known)) count (reader_in o)
kept_reads count known None k = absurd k
kept_reads count known (Some after) k = by_tests (is_ended known.stage) refl (is_ended after.stage) refl where
  by_tests : (b : Bool) → is_ended known.stage ≡ b → (c : Bool) → is_ended after.stage ≡ c → ReaderReads (cond b None (Some (known.expected, known.since))) count (cond c None (Some (after.expected, after.since)))
  by_tests b h true g = tt
  by_tests true h false g = let no : true ≡ false = sym (k.over h) ∙ g in absurd cc
  by_tests false h false g = let read = k.read g in (read.items, read.many, read.front)

reader_reads : (cells : List (Cell × ℕ)) (place : ℕ) (cell now : Cell × ℕ) (told : List Step) (first : Expected) (c m : Option ℕ) → slice_get cells place ≡ Some cell → Reads cell.0.host told now.0.host → IsKnown place cell.0.host c m
    → ReaderReads (reads_at (readers_of cells) first c m) (reads_for place told c m) (reads_at (readers_of (slice_set cells place now)) first c m)
reader_reads cells place cell now told first None m at k known = tt
reader_reads cells place cell now told first (Some p) None at k known = ([], refl, (refl, refl))
reader_reads cells place cell now told first (Some p) (Some n) at k known = subst (λ (o : Option (Cell × ℕ)). ReaderReads (reader_at (slice_get cells p) n) (cond (p == place) (reads_of n told) 0) (reader_at o n)) (sym (set_at cells place cell now p at))
    (subst (λ (b : Bool). ReaderReads (reader_at (slice_get cells p) n) (cond b (reads_of n told) 0) (reader_at (cond (place == p) (Some now) (slice_get cells p)) n)) (flip place p) (by_test (place == p) refl))
  where
    by_test : (b : Bool) → (place == p) ≡ b → ReaderReads (reader_at (slice_get cells p) n) (cond b (reads_of n told) 0) (reader_at (cond b (Some now) (slice_get cells p)) n)
    by_test true h =
        let here : place ≡ p = number_is place p h in
        let of = known n (ap Some (sym here)) refl in
        let was : slice_get cells p ≡ Some cell = ap (slice_get cells) (sym here) ∙ at in
        subst (λ (o : Option (Cell × ℕ)). ReaderReads (reader_at o n) (reads_of n told) (reader_in (find (is_socket n) now.0.host.sockets))) (sym was)
        (subst (λ (o : Option Socket). ReaderReads (reader_in o) (reads_of n told) (reader_in (find (is_socket n) now.0.host.sockets))) (sym of.1) (kept_reads (reads_of n told) of.0 (find (is_socket n) now.0.host.sockets) (k.known n of.0 of.1)))
    by_test false h = reader_rests (reader_at (slice_get cells p) n)

writer_adds : (journal : List Line) (cells : List (Cell × ℕ)) (place : ℕ) (cell : Cell × ℕ) (told : List Step) (new : ℕ → List PlacedItem) (c m : Option ℕ) → slice_get cells place ≡ Some cell → ((n : ℕ) → Adds (own_of journal place) (due_at cell.0.host n) (said_at n told) (new n))
    → Adds (own_by journal c) (writes_at (dues_of cells) c m) (pieces_for place told c m) (new_for place new c m)
writer_adds journal cells place cell told new None m at k = none_adds (own_by journal None) None
writer_adds journal cells place cell told new (Some p) None at k = none_adds (own_of journal p) (Some Answering)
writer_adds journal cells place cell told new (Some p) (Some n) at k = subst (λ (b : Bool). Adds (own_of journal p) (due_in (slice_get cells p) n) (cond b (said_at n told) []) (cond b (new n) [])) (flip place p) (by_test (place == p) refl) where
  by_test : (b : Bool) → (place == p) ≡ b → Adds (own_of journal p) (due_in (slice_get cells p) n) (cond b (said_at n told) []) (cond b (new n) [])
  by_test true h =
      let here : place ≡ p = number_is place p h in
      let was : slice_get cells p ≡ Some cell = ap (slice_get cells) (sym here) ∙ at in
      subst (λ (o : Option (Cell × ℕ)). Adds (own_of journal p) (due_in o n) (said_at n told) (new n)) (sym was)
      (subst (λ (q : ℕ). Adds (own_of journal q) (due_at cell.0.host n) (said_at n told) (new n)) here (k n))
  by_test false h = none_adds (own_of journal p) (due_in (slice_get cells p) n)

-- ---- a socket that was there

-- what is given of a turn of a cell
pub record MayTurn (journal : List Line) (log : List Entry) (world : World) (place : ℕ) (cell now : Cell × ℕ) (told : List Step) (new : ℕ → List PlacedItem) : Type 0 where
  pub at : slice_get world.cells place ≡ Some cell
  pub sound : Sound journal log world
  pub may : (s : SockName) (socket : WorldSocket) → find (is_socket_named s) world.sockets ≡ Some socket → MayAskWell journal world socket
  pub does : HostDoes (own_of journal place) cell.0.host told now.0.host new

-- at its end r, towards which the other one writes
end_turns : (journal : List Line) (log : List Entry) (world after : World) (place : ℕ) (cell now : Cell × ℕ) (told : List Step) (new : ℕ → List PlacedItem) → MayTurn journal log world place cell now told new → after.cells ≡ slice_set world.cells place now → (s : SockName) (socket : WorldSocket) (was : WasThere place told world s socket) (r : End) (wrote : List (List ℕ)) (said next : List Saying)
    → is_over (end_of r socket) ≡ false → (w : IsWay (reader_of world was.before r) (first_at r) (end_of r was.before).unread (end_of r was.before).places wrote said) → AreTruly next (written_frames said wrote ++ placed_in (new_for place new (end_of (ends.other r) was.before).cell (end_of (ends.other r) was.before).number))
    → IsGoing (reader_of world was.before r) (reader_of after socket r) (first_at r) (end_of r was.before).unread (end_of r socket).unread (end_of r was.before).places (end_of r socket).places wrote (map (λ (piece : Piece). piece.0) (pieces_of place told (end_of (ends.other r) was.before))) said next
    (reads_at_end place told (end_of r was.before)) w (new_for place new (end_of (ends.other r) was.before).cell (end_of (ends.other r) was.before).number)
end_turns journal log world after place cell now told new m cells s socket was r wrote said next live w truly =
    way_at (own_by journal (end_of (ends.other r) was.before).cell) (due_of_end world was.before (ends.other r)) (reader_of world was.before r) (reader_of after socket r) (is_over (end_of r was.before)) r (end_of r was.before).unread (end_of r socket).unread
    (pieces_of place told (end_of (ends.other r) was.before)) (reads_at_end place told (end_of r was.before)) (end_of r was.before).places (end_of r socket).places wrote said next (new_for place new (end_of (ends.other r) was.before).cell (end_of (ends.other r) was.before).number)
    ((was.goes.ends r).lives live) ((was.goes.ends r).unread live) ((was.goes.ends r).places live) flows.flows flows.may w reader
    (writer_adds journal world.cells place cell told new (end_of (ends.other r) was.before).cell (end_of (ends.other r) was.before).number m.at m.does.adds) truly
  where
    flows : FlowsThere journal world was.before r
    flows = flows_there journal world s was.before r m.sound.ends.flowing was.found (m.may s was.before was.found)

    known : IsKnown place cell.0.host (end_of r was.before).cell (end_of r was.before).number
    known = end_kept journal log world s was.before r place cell m.sound.ends.sure was.found m.at

    Read : List (Cell × ℕ) → Option ℕ → Option ℕ → Type 0
    Read cs c m = ReaderReads (reader_of world was.before r) (reads_at_end place told (end_of r was.before)) (reads_at (readers_of cs) (first_at r) c m)

    reader : Read after.cells (end_of r socket).cell (end_of r socket).number
    reader = subst (λ (cs : List (Cell × ℕ)). Read cs (end_of r socket).cell (end_of r socket).number) (sym cells) (subst (λ (c : Option ℕ). Read (slice_set world.cells place now) c (end_of r socket).number) (sym (was.goes.ends r).cell) (subst (λ (m : Option ℕ). Read (slice_set world.cells place now) (end_of r was.before).cell m) (sym (was.goes.ends r).number)
        (reader_reads world.cells place cell now told (first_at r) (end_of r was.before).cell (end_of r was.before).number m.at m.does.reads known)))

-- the same where it is said how much each end wrote
pub there_turns : (journal : List Line) (log after_log : List Entry) (world after : World) (place : ℕ) (cell now : Cell × ℕ) (told : List Step) (new : ℕ → List PlacedItem) → MayTurn journal log world place cell now told new → after.cells ≡ slice_set world.cells place now → (s : SockName) (socket : WorldSocket) (e : End) → (was : WasThere place told world s socket)
    → writings after_log s e ≡ writings log s e ++ map (λ (piece : Piece). piece.0) (pieces_of place told (end_of e was.before)) → EndTurn place told new log world after_log after s socket e
there_turns journal log after_log world after place cell now told new m cells s socket O was wrote = record {
  before = was.before;
  found = was.found;
  lives = (was.goes.ends T).lives;
  number = λ n h. (was.goes.ends O).number ∙ h;
  more = map (λ (piece : Piece). piece.0) (pieces_of place told was.before.o);
  wrote = wrote;
  goes = λ said next live w truly. end_turns journal log world after place cell now told new m cells s socket was T (writings log s O) said next live w truly;
}
there_turns journal log after_log world after place cell now told new m cells s socket T was wrote = record {
  before = was.before;
  found = was.found;
  lives = (was.goes.ends O).lives;
  number = λ n h. (was.goes.ends T).number ∙ h;
  more = map (λ (piece : Piece). piece.0) (pieces_of place told was.before.t);
  wrote = wrote;
  goes = λ said next live w truly. end_turns journal log world after place cell now told new m cells s socket was O (writings log s T) said next live w truly;
}

-- ---- a turn in which nothing is dialed

pub turn_turns : (journal : List Line) (log : List Entry) (world : World) (place : ℕ) (cell : Cell × ℕ) (told : List LocalEntry) (after : Cell) (new : ℕ → List PlacedItem) → MayTurn journal log world place cell (after, cell.1) (steps_in told) new → NoDials (steps_in told)
    → AllTurn place (steps_in told) new log world (log ++ (told_on place cell after told world).0) (told_on place cell after told world).1
turn_turns journal log world place cell told after new m alone = record {
  ends = λ s socket e found. let was = were s socket found in inl (there_turns journal log (log ++ done) world final place cell (after, cell.1) (steps_in told) new m cells s socket e was
      (wrote_both log done s e ∙ ap (λ (l : List (List ℕ)). writings log s e ++ l) (entries.wrote s was.before e was.found ∙ for_bytes place (steps_in told) (end_of e was.before).cell (end_of e was.before).number)));
  unopened = λ s e none. (entries.same.none s none, wrote_both log done s e ∙ ap (λ (l : List (List ℕ)). writings log s e ++ l) (entries.silent s e none) ∙ append-nil (writings log s e));
} where
  now : Cell × ℕ
  now = (after, cell.1)

  kept : World
  kept = with_cell place now world

  final : World
  final = (all_told place after told kept).1

  done : List Entry
  done = (all_told place after told kept).0

  cells : final.cells ≡ slice_set world.cells place now
  cells = told_cells place after told kept

  sure : Sure journal log world
  sure = m.sound.ends.sure

  sorted : Sorted journal log kept
  sorted = (keeps_sorted journal).cell log world place now sure.ends.sorted

  entries : Told place (steps_in told) done kept final
  entries = all_entries journal place after told log kept sorted sure.ends.each alone

  alike : Same final (all_told place after (told_steps (steps_told told)) kept).1
  alike = all_same place after after told kept kept refl refl (record { names = refl; sockets = refl; places = λ a. refl })

  there : (s : SockName) (socket : WorldSocket) → find (is_socket_named s) final.sockets ≡ Some socket → WasThere place (steps_in told) kept s socket
  there s socket found = told_goes journal place after (steps_in told) log kept sorted sure.ends.each alone s socket
      (ap (λ (l : List Step). find (is_socket_named s) (all_told place after (told_steps l) kept).1.sockets) (sym (steps_same told)) ∙ ap (λ (l : List WorldSocket). find (is_socket_named s) l) (sym alike.sockets) ∙ found)

  were : (s : SockName) (socket : WorldSocket) → find (is_socket_named s) final.sockets ≡ Some socket → WasThere place (steps_in told) world s socket
  were s socket found = let w = there s socket found in record { before = w.before; found = w.found; goes = w.goes }

-- ---- one way between two nodes

-- it goes on so
pub way_goes : (place : ℕ) (told : List Step) (new : ℕ → List PlacedItem) (log : List Entry) (world : World) (after_log : List Entry) (after : World) (party : Side → Party) (x : Side) → AllTurn place told new log world after_log after → OnWay log world party x → GoTruly place told new log world after_log after party x → OnWay after_log after party x
way_goes place told new log world after_log after party x all w truly = record {
  ways = λ s e socket of found live. by_turn s e socket of found live (all.ends s socket e found);
  unopened = λ s e of none. let gone = all.unopened s e none in gone.1 ∙ w.unopened s e of gone.0;
} where
  said : List Saying
  said = sayings (party x).name (party (other x)).name log

  next : List Saying
  next = sayings (party x).name (party (other x)).name after_log

  by_turn : (s : SockName) (e : End) (socket : WorldSocket) → is_end_of (party x).name (party (other x)).name s e ≡ true → find (is_socket_named s) after.sockets ≡ Some socket → is_over (end_of (across e) socket) ≡ false
      → EndTurn place told new log world after_log after s socket e ⊎ EndOpens log world after_log after s socket e
      → IsWay (reader_of after socket (across e)) (first_at (across e)) (end_of (across e) socket).unread (end_of (across e) socket).places (writings after_log s e) next
  by_turn s e socket of found live (inl t) =
      let before = w.ways s e t.before of t.found (t.lives live) in
      subst (λ (wrote : List (List ℕ)). IsWay (reader_of after socket (across e)) (first_at (across e)) (end_of (across e) socket).unread (end_of (across e) socket).places wrote next) (sym t.wrote)
      (way_then (reader_of world t.before (across e)) (reader_of after socket (across e)) (first_at (across e)) (end_of (across e) t.before).unread (end_of (across e) socket).unread (end_of (across e) t.before).places (end_of (across e) socket).places (writings log s e) t.more said next
      (reads_at_end place told (end_of (across e) t.before)) before (new_for place new (end_of e t.before).cell (end_of e t.before).number) (t.goes said next live before (truly s e socket of found t)))
  by_turn s e socket of found live (inr o) = subst (λ (wrote : List (List ℕ)). IsWay (reader_of after socket (across e)) (first_at (across e)) (end_of (across e) socket).unread (end_of (across e) socket).places wrote next) (sym (o.silent ∙ w.unopened s e of o.none)) (o.way next)
