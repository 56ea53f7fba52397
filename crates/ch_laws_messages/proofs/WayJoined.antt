-- An opener's end is joined, and its request is written; and turns of nodes and of ends whose input has ended.
use Rattle.std.proofs.Common.{◌≡◌, ◌⊎◌, inl, inr, ℕ, Bool, true, false, cond, List, [], ◌∷◌, ◌++◌, Ok, Err, refl, sym, ap, ◌∙◌, subst}
use Rattle.std.proofs.lemmas.Bool.{and_parts}
use Rattle.std.proofs.lemmas.List.{append-nil}
use Rattle.std.specs.Prelude.{find, slice_get, slice_set, is_some, Option, Some, None, ◌==◌}
use Rattle.ch_base.specs.declared.address.Address.{Address}
use Rattle.ch_wire.specs.Spelling.{request_spelling}
use Rattle.ch_reader.specs.Items.{MayFollow}
use Rattle.ch_reader.specs.declared.item.Expected.TheVariants as expected
use Rattle.ch_reader.specs.declared.item.Item.TheVariants as items
use Rattle.ch_model.specs.declared.entry.Entry.{Entry}
use Rattle.ch_model.specs.declared.entry.Entry.TheVariants as entries
use Rattle.ch_model.specs.declared.line.Line.{Line}
use Rattle.ch_model.specs.declared.name.End.{End}
use Rattle.ch_model.specs.declared.name.End.TheVariants.{O}
use Rattle.ch_model.specs.declared.name.SockName.{SockName}
use Rattle.ch_model.specs.declared.step.SocketEvent.TheVariants as sockets
use Rattle.ch_model.specs.declared.step.Step.{Step}
use Rattle.ch_model.specs.CellSteps.{told_steps}
use Rattle.ch_model.specs.Host.{joins, host_on}
use Rattle.ch_model.specs.HostState.{Socket, HostState}
use Rattle.ch_model.specs.HostSteps.{Stepped, still, own_address, is_socket, with_socket}
use Rattle.ch_model.specs.HostWrites.{writes}
use Rattle.ch_model.specs.Sockets.{writings}
use Rattle.ch_model.specs.Stages.{Stage, Pending, Open, Ended, is_pending, is_ended}
use Rattle.ch_model.specs.WorldHappenings.{with_cell}
use Rattle.ch_model.specs.WorldLines.{can_join}
use Rattle.ch_model.specs.WorldSockets.{end_of, opened, is_socket_named}
use Rattle.ch_model.specs.WorldState.{Cell, WorldSocket, World}
use Rattle.ch_race.specs.Pair.{Side, other}
use Rattle.ch_laws_bytes.specs.Streams.{MayAsk}
use Rattle.ch_laws_bytes.proofs.Lines.{own_of}
use Rattle.ch_laws_calls.specs.Calls.{with_host, done_at, IsIn, joined_in}
use Rattle.ch_laws_ends.proofs.Changes.{cells_stay, told_cells}
use Rattle.ch_laws_ends.proofs.Found.{EachFound, each_kept}
use Rattle.ch_laws_ends.proofs.Known.{Sorted, keeps_sorted}
use Rattle.ch_laws_ids.specs.Runs.{pieces_for}
use Rattle.ch_laws_ids.proofs.Worlds.{same_change}
use Rattle.ch_laws_live.proofs.Fresh.{end_none}
use Rattle.ch_laws_log.specs.HostEnds.{steps_in}
use Rattle.ch_laws_log.proofs.HostTold.{number_found}
use Rattle.ch_laws_log.proofs.Stored.{number_is}
use Rattle.ch_laws_race.specs.Scene.{Party}
use Rattle.ch_laws_reads.specs.Reads.{Reads, AllRead}
use Rattle.ch_laws_reads.proofs.HostEventsRead.{event_read}
use Rattle.ch_laws_writes.specs.Dues.{Due, Asking, due_asked, due_of, due_staged, due_at, AllDue}
use Rattle.ch_laws_writes.specs.Orderly.{IsOrderly, AllWrite}
use Rattle.ch_laws_writes.proofs.Events.{event_writes}
use Rattle.ch_laws_calls.specs.FitsFit.{MayAskWell}
use Rattle.ch_laws_calls.specs.FitsTurns.{NoDials, IsKind}
use Rattle.ch_laws_calls.proofs.FitsEvents.{AllAlone, joined_alone}
use Rattle.ch_laws_places.specs.Said.{Piece, said_at}
use Rattle.ch_laws_places.proofs.Sockets.{WasThere, opened_goes, none_first_goes, told_goes}
use Rattle.ch_laws_peers.specs.Words.{Placed, sayings}
use Rattle.ch_laws_peers.specs.Says.{Says}
use Rattle.ch_laws_peers.specs.Reads.{PlacedItem, items_in, placed_in, AreTruly}
use Rattle.ch_laws_peers.specs.Standing.{Standing}
use Rattle.ch_laws_messages.specs.WayGoes.{pieced, Adds, written_frames, HostDoes, AllTurn, GoTruly}
use Rattle.ch_laws_messages.proofs.WayDues.{due_adds}
use Rattle.ch_laws_messages.proofs.WayItems.{new_cases, may_ask}
use Rattle.ch_laws_messages.proofs.WayPairs.{wrote_true, truly_bare}
use Rattle.ch_laws_messages.proofs.WaySteps.{Told, wrote_both, all_entries, for_bytes}
use Rattle.ch_laws_messages.proofs.WayTurned.{MayTurn, there_turns}

-- ---- what a host does as its end is joined

-- nothing is written under a number, or one item where a request is due
abbrev AsksAt : HostState → List Step → ℕ → Type 0
AsksAt host told n = (said_at n told ≡ []) ⊎ ((end : ℕ) × (peer : Address) × (piece : Piece) × (due_at host n ≡ Some (Asking end peer)) × (said_at n told ≡ piece ∷ []))

abbrev AllAsks : HostState → Stepped → Type 0
AllAsks host (Ok done) = (n : ℕ) → AsksAt host done.0 n
AllAsks host (Err stop) = Unit {0}

joined_asks : (host : HostState) (sock : ℕ) → AllAsks host (host_on host (sockets.Joined sock))
unfolding host_on
joined_asks host sock = by_socket (find (is_socket sock) host.sockets) refl where
  rests : AllAsks host (still host)
  rests n = inl refl

  number : (socket : Socket) → find (is_socket sock) host.sockets ≡ Some socket → socket.number ≡ sock
  number socket found = number_found sock host.sockets socket found

  pending : (stage : Stage) (socket : Socket) (user : ℕ × Address) → is_pending stage ≡ true → socket.user ≡ Some user → due_staged stage socket ≡ Some (Asking user.0 user.1)
  pending Pending socket user p u = ap due_asked u
  pending Open socket user p u = absurd cc
  pending Ended socket user p u = absurd cc

  by_user : (socket : Socket) → find (is_socket sock) host.sockets ≡ Some socket → is_pending socket.stage ≡ true → (w : Option (ℕ × Address)) → socket.user ≡ w → AllAsks host (elim w as (λ w. Stepped) [
    | None ↦ still host
    | Some user ↦ writes socket.number (request_spelling (record { target = user.1.id; from = own_address host user.0 })) (with_socket (record socket { stage = Open }) host)
  ])
  by_user socket found p None u = rests
  by_user socket found p (Some user) u = λ n. by_test n (socket.number == n) refl where
    piece : Piece
    piece = (request_spelling (record { target = user.1.id; from = own_address host user.0 }), None)

    by_test : (n : ℕ) (b : Bool) → (socket.number == n) ≡ b → (cond b (piece ∷ []) [] ≡ []) ⊎ ((end : ℕ) × (peer : Address) × (piece : Piece) × (due_at host n ≡ Some (Asking end peer)) × (cond b ((request_spelling (record { target = user.1.id; from = own_address host user.0 }), None) ∷ []) [] ≡ piece ∷ []))
    by_test n true h = inr (user.0, user.1, piece, ap (due_at host) (sym (number_is socket.number n h) ∙ number socket found) ∙ ap due_of found ∙ pending socket.stage socket user p u, refl)
    by_test n false h = inl refl

  by_test : (socket : Socket) → find (is_socket sock) host.sockets ≡ Some socket → (b : Bool) → is_pending socket.stage ≡ b → AllAsks host (cond b (joins socket host) (still host))
  by_test socket found true p = by_user socket found p socket.user refl
  by_test socket found false p = rests

  by_socket : (x : Option Socket) → find (is_socket sock) host.sockets ≡ x → AllAsks host (elim x as (λ x. Stepped) [
    | None ↦ still host
    | Some socket ↦ cond (is_pending socket.stage) (joins socket host) (still host)
  ])
  by_socket None found = rests
  by_socket (Some socket) found = by_test socket found (is_pending socket.stage) refl

-- what it does
pub record Joining (own : ℕ → Address) (host : HostState) (told : List Step) (after : HostState) : Type 0 where
  pub alone : NoDials told
  pub reads : Reads host told after
  pub due : (n : ℕ) → AllDue own n told (due_at host n)
  pub asks : (n : ℕ) → AsksAt host told n

pub joining : (own : ℕ → Address) (host after : HostState) (sock : ℕ) (told : List Step) → IsOrderly own host → host_on host (sockets.Joined sock) ≡ Ok (told, after) → Joining own host told after
joining own host after sock told o e = record {
  alone = subst AllAlone e (joined_alone host sock);
  reads = subst (AllRead host) e (event_read host (sockets.Joined sock)) o.sound;
  due = (subst (AllWrite own (due_at host)) e (event_writes own host (sockets.Joined sock) o tt)).writes.due;
  asks = subst (AllAsks host) e (joined_asks host sock);
}

pub new_joined : (own : ℕ → Address) (host : HostState) (told : List Step) (after : HostState) → Joining own host told after → ℕ → List PlacedItem
new_joined own host told after j n = (due_adds own n told (due_at host n) j.alone (j.due n)).0

pub joining_does : (own : ℕ → Address) (host : HostState) (told : List Step) (after : HostState) (j : Joining own host told after) → HostDoes own host told after (new_joined own host told after j)
unfolding new_joined
joining_does own host told after j = record { reads = j.reads; adds = λ n. (due_adds own n told (due_at host n) j.alone (j.due n)).1 }

-- no frame is among what is new
asked_alone : (new : List PlacedItem) (piece : Piece) → MayFollow expected.Request (items_in new) → pieced new ≡ piece ∷ [] → placed_in new ≡ []
asked_alone [] piece m e = refl
asked_alone ((items.Request request, place) ∷ []) piece m e = refl
asked_alone ((items.Request request, place) ∷ one ∷ rest) piece m e = absurd cc
asked_alone ((items.Answer answer, place) ∷ rest) piece m e = absurd m.0
asked_alone ((items.Frame frame, place) ∷ rest) piece m e = absurd m.0

none_pieced : (new : List PlacedItem) → pieced new ≡ [] → placed_in new ≡ []
none_pieced [] e = refl
none_pieced (one ∷ rest) e = absurd cc

none_framed : (own : ℕ → Address) (host : HostState) (told : List Step) (after : HostState) (j : Joining own host told after) (n : ℕ) → MayAsk own (due_at host n) → placed_in (new_joined own host told after j n) ≡ []
none_framed own host told after j n may = by_asks (j.asks n) where
  new : List PlacedItem
  new = new_joined own host told after j n

  adds : Adds own (due_at host n) (said_at n told) new
  adds = (joining_does own host told after j).adds n

  by_asks : AsksAt host told n → placed_in new ≡ []
  by_asks (inl none) = none_pieced new (sym adds.is ∙ none)
  by_asks (inr a) = asked_alone new a.2 (subst (λ (due : Option Due). IsKind own due (items_in new)) a.3 adds.kind (may a.0 a.1 a.3)) (sym adds.is ∙ a.4)

-- ---- the turn

steps_of : (told : List Step) → steps_in (told_steps told) ≡ told
steps_of [] = refl
steps_of (step ∷ rest) = ap (λ (l : List Step). step ∷ l) (steps_of rest)

pub joined_turns : (journal : List Line) (log : List Entry) (world : World) (socket : WorldSocket) (place n : ℕ) (cell : Cell × ℕ) (told : List Step) (host : HostState) (new : ℕ → List PlacedItem) → IsIn socket world → can_join socket ≡ true → NoDials told → MayTurn journal log world place cell (with_host cell host, cell.1) told new
    → AllTurn place told new log world (log ++ entries.Joined socket.name ∷ (done_at place cell told host (joined_in socket world)).0) (done_at place cell told host (joined_in socket world)).1
joined_turns journal log world socket place n cell told host new is can alone m = record {
  ends = λ s w e found. let was = were s w found in inl (there_turns journal log (log ++ entries.Joined socket.name ∷ done) world after place cell (with_host cell host, cell.1) told new m cells s w e was
      (wrote s e ∙ ap (λ (l : List (List ℕ)). writings log s e ++ l) (told_there s w e was ∙ for_bytes place told (end_of e was.before).cell (end_of e was.before).number)));
  unopened = λ s e none. (end_none socket.name O opened world s (entries_of.same.none s none), wrote s e ∙ ap (λ (l : List (List ℕ)). writings log s e ++ l) (silent s e none) ∙ append-nil (writings log s e));
} where
  open_world : World
  open_world = joined_in socket world

  kept : World
  kept = with_cell place (with_host cell host, cell.1) open_world

  after : World
  after = (done_at place cell told host open_world).1

  done : List Entry
  done = (done_at place cell told host open_world).0

  pending : is_pending socket.o.stage ≡ true
  pending = (and_parts (is_pending socket.o.stage) (is_some socket.t.cell) can).0

  cells : after.cells ≡ slice_set world.cells place (with_host cell host, cell.1)
  cells = told_cells place (with_host cell host) (told_steps told) kept ∙ ap (λ (l : List (Cell × ℕ)). slice_set l place (with_host cell host, cell.1)) (cells_stay socket.name O opened world)

  sorted : Sorted journal (log ++ entries.Joined socket.name ∷ []) kept
  sorted = (keeps_sorted journal).cell (log ++ entries.Joined socket.name ∷ []) open_world place (with_host cell host, cell.1) ((keeps_sorted journal).joined log world socket is pending m.sound.ends.sure.ends.sorted)

  each : EachFound open_world.sockets
  each = each_kept socket.name O opened world (λ end. (refl, refl)) m.sound.ends.sure.ends.each

  entries_of : Told place (steps_in (told_steps told)) done kept after
  entries_of = all_entries journal place (with_host cell host) (told_steps told) (log ++ entries.Joined socket.name ∷ []) kept sorted each (subst NoDials (sym (steps_of told)) alone)

  silent : (s : SockName) (e : End) → find (is_socket_named s) after.sockets ≡ None → writings done s e ≡ []
  silent s e none = entries_of.silent s e none

  wrote : (s : SockName) (e : End) → writings (log ++ entries.Joined socket.name ∷ done) s e ≡ writings log s e ++ writings done s e
  wrote s e = wrote_both log (entries.Joined socket.name ∷ done) s e

  not_ended : (stage : Stage) → is_pending stage ≡ true → is_ended stage ≡ false
  not_ended Pending e = refl
  not_ended Open e = refl
  not_ended Ended e = absurd cc

  live : (old : WorldSocket) → find (is_socket_named socket.name) world.sockets ≡ Some old → is_ended old.o.stage ≡ false
  live old found = let same : ◌≡◌ {A = Option WorldSocket} (Some socket) (Some old) = sym is ∙ found in subst (λ (w : WorldSocket). is_ended w.o.stage ≡ false) (one_is same) (not_ended socket.o.stage pending) where
    one_is : ◌≡◌ {A = Option WorldSocket} (Some socket) (Some old) → socket ≡ old
    one_is e = cc

  later : (s : SockName) (w : WorldSocket) → find (is_socket_named s) after.sockets ≡ Some w → WasThere place told kept s w
  later s w found = told_goes journal place (with_host cell host) told (log ++ entries.Joined socket.name ∷ []) kept sorted each alone s w found

  were : (s : SockName) (w : WorldSocket) → find (is_socket_named s) after.sockets ≡ Some w → WasThere place told world s w
  were s w found =
      let late = later s w found in
      let first = opened_goes place socket.name O world live s late.before late.found in
      record { before = first.before; found = first.found; goes = none_first_goes place told first.before late.before w first.goes late.goes }

  -- what the steps write there, where the socket was found so
  told_there : (s : SockName) (w : WorldSocket) (e : End) → (was : WasThere place told world s w) → writings done s e ≡ pieces_for place told (end_of e was.before).cell (end_of e was.before).number
  told_there s w e was = by_found (find (is_socket_named s) kept.sockets) refl where
    one_is : (x y : WorldSocket) → ◌≡◌ {A = Option WorldSocket} (Some x) (Some y) → x ≡ y
    one_is x y h = cc

    by_found : (o : Option WorldSocket) → find (is_socket_named s) kept.sockets ≡ o → writings done s e ≡ pieces_for place told (end_of e was.before).cell (end_of e was.before).number
    by_found None h = let gone : find (is_socket_named s) world.sockets ≡ None = end_none socket.name O opened world s h in let no : ◌≡◌ {A = Option WorldSocket} None (Some was.before) = sym gone ∙ was.found in absurd cc
    by_found (Some mid) h =
        let changed = (same_change socket.name O opened world (λ end. (refl, refl))).was s mid h in
        let same : changed.before ≡ was.before = one_is changed.before was.before (sym changed.found ∙ was.found) in
        entries_of.wrote s mid e h ∙ ap (λ (l : List Step). pieces_for place l (end_of e mid).cell (end_of e mid).number) (steps_of told)
        ∙ ap (λ (c : Option ℕ). pieces_for place told c (end_of e mid).number) (changed.cell e ∙ ap (λ (v : WorldSocket). (end_of e v).cell) same) ∙ ap (pieces_for place told (end_of e was.before).cell) (changed.number e ∙ ap (λ (v : WorldSocket). (end_of e v).number) same)

-- what was written stays true, and no frame is new
pub joined_truly : (journal : List Line) (log : List Entry) (world : World) (place : ℕ) (cell : Cell × ℕ) (told : List Step) (host : HostState) (j : Joining (own_of journal place) cell.0.host told host) (more : List Entry) (after : World) (party : Side → Party) (x : Side) → Standing journal log world → ((s : SockName) (socket : WorldSocket) → find (is_socket_named s) world.sockets ≡ Some socket → MayAskWell journal world socket)
    → slice_get world.cells place ≡ Some cell → Says journal log world party x → GoTruly place told (new_joined (own_of journal place) cell.0.host told host j) log world (log ++ more) after party x
joined_truly journal log world place cell told host j more after party x st may at says s e socket of found t = new_cases place (new_joined (own_of journal place) cell.0.host told host j) (end_of e t.before).cell (end_of e t.before).number True still
    (λ n c m. subst (λ (l : List Placed). AreTruly (sayings (party x).name (party (other x)).name (log ++ more)) (written_frames (sayings (party x).name (party (other x)).name log) (writings log s e) ++ l)) (sym (none_framed (own_of journal place) cell.0.host told host j n (may_ask journal log world place n cell s t.before e st (may s t.before t.found) at t.found c m))) still)
  where
    True : List PlacedItem → Type 0
    True new = AreTruly (sayings (party x).name (party (other x)).name (log ++ more)) (written_frames (sayings (party x).name (party (other x)).name log) (writings log s e) ++ placed_in new)

    still : True []
    still = truly_bare journal log more party x s e [] (wrote_true journal log world party x s e says of) tt
