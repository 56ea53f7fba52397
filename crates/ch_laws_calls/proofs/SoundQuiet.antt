-- What begins with nothing new at a host: marks, notes, nodes, what endpoints ask, items, and the end of an input.
use Rattle.std.proofs.Common.{◌≡◌, ℕ, Bool, true, false, cond, List, [], ◌∷◌, ◌++◌, drop, Ok, refl, sym, ap, ◌∙◌, subst, append_assoc}
use Rattle.std.proofs.lemmas.List.{append-nil}
use Rattle.std.specs.Prelude.{find, slice_get, Result, Option, Some}
use Rattle.ch_base.specs.declared.address.Address.{Address}
use Rattle.ch_base.specs.declared.memory.Stop.{Stop}
use Rattle.ch_model.specs.declared.entry.Entry.{Entry}
use Rattle.ch_model.specs.declared.entry.Entry.TheVariants as entries
use Rattle.ch_model.specs.declared.entry.Verdict.{Verdict}
use Rattle.ch_model.specs.declared.line.Line.{Line}
use Rattle.ch_model.specs.declared.local.LocalEntry.TheVariants as local
use Rattle.ch_model.specs.declared.name.End.{End}
use Rattle.ch_model.specs.declared.name.End.TheVariants.{O, T}
use Rattle.ch_model.specs.declared.name.SockName.{SockName}
use Rattle.ch_model.specs.declared.note.Note.{Note}
use Rattle.ch_model.specs.declared.step.SocketEvent.TheVariants as sockets
use Rattle.ch_model.specs.declared.step.Step.{Step}
use Rattle.ch_model.specs.declared.step.Weight.{Weight}
use Rattle.ch_model.specs.Cell.{cell_new}
use Rattle.ch_model.specs.Host.{host_on, host_next}
use Rattle.ch_model.specs.HostCalls.{host_connect, host_send, host_close}
use Rattle.ch_model.specs.HostState.{HostState}
use Rattle.ch_model.specs.NodeState.{NodeState}
use Rattle.ch_model.specs.Same.{same_socket}
use Rattle.ch_model.specs.World.{names_of}
use Rattle.ch_model.specs.WorldHappenings.{with_cell}
use Rattle.ch_model.specs.WorldLines.{can_feed}
use Rattle.ch_model.specs.WorldSockets.{end_of, with_end, is_socket_named, store_in, with_socket}
use Rattle.ch_model.specs.WorldState.{Cell, WorldSocket, World}
use Rattle.ch_model.specs.WorldSteps.{note_entry, place_after}
use Rattle.ch_laws_items.specs.Stays.{Who, seats_of}
use Rattle.ch_laws_items.proofs.Hosts as hosts
use Rattle.ch_laws_world.specs.Grows.{Home}
use Rattle.ch_laws_world.proofs.Sockets as grows
use Rattle.ch_laws_log.specs.HostEnds.{IsSound}
use Rattle.ch_laws_log.proofs.Agreeing.{with_end_is}
use Rattle.ch_laws_log.proofs.HostEventsTold.{event_told}
use Rattle.ch_laws_log.proofs.HostItemsTold as told
use Rattle.ch_laws_log.proofs.HostTold as ends
use Rattle.ch_laws_log.proofs.Kept.{IsIn}
use Rattle.ch_laws_ends.proofs.Known.{keeps_sorted}
use Rattle.ch_laws_ends.proofs.Lines.{mark_sure}
use Rattle.ch_laws_ends.proofs.Over.{refused_in, same_over, told_unrefused, refused_still}
use Rattle.ch_laws_ends.proofs.Told.{Sure, agrees_still}
use Rattle.ch_laws_reads.proofs.HostEventsRead.{event_read}
use Rattle.ch_laws_reads.proofs.HostItemsRead as read
use Rattle.ch_laws_reads.proofs.HostReads as host_reads
use Rattle.ch_laws_writes.specs.Dues.{due_at}
use Rattle.ch_laws_writes.proofs.Calls as calls
use Rattle.ch_laws_writes.proofs.Dues.{nothing_said}
use Rattle.ch_laws_writes.proofs.Events.{event_writes}
use Rattle.ch_laws_writes.proofs.Items.{next_writes}
use Rattle.ch_laws_bytes.proofs.Lines.{own_of}
use Rattle.ch_laws_many.proofs.Addresses.{AllNamed}
use Rattle.ch_laws_many.proofs.Led.{grown_set}
use Rattle.ch_laws_calls.specs.Calls.{IsCalled, done_at, fed_in}
use Rattle.ch_laws_calls.specs.Sound.{SoundEnds}
use Rattle.ch_laws_calls.proofs.SoundCalled.{quiet_sound, steps_sound, asked_sound}
use Rattle.ch_laws_calls.proofs.SoundFed.{taken_sure}

-- ---- marks, notes and nodes

pub marked_sound : (journal : List Line) (log : List Entry) (world : World) (number : ℕ) (answer : Verdict) → SoundEnds journal log world → SoundEnds journal (log ++ entries.Line number answer ∷ []) world
marked_sound journal log world number answer s = record { sure = mark_sure journal log world number answer s.sure; set = s.set; homes = s.homes; flowing = s.flowing }

pub noted_sound : (journal : List Line) (log : List Entry) (world : World) (note : Note) → SoundEnds journal log world → SoundEnds journal (log ++ note_entry world.names world.last note ∷ []) (record world { last = place_after world.last note })
noted_sound journal log world note s = record {
  sure = record {
    ends = record { sorted = (keeps_sorted journal).note log world note s.sure.ends.sorted; each = s.sure.ends.each; agrees = agrees_still world now refl (λ p n. refl) s.sure.ends.agrees };
    over = same_over (refused_in log) (refused_in (log ++ entry ∷ [])) world.sockets (λ t. refused_still log (entry ∷ []) t (unrefused t)) s.sure.over;
  };
  set = grown_set (names_of journal) world now s.set (record { names = refl; strangers = refl; homes = refl; sockets = (grows.rests world s.set.numbered).sockets; numbered = s.set.numbered }) s.set.led;
  homes = s.homes;
  flowing = record { orderly = s.flowing.orderly; flow = s.flowing.flow };
} where
  now : World
  now = record world { last = place_after world.last note }

  entry : Entry
  entry = note_entry world.names world.last note

  unrefused : (t : SockName) → refused_in (entry ∷ []) t ≡ false
  unrefused t = told_unrefused t 0 (cell_new [] 0 [] []) (local.Note note ∷ []) world

pub seated_sound : (journal : List Line) → AllNamed (names_of journal) → (log : List Entry) (world : World) (place : ℕ) (cell : Cell × ℕ) (nodes : List (ℕ × NodeState)) → slice_get world.cells place ≡ Some cell → seats_of nodes ≡ seats_of (cell.0).nodes → SoundEnds journal log world
    → SoundEnds journal log (with_cell place (record (cell.0) { nodes = nodes }, cell.1) world)
seated_sound journal named log world place cell nodes at seats s = subst (λ (l : List Entry). SoundEnds journal l (with_cell place (record (cell.0) { nodes = nodes }, cell.1) world)) (append-nil log)
    (quiet_sound journal named log world place cell [] (record (cell.0) { nodes = nodes }) s at (ap seated seats) (ends.at_rest cell.0.host sound) (host_reads.at_rest cell.0.host sound) (record { orderly = s.flowing.orderly place cell at; writes = nothing_said (own_of journal place) (due_at cell.0.host) (due_at cell.0.host) (λ n. refl) })) where
      sound : IsSound cell.0.host
      sound = s.sure.ends.agrees.sound place cell at

      seated : List (ℕ × Who) → Home
      seated who = (cell.0.host.host, cell.0.host.port, cell.0.host.circle, who)

-- ---- what an endpoint asks

pub connected_sound : (journal : List Line) → AllNamed (names_of journal) → (log : List Entry) (world : World) (place : ℕ) (cell : Cell × ℕ) (end : ℕ) (peer : Address) (conn : ℕ) (steps : List Step) (host : HostState) → slice_get world.cells place ≡ Some cell → host_connect cell.0.host end peer conn ≡ Ok (steps, host) → SoundEnds journal log world
    → let done = done_at place cell steps host world in SoundEnds journal (log ++ done.0) done.1
connected_sound journal named log world place cell end peer conn steps host at is s = asked_sound journal named log world place cell steps host (host_connect cell.0.host end peer conn) is s at
    (hosts.connected cell.0.host end peer conn) (told.connected cell.0.host end peer conn) (read.connected cell.0.host end peer conn) (calls.connected (own_of journal place) cell.0.host end peer conn (s.flowing.orderly place cell at))

pub sent_sound : (journal : List Line) → AllNamed (names_of journal) → (log : List Entry) (world : World) (place : ℕ) (cell : Cell × ℕ) (end conn : ℕ) (payload : List ℕ) (weight : Weight) (steps : List Step) (host : HostState) → slice_get world.cells place ≡ Some cell → host_send cell.0.host end conn payload weight ≡ Ok (steps, host) → SoundEnds journal log world
    → let done = done_at place cell steps host world in SoundEnds journal (log ++ done.0) done.1
sent_sound journal named log world place cell end conn payload weight steps host at is s = asked_sound journal named log world place cell steps host (host_send cell.0.host end conn payload weight) is s at
    (hosts.sent cell.0.host end conn payload weight) (told.sent cell.0.host end conn payload weight) (read.sent cell.0.host end conn payload weight) (calls.sent (own_of journal place) cell.0.host end conn payload weight (s.flowing.orderly place cell at))

pub closed_sound : (journal : List Line) → AllNamed (names_of journal) → (log : List Entry) (world : World) (place : ℕ) (cell : Cell × ℕ) (end conn : ℕ) (steps : List Step) (host : HostState) → slice_get world.cells place ≡ Some cell → host_close cell.0.host end conn ≡ Ok (steps, host) → SoundEnds journal log world
    → let done = done_at place cell steps host world in SoundEnds journal (log ++ done.0) done.1
closed_sound journal named log world place cell end conn steps host at is s = asked_sound journal named log world place cell steps host (host_close cell.0.host end conn) is s at
    (hosts.closed cell.0.host end conn) (told.closed_conn cell.0.host end conn) (read.closed_conn cell.0.host end conn) (calls.closed_conn (own_of journal place) cell.0.host end conn (s.flowing.orderly place cell at))

-- ---- an item

pub item_sound : (journal : List Line) → AllNamed (names_of journal) → (log : List Entry) (world : World) (place : ℕ) (cell : Cell × ℕ) (steps : List Step) (host : HostState) → slice_get world.cells place ≡ Some cell → host_next cell.0.host ≡ Ok (Some steps, host) → SoundEnds journal log world
    → let done = done_at place cell steps host world in SoundEnds journal (log ++ done.0) done.1
item_sound journal named log world place cell steps host at is s = steps_sound journal named log world place cell steps host s at (subst (λ (d : Result (Option (List Step) × HostState) Stop). hosts.Stays cell.0.host d) is (hosts.next_item cell.0.host))
    (told.next_told cell.0.host host steps sound is) (read.next_told cell.0.host host steps sound is) (next_writes (own_of journal place) cell.0.host host steps (s.flowing.orderly place cell at) is) where
      sound : IsSound cell.0.host
      sound = s.sure.ends.agrees.sound place cell at

-- ---- the end of an input

-- a socket that is kept in place of itself
stored_same : (socket : WorldSocket) (sockets : List WorldSocket) → find (is_socket_named socket.name) sockets ≡ Some socket → store_in socket sockets ≡ sockets
stored_same socket [] e = absurd cc
stored_same socket (known ∷ rest) e = by_test (same_socket known.name socket.name) (stored_same socket rest) e where
  by_test : (b : Bool) → (find (is_socket_named socket.name) rest ≡ Some socket → store_in socket rest ≡ rest) → cond b (Some known) (find (is_socket_named socket.name) rest) ≡ Some socket → cond b (socket ∷ rest) (known ∷ store_in socket rest) ≡ known ∷ rest
  by_test true more e = let is : known ≡ socket = cc in ap (λ (w : WorldSocket). w ∷ rest) (sym is)
  by_test false more e = ap (λ (l : List WorldSocket). known ∷ l) (more e)

-- where nothing is taken, the world is as it was
none_taken : (which : End) (socket : WorldSocket) (world : World) → IsIn socket world → fed_in which 0 socket world ≡ world
none_taken which socket world is = with_end_is socket.name which (λ end. record end { unread = drop 0 end.unread }) world socket is ∙ ap (λ (w : WorldSocket). with_socket w world) (itself which) ∙ ap (λ (l : List WorldSocket). record world { sockets = l }) (stored_same socket world.sockets is) where
  itself : (w : End) → with_end w (record (end_of w socket) { unread = drop 0 (end_of w socket).unread }) socket ≡ socket
  itself O = refl
  itself T = refl

pub ended_sound : (journal : List Line) → AllNamed (names_of journal) → (log : List Entry) (world : World) (socket : WorldSocket) (which : End) (place n : ℕ) (cell : Cell × ℕ) (steps : List Step) (host : HostState) → IsIn socket world → can_feed which socket ≡ true → IsCalled world place cell (sockets.Ended n) steps host → SoundEnds journal log world
    → let done = done_at place cell steps host world in SoundEnds journal (log ++ entries.Fed socket.name which 0 ∷ done.0) done.1
ended_sound journal named log world socket which place n cell steps host is may c s = subst (λ (l : List Entry). SoundEnds journal l (done_at place cell steps host world).1) (append_assoc log (entries.Fed socket.name which 0 ∷ []) (done_at place cell steps host world).0)
    (asked_sound journal named (log ++ entries.Fed socket.name which 0 ∷ []) world place cell steps host (host_on cell.0.host (sockets.Ended n)) c.does (record { sure = sure; set = s.set; homes = s.homes; flowing = s.flowing }) c.at
    (hosts.on_event cell.0.host (sockets.Ended n)) (event_told cell.0.host (sockets.Ended n) refl) (event_read cell.0.host (sockets.Ended n)) (event_writes (own_of journal place) cell.0.host (sockets.Ended n) (s.flowing.orderly place cell c.at) tt)) where
      sure : Sure journal (log ++ entries.Fed socket.name which 0 ∷ []) world
      sure = subst (λ (w : World). Sure journal (log ++ entries.Fed socket.name which 0 ∷ []) w) (none_taken which socket world is) (taken_sure journal log which 0 socket world is may s.sure)
