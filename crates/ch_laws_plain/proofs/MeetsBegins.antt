-- What is read at an end of a host is the beginning of a plain stream.
use Rattle.std.proofs.Common.{◌≡◌, ℕ, Bool, false, List, ◌++◌, sym, ap, ◌∙◌, subst}
use Rattle.std.specs.Option.{option_map}
use Rattle.std.specs.Prelude.{◌||◌, find, slice_get, Option, Some, None}
use Rattle.ch_wire.specs.declared.frame.Frame.{Frame}
use Rattle.ch_reader.specs.declared.item.Expected.{Expected}
use Rattle.ch_reader.specs.declared.item.Item.{Item}
use Rattle.ch_model.specs.declared.entry.Entry.{Entry}
use Rattle.ch_model.specs.declared.line.Line.{Line}
use Rattle.ch_model.specs.declared.name.End.{End}
use Rattle.ch_model.specs.declared.name.SockName.{SockName}
use Rattle.ch_model.specs.HostState.{Socket}
use Rattle.ch_model.specs.HostSteps.{is_socket}
use Rattle.ch_model.specs.Stages.{is_ended}
use Rattle.ch_model.specs.World.{names_of}
use Rattle.ch_model.specs.WorldSockets.{end_of, other, find_end, is_socket_named}
use Rattle.ch_model.specs.WorldState.{Cell, WorldSocket, World}
use Rattle.ch_laws_log.proofs.Kept.{IsIn}
use Rattle.ch_laws_ends.proofs.Apart.{found_there}
use Rattle.ch_laws_ends.proofs.Happen.{its_stage}
use Rattle.ch_laws_many.proofs.Reached.{IsJournal}
use Rattle.ch_laws_reads.specs.Reads.{AreReadOf}
use Rattle.ch_laws_reads.proofs.Stays.{read_of_spelled}
use Rattle.ch_laws_bytes.specs.Streams.{Reader, Spelled, is_over, reader_of, due_of_end, AreAddresses}
use Rattle.ch_laws_race.proofs.Sockets.{given}
use Rattle.ch_laws_calls.specs.Peers.{Peers}
use Rattle.ch_laws_calls.specs.Sound.{Sound}
use Rattle.ch_laws_calls.specs.Users.{AllUsed}
use Rattle.ch_laws_calls.specs.ScenesKnocks.{Unknocked}
use Rattle.ch_laws_calls.proofs.ScenesHeld.{held_by, IsFoundAt, found_at, IsKept, kept_there, found_held}
use Rattle.ch_laws_calls.proofs.ScenesStreams.{flows_so, reader_at_end}
use Rattle.ch_laws_calls.specs.FitsFit.{frames_in, MayAskWell}
use Rattle.ch_laws_calls.proofs.FitsEnds.{flows_there}
use Rattle.ch_laws_calls.proofs.FitsFrames.{in_append}
use Rattle.ch_laws_plain.specs.Plain.{pending_at, pending_there, pending_of, PlainIn, PlainAt, WorldIsPlain}
use Rattle.ch_laws_plain.specs.Streams.{PlainOn}
use Rattle.ch_laws_plain.specs.MeetsReads.{ReadsPlain}
use Rattle.ch_laws_plain.proofs.MeetsAsked.{peers_may_ask}

-- whoever reads there, and as it isn't over
plain_so : (o : Option Reader) (over : Bool) (unread : List ℕ) (pending : Option ℕ) (reader : Reader) → o ≡ Some reader → over ≡ false → PlainAt o over unread pending → PlainIn reader unread pending
plain_so o over unread pending reader r h p = subst (λ (b : Bool). PlainAt (Some reader) b unread pending) h (subst (λ (x : Option Reader). PlainAt x over unread pending) r p)

-- what is read of spelled items that are a plain stream begins one
begins_plain : (unread left : List ℕ) (pending : Option ℕ) (all read : List Item) (next : Expected) → PlainOn pending (frames_in all) None → AreReadOf all read next left unread → (more : List Frame) × PlainOn pending (frames_in read ++ more) None
begins_plain unread left pending all read next plain of = (frames_in of.rest, subst (λ (l : List Frame). PlainOn pending l None) (ap frames_in of.split ∙ in_append read of.rest) plain)

pub reads_plain : (journal : List Line) (log : List Entry) (world : World) → Sound journal log world → AllUsed journal log world → ((s : SockName) (socket : WorldSocket) → find (is_socket_named s) world.sockets ≡ Some socket → MayAskWell journal world socket) → WorldIsPlain journal world
    → (place : ℕ) (cell : Cell × ℕ) → slice_get world.cells place ≡ Some cell → ReadsPlain cell.0
reads_plain journal log world sound used may plain place cell at n known read next left kept stands front = begins_plain (end_of e socket).unread left (pending_at cell.0 n) s.items read next
    (subst (λ (p : Option ℕ). PlainOn p (frames_in s.items) None) pending (plain_there s.items s.whole s.each)) (read_of_spelled known.expected next known.since left (end_of e socket).unread s.items read s.whole s.each front)
  where
    held : (one : SockName × End) × (find_end place n world.sockets ≡ Some one)
    held = found_held (find_end place n world.sockets) world.sockets known.stage (sym (sound.ends.sure.ends.agrees.ends place cell at n) ∙ ap (option_map (λ (w : Socket). w.stage)) kept)

    found : IsFoundAt place n held.0 world.sockets
    found = found_at place n world.sockets held.0 held.1

    e : End
    e = held.0.1

    socket : WorldSocket
    socket = found.socket

    is : IsIn socket world
    is = found_there world.sockets found.i socket sound.ends.sure.ends.sorted.0.apart found.there

    place_of : ((end_of e socket).cell ≡ Some place) × ((end_of e socket).number ≡ Some n)
    place_of = held_by place n (end_of e socket) found.of

    -- the host's record stands as the end does
    record_of : IsKept (find (is_socket n) cell.0.host.sockets) (end_of e socket).stage
    record_of = kept_there (find (is_socket n) cell.0.host.sockets) (end_of e socket).stage (sound.ends.sure.ends.agrees.ends place cell at n ∙ its_stage journal log world socket e place n sound.ends.sure is place_of.0 place_of.1)

    stage : known.stage ≡ (end_of e socket).stage
    stage = ap (λ (w : Socket). w.stage) (given known record_of.known (sym kept ∙ record_of.is)) ∙ record_of.stands

    lives : is_over (end_of e socket) ≡ false
    lives = ap (λ (b : Bool). b || (end_of e socket).is_cut) (ap is_ended (sym stage) ∙ stands) ∙ (used socket.name socket is).uncut e

    reader : Reader
    reader = (known.expected, known.since)

    reads : reader_of world socket e ≡ Some reader
    reads = reader_at_end world socket e place n cell known place_of.0 place_of.1 at kept stands

    s : Spelled reader (end_of e socket).unread (due_of_end world socket (other e))
    s = flows_so (reader_of world socket e) (is_over (end_of e socket)) (end_of e socket).unread (due_of_end world socket (other e)) reader reads lives (flows_there journal world socket.name socket e sound.ends.flowing is (may socket.name socket is)).flows

    pending : pending_of world.cells (end_of e socket).cell (end_of e socket).number ≡ pending_at cell.0 n
    pending = ap (λ (c : Option ℕ). pending_of world.cells c (end_of e socket).number) place_of.0 ∙ ap (λ (m : Option ℕ). pending_of world.cells (Some place) m) place_of.1 ∙ ap (λ (c : Option (Cell × ℕ)). pending_there c n) at

    plain_there : PlainIn reader (end_of e socket).unread (pending_of world.cells (end_of e socket).cell (end_of e socket).number)
    plain_there = plain_so (reader_of world socket e) (is_over (end_of e socket)) (end_of e socket).unread (pending_of world.cells (end_of e socket).cell (end_of e socket).number) reader reads lives (plain.ends socket.name socket e is (may socket.name socket is))

-- so it is where all dials are between nodes
pub peers_read_plain : (journal : List Line) → IsJournal journal → AreAddresses (names_of journal) → (log : List Entry) (world : World) → Sound journal log world → AllUsed journal log world → Unknocked log → Peers journal log world → WorldIsPlain journal world
    → (place : ℕ) (cell : Cell × ℕ) → slice_get world.cells place ≡ Some cell → ReadsPlain cell.0
peers_read_plain journal j addresses log world sound used quiet peers plain = reads_plain journal log world sound used (peers_may_ask journal j addresses log world sound quiet peers) plain
