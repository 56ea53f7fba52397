-- An opener's end is joined: the world and the host open it, and the host writes its request.
use Rattle.std.proofs.Common.{◌≡◌, ◌≤◌, ℕ, ◌+◌, ◌*◌, Bool, true, false, cond, ◌||◌, List, [], ◌∷◌, ◌++◌, refl, sym, ap, ◌∙◌, subst, append_assoc}
use Rattle.std.specs.Prelude.{find, slice_get, slice_set, Option, Some, None, ◌==◌}
use Rattle.ch_base.specs.declared.address.Address.{Address}
use Rattle.ch_model.specs.declared.entry.Entry.{Entry}
use Rattle.ch_model.specs.declared.entry.Entry.TheVariants as entries
use Rattle.ch_model.specs.declared.line.Line.{Line}
use Rattle.ch_model.specs.declared.name.End.TheVariants.{O}
use Rattle.ch_model.specs.declared.step.SocketEvent.TheVariants as sockets
use Rattle.ch_model.specs.declared.step.Step.{Step}
use Rattle.ch_model.specs.declared.step.Step.TheVariants.{Write}
use Rattle.ch_model.specs.CellSteps.{told_steps}
use Rattle.ch_model.specs.HostState.{Socket, HostState}
use Rattle.ch_model.specs.HostSteps.{Stepped, is_socket}
use Rattle.ch_model.specs.Stages.{Stage, Pending, Open, is_pending, is_ended}
use Rattle.ch_model.specs.World.{names_of}
use Rattle.ch_model.specs.WorldHappenings.{with_cell}
use Rattle.ch_model.specs.WorldSockets.{with_end, opened, is_socket_named}
use Rattle.ch_model.specs.WorldState.{Cell, WorldSocket, World}
use Rattle.ch_laws_items.proofs.Hosts as hosts
use Rattle.ch_laws_world.specs.Grows.{homes_of}
use Rattle.ch_laws_log.specs.HostEnds.{stage_at, Tells, steps_in}
use Rattle.ch_laws_log.specs.WorldEnds.{stage_held}
use Rattle.ch_laws_log.proofs.HostTold as ends
use Rattle.ch_laws_log.proofs.HostTold.{number_found}
use Rattle.ch_laws_log.proofs.Kept.{IsIn}
use Rattle.ch_laws_log.proofs.Stored.{number_is}
use Rattle.ch_laws_ends.specs.Agree.{AgreesOnEnds}
use Rattle.ch_laws_ends.proofs.Changes.{cells_stay}
use Rattle.ch_laws_ends.proofs.Found.{changed_held, each_kept}
use Rattle.ch_laws_ends.proofs.Happen.{its_place, its_stage}
use Rattle.ch_laws_ends.proofs.Known.{keeps_sorted, pending_is}
use Rattle.ch_laws_ends.proofs.Opened.{OpensTo}
use Rattle.ch_laws_ends.proofs.Over.{refused_in, same_over, end_over, refused_still}
use Rattle.ch_laws_ends.proofs.Told.{Sure, opened_agrees}
use Rattle.ch_laws_reads.specs.Reads.{Reads}
use Rattle.ch_laws_reads.proofs.HostReads as host_reads
use Rattle.ch_laws_writes.specs.Dues.{due_at}
use Rattle.ch_laws_writes.specs.Orderly.{WritesOn, AllWrite}
use Rattle.ch_laws_writes.proofs.Events.{event_writes}
use Rattle.ch_laws_bytes.specs.Streams.{Reader, reader_in, readers_of, dues_of, reads_at, first_at, Flows, is_over, BothFlow}
use Rattle.ch_laws_bytes.proofs.Event.{Flowing, given_readers, given_dues}
use Rattle.ch_laws_bytes.proofs.Feeds.{same_end_gone}
use Rattle.ch_laws_bytes.proofs.Happen.{changed_flowing, readers_there, dues_there}
use Rattle.ch_laws_bytes.proofs.Lines.{own_of}
use Rattle.ch_laws_bytes.proofs.Reading.{read_as}
use Rattle.ch_laws_bytes.proofs.Sockets.{all_as}
use Rattle.ch_laws_many.proofs.Addresses.{AllNamed}
use Rattle.ch_laws_many.proofs.Led.{opened_set}
use Rattle.ch_laws_calls.specs.Calls.{IsCalled, IsHeldBy, with_host, done_at, joined_in}
use Rattle.ch_laws_calls.specs.Sound.{SoundEnds}
use Rattle.ch_laws_calls.proofs.SoundCalled.{called_sound, steps_told, home_kept}
use Rattle.ch_laws_calls.proofs.SoundChanged.{both_with}
use Rattle.ch_laws_calls.proofs.SoundHears.{IsJoined, joined_so, found_after, opens_to}

pub joined_sound : (journal : List Line) → AllNamed (names_of journal) → (log : List Entry) (world : World) (socket : WorldSocket) (place n : ℕ) (cell : Cell × ℕ) (steps : List Step) (host : HostState) → IsIn socket world → is_pending socket.o.stage ≡ true → IsHeldBy place n socket.o → IsCalled world place cell (sockets.Joined n) steps host → SoundEnds journal log world
    → let done = done_at place cell steps host (joined_in socket world) in SoundEnds journal (log ++ entries.Joined socket.name ∷ done.0) done.1
joined_sound journal named log world socket place n cell steps host is p held c s = subst (λ (l : List Entry). SoundEnds journal l (done_at place cell steps host now).1) (append_assoc log (entries.Joined socket.name ∷ []) (done_at place cell steps host now).0)
    (called_sound journal log_now now place cell host (due_at cell.0.host) (told_steps steps) (with_host cell host) (record {
      named = named;
      at = at;
      sure = sure;
      set = opened_set (names_of journal) O opened socket world s.set is p (λ end. (refl, refl));
      homes = ap homes_of same_cells ∙ s.homes;
      home = home_kept cell.0 host (subst (λ (d : Stepped). hosts.Stays cell.0.host d) c.does (hosts.on_event cell.0.host (sockets.Joined n)));
      orderly = flowing.orderly;
      tells = subst (λ (l : List Step). Tells host l host) (sym told) (ends.plain_first (Write j.socket.number j.bytes None) tt host host [] (ends.at_rest host writes.orderly.sound));
      reads = subst (λ (l : List Step). Reads host l host) (sym told) (host_reads.plain_first (Write j.socket.number j.bytes None) tt host host [] (host_reads.at_rest host writes.orderly.sound));
      writes = subst (λ (l : List Step). WritesOn (own_of journal place) (due_at cell.0.host) l host) (sym (steps_told steps)) writes;
      flow = read_as (own_of journal) now.names (readers_of now.cells) (given_readers place host now.cells) (given_dues place (due_at cell.0.host) now.cells) now.sockets readers_now
          (all_as (own_of journal) now.names (readers_of now.cells) (dues_of now.cells) (given_dues place (due_at cell.0.host) now.cells) now.sockets (dues_there now.cells place cell at) flowing.flow);
    }))
  where
    now : World
    now = joined_in socket world

    log_now : List Entry
    log_now = log ++ entries.Joined socket.name ∷ []

    own : ℕ → ℕ → Address
    own = own_of journal

    same_cells : now.cells ≡ world.cells
    same_cells = cells_stay socket.name O opened world

    at : slice_get now.cells place ≡ Some cell
    at = ap (λ (l : List (Cell × ℕ)). slice_get l place) same_cells ∙ c.at

    pending : socket.o.stage ≡ Pending
    pending = pending_is socket.o.stage p

    same : (old : WorldSocket) → find (is_socket_named socket.name) world.sockets ≡ Some old → socket ≡ old
    same old found = same_end_gone socket old socket.name world.sockets is found

    -- ---- the host

    stage : stage_at cell.0.host n ≡ Some Pending
    stage = s.sure.ends.agrees.ends place cell c.at n ∙ its_stage journal log world socket O place n s.sure is held.cell held.number ∙ ap Some pending

    j : IsJoined cell.0.host n steps host
    j = joined_so cell.0.host n steps host (s.sure.ends.agrees.sound place cell c.at) stage c.does

    new : Socket
    new = record (j.socket) { stage = Open }

    named_so : j.socket.number ≡ n
    named_so = number_found n cell.0.host.sockets j.socket j.found

    told : steps_in (told_steps steps) ≡ Write j.socket.number j.bytes None ∷ []
    told = steps_told steps ∙ j.now.steps_are

    writes : WritesOn (own_of journal place) (due_at cell.0.host) steps host
    writes = subst (λ (d : Stepped). AllWrite (own_of journal place) (due_at cell.0.host) d) c.does (event_writes (own_of journal place) cell.0.host (sockets.Joined n) (s.flowing.orderly place cell c.at) tt)

    to : OpensTo cell.0.host host n
    to = opens_to cell.0.host new (Write j.socket.number j.bytes None ∷ []) steps host n j.now named_so refl writes.orderly.sound

    -- ---- the ends

    past : (k : ℕ) → cell.1 ≤ k → (b : Bool) → (n == 2 * k + 1) ≡ b → b ≡ false
    past k l false e = refl
    past k l true e =
        let none : stage_held place n world.sockets ≡ None = subst (λ (i : ℕ). stage_held place i world.sockets ≡ None) (sym (number_is n (2 * k + 1) e)) (s.sure.ends.agrees.accepted place cell c.at k l) in
        let some = sym (s.sure.ends.agrees.ends place cell c.at n) ∙ stage in absurd cc

    agrees : AgreesOnEnds (with_cell place (with_host cell host, cell.1) now)
    agrees = opened_agrees world (with_cell place (with_host cell host, cell.1) now) place cell (with_host cell host) cell.1 n s.sure.ends.agrees c.at (ap (λ (l : List (Cell × ℕ)). slice_set l place (with_host cell host, cell.1)) same_cells) to
        (λ q m. changed_held q m socket.name O opened world socket s.sure.ends.sorted.0.apart s.sure.ends.each is (λ end. (refl, refl)) ∙ ap (λ b. cond b (Some Open) (stage_held q m world.sockets)) (its_place socket.o place n held.cell held.number q m))
        (λ k l. (past k l (n == 2 * k + 1) refl, l))

    not_over : (old : WorldSocket) → find (is_socket_named socket.name) world.sockets ≡ Some old → is_ended old.o.stage ≡ true → is_ended (with_end O (opened old.o) old).o.stage ≡ true
    not_over old found e = let gone : is_ended Pending ≡ true = subst (λ (x : Stage). is_ended x ≡ true) (ap (λ (w : WorldSocket). w.o.stage) (sym (same old found)) ∙ pending) e in absurd cc

    sure : Sure journal log_now (with_cell place (with_host cell host, cell.1) now)
    sure = record {
      ends = record {
        sorted = (keeps_sorted journal).cell log_now now place (with_host cell host, cell.1) ((keeps_sorted journal).joined log world socket is p s.sure.ends.sorted);
        each = each_kept socket.name O opened world (λ end. (refl, refl)) s.sure.ends.each;
        agrees = agrees;
      };
      over = same_over (refused_in log) (refused_in log_now) now.sockets (λ t. refused_still log (entries.Joined socket.name ∷ []) t refl) (end_over (refused_in log) socket.name O opened world not_over s.sure.over);
    }

    -- ---- the streams

    over : is_over socket.o ≡ is_over (opened socket.o)
    over = ap (λ (x : Stage). is_ended x || socket.o.is_cut) pending

    mine : BothFlow own world.names (readers_of world.cells) (dues_of world.cells) (with_end O (opened socket.o) socket)
    mine = both_with own world.names (readers_of world.cells) (readers_of world.cells) (dues_of world.cells) (dues_of world.cells) O (opened socket.o) socket refl
        (λ due f. subst (λ (b : Bool). Flows (reads_at (readers_of world.cells) (first_at O) socket.o.cell socket.o.number) b socket.o.unread due) over f) refl refl refl (s.flowing.flow socket.name socket is)

    flowing : Flowing own now
    flowing = changed_flowing own socket.name O opened world (λ old found f. subst (λ (v : WorldSocket). BothFlow own world.names (readers_of world.cells) (dues_of world.cells) (with_end O (opened v.o) v)) (same old found) mine) s.flowing

    -- the host reads on it what it did
    reader_now : (m : ℕ) → reader_in (find (is_socket m) host.sockets) ≡ reader_in (find (is_socket m) cell.0.host.sockets)
    reader_now m = ap reader_in (found_after cell.0.host new (Write j.socket.number j.bytes None ∷ []) steps host j.now m) ∙ by_number (j.socket.number == m) refl where
      by_number : (b : Bool) → (j.socket.number == m) ≡ b → reader_in (cond b (Some new) (find (is_socket m) cell.0.host.sockets)) ≡ reader_in (find (is_socket m) cell.0.host.sockets)
      by_number false e = refl
      by_number true e =
          let there : find (is_socket m) cell.0.host.sockets ≡ Some j.socket = subst (λ (k : ℕ). find (is_socket k) cell.0.host.sockets ≡ Some j.socket) (sym named_so ∙ number_is j.socket.number m e) j.found in
          sym (ap reader_in there ∙ ap (λ (x : Stage). cond (is_ended x) None (Some (j.socket.expected, j.socket.since))) (pending_is j.socket.stage j.stands))

    readers_now : (q m : ℕ) → given_readers place host now.cells q m ≡ readers_of now.cells q m
    readers_now q m = ap (λ (r : Option Reader). cond (place == q) r (readers_of now.cells q m)) (reader_now m) ∙ readers_there now.cells place cell at q m
