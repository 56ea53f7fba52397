-- Each thing that happens in a journal of many nodes keeps it that a node dials a peer once.
use Rattle.std.proofs.Common.{◌≡◌, ℕ, ◌+◌, ◌*◌, true, false, ◌&&◌, ◌||◌, List, [], ◌∷◌, ◌++◌, length, drop, refl, sym, ap, ◌∙◌}
use Rattle.std.proofs.lemmas.Option.{slice_get_within}
use Rattle.std.specs.Prelude.{slice_get, Some}
use Rattle.ch_light.proofs.Lists.{set_here}
use Rattle.ch_model.specs.declared.entry.Entry.{Entry}
use Rattle.ch_model.specs.declared.entry.Entry.TheVariants as entries
use Rattle.ch_model.specs.declared.line.Line.{Line}
use Rattle.ch_model.specs.declared.name.End.TheVariants.{O, T}
use Rattle.ch_model.specs.declared.step.SocketEvent.TheVariants as sockets
use Rattle.ch_model.specs.declared.step.Step.{Step}
use Rattle.ch_model.specs.HostState.{HostState}
use Rattle.ch_model.specs.HostSteps.{link_with}
use Rattle.ch_model.specs.Links.{dials_to, dials_once}
use Rattle.ch_model.specs.World.{names_of, world_new}
use Rattle.ch_model.specs.WorldHappenings.{with_cell}
use Rattle.ch_model.specs.WorldSockets.{opened}
use Rattle.ch_model.specs.WorldState.{Cell, WorldEnd, World}
use Rattle.ch_model.specs.WorldSteps.{note_entry, place_after}
use Rattle.ch_laws_log.proofs.Blocks.{each_append}
use Rattle.ch_laws_many.proofs.Reached.{IsJournal}
use Rattle.ch_laws_bytes.specs.Streams.{AreAddresses}
use Rattle.ch_laws_bytes.proofs.Told.{end_names}
use Rattle.ch_laws_links.specs.Naming.{IsNaming}
use Rattle.ch_laws_links.proofs.Worlds.{end_cells}
use Rattle.ch_race.specs.Pair.{other}
use Rattle.ch_laws_race.specs.Scene.{host_in, hosts_of}
use Rattle.ch_laws_race.proofs.Sockets.{set_same}
use Rattle.ch_laws_race.proofs.Views.{at_place, hosts_set}
use Rattle.ch_laws_calls.specs.Calls.{KeepsCalls, with_host, done_at, joined_in, come_in, fed_in}
use Rattle.ch_laws_live.specs.Turns.{starts_last, start_last}
use Rattle.ch_laws_live.proofs.Entries.{starts_told}
use Rattle.ch_laws_live.proofs.Steps.{next_starts, on_starts_last, connect_starts_last, send_starts_last, close_starts_last}
use Rattle.ch_laws_raced.proofs.UnbrokenItems.{calm_next}
use Rattle.ch_laws_raced.proofs.UnbrokenOvers.{calm_over}
use Rattle.ch_laws_raced.proofs.UnbrokenSteps.{calm_connect, calm_send, calm_close, calm_joined, calm_came, calm_fed}
use Rattle.ch_laws_raced.specs.OnceBegun.{is_idle, GoesOn}
use Rattle.ch_laws_raced.specs.OnceOnce.{Unbroken, DialsOnce}
use Rattle.ch_laws_raced.proofs.OnceBegun.{begun_same, once_plain, call_once}
use Rattle.ch_laws_raced.proofs.OnceCalls.{on_goes, next_goes, connect_goes, send_goes, close_goes}
use Rattle.ch_laws_raced.proofs.OnceTold.{note_dials}

-- nothing was dialed
pub none_dialed : (journal : List Line) → DialsOnce journal [] (world_new journal)
none_dialed journal = record { begun = λ party pair x d. absurd cc; once = refl }

-- ---- hosts by place

of_cells : (before after : World) → after.cells ≡ before.cells → hosts_of after ≡ hosts_of before
of_cells before after same = ap (λ (cells : List (Cell × ℕ)). λ (p : ℕ). host_in (slice_get cells p)) same

-- a cell whose host is the same
same_host : (world : World) (place : ℕ) (cell now : Cell × ℕ) → slice_get world.cells place ≡ Some cell → now.0.host ≡ cell.0.host → hosts_of (with_cell place now world) ≡ hosts_of world
same_host world place cell now there same = hosts_set world place cell now.0 now.1 there ∙ ap (λ (h : HostState). at_place place h (hosts_of world)) same ∙ sym (hosts_set world place cell cell.0 cell.1 there) ∙ of_cells world (with_cell place cell world) (set_same world.cells place cell there)

at_same : (before after : World) (place : ℕ) (cell : Cell × ℕ) → after.cells ≡ before.cells → slice_get before.cells place ≡ Some cell → slice_get after.cells place ≡ Some cell
at_same before after place cell same there = ap (λ (cells : List (Cell × ℕ)). slice_get cells place) same ∙ there

-- ---- what is kept

module _ (journal : List Line) (j : IsJournal journal) (addresses : AreAddresses (names_of journal)) where
  -- an entry that is no dial, with the same hosts
  plain_once : (log : List Entry) (x : Entry) (world after : World) → ((a b : List ℕ) → dials_to a b x ≡ false) → hosts_of after ≡ hosts_of world → DialsOnce journal log world → DialsOnce journal (log ++ x ∷ []) after
  plain_once log x world after none hosts o = record {
    begun = begun_same journal log (x ∷ []) world after (λ a b. ap (λ t. t || false) (none a b)) hosts o.begun;
    once = each_append dials_once [] log (x ∷ []) o.once (ap (λ t. t && true) (once_plain log x none));
  }

  naming : (log : List Entry) (world : World) (place : ℕ) (cell : Cell × ℕ) → Unbroken journal log world → slice_get world.cells place ≡ Some cell → IsNaming cell.0.host
  naming log world place cell u at = (u.0.sound.links.naming place cell at).naming

  -- a call of a host
  call : (log : List Entry) (world : World) (place : ℕ) (cell : Cell × ℕ) (told : List Step) (host : HostState) → slice_get world.cells place ≡ Some cell → GoesOn cell.0.host told host → starts_last told ≡ true → Unbroken journal log world → DialsOnce journal log world
      → let done = done_at place cell told host world in Unbroken journal (log ++ done.0) done.1 → DialsOnce journal (log ++ done.0) done.1
  call log world place cell told host at goes last u o q = call_once journal j addresses log world u.0 o.begun place cell at [] (λ x y. refl) world cell.1 at refl refl told host goes q.0.sound.ends.homes o.once
      (starts_told place (with_host cell host) told (with_cell place (with_host cell host, cell.1) world) last) q.0.peers q.1

  -- one after an entry of its own, which has changed a socket
  after_one : (log : List Entry) (x : Entry) (world start : World) (place : ℕ) (cell : Cell × ℕ) (count : ℕ) (told : List Step) (host : HostState) → ((a b : List ℕ) → dials_to a b x ≡ false) → ((rest : List Entry) → start_last rest ≡ true → start_last (x ∷ rest) ≡ true)
      → slice_get world.cells place ≡ Some cell → slice_get start.cells place ≡ Some (cell.0, count) → start.names ≡ world.names → hosts_of start ≡ hosts_of world → GoesOn cell.0.host told host → starts_last told ≡ true → Unbroken journal log world → DialsOnce journal log world
      → let done = done_at place (cell.0, count) told host start in Unbroken journal (log ++ x ∷ done.0) done.1 → DialsOnce journal (log ++ x ∷ done.0) done.1
  after_one log x world start place cell count told host plain starts there at named hosts goes last u o q = call_once journal j addresses log world u.0 o.begun place cell there (x ∷ []) (λ a b. ap (λ t. t || false) (plain a b)) start count at named hosts told host goes q.0.sound.ends.homes o.once
      (starts done.0 (starts_told place (with_host cell host) told (with_cell place (with_host cell host, count) start) last)) q.0.peers q.1 where
        done : List Entry × World
        done = done_at place (cell.0, count) told host start

  pub once_kept : KeepsCalls journal (Unbroken journal) (Unbroken journal) (DialsOnce journal)
  once_kept = record {
    marked = λ log world number answer u o q. plain_once log (entries.Line number answer) world world (λ a b. refl) refl o;
    noted = λ log world note u o q. plain_once log (note_entry world.names world.last note) world (record world { last = place_after world.last note }) (note_dials world.names world.last note) refl o;
    seated = λ log world place cell nodes at seats u o q. record {
      begun = λ party pair x d. ap (λ (h : ℕ → HostState). is_idle (link_with (h (party x).place) (party x).address.id (party (other x)).address).state) (same_host world place cell (record (cell.0) { nodes = nodes }, cell.1) at refl) ∙ o.begun party pair x d;
      once = o.once;
    };
    connected = λ log world place cell end peer conn told host at does u o q. call log world place cell told host at (connect_goes cell.0.host host end peer conn told does (calm_connect cell.0.host host end peer conn told does)) (connect_starts_last cell.0.host host end peer conn told does) u o q;
    sent = λ log world place cell end conn payload weight told host at does u o q. call log world place cell told host at (send_goes cell.0.host host end conn payload weight told (naming log world place cell u at) does (calm_send cell.0.host host end conn payload weight told does)) (send_starts_last cell.0.host host end conn payload weight told does) u o q;
    closed = λ log world place cell end conn told host at does u o q. call log world place cell told host at (close_goes cell.0.host host end conn told (naming log world place cell u at) does (calm_close cell.0.host host end conn told does)) (close_starts_last cell.0.host host end conn told does) u o q;
    joined = λ log world socket place n cell told host is can held called read u o q.
        let same : (joined_in socket world).cells ≡ world.cells = end_cells socket.name O opened world in
        after_one log (entries.Joined socket.name) world (joined_in socket world) place cell cell.1 told host (λ a b. refl) (λ rest l. l) called.at (at_same world (joined_in socket world) place cell same called.at) (end_names socket.name O opened world) (of_cells world (joined_in socket world) same)
        (on_goes cell.0.host host (sockets.Joined n) told called.does (calm_joined cell.0.host host n told called.does)) (on_starts_last cell.0.host host (sockets.Joined n) told called.does) u o q;
    came = λ log world socket place cell told host is can to called read u o q.
        let opening : WorldEnd → WorldEnd = λ end. record (opened end) { number = Some (2 * cell.1 + 1) } in
        let one : World = with_cell place (cell.0, cell.1 + 1) world in
        let same : (come_in place cell socket world).cells ≡ one.cells = end_cells socket.name T opening one in
        after_one log (entries.Came socket.name) world (come_in place cell socket world) place cell (cell.1 + 1) told host (λ a b. refl) (λ rest l. l) called.at
        (at_same one (come_in place cell socket world) place (cell.0, cell.1 + 1) same (set_here world.cells place (cell.0, cell.1 + 1) (slice_get_within world.cells place cell called.at))) (end_names socket.name T opening one)
        (of_cells one (come_in place cell socket world) same ∙ same_host world place cell (cell.0, cell.1 + 1) called.at refl)
        (on_goes cell.0.host host (sockets.Came (2 * cell.1 + 1) socket.from_host) told called.does (calm_came cell.0.host host (2 * cell.1 + 1) socket.from_host told called.does)) (on_starts_last cell.0.host host (sockets.Came (2 * cell.1 + 1) socket.from_host) told called.does) u o q;
    fed = λ log world socket which count first bytes place n cell told host is can some held called read u o q.
        let taking : WorldEnd → WorldEnd = λ end. record end { unread = drop count end.unread } in
        let same : (fed_in which count socket world).cells ≡ world.cells = end_cells socket.name which taking world in
        after_one log (entries.Fed socket.name which (length (first ∷ bytes))) world (fed_in which count socket world) place cell cell.1 told host (λ a b. refl) (λ rest l. l) called.at (at_same world (fed_in which count socket world) place cell same called.at) (end_names socket.name which taking world) (of_cells world (fed_in which count socket world) same)
        (on_goes cell.0.host host (sockets.Fed n (first ∷ bytes)) told called.does (calm_fed cell.0.host host n (first ∷ bytes) told called.does)) (on_starts_last cell.0.host host (sockets.Fed n (first ∷ bytes)) told called.does) u o q;
    ended = λ log world socket which place n cell told host is can none held called read u o q.
        after_one log (entries.Fed socket.name which 0) world world place cell cell.1 told host (λ a b. refl) (λ rest l. l) called.at called.at refl refl
        (on_goes cell.0.host host (sockets.Ended n) told called.does (calm_over journal j addresses log world u.0 socket which place n cell told host is can none held called read)) (on_starts_last cell.0.host host (sockets.Ended n) told called.does) u o q;
    item = λ log world place cell told host at does u o q. call log world place cell told host at (next_goes cell.0.host host told does (calm_next journal j addresses log world u.0 place cell told host at does)) (next_starts cell.0.host host told does) u o q;
  }
