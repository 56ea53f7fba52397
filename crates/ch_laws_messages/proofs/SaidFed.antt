-- An end has come, or is handed bytes: nothing is written, and nothing said.
use Rattle.std.proofs.Common.{◌≡◌, ◌≤◌, ℕ, ◌+◌, ◌*◌, Bool, true, false, cond, List, [], ◌∷◌, ◌++◌, length, Ok, Err, refl, sym, ap, ◌∙◌, subst, arith}
use Rattle.std.proofs.lemmas.Bool.{and_parts}
use Rattle.std.specs.Option.{option_map}
use Rattle.std.specs.Prelude.{drop, find, slice_get, slice_set, Option, Some, None, ◌==◌}
use Rattle.ch_base.specs.declared.address.Address.{Address}
use Rattle.ch_light.specs.Ids.{id_of}
use Rattle.ch_model.specs.declared.entry.Entry.{Entry}
use Rattle.ch_model.specs.declared.entry.Entry.TheVariants as entries
use Rattle.ch_model.specs.declared.line.Line.{Line}
use Rattle.ch_model.specs.declared.name.End.{End}
use Rattle.ch_model.specs.declared.name.End.TheVariants.{T}
use Rattle.ch_model.specs.declared.name.SockName.{SockName}
use Rattle.ch_model.specs.declared.step.SocketEvent.TheVariants as sockets
use Rattle.ch_model.specs.declared.step.Step.{Step}
use Rattle.ch_model.specs.Host.{keeps, host_on}
use Rattle.ch_model.specs.HostState.{Link, Socket, HostState}
use Rattle.ch_model.specs.HostSteps.{Stepped, still, is_socket, is_link, link_or_new, link_with}
use Rattle.ch_model.specs.Stages.{Stage, Pending, Open, Ended, is_pending, is_open}
use Rattle.ch_model.specs.WorldHappenings.{with_cell}
use Rattle.ch_model.specs.WorldLines.{can_come}
use Rattle.ch_model.specs.WorldSockets.{find_end, opened}
use Rattle.ch_model.specs.WorldState.{Cell, WorldSocket, World}
use Rattle.ch_race.specs.Pair.{other}
use Rattle.ch_laws_bytes.proofs.Event.{set_at}
use Rattle.ch_laws_bytes.proofs.Told.{end_names}
use Rattle.ch_laws_calls.specs.Calls.{with_host, done_at, IsCalled, IsIn, come_in, fed_in}
use Rattle.ch_laws_calls.specs.Scenes.{scene_of}
use Rattle.ch_laws_ends.proofs.Came.{MayCome, is_new, come_found}
use Rattle.ch_laws_ends.proofs.Changes.{cells_stay}
use Rattle.ch_laws_ends.proofs.Found.{none_found}
use Rattle.ch_laws_ends.proofs.Known.{TargetIs}
use Rattle.ch_laws_ends.proofs.Places.{set_twice}
use Rattle.ch_laws_links.proofs.Found.{found_kept}
use Rattle.ch_laws_log.proofs.Agreeing.{with_end_is}
use Rattle.ch_laws_race.specs.Scene.{host_in, link_of}
use Rattle.ch_laws_writes.proofs.Worlds.{number_is}
use Rattle.ch_laws_peers.specs.Says.{node_in, Says, AllSay}
use Rattle.ch_laws_peers.specs.Standing.{Standing}
use Rattle.ch_laws_messages.proofs.SaidQuiet.{stays}
use Rattle.ch_laws_messages.proofs.SaidStill.{AllStill, still_said, still_towards, still_frames, still_streams, up_waits, node_same}

-- links, nodes and names are as they were, and what is found is found still
pub record Rests (world after : World) : Type 0 where
  pub names : after.names ≡ world.names
  pub hosts : (p end : ℕ) (peer : Address) → link_with (host_in (slice_get after.cells p)) end peer ≡ link_with (host_in (slice_get world.cells p)) end peer
  pub nodes : (p end : ℕ) → node_in (slice_get after.cells p) end ≡ node_in (slice_get world.cells p) end
  pub found : (p n : ℕ) (at : SockName × End) → find_end p n world.sockets ≡ Some at → find_end p n after.sockets ≡ Some at

-- entries are told that write and say nothing
pub rests_say : (journal : List Line) (log : List Entry) (world : World) (told : List Entry) (after : World) → Standing journal log world → AllSay journal log world → AllStill told → Rests world after → AllSay journal (log ++ told) after
rests_say journal log world told after st say still r party pair x = stays journal log world party x (log ++ told) after s (record {
  named = r.names;
  said = still_said (party x).name (party (other x)).name log told still;
  new = [];
  silent = refl;
  streams = still_streams party x log world (log ++ told) after (record { one = s.one; down = s.down }) (up_waits journal log world party x pair st) link_same (still_towards (party x).name (party (other x)).name log told still) (λ t e. still_frames log told t e still) (λ n at found. r.found (party x).place n at found);
  nodes = λ now there. node_same journal log party x world after now s (sym (r.nodes (party x).place (party x).address.id) ∙ there) (λ conn id given. ap (λ (l : Link). id_of l.given conn) link_same ∙ given);
}) where
  s : Says journal log world party x
  s = say party pair x

  link_same : link_of (scene_of party after) x ≡ link_of (scene_of party world) x
  link_same = r.hosts (party x).place (party x).address.id (party (other x)).address

-- ---- bytes are handed to an end

-- nothing is told, and links are as they were
abbrev IsQuiet : HostState → List Step → HostState → Type 0
IsQuiet host told after = (told ≡ []) × (after.links ≡ host.links)

abbrev AllQuiet : HostState → Stepped → Type 0
AllQuiet host (Ok done) = IsQuiet host done.0 done.1
AllQuiet host (Err stop) = Unit {0}

fed_quiet : (host : HostState) (sock : ℕ) (bytes : List ℕ) → AllQuiet host (host_on host (sockets.Fed sock bytes))
unfolding host_on
fed_quiet host sock bytes = by_socket (find (is_socket sock) host.sockets) where
  by_test : (socket : Socket) (b : Bool) → AllQuiet host (cond b (keeps bytes socket host) (still host))
  by_test socket true = (refl, refl)
  by_test socket false = (refl, refl)

  by_socket : (o : Option Socket) → AllQuiet host (elim o as (λ x. Stepped) [
    | None ↦ still host
    | Some socket ↦ cond (is_open socket.stage) (keeps bytes socket host) (still host)
  ])
  by_socket None = (refl, refl)
  by_socket (Some socket) = by_test socket (is_open socket.stage)

-- a cell whose host has the same links, and the same nodes
pub cells_rest : (cells : List (Cell × ℕ)) (place : ℕ) (cell : Cell × ℕ) (host : HostState) (count p : ℕ) → slice_get cells place ≡ Some cell → host.links ≡ cell.0.host.links
    → ((end : ℕ) (peer : Address) → link_with (host_in (slice_get (slice_set cells place (with_host cell host, count)) p)) end peer ≡ link_with (host_in (slice_get cells p)) end peer) × ((end : ℕ) → node_in (slice_get (slice_set cells place (with_host cell host, count)) p) end ≡ node_in (slice_get cells p) end)
cells_rest cells place cell host count p at same = (λ end peer. ap (λ (o : Option (Cell × ℕ)). link_with (host_in o) end peer) (set_at cells place cell (with_host cell host, count) p at) ∙ by_link end peer (place == p) refl, λ end. ap (λ (o : Option (Cell × ℕ)). node_in o end) (set_at cells place cell (with_host cell host, count) p at) ∙ by_node end (place == p) refl) where
  here : (place == p) ≡ true → slice_get cells p ≡ Some cell
  here h = ap (slice_get cells) (sym (number_is place p h)) ∙ at

  by_link : (end : ℕ) (peer : Address) (b : Bool) → (place == p) ≡ b → link_with (host_in (cond b (Some (with_host cell host, count)) (slice_get cells p))) end peer ≡ link_with (host_in (slice_get cells p)) end peer
  by_link end peer true h = ap (λ (l : List Link). link_or_new end peer (find (is_link end peer) l)) same ∙ ap (λ (o : Option (Cell × ℕ)). link_with (host_in o) end peer) (sym (here h))
  by_link end peer false h = refl

  by_node : (end : ℕ) (b : Bool) → (place == p) ≡ b → node_in (cond b (Some (with_host cell host, count)) (slice_get cells p)) end ≡ node_in (slice_get cells p) end
  by_node end true h = ap (λ (o : Option (Cell × ℕ)). node_in o end) (sym (here h))
  by_node end false h = refl

-- the turn of field fed
pub fed_say : (journal : List Line) (log : List Entry) (world : World) (socket : WorldSocket) (which : End) (count b : ℕ) (bytes : List ℕ) (place n : ℕ) (cell : Cell × ℕ) (steps : List Step) (host : HostState) → IsIn socket world → IsCalled world place cell (sockets.Fed n (b ∷ bytes)) steps host → Standing journal log world → AllSay journal log world
    → let done = done_at place cell steps host (fed_in which count socket world) in AllSay journal (log ++ entries.Fed socket.name which (length (b ∷ bytes)) ∷ done.0) done.1
fed_say journal log world socket which count b bytes place n cell steps host is c st say = subst (λ (l : List Step). let done = done_at place cell l host (fed_in which count socket world) in AllSay journal (log ++ entries.Fed socket.name which (length (b ∷ bytes)) ∷ done.0) done.1) (sym quiet.0)
    (rests_say journal log world (entries.Fed socket.name which (length (b ∷ bytes)) ∷ []) (with_cell place (with_host cell host, cell.1) (fed_in which count socket world)) st say (record { silent = λ s e. refl; unsaid = λ x y. refl }, tt) (record {
      names = end_names socket.name which (λ end. record end { unread = drop count end.unread }) world;
      hosts = λ p end peer. ap (λ (l : List (Cell × ℕ)). link_with (host_in (slice_get (slice_set l place (with_host cell host, cell.1)) p)) end peer) cells ∙ (cells_rest world.cells place cell host cell.1 p c.at quiet.1).0 end peer;
      nodes = λ p end. ap (λ (l : List (Cell × ℕ)). node_in (slice_get (slice_set l place (with_host cell host, cell.1)) p) end) cells ∙ (cells_rest world.cells place cell host cell.1 p c.at quiet.1).1 end;
      found = λ p m at found. found_kept p m socket.name which (λ end. record end { unread = drop count end.unread }) world socket is (λ end. (refl, refl, λ e. e)) ∙ found;
    }))
  where
    cells : (fed_in which count socket world).cells ≡ world.cells
    cells = cells_stay socket.name which (λ end. record end { unread = drop count end.unread }) world

    quiet : IsQuiet cell.0.host steps host
    quiet = subst (AllQuiet cell.0.host) c.does (fed_quiet cell.0.host n (b ∷ bytes))

-- ---- a target's end has come

came_quiet : (host : HostState) (sock : ℕ) (peer_host : List ℕ) → AllQuiet host (host_on host (sockets.Came sock peer_host))
unfolding host_on
came_quiet host sock peer_host = (refl, refl)

-- the turn of field came
pub came_say : (journal : List Line) (log : List Entry) (world : World) (socket : WorldSocket) (place : ℕ) (cell : Cell × ℕ) (steps : List Step) (host : HostState) → IsIn socket world → can_come socket ≡ true → socket.t.cell ≡ Some place → IsCalled world place cell (sockets.Came (2 * cell.1 + 1) socket.from_host) steps host → Standing journal log world → AllSay journal log world
    → let done = done_at place (cell.0, cell.1 + 1) steps host (come_in place cell socket world) in AllSay journal (log ++ entries.Came socket.name ∷ done.0) done.1
came_say journal log world socket place cell steps host is can at_cell c st say = subst (λ (l : List Step). let done = done_at place (cell.0, cell.1 + 1) l host (come_in place cell socket world) in AllSay journal (log ++ entries.Came socket.name ∷ done.0) done.1) (sym quiet.0)
    (rests_say journal log world (entries.Came socket.name ∷ []) (with_cell place (with_host cell host, cell.1 + 1) (come_in place cell socket world)) st say (record { silent = λ s e. refl; unsaid = λ x y. refl }, tt) (record {
      names = end_names socket.name T (λ end. record (opened end) { number = Some (2 * cell.1 + 1) }) (with_cell place (cell.0, cell.1 + 1) world);
      hosts = λ p end peer. ap (λ (l : List (Cell × ℕ)). link_with (host_in (slice_get l p)) end peer) cells ∙ (cells_rest world.cells place cell host (cell.1 + 1) p c.at quiet.1).0 end peer;
      nodes = λ p end. ap (λ (l : List (Cell × ℕ)). node_in (slice_get l p) end) cells ∙ (cells_rest world.cells place cell host (cell.1 + 1) p c.at quiet.1).1 end;
      found = λ p m at found. ap (λ (w : World). find_end p m w.sockets) (with_end_is socket.name T (λ end. record (opened end) { number = Some (2 * cell.1 + 1) }) (with_cell place (cell.0, cell.1 + 1) world) socket is) ∙ come_found place (2 * cell.1 + 1) socket world.sockets may p m ∙ by_new p m at found (is_new place (2 * cell.1 + 1) p m) refl;
    }))
  where
    cells : slice_set (come_in place cell socket world).cells place (with_host cell host, cell.1 + 1) ≡ slice_set world.cells place (with_host cell host, cell.1 + 1)
    cells = ap (λ (l : List (Cell × ℕ)). slice_set l place (with_host cell host, cell.1 + 1)) (cells_stay socket.name T (λ end. record (opened end) { number = Some (2 * cell.1 + 1) }) (with_cell place (cell.0, cell.1 + 1) world)) ∙ set_twice world.cells place (cell.0, cell.1 + 1) (with_host cell host, cell.1 + 1)

    quiet : IsQuiet cell.0.host steps host
    quiet = subst (AllQuiet cell.0.host) c.does (came_quiet cell.0.host (2 * cell.1 + 1) socket.from_host)

    self : (n : ℕ) → n ≤ n
    self n = omega arith

    unnumbered : socket.t.number ≡ None
    unnumbered = by_stage socket.t.stage can (st.all.sound.ends.sure.ends.sorted.1 socket.name socket is).t where
      by_stage : (stage : Stage) → is_pending stage ≡ true → TargetIs stage socket.t.cell socket.t.number → socket.t.number ≡ None
      by_stage Pending e k = k.1
      by_stage Open e k = absurd cc
      by_stage Ended e k = absurd cc

    free : find_end place (2 * cell.1 + 1) world.sockets ≡ None
    free = none_found place (2 * cell.1 + 1) world.sockets (sym (st.all.sound.ends.sure.ends.agrees.ends place cell c.at (2 * cell.1 + 1)) ∙ ap (option_map (λ (w : Socket). w.stage)) ((st.all.sound.links.naming place cell c.at).free cell.1 (self cell.1)))

    may : MayCome place (2 * cell.1 + 1) socket world.sockets
    may = record { is = is; apart = st.all.sound.ends.sure.ends.sorted.0.apart; each = st.all.sound.ends.sure.ends.each; cell = at_cell; unnumbered = unnumbered; free = free }

    by_new : (p m : ℕ) (at : SockName × End) → find_end p m world.sockets ≡ Some at → (b : Bool) → is_new place (2 * cell.1 + 1) p m ≡ b → cond b (Some (socket.name, T)) (find_end p m world.sockets) ≡ Some at
    by_new p m at found false h = found
    by_new p m at found true h = let both = and_parts (place == p) ((2 * cell.1 + 1) == m) h in
        let none : find_end p m world.sockets ≡ None = ap (λ (k : ℕ). find_end k m world.sockets) (sym (number_is place p both.0)) ∙ ap (λ (k : ℕ). find_end place k world.sockets) (sym (number_is (2 * cell.1 + 1) m both.1)) ∙ free in
        let no : ◌≡◌ {A = Option (SockName × End)} None (Some at) = sym none ∙ found in absurd cc
