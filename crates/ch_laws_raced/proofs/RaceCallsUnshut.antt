-- The endpoints of the nodes of a journal are opened, and none is ever closed.
use Rattle.std.specs.Prelude.{◌≡◌, ℕ, zero, suc, ◌+◌, ◌*◌, Bool, true, false, cond, not, nat_eq, List, [], ◌∷◌, drop, find, get_or, slice_get, Option, Some, None}
use Rattle.std.specs.Option.{option_map}
use Rattle.std.proofs.Common.{refl, ap, sym, ◌∙◌, subst}
use Rattle.std.proofs.lemmas.List.Quantifiers.{position-Some}
use Rattle.std.proofs.lemmas.Option.{slice_get_within, slice_get-get_or}
use Rattle.ch_base.specs.declared.address.Address.{Address}
use Rattle.ch_light.proofs.Lists.{set_here}
use Rattle.ch_model.specs.declared.line.Line.{Line}
use Rattle.ch_model.specs.declared.name.End.{End}
use Rattle.ch_model.specs.declared.name.End.TheVariants.{O, T}
use Rattle.ch_model.specs.declared.name.SockName.{SockName}
use Rattle.ch_model.specs.declared.step.SocketEvent.TheVariants as sockets
use Rattle.ch_model.specs.declared.step.Step.{Step}
use Rattle.ch_model.specs.CellSteps.{is_at, told_steps}
use Rattle.ch_model.specs.HostState.{HostState}
use Rattle.ch_model.specs.NodeState.{NodeState}
use Rattle.ch_model.specs.World.{cell_at, world_new}
use Rattle.ch_model.specs.WorldHappenings.{with_cell}
use Rattle.ch_model.specs.WorldSockets.{is_host_of, cell_of, is_socket_named, opened, with_end, end_of, with_socket, with_end_of}
use Rattle.ch_model.specs.WorldState.{Cell, Named, WorldEnd, WorldSocket, World}
use Rattle.ch_race.specs.Pair.{Side}
use Rattle.ch_laws_connections.specs.Fits.{FitsAs, CellHolds, AllCells}
use Rattle.ch_laws_connections.specs.Senders.{Sender, sender_of}
use Rattle.ch_laws_connections.specs.Tables.{is_standing}
use Rattle.ch_laws_connections.proofs.NewCells.{new_cells}
use Rattle.ch_laws_many.proofs.Awake.{fresh_awake}
use Rattle.ch_laws_many.proofs.Reached.{IsJournal, named}
use Rattle.ch_laws_race.specs.Scene.{Party, host_in, hosts_of}
use Rattle.ch_laws_race.specs.View.{is_shut}
use Rattle.ch_laws_race.proofs.Same.{all_cells}
use Rattle.ch_laws_race.proofs.Sockets.{by_test, set_same, same_place}
use Rattle.ch_laws_race.proofs.Views.{at_place, hosts_set}
use Rattle.ch_laws_calls.specs.Calls.{Anything, with_host, done_at, joined_in, come_in, fed_in, KeepsCalls}
use Rattle.ch_laws_calls.specs.Scenes.{IsPairOf}
use Rattle.ch_laws_raced.specs.RaceCallsUnshut.{IsUnshut, AllUnshut}
use Rattle.ch_laws_raced.proofs.RaceCallsStanding.{Stand, connected, sent, closed, heard, read}

-- ---- hosts by place

of_cells : (before after : World) → after.cells ≡ before.cells → hosts_of after ≡ hosts_of before
of_cells before after same = ap (λ (cells : List (Cell × ℕ)). λ (p : ℕ). host_in (slice_get cells p)) same

-- a cell whose host is the same
same_host : (world : World) (place : ℕ) (cell now : Cell × ℕ) → slice_get world.cells place ≡ Some cell → now.0.host ≡ cell.0.host → hosts_of (with_cell place now world) ≡ hosts_of world
same_host world place cell now there same = hosts_set world place cell now.0 now.1 there ∙ ap (λ (h : HostState). at_place place h (hosts_of world)) same ∙ sym (hosts_set world place cell cell.0 cell.1 there) ∙ of_cells world (with_cell place cell world) (set_same world.cells place cell there)

-- an end that is changed changes no cell
end_cells : (name : SockName) (e : End) (f : WorldEnd → WorldEnd) (world : World) → (with_end_of name e f world).cells ≡ world.cells
end_cells name e f world = by_found (find (is_socket_named name) world.sockets) where
  by_found : (o : Option WorldSocket) → (elim o as (λ o. World) [ None ↦ world | Some socket ↦ with_socket (with_end e (f (end_of e socket)) socket) world ]).cells ≡ world.cells
  by_found None = refl
  by_found (Some socket) = refl

-- ---- what is kept

module _ (journal : List Line) where
  -- the log says nothing of it
  abbrev Unshut : World → Type 0
  Unshut world = (party : Side → Party) → IsPairOf journal party → IsUnshut party world

  -- the same hosts
  unshut_same : (before after : World) → hosts_of after ≡ hosts_of before → Unshut before → Unshut after
  unshut_same before after same u party pair x = ap (λ (hosts : ℕ → HostState). is_shut (party x).address.id (hosts (party x).place)) same ∙ u party pair x

  -- a host that leaves its endpoints open
  unshut_done : (world : World) (place : ℕ) (cell : Cell × ℕ) (steps : List Step) (host : HostState) → slice_get world.cells place ≡ Some cell → Stand cell.0.host host → Unshut world → Unshut (done_at place cell steps host world).1
  unshut_done world place cell steps host there stand u party pair x =
      ap (λ (hosts : ℕ → HostState). is_shut Id (hosts (party x).place)) hosts_now ∙ by_test (nat_eq (party x).place place)
      (λ h. ap (λ b. is_shut Id (cond b host (hosts_of world (party x).place))) h ∙ ap not (stand Id) ∙ ap (is_shut Id) (sym (ap host_in there)) ∙ ap (λ (p : ℕ). is_shut Id (hosts_of world p)) (same_place place (party x).place h))
      (λ h. ap (λ b. is_shut Id (cond b host (hosts_of world (party x).place))) h)
      ∙ u party pair x where
        Id : ℕ
        Id = (party x).address.id

        kept : World
        kept = with_cell place (with_host cell host, cell.1) world

        hosts_now : hosts_of (done_at place cell steps host world).1 ≡ at_place place host (hosts_of world)
        hosts_now = of_cells kept (done_at place cell steps host world).1 (all_cells place (with_host cell host) (told_steps steps) kept) ∙ hosts_set world place cell (with_host cell host) cell.1 there

  -- a cell that has accepted one more
  came_cells : (world : World) (place : ℕ) (cell : Cell × ℕ) (socket : WorldSocket) → (come_in place cell socket world).cells ≡ (with_cell place (cell.0, cell.1 + 1) world).cells
  came_cells world place cell socket = end_cells socket.name T (λ (end : WorldEnd). record (opened end) { number = Some (2 * cell.1 + 1) }) (with_cell place (cell.0, cell.1 + 1) world)

  come_hosts : (world : World) (place : ℕ) (cell : Cell × ℕ) (socket : WorldSocket) → slice_get world.cells place ≡ Some cell → hosts_of (come_in place cell socket world) ≡ hosts_of world
  come_hosts world place cell socket there = of_cells (with_cell place (cell.0, cell.1 + 1) world) (come_in place cell socket world) (came_cells world place cell socket) ∙ same_host world place cell (cell.0, cell.1 + 1) there refl

  come_there : (world : World) (place : ℕ) (cell : Cell × ℕ) (socket : WorldSocket) → slice_get world.cells place ≡ Some cell → slice_get (come_in place cell socket world).cells place ≡ Some (cell.0, cell.1 + 1)
  come_there world place cell socket there = ap (λ (cells : List (Cell × ℕ)). slice_get cells place) (came_cells world place cell socket) ∙ set_here world.cells place (cell.0, cell.1 + 1) (slice_get_within world.cells place cell there)

  at_same : (before after : World) (place : ℕ) (cell : Cell × ℕ) → after.cells ≡ before.cells → slice_get before.cells place ≡ Some cell → slice_get after.cells place ≡ Some cell
  at_same before after place cell same there = ap (λ (cells : List (Cell × ℕ)). slice_get cells place) same ∙ there

  pub unshut_kept : KeepsCalls journal Anything Anything (AllUnshut journal)
  unshut_kept = record {
    marked = λ log world number answer p u q. u;
    noted = λ log world note p u q. u;
    seated = λ log world place cell nodes there seats p u q. unshut_same world (with_cell place (record (cell.0) { nodes = nodes }, cell.1) world) (same_host world place cell (record (cell.0) { nodes = nodes }, cell.1) there refl) u;
    connected = λ log world place cell end peer conn steps host there does p u q. unshut_done world place cell steps host there (connected cell.0.host host end peer conn steps does) u;
    sent = λ log world place cell end conn payload weight steps host there does p u q. unshut_done world place cell steps host there (sent cell.0.host host end conn payload weight steps does) u;
    closed = λ log world place cell end conn steps host there does p u q. unshut_done world place cell steps host there (closed cell.0.host host end conn steps does) u;
    joined = λ log world socket place n cell steps host is_in can held called read p u q. let same = end_cells socket.name O opened world in
        unshut_done (joined_in socket world) place cell steps host (at_same world (joined_in socket world) place cell same called.at) (heard cell.0.host host (sockets.Joined n) steps called.does)
        (unshut_same world (joined_in socket world) (of_cells world (joined_in socket world) same) u);
    came = λ log world socket place cell steps host is_in can held called read p u q.
        unshut_done (come_in place cell socket world) place (cell.0, cell.1 + 1) steps host (come_there world place cell socket called.at) (heard cell.0.host host (sockets.Came (2 * cell.1 + 1) socket.from_host) steps called.does)
        (unshut_same world (come_in place cell socket world) (come_hosts world place cell socket called.at) u);
    fed = λ log world socket which count b bytes place n cell steps host is_in can taken held called read p u q. let same = end_cells socket.name which (λ (end : WorldEnd). record end { unread = drop count end.unread }) world in
        unshut_done (fed_in which count socket world) place cell steps host (at_same world (fed_in which count socket world) place cell same called.at) (heard cell.0.host host (sockets.Fed n (b ∷ bytes)) steps called.does)
        (unshut_same world (fed_in which count socket world) (of_cells world (fed_in which count socket world) same) u);
    ended = λ log world socket which place n cell steps host is_in can none held called read p u q. unshut_done world place cell steps host called.at (heard cell.0.host host (sockets.Ended n) steps called.does) u;
    item = λ log world place cell steps host there does p u q. unshut_done world place cell steps host there (read cell.0.host host steps does) u;
  }

-- ---- where nothing has happened

one_cell : (P : Cell → Type 0) (cells : List (Cell × ℕ)) (place : ℕ) (cell : Cell × ℕ) → AllCells P cells → slice_get cells place ≡ Some cell → P cell.0
one_cell P [] place cell all e = absurd cc
one_cell P (known ∷ rest) zero cell all e = let is : known ≡ cell = cc in subst (λ (c : Cell × ℕ). P c.0) is all.0
one_cell P (known ∷ rest) (suc place) cell all e = one_cell P rest place cell all.1 e

-- the endpoint of a node that isn't shut stands
stands_as : (b : Bool) (host : HostState) (end : ℕ) (s : Sender) → FitsAs b host end [] s → b ≡ false → is_standing host end ≡ true
stands_as true host end s f h = absurd cc
stands_as false host end s f h = f.1.standing

awake_stands : (cell : Cell) (end : ℕ) → CellHolds cell → option_map (λ (node : ℕ × NodeState). node.1.is_shut) (find (is_at end) cell.nodes) ≡ Some false → is_standing cell.host end ≡ true
awake_stands cell end holds awake = by_found (find (is_at end) cell.nodes) refl awake where
  by_found : (o : Option (ℕ × NodeState)) → find (is_at end) cell.nodes ≡ o → option_map (λ (node : ℕ × NodeState). node.1.is_shut) o ≡ Some false → is_standing cell.host end ≡ true
  by_found None found h = absurd cc
  by_found (Some there) found h = let awake : there.1.is_shut ≡ false = cc in stands_as there.1.is_shut cell.host end (sender_of there.1) (holds.1.nodes end there found).1 awake

pub fresh_unshut : (journal : List Line) → IsJournal journal → AllUnshut journal [] (world_new journal)
fresh_unshut journal is party pair x = ap (λ (o : Option (Cell × ℕ)). is_shut (party x).address.id (host_in o)) there ∙ ap not (ap (λ (a : Address). is_standing cell.0.host a.id) (sym at)
    ∙ awake_stands cell.0 d.address.id (one_cell CellHolds cells (party x).place cell (new_cells journal) there) (fresh_awake journal (named journal is) (party x).name d (party x).place (pair.named x).1 placed cell there)) where
      d : Named
      d = (pair.named x).0

      at : d.address ≡ (party x).address
      at = (pair.named x).3

      placed : cell_of (world_new journal) d.address ≡ Some (party x).place
      placed = ap (cell_of (world_new journal)) at ∙ pair.placed x

      cells : List (Cell × ℕ)
      cells = (world_new journal).cells

      cell : Cell × ℕ
      cell = get_or cells (party x).place (cell_at journal d.address, 0)

      there : slice_get cells (party x).place ≡ Some cell
      there = slice_get-get_or cells (party x).place (cell_at journal d.address, 0) (position-Some (is_host_of d.address) cells (party x).place (cell_at journal d.address, 0) placed).0
