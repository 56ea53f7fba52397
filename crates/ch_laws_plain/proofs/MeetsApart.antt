-- The endpoints of each host have different numbers, whatever it is called to do.
use Rattle.std.proofs.Common.{◌≡◌, ℕ, ◌+◌, ◌*◌, List, ◌∷◌, Ok, refl, sym, subst}
use Rattle.std.specs.Prelude.{Some, Result}
use Rattle.ch_model.specs.declared.line.Line.{Line}
use Rattle.ch_model.specs.declared.step.SocketEvent.{SocketEvent}
use Rattle.ch_model.specs.declared.step.SocketEvent.TheVariants as sockets
use Rattle.ch_model.specs.declared.step.Step.{Step}
use Rattle.ch_model.specs.Host.{host_on, host_next}
use Rattle.ch_model.specs.HostCalls.{host_connect, host_send, host_close}
use Rattle.ch_model.specs.HostState.{HostState}
use Rattle.ch_model.specs.WorldHappenings.{with_cell}
use Rattle.ch_model.specs.WorldState.{Cell}
use Rattle.ch_laws_items.specs.Stays.{numbers_of}
use Rattle.ch_laws_items.proofs.Hosts as hosts
use Rattle.ch_laws_connections.specs.Fits.{AllDiffer}
use Rattle.ch_laws_calls.specs.Calls.{Claim, Anything, KeepsCalls, with_host, joined_in, come_in, fed_in}
use Rattle.ch_laws_calls.specs.Turns.{KeepsTurns}
use Rattle.ch_laws_calls.proofs.TurnsOfCalls.{by_calls}
use Rattle.ch_laws_plain.proofs.MeetsCells.{Each, each_set, each_called, joined_cells, come_cells, fed_cells}

abbrev pub IsApart : Cell → Type 0
IsApart cell = AllDiffer (numbers_of cell.host.ends)

-- so it is of each cell's host
abbrev pub AllApart : Claim
AllApart log world = Each IsApart world

-- a call of a host keeps its endpoints
still_apart : {S E : Type 0} (before after : HostState) (told : S) (done : Result (S × HostState) E) → hosts.Stays before done → done ≡ Ok (told, after) → AllDiffer (numbers_of before.ends) → AllDiffer (numbers_of after.ends)
still_apart before after told done stays does a = subst AllDiffer (sym (hosts.host_after before after told done stays does).ends) a

event_apart : (cell : Cell × ℕ) (event : SocketEvent) (steps : List Step) (host : HostState) → host_on cell.0.host event ≡ Ok (steps, host) → IsApart cell.0 → IsApart (with_host cell host)
event_apart cell event steps host does a = still_apart cell.0.host host steps (host_on cell.0.host event) (hosts.on_event cell.0.host event) does a

calls_apart : (journal : List Line) → KeepsCalls journal Anything Anything AllApart
calls_apart journal = record {
  marked = λ log world number answer p j q. j;
  noted = λ log world note p j q. j;
  seated = λ log world place cell nodes at same p j q. each_set IsApart world (with_cell place (record (cell.0) { nodes = nodes }, cell.1) world) place cell (record (cell.0) { nodes = nodes }, cell.1) at refl (j place cell at) j;
  connected = λ log world place cell end peer conn steps host at does p j q. each_called IsApart world world place cell cell steps host at refl
      (still_apart cell.0.host host steps (host_connect cell.0.host end peer conn) (hosts.connected cell.0.host end peer conn) does (j place cell at)) j;
  sent = λ log world place cell end conn payload weight steps host at does p j q. each_called IsApart world world place cell cell steps host at refl
      (still_apart cell.0.host host steps (host_send cell.0.host end conn payload weight) (hosts.sent cell.0.host end conn payload weight) does (j place cell at)) j;
  closed = λ log world place cell end conn steps host at does p j q. each_called IsApart world world place cell cell steps host at refl
      (still_apart cell.0.host host steps (host_close cell.0.host end conn) (hosts.closed cell.0.host end conn) does (j place cell at)) j;
  joined = λ log world socket place n cell steps host is can held called read p j q. each_called IsApart world (joined_in socket world) place cell cell steps host called.at (joined_cells place (with_host cell host, cell.1) socket world)
      (event_apart cell (sockets.Joined n) steps host called.does (j place cell called.at)) j;
  came = λ log world socket place cell steps host is can there called read p j q. each_called IsApart world (come_in place cell socket world) place cell (cell.0, cell.1 + 1) steps host called.at (come_cells place cell (with_host cell host, cell.1 + 1) socket world)
      (event_apart cell (sockets.Came (2 * cell.1 + 1) socket.from_host) steps host called.does (j place cell called.at)) j;
  fed = λ log world socket which count b bytes place n cell steps host is can taken held called read p j q. each_called IsApart world (fed_in which count socket world) place cell cell steps host called.at (fed_cells place (with_host cell host, cell.1) which count socket world)
      (event_apart cell (sockets.Fed n (b ∷ bytes)) steps host called.does (j place cell called.at)) j;
  ended = λ log world socket which place n cell steps host is can none held called read p j q. each_called IsApart world world place cell cell steps host called.at refl
      (event_apart cell (sockets.Ended n) steps host called.does (j place cell called.at)) j;
  item = λ log world place cell steps host at does p j q. each_called IsApart world world place cell cell steps host at refl
      (still_apart cell.0.host host (Some steps) (host_next cell.0.host) (hosts.next_item cell.0.host) does (j place cell at)) j;
}

pub apart_kept : (journal : List Line) → KeepsTurns journal Anything Anything AllApart
apart_kept journal = by_calls journal AllApart (calls_apart journal)
