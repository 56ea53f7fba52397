-- What each call keeps each turn keeps: a turn is of calls, one after another.
use Rattle.std.specs.Prelude.{◌≡◌, ℕ, List, [], ◌∷◌, ◌++◌, find, slice_get, Some, Result, Ok}
use Rattle.std.proofs.Common.{subst, append_assoc}
use Rattle.ch_static.specs.declared.command.Command.{Command}
use Rattle.ch_model.specs.declared.act.Act.{Act}
use Rattle.ch_model.specs.declared.command.CommandError.{CommandError}
use Rattle.ch_model.specs.declared.entry.Entry.{Entry}
use Rattle.ch_model.specs.declared.entry.Entry.TheVariants as entries
use Rattle.ch_model.specs.declared.line.Line.{Line}
use Rattle.ch_model.specs.declared.local.LocalEntry.{LocalEntry}
use Rattle.ch_model.specs.declared.step.SocketEvent.{SocketEvent}
use Rattle.ch_model.specs.declared.step.SocketEvent.TheVariants as sockets
use Rattle.ch_model.specs.declared.step.Step.{Step}
use Rattle.ch_model.specs.Cell.{room_for}
use Rattle.ch_model.specs.CellSteps.{is_at, with_node, acts_on, steps_on}
use Rattle.ch_model.specs.Host.{host_on, host_next}
use Rattle.ch_model.specs.HostState.{HostState}
use Rattle.ch_model.specs.Node.{node_make, node_command, target_node}
use Rattle.ch_model.specs.NodeState.{NodeState}
use Rattle.ch_model.specs.WorldState.{Cell, World}
use Rattle.ch_laws_items.specs.Stays.{who_is}
use Rattle.ch_laws_items.proofs.Nodes as nodes
use Rattle.ch_laws_log.proofs.Posts.{PostsLast, AllLast, event_last, next_last}
use Rattle.ch_laws_calls.specs.Calls.{Claim, Anything, with_host, done_at, KeepsCalls}
use Rattle.ch_laws_calls.proofs.Cells.{AllRun, AllTell, tells_hold, node_runs, steps_tell, steps_run, reads}
use Rattle.ch_laws_calls.proofs.Happen.{entry_before}
use Rattle.ch_laws_calls.proofs.Runs.{HoldsAfter, Runs}
use Rattle.ch_laws_calls.proofs.Together.{always}
use Rattle.ch_laws_calls.specs.Turns.{told_on, end_in, KeepsTurns}

-- nothing is said, which each call keeps: then a turn is known by its calls alone
pub silent : (journal : List Line) → KeepsCalls journal Anything Anything Anything
silent journal = always (λ log world. tt)

-- ---- who nodes are

-- a node that did something is who it was
same_who : (node next : NodeState) (acts : List Act) (done : Result (List Act × NodeState) CommandError) → done ≡ Ok (acts, next) → nodes.Stays node done → who_is next ≡ who_is node
same_who node next acts done e same = subst (λ (d : Result (List Act × NodeState) CommandError). nodes.Stays node d) e same

-- ---- the steps of a call

event_posts_last : (host after : HostState) (event : SocketEvent) (done : List Step) → host_on host event ≡ Ok (done, after) → PostsLast done
event_posts_last host after event done e = subst AllLast e (event_last host event)

-- once an entry of the world's own was told
entry_joined : (J : Claim) (log : List Entry) (entry : Entry) (done : List Entry × World) → HoldsAfter J (log ++ entry ∷ []) done → J (log ++ entry ∷ done.0) done.1
entry_joined J log entry done j = subst (λ (all : List Entry). J all done.1) (append_assoc log (entry ∷ []) done.0) j

-- ---- runs of calls

module _ (journal : List Line) (J : Claim) (k : KeepsCalls journal Anything Anything J) (place : ℕ) where
  -- the acts of a node, which goes on after them
  acts_in_turn : (end : ℕ) (cell after : Cell) (there : ℕ × NodeState) (acts : List Act) (next : NodeState) (told : List LocalEntry) → find (is_at end) cell.nodes ≡ Some there → who_is next ≡ who_is there.1
      → acts_on end acts (with_node end next cell) ≡ Ok (told, after) → Runs J place cell told after
  acts_in_turn end cell after there acts next told found same is = subst (AllRun J place cell) is (node_runs journal J k place end cell there acts next found same)

  pub make_runs : (end : ℕ) (cell after : Cell) (there : ℕ × NodeState) (acts : List Act) (next : NodeState) (told : List LocalEntry) → find (is_at end) cell.nodes ≡ Some there → node_make there.1 ≡ Ok (acts, next)
      → acts_on end acts (with_node end next cell) ≡ Ok (told, after) → Runs J place cell told after
  make_runs end cell after there acts next told found does = acts_in_turn end cell after there acts next told found (same_who there.1 next acts (node_make there.1) does (nodes.on_make there.1))

  pub command_runs : (end by : ℕ) (command : Command) (cell after : Cell) (there : ℕ × NodeState) (acts : List Act) (next : NodeState) (told : List LocalEntry) → find (is_at end) cell.nodes ≡ Some there
      → node_command there.1 by command (room_for cell.host end there.1.own (target_node there.1 by command)) ≡ Ok (acts, next) → acts_on end acts (with_node end next cell) ≡ Ok (told, after) → Runs J place cell told after
  command_runs end by command cell after there acts next told found does = acts_in_turn end cell after there acts next told found
      (same_who there.1 next acts (node_command there.1 by command (room_for cell.host end there.1.own (target_node there.1 by command))) does (nodes.on_command there.1 by command (room_for cell.host end there.1.own (target_node there.1 by command))))

  -- an item, with all that its posts bring
  pub item_runs : (cell after : Cell) (done : List Step) (host : HostState) (told : List LocalEntry) → host_next cell.host ≡ Ok (Some done, host) → steps_on done (record cell { host = host }) ≡ Ok (told, after) → Runs J place cell told after
  item_runs cell after done host told does is = subst (AllRun J place cell) is (steps_run journal J k place cell (record cell { host = host }) done (reads journal J k place cell done host does) (next_last cell.host host done does))

  -- where the claim holds once the steps of a call are told, it holds once all is that their posts bring
  pub posts_hold : (cell : Cell × ℕ) (after : Cell) (event : SocketEvent) (done : List Step) (host : HostState) (told : List LocalEntry) (log : List Entry) (world : World) → slice_get world.cells place ≡ Some cell → host_on cell.0.host event ≡ Ok (done, host)
      → steps_on done (with_host cell host) ≡ Ok (told, after) → HoldsAfter J log (done_at place cell done host world) → HoldsAfter J log (told_on place cell after told world)
  posts_hold cell after event done host told log world at does is held = tells_hold J place cell.1 cell done (with_host cell host) after told log world at
      (subst (AllTell J place done (with_host cell host)) is (steps_tell journal J k place done (with_host cell host) (event_posts_last cell.0.host host event done does))) held

-- what each call keeps each turn keeps
pub by_calls : (journal : List Line) (J : Claim) → KeepsCalls journal Anything Anything J → KeepsTurns journal Anything Anything J
by_calls journal J k = record {
  marked = λ log world number what answer found of p j q. k.marked log world number answer tt j tt;
  made = λ log world place cell end number node acts next told after at there does all p j q. (make_runs journal J k place end cell.0 after (number, node) acts next told there does all).keeps log world cell.1 at j;
  asked = λ log world what by command place cell number node acts next told after line at there does all p j q. (command_runs journal J k place (end_in world by) by.counter command cell.0 after (number, node) acts next told there does all).keeps log world cell.1 at j;
  joined = λ log world socket place n cell steps host is can held called read p j q. k.joined log world socket place n cell steps host is can held called read tt j tt;
  came = λ log world socket place cell steps host is can at called read p j q. k.came log world socket place cell steps host is can at called read tt j tt;
  fed = λ log world socket which count b bytes place n cell steps host is can taken held called read p j q. k.fed log world socket which count b bytes place n cell steps host is can taken held called read tt j tt;
  ended = λ log world socket which place n cell steps host told after is can none held called all read p j q. entry_joined J log (entries.Fed socket.name which 0) (told_on place cell after told world)
      (posts_hold journal J k place cell after (sockets.Ended n) steps host told (log ++ entries.Fed socket.name which 0 ∷ []) world called.at called.does all
      (entry_before J log (entries.Fed socket.name which 0) (done_at place cell steps host world) (k.ended log world socket which place n cell steps host is can none held called read tt j tt)));
  item = λ log world place cell steps host told after at does all p j q. (item_runs journal J k place cell.0 after steps host told does all).keeps log world cell.1 at j;
}
