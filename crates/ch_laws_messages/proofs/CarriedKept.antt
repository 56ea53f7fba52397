-- In each turn what is written was said before.
use Rattle.std.proofs.Common.{◌≡◌, ℕ, ◌+◌, List, [], ◌∷◌, ◌++◌, length}
use Rattle.ch_model.specs.declared.entry.Entry.{Entry}
use Rattle.ch_model.specs.declared.entry.Entry.TheVariants as entries
use Rattle.ch_model.specs.declared.line.Line.{Line}
use Rattle.ch_model.specs.declared.step.Step.{Step}
use Rattle.ch_model.specs.Cell.{room_for}
use Rattle.ch_model.specs.CellSteps.{with_node, told_steps}
use Rattle.ch_model.specs.HostState.{HostState}
use Rattle.ch_model.specs.Node.{target_node}
use Rattle.ch_model.specs.World.{names_of, world_new}
use Rattle.ch_model.specs.WorldHappenings.{with_cell}
use Rattle.ch_model.specs.WorldState.{Cell, World}
use Rattle.ch_laws_calls.specs.Calls.{Both, with_host, done_at, joined_in, come_in, fed_in}
use Rattle.ch_laws_calls.specs.Turns.{KeepsTurns, told_on, end_in}
use Rattle.ch_laws_peers.specs.Says.{AllSay}
use Rattle.ch_laws_peers.specs.Standing.{Standing}
use Rattle.ch_laws_messages.specs.CarriedInTime.{AllInTime}
use Rattle.ch_laws_messages.proofs.CarriedBehind.{SaidFirst, all_in_time}
use Rattle.ch_laws_messages.proofs.CarriedTells.{told_first, first_none, steps_none, followed_none, says_first, silent_first, makes_silently, does_first, asked_plain}

no_log : (front rest : List Entry) (entry : Entry) → front ++ entry ∷ rest ≡ [] → ⊥
no_log [] rest entry e = cc
no_log (x ∷ front) rest entry e = cc

-- nothing is written in the log of no line
pub fresh : (journal : List Line) → AllInTime journal [] (world_new journal)
fresh journal party pair x front rest s e bytes is of = absurd (no_log front rest (entries.Wrote s e bytes) is)

-- what a host's steps tell
done_first : (place : ℕ) (cell : Cell × ℕ) (done : List Step) (host : HostState) (world : World) → SaidFirst (done_at place cell done host world).0
done_first place cell done host world = told_first place (with_host cell host) (told_steps done) (with_cell place (with_host cell host, cell.1) world) (first_none (told_steps done) (steps_none done))

pub in_time_kept : (journal : List Line) → KeepsTurns journal (Both (Standing journal) (AllSay journal)) (Both (Standing journal) (AllSay journal)) (AllInTime journal)
in_time_kept journal = record {
  marked = λ log world number what answer at of p j q. all_in_time journal log (entries.Line number answer ∷ []) world world j tt q.1;
  made = λ log world place cell end number node acts next told after at found makes acted p j q. let done = told_on place cell after told world in
      all_in_time journal log done.0 world done.1 j (told_first place after told (with_cell place (after, cell.1) world) (says_first end acts (with_node end next cell.0) after told (silent_first acts (makes_silently node next acts makes)) acted)) q.1;
  asked = λ log world what by command place cell number node acts next told after asks at found does acted p j q. let done = told_on place cell after told world in
      all_in_time journal log done.0 world done.1 j (told_first place after told (with_cell place (after, cell.1) world) (says_first (end_in world by) acts (with_node (end_in world by) next cell.0) after told
      (does_first node next by.counter command (room_for cell.0.host (end_in world by) node.own (target_node node by.counter command)) acts (asked_plain (names_of journal) world.names what by command asks.of asks.asks) does) acted)) q.1;
  joined = λ log world socket place n cell done host at can held called read p j q. let all = done_at place cell done host (joined_in socket world) in
      all_in_time journal log (entries.Joined socket.name ∷ all.0) world all.1 j (done_first place cell done host (joined_in socket world)) q.1;
  came = λ log world socket place cell done host at can held called read p j q. let all = done_at place (cell.0, cell.1 + 1) done host (come_in place cell socket world) in
      all_in_time journal log (entries.Came socket.name ∷ all.0) world all.1 j (done_first place (cell.0, cell.1 + 1) done host (come_in place cell socket world)) q.1;
  fed = λ log world socket which count b bytes place n cell done host at can taken held called read p j q. let all = done_at place cell done host (fed_in which count socket world) in
      all_in_time journal log (entries.Fed socket.name which (length (b ∷ bytes)) ∷ all.0) world all.1 j (done_first place cell done host (fed_in which count socket world)) q.1;
  ended = λ log world socket which place n cell done host told after at can none held called followed read p j q. let all = told_on place cell after told world in
      all_in_time journal log (entries.Fed socket.name which 0 ∷ all.0) world all.1 j (told_first place after told (with_cell place (after, cell.1) world) (first_none told (followed_none done (with_host cell host) after told followed))) q.1;
  item = λ log world place cell done host told after at does followed p j q. let all = told_on place cell after told world in
      all_in_time journal log all.0 world all.1 j (told_first place after told (with_cell place (after, cell.1) world) (first_none told (followed_none done (with_host cell host) after told followed))) q.1;
}
