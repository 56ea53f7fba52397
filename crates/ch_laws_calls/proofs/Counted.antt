-- That there are so many hosts is kept by all that happens.
use Rattle.std.specs.Prelude.{◌≡◌, ℕ, ◌+◌, ◌*◌, true, ◌==◌, List, length, drop, Some}
use Rattle.std.proofs.Common.{ap, ◌∙◌, sym, subst}
use Rattle.ch_model.specs.declared.line.Line.{Line}
use Rattle.ch_model.specs.declared.name.End.{End}
use Rattle.ch_model.specs.declared.name.End.TheVariants.{O, T}
use Rattle.ch_model.specs.declared.step.Step.{Step}
use Rattle.ch_model.specs.CellSteps.{told_steps}
use Rattle.ch_model.specs.HostState.{HostState}
use Rattle.ch_model.specs.WorldHappenings.{with_cell}
use Rattle.ch_model.specs.WorldSockets.{opened}
use Rattle.ch_model.specs.WorldState.{Cell, WorldEnd, WorldSocket, World}
use Rattle.ch_laws_log.proofs.Agreeing.{length_set}
use Rattle.ch_laws_ends.proofs.Changes.{cells_stay, told_cells}
use Rattle.ch_laws_calls.specs.Calls.{Claim, Anything, with_host, done_at, joined_in, come_in, fed_in, KeepsCalls}

-- there are so many hosts
abbrev Count : ℕ → Claim
Count n log world = (length world.cells == n) ≡ true

same_count : (n : ℕ) (one two : World) → length two.cells ≡ length one.cells → (length one.cells == n) ≡ true → (length two.cells == n) ≡ true
same_count n one two e h = subst (λ (k : ℕ). (k == n) ≡ true) (sym e) h

-- a call keeps the cell in its place
called : (place : ℕ) (cell : Cell × ℕ) (steps : List Step) (host : HostState) (world : World) → length (done_at place cell steps host world).1.cells ≡ length world.cells
called place cell steps host world = ap (λ (l : List (Cell × ℕ)). length l) (told_cells place (with_host cell host) (told_steps steps) (with_cell place (with_host cell host, cell.1) world))
    ∙ length_set world.cells place (with_host cell host, cell.1)

abbrev came : ℕ → WorldEnd → WorldEnd
came number end = record (opened end) { number = Some number }

come_count : (place : ℕ) (cell : Cell × ℕ) (socket : WorldSocket) (world : World) → length (come_in place cell socket world).cells ≡ length world.cells
come_count place cell socket world = ap (λ (l : List (Cell × ℕ)). length l) (cells_stay socket.name T (came (2 * cell.1 + 1)) (with_cell place (cell.0, cell.1 + 1) world)) ∙ length_set world.cells place (cell.0, cell.1 + 1)

join_count : (socket : WorldSocket) (world : World) → length (joined_in socket world).cells ≡ length world.cells
join_count socket world = ap (λ (l : List (Cell × ℕ)). length l) (cells_stay socket.name O opened world)

feed_count : (which : End) (count : ℕ) (socket : WorldSocket) (world : World) → length (fed_in which count socket world).cells ≡ length world.cells
feed_count which count socket world = ap (λ (l : List (Cell × ℕ)). length l) (cells_stay socket.name which (λ end. record end { unread = drop count end.unread }) world)

pub count_kept : (journal : List Line) (n : ℕ) → KeepsCalls journal Anything Anything (λ log world. (length world.cells == n) ≡ true)
count_kept journal n = record {
  marked = λ log world number answer p j q. j;
  noted = λ log world note p j q. j;
  seated = λ log world place cell nodes at same p j q. same_count n world (with_cell place (record (cell.0) { nodes = nodes }, cell.1) world) (length_set world.cells place (record (cell.0) { nodes = nodes }, cell.1)) j;
  connected = λ log world place cell end peer conn steps host at does p j q. same_count n world (done_at place cell steps host world).1 (called place cell steps host world) j;
  sent = λ log world place cell end conn payload weight steps host at does p j q. same_count n world (done_at place cell steps host world).1 (called place cell steps host world) j;
  closed = λ log world place cell end conn steps host at does p j q. same_count n world (done_at place cell steps host world).1 (called place cell steps host world) j;
  joined = λ log world socket place m cell steps host is can held called_so read p j q. same_count n world (done_at place cell steps host (joined_in socket world)).1 (called place cell steps host (joined_in socket world) ∙ join_count socket world) j;
  came = λ log world socket place cell steps host is can at called_so read p j q. same_count n world (done_at place (cell.0, cell.1 + 1) steps host (come_in place cell socket world)).1 (called place (cell.0, cell.1 + 1) steps host (come_in place cell socket world) ∙ come_count place cell socket world) j;
  fed = λ log world socket which count b bytes place m cell steps host is can taken held called_so read p j q. same_count n world (done_at place cell steps host (fed_in which count socket world)).1 (called place cell steps host (fed_in which count socket world) ∙ feed_count which count socket world) j;
  ended = λ log world socket which place m cell steps host is can none held called_so read p j q. same_count n world (done_at place cell steps host world).1 (called place cell steps host world) j;
  item = λ log world place cell steps host at does p j q. same_count n world (done_at place cell steps host world).1 (called place cell steps host world) j;
}
