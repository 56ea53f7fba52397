-- Each two nodes are seen as a pair that comes about by moves that may happen: what keeps that so.
use Rattle.std.specs.Prelude.{◌≡◌, ℕ, true, List, [], ◌∷◌, ◌++◌, slice_get, Some, Ok}
use Rattle.std.proofs.Common.{ap, sym, ◌∙◌, subst}
use Rattle.ch_base.specs.declared.address.Address.{Address}
use Rattle.ch_model.specs.declared.entry.Entry.{Entry}
use Rattle.ch_model.specs.declared.entry.Entry.TheVariants as entries
use Rattle.ch_model.specs.declared.entry.Verdict.{Verdict}
use Rattle.ch_model.specs.declared.line.Line.{Line}
use Rattle.ch_model.specs.declared.note.Note.{Note}
use Rattle.ch_model.specs.declared.step.Step.{Step}
use Rattle.ch_model.specs.declared.step.Weight.{Weight}
use Rattle.ch_model.specs.HostCalls.{host_connect, host_send, host_close}
use Rattle.ch_model.specs.HostState.{HostState}
use Rattle.ch_model.specs.NodeState.{NodeState}
use Rattle.ch_model.specs.WorldHappenings.{with_cell}
use Rattle.ch_model.specs.WorldState.{Cell, World}
use Rattle.ch_model.specs.WorldSteps.{note_entry, place_after}
use Rattle.ch_race.specs.Invariant.{IsReached}
use Rattle.ch_race.specs.Pair.{Side}
use Rattle.ch_race.proofs.Runs.{reached_more}
use Rattle.ch_laws_race.specs.Scene.{Party, host_in}
use Rattle.ch_laws_race.specs.View.{seen, view}
use Rattle.ch_laws_race.proofs.Sockets.{set_same}
use Rattle.ch_laws_race.proofs.Views.{hosts_set}
use Rattle.ch_laws_calls.specs.Calls.{done_at}
use Rattle.ch_laws_calls.specs.Scenes.{IsMoved, Shown, Raced, scene_of}
use Rattle.ch_laws_calls.specs.Sound.{Sound}
use Rattle.ch_laws_raced.specs.RaceCallsUnshut.{AllUnshut}
use Rattle.ch_laws_raced.proofs.RaceCallsCalls.{connects_moved, sends_moved, closes_moved}

-- moves that may happen lead on
pub reached_on : (party : Side → Party) (before after : World) → IsReached (view (scene_of party before)) → IsMoved party before after → IsReached (view (scene_of party after))
reached_on party before after r m = subst IsReached (sym m.seen) (reached_more m.moves (view (scene_of party before)) r m.allowed)

-- other nodes of a cell show nothing
pub seated_view : (party : Side → Party) (world : World) (place : ℕ) (cell : Cell × ℕ) (nodes : List (ℕ × NodeState)) → slice_get world.cells place ≡ Some cell
    → view (scene_of party (with_cell place (record (cell.0) { nodes = nodes }, cell.1) world)) ≡ view (scene_of party world)
seated_view party world place cell nodes there = ap (λ (hosts : ℕ → HostState). seen party hosts world.sockets true)
    (hosts_set world place cell (record (cell.0) { nodes = nodes }) cell.1 there ∙ sym (hosts_set world place cell cell.0 cell.1 there)
    ∙ ap (λ (cells : List (Cell × ℕ)). λ (p : ℕ). host_in (slice_get cells p)) (set_same world.cells place cell there))

module _ (journal : List Line) (log : List Entry) (world : World) (raced : Raced journal log world) where
  -- what is told alone shows nothing
  pub marked_raced : (number : ℕ) (answer : Verdict) → Raced journal (log ++ entries.Line number answer ∷ []) world
  marked_raced number answer = raced

  pub noted_raced : (note : Note) → Raced journal (log ++ note_entry world.names world.last note ∷ []) (record world { last = place_after world.last note })
  noted_raced note = raced

  module _ (place : ℕ) (cell : Cell × ℕ) (there : slice_get world.cells place ≡ Some cell) where
    pub seated_raced : (nodes : List (ℕ × NodeState)) → Raced journal log (with_cell place (record (cell.0) { nodes = nodes }, cell.1) world)
    seated_raced nodes party pair = subst IsReached (sym (seated_view party world place cell nodes there)) (raced party pair)

    module _ (sound : Sound journal log world) (shown : Shown journal log world) (steps : List Step) (host : HostState) where
      pub connected_raced : (end : ℕ) (peer : Address) (conn : ℕ) → host_connect cell.0.host end peer conn ≡ Ok (steps, host) → let done = done_at place cell steps host world in Raced journal (log ++ done.0) done.1
      connected_raced end peer conn so party pair = reached_on party world (done_at place cell steps host world).1 (raced party pair) (connects_moved journal log world sound party (shown party pair) place cell there (steps, host) end peer conn so)

      pub sent_raced : (end conn : ℕ) (payload : List ℕ) (weight : Weight) → AllUnshut journal log world → host_send cell.0.host end conn payload weight ≡ Ok (steps, host) → let done = done_at place cell steps host world in Raced journal (log ++ done.0) done.1
      sent_raced end conn payload weight unshut so party pair = reached_on party world (done_at place cell steps host world).1 (raced party pair)
          (sends_moved journal log world sound party (shown party pair) place cell there (steps, host) end conn payload weight (unshut party pair) so)

      pub closed_raced : (end conn : ℕ) → host_close cell.0.host end conn ≡ Ok (steps, host) → let done = done_at place cell steps host world in Raced journal (log ++ done.0) done.1
      closed_raced end conn so party pair = reached_on party world (done_at place cell steps host world).1 (raced party pair) (closes_moved journal log world sound party (shown party pair) place cell there (steps, host) end conn so)
