-- Each turn leaves each cell's nodes and host in agreement.
use Rattle.std.proofs.Common.{◌≡◌, ℕ, zero, suc, ◌+◌, ◌*◌, List, [], ◌∷◌, refl, subst}
use Rattle.std.specs.Prelude.{slice_get, Some}
use Rattle.ch_model.specs.declared.line.Line.{Line}
use Rattle.ch_model.specs.declared.step.SocketEvent.TheVariants as sockets
use Rattle.ch_model.specs.World.{world_new}
use Rattle.ch_model.specs.WorldState.{Cell}
use Rattle.ch_laws_connections.specs.Arrivals.{CellMeets}
use Rattle.ch_laws_connections.specs.Fits.{CellHolds, AllCells}
use Rattle.ch_laws_connections.proofs.MadeSteps.{worlds_meet}
use Rattle.ch_laws_connections.proofs.OpenGiven.{worlds_hold}
use Rattle.ch_laws_calls.specs.Calls.{Claim, Anything, with_host, joined_in, come_in, fed_in}
use Rattle.ch_laws_calls.specs.Turns.{end_in, KeepsTurns}
use Rattle.ch_laws_calls.proofs.TurnsCells.{join_quiet, come_quiet, feed_quiet}
use Rattle.ch_laws_calls.proofs.TurnsTogether.{alike, beside}
use Rattle.ch_laws_plain.specs.MeetsMeets.{AllMeet}
use Rattle.ch_laws_plain.proofs.MeetsAgree.{Agree, made_agree, asked_agree, item_agree, event_agree, quiet_agree}
use Rattle.ch_laws_plain.proofs.MeetsApart.{apart_kept}
use Rattle.ch_laws_plain.proofs.MeetsCells.{Each, each_called, each_told, joined_cells, come_cells, fed_cells}

abbrev AllAgree : Claim
AllAgree log world = Each Agree world

agree_kept : (journal : List Line) → KeepsTurns journal Anything Anything AllAgree
agree_kept journal = record {
  marked = λ log world number what answer found of p j q. j;
  made = λ log world place cell end number node acts next told after at there does all p j q. each_told Agree world place cell told after at (made_agree end cell.0 after (number, node) acts next told there does all (j place cell at)) j;
  asked = λ log world what by command place cell number node acts next told after line at there does all p j q. each_told Agree world place cell told after at (asked_agree (end_in world by) by.counter command cell.0 after (number, node) acts next told there does all (j place cell at)) j;
  joined = λ log world socket place n cell steps host is can held called read p j q. each_called Agree world (joined_in socket world) place cell cell steps host called.at (joined_cells place (with_host cell host, cell.1) socket world)
      (quiet_agree cell (sockets.Joined n) host steps (join_quiet n cell.0.host) called.does (j place cell called.at)) j;
  came = λ log world socket place cell steps host is can there called read p j q. each_called Agree world (come_in place cell socket world) place cell (cell.0, cell.1 + 1) steps host called.at (come_cells place cell (with_host cell host, cell.1 + 1) socket world)
      (quiet_agree cell (sockets.Came (2 * cell.1 + 1) socket.from_host) host steps (come_quiet (2 * cell.1 + 1) socket.from_host cell.0.host) called.does (j place cell called.at)) j;
  fed = λ log world socket which count b bytes place n cell steps host is can taken held called read p j q. each_called Agree world (fed_in which count socket world) place cell cell steps host called.at (fed_cells place (with_host cell host, cell.1) which count socket world)
      (quiet_agree cell (sockets.Fed n (b ∷ bytes)) host steps (feed_quiet n (b ∷ bytes) cell.0.host) called.does (j place cell called.at)) j;
  ended = λ log world socket which place n cell steps host told after is can none held called all read p j q. each_told Agree world place cell told after called.at (event_agree cell.0 after (sockets.Ended n) host steps told called.does all (j place cell called.at)) j;
  item = λ log world place cell steps host told after at does all p j q. each_told Agree world place cell told after at (item_agree cell.0 after host steps told does all (j place cell at)) j;
}

pub meets_kept : (journal : List Line) → KeepsTurns journal Anything Anything AllMeet
meets_kept journal = alike (λ log world p k. (λ place cell at. (k place cell at).0.0, λ place cell at. ((k place cell at).0.1, (k place cell at).1))) (λ log world q j place cell at. ((j.0 place cell at, (j.1 place cell at).0), (j.1 place cell at).1))
    (beside (apart_kept journal) (agree_kept journal))

-- ---- at the start

get_one : (P : Cell → Type 0) (cells : List (Cell × ℕ)) → AllCells P cells → (place : ℕ) (cell : Cell × ℕ) → slice_get cells place ≡ Some cell → P cell.0
get_one P [] a place cell e = absurd cc
get_one P (known ∷ rest) a zero cell e = let this : known ≡ cell = cc in subst (λ (c : Cell × ℕ). P c.0) this a.0
get_one P (known ∷ rest) a (suc place) cell e = get_one P rest a.1 place cell e

pub fresh_meets : (journal : List Line) → AllMeet [] (world_new journal)
fresh_meets journal place cell at = (
  get_one CellHolds (world_new journal).cells (worlds_hold journal [] [] (world_new journal) refl) place cell at,
  get_one CellMeets (world_new journal).cells (worlds_meet journal [] [] (world_new journal) refl) place cell at,
)
