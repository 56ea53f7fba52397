-- What is carried from one thing that happens to the next: of whom sockets' ends are, and what goes both ways.
use Rattle.std.specs.Prelude.{◌≡◌, ℕ, List, slice_get, Some}
use Rattle.ch_model.specs.declared.entry.Entry.{Entry}
use Rattle.ch_model.specs.declared.line.Line.{Line}
use Rattle.ch_model.specs.World.{names_of}
use Rattle.ch_model.specs.WorldState.{Cell, World}
use Rattle.ch_laws_bytes.proofs.Lines.{own_of}
use Rattle.ch_laws_calls.specs.UsersCarried.{Carried}

-- The world has the journal's names, its hosts are where they were, and all of its sockets is as it is carried.
pub record AreUsers (journal : List Line) (log : List Entry) (world : World) : Type 0 where
  pub names : world.names ≡ names_of journal
  pub hosted : (place : ℕ) (cell : Cell × ℕ) → slice_get world.cells place ≡ Some cell → (own_of journal place 0).host ≡ cell.0.host.host
  pub carried : Carried journal log world
