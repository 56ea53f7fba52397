-- The hosts and the world agree on how each end of a socket stands.
use Rattle.std.specs.Prelude.{◌≡◌, ℕ, ◌+◌, ◌*◌, ◌≤◌, List, Some, None, true, slice_get}
use Rattle.ch_model.specs.declared.name.End.{End}
use Rattle.ch_model.specs.Same.{same_socket}
use Rattle.ch_model.specs.WorldSockets.{end_of, is_end_of}
use Rattle.ch_model.specs.WorldState.{Cell, WorldSocket, World}
use Rattle.ch_laws_log.specs.HostEnds.{stage_at, IsSound}
use Rattle.ch_laws_log.specs.WorldEnds.{stage_held}

-- Each host is sound. Under each number it has an end that stands just as the end that the world has of it, or neither
-- has one. No end has a number that is yet to be given: odd ones as sockets are accepted, even ones as they are dialed.
-- Nor is any end of a place where no host is.
pub record AgreesOnEnds (world : World) : Type 0 where
  pub sound : (place : ℕ) (cell : Cell × ℕ) → slice_get world.cells place ≡ Some cell → IsSound cell.0.host
  pub ends : (place : ℕ) (cell : Cell × ℕ) → slice_get world.cells place ≡ Some cell → (n : ℕ) → stage_at cell.0.host n ≡ stage_held place n world.sockets
  pub accepted : (place : ℕ) (cell : Cell × ℕ) → slice_get world.cells place ≡ Some cell → (k : ℕ) → cell.1 ≤ k → stage_held place (2 * k + 1) world.sockets ≡ None
  pub dialed : (place : ℕ) (cell : Cell × ℕ) → slice_get world.cells place ≡ Some cell → (k : ℕ) → cell.0.host.dials ≤ k → stage_held place (2 * k) world.sockets ≡ None
  pub nowhere : (place n : ℕ) → slice_get world.cells place ≡ None → stage_held place n world.sockets ≡ None

-- no two sockets have one name, and no two ends are of one cell under one number
pub record AreApart (sockets : List WorldSocket) : Type 0 where
  pub named : (i j : ℕ) (s t : WorldSocket) → slice_get sockets i ≡ Some s → slice_get sockets j ≡ Some t → same_socket s.name t.name ≡ true → i ≡ j
  pub numbered : (i j : ℕ) (s t : WorldSocket) (e f : End) (cell number : ℕ) → slice_get sockets i ≡ Some s → slice_get sockets j ≡ Some t
      → is_end_of cell number (end_of e s) ≡ true → is_end_of cell number (end_of f t) ≡ true → (i ≡ j) × (e ≡ f)
