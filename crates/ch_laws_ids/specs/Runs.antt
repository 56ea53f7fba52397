-- What an end wrote leads from no ids to those that its host has given on it.
use Rattle.std.specs.Prelude.{◌≡◌, ℕ, cond, ◌==◌, List, [], ◌∷◌, drop, filter_map, find, slice_get, Option, Some, None}
use Rattle.ch_wire.specs.declared.frame.Frame.{Frame}
use Rattle.ch_model.specs.declared.entry.Entry.{Entry}
use Rattle.ch_model.specs.declared.name.End.{End}
use Rattle.ch_model.specs.declared.name.SockName.{SockName}
use Rattle.ch_model.specs.declared.step.Step.{Step}
use Rattle.ch_model.specs.declared.step.Step.TheVariants as steps
use Rattle.ch_model.specs.AccountsItems.{frame_of}
use Rattle.ch_model.specs.HostState.{HostState}
use Rattle.ch_model.specs.Sockets.{writings}
use Rattle.ch_model.specs.WorldSockets.{end_of, is_socket_named}
use Rattle.ch_model.specs.WorldState.{Cell, WorldSocket, World}
use Rattle.ch_laws_writes.specs.Dues.{Due, due_at}
use Rattle.ch_laws_writes.proofs.Written.{FitsDue}
use Rattle.ch_laws_calls.specs.Tables.{frames_on}
use Rattle.ch_laws_calls.specs.FitsFit.{final_at, Leads, HostHolds}

-- ---- frames

-- the frames among pieces of which the first is a request or an answer
abbrev pub frames_from : List (List ℕ) → List Frame
frames_from pieces = filter_map frame_of (drop 1 pieces)

-- ---- steps

-- the pieces that steps write on the socket of this number
abbrev pub pieces_at : ℕ → List Step → List (List ℕ)
pieces_at n [] = []
pieces_at n (steps.Write sock bytes said ∷ rest) = cond (sock == n) (bytes ∷ pieces_at n rest) (pieces_at n rest)
pieces_at n (step ∷ rest) = pieces_at n rest

-- what steps of the cell at a place write at its end of this number
abbrev pub pieces_for : ℕ → List Step → Option ℕ → Option ℕ → List (List ℕ)
pieces_for place told (Some p) (Some n) = cond (p == place) (pieces_at n told) []
pieces_for place told cell number = []

-- ---- ends

-- What an end of a host wrote: what is due there fits it, and its frames lead from no ids to those that the host has given there;
-- or just somewhere, where the end has ended.
pub record Runs (host : HostState) (n : ℕ) (which : End) (pieces : List (List ℕ)) : Type 0 where
  pub due : (due : Due) → due_at host n ≡ Some due → FitsDue due which pieces
  pub leads : Leads (final_at host n) (frames_on (frames_from pieces) [])

abbrev pub RunsThere : Option (Cell × ℕ) → ℕ → End → List (List ℕ) → Type 0
RunsThere None n which pieces = pieces ≡ []
RunsThere (Some cell) n which pieces = Runs cell.0.host n which pieces

-- the same of an end of this cell and number; a stranger's writes nothing, nor does one that hasn't come
abbrev pub RunsFor : List (Cell × ℕ) → Option ℕ → Option ℕ → End → List (List ℕ) → Type 0
RunsFor cells None number which pieces = pieces ≡ []
RunsFor cells (Some place) None which pieces = pieces ≡ []
RunsFor cells (Some place) (Some n) which pieces = RunsThere (slice_get cells place) n which pieces

-- Each host holds, each end of each socket runs so, and nothing was written of a socket that isn't there.
pub record AllRun (log : List Entry) (world : World) : Type 0 where
  pub hosts : (place : ℕ) (cell : Cell × ℕ) → slice_get world.cells place ≡ Some cell → HostHolds cell.0.host
  pub unopened : (s : SockName) (e : End) → find (is_socket_named s) world.sockets ≡ None → writings log s e ≡ []
  pub ends : (s : SockName) (socket : WorldSocket) (e : End) → find (is_socket_named s) world.sockets ≡ Some socket → RunsFor world.cells (end_of e socket).cell (end_of e socket).number e (writings log s e)
