-- How the world's end stands that a cell has under a number.
use Rattle.std.specs.Prelude.{ℕ, cond, ◌==◌, List, find, Option, Some, None}
use Rattle.std.specs.Option.{option_map}
use Rattle.ch_model.specs.declared.name.End.{End}
use Rattle.ch_model.specs.declared.name.SockName.{SockName}
use Rattle.ch_model.specs.Stages.{Stage}
use Rattle.ch_model.specs.WorldSockets.{end_of, is_socket_named, find_end}
use Rattle.ch_model.specs.WorldState.{WorldSocket}

-- how the end stands that was found, by its socket's name
abbrev pub stage_found : Option (SockName × End) → List WorldSocket → Option Stage
stage_found None sockets = None
stage_found (Some at) sockets = option_map (λ (socket : WorldSocket). (end_of at.1 socket).stage) (find (is_socket_named at.0) sockets)

-- how the end stands that the cell at this place has under this number, where it has one
abbrev pub stage_held : ℕ → ℕ → List WorldSocket → Option Stage
stage_held place n sockets = stage_found (find_end place n sockets) sockets

-- of the cell at one place the stage that was told, of others the one that was
abbrev pub stage_there : ℕ → ℕ → Option Stage → Option Stage → Option Stage
stage_there place other told stage = cond (place == other) told stage
