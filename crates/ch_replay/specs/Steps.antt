-- What each line does to a run: a declaration is kept, and the first event line makes the world of those before it.
use Rattle.std.specs.Prelude.{List, [], ◌∷◌, ◌++◌, Some, None, Result, Ok, if◌then◌else◌}
use Rattle.ch_base.specs.declared.memory.Stop.{Stop}
use Rattle.ch_model.specs.declared.entry.Entry.{Entry}
use Rattle.ch_model.specs.declared.line.Line.{Line}
use Rattle.ch_model.specs.WorldState.{World}
use Rattle.ch_model.specs.World.{◌>>=◌, is_declaration, world_new, world_step}
use Rattle.ch_replay.specs.Running.{Running}

-- a declaration more
abbrev pub with_declared : Line → Running → Running
with_declared line run = record { declared = run.declared ++ line ∷ []; world = run.world }

-- a declaration, which is kept and tells nothing
abbrev pub declaration_on : Running → Line → Result (List Entry × Running) Stop
declaration_on run line = Ok ([], with_declared line run)

-- the world, which is that of the declarations before the first event line
abbrev pub world_so_far : Running → World
world_so_far run = elim run.world [
  | None ↦ world_new run.declared
  | Some world ↦ world
]

-- a run that has a world
abbrev pub begun : Running → Running
begun run = record { declared = run.declared; world = Some (world_so_far run) }

-- an event line, which is a step of the world; where there is none it does nothing
abbrev pub event_on : Running → Line → Result (List Entry × Running) Stop
event_on run line = elim run.world [
  | None ↦ Ok ([], run)
  | Some world ↦ (world_step world line >>= λ done. Ok (done.0, record { declared = run.declared; world = Some done.1 }))
]

-- a line
unfoldable pub run_step : Running → Line → Result (List Entry × Running) Stop
run_step run line = if is_declaration line.what then declaration_on run line else event_on (begun run) line
