-- What follows from what a node or a host made of an event.
use Rattle.std.specs.Prelude.{ℕ, List, Option, Some, None, Result, Ok, Err}
use Rattle.ch_model.specs.declared.act.Act.{Act}
use Rattle.ch_model.specs.declared.command.CommandError.{CommandError}
use Rattle.ch_model.specs.declared.entry.Verdict.TheVariants as verdicts
use Rattle.ch_model.specs.WorldState.{Cell}
use Rattle.ch_model.specs.HostCalls.{host_close_endpoint}
use Rattle.ch_model.specs.CellSteps.{◌then◌, acts_on, all_items}
use Rattle.ch_base.specs.declared.event.Room.{Room}
use Rattle.ch_static.specs.declared.command.Command.{Command}
use Rattle.ch_model.specs.Node.{node_command}
use Rattle.ch_model.specs.Cell.{Celled, answered, refused, refusal, node_did, at_node, closes_after}

-- a node's acts with all that follows, or its refusal
abbrev pub did : ℕ → Result (List Act) CommandError → Cell → Celled
did end (Ok acts) cell = answered verdicts.Ok (acts_on end acts cell then all_items)
did end (Err e) cell = refusal e cell

-- the same of the node at an endpoint, and nothing where no node is there
abbrev pub did_at : ℕ → Option (Result (List Act) CommandError) → Cell → Celled
did_at end None cell = refused verdicts.Nothing cell
did_at end (Some done) cell = did end done cell

-- the acts of a node that was shut, then the end of its endpoint, with all that follows
abbrev pub shuts_with : ℕ → List Act → Cell → Celled
shuts_with end acts cell = answered verdicts.Ok (acts_on end acts cell then (λ told. closes_after end told (host_close_endpoint told.host end)) then all_items)

-- the same, or the refusal to be shut
abbrev pub shut_did : ℕ → Result (List Act) CommandError → Cell → Celled
shut_did end (Ok acts) cell = shuts_with end acts cell
shut_did end (Err e) cell = refusal e cell

-- the same of the node at an endpoint, and nothing where no node is there
abbrev pub shut_at : ℕ → Option (Result (List Act) CommandError) → Cell → Celled
shut_at end None cell = refused verdicts.Nothing cell
shut_at end (Some done) cell = shut_did end done cell

-- a process asks something of its node, where the link has this room
abbrev pub commanded_in : Room → ℕ → ℕ → Command → Cell → Celled
commanded_in room end by command cell = at_node end cell (λ node. node_did end cell (node_command node by command room))
