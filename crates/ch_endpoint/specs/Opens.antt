-- A connection that is opened on a link.
use Rattle.std.specs.Prelude.{ℕ, ◌+◌, length}
use Rattle.ch_light.specs.declared.TheConstants.{FIRST_ID}
use Rattle.ch_wire.specs.declared.frame.Frame.TheVariants as frames
use Rattle.ch_model.specs.declared.step.Weight.TheVariants.{Free}
use Rattle.ch_model.specs.HostState.{Link, HostState}
use Rattle.ch_model.specs.HostSteps.{Stepped}
use Rattle.ch_model.specs.HostCalls.{puts_and_wants}
use Rattle.ch_endpoint.specs.Waits.{giving}

-- the connection has got the next id of the link, and that is put
abbrev pub opened_of : Link → ℕ → HostState → Stepped
opened_of link conn host = puts_and_wants (frames.Created (FIRST_ID + length link.given), Free) (giving conn link) host
