-- What an event did at a host, before and after its name is known.
use Rattle.std.specs.Prelude.{ℕ}
use Rattle.ch_model.specs.declared.step.SocketEvent.{SocketEvent}
use Rattle.ch_model.specs.declared.step.SocketEvent.TheVariants as sockets
use Rattle.ch_world.specs.declared.heard.Heard.{Heard}
use Rattle.ch_world.specs.declared.heard.Heard.TheVariants as heards

-- what a host hears of a socket that it has under a number
abbrev pub event_of : Heard → ℕ → SocketEvent
event_of heards.Joined sock = sockets.Joined sock
event_of heards.Refused sock = sockets.Refused sock
event_of (heards.Fed bytes) sock = sockets.Fed sock bytes
event_of heards.Ended sock = sockets.Ended sock
event_of heards.Lost sock = sockets.Lost sock
