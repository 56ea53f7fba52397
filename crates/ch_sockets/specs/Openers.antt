-- The end of who opens a socket.
use Rattle.std.specs.Prelude.{Some, None}
use Rattle.ch_model.specs.Stages.{Pending, Open}
use Rattle.ch_model.specs.WorldState.{WorldEnd}
use Rattle.ch_model.specs.WorldSockets.{end_of_nobody}
use Rattle.ch_sockets.specs.declared.opener.Opener.{Opener}
use Rattle.ch_sockets.specs.declared.opener.Opener.TheVariants as openers

-- a dialing host's end is pending, under its number; a stranger's is open
abbrev pub opener_end : Opener → WorldEnd
opener_end (openers.Dialing cell number) = end_of_nobody (Some cell) (Some number) Pending
opener_end openers.Stranger = end_of_nobody None None Open
