-- What the world keeps of a socket is what the log tells of it.
use Rattle.std.specs.Prelude.{◌≡◌, Bool, true, false, not, List, find, Some, is_some}
use Rattle.ch_model.specs.declared.name.SockName.{SockName}
use Rattle.ch_model.specs.declared.name.End.{End}
use Rattle.ch_model.specs.declared.entry.Entry.{Entry}
use Rattle.ch_model.specs.declared.entry.Entry.TheVariants as entries
use Rattle.ch_model.specs.declared.line.Line.{Line}
use Rattle.ch_model.specs.Declarations.{has_host, is_stranger}
use Rattle.ch_model.specs.Sockets.{stands_at, end_state, is_cut, unread}
use Rattle.ch_model.specs.WorldState.{WorldEnd, WorldSocket, World}
use Rattle.ch_model.specs.WorldSockets.{is_of_host, is_socket_named}
use Rattle.ch_model.specs.Stages.{Stage}

-- the target's end is of a cell exactly where its name has a host
abbrev pub IsPlaced : List Line → WorldSocket → Type 0
IsPlaced journal socket = is_some socket.t.cell ≡ has_host journal socket.name.to

-- the opener's end is of a cell exactly where its name is no stranger's
abbrev pub IsOwned : List Line → WorldSocket → Type 0
IsOwned journal socket = is_of_host socket.o ≡ not (is_stranger journal socket.name.from)

-- each target's end is of a cell exactly where its name has a host
abbrev pub AllPlaced : List Line → World → Type 0
AllPlaced journal world = (s : SockName) (socket : WorldSocket) → find (is_socket_named s) world.sockets ≡ Some socket → IsPlaced journal socket

-- a dial is refused by this entry
abbrev pub is_refusal : Entry → Bool
is_refusal (entries.Refused sock) = true
is_refusal entry = false

-- an end stands, is cut and has unread what the log tells
pub record IsAsTold (journal : List Line) (log : List Entry) (s : SockName) (e : End) (end : WorldEnd) : Type 0 where
  pub stage : end_state journal log s e ≡ Some end.stage
  pub stands : (test : Stage → Bool) → stands_at journal log s e test ≡ test end.stage
  pub cut : is_cut log s e ≡ end.is_cut
  pub unread : unread journal log s e ≡ end.unread
