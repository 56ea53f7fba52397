-- What was fed to an end whose host hasn't read its first item: the host has it all.
use Rattle.std.specs.Prelude.{◌≡◌, ℕ, Bool, true, List, length, take, find, Option, Some}
use Rattle.std.specs.Str.{bytes_eq}
use Rattle.ch_wire.specs.Spelling.{answer_spelling}
use Rattle.ch_wire.specs.declared.answer.Answer.TheVariants.{Accepted}
use Rattle.ch_reader.specs.Reading.{reading}
use Rattle.ch_reader.specs.declared.item.Expected.{Expected}
use Rattle.ch_reader.specs.declared.item.Expected.TheVariants as expected
use Rattle.ch_model.specs.declared.entry.Entry.{Entry}
use Rattle.ch_model.specs.declared.entry.Entry.TheVariants as entries
use Rattle.ch_model.specs.declared.line.Line.{Line}
use Rattle.ch_model.specs.declared.name.End.{End}
use Rattle.ch_model.specs.declared.name.End.TheVariants.{O, T}
use Rattle.ch_model.specs.declared.name.SockName.{SockName}
use Rattle.ch_model.specs.AccountsBytes.{read_bytes, is_request_front, accepts_next}
use Rattle.ch_model.specs.Logs.{each, each_between}
use Rattle.ch_model.specs.Sockets.{fed}
use Rattle.ch_model.specs.WorldSockets.{end_of, is_socket_named}
use Rattle.ch_model.specs.WorldState.{WorldSocket, World}
use Rattle.ch_laws_log.proofs.Agreeing.{Good}
use Rattle.ch_laws_bytes.specs.Streams.{Reader, readers_of, first_at, reads_at}

-- these bytes were fed to the end, and no more
pub record IsFed (log : List Entry) (s : SockName) (e : End) (bytes : List ℕ) : Type 0 where
  pub many : fed log s e ≡ length bytes
  pub are : read_bytes log s e ≡ bytes

-- An end that reads its first item next has all that was fed to it; the first that is read at an opener's end is an answer, and at a
-- target's a request.
abbrev pub HasAll : List Entry → SockName → End → Expected → List ℕ → Type 0
HasAll log s e expected.Frame since = Unit {0}
HasAll log s O expected.Answer since = IsFed log s O since
HasAll log s T expected.Request since = IsFed log s T since
HasAll log s e next since = ⊥

-- so it is at both ends of a socket, as hosts read
abbrev pub HasBoth : List Entry → (ℕ → ℕ → Option Reader) → WorldSocket → Type 0
HasBoth log readers socket = (e : End) (next : Expected) (since : List ℕ) → reads_at readers (first_at e) (end_of e socket).cell (end_of e socket).number ≡ Some (next, since) → HasAll log socket.name e next since

-- and of all sockets
abbrev pub AllHave : List Entry → (ℕ → ℕ → Option Reader) → List WorldSocket → Type 0
AllHave log readers sockets = (s : SockName) (socket : WorldSocket) → find (is_socket_named s) sockets ≡ Some socket → HasBoth log readers socket

-- ---- what a link comes up by

-- these bytes begin with the accepting answer, at an opener's end, or with a request, at a target's
abbrev pub begins_whole : End → List ℕ → Bool
begins_whole O bytes = bytes_eq (answer_spelling Accepted) (take 4 bytes)
begins_whole T bytes = is_request_front (reading expected.Request bytes)

-- a link comes up on an end to which that was fed
abbrev pub has_read : List Entry → Entry → Bool
has_read log (entries.Up sock end) = begins_whole end (read_bytes log sock end)
has_read log entry = true

-- ---- all that is kept

-- Whatever names are declared, the world is as the log tells; hosts have what was fed to ends before their first item; and links came up
-- by what was fed, and targets then accepted.
pub record AreRisen (log : List Entry) (world : World) : Type 0 where
  pub good : (journal : List Line) → Good journal log world
  pub have : AllHave log (readers_of world.cells) world.sockets
  pub read : each has_read log ≡ true
  pub accepted : each_between accepts_next log ≡ true
