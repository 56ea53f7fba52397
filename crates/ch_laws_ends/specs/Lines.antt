-- The lines that happen to sockets, and their answers in a log.
use Rattle.std.specs.Prelude.{◌≡◌, Bool, true, false, not, ◌||◌, List, find, Some}
use Rattle.ch_model.specs.declared.entry.Entry.{Entry}
use Rattle.ch_model.specs.declared.entry.Entry.TheVariants as entries
use Rattle.ch_model.specs.declared.entry.Verdict.TheVariants as verdicts
use Rattle.ch_model.specs.declared.line.Line.{Line}
use Rattle.ch_model.specs.declared.line.What.{What}
use Rattle.ch_model.specs.declared.line.What.TheVariants as lines
use Rattle.ch_model.specs.declared.name.SockName.{SockName}
use Rattle.ch_model.specs.Answers.{answer_to}
use Rattle.ch_model.specs.Declarations.{is_stranger}
use Rattle.ch_model.specs.HasAnswers.{same_answer, is_followed_by_own}
use Rattle.ch_model.specs.Logs.{some_and}
use Rattle.ch_model.specs.Marks.{line_numbered}
use Rattle.ch_model.specs.WorldSockets.{is_socket_named}
use Rattle.ch_model.specs.WorldState.{WorldSocket, World}
use Rattle.ch_laws_log.specs.Agrees.{IsOwned}
use Rattle.ch_laws_log.specs.Lines.{is_of_network}

-- each opener's end is of a cell exactly where its name is no stranger's
abbrev pub AllOwned : List Line → World → Type 0
AllOwned journal world = (s : SockName) (socket : WorldSocket) → find (is_socket_named s) world.sockets ≡ Some socket → IsOwned journal socket

-- The line happens to a socket, or opens a stranger's, or settles. What is poked and quitted is a stranger's.
abbrev pub is_of_sockets : List Line → What → Bool
is_of_sockets journal (lines.Join sock) = true
is_of_sockets journal (lines.Come sock) = true
is_of_sockets journal (lines.Refuse sock) = true
is_of_sockets journal (lines.Feed sock end count) = true
is_of_sockets journal (lines.Cut sock end) = true
is_of_sockets journal (lines.Lose sock end) = true
is_of_sockets journal (lines.Knock stranger node) = true
is_of_sockets journal (lines.Poke sock bytes) = is_stranger journal sock.from
is_of_sockets journal (lines.Quit sock) = is_stranger journal sock.from
is_of_sockets journal lines.Settle = true
is_of_sockets journal what = false

-- a line that happens to a socket has its answer
abbrev pub is_answered_at_sockets : List Line → List Entry → Entry → Bool
is_answered_at_sockets journal log (entries.Line number answer) =
    some_and (λ (what : What). not (is_of_sockets journal what) || same_answer answer (answer_to journal log what)) (line_numbered journal number)
is_answered_at_sockets journal log entry = true

-- what the line does begins with its own entry: it feeds, or happens to a socket or a timer, or settles, which has none
abbrev pub begins_at_sockets : What → Bool
begins_at_sockets (lines.Feed sock end count) = true
begins_at_sockets what = is_of_network what

-- such a line that is done has its own entry first
abbrev pub has_own_at_sockets : List Line → List Entry → Entry → List Entry → Bool
has_own_at_sockets journal log (entries.Line number verdicts.Ok) rest =
    some_and (λ (what : What). not (begins_at_sockets what) || is_followed_by_own journal log rest what) (line_numbered journal number)
has_own_at_sockets journal log entry rest = true
