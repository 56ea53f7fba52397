-- Isolation: what is done at a stranger's socket makes no entry of anything else.
use Rattle.std.specs.Prelude.{Bool, not, ◌&&◌, ◌||◌, List, count_by, fold, Option, Some, None, IsTrue, is_some, if◌then◌else◌}
use Rattle.ch_model.specs.declared.name.SockName.{SockName}
use Rattle.ch_model.specs.declared.entry.Entry.{Entry}
use Rattle.ch_model.specs.declared.entry.Entry.TheVariants as entries
use Rattle.ch_model.specs.declared.line.Line.{Line}
use Rattle.ch_model.specs.declared.line.What.{What}
use Rattle.ch_model.specs.declared.line.What.TheVariants as lines
use Rattle.ch_model.specs.Same.{same_socket}
use Rattle.ch_model.specs.Logs.{each, collected, never, some_and, none_or}
use Rattle.ch_model.specs.Declarations.{is_stranger}
use Rattle.ch_model.specs.Marks.{done_by, is_mark, in_settle}
use Rattle.ch_model.specs.Breaks.{is_settled}
use Rattle.ch_model.specs.AnswersEntries.{knocks_at}
use Rattle.ch_model.specs.HasAnswers.{is_of_network}

-- the socket that a line names; a knock opens the next
abbrev pub line_socket : List Entry → What → Option SockName
line_socket log (lines.Join sock) = Some sock
line_socket log (lines.Come sock) = Some sock
line_socket log (lines.Refuse sock) = Some sock
line_socket log (lines.Feed sock end count) = Some sock
line_socket log (lines.Cut sock end) = Some sock
line_socket log (lines.Lose sock end) = Some sock
line_socket log (lines.Poke sock bytes) = Some sock
line_socket log (lines.Quit sock) = Some sock
line_socket log (lines.Knock stranger node) = Some (record { from = stranger; to = node; number = count_by (knocks_at stranger node) log })
line_socket log what = None

-- the socket that an entry names
abbrev pub entry_socket : Entry → Option SockName
entry_socket (entries.Dial sock) = Some sock
entry_socket (entries.Knocked sock) = Some sock
entry_socket (entries.Poked sock bytes) = Some sock
entry_socket (entries.Quitted sock) = Some sock
entry_socket (entries.Joined sock) = Some sock
entry_socket (entries.Came sock) = Some sock
entry_socket (entries.Refused sock) = Some sock
entry_socket (entries.Cut sock end) = Some sock
entry_socket (entries.Lost sock end) = Some sock
entry_socket (entries.Fed sock end count) = Some sock
entry_socket (entries.Wrote sock end bytes) = Some sock
entry_socket (entries.Up sock end) = Some sock
entry_socket (entries.Down sock end) = Some sock
entry_socket (entries.Left sock end) = Some sock
entry_socket entry = None

-- the socket of the line that the entry marks as done
abbrev pub marked_socket : List Line → List Entry → Entry → Option SockName
marked_socket journal log entry = elim (done_by journal entry) [
  | None ↦ None
  | Some what ↦ line_socket log what
]

-- the socket at which something is done from this entry on, if one is: the entry marks a line, or is a visit or the end of a settle
abbrev pub begins_at : List Line → List Entry → Entry → Option (Option SockName)
begins_at journal log entry =
    if is_mark entry then Some (marked_socket journal log entry)
    else if in_settle journal log && (is_of_network entry || is_settled entry) then Some (entry_socket entry)
    else None

-- the later of two
abbrev pub later : Option SockName → Option SockName → Option SockName
later found next = next

-- the socket at which what comes next is done
abbrev pub doing_at : List Line → List Entry → Option SockName
doing_at journal log = fold later None (collected never (begins_at journal) log)

-- what is done at a stranger's socket names that socket
abbrev pub is_isolated : List Line → List Entry → Entry → Bool
is_isolated journal log entry =
    is_some (begins_at journal log entry)
    || none_or (λ (sock : SockName). not (is_stranger journal sock.from) || some_and (same_socket sock) (entry_socket entry)) (doing_at journal log)

-- strangers are kept apart
abbrev pub IsolatesStrangers : List Line → List Entry → Type 0
IsolatesStrangers journal log = IsTrue (each (is_isolated journal) log)
