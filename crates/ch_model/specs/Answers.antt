-- The answer to each event line, as the log before it shows.
use Rattle.std.specs.Prelude.{ℕ, Bool, true, false, not, ◌&&◌, ◌||◌, List, length, Some, None, nat_lt, nat_le, is_some, is_none, if◌then◌else◌}
use Rattle.std.specs.Str.{bytes_eq}
use Rattle.ch_ident.specs.Spelling as spelling
use Rattle.ch_ident.specs.declared.node_message.NodeMessage.TheVariants as messages
use Rattle.ch_model.specs.declared.name.ProcName.{ProcName}
use Rattle.ch_model.specs.declared.name.SockName.{SockName}
use Rattle.ch_model.specs.declared.name.TargetName.TheVariants as targets
use Rattle.ch_model.specs.declared.name.End.{End}
use Rattle.ch_model.specs.declared.name.End.TheVariants.{O, T}
use Rattle.ch_model.specs.declared.entry.Entry.{Entry}
use Rattle.ch_model.specs.declared.entry.Verdict.{Verdict}
use Rattle.ch_model.specs.declared.entry.Verdict.TheVariants.{Ok, Unknown, Dead, Hale, Taken, NoName, NoRef, Empty, Long, Full, Spent, Nothing}
use Rattle.ch_model.specs.declared.line.Line.{Line}
use Rattle.ch_model.specs.declared.line.What.{What}
use Rattle.ch_model.specs.declared.line.What.TheVariants as lines
use Rattle.ch_model.specs.Stages.{is_pending, is_open}
use Rattle.ch_model.specs.Same.{same_process, node_of}
use Rattle.ch_model.specs.Logs.{some_and}
use Rattle.ch_model.specs.Declarations.{has_host, is_stranger}
use Rattle.ch_model.specs.Life.{is_made, is_over, is_doomed, is_live, is_shut}
use Rattle.ch_model.specs.Names.{stands}
use Rattle.ch_model.specs.Watches.{Watching, watch_of, is_open as is_watch_open}
use Rattle.ch_model.specs.Delivery.{is_there}
use Rattle.ch_model.specs.Mailboxes.{has_marked, has_in_port}
use Rattle.ch_model.specs.Sockets.{stands_at, unread, is_cut, has_ended_input}
use Rattle.ch_model.specs.AnswersCounts.{acting, directed_to, says_to_broken, sends_between, waiting, connections, begins_epoch, timer_runs}

-- the line falls
abbrev pub is_fall : What → Bool
is_fall (lines.Fall by) = true
is_fall what = false

-- the line sends to a process or port of the sender's own node that wasn't made
abbrev pub sends_to_unmade : List Entry → What → Bool
sends_to_unmade log (lines.Send by to mark body) = bytes_eq by.node (node_of to) && not (is_there log to)
sends_to_unmade log what = false

-- the line registers a name that stands
abbrev pub registers_taken : List Entry → What → Bool
registers_taken log (lines.Register by name) = is_some (stands log by.node name)
registers_taken log what = false

-- the line takes away a name that doesn't stand
abbrev pub unregisters_nothing : List Entry → What → Bool
unregisters_nothing log (lines.Unregister by name) = is_none (stands log by.node name)
unregisters_nothing log what = false

-- the line takes back a watch that isn't open, or isn't the process's
abbrev pub unwatches_nothing : List Entry → What → Bool
unwatches_nothing log (lines.Unwatch by watch) = not (is_watch_open log watch && some_and (λ (w : Watching). same_process w.by by) (watch_of log watch))
unwatches_nothing log what = false

-- the line takes a message where none is
abbrev pub takes_nothing : List Line → List Entry → What → Bool
takes_nothing journal log (lines.Recv by mark) = not (has_marked journal log by mark)
takes_nothing journal log (lines.Take by port) = not (has_in_port log by port)
takes_nothing journal log what = false

-- how many bytes the line's payload has, where it grows with the line
abbrev pub payload_size : What → ℕ
payload_size (lines.Send by to mark body) = length (spelling.user (record { mark = mark; body = body }))
payload_size (lines.Nsend by (targets.Named node name) mark body) = length (spelling.message (messages.NamedSend name mark body))
payload_size what = 0

-- the line sends to another node that isn't up, and for which 4,096 payloads wait
abbrev pub meets_full : List Line → List Entry → List ℕ → What → Bool
meets_full journal log x what = some_and (λ y. sends_between log x y what && nat_le 4096 (waiting journal log x y)) (directed_to log what)

-- the line opens a connection to another node to which 65,535 were opened
abbrev pub meets_spent : List Entry → List ℕ → What → Bool
meets_spent log x what = begins_epoch log what && some_and (λ y. not (bytes_eq x y) && nat_le 65535 (connections log x y)) (directed_to log what)

-- what a live process is answered to its line: the first that holds
abbrev pub answer_to_live : List Line → List Entry → ProcName → What → Verdict
answer_to_live journal log by what =
    if sends_to_unmade log what then Unknown
    else if registers_taken log what then Taken
    else if unregisters_nothing log what then NoName
    else if unwatches_nothing log what then NoRef
    else if takes_nothing journal log what then Empty
    else if nat_lt 65536 (payload_size what) then Long
    else if says_to_broken log what then Ok
    else if meets_full journal log by.node what then Full
    else if meets_spent log by.node what then Spent
    else Ok

-- what a process is answered: one that is over acts no more, and one that is doomed can only fall
abbrev pub answer_to_process : List Line → List Entry → ProcName → What → Verdict
answer_to_process journal log by what =
    if not (is_made log by) then Unknown
    else if is_over log by || is_doomed log by && not (is_fall what) then Dead
    else if is_fall what && is_live log by then Hale
    else answer_to_live journal log by what

-- ok where it holds, else none
abbrev pub ok_where : Bool → Verdict
ok_where holds = if holds then Ok else Nothing

-- the end is open, and isn't a stranger's own
abbrev pub is_open_end : List Line → List Entry → SockName → End → Bool
is_open_end journal log sock O = not (is_stranger journal sock.from) && stands_at journal log sock O is_open
is_open_end journal log sock T = stands_at journal log sock T is_open

-- something can be fed to the end: bytes, or the end of its input
abbrev pub can_be_fed : List Line → List Entry → SockName → End → Bool
can_be_fed journal log sock end =
    is_open_end journal log sock end && (nat_lt 0 (length (unread journal log sock end)) || has_ended_input journal log sock end)

-- the stranger's end of the socket may still write and end
abbrev pub may_poke : List Line → List Entry → SockName → Bool
may_poke journal log sock = stands_at journal log sock O is_open

-- what is answered where nobody acts: by the node, the socket's end or the timer
abbrev pub answer_to_outside : List Line → List Entry → What → Verdict
answer_to_outside journal log (lines.Proc node) = if is_shut log node then Dead else Ok
answer_to_outside journal log (lines.Shut node) = if is_shut log node then Dead else Ok
answer_to_outside journal log (lines.Join sock) = ok_where (stands_at journal log sock O is_pending && has_host journal sock.to)
answer_to_outside journal log (lines.Refuse sock) = ok_where (stands_at journal log sock O is_pending)
answer_to_outside journal log (lines.Come sock) = ok_where (stands_at journal log sock T is_pending)
answer_to_outside journal log (lines.Feed sock end count) = ok_where (can_be_fed journal log sock end)
answer_to_outside journal log (lines.Cut sock end) = ok_where (is_open_end journal log sock end && not (is_cut log sock end))
answer_to_outside journal log (lines.Lose sock end) = ok_where (is_open_end journal log sock end)
answer_to_outside journal log (lines.Late node peer) = ok_where (timer_runs log node peer)
answer_to_outside journal log (lines.Poke sock bytes) = ok_where (may_poke journal log sock)
answer_to_outside journal log (lines.Quit sock) = ok_where (may_poke journal log sock)
answer_to_outside journal log what = Ok

-- the answer to an event line
abbrev pub answer_to : List Line → List Entry → What → Verdict
answer_to journal log what = elim (acting what) [
  | None ↦ answer_to_outside journal log what
  | Some by ↦ answer_to_process journal log by what
]
