-- What the answers to event lines count in the log before: what waits, which connections were opened, which timers run.
use Rattle.std.specs.Prelude.{ℕ, Bool, false, not, ◌&&◌, ◌||◌, List, count_by, length, Option, Some, None, ◌==◌, nat_lt, if◌then◌else◌}
use Rattle.std.specs.Option.{option_map}
use Rattle.std.specs.List.{list_any}
use Rattle.std.specs.Str.{bytes_eq}
use Rattle.ch_wire.specs.Spelling.{frame_spelling}
use Rattle.ch_wire.specs.declared.frame.Frame.TheVariants as frames
use Rattle.ch_model.specs.declared.name.ProcName.{ProcName}
use Rattle.ch_model.specs.declared.name.SockName.{SockName}
use Rattle.ch_model.specs.declared.entry.Entry.{Entry}
use Rattle.ch_model.specs.declared.entry.Entry.TheVariants as entries
use Rattle.ch_model.specs.declared.line.Line.{Line}
use Rattle.ch_model.specs.declared.line.What.{What}
use Rattle.ch_model.specs.declared.line.What.TheVariants as lines
use Rattle.ch_model.specs.Same.{node_of, end_of}
use Rattle.ch_model.specs.Logs.{since, collected, some_and}
use Rattle.ch_model.specs.Marks.{done_by}
use Rattle.ch_model.specs.Epochs.{breaks, is_broken, epoch_of, index_of}
use Rattle.ch_model.specs.Life.{is_shut}
use Rattle.ch_model.specs.Watches.{Watching, watch_of}
use Rattle.ch_model.specs.Sockets.{writings, read_pieces}
use Rattle.ch_model.specs.Links.{up_sockets, is_up_with, has_dialed}

-- the process that acts by a line
abbrev pub acting : What → Option ProcName
acting (lines.Send by to mark body) = Some by
acting (lines.Nsend by to mark body) = Some by
acting (lines.Again by to) = Some by
acting (lines.Recv by mark) = Some by
acting (lines.Port by) = Some by
acting (lines.Take by port) = Some by
acting (lines.End by) = Some by
acting (lines.Fail by text) = Some by
acting (lines.Fall by) = Some by
acting (lines.Monitor by target) = Some by
acting (lines.Link by target) = Some by
acting (lines.Unwatch by watch) = Some by
acting (lines.Exit by target text) = Some by
acting (lines.Kill by target text) = Some by
acting (lines.Spawn by at label args) = Some by
acting (lines.Register by name) = Some by
acting (lines.Unregister by name) = Some by
acting (lines.Whereis by at name) = Some by
acting what = None

-- the node to which a line sends something, which may be its own
abbrev pub directed_to : List Entry → What → Option (List ℕ)
directed_to log (lines.Send by to mark body) = Some (node_of to)
directed_to log (lines.Nsend by to mark body) = Some (node_of to)
directed_to log (lines.Monitor by target) = Some target.node
directed_to log (lines.Link by target) = Some target.node
directed_to log (lines.Unwatch by watch) = option_map (λ (w : Watching). w.target.node) (watch_of log watch)
directed_to log (lines.Exit by target text) = Some target.node
directed_to log (lines.Kill by target text) = Some target.node
directed_to log (lines.Spawn by at label args) = Some at
directed_to log (lines.Whereis by at name) = Some at
directed_to log what = None

-- the line sends on a pair that waits to be reconnected: what it says goes nowhere
abbrev pub says_to_broken : List Entry → What → Bool
says_to_broken log (lines.Send by to mark body) = is_broken log by to
says_to_broken log what = false

-- the line has something written from x to another node y
abbrev pub sends_between : List Entry → List ℕ → List ℕ → What → Bool
sends_between log x y what =
    some_and (λ (by : ProcName). bytes_eq by.node x) (acting what) && some_and (bytes_eq y) (directed_to log what)
    && not (bytes_eq x y) && not (says_to_broken log what)

-- the line that this entry marks as done, where it had something written from x to y
abbrev pub sent_by : List Line → List ℕ → List ℕ → List Entry → Entry → Option What
sent_by journal x y log entry = elim (done_by journal entry) [
  | None ↦ None
  | Some what ↦ if sends_between log x y what then Some what else None
]

-- How many counted payloads of x wait for y: none where it is up; else one for each line done since its last break.
abbrev pub waiting : List Line → List Entry → List ℕ → List ℕ → ℕ
waiting journal log x y = if is_up_with log x y then 0 else length (collected (breaks x y) (sent_by journal x y) log)

-- the entry says the first message of an epoch, from x to y
abbrev pub begins_between : List ℕ → List ℕ → Entry → Bool
begins_between x y (entries.Said by to epoch index mark body) = bytes_eq by.node x && bytes_eq (node_of to) y && index == 0
begins_between x y entry = false

-- how many connections x has opened to y since its last break
abbrev pub connections : List Entry → List ℕ → List ℕ → ℕ
connections log x y = count_by (begins_between x y) (since (breaks x y) log)

-- the line says the first message of an epoch
abbrev pub begins_epoch : List Entry → What → Bool
begins_epoch log (lines.Send by to mark body) = index_of log by to (epoch_of log by to) == 0
begins_epoch log (lines.Nsend by to mark body) = index_of log by to (epoch_of log by to) == 0
begins_epoch log what = false

-- more probes were written at x's end of the socket than answers to them were fed to it
abbrev pub awaits_answer : List Entry → List ℕ → SockName → Bool
awaits_answer log x sock =
    nat_lt (count_by (bytes_eq (frame_spelling frames.ProbeAck)) (read_pieces log sock (end_of x sock)))
    (count_by (bytes_eq (frame_spelling frames.Probe)) (writings log sock (end_of x sock)))

-- The timer of x for y runs: x isn't shut, and it isn't up and has dialed since its last break, or is up and awaits the answer to a probe.
abbrev pub timer_runs : List Entry → List ℕ → List ℕ → Bool
timer_runs log x y =
    not (is_shut log x) && (not (is_up_with log x y) && has_dialed log x y || list_any (awaits_answer log x) (up_sockets log x y))
