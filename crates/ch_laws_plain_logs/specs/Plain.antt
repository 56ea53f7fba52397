-- Plain logs: of many nodes whose processes are made, say, get, take and end, and whose sockets are dialed, fed and left.
use Rattle.std.specs.Prelude.{◌≡◌, ℕ, ◌==◌, Bool, true, false, not, ◌&&◌, ◌||◌, List, length, Option, Some, None, is_some, IsTrue, if◌then◌else◌}
use Rattle.std.specs.List.{list_all}
use Rattle.std.specs.Str.{bytes_eq}
use Rattle.ch_model.specs.declared.name.SockName.{SockName}
use Rattle.ch_model.specs.declared.name.TargetName.TheVariants as targets
use Rattle.ch_model.specs.declared.name.End.{End}
use Rattle.ch_model.specs.declared.entry.Entry.{Entry}
use Rattle.ch_model.specs.declared.entry.Entry.TheVariants as entries
use Rattle.ch_model.specs.declared.line.Line.{Line}
use Rattle.ch_model.specs.declared.line.What.{What}
use Rattle.ch_model.specs.declared.line.What.TheVariants as lines
use Rattle.ch_model.specs.AccountsFrames.{Saying, data_written, datas}
use Rattle.ch_model.specs.AccountsItems.{first_payload, opens_nodes}
use Rattle.ch_model.specs.AccountsMessages.{opens_a_pair}
use Rattle.ch_model.specs.Breaks.{HasLicensedBreaks}
use Rattle.ch_model.specs.Epochs.{begins_next_epoch}
use Rattle.ch_model.specs.HasAnswers.{has_settled_last, settles_whole}
use Rattle.ch_model.specs.Lawful.{SettlesWhole}
use Rattle.ch_model.specs.LifeRules.{dooms_the_live, dooms_with_cause}
use Rattle.ch_model.specs.Links.{falls_from_up}
use Rattle.ch_model.specs.Logs.{each, each_between, some_and, none_or}
use Rattle.ch_model.specs.Mailboxes.{takes_the_first_of_port}
use Rattle.ch_model.specs.Names.{FollowsNames}
use Rattle.ch_model.specs.References.{FollowsReferences}
use Rattle.ch_model.specs.Same.{node_of, owner, across}
use Rattle.ch_model.specs.Sockets.{writings}
use Rattle.ch_model.specs.Watches.{HasLawfulNotices}

-- The entry is plain: a mark, a process that no spawn made, a message to a process that is said, got by somebody or taken
-- from a mailbox, an end, or what befalls a socket without loss.
abbrev pub is_plain : Entry → Bool
is_plain (entries.Line number answer) = true
is_plain (entries.Made process None None) = true
is_plain (entries.Said by (targets.Process process) epoch index mark body) = true
is_plain (entries.Got by (targets.Process process) epoch index (Some receiver)) = true
is_plain (entries.Took by None mark body) = true
is_plain (entries.Over process reason) = true
is_plain (entries.Dial sock) = true
is_plain (entries.Joined sock) = true
is_plain (entries.Came sock) = true
is_plain (entries.Fed sock end count) = true
is_plain (entries.Wrote sock end bytes) = true
is_plain (entries.Up sock end) = true
is_plain (entries.Left sock end) = true
is_plain entry = false

-- each entry of the log is plain
abbrev pub IsPlain : List Entry → Type 0
IsPlain log = IsTrue (list_all is_plain log)

-- The line is plain: it declares a node, makes a process, sends to one, takes from a mailbox, ends a process, or joins a
-- socket, takes it or feeds it.
abbrev pub is_plain_line : What → Bool
is_plain_line (lines.Node name address unique) = true
is_plain_line (lines.Proc node) = true
is_plain_line (lines.Send by (targets.Process process) mark body) = true
is_plain_line (lines.Recv by mark) = true
is_plain_line (lines.End by) = true
is_plain_line (lines.Join sock) = true
is_plain_line (lines.Come sock) = true
is_plain_line (lines.Feed sock end count) = true
is_plain_line what = false

-- each line of the journal is plain
abbrev pub HasPlainLines : List Line → Type 0
HasPlainLines journal = IsTrue (list_all (λ (line : Line). is_plain_line line.what) journal)

-- the payload, if it is the first under its id, doesn't open a connection from node to node
abbrev pub opens_no_nodes : List Line → List Entry → SockName → End → ℕ × List ℕ → Bool
opens_no_nodes journal log sock end d = is_some (first_payload d.0 (datas log sock end)) || not (opens_nodes journal (owner sock end) (owner sock (across end)) d.1)

-- no payload that is written opens a connection from node to node
abbrev pub writes_no_nodes : List Line → List Entry → Entry → Bool
writes_no_nodes journal log (entries.Wrote sock end bytes) =
    length (writings log sock end) == 0 || none_or (opens_no_nodes journal log sock end) (data_written log sock end bytes)
writes_no_nodes journal log entry = true

-- nowhere in the log is a connection from node to node opened
abbrev pub WritesNoNodes : List Line → List Entry → Type 0
WritesNoNodes journal log = IsTrue (each (writes_no_nodes journal) log)

-- the payload, if it is the first under its id, opens the connection of a pair that has said something before
abbrev pub opens_pairs : List Line → List Entry → SockName → End → ℕ × List ℕ → Bool
opens_pairs journal log sock end d = is_some (first_payload d.0 (datas log sock end)) || opens_a_pair journal log (owner sock end) (owner sock (across end)) d.1

-- each payload that is written first under its id opens the connection of a pair
abbrev pub writes_pairs : List Line → List Entry → Entry → Bool
writes_pairs journal log (entries.Wrote sock end bytes) =
    length (writings log sock end) == 0 || none_or (opens_pairs journal log sock end) (data_written log sock end bytes)
writes_pairs journal log entry = true

-- no first payload under an id, of those that an end wrote, opens a connection from node to node
abbrev pub HasNoNodePayloads : List Line → List Entry → Type 0
HasNoNodePayloads journal log =
    (sock : SockName) (end : End) (id : ℕ) → some_and (opens_nodes journal (owner sock end) (owner sock (across end))) (first_payload id (datas log sock end)) ≡ false

-- what x says to y by this entry
abbrev pub said_by : List ℕ → List ℕ → Entry → Option Saying
said_by x y (entries.Said by to epoch index mark body) =
    if bytes_eq by.node x && bytes_eq (node_of to) y
    then Some (record { by = by; to = to; epoch = epoch; index = index; mark = mark; body = body }) else None
said_by x y entry = None

-- What is promised of a log, as far as it follows from its entries' kinds: of breaks, notices, references, names and what is whole at
-- a settled all; of the others the fields that are named here.
pub record PlainlyLawful (journal : List Line) (log : List Entry) : Type 0 where
  pub breaks : HasLicensedBreaks journal log
  pub notices : HasLawfulNotices log
  pub references : FollowsReferences journal log
  pub names : FollowsNames log
  pub whole : SettlesWhole journal log
  pub next_epochs : IsTrue (each begins_next_epoch log)
  pub down_from_up : IsTrue (each falls_from_up log)
  pub dooms_live : IsTrue (each dooms_the_live log)
  pub dooms_caused : IsTrue (each (dooms_with_cause journal) log)
  pub from_ports : IsTrue (each takes_the_first_of_port log)
  pub settled_last : IsTrue (each_between (has_settled_last journal) log)
  pub settle_feeds_all : IsTrue (each (settles_whole journal) log)
