-- Sharper clauses: what the promises leave open, and the model doesn't.
use Rattle.std.specs.Prelude.{ℕ, Bool, true, false, not, ◌&&◌, ◌||◌, List, ◌++◌, count_by, length, take, Some, None, IsTrue, ◌==◌, nat_lt}
use Rattle.std.specs.List.{list_any, list_all}
use Rattle.std.specs.Str.{bytes_eq}
use Rattle.ch_base.specs.declared.address.Address.{Address}
use Rattle.ch_wire.specs.Words.{word_value}
use Rattle.ch_model.specs.declared.name.ProcName.{ProcName}
use Rattle.ch_model.specs.declared.name.End.TheVariants.{O}
use Rattle.ch_model.specs.declared.entry.Entry.{Entry}
use Rattle.ch_model.specs.declared.entry.Entry.TheVariants as entries
use Rattle.ch_model.specs.declared.entry.Verdict.TheVariants as verdicts
use Rattle.ch_model.specs.declared.line.Line.{Line}
use Rattle.ch_model.specs.declared.line.What.{What}
use Rattle.ch_model.specs.declared.line.What.TheVariants as lines
use Rattle.ch_model.specs.Same.{node_of, process_of, owner, across}
use Rattle.ch_model.specs.Logs.{each, each_between, until, some_and, next_is, last_is}
use Rattle.ch_model.specs.Declarations.{address_of, is_stranger, has_label}
use Rattle.ch_model.specs.Marks.{is_mark, current_line, in_settle}
use Rattle.ch_model.specs.Epochs.{breaks}
use Rattle.ch_model.specs.Life.{is_over}
use Rattle.ch_model.specs.LifeRules.{unlabelled}
use Rattle.ch_model.specs.Watches.{ends_with}
use Rattle.ch_model.specs.References.{answers_spawn}
use Rattle.ch_model.specs.Delivery.{gets_it}
use Rattle.ch_model.specs.Sockets.{writings}
use Rattle.ch_model.specs.Links.{has_risen, is_closed}
use Rattle.ch_model.specs.Answers.{answer_to}
use Rattle.ch_model.specs.HasAnswers.{same_answer, is_own_of_last}

-- the line shuts this node
abbrev pub is_shut_line : List ℕ → What → Bool
is_shut_line x (lines.Shut node) = bytes_eq node x
is_shut_line x what = false

-- an end that goes down breaks its node's link next, unless the node is shutting
abbrev pub downs_break : List Line → List Entry → Entry → List Entry → Bool
downs_break journal log (entries.Down sock end) rest =
    next_is (breaks (owner sock end) (owner sock (across end))) rest || some_and (is_shut_line (owner sock end)) (current_line journal log)
downs_break journal log entry rest = true

-- the line would be done
abbrev pub would_do : List Line → List Entry → What → Bool
would_do journal log what = same_answer (answer_to journal log what) verdicts.Ok

-- what the network does in a settle it does only where the same line would be done
abbrev pub settles_as_lines : List Line → List Entry → Entry → Bool
settles_as_lines journal log (entries.Joined sock) = not (in_settle journal log) || would_do journal log (lines.Join sock)
settles_as_lines journal log (entries.Came sock) = not (in_settle journal log) || would_do journal log (lines.Come sock)
settles_as_lines journal log (entries.Refused sock) = not (in_settle journal log) || would_do journal log (lines.Refuse sock)
settles_as_lines journal log (entries.Fed sock end count) = not (in_settle journal log) || would_do journal log (lines.Feed sock end count)
settles_as_lines journal log (entries.Timed node peer) = not (in_settle journal log) || would_do journal log (lines.Late node peer)
settles_as_lines journal log entry = true

-- a process whose label its node hasn't is over next
abbrev pub ends_unlabelled : List Line → List Entry → Entry → List Entry → Bool
ends_unlabelled journal log (entries.Made process (Some spawn) (Some label)) rest = has_label journal process.node label || next_is (ends_with process unlabelled) rest
ends_unlabelled journal log entry rest = true

-- what stands after, up to the next mark
abbrev pub of_line : List Entry → List Entry
of_line rest = until is_mark rest

-- a process that is made for a spawn of its own node answers it in the same line
abbrev pub answers_own_spawn : List Entry → Entry → List Entry → Bool
answers_own_spawn log (entries.Made process (Some spawn) label) rest = not (bytes_eq process.node spawn.node) || list_any (answers_spawn spawn) (of_line rest)
answers_own_spawn log entry rest = true

-- a process that no spawn made is the own entry of its line
abbrev pub is_made_by_line : List Line → List Entry → Entry → Bool
is_made_by_line journal log (entries.Made process None label) = is_own_of_last journal log (entries.Made process None label)
is_made_by_line journal log entry = true

-- a process ends, or a name of a process falls away
abbrev pub is_fall_of_names : Entry → Bool
is_fall_of_names (entries.Over process reason) = true
is_fall_of_names (entries.Named node name None) = true
is_fall_of_names entry = false

-- a name is given or taken away by its line; or falls away where a process ends
abbrev pub is_named_by_line : List Line → List Entry → Entry → Bool
is_named_by_line journal log (entries.Named node name None) = is_own_of_last journal log (entries.Named node name None) || last_is is_fall_of_names log
is_named_by_line journal log (entries.Named node name found) = is_own_of_last journal log (entries.Named node name found)
is_named_by_line journal log entry = true

-- the entry opens a port of this process
abbrev pub opens_port_of : ProcName → Entry → Bool
opens_port_of p (entries.Port process port) = bytes_eq process.node p.node && process.counter == p.counter
opens_port_of p entry = false

-- a port has the number of those of its process that were opened before
abbrev pub is_next_port : List Entry → Entry → Bool
is_next_port log (entries.Port process port) = port == count_by (opens_port_of process) log
is_next_port log entry = true

-- no link comes up on a stranger's socket
abbrev pub accepts_no_stranger : List Line → List Entry → Entry → Bool
accepts_no_stranger journal log (entries.Up sock end) = not (is_stranger journal sock.from)
accepts_no_stranger journal log entry = true

-- an opener writes frames once it is up
abbrev pub opener_writes_up : List Entry → Entry → Bool
opener_writes_up log (entries.Wrote sock O bytes) = length (writings log sock O) == 0 || has_risen log sock O
opener_writes_up log entry = true

-- a request names the number of its target's address
abbrev pub requests_by_number : List Line → List Entry → Entry → Bool
requests_by_number journal log (entries.Wrote sock O bytes) =
    nat_lt 0 (length (writings log sock O)) || some_and (λ (at : Address). word_value (take 4 bytes) == at.id) (address_of journal sock.to)
requests_by_number journal log entry = true

-- what is said on one node, to a name or to a process that isn't over, is got next
abbrev pub gets_next : List Entry → Entry → List Entry → Bool
gets_next log (entries.Said by to epoch index mark body) rest =
    not (bytes_eq by.node (node_of to)) || some_and (is_over log) (process_of to) || next_is (gets_it by to epoch index) rest
gets_next log entry rest = true

-- the node's end that came up by the entry is closed in this log
abbrev pub has_gone_down : List Entry → List ℕ → Entry → Bool
has_gone_down log x (entries.Up sock end) = not (bytes_eq (owner sock end) x) || is_closed log sock end
has_gone_down log x entry = true

-- once a node's shut is done no end of it is up
abbrev pub shuts_down : List Entry → Entry → List Entry → Bool
shuts_down log (entries.Shut node) rest = list_all (has_gone_down (log ++ of_line rest) node) log
shuts_down log entry rest = true

-- the sharper clauses
pub record IsSharper (journal : List Line) (log : List Entry) : Type 0 where
  pub down_breaks : IsTrue (each_between (downs_break journal) log)
  pub settle_as_lines : IsTrue (each (settles_as_lines journal) log)
  pub unlabelled_ends : IsTrue (each_between (ends_unlabelled journal) log)
  pub own_spawn_answered : IsTrue (each_between answers_own_spawn log)
  pub made_by_line : IsTrue (each (is_made_by_line journal) log)
  pub named_by_line : IsTrue (each (is_named_by_line journal) log)
  pub next_port : IsTrue (each is_next_port log)
  pub no_stranger_up : IsTrue (each (accepts_no_stranger journal) log)
  pub opener_up_first : IsTrue (each opener_writes_up log)
  pub target_number : IsTrue (each (requests_by_number journal) log)
  pub got_at_once : IsTrue (each_between gets_next log)
  pub shut_is_down : IsTrue (each_between shuts_down log)
