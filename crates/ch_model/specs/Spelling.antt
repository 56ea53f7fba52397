-- The one text of each line and of each entry: a word and fields, with one space before each field and a newline.
use Rattle.std.specs.Prelude.{ℕ, List, [], ◌∷◌, ◌++◌, codes}
use Rattle.std.specs.List.{flat_map}
use Rattle.std.specs.Fmt.{decimal}
use Rattle.ch_base.specs.Addresses.{address_text}
use Rattle.ch_model.specs.declared.entry.Entry.{Entry}
use Rattle.ch_model.specs.declared.entry.Entry.TheVariants as entries
use Rattle.ch_model.specs.declared.line.Line.{Line}
use Rattle.ch_model.specs.declared.line.What.{What}
use Rattle.ch_model.specs.declared.line.What.TheVariants as lines
use Rattle.ch_model.specs.SpellingFields.{line_text_of, process_text, port_text, target_text, reference_text, socket_text, end_text, bytes_text, process_or_dash, reference_or_dash, name_or_dash, taken_from, reason_text, why_text, kind_text, verdict_text}

-- the text of an entry
abbrev pub entry_text : Entry → List ℕ
entry_text (entries.Line number answer) = line_text_of (codes "line") (decimal number ∷ verdict_text answer ∷ [])
entry_text (entries.Made process spawn label) = line_text_of (codes "made") (process_text process ∷ reference_or_dash spawn ∷ name_or_dash label ∷ [])
entry_text (entries.Said by to epoch index mark body) = line_text_of (codes "said") (process_text by ∷ target_text to ∷ decimal epoch ∷ decimal index ∷ mark ∷ bytes_text body ∷ [])
entry_text (entries.Again by to epoch) = line_text_of (codes "again") (process_text by ∷ target_text to ∷ decimal epoch ∷ [])
entry_text (entries.Got by to epoch index receiver) = line_text_of (codes "got") (process_text by ∷ target_text to ∷ decimal epoch ∷ decimal index ∷ process_or_dash receiver ∷ [])
entry_text (entries.Took by port mark body) = line_text_of (codes "took") (taken_from by port ∷ mark ∷ bytes_text body ∷ [])
entry_text (entries.Port process port) = line_text_of (codes "port") (port_text process port ∷ [])
entry_text (entries.Over process reason) = line_text_of (codes "over") (process_text process ∷ reason_text reason ∷ [])
entry_text (entries.Doom process text) = line_text_of (codes "doom") (process_text process ∷ text ∷ [])
entry_text (entries.Watch watch by target kind) = line_text_of (codes "watch") (reference_text watch ∷ process_text by ∷ process_text target ∷ kind_text kind ∷ [])
entry_text (entries.Unwatch watch) = line_text_of (codes "unwatch") (reference_text watch ∷ [])
entry_text (entries.Absent watch) = line_text_of (codes "absent") (reference_text watch ∷ [])
entry_text (entries.Told watch reason) = line_text_of (codes "told") (reference_text watch ∷ reason_text reason ∷ [])
entry_text (entries.Asked question by at) = line_text_of (codes "asked") (reference_text question ∷ process_text by ∷ at ∷ [])
entry_text (entries.Spawned question process) = line_text_of (codes "spawned") (reference_text question ∷ process_text process ∷ [])
entry_text (entries.Isat question found) = line_text_of (codes "isat") (reference_text question ∷ process_or_dash found ∷ [])
entry_text (entries.Named node name process) = line_text_of (codes "named") (node ∷ name ∷ process_or_dash process ∷ [])
entry_text (entries.Shut node) = line_text_of (codes "shut") (node ∷ [])
entry_text (entries.Dial sock) = line_text_of (codes "dial") (socket_text sock ∷ [])
entry_text (entries.Knocked sock) = line_text_of (codes "knocked") (socket_text sock ∷ [])
entry_text (entries.Poked sock bytes) = line_text_of (codes "poked") (socket_text sock ∷ bytes_text bytes ∷ [])
entry_text (entries.Quitted sock) = line_text_of (codes "quitted") (socket_text sock ∷ [])
entry_text (entries.Joined sock) = line_text_of (codes "joined") (socket_text sock ∷ [])
entry_text (entries.Came sock) = line_text_of (codes "came") (socket_text sock ∷ [])
entry_text (entries.Refused sock) = line_text_of (codes "refused") (socket_text sock ∷ [])
entry_text (entries.Cut sock end) = line_text_of (codes "cut") (socket_text sock ∷ end_text end ∷ [])
entry_text (entries.Lost sock end) = line_text_of (codes "lost") (socket_text sock ∷ end_text end ∷ [])
entry_text (entries.Timed node peer) = line_text_of (codes "timed") (node ∷ peer ∷ [])
entry_text (entries.Fed sock end count) = line_text_of (codes "fed") (socket_text sock ∷ end_text end ∷ decimal count ∷ [])
entry_text (entries.Wrote sock end bytes) = line_text_of (codes "wrote") (socket_text sock ∷ end_text end ∷ bytes_text bytes ∷ [])
entry_text (entries.Up sock end) = line_text_of (codes "up") (socket_text sock ∷ end_text end ∷ [])
entry_text (entries.Down sock end) = line_text_of (codes "down") (socket_text sock ∷ end_text end ∷ [])
entry_text (entries.Left sock end) = line_text_of (codes "left") (socket_text sock ∷ end_text end ∷ [])
entry_text (entries.Broke node peer why) = line_text_of (codes "broke") (node ∷ peer ∷ why_text why ∷ [])
entry_text entries.Settled = line_text_of (codes "settled") []

-- the text of a log
abbrev pub log_text : List Entry → List ℕ
log_text log = flat_map entry_text log

-- the canonical text of a line
abbrev pub what_text : What → List ℕ
what_text (lines.Node name address unique) = line_text_of (codes "node") (name ∷ address_text address ∷ decimal unique ∷ [])
what_text (lines.Away name address unique) = line_text_of (codes "away") (name ∷ address_text address ∷ decimal unique ∷ [])
what_text (lines.Label node label) = line_text_of (codes "label") (node ∷ label ∷ [])
what_text (lines.Stranger name host) = line_text_of (codes "stranger") (name ∷ host ∷ [])
what_text (lines.Proc node) = line_text_of (codes "proc") (node ∷ [])
what_text (lines.Send by to mark body) = line_text_of (codes "send") (process_text by ∷ target_text to ∷ mark ∷ bytes_text body ∷ [])
what_text (lines.Nsend by to mark body) = line_text_of (codes "nsend") (process_text by ∷ target_text to ∷ mark ∷ bytes_text body ∷ [])
what_text (lines.Again by to) = line_text_of (codes "again") (process_text by ∷ target_text to ∷ [])
what_text (lines.Recv by mark) = line_text_of (codes "recv") (process_text by ∷ mark ∷ [])
what_text (lines.Port by) = line_text_of (codes "port") (process_text by ∷ [])
what_text (lines.Take by port) = line_text_of (codes "take") (process_text by ∷ decimal port ∷ [])
what_text (lines.End by) = line_text_of (codes "end") (process_text by ∷ [])
what_text (lines.Fail by text) = line_text_of (codes "fail") (process_text by ∷ text ∷ [])
what_text (lines.Fall by) = line_text_of (codes "fall") (process_text by ∷ [])
what_text (lines.Monitor by target) = line_text_of (codes "monitor") (process_text by ∷ process_text target ∷ [])
what_text (lines.Link by target) = line_text_of (codes "link") (process_text by ∷ process_text target ∷ [])
what_text (lines.Unwatch by watch) = line_text_of (codes "unwatch") (process_text by ∷ reference_text watch ∷ [])
what_text (lines.Exit by target text) = line_text_of (codes "exit") (process_text by ∷ process_text target ∷ text ∷ [])
what_text (lines.Kill by target text) = line_text_of (codes "kill") (process_text by ∷ process_text target ∷ text ∷ [])
what_text (lines.Spawn by at label args) = line_text_of (codes "spawn") (process_text by ∷ at ∷ label ∷ bytes_text args ∷ [])
what_text (lines.Register by name) = line_text_of (codes "register") (process_text by ∷ name ∷ [])
what_text (lines.Unregister by name) = line_text_of (codes "unregister") (process_text by ∷ name ∷ [])
what_text (lines.Whereis by at name) = line_text_of (codes "whereis") (process_text by ∷ at ∷ name ∷ [])
what_text (lines.Shut node) = line_text_of (codes "shut") (node ∷ [])
what_text (lines.Join sock) = line_text_of (codes "join") (socket_text sock ∷ [])
what_text (lines.Come sock) = line_text_of (codes "come") (socket_text sock ∷ [])
what_text (lines.Refuse sock) = line_text_of (codes "refuse") (socket_text sock ∷ [])
what_text (lines.Feed sock end count) = line_text_of (codes "feed") (socket_text sock ∷ end_text end ∷ decimal count ∷ [])
what_text (lines.Cut sock end) = line_text_of (codes "cut") (socket_text sock ∷ end_text end ∷ [])
what_text (lines.Lose sock end) = line_text_of (codes "lose") (socket_text sock ∷ end_text end ∷ [])
what_text (lines.Late node peer) = line_text_of (codes "late") (node ∷ peer ∷ [])
what_text (lines.Knock stranger node) = line_text_of (codes "knock") (stranger ∷ node ∷ [])
what_text (lines.Poke sock bytes) = line_text_of (codes "poke") (socket_text sock ∷ bytes_text bytes ∷ [])
what_text (lines.Quit sock) = line_text_of (codes "quit") (socket_text sock ∷ [])
what_text lines.Settle = line_text_of (codes "settle") []

-- the canonical text of a journal
abbrev pub journal_text : List Line → List ℕ
journal_text journal = codes "chjournal 1" ++ 10 ∷ [] ++ flat_map (λ line. what_text line.what) journal
