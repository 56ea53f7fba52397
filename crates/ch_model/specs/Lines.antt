-- Which texts are lines, and what they say, given the lines before.
use Rattle.std.specs.Prelude.{ℕ, Bool, true, ◌&&◌, List, [], ◌∷◌, ◌++◌, Option, Some, None, Result, Ok, Err, ◌==◌, if◌then◌else◌, codes}
use Rattle.std.specs.Str.{bytes_eq}
use Rattle.ch_model.specs.declared.refusal.BadKind.{BadKind}
use Rattle.ch_model.specs.declared.refusal.BadKind.TheVariants.{Form}
use Rattle.ch_model.specs.declared.line.What.{What}
use Rattle.ch_model.specs.Fields.{◌>>=◌, field_of}
use Rattle.ch_model.specs.LinesTold.{Told, told_after}
use Rattle.ch_model.specs.LinesDeclared.{node_line, away_line, label_line, stranger_line}
use Rattle.ch_model.specs.LinesOfProcesses.{proc_line, send_line, nsend_line, again_line, recv_line, port_line, take_line, end_line, fail_line, fall_line, register_line, unregister_line}
use Rattle.ch_model.specs.LinesOfPeers.{monitor_line, link_line, unwatch_line, exit_line, kill_line, spawn_line, whereis_line}
use Rattle.ch_model.specs.LinesOfSockets.{shut_line, join_line, come_line, refuse_line, feed_line, cut_line, lose_line, late_line, knock_line, poke_line, quit_line, settle_line}

-- a line's word, and how what follows it is read
pub record LineWord : Type 0 where
  pub word : List ℕ
  pub read : Told → Option (List ℕ) → Result What BadKind

-- Which lines are read: those of these words; and whether an empty line and a comment, which begins with `;`, are
-- passed over.
pub record Built : Type 0 where
  pub words : List LineWord
  pub skips : Bool

-- a word with its reader
abbrev pub reads : List ℕ → (Told → Option (List ℕ) → Result What BadKind) → LineWord
reads text reader = record { word = text; read = reader }

-- the lines that declare
abbrev pub declaring : List LineWord
declaring = reads (codes "node") node_line ∷ reads (codes "away") away_line ∷ reads (codes "label") label_line ∷ reads (codes "stranger") stranger_line ∷ []

-- the lines of processes
abbrev pub acting : List LineWord
acting =
    reads (codes "proc") proc_line ∷ reads (codes "send") send_line ∷ reads (codes "nsend") nsend_line ∷ reads (codes "again") again_line
    ∷ reads (codes "recv") recv_line ∷ reads (codes "port") port_line ∷ reads (codes "take") take_line ∷ reads (codes "end") end_line
    ∷ reads (codes "fail") fail_line ∷ reads (codes "fall") fall_line ∷ reads (codes "register") register_line
    ∷ reads (codes "unregister") unregister_line ∷ reads (codes "monitor") monitor_line ∷ reads (codes "link") link_line
    ∷ reads (codes "unwatch") unwatch_line ∷ reads (codes "exit") exit_line ∷ reads (codes "kill") kill_line
    ∷ reads (codes "spawn") spawn_line ∷ reads (codes "whereis") whereis_line ∷ []

-- the lines of nodes, sockets and strangers
abbrev pub happening : List LineWord
happening =
    reads (codes "shut") shut_line ∷ reads (codes "join") join_line ∷ reads (codes "come") come_line ∷ reads (codes "refuse") refuse_line
    ∷ reads (codes "feed") feed_line ∷ reads (codes "cut") cut_line ∷ reads (codes "lose") lose_line ∷ reads (codes "late") late_line
    ∷ reads (codes "knock") knock_line ∷ reads (codes "poke") poke_line ∷ reads (codes "quit") quit_line ∷ reads (codes "settle") settle_line ∷ []

-- every line of wire version 1
abbrev pub whole : Built
whole = record { words = declaring ++ acting ++ happening; skips = true }

-- the line of a word: what the reader of that word reads; a word that isn't among them is of the wrong form
unfoldable pub line_of_word : List LineWord → Told → List ℕ → Option (List ℕ) → Result What BadKind
line_of_word [] told word rest = Err Form
line_of_word (own ∷ others) told word rest = if bytes_eq word own.word then own.read told rest else line_of_word others told word rest

-- what a line after the header says
unfoldable pub line_said : Built → Told → List ℕ → Result What BadKind
line_said built told text = do
  word ← field_of (Some text)
  line_of_word built.words told word.0 word.1

-- an empty line, or a comment
abbrev pub says_nothing : List ℕ → Bool
says_nothing [] = true
says_nothing (b ∷ bs) = b == 59

-- the first line of a journal
abbrev pub header : List ℕ
header = codes "chjournal 1"

-- what a line says, and what is told then
abbrev pub said_and_told : Told → Result What BadKind → Result (Option What × Told) BadKind
said_and_told told (Err kind) = Err kind
said_and_told told (Ok what) = Ok (Some what, told_after told what)

-- a line after the header
abbrev pub read_after_header : Built → Told → List ℕ → Result (Option What × Told) BadKind
read_after_header built told text =
    if built.skips && says_nothing text then Ok (None, told) else said_and_told told (line_said built told text)

-- the first line
abbrev pub read_header : Told → List ℕ → Result (Option What × Told) BadKind
read_header told text = if bytes_eq text header then Ok (None, record told { header = true }) else Err Form

-- reading one line: the header and a line that is passed over say nothing, each other line what it says
abbrev pub read_line : Built → Told → List ℕ → Result (Option What × Told) BadKind
read_line built told text = if told.header then read_after_header built told text else read_header told text
