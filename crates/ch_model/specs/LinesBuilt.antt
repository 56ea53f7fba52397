-- Parts of the whole grammar: the lines of one node, and those of any number of nodes between which nothing is lost.
use Rattle.std.specs.Prelude.{ℕ, Bool, true, false, List, [], ◌∷◌, Option, Result, Ok, codes}
use Rattle.ch_model.specs.declared.refusal.BadKind.{BadKind}
use Rattle.ch_model.specs.declared.refusal.BadKind.TheVariants.{Form}
use Rattle.ch_model.specs.declared.name.TargetName.TheVariants.{Process}
use Rattle.ch_model.specs.declared.line.What.{What}
use Rattle.ch_model.specs.declared.line.What.TheVariants as lines
use Rattle.ch_model.specs.Fields.{◌>>=◌, need, field_of, last_of, sent_mark_of, bytes_of}
use Rattle.ch_model.specs.FieldsOfNames.{process_of, numbered}
use Rattle.ch_model.specs.LinesTold.{Told, declared_in}
use Rattle.ch_model.specs.LinesDeclared.{node_line}
use Rattle.ch_model.specs.LinesOfProcesses.{proc_line, recv_line, end_line}
use Rattle.ch_model.specs.LinesOfSockets.{join_line, come_line, feed_line}
use Rattle.ch_model.specs.Lines.{Built, reads}

-- nothing was declared
abbrev pub is_bare : List What → Bool
is_bare [] = true
is_bare (what ∷ whats) = false

-- `node N address num`, once
unfoldable pub only_node_line : Told → Option (List ℕ) → Result What BadKind
only_node_line told rest = do
  first ← need Form (is_bare told.declarations) true
  node_line told rest

-- `send P P word hex`, to a process of the node
unfoldable pub send_process_line : Told → Option (List ℕ) → Result What BadKind
send_process_line told rest = do
  by ← field_of rest
  to ← field_of by.1
  mark ← field_of to.1
  body ← field_of mark.1
  last ← last_of body.1
  sender ← process_of by.0
  receiver ← process_of to.0
  word ← sent_mark_of mark.0
  bytes ← bytes_of body.0
  from ← numbered sender
  goal ← numbered receiver
  one ← declared_in told from.node
  other ← declared_in told goal.node
  Ok (lines.Send from (Process goal) word bytes)

-- the lines of one node, without empty lines and comments
abbrev pub one_node : Built
one_node = record {
  words =
      reads (codes "send") send_process_line ∷ reads (codes "recv") recv_line ∷ reads (codes "end") end_line
      ∷ reads (codes "proc") proc_line ∷ reads (codes "node") only_node_line ∷ [];
  skips = false;
}

-- the lines of any number of nodes between which nothing is lost, without empty lines and comments
abbrev pub many_nodes : Built
many_nodes = record {
  words =
      reads (codes "send") send_process_line ∷ reads (codes "recv") recv_line ∷ reads (codes "end") end_line
      ∷ reads (codes "feed") feed_line ∷ reads (codes "join") join_line ∷ reads (codes "come") come_line
      ∷ reads (codes "proc") proc_line ∷ reads (codes "node") node_line ∷ [];
  skips = false;
}
