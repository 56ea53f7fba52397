-- The lines by which a process acts on its own: it is made, sends, takes, opens a port, ends, and names itself.
use Rattle.std.specs.Prelude.{ℕ, List, Option, Result, Ok}
use Rattle.ch_model.specs.declared.refusal.BadKind.{BadKind}
use Rattle.ch_model.specs.declared.name.ProcName.{ProcName}
use Rattle.ch_model.specs.declared.line.What.{What}
use Rattle.ch_model.specs.declared.line.What.TheVariants as lines
use Rattle.ch_model.specs.Fields.{◌>>=◌, field_of, last_of, node_name_of, digits_of, word_of, sent_mark_of, bytes_of, text_of, number_in}
use Rattle.ch_model.specs.FieldsOfNames.{process_of, destination_of, named_of, numbered, numbered_destination, target_node}
use Rattle.ch_model.specs.LinesTold.{Told, declared_in, peer_in}

-- a process of a node, and no more
unfoldable pub process_alone : Told → Option (List ℕ) → Result ProcName BadKind
process_alone told rest = do
  by ← field_of rest
  last ← last_of by.1
  actor ← process_of by.0
  process ← numbered actor
  node ← declared_in told process.node
  Ok process

-- a process of a node, and a word
unfoldable pub process_and_word : Told → Option (List ℕ) → Result (ProcName × List ℕ) BadKind
process_and_word told rest = do
  by ← field_of rest
  mark ← field_of by.1
  last ← last_of mark.1
  actor ← process_of by.0
  word ← word_of mark.0
  process ← numbered actor
  node ← declared_in told process.node
  Ok (process, word)

-- `proc N`
unfoldable pub proc_line : Told → Option (List ℕ) → Result What BadKind
proc_line told rest = do
  name ← field_of rest
  last ← last_of name.1
  named ← node_name_of name.0
  node ← declared_in told named
  Ok (lines.Proc node)

-- `send P D word hex`
unfoldable pub send_line : Told → Option (List ℕ) → Result What BadKind
send_line told rest = do
  by ← field_of rest
  to ← field_of by.1
  mark ← field_of to.1
  body ← field_of mark.1
  last ← last_of body.1
  sender ← process_of by.0
  receiver ← destination_of to.0
  word ← sent_mark_of mark.0
  bytes ← bytes_of body.0
  from ← numbered sender
  goal ← numbered_destination receiver
  one ← declared_in told from.node
  other ← peer_in told (target_node goal)
  Ok (lines.Send from goal word bytes)

-- `nsend P T word hex`
unfoldable pub nsend_line : Told → Option (List ℕ) → Result What BadKind
nsend_line told rest = do
  by ← field_of rest
  to ← field_of by.1
  mark ← field_of to.1
  body ← field_of mark.1
  last ← last_of body.1
  sender ← process_of by.0
  goal ← named_of to.0
  word ← sent_mark_of mark.0
  bytes ← bytes_of body.0
  from ← numbered sender
  one ← declared_in told from.node
  other ← peer_in told (target_node goal)
  Ok (lines.Nsend from goal word bytes)

-- `again P D`
unfoldable pub again_line : Told → Option (List ℕ) → Result What BadKind
again_line told rest = do
  by ← field_of rest
  to ← field_of by.1
  last ← last_of to.1
  sender ← process_of by.0
  receiver ← destination_of to.0
  from ← numbered sender
  goal ← numbered_destination receiver
  one ← declared_in told from.node
  other ← peer_in told (target_node goal)
  Ok (lines.Again from goal)

-- `recv P word`
unfoldable pub recv_line : Told → Option (List ℕ) → Result What BadKind
recv_line told rest = do
  taken ← process_and_word told rest
  Ok (lines.Recv taken.0 taken.1)

-- `port P`
unfoldable pub port_line : Told → Option (List ℕ) → Result What BadKind
port_line told rest = do
  process ← process_alone told rest
  Ok (lines.Port process)

-- `take P num`
unfoldable pub take_line : Told → Option (List ℕ) → Result What BadKind
take_line told rest = do
  by ← field_of rest
  port ← field_of by.1
  last ← last_of port.1
  taker ← process_of by.0
  digits ← digits_of port.0
  process ← numbered taker
  number ← number_in digits
  node ← declared_in told process.node
  Ok (lines.Take process number)

-- `end P`
unfoldable pub end_line : Told → Option (List ℕ) → Result What BadKind
end_line told rest = do
  process ← process_alone told rest
  Ok (lines.End process)

-- `fail P text`
unfoldable pub fail_line : Told → Option (List ℕ) → Result What BadKind
fail_line told rest = do
  by ← field_of rest
  actor ← process_of by.0
  text ← text_of by.1
  process ← numbered actor
  node ← declared_in told process.node
  Ok (lines.Fail process text)

-- `fall P`
unfoldable pub fall_line : Told → Option (List ℕ) → Result What BadKind
fall_line told rest = do
  process ← process_alone told rest
  Ok (lines.Fall process)

-- `register P word`
unfoldable pub register_line : Told → Option (List ℕ) → Result What BadKind
register_line told rest = do
  named ← process_and_word told rest
  Ok (lines.Register named.0 named.1)

-- `unregister P word`
unfoldable pub unregister_line : Told → Option (List ℕ) → Result What BadKind
unregister_line told rest = do
  named ← process_and_word told rest
  Ok (lines.Unregister named.0 named.1)
