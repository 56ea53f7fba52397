-- The lines by which a process acts on another process or asks a node: watches, exits, kills, spawns and questions.
use Rattle.std.specs.Prelude.{ℕ, List, Option, Result, Ok}
use Rattle.ch_model.specs.declared.refusal.BadKind.{BadKind}
use Rattle.ch_model.specs.declared.name.ProcName.{ProcName}
use Rattle.ch_model.specs.declared.line.What.{What}
use Rattle.ch_model.specs.declared.line.What.TheVariants as lines
use Rattle.ch_model.specs.Fields.{◌>>=◌, field_of, last_of, node_name_of, word_of, bytes_of, text_of}
use Rattle.ch_model.specs.FieldsOfNames.{process_of, reference_of, numbered, numbered_reference}
use Rattle.ch_model.specs.LinesTold.{Told, declared_in, peer_in}

-- a process of a node, and a process that it acts upon
unfoldable pub process_and_peer : Told → Option (List ℕ) → Result (ProcName × ProcName) BadKind
process_and_peer told rest = do
  by ← field_of rest
  on ← field_of by.1
  last ← last_of on.1
  actor ← process_of by.0
  target ← process_of on.0
  process ← numbered actor
  peer ← numbered target
  one ← declared_in told process.node
  other ← peer_in told peer.node
  Ok (process, peer)

-- a process of a node, a process that it acts upon, and a text
unfoldable pub process_peer_and_text : Told → Option (List ℕ) → Result (ProcName × ProcName × List ℕ) BadKind
process_peer_and_text told rest = do
  by ← field_of rest
  on ← field_of by.1
  actor ← process_of by.0
  target ← process_of on.0
  text ← text_of on.1
  process ← numbered actor
  peer ← numbered target
  one ← declared_in told process.node
  other ← peer_in told peer.node
  Ok (process, peer, text)

-- `monitor P P`
unfoldable pub monitor_line : Told → Option (List ℕ) → Result What BadKind
monitor_line told rest = do
  watch ← process_and_peer told rest
  Ok (lines.Monitor watch.0 watch.1)

-- `link P P`
unfoldable pub link_line : Told → Option (List ℕ) → Result What BadKind
link_line told rest = do
  watch ← process_and_peer told rest
  Ok (lines.Link watch.0 watch.1)

-- `unwatch P R`
unfoldable pub unwatch_line : Told → Option (List ℕ) → Result What BadKind
unwatch_line told rest = do
  by ← field_of rest
  watch ← field_of by.1
  last ← last_of watch.1
  actor ← process_of by.0
  asked ← reference_of watch.0
  process ← numbered actor
  reference ← numbered_reference asked
  one ← declared_in told process.node
  other ← peer_in told reference.node
  Ok (lines.Unwatch process reference)

-- `exit P P text`
unfoldable pub exit_line : Told → Option (List ℕ) → Result What BadKind
exit_line told rest = do
  doomed ← process_peer_and_text told rest
  Ok (lines.Exit doomed.0 doomed.1 doomed.2)

-- `kill P P text`
unfoldable pub kill_line : Told → Option (List ℕ) → Result What BadKind
kill_line told rest = do
  doomed ← process_peer_and_text told rest
  Ok (lines.Kill doomed.0 doomed.1 doomed.2)

-- `spawn P N word hex`
unfoldable pub spawn_line : Told → Option (List ℕ) → Result What BadKind
spawn_line told rest = do
  by ← field_of rest
  at ← field_of by.1
  label ← field_of at.1
  args ← field_of label.1
  last ← last_of args.1
  actor ← process_of by.0
  named ← node_name_of at.0
  word ← word_of label.0
  bytes ← bytes_of args.0
  process ← numbered actor
  one ← declared_in told process.node
  node ← peer_in told named
  Ok (lines.Spawn process node word bytes)

-- `whereis P N word`
unfoldable pub whereis_line : Told → Option (List ℕ) → Result What BadKind
whereis_line told rest = do
  by ← field_of rest
  at ← field_of by.1
  name ← field_of at.1
  last ← last_of name.1
  actor ← process_of by.0
  named ← node_name_of at.0
  word ← word_of name.0
  process ← numbered actor
  one ← declared_in told process.node
  node ← peer_in told named
  Ok (lines.Whereis process node word)
