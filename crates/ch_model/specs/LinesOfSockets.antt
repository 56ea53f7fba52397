-- The lines by which the network, a stranger or a node as a whole acts.
use Rattle.std.specs.Prelude.{ℕ, List, Option, Result, Ok, not}
use Rattle.std.specs.Str.{bytes_eq}
use Rattle.ch_model.specs.declared.refusal.BadKind.{BadKind}
use Rattle.ch_model.specs.declared.refusal.BadKind.TheVariants.{Form}
use Rattle.ch_model.specs.declared.name.End.{End}
use Rattle.ch_model.specs.declared.name.SockName.{SockName}
use Rattle.ch_model.specs.declared.line.What.{What}
use Rattle.ch_model.specs.declared.line.What.TheVariants as lines
use Rattle.ch_model.specs.Fields.{◌>>=◌, need, field_of, last_of, node_name_of, digits_of, bytes_of, end_of, count_in}
use Rattle.ch_model.specs.FieldsOfNames.{socket_of, numbered_socket}
use Rattle.ch_model.specs.LinesTold.{Told, declared_in, peer_in, stranger_in, opener_in}

-- a socket that a node or a stranger opened, and no more
unfoldable pub socket_alone : Told → Option (List ℕ) → Result SockName BadKind
socket_alone told rest = do
  sock ← field_of rest
  last ← last_of sock.1
  parts ← socket_of sock.0
  socket ← numbered_socket parts
  from ← opener_in told socket.from
  to ← peer_in told socket.to
  Ok socket

-- such a socket, and an end
unfoldable pub socket_and_end : Told → Option (List ℕ) → Result (SockName × End) BadKind
socket_and_end told rest = do
  sock ← field_of rest
  letter ← field_of sock.1
  last ← last_of letter.1
  parts ← socket_of sock.0
  end ← end_of letter.0
  socket ← numbered_socket parts
  from ← opener_in told socket.from
  to ← peer_in told socket.to
  Ok (socket, end)

-- `shut N`
unfoldable pub shut_line : Told → Option (List ℕ) → Result What BadKind
shut_line told rest = do
  name ← field_of rest
  last ← last_of name.1
  named ← node_name_of name.0
  node ← declared_in told named
  Ok (lines.Shut node)

-- `join S`
unfoldable pub join_line : Told → Option (List ℕ) → Result What BadKind
join_line told rest = do
  socket ← socket_alone told rest
  Ok (lines.Join socket)

-- `come S`
unfoldable pub come_line : Told → Option (List ℕ) → Result What BadKind
come_line told rest = do
  socket ← socket_alone told rest
  Ok (lines.Come socket)

-- `refuse S`
unfoldable pub refuse_line : Told → Option (List ℕ) → Result What BadKind
refuse_line told rest = do
  socket ← socket_alone told rest
  Ok (lines.Refuse socket)

-- `feed S E num`, the number being at least 1
unfoldable pub feed_line : Told → Option (List ℕ) → Result What BadKind
feed_line told rest = do
  sock ← field_of rest
  letter ← field_of sock.1
  count ← field_of letter.1
  last ← last_of count.1
  parts ← socket_of sock.0
  end ← end_of letter.0
  digits ← digits_of count.0
  socket ← numbered_socket parts
  number ← count_in digits
  from ← opener_in told socket.from
  to ← peer_in told socket.to
  Ok (lines.Feed socket end number)

-- `cut S E`
unfoldable pub cut_line : Told → Option (List ℕ) → Result What BadKind
cut_line told rest = do
  place ← socket_and_end told rest
  Ok (lines.Cut place.0 place.1)

-- `lose S E`
unfoldable pub lose_line : Told → Option (List ℕ) → Result What BadKind
lose_line told rest = do
  place ← socket_and_end told rest
  Ok (lines.Lose place.0 place.1)

-- `late N N`, of two different names
unfoldable pub late_line : Told → Option (List ℕ) → Result What BadKind
late_line told rest = do
  name ← field_of rest
  other ← field_of name.1
  last ← last_of other.1
  first ← node_name_of name.0
  second ← node_name_of other.0
  apart ← need Form (not (bytes_eq first second)) second
  node ← declared_in told first
  peer ← peer_in told apart
  Ok (lines.Late node peer)

-- `knock N N`: a stranger, and a node
unfoldable pub knock_line : Told → Option (List ℕ) → Result What BadKind
knock_line told rest = do
  name ← field_of rest
  other ← field_of name.1
  last ← last_of other.1
  first ← node_name_of name.0
  second ← node_name_of other.0
  stranger ← stranger_in told first
  node ← declared_in told second
  Ok (lines.Knock stranger node)

-- `poke S hex`, of a stranger's socket
unfoldable pub poke_line : Told → Option (List ℕ) → Result What BadKind
poke_line told rest = do
  sock ← field_of rest
  written ← field_of sock.1
  last ← last_of written.1
  parts ← socket_of sock.0
  bytes ← bytes_of written.0
  socket ← numbered_socket parts
  from ← stranger_in told socket.from
  to ← peer_in told socket.to
  Ok (lines.Poke socket bytes)

-- `quit S`, of a stranger's socket
unfoldable pub quit_line : Told → Option (List ℕ) → Result What BadKind
quit_line told rest = do
  sock ← field_of rest
  last ← last_of sock.1
  parts ← socket_of sock.0
  socket ← numbered_socket parts
  from ← stranger_in told socket.from
  to ← peer_in told socket.to
  Ok (lines.Quit socket)

-- `settle`
unfoldable pub settle_line : Told → Option (List ℕ) → Result What BadKind
settle_line told rest = do
  last ← last_of rest
  Ok lines.Settle
