-- The fields that name a process, a target, a reference or a socket. Each is cut into names and digits first; the
-- numbers of the digits are asked for when every field of the line is of its class.
use Rattle.std.specs.Prelude.{ℕ, List, Option, Some, None, Result, Ok, not}
use Rattle.std.specs.Str.{bytes_eq}
use Rattle.ch_model.specs.declared.refusal.BadKind.{BadKind}
use Rattle.ch_model.specs.declared.refusal.BadKind.TheVariants.{Form}
use Rattle.ch_model.specs.declared.name.ProcName.{ProcName}
use Rattle.ch_model.specs.declared.name.RefName.{RefName}
use Rattle.ch_model.specs.declared.name.SockName.{SockName}
use Rattle.ch_model.specs.declared.name.TargetName.{TargetName}
use Rattle.ch_model.specs.declared.name.TargetName.TheVariants.{Process, Port, Named}
use Rattle.ch_model.specs.Fields.{◌>>=◌, need, or_else, at_byte, node_name_of, digits_of, word_of, number_in}

-- ---- cut, and of their class

-- a process: a node's name, a dot and digits
unfoldable pub process_of : List ℕ → Result (List ℕ × List ℕ) BadKind
process_of field = do
  parts ← or_else Form (at_byte 46 field)
  name ← node_name_of parts.0
  digits ← digits_of parts.1
  Ok (name, digits)

-- a process, and the digits of its port where they came
unfoldable pub destination_parts : List ℕ → Option (List ℕ × List ℕ) → Result ((List ℕ × List ℕ) × Option (List ℕ)) BadKind
destination_parts field None = do
  process ← process_of field
  Ok (process, None)
destination_parts field (Some parts) = do
  process ← process_of parts.0
  port ← digits_of parts.1
  Ok (process, Some port)

-- a destination: a process, or a process, a slash and the digits of its port
unfoldable pub destination_of : List ℕ → Result ((List ℕ × List ℕ) × Option (List ℕ)) BadKind
destination_of field = destination_parts field (at_byte 47 field)

-- a named target: a node's name, a colon and a word
unfoldable pub named_of : List ℕ → Result TargetName BadKind
named_of field = do
  parts ← or_else Form (at_byte 58 field)
  node ← node_name_of parts.0
  name ← word_of parts.1
  Ok (Named node name)

-- a reference: a node's name, an exclamation mark and digits
unfoldable pub reference_of : List ℕ → Result (List ℕ × List ℕ) BadKind
reference_of field = do
  parts ← or_else Form (at_byte 33 field)
  name ← node_name_of parts.0
  digits ← digits_of parts.1
  Ok (name, digits)

-- a socket: two different names with `>` between them, a dot and digits
unfoldable pub socket_of : List ℕ → Result (List ℕ × List ℕ × List ℕ) BadKind
socket_of field = do
  parts ← or_else Form (at_byte 62 field)
  from ← node_name_of parts.0
  to ← process_of parts.1
  other ← need Form (not (bytes_eq from to.0)) to.0
  Ok (from, other, to.1)

-- ---- numbers in their range

-- a process whose number is in its range
unfoldable pub numbered : List ℕ × List ℕ → Result ProcName BadKind
numbered process = do
  number ← number_in process.1
  Ok (record { node = process.0; counter = number })

-- a target that is a process, or a port by its digits
unfoldable pub numbered_target : ProcName → Option (List ℕ) → Result TargetName BadKind
numbered_target process None = Ok (Process process)
numbered_target process (Some digits) = do
  port ← number_in digits
  Ok (Port process port)

-- a destination whose numbers are in their range
unfoldable pub numbered_destination : (List ℕ × List ℕ) × Option (List ℕ) → Result TargetName BadKind
numbered_destination destination = do
  process ← numbered destination.0
  numbered_target process destination.1

-- a reference whose number is in its range
unfoldable pub numbered_reference : List ℕ × List ℕ → Result RefName BadKind
numbered_reference reference = do
  number ← number_in reference.1
  Ok (record { node = reference.0; number = number })

-- a socket whose number is in its range
unfoldable pub numbered_socket : List ℕ × List ℕ × List ℕ → Result SockName BadKind
numbered_socket socket = do
  number ← number_in socket.2
  Ok (record { from = socket.0; to = socket.1; number = number })

-- the node of a target
abbrev pub target_node : TargetName → List ℕ
target_node (Process process) = process.node
target_node (Port process port) = process.node
target_node (Named node name) = node
