-- Reading from the front, with the first fault that is met. A field is a value and the bytes after it.
use Rattle.std.specs.Prelude.{ℕ, zero, suc, Bool, List, [], ◌∷◌, length, take, drop, Option, Some, None, Result, Ok, Err, nat_lt, nat_le, ◌&&◌, ◌==◌, if◌then◌else◌}
use Rattle.std.specs.List.{list_all}
use Rattle.std.specs.Int.{w32, from_be_bytes}
use Rattle.ch_base.specs.Addresses.{read_address}
use Rattle.ch_base.specs.declared.address.Address.{Address}
use Rattle.ch_base.specs.declared.address.AddressError.{AddressError}
use Rattle.ch_ident.specs.declared.error.IdentError.{IdentError}
use Rattle.ch_ident.specs.declared.error.IdentError.TheVariants.{Short, BadTag, BadText, Extra}
use Rattle.ch_ident.specs.declared.identifier.ProcessId.{ProcessId}
use Rattle.ch_ident.specs.declared.identifier.SendPortId.{SendPortId}
use Rattle.ch_ident.specs.declared.identifier.Ref.{Ref}
use Rattle.ch_ident.specs.declared.identifier.Identifier.{Identifier}
use Rattle.ch_ident.specs.declared.identifier.Identifier.TheVariants as ends
use Rattle.ch_ident.specs.declared.reason.Reason.{Reason}
use Rattle.ch_ident.specs.declared.reason.Reason.TheVariants as reasons
use Rattle.ch_ident.specs.declared.message.Message.{Message}
use Rattle.ch_ident.specs.declared.node_message.NodeMessage.{NodeMessage}
use Rattle.ch_ident.specs.declared.node_message.NodeMessage.TheVariants as messages
use Rattle.ch_ident.specs.Names.{is_graphic, is_name, is_printable}
use Rattle.ch_ident.specs.Outcome.{◌>>=◌}

-- a name, of all the bytes
unfoldable pub name_of : List ℕ → Result (List ℕ) IdentError
name_of bytes = if is_name bytes then Ok bytes else Err BadText

-- so many bytes
unfoldable pub piece_at : ℕ → List ℕ → Result (List ℕ × List ℕ) IdentError
piece_at n bytes = if nat_lt (length bytes) n then Err Short else Ok (take n bytes, drop n bytes)

-- so many bytes that each pass a test: the first that doesn't decides before their end
unfoldable pub tested_at : (ℕ → Bool) → ℕ → List ℕ → Result (List ℕ × List ℕ) IdentError
tested_at test n bytes = if list_all test (take n bytes) then piece_at n bytes else Err BadText

-- four bytes, the highest first
abbrev pub number_at : List ℕ → Result (ℕ × List ℕ) IdentError
number_at bytes = if nat_lt (length bytes) 4 then Err Short else Ok (from_be_bytes w32 (take 4 bytes), drop 4 bytes)

-- a length from 1 to 63, and that many bytes of a name
unfoldable pub name_at : List ℕ → Result (List ℕ × List ℕ) IdentError
name_at [] = Err Short
name_at (n ∷ rest) = if nat_le 1 n && nat_le n 63 then tested_at is_graphic n rest else Err BadText

-- a length of one byte, and that many bytes of a text
unfoldable pub text_at : List ℕ → Result (List ℕ × List ℕ) IdentError
text_at [] = Err Short
text_at (n ∷ rest) = tested_at is_printable n rest

-- a length of four bytes, and that many bytes
unfoldable pub long_at : List ℕ → Result (List ℕ × List ℕ) IdentError
long_at bytes = do
  n ← number_at bytes
  piece_at n.0 n.1

-- an address, where it was read; a text that is no address is out of its rule
abbrev pub address_field : Result Address AddressError → Result Address IdentError
address_field (Ok a) = Ok a
address_field (Err e) = Err BadText

-- the address of a text
abbrev pub address_of : List ℕ → Result Address IdentError
address_of text = address_field (read_address text)

-- a length from 1 to 80, and that many bytes that are an address
unfoldable pub address_at : List ℕ → Result (Address × List ℕ) IdentError
address_at [] = Err Short
address_at (n ∷ rest) = if nat_le 1 n && nat_le n 80 then (piece_at n rest >>= λ text. address_of text.0 >>= λ a. Ok (a, text.1)) else Err BadText

-- a process id: its node's address, then the two numbers
unfoldable pub process_at : List ℕ → Result (ProcessId × List ℕ) IdentError
process_at bytes = do
  node ← address_at bytes
  unique ← number_at node.1
  counter ← number_at unique.1
  Ok (record { node = node.0; unique = unique.0; counter = counter.0 }, counter.1)

-- a port id: its process, then its number
unfoldable pub port_at : List ℕ → Result (SendPortId × List ℕ) IdentError
port_at bytes = do
  process ← process_at bytes
  port ← number_at process.1
  Ok (record { process = process.0; port = port.0 }, port.1)

-- a reference: its node's address, then its number
unfoldable pub reference_at : List ℕ → Result (Ref × List ℕ) IdentError
reference_at bytes = do
  node ← address_at bytes
  number ← number_at node.1
  Ok (record { node = node.0; number = number.0 }, number.1)

-- an end of a connection, by its tag
unfoldable pub identifier_at : List ℕ → Result (Identifier × List ℕ) IdentError
identifier_at [] = Err Short
identifier_at (zero ∷ rest) = do
  node ← address_at rest
  Ok (ends.Node node.0, node.1)
identifier_at (suc zero ∷ rest) = do
  process ← process_at rest
  Ok (ends.Process process.0, process.1)
identifier_at (suc (suc zero) ∷ rest) = do
  port ← port_at rest
  Ok (ends.Port port.0, port.1)
identifier_at (suc (suc (suc tag)) ∷ rest) = Err BadTag

-- a reason, by its tag
unfoldable pub reason_at : List ℕ → Result (Reason × List ℕ) IdentError
reason_at [] = Err Short
reason_at (zero ∷ rest) = Ok (reasons.Normal, rest)
reason_at (suc zero ∷ rest) = do
  text ← text_at rest
  Ok (reasons.Exception text.0, text.1)
reason_at (suc (suc zero) ∷ rest) = Ok (reasons.Disconnect, rest)
reason_at (suc (suc (suc zero)) ∷ rest) = Ok (reasons.NodeDown, rest)
reason_at (suc (suc (suc (suc zero))) ∷ rest) = Ok (reasons.UnknownId, rest)
reason_at (suc (suc (suc (suc (suc tag)))) ∷ rest) = Err BadTag

-- whether a process was found, and which
unfoldable pub found_at : List ℕ → Result (Option ProcessId × List ℕ) IdentError
found_at [] = Err Short
found_at (zero ∷ rest) = Ok (None, rest)
found_at (suc zero ∷ rest) = do
  process ← process_at rest
  Ok (Some process.0, process.1)
found_at (suc (suc tag) ∷ rest) = Err BadTag

-- an opening message: the sending end, then the receiving end
unfoldable pub opening_at : List ℕ → Result (NodeMessage × List ℕ) IdentError
opening_at bytes = do
  from ← identifier_at bytes
  to ← identifier_at from.1
  Ok (messages.Opening from.0 to.0, to.1)

-- a monitor: its reference, then its target
unfoldable pub monitor_at : List ℕ → Result (NodeMessage × List ℕ) IdentError
monitor_at bytes = do
  watch ← reference_at bytes
  target ← process_at watch.1
  Ok (messages.Monitor watch.0 target.0, target.1)

-- the end of a monitor: its reference
unfoldable pub unmonitor_at : List ℕ → Result (NodeMessage × List ℕ) IdentError
unmonitor_at bytes = do
  watch ← reference_at bytes
  Ok (messages.Unmonitor watch.0, watch.1)

-- a link: its reference, then its target
unfoldable pub link_at : List ℕ → Result (NodeMessage × List ℕ) IdentError
link_at bytes = do
  watch ← reference_at bytes
  target ← process_at watch.1
  Ok (messages.Link watch.0 target.0, target.1)

-- the end of a link: its reference
unfoldable pub unlink_at : List ℕ → Result (NodeMessage × List ℕ) IdentError
unlink_at bytes = do
  watch ← reference_at bytes
  Ok (messages.Unlink watch.0, watch.1)

-- a spawn: its reference, the label, the arguments
unfoldable pub spawn_at : List ℕ → Result (NodeMessage × List ℕ) IdentError
spawn_at bytes = do
  question ← reference_at bytes
  label ← name_at question.1
  args ← long_at label.1
  Ok (messages.Spawn question.0 label.0 args.0, args.1)

-- the answer to a spawn: its reference, then the process
unfoldable pub did_spawn_at : List ℕ → Result (NodeMessage × List ℕ) IdentError
did_spawn_at bytes = do
  question ← reference_at bytes
  process ← process_at question.1
  Ok (messages.DidSpawn question.0 process.0, process.1)

-- a death: the watch's reference, then the reason
unfoldable pub died_at : List ℕ → Result (NodeMessage × List ℕ) IdentError
died_at bytes = do
  watch ← reference_at bytes
  reason ← reason_at watch.1
  Ok (messages.Died watch.0 reason.0, reason.1)

-- a question for a name: its reference, then the name
unfoldable pub where_is_at : List ℕ → Result (NodeMessage × List ℕ) IdentError
where_is_at bytes = do
  question ← reference_at bytes
  name ← name_at question.1
  Ok (messages.WhereIs question.0 name.0, name.1)

-- the answer to it: its reference, then what was found
unfoldable pub is_at_at : List ℕ → Result (NodeMessage × List ℕ) IdentError
is_at_at bytes = do
  question ← reference_at bytes
  found ← found_at question.1
  Ok (messages.IsAt question.0 found.0, found.1)

-- a message to a name: the name, the mark, the body
unfoldable pub named_send_at : List ℕ → Result (NodeMessage × List ℕ) IdentError
named_send_at bytes = do
  name ← name_at bytes
  mark ← name_at name.1
  body ← long_at mark.1
  Ok (messages.NamedSend name.0 mark.0 body.0, body.1)

-- an exit: its target, then its text
unfoldable pub exit_at : List ℕ → Result (NodeMessage × List ℕ) IdentError
exit_at bytes = do
  target ← process_at bytes
  text ← text_at target.1
  Ok (messages.Exit target.0 text.0, text.1)

-- a kill: its target, then its text
unfoldable pub kill_at : List ℕ → Result (NodeMessage × List ℕ) IdentError
kill_at bytes = do
  target ← process_at bytes
  text ← text_at target.1
  Ok (messages.Kill target.0 text.0, text.1)

-- the fields of a message, by its tag
unfoldable pub fields_at : ℕ → List ℕ → Result (NodeMessage × List ℕ) IdentError
fields_at zero rest = opening_at rest
fields_at (suc zero) rest = monitor_at rest
fields_at (suc (suc zero)) rest = unmonitor_at rest
fields_at (suc (suc (suc zero))) rest = link_at rest
fields_at (suc (suc (suc (suc zero)))) rest = unlink_at rest
fields_at (suc (suc (suc (suc (suc zero))))) rest = spawn_at rest
fields_at (suc (suc (suc (suc (suc (suc zero)))))) rest = did_spawn_at rest
fields_at (suc (suc (suc (suc (suc (suc (suc zero))))))) rest = died_at rest
fields_at (suc (suc (suc (suc (suc (suc (suc (suc zero)))))))) rest = where_is_at rest
fields_at (suc (suc (suc (suc (suc (suc (suc (suc (suc zero))))))))) rest = is_at_at rest
fields_at (suc (suc (suc (suc (suc (suc (suc (suc (suc (suc zero)))))))))) rest = named_send_at rest
fields_at (suc (suc (suc (suc (suc (suc (suc (suc (suc (suc (suc zero))))))))))) rest = exit_at rest
fields_at (suc (suc (suc (suc (suc (suc (suc (suc (suc (suc (suc (suc zero)))))))))))) rest = kill_at rest
fields_at (suc (suc (suc (suc (suc (suc (suc (suc (suc (suc (suc (suc (suc tag))))))))))))) rest = Err BadTag

-- a message from node to node: its tag, then its fields
unfoldable pub message_at : List ℕ → Result (NodeMessage × List ℕ) IdentError
message_at [] = Err Short
message_at (tag ∷ rest) = fields_at tag rest

-- a value that takes all of the bytes
unfoldable pub whole : {A : Type 0} → A × List ℕ → Result A IdentError
whole field = if length field.1 == 0 then Ok field.0 else Err Extra

-- all of the bytes are an identifier
unfoldable pub identifier_of : List ℕ → Result Identifier IdentError
identifier_of bytes = identifier_at bytes >>= whole

-- all of the bytes are a message from node to node
unfoldable pub message_of : List ℕ → Result NodeMessage IdentError
message_of bytes = message_at bytes >>= whole

-- all of the bytes are a user's message: its mark, and the body to the end
unfoldable pub user_of : List ℕ → Result Message IdentError
user_of bytes = do
  mark ← name_at bytes
  Ok (record { mark = mark.0; body = mark.1 })
