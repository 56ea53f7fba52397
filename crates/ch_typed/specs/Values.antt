-- The values of numbers, texts, processes and ports, as bytes.
use Rattle.std.specs.Prelude.{ℕ, ◌==◌, List, length, take, Option, Some, None, Result, Ok, Err, if◌then◌else◌}
use Rattle.std.specs.Int.{w32, w64, from_be_bytes}
use Rattle.ch_ident.specs.declared.error.IdentError.{IdentError}
use Rattle.ch_ident.specs.declared.error.IdentError.TheVariants as ident
use Rattle.ch_ident.specs.declared.identifier.ProcessId.{ProcessId}
use Rattle.ch_ident.specs.declared.identifier.SendPortId.{SendPortId}
use Rattle.ch_ident.specs.declared.identifier.Identifier.{Identifier}
use Rattle.ch_ident.specs.declared.identifier.Identifier.TheVariants as ends
use Rattle.ch_ident.specs.Spelling.{identifier}
use Rattle.ch_ident.specs.Reading.{identifier_of}
use Rattle.ch_typed.specs.declared.error.TypedError.{TypedError}
use Rattle.ch_typed.specs.declared.error.TypedError.TheVariants.{BadBody, OutOfMemory}

-- a number of four bytes, the highest first
unfoldable pub word_read : List ℕ → Option ℕ
word_read bytes = if length bytes == 4 then Some (from_be_bytes w32 (take 4 bytes)) else None

-- a number of eight bytes, the highest first
unfoldable pub long_read : List ℕ → Option ℕ
long_read bytes = if length bytes == 8 then Some (from_be_bytes w64 (take 8 bytes)) else None

-- any bytes are a text
abbrev pub text_read : List ℕ → Option (List ℕ)
text_read bytes = Some bytes

-- the process of an identifier
abbrev pub as_process : Identifier → Option ProcessId
as_process (ends.Node node) = None
as_process (ends.Process process) = Some process
as_process (ends.Port port) = None

-- the port of an identifier
abbrev pub as_port : Identifier → Option SendPortId
as_port (ends.Node node) = None
as_port (ends.Process process) = None
as_port (ends.Port port) = Some port

-- what an identifier that was read is taken for
abbrev pub picked : {A : Type 0} → (Identifier → Option A) → Result Identifier IdentError → Option A
picked pick (Ok identifier) = pick identifier
picked pick (Err e) = None

-- a process is spelled as an identifier
abbrev pub process_spelling : ProcessId → List ℕ
process_spelling process = identifier (ends.Process process)

abbrev pub process_read : List ℕ → Option ProcessId
process_read bytes = picked as_process (identifier_of bytes)

-- a port is spelled as an identifier
abbrev pub port_spelling : SendPortId → List ℕ
port_spelling port = identifier (ends.Port port)

abbrev pub port_read : List ℕ → Option SendPortId
port_read bytes = picked as_port (identifier_of bytes)

-- bytes that are no identifier are no value's spelling
abbrev pub of_reading : IdentError → TypedError
of_reading ident.OutOfMemory = OutOfMemory
of_reading e = BadBody
