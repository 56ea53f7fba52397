-- How values are packed in messages and read from them.
use Rattle.std.specs.Prelude.{ℕ, ◌<◌, List, Option, Result, Ok, Err, slice_index_or, if◌then◌else◌}
use Rattle.std.specs.Str.{bytes_eq}
use Rattle.ch_ident.specs.declared.message.Message.{Message}
use Rattle.ch_mail.specs.declared.error.MailError.{MailError}
use Rattle.ch_mail.specs.Process.{Process}
use Rattle.ch_mail.specs.Mail.{take_of, take_port_of}
use Rattle.ch_typed.specs.declared.error.TypedError.{TypedError}
use Rattle.ch_typed.specs.declared.error.TypedError.TheVariants.{WrongMark}
use Rattle.ch_typed.specs.Outcomes.{of_mail, body_of}

-- each is a byte
abbrev pub AreBytes : List ℕ → Type 0
AreBytes bytes = (i : ℕ) → slice_index_or bytes i 0 < 256

-- a message is read where its mark is the one that is wanted
abbrev pub unpacked : {A : Type 0} → List ℕ → (List ℕ → Option A) → Message → Result A TypedError
unpacked mark read message = if bytes_eq message.mark mark then body_of (read message.body) else Err (WrongMark mark message.mark)

-- a message that was taken is read, and stays taken; a refusal to take leaves the mail as it was
abbrev pub read_taken : {A : Type 0} → (Message → Result A TypedError) → List Process → Result (Message × List Process) MailError → Result A TypedError × List Process
read_taken read mail (Ok taken) = (read taken.0, taken.1)
read_taken read mail (Err e) = (Err (of_mail e), mail)

-- the first message of the mark is taken from a mailbox, and read
unfoldable pub expected : {A : Type 0} → List ℕ → (List ℕ → Option A) → List Process → ℕ → Result A TypedError × List Process
expected mark read mail process = read_taken (λ message. body_of (read message.body)) mail (take_of mail process mark)

-- the first message is taken from a port, and read where its mark is the one that is wanted
unfoldable pub received : {A : Type 0} → List ℕ → (List ℕ → Option A) → List Process → ℕ → ℕ → Result A TypedError × List Process
received mark read mail process port = read_taken (unpacked mark read) mail (take_port_of mail process port)
