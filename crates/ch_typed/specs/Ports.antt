-- The two ends of a port.
use Rattle.std.specs.Prelude.{ℕ, List, Result, Ok, Err}
use Rattle.ch_ident.specs.declared.identifier.ProcessId.{ProcessId}
use Rattle.ch_ident.specs.declared.identifier.SendPortId.{SendPortId}
use Rattle.ch_mail.specs.declared.error.MailError.{MailError}
use Rattle.ch_mail.specs.Process.{Process}
use Rattle.ch_mail.specs.Mail.{open_port_of}
use Rattle.ch_typed.specs.declared.error.TypedError.{TypedError}
use Rattle.ch_typed.specs.Outcomes.{of_mail}

-- where a port receives: the process and the port, by their numbers
pub record Place : Type 0 where
  pub process : ℕ
  pub port : ℕ

-- the ends of a port that was opened
abbrev pub ends_of : ProcessId → Result (ℕ × List Process) MailError → Result ((SendPortId × Place) × List Process) TypedError
ends_of own (Ok opened) = Ok ((record { process = own; port = opened.0 }, record { process = own.counter; port = opened.0 }), opened.1)
ends_of own (Err e) = Err (of_mail e)

-- a process opens its next port, and has both ends
unfoldable pub channel_of : List Process → ProcessId → Result ((SendPortId × Place) × List Process) TypedError
channel_of mail own = ends_of own (open_port_of mail own.counter)
