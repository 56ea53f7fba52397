-- What is kept of one process.
use Rattle.std.specs.Prelude.{List}
use Rattle.ch_ident.specs.declared.message.Message.{Message}
use Rattle.ch_mail.specs.declared.life.Life.{Life}

-- a process: its life, the messages of its mailbox in order of arrival, and its ports in order of opening, each with its messages in order of arrival
pub record Process : Type 0 where
  pub life : Life
  pub mailbox : List Message
  pub ports : List (List Message)
