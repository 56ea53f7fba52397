-- How the refusals of the parts of a node are told to the process that asked.
use Rattle.ch_base.specs.declared.memory.Stop.{Stop}
use Rattle.ch_base.specs.declared.memory.Stop.TheVariants as stops
use Rattle.ch_mail.specs.declared.error.MailError.{MailError}
use Rattle.ch_mail.specs.declared.error.MailError.TheVariants as mails
use Rattle.ch_model.specs.declared.command.CommandError.{CommandError}
use Rattle.ch_model.specs.declared.command.CommandError.TheVariants.{Dead, Empty, OutOfMemory, Worn}

-- how a refusal of the mail is told to the process that asked
abbrev pub of_mail_error : MailError → CommandError
of_mail_error mails.NotLive = Dead
of_mail_error mails.Empty = Empty
of_mail_error mails.OutOfMemory = OutOfMemory
of_mail_error mails.Worn = Worn

-- how a stop is told to the process that asked
abbrev pub of_stop : Stop → CommandError
of_stop stops.OutOfMemory = OutOfMemory
of_stop stops.Worn = Worn
