use Rattle.std.proofs.Common.{◌≡◌, ◌++◌, map, take, drop}
use Rattle.ch_mail.specs.Mail.{downed}
use Rattle.ch_mail.proofs.mail.down_all.Given as goal

abbrev pub invariant-loop-process : goal.invariant-loop-process
invariant-loop-process l = l.processes ≡ map downed (take l.process-index l.initial.processes) ++ drop l.process-index l.initial.processes
