use Rattle.std.proofs.Common.{rules}
use Rattle.std.proofs.lemmas.List.Edits.{map_over_more}
use Rattle.std.proofs.lemmas.List.{take_all, drop_all}
use Rattle.ch_mail.specs.Mail.{downed}
use Rattle.ch_mail.proofs.mail.down_all.Goals as goal

pub loop-process-preserved : goal.loop-process-preserved
loop-process-preserved c = search (rules, map_over_more downed)

pub returns : goal.returns
returns c = search (rules, take_all, drop_all)
