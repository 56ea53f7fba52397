-- All that is so of the messages of a journal of many nodes, whatever happens.
use Rattle.std.specs.Prelude.{List}
use Rattle.ch_model.specs.declared.entry.Entry.{Entry}
use Rattle.ch_model.specs.declared.line.Line.{Line}
use Rattle.ch_model.specs.WorldState.{World}
use Rattle.ch_laws_ids.specs.Runs.{AllRun}
use Rattle.ch_laws_peers.specs.Reads.{AllCome, AllGet}
use Rattle.ch_laws_peers.specs.Says.{AllSay}
use Rattle.ch_laws_peers.specs.Standing.{Standing}
use Rattle.ch_laws_messages.specs.CarriedInTime.{AllInTime}
use Rattle.ch_laws_messages.specs.CarriedNexts.{GotsBelow}
use Rattle.ch_laws_messages.specs.ArrivedFed.{LastFed}
use Rattle.ch_laws_messages.specs.ArrivedGets.{AreGotSo}
use Rattle.ch_laws_messages.specs.PayloadsOpens.{AllOpenInTime}
use Rattle.ch_laws_messages.specs.GotReceived.{AllReceived}
use Rattle.ch_laws_messages.specs.GotReceipts.{AllGotWell}
use Rattle.ch_laws_messages.specs.SendsSends.{AllGive}
use Rattle.ch_laws_messages.specs.MailMail.{AllMail, TakesFirst}

-- Hosts and nodes stand as they do. Of each two nodes, both ways: all that was said is carried, in time; what isn't read is under way; what was
-- read was got, and is among the first of what was said; and links have given an id for each pair. Each message that is got is got as it should be, by
-- what was fed last.
-- What stands in mailboxes is what has entered them and wasn't taken, and what is taken is the first that was left.
pub record Stands (journal : List Line) (log : List Entry) (world : World) : Type 0 where
  pub standing : Standing journal log world
  pub runs : AllRun log world
  pub says : AllSay journal log world
  pub comes : AllCome journal log world
  pub gets : AllGet journal log world
  pub got_well : AllGotWell log world
  pub received : AllReceived log world
  pub got_below : GotsBelow journal log world
  pub last_fed : LastFed log world
  pub got_so : AreGotSo journal log world
  pub in_time : AllInTime journal log world
  pub opens : AllOpenInTime journal log world
  pub gives : AllGive journal log world
  pub mail : AllMail journal log world
  pub takes : TakesFirst journal log world
