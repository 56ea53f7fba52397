-- What a lawful log of a journal is: all that its promises say, one field each.
use Rattle.std.specs.Prelude.{List}
use Rattle.ch_model.specs.declared.entry.Entry.{Entry}
use Rattle.ch_model.specs.declared.line.Line.{Line}
use Rattle.ch_model.specs.Epochs.{FollowsEpochs}
use Rattle.ch_model.specs.Delivery.{HasLawfulReceipts}
use Rattle.ch_model.specs.Breaks.{HasLicensedBreaks}
use Rattle.ch_model.specs.Links.{FollowsLinkDiscipline}
use Rattle.ch_model.specs.LiveSockets.{OneLiveSocket, Bundle}
use Rattle.ch_model.specs.LifeRules.{FollowsLife}
use Rattle.ch_model.specs.Watches.{HasLawfulNotices}
use Rattle.ch_model.specs.References.{FollowsReferences}
use Rattle.ch_model.specs.Names.{FollowsNames}
use Rattle.ch_model.specs.Mailboxes.{FollowsMailboxes}
use Rattle.ch_model.specs.HasAnswers.{HasAnswers}
use Rattle.ch_model.specs.Accounts.{IsAccountedFor}
use Rattle.ch_model.specs.Whole.{DeliversWhole}
use Rattle.ch_model.specs.WholeNotice.{NotifiesWhole}
use Rattle.ch_model.specs.Rest.{SettlesAtRest}

-- Each entry is lawful after those before it.
pub record IsLawful (journal : List Line) (log : List Entry) : Type 0 where
  pub epochs : FollowsEpochs log
  pub receipts : HasLawfulReceipts log
  pub breaks : HasLicensedBreaks journal log
  pub links : FollowsLinkDiscipline log
  pub life : FollowsLife journal log
  pub notices : HasLawfulNotices log
  pub references : FollowsReferences journal log
  pub names : FollowsNames log
  pub mailboxes : FollowsMailboxes journal log

-- At each settled all that is owed was delivered and told, and nothing is left to happen.
pub record SettlesWhole (journal : List Line) (log : List Entry) : Type 0 where
  pub delivered : DeliversWhole journal log
  pub notified : NotifiesWhole journal log
  pub at_rest : SettlesAtRest journal log

-- All that is promised of the log of a journal.
pub record IsPromised (journal : List Line) (log : List Entry) : Type 0 where
  pub lawful : IsLawful journal log
  pub answers : HasAnswers journal log
  pub accounted_for : IsAccountedFor journal log
  pub one_live_socket : OneLiveSocket log
  pub bundle : Bundle log
  pub whole : SettlesWhole journal log
