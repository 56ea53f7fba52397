-- What is promised of the log of a journal of many nodes because all its dials are between two of them.
use Rattle.std.specs.Prelude.{List, IsTrue}
use Rattle.ch_model.specs.declared.entry.Entry.{Entry}
use Rattle.ch_model.specs.declared.line.Line.{Line}
use Rattle.ch_model.specs.Breaks.{HasLicensedBreaks}
use Rattle.ch_model.specs.HasAnswers.{has_settled_last, settles_whole}
use Rattle.ch_model.specs.Lawful.{SettlesWhole}
use Rattle.ch_model.specs.LifeRules.{dooms_the_live, dooms_with_cause}
use Rattle.ch_model.specs.Links.{rises_alone, dials_while_down, dials_once}
use Rattle.ch_model.specs.LiveSockets.{OneLiveSocket, Bundle}
use Rattle.ch_model.specs.Logs.{each, each_between}
use Rattle.ch_model.specs.Mailboxes.{takes_the_first_of_port}
use Rattle.ch_model.specs.Names.{FollowsNames}
use Rattle.ch_model.specs.References.{FollowsReferences}
use Rattle.ch_model.specs.Watches.{HasLawfulNotices}

-- At most one socket of each two nodes is live, and none is accepted over a link that is up; nodes come up and dial where they are
-- down, and dial a peer once. Breaks, notices, references and names follow their rules, as do dooms, ports and what is settled: of all these the log has none.
pub record IsFair (journal : List Line) (log : List Entry) : Type 0 where
  pub one_live_socket : OneLiveSocket log
  pub bundle : Bundle log
  pub up_alone : IsTrue (each rises_alone log)
  pub dial_while_down : IsTrue (each dials_while_down log)
  pub dial_once : IsTrue (each dials_once log)
  pub breaks : HasLicensedBreaks journal log
  pub notices : HasLawfulNotices log
  pub references : FollowsReferences journal log
  pub names : FollowsNames log
  pub whole : SettlesWhole journal log
  pub dooms_live : IsTrue (each dooms_the_live log)
  pub dooms_caused : IsTrue (each (dooms_with_cause journal) log)
  pub from_ports : IsTrue (each takes_the_first_of_port log)
  pub settled_last : IsTrue (each_between (has_settled_last journal) log)
  pub settle_feeds_all : IsTrue (each (settles_whole journal) log)
