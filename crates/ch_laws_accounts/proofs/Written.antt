-- What is written and fed in the log of a journal of many nodes.
use Rattle.std.specs.Prelude.{◌≡◌, List, Ok}
use Rattle.ch_model.specs.declared.entry.Entry.{Entry}
use Rattle.ch_model.specs.declared.line.Line.{Line}
use Rattle.ch_model.specs.World.{names_of, log_of}
use Rattle.ch_laws_bytes.specs.Streams.{AreAddresses}
use Rattle.ch_laws_many.specs.ManyLines.{AreNamedApart}
use Rattle.ch_laws_many.proofs.FeedsAndDials.{feeds_and_dials}
use Rattle.ch_laws_many.proofs.Reached.{IsJournal}
use Rattle.ch_laws_writes.proofs.ReadBack.{log_accepting}
use Rattle.ch_laws_accounts.specs.Written.{WritesAndFeeds}
use Rattle.ch_laws_accounts.proofs.Items.{all_items}
use Rattle.ch_laws_accounts.proofs.Openers.{journal_ends}
use Rattle.ch_laws_accounts.proofs.Requests.{all_by_name}

pub writes_and_feeds : (journal : List Line) → IsJournal journal → AreNamedApart (names_of journal) → AreAddresses (names_of journal) → (log : List Entry) → log_of journal ≡ Ok log → WritesAndFeeds journal log
writes_and_feeds journal j apart all log is = record {
  items = all_items journal j all log is;
  requests = all_by_name journal j apart log is;
  after_accepting = let ends = journal_ends journal j log is in log_accepting journal journal log ends.world ends.is;
  unread_alone = (feeds_and_dials journal j log is).unread_alone;
  true_ends = (feeds_and_dials journal j log is).true_ends;
}
