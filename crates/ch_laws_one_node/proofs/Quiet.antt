-- What the whole model promises of links, sockets, watches, references, names and bytes asks nothing of an entry of one node.
use Rattle.std.specs.Prelude.{◌≡◌, ℕ, true, List, Some, None}
use Rattle.std.proofs.Common.{refl}
use Rattle.ch_model.specs.declared.name.TargetName.TheVariants as targets
use Rattle.ch_model.specs.declared.entry.Entry.{Entry}
use Rattle.ch_model.specs.declared.entry.Entry.TheVariants.{Line, Made, Said, Got, Took, Over}
use Rattle.ch_model.specs.declared.line.Line.{Line as JournalLine}
use Rattle.ch_model.specs.Breaks as breaks
use Rattle.ch_model.specs.Links as links
use Rattle.ch_model.specs.LiveSockets as sockets
use Rattle.ch_model.specs.Watches as watches
use Rattle.ch_model.specs.References as references
use Rattle.ch_model.specs.Names as names
use Rattle.ch_model.specs.AccountsBytes as bytes
use Rattle.ch_model.specs.AccountsMessages as carried
use Rattle.ch_model.specs.AccountsCauses as causes
use Rattle.ch_model.specs.Accounts as accounts
use Rattle.ch_model.specs.Whole as whole
use Rattle.ch_model.specs.WholeNotice as notices
use Rattle.ch_model.specs.Sharper as sharper
use Rattle.ch_model.specs.EndsToldLast as ends
use Rattle.ch_laws_one_node.proofs.EntriesOf.{IsEntryOf}

-- the entry passes each test of what one node doesn't do
pub record Quiet (journal : List JournalLine) (before : List Entry) (x : Entry) : Type 0 where
  pub breaks_as_node : breaks.breaks_as_node journal before x ≡ true
  pub breaks_begun : breaks.breaks_begun before x ≡ true
  pub breaks_licensed : breaks.breaks_licensed journal before x ≡ true
  pub breaks_truly_down : breaks.breaks_truly_down journal before x ≡ true
  pub rises_once : links.rises_once before x ≡ true
  pub falls_from_up : links.falls_from_up before x ≡ true
  pub leaves_unrisen : links.leaves_unrisen before x ≡ true
  pub rests_closed : links.rests_closed before x ≡ true
  pub rises_alone : links.rises_alone before x ≡ true
  pub target_rises_first : links.target_rises_first before x ≡ true
  pub dials_while_down : links.dials_while_down before x ≡ true
  pub dials_once : links.dials_once before x ≡ true
  pub dials_in_order : links.dials_in_order before x ≡ true
  pub accepts_while_down : sockets.accepts_while_down before x ≡ true
  pub tells_open : watches.tells_open before x ≡ true
  pub tells_occurred : watches.tells_occurred before x ≡ true
  pub is_truly_absent : watches.is_truly_absent before x ≡ true
  pub dooms_owner : (rest : List Entry) → watches.dooms_owner before x rest ≡ true
  pub tells_all : (rest : List Entry) → watches.tells_all before x rest ≡ true
  pub takes_next : references.takes_next journal before x ≡ true
  pub has_both : references.has_both before x ≡ true
  pub makes_one : references.makes_one before x ≡ true
  pub spawns_once : references.spawns_once before x ≡ true
  pub spawns_the_made : references.spawns_the_made before x ≡ true
  pub finds_once : references.finds_once before x ≡ true
  pub finds_what_stood : references.finds_what_stood journal before x ≡ true
  pub is_given_free : names.is_given_free before x ≡ true
  pub falls_standing : names.falls_standing before x ≡ true
  pub writes_an_item : bytes.writes_an_item journal before x ≡ true
  pub requests_by_name : bytes.requests_by_name journal before x ≡ true
  pub writes_after_accepting : bytes.writes_after_accepting before x ≡ true
  pub writes_fit_ids : bytes.writes_fit_ids before x ≡ true
  pub feeds_the_unread : bytes.feeds_the_unread journal before x ≡ true
  pub feeds_the_end : bytes.feeds_the_end journal before x ≡ true
  pub target_has_read : bytes.target_has_read before x ≡ true
  pub opener_has_read : bytes.opener_has_read before x ≡ true
  pub accepts_next : (rest : List Entry) → bytes.accepts_next before x rest ≡ true
  pub writes_true_data : carried.writes_true_data journal before x ≡ true
  pub writes_caused : causes.writes_caused journal before x ≡ true
  pub absent_by_bytes : accounts.absent_by_bytes journal before x ≡ true
  pub told_by_bytes : accounts.told_by_bytes journal before x ≡ true
  pub answered_by_bytes : accounts.answered_by_bytes journal before x ≡ true
  pub made_by_bytes : accounts.made_by_bytes journal before x ≡ true
  pub doomed_by_bytes : accounts.doomed_by_bytes journal before x ≡ true
  pub settles_delivered : whole.settles_delivered journal before x ≡ true
  pub is_noticed : notices.at_settled (notices.is_noticed journal) before x ≡ true
  pub is_replied : notices.at_settled (notices.is_replied journal) before x ≡ true
  pub is_doomed_by_entry : notices.at_settled (notices.is_doomed_by_entry journal) before x ≡ true
  pub downs_break : (rest : List Entry) → sharper.downs_break journal before x rest ≡ true
  pub settles_as_lines : sharper.settles_as_lines journal before x ≡ true
  pub ends_unlabelled : (rest : List Entry) → sharper.ends_unlabelled journal before x rest ≡ true
  pub answers_own_spawn : (rest : List Entry) → sharper.answers_own_spawn before x rest ≡ true
  pub is_named_by_line : sharper.is_named_by_line journal before x ≡ true
  pub is_next_port : sharper.is_next_port before x ≡ true
  pub accepts_no_stranger : sharper.accepts_no_stranger journal before x ≡ true
  pub opener_writes_up : sharper.opener_writes_up before x ≡ true
  pub requests_by_number : sharper.requests_by_number journal before x ≡ true
  pub shuts_down : (rest : List Entry) → sharper.shuts_down before x rest ≡ true
  pub tells_end_last : ends.tells_end_last before x ≡ true

pub quiet : (journal : List JournalLine) (node : List ℕ) (before : List Entry) (x : Entry) → IsEntryOf node x → Quiet journal before x
quiet journal node before (Line number answer) of = record {
  breaks_as_node = refl;
  breaks_begun = refl;
  breaks_licensed = refl;
  breaks_truly_down = refl;
  rises_once = refl;
  falls_from_up = refl;
  leaves_unrisen = refl;
  rests_closed = refl;
  rises_alone = refl;
  target_rises_first = refl;
  dials_while_down = refl;
  dials_once = refl;
  dials_in_order = refl;
  accepts_while_down = refl;
  tells_open = refl;
  tells_occurred = refl;
  is_truly_absent = refl;
  dooms_owner = λ rest. refl;
  tells_all = λ rest. refl;
  takes_next = refl;
  has_both = refl;
  makes_one = refl;
  spawns_once = refl;
  spawns_the_made = refl;
  finds_once = refl;
  finds_what_stood = refl;
  is_given_free = refl;
  falls_standing = refl;
  writes_an_item = refl;
  requests_by_name = refl;
  writes_after_accepting = refl;
  writes_fit_ids = refl;
  feeds_the_unread = refl;
  feeds_the_end = refl;
  target_has_read = refl;
  opener_has_read = refl;
  accepts_next = λ rest. refl;
  writes_true_data = refl;
  writes_caused = refl;
  absent_by_bytes = refl;
  told_by_bytes = refl;
  answered_by_bytes = refl;
  made_by_bytes = refl;
  doomed_by_bytes = refl;
  settles_delivered = refl;
  is_noticed = refl;
  is_replied = refl;
  is_doomed_by_entry = refl;
  downs_break = λ rest. refl;
  settles_as_lines = refl;
  ends_unlabelled = λ rest. refl;
  answers_own_spawn = λ rest. refl;
  is_named_by_line = refl;
  is_next_port = refl;
  accepts_no_stranger = refl;
  opener_writes_up = refl;
  requests_by_number = refl;
  shuts_down = λ rest. refl;
  tells_end_last = refl;
}
quiet journal node before (Made process None None) of = record {
  breaks_as_node = refl;
  breaks_begun = refl;
  breaks_licensed = refl;
  breaks_truly_down = refl;
  rises_once = refl;
  falls_from_up = refl;
  leaves_unrisen = refl;
  rests_closed = refl;
  rises_alone = refl;
  target_rises_first = refl;
  dials_while_down = refl;
  dials_once = refl;
  dials_in_order = refl;
  accepts_while_down = refl;
  tells_open = refl;
  tells_occurred = refl;
  is_truly_absent = refl;
  dooms_owner = λ rest. refl;
  tells_all = λ rest. refl;
  takes_next = refl;
  has_both = refl;
  makes_one = refl;
  spawns_once = refl;
  spawns_the_made = refl;
  finds_once = refl;
  finds_what_stood = refl;
  is_given_free = refl;
  falls_standing = refl;
  writes_an_item = refl;
  requests_by_name = refl;
  writes_after_accepting = refl;
  writes_fit_ids = refl;
  feeds_the_unread = refl;
  feeds_the_end = refl;
  target_has_read = refl;
  opener_has_read = refl;
  accepts_next = λ rest. refl;
  writes_true_data = refl;
  writes_caused = refl;
  absent_by_bytes = refl;
  told_by_bytes = refl;
  answered_by_bytes = refl;
  made_by_bytes = refl;
  doomed_by_bytes = refl;
  settles_delivered = refl;
  is_noticed = refl;
  is_replied = refl;
  is_doomed_by_entry = refl;
  downs_break = λ rest. refl;
  settles_as_lines = refl;
  ends_unlabelled = λ rest. refl;
  answers_own_spawn = λ rest. refl;
  is_named_by_line = refl;
  is_next_port = refl;
  accepts_no_stranger = refl;
  opener_writes_up = refl;
  requests_by_number = refl;
  shuts_down = λ rest. refl;
  tells_end_last = refl;
}
quiet journal node before (Said by (targets.Process to) epoch index mark body) of = record {
  breaks_as_node = refl;
  breaks_begun = refl;
  breaks_licensed = refl;
  breaks_truly_down = refl;
  rises_once = refl;
  falls_from_up = refl;
  leaves_unrisen = refl;
  rests_closed = refl;
  rises_alone = refl;
  target_rises_first = refl;
  dials_while_down = refl;
  dials_once = refl;
  dials_in_order = refl;
  accepts_while_down = refl;
  tells_open = refl;
  tells_occurred = refl;
  is_truly_absent = refl;
  dooms_owner = λ rest. refl;
  tells_all = λ rest. refl;
  takes_next = refl;
  has_both = refl;
  makes_one = refl;
  spawns_once = refl;
  spawns_the_made = refl;
  finds_once = refl;
  finds_what_stood = refl;
  is_given_free = refl;
  falls_standing = refl;
  writes_an_item = refl;
  requests_by_name = refl;
  writes_after_accepting = refl;
  writes_fit_ids = refl;
  feeds_the_unread = refl;
  feeds_the_end = refl;
  target_has_read = refl;
  opener_has_read = refl;
  accepts_next = λ rest. refl;
  writes_true_data = refl;
  writes_caused = refl;
  absent_by_bytes = refl;
  told_by_bytes = refl;
  answered_by_bytes = refl;
  made_by_bytes = refl;
  doomed_by_bytes = refl;
  settles_delivered = refl;
  is_noticed = refl;
  is_replied = refl;
  is_doomed_by_entry = refl;
  downs_break = λ rest. refl;
  settles_as_lines = refl;
  ends_unlabelled = λ rest. refl;
  answers_own_spawn = λ rest. refl;
  is_named_by_line = refl;
  is_next_port = refl;
  accepts_no_stranger = refl;
  opener_writes_up = refl;
  requests_by_number = refl;
  shuts_down = λ rest. refl;
  tells_end_last = refl;
}
quiet journal node before (Got by (targets.Process to) epoch index (Some receiver)) of = record {
  breaks_as_node = refl;
  breaks_begun = refl;
  breaks_licensed = refl;
  breaks_truly_down = refl;
  rises_once = refl;
  falls_from_up = refl;
  leaves_unrisen = refl;
  rests_closed = refl;
  rises_alone = refl;
  target_rises_first = refl;
  dials_while_down = refl;
  dials_once = refl;
  dials_in_order = refl;
  accepts_while_down = refl;
  tells_open = refl;
  tells_occurred = refl;
  is_truly_absent = refl;
  dooms_owner = λ rest. refl;
  tells_all = λ rest. refl;
  takes_next = refl;
  has_both = refl;
  makes_one = refl;
  spawns_once = refl;
  spawns_the_made = refl;
  finds_once = refl;
  finds_what_stood = refl;
  is_given_free = refl;
  falls_standing = refl;
  writes_an_item = refl;
  requests_by_name = refl;
  writes_after_accepting = refl;
  writes_fit_ids = refl;
  feeds_the_unread = refl;
  feeds_the_end = refl;
  target_has_read = refl;
  opener_has_read = refl;
  accepts_next = λ rest. refl;
  writes_true_data = refl;
  writes_caused = refl;
  absent_by_bytes = refl;
  told_by_bytes = refl;
  answered_by_bytes = refl;
  made_by_bytes = refl;
  doomed_by_bytes = refl;
  settles_delivered = refl;
  is_noticed = refl;
  is_replied = refl;
  is_doomed_by_entry = refl;
  downs_break = λ rest. refl;
  settles_as_lines = refl;
  ends_unlabelled = λ rest. refl;
  answers_own_spawn = λ rest. refl;
  is_named_by_line = refl;
  is_next_port = refl;
  accepts_no_stranger = refl;
  opener_writes_up = refl;
  requests_by_number = refl;
  shuts_down = λ rest. refl;
  tells_end_last = refl;
}
quiet journal node before (Took by None mark body) of = record {
  breaks_as_node = refl;
  breaks_begun = refl;
  breaks_licensed = refl;
  breaks_truly_down = refl;
  rises_once = refl;
  falls_from_up = refl;
  leaves_unrisen = refl;
  rests_closed = refl;
  rises_alone = refl;
  target_rises_first = refl;
  dials_while_down = refl;
  dials_once = refl;
  dials_in_order = refl;
  accepts_while_down = refl;
  tells_open = refl;
  tells_occurred = refl;
  is_truly_absent = refl;
  dooms_owner = λ rest. refl;
  tells_all = λ rest. refl;
  takes_next = refl;
  has_both = refl;
  makes_one = refl;
  spawns_once = refl;
  spawns_the_made = refl;
  finds_once = refl;
  finds_what_stood = refl;
  is_given_free = refl;
  falls_standing = refl;
  writes_an_item = refl;
  requests_by_name = refl;
  writes_after_accepting = refl;
  writes_fit_ids = refl;
  feeds_the_unread = refl;
  feeds_the_end = refl;
  target_has_read = refl;
  opener_has_read = refl;
  accepts_next = λ rest. refl;
  writes_true_data = refl;
  writes_caused = refl;
  absent_by_bytes = refl;
  told_by_bytes = refl;
  answered_by_bytes = refl;
  made_by_bytes = refl;
  doomed_by_bytes = refl;
  settles_delivered = refl;
  is_noticed = refl;
  is_replied = refl;
  is_doomed_by_entry = refl;
  downs_break = λ rest. refl;
  settles_as_lines = refl;
  ends_unlabelled = λ rest. refl;
  answers_own_spawn = λ rest. refl;
  is_named_by_line = refl;
  is_next_port = refl;
  accepts_no_stranger = refl;
  opener_writes_up = refl;
  requests_by_number = refl;
  shuts_down = λ rest. refl;
  tells_end_last = refl;
}
quiet journal node before (Over process reason) of = record {
  breaks_as_node = refl;
  breaks_begun = refl;
  breaks_licensed = refl;
  breaks_truly_down = refl;
  rises_once = refl;
  falls_from_up = refl;
  leaves_unrisen = refl;
  rests_closed = refl;
  rises_alone = refl;
  target_rises_first = refl;
  dials_while_down = refl;
  dials_once = refl;
  dials_in_order = refl;
  accepts_while_down = refl;
  tells_open = refl;
  tells_occurred = refl;
  is_truly_absent = refl;
  dooms_owner = λ rest. refl;
  tells_all = λ rest. refl;
  takes_next = refl;
  has_both = refl;
  makes_one = refl;
  spawns_once = refl;
  spawns_the_made = refl;
  finds_once = refl;
  finds_what_stood = refl;
  is_given_free = refl;
  falls_standing = refl;
  writes_an_item = refl;
  requests_by_name = refl;
  writes_after_accepting = refl;
  writes_fit_ids = refl;
  feeds_the_unread = refl;
  feeds_the_end = refl;
  target_has_read = refl;
  opener_has_read = refl;
  accepts_next = λ rest. refl;
  writes_true_data = refl;
  writes_caused = refl;
  absent_by_bytes = refl;
  told_by_bytes = refl;
  answered_by_bytes = refl;
  made_by_bytes = refl;
  doomed_by_bytes = refl;
  settles_delivered = refl;
  is_noticed = refl;
  is_replied = refl;
  is_doomed_by_entry = refl;
  downs_break = λ rest. refl;
  settles_as_lines = refl;
  ends_unlabelled = λ rest. refl;
  answers_own_spawn = λ rest. refl;
  is_named_by_line = refl;
  is_next_port = refl;
  accepts_no_stranger = refl;
  opener_writes_up = refl;
  requests_by_number = refl;
  shuts_down = λ rest. refl;
  tells_end_last = refl;
}
quiet journal node before x of = absurd of
