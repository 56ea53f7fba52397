-- The right notice is as promised, and each wrong one is refused by the clause that it goes against.
use Rattle.std.specs.Prelude.{◌≡◌, true, false}
use Rattle.std.specs.Fmt.{digits}
use Rattle.std.proofs.Common.{refl}
use Rattle.ch_base.specs.Addresses.{read_address, host_at, port_at}
use Rattle.ch_model.specs.Watches.{HasLawfulNotices}
use Rattle.ch_model.specs.WholeNotice.{NotifiesWhole}
use Rattle.ch_model.specs.Lawful.{IsPromised}
use Rattle.ch_model.specs.Sharper.{IsSharper}
use Rattle.ch_model.specs.EndsToldLast.{EndsToldLast}
use Rattle.ch_examples.specs.WrongNotices.{monitored, monitored_log, told_twice, told_a_loss, told_another_end, never_told, never_told_at_break, spawns, never_answered, told_last, told_before}

-- a test that fails doesn't pass
is_not : false ≡ true → ⊥
is_not h = cc

-- this one is as promised
monitored_is : IsPromised monitored monitored_log
unfolding digits read_address host_at port_at
monitored_is = record {
  lawful = record {
    epochs = record { epochs = refl; indexes = refl; next_epochs = refl };
    receipts = record { said_first = refl; in_order_and_once = refl; epochs_in_order = refl; living_receiver = refl; over_a_link = refl; at_once = refl };
    breaks = record { of_a_node = refl; of_a_begun = refl; licensed = refl; truly_down = refl };
    links = record {
      up_once = refl;
      down_from_up = refl;
      left_unrisen = refl;
      closed_rests = refl;
      up_alone = refl;
      target_first = refl;
      dial_while_down = refl;
      dial_once = refl;
      dial_in_order = refl;
    };
    life = record { numbered = refl; dooms_live = refl; dooms_caused = refl; over_once = refl; ends_caused = refl; dead_rest = refl };
    notices = record { of_open = refl; of_what_occurred = refl; truly_absent = refl; dooms_owners = refl; all_at_breaks = refl };
    references = record { next_number = refl; with_label = refl; one_made = refl; one_spawned = refl; spawned_the_made = refl; one_found = refl; found_what_stood = refl };
    names = record { free = refl; standing = refl; falls = refl };
    mailboxes = record { from_mailboxes = refl; from_ports = refl };
  };
  answers = record { marked = refl; answered = refl; of_done_lines = refl; own_first = refl; settled_last = refl; in_place = refl; settle_feeds_all = refl };
  accounted_for = record {
    of_bytes = record {
      items = refl;
      requests = refl;
      after_accepting = refl;
      ids = refl;
      unread_alone = refl;
      true_ends = refl;
      read_requests = refl;
      read_answers = refl;
      accepted_next = refl;
    };
    of_messages = record { true_payloads = refl; got_by_bytes = refl; in_order_written = refl };
    of_nodes = record { caused = refl; absent = refl; told = refl; answered = refl; made = refl; doomed = refl };
  };
  one_live_socket = refl;
  bundle = refl;
  whole = record {
    delivered = refl;
    notified = record { told = refl; answered = refl; doomed = refl };
    at_rest = (record { none_pending = refl; all_read = refl; no_timer = refl; up_alike = refl }, (record { none_pending = refl; all_read = refl; no_timer = refl; up_alike = refl }, (record { none_pending = refl; all_read = refl; no_timer = refl; up_alike = refl }, tt)));
  };
}

-- it is sharper too
monitored_sharper : IsSharper monitored monitored_log
unfolding digits read_address host_at port_at
monitored_sharper = record {
  down_breaks = refl;
  settle_as_lines = refl;
  unlabelled_ends = refl;
  own_spawn_answered = refl;
  made_by_line = refl;
  named_by_line = refl;
  next_port = refl;
  no_stranger_up = refl;
  opener_up_first = refl;
  target_number = refl;
  got_at_once = refl;
  shut_is_down = refl;
}

-- tells twice
not_told_twice : HasLawfulNotices told_twice → ⊥
unfolding digits read_address host_at port_at
not_told_twice h = is_not h.of_open

-- tells a loss where nothing was lost
not_told_a_loss : HasLawfulNotices told_a_loss → ⊥
unfolding digits read_address host_at port_at
not_told_a_loss h = is_not h.of_what_occurred

-- tells another end
not_told_another_end : HasLawfulNotices told_another_end → ⊥
unfolding digits read_address host_at port_at
not_told_another_end h = is_not h.of_what_occurred

-- never tells
not_never_told : NotifiesWhole monitored never_told → ⊥
unfolding digits read_address host_at port_at
not_never_told h = is_not h.told

-- never tells at a break
not_never_told_at_break : HasLawfulNotices never_told_at_break → ⊥
unfolding digits read_address host_at port_at
not_never_told_at_break h = is_not h.all_at_breaks

-- never answers a spawn
not_never_answered : NotifiesWhole spawns never_answered → ⊥
unfolding digits read_address host_at port_at
not_never_answered h = is_not h.answered

-- an end may be told after what was said before it
end_last : EndsToldLast told_last
end_last = refl

-- tells an end before what was said before it
not_end_first : EndsToldLast told_before → ⊥
not_end_first h = is_not h
