-- The right deliveries are as promised, and each wrong one is refused by the clause that it goes against.
use Rattle.std.specs.Prelude.{◌≡◌, true, false}
use Rattle.std.specs.Fmt.{digits}
use Rattle.std.proofs.Common.{refl}
use Rattle.ch_base.specs.Addresses.{read_address, host_at, port_at}
use Rattle.ch_model.specs.Delivery.{HasLawfulReceipts}
use Rattle.ch_model.specs.Breaks.{HasLicensedBreaks}
use Rattle.ch_model.specs.Links.{FollowsLinkDiscipline}
use Rattle.ch_model.specs.AccountsMessages.{IsCarried}
use Rattle.ch_model.specs.Lawful.{IsPromised}
use Rattle.ch_model.specs.Sharper.{IsSharper}
use Rattle.ch_examples.specs.WrongDelivery.{one_message, one_message_log, without_bytes, before_the_last_byte, without_cause, answered_invalid, replaced, replaced_log, repeated, past_the_loss, old_socket_fed, old_socket_up}

-- a test that fails doesn't pass
is_not : false ≡ true → ⊥
is_not h = cc

-- this one is as promised
one_message_is : IsPromised one_message one_message_log
unfolding digits read_address host_at port_at
one_message_is = record {
  lawful = record {
    epochs = record { epochs = refl; indexes = refl; next_epochs = refl };
    receipts = record { said_first = refl; in_order_and_once = refl; epochs_in_order = refl; living_receiver = refl; over_a_link = refl; at_once = refl };
    breaks = record { of_a_node = refl; of_a_begun = refl; licensed = refl; truly_down = refl };
    links = record {
      up_once = refl;
      down_from_up = refl;
      left_unrisen = refl;
      closed_rests = refl;
      up_alone = refl;
      target_first = refl;
      dial_while_down = refl;
      dial_once = refl;
      dial_in_order = refl;
    };
    life = record { numbered = refl; dooms_live = refl; dooms_caused = refl; over_once = refl; ends_caused = refl; dead_rest = refl };
    notices = record { of_open = refl; of_what_occurred = refl; truly_absent = refl; dooms_owners = refl; all_at_breaks = refl };
    references = record { next_number = refl; with_label = refl; one_made = refl; one_spawned = refl; spawned_the_made = refl; one_found = refl; found_what_stood = refl };
    names = record { free = refl; standing = refl; falls = refl };
    mailboxes = record { from_mailboxes = refl; from_ports = refl };
  };
  answers = record { marked = refl; answered = refl; of_done_lines = refl; own_first = refl; settled_last = refl; in_place = refl; settle_feeds_all = refl };
  accounted_for = record {
    of_bytes = record {
      items = refl;
      requests = refl;
      after_accepting = refl;
      ids = refl;
      unread_alone = refl;
      true_ends = refl;
      read_requests = refl;
      read_answers = refl;
      accepted_next = refl;
    };
    of_messages = record { true_payloads = refl; got_by_bytes = refl; in_order_written = refl };
    of_nodes = record { caused = refl; absent = refl; told = refl; answered = refl; made = refl; doomed = refl };
  };
  one_live_socket = refl;
  bundle = refl;
  whole = record {
    delivered = refl;
    notified = record { told = refl; answered = refl; doomed = refl };
    at_rest = (record { none_pending = refl; all_read = refl; no_timer = refl; up_alike = refl }, tt);
  };
}

-- it is sharper too
one_message_sharper : IsSharper one_message one_message_log
unfolding digits read_address host_at port_at
one_message_sharper = record {
  down_breaks = refl;
  settle_as_lines = refl;
  unlabelled_ends = refl;
  own_spawn_answered = refl;
  made_by_line = refl;
  named_by_line = refl;
  next_port = refl;
  no_stranger_up = refl;
  opener_up_first = refl;
  target_number = refl;
  got_at_once = refl;
  shut_is_down = refl;
}

-- this one is as promised
replaced_is : IsPromised replaced replaced_log
unfolding digits read_address host_at port_at
replaced_is = record {
  lawful = record {
    epochs = record { epochs = refl; indexes = refl; next_epochs = refl };
    receipts = record { said_first = refl; in_order_and_once = refl; epochs_in_order = refl; living_receiver = refl; over_a_link = refl; at_once = refl };
    breaks = record { of_a_node = refl; of_a_begun = refl; licensed = refl; truly_down = refl };
    links = record {
      up_once = refl;
      down_from_up = refl;
      left_unrisen = refl;
      closed_rests = refl;
      up_alone = refl;
      target_first = refl;
      dial_while_down = refl;
      dial_once = refl;
      dial_in_order = refl;
    };
    life = record { numbered = refl; dooms_live = refl; dooms_caused = refl; over_once = refl; ends_caused = refl; dead_rest = refl };
    notices = record { of_open = refl; of_what_occurred = refl; truly_absent = refl; dooms_owners = refl; all_at_breaks = refl };
    references = record { next_number = refl; with_label = refl; one_made = refl; one_spawned = refl; spawned_the_made = refl; one_found = refl; found_what_stood = refl };
    names = record { free = refl; standing = refl; falls = refl };
    mailboxes = record { from_mailboxes = refl; from_ports = refl };
  };
  answers = record { marked = refl; answered = refl; of_done_lines = refl; own_first = refl; settled_last = refl; in_place = refl; settle_feeds_all = refl };
  accounted_for = record {
    of_bytes = record {
      items = refl;
      requests = refl;
      after_accepting = refl;
      ids = refl;
      unread_alone = refl;
      true_ends = refl;
      read_requests = refl;
      read_answers = refl;
      accepted_next = refl;
    };
    of_messages = record { true_payloads = refl; got_by_bytes = refl; in_order_written = refl };
    of_nodes = record { caused = refl; absent = refl; told = refl; answered = refl; made = refl; doomed = refl };
  };
  one_live_socket = refl;
  bundle = refl;
  whole = record {
    delivered = refl;
    notified = record { told = refl; answered = refl; doomed = refl };
    at_rest = (record { none_pending = refl; all_read = refl; no_timer = refl; up_alike = refl }, (record { none_pending = refl; all_read = refl; no_timer = refl; up_alike = refl }, (record { none_pending = refl; all_read = refl; no_timer = refl; up_alike = refl }, tt)));
  };
}

-- it is sharper too
replaced_sharper : IsSharper replaced replaced_log
unfolding digits read_address host_at port_at
replaced_sharper = record {
  down_breaks = refl;
  settle_as_lines = refl;
  unlabelled_ends = refl;
  own_spawn_answered = refl;
  made_by_line = refl;
  named_by_line = refl;
  next_port = refl;
  no_stranger_up = refl;
  opener_up_first = refl;
  target_number = refl;
  got_at_once = refl;
  shut_is_down = refl;
}

-- repeats after reconnect
not_repeated : HasLawfulReceipts repeated → ⊥
unfolding digits read_address host_at port_at
not_repeated h = is_not h.in_order_and_once

-- delivers past a loss
not_past_the_loss : HasLawfulReceipts past_the_loss → ⊥
unfolding digits read_address host_at port_at
not_past_the_loss h = is_not h.said_first

-- reads the old socket
not_old_socket_fed : FollowsLinkDiscipline old_socket_fed → ⊥
unfolding digits read_address host_at port_at
not_old_socket_fed h = is_not h.closed_rests

-- comes up on the new socket while up on the old
not_old_socket_up : FollowsLinkDiscipline old_socket_up → ⊥
unfolding digits read_address host_at port_at
not_old_socket_up h = is_not h.up_alone

-- breaks without cause
not_without_cause : HasLicensedBreaks one_message without_cause → ⊥
unfolding digits read_address host_at port_at
not_without_cause h = is_not h.licensed

-- answers every request invalid
not_answered_invalid : HasLicensedBreaks one_message answered_invalid → ⊥
unfolding digits read_address host_at port_at
not_answered_invalid h = is_not h.truly_down

-- delivers without bytes
not_without_bytes : IsCarried one_message without_bytes → ⊥
unfolding digits read_address host_at port_at
not_without_bytes h = is_not h.got_by_bytes

-- delivers before the last byte
not_before_the_last_byte : IsCarried one_message before_the_last_byte → ⊥
unfolding digits read_address host_at port_at
not_before_the_last_byte h = is_not h.got_by_bytes
