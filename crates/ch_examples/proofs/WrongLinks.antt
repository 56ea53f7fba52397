-- The right race is as promised, and each wrong one is refused by the clause that it goes against.
use Rattle.std.specs.Prelude.{◌≡◌, true, false}
use Rattle.std.specs.Fmt.{digits}
use Rattle.std.proofs.Common.{refl}
use Rattle.ch_base.specs.Addresses.{read_address, host_at, port_at}
use Rattle.ch_model.specs.Breaks.{HasLicensedBreaks}
use Rattle.ch_model.specs.Links.{FollowsLinkDiscipline}
use Rattle.ch_model.specs.LiveSockets.{OneLiveSocket, Bundle}
use Rattle.ch_model.specs.Whole.{DeliversWhole}
use Rattle.ch_model.specs.Lawful.{IsPromised}
use Rattle.ch_model.specs.Sharper.{IsSharper}
use Rattle.ch_examples.specs.WrongLinks.{crossed, crossed_log, both_accepted, accepted_over, dropped, dropped_by_breaks}

-- a test that fails doesn't pass
is_not : false ≡ true → ⊥
is_not h = cc

-- this one is as promised
crossed_is : IsPromised crossed crossed_log
unfolding digits read_address host_at port_at
crossed_is = record {
  lawful = record {
    epochs = record { epochs = refl; indexes = refl; next_epochs = refl };
    receipts = record { said_first = refl; in_order_and_once = refl; epochs_in_order = refl; living_receiver = refl; over_a_link = refl; at_once = refl };
    breaks = record { of_a_node = refl; of_a_begun = refl; licensed = refl; truly_down = refl };
    links = record {
      up_once = refl;
      down_from_up = refl;
      left_unrisen = refl;
      closed_rests = refl;
      up_alone = refl;
      target_first = refl;
      dial_while_down = refl;
      dial_once = refl;
      dial_in_order = refl;
    };
    life = record { numbered = refl; dooms_live = refl; dooms_caused = refl; over_once = refl; ends_caused = refl; dead_rest = refl };
    notices = record { of_open = refl; of_what_occurred = refl; truly_absent = refl; dooms_owners = refl; all_at_breaks = refl };
    references = record { next_number = refl; with_label = refl; one_made = refl; one_spawned = refl; spawned_the_made = refl; one_found = refl; found_what_stood = refl };
    names = record { free = refl; standing = refl; falls = refl };
    mailboxes = record { from_mailboxes = refl; from_ports = refl };
  };
  answers = record { marked = refl; answered = refl; of_done_lines = refl; own_first = refl; settled_last = refl; in_place = refl; settle_feeds_all = refl };
  accounted_for = record {
    of_bytes = record {
      items = refl;
      requests = refl;
      after_accepting = refl;
      ids = refl;
      unread_alone = refl;
      true_ends = refl;
      read_requests = refl;
      read_answers = refl;
      accepted_next = refl;
    };
    of_messages = record { true_payloads = refl; got_by_bytes = refl; in_order_written = refl };
    of_nodes = record { caused = refl; absent = refl; told = refl; answered = refl; made = refl; doomed = refl };
  };
  one_live_socket = refl;
  bundle = refl;
  whole = record {
    delivered = refl;
    notified = record { told = refl; answered = refl; doomed = refl };
    at_rest = (record { none_pending = refl; all_read = refl; no_timer = refl; up_alike = refl }, tt);
  };
}

-- it is sharper too
crossed_sharper : IsSharper crossed crossed_log
unfolding digits read_address host_at port_at
crossed_sharper = record {
  down_breaks = refl;
  settle_as_lines = refl;
  unlabelled_ends = refl;
  own_spawn_answered = refl;
  made_by_line = refl;
  named_by_line = refl;
  next_port = refl;
  no_stranger_up = refl;
  opener_up_first = refl;
  target_number = refl;
  got_at_once = refl;
  shut_is_down = refl;
}

-- accepts both crossed requests
not_both_live : OneLiveSocket both_accepted → ⊥
unfolding digits read_address host_at port_at
not_both_live h = is_not h

-- the same, by the bundle
not_both_bundled : Bundle both_accepted → ⊥
unfolding digits read_address host_at port_at
not_both_bundled h = is_not h

-- accepts a request over an up link
not_accepted_over : Bundle accepted_over → ⊥
unfolding digits read_address host_at port_at
not_accepted_over h = is_not h

-- the same, by link discipline
not_up_twice : FollowsLinkDiscipline accepted_over → ⊥
unfolding digits read_address host_at port_at
not_up_twice h = is_not h.up_alone

-- accepts neither crossed request, and drops what waits
not_dropped : DeliversWhole crossed dropped → ⊥
unfolding digits read_address host_at port_at
not_dropped h = is_not h

-- the same, by breaks
not_dropped_by_breaks : HasLicensedBreaks crossed dropped_by_breaks → ⊥
unfolding digits read_address host_at port_at
not_dropped_by_breaks h = is_not h.licensed
