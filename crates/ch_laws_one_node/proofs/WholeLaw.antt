-- The log of a journal of one node is lawful as the whole model promises.
use Rattle.std.specs.Prelude.{◌≡◌, ℕ, List, [], ◌∷◌, ◌++◌, Bool, true, Some, None, Result, Ok, Err, filter_map}
use Rattle.std.proofs.Common.{refl, sym, ◌∙◌, subst}
use Rattle.ch_base.specs.AddressValues.{AddressValue}
use Rattle.ch_base.specs.declared.memory.Stop.{Stop}
use Rattle.ch_model.specs.declared.entry.Entry.{Entry}
use Rattle.ch_model.specs.declared.line.Line.{Line}
use Rattle.ch_model.specs.declared.line.What.{What}
use Rattle.ch_model.specs.declared.line.What.TheVariants.{Node}
use Rattle.ch_model.specs.Logs as logs
use Rattle.ch_model.specs.HasAnswers as answers
use Rattle.ch_model.specs.Lawful.{IsPromised}
use Rattle.ch_model.specs.Sharper.{IsSharper}
use Rattle.ch_model.specs.Isolation.{IsolatesStrangers}
use Rattle.ch_model.specs.EndsToldLast.{EndsToldLast}
use Rattle.ch_one_node.specs.Node.{new_node}
use Rattle.ch_one_node.specs.World.{◌>>=◌, log_from, log_of}
use Rattle.ch_laws_one_node.specs.OneNode.{AreOfNode, IsOfOneNode, FitFrames}
use Rattle.ch_laws_one_node.specs.Places.{AreNumbered}
use Rattle.ch_laws_one_node.specs.Lawful.{IsLawfulEntry, IsLawful}
use Rattle.ch_laws_one_node.proofs.EntriesOf.{IsEntryOf, AreEntriesOf, log_of_node}
use Rattle.ch_laws_one_node.proofs.Bridges.{equal_bytes_are}
use Rattle.ch_laws_one_node.proofs.WholeEntries.{each_of, said_in_epoch, next_index_said, none_again, got_the_said, got_the_next, got_no_earlier, got_by_receiver, got_over_link, got_at_once, numbered, none_doomed, none_caused, over_once, dead_rest}
use Rattle.ch_laws_one_node.proofs.WholeMailboxes.{took_the_first, none_of_port}
use Rattle.ch_laws_one_node.proofs.Blocks.{Found, found_all, Passes, PassesBetween, SkipsPlain, all_blocks, all_between}
use Rattle.ch_laws_one_node.proofs.WholeAnswers.{answered, of_done_lines, own_first, own_first_skips, settled_last, settled_last_skips, feeds_nothing, in_place, ends_caused, marks_are}
use Rattle.ch_laws_one_node.proofs.Quiet.{quiet}
use Rattle.ch_laws_one_node.proofs.WithoutSockets.{each_between_of, loses_no_name, got_within, got_unwritten, none_live, never_settles}
use Rattle.ch_laws_one_node.proofs.WholeSharper.{made_by_line, got_next, isolated}
use Rattle.ch_laws_one_node.proofs.Law.{lawful_log}

of_parts : (node : List ℕ) (journal rest : List Line) (log : List Entry) → AreOfNode node rest → FitFrames rest → Found journal rest → filter_map answers.event_number journal ≡ filter_map answers.event_number rest → AreEntriesOf node log → IsLawful rest log → IsPromised journal log
of_parts node journal rest log of fits found same entries lawful = record {
  lawful = record {
    epochs = record {
      epochs = by_entry _ (said_in_epoch node);
      indexes = by_entry _ (next_index_said node);
      next_epochs = by_entry _ (none_again node);
    };
    receipts = record {
      said_first = by_entry _ (got_the_said node);
      in_order_and_once = by_entry _ (got_the_next node);
      epochs_in_order = by_entry _ (got_no_earlier node);
      living_receiver = by_entry _ (got_by_receiver node);
      over_a_link = by_entry _ (got_over_link node);
      at_once = by_entry _ (got_at_once node);
    };
    breaks = record {
      of_a_node = alone _ (λ before x of. (quiet journal node before x of).breaks_as_node);
      of_a_begun = alone _ (λ before x of. (quiet journal node before x of).breaks_begun);
      licensed = alone _ (λ before x of. (quiet journal node before x of).breaks_licensed);
      truly_down = alone _ (λ before x of. (quiet journal node before x of).breaks_truly_down);
    };
    links = record {
      up_once = alone _ (λ before x of. (quiet journal node before x of).rises_once);
      down_from_up = alone _ (λ before x of. (quiet journal node before x of).falls_from_up);
      left_unrisen = alone _ (λ before x of. (quiet journal node before x of).leaves_unrisen);
      closed_rests = alone _ (λ before x of. (quiet journal node before x of).rests_closed);
      up_alone = alone _ (λ before x of. (quiet journal node before x of).rises_alone);
      target_first = alone _ (λ before x of. (quiet journal node before x of).target_rises_first);
      dial_while_down = alone _ (λ before x of. (quiet journal node before x of).dials_while_down);
      dial_once = alone _ (λ before x of. (quiet journal node before x of).dials_once);
      dial_in_order = alone _ (λ before x of. (quiet journal node before x of).dials_in_order);
    };
    life = record {
      numbered = by_entry _ (numbered node);
      dooms_live = by_entry _ (none_doomed node);
      dooms_caused = by_entry _ (none_caused journal node);
      over_once = by_entry _ (over_once node);
      ends_caused = by_line _ (ends_caused node journal);
      dead_rest = by_entry _ (dead_rest node);
    };
    notices = record {
      of_open = alone _ (λ before x of. (quiet journal node before x of).tells_open);
      of_what_occurred = alone _ (λ before x of. (quiet journal node before x of).tells_occurred);
      truly_absent = alone _ (λ before x of. (quiet journal node before x of).is_truly_absent);
      dooms_owners = between _ (λ before x rest old of. (quiet journal node before x of).dooms_owner rest);
      all_at_breaks = between _ (λ before x rest old of. (quiet journal node before x of).tells_all rest);
    };
    references = record {
      next_number = alone _ (λ before x of. (quiet journal node before x of).takes_next);
      with_label = alone _ (λ before x of. (quiet journal node before x of).has_both);
      one_made = alone _ (λ before x of. (quiet journal node before x of).makes_one);
      one_spawned = alone _ (λ before x of. (quiet journal node before x of).spawns_once);
      spawned_the_made = alone _ (λ before x of. (quiet journal node before x of).spawns_the_made);
      one_found = alone _ (λ before x of. (quiet journal node before x of).finds_once);
      found_what_stood = alone _ (λ before x of. (quiet journal node before x of).finds_what_stood);
    };
    names = record {
      free = alone _ (λ before x of. (quiet journal node before x of).is_given_free);
      standing = alone _ (λ before x of. (quiet journal node before x of).falls_standing);
      falls = between _ (loses_no_name node);
    };
    mailboxes = record {
      from_mailboxes = by_entry _ (took_the_first journal node);
      from_ports = by_entry _ (none_of_port node);
    };
  };
  answers = record {
    marked = equal_bytes_are (filter_map answers.mark_number log) (filter_map answers.event_number journal) (marks_are node rest of [] log lawful.answers ∙ sym same);
    answered = by_line _ (answered node journal);
    of_done_lines = by_line _ (of_done_lines node journal);
    own_first = by_line_between _ (own_first node journal) (own_first_skips journal);
    settled_last = by_line_between _ (settled_last node journal) (settled_last_skips journal);
    in_place = by_line _ (in_place node journal);
    settle_feeds_all = by_entry _ (feeds_nothing journal node);
  };
  accounted_for = record {
    of_bytes = record {
      items = alone _ (λ before x of. (quiet journal node before x of).writes_an_item);
      requests = alone _ (λ before x of. (quiet journal node before x of).requests_by_name);
      after_accepting = alone _ (λ before x of. (quiet journal node before x of).writes_after_accepting);
      ids = alone _ (λ before x of. (quiet journal node before x of).writes_fit_ids);
      unread_alone = alone _ (λ before x of. (quiet journal node before x of).feeds_the_unread);
      true_ends = alone _ (λ before x of. (quiet journal node before x of).feeds_the_end);
      read_requests = alone _ (λ before x of. (quiet journal node before x of).target_has_read);
      read_answers = alone _ (λ before x of. (quiet journal node before x of).opener_has_read);
      accepted_next = between _ (λ before x rest old of. (quiet journal node before x of).accepts_next rest);
    };
    of_messages = record {
      true_payloads = alone _ (λ before x of. (quiet journal node before x of).writes_true_data);
      got_by_bytes = by_entry _ (λ before x old of lawful. got_within journal node before x of);
      in_order_written = by_entry _ (λ before x old of lawful. got_unwritten journal node before x old of);
    };
    of_nodes = record {
      caused = alone _ (λ before x of. (quiet journal node before x of).writes_caused);
      absent = alone _ (λ before x of. (quiet journal node before x of).absent_by_bytes);
      told = alone _ (λ before x of. (quiet journal node before x of).told_by_bytes);
      answered = alone _ (λ before x of. (quiet journal node before x of).answered_by_bytes);
      made = alone _ (λ before x of. (quiet journal node before x of).made_by_bytes);
      doomed = alone _ (λ before x of. (quiet journal node before x of).doomed_by_bytes);
    };
  };
  one_live_socket = none_live node [] log tt entries;
  bundle = alone _ (λ before x of. (quiet journal node before x of).accepts_while_down);
  whole = record {
    delivered = alone _ (λ before x of. (quiet journal node before x of).settles_delivered);
    notified = record {
      told = alone _ (λ before x of. (quiet journal node before x of).is_noticed);
      answered = alone _ (λ before x of. (quiet journal node before x of).is_replied);
      doomed = alone _ (λ before x of. (quiet journal node before x of).is_doomed_by_entry);
    };
    at_rest = never_settles node journal [] log entries;
  };
} where
  by_entry : (test : List Entry → Entry → Bool) → ((before : List Entry) (x : Entry) → AreEntriesOf node before → IsEntryOf node x → IsLawfulEntry before x → test before x ≡ true) → logs.each test log ≡ true
  by_entry test holds = each_of node test holds [] log tt entries lawful.entries

  alone : (test : List Entry → Entry → Bool) → ((before : List Entry) (x : Entry) → IsEntryOf node x → test before x ≡ true) → logs.each test log ≡ true
  alone test holds = by_entry test (λ before x old of law. holds before x of)

  between : (test : List Entry → Entry → List Entry → Bool) → ((before : List Entry) (x : Entry) (rest : List Entry) → AreEntriesOf node before → IsEntryOf node x → test before x rest ≡ true) → logs.each_between test log ≡ true
  between test holds = each_between_of node test holds [] log tt entries

  by_line : (test : List Entry → Entry → Bool) → Passes node journal test → logs.each test log ≡ true
  by_line test passes = all_blocks node journal test passes rest found of fits [] log tt entries lawful.answers

  by_line_between : (test : List Entry → Entry → List Entry → Bool) → PassesBetween node journal test → SkipsPlain test → logs.each_between test log ≡ true
  by_line_between test passes skips = all_between node journal test passes skips rest found of fits [] log tt entries lawful.answers

-- ---- the sharper clauses

-- the log goes by the sharper clauses, keeps strangers apart, and tells ends last
pub record GoesFurther (journal : List Line) (log : List Entry) : Type 0 where
  pub sharper : IsSharper journal log
  pub isolated : IsolatesStrangers journal log
  pub told_last : EndsToldLast log

sharper_of_parts : (node : List ℕ) (journal rest : List Line) (log : List Entry) → IsOfOneNode journal → AreOfNode node rest → FitFrames rest → Found journal rest → AreEntriesOf node log → IsLawful rest log → GoesFurther journal log
sharper_of_parts node journal rest log one of fits found entries lawful = record {
  sharper = record {
    down_breaks = between _ (λ before x rest old of. (quiet journal node before x of).downs_break rest);
    settle_as_lines = alone _ (λ before x of. (quiet journal node before x of).settles_as_lines);
    unlabelled_ends = between _ (λ before x rest old of. (quiet journal node before x of).ends_unlabelled rest);
    own_spawn_answered = between _ (λ before x rest old of. (quiet journal node before x of).answers_own_spawn rest);
    made_by_line = all_blocks node journal _ (made_by_line node journal) rest found of fits [] log tt entries lawful.answers;
    named_by_line = alone _ (λ before x of. (quiet journal node before x of).is_named_by_line);
    next_port = alone _ (λ before x of. (quiet journal node before x of).is_next_port);
    no_stranger_up = alone _ (λ before x of. (quiet journal node before x of).accepts_no_stranger);
    opener_up_first = alone _ (λ before x of. (quiet journal node before x of).opener_writes_up);
    target_number = alone _ (λ before x of. (quiet journal node before x of).requests_by_number);
    got_at_once = got_next node rest of [] log tt entries lawful.entries lawful.answers;
    shut_is_down = between _ (λ before x rest old of. (quiet journal node before x of).shuts_down rest);
  };
  isolated = each_of node _ (isolated journal node one) [] log tt entries lawful.entries;
  told_last = alone _ (λ before x of. (quiet journal node before x of).tells_end_last);
} where
  alone : (test : List Entry → Entry → Bool) → ((before : List Entry) (x : Entry) → IsEntryOf node x → test before x ≡ true) → logs.each test log ≡ true
  alone test holds = each_of node test (λ before x old of law. holds before x of) [] log tt entries lawful.entries

  between : (test : List Entry → Entry → List Entry → Bool) → ((before : List Entry) (x : Entry) (rest : List Entry) → AreEntriesOf node before → IsEntryOf node x → test before x rest ≡ true) → logs.each_between test log ≡ true
  between test holds = each_between_of node test holds [] log tt entries

-- ---- a journal

value_is : {A : Type 0} (x y : A) → ◌≡◌ {A = Result A Stop} (Ok x) (Ok y) → x ≡ y
value_is x y h = cc

entries_declared : (name : List ℕ) (address : AddressValue) (unique : ℕ) (rest : List Line) (log : List Entry) → AreOfNode name rest → (r : Result (List Entry) Stop) → log_from (Some (record { name = name; node = new_node address unique })) rest ≡ r → (r >>= λ more. Ok ([] ++ more)) ≡ Ok log → AreEntriesOf name log
entries_declared name address unique rest log of (Err e) rest_is is = absurd (cc)
entries_declared name address unique rest log of (Ok more) rest_is is = subst (λ l. AreEntriesOf name l) (value_is more log is) (log_of_node rest (record { name = name; node = new_node address unique }) more of rest_is)

by_first : (least number : ℕ) (what : What) (rest : List Line) (log : List Entry) → IsOfOneNode (record { number = number; what = what } ∷ rest) → FitFrames (record { number = number; what = what } ∷ rest) → AreNumbered least (record { number = number; what = what } ∷ rest) None → log_of (record { number = number; what = what } ∷ rest) ≡ Ok log → IsPromised (record { number = number; what = what } ∷ rest) log
by_first least number (Node name address unique) rest log of fits rising is = of_parts name (record { number = number; what = Node name address unique } ∷ rest) rest log of fits.1 (found_all least (record { number = number; what = Node name address unique } ∷ rest) rising).1 refl
    (entries_declared name address unique rest log of (log_from (Some (record { name = name; node = new_node address unique })) rest) refl is)
    (record { entries = small.entries; answers = small.answers }) where
      small : IsLawful (record { number = number; what = Node name address unique } ∷ rest) log
      small = lawful_log (record { number = number; what = Node name address unique } ∷ rest) log of is
by_first least number what rest log of fits rising is = absurd of

pub lawful_of_one_node : (least : ℕ) (journal : List Line) (log : List Entry) → IsOfOneNode journal → FitFrames journal → AreNumbered least journal None → log_of journal ≡ Ok log → IsPromised journal log
lawful_of_one_node least [] log of fits rising is = subst (λ l. IsPromised [] l) (value_is [] log is) (of_parts [] [] [] [] tt tt tt refl tt (record { entries = tt; answers = refl }))
lawful_of_one_node least (line ∷ rest) log of fits rising is = by_first least line.number line.what rest log of fits rising is

sharper_by_first : (least number : ℕ) (what : What) (rest : List Line) (log : List Entry) → IsOfOneNode (record { number = number; what = what } ∷ rest) → FitFrames (record { number = number; what = what } ∷ rest) → AreNumbered least (record { number = number; what = what } ∷ rest) None → log_of (record { number = number; what = what } ∷ rest) ≡ Ok log → GoesFurther (record { number = number; what = what } ∷ rest) log
sharper_by_first least number (Node name address unique) rest log of fits rising is = sharper_of_parts name (record { number = number; what = Node name address unique } ∷ rest) rest log of of fits.1 (found_all least (record { number = number; what = Node name address unique } ∷ rest) rising).1
    (entries_declared name address unique rest log of (log_from (Some (record { name = name; node = new_node address unique })) rest) refl is)
    (record { entries = small.entries; answers = small.answers }) where
      small : IsLawful (record { number = number; what = Node name address unique } ∷ rest) log
      small = lawful_log (record { number = number; what = Node name address unique } ∷ rest) log of is
sharper_by_first least number what rest log of fits rising is = absurd of

pub sharper_of_one_node : (least : ℕ) (journal : List Line) (log : List Entry) → IsOfOneNode journal → FitFrames journal → AreNumbered least journal None → log_of journal ≡ Ok log → GoesFurther journal log
sharper_of_one_node least [] log of fits rising is = subst (λ l. GoesFurther [] l) (value_is [] log is) (sharper_of_parts [] [] [] [] tt tt tt tt tt (record { entries = tt; answers = refl }))
sharper_of_one_node least (line ∷ rest) log of fits rising is = sharper_by_first least line.number line.what rest log of fits rising is
