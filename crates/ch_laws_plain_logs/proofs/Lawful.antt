-- What the kinds of a plain log's entries give of what is promised of it.
use Rattle.std.proofs.Common.{◌≡◌, Bool, true, false, not, ◌||◌, List, [], ◌∷◌, ◌++◌, length, refl, ap, ◌==◌}
use Rattle.std.proofs.lemmas.Bool.{and_parts}
use Rattle.std.specs.List.{list_all}
use Rattle.std.specs.Prelude.{Option, Some, None}
use Rattle.ch_model.specs.declared.entry.Entry.{Entry}
use Rattle.ch_model.specs.declared.entry.Entry.TheVariants as entries
use Rattle.ch_model.specs.declared.entry.Verdict.TheVariants as verdicts
use Rattle.ch_model.specs.declared.line.Line.{Line}
use Rattle.ch_model.specs.declared.line.What.{What}
use Rattle.ch_model.specs.Accounts.{absent_by_bytes, told_by_bytes, answered_by_bytes, made_by_bytes, doomed_by_bytes, IsBroughtAbout}
use Rattle.ch_model.specs.Breaks.{breaks_as_node, breaks_begun, breaks_licensed, breaks_truly_down, HasLicensedBreaks}
use Rattle.ch_model.specs.Epochs.{begins_next_epoch}
use Rattle.ch_model.specs.HasAnswers.{ends_settled, has_settled_last, settles_whole}
use Rattle.ch_model.specs.Lawful.{SettlesWhole}
use Rattle.ch_model.specs.LifeRules.{dooms_the_live, dooms_with_cause}
use Rattle.ch_model.specs.Links.{falls_from_up}
use Rattle.ch_model.specs.Logs.{some_and, none_or}
use Rattle.ch_model.specs.Mailboxes.{takes_the_first_of_port}
use Rattle.ch_model.specs.Marks.{line_numbered, is_settle}
use Rattle.ch_model.specs.Names.{fall_first, is_given_free, falls_standing, loses_names, FollowsNames}
use Rattle.ch_model.specs.References.{takes_next, has_both, makes_one, spawns_once, spawns_the_made, finds_once, finds_what_stood, FollowsReferences}
use Rattle.ch_model.specs.Rest.{SettlesAtRestAfter}
use Rattle.ch_model.specs.Sockets.{unread}
use Rattle.ch_model.specs.Watches.{tells_open, tells_occurred, is_truly_absent, dooms_owner, tells_all, HasLawfulNotices}
use Rattle.ch_model.specs.Whole.{settles_delivered}
use Rattle.ch_model.specs.WholeNotice.{is_noticed, is_replied, is_doomed_by_entry, at_settled}
use Rattle.ch_laws_plain_logs.specs.Plain.{is_plain, IsPlain, HasPlainLines, WritesNoNodes, PlainlyLawful}
use Rattle.ch_laws_plain_logs.proofs.Plain.{each_plain, each_between_plain, each_between_plains}
use Rattle.ch_laws_plain_logs.proofs.Absent.{none_named}
use Rattle.ch_laws_plain_logs.proofs.Lines.{none_numbered, no_settles, never_in_settle}
use Rattle.ch_laws_plain_logs.proofs.Openings.{all_caused}

-- each plain entry passes the test, whatever stood before
abbrev pub PlainPass : (List Entry → Entry → Bool) → Type 0
PlainPass test = (before : List Entry) (x : Entry) → is_plain x ≡ true → test before x ≡ true

-- each plain entry passes the test, whatever stands before and after
abbrev pub PlainPassBetween : (List Entry → Entry → List Entry → Bool) → Type 0
PlainPassBetween test = (before : List Entry) (x : Entry) (rest : List Entry) → is_plain x ≡ true → test before x rest ≡ true

-- ---- breaks

as_node : (journal : List Line) → PlainPass (breaks_as_node journal)
as_node journal before (entries.Broke node peer why) e = absurd cc
as_node journal before x e = refl

begun : PlainPass breaks_begun
begun before (entries.Broke node peer why) e = absurd cc
begun before x e = refl

licensed : (journal : List Line) → PlainPass (breaks_licensed journal)
licensed journal before (entries.Broke node peer why) e = absurd cc
licensed journal before x e = refl

truly_down : (journal : List Line) → PlainPass (breaks_truly_down journal)
truly_down journal before (entries.Broke node peer why) e = absurd cc
truly_down journal before x e = refl

pub all_breaks : (journal : List Line) (log : List Entry) → IsPlain log → HasLicensedBreaks journal log
all_breaks journal log plain = record {
  of_a_node = each_plain (breaks_as_node journal) (as_node journal) log plain;
  of_a_begun = each_plain breaks_begun begun log plain;
  licensed = each_plain (breaks_licensed journal) (licensed journal) log plain;
  truly_down = each_plain (breaks_truly_down journal) (truly_down journal) log plain;
}

-- ---- notices

told_open : PlainPass tells_open
told_open before (entries.Told watch reason) e = absurd cc
told_open before x e = refl

told_occurred : PlainPass tells_occurred
told_occurred before (entries.Told watch reason) e = absurd cc
told_occurred before x e = refl

absent_truly : PlainPass is_truly_absent
absent_truly before (entries.Absent watch) e = absurd cc
absent_truly before x e = refl

owners_doomed : PlainPassBetween dooms_owner
owners_doomed before (entries.Told watch reason) rest e = absurd cc
owners_doomed before x rest e = refl

told_at_breaks : PlainPassBetween tells_all
told_at_breaks before (entries.Broke node peer why) rest e = absurd cc
told_at_breaks before x rest e = refl

pub all_notices : (log : List Entry) → IsPlain log → HasLawfulNotices log
all_notices log plain = record {
  of_open = each_plain tells_open told_open log plain;
  of_what_occurred = each_plain tells_occurred told_occurred log plain;
  truly_absent = each_plain is_truly_absent absent_truly log plain;
  dooms_owners = each_between_plain dooms_owner owners_doomed log plain;
  all_at_breaks = each_between_plain tells_all told_at_breaks log plain;
}

-- ---- references

next_taken : (journal : List Line) → PlainPass (takes_next journal)
next_taken journal before (entries.Watch watch by target kind) e = absurd cc
next_taken journal before (entries.Asked question by at) e = absurd cc
next_taken journal before (entries.Made process (Some spawn) label) e = absurd cc
next_taken journal before (entries.Isat question found) e = absurd cc
next_taken journal before x e = refl

labelled : PlainPass has_both
labelled before (entries.Made process (Some spawn) label) e = absurd cc
labelled before (entries.Made process None (Some label)) e = absurd cc
labelled before x e = refl

made_once : PlainPass makes_one
made_once before (entries.Made process (Some spawn) label) e = absurd cc
made_once before x e = refl

spawned_once : PlainPass spawns_once
spawned_once before (entries.Spawned question process) e = absurd cc
spawned_once before x e = refl

spawned_as_made : PlainPass spawns_the_made
spawned_as_made before (entries.Spawned question process) e = absurd cc
spawned_as_made before x e = refl

found_once : PlainPass finds_once
found_once before (entries.Isat question found) e = absurd cc
found_once before x e = refl

found_stood : (journal : List Line) → PlainPass (finds_what_stood journal)
found_stood journal before (entries.Isat question found) e = absurd cc
found_stood journal before x e = refl

pub all_references : (journal : List Line) (log : List Entry) → IsPlain log → FollowsReferences journal log
all_references journal log plain = record {
  next_number = each_plain (takes_next journal) (next_taken journal) log plain;
  with_label = each_plain has_both labelled log plain;
  one_made = each_plain makes_one made_once log plain;
  one_spawned = each_plain spawns_once spawned_once log plain;
  spawned_the_made = each_plain spawns_the_made spawned_as_made log plain;
  one_found = each_plain finds_once found_once log plain;
  found_what_stood = each_plain (finds_what_stood journal) (found_stood journal) log plain;
}

-- ---- names

given_free : PlainPass is_given_free
given_free before (entries.Named node name process) e = absurd cc
given_free before x e = refl

fall_standing : PlainPass falls_standing
fall_standing before (entries.Named node name process) e = absurd cc
fall_standing before x e = refl

-- who is over had no name
names_lost : (before : List Entry) (x : Entry) (rest : List Entry) → IsPlain before → is_plain x ≡ true → IsPlain rest → loses_names before x rest ≡ true
names_lost before (entries.Over process reason) rest b e r = ap (λ names. fall_first process.node names rest) (none_named before process b)
names_lost before x rest b e r = refl

pub all_names : (log : List Entry) → IsPlain log → FollowsNames log
all_names log plain = record {
  free = each_plain is_given_free given_free log plain;
  standing = each_plain falls_standing fall_standing log plain;
  falls = each_between_plains loses_names names_lost log plain;
}

-- ---- messages from node to node

absent_read : (journal : List Line) → PlainPass (absent_by_bytes journal)
absent_read journal before (entries.Absent watch) e = absurd cc
absent_read journal before x e = refl

told_read : (journal : List Line) → PlainPass (told_by_bytes journal)
told_read journal before (entries.Told watch reason) e = absurd cc
told_read journal before x e = refl

answers_read : (journal : List Line) → PlainPass (answered_by_bytes journal)
answers_read journal before (entries.Spawned question process) e = absurd cc
answers_read journal before (entries.Isat question found) e = absurd cc
answers_read journal before x e = refl

spawns_read : (journal : List Line) → PlainPass (made_by_bytes journal)
spawns_read journal before (entries.Made process (Some spawn) label) e = absurd cc
spawns_read journal before x e = refl

dooms_read : (journal : List Line) → PlainPass (doomed_by_bytes journal)
dooms_read journal before (entries.Doom process text) e = absurd cc
dooms_read journal before x e = refl

pub all_of_nodes : (journal : List Line) (log : List Entry) → IsPlain log → WritesNoNodes journal log → IsBroughtAbout journal log
all_of_nodes journal log plain written = record {
  caused = all_caused journal log written;
  absent = each_plain (absent_by_bytes journal) (absent_read journal) log plain;
  told = each_plain (told_by_bytes journal) (told_read journal) log plain;
  answered = each_plain (answered_by_bytes journal) (answers_read journal) log plain;
  made = each_plain (made_by_bytes journal) (spawns_read journal) log plain;
  doomed = each_plain (doomed_by_bytes journal) (dooms_read journal) log plain;
}

-- ---- settling

delivers : (journal : List Line) → PlainPass (settles_delivered journal)
delivers journal before entries.Settled e = absurd cc
delivers journal before x e = refl

nothing_settled : (test : List Entry → Entry → Bool) → PlainPass (at_settled test)
nothing_settled test before entries.Settled e = absurd cc
nothing_settled test before x e = refl

pub at_rest_from : (journal : List Line) (before log : List Entry) → IsPlain log → SettlesAtRestAfter journal before log
at_rest_from journal before [] plain = tt
at_rest_from journal before (x ∷ log) plain = let parts = and_parts (is_plain x) (list_all is_plain log) plain in one x parts.0 (at_rest_from journal (before ++ x ∷ []) log parts.1) where
  one : (x : Entry) → is_plain x ≡ true → SettlesAtRestAfter journal (before ++ x ∷ []) log → SettlesAtRestAfter journal before (x ∷ log)
  one entries.Settled e more = absurd cc
  one x e more = more

pub all_whole : (journal : List Line) (log : List Entry) → IsPlain log → SettlesWhole journal log
all_whole journal log plain = record {
  delivered = each_plain (settles_delivered journal) (delivers journal) log plain;
  notified = record {
    told = each_plain (at_settled (is_noticed journal)) (nothing_settled (is_noticed journal)) log plain;
    answered = each_plain (at_settled (is_replied journal)) (nothing_settled (is_replied journal)) log plain;
    doomed = each_plain (at_settled (is_doomed_by_entry journal)) (nothing_settled (is_doomed_by_entry journal)) log plain;
  };
  at_rest = at_rest_from journal [] log plain;
}

settled_at_last : (journal : List Line) → HasPlainLines journal → PlainPassBetween (has_settled_last journal)
settled_at_last journal lines before (entries.Line number verdicts.Ok) rest e = unasked (line_numbered journal number) (none_numbered is_settle no_settles journal lines number)
  where
    unasked : (o : Option What) → some_and is_settle o ≡ false → none_or (λ what. not (is_settle what) || ends_settled rest) o ≡ true
    unasked None e = refl
    unasked (Some what) e = ap (λ b. not b || ends_settled rest) e
settled_at_last journal lines before (entries.Line number verdicts.Unknown) rest e = refl
settled_at_last journal lines before (entries.Line number answer) rest e = refl
settled_at_last journal lines before entries.Settled rest e = absurd cc
settled_at_last journal lines before x rest e = refl

fed_whole : (journal : List Line) → HasPlainLines journal → PlainPass (settles_whole journal)
fed_whole journal lines before (entries.Fed sock end count) e = ap (λ b. not b || count == length (unread journal before sock end)) (never_in_settle journal before lines)
fed_whole journal lines before x e = refl

-- ---- single fields

epochs_begin : PlainPass begins_next_epoch
epochs_begin before (entries.Again by to epoch) e = absurd cc
epochs_begin before x e = refl

downs_from_up : PlainPass falls_from_up
downs_from_up before (entries.Down sock end) e = absurd cc
downs_from_up before x e = refl

dooms_of_live : PlainPass dooms_the_live
dooms_of_live before (entries.Doom process text) e = absurd cc
dooms_of_live before x e = refl

dooms_by_cause : (journal : List Line) → PlainPass (dooms_with_cause journal)
dooms_by_cause journal before (entries.Doom process text) e = absurd cc
dooms_by_cause journal before x e = refl

taken_from_ports : PlainPass takes_the_first_of_port
taken_from_ports before (entries.Took by (Some port) mark body) e = absurd cc
taken_from_ports before x e = refl

-- ---- all of it

pub plainly_lawful : (journal : List Line) (log : List Entry) → HasPlainLines journal → IsPlain log → PlainlyLawful journal log
plainly_lawful journal log lines plain = record {
  breaks = all_breaks journal log plain;
  notices = all_notices log plain;
  references = all_references journal log plain;
  names = all_names log plain;
  whole = all_whole journal log plain;
  next_epochs = each_plain begins_next_epoch epochs_begin log plain;
  down_from_up = each_plain falls_from_up downs_from_up log plain;
  dooms_live = each_plain dooms_the_live dooms_of_live log plain;
  dooms_caused = each_plain (dooms_with_cause journal) (dooms_by_cause journal) log plain;
  from_ports = each_plain takes_the_first_of_port taken_from_ports log plain;
  settled_last = each_between_plain (has_settled_last journal) (settled_at_last journal lines) log plain;
  settle_feeds_all = each_plain (settles_whole journal) (fed_whole journal lines) log plain;
}
