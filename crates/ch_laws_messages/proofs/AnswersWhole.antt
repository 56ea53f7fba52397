-- The log answers each line of a journal of many nodes as it shows, where it does so for the lines of each kind.
use Rattle.std.proofs.Common.{◌≡◌, ℕ, Bool, true, false, cond, not, ◌&&◌, ◌||◌, List, [], ◌∷◌, ◌++◌, refl, ap, sym, ◌∙◌, subst}
use Rattle.std.proofs.lemmas.Bool.{and_parts}
use Rattle.std.proofs.lemmas.Slice.Eq.{bytes_eq-Decides}
use Rattle.std.specs.List.{filter_map, cons_option}
use Rattle.std.specs.Prelude.{Some, None}
use Rattle.std.specs.Str.{bytes_eq}
use Rattle.ch_model.specs.declared.entry.Entry.{Entry}
use Rattle.ch_model.specs.declared.entry.Entry.TheVariants as entries
use Rattle.ch_model.specs.declared.entry.Verdict.{Verdict}
use Rattle.ch_model.specs.declared.line.Line.{Line}
use Rattle.ch_model.specs.declared.line.What.{What}
use Rattle.ch_model.specs.declared.line.What.TheVariants as lines
use Rattle.ch_model.specs.declared.name.TargetName.TheVariants as targets
use Rattle.ch_model.specs.HasAnswers.{is_declaration, event_number, mark_number, is_answered, HasAnswers}
use Rattle.ch_model.specs.Life.{is_live}
use Rattle.ch_model.specs.Logs.{some_and, each_after}
use Rattle.ch_model.specs.Marks.{line_numbered}
use Rattle.ch_model.specs.World.{names_of}
use Rattle.ch_model.specs.WorldState.{Named}
use Rattle.ch_laws_log.proofs.Blocks.{Found, found_all}
use Rattle.ch_laws_many.specs.InOrder.{is_of_nobody, marks_such, is_answered_where, AnswersInOrder}
use Rattle.ch_laws_many.specs.ManyLines.{is_of_many}
use Rattle.ch_laws_many.proofs.Reached.{IsJournal}
use Rattle.ch_laws_acting.specs.Logs.{is_of_lives, is_answered_by_lives}
use Rattle.ch_laws_messages.specs.MailAnswers.{is_take, is_answered_take}
use Rattle.ch_laws_messages.specs.SendsSends.{is_of_sends, is_answered_send}
use Rattle.ch_laws_messages.proofs.SendsCounts.{numbered_many}

both_hold : (a b : Bool) → a ≡ true → b ≡ true → (a && b) ≡ true
both_hold true b one two = two
both_hold false b one two = absurd cc

-- ---- the lines that are marked

-- a line of the journal has the number, and declares nothing
record IsEvent (journal : List Line) (number : ℕ) : Type 0 where
  what : What
  found : line_numbered journal number ≡ Some what
  event : is_declaration what ≡ false

abbrev AreEvents : List Line → List ℕ → Type 0
AreEvents journal [] = Unit {0}
AreEvents journal (number ∷ rest) = IsEvent journal number × AreEvents journal rest

events_of : (journal rest : List Line) → Found journal rest → AreEvents journal (filter_map event_number rest)
events_of journal [] found = tt
events_of journal (line ∷ rest) found = by_kind (is_declaration line.what) refl (filter_map event_number rest) (events_of journal rest found.1) where
  by_kind : (b : Bool) → is_declaration line.what ≡ b → (more : List ℕ) → AreEvents journal more → AreEvents journal (cons_option (cond b None (Some line.number)) more)
  by_kind true e more all = all
  by_kind false e more all = (record { what = line.what; found = found.0; event = e }, all)

-- an entry that marks a line marks an event
abbrev MarksEvent : List Line → Entry → Type 0
MarksEvent journal (entries.Line number answer) = IsEvent journal number
MarksEvent journal entry = Unit {0}

first_event : (journal : List Line) (entry : Entry) (rest : List ℕ) → AreEvents journal (cons_option (mark_number entry) rest) → MarksEvent journal entry × AreEvents journal rest
first_event journal (entries.Line number answer) rest all = all
first_event journal entry rest all = (tt, all)

-- ---- one line

-- where the test takes the line, it has its answer
answered_such : (test : What → Bool) (journal : List Line) (log : List Entry) (number : ℕ) (answer : Verdict) (what : What) → line_numbered journal number ≡ Some what → test what ≡ true → is_answered_where test journal log (entries.Line number answer) ≡ true
    → is_answered journal log (entries.Line number answer) ≡ true
answered_such test journal log number answer what found takes e = by_such (marks_such test journal (entries.Line number answer)) (ap (some_and test) found ∙ takes) e where
  by_such : (b : Bool) → b ≡ true → (not b || is_answered journal log (entries.Line number answer)) ≡ true → is_answered journal log (entries.Line number answer) ≡ true
  by_such true b e = e
  by_such false b e = absurd cc

line_answered : (journal : List Line) (known : List Named) (log : List Entry) (number : ℕ) (answer : Verdict) (what : What) → line_numbered journal number ≡ Some what → is_of_many known what ≡ true → is_declaration what ≡ false
    → is_answered_where is_of_nobody journal log (entries.Line number answer) ≡ true → is_answered_by_lives journal log (entries.Line number answer) ≡ true → is_answered_take journal log (entries.Line number answer) ≡ true → is_answered_send journal log (entries.Line number answer) ≡ true
    → is_answered journal log (entries.Line number answer) ≡ true
line_answered journal known log number answer (lines.Node name address unique) found of event nobody lives takes sends = absurd cc
line_answered journal known log number answer (lines.Proc node) found of event nobody lives takes sends = answered_such is_of_nobody journal log number answer (lines.Proc node) found refl nobody
line_answered journal known log number answer (lines.Send by (targets.Process to) mark body) found of event nobody lives takes sends = by_life (is_live log by) refl (bytes_eq by.node to.node) refl where
  what : What
  what = lines.Send by (targets.Process to) mark body

  by_life : (live : Bool) → is_live log by ≡ live → (here : Bool) → bytes_eq by.node to.node ≡ here → is_answered journal log (entries.Line number answer) ≡ true
  by_life false e here f = answered_such (is_of_lives log) journal log number answer what found (ap (λ b. not b || bytes_eq by.node to.node) e) lives
  by_life true e true f = answered_such (is_of_lives log) journal log number answer what found (ap (λ b. not b || bytes_eq by.node to.node) e ∙ f) lives
  by_life true e false f = answered_such (is_of_sends log) journal log number answer what found (ap (λ b. b && not (bytes_eq by.node to.node)) e ∙ ap not f) sends
line_answered journal known log number answer (lines.Recv by mark) found of event nobody lives takes sends = answered_such is_take journal log number answer (lines.Recv by mark) found refl takes
line_answered journal known log number answer (lines.End by) found of event nobody lives takes sends = answered_such (is_of_lives log) journal log number answer (lines.End by) found refl lives
line_answered journal known log number answer (lines.Join sock) found of event nobody lives takes sends = answered_such is_of_nobody journal log number answer (lines.Join sock) found refl nobody
line_answered journal known log number answer (lines.Come sock) found of event nobody lives takes sends = answered_such is_of_nobody journal log number answer (lines.Come sock) found refl nobody
line_answered journal known log number answer (lines.Feed sock end count) found of event nobody lives takes sends = answered_such is_of_nobody journal log number answer (lines.Feed sock end count) found refl nobody
line_answered journal known log number answer what found of event nobody lives takes sends = absurd cc

-- ---- the log

module _ (journal : List Line) (j : IsJournal journal) where
  entry_answered : (log : List Entry) (entry : Entry) → MarksEvent journal entry → is_answered_where is_of_nobody journal log entry ≡ true → is_answered_by_lives journal log entry ≡ true → is_answered_take journal log entry ≡ true → is_answered_send journal log entry ≡ true
      → is_answered journal log entry ≡ true
  entry_answered log (entries.Line number answer) marks nobody lives takes sends =
      line_answered journal (names_of journal) log number answer marks.what marks.found (numbered_many (names_of journal) journal j.lines number marks.what marks.found) marks.event nobody lives takes sends
  entry_answered log entry marks nobody lives takes sends = refl

  walk : (before log : List Entry) → AreEvents journal (filter_map mark_number log) → each_after (is_answered_where is_of_nobody journal) before log ≡ true → each_after (is_answered_by_lives journal) before log ≡ true → each_after (is_answered_take journal) before log ≡ true → each_after (is_answered_send journal) before log ≡ true
      → each_after (is_answered journal) before log ≡ true
  walk before [] marks nobody lives takes sends = refl
  walk before (entry ∷ log) marks nobody lives takes sends =
      let on = before ++ entry ∷ [] in
      let first = first_event journal entry (filter_map mark_number log) marks in
      let n = and_parts (is_answered_where is_of_nobody journal before entry) (each_after (is_answered_where is_of_nobody journal) on log) nobody in
      let l = and_parts (is_answered_by_lives journal before entry) (each_after (is_answered_by_lives journal) on log) lives in
      let t = and_parts (is_answered_take journal before entry) (each_after (is_answered_take journal) on log) takes in
      let s = and_parts (is_answered_send journal before entry) (each_after (is_answered_send journal) on log) sends in
      both_hold (is_answered journal before entry) (each_after (is_answered journal) on log) (entry_answered before entry first.0 n.0 l.0 t.0 s.0) (walk on log first.1 n.1 l.1 t.1 s.1)

  -- each line is answered, where those of each kind are
  pub all_answered : (log : List Entry) → AnswersInOrder journal log → each_after (is_answered_by_lives journal) [] log ≡ true → each_after (is_answered_take journal) [] log ≡ true → each_after (is_answered_send journal) [] log ≡ true → each_after (is_answered journal) [] log ≡ true
  all_answered log order lives takes sends = walk [] log marks order.answered lives takes sends where
    same : filter_map mark_number log ≡ filter_map event_number journal
    same = (bytes_eq-Decides (filter_map mark_number log) (filter_map event_number journal)).0 order.marked

    marks : AreEvents journal (filter_map mark_number log)
    marks = subst (AreEvents journal) (sym same) (events_of journal journal (found_all 1 journal j.numbered))

  -- and all that is asked of answers holds
  pub has_answers : (log : List Entry) → AnswersInOrder journal log → each_after (is_answered_by_lives journal) [] log ≡ true → each_after (is_answered_take journal) [] log ≡ true → each_after (is_answered_send journal) [] log ≡ true → HasAnswers journal log
  has_answers log order lives takes sends = record {
    marked = order.marked;
    answered = all_answered log order lives takes sends;
    of_done_lines = order.of_done_lines;
    own_first = order.own_first;
    settled_last = order.settled_last;
    in_place = order.in_place;
    settle_feeds_all = order.settle_feeds_all;
  }
