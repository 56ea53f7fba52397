-- Each line by which a process takes a message is answered as the log shows, in the whole log.
use Rattle.std.proofs.Common.{◌≡◌, ℕ, Bool, true, false, not, ◌||◌, List, [], ◌∷◌, ◌++◌, Ok, Err, refl, sym, ap, ◌∙◌, subst, append_assoc}
use Rattle.std.proofs.lemmas.Bool.{and_parts}
use Rattle.std.proofs.lemmas.List.{append-nil}
use Rattle.std.specs.List.{list_all}
use Rattle.std.specs.Prelude.{Option, Some}
use Rattle.ch_model.specs.declared.entry.Entry.{Entry}
use Rattle.ch_model.specs.declared.entry.Entry.TheVariants as entries
use Rattle.ch_model.specs.declared.entry.Verdict.{Verdict}
use Rattle.ch_model.specs.declared.entry.Verdict.TheVariants as verdicts
use Rattle.ch_model.specs.declared.line.Line.{Line}
use Rattle.ch_model.specs.declared.line.What.{What}
use Rattle.ch_model.specs.declared.line.What.TheVariants as lines
use Rattle.ch_model.specs.Answers.{answer_to}
use Rattle.ch_model.specs.HasAnswers.{same_answer}
use Rattle.ch_model.specs.Logs.{some_and, each_after}
use Rattle.ch_model.specs.Marks.{line_numbered}
use Rattle.ch_model.specs.Settle.{Happened}
use Rattle.ch_model.specs.World.{◌>>=◌, names_of, nodes_of, first_of_hosts, world_new, world_step, line_answered, log_from, log_of}
use Rattle.ch_model.specs.WorldHappenings.{Answered}
use Rattle.ch_model.specs.WorldLines.{line_done}
use Rattle.ch_model.specs.WorldState.{World}
use Rattle.ch_laws_acting.proofs.WorldRests as rests
use Rattle.ch_laws_lives.proofs.WorldLives as lives
use Rattle.ch_laws_log.specs.Lines.{AllLines}
use Rattle.ch_laws_log.proofs.Blocks.{Found, found_all, each_append}
use Rattle.ch_laws_log.proofs.Marks.{Unmarked, AnsweredUnmarked, done_unmarked}
use Rattle.ch_laws_many.specs.ManyLines.{is_of_many, AreNamedApart}
use Rattle.ch_laws_many.proofs.Answering.{AnsweredAs, answers_of_marks}
use Rattle.ch_laws_many.proofs.Following.{is_shutting}
use Rattle.ch_laws_many.proofs.Reached.{IsJournal, AreOpen, unmarked_parts}
use Rattle.ch_laws_plain_logs.specs.Plain.{is_plain, IsPlain}
use Rattle.ch_laws_messages.specs.MailAnswers.{is_take, is_answered_take}
use Rattle.ch_laws_messages.specs.MailGiven.{AtLine, AtEachLine}
use Rattle.ch_laws_messages.proofs.MailAnswers.{take_answered}
use Rattle.ch_laws_messages.proofs.MailLogs.{both_true}

-- ---- one line more

-- entries stand before those of what follows
abbrev behind : List Entry → List Entry × World → Happened
behind told more = Ok (told ++ more.0, more.1)

-- the lines that follow one
abbrev later_lines : List Line → List Entry × World → Happened
later_lines rest one = log_from one.1 rest >>= behind one.0

-- one line is done after some
one_more : (world : World) (front : List Line) (line : Line) (log : List Entry) (now : World) → log_from world front ≡ Ok (log, now) → (done : List Entry × World) → world_step now line ≡ Ok done → log_from world (front ++ line ∷ []) ≡ Ok (log ++ done.0, done.1)
one_more world [] line log now e done is =
    let same : ◌≡◌ {A = List Entry × World} ([], world) (log, now) = cc in
    let start : world ≡ now = ap (λ (x : List Entry × World). x.1) same in
    let none : [] ≡ log = ap (λ (x : List Entry × World). x.0) same in
    ap (λ (r : Happened). r >>= later_lines []) (ap (λ (w : World). world_step w line) start ∙ is) ∙ ap (λ (l : List Entry). Ok (l, done.1)) (append-nil done.0 ∙ ap (λ (l : List Entry). l ++ done.0) none)
one_more world (x ∷ front) line log now e done is = by_first (world_step world x) e (λ w l f. one_more w front line l now f done is) where
  Later : Type 0
  Later = (w : World) (l : List Entry) → log_from w front ≡ Ok (l, now) → log_from w (front ++ line ∷ []) ≡ Ok (l ++ done.0, done.1)

  by_rest : (first : List Entry × World) (more : Happened) → log_from first.1 front ≡ more → (more >>= behind first.0) ≡ Ok (log, now) → Later → (log_from first.1 (front ++ line ∷ []) >>= behind first.0) ≡ Ok (log ++ done.0, done.1)
  by_rest first (Err stop) m e later = absurd cc
  by_rest first (Ok more) m e later =
      let same : ◌≡◌ {A = List Entry × World} (first.0 ++ more.0, more.1) (log, now) = cc in
      let end : more.1 ≡ now = ap (λ (y : List Entry × World). y.1) same in
      let told : first.0 ++ more.0 ≡ log = ap (λ (y : List Entry × World). y.0) same in
      ap (λ (r : Happened). r >>= behind first.0) (later first.1 more.0 (m ∙ ap (λ (w : World). Ok (more.0, w)) end))
      ∙ ap (λ (l : List Entry). Ok (l, done.1)) (sym (append_assoc first.0 more.0 done.0) ∙ ap (λ (l : List Entry). l ++ done.0) told)

  by_first : (one : Happened) → (one >>= later_lines front) ≡ Ok (log, now) → Later → (one >>= later_lines (front ++ line ∷ [])) ≡ Ok (log ++ done.0, done.1)
  by_first (Err stop) e later = absurd cc
  by_first (Ok first) e later = by_rest first (log_from first.1 front) refl e later

-- a plain log shuts no node
plain_open : (log : List Entry) → IsPlain log → AreOpen log
plain_open [] p = tt
plain_open (x ∷ log) p = let parts = and_parts (is_plain x) (list_all is_plain log) p in (one x parts.0, plain_open log parts.1) where
  one : (x : Entry) → is_plain x ≡ true → is_shutting x ≡ false
  one (entries.Shut node) e = absurd cc
  one x e = refl

-- ---- what a line tells

pub same_self : (v : Verdict) → same_answer v v ≡ true
same_self verdicts.Ok = refl
same_self verdicts.Unknown = refl
same_self verdicts.Dead = refl
same_self verdicts.Hale = refl
same_self verdicts.Taken = refl
same_self verdicts.NoName = refl
same_self verdicts.NoRef = refl
same_self verdicts.Empty = refl
same_self verdicts.Long = refl
same_self verdicts.Full = refl
same_self verdicts.Spent = refl
same_self verdicts.Nothing = refl

module _ (journal : List Line) where
  abbrev Tested : List Entry → Happened → Type 0
  Tested log (Ok done) = each_after (is_answered_take journal) log done.0 ≡ true
  Tested log (Err stop) = Unit {0}

  unmarked_tested : (log more : List Entry) → Unmarked more → each_after (is_answered_take journal) log more ≡ true
  unmarked_tested log [] u = refl
  unmarked_tested log (x ∷ more) u = let parts = unmarked_parts x more u in both_true (is_answered_take journal log x) (each_after (is_answered_take journal) (log ++ x ∷ []) more) (answers_of_marks journal is_take log x more parts.0) (unmarked_tested (log ++ x ∷ []) more parts.1)

  mark_tested : (log : List Entry) (number : ℕ) (what : What) (verdict : Verdict) → line_numbered journal number ≡ Some what → (b : Bool) → is_take what ≡ b → (b ≡ true → verdict ≡ answer_to journal log what) → is_answered_take journal log (entries.Line number verdict) ≡ true
  mark_tested log number what verdict found b is so = ap (λ (o : Option What). not (some_and is_take o) || some_and (λ w. same_answer verdict (answer_to journal log w)) o) found ∙ ap (λ c. not c || same_answer verdict (answer_to journal log what)) is ∙ by_such b so where
    by_such : (c : Bool) → (c ≡ true → verdict ≡ answer_to journal log what) → (not c || same_answer verdict (answer_to journal log what)) ≡ true
    by_such false so = refl
    by_such true so = ap (λ (v : Verdict). same_answer verdict v) (sym (so refl)) ∙ same_self verdict

  answered_tested : (log : List Entry) (number : ℕ) (what : What) → line_numbered journal number ≡ Some what → (done : Answered) → AnsweredUnmarked done → (is_take what ≡ true → AnsweredAs journal log what done) → Tested log (line_answered number done)
  answered_tested log number what found (Ok done) u so = both_true (is_answered_take journal log (entries.Line number done.0.0)) (each_after (is_answered_take journal) (log ++ entries.Line number done.0.0 ∷ []) done.0.1)
      (mark_tested log number what done.0.0 found (is_take what) refl so) (unmarked_tested (log ++ entries.Line number done.0.0 ∷ []) done.0.1 u)
  answered_tested log number what found (Err stop) u so = tt

  step_tested : (log : List Entry) (number : ℕ) (what : What) (world : World) → is_of_many (names_of journal) what ≡ true → line_numbered journal number ≡ Some what → (is_take what ≡ true → AnsweredAs journal log what (line_done what world)) → Tested log (world_step world (record { number = number; what = what }))
  step_tested log number (lines.Node name address unique) world of found so = refl
  step_tested log number (lines.Away name address unique) world of found so = absurd cc
  step_tested log number (lines.Label node label) world of found so = absurd cc
  step_tested log number (lines.Stranger name host) world of found so = absurd cc
  step_tested log number lines.Settle world of found so = absurd cc
  step_tested log number what world of found so = answered_tested log number what found (line_done what world) (done_unmarked what world) so

  -- ---- all lines

  module _ (j : IsJournal journal) (named : AreNamedApart (names_of journal)) (each : AtEachLine journal) where
    abbrev Lives : List Entry → World → Type 0
    Lives log world = lives.Alive (names_of journal) log world × rests.Alive (names_of journal) (first_of_hosts [] (nodes_of journal)) log world

    one_answered : (log : List Entry) (world : World) (what : What) → is_of_many (names_of journal) what ≡ true → AtLine journal log world → Lives log world → is_take what ≡ true → AnsweredAs journal log what (line_done what world)
    one_answered log world (lines.Recv by mark) of at alive take = take_answered journal j log world at.given at.mail alive.1 alive.0.allowed (plain_open log at.kinds) by mark of
    one_answered log world what of at alive take = absurd cc

    all_tested : (front rest : List Line) (log : List Entry) (world : World) → front ++ rest ≡ journal → log_from (world_new journal) front ≡ Ok (log, world) → Found journal rest → AllLines (is_of_many (names_of journal)) rest → Lives log world → Tested log (log_from world rest)
    all_tested front [] log world whole e found of alive = refl
    all_tested front (line ∷ rest) log world whole e found of alive = by_step (world_step world line) refl
        (step_tested log line.number line.what world of.0 found.0 (one_answered log world line.what of.0 (each front (line ∷ rest) whole log world e) alive))
        (lives.step_lives (names_of journal) log line.number line.what world of.0 alive.0) (rests.step_lives (names_of journal) (first_of_hosts [] (nodes_of journal)) log line.number line.what world of.0 alive.1)
        (λ l w f k. all_tested (front ++ line ∷ []) rest l w (append_assoc front (line ∷ []) rest ∙ whole) f found.1 of.1 k) where
          by_rest : (told : List Entry) (more : Happened) → each_after (is_answered_take journal) log told ≡ true → Tested (log ++ told) more → Tested log (more >>= behind told)
          by_rest told (Ok more) a b = each_append (is_answered_take journal) log told more.0 a b
          by_rest told (Err stop) a b = tt

          by_step : (one : Happened) → world_step world line ≡ one → Tested log one → lives.LivedOn (names_of journal) log one → rests.LivedOn (names_of journal) (first_of_hosts [] (nodes_of journal)) log one
              → ((l : List Entry) (w : World) → log_from (world_new journal) (front ++ line ∷ []) ≡ Ok (l, w) → Lives l w → Tested l (log_from w rest)) → Tested log (one >>= later_lines rest)
          by_step (Ok done) is a l r more = by_rest done.0 (log_from done.1 rest) a (more (log ++ done.0) done.1 (one_more (world_new journal) front line log world e done is) (l, r))
          by_step (Err stop) is a l r more = tt

    pub takes_answered : (log : List Entry) → log_of journal ≡ Ok log → each_after (is_answered_take journal) [] log ≡ true
    takes_answered log is = by_log (log_from (world_new journal) journal)
        (all_tested [] journal [] (world_new journal) refl refl (found_all 1 journal j.numbered) j.lines (lives.fresh_alive journal named, rests.fresh_alive journal j.apart named)) is where
          by_log : (done : Happened) → Tested [] done → (done >>= λ done. Ok done.0) ≡ Ok log → each_after (is_answered_take journal) [] log ≡ true
          by_log (Ok done) t e = let same : done.0 ≡ log = cc in subst (λ (l : List Entry). each_after (is_answered_take journal) [] l ≡ true) same t
          by_log (Err stop) t e = absurd cc
