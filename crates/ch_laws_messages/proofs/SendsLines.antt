-- The lines of many nodes by which a process sends to another node are answered as the log before them shows.
use Rattle.std.proofs.Common.{◌≡◌, ℕ, Bool, true, false, not, ◌&&◌, ◌||◌, List, [], ◌∷◌, ◌++◌, Ok, Err, refl, sym, ap, ◌∙◌, subst, append_assoc}
use Rattle.std.proofs.lemmas.Bool.{and_parts}
use Rattle.std.proofs.lemmas.List.{append-nil}
use Rattle.std.specs.List.{list_all}
use Rattle.std.specs.Prelude.{Option, Some, None}
use Rattle.std.specs.Str.{bytes_eq}
use Rattle.ch_model.specs.declared.entry.Entry.{Entry}
use Rattle.ch_model.specs.declared.entry.Entry.TheVariants as entries
use Rattle.ch_model.specs.declared.entry.Verdict.{Verdict}
use Rattle.ch_model.specs.declared.entry.Verdict.TheVariants as verdicts
use Rattle.ch_model.specs.declared.line.Line.{Line}
use Rattle.ch_model.specs.declared.line.What.{What}
use Rattle.ch_model.specs.declared.line.What.TheVariants as lines
use Rattle.ch_model.specs.declared.name.TargetName.TheVariants as targets
use Rattle.ch_model.specs.Answers.{answer_to}
use Rattle.ch_model.specs.Epochs.{FollowsEpochs, is_said_in_epoch}
use Rattle.ch_model.specs.AnswersOwn.{is_own, has_own}
use Rattle.ch_model.specs.HasAnswers.{same_answer, is_followed_by_own, has_own_first, stands_in_place}
use Rattle.ch_model.specs.Life.{is_live}
use Rattle.ch_model.specs.Logs.{some_and, next_is, each_after, each_between_after}
use Rattle.ch_model.specs.Marks.{line_numbered}
use Rattle.ch_model.specs.Settle.{Happened}
use Rattle.ch_model.specs.World.{◌>>=◌, names_of, nodes_of, first_of_hosts, world_new, world_step, line_answered, log_from, log_of}
use Rattle.ch_model.specs.WorldHappenings.{Answered}
use Rattle.ch_model.specs.WorldLines.{line_done}
use Rattle.ch_model.specs.WorldState.{Named, World}
use Rattle.ch_laws_world.proofs.Journals.{step_grows, grown}
use Rattle.ch_laws_log.specs.Declared.{is_declared}
use Rattle.ch_laws_log.specs.Lines.{AllLines}
use Rattle.ch_laws_log.proofs.Blocks.{Found, found_all}
use Rattle.ch_laws_log.proofs.Kept.{LedOn}
use Rattle.ch_laws_log.proofs.Marks.{Unmarked, AnsweredUnmarked, done_unmarked}
use Rattle.ch_laws_many.specs.ManyLines.{is_of_many, AreNamedApart}
use Rattle.ch_laws_many.proofs.Addresses.{fresh_homed}
use Rattle.ch_laws_many.proofs.Answering.{AnsweredAs, answers_of_marks}
use Rattle.ch_laws_many.proofs.Awake.{StaysOn, step_stays}
use Rattle.ch_laws_many.proofs.Following.{AreStill, still_open, RestStill, AnsweredRest, line_rest}
use Rattle.ch_laws_many.proofs.InPlace.{standing, steps_stand}
use Rattle.ch_laws_many.proofs.Led.{is_calm, AreCalm, GoesOn, step_goes}
use Rattle.ch_laws_many.proofs.OwnFirst.{own_of_marks, own_marks}
use Rattle.ch_laws_many.proofs.Reached.{IsJournal, AreOpen, open_both, Reached, named, Test, Passes, as_each, unmarked_parts, marks_pass}
use Rattle.ch_laws_lives.proofs.WorldLives as world_lives
use Rattle.ch_laws_acting.proofs.Ends.{Ready}
use Rattle.ch_laws_acting.proofs.WorldRests.{LivedOn, fresh_alive, step_lives}
use Rattle.ch_laws_live.proofs.Logs.{each_front}
use Rattle.ch_laws_calls.proofs.ScenesSides.{pairs_of}
use Rattle.ch_laws_plain_logs.specs.Plain.{is_plain, IsPlain}
use Rattle.ch_laws_plain.proofs.AsksPlaces.{housed}
use Rattle.ch_laws_peers.specs.Says.{AllSay}
use Rattle.ch_laws_peers.specs.Standing.{IsOfNodes, Standing}
use Rattle.ch_laws_messages.specs.SendsSends.{is_of_sends, is_answered_send, IsSmall, AreSmall, AllGive, FrontsStand}
use Rattle.ch_laws_messages.proofs.SendsSmall.{says_small}
use Rattle.ch_laws_messages.proofs.SendsAway.{send_answered}
use Rattle.ch_laws_messages.proofs.MailFronts.{same_self}

-- ---- what a journal reaches, and who acts there

fresh_ready : (journal : List Line) → IsJournal journal → AreNamedApart (names_of journal) → Ready journal [] (world_new journal)
fresh_ready journal j apart = record {
  set = record { names = refl; homed = fresh_homed journal (named journal j); numbered = tt; led = λ s socket e. absurd cc };
  homes = refl;
  seats = refl;
  unshut = tt;
  lives = world_lives.fresh_alive journal apart;
  rests = fresh_alive journal j.apart apart;
}

abbrev HappenedOpen : Happened → Type 0
HappenedOpen (Ok done) = AreOpen done.0
HappenedOpen (Err stop) = Unit {0}

all_open : (xs : List Entry) → AreStill xs → AreOpen xs
all_open [] s = tt
all_open (x ∷ xs) s = (still_open x s.0, all_open xs s.1)

answered_open : (number : ℕ) (done : Answered) → AnsweredRest done → HappenedOpen (line_answered number done)
answered_open number (Ok done) s = (refl, rest_open done.0.1 s) where
  rest_open : (xs : List Entry) → RestStill xs → AreOpen xs
  rest_open [] s = tt
  rest_open (x ∷ xs) s = (s.0, all_open xs s.1)
answered_open number (Err stop) s = tt

step_open : (known : List Named) (number : ℕ) (what : What) (world : World) → is_of_many known what ≡ true → HappenedOpen (world_step world (record { number = number; what = what }))
step_open known number (lines.Node name address unique) world of = tt
step_open known number (lines.Away name address unique) world of = absurd cc
step_open known number (lines.Label node label) world of = absurd cc
step_open known number (lines.Stranger name host) world of = absurd cc
step_open known number lines.Settle world of = absurd cc
step_open known number what world of = answered_open number (line_done what world) (line_rest known what world of)

ready_kept : (journal : List Line) → IsJournal journal → (log : List Entry) (world : World) (number : ℕ) (what : What) → is_of_many (names_of journal) what ≡ true → Ready journal log world → LedOn (Ready journal) log (world_step world (record { number = number; what = what }))
ready_kept journal j log world number what of r = by_done (world_step world (record { number = number; what = what })) refl (step_goes (names_of journal) (named journal j) number what world of r.set) (step_stays (names_of journal) number what world of) (step_open (names_of journal) number what world of)
    (world_lives.step_lives (names_of journal) log number what world of r.lives) (step_lives (names_of journal) (first_of_hosts [] (nodes_of journal)) log number what world of r.rests) where
      by_done : (done : Happened) → world_step world (record { number = number; what = what }) ≡ done → GoesOn (names_of journal) done → StaysOn world done → HappenedOpen done → world_lives.LivedOn (names_of journal) log done → LivedOn (names_of journal) (first_of_hosts [] (nodes_of journal)) log done → LedOn (Ready journal) log done
      by_done (Ok done) is g t o l m = record {
        set = g.1;
        homes = (grown world done.1 done.0 (world_step world (record { number = number; what = what })) (step_grows world (record { number = number; what = what }) r.set.numbered) is).homes ∙ r.homes;
        seats = t ∙ r.seats;
        unshut = open_both log done.0 r.unshut o;
        lives = l;
        rests = m;
      }
      by_done (Err stop) is g t o l m = tt

-- a plain log is calm
all_calm : (log : List Entry) → IsPlain log → AreCalm log
all_calm [] p = tt
all_calm (entry ∷ log) p = let parts = and_parts (is_plain entry) (list_all is_plain log) p in (calm entry parts.0, all_calm log parts.1) where
  calm : (x : Entry) → is_plain x ≡ true → is_calm x ≡ true
  calm (entries.Knocked sock) h = absurd cc
  calm (entries.Refused sock) h = absurd cc
  calm entries.Settled h = absurd cc
  calm x h = refl

reached_so : (journal : List Line) (log : List Entry) (world : World) → Standing journal log world → Ready journal log world → Reached journal log world
reached_so journal log world s r = record { sure = s.all.sound.ends.sure; housed = housed journal log world s.all.sound; set = r.set; homes = r.homes; seats = r.seats; calm = all_calm log s.kinds; unshut = r.unshut }

-- ---- tests of logs that grow

both_hold : (a b : Bool) → a ≡ true → b ≡ true → (a && b) ≡ true
both_hold true true h g = refl
both_hold true false h g = g
both_hold false b h g = h

each_append : (test : List Entry → Entry → Bool) (before xs ys : List Entry) → each_after test before xs ≡ true → each_after test (before ++ xs) ys ≡ true → each_after test before (xs ++ ys) ≡ true
each_append test before [] ys a b = subst (λ (l : List Entry). each_after test l ys ≡ true) (append-nil before) b
each_append test before (x ∷ xs) ys a b = let parts = and_parts (test before x) (each_after test (before ++ x ∷ []) xs) a in
    both_hold (test before x) (each_after test (before ++ x ∷ []) (xs ++ ys)) parts.0 (each_append test (before ++ x ∷ []) xs ys parts.1 (subst (λ (l : List Entry). each_after test l ys ≡ true) (sym (append_assoc before (x ∷ []) xs)) b))

-- a test that passes whatever more follows
abbrev StaysPassed : Test → Type 0
StaysPassed test = (log : List Entry) (x : Entry) (rest more : List Entry) → test log x rest ≡ true → test log x (rest ++ more) ≡ true

between_append : (test : Test) → StaysPassed test → (before xs ys : List Entry) → each_between_after test before xs ≡ true → each_between_after test (before ++ xs) ys ≡ true → each_between_after test before (xs ++ ys) ≡ true
between_append test stays before [] ys a b = subst (λ (l : List Entry). each_between_after test l ys ≡ true) (append-nil before) b
between_append test stays before (x ∷ xs) ys a b = let parts = and_parts (test before x xs) (each_between_after test (before ++ x ∷ []) xs) a in
    both_hold (test before x (xs ++ ys)) (each_between_after test (before ++ x ∷ []) (xs ++ ys)) (stays before x xs ys parts.0) (between_append test stays (before ++ x ∷ []) xs ys parts.1 (subst (λ (l : List Entry). each_between_after test l ys ≡ true) (sym (append_assoc before (x ∷ []) xs)) b))

next_stays : (test : Entry → Bool) (rest more : List Entry) → next_is test rest ≡ true → next_is test (rest ++ more) ≡ true
next_stays test [] more e = absurd cc
next_stays test (x ∷ rest) more e = e

own_stays : (journal : List Line) → StaysPassed (has_own_first journal)
own_stays journal log (entries.Line number answer) rest more e = by_answer answer e where
  by_line : (o : Option What) → some_and (is_followed_by_own journal log rest) o ≡ true → some_and (is_followed_by_own journal log (rest ++ more)) o ≡ true
  by_line None e = absurd cc
  by_line (Some what) e = by_test (not (has_own log what)) (next_is (is_own journal log what) rest) e (next_stays (is_own journal log what) rest more) where
    by_test : (a b : Bool) → (a || b) ≡ true → (b ≡ true → next_is (is_own journal log what) (rest ++ more) ≡ true) → (a || next_is (is_own journal log what) (rest ++ more)) ≡ true
    by_test true b e k = refl
    by_test false b e k = k e

  by_answer : (answer : Verdict) → has_own_first journal log (entries.Line number answer) rest ≡ true → has_own_first journal log (entries.Line number answer) (rest ++ more) ≡ true
  by_answer verdicts.Ok e = by_line (line_numbered journal number) e
  by_answer answer e = refl
own_stays journal log x rest more e = refl

-- ---- what is so after some lines

-- Who acts is known there, each done line has its own entry first, and what only lines do stands where they were done.
record Stood (journal : List Line) (log : List Entry) (world : World) : Type 0 where
  ready : Ready journal log world
  own : each_between_after (has_own_first journal) [] log ≡ true
  place : each_after (stands_in_place journal) [] log ≡ true

stood_kept : (journal : List Line) → IsJournal journal → (log : List Entry) (world : World) (number : ℕ) (what : What) → is_of_many (names_of journal) what ≡ true → line_numbered journal number ≡ Some what → Standing journal log world → Stood journal log world → LedOn (Stood journal) log (world_step world (record { number = number; what = what }))
stood_kept journal j log world number what of found s k = by_done (world_step world (record { number = number; what = what })) (ready_kept journal j log world number what of k.ready)
    (marks_pass journal (has_own_first journal) (own_of_marks journal) (own_marks journal j) log number what world of found reached) (steps_stand journal j log number what world of found reached) where
      reached : Reached journal log world
      reached = reached_so journal log world s k.ready

      by_done : (done : Happened) → LedOn (Ready journal) log done → Passes (has_own_first journal) log done → Passes (standing journal) log done → LedOn (Stood journal) log done
      by_done (Ok done) r p q = record {
        ready = r;
        own = between_append (has_own_first journal) (own_stays journal) [] log done.0 k.own (subst (λ (l : List Entry). each_between_after (has_own_first journal) log l ≡ true) (append-nil done.0) (p [] refl));
        place = each_append (stands_in_place journal) [] log done.0 k.place (sym (as_each (stands_in_place journal) log done.0) ∙ subst (λ (l : List Entry). each_between_after (standing journal) log l ≡ true) (append-nil done.0) (q [] refl));
      }
      by_done (Err stop) r p q = tt

-- ---- one line

-- all that happened passes
abbrev EachPasses : List Line → List Entry → Happened → Type 0
EachPasses journal log (Ok done) = each_after (is_answered_send journal) log done.0 ≡ true
EachPasses journal log (Err stop) = Unit {0}

unmarked_pass : (journal : List Line) (log more : List Entry) → Unmarked more → each_after (is_answered_send journal) log more ≡ true
unmarked_pass journal log [] u = refl
unmarked_pass journal log (x ∷ more) u = both_hold (is_answered_send journal log x) (each_after (is_answered_send journal) (log ++ x ∷ []) more) (answers_of_marks journal (is_of_sends log) log x more (unmarked_parts x more u).0) (unmarked_pass journal (log ++ x ∷ []) more (unmarked_parts x more u).1)

answered_pass : (journal : List Line) (log : List Entry) (number : ℕ) (what : What) → line_numbered journal number ≡ Some what → (done : Answered) → AnsweredUnmarked done → (is_of_sends log what ≡ true → AnsweredAs journal log what done) → EachPasses journal log (line_answered number done)
answered_pass journal log number what found (Ok done) u so = both_hold (is_answered_send journal log (entries.Line number done.0.0)) (each_after (is_answered_send journal) (log ++ entries.Line number done.0.0 ∷ []) done.0.1)
    (ap (λ (o : Option What). not (some_and (is_of_sends log) o) || some_and (λ w. same_answer done.0.0 (answer_to journal log w)) o) found ∙ by_such (is_of_sends log what) so) (unmarked_pass journal (log ++ entries.Line number done.0.0 ∷ []) done.0.1 u) where
      by_such : (b : Bool) → (b ≡ true → done.0.0 ≡ answer_to journal log what) → (not b || same_answer done.0.0 (answer_to journal log what)) ≡ true
      by_such false so = refl
      by_such true so = ap (λ (v : Verdict). same_answer done.0.0 v) (sym (so refl)) ∙ same_self done.0.0
answered_pass journal log number what found (Err stop) u so = tt

abbrev happened : List Entry × World → Happened
happened done = Ok done

-- one line, and then the others
abbrev then_more : List Entry → Happened → Happened
then_more told rest = rest >>= λ more. Ok (told ++ more.0, more.1)

abbrev line_then : Happened → (World → Happened) → Happened
line_then one f = one >>= λ done. then_more done.0 (f done.1)

module _ (journal : List Line) (nodes : IsOfNodes journal) (fronts : FrontsStand journal) (fits_all : AreSmall journal) (whole : List Entry) (numbered : each_after is_said_in_epoch [] whole ≡ true) where
  not_is : (b : Bool) → not b ≡ true → b ≡ false
  not_is false e = refl
  not_is true e = absurd cc

  one_answered : (log more : List Entry) (world : World) (what : What) → whole ≡ log ++ more → is_of_many (names_of journal) what ≡ true → IsSmall what → Standing journal log world → AllSay journal log world → AllGive journal log world → Stood journal log world → is_of_sends log what ≡ true → AnsweredAs journal log what (line_done what world)
  one_answered log more world (lines.Send by (targets.Process to) mark body) is of fits s says gives k sends =
      let declared = and_parts (is_declared (names_of journal) by.node) (is_declared (names_of journal) to.node) of in
      let parts = and_parts (is_live log by) (not (bytes_eq by.node to.node)) sends in
      let away : bytes_eq by.node to.node ≡ false = not_is (bytes_eq by.node to.node) parts.1 in
      send_answered journal nodes log world s k.ready says gives (each_front is_said_in_epoch [] log more (subst (λ (l : List Entry). each_after is_said_in_epoch [] l ≡ true) is numbered)) (says_small journal (names_of journal) nodes.is.lines fits_all log k.place) k.own k.place by to away parts.0 fits.0 fits.1
      (pairs_of journal nodes.is nodes.addresses by.node to.node declared.0 declared.1 away) mark body
  one_answered log more world (lines.Send by (targets.Port to port) mark body) is of fits s says gives k sends = absurd cc
  one_answered log more world (lines.Send by (targets.Named at name) mark body) is of fits s says gives k sends = absurd cc
  one_answered log more world what is of fits s says gives k sends = absurd cc

  step_passes : (log more : List Entry) (world : World) (number : ℕ) (what : What) → whole ≡ log ++ more → is_of_many (names_of journal) what ≡ true → IsSmall what → line_numbered journal number ≡ Some what → Standing journal log world → AllSay journal log world → AllGive journal log world → Stood journal log world
      → EachPasses journal log (world_step world (record { number = number; what = what }))
  step_passes log more world number (lines.Node name address unique) is of fits found s says gives k = refl
  step_passes log more world number (lines.Away name address unique) is of fits found s says gives k = absurd cc
  step_passes log more world number (lines.Label node label) is of fits found s says gives k = absurd cc
  step_passes log more world number (lines.Stranger name host) is of fits found s says gives k = absurd cc
  step_passes log more world number lines.Settle is of fits found s says gives k = absurd cc
  step_passes log more world number what is of fits found s says gives k = answered_pass journal log number what found (line_done what world) (done_unmarked what world) (one_answered log more world what is of fits s says gives k)

  -- ---- line by line

  from_more : (front : List Line) (line : Line) (start world : World) (log : List Entry) (done : List Entry × World) → log_from start front ≡ Ok (log, world) → world_step world line ≡ Ok done → log_from start (front ++ line ∷ []) ≡ Ok (log ++ done.0, done.1)
  from_more [] line start world log done e f = by_start (world_step start line) (ap (λ (w : World). world_step w line) same.1 ∙ f) where
    both : (a b : List Entry × World) → ◌≡◌ {A = Happened} (Ok a) (Ok b) → a ≡ b
    both a b e = cc

    same : ([] ≡ log) × (start ≡ world)
    same = let p = both ([], start) (log, world) e in (ap (λ (t : List Entry × World). t.0) p, ap (λ (t : List Entry × World). t.1) p)

    by_start : (one : Happened) → one ≡ Ok done → line_then one (λ v. Ok ([], v)) ≡ Ok (log ++ done.0, done.1)
    by_start one g = ap (λ (o : Happened). line_then o (λ v. Ok ([], v))) g ∙ ap (λ (l : List Entry). happened (l, done.1)) (append-nil done.0 ∙ ap (λ (l : List Entry). l ++ done.0) same.0)
  from_more (first ∷ front) line start world log done e f = by_step (world_step start first) e (λ w l g. from_more front line w world l done g f) where
    both : (a b : List Entry × World) → ◌≡◌ {A = Happened} (Ok a) (Ok b) → a ≡ b
    both a b e = cc

    by_rest : (told : List Entry) (rest next : Happened) → then_more told rest ≡ Ok (log, world) → ((l : List Entry) → rest ≡ Ok (l, world) → next ≡ Ok (l ++ done.0, done.1)) → then_more told next ≡ Ok (log ++ done.0, done.1)
    by_rest told (Err stop) next e k = absurd cc
    by_rest told (Ok more) next e k =
        let p = both (told ++ more.0, more.1) (log, world) e in
        ap (then_more told) (k more.0 (ap (λ (w : World). happened (more.0, w)) (ap (λ (t : List Entry × World). t.1) p)))
        ∙ ap (λ (l : List Entry). happened (l, done.1)) (sym (append_assoc told more.0 done.0) ∙ ap (λ (l : List Entry). l ++ done.0) (ap (λ (t : List Entry × World). t.0) p))

    by_step : (one : Happened) → line_then one (λ v. log_from v front) ≡ Ok (log, world) → ((w : World) (l : List Entry) → log_from w front ≡ Ok (l, world) → log_from w (front ++ line ∷ []) ≡ Ok (l ++ done.0, done.1))
        → line_then one (λ v. log_from v (front ++ line ∷ [])) ≡ Ok (log ++ done.0, done.1)
    by_step (Err stop) e k = absurd cc
    by_step (Ok d) e k = by_rest d.0 (log_from d.1 front) (log_from d.1 (front ++ line ∷ [])) e (k d.1)

  walk : (rest front : List Line) → front ++ rest ≡ journal → (log : List Entry) (world : World) → log_from (world_new journal) front ≡ Ok (log, world) → Stood journal log world → Found journal rest → AllLines (is_of_many (names_of journal)) rest → AreSmall rest
      → (more : List Entry) (end : World) → log_from world rest ≡ Ok (more, end) → whole ≡ log ++ more → each_after (is_answered_send journal) log more ≡ true
  walk [] front is log world e k found of fits more end f w = subst (λ (l : List Entry). each_after (is_answered_send journal) log l ≡ true) (ap (λ (t : List Entry × World). t.0) (both ([], world) (more, end) f)) refl where
    both : (a b : List Entry × World) → ◌≡◌ {A = Happened} (Ok a) (Ok b) → a ≡ b
    both a b e = cc
  walk (line ∷ rest) front is log world e k found of fits more end f w =
      by_step (world_step world line) refl f (step_passes log more world line.number line.what w of.0 fits.0 found.0 (fronts front (line ∷ rest) is log world e).0 (fronts front (line ∷ rest) is log world e).1 (fronts front (line ∷ rest) is log world e).2 k)
      (stood_kept journal nodes.is log world line.number line.what of.0 found.0 (fronts front (line ∷ rest) is log world e).0 k)
      (λ l v g s m h w. walk rest (front ++ line ∷ []) (append_assoc front (line ∷ []) rest ∙ is) l v g s found.1 of.1 fits.1 m end h w)
    where
      both : (a b : List Entry × World) → ◌≡◌ {A = Happened} (Ok a) (Ok b) → a ≡ b
      both a b e = cc

      by_rest : (done : List Entry × World) (two : Happened) → log_from done.1 rest ≡ two → then_more done.0 two ≡ Ok (more, end) → each_after (is_answered_send journal) log done.0 ≡ true
          → ((m : List Entry) → log_from done.1 rest ≡ Ok (m, end) → whole ≡ (log ++ done.0) ++ m → each_after (is_answered_send journal) (log ++ done.0) m ≡ true) → each_after (is_answered_send journal) log more ≡ true
      by_rest done (Err stop) h f p go = absurd cc
      by_rest done (Ok m) h f p go =
          let q = both (done.0 ++ m.0, m.1) (more, end) f in
          let is_more : done.0 ++ m.0 ≡ more = ap (λ (t : List Entry × World). t.0) q in
          subst (λ (l : List Entry). each_after (is_answered_send journal) log l ≡ true) is_more (each_append (is_answered_send journal) log done.0 m.0 p
          (go m.0 (h ∙ ap (λ (v : World). happened (m.0, v)) (ap (λ (t : List Entry × World). t.1) q)) (w ∙ ap (λ (l : List Entry). log ++ l) (sym is_more) ∙ sym (append_assoc log done.0 m.0))))

      by_step : (one : Happened) → world_step world line ≡ one → line_then one (λ v. log_from v rest) ≡ Ok (more, end) → EachPasses journal log one → LedOn (Stood journal) log one
          → ((l : List Entry) (v : World) → log_from (world_new journal) (front ++ line ∷ []) ≡ Ok (l, v) → Stood journal l v → (m : List Entry) → log_from v rest ≡ Ok (m, end) → whole ≡ l ++ m → each_after (is_answered_send journal) l m ≡ true)
          → each_after (is_answered_send journal) log more ≡ true
      by_step (Err stop) h f p s go = absurd cc
      by_step (Ok done) h f p s go = by_rest done (log_from done.1 rest) refl f p (λ m g w. go (log ++ done.0) done.1 (from_more front line (world_new journal) world log done e h) s m g w)

-- Each line by which a process that lives sends to another node is answered as the log shows.
pub sends_answered : (journal : List Line) → IsOfNodes journal → AreSmall journal → FrontsStand journal → (log : List Entry) → log_of journal ≡ Ok log → FollowsEpochs log → each_after (is_answered_send journal) [] log ≡ true
sends_answered journal nodes fits fronts log is numbered = by_log (log_from (world_new journal) journal) refl is where
  stood : Stood journal [] (world_new journal)
  stood = record { ready = fresh_ready journal nodes.is nodes.apart; own = refl; place = refl }

  by_log : (done : Happened) → log_from (world_new journal) journal ≡ done → (done >>= λ done. Ok done.0) ≡ Ok log → each_after (is_answered_send journal) [] log ≡ true
  by_log (Err stop) e f = absurd cc
  by_log (Ok done) e f = let same : done.0 ≡ log = cc in
      walk journal nodes fronts fits log numbered.epochs journal [] refl [] (world_new journal) refl stood (found_all 1 journal nodes.is.numbered) nodes.is.lines fits log done.1 (e ∙ ap (λ (l : List Entry). happened (l, done.1)) same) refl
