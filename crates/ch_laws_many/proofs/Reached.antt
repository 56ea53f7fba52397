-- What holds of the worlds and the logs that a journal of many nodes reaches, and how a test of each entry is carried
-- through its lines.
use Rattle.std.proofs.Common.{◌≡◌, ℕ, Bool, true, false, not, ◌&&◌, ◌||◌, List, [], ◌∷◌, ◌++◌, Ok, Err, refl, sym, ap, ◌∙◌, subst, append_assoc}
use Rattle.std.proofs.lemmas.List.{append-nil}
use Rattle.std.specs.List.{list_any}
use Rattle.std.specs.Prelude.{find, Some}
use Rattle.ch_model.specs.declared.entry.Entry.{Entry}
use Rattle.ch_model.specs.declared.entry.Entry.TheVariants as entries
use Rattle.ch_model.specs.declared.line.Line.{Line}
use Rattle.ch_model.specs.declared.line.What.{What}
use Rattle.ch_model.specs.declared.line.What.TheVariants as lines
use Rattle.ch_model.specs.declared.name.SockName.{SockName}
use Rattle.ch_model.specs.AnswersEntries.{refuses}
use Rattle.ch_model.specs.Logs.{each_after, each_between_after}
use Rattle.ch_model.specs.Marks.{line_numbered, is_mark}
use Rattle.ch_model.specs.Settle.{Happened}
use Rattle.ch_model.specs.World.{◌>>=◌, names_of, world_new, world_step, line_answered, log_from, log_of}
use Rattle.ch_model.specs.WorldHappenings.{Answered}
use Rattle.ch_model.specs.WorldLines.{line_done}
use Rattle.ch_model.specs.WorldSockets.{is_socket_named}
use Rattle.ch_model.specs.WorldState.{Named, WorldSocket, World}
use Rattle.ch_laws_world.specs.Grows.{homes_of}
use Rattle.ch_laws_world.proofs.Journals.{step_grows, grown}
use Rattle.ch_laws_log.specs.Agrees.{IsPlaced, IsOwned}
use Rattle.ch_laws_log.specs.Declared.{AreApart, is_declared}
use Rattle.ch_laws_log.specs.Lines.{AllLines, AreNumbered}
use Rattle.ch_laws_log.proofs.Blocks.{Found, found_all}
use Rattle.ch_laws_log.proofs.Homes.{Housed, fresh_housed, housed_kept}
use Rattle.ch_laws_log.proofs.Kept.{LedOn}
use Rattle.ch_laws_log.proofs.Marks.{Unmarked, AnsweredUnmarked, done_unmarked}
use Rattle.ch_laws_log.proofs.Stored.{find_name}
use Rattle.ch_laws_ends.proofs.Lines.{step_sure, fresh_sure}
use Rattle.ch_laws_ends.proofs.Told.{Sure}
use Rattle.ch_laws_many.specs.ManyLines.{is_of_many}
use Rattle.ch_laws_many.proofs.Addresses.{AllNamed, names_named, fresh_homed, declared_hosted, no_stranger}
use Rattle.ch_laws_many.proofs.Awake.{seats_in, StaysOn, step_stays}
use Rattle.ch_laws_many.proofs.Following.{is_shutting, AreStill, still_open, RestStill, AnsweredRest, line_rest}
use Rattle.ch_laws_many.proofs.Led.{IsSet, AreCalm, is_calm, calm_both, GoesOn, step_goes}

-- the journal is one of many nodes
pub record IsJournal (journal : List Line) : Type 0 where
  pub numbered : AreNumbered 1 journal
  pub apart : AreApart (names_of journal)
  pub lines : AllLines (is_of_many (names_of journal)) journal

-- no node is shut by these entries
abbrev pub AreOpen : List Entry → Type 0
AreOpen [] = Unit {0}
AreOpen (entry ∷ rest) = (is_shutting entry ≡ false) × AreOpen rest

pub open_both : (xs ys : List Entry) → AreOpen xs → AreOpen ys → AreOpen (xs ++ ys)
open_both [] ys a b = b
open_both (x ∷ xs) ys a b = (a.0, open_both xs ys a.1 b)

abbrev HappenedOpen : Happened → Type 0
HappenedOpen (Ok done) = AreOpen done.0
HappenedOpen (Err stop) = Unit {0}

all_open : (xs : List Entry) → AreStill xs → AreOpen xs
all_open [] s = tt
all_open (x ∷ xs) s = (still_open x s.0, all_open xs s.1)

answered_open : (number : ℕ) (done : Answered) → AnsweredRest done → HappenedOpen (line_answered number done)
answered_open number (Ok done) s = (refl, rest_open done.0.1 s) where
  rest_open : (xs : List Entry) → RestStill xs → AreOpen xs
  rest_open [] s = tt
  rest_open (x ∷ xs) s = (s.0, all_open xs s.1)
answered_open number (Err stop) s = tt

step_open : (known : List Named) (number : ℕ) (what : What) (world : World) → is_of_many known what ≡ true → HappenedOpen (world_step world (record { number = number; what = what }))
step_open known number (lines.Node name address unique) world of = tt
step_open known number (lines.Away name address unique) world of = absurd cc
step_open known number (lines.Label node label) world of = absurd cc
step_open known number (lines.Stranger name host) world of = absurd cc
step_open known number lines.Settle world of = absurd cc
step_open known number what world of = answered_open number (line_done what world) (line_rest known what world of)

-- its lines reach this world, with this log
pub record Reached (journal : List Line) (log : List Entry) (world : World) : Type 0 where
  pub sure : Sure journal log world
  pub housed : Housed journal world
  pub set : IsSet (names_of journal) world
  pub homes : homes_of world.cells ≡ homes_of (world_new journal).cells
  pub seats : seats_in world.cells ≡ seats_in (world_new journal).cells
  pub calm : AreCalm log
  pub unshut : AreOpen log

pub named : (journal : List Line) → IsJournal journal → AllNamed (names_of journal)
named journal j = names_named (names_of journal) journal j.lines

pub fresh_reached : (journal : List Line) → IsJournal journal → Reached journal [] (world_new journal)
fresh_reached journal j = record {
  sure = fresh_sure journal;
  housed = fresh_housed journal;
  set = record { names = refl; homed = fresh_homed journal (named journal j); numbered = tt; led = λ s socket e. absurd cc };
  homes = refl;
  seats = refl;
  calm = tt;
  unshut = tt;
}

reached_kept : (journal : List Line) → IsJournal journal → (log : List Entry) (world : World) (number : ℕ) (what : What) → is_of_many (names_of journal) what ≡ true → Reached journal log world → LedOn (Reached journal) log (world_step world (record { number = number; what = what }))
reached_kept journal j log world number what of r = by_done (world_step world (record { number = number; what = what })) refl (step_sure journal log world number what r.sure) (housed_kept journal log world number what r.housed) (step_goes (names_of journal) (named journal j) number what world of r.set) (step_stays (names_of journal) number what world of) (step_open (names_of journal) number what world of) where
  by_done : (done : Happened) → world_step world (record { number = number; what = what }) ≡ done → LedOn (Sure journal) log done → LedOn (λ l w. Housed journal w) log done → GoesOn (names_of journal) done → StaysOn world done → HappenedOpen done → LedOn (Reached journal) log done
  by_done (Ok done) is s h g t o = record {
    sure = s;
    housed = h;
    set = g.1;
    homes = (grown world done.1 done.0 (world_step world (record { number = number; what = what })) (step_grows world (record { number = number; what = what }) r.set.numbered) is).homes ∙ r.homes;
    seats = t ∙ r.seats;
    calm = calm_both log done.0 r.calm g.0;
    unshut = open_both log done.0 r.unshut o;
  }
  by_done (Err stop) is s h g t o = tt

-- ---- one socket

pub none_refused : (s : SockName) (log : List Entry) → AreCalm log → list_any (refuses s) log ≡ false
none_refused s [] calm = refl
none_refused s (entries.Refused sock ∷ log) calm = absurd cc
none_refused s (x ∷ log) calm = ap (λ b. b || list_any (refuses s) log) (refuses_not x calm.0) ∙ none_refused s log calm.1 where
  refuses_not : (y : Entry) → is_calm y ≡ true → refuses s y ≡ false
  refuses_not (entries.Refused sock) c = absurd cc
  refuses_not y c = refl

-- a socket to a declared name stands where its name leads
pub placed : (journal : List Line) → IsJournal journal → (log : List Entry) (world : World) → Reached journal log world → (s : SockName) → is_declared (names_of journal) s.to ≡ true → (socket : WorldSocket) → find (is_socket_named s) world.sockets ≡ Some socket → IsPlaced journal socket
placed journal j log world r s to socket found = (r.set.led s socket found).t there ∙ sym (declared_hosted (names_of journal) journal socket.name.to j.lines there) where
  there : is_declared (names_of journal) socket.name.to ≡ true
  there = ap (λ (n : SockName). is_declared (names_of journal) n.to) (find_name s world.sockets socket found) ∙ to

pub owned : (journal : List Line) → IsJournal journal → (log : List Entry) (world : World) → Reached journal log world → (s : SockName) (socket : WorldSocket) → find (is_socket_named s) world.sockets ≡ Some socket → IsOwned journal socket
owned journal j log world r s socket found = (r.set.led s socket found).o ∙ sym (ap not (no_stranger (names_of journal) journal socket.name.from j.lines))

-- ---- a test of each entry

abbrev pub Test : Type 0
Test = List Entry → Entry → List Entry → Bool

-- what happened passes, whatever follows
abbrev pub Passes : Test → List Entry → Happened → Type 0
Passes test log (Ok done) = (after : List Entry) → each_between_after test (log ++ done.0) after ≡ true → each_between_after test log (done.0 ++ after) ≡ true
Passes test log (Err stop) = Unit {0}

abbrev pub StepsPass : List Line → Test → Type 0
StepsPass journal test = (log : List Entry) (number : ℕ) (what : What) (world : World) → is_of_many (names_of journal) what ≡ true → line_numbered journal number ≡ Some what → Reached journal log world → Passes test log (world_step world (record { number = number; what = what }))

nothing_passes : (test : Test) (log after : List Entry) → each_between_after test (log ++ []) after ≡ true → each_between_after test log after ≡ true
nothing_passes test log after h = subst (λ (l : List Entry). each_between_after test l after ≡ true) (append-nil log) h

all_pass : (journal : List Line) → IsJournal journal → (test : Test) → StepsPass journal test → (rest : List Line) (log : List Entry) (world : World) → Found journal rest → AllLines (is_of_many (names_of journal)) rest → Reached journal log world → Passes test log (log_from world rest)
all_pass journal j test steps [] log world found of r = nothing_passes test log
all_pass journal j test steps (line ∷ rest) log world found of r =
    by_step (world_step world line) (steps log line.number line.what world of.0 found.0 r) (reached_kept journal j log world line.number line.what of.0 r) (λ l w h. all_pass journal j test steps rest l w found.1 of.1 h) where
      by_rest : (told : List Entry) (w : World) (more : Happened) → Passes test log (Ok (told, w)) → Passes test (log ++ told) more → Passes test log (more >>= λ more. Ok (told ++ more.0, more.1))
      by_rest told w (Ok more) p q = λ after h. subst (λ (l : List Entry). each_between_after test log l ≡ true) (sym (append_assoc told more.0 after))
          (p (more.0 ++ after) (q after (subst (λ (l : List Entry). each_between_after test l after ≡ true) (sym (append_assoc log told more.0)) h)))
      by_rest told w (Err stop) p q = tt

      by_step : (one : Happened) → Passes test log one → LedOn (Reached journal) log one → ((l : List Entry) (w : World) → Reached journal l w → Passes test l (log_from w rest)) → Passes test log (one >>= λ done. log_from done.1 rest >>= λ more. Ok (done.0 ++ more.0, more.1))
      by_step (Ok done) p g more = by_rest done.0 done.1 (log_from done.1 rest) p (more (log ++ done.0) done.1 g)
      by_step (Err stop) p g more = tt

-- what passes at each line passes in the whole log
pub all_tested : (journal : List Line) → IsJournal journal → (test : Test) → StepsPass journal test → (log : List Entry) → log_of journal ≡ Ok log → each_between_after test [] log ≡ true
all_tested journal j test steps log is = by_log (log_from (world_new journal) journal) (all_pass journal j test steps journal [] (world_new journal) (found_all 1 journal j.numbered) j.lines (fresh_reached journal j)) is where
  by_log : (done : Happened) → Passes test [] done → (done >>= λ done. Ok done.0) ≡ Ok log → each_between_after test [] log ≡ true
  by_log (Ok done) p e = let same : done.0 ≡ log = cc in subst (λ (l : List Entry). each_between_after test [] l ≡ true) (append-nil done.0 ∙ same) (p [] refl)
  by_log (Err stop) p e = absurd cc

-- a test that asks nothing of what follows
pub as_each : (test : List Entry → Entry → Bool) (before log : List Entry) → each_between_after (λ l x rest. test l x) before log ≡ each_after test before log
as_each test before [] = refl
as_each test before (x ∷ log) = ap (λ b. test before x && b) (as_each test (before ++ x ∷ []) log)

-- the log of such a journal is calm
log_calm : (journal : List Line) → IsJournal journal → (rest : List Line) (log : List Entry) (world : World) → AllLines (is_of_many (names_of journal)) rest → Reached journal log world → LedOn (Reached journal) log (log_from world rest)
log_calm journal j [] log world of r = subst (λ (l : List Entry). Reached journal l world) (sym (append-nil log)) r
log_calm journal j (line ∷ rest) log world of r = by_step (world_step world line) (reached_kept journal j log world line.number line.what of.0 r) (λ l w h. log_calm journal j rest l w of.1 h) where
  by_rest : (told : List Entry) (more : Happened) → LedOn (Reached journal) (log ++ told) more → LedOn (Reached journal) log (more >>= λ more. Ok (told ++ more.0, more.1))
  by_rest told (Ok more) l = subst (λ (k : List Entry). Reached journal k more.1) (append_assoc log told more.0) l
  by_rest told (Err stop) l = tt

  by_step : (one : Happened) → LedOn (Reached journal) log one → ((l : List Entry) (w : World) → Reached journal l w → LedOn (Reached journal) l (log_from w rest)) → LedOn (Reached journal) log (one >>= λ done. log_from done.1 rest >>= λ more. Ok (done.0 ++ more.0, more.1))
  by_step (Ok done) a more = by_rest done.0 (log_from done.1 rest) (more (log ++ done.0) done.1 a)
  by_step (Err stop) a more = tt

pub all_calm : (journal : List Line) → IsJournal journal → (log : List Entry) → log_of journal ≡ Ok log → AreCalm log
all_calm journal j log is = by_log (log_from (world_new journal) journal) (log_calm journal j journal [] (world_new journal) j.lines (fresh_reached journal j)) is where
  by_log : (done : Happened) → LedOn (Reached journal) [] done → (done >>= λ done. Ok done.0) ≡ Ok log → AreCalm log
  by_log (Ok done) r e = let same : done.0 ≡ log = cc in subst AreCalm same r.calm
  by_log (Err stop) r e = absurd cc

-- ---- a test of marks alone

both_hold : (a b : Bool) → a ≡ true → b ≡ true → (a && b) ≡ true
both_hold true true h g = refl
both_hold true false h g = g
both_hold false b h g = h

pub unmarked_parts : (x : Entry) (rest : List Entry) → Unmarked (x ∷ rest) → (is_mark x ≡ false) × Unmarked rest
unmarked_parts (entries.Line number answer) rest u = absurd cc
unmarked_parts x rest u = (refl, u)

abbrev pub OfMarks : Test → Type 0
OfMarks test = (log : List Entry) (x : Entry) (rest : List Entry) → is_mark x ≡ false → test log x rest ≡ true

skipped : (test : Test) → OfMarks test → (log more after : List Entry) → Unmarked more → each_between_after test (log ++ more) after ≡ true → each_between_after test log (more ++ after) ≡ true
skipped test of log [] after u h = nothing_passes test log after h
skipped test of log (x ∷ more) after u h = both_hold (test log x (more ++ after)) (each_between_after test (log ++ x ∷ []) (more ++ after)) (of log x (more ++ after) (unmarked_parts x more u).0)
    (skipped test of (log ++ x ∷ []) more after (unmarked_parts x more u).1 (subst (λ (l : List Entry). each_between_after test l after ≡ true) (sym (append_assoc log (x ∷ []) more)) h))

-- the mark of an answer passes, whatever follows
abbrev pub MarkPasses : Test → List Entry → ℕ → Answered → Type 0
MarkPasses test log number (Ok done) = (after : List Entry) → test log (entries.Line number done.0.0) (done.0.1 ++ after) ≡ true
MarkPasses test log number (Err stop) = Unit {0}

answered_pass : (test : Test) → OfMarks test → (log : List Entry) (number : ℕ) (done : Answered) → AnsweredUnmarked done → MarkPasses test log number done → Passes test log (line_answered number done)
answered_pass test of log number (Ok done) u m = λ after h. both_hold (test log (entries.Line number done.0.0) (done.0.1 ++ after)) (each_between_after test (log ++ entries.Line number done.0.0 ∷ []) (done.0.1 ++ after)) (m after)
    (skipped test of (log ++ entries.Line number done.0.0 ∷ []) done.0.1 after u (subst (λ (l : List Entry). each_between_after test l after ≡ true) (sym (append_assoc log (entries.Line number done.0.0 ∷ []) done.0.1)) h))
answered_pass test of log number (Err stop) u m = tt

-- where each line's mark passes, all does
abbrev pub MarksPass : List Line → Test → Type 0
MarksPass journal test = (log : List Entry) (number : ℕ) (what : What) (world : World) → is_of_many (names_of journal) what ≡ true → line_numbered journal number ≡ Some what → Reached journal log world → MarkPasses test log number (line_done what world)

pub marks_pass : (journal : List Line) (test : Test) → OfMarks test → MarksPass journal test → StepsPass journal test
marks_pass journal test of each log number (lines.Node name address unique) world is found r = nothing_passes test log
marks_pass journal test of each log number (lines.Away name address unique) world is found r = absurd cc
marks_pass journal test of each log number (lines.Label node label) world is found r = absurd cc
marks_pass journal test of each log number (lines.Stranger name host) world is found r = absurd cc
marks_pass journal test of each log number lines.Settle world is found r = absurd cc
marks_pass journal test of each log number what world is found r = answered_pass test of log number (line_done what world) (done_unmarked what world) (each log number what world is found r)
