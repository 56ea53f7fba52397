-- Each line of a journal that happens to a socket has its answer in the log.
use Rattle.std.proofs.Common.{◌≡◌, ℕ, Bool, true, false, not, ◌||◌, List, [], ◌∷◌, ◌++◌, Ok, Err, refl, sym, ap, ◌∙◌, subst}
use Rattle.std.specs.Prelude.{find, Option, Some, None, IsTrue}
use Rattle.ch_model.specs.declared.entry.Entry.{Entry}
use Rattle.ch_model.specs.declared.entry.Entry.TheVariants as entries
use Rattle.ch_model.specs.declared.entry.Verdict.{Verdict}
use Rattle.ch_model.specs.declared.entry.Verdict.TheVariants as verdicts
use Rattle.ch_model.specs.declared.line.Line.{Line}
use Rattle.ch_model.specs.declared.line.What.{What}
use Rattle.ch_model.specs.declared.line.What.TheVariants as lines
use Rattle.ch_model.specs.declared.name.SockName.{SockName}
use Rattle.ch_model.specs.Answers.{answer_to}
use Rattle.ch_model.specs.Declarations.{has_host, is_stranger}
use Rattle.ch_model.specs.HasAnswers.{same_answer}
use Rattle.ch_model.specs.Logs.{some_and, each_after}
use Rattle.ch_model.specs.Marks.{line_numbered, is_mark, is_settle}
use Rattle.ch_model.specs.Settle.{Happened, settles, weight_of, from_start}
use Rattle.ch_model.specs.World.{◌>>=◌, world_new, event_step, world_step, line_answered, line_settled, log_from}
use Rattle.ch_model.specs.WorldHappenings.{Answered, joins, refuses, feeds, loses}
use Rattle.ch_model.specs.WorldLines.{on_socket, can_join, can_refuse, can_feed, can_cut, is_at_work, is_strangers, cuts, pokes, quits, line_done}
use Rattle.ch_model.specs.WorldSockets.{is_of_host, is_socket_named}
use Rattle.ch_model.specs.WorldState.{WorldSocket, World}
use Rattle.ch_laws_world.specs.Grows.{SocketGoes, Numbered, Grows}
use Rattle.ch_laws_world.proofs.Journals.{found_still, step_grows, lines_grow}
use Rattle.ch_laws_world.proofs.Sockets.{AllGrow, onward}
use Rattle.ch_laws_log.specs.Agrees.{IsPlaced, IsOwned, AllPlaced}
use Rattle.ch_laws_log.specs.Lines.{AreNumbered}
use Rattle.ch_laws_log.proofs.Blocks.{Found, found_all, each_append}
use Rattle.ch_laws_log.proofs.Happens.{come_answered}
use Rattle.ch_laws_log.proofs.Kept.{LedOn, step_led}
use Rattle.ch_laws_log.proofs.Marks.{Unmarked, AnsweredUnmarked, SettledUnmarked, both, done_unmarked, settled_unmarked}
use Rattle.ch_laws_log.proofs.Told.{any_line}
use Rattle.ch_laws_ends.specs.Lines.{AllOwned, is_of_sockets, is_answered_at_sockets}
use Rattle.ch_laws_ends.proofs.Alone.{both_hold, unmarked_parts}
use Rattle.ch_laws_ends.proofs.Answered.{join_told, refuse_told, feed_told, lose_told, cut_told, poke_told}
use Rattle.ch_laws_ends.proofs.Heard.{IsAnswered, joins_done, refuses_done, feeds_done, loses_done, socket_answered}
use Rattle.ch_laws_ends.proofs.Lines.{step_sure, fresh_sure}
use Rattle.ch_laws_ends.proofs.Mirrored.{WithCuts, keeps_cuts, no_cuts, opener_mirrored}
use Rattle.ch_laws_ends.proofs.Told.{Sure}

-- ---- the answer to a line

-- what is known of a log and its world, where the ends are placed and owned
record Known (journal : List Line) (log : List Entry) (world : World) : Type 0 where
  sure : Sure journal log world
  cuts : WithCuts journal log world
  placed : AllPlaced journal world
  owned : AllOwned journal world

answered_as : (one two : Verdict) (done : Answered) → two ≡ one → IsAnswered one done → IsAnswered two done
answered_as one two done e a = subst (λ (v : Verdict). IsAnswered v done) (sym e) a

line_answered_so : (journal : List Line) (log : List Entry) (what : What) (world : World) → is_of_sockets journal what ≡ true → is_settle what ≡ false → Known journal log world → IsAnswered (answer_to journal log what) (line_done what world)
line_answered_so journal log (lines.Join s) world of other k = answered_as _ _ (on_socket s can_join joins world) (join_told journal log world s k.sure.ends.sorted.0 k.placed (λ socket found. opener_mirrored journal log world s socket k.cuts.1 k.sure found))
    (socket_answered s can_join joins world (λ socket is can. joins_done journal log world socket k.sure is can))
line_answered_so journal log (lines.Come s) world of other k = by_done (line_done (lines.Come s) world) refl where
  by_done : (done : Answered) → line_done (lines.Come s) world ≡ done → IsAnswered (answer_to journal log (lines.Come s)) done
  by_done (Ok done) e = come_answered journal log world s done.0.0 done.0.1 done.1 k.sure.ends.sorted.0 k.placed e
  by_done (Err stop) e = tt
line_answered_so journal log (lines.Refuse s) world of other k = answered_as _ _ (on_socket s can_refuse refuses world) (refuse_told journal log world s k.sure.ends.sorted.0 (λ socket found. opener_mirrored journal log world s socket k.cuts.1 k.sure found))
    (socket_answered s can_refuse refuses world (λ socket is can. refuses_done journal log world socket k.sure is can))
line_answered_so journal log (lines.Feed s e count) world of other k = answered_as _ _ (on_socket s (can_feed e) (feeds e count) world) (feed_told journal log world s e count k.sure k.placed (k.owned s) (λ socket found. opener_mirrored journal log world s socket k.cuts.1 k.sure found))
    (socket_answered s (can_feed e) (feeds e count) world (λ socket is can. feeds_done journal log world e count socket k.sure is can))
line_answered_so journal log (lines.Cut s e) world of other k = answered_as _ _ (on_socket s (can_cut e) (cuts e) world) (cut_told journal log world s e k.sure k.placed (k.owned s) (λ socket found. opener_mirrored journal log world s socket k.cuts.1 k.sure found))
    (socket_answered s (can_cut e) (cuts e) world (λ socket is can. refl))
line_answered_so journal log (lines.Lose s e) world of other k = answered_as _ _ (on_socket s (is_at_work e) (loses e) world) (lose_told journal log world s e k.sure k.placed (k.owned s) (λ socket found. opener_mirrored journal log world s socket k.cuts.1 k.sure found))
    (socket_answered s (is_at_work e) (loses e) world (λ socket is can. loses_done journal log world e socket k.sure is can))
line_answered_so journal log (lines.Knock stranger node) world of other k = refl
line_answered_so journal log (lines.Poke s bytes) world of other k = answered_as _ _ (on_socket s is_strangers (pokes bytes) world) (poke_told journal log world s k.sure of (k.owned s) (λ socket found. opener_mirrored journal log world s socket k.cuts.1 k.sure found))
    (socket_answered s is_strangers (pokes bytes) world (λ socket is can. refl))
line_answered_so journal log (lines.Quit s) world of other k = answered_as _ _ (on_socket s is_strangers quits world) (poke_told journal log world s k.sure of (k.owned s) (λ socket found. opener_mirrored journal log world s socket k.cuts.1 k.sure found))
    (socket_answered s is_strangers quits world (λ socket is can. refl))
line_answered_so journal log lines.Settle world of other k = absurd cc
line_answered_so journal log what world of other k = absurd cc

-- ---- a line's entries

same_self : (v : Verdict) → same_answer v v ≡ true
same_self verdicts.Ok = refl
same_self verdicts.Unknown = refl
same_self verdicts.Dead = refl
same_self verdicts.Hale = refl
same_self verdicts.Taken = refl
same_self verdicts.NoName = refl
same_self verdicts.NoRef = refl
same_self verdicts.Empty = refl
same_self verdicts.Long = refl
same_self verdicts.Full = refl
same_self verdicts.Spent = refl
same_self verdicts.Nothing = refl

no_mark_passes : (journal : List Line) (log : List Entry) (x : Entry) → is_mark x ≡ false → is_answered_at_sockets journal log x ≡ true
no_mark_passes journal log (entries.Line number answer) e = absurd cc
no_mark_passes journal log x e = refl

unmarked_passes : (journal : List Line) (log more : List Entry) → Unmarked more → each_after (is_answered_at_sockets journal) log more ≡ true
unmarked_passes journal log [] u = refl
unmarked_passes journal log (x ∷ more) u = both_hold (is_answered_at_sockets journal log x) (each_after (is_answered_at_sockets journal) (log ++ x ∷ []) more) (no_mark_passes journal log x (unmarked_parts x more u).0) (unmarked_passes journal (log ++ x ∷ []) more (unmarked_parts x more u).1)

mark_passes : (journal : List Line) (log : List Entry) (number : ℕ) (answer : Verdict) (what : What) (more : List Entry) → line_numbered journal number ≡ Some what → (is_of_sockets journal what ≡ true → answer ≡ answer_to journal log what) → Unmarked more → each_after (is_answered_at_sockets journal) log (entries.Line number answer ∷ more) ≡ true
mark_passes journal log number answer what more found so u = both_hold (is_answered_at_sockets journal log (entries.Line number answer)) (each_after (is_answered_at_sockets journal) (log ++ entries.Line number answer ∷ []) more)
    (ap (some_and (λ (w : What). not (is_of_sockets journal w) || same_answer answer (answer_to journal log w))) found ∙ by_test (is_of_sockets journal what) so) (unmarked_passes journal (log ++ entries.Line number answer ∷ []) more u) where
      by_test : (b : Bool) → (b ≡ true → answer ≡ answer_to journal log what) → (not b || same_answer answer (answer_to journal log what)) ≡ true
      by_test true so = subst (λ (v : Verdict). same_answer answer v ≡ true) (so refl) (same_self answer)
      by_test false so = refl

abbrev Passes : List Line → List Entry → Happened → Type 0
Passes journal log (Ok done) = each_after (is_answered_at_sockets journal) log done.0 ≡ true
Passes journal log (Err stop) = Unit {0}

answered_passes : (journal : List Line) (log : List Entry) (number : ℕ) (what : What) (done : Answered) → line_numbered journal number ≡ Some what → (is_of_sockets journal what ≡ true → IsAnswered (answer_to journal log what) done) → AnsweredUnmarked done → Passes journal log (line_answered number done)
answered_passes journal log number what (Ok done) found so u = mark_passes journal log number done.0.0 what done.0.1 found so u
answered_passes journal log number what (Err stop) found so u = tt

settled_passes : (journal : List Line) (log : List Entry) (number : ℕ) (world : World) (done : Option Happened) → line_numbered journal number ≡ Some lines.Settle → SettledUnmarked done → Passes journal log (line_settled number world done)
settled_passes journal log number world None found u = mark_passes journal log number verdicts.Ok lines.Settle [] found (λ of. refl) refl
settled_passes journal log number world (Some (Ok done)) found u = mark_passes journal log number verdicts.Ok lines.Settle (done.0 ++ entries.Settled ∷ []) found (λ of. refl) (both done.0 (entries.Settled ∷ []) u refl)
settled_passes journal log number world (Some (Err stop)) found u = tt

event_passes : (journal : List Line) (log : List Entry) (number : ℕ) (what : What) (world : World) → line_numbered journal number ≡ Some what → Known journal log world → Passes journal log (event_step number what world)
event_passes journal log number lines.Settle world found k = settled_passes journal log number world (settles world) found (settled_unmarked (weight_of world) from_start world)
event_passes journal log number what world found k = answered_passes journal log number what (line_done what world) found (λ of. line_answered_so journal log what world of refl k) (done_unmarked what world)

step_passes : (journal : List Line) (log : List Entry) (number : ℕ) (what : What) (world : World) → line_numbered journal number ≡ Some what → Known journal log world → Passes journal log (world_step world (record { number = number; what = what }))
step_passes journal log number (lines.Node name address unique) world found k = refl
step_passes journal log number (lines.Away name address unique) world found k = refl
step_passes journal log number (lines.Label node label) world found k = refl
step_passes journal log number (lines.Stranger name host) world found k = refl
step_passes journal log number what world found k = event_passes journal log number what world found k

-- ---- what holds of a later world held before

pub placed_before : (journal : List Line) (one two : World) → Grows one two → AllPlaced journal two → AllPlaced journal one
placed_before journal one two g placed s socket found = by_next (found_still s socket one.sockets two.sockets g.sockets found) where
  by_next : ((next : WorldSocket) × (find (is_socket_named s) two.sockets ≡ Some next) × SocketGoes socket next) → IsPlaced journal socket
  by_next at = ap (λ (o : Option ℕ). is_of_host (record socket.t { cell = o })) (sym at.2.t.cell) ∙ placed s at.0 at.1 ∙ ap (λ (n : SockName). has_host journal n.to) at.2.name

owned_before : (journal : List Line) (one two : World) → Grows one two → AllOwned journal two → AllOwned journal one
owned_before journal one two g owned s socket found = by_next (found_still s socket one.sockets two.sockets g.sockets found) where
  by_next : ((next : WorldSocket) × (find (is_socket_named s) two.sockets ≡ Some next) × SocketGoes socket next) → IsOwned journal socket
  by_next at = ap (λ (o : Option ℕ). is_of_host (record socket.o { cell = o })) (sym at.2.o.cell) ∙ owned s at.0 at.1 ∙ ap (λ (n : SockName). not (is_stranger journal n.from)) at.2.name

-- ---- all lines

-- where the ends are placed and owned in the end, the lines have their answers
abbrev Answers : List Line → List Entry → Happened → Type 0
Answers journal log (Ok done) = AllPlaced journal done.1 → AllOwned journal done.1 → each_after (is_answered_at_sockets journal) log done.0 ≡ true
Answers journal log (Err stop) = Unit {0}

all_answer : (journal rest : List Line) (log : List Entry) (world : World) → Found journal rest → Sure journal log world → WithCuts journal log world → Numbered world.sockets → Answers journal log (log_from world rest)
all_answer journal [] log world found s c n = λ placed owned. refl
all_answer journal (line ∷ rest) log world found s c n =
    by_step (world_step world line) refl (step_sure journal log world line.number line.what s) (step_led (WithCuts journal) (keeps_cuts journal) log world line.number line.what (any_line line.what) c) (step_grows world line n) (all_answer journal rest) where
      More : Type 0
      More = (l : List Entry) (w : World) → Found journal rest → Sure journal l w → WithCuts journal l w → Numbered w.sockets → Answers journal l (log_from w rest)

      by_rest : (done : List Entry × World) (more : Happened) → world_step world line ≡ Ok done → Grows world done.1 → AllGrow done.1 more → Answers journal (log ++ done.0) more → Answers journal log (more >>= λ more. Ok (done.0 ++ more.0, more.1))
      by_rest done (Ok more) is g h a = λ placed owned. each_append (is_answered_at_sockets journal) log done.0 more.0
          (subst (λ (d : Happened). Passes journal log d) is (step_passes journal log line.number line.what world found.0
          (record { sure = s; cuts = c; placed = placed_before journal world more.1 (onward world done.1 more.1 g h) placed; owned = owned_before journal world more.1 (onward world done.1 more.1 g h) owned })))
          (a placed owned)
      by_rest done (Err stop) is g h a = tt

      by_step : (one : Happened) → world_step world line ≡ one → LedOn (Sure journal) log one → LedOn (WithCuts journal) log one → AllGrow world one → More → Answers journal log (one >>= λ done. log_from done.1 rest >>= λ more. Ok (done.0 ++ more.0, more.1))
      by_step (Ok done) is s c g more = by_rest done (log_from done.1 rest) is g (lines_grow done.1 rest g.numbered) (more (log ++ done.0) done.1 found.1 s c g.numbered)
      by_step (Err stop) is s c g more = tt

pub sockets_answered : (least : ℕ) (journal : List Line) (log : List Entry) (world : World) → AreNumbered least journal → log_from (world_new journal) journal ≡ Ok (log, world) → AllPlaced journal world → AllOwned journal world → IsTrue (each_after (is_answered_at_sockets journal) [] log)
sockets_answered least journal log world numbered is placed owned = by_log (log_from (world_new journal) journal) (all_answer journal journal [] (world_new journal) (found_all least journal numbered) (fresh_sure journal) (no_cuts journal) tt) is where
  by_log : (done : Happened) → Answers journal [] done → done ≡ Ok (log, world) → IsTrue (each_after (is_answered_at_sockets journal) [] log)
  by_log done a e = subst (λ (d : Happened). Answers journal [] d) e a placed owned
