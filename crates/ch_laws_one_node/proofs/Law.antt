-- The log of a journal of one node is lawful, line by line.
use Rattle.std.specs.Prelude.{◌≡◌, ℕ, List, [], ◌∷◌, ◌++◌, Some, Result, Ok, Err}
use Rattle.std.proofs.Common.{refl, ap, sym, ◌∙◌, subst, append_assoc}
use Rattle.std.proofs.lemmas.List.{append-nil}
use Rattle.ch_base.specs.AddressValues.{AddressValue}
use Rattle.ch_base.specs.declared.memory.Stop.{Stop}
use Rattle.ch_model.specs.declared.name.ProcName.{ProcName}
use Rattle.ch_one_node.specs.declared.note.Note.{Note}
use Rattle.ch_model.specs.declared.name.TargetName.TheVariants as targets
use Rattle.ch_model.specs.declared.entry.Entry.{Entry}
use Rattle.ch_model.specs.declared.entry.Entry.TheVariants as entries
use Rattle.ch_model.specs.declared.entry.Verdict.{Verdict}
use Rattle.ch_model.specs.declared.entry.Verdict.TheVariants as verdicts
use Rattle.ch_model.specs.declared.line.Line.{Line}
use Rattle.ch_model.specs.declared.line.What.{What}
use Rattle.ch_model.specs.declared.line.What.TheVariants.{Node, Proc, Send, Recv, End}
use Rattle.ch_one_node.specs.declared.command.CommandError.TheVariants as errors
use Rattle.ch_one_node.specs.States.{NodeState, World}
use Rattle.ch_one_node.specs.Node.{process_id, new_node, send_of, receive_of, finish_of, node_make}
use Rattle.ch_one_node.specs.World.{◌>>=◌, answered, entries_of, event_of, some_world, log_from, log_of}
use Rattle.ch_laws_one_node.specs.Answers.{answer_over, IsDone, HasAnswersAfter}
use Rattle.ch_laws_one_node.specs.Lawful.{AreLawfulAfter, IsLawful}
use Rattle.ch_laws_one_node.specs.OneNode.{IsOfNode, AreOfNode, IsOfOneNode}
use Rattle.ch_laws_one_node.proofs.Appending.{at, lawful_append}
use Rattle.ch_laws_one_node.proofs.Shows.{nothing_shows, nothing_got}
use Rattle.ch_laws_one_node.proofs.Calls.{Done}
use Rattle.ch_laws_one_node.proofs.Events.{Holds, marked, marked_holds, Does, Fine, make_fine, end_fine, receive_fine, send_fine}

value_is : {A : Type 0} (x y : A) → ◌≡◌ {A = Result A Stop} (Ok x) (Ok y) → x ≡ y
value_is x y h = cc

-- ---- one event line

-- what a line did, and the world after it
pub record Steps (w : World) (before : List Entry) (number : ℕ) (what : What) (done : List Entry × World) : Type 0 where
  pub caused : List Entry
  pub entries_are : done.0 ≡ entries.Line number (answer_over before what) ∷ caused
  pub is_done : IsDone before what (answer_over before what) caused
  pub lawful : AreLawfulAfter (marked before number (answer_over before what)) caused
  pub name : done.1.name ≡ w.name
  pub holds : Holds done.1.name done.1.node (marked before number (answer_over before what) ++ caused)

-- a line that did nothing
refused : (w : World) (before : List Entry) (number : ℕ) (what : What) (answer : Verdict) → answer_over before what ≡ answer → IsDone before what answer [] → Holds w.name w.node before → Steps w before number what (entries.Line number answer ∷ [], w)
refused w before number what answer is done h = record {
  caused = [];
  entries_are = ap (λ a. entries.Line number a ∷ []) (sym is);
  is_done = subst (λ a. IsDone before what a []) (sym is) done;
  lawful = tt;
  name = refl;
  holds = subst (λ l. Holds w.name w.node l) (sym (append-nil (marked before number (answer_over before what)))) (marked_holds w.name w.node before number (answer_over before what) h);
}

performed : (w : World) (before : List Entry) (number : ℕ) (what : What) (done : List Note × NodeState) → Does w before number what done.0 done.1 → Steps w before number what (entries.Line number verdicts.Ok ∷ entries_of w done.0, record w { node = done.1 })
performed w before number what done does = record {
  caused = entries_of w done.0;
  entries_are = ap (λ a. entries.Line number a ∷ entries_of w done.0) (sym does.answer);
  is_done = subst (λ a. IsDone before what a (entries_of w done.0)) (sym does.answer) does.done;
  lawful = subst (λ a. AreLawfulAfter (marked before number a) (entries_of w done.0)) (sym does.answer) does.lawful;
  name = refl;
  holds = subst (λ a. Holds w.name done.1 (marked before number a ++ entries_of w done.0)) (sym does.answer) does.holds;
}

steps_from : (w : World) (before : List Entry) (number : ℕ) (what : What) (given : Done) (done : List Entry × World) → Holds w.name w.node before → Fine w before number what given → answered w number given ≡ Ok done → Steps w before number what done
steps_from w before number what (Ok given) done h fine is = subst (λ d. Steps w before number what d) (value_is _ _ is) (performed w before number what given fine)
steps_from w before number what (Err errors.Unknown) done h fine is = subst (λ d. Steps w before number what d) (value_is _ _ is) (refused w before number what verdicts.Unknown fine refl h)
steps_from w before number what (Err errors.Dead) done h fine is = subst (λ d. Steps w before number what d) (value_is _ _ is) (refused w before number what verdicts.Dead fine refl h)
steps_from w before number what (Err errors.Empty) done h fine is = subst (λ d. Steps w before number what d) (value_is _ _ is) (refused w before number what verdicts.Empty fine refl h)
steps_from w before number what (Err errors.OutOfMemory) done h fine is = absurd (cc)
steps_from w before number what (Err errors.Worn) done h fine is = absurd (cc)

-- a process of the node is named by its number
named : (p : ProcName) (node : List ℕ) → p.node ≡ node → at node p.counter ≡ p
named p node h = ap (λ n. at n p.counter) (sym h)

steps : (w : World) (before : List Entry) (number : ℕ) (what : What) (done : List Entry × World) → IsOfNode w.name what → Holds w.name w.node before → event_of w number what ≡ Ok done → Steps w before number what done
steps w before number (Proc name) done of h is = steps_from w before number (Proc name) (node_make w.node) done h (subst (λ n. Fine w before number (Proc n) (node_make w.node)) (sym of) (make_fine w before number h)) is
steps w before number (Send by (targets.Process to) mark body) done of h is = steps_from w before number (Send by (targets.Process to) mark body) given done h
    (subst (λ p. Fine w before number (Send p (targets.Process to) mark body) given) (named by w.name of.0) (subst (λ p. Fine w before number (Send (at w.name by.counter) (targets.Process p) mark body) given) (named to w.name of.1) (send_fine w before number by.counter to.counter (record { mark = mark; body = body }) h))) is where
      given : Done
      given = send_of w.node by.counter (process_id w.node to.counter) (record { mark = mark; body = body })
steps w before number (Recv by mark) done of h is = steps_from w before number (Recv by mark) (receive_of w.node by.counter mark) done h (subst (λ p. Fine w before number (Recv p mark) (receive_of w.node by.counter mark)) (named by w.name of) (receive_fine w before number by.counter mark h)) is
steps w before number (End by) done of h is = steps_from w before number (End by) (finish_of w.node by.counter) done h (subst (λ p. Fine w before number (End p) (finish_of w.node by.counter)) (named by w.name of) (end_fine w before number by.counter h)) is
steps w before number what done of h is = absurd of

-- ---- all lines

-- the rest of a log after what stands before it
pub record Continues (before : List Entry) (journal : List Line) (log : List Entry) : Type 0 where
  pub lawful : AreLawfulAfter before log
  pub answers : HasAnswersAfter before journal log

answered_line : (before : List Entry) (number : ℕ) (what : What) (node : List ℕ) (others : List Line) (done after : List Entry) → IsOfNode node what → IsDone before what (answer_over before what) done → HasAnswersAfter (before ++ entries.Line number (answer_over before what) ∷ done) others after → HasAnswersAfter before (record { number = number; what = what } ∷ others) (entries.Line number (answer_over before what) ∷ done ++ after)
answered_line before number (Proc name) node others done after of is rest = (done, after, refl, is, rest)
answered_line before number (Send by (targets.Process to) mark body) node others done after of is rest = (done, after, refl, is, rest)
answered_line before number (Recv by mark) node others done after of is rest = (done, after, refl, is, rest)
answered_line before number (End by) node others done after of is rest = (done, after, refl, is, rest)
answered_line before number what node others done after of is rest = absurd of

abbrev pub Continuing : List Line → Type 0
Continuing journal = (w : World) (before log : List Entry) → AreOfNode w.name journal → Holds w.name w.node before → log_from (Some w) journal ≡ Ok log → Continues before journal log

one_line : (line : Line) (rest : List Line) → Continuing rest → Continuing (line ∷ rest)
one_line line rest more w before log of h is = by_event (event_of w line.number line.what) refl is where
  by_rest : (done : List Entry × World) → event_of w line.number line.what ≡ Ok done → (r : Result (List Entry) Stop) → log_from (Some done.1) rest ≡ r → (r >>= λ after. Ok (done.0 ++ after)) ≡ Ok log → Continues before (line ∷ rest) log
  by_rest done event (Err e) rest_is is = absurd (cc)
  by_rest done event (Ok after) rest_is is = subst (λ l. Continues before (line ∷ rest) l) (ap (λ l. l ++ after) (sym step.entries_are) ∙ value_is (done.0 ++ after) log is) (record {
    lawful = (tt, lawful_append (marked before line.number answer) step.caused after step.lawful continues.lawful);
    answers = answered_line before line.number line.what w.name rest step.caused after of.0 step.is_done (subst (λ l. HasAnswersAfter l rest after) (append_assoc before (entries.Line line.number answer ∷ []) step.caused) continues.answers);
  }) where
    answer : Verdict
    answer = answer_over before line.what

    step : Steps w before line.number line.what done
    step = steps w before line.number line.what done of.0 h event

    continues : Continues (marked before line.number answer ++ step.caused) rest after
    continues = more done.1 (marked before line.number answer ++ step.caused) after (subst (λ n. AreOfNode n rest) (sym step.name) of.1) step.holds rest_is

  by_event : (r : Result (List Entry × World) Stop) → event_of w line.number line.what ≡ r → ((r >>= λ done. Ok (some_world done)) >>= λ done. log_from done.1 rest >>= λ after. Ok (done.0 ++ after)) ≡ Ok log → Continues before (line ∷ rest) log
  by_event (Err e) event is = absurd (cc)
  by_event (Ok done) event is = by_rest done event (log_from (Some done.1) rest) refl is

all_lines : (journal : List Line) → Continuing journal
all_lines [] w before log of h is = subst (λ l. Continues before [] l) (value_is [] log is) (record { lawful = tt; answers = refl })
all_lines (line ∷ rest) w before log of h is = one_line line rest (all_lines rest) w before log of h is

-- ---- a journal

declared : (name : List ℕ) (address : AddressValue) (unique : ℕ) (number : ℕ) (rest : List Line) (log : List Entry) → AreOfNode name rest → (r : Result (List Entry) Stop) → log_from (Some (record { name = name; node = new_node address unique })) rest ≡ r → (r >>= λ more. Ok ([] ++ more)) ≡ Ok log → IsLawful (record { number = number; what = Node name address unique } ∷ rest) log
declared name address unique number rest log of (Err e) rest_is is = absurd (cc)
declared name address unique number rest log of (Ok more) rest_is is = subst (λ l. IsLawful (record { number = number; what = Node name address unique } ∷ rest) l) (value_is more log is) (record { entries = continues.lawful; answers = continues.answers }) where
  continues : Continues [] rest more
  continues = all_lines rest (record { name = name; node = new_node address unique }) [] more of (record { shows = nothing_shows name; got = nothing_got name }) rest_is

by_first : (number : ℕ) (what : What) (rest : List Line) (log : List Entry) → IsOfOneNode (record { number = number; what = what } ∷ rest) → log_of (record { number = number; what = what } ∷ rest) ≡ Ok log → IsLawful (record { number = number; what = what } ∷ rest) log
by_first number (Node name address unique) rest log of is = declared name address unique number rest log of (log_from (Some (record { name = name; node = new_node address unique })) rest) refl is
by_first number what rest log of is = absurd of

pub lawful_log : (journal : List Line) (log : List Entry) → IsOfOneNode journal → log_of journal ≡ Ok log → IsLawful journal log
lawful_log [] log of is = subst (λ l. IsLawful [] l) (value_is [] log is) (record { entries = tt; answers = refl })
lawful_log (line ∷ rest) log of is = by_first line.number line.what rest log of is
