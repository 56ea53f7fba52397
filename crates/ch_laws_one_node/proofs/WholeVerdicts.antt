-- The answers that the whole model promises to the lines of one node are those of one node.
use Rattle.std.specs.Prelude.{◌≡◌, ℕ, ◌≤◌, Bool, true, false, not, ◌&&◌, ◌||◌, List, length, nat_lt, nat_le, if◌then◌else◌}
use Rattle.std.specs.Str.{bytes_eq}
use Rattle.std.proofs.Common.{refl, ap, sym, ◌∙◌}
use Rattle.std.proofs.lemmas.Bool.{le-ltb}
use Rattle.ch_ident.specs.Spelling as spelling
use Rattle.ch_model.specs.declared.name.ProcName.{ProcName}
use Rattle.ch_model.specs.declared.name.TargetName.TheVariants as targets
use Rattle.ch_model.specs.declared.entry.Entry.{Entry}
use Rattle.ch_model.specs.declared.entry.Verdict.{Verdict}
use Rattle.ch_model.specs.declared.entry.Verdict.TheVariants as verdicts
use Rattle.ch_model.specs.declared.entry.Verdict.TheVariants.{Ok, Unknown, Dead, Empty, Long, Full, Spent}
use Rattle.ch_model.specs.declared.line.Line.{Line as JournalLine}
use Rattle.ch_model.specs.declared.line.What.{What}
use Rattle.ch_model.specs.declared.line.What.TheVariants as lines
use Rattle.ch_model.specs.Life as life
use Rattle.ch_model.specs.Mailboxes as mailboxes
use Rattle.ch_model.specs.AnswersCounts.{waiting, connections, begins_epoch, says_to_broken}
use Rattle.ch_model.specs.Answers.{answer_to, answer_to_process, payload_size, meets_full, meets_spent}
use Rattle.ch_model.specs.HasAnswers.{same_answer}
use Rattle.ch_laws_one_node.specs.OneNode.{IsOfNode, FitsFrame}
use Rattle.ch_laws_one_node.specs.Counts.{is_made_in, is_over_in, taken_in}
use Rattle.ch_laws_one_node.specs.Mailboxes.{entered}
use Rattle.ch_laws_one_node.specs.Answers.{answer_acting, answer_over}
use Rattle.ch_laws_one_node.proofs.EntriesOf.{AreEntriesOf}
use Rattle.ch_laws_one_node.proofs.Bridges.{equal_bytes_are, made_is, shut_is, over_is, doomed_is, taken_is}
use Rattle.ch_laws_one_node.proofs.WholeMailboxes.{entered_is}

pub same_answer_self : (a : Verdict) → same_answer a a ≡ true
same_answer_self verdicts.Ok = refl
same_answer_self verdicts.Unknown = refl
same_answer_self verdicts.Dead = refl
same_answer_self verdicts.Hale = refl
same_answer_self verdicts.Taken = refl
same_answer_self verdicts.NoName = refl
same_answer_self verdicts.NoRef = refl
same_answer_self verdicts.Empty = refl
same_answer_self verdicts.Long = refl
same_answer_self verdicts.Full = refl
same_answer_self verdicts.Spent = refl
same_answer_self verdicts.Nothing = refl

or_none : (b : Bool) → (b || false) ≡ b
or_none true = refl
or_none false = refl

-- a process that acts is answered as the log shows, where one that is live is answered so
acting_same : (node : List ℕ) (before : List Entry) (by : ProcName) (live answer : Verdict) → AreEntriesOf node before → live ≡ answer → (if not (life.is_made before by) then Unknown else (if life.is_over before by || life.is_doomed before by && true then Dead else live)) ≡ answer_acting before by answer
acting_same node before by live answer old same =
    ap (λ b. if not b then Unknown else (if life.is_over before by || life.is_doomed before by && true then Dead else live)) (made_is node before by old)
    ∙ ap (λ b. if not (is_made_in before by) then Unknown else (if b || life.is_doomed before by && true then Dead else live)) (over_is node before by old)
    ∙ ap (λ b. if not (is_made_in before by) then Unknown else (if is_over_in before by || b && true then Dead else live)) (doomed_is node before by old)
    ∙ ap (λ b. if not (is_made_in before by) then Unknown else (if b then Dead else live)) (or_none (is_over_in before by))
    ∙ ap (λ v. if not (is_made_in before by) then Unknown else (if is_over_in before by then Dead else v)) same

-- ---- a message that is sent

and_none : (b : Bool) → (b && false) ≡ false
and_none true = refl
and_none false = refl

third_none : (x y z u : Bool) → (x && y && false && z && u) ≡ false
third_none true true z u = refl
third_none true false z u = refl
third_none false y z u = refl

sent_live : (unmade long broken full spent : Bool) → Verdict
sent_live unmade long broken full spent = if unmade then Unknown else (if long then Long else (if broken then Ok else (if full then Full else (if spent then Spent else Ok))))

send_answer : (journal : List JournalLine) (node : List ℕ) (before : List Entry) (by to : ProcName) (mark body : List ℕ) → by.node ≡ to.node → length (spelling.user (record { mark = mark; body = body })) ≤ 65536 → AreEntriesOf node before → answer_to_process journal before by (lines.Send by (targets.Process to) mark body) ≡ answer_acting before by (if is_made_in before to then Ok else Unknown)
unfolding sent_live
send_answer journal node before by to mark body same fits old = acting_same node before by (sent_live (bytes_eq by.node to.node && not (life.is_made before to)) (nat_lt 65536 (payload_size what)) (says_to_broken before what) (meets_full journal before by.node what) (meets_spent before by.node what)) (if is_made_in before to then Ok else Unknown) old
    (ap (λ b. sent_live (b && not (life.is_made before to)) (nat_lt 65536 (payload_size what)) (says_to_broken before what) (meets_full journal before by.node what) (meets_spent before by.node what)) here
    ∙ ap (λ b. sent_live (not b) (nat_lt 65536 (payload_size what)) (says_to_broken before what) (meets_full journal before by.node what) (meets_spent before by.node what)) (made_is node before to old)
    ∙ ap (λ b. sent_live (not (is_made_in before to)) b (says_to_broken before what) (meets_full journal before by.node what) (meets_spent before by.node what)) (le-ltb 65536 (payload_size what) fits)
    ∙ ap (λ b. sent_live (not (is_made_in before to)) false (says_to_broken before what) b (meets_spent before by.node what)) never_full
    ∙ ap (λ b. sent_live (not (is_made_in before to)) false (says_to_broken before what) false b) never_spent
    ∙ by_made (is_made_in before to) (says_to_broken before what)) where
      what : What
      what = lines.Send by (targets.Process to) mark body

      here : bytes_eq by.node to.node ≡ true
      here = equal_bytes_are by.node to.node same

      never_full : meets_full journal before by.node what ≡ false
      never_full = ap (λ b. bytes_eq by.node by.node && bytes_eq to.node to.node && not b && not (says_to_broken before what) && nat_le 4096 (waiting journal before by.node to.node)) here
          ∙ third_none (bytes_eq by.node by.node) (bytes_eq to.node to.node) (not (says_to_broken before what)) (nat_le 4096 (waiting journal before by.node to.node))

      never_spent : meets_spent before by.node what ≡ false
      never_spent = ap (λ b. begins_epoch before what && (not b && nat_le 65535 (connections before by.node to.node))) here ∙ and_none (begins_epoch before what)

      by_made : (made broken : Bool) → sent_live (not made) false broken false false ≡ (if made then Ok else Unknown)
      by_made true true = refl
      by_made true false = refl
      by_made false broken = refl

-- ---- a message that is taken

take_answer : (journal : List JournalLine) (node : List ℕ) (before : List Entry) (by : ProcName) (mark : List ℕ) → AreEntriesOf node before → answer_to_process journal before by (lines.Recv by mark) ≡ answer_acting before by (if nat_lt (taken_in before by mark) (length (entered before by mark)) then Ok else Empty)
take_answer journal node before by mark old = acting_same node before by (if not (mailboxes.has_marked journal before by mark) then Empty else Ok) (if nat_lt (taken_in before by mark) (length (entered before by mark)) then Ok else Empty) old
    (ap (λ n. if not (nat_lt n (length (mailboxes.entered journal before by mark))) then Empty else Ok) (taken_is node before by mark old)
    ∙ ap (λ l. if not (nat_lt (taken_in before by mark) (length l)) then Empty else Ok) (entered_is journal node before by mark old)
    ∙ by_test (nat_lt (taken_in before by mark) (length (entered before by mark)))) where
      by_test : (b : Bool) → (if not b then Empty else Ok) ≡ (if b then Ok else Empty)
      by_test true = refl
      by_test false = refl

-- ---- all lines

pub answer_is : (journal : List JournalLine) (node : List ℕ) (before : List Entry) (what : What) → IsOfNode node what → FitsFrame what → AreEntriesOf node before → answer_to journal before what ≡ answer_over before what
answer_is journal node before (lines.Proc name) of fits old = ap (λ b. if b then Dead else Ok) (shut_is node before name old)
answer_is journal node before (lines.Send by (targets.Process to) mark body) of fits old = send_answer journal node before by to mark body (of.0 ∙ sym of.1) fits old
answer_is journal node before (lines.Recv by mark) of fits old = take_answer journal node before by mark old
answer_is journal node before (lines.End by) of fits old = acting_same node before by Ok Ok old refl
answer_is journal node before what of fits old = absurd of
