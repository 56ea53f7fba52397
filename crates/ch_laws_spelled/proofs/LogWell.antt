-- In the log of a journal of many nodes all that is said was sent by a line, and so is well.
use Rattle.std.specs.Prelude.{◌≡◌, ℕ, Bool, true, false, cond, ◌&&◌, ◌||◌, ◌==◌, List, [], ◌∷◌, ◌++◌, find, Option, Some, None, Ok}
use Rattle.std.specs.Option.{option_map}
use Rattle.std.specs.List.{AllByRecursion}
use Rattle.std.specs.Str.{bytes_eq}
use Rattle.std.proofs.Common.{refl, sym, ap, ◌∙◌, subst}
use Rattle.std.proofs.lemmas.Bool.{and_parts}
use Rattle.std.proofs.lemmas.Slice.Eq.{bytes_eq-Decides}
use Rattle.ch_model.specs.declared.entry.Entry.{Entry}
use Rattle.ch_model.specs.declared.entry.Entry.TheVariants as entries
use Rattle.ch_model.specs.declared.entry.Verdict.TheVariants as verdicts
use Rattle.ch_model.specs.declared.line.Line.{Line}
use Rattle.ch_model.specs.declared.line.What.{What}
use Rattle.ch_model.specs.declared.line.What.TheVariants as lines
use Rattle.ch_model.specs.declared.name.ProcName.{ProcName}
use Rattle.ch_model.specs.declared.name.TargetName.{TargetName}
use Rattle.ch_model.specs.declared.name.TargetName.TheVariants as targets
use Rattle.ch_model.specs.AnswersOwn.{is_own}
use Rattle.ch_model.specs.HasAnswers.{is_own_of_last, stands_in_place}
use Rattle.ch_model.specs.Logs.{some_and, each_after, last_entry}
use Rattle.ch_model.specs.Marks.{line_numbered, done_by, line_just_done}
use Rattle.ch_model.specs.Same.{same_process, same_target}
use Rattle.ch_model.specs.World.{names_of, log_of}
use Rattle.ch_model.specs.WorldState.{Named}
use Rattle.ch_laws_log.specs.Lines.{AllLines}
use Rattle.ch_laws_log.proofs.Stored.{number_is}
use Rattle.ch_laws_many.specs.ManyLines.{is_of_many}
use Rattle.ch_laws_many.proofs.InOrder.{in_order}
use Rattle.ch_laws_many.proofs.Reached.{IsJournal}
use Rattle.ch_laws_spelled.specs.Spelled.{IsSentWell, SendsWell, AllWell, IsWell, SaysWell}

-- ---- names that are one

process_is : (p q : ProcName) → same_process p q ≡ true → p ≡ q
process_is p q h =
    let parts = and_parts (bytes_eq p.node q.node) (p.counter == q.counter) h in
    ap (λ (z : List ℕ). record p { node = z }) ((bytes_eq-Decides p.node q.node).0 parts.0) ∙ ap (λ (z : ℕ). record q { counter = z }) (number_is p.counter q.counter parts.1)

target_is : (t u : TargetName) → same_target t u ≡ true → t ≡ u
target_is (targets.Process p) (targets.Process q) h = ap targets.Process (process_is p q h)
target_is (targets.Port p m) (targets.Port q n) h =
    let parts = and_parts (same_process p q) (m == n) h in
    ap (λ (z : ProcName). targets.Port z m) (process_is p q parts.0) ∙ ap (targets.Port q) (number_is m n parts.1)
target_is (targets.Named x v) (targets.Named y w) h =
    let parts = and_parts (bytes_eq x y) (bytes_eq v w) h in
    ap (λ (z : List ℕ). targets.Named z v) ((bytes_eq-Decides x y).0 parts.0) ∙ ap (targets.Named y) ((bytes_eq-Decides v w).0 parts.1)
target_is t u h = absurd cc

-- ---- the line that says an entry

-- what is so of each line is so of one of a number
numbered_is : (P : What → Type 0) (rest : List Line) → AllByRecursion (λ (line : Line). P line.what) rest → (number : ℕ) (what : What) → line_numbered rest number ≡ Some what → P what
numbered_is P [] all number what e = absurd cc
numbered_is P (line ∷ rest) all number what e = by_test (line.number == number) e (numbered_is P rest all.1 number what) where
  by_test : (b : Bool) → option_map (λ (l : Line). l.what) (cond b (Some line) (find (λ (l : Line). l.number == number) rest)) ≡ Some what → (line_numbered rest number ≡ Some what → P what) → P what
  by_test true e more = let same : line.what ≡ what = cc in subst P same all.0
  by_test false e more = more e

-- and of one that was done just now
just_is : (P : What → Type 0) (journal : List Line) → AllByRecursion (λ (line : Line). P line.what) journal → (log : List Entry) (what : What) → line_just_done journal log ≡ Some what → P what
just_is P journal all log what e = by_last (last_entry log) e where
  by_mark : (entry : Entry) → done_by journal entry ≡ Some what → P what
  by_mark (entries.Line number verdicts.Ok) e = numbered_is P journal all number what e
  by_mark entry e = absurd cc

  by_last : (o : Option Entry) → (elim o as (λ o. Option What) [ None ↦ None | Some entry ↦ done_by journal entry ]) ≡ Some what → P what
  by_last None e = absurd cc
  by_last (Some entry) e = by_mark entry e

-- the line is one of many nodes, and sends well
abbrev IsGood : List Named → What → Type 0
IsGood known what = (is_of_many known what ≡ true) × SendsWell known what

all_good : (known : List Named) (rest : List Line) → AllLines (is_of_many known) rest → AllByRecursion (λ (line : Line). SendsWell known line.what) rest → AllByRecursion (λ (line : Line). IsGood known line.what) rest
all_good known [] of well = tt
all_good known (line ∷ rest) of well = ((of.0, well.0), all_good known rest of.1 well.1)

-- what is said as a line sends it
own_well : (journal : List Line) (log : List Entry) (by : ProcName) (to : TargetName) (epoch index : ℕ) (mark body : List ℕ) (what : What) → is_own journal log what (entries.Said by to epoch index mark body) ≡ true → is_of_many (names_of journal) what ≡ true → SendsWell (names_of journal) what → IsSentWell (names_of journal) by to mark
own_well journal log by to epoch index mark body (lines.Send p d word bytes) own of well =
    let known : List Named = names_of journal in
    let all = and_parts (same_process by p && same_target to d && bytes_eq mark word) (bytes_eq body bytes) own in
    let marks = and_parts (same_process by p && same_target to d) (bytes_eq mark word) all.0 in
    let ends = and_parts (same_process by p) (same_target to d) marks.0 in
    subst (λ (q : ProcName). IsSentWell known q to mark) (sym (process_is by p ends.0))
    (subst (λ (t : TargetName). IsSentWell known p t mark) (sym (target_is to d ends.1))
    (subst (λ (w : List ℕ). IsSentWell known p d w) (sym ((bytes_eq-Decides mark word).0 marks.1)) well))
own_well journal log by to epoch index mark body what own of well = absurd cc

-- ---- the log

one_well : (journal : List Line) → IsJournal journal → AllWell journal → (log : List Entry) (entry : Entry) → stands_in_place journal log entry ≡ true → IsWell journal entry
one_well journal j well log (entries.Said by to epoch index mark body) h = by_line (line_just_done journal log) refl (second (is_own_of_last journal log (entries.Said by to epoch index mark body)) h) where
  second : (b : Bool) → (b || false) ≡ true → b ≡ true
  second true h = refl
  second false h = h

  by_line : (o : Option What) → line_just_done journal log ≡ o → some_and (λ what. is_own journal log what (entries.Said by to epoch index mark body)) o ≡ true → IsSentWell (names_of journal) by to mark
  by_line None e own = absurd cc
  by_line (Some what) e own =
      let good = just_is (IsGood (names_of journal)) journal (all_good (names_of journal) journal j.lines well) log what e in
      own_well journal log by to epoch index mark body what own good.0 good.1
one_well journal j well log entry h = tt

rest_well : (journal : List Line) → IsJournal journal → AllWell journal → (log rest : List Entry) → each_after (stands_in_place journal) log rest ≡ true → SaysWell journal rest
rest_well journal j well log [] h = tt
rest_well journal j well log (entry ∷ rest) h =
    let parts = and_parts (stands_in_place journal log entry) (each_after (stands_in_place journal) (log ++ entry ∷ []) rest) h in
    (one_well journal j well log entry parts.0, rest_well journal j well (log ++ entry ∷ []) rest parts.1)

pub log_well : (journal : List Line) → IsJournal journal → AllWell journal → (log : List Entry) → log_of journal ≡ Ok log → SaysWell journal log
log_well journal j well log is = rest_well journal j well [] log (in_order journal j log is).in_place
