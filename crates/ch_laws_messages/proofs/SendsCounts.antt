-- As many lines that send from one node to another are done as messages are said between them.
use Rattle.std.proofs.Common.{◌≡◌, ℕ, suc, Bool, true, false, cond, ◌&&◌, ◌||◌, List, [], ◌∷◌, ◌++◌, length, refl, sym, ap, ◌∙◌, subst}
use Rattle.std.proofs.lemmas.Bool.{and_parts}
use Rattle.std.proofs.lemmas.Slice.Eq.{bytes_eq-Decides}
use Rattle.std.specs.List.{fold, filter_map, cons_option}
use Rattle.std.specs.Option.{option_map}
use Rattle.std.specs.Prelude.{find, is_some, Option, Some, None, ◌==◌}
use Rattle.std.specs.Str.{bytes_eq}
use Rattle.ch_model.specs.declared.entry.Entry.{Entry}
use Rattle.ch_model.specs.declared.entry.Entry.TheVariants as entries
use Rattle.ch_model.specs.declared.entry.Verdict.{Verdict}
use Rattle.ch_model.specs.declared.entry.Verdict.TheVariants as verdicts
use Rattle.ch_model.specs.declared.line.Line.{Line}
use Rattle.ch_model.specs.declared.line.What.{What}
use Rattle.ch_model.specs.declared.line.What.TheVariants as lines
use Rattle.ch_model.specs.declared.name.ProcName.{ProcName}
use Rattle.ch_model.specs.declared.name.TargetName.{TargetName}
use Rattle.ch_model.specs.declared.name.TargetName.TheVariants as targets
use Rattle.ch_model.specs.AccountsFrames.{Saying}
use Rattle.ch_model.specs.AnswersEntries.{says_so}
use Rattle.ch_model.specs.AnswersOwn.{is_own}
use Rattle.ch_model.specs.HasAnswers.{is_followed_by_own, has_own_first, is_own_of_last, stands_in_place}
use Rattle.ch_model.specs.Logs.{or_else, last_entry, some_and, next_is, each_after, each_between_after}
use Rattle.ch_model.specs.Marks.{line_numbered, done_by, line_just_done, in_settle}
use Rattle.ch_model.specs.Same.{same_process, same_target, node_of}
use Rattle.ch_laws_log.specs.Lines.{AllLines}
use Rattle.ch_laws_many.specs.ManyLines.{is_of_many}
use Rattle.ch_model.specs.WorldState.{Named}
use Rattle.ch_laws_plain_logs.specs.Plain.{said_by}
use Rattle.ch_laws_messages.specs.SendsSends.{sends_to, send_done}

-- ---- a line of the journal

pub numbered_many : (known : List Named) (journal : List Line) → AllLines (is_of_many known) journal → (number : ℕ) (what : What) → line_numbered journal number ≡ Some what → is_of_many known what ≡ true
numbered_many known [] all number what e = absurd cc
numbered_many known (line ∷ rest) all number what e = by_test (line.number == number) e (numbered_many known rest all.1 number what) where
  by_test : (b : Bool) → option_map (λ (l : Line). l.what) (cond b (Some line) (find (λ (l : Line). l.number == number) rest)) ≡ Some what → (line_numbered rest number ≡ Some what → is_of_many known what ≡ true) → is_of_many known what ≡ true
  by_test true e more = let same : line.what ≡ what = cc in subst (λ (w : What). is_of_many known w ≡ true) same all.0
  by_test false e more = more e

-- ---- the last entry

fold_end : {A B : Type 0} (f : B → A → B) (a : B) (xs : List A) (y : A) → fold f a (xs ++ y ∷ []) ≡ f (fold f a xs) y
fold_end f a [] y = refl
fold_end f a (z ∷ ys) y = fold_end f (f a z) ys y

abbrev pub last_done : List Line → Option Entry → Option What
last_done journal o = elim o as (λ o. Option What) [
  | None ↦ None
  | Some entry ↦ done_by journal entry
]

just_done : (journal : List Line) (log : List Entry) (entry : Entry) → line_just_done journal (log ++ entry ∷ []) ≡ done_by journal entry
just_done journal log entry = ap (last_done journal) (fold_end (λ found entry. or_else (Some entry) found) None log entry)

pub done_many : (known : List Named) (journal : List Line) → AllLines (is_of_many known) journal → (entry : Entry) (what : What) → done_by journal entry ≡ Some what → is_of_many known what ≡ true
done_many known journal all (entries.Line number answer) what e = by_answer answer e where
  by_answer : (answer : Verdict) → done_by journal (entries.Line number answer) ≡ Some what → is_of_many known what ≡ true
  by_answer verdicts.Ok e = numbered_many known journal all number what e
  by_answer answer e = absurd cc
done_many known journal all entry what e = absurd cc

pub just_many : (known : List Named) (journal : List Line) → AllLines (is_of_many known) journal → (o : Option Entry) (what : What) → last_done journal o ≡ Some what → is_of_many known what ≡ true
just_many known journal all None what e = absurd cc
just_many known journal all (Some entry) what e = done_many known journal all entry what e

-- ---- what is said

-- x says something to y by the entry
abbrev pub is_saying : List ℕ → List ℕ → Entry → Bool
is_saying x y entry = is_some (said_by x y entry)

-- a line that sends from x to y was done directly before
abbrev pub has_sent : List Line → List ℕ → List ℕ → List Entry → Bool
has_sent journal x y before = some_and (sends_to x y) (line_just_done journal before)

said_some : (b : Bool) (s : Saying) → is_some (cond b (Some s) None) ≡ b
said_some true s = refl
said_some false s = refl

pub or_last : (b c : Bool) → (false || (b || (false && c))) ≡ true → b ≡ true
or_last true c e = refl
or_last false c e = absurd cc

same_ends : (x y : List ℕ) (by p : ProcName) (to d : TargetName) (mark word body bytes : List ℕ) (epoch index : ℕ) → says_so p d word bytes (entries.Said by to epoch index mark body) ≡ true → (by.node ≡ p.node) × (node_of to ≡ node_of d)
same_ends x y by p to d mark word body bytes epoch index e =
    let parts = and_parts (same_process by p) (same_target to d) (and_parts (same_process by p && same_target to d) (bytes_eq mark word) (and_parts (same_process by p && same_target to d && bytes_eq mark word) (bytes_eq body bytes) e).0).0 in
    ((bytes_eq-Decides by.node p.node).0 (and_parts (bytes_eq by.node p.node) (by.counter == p.counter) parts.0).0, targets_same to d parts.1)
  where
    targets_same : (t u : TargetName) → same_target t u ≡ true → node_of t ≡ node_of u
    targets_same (targets.Process p) (targets.Process q) h = (bytes_eq-Decides p.node q.node).0 (and_parts (bytes_eq p.node q.node) (p.counter == q.counter) h).0
    targets_same (targets.Port p m) (targets.Port q n) h = (bytes_eq-Decides p.node q.node).0 (and_parts (bytes_eq p.node q.node) (p.counter == q.counter) (and_parts (same_process p q) (m == n) h).0).0
    targets_same (targets.Named u v) (targets.Named w z) h = (bytes_eq-Decides u w).0 (and_parts (bytes_eq u w) (bytes_eq v z) h).0
    targets_same (targets.Process p) (targets.Port q n) h = absurd cc
    targets_same (targets.Process p) (targets.Named w z) h = absurd cc
    targets_same (targets.Port p m) (targets.Process q) h = absurd cc
    targets_same (targets.Port p m) (targets.Named w z) h = absurd cc
    targets_same (targets.Named u v) (targets.Process q) h = absurd cc
    targets_same (targets.Named u v) (targets.Port q n) h = absurd cc

module _ (journal : List Line) (known : List Named) (many : AllLines (is_of_many known) journal) (x y : List ℕ) where
  -- what is said is the own entry of a line that was done directly before
  said_was_sent : (before : List Entry) (entry : Entry) → stands_in_place journal before entry ≡ true → is_saying x y entry ≡ true → has_sent journal x y before ≡ true
  said_was_sent before (entries.Said by to epoch index mark body) place says = by_line (line_just_done journal before) (just_many known journal many (last_entry before))
      (or_last (is_own_of_last journal before (entries.Said by to epoch index mark body)) (in_settle journal before) place) (sym (said_some (bytes_eq by.node x && bytes_eq (node_of to) y) (record { by = by; to = to; epoch = epoch; index = index; mark = mark; body = body })) ∙ says) where
        by_what : (what : What) → is_of_many known what ≡ true → is_own journal before what (entries.Said by to epoch index mark body) ≡ true → (bytes_eq by.node x && bytes_eq (node_of to) y) ≡ true → sends_to x y what ≡ true
        by_what (lines.Send p (targets.Process q) word bytes) of own says = let ends = same_ends x y by p to (targets.Process q) mark word body bytes epoch index own in
            ap (λ (n : List ℕ). bytes_eq n x && bytes_eq q.node y) (sym ends.0) ∙ ap (λ (n : List ℕ). bytes_eq by.node x && bytes_eq n y) (sym ends.1) ∙ says
        by_what what of own says = absurd cc

        by_line : (o : Option What) → ((what : What) → o ≡ Some what → is_of_many known what ≡ true) → some_and (λ what. is_own journal before what (entries.Said by to epoch index mark body)) o ≡ true → (bytes_eq by.node x && bytes_eq (node_of to) y) ≡ true → some_and (sends_to x y) o ≡ true
        by_line None of own says = absurd cc
        by_line (Some what) of own says = by_what what (of what refl) own says
  said_was_sent before entry place says = absurd cc

  -- a line that sends and is done says its message first
  sent_is_said : (before : List Entry) (entry : Entry) (rest : List Entry) → has_own_first journal before entry rest ≡ true → is_some (send_done journal x y entry) ≡ true → next_is (is_saying x y) rest ≡ true
  sent_is_said before (entries.Line number verdicts.Ok) rest own sent = by_line (line_numbered journal number) own sent where
    by_next : (p q : ProcName) (word bytes : List ℕ) (next : List Entry) → (bytes_eq p.node x && bytes_eq q.node y) ≡ true → next_is (says_so p (targets.Process q) word bytes) next ≡ true → next_is (is_saying x y) next ≡ true
    by_next p q word bytes [] of h = absurd cc
    by_next p q word bytes (entries.Said by to epoch index mark body ∷ more) of h = let ends = same_ends x y by p to (targets.Process q) mark word body bytes epoch index h in
        said_some (bytes_eq by.node x && bytes_eq (node_of to) y) (record { by = by; to = to; epoch = epoch; index = index; mark = mark; body = body })
        ∙ ap (λ (n : List ℕ). bytes_eq n x && bytes_eq (node_of to) y) ends.0 ∙ ap (λ (n : List ℕ). bytes_eq p.node x && bytes_eq n y) ends.1 ∙ of
    by_next p q word bytes (other ∷ more) of h = absurd cc

    by_test : (what : What) (b : Bool) → sends_to x y what ≡ b → is_some (cond b (Some what) None) ≡ true → sends_to x y what ≡ true
    by_test what true e s = e
    by_test what false e s = absurd cc

    by_what : (what : What) → is_followed_by_own journal before rest what ≡ true → sends_to x y what ≡ true → next_is (is_saying x y) rest ≡ true
    by_what (lines.Send p (targets.Process q) word bytes) own s = by_next p q word bytes rest s own
    by_what what own s = absurd cc

    by_line : (o : Option What) → some_and (is_followed_by_own journal before rest) o ≡ true → is_some (elim o as (λ o. Option What) [ None ↦ None | Some what ↦ cond (sends_to x y what) (Some what) None ]) ≡ true → next_is (is_saying x y) rest ≡ true
    by_line None own s = absurd cc
    by_line (Some what) own s = by_what what own (by_test what (sends_to x y what) refl s)
  sent_is_said before entry rest own sent = absurd cc

  then_sent : (before : List Entry) (entry : Entry) → has_sent journal x y (before ++ entry ∷ []) ≡ is_some (send_done journal x y entry)
  then_sent before entry = ap (some_and (sends_to x y)) (just_done journal before entry) ∙ by_done (done_by journal entry) where
    by_test : (what : What) (b : Bool) → b ≡ is_some (cond b (Some what) None)
    by_test what true = refl
    by_test what false = refl

    by_done : (o : Option What) → some_and (sends_to x y) o ≡ is_some (elim o as (λ o. Option What) [ None ↦ None | Some what ↦ cond (sends_to x y what) (Some what) None ])
    by_done None = refl
    by_done (Some what) = by_test what (sends_to x y what)

  abbrev and_one : Bool → ℕ → ℕ
  and_one true n = suc n
  and_one false n = n

  longer : {A : Type 0} (o : Option A) (rest : List A) → length (cons_option o rest) ≡ and_one (is_some o) (length rest)
  longer None rest = refl
  longer (Some a) rest = refl

  both_ways : (a b : Bool) → (a ≡ true → b ≡ true) → (b ≡ true → a ≡ true) → a ≡ b
  both_ways true b f g = sym (f refl)
  both_ways false true f g = g refl
  both_ways false false f g = refl

  walk : (before rest : List Entry) → each_between_after (has_own_first journal) before rest ≡ true → each_after (stands_in_place journal) before rest ≡ true → (has_sent journal x y before ≡ true → next_is (is_saying x y) rest ≡ true)
      → and_one (has_sent journal x y before) (length (filter_map (send_done journal x y) rest)) ≡ length (filter_map (said_by x y) rest)
  walk before [] own place next = by_test (has_sent journal x y before) next where
    by_test : (b : Bool) → (b ≡ true → false ≡ true) → and_one b 0 ≡ 0
    by_test true f = absurd (let no : false ≡ true = f refl in absurd cc)
    by_test false f = refl
  walk before (entry ∷ rest) own place next =
      let owns = and_parts (has_own_first journal before entry rest) (each_between_after (has_own_first journal) (before ++ entry ∷ []) rest) own in
      let places = and_parts (stands_in_place journal before entry) (each_after (stands_in_place journal) (before ++ entry ∷ []) rest) place in
      let first : has_sent journal x y before ≡ is_saying x y entry = both_ways (has_sent journal x y before) (is_saying x y entry) next (said_was_sent before entry places.0) in
      ap (λ (b : Bool). and_one b (length (cons_option (send_done journal x y entry) (filter_map (send_done journal x y) rest)))) first
      ∙ ap (λ (n : ℕ). and_one (is_saying x y entry) n) (longer (send_done journal x y entry) (filter_map (send_done journal x y) rest)
      ∙ ap (λ (b : Bool). and_one b (length (filter_map (send_done journal x y) rest))) (sym (then_sent before entry))
      ∙ walk (before ++ entry ∷ []) rest owns.1 places.1 (λ e. sent_is_said before entry rest owns.0 (sym (then_sent before entry) ∙ e)))
      ∙ sym (longer (said_by x y entry) (filter_map (said_by x y) rest))

  pub done_as_said : (log : List Entry) → each_between_after (has_own_first journal) [] log ≡ true → each_after (stands_in_place journal) [] log ≡ true → length (filter_map (send_done journal x y) log) ≡ length (filter_map (said_by x y) log)
  done_as_said log own place = walk [] log own place (λ no. absurd cc)
