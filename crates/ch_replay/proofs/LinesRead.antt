-- A line that was read and run is one line of the model.
use Rattle.std.proofs.Common.{◌≡◌, ◌<◌, ℕ, ◌+◌, ◌==◌, Bool, false, cond, List, ◌++◌, Option, Some, None, Result, Ok, Err, refl, sym, ◌∙◌, ap, subst, arith}
use Rattle.std.proofs.lemmas.Bool.Decides.{nat_tests}
use Rattle.ch_base.specs.declared.memory.Stop.{Stop}
use Rattle.ch_model.specs.declared.entry.Entry.{Entry}
use Rattle.ch_model.specs.declared.line.Line.{Line}
use Rattle.ch_model.specs.declared.line.What.{What}
use Rattle.ch_model.specs.declared.line.What.TheVariants.{Settle}
use Rattle.ch_model.specs.declared.refusal.BadKind.{BadKind}
use Rattle.ch_model.specs.LinesTold.{Told}
use Rattle.ch_model.specs.Lines.{read_line}
use Rattle.ch_model.specs.LinesBuilt.{many_nodes}
use Rattle.ch_model.specs.Spelling.{log_text}
use Rattle.ch_model.specs.World.{◌>>=◌}
use Rattle.ch_lines.specs.declared.reading.JournalError.TheVariants.{BadLine, Worn}
use Rattle.ch_lines.specs.declared.grammar.Grammar.{Grammar}
use Rattle.ch_lines.specs.declared.grammar.Grammar.TheVariants.{ManyNodes}
use Rattle.ch_lines.specs.Grammars.{built_of}
use Rattle.ch_lines.specs.ReadingState.{ReadingState}
use Rattle.ch_lines.specs.Reading.{Step, numbered_line, read_as, next_line, read_on}
use Rattle.ch_laws_lines.specs.InOrder.{is_settling}
use Rattle.ch_laws_lines.proofs.ManyNodes.{many_settles_not}
use Rattle.ch_world.specs.Lines.{is_settle}
use Rattle.ch_replay.specs.Running.{Running}
use Rattle.ch_replay.specs.Steps.{run_step}
use Rattle.ch_replay.specs.Replayed.{Progress, went_on, one_line, progress_of, IsTurn}

not_last : (n : ℕ) → n < 4294967295 → (n == 4294967295) ≡ false
not_last n h = grind (arith, nat_tests)

-- where no line was refused, the next is read by the grammar of many nodes
reads_next : (before : ReadingState) (line : List ℕ) → before.grammar ≡ ManyNodes → before.refused ≡ None → before.number < 4294967295 → read_on before line ≡ read_as before (before.number + 1) (read_line many_nodes before.told line)
reads_next before line own fresh few =
    ap (λ (o : Option (ℕ × BadKind)). elim o as (λ o. Step) [
      | None ↦ next_line before line
      | Some fault ↦ record { answer = Err (BadLine fault.0 fault.1); after = before }
    ]) fresh
    ∙ ap (λ (b : Bool). cond b (record { answer = Err Worn; after = before }) (read_as before (before.number + 1) (read_line (built_of before.grammar) before.told line))) (not_last before.number few)
    ∙ ap (λ (g : Grammar). read_as before (before.number + 1) (read_line (built_of g) before.told line)) own

pub goes_on : (before now : ReadingState) (run after : Running) (line : List ℕ) (read : Line) (entries : List Entry) (old new : List ℕ)
    → before.grammar ≡ ManyNodes → before.refused ≡ None → before.number < 4294967295
    → (read_on before line).answer ≡ Ok (Some read) → now ≡ (read_on before line).after
    → run_step run read ≡ Ok (entries, after) → new ≡ old ++ log_text entries
    → IsTurn (Ok None) before now run after line old new
goes_on before now run after line read entries old new own fresh few answer then step told_text =
    by_read (read_line many_nodes before.told line) refl (ap (λ (s : Step). s.answer) (sym on) ∙ answer) (then ∙ ap (λ (s : Step). s.after) on)
  where
    on : read_on before line ≡ read_as before (before.number + 1) (read_line many_nodes before.told line)
    on = reads_next before line own fresh few

    by_some : (o : Option What) (told : Told) → read_line many_nodes before.told line ≡ Ok (o, told) → Some (numbered_line (before.number + 1) o) ≡ Some (Some read) → now ≡ record { grammar = before.grammar; told = told; number = before.number + 1; refused = before.refused } → IsTurn (Ok None) before now run after line old new
    by_some None told e a n = absurd cc
    by_some (Some what) told e a n =
        let same : record { number = before.number + 1; what = what } ≡ read = cc in
        let ran : run_step run (record { number = before.number + 1; what = what }) ≡ Ok (entries, after) = ap (run_step run) same ∙ step in
        let line_is : one_line (progress_of before run) line ≡ (went_on (progress_of before run) (Some what) told >>= λ done. Ok (Ok done)) = ap (λ (r : Result (Option What × Told) BadKind). elim r as (λ r. Result (Result (List ℕ × Progress) BadKind) Stop) [
          | Err kind ↦ Ok (Err kind)
          | Ok read ↦ (went_on (progress_of before run) read.0 read.1 >>= λ done. Ok (Ok done))
        ]) e in
        let went_is : went_on (progress_of before run) (Some what) told ≡ Ok (log_text entries, record { told = told; number = before.number + 1; run = after }) = ap (λ (d : Result (List Entry × Running) Stop). d >>= λ done. Ok (log_text done.0, record { told = told; number = before.number + 1; run = done.1 })) ran in
        let ends : Ok (Ok (log_text entries, record { told = told; number = before.number + 1; run = after })) ≡ Ok (Ok (log_text entries, progress_of now after)) = ap (λ (p : Progress). Ok (Ok (log_text entries, p))) (sym (ap (λ (s : ReadingState). progress_of s after) n)) in
        (ap (λ (s : ReadingState). s.grammar) n ∙ own, ap (λ (s : ReadingState). s.refused) n ∙ fresh, ap (λ (s : ReadingState). s.number) n, log_text entries, line_is ∙ ap (λ (d : Result (List ℕ × Progress) Stop). d >>= λ done. Ok (Ok done)) went_is ∙ ends, told_text)

    by_read : (r : Result (Option What × Told) BadKind) → read_line many_nodes before.told line ≡ r → (read_as before (before.number + 1) r).answer ≡ Ok (Some read) → now ≡ (read_as before (before.number + 1) r).after → IsTurn (Ok None) before now run after line old new
    by_read (Err kind) e a n = absurd cc
    by_read (Ok r) e a n = let found : Some (numbered_line (before.number + 1) r.0) ≡ Some (Some read) = cc in by_some r.0 r.1 e found n

-- a line that is read settles nothing
pub settles_not : (before : ReadingState) (line : List ℕ) (read : Line)
    → before.grammar ≡ ManyNodes → before.refused ≡ None → before.number < 4294967295
    → (read_on before line).answer ≡ Ok (Some read) → is_settle read.what ≡ false
settles_not before line read own fresh few answer = by_read (read_line many_nodes before.told line) refl (ap (λ (s : Step). s.answer) (sym (reads_next before line own fresh few)) ∙ answer)
  where
    none_settles : (what : What) → is_settling what ≡ false → is_settle what ≡ false
    none_settles Settle h = cc
    none_settles what h = refl

    by_some : (o : Option What) (told : Told) → read_line many_nodes before.told line ≡ Ok (o, told) → Some (numbered_line (before.number + 1) o) ≡ Some (Some read) → is_settle read.what ≡ false
    by_some None told e a = absurd cc
    by_some (Some what) told e a =
        let same : record { number = before.number + 1; what = what } ≡ read = cc in
        subst (λ (l : Line). is_settle l.what ≡ false) same (none_settles what (many_settles_not before.told told line what e))

    by_read : (r : Result (Option What × Told) BadKind) → read_line many_nodes before.told line ≡ r → (read_as before (before.number + 1) r).answer ≡ Ok (Some read) → is_settle read.what ≡ false
    by_read (Err kind) e a = absurd cc
    by_read (Ok r) e a = let found : Some (numbered_line (before.number + 1) r.0) ≡ Some (Some read) = cc in by_some r.0 r.1 e found
