-- A turn of the replay is a line of the model, and the turns together are the whole.
use Rattle.std.proofs.Common.{◌≡◌, ℕ, ◌+◌, ◌-◌, Bool, false, cond, List, [], ◌∷◌, ◌++◌, length, Option, Some, None, Result, Ok, Err, nat_lt, refl, ◌∙◌, ap, subst, append_assoc}
use Rattle.ch_base.specs.declared.memory.Stop.{Stop}
use Rattle.ch_model.specs.declared.refusal.BadKind.{BadKind}
use Rattle.ch_model.specs.declared.refusal.LineFault.{LineFault}
use Rattle.ch_model.specs.declared.refusal.LineFault.TheVariants.{Bad, TooLong}
use Rattle.ch_model.specs.World.{◌>>=◌}
use Rattle.ch_model.specs.Journal.{size_of, is_too_long}
use Rattle.ch_lines.specs.declared.grammar.Grammar.TheVariants.{ManyNodes}
use Rattle.ch_lines.specs.ReadingState.{ReadingState}
use Rattle.ch_replay.specs.Running.{Running}
use Rattle.ch_replay.specs.Replayed.{Progress, one_line, after_text, replayed, progress_of, onto, IsTurn}

abbrev Told2 : Type 0
Told2 = List ℕ × Option (ℕ × LineFault)

onto_both : (old more : List ℕ) (r : Result Told2 Stop) → onto (old ++ more) r ≡ onto old (r >>= λ m. Ok (after_text more m))
onto_both old more (Ok m) = ap (λ (x : List ℕ). Ok (x, m.1)) (append_assoc old more m.0)
onto_both old more (Err stop) = refl

-- a line that went on, and the lines after it, are the whole
whole_after : (p p1 : Progress) (line : List ℕ × Bool) (more old : List ℕ) (room : ℕ) (raw rest : List (List ℕ × Bool)) (goal : Result Told2 Stop)
    → raw ≡ line ∷ rest → is_too_long room line ≡ false → one_line p line.0 ≡ Ok (Ok (more, p1))
    → onto old (replayed p room raw) ≡ goal
    → onto (old ++ more) (replayed p1 (room - size_of line) rest) ≡ goal
whole_after p p1 line more old room raw rest goal cut short went whole =
    let at_line : onto old (replayed p room (line ∷ rest)) ≡ goal = subst (λ (r : List (List ℕ × Bool)). onto old (replayed p room r) ≡ goal) cut whole in
    let not_long : onto old (one_line p line.0 >>= λ r. elim r [ Err kind ↦ Ok ([], Some (p.number + 1, Bad kind)) | Ok done ↦ (replayed done.1 (room - size_of line) rest >>= λ more. Ok (after_text done.0 more)) ]) ≡ goal =
    subst (λ (t : Bool). onto old (cond t (Ok ([], Some (p.number + 1, TooLong))) (one_line p line.0 >>= λ r. elim r [ Err kind ↦ Ok ([], Some (p.number + 1, Bad kind)) | Ok done ↦ (replayed done.1 (room - size_of line) rest >>= λ more. Ok (after_text done.0 more)) ])) ≡ goal) short at_line in
    let gone : onto old (replayed p1 (room - size_of line) rest >>= λ m. Ok (after_text more m)) ≡ goal =
    subst (λ (o : Result (Result (List ℕ × Progress) BadKind) Stop). onto old (o >>= λ r. elim r [ Err kind ↦ Ok ([], Some (p.number + 1, Bad kind)) | Ok done ↦ (replayed done.1 (room - size_of line) rest >>= λ more. Ok (after_text done.0 more)) ]) ≡ goal) went not_long in
    onto_both old more (replayed p1 (room - size_of line) rest) ∙ gone

-- the same of a turn
pub turn_goes_on : (before now : ReadingState) (run after : Running) (line : List ℕ) (ended : Bool) (old new : List ℕ) (kind : Option BadKind) (room size : ℕ) (raw rest : List (List ℕ × Bool)) (goal : Result Told2 Stop)
    → kind ≡ None → IsTurn (Ok kind) before now run after line old new
    → raw ≡ (line, ended) ∷ rest → nat_lt 8192 (length line) ≡ false → nat_lt room size ≡ false → size ≡ size_of (line, ended)
    → onto old (replayed (progress_of before run) room raw) ≡ goal
    → (now.grammar ≡ ManyNodes) × (now.refused ≡ None) × (now.number ≡ before.number + 1) × (onto new (replayed (progress_of now after) (room - size) rest) ≡ goal)
turn_goes_on before now run after line ended old new (Some kind) room size raw rest goal e t cut short fits is whole = cc
turn_goes_on before now run after line ended old new None room size raw rest goal e t cut short fits is whole =
    let fits2 : nat_lt room (size_of (line, ended)) ≡ false = subst (λ (k : ℕ). nat_lt room k ≡ false) is fits in
    let not_long : is_too_long room (line, ended) ≡ false = rw (short, fits2) refl in
    let done : onto (old ++ t.3) (replayed (progress_of now after) (room - size_of (line, ended)) rest) ≡ goal =
    whole_after (progress_of before run) (progress_of now after) (line, ended) t.3 old room raw rest goal cut not_long t.4 whole in
    (t.0, t.1, t.2, ap (λ (x : List ℕ). onto x (replayed (progress_of now after) (room - size) rest)) t.5 ∙ ap (λ (k : ℕ). onto (old ++ t.3) (replayed (progress_of now after) (room - k) rest)) is ∙ done)
