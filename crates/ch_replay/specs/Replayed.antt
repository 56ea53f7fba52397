-- A journal replayed line by line: reading and logging in one pass. It gives the text of the log, and where and
-- why reading stopped.
use Rattle.std.specs.Prelude.{◌≡◌, ℕ, ◌+◌, ◌-◌, Bool, List, [], ◌∷◌, ◌++◌, Option, Some, None, Result, Ok, Err, if◌then◌else◌}
use Rattle.ch_base.specs.declared.memory.Stop.{Stop}
use Rattle.ch_base.specs.declared.memory.Stop.TheVariants as stops
use Rattle.ch_model.specs.declared.refusal.BadKind.{BadKind}
use Rattle.ch_model.specs.declared.refusal.BadKind.TheVariants.{Form}
use Rattle.ch_model.specs.declared.refusal.LineFault.{LineFault}
use Rattle.ch_model.specs.declared.refusal.LineFault.TheVariants.{Bad, TooLong}
use Rattle.ch_model.specs.declared.line.What.{What}
use Rattle.ch_model.specs.World.{◌>>=◌}
use Rattle.ch_model.specs.LinesTold.{Told, untold}
use Rattle.ch_model.specs.Lines.{read_line}
use Rattle.ch_model.specs.LinesBuilt.{many_nodes}
use Rattle.ch_model.specs.Journal.{longest_journal, raw_lines, size_of, is_too_long}
use Rattle.ch_model.specs.Spelling.{log_text}
use Rattle.ch_lines.specs.declared.grammar.Grammar.TheVariants.{ManyNodes}
use Rattle.ch_lines.specs.ReadingState.{ReadingState}
use Rattle.ch_replay.specs.Running.{Running, unbegun}
use Rattle.ch_replay.specs.Steps.{run_step}

-- what the lines so far have told, how many they are, and how far they have run
pub record Progress : Type 0 where
  pub told : Told
  pub number : ℕ
  pub run : Running

abbrev pub at_start : Progress
at_start = record { told = untold; number = 0; run = unbegun }

-- a line that was read: the text of its entries, and the progress after it
abbrev pub went_on : Progress → Option What → Told → Result (List ℕ × Progress) Stop
went_on progress None told = Ok ([], record progress { told = told; number = progress.number + 1 })
went_on progress (Some what) told = do
  done ← run_step progress.run (record { number = progress.number + 1; what = what })
  Ok (log_text done.0, record { told = told; number = progress.number + 1; run = done.1 })

-- the next line, or the kind of its refusal
abbrev pub one_line : Progress → List ℕ → Result (Result (List ℕ × Progress) BadKind) Stop
one_line progress text = elim (read_line many_nodes progress.told text) [
  | Err kind ↦ Ok (Err kind)
  | Ok read ↦ (went_on progress read.0 read.1 >>= λ done. Ok (Ok done))
]

-- a text before what follows
abbrev pub after_text : List ℕ → List ℕ × Option (ℕ × LineFault) → List ℕ × Option (ℕ × LineFault)
after_text text more = (text ++ more.0, more.1)

-- the lines from here on, where so many bytes of the journal are to come
abbrev pub replayed : Progress → ℕ → List (List ℕ × Bool) → Result (List ℕ × Option (ℕ × LineFault)) Stop
replayed progress room [] = Ok ([], None)
replayed progress room (line ∷ rest) =
    if is_too_long room line then Ok ([], Some (progress.number + 1, TooLong)) else (
    one_line progress line.0 >>= λ r. elim r [
      | Err kind ↦ Ok ([], Some (progress.number + 1, Bad kind))
      | Ok done ↦ (replayed done.1 (room - size_of line) rest >>= λ more. Ok (after_text done.0 more))
    ])

-- a whole text; one without a line lacks its header
abbrev pub replay_of : List ℕ → Result (List ℕ × Option (ℕ × LineFault)) Stop
replay_of [] = Ok ([], Some (1, Bad Form))
replay_of (b ∷ bs) = replayed at_start longest_journal (raw_lines (b ∷ bs))

-- what a function answered is what is defined, but that want of memory may come at any call
abbrev pub Stops : {A : Type 0} → Stop → Result A Stop → Type 0
Stops stops.OutOfMemory given = Unit {0}
Stops stops.Worn given = given ≡ Err stops.Worn

abbrev pub Gives : {X Y : Type 0} → (X → Y) → Result X Stop → Result Y Stop → Type 0
Gives view (Ok x) given = given ≡ Ok (view x)
Gives view (Err e) given = Stops e given

abbrev pub progress_of : ReadingState → Running → Progress
progress_of reading run = record { told = reading.told; number = reading.number; run = run }

-- What a turn did: a line went on, with its text appended; or was refused, and nothing was; or a count is worn.
abbrev pub IsTurn : Result (Option BadKind) Stop → ReadingState → ReadingState → Running → Running → List ℕ → List ℕ → List ℕ → Type 0
IsTurn (Ok None) before now run after line old new =
    (now.grammar ≡ ManyNodes) × (now.refused ≡ None) × (now.number ≡ before.number + 1) × (more : List ℕ)
    × (one_line (progress_of before run) line ≡ Ok (Ok (more, progress_of now after))) × (new ≡ old ++ more)
IsTurn (Ok (Some kind)) before now run after line old new = (one_line (progress_of before run) line ≡ Ok (Err kind)) × (new ≡ old)
IsTurn (Err stops.OutOfMemory) before now run after line old new = Unit {0}
IsTurn (Err stops.Worn) before now run after line old new = one_line (progress_of before run) line ≡ Err stops.Worn

-- a text before all that follows
abbrev pub onto : List ℕ → Result (List ℕ × Option (ℕ × LineFault)) Stop → Result (List ℕ × Option (ℕ × LineFault)) Stop
onto text (Ok more) = Ok (after_text text more)
onto text (Err stop) = Err stop
