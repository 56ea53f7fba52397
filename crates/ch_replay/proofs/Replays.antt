-- Replaying line by line gives the text of the log of the journal, and the first line with a fault.
use Rattle.std.specs.Prelude.{◌≡◌, ℕ, ◌+◌, ◌-◌, Bool, true, false, cond, List, [], ◌∷◌, ◌++◌, take, Option, Some, None, Result, Ok, Err, ◌==◌, if◌then◌else◌}
use Rattle.std.proofs.Common.{refl, ap, sym, ◌∙◌, append_assoc}
use Rattle.std.proofs.lemmas.Grind.{flat_map-append}
use Rattle.ch_base.specs.declared.memory.Stop.{Stop}
use Rattle.ch_model.specs.declared.refusal.BadKind.{BadKind}
use Rattle.ch_model.specs.declared.refusal.LineFault.{LineFault}
use Rattle.ch_model.specs.declared.refusal.LineFault.TheVariants.{Bad, TooLong}
use Rattle.ch_model.specs.declared.entry.Entry.{Entry}
use Rattle.ch_model.specs.declared.line.Line.{Line}
use Rattle.ch_model.specs.declared.line.What.{What}
use Rattle.ch_model.specs.WorldState.{World}
use Rattle.ch_model.specs.World.{◌>>=◌, is_declaration, world_new, event_step, log_from, log_of}
use Rattle.ch_model.specs.LinesTold.{Told, untold, told_after}
use Rattle.ch_model.specs.Lines.{read_line}
use Rattle.ch_model.specs.LinesBuilt.{many_nodes}
use Rattle.ch_model.specs.Journal.{Scan, stopped, line_before, longest_journal, raw_lines, onto_first, size_of, is_too_long, scan_from, scan_lines, journal_of, first_fault}
use Rattle.ch_model.specs.Spelling.{entry_text, log_text}
use Rattle.ch_laws_lines.proofs.Order.{Tells, reads_tell, starts, events_only}
use Rattle.ch_laws_lines.proofs.ManyNodes.{many_early}
use Rattle.ch_laws_lines.proofs.Worlds.{of_declarations}
use Rattle.ch_laws_one_node.proofs.Reading.{Gives}
use Rattle.ch_replay.specs.Running.{Running}
use Rattle.ch_replay.specs.Steps.{with_declared, run_step}
use Rattle.ch_replay.specs.Replayed.{Progress, went_on, after_text, replayed, replay_of}

-- ---- what is told

abbrev Told2 : Type 0
Told2 = List ℕ × Option (ℕ × LineFault)

-- what is told of a run: the text of the log, and the fault
abbrev pub told_of : Option (ℕ × LineFault) → List Entry → Result Told2 Stop
told_of fault log = Ok (log_text log, fault)

-- the same, where the world after it is known too
abbrev told_done : Option (ℕ × LineFault) → List Entry × World → Result Told2 Stop
told_done fault done = Ok (log_text done.0, fault)

-- what is told of lines from a world on
abbrev told_from : World → Scan → Result Told2 Stop
told_from world scan = log_from world scan.lines >>= told_done scan.fault

abbrev with_text : List ℕ → Told2 → Result Told2 Stop
with_text text more = Ok (after_text text more)

-- the entries of a line before those of the lines that follow
abbrev with_log : List Entry → List Entry × World → Result (List Entry × World) Stop
with_log done more = Ok (done ++ more.0, more.1)

no_text : (r : Result Told2 Stop) → r >>= with_text [] ≡ r
no_text (Ok more) = refl
no_text (Err stop) = refl

no_entries : (fault : Option (ℕ × LineFault)) (r : Result (List Entry × World) Stop) → r >>= told_done fault ≡ (r >>= with_log []) >>= told_done fault
no_entries fault (Ok more) = refl
no_entries fault (Err stop) = refl

then_text : (done : List Entry) (fault : Option (ℕ × LineFault)) (r : Result (List Entry × World) Stop) → (r >>= told_done fault) >>= with_text (log_text done) ≡ (r >>= with_log done) >>= told_done fault
then_text done fault (Ok more) = ap (λ (l : List ℕ). Ok (l, fault)) (sym (flat_map-append entry_text done more.0))
then_text done fault (Err stop) = refl

-- ---- progress

abbrev at : Told → ℕ → List Line → Option World → Progress
at told number declared world = record { told = told; number = number; run = record { declared = declared; world = world } }

abbrev Read : Type 0
Read = Result (Option What × Told) BadKind

-- what a line does to a run that has this world, by whether it declares, and by what it does there as an event
abbrev step_by : Bool → List Line → Option World → Line → World → Result (List Entry × World) Stop → Result (List Entry × Running) Stop
step_by b declared before line world event =
    if b then Ok ([], with_declared line (record { declared = declared; world = before }))
    else ((if b then Ok ([], world) else event) >>= λ done. Ok (done.0, record { declared = declared; world = Some done.1 }))

run_begun : (declared : List Line) (world : World) (line : Line) → run_step (record { declared = declared; world = Some world }) line ≡ step_by (is_declaration line.what) declared (Some world) line world (event_step line.number line.what world)
unfolding run_step
run_begun declared world line = refl

run_unbegun : (declared : List Line) (line : Line) → run_step (record { declared = declared; world = None }) line ≡ step_by (is_declaration line.what) declared None line (world_new declared) (event_step line.number line.what (world_new declared))
unfolding run_step
run_unbegun declared line = refl

-- the lines after this one, of this number, on a text with this room
abbrev replay_after : ℕ → ℕ → List (List ℕ × Bool) → Result (List ℕ × Progress) BadKind → Result Told2 Stop
replay_after number room rest r = elim r [
  | Err kind ↦ Ok ([], Some (number, Bad kind))
  | Ok done ↦ (replayed done.1 room rest >>= λ more. Ok (after_text done.0 more))
]

abbrev went : Told → ℕ → Result (List Entry × Running) Stop → Result (Result (List ℕ × Progress) BadKind) Stop
went told number r = (r >>= λ done. Ok (log_text done.0, record { told = told; number = number; run = done.1 })) >>= λ done. Ok (Ok done)

-- what an event line does, and the lines after it
by_event : (told : Told) (number room : ℕ) (declared : List Line) (rest : List (List ℕ × Bool)) (scan : Scan) (event : Result (List Entry × World) Stop)
    → ((world : World) → replayed (at told number declared (Some world)) room rest ≡ told_from world scan)
    → went told number (event >>= λ done. Ok (done.0, record { declared = declared; world = Some done.1 })) >>= replay_after number room rest
    ≡ (event >>= λ done. (log_from done.1 scan.lines >>= with_log done.0)) >>= told_done scan.fault
by_event told number room declared rest scan (Err stop) more = refl
by_event told number room declared rest scan (Ok done) more =
    ap (λ r. r >>= with_text (log_text done.0)) (more done.1) ∙ then_text done.0 scan.fault (log_from done.1 scan.lines)

-- ---- a run that has a world

replays_begun : (told : Told) (number : ℕ) (declared : List Line) (world : World) (room : ℕ) (raw : List (List ℕ × Bool)) → replayed (at told number declared (Some world)) room raw ≡ told_from world (scan_from many_nodes told (number + 1) room raw)
replays_begun told number declared world room [] = refl
replays_begun told number declared world room (line ∷ rest) = by_long (is_too_long room line) (read_line many_nodes told line.0) (λ after lines now. replays_begun after (number + 1) lines now (room - size_of line) rest) where
  next : ℕ
  next = number + 1

  after_line : Told → Scan
  after_line after = scan_from many_nodes after (next + 1) (room - size_of line) rest

  of_line : Read → Result (Result (List ℕ × Progress) BadKind) Stop
  of_line r = elim r [ Err kind ↦ Ok (Err kind) | Ok read ↦ (went_on (at told number declared (Some world)) read.0 read.1 >>= λ done. Ok (Ok done)) ]

  scan_after : Read → Scan
  scan_after r = elim r [ Err kind ↦ stopped next (Bad kind) | Ok read ↦ line_before next read.0 (after_line read.1) ]

  Replays : Type 0
  Replays = (after : Told) (lines : List Line) (now : World) → replayed (at after next lines (Some now)) (room - size_of line) rest ≡ told_from now (after_line after)

  by_kind : (after : Told) (said : Line) (b : Bool) (event : Result (List Entry × World) Stop) → Replays
      → went after next (step_by b declared (Some world) said world event) >>= replay_after next (room - size_of line) rest
      ≡ ((if b then Ok ([], world) else event) >>= λ done. (log_from done.1 (after_line after).lines >>= with_log done.0)) >>= told_done (after_line after).fault
  by_kind after said true event more =
      no_text (replayed (at after next (declared ++ said ∷ []) (Some world)) (room - size_of line) rest)
      ∙ more after (declared ++ said ∷ []) world
      ∙ no_entries (after_line after).fault (log_from world (after_line after).lines)
  by_kind after said false event more = by_event after next (room - size_of line) declared rest (after_line after) event (λ now. more after declared now)

  by_long : (b : Bool) (r : Read) → Replays → (if b then Ok ([], Some (next, TooLong)) else of_line r >>= replay_after next (room - size_of line) rest) ≡ told_from world (if b then stopped next TooLong else scan_after r)
  by_long true r more = refl
  by_long false (Err kind) more = refl
  by_long false (Ok (None, after)) more = no_text (replayed (at after next declared (Some world)) (room - size_of line) rest) ∙ more after declared world
  by_long false (Ok (Some what, after)) more = ap (λ (r : Result (List Entry × Running) Stop). went after next r >>= replay_after next (room - size_of line) rest) (run_begun declared world (record { number = next; what = what })) ∙ by_kind after (record { number = next; what = what }) (is_declaration what) (event_step next what world) more

-- ---- a run that has none yet: the world is that of the whole journal, whose declarations are those before it

abbrev told_new : List Line → Scan → Result Told2 Stop
told_new declared scan = told_from (world_new (declared ++ scan.lines)) scan

replays_unbegun : (told : Told) (number : ℕ) (declared : List Line) (room : ℕ) (raw : List (List ℕ × Bool)) → replayed (at told number declared None) room raw ≡ told_new declared (scan_from many_nodes told (number + 1) room raw)
replays_unbegun told number declared room [] = refl
replays_unbegun told number declared room (line ∷ rest) = by_long (is_too_long room line) (read_line many_nodes told line.0) (reads_tell many_nodes told line.0) (λ after lines. replays_unbegun after (number + 1) lines (room - size_of line) rest) where
  next : ℕ
  next = number + 1

  after_line : Told → Scan
  after_line after = scan_from many_nodes after (next + 1) (room - size_of line) rest

  of_line : Read → Result (Result (List ℕ × Progress) BadKind) Stop
  of_line r = elim r [ Err kind ↦ Ok (Err kind) | Ok read ↦ (went_on (at told number declared None) read.0 read.1 >>= λ done. Ok (Ok done)) ]

  scan_after : Read → Scan
  scan_after r = elim r [ Err kind ↦ stopped next (Bad kind) | Ok read ↦ line_before next read.0 (after_line read.1) ]

  Replays : Type 0
  Replays = (after : Told) (lines : List Line) → replayed (at after next lines None) (room - size_of line) rest ≡ told_new lines (after_line after)

  by_world : Told → Bool → What → World → Result Told2 Stop
  by_world after b what world = ((if b then Ok ([], world) else event_step next what world) >>= λ done. (log_from done.1 (after_line after).lines >>= with_log done.0)) >>= told_done (after_line after).fault

  by_kind : (after : Told) (what : What) (b : Bool) → is_declaration what ≡ b → after ≡ told_after told what → Replays
      → went after next (step_by b declared None (record { number = next; what = what }) (world_new declared) (event_step next what (world_new declared))) >>= replay_after next (room - size_of line) rest
      ≡ by_world after b what (world_new (declared ++ record { number = next; what = what } ∷ (after_line after).lines))
  by_kind after what true h tells more =
      no_text (replayed (at after next (declared ++ record { number = next; what = what } ∷ []) None) (room - size_of line) rest)
      ∙ more after (declared ++ record { number = next; what = what } ∷ [])
      ∙ ap (λ (journal : List Line). told_from (world_new journal) (after_line after)) (append_assoc declared (record { number = next; what = what } ∷ []) (after_line after).lines)
      ∙ no_entries (after_line after).fault (log_from (world_new (declared ++ record { number = next; what = what } ∷ (after_line after).lines)) (after_line after).lines)
  by_kind after what false h tells more =
      by_event after next (room - size_of line) declared rest (after_line after) (event_step next what (world_new declared)) (λ now. replays_begun after next declared now (room - size_of line) rest)
      ∙ ap (by_world after false what) (sym (of_declarations declared (record { number = next; what = what } ∷ (after_line after).lines) (h, events_only many_nodes many_early after (ap (λ (x : Told). x.started) tells ∙ starts told what h) (next + 1) (room - size_of line) rest)))

  by_long : (b : Bool) (r : Read) → Gives (Tells told) r → Replays → (if b then Ok ([], Some (next, TooLong)) else of_line r >>= replay_after next (room - size_of line) rest) ≡ told_new declared (if b then stopped next TooLong else scan_after r)
  by_long true r tells more = refl
  by_long false (Err kind) tells more = refl
  by_long false (Ok (None, after)) tells more = no_text (replayed (at after next declared None) (room - size_of line) rest) ∙ more after declared
  by_long false (Ok (Some what, after)) tells more = ap (λ (r : Result (List Entry × Running) Stop). went after next r >>= replay_after next (room - size_of line) rest) (run_unbegun declared (record { number = next; what = what })) ∙ by_kind after what (is_declaration what) refl tells.given more

-- ---- a whole journal

some_lines : (b : ℕ) (bytes : List ℕ) → replay_of (b ∷ bytes) ≡ told_new [] (scan_lines many_nodes (raw_lines (b ∷ bytes)))
some_lines b bytes = replays_unbegun untold 0 [] longest_journal (raw_lines (b ∷ bytes)) ∙ ap (told_new []) (by_test (b == 10) (raw_lines bytes)) where
  by_test : (x : Bool) (raw : List (List ℕ × Bool)) → scan_from many_nodes untold 1 longest_journal (cond x (([], true) ∷ raw) (onto_first b raw)) ≡ scan_lines many_nodes (cond x (([], true) ∷ raw) (onto_first b raw))
  by_test true raw = refl
  by_test false [] = refl
  by_test false (line ∷ raw) = refl

replays_all : (bytes : List ℕ) → replay_of bytes ≡ told_new [] (scan_lines many_nodes (raw_lines bytes))
replays_all [] = refl
replays_all (b ∷ bytes) = some_lines b bytes

log_alone : (fault : Option (ℕ × LineFault)) (r : Result (List Entry × World) Stop) → r >>= told_done fault ≡ (r >>= λ done. Ok done.0) >>= told_of fault
log_alone fault (Ok done) = refl
log_alone fault (Err stop) = refl

-- the bytes are those of a journal, or its first up to one more than a journal may have
pub replays : (bytes journal : List ℕ) → bytes ≡ take (longest_journal + 1) journal → replay_of bytes ≡ log_of (journal_of many_nodes journal) >>= told_of (first_fault many_nodes journal)
replays bytes journal is =
    ap replay_of is ∙ replays_all (take (longest_journal + 1) journal)
    ∙ log_alone (first_fault many_nodes journal) (log_from (world_new (journal_of many_nodes journal)) (journal_of many_nodes journal))
