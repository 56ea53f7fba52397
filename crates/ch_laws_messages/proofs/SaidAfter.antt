-- All that is said is carried after any first lines of a journal of many nodes.
use Rattle.std.proofs.Common.{◌≡◌, ℕ, ◌+◌, List, [], ◌∷◌, ◌++◌, Ok}
use Rattle.std.specs.Prelude.{take}
use Rattle.ch_model.specs.declared.entry.Entry.{Entry}
use Rattle.ch_model.specs.declared.line.Line.{Line}
use Rattle.ch_model.specs.Journal.{journal_of, raw_lines, longest_journal}
use Rattle.ch_model.specs.LinesBuilt.{many_nodes}
use Rattle.ch_model.specs.World.{world_new, log_from}
use Rattle.ch_model.specs.WorldState.{World}
use Rattle.ch_laws_calls.specs.Calls.{Claim, Anything, Both}
use Rattle.ch_laws_calls.specs.Sound.{SoundEnds, SoundLinks}
use Rattle.ch_laws_ids.specs.Runs.{AllRun}
use Rattle.ch_laws_ids.proofs.Logs.{fresh_runs, sound_runs_kept}
use Rattle.ch_laws_lines.proofs.ManyNodes.{many_in_order}
use Rattle.ch_laws_many.proofs.Journals.{is_journal}
use Rattle.ch_laws_spelled.proofs.Fronts.{front_well}
use Rattle.ch_laws_spelled.proofs.LinesWell.{bytes_have}
use Rattle.ch_laws_calls.specs.Turns.{KeepsTurns}
use Rattle.ch_laws_calls.proofs.TurnsLines.{all_turns}
use Rattle.ch_laws_calls.proofs.TurnsOfCalls.{by_calls}
use Rattle.ch_laws_calls.proofs.TurnsTogether.{beside, given_with, weaker, while_given}
use Rattle.ch_laws_peers.specs.Says.{AllSay}
use Rattle.ch_laws_peers.specs.Standing.{IsOfNodes, Standing}
use Rattle.ch_laws_peers.proofs.Logs.{of_nodes}
use Rattle.ch_laws_peers.proofs.Together.{standing_kept, fresh_standing}
use Rattle.ch_laws_messages.specs.SaidGiven.{SaidGiven}
use Rattle.ch_laws_messages.specs.SaidGoes.{SaysWell}
use Rattle.ch_laws_messages.proofs.SaidFresh.{fresh_say}
use Rattle.ch_laws_messages.proofs.SaidKept.{said_kept}
use Rattle.ch_laws_messages.proofs.SaidSpelled.{spelled_well}

-- the first entries of a log whose sayings are well are so
pub first_well : (journal : List Line) (one two : List Entry) → SaysWell journal (one ++ two) → SaysWell journal one
first_well journal [] two w = tt
first_well journal (entry ∷ one) two w = (w.0, first_well journal one two w.1)

-- all ends run in a sound world
abbrev pub Running : List Line → Claim
Running journal = Both (Both (SoundEnds journal) (SoundLinks journal)) AllRun

abbrev pub Ready : List Line → Claim
Ready journal = Both (Standing journal) (Running journal)

abbrev pub Well : List Line → Claim
Well journal log world = SaysWell journal log

module _ (journal : List Line) (nodes : IsOfNodes journal) where
  pub ready_kept : KeepsTurns journal Anything Anything (Ready journal)
  ready_kept = beside (standing_kept journal nodes) (by_calls journal (Running journal) (sound_runs_kept journal nodes.is))

  pub ready_fresh : Ready journal [] (world_new journal)
  ready_fresh = let st = fresh_standing journal nodes in (st, ((st.all.sound.ends, st.all.sound.links), fresh_runs journal))

  as_given : (log : List Entry) (world : World) → Both (Ready journal) (Well journal) log world → SaidGiven journal log world
  as_given log world b = record { standing = b.0.0; runs = b.0.1.1; well = b.1 }

  -- where sayings are well
  pub carried_kept : KeepsTurns journal (Well journal) (Well journal) (Both (Ready journal) (AllSay journal))
  carried_kept = given_with (weaker (λ log world w. tt) (λ log world w. tt) ready_kept) (weaker as_given as_given (said_kept journal nodes))

  pub all_carried : (front rest : List Line) → front ++ rest ≡ journal → (log : List Entry) (world : World) → log_from (world_new journal) front ≡ Ok (log, world) → SaysWell journal log → AllSay journal log world
  all_carried front rest whole log world is well = (all_turns journal nodes.is (λ log world. SaysWell journal log → Both (Ready journal) (AllSay journal) log world)
      (while_given (first_well journal) carried_kept) (λ w. (ready_fresh, fresh_say journal nodes)) front rest whole log world is well).1

-- in a journal of many nodes they are
pub many_carried : (bytes : List ℕ) (front rest : List Line) → front ++ rest ≡ journal_of many_nodes bytes → (log : List Entry) (world : World) → log_from (world_new (journal_of many_nodes bytes)) front ≡ Ok (log, world) → AllSay (journal_of many_nodes bytes) log world
many_carried bytes front rest whole log world is = all_carried (journal_of many_nodes bytes) (of_nodes bytes) front rest whole log world is
    (spelled_well (journal_of many_nodes bytes) log (front_well (journal_of many_nodes bytes) (many_in_order (raw_lines (take (longest_journal + 1) bytes))) (is_journal bytes) (bytes_have bytes) front rest whole log world is))
