use Rattle.std.specs.Prelude.{◌≡◌, ℕ, take, ◌+◌, List, [], Ok}
use Rattle.ch_model.specs.declared.entry.Entry.{Entry}
use Rattle.ch_model.specs.Journal.{journal_of, raw_lines, longest_journal}
use Rattle.ch_model.specs.LinesBuilt.{many_nodes}
use Rattle.ch_model.specs.World.{names_of, log_of}
use Rattle.ch_laws_many.proofs.Declared.{names_apart}
use Rattle.ch_laws_many.proofs.InOrder.{in_order}
use Rattle.ch_laws_many.proofs.Journals.{is_journal}
use Rattle.ch_laws_lives.specs.Logs.{AreAllowed}
use Rattle.ch_laws_lives.proofs.LogLives.{AreSimple, all_numbered, all_once, all_rest}
use Rattle.ch_laws_lives.proofs.Simple.{all_simple}
use Rattle.ch_laws_lives.proofs.WorldLives.{all_allowed}
use Rattle.ch_laws_lives.proofs.log_tells_lives.Goals as goal

allowed : (bytes : List ℕ) (log : List Entry) → log_of (journal_of many_nodes bytes) ≡ Ok log → AreAllowed [] log
allowed bytes log is = all_allowed (journal_of many_nodes bytes) (names_apart (raw_lines (take (longest_journal + 1) bytes))) (is_journal bytes).lines log is

simple : (bytes : List ℕ) (log : List Entry) → log_of (journal_of many_nodes bytes) ≡ Ok log → AreSimple log
simple bytes log is = all_simple (names_of (journal_of many_nodes bytes)) (journal_of many_nodes bytes) (is_journal bytes).lines [] log (in_order (journal_of many_nodes bytes) (is_journal bytes) log is).in_place

pub returns-clause-allowed : goal.returns-clause-allowed
returns-clause-allowed c = allowed

pub returns-clause-numbered : goal.returns-clause-numbered
returns-clause-numbered c = λ bytes log is. all_numbered log (allowed bytes log is) (simple bytes log is)

pub returns-clause-over_once : goal.returns-clause-over_once
returns-clause-over_once c = λ bytes log is. all_once log (allowed bytes log is) (simple bytes log is)

pub returns-clause-dead_rest : goal.returns-clause-dead_rest
returns-clause-dead_rest c = λ bytes log is. all_rest log (allowed bytes log is) (simple bytes log is)
