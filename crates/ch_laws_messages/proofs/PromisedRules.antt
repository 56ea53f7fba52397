-- What is so of the log of each journal of many nodes, whatever is said: links, lives, epochs, what is written and what is fed.
use Rattle.std.proofs.Common.{◌≡◌, ℕ, ◌+◌, List, [], Ok, Err, refl, ap, ◌∙◌}
use Rattle.std.specs.Prelude.{take}
use Rattle.ch_model.specs.declared.entry.Entry.{Entry}
use Rattle.ch_model.specs.AccountsBytes.{IsWrittenAndFed}
use Rattle.ch_model.specs.Epochs.{FollowsEpochs}
use Rattle.ch_model.specs.Journal.{journal_of, raw_lines, longest_journal}
use Rattle.ch_model.specs.LifeRules.{FollowsLife}
use Rattle.ch_model.specs.LinesBuilt.{many_nodes}
use Rattle.ch_model.specs.Links.{FollowsLinkDiscipline}
use Rattle.ch_model.specs.Settle.{Happened}
use Rattle.ch_model.specs.World.{◌>>=◌, names_of, world_new, log_from, log_of}
use Rattle.ch_model.specs.WorldState.{World}
use Rattle.ch_laws_accounts.proofs.ReadAddresses.{all_addresses}
use Rattle.ch_laws_accounts.proofs.Written.{writes_and_feeds}
use Rattle.ch_laws_epochs.proofs.Worlds.{follows}
use Rattle.ch_laws_links.proofs.Journals.{rises_once_in, falls_from_up_in, leaves_unrisen_in, rests_in}
use Rattle.ch_laws_ids.proofs.Logs.{fit_in}
use Rattle.ch_laws_lives.specs.Logs.{AreAllowed}
use Rattle.ch_laws_lives.proofs.LogLives.{AreSimple, all_numbered, all_once, all_rest}
use Rattle.ch_laws_lives.proofs.Simple.{all_simple}
use Rattle.ch_laws_lives.proofs.WorldLives.{all_allowed}
use Rattle.ch_laws_many.specs.ManyLines.{AreNamedApart}
use Rattle.ch_laws_many.proofs.Declared.{names_apart}
use Rattle.ch_laws_many.proofs.FeedsAndDials.{feeds_and_dials}
use Rattle.ch_laws_many.proofs.InOrder.{in_order}
use Rattle.ch_laws_many.proofs.Journals.{is_journal}
use Rattle.ch_laws_risen.proofs.Kept.{read_requests, read_answers, accepted_next, target_first}
use Rattle.ch_laws_endings.proofs.LogEnds.{log_caused}
use Rattle.ch_laws_peers.proofs.Logs.{fair}

apart : (bytes : List ℕ) → AreNamedApart (names_of (journal_of many_nodes bytes))
apart bytes = names_apart (raw_lines (take (longest_journal + 1) bytes))

pub allowed : (bytes : List ℕ) (log : List Entry) → log_of (journal_of many_nodes bytes) ≡ Ok log → AreAllowed [] log
allowed bytes log is = all_allowed (journal_of many_nodes bytes) (apart bytes) (is_journal bytes).lines log is

simple : (bytes : List ℕ) (log : List Entry) → log_of (journal_of many_nodes bytes) ≡ Ok log → AreSimple log
simple bytes log is = all_simple (names_of (journal_of many_nodes bytes)) (journal_of many_nodes bytes) (is_journal bytes).lines [] log (in_order (journal_of many_nodes bytes) (is_journal bytes) log is).in_place

pub numbered : (bytes : List ℕ) (log : List Entry) → log_of (journal_of many_nodes bytes) ≡ Ok log → FollowsEpochs log
numbered bytes log is = follows (journal_of many_nodes bytes) (is_journal bytes) log is

-- what is written and fed
pub written : (bytes : List ℕ) (log : List Entry) → log_of (journal_of many_nodes bytes) ≡ Ok log → IsWrittenAndFed (journal_of many_nodes bytes) log
written bytes log is = let first = writes_and_feeds (journal_of many_nodes bytes) (is_journal bytes) (apart bytes) (all_addresses (raw_lines (take (longest_journal + 1) bytes))) log is in record {
  items = first.items;
  requests = first.requests;
  after_accepting = first.after_accepting;
  ids = fit_in (journal_of many_nodes bytes) (is_journal bytes) log is;
  unread_alone = first.unread_alone;
  true_ends = first.true_ends;
  read_requests = read_requests (journal_of many_nodes bytes) (is_journal bytes) log is;
  read_answers = read_answers (journal_of many_nodes bytes) (is_journal bytes) log is;
  accepted_next = accepted_next (journal_of many_nodes bytes) (is_journal bytes) log is;
}

-- lives
pub lives : (bytes : List ℕ) (log : List Entry) → log_of (journal_of many_nodes bytes) ≡ Ok log → FollowsLife (journal_of many_nodes bytes) log
lives bytes log is = let f = fair bytes log is in record {
  numbered = all_numbered log (allowed bytes log is) (simple bytes log is);
  dooms_live = f.dooms_live;
  dooms_caused = f.dooms_caused;
  over_once = all_once log (allowed bytes log is) (simple bytes log is);
  ends_caused = log_caused (journal_of many_nodes bytes) (is_journal bytes) log is;
  dead_rest = all_rest log (allowed bytes log is) (simple bytes log is);
}

-- links, with the world after all lines
links_with : (bytes : List ℕ) (log : List Entry) (world : World) → log_of (journal_of many_nodes bytes) ≡ Ok log → log_from (world_new (journal_of many_nodes bytes)) (journal_of many_nodes bytes) ≡ Ok (log, world) → FollowsLinkDiscipline log
links_with bytes log world is from = let f = fair bytes log is in record {
  up_once = rises_once_in (journal_of many_nodes bytes) (journal_of many_nodes bytes) log world from;
  down_from_up = falls_from_up_in (journal_of many_nodes bytes) (journal_of many_nodes bytes) log world from;
  left_unrisen = leaves_unrisen_in (journal_of many_nodes bytes) (journal_of many_nodes bytes) log world from;
  closed_rests = rests_in (journal_of many_nodes bytes) (journal_of many_nodes bytes) log world from;
  up_alone = f.up_alone;
  target_first = target_first (journal_of many_nodes bytes) (is_journal bytes) (all_addresses (raw_lines (take (longest_journal + 1) bytes))) log is;
  dial_while_down = f.dial_while_down;
  dial_once = f.dial_once;
  dial_in_order = (feeds_and_dials (journal_of many_nodes bytes) (is_journal bytes) log is).dials_ordered;
}

-- whatever the log and the world after all lines give
pub with_world : (bytes : List ℕ) (log : List Entry) (P : List Entry → Type 0) → log_of (journal_of many_nodes bytes) ≡ Ok log → ((world : World) → log_from (world_new (journal_of many_nodes bytes)) (journal_of many_nodes bytes) ≡ Ok (log, world) → P log) → P log
with_world bytes log P is give = by_log (log_from (world_new (journal_of many_nodes bytes)) (journal_of many_nodes bytes)) refl is where
  by_log : (done : Happened) → log_from (world_new (journal_of many_nodes bytes)) (journal_of many_nodes bytes) ≡ done → (done >>= λ done. Ok done.0) ≡ Ok log → P log
  by_log (Ok done) e f = let same : done.0 ≡ log = cc in give done.1 (e ∙ ap (λ (l : List Entry). Ok (l, done.1)) same)
  by_log (Err stop) e f = absurd cc

pub links : (bytes : List ℕ) (log : List Entry) → log_of (journal_of many_nodes bytes) ≡ Ok log → FollowsLinkDiscipline log
links bytes log is = with_world bytes log FollowsLinkDiscipline is (λ world from. links_with bytes log world is from)
