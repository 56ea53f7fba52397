-- All that is promised of the log of each journal of many nodes, put together.
use Rattle.std.proofs.Common.{◌≡◌, ℕ, List, [], Ok, refl}
use Rattle.std.proofs.lemmas.List.{append-nil}
use Rattle.std.specs.Prelude.{IsTrue}
use Rattle.ch_model.specs.declared.entry.Entry.{Entry}
use Rattle.ch_model.specs.Accounts.{IsAccountedFor, IsBroughtAbout}
use Rattle.ch_model.specs.AccountsMessages.{IsCarried}
use Rattle.ch_model.specs.Delivery.{HasLawfulReceipts}
use Rattle.ch_model.specs.HasAnswers.{HasAnswers}
use Rattle.ch_model.specs.Journal.{journal_of}
use Rattle.ch_model.specs.Lawful.{IsPromised}
use Rattle.ch_model.specs.LinesBuilt.{many_nodes}
use Rattle.ch_model.specs.Logs.{each}
use Rattle.ch_model.specs.Mailboxes.{FollowsMailboxes, takes_the_first}
use Rattle.ch_model.specs.World.{log_of}
use Rattle.ch_model.specs.WorldState.{World}
use Rattle.ch_laws_peers.proofs.Logs.{of_nodes, fair}
use Rattle.ch_laws_messages.proofs.PayloadsPayloads.{true_payloads, brought_about}
use Rattle.ch_laws_messages.proofs.GotWhole.{lawful_receipts}
use Rattle.ch_laws_messages.specs.SendsSends.{FrontsStand}
use Rattle.ch_laws_messages.specs.MailGiven.{AtEachLine}
use Rattle.ch_laws_messages.proofs.AnswersJournals.{many_have_answers}
use Rattle.ch_laws_messages.proofs.AnswersSpellings.{said_well}
use Rattle.ch_laws_messages.proofs.PromisedSpelt.{front_spelt}
use Rattle.ch_laws_lives.specs.Logs.{AreAllowed}
use Rattle.ch_laws_messages.specs.PromisedSpelt.{IsSpelt}
use Rattle.ch_laws_messages.specs.PromisedStands.{Stands}
use Rattle.ch_laws_messages.proofs.PromisedFronts.{all_stand}
use Rattle.ch_laws_messages.proofs.PromisedRules.{allowed, lives, links, numbered, written, with_world}

fronts_stand : (bytes : List ℕ) → FrontsStand (journal_of many_nodes bytes)
fronts_stand bytes front rest whole log world is = let s = all_stand bytes front rest whole log world is in (s.standing, s.says, s.gives)

at_each_line : (bytes : List ℕ) → AtEachLine (journal_of many_nodes bytes)
at_each_line bytes front rest whole log world is = let s = all_stand bytes front rest whole log world is in record {
  given = record { sound = s.standing.all.sound; plain = s.standing.plain };
  kinds = s.standing.kinds;
  mail = s.mail;
}

-- what is so after all lines
after_all : (bytes : List ℕ) (log : List Entry) (P : List Entry → Type 0) → log_of (journal_of many_nodes bytes) ≡ Ok log → ((world : World) → Stands (journal_of many_nodes bytes) log world → P log) → P log
after_all bytes log P is give = with_world bytes log P is (λ world from. give world (all_stand bytes (journal_of many_nodes bytes) [] (append-nil (journal_of many_nodes bytes)) log world from))

-- the log after all lines is spelled and numbered
spelt : (bytes : List ℕ) (log : List Entry) → log_of (journal_of many_nodes bytes) ≡ Ok log → IsSpelt (journal_of many_nodes bytes) log
spelt bytes log is = with_world bytes log (IsSpelt (journal_of many_nodes bytes)) is (λ world from. front_spelt bytes (journal_of many_nodes bytes) [] (append-nil (journal_of many_nodes bytes)) log world from)

pub receipts : (bytes : List ℕ) (log : List Entry) → log_of (journal_of many_nodes bytes) ≡ Ok log → HasLawfulReceipts log
receipts bytes log is = received (spelt bytes log is) (allowed bytes log is) where
  received : IsSpelt (journal_of many_nodes bytes) log → AreAllowed [] log → HasLawfulReceipts log
  received well alive = after_all bytes log (λ l. l ≡ log → HasLawfulReceipts log) is (λ world s same. lawful_receipts (journal_of many_nodes bytes) log world s.standing.kinds (said_well (journal_of many_nodes bytes) log well.well well.numbered) alive s.got_well s.received) refl

pub answers : (bytes : List ℕ) (log : List Entry) → log_of (journal_of many_nodes bytes) ≡ Ok log → HasAnswers (journal_of many_nodes bytes) log
answers bytes log is = many_have_answers bytes (fronts_stand bytes) (at_each_line bytes) log is

pub mailboxes : (bytes : List ℕ) (log : List Entry) → log_of (journal_of many_nodes bytes) ≡ Ok log → FollowsMailboxes (journal_of many_nodes bytes) log
mailboxes bytes log is = record { from_mailboxes = after_all bytes log (λ log. IsTrue (each (takes_the_first (journal_of many_nodes bytes)) log)) is (λ world s. s.takes); from_ports = (fair bytes log is).from_ports }

-- what nodes bring about at each other: nothing
brought : (bytes : List ℕ) (log : List Entry) → log_of (journal_of many_nodes bytes) ≡ Ok log → IsBroughtAbout (journal_of many_nodes bytes) log
brought bytes log is = after_all bytes log (IsBroughtAbout (journal_of many_nodes bytes)) is (λ world s. brought_about (journal_of many_nodes bytes) (of_nodes bytes) log world s.standing s.says)

-- users' messages go by frames
carried : (bytes : List ℕ) (log : List Entry) → log_of (journal_of many_nodes bytes) ≡ Ok log → IsCarried (journal_of many_nodes bytes) log
carried bytes log is = after_all bytes log (IsCarried (journal_of many_nodes bytes)) is (λ world s. record {
  true_payloads = true_payloads (journal_of many_nodes bytes) (of_nodes bytes) log world s.standing s.says s.in_time s.opens;
  got_by_bytes = s.got_so.by_bytes;
  in_order_written = s.got_so.in_order;
})

pub accounted : (bytes : List ℕ) (log : List Entry) → log_of (journal_of many_nodes bytes) ≡ Ok log → IsAccountedFor (journal_of many_nodes bytes) log
accounted bytes log is = record { of_bytes = written bytes log is; of_messages = carried bytes log is; of_nodes = brought bytes log is }

pub promised : (bytes : List ℕ) (log : List Entry) → log_of (journal_of many_nodes bytes) ≡ Ok log → IsPromised (journal_of many_nodes bytes) log
promised bytes log is = let f = fair bytes log is in record {
  lawful = record {
    epochs = numbered bytes log is;
    receipts = receipts bytes log is;
    breaks = f.breaks;
    links = links bytes log is;
    life = lives bytes log is;
    notices = f.notices;
    references = f.references;
    names = f.names;
    mailboxes = mailboxes bytes log is;
  };
  answers = answers bytes log is;
  accounted_for = accounted bytes log is;
  one_live_socket = f.one_live_socket;
  bundle = f.bundle;
  whole = f.whole;
}
