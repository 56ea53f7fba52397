-- The journals that the grammar of many nodes reads: their logs have all that is asked of answers.
use Rattle.std.specs.Prelude.{◌≡◌, ℕ, ◌+◌, List, ◌++◌, take, Ok}
use Rattle.ch_model.specs.declared.entry.Entry.{Entry}
use Rattle.ch_model.specs.declared.line.Line.{Line}
use Rattle.ch_model.specs.HasAnswers.{HasAnswers}
use Rattle.ch_model.specs.Journal.{raw_lines, longest_journal, journal_of}
use Rattle.ch_model.specs.LinesBuilt.{many_nodes}
use Rattle.ch_model.specs.World.{world_new, log_from, log_of}
use Rattle.ch_model.specs.WorldState.{World}
use Rattle.ch_laws_lines.proofs.ManyNodes.{many_in_order}
use Rattle.ch_laws_many.proofs.Declared.{names_apart}
use Rattle.ch_laws_many.proofs.InOrder.{in_order}
use Rattle.ch_laws_many.proofs.Journals.{is_journal}
use Rattle.ch_laws_spelled.proofs.Fronts.{front_well}
use Rattle.ch_laws_spelled.proofs.Follows.{front_follows}
use Rattle.ch_laws_spelled.proofs.LinesWell.{bytes_have}
use Rattle.ch_laws_acting.proofs.Lines.{all_answered}
use Rattle.ch_laws_messages.specs.GotSaidWell.{SaidWell}
use Rattle.ch_laws_messages.specs.SaidGoes.{SaysWell as AreOfIds}
use Rattle.ch_laws_messages.specs.MailGiven.{AtEachLine}
use Rattle.ch_laws_messages.proofs.MailFronts.{takes_answered}
use Rattle.ch_laws_messages.specs.SendsSends.{SaysSmall, FrontsStand}
use Rattle.ch_laws_messages.proofs.SendsJournals.{many_answered}
use Rattle.ch_laws_messages.proofs.AnswersSpellings.{says_small, said_well, says_well}
use Rattle.ch_laws_messages.proofs.AnswersWhole.{has_answers}

pub many_have_answers : (bytes : List ℕ) → FrontsStand (journal_of many_nodes bytes) → AtEachLine (journal_of many_nodes bytes) → (log : List Entry) → log_of (journal_of many_nodes bytes) ≡ Ok log → HasAnswers (journal_of many_nodes bytes) log
many_have_answers bytes fronts lines log is =
    let journal = journal_of many_nodes bytes in
    let j = is_journal bytes in
    let apart = names_apart (raw_lines (take (longest_journal + 1) bytes)) in
    has_answers journal j log (in_order journal j log is) (all_answered journal j apart log is) (takes_answered journal j apart lines log is) (many_answered bytes fronts log is)

-- messages are spelled alike, after any first lines
pub fronts_alike : (bytes : List ℕ) (front rest : List Line) → front ++ rest ≡ journal_of many_nodes bytes → (log : List Entry) (world : World) → log_from (world_new (journal_of many_nodes bytes)) front ≡ Ok (log, world) → SaysSmall log × SaidWell (journal_of many_nodes bytes) log × AreOfIds (journal_of many_nodes bytes) log
fronts_alike bytes front rest cut log world is =
    let journal = journal_of many_nodes bytes in
    let ordered = many_in_order (raw_lines (take (longest_journal + 1) bytes)) in
    let well = front_well journal ordered (is_journal bytes) (bytes_have bytes) front rest cut log world is in
    (says_small journal log well, said_well journal log well (front_follows journal ordered (is_journal bytes) front rest cut log world is), says_well journal log well)
