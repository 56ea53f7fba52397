-- The log of each journal that the grammar of many nodes reads says what is spelled and numbered, after any first lines.
use Rattle.std.specs.Prelude.{◌≡◌, ℕ, ◌+◌, List, ◌++◌, take, Ok}
use Rattle.ch_model.specs.declared.entry.Entry.{Entry}
use Rattle.ch_model.specs.declared.line.Line.{Line}
use Rattle.ch_model.specs.Journal.{raw_lines, longest_journal, journal_of}
use Rattle.ch_model.specs.LinesBuilt.{many_nodes}
use Rattle.ch_model.specs.World.{world_new, log_from}
use Rattle.ch_model.specs.WorldState.{World}
use Rattle.ch_laws_lines.proofs.ManyNodes.{many_in_order}
use Rattle.ch_laws_many.proofs.Journals.{is_journal}
use Rattle.ch_laws_spelled.proofs.Follows.{front_follows, first_follows}
use Rattle.ch_laws_spelled.proofs.Fronts.{front_well}
use Rattle.ch_laws_spelled.proofs.LinesWell.{bytes_have}
use Rattle.ch_laws_spelled.proofs.Sayings.{first_well}
use Rattle.ch_laws_messages.specs.PromisedSpelt.{IsSpelt}

pub first_spelt : (journal : List Line) (one two : List Entry) → IsSpelt journal (one ++ two) → IsSpelt journal one
first_spelt journal one two s = record { well = first_well journal one two s.well; numbered = first_follows one two s.numbered }

pub front_spelt : (bytes : List ℕ) (front rest : List Line) → front ++ rest ≡ journal_of many_nodes bytes → (log : List Entry) (world : World) → log_from (world_new (journal_of many_nodes bytes)) front ≡ Ok (log, world) → IsSpelt (journal_of many_nodes bytes) log
front_spelt bytes front rest cut log world is =
    let journal = journal_of many_nodes bytes in
    let ordered = many_in_order (raw_lines (take (longest_journal + 1) bytes)) in
    record {
      well = front_well journal ordered (is_journal bytes) (bytes_have bytes) front rest cut log world is;
      numbered = front_follows journal ordered (is_journal bytes) front rest cut log world is;
    }
