-- Each line of a journal of many nodes sends well.
use Rattle.std.specs.Prelude.{◌≡◌, ℕ, ◌+◌, true, List, [], ◌∷◌, take}
use Rattle.std.specs.List.{AllByRecursion}
use Rattle.std.proofs.Common.{refl}
use Rattle.std.proofs.lemmas.Bool.{and_parts}
use Rattle.ch_model.specs.declared.line.Line.{Line}
use Rattle.ch_model.specs.declared.line.What.{What}
use Rattle.ch_model.specs.declared.line.What.TheVariants as lines
use Rattle.ch_model.specs.declared.name.TargetName.TheVariants as targets
use Rattle.ch_model.specs.Journal.{journal_of, raw_lines, longest_journal}
use Rattle.ch_model.specs.LinesBuilt.{many_nodes}
use Rattle.ch_model.specs.World.{names_of}
use Rattle.ch_model.specs.WorldState.{Named}
use Rattle.ch_laws_log.specs.Declared.{is_declared}
use Rattle.ch_laws_log.specs.Lines.{AllLines}
use Rattle.ch_laws_many.specs.ManyLines.{is_of_many}
use Rattle.ch_laws_many.proofs.Journals.{is_journal}
use Rattle.ch_laws_many.proofs.Reached.{IsJournal}
use Rattle.ch_laws_spelled.specs.Spelled.{SendsWell, AllWell}
use Rattle.ch_laws_spelled.proofs.ReadLines.{Has, AllHave, all_have}
use Rattle.ch_laws_spelled.proofs.NamesFit.{Fits, names_fit, is_spelled}

one_well : (known : List Named) → AllByRecursion Fits known → (what : What) → is_of_many known what ≡ true → Has what → SendsWell known what
one_well known all (lines.Send by (targets.Process to) mark body) of has =
    let declared = and_parts (is_declared known by.node) (is_declared known to.node) of in record {
      marked = has.0;
      from = is_spelled known by all declared.0 has.1;
      receiver = to;
      is = refl;
      goes = is_spelled known to all declared.1 has.2;
    }
one_well known all (lines.Send by to mark body) of has = absurd cc
one_well known all (lines.Nsend by to mark body) of has = absurd cc
one_well known all what of has = tt

rest_well : (known : List Named) → AllByRecursion Fits known → (rest : List Line) → AllLines (is_of_many known) rest → AllHave rest → AllByRecursion (λ (line : Line). SendsWell known line.what) rest
rest_well known all [] of have = tt
rest_well known all (line ∷ rest) of have = (one_well known all line.what of.0 have.0, rest_well known all rest of.1 have.1)

pub journal_well : (journal : List Line) → IsJournal journal → AllHave journal → AllWell journal
journal_well journal j have = rest_well (names_of journal) (names_fit journal have) journal j.lines have

-- what is read of any bytes
pub bytes_have : (bytes : List ℕ) → AllHave (journal_of many_nodes bytes)
bytes_have bytes = all_have (raw_lines (take (longest_journal + 1) bytes))

pub lines_well : (bytes : List ℕ) → AllWell (journal_of many_nodes bytes)
lines_well bytes = journal_well (journal_of many_nodes bytes) (is_journal bytes) (bytes_have bytes)
