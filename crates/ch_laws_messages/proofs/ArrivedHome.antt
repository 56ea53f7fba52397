-- What a node makes or is asked to do gets messages within the node alone.
use Rattle.std.proofs.Common.{◌≡◌, ℕ, false, List, [], ◌∷◌, ◌++◌, Ok, sym, ap, ◌∙◌, subst}
use Rattle.std.specs.Prelude.{Option}
use Rattle.ch_static.specs.declared.target.Target.{Target}
use Rattle.ch_model.specs.declared.act.Act.{Act}
use Rattle.ch_model.specs.declared.entry.Entry.{Entry}
use Rattle.ch_model.specs.declared.entry.Entry.TheVariants as entries
use Rattle.ch_model.specs.declared.local.LocalEntry.{LocalEntry}
use Rattle.ch_model.specs.declared.local.LocalEntry.TheVariants as local
use Rattle.ch_model.specs.declared.note.Note.{Note}
use Rattle.ch_model.specs.declared.note.Note.TheVariants as notes
use Rattle.ch_model.specs.declared.step.Place.{Place}
use Rattle.ch_model.specs.CellSteps.{acts_on}
use Rattle.ch_model.specs.Naming.{Names, called, target_called}
use Rattle.ch_model.specs.Same.{node_of}
use Rattle.ch_model.specs.WorldState.{Cell, World}
use Rattle.ch_model.specs.WorldSteps.{note_entry, noted, stepped, all_told}
use Rattle.ch_laws_messages.proofs.GotAsked.{IsHome, AreHome, ToldHome, AllHome, acts_home}
use Rattle.ch_laws_messages.proofs.GotTold.{is_receipt, NoGots, step_tells}

-- ---- its entries

-- what the entry gets, if anything, is within a node
abbrev pub GetsWithin : Entry → Type 0
GetsWithin (entries.Got by to epoch index receiver) = by.node ≡ node_of to
GetsWithin entry = Unit {0}

abbrev pub AllWithin : List Entry → Type 0
AllWithin [] = Unit {0}
AllWithin (entry ∷ rest) = GetsWithin entry × AllWithin rest

within_both : (one two : List Entry) → AllWithin one → AllWithin two → AllWithin (one ++ two)
within_both [] two h i = i
within_both (x ∷ one) two h i = (h.0, within_both one two h.1 i)

-- so it is where nothing is got
pub none_within_gots : (log : List Entry) → NoGots log → AllWithin log
none_within_gots [] n = tt
none_within_gots (x ∷ log) n = (one x n.0, none_within_gots log n.1) where
  one : (x : Entry) → is_receipt x ≡ false → GetsWithin x
  one (entries.Got by to epoch index receiver) h = absurd cc
  one x h = tt

note_within : (known : Names) (last : Option Place) (note : Note) → IsHome note → GetsWithin (note_entry known last note)
note_within known last (notes.Got from to receiver) h = ap (called known) h.2 ∙ sym (ap (λ (t : Target). node_of (target_called known t)) h.1)
note_within known last (notes.Made process origin) h = tt
note_within known last note h = tt

told_within : (place : ℕ) (cell : Cell) (told : List LocalEntry) (world : World) → ToldHome told → AllWithin (all_told place cell told world).0
told_within place cell [] world h = tt
told_within place cell (local.Note note ∷ rest) world h = (note_within world.names world.last note h.0, told_within place cell rest (noted note world).1 h.1)
told_within place cell (local.Step step ∷ rest) world h = within_both (stepped place cell step world).0 (all_told place cell rest (stepped place cell step world).1).0 (none_within_gots (stepped place cell step world).0 (step_tells place cell step world)) (told_within place cell rest (stepped place cell step world).1 h)

-- so it is of what acts tell
pub acts_within : (place end : ℕ) (done : List Act) (cell : Cell) (told : List LocalEntry) (after at : Cell) (world : World) → AreHome done → acts_on end done cell ≡ Ok (told, after) → AllWithin (all_told place at told world).0
acts_within place end done cell told after at world h e = told_within place at told world (subst AllHome e (acts_home end done cell h))
