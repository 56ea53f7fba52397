-- What the whole model's world tells of what a node did, where the world is that of one node.
use Rattle.std.specs.Prelude.{◌≡◌, ℕ, true, List, [], ◌∷◌, map, cond, Option, Some, None, Result, Ok, Err, if◌then◌else◌}
use Rattle.std.proofs.Common.{refl, ap, ◌∙◌}
use Rattle.std.proofs.lemmas.List.{append-nil}
use Rattle.ch_base.specs.declared.memory.Stop.{Stop}
use Rattle.ch_ident.specs.declared.message.Message.{Message}
use Rattle.ch_ident.specs.declared.reason.Reason.{Reason}
use Rattle.ch_mail.specs.Process.{Process}
use Rattle.ch_static.specs.declared.target.Target.TheVariants as targets
use Rattle.ch_model.specs.declared.name.ProcName.{ProcName}
use Rattle.ch_model.specs.declared.name.TargetName.TheVariants as names
use Rattle.ch_model.specs.declared.entry.Entry.{Entry}
use Rattle.ch_model.specs.declared.entry.Entry.TheVariants as entries
use Rattle.ch_model.specs.declared.entry.Verdict.TheVariants as verdicts
use Rattle.ch_model.specs.declared.note.Note.{Note as WholeNote}
use Rattle.ch_model.specs.declared.note.Note.TheVariants as notes
use Rattle.ch_model.specs.declared.act.Act.{Act}
use Rattle.ch_model.specs.declared.act.Act.TheVariants as acts
use Rattle.ch_model.specs.declared.local.LocalEntry.{LocalEntry}
use Rattle.ch_model.specs.declared.local.LocalEntry.TheVariants as local
use Rattle.ch_model.specs.declared.step.Place.{Place}
use Rattle.ch_model.specs.NodeActs.{Answered as NodeAnswered}
use Rattle.ch_model.specs.CellSteps.{◌then◌, after_entries, acts_on, all_items}
use Rattle.ch_model.specs.Cell.{answered as cell_answered, node_did}
use Rattle.ch_model.specs.WorldState.{Cell, World as WholeWorld}
use Rattle.ch_model.specs.Naming.{or_nobody, called, process_called}
use Rattle.ch_model.specs.WorldSteps.{all_told}
use Rattle.ch_model.specs.WorldHappenings.{cell_told}
use Rattle.ch_model.specs.Settle.{Happened}
use Rattle.ch_model.specs.World.{line_answered}
use Rattle.ch_one_node.specs.declared.note.Note.{Note}
use Rattle.ch_one_node.specs.States.{NodeState, World}
use Rattle.ch_one_node.specs.World.{answered, entries_of}
use Rattle.ch_laws_one_node.proofs.Appending.{at, equal_numbers}
use Rattle.ch_laws_one_node.proofs.Calls.{Done}
use Rattle.ch_laws_one_node.proofs.Embedded.{id_in, node_in, cell_in, names_in, world_in, same_own}

-- ---- the same entries, and the same world

-- a line did this in the whole model's world
pub record Moves (w : World) (done : List Entry × World) (happened : Happened) : Type 0 where
  pub name : done.1.name ≡ w.name
  pub args : List (List ℕ)
  pub last : Option Place
  pub is : happened ≡ Ok (done.0, world_in done.1 args last)

-- what happened is what the model of one node gives
abbrev pub StepsAs : World → Result (List Entry × World) Stop → Happened → Type 0
StepsAs w (Ok done) happened = Moves w done happened
StepsAs w (Err stop) happened = happened ≡ Err stop

-- what the world tells of a line, by what the node made of it
abbrev pub told_of : World → List (List ℕ) → Option Place → ℕ → NodeAnswered → Happened
told_of w args last number given = line_answered number (cell_told 0 (cell_in w.node args, 0) (world_in w args last) (node_did w.node.own.id (cell_in w.node args) given))

-- the two nodes make the same of a line
abbrev pub Same : World → List (List ℕ) → Option Place → ℕ → Done → NodeAnswered → Type 0
Same w args last number done given = StepsAs w (answered w number done) (told_of w args last number given)

-- ---- what a node did by its notes alone

abbrev pub noted_acts : List WholeNote → List Act
noted_acts list = map (λ note. acts.Note note) list

abbrev pub noted_entries : List WholeNote → List LocalEntry
noted_entries list = map (λ note. local.Note note) list

notes_done : (end : ℕ) (list : List WholeNote) (cell : Cell) → acts_on end (noted_acts list) cell ≡ Ok (noted_entries list, cell)
notes_done end [] cell = refl
notes_done end (note ∷ rest) cell = ap (λ r. after_entries (local.Note note ∷ []) r) (notes_done end rest cell)

-- the node with this mail and these pairs
abbrev pub left : NodeState → List Process → List ((ℕ × ℕ) × ℕ) → NodeState
left node mail pairs = record node { mail = mail; pairs = pairs }

did_is : (w : World) (args given : List (List ℕ)) (mail : List Process) (pairs : List ((ℕ × ℕ) × ℕ)) (list : List WholeNote) → node_did w.node.own.id (cell_in w.node args) (Ok (noted_acts list, node_in (left w.node mail pairs) given)) ≡ Ok ((verdicts.Ok, noted_entries list), cell_in (left w.node mail pairs) given)
did_is w args given mail pairs list =
    ap (λ b. cell_answered verdicts.Ok (acts_on w.node.own.id (noted_acts list) (record (cell_in w.node args) { nodes = if b then (w.node.own.id, node_in (left w.node mail pairs) given) ∷ [] else (w.node.own.id, node_in w.node args) ∷ [] }) then all_items)) (equal_numbers w.node.own.id)
    ∙ ap (λ r. cell_answered verdicts.Ok (r then all_items)) (notes_done w.node.own.id list (cell_in (left w.node mail pairs) given))
    ∙ ap (λ l. Ok ((verdicts.Ok, l), cell_in (left w.node mail pairs) given)) (append-nil (noted_entries list))

-- the world after the node has this mail and these pairs
abbrev pub world_left : World → List Process → List ((ℕ × ℕ) × ℕ) → World
world_left w mail pairs = record w { node = left w.node mail pairs }

-- what the world tells of notes
abbrev pub telling : World → List (List ℕ) → Option Place → List WholeNote → List Entry × WholeWorld
telling w args last list = all_told 0 (cell_in w.node args) (noted_entries list) (world_in w args last)

pub performed : (w : World) (args given : List (List ℕ)) (last after : Option Place) (number : ℕ) (mail : List Process) (pairs : List ((ℕ × ℕ) × ℕ)) (small : List Note) (list : List WholeNote) → telling (world_left w mail pairs) given last list ≡ (entries_of w small, world_in (world_left w mail pairs) given after) → Same w args last number (Ok (small, left w.node mail pairs)) (Ok (noted_acts list, node_in (left w.node mail pairs) given))
performed w args given last after number mail pairs small list told = record {
  name = refl;
  args = given;
  last = after;
  is = ap (λ c. line_answered number (cell_told 0 (cell_in w.node args, 0) (world_in w args last) c)) (did_is w args given mail pairs list)
      ∙ ap (λ (t : List Entry × WholeWorld). Ok (entries.Line number verdicts.Ok ∷ t.0, t.1)) told;
}

-- ---- the entries of notes

called_is : (w : World) → called (names_in w) w.node.own ≡ w.name
called_is w = ap (λ b. (or_nobody (cond b (Some (record { name = w.name; address = w.node.own; unique = w.node.unique; is_node = true })) None)).name) (same_own w.node.own)

process_is : (w : World) (i : ℕ) → process_called (names_in w) (id_in w.node.own w.node.unique i) ≡ at w.name i
process_is w i = ap (λ n. at n i) (called_is w)

pub told_made : (w : World) (args : List (List ℕ)) (last : Option Place) (i : ℕ) → telling w args last (notes.Made (id_in w.node.own w.node.unique i) None ∷ []) ≡ (entries.Made (at w.name i) None None ∷ [], world_in w args last)
told_made w args last i = ap (λ p. (entries.Made p None None ∷ [], world_in w args last)) (process_is w i)

pub told_over : (w : World) (args : List (List ℕ)) (last : Option Place) (i : ℕ) (reason : Reason) → telling w args last (notes.Over (id_in w.node.own w.node.unique i) reason ∷ []) ≡ (entries.Over (at w.name i) reason ∷ [], world_in w args last)
told_over w args last i reason = ap (λ p. (entries.Over p reason ∷ [], world_in w args last)) (process_is w i)

pub told_took : (w : World) (args : List (List ℕ)) (last : Option Place) (i : ℕ) (m : Message) → telling w args last (notes.Took (id_in w.node.own w.node.unique i) None m ∷ []) ≡ (entries.Took (at w.name i) None m.mark m.body ∷ [], world_in w args last)
told_took w args last i m = ap (λ p. (entries.Took p None m.mark m.body ∷ [], world_in w args last)) (process_is w i)

-- the place of a message of a pair's first epoch
abbrev pub place_at : ℕ → Option Place
place_at index = Some (record { epoch = 0; index = index })

pub told_said : (w : World) (args : List (List ℕ)) (last : Option Place) (i j k : ℕ) (m : Message) → telling w args last (notes.Said (id_in w.node.own w.node.unique i) (targets.Process (id_in w.node.own w.node.unique j)) 0 k m ∷ []) ≡ (entries.Said (at w.name i) (names.Process (at w.name j)) 0 k m.mark m.body ∷ [], world_in w args (place_at k))
told_said w args last i j k m =
    ap (λ p. (entries.Said p (names.Process (process_called (names_in w) (id_in w.node.own w.node.unique j))) 0 k m.mark m.body ∷ [], world_in w args (place_at k))) (process_is w i)
    ∙ ap (λ p. (entries.Said (at w.name i) (names.Process p) 0 k m.mark m.body ∷ [], world_in w args (place_at k))) (process_is w j)

pub told_got : (w : World) (args : List (List ℕ)) (last : Option Place) (i j k : ℕ) (m : Message) → telling w args last (notes.Said (id_in w.node.own w.node.unique i) (targets.Process (id_in w.node.own w.node.unique j)) 0 k m ∷ notes.Got (id_in w.node.own w.node.unique i) (targets.Process (id_in w.node.own w.node.unique j)) (Some (id_in w.node.own w.node.unique j)) ∷ []) ≡ (entries.Said (at w.name i) (names.Process (at w.name j)) 0 k m.mark m.body ∷ entries.Got (at w.name i) (names.Process (at w.name j)) 0 k (Some (at w.name j)) ∷ [], world_in w args (place_at k))
told_got w args last i j k m = ap (λ p. both p (process_called (names_in w) (id_in w.node.own w.node.unique j))) (process_is w i) ∙ ap (λ p. both (at w.name i) p) (process_is w j) where
  both : ProcName → ProcName → List Entry × WholeWorld
  both p q = (entries.Said p (names.Process q) 0 k m.mark m.body ∷ entries.Got p (names.Process q) 0 k (Some q) ∷ [], world_in w args (place_at k))
