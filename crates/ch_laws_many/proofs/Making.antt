-- A line that makes a process is done: its node is there, and isn't shut.
use Rattle.std.proofs.Common.{◌≡◌, ◌<◌, ℕ, Bool, true, false, cond, ◌||◌, length, List, [], ◌∷◌, Ok, Err, refl, sym, ap, ◌∙◌, subst}
use Rattle.std.proofs.lemmas.List.Quantifiers.{position-Some}
use Rattle.std.specs.List.{list_any}
use Rattle.std.specs.Option.{option_map}
use Rattle.std.specs.Prelude.{find, is_some, slice_get, position, Option, Some, None}
use Rattle.ch_base.specs.declared.address.Address.{Address}
use Rattle.ch_base.specs.declared.memory.Stop.TheVariants as stops
use Rattle.ch_model.specs.declared.command.CommandError.TheVariants as errors
use Rattle.ch_model.specs.declared.entry.Entry.{Entry}
use Rattle.ch_model.specs.declared.entry.Entry.TheVariants as entries
use Rattle.ch_model.specs.declared.entry.Verdict.TheVariants as verdicts
use Rattle.ch_model.specs.declared.line.Line.{Line}
use Rattle.ch_model.specs.declared.line.What.TheVariants as lines
use Rattle.ch_model.specs.declared.local.LocalEvent.TheVariants as events
use Rattle.ch_model.specs.Cell.{Celled, answered, refused, node_did, cell_step}
use Rattle.ch_model.specs.CellSteps.{Followed, ◌then◌, is_at, with_node, acts_on, all_items}
use Rattle.ch_model.specs.Life.{shuts, is_shut}
use Rattle.ch_model.specs.Naming.{Names, is_named, or_nobody, address_as}
use Rattle.ch_model.specs.Node.{node_make}
use Rattle.ch_model.specs.NodeActs.{Done, stopping}
use Rattle.ch_model.specs.NodeLives.{make}
use Rattle.ch_model.specs.NodeState.{NodeState}
use Rattle.ch_model.specs.World.{names_of, world_new}
use Rattle.ch_model.specs.WorldHappenings.{Answered, cell_told, cell_hears}
use Rattle.ch_model.specs.WorldLines.{line_done}
use Rattle.ch_model.specs.WorldSockets.{is_host_of, cell_of}
use Rattle.ch_model.specs.WorldState.{Cell, Named, World}
use Rattle.ch_laws_world.proofs.Journals.{address_stays}
use Rattle.ch_laws_log.specs.Declared.{is_declared}
use Rattle.ch_laws_log.proofs.Agreeing.{some_within}
use Rattle.ch_laws_log.proofs.OwnEntries.{IsDone}
use Rattle.ch_laws_many.proofs.Addresses.{AllHomed}
use Rattle.ch_laws_many.proofs.Awake.{AwakeAt, awake_still, fresh_awake}
use Rattle.ch_laws_many.proofs.Following.{is_shutting}
use Rattle.ch_laws_many.proofs.Reached.{IsJournal, Reached, AreOpen, named}

-- the log shows no node shut
pub none_shut : (node : List ℕ) (log : List Entry) → AreOpen log → is_shut log node ≡ false
none_shut node [] o = refl
none_shut node (x ∷ log) o = ap (λ b. b || list_any (shuts node) log) (not_shut x o.0) ∙ none_shut node log o.1 where
  not_shut : (y : Entry) → is_shutting y ≡ false → shuts node y ≡ false
  not_shut (entries.Shut other) e = absurd cc
  not_shut y e = refl

placed_within : {X : Type 0} (p : X → Bool) (xs : List X) (i : ℕ) → position p xs ≡ Some i → i < length xs
placed_within p [] i e = absurd cc
placed_within p (x ∷ xs) i e = (position-Some p (x ∷ xs) i x e).0

abbrev CelledDone : Celled → Type 0
CelledDone (Ok done) = done.0.0 ≡ verdicts.Ok
CelledDone (Err stop) = Unit {0}

made_done : (end : ℕ) (cell : Cell) (node : NodeState) → node.is_shut ≡ false → CelledDone (node_did end cell (node_make node))
unfolding node_make
made_done end cell node awake = by_test node.is_shut awake where
  followed : (done : Followed) → CelledDone (answered verdicts.Ok done)
  followed (Ok done) = refl
  followed (Err stop) = tt

  by_made : (done : Done) → CelledDone (node_did end cell (stopping done))
  by_made (Ok done) = followed (acts_on end done.0 (with_node end done.1 cell) then all_items)
  by_made (Err stops.OutOfMemory) = tt
  by_made (Err stops.Worn) = tt

  by_test : (b : Bool) → b ≡ false → CelledDone (node_did end cell (cond b (Err errors.Dead) (stopping (make node None []))))
  by_test true e = absurd cc
  by_test false e = by_made (make node None [])

there_done : (end : ℕ) (cell : Cell) → option_map (λ (n : ℕ × NodeState). n.1.is_shut) (find (is_at end) cell.nodes) ≡ Some false → CelledDone (cell_step cell (events.Make end))
there_done end cell there = by_node (find (is_at end) cell.nodes) there where
  by_node : (o : Option (ℕ × NodeState)) → option_map (λ (n : ℕ × NodeState). n.1.is_shut) o ≡ Some false → CelledDone (elim o as (λ o. Celled) [
    | None ↦ refused verdicts.Nothing cell
    | Some node ↦ node_did end cell (node_make node.1)
  ])
  by_node None e = absurd cc
  by_node (Some node) e = let awake : node.1.is_shut ≡ false = cc in made_done end cell node.1 awake

pub makes_done : (journal : List Line) → IsJournal journal → (log : List Entry) (world : World) (node : List ℕ) → is_declared (names_of journal) node ≡ true → Reached journal log world → IsDone (line_done (lines.Proc node) world)
makes_done journal j log world node declared r = subst (λ (ns : Names). IsDone (hears (address_as ns node))) (sym r.set.names) (by_named (find (is_named node) (names_of journal)) refl declared) where
  hears : Address → Answered
  hears own = elim (cell_of world own) as (λ o. Answered) [
    | None ↦ Ok ((verdicts.Nothing, []), world)
    | Some place ↦ cell_hears place (events.Make own.id) world
  ]

  told_done : (place : ℕ) (cell : Cell × ℕ) (done : Celled) → CelledDone done → IsDone (cell_told place cell world done)
  told_done place cell (Ok done) e = e
  told_done place cell (Err stop) e = tt

  homed : (ns : List Named) (d : Named) → AllHomed world ns → find (is_named node) ns ≡ Some d → is_some (cell_of world d.address) ≡ true
  homed [] d h e = absurd cc
  homed (n ∷ rest) d h e = by_one (is_named node n) e (homed rest d h.1) where
    by_one : (b : Bool) → cond b (Some n) (find (is_named node) rest) ≡ Some d → (find (is_named node) rest ≡ Some d → is_some (cell_of world d.address) ≡ true) → is_some (cell_of world d.address) ≡ true
    by_one true e more = let this : n ≡ d = cc in subst (λ (m : Named). is_some (cell_of world m.address) ≡ true) this h.0
    by_one false e more = more e

  by_cell : (place end : ℕ) → AwakeAt world.cells place end → (o : Option (Cell × ℕ)) → slice_get world.cells place ≡ o → is_some o ≡ true → IsDone (elim o as (λ o. Answered) [
    | None ↦ Ok ((verdicts.Nothing, []), world)
    | Some cell ↦ cell_told place cell world (cell_step cell.0 (events.Make end))
  ])
  by_cell place end awake None is there = absurd cc
  by_cell place end awake (Some cell) is there = told_done place cell (cell_step cell.0 (events.Make end)) (there_done end cell.0 (awake cell is))

  by_place : (d : Named) → find (is_named node) (names_of journal) ≡ Some d → (o : Option ℕ) → cell_of world d.address ≡ o → is_some o ≡ true → IsDone (elim o as (λ o. Answered) [
    | None ↦ Ok ((verdicts.Nothing, []), world)
    | Some place ↦ cell_hears place (events.Make d.address.id) world
  ])
  by_place d found None is there = absurd cc
  by_place d found (Some place) is there = by_cell place d.address.id
      (awake_still world.cells (world_new journal).cells place d.address.id r.seats (fresh_awake journal (named journal j) node d place found (sym (address_stays d.address (world_new journal) world r.homes) ∙ is)))
      (slice_get world.cells place) refl (some_within world.cells place (placed_within (is_host_of d.address) world.cells place is))

  by_named : (o : Option Named) → find (is_named node) (names_of journal) ≡ o → is_some o ≡ true → IsDone (hears (or_nobody o).address)
  by_named None found there = absurd cc
  by_named (Some d) found there = by_place d found (cell_of world d.address) refl (homed (names_of journal) d r.set.homed found)
