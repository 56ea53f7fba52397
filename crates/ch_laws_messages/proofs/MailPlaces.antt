-- Nodes of one name stand at one place.
use Rattle.std.proofs.Common.{◌≡◌, ℕ, zero, suc, List, [], ◌∷◌, refl, sym, ap, ◌∙◌}
use Rattle.std.specs.Prelude.{find, slice_get, Some}
use Rattle.ch_model.specs.declared.line.Line.{Line}
use Rattle.ch_model.specs.CellSteps.{is_at}
use Rattle.ch_model.specs.Naming.{Names, called}
use Rattle.ch_model.specs.NodeState.{NodeState}
use Rattle.ch_model.specs.World.{names_of, nodes_of, first_of_hosts, world_new}
use Rattle.ch_model.specs.WorldState.{Cell, World}
use Rattle.ch_laws_items.specs.Stays.{seats_of}
use Rattle.ch_laws_items.proofs.Seats.{node_there}
use Rattle.ch_laws_world.specs.Grows.{Home, home_of, homes_of}
use Rattle.ch_laws_many.specs.ManyLines.{AreNamedApart}
use Rattle.ch_laws_many.proofs.Reached.{IsJournal}
use Rattle.ch_laws_acting.specs.Rolls.{roll_of}
use Rattle.ch_laws_acting.proofs.CellRests.{roll_found}
use Rattle.ch_laws_acting.proofs.WorldRests.{Alive, fresh_alive}

-- the same nodes sit in each place
pub seated_as : (cells others : List (Cell × ℕ)) (place : ℕ) (cell : Cell × ℕ) → homes_of cells ≡ homes_of others → slice_get cells place ≡ Some cell → (now : Cell × ℕ) × (slice_get others place ≡ Some now) × (seats_of now.0.nodes ≡ seats_of cell.0.nodes)
seated_as [] others place cell e at = absurd cc
seated_as (known ∷ rest) [] place cell e at = absurd cc
seated_as (known ∷ rest) (now ∷ more) zero cell e at =
    let same : known ≡ cell = cc in
    let home : home_of known.0 ≡ home_of now.0 = cc in
    (now, refl, ap (λ (h : Home). h.3) (sym home) ∙ ap (λ (c : Cell × ℕ). seats_of c.0.nodes) same)
seated_as (known ∷ rest) (now ∷ more) (suc place) cell e at = let tails : homes_of rest ≡ homes_of more = cc in seated_as rest more place cell tails at

module _ (journal : List Line) (j : IsJournal journal) (named : AreNamedApart (names_of journal)) (world : World) (names : world.names ≡ names_of journal) (homes : homes_of world.cells ≡ homes_of (world_new journal).cells) where
  pub one_place : (p q : ℕ) (c d : Cell × ℕ) (e f : ℕ) (a b : ℕ × NodeState) → slice_get world.cells p ≡ Some c → slice_get world.cells q ≡ Some d → find (is_at e) c.0.nodes ≡ Some a → find (is_at f) d.0.nodes ≡ Some b
      → called world.names a.1.own ≡ called world.names b.1.own → (p ≡ q) × (e ≡ f)
  one_place p q c d e f a b at to there here same =
      let one = seated_as world.cells (world_new journal).cells p c homes at in
      let two = seated_as world.cells (world_new journal).cells q d homes to in
      let was = node_there e a c.0.nodes one.0.0.nodes one.2 there in
      let had = node_there f b d.0.nodes two.0.0.nodes two.2 here in
      fresh.apart p q one.0 two.0 e f (roll_of was.0.1) (roll_of had.0.1) one.1 two.1 (roll_found e one.0.0.nodes was.0 was.1) (roll_found f two.0.0.nodes had.0 had.1)
      (ap (called (names_of journal)) was.2.own ∙ ap (λ (k : Names). called k a.1.own) (sym names) ∙ same ∙ ap (λ (k : Names). called k b.1.own) names ∙ ap (called (names_of journal)) (sym had.2.own))
    where
      fresh : Alive (names_of journal) (first_of_hosts [] (nodes_of journal)) [] (world_new journal)
      fresh = fresh_alive journal j.apart named
