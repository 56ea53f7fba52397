-- A turn in which a host puts things on its links: what was said is carried, where it is of each node of the cell.
use Rattle.std.proofs.Common.{◌≡◌, ◌⊎◌, inl, inr, ℕ, Bool, true, false, List, [], ◌++◌, refl, sym, ap, ◌∙◌}
use Rattle.std.specs.Prelude.{slice_get, Some, ◌==◌}
use Rattle.ch_base.specs.declared.address.Address.{Address}
use Rattle.ch_light.specs.Ids.{id_of}
use Rattle.ch_model.specs.declared.entry.Entry.{Entry}
use Rattle.ch_model.specs.declared.line.Line.{Line}
use Rattle.ch_model.specs.declared.local.LocalEntry.{LocalEntry}
use Rattle.ch_model.specs.HostState.{Link}
use Rattle.ch_model.specs.NodeState.{NodeState}
use Rattle.ch_model.specs.WorldHappenings.{with_cell}
use Rattle.ch_model.specs.WorldState.{Cell, World}
use Rattle.ch_race.specs.Pair.{Side, other}
use Rattle.ch_laws_bytes.proofs.Told.{told_names}
use Rattle.ch_laws_calls.specs.Scenes.{IsPairOf}
use Rattle.ch_laws_ends.proofs.Changes.{told_cells}
use Rattle.ch_laws_ids.specs.Runs.{AllRun}
use Rattle.ch_laws_log.specs.HostEnds.{steps_in}
use Rattle.ch_laws_race.specs.Scene.{Party}
use Rattle.ch_laws_calls.specs.Turns.{told_on}
use Rattle.ch_laws_writes.proofs.Worlds.{number_is, number_same}
use Rattle.ch_laws_peers.specs.Words.{Placed}
use Rattle.ch_laws_peers.specs.Says.{node_in, node_of, ArePlaced, Says, AllSay}
use Rattle.ch_laws_peers.specs.Standing.{Standing}
use Rattle.ch_laws_messages.specs.SaidGoes.{said_to, Streams, Stays, Sent}
use Rattle.ch_laws_messages.specs.SaidPuts.{Utters, DialsOne}
use Rattle.ch_laws_messages.proofs.SaidQuiet.{stays}
use Rattle.ch_laws_messages.proofs.SaidSent.{sends}
use Rattle.ch_laws_messages.proofs.SaidStill.{node_same, node_at}
use Rattle.ch_laws_messages.proofs.SaidTurned.{link_away, streams_away, streams_here}

module _ (journal : List Line) (early log : List Entry) (world : World) (place : ℕ) (cell : Cell × ℕ) (told : List LocalEntry) (after : Cell) (new : ℕ → Address → List Placed) (st : Standing journal early world) (run : AllRun log world) (at : slice_get world.cells place ≡ Some cell)
    (u : Utters cell.0.host (steps_in told) after.host new) (d : DialsOne (steps_in told)) (placed : (e : ℕ) (p : Address) → ArePlaced (new e p)) (say : AllSay journal log world) where
  abbrev pub all : List Entry × World
  all = told_on place cell after told world

  -- what was said by a node of the cell is carried after the turn: nothing more was said, or one message
  abbrev pub Carried : Type 0
  Carried = (party : Side → Party) (x : Side) → IsPairOf journal party → Says journal log world party x → place ≡ (party x).place → Streams party x log world (log ++ all.0) all.1 (new (party x).address.id (party (other x)).address)
      → Stays party x log world (log ++ all.0) all.1 ⊎ Sent journal party x log world (log ++ all.0) all.1

  -- nodes of other cells say nothing in it
  abbrev pub Unsaid : Type 0
  Unsaid = (party : Side → Party) (x : Side) → IsPairOf journal party → (place == (party x).place) ≡ false → said_to party x (log ++ all.0) ≡ said_to party x log

  pub turn_say : Carried → Unsaid → AllSay journal (log ++ all.0) all.1
  turn_say carried unsaid party pair x = by_place (place == (party x).place) refl where
    s : Says journal log world party x
    s = say party pair x

    by_carried : Stays party x log world (log ++ all.0) all.1 ⊎ Sent journal party x log world (log ++ all.0) all.1 → Says journal (log ++ all.0) all.1 party x
    by_carried (inl k) = stays journal log world party x (log ++ all.0) all.1 s k
    by_carried (inr k) = sends journal log world party x (log ++ all.0) all.1 s k

    node_away : (place == (party x).place) ≡ false → (now : NodeState) → node_of party all.1 x ≡ Some now → node_of party world x ≡ Some now
    node_away away now there = by_at (node_at world all.1 place cell (after, cell.1) (party x).place (party x).address.id now at (told_cells place after told (with_cell place (after, cell.1) world)) there) where
      by_at : ((place ≡ (party x).place) × (node_in (Some (after, cell.1)) (party x).address.id ≡ Some now)) ⊎ (node_in (slice_get world.cells (party x).place) (party x).address.id ≡ Some now) → node_of party world x ≡ Some now
      by_at (inl k) = let no : true ≡ false = sym (ap (λ (p : ℕ). place == p) (sym k.0) ∙ number_same place) ∙ away in absurd cc
      by_at (inr k) = k

    by_place : (b : Bool) → (place == (party x).place) ≡ b → Says journal (log ++ all.0) all.1 party x
    by_place true h = let here = number_is place (party x).place h in by_carried (carried party x pair s here (streams_here journal early log world place cell told after new st run at u d party pair x s here (placed (party x).address.id (party (other x)).address)))
    by_place false h = by_carried (inl (record {
      named = told_names place after told (with_cell place (after, cell.1) world);
      said = unsaid party x pair h;
      new = [];
      silent = refl;
      streams = streams_away journal early log world place cell told after new st run at u d party pair x s h;
      nodes = λ now there. node_same journal log party x world all.1 now s (node_away h now there) (λ conn id given. ap (λ (l : Link). id_of l.given conn) (link_away journal early log world place cell told after new st run at u d party pair x s h) ∙ given);
    }))
