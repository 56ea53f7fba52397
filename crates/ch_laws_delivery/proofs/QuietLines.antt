-- A line that is told and does nothing more: the way stays, and the scene has the node after it.
use Rattle.std.specs.Prelude.{◌≡◌, ℕ, List, [], ◌∷◌, slice_get, Option, Ok}
use Rattle.std.proofs.Common.{refl, ap, sym, ◌∙◌}
use Rattle.std.proofs.lemmas.Option.{slice_get_within}
use Rattle.ch_light.proofs.Lists.{set_here, set_other}
use Rattle.ch_model.specs.declared.act.Act.{Act}
use Rattle.ch_model.specs.declared.act.Act.TheVariants as acts
use Rattle.ch_model.specs.declared.entry.Verdict.TheVariants as verdicts
use Rattle.ch_model.specs.declared.line.What.{What}
use Rattle.ch_model.specs.declared.local.LocalEntry.TheVariants as local
use Rattle.ch_model.specs.declared.local.LocalEvent.{LocalEvent}
use Rattle.ch_model.specs.declared.local.LocalEvent.TheVariants as events
use Rattle.ch_model.specs.HostState.{HostState}
use Rattle.ch_model.specs.Host.{first_ready}
use Rattle.ch_model.specs.NodeState.{NodeState}
use Rattle.ch_model.specs.Node.{node_make, node_command, target_node}
use Rattle.ch_model.specs.WorldState.{Cell, World}
use Rattle.ch_model.specs.WorldSteps.{all_told, noted}
use Rattle.ch_model.specs.WorldHappenings.{with_cell, cell_told}
use Rattle.ch_model.specs.WorldLines.{line_done}
use Rattle.ch_model.specs.CellSteps as cells
use Rattle.ch_model.specs.CellSteps.{Followed, after_entries, acts_on, all_items, with_node}
use Rattle.ch_model.specs.Cell.{answered, room_for, node_did, commanded, cell_step}
use Rattle.ch_laws_delivery.specs.Scene.{Name, Party, Scene}
use Rattle.ch_laws_delivery.specs.Standings.{Faithful, Ages}
use Rattle.ch_laws_delivery.specs.Sends.{IsSettled}
use Rattle.ch_laws_delivery.specs.Cells.{IsAt}
use Rattle.ch_laws_delivery.specs.Worlds.{Stands, Leg, IsSceneOf}
use Rattle.ch_laws_delivery.specs.QuietLines.{AreNotes, told_notes, asked_of, IsHeardAt, IsToldBy, noted_in, IsToldIn, IsStoodIn}
use Rattle.ch_laws_delivery.proofs.Stands.{is_stood}
use Rattle.ch_laws_delivery.proofs.Cells.{at_of, found_stored, ends_at}
use Rattle.ch_laws_delivery.proofs.Worlds.{More, cell_of_world, append_none, on_leg_still, is_on_still, is_read_still}

-- ---- the cell

notes_on : (end : ℕ) (did : List Act) (cell : Cell) → AreNotes did → acts_on end did cell ≡ Ok (told_notes did, cell)
notes_on end [] cell h = refl
notes_on end (acts.Note note ∷ rest) cell h = ap (after_entries (local.Note note ∷ [])) (notes_on end rest cell h)
notes_on end (acts.Open conn peer ∷ rest) cell h = absurd h
notes_on end (acts.Put conn payload weight ∷ rest) cell h = absurd h
notes_on end (acts.Close conn ∷ rest) cell h = absurd h

did_notes : (end : ℕ) (cell : Cell) (did : List Act) (after : NodeState) → AreNotes did → IsSettled cell.host → node_did end cell (Ok (did, after)) ≡ Ok ((verdicts.Ok, told_notes did), with_node end after cell)
did_notes end cell did after notes settled = ap (λ (r : Followed). answered verdicts.Ok (cells.◌then◌ r all_items)) (notes_on end did (with_node end after cell) notes) ∙ ends_at (told_notes did) (with_node end after cell) settled

module _ (party : Party) (cell : Cell) (at : IsAt party cell) (did : List Act) (after : NodeState) (notes : AreNotes did) where
  settled : IsSettled cell.host
  settled = ap (λ (host : HostState). first_ready host.sockets) at.host ∙ at.settled

  steps_quietly : (event : LocalEvent) → IsHeardAt party.end event → asked_of party event ≡ Ok (did, after) → cell_step cell event ≡ Ok ((verdicts.Ok, told_notes did), with_node party.end after cell)
  steps_quietly (events.Make end) same does = ap (λ (e : ℕ). cell_step cell (events.Make e)) same
      ∙ ap (at_of cell (λ node. node_did party.end cell (node_make node))) at.node ∙ ap (node_did party.end cell) does ∙ did_notes party.end cell did after notes settled
  steps_quietly (events.Command end by command) same does = ap (λ (e : ℕ). cell_step cell (events.Command e by command)) same
      ∙ ap (at_of cell (commanded party.end by command cell)) at.node
      ∙ ap (λ (host : HostState). node_did party.end cell (node_command party.node by command (room_for host party.end party.node.own (target_node party.node by command)))) at.host
      ∙ ap (node_did party.end cell) does ∙ did_notes party.end cell did after notes settled
  steps_quietly (events.Shut end) same does = absurd same
  steps_quietly (events.Came mark sock host) same does = absurd same
  steps_quietly (events.Socket event) same does = absurd same

  at_after : IsAt (record party { node = after }) (with_node party.end after cell)
  at_after = record { host = at.host; node = found_stored party.end after cell.nodes (party.end, party.node) at.node; settled = at.settled }

-- ---- the world

notes_more : (place : ℕ) (cell : Cell) (did : List Act) (world : World) → AreNotes did → More world (all_told place cell (told_notes did) world).1
notes_more place cell [] world h = record { cells = refl; sockets = []; last = append_none world.sockets }
notes_more place cell (acts.Note note ∷ rest) world h = let later = notes_more place cell rest (noted note world).1 h in record { cells = later.cells; sockets = later.sockets; last = later.last }
notes_more place cell (acts.Open conn peer ∷ rest) world h = absurd h
notes_more place cell (acts.Put conn payload weight ∷ rest) world h = absurd h
notes_more place cell (acts.Close conn ∷ rest) world h = absurd h

module _ (world : World) (place : ℕ) (party : Party) (what : What) (event : LocalEvent) (did : List Act) (after : NodeState) (l : IsToldBy world place party what event did after) (stands : Stands world place party) where
  line_told : line_done what world
      ≡ Ok ((verdicts.Ok, (noted_in world place (with_node party.end after stands.cell) stands.came did).0), (noted_in world place (with_node party.end after stands.cell) stands.came did).1)
  line_told = l.heard ∙ ap (cell_of_world world (λ c. cell_told place c world (cell_step c.0 event))) stands.there
      ∙ ap (cell_told place (stands.cell, stands.came) world) (steps_quietly party stands.cell stands.at did after l.notes event l.end l.does)

module _ (world : World) (from to : ℕ) (legs : ℕ → Option Leg) (scene : Scene) (what : What) (event : LocalEvent) (did : List Act) (after : NodeState) (s : IsSceneOf world from to legs scene) where
  pub is_told_in : IsToldBy world from scene.from what event did after → IsToldIn world from to legs scene what did after
  is_told_in l =
      let cell = with_node scene.from.end after s.sender.cell in
      let start = with_cell from (cell, s.sender.came) world in
      let now = (noted_in world from cell s.sender.came did).1 in
      let more = notes_more from cell did start l.notes in
      record {
        cell = cell;
        came = s.sender.came;
        answered = line_told world from scene.from what event did after l s.sender;
        now = λ log. record {
          sender = record { cell = cell; came = s.sender.came; there = ap (λ z. slice_get z from) more.cells ∙ set_here world.cells from (cell, s.sender.came) (slice_get_within world.cells from (s.sender.cell, s.sender.came) s.sender.there); at = at_after scene.from s.sender.cell s.sender.at did after l.notes };
          receiver = record { cell = s.receiver.cell; came = s.receiver.came; there = ap (λ z. slice_get z to) more.cells ∙ set_other world.cells from (cell, s.sender.came) to (λ e. s.apart (sym e)) ∙ s.receiver.there; at = s.receiver.at };
          apart = s.apart;
          way = record {
            carries = λ i. on_leg_still world now more.sockets more.last scene.to.host (legs i) (scene.way.flight i) (scene.way.cut i) (s.way.carries i);
            on = λ sock probed up. is_on_still world now more.sockets more.last from sock (legs scene.way.on) scene.given (s.way.on sock probed up);
            at = λ sock probed up. is_read_still world now more.sockets more.last to sock (legs scene.way.at) scene.created (s.way.at sock probed up);
          };
        };
      }

module _ (names : List Name) (world : World) (from to : ℕ) (legs : ℕ → Option Leg) (scene : Scene) (what : What) (event : LocalEvent) (did : List Act) (after : NodeState) (s : IsSceneOf world from to legs scene) where
  pub is_stood_in : IsToldBy world to scene.to what event did after → Faithful names scene → Ages scene.to.node after → IsStoodIn names world from to legs scene what did after
  is_stood_in l faithful ages =
      let cell = with_node scene.to.end after s.receiver.cell in
      let start = with_cell to (cell, s.receiver.came) world in
      let now = (noted_in world to cell s.receiver.came did).1 in
      let more = notes_more to cell did start l.notes in
      record {
        cell = cell;
        came = s.receiver.came;
        answered = line_told world to scene.to what event did after l s.receiver;
        now = record {
          sender = record { cell = s.sender.cell; came = s.sender.came; there = ap (λ z. slice_get z from) more.cells ∙ set_other world.cells to (cell, s.receiver.came) from s.apart ∙ s.sender.there; at = s.sender.at };
          receiver = record { cell = cell; came = s.receiver.came; there = ap (λ z. slice_get z to) more.cells ∙ set_here world.cells to (cell, s.receiver.came) (slice_get_within world.cells to (s.receiver.cell, s.receiver.came) s.receiver.there); at = at_after scene.to s.receiver.cell s.receiver.at did after l.notes };
          apart = s.apart;
          way = record {
            carries = λ i. on_leg_still world now more.sockets more.last scene.to.host (legs i) (scene.way.flight i) (scene.way.cut i) (s.way.carries i);
            on = λ sock probed up. is_on_still world now more.sockets more.last from sock (legs scene.way.on) scene.given (s.way.on sock probed up);
            at = λ sock probed up. is_read_still world now more.sockets more.last to sock (legs scene.way.at) scene.created (s.way.at sock probed up);
          };
        };
        seen = is_stood names scene after faithful ages;
      }
