-- A line by which a process reconnects is the passage's move, where the pair has an open connection: its close waits, or comes
-- behind what is unread at the receiving node's end.
use Rattle.std.specs.Prelude.{◌≡◌, ℕ, ◌+◌, Bool, List, [], ◌∷◌, ◌++◌, map, Option, Result, Ok}
use Rattle.std.proofs.Common.{refl, ap, ◌∙◌}
use Rattle.ch_base.specs.declared.event.Room.{Room}
use Rattle.ch_base.specs.declared.memory.Stop.{Stop}
use Rattle.ch_light.specs.declared.Connection.{Connection}
use Rattle.ch_static.specs.declared.command.Command.TheVariants.{Again}
use Rattle.ch_static.specs.declared.target.Target.{Target}
use Rattle.ch_wire.specs.declared.frame.Frame.{Frame}
use Rattle.ch_model.specs.declared.act.Act.{Act}
use Rattle.ch_model.specs.declared.act.Act.TheVariants as acts
use Rattle.ch_model.specs.declared.command.CommandError.{CommandError}
use Rattle.ch_model.specs.declared.entry.Verdict.TheVariants as verdicts
use Rattle.ch_model.specs.declared.line.What.TheVariants as lines
use Rattle.ch_model.specs.declared.local.LocalEntry.{LocalEntry}
use Rattle.ch_model.specs.declared.local.LocalEntry.TheVariants as local
use Rattle.ch_model.specs.declared.local.LocalEvent.TheVariants.{Command}
use Rattle.ch_model.specs.declared.note.Note.TheVariants as notes
use Rattle.ch_model.specs.declared.name.ProcName.{ProcName}
use Rattle.ch_model.specs.declared.name.TargetName.{TargetName}
use Rattle.ch_model.specs.declared.step.EndError.{EndError}
use Rattle.ch_model.specs.declared.step.Step.{Step}
use Rattle.ch_model.specs.declared.step.Weight.{Weight}
use Rattle.ch_model.specs.HostState.{Link, HostState}
use Rattle.ch_model.specs.HostWrites.{frame_step, is_up}
use Rattle.ch_model.specs.HostCalls.{host_close}
use Rattle.ch_model.specs.NodeState.{NodeState, Pair}
use Rattle.ch_model.specs.NodeActs as node
use Rattle.ch_model.specs.NodeActs.{stopping}
use Rattle.ch_model.specs.NodeIds.{process_id}
use Rattle.ch_model.specs.NodePairs.{pair_of, keeping}
use Rattle.ch_model.specs.NodeRoom.{acting}
use Rattle.ch_model.specs.NodeSends.{reconnect}
use Rattle.ch_model.specs.NodeCommands.{again_of}
use Rattle.ch_model.specs.Node.{node_command, target_node}
use Rattle.ch_model.specs.Naming.{address_as, target_as}
use Rattle.ch_model.specs.WorldState.{Cell, World}
use Rattle.ch_model.specs.WorldHappenings.{with_cell, cell_told, cell_hears}
use Rattle.ch_model.specs.WorldLines.{line_done}
use Rattle.ch_model.specs.CellSteps as cells
use Rattle.ch_model.specs.CellSteps.{Followed, with_node, told_steps, after_entries, asked, acts_on, all_items}
use Rattle.ch_model.specs.Cell.{answered, room_for, node_did, commanded, cell_step}
use Rattle.ch_delivery.specs.Passage as passages
use Rattle.ch_laws_delivery.specs.Scene.{Name, Party, Scene, link_of}
use Rattle.ch_laws_delivery.specs.Sending.{pair_at}
use Rattle.ch_laws_delivery.specs.Sends.{IsSettled}
use Rattle.ch_laws_delivery.specs.View as views
use Rattle.ch_laws_delivery.specs.Reconnects.{ReconnectsOpen, next_of, closed_host, reconnected_in}
use Rattle.ch_laws_delivery.specs.UpReconnects.{ReconnectsUp, close_frame, host_without}
use Rattle.ch_laws_delivery.specs.Cells.{IsAt, cell_with}
use Rattle.ch_laws_delivery.specs.Worlds.{Stands, Leg, IsSceneOf, IsLineOf}
use Rattle.ch_laws_delivery.specs.UpLines.{AreSocketsApart}
use Rattle.ch_laws_delivery.specs.AgainLines.{again_entries, IsReconnectedIn, IsClosedIn}
use Rattle.ch_laws_delivery.proofs.Reconnects.{link_now, link_up, is_reconnected, is_closed}
use Rattle.ch_laws_delivery.proofs.Cells.{at_of, found_stored, ends_at}
use Rattle.ch_laws_delivery.proofs.Worlds.{hears_of, cell_of_world, append_none, scene_still}
use Rattle.ch_laws_delivery.proofs.UpWorlds.{used_given, scene_written}

-- ---- the cell

accepts_again : (n : NodeState) (by : ℕ) (to : Target) (room : Room) → acting n by ≡ Ok tt → node_command n by (Again to) room ≡ stopping (reconnect n (pair_of n.pairs by to))
unfolding node_command again_of
accepts_again n by to room acts = ap (λ (r : Result (Unit {0}) CommandError). node.◌>>=◌ r (λ live. stopping (reconnect n (pair_of n.pairs by to)))) acts

pub closes_on : (end conn : ℕ) (rest : List Act) (cell : Cell) (done : List Step) (host : HostState) → host_close cell.host end conn ≡ Ok (done, host)
    → acts_on end (acts.Close conn ∷ rest) cell ≡ after_entries (told_steps done) (acts_on end rest (record cell { host = host }))
closes_on end conn rest cell done host h = ap (λ (r : Result (List Step × HostState) EndError). cells.◌then◌ (asked cell r) (acts_on end rest)) h

-- the command, where the host that closes the connection writes these frames
module _ (party : Party) (cell : Cell) (at : IsAt party cell) (name : Name) (acting_is : acting party.node name.by ≡ Ok tt) (conn sock : ℕ) (items : List (Frame × Weight)) (host : HostState) (settled : IsSettled party.host → IsSettled host)
    (reconnects : reconnect party.node (pair_at party.node name)
    ≡ Ok (acts.Note (notes.Again (process_id party.node (pair_at party.node name).by) (pair_at party.node name).to ((pair_at party.node name).epoch + 1)) ∷ acts.Close conn ∷ [], keeping party.node (next_of (pair_at party.node name))))
    (closes : host_close party.host party.end conn ≡ Ok (map (frame_step sock) items, host)) where
  abbrev P : Pair
  P = pair_at party.node name

  abbrev Now : NodeState
  Now = keeping party.node (next_of P)

  abbrev pub Then : Cell
  Then = cell_with cell party.end Now host

  abbrev Entries : List LocalEntry
  Entries = again_entries party P sock items

  steps_are : (xs : List (Frame × Weight)) → told_steps (map (frame_step sock) xs) ++ [] ≡ map (λ item. local.Step (frame_step sock item)) xs
  steps_are [] = refl
  steps_are (x ∷ rest) = ap (λ (z : List LocalEntry). local.Step (frame_step sock x) ∷ z) (steps_are rest)

  carried_out : acts_on party.end (acts.Note (notes.Again (process_id party.node P.by) P.to (P.epoch + 1)) ∷ acts.Close conn ∷ []) (with_node party.end Now cell) ≡ Ok (Entries, Then)
  carried_out = ap (after_entries (local.Note (notes.Again (process_id party.node P.by) P.to (P.epoch + 1)) ∷ []))
      (closes_on party.end conn [] (with_node party.end Now cell) (map (frame_step sock) items) host (ap (λ (h : HostState). host_close h party.end conn) at.host ∙ closes)
      ∙ ap (λ (z : List LocalEntry). Ok (z, Then)) (steps_are items))

  pub reconnects_at : cell_step cell (Command party.end name.by (Again name.to)) ≡ Ok ((verdicts.Ok, Entries), Then)
  reconnects_at = ap (at_of cell (commanded party.end name.by (Again name.to) cell)) at.node
      ∙ ap (node_did party.end cell) (accepts_again party.node name.by name.to (room_for cell.host party.end party.node.own (target_node party.node name.by (Again name.to))) acting_is)
      ∙ ap (λ (r : Result (List Act × NodeState) Stop). node_did party.end cell (stopping r)) reconnects
      ∙ ap (λ (r : Followed). answered verdicts.Ok (cells.◌then◌ r all_items)) carried_out
      ∙ ends_at Entries Then (settled at.settled)

  pub is_at : IsAt (record party { node = Now; host = host }) Then
  is_at = record { host = refl; node = found_stored party.end Now cell.nodes (party.end, party.node) at.node; settled = settled at.settled }

-- ---- the line

module _ (world : World) (place : ℕ) (party : Party) (name : Name) (by : ProcName) (target : TargetName) (l : IsLineOf world place party name by target) (stands : Stands world place party) where
  line_is : line_done (lines.Again by target) world ≡ cell_told place (stands.cell, stands.came) world (cell_step stands.cell (Command party.end name.by (Again name.to)))
  line_is = ap (hears_of world (λ p. cell_hears p (Command (address_as world.names by.node).id by.counter (Again (target_as world.names target))) world)) l.home
      ∙ ap (cell_of_world world (λ c. cell_told place c world (cell_step c.0 (Command (address_as world.names by.node).id by.counter (Again (target_as world.names target)))))) stands.there
      ∙ ap (λ (end : ℕ). cell_told place (stands.cell, stands.came) world (cell_step stands.cell (Command end by.counter (Again (target_as world.names target))))) l.end
      ∙ ap (λ (number : ℕ). cell_told place (stands.cell, stands.came) world (cell_step stands.cell (Command party.end number (Again (target_as world.names target))))) l.process
      ∙ ap (λ (to : Target). cell_told place (stands.cell, stands.came) world (cell_step stands.cell (Command party.end name.by (Again to)))) l.target

module _ (names : List Name) (named_apart : views.AreApart names) (world : World) (from to : ℕ) (legs : ℕ → Option Leg) (scene : Scene) (c : ℕ) (name : Name) (conn id : ℕ) (table : List Connection) (by : ProcName) (target : TargetName)
    (s : IsSceneOf world from to legs scene) (l : IsLineOf world from scene.from name by target) (acting_is : acting scene.from.node name.by ≡ Ok tt) where
  abbrev Q : Pair
  Q = pair_at scene.from.node name

  abbrev Next : NodeState
  Next = keeping scene.from.node (next_of Q)

  pub is_reconnected_in : ReconnectsOpen names scene c name conn id table → IsReconnectedIn names world from to legs scene c name id table by target
  is_reconnected_in h =
      let one = is_reconnected names named_apart scene c name conn id table h in
      let host = closed_host scene.from.host (link_of scene.from) id table in
      let cell = cell_with s.sender.cell scene.from.end Next host in
      let at = is_at scene.from s.sender.cell s.sender.at name acting_is conn 0 [] host (λ q. q) one.node_reconnects one.host_closes in
      record {
        cell = cell;
        came = s.sender.came;
        answered = line_is world from scene.from name by target l s.sender
            ∙ ap (cell_told from (s.sender.cell, s.sender.came) world) (reconnects_at scene.from s.sender.cell s.sender.at name acting_is conn 0 [] host (λ q. q) one.node_reconnects one.host_closes);
        now = scene_still world (with_cell from (cell, s.sender.came) world) from to legs scene s Next host cell refl [] (append_none world.sockets) at
            (ap (λ (z : Link). is_up z.state) (link_now names named_apart scene c name conn id table h) ∙ h.down) (reconnected_in scene c Q id table) refl refl refl refl;
        seen = one.seen;
      }

  pub is_closed_in : (sock : ℕ) (probed : Bool) → AreSocketsApart legs → ReconnectsUp names scene c name conn id sock probed table → IsClosedIn names world from to legs scene c name id sock table by target
  is_closed_in sock probed apart h =
      let one = is_closed names named_apart scene c name conn id sock probed table h in
      let host = host_without scene.from.host (link_of scene.from) table in
      let cell = cell_with s.sender.cell scene.from.end Next host in
      let at = is_at scene.from s.sender.cell s.sender.at name acting_is conn sock (close_frame id ∷ []) host (λ q. q) one.node_reconnects one.host_closes in
      record {
        cell = cell;
        came = s.sender.came;
        answered = line_is world from scene.from name by target l s.sender
            ∙ ap (cell_told from (s.sender.cell, s.sender.came) world) (reconnects_at scene.from s.sender.cell s.sender.at name acting_is conn sock (close_frame id ∷ []) host (λ q. q) one.node_reconnects one.host_closes);
        now = scene_written world from to legs scene s apart Next host cell at (ap (λ (z : Link). z.state) (link_up names named_apart scene c name conn id sock probed table h)) sock probed h.up world.last (close_frame id)
            (used_given scene.given id (record { pair = c; epoch = Q.epoch }) h.used) (passages.Again c (Q.epoch + 1) ∷ scene.log);
        seen = one.seen;
      }
