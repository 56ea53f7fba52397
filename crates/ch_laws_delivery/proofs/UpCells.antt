-- What a cell makes of a command by which a process sends on an open connection, while the link is up: its host writes the frame.
use Rattle.std.specs.Prelude.{◌≡◌, ℕ, Bool, true, not, ◌&&◌, ◌||◌, List, [], ◌∷◌, nat_le, Result, Ok, Err, if◌then◌else◌}
use Rattle.std.proofs.Common.{refl, ap, sym, ◌∙◌}
use Rattle.ch_base.specs.declared.memory.Stop.{Stop}
use Rattle.ch_ident.specs.declared.message.Message.{Message}
use Rattle.ch_link.specs.declared.LinkState.{LinkState}
use Rattle.ch_static.specs.declared.target.Target.{Target}
use Rattle.ch_model.specs.declared.act.Act.{Act}
use Rattle.ch_model.specs.declared.command.CommandError.TheVariants.{Spent}
use Rattle.ch_model.specs.declared.entry.Verdict.TheVariants as verdicts
use Rattle.ch_model.specs.declared.local.LocalEntry.{LocalEntry}
use Rattle.ch_model.specs.declared.local.LocalEntry.TheVariants as local
use Rattle.ch_model.specs.declared.note.Note.TheVariants as notes
use Rattle.ch_model.specs.HostState.{HostState}
use Rattle.ch_model.specs.HostWrites.{frame_step, is_up, counted_in}
use Rattle.ch_model.specs.HostCalls.{most_waiting, short_enough, host_room, host_send}
use Rattle.ch_model.specs.NodeState as nodes
use Rattle.ch_model.specs.NodeState.{NodeState, Pair}
use Rattle.ch_model.specs.NodeActs.{stopping}
use Rattle.ch_model.specs.NodeIds.{process_id, target_at}
use Rattle.ch_model.specs.NodePairs.{keeping}
use Rattle.ch_model.specs.NodeRoom.{is_unopened, most_opened, opened_besides, not_spent}
use Rattle.ch_model.specs.NodeSends.{payload_of, with_said}
use Rattle.ch_model.specs.WorldState.{Cell}
use Rattle.ch_model.specs.CellSteps as cells
use Rattle.ch_model.specs.CellSteps.{Followed, with_node, after_entries, acts_on, all_items}
use Rattle.ch_model.specs.Cell.{answered, node_did}
use Rattle.ch_laws_delivery.specs.Scene.{Name, Party, Scene, link_of}
use Rattle.ch_laws_delivery.specs.Sending.{pair_at}
use Rattle.ch_laws_delivery.specs.Sends.{weight_at, acts_of}
use Rattle.ch_laws_delivery.specs.UpSends.{SaysUp, frame_of, IsWritten}
use Rattle.ch_laws_delivery.specs.View.{AreApart}
use Rattle.ch_laws_delivery.specs.Cells.{Sends, cell_with}
use Rattle.ch_laws_delivery.specs.UpLines.{IsWrittenAt}
use Rattle.ch_laws_delivery.proofs.Keys.{pair_named}
use Rattle.ch_laws_delivery.proofs.UpSays.{is_written}
use Rattle.ch_laws_delivery.proofs.Cells.{found_stored, puts_on, commands, ends_at}

module _ (names : List Name) (apart : AreApart names) (scene : Scene) (c : ℕ) (name : Name) (conn id sock : ℕ) (probed : Bool) (said : Message) (h : SaysUp names scene c name conn id sock probed said) (cell : Cell) (s : Sends scene name cell) where
  abbrev Own : Party
  Own = scene.from

  abbrev Q : Pair
  Q = pair_at Own.node name

  abbrev Now : NodeState
  Now = keeping Own.node (with_said Q)

  one : IsWritten names scene c name conn id sock said
  one = is_written names apart scene c name conn id sock probed said h

  to_name : Q.to ≡ name.to
  to_name = (pair_named Own.node.pairs name.by name.to).1

  short_name : short_enough (payload_of name.to said) ≡ Ok (payload_of name.to said)
  short_name = ap (λ (z : Target). short_enough (payload_of z said)) (sym to_name) ∙ h.short ∙ ap (λ (z : Target). Ok (payload_of z said)) to_name

  not_fresh : not_spent Own.node Q (host_room Own.host Own.end Own.peer) ≡ Ok tt
  unfolding not_spent
  not_fresh = ap (λ (m : nodes.Mark). if is_unopened m && nat_le most_opened (opened_besides Own.node (target_at Q.to) (host_room Own.host Own.end Own.peer)) then Err Spent else Ok tt) h.opened

  free : (is_up (link_of Own).state || not (nat_le most_waiting (counted_in (link_of Own)))) ≡ true
  free = ap (λ (state : LinkState). is_up state || not (nat_le most_waiting (counted_in (link_of Own)))) h.up

  abbrev Said : LocalEntry
  Said = local.Note (notes.Said (process_id Own.node Q.by) Q.to Q.epoch Q.index said)

  abbrev Wrote : LocalEntry
  Wrote = local.Step (frame_step sock (frame_of id Q said))

  carried_out : acts_on Own.end (acts_of Own.node Q conn said) (with_node Own.end Now cell) ≡ Ok (Said ∷ Wrote ∷ [], cell_with cell Own.end Now one.host)
  carried_out = ap (after_entries (Said ∷ []))
      (puts_on Own.end conn (payload_of Q.to said) (weight_at Q) [] (with_node Own.end Now cell) (frame_step sock (frame_of id Q said) ∷ []) one.host
      (ap (λ (host : HostState). host_send host Own.end conn (payload_of Q.to said) (weight_at Q)) s.at.host ∙ one.host_writes))

  pub is_written_at : IsWrittenAt names scene c name id sock said cell
  is_written_at = record {
    host = one.host;
    answered = commands Own cell s.at name said s.acts s.at_peer h.away (nodes.Opened conn) h.opened refl free short_name not_fresh
        ∙ ap (λ (r : Result (List Act × NodeState) Stop). node_did Own.end cell (stopping r)) one.node_says
        ∙ ap (λ (r : Followed). answered verdicts.Ok (cells.◌then◌ r all_items)) carried_out
        ∙ ends_at (Said ∷ Wrote ∷ []) (cell_with cell Own.end Now one.host) (one.settled s.at.settled);
    at = record { host = refl; node = found_stored Own.end Now cell.nodes (Own.end, Own.node) s.at.node; settled = one.settled s.at.settled };
    link = one.link;
    seen = one.seen;
  }
