-- What a cell makes of a command by which a process sends the first message of an epoch, while the link is up: its host writes
-- three frames.
use Rattle.std.specs.Prelude.{◌≡◌, ℕ, Bool, true, not, ◌||◌, List, [], ◌∷◌, nat_le, Result, Ok}
use Rattle.std.proofs.Common.{refl, ap, sym, ◌∙◌}
use Rattle.ch_base.specs.declared.memory.Stop.{Stop}
use Rattle.ch_ident.specs.declared.message.Message.{Message}
use Rattle.ch_link.specs.declared.LinkState.{LinkState}
use Rattle.ch_static.specs.declared.target.Target.{Target}
use Rattle.ch_model.specs.declared.act.Act.{Act}
use Rattle.ch_model.specs.declared.act.Act.TheVariants as acts
use Rattle.ch_model.specs.declared.entry.Verdict.TheVariants as verdicts
use Rattle.ch_model.specs.declared.local.LocalEntry.{LocalEntry}
use Rattle.ch_model.specs.declared.local.LocalEntry.TheVariants as local
use Rattle.ch_model.specs.declared.note.Note.TheVariants as notes
use Rattle.ch_model.specs.declared.step.Weight.TheVariants.{Free}
use Rattle.ch_model.specs.HostState.{HostState}
use Rattle.ch_model.specs.HostWrites.{frame_step, is_up, counted_in}
use Rattle.ch_model.specs.HostCalls.{most_waiting, short_enough, host_connect}
use Rattle.ch_model.specs.NodeState as nodes
use Rattle.ch_model.specs.NodeState.{NodeState, Pair}
use Rattle.ch_model.specs.NodeActs.{stopping}
use Rattle.ch_model.specs.NodeIds.{process_id, target_at}
use Rattle.ch_model.specs.NodeSends.{payload_of}
use Rattle.ch_model.specs.WorldState.{Cell}
use Rattle.ch_model.specs.CellSteps as cells
use Rattle.ch_model.specs.CellSteps.{Followed, with_node, after_entries, acts_on, all_items}
use Rattle.ch_model.specs.Cell.{answered, node_did}
use Rattle.ch_laws_delivery.specs.Scene.{Name, Party, Scene, link_of}
use Rattle.ch_laws_delivery.specs.Sending.{pair_at}
use Rattle.ch_laws_delivery.specs.Sends.{weight_at}
use Rattle.ch_laws_delivery.specs.FirstSends.{opening_of, next_id, first_acts, first_after}
use Rattle.ch_laws_delivery.specs.UpSends.{frame_of}
use Rattle.ch_laws_delivery.specs.UpFirstSends.{SaysFirstUp, created_frame, opening_frame, IsWrittenFirst}
use Rattle.ch_laws_delivery.specs.View.{AreApart}
use Rattle.ch_laws_delivery.specs.Cells.{SendsFirst, cell_with}
use Rattle.ch_laws_delivery.specs.UpFirstLines.{first_entries, IsWrittenFirstAt}
use Rattle.ch_laws_delivery.proofs.Keys.{pair_named}
use Rattle.ch_laws_delivery.proofs.UpSaysFirst.{is_written_first}
use Rattle.ch_laws_delivery.proofs.Cells.{found_stored, puts_on, opens_on, commands, ends_at}

module _ (names : List Name) (apart : AreApart names) (scene : Scene) (c : ℕ) (name : Name) (conn sock : ℕ) (probed : Bool) (said : Message) (h : SaysFirstUp names scene c name conn sock probed said) (cell : Cell) (s : SendsFirst scene name cell) where
  abbrev First : Party
  First = scene.from

  abbrev F : Pair
  F = pair_at First.node name

  abbrev Opens : NodeState
  Opens = first_after First.node F conn

  begun : IsWrittenFirst names scene c name conn sock said
  begun = is_written_first names apart scene c name conn sock probed said h

  to_name : F.to ≡ name.to
  to_name = (pair_named First.node.pairs name.by name.to).1

  short_name : short_enough (payload_of name.to said) ≡ Ok (payload_of name.to said)
  short_name = ap (λ (z : Target). short_enough (payload_of z said)) (sym to_name) ∙ h.short ∙ ap (λ (z : Target). Ok (payload_of z said)) to_name

  free : (is_up (link_of First).state || not (nat_le most_waiting (counted_in (link_of First)))) ≡ true
  free = ap (λ (state : LinkState). is_up state || not (nat_le most_waiting (counted_in (link_of First)))) h.up

  abbrev Begun : Cell
  Begun = with_node First.end Opens cell

  abbrev Entries : List LocalEntry
  Entries = first_entries First F sock said

  carried_out : acts_on First.end (first_acts First.node F conn said) Begun ≡ Ok (Entries, cell_with cell First.end Opens begun.host)
  carried_out = ap (after_entries (local.Note (notes.Said (process_id First.node F.by) F.to F.epoch F.index said) ∷ []))
      (opens_on First.end conn (target_at F.to) (acts.Put conn (opening_of First.node F) Free ∷ acts.Put conn (payload_of F.to said) (weight_at F) ∷ []) Begun (frame_step sock (created_frame (link_of First)) ∷ []) begun.connected
      (ap (λ (host : HostState). host_connect host First.end (target_at F.to) conn) s.at.host ∙ begun.host_connects)
      ∙ ap (after_entries (local.Step (frame_step sock (created_frame (link_of First))) ∷ []))
      (puts_on First.end conn (opening_of First.node F) Free (acts.Put conn (payload_of F.to said) (weight_at F) ∷ []) (record Begun { host = begun.connected }) (frame_step sock (opening_frame First.node (link_of First) F) ∷ []) begun.told begun.host_tells
      ∙ ap (after_entries (local.Step (frame_step sock (opening_frame First.node (link_of First) F)) ∷ []))
      (puts_on First.end conn (payload_of F.to said) (weight_at F) [] (record Begun { host = begun.told }) (frame_step sock (frame_of (next_id (link_of First)) F said) ∷ []) begun.host begun.host_writes)))

  pub is_written_first_at : IsWrittenFirstAt names scene c name conn sock said cell
  is_written_first_at = record {
    host = begun.host;
    answered = commands First cell s.at name said s.acts s.at_peer h.away nodes.Unopened h.fresh refl free short_name s.unspent
        ∙ ap (λ (r : Result (List Act × NodeState) Stop). node_did First.end cell (stopping r)) begun.node_says
        ∙ ap (λ (r : Followed). answered verdicts.Ok (cells.◌then◌ r all_items)) carried_out
        ∙ ends_at Entries (cell_with cell First.end Opens begun.host) (begun.settled s.at.settled);
    at = record { host = refl; node = found_stored First.end Opens cell.nodes (First.end, First.node) s.at.node; settled = begun.settled s.at.settled };
    link = begun.link;
    seen = begun.seen;
  }
