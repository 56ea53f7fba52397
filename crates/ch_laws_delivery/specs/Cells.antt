-- A cell in which the sending node is: what it makes of a command by which a process sends.
use Rattle.std.specs.Prelude.{◌≡◌, ℕ, false, List, ◌∷◌, find, Some, Ok}
use Rattle.ch_ident.specs.declared.message.Message.{Message}
use Rattle.ch_static.specs.declared.command.Command.TheVariants.{Send}
use Rattle.ch_model.specs.declared.entry.Verdict.TheVariants as verdicts
use Rattle.ch_model.specs.declared.local.LocalEntry.{LocalEntry}
use Rattle.ch_model.specs.declared.local.LocalEntry.TheVariants as local
use Rattle.ch_model.specs.declared.local.LocalEvent.TheVariants.{Command}
use Rattle.ch_model.specs.declared.note.Note.TheVariants as notes
use Rattle.ch_model.specs.HostState.{HostState}
use Rattle.ch_model.specs.HostSteps.{link_with}
use Rattle.ch_model.specs.HostWrites.{is_up}
use Rattle.ch_model.specs.NodeState.{NodeState, Pair}
use Rattle.ch_model.specs.NodeIds.{process_id, target_at}
use Rattle.ch_model.specs.NodePairs.{keeping}
use Rattle.ch_model.specs.NodeRoom.{acting, not_spent}
use Rattle.ch_model.specs.NodeSends.{with_said}
use Rattle.ch_model.specs.HostCalls.{host_room}
use Rattle.ch_model.specs.WorldState.{Cell}
use Rattle.ch_model.specs.CellSteps.{is_at, store_node, told_steps}
use Rattle.ch_model.specs.Cell.{cell_step}
use Rattle.ch_delivery.specs.Moves.{Say, after}
use Rattle.ch_laws_delivery.specs.Scene.{Name, Party, Scene, link_of}
use Rattle.ch_laws_delivery.specs.Sending.{pair_at}
use Rattle.ch_laws_delivery.specs.Sends.{dial_steps, IsSettled, said_in}
use Rattle.ch_laws_delivery.specs.FirstSends.{first_after, first_in}
use Rattle.ch_laws_delivery.specs.View.{view}

-- The cell has the party's host, and its node at its endpoint; and no whole item is unread there.
pub record IsAt (party : Party) (cell : Cell) : Type 0 where
  pub host : cell.host ≡ party.host
  pub node : find (is_at party.end) cell.nodes ≡ Some (party.end, party.node)
  pub settled : IsSettled party.host

-- The process acts, and sends to a target at the peer.
pub record Sends (scene : Scene) (name : Name) (cell : Cell) : Type 0 where
  pub at : IsAt scene.from cell
  pub acts : acting scene.from.node name.by ≡ Ok tt
  pub at_peer : target_at name.to ≡ scene.from.peer

-- The same of the first message of an epoch, for which a connection can be opened.
pub record SendsFirst (scene : Scene) (name : Name) (cell : Cell) : Type 0 where
  pub at : IsAt scene.from cell
  pub acts : acting scene.from.node name.by ≡ Ok tt
  pub at_peer : target_at name.to ≡ scene.from.peer
  pub unspent : not_spent scene.from.node (pair_at scene.from.node name) (host_room scene.from.host scene.from.end scene.from.peer) ≡ Ok tt

-- the cell with another host and another node at the endpoint
abbrev pub cell_with : Cell → ℕ → NodeState → HostState → Cell
cell_with cell end node host = record cell { host = host; nodes = store_node end node cell.nodes }

-- what follows at the cell: the message is said, and the host dials where nobody does
abbrev pub sent_entries : Party → Pair → Message → List LocalEntry
sent_entries party pair said = local.Note (notes.Said (process_id party.node pair.by) pair.to pair.epoch pair.index said) ∷ told_steps (dial_steps (link_of party).state (link_of party) party.host)

-- The command is answered `ok`, the message is said, and the host dials where nobody does; nothing else follows; the scene
-- after it has the cell's host and node; and what is seen then is the passage after the move.
pub record IsSentAt (names : List Name) (scene : Scene) (c : ℕ) (name : Name) (said : Message) (cell : Cell) : Type 0 where
  pub host : HostState
  pub answered : cell_step cell (Command scene.from.end name.by (Send name.to said))
      ≡ Ok ((verdicts.Ok, sent_entries scene.from (pair_at scene.from.node name) said), cell_with cell scene.from.end (keeping scene.from.node (with_said (pair_at scene.from.node name))) host)
  pub down : is_up (link_with host scene.from.end scene.from.peer).state ≡ false
  pub at : IsAt (said_in scene c (pair_at scene.from.node name) host).from (cell_with cell scene.from.end (keeping scene.from.node (with_said (pair_at scene.from.node name))) host)
  pub seen : view names (said_in scene c (pair_at scene.from.node name) host) ≡ after (Say c) (view names scene)

-- the same of the first message of an epoch
pub record IsSentFirstAt (names : List Name) (scene : Scene) (c : ℕ) (name : Name) (conn : ℕ) (said : Message) (cell : Cell) : Type 0 where
  pub host : HostState
  pub answered : cell_step cell (Command scene.from.end name.by (Send name.to said))
      ≡ Ok ((verdicts.Ok, sent_entries scene.from (pair_at scene.from.node name) said), cell_with cell scene.from.end (first_after scene.from.node (pair_at scene.from.node name) conn) host)
  pub down : is_up (link_with host scene.from.end scene.from.peer).state ≡ false
  pub at : IsAt (first_in scene c (pair_at scene.from.node name) conn host).from (cell_with cell scene.from.end (first_after scene.from.node (pair_at scene.from.node name) conn) host)
  pub seen : view names (first_in scene c (pair_at scene.from.node name) conn host) ≡ after (Say c) (view names scene)
