-- What is known of a turn in which a process sends to a process of another node.
use Rattle.std.specs.Prelude.{◌≡◌, ◌⊎◌, ◌<◌, ◌+◌, ℕ, true, List, ◌∷◌, length, find, Some}
use Rattle.ch_ident.specs.declared.identifier.ProcessId.{ProcessId}
use Rattle.ch_ident.specs.declared.message.Message.{Message}
use Rattle.ch_light.specs.declared.TheConstants.{FIRST_ID}
use Rattle.ch_light.specs.Ids.{id_of}
use Rattle.ch_static.specs.declared.target.Target.TheVariants as targets
use Rattle.ch_model.specs.declared.line.Line.{Line}
use Rattle.ch_model.specs.declared.local.LocalEntry.{LocalEntry}
use Rattle.ch_model.specs.declared.local.LocalEntry.TheVariants as local
use Rattle.ch_model.specs.declared.name.TargetName.TheVariants as names
use Rattle.ch_model.specs.declared.note.Note.TheVariants as notes
use Rattle.ch_model.specs.declared.step.Step.{Step}
use Rattle.ch_model.specs.AccountsFrames.{Saying, pair_opening}
use Rattle.ch_model.specs.CellSteps.{told_steps, with_node}
use Rattle.ch_model.specs.HostSteps.{own_address, link_with}
use Rattle.ch_model.specs.Naming.{process_called}
use Rattle.ch_model.specs.NodeIds.{process_id, is_living}
use Rattle.ch_model.specs.NodePairs.{is_pair}
use Rattle.ch_model.specs.NodeState.{NodeState, Pair, Unopened, Opened}
use Rattle.ch_model.specs.WorldState.{Cell, World}
use Rattle.ch_laws_log.specs.HostEnds.{steps_in}
use Rattle.ch_laws_plain.specs.Talks.{MaySpell}
use Rattle.ch_laws_peers.specs.Words.{Placed}
use Rattle.ch_laws_messages.specs.SaidGoes.{bare, mark_of, IsDeclared, AreWell, sent_next, sent_first}
use Rattle.ch_laws_messages.specs.SaidPuts.{Puts}

-- the saying of a message, under these epoch and index
abbrev pub saying_of : World → NodeState → ℕ → ProcessId → ℕ → ℕ → Message → Saying
saying_of world node by to epoch index said = record { by = process_called world.names (process_id node by); to = names.Process (process_called world.names to); epoch = epoch; index = index; mark = said.mark; body = said.body }

-- A process of the node at an endpoint has said a message to one of another node, and its host has put it on the link with that node: on
-- the connection of the pair, or on a new one, behind the opening of that.
pub record Went (journal : List Line) (world : World) (cell : Cell) (end : ℕ) (node next : NodeState) (by : ℕ) (to : ProcessId) (epoch index : ℕ) (said : Message) (told : List LocalEntry) (after : Cell) : Type 0 where
  -- who sends to whom
  pub own : node.own ≡ own_address cell.host end
  pub made : by < length node.mail
  pub lives : is_living node (process_id node by) ≡ true
  pub declared : IsDeclared world to
  pub well : AreWell journal (process_called world.names (process_id node by)) (process_called world.names to)
  pub opening : List ℕ
  pub opens : pair_opening journal (process_called world.names (process_id node by)) (names.Process (process_called world.names to)) ≡ Some opening
  -- the node after it
  pub same : next ≡ record node { pairs = next.pairs; opened = next.opened }
  pub pairs : (pair : Pair) → find (is_pair pair.by pair.to) next.pairs ≡ Some pair → (pair.to ≡ targets.Process to) ⊎ (find (is_pair pair.by pair.to) node.pairs ≡ Some pair)
  pub others : (b : ℕ) (t : ProcessId) → ((b ≡ by) × (t ≡ to) → ⊥) → mark_of next b t ≡ mark_of node b t
  pub conn : ℕ
  pub marked : mark_of next by to ≡ Opened conn
  -- what is told, and what the host does
  pub steps : List Step
  pub told_is : told ≡ local.Note (notes.Said (process_id node by) (targets.Process to) epoch index said) ∷ told_steps steps
  pub nodes : after.nodes ≡ (with_node end next cell).nodes
  pub new : List Placed
  pub id : ℕ
  pub puts : Puts cell.host end to.node new (steps_in told) after.host
  pub spelled : MaySpell (bare new)
  pub given : id_of (link_with after.host end to.node).given conn ≡ Some id
  pub kept : (c n : ℕ) → id_of (link_with cell.host end to.node).given c ≡ Some n → id_of (link_with after.host end to.node).given c ≡ Some n
  pub goes : ((new ≡ sent_next id (saying_of world node by to epoch index said) (record { epoch = epoch; index = index })) × (mark_of node by to ≡ Opened conn) × (id_of (link_with cell.host end to.node).given conn ≡ Some id))
      ⊎ ((new ≡ sent_first id opening (saying_of world node by to epoch index said) (record { epoch = epoch; index = index })) × (mark_of node by to ≡ Unopened) × (id ≡ FIRST_ID + length (link_with cell.host end to.node).given))
