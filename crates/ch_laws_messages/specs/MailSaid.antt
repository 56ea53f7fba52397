-- That what a node gets from another is what was said there.
use Rattle.std.specs.Prelude.{◌≡◌, ℕ, false, List, [], ◌∷◌, ◌++◌, find, slice_get, Some, Ok, ◌==◌}
use Rattle.ch_base.specs.declared.event.Event.TheVariants.{Received}
use Rattle.ch_ident.specs.declared.identifier.ProcessId.{ProcessId}
use Rattle.ch_ident.specs.declared.message.Message.{Message}
use Rattle.ch_ident.specs.Reading.{user_of}
use Rattle.ch_static.specs.declared.target.Target.TheVariants as targets
use Rattle.ch_model.specs.declared.entry.Entry.{Entry}
use Rattle.ch_model.specs.declared.entry.Entry.TheVariants.{Got}
use Rattle.ch_model.specs.declared.local.LocalEntry.{LocalEntry}
use Rattle.ch_model.specs.declared.name.TargetName.TheVariants as names
use Rattle.ch_model.specs.declared.step.Step.{Step}
use Rattle.ch_model.specs.CellSteps.{is_at, steps_on}
use Rattle.ch_model.specs.Host.{host_next}
use Rattle.ch_model.specs.HostState.{HostState}
use Rattle.ch_model.specs.Mailboxes.{message_of}
use Rattle.ch_model.specs.Naming.{process_called}
use Rattle.ch_model.specs.NodeState.{NodeState, ToTarget, Arrived}
use Rattle.ch_model.specs.WorldState.{Cell, World}
use Rattle.ch_laws_calls.specs.Calls.{Claim, with_host}
use Rattle.ch_laws_plain.specs.ReadsReading.{posts_in}
use Rattle.ch_laws_calls.specs.Turns.{told_on}
use Rattle.ch_laws_messages.specs.MailMail.{is_gone}

-- The host of the cell has read a payload on a connection that arrived at the node of an endpoint, bound to messages between these
-- two processes, of which the second isn't over; the payload is that message, and these entries tell that it was got, as one of this
-- epoch and index.
pub record IsGotSo (world : World) (cell : Cell × ℕ) (steps : List Step) (told : List Entry) (from to : ProcessId) (message : Message) (epoch index : ℕ) : Type 0 where
  pub end : ℕ
  pub conn : ℕ
  pub payload : List ℕ
  pub posted : posts_in steps ≡ (end, Received conn payload) ∷ []
  pub there : ℕ × NodeState
  pub found : find (is_at end) cell.0.nodes ≡ Some there
  pub arrived : Arrived
  pub came : find (λ known. known.conn == conn) there.1.arrived ≡ Some arrived
  pub bound : arrived.bound ≡ ToTarget from (targets.Process to)
  pub read : user_of payload ≡ Ok message
  pub lives : is_gone (slice_get there.1.mail to.counter) ≡ false
  pub before : List Entry
  pub behind : List Entry
  pub so_told : told ≡ before ++ Got (process_called world.names from) (names.Process (process_called world.names to)) epoch index (Some (process_called world.names to)) ∷ behind

-- what these entries tell as got is the message that was said between the two before, as that of the epoch and index
pub record GotIsSaid (log : List Entry) (world : World) (cell : Cell × ℕ) (steps : List Step) (told : List Entry) : Type 0 where
  pub said : (from to : ProcessId) (message : Message) (epoch index : ℕ) → IsGotSo world cell steps told from to message epoch index
      → message_of log (process_called world.names from) (names.Process (process_called world.names to)) epoch index ≡ Some message

-- so it is in each turn in which a host reads an item, where P holds before it and Q after it
pub record GotsAreSaid (P Q : Claim) : Type 0 where
  pub item : (log : List Entry) (world : World) (place : ℕ) (cell : Cell × ℕ) (steps : List Step) (host : HostState) (told : List LocalEntry) (after : Cell) → slice_get world.cells place ≡ Some cell → host_next cell.0.host ≡ Ok (Some steps, host) → steps_on steps (with_host cell host) ≡ Ok (told, after) → P log world
      → let done = told_on place cell after told world in Q (log ++ done.0) done.1 → GotIsSaid log world cell steps done.0
