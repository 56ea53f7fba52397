-- Which processes a node has made and which of them are over, and what the node tells of them.
use Rattle.std.specs.Prelude.{◌≡◌, ℕ, zero, suc, Bool, true, false, List, [], ◌∷◌, ◌++◌, map, length, Some, None, slice_get}
use Rattle.ch_base.specs.declared.address.Address.{Address}
use Rattle.ch_ident.specs.declared.identifier.ProcessId.{ProcessId}
use Rattle.ch_mail.specs.Lives.{is_over}
use Rattle.ch_mail.specs.Process.{Process}
use Rattle.ch_watch.specs.Same.{same_node}
use Rattle.ch_model.specs.declared.act.Act.{Act}
use Rattle.ch_model.specs.declared.act.Act.TheVariants as acts
use Rattle.ch_model.specs.declared.note.Note.{Note}
use Rattle.ch_model.specs.declared.note.Note.TheVariants as notes
use Rattle.ch_model.specs.NodeIds.{target_at}
use Rattle.ch_model.specs.NodeState.{NodeState, Bound, ToTarget, Arrived}

-- the roll of a node: its address, its unique number, and of each process that it made, by number, whether it is over
pub record Roll : Type 0 where
  pub own : Address
  pub unique : ℕ
  pub ends : List Bool

-- whether each process of a mail is over
abbrev pub ends_of : List Process → List Bool
ends_of mail = map (λ process. is_over process.life) mail

-- the roll of a node as it stands
abbrev pub roll_of : NodeState → Roll
roll_of node = record { own = node.own; unique = node.unique; ends = ends_of node.mail }

-- the node's process of a number
abbrev pub process_on : Roll → ℕ → ProcessId
process_on roll number = record { node = roll.own; unique = roll.unique; counter = number }

-- the process of that number was made and isn't over
abbrev pub IsThere : Roll → ℕ → Type 0
IsThere roll number = slice_get roll.ends number ≡ Some false

-- the process is the node's own, was made and isn't over
pub record IsLiving (roll : Roll) (process : ProcessId) : Type 0 where
  pub own : process ≡ process_on roll process.counter
  pub there : IsThere roll process.counter

-- the process, at the node's address, was made and isn't over
pub record IsGetting (roll : Roll) (process : ProcessId) : Type 0 where
  pub here : same_node process.node roll.own ≡ true
  pub there : IsThere roll process.counter

-- The node may tell this: a process is made with the number of those made before; what is doomed or over was made and
-- isn't over, nor is who says, takes, watches, asks, gets a name or opens a port; and who gets a message is there.
abbrev pub Permits : Roll → Note → Type 0
Permits roll (notes.Made process origin) = process ≡ process_on roll (length roll.ends)
Permits roll (notes.Over process reason) = IsLiving roll process
Permits roll (notes.Doom process text) = IsLiving roll process
Permits roll (notes.Said by to epoch index message) = IsLiving roll by
Permits roll (notes.Again by to epoch) = IsLiving roll by
Permits roll (notes.Took by port message) = IsLiving roll by
Permits roll (notes.Port port) = IsLiving roll port.process
Permits roll (notes.Watch watch by target kind) = IsLiving roll by
Permits roll (notes.Asked question by at) = IsLiving roll by
Permits roll (notes.Named node name (Some process)) = IsLiving roll process
Permits roll (notes.Named node name None) = node ≡ roll.own
Permits roll (notes.Got by to (Some receiver)) = IsGetting roll receiver
Permits roll (notes.Shut node) = node ≡ roll.own
Permits roll note = Unit {0}

-- the process of that number is over
abbrev pub over_at : ℕ → List Bool → List Bool
over_at n [] = []
over_at zero (end ∷ ends) = true ∷ ends
over_at (suc n) (end ∷ ends) = end ∷ over_at n ends

-- the roll after what the node told: one process more, one that is over, or all; nothing else changes it
abbrev pub roll_after : Note → Roll → Roll
roll_after (notes.Made process origin) roll = record roll { ends = roll.ends ++ false ∷ [] }
roll_after (notes.Over process reason) roll = record roll { ends = over_at process.counter roll.ends }
roll_after (notes.Shut node) roll = record roll { ends = map (λ end. true) roll.ends }
roll_after note roll = roll

-- the roll after all that the node told, in order
abbrev pub roll_after_all : List Note → Roll → Roll
roll_after_all [] roll = roll
roll_after_all (note ∷ rest) roll = roll_after_all rest (roll_after note roll)

-- each may be told where it stands
abbrev pub ArePermitted : List Note → Roll → Type 0
ArePermitted [] roll = Unit {0}
ArePermitted (note ∷ rest) roll = Permits roll note × ArePermitted rest (roll_after note roll)

-- what the node told was permitted, and made the one roll of the other
pub record Tells (before : Roll) (told : List Note) (after : Roll) : Type 0 where
  pub permitted : ArePermitted told before
  pub moved : after ≡ roll_after_all told before

-- what a node tells among its acts
abbrev pub notes_in : List Act → List Note
notes_in [] = []
notes_in (acts.Note note ∷ rest) = note ∷ notes_in rest
notes_in (act ∷ rest) = notes_in rest

-- a connection that goes to a process or port goes to one at this address
abbrev pub LeadsTo : Address → Bound → Type 0
LeadsTo own (ToTarget by to) = same_node (target_at to) own ≡ true
LeadsTo own bound = Unit {0}

-- each connection that arrived and goes to a process or port goes to one at this address
abbrev pub AllLeadTo : Address → List Arrived → Type 0
AllLeadTo own [] = Unit {0}
AllLeadTo own (arrived ∷ rest) = LeadsTo own arrived.bound × AllLeadTo own rest

-- each connection that arrived at the node goes to it
abbrev pub IsReached : NodeState → Type 0
IsReached node = AllLeadTo node.own node.arrived

-- what a node did is told as its roll permits, and what arrived there still goes to it
pub record LivesOn (before : NodeState) (done : List Act) (after : NodeState) : Type 0 where
  pub tells : Tells (roll_of before) (notes_in done) (roll_of after)
  pub reached : IsReached after
