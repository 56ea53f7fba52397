-- What the nodes of a cell make of what its host has read of plain streams.
use Rattle.std.specs.Prelude.{◌≡◌, ◌⊎◌, ℕ, false, List, [], ◌∷◌, ◌++◌, find, Option, Some, None}
use Rattle.ch_base.specs.declared.address.Address.{Address}
use Rattle.ch_wire.specs.declared.frame.Frame.{Frame}
use Rattle.ch_wire.specs.declared.frame.Frame.TheVariants as frames
use Rattle.ch_light.specs.declared.Connection.{Connection}
use Rattle.ch_watch.specs.Same.{same_node}
use Rattle.ch_model.specs.declared.act.Act.{Act}
use Rattle.ch_model.specs.declared.local.LocalEntry.{LocalEntry}
use Rattle.ch_model.specs.declared.local.LocalEntry.TheVariants as local
use Rattle.ch_model.specs.declared.step.Step.{Step}
use Rattle.ch_model.specs.declared.step.Step.TheVariants as steps
use Rattle.ch_model.specs.HostState.{HostState}
use Rattle.ch_model.specs.NodeState.{NodeState}
use Rattle.ch_model.specs.WorldState.{Cell}
use Rattle.ch_laws_calls.specs.FitsTurns.{bytes_at, NoDials}
use Rattle.ch_laws_log.specs.HostEnds.{steps_in}
use Rattle.ch_laws_plain_nodes.specs.Acts.{IsPlainNote, AreNotes}
use Rattle.ch_laws_plain.specs.Plain.{is_unread_of, id_for, NodeIsPlain, CellIsPlain}
use Rattle.ch_laws_plain.specs.Streams.{PlainOn}
use Rattle.ch_laws_plain.specs.Turns.{CellCarries}

-- ---- what is told

-- the steps but those that post: these are told
abbrev pub unposted : List Step → List Step
unposted [] = []
unposted (steps.Post end event ∷ rest) = unposted rest
unposted (step ∷ rest) = step ∷ unposted rest

-- each note that is told is a plain one
abbrev pub AllPlainNotes : List LocalEntry → Type 0
AllPlainNotes [] = Unit {0}
AllPlainNotes (local.Note note ∷ rest) = IsPlainNote note × AllPlainNotes rest
AllPlainNotes (local.Step step ∷ rest) = AllPlainNotes rest

-- ---- what is read

-- whatever is plain behind these frames, where the first stood, is plain where the second stands
abbrev pub Moves : Option ℕ → List Frame → Option ℕ → Type 0
Moves before read next = (more : List Frame) → PlainOn before (read ++ more) None → PlainOn next more None

-- ---- what a node makes of it

-- the one frame that leaves the opening of a connection unread is the one that creates it
abbrev pub IsAfter : List Frame → Option ℕ → Type 0
IsAfter read next = (next ≡ None) ⊎ ((id : ℕ) × (next ≡ Some id) × (read ≡ frames.Created id ∷ []))

-- A plain node hears what these frames from a peer brought, where its host has created these ids then: it does nothing, but may tell
-- of it, and stays plain. Of the peer an opening is unread where the frames created its connection, and of each other peer as it was.
pub record HearsPlainly (peer : Address) (created : List Connection) (read : List Frame) (node : NodeState) (done : List Act) (next : NodeState) : Type 0 where
  pub did : AreNotes done
  pub plain : NodeIsPlain next
  pub here : IsAfter read (id_for created (find (is_unread_of peer) next.arrived))
  pub others : (p : Address) → same_node peer p ≡ false → find (is_unread_of p) next.arrived ≡ find (is_unread_of p) node.arrived

-- ---- what a cell makes of it

-- The nodes have heard what the host has read: all steps are told but what was posted, and beside them plain notes alone; the host is
-- as it was; the streams at its ends are carried on, and the cell is plain.
pub record ReadTurn (own : ℕ → Address) (cell : Cell) (done : List Step) (host : HostState) (told : List LocalEntry) (after : Cell) : Type 0 where
  pub same_host : after.host ≡ host
  pub same_steps : steps_in told ≡ unposted done
  pub written : (n : ℕ) → bytes_at n (steps_in told) ≡ bytes_at n done
  pub dials : NoDials done → NoDials (steps_in told)
  pub notes : AllPlainNotes told
  pub carries : CellCarries own cell (steps_in told) after
  pub plain : CellIsPlain after
