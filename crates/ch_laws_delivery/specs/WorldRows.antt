-- Small worlds of two nodes in cells of their own.
use Rattle.std.specs.Prelude.{ℕ, true, nat_eq, false, List, [], ◌∷◌, ◌++◌, Option, Some, None}
use Rattle.ch_link.specs.declared.LinkState.TheVariants.{Up}
use Rattle.ch_mail.specs.declared.life.Life.TheVariants.{Live}
use Rattle.ch_model.specs.declared.act.Act.{Act}
use Rattle.ch_model.specs.declared.act.Act.TheVariants as acts
use Rattle.ch_model.specs.declared.note.Note.TheVariants as notes
use Rattle.ch_model.specs.NodeState.{NodeState}
use Rattle.ch_model.specs.NodeIds.{process_id}
use Rattle.ch_model.specs.declared.name.ProcName.{ProcName}
use Rattle.ch_model.specs.declared.name.End.TheVariants.{T}
use Rattle.ch_model.specs.declared.name.SockName.{SockName}
use Rattle.ch_model.specs.Stages.{Open}
use Rattle.ch_model.specs.declared.name.TargetName.{TargetName}
use Rattle.ch_model.specs.declared.name.TargetName.TheVariants as targets
use Rattle.ch_model.specs.WorldState.{Cell, WorldEnd, WorldSocket, World}
use Rattle.ch_laws_delivery.specs.Scene.{Party, Scene}
use Rattle.ch_laws_delivery.specs.Worlds.{Leg}
use Rattle.ch_laws_delivery.specs.Rows.{here, there, host_at, link_to, way_with, at_start, the_use, bound_there, up_with}

-- the cell that has a party alone
abbrev pub cell_of_party : Party → Cell
cell_of_party party = record { host = party.host; nodes = (party.end, party.node) ∷ [] }

-- a world of the two nodes of a scene, `a` and `b`
abbrev pub world_with : Scene → List WorldSocket → World
world_with scene sockets = record {
  names = record { name = 97 ∷ []; address = here; unique = 0; is_node = true } ∷ record { name = 98 ∷ []; address = there; unique = 0; is_node = true } ∷ [];
  strangers = [];
  cells = (cell_of_party scene.from, 0) ∷ (cell_of_party scene.to, 0) ∷ [];
  sockets = sockets;
  last = None;
}

-- no socket has come up
abbrev pub no_legs : ℕ → Option Leg
no_legs i = None

-- the process that sends, and the one that it sends to
abbrev pub the_process : ProcName
the_process = record { node = 97 ∷ []; counter = 0 }

abbrev pub the_target : TargetName
the_target = targets.Process (record { node = 98 ∷ []; counter = 0 })

-- a second process is made
abbrev pub acts_of_proc : NodeState → List Act
acts_of_proc node = acts.Note (notes.Made (process_id node 1) None) ∷ []

abbrev pub after_proc : NodeState → NodeState
after_proc node = record node { mail = node.mail ++ record { life = Live; mailbox = []; ports = [] } ∷ []; args = node.args ++ [] ∷ [] }

-- ---- both nodes are up

-- the one socket of the way: its end of the sending node's host has number 0 there, and the other's has number 1
abbrev pub the_socket : SockName
the_socket = record { from = 97 ∷ []; to = 98 ∷ []; number = 0 }

abbrev pub end_of_cell : ℕ → ℕ → WorldEnd
end_of_cell cell number = record { cell = Some cell; number = Some number; stage = Open; unread = []; places = []; is_cut = false }

abbrev pub up_sockets : List WorldSocket
up_sockets = record { name = the_socket; from_host = here.host; o = end_of_cell 0 0; t = end_of_cell 1 1 } ∷ []

-- it is the leg of number 1
abbrev pub the_leg : Leg
the_leg = record { socket = the_socket; toward = T; uses = Some the_use ∷ [] }

abbrev pub up_legs : ℕ → Option Leg
up_legs i = elim (nat_eq i 1) [ true ↦ Some the_leg | false ↦ None ]

-- a message was said and got, and both are up
abbrev pub both_up : Scene
both_up = up_with bound_there []

-- both are up on it, and nothing was said yet
abbrev pub both_fresh : Scene
both_fresh = record at_start {
  from = record (at_start.from) { host = host_at here (link_to there (Up 0 false) [] [] ∷ []) };
  to = record (at_start.to) { host = host_at there (link_to here (Up 1 false) [] [] ∷ []) };
  way = way_with 1 [];
}

abbrev pub fresh_leg : Leg
fresh_leg = record the_leg { uses = [] }

abbrev pub fresh_legs : ℕ → Option Leg
fresh_legs i = elim (nat_eq i 1) [ true ↦ Some fresh_leg | false ↦ None ]
