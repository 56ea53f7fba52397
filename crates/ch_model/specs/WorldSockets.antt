-- The world's sockets: which there are, how their ends stand, and what is unread.
use Rattle.std.specs.Prelude.{ℕ, Bool, true, false, ◌&&◌, ◌||◌, ◌==◌, List, [], ◌∷◌, ◌++◌, length, find, count_by, position, is_some, Option, Some, None, nat_lt, if◌then◌else◌}
use Rattle.std.specs.Str.{bytes_eq}
use Rattle.ch_base.specs.declared.address.Address.{Address}
use Rattle.ch_model.specs.declared.name.End.{End}
use Rattle.ch_model.specs.declared.name.End.TheVariants.{O, T}
use Rattle.ch_model.specs.declared.name.SockName.{SockName}
use Rattle.ch_model.specs.declared.step.Place.{Place}
use Rattle.ch_model.specs.Stages.{Stage, Pending, Open, Ended, is_ended}
use Rattle.ch_model.specs.WorldState.{Cell, WorldEnd, WorldSocket, World}
use Rattle.ch_model.specs.Naming.{same_ends}
use Rattle.ch_model.specs.Same.{same_socket}

-- ---- ends

-- an end that nobody has taken yet
abbrev pub end_of_nobody : Option ℕ → Option ℕ → Stage → WorldEnd
end_of_nobody cell number stage = record { cell = cell; number = number; stage = stage; unread = []; places = []; is_cut = false }

abbrev pub end_of : End → WorldSocket → WorldEnd
end_of O socket = socket.o
end_of T socket = socket.t

abbrev pub other : End → End
other O = T
other T = O

abbrev pub with_end : End → WorldEnd → WorldSocket → WorldSocket
with_end O end socket = record socket { o = end }
with_end T end socket = record socket { t = end }

-- an end that is over: nothing is unread any more
abbrev pub ended : WorldEnd → WorldEnd
ended end = record end { stage = Ended; unread = []; places = [] }

-- an end that nothing arrives at any more
abbrev pub cut : WorldEnd → WorldEnd
cut end = record end { is_cut = true; unread = []; places = [] }

abbrev pub opened : WorldEnd → WorldEnd
opened end = record end { stage = Open }

-- what is written towards an end that is over or cut is gone
abbrev pub arrives : List ℕ → WorldEnd → WorldEnd
arrives bytes end = if is_ended end.stage || end.is_cut then end else record end { unread = end.unread ++ bytes }

-- an item is written towards an end, with the place of the message that it carries
abbrev pub item_arrives : List ℕ → Option Place → WorldEnd → WorldEnd
item_arrives bytes said end = if is_ended end.stage || end.is_cut then end else record end { unread = end.unread ++ bytes; places = end.places ++ said ∷ [] }

-- an end of a host, and not of a stranger
abbrev pub is_of_host : WorldEnd → Bool
is_of_host end = is_some end.cell

-- something can be handed to an end: bytes, or the end of its input
abbrev pub has_input : End → WorldSocket → Bool
has_input end socket = nat_lt 0 (length (end_of end socket).unread) || ((end_of end socket).is_cut || is_ended (end_of (other end) socket).stage)

-- ---- sockets by name, and by a host's number

abbrev pub is_socket_named : SockName → WorldSocket → Bool
is_socket_named name socket = same_socket socket.name name

-- the socket is kept in place of the one with its name; one that is new comes last
abbrev pub store_in : WorldSocket → List WorldSocket → List WorldSocket
store_in socket [] = socket ∷ []
store_in socket (known ∷ rest) = if is_socket_named socket.name known then socket ∷ rest else known ∷ store_in socket rest

abbrev pub with_socket : WorldSocket → World → World
with_socket socket world = record world { sockets = store_in socket world.sockets }

-- one end of a socket is changed
abbrev pub with_end_of : SockName → End → (WorldEnd → WorldEnd) → World → World
with_end_of name end f world = elim (find (is_socket_named name) world.sockets) [
  | None ↦ world
  | Some socket ↦ with_socket (with_end end (f (end_of end socket)) socket) world
]

abbrev pub same_number : Option ℕ → ℕ → Bool
same_number None n = false
same_number (Some m) n = m == n

-- the end is of that cell, under that number
abbrev pub is_end_of : ℕ → ℕ → WorldEnd → Bool
is_end_of cell number end = same_number end.cell cell && same_number end.number number

-- which end of a socket a cell has under that number
abbrev pub end_at : ℕ → ℕ → WorldSocket → Option End
end_at cell number socket = if is_end_of cell number socket.o then Some O else (if is_end_of cell number socket.t then Some T else None)

-- the socket and the end that a cell has under a number
abbrev pub find_end : ℕ → ℕ → List WorldSocket → Option (SockName × End)
find_end cell number [] = None
find_end cell number (socket ∷ rest) = elim (end_at cell number socket) [
  | Some end ↦ Some (socket.name, end)
  | None ↦ find_end cell number rest
]

-- ---- new sockets

-- the name of the next socket of one to another
abbrev pub next_name : World → List ℕ → List ℕ → SockName
next_name world from to = record { from = from; to = to; number = count_by (λ socket. same_ends from to socket.name) world.sockets }

-- the cell of an address's host and port
abbrev pub is_host_of : Address → Cell × ℕ → Bool
is_host_of address cell = bytes_eq cell.0.host.host address.host && cell.0.host.port == address.port

-- the place of the cell that an address is at, where it is of the journal
abbrev pub cell_of : World → Address → Option ℕ
cell_of world address = position (is_host_of address) world.cells

-- how the target's end of a new socket stands: pending, or ended where its host isn't there
abbrev pub target_end : Option ℕ → WorldEnd
target_end None = end_of_nobody None None Ended
target_end (Some cell) = end_of_nobody (Some cell) None Pending

-- a new socket, from an opener's end to the host of an address
abbrev pub new_socket : World → List ℕ → List ℕ → List ℕ → WorldEnd → Address → WorldSocket
new_socket world from to from_host opener address = record { name = next_name world from to; from_host = from_host; o = opener; t = target_end (cell_of world address) }
