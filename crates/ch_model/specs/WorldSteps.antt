-- The entries of what followed at a cell, in the journal's names, and what it does to the world's sockets.
use Rattle.std.specs.Prelude.{ℕ, List, [], ◌∷◌, ◌++◌, find, Option, Some, None}
use Rattle.std.specs.Option.{option_map}
use Rattle.ch_base.specs.declared.address.Address.{Address}
use Rattle.ch_model.specs.declared.entry.Entry.{Entry}
use Rattle.ch_model.specs.declared.entry.Entry.TheVariants as entries
use Rattle.ch_model.specs.declared.local.LocalEntry.{LocalEntry}
use Rattle.ch_model.specs.declared.local.LocalEntry.TheVariants as local
use Rattle.ch_model.specs.declared.name.End.{End}
use Rattle.ch_model.specs.declared.name.SockName.{SockName}
use Rattle.ch_model.specs.declared.note.Note.{Note}
use Rattle.ch_model.specs.declared.note.Note.TheVariants as notes
use Rattle.ch_model.specs.declared.step.Place.{Place}
use Rattle.ch_model.specs.declared.step.Step.{Step}
use Rattle.ch_model.specs.declared.step.Step.TheVariants as steps
use Rattle.ch_model.specs.Stages.{Pending}
use Rattle.ch_model.specs.HostSteps.{own_address}
use Rattle.ch_model.specs.WorldState.{Cell, WorldSocket, World}
use Rattle.ch_model.specs.Naming.{Names, called, process_called, target_called, reference_called, maybe_called}
use Rattle.ch_model.specs.WorldSockets.{end_of, other, is_socket_named, ended, item_arrives, end_of_nobody, with_socket, with_end_of, find_end, new_socket}

-- the place of a message that is got, or the first of its pair where none is known
abbrev pub or_first : Option Place → Place
or_first (Some place) = place
or_first None = record { epoch = 0; index = 0 }

-- ---- notes

-- the entry of a note, where the message last said or read has that place
abbrev pub note_entry : Names → Option Place → Note → Entry
note_entry known last (notes.Made process origin) = entries.Made (process_called known process) (option_map (λ o. reference_called known o.spawn) origin) (option_map (λ o. o.label) origin)
note_entry known last (notes.Said by to epoch index message) = entries.Said (process_called known by) (target_called known to) epoch index message.mark message.body
note_entry known last (notes.Again by to epoch) = entries.Again (process_called known by) (target_called known to) epoch
note_entry known last (notes.Got by to receiver) = entries.Got (process_called known by) (target_called known to) (or_first last).epoch (or_first last).index (maybe_called known receiver)
note_entry known last (notes.Took by port message) = entries.Took (process_called known by) port message.mark message.body
note_entry known last (notes.Port port) = entries.Port (process_called known port.process) port.port
note_entry known last (notes.Over process reason) = entries.Over (process_called known process) reason
note_entry known last (notes.Doom process text) = entries.Doom (process_called known process) text
note_entry known last (notes.Watch watch by target kind) = entries.Watch (reference_called known watch) (process_called known by) (process_called known target) kind
note_entry known last (notes.Unwatch watch) = entries.Unwatch (reference_called known watch)
note_entry known last (notes.Absent watch) = entries.Absent (reference_called known watch)
note_entry known last (notes.Told watch reason) = entries.Told (reference_called known watch) reason
note_entry known last (notes.Asked question by at) = entries.Asked (reference_called known question) (process_called known by) (called known at)
note_entry known last (notes.Spawned question process) = entries.Spawned (reference_called known question) (process_called known process)
note_entry known last (notes.IsAt question found) = entries.Isat (reference_called known question) (maybe_called known found)
note_entry known last (notes.Named node name process) = entries.Named (called known node) name (maybe_called known process)
note_entry known last (notes.Shut node) = entries.Shut (called known node)

-- the place of the message last said or read, after a note
abbrev pub place_after : Option Place → Note → Option Place
place_after last (notes.Said by to epoch index message) = Some (record { epoch = epoch; index = index })
place_after last note = last

-- a note is told
abbrev pub noted : Note → World → List Entry × World
noted note world = (note_entry world.names world.last note ∷ [], record world { last = place_after world.last note })

-- ---- steps

-- a step on the socket and the end that a cell has under a number
abbrev pub on_end : ℕ → ℕ → (SockName × End → World → List Entry × World) → World → List Entry × World
on_end cell sock f world = elim (find_end cell sock world.sockets) [
  | None ↦ ([], world)
  | Some at ↦ f at world
]

-- a socket is dialed: both ends are pending, or the target's is over from the start
abbrev pub dials : ℕ → ℕ → List ℕ → Address → Address → World → List Entry × World
dials cell sock from_host own peer world =
    let socket = new_socket world (called world.names own) (called world.names peer) from_host (end_of_nobody (Some cell) (Some sock) Pending) peer in
    (entries.Dial socket.name ∷ [], with_socket socket world)

abbrev pub first_place : List (Option Place) → Option Place
first_place [] = None
first_place (place ∷ rest) = place

abbrev pub later_places : List (Option Place) → List (Option Place)
later_places [] = []
later_places (place ∷ rest) = rest

-- the next item towards an end of this socket is read: the place of its message is the last one read
abbrev pub item_is_read : SockName × End → Option WorldSocket → World → World
item_is_read at None world = world
item_is_read at (Some socket) world = record (with_end_of at.0 at.1 (λ end. record end { places = later_places end.places }) world) { last = first_place (end_of at.1 socket).places }

abbrev pub reads_item : SockName × End → World → List Entry × World
reads_item at world = ([], item_is_read at (find (is_socket_named at.0) world.sockets) world)

-- an end is closed
abbrev pub end_closes : SockName × End → World → World
end_closes at world = with_end_of at.0 at.1 ended world

-- a step of a cell's host is told, and does what it does to the sockets
abbrev pub stepped : ℕ → Cell → Step → World → List Entry × World
stepped place cell (steps.Dial sock end peer) world = dials place sock cell.host.host (own_address cell.host end) peer world
stepped place cell (steps.Read sock) world = on_end place sock reads_item world
stepped place cell (steps.Write sock bytes said) world = on_end place sock (λ at now. (entries.Wrote at.0 at.1 bytes ∷ [], with_end_of at.0 (other at.1) (item_arrives bytes said) now)) world
stepped place cell (steps.Up sock) world = on_end place sock (λ at now. (entries.Up at.0 at.1 ∷ [], now)) world
stepped place cell (steps.Down sock) world = on_end place sock (λ at now. (entries.Down at.0 at.1 ∷ [], end_closes at now)) world
stepped place cell (steps.Left sock) world = on_end place sock (λ at now. (entries.Left at.0 at.1 ∷ [], end_closes at now)) world
stepped place cell (steps.Broke end peer why) world = (entries.Broke (called world.names (own_address cell.host end)) (called world.names peer) why ∷ [], world)
stepped place cell (steps.Post end event) world = ([], world)

-- ---- what followed

-- one thing that followed at a cell
abbrev pub local_told : ℕ → Cell → LocalEntry → World → List Entry × World
local_told place cell (local.Step step) world = stepped place cell step world
local_told place cell (local.Note note) world = noted note world

-- entries before those of what follows
abbrev pub after_told : List Entry → List Entry × World → List Entry × World
after_told before more = (before ++ more.0, more.1)

-- all that followed at a cell, in order
abbrev pub all_told : ℕ → Cell → List LocalEntry → World → List Entry × World
all_told place cell [] world = ([], world)
all_told place cell (entry ∷ rest) world =
    let one = local_told place cell entry world in
    after_told one.0 (all_told place cell rest one.1)
