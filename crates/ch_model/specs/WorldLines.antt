-- What each line of a journal does to the world.
use Rattle.std.specs.Prelude.{ℕ, Bool, not, ◌&&◌, List, [], find, is_some, Option, Some, None, if◌then◌else◌}
use Rattle.std.specs.Str.{bytes_eq}
use Rattle.ch_static.specs.declared.command.Command.{Command}
use Rattle.ch_static.specs.declared.command.Command.TheVariants as commands
use Rattle.ch_model.specs.declared.entry.Entry.TheVariants as entries
use Rattle.ch_model.specs.declared.line.What.{What}
use Rattle.ch_model.specs.declared.line.What.TheVariants as lines
use Rattle.ch_model.specs.declared.local.LocalEvent.{LocalEvent}
use Rattle.ch_model.specs.declared.local.LocalEvent.TheVariants as events
use Rattle.ch_model.specs.declared.name.End.{End}
use Rattle.ch_model.specs.declared.name.End.TheVariants.{O, T}
use Rattle.ch_model.specs.declared.name.ProcName.{ProcName}
use Rattle.ch_model.specs.declared.name.SockName.{SockName}
use Rattle.ch_model.specs.Stages.{Open, is_pending, is_open, is_ended}
use Rattle.ch_model.specs.WorldState.{WorldSocket, World}
use Rattle.ch_model.specs.Naming.{Names, address_as, process_as, target_as, reference_as}
use Rattle.ch_model.specs.WorldSockets.{end_of, ended, cut, arrives, is_of_host, has_input, is_socket_named, with_socket, with_end_of, end_of_nobody, cell_of, new_socket}
use Rattle.ch_model.specs.WorldHappenings.{Answered, nothing, tells, cell_hears, joins, refuses, comes, feeds, loses, times_out}
use Rattle.ch_model.specs.Timers.{timer_runs_for}

-- ---- commands

-- the process that acts in a line, and its command
abbrev pub command_as : Names → What → Option (ProcName × Command)
command_as known (lines.Send by to mark body) = Some (by, commands.Send (target_as known to) (record { mark = mark; body = body }))
command_as known (lines.Nsend by to mark body) = Some (by, commands.Send (target_as known to) (record { mark = mark; body = body }))
command_as known (lines.Again by to) = Some (by, commands.Again (target_as known to))
command_as known (lines.Recv by mark) = Some (by, commands.Receive mark)
command_as known (lines.Port by) = Some (by, commands.OpenPort)
command_as known (lines.Take by port) = Some (by, commands.Take port)
command_as known (lines.End by) = Some (by, commands.End)
command_as known (lines.Fail by text) = Some (by, commands.Fail text)
command_as known (lines.Fall by) = Some (by, commands.Fall)
command_as known (lines.Monitor by target) = Some (by, commands.Monitor (process_as known target))
command_as known (lines.Link by target) = Some (by, commands.Link (process_as known target))
command_as known (lines.Unwatch by watch) = Some (by, commands.Unwatch (reference_as known watch))
command_as known (lines.Exit by target text) = Some (by, commands.Exit (process_as known target) text)
command_as known (lines.Kill by target text) = Some (by, commands.Kill (process_as known target) text)
command_as known (lines.Spawn by at label args) = Some (by, commands.Spawn (address_as known at) (record { label = label; args = args }))
command_as known (lines.Register by name) = Some (by, commands.Register name)
command_as known (lines.Unregister by name) = Some (by, commands.Unregister name)
command_as known (lines.Whereis by at name) = Some (by, commands.WhereIs (address_as known at) name)
command_as known what = None

-- the node of this name hears an event at its endpoint
abbrev pub node_hears : List ℕ → (ℕ → LocalEvent) → World → Answered
node_hears name event world =
    let own = address_as world.names name in
    elim (cell_of world own) [
      | None ↦ nothing world
      | Some place ↦ cell_hears place (event own.id) world
    ]

-- ---- sockets

-- a socket of this name, where it was opened and stands as the test asks; else nothing happens
abbrev pub on_socket : SockName → (WorldSocket → Bool) → (WorldSocket → World → Answered) → World → Answered
on_socket name test f world = elim (find (is_socket_named name) world.sockets) [
  | None ↦ nothing world
  | Some socket ↦ (if test socket then f socket world else nothing world)
]

-- the opener's end is pending, and the target's host is there
abbrev pub can_join : WorldSocket → Bool
can_join socket = is_pending socket.o.stage && is_some socket.t.cell

abbrev pub can_come : WorldSocket → Bool
can_come socket = is_pending socket.t.stage

abbrev pub can_refuse : WorldSocket → Bool
can_refuse socket = is_pending socket.o.stage

-- an end of a host that is open
abbrev pub is_at_work : End → WorldSocket → Bool
is_at_work which socket = is_open (end_of which socket).stage && is_of_host (end_of which socket)

abbrev pub can_feed : End → WorldSocket → Bool
can_feed which socket = is_at_work which socket && has_input which socket

abbrev pub can_cut : End → WorldSocket → Bool
can_cut which socket = is_at_work which socket && not (end_of which socket).is_cut

-- what is unread towards an end is gone, and nothing more arrives there
abbrev pub cuts : End → WorldSocket → World → Answered
cuts which socket world = tells (entries.Cut socket.name which) (with_end_of socket.name which cut world)

-- ---- strangers

-- a stranger's socket whose opener's end stands
abbrev pub is_strangers : WorldSocket → Bool
is_strangers socket = not (is_of_host socket.o) && not (is_ended socket.o.stage)

abbrev pub stranger_host : World → List ℕ → List ℕ
stranger_host world name = elim (find (λ stranger. bytes_eq stranger.0 name) world.strangers) [
  | None ↦ []
  | Some stranger ↦ stranger.1
]

-- a stranger opens a socket to a node's host: its own end is open, and it reads nothing
abbrev pub knocks : List ℕ → List ℕ → World → Answered
knocks stranger node world =
    let socket = new_socket world stranger node (stranger_host world stranger) (end_of_nobody None None Open) (address_as world.names node) in
    tells (entries.Knocked socket.name) (with_socket socket world)

abbrev pub pokes : List ℕ → WorldSocket → World → Answered
pokes bytes socket world = tells (entries.Poked socket.name bytes) (with_end_of socket.name T (arrives bytes) world)

abbrev pub quits : WorldSocket → World → Answered
quits socket world = tells (entries.Quitted socket.name) (with_end_of socket.name O ended world)

-- ---- all lines but `settle`

-- a line that isn't a command of a process
abbrev pub other_line : What → World → Answered
other_line (lines.Proc node) world = node_hears node (λ end. events.Make end) world
other_line (lines.Shut node) world = node_hears node (λ end. events.Shut end) world
other_line (lines.Join sock) world = on_socket sock can_join joins world
other_line (lines.Come sock) world = on_socket sock can_come comes world
other_line (lines.Refuse sock) world = on_socket sock can_refuse refuses world
other_line (lines.Feed sock end count) world = on_socket sock (can_feed end) (feeds end count) world
other_line (lines.Cut sock end) world = on_socket sock (can_cut end) (cuts end) world
other_line (lines.Lose sock end) world = on_socket sock (is_at_work end) (loses end) world
other_line (lines.Late node peer) world = if timer_runs_for world node peer then times_out node peer world else nothing world
other_line (lines.Knock stranger node) world = knocks stranger node world
other_line (lines.Poke sock bytes) world = on_socket sock is_strangers (pokes bytes) world
other_line (lines.Quit sock) world = on_socket sock is_strangers quits world
other_line what world = nothing world

-- what a line does, with all that follows
abbrev pub line_done : What → World → Answered
line_done what world = elim (command_as world.names what) [
  | None ↦ other_line what world
  | Some asked ↦ node_hears asked.0.node (λ end. events.Command end asked.0.counter asked.1) world
]
