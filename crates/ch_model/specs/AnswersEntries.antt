-- What the own entries of lines are: tests of one entry each.
use Rattle.std.specs.Prelude.{ℕ, Bool, false, ◌&&◌, List, Option, Some, None, ◌==◌}
use Rattle.std.specs.Str.{bytes_eq}
use Rattle.ch_watch.specs.declared.waiting.Kind.{Kind}
use Rattle.ch_watch.specs.declared.waiting.Kind.TheVariants as kinds
use Rattle.ch_model.specs.declared.name.ProcName.{ProcName}
use Rattle.ch_model.specs.declared.name.SockName.{SockName}
use Rattle.ch_model.specs.declared.name.TargetName.{TargetName}
use Rattle.ch_model.specs.declared.name.End.{End}
use Rattle.ch_model.specs.declared.entry.Entry.{Entry}
use Rattle.ch_model.specs.declared.entry.Entry.TheVariants as entries
use Rattle.ch_model.specs.Same.{same_process, same_target, same_socket, same_end, same_finding}

-- a process of this node is made, by no spawn
abbrev pub makes_unspawned : List ℕ → Entry → Bool
makes_unspawned x (entries.Made process None None) = bytes_eq process.node x
makes_unspawned x entry = false

-- this message is said by this process to this target
abbrev pub says_so : ProcName → TargetName → List ℕ → List ℕ → Entry → Bool
says_so p d word bytes (entries.Said by to epoch index mark body) = same_process by p && same_target to d && bytes_eq mark word && bytes_eq body bytes
says_so p d word bytes entry = false

-- the process opens a port
abbrev pub opens_a_port : ProcName → Entry → Bool
opens_a_port p (entries.Port process port) = same_process process p
opens_a_port p entry = false

-- the process watches this one so, under a reference of its node
abbrev pub watches_so : ProcName → ProcName → Kind → Entry → Bool
watches_so p q kinds.Monitor (entries.Watch watch by target kinds.Monitor) = bytes_eq watch.node p.node && same_process by p && same_process target q
watches_so p q kinds.Link (entries.Watch watch by target kinds.Link) = bytes_eq watch.node p.node && same_process by p && same_process target q
watches_so p q kind entry = false

-- the process asks another node, under a reference of its own
abbrev pub asks_so : ProcName → List ℕ → Entry → Bool
asks_so p x (entries.Asked question by at) = bytes_eq question.node p.node && same_process by p && bytes_eq at x
asks_so p x entry = false

-- a process of this node is made with this label, under a reference of the node
abbrev pub makes_so : List ℕ → List ℕ → Entry → Bool
makes_so x word (entries.Made process (Some spawn) (Some label)) = bytes_eq process.node x && bytes_eq spawn.node x && bytes_eq label word
makes_so x word entry = false

-- this is found for a name, under a reference of this node
abbrev pub finds_so : List ℕ → Option ProcName → Entry → Bool
finds_so x process (entries.Isat question found) = bytes_eq question.node x && same_finding found process
finds_so x process entry = false

-- the node's name stands for this process from now on, or for none
abbrev pub names_so : List ℕ → List ℕ → Option ProcName → Entry → Bool
names_so x w found (entries.Named node name process) = bytes_eq node x && bytes_eq name w && same_finding process found
names_so x w found entry = false

-- the opener's end is joined
abbrev pub joins : SockName → Entry → Bool
joins s (entries.Joined sock) = same_socket sock s
joins s entry = false

-- the dial was refused
abbrev pub refuses : SockName → Entry → Bool
refuses s (entries.Refused sock) = same_socket sock s
refuses s entry = false

-- so many bytes are fed to this end
abbrev pub feeds_so : SockName → End → ℕ → Entry → Bool
feeds_so s e n (entries.Fed sock end count) = same_socket sock s && same_end end e && count == n
feeds_so s e n entry = false

-- this end loses its socket
abbrev pub loses : SockName → End → Entry → Bool
loses s e (entries.Lost sock end) = same_socket sock s && same_end end e
loses s e entry = false

-- the timer of the first node for the second was due
abbrev pub is_timed : List ℕ → List ℕ → Entry → Bool
is_timed x y (entries.Timed node peer) = bytes_eq node x && bytes_eq peer y
is_timed x y entry = false

-- this stranger has knocked at this node
abbrev pub knocks_at : List ℕ → List ℕ → Entry → Bool
knocks_at x y (entries.Knocked sock) = bytes_eq sock.from x && bytes_eq sock.to y
knocks_at x y entry = false

-- this socket is knocked
abbrev pub knocks : List ℕ → List ℕ → ℕ → Entry → Bool
knocks x y n (entries.Knocked sock) = bytes_eq sock.from x && bytes_eq sock.to y && sock.number == n
knocks x y n entry = false

-- these bytes are poked
abbrev pub pokes_so : SockName → List ℕ → Entry → Bool
pokes_so s piece (entries.Poked sock bytes) = same_socket sock s && bytes_eq bytes piece
pokes_so s piece entry = false

-- the stranger has ended its end
abbrev pub quits : SockName → Entry → Bool
quits s (entries.Quitted sock) = same_socket sock s
quits s entry = false
