-- One live socket: at each moment at most one socket of each pair of nodes is live, and none is accepted over a link that is up.
use Rattle.std.specs.Prelude.{Bool, true, not, ◌&&◌, ◌||◌, List, count_by, filter, filter_map, Option, Some, None, IsTrue, nat_le}
use Rattle.std.specs.List.{list_any, list_all}
use Rattle.ch_model.specs.declared.name.SockName.{SockName}
use Rattle.ch_model.specs.declared.name.End.TheVariants.{O, T}
use Rattle.ch_model.specs.declared.entry.Entry.{Entry}
use Rattle.ch_model.specs.declared.entry.Entry.TheVariants as entries
use Rattle.ch_model.specs.Same.{same_socket, same_pair}
use Rattle.ch_model.specs.Logs.{each, always}
use Rattle.ch_model.specs.Links.{is_closed, up_sockets, leaves}

-- the socket on which its target comes up by this entry
abbrev pub accepted_by : Entry → Option SockName
accepted_by (entries.Up sock T) = Some sock
accepted_by entry = None

-- neither end of the socket is closed
abbrev pub is_unclosed : List Entry → SockName → Bool
is_unclosed log sock = not (is_closed log sock O) && not (is_closed log sock T)

-- the live sockets: the target has come up, and neither end has gone down or left
abbrev pub live_sockets : List Entry → List SockName
live_sockets log = filter (is_unclosed log) (filter_map accepted_by log)

-- no two live sockets are of one pair
abbrev pub has_one_live : List Entry → Bool
has_one_live log = list_all (λ sock. nat_le (count_by (same_pair sock) (live_sockets log)) 1) (live_sockets log)

-- neither node of the socket is up on another socket of the pair
abbrev pub are_down : List Entry → SockName → Bool
are_down log sock = list_all (same_socket sock) (up_sockets log sock.from sock.to) && list_all (same_socket sock) (up_sockets log sock.to sock.from)

-- a target comes up on a socket that its opener hasn't left only while neither node is up on another
abbrev pub accepts_while_down : List Entry → Entry → Bool
accepts_while_down log (entries.Up sock T) = list_any (leaves sock O) log || are_down log sock
accepts_while_down log entry = true

-- at each moment at most one socket of each pair is live
abbrev pub OneLiveSocket : List Entry → Type 0
OneLiveSocket log = IsTrue (always has_one_live log)

-- no link is accepted while one of the pair is up
abbrev pub Bundle : List Entry → Type 0
Bundle log = IsTrue (each accepts_while_down log)
