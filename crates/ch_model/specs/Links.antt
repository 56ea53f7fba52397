-- Link discipline: when a node may come up on a socket, go down, leave it or dial, and that at most one socket of a pair is live.
use Rattle.std.specs.Prelude.{ℕ, Bool, true, false, not, ◌&&◌, List, count_by, filter, filter_map, Option, Some, None, IsTrue, nat_le, ◌==◌, length, if◌then◌else◌}
use Rattle.std.specs.List.{list_any}
use Rattle.std.specs.Str.{bytes_eq}
use Rattle.ch_model.specs.declared.name.SockName.{SockName}
use Rattle.ch_model.specs.declared.name.End.{End}
use Rattle.ch_model.specs.declared.name.End.TheVariants.{O, T}
use Rattle.ch_model.specs.declared.entry.Entry.{Entry}
use Rattle.ch_model.specs.declared.entry.Entry.TheVariants as entries
use Rattle.ch_model.specs.Same.{same_socket, same_end, is_end_of, end_of, owner, across}
use Rattle.ch_model.specs.Logs.{each, since}
use Rattle.ch_model.specs.Epochs.{breaks}
use Rattle.ch_model.specs.Sockets.{closes}

-- a link comes up at this end
abbrev pub rises : SockName → End → Entry → Bool
rises s e (entries.Up sock end) = same_socket sock s && same_end end e
rises s e entry = false

-- an end that was up is closed
abbrev pub goes_down : SockName → End → Entry → Bool
goes_down s e (entries.Down sock end) = same_socket sock s && same_end end e
goes_down s e entry = false

-- an end that wasn't up is closed
abbrev pub leaves : SockName → End → Entry → Bool
leaves s e (entries.Left sock end) = same_socket sock s && same_end end e
leaves s e entry = false

-- the end came up
abbrev pub has_risen : List Entry → SockName → End → Bool
has_risen log s e = list_any (rises s e) log

-- the end is closed
abbrev pub is_closed : List Entry → SockName → End → Bool
is_closed log s e = list_any (closes s e) log

-- the socket on which x comes up with y by this entry
abbrev pub risen_with : List ℕ → List ℕ → Entry → Option SockName
risen_with x y (entries.Up sock end) = if is_end_of x y sock end then Some sock else None
risen_with x y entry = None

-- the socket hasn't gone down at x's end
abbrev pub is_still_up : List Entry → List ℕ → SockName → Bool
is_still_up log x sock = not (list_any (goes_down sock (end_of x sock)) log)

-- the sockets of the pair on which x is up
abbrev pub up_sockets : List Entry → List ℕ → List ℕ → List SockName
up_sockets log x y = filter (is_still_up log x) (filter_map (risen_with x y) log)

-- x is up with y
abbrev pub is_up_with : List Entry → List ℕ → List ℕ → Bool
is_up_with log x y = nat_le 1 (length (up_sockets log x y))

-- x dials y by this entry
abbrev pub dials_to : List ℕ → List ℕ → Entry → Bool
dials_to x y (entries.Dial sock) = bytes_eq sock.from x && bytes_eq sock.to y
dials_to x y entry = false

-- x dialed y since its last break with it
abbrev pub has_dialed : List Entry → List ℕ → List ℕ → Bool
has_dialed log x y = list_any (dials_to x y) (since (breaks x y) log)

-- an end comes up once
abbrev pub rises_once : List Entry → Entry → Bool
rises_once log (entries.Up sock end) = not (has_risen log sock end)
rises_once log entry = true

-- an end that goes down was up
abbrev pub falls_from_up : List Entry → Entry → Bool
falls_from_up log (entries.Down sock end) = has_risen log sock end
falls_from_up log entry = true

-- an end that is left never came up
abbrev pub leaves_unrisen : List Entry → Entry → Bool
leaves_unrisen log (entries.Left sock end) = not (has_risen log sock end)
leaves_unrisen log entry = true

-- an end that is closed neither comes up, nor is closed again, nor writes, nor is fed
abbrev pub rests_closed : List Entry → Entry → Bool
rests_closed log (entries.Up sock end) = not (is_closed log sock end)
rests_closed log (entries.Down sock end) = not (is_closed log sock end)
rests_closed log (entries.Left sock end) = not (is_closed log sock end)
rests_closed log (entries.Wrote sock end bytes) = not (is_closed log sock end)
rests_closed log (entries.Fed sock end count) = not (is_closed log sock end)
rests_closed log entry = true

-- a node comes up on a socket while it is up on no other of the pair
abbrev pub rises_alone : List Entry → Entry → Bool
rises_alone log (entries.Up sock end) = not (is_up_with log (owner sock end) (owner sock (across end)))
rises_alone log entry = true

-- the opener comes up after the target
abbrev pub target_rises_first : List Entry → Entry → Bool
target_rises_first log (entries.Up sock O) = has_risen log sock T
target_rises_first log entry = true

-- a node dials a peer that it isn't up with
abbrev pub dials_while_down : List Entry → Entry → Bool
dials_while_down log (entries.Dial sock) = not (is_up_with log sock.from sock.to)
dials_while_down log entry = true

-- a node dials a peer once between two breaks
abbrev pub dials_once : List Entry → Entry → Bool
dials_once log (entries.Dial sock) = not (has_dialed log sock.from sock.to)
dials_once log entry = true

-- a dial has the number of those before it
abbrev pub dials_in_order : List Entry → Entry → Bool
dials_in_order log (entries.Dial sock) = sock.number == count_by (dials_to sock.from sock.to) log
dials_in_order log entry = true

-- links come up, go down and dial as they should
pub record FollowsLinkDiscipline (log : List Entry) : Type 0 where
  pub up_once : IsTrue (each rises_once log)
  pub down_from_up : IsTrue (each falls_from_up log)
  pub left_unrisen : IsTrue (each leaves_unrisen log)
  pub closed_rests : IsTrue (each rests_closed log)
  pub up_alone : IsTrue (each rises_alone log)
  pub target_first : IsTrue (each target_rises_first log)
  pub dial_while_down : IsTrue (each dials_while_down log)
  pub dial_once : IsTrue (each dials_once log)
  pub dial_in_order : IsTrue (each dials_in_order log)
