-- How each end of a socket stands, the bytes that were written towards it, fed to it, and are unread.
use Rattle.std.specs.Prelude.{ℕ, Bool, false, not, ◌&&◌, ◌||◌, List, [], ◌∷◌, length, drop, sum_by, filter_map, Option, Some, None, ◌-◌, nat_le, cond, if◌then◌else◌}
use Rattle.std.specs.List.{list_any, flat_map}
use Rattle.ch_model.specs.declared.name.SockName.{SockName}
use Rattle.ch_model.specs.declared.name.End.{End}
use Rattle.ch_model.specs.declared.name.End.TheVariants.{O, T}
use Rattle.ch_model.specs.declared.entry.Entry.{Entry}
use Rattle.ch_model.specs.declared.entry.Entry.TheVariants as entries
use Rattle.ch_model.specs.declared.line.Line.{Line}
use Rattle.ch_model.specs.Stages.{Stage, Pending, Open, Ended, is_ended}
use Rattle.ch_model.specs.Same.{same_socket, same_end, across}
use Rattle.ch_model.specs.Logs.{some_and}
use Rattle.ch_model.specs.Declarations.{has_host}

-- the socket is dialed by this entry
abbrev pub dials : SockName → Entry → Bool
dials s (entries.Dial sock) = same_socket sock s
dials s entry = false

-- the socket is opened by this entry: dialed, or knocked by a stranger
abbrev pub is_opening : SockName → Entry → Bool
is_opening s (entries.Dial sock) = same_socket sock s
is_opening s (entries.Knocked sock) = same_socket sock s
is_opening s entry = false

-- the opener's end is open from this entry on
abbrev pub opens_opener : SockName → Entry → Bool
opens_opener s (entries.Knocked sock) = same_socket sock s
opens_opener s (entries.Joined sock) = same_socket sock s
opens_opener s entry = false

-- the target's end is open from this entry on
abbrev pub opens_target : SockName → Entry → Bool
opens_target s (entries.Came sock) = same_socket sock s
opens_target s entry = false

-- an end that was up, or wasn't, is closed by this entry
abbrev pub closes : SockName → End → Entry → Bool
closes s e (entries.Down sock end) = same_socket sock s && same_end end e
closes s e (entries.Left sock end) = same_socket sock s && same_end end e
closes s e entry = false

-- the opener's end is ended by this entry: its dial was refused, or its stranger has quit
abbrev pub ends_opener : SockName → Entry → Bool
ends_opener s (entries.Refused sock) = same_socket sock s
ends_opener s (entries.Quitted sock) = same_socket sock s
ends_opener s entry = false

-- what is unread towards the end is gone from this entry on
abbrev pub cuts : SockName → End → Entry → Bool
cuts s e (entries.Cut sock end) = same_socket sock s && same_end end e
cuts s e entry = false

-- how an end of a socket that was opened stands, where it isn't closed
abbrev pub unclosed_state : List Line → List Entry → SockName → End → Stage
unclosed_state journal log s O = if list_any (ends_opener s) log then Ended else if list_any (opens_opener s) log then Open else Pending
unclosed_state journal log s T = if not (has_host journal s.to) then Ended else if list_any (opens_target s) log then Open else Pending

-- How an end stands, once the socket was opened. Where the target's address has no host, its end never opens.
abbrev pub end_state : List Line → List Entry → SockName → End → Option Stage
end_state journal log s e =
    if not (list_any (is_opening s) log) then None
    else if list_any (closes s e) log then Some Ended
    else Some (unclosed_state journal log s e)

-- the socket was opened, and its end stands so
abbrev pub stands_at : List Line → List Entry → SockName → End → (Stage → Bool) → Bool
stands_at journal log s e test = some_and test (end_state journal log s e)

-- the bytes that the entry puts on the way to this end: the other end wrote them, or a stranger poked them
abbrev pub puts : SockName → End → Entry → List ℕ
puts s e (entries.Wrote sock end bytes) = if same_socket sock s && same_end end (across e) then bytes else []
puts s e (entries.Poked sock bytes) = if same_socket sock s && same_end O (across e) then bytes else []
puts s e entry = []

-- how many bytes the entry feeds to this end
abbrev pub feeds : SockName → End → Entry → ℕ
feeds s e (entries.Fed sock end count) = if same_socket sock s && same_end end e then count else 0
feeds s e entry = 0

-- all bytes that were put on the way to this end
abbrev pub written : List Entry → SockName → End → List ℕ
written log s e = flat_map (puts s e) log

-- how many bytes were fed to this end
abbrev pub fed : List Entry → SockName → End → ℕ
fed log s e = sum_by (feeds s e) log

-- the end was cut
abbrev pub is_cut : List Entry → SockName → End → Bool
is_cut log s e = list_any (cuts s e) log

-- what was written and isn't fed; nothing towards an end that has ended or was cut
abbrev pub unread : List Line → List Entry → SockName → End → List ℕ
unread journal log s e = if stands_at journal log s e is_ended || is_cut log s e then [] else drop (fed log s e) (written log s e)

-- the end's input ends: the other end has ended, or it was cut
abbrev pub has_ended_input : List Line → List Entry → SockName → End → Bool
has_ended_input journal log s e = stands_at journal log s (across e) is_ended || is_cut log s e

-- the bytes of an item that this end wrote
abbrev pub writing : SockName → End → Entry → Option (List ℕ)
writing s e (entries.Wrote sock end bytes) = if same_socket sock s && same_end end e then Some bytes else None
writing s e entry = None

-- the items that this end wrote, in order, each by its bytes
abbrev pub writings : List Entry → SockName → End → List (List ℕ)
writings log s e = filter_map (writing s e) log

-- the first pieces that n bytes hold whole
abbrev pub whole_pieces : ℕ → List (List ℕ) → List (List ℕ)
whole_pieces n [] = []
whole_pieces n (piece ∷ pieces) = cond (nat_le (length piece) n) (piece ∷ whole_pieces (n - length piece) pieces) []

-- the items that were fed whole to this end
abbrev pub read_pieces : List Entry → SockName → End → List (List ℕ)
read_pieces log s e = whole_pieces (fed log s e) (writings log s (across e))
