-- What a log shows of one socket, gathered entry by entry.
use Rattle.std.specs.Prelude.{ℕ, zero, suc, ◌+◌, Bool, false, not, ◌&&◌, ◌||◌, cond, List, [], ◌∷◌, ◌++◌, fold}
use Rattle.ch_model.specs.declared.name.SockName.{SockName}
use Rattle.ch_model.specs.declared.name.End.{End}
use Rattle.ch_model.specs.declared.name.End.TheVariants.{O, T}
use Rattle.ch_model.specs.declared.entry.Entry.{Entry}
use Rattle.ch_model.specs.declared.entry.Entry.TheVariants as entries
use Rattle.ch_model.specs.Same.{same_socket, same_end, across}
use Rattle.ch_model.specs.Stages.{Stage, Pending, Open, Ended}

-- what is seen of one end: whether it was closed and cut, the bytes that were put on the way to it, and how many were fed
pub record SeenEnd : Type 0 where
  pub closed : Bool
  pub cut : Bool
  pub written : List ℕ
  pub fed : ℕ

-- what is seen of a socket: whether it was opened, joined, has come, was ended by its opener, or was refused
pub record Seen : Type 0 where
  pub opened : Bool
  pub joined : Bool
  pub came : Bool
  pub over : Bool
  pub refused : Bool
  pub o : SeenEnd
  pub t : SeenEnd

abbrev pub unseen_end : SeenEnd
unseen_end = record { closed = false; cut = false; written = []; fed = 0 }

abbrev pub unseen : Seen
unseen = record { opened = false; joined = false; came = false; over = false; refused = false; o = unseen_end; t = unseen_end }

-- the entry is of this socket
abbrev pub is_of : SockName → Entry → Bool
is_of s (entries.Dial sock) = same_socket sock s
is_of s (entries.Knocked sock) = same_socket sock s
is_of s (entries.Joined sock) = same_socket sock s
is_of s (entries.Came sock) = same_socket sock s
is_of s (entries.Refused sock) = same_socket sock s
is_of s (entries.Quitted sock) = same_socket sock s
is_of s (entries.Down sock end) = same_socket sock s
is_of s (entries.Left sock end) = same_socket sock s
is_of s (entries.Cut sock end) = same_socket sock s
is_of s (entries.Wrote sock end bytes) = same_socket sock s
is_of s (entries.Poked sock bytes) = same_socket sock s
is_of s (entries.Fed sock end count) = same_socket sock s
is_of s entry = false

abbrev pub grown : List ℕ → List ℕ → List ℕ
grown old [] = old
grown old (b ∷ bytes) = old ++ b ∷ bytes

abbrev pub raised : ℕ → ℕ → ℕ
raised old zero = old
raised old (suc n) = old + suc n

-- one more entry, of the socket or of another
abbrev pub sees : Bool → Entry → Seen → Seen
sees b (entries.Dial sock) seen = record seen { opened = b || seen.opened }
sees b (entries.Knocked sock) seen = record seen { opened = b || seen.opened; joined = b || seen.joined }
sees b (entries.Joined sock) seen = record seen { joined = b || seen.joined }
sees b (entries.Came sock) seen = record seen { came = b || seen.came }
sees b (entries.Refused sock) seen = record seen { over = b || seen.over; refused = b || seen.refused }
sees b (entries.Quitted sock) seen = record seen { over = b || seen.over }
sees b (entries.Down sock end) seen = record seen {
  o = record seen.o { closed = (b && same_end end O) || seen.o.closed };
  t = record seen.t { closed = (b && same_end end T) || seen.t.closed };
}
sees b (entries.Left sock end) seen = record seen {
  o = record seen.o { closed = (b && same_end end O) || seen.o.closed };
  t = record seen.t { closed = (b && same_end end T) || seen.t.closed };
}
sees b (entries.Cut sock end) seen = record seen {
  o = record seen.o { cut = (b && same_end end O) || seen.o.cut };
  t = record seen.t { cut = (b && same_end end T) || seen.t.cut };
}
sees b (entries.Wrote sock end bytes) seen = record seen {
  o = record seen.o { written = grown seen.o.written (cond (b && same_end end (across O)) bytes []) };
  t = record seen.t { written = grown seen.t.written (cond (b && same_end end (across T)) bytes []) };
}
sees b (entries.Poked sock bytes) seen = record seen {
  o = record seen.o { written = grown seen.o.written (cond (b && same_end O (across O)) bytes []) };
  t = record seen.t { written = grown seen.t.written (cond (b && same_end O (across T)) bytes []) };
}
sees b (entries.Fed sock end count) seen = record seen {
  o = record seen.o { fed = raised seen.o.fed (cond (b && same_end end O) count 0) };
  t = record seen.t { fed = raised seen.t.fed (cond (b && same_end end T) count 0) };
}
sees b entry seen = seen

-- one more entry of the log
abbrev pub sees_entry : SockName → Seen → Entry → Seen
sees_entry s seen entry = sees (is_of s entry) entry seen

-- what a log shows of the socket
abbrev pub seen_in : List Entry → SockName → Seen
seen_in log s = fold (sees_entry s) unseen log

abbrev pub end_seen : End → Seen → SeenEnd
end_seen O seen = seen.o
end_seen T seen = seen.t

-- how an end of an opened socket stands by what was seen, where its target's name has a host or not
abbrev pub stage_seen : Bool → End → Seen → Stage
stage_seen hosted O seen = cond seen.o.closed Ended (cond seen.over Ended (cond seen.joined Open Pending))
stage_seen hosted T seen = cond seen.t.closed Ended (cond (not hosted) Ended (cond seen.came Open Pending))
