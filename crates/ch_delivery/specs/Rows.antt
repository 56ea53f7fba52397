-- Short runs that are computed.
use Rattle.std.specs.Prelude.{ℕ, nat_eq, Bool, false, List, [], ◌∷◌, Option, Some, None}
use Rattle.ch_delivery.specs.Moves.{Move, Say, Reconnect, Finish, Rise, Break, Come, Fall, Read, Stand}

-- every target is a process or a port
abbrev pub no_names : ℕ → Bool
no_names c = false

-- the target of pair 1 is a name
abbrev pub one_name : ℕ → Bool
one_name c = nat_eq c 1

-- process 7 stands for every target
abbrev pub seven : ℕ → Option ℕ
seven c = Some 7

-- nobody does
abbrev pub nobody : ℕ → Option ℕ
nobody c = None

-- A message waits, goes out and is got. The next is lost with its socket, a third is said while the pair is broken. It
-- reconnects, and the fourth waits and is got on the next socket.
abbrev pub lost_and_reconnected : List Move
lost_and_reconnected = Stand seven ∷ Say 0 ∷ Come 1 ∷ Rise 1 ∷ Read ∷ Read ∷ Say 0 ∷ Fall ∷ Break ∷ Say 0 ∷ Reconnect 0 ∷ Say 0 ∷ Rise 2 ∷ Come 2 ∷ Read ∷ Read ∷ []

-- Two messages wait, the pair reconnects at once, says a third, and its process is over: all are got.
abbrev pub closed_early : List Move
closed_early = Stand seven ∷ Say 0 ∷ Say 0 ∷ Reconnect 0 ∷ Say 0 ∷ Finish 0 ∷ Rise 1 ∷ Come 1 ∷ Read ∷ Read ∷ Read ∷ Read ∷ Read ∷ Read ∷ Read ∷ []

-- A message to a name that nobody has is got by nobody. The link breaks, and the next message opens the next epoch.
abbrev pub to_a_name : List Move
to_a_name = Say 1 ∷ Rise 1 ∷ Come 1 ∷ Read ∷ Read ∷ Fall ∷ Break ∷ Stand seven ∷ Say 1 ∷ Rise 2 ∷ Come 2 ∷ Read ∷ Read ∷ []

-- A message to a process that isn't made is dropped, and so is one that is read after its end.
abbrev pub too_late : List Move
too_late = Say 0 ∷ Rise 1 ∷ Come 1 ∷ Read ∷ Stand seven ∷ Read ∷ Reconnect 0 ∷ Say 0 ∷ Read ∷ Read ∷ Stand nobody ∷ Read ∷ []
