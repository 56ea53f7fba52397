-- Wrong rules, and short runs by which each goes against a law.
use Rattle.std.specs.Prelude.{ℕ, suc, false, List, [], ◌∷◌}
use Rattle.ch_delivery.specs.Passage.{Mark, Broken, Item, Created, Message, Said, Passage}
use Rattle.ch_delivery.specs.Moves.{Move, Say, Reconnect, Rise, Break, Cut, Come, Fall, Read, Stand, Rules, put, noted, marked, write, say, mark_lost, broken, got, handle, read, after}
use Rattle.ch_delivery.specs.Rows.{seven, nobody}

-- a message that is read is got twice
abbrev pub read_twice : List Item → Passage → Passage
read_twice (Message c e k ∷ rest) p = got (p.bound c e) c e k (handle (Message c e k) (record p { flight = put p.at rest p.flight }))
read_twice items p = read items p

-- wrong: each message is got twice
abbrev pub gets_twice : Rules
gets_twice Read p = read_twice (p.flight p.at) p
gets_twice m p = after m p

-- a message is said and got
abbrev pub one_message : List Move
one_message = Stand seven ∷ Rise 1 ∷ Come 1 ∷ Say 0 ∷ Read ∷ Read ∷ []

-- wrong: what is on a socket is lost, but what comes behind it isn't
abbrev pub heals : Rules
heals (Cut i) p = record p { flight = put i [] p.flight }
heals m p = after m p

-- the first of three messages is got, the second lost, and the third comes
abbrev pub a_gap : List Move
a_gap = Stand seven ∷ Rise 1 ∷ Come 1 ∷ Say 0 ∷ Read ∷ Read ∷ Say 0 ∷ Cut 1 ∷ Say 0 ∷ Read ∷ []

-- wrong: what waits is forgotten when the link comes up
abbrev pub forgets : Rules
forgets (Rise i) p = after (Rise i) (record p { waits = [] })
forgets m p = after m p

-- a message waits, and the link comes up
abbrev pub one_waits : List Move
one_waits = Stand seven ∷ Say 0 ∷ Rise 1 ∷ Come 1 ∷ []

-- wrong: a reconnect goes on in the same epoch
abbrev pub repeats_epochs : Rules
repeats_epochs (Reconnect c) p = record (after (Reconnect c) p) { epoch = p.epoch }
repeats_epochs m p = after m p

-- a message is said again after a reconnect
abbrev pub said_again : List Move
said_again = Say 0 ∷ Break ∷ Reconnect 0 ∷ Say 0 ∷ []

-- a broken pair's message is written on a new connection of the same epoch
abbrev pub say_on : Mark → ℕ → Passage → Passage
say_on Broken c p = write (Created c (p.epoch c) ∷ Message c (p.epoch c) (p.index c) ∷ []) (noted (Said c (p.epoch c) (p.index c)) (marked c Broken (p.epoch c) (suc (p.index c)) p))
say_on m c p = say m c p

-- wrong: a broken pair speaks on, without a reconnect
abbrev pub speaks_on : Rules
speaks_on (Say c) p = say_on (p.mark c) c p
speaks_on m p = after m p

-- a message is got, the link breaks, and the next comes on the next socket
abbrev pub past_a_break : List Move
past_a_break = Stand seven ∷ Rise 1 ∷ Come 1 ∷ Say 0 ∷ Read ∷ Read ∷ Fall ∷ Break ∷ Say 0 ∷ Rise 2 ∷ Come 2 ∷ Read ∷ Read ∷ []

-- wrong: a connection outlives the process that it leads to
abbrev pub outlives : Rules
outlives (Stand f) p = record (after (Stand f) p) { bound = p.bound }
outlives m p = after m p

-- the receiver is over before the message is read
abbrev pub read_late : List Move
read_late = Stand seven ∷ Rise 1 ∷ Come 1 ∷ Say 0 ∷ Read ∷ Stand nobody ∷ Read ∷ []

-- wrong: a pair with a name is broken as any other
abbrev pub breaks_names : Rules
breaks_names Break p = record (broken p) { mark = λ c. mark_lost false (p.mark c); epoch = p.epoch; index = p.index }
breaks_names m p = after m p

-- a message to a name is said, and the link breaks
abbrev pub a_break : List Move
a_break = Say 1 ∷ Break ∷ []
