-- Payloads: how many are written, unread and read.
use Rattle.std.specs.Prelude.{◌≡◌, ℕ, ◌+◌, Bool, true, false, List, [], ◌∷◌}
use Rattle.ch_link.specs.declared.LinkState.{LinkState}
use Rattle.ch_link.specs.declared.LinkState.TheVariants.{Up}
use Rattle.ch_race.specs.Pair.{OEnd, OUp, TEnd, TUp, Item, Data, Sock, Pair}
use Rattle.ch_race.specs.Moves.{Move, Read_o, Read_t, Say, after}
use Rattle.ch_race.specs.Probes.{count}
use Rattle.ch_race.specs.Measure.{sum_of}

-- the item is a payload
abbrev pub is_data : Item → Bool
is_data Data = true
is_data item = false

-- the payloads that stand unread on a socket, both ways
abbrev pub payloads : Sock → ℕ
payloads s = count is_data s.in_o + count is_data s.in_t

-- those on the first n sockets
abbrev pub unread : ℕ → Pair → ℕ
unread n p = sum_of payloads n p.sock

-- a node that is up writes one
abbrev pub says_one : LinkState → ℕ
says_one (Up i probed) = 1
says_one k = 0

-- the payloads that a move writes
abbrev pub said : Move → Pair → ℕ
said (Say x) p = says_one (p.link x)
said m p = 0

-- an opener's end that is up reads a payload
abbrev pub reads_one_o : OEnd → List Item → ℕ
reads_one_o OUp (Data ∷ w) = 1
reads_one_o o w = 0

-- a target's end that is up reads a payload
abbrev pub reads_one_t : TEnd → List Item → ℕ
reads_one_t TUp (Data ∷ w) = 1
reads_one_t t w = 0

-- the payloads that a move reads
abbrev pub got : Move → Pair → ℕ
got (Read_o i) p = reads_one_o (p.sock i).o (p.sock i).in_o
got (Read_t i) p = reads_one_t (p.sock i).t (p.sock i).in_t
got m p = 0

-- the payloads that the moves write
abbrev pub all_said : List Move → Pair → ℕ
all_said [] p = 0
all_said (m ∷ ms) p = said m p + all_said ms (after m p)

-- the payloads that the moves read
abbrev pub all_got : List Move → Pair → ℕ
all_got [] p = 0
all_got (m ∷ ms) p = got m p + all_got ms (after m p)

-- the pair is quiet, and after each of the moves
abbrev pub StaysQuiet : List Move → Pair → Type 0
StaysQuiet [] p = p.quiet ≡ true
StaysQuiet (m ∷ ms) p = (p.quiet ≡ true) × StaysQuiet ms (after m p)
