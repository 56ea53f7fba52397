-- Worked journals of watches, ends, spawns and shut nodes.
use Rattle.std.specs.Prelude.{ℕ, List, [], ◌∷◌, ◌++◌, replicate, codes}

-- a monitor is told the end of its target, and nothing at a later loss
abbrev pub told_before_the_loss : List (List ℕ)
told_before_the_loss =
    (
    codes "chjournal 1"
    ∷ codes "node a h:1:0 7"
    ∷ codes "node b i:1:0 9"
    ∷ codes "proc a"
    ∷ codes "proc b"
    ∷ codes "monitor a.0 b.0"
    ∷ codes "settle"
    ∷ codes "end b.0"
    ∷ codes "settle"
    ∷ codes "lose a>b.0 o"
    ∷ codes "settle"
    ∷ [])

-- its log
abbrev pub told_before_the_loss_log : List (List ℕ)
told_before_the_loss_log =
    (
    codes "line 4 ok | made a.0 - -"
    ∷ codes "line 5 ok | made b.0 - -"
    ∷ codes "line 6 ok | watch a!0 a.0 b.0 monitor | dial a>b.0"
    ∷ codes "line 7 ok | joined a>b.0 | wrote a>b.0 o 0000000000000005683a313a30 | came a>b.0 | fed a>b.0 t 13 | up a>b.0 t | wrote a>b.0 t 00000000 | fed a>b.0 o 4 | up a>b.0 o | wrote a>b.0 o 0000000000000400 | wrote a>b.0 o 000004000000000f000005683a313a300005693a313a30 | wrote a>b.0 o 00000400000000190105683a313a300000000005693a313a300000000900000000 | fed a>b.0 t 64 | settled"
    ∷ codes "line 8 ok | over b.0 normal | wrote a>b.0 t 0000000000000400 | wrote a>b.0 t 000004000000000f000005693a313a300005683a313a30 | wrote a>b.0 t 000004000000000c0705683a313a300000000000"
    ∷ codes "line 9 ok | fed a>b.0 o 51 | told a!0 normal | settled"
    ∷ codes "line 10 ok | lost a>b.0 o | down a>b.0 o | broke a b disconnect"
    ∷ codes "line 11 ok | fed a>b.0 t 0 | down a>b.0 t | broke b a disconnect | settled"
    ∷ [])

-- what settling did there, line by line
abbrev pub told_before_the_loss_opened : List (List ℕ)
told_before_the_loss_opened =
    (
    codes "chjournal 1"
    ∷ codes "node a h:1:0 7"
    ∷ codes "node b i:1:0 9"
    ∷ codes "proc a"
    ∷ codes "proc b"
    ∷ codes "monitor a.0 b.0"
    ∷ codes "join a>b.0"
    ∷ codes "come a>b.0"
    ∷ codes "feed a>b.0 t 13"
    ∷ codes "feed a>b.0 o 4"
    ∷ codes "feed a>b.0 t 64"
    ∷ codes "end b.0"
    ∷ codes "feed a>b.0 o 51"
    ∷ codes "lose a>b.0 o"
    ∷ codes "feed a>b.0 t 1"
    ∷ [])

-- its log
abbrev pub told_before_the_loss_opened_log : List (List ℕ)
told_before_the_loss_opened_log =
    (
    codes "line 4 ok | made a.0 - -"
    ∷ codes "line 5 ok | made b.0 - -"
    ∷ codes "line 6 ok | watch a!0 a.0 b.0 monitor | dial a>b.0"
    ∷ codes "line 7 ok | joined a>b.0 | wrote a>b.0 o 0000000000000005683a313a30"
    ∷ codes "line 8 ok | came a>b.0"
    ∷ codes "line 9 ok | fed a>b.0 t 13 | up a>b.0 t | wrote a>b.0 t 00000000"
    ∷ codes "line 10 ok | fed a>b.0 o 4 | up a>b.0 o | wrote a>b.0 o 0000000000000400 | wrote a>b.0 o 000004000000000f000005683a313a300005693a313a30 | wrote a>b.0 o 00000400000000190105683a313a300000000005693a313a300000000900000000"
    ∷ codes "line 11 ok | fed a>b.0 t 64"
    ∷ codes "line 12 ok | over b.0 normal | wrote a>b.0 t 0000000000000400 | wrote a>b.0 t 000004000000000f000005693a313a300005683a313a30 | wrote a>b.0 t 000004000000000c0705683a313a300000000000"
    ∷ codes "line 13 ok | fed a>b.0 o 51 | told a!0 normal"
    ∷ codes "line 14 ok | lost a>b.0 o | down a>b.0 o | broke a b disconnect"
    ∷ codes "line 15 ok | fed a>b.0 t 0 | down a>b.0 t | broke b a disconnect"
    ∷ [])

-- a monitor of a process that was never made
abbrev pub monitor_of_nobody : List (List ℕ)
monitor_of_nobody =
    (
    codes "chjournal 1"
    ∷ codes "node a h:1:0 7"
    ∷ codes "node b i:1:0 9"
    ∷ codes "proc a"
    ∷ codes "monitor a.0 b.5"
    ∷ codes "settle"
    ∷ [])

-- its log
abbrev pub monitor_of_nobody_log : List (List ℕ)
monitor_of_nobody_log =
    (
    codes "line 4 ok | made a.0 - -"
    ∷ codes "line 5 ok | watch a!0 a.0 b.5 monitor | dial a>b.0"
    ∷ codes "line 6 ok | joined a>b.0 | wrote a>b.0 o 0000000000000005683a313a30 | came a>b.0 | fed a>b.0 t 13 | up a>b.0 t | wrote a>b.0 t 00000000 | fed a>b.0 o 4 | up a>b.0 o | wrote a>b.0 o 0000000000000400 | wrote a>b.0 o 000004000000000f000005683a313a300005693a313a30 | wrote a>b.0 o 00000400000000190105683a313a300000000005693a313a300000000900000005 | fed a>b.0 t 64 | absent a!0 | wrote a>b.0 t 0000000000000400 | wrote a>b.0 t 000004000000000f000005693a313a300005683a313a30 | wrote a>b.0 t 000004000000000c0705683a313a300000000004 | fed a>b.0 o 51 | told a!0 unknownid | settled"
    ∷ [])

-- what settling did there, line by line
abbrev pub monitor_of_nobody_opened : List (List ℕ)
monitor_of_nobody_opened =
    (
    codes "chjournal 1"
    ∷ codes "node a h:1:0 7"
    ∷ codes "node b i:1:0 9"
    ∷ codes "proc a"
    ∷ codes "monitor a.0 b.5"
    ∷ codes "join a>b.0"
    ∷ codes "come a>b.0"
    ∷ codes "feed a>b.0 t 13"
    ∷ codes "feed a>b.0 o 4"
    ∷ codes "feed a>b.0 t 64"
    ∷ codes "feed a>b.0 o 51"
    ∷ [])

-- its log
abbrev pub monitor_of_nobody_opened_log : List (List ℕ)
monitor_of_nobody_opened_log =
    (
    codes "line 4 ok | made a.0 - -"
    ∷ codes "line 5 ok | watch a!0 a.0 b.5 monitor | dial a>b.0"
    ∷ codes "line 6 ok | joined a>b.0 | wrote a>b.0 o 0000000000000005683a313a30"
    ∷ codes "line 7 ok | came a>b.0"
    ∷ codes "line 8 ok | fed a>b.0 t 13 | up a>b.0 t | wrote a>b.0 t 00000000"
    ∷ codes "line 9 ok | fed a>b.0 o 4 | up a>b.0 o | wrote a>b.0 o 0000000000000400 | wrote a>b.0 o 000004000000000f000005683a313a300005693a313a30 | wrote a>b.0 o 00000400000000190105683a313a300000000005693a313a300000000900000005"
    ∷ codes "line 10 ok | fed a>b.0 t 64 | absent a!0 | wrote a>b.0 t 0000000000000400 | wrote a>b.0 t 000004000000000f000005693a313a300005683a313a30 | wrote a>b.0 t 000004000000000c0705683a313a300000000004"
    ∷ codes "line 11 ok | fed a>b.0 o 51 | told a!0 unknownid"
    ∷ [])

-- names fall, connections close, and watchers are told, in this order
abbrev pub order_of_an_end : List (List ℕ)
order_of_an_end =
    (
    codes "chjournal 1"
    ∷ codes "node a h:1:0 7"
    ∷ codes "node b i:1:0 9"
    ∷ codes "proc a"
    ∷ codes "proc b"
    ∷ codes "send b.0 a.0 t 01"
    ∷ codes "monitor a.0 b.0"
    ∷ codes "register b.0 z"
    ∷ codes "register b.0 y"
    ∷ codes "settle"
    ∷ codes "end b.0"
    ∷ codes "settle"
    ∷ [])

-- its log
abbrev pub order_of_an_end_log : List (List ℕ)
order_of_an_end_log =
    (
    codes "line 4 ok | made a.0 - -"
    ∷ codes "line 5 ok | made b.0 - -"
    ∷ codes "line 6 ok | said b.0 a.0 0 0 t 01 | dial b>a.0"
    ∷ codes "line 7 ok | watch a!0 a.0 b.0 monitor | dial a>b.0"
    ∷ codes "line 8 ok | named b z b.0"
    ∷ codes "line 9 ok | named b y b.0"
    ∷ codes "line 10 ok | joined b>a.0 | wrote b>a.0 o 0000000000000005693a313a30 | came b>a.0 | joined a>b.0 | wrote a>b.0 o 0000000000000005683a313a30 | came a>b.0 | fed b>a.0 t 13 | left a>b.0 o | up b>a.0 t | wrote b>a.0 t 00000000 | wrote b>a.0 t 0000000000000400 | wrote b>a.0 t 000004000000000f000005683a313a300005693a313a30 | wrote b>a.0 t 00000400000000190105683a313a300000000005693a313a300000000900000000 | fed a>b.0 t 13 | wrote a>b.0 t 00000002 | left a>b.0 t | fed b>a.0 o 68 | up b>a.0 o | wrote b>a.0 o 0000000000000400 | wrote b>a.0 o 000004000000001f000105693a313a3000000009000000000105683a313a300000000700000000 | wrote b>a.0 o 0000040000000003017401 | fed b>a.0 t 58 | got b.0 a.0 0 0 a.0 | settled"
    ∷ codes "line 11 ok | over b.0 normal | named b z - | named b y - | wrote b>a.0 o 0000000100000400 | wrote b>a.0 o 0000000000000401 | wrote b>a.0 o 000004010000000f000005693a313a300005683a313a30 | wrote b>a.0 o 000004010000000c0705683a313a300000000000"
    ∷ codes "line 12 ok | fed b>a.0 t 59 | told a!0 normal | settled"
    ∷ [])

-- what settling did there, line by line
abbrev pub order_of_an_end_opened : List (List ℕ)
order_of_an_end_opened =
    (
    codes "chjournal 1"
    ∷ codes "node a h:1:0 7"
    ∷ codes "node b i:1:0 9"
    ∷ codes "proc a"
    ∷ codes "proc b"
    ∷ codes "send b.0 a.0 t 01"
    ∷ codes "monitor a.0 b.0"
    ∷ codes "register b.0 z"
    ∷ codes "register b.0 y"
    ∷ codes "join b>a.0"
    ∷ codes "come b>a.0"
    ∷ codes "join a>b.0"
    ∷ codes "come a>b.0"
    ∷ codes "feed b>a.0 t 13"
    ∷ codes "feed a>b.0 t 13"
    ∷ codes "feed b>a.0 o 68"
    ∷ codes "feed b>a.0 t 58"
    ∷ codes "end b.0"
    ∷ codes "feed b>a.0 t 59"
    ∷ [])

-- its log
abbrev pub order_of_an_end_opened_log : List (List ℕ)
order_of_an_end_opened_log =
    (
    codes "line 4 ok | made a.0 - -"
    ∷ codes "line 5 ok | made b.0 - -"
    ∷ codes "line 6 ok | said b.0 a.0 0 0 t 01 | dial b>a.0"
    ∷ codes "line 7 ok | watch a!0 a.0 b.0 monitor | dial a>b.0"
    ∷ codes "line 8 ok | named b z b.0"
    ∷ codes "line 9 ok | named b y b.0"
    ∷ codes "line 10 ok | joined b>a.0 | wrote b>a.0 o 0000000000000005693a313a30"
    ∷ codes "line 11 ok | came b>a.0"
    ∷ codes "line 12 ok | joined a>b.0 | wrote a>b.0 o 0000000000000005683a313a30"
    ∷ codes "line 13 ok | came a>b.0"
    ∷ codes "line 14 ok | fed b>a.0 t 13 | left a>b.0 o | up b>a.0 t | wrote b>a.0 t 00000000 | wrote b>a.0 t 0000000000000400 | wrote b>a.0 t 000004000000000f000005683a313a300005693a313a30 | wrote b>a.0 t 00000400000000190105683a313a300000000005693a313a300000000900000000"
    ∷ codes "line 15 ok | fed a>b.0 t 13 | wrote a>b.0 t 00000002 | left a>b.0 t"
    ∷ codes "line 16 ok | fed b>a.0 o 68 | up b>a.0 o | wrote b>a.0 o 0000000000000400 | wrote b>a.0 o 000004000000001f000105693a313a3000000009000000000105683a313a300000000700000000 | wrote b>a.0 o 0000040000000003017401"
    ∷ codes "line 17 ok | fed b>a.0 t 58 | got b.0 a.0 0 0 a.0"
    ∷ codes "line 18 ok | over b.0 normal | named b z - | named b y - | wrote b>a.0 o 0000000100000400 | wrote b>a.0 o 0000000000000401 | wrote b>a.0 o 000004010000000f000005693a313a300005683a313a30 | wrote b>a.0 o 000004010000000c0705683a313a300000000000"
    ∷ codes "line 19 ok | fed b>a.0 t 59 | told a!0 normal"
    ∷ [])

-- watches are taken back by their kind, and only the first doom counts
abbrev pub taken_back : List (List ℕ)
taken_back =
    (
    codes "chjournal 1"
    ∷ codes "node a h:1:0 7"
    ∷ codes "node b i:1:0 9"
    ∷ codes "proc a"
    ∷ codes "proc b"
    ∷ codes "monitor a.0 b.0"
    ∷ codes "link a.0 b.0"
    ∷ codes "settle"
    ∷ codes "unwatch a.0 a!0"
    ∷ codes "unwatch a.0 a!1"
    ∷ codes "kill a.0 b.0 now"
    ∷ codes "exit a.0 b.0 later"
    ∷ codes "settle"
    ∷ codes "fall b.0"
    ∷ [])

-- its log
abbrev pub taken_back_log : List (List ℕ)
taken_back_log =
    (
    codes "line 4 ok | made a.0 - -"
    ∷ codes "line 5 ok | made b.0 - -"
    ∷ codes "line 6 ok | watch a!0 a.0 b.0 monitor | dial a>b.0"
    ∷ codes "line 7 ok | watch a!1 a.0 b.0 link"
    ∷ codes "line 8 ok | joined a>b.0 | wrote a>b.0 o 0000000000000005683a313a30 | came a>b.0 | fed a>b.0 t 13 | up a>b.0 t | wrote a>b.0 t 00000000 | fed a>b.0 o 4 | up a>b.0 o | wrote a>b.0 o 0000000000000400 | wrote a>b.0 o 000004000000000f000005683a313a300005693a313a30 | wrote a>b.0 o 00000400000000190105683a313a300000000005693a313a300000000900000000 | wrote a>b.0 o 00000400000000190305683a313a300000000105693a313a300000000900000000 | fed a>b.0 t 97 | settled"
    ∷ codes "line 9 ok | unwatch a!0 | wrote a>b.0 o 000004000000000b0205683a313a3000000000"
    ∷ codes "line 10 ok | unwatch a!1 | wrote a>b.0 o 000004000000000b0405683a313a3000000001"
    ∷ codes "line 11 ok | wrote a>b.0 o 00000400000000130c05693a313a300000000900000000036e6f77"
    ∷ codes "line 12 ok | wrote a>b.0 o 00000400000000150b05693a313a300000000900000000056c61746572"
    ∷ codes "line 13 ok | fed a>b.0 t 94 | doom b.0 kill now | settled"
    ∷ codes "line 14 ok | over b.0 exception kill now"
    ∷ [])

-- what settling did there, line by line
abbrev pub taken_back_opened : List (List ℕ)
taken_back_opened =
    (
    codes "chjournal 1"
    ∷ codes "node a h:1:0 7"
    ∷ codes "node b i:1:0 9"
    ∷ codes "proc a"
    ∷ codes "proc b"
    ∷ codes "monitor a.0 b.0"
    ∷ codes "link a.0 b.0"
    ∷ codes "join a>b.0"
    ∷ codes "come a>b.0"
    ∷ codes "feed a>b.0 t 13"
    ∷ codes "feed a>b.0 o 4"
    ∷ codes "feed a>b.0 t 97"
    ∷ codes "unwatch a.0 a!0"
    ∷ codes "unwatch a.0 a!1"
    ∷ codes "kill a.0 b.0 now"
    ∷ codes "exit a.0 b.0 later"
    ∷ codes "feed a>b.0 t 94"
    ∷ codes "fall b.0"
    ∷ [])

-- its log
abbrev pub taken_back_opened_log : List (List ℕ)
taken_back_opened_log =
    (
    codes "line 4 ok | made a.0 - -"
    ∷ codes "line 5 ok | made b.0 - -"
    ∷ codes "line 6 ok | watch a!0 a.0 b.0 monitor | dial a>b.0"
    ∷ codes "line 7 ok | watch a!1 a.0 b.0 link"
    ∷ codes "line 8 ok | joined a>b.0 | wrote a>b.0 o 0000000000000005683a313a30"
    ∷ codes "line 9 ok | came a>b.0"
    ∷ codes "line 10 ok | fed a>b.0 t 13 | up a>b.0 t | wrote a>b.0 t 00000000"
    ∷ codes "line 11 ok | fed a>b.0 o 4 | up a>b.0 o | wrote a>b.0 o 0000000000000400 | wrote a>b.0 o 000004000000000f000005683a313a300005693a313a30 | wrote a>b.0 o 00000400000000190105683a313a300000000005693a313a300000000900000000 | wrote a>b.0 o 00000400000000190305683a313a300000000105693a313a300000000900000000"
    ∷ codes "line 12 ok | fed a>b.0 t 97"
    ∷ codes "line 13 ok | unwatch a!0 | wrote a>b.0 o 000004000000000b0205683a313a3000000000"
    ∷ codes "line 14 ok | unwatch a!1 | wrote a>b.0 o 000004000000000b0405683a313a3000000001"
    ∷ codes "line 15 ok | wrote a>b.0 o 00000400000000130c05693a313a300000000900000000036e6f77"
    ∷ codes "line 16 ok | wrote a>b.0 o 00000400000000150b05693a313a300000000900000000056c61746572"
    ∷ codes "line 17 ok | fed a>b.0 t 94 | doom b.0 kill now"
    ∷ codes "line 18 ok | over b.0 exception kill now"
    ∷ [])

-- a node forgets a peer's watches at its own break
abbrev pub forgotten_at_the_break : List (List ℕ)
forgotten_at_the_break =
    (
    codes "chjournal 1"
    ∷ codes "node a h:1:0 7"
    ∷ codes "node b i:1:0 9"
    ∷ codes "proc a"
    ∷ codes "proc b"
    ∷ codes "monitor a.0 b.0"
    ∷ codes "settle"
    ∷ codes "lose a>b.0 t"
    ∷ codes "end b.0"
    ∷ codes "settle"
    ∷ [])

-- its log
abbrev pub forgotten_at_the_break_log : List (List ℕ)
forgotten_at_the_break_log =
    (
    codes "line 4 ok | made a.0 - -"
    ∷ codes "line 5 ok | made b.0 - -"
    ∷ codes "line 6 ok | watch a!0 a.0 b.0 monitor | dial a>b.0"
    ∷ codes "line 7 ok | joined a>b.0 | wrote a>b.0 o 0000000000000005683a313a30 | came a>b.0 | fed a>b.0 t 13 | up a>b.0 t | wrote a>b.0 t 00000000 | fed a>b.0 o 4 | up a>b.0 o | wrote a>b.0 o 0000000000000400 | wrote a>b.0 o 000004000000000f000005683a313a300005693a313a30 | wrote a>b.0 o 00000400000000190105683a313a300000000005693a313a300000000900000000 | fed a>b.0 t 64 | settled"
    ∷ codes "line 8 ok | lost a>b.0 t | down a>b.0 t | broke b a disconnect"
    ∷ codes "line 9 ok | over b.0 normal"
    ∷ codes "line 10 ok | fed a>b.0 o 0 | down a>b.0 o | broke a b disconnect | told a!0 disconnect | settled"
    ∷ [])

-- what settling did there, line by line
abbrev pub forgotten_at_the_break_opened : List (List ℕ)
forgotten_at_the_break_opened =
    (
    codes "chjournal 1"
    ∷ codes "node a h:1:0 7"
    ∷ codes "node b i:1:0 9"
    ∷ codes "proc a"
    ∷ codes "proc b"
    ∷ codes "monitor a.0 b.0"
    ∷ codes "join a>b.0"
    ∷ codes "come a>b.0"
    ∷ codes "feed a>b.0 t 13"
    ∷ codes "feed a>b.0 o 4"
    ∷ codes "feed a>b.0 t 64"
    ∷ codes "lose a>b.0 t"
    ∷ codes "end b.0"
    ∷ codes "feed a>b.0 o 1"
    ∷ [])

-- its log
abbrev pub forgotten_at_the_break_opened_log : List (List ℕ)
forgotten_at_the_break_opened_log =
    (
    codes "line 4 ok | made a.0 - -"
    ∷ codes "line 5 ok | made b.0 - -"
    ∷ codes "line 6 ok | watch a!0 a.0 b.0 monitor | dial a>b.0"
    ∷ codes "line 7 ok | joined a>b.0 | wrote a>b.0 o 0000000000000005683a313a30"
    ∷ codes "line 8 ok | came a>b.0"
    ∷ codes "line 9 ok | fed a>b.0 t 13 | up a>b.0 t | wrote a>b.0 t 00000000"
    ∷ codes "line 10 ok | fed a>b.0 o 4 | up a>b.0 o | wrote a>b.0 o 0000000000000400 | wrote a>b.0 o 000004000000000f000005683a313a300005693a313a30 | wrote a>b.0 o 00000400000000190105683a313a300000000005693a313a300000000900000000"
    ∷ codes "line 11 ok | fed a>b.0 t 64"
    ∷ codes "line 12 ok | lost a>b.0 t | down a>b.0 t | broke b a disconnect"
    ∷ codes "line 13 ok | over b.0 normal"
    ∷ codes "line 14 ok | fed a>b.0 o 0 | down a>b.0 o | broke a b disconnect | told a!0 disconnect"
    ∷ [])

-- a message that was written before its node was shut is got, and then the watch is told
abbrev pub node_is_shut : List (List ℕ)
node_is_shut =
    (
    codes "chjournal 1"
    ∷ codes "node a h:1:0 7"
    ∷ codes "node b i:1:0 9"
    ∷ codes "proc a"
    ∷ codes "proc b"
    ∷ codes "monitor a.0 b.0"
    ∷ codes "settle"
    ∷ codes "send b.0 a.0 t 01"
    ∷ codes "shut b"
    ∷ codes "settle"
    ∷ [])

-- its log
abbrev pub node_is_shut_log : List (List ℕ)
node_is_shut_log =
    (
    codes "line 4 ok | made a.0 - -"
    ∷ codes "line 5 ok | made b.0 - -"
    ∷ codes "line 6 ok | watch a!0 a.0 b.0 monitor | dial a>b.0"
    ∷ codes "line 7 ok | joined a>b.0 | wrote a>b.0 o 0000000000000005683a313a30 | came a>b.0 | fed a>b.0 t 13 | up a>b.0 t | wrote a>b.0 t 00000000 | fed a>b.0 o 4 | up a>b.0 o | wrote a>b.0 o 0000000000000400 | wrote a>b.0 o 000004000000000f000005683a313a300005693a313a30 | wrote a>b.0 o 00000400000000190105683a313a300000000005693a313a300000000900000000 | fed a>b.0 t 64 | settled"
    ∷ codes "line 8 ok | said b.0 a.0 0 0 t 01 | wrote a>b.0 t 0000000000000400 | wrote a>b.0 t 000004000000001f000105693a313a3000000009000000000105683a313a300000000700000000 | wrote a>b.0 t 0000040000000003017401"
    ∷ codes "line 9 ok | shut b | wrote a>b.0 t 00000003 | down a>b.0 t"
    ∷ codes "line 10 ok | fed a>b.0 o 62 | got b.0 a.0 0 0 a.0 | down a>b.0 o | broke a b nodedown | told a!0 nodedown | settled"
    ∷ [])

-- what settling did there, line by line
abbrev pub node_is_shut_opened : List (List ℕ)
node_is_shut_opened =
    (
    codes "chjournal 1"
    ∷ codes "node a h:1:0 7"
    ∷ codes "node b i:1:0 9"
    ∷ codes "proc a"
    ∷ codes "proc b"
    ∷ codes "monitor a.0 b.0"
    ∷ codes "join a>b.0"
    ∷ codes "come a>b.0"
    ∷ codes "feed a>b.0 t 13"
    ∷ codes "feed a>b.0 o 4"
    ∷ codes "feed a>b.0 t 64"
    ∷ codes "send b.0 a.0 t 01"
    ∷ codes "shut b"
    ∷ codes "feed a>b.0 o 62"
    ∷ [])

-- its log
abbrev pub node_is_shut_opened_log : List (List ℕ)
node_is_shut_opened_log =
    (
    codes "line 4 ok | made a.0 - -"
    ∷ codes "line 5 ok | made b.0 - -"
    ∷ codes "line 6 ok | watch a!0 a.0 b.0 monitor | dial a>b.0"
    ∷ codes "line 7 ok | joined a>b.0 | wrote a>b.0 o 0000000000000005683a313a30"
    ∷ codes "line 8 ok | came a>b.0"
    ∷ codes "line 9 ok | fed a>b.0 t 13 | up a>b.0 t | wrote a>b.0 t 00000000"
    ∷ codes "line 10 ok | fed a>b.0 o 4 | up a>b.0 o | wrote a>b.0 o 0000000000000400 | wrote a>b.0 o 000004000000000f000005683a313a300005693a313a30 | wrote a>b.0 o 00000400000000190105683a313a300000000005693a313a300000000900000000"
    ∷ codes "line 11 ok | fed a>b.0 t 64"
    ∷ codes "line 12 ok | said b.0 a.0 0 0 t 01 | wrote a>b.0 t 0000000000000400 | wrote a>b.0 t 000004000000001f000105693a313a3000000009000000000105683a313a300000000700000000 | wrote a>b.0 t 0000040000000003017401"
    ∷ codes "line 13 ok | shut b | wrote a>b.0 t 00000003 | down a>b.0 t"
    ∷ codes "line 14 ok | fed a>b.0 o 62 | got b.0 a.0 0 0 a.0 | down a>b.0 o | broke a b nodedown | told a!0 nodedown"
    ∷ [])

-- a shut closes links in order of first use
abbrev pub shut_by_first_use : List (List ℕ)
shut_by_first_use =
    (
    codes "chjournal 1"
    ∷ codes "node a h:1:0 7"
    ∷ codes "node b i:1:0 9"
    ∷ codes "node c k:1:0 5"
    ∷ codes "proc a"
    ∷ codes "proc b"
    ∷ codes "proc c"
    ∷ codes "send a.0 c.0 t 01"
    ∷ codes "send a.0 b.0 t 02"
    ∷ codes "settle"
    ∷ codes "shut a"
    ∷ [])

-- its log
abbrev pub shut_by_first_use_log : List (List ℕ)
shut_by_first_use_log =
    (
    codes "line 5 ok | made a.0 - -"
    ∷ codes "line 6 ok | made b.0 - -"
    ∷ codes "line 7 ok | made c.0 - -"
    ∷ codes "line 8 ok | said a.0 c.0 0 0 t 01 | dial a>c.0"
    ∷ codes "line 9 ok | said a.0 b.0 0 0 t 02 | dial a>b.0"
    ∷ codes "line 10 ok | joined a>c.0 | wrote a>c.0 o 0000000000000005683a313a30 | came a>c.0 | joined a>b.0 | wrote a>b.0 o 0000000000000005683a313a30 | came a>b.0 | fed a>c.0 t 13 | up a>c.0 t | wrote a>c.0 t 00000000 | fed a>b.0 t 13 | up a>b.0 t | wrote a>b.0 t 00000000 | fed a>c.0 o 4 | up a>c.0 o | wrote a>c.0 o 0000000000000400 | wrote a>c.0 o 000004000000001f000105683a313a30000000070000000001056b3a313a300000000500000000 | wrote a>c.0 o 0000040000000003017401 | fed a>c.0 t 58 | got a.0 c.0 0 0 c.0 | fed a>b.0 o 4 | up a>b.0 o | wrote a>b.0 o 0000000000000400 | wrote a>b.0 o 000004000000001f000105683a313a3000000007000000000105693a313a300000000900000000 | wrote a>b.0 o 0000040000000003017402 | fed a>b.0 t 58 | got a.0 b.0 0 0 b.0 | settled"
    ∷ codes "line 11 ok | shut a | wrote a>c.0 o 00000003 | down a>c.0 o | wrote a>b.0 o 00000003 | down a>b.0 o"
    ∷ [])

-- what settling did there, line by line
abbrev pub shut_by_first_use_opened : List (List ℕ)
shut_by_first_use_opened =
    (
    codes "chjournal 1"
    ∷ codes "node a h:1:0 7"
    ∷ codes "node b i:1:0 9"
    ∷ codes "node c k:1:0 5"
    ∷ codes "proc a"
    ∷ codes "proc b"
    ∷ codes "proc c"
    ∷ codes "send a.0 c.0 t 01"
    ∷ codes "send a.0 b.0 t 02"
    ∷ codes "join a>c.0"
    ∷ codes "come a>c.0"
    ∷ codes "join a>b.0"
    ∷ codes "come a>b.0"
    ∷ codes "feed a>c.0 t 13"
    ∷ codes "feed a>b.0 t 13"
    ∷ codes "feed a>c.0 o 4"
    ∷ codes "feed a>c.0 t 58"
    ∷ codes "feed a>b.0 o 4"
    ∷ codes "feed a>b.0 t 58"
    ∷ codes "shut a"
    ∷ [])

-- its log
abbrev pub shut_by_first_use_opened_log : List (List ℕ)
shut_by_first_use_opened_log =
    (
    codes "line 5 ok | made a.0 - -"
    ∷ codes "line 6 ok | made b.0 - -"
    ∷ codes "line 7 ok | made c.0 - -"
    ∷ codes "line 8 ok | said a.0 c.0 0 0 t 01 | dial a>c.0"
    ∷ codes "line 9 ok | said a.0 b.0 0 0 t 02 | dial a>b.0"
    ∷ codes "line 10 ok | joined a>c.0 | wrote a>c.0 o 0000000000000005683a313a30"
    ∷ codes "line 11 ok | came a>c.0"
    ∷ codes "line 12 ok | joined a>b.0 | wrote a>b.0 o 0000000000000005683a313a30"
    ∷ codes "line 13 ok | came a>b.0"
    ∷ codes "line 14 ok | fed a>c.0 t 13 | up a>c.0 t | wrote a>c.0 t 00000000"
    ∷ codes "line 15 ok | fed a>b.0 t 13 | up a>b.0 t | wrote a>b.0 t 00000000"
    ∷ codes "line 16 ok | fed a>c.0 o 4 | up a>c.0 o | wrote a>c.0 o 0000000000000400 | wrote a>c.0 o 000004000000001f000105683a313a30000000070000000001056b3a313a300000000500000000 | wrote a>c.0 o 0000040000000003017401"
    ∷ codes "line 17 ok | fed a>c.0 t 58 | got a.0 c.0 0 0 c.0"
    ∷ codes "line 18 ok | fed a>b.0 o 4 | up a>b.0 o | wrote a>b.0 o 0000000000000400 | wrote a>b.0 o 000004000000001f000105683a313a3000000007000000000105693a313a300000000900000000 | wrote a>b.0 o 0000040000000003017402"
    ∷ codes "line 19 ok | fed a>b.0 t 58 | got a.0 b.0 0 0 b.0"
    ∷ codes "line 20 ok | shut a | wrote a>c.0 o 00000003 | down a>c.0 o | wrote a>b.0 o 00000003 | down a>b.0 o"
    ∷ [])

-- a node is shut before its answer is read
abbrev pub shut_before_reading : List (List ℕ)
shut_before_reading =
    (
    codes "chjournal 1"
    ∷ codes "node a h:1:0 7"
    ∷ codes "node b i:1:0 9"
    ∷ codes "proc a"
    ∷ codes "proc b"
    ∷ codes "send a.0 b.0 t 01"
    ∷ codes "join a>b.0"
    ∷ codes "come a>b.0"
    ∷ codes "feed a>b.0 t 13"
    ∷ codes "feed a>b.0 o 4"
    ∷ codes "shut b"
    ∷ codes "feed a>b.0 o 100"
    ∷ codes "shut b"
    ∷ [])

-- its log
abbrev pub shut_before_reading_log : List (List ℕ)
shut_before_reading_log =
    (
    codes "line 4 ok | made a.0 - -"
    ∷ codes "line 5 ok | made b.0 - -"
    ∷ codes "line 6 ok | said a.0 b.0 0 0 t 01 | dial a>b.0"
    ∷ codes "line 7 ok | joined a>b.0 | wrote a>b.0 o 0000000000000005683a313a30"
    ∷ codes "line 8 ok | came a>b.0"
    ∷ codes "line 9 ok | fed a>b.0 t 13 | up a>b.0 t | wrote a>b.0 t 00000000"
    ∷ codes "line 10 ok | fed a>b.0 o 4 | up a>b.0 o | wrote a>b.0 o 0000000000000400 | wrote a>b.0 o 000004000000001f000105683a313a3000000007000000000105693a313a300000000900000000 | wrote a>b.0 o 0000040000000003017401"
    ∷ codes "line 11 ok | shut b | wrote a>b.0 t 00000003 | down a>b.0 t"
    ∷ codes "line 12 ok | fed a>b.0 o 4 | down a>b.0 o | broke a b nodedown"
    ∷ codes "line 13 dead"
    ∷ [])

-- a spawn whose label is not known makes a process that is over
abbrev pub spawn_of_unknown_label : List (List ℕ)
spawn_of_unknown_label =
    (
    codes "chjournal 1"
    ∷ codes "node a h:1:0 7"
    ∷ codes "node b i:1:0 9"
    ∷ codes "proc a"
    ∷ codes "spawn a.0 b w -"
    ∷ codes "settle"
    ∷ [])

-- its log
abbrev pub spawn_of_unknown_label_log : List (List ℕ)
spawn_of_unknown_label_log =
    (
    codes "line 4 ok | made a.0 - -"
    ∷ codes "line 5 ok | asked a!0 a.0 b | dial a>b.0"
    ∷ codes "line 6 ok | joined a>b.0 | wrote a>b.0 o 0000000000000005683a313a30 | came a>b.0 | fed a>b.0 t 13 | up a>b.0 t | wrote a>b.0 t 00000000 | fed a>b.0 o 4 | up a>b.0 o | wrote a>b.0 o 0000000000000400 | wrote a>b.0 o 000004000000000f000005683a313a300005693a313a30 | wrote a>b.0 o 00000400000000110505683a313a3000000000017700000000 | fed a>b.0 t 56 | made b.0 a!0 w | over b.0 exception unknown label | wrote a>b.0 t 0000000000000400 | wrote a>b.0 t 000004000000000f000005693a313a300005683a313a30 | wrote a>b.0 t 00000400000000190605683a313a300000000005693a313a300000000900000000 | fed a>b.0 o 64 | spawned a!0 b.0 | settled"
    ∷ [])

-- what settling did there, line by line
abbrev pub spawn_of_unknown_label_opened : List (List ℕ)
spawn_of_unknown_label_opened =
    (
    codes "chjournal 1"
    ∷ codes "node a h:1:0 7"
    ∷ codes "node b i:1:0 9"
    ∷ codes "proc a"
    ∷ codes "spawn a.0 b w -"
    ∷ codes "join a>b.0"
    ∷ codes "come a>b.0"
    ∷ codes "feed a>b.0 t 13"
    ∷ codes "feed a>b.0 o 4"
    ∷ codes "feed a>b.0 t 56"
    ∷ codes "feed a>b.0 o 64"
    ∷ [])

-- its log
abbrev pub spawn_of_unknown_label_opened_log : List (List ℕ)
spawn_of_unknown_label_opened_log =
    (
    codes "line 4 ok | made a.0 - -"
    ∷ codes "line 5 ok | asked a!0 a.0 b | dial a>b.0"
    ∷ codes "line 6 ok | joined a>b.0 | wrote a>b.0 o 0000000000000005683a313a30"
    ∷ codes "line 7 ok | came a>b.0"
    ∷ codes "line 8 ok | fed a>b.0 t 13 | up a>b.0 t | wrote a>b.0 t 00000000"
    ∷ codes "line 9 ok | fed a>b.0 o 4 | up a>b.0 o | wrote a>b.0 o 0000000000000400 | wrote a>b.0 o 000004000000000f000005683a313a300005693a313a30 | wrote a>b.0 o 00000400000000110505683a313a3000000000017700000000"
    ∷ codes "line 10 ok | fed a>b.0 t 56 | made b.0 a!0 w | over b.0 exception unknown label | wrote a>b.0 t 0000000000000400 | wrote a>b.0 t 000004000000000f000005693a313a300005683a313a30 | wrote a>b.0 t 00000400000000190605683a313a300000000005693a313a300000000900000000"
    ∷ codes "line 11 ok | fed a>b.0 o 64 | spawned a!0 b.0"
    ∷ [])

-- two spawns, a link, a name, a loss and a new epoch
abbrev pub usual_run : List (List ℕ)
usual_run =
    (
    codes "chjournal 1"
    ∷ codes "node a 10.0.0.1:9001:0 1"
    ∷ codes "node b 10.0.0.2:9001:0 1"
    ∷ codes "node c 10.0.0.3:9001:0 1"
    ∷ codes "label b w"
    ∷ codes "label c w"
    ∷ codes "proc a"
    ∷ codes "spawn a.0 b w -"
    ∷ codes "spawn a.0 c w -"
    ∷ codes "settle"
    ∷ codes "link a.0 b.0"
    ∷ codes "register b.0 log"
    ∷ codes "send a.0 b.0 t 01"
    ∷ codes "send a.0 b.0 t 01"
    ∷ codes "send a.0 b.0 t 01"
    ∷ codes "send a.0 c.0 t 01"
    ∷ codes "send a.0 c.0 t 01"
    ∷ codes "settle"
    ∷ codes "lose a>c.0 o"
    ∷ codes "again a.0 c.0"
    ∷ codes "send a.0 c.0 t 01"
    ∷ codes "send a.0 c.0 t 01"
    ∷ codes "nsend a.0 b:log t 01"
    ∷ codes "settle"
    ∷ [])

-- its log
abbrev pub usual_run_log : List (List ℕ)
usual_run_log =
    (
    codes "line 7 ok | made a.0 - -"
    ∷ codes "line 8 ok | asked a!0 a.0 b | dial a>b.0"
    ∷ codes "line 9 ok | asked a!1 a.0 c | dial a>c.0"
    ∷ codes "line 10 ok | joined a>b.0 | wrote a>b.0 o 000000000000000f31302e302e302e313a393030313a30 | came a>b.0 | joined a>c.0 | wrote a>c.0 o 000000000000000f31302e302e302e313a393030313a30 | came a>c.0 | fed a>b.0 t 23 | up a>b.0 t | wrote a>b.0 t 00000000 | fed a>c.0 t 23 | up a>c.0 t | wrote a>c.0 t 00000000 | fed a>b.0 o 4 | up a>b.0 o | wrote a>b.0 o 0000000000000400 | wrote a>b.0 o 000004000000002300000f31302e302e302e313a393030313a30000f31302e302e302e323a393030313a30 | wrote a>b.0 o 000004000000001b050f31302e302e302e313a393030313a3000000000017700000000 | fed a>b.0 t 86 | made b.0 a!0 w | wrote a>b.0 t 0000000000000400 | wrote a>b.0 t 000004000000002300000f31302e302e302e323a393030313a30000f31302e302e302e313a393030313a30 | wrote a>b.0 t 000004000000002d060f31302e302e302e313a393030313a30000000000f31302e302e302e323a393030313a300000000100000000 | fed a>c.0 o 4 | up a>c.0 o | wrote a>c.0 o 0000000000000400 | wrote a>c.0 o 000004000000002300000f31302e302e302e313a393030313a30000f31302e302e302e333a393030313a30 | wrote a>c.0 o 000004000000001b050f31302e302e302e313a393030313a3000000001017700000000 | fed a>c.0 t 86 | made c.0 a!1 w | wrote a>c.0 t 0000000000000400 | wrote a>c.0 t 000004000000002300000f31302e302e302e333a393030313a30000f31302e302e302e313a393030313a30 | wrote a>c.0 t 000004000000002d060f31302e302e302e313a393030313a30000000010f31302e302e302e333a393030313a300000000100000000 | fed a>b.0 o 104 | spawned a!0 b.0 | fed a>c.0 o 104 | spawned a!1 c.0 | settled"
    ∷ codes "line 11 ok | watch a!2 a.0 b.0 link | wrote a>b.0 o 000004000000002d030f31302e302e302e313a393030313a30000000020f31302e302e302e323a393030313a300000000100000000"
    ∷ codes "line 12 ok | named b log b.0"
    ∷ codes "line 13 ok | said a.0 b.0 0 0 t 01 | wrote a>b.0 o 0000000000000401 | wrote a>b.0 o 000004010000003300010f31302e302e302e313a393030313a300000000100000000010f31302e302e302e323a393030313a300000000100000000 | wrote a>b.0 o 0000040100000003017401"
    ∷ codes "line 14 ok | said a.0 b.0 0 1 t 01 | wrote a>b.0 o 0000040100000003017401"
    ∷ codes "line 15 ok | said a.0 b.0 0 2 t 01 | wrote a>b.0 o 0000040100000003017401"
    ∷ codes "line 16 ok | said a.0 c.0 0 0 t 01 | wrote a>c.0 o 0000000000000401 | wrote a>c.0 o 000004010000003300010f31302e302e302e313a393030313a300000000100000000010f31302e302e302e333a393030313a300000000100000000 | wrote a>c.0 o 0000040100000003017401"
    ∷ codes "line 17 ok | said a.0 c.0 0 1 t 01 | wrote a>c.0 o 0000040100000003017401"
    ∷ codes "line 18 ok | fed a>b.0 t 153 | got a.0 b.0 0 0 b.0 | got a.0 b.0 0 1 b.0 | got a.0 b.0 0 2 b.0 | fed a>c.0 t 89 | got a.0 c.0 0 0 c.0 | got a.0 c.0 0 1 c.0 | settled"
    ∷ codes "line 19 ok | lost a>c.0 o | down a>c.0 o | broke a c disconnect"
    ∷ codes "line 20 ok | again a.0 c.0 1"
    ∷ codes "line 21 ok | said a.0 c.0 1 0 t 01 | dial a>c.1"
    ∷ codes "line 22 ok | said a.0 c.0 1 1 t 01"
    ∷ codes "line 23 ok | said a.0 b:log 0 0 t 01 | wrote a>b.0 o 0000000000000402 | wrote a>b.0 o 000004020000002b00010f31302e302e302e313a393030313a300000000100000000000f31302e302e302e323a393030313a30 | wrote a>b.0 o 000004020000000c0a036c6f6701740000000101"
    ∷ codes "line 24 ok | fed a>b.0 t 79 | got a.0 b:log 0 0 b.0 | fed a>c.0 t 0 | down a>c.0 t | broke c a disconnect | joined a>c.1 | wrote a>c.1 o 000000000000000f31302e302e302e313a393030313a30 | came a>c.1 | fed a>c.1 t 23 | up a>c.1 t | wrote a>c.1 t 00000000 | fed a>c.1 o 4 | up a>c.1 o | wrote a>c.1 o 0000000000000400 | wrote a>c.1 o 000004000000003300010f31302e302e302e313a393030313a300000000100000000010f31302e302e302e333a393030313a300000000100000000 | wrote a>c.1 o 0000040000000003017401 | wrote a>c.1 o 0000040000000003017401 | fed a>c.1 t 89 | got a.0 c.0 1 0 c.0 | got a.0 c.0 1 1 c.0 | settled"
    ∷ [])

-- what settling did there, line by line
abbrev pub usual_run_opened : List (List ℕ)
usual_run_opened =
    (
    codes "chjournal 1"
    ∷ codes "node a 10.0.0.1:9001:0 1"
    ∷ codes "node b 10.0.0.2:9001:0 1"
    ∷ codes "node c 10.0.0.3:9001:0 1"
    ∷ codes "label b w"
    ∷ codes "label c w"
    ∷ codes "proc a"
    ∷ codes "spawn a.0 b w -"
    ∷ codes "spawn a.0 c w -"
    ∷ codes "join a>b.0"
    ∷ codes "come a>b.0"
    ∷ codes "join a>c.0"
    ∷ codes "come a>c.0"
    ∷ codes "feed a>b.0 t 23"
    ∷ codes "feed a>c.0 t 23"
    ∷ codes "feed a>b.0 o 4"
    ∷ codes "feed a>b.0 t 86"
    ∷ codes "feed a>c.0 o 4"
    ∷ codes "feed a>c.0 t 86"
    ∷ codes "feed a>b.0 o 104"
    ∷ codes "feed a>c.0 o 104"
    ∷ codes "link a.0 b.0"
    ∷ codes "register b.0 log"
    ∷ codes "send a.0 b.0 t 01"
    ∷ codes "send a.0 b.0 t 01"
    ∷ codes "send a.0 b.0 t 01"
    ∷ codes "send a.0 c.0 t 01"
    ∷ codes "send a.0 c.0 t 01"
    ∷ codes "feed a>b.0 t 153"
    ∷ codes "feed a>c.0 t 89"
    ∷ codes "lose a>c.0 o"
    ∷ codes "again a.0 c.0"
    ∷ codes "send a.0 c.0 t 01"
    ∷ codes "send a.0 c.0 t 01"
    ∷ codes "nsend a.0 b:log t 01"
    ∷ codes "feed a>b.0 t 79"
    ∷ codes "feed a>c.0 t 1"
    ∷ codes "join a>c.1"
    ∷ codes "come a>c.1"
    ∷ codes "feed a>c.1 t 23"
    ∷ codes "feed a>c.1 o 4"
    ∷ codes "feed a>c.1 t 89"
    ∷ [])

-- its log
abbrev pub usual_run_opened_log : List (List ℕ)
usual_run_opened_log =
    (
    codes "line 7 ok | made a.0 - -"
    ∷ codes "line 8 ok | asked a!0 a.0 b | dial a>b.0"
    ∷ codes "line 9 ok | asked a!1 a.0 c | dial a>c.0"
    ∷ codes "line 10 ok | joined a>b.0 | wrote a>b.0 o 000000000000000f31302e302e302e313a393030313a30"
    ∷ codes "line 11 ok | came a>b.0"
    ∷ codes "line 12 ok | joined a>c.0 | wrote a>c.0 o 000000000000000f31302e302e302e313a393030313a30"
    ∷ codes "line 13 ok | came a>c.0"
    ∷ codes "line 14 ok | fed a>b.0 t 23 | up a>b.0 t | wrote a>b.0 t 00000000"
    ∷ codes "line 15 ok | fed a>c.0 t 23 | up a>c.0 t | wrote a>c.0 t 00000000"
    ∷ codes "line 16 ok | fed a>b.0 o 4 | up a>b.0 o | wrote a>b.0 o 0000000000000400 | wrote a>b.0 o 000004000000002300000f31302e302e302e313a393030313a30000f31302e302e302e323a393030313a30 | wrote a>b.0 o 000004000000001b050f31302e302e302e313a393030313a3000000000017700000000"
    ∷ codes "line 17 ok | fed a>b.0 t 86 | made b.0 a!0 w | wrote a>b.0 t 0000000000000400 | wrote a>b.0 t 000004000000002300000f31302e302e302e323a393030313a30000f31302e302e302e313a393030313a30 | wrote a>b.0 t 000004000000002d060f31302e302e302e313a393030313a30000000000f31302e302e302e323a393030313a300000000100000000"
    ∷ codes "line 18 ok | fed a>c.0 o 4 | up a>c.0 o | wrote a>c.0 o 0000000000000400 | wrote a>c.0 o 000004000000002300000f31302e302e302e313a393030313a30000f31302e302e302e333a393030313a30 | wrote a>c.0 o 000004000000001b050f31302e302e302e313a393030313a3000000001017700000000"
    ∷ codes "line 19 ok | fed a>c.0 t 86 | made c.0 a!1 w | wrote a>c.0 t 0000000000000400 | wrote a>c.0 t 000004000000002300000f31302e302e302e333a393030313a30000f31302e302e302e313a393030313a30 | wrote a>c.0 t 000004000000002d060f31302e302e302e313a393030313a30000000010f31302e302e302e333a393030313a300000000100000000"
    ∷ codes "line 20 ok | fed a>b.0 o 104 | spawned a!0 b.0"
    ∷ codes "line 21 ok | fed a>c.0 o 104 | spawned a!1 c.0"
    ∷ codes "line 22 ok | watch a!2 a.0 b.0 link | wrote a>b.0 o 000004000000002d030f31302e302e302e313a393030313a30000000020f31302e302e302e323a393030313a300000000100000000"
    ∷ codes "line 23 ok | named b log b.0"
    ∷ codes "line 24 ok | said a.0 b.0 0 0 t 01 | wrote a>b.0 o 0000000000000401 | wrote a>b.0 o 000004010000003300010f31302e302e302e313a393030313a300000000100000000010f31302e302e302e323a393030313a300000000100000000 | wrote a>b.0 o 0000040100000003017401"
    ∷ codes "line 25 ok | said a.0 b.0 0 1 t 01 | wrote a>b.0 o 0000040100000003017401"
    ∷ codes "line 26 ok | said a.0 b.0 0 2 t 01 | wrote a>b.0 o 0000040100000003017401"
    ∷ codes "line 27 ok | said a.0 c.0 0 0 t 01 | wrote a>c.0 o 0000000000000401 | wrote a>c.0 o 000004010000003300010f31302e302e302e313a393030313a300000000100000000010f31302e302e302e333a393030313a300000000100000000 | wrote a>c.0 o 0000040100000003017401"
    ∷ codes "line 28 ok | said a.0 c.0 0 1 t 01 | wrote a>c.0 o 0000040100000003017401"
    ∷ codes "line 29 ok | fed a>b.0 t 153 | got a.0 b.0 0 0 b.0 | got a.0 b.0 0 1 b.0 | got a.0 b.0 0 2 b.0"
    ∷ codes "line 30 ok | fed a>c.0 t 89 | got a.0 c.0 0 0 c.0 | got a.0 c.0 0 1 c.0"
    ∷ codes "line 31 ok | lost a>c.0 o | down a>c.0 o | broke a c disconnect"
    ∷ codes "line 32 ok | again a.0 c.0 1"
    ∷ codes "line 33 ok | said a.0 c.0 1 0 t 01 | dial a>c.1"
    ∷ codes "line 34 ok | said a.0 c.0 1 1 t 01"
    ∷ codes "line 35 ok | said a.0 b:log 0 0 t 01 | wrote a>b.0 o 0000000000000402 | wrote a>b.0 o 000004020000002b00010f31302e302e302e313a393030313a300000000100000000000f31302e302e302e323a393030313a30 | wrote a>b.0 o 000004020000000c0a036c6f6701740000000101"
    ∷ codes "line 36 ok | fed a>b.0 t 79 | got a.0 b:log 0 0 b.0"
    ∷ codes "line 37 ok | fed a>c.0 t 0 | down a>c.0 t | broke c a disconnect"
    ∷ codes "line 38 ok | joined a>c.1 | wrote a>c.1 o 000000000000000f31302e302e302e313a393030313a30"
    ∷ codes "line 39 ok | came a>c.1"
    ∷ codes "line 40 ok | fed a>c.1 t 23 | up a>c.1 t | wrote a>c.1 t 00000000"
    ∷ codes "line 41 ok | fed a>c.1 o 4 | up a>c.1 o | wrote a>c.1 o 0000000000000400 | wrote a>c.1 o 000004000000003300010f31302e302e302e313a393030313a300000000100000000010f31302e302e302e333a393030313a300000000100000000 | wrote a>c.1 o 0000040000000003017401 | wrote a>c.1 o 0000040000000003017401"
    ∷ codes "line 42 ok | fed a>c.1 t 89 | got a.0 c.0 1 0 c.0 | got a.0 c.0 1 1 c.0"
    ∷ [])
