-- Worked journals of losses, refusals and timers.
use Rattle.std.specs.Prelude.{ℕ, List, [], ◌∷◌, ◌++◌, replicate, codes}

-- a loss, a cut, a request to a link that is up, a probe, and messages of three epochs
abbrev pub loss_and_reconnect : List (List ℕ)
loss_and_reconnect =
    (
    codes "chjournal 1"
    ∷ codes "node a h:1:0 7"
    ∷ codes "node b i:1:0 9"
    ∷ codes "proc a"
    ∷ codes "proc b"
    ∷ codes "send a.0 b.0 t 01"
    ∷ codes "send a.0 b.0 t 02"
    ∷ codes "join a>b.0"
    ∷ codes "come a>b.0"
    ∷ codes "feed a>b.0 t 13"
    ∷ codes "feed a>b.0 o 4"
    ∷ codes "feed a>b.0 t 58"
    ∷ codes "lose a>b.0 o"
    ∷ codes "cut a>b.0 t"
    ∷ codes "send a.0 b.0 t 03"
    ∷ codes "again a.0 b.0"
    ∷ codes "send a.0 b.0 t 04"
    ∷ codes "join a>b.1"
    ∷ codes "come a>b.1"
    ∷ codes "feed a>b.1 t 13"
    ∷ codes "settle"
    ∷ codes "again a.0 b.0"
    ∷ codes "send a.0 b.0 t 05"
    ∷ codes "settle"
    ∷ [])

-- its log
abbrev pub loss_and_reconnect_log : List (List ℕ)
loss_and_reconnect_log =
    (
    codes "line 4 ok | made a.0 - -"
    ∷ codes "line 5 ok | made b.0 - -"
    ∷ codes "line 6 ok | said a.0 b.0 0 0 t 01 | dial a>b.0"
    ∷ codes "line 7 ok | said a.0 b.0 0 1 t 02"
    ∷ codes "line 8 ok | joined a>b.0 | wrote a>b.0 o 0000000000000005683a313a30"
    ∷ codes "line 9 ok | came a>b.0"
    ∷ codes "line 10 ok | fed a>b.0 t 13 | up a>b.0 t | wrote a>b.0 t 00000000"
    ∷ codes "line 11 ok | fed a>b.0 o 4 | up a>b.0 o | wrote a>b.0 o 0000000000000400 | wrote a>b.0 o 000004000000001f000105683a313a3000000007000000000105693a313a300000000900000000 | wrote a>b.0 o 0000040000000003017401 | wrote a>b.0 o 0000040000000003017402"
    ∷ codes "line 12 ok | fed a>b.0 t 58 | got a.0 b.0 0 0 b.0"
    ∷ codes "line 13 ok | lost a>b.0 o | down a>b.0 o | broke a b disconnect"
    ∷ codes "line 14 ok | cut a>b.0 t"
    ∷ codes "line 15 ok | said a.0 b.0 0 2 t 03"
    ∷ codes "line 16 ok | again a.0 b.0 1"
    ∷ codes "line 17 ok | said a.0 b.0 1 0 t 04 | dial a>b.1"
    ∷ codes "line 18 ok | joined a>b.1 | wrote a>b.1 o 0000000000000005683a313a30"
    ∷ codes "line 19 ok | came a>b.1"
    ∷ codes "line 20 ok | fed a>b.1 t 13 | wrote a>b.1 t 00000002 | left a>b.1 t | wrote a>b.0 t 00000004"
    ∷ codes "line 21 ok | fed a>b.0 t 0 | down a>b.0 t | broke b a disconnect | fed a>b.1 o 4 | left a>b.1 o | timed a b | broke a b disconnect | settled"
    ∷ codes "line 22 ok | again a.0 b.0 2"
    ∷ codes "line 23 ok | said a.0 b.0 2 0 t 05 | dial a>b.2"
    ∷ codes "line 24 ok | joined a>b.2 | wrote a>b.2 o 0000000000000005683a313a30 | came a>b.2 | fed a>b.2 t 13 | up a>b.2 t | wrote a>b.2 t 00000000 | fed a>b.2 o 4 | up a>b.2 o | wrote a>b.2 o 0000000000000400 | wrote a>b.2 o 000004000000001f000105683a313a3000000007000000000105693a313a300000000900000000 | wrote a>b.2 o 0000040000000003017405 | fed a>b.2 t 58 | got a.0 b.0 2 0 b.0 | settled"
    ∷ [])

-- what settling did there, line by line
abbrev pub loss_and_reconnect_opened : List (List ℕ)
loss_and_reconnect_opened =
    (
    codes "chjournal 1"
    ∷ codes "node a h:1:0 7"
    ∷ codes "node b i:1:0 9"
    ∷ codes "proc a"
    ∷ codes "proc b"
    ∷ codes "send a.0 b.0 t 01"
    ∷ codes "send a.0 b.0 t 02"
    ∷ codes "join a>b.0"
    ∷ codes "come a>b.0"
    ∷ codes "feed a>b.0 t 13"
    ∷ codes "feed a>b.0 o 4"
    ∷ codes "feed a>b.0 t 58"
    ∷ codes "lose a>b.0 o"
    ∷ codes "cut a>b.0 t"
    ∷ codes "send a.0 b.0 t 03"
    ∷ codes "again a.0 b.0"
    ∷ codes "send a.0 b.0 t 04"
    ∷ codes "join a>b.1"
    ∷ codes "come a>b.1"
    ∷ codes "feed a>b.1 t 13"
    ∷ codes "feed a>b.0 t 1"
    ∷ codes "feed a>b.1 o 4"
    ∷ codes "late a b"
    ∷ codes "again a.0 b.0"
    ∷ codes "send a.0 b.0 t 05"
    ∷ codes "join a>b.2"
    ∷ codes "come a>b.2"
    ∷ codes "feed a>b.2 t 13"
    ∷ codes "feed a>b.2 o 4"
    ∷ codes "feed a>b.2 t 58"
    ∷ [])

-- its log
abbrev pub loss_and_reconnect_opened_log : List (List ℕ)
loss_and_reconnect_opened_log =
    (
    codes "line 4 ok | made a.0 - -"
    ∷ codes "line 5 ok | made b.0 - -"
    ∷ codes "line 6 ok | said a.0 b.0 0 0 t 01 | dial a>b.0"
    ∷ codes "line 7 ok | said a.0 b.0 0 1 t 02"
    ∷ codes "line 8 ok | joined a>b.0 | wrote a>b.0 o 0000000000000005683a313a30"
    ∷ codes "line 9 ok | came a>b.0"
    ∷ codes "line 10 ok | fed a>b.0 t 13 | up a>b.0 t | wrote a>b.0 t 00000000"
    ∷ codes "line 11 ok | fed a>b.0 o 4 | up a>b.0 o | wrote a>b.0 o 0000000000000400 | wrote a>b.0 o 000004000000001f000105683a313a3000000007000000000105693a313a300000000900000000 | wrote a>b.0 o 0000040000000003017401 | wrote a>b.0 o 0000040000000003017402"
    ∷ codes "line 12 ok | fed a>b.0 t 58 | got a.0 b.0 0 0 b.0"
    ∷ codes "line 13 ok | lost a>b.0 o | down a>b.0 o | broke a b disconnect"
    ∷ codes "line 14 ok | cut a>b.0 t"
    ∷ codes "line 15 ok | said a.0 b.0 0 2 t 03"
    ∷ codes "line 16 ok | again a.0 b.0 1"
    ∷ codes "line 17 ok | said a.0 b.0 1 0 t 04 | dial a>b.1"
    ∷ codes "line 18 ok | joined a>b.1 | wrote a>b.1 o 0000000000000005683a313a30"
    ∷ codes "line 19 ok | came a>b.1"
    ∷ codes "line 20 ok | fed a>b.1 t 13 | wrote a>b.1 t 00000002 | left a>b.1 t | wrote a>b.0 t 00000004"
    ∷ codes "line 21 ok | fed a>b.0 t 0 | down a>b.0 t | broke b a disconnect"
    ∷ codes "line 22 ok | fed a>b.1 o 4 | left a>b.1 o"
    ∷ codes "line 23 ok | timed a b | broke a b disconnect"
    ∷ codes "line 24 ok | again a.0 b.0 2"
    ∷ codes "line 25 ok | said a.0 b.0 2 0 t 05 | dial a>b.2"
    ∷ codes "line 26 ok | joined a>b.2 | wrote a>b.2 o 0000000000000005683a313a30"
    ∷ codes "line 27 ok | came a>b.2"
    ∷ codes "line 28 ok | fed a>b.2 t 13 | up a>b.2 t | wrote a>b.2 t 00000000"
    ∷ codes "line 29 ok | fed a>b.2 o 4 | up a>b.2 o | wrote a>b.2 o 0000000000000400 | wrote a>b.2 o 000004000000001f000105683a313a3000000007000000000105693a313a300000000900000000 | wrote a>b.2 o 0000040000000003017405"
    ∷ codes "line 30 ok | fed a>b.2 t 58 | got a.0 b.0 2 0 b.0"
    ∷ [])

-- a socket that is lost can not be lost again
abbrev pub lost_twice : List (List ℕ)
lost_twice =
    (
    codes "chjournal 1"
    ∷ codes "node a h:1:0 7"
    ∷ codes "node b i:1:0 9"
    ∷ codes "proc a"
    ∷ codes "proc b"
    ∷ codes "send a.0 b.0 t 01"
    ∷ codes "send a.0 b.0 t 02"
    ∷ codes "join a>b.0"
    ∷ codes "come a>b.0"
    ∷ codes "feed a>b.0 t 13"
    ∷ codes "feed a>b.0 o 4"
    ∷ codes "feed a>b.0 t 58"
    ∷ codes "lose a>b.0 o"
    ∷ codes "lose a>b.0 o"
    ∷ [])

-- its log
abbrev pub lost_twice_log : List (List ℕ)
lost_twice_log =
    (
    codes "line 4 ok | made a.0 - -"
    ∷ codes "line 5 ok | made b.0 - -"
    ∷ codes "line 6 ok | said a.0 b.0 0 0 t 01 | dial a>b.0"
    ∷ codes "line 7 ok | said a.0 b.0 0 1 t 02"
    ∷ codes "line 8 ok | joined a>b.0 | wrote a>b.0 o 0000000000000005683a313a30"
    ∷ codes "line 9 ok | came a>b.0"
    ∷ codes "line 10 ok | fed a>b.0 t 13 | up a>b.0 t | wrote a>b.0 t 00000000"
    ∷ codes "line 11 ok | fed a>b.0 o 4 | up a>b.0 o | wrote a>b.0 o 0000000000000400 | wrote a>b.0 o 000004000000001f000105683a313a3000000007000000000105693a313a300000000900000000 | wrote a>b.0 o 0000040000000003017401 | wrote a>b.0 o 0000040000000003017402"
    ∷ codes "line 12 ok | fed a>b.0 t 58 | got a.0 b.0 0 0 b.0"
    ∷ codes "line 13 ok | lost a>b.0 o | down a>b.0 o | broke a b disconnect"
    ∷ codes "line 14 none"
    ∷ [])

-- after a loss at both ends the next epoch goes over a new socket
abbrev pub lost_and_dialed_anew : List (List ℕ)
lost_and_dialed_anew =
    (
    codes "chjournal 1"
    ∷ codes "node a h:1:0 7"
    ∷ codes "node b i:1:0 9"
    ∷ codes "proc a"
    ∷ codes "proc b"
    ∷ codes "send a.0 b.0 t 01"
    ∷ codes "join a>b.0"
    ∷ codes "come a>b.0"
    ∷ codes "feed a>b.0 t 13"
    ∷ codes "feed a>b.0 o 4"
    ∷ codes "feed a>b.0 t 58"
    ∷ codes "lose a>b.0 o"
    ∷ codes "feed a>b.0 t 1"
    ∷ codes "send a.0 b.0 t 02"
    ∷ codes "again a.0 b.0"
    ∷ codes "send a.0 b.0 t 03"
    ∷ codes "join a>b.1"
    ∷ codes "come a>b.1"
    ∷ codes "feed a>b.1 t 13"
    ∷ codes "feed a>b.1 o 4"
    ∷ codes "feed a>b.1 t 58"
    ∷ [])

-- its log
abbrev pub lost_and_dialed_anew_log : List (List ℕ)
lost_and_dialed_anew_log =
    (
    codes "line 4 ok | made a.0 - -"
    ∷ codes "line 5 ok | made b.0 - -"
    ∷ codes "line 6 ok | said a.0 b.0 0 0 t 01 | dial a>b.0"
    ∷ codes "line 7 ok | joined a>b.0 | wrote a>b.0 o 0000000000000005683a313a30"
    ∷ codes "line 8 ok | came a>b.0"
    ∷ codes "line 9 ok | fed a>b.0 t 13 | up a>b.0 t | wrote a>b.0 t 00000000"
    ∷ codes "line 10 ok | fed a>b.0 o 4 | up a>b.0 o | wrote a>b.0 o 0000000000000400 | wrote a>b.0 o 000004000000001f000105683a313a3000000007000000000105693a313a300000000900000000 | wrote a>b.0 o 0000040000000003017401"
    ∷ codes "line 11 ok | fed a>b.0 t 58 | got a.0 b.0 0 0 b.0"
    ∷ codes "line 12 ok | lost a>b.0 o | down a>b.0 o | broke a b disconnect"
    ∷ codes "line 13 ok | fed a>b.0 t 0 | down a>b.0 t | broke b a disconnect"
    ∷ codes "line 14 ok | said a.0 b.0 0 1 t 02"
    ∷ codes "line 15 ok | again a.0 b.0 1"
    ∷ codes "line 16 ok | said a.0 b.0 1 0 t 03 | dial a>b.1"
    ∷ codes "line 17 ok | joined a>b.1 | wrote a>b.1 o 0000000000000005683a313a30"
    ∷ codes "line 18 ok | came a>b.1"
    ∷ codes "line 19 ok | fed a>b.1 t 13 | up a>b.1 t | wrote a>b.1 t 00000000"
    ∷ codes "line 20 ok | fed a>b.1 o 4 | up a>b.1 o | wrote a>b.1 o 0000000000000400 | wrote a>b.1 o 000004000000001f000105683a313a3000000007000000000105693a313a300000000900000000 | wrote a>b.1 o 0000040000000003017403"
    ∷ codes "line 21 ok | fed a>b.1 t 58 | got a.0 b.0 1 0 b.0"
    ∷ [])

-- a timer that runs is due once
abbrev pub timer_runs_out : List (List ℕ)
timer_runs_out =
    (
    codes "chjournal 1"
    ∷ codes "node a h:1:0 7"
    ∷ codes "node b i:1:0 9"
    ∷ codes "proc a"
    ∷ codes "proc b"
    ∷ codes "send a.0 b.0 t 01"
    ∷ codes "late b a"
    ∷ codes "late a b"
    ∷ codes "refuse a>b.0"
    ∷ [])

-- its log
abbrev pub timer_runs_out_log : List (List ℕ)
timer_runs_out_log =
    (
    codes "line 4 ok | made a.0 - -"
    ∷ codes "line 5 ok | made b.0 - -"
    ∷ codes "line 6 ok | said a.0 b.0 0 0 t 01 | dial a>b.0"
    ∷ codes "line 7 none"
    ∷ codes "line 8 ok | timed a b | left a>b.0 o | broke a b disconnect"
    ∷ codes "line 9 none"
    ∷ [])

-- a dial is refused
abbrev pub refused_dial : List (List ℕ)
refused_dial =
    (
    codes "chjournal 1"
    ∷ codes "node a h:1:0 7"
    ∷ codes "node b i:1:0 9"
    ∷ codes "proc a"
    ∷ codes "proc b"
    ∷ codes "send a.0 b.0 t 01"
    ∷ codes "refuse a>b.0"
    ∷ [])

-- its log
abbrev pub refused_dial_log : List (List ℕ)
refused_dial_log =
    (
    codes "line 4 ok | made a.0 - -"
    ∷ codes "line 5 ok | made b.0 - -"
    ∷ codes "line 6 ok | said a.0 b.0 0 0 t 01 | dial a>b.0"
    ∷ codes "line 7 ok | refused a>b.0 | left a>b.0 o | broke a b disconnect"
    ∷ [])

-- what was written before the sender's break is still read
abbrev pub got_after_the_break : List (List ℕ)
got_after_the_break =
    (
    codes "chjournal 1"
    ∷ codes "node a h:1:0 7"
    ∷ codes "node b i:1:0 9"
    ∷ codes "proc a"
    ∷ codes "proc b"
    ∷ codes "send a.0 b.0 t 01"
    ∷ codes "settle"
    ∷ codes "send a.0 b.0 t 02"
    ∷ codes "lose a>b.0 o"
    ∷ codes "feed a>b.0 t 400"
    ∷ codes "feed a>b.0 t 1"
    ∷ [])

-- its log
abbrev pub got_after_the_break_log : List (List ℕ)
got_after_the_break_log =
    (
    codes "line 4 ok | made a.0 - -"
    ∷ codes "line 5 ok | made b.0 - -"
    ∷ codes "line 6 ok | said a.0 b.0 0 0 t 01 | dial a>b.0"
    ∷ codes "line 7 ok | joined a>b.0 | wrote a>b.0 o 0000000000000005683a313a30 | came a>b.0 | fed a>b.0 t 13 | up a>b.0 t | wrote a>b.0 t 00000000 | fed a>b.0 o 4 | up a>b.0 o | wrote a>b.0 o 0000000000000400 | wrote a>b.0 o 000004000000001f000105683a313a3000000007000000000105693a313a300000000900000000 | wrote a>b.0 o 0000040000000003017401 | fed a>b.0 t 58 | got a.0 b.0 0 0 b.0 | settled"
    ∷ codes "line 8 ok | said a.0 b.0 0 1 t 02 | wrote a>b.0 o 0000040000000003017402"
    ∷ codes "line 9 ok | lost a>b.0 o | down a>b.0 o | broke a b disconnect"
    ∷ codes "line 10 ok | fed a>b.0 t 11 | got a.0 b.0 0 1 b.0"
    ∷ codes "line 11 ok | fed a>b.0 t 0 | down a>b.0 t | broke b a disconnect"
    ∷ [])

-- what settling did there, line by line
abbrev pub got_after_the_break_opened : List (List ℕ)
got_after_the_break_opened =
    (
    codes "chjournal 1"
    ∷ codes "node a h:1:0 7"
    ∷ codes "node b i:1:0 9"
    ∷ codes "proc a"
    ∷ codes "proc b"
    ∷ codes "send a.0 b.0 t 01"
    ∷ codes "join a>b.0"
    ∷ codes "come a>b.0"
    ∷ codes "feed a>b.0 t 13"
    ∷ codes "feed a>b.0 o 4"
    ∷ codes "feed a>b.0 t 58"
    ∷ codes "send a.0 b.0 t 02"
    ∷ codes "lose a>b.0 o"
    ∷ codes "feed a>b.0 t 400"
    ∷ codes "feed a>b.0 t 1"
    ∷ [])

-- its log
abbrev pub got_after_the_break_opened_log : List (List ℕ)
got_after_the_break_opened_log =
    (
    codes "line 4 ok | made a.0 - -"
    ∷ codes "line 5 ok | made b.0 - -"
    ∷ codes "line 6 ok | said a.0 b.0 0 0 t 01 | dial a>b.0"
    ∷ codes "line 7 ok | joined a>b.0 | wrote a>b.0 o 0000000000000005683a313a30"
    ∷ codes "line 8 ok | came a>b.0"
    ∷ codes "line 9 ok | fed a>b.0 t 13 | up a>b.0 t | wrote a>b.0 t 00000000"
    ∷ codes "line 10 ok | fed a>b.0 o 4 | up a>b.0 o | wrote a>b.0 o 0000000000000400 | wrote a>b.0 o 000004000000001f000105683a313a3000000007000000000105693a313a300000000900000000 | wrote a>b.0 o 0000040000000003017401"
    ∷ codes "line 11 ok | fed a>b.0 t 58 | got a.0 b.0 0 0 b.0"
    ∷ codes "line 12 ok | said a.0 b.0 0 1 t 02 | wrote a>b.0 o 0000040000000003017402"
    ∷ codes "line 13 ok | lost a>b.0 o | down a>b.0 o | broke a b disconnect"
    ∷ codes "line 14 ok | fed a>b.0 t 11 | got a.0 b.0 0 1 b.0"
    ∷ codes "line 15 ok | fed a>b.0 t 0 | down a>b.0 t | broke b a disconnect"
    ∷ [])

-- timers are due in order of first use
abbrev pub timers_by_first_use : List (List ℕ)
timers_by_first_use =
    (
    codes "chjournal 1"
    ∷ codes "node a h:1:0 7"
    ∷ codes "node b i:1:0 9"
    ∷ codes "node c k:1:0 5"
    ∷ codes "proc a"
    ∷ codes "proc b"
    ∷ codes "proc c"
    ∷ codes "send a.0 c.0 t 01"
    ∷ codes "send c.0 a.0 t 02"
    ∷ codes "send a.0 b.0 t 03"
    ∷ codes "send b.0 a.0 t 04"
    ∷ codes "join a>c.0"
    ∷ codes "come a>c.0"
    ∷ codes "feed a>c.0 t 13"
    ∷ codes "feed a>c.0 o 4"
    ∷ codes "join a>b.0"
    ∷ codes "come a>b.0"
    ∷ codes "feed a>b.0 t 13"
    ∷ codes "feed a>b.0 o 4"
    ∷ codes "refuse c>a.0"
    ∷ codes "refuse b>a.0"
    ∷ codes "settle"
    ∷ [])

-- its log
abbrev pub timers_by_first_use_log : List (List ℕ)
timers_by_first_use_log =
    (
    codes "line 5 ok | made a.0 - -"
    ∷ codes "line 6 ok | made b.0 - -"
    ∷ codes "line 7 ok | made c.0 - -"
    ∷ codes "line 8 ok | said a.0 c.0 0 0 t 01 | dial a>c.0"
    ∷ codes "line 9 ok | said c.0 a.0 0 0 t 02 | dial c>a.0"
    ∷ codes "line 10 ok | said a.0 b.0 0 0 t 03 | dial a>b.0"
    ∷ codes "line 11 ok | said b.0 a.0 0 0 t 04 | dial b>a.0"
    ∷ codes "line 12 ok | joined a>c.0 | wrote a>c.0 o 0000000000000005683a313a30"
    ∷ codes "line 13 ok | came a>c.0"
    ∷ codes "line 14 ok | fed a>c.0 t 13 | wrote a>c.0 t 00000002 | left a>c.0 t"
    ∷ codes "line 15 ok | fed a>c.0 o 4 | left a>c.0 o"
    ∷ codes "line 16 ok | joined a>b.0 | wrote a>b.0 o 0000000000000005683a313a30"
    ∷ codes "line 17 ok | came a>b.0"
    ∷ codes "line 18 ok | fed a>b.0 t 13 | wrote a>b.0 t 00000002 | left a>b.0 t"
    ∷ codes "line 19 ok | fed a>b.0 o 4 | left a>b.0 o"
    ∷ codes "line 20 ok | refused c>a.0 | left c>a.0 o | broke c a disconnect"
    ∷ codes "line 21 ok | refused b>a.0 | left b>a.0 o | broke b a disconnect"
    ∷ codes "line 22 ok | came c>a.0 | came b>a.0 | fed c>a.0 t 0 | left c>a.0 t | fed b>a.0 t 0 | left b>a.0 t | timed a c | broke a c disconnect | timed a b | broke a b disconnect | settled"
    ∷ [])

-- what settling did there, line by line
abbrev pub timers_by_first_use_opened : List (List ℕ)
timers_by_first_use_opened =
    (
    codes "chjournal 1"
    ∷ codes "node a h:1:0 7"
    ∷ codes "node b i:1:0 9"
    ∷ codes "node c k:1:0 5"
    ∷ codes "proc a"
    ∷ codes "proc b"
    ∷ codes "proc c"
    ∷ codes "send a.0 c.0 t 01"
    ∷ codes "send c.0 a.0 t 02"
    ∷ codes "send a.0 b.0 t 03"
    ∷ codes "send b.0 a.0 t 04"
    ∷ codes "join a>c.0"
    ∷ codes "come a>c.0"
    ∷ codes "feed a>c.0 t 13"
    ∷ codes "feed a>c.0 o 4"
    ∷ codes "join a>b.0"
    ∷ codes "come a>b.0"
    ∷ codes "feed a>b.0 t 13"
    ∷ codes "feed a>b.0 o 4"
    ∷ codes "refuse c>a.0"
    ∷ codes "refuse b>a.0"
    ∷ codes "come c>a.0"
    ∷ codes "come b>a.0"
    ∷ codes "feed c>a.0 t 1"
    ∷ codes "feed b>a.0 t 1"
    ∷ codes "late a c"
    ∷ codes "late a b"
    ∷ [])

-- its log
abbrev pub timers_by_first_use_opened_log : List (List ℕ)
timers_by_first_use_opened_log =
    (
    codes "line 5 ok | made a.0 - -"
    ∷ codes "line 6 ok | made b.0 - -"
    ∷ codes "line 7 ok | made c.0 - -"
    ∷ codes "line 8 ok | said a.0 c.0 0 0 t 01 | dial a>c.0"
    ∷ codes "line 9 ok | said c.0 a.0 0 0 t 02 | dial c>a.0"
    ∷ codes "line 10 ok | said a.0 b.0 0 0 t 03 | dial a>b.0"
    ∷ codes "line 11 ok | said b.0 a.0 0 0 t 04 | dial b>a.0"
    ∷ codes "line 12 ok | joined a>c.0 | wrote a>c.0 o 0000000000000005683a313a30"
    ∷ codes "line 13 ok | came a>c.0"
    ∷ codes "line 14 ok | fed a>c.0 t 13 | wrote a>c.0 t 00000002 | left a>c.0 t"
    ∷ codes "line 15 ok | fed a>c.0 o 4 | left a>c.0 o"
    ∷ codes "line 16 ok | joined a>b.0 | wrote a>b.0 o 0000000000000005683a313a30"
    ∷ codes "line 17 ok | came a>b.0"
    ∷ codes "line 18 ok | fed a>b.0 t 13 | wrote a>b.0 t 00000002 | left a>b.0 t"
    ∷ codes "line 19 ok | fed a>b.0 o 4 | left a>b.0 o"
    ∷ codes "line 20 ok | refused c>a.0 | left c>a.0 o | broke c a disconnect"
    ∷ codes "line 21 ok | refused b>a.0 | left b>a.0 o | broke b a disconnect"
    ∷ codes "line 22 ok | came c>a.0"
    ∷ codes "line 23 ok | came b>a.0"
    ∷ codes "line 24 ok | fed c>a.0 t 0 | left c>a.0 t"
    ∷ codes "line 25 ok | fed b>a.0 t 0 | left b>a.0 t"
    ∷ codes "line 26 ok | timed a c | broke a c disconnect"
    ∷ codes "line 27 ok | timed a b | broke a b disconnect"
    ∷ [])

-- a named pair begins a new epoch after a break, without reconnecting
abbrev pub named_after_a_break : List (List ℕ)
named_after_a_break =
    (
    codes "chjournal 1"
    ∷ codes "node a h:1:0 7"
    ∷ codes "node b i:1:0 9"
    ∷ codes "proc a"
    ∷ codes "proc b"
    ∷ codes "register b.0 p"
    ∷ codes "nsend a.0 b:p t 01"
    ∷ codes "settle"
    ∷ codes "lose a>b.0 o"
    ∷ codes "nsend a.0 b:p t 02"
    ∷ codes "settle"
    ∷ codes "nsend a.0 b:q t 03"
    ∷ codes "settle"
    ∷ [])

-- its log
abbrev pub named_after_a_break_log : List (List ℕ)
named_after_a_break_log =
    (
    codes "line 4 ok | made a.0 - -"
    ∷ codes "line 5 ok | made b.0 - -"
    ∷ codes "line 6 ok | named b p b.0"
    ∷ codes "line 7 ok | said a.0 b:p 0 0 t 01 | dial a>b.0"
    ∷ codes "line 8 ok | joined a>b.0 | wrote a>b.0 o 0000000000000005683a313a30 | came a>b.0 | fed a>b.0 t 13 | up a>b.0 t | wrote a>b.0 t 00000000 | fed a>b.0 o 4 | up a>b.0 o | wrote a>b.0 o 0000000000000400 | wrote a>b.0 o 0000040000000017000105683a313a3000000007000000000005693a313a30 | wrote a>b.0 o 000004000000000a0a017001740000000101 | fed a>b.0 t 57 | got a.0 b:p 0 0 b.0 | settled"
    ∷ codes "line 9 ok | lost a>b.0 o | down a>b.0 o | broke a b disconnect"
    ∷ codes "line 10 ok | said a.0 b:p 1 0 t 02 | dial a>b.1"
    ∷ codes "line 11 ok | fed a>b.0 t 0 | down a>b.0 t | broke b a disconnect | joined a>b.1 | wrote a>b.1 o 0000000000000005683a313a30 | came a>b.1 | fed a>b.1 t 13 | up a>b.1 t | wrote a>b.1 t 00000000 | fed a>b.1 o 4 | up a>b.1 o | wrote a>b.1 o 0000000000000400 | wrote a>b.1 o 0000040000000017000105683a313a3000000007000000000005693a313a30 | wrote a>b.1 o 000004000000000a0a017001740000000102 | fed a>b.1 t 57 | got a.0 b:p 1 0 b.0 | settled"
    ∷ codes "line 12 ok | said a.0 b:q 0 0 t 03 | wrote a>b.1 o 0000000000000401 | wrote a>b.1 o 0000040100000017000105683a313a3000000007000000000005693a313a30 | wrote a>b.1 o 000004010000000a0a017101740000000103"
    ∷ codes "line 13 ok | fed a>b.1 t 57 | got a.0 b:q 0 0 - | settled"
    ∷ [])

-- what settling did there, line by line
abbrev pub named_after_a_break_opened : List (List ℕ)
named_after_a_break_opened =
    (
    codes "chjournal 1"
    ∷ codes "node a h:1:0 7"
    ∷ codes "node b i:1:0 9"
    ∷ codes "proc a"
    ∷ codes "proc b"
    ∷ codes "register b.0 p"
    ∷ codes "nsend a.0 b:p t 01"
    ∷ codes "join a>b.0"
    ∷ codes "come a>b.0"
    ∷ codes "feed a>b.0 t 13"
    ∷ codes "feed a>b.0 o 4"
    ∷ codes "feed a>b.0 t 57"
    ∷ codes "lose a>b.0 o"
    ∷ codes "nsend a.0 b:p t 02"
    ∷ codes "feed a>b.0 t 1"
    ∷ codes "join a>b.1"
    ∷ codes "come a>b.1"
    ∷ codes "feed a>b.1 t 13"
    ∷ codes "feed a>b.1 o 4"
    ∷ codes "feed a>b.1 t 57"
    ∷ codes "nsend a.0 b:q t 03"
    ∷ codes "feed a>b.1 t 57"
    ∷ [])

-- its log
abbrev pub named_after_a_break_opened_log : List (List ℕ)
named_after_a_break_opened_log =
    (
    codes "line 4 ok | made a.0 - -"
    ∷ codes "line 5 ok | made b.0 - -"
    ∷ codes "line 6 ok | named b p b.0"
    ∷ codes "line 7 ok | said a.0 b:p 0 0 t 01 | dial a>b.0"
    ∷ codes "line 8 ok | joined a>b.0 | wrote a>b.0 o 0000000000000005683a313a30"
    ∷ codes "line 9 ok | came a>b.0"
    ∷ codes "line 10 ok | fed a>b.0 t 13 | up a>b.0 t | wrote a>b.0 t 00000000"
    ∷ codes "line 11 ok | fed a>b.0 o 4 | up a>b.0 o | wrote a>b.0 o 0000000000000400 | wrote a>b.0 o 0000040000000017000105683a313a3000000007000000000005693a313a30 | wrote a>b.0 o 000004000000000a0a017001740000000101"
    ∷ codes "line 12 ok | fed a>b.0 t 57 | got a.0 b:p 0 0 b.0"
    ∷ codes "line 13 ok | lost a>b.0 o | down a>b.0 o | broke a b disconnect"
    ∷ codes "line 14 ok | said a.0 b:p 1 0 t 02 | dial a>b.1"
    ∷ codes "line 15 ok | fed a>b.0 t 0 | down a>b.0 t | broke b a disconnect"
    ∷ codes "line 16 ok | joined a>b.1 | wrote a>b.1 o 0000000000000005683a313a30"
    ∷ codes "line 17 ok | came a>b.1"
    ∷ codes "line 18 ok | fed a>b.1 t 13 | up a>b.1 t | wrote a>b.1 t 00000000"
    ∷ codes "line 19 ok | fed a>b.1 o 4 | up a>b.1 o | wrote a>b.1 o 0000000000000400 | wrote a>b.1 o 0000040000000017000105683a313a3000000007000000000005693a313a30 | wrote a>b.1 o 000004000000000a0a017001740000000102"
    ∷ codes "line 20 ok | fed a>b.1 t 57 | got a.0 b:p 1 0 b.0"
    ∷ codes "line 21 ok | said a.0 b:q 0 0 t 03 | wrote a>b.1 o 0000000000000401 | wrote a>b.1 o 0000040100000017000105683a313a3000000007000000000005693a313a30 | wrote a>b.1 o 000004010000000a0a017101740000000103"
    ∷ codes "line 22 ok | fed a>b.1 t 57 | got a.0 b:q 0 0 -"
    ∷ [])
