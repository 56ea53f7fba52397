-- Worked journals of requests that cross.
use Rattle.std.specs.Prelude.{ℕ, List, [], ◌∷◌, ◌++◌, replicate, codes}

-- two nodes dial each other, and the request of the greater address is taken
abbrev pub crossed_requests : List (List ℕ)
crossed_requests =
    (
    codes "chjournal 1"
    ∷ codes "node a h:1:0 7"
    ∷ codes "node b i:1:0 9"
    ∷ codes "proc a"
    ∷ codes "proc b"
    ∷ codes "send a.0 b.0 t 01"
    ∷ codes "send b.0 a.0 t 02"
    ∷ codes "join a>b.0"
    ∷ codes "join b>a.0"
    ∷ codes "come a>b.0"
    ∷ codes "come b>a.0"
    ∷ codes "feed b>a.0 t 13"
    ∷ codes "settle"
    ∷ [])

-- its log
abbrev pub crossed_requests_log : List (List ℕ)
crossed_requests_log =
    (
    codes "line 4 ok | made a.0 - -"
    ∷ codes "line 5 ok | made b.0 - -"
    ∷ codes "line 6 ok | said a.0 b.0 0 0 t 01 | dial a>b.0"
    ∷ codes "line 7 ok | said b.0 a.0 0 0 t 02 | dial b>a.0"
    ∷ codes "line 8 ok | joined a>b.0 | wrote a>b.0 o 0000000000000005683a313a30"
    ∷ codes "line 9 ok | joined b>a.0 | wrote b>a.0 o 0000000000000005693a313a30"
    ∷ codes "line 10 ok | came a>b.0"
    ∷ codes "line 11 ok | came b>a.0"
    ∷ codes "line 12 ok | fed b>a.0 t 13 | left a>b.0 o | up b>a.0 t | wrote b>a.0 t 00000000 | wrote b>a.0 t 0000000000000400 | wrote b>a.0 t 000004000000001f000105683a313a3000000007000000000105693a313a300000000900000000 | wrote b>a.0 t 0000040000000003017401"
    ∷ codes "line 13 ok | fed a>b.0 t 13 | wrote a>b.0 t 00000002 | left a>b.0 t | fed b>a.0 o 62 | up b>a.0 o | wrote b>a.0 o 0000000000000400 | wrote b>a.0 o 000004000000001f000105693a313a3000000009000000000105683a313a300000000700000000 | wrote b>a.0 o 0000040000000003017402 | got a.0 b.0 0 0 b.0 | fed b>a.0 t 58 | got b.0 a.0 0 0 a.0 | settled"
    ∷ [])

-- what settling did there, line by line
abbrev pub crossed_requests_opened : List (List ℕ)
crossed_requests_opened =
    (
    codes "chjournal 1"
    ∷ codes "node a h:1:0 7"
    ∷ codes "node b i:1:0 9"
    ∷ codes "proc a"
    ∷ codes "proc b"
    ∷ codes "send a.0 b.0 t 01"
    ∷ codes "send b.0 a.0 t 02"
    ∷ codes "join a>b.0"
    ∷ codes "join b>a.0"
    ∷ codes "come a>b.0"
    ∷ codes "come b>a.0"
    ∷ codes "feed b>a.0 t 13"
    ∷ codes "feed a>b.0 t 13"
    ∷ codes "feed b>a.0 o 62"
    ∷ codes "feed b>a.0 t 58"
    ∷ [])

-- its log
abbrev pub crossed_requests_opened_log : List (List ℕ)
crossed_requests_opened_log =
    (
    codes "line 4 ok | made a.0 - -"
    ∷ codes "line 5 ok | made b.0 - -"
    ∷ codes "line 6 ok | said a.0 b.0 0 0 t 01 | dial a>b.0"
    ∷ codes "line 7 ok | said b.0 a.0 0 0 t 02 | dial b>a.0"
    ∷ codes "line 8 ok | joined a>b.0 | wrote a>b.0 o 0000000000000005683a313a30"
    ∷ codes "line 9 ok | joined b>a.0 | wrote b>a.0 o 0000000000000005693a313a30"
    ∷ codes "line 10 ok | came a>b.0"
    ∷ codes "line 11 ok | came b>a.0"
    ∷ codes "line 12 ok | fed b>a.0 t 13 | left a>b.0 o | up b>a.0 t | wrote b>a.0 t 00000000 | wrote b>a.0 t 0000000000000400 | wrote b>a.0 t 000004000000001f000105683a313a3000000007000000000105693a313a300000000900000000 | wrote b>a.0 t 0000040000000003017401"
    ∷ codes "line 13 ok | fed a>b.0 t 13 | wrote a>b.0 t 00000002 | left a>b.0 t"
    ∷ codes "line 14 ok | fed b>a.0 o 62 | up b>a.0 o | wrote b>a.0 o 0000000000000400 | wrote b>a.0 o 000004000000001f000105693a313a3000000009000000000105683a313a300000000700000000 | wrote b>a.0 o 0000040000000003017402 | got a.0 b.0 0 0 b.0"
    ∷ codes "line 15 ok | fed b>a.0 t 58 | got b.0 a.0 0 0 a.0"
    ∷ [])

-- a crossed dial is answered, and left, before the other request is read
abbrev pub stale_crossed_dial : List (List ℕ)
stale_crossed_dial =
    (
    codes "chjournal 1"
    ∷ codes "node a h:1:0 7"
    ∷ codes "node b i:1:0 9"
    ∷ codes "proc a"
    ∷ codes "proc b"
    ∷ codes "send a.0 b.0 t 01"
    ∷ codes "send b.0 a.0 t 02"
    ∷ codes "join a>b.0"
    ∷ codes "join b>a.0"
    ∷ codes "come a>b.0"
    ∷ codes "come b>a.0"
    ∷ codes "feed a>b.0 t 13"
    ∷ codes "feed a>b.0 o 4"
    ∷ codes "feed b>a.0 t 13"
    ∷ codes "settle"
    ∷ [])

-- its log
abbrev pub stale_crossed_dial_log : List (List ℕ)
stale_crossed_dial_log =
    (
    codes "line 4 ok | made a.0 - -"
    ∷ codes "line 5 ok | made b.0 - -"
    ∷ codes "line 6 ok | said a.0 b.0 0 0 t 01 | dial a>b.0"
    ∷ codes "line 7 ok | said b.0 a.0 0 0 t 02 | dial b>a.0"
    ∷ codes "line 8 ok | joined a>b.0 | wrote a>b.0 o 0000000000000005683a313a30"
    ∷ codes "line 9 ok | joined b>a.0 | wrote b>a.0 o 0000000000000005693a313a30"
    ∷ codes "line 10 ok | came a>b.0"
    ∷ codes "line 11 ok | came b>a.0"
    ∷ codes "line 12 ok | fed a>b.0 t 13 | wrote a>b.0 t 00000002 | left a>b.0 t"
    ∷ codes "line 13 ok | fed a>b.0 o 4 | left a>b.0 o"
    ∷ codes "line 14 ok | fed b>a.0 t 13 | up b>a.0 t | wrote b>a.0 t 00000000 | wrote b>a.0 t 0000000000000400 | wrote b>a.0 t 000004000000001f000105683a313a3000000007000000000105693a313a300000000900000000 | wrote b>a.0 t 0000040000000003017401"
    ∷ codes "line 15 ok | fed b>a.0 o 62 | up b>a.0 o | wrote b>a.0 o 0000000000000400 | wrote b>a.0 o 000004000000001f000105693a313a3000000009000000000105683a313a300000000700000000 | wrote b>a.0 o 0000040000000003017402 | got a.0 b.0 0 0 b.0 | fed b>a.0 t 58 | got b.0 a.0 0 0 a.0 | settled"
    ∷ [])

-- what settling did there, line by line
abbrev pub stale_crossed_dial_opened : List (List ℕ)
stale_crossed_dial_opened =
    (
    codes "chjournal 1"
    ∷ codes "node a h:1:0 7"
    ∷ codes "node b i:1:0 9"
    ∷ codes "proc a"
    ∷ codes "proc b"
    ∷ codes "send a.0 b.0 t 01"
    ∷ codes "send b.0 a.0 t 02"
    ∷ codes "join a>b.0"
    ∷ codes "join b>a.0"
    ∷ codes "come a>b.0"
    ∷ codes "come b>a.0"
    ∷ codes "feed a>b.0 t 13"
    ∷ codes "feed a>b.0 o 4"
    ∷ codes "feed b>a.0 t 13"
    ∷ codes "feed b>a.0 o 62"
    ∷ codes "feed b>a.0 t 58"
    ∷ [])

-- its log
abbrev pub stale_crossed_dial_opened_log : List (List ℕ)
stale_crossed_dial_opened_log =
    (
    codes "line 4 ok | made a.0 - -"
    ∷ codes "line 5 ok | made b.0 - -"
    ∷ codes "line 6 ok | said a.0 b.0 0 0 t 01 | dial a>b.0"
    ∷ codes "line 7 ok | said b.0 a.0 0 0 t 02 | dial b>a.0"
    ∷ codes "line 8 ok | joined a>b.0 | wrote a>b.0 o 0000000000000005683a313a30"
    ∷ codes "line 9 ok | joined b>a.0 | wrote b>a.0 o 0000000000000005693a313a30"
    ∷ codes "line 10 ok | came a>b.0"
    ∷ codes "line 11 ok | came b>a.0"
    ∷ codes "line 12 ok | fed a>b.0 t 13 | wrote a>b.0 t 00000002 | left a>b.0 t"
    ∷ codes "line 13 ok | fed a>b.0 o 4 | left a>b.0 o"
    ∷ codes "line 14 ok | fed b>a.0 t 13 | up b>a.0 t | wrote b>a.0 t 00000000 | wrote b>a.0 t 0000000000000400 | wrote b>a.0 t 000004000000001f000105683a313a3000000007000000000105693a313a300000000900000000 | wrote b>a.0 t 0000040000000003017401"
    ∷ codes "line 15 ok | fed b>a.0 o 62 | up b>a.0 o | wrote b>a.0 o 0000000000000400 | wrote b>a.0 o 000004000000001f000105693a313a3000000009000000000105683a313a300000000700000000 | wrote b>a.0 o 0000040000000003017402 | got a.0 b.0 0 0 b.0"
    ∷ codes "line 16 ok | fed b>a.0 t 58 | got b.0 a.0 0 0 a.0"
    ∷ [])

-- a pass of settling does one thing at each end
abbrev pub one_thing_at_each_end : List (List ℕ)
one_thing_at_each_end =
    (
    codes "chjournal 1"
    ∷ codes "node a h:1:0 7"
    ∷ codes "node b i:1:0 9"
    ∷ codes "proc a"
    ∷ codes "proc b"
    ∷ codes "send a.0 b.0 t 01"
    ∷ codes "send b.0 a.0 t 02"
    ∷ codes "settle"
    ∷ [])

-- its log
abbrev pub one_thing_at_each_end_log : List (List ℕ)
one_thing_at_each_end_log =
    (
    codes "line 4 ok | made a.0 - -"
    ∷ codes "line 5 ok | made b.0 - -"
    ∷ codes "line 6 ok | said a.0 b.0 0 0 t 01 | dial a>b.0"
    ∷ codes "line 7 ok | said b.0 a.0 0 0 t 02 | dial b>a.0"
    ∷ codes "line 8 ok | joined a>b.0 | wrote a>b.0 o 0000000000000005683a313a30 | came a>b.0 | joined b>a.0 | wrote b>a.0 o 0000000000000005693a313a30 | came b>a.0 | fed a>b.0 t 13 | wrote a>b.0 t 00000002 | left a>b.0 t | fed b>a.0 t 13 | left a>b.0 o | up b>a.0 t | wrote b>a.0 t 00000000 | wrote b>a.0 t 0000000000000400 | wrote b>a.0 t 000004000000001f000105683a313a3000000007000000000105693a313a300000000900000000 | wrote b>a.0 t 0000040000000003017401 | fed b>a.0 o 62 | up b>a.0 o | wrote b>a.0 o 0000000000000400 | wrote b>a.0 o 000004000000001f000105693a313a3000000009000000000105683a313a300000000700000000 | wrote b>a.0 o 0000040000000003017402 | got a.0 b.0 0 0 b.0 | fed b>a.0 t 58 | got b.0 a.0 0 0 a.0 | settled"
    ∷ [])

-- what settling did there, line by line
abbrev pub one_thing_at_each_end_opened : List (List ℕ)
one_thing_at_each_end_opened =
    (
    codes "chjournal 1"
    ∷ codes "node a h:1:0 7"
    ∷ codes "node b i:1:0 9"
    ∷ codes "proc a"
    ∷ codes "proc b"
    ∷ codes "send a.0 b.0 t 01"
    ∷ codes "send b.0 a.0 t 02"
    ∷ codes "join a>b.0"
    ∷ codes "come a>b.0"
    ∷ codes "join b>a.0"
    ∷ codes "come b>a.0"
    ∷ codes "feed a>b.0 t 13"
    ∷ codes "feed b>a.0 t 13"
    ∷ codes "feed b>a.0 o 62"
    ∷ codes "feed b>a.0 t 58"
    ∷ [])

-- its log
abbrev pub one_thing_at_each_end_opened_log : List (List ℕ)
one_thing_at_each_end_opened_log =
    (
    codes "line 4 ok | made a.0 - -"
    ∷ codes "line 5 ok | made b.0 - -"
    ∷ codes "line 6 ok | said a.0 b.0 0 0 t 01 | dial a>b.0"
    ∷ codes "line 7 ok | said b.0 a.0 0 0 t 02 | dial b>a.0"
    ∷ codes "line 8 ok | joined a>b.0 | wrote a>b.0 o 0000000000000005683a313a30"
    ∷ codes "line 9 ok | came a>b.0"
    ∷ codes "line 10 ok | joined b>a.0 | wrote b>a.0 o 0000000000000005693a313a30"
    ∷ codes "line 11 ok | came b>a.0"
    ∷ codes "line 12 ok | fed a>b.0 t 13 | wrote a>b.0 t 00000002 | left a>b.0 t"
    ∷ codes "line 13 ok | fed b>a.0 t 13 | left a>b.0 o | up b>a.0 t | wrote b>a.0 t 00000000 | wrote b>a.0 t 0000000000000400 | wrote b>a.0 t 000004000000001f000105683a313a3000000007000000000105693a313a300000000900000000 | wrote b>a.0 t 0000040000000003017401"
    ∷ codes "line 14 ok | fed b>a.0 o 62 | up b>a.0 o | wrote b>a.0 o 0000000000000400 | wrote b>a.0 o 000004000000001f000105693a313a3000000009000000000105683a313a300000000700000000 | wrote b>a.0 o 0000040000000003017402 | got a.0 b.0 0 0 b.0"
    ∷ codes "line 15 ok | fed b>a.0 t 58 | got b.0 a.0 0 0 a.0"
    ∷ [])

-- a crossed dial that was not joined is left too
abbrev pub left_before_joined : List (List ℕ)
left_before_joined =
    (
    codes "chjournal 1"
    ∷ codes "node a h:1:0 7"
    ∷ codes "node b i:1:0 9"
    ∷ codes "proc a"
    ∷ codes "proc b"
    ∷ codes "send a.0 b.0 t 01"
    ∷ codes "send b.0 a.0 t 02"
    ∷ codes "join b>a.0"
    ∷ codes "come b>a.0"
    ∷ codes "feed b>a.0 t 13"
    ∷ codes "join a>b.0"
    ∷ codes "come a>b.0"
    ∷ codes "feed a>b.0 t 1"
    ∷ [])

-- its log
abbrev pub left_before_joined_log : List (List ℕ)
left_before_joined_log =
    (
    codes "line 4 ok | made a.0 - -"
    ∷ codes "line 5 ok | made b.0 - -"
    ∷ codes "line 6 ok | said a.0 b.0 0 0 t 01 | dial a>b.0"
    ∷ codes "line 7 ok | said b.0 a.0 0 0 t 02 | dial b>a.0"
    ∷ codes "line 8 ok | joined b>a.0 | wrote b>a.0 o 0000000000000005693a313a30"
    ∷ codes "line 9 ok | came b>a.0"
    ∷ codes "line 10 ok | fed b>a.0 t 13 | left a>b.0 o | up b>a.0 t | wrote b>a.0 t 00000000 | wrote b>a.0 t 0000000000000400 | wrote b>a.0 t 000004000000001f000105683a313a3000000007000000000105693a313a300000000900000000 | wrote b>a.0 t 0000040000000003017401"
    ∷ codes "line 11 none"
    ∷ codes "line 12 ok | came a>b.0"
    ∷ codes "line 13 ok | fed a>b.0 t 0 | left a>b.0 t"
    ∷ [])

-- a request that its opener has left brings the target up, whose end then breaks
abbrev pub stale_request : List (List ℕ)
stale_request =
    (
    codes "chjournal 1"
    ∷ codes "node a h:1:0 7"
    ∷ codes "node b i:1:0 9"
    ∷ codes "proc a"
    ∷ codes "proc b"
    ∷ codes "send a.0 b.0 t 01"
    ∷ codes "join a>b.0"
    ∷ codes "come a>b.0"
    ∷ codes "late a b"
    ∷ codes "feed a>b.0 t 13"
    ∷ codes "feed a>b.0 t 1"
    ∷ [])

-- its log
abbrev pub stale_request_log : List (List ℕ)
stale_request_log =
    (
    codes "line 4 ok | made a.0 - -"
    ∷ codes "line 5 ok | made b.0 - -"
    ∷ codes "line 6 ok | said a.0 b.0 0 0 t 01 | dial a>b.0"
    ∷ codes "line 7 ok | joined a>b.0 | wrote a>b.0 o 0000000000000005683a313a30"
    ∷ codes "line 8 ok | came a>b.0"
    ∷ codes "line 9 ok | timed a b | left a>b.0 o | broke a b disconnect"
    ∷ codes "line 10 ok | fed a>b.0 t 13 | up a>b.0 t | wrote a>b.0 t 00000000"
    ∷ codes "line 11 ok | fed a>b.0 t 0 | down a>b.0 t | broke b a disconnect"
    ∷ [])
