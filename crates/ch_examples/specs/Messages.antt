-- Worked journals of messages between two nodes.
use Rattle.std.specs.Prelude.{ℕ, List, [], ◌∷◌, ◌++◌, replicate, codes}

-- a message from one node to another
abbrev pub settled_message : List (List ℕ)
settled_message =
    (
    codes "chjournal 1"
    ∷ codes "node a h:1:0 7"
    ∷ codes "node b i:1:0 9"
    ∷ codes "proc a"
    ∷ codes "proc b"
    ∷ codes "send a.0 b.0 t 6869"
    ∷ codes "settle"
    ∷ [])

-- its log
abbrev pub settled_message_log : List (List ℕ)
settled_message_log =
    (
    codes "line 4 ok | made a.0 - -"
    ∷ codes "line 5 ok | made b.0 - -"
    ∷ codes "line 6 ok | said a.0 b.0 0 0 t 6869 | dial a>b.0"
    ∷ codes "line 7 ok | joined a>b.0 | wrote a>b.0 o 0000000000000005683a313a30 | came a>b.0 | fed a>b.0 t 13 | up a>b.0 t | wrote a>b.0 t 00000000 | fed a>b.0 o 4 | up a>b.0 o | wrote a>b.0 o 0000000000000400 | wrote a>b.0 o 000004000000001f000105683a313a3000000007000000000105693a313a300000000900000000 | wrote a>b.0 o 000004000000000401746869 | fed a>b.0 t 59 | got a.0 b.0 0 0 b.0 | settled"
    ∷ [])

-- what settling did there, line by line
abbrev pub settled_message_opened : List (List ℕ)
settled_message_opened =
    (
    codes "chjournal 1"
    ∷ codes "node a h:1:0 7"
    ∷ codes "node b i:1:0 9"
    ∷ codes "proc a"
    ∷ codes "proc b"
    ∷ codes "send a.0 b.0 t 6869"
    ∷ codes "join a>b.0"
    ∷ codes "come a>b.0"
    ∷ codes "feed a>b.0 t 13"
    ∷ codes "feed a>b.0 o 4"
    ∷ codes "feed a>b.0 t 59"
    ∷ [])

-- its log
abbrev pub settled_message_opened_log : List (List ℕ)
settled_message_opened_log =
    (
    codes "line 4 ok | made a.0 - -"
    ∷ codes "line 5 ok | made b.0 - -"
    ∷ codes "line 6 ok | said a.0 b.0 0 0 t 6869 | dial a>b.0"
    ∷ codes "line 7 ok | joined a>b.0 | wrote a>b.0 o 0000000000000005683a313a30"
    ∷ codes "line 8 ok | came a>b.0"
    ∷ codes "line 9 ok | fed a>b.0 t 13 | up a>b.0 t | wrote a>b.0 t 00000000"
    ∷ codes "line 10 ok | fed a>b.0 o 4 | up a>b.0 o | wrote a>b.0 o 0000000000000400 | wrote a>b.0 o 000004000000001f000105683a313a3000000007000000000105693a313a300000000900000000 | wrote a>b.0 o 000004000000000401746869"
    ∷ codes "line 11 ok | fed a>b.0 t 59 | got a.0 b.0 0 0 b.0"
    ∷ [])

-- a message without a body
abbrev pub empty_message : List (List ℕ)
empty_message =
    (
    codes "chjournal 1"
    ∷ codes "node a h:1:0 7"
    ∷ codes "node b i:1:0 9"
    ∷ codes "proc a"
    ∷ codes "proc b"
    ∷ codes "send a.0 b.0 t -"
    ∷ codes "settle"
    ∷ [])

-- its log
abbrev pub empty_message_log : List (List ℕ)
empty_message_log =
    (
    codes "line 4 ok | made a.0 - -"
    ∷ codes "line 5 ok | made b.0 - -"
    ∷ codes "line 6 ok | said a.0 b.0 0 0 t - | dial a>b.0"
    ∷ codes "line 7 ok | joined a>b.0 | wrote a>b.0 o 0000000000000005683a313a30 | came a>b.0 | fed a>b.0 t 13 | up a>b.0 t | wrote a>b.0 t 00000000 | fed a>b.0 o 4 | up a>b.0 o | wrote a>b.0 o 0000000000000400 | wrote a>b.0 o 000004000000001f000105683a313a3000000007000000000105693a313a300000000900000000 | wrote a>b.0 o 00000400000000020174 | fed a>b.0 t 57 | got a.0 b.0 0 0 b.0 | settled"
    ∷ [])

-- what settling did there, line by line
abbrev pub empty_message_opened : List (List ℕ)
empty_message_opened =
    (
    codes "chjournal 1"
    ∷ codes "node a h:1:0 7"
    ∷ codes "node b i:1:0 9"
    ∷ codes "proc a"
    ∷ codes "proc b"
    ∷ codes "send a.0 b.0 t -"
    ∷ codes "join a>b.0"
    ∷ codes "come a>b.0"
    ∷ codes "feed a>b.0 t 13"
    ∷ codes "feed a>b.0 o 4"
    ∷ codes "feed a>b.0 t 57"
    ∷ [])

-- its log
abbrev pub empty_message_opened_log : List (List ℕ)
empty_message_opened_log =
    (
    codes "line 4 ok | made a.0 - -"
    ∷ codes "line 5 ok | made b.0 - -"
    ∷ codes "line 6 ok | said a.0 b.0 0 0 t - | dial a>b.0"
    ∷ codes "line 7 ok | joined a>b.0 | wrote a>b.0 o 0000000000000005683a313a30"
    ∷ codes "line 8 ok | came a>b.0"
    ∷ codes "line 9 ok | fed a>b.0 t 13 | up a>b.0 t | wrote a>b.0 t 00000000"
    ∷ codes "line 10 ok | fed a>b.0 o 4 | up a>b.0 o | wrote a>b.0 o 0000000000000400 | wrote a>b.0 o 000004000000001f000105683a313a3000000007000000000105693a313a300000000900000000 | wrote a>b.0 o 00000400000000020174"
    ∷ codes "line 11 ok | fed a>b.0 t 57 | got a.0 b.0 0 0 b.0"
    ∷ [])

-- a message whose socket is fed byte by byte
abbrev pub fed_byte_by_byte : List (List ℕ)
fed_byte_by_byte =
    (
    codes "chjournal 1"
    ∷ codes "node a h:1:0 7"
    ∷ codes "node b i:1:0 9"
    ∷ codes "proc a"
    ∷ codes "proc b"
    ∷ codes "send a.0 b.0 t 6869"
    ∷ codes "join a>b.0"
    ∷ codes "come a>b.0"
    ∷ [])
    ++ replicate 13 (codes "feed a>b.0 t 1")
    ++ (
    codes "feed a>b.0 o 1"
    ∷ codes "feed a>b.0 o 1"
    ∷ codes "feed a>b.0 o 1"
    ∷ codes "feed a>b.0 o 1"
    ∷ [])
    ++ replicate 59 (codes "feed a>b.0 t 1")

-- its log
abbrev pub fed_byte_by_byte_log : List (List ℕ)
fed_byte_by_byte_log =
    (
    codes "line 4 ok | made a.0 - -"
    ∷ codes "line 5 ok | made b.0 - -"
    ∷ codes "line 6 ok | said a.0 b.0 0 0 t 6869 | dial a>b.0"
    ∷ codes "line 7 ok | joined a>b.0 | wrote a>b.0 o 0000000000000005683a313a30"
    ∷ codes "line 8 ok | came a>b.0"
    ∷ codes "line 9 ok | fed a>b.0 t 1"
    ∷ codes "line 10 ok | fed a>b.0 t 1"
    ∷ codes "line 11 ok | fed a>b.0 t 1"
    ∷ codes "line 12 ok | fed a>b.0 t 1"
    ∷ codes "line 13 ok | fed a>b.0 t 1"
    ∷ codes "line 14 ok | fed a>b.0 t 1"
    ∷ codes "line 15 ok | fed a>b.0 t 1"
    ∷ codes "line 16 ok | fed a>b.0 t 1"
    ∷ codes "line 17 ok | fed a>b.0 t 1"
    ∷ codes "line 18 ok | fed a>b.0 t 1"
    ∷ codes "line 19 ok | fed a>b.0 t 1"
    ∷ codes "line 20 ok | fed a>b.0 t 1"
    ∷ codes "line 21 ok | fed a>b.0 t 1 | up a>b.0 t | wrote a>b.0 t 00000000"
    ∷ codes "line 22 ok | fed a>b.0 o 1"
    ∷ codes "line 23 ok | fed a>b.0 o 1"
    ∷ codes "line 24 ok | fed a>b.0 o 1"
    ∷ codes "line 25 ok | fed a>b.0 o 1 | up a>b.0 o | wrote a>b.0 o 0000000000000400 | wrote a>b.0 o 000004000000001f000105683a313a3000000007000000000105693a313a300000000900000000 | wrote a>b.0 o 000004000000000401746869"
    ∷ codes "line 26 ok | fed a>b.0 t 1"
    ∷ codes "line 27 ok | fed a>b.0 t 1"
    ∷ codes "line 28 ok | fed a>b.0 t 1"
    ∷ codes "line 29 ok | fed a>b.0 t 1"
    ∷ codes "line 30 ok | fed a>b.0 t 1"
    ∷ codes "line 31 ok | fed a>b.0 t 1"
    ∷ codes "line 32 ok | fed a>b.0 t 1"
    ∷ codes "line 33 ok | fed a>b.0 t 1"
    ∷ codes "line 34 ok | fed a>b.0 t 1"
    ∷ codes "line 35 ok | fed a>b.0 t 1"
    ∷ codes "line 36 ok | fed a>b.0 t 1"
    ∷ codes "line 37 ok | fed a>b.0 t 1"
    ∷ codes "line 38 ok | fed a>b.0 t 1"
    ∷ codes "line 39 ok | fed a>b.0 t 1"
    ∷ codes "line 40 ok | fed a>b.0 t 1"
    ∷ codes "line 41 ok | fed a>b.0 t 1"
    ∷ codes "line 42 ok | fed a>b.0 t 1"
    ∷ codes "line 43 ok | fed a>b.0 t 1"
    ∷ codes "line 44 ok | fed a>b.0 t 1"
    ∷ codes "line 45 ok | fed a>b.0 t 1"
    ∷ codes "line 46 ok | fed a>b.0 t 1"
    ∷ codes "line 47 ok | fed a>b.0 t 1"
    ∷ codes "line 48 ok | fed a>b.0 t 1"
    ∷ codes "line 49 ok | fed a>b.0 t 1"
    ∷ codes "line 50 ok | fed a>b.0 t 1"
    ∷ codes "line 51 ok | fed a>b.0 t 1"
    ∷ codes "line 52 ok | fed a>b.0 t 1"
    ∷ codes "line 53 ok | fed a>b.0 t 1"
    ∷ codes "line 54 ok | fed a>b.0 t 1"
    ∷ codes "line 55 ok | fed a>b.0 t 1"
    ∷ codes "line 56 ok | fed a>b.0 t 1"
    ∷ codes "line 57 ok | fed a>b.0 t 1"
    ∷ codes "line 58 ok | fed a>b.0 t 1"
    ∷ codes "line 59 ok | fed a>b.0 t 1"
    ∷ codes "line 60 ok | fed a>b.0 t 1"
    ∷ codes "line 61 ok | fed a>b.0 t 1"
    ∷ codes "line 62 ok | fed a>b.0 t 1"
    ∷ codes "line 63 ok | fed a>b.0 t 1"
    ∷ codes "line 64 ok | fed a>b.0 t 1"
    ∷ codes "line 65 ok | fed a>b.0 t 1"
    ∷ codes "line 66 ok | fed a>b.0 t 1"
    ∷ codes "line 67 ok | fed a>b.0 t 1"
    ∷ codes "line 68 ok | fed a>b.0 t 1"
    ∷ codes "line 69 ok | fed a>b.0 t 1"
    ∷ codes "line 70 ok | fed a>b.0 t 1"
    ∷ codes "line 71 ok | fed a>b.0 t 1"
    ∷ codes "line 72 ok | fed a>b.0 t 1"
    ∷ codes "line 73 ok | fed a>b.0 t 1"
    ∷ codes "line 74 ok | fed a>b.0 t 1"
    ∷ codes "line 75 ok | fed a>b.0 t 1"
    ∷ codes "line 76 ok | fed a>b.0 t 1"
    ∷ codes "line 77 ok | fed a>b.0 t 1"
    ∷ codes "line 78 ok | fed a>b.0 t 1"
    ∷ codes "line 79 ok | fed a>b.0 t 1"
    ∷ codes "line 80 ok | fed a>b.0 t 1"
    ∷ codes "line 81 ok | fed a>b.0 t 1"
    ∷ codes "line 82 ok | fed a>b.0 t 1"
    ∷ codes "line 83 ok | fed a>b.0 t 1"
    ∷ codes "line 84 ok | fed a>b.0 t 1 | got a.0 b.0 0 0 b.0"
    ∷ [])

-- a pair reconnects over a link that is up
abbrev pub again_over_a_live_link : List (List ℕ)
again_over_a_live_link =
    (
    codes "chjournal 1"
    ∷ codes "node a h:1:0 7"
    ∷ codes "node b i:1:0 9"
    ∷ codes "proc a"
    ∷ codes "proc b"
    ∷ codes "send a.0 b.0 t 01"
    ∷ codes "settle"
    ∷ codes "send a.0 b.0 t 02"
    ∷ codes "again a.0 b.0"
    ∷ codes "send a.0 b.0 t 03"
    ∷ codes "settle"
    ∷ [])

-- its log
abbrev pub again_over_a_live_link_log : List (List ℕ)
again_over_a_live_link_log =
    (
    codes "line 4 ok | made a.0 - -"
    ∷ codes "line 5 ok | made b.0 - -"
    ∷ codes "line 6 ok | said a.0 b.0 0 0 t 01 | dial a>b.0"
    ∷ codes "line 7 ok | joined a>b.0 | wrote a>b.0 o 0000000000000005683a313a30 | came a>b.0 | fed a>b.0 t 13 | up a>b.0 t | wrote a>b.0 t 00000000 | fed a>b.0 o 4 | up a>b.0 o | wrote a>b.0 o 0000000000000400 | wrote a>b.0 o 000004000000001f000105683a313a3000000007000000000105693a313a300000000900000000 | wrote a>b.0 o 0000040000000003017401 | fed a>b.0 t 58 | got a.0 b.0 0 0 b.0 | settled"
    ∷ codes "line 8 ok | said a.0 b.0 0 1 t 02 | wrote a>b.0 o 0000040000000003017402"
    ∷ codes "line 9 ok | again a.0 b.0 1 | wrote a>b.0 o 0000000100000400"
    ∷ codes "line 10 ok | said a.0 b.0 1 0 t 03 | wrote a>b.0 o 0000000000000401 | wrote a>b.0 o 000004010000001f000105683a313a3000000007000000000105693a313a300000000900000000 | wrote a>b.0 o 0000040100000003017403"
    ∷ codes "line 11 ok | fed a>b.0 t 77 | got a.0 b.0 0 1 b.0 | got a.0 b.0 1 0 b.0 | settled"
    ∷ [])

-- what settling did there, line by line
abbrev pub again_over_a_live_link_opened : List (List ℕ)
again_over_a_live_link_opened =
    (
    codes "chjournal 1"
    ∷ codes "node a h:1:0 7"
    ∷ codes "node b i:1:0 9"
    ∷ codes "proc a"
    ∷ codes "proc b"
    ∷ codes "send a.0 b.0 t 01"
    ∷ codes "join a>b.0"
    ∷ codes "come a>b.0"
    ∷ codes "feed a>b.0 t 13"
    ∷ codes "feed a>b.0 o 4"
    ∷ codes "feed a>b.0 t 58"
    ∷ codes "send a.0 b.0 t 02"
    ∷ codes "again a.0 b.0"
    ∷ codes "send a.0 b.0 t 03"
    ∷ codes "feed a>b.0 t 77"
    ∷ [])

-- its log
abbrev pub again_over_a_live_link_opened_log : List (List ℕ)
again_over_a_live_link_opened_log =
    (
    codes "line 4 ok | made a.0 - -"
    ∷ codes "line 5 ok | made b.0 - -"
    ∷ codes "line 6 ok | said a.0 b.0 0 0 t 01 | dial a>b.0"
    ∷ codes "line 7 ok | joined a>b.0 | wrote a>b.0 o 0000000000000005683a313a30"
    ∷ codes "line 8 ok | came a>b.0"
    ∷ codes "line 9 ok | fed a>b.0 t 13 | up a>b.0 t | wrote a>b.0 t 00000000"
    ∷ codes "line 10 ok | fed a>b.0 o 4 | up a>b.0 o | wrote a>b.0 o 0000000000000400 | wrote a>b.0 o 000004000000001f000105683a313a3000000007000000000105693a313a300000000900000000 | wrote a>b.0 o 0000040000000003017401"
    ∷ codes "line 11 ok | fed a>b.0 t 58 | got a.0 b.0 0 0 b.0"
    ∷ codes "line 12 ok | said a.0 b.0 0 1 t 02 | wrote a>b.0 o 0000040000000003017402"
    ∷ codes "line 13 ok | again a.0 b.0 1 | wrote a>b.0 o 0000000100000400"
    ∷ codes "line 14 ok | said a.0 b.0 1 0 t 03 | wrote a>b.0 o 0000000000000401 | wrote a>b.0 o 000004010000001f000105683a313a3000000007000000000105693a313a300000000900000000 | wrote a>b.0 o 0000040100000003017403"
    ∷ codes "line 15 ok | fed a>b.0 t 77 | got a.0 b.0 0 1 b.0 | got a.0 b.0 1 0 b.0"
    ∷ [])

-- several messages wait for a link to be up
abbrev pub several_wait : List (List ℕ)
several_wait =
    (
    codes "chjournal 1"
    ∷ codes "node a h:1:0 7"
    ∷ codes "node b i:1:0 9"
    ∷ codes "proc a"
    ∷ codes "proc b"
    ∷ codes "send a.0 b.0 t 01"
    ∷ codes "send a.0 b.0 t 01"
    ∷ codes "send a.0 b.0 t 01"
    ∷ codes "send a.0 b.0 t 01"
    ∷ codes "settle"
    ∷ [])

-- its log
abbrev pub several_wait_log : List (List ℕ)
several_wait_log =
    (
    codes "line 4 ok | made a.0 - -"
    ∷ codes "line 5 ok | made b.0 - -"
    ∷ codes "line 6 ok | said a.0 b.0 0 0 t 01 | dial a>b.0"
    ∷ codes "line 7 ok | said a.0 b.0 0 1 t 01"
    ∷ codes "line 8 ok | said a.0 b.0 0 2 t 01"
    ∷ codes "line 9 ok | said a.0 b.0 0 3 t 01"
    ∷ codes "line 10 ok | joined a>b.0 | wrote a>b.0 o 0000000000000005683a313a30 | came a>b.0 | fed a>b.0 t 13 | up a>b.0 t | wrote a>b.0 t 00000000 | fed a>b.0 o 4 | up a>b.0 o | wrote a>b.0 o 0000000000000400 | wrote a>b.0 o 000004000000001f000105683a313a3000000007000000000105693a313a300000000900000000 | wrote a>b.0 o 0000040000000003017401 | wrote a>b.0 o 0000040000000003017401 | wrote a>b.0 o 0000040000000003017401 | wrote a>b.0 o 0000040000000003017401 | fed a>b.0 t 91 | got a.0 b.0 0 0 b.0 | got a.0 b.0 0 1 b.0 | got a.0 b.0 0 2 b.0 | got a.0 b.0 0 3 b.0 | settled"
    ∷ [])

-- what settling did there, line by line
abbrev pub several_wait_opened : List (List ℕ)
several_wait_opened =
    (
    codes "chjournal 1"
    ∷ codes "node a h:1:0 7"
    ∷ codes "node b i:1:0 9"
    ∷ codes "proc a"
    ∷ codes "proc b"
    ∷ codes "send a.0 b.0 t 01"
    ∷ codes "send a.0 b.0 t 01"
    ∷ codes "send a.0 b.0 t 01"
    ∷ codes "send a.0 b.0 t 01"
    ∷ codes "join a>b.0"
    ∷ codes "come a>b.0"
    ∷ codes "feed a>b.0 t 13"
    ∷ codes "feed a>b.0 o 4"
    ∷ codes "feed a>b.0 t 91"
    ∷ [])

-- its log
abbrev pub several_wait_opened_log : List (List ℕ)
several_wait_opened_log =
    (
    codes "line 4 ok | made a.0 - -"
    ∷ codes "line 5 ok | made b.0 - -"
    ∷ codes "line 6 ok | said a.0 b.0 0 0 t 01 | dial a>b.0"
    ∷ codes "line 7 ok | said a.0 b.0 0 1 t 01"
    ∷ codes "line 8 ok | said a.0 b.0 0 2 t 01"
    ∷ codes "line 9 ok | said a.0 b.0 0 3 t 01"
    ∷ codes "line 10 ok | joined a>b.0 | wrote a>b.0 o 0000000000000005683a313a30"
    ∷ codes "line 11 ok | came a>b.0"
    ∷ codes "line 12 ok | fed a>b.0 t 13 | up a>b.0 t | wrote a>b.0 t 00000000"
    ∷ codes "line 13 ok | fed a>b.0 o 4 | up a>b.0 o | wrote a>b.0 o 0000000000000400 | wrote a>b.0 o 000004000000001f000105683a313a3000000007000000000105693a313a300000000900000000 | wrote a>b.0 o 0000040000000003017401 | wrote a>b.0 o 0000040000000003017401 | wrote a>b.0 o 0000040000000003017401 | wrote a>b.0 o 0000040000000003017401"
    ∷ codes "line 14 ok | fed a>b.0 t 91 | got a.0 b.0 0 0 b.0 | got a.0 b.0 0 1 b.0 | got a.0 b.0 0 2 b.0 | got a.0 b.0 0 3 b.0"
    ∷ [])

-- what waits on a closed connection is written all the same
abbrev pub closed_before_written : List (List ℕ)
closed_before_written =
    (
    codes "chjournal 1"
    ∷ codes "node a h:1:0 7"
    ∷ codes "node b i:1:0 9"
    ∷ codes "proc a"
    ∷ codes "proc b"
    ∷ codes "send a.0 b.0 t 01"
    ∷ codes "again a.0 b.0"
    ∷ codes "send a.0 b.0 t 02"
    ∷ codes "settle"
    ∷ [])

-- its log
abbrev pub closed_before_written_log : List (List ℕ)
closed_before_written_log =
    (
    codes "line 4 ok | made a.0 - -"
    ∷ codes "line 5 ok | made b.0 - -"
    ∷ codes "line 6 ok | said a.0 b.0 0 0 t 01 | dial a>b.0"
    ∷ codes "line 7 ok | again a.0 b.0 1"
    ∷ codes "line 8 ok | said a.0 b.0 1 0 t 02"
    ∷ codes "line 9 ok | joined a>b.0 | wrote a>b.0 o 0000000000000005683a313a30 | came a>b.0 | fed a>b.0 t 13 | up a>b.0 t | wrote a>b.0 t 00000000 | fed a>b.0 o 4 | up a>b.0 o | wrote a>b.0 o 0000000000000400 | wrote a>b.0 o 000004000000001f000105683a313a3000000007000000000105693a313a300000000900000000 | wrote a>b.0 o 0000040000000003017401 | wrote a>b.0 o 0000000100000400 | wrote a>b.0 o 0000000000000401 | wrote a>b.0 o 000004010000001f000105683a313a3000000007000000000105693a313a300000000900000000 | wrote a>b.0 o 0000040100000003017402 | fed a>b.0 t 124 | got a.0 b.0 0 0 b.0 | got a.0 b.0 1 0 b.0 | settled"
    ∷ [])

-- what settling did there, line by line
abbrev pub closed_before_written_opened : List (List ℕ)
closed_before_written_opened =
    (
    codes "chjournal 1"
    ∷ codes "node a h:1:0 7"
    ∷ codes "node b i:1:0 9"
    ∷ codes "proc a"
    ∷ codes "proc b"
    ∷ codes "send a.0 b.0 t 01"
    ∷ codes "again a.0 b.0"
    ∷ codes "send a.0 b.0 t 02"
    ∷ codes "join a>b.0"
    ∷ codes "come a>b.0"
    ∷ codes "feed a>b.0 t 13"
    ∷ codes "feed a>b.0 o 4"
    ∷ codes "feed a>b.0 t 124"
    ∷ [])

-- its log
abbrev pub closed_before_written_opened_log : List (List ℕ)
closed_before_written_opened_log =
    (
    codes "line 4 ok | made a.0 - -"
    ∷ codes "line 5 ok | made b.0 - -"
    ∷ codes "line 6 ok | said a.0 b.0 0 0 t 01 | dial a>b.0"
    ∷ codes "line 7 ok | again a.0 b.0 1"
    ∷ codes "line 8 ok | said a.0 b.0 1 0 t 02"
    ∷ codes "line 9 ok | joined a>b.0 | wrote a>b.0 o 0000000000000005683a313a30"
    ∷ codes "line 10 ok | came a>b.0"
    ∷ codes "line 11 ok | fed a>b.0 t 13 | up a>b.0 t | wrote a>b.0 t 00000000"
    ∷ codes "line 12 ok | fed a>b.0 o 4 | up a>b.0 o | wrote a>b.0 o 0000000000000400 | wrote a>b.0 o 000004000000001f000105683a313a3000000007000000000105693a313a300000000900000000 | wrote a>b.0 o 0000040000000003017401 | wrote a>b.0 o 0000000100000400 | wrote a>b.0 o 0000000000000401 | wrote a>b.0 o 000004010000001f000105683a313a3000000007000000000105693a313a300000000900000000 | wrote a>b.0 o 0000040100000003017402"
    ∷ codes "line 13 ok | fed a>b.0 t 124 | got a.0 b.0 0 0 b.0 | got a.0 b.0 1 0 b.0"
    ∷ [])

-- two nodes on one host talk through a socket
abbrev pub two_nodes_on_one_host : List (List ℕ)
two_nodes_on_one_host =
    (
    codes "chjournal 1"
    ∷ codes "node a h:1:0 7"
    ∷ codes "node b h:1:3 9"
    ∷ codes "proc a"
    ∷ codes "proc b"
    ∷ codes "send a.0 b.0 t 01"
    ∷ codes "settle"
    ∷ [])

-- its log
abbrev pub two_nodes_on_one_host_log : List (List ℕ)
two_nodes_on_one_host_log =
    (
    codes "line 4 ok | made a.0 - -"
    ∷ codes "line 5 ok | made b.0 - -"
    ∷ codes "line 6 ok | said a.0 b.0 0 0 t 01 | dial a>b.0"
    ∷ codes "line 7 ok | joined a>b.0 | wrote a>b.0 o 0000000300000005683a313a30 | came a>b.0 | fed a>b.0 t 13 | up a>b.0 t | wrote a>b.0 t 00000000 | fed a>b.0 o 4 | up a>b.0 o | wrote a>b.0 o 0000000000000400 | wrote a>b.0 o 000004000000001f000105683a313a3000000007000000000105683a313a330000000900000000 | wrote a>b.0 o 0000040000000003017401 | fed a>b.0 t 58 | got a.0 b.0 0 0 b.0 | settled"
    ∷ [])

-- what settling did there, line by line
abbrev pub two_nodes_on_one_host_opened : List (List ℕ)
two_nodes_on_one_host_opened =
    (
    codes "chjournal 1"
    ∷ codes "node a h:1:0 7"
    ∷ codes "node b h:1:3 9"
    ∷ codes "proc a"
    ∷ codes "proc b"
    ∷ codes "send a.0 b.0 t 01"
    ∷ codes "join a>b.0"
    ∷ codes "come a>b.0"
    ∷ codes "feed a>b.0 t 13"
    ∷ codes "feed a>b.0 o 4"
    ∷ codes "feed a>b.0 t 58"
    ∷ [])

-- its log
abbrev pub two_nodes_on_one_host_opened_log : List (List ℕ)
two_nodes_on_one_host_opened_log =
    (
    codes "line 4 ok | made a.0 - -"
    ∷ codes "line 5 ok | made b.0 - -"
    ∷ codes "line 6 ok | said a.0 b.0 0 0 t 01 | dial a>b.0"
    ∷ codes "line 7 ok | joined a>b.0 | wrote a>b.0 o 0000000300000005683a313a30"
    ∷ codes "line 8 ok | came a>b.0"
    ∷ codes "line 9 ok | fed a>b.0 t 13 | up a>b.0 t | wrote a>b.0 t 00000000"
    ∷ codes "line 10 ok | fed a>b.0 o 4 | up a>b.0 o | wrote a>b.0 o 0000000000000400 | wrote a>b.0 o 000004000000001f000105683a313a3000000007000000000105683a313a330000000900000000 | wrote a>b.0 o 0000040000000003017401"
    ∷ codes "line 11 ok | fed a>b.0 t 58 | got a.0 b.0 0 0 b.0"
    ∷ [])

-- each reconnecting pair opens the next connection
abbrev pub connections_one_after_another : List (List ℕ)
connections_one_after_another =
    (
    codes "chjournal 1"
    ∷ codes "node a h:1:0 7"
    ∷ codes "node b i:1:0 9"
    ∷ codes "proc a"
    ∷ codes "proc b"
    ∷ codes "send a.0 b.0 t 01"
    ∷ codes "settle"
    ∷ codes "again a.0 b.0"
    ∷ codes "send a.0 b.0 t 01"
    ∷ codes "again a.0 b.0"
    ∷ codes "send a.0 b.0 t 01"
    ∷ codes "again a.0 b.0"
    ∷ codes "send a.0 b.0 t 01"
    ∷ [])

-- its log
abbrev pub connections_one_after_another_log : List (List ℕ)
connections_one_after_another_log =
    (
    codes "line 4 ok | made a.0 - -"
    ∷ codes "line 5 ok | made b.0 - -"
    ∷ codes "line 6 ok | said a.0 b.0 0 0 t 01 | dial a>b.0"
    ∷ codes "line 7 ok | joined a>b.0 | wrote a>b.0 o 0000000000000005683a313a30 | came a>b.0 | fed a>b.0 t 13 | up a>b.0 t | wrote a>b.0 t 00000000 | fed a>b.0 o 4 | up a>b.0 o | wrote a>b.0 o 0000000000000400 | wrote a>b.0 o 000004000000001f000105683a313a3000000007000000000105693a313a300000000900000000 | wrote a>b.0 o 0000040000000003017401 | fed a>b.0 t 58 | got a.0 b.0 0 0 b.0 | settled"
    ∷ codes "line 8 ok | again a.0 b.0 1 | wrote a>b.0 o 0000000100000400"
    ∷ codes "line 9 ok | said a.0 b.0 1 0 t 01 | wrote a>b.0 o 0000000000000401 | wrote a>b.0 o 000004010000001f000105683a313a3000000007000000000105693a313a300000000900000000 | wrote a>b.0 o 0000040100000003017401"
    ∷ codes "line 10 ok | again a.0 b.0 2 | wrote a>b.0 o 0000000100000401"
    ∷ codes "line 11 ok | said a.0 b.0 2 0 t 01 | wrote a>b.0 o 0000000000000402 | wrote a>b.0 o 000004020000001f000105683a313a3000000007000000000105693a313a300000000900000000 | wrote a>b.0 o 0000040200000003017401"
    ∷ codes "line 12 ok | again a.0 b.0 3 | wrote a>b.0 o 0000000100000402"
    ∷ codes "line 13 ok | said a.0 b.0 3 0 t 01 | wrote a>b.0 o 0000000000000403 | wrote a>b.0 o 000004030000001f000105683a313a3000000007000000000105693a313a300000000900000000 | wrote a>b.0 o 0000040300000003017401"
    ∷ [])

-- what settling did there, line by line
abbrev pub connections_one_after_another_opened : List (List ℕ)
connections_one_after_another_opened =
    (
    codes "chjournal 1"
    ∷ codes "node a h:1:0 7"
    ∷ codes "node b i:1:0 9"
    ∷ codes "proc a"
    ∷ codes "proc b"
    ∷ codes "send a.0 b.0 t 01"
    ∷ codes "join a>b.0"
    ∷ codes "come a>b.0"
    ∷ codes "feed a>b.0 t 13"
    ∷ codes "feed a>b.0 o 4"
    ∷ codes "feed a>b.0 t 58"
    ∷ codes "again a.0 b.0"
    ∷ codes "send a.0 b.0 t 01"
    ∷ codes "again a.0 b.0"
    ∷ codes "send a.0 b.0 t 01"
    ∷ codes "again a.0 b.0"
    ∷ codes "send a.0 b.0 t 01"
    ∷ [])

-- its log
abbrev pub connections_one_after_another_opened_log : List (List ℕ)
connections_one_after_another_opened_log =
    (
    codes "line 4 ok | made a.0 - -"
    ∷ codes "line 5 ok | made b.0 - -"
    ∷ codes "line 6 ok | said a.0 b.0 0 0 t 01 | dial a>b.0"
    ∷ codes "line 7 ok | joined a>b.0 | wrote a>b.0 o 0000000000000005683a313a30"
    ∷ codes "line 8 ok | came a>b.0"
    ∷ codes "line 9 ok | fed a>b.0 t 13 | up a>b.0 t | wrote a>b.0 t 00000000"
    ∷ codes "line 10 ok | fed a>b.0 o 4 | up a>b.0 o | wrote a>b.0 o 0000000000000400 | wrote a>b.0 o 000004000000001f000105683a313a3000000007000000000105693a313a300000000900000000 | wrote a>b.0 o 0000040000000003017401"
    ∷ codes "line 11 ok | fed a>b.0 t 58 | got a.0 b.0 0 0 b.0"
    ∷ codes "line 12 ok | again a.0 b.0 1 | wrote a>b.0 o 0000000100000400"
    ∷ codes "line 13 ok | said a.0 b.0 1 0 t 01 | wrote a>b.0 o 0000000000000401 | wrote a>b.0 o 000004010000001f000105683a313a3000000007000000000105693a313a300000000900000000 | wrote a>b.0 o 0000040100000003017401"
    ∷ codes "line 14 ok | again a.0 b.0 2 | wrote a>b.0 o 0000000100000401"
    ∷ codes "line 15 ok | said a.0 b.0 2 0 t 01 | wrote a>b.0 o 0000000000000402 | wrote a>b.0 o 000004020000001f000105683a313a3000000007000000000105693a313a300000000900000000 | wrote a>b.0 o 0000040200000003017401"
    ∷ codes "line 16 ok | again a.0 b.0 3 | wrote a>b.0 o 0000000100000402"
    ∷ codes "line 17 ok | said a.0 b.0 3 0 t 01 | wrote a>b.0 o 0000000000000403 | wrote a>b.0 o 000004030000001f000105683a313a3000000007000000000105693a313a300000000900000000 | wrote a>b.0 o 0000040300000003017401"
    ∷ [])

-- a port gets what is sent to it; one that is not open is void between nodes, and unknown at home
abbrev pub ports : List (List ℕ)
ports =
    (
    codes "chjournal 1"
    ∷ codes "node a h:1:0 7"
    ∷ codes "node b i:1:0 9"
    ∷ codes "proc a"
    ∷ codes "proc b"
    ∷ codes "port b.0"
    ∷ codes "send b.0 b.0/1 t 01"
    ∷ codes "send a.0 b.0/0 t 02"
    ∷ codes "send a.0 b.0/1 t 03"
    ∷ codes "settle"
    ∷ codes "take b.0 0"
    ∷ codes "take b.0 0"
    ∷ codes "recv b.0 t"
    ∷ [])

-- its log
abbrev pub ports_log : List (List ℕ)
ports_log =
    (
    codes "line 4 ok | made a.0 - -"
    ∷ codes "line 5 ok | made b.0 - -"
    ∷ codes "line 6 ok | port b.0/0"
    ∷ codes "line 7 unknown"
    ∷ codes "line 8 ok | said a.0 b.0/0 0 0 t 02 | dial a>b.0"
    ∷ codes "line 9 ok | said a.0 b.0/1 0 0 t 03"
    ∷ codes "line 10 ok | joined a>b.0 | wrote a>b.0 o 0000000000000005683a313a30 | came a>b.0 | fed a>b.0 t 13 | up a>b.0 t | wrote a>b.0 t 00000000 | fed a>b.0 o 4 | up a>b.0 o | wrote a>b.0 o 0000000000000400 | wrote a>b.0 o 0000040000000023000105683a313a3000000007000000000205693a313a30000000090000000000000000 | wrote a>b.0 o 0000040000000003017402 | wrote a>b.0 o 0000000000000401 | wrote a>b.0 o 0000040100000023000105683a313a3000000007000000000205693a313a30000000090000000000000001 | wrote a>b.0 o 0000040100000003017403 | fed a>b.0 t 124 | got a.0 b.0/0 0 0 b.0 | settled"
    ∷ codes "line 11 ok | took b.0/0 t 02"
    ∷ codes "line 12 empty"
    ∷ codes "line 13 empty"
    ∷ [])

-- what settling did there, line by line
abbrev pub ports_opened : List (List ℕ)
ports_opened =
    (
    codes "chjournal 1"
    ∷ codes "node a h:1:0 7"
    ∷ codes "node b i:1:0 9"
    ∷ codes "proc a"
    ∷ codes "proc b"
    ∷ codes "port b.0"
    ∷ codes "send b.0 b.0/1 t 01"
    ∷ codes "send a.0 b.0/0 t 02"
    ∷ codes "send a.0 b.0/1 t 03"
    ∷ codes "join a>b.0"
    ∷ codes "come a>b.0"
    ∷ codes "feed a>b.0 t 13"
    ∷ codes "feed a>b.0 o 4"
    ∷ codes "feed a>b.0 t 124"
    ∷ codes "take b.0 0"
    ∷ codes "take b.0 0"
    ∷ codes "recv b.0 t"
    ∷ [])

-- its log
abbrev pub ports_opened_log : List (List ℕ)
ports_opened_log =
    (
    codes "line 4 ok | made a.0 - -"
    ∷ codes "line 5 ok | made b.0 - -"
    ∷ codes "line 6 ok | port b.0/0"
    ∷ codes "line 7 unknown"
    ∷ codes "line 8 ok | said a.0 b.0/0 0 0 t 02 | dial a>b.0"
    ∷ codes "line 9 ok | said a.0 b.0/1 0 0 t 03"
    ∷ codes "line 10 ok | joined a>b.0 | wrote a>b.0 o 0000000000000005683a313a30"
    ∷ codes "line 11 ok | came a>b.0"
    ∷ codes "line 12 ok | fed a>b.0 t 13 | up a>b.0 t | wrote a>b.0 t 00000000"
    ∷ codes "line 13 ok | fed a>b.0 o 4 | up a>b.0 o | wrote a>b.0 o 0000000000000400 | wrote a>b.0 o 0000040000000023000105683a313a3000000007000000000205693a313a30000000090000000000000000 | wrote a>b.0 o 0000040000000003017402 | wrote a>b.0 o 0000000000000401 | wrote a>b.0 o 0000040100000023000105683a313a3000000007000000000205693a313a30000000090000000000000001 | wrote a>b.0 o 0000040100000003017403"
    ∷ codes "line 14 ok | fed a>b.0 t 124 | got a.0 b.0/0 0 0 b.0"
    ∷ codes "line 15 ok | took b.0/0 t 02"
    ∷ codes "line 16 empty"
    ∷ codes "line 17 empty"
    ∷ [])
