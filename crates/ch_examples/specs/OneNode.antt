-- Worked journals of one node.
use Rattle.std.specs.Prelude.{ℕ, List, [], ◌∷◌, ◌++◌, replicate, codes}

-- three messages from one process to another of its node
abbrev pub sends_on_one_node : List (List ℕ)
sends_on_one_node =
    (
    codes "chjournal 1"
    ∷ codes "node a h:1:0 7"
    ∷ codes "proc a"
    ∷ codes "proc a"
    ∷ codes "send a.0 a.1 t 01"
    ∷ codes "send a.0 a.1 t 02"
    ∷ codes "send a.0 a.1 t 03"
    ∷ [])

-- its log
abbrev pub sends_on_one_node_log : List (List ℕ)
sends_on_one_node_log =
    (
    codes "line 3 ok | made a.0 - -"
    ∷ codes "line 4 ok | made a.1 - -"
    ∷ codes "line 5 ok | said a.0 a.1 0 0 t 01 | got a.0 a.1 0 0 a.1"
    ∷ codes "line 6 ok | said a.0 a.1 0 1 t 02 | got a.0 a.1 0 1 a.1"
    ∷ codes "line 7 ok | said a.0 a.1 0 2 t 03 | got a.0 a.1 0 2 a.1"
    ∷ [])

-- a message taken, none there, and what a process that is over and one that was never made are answered
abbrev pub answers_of_one_node : List (List ℕ)
answers_of_one_node =
    (
    codes "chjournal 1"
    ∷ codes "node a h:1:0 7"
    ∷ codes "proc a"
    ∷ codes "proc a"
    ∷ codes "send a.0 a.1 t 01"
    ∷ codes "recv a.1 s"
    ∷ codes "recv a.1 t"
    ∷ codes "end a.1"
    ∷ codes "send a.0 a.1 t 02"
    ∷ codes "recv a.1 t"
    ∷ codes "send a.0 a.2 t 03"
    ∷ [])

-- its log
abbrev pub answers_of_one_node_log : List (List ℕ)
answers_of_one_node_log =
    (
    codes "line 3 ok | made a.0 - -"
    ∷ codes "line 4 ok | made a.1 - -"
    ∷ codes "line 5 ok | said a.0 a.1 0 0 t 01 | got a.0 a.1 0 0 a.1"
    ∷ codes "line 6 empty"
    ∷ codes "line 7 ok | took a.1 t 01"
    ∷ codes "line 8 ok | over a.1 normal"
    ∷ codes "line 9 ok | said a.0 a.1 0 1 t 02"
    ∷ codes "line 10 dead"
    ∷ codes "line 11 unknown"
    ∷ [])

-- the same, where the process fails
abbrev pub ends_with_an_exception : List (List ℕ)
ends_with_an_exception =
    (
    codes "chjournal 1"
    ∷ codes "node a h:1:0 7"
    ∷ codes "proc a"
    ∷ codes "proc a"
    ∷ codes "send a.0 a.1 t 01"
    ∷ codes "recv a.1 s"
    ∷ codes "recv a.1 t"
    ∷ codes "fail a.1 odd"
    ∷ codes "send a.0 a.1 t 02"
    ∷ codes "recv a.1 t"
    ∷ codes "send a.0 a.2 t 03"
    ∷ [])

-- its log
abbrev pub ends_with_an_exception_log : List (List ℕ)
ends_with_an_exception_log =
    (
    codes "line 3 ok | made a.0 - -"
    ∷ codes "line 4 ok | made a.1 - -"
    ∷ codes "line 5 ok | said a.0 a.1 0 0 t 01 | got a.0 a.1 0 0 a.1"
    ∷ codes "line 6 empty"
    ∷ codes "line 7 ok | took a.1 t 01"
    ∷ codes "line 8 ok | over a.1 exception odd"
    ∷ codes "line 9 ok | said a.0 a.1 0 1 t 02"
    ∷ codes "line 10 dead"
    ∷ codes "line 11 unknown"
    ∷ [])

-- a doomed process acts no more until it falls, and its watcher takes the news
abbrev pub doomed_falls : List (List ℕ)
doomed_falls =
    (
    codes "chjournal 1"
    ∷ codes "node a h:1:0 7"
    ∷ codes "proc a"
    ∷ codes "proc a"
    ∷ codes "monitor a.0 a.1"
    ∷ codes "exit a.0 a.1 bye"
    ∷ codes "send a.1 a.0 t 01"
    ∷ codes "fall a.1"
    ∷ codes "recv a.0 $died"
    ∷ [])

-- its log
abbrev pub doomed_falls_log : List (List ℕ)
doomed_falls_log =
    (
    codes "line 3 ok | made a.0 - -"
    ∷ codes "line 4 ok | made a.1 - -"
    ∷ codes "line 5 ok | watch a!0 a.0 a.1 monitor"
    ∷ codes "line 6 ok | doom a.1 exit bye"
    ∷ codes "line 7 dead"
    ∷ codes "line 8 ok | over a.1 exception exit bye | told a!0 exception exit bye"
    ∷ codes "line 9 ok | took a.0 $died 05683a313a300000000001086578697420627965"
    ∷ [])

-- each answer that a name, a watch, a mailbox and a life can give
abbrev pub answers_of_names : List (List ℕ)
answers_of_names =
    (
    codes "chjournal 1"
    ∷ codes "node a h:1:0 7"
    ∷ codes "proc a"
    ∷ codes "register a.0 log"
    ∷ codes "register a.0 log"
    ∷ codes "unregister a.0 x"
    ∷ codes "unwatch a.0 a!0"
    ∷ codes "recv a.0 t"
    ∷ codes "fall a.0"
    ∷ codes "send a.0 a.5 t 01"
    ∷ codes "send a.9 a.0 t 01"
    ∷ codes "end a.0"
    ∷ codes "end a.0"
    ∷ [])

-- its log
abbrev pub answers_of_names_log : List (List ℕ)
answers_of_names_log =
    (
    codes "line 3 ok | made a.0 - -"
    ∷ codes "line 4 ok | named a log a.0"
    ∷ codes "line 5 taken"
    ∷ codes "line 6 noname"
    ∷ codes "line 7 noref"
    ∷ codes "line 8 empty"
    ∷ codes "line 9 hale"
    ∷ codes "line 10 unknown"
    ∷ codes "line 11 unknown"
    ∷ codes "line 12 ok | over a.0 normal | named a log -"
    ∷ codes "line 13 dead"
    ∷ [])

-- a watch on oneself is never told
abbrev pub watches_on_oneself : List (List ℕ)
watches_on_oneself =
    (
    codes "chjournal 1"
    ∷ codes "node a h:1:0 7"
    ∷ codes "node b i:1:0 9"
    ∷ codes "proc a"
    ∷ codes "proc b"
    ∷ codes "monitor a.0 a.0"
    ∷ codes "link a.0 a.0"
    ∷ codes "end a.0"
    ∷ [])

-- its log
abbrev pub watches_on_oneself_log : List (List ℕ)
watches_on_oneself_log =
    (
    codes "line 4 ok | made a.0 - -"
    ∷ codes "line 5 ok | made b.0 - -"
    ∷ codes "line 6 ok | watch a!0 a.0 a.0 monitor"
    ∷ codes "line 7 ok | watch a!1 a.0 a.0 link"
    ∷ codes "line 8 ok | over a.0 normal"
    ∷ [])

-- a link dooms for every reason, by the word of the reason
abbrev pub links_doom : List (List ℕ)
links_doom =
    (
    codes "chjournal 1"
    ∷ codes "node a h:1:0 7"
    ∷ codes "node b i:1:0 9"
    ∷ codes "proc a"
    ∷ codes "proc a"
    ∷ codes "proc a"
    ∷ codes "proc a"
    ∷ codes "link a.0 a.1"
    ∷ codes "link a.2 a.3"
    ∷ codes "fail a.1 odd"
    ∷ codes "end a.3"
    ∷ codes "recv a.0 t"
    ∷ codes "send a.2 a.0 t 01"
    ∷ codes "fall a.0"
    ∷ codes "fall a.2"
    ∷ [])

-- its log
abbrev pub links_doom_log : List (List ℕ)
links_doom_log =
    (
    codes "line 4 ok | made a.0 - -"
    ∷ codes "line 5 ok | made a.1 - -"
    ∷ codes "line 6 ok | made a.2 - -"
    ∷ codes "line 7 ok | made a.3 - -"
    ∷ codes "line 8 ok | watch a!0 a.0 a.1 link"
    ∷ codes "line 9 ok | watch a!1 a.2 a.3 link"
    ∷ codes "line 10 ok | over a.1 exception odd | told a!0 exception odd | doom a.0 link exception"
    ∷ codes "line 11 ok | over a.3 normal | told a!1 normal | doom a.2 link normal"
    ∷ codes "line 12 dead"
    ∷ codes "line 13 dead"
    ∷ codes "line 14 ok | over a.0 exception link exception"
    ∷ codes "line 15 ok | over a.2 exception link normal"
    ∷ [])

-- spawns, questions for names, watches and dooms of the own node, there or not
abbrev pub asked_at_home : List (List ℕ)
asked_at_home =
    (
    codes "chjournal 1"
    ∷ codes "node a h:1:0 7"
    ∷ codes "node b i:1:0 9"
    ∷ codes "label a w"
    ∷ codes "proc a"
    ∷ codes "spawn a.0 a w 05"
    ∷ codes "spawn a.0 a v -"
    ∷ codes "whereis a.0 a p"
    ∷ codes "monitor a.0 a.9"
    ∷ codes "link a.1 a.9"
    ∷ codes "exit a.0 a.9 x"
    ∷ codes "again a.0 a.9"
    ∷ [])

-- its log
abbrev pub asked_at_home_log : List (List ℕ)
asked_at_home_log =
    (
    codes "line 5 ok | made a.0 - -"
    ∷ codes "line 6 ok | made a.1 a!0 w | spawned a!0 a.1"
    ∷ codes "line 7 ok | made a.2 a!1 v | over a.2 exception unknown label | spawned a!1 a.2"
    ∷ codes "line 8 ok | isat a!2 -"
    ∷ codes "line 9 ok | watch a!3 a.0 a.9 monitor | absent a!3 | told a!3 unknownid"
    ∷ codes "line 10 ok | watch a!4 a.1 a.9 link | absent a!4 | told a!4 unknownid | doom a.1 link unknownid"
    ∷ codes "line 11 ok"
    ∷ codes "line 12 ok | again a.0 a.9 1"
    ∷ [])
