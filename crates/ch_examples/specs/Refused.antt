-- Lines that are refused, by the first kind that holds, and lines that are accepted, where all lines are read.
use Rattle.std.specs.Prelude.{ℕ, List, [], ◌∷◌, ◌++◌, codes, replicate}
use Rattle.ch_examples.specs.Shown.{as_lines}

-- two nodes, an address that is none, a stranger and a label, and then this line
abbrev pub declared : List ℕ → List ℕ
declared line = as_lines (codes "chjournal 1 | node a h:1:0 7 | node b i:1:0 9 | away z q:1:0 3 | stranger s g | label a w") ++ line

-- two nodes with a process, and then this line
abbrev pub running : List ℕ → List ℕ
running line = as_lines (codes "chjournal 1 | node a h:1:0 7 | node b i:1:0 9 | proc a | proc b") ++ line

-- the same declarations and a process, and then this line
abbrev pub after_event : List ℕ → List ℕ
after_event line = declared (as_lines (codes "proc a") ++ line)

-- lines of a wrong word, number of fields or class of a field, also where a number is wrong too
abbrev pub forms : List (List ℕ)
forms =
    codes "send a.0 b.0 $x 01"
    ∷ codes "send a.0 b.0 t 0"
    ∷ codes "send A.0 b.0 t 01"
    ∷ codes "send a.0 b.0 t"
    ∷ codes "send a.0  b.0 t 01"
    ∷ codes "settle "
    ∷ codes " settle"
    ∷ codes "late a a"
    ∷ codes "join a>a.0"
    ∷ codes "fail a.0 "
    ∷ (codes "fail a.0 " ++ replicate 201 120)
    ∷ codes "node c k:0:0 1"
    ∷ codes "node c k:1:00 1"
    ∷ codes "node c k:1:0 x"
    ∷ codes "idle a b"
    ∷ codes "blob a.0 b.0 t 1"
    ∷ codes "stranger x 10_0"
    ∷ codes "pass a b 1"
    ∷ codes "proc aaaaaaaaaaaaaaaaa"
    ∷ codes "cut a>b.0 x"
    ∷ codes "send a.0 b:0 t 01"
    ∷ []

-- lines with a number that has a leading zero or is out of its range, or that feed nothing, also where a name is undeclared too
abbrev pub numbers : List (List ℕ)
numbers =
    codes "send a.00 b.0 t 01"
    ∷ codes "send a.0 b.4294967296 t 01"
    ∷ codes "feed a>b.0 o 0"
    ∷ codes "feed a>b.00 o 1"
    ∷ codes "take a.0 01"
    ∷ codes "unwatch a.0 a!01"
    ∷ codes "node a h:1:0 07"
    ∷ codes "send q.00 q.0 t 01"
    ∷ []

-- lines that name what is not declared as its place asks
abbrev pub undeclared : List (List ℕ)
undeclared =
    codes "proc aaaaaaaaaaaaaaaa"
    ∷ codes "late a x"
    ∷ codes "proc z"
    ∷ codes "spawn a.0 q w -"
    ∷ codes "knock s z"
    ∷ codes "knock a b"
    ∷ codes "poke a>b.0 -"
    ∷ codes "join z>a.0"
    ∷ codes "label z w"
    ∷ codes "label s w"
    ∷ codes "unwatch a.0 q!0"
    ∷ codes "nsend a.0 s:x t -"
    ∷ []

-- declarations of a name, an address, a host or a label that stands already
abbrev pub repeated : List (List ℕ)
repeated =
    codes "node a k:1:0 1"
    ∷ codes "node c h:1:0 1"
    ∷ codes "label a w"
    ∷ codes "stranger y h"
    ∷ codes "stranger y q"
    ∷ codes "node c g:1:0 1"
    ∷ codes "away s k:1:0 1"
    ∷ []

-- lines that are accepted
abbrev pub accepted : List (List ℕ)
accepted =
    codes "send a.0 z.0/0 t -"
    ∷ codes "nsend a.0 z:x t AB"
    ∷ codes "late a z"
    ∷ codes "whereis a.0 z p"
    ∷ codes "join a>z.0"
    ∷ codes "come s>z.0"
    ∷ codes "fail a.0 two  words "
    ∷ codes "exit a.0 z.0 x"
    ∷ codes "unwatch a.0 z!4294967295"
    ∷ codes "quit s>a.7"
    ∷ codes "knock s b"
    ∷ codes "node c h:2:0 4294967295"
    ∷ codes "stranger t g"
    ∷ codes "label b w"
    ∷ codes ""
    ∷ codes "; any"
    ∷ []

-- declarations after an event line
abbrev pub late : List (List ℕ)
late =
    codes "node a h:1:0 7"
    ∷ codes "label q w"
    ∷ codes "node c k:1:0 1"
    ∷ []

-- declarations after an event line with a wrong number
abbrev pub late_numbers : List (List ℕ)
late_numbers =
    codes "node a h:1:0 07"
    ∷ []

-- declarations after an event line of a wrong form
abbrev pub late_forms : List (List ℕ)
late_forms =
    codes "node a h:1 7"
    ∷ []

-- texts whose first line is not the header
abbrev pub headless : List (List ℕ)
headless =
    codes "chjournal 3 | chjournal 1"
    ∷ codes "chjournal  1 | chjournal 1"
    ∷ codes " chjournal 1 | chjournal 1"
    ∷ codes " | chjournal 1"
    ∷ codes "; x | chjournal 1"
    ∷ []

-- the canonical text of a journal with every word
abbrev pub every_word : List ℕ
every_word = as_lines (codes "chjournal 1 | node a h:1:0 7 | node b i:1:0 9 | away z q:1:0 3 | label a w | stranger s g | proc a | send a.0 b.0/1 t 01ab | nsend a.0 b:log t - | again a.0 z.0 | recv a.0 $died | port a.0 | take a.0 0 | end a.0 | fail a.0 an odd text | fall a.0 | monitor a.0 b.0 | link a.0 b.0 | unwatch a.0 a!0 | exit a.0 b.0 bye now | kill a.0 b.0 at once | spawn a.0 b w 00 | register a.0 log | unregister a.0 log | whereis a.0 b log | shut a | join a>b.0 | come a>b.0 | refuse a>b.0 | feed a>b.0 t 13 | cut a>b.0 o | lose a>b.0 t | late a b | knock s a | poke s>a.0 00ff | quit s>a.0 | settle")
