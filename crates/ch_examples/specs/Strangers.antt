-- Worked journals of peers that are no nodes.
use Rattle.std.specs.Prelude.{ℕ, List, [], ◌∷◌, ◌++◌, replicate, codes}

-- a dial to an address that is no node
abbrev pub away_node : List (List ℕ)
away_node =
    (
    codes "chjournal 1"
    ∷ codes "node a h:1:0 7"
    ∷ codes "away z h:1:5 0"
    ∷ codes "proc a"
    ∷ codes "send a.0 z.0 t 01"
    ∷ codes "settle"
    ∷ [])

-- its log
abbrev pub away_node_log : List (List ℕ)
away_node_log =
    (
    codes "line 4 ok | made a.0 - -"
    ∷ codes "line 5 ok | said a.0 z.0 0 0 t 01 | dial a>z.0"
    ∷ codes "line 6 ok | joined a>z.0 | wrote a>z.0 o 0000000500000005683a313a30 | came a>z.0 | fed a>z.0 t 13 | wrote a>z.0 t 00000001 | left a>z.0 t | fed a>z.0 o 4 | left a>z.0 o | broke a z nodedown | settled"
    ∷ [])

-- what settling did there, line by line
abbrev pub away_node_opened : List (List ℕ)
away_node_opened =
    (
    codes "chjournal 1"
    ∷ codes "node a h:1:0 7"
    ∷ codes "away z h:1:5 0"
    ∷ codes "proc a"
    ∷ codes "send a.0 z.0 t 01"
    ∷ codes "join a>z.0"
    ∷ codes "come a>z.0"
    ∷ codes "feed a>z.0 t 13"
    ∷ codes "feed a>z.0 o 4"
    ∷ [])

-- its log
abbrev pub away_node_opened_log : List (List ℕ)
away_node_opened_log =
    (
    codes "line 4 ok | made a.0 - -"
    ∷ codes "line 5 ok | said a.0 z.0 0 0 t 01 | dial a>z.0"
    ∷ codes "line 6 ok | joined a>z.0 | wrote a>z.0 o 0000000500000005683a313a30"
    ∷ codes "line 7 ok | came a>z.0"
    ∷ codes "line 8 ok | fed a>z.0 t 13 | wrote a>z.0 t 00000001 | left a>z.0 t"
    ∷ codes "line 9 ok | fed a>z.0 o 4 | left a>z.0 o | broke a z nodedown"
    ∷ [])

-- a stranger writes a request whose length is out of range
abbrev pub bad_length : List (List ℕ)
bad_length =
    (
    codes "chjournal 1"
    ∷ codes "node a h:1:0 7"
    ∷ codes "stranger x 10.0.0.9"
    ∷ codes "knock x a"
    ∷ codes "poke x>a.0 00000000"
    ∷ codes "poke x>a.0 ffffffff"
    ∷ codes "come x>a.0"
    ∷ codes "feed x>a.0 t 8"
    ∷ [])

-- its log
abbrev pub bad_length_log : List (List ℕ)
bad_length_log =
    (
    codes "line 4 ok | knocked x>a.0"
    ∷ codes "line 5 ok | poked x>a.0 00000000"
    ∷ codes "line 6 ok | poked x>a.0 ffffffff"
    ∷ codes "line 7 ok | came x>a.0"
    ∷ codes "line 8 ok | fed x>a.0 t 8 | left x>a.0 t"
    ∷ [])

-- a stranger asks as a peer that the host does not take
abbrev pub out_of_the_circle : List (List ℕ)
out_of_the_circle =
    (
    codes "chjournal 1"
    ∷ codes "node a h:1:0 7"
    ∷ codes "stranger x 10.0.0.9"
    ∷ codes "knock x a"
    ∷ codes "poke x>a.0 0000000000000005683a313a30"
    ∷ codes "come x>a.0"
    ∷ codes "feed x>a.0 t 13"
    ∷ [])

-- its log
abbrev pub out_of_the_circle_log : List (List ℕ)
out_of_the_circle_log =
    (
    codes "line 4 ok | knocked x>a.0"
    ∷ codes "line 5 ok | poked x>a.0 0000000000000005683a313a30"
    ∷ codes "line 6 ok | came x>a.0"
    ∷ codes "line 7 ok | fed x>a.0 t 13 | wrote x>a.0 t 00000003 | left x>a.0 t"
    ∷ [])

-- a stranger ends its socket
abbrev pub ends_at_once : List (List ℕ)
ends_at_once =
    (
    codes "chjournal 1"
    ∷ codes "node a h:1:0 7"
    ∷ codes "stranger x 10.0.0.9"
    ∷ codes "knock x a"
    ∷ codes "quit x>a.0"
    ∷ codes "come x>a.0"
    ∷ codes "feed x>a.0 t 1"
    ∷ codes "quit x>a.0"
    ∷ [])

-- its log
abbrev pub ends_at_once_log : List (List ℕ)
ends_at_once_log =
    (
    codes "line 4 ok | knocked x>a.0"
    ∷ codes "line 5 ok | quitted x>a.0"
    ∷ codes "line 6 ok | came x>a.0"
    ∷ codes "line 7 ok | fed x>a.0 t 0 | left x>a.0 t"
    ∷ codes "line 8 none"
    ∷ [])

-- a request that is cut off
abbrev pub half_a_request : List (List ℕ)
half_a_request =
    (
    codes "chjournal 1"
    ∷ codes "node a h:1:0 7"
    ∷ codes "stranger x 10.0.0.9"
    ∷ codes "knock x a"
    ∷ codes "poke x>a.0 00000000"
    ∷ codes "quit x>a.0"
    ∷ codes "settle"
    ∷ [])

-- its log
abbrev pub half_a_request_log : List (List ℕ)
half_a_request_log =
    (
    codes "line 4 ok | knocked x>a.0"
    ∷ codes "line 5 ok | poked x>a.0 00000000"
    ∷ codes "line 6 ok | quitted x>a.0"
    ∷ codes "line 7 ok | came x>a.0 | fed x>a.0 t 4 | fed x>a.0 t 0 | left x>a.0 t | settled"
    ∷ [])

-- what settling did there, line by line
abbrev pub half_a_request_opened : List (List ℕ)
half_a_request_opened =
    (
    codes "chjournal 1"
    ∷ codes "node a h:1:0 7"
    ∷ codes "stranger x 10.0.0.9"
    ∷ codes "knock x a"
    ∷ codes "poke x>a.0 00000000"
    ∷ codes "quit x>a.0"
    ∷ codes "come x>a.0"
    ∷ codes "feed x>a.0 t 4"
    ∷ codes "feed x>a.0 t 1"
    ∷ [])

-- its log
abbrev pub half_a_request_opened_log : List (List ℕ)
half_a_request_opened_log =
    (
    codes "line 4 ok | knocked x>a.0"
    ∷ codes "line 5 ok | poked x>a.0 00000000"
    ∷ codes "line 6 ok | quitted x>a.0"
    ∷ codes "line 7 ok | came x>a.0"
    ∷ codes "line 8 ok | fed x>a.0 t 4"
    ∷ codes "line 9 ok | fed x>a.0 t 0 | left x>a.0 t"
    ∷ [])

-- an address that is too long
abbrev pub address_too_long : List (List ℕ)
address_too_long =
    (
    codes "chjournal 1"
    ∷ codes "node a h:1:0 7"
    ∷ codes "stranger x 10.0.0.9"
    ∷ codes "knock x a"
    ∷ codes "poke x>a.0 0000000000000051"
    ∷ codes "settle"
    ∷ [])

-- its log
abbrev pub address_too_long_log : List (List ℕ)
address_too_long_log =
    (
    codes "line 4 ok | knocked x>a.0"
    ∷ codes "line 5 ok | poked x>a.0 0000000000000051"
    ∷ codes "line 6 ok | came x>a.0 | fed x>a.0 t 8 | left x>a.0 t | settled"
    ∷ [])

-- what settling did there, line by line
abbrev pub address_too_long_opened : List (List ℕ)
address_too_long_opened =
    (
    codes "chjournal 1"
    ∷ codes "node a h:1:0 7"
    ∷ codes "stranger x 10.0.0.9"
    ∷ codes "knock x a"
    ∷ codes "poke x>a.0 0000000000000051"
    ∷ codes "come x>a.0"
    ∷ codes "feed x>a.0 t 8"
    ∷ [])

-- its log
abbrev pub address_too_long_opened_log : List (List ℕ)
address_too_long_opened_log =
    (
    codes "line 4 ok | knocked x>a.0"
    ∷ codes "line 5 ok | poked x>a.0 0000000000000051"
    ∷ codes "line 6 ok | came x>a.0"
    ∷ codes "line 7 ok | fed x>a.0 t 8 | left x>a.0 t"
    ∷ [])

-- an address without a byte
abbrev pub address_of_no_byte : List (List ℕ)
address_of_no_byte =
    (
    codes "chjournal 1"
    ∷ codes "node a h:1:0 7"
    ∷ codes "stranger x 10.0.0.9"
    ∷ codes "knock x a"
    ∷ codes "poke x>a.0 0000000000000000"
    ∷ codes "settle"
    ∷ [])

-- its log
abbrev pub address_of_no_byte_log : List (List ℕ)
address_of_no_byte_log =
    (
    codes "line 4 ok | knocked x>a.0"
    ∷ codes "line 5 ok | poked x>a.0 0000000000000000"
    ∷ codes "line 6 ok | came x>a.0 | fed x>a.0 t 8 | left x>a.0 t | settled"
    ∷ [])

-- what settling did there, line by line
abbrev pub address_of_no_byte_opened : List (List ℕ)
address_of_no_byte_opened =
    (
    codes "chjournal 1"
    ∷ codes "node a h:1:0 7"
    ∷ codes "stranger x 10.0.0.9"
    ∷ codes "knock x a"
    ∷ codes "poke x>a.0 0000000000000000"
    ∷ codes "come x>a.0"
    ∷ codes "feed x>a.0 t 8"
    ∷ [])

-- its log
abbrev pub address_of_no_byte_opened_log : List (List ℕ)
address_of_no_byte_opened_log =
    (
    codes "line 4 ok | knocked x>a.0"
    ∷ codes "line 5 ok | poked x>a.0 0000000000000000"
    ∷ codes "line 6 ok | came x>a.0"
    ∷ codes "line 7 ok | fed x>a.0 t 8 | left x>a.0 t"
    ∷ [])

-- a text that is no address
abbrev pub no_address : List (List ℕ)
no_address =
    (
    codes "chjournal 1"
    ∷ codes "node a h:1:0 7"
    ∷ codes "stranger x 10.0.0.9"
    ∷ codes "knock x a"
    ∷ codes "poke x>a.0 000000000000000161"
    ∷ codes "settle"
    ∷ [])

-- its log
abbrev pub no_address_log : List (List ℕ)
no_address_log =
    (
    codes "line 4 ok | knocked x>a.0"
    ∷ codes "line 5 ok | poked x>a.0 000000000000000161"
    ∷ codes "line 6 ok | came x>a.0 | fed x>a.0 t 9 | left x>a.0 t | settled"
    ∷ [])

-- what settling did there, line by line
abbrev pub no_address_opened : List (List ℕ)
no_address_opened =
    (
    codes "chjournal 1"
    ∷ codes "node a h:1:0 7"
    ∷ codes "stranger x 10.0.0.9"
    ∷ codes "knock x a"
    ∷ codes "poke x>a.0 000000000000000161"
    ∷ codes "come x>a.0"
    ∷ codes "feed x>a.0 t 9"
    ∷ [])

-- its log
abbrev pub no_address_opened_log : List (List ℕ)
no_address_opened_log =
    (
    codes "line 4 ok | knocked x>a.0"
    ∷ codes "line 5 ok | poked x>a.0 000000000000000161"
    ∷ codes "line 6 ok | came x>a.0"
    ∷ codes "line 7 ok | fed x>a.0 t 9 | left x>a.0 t"
    ∷ [])

-- bytes that are no request
abbrev pub no_request : List (List ℕ)
no_request =
    (
    codes "chjournal 1"
    ∷ codes "node a h:1:0 7"
    ∷ codes "stranger x 10.0.0.9"
    ∷ codes "knock x a"
    ∷ codes "poke x>a.0 ffffffffffffffffffffffffffffffffffffffff"
    ∷ codes "settle"
    ∷ [])

-- its log
abbrev pub no_request_log : List (List ℕ)
no_request_log =
    (
    codes "line 4 ok | knocked x>a.0"
    ∷ codes "line 5 ok | poked x>a.0 ffffffffffffffffffffffffffffffffffffffff"
    ∷ codes "line 6 ok | came x>a.0 | fed x>a.0 t 20 | left x>a.0 t | settled"
    ∷ [])

-- what settling did there, line by line
abbrev pub no_request_opened : List (List ℕ)
no_request_opened =
    (
    codes "chjournal 1"
    ∷ codes "node a h:1:0 7"
    ∷ codes "stranger x 10.0.0.9"
    ∷ codes "knock x a"
    ∷ codes "poke x>a.0 ffffffffffffffffffffffffffffffffffffffff"
    ∷ codes "come x>a.0"
    ∷ codes "feed x>a.0 t 20"
    ∷ [])

-- its log
abbrev pub no_request_opened_log : List (List ℕ)
no_request_opened_log =
    (
    codes "line 4 ok | knocked x>a.0"
    ∷ codes "line 5 ok | poked x>a.0 ffffffffffffffffffffffffffffffffffffffff"
    ∷ codes "line 6 ok | came x>a.0"
    ∷ codes "line 7 ok | fed x>a.0 t 20 | left x>a.0 t"
    ∷ [])
