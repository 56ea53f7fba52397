-- The ids of one direction of a socket, over the list of the connections that got one. The connection at place k has
-- the id 1024 + k, so ids are 1024 and up, one after another.
use Rattle.std.specs.Prelude.{◌≡◌, ℕ, ◌+◌, ◌-◌, nat_lt, nat_le, ◌==◌, Bool, true, false, ◌&&◌, if◌then◌else◌, List, [], ◌∷◌, ◌++◌, length, slice_get, slice_set, position, Option, Some, None, Result, Ok, Err, option_map}
use Rattle.ch_light.specs.declared.TheConstants.{FIRST_ID, MOST_IDS}
use Rattle.ch_light.specs.declared.Connection.{Connection}
use Rattle.ch_light.specs.declared.error.LightError.{LightError}
use Rattle.ch_light.specs.declared.error.LightError.TheVariants.{Spent, NotNext, NotOpen, OutOfMemory}

-- a connection that has just got its id
abbrev pub opened : ℕ → Connection
opened number = record { number = number; is_open = true }

-- the same once it is closed
abbrev pub closed : ℕ → Connection
closed number = record { number = number; is_open = false }

-- this is the connection of that number, and it is open
abbrev pub is_open_as : ℕ → Connection → Bool
is_open_as number c = c.is_open && (c.number == number)

-- the place of the open connection of this number
abbrev pub place_of : List Connection → ℕ → Option ℕ
place_of table number = position (is_open_as number) table

-- the id of the open connection of this number
unfoldable pub id_of : List Connection → ℕ → Option ℕ
id_of table number = option_map (λ place. FIRST_ID + place) (place_of table number)

-- no connection of this number is open
abbrev pub IsFree : List Connection → ℕ → Type 0
IsFree table number = id_of table number ≡ None

-- the next id goes to this connection, unless all are spent
unfoldable pub give_of : List Connection → ℕ → Result (ℕ × List Connection) LightError
give_of table number = if nat_le MOST_IDS (length table) then Err Spent else Ok (FIRST_ID + length table, table ++ opened number ∷ [])

-- the connection of this number at that place is closed
abbrev pub close_at : List Connection → ℕ → Option ℕ → Result (ℕ × List Connection) LightError
close_at table number None = Err NotOpen
close_at table number (Some place) = Ok (FIRST_ID + place, slice_set table place (closed number))

-- the open connection of this number is closed, and has no id from then on
unfoldable pub close_of : List Connection → ℕ → Result (ℕ × List Connection) LightError
close_of table number = close_at table number (place_of table number)

-- the other end created this id, for this connection
unfoldable pub created_of : List Connection → ℕ → ℕ → Result (List Connection) LightError
created_of table id number = if nat_le MOST_IDS (length table) then Err Spent else (if id == FIRST_ID + length table then Ok (table ++ opened number ∷ []) else Err NotNext)

-- the number of a connection, if it is open
abbrev pub open_number : Option Connection → Result ℕ LightError
open_number None = Err NotOpen
open_number (Some c) = if c.is_open then Ok c.number else Err NotOpen

-- the number of the open connection that has this id
unfoldable pub conn_of : List Connection → ℕ → Result ℕ LightError
conn_of table id = if nat_lt id FIRST_ID then Err NotOpen else open_number (slice_get table (id - FIRST_ID))

-- the other end closed this id
abbrev pub closed_by : List Connection → ℕ → Result ℕ LightError → Result (ℕ × List Connection) LightError
closed_by table id (Err e) = Err e
closed_by table id (Ok number) = Ok (number, slice_set table (id - FIRST_ID) (closed number))

-- the open connection that has this id is closed
unfoldable pub closed_of : List Connection → ℕ → Result (ℕ × List Connection) LightError
closed_of table id = closed_by table id (conn_of table id)

-- want of memory may come at any call that takes some
abbrev pub Fails : {Y : Type 0} → LightError → Result Y LightError → Type 0
Fails OutOfMemory read = Unit {0}
Fails e read = read ≡ Err e
