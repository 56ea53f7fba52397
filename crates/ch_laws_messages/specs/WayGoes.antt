-- What a turn adds to what was written towards an end, and what it reads there.
use Rattle.std.specs.Prelude.{◌≡◌, ◌⊎◌, ℕ, cond, true, false, ◌==◌, List, [], ◌++◌, drop, filter_map, find, length, map, Option, Some, None}
use Rattle.ch_base.specs.declared.address.Address.{Address}
use Rattle.ch_reader.specs.Items.{item_spelling}
use Rattle.ch_reader.specs.declared.item.Expected.{Expected}
use Rattle.ch_model.specs.declared.entry.Entry.{Entry}
use Rattle.ch_model.specs.declared.name.End.{End}
use Rattle.ch_model.specs.declared.name.SockName.{SockName}
use Rattle.ch_model.specs.declared.step.Place.{Place}
use Rattle.ch_model.specs.declared.step.Step.{Step}
use Rattle.ch_model.specs.AccountsFrames.{Saying}
use Rattle.ch_model.specs.AccountsItems.{frame_of}
use Rattle.ch_model.specs.HostState.{HostState}
use Rattle.ch_model.specs.Same.{across, is_end_of}
use Rattle.ch_model.specs.Sockets.{writings}
use Rattle.ch_model.specs.WorldSockets.{end_of, is_socket_named}
use Rattle.ch_model.specs.WorldState.{WorldSocket, World}
use Rattle.ch_laws_bytes.specs.Streams.{Reader, reader_of, first_at, is_over}
use Rattle.ch_laws_reads.specs.Reads.{Reads}
use Rattle.ch_laws_writes.specs.Dues.{Due, due_at}
use Rattle.ch_laws_calls.specs.FitsTurns.{IsKind}
use Rattle.ch_laws_places.specs.Said.{Piece, said_at}
use Rattle.ch_laws_places.proofs.Sockets.{reads_at_end}
use Rattle.ch_race.specs.Pair.{Side, other}
use Rattle.ch_laws_race.specs.Scene.{Party}
use Rattle.ch_model.specs.declared.line.Line.{Line}
use Rattle.ch_laws_calls.specs.Scenes.{IsPairOf}
use Rattle.ch_laws_peers.specs.Words.{Placed, placing, sayings}
use Rattle.ch_laws_peers.specs.Reads.{PlacedItem, items_in, placed_in, AreTruly, Way, IsWay}

-- items as they are written, each with its place
abbrev pub pieced : List PlacedItem → List Piece
pieced all = map (λ (one : PlacedItem). (item_spelling one.0, one.1)) all

-- these pieces are such items, and they may be written where that is due
pub record Adds (own : ℕ → Address) (due : Option Due) (pieces : List Piece) (new : List PlacedItem) : Type 0 where
  pub is : pieces ≡ pieced new
  pub kind : IsKind own due (items_in new)

-- the frames among what was written, with the places that the sayings give them
abbrev pub written_frames : List Saying → List (List ℕ) → List Placed
written_frames said wrote = placing said [] 0 (filter_map frame_of (drop 1 wrote))

-- what is told of a way that has gone on: what was read there, and what came
pub record GoesOn (reader now : Reader) (first : Expected) (unread left : List ℕ) (before after : List (Option Place)) (wrote more : List (List ℕ)) (said next : List Saying) (count : ℕ) (w : Way reader first unread before wrote said) (new : List PlacedItem) : Type 0 where
  pub then_way : Way now first left after (wrote ++ more) next
  pub taken : List PlacedItem
  pub many : length taken ≡ count
  pub gone : then_way.gone ≡ w.gone ++ taken
  pub others : List PlacedItem
  pub split : w.all ≡ taken ++ others

-- where something reads there still
abbrev pub IsGoing : (reader now : Option Reader) (first : Expected) (unread left : List ℕ) (before after : List (Option Place)) (wrote more : List (List ℕ)) (said next : List Saying) (count : ℕ) → IsWay reader first unread before wrote said → List PlacedItem → Type 0
IsGoing reader None first unread left before after wrote more said next count w new = Unit {0}
IsGoing None (Some now) first unread left before after wrote more said next count w new = ⊥
IsGoing (Some reader) (Some now) first unread left before after wrote more said next count w new = GoesOn reader now first unread left before after wrote more said next count w new

-- ---- a turn of a host

-- what a host's steps read, and the items that they write under each number
pub record HostDoes (own : ℕ → Address) (host : HostState) (told : List Step) (after : HostState) (new : ℕ → List PlacedItem) : Type 0 where
  pub reads : Reads host told after
  pub adds : (n : ℕ) → Adds own (due_at host n) (said_at n told) (new n)

-- what the cell at a place writes at an end of this cell and number
abbrev pub new_for : ℕ → (ℕ → List PlacedItem) → Option ℕ → Option ℕ → List PlacedItem
new_for place new (Some p) (Some n) = cond (p == place) (new n) []
new_for place new cell number = []

-- What is written at an end goes on towards the other one: the socket was there; what a turn of the cell at a place writes is new there.
pub record EndTurn (place : ℕ) (told : List Step) (new : ℕ → List PlacedItem) (log : List Entry) (world : World) (after_log : List Entry) (after : World) (s : SockName) (socket : WorldSocket) (e : End) : Type 0 where
  pub before : WorldSocket
  pub found : find (is_socket_named s) world.sockets ≡ Some before
  pub lives : is_over (end_of (across e) socket) ≡ false → is_over (end_of (across e) before) ≡ false
  pub number : (n : ℕ) → (end_of e before).number ≡ Some n → (end_of e socket).number ≡ Some n
  pub more : List (List ℕ)
  pub wrote : writings after_log s e ≡ writings log s e ++ more
  pub goes : (said next : List Saying) → is_over (end_of (across e) socket) ≡ false → (w : IsWay (reader_of world before (across e)) (first_at (across e)) (end_of (across e) before).unread (end_of (across e) before).places (writings log s e) said)
      → AreTruly next (written_frames said (writings log s e) ++ placed_in (new_for place new (end_of e before).cell (end_of e before).number))
      → IsGoing (reader_of world before (across e)) (reader_of after socket (across e)) (first_at (across e)) (end_of (across e) before).unread (end_of (across e) socket).unread (end_of (across e) before).places (end_of (across e) socket).places (writings log s e) more said next
      (reads_at_end place told (end_of (across e) before)) w (new_for place new (end_of e before).cell (end_of e before).number)

-- The socket is new: nothing was written there, and nothing is unread.
pub record EndOpens (log : List Entry) (world : World) (after_log : List Entry) (after : World) (s : SockName) (socket : WorldSocket) (e : End) : Type 0 where
  pub none : find (is_socket_named s) world.sockets ≡ None
  pub silent : writings after_log s e ≡ writings log s e
  pub way : (next : List Saying) → IsWay (reader_of after socket (across e)) (first_at (across e)) (end_of (across e) socket).unread (end_of (across e) socket).places [] next

-- so it is at all ends, and what isn't there wasn't, and nothing is written of it
pub record AllTurn (place : ℕ) (told : List Step) (new : ℕ → List PlacedItem) (log : List Entry) (world : World) (after_log : List Entry) (after : World) : Type 0 where
  pub ends : (s : SockName) (socket : WorldSocket) (e : End) → find (is_socket_named s) after.sockets ≡ Some socket → EndTurn place told new log world after_log after s socket e ⊎ EndOpens log world after_log after s socket e
  pub unopened : (s : SockName) (e : End) → find (is_socket_named s) after.sockets ≡ None → (find (is_socket_named s) world.sockets ≡ None) × (writings after_log s e ≡ writings log s e)

-- ---- one way between two nodes

-- what was written at each end of x towards the other node, and that nothing was on a socket that isn't there: what `Comes` says of it
pub record OnWay (log : List Entry) (world : World) (party : Side → Party) (x : Side) : Type 0 where
  pub ways : (s : SockName) (e : End) (socket : WorldSocket) → is_end_of (party x).name (party (other x)).name s e ≡ true → find (is_socket_named s) world.sockets ≡ Some socket → is_over (end_of (across e) socket) ≡ false
      → IsWay (reader_of world socket (across e)) (first_at (across e)) (end_of (across e) socket).unread (end_of (across e) socket).places (writings log s e) (sayings (party x).name (party (other x)).name log)
  pub unopened : (s : SockName) (e : End) → is_end_of (party x).name (party (other x)).name s e ≡ true → find (is_socket_named s) world.sockets ≡ None → writings log s e ≡ []

-- the frames that x has written, with those that are new, have the places of what they carry
abbrev pub GoTruly : ℕ → List Step → (ℕ → List PlacedItem) → List Entry → World → List Entry → World → (Side → Party) → Side → Type 0
GoTruly place told new log world after_log after party x = (s : SockName) (e : End) (socket : WorldSocket) → is_end_of (party x).name (party (other x)).name s e ≡ true → find (is_socket_named s) after.sockets ≡ Some socket → (t : EndTurn place told new log world after_log after s socket e)
    → AreTruly (sayings (party x).name (party (other x)).name after_log) (written_frames (sayings (party x).name (party (other x)).name log) (writings log s e) ++ placed_in (new_for place new (end_of e t.before).cell (end_of e t.before).number))

-- ---- a turn

-- What was written towards each end goes on in a turn of the cell at a place, and each node's frames towards another have the places of what
-- they carry.
pub record Turns (journal : List Line) (log : List Entry) (world : World) (after_log : List Entry) (after : World) : Type 0 where
  pub place : ℕ
  pub told : List Step
  pub new : ℕ → List PlacedItem
  pub all : AllTurn place told new log world after_log after
  pub truly : (party : Side → Party) → IsPairOf journal party → (x : Side) → GoTruly place told new log world after_log after party x
