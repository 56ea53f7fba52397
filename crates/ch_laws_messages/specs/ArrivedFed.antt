-- That an item which stands whole at the front of what a host holds of an end ends within the bytes that were fed last.
use Rattle.std.specs.Prelude.{◌≡◌, ◌<◌, ℕ, ◌+◌, true, List, [], length, find, slice_get, Some}
use Rattle.ch_reader.specs.Reading.{reading}
use Rattle.ch_reader.specs.declared.item.Front.TheVariants.{Whole}
use Rattle.ch_reader.specs.declared.item.Item.{Item}
use Rattle.ch_model.specs.declared.entry.Entry.{Entry}
use Rattle.ch_model.specs.declared.name.End.{End}
use Rattle.ch_model.specs.declared.name.SockName.{SockName}
use Rattle.ch_model.specs.AccountsMessages.{Feeding, feeding}
use Rattle.ch_model.specs.HostState.{Socket}
use Rattle.ch_model.specs.HostSteps.{is_socket}
use Rattle.ch_model.specs.Logs.{last_of}
use Rattle.ch_model.specs.Stages.{is_pending}
use Rattle.ch_model.specs.WorldSockets.{is_socket_named}
use Rattle.ch_model.specs.WorldState.{Cell, WorldSocket, World}
use Rattle.ch_laws_bytes.specs.Streams.{Reader, reader_of}
use Rattle.ch_laws_risen.specs.Firsts.{AreRisen}

-- the last feeding was to this end, and before it the item at the front of what its reader holds wasn't whole
pub record IsFedLast (log : List Entry) (s : SockName) (e : End) (reader : Reader) : Type 0 where
  pub last : Feeding
  pub is : last_of feeding log ≡ Some last
  pub sock : last.sock ≡ s
  pub end : last.end ≡ e
  pub past : length reader.1 < (reading reader.0 reader.1).1 + last.count

-- so it is where an item stands whole there
abbrev pub EndsLast : List Entry → SockName → End → Reader → Type 0
EndsLast log s e reader = (item : Item) → (reading reader.0 reader.1).0 ≡ Whole item → IsFedLast log s e reader

-- no host holds bytes of an end that is pending
abbrev pub HoldsNone : List (Cell × ℕ) → Type 0
HoldsNone cells = (place : ℕ) (cell : Cell × ℕ) (n : ℕ) (known : Socket) → slice_get cells place ≡ Some cell → find (is_socket n) cell.0.host.sockets ≡ Some known → is_pending known.stage ≡ true → known.since ≡ []

-- So it is at each end that is read; and the world is as the log tells.
pub record LastFed (log : List Entry) (world : World) : Type 0 where
  pub risen : AreRisen log world
  pub ends : (s : SockName) (socket : WorldSocket) (e : End) (reader : Reader) → find (is_socket_named s) world.sockets ≡ Some socket → reader_of world socket e ≡ Some reader → EndsLast log socket.name e reader
  pub empty : HoldsNone world.cells
