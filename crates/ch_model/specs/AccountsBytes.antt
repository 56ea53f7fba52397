-- What ends write and read: one item at a time, requests and answers first, ids in order; and no more is fed than is unread.
use Rattle.std.specs.Prelude.{ℕ, Bool, true, false, not, ◌&&◌, ◌||◌, List, length, take, filter_map, IsTrue, ◌==◌, nat_le, nat_lt, ◌+◌, is_some}
use Rattle.std.specs.List.{list_any}
use Rattle.std.specs.Str.{bytes_eq}
use Rattle.ch_base.specs.declared.address.Address.{Address}
use Rattle.ch_base.specs.Addresses.{address_text}
use Rattle.ch_wire.specs.Words.{word_value, counted}
use Rattle.ch_wire.specs.Spelling.{answer_spelling}
use Rattle.ch_wire.specs.declared.answer.Answer.TheVariants.{Accepted}
use Rattle.ch_wire.specs.declared.frame.Frame.{Frame}
use Rattle.ch_wire.specs.declared.frame.Frame.TheVariants as frames
use Rattle.ch_reader.specs.Reading.{reading}
use Rattle.ch_reader.specs.declared.item.Expected.TheVariants as expected
use Rattle.ch_reader.specs.declared.item.Front.{Front}
use Rattle.ch_reader.specs.declared.item.Front.TheVariants as fronts
use Rattle.ch_reader.specs.declared.item.Item.TheVariants as items
use Rattle.ch_model.specs.declared.name.SockName.{SockName}
use Rattle.ch_model.specs.declared.name.End.{End}
use Rattle.ch_model.specs.declared.name.End.TheVariants.{O, T}
use Rattle.ch_model.specs.declared.entry.Entry.{Entry}
use Rattle.ch_model.specs.declared.entry.Entry.TheVariants as entries
use Rattle.ch_model.specs.declared.line.Line.{Line}
use Rattle.ch_model.specs.Same.{same_socket}
use Rattle.ch_model.specs.Logs.{each, each_between, some_and, none_or, next_is}
use Rattle.ch_model.specs.Declarations.{address_of, is_stranger}
use Rattle.ch_model.specs.Sockets.{written, fed, unread, has_ended_input, writings}
use Rattle.ch_model.specs.AccountsItems.{item_of, frame_of, frames_of, expected_next, created_by, is_open_id}

-- a stranger's own end writes nothing: what a stranger writes is poked
abbrev pub is_node_end : List Line → SockName → End → Bool
is_node_end journal sock O = not (is_stranger journal sock.from)
is_node_end journal sock T = true

-- each writing of a node's end is the spelling of one item: a request or an answer first, then frames
abbrev pub writes_an_item : List Line → List Entry → Entry → Bool
writes_an_item journal log (entries.Wrote sock end bytes) = is_node_end journal sock end && is_some (item_of (expected_next log sock end) bytes)
writes_an_item journal log entry = true

-- the bytes are a request from this address, to some endpoint
abbrev pub is_request_from : List ℕ → Address → Bool
is_request_from bytes from = bytes_eq bytes (counted (word_value (take 4 bytes)) (address_text from))

-- an opener's request has the address of its node
abbrev pub requests_by_name : List Line → List Entry → Entry → Bool
requests_by_name journal log (entries.Wrote sock O bytes) =
    nat_lt 0 (length (writings log sock O)) || some_and (is_request_from bytes) (address_of journal sock.from)
requests_by_name journal log entry = true

-- what the target's end wrote, if anything, begins with the answer that accepts
abbrev pub has_accepted : List (List ℕ) → Bool
has_accepted pieces = list_any (bytes_eq (answer_spelling Accepted)) (take 1 pieces)

-- after an answer other than the accepting one nothing is written
abbrev pub writes_after_accepting : List Entry → Entry → Bool
writes_after_accepting log (entries.Wrote sock T bytes) = length (writings log sock T) == 0 || has_accepted (writings log sock T)
writes_after_accepting log entry = true

-- a connection that is created has the next id, from 1024
abbrev pub is_next_id : List Entry → SockName → End → ℕ → Bool
is_next_id log sock end id = id == 1024 + length (filter_map created_by (frames_of log sock end))

-- the frame has an id that it may have
abbrev pub has_fit_id : List Entry → SockName → End → Frame → Bool
has_fit_id log sock end (frames.Created id) = is_next_id log sock end id
has_fit_id log sock end (frames.Closed id) = is_open_id log sock end id
has_fit_id log sock end (frames.Data id payload) = is_open_id log sock end id
has_fit_id log sock end frame = true

-- connections are created in order of ids; what is sent on or closed is open
abbrev pub writes_fit_ids : List Entry → Entry → Bool
writes_fit_ids log (entries.Wrote sock end bytes) = length (writings log sock end) == 0 || none_or (has_fit_id log sock end) (frame_of bytes)
writes_fit_ids log entry = true

-- no more is fed than is unread
abbrev pub feeds_the_unread : List Line → List Entry → Entry → Bool
feeds_the_unread journal log (entries.Fed sock end count) = nat_le count (length (unread journal log sock end))
feeds_the_unread journal log entry = true

-- the end of input is fed only where nothing is unread, and the other end has ended or this one was cut
abbrev pub feeds_the_end : List Line → List Entry → Entry → Bool
feeds_the_end journal log (entries.Fed sock end count) =
    not (count == 0) || length (unread journal log sock end) == 0 && has_ended_input journal log sock end
feeds_the_end journal log entry = true

-- what was fed to this end
abbrev pub read_bytes : List Entry → SockName → End → List ℕ
read_bytes log sock end = take (fed log sock end) (written log sock end)

-- a request stands at the front
abbrev pub is_request_front : Front × ℕ → Bool
is_request_front (fronts.Whole (items.Request request), n) = true
is_request_front (front, n) = false

-- a target comes up after a request was fed to it whole
abbrev pub target_has_read : List Entry → Entry → Bool
target_has_read log (entries.Up sock T) = is_request_front (reading expected.Request (read_bytes log sock T))
target_has_read log entry = true

-- an opener comes up after the accepting answer was fed to it whole
abbrev pub opener_has_read : List Entry → Entry → Bool
opener_has_read log (entries.Up sock O) = bytes_eq (answer_spelling Accepted) (take 4 (read_bytes log sock O))
opener_has_read log entry = true

-- the target's end writes the accepting answer
abbrev pub accepts : SockName → Entry → Bool
accepts s (entries.Wrote sock T bytes) = same_socket sock s && bytes_eq bytes (answer_spelling Accepted)
accepts s entry = false

-- a target that comes up accepts next
abbrev pub accepts_next : List Entry → Entry → List Entry → Bool
accepts_next log (entries.Up sock T) rest = next_is (accepts sock) rest
accepts_next log entry rest = true

-- what is written is spelled and numbered as it should be, what is fed was written, and links come up by what was fed
pub record IsWrittenAndFed (journal : List Line) (log : List Entry) : Type 0 where
  pub items : IsTrue (each (writes_an_item journal) log)
  pub requests : IsTrue (each (requests_by_name journal) log)
  pub after_accepting : IsTrue (each writes_after_accepting log)
  pub ids : IsTrue (each writes_fit_ids log)
  pub unread_alone : IsTrue (each (feeds_the_unread journal) log)
  pub true_ends : IsTrue (each (feeds_the_end journal) log)
  pub read_requests : IsTrue (each target_has_read log)
  pub read_answers : IsTrue (each opener_has_read log)
  pub accepted_next : IsTrue (each_between accepts_next log)
