-- Users' messages by their bytes: each payload carries what was said, and each message is got by the bytes that were fed last.
use Rattle.std.specs.Prelude.{ℕ, Bool, true, false, not, ◌&&◌, ◌||◌, List, length, position, Option, Some, None, IsTrue, ◌==◌, nat_lt, ◌-◌, is_some, if◌then◌else◌}
use Rattle.std.specs.List.{list_any, list_all}
use Rattle.std.specs.Str.{bytes_eq}
use Rattle.ch_model.specs.declared.name.SockName.{SockName}
use Rattle.ch_model.specs.declared.name.End.{End}
use Rattle.ch_model.specs.declared.entry.Entry.{Entry}
use Rattle.ch_model.specs.declared.entry.Entry.TheVariants as entries
use Rattle.ch_model.specs.declared.line.Line.{Line}
use Rattle.ch_model.specs.Same.{node_of, owner, across}
use Rattle.ch_model.specs.Logs.{each, collected, never, last_of, some_and, none_or}
use Rattle.ch_model.specs.Sockets.{fed, writings}
use Rattle.ch_model.specs.AccountsItems.{first_payload, opens_nodes}
use Rattle.ch_model.specs.AccountsFrames.{Saying, is_saying, said_between, data_written, datas, is_user_data, next_carried, written_sayings, arriving_by, ending_within, pair_opening, payload_of}

-- the payload opens the pair's connection of something said from x to y before
abbrev pub opens_a_pair : List Line → List Entry → List ℕ → List ℕ → List ℕ → Bool
opens_a_pair journal log x y payload = list_any (λ (s : Saying). some_and (bytes_eq payload) (pair_opening journal s.by s.to)) (said_between log x y)

-- the first payload of a connection opens it, from node to node or for a pair that has said something
abbrev pub is_true_opening : List Line → List Entry → SockName → End → List ℕ → Bool
is_true_opening journal log sock end payload =
    opens_nodes journal (owner sock end) (owner sock (across end)) payload || opens_a_pair journal log (owner sock end) (owner sock (across end)) payload

-- both are there, and one
abbrev pub same_bytes : Option (List ℕ) → Option (List ℕ) → Bool
same_bytes (Some a) (Some b) = bytes_eq a b
same_bytes a b = false

-- the payload is the one of what is said, and its connection was opened for the pair
abbrev pub carries_it : List Line → List (ℕ × List ℕ) → ℕ × List ℕ → Saying → Bool
carries_it journal datas d s = bytes_eq d.1 (payload_of s) && same_bytes (first_payload d.0 datas) (pair_opening journal s.by s.to)

-- a payload that is the first of its connection opens it; a user's carries what was said next
abbrev pub is_true_data : List Line → List Entry → SockName → End → ℕ × List ℕ → Bool
is_true_data journal log sock end d =
    if is_some (first_payload d.0 (datas log sock end))
    then not (is_user_data journal log sock end d) || some_and (carries_it journal (datas log sock end) d) (next_carried journal log (owner sock end) (owner sock (across end)))
    else is_true_opening journal log sock end d.1

-- each payload that a node's end writes opens its connection, is of the connection from node to node, or carries what was said next
abbrev pub writes_true_data : List Line → List Entry → Entry → Bool
writes_true_data journal log (entries.Wrote sock end bytes) =
    length (writings log sock end) == 0 || none_or (is_true_data journal log sock end) (data_written log sock end bytes)
writes_true_data journal log entry = true

-- a feeding: to which end, and how many bytes
pub record Feeding : Type 0 where
  pub sock : SockName
  pub end : End
  pub count : ℕ

-- what the entry feeds
abbrev pub feeding : Entry → Option Feeding
feeding (entries.Fed sock end count) = Some (record { sock = sock; end = end; count = count })
feeding entry = None

-- what is carried by the frames that end among the bytes that were fed so
abbrev pub arrived : List Line → List Entry → Feeding → List Saying
arrived journal log f =
    let high : ℕ = fed log f.sock f.end in
    ending_within (high - f.count) high 0 (collected never (arriving_by journal f.sock f.end) log)

-- a message between two nodes is got by a frame that carries it, whose last byte is among those that were fed last
abbrev pub gets_by_bytes : List Line → List Entry → Entry → Bool
gets_by_bytes journal log (entries.Got by to epoch index receiver) =
    bytes_eq by.node (node_of to)
    || some_and (λ f. list_any (is_saying by to epoch index) (arrived journal log f)) (last_of feeding log)
gets_by_bytes journal log entry = true

-- what the entry got from x at y, if anything, was written before the frame of this place
abbrev pub got_before : List Saying → ℕ → List ℕ → List ℕ → Entry → Bool
got_before sayings place x y (entries.Got by to epoch index receiver) =
    not (bytes_eq by.node x && bytes_eq (node_of to) y)
    || none_or (λ earlier. nat_lt earlier place) (position (is_saying by to epoch index) sayings)
got_before sayings place x y entry = true

-- what x said to y is got in the order in which it was written
abbrev pub gets_in_order_written : List Line → List Entry → Entry → Bool
gets_in_order_written journal log (entries.Got by to epoch index receiver) =
    let sayings : List Saying = written_sayings journal log by.node (node_of to) in
    none_or (λ place. list_all (got_before sayings place by.node (node_of to)) log) (position (is_saying by to epoch index) sayings)
gets_in_order_written journal log entry = true

-- users' messages go by frames
pub record IsCarried (journal : List Line) (log : List Entry) : Type 0 where
  pub true_payloads : IsTrue (each (writes_true_data journal) log)
  pub got_by_bytes : IsTrue (each (gets_by_bytes journal) log)
  pub in_order_written : IsTrue (each (gets_in_order_written journal) log)
