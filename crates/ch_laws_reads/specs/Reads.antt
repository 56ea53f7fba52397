-- What a host has read of its sockets: the items at the front of each one's bytes, one after another.
use Rattle.std.specs.Prelude.{◌≡◌, ℕ, suc, true, false, cond, List, [], ◌∷◌, ◌++◌, length, drop, find, Option, Some, None, Result, Ok, Err, ◌==◌}
use Rattle.ch_reader.specs.Items.{spellings, MayFollow}
use Rattle.ch_reader.specs.Reading.{reading}
use Rattle.ch_reader.specs.declared.item.Expected.{Expected}
use Rattle.ch_reader.specs.declared.item.Expected.TheVariants as expected
use Rattle.ch_reader.specs.declared.item.Front.TheVariants.{Whole}
use Rattle.ch_reader.specs.declared.item.Item.{Item}
use Rattle.ch_model.specs.declared.local.LocalEvent.{LocalEvent}
use Rattle.ch_model.specs.declared.local.LocalEvent.TheVariants as locals
use Rattle.ch_model.specs.declared.step.SocketEvent.{SocketEvent}
use Rattle.ch_model.specs.declared.step.SocketEvent.TheVariants as events
use Rattle.ch_model.specs.declared.step.Step.{Step}
use Rattle.ch_model.specs.declared.step.Step.TheVariants as steps
use Rattle.ch_model.specs.Host.{accepted}
use Rattle.ch_model.specs.HostState.{Socket, HostState}
use Rattle.ch_model.specs.HostSteps.{is_socket, with_socket}
use Rattle.ch_model.specs.Stages.{is_open, is_ended}
use Rattle.ch_laws_log.specs.HostEnds.{IsSound}

-- Items are read from the front of bytes, of which the first is of this kind: each stands whole at the front of what those
-- before it leave. So many bytes are left, and that kind is next.
abbrev pub AreRead : Expected → List ℕ → List Item → Expected → List ℕ → Type 0
AreRead e bytes [] next left = (next ≡ e) × (left ≡ bytes)
AreRead e bytes (item ∷ items) next left = ((reading e bytes).0 ≡ Whole item) × AreRead expected.Frame (drop (reading e bytes).1 bytes) items next left

-- What was read of bytes behind which others are to come, where all are spelled items: the first of these, and what is left
-- is the others.
pub record AreReadOf (all items : List Item) (next : Expected) (left unread : List ℕ) : Type 0 where
  pub rest : List Item
  pub split : all ≡ items ++ rest
  pub whole : left ++ unread ≡ spellings rest
  pub each : MayFollow next rest

-- how many items were read of the socket of this number, as the steps tell
abbrev pub reads_of : ℕ → List Step → ℕ
reads_of n [] = 0
reads_of n (steps.Read sock ∷ rest) = cond (sock == n) (suc (reads_of n rest)) (reads_of n rest)
reads_of n (step ∷ rest) = reads_of n rest

-- so many items were read of a socket
pub record HasRead (count : ℕ) (before after : Socket) : Type 0 where
  pub items : List Item
  pub many : length items ≡ count
  pub front : AreRead before.expected before.since items after.expected after.since

-- A socket that has ended stays so; of one that hasn't, so many items were read.
pub record GoesOn (count : ℕ) (before after : Socket) : Type 0 where
  pub over : is_ended before.stage ≡ true → is_ended after.stage ≡ true
  pub read : is_ended after.stage ≡ false → HasRead count before after

-- the socket is still there, and goes on
abbrev pub IsKept : ℕ → Socket → Option Socket → Type 0
IsKept count before None = ⊥
IsKept count before (Some after) = GoesOn count before after

-- a socket that wasn't there before has read nothing, and nothing was handed to it; it expects an answer, as it was dialed
abbrev pub IsFresh : Option Socket → Type 0
IsFresh None = Unit {0}
IsFresh (Some socket) = is_ended socket.stage ≡ false → (socket.expected ≡ expected.Answer) × (socket.since ≡ [])

-- The host stays sound; of each socket that it had as many items were read as the steps tell, unless it has ended; and
-- those that it hadn't are fresh.
pub record Reads (before : HostState) (told : List Step) (after : HostState) : Type 0 where
  pub sound : IsSound after
  pub known : (n : ℕ) (socket : Socket) → find (is_socket n) before.sockets ≡ Some socket → IsKept (reads_of n told) socket (find (is_socket n) after.sockets)
  pub fresh : (n : ℕ) → find (is_socket n) before.sockets ≡ None → IsFresh (find (is_socket n) after.sockets)

-- what a sound host does has read so
abbrev pub AllRead : {E : Type 0} → HostState → Result (List Step × HostState) E → Type 0
AllRead before (Ok done) = IsSound before → Reads before done.0 done.1
AllRead before (Err e) = Unit {0}

-- ---- what is handed to a host

-- the host with bytes handed to a socket of it, where that is open
abbrev pub handed_to : ℕ → List ℕ → HostState → Option Socket → HostState
handed_to sock bytes host None = host
handed_to sock bytes host (Some socket) = cond (is_open socket.stage) (with_socket (record socket { since = socket.since ++ bytes }) host) host

-- the host with what an event hands to it: bytes to a socket that is open, or a socket that has come
abbrev pub handed_by : SocketEvent → HostState → HostState
handed_by (events.Fed sock bytes) host = handed_to sock bytes host (find (is_socket sock) host.sockets)
handed_by (events.Came sock peer_host) host = with_socket (accepted sock peer_host) host
handed_by event host = host

-- the same of all that a cell hears
abbrev pub handed : LocalEvent → HostState → HostState
handed (locals.Came mark sock peer_host) host = with_socket (accepted sock peer_host) host
handed (locals.Socket event) host = handed_by event host
handed event host = host
