-- What a log writes: each piece is one whole item, of the kind that comes next at its end.
use Rattle.std.specs.Prelude.{◌≡◌, ℕ, ◌<◌, ◌^◌, Bool, true, false, not, ◌||◌, ◌==◌, List, [], ◌∷◌, ◌++◌, length, map, is_some, IsTrue}
use Rattle.ch_base.specs.declared.address.Address.{Address}
use Rattle.ch_base.specs.Addresses.{IsAddress}
use Rattle.ch_wire.specs.Spelling.{IsFrame, request_spelling, answer_spelling, frame_spelling}
use Rattle.ch_wire.specs.declared.answer.Answer.{Answer}
use Rattle.ch_wire.specs.declared.frame.Frame.{Frame}
use Rattle.ch_wire.specs.declared.request.Request.{Request}
use Rattle.ch_reader.specs.declared.item.Expected.{Expected}
use Rattle.ch_reader.specs.declared.item.Expected.TheVariants as expected
use Rattle.ch_model.specs.declared.entry.Entry.{Entry}
use Rattle.ch_model.specs.declared.entry.Entry.TheVariants as entries
use Rattle.ch_reader.specs.declared.item.Item.{Item}
use Rattle.ch_reader.specs.Items.{item_spelling, MayFollow}
use Rattle.ch_model.specs.declared.line.Line.{Line}
use Rattle.ch_model.specs.declared.name.End.{End}
use Rattle.ch_model.specs.declared.name.End.TheVariants.{O, T}
use Rattle.ch_model.specs.declared.name.SockName.{SockName}
use Rattle.ch_model.specs.AccountsItems.{item_of, expected_next}
use Rattle.ch_model.specs.Naming.{Names, called}
use Rattle.ch_model.specs.Sockets.{writings}
use Rattle.ch_model.specs.Declarations.{is_stranger}
use Rattle.ch_model.specs.WorldSockets.{is_of_host}
use Rattle.ch_model.specs.WorldState.{WorldSocket, World}
use Rattle.std.specs.List.{list_all}
use Rattle.ch_laws_writes.specs.Dues.{Due, Asking, Answering, Framing}

-- the bytes spell one item of this kind; a frame is one that may be read
abbrev pub IsOne : Expected → List ℕ → Type 0
IsOne expected.Request bytes = (request : Request) × (bytes ≡ request_spelling request)
IsOne expected.Answer bytes = (answer : Answer) × (bytes ≡ answer_spelling answer)
IsOne expected.Frame bytes = (frame : Frame) × IsFrame frame × (bytes ≡ frame_spelling frame)

-- what an entry writes, after the log before it, is one item of the kind that its end writes next
abbrev pub WritesOne : List Entry → Entry → Type 0
WritesOne log (entries.Wrote sock end bytes) = IsOne (expected_next log sock end) bytes
WritesOne log entry = Unit {0}

-- the same of each entry of the rest of a log
abbrev pub EachWritesOne : List Entry → List Entry → Type 0
EachWritesOne before [] = Unit {0}
EachWritesOne before (entry ∷ rest) = WritesOne before entry × EachWritesOne (before ++ entry ∷ []) rest

-- an opener's end that has written nothing writes its request
abbrev pub is_first_of_opener : List Entry → SockName → End → Bool
is_first_of_opener log sock O = length (writings log sock O) == 0
is_first_of_opener log sock T = false

-- what is written is read back as one item, of the kind that comes next; but for requests
abbrev pub reads_back : List Entry → Entry → Bool
reads_back log (entries.Wrote sock end bytes) = is_first_of_opener log sock end || is_some (item_of (expected_next log sock end) bytes)
reads_back log entry = true

abbrev pub same_bool : Bool → Bool → Bool
same_bool true b = b
same_bool false b = not b

-- a request that is written is read back
abbrev pub asks_readably : List Entry → Entry → Bool
asks_readably log (entries.Wrote sock end bytes) = not (is_first_of_opener log sock end) || is_some (item_of expected.Request bytes)
asks_readably log entry = true

-- the opener's end of a socket is of a host exactly where its name is no stranger's
abbrev pub is_owned : List Line → WorldSocket → Bool
is_owned journal socket = same_bool (is_of_host socket.o) (not (is_stranger journal socket.name.from))

-- the same of each socket
abbrev pub AllOwned : List Line → World → Type 0
AllOwned journal world = IsTrue (list_all (is_owned journal) world.sockets)

-- the pieces spell items that may follow each other, the first of this kind and all others frames
abbrev pub AreItems : Expected → List (List ℕ) → Type 0
AreItems e pieces = (items : List Item) × (pieces ≡ map item_spelling items) × MayFollow e items

-- an opener's first item is a request from an address that its socket's name stands for
abbrev pub AsksByName : Names → List Entry → Entry → Type 0
AsksByName known log (entries.Wrote sock O bytes) = (length (writings log sock O) == 0) ≡ true → (request : Request) × (bytes ≡ request_spelling request) × (called known request.from ≡ sock.from)
AsksByName known log entry = Unit {0}

-- the same of each entry of the rest of a log
abbrev pub EachAsksByName : Names → List Entry → List Entry → Type 0
EachAsksByName known before [] = Unit {0}
EachAsksByName known before (entry ∷ rest) = AsksByName known before entry × EachAsksByName known (before ++ entry ∷ []) rest

-- the first piece, where there is one, spells a request, and each other a frame that may be read
abbrev pub AsksThenFrames : List (List ℕ) → Type 0
AsksThenFrames [] = Unit {0}
AsksThenFrames (piece ∷ rest) = IsOne expected.Request piece × AreItems expected.Frame rest

-- ---- what is due

-- the kind of what is due
abbrev pub kind_of : Due → Expected
kind_of (Asking end peer) = expected.Request
kind_of Answering = expected.Answer
kind_of Framing = expected.Frame

-- a request may be read from an address, to an endpoint's number of four bytes
abbrev pub MayAsk : (ℕ → Address) → Due → Type 0
MayAsk own (Asking end peer) = (peer.id < 2 ^ 32) × IsAddress (own end)
MayAsk own due = Unit {0}
