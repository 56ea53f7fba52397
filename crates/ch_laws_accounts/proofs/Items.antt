-- Each writing of a node's end is one item: requests too are read back.
use Rattle.std.proofs.Common.{◌≡◌, ℕ, ◌<◌, ◌^◌, Bool, true, false, cond, not, ◌&&◌, ◌||◌, List, [], ◌∷◌, ◌++◌, length, take, Ok, refl, sym, ap, ◌∙◌, subst, arith}
use Rattle.std.proofs.lemmas.List.{take_at}
use Rattle.std.specs.List.{list_all}
use Rattle.std.specs.Prelude.{find, is_some, Some, None, ◌==◌}
use Rattle.ch_base.specs.Addresses.{IsAddress, address_text}
use Rattle.ch_base.specs.declared.address.Address.{Address}
use Rattle.ch_reader.specs.Runs.{IsBytes}
use Rattle.ch_reader.specs.declared.item.Expected.TheVariants as expected
use Rattle.ch_reader.specs.declared.item.Front.{Front}
use Rattle.ch_wire.specs.Spelling.{request_spelling}
use Rattle.ch_wire.specs.Words.{word, word_value}
use Rattle.ch_wire.specs.declared.request.Request.{Request}
use Rattle.ch_model.specs.declared.entry.Entry.{Entry}
use Rattle.ch_model.specs.declared.entry.Entry.TheVariants as entries
use Rattle.ch_model.specs.declared.line.Line.{Line}
use Rattle.ch_model.specs.declared.name.End.TheVariants.{O, T}
use Rattle.ch_model.specs.AccountsBytes.{writes_an_item}
use Rattle.ch_model.specs.AccountsItems.{item_of, item_of_front}
use Rattle.ch_model.specs.Declarations.{is_stranger}
use Rattle.ch_model.specs.Logs.{each, each_after}
use Rattle.ch_model.specs.Naming.{called}
use Rattle.ch_model.specs.Sockets.{writings}
use Rattle.ch_model.specs.World.{names_of, log_of}
use Rattle.ch_model.specs.WorldSockets.{is_socket_named}
use Rattle.ch_model.specs.WorldState.{Named, WorldSocket}
use Rattle.ch_model.specs.declared.name.SockName.{SockName}
use Rattle.ch_laws_log.specs.Declared.{is_declared}
use Rattle.ch_laws_log.proofs.Stored.{Distinct, number_same, self_same, found_before}
use Rattle.ch_laws_bytes.specs.Streams.{AreAddresses}
use Rattle.ch_laws_bytes.proofs.Asked.{may_be_asked}
use Rattle.ch_laws_many.proofs.Addresses.{no_stranger}
use Rattle.ch_laws_many.proofs.Reached.{IsJournal, named}
use Rattle.ch_laws_writes.specs.Dues.{Asking}
use Rattle.ch_laws_writes.specs.Writings.{AsksByName, EachAsksByName, asks_readably, same_bool, is_owned}
use Rattle.ch_laws_writes.proofs.Asked.{log_asks_by_name}
use Rattle.ch_laws_writes.proofs.ReadBack.{IsRead, due_is_read, log_writes_items}
use Rattle.ch_laws_accounts.specs.Openers.{is_of_declared}
use Rattle.ch_laws_accounts.proofs.Told.{AreOf}
use Rattle.ch_laws_accounts.proofs.Openers.{journal_ends}
use Rattle.ch_laws_accounts.proofs.Requests.{word_bytes, spelled_again, not_nobody}

-- ---- a request

below : (bytes : List ℕ) → IsBytes bytes → word_value bytes < 2 ^ 32
below bytes fits = omega (arith, fits 0, fits 1, fits 2, fits 3)

-- the number that a request asks for, as it is read
abbrev asked : Request → ℕ
asked r = word_value (take 4 (request_spelling r))

asked_below : (r : Request) → asked r < 2 ^ 32
asked_below r = subst (λ (bytes : List ℕ). word_value bytes < 2 ^ 32) (sym (take_at (word r.target) (word (length (address_text r.from)) ++ address_text r.from) 4 refl)) (below (word r.target) (word_bytes r.target))

-- from an address it is read
request_read : (r : Request) (bytes : List ℕ) → bytes ≡ request_spelling r → IsAddress r.from → is_some (item_of expected.Request bytes) ≡ true
request_read r bytes is from = ap (λ (f : Front × ℕ). is_some (item_of_front f (length bytes))) read.reads ∙ ap (λ b. is_some (cond b (Some read.item) None)) (number_same (length bytes)) where
  peer : Address
  peer = record { host = []; port = 0; id = asked r }

  read : IsRead expected.Request bytes
  read = due_is_read (λ (end : ℕ). r.from) (Asking 0 peer) bytes (asked_below r, from) (is ∙ sym (spelled_again r))

-- ---- a log

entry_readable : (known : List Named) → AreAddresses known → (is_declared known [] ≡ true → ⊥) → (log : List Entry) (x : Entry) → AsksByName known log x → is_of_declared known x ≡ true → asks_readably log x ≡ true
entry_readable known all nobody log (entries.Wrote sock O bytes) asks of = by_test (length (writings log sock O) == 0) asks where
  some : sock.from ≡ [] → ⊥
  some e = nobody (ap (is_declared known) (sym e) ∙ of)

  by_test : (b : Bool) → (b ≡ true → (request : Request) × (bytes ≡ request_spelling request) × (called known request.from ≡ sock.from)) → (not b || is_some (item_of expected.Request bytes)) ≡ true
  by_test true asks = let r = asks refl in
      request_read r.0 bytes r.1 (may_be_asked (λ (end : ℕ). r.0.from) known (record { from = sock.from; to = sock.from; number = 0 }) all some some 0 r.0.from r.2 r.2).address
  by_test false asks = refl
entry_readable known all nobody log (entries.Wrote sock T bytes) asks of = refl
entry_readable known all nobody log x asks of = refl

each_readable : (known : List Named) → AreAddresses known → (is_declared known [] ≡ true → ⊥) → (before rest : List Entry) → EachAsksByName known before rest → AreOf known rest → each_after asks_readably before rest ≡ true
each_readable known all nobody before [] asks of = refl
each_readable known all nobody before (x ∷ rest) asks of = ap (λ b. b && each_after asks_readably (before ++ x ∷ []) rest) (entry_readable known all nobody before x asks.0 of.0) ∙ each_readable known all nobody (before ++ x ∷ []) rest asks.1 of.1

-- each opener's end is of a host, and no name is a stranger's
all_owned : (journal : List Line) → IsJournal journal → (sockets : List WorldSocket) → Distinct sockets → ((s : SockName) (socket : WorldSocket) → find (is_socket_named s) sockets ≡ Some socket → is_some socket.o.cell ≡ true) → list_all (is_owned journal) sockets ≡ true
all_owned journal j [] d each = refl
all_owned journal j (w ∷ rest) d each = ap (λ b. b && list_all (is_owned journal) rest) one ∙ all_owned journal j rest d.1 (λ s socket f. each s socket (found_before s w rest socket d f)) where
  one : is_owned journal w ≡ true
  one = ap (λ b. same_bool b (not (is_stranger journal w.name.from))) (each w.name w (ap (λ b. cond b (Some w) (find (is_socket_named w.name) rest)) (self_same w.name))) ∙ ap not (no_stranger (names_of journal) journal w.name.from j.lines)

pub all_items : (journal : List Line) → IsJournal journal → AreAddresses (names_of journal) → (log : List Entry) → log_of journal ≡ Ok log → each (writes_an_item journal) log ≡ true
all_items journal j all log is = let ends = journal_ends journal j log is in
    log_writes_items journal journal log ends.world ends.is (all_owned journal j ends.world.sockets ends.here.sure.ends.sorted.0.apart (λ s socket f. (ends.here.set.led s socket f).o))
    (each_readable (names_of journal) all (not_nobody (names_of journal) (named journal j)) [] log (log_asks_by_name journal journal log ends.world ends.is) ends.here.of)
