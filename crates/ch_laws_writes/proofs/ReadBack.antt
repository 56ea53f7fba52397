-- What is due may be read, and what was written is read back.
use Rattle.std.proofs.Common.{◌≡◌, ℕ, Bool, true, false, cond, ◌||◌, ◌&&◌, List, [], ◌∷◌, ◌++◌, length, map, append_assoc, Ok, refl, sym, ap, ◌∙◌, subst, arith}
use Rattle.std.proofs.lemmas.Bool.{and_parts}
use Rattle.std.proofs.lemmas.Bool.Decides.{nat_tests}
use Rattle.std.proofs.lemmas.List.{append-nil, map-append}
use Rattle.std.specs.Prelude.{not, find, is_some, Option, Some, None, ◌==◌, IsTrue}
use Rattle.ch_base.specs.declared.address.Address.{Address}
use Rattle.ch_reader.specs.Items.{item_spelling, Spells, MayStand, MayFollow, expected_after}
use Rattle.ch_reader.specs.Reading.{reading}
use Rattle.ch_reader.specs.declared.item.Expected.{Expected}
use Rattle.ch_reader.specs.declared.item.Expected.TheVariants as expected
use Rattle.ch_reader.specs.declared.item.Front.{Front}
use Rattle.ch_reader.specs.declared.item.Front.TheVariants.{Whole}
use Rattle.ch_reader.specs.declared.item.Item.{Item}
use Rattle.ch_reader.specs.declared.item.Item.TheVariants as items
use Rattle.ch_reader.proofs.Complete.{reads_item}
use Rattle.ch_model.specs.declared.entry.Entry.{Entry}
use Rattle.ch_model.specs.declared.entry.Entry.TheVariants as entries
use Rattle.ch_model.specs.declared.line.Line.{Line}
use Rattle.ch_model.specs.declared.name.End.{End}
use Rattle.ch_model.specs.declared.name.End.TheVariants.{O, T}
use Rattle.ch_model.specs.declared.name.SockName.{SockName}
use Rattle.ch_model.specs.AccountsBytes.{writes_after_accepting, writes_an_item}
use Rattle.ch_model.specs.Declarations.{is_stranger}
use Rattle.ch_model.specs.WorldSockets.{is_of_host, is_socket_named}
use Rattle.ch_model.specs.AccountsItems.{item_of_front, item_of, expected_next}
use Rattle.ch_model.specs.Logs.{each_after, each}
use Rattle.ch_model.specs.Same.{same_socket, same_end}
use Rattle.ch_model.specs.Sockets.{writing, writings}
use Rattle.ch_model.specs.World.{world_new, log_from}
use Rattle.ch_model.specs.WorldState.{WorldSocket, World}
use Rattle.ch_laws_writes.specs.Dues.{Due, Asking, Answering, Framing, IsDue}
use Rattle.ch_laws_writes.specs.Writings.{IsOne, WritesOne, EachWritesOne, reads_back, asks_readably, same_bool, is_owned, AllOwned, AreItems, AsksThenFrames, kind_of, MayAsk}
use Rattle.ch_laws_writes.proofs.Logs.{Written, written_after}
use Rattle.ch_laws_writes.proofs.Worlds.{number_same}
use Rattle.ch_laws_writes.proofs.Written.{wrote_more, wrote_here, wrote_other}
use Rattle.ch_laws_log.proofs.Stored.{same_is, self_same, find_name}
use Rattle.std.specs.List.{cons_option, list_all}

-- ---- what is due may be read

-- an item that may stand there is read whole, of its bytes alone
alone : (e : Expected) (item : Item) → MayStand e item → reading e (item_spelling item) ≡ (Whole item, length (item_spelling item))
alone e item m = ap (reading e) (sym (append-nil (item_spelling item))) ∙ reads_item e item [] m

-- the item that bytes spell, which are read as it
pub record IsRead (e : Expected) (bytes : List ℕ) : Type 0 where
  pub item : Item
  pub spells : Spells item bytes
  pub stands : MayStand e item
  pub reads : reading e bytes ≡ (Whole item, length bytes)

read_as : (e : Expected) (item : Item) (bytes : List ℕ) → Spells item bytes → MayStand e item → IsRead e bytes
read_as e item bytes s m = record { item = item; spells = s; stands = m; reads = subst (λ (l : List ℕ). reading e l ≡ (Whole item, length l)) (sym s) (alone e item m) }

pub due_is_read : (own : ℕ → Address) (due : Due) (bytes : List ℕ) → MayAsk own due → IsDue own (Some due) bytes → IsRead (kind_of due) bytes
due_is_read own (Asking end peer) bytes m d = read_as expected.Request (items.Request (record { target = peer.id; from = own end })) bytes d (record { target = m.0; address = m.1 })
due_is_read own Answering bytes m d = read_as expected.Answer (items.Answer d.0) bytes d.1 tt
due_is_read own Framing bytes m d = read_as expected.Frame (items.Frame d.0) bytes d.2 d.1

pub due_may_stand : (own : ℕ → Address) (due : Due) (bytes : List ℕ) → MayAsk own due → IsDue own (Some due) bytes → (item : Item) × MayStand (kind_of due) item × Spells item bytes × (reading (kind_of due) bytes ≡ (Whole item, length bytes))
due_may_stand own due bytes m d = let r = due_is_read own due bytes m d in (r.item, r.stands, r.spells, r.reads)

-- ---- a log

-- an item is found where one is read
found_item : (e : Expected) (bytes : List ℕ) → IsRead e bytes → is_some (item_of e bytes) ≡ true
found_item e bytes r = ap (λ (f : Front × ℕ). is_some (item_of_front f (length bytes))) r.reads ∙ ap (λ b. is_some (cond b (Some r.item) None)) (number_same (length bytes))

answer_read : (bytes : List ℕ) → IsOne expected.Answer bytes → IsRead expected.Answer bytes
answer_read bytes o = read_as expected.Answer (items.Answer o.0) bytes o.1 tt

frame_read : (bytes : List ℕ) → IsOne expected.Frame bytes → IsRead expected.Frame bytes
frame_read bytes o = read_as expected.Frame (items.Frame o.0) bytes o.2 o.1

entry_reads_back : (log : List Entry) (x : Entry) → WritesOne log x → reads_back log x ≡ true
entry_reads_back log (entries.Wrote sock O bytes) w = by_test (length (writings log sock O) == 0) w where
  by_test : (b : Bool) → IsOne (cond b expected.Request expected.Frame) bytes → (b || is_some (item_of (cond b expected.Request expected.Frame) bytes)) ≡ true
  by_test true o = refl
  by_test false o = found_item expected.Frame bytes (frame_read bytes o)
entry_reads_back log (entries.Wrote sock T bytes) w = by_test (length (writings log sock T) == 0) w where
  by_test : (b : Bool) → IsOne (cond b expected.Answer expected.Frame) bytes → is_some (item_of (cond b expected.Answer expected.Frame) bytes) ≡ true
  by_test true o = found_item expected.Answer bytes (answer_read bytes o)
  by_test false o = found_item expected.Frame bytes (frame_read bytes o)
entry_reads_back log x w = refl

each_reads_back : (before rest : List Entry) → EachWritesOne before rest → each_after reads_back before rest ≡ true
each_reads_back before [] w = refl
each_reads_back before (x ∷ rest) w = ap (λ b. b && each_after reads_back (before ++ x ∷ []) rest) (entry_reads_back before x w.0) ∙ each_reads_back (before ++ x ∷ []) rest w.1

pub log_items : (journal lines : List Line) (log : List Entry) (world : World) → log_from (world_new journal) lines ≡ Ok (log, world) → EachWritesOne [] log
log_items journal lines log world is = (written_after journal lines log world is).fits.spelled

pub log_reads_back : (journal lines : List Line) (log : List Entry) (world : World) → log_from (world_new journal) lines ≡ Ok (log, world) → IsTrue (each reads_back log)
log_reads_back journal lines log world is = each_reads_back [] log (log_items journal lines log world is)

pub log_accepting : (journal lines : List Line) (log : List Entry) (world : World) → log_from (world_new journal) lines ≡ Ok (log, world) → IsTrue (each writes_after_accepting log)
log_accepting journal lines log world is = (written_after journal lines log world is).fits.accepting

-- ---- all that an end wrote

-- one more item may follow
follow_more : (e : Expected) (items : List Item) (item : Item) → MayFollow e items → MayStand (expected_after e items) item → MayFollow e (items ++ item ∷ [])
follow_more e [] item f m = (m, tt)
follow_more e (first ∷ rest) item f m = (f.0, follow_more expected.Frame rest item f.1 (by_rest rest m)) where
  by_rest : (rest : List Item) → MayStand expected.Frame item → MayStand (expected_after expected.Frame rest) item
  by_rest [] m = m
  by_rest (next ∷ more) m = m

one_more : (e : Expected) (pieces : List (List ℕ)) (bytes : List ℕ) → AreItems e pieces → IsRead (cond (length pieces == 0) e expected.Frame) bytes → AreItems e (pieces ++ bytes ∷ [])
one_more e pieces bytes a r = (a.0 ++ r.item ∷ [], ap (λ l. l ++ bytes ∷ []) a.1 ∙ ap (λ l. map item_spelling a.0 ++ l ∷ []) r.spells ∙ sym (map-append item_spelling a.0 (r.item ∷ [])), follow_more e a.0 r.item a.2 (by_items a.0 (subst (λ (l : List (List ℕ)). MayStand (cond (length l == 0) e expected.Frame) r.item) a.1 r.stands))) where
  not_empty : (spelling : List ℕ) (rest : List (List ℕ)) → (length (spelling ∷ rest) == 0) ≡ false
  not_empty spelling rest = grind (arith, nat_tests)

  by_items : (items : List Item) → MayStand (cond (length (map item_spelling items) == 0) e expected.Frame) r.item → MayStand (expected_after e items) r.item
  by_items [] m = m
  by_items (first ∷ rest) m = subst (λ (b : Bool). MayStand (cond b e expected.Frame) r.item) (not_empty (item_spelling first) (map item_spelling rest)) m

-- what each entry adds
stream_after : (P : List (List ℕ) → Type 0) (s : SockName) (e : End) → ((log : List Entry) (bytes : List ℕ) → WritesOne log (entries.Wrote s e bytes) → P (writings log s e) → P (writings log s e ++ bytes ∷ [])) → (before rest : List Entry) → EachWritesOne before rest → P (writings before s e) → P (writings (before ++ rest) s e)
stream_after P s e more before [] w p = subst (λ (l : List Entry). P (writings l s e)) (sym (append-nil before)) p
stream_after P s e more before (x ∷ rest) w p = subst (λ (l : List Entry). P (writings l s e)) (append_assoc before (x ∷ []) rest) (stream_after P s e more (before ++ x ∷ []) rest w.1 (by_entry x w.0)) where
  same_end_is : (a b : End) → same_end a b ≡ true → a ≡ b
  same_end_is O O e = refl
  same_end_is T T e = refl
  same_end_is O T e = absurd cc
  same_end_is T O e = absurd cc

  by_test : (sock : SockName) (end : End) (bytes : List ℕ) → WritesOne before (entries.Wrote sock end bytes) → (b : Bool) → (same_socket sock s && same_end end e) ≡ b → P (writings (before ++ entries.Wrote sock end bytes ∷ []) s e)
  by_test sock end bytes o true h = let parts = and_parts (same_socket sock s) (same_end end e) h in
      let name : sock ≡ s = same_is sock s parts.0 in
      let which : end ≡ e = same_end_is end e parts.1 in
      subst (λ (n : SockName). P (writings (before ++ entries.Wrote n end bytes ∷ []) s e)) (sym name) (subst (λ (z : End). P (writings (before ++ entries.Wrote s z bytes ∷ []) s e)) (sym which) (subst P (sym (wrote_here before s e bytes))
      (more before bytes (subst (λ (z : End). WritesOne before (entries.Wrote s z bytes)) which (subst (λ (n : SockName). WritesOne before (entries.Wrote n end bytes)) name o)) p)))
  by_test sock end bytes o false h = subst P (sym (wrote_other before sock end bytes s e h)) p

  quiet : (x : Entry) → writing s e x ≡ None → P (writings (before ++ x ∷ []) s e)
  quiet x none = subst P (sym (wrote_more before x s e none)) p

  by_entry : (x : Entry) → WritesOne before x → P (writings (before ++ x ∷ []) s e)
  by_entry (entries.Wrote sock end bytes) o = by_test sock end bytes o (same_socket sock s && same_end end e) refl
  by_entry x o = quiet x refl

pub target_items : (journal lines : List Line) (log : List Entry) (world : World) (s : SockName) → log_from (world_new journal) lines ≡ Ok (log, world) → AreItems expected.Answer (writings log s T)
target_items journal lines log world s is = stream_after (AreItems expected.Answer) s T adds [] log (log_items journal lines log world is) ([], refl, tt) where
  read : (b : Bool) (bytes : List ℕ) → IsOne (cond b expected.Answer expected.Frame) bytes → IsRead (cond b expected.Answer expected.Frame) bytes
  read true bytes o = answer_read bytes o
  read false bytes o = frame_read bytes o

  adds : (before : List Entry) (bytes : List ℕ) → WritesOne before (entries.Wrote s T bytes) → AreItems expected.Answer (writings before s T) → AreItems expected.Answer (writings before s T ++ bytes ∷ [])
  adds before bytes o a = one_more expected.Answer (writings before s T) bytes a (read (length (writings before s T) == 0) bytes o)

pub opener_frames : (journal lines : List Line) (log : List Entry) (world : World) (s : SockName) → log_from (world_new journal) lines ≡ Ok (log, world) → AsksThenFrames (writings log s O)
opener_frames journal lines log world s is = stream_after AsksThenFrames s O (λ before bytes o a. adds (writings before s O) bytes o a) [] log (log_items journal lines log world is) tt where
  not_empty : (piece : List ℕ) (rest : List (List ℕ)) → (length (piece ∷ rest) == 0) ≡ false
  not_empty piece rest = grind (arith, nat_tests)

  frame : (b : Bool) (bytes : List ℕ) → IsRead expected.Frame bytes → IsRead (cond b expected.Frame expected.Frame) bytes
  frame true bytes r = r
  frame false bytes r = r

  adds : (pieces : List (List ℕ)) (bytes : List ℕ) → IsOne (cond (length pieces == 0) expected.Request expected.Frame) bytes → AsksThenFrames pieces → AsksThenFrames (pieces ++ bytes ∷ [])
  adds [] bytes o a = (o, ([], refl, tt))
  adds (piece ∷ rest) bytes o a = (a.0, one_more expected.Frame rest bytes a.1 (frame (length rest == 0) bytes (frame_read bytes (subst (λ (b : Bool). IsOne (cond b expected.Request expected.Frame) bytes) (not_empty piece rest) o))))

-- ---- nodes' ends alone

-- each opener's end that writes is no stranger's
abbrev AllNodes : List Line → List Entry → Type 0
AllNodes journal [] = Unit {0}
AllNodes journal (entries.Wrote sock O bytes ∷ rest) = (is_stranger journal sock.from ≡ false) × AllNodes journal rest
AllNodes journal (x ∷ rest) = AllNodes journal rest

none_later : (s : SockName) (x : Entry) (rest : List Entry) → writings (x ∷ rest) s O ≡ [] → writings rest s O ≡ []
none_later s x rest e = by_one (writing s O x) e where
  by_one : (o : Option (List ℕ)) → cons_option o (writings rest s O) ≡ [] → writings rest s O ≡ []
  by_one None e = e
  by_one (Some piece) e = absurd cc

all_nodes : (journal : List Line) (log : List Entry) → ((s : SockName) → is_stranger journal s.from ≡ true → writings log s O ≡ []) → AllNodes journal log
all_nodes journal [] n = tt
all_nodes journal (entries.Wrote sock O bytes ∷ rest) n = (by_test (is_stranger journal sock.from) refl, all_nodes journal rest (λ s e. none_later s (entries.Wrote sock O bytes) rest (n s e))) where
  wrote : writing sock O (entries.Wrote sock O bytes) ≡ Some bytes
  wrote = ap (λ b. cond (b && true) (Some bytes) None) (self_same sock)

  by_test : (b : Bool) → is_stranger journal sock.from ≡ b → b ≡ false
  by_test true h = let no : bytes ∷ writings rest sock O ≡ [] = sym (ap (λ (o : Option (List ℕ)). cons_option o (writings rest sock O)) wrote) ∙ n sock h in absurd cc
  by_test false h = refl
all_nodes journal (x ∷ rest) n = all_nodes journal rest (λ s e. none_later s x rest (n s e))

-- what all sockets pass each that is found does
all_found : (journal : List Line) (s : SockName) (sockets : List WorldSocket) (socket : WorldSocket) → list_all (is_owned journal) sockets ≡ true → find (is_socket_named s) sockets ≡ Some socket → is_owned journal socket ≡ true
all_found journal s [] socket a e = absurd cc
all_found journal s (known ∷ rest) socket a e = by_test (is_socket_named s known) e (all_found journal s rest socket parts.1) where
  parts : (is_owned journal known ≡ true) × (list_all (is_owned journal) rest ≡ true)
  parts = and_parts (is_owned journal known) (list_all (is_owned journal) rest) a

  by_test : (b : Bool) → cond b (Some known) (find (is_socket_named s) rest) ≡ Some socket → (find (is_socket_named s) rest ≡ Some socket → is_owned journal socket ≡ true) → is_owned journal socket ≡ true
  by_test true e more = let is : known ≡ socket = cc in subst (λ (w : WorldSocket). is_owned journal w ≡ true) is parts.0
  by_test false e more = more e

same_is_bool : (a b : Bool) → same_bool a b ≡ true → a ≡ b
same_is_bool true b e = sym e
same_is_bool false true e = absurd cc
same_is_bool false false e = refl

no_strangers : (journal : List Line) (log : List Entry) (world : World) → Written journal log world → AllOwned journal world → (s : SockName) → is_stranger journal s.from ≡ true → writings log s O ≡ []
no_strangers journal log world w owned s strange = by_socket (find (is_socket_named s) world.sockets) refl where
  no_cell : (o : Option ℕ) → is_some o ≡ false → o ≡ None
  no_cell None e = refl
  no_cell (Some place) e = absurd cc

  by_socket : (o : Option WorldSocket) → find (is_socket_named s) world.sockets ≡ o → writings log s O ≡ []
  by_socket None e = w.fits.unopened s O e
  by_socket (Some socket) e = w.fits.unowned s O socket e (no_cell socket.o.cell (same_is_bool (is_of_host socket.o) (not (is_stranger journal socket.name.from)) (all_found journal s world.sockets socket owned e) ∙ ap (λ (n : SockName). not (is_stranger journal n.from)) (find_name s world.sockets socket e) ∙ ap not strange))

request_or : (b c : Bool) → (not b || c) ≡ true → b ≡ true → c ≡ true
request_or true c e h = e
request_or false c e h = absurd cc

each_item : (journal : List Line) (before rest : List Entry) → EachWritesOne before rest → AllNodes journal rest → each_after asks_readably before rest ≡ true → each_after (writes_an_item journal) before rest ≡ true
each_item journal before [] w n a = refl
each_item journal before (entries.Wrote sock O bytes ∷ rest) w n a =
    let parts = and_parts (asks_readably before (entries.Wrote sock O bytes)) (each_after asks_readably (before ++ entries.Wrote sock O bytes ∷ []) rest) a in
    ap (λ b. (not b && is_some (item_of (expected_next before sock O) bytes)) && each_after (writes_an_item journal) (before ++ entries.Wrote sock O bytes ∷ []) rest) n.0
    ∙ ap (λ b. b && each_after (writes_an_item journal) (before ++ entries.Wrote sock O bytes ∷ []) rest) (by_test (length (writings before sock O) == 0) w.0 parts.0)
    ∙ each_item journal (before ++ entries.Wrote sock O bytes ∷ []) rest w.1 n.1 parts.1 where
      by_test : (b : Bool) → IsOne (cond b expected.Request expected.Frame) bytes → (not b || is_some (item_of expected.Request bytes)) ≡ true → is_some (item_of (cond b expected.Request expected.Frame) bytes) ≡ true
      by_test true o q = q
      by_test false o q = found_item expected.Frame bytes (frame_read bytes o)
each_item journal before (entries.Wrote sock T bytes ∷ rest) w n a =
    let parts = and_parts (asks_readably before (entries.Wrote sock T bytes)) (each_after asks_readably (before ++ entries.Wrote sock T bytes ∷ []) rest) a in
    ap (λ b. b && each_after (writes_an_item journal) (before ++ entries.Wrote sock T bytes ∷ []) rest) (entry_reads_back before (entries.Wrote sock T bytes) w.0)
    ∙ each_item journal (before ++ entries.Wrote sock T bytes ∷ []) rest w.1 n parts.1
each_item journal before (x ∷ rest) w n a = each_item journal (before ++ x ∷ []) rest w.1 n a

pub log_writes_items : (journal lines : List Line) (log : List Entry) (world : World) → log_from (world_new journal) lines ≡ Ok (log, world) → AllOwned journal world → IsTrue (each asks_readably log) → IsTrue (each (writes_an_item journal) log)
log_writes_items journal lines log world is owned asks = let w : Written journal log world = written_after journal lines log world is in each_item journal [] log w.fits.spelled (all_nodes journal log (no_strangers journal log world w owned)) asks
