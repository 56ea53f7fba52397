-- The last feeding of a log, and what is held within it as items are read.
use Rattle.std.proofs.Common.{◌≡◌, ℕ, ◌+◌, ◌-◌, ◌<◌, ◌≤◌, Bool, true, false, cond, ◌&&◌, List, [], ◌∷◌, ◌++◌, length, drop, refl, sym, ap, ◌∙◌, subst, arith}
use Rattle.std.proofs.lemmas.Bool.{or_parts}
use Rattle.std.proofs.lemmas.List.{length-drop}
use Rattle.std.specs.List.{list_any}
use Rattle.std.specs.Prelude.{find, fold, slice_get, Option, Some, None}
use Rattle.ch_reader.specs.Reading.{reading}
use Rattle.ch_reader.specs.declared.item.Expected.{Expected}
use Rattle.ch_reader.specs.declared.item.Expected.TheVariants as expected
use Rattle.ch_reader.specs.declared.item.Front.TheVariants.{Whole}
use Rattle.ch_reader.specs.declared.item.Item.{Item}
use Rattle.ch_reader.proofs.Readings.{reads_within}
use Rattle.ch_model.specs.declared.entry.Entry.{Entry}
use Rattle.ch_model.specs.declared.entry.Entry.TheVariants as entries
use Rattle.ch_model.specs.declared.name.End.{End}
use Rattle.ch_model.specs.declared.name.SockName.{SockName}
use Rattle.ch_model.specs.AccountsMessages.{Feeding, feeding}
use Rattle.ch_model.specs.Host.{is_ready_front, is_ready, lower, first_ready}
use Rattle.ch_model.specs.HostState.{Socket}
use Rattle.ch_model.specs.HostSteps.{is_socket}
use Rattle.ch_model.specs.Logs.{or_else, last_of}
use Rattle.ch_model.specs.Stages.{Stage, Pending, Open, Ended, is_pending, is_open, is_ended}
use Rattle.ch_model.specs.WorldSockets.{end_of}
use Rattle.ch_model.specs.WorldState.{Cell, World}
use Rattle.ch_laws_ends.proofs.Places.{some_is}
use Rattle.ch_laws_reads.specs.Reads.{AreRead}
use Rattle.ch_laws_bytes.specs.Streams.{Reader, reader_in, reader_at, readers_of, first_at, reads_at}
use Rattle.ch_laws_calls.specs.Calls.{AllRead}
use Rattle.ch_laws_risen.proofs.Logs.{is_feeding}
use Rattle.ch_laws_messages.specs.ArrivedFed.{EndsLast, HoldsNone}
use Rattle.ch_laws_messages.proofs.ArrivedFronts.{none_whole}
use Rattle.ch_laws_messages.proofs.ArrivedHolds.{Held, StaysRead, AllHold}

-- ---- the last feeding

abbrev later : Option Feeding → Entry → Option Feeding
later found entry = or_else (feeding entry) found

pub fold_both : {A B : Type 0} (f : B → A → B) (b : B) (xs ys : List A) → fold f b (xs ++ ys) ≡ fold f (fold f b xs) ys
fold_both f b [] ys = refl
fold_both f b (x ∷ xs) ys = fold_both f (f b x) xs ys

quiet_entry : (entry : Entry) → is_feeding entry ≡ false → feeding entry ≡ None
quiet_entry (entries.Fed sock end count) h = absurd cc
quiet_entry entry h = refl

quiet_later : (found : Option Feeding) (told : List Entry) → list_any is_feeding told ≡ false → fold later found told ≡ found
quiet_later found [] h = refl
quiet_later found (entry ∷ told) h = let parts = or_parts (is_feeding entry) (list_any is_feeding told) h in
    ap (λ (o : Option Feeding). fold later (or_else o found) told) (quiet_entry entry parts.0) ∙ quiet_later found told parts.1

-- entries that feed nothing leave it
pub unfed_last : (log told : List Entry) → list_any is_feeding told ≡ false → last_of feeding (log ++ told) ≡ last_of feeding log
unfed_last log told h = fold_both later None log told ∙ quiet_later (last_of feeding log) told h

-- the last entry feeds
pub fed_last : (log : List Entry) (s : SockName) (e : End) (n : ℕ) → last_of feeding (log ++ entries.Fed s e n ∷ []) ≡ Some (record { sock = s; end = e; count = n })
fed_last log s e n = fold_both later None log (entries.Fed s e n ∷ [])

-- ---- what readers hold

pub last_as : (one two : List Entry) (s : SockName) (e : End) (reader : Reader) → last_of feeding two ≡ last_of feeding one → EndsLast one s e reader → EndsLast two s e reader
last_as one two s e reader same h item w = let f = h item w in record { last = f.last; is = same ∙ f.is; sock = f.sock; end = f.end; past = f.past }

-- of what is left, once an item was taken
less_left : (held n m count : ℕ) → n ≤ held → held < n + count → held - n < m + count
less_left held n m count le lt = omega arith

last_reads : (log : List Entry) (s : SockName) (e : End) (a b : Expected) (bytes left : List ℕ) (items : List Item) → AreRead a bytes items b left → EndsLast log s e (a, bytes) → EndsLast log s e (b, left)
last_reads log s e a b bytes left [] r h = subst (λ (k : Expected). EndsLast log s e (k, left)) (sym r.0) (subst (λ (l : List ℕ). EndsLast log s e (a, l)) (sym r.1) h)
last_reads log s e a b bytes left (first ∷ items) r h = last_reads log s e expected.Frame b (drop (reading a bytes).1 bytes) left items r.1 (λ item w. let f = h first r.0 in record {
  last = f.last;
  is = f.is;
  sock = f.sock;
  end = f.end;
  past = subst (λ (n : ℕ). n < (reading expected.Frame (drop (reading a bytes).1 bytes)).1 + f.last.count) (sym (length-drop (reading a bytes).1 bytes)) (less_left (length bytes) (reading a bytes).1 (reading expected.Frame (drop (reading a bytes).1 bytes)).1 f.last.count (reads_within a bytes) f.past);
})

none_of : {A : Type 0} → ⊥ → A
none_of h = absurd h

pub last_stays : (log : List Entry) → StaysRead (EndsLast log)
last_stays log = record { fresh = λ s e k item w. none_of (none_whole k item w); reads = last_reads log }

-- no item stands whole
abbrev pub NoneWhole : Held
NoneWhole s e reader = (item : Item) → (reading reader.0 reader.1).0 ≡ Whole item → ⊥

none_reads : (s : SockName) (e : End) (a b : Expected) (bytes left : List ℕ) (items : List Item) → AreRead a bytes items b left → NoneWhole s e (a, bytes) → NoneWhole s e (b, left)
none_reads s e a b bytes left [] r h = subst (λ (k : Expected). NoneWhole s e (k, left)) (sym r.0) (subst (λ (l : List ℕ). NoneWhole s e (a, l)) (sym r.1) h)
none_reads s e a b bytes left (first ∷ items) r h = absurd (h first r.0)

pub none_stays : StaysRead NoneWhole
none_stays = record { fresh = λ s e k item w. none_whole k item w; reads = none_reads }

-- ---- where all is read

given : (first known : Socket) → ◌≡◌ {A = Option Socket} (Some first) (Some known) → first ≡ known
given first known e = cc

-- where nothing is ready, a record isn't
unready : (p : Socket → Bool) (all : List Socket) (known : Socket) → first_ready all ≡ None → find p all ≡ Some known → is_ready known ≡ false
unready p [] known none h = absurd cc
unready p (first ∷ rest) known none h = by_ready (is_ready first) refl none (p first) h (unready p rest known) where
  by_own : (b : Bool) → is_ready first ≡ false → first_ready rest ≡ None → cond b (Some first) (find p rest) ≡ Some known → (first_ready rest ≡ None → find p rest ≡ Some known → is_ready known ≡ false) → is_ready known ≡ false
  by_own true off none h more = ap is_ready (sym (given first known h)) ∙ off
  by_own false off none h more = more none h

  by_ready : (r : Bool) → is_ready first ≡ r → cond r (Some (lower first (first_ready rest))) (first_ready rest) ≡ None → (b : Bool) → cond b (Some first) (find p rest) ≡ Some known → (first_ready rest ≡ None → find p rest ≡ Some known → is_ready known ≡ false) → is_ready known ≡ false
  by_ready true is none b h more = absurd cc
  by_ready false is none b h more = by_own b is none h more

-- no item of a host's record stands whole
record_none : (s : SockName) (e : End) (known : Socket) (stage : Stage) → known.stage ≡ stage → is_ready known ≡ false → (is_pending known.stage ≡ true → known.since ≡ []) → (reader : Reader) → cond (is_ended stage) None (Some (known.expected, known.since)) ≡ Some reader → NoneWhole s e reader
record_none s e known Ended at off empty reader r = absurd cc
record_none s e known Pending at off empty reader r = subst (NoneWhole s e) (some_is (known.expected, known.since) reader r) (subst (λ (l : List ℕ). NoneWhole s e (known.expected, l)) (sym (empty (ap is_pending at))) (none_whole known.expected))
record_none s e known Open at off empty reader r = subst (NoneWhole s e) (some_is (known.expected, known.since) reader r) (λ item w. clash (sym (ap (λ (k : Stage). is_open k && is_ready_front (reading known.expected known.since).0) at ∙ ap is_ready_front w) ∙ off)) where
  clash : true ≡ false → ⊥
  clash h = cc

pub none_at_all : (world : World) → AllRead world → HoldsNone world.cells → AllHold NoneWhole (readers_of world.cells) world.sockets
none_at_all world read empty s socket found e reader r = by_end (end_of e socket).cell (end_of e socket).number r where
  by_known : (place n : ℕ) (cell : Cell × ℕ) → slice_get world.cells place ≡ Some cell → (o : Option Socket) → find (is_socket n) cell.0.host.sockets ≡ o → reader_in o ≡ Some reader → NoneWhole socket.name e reader
  by_known place n cell at None f r = absurd cc
  by_known place n cell at (Some known) f r = record_none socket.name e known known.stage refl (unready (is_socket n) cell.0.host.sockets known (read place cell at) f) (empty place cell n known at f) reader r

  by_cell : (place n : ℕ) (o : Option (Cell × ℕ)) → slice_get world.cells place ≡ o → reader_at o n ≡ Some reader → NoneWhole socket.name e reader
  by_cell place n None at r = absurd cc
  by_cell place n (Some cell) at r = by_known place n cell at (find (is_socket n) cell.0.host.sockets) refl r

  by_end : (c m : Option ℕ) → reads_at (readers_of world.cells) (first_at e) c m ≡ Some reader → NoneWhole socket.name e reader
  by_end None m r = absurd cc
  by_end (Some p) None r = subst (NoneWhole socket.name e) (some_is (first_at e, []) reader r) (none_whole (first_at e))
  by_end (Some p) (Some n) r = by_cell p n (slice_get world.cells p) refl r
