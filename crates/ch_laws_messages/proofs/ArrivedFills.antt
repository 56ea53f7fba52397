-- What was written towards an end by its bytes: as many as were fed, and those that are unread.
use Rattle.std.proofs.Common.{◌≡◌, ℕ, ◌+◌, Bool, true, false, cond, ◌&&◌, ◌||◌, List, [], ◌∷◌, ◌++◌, length, refl, sym, ap, ◌∙◌, arith}
use Rattle.std.proofs.lemmas.Bool.{and_parts}
use Rattle.std.proofs.lemmas.List.{length-append}
use Rattle.std.specs.List.{list_any, cons_option}
use Rattle.std.specs.Option.{option_map}
use Rattle.std.specs.Prelude.{is_some, Option, Some, None}
use Rattle.ch_base.specs.declared.address.Address.{Address}
use Rattle.ch_wire.specs.Spelling.{IsFrame, frame_spelling}
use Rattle.ch_wire.specs.declared.frame.Frame.{Frame}
use Rattle.ch_wire.specs.declared.frame.Frame.TheVariants as frames
use Rattle.ch_reader.specs.Items.{item_spelling, spellings, MayFollow}
use Rattle.ch_reader.specs.declared.item.Expected.TheVariants as expected
use Rattle.ch_reader.specs.declared.item.Item.TheVariants as items
use Rattle.ch_model.specs.declared.entry.Entry.{Entry}
use Rattle.ch_model.specs.declared.entry.Entry.TheVariants as entries
use Rattle.ch_model.specs.declared.line.Line.{Line}
use Rattle.ch_model.specs.declared.line.What.TheVariants as lines
use Rattle.ch_model.specs.declared.name.End.{End}
use Rattle.ch_model.specs.declared.name.End.TheVariants.{O, T}
use Rattle.ch_model.specs.declared.name.SockName.{SockName}
use Rattle.ch_model.specs.AccountsItems.{data_of}
use Rattle.ch_model.specs.AnswersEntries.{refuses}
use Rattle.ch_model.specs.Declarations.{Peer, has_host, is_hosted_by}
use Rattle.ch_model.specs.Logs.{some_and, or_else}
use Rattle.ch_model.specs.Same.{same_socket, same_end, across}
use Rattle.ch_model.specs.Sockets.{puts, written, fed, writing, writings}
use Rattle.ch_model.specs.WorldSockets.{end_of}
use Rattle.ch_model.specs.WorldState.{WorldSocket, World}
use Rattle.ch_model.specs.Stages.{is_ended}
use Rattle.ch_laws_log.proofs.Agreeing.{Good}
use Rattle.ch_laws_log.proofs.Seen.{written_is, fed_is, refused_is, HasFront, UnreadIs}
use Rattle.ch_laws_log.proofs.Stored.{bytes_same}
use Rattle.ch_laws_log.proofs.Told.{fits_after}
use Rattle.ch_laws_log.proofs.Views.{SeenEnd, seen_in, end_seen}
use Rattle.ch_laws_bytes.specs.Streams.{is_over}
use Rattle.ch_laws_calls.specs.Calls.{IsIn}
use Rattle.ch_laws_calls.specs.Sound.{SoundEnds}
use Rattle.ch_laws_plain_logs.specs.Plain.{is_plain, IsPlain}
use Rattle.ch_laws_peers.specs.Words.{words_in, datas_in}
use Rattle.ch_laws_peers.specs.Reads.{PlacedItem, items_in, spelled_in, placed_in}
use Rattle.ch_laws_messages.specs.CarriedCounts.{data_in}
use Rattle.ch_laws_messages.proofs.ArrivedEnding.{total, datas_of}
use Rattle.ch_laws_messages.proofs.SaidWritten.{frame_read}

-- ---- pieces and items

pub total_both : (xs ys : List (List ℕ)) → total (xs ++ ys) ≡ total xs + total ys
total_both [] ys = sym (zero_first (total ys)) where
  zero_first : (n : ℕ) → 0 + n ≡ n
  zero_first n = omega arith
total_both (piece ∷ xs) ys = ap (λ (n : ℕ). length piece + n) (total_both xs ys) ∙ both (length piece) (total xs) (total ys) where
  both : (a b c : ℕ) → a + (b + c) ≡ (a + b) + c
  both a b c = omega arith

pub total_spelled : (all : List PlacedItem) → total (spelled_in all) ≡ length (spellings (items_in all))
total_spelled [] = refl
total_spelled (one ∷ rest) = ap (λ (n : ℕ). length (item_spelling one.0) + n) (total_spelled rest) ∙ sym (length-append (item_spelling one.0) (spellings (items_in rest)))

-- a frame's payload is read back from its bytes
pub data_read : (frame : Frame) → IsFrame frame → data_in (frame_spelling frame) ≡ data_of frame
data_read frame is = ap (λ (o : Option Frame). elim o as (λ o. Option (ℕ × List ℕ)) [
  | None ↦ None
  | Some f ↦ data_of f
]) (frame_read frame is)

-- those of frames are the payloads that have places
pub datas_read : (all : List PlacedItem) → MayFollow expected.Frame (items_in all) → datas_of (spelled_in all) ≡ datas_in (words_in (placed_in all))
datas_read [] m = refl
datas_read ((items.Frame frame, place) ∷ rest) m = ap (λ (o : Option (ℕ × List ℕ)). cons_option o (datas_of (spelled_in rest))) (data_read frame m.0) ∙ by_frame frame (datas_read rest m.1) where
  by_frame : (frame : Frame) → datas_of (spelled_in rest) ≡ datas_in (words_in (placed_in rest)) → cons_option (data_of frame) (datas_of (spelled_in rest)) ≡ datas_in (words_in ((frame, place) ∷ placed_in rest))
  by_frame (frames.Data id payload) same = ap (λ (l : List (ℕ × List ℕ)). (id, payload) ∷ l) same
  by_frame (frames.Created id) same = same
  by_frame (frames.Closed id) same = same
  by_frame frames.EndClosed same = same
  by_frame frames.Probe same = same
  by_frame frames.ProbeAck same = same
datas_read ((items.Request request, place) ∷ rest) m = absurd m.0
datas_read ((items.Answer answer, place) ∷ rest) m = absurd m.0

-- ---- what was written

pub twice : (e : End) → across (across e) ≡ e
twice O = refl
twice T = refl

-- one entry puts as many bytes on the way as the item that is written by it has
one_total : (s : SockName) (e : End) (x : Entry) (rest : List (List ℕ)) → is_plain x ≡ true → length (puts s (across e) x) + total rest ≡ total (cons_option (writing s e x) rest)
one_total s e (entries.Wrote sock end bytes) rest plain = ap (λ (k : End). length (cond (same_socket sock s && same_end end k) bytes []) + total rest) (twice e) ∙ by_test (same_socket sock s && same_end end e) where
  zero_first : (n : ℕ) → 0 + n ≡ n
  zero_first n = omega arith

  by_test : (b : Bool) → length (cond b bytes []) + total rest ≡ total (cons_option (cond b (Some bytes) None) rest)
  by_test true = refl
  by_test false = zero_first (total rest)
one_total s e (entries.Poked sock bytes) rest plain = absurd cc
one_total s e x rest plain = zero_first (total rest) where
  zero_first : (n : ℕ) → 0 + n ≡ n
  zero_first n = omega arith

-- in a plain log all that is on the way to an end is the items that the other end wrote
pub written_total : (log : List Entry) (s : SockName) (e : End) → IsPlain log → length (written log s (across e)) ≡ total (writings log s e)
written_total [] s e plain = refl
written_total (x ∷ log) s e plain = let parts = and_parts (is_plain x) _ plain in
    length-append (puts s (across e) x) (written log s (across e)) ∙ ap (λ (n : ℕ). length (puts s (across e) x) + n) (written_total log s e parts.1) ∙ one_total s e x (writings log s e) parts.0

-- ---- what is unread

-- a journal that declares a node of this name alone
abbrev the_peer : Peer
the_peer = record { address = record { host = []; port = 0; id = 0 }; unique = 0; is_node = true }

abbrev hosting : List ℕ → List Line
hosting name = record { number = 0; what = lines.Node name (record { host = []; port = 0; id = 0 }) 0 } ∷ []

hosted : (name : List ℕ) → has_host (hosting name) name ≡ true
hosted name = ap (λ b. some_and (λ (at : Address). list_any (λ (line : Line). is_hosted_by at line.what) (hosting name)) (option_map (λ (p : Peer). p.address) (or_else (cond b (Some the_peer) None) None))) (bytes_same name)

first_false : (a b : Bool) → (a || b) ≡ false → a ≡ false
first_false true b h = absurd cc
first_false false b h = refl

live_front : (seen : SeenEnd) (left : List ℕ) (over : Bool) → over ≡ false → UnreadIs over seen left → HasFront seen left
live_front seen left true e u = absurd cc
live_front seen left false e u = u

has_front : (journal : List Line) (log : List Entry) (world : World) (socket : WorldSocket) (e : End) (place : ℕ) → IsIn socket world → is_over (end_of e socket) ≡ false → (end_of e socket).cell ≡ Some place
    → SoundEnds journal log world → ((other : List Line) → Good other log world) → HasFront (end_seen e (seen_in log socket.name)) (end_of e socket).unread
has_front journal log world socket O place is live at s good = live_front (seen_in log socket.name).o socket.o.unread (is_over socket.o) live ((fits_after journal log world socket.name socket (good journal) is).of_opener (refused_is log socket.name ∙ by_refused (list_any (refuses socket.name) log) refl)).left where
  by_refused : (r : Bool) → list_any (refuses socket.name) log ≡ r → r ≡ false
  by_refused false e = refl
  by_refused true e = let over : is_ended socket.o.stage ≡ true = s.sure.over.have_ended socket.name socket e is in let none : is_ended socket.o.stage ≡ false = first_false (is_ended socket.o.stage) socket.o.is_cut live in absurd cc
has_front journal log world socket T place is live at s good = live_front (seen_in log socket.name).t socket.t.unread (is_over socket.t) live
    ((fits_after (hosting socket.name.to) log world socket.name socket (good (hosting socket.name.to)) is).of_target (ap is_some at ∙ sym (hosted socket.name.to))).left

-- as many bytes as were written towards an end were fed to it, or are unread
pub fed_and_left : (journal : List Line) (log : List Entry) (world : World) (socket : WorldSocket) (e : End) (place : ℕ) → IsIn socket world → is_over (end_of e socket) ≡ false → (end_of e socket).cell ≡ Some place
    → SoundEnds journal log world → ((other : List Line) → Good other log world) → length (written log socket.name e) ≡ fed log socket.name e + length (end_of e socket).unread
fed_and_left journal log world socket e place is live at s good = ap length (sym (written_is log socket.name e) ∙ front.is) ∙ length-append front.front (end_of e socket).unread ∙ ap (λ (n : ℕ). n + length (end_of e socket).unread) (front.count ∙ fed_is log socket.name e) where
  front : HasFront (end_seen e (seen_in log socket.name)) (end_of e socket).unread
  front = has_front journal log world socket e place is live at s good
