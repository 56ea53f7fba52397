-- A message that is got between two nodes is carried by a frame whose last byte is among those that were fed last.
use Rattle.std.proofs.Common.{◌≡◌, ◌⊎◌, inl, inr, ℕ, ◌+◌, ◌-◌, ◌<◌, ◌≤◌, Bool, true, false, List, [], ◌∷◌, ◌++◌, length, take, refl, sym, ap, ◌∙◌, subst, append_assoc, arith}
use Rattle.std.proofs.Math.Seq.{take-append_seam}
use Rattle.std.proofs.lemmas.Bool.{cases_lt}
use Rattle.std.proofs.lemmas.List.{length-append, length-map, map-append}
use Rattle.std.proofs.lemmas.List.Sums.{sum_by-append}
use Rattle.std.specs.List.{list_any}
use Rattle.std.specs.Prelude.{drop, filter_map, find, slice_get, Option, Some, None}
use Rattle.ch_wire.specs.declared.frame.Frame.{Frame}
use Rattle.ch_wire.specs.declared.frame.Frame.TheVariants as frames
use Rattle.ch_reader.specs.Items.{item_spelling}
use Rattle.ch_reader.specs.Reading.{reading}
use Rattle.ch_reader.specs.declared.item.Item.TheVariants as items
use Rattle.ch_reader.proofs.Readings.{reads_within}
use Rattle.ch_model.specs.declared.entry.Entry.{Entry}
use Rattle.ch_model.specs.declared.line.Line.{Line}
use Rattle.ch_model.specs.declared.name.End.{End}
use Rattle.ch_model.specs.declared.name.ProcName.{ProcName}
use Rattle.ch_model.specs.declared.name.SockName.{SockName}
use Rattle.ch_model.specs.declared.name.TargetName.{TargetName}
use Rattle.ch_model.specs.AccountsFrames.{Saying, is_saying, Arriving, arriving_by, ending_within}
use Rattle.ch_model.specs.AccountsItems.{frame_of, data_of, first_payload}
use Rattle.ch_model.specs.AccountsMessages.{feeding, arrived}
use Rattle.ch_model.specs.Logs.{some_and, last_of, collected, never}
use Rattle.ch_model.specs.Same.{across}
use Rattle.ch_model.specs.Sockets.{feeds, written, fed, writings}
use Rattle.ch_model.specs.WorldSockets.{end_of, is_socket_named}
use Rattle.ch_model.specs.WorldState.{Cell, World}
use Rattle.ch_race.specs.Pair.{Side, other}
use Rattle.ch_laws_race.specs.Scene.{Party}
use Rattle.ch_laws_bytes.specs.Streams.{Reader, first_at}
use Rattle.ch_laws_risen.proofs.Logs.{is_feeding, unfed}
use Rattle.ch_laws_peers.specs.Words.{Placed, words_in, datas_in, place_of, placing, sayings}
use Rattle.ch_laws_peers.specs.Says.{towards, frames_towards}
use Rattle.ch_laws_peers.specs.Reads.{PlacedItem, spelled_in, placed_in, frames_among, Way, reads, reads_with, reads_expecting, ReadsNext, read_of}
use Rattle.ch_laws_messages.specs.CarriedCounts.{carried_in, arriving_behind, arriving_of}
use Rattle.ch_laws_messages.specs.CarriedWritten.{IsWritten}
use Rattle.ch_laws_messages.specs.WayGoes.{written_frames}
use Rattle.ch_laws_messages.proofs.WayCome.{way_reads, up_wrote, reads_up}
use Rattle.ch_laws_messages.proofs.WayFrames.{frames_written, placed_append}
use Rattle.ch_laws_messages.proofs.WayWays.{way_frames}
use Rattle.ch_laws_messages.specs.ArrivedFed.{IsFedLast, LastFed}
use Rattle.ch_laws_messages.proofs.ArrivedEnding.{sizes, total, datas_of, collected_grows, ends_within, behind_sizes, carries_next, place_there}
use Rattle.ch_laws_messages.proofs.ArrivedFills.{total_both, total_spelled, data_read, datas_read, written_total, fed_and_left}
use Rattle.ch_laws_messages.proofs.ArrivedFinds.{MayGet, IsReadAt, read_at, IsFront, front_at}
use Rattle.ch_laws_messages.proofs.ArrivedFronts.{none_whole, stands_in}
use Rattle.ch_laws_messages.proofs.ArrivedLast.{unfed_last}

-- entries that feed nothing
pub fed_more : (log told : List Entry) (s : SockName) (e : End) → list_any is_feeding told ≡ false → fed (log ++ told) s e ≡ fed log s e
fed_more log told s e quiet = sum_by-append (feeds s e) log told ∙ ap (λ (n : ℕ). fed log s e + n) (unfed told quiet s e) ∙ zero_last (fed log s e) where
  zero_last : (n : ℕ) → n + 0 ≡ n
  zero_last n = omega arith

datas_same : (l : List Placed) → filter_map data_of (frames_among l) ≡ datas_in (words_in l)
datas_same [] = refl
datas_same ((frames.Data id payload, place) ∷ rest) = ap (λ (l : List (ℕ × List ℕ)). (id, payload) ∷ l) (datas_same rest)
datas_same ((frames.Created id, place) ∷ rest) = datas_same rest
datas_same ((frames.Closed id, place) ∷ rest) = datas_same rest
datas_same ((frames.EndClosed, place) ∷ rest) = datas_same rest
datas_same ((frames.Probe, place) ∷ rest) = datas_same rest
datas_same ((frames.ProbeAck, place) ∷ rest) = datas_same rest

spelled_both : (xs ys : List PlacedItem) → spelled_in (xs ++ ys) ≡ spelled_in xs ++ spelled_in ys
spelled_both xs ys = map-append (λ (one : PlacedItem). item_spelling one.0) xs ys

-- ---- all of it

module _ (journal : List Line) (log : List Entry) (world : World) (party : Side → Party) (x : Side) (cell : Cell × ℕ) (by : ProcName) (to : TargetName) (epoch index : ℕ) (m : MayGet journal log world party x cell by to epoch index) where
  abbrev r : ReadsNext log world party x cell (frames.Data m.gets.id m.gets.payload) (place_of (Some m.gets.s))
  r = m.gets.reads

  abbrev said : List Saying
  said = sayings (party x).name (party (other x)).name log

  pub a : IsReadAt log world party x r.known
  a = read_at journal log world party x cell by to epoch index m

  abbrev here : End
  here = across a.e

  abbrev w : Way (r.known.expected, r.known.since) (first_at here) (end_of here a.socket).unread (end_of here a.socket).places (writings log a.s a.e) said
  w = a.way

  abbrev frame : Frame
  frame = frames.Data m.gets.id m.gets.payload

  abbrev piece : List ℕ
  piece = item_spelling (items.Frame frame)

  pub f : IsFront r.known.expected r.known.since m.gets.id m.gets.payload w.gone w.all
  f = front_at here r.known.expected r.known.since (end_of here a.socket).unread m.gets.id m.gets.payload w.gone w.all w.may w.at w.bytes r.front

  abbrev all_towards : List Placed
  all_towards = towards (party x).name (party (other x)).name log

  -- ---- what was read

  is_all : written_frames said (writings log a.s a.e) ≡ all_towards
  is_all = ap (placing said [] 0) (up_wrote journal log world party x a.s a.e m.says a.of a.up)

  all_placed : all_towards ≡ placed_in w.gone ++ placed_in w.all
  all_placed = sym is_all ∙ way_frames (r.known.expected, r.known.since) here (end_of here a.socket).unread (end_of here a.socket).places (writings log a.s a.e) said w ∙ placed_append w.gone w.all

  many : reads party world x log ≡ length (placed_in w.gone)
  many = reads_up party world x log a.s a.e a.socket a.up a.found ∙ ap (λ (o : Option Reader). reads_with o (end_of here a.socket).places (length all_towards)) a.reader
      ∙ ap (λ (l : List Placed). reads_expecting r.known.expected (end_of here a.socket).places (length l)) (sym is_all) ∙ way_reads (r.known.expected, r.known.since) here (end_of here a.socket).unread (end_of here a.socket).places (writings log a.s a.e) said w

  placed_datas : datas_in (words_in (placed_in w.gone)) ≡ datas_of (spelled_in f.read)
  placed_datas = ap (λ (l : List Placed). datas_in (words_in l)) f.placed ∙ sym (datas_read f.read f.follow)

  pub read_is : read_of party world x log ≡ datas_of (spelled_in f.read)
  read_is = ap (λ (n : ℕ). datas_in (words_in (take n all_towards))) many ∙ ap (λ (l : List Placed). datas_in (words_in (take (length (placed_in w.gone)) l))) all_placed
      ∙ ap (λ (l : List Placed). datas_in (words_in l)) (take-append_seam (placed_in w.gone) (placed_in w.all)) ∙ placed_datas

  abbrev gone_frames : List Frame
  gone_frames = frames_among (placed_in w.gone)

  frames_are : frames_towards (party x).name (party (other x)).name log ≡ gone_frames ++ frame ∷ frames_among (placed_in f.later)
  frames_are = sym (up_wrote journal log world party x a.s a.e m.says a.of a.up) ∙ ap (λ (l : List (List ℕ)). filter_map frame_of (drop 1 l)) w.is ∙ frames_written here (w.gone ++ w.all) w.may ∙ ap frames_among (placed_append w.gone w.all)
      ∙ map-append (λ (placed : Placed). placed.0) (placed_in w.gone) (placed_in w.all) ∙ ap (λ (l : List PlacedItem). gone_frames ++ frames_among (placed_in l)) f.all_is

  opened : (opening : List ℕ) × (first_payload m.gets.id (datas_of (spelled_in f.read)) ≡ Some opening)
  opened = let o = place_there said [] 0 gone_frames (frames_among (placed_in f.later)) m.gets.id m.gets.payload (record { epoch = m.gets.s.epoch; index = m.gets.s.index })
      (ap (λ (l : List Frame). slice_get (placing said [] 0 l) (length gone_frames)) (sym frames_are) ∙ ap (slice_get all_towards) (length-map (placed_in w.gone) (λ (placed : Placed). placed.0) ∙ sym many) ∙ r.next) in
      (o.0, ap (first_payload m.gets.id) (sym (datas_same (placed_in w.gone) ∙ placed_datas)) ∙ o.1)

  next : slice_get said (carried_in [] (datas_of (spelled_in f.read))) ≡ Some m.gets.s
  next = ap (λ (l : List (ℕ × List ℕ)). slice_get said (carried_in [] l)) (sym read_is) ∙ m.gets.next

  -- ---- what was written towards the end

  pieces : writings log a.s a.e ≡ item_spelling f.head.0 ∷ (spelled_in f.read ++ piece ∷ spelled_in f.later)
  pieces = w.is ∙ ap (λ (l : List PlacedItem). spelled_in (l ++ w.all)) f.gone_is ∙ ap (λ (l : List PlacedItem). spelled_in ((f.head ∷ f.read) ++ l)) f.all_is ∙ ap (λ (l : List (List ℕ)). item_spelling f.head.0 ∷ l) (spelled_both f.read ((items.Frame frame, f.place) ∷ f.later))

  carries : (others : List Arriving) × (arriving_behind said [] 0 (spelled_in f.read ++ piece ∷ spelled_in f.later) ≡ arriving_behind said [] 0 (spelled_in f.read) ++ (length piece, Some m.gets.s) ∷ others)
  carries = carries_next said (spelled_in f.read) piece (spelled_in f.later) m.gets.id m.gets.payload opened.0 m.gets.s (data_read frame f.fits) opened.1 next

  abbrev front : List Arriving
  front = (length (item_spelling f.head.0), None) ∷ arriving_behind said [] 0 (spelled_in f.read)

  arriving_is : IsWritten journal (party x).name (party (other x)).name log → collected never (arriving_by journal a.s here) log ≡ front ++ (length piece, Some m.gets.s) ∷ carries.0
  arriving_is wrote = wrote.arriving a.s a.e a.of ∙ ap (arriving_of said) pieces ∙ ap (λ (l : List Arriving). (length (item_spelling f.head.0), None) ∷ l) carries.1

  -- ---- how many bytes

  abbrev start : ℕ
  start = length (item_spelling f.head.0) + total (spelled_in f.read)

  front_size : sizes front ≡ start
  front_size = ap (λ (n : ℕ). length (item_spelling f.head.0) + n) (behind_sizes said [] 0 (spelled_in f.read))

  named : a.socket.name ≡ a.s
  named = a.name

  fed_start : LastFed log world → fed log a.s here ≡ start + length r.known.since
  fed_start last = sums (fed log a.s here) (length (end_of here a.socket).unread) start (length r.known.since) (total (writings log a.s a.e)) wrote all where
    sums : (n u b k t : ℕ) → t ≡ n + u → t ≡ b + (k + u) → n ≡ b + k
    sums n u b k t p q = omega arith

    wrote : total (writings log a.s a.e) ≡ fed log a.s here + length (end_of here a.socket).unread
    wrote = sym (written_total log a.s a.e m.standing.kinds)
        ∙ subst (λ (n : SockName). length (written log n here) ≡ fed log n here + length (end_of here a.socket).unread) named
        (fed_and_left journal log world a.socket here (party (other x)).place (subst (λ (n : SockName). IsInNamed n) (sym named) a.found) a.live a.cell m.standing.all.sound.ends last.risen.good)
      where
        IsInNamed : SockName → Type 0
        IsInNamed n = find (is_socket_named n) world.sockets ≡ Some a.socket

    all : total (writings log a.s a.e) ≡ start + (length r.known.since + length (end_of here a.socket).unread)
    all = ap total (w.is ∙ spelled_both w.gone w.all) ∙ total_both (spelled_in w.gone) (spelled_in w.all) ∙ ap (λ (l : List PlacedItem). total (spelled_in l) + total (spelled_in w.all)) f.gone_is
        ∙ ap (λ (n : ℕ). start + n) (total_spelled w.all ∙ ap length (sym w.bytes) ∙ length-append r.known.since (end_of here a.socket).unread)

  count : (reading r.known.expected r.known.since).1 ≡ length piece
  count = f.size

  some_bytes : 0 < length piece
  some_bytes = by_size (cases_lt 0 (length piece)) where
    by_size : (0 < length piece) ⊎ (length piece ≤ 0) → 0 < length piece
    by_size (inl lt) = lt
    by_size (inr le) = absurd (none_whole r.known.expected (items.Frame frame) (stands_in r.known.expected [] r.known.since (items.Frame frame) r.front (subst (λ (n : ℕ). n ≤ 0) (sym count) le)))

  low : (all b k n c : ℕ) → all ≡ b + k → k < n + c → 0 < n → all - c < (0 + b) + n
  low all b k n c e lt some = omega arith

  high : (all b k n : ℕ) → all ≡ b + k → n ≤ k → (0 + b) + n ≤ all
  high all b k n e le = omega arith

  -- it ends among the bytes that were fed last, whatever else is told behind
  pub got_there : LastFed log world → IsWritten journal (party x).name (party (other x)).name log → (told : List Entry) → list_any is_feeding told ≡ false → some_and (λ f. list_any (is_saying by to epoch index) (arrived journal (log ++ told) f)) (last_of feeding (log ++ told)) ≡ true
  got_there last wrote told quiet = ap (some_and (λ g. list_any (is_saying by to epoch index) (arrived journal after g))) (unfed_last log told quiet ∙ fed_last.is) ∙ ap (λ (s : SockName). among s fed_last.last.end) (fed_last.sock ∙ named) ∙ ap (among a.s) fed_last.end ∙ found where
    after : List Entry
    after = log ++ told

    fed_last : IsFedLast log a.socket.name here (r.known.expected, r.known.since)
    fed_last = last.ends a.s a.socket here (r.known.expected, r.known.since) a.found a.reader (items.Frame frame) r.front

    among : SockName → End → Bool
    among s e = list_any (is_saying by to epoch index) (ending_within (fed after s e - fed_last.last.count) (fed after s e) 0 (collected never (arriving_by journal s e) after))

    more : (more : List Arriving) × (collected never (arriving_by journal a.s here) after ≡ collected never (arriving_by journal a.s here) log ++ more)
    more = collected_grows (arriving_by journal a.s here) log told

    all_is : collected never (arriving_by journal a.s here) after ≡ front ++ (length piece, Some m.gets.s) ∷ (carries.0 ++ more.0)
    all_is = more.1 ∙ ap (λ (l : List Arriving). l ++ more.0) (arriving_is wrote) ∙ append_assoc front ((length piece, Some m.gets.s) ∷ carries.0) more.0

    fed_is : fed after a.s here ≡ start + length r.known.since
    fed_is = fed_more log told a.s here quiet ∙ fed_start last

    fed_sizes : fed after a.s here ≡ sizes front + length r.known.since
    fed_sizes = fed_is ∙ ap (λ (n : ℕ). n + length r.known.since) (sym front_size)

    found : among a.s here ≡ true
    found = ap (λ (l : List Arriving). list_any (is_saying by to epoch index) (ending_within (fed after a.s here - fed_last.last.count) (fed after a.s here) 0 l)) all_is
        ∙ ends_within (is_saying by to epoch index) (fed after a.s here - fed_last.last.count) (fed after a.s here) 0 front (length piece, Some m.gets.s) (carries.0 ++ more.0) m.gets.s refl m.gets.is
        (low (fed after a.s here) (sizes front) (length r.known.since) (length piece) fed_last.last.count fed_sizes (subst (λ (n : ℕ). length r.known.since < n + fed_last.last.count) count fed_last.past) some_bytes)
        (high (fed after a.s here) (sizes front) (length r.known.since) (length piece) fed_sizes (subst (λ (n : ℕ). n ≤ length r.known.since) count (reads_within r.known.expected r.known.since)))
