-- How reading goes on: an item turn reads the next frame that the other node has written, or none of them; every other turn reads none.
use Rattle.std.proofs.Common.{◌≡◌, ◌⊎◌, inl, inr, ℕ, suc, ◌+◌, Bool, true, false, cond, List, [], ◌∷◌, ◌++◌, length, drop, refl, sym, ap, ◌∙◌, subst, arith}
use Rattle.std.specs.Prelude.{find, slice_get, Option, Some, None, ◌==◌}
use Rattle.ch_link.specs.declared.LinkState.{LinkState}
use Rattle.ch_link.specs.declared.LinkState.TheVariants as states
use Rattle.ch_wire.specs.declared.frame.Frame.{Frame}
use Rattle.ch_reader.specs.Items.{MayFollow}
use Rattle.ch_reader.specs.Reading.{reading}
use Rattle.ch_reader.specs.declared.item.Expected.{Expected}
use Rattle.ch_reader.specs.declared.item.Expected.TheVariants as expected
use Rattle.ch_reader.specs.declared.item.Front.TheVariants.{Whole}
use Rattle.ch_reader.specs.declared.item.Item.{Item}
use Rattle.ch_reader.specs.declared.item.Item.TheVariants as items
use Rattle.ch_model.specs.declared.entry.Entry.{Entry}
use Rattle.ch_model.specs.declared.line.Line.{Line}
use Rattle.ch_model.specs.declared.name.End.{End}
use Rattle.ch_model.specs.declared.name.SockName.{SockName}
use Rattle.ch_model.specs.declared.step.Place.{Place}
use Rattle.ch_model.specs.declared.step.Step.{Step}
use Rattle.ch_model.specs.AccountsFrames.{Saying}
use Rattle.ch_model.specs.Host.{front_of, first_ready}
use Rattle.ch_model.specs.HostState.{Socket}
use Rattle.ch_model.specs.HostSteps.{is_socket}
use Rattle.ch_model.specs.HostWrites.{is_up}
use Rattle.ch_model.specs.Same.{across, is_end_of}
use Rattle.ch_model.specs.Sockets.{writings}
use Rattle.ch_model.specs.Stages.{is_open}
use Rattle.ch_model.specs.WorldSockets.{end_of, is_socket_named, find_end}
use Rattle.ch_model.specs.WorldState.{Cell, WorldSocket, World}
use Rattle.ch_model.specs.WorldSteps.{first_place, item_is_read, reads_item}
use Rattle.ch_race.specs.Pair.{Side, other}
use Rattle.ch_laws_bytes.specs.Streams.{Reader, reader_of, first_at, is_over}
use Rattle.ch_laws_calls.specs.Scenes.{IsPairOf, scene_of}
use Rattle.ch_laws_links.proofs.Readings.{Matches, FrontMatches, reading_matches}
use Rattle.ch_laws_log.proofs.Stored.{number_is, number_same}
use Rattle.ch_laws_race.specs.Chains.{unposted}
use Rattle.ch_laws_race.specs.Scene.{Party, link_of}
use Rattle.ch_laws_race.proofs.Readings.{other_twice}
use Rattle.ch_laws_reads.specs.Reads.{AreReadOf, reads_of}
use Rattle.ch_laws_reads.proofs.Stays.{read_of_spelled}
use Rattle.ch_laws_places.proofs.Sockets.{reads_for, reads_at_end}
use Rattle.ch_laws_calls.proofs.ScenesHeld.{held_by}
use Rattle.ch_laws_calls.proofs.ScenesStreams.{reader_at_end}
use Rattle.ch_laws_peers.specs.Words.{Placed, placing, sayings}
use Rattle.ch_laws_peers.specs.Says.{frames_towards, towards, IsUpOn}
use Rattle.ch_laws_peers.specs.Reads.{PlacedItem, items_in, places_in, placed_in, item_read, reads, Way, IsWay, ReadsOne, ReadsNone}
use Rattle.ch_laws_peers.specs.Standing.{Standing}
use Rattle.ch_laws_messages.proofs.WayBlind.{ReadsItem}
use Rattle.ch_laws_messages.proofs.WayCome.{across_end, up_wrote}
use Rattle.ch_laws_messages.proofs.WayCounts.{MayCount, CountsOn, counts, none_counts, none_counts_on, none_there, end_named, no_placed}
use Rattle.ch_laws_messages.proofs.WayFrames.{placed_append}
use Rattle.ch_laws_messages.proofs.WayItems.{unposted_reads}
use Rattle.ch_laws_messages.proofs.WayPairs.{IsOf, is_of}
use Rattle.ch_laws_messages.proofs.WayUps.{UpAt, up_at, UpEnd, up_end, frame_up, both_up, named_end, own_lives}
use Rattle.ch_laws_messages.proofs.WayWays.{items_append, follow_rest, way_frames}
use Rattle.ch_laws_messages.proofs.SaidItemReads.{not_over}
use Rattle.ch_laws_messages.proofs.SaidPuts.{one_of}
use Rattle.ch_laws_messages.proofs.ArrivedFills.{twice}

-- ---- an item at the front

-- it is the first of those that are unread
pub first_unread : (e : End) (since : List ℕ) (k : Expected) (unread : List ℕ) (places : List (Option Place)) (wrote : List (List ℕ)) (said : List Saying) (w : Way (k, since) (first_at e) unread places wrote said) (item : Item) → (reading k since).0 ≡ Whole item → (rest : List Item) × (items_in w.all ≡ item ∷ rest)
first_unread e since k unread places wrote said w item front = (of.rest, of.split) where
  follows : MayFollow k (items_in w.all)
  follows = subst (λ (x : Expected). MayFollow x (items_in w.all)) (sym w.at) (follow_rest (first_at e) (items_in w.gone) (items_in w.all) (subst (MayFollow (first_at e)) (items_append w.gone w.all) w.may))

  of : AreReadOf (items_in w.all) (item ∷ []) expected.Frame (drop (reading k since).1 since) unread
  of = read_of_spelled k expected.Frame since (drop (reading k since).1 since) unread (items_in w.all) (item ∷ []) w.bytes follows (front, (refl, refl))

-- a list whose first item is a frame has frames
some_placed : {A : Type 0} (all : List PlacedItem) (frame : Frame) (rest : List Item) → items_in all ≡ items.Frame frame ∷ rest → placed_in all ≡ [] → A
some_placed [] frame rest e none = absurd cc
some_placed ((items.Frame f, place) ∷ l) frame rest e none = absurd cc
some_placed ((items.Request r, place) ∷ l) frame rest e none = absurd cc
some_placed ((items.Answer a, place) ∷ l) frame rest e none = absurd cc

-- ---- at the end that a node is up on

-- the host of the other node has a frame at the front, at its end r of a socket, on which its link is up
record HasFrame (log : List Entry) (world : World) (party : Side → Party) (x : Side) (frame : Frame) : Type 0 where
  s : SockName
  r : End
  socket : WorldSocket
  found : find (is_socket_named s) world.sockets ≡ Some socket
  of : is_end_of (party x).name (party (other x)).name s (across r) ≡ true
  reader : Reader
  way : Way reader (first_at r) (end_of r socket).unread (end_of r socket).places (writings log s (across r)) (sayings (party x).name (party (other x)).name log)
  rest : List Item
  first : items_in way.all ≡ items.Frame frame ∷ rest

has_frame : (journal : List Line) (log : List Entry) (world : World) (more : List Entry) (after : World) (place : ℕ) (told : List Step) (new : ℕ → List PlacedItem) (party : Side → Party) (x : Side) → MayCount journal log world more after place told new party x → (cell : Cell × ℕ) (known : Socket) (n : ℕ) (probed : Bool) (frame : Frame) → slice_get world.cells (party (other x)).place ≡ Some cell
    → (link_of (scene_of party world) (other x)).state ≡ states.Up n probed → find (is_socket n) cell.0.host.sockets ≡ Some known → is_open known.stage ≡ true → (front_of known).0 ≡ Whole (items.Frame frame) → HasFrame log world party x frame
has_frame journal log world more after place told new party x m cell known n probed frame at up kept stands front = record { s = u.s; r = u.e; socket = u.at.socket; found = u.at.found; of = mine; reader = (known.expected, known.since); way = there; rest = first.0; first = first.1 } where
  u : UpEnd party world (other x) n
  u = up_end journal log world party (other x) n probed m.before m.pair up

  mine : is_end_of (party x).name (party (other x)).name u.s (across u.e) ≡ true
  mine = across_end (party (other x)).name (party x).name u.s u.e (subst (λ (z : Side). is_end_of (party (other x)).name (party z).name u.s u.e ≡ true) (other_twice x)
      (subst (λ (t : SockName). is_end_of (party (other x)).name (party (other (other x))).name t u.e ≡ true) u.at.name (named_end party world (other x) u.e u.at.i n u.at.socket (m.before.each_pair.shown party m.pair).names_differ u.at.has)))

  held : ((end_of u.e u.at.socket).cell ≡ Some (party (other x)).place) × ((end_of u.e u.at.socket).number ≡ Some n)
  held = held_by (party (other x)).place n (end_of u.e u.at.socket) u.at.has.end

  live : is_over (end_of u.e u.at.socket) ≡ false
  live = own_lives journal m.nodes log world party (other x) u.s u.e n probed m.before m.pair up u.at

  reader : reader_of world u.at.socket u.e ≡ Some (known.expected, known.since)
  reader = reader_at_end world u.at.socket u.e (party (other x)).place n cell known held.0 held.1 at kept (not_over known.stage stands)

  way : IsWay (reader_of world u.at.socket u.e) (first_at u.e) (end_of u.e u.at.socket).unread (end_of u.e u.at.socket).places (writings log u.s (across u.e)) (sayings (party x).name (party (other x)).name log)
  way = subst (λ (f : End). IsWay (reader_of world u.at.socket f) (first_at f) (end_of f u.at.socket).unread (end_of f u.at.socket).places (writings log u.s (across u.e)) (sayings (party x).name (party (other x)).name log)) (twice u.e)
      (m.comes.ways u.s (across u.e) u.at.socket mine u.at.found (subst (λ (f : End). is_over (end_of f u.at.socket) ≡ false) (sym (twice u.e)) live))

  there : Way (known.expected, known.since) (first_at u.e) (end_of u.e u.at.socket).unread (end_of u.e u.at.socket).places (writings log u.s (across u.e)) (sayings (party x).name (party (other x)).name log)
  there = subst (λ (o : Option Reader). IsWay o (first_at u.e) (end_of u.e u.at.socket).unread (end_of u.e u.at.socket).places (writings log u.s (across u.e)) (sayings (party x).name (party (other x)).name log)) reader way

  first : (rest : List Item) × (items_in there.all ≡ items.Frame frame ∷ rest)
  first = first_unread u.e known.since known.expected (end_of u.e u.at.socket).unread (end_of u.e u.at.socket).places (writings log u.s (across u.e)) (sayings (party x).name (party (other x)).name log) there (items.Frame frame) front

-- then x has written something
not_silent : {A : Type 0} (journal : List Line) (log : List Entry) (world : World) (more : List Entry) (after : World) (place : ℕ) (told : List Step) (new : ℕ → List PlacedItem) (party : Side → Party) (x : Side) → MayCount journal log world more after place told new party x → (frame : Frame) → HasFrame log world party x frame → frames_towards (party x).name (party (other x)).name log ≡ [] → A
not_silent journal log world more after place told new party x m frame h none = some_placed h.way.all frame h.rest h.first
    (no_placed h.way.gone h.way.all (sym (way_frames h.reader h.r (end_of h.r h.socket).unread (end_of h.r h.socket).places (writings log h.s (across h.r)) (sayings (party x).name (party (other x)).name log) h.way) ∙ none_there journal log world party x h.s (across h.r) m.says h.of none)).1

-- the number of the end on which the other node is up
up_number : (journal : List Line) (log : List Entry) (world : World) (party : Side → Party) (x : Side) (s : SockName) (e : End) (socket : WorldSocket) (n : ℕ) (probed : Bool) → Standing journal log world → IsPairOf journal party → IsUpOn party world x s e → find (is_socket_named s) world.sockets ≡ Some socket → (link_of (scene_of party world) (other x)).state ≡ states.Up n probed → (end_of (across e) socket).number ≡ Some n
up_number journal log world party x s e socket n probed st pair u found up = subst (λ (w : WorldSocket). (end_of (across e) w).number ≡ Some n) (one_of a.socket socket (sym a.found ∙ found)) (held_by (party (other x)).place n (end_of (across e) a.socket) a.has.end).1 where
  theirs : IsUpOn party world (other x) s (across e)
  theirs = record { number = n; probed = probed; up = up; found = both_up journal log world party x s e n probed st pair u up }

  a : UpAt party world (other x) s (across e) n
  a = up_at journal log world party (other x) s (across e) st pair theirs

-- ---- an item turn

not_same : {A : Type 0} (b : Bool) → b ≡ true → b ≡ false → A
not_same b t f = let no : true ≡ false = sym t ∙ f in absurd cc

number_self : (n : ℕ) → (n == n) ≡ true
number_self n = number_same n

module _ (journal : List Line) (log : List Entry) (world : World) (more : List Entry) (after : World) (place : ℕ) (told : List Step) (new : ℕ → List PlacedItem) (party : Side → Party) (x : Side) (m : MayCount journal log world more after place (unposted told) new party x) (cell : Cell × ℕ) (at : slice_get world.cells place ≡ Some cell) (r : ReadsItem cell.0.host told) where
  abbrev ReadsSo : Type 0
  ReadsSo = ReadsOne log world party x place cell (log ++ more) after ⊎ ReadsNone log world party x place cell (log ++ more) after

  -- what the other node would read
  abbrev Hears : Type 0
  Hears = (party (other x)).place ≡ place → (sock : ℕ) (probed : Bool) (known : Socket) (frame : Frame) → (link_of (scene_of party world) (other x)).state ≡ states.Up sock probed → first_ready cell.0.host.sockets ≡ Some known → known.number ≡ sock → (front_of known).0 ≡ Whole (items.Frame frame) → ⊥

  known_is : (known : Socket) → first_ready cell.0.host.sockets ≡ Some known → known ≡ r.known
  known_is known ready = one_of known r.known (sym ready ∙ r.ready)

  at_theirs : (party (other x)).place ≡ place → slice_get world.cells (party (other x)).place ≡ Some cell
  at_theirs here = ap (slice_get world.cells) here ∙ at

  none_silent : frames_towards (party x).name (party (other x)).name log ≡ [] → Hears
  none_silent none here sock probed known frame up ready number front = not_silent journal log world more after place (unposted told) new party x m frame
      (has_frame journal log world more after place (unposted told) new party x m cell r.known sock probed frame (at_theirs here) up (subst (λ (n : ℕ). find (is_socket n) cell.0.host.sockets ≡ Some r.known) (ap (λ (k : Socket). k.number) (sym (known_is known ready)) ∙ number) r.found) r.stands (ap (λ (k : Socket). (front_of k).0) (sym (known_is known ready)) ∙ front)) none

  module _ (c : CountsOn journal log world more after place (unposted told) party x) where
    abbrev end : End
    end = across c.e

    none_so : placed_in c.taken ≡ [] → Hears → ReadsSo
    none_so none never = inr (none_counts_on journal log world more after place (unposted told) party x c none, never)

    of : is_end_of (party x).name (party (other x)).name c.s c.e ≡ true
    of = end_named journal log world party x c.s c.e m.before m.pair c.up

    theirs : is_end_of (party (other x)).name (party (other (other x))).name c.s (across c.e) ≡ true
    theirs = subst (λ (z : Side). is_end_of (party (other x)).name (party z).name c.s (across c.e) ≡ true) (sym (other_twice x)) (across_end (party x).name (party (other x)).name c.s c.e of)

    o : IsOf party world (other x) c.before (across c.e)
    o = is_of party world (other x) c.s c.before (across c.e) (m.before.each_pair.shown party m.pair) c.found theirs

    -- the number of its end, where it is up
    number_up : (sock : ℕ) (probed : Bool) → (link_of (scene_of party world) (other x)).state ≡ states.Up sock probed → (end_of (across c.e) c.before).number ≡ Some sock
    number_up sock probed up = up_number journal log world party x c.s c.e c.before sock probed m.before m.pair c.up c.found up

    taken_none : (n : ℕ) → reads_at_end place (unposted told) (end_of (across c.e) c.before) ≡ 0 → placed_in c.taken ≡ []
    taken_none n zero = none (c.taken) (c.many ∙ zero) where
      none : (l : List PlacedItem) → length l ≡ 0 → placed_in l ≡ []
      none [] h = refl
      none (one ∷ l) h = absurd cc

    no_number : (d : Option ℕ) → reads_for place (unposted told) d None ≡ 0
    no_number None = refl
    no_number (Some p) = refl

    count_is : (n : ℕ) → (end_of (across c.e) c.before).number ≡ Some n → reads_at_end place (unposted told) (end_of (across c.e) c.before) ≡ cond ((party (other x)).place == place) (reads_of n (unposted told)) 0
    count_is n number = ap (λ (d : Option ℕ). reads_for place (unposted told) d (end_of (across c.e) c.before).number) o.cell ∙ ap (reads_for place (unposted told) (Some (party (other x)).place)) number

    -- the item that was taken is the one at the front
    module _ (n : ℕ) (number : (end_of (across c.e) c.before).number ≡ Some n) (here : (party (other x)).place ≡ place) (same : r.known.number ≡ n) (item : Item) (front : (front_of r.known).0 ≡ Whole item) (one : PlacedItem) (taken_is : c.taken ≡ one ∷ []) where
      reader_is : c.reader ≡ (r.known.expected, r.known.since)
      reader_is = one_of c.reader (r.known.expected, r.known.since) (sym c.reads_there ∙ reader_at_end world c.before (across c.e) (party (other x)).place n cell r.known o.cell number (at_theirs here) (subst (λ (k : ℕ). find (is_socket k) cell.0.host.sockets ≡ Some r.known) same r.found) (not_over r.known.stage r.stands))

      all_is : c.way.all ≡ one ∷ c.others
      all_is = c.split ∙ ap (λ (l : List PlacedItem). l ++ c.others) taken_is

      item_is : one.0 ≡ item
      item_is = by_reader c.reader reader_is c.way all_is where
        by_reader : (reader : Reader) → reader ≡ (r.known.expected, r.known.since) → (w : Way reader (first_at (across c.e)) (end_of (across c.e) c.before).unread (end_of (across c.e) c.before).places (writings log c.s c.e) (sayings (party x).name (party (other x)).name log)) → w.all ≡ one ∷ c.others → one.0 ≡ item
        by_reader reader is w all =
            let f = first_unread (across c.e) reader.1 reader.0 (end_of (across c.e) c.before).unread (end_of (across c.e) c.before).places (writings log c.s c.e) (sayings (party x).name (party (other x)).name log) w item (ap (λ (k : Reader). (reading k.0 k.1).0) is ∙ front) in
            head one.0 item (items_in c.others) f.0 (ap items_in (sym all) ∙ f.1)
          where
            head : (i j : Item) (l k : List Item) → i ∷ l ≡ j ∷ k → i ≡ j
            head i j l k e = cc

      -- where it is a frame it is the next
      reads_one : (frame : Frame) → item ≡ items.Frame frame → ReadsSo
      reads_one frame is = by_state (link_of (scene_of party world) (other x)).state refl where
        frame_is : one.0 ≡ items.Frame frame
        frame_is = item_is ∙ is

        expects : r.known.expected ≡ expected.Frame
        expects = frames_is r.known.expected frame (subst (Matches r.known.expected) is (subst (FrontMatches r.known.expected) front (reading_matches r.known.expected r.known.since))) where
          frames_is : (e : Expected) (frame : Frame) → Matches e (items.Frame frame) → e ≡ expected.Frame
          frames_is expected.Request frame m = absurd m
          frames_is expected.Answer frame m = absurd m
          frames_is expected.Frame frame m = refl

        up : is_up (link_of (scene_of party world) (other x)).state ≡ true
        up = frame_up journal log world party (other x) c.s c.before (across c.e) c.reader m.before m.pair c.found theirs c.reads_there (ap (λ (k : Reader). k.0) reader_is ∙ expects)

        placed_is : (l : List PlacedItem) → placed_in (one ∷ l) ≡ (frame, one.1) ∷ placed_in l
        placed_is l = ap (λ (i : Item). placed_in ((i, one.1) ∷ l)) frame_is

        towards_is : towards (party x).name (party (other x)).name log ≡ placed_in c.way.gone ++ (frame, one.1) ∷ placed_in c.others
        towards_is = sym (ap (λ (l : List Frame). placing (sayings (party x).name (party (other x)).name log) [] 0 l) (up_wrote journal log world party x c.s c.e m.says of c.up))
            ∙ way_frames c.reader (across c.e) (end_of (across c.e) c.before).unread (end_of (across c.e) c.before).places (writings log c.s c.e) (sayings (party x).name (party (other x)).name log) c.way
            ∙ placed_append c.way.gone c.way.all ∙ ap (λ (l : List PlacedItem). placed_in c.way.gone ++ placed_in l) all_is ∙ ap (λ (l : List Placed). placed_in c.way.gone ++ l) (placed_is c.others)

        seam : (xs ys : List Placed) (y : Placed) → slice_get (xs ++ y ∷ ys) (length xs) ≡ Some y
        seam [] ys y = refl
        seam (z ∷ xs) ys y = seam xs ys y

        next : slice_get (towards (party x).name (party (other x)).name log) (reads party world x log) ≡ Some (frame, one.1)
        next = ap (slice_get (towards (party x).name (party (other x)).name log)) c.was ∙ ap (λ (l : List Placed). slice_get l (length (placed_in c.way.gone))) towards_is ∙ seam (placed_in c.way.gone) (placed_in c.others) (frame, one.1)

        more_is : reads party after x (log ++ more) ≡ suc (reads party world x log)
        more_is = c.now ∙ ap (λ (l : List PlacedItem). length (placed_in c.way.gone) + length (placed_in l)) taken_is ∙ ap (λ (l : List Placed). length (placed_in c.way.gone) + length l) (placed_is []) ∙ one_more (length (placed_in c.way.gone)) ∙ ap suc (sym c.was) where
          one_more : (k : ℕ) → k + 1 ≡ suc k
          one_more k = omega arith

        by_state : (k : LinkState) → (link_of (scene_of party world) (other x)).state ≡ k → ReadsSo
        by_state states.Idle h = not_same (is_up (link_of (scene_of party world) (other x)).state) up (ap is_up h)
        by_state states.AwaitOther h = not_same (is_up (link_of (scene_of party world) (other x)).state) up (ap is_up h)
        by_state (states.Dialing d) h = not_same (is_up (link_of (scene_of party world) (other x)).state) up (ap is_up h)
        by_state (states.Up sock probed) h = inl (record {
          here = here;
          frame = frame;
          word = one.1;
          reads_next = record { at = at_theirs here; sock = sock; probed = probed; up = h; known = r.known; ready = r.ready; number = same ∙ number_is_sock; front = front ∙ ap Whole is; next = next };
          last = last;
          more = more_is;
        }) where
          number_is_sock : n ≡ sock
          number_is_sock = one_of n sock (sym number ∙ number_up sock probed h)

          found_end : find_end place sock world.sockets ≡ Some (c.s, across c.e)
          found_end = ap (λ (p : ℕ). find_end p sock world.sockets) (sym here) ∙ both_up journal log world party x c.s c.e sock probed m.before m.pair c.up h

          last : (item_read place sock world).last ≡ one.1
          last = ap (λ (o : Option (SockName × End)). (elim o as (λ o. List Entry × World) [
            | None ↦ ([], world)
            | Some a ↦ reads_item a world
          ]).1.last) found_end ∙ ap (λ (o : Option WorldSocket). (item_is_read (c.s, across c.e) o world).last) c.found ∙ ap first_place c.way.stand ∙ ap (λ (l : List PlacedItem). first_place (places_in l)) all_is

      -- else it is none of them
      reads_other : placed_in (one ∷ []) ≡ [] → ((frame : Frame) → item ≡ items.Frame frame → ⊥) → ReadsSo
      reads_other none never = none_so (ap placed_in taken_is ∙ none) (λ h sock probed known frame up ready num fr. never frame (whole item (items.Frame frame) (sym front ∙ ap (λ (k : Socket). (front_of k).0) (sym (known_is known ready)) ∙ fr))) where
        whole : (i j : Item) → Whole i ≡ Whole j → i ≡ j
        whole i j e = cc

      by_item : (i : Item) → item ≡ i → ReadsSo
      by_item (items.Frame frame) is = reads_one frame is
      by_item (items.Request request) is = reads_other (ap (λ (i : Item). placed_in ((i, one.1) ∷ [])) (item_is ∙ is)) (λ frame h. let no : items.Request request ≡ items.Frame frame = sym is ∙ h in absurd cc)
      by_item (items.Answer answer) is = reads_other (ap (λ (i : Item). placed_in ((i, one.1) ∷ [])) (item_is ∙ is)) (λ frame h. let no : items.Answer answer ≡ items.Frame frame = sym is ∙ h in absurd cc)

    one_taken : (l : List PlacedItem) → length l ≡ 1 → (one : PlacedItem) × (l ≡ one ∷ [])
    one_taken [] h = absurd cc
    one_taken (one ∷ []) h = (one, refl)
    one_taken (one ∷ two ∷ l) h = absurd cc

    at_number : (n : ℕ) → (end_of (across c.e) c.before).number ≡ Some n → (b : Bool) → ((party (other x)).place == place) ≡ b → (d : Bool) → (r.known.number == n) ≡ d
        → ((item : Item) × ((front_of r.known).0 ≡ Whole item) × ((k : ℕ) → reads_of k told ≡ cond (r.known.number == k) 1 0)) ⊎ (((item : Item) → (front_of r.known).0 ≡ Whole item → ⊥) × ((k : ℕ) → reads_of k told ≡ 0)) → ReadsSo
    at_number n number false h d g how = none_so (taken_none n (count_is n number ∙ ap (λ b. cond b (reads_of n (unposted told)) 0) h)) (λ here sock probed known frame up ready num fr. not_same ((party (other x)).place == place) (ap (λ (p : ℕ). (party (other x)).place == p) (sym here) ∙ number_self (party (other x)).place) h)
    at_number n number true h d g (inr none) = none_so (taken_none n (count_is n number ∙ ap (λ b. cond b (reads_of n (unposted told)) 0) h ∙ unposted_reads n told ∙ none.1 n)) (λ here sock probed known frame up ready num fr. none.0 (items.Frame frame) (ap (λ (k : Socket). (front_of k).0) (sym (known_is known ready)) ∙ fr))
    at_number n number true h false g (inl how) = none_so (taken_none n (count_is n number ∙ ap (λ b. cond b (reads_of n (unposted told)) 0) h ∙ unposted_reads n told ∙ how.2 n ∙ ap (λ b. cond b 1 0) g))
        (λ here sock probed known frame up ready num fr. not_same (r.known.number == n) (ap (λ (k : ℕ). r.known.number == k) (sym (ap (λ (k : Socket). k.number) (sym (known_is known ready)) ∙ num ∙ one_of sock n (sym (number_up sock probed up) ∙ number))) ∙ number_self r.known.number) g)
    at_number n number true h true g (inl how) =
        let taken = one_taken c.taken (c.many ∙ count_is n number ∙ ap (λ b. cond b (reads_of n (unposted told)) 0) h ∙ unposted_reads n told ∙ how.2 n ∙ ap (λ b. cond b 1 0) g) in
        by_item n number (number_is (party (other x)).place place h) (number_is r.known.number n g) how.0 how.1 taken.0 taken.1 how.0 refl

    by_number : (k : Option ℕ) → (end_of (across c.e) c.before).number ≡ k → ReadsSo
    by_number None number = none_so (taken_none 0 (ap (reads_for place (unposted told) (end_of (across c.e) c.before).cell) number ∙ no_number (end_of (across c.e) c.before).cell)) (λ here sock probed known frame up ready num fr. no_some sock (sym number ∙ number_up sock probed up)) where
      no_some : {A : Type 0} (n : ℕ) → ◌≡◌ {A = Option ℕ} None (Some n) → A
      no_some n e = absurd cc
    by_number (Some n) number = at_number n number ((party (other x)).place == place) refl (r.known.number == n) refl r.how

  pub item_counts : ReadsSo
  item_counts = by_counts (counts journal log world more after place (unposted told) new party x m) where
    by_counts : (frames_towards (party x).name (party (other x)).name log ≡ []) ⊎ CountsOn journal log world more after place (unposted told) party x → ReadsSo
    by_counts (inl none) = let both = none_counts journal log world more after place (unposted told) new party x m none in inr (both.1 ∙ sym both.0, none_silent none)
    by_counts (inr c) = by_number c (end_of (across c.e) c.before).number refl
