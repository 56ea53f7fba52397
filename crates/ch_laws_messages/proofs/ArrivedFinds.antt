-- Where a message that is got was read: on the socket that both nodes are up on, behind the items that were read before.
use Rattle.std.proofs.Common.{◌≡◌, ◌⊎◌, inl, inr, ℕ, Bool, true, false, cond, ◌&&◌, List, [], ◌∷◌, ◌++◌, length, refl, sym, ap, ◌∙◌, subst}
use Rattle.std.proofs.lemmas.Bool.{and_parts}
use Rattle.std.specs.Prelude.{find, slice_get, Option, Some, None, ◌==◌}
use Rattle.ch_wire.specs.Spelling.{IsFrame}
use Rattle.ch_wire.specs.declared.frame.Frame.{Frame}
use Rattle.ch_wire.specs.declared.frame.Frame.TheVariants as frames
use Rattle.ch_link.specs.declared.LinkState.{LinkState}
use Rattle.ch_link.specs.declared.LinkState.TheVariants.{Up}
use Rattle.ch_reader.specs.Items.{item_spelling, spellings, MayStand, MayFollow, expected_after}
use Rattle.ch_reader.specs.Reading.{reading}
use Rattle.ch_reader.specs.declared.item.Expected.{Expected}
use Rattle.ch_reader.specs.declared.item.Expected.TheVariants as expected
use Rattle.ch_reader.specs.declared.item.Front.{Front}
use Rattle.ch_reader.specs.declared.item.Front.TheVariants.{Whole}
use Rattle.ch_reader.specs.declared.item.Item.{Item}
use Rattle.ch_reader.specs.declared.item.Item.TheVariants as items
use Rattle.ch_reader.proofs.Bodies.{at}
use Rattle.ch_reader.proofs.Complete.{reads_item}
use Rattle.ch_model.specs.declared.entry.Entry.{Entry}
use Rattle.ch_model.specs.declared.line.Line.{Line}
use Rattle.ch_model.specs.declared.name.End.{End}
use Rattle.ch_model.specs.declared.name.End.TheVariants.{O, T}
use Rattle.ch_model.specs.declared.name.ProcName.{ProcName}
use Rattle.ch_model.specs.declared.name.SockName.{SockName}
use Rattle.ch_model.specs.declared.name.TargetName.{TargetName}
use Rattle.ch_model.specs.declared.step.Place.{Place}
use Rattle.ch_model.specs.AccountsFrames.{Saying}
use Rattle.ch_model.specs.Host.{is_ready_front}
use Rattle.ch_model.specs.HostState.{Socket}
use Rattle.ch_model.specs.HostWrites.{is_up}
use Rattle.ch_model.specs.Same.{across, is_end_of}
use Rattle.ch_model.specs.Sockets.{writings}
use Rattle.ch_model.specs.Stages.{Stage, Pending, Open, Ended, is_open, is_ended}
use Rattle.ch_model.specs.WorldSockets.{end_of, same_number, find_end, is_socket_named}
use Rattle.ch_model.specs.WorldState.{Cell, WorldSocket, World}
use Rattle.ch_race.specs.Pair.{Side, other}
use Rattle.ch_laws_race.specs.Scene.{Party, link_of}
use Rattle.ch_laws_items.proofs.Next.{Served, served}
use Rattle.ch_laws_log.proofs.Stored.{number_is}
use Rattle.ch_laws_log.proofs.WorldEnds.{found_is}
use Rattle.ch_laws_reads.proofs.Stays.{stays_whole}
use Rattle.ch_laws_bytes.specs.Streams.{Reader, reader_in, reader_at, readers_of, first_at, reads_at, reader_of, is_over}
use Rattle.ch_laws_calls.specs.Scenes.{IsPairOf, scene_of}
use Rattle.ch_laws_peers.specs.Words.{Placed, place_of, placing, sayings}
use Rattle.ch_laws_peers.specs.Says.{IsUpOn, Says}
use Rattle.ch_laws_peers.specs.Reads.{PlacedItem, items_in, placed_in, Way, IsWay, reads, Comes, ReadsNext}
use Rattle.ch_laws_peers.specs.Standing.{IsOfNodes, Standing}
use Rattle.ch_laws_messages.specs.CarriedNexts.{GetsNext}
use Rattle.ch_laws_messages.proofs.WayCome.{up_or}
use Rattle.ch_laws_messages.proofs.WayCounts.{end_named}
use Rattle.ch_laws_messages.proofs.WayUps.{UpAt, up_at, across_lives}
use Rattle.ch_laws_messages.proofs.WayWays.{items_append, follow_rest}
use Rattle.ch_laws_messages.proofs.ArrivedFronts.{none_whole}

clash : {A : Type 0} → true ≡ false → A
clash h = absurd cc

-- what is given of a message that is got
pub record MayGet (journal : List Line) (log : List Entry) (world : World) (party : Side → Party) (x : Side) (cell : Cell × ℕ) (by : ProcName) (to : TargetName) (epoch index : ℕ) : Type 0 where
  pub nodes : IsOfNodes journal
  pub pair : IsPairOf journal party
  pub standing : Standing journal log world
  pub says : Says journal log world party x
  pub comes : Comes log world party x
  pub gets : GetsNext log world party x cell by to epoch index

-- ---- where it is read

-- on an end of x that it is up on, what the host across holds, and what was written towards it
pub record IsReadAt (log : List Entry) (world : World) (party : Side → Party) (x : Side) (known : Socket) : Type 0 where
  pub s : SockName
  pub e : End
  pub up : IsUpOn party world x s e
  pub of : is_end_of (party x).name (party (other x)).name s e ≡ true
  pub socket : WorldSocket
  pub name : socket.name ≡ s
  pub found : find (is_socket_named s) world.sockets ≡ Some socket
  pub live : is_over (end_of (across e) socket) ≡ false
  pub cell : (end_of (across e) socket).cell ≡ Some (party (other x)).place
  pub reader : reader_of world socket (across e) ≡ Some (known.expected, known.since)
  pub way : Way (known.expected, known.since) (first_at (across e)) (end_of (across e) socket).unread (end_of (across e) socket).places (writings log s e) (sayings (party x).name (party (other x)).name log)

reads_mine : (readers : ℕ → ℕ → Option Reader) (first : Expected) (c m : Option ℕ) (place n : ℕ) → (same_number c place && same_number m n) ≡ true → (reads_at readers first c m ≡ readers place n) × (c ≡ Some place)
reads_mine readers first None m place n h = absurd cc
reads_mine readers first (Some p) None place n h = let parts = and_parts (p == place) false h in clash (sym parts.1)
reads_mine readers first (Some p) (Some k) place n h = let parts = and_parts (p == place) (k == n) h in (ap (λ (q : ℕ). readers q k) (number_is p place parts.0) ∙ ap (readers place) (number_is k n parts.1), ap Some (number_is p place parts.0))

up_number : (k : LinkState) (a c : ℕ) (b d : Bool) → k ≡ Up a b → k ≡ Up c d → a ≡ c
up_number k a c b d one two = let same : Up a b ≡ Up c d = sym one ∙ two in cc

pub not_ended : (stage : Stage) → is_open stage ≡ true → is_ended stage ≡ false
not_ended Pending e = refl
not_ended Open e = refl
not_ended Ended e = absurd cc

none_at : {A : Type 0} (n : ℕ) (x : A) → slice_get [] n ≡ Some x → ⊥
none_at n x e = cc

pub read_at : (journal : List Line) (log : List Entry) (world : World) (party : Side → Party) (x : Side) (cell : Cell × ℕ) (by : ProcName) (to : TargetName) (epoch index : ℕ) → (m : MayGet journal log world party x cell by to epoch index) → IsReadAt log world party x m.gets.reads.known
read_at journal log world party x cell by to epoch index m = by_up (up_or journal log world party x m.standing m.pair) where
  r : ReadsNext log world party x cell (frames.Data m.gets.id m.gets.payload) (place_of (Some m.gets.s))
  r = m.gets.reads

  said : List Saying
  said = sayings (party x).name (party (other x)).name log

  by_up : ((s : SockName) × (e : End) × IsUpOn party world x s e) ⊎ (is_up (link_of (scene_of party world) x).state ≡ false) → IsReadAt log world party x r.known
  by_up (inr down) = absurd (none_at (reads party world x log) _ (ap (λ (l : List Placed). slice_get l (reads party world x log)) (sym (ap (placing said [] 0) (m.says.down down))) ∙ r.next))
  by_up (inl u) = record {
    s = u.0;
    e = u.1;
    up = u.2;
    of = of;
    socket = a.socket;
    name = a.name;
    found = a.found;
    live = live;
    cell = mine.1;
    reader = reader;
    way = subst (λ (o : Option Reader). IsWay o (first_at (across u.1)) (end_of (across u.1) a.socket).unread (end_of (across u.1) a.socket).places (writings log u.0 u.1) said) reader (m.comes.ways u.0 u.1 a.socket of a.found live);
  } where
    a : UpAt party world x u.0 u.1 u.2.number
    a = up_at journal log world party x u.0 u.1 m.standing m.pair u.2

    of : is_end_of (party x).name (party (other x)).name u.0 u.1 ≡ true
    of = end_named journal log world party x u.0 u.1 m.standing m.pair u.2

    live : is_over (end_of (across u.1) a.socket) ≡ false
    live = across_lives journal m.nodes log world party x u.0 u.1 a.socket m.standing m.pair u.2 a.found

    o : IsUpOn party world (other x) u.0 (across u.1)
    o = m.comes.one u.0 u.1 u.2 (ap is_up r.up)

    number : o.number ≡ r.known.number
    number = up_number (link_of (scene_of party world) (other x)).state o.number r.sock o.probed r.probed o.up r.up ∙ sym r.number

    there : find_end (party (other x)).place r.known.number world.sockets ≡ Some (u.0, across u.1)
    there = ap (λ (n : ℕ). find_end (party (other x)).place n world.sockets) (sym number) ∙ o.found

    mine : (reader_of world a.socket (across u.1) ≡ readers_of world.cells (party (other x)).place r.known.number) × ((end_of (across u.1) a.socket).cell ≡ Some (party (other x)).place)
    mine = reads_mine (readers_of world.cells) (first_at (across u.1)) (end_of (across u.1) a.socket).cell (end_of (across u.1) a.socket).number (party (other x)).place r.known.number
        (found_is (party (other x)).place r.known.number world.sockets (u.0, across u.1) a.socket m.standing.all.sound.ends.sure.ends.sorted.0.apart there a.found)

    is_served : Served cell.0.host.sockets r.known
    is_served = served cell.0.host.sockets r.known (m.standing.all.sound.ends.sure.ends.agrees.sound (party (other x)).place cell r.at).apart r.ready

    stands : is_ended r.known.stage ≡ false
    stands = not_ended r.known.stage (and_parts (is_open r.known.stage) (is_ready_front (reading r.known.expected r.known.since).0) is_served.ready).0

    reader : reader_of world a.socket (across u.1) ≡ Some (r.known.expected, r.known.since)
    reader = mine.0 ∙ ap (λ (k : Option (Cell × ℕ)). reader_at k r.known.number) r.at ∙ ap reader_in is_served.found ∙ ap (λ b. cond {A = Option Reader} b None (Some (r.known.expected, r.known.since))) stands

-- ---- behind what it is read

-- the items that were read begin with the first of the socket; the next is the message's frame
pub record IsFront (expects : Expected) (since : List ℕ) (id : ℕ) (payload : List ℕ) (gone all : List PlacedItem) : Type 0 where
  pub head : PlacedItem
  pub read : List PlacedItem
  pub place : Option Place
  pub later : List PlacedItem
  pub gone_is : gone ≡ head ∷ read
  pub all_is : all ≡ (items.Frame (frames.Data id payload), place) ∷ later
  pub fits : IsFrame (frames.Data id payload)
  pub follow : MayFollow expected.Frame (items_in read)
  pub placed : placed_in gone ≡ placed_in read
  pub size : (reading expects since).1 ≡ length (item_spelling (items.Frame (frames.Data id payload)))

whole_is : (i j : Item) → Whole i ≡ Whole j → i ≡ j
whole_is i j e = cc

no_bytes : (xs ys : List ℕ) → xs ++ ys ≡ [] → xs ≡ []
no_bytes [] ys e = refl
no_bytes (y ∷ xs) ys e = absurd cc

-- the first item isn't a frame
head_placed : (e : End) (head : PlacedItem) (read : List PlacedItem) → MayStand (first_at e) head.0 → placed_in (head ∷ read) ≡ placed_in read
head_placed O (items.Answer answer, place) read m = refl
head_placed T (items.Request request, place) read m = refl
head_placed O (items.Request request, place) read m = absurd m
head_placed O (items.Frame frame, place) read m = absurd m
head_placed T (items.Answer answer, place) read m = absurd m
head_placed T (items.Frame frame, place) read m = absurd m

first_no_frame : {A : Type 0} (e : End) (frame : Frame) → MayStand (first_at e) (items.Frame frame) → A
first_no_frame O frame m = absurd m
first_no_frame T frame m = absurd m

follow_left : (e : Expected) (xs ys : List Item) → MayFollow e (xs ++ ys) → MayFollow e xs
follow_left e [] ys m = tt
follow_left e (i ∷ xs) ys m = (m.0, follow_left expected.Frame xs ys m.1)

frame_stands : (e : Expected) (frame : Frame) → MayStand e (items.Frame frame) → IsFrame frame
frame_stands expected.Frame frame m = m
frame_stands expected.Request frame m = absurd m
frame_stands expected.Answer frame m = absurd m

pub front_at : (e : End) (expects : Expected) (since unread : List ℕ) (id : ℕ) (payload : List ℕ) (gone all : List PlacedItem) → MayFollow (first_at e) (items_in (gone ++ all)) → expects ≡ expected_after (first_at e) (items_in gone) → since ++ unread ≡ spellings (items_in all)
    → (reading expects since).0 ≡ Whole (items.Frame (frames.Data id payload)) → IsFront expects since id payload gone all
front_at e expects since unread id payload gone [] may at_end bytes w = absurd (none_whole expects (items.Frame (frames.Data id payload)) (subst (λ (l : List ℕ). (reading expects l).0 ≡ Whole (items.Frame (frames.Data id payload))) (no_bytes since unread bytes) w))
front_at e expects since unread id payload gone (one ∷ later) may at_end bytes w = by_gone gone refl where
  the_item : Item
  the_item = items.Frame (frames.Data id payload)

  follows : MayFollow expects (items_in (one ∷ later))
  follows = subst (λ (k : Expected). MayFollow k (items_in (one ∷ later))) (sym at_end) (follow_rest (first_at e) (items_in gone) (items_in (one ∷ later)) (subst (MayFollow (first_at e)) (items_append gone (one ∷ later)) may))

  still : ((reading expects (since ++ unread)).0 ≡ Whole the_item) × ((reading expects (since ++ unread)).1 ≡ (reading expects since).1)
  still = stays_whole expects since unread the_item w

  spelled : reading expects (since ++ unread) ≡ at (Whole one.0) (length (item_spelling one.0))
  spelled = ap (reading expects) bytes ∙ reads_item expects one.0 (spellings (items_in later)) follows.0

  same : one.0 ≡ the_item
  same = whole_is one.0 the_item (sym (ap (λ (r : Front × ℕ). r.0) spelled) ∙ still.0)

  count : (reading expects since).1 ≡ length (item_spelling the_item)
  count = sym still.1 ∙ ap (λ (r : Front × ℕ). r.1) spelled ∙ ap (λ (i : Item). length (item_spelling i)) same

  stands : MayStand expects the_item
  stands = subst (MayStand expects) same follows.0

  by_gone : (list : List PlacedItem) → gone ≡ list → IsFront expects since id payload gone (one ∷ later)
  by_gone [] none = first_no_frame e (frames.Data id payload) (subst (λ (k : Expected). MayStand k the_item) (at_end ∙ ap (λ (l : List PlacedItem). expected_after (first_at e) (items_in l)) none) stands)
  by_gone (head ∷ read) is = record {
    head = head;
    read = read;
    place = one.1;
    later = later;
    gone_is = is;
    all_is = ap (λ (i : Item). (i, one.1) ∷ later) same;
    fits = frame_stands expects (frames.Data id payload) stands;
    follow = follow_left expected.Frame (items_in read) (items_in (one ∷ later)) (subst (MayFollow expected.Frame) (items_append read (one ∷ later)) firsts.1);
    placed = ap placed_in is ∙ head_placed e head read firsts.0;
    size = count;
  } where
    firsts : MayFollow (first_at e) (items_in ((head ∷ read) ++ one ∷ later))
    firsts = subst (λ (l : List PlacedItem). MayFollow (first_at e) (items_in (l ++ one ∷ later))) is may
