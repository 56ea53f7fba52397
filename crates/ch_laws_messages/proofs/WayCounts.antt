-- How many of the frames that a node has written are read, before and after a turn.
use Rattle.std.proofs.Common.{◌≡◌, ◌⊎◌, inl, inr, ◌≤◌, ℕ, ◌+◌, Bool, true, false, cond, List, [], ◌∷◌, ◌++◌, length, drop, filter_map, refl, sym, ap, ◌∙◌, subst, arith, append_assoc}
use Rattle.std.proofs.lemmas.List.{append-nil, length-append}
use Rattle.std.proofs.lemmas.List.Elements.{filter_map-append}
use Rattle.std.specs.Prelude.{find, Option, Some, None, ◌==◌}
use Rattle.ch_wire.specs.declared.frame.Frame.{Frame}
use Rattle.ch_reader.specs.declared.item.Expected.{Expected}
use Rattle.ch_model.specs.declared.entry.Entry.{Entry}
use Rattle.ch_model.specs.declared.line.Line.{Line}
use Rattle.ch_model.specs.declared.name.End.{End}
use Rattle.ch_model.specs.declared.name.SockName.{SockName}
use Rattle.ch_model.specs.declared.step.Place.{Place}
use Rattle.ch_model.specs.declared.step.Step.{Step}
use Rattle.ch_model.specs.AccountsFrames.{Saying}
use Rattle.ch_model.specs.AccountsItems.{frame_of, frames_of}
use Rattle.ch_model.specs.HostWrites.{is_up}
use Rattle.ch_model.specs.Logs.{kept_with, collected_after, never}
use Rattle.ch_model.specs.Same.{across, is_end_of}
use Rattle.ch_model.specs.Sockets.{writings}
use Rattle.ch_model.specs.WorldSockets.{end_of, is_socket_named}
use Rattle.ch_model.specs.WorldState.{WorldSocket, World}
use Rattle.ch_race.specs.Pair.{Side, other}
use Rattle.ch_laws_bytes.specs.Streams.{Reader, reader_of, first_at, is_over}
use Rattle.ch_laws_calls.specs.Scenes.{IsPairOf, scene_of}
use Rattle.ch_laws_race.specs.Scene.{Party, link_of}
use Rattle.ch_laws_race.proofs.Readings.{other_twice}
use Rattle.ch_laws_reads.specs.Reads.{reads_of}
use Rattle.ch_laws_places.proofs.Sockets.{reads_for, reads_at_end}
use Rattle.ch_laws_peers.specs.Words.{Placed, placing, sayings}
use Rattle.ch_laws_peers.specs.Says.{written_by, frames_towards, towards, IsUpOn, Says}
use Rattle.ch_laws_peers.specs.Reads.{PlacedItem, placed_in, reads_with, reads, Way, IsWay, Comes}
use Rattle.ch_laws_peers.specs.Standing.{IsOfNodes, Standing}
use Rattle.ch_laws_messages.specs.WayGoes.{written_frames, GoesOn, IsGoing, new_for, EndTurn, EndOpens, AllTurn, GoTruly}
use Rattle.ch_laws_messages.specs.WayReadingGoes.{Grown}
use Rattle.ch_laws_messages.proofs.WayCome.{up_wrote, reads_up, way_reads, up_or, reads_down, across_end}
use Rattle.ch_laws_messages.proofs.WayFrames.{placed_append}
use Rattle.ch_laws_messages.proofs.WayLists.{datas_behind, count_behind, placing_append, truly_placed, true_first, placed_all, frames_placed}
use Rattle.ch_laws_messages.proofs.WayPairs.{said_more}
use Rattle.ch_laws_messages.proofs.WaySteps.{wrote_both}
use Rattle.ch_laws_messages.proofs.WayUps.{UpAt, up_at, named_end, across_lives, end_reads}
use Rattle.ch_laws_messages.proofs.WayWays.{way_frames}
use Rattle.ch_laws_messages.proofs.ArrivedWithin.{no_front}

-- ---- what is written grows

kept_front : (look : List Entry → Entry → Option Frame) (before rest : List Entry) (kept : List Frame) → collected_after never look before kept rest ≡ kept ++ collected_after never look before [] rest
kept_front look before [] kept = sym (append-nil kept)
kept_front look before (entry ∷ rest) kept = kept_front look (before ++ entry ∷ []) rest (kept_with (look before entry) kept) ∙ ap (λ (l : List Frame). l ++ collected_after never look (before ++ entry ∷ []) [] rest) (with_front (look before entry)) ∙ append_assoc kept (kept_with (look before entry) []) (collected_after never look (before ++ entry ∷ []) [] rest)
    ∙ ap (λ (l : List Frame). kept ++ l) (sym (kept_front look (before ++ entry ∷ []) rest (kept_with (look before entry) [])))
  where
    with_front : (o : Option Frame) → kept_with o kept ≡ kept ++ kept_with o []
    with_front None = sym (append-nil kept)
    with_front (Some frame) = refl

collected_both : (look : List Entry → Entry → Option Frame) (before xs ys : List Entry) (kept : List Frame) → collected_after never look before kept (xs ++ ys) ≡ collected_after never look (before ++ xs) (collected_after never look before kept xs) ys
collected_both look before [] ys kept = ap (λ (l : List Entry). collected_after never look l kept ys) (sym (append-nil before))
collected_both look before (x ∷ xs) ys kept = collected_both look (before ++ x ∷ []) xs ys (kept_with (look before x) kept) ∙ ap (λ (l : List Entry). collected_after never look l (collected_after never look (before ++ x ∷ []) (kept_with (look before x) kept) xs) ys) (append_assoc before (x ∷ []) xs)

-- the frames that are written later stand behind those that were
pub frames_grow : (x y : List ℕ) (log more : List Entry) → (new : List Frame) × (frames_towards x y (log ++ more) ≡ frames_towards x y log ++ new)
frames_grow x y log more = (collected_after never (written_by x y) log [] more, collected_both (written_by x y) [] log more [] ∙ kept_front (written_by x y) log more (frames_towards x y log))

pub grown : (journal : List Line) (log more : List Entry) (world : World) (party : Side → Party) (x : Side) → Says journal log world party x → Grown party x log (log ++ more)
grown journal log more world party x says = record { more = _; is = ap (λ (l : List Saying). placing l [] 0 (frames_towards (party x).name (party (other x)).name (log ++ more))) (said_more (party x).name (party (other x)).name log more) ∙ ap (placing (said ++ later) [] 0) (frames_grow (party x).name (party (other x)).name log more).1 ∙ placing_append (said ++ later) [] 0 frames _ ∙ ap (λ (l : List Placed). l ++ placing (said ++ later) (datas_behind [] frames) (count_behind [] 0 frames) (frames_grow (party x).name (party (other x)).name log more).0) stays } where
  said : List Saying
  said = sayings (party x).name (party (other x)).name log

  later : List Saying
  later = sayings (party x).name (party (other x)).name more

  frames : List Frame
  frames = frames_towards (party x).name (party (other x)).name log

  stays : placing (said ++ later) [] 0 frames ≡ towards (party x).name (party (other x)).name log
  stays = ap (placing (said ++ later) [] 0) (sym (frames_placed said [] 0 frames)) ∙ truly_placed journal said later [] 0 _ (towards (party x).name (party (other x)).name log) (true_first journal said [] 0 _ (towards (party x).name (party (other x)).name log) _ says.words) (placed_all said [] 0 frames)

-- an end that has written no frame had written none
none_before : (log more : List Entry) (s : SockName) (e : End) → frames_of (log ++ more) s e ≡ [] → frames_of log s e ≡ []
none_before log more s e none = by_first (writings log s e) refl (ap (λ (l : List (List ℕ)). filter_map frame_of (drop 1 l)) (sym (wrote_both log more s e)) ∙ none) where
  by_first : (w : List (List ℕ)) → writings log s e ≡ w → filter_map frame_of (drop 1 (writings log s e ++ writings more s e)) ≡ [] → filter_map frame_of (drop 1 (writings log s e)) ≡ []
  by_first [] is h = ap (λ (l : List (List ℕ)). filter_map frame_of (drop 1 l)) is
  by_first (piece ∷ pieces) is h = ap (λ (l : List (List ℕ)). filter_map frame_of (drop 1 l)) is ∙ no_front (filter_map frame_of pieces) (filter_map frame_of (writings more s e))
      (sym (filter_map-append frame_of pieces (writings more s e)) ∙ ap (λ (l : List (List ℕ)). filter_map frame_of (drop 1 (l ++ writings more s e))) (sym is) ∙ h)

-- ---- where nothing was written

-- a node's end, and what is written there
pub end_named : (journal : List Line) (log : List Entry) (world : World) (party : Side → Party) (x : Side) (s : SockName) (e : End) → Standing journal log world → IsPairOf journal party → IsUpOn party world x s e → is_end_of (party x).name (party (other x)).name s e ≡ true
end_named journal log world party x s e st pair u = let a = up_at journal log world party x s e st pair u in subst (λ (n : SockName). is_end_of (party x).name (party (other x)).name n e ≡ true) a.name (named_end party world x e a.i u.number a.socket (st.each_pair.shown party pair).names_differ a.has)

-- the frames at any end are none, where x has written none
pub none_there : (journal : List Line) (log : List Entry) (world : World) (party : Side → Party) (x : Side) (s : SockName) (e : End) → Says journal log world party x → is_end_of (party x).name (party (other x)).name s e ≡ true → frames_towards (party x).name (party (other x)).name log ≡ [] → written_frames (sayings (party x).name (party (other x)).name log) (writings log s e) ≡ []
none_there journal log world party x s e says of none = ap (placing (sayings (party x).name (party (other x)).name log) [] 0) (by_one (says.one s e of)) where
  by_one : (frames_of log s e ≡ []) ⊎ (IsUpOn party world x s e × (frames_of log s e ≡ frames_towards (party x).name (party (other x)).name log)) → frames_of log s e ≡ []
  by_one (inl gone) = gone
  by_one (inr u) = u.1 ∙ none

pub no_placed : (gone all : List PlacedItem) → placed_in (gone ++ all) ≡ [] → (placed_in gone ≡ []) × (placed_in all ≡ [])
no_placed gone all e = let both : placed_in gone ++ placed_in all ≡ [] = sym (placed_append gone all) ∙ e in (no_front (placed_in gone) (placed_in all) both, no_back (placed_in gone) (placed_in all) both) where
  no_back : {A : Type 0} (xs ys : List A) → xs ++ ys ≡ [] → ys ≡ []
  no_back [] ys e = e
  no_back (x ∷ xs) ys e = absurd cc

-- ---- a turn

-- what is given of a turn, one way between two nodes
pub record MayCount (journal : List Line) (log : List Entry) (world : World) (more : List Entry) (after : World) (place : ℕ) (told : List Step) (new : ℕ → List PlacedItem) (party : Side → Party) (x : Side) : Type 0 where
  pub nodes : IsOfNodes journal
  pub pair : IsPairOf journal party
  pub before : Standing journal log world
  pub later : Standing journal (log ++ more) after
  pub says : Says journal log world party x
  pub says_later : Says journal (log ++ more) after party x
  pub comes : Comes log world party x
  pub all : AllTurn place told new log world (log ++ more) after
  pub truly : GoTruly place told new log world (log ++ more) after party x

-- x is up on one end before and after it, and this was read at the end across
pub record CountsOn (journal : List Line) (log : List Entry) (world : World) (more : List Entry) (after : World) (place : ℕ) (told : List Step) (party : Side → Party) (x : Side) : Type 0 where
  pub s : SockName
  pub e : End
  pub up : IsUpOn party world x s e
  pub before : WorldSocket
  pub found : find (is_socket_named s) world.sockets ≡ Some before
  pub live : is_over (end_of (across e) before) ≡ false
  pub reader : Reader
  pub reads_there : reader_of world before (across e) ≡ Some reader
  pub way : Way reader (first_at (across e)) (end_of (across e) before).unread (end_of (across e) before).places (writings log s e) (sayings (party x).name (party (other x)).name log)
  pub taken : List PlacedItem
  pub others : List PlacedItem
  pub split : way.all ≡ taken ++ others
  pub many : length taken ≡ reads_at_end place told (end_of (across e) before)
  pub was : reads party world x log ≡ length (placed_in way.gone)
  pub now : reads party after x (log ++ more) ≡ length (placed_in way.gone) + length (placed_in taken)

-- what goes on, where something reads there before and after
at_readers : (o p : Option Reader) (reader now : Reader) (first : Expected) (unread left : List ℕ) (before after : List (Option Place)) (wrote more : List (List ℕ)) (said next : List Saying) (count : ℕ) (new : List PlacedItem) → o ≡ Some reader → p ≡ Some now
    → ((w : IsWay o first unread before wrote said) → IsGoing o p first unread left before after wrote more said next count w new) → (w : Way reader first unread before wrote said) → GoesOn reader now first unread left before after wrote more said next count w new
at_readers o p reader now first unread left before after wrote more said next count new r n g = subst (λ (k : Option Reader). (w : IsWay k first unread before wrote said) → IsGoing k (Some now) first unread left before after wrote more said next count w new) r
    (subst (λ (k : Option Reader). (w : IsWay o first unread before wrote said) → IsGoing o k first unread left before after wrote more said next count w new) n g)

module _ (journal : List Line) (log : List Entry) (world : World) (more : List Entry) (after : World) (place : ℕ) (told : List Step) (new : ℕ → List PlacedItem) (party : Side → Party) (x : Side) (m : MayCount journal log world more after place told new party x) where
  abbrev said : List Saying
  said = sayings (party x).name (party (other x)).name log

  abbrev next : List Saying
  next = sayings (party x).name (party (other x)).name (log ++ more)

  abbrev all_now : List Placed
  all_now = towards (party x).name (party (other x)).name (log ++ more)

  theirs : (s : SockName) (e : End) → is_end_of (party x).name (party (other x)).name s e ≡ true → is_end_of (party (other x)).name (party (other (other x))).name s (across e) ≡ true
  theirs s e of = subst (λ (z : Side). is_end_of (party (other x)).name (party z).name s (across e) ≡ true) (sym (other_twice x)) (across_end (party x).name (party (other x)).name s e of)

  -- ---- where x is up after it

  record UpThen : Type 0 where
    s : SockName
    e : End
    up : IsUpOn party after x s e
    socket : WorldSocket
    found : find (is_socket_named s) after.sockets ≡ Some socket
    of : is_end_of (party x).name (party (other x)).name s e ≡ true
    live : is_over (end_of (across e) socket) ≡ false
    now : Reader
    reads_now : reader_of after socket (across e) ≡ Some now

  up_then : (s : SockName) (e : End) → IsUpOn party after x s e → UpThen
  up_then s e u = record { s = s; e = e; up = u; socket = a.socket; found = a.found; of = of; live = live; now = r.0; reads_now = r.1 } where
    a : UpAt party after x s e u.number
    a = up_at journal (log ++ more) after party x s e m.later m.pair u

    of : is_end_of (party x).name (party (other x)).name s e ≡ true
    of = end_named journal (log ++ more) after party x s e m.later m.pair u

    live : is_over (end_of (across e) a.socket) ≡ false
    live = across_lives journal m.nodes (log ++ more) after party x s e a.socket m.later m.pair u a.found

    r : (reader : Reader) × (reader_of after a.socket (across e) ≡ Some reader)
    r = end_reads journal (log ++ more) after party (other x) s a.socket (across e) m.later m.pair a.found (theirs s e of) live

  up_then_is : (s : SockName) (e : End) (u : IsUpOn party after x s e) → ((up_then s e u).s ≡ s) × ((up_then s e u).e ≡ e)
  unfolding up_then
  up_then_is s e u = (refl, refl)

  -- as many are read as are gone there
  counted : (u : UpThen) (wrote : List (List ℕ)) → writings (log ++ more) u.s u.e ≡ wrote → (w : Way u.now (first_at (across u.e)) (end_of (across u.e) u.socket).unread (end_of (across u.e) u.socket).places wrote next) → reads party after x (log ++ more) ≡ length (placed_in w.gone)
  counted u wrote is w = reads_up party after x (log ++ more) u.s u.e u.socket u.up u.found ∙ ap (λ (o : Option Reader). reads_with o places (length all_now)) u.reads_now ∙ ap (λ (l : List Placed). reads_with (Some u.now) places (length l)) (sym all_is ∙ ap (written_frames next) is) ∙ way_reads u.now (across u.e) (end_of (across u.e) u.socket).unread places wrote next w where
    places : List (Option Place)
    places = (end_of (across u.e) u.socket).places

    all_is : written_frames next (writings (log ++ more) u.s u.e) ≡ all_now
    all_is = ap (placing next [] 0) (up_wrote journal (log ++ more) after party x u.s u.e m.says_later u.of u.up)

  -- what went on there, where the socket was there
  record WentOn (u : UpThen) (t : EndTurn place told new log world (log ++ more) after u.s u.socket u.e) : Type 0 where
    reader : Reader
    reads_there : reader_of world t.before (across u.e) ≡ Some reader
    way : Way reader (first_at (across u.e)) (end_of (across u.e) t.before).unread (end_of (across u.e) t.before).places (writings log u.s u.e) said
    on : GoesOn reader u.now (first_at (across u.e)) (end_of (across u.e) t.before).unread (end_of (across u.e) u.socket).unread (end_of (across u.e) t.before).places (end_of (across u.e) u.socket).places (writings log u.s u.e) t.more said next (reads_at_end place told (end_of (across u.e) t.before)) way
        (new_for place new (end_of u.e t.before).cell (end_of u.e t.before).number)

  went_on : (u : UpThen) (t : EndTurn place told new log world (log ++ more) after u.s u.socket u.e) → WentOn u t
  went_on u t = record {
    reader = r.0;
    reads_there = r.1;
    way = way;
    on = at_readers (reader_of world t.before (across u.e)) (reader_of after u.socket (across u.e)) r.0 u.now (first_at (across u.e)) (end_of (across u.e) t.before).unread (end_of (across u.e) u.socket).unread (end_of (across u.e) t.before).places (end_of (across u.e) u.socket).places
        (writings log u.s u.e) t.more said next (reads_at_end place told (end_of (across u.e) t.before)) (new_for place new (end_of u.e t.before).cell (end_of u.e t.before).number) r.1 u.reads_now (λ w. t.goes said next u.live w (m.truly u.s u.e u.socket u.of u.found t)) way;
  } where
    r : (reader : Reader) × (reader_of world t.before (across u.e) ≡ Some reader)
    r = end_reads journal log world party (other x) u.s t.before (across u.e) m.before m.pair t.found (theirs u.s u.e u.of) (t.lives u.live)

    way : Way r.0 (first_at (across u.e)) (end_of (across u.e) t.before).unread (end_of (across u.e) t.before).places (writings log u.s u.e) said
    way = subst (λ (k : Option Reader). IsWay k (first_at (across u.e)) (end_of (across u.e) t.before).unread (end_of (across u.e) t.before).places (writings log u.s u.e) said) r.1 (m.comes.ways u.s u.e t.before u.of t.found (t.lives u.live))

  -- ---- where x had written nothing

  no_less : (n : ℕ) → n ≤ 0 → n ≡ 0
  no_less n h = omega arith

  opened_counts : (u : UpThen) → EndOpens log world (log ++ more) after u.s u.socket u.e → reads party after x (log ++ more) ≡ 0
  opened_counts u o = counted u [] (o.silent ∙ m.comes.unopened u.s u.e u.of o.none) w ∙ ap length (no_placed w.gone w.all (sym (way_frames u.now (across u.e) (end_of (across u.e) u.socket).unread (end_of (across u.e) u.socket).places [] next w))).0 where
    w : Way u.now (first_at (across u.e)) (end_of (across u.e) u.socket).unread (end_of (across u.e) u.socket).places [] next
    w = subst (λ (k : Option Reader). IsWay k (first_at (across u.e)) (end_of (across u.e) u.socket).unread (end_of (across u.e) u.socket).places [] next) u.reads_now (o.way next)

  silent_counts : frames_towards (party x).name (party (other x)).name log ≡ [] → (u : UpThen) (t : EndTurn place told new log world (log ++ more) after u.s u.socket u.e) → WentOn u t → reads party after x (log ++ more) ≡ 0
  silent_counts none u t w = counted u (writings log u.s u.e ++ t.more) t.wrote w.on.then_way ∙ ap (λ (l : List PlacedItem). length (placed_in l)) w.on.gone ∙ ap length (placed_append w.way.gone w.on.taken) ∙ ap (λ (l : List Placed). length (l ++ placed_in w.on.taken)) were.0 ∙ ap length taken where
    were : (placed_in w.way.gone ≡ []) × (placed_in w.way.all ≡ [])
    were = no_placed w.way.gone w.way.all (sym (way_frames w.reader (across u.e) (end_of (across u.e) t.before).unread (end_of (across u.e) t.before).places (writings log u.s u.e) said w.way) ∙ none_there journal log world party x u.s u.e m.says u.of none)

    taken : placed_in w.on.taken ≡ []
    taken = (no_placed w.on.taken w.on.others (ap placed_in (sym w.on.split) ∙ were.1)).0

  -- then nothing is read before or after
  pub none_counts : frames_towards (party x).name (party (other x)).name log ≡ [] → (reads party world x log ≡ 0) × (reads party after x (log ++ more) ≡ 0)
  none_counts none = (no_less (reads party world x log) (subst (λ (l : List Placed). reads party world x log ≤ length l) (ap (placing said [] 0) none) m.comes.within), by_up (up_or journal (log ++ more) after party x m.later m.pair)) where
    by_turn : (u : UpThen) → EndTurn place told new log world (log ++ more) after u.s u.socket u.e ⊎ EndOpens log world (log ++ more) after u.s u.socket u.e → reads party after x (log ++ more) ≡ 0
    by_turn u (inr o) = opened_counts u o
    by_turn u (inl t) = silent_counts none u t (went_on u t)

    by_up : ((s : SockName) × (e : End) × IsUpOn party after x s e) ⊎ (is_up (link_of (scene_of party after) x).state ≡ false) → reads party after x (log ++ more) ≡ 0
    by_up (inr down) = reads_down party after x (log ++ more) down
    by_up (inl u) = let v = up_then u.0 u.1 u.2 in by_turn v (m.all.ends v.s v.socket v.e v.found)

  -- ---- where x is up on one end before and after it

  on_counts : (u : UpThen) → IsUpOn party world x u.s u.e → (t : EndTurn place told new log world (log ++ more) after u.s u.socket u.e) → WentOn u t → CountsOn journal log world more after place told party x
  on_counts u was t w = record {
    s = u.s;
    e = u.e;
    up = was;
    before = t.before;
    found = t.found;
    live = t.lives u.live;
    reader = w.reader;
    reads_there = w.reads_there;
    way = w.way;
    taken = w.on.taken;
    others = w.on.others;
    split = w.on.split;
    many = w.on.many;
    was = reads_up party world x log u.s u.e t.before was t.found ∙ ap (λ (o : Option Reader). reads_with o (end_of (across u.e) t.before).places (length all_was)) w.reads_there ∙ ap (λ (l : List Placed). reads_with (Some w.reader) (end_of (across u.e) t.before).places (length l)) (sym all_is)
        ∙ way_reads w.reader (across u.e) (end_of (across u.e) t.before).unread (end_of (across u.e) t.before).places (writings log u.s u.e) said w.way;
    now = counted u (writings log u.s u.e ++ t.more) t.wrote w.on.then_way ∙ ap (λ (l : List PlacedItem). length (placed_in l)) w.on.gone ∙ ap length (placed_append w.way.gone w.on.taken) ∙ length-append (placed_in w.way.gone) (placed_in w.on.taken);
  } where
    all_was : List Placed
    all_was = towards (party x).name (party (other x)).name log

    all_is : written_frames said (writings log u.s u.e) ≡ all_was
    all_is = ap (placing said [] 0) (up_wrote journal log world party x u.s u.e m.says u.of was)

  -- either nothing was written, or x is up on one end before and after it
  pub counts : (frames_towards (party x).name (party (other x)).name log ≡ []) ⊎ CountsOn journal log world more after place told party x
  counts = by_up (up_or journal log world party x m.before m.pair) where
    by_turn : (s : SockName) (e : End) → IsUpOn party world x s e → (v : IsUpOn party after x s e) → (u : UpThen) → u.s ≡ s → u.e ≡ e → EndTurn place told new log world (log ++ more) after u.s u.socket u.e ⊎ EndOpens log world (log ++ more) after u.s u.socket u.e → CountsOn journal log world more after place told party x
    by_turn s e was v u ss ee (inl t) = on_counts u (subst (λ (n : SockName). IsUpOn party world x n u.e) (sym ss) (subst (λ (f : End). IsUpOn party world x s f) (sym ee) was)) t (went_on u t)
    by_turn s e was v u ss ee (inr o) = let a = up_at journal log world party x s e m.before m.pair was in no_socket a.socket (sym o.none ∙ ap (λ (n : SockName). find (is_socket_named n) world.sockets) ss ∙ a.found) where
      no_socket : {A : Type 0} (w : WorldSocket) → ◌≡◌ {A = Option WorldSocket} None (Some w) → A
      no_socket w h = absurd cc

    by_one : (s : SockName) (e : End) → IsUpOn party world x s e → is_end_of (party x).name (party (other x)).name s e ≡ true → (frames_of (log ++ more) s e ≡ []) ⊎ (IsUpOn party after x s e × (frames_of (log ++ more) s e ≡ frames_towards (party x).name (party (other x)).name (log ++ more))) → (frames_towards (party x).name (party (other x)).name log ≡ []) ⊎ CountsOn journal log world more after place told party x
    by_one s e was of (inl none) = inl (sym (up_wrote journal log world party x s e m.says of was) ∙ none_before log more s e none)
    by_one s e was of (inr v) = let u = up_then s e v.0 in inr (by_turn s e was v.0 u (up_then_is s e v.0).0 (up_then_is s e v.0).1 (m.all.ends u.s u.socket u.e u.found))

    by_up : ((s : SockName) × (e : End) × IsUpOn party world x s e) ⊎ (is_up (link_of (scene_of party world) x).state ≡ false) → (frames_towards (party x).name (party (other x)).name log ≡ []) ⊎ CountsOn journal log world more after place told party x
    by_up (inr down) = inl (m.says.down down)
    by_up (inl u) = let of = end_named journal log world party x u.0 u.1 m.before m.pair u.2 in by_one u.0 u.1 u.2 of (m.says_later.one u.0 u.1 of)

-- nothing is read where nothing was taken
none_taken : (taken : List PlacedItem) → length taken ≡ 0 → placed_in taken ≡ []
none_taken [] e = refl
none_taken (one ∷ rest) e = absurd cc

pub none_at_end : (place : ℕ) (told : List Step) (c n : Option ℕ) → ((k : ℕ) → reads_of k told ≡ 0) → reads_for place told c n ≡ 0
none_at_end place told None n none = refl
none_at_end place told (Some p) None none = refl
none_at_end place told (Some p) (Some k) none = by_test (p == place) where
  by_test : (b : Bool) → cond b (reads_of k told) 0 ≡ 0
  by_test true = none k
  by_test false = refl

pub none_counts_on : (journal : List Line) (log : List Entry) (world : World) (more : List Entry) (after : World) (place : ℕ) (told : List Step) (party : Side → Party) (x : Side) (c : CountsOn journal log world more after place told party x) → placed_in c.taken ≡ [] → reads party after x (log ++ more) ≡ reads party world x log
none_counts_on journal log world more after place told party x c none = c.now ∙ ap (λ (l : List Placed). length (placed_in c.way.gone) + length l) none ∙ zero_more (length (placed_in c.way.gone)) ∙ sym c.was where
  zero_more : (n : ℕ) → n + 0 ≡ n
  zero_more n = omega arith

-- a turn that reads nothing
pub unread_counts : (journal : List Line) (log : List Entry) (world : World) (more : List Entry) (after : World) (place : ℕ) (told : List Step) (new : ℕ → List PlacedItem) (party : Side → Party) (x : Side) (m : MayCount journal log world more after place told new party x) → ((k : ℕ) → reads_of k told ≡ 0) → reads party after x (log ++ more) ≡ reads party world x log
unread_counts journal log world more after place told new party x m none = by_counts (counts journal log world more after place told new party x m) where
  by_counts : (frames_towards (party x).name (party (other x)).name log ≡ []) ⊎ CountsOn journal log world more after place told party x → reads party after x (log ++ more) ≡ reads party world x log
  by_counts (inl gone) = let both = none_counts journal log world more after place told new party x m gone in both.1 ∙ sym both.0
  by_counts (inr c) = none_counts_on journal log world more after place told party x c (none_taken c.taken (c.many ∙ none_at_end place told (end_of (across c.e) c.before).cell (end_of (across c.e) c.before).number none))
