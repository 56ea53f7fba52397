-- What is under way between two nodes, by what was written at each end.
use Rattle.std.proofs.Common.{◌≡◌, ◌⊎◌, inl, inr, ◌≤◌, ℕ, suc, ◌+◌, ◌-◌, Bool, true, false, cond, not, ◌&&◌, List, [], ◌∷◌, ◌++◌, length, drop, filter_map, refl, sym, ap, ◌∙◌, subst, arith, append_assoc}
use Rattle.std.proofs.lemmas.Bool.Decides.{nat_tests}
use Rattle.std.proofs.lemmas.List.{length-append, length-map}
use Rattle.std.proofs.lemmas.List.Elements.{filter_map-append}
use Rattle.std.proofs.Math.Seq.{drop-append_seam}
use Rattle.std.specs.List.{cons_option}
use Rattle.std.specs.Prelude.{find, Option, Some, None, ◌==◌}
use Rattle.std.specs.Str.{bytes_eq}
use Rattle.ch_link.specs.declared.LinkState.{LinkState}
use Rattle.ch_link.specs.declared.LinkState.TheVariants as states
use Rattle.ch_wire.specs.declared.frame.Frame.{Frame}
use Rattle.ch_reader.specs.Items.{MayFollow, expected_after}
use Rattle.ch_reader.specs.declared.item.Expected.{Expected}
use Rattle.ch_reader.specs.declared.item.Expected.TheVariants as expected
use Rattle.ch_reader.specs.declared.item.Item.TheVariants as items
use Rattle.ch_model.specs.declared.entry.Entry.{Entry}
use Rattle.ch_model.specs.declared.entry.Entry.TheVariants as entries
use Rattle.ch_model.specs.declared.line.Line.{Line}
use Rattle.ch_model.specs.declared.name.End.{End}
use Rattle.ch_model.specs.declared.name.End.TheVariants.{O, T}
use Rattle.ch_model.specs.declared.name.SockName.{SockName}
use Rattle.ch_model.specs.declared.step.Place.{Place}
use Rattle.ch_model.specs.AccountsFrames.{Saying}
use Rattle.ch_model.specs.AccountsItems.{frame_of, frames_of}
use Rattle.ch_model.specs.HostWrites.{is_up}
use Rattle.ch_model.specs.Logs.{kept_with, collected_after, never}
use Rattle.ch_model.specs.Same.{across, is_end_of, same_end}
use Rattle.ch_model.specs.Sockets.{writing, writings}
use Rattle.ch_model.specs.WorldSockets.{end_of, is_socket_named}
use Rattle.ch_model.specs.WorldState.{WorldSocket, World}
use Rattle.ch_race.specs.Pair.{Side, other}
use Rattle.ch_laws_bytes.specs.Streams.{Reader, reader_of, first_at, is_over}
use Rattle.ch_laws_calls.specs.Scenes.{IsPairOf, scene_of}
use Rattle.ch_laws_log.proofs.Stored.{self_same}
use Rattle.ch_laws_race.proofs.Readings.{other_twice}
use Rattle.ch_laws_race.specs.Scene.{Party, link_of}
use Rattle.ch_laws_peers.specs.Words.{Placed, placing, sayings}
use Rattle.ch_laws_peers.specs.Says.{written_by, frames_towards, towards, IsUpOn, Says}
use Rattle.ch_laws_peers.specs.Reads.{PlacedItem, items_in, placed_in, UnderWay, IsUnderWay, reads_expecting, reads_with, reads_at, reads_across, reads_from, reads, Way, IsWay, Comes}
use Rattle.ch_laws_peers.specs.Standing.{Standing}
use Rattle.ch_laws_messages.specs.WayGoes.{written_frames, OnWay}
use Rattle.ch_laws_messages.proofs.WayFrames.{placed_append}
use Rattle.ch_laws_messages.proofs.WayUps.{UpAt, up_at, up_end, up_once, named_end, frame_up, both_up}
use Rattle.ch_laws_messages.proofs.WayWays.{items_append, follow_rest, way_frames}

clash : {A : Type 0} → true ≡ false → A
clash e = absurd cc

-- ---- how many are read

all_frames : (all : List PlacedItem) → MayFollow expected.Frame (items_in all) → length (placed_in all) ≡ length all
all_frames [] m = refl
all_frames ((items.Frame frame, place) ∷ rest) m = ap suc (all_frames rest m.1)
all_frames ((items.Request request, place) ∷ rest) m = absurd m.0
all_frames ((items.Answer answer, place) ∷ rest) m = absurd m.0

less : (a b : ℕ) → (a + b) - b ≡ a
less a b = omega arith

none_first : (e : End) (places : List (Option Place)) (total : ℕ) → reads_expecting (first_at e) places total ≡ 0
none_first O places total = refl
none_first T places total = refl

-- as many as are gone
pub way_reads : (reader : Reader) (e : End) (unread : List ℕ) (places : List (Option Place)) (wrote : List (List ℕ)) (said : List Saying) (w : Way reader (first_at e) unread places wrote said) → reads_expecting reader.0 places (length (written_frames said wrote)) ≡ length (placed_in w.gone)
way_reads reader e unread places wrote said w = by_gone w.gone refl where
  total : (gone : List PlacedItem) → w.gone ≡ gone → length (written_frames said wrote) ≡ length (placed_in gone) + length (placed_in w.all)
  total gone g = ap length (way_frames reader e unread places wrote said w ∙ ap (λ (l : List PlacedItem). placed_in (l ++ w.all)) g ∙ placed_append gone w.all) ∙ length-append (placed_in gone) (placed_in w.all)

  at : (gone : List PlacedItem) → w.gone ≡ gone → reader.0 ≡ expected_after (first_at e) (items_in gone)
  at gone g = w.at ∙ ap (λ (l : List PlacedItem). expected_after (first_at e) (items_in l)) g

  follows : reader.0 ≡ expected.Frame → MayFollow expected.Frame (items_in w.all)
  follows h = subst (λ (k : Expected). MayFollow k (items_in w.all)) (sym w.at ∙ h) (follow_rest (first_at e) (items_in w.gone) (items_in w.all) (subst (MayFollow (first_at e)) (items_append w.gone w.all) w.may))

  by_gone : (gone : List PlacedItem) → w.gone ≡ gone → reads_expecting reader.0 places (length (written_frames said wrote)) ≡ length (placed_in w.gone)
  by_gone [] g = ap (λ (k : Expected). reads_expecting k places (length (written_frames said wrote))) (at [] g) ∙ none_first e places (length (written_frames said wrote)) ∙ sym (ap (λ (l : List PlacedItem). length (placed_in l)) g)
  by_gone (one ∷ rest) g =
      let frame : reader.0 ≡ expected.Frame = at (one ∷ rest) g in
      let many : length places ≡ length (placed_in w.all) = ap length w.stand ∙ length-map w.all (λ (x : PlacedItem). x.1) ∙ sym (all_frames w.all (follows frame)) in
      ap (λ (k : Expected). reads_expecting k places (length (written_frames said wrote))) frame ∙ ap (λ (n : ℕ). n - length places) (total (one ∷ rest) g) ∙ ap (λ (n : ℕ). (length (placed_in (one ∷ rest)) + length (placed_in w.all)) - n) many ∙ less (length (placed_in (one ∷ rest))) (length (placed_in w.all))
      ∙ sym (ap (λ (l : List PlacedItem). length (placed_in l)) g)

-- the others are under way
pub way_under : (reader : Reader) (e : End) (unread : List ℕ) (places : List (Option Place)) (wrote : List (List ℕ)) (said : List Saying) → Way reader (first_at e) unread places wrote said → UnderWay reader unread places (drop (reads_expecting reader.0 places (length (written_frames said wrote))) (written_frames said wrote))
way_under reader e unread places wrote said w = record {
  all = w.all;
  bytes = w.bytes;
  may = subst (λ (k : Expected). MayFollow k (items_in w.all)) (sym w.at) (follow_rest (first_at e) (items_in w.gone) (items_in w.all) (subst (MayFollow (first_at e)) (items_append w.gone w.all) w.may));
  stand = sym w.stand;
  framed = sym (ap (λ (n : ℕ). drop n (written_frames said wrote)) (way_reads reader e unread places wrote said w) ∙ ap (drop (length (placed_in w.gone))) (way_frames reader e unread places wrote said w ∙ placed_append w.gone w.all) ∙ drop-append_seam (placed_in w.gone) (placed_in w.all));
}

under_way : (reader : Option Reader) (e : End) (unread : List ℕ) (places : List (Option Place)) (wrote : List (List ℕ)) (said : List Saying) → IsWay reader (first_at e) unread places wrote said → IsUnderWay reader unread places (drop (reads_with reader places (length (written_frames said wrote))) (written_frames said wrote))
under_way None e unread places wrote said w = tt
under_way (Some reader) e unread places wrote said w = way_under reader e unread places wrote said w

fewer : (a b : ℕ) → a - b ≤ a
fewer a b = omega arith

expecting_within : (e : Expected) (places : List (Option Place)) (total : ℕ) → reads_expecting e places total ≤ total
expecting_within expected.Frame places total = fewer total (length places)
expecting_within expected.Request places total = none_within total where
  none_within : (n : ℕ) → 0 ≤ n
  none_within n = omega arith
expecting_within expected.Answer places total = none_within total where
  none_within : (n : ℕ) → 0 ≤ n
  none_within n = omega arith

-- ---- all that x has written

some_more : (n : ℕ) → (suc n == 0) ≡ false
some_more n = grind (arith, nat_tests)

-- where an end has written no frame, no entry adds one
none_more : (x y : List ℕ) (G : Type 0) (before rest : List Entry) (kept : List Frame) → ((s : SockName) (e : End) → is_end_of x y s e ≡ true → (frames_of (before ++ rest) s e ≡ []) ⊎ G) → (collected_after never (written_by x y) before kept rest ≡ kept) ⊎ G
none_more x y G before [] kept each = inl refl
none_more x y G before (entry ∷ rest) kept each = by_entry entry refl (λ k. none_more x y G (before ++ entry ∷ []) rest k (λ s e of. subst (λ (l : List Entry). (frames_of l s e ≡ []) ⊎ G) (sym (append_assoc before (entry ∷ []) rest)) (each s e of))) where
  -- what is found of it
  Adds : Option Frame → Type 0
  Adds o = (collected_after never (written_by x y) (before ++ entry ∷ []) (kept_with o kept) rest ≡ kept) ⊎ G

  by_frame : (s : SockName) (e : End) (bytes : List ℕ) (first : List ℕ) (more : List (List ℕ)) → entry ≡ entries.Wrote s e bytes → writings before s e ≡ first ∷ more → frames_of (before ++ entry ∷ rest) s e ≡ [] → frame_of bytes ≡ None
  by_frame s e bytes first more is w none = none_of (frame_of bytes) (filter_map frame_of more) (sym all ∙ none) where
    self_end : (e : End) → same_end e e ≡ true
    self_end O = refl
    self_end T = refl

    wrote : writing s e entry ≡ Some bytes
    wrote = ap (writing s e) is ∙ ap (λ b. cond b (Some bytes) None) (ap (λ b. b && same_end e e) (self_same s) ∙ self_end e)

    all : frames_of (before ++ entry ∷ rest) s e ≡ filter_map frame_of more ++ cons_option (frame_of bytes) (filter_map frame_of (writings rest s e))
    all = ap (λ (l : List (List ℕ)). filter_map frame_of (drop 1 l)) (filter_map-append (writing s e) before (entry ∷ rest) ∙ ap (λ (l : List (List ℕ)). l ++ cons_option (writing s e entry) (writings rest s e)) w ∙ ap (λ (o : Option (List ℕ)). (first ∷ more) ++ cons_option o (writings rest s e)) wrote)
        ∙ filter_map-append frame_of more (bytes ∷ writings rest s e)

    none_of : (o : Option Frame) (l : List Frame) → l ++ cons_option o (filter_map frame_of (writings rest s e)) ≡ [] → o ≡ None
    none_of None l h = refl
    none_of (Some frame) [] h = absurd cc
    none_of (Some frame) (g ∷ l) h = absurd cc

  by_entry : (one : Entry) → entry ≡ one → ((k : List Frame) → (collected_after never (written_by x y) (before ++ entry ∷ []) k rest ≡ k) ⊎ G) → Adds (written_by x y before entry)
  by_entry (entries.Wrote s e bytes) is more = subst Adds (sym (ap (written_by x y before) is)) (by_end (is_end_of x y s e) refl) where
    test : List (List ℕ) → Bool
    test l = not (length l == 0)

    by_first : is_end_of x y s e ≡ true → (w : List (List ℕ)) → writings before s e ≡ w → Adds (elim (test w) as (λ b. Option Frame) [ true ↦ frame_of bytes | false ↦ None ])
    by_first of [] w = more kept
    by_first of (first ∷ l) w = subst Adds (sym (ap (λ (c : Bool). elim (not c) as (λ b. Option Frame) [ true ↦ frame_of bytes | false ↦ None ]) (some_more (length l)))) (by_each (each s e of)) where
      by_each : (frames_of (before ++ entry ∷ rest) s e ≡ []) ⊎ G → Adds (frame_of bytes)
      by_each (inl none) = subst Adds (sym (by_frame s e bytes first l is w none)) (more kept)
      by_each (inr g) = inr g

    by_end : (b : Bool) → is_end_of x y s e ≡ b → Adds (elim (b && test (writings before s e)) as (λ b. Option Frame) [ true ↦ frame_of bytes | false ↦ None ])
    by_end true of = by_first of (writings before s e) refl
    by_end false of = more kept
  by_entry rest_of is more = subst Adds (sym (ap (written_by x y before) is)) (more kept)

-- on the socket that x is up on it is all that it has written
pub up_wrote : (journal : List Line) (log : List Entry) (world : World) (party : Side → Party) (x : Side) (s : SockName) (e : End) → Says journal log world party x → is_end_of (party x).name (party (other x)).name s e ≡ true → IsUpOn party world x s e → frames_of log s e ≡ frames_towards (party x).name (party (other x)).name log
up_wrote journal log world party x s e says of u = by_one (says.one s e of) where
  all : List Frame
  all = frames_towards (party x).name (party (other x)).name log

  each : frames_of log s e ≡ [] → (t : SockName) (f : End) → is_end_of (party x).name (party (other x)).name t f ≡ true → (frames_of log t f ≡ []) ⊎ (frames_of log s e ≡ all)
  each none t f it = by_there (says.one t f it) where
    by_there : (frames_of log t f ≡ []) ⊎ (IsUpOn party world x t f × (frames_of log t f ≡ all)) → (frames_of log t f ≡ []) ⊎ (frames_of log s e ≡ all)
    by_there (inl gone) = inl gone
    by_there (inr v) = let both = up_once party world x s t e f u v.0 in inr (ap (λ (n : SockName). frames_of log n e) both.0 ∙ ap (frames_of log t) both.1 ∙ v.1)

  by_one : (frames_of log s e ≡ []) ⊎ (IsUpOn party world x s e × (frames_of log s e ≡ all)) → frames_of log s e ≡ all
  by_one (inr v) = v.1
  by_one (inl none) = by_none (none_more (party x).name (party (other x)).name (frames_of log s e ≡ all) [] log [] (each none)) where
    by_none : (all ≡ []) ⊎ (frames_of log s e ≡ all) → frames_of log s e ≡ all
    by_none (inl gone) = none ∙ sym gone
    by_none (inr is) = is

-- ---- where x is up

-- what is read of x is read at the end across
pub reads_up : (party : Side → Party) (world : World) (x : Side) (log : List Entry) (s : SockName) (e : End) (socket : WorldSocket) (u : IsUpOn party world x s e) → find (is_socket_named s) world.sockets ≡ Some socket
    → reads party world x log ≡ reads_with (reader_of world socket (across e)) (end_of (across e) socket).places (length (towards (party x).name (party (other x)).name log))
reads_up party world x log s e socket u found = ap (λ (k : LinkState). reads_from world (party x).place k total) u.up ∙ ap (λ (o : Option (SockName × End)). reads_across world o total) u.found ∙ ap (λ (o : Option WorldSocket). reads_at world o (across e) total) found where
  total : ℕ
  total = length (towards (party x).name (party (other x)).name log)

-- x is up on an end, or nothing is read of it
pub up_or : (journal : List Line) (log : List Entry) (world : World) (party : Side → Party) (x : Side) → Standing journal log world → IsPairOf journal party → ((s : SockName) × (e : End) × IsUpOn party world x s e) ⊎ (is_up (link_of (scene_of party world) x).state ≡ false)
up_or journal log world party x st pair = by_state (link_of (scene_of party world) x).state refl where
  by_state : (k : LinkState) → (link_of (scene_of party world) x).state ≡ k → ((s : SockName) × (e : End) × IsUpOn party world x s e) ⊎ (is_up (link_of (scene_of party world) x).state ≡ false)
  by_state (states.Up n probed) h = let at = up_end journal log world party x n probed st pair h in inl (at.s, at.e, record { number = n; probed = probed; up = h; found = at.end })
  by_state states.Idle h = inr (ap is_up h)
  by_state states.AwaitOther h = inr (ap is_up h)
  by_state (states.Dialing d) h = inr (ap is_up h)

pub reads_down : (party : Side → Party) (world : World) (x : Side) (log : List Entry) → is_up (link_of (scene_of party world) x).state ≡ false → reads party world x log ≡ 0
reads_down party world x log down = by_state (link_of (scene_of party world) x).state refl where
  by_state : (k : LinkState) → (link_of (scene_of party world) x).state ≡ k → reads party world x log ≡ 0
  by_state (states.Up n probed) h = clash (sym (ap is_up h) ∙ down)
  by_state states.Idle h = ap (λ (k : LinkState). reads_from world (party x).place k (length (towards (party x).name (party (other x)).name log))) h
  by_state states.AwaitOther h = ap (λ (k : LinkState). reads_from world (party x).place k (length (towards (party x).name (party (other x)).name log))) h
  by_state (states.Dialing d) h = ap (λ (k : LinkState). reads_from world (party x).place k (length (towards (party x).name (party (other x)).name log))) h

-- ---- all of it

pub across_end : (x y : List ℕ) (s : SockName) (e : End) → is_end_of x y s e ≡ true → is_end_of y x s (across e) ≡ true
across_end x y s e of = swap e of where
  and_swap : (a b : Bool) → (a && b) ≡ true → (b && a) ≡ true
  and_swap true true h = refl
  and_swap true false h = absurd cc
  and_swap false b h = absurd cc

  swap : (e : End) → is_end_of x y s e ≡ true → is_end_of y x s (across e) ≡ true
  swap O h = and_swap (bytes_eq s.from x) (bytes_eq s.to y) h
  swap T h = and_swap (bytes_eq s.to x) (bytes_eq s.from y) h

pub comes_by : (journal : List Line) (log : List Entry) (world : World) (party : Side → Party) (x : Side) → Standing journal log world → IsPairOf journal party → Says journal log world party x → OnWay log world party x → Comes log world party x
comes_by journal log world party x st pair says w = record {
  within = within (up_or journal log world party x st pair);
  way = way;
  before = λ down. before down (up_or journal log world party x st pair);
  one = one;
  ways = w.ways;
  unopened = w.unopened;
} where
  all : List Placed
  all = towards (party x).name (party (other x)).name log

  said : List Saying
  said = sayings (party x).name (party (other x)).name log

  named : (s : SockName) (e : End) → IsUpOn party world x s e → is_end_of (party x).name (party (other x)).name s e ≡ true
  named s e u = let a = up_at journal log world party x s e st pair u in subst (λ (n : SockName). is_end_of (party x).name (party (other x)).name n e ≡ true) a.name (named_end party world x e a.i u.number a.socket (st.each_pair.shown party pair).names_differ a.has)

  is_all : (s : SockName) (e : End) → IsUpOn party world x s e → written_frames said (writings log s e) ≡ all
  is_all s e u = ap (placing said [] 0) (up_wrote journal log world party x s e says (named s e u) u)

  zero_within : (n : ℕ) → 0 ≤ n
  zero_within n = omega arith

  with_within : (reader : Option Reader) (places : List (Option Place)) (total : ℕ) → reads_with reader places total ≤ total
  with_within None places total = zero_within total
  with_within (Some reader) places total = expecting_within reader.0 places total

  within : ((s : SockName) × (e : End) × IsUpOn party world x s e) ⊎ (is_up (link_of (scene_of party world) x).state ≡ false) → reads party world x log ≤ length all
  within (inr down) = subst (λ (n : ℕ). n ≤ length all) (sym (reads_down party world x log down)) (zero_within (length all))
  within (inl u) = let a = up_at journal log world party x u.0 u.1 st pair u.2 in
      subst (λ (n : ℕ). n ≤ length all) (sym (reads_up party world x log u.0 u.1 a.socket u.2 a.found)) (with_within (reader_of world a.socket (across u.1)) (end_of (across u.1) a.socket).places (length all))

  way : (s : SockName) (e : End) (socket : WorldSocket) → IsUpOn party world x s e → find (is_socket_named s) world.sockets ≡ Some socket → is_over (end_of (across e) socket) ≡ false
      → IsUnderWay (reader_of world socket (across e)) (end_of (across e) socket).unread (end_of (across e) socket).places (drop (reads party world x log) all)
  way s e socket u found live = subst (λ (n : ℕ). IsUnderWay (reader_of world socket (across e)) (end_of (across e) socket).unread (end_of (across e) socket).places (drop n all)) (sym (reads_up party world x log s e socket u found))
      (subst (λ (l : List Placed). IsUnderWay (reader_of world socket (across e)) (end_of (across e) socket).unread (end_of (across e) socket).places (drop (reads_with (reader_of world socket (across e)) (end_of (across e) socket).places (length l)) l)) (is_all s e u)
      (under_way (reader_of world socket (across e)) (across e) (end_of (across e) socket).unread (end_of (across e) socket).places (writings log s e) said (w.ways s e socket (named s e u) found live)))

  before : is_up (link_of (scene_of party world) (other x)).state ≡ false → ((s : SockName) × (e : End) × IsUpOn party world x s e) ⊎ (is_up (link_of (scene_of party world) x).state ≡ false) → reads party world x log ≡ 0
  before down (inr off) = reads_down party world x log off
  before down (inl u) = reads_up party world x log u.0 u.1 a.socket u.2 a.found ∙ by_reader (reader_of world a.socket (across u.1)) refl where
    a : UpAt party world x u.0 u.1 u.2.number
    a = up_at journal log world party x u.0 u.1 st pair u.2

    places : List (Option Place)
    places = (end_of (across u.1) a.socket).places

    mine : is_end_of (party (other x)).name (party (other (other x))).name u.0 (across u.1) ≡ true
    mine = subst (λ (z : Side). is_end_of (party (other x)).name (party z).name u.0 (across u.1) ≡ true) (sym (other_twice x)) (across_end (party x).name (party (other x)).name u.0 u.1 (named u.0 u.1 u.2))

    by_expected : (reader : Reader) → reader_of world a.socket (across u.1) ≡ Some reader → (k : Expected) → reader.0 ≡ k → reads_expecting k places (length all) ≡ 0
    by_expected reader r expected.Frame h = clash (sym (frame_up journal log world party (other x) u.0 a.socket (across u.1) reader st pair a.found mine r h) ∙ down)
    by_expected reader r expected.Request h = refl
    by_expected reader r expected.Answer h = refl

    by_reader : (o : Option Reader) → reader_of world a.socket (across u.1) ≡ o → reads_with o places (length all) ≡ 0
    by_reader None r = refl
    by_reader (Some reader) r = by_expected reader r reader.0 refl

  one : (s : SockName) (e : End) → IsUpOn party world x s e → is_up (link_of (scene_of party world) (other x)).state ≡ true → IsUpOn party world (other x) s (across e)
  one s e u up = by_state (link_of (scene_of party world) (other x)).state refl where
    by_state : (k : LinkState) → (link_of (scene_of party world) (other x)).state ≡ k → IsUpOn party world (other x) s (across e)
    by_state (states.Up m probed) h = record { number = m; probed = probed; up = h; found = both_up journal log world party x s e m probed st pair u h }
    by_state states.Idle h = clash (sym up ∙ ap is_up h)
    by_state states.AwaitOther h = clash (sym up ∙ ap is_up h)
    by_state (states.Dialing d) h = clash (sym up ∙ ap is_up h)
