-- Happenings of the world, as moves.
use mathlib.Core.Path.{fun_ext}
use Rattle.std.specs.Prelude.{◌≡◌, ℕ, ◌+◌, ◌*◌, nat_eq, true, false, cond, List, [], ◌∷◌, length, take, drop, slice_get, Option, Some, None, Result, Ok, Err, if◌then◌else◌}
use Rattle.std.proofs.Common.{refl, ap, sym, ◌∙◌, subst}
use Rattle.std.proofs.lemmas.List.{append-nil}
use Rattle.std.proofs.lemmas.Bool.{eqb-true, and_parts}
use Rattle.std.proofs.lemmas.Option.{slice_get_within}
use Rattle.ch_base.specs.declared.memory.Stop.{Stop}
use Rattle.ch_laws_items.specs.Kept.{Apart}
use Rattle.ch_laws_items.proofs.Cells.{none_left, one_first}
use Rattle.ch_light.proofs.Lists.{set_here}
use Rattle.ch_model.specs.declared.entry.Entry.{Entry}
use Rattle.ch_model.specs.declared.entry.Entry.TheVariants as entries
use Rattle.ch_model.specs.declared.entry.Verdict.{Verdict}
use Rattle.ch_model.specs.declared.entry.Verdict.TheVariants as verdicts
use Rattle.ch_model.specs.declared.local.LocalEntry.{LocalEntry}
use Rattle.ch_model.specs.declared.local.LocalEntry.TheVariants as local
use Rattle.ch_model.specs.declared.local.LocalEvent.{LocalEvent}
use Rattle.ch_model.specs.declared.step.Place.{Place}
use Rattle.ch_model.specs.declared.local.LocalEvent.TheVariants as events
use Rattle.ch_model.specs.declared.name.End.{End}
use Rattle.ch_model.specs.declared.name.End.TheVariants.{O, T}
use Rattle.ch_model.specs.declared.step.Step.{Step}
use Rattle.ch_model.specs.declared.step.Step.TheVariants as steps
use Rattle.ch_model.specs.declared.step.SocketEvent.{SocketEvent}
use Rattle.ch_model.specs.declared.step.SocketEvent.TheVariants as sockets
use Rattle.ch_model.specs.HostState.{Socket, HostState}
use Rattle.ch_model.specs.HostSteps.{Stepped, still}
use Rattle.ch_model.specs.Stages.{Stage, is_open}
use Rattle.ch_model.specs.Host.{keeps, front_of, handles, some_steps, host_on, host_next}
use Rattle.ch_model.specs.WorldState.{Cell, WorldEnd, WorldSocket, World}
use Rattle.ch_model.specs.WorldSockets.{end_of, opened, same_number, is_end_of, with_end_of}
use Rattle.ch_model.specs.WorldSteps.{place_after, all_told}
use Rattle.ch_model.specs.CellSteps.{Followed, ◌then◌, told_steps, steps_on, all_items}
use Rattle.ch_model.specs.Cell.{answered, host_did, heard_as, cell_step}
use Rattle.ch_model.specs.WorldHappenings.{Answered, nothing, after_entry, with_cell, cell_told, cell_hears, end_hears, mark_of, joins, comes_at, comes, hands, feeds}
use Rattle.ch_race.specs.Pair.{Side}
use Rattle.ch_race.specs.Moves.{Move, Join, Come, AllAllowed, run}
use Rattle.ch_laws_race.specs.Scene.{Scene, host_in, hosts_of, host_of, done_by}
use Rattle.ch_laws_race.specs.View.{seen, view}
use Rattle.ch_laws_race.specs.Arrivals.{IsSeenFrom, Joins, joined_in, hears_joined, next_accepted, Comes, accepting, come_in, hears_come, Feeds, fed_in, hears_fed}
use Rattle.ch_laws_race.specs.Happenings.{PostsNothing, IsAll, IsHappening, HandsSome, fed_record, fed_host, fed_scene, FeedsOne, AreNotes, AsksNothing}
use Rattle.ch_laws_race.proofs.Sockets.{by_test, same_place, end_changed, set_set}
use Rattle.ch_laws_race.proofs.Views.{at_place, host_here, hosts_set}
use Rattle.ch_laws_race.proofs.Joined.{joins_it}
use Rattle.ch_laws_race.proofs.Come.{comes_it}
use Rattle.ch_laws_race.proofs.Fed.{fed_it}

-- ---- a cell whose nodes are told nothing

silent_steps : (done : List Step) (cell : Cell) → PostsNothing done → steps_on done cell ≡ Ok (told_steps done, cell)
silent_steps [] cell silent = refl
silent_steps (steps.Post end event ∷ rest) cell silent = absurd silent
silent_steps (steps.Dial sock end peer ∷ rest) cell silent = ap (λ (r : Followed). Ok (told_steps (steps.Dial sock end peer ∷ []), cell) then (λ c. r)) (silent_steps rest cell silent)
silent_steps (steps.Read sock ∷ rest) cell silent = ap (λ (r : Followed). Ok (told_steps (steps.Read sock ∷ []), cell) then (λ c. r)) (silent_steps rest cell silent)
silent_steps (steps.Write sock bytes said ∷ rest) cell silent = ap (λ (r : Followed). Ok (told_steps (steps.Write sock bytes said ∷ []), cell) then (λ c. r)) (silent_steps rest cell silent)
silent_steps (steps.Up sock ∷ rest) cell silent = ap (λ (r : Followed). Ok (told_steps (steps.Up sock ∷ []), cell) then (λ c. r)) (silent_steps rest cell silent)
silent_steps (steps.Down sock ∷ rest) cell silent = ap (λ (r : Followed). Ok (told_steps (steps.Down sock ∷ []), cell) then (λ c. r)) (silent_steps rest cell silent)
silent_steps (steps.Left sock ∷ rest) cell silent = ap (λ (r : Followed). Ok (told_steps (steps.Left sock ∷ []), cell) then (λ c. r)) (silent_steps rest cell silent)
silent_steps (steps.Broke end peer why ∷ rest) cell silent = ap (λ (r : Followed). Ok (told_steps (steps.Broke end peer why ∷ []), cell) then (λ c. r)) (silent_steps rest cell silent)

-- that is all that follows
nothing_more : (done : List Step) (cell : Cell) → PostsNothing done → Apart cell.host.sockets → host_next cell.host ≡ Ok (None, cell.host) → (steps_on done cell then all_items) ≡ Ok (told_steps done, cell)
nothing_more done cell silent apart none = ap (λ (r : Followed). r then all_items) (silent_steps done cell silent)
    ∙ ap (λ (r : Followed). Ok (told_steps done, cell) then (λ c. r)) (none_left cell cell.host apart none)
    ∙ ap (λ (z : List LocalEntry). Ok (z, cell)) (append-nil (told_steps done))

gives : {X : Type 0} (x y : X) → ◌≡◌ {A = Result X Stop} (Ok x) (Ok y) → x ≡ y
gives {X = X} x y h = ap {A = Result X Stop} {B = X} (λ r. elim r [ Ok z ↦ z | Err e ↦ x ]) h

-- an event whose steps are all that its cell does
happens : (scene : Scene) (x : Side) (cell : Cell × ℕ) (between : World) (done : Stepped) (moves : List Move) (event : LocalEvent) (verdict : Verdict) → IsSeenFrom scene x cell between done moves → IsAll done
    → cell_step cell.0 event ≡ host_did verdict cell.0 done → slice_get between.cells (scene.party x).place ≡ Some cell → IsHappening scene (cell_hears (scene.party x).place event between) moves
happens scene x cell between done moves event verdict seen all is there = record {
  verdict = verdict;
  entries = (all_told (scene.party x).place (now seen.host) (told_steps seen.steps) (with_cell (scene.party x).place (now seen.host, cell.1) between)).0;
  now = (all_told (scene.party x).place (now seen.host) (told_steps seen.steps) (with_cell (scene.party x).place (now seen.host, cell.1) between)).1;
  does = ap (λ (o : Option (Cell × ℕ)). elim o as (λ o. Answered) [ None ↦ nothing between | Some c ↦ cell_told (scene.party x).place c between (cell_step c.0 event) ]) there
      ∙ ap (cell_told (scene.party x).place cell between) (is ∙ ap (host_did verdict cell.0) seen.does
      ∙ ap (answered verdict) (nothing_more seen.steps (record (cell.0) { host = seen.host }) (subst PostsNothing (ap (λ (r : List Step × HostState). r.0) same) all.silent)
      (subst (λ (h : HostState). Apart h.sockets) (ap (λ (r : List Step × HostState). r.1) same) all.apart)
      (subst (λ (h : HostState). host_next h ≡ Ok (None, h)) (ap (λ (r : List Step × HostState). r.1) same) all.none)));
  allowed = seen.allowed;
  seen = seen.seen;
} where
  now : HostState → Cell
  now host = record (cell.0) { host = host }

  same : ◌≡◌ {A = List Step × HostState} (all.steps, all.host) (seen.steps, seen.host)
  same = gives (all.steps, all.host) (seen.steps, seen.host) (sym all.does ∙ seen.does)

-- an entry of the world's own comes before
told_first : (scene : Scene) (answered : Answered) (moves : List Move) (entry : Entry) → IsHappening scene answered moves → IsHappening scene (after_entry entry answered) moves
told_first scene answered moves entry h = record { verdict = h.verdict; entries = entry ∷ h.entries; now = h.now; does = ap (after_entry entry) h.does; allowed = h.allowed; seen = h.seen }

-- ---- ends

some_of : (m : Option ℕ) (n : ℕ) → same_number m n ≡ true → m ≡ Some n
some_of None n q = absurd (clash q) where
  clash : false ≡ true → ⊥
  clash q = cc
some_of (Some m) n q = ap (λ (z : ℕ). Some z) (eqb-true m n q)

hears_there : (place number : ℕ) (end : WorldEnd) (event : ℕ → SocketEvent) (world : World) → is_end_of place number end ≡ true → end_hears end event world ≡ cell_hears place (events.Socket (event number)) world
hears_there place number end event world h =
    let parts = and_parts (same_number end.cell place) (same_number end.number number) h in
    ap (λ (z : Option ℕ). end_hears (record end { cell = z }) event world) (some_of end.cell place parts.0)
    ∙ ap (λ (z : Option ℕ). end_hears (record end { cell = Some place; number = z }) event world) (some_of end.number number parts.1)

-- ---- the laws

pub join_happens : (scene : Scene) (x : Side) (cell : Cell × ℕ) (i : ℕ) (s : WorldSocket) (known : Socket) → Joins scene x cell i s known → IsAll (hears_joined scene x known) → IsHappening scene (joins s scene.world) (Join i ∷ [])
join_happens scene x cell i s known h all = told_first scene (end_hears s.o (λ sock. sockets.Joined sock) (joined_in scene s)) (Join i ∷ []) (entries.Joined s.name)
    (subst (λ (a : Answered). IsHappening scene a (Join i ∷ [])) (sym (hears_there (scene.party x).place known.number s.o (λ sock. sockets.Joined sock) (joined_in scene s) h.has.end))
    (happens scene x cell (joined_in scene s) (hears_joined scene x known) (Join i ∷ []) (events.Socket (sockets.Joined known.number)) (heard_as cell.0.host (sockets.Joined known.number)) (joins_it scene x cell i s known h) all
    (ap (λ (host : HostState). host_did (heard_as cell.0.host (sockets.Joined known.number)) cell.0 (host_on host (sockets.Joined known.number))) (sym (ap host_in h.acts.there)))
    (ap (λ (w : World). slice_get w.cells (scene.party x).place) (end_changed scene.world i s O opened h.acts.apart h.has.at) ∙ h.acts.there)))

pub feed_happens : (scene : Scene) (x : Side) (cell : Cell × ℕ) (e : End) (i count : ℕ) (s : WorldSocket) (known : Socket) → Feeds scene x cell e i s known → HandsSome e count s → IsAll (hears_fed scene x e count s known)
    → IsHappening scene (feeds e count s scene.world) []
feed_happens scene x cell e i count s known h some all = told_first scene (hands Bytes (end_of e s) (fed_in scene e count s)) [] (entries.Fed s.name e (length Bytes))
    (subst (λ (a : Answered). IsHappening scene a []) (sym (hands_some Bytes some.first some.more some.is ∙ hears_there (scene.party x).place known.number (end_of e s) (λ sock. sockets.Fed sock Bytes) (fed_in scene e count s) h.has.end))
    (happens scene x cell (fed_in scene e count s) (hears_fed scene x e count s known) [] (events.Socket (sockets.Fed known.number Bytes)) (heard_as cell.0.host (sockets.Fed known.number Bytes)) (fed_it scene x cell e i count s known h) all
    (ap (λ (host : HostState). host_did (heard_as cell.0.host (sockets.Fed known.number Bytes)) cell.0 (host_on host (sockets.Fed known.number Bytes))) (sym (ap host_in h.acts.there)))
    (ap (λ (w : World). slice_get w.cells (scene.party x).place) (end_changed scene.world i s e (λ end. record end { unread = drop count end.unread }) h.acts.apart h.has.at) ∙ h.acts.there))) where
      Bytes : List ℕ
      Bytes = take count (end_of e s).unread

      hands_some : (bytes : List ℕ) (b : ℕ) (more : List ℕ) → bytes ≡ b ∷ more → hands bytes (end_of e s) (fed_in scene e count s) ≡ end_hears (end_of e s) (λ sock. sockets.Fed sock bytes) (fed_in scene e count s)
      hands_some bytes b more is = ap (λ (z : List ℕ). hands z (end_of e s) (fed_in scene e count s)) is ∙ ap (λ (z : List ℕ). end_hears (end_of e s) (λ sock. sockets.Fed sock z) (fed_in scene e count s)) (sym is)

pub come_happens : (scene : Scene) (x : Side) (cell : Cell × ℕ) (i : ℕ) (s : WorldSocket) → Comes scene x cell i s → IsAll (hears_come scene x cell s) → IsHappening scene (comes s scene.world) (Come i ∷ [])
come_happens scene x cell i s h all =
    subst (λ (a : Answered). IsHappening scene a (Come i ∷ []))
    (sym (ap (λ (c : Option ℕ). elim c as (λ c. Answered) [ None ↦ nothing scene.world | Some place ↦ after_entry (entries.Came s.name) (comes_at place s scene.world) ]) h.cell_is
    ∙ ap (λ (c : Option (Cell × ℕ)). after_entry (entries.Came s.name) (elim c as (λ c. Answered) [
      | None ↦ nothing scene.world
      | Some c ↦ cell_hears (scene.party x).place (events.Came (mark_of s.o) (2 * c.1 + 1) s.from_host) (with_end_of s.name T (λ end. record (opened end) { number = Some (2 * c.1 + 1) }) (with_cell (scene.party x).place (c.0, c.1 + 1) scene.world))
    ])) h.acts.there))
    (told_first scene (cell_hears (scene.party x).place (events.Came (mark_of s.o) (next_accepted cell) s.from_host) (come_in scene x cell s)) (Come i ∷ []) (entries.Came s.name)
    (happens scene x (accepting cell) (come_in scene x cell s) (hears_come scene x cell s) (Come i ∷ []) (events.Came (mark_of s.o) (next_accepted cell) s.from_host) verdicts.Ok (comes_it scene x cell i s h) all
    (ap (λ (host : HostState). host_did verdicts.Ok cell.0 (host_on host (sockets.Came (next_accepted cell) s.from_host))) (sym (ap host_in h.acts.there)))
    (ap (λ (w : World). slice_get w.cells (scene.party x).place) (end_changed (with_cell (scene.party x).place (accepting cell) scene.world) i s T (λ end. record (opened end) { number = Some (next_accepted cell) }) h.acts.apart h.at)
    ∙ set_here scene.world.cells (scene.party x).place (accepting cell) (slice_get_within scene.world.cells (scene.party x).place cell h.acts.there))))

-- ---- bytes that make one item whole

module _ (scene : Scene) (x : Side) (cell : Cell × ℕ) (e : End) (i count : ℕ) (s : WorldSocket) (known : Socket) (moves : List Move) (h : FeedsOne scene x cell e i count s known moves) where
  abbrev P : ℕ
  P = (scene.party x).place

  abbrev Bytes : List ℕ
  Bytes = take count (end_of e s).unread

  abbrev Fed : Socket
  Fed = fed_record e count s known

  abbrev Host : HostState
  Host = fed_host scene x e count s known

  abbrev Between : World
  Between = fed_in scene e count s

  abbrev First : Cell
  First = record (cell.0) { host = Host }

  abbrev Last : Cell
  Last = record (cell.0) { host = h.reads.host }

  abbrev Then : Scene
  Then = fed_scene scene x cell e count s known

  abbrev Event : LocalEvent
  Event = events.Socket (sockets.Fed known.number Bytes)

  abbrev Answer : Verdict
  Answer = heard_as cell.0.host (sockets.Fed known.number Bytes)

  host_fed : host_on (host_of scene x) (sockets.Fed known.number Bytes) ≡ Ok ([], Host)
  unfolding host_on
  host_fed = ap (λ (o : Option Socket). elim o as (λ o. Stepped) [ None ↦ still (host_of scene x) | Some socket ↦ (if is_open socket.stage then keeps Bytes socket (host_of scene x) else still (host_of scene x)) ]) h.fed.kept
      ∙ ap (λ (z : Stage). if is_open z then keeps Bytes known (host_of scene x) else still (host_of scene x)) h.fed.stands

  host_then : host_of Then x ≡ Host
  host_then = ap (λ (f : ℕ → HostState). f P) (hosts_set Between P cell First cell.1 cell_there) ∙ host_here P Host (hosts_of Between) where
    cell_there : slice_get Between.cells P ≡ Some cell
    cell_there = ap (λ (w : World). slice_get w.cells P) (end_changed scene.world i s e (λ end. record end { unread = drop count end.unread }) h.fed.acts.apart h.fed.has.at) ∙ h.fed.acts.there

  next_item : host_next Host ≡ Ok (Some h.reads.steps, h.reads.host)
  unfolding host_next
  next_item = ap (λ (o : Option Socket). elim o as (λ o. Result (Option (List Step) × HostState) Stop) [ None ↦ Ok (None, Host) | Some socket ↦ some_steps (handles socket (front_of socket) Host) ]) h.ready
      ∙ ap (λ (z : HostState). some_steps (handles Fed (front_of Fed) z)) (sym host_then) ∙ ap some_steps h.reads.does

  same_all : ◌≡◌ {A = List Step × HostState} (h.all.steps, h.all.host) (h.reads.steps, h.reads.host)
  same_all = gives (h.all.steps, h.all.host) (h.reads.steps, h.reads.host) (sym h.all.does ∙ h.reads.does)

  all_done : all_items First ≡ Ok (told_steps h.reads.steps, Last)
  all_done = one_first First h.reads.host h.reads.steps h.apart next_item
      ∙ nothing_more h.reads.steps Last (subst PostsNothing (ap (λ (r : List Step × HostState). r.0) same_all) h.all.silent)
      (subst (λ (z : HostState). Apart z.sockets) (ap (λ (r : List Step × HostState). r.1) same_all) h.all.apart)
      (subst (λ (z : HostState). host_next z ≡ Ok (None, z)) (ap (λ (r : List Step × HostState). r.1) same_all) h.all.none)

  step_is : cell_step cell.0 Event ≡ Ok ((Answer, told_steps h.reads.steps), Last)
  step_is = ap (λ (host : HostState). host_did Answer cell.0 (host_on host (sockets.Fed known.number Bytes))) (sym (ap host_in h.fed.acts.there))
      ∙ ap (host_did Answer cell.0) host_fed ∙ ap (λ (r : Followed). answered Answer (Ok ([], First) then (λ c. r))) all_done

  cell_there : slice_get Between.cells P ≡ Some cell
  cell_there = ap (λ (w : World). slice_get w.cells P) (end_changed scene.world i s e (λ end. record end { unread = drop count end.unread }) h.fed.acts.apart h.fed.has.at) ∙ h.fed.acts.there

  abbrev Told : List Entry × World
  Told = all_told P Last (told_steps h.reads.steps) (with_cell P (Last, cell.1) Between)

  fed_view : view Then ≡ view scene
  fed_view = ap (λ (z : HostState). view (record scene { world = done_by P cell [] z Between })) (ap (λ (r : List Step × HostState). r.1) (gives ([], Host) (quiet.steps, quiet.host) (sym host_fed ∙ quiet.does))) ∙ silent_seen where
    quiet : IsSeenFrom scene x cell Between (hears_fed scene x e count s known) []
    quiet = fed_it scene x cell e i count s known h.fed

    silent_seen : view (record scene { world = done_by P cell [] quiet.host Between }) ≡ view scene
    silent_seen = ap (λ (z : List Step). view (record scene { world = done_by P cell z quiet.host Between })) (ap (λ (r : List Step × HostState). r.0) (gives ([], Host) (quiet.steps, quiet.host) (sym host_fed ∙ quiet.does))) ∙ quiet.seen

  heard : IsHappening scene (cell_hears P Event Between) moves
  heard = record {
    verdict = Answer;
    entries = Told.0;
    now = Told.1;
    does = ap (λ (o : Option (Cell × ℕ)). elim o as (λ o. Answered) [ None ↦ nothing Between | Some c ↦ cell_told P c Between (cell_step c.0 Event) ]) cell_there ∙ ap (cell_told P cell Between) step_is;
    allowed = subst (AllAllowed moves) fed_view h.reads.allowed;
    seen = ap (λ (z : List (Cell × ℕ)). view (record scene { world = (all_told P Last (told_steps h.reads.steps) (record Between { cells = z })).1 })) (sym (set_set Between.cells P (First, cell.1) (Last, cell.1)))
        ∙ h.reads.seen ∙ ap (run moves) fed_view;
  }

  pub item_happens : IsHappening scene (feeds e count s scene.world) moves
  item_happens = told_first scene (hands Bytes (end_of e s) Between) moves (entries.Fed s.name e (length Bytes))
      (subst (λ (a : Answered). IsHappening scene a moves)
      (sym (hands_some Bytes h.some.first h.some.more h.some.is ∙ hears_there P known.number (end_of e s) (λ sock. sockets.Fed sock Bytes) Between h.fed.has.end)) heard) where
        hands_some : (bytes : List ℕ) (b : ℕ) (more : List ℕ) → bytes ≡ b ∷ more → hands bytes (end_of e s) Between ≡ end_hears (end_of e s) (λ sock. sockets.Fed sock bytes) Between
        hands_some bytes b more is = ap (λ (z : List ℕ). hands z (end_of e s) Between) is ∙ ap (λ (z : List ℕ). end_hears (end_of e s) (λ sock. sockets.Fed sock z) Between) (sym is)

-- ---- a line of a node alone

-- notes change what was said or read last, and nothing else
noted : (place : ℕ) (cell : Cell) (told : List LocalEntry) (world : World) → AreNotes told → (last : Option Place) × ((all_told place cell told world).1 ≡ record world { last = last })
noted place cell [] world notes = (world.last, refl)
noted place cell (local.Note note ∷ rest) world notes = noted place cell rest (record world { last = place_after world.last note }) notes
noted place cell (local.Step step ∷ rest) world notes = absurd notes

pub nothing_asked : (scene : Scene) (place : ℕ) (cell : Cell × ℕ) (event : LocalEvent) → slice_get scene.world.cells place ≡ Some cell → AsksNothing cell.0 event → IsHappening scene (cell_hears place event scene.world) []
nothing_asked scene place cell event there h = record {
  verdict = h.verdict;
  entries = (all_told place h.after h.told (with_cell place (h.after, cell.1) scene.world)).0;
  now = (all_told place h.after h.told (with_cell place (h.after, cell.1) scene.world)).1;
  does = ap (λ (o : Option (Cell × ℕ)). elim o as (λ o. Answered) [ None ↦ nothing scene.world | Some c ↦ cell_told place c scene.world (cell_step c.0 event) ]) there ∙ ap (cell_told place cell scene.world) h.does;
  allowed = tt;
  seen = ap (λ (w : World). view (record scene { world = w })) (noted place h.after h.told (with_cell place (h.after, cell.1) scene.world) h.notes).1
      ∙ ap (λ (f : ℕ → HostState). seen scene.party f scene.world.sockets scene.quiet) (hosts_set scene.world place cell h.after cell.1 there ∙ ap (λ (z : HostState). at_place place z (hosts_of scene.world)) (h.host ∙ sym (ap host_in there)) ∙ placed_same place (hosts_of scene.world));
} where
  placed_same : (p : ℕ) (hosts : ℕ → HostState) → at_place p (hosts p) hosts ≡ hosts
  placed_same p hosts = fun_ext at where
    at : (q : ℕ) → at_place p (hosts p) hosts q ≡ hosts q
    at q = by_test (nat_eq q p) (λ h. ap (λ b. cond b (hosts p) (hosts q)) h ∙ ap hosts (same_place p q h)) (λ h. ap (λ b. cond b (hosts p) (hosts q)) h)
