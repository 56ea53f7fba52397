-- What is under way between two nodes is kept by each turn, and nothing is where nothing has happened.
use Rattle.std.proofs.Common.{◌≡◌, ◌⊎◌, inl, inr, ◌≤◌, arith, ℕ, ◌+◌, ◌*◌, true, List, [], ◌∷◌, ◌++◌, take, Ok, Err, refl, sym, ap, ◌∙◌, subst}
use Rattle.std.specs.Prelude.{find, length, slice_get, Option, Some, None}
use Rattle.ch_base.specs.declared.address.Address.{Address}
use Rattle.ch_link.specs.declared.LinkState.{LinkState}
use Rattle.ch_link.specs.declared.LinkState.TheVariants as states
use Rattle.ch_model.specs.declared.act.Act.{Act}
use Rattle.ch_model.specs.declared.act.Act.TheVariants as acts
use Rattle.ch_model.specs.declared.entry.Entry.{Entry}
use Rattle.ch_model.specs.declared.entry.Entry.TheVariants as entries
use Rattle.ch_model.specs.declared.entry.Verdict.{Verdict}
use Rattle.ch_model.specs.declared.line.Line.{Line}
use Rattle.ch_model.specs.declared.local.LocalEntry.{LocalEntry}
use Rattle.ch_model.specs.declared.name.End.{End}
use Rattle.ch_model.specs.declared.name.SockName.{SockName}
use Rattle.ch_model.specs.declared.note.Note.{Note}
use Rattle.ch_model.specs.declared.step.SocketEvent.TheVariants as sockets
use Rattle.ch_model.specs.declared.step.Step.{Step}
use Rattle.ch_model.specs.declared.step.Step.TheVariants as steps
use Rattle.ch_model.specs.CellSteps.{Followed, is_at, with_node, acts_on, steps_on}
use Rattle.ch_model.specs.Host.{host_next}
use Rattle.ch_model.specs.HostState.{Socket, HostState}
use Rattle.ch_model.specs.HostSteps.{is_socket}
use Rattle.ch_model.specs.Node.{node_make}
use Rattle.ch_model.specs.NodeState.{NodeState}
use Rattle.ch_model.specs.Sockets.{writings}
use Rattle.ch_model.specs.World.{world_new}
use Rattle.ch_model.specs.WorldHappenings.{with_cell}
use Rattle.ch_model.specs.WorldLines.{can_join, can_come, can_feed}
use Rattle.ch_model.specs.WorldSockets.{end_of}
use Rattle.ch_model.specs.WorldState.{Cell, WorldSocket, World}
use Rattle.ch_race.specs.Pair.{Side, other}
use Rattle.ch_laws_bytes.proofs.Lines.{own_of}
use Rattle.ch_laws_calls.specs.Calls.{Both, with_host, done_at, IsCalled, IsHeldBy, IsIn, joined_in, come_in, fed_in}
use Rattle.ch_laws_calls.specs.Scenes.{scene_of}
use Rattle.ch_laws_ends.proofs.Changes.{told_cells}
use Rattle.ch_laws_ends.proofs.Places.{got_same}
use Rattle.ch_laws_log.specs.HostEnds.{IsSound, steps_in}
use Rattle.ch_laws_race.specs.Chains.{unposted}
use Rattle.ch_laws_race.specs.Scene.{Party, link_of}
use Rattle.ch_laws_reads.specs.Reads.{IsFresh, IsKept}
use Rattle.ch_laws_writes.specs.Dues.{due_at}
use Rattle.ch_laws_writes.specs.Orderly.{IsOrderly}
use Rattle.ch_laws_calls.specs.FitsTurns.{NoDials}
use Rattle.ch_laws_calls.proofs.FitsStores.{none_kind}
use Rattle.ch_laws_plain_nodes.specs.Does.{Makes}
use Rattle.ch_laws_plain_nodes.proofs.Calls.{makes}
use Rattle.ch_laws_plain_nodes.proofs.Steps.{given_so}
use Rattle.ch_laws_calls.specs.Turns.{told_on, KeepsTurns}
use Rattle.ch_laws_peers.specs.Words.{sayings}
use Rattle.ch_laws_peers.specs.Says.{towards, Says, AllSay}
use Rattle.ch_laws_peers.specs.Reads.{reads_from, reads, PlacedItem, placed_in, AreTruly, AllCome}
use Rattle.ch_laws_peers.specs.Standing.{IsOfNodes, Standing}
use Rattle.ch_laws_messages.specs.WayAsked.{AskedTruly, AsksTruly}
use Rattle.ch_laws_messages.specs.WayGoes.{written_frames, HostDoes, EndTurn, EndOpens, AllTurn, GoTruly, Turns}
use Rattle.ch_laws_messages.specs.WayHears.{OnlySteps, HearsAlone}
use Rattle.ch_laws_messages.proofs.WayCome.{comes_by}
use Rattle.ch_laws_messages.proofs.WayDialed.{dial_turns}
use Rattle.ch_laws_messages.proofs.WayHanded.{came_turns, fed_turns}
use Rattle.ch_laws_messages.proofs.WayItems.{Reading, next_reading, ended_reading, new_in, alone_in, reading_does, new_cases, read_truly}
use Rattle.ch_laws_messages.proofs.WayJoined.{Joining, joining, new_joined, joining_does, joined_turns, joined_truly}
use Rattle.ch_laws_messages.proofs.WayPairs.{wrote_true, truly_bare}
use Rattle.ch_laws_messages.proofs.WayRests.{none_new, rest_truly, told_turns}
use Rattle.ch_laws_messages.proofs.WaySteps.{wrote_both}
use Rattle.ch_laws_messages.proofs.WayTurned.{MayTurn, turn_turns, way_goes}
use Rattle.ch_laws_messages.proofs.AsksTurn.{may_of}

-- what is so before and after each turn
abbrev pub Given : List Line → List Entry → World → Type 0
Given journal log world = Both (Standing journal) (AllSay journal) log world

-- ---- what is so of a turn

orderly : (journal : List Line) (log : List Entry) (world : World) (place : ℕ) (cell : Cell × ℕ) → Standing journal log world → slice_get world.cells place ≡ Some cell → IsOrderly (own_of journal place) cell.0.host
orderly journal log world place cell st at = st.all.sound.ends.flowing.orderly place cell at

-- ---- a host that does nothing

still_does : (own : ℕ → Address) (host : HostState) → IsSound host → HostDoes own host [] host none_new
still_does own host s = record {
  reads = record {
    sound = s;
    known = λ n socket found. subst (λ (o : Option Socket). IsKept 0 socket o) (sym found) (record { over = λ h. h; read = λ h. record { items = []; many = refl; front = (refl, refl) } });
    fresh = λ n none. subst IsFresh (sym none) tt;
  };
  adds = λ n. record { is = refl; kind = none_kind own (due_at host n) };
}

none_truly : (journal : List Line) (place : ℕ) (told : List Step) (log : List Entry) (world : World) (more : List Entry) (after : World) (party : Side → Party) (x : Side) → Says journal log world party x → GoTruly place told none_new log world (log ++ more) after party x
none_truly journal place told log world more after party x says s e socket of found t = new_cases place none_new (end_of e t.before).cell (end_of e t.before).number (λ (l : List PlacedItem). AreTruly (sayings (party x).name (party (other x)).name (log ++ more)) (written_frames (sayings (party x).name (party (other x)).name log) (writings log s e) ++ placed_in l)) still (λ n c m. still) where
  still : AreTruly (sayings (party x).name (party (other x)).name (log ++ more)) (written_frames (sayings (party x).name (party (other x)).name log) (writings log s e) ++ [])
  still = truly_bare journal log more party x s e [] (wrote_true journal log world party x s e says of) tt

-- what is told of a note
record Notes (cell : Cell) (told : List LocalEntry) (after : Cell) : Type 0 where
  none : steps_in told ≡ []
  same : after.host ≡ cell.host

note_told : (end : ℕ) (note : Note) (cell : Cell) (told : List LocalEntry) (after : Cell) → acts_on end (acts.Note note ∷ []) cell ≡ Ok (told, after) → Notes cell told after
note_told end note cell told after e = record { none = sym (ap told_of e); same = sym (ap (λ (f : Followed). (host_of f)) e) } where
  told_of : Followed → List Step
  told_of (Ok done) = steps_in done.0
  told_of (Err stop) = []

  host_of : Followed → HostState
  host_of (Ok done) = done.1.host
  host_of (Err stop) = cell.host

-- ---- each turn

pub marked_goes : (journal : List Line) (log : List Entry) (world : World) (number : ℕ) (answer : Verdict) → Given journal log world → (t : Turns journal log world (log ++ entries.Line number answer ∷ []) world) × (t.told ≡ [])
marked_goes journal log world number answer g = (record { place = 0; told = []; new = none_new; all = told_turns log world (entries.Line number answer) (λ s e. refl); truly = λ party pair x. rest_truly journal log world (entries.Line number answer ∷ []) world party x (g.1 party pair x) }, refl)

pub made_goes : (journal : List Line) → IsOfNodes journal → (log : List Entry) (world : World) (place : ℕ) (cell : Cell × ℕ) (end number : ℕ) (node : NodeState) (acts : List Act) (next : NodeState) (told : List LocalEntry) (after : Cell) → slice_get world.cells place ≡ Some cell → find (is_at end) cell.0.nodes ≡ Some (number, node) → node_make node ≡ Ok (acts, next)
    → acts_on end acts (with_node end next cell.0) ≡ Ok (told, after) → Given journal log world → let done = told_on place cell after told world in (t : Turns journal log world (log ++ done.0) done.1) × (t.told ≡ [])
made_goes journal j log world place cell end number node acts next told after at there does all g = (
  record {
    place = place;
    told = steps_in told;
    new = none_new;
    all = turn_turns journal log world place cell told after none_new (record { at = at; sound = g.0.all.sound; may = may_of journal j log world g.0; does = subst (λ (l : List Step). HostDoes (own_of journal place) cell.0.host l after.host none_new) (sym n.none) (subst (λ (h : HostState). HostDoes (own_of journal place) cell.0.host [] h none_new) (sym n.same) (still_does (own_of journal place) cell.0.host (orderly journal log world place cell g.0 at).sound)) }) (subst NoDials (sym n.none) tt);
    truly = λ party pair x. none_truly journal place (steps_in told) log world _ _ party x (g.1 party pair x);
  },
  n.none,
) where
  m : Makes node acts next
  m = given_so (Makes node) (node_make node) acts next (makes node ((g.0.plain.cells place cell at).nodes end (number, node) there).plain) does

  n : Notes (with_node end next cell.0) told after
  n = note_told end _ (with_node end next cell.0) told after (ap (λ (l : List Act). acts_on end l (with_node end next cell.0)) (sym m.did) ∙ all)

pub asked_goes : (journal : List Line) → IsOfNodes journal → (log : List Entry) (world : World) (place : ℕ) (cell : Cell × ℕ) (told : List LocalEntry) (after : Cell) → slice_get world.cells place ≡ Some cell → Given journal log world
    → let done = told_on place cell after told world in AskedTruly journal log world place cell.0.host (steps_in told) after.host (log ++ done.0) done.1 → (t : Turns journal log world (log ++ done.0) done.1) × (t.told ≡ steps_in told)
asked_goes journal j log world place cell told after at g a = (record { place = place; told = steps_in told; new = a.new; all = by_dials a.dials; truly = a.truly }, refl) where
  may : MayTurn journal log world place cell (after, cell.1) (steps_in told) a.new
  may = record { at = at; sound = g.0.all.sound; may = may_of journal j log world g.0; does = a.does }

  by_dials : NoDials (steps_in told) ⊎ ((sock : ℕ) × (end : ℕ) × (peer : Address) × (steps_in told ≡ steps.Dial sock end peer ∷ []) × (find (is_socket sock) cell.0.host.sockets ≡ None)) → AllTurn place (steps_in told) a.new log world (log ++ (told_on place cell after told world).0) (told_on place cell after told world).1
  by_dials (inl none) = turn_turns journal log world place cell told after a.new may none
  by_dials (inr d) = dial_turns journal log world place cell told after d.0 d.1 d.2 a.new may d.3 d.4

pub joined_goes : (journal : List Line) → IsOfNodes journal → (log : List Entry) (world : World) (socket : WorldSocket) (place n : ℕ) (cell : Cell × ℕ) (steps : List Step) (host : HostState) → IsIn socket world → can_join socket ≡ true → IsCalled world place cell (sockets.Joined n) steps host → Given journal log world
    → let done = done_at place cell steps host (joined_in socket world) in (t : Turns journal log world (log ++ entries.Joined socket.name ∷ done.0) done.1) × (t.told ≡ steps)
joined_goes journal j log world socket place n cell told host is can c g = (
  record {
    place = place;
    told = told;
    new = new_joined (own_of journal place) cell.0.host told host join;
    all = joined_turns journal log world socket place n cell told host (new_joined (own_of journal place) cell.0.host told host join) is can join.alone (record { at = c.at; sound = g.0.all.sound; may = may_of journal j log world g.0; does = joining_does (own_of journal place) cell.0.host told host join });
    truly = λ party pair x. joined_truly journal log world place cell told host join _ _ party x g.0 (may_of journal j log world g.0) c.at (g.1 party pair x);
  },
  refl,
) where
  join : Joining (own_of journal place) cell.0.host told host
  join = joining (own_of journal place) cell.0.host host n told (orderly journal log world place cell g.0 c.at) c.does

pub came_goes : (journal : List Line) (log : List Entry) (world : World) (socket : WorldSocket) (place : ℕ) (cell : Cell × ℕ) (steps : List Step) (host : HostState) → IsIn socket world → can_come socket ≡ true → socket.t.cell ≡ Some place → IsCalled world place cell (sockets.Came (2 * cell.1 + 1) socket.from_host) steps host → Given journal log world
    → let done = done_at place (cell.0, cell.1 + 1) steps host (come_in place cell socket world) in (t : Turns journal log world (log ++ entries.Came socket.name ∷ done.0) done.1) × (t.told ≡ [])
came_goes journal log world socket place cell told host is can at_cell c g = (record { place = 0; told = []; new = none_new; all = came_turns journal log world socket place cell told host is can at_cell c g.0.all.sound; truly = λ party pair x. rest_truly journal log world _ _ party x (g.1 party pair x) }, refl)

pub fed_goes : (journal : List Line) (log : List Entry) (world : World) (socket : WorldSocket) (which : End) (count b : ℕ) (bytes : List ℕ) (place n : ℕ) (cell : Cell × ℕ) (steps : List Step) (host : HostState) → IsIn socket world → can_feed which socket ≡ true → take count (end_of which socket).unread ≡ b ∷ bytes → IsHeldBy place n (end_of which socket)
    → IsCalled world place cell (sockets.Fed n (b ∷ bytes)) steps host → Given journal log world → let done = done_at place cell steps host (fed_in which count socket world) in (t : Turns journal log world (log ++ entries.Fed socket.name which (length (b ∷ bytes)) ∷ done.0) done.1) × (t.told ≡ [])
fed_goes journal log world socket which count b bytes place n cell told host is can taken held c g = (record { place = 0; told = []; new = none_new; all = fed_turns journal log world socket which count b bytes place n cell told host is can taken held c g.0.all.sound; truly = λ party pair x. rest_truly journal log world _ _ party x (g.1 party pair x) }, refl)

-- a turn in which a host reads, and its nodes only note what they hear
reading_goes : (journal : List Line) → IsOfNodes journal → (log : List Entry) (world : World) (place : ℕ) (cell : Cell × ℕ) (steps : List Step) (host : HostState) (told : List LocalEntry) (after : Cell) (r : Reading (own_of journal place) cell.0.host steps host) → slice_get world.cells place ≡ Some cell → OnlySteps steps host told after → Given journal log world
    → (front : List Entry) → ((s : SockName) (e : End) → writings front s e ≡ []) → let done = told_on place cell after told world in Given journal (log ++ (front ++ done.0)) done.1 → AllTurn place (unposted steps) (new_in (own_of journal place) cell.0.host steps host r) log world (log ++ done.0) done.1 → Turns journal log world (log ++ (front ++ done.0)) done.1
reading_goes journal j log world place cell told_steps host told after r at only g front none q all = record {
  place = place;
  told = unposted told_steps;
  new = new_in (own_of journal place) cell.0.host told_steps host r;
  all = by_front front none;
  truly = λ party pair x. read_truly journal log world place cell told_steps host (front ++ done) final party x (record { at = at; reading = r; now = (after, cell.1); now_at = now_at; host_now = only.1; before = g.0; later = q.0; may = may_of journal j log world g.0; pair = pair; says = g.1 party pair x });
} where
  done : List Entry
  done = (told_on place cell after told world).0

  final : World
  final = (told_on place cell after told world).1

  now_at : slice_get final.cells place ≡ Some (after, cell.1)
  now_at = ap (λ (l : List (Cell × ℕ)). slice_get l place) (told_cells place after told (with_cell place (after, cell.1) world)) ∙ got_same world.cells place cell (after, cell.1) at

  New : ℕ → List PlacedItem
  New = new_in (own_of journal place) cell.0.host told_steps host r

  -- entries before that write nothing
  by_front : (xs : List Entry) → ((s : SockName) (e : End) → writings xs s e ≡ []) → AllTurn place (unposted told_steps) New log world (log ++ (xs ++ done)) final
  by_front xs none = record {
    ends = λ s socket e found. by_end s socket e (all.ends s socket e found);
    unopened = λ s e gone. let u = all.unopened s e gone in (u.0, more s e ∙ u.1);
  } where
    more : (s : SockName) (e : End) → writings (log ++ (xs ++ done)) s e ≡ writings (log ++ done) s e
    more s e = wrote_both log (xs ++ done) s e ∙ ap (λ (l : List (List ℕ)). writings log s e ++ l) (wrote_both xs done s e ∙ ap (λ (l : List (List ℕ)). l ++ writings done s e) (none s e)) ∙ sym (wrote_both log done s e)

    by_end : (s : SockName) (socket : WorldSocket) (e : End) → EndTurn place (unposted told_steps) New log world (log ++ done) final s socket e ⊎ EndOpens log world (log ++ done) final s socket e → EndTurn place (unposted told_steps) New log world (log ++ (xs ++ done)) final s socket e ⊎ EndOpens log world (log ++ (xs ++ done)) final s socket e
    by_end s socket e (inl t) = inl (record { before = t.before; found = t.found; lives = t.lives; number = t.number; more = t.more; wrote = more s e ∙ t.wrote; goes = t.goes })
    by_end s socket e (inr o) = inr (record { none = o.none; silent = more s e ∙ o.silent; way = o.way })

read_turns : (journal : List Line) → IsOfNodes journal → (log : List Entry) (world : World) (place : ℕ) (cell : Cell × ℕ) (steps : List Step) (host : HostState) (told : List LocalEntry) (after : Cell) (r : Reading (own_of journal place) cell.0.host steps host) → slice_get world.cells place ≡ Some cell → OnlySteps steps host told after → Given journal log world
    → AllTurn place (unposted steps) (new_in (own_of journal place) cell.0.host steps host r) log world (log ++ (told_on place cell after told world).0) (told_on place cell after told world).1
read_turns journal j log world place cell told_steps host told after r at only g = subst (λ (l : List Step). AllTurn place l New log world (log ++ (told_on place cell after told world).0) (told_on place cell after told world).1) only.0
    (turn_turns journal log world place cell told after New (record { at = at; sound = g.0.all.sound; may = may_of journal j log world g.0; does = does }) (subst NoDials (sym only.0) (alone_in (own_of journal place) cell.0.host told_steps host r)))
  where
    New : ℕ → List PlacedItem
    New = new_in (own_of journal place) cell.0.host told_steps host r

    does : HostDoes (own_of journal place) cell.0.host (steps_in told) after.host New
    does = subst (λ (l : List Step). HostDoes (own_of journal place) cell.0.host l after.host New) (sym only.0) (subst (λ (h : HostState). HostDoes (own_of journal place) cell.0.host (unposted told_steps) h New) (sym only.1) (reading_does (own_of journal place) cell.0.host told_steps host r))

pub item_goes : (journal : List Line) → IsOfNodes journal → HearsAlone journal → (log : List Entry) (world : World) (place : ℕ) (cell : Cell × ℕ) (steps : List Step) (host : HostState) (told : List LocalEntry) (after : Cell) → slice_get world.cells place ≡ Some cell → host_next cell.0.host ≡ Ok (Some steps, host) → steps_on steps (with_host cell host) ≡ Ok (told, after) → Given journal log world
    → let done = told_on place cell after told world in Given journal (log ++ done.0) done.1 → (t : Turns journal log world (log ++ done.0) done.1) × (t.place ≡ place) × (t.told ≡ unposted steps)
unfolding reading_goes
item_goes journal j hears log world place cell told_steps host told after at does all g q = (reading_goes journal j log world place cell told_steps host told after r at only g [] (λ s e. refl) q (read_turns journal j log world place cell told_steps host told after r at only g), refl, refl) where
  r : Reading (own_of journal place) cell.0.host told_steps host
  r = next_reading (own_of journal place) cell.0.host host told_steps (g.0.all.sound.links.naming place cell at).naming (orderly journal log world place cell g.0 at) does

  only : OnlySteps told_steps host told after
  only = hears.item log world place cell told_steps host told after at does all g.0

pub ended_goes : (journal : List Line) → IsOfNodes journal → HearsAlone journal → (log : List Entry) (world : World) (s : SockName) (which : End) (place n : ℕ) (cell : Cell × ℕ) (steps : List Step) (host : HostState) (told : List LocalEntry) (after : Cell) → IsCalled world place cell (sockets.Ended n) steps host → steps_on steps (with_host cell host) ≡ Ok (told, after) → Given journal log world
    → let done = told_on place cell after told world in Given journal (log ++ entries.Fed s which 0 ∷ done.0) done.1 → (t : Turns journal log world (log ++ entries.Fed s which 0 ∷ done.0) done.1) × (t.told ≡ unposted steps)
unfolding reading_goes
ended_goes journal j hears log world s which place n cell told_steps host told after c all g q = (reading_goes journal j log world place cell told_steps host told after r c.at only g (entries.Fed s which 0 ∷ []) (λ t e. refl) q (read_turns journal j log world place cell told_steps host told after r c.at only g), refl) where
  r : Reading (own_of journal place) cell.0.host told_steps host
  r = ended_reading (own_of journal place) cell.0.host host n told_steps (orderly journal log world place cell g.0 c.at) c.does

  only : OnlySteps told_steps host told after
  only = hears.ended log world place cell n told_steps host told after c.at c.does all g.0

-- ---- what is under way

come_then : (journal : List Line) (log : List Entry) (world : World) (after_log : List Entry) (after : World) → Turns journal log world after_log after → AllCome journal log world → Given journal after_log after → AllCome journal after_log after
come_then journal log world after_log after t j q party pair x = comes_by journal after_log after party x q.0 pair (q.1 party pair x) (way_goes t.place t.told t.new log world after_log after party x t.all (record { ways = (j party pair x).ways; unopened = (j party pair x).unopened }) (t.truly party pair x))

pub come_kept : (journal : List Line) → IsOfNodes journal → HearsAlone journal → AsksTruly journal → KeepsTurns journal (Both (Standing journal) (AllSay journal)) (Both (Standing journal) (AllSay journal)) (AllCome journal)
come_kept journal n hears asks = record {
  marked = λ log world number what answer found of p j q. come_then journal log world _ _ (marked_goes journal log world number answer p).0 j q;
  made = λ log world place cell end number node acts next told after at there does all p j q. come_then journal log world _ _ (made_goes journal n log world place cell end number node acts next told after at there does all p).0 j q;
  asked = λ log world what by command place cell number node acts next told after line at there does all p j q. come_then journal log world _ _ (asked_goes journal n log world place cell told after at p (asks.asked log world what by command place cell number node acts next told after line at there does all p q)).0 j q;
  joined = λ log world socket place number cell steps host is can held called read p j q. come_then journal log world _ _ (joined_goes journal n log world socket place number cell steps host is can called p).0 j q;
  came = λ log world socket place cell steps host is can at called read p j q. come_then journal log world _ _ (came_goes journal log world socket place cell steps host is can at called p).0 j q;
  fed = λ log world socket which count b bytes place number cell steps host is can taken held called read p j q. come_then journal log world _ _ (fed_goes journal log world socket which count b bytes place number cell steps host is can taken held called p).0 j q;
  ended = λ log world socket which place number cell steps host told after is can none held called all read p j q. come_then journal log world _ _ (ended_goes journal n hears log world socket.name which place number cell steps host told after called all p q).0 j q;
  item = λ log world place cell steps host told after at does all p j q. come_then journal log world _ _ (item_goes journal n hears log world place cell steps host told after at does all p q).0 j q;
}

-- ---- where nothing has happened

none_reads : (journal : List Line) (party : Side → Party) (x : Side) → reads party (world_new journal) x [] ≡ 0
none_reads journal party x = by_state (link_of (scene_of party (world_new journal)) x).state where
  by_state : (k : LinkState) → reads_from (world_new journal) (party x).place k (length (towards (party x).name (party (other x)).name [])) ≡ 0
  by_state (states.Up n probed) = refl
  by_state states.Idle = refl
  by_state states.AwaitOther = refl
  by_state (states.Dialing d) = refl

no_end : {A : Type 0} (at : SockName × End) → ◌≡◌ {A = Option (SockName × End)} None (Some at) → A
no_end at e = absurd cc

no_socket : {A : Type 0} (w : WorldSocket) → ◌≡◌ {A = Option WorldSocket} None (Some w) → A
no_socket w e = absurd cc

zero_within : (n : ℕ) → 0 ≤ n
zero_within n = omega arith

pub fresh_come : (journal : List Line) → IsOfNodes journal → AllCome journal [] (world_new journal)
fresh_come journal j party pair x = record {
  within = subst (λ (n : ℕ). n ≤ length (towards (party x).name (party (other x)).name [])) (sym (none_reads journal party x)) (zero_within (length (towards (party x).name (party (other x)).name [])));
  way = λ s e socket u found live. no_socket socket found;
  before = λ down. none_reads journal party x;
  one = λ s e u up. no_end (s, e) u.found;
  ways = λ s e socket of found live. no_socket socket found;
  unopened = λ s e of none. refl;
}
