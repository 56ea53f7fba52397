-- Turns of sockets, and of nodes that say nothing: links have given an id for each pair still.
use Rattle.std.proofs.Common.{◌≡◌, ℕ, zero, suc, ◌+◌, ◌*◌, false, List, [], ◌∷◌, ◌++◌, drop, Ok, refl, sym, ap, ◌∙◌, subst}
use Rattle.std.proofs.lemmas.Bool.{and_parts}
use Rattle.std.specs.List.{list_all, list_any}
use Rattle.std.specs.Prelude.{slice_get, slice_set, Some}
use Rattle.ch_model.specs.declared.entry.Entry.{Entry}
use Rattle.ch_model.specs.declared.entry.Entry.TheVariants as entries
use Rattle.ch_model.specs.declared.entry.Verdict.{Verdict}
use Rattle.ch_model.specs.declared.line.Line.{Line}
use Rattle.ch_model.specs.declared.local.LocalEntry.{LocalEntry}
use Rattle.ch_model.specs.declared.name.End.{End}
use Rattle.ch_model.specs.declared.name.End.TheVariants.{O, T}
use Rattle.ch_model.specs.declared.step.SocketEvent.{SocketEvent}
use Rattle.ch_model.specs.declared.step.SocketEvent.TheVariants as sockets
use Rattle.ch_model.specs.declared.step.Step.{Step}
use Rattle.ch_model.specs.CellSteps.{told_steps, steps_on}
use Rattle.ch_model.specs.Host.{host_on, host_next}
use Rattle.ch_model.specs.HostState.{HostState}
use Rattle.ch_model.specs.WorldHappenings.{with_cell}
use Rattle.ch_model.specs.WorldSockets.{opened}
use Rattle.ch_model.specs.WorldState.{Cell, WorldSocket, World}
use Rattle.ch_model.specs.WorldSteps.{all_told}
use Rattle.ch_laws_ends.proofs.Changes.{told_cells}
use Rattle.ch_laws_links.proofs.Worlds.{end_cells}
use Rattle.ch_laws_calls.specs.Calls.{with_host, done_at, IsCalled, joined_in, come_in, fed_in}
use Rattle.ch_laws_calls.specs.Turns.{told_on}
use Rattle.ch_laws_plain_logs.specs.Plain.{is_plain, IsPlain}
use Rattle.ch_laws_messages.specs.SendsSends.{LinksWeighed, AllGive}
use Rattle.ch_laws_messages.specs.SendsTurns.{Told, EndsAskNone, ItemsAskNone}
use Rattle.ch_laws_messages.proofs.SendsActs.{posts_silent, steps_silent}
use Rattle.ch_race.specs.Pair.{other}
use Rattle.ch_laws_epochs.specs.Numbers.{notes_in}
use Rattle.ch_laws_messages.proofs.SendsBegun.{begun_from, begun_append, connections_more, told_begun, AllSilent, silent_from}
use Rattle.ch_laws_messages.proofs.SendsHostActs.{SameGiven}
use Rattle.ch_laws_messages.proofs.SendsRest.{rest_gives, last_plain, none_broke, steps_back, posts_break, next_same, on_same}
use Rattle.ch_laws_messages.proofs.GotHosts.{is_broke}

set_twice : {A : Type 0} (xs : List A) (place : ℕ) (one two : A) → slice_set (slice_set xs place one) place two ≡ slice_set xs place two
set_twice [] place one two = refl
set_twice (x ∷ xs) zero one two = refl
set_twice (x ∷ xs) (suc place) one two = ap (λ l. x ∷ l) (set_twice xs place one two)

-- a turn in which no message is said, and as many ids are given
pub quiet_turn : (journal : List Line) (log first : List Entry) (world base : World) (place count : ℕ) (cell : Cell × ℕ) (now : Cell) (told : List LocalEntry) → slice_get world.cells place ≡ Some cell → slice_set base.cells place (now, count) ≡ slice_set world.cells place (now, count) → ((x y : List ℕ) (n : ℕ) → begun_from x y n first ≡ n)
    → IsPlain log → IsPlain (log ++ (first ++ (all_told place now told (with_cell place (now, count) base)).0)) → AllSilent (notes_in told) → LinksWeighed now.host.links → SameGiven cell.0.host now.host → AllGive journal log world
    → AllGive journal (log ++ (first ++ (all_told place now told (with_cell place (now, count) base)).0)) (all_told place now told (with_cell place (now, count) base)).1
quiet_turn journal log first world base place count cell now told at cells none plain after silent weighed same g =
    rest_gives journal log (first ++ (all_told place now told (with_cell place (now, count) base)).0) world (all_told place now told (with_cell place (now, count) base)).1 place cell (now, count) at (told_cells place now told (with_cell place (now, count) base) ∙ cells) plain after weighed same
    (λ x y n. begun_append x y n first (all_told place now told (with_cell place (now, count) base)).0 ∙ ap (λ (m : ℕ). begun_from x y m (all_told place now told (with_cell place (now, count) base)).0) (none x y n)
    ∙ told_begun place now told (with_cell place (now, count) base) x y n ∙ silent_from base.names x y n (notes_in told) silent) g

tail_plain : (entry : Entry) (rest : List Entry) → IsPlain (entry ∷ rest) → IsPlain rest
tail_plain entry rest p = (and_parts (is_plain entry) (list_all is_plain rest) p).1

pub marked_gives : (journal : List Line) (log : List Entry) (world : World) (number : ℕ) (answer : Verdict) → IsPlain log → IsPlain (log ++ entries.Line number answer ∷ []) → AllGive journal log world → AllGive journal (log ++ entries.Line number answer ∷ []) world
marked_gives journal log world number answer plain after g = record { weighed = g.weighed; level = λ party pair x. g.level party pair x ∙ sym (connections_more (party x).name ((party (other x)).name) log (entries.Line number answer ∷ []) plain after) }

-- ---- sockets

-- a host is called, whatever was told before
call_gives : (journal : List Line) (log : List Entry) (entry : Entry) (world base : World) (place count : ℕ) (cell : Cell × ℕ) (event : SocketEvent) (steps : List Step) (host : HostState) → slice_get world.cells place ≡ Some cell → host_on cell.0.host event ≡ Ok (steps, host) → slice_set base.cells place (record (cell.0) { host = host }, count) ≡ slice_set world.cells place (record (cell.0) { host = host }, count)
    → ((x y : List ℕ) (n : ℕ) → begun_from x y n (entry ∷ []) ≡ n) → IsPlain log → IsPlain (log ++ entry ∷ (all_told place (record (cell.0) { host = host }) (told_steps steps) (with_cell place (record (cell.0) { host = host }, count) base)).0) → AllGive journal log world
    → AllGive journal (log ++ entry ∷ (all_told place (record (cell.0) { host = host }) (told_steps steps) (with_cell place (record (cell.0) { host = host }, count) base)).0) (all_told place (record (cell.0) { host = host }) (told_steps steps) (with_cell place (record (cell.0) { host = host }, count) base)).1
call_gives journal log entry world base place count cell event steps host at does cells none plain after g =
    let now : Cell = record (cell.0) { host = host } in
    let rest : IsPlain (all_told place (record (cell.0) { host = host }) (told_steps steps) (with_cell place (record (cell.0) { host = host }, count) base)).0 = tail_plain entry (all_told place now (told_steps steps) (with_cell place (now, count) base)).0 (last_plain log (entry ∷ (all_told place now (told_steps steps) (with_cell place (now, count) base)).0) after) in
    let s = on_same cell.0.host host event steps does (g.weighed place cell at) (ap (list_any is_broke) (sym (steps_back steps)) ∙ none_broke place now (told_steps steps) (with_cell place (now, count) base) rest) in
    quiet_turn journal log (entry ∷ []) world base place count cell now (told_steps steps) at cells none plain after (steps_silent steps) s.0 s.1 g

pub joined_gives : (journal : List Line) (log : List Entry) (world : World) (socket : WorldSocket) (place n : ℕ) (cell : Cell × ℕ) (steps : List Step) (host : HostState) → IsCalled world place cell (sockets.Joined n) steps host → IsPlain log
    → let done = done_at place cell steps host (joined_in socket world) in IsPlain (log ++ entries.Joined socket.name ∷ done.0) → AllGive journal log world → AllGive journal (log ++ entries.Joined socket.name ∷ done.0) done.1
joined_gives journal log world socket place n cell steps host called plain after g = call_gives journal log (entries.Joined socket.name) world (joined_in socket world) place cell.1 cell (sockets.Joined n) steps host called.at called.does
    (ap (λ (l : List (Cell × ℕ)). slice_set l place (record (cell.0) { host = host }, cell.1)) (end_cells socket.name O opened world)) (λ x y n. refl) plain after g

pub came_gives : (journal : List Line) (log : List Entry) (world : World) (socket : WorldSocket) (place : ℕ) (cell : Cell × ℕ) (steps : List Step) (host : HostState) → IsCalled world place cell (sockets.Came (2 * cell.1 + 1) socket.from_host) steps host → IsPlain log
    → let done = done_at place (cell.0, cell.1 + 1) steps host (come_in place cell socket world) in IsPlain (log ++ entries.Came socket.name ∷ done.0) → AllGive journal log world → AllGive journal (log ++ entries.Came socket.name ∷ done.0) done.1
came_gives journal log world socket place cell steps host called plain after g = call_gives journal log (entries.Came socket.name) world (come_in place cell socket world) place (cell.1 + 1) cell (sockets.Came (2 * cell.1 + 1) socket.from_host) steps host called.at called.does
    (ap (λ (l : List (Cell × ℕ)). slice_set l place (record (cell.0) { host = host }, cell.1 + 1)) (end_cells socket.name T (λ end. record (opened end) { number = Some (2 * cell.1 + 1) }) (with_cell place (cell.0, cell.1 + 1) world))
    ∙ set_twice world.cells place (cell.0, cell.1 + 1) (record (cell.0) { host = host }, cell.1 + 1)) (λ x y n. refl) plain after g

pub fed_gives : (journal : List Line) (log : List Entry) (world : World) (socket : WorldSocket) (which : End) (count size b : ℕ) (bytes : List ℕ) (place n : ℕ) (cell : Cell × ℕ) (steps : List Step) (host : HostState) → IsCalled world place cell (sockets.Fed n (b ∷ bytes)) steps host → IsPlain log
    → let done = done_at place cell steps host (fed_in which count socket world) in IsPlain (log ++ entries.Fed socket.name which size ∷ done.0) → AllGive journal log world → AllGive journal (log ++ entries.Fed socket.name which size ∷ done.0) done.1
fed_gives journal log world socket which count size b bytes place n cell steps host called plain after g = call_gives journal log (entries.Fed socket.name which size) world (fed_in which count socket world) place cell.1 cell (sockets.Fed n (b ∷ bytes)) steps host called.at called.does
    (ap (λ (l : List (Cell × ℕ)). slice_set l place (record (cell.0) { host = host }, cell.1)) (end_cells socket.name which (λ end. record end { unread = drop count end.unread }) world)) (λ x y n. refl) plain after g

-- ---- what nodes make of what their host posts

-- the host is as it was called, and its nodes have heard
heard_gives : (journal : List Line) (log first : List Entry) (world : World) (place : ℕ) (cell : Cell × ℕ) (steps : List Step) (host : HostState) (told : List LocalEntry) (after : Cell) → slice_get world.cells place ≡ Some cell → (list_any is_broke steps ≡ false → LinksWeighed host.links × SameGiven cell.0.host host)
    → steps_on steps (with_host cell host) ≡ Ok (told, after) → after.host ≡ host → ((x y : List ℕ) (n : ℕ) → begun_from x y n first ≡ n) → IsPlain log → IsPlain (first ++ (told_on place cell after told world).0) → IsPlain (told_on place cell after told world).0 → IsPlain (log ++ (first ++ (told_on place cell after told world).0)) → AllGive journal log world
    → AllGive journal (log ++ (first ++ (told_on place cell after told world).0)) (told_on place cell after told world).1
heard_gives journal log first world place cell steps host told after at same e rests none plain firsts tolds now g =
    let s = same (posts_break steps (with_host cell host) after told e (none_broke place after told (with_cell place (after, cell.1) world) tolds)) in
    quiet_turn journal log first world world place cell.1 cell after told at refl none plain now (posts_silent steps (with_host cell host) after told e) (subst (λ (h : HostState). LinksWeighed h.links) (sym rests) s.0) (subst (SameGiven cell.0.host) (sym rests) s.1) g

pub item_gives : (journal : List Line) → ItemsAskNone (Told journal) → (log : List Entry) (world : World) (place : ℕ) (cell : Cell × ℕ) (steps : List Step) (host : HostState) (told : List LocalEntry) (after : Cell) → slice_get world.cells place ≡ Some cell → host_next cell.0.host ≡ Ok (Some steps, host) → steps_on steps (with_host cell host) ≡ Ok (told, after) → Told journal log world
    → let done = told_on place cell after told world in IsPlain (log ++ done.0) → AllGive journal log world → AllGive journal (log ++ done.0) done.1
item_gives journal items log world place cell steps host told after at next e p now g =
    let tolds = last_plain log (told_on place cell after told world).0 now in
    heard_gives journal log [] world place cell steps host told after at (next_same cell.0.host host steps next (g.weighed place cell at)) e (items log world place cell steps host told after at next e p) (λ x y n. refl) p.stands.kinds tolds tolds now g

pub ended_gives : (journal : List Line) → EndsAskNone (Told journal) → (log : List Entry) (world : World) (socket : WorldSocket) (which : End) (place n : ℕ) (cell : Cell × ℕ) (steps : List Step) (host : HostState) (told : List LocalEntry) (after : Cell) → IsCalled world place cell (sockets.Ended n) steps host → steps_on steps (with_host cell host) ≡ Ok (told, after) → Told journal log world
    → let done = told_on place cell after told world in IsPlain (log ++ entries.Fed socket.name which 0 ∷ done.0) → AllGive journal log world → AllGive journal (log ++ entries.Fed socket.name which 0 ∷ done.0) done.1
ended_gives journal ends log world socket which place n cell steps host told after called e p now g =
    let all = last_plain log (entries.Fed socket.name which 0 ∷ (told_on place cell after told world).0) now in
    heard_gives journal log (entries.Fed socket.name which 0 ∷ []) world place cell steps host told after called.at (on_same cell.0.host host (sockets.Ended n) steps called.does (g.weighed place cell called.at)) e (ends log world place n cell steps host told after called.at called.does e p) (λ x y n. refl) p.stands.kinds all
    (tail_plain (entries.Fed socket.name which 0) (told_on place cell after told world).0 all) now g
