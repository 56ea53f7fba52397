-- What a turn at a cell tells of mailboxes, in the journal's names.
use Rattle.std.proofs.Common.{◌≡◌, ℕ, true, List, [], ◌∷◌, ◌++◌, Ok, Err, refl, sym, ap, ◌∙◌, subst, append_assoc}
use Rattle.std.specs.Prelude.{find, Result, Option, Some, None}
use Rattle.ch_base.specs.declared.event.Event.{Event}
use Rattle.ch_base.specs.declared.memory.Stop.{Stop}
use Rattle.ch_model.specs.declared.act.Act.{Act}
use Rattle.ch_model.specs.declared.act.Act.TheVariants as acts
use Rattle.ch_model.specs.declared.entry.Entry.{Entry}
use Rattle.ch_model.specs.declared.entry.Entry.TheVariants as entries
use Rattle.ch_model.specs.declared.local.LocalEntry.{LocalEntry}
use Rattle.ch_model.specs.declared.local.LocalEntry.TheVariants as local
use Rattle.ch_model.specs.declared.name.End.{End}
use Rattle.ch_model.specs.declared.name.SockName.{SockName}
use Rattle.ch_model.specs.declared.note.Note.{Note}
use Rattle.ch_model.specs.declared.note.Note.TheVariants as notes
use Rattle.ch_model.specs.declared.step.EndError.{EndError}
use Rattle.ch_model.specs.declared.step.EndError.TheVariants as errors
use Rattle.ch_model.specs.declared.step.Place.{Place}
use Rattle.ch_model.specs.declared.step.Step.{Step}
use Rattle.ch_model.specs.declared.step.Step.TheVariants as steps
use Rattle.ch_model.specs.CellSteps.{Followed, after_entries, ◌then◌, is_at, with_node, told_steps, asked, acts_on, node_followed, posted, steps_on}
use Rattle.ch_model.specs.HostCalls.{host_connect, host_send, host_close}
use Rattle.ch_model.specs.HostState.{HostState}
use Rattle.ch_model.specs.Naming.{Names}
use Rattle.ch_model.specs.Node.{node_event}
use Rattle.ch_model.specs.NodeState.{NodeState}
use Rattle.ch_model.specs.WorldSockets.{other, item_arrives, find_end, with_end_of}
use Rattle.ch_model.specs.WorldState.{Cell, World}
use Rattle.ch_model.specs.WorldSteps.{note_entry, on_end, reads_item, end_closes, stepped, local_told, all_told}
use Rattle.ch_laws_bytes.proofs.Told.{told_names}
use Rattle.ch_laws_plain.specs.ReadsReading.{posts_in}
use Rattle.ch_laws_messages.proofs.MailLogs.{is_silent, AreSilent, silent_both}
use Rattle.ch_laws_messages.proofs.MailNodes.{is_quiet, AreQuiet}

-- ---- what is told of no mailbox

-- no note of these tells of a mailbox
abbrev pub AllQuiet : List LocalEntry → Type 0
AllQuiet [] = Unit {0}
AllQuiet (local.Note note ∷ rest) = (is_quiet note ≡ true) × AllQuiet rest
AllQuiet (local.Step step ∷ rest) = AllQuiet rest

pub quiet_entry : (known : Names) (last : Option Place) (note : Note) → is_quiet note ≡ true → is_silent (note_entry known last note) ≡ true
quiet_entry known last (notes.Got from to receiver) q = absurd cc
quiet_entry known last (notes.Took by port said) q = absurd cc
quiet_entry known last (notes.Told watch reason) q = absurd cc
quiet_entry known last (notes.Spawned question process) q = absurd cc
quiet_entry known last (notes.IsAt question found) q = absurd cc
quiet_entry known last note q = refl

at_end : (place sock : ℕ) (f : SockName × End → World → List Entry × World) (world : World) → ((at : SockName × End) → AreSilent (f at world).0) → AreSilent (on_end place sock f world).0
at_end place sock f world each = by_end (find_end place sock world.sockets) where
  by_end : (o : Option (SockName × End)) → AreSilent (elim o as (λ o. List Entry × World) [
    | None ↦ ([], world)
    | Some at ↦ f at world
  ]).0
  by_end None = tt
  by_end (Some at) = each at

step_silent : (place : ℕ) (cell : Cell) (step : Step) (world : World) → AreSilent (stepped place cell step world).0
step_silent place cell (steps.Dial sock end peer) world = (refl, tt)
step_silent place cell (steps.Read sock) world = at_end place sock reads_item world (λ at. tt)
step_silent place cell (steps.Write sock bytes said) world = at_end place sock (λ at now. (entries.Wrote at.0 at.1 bytes ∷ [], with_end_of at.0 (other at.1) (item_arrives bytes said) now)) world (λ at. (refl, tt))
step_silent place cell (steps.Up sock) world = at_end place sock (λ at now. (entries.Up at.0 at.1 ∷ [], now)) world (λ at. (refl, tt))
step_silent place cell (steps.Down sock) world = at_end place sock (λ at now. (entries.Down at.0 at.1 ∷ [], end_closes at now)) world (λ at. (refl, tt))
step_silent place cell (steps.Left sock) world = at_end place sock (λ at now. (entries.Left at.0 at.1 ∷ [], end_closes at now)) world (λ at. (refl, tt))
step_silent place cell (steps.Broke end peer why) world = (refl, tt)
step_silent place cell (steps.Post end event) world = tt

one_silent : (place : ℕ) (cell : Cell) (one : LocalEntry) (rest : List LocalEntry) (world : World) → AllQuiet (one ∷ rest) → AreSilent (local_told place cell one world).0
one_silent place cell (local.Note note) rest world q = (quiet_entry world.names world.last note q.0, tt)
one_silent place cell (local.Step step) rest world q = step_silent place cell step world

rest_quiet : (one : LocalEntry) (rest : List LocalEntry) → AllQuiet (one ∷ rest) → AllQuiet rest
rest_quiet (local.Note note) rest q = q.1
rest_quiet (local.Step step) rest q = q

pub all_silent : (place : ℕ) (cell : Cell) (told : List LocalEntry) (world : World) → AllQuiet told → AreSilent (all_told place cell told world).0
all_silent place cell [] world q = tt
all_silent place cell (one ∷ rest) world q = silent_both (local_told place cell one world).0 (all_told place cell rest (local_told place cell one world).1).0 (one_silent place cell one rest world q) (all_silent place cell rest (local_told place cell one world).1 (rest_quiet one rest q))

-- ---- one note among what is told of no mailbox

-- the entry of the note stands between entries that touch no mailbox
pub record Among (known : Names) (note : Note) (told : List Entry) : Type 0 where
  pub before : List Entry
  pub last : Option Place
  pub behind : List Entry
  pub split : told ≡ before ++ note_entry known last note ∷ behind
  pub still_before : AreSilent before
  pub still_behind : AreSilent behind

pub among : (place : ℕ) (cell : Cell) (one two : List LocalEntry) (note : Note) (world : World) → AllQuiet one → AllQuiet two → Among world.names note (all_told place cell (one ++ local.Note note ∷ two) world).0
among place cell [] two note world q r = record { before = []; last = world.last; behind = _; split = refl; still_before = tt; still_behind = all_silent place cell two (local_told place cell (local.Note note) world).1 r }
among place cell (x ∷ one) two note world q r = by_more (among place cell one two note next (rest_quiet x one q) r) where
  next : World
  next = (local_told place cell x world).1

  names : (local_told place cell x world).1.names ≡ world.names
  names = told_names place cell (x ∷ []) world

  first : List Entry
  first = (local_told place cell x world).0

  by_more : Among next.names note (all_told place cell (one ++ local.Note note ∷ two) next).0 → Among world.names note (all_told place cell (x ∷ (one ++ local.Note note ∷ two)) world).0
  by_more more = record {
    before = first ++ more.before;
    last = more.last;
    behind = more.behind;
    split = ap (λ (l : List Entry). first ++ l) (more.split ∙ ap (λ (k : Names). more.before ++ note_entry k more.last note ∷ more.behind) names) ∙ sym (append_assoc first more.before (note_entry world.names more.last note ∷ more.behind));
    still_before = silent_both first more.before (one_silent place cell x one world q) more.still_before;
    still_behind = more.still_behind;
  }

-- ---- acts

-- nothing is told of mailboxes, and the nodes are as they were
abbrev pub QuietTold : List (ℕ × NodeState) → Followed → Type 0
QuietTold nodes (Ok done) = AllQuiet done.0 × (done.1.nodes ≡ nodes)
QuietTold nodes (Err stop) = Unit {0}

quiet_steps : (done : List Step) (more : List LocalEntry) → AllQuiet more → AllQuiet (told_steps done ++ more)
quiet_steps [] more q = q
quiet_steps (step ∷ done) more q = quiet_steps done more q

asked_quiet : (cell : Cell) (done : Result (List Step × HostState) EndError) (f : Cell → Followed) → ((next : Cell) → next.nodes ≡ cell.nodes → QuietTold cell.nodes (f next)) → QuietTold cell.nodes (asked cell done then f)
asked_quiet cell done f each = by_done done where
  by_more : (told : List Step) (more : Followed) → QuietTold cell.nodes more → QuietTold cell.nodes (after_entries (told_steps told) more)
  by_more told (Ok more) m = (quiet_steps told more.0 m.0, m.1)
  by_more told (Err stop) m = tt

  by_none : (more : Followed) → QuietTold cell.nodes more → QuietTold cell.nodes (after_entries [] more)
  by_none (Ok more) m = m
  by_none (Err stop) m = tt

  by_done : (done : Result (List Step × HostState) EndError) → QuietTold cell.nodes (asked cell done then f)
  by_done (Ok did) = by_more did.0 (f (record cell { host = did.1 })) (each (record cell { host = did.1 }) refl)
  by_done (Err errors.Worn) = tt
  by_done (Err errors.OutOfMemory) = tt
  by_done (Err errors.NoEndPoint) = by_none (f cell) (each cell refl)
  by_done (Err errors.NoConnection) = by_none (f cell) (each cell refl)
  by_done (Err errors.QueueFull) = by_none (f cell) (each cell refl)
  by_done (Err errors.PayloadLong) = by_none (f cell) (each cell refl)
  by_done (Err errors.Spent) = by_none (f cell) (each cell refl)

quiet_at : (one two : List (ℕ × NodeState)) (done : Followed) → two ≡ one → QuietTold two done → QuietTold one done
quiet_at one two (Ok done) e q = (q.0, q.1 ∙ e)
quiet_at one two (Err stop) e q = tt

acts_told : (end : ℕ) (done : List Act) (cell : Cell) → AreQuiet done → QuietTold cell.nodes (acts_on end done cell)
acts_told end [] cell q = (tt, refl)
acts_told end (acts.Note note ∷ rest) cell q = by_more (acts_on end rest cell) (acts_told end rest cell q.1) where
  by_more : (more : Followed) → QuietTold cell.nodes more → QuietTold cell.nodes (after_entries (local.Note note ∷ []) more)
  by_more (Ok more) m = ((q.0, m.0), m.1)
  by_more (Err stop) m = tt
acts_told end (acts.Open conn peer ∷ rest) cell q = asked_quiet cell (host_connect cell.host end peer conn) (acts_on end rest) (λ next e. quiet_at cell.nodes next.nodes (acts_on end rest next) e (acts_told end rest next q))
acts_told end (acts.Put conn payload weight ∷ rest) cell q = asked_quiet cell (host_send cell.host end conn payload weight) (acts_on end rest) (λ next e. quiet_at cell.nodes next.nodes (acts_on end rest next) e (acts_told end rest next q))
acts_told end (acts.Close conn ∷ rest) cell q = asked_quiet cell (host_close cell.host end conn) (acts_on end rest) (λ next e. quiet_at cell.nodes next.nodes (acts_on end rest next) e (acts_told end rest next q))

pub acts_quiet : (end : ℕ) (done : List Act) (cell : Cell) (told : List LocalEntry) (after : Cell) → AreQuiet done → acts_on end done cell ≡ Ok (told, after) → AllQuiet told × (after.nodes ≡ cell.nodes)
acts_quiet end done cell told after q e = let all : QuietTold cell.nodes (Ok (told, after)) = subst (QuietTold cell.nodes) e (acts_told end done cell q) in all

-- ---- steps

-- what is first told, and the rest
record Behind (entry : LocalEntry) (more : Followed) (told : List LocalEntry) (after : Cell) : Type 0 where
  rest : List LocalEntry
  followed : more ≡ Ok (rest, after)
  spelled : told ≡ entry ∷ rest

behind : (entry : LocalEntry) (more : Followed) (told : List LocalEntry) (after : Cell) → after_entries (entry ∷ []) more ≡ Ok (told, after) → Behind entry more told after
behind entry (Err stop) told after e = absurd cc
behind entry (Ok more) told after e = let same : (entry ∷ more.0, more.1) ≡ (told, after) = cc in record {
  rest = more.0;
  followed = ap (λ (c : Cell). Ok (more.0, c)) (ap (λ (x : List LocalEntry × Cell). x.1) same);
  spelled = ap (λ (x : List LocalEntry × Cell). x.0) (sym same);
}

-- steps of which none posts tell of no mailbox
pub unheard : (done : List Step) (cell : Cell) (told : List LocalEntry) (after : Cell) → posts_in done ≡ [] → steps_on done cell ≡ Ok (told, after) → (after ≡ cell) × AllQuiet told
unheard [] cell told after p e = let same : ([], cell) ≡ (told, after) = cc in subst (λ (x : List LocalEntry × Cell). (x.1 ≡ cell) × AllQuiet x.0) same (refl, tt)
unheard (steps.Post end event ∷ rest) cell told after p e = absurd cc
unheard (steps.Dial sock end peer ∷ rest) cell told after p e = let b = behind (local.Step (steps.Dial sock end peer)) (steps_on rest cell) told after e in let more = unheard rest cell b.rest after p b.followed in (more.0, subst AllQuiet (sym b.spelled) more.1)
unheard (steps.Read sock ∷ rest) cell told after p e = let b = behind (local.Step (steps.Read sock)) (steps_on rest cell) told after e in let more = unheard rest cell b.rest after p b.followed in (more.0, subst AllQuiet (sym b.spelled) more.1)
unheard (steps.Write sock bytes said ∷ rest) cell told after p e = let b = behind (local.Step (steps.Write sock bytes said)) (steps_on rest cell) told after e in let more = unheard rest cell b.rest after p b.followed in (more.0, subst AllQuiet (sym b.spelled) more.1)
unheard (steps.Up sock ∷ rest) cell told after p e = let b = behind (local.Step (steps.Up sock)) (steps_on rest cell) told after e in let more = unheard rest cell b.rest after p b.followed in (more.0, subst AllQuiet (sym b.spelled) more.1)
unheard (steps.Down sock ∷ rest) cell told after p e = let b = behind (local.Step (steps.Down sock)) (steps_on rest cell) told after e in let more = unheard rest cell b.rest after p b.followed in (more.0, subst AllQuiet (sym b.spelled) more.1)
unheard (steps.Left sock ∷ rest) cell told after p e = let b = behind (local.Step (steps.Left sock)) (steps_on rest cell) told after e in let more = unheard rest cell b.rest after p b.followed in (more.0, subst AllQuiet (sym b.spelled) more.1)
unheard (steps.Broke end peer why ∷ rest) cell told after p e = let b = behind (local.Step (steps.Broke end peer why)) (steps_on rest cell) told after e in let more = unheard rest cell b.rest after p b.followed in (more.0, subst AllQuiet (sym b.spelled) more.1)

-- of steps of which one posts, what its node made of that stands between what tells of no mailbox
pub record Heard (end : ℕ) (event : Event) (cell : Cell) (told : List LocalEntry) (after : Cell) : Type 0 where
  pub one : List LocalEntry
  pub heard : List LocalEntry
  pub two : List LocalEntry
  pub split : told ≡ one ++ (heard ++ two)
  pub followed : posted end event cell ≡ Ok (heard, after)
  pub quiet_one : AllQuiet one
  pub quiet_two : AllQuiet two

heard_first : (end : ℕ) (event : Event) (step : Step) (cell : Cell) (rest told : List LocalEntry) (after : Cell) → told ≡ local.Step step ∷ rest → Heard end event cell rest after → Heard end event cell told after
heard_first end event step cell rest told after is h = record { one = local.Step step ∷ h.one; heard = h.heard; two = h.two; split = is ∙ ap (λ (l : List LocalEntry). local.Step step ∷ l) h.split; followed = h.followed; quiet_one = h.quiet_one; quiet_two = h.quiet_two }

last_heard : (end : ℕ) (event : Event) (rest : List Step) (cell : Cell) (told : List LocalEntry) (after : Cell) (r : Followed) → posted end event cell ≡ r → posts_in rest ≡ [] → (r then steps_on rest) ≡ Ok (told, after) → Heard end event cell told after
last_heard end event rest cell told after (Err stop) is p e = absurd cc
last_heard end event rest cell told after (Ok first) is p e = by_rest (steps_on rest first.1) refl e where
  by_rest : (more : Followed) → steps_on rest first.1 ≡ more → after_entries first.0 more ≡ Ok (told, after) → Heard end event cell told after
  by_rest (Err stop) m e = absurd cc
  by_rest (Ok more) m e =
      let same : (first.0 ++ more.0, more.1) ≡ (told, after) = cc in
      let u = unheard rest first.1 more.0 more.1 p m in
      record {
        one = [];
        heard = first.0;
        two = more.0;
        split = ap (λ (x : List LocalEntry × Cell). x.0) (sym same);
        followed = is ∙ ap (λ (c : Cell). Ok (first.0, c)) (sym u.0 ∙ ap (λ (x : List LocalEntry × Cell). x.1) same);
        quiet_one = tt;
        quiet_two = u.1;
      }

pub heard : (end : ℕ) (event : Event) (done : List Step) (cell : Cell) (told : List LocalEntry) (after : Cell) → posts_in done ≡ (end, event) ∷ [] → steps_on done cell ≡ Ok (told, after) → Heard end event cell told after
heard end event [] cell told after p e = absurd cc
heard end event (steps.Post at said ∷ rest) cell told after p e =
    let none : posts_in rest ≡ [] = cc in
    let first : ◌≡◌ {A = ℕ × Event} (at, said) (end, event) = cc in
    subst (λ (x : ℕ × Event). Heard x.0 x.1 cell told after) first (last_heard at said rest cell told after (posted at said cell) refl none e)
heard end event (steps.Dial sock at peer ∷ rest) cell told after p e = let b = behind (local.Step (steps.Dial sock at peer)) (steps_on rest cell) told after e in heard_first end event (steps.Dial sock at peer) cell b.rest told after b.spelled (heard end event rest cell b.rest after p b.followed)
heard end event (steps.Read sock ∷ rest) cell told after p e = let b = behind (local.Step (steps.Read sock)) (steps_on rest cell) told after e in heard_first end event (steps.Read sock) cell b.rest told after b.spelled (heard end event rest cell b.rest after p b.followed)
heard end event (steps.Write sock bytes said ∷ rest) cell told after p e = let b = behind (local.Step (steps.Write sock bytes said)) (steps_on rest cell) told after e in heard_first end event (steps.Write sock bytes said) cell b.rest told after b.spelled (heard end event rest cell b.rest after p b.followed)
heard end event (steps.Up sock ∷ rest) cell told after p e = let b = behind (local.Step (steps.Up sock)) (steps_on rest cell) told after e in heard_first end event (steps.Up sock) cell b.rest told after b.spelled (heard end event rest cell b.rest after p b.followed)
heard end event (steps.Down sock ∷ rest) cell told after p e = let b = behind (local.Step (steps.Down sock)) (steps_on rest cell) told after e in heard_first end event (steps.Down sock) cell b.rest told after b.spelled (heard end event rest cell b.rest after p b.followed)
heard end event (steps.Left sock ∷ rest) cell told after p e = let b = behind (local.Step (steps.Left sock)) (steps_on rest cell) told after e in heard_first end event (steps.Left sock) cell b.rest told after b.spelled (heard end event rest cell b.rest after p b.followed)
heard end event (steps.Broke at peer why ∷ rest) cell told after p e = let b = behind (local.Step (steps.Broke at peer why)) (steps_on rest cell) told after e in heard_first end event (steps.Broke at peer why) cell b.rest told after b.spelled (heard end event rest cell b.rest after p b.followed)

-- no node is at the endpoint, and nothing is told
pub record NoneHears (cell : Cell) (told : List LocalEntry) (after : Cell) : Type 0 where
  pub none : told ≡ []
  pub same : after ≡ cell

-- the node there did so, and its acts were done
pub record NodeHears (end : ℕ) (event : Event) (cell : Cell) (told : List LocalEntry) (after : Cell) : Type 0 where
  pub there : ℕ × NodeState
  pub found : find (is_at end) cell.nodes ≡ Some there
  pub acts : List Act
  pub next : NodeState
  pub does : node_event there.1 event ≡ Ok (acts, next)
  pub all : acts_on end acts (with_node end next cell) ≡ Ok (told, after)

pub who_hears : (end : ℕ) (event : Event) (cell : Cell) (told : List LocalEntry) (after : Cell) (P : Type 0) → posted end event cell ≡ Ok (told, after) → (NoneHears cell told after → P) → (NodeHears end event cell told after → P) → P
who_hears end event cell told after P e none some = by_node (find (is_at end) cell.nodes) refl e where
  by_given : (there : ℕ × NodeState) → find (is_at end) cell.nodes ≡ Some there → (given : Result (List Act × NodeState) Stop) → node_event there.1 event ≡ given → node_followed end cell given ≡ Ok (told, after) → P
  by_given there f (Ok done) is e = some (record { there = there; found = f; acts = done.0; next = done.1; does = is; all = e })
  by_given there f (Err stop) is e = absurd cc

  by_node : (o : Option (ℕ × NodeState)) → find (is_at end) cell.nodes ≡ o → (elim o as (λ o. Followed) [
    | None ↦ Ok ([], cell)
    | Some node ↦ node_followed end cell (node_event node.1 event)
  ]) ≡ Ok (told, after) → P
  by_node None f e = let same : ([], cell) ≡ (told, after) = cc in none (record { none = ap (λ (x : List LocalEntry × Cell). x.0) (sym same); same = ap (λ (x : List LocalEntry × Cell). x.1) (sym same) })
  by_node (Some there) f e = by_given there f (node_event there.1 event) refl e

-- ---- what steps tell, and what is told one after another

pub steps_quiet : (done : List Step) → AllQuiet (told_steps done)
steps_quiet [] = tt
steps_quiet (step ∷ done) = steps_quiet done

pub quiet_both : (one two : List LocalEntry) → AllQuiet one → AllQuiet two → AllQuiet (one ++ two)
quiet_both [] two q r = r
quiet_both (local.Note note ∷ one) two q r = (q.0, quiet_both one two q.1 r)
quiet_both (local.Step step ∷ one) two q r = quiet_both one two q r
