-- What follows a line of many nodes tells nothing that only a line or the network does, after the first entry.
use Rattle.std.proofs.Common.{◌≡◌, ℕ, zero, suc, ◌+◌, ◌*◌, Bool, true, false, cond, not, ◌||◌, List, [], ◌∷◌, ◌++◌, length, take, drop, Ok, Err, refl}
use Rattle.std.specs.Prelude.{find, slice_get, Result, Option, Some, None}
use Rattle.ch_base.specs.declared.event.Event.{Event}
use Rattle.ch_base.specs.declared.memory.Stop.{Stop}
use Rattle.ch_static.specs.declared.command.Command.{Command}
use Rattle.ch_static.specs.declared.command.Command.TheVariants as commands
use Rattle.ch_ident.specs.declared.reason.Reason.TheVariants as reasons
use Rattle.ch_model.specs.declared.act.Act.{Act}
use Rattle.ch_model.specs.declared.act.Act.TheVariants as acts
use Rattle.ch_model.specs.declared.command.CommandError.{CommandError}
use Rattle.ch_model.specs.declared.command.CommandError.TheVariants as refusals
use Rattle.ch_model.specs.declared.entry.Entry.{Entry}
use Rattle.ch_model.specs.declared.entry.Entry.TheVariants as entries
use Rattle.ch_model.specs.declared.entry.Verdict.{Verdict}
use Rattle.ch_model.specs.declared.entry.Verdict.TheVariants as verdicts
use Rattle.ch_model.specs.declared.line.What.{What}
use Rattle.ch_model.specs.declared.line.What.TheVariants as lines
use Rattle.ch_model.specs.declared.local.LocalEntry.{LocalEntry}
use Rattle.ch_model.specs.declared.local.LocalEntry.TheVariants as local
use Rattle.ch_model.specs.declared.local.LocalEvent.{LocalEvent}
use Rattle.ch_model.specs.declared.local.LocalEvent.TheVariants as events
use Rattle.ch_model.specs.declared.name.End.{End}
use Rattle.ch_model.specs.declared.name.End.TheVariants.{O, T}
use Rattle.ch_model.specs.declared.name.SockName.{SockName}
use Rattle.ch_model.specs.declared.note.Note.{Note}
use Rattle.ch_model.specs.declared.note.Note.TheVariants as notes
use Rattle.ch_model.specs.declared.step.EndError.{EndError}
use Rattle.ch_model.specs.declared.step.EndError.TheVariants as errors
use Rattle.ch_model.specs.declared.step.Place.{Place}
use Rattle.ch_model.specs.declared.step.SocketEvent.{SocketEvent}
use Rattle.ch_model.specs.declared.step.SocketEvent.TheVariants as sockets
use Rattle.ch_model.specs.declared.step.Step.{Step}
use Rattle.ch_model.specs.declared.step.Step.TheVariants as steps
use Rattle.ch_model.specs.Cell.{Celled, answered, refused, refusal, node_did, at_node, commanded, room_for, host_did, heard_as, cell_step}
use Rattle.ch_model.specs.CellSteps.{Followed, after_entries, ◌then◌, is_at, with_node, told_steps, asked, act_on, acts_on, node_followed, posted, step_on, steps_on, items_on, kept_bytes, all_items}
use Rattle.ch_model.specs.HasAnswers.{is_of_line, is_of_network}
use Rattle.ch_model.specs.Host.{host_on, host_next}
use Rattle.ch_model.specs.HostCalls.{host_connect, host_send, host_close}
use Rattle.ch_model.specs.HostState.{HostState}
use Rattle.ch_model.specs.HostSteps.{Stepped}
use Rattle.ch_model.specs.Naming.{Names, address_as, target_as}
use Rattle.ch_model.specs.Node.{node_make, node_command, node_event, target_node}
use Rattle.ch_model.specs.NodeState.{NodeState}
use Rattle.ch_model.specs.WorldHappenings.{Answered, after_entry, with_cell, cell_told, cell_hears, end_hears, joins, comes_at, comes, hands, feeds, mark_of}
use Rattle.ch_model.specs.WorldLines.{node_hears, on_socket, can_join, can_come, can_feed, line_done}
use Rattle.ch_model.specs.WorldSockets.{end_of, other, opened, item_arrives, is_socket_named, with_end_of, find_end, cell_of}
use Rattle.ch_model.specs.WorldState.{Cell, Named, WorldEnd, WorldSocket, World}
use Rattle.ch_model.specs.WorldSteps.{note_entry, on_end, reads_item, end_closes, stepped, local_told, all_told}
use Rattle.ch_laws_many.specs.ManyLines.{is_of_many}
use Rattle.ch_laws_many.proofs.Unshut.{IsOfMany}
use Rattle.ch_laws_many.proofs.Quiet.{is_quiet, ShutsNot, quiet_shuts_not, AreQuiet, RestQuiet, Quiet, Rest, as_rest, event_quiet, make_quiet, finish_quiet, send_rest, receive_rest}

-- ---- at a cell

abbrev TellsQuiet : List LocalEntry → Type 0
TellsQuiet [] = Unit {0}
TellsQuiet (local.Note note ∷ rest) = (is_quiet note ≡ true) × TellsQuiet rest
TellsQuiet (local.Step step ∷ rest) = TellsQuiet rest

abbrev TellsRest : List LocalEntry → Type 0
TellsRest [] = Unit {0}
TellsRest (local.Note note ∷ rest) = ShutsNot note × TellsQuiet rest
TellsRest (local.Step step ∷ rest) = TellsQuiet rest

abbrev FollowedQuiet : Followed → Type 0
FollowedQuiet (Ok done) = TellsQuiet done.0
FollowedQuiet (Err stop) = Unit {0}

abbrev FollowedRest : Followed → Type 0
FollowedRest (Ok done) = TellsRest done.0
FollowedRest (Err stop) = Unit {0}

abbrev CelledQuiet : Celled → Type 0
CelledQuiet (Ok done) = TellsQuiet done.0.1
CelledQuiet (Err stop) = Unit {0}

abbrev CelledRest : Celled → Type 0
CelledRest (Ok done) = TellsRest done.0.1
CelledRest (Err stop) = Unit {0}

told_rest : (all : List LocalEntry) → TellsQuiet all → TellsRest all
told_rest [] q = tt
told_rest (local.Note note ∷ rest) q = (quiet_shuts_not note q.0, q.1)
told_rest (local.Step step ∷ rest) q = q

followed_rest : (done : Followed) → FollowedQuiet done → FollowedRest done
followed_rest (Ok done) q = told_rest done.0 q
followed_rest (Err stop) q = tt

told_both : (xs ys : List LocalEntry) → TellsQuiet xs → TellsQuiet ys → TellsQuiet (xs ++ ys)
told_both [] ys a b = b
told_both (local.Note note ∷ xs) ys a b = (a.0, told_both xs ys a.1 b)
told_both (local.Step step ∷ xs) ys a b = told_both xs ys a b

rest_both : (xs ys : List LocalEntry) → TellsRest xs → TellsQuiet ys → TellsRest (xs ++ ys)
rest_both [] ys a b = told_rest ys b
rest_both (local.Note note ∷ xs) ys a b = (a.0, told_both xs ys a.1 b)
rest_both (local.Step step ∷ xs) ys a b = told_both xs ys a b

then_quiet : (done : Followed) (f : Cell → Followed) → FollowedQuiet done → ((c : Cell) → FollowedQuiet (f c)) → FollowedQuiet (done then f)
then_quiet (Err stop) f a k = tt
then_quiet (Ok done) f a k = by_more (f done.1) (k done.1) where
  by_more : (more : Followed) → FollowedQuiet more → FollowedQuiet (after_entries done.0 more)
  by_more (Ok more) b = told_both done.0 more.0 a b
  by_more (Err stop) b = tt

then_rest : (done : Followed) (f : Cell → Followed) → FollowedRest done → ((c : Cell) → FollowedQuiet (f c)) → FollowedRest (done then f)
then_rest (Err stop) f a k = tt
then_rest (Ok done) f a k = by_more (f done.1) (k done.1) where
  by_more : (more : Followed) → FollowedQuiet more → FollowedRest (after_entries done.0 more)
  by_more (Ok more) b = rest_both done.0 more.0 a b
  by_more (Err stop) b = tt

steps_quiet : (done : List Step) → TellsQuiet (told_steps done)
steps_quiet [] = tt
steps_quiet (step ∷ rest) = steps_quiet rest

asked_quiet : (cell : Cell) (done : Result (List Step × HostState) EndError) → FollowedQuiet (asked cell done)
asked_quiet cell (Ok done) = steps_quiet done.0
asked_quiet cell (Err errors.Worn) = tt
asked_quiet cell (Err errors.OutOfMemory) = tt
asked_quiet cell (Err e) = tt

acts_quiet : (end : ℕ) (all : List Act) (cell : Cell) → AreQuiet all → FollowedQuiet (acts_on end all cell)
acts_quiet end [] cell q = tt
acts_quiet end (acts.Note note ∷ rest) cell q = then_quiet (act_on end (acts.Note note) cell) (acts_on end rest) (q.0, tt) (λ c. acts_quiet end rest c q.1)
acts_quiet end (acts.Open conn peer ∷ rest) cell q = then_quiet (act_on end (acts.Open conn peer) cell) (acts_on end rest) (asked_quiet cell (host_connect cell.host end peer conn)) (λ c. acts_quiet end rest c q)
acts_quiet end (acts.Put conn payload weight ∷ rest) cell q = then_quiet (act_on end (acts.Put conn payload weight) cell) (acts_on end rest) (asked_quiet cell (host_send cell.host end conn payload weight)) (λ c. acts_quiet end rest c q)
acts_quiet end (acts.Close conn ∷ rest) cell q = then_quiet (act_on end (acts.Close conn) cell) (acts_on end rest) (asked_quiet cell (host_close cell.host end conn)) (λ c. acts_quiet end rest c q)

acts_rest : (end : ℕ) (all : List Act) (cell : Cell) → RestQuiet all → FollowedRest (acts_on end all cell)
acts_rest end [] cell q = tt
acts_rest end (acts.Note note ∷ rest) cell q = then_rest (act_on end (acts.Note note) cell) (acts_on end rest) (q.0, tt) (λ c. acts_quiet end rest c q.1)
acts_rest end (acts.Open conn peer ∷ rest) cell q = then_rest (act_on end (acts.Open conn peer) cell) (acts_on end rest) (followed_rest (asked cell (host_connect cell.host end peer conn)) (asked_quiet cell (host_connect cell.host end peer conn))) (λ c. acts_quiet end rest c q)
acts_rest end (acts.Put conn payload weight ∷ rest) cell q = then_rest (act_on end (acts.Put conn payload weight) cell) (acts_on end rest) (followed_rest (asked cell (host_send cell.host end conn payload weight)) (asked_quiet cell (host_send cell.host end conn payload weight))) (λ c. acts_quiet end rest c q)
acts_rest end (acts.Close conn ∷ rest) cell q = then_rest (act_on end (acts.Close conn) cell) (acts_on end rest) (followed_rest (asked cell (host_close cell.host end conn)) (asked_quiet cell (host_close cell.host end conn))) (λ c. acts_quiet end rest c q)

-- ---- what a host's steps tell a node

posted_quiet : (end : ℕ) (event : Event) (cell : Cell) → FollowedQuiet (posted end event cell)
posted_quiet end event cell = by_node (find (is_at end) cell.nodes) where
  did : (done : Result (List Act × NodeState) Stop) → Quiet done → FollowedQuiet (node_followed end cell done)
  did (Ok done) q = acts_quiet end done.0 (with_node end done.1 cell) q
  did (Err stop) q = tt

  by_node : (o : Option (ℕ × NodeState)) → FollowedQuiet (elim o as (λ o. Followed) [
    | None ↦ Ok ([], cell)
    | Some node ↦ node_followed end cell (node_event node.1 event)
  ])
  by_node None = tt
  by_node (Some node) = did (node_event node.1 event) (event_quiet node.1 event)

step_quiet : (step : Step) (cell : Cell) → FollowedQuiet (step_on step cell)
step_quiet (steps.Post end event) cell = posted_quiet end event cell
step_quiet step cell = tt

all_steps_quiet : (all : List Step) (cell : Cell) → FollowedQuiet (steps_on all cell)
all_steps_quiet [] cell = tt
all_steps_quiet (step ∷ rest) cell = then_quiet (step_on step cell) (steps_on rest) (step_quiet step cell) (all_steps_quiet rest)

items_quiet : (fuel : ℕ) (cell : Cell) → FollowedQuiet (items_on fuel cell)
items_quiet zero cell = tt
items_quiet (suc fuel) cell = by_next (host_next cell.host) (items_quiet fuel) where
  by_done : (host : HostState) (o : Option (List Step)) → ((c : Cell) → FollowedQuiet (items_on fuel c)) → FollowedQuiet (elim o as (λ o. Followed) [
    | None ↦ Ok ([], cell)
    | Some done ↦ (steps_on done (record cell { host = host }) then items_on fuel)
  ])
  by_done host None more = tt
  by_done host (Some done) more = then_quiet (steps_on done (record cell { host = host })) (items_on fuel) (all_steps_quiet done (record cell { host = host })) more

  by_next : (r : Result (Option (List Step) × HostState) Stop) → ((c : Cell) → FollowedQuiet (items_on fuel c)) → FollowedQuiet (elim r as (λ r. Followed) [
    | Err stop ↦ Err stop
    | Ok next ↦ elim next.0 [
      | None ↦ Ok ([], cell)
      | Some done ↦ (steps_on done (record cell { host = next.1 }) then items_on fuel)
    ]
  ])
  by_next (Err stop) more = tt
  by_next (Ok next) more = by_done next.1 next.0 more

-- ---- what a cell makes of an event

answered_quiet : (verdict : Verdict) (done : Followed) → FollowedQuiet done → CelledQuiet (answered verdict done)
answered_quiet verdict (Ok done) q = q
answered_quiet verdict (Err stop) q = tt

answered_rest : (verdict : Verdict) (done : Followed) → FollowedRest done → CelledRest (answered verdict done)
answered_rest verdict (Ok done) q = q
answered_rest verdict (Err stop) q = tt

host_quiet : (verdict : Verdict) (cell : Cell) (done : Stepped) → CelledQuiet (host_did verdict cell done)
host_quiet verdict cell (Ok done) = answered_quiet verdict (steps_on done.0 (record cell { host = done.1 }) then all_items) (then_quiet (steps_on done.0 (record cell { host = done.1 })) all_items (all_steps_quiet done.0 (record cell { host = done.1 })) (λ c. items_quiet (kept_bytes c.host) c))
host_quiet verdict cell (Err stop) = tt

refusal_rest : (e : CommandError) (cell : Cell) → CelledRest (refusal e cell)
refusal_rest refusals.OutOfMemory cell = tt
refusal_rest refusals.Worn cell = tt
refusal_rest e cell = tt

did_rest : (end : ℕ) (cell : Cell) (done : Result (List Act × NodeState) CommandError) → Rest done → CelledRest (node_did end cell done)
did_rest end cell (Ok done) q = answered_rest verdicts.Ok (acts_on end done.0 (with_node end done.1 cell) then all_items) (then_rest (acts_on end done.0 (with_node end done.1 cell)) all_items (acts_rest end done.0 (with_node end done.1 cell) q) (λ c. items_quiet (kept_bytes c.host) c))
did_rest end cell (Err e) q = refusal_rest e cell

node_rest : (end : ℕ) (cell : Cell) (f : NodeState → Celled) → ((node : NodeState) → CelledRest (f node)) → CelledRest (at_node end cell f)
node_rest end cell f each = by_node (find (is_at end) cell.nodes) where
  by_node : (o : Option (ℕ × NodeState)) → CelledRest (elim o as (λ o. Celled) [
    | None ↦ refused verdicts.Nothing cell
    | Some node ↦ f node.1
  ])
  by_node None = tt
  by_node (Some node) = each node.1

made_rest : (end : ℕ) (cell : Cell) → CelledRest (cell_step cell (events.Make end))
made_rest end cell = node_rest end cell (λ node. node_did end cell (node_make node)) (λ node. did_rest end cell (node_make node) (as_rest (node_make node) (make_quiet node)))

commanded_rest : (end by : ℕ) (command : Command) (cell : Cell) → IsOfMany command → CelledRest (cell_step cell (events.Command end by command))
unfolding node_command
commanded_rest end by (commands.Send to said) cell of = node_rest end cell (commanded end by (commands.Send to said) cell) (λ node. did_rest end cell (node_command node by (commands.Send to said) (room_for cell.host end node.own (target_node node by (commands.Send to said)))) (send_rest node by to said (room_for cell.host end node.own (target_node node by (commands.Send to said)))))
commanded_rest end by (commands.Receive mark) cell of = node_rest end cell (commanded end by (commands.Receive mark) cell) (λ node. did_rest end cell (node_command node by (commands.Receive mark) (room_for cell.host end node.own (target_node node by (commands.Receive mark)))) (receive_rest node by mark))
commanded_rest end by commands.End cell of = node_rest end cell (commanded end by commands.End cell) (λ node. did_rest end cell (node_command node by commands.End (room_for cell.host end node.own (target_node node by commands.End))) (as_rest (node_command node by commands.End (room_for cell.host end node.own (target_node node by commands.End))) (finish_quiet node by reasons.Normal)))
commanded_rest end by command cell of = absurd of

-- ---- entries

-- the entry is of nothing that only a line or the network does
abbrev pub is_still : Entry → Bool
is_still entry = not (is_of_line entry || is_of_network entry)

abbrev pub AreStill : List Entry → Type 0
AreStill [] = Unit {0}
AreStill (entry ∷ rest) = (is_still entry ≡ true) × AreStill rest

-- a node is shut by the entry
abbrev pub is_shutting : Entry → Bool
is_shutting (entries.Shut node) = true
is_shutting entry = false

-- all but the first are, which shuts no node
abbrev pub RestStill : List Entry → Type 0
RestStill [] = Unit {0}
RestStill (entry ∷ rest) = (is_shutting entry ≡ false) × AreStill rest

pub still_open : (x : Entry) → is_still x ≡ true → is_shutting x ≡ false
still_open (entries.Shut node) s = absurd cc
still_open x s = refl

still_rest : (all : List Entry) → AreStill all → RestStill all
still_rest [] s = tt
still_rest (x ∷ rest) s = (still_open x s.0, s.1)

still_both : (xs ys : List Entry) → AreStill xs → AreStill ys → AreStill (xs ++ ys)
still_both [] ys a b = b
still_both (x ∷ xs) ys a b = (a.0, still_both xs ys a.1 b)

note_still : (known : Names) (last : Option Place) (note : Note) → is_quiet note ≡ true → is_still (note_entry known last note) ≡ true
note_still known last (notes.Said by to epoch index message) q = absurd cc
note_still known last (notes.Again by to epoch) q = absurd cc
note_still known last (notes.Took by port message) q = absurd cc
note_still known last (notes.Port port) q = absurd cc
note_still known last (notes.Watch watch by target kind) q = absurd cc
note_still known last (notes.Unwatch watch) q = absurd cc
note_still known last (notes.Asked question by at) q = absurd cc
note_still known last (notes.Shut node) q = absurd cc
note_still known last (notes.Made process origin) q = refl
note_still known last note q = refl

note_open : (known : Names) (last : Option Place) (note : Note) → ShutsNot note → is_shutting (note_entry known last note) ≡ false
note_open known last (notes.Shut node) n = absurd n
note_open known last (notes.Made process origin) n = refl
note_open known last note n = refl

end_still : (place sock : ℕ) (f : SockName × End → World → List Entry × World) (world : World) → ((at : SockName × End) → AreStill (f at world).0) → AreStill (on_end place sock f world).0
end_still place sock f world each = by_end (find_end place sock world.sockets) where
  by_end : (o : Option (SockName × End)) → AreStill (elim o as (λ o. List Entry × World) [
    | None ↦ ([], world)
    | Some at ↦ f at world
  ]).0
  by_end None = tt
  by_end (Some at) = each at

step_still : (place : ℕ) (cell : Cell) (step : Step) (world : World) → AreStill (stepped place cell step world).0
step_still place cell (steps.Dial sock end peer) world = (refl, tt)
step_still place cell (steps.Read sock) world = end_still place sock reads_item world (λ at. tt)
step_still place cell (steps.Write sock bytes said) world = end_still place sock (λ at now. (entries.Wrote at.0 at.1 bytes ∷ [], with_end_of at.0 (other at.1) (item_arrives bytes said) now)) world (λ at. (refl, tt))
step_still place cell (steps.Up sock) world = end_still place sock (λ at now. (entries.Up at.0 at.1 ∷ [], now)) world (λ at. (refl, tt))
step_still place cell (steps.Down sock) world = end_still place sock (λ at now. (entries.Down at.0 at.1 ∷ [], end_closes at now)) world (λ at. (refl, tt))
step_still place cell (steps.Left sock) world = end_still place sock (λ at now. (entries.Left at.0 at.1 ∷ [], end_closes at now)) world (λ at. (refl, tt))
step_still place cell (steps.Broke end peer why) world = (refl, tt)
step_still place cell (steps.Post end event) world = tt

all_still : (place : ℕ) (cell : Cell) (told : List LocalEntry) (world : World) → TellsQuiet told → AreStill (all_told place cell told world).0
all_still place cell [] world q = tt
all_still place cell (local.Note note ∷ rest) world q = (note_still world.names world.last note q.0, all_still place cell rest (local_told place cell (local.Note note) world).1 q.1)
all_still place cell (local.Step step ∷ rest) world q = still_both (stepped place cell step world).0 (all_told place cell rest (stepped place cell step world).1).0 (step_still place cell step world) (all_still place cell rest (stepped place cell step world).1 q)

all_rest : (place : ℕ) (cell : Cell) (told : List LocalEntry) (world : World) → TellsRest told → RestStill (all_told place cell told world).0
all_rest place cell [] world q = tt
all_rest place cell (local.Note note ∷ rest) world q = (note_open world.names world.last note q.0, all_still place cell rest (local_told place cell (local.Note note) world).1 q.1)
all_rest place cell (local.Step step ∷ rest) world q = still_rest (all_told place cell (local.Step step ∷ rest) world).0 (all_still place cell (local.Step step ∷ rest) world q)

-- ---- what happens

abbrev AnsweredStill : Answered → Type 0
AnsweredStill (Ok done) = AreStill done.0.1
AnsweredStill (Err stop) = Unit {0}

abbrev pub AnsweredRest : Answered → Type 0
AnsweredRest (Ok done) = RestStill done.0.1
AnsweredRest (Err stop) = Unit {0}

told_still : (place : ℕ) (cell : Cell × ℕ) (world : World) (done : Celled) → CelledQuiet done → AnsweredStill (cell_told place cell world done)
told_still place cell world (Ok done) q = all_still place done.1 done.0.1 (with_cell place (done.1, cell.1) world) q
told_still place cell world (Err stop) q = tt

told_on : (place : ℕ) (cell : Cell × ℕ) (world : World) (done : Celled) → CelledRest done → AnsweredRest (cell_told place cell world done)
told_on place cell world (Ok done) q = all_rest place done.1 done.0.1 (with_cell place (done.1, cell.1) world) q
told_on place cell world (Err stop) q = tt

hears_still : (place : ℕ) (event : LocalEvent) (world : World) → ((cell : Cell) → CelledQuiet (cell_step cell event)) → AnsweredStill (cell_hears place event world)
hears_still place event world each = by_cell (slice_get world.cells place) where
  by_cell : (o : Option (Cell × ℕ)) → AnsweredStill (elim o as (λ o. Answered) [
    | None ↦ Ok ((verdicts.Nothing, []), world)
    | Some cell ↦ cell_told place cell world (cell_step cell.0 event)
  ])
  by_cell None = tt
  by_cell (Some cell) = told_still place cell world (cell_step cell.0 event) (each cell.0)

hears_rest : (place : ℕ) (event : LocalEvent) (world : World) → ((cell : Cell) → CelledRest (cell_step cell event)) → AnsweredRest (cell_hears place event world)
hears_rest place event world each = by_cell (slice_get world.cells place) where
  by_cell : (o : Option (Cell × ℕ)) → AnsweredRest (elim o as (λ o. Answered) [
    | None ↦ Ok ((verdicts.Nothing, []), world)
    | Some cell ↦ cell_told place cell world (cell_step cell.0 event)
  ])
  by_cell None = tt
  by_cell (Some cell) = told_on place cell world (cell_step cell.0 event) (each cell.0)

end_hears_still : (end : WorldEnd) (event : ℕ → SocketEvent) (world : World) → AnsweredStill (end_hears end event world)
end_hears_still end event world = by_cell end.cell end.number where
  by_cell : (o n : Option ℕ) → AnsweredStill (elim o as (λ o. Answered) [
    | None ↦ Ok ((verdicts.Nothing, []), world)
    | Some place ↦ elim n [
      | None ↦ Ok ((verdicts.Nothing, []), world)
      | Some number ↦ cell_hears place (events.Socket (event number)) world
    ]
  ])
  by_cell None n = tt
  by_cell (Some place) None = tt
  by_cell (Some place) (Some number) = hears_still place (events.Socket (event number)) world (λ cell. host_quiet (heard_as cell.host (event number)) cell (host_on cell.host (event number)))

entry_rest : (entry : Entry) (done : Answered) → is_shutting entry ≡ false → AnsweredStill done → AnsweredRest (after_entry entry done)
entry_rest entry (Ok done) e s = (e, s)
entry_rest entry (Err stop) e s = tt

comes_rest : (socket : WorldSocket) (world : World) → AnsweredRest (comes socket world)
comes_rest socket world = by_place socket.t.cell where
  by_cell : (place : ℕ) (o : Option (Cell × ℕ)) → AnsweredStill (elim o as (λ o. Answered) [
    | None ↦ Ok ((verdicts.Nothing, []), world)
    | Some cell ↦ cell_hears place (events.Came (mark_of socket.o) (2 * cell.1 + 1) socket.from_host)
        (with_end_of socket.name T (λ end. record (opened end) { number = Some (2 * cell.1 + 1) }) (with_cell place (cell.0, cell.1 + 1) world))
  ])
  by_cell place None = tt
  by_cell place (Some cell) = hears_still place (events.Came (mark_of socket.o) (2 * cell.1 + 1) socket.from_host) (with_end_of socket.name T (λ end. record (opened end) { number = Some (2 * cell.1 + 1) }) (with_cell place (cell.0, cell.1 + 1) world))
      (λ c. host_quiet verdicts.Ok c (host_on c.host (sockets.Came (2 * cell.1 + 1) socket.from_host)))

  by_place : (o : Option ℕ) → AnsweredRest (elim o as (λ o. Answered) [
    | None ↦ Ok ((verdicts.Nothing, []), world)
    | Some place ↦ after_entry (entries.Came socket.name) (comes_at place socket world)
  ])
  by_place None = tt
  by_place (Some place) = entry_rest (entries.Came socket.name) (comes_at place socket world) refl (by_cell place (slice_get world.cells place))

hands_still : (bytes : List ℕ) (end : WorldEnd) (world : World) → AnsweredStill (hands bytes end world)
hands_still [] end world = end_hears_still end (λ sock. sockets.Ended sock) world
hands_still (b ∷ bytes) end world = end_hears_still end (λ sock. sockets.Fed sock (b ∷ bytes)) world

socket_rest : (sock : SockName) (test : WorldSocket → Bool) (f : WorldSocket → World → Answered) (world : World) → ((socket : WorldSocket) → AnsweredRest (f socket world)) → AnsweredRest (on_socket sock test f world)
socket_rest sock test f world each = by_socket (find (is_socket_named sock) world.sockets) where
  by_test : (s : WorldSocket) (b : Bool) → AnsweredRest (cond b (f s world) (Ok ((verdicts.Nothing, []), world)))
  by_test s true = each s
  by_test s false = tt

  by_socket : (o : Option WorldSocket) → AnsweredRest (elim o as (λ o. Answered) [
    | None ↦ Ok ((verdicts.Nothing, []), world)
    | Some socket ↦ cond (test socket) (f socket world) (Ok ((verdicts.Nothing, []), world))
  ])
  by_socket None = tt
  by_socket (Some s) = by_test s (test s)

named_rest : (name : List ℕ) (event : ℕ → LocalEvent) (world : World) → ((end : ℕ) (cell : Cell) → CelledRest (cell_step cell (event end))) → AnsweredRest (node_hears name event world)
named_rest name event world each = by_cell (cell_of world (address_as world.names name)) where
  by_cell : (o : Option ℕ) → AnsweredRest (elim o as (λ o. Answered) [
    | None ↦ Ok ((verdicts.Nothing, []), world)
    | Some place ↦ cell_hears place (event (address_as world.names name).id) world
  ])
  by_cell None = tt
  by_cell (Some place) = hears_rest place (event (address_as world.names name).id) world (each (address_as world.names name).id)

-- after the first entry of a line, what it does is still
pub line_rest : (known : List Named) (what : What) (world : World) → is_of_many known what ≡ true → AnsweredRest (line_done what world)
line_rest known (lines.Node name address unique) world of = tt
line_rest known (lines.Proc node) world of = named_rest node (λ end. events.Make end) world made_rest
line_rest known (lines.Send by to mark body) world of = named_rest by.node (λ end. events.Command end by.counter (commands.Send (target_as world.names to) (record { mark = mark; body = body }))) world (λ end cell. commanded_rest end by.counter (commands.Send (target_as world.names to) (record { mark = mark; body = body })) cell tt)
line_rest known (lines.Recv by mark) world of = named_rest by.node (λ end. events.Command end by.counter (commands.Receive mark)) world (λ end cell. commanded_rest end by.counter (commands.Receive mark) cell tt)
line_rest known (lines.End by) world of = named_rest by.node (λ end. events.Command end by.counter commands.End) world (λ end cell. commanded_rest end by.counter commands.End cell tt)
line_rest known (lines.Join sock) world of = socket_rest sock can_join joins world (λ s. entry_rest (entries.Joined s.name) (end_hears s.o (λ n. sockets.Joined n) (with_end_of s.name O opened world)) refl (end_hears_still s.o (λ n. sockets.Joined n) (with_end_of s.name O opened world)))
line_rest known (lines.Come sock) world of = socket_rest sock can_come comes world (λ s. comes_rest s world)
line_rest known (lines.Feed sock end count) world of = socket_rest sock (can_feed end) (feeds end count) world (λ s. entry_rest (entries.Fed s.name end (length (take count (end_of end s).unread))) (hands (take count (end_of end s).unread) (end_of end s) (with_end_of s.name end (λ e. record e { unread = drop count e.unread }) world)) refl
    (hands_still (take count (end_of end s).unread) (end_of end s) (with_end_of s.name end (λ e. record e { unread = drop count e.unread }) world)))
line_rest known what world of = absurd cc
