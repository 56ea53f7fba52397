-- What follows an event at a cell, and the entries of it.
use Rattle.std.proofs.Common.{ℕ, zero, suc, List, [], ◌∷◌, ◌++◌, Ok, Err}
use Rattle.std.specs.Prelude.{find, Result, Option, Some, None}
use Rattle.ch_base.specs.declared.event.Event.{Event}
use Rattle.ch_base.specs.declared.memory.Stop.{Stop}
use Rattle.ch_ident.specs.declared.identifier.ProcessId.{ProcessId}
use Rattle.ch_ident.specs.declared.reason.Reason.{Reason}
use Rattle.ch_ident.specs.declared.reason.Reason.TheVariants as reasons
use Rattle.ch_static.specs.declared.command.Command.{Command}
use Rattle.ch_static.specs.declared.command.Command.TheVariants as commands
use Rattle.ch_model.specs.declared.act.Act.{Act}
use Rattle.ch_model.specs.declared.act.Act.TheVariants as acts
use Rattle.ch_model.specs.declared.command.CommandError.{CommandError}
use Rattle.ch_model.specs.declared.command.CommandError.TheVariants as refusals
use Rattle.ch_model.specs.declared.entry.Verdict.{Verdict}
use Rattle.ch_model.specs.declared.entry.Verdict.TheVariants as verdicts
use Rattle.ch_model.specs.declared.local.LocalEntry.{LocalEntry}
use Rattle.ch_model.specs.declared.local.LocalEntry.TheVariants as local
use Rattle.ch_model.specs.declared.local.LocalEvent.{LocalEvent}
use Rattle.ch_model.specs.declared.local.LocalEvent.TheVariants as events
use Rattle.ch_model.specs.declared.note.Note.{Note}
use Rattle.ch_model.specs.declared.note.Note.TheVariants as notes
use Rattle.ch_model.specs.declared.step.EndError.{EndError}
use Rattle.ch_model.specs.declared.step.EndError.TheVariants as errors
use Rattle.ch_model.specs.declared.step.SocketEvent.TheVariants as sockets
use Rattle.ch_model.specs.declared.step.Step.{Step}
use Rattle.ch_model.specs.declared.step.Step.TheVariants as steps
use Rattle.ch_model.specs.Cell.{Celled, answered, refused, refusal, node_did, at_node, commanded, room_for, closes_after, shut_node, host_did, heard_as, cell_step}
use Rattle.ch_model.specs.CellSteps.{Followed, after_entries, ◌then◌, is_at, with_node, told_steps, asked, act_on, acts_on, node_followed, posted, step_on, steps_on, items_on, kept_bytes, all_items}
use Rattle.ch_model.specs.Host.{host_on, host_next}
use Rattle.ch_model.specs.HostCalls.{host_connect, host_send, host_close, host_close_endpoint}
use Rattle.ch_model.specs.HostState.{HostState}
use Rattle.ch_model.specs.HostSteps.{Stepped}
use Rattle.ch_model.specs.Node.{node_make, node_command, node_event, node_shut, target_node}
use Rattle.ch_model.specs.NodeIds.{process_id}
use Rattle.ch_model.specs.NodeState.{NodeState}
use Rattle.ch_model.specs.WorldState.{Cell}
use Rattle.ch_laws_endings.specs.Causes.{spawned_by, HasCause, AreCaused, EndsFirst, AreAsked}
use Rattle.ch_laws_endings.specs.Told.{AllCaused, EndsNobody}
use Rattle.ch_laws_endings.proofs.NodeEnds.{Caused, Ended, weaker_note, event_caused}
use Rattle.ch_laws_endings.proofs.CommandEnds.{Asked, finished, command_asked, make_caused, shut_caused}

-- ---- one thing and then another

abbrev FollowedCaused : Followed → Type 0
FollowedCaused (Ok done) = AllCaused None done.0
FollowedCaused (Err stop) = Unit {0}

-- what was told is no end but of a process just made for a spawn
abbrev pub CelledCaused : Celled → Type 0
CelledCaused (Ok done) = AllCaused None done.0.1
CelledCaused (Err stop) = Unit {0}

weaker_told : (made : Option ProcessId) (all : List LocalEntry) → AllCaused None all → AllCaused made all
weaker_told made [] c = tt
weaker_told made (local.Note note ∷ rest) c = (weaker_note made note c.0, c.1)
weaker_told made (local.Step step ∷ rest) c = c

told_both : (made : Option ProcessId) (xs ys : List LocalEntry) → AllCaused made xs → AllCaused None ys → AllCaused made (xs ++ ys)
told_both made [] ys a b = weaker_told made ys b
told_both made (local.Note note ∷ xs) ys a b = (a.0, told_both (spawned_by note) xs ys a.1 b)
told_both made (local.Step step ∷ xs) ys a b = told_both None xs ys a b

then_caused : (done : Followed) (f : Cell → Followed) → FollowedCaused done → ((c : Cell) → FollowedCaused (f c)) → FollowedCaused (done then f)
then_caused (Err stop) f a k = tt
then_caused (Ok done) f a k = by_more (f done.1) (k done.1) where
  by_more : (more : Followed) → FollowedCaused more → FollowedCaused (after_entries done.0 more)
  by_more (Ok more) b = told_both None done.0 more.0 a b
  by_more (Err stop) b = tt

-- what was told, where this process was made for a spawn directly before, if any was
abbrev FollowedAfter : Option ProcessId → Followed → Type 0
FollowedAfter made (Ok done) = AllCaused made done.0
FollowedAfter made (Err stop) = Unit {0}

note_then : (made : Option ProcessId) (note : Note) (done : Followed) → HasCause made note → FollowedAfter (spawned_by note) done → FollowedAfter made (after_entries (local.Note note ∷ []) done)
note_then made note (Ok done) c a = (c, a)
note_then made note (Err stop) c a = tt

steps_then : (made : Option ProcessId) (done : Followed) (f : Cell → Followed) → FollowedCaused done → ((c : Cell) → FollowedAfter None (f c)) → FollowedAfter made (done then f)
steps_then made (Err stop) f a k = tt
steps_then made (Ok done) f a k = by_more (f done.1) (k done.1) where
  by_more : (more : Followed) → FollowedAfter None more → FollowedAfter made (after_entries done.0 more)
  by_more (Ok more) b = told_both made done.0 more.0 (weaker_told made done.0 a) b
  by_more (Err stop) b = tt

-- ---- what a node's acts ask of the host

steps_caused : (done : List Step) → AllCaused None (told_steps done)
steps_caused [] = tt
steps_caused (step ∷ rest) = steps_caused rest

asked_caused : (cell : Cell) (done : Result (List Step × HostState) EndError) → FollowedCaused (asked cell done)
asked_caused cell (Ok done) = steps_caused done.0
asked_caused cell (Err errors.Worn) = tt
asked_caused cell (Err errors.OutOfMemory) = tt
asked_caused cell (Err e) = tt

acts_after : (end : ℕ) (made : Option ProcessId) (all : List Act) (cell : Cell) → AreCaused made all → FollowedAfter made (acts_on end all cell)
acts_after end made [] cell c = tt
acts_after end made (acts.Note note ∷ rest) cell c = note_then made note (acts_on end rest cell) c.0 (acts_after end (spawned_by note) rest cell c.1)
acts_after end made (acts.Open conn peer ∷ rest) cell c = steps_then made (act_on end (acts.Open conn peer) cell) (acts_on end rest) (asked_caused cell (host_connect cell.host end peer conn)) (λ d. acts_after end None rest d c)
acts_after end made (acts.Put conn payload weight ∷ rest) cell c = steps_then made (act_on end (acts.Put conn payload weight) cell) (acts_on end rest) (asked_caused cell (host_send cell.host end conn payload weight)) (λ d. acts_after end None rest d c)
acts_after end made (acts.Close conn ∷ rest) cell c = steps_then made (act_on end (acts.Close conn) cell) (acts_on end rest) (asked_caused cell (host_close cell.host end conn)) (λ d. acts_after end None rest d c)

as_followed : (done : Followed) → FollowedAfter None done → FollowedCaused done
as_followed (Ok done) a = a
as_followed (Err stop) a = tt

acts_caused : (end : ℕ) (all : List Act) (cell : Cell) → AreCaused None all → FollowedCaused (acts_on end all cell)
acts_caused end all cell c = as_followed (acts_on end all cell) (acts_after end None all cell c)

-- ---- what a host's steps tell a node

posted_caused : (end : ℕ) (event : Event) (cell : Cell) → FollowedCaused (posted end event cell)
posted_caused end event cell = by_node (find (is_at end) cell.nodes) where
  did : (done : Result (List Act × NodeState) Stop) → Caused done → FollowedCaused (node_followed end cell done)
  did (Ok done) c = acts_caused end done.0 (with_node end done.1 cell) c
  did (Err stop) c = tt

  by_node : (o : Option (ℕ × NodeState)) → FollowedCaused (elim o as (λ o. Followed) [
    | None ↦ Ok ([], cell)
    | Some node ↦ node_followed end cell (node_event node.1 event)
  ])
  by_node None = tt
  by_node (Some node) = did (node_event node.1 event) (event_caused node.1 event)

step_caused : (step : Step) (cell : Cell) → FollowedCaused (step_on step cell)
step_caused (steps.Post end event) cell = posted_caused end event cell
step_caused step cell = tt

all_steps_caused : (all : List Step) (cell : Cell) → FollowedCaused (steps_on all cell)
all_steps_caused [] cell = tt
all_steps_caused (step ∷ rest) cell = then_caused (step_on step cell) (steps_on rest) (step_caused step cell) (all_steps_caused rest)

items_caused : (fuel : ℕ) (cell : Cell) → FollowedCaused (items_on fuel cell)
items_caused zero cell = tt
items_caused (suc fuel) cell = by_next (host_next cell.host) (items_caused fuel) where
  by_done : (host : HostState) (o : Option (List Step)) → ((c : Cell) → FollowedCaused (items_on fuel c)) → FollowedCaused (elim o as (λ o. Followed) [
    | None ↦ Ok ([], cell)
    | Some done ↦ (steps_on done (record cell { host = host }) then items_on fuel)
  ])
  by_done host None more = tt
  by_done host (Some done) more = then_caused (steps_on done (record cell { host = host })) (items_on fuel) (all_steps_caused done (record cell { host = host })) more

  by_next : (r : Result (Option (List Step) × HostState) Stop) → ((c : Cell) → FollowedCaused (items_on fuel c)) → FollowedCaused (elim r as (λ r. Followed) [
    | Err stop ↦ Err stop
    | Ok next ↦ elim next.0 [
      | None ↦ Ok ([], cell)
      | Some done ↦ (steps_on done (record cell { host = next.1 }) then items_on fuel)
    ]
  ])
  by_next (Err stop) more = tt
  by_next (Ok next) more = by_done next.1 next.0 more

all_caused : (cell : Cell) → FollowedCaused (all_items cell)
all_caused cell = items_caused (kept_bytes cell.host) cell

-- ---- what a cell makes of an event

answered_caused : (verdict : Verdict) (done : Followed) → FollowedCaused done → CelledCaused (answered verdict done)
answered_caused verdict (Ok done) c = c
answered_caused verdict (Err stop) c = tt

host_caused : (verdict : Verdict) (cell : Cell) (done : Stepped) → CelledCaused (host_did verdict cell done)
host_caused verdict cell (Ok done) = answered_caused verdict (steps_on done.0 (record cell { host = done.1 }) then all_items) (then_caused (steps_on done.0 (record cell { host = done.1 })) all_items (all_steps_caused done.0 (record cell { host = done.1 })) all_caused)
host_caused verdict cell (Err stop) = tt

refusal_caused : (e : CommandError) (cell : Cell) → CelledCaused (refusal e cell)
refusal_caused refusals.OutOfMemory cell = tt
refusal_caused refusals.Worn cell = tt
refusal_caused e cell = tt

did_caused : (end : ℕ) (cell : Cell) (done : Result (List Act × NodeState) CommandError) → Caused done → CelledCaused (node_did end cell done)
did_caused end cell (Ok done) c = answered_caused verdicts.Ok (acts_on end done.0 (with_node end done.1 cell) then all_items) (then_caused (acts_on end done.0 (with_node end done.1 cell)) all_items (acts_caused end done.0 (with_node end done.1 cell) c) all_caused)
did_caused end cell (Err e) c = refusal_caused e cell

closes_caused : (end : ℕ) (cell : Cell) (done : Result (List Step × HostState) EndError) → FollowedCaused (closes_after end cell done)
closes_caused end cell (Ok done) = all_steps_caused done.0 (record cell { host = done.1 })
closes_caused end cell (Err e) = asked_caused cell (Err e)

is_shut_caused : (end : ℕ) (cell : Cell) (done : Result (List Act × NodeState) CommandError) → Caused done → CelledCaused (shut_node end cell done)
is_shut_caused end cell (Ok done) c =
    let told : Followed = (acts_on end done.0 (with_node end done.1 cell) then (λ told. closes_after end told (host_close_endpoint told.host end))) in
    answered_caused verdicts.Ok (told then all_items)
    (then_caused told all_items (then_caused (acts_on end done.0 (with_node end done.1 cell)) (λ told. closes_after end told (host_close_endpoint told.host end)) (acts_caused end done.0 (with_node end done.1 cell) c) (λ d. closes_caused end d (host_close_endpoint d.host end))) all_caused)
is_shut_caused end cell (Err e) c = refusal_caused e cell

at_caused : (P : Celled → Type 0) (end : ℕ) (cell : Cell) (f : NodeState → Celled) → P (refused verdicts.Nothing cell) → ((node : NodeState) → P (f node)) → P (at_node end cell f)
at_caused P end cell f none each = by_node (find (is_at end) cell.nodes) where
  by_node : (o : Option (ℕ × NodeState)) → P (elim o as (λ o. Celled) [
    | None ↦ refused verdicts.Nothing cell
    | Some node ↦ f node.1
  ])
  by_node None = none
  by_node (Some node) = each node.1

as_caused : (end by : ℕ) (command : Command) → EndsNobody (events.Command end by command) → (node : NodeState) (done : Result (List Act × NodeState) CommandError) → Asked node by command done → Caused done
as_caused end by command nobody node (Err e) a = tt
as_caused end by command nobody node (Ok done) a = by_command command nobody a where
  by_command : (c : Command) → EndsNobody (events.Command end by c) → AreAsked node by c done.0 → AreCaused None done.0
  by_command commands.End n a = absurd n
  by_command (commands.Fail text) n a = absurd n
  by_command commands.Fall n a = absurd n
  by_command c n a = a

pub cell_caused : (cell : Cell) (event : LocalEvent) → EndsNobody event → CelledCaused (cell_step cell event)
cell_caused cell (events.Make end) nobody = at_caused CelledCaused end cell (λ node. node_did end cell (node_make node)) tt (λ node. did_caused end cell (node_make node) (make_caused node))
cell_caused cell (events.Command end by command) nobody = at_caused CelledCaused end cell (commanded end by command cell) tt (λ node. did_caused end cell (node_command node by command (room_for cell.host end node.own (target_node node by command)))
    (as_caused end by command nobody node (node_command node by command (room_for cell.host end node.own (target_node node by command))) (command_asked node by command (room_for cell.host end node.own (target_node node by command)))))
cell_caused cell (events.Shut end) nobody = at_caused CelledCaused end cell (λ node. shut_node end cell (node_shut node)) tt (λ node. is_shut_caused end cell (node_shut node) (shut_caused node))
cell_caused cell (events.Came mark sock peer_host) nobody = host_caused verdicts.Ok cell (host_on cell.host (sockets.Came sock peer_host))
cell_caused cell (events.Socket event) nobody = host_caused (heard_as cell.host event) cell (host_on cell.host event)

-- ---- a process ends

-- no end is told after the first entry but of a process just made for a spawn
abbrev pub TellsRest : List LocalEntry → Type 0
TellsRest [] = Unit {0}
TellsRest (local.Note note ∷ rest) = AllCaused (spawned_by note) rest
TellsRest (local.Step step ∷ rest) = AllCaused None rest

abbrev FollowedRest : Followed → Type 0
FollowedRest (Ok done) = TellsRest done.0
FollowedRest (Err stop) = Unit {0}

abbrev pub CelledRest : Celled → Type 0
CelledRest (Ok done) = TellsRest done.0.1
CelledRest (Err stop) = Unit {0}

told_rest : (all : List LocalEntry) → AllCaused None all → TellsRest all
told_rest [] c = tt
told_rest (local.Note note ∷ rest) c = c.1
told_rest (local.Step step ∷ rest) c = c

rest_both : (xs ys : List LocalEntry) → TellsRest xs → AllCaused None ys → TellsRest (xs ++ ys)
rest_both [] ys a b = told_rest ys b
rest_both (local.Note note ∷ xs) ys a b = told_both (spawned_by note) xs ys a b
rest_both (local.Step step ∷ xs) ys a b = told_both None xs ys a b

then_rest : (done : Followed) (f : Cell → Followed) → FollowedRest done → ((c : Cell) → FollowedCaused (f c)) → FollowedRest (done then f)
then_rest (Err stop) f a k = tt
then_rest (Ok done) f a k = by_more (f done.1) (k done.1) where
  by_more : (more : Followed) → FollowedCaused more → FollowedRest (after_entries done.0 more)
  by_more (Ok more) b = rest_both done.0 more.0 a b
  by_more (Err stop) b = tt

first_then : (note : Note) (done : Followed) → FollowedAfter (spawned_by note) done → FollowedRest (after_entries (local.Note note ∷ []) done)
first_then note (Ok done) a = a
first_then note (Err stop) a = tt

acts_rest : (process : ProcessId) (reason : Reason) (end : ℕ) (all : List Act) (cell : Cell) → EndsFirst process reason all → FollowedRest (acts_on end all cell)
acts_rest process reason end (acts.Note (notes.Over ended why) ∷ rest) cell e = first_then (notes.Over ended why) (acts_on end rest cell) (acts_after end None rest cell e.2)
acts_rest process reason end all cell e = absurd e

answered_rest : (verdict : Verdict) (done : Followed) → FollowedRest done → CelledRest (answered verdict done)
answered_rest verdict (Ok done) r = r
answered_rest verdict (Err stop) r = tt

refusal_rest : (e : CommandError) (cell : Cell) → CelledRest (refusal e cell)
refusal_rest refusals.OutOfMemory cell = tt
refusal_rest refusals.Worn cell = tt
refusal_rest e cell = tt

did_rest : (process : ProcessId) (reason : Reason) (end : ℕ) (cell : Cell) (done : Result (List Act × NodeState) CommandError) → Ended process reason done → CelledRest (node_did end cell done)
did_rest process reason end cell (Ok done) e = answered_rest verdicts.Ok (acts_on end done.0 (with_node end done.1 cell) then all_items) (then_rest (acts_on end done.0 (with_node end done.1 cell)) all_items (acts_rest process reason end done.0 (with_node end done.1 cell) e) all_caused)
did_rest process reason end cell (Err e) k = refusal_rest e cell

-- a process ends by itself
pub end_rest : (end by : ℕ) (cell : Cell) → CelledRest (cell_step cell (events.Command end by commands.End))
unfolding node_command
end_rest end by cell = at_caused CelledRest end cell (commanded end by commands.End cell) tt (λ node. did_rest (process_id node by) reasons.Normal end cell (node_command node by commands.End (room_for cell.host end node.own (target_node node by commands.End))) (finished node by reasons.Normal))
