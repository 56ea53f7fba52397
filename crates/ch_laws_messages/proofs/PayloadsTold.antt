-- What is told of a turn: only its first entry may tell that something is said.
use Rattle.std.proofs.Common.{◌≡◌, Bool, true, false, ℕ, List, [], ◌∷◌, ◌++◌, Ok, Err, refl, sym, subst}
use Rattle.std.specs.List.{cons_option}
use Rattle.std.specs.Prelude.{filter_map, find, Result, Option, Some, None}
use Rattle.ch_base.specs.declared.event.Event.{Event}
use Rattle.ch_base.specs.declared.event.Room.{Room}
use Rattle.ch_base.specs.declared.memory.Stop.{Stop}
use Rattle.ch_ident.specs.declared.identifier.ProcessId.{ProcessId}
use Rattle.ch_ident.specs.declared.message.Message.{Message}
use Rattle.ch_static.specs.declared.command.Command.{Command}
use Rattle.ch_static.specs.declared.command.Command.TheVariants as commands
use Rattle.ch_static.specs.declared.target.Target.{Target}
use Rattle.ch_static.specs.declared.target.Target.TheVariants as targets
use Rattle.ch_model.specs.declared.act.Act.{Act}
use Rattle.ch_model.specs.declared.act.Act.TheVariants as acts
use Rattle.ch_model.specs.declared.entry.Entry.{Entry}
use Rattle.ch_model.specs.declared.local.LocalEntry.{LocalEntry}
use Rattle.ch_model.specs.declared.local.LocalEntry.TheVariants as local
use Rattle.ch_model.specs.declared.note.Note.{Note}
use Rattle.ch_model.specs.declared.note.Note.TheVariants as notes
use Rattle.ch_model.specs.declared.step.EndError.{EndError}
use Rattle.ch_model.specs.declared.step.EndError.TheVariants as errors
use Rattle.ch_model.specs.declared.step.Step.{Step}
use Rattle.ch_model.specs.declared.step.Step.TheVariants as steps
use Rattle.ch_model.specs.AccountsFrames.{Saying}
use Rattle.ch_model.specs.CellSteps.{Followed, ◌then◌, after_entries, is_at, with_node, told_steps, asked, act_on, acts_on, node_followed, posted, step_on, steps_on}
use Rattle.ch_model.specs.HostCalls.{host_connect, host_send, host_close}
use Rattle.ch_model.specs.HostState.{HostState}
use Rattle.ch_model.specs.Naming.{process_as}
use Rattle.ch_model.specs.Node.{node_make, node_command, node_event}
use Rattle.ch_model.specs.NodeIds.{process_id, is_here}
use Rattle.ch_model.specs.NodeState.{NodeState}
use Rattle.ch_model.specs.WorldState.{Cell, World}
use Rattle.ch_model.specs.WorldSteps.{all_told, noted}
use Rattle.ch_laws_epochs.proofs.Calm.{is_silent, AreSilent, Calm, on_make, on_command, on_event}
use Rattle.ch_laws_plain_nodes.specs.Does.{pair_between}
use Rattle.ch_laws_plain_nodes.proofs.Commands.{does_away, does_home}
use Rattle.ch_laws_plain_logs.specs.Plain.{said_by}
use Rattle.ch_laws_messages.specs.SaidHeeds.{IsUnsaid, AreUnsaid}
use Rattle.ch_laws_messages.proofs.SaidAsks.{SendsToDeclared}
use Rattle.ch_laws_messages.proofs.SaidItemTurn.{told_unsaid}
use Rattle.ch_laws_messages.proofs.CarriedTells.{got_silent, sent_silent}

-- ---- entries

-- nothing is said by these
abbrev pub NoneSaid : List Entry → Type 0
NoneSaid told = (x y : List ℕ) → filter_map (said_by x y) told ≡ []

-- nothing is said behind the first of these
abbrev pub OnlyFirst : List Entry → Type 0
OnlyFirst [] = Unit {0}
OnlyFirst (entry ∷ rest) = NoneSaid rest

none_only : (told : List Entry) → NoneSaid told → OnlyFirst told
none_only [] none = tt
none_only (entry ∷ rest) none = λ x y. behind (said_by x y entry) (filter_map (said_by x y) rest) (none x y) where
  behind : (o : Option Saying) (l : List Saying) → cons_option o l ≡ [] → l ≡ []
  behind None l e = e
  behind (Some s) l e = absurd cc

-- ---- what a cell tells

-- only the first note may tell that something is said
abbrev pub FirstMay : List LocalEntry → Type 0
FirstMay [] = Unit {0}
FirstMay (one ∷ rest) = AreUnsaid rest

-- what a step and those behind it tell says nothing
step_none : (place : ℕ) (cell : Cell) (step : Step) (rest : List LocalEntry) (world : World) → AreUnsaid rest → NoneSaid (all_told place cell (local.Step step ∷ rest) world).0
step_none place cell step rest world u = λ x y. told_unsaid x y place cell (local.Step step ∷ rest) world (tt, u)

pub first_told : (place : ℕ) (cell : Cell) (told : List LocalEntry) (world : World) → FirstMay told → OnlyFirst (all_told place cell told world).0
first_told place cell [] world f = tt
first_told place cell (local.Note note ∷ rest) world f = λ x y. told_unsaid x y place cell rest (noted note world).1 f
first_told place cell (local.Step step ∷ rest) world f = none_only (all_told place cell (local.Step step ∷ rest) world).0 (step_none place cell step rest world f)

pub unsaid_may : (told : List LocalEntry) → AreUnsaid told → FirstMay told
unsaid_may [] u = tt
unsaid_may (one ∷ rest) u = u.1

unsaid_both : (one two : List LocalEntry) → AreUnsaid one → AreUnsaid two → AreUnsaid (one ++ two)
unsaid_both [] two a b = b
unsaid_both (entry ∷ one) two a b = (a.0, unsaid_both one two a.1 b)

pub steps_unsaid : (done : List Step) → AreUnsaid (told_steps done)
steps_unsaid [] = tt
steps_unsaid (step ∷ rest) = (tt, steps_unsaid rest)

-- ---- what follows at a cell

abbrev FollowsUnsaid : Followed → Type 0
FollowsUnsaid (Ok done) = AreUnsaid done.0
FollowsUnsaid (Err stop) = Unit {0}

then_unsaid : (first : Followed) (f : Cell → Followed) → FollowsUnsaid first → ((cell : Cell) → FollowsUnsaid (f cell)) → FollowsUnsaid (first then f)
then_unsaid (Err stop) f a b = tt
then_unsaid (Ok done) f a b = with_more (f done.1) (b done.1) where
  with_more : (more : Followed) → FollowsUnsaid more → FollowsUnsaid (after_entries done.0 more)
  with_more (Ok more) m = unsaid_both done.0 more.0 a m
  with_more (Err stop) m = tt

asked_unsaid : (cell : Cell) (r : Result (List Step × HostState) EndError) → FollowsUnsaid (asked cell r)
asked_unsaid cell (Ok done) = steps_unsaid done.0
asked_unsaid cell (Err errors.Worn) = tt
asked_unsaid cell (Err errors.OutOfMemory) = tt
asked_unsaid cell (Err e) = tt

silent_unsaid : (note : Note) → is_silent note ≡ true → IsUnsaid (local.Note note)
silent_unsaid (notes.Said by to epoch index message) e = absurd cc
silent_unsaid note e = tt

acts_unsaid : (end : ℕ) (all : List Act) (cell : Cell) → AreSilent all → FollowsUnsaid (acts_on end all cell)
acts_unsaid end [] cell s = tt
acts_unsaid end (acts.Note note ∷ rest) cell s = then_unsaid (act_on end (acts.Note note) cell) (acts_on end rest) (silent_unsaid note s.0, tt) (λ c. acts_unsaid end rest c s.1)
acts_unsaid end (acts.Open conn peer ∷ rest) cell s = then_unsaid (act_on end (acts.Open conn peer) cell) (acts_on end rest) (asked_unsaid cell (host_connect cell.host end peer conn)) (λ c. acts_unsaid end rest c s)
acts_unsaid end (acts.Put conn payload weight ∷ rest) cell s = then_unsaid (act_on end (acts.Put conn payload weight) cell) (acts_on end rest) (asked_unsaid cell (host_send cell.host end conn payload weight)) (λ c. acts_unsaid end rest c s)
acts_unsaid end (acts.Close conn ∷ rest) cell s = then_unsaid (act_on end (acts.Close conn) cell) (acts_on end rest) (asked_unsaid cell (host_close cell.host end conn)) (λ c. acts_unsaid end rest c s)

event_unsaid : (end : ℕ) (cell : Cell) (node : NodeState) (r : Result (List Act × NodeState) Stop) → Calm node r → FollowsUnsaid (node_followed end cell r)
event_unsaid end cell node (Ok done) c = acts_unsaid end done.0 (with_node end done.1 cell) c.0
event_unsaid end cell node (Err stop) c = tt

posted_unsaid : (end : ℕ) (event : Event) (cell : Cell) → FollowsUnsaid (posted end event cell)
posted_unsaid end event cell = by_node (find (is_at end) cell.nodes) where
  by_node : (o : Option (ℕ × NodeState)) → FollowsUnsaid (elim o as (λ o. Followed) [
    | None ↦ Ok ([], cell)
    | Some node ↦ node_followed end cell (node_event node.1 event)
  ])
  by_node None = tt
  by_node (Some node) = event_unsaid end cell node.1 (node_event node.1 event) (on_event node.1 event)

step_on_unsaid : (step : Step) (cell : Cell) → FollowsUnsaid (step_on step cell)
step_on_unsaid (steps.Post end event) cell = posted_unsaid end event cell
step_on_unsaid step cell = (tt, tt)

steps_on_unsaid : (done : List Step) (cell : Cell) → FollowsUnsaid (steps_on done cell)
steps_on_unsaid [] cell = tt
steps_on_unsaid (step ∷ rest) cell = then_unsaid (step_on step cell) (steps_on rest) (step_on_unsaid step cell) (λ c. steps_on_unsaid rest c)

-- whatever a host's steps bring about at its nodes, nothing is said
pub followed_unsaid : (done : List Step) (cell : Cell) (told : List LocalEntry) (after : Cell) → steps_on done cell ≡ Ok (told, after) → AreUnsaid told
followed_unsaid done cell told after e = subst FollowsUnsaid e (steps_on_unsaid done cell)

-- ---- what a node is asked

-- only the first of these acts may tell so
abbrev pub FirstSays : List Act → Type 0
FirstSays (acts.Note note ∷ rest) = AreSilent rest
FirstSays done = AreSilent done

abbrev FollowsFirst : Followed → Type 0
FollowsFirst (Ok done) = FirstMay done.0
FollowsFirst (Err stop) = Unit {0}

unsaid_first : (r : Followed) → FollowsUnsaid r → FollowsFirst r
unsaid_first (Ok done) u = unsaid_may done.0 u
unsaid_first (Err stop) u = tt

noted_first : (note : Note) (r : Followed) → FollowsUnsaid r → FollowsFirst (after_entries (local.Note note ∷ []) r)
noted_first note (Ok done) u = u
noted_first note (Err stop) u = tt

acts_first : (end : ℕ) (all : List Act) (cell : Cell) → FirstSays all → FollowsFirst (acts_on end all cell)
acts_first end [] cell f = tt
acts_first end (acts.Note note ∷ rest) cell f = noted_first note (acts_on end rest cell) (acts_unsaid end rest cell f)
acts_first end (acts.Open conn peer ∷ rest) cell f = unsaid_first (acts_on end (acts.Open conn peer ∷ rest) cell) (acts_unsaid end (acts.Open conn peer ∷ rest) cell f)
acts_first end (acts.Put conn payload weight ∷ rest) cell f = unsaid_first (acts_on end (acts.Put conn payload weight ∷ rest) cell) (acts_unsaid end (acts.Put conn payload weight ∷ rest) cell f)
acts_first end (acts.Close conn ∷ rest) cell f = unsaid_first (acts_on end (acts.Close conn ∷ rest) cell) (acts_unsaid end (acts.Close conn ∷ rest) cell f)

pub acted_first : (end : ℕ) (all : List Act) (cell : Cell) (told : List LocalEntry) (after : Cell) → FirstSays all → acts_on end all cell ≡ Ok (told, after) → FirstMay told
acted_first end all cell told after f e = subst FollowsFirst e (acts_first end all cell f)

silent_first : (all : List Act) → AreSilent all → FirstSays all
silent_first [] s = tt
silent_first (acts.Note note ∷ rest) s = s.1
silent_first (acts.Open conn peer ∷ rest) s = s
silent_first (acts.Put conn payload weight ∷ rest) s = s
silent_first (acts.Close conn ∷ rest) s = s

pub make_first : (node next : NodeState) (all : List Act) → node_make node ≡ Ok (all, next) → FirstSays all
make_first node next all e = silent_first all (calm_acts e) where
  calm_acts : node_make node ≡ Ok (all, next) → AreSilent all
  calm_acts e = (subst (Calm node) e (on_make node)).0

send_first : (node next : NodeState) (by : ℕ) (to : ProcessId) (said : Message) (room : Room) (all : List Act) → node_command node by (commands.Send (targets.Process to) said) room ≡ Ok (all, next) → FirstSays all
send_first node next by to said room all e = by_here (is_here node to.node) refl where
  by_here : (b : Bool) → is_here node to.node ≡ b → FirstSays all
  by_here true h = let s = does_home node next by to said room all h e in subst FirstSays (sym s.did) (got_silent s.is_got (process_id node by) to)
  by_here false h = let s = does_away node next by to said room all h e in subst FirstSays (sym s.did) (sent_silent node by to said (pair_between node by to).mark)

-- a command that a line of many nodes asks
pub command_first : (known : World) (node next : NodeState) (by : ℕ) (command : Command) (room : Room) (all : List Act) → SendsToDeclared known.names command → node_command node by command room ≡ Ok (all, next) → FirstSays all
command_first known node next by (commands.Send to said) room all s e = send_first node next by (process_as known.names s.0) said room all (subst (λ (t : Target). node_command node by (commands.Send t said) room ≡ Ok (all, next)) s.2 e)
command_first known node next by (commands.Receive mark) room all s e = silent_first all (subst (Calm node) e (on_command node by (commands.Receive mark) room refl)).0
command_first known node next by commands.End room all s e = silent_first all (subst (Calm node) e (on_command node by commands.End room refl)).0
command_first known node next by command room all s e = absurd s
