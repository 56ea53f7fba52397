-- In a turn nothing is said behind what is written: what is said is told first, and nothing else says anything.
use Rattle.std.proofs.Common.{◌≡◌, ℕ, Bool, true, false, List, [], ◌∷◌, ◌++◌, Ok, Err, refl, sym, subst}
use Rattle.std.specs.Prelude.{find, Option, Some, None, Result}
use Rattle.ch_base.specs.declared.event.Room.{Room}
use Rattle.ch_base.specs.declared.memory.Stop.{Stop}
use Rattle.ch_ident.specs.declared.identifier.ProcessId.{ProcessId}
use Rattle.ch_ident.specs.declared.message.Message.{Message}
use Rattle.ch_static.specs.declared.command.Command.{Command}
use Rattle.ch_static.specs.declared.command.Command.TheVariants as commands
use Rattle.ch_static.specs.declared.target.Target.TheVariants as targets
use Rattle.ch_model.specs.declared.act.Act.{Act}
use Rattle.ch_model.specs.declared.act.Act.TheVariants as acts
use Rattle.ch_model.specs.declared.command.CommandError.{CommandError}
use Rattle.ch_model.specs.declared.entry.Entry.{Entry}
use Rattle.ch_model.specs.declared.entry.Entry.TheVariants as entries
use Rattle.ch_model.specs.declared.line.What.{What}
use Rattle.ch_model.specs.declared.line.What.TheVariants as lines
use Rattle.ch_model.specs.declared.local.LocalEntry.{LocalEntry}
use Rattle.ch_model.specs.declared.local.LocalEntry.TheVariants as local
use Rattle.ch_model.specs.declared.name.End.{End}
use Rattle.ch_model.specs.declared.name.ProcName.{ProcName}
use Rattle.ch_model.specs.declared.name.SockName.{SockName}
use Rattle.ch_model.specs.declared.name.TargetName.TheVariants as names
use Rattle.ch_model.specs.declared.note.Note.{Note}
use Rattle.ch_model.specs.declared.note.Note.TheVariants as notes
use Rattle.ch_model.specs.declared.step.EndError.{EndError}
use Rattle.ch_model.specs.declared.step.EndError.TheVariants as errors
use Rattle.ch_model.specs.declared.step.Place.{Place}
use Rattle.ch_model.specs.declared.step.Step.{Step}
use Rattle.ch_model.specs.declared.step.Step.TheVariants as steps
use Rattle.ch_model.specs.CellSteps.{Followed, ◌then◌, after_entries, is_at, with_node, told_steps, asked, act_on, acts_on, node_followed, step_on, steps_on}
use Rattle.ch_model.specs.HostCalls.{host_connect, host_send, host_close}
use Rattle.ch_model.specs.HostState.{HostState}
use Rattle.ch_model.specs.Naming.{Names, process_as}
use Rattle.ch_model.specs.Node.{node_make, node_command, node_event}
use Rattle.ch_model.specs.NodeIds.{process_id, is_here}
use Rattle.ch_model.specs.NodeState.{NodeState, Mark, Unopened, Opened, Broken}
use Rattle.ch_model.specs.WorldLines.{command_as}
use Rattle.ch_model.specs.WorldSockets.{other, find_end, with_end_of, item_arrives}
use Rattle.ch_model.specs.WorldState.{Cell, World}
use Rattle.ch_model.specs.WorldSteps.{note_entry, noted, reads_item, end_closes, stepped, all_told}
use Rattle.ch_laws_epochs.proofs.Calm.{is_silent, AreSilent, Calm, on_make, on_command, on_event}
use Rattle.ch_laws_many.specs.ManyLines.{is_of_many}
use Rattle.ch_laws_plain_nodes.specs.Does.{pair_between, sent_acts, got_acts}
use Rattle.ch_laws_plain_nodes.specs.Plain.{IsPlainCommand}
use Rattle.ch_laws_plain_nodes.proofs.Commands.{does_away, does_home}
use Rattle.ch_laws_messages.proofs.CarriedBehind.{IsUnsaid, NoneSaid, SaidFirst, none_both, none_first}

-- ---- what is told of a cell

-- no note says something
abbrev pub TellsNone : List LocalEntry → Type 0
TellsNone [] = Unit {0}
TellsNone (local.Note note ∷ rest) = (is_silent note ≡ true) × TellsNone rest
TellsNone (local.Step step ∷ rest) = TellsNone rest

-- none but the first
abbrev pub TellsFirst : List LocalEntry → Type 0
TellsFirst [] = Unit {0}
TellsFirst (one ∷ rest) = TellsNone rest

note_unsaid : (known : Names) (last : Option Place) (note : Note) → is_silent note ≡ true → IsUnsaid (note_entry known last note)
note_unsaid known last (notes.Said by to epoch index message) h = absurd cc
note_unsaid known last (notes.Again by to epoch) h = λ x y. refl
note_unsaid known last note h = λ x y. refl

step_unsaid : (place : ℕ) (cell : Cell) (step : Step) (world : World) → NoneSaid (stepped place cell step world).0
step_unsaid place cell (steps.Dial sock end peer) world = (λ x y. refl, tt)
step_unsaid place cell (steps.Read sock) world = by_end (find_end place sock world.sockets) where
  by_end : (o : Option (SockName × End)) → NoneSaid (elim o as (λ o. List Entry × World) [
    | None ↦ ([], world)
    | Some at ↦ reads_item at world
  ]).0
  by_end None = tt
  by_end (Some at) = tt
step_unsaid place cell (steps.Write sock bytes said) world = by_end (find_end place sock world.sockets) where
  by_end : (o : Option (SockName × End)) → NoneSaid (elim o as (λ o. List Entry × World) [
    | None ↦ ([], world)
    | Some at ↦ (entries.Wrote at.0 at.1 bytes ∷ [], with_end_of at.0 (other at.1) (item_arrives bytes said) world)
  ]).0
  by_end None = tt
  by_end (Some at) = (λ x y. refl, tt)
step_unsaid place cell (steps.Up sock) world = by_end (find_end place sock world.sockets) where
  by_end : (o : Option (SockName × End)) → NoneSaid (elim o as (λ o. List Entry × World) [
    | None ↦ ([], world)
    | Some at ↦ (entries.Up at.0 at.1 ∷ [], world)
  ]).0
  by_end None = tt
  by_end (Some at) = (λ x y. refl, tt)
step_unsaid place cell (steps.Down sock) world = by_end (find_end place sock world.sockets) where
  by_end : (o : Option (SockName × End)) → NoneSaid (elim o as (λ o. List Entry × World) [
    | None ↦ ([], world)
    | Some at ↦ (entries.Down at.0 at.1 ∷ [], end_closes at world)
  ]).0
  by_end None = tt
  by_end (Some at) = (λ x y. refl, tt)
step_unsaid place cell (steps.Left sock) world = by_end (find_end place sock world.sockets) where
  by_end : (o : Option (SockName × End)) → NoneSaid (elim o as (λ o. List Entry × World) [
    | None ↦ ([], world)
    | Some at ↦ (entries.Left at.0 at.1 ∷ [], end_closes at world)
  ]).0
  by_end None = tt
  by_end (Some at) = (λ x y. refl, tt)
step_unsaid place cell (steps.Broke end peer why) world = (λ x y. refl, tt)
step_unsaid place cell (steps.Post end event) world = tt

told_unsaid : (place : ℕ) (cell : Cell) (told : List LocalEntry) (world : World) → TellsNone told → NoneSaid (all_told place cell told world).0
told_unsaid place cell [] world h = tt
told_unsaid place cell (local.Note note ∷ rest) world h = (note_unsaid world.names world.last note h.0, told_unsaid place cell rest (noted note world).1 h.1)
told_unsaid place cell (local.Step step ∷ rest) world h = let one = stepped place cell step world in none_both one.0 (all_told place cell rest one.1).0 (step_unsaid place cell step world) (told_unsaid place cell rest one.1 h)

first_note : (known : Names) (last : Option Place) (note : Note) (more : List Entry) → NoneSaid more → SaidFirst (note_entry known last note ∷ more)
first_note known last (notes.Said by to epoch index message) more h = none_first more h
first_note known last note more h = none_first more h

pub told_first : (place : ℕ) (cell : Cell) (told : List LocalEntry) (world : World) → TellsFirst told → SaidFirst (all_told place cell told world).0
told_first place cell [] world h = tt
told_first place cell (local.Note note ∷ rest) world h = first_note world.names world.last note (all_told place cell rest (noted note world).1).0 (told_unsaid place cell rest (noted note world).1 h)
told_first place cell (local.Step step ∷ rest) world h = none_first (all_told place cell (local.Step step ∷ rest) world).0 (told_unsaid place cell (local.Step step ∷ rest) world h)

pub first_none : (told : List LocalEntry) → TellsNone told → TellsFirst told
first_none [] h = tt
first_none (local.Note note ∷ rest) h = h.1
first_none (local.Step step ∷ rest) h = h

pub steps_none : (done : List Step) → TellsNone (told_steps done)
steps_none [] = tt
steps_none (step ∷ rest) = steps_none rest

-- ---- what follows at a cell

both : (one two : List LocalEntry) → TellsNone one → TellsNone two → TellsNone (one ++ two)
both [] two h i = i
both (local.Note note ∷ one) two h i = (h.0, both one two h.1 i)
both (local.Step step ∷ one) two h i = both one two h i

abbrev AllNone : Followed → Type 0
AllNone (Ok done) = TellsNone done.0
AllNone (Err stop) = Unit {0}

asked_none : (cell : Cell) (r : Result (List Step × HostState) EndError) → AllNone (asked cell r)
asked_none cell (Ok done) = steps_none done.0
asked_none cell (Err errors.Worn) = tt
asked_none cell (Err errors.OutOfMemory) = tt
asked_none cell (Err e) = tt

then_none : (r : Followed) (f : Cell → Followed) → AllNone r → ((cell : Cell) → AllNone (f cell)) → AllNone (r then f)
then_none (Err stop) f h more = tt
then_none (Ok one) f h more = by_rest (f one.1) (more one.1) where
  by_rest : (r : Followed) → AllNone r → AllNone (after_entries one.0 r)
  by_rest (Ok two) i = both one.0 two.0 h i
  by_rest (Err stop) i = tt

acts_none : (end : ℕ) (done : List Act) (cell : Cell) → AreSilent done → AllNone (acts_on end done cell)
acts_none end [] cell h = tt
acts_none end (acts.Note note ∷ rest) cell h = then_none (act_on end (acts.Note note) cell) (acts_on end rest) (h.0, tt) (λ c. acts_none end rest c h.1)
acts_none end (acts.Open conn peer ∷ rest) cell h = then_none (act_on end (acts.Open conn peer) cell) (acts_on end rest) (asked_none cell (host_connect cell.host end peer conn)) (λ c. acts_none end rest c h)
acts_none end (acts.Put conn payload weight ∷ rest) cell h = then_none (act_on end (acts.Put conn payload weight) cell) (acts_on end rest) (asked_none cell (host_send cell.host end conn payload weight)) (λ c. acts_none end rest c h)
acts_none end (acts.Close conn ∷ rest) cell h = then_none (act_on end (acts.Close conn) cell) (acts_on end rest) (asked_none cell (host_close cell.host end conn)) (λ c. acts_none end rest c h)

-- a node that hears an event says nothing
step_none : (step : Step) (cell : Cell) → AllNone (step_on step cell)
step_none (steps.Post end event) cell = by_node (find (is_at end) cell.nodes) where
  by_done : (node : ℕ × NodeState) (r : Result (List Act × NodeState) Stop) → Calm node.1 r → AllNone (node_followed end cell r)
  by_done node (Ok done) c = acts_none end done.0 (with_node end done.1 cell) c.0
  by_done node (Err stop) c = tt

  by_node : (o : Option (ℕ × NodeState)) → AllNone (elim o as (λ o. Followed) [
    | None ↦ Ok ([], cell)
    | Some node ↦ node_followed end cell (node_event node.1 event)
  ])
  by_node None = tt
  by_node (Some node) = by_done node (node_event node.1 event) (on_event node.1 event)
step_none step cell = tt

steps_on_none : (done : List Step) (cell : Cell) → AllNone (steps_on done cell)
steps_on_none [] cell = tt
steps_on_none (step ∷ rest) cell = then_none (step_on step cell) (steps_on rest) (step_none step cell) (λ c. steps_on_none rest c)

of_done : (r : Followed) (told : List LocalEntry) (after : Cell) → AllNone r → r ≡ Ok (told, after) → TellsNone told
of_done r told after h e = subst AllNone e h

pub followed_none : (done : List Step) (cell after : Cell) (told : List LocalEntry) → steps_on done cell ≡ Ok (told, after) → TellsNone told
followed_none done cell after told e = of_done (steps_on done cell) told after (steps_on_none done cell) e

-- ---- what a node does

pub acts_silent : (end : ℕ) (done : List Act) (cell after : Cell) (told : List LocalEntry) → AreSilent done → acts_on end done cell ≡ Ok (told, after) → TellsNone told
acts_silent end done cell after told h e = of_done (acts_on end done cell) told after (acts_none end done cell h) e

abbrev AllFirst : Followed → Type 0
AllFirst (Ok done) = TellsFirst done.0
AllFirst (Err stop) = Unit {0}

-- what is said is told first
said_acts : (end : ℕ) (note : Note) (rest : List Act) (cell : Cell) → AreSilent rest → AllFirst (acts_on end (acts.Note note ∷ rest) cell)
said_acts end note rest cell h = by_rest (acts_on end rest cell) (acts_none end rest cell h) where
  by_rest : (r : Followed) → AllNone r → AllFirst (after_entries (local.Note note ∷ []) r)
  by_rest (Ok done) i = i
  by_rest (Err stop) i = tt

-- so are the acts of a call
abbrev pub SaysFirst : List Act → Type 0
SaysFirst [] = Unit {0}
SaysFirst (acts.Note note ∷ rest) = AreSilent rest
SaysFirst (act ∷ rest) = AreSilent (act ∷ rest)

pub says_first : (end : ℕ) (done : List Act) (cell after : Cell) (told : List LocalEntry) → SaysFirst done → acts_on end done cell ≡ Ok (told, after) → TellsFirst told
says_first end (acts.Note note ∷ rest) cell after told h e = subst AllFirst e (said_acts end note rest cell h)
says_first end [] cell after told h e = first_none told (acts_silent end [] cell after told tt e)
says_first end (acts.Open conn peer ∷ rest) cell after told h e = first_none told (acts_silent end (acts.Open conn peer ∷ rest) cell after told h e)
says_first end (acts.Put conn payload weight ∷ rest) cell after told h e = first_none told (acts_silent end (acts.Put conn payload weight ∷ rest) cell after told h e)
says_first end (acts.Close conn ∷ rest) cell after told h e = first_none told (acts_silent end (acts.Close conn ∷ rest) cell after told h e)

pub silent_first : (done : List Act) → AreSilent done → SaysFirst done
silent_first [] h = tt
silent_first (acts.Note note ∷ rest) h = h.1
silent_first (acts.Open conn peer ∷ rest) h = h
silent_first (acts.Put conn payload weight ∷ rest) h = h
silent_first (acts.Close conn ∷ rest) h = h

of_calm : (node next : NodeState) (done : List Act) (r : Result (List Act × NodeState) CommandError) → Calm node r → r ≡ Ok (done, next) → AreSilent done
of_calm node next done r h e = (subst (Calm node) e h).0

pub makes_silently : (node next : NodeState) (done : List Act) → node_make node ≡ Ok (done, next) → AreSilent done
makes_silently node next done e = of_calm node next done (node_make node) (on_make node) e

pub sent_silent : (node : NodeState) (by : ℕ) (to : ProcessId) (said : Message) (mark : Mark) → AreSilent (sent_acts node by to said mark)
sent_silent node by to said Unopened = tt
sent_silent node by to said (Opened conn) = tt
sent_silent node by to said Broken = tt

pub got_silent : (b : Bool) (from to : ProcessId) → AreSilent (got_acts b from to)
got_silent true from to = (refl, tt)
got_silent false from to = tt

pub does_first : (node next : NodeState) (by : ℕ) (command : Command) (room : Room) (done : List Act) → IsPlainCommand command → node_command node by command room ≡ Ok (done, next) → SaysFirst done
does_first node next by (commands.Send (targets.Process to) said) room done p e = by_place (is_here node to.node) refl where
  by_place : (b : Bool) → is_here node to.node ≡ b → SaysFirst done
  by_place true h = let s = does_home node next by to said room done h e in subst SaysFirst (sym s.did) (got_silent s.is_got (process_id node by) to)
  by_place false h = subst SaysFirst (sym (does_away node next by to said room done h e).did) (sent_silent node by to said (pair_between node by to).mark)
does_first node next by (commands.Receive mark) room done p e = silent_first done (of_calm node next done (node_command node by (commands.Receive mark) room) (on_command node by (commands.Receive mark) room refl) e)
does_first node next by commands.End room done p e = silent_first done (of_calm node next done (node_command node by commands.End room) (on_command node by commands.End room refl) e)
does_first node next by command room done p e = absurd p

-- ---- what is asked

given_plain : (by one : ProcName) (asks command : Command) → IsPlainCommand asks → ◌≡◌ {A = Option (ProcName × Command)} (Some (one, asks)) (Some (by, command)) → IsPlainCommand command
given_plain by one asks command p e = let is : ◌≡◌ {A = ProcName × Command} (one, asks) (by, command) = cc in subst (λ (x : ProcName × Command). IsPlainCommand x.1) is p

pub asked_plain : (known others : Names) (what : What) (by : ProcName) (command : Command) → is_of_many known what ≡ true → command_as others what ≡ Some (by, command) → IsPlainCommand command
asked_plain known others (lines.Send from (names.Process to) mark body) by command m e = given_plain by from (commands.Send (targets.Process (process_as others to)) (record { mark = mark; body = body })) command tt e
asked_plain known others (lines.Recv from mark) by command m e = given_plain by from (commands.Receive mark) command tt e
asked_plain known others (lines.End from) by command m e = given_plain by from commands.End command tt e
asked_plain known others (lines.Send from (names.Port process port) mark body) by command m e = absurd cc
asked_plain known others (lines.Send from (names.Named node name) mark body) by command m e = absurd cc
asked_plain known others what by command m e = absurd cc
