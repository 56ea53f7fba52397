-- A line that ends its process, and one that sends or takes for a process that acts no more, is answered as the log before
-- it shows.
use Rattle.std.proofs.Common.{◌≡◌, ◌<◌, ℕ, zero, suc, ◌==◌, Bool, true, false, cond, not, length, List, [], ◌∷◌, map, Ok, Err, refl, sym, ap, ◌∙◌, subst}
use Rattle.std.proofs.lemmas.Bool.{and_parts}
use Rattle.std.proofs.lemmas.List.Quantifiers.{position-Some}
use Rattle.std.proofs.lemmas.Option.{slice_get-map}
use Rattle.std.proofs.lemmas.Slice.Eq.{bytes_eq-Decides}
use Rattle.std.specs.Option.{option_map}
use Rattle.std.specs.Prelude.{find, is_some, get_or, filter, slice_get, position, Result, Option, Some, None}
use Rattle.std.specs.Str.{bytes_eq}
use Rattle.ch_base.specs.declared.address.Address.{Address}
use Rattle.ch_base.specs.declared.event.Room.{Room}
use Rattle.ch_base.specs.declared.memory.Stop.TheVariants as stops
use Rattle.ch_ident.specs.declared.reason.Reason.TheVariants as reasons
use Rattle.ch_mail.specs.declared.life.Life.{Life}
use Rattle.ch_mail.specs.declared.life.Life.TheVariants as stages
use Rattle.ch_mail.specs.Lives.{is_live}
use Rattle.ch_mail.specs.Mail.{life_of}
use Rattle.ch_mail.specs.Process.{Process}
use Rattle.ch_static.specs.declared.command.Command.{Command}
use Rattle.ch_static.specs.declared.command.Command.TheVariants as commands
use Rattle.ch_static.specs.declared.target.Target.{Target}
use Rattle.ch_ident.specs.declared.message.Message.{Message}
use Rattle.ch_model.specs.declared.act.Act.{Act}
use Rattle.ch_model.specs.declared.command.CommandError.{CommandError}
use Rattle.ch_model.specs.declared.entry.Entry.{Entry}
use Rattle.ch_model.specs.declared.entry.Verdict.{Verdict}
use Rattle.ch_model.specs.declared.entry.Verdict.TheVariants as verdicts
use Rattle.ch_model.specs.declared.line.Line.{Line}
use Rattle.ch_model.specs.declared.line.What.TheVariants as lines
use Rattle.ch_model.specs.declared.local.LocalEvent.TheVariants as events
use Rattle.ch_model.specs.declared.name.ProcName.{ProcName}
use Rattle.ch_model.specs.declared.name.TargetName.TheVariants as names
use Rattle.ch_model.specs.Answers.{answer_to_live}
use Rattle.ch_model.specs.Life.{is_live as is_live_by}
use Rattle.ch_model.specs.Cell.{Celled, answered, refused, node_did, room_for, commanded, cell_new, cell_step}
use Rattle.ch_model.specs.CellSteps.{Followed, ◌then◌, is_at, with_node, acts_on, all_items}
use Rattle.ch_model.specs.HostCalls.{host_new}
use Rattle.ch_model.specs.Naming.{Names, is_named, or_nobody, address_as, target_as, called}
use Rattle.ch_model.specs.Node.{node_new, node_command, target_node}
use Rattle.ch_model.specs.NodeActs.{◌>>=◌, Done, stopping}
use Rattle.ch_model.specs.NodeCommands.{send_of, receive_of, finish_of}
use Rattle.ch_model.specs.NodeEnds.{over}
use Rattle.ch_model.specs.NodeRoom.{acting, acting_as}
use Rattle.ch_model.specs.NodeState.{NodeState}
use Rattle.ch_model.specs.World.{names_of, nodes_of, labels_of, same_host, first_of_hosts, cell_at, world_new}
use Rattle.ch_model.specs.WorldHappenings.{Answered, cell_told, cell_hears}
use Rattle.ch_model.specs.WorldLines.{node_hears, line_done}
use Rattle.ch_model.specs.WorldSockets.{is_host_of, cell_of}
use Rattle.ch_model.specs.WorldState.{Cell, Named, World}
use Rattle.ch_laws_world.specs.Grows.{homes_of}
use Rattle.ch_laws_world.proofs.Journals.{address_stays}
use Rattle.ch_laws_log.specs.Declared.{is_declared}
use Rattle.ch_laws_log.proofs.Agreeing.{some_within}
use Rattle.ch_laws_log.proofs.Homes.{called_so}
use Rattle.ch_laws_log.proofs.Stored.{number_is}
use Rattle.ch_laws_many.proofs.Addresses.{AllHomed, all_opened}
use Rattle.ch_laws_many.proofs.Answering.{AnsweredAs}
use Rattle.ch_laws_many.proofs.Awake.{AwakeAt, seats_in, awake_still, fresh_awake}
use Rattle.ch_laws_many.proofs.Led.{IsSet}
use Rattle.ch_laws_many.proofs.Reached.{IsJournal, AreOpen, named}
use Rattle.ch_laws_lives.proofs.WorldLives as world_lives
use Rattle.ch_laws_acting.specs.Rolls.{rests_of, roll_of}
use Rattle.ch_laws_acting.specs.Cells.{rolls_of, roll_at}
use Rattle.ch_laws_acting.proofs.ToldRests.{rests_told}
use Rattle.ch_laws_acting.proofs.CellRests.{roll_found}
use Rattle.ch_laws_acting.proofs.LogRests.{answer_by, RefusedBy, end_answer, refused_answer}
use Rattle.ch_laws_acting.proofs.WorldRests.{Alive, IsAt}
use Rattle.ch_laws_acting.proofs.Uniques.{IsOnce}

-- ---- what a journal reaches

-- the journal's lines reach this world, with this log
pub record Ready (journal : List Line) (log : List Entry) (world : World) : Type 0 where
  pub set : IsSet (names_of journal) world
  pub homes : homes_of world.cells ≡ homes_of (world_new journal).cells
  pub seats : seats_in world.cells ≡ seats_in (world_new journal).cells
  pub unshut : AreOpen log
  pub lives : world_lives.Alive (names_of journal) log world
  pub rests : Alive (names_of journal) (first_of_hosts [] (nodes_of journal)) log world

-- ---- the node of a declared name

get_is : (cells : List (Cell × ℕ)) (place : ℕ) (cell d : Cell × ℕ) → slice_get cells place ≡ Some cell → get_or cells place d ≡ cell
get_is [] place cell d e = absurd cc
get_is (known ∷ rest) zero cell d e = cc
get_is (known ∷ rest) (suc place) cell d e = get_is rest place cell d e

placed_within : {X : Type 0} (p : X → Bool) (xs : List X) (i : ℕ) → position p xs ≡ Some i → i < length xs
placed_within p [] i e = absurd cc
placed_within p (x ∷ xs) i e = (position-Some p (x ∷ xs) i x e).0

-- a new cell is at the address that it was made for
cell_is : (host : List ℕ) (port : ℕ) (circle : List (List ℕ)) (nodes : List (ℕ × ℕ × List (List ℕ))) (at : Address) → is_host_of at (cell_new host port circle nodes, 0) ≡ true → (host ≡ at.host) × (port ≡ at.port)
cell_is host port circle nodes at e =
    let opened = all_opened (map (λ (node : ℕ × ℕ × List (List ℕ)). (node.0, node_new (record { host = host; port = port; id = node.0 }) node.1 node.2)) nodes) (host_new host port circle) in
    let parts = and_parts (bytes_eq (cell_new host port circle nodes).host.host at.host) ((cell_new host port circle nodes).host.port == at.port) e in
    (host_is opened.0 parts.0, port_is opened.1 parts.1)
  where
    host_is : {a : List ℕ} → a ≡ host → bytes_eq a at.host ≡ true → host ≡ at.host
    host_is {a = a} e h = sym e ∙ (bytes_eq-Decides a at.host).0 h

    port_is : {p : ℕ} → p ≡ port → (p == at.port) ≡ true → port ≡ at.port
    port_is {p = p} e h = sym e ∙ number_is p at.port h

placed_at : (journal : List Line) (place : ℕ) (address at : Address) → slice_get (first_of_hosts [] (nodes_of journal)) place ≡ Some address → cell_of (world_new journal) at ≡ Some place → (address.host ≡ at.host) × (address.port ≡ at.port)
placed_at journal place address at e is = cell_is address.host address.port (map (λ (named : Named). named.address.host) (nodes_of journal)) (map (λ (named : Named). (named.address.id, named.unique, labels_of journal named.name)) (filter (λ (named : Named). same_host named.address address) (nodes_of journal))) at
    (subst (λ (c : Cell × ℕ). is_host_of at c ≡ true) (get_is (world_new journal).cells place (cell_at journal address, 0) (cell_at journal address, 0) there) (position-Some (is_host_of at) (world_new journal).cells place (cell_at journal address, 0) is).1) where
      there : slice_get (world_new journal).cells place ≡ Some (cell_at journal address, 0)
      there = slice_get-map (λ (a : Address). (cell_at journal a, 0)) (first_of_hosts [] (nodes_of journal)) place ∙ ap (option_map (λ (a : Address). (cell_at journal a, 0))) e

-- the address of the node that stands there
own_is : (journal : List Line) (place : ℕ) (own at : Address) → IsAt (first_of_hosts [] (nodes_of journal)) place at.id own → cell_of (world_new journal) at ≡ Some place → own ≡ at
own_is journal place own at i is = let host = placed_at journal place i.0 at i.1 is in
    ap (λ (x : List ℕ). record { host = x; port = own.port; id = own.id }) (i.2 ∙ host.0) ∙ ap (λ (x : ℕ). record { host = at.host; port = x; id = own.id }) (i.3 ∙ host.1) ∙ ap (λ (x : ℕ). record { host = at.host; port = at.port; id = x }) i.4

-- ---- the answer of a node

-- the answer of a cell is such
abbrev pub CelledSo : (Verdict → Type 0) → Celled → Type 0
CelledSo so (Ok done) = so done.0.0
CelledSo so (Err stop) = Unit {0}

-- the node is the one of this name, by the log
pub record IsOf (journal : List Line) (log : List Entry) (name : List ℕ) (node : NodeState) : Type 0 where
  pub own : node.own ≡ address_as (names_of journal) name
  pub rests : rests_of node.mail ≡ rests_told name log
  pub once : IsOnce (names_of journal) node.own node.unique

-- the answer to a command of a process is such, by whether that is there, and acts no more
abbrev pub AnswersSo : (NodeState → Type 0) → (Option Bool → Verdict → Type 0) → ℕ → Command → Type 0
AnswersSo is so by command = (end : ℕ) (cell : Cell) (node : NodeState) (room : Room) → is node → CelledSo (so (slice_get (rests_of node.mail) by)) (node_did end cell (node_command node by command room))

-- what is done where the process acts
pub acts_so : (so : Option Bool → Verdict → Type 0) (end : ℕ) (cell : Cell) (node : NodeState) (by : ℕ) (f : Unit {0} → Result (List Act × NodeState) CommandError)
    → so None verdicts.Unknown → so (Some true) verdicts.Dead → ((live : Unit {0}) → CelledSo (so (Some false)) (node_did end cell (f live))) → CelledSo (so (slice_get (rests_of node.mail) by)) (node_did end cell (acting node by >>= f))
unfolding acting life_of
acts_so so end cell node by f none rests live = subst (λ (o : Option Bool). CelledSo (so o) (node_did end cell (acting node by >>= f))) (sym (slice_get-map (λ (p : Process). not (is_live p.life)) node.mail by)) (by_get (slice_get node.mail by)) where
  by_life : (life : Life) → CelledSo (so (Some (not (is_live life)))) (node_did end cell (acting_as (Some life) >>= f))
  by_life stages.Live = live tt
  by_life (stages.Doomed text) = rests
  by_life (stages.Over reason) = rests

  by_get : (o : Option Process) → CelledSo (so (option_map (λ (p : Process). not (is_live p.life)) o)) (node_did end cell (acting_as (option_map (λ process. process.life) o) >>= f))
  by_get None = none
  by_get (Some process) = by_life process.life

node_ends : (is : NodeState → Type 0) (by : ℕ) → AnswersSo is (λ o verdict. verdict ≡ answer_by o) by commands.End
unfolding node_command finish_of
node_ends is by end cell node room of = acts_so (λ o verdict. verdict ≡ answer_by o) end cell node by (λ live. stopping (over node by reasons.Normal)) refl refl (λ live. by_over (over node by reasons.Normal)) where
  followed : (done : Followed) → CelledSo (λ verdict. verdict ≡ verdicts.Ok) (answered verdicts.Ok done)
  followed (Ok done) = refl
  followed (Err stop) = tt

  by_over : (done : Done) → CelledSo (λ verdict. verdict ≡ verdicts.Ok) (node_did end cell (stopping done))
  by_over (Ok done) = followed (acts_on end done.0 (with_node end done.1 cell) then all_items)
  by_over (Err stops.OutOfMemory) = tt
  by_over (Err stops.Worn) = tt

anything : (done : Celled) → CelledSo (RefusedBy (Some false)) done
anything (Ok done) = tt
anything (Err stop) = tt

pub node_sends : (is : NodeState → Type 0) (by : ℕ) (to : Target) (said : Message) → AnswersSo is RefusedBy by (commands.Send to said)
unfolding node_command send_of
node_sends is by to said end cell node room of = acts_so RefusedBy end cell node by _ refl refl (λ live. anything _)

node_takes : (is : NodeState → Type 0) (by : ℕ) (mark : List ℕ) → AnswersSo is RefusedBy by (commands.Receive mark)
unfolding node_command receive_of
node_takes is by mark end cell node room of = acts_so RefusedBy end cell node by _ refl refl (λ live. anything _)

-- ---- the answer to a line

-- the answer in the world is such
abbrev pub AnsweredSo : (Verdict → Type 0) → Answered → Type 0
AnsweredSo so (Ok done) = so done.0.0
AnsweredSo so (Err stop) = Unit {0}

pub asked_so : (journal : List Line) → IsJournal journal → (log : List Entry) (world : World) (by : ProcName) (command : Command) (so : Option Bool → Verdict → Type 0) → is_declared (names_of journal) by.node ≡ true → Ready journal log world → AnswersSo (IsOf journal log by.node) so by.counter command
    → AnsweredSo (so (slice_get (rests_told by.node log) by.counter)) (node_hears by.node (λ end. events.Command end by.counter command) world)
asked_so journal j log world by command so declared r k = subst (λ (ns : Names). AnsweredSo (so (slice_get (rests_told by.node log) by.counter)) (hears (address_as ns by.node))) (sym r.set.names) (by_named (find (is_named by.node) (names_of journal)) refl declared) where
  hears : Address → Answered
  hears own = elim (cell_of world own) as (λ o. Answered) [
    | None ↦ Ok ((verdicts.Nothing, []), world)
    | Some place ↦ cell_hears place (events.Command own.id by.counter command) world
  ]

  told_so : (place : ℕ) (cell : Cell × ℕ) (o : Option Bool) (done : Celled) → o ≡ slice_get (rests_told by.node log) by.counter → CelledSo (so o) done → AnsweredSo (so (slice_get (rests_told by.node log) by.counter)) (cell_told place cell world done)
  told_so place cell o (Ok done) e c = subst (λ (x : Option Bool). so x done.0.0) e c
  told_so place cell o (Err stop) e c = tt

  homed : (ns : List Named) (d : Named) → AllHomed world ns → find (is_named by.node) ns ≡ Some d → is_some (cell_of world d.address) ≡ true
  homed [] d h e = absurd cc
  homed (n ∷ rest) d h e = by_one (is_named by.node n) e (homed rest d h.1) where
    by_one : (b : Bool) → cond b (Some n) (find (is_named by.node) rest) ≡ Some d → (find (is_named by.node) rest ≡ Some d → is_some (cell_of world d.address) ≡ true) → is_some (cell_of world d.address) ≡ true
    by_one true e more = let this : n ≡ d = cc in subst (λ (m : Named). is_some (cell_of world m.address) ≡ true) this h.0
    by_one false e more = more e

  by_node : (at : Address) (place : ℕ) (cell : Cell × ℕ) → at ≡ address_as (names_of journal) by.node → called (names_of journal) at ≡ by.node → cell_of (world_new journal) at ≡ Some place → slice_get world.cells place ≡ Some cell
      → (o : Option (ℕ × NodeState)) → find (is_at at.id) cell.0.nodes ≡ o → option_map (λ (n : ℕ × NodeState). n.1.is_shut) o ≡ Some false
      → AnsweredSo (so (slice_get (rests_told by.node log) by.counter)) (cell_told place cell world (elim o as (λ o. Celled) [
        | None ↦ refused verdicts.Nothing cell.0
        | Some node ↦ commanded at.id by.counter command cell.0 node.1
      ]))
  by_node at place cell to name home is None f there = absurd cc
  by_node at place cell to name home is (Some node) f there = told_so place cell (slice_get (rests_of node.1.mail) by.counter) (commanded at.id by.counter command cell.0 node.1)
      (ap (λ (l : List Bool). slice_get l by.counter) rests) (k at.id cell.0 node.1 (room_for cell.0.host at.id node.1.own (target_node node.1 by.counter command)) (record { own = own ∙ to; rests = rests; once = r.rests.once place cell at.id (roll_of node.1) is found })) where
        found : roll_at at.id (rolls_of cell.0.nodes) ≡ Some (roll_of node.1)
        found = roll_found at.id cell.0.nodes node f

        own : node.1.own ≡ at
        own = own_is journal place node.1.own at (r.rests.placed place cell at.id (roll_of node.1) is found) home

        rests : rests_of node.1.mail ≡ rests_told by.node log
        rests = r.rests.agrees place cell is at.id (roll_of node.1) found ∙ ap (λ (n : List ℕ). rests_told n log) (ap (called (names_of journal)) own ∙ name)

  by_cell : (at : Address) (place : ℕ) → at ≡ address_as (names_of journal) by.node → called (names_of journal) at ≡ by.node → cell_of (world_new journal) at ≡ Some place → AwakeAt world.cells place at.id → (o : Option (Cell × ℕ)) → slice_get world.cells place ≡ o → is_some o ≡ true → AnsweredSo (so (slice_get (rests_told by.node log) by.counter)) (elim o as (λ o. Answered) [
    | None ↦ Ok ((verdicts.Nothing, []), world)
    | Some cell ↦ cell_told place cell world (cell_step cell.0 (events.Command at.id by.counter command))
  ])
  by_cell at place to name home awake None is there = absurd cc
  by_cell at place to name home awake (Some cell) is there = by_node at place cell to name home is (find (is_at at.id) cell.0.nodes) refl (awake cell is)

  by_place : (d : Named) → find (is_named by.node) (names_of journal) ≡ Some d → called (names_of journal) d.address ≡ by.node → (o : Option ℕ) → cell_of world d.address ≡ o → is_some o ≡ true → AnsweredSo (so (slice_get (rests_told by.node log) by.counter)) (elim o as (λ o. Answered) [
    | None ↦ Ok ((verdicts.Nothing, []), world)
    | Some place ↦ cell_hears place (events.Command d.address.id by.counter command) world
  ])
  by_place d found name None is there = absurd cc
  by_place d found name (Some place) is there = let home : cell_of (world_new journal) d.address ≡ Some place = sym (address_stays d.address (world_new journal) world r.homes) ∙ is in
      by_cell d.address place (sym (ap (λ (o : Option Named). (or_nobody o).address) found)) name home (awake_still world.cells (world_new journal).cells place d.address.id r.seats (fresh_awake journal (named journal j) by.node d place found home))
      (slice_get world.cells place) refl (some_within world.cells place (placed_within (is_host_of d.address) world.cells place is))

  by_named : (o : Option Named) → find (is_named by.node) (names_of journal) ≡ o → is_some o ≡ true → AnsweredSo (so (slice_get (rests_told by.node log) by.counter)) (hears (or_nobody o).address)
  by_named None found there = absurd cc
  by_named (Some d) found there = by_place d found (ap (λ (o : Option Named). called (names_of journal) (or_nobody o).address) (sym found) ∙ called_so (names_of journal) by.node j.apart (ap is_some found)) (cell_of world d.address) refl (homed (names_of journal) d r.set.homed found)

pub end_answered : (journal : List Line) → IsJournal journal → (log : List Entry) (world : World) (by : ProcName) → is_declared (names_of journal) by.node ≡ true → Ready journal log world → AnsweredAs journal log (lines.End by) (line_done (lines.End by) world)
end_answered journal j log world by declared r = by_done (line_done (lines.End by) world) (asked_so journal j log world by commands.End (λ o verdict. verdict ≡ answer_by o) declared r (node_ends (IsOf journal log by.node) by.counter)) where
  by_done : (done : Answered) → AnsweredSo (λ verdict. verdict ≡ answer_by (slice_get (rests_told by.node log) by.counter)) done → AnsweredAs journal log (lines.End by) done
  by_done (Ok done) e = e ∙ sym (end_answer journal log by r.lives.allowed r.unshut)
  by_done (Err stop) e = tt

pub send_refused : (journal : List Line) → IsJournal journal → (log : List Entry) (world : World) (by to : ProcName) (mark body : List ℕ) → is_declared (names_of journal) by.node ≡ true → not (is_live_by log by) ≡ true → Ready journal log world
    → AnsweredAs journal log (lines.Send by (names.Process to) mark body) (line_done (lines.Send by (names.Process to) mark body) world)
send_refused journal j log world by to mark body declared dead r = by_done (line_done (lines.Send by (names.Process to) mark body) world) (asked_so journal j log world by (commands.Send (target_as world.names (names.Process to)) (record { mark = mark; body = body })) RefusedBy declared r (node_sends (IsOf journal log by.node) by.counter (target_as world.names (names.Process to)) (record { mark = mark; body = body }))) where
  by_done : (done : Answered) → AnsweredSo (RefusedBy (slice_get (rests_told by.node log) by.counter)) done → AnsweredAs journal log (lines.Send by (names.Process to) mark body) done
  by_done (Ok done) k = refused_answer log by done.0.0 (answer_to_live journal log by (lines.Send by (names.Process to) mark body)) r.lives.allowed r.unshut dead k
  by_done (Err stop) k = tt

pub take_refused : (journal : List Line) → IsJournal journal → (log : List Entry) (world : World) (by : ProcName) (mark : List ℕ) → is_declared (names_of journal) by.node ≡ true → not (is_live_by log by) ≡ true → Ready journal log world
    → AnsweredAs journal log (lines.Recv by mark) (line_done (lines.Recv by mark) world)
take_refused journal j log world by mark declared dead r = by_done (line_done (lines.Recv by mark) world) (asked_so journal j log world by (commands.Receive mark) RefusedBy declared r (node_takes (IsOf journal log by.node) by.counter mark)) where
  by_done : (done : Answered) → AnsweredSo (RefusedBy (slice_get (rests_told by.node log) by.counter)) done → AnsweredAs journal log (lines.Recv by mark) done
  by_done (Ok done) k = refused_answer log by done.0.0 (answer_to_live journal log by (lines.Recv by mark)) r.lives.allowed r.unshut dead k
  by_done (Err stop) k = tt
