-- A line by which a process that lives sends to another node is answered as the log before it shows.
use Rattle.std.proofs.Common.{◌≡◌, ◌<◌, ◌^◌, ℕ, ◌-◌, Bool, true, false, cond, not, ◌==◌, ◌&&◌, ◌||◌, length, List, [], ◌∷◌, Ok, Err, refl, sym, ap, ◌∙◌, subst}
use Rattle.std.proofs.lemmas.Option.{slice_get-map}
use Rattle.std.proofs.lemmas.Slice.Eq.{bytes_eq-Decides}
use Rattle.std.specs.Option.{option_map, option_map_or}
use Rattle.std.specs.Prelude.{find, is_some, slice_get, nat_le, Option, Some, None}
use Rattle.std.specs.Str.{bytes_eq}
use Rattle.ch_base.specs.declared.address.Address.{Address}
use Rattle.ch_base.specs.declared.event.Room.{Room}
use Rattle.ch_ident.specs.declared.identifier.ProcessId.{ProcessId}
use Rattle.ch_ident.specs.declared.message.Message.{Message}
use Rattle.ch_mail.specs.declared.life.Life.{Life}
use Rattle.ch_mail.specs.declared.life.Life.TheVariants as stages
use Rattle.ch_mail.specs.Lives.{is_live, is_over as is_over_life}
use Rattle.ch_mail.specs.Mail.{life_of}
use Rattle.ch_mail.specs.Process.{Process}
use Rattle.ch_static.specs.declared.command.Command.TheVariants as commands
use Rattle.ch_static.specs.declared.target.Target.TheVariants as targets
use Rattle.ch_watch.specs.Same.{same_node}
use Rattle.ch_model.specs.declared.entry.Entry.{Entry}
use Rattle.ch_model.specs.declared.entry.Verdict.{Verdict}
use Rattle.ch_model.specs.declared.entry.Verdict.TheVariants as verdicts
use Rattle.ch_model.specs.declared.line.Line.{Line}
use Rattle.ch_model.specs.declared.line.What.TheVariants as lines
use Rattle.ch_model.specs.declared.local.LocalEvent.TheVariants as events
use Rattle.ch_model.specs.declared.name.ProcName.{ProcName}
use Rattle.ch_model.specs.declared.name.TargetName.TheVariants as names
use Rattle.ch_model.specs.AccountsFrames.{Saying, pair_opening}
use Rattle.ch_model.specs.AnswersCounts.{waiting, connections, begins_epoch}
use Rattle.ch_model.specs.Cell.{Celled, refused, room_for, no_room, commanded, cell_step}
use Rattle.ch_model.specs.CellSteps.{is_at}
use Rattle.ch_model.specs.Epochs.{is_said_in_epoch}
use Rattle.ch_model.specs.HasAnswers.{has_own_first, stands_in_place}
use Rattle.ch_model.specs.HostCalls.{most_waiting, host_room}
use Rattle.ch_model.specs.HostState.{Link, HostState}
use Rattle.ch_model.specs.HostSteps.{link_with}
use Rattle.ch_model.specs.HostWrites.{is_up, counted_in}
use Rattle.ch_model.specs.Life.{is_made, is_over, is_doomed, is_live as is_live_by}
use Rattle.ch_model.specs.Links.{is_up_with}
use Rattle.ch_model.specs.Logs.{each_after, each_between_after}
use Rattle.ch_model.specs.Naming.{Names, or_nobody, address_as, called, process_as, process_called}
use Rattle.ch_model.specs.Node.{target_node}
use Rattle.ch_model.specs.NodeConnections.{conn_to}
use Rattle.ch_model.specs.NodeIds.{process_id, is_here, is_own, is_living, life_here}
use Rattle.ch_model.specs.NodeRoom.{opened_besides, most_opened, is_unopened, is_broken}
use Rattle.ch_model.specs.NodeState.{NodeState, Mark, Unopened, Opened, Broken}
use Rattle.ch_model.specs.World.{names_of, world_new}
use Rattle.ch_model.specs.WorldHappenings.{Answered, cell_told, cell_hears}
use Rattle.ch_model.specs.WorldLines.{line_done}
use Rattle.ch_model.specs.WorldSockets.{cell_of}
use Rattle.ch_model.specs.WorldState.{Cell, Named, World}
use Rattle.ch_laws_world.proofs.Journals.{address_stays}
use Rattle.ch_laws_log.proofs.Homes.{node_self, own_is}
use Rattle.ch_laws_log.proofs.Keys.{node_is}
use Rattle.ch_laws_log.proofs.Stored.{number_same}
use Rattle.ch_laws_many.proofs.Answering.{AnsweredAs}
use Rattle.ch_laws_many.proofs.Awake.{AwakeAt, awake_still, fresh_awake}
use Rattle.ch_laws_many.proofs.Reached.{named}
use Rattle.ch_laws_acting.specs.Rolls.{rests_of, roll_of}
use Rattle.ch_laws_acting.proofs.ToldRests.{rests_told}
use Rattle.ch_laws_acting.proofs.CellRests.{roll_found}
use Rattle.ch_laws_acting.proofs.LogRests.{answer_or, or_answer}
use Rattle.ch_laws_acting.proofs.Ends.{Ready, CelledSo, AnsweredSo}
use Rattle.ch_race.specs.Pair.{Side, other}
use Rattle.ch_laws_race.specs.Scene.{Party, host_in, link_of}
use Rattle.ch_laws_calls.specs.Scenes.{SceneFacts, scene_of}
use Rattle.ch_laws_calls.specs.ScenesPairs.{IsPairFor}
use Rattle.ch_laws_calls.proofs.ScenesGiven.{addresses_differ}
use Rattle.ch_laws_plain_nodes.specs.Plain.{IsPlain as IsPlainNode}
use Rattle.ch_laws_plain_logs.proofs.Absent.{no_pair_broken}
use Rattle.ch_laws_plain.proofs.AsksPlaces.{housed}
use Rattle.ch_laws_peers.specs.Words.{words_in, sayings}
use Rattle.ch_laws_peers.specs.Says.{all_towards, node_of, node_in, has_said, AllSay}
use Rattle.ch_laws_peers.specs.Standing.{IsOfNodes, Standing}
use Rattle.ch_laws_messages.specs.SendsSends.{AreWeighed, SaysSmall, AllGive}
use Rattle.ch_laws_messages.proofs.SendsHosts.{waits_weighed}
use Rattle.ch_laws_messages.proofs.SendsUps.{up_as_told}
use Rattle.ch_laws_messages.proofs.SendsWaits.{waits_as_said}
use Rattle.ch_laws_messages.proofs.SendsOpenings.{first_opens, opens_said, index_so}
use Rattle.ch_laws_messages.proofs.SendsWaiting.{waiting_said, none_waiting}
use Rattle.ch_laws_messages.proofs.SendsNodes.{sent_away, is_short, pair_for, SendsAs, away_answer, has_room, is_spent, live_answer}

-- ---- a process that lives

live_rests : (journal : List Line) (log : List Entry) (world : World) (by : ProcName) → Ready journal log world → is_live_by log by ≡ true → slice_get (rests_told by.node log) by.counter ≡ Some false
live_rests journal log world by r live = by_rest (slice_get (rests_told by.node log) by.counter) (sym (or_answer log by verdicts.Ok r.lives.allowed r.unshut) ∙ by_tests (is_made log by) (is_over log by) (is_doomed log by) live) where
  by_tests : (made over doomed : Bool) → (made && not over && not doomed) ≡ true → cond (not made) verdicts.Unknown (cond (over || doomed && true) verdicts.Dead verdicts.Ok) ≡ verdicts.Ok
  by_tests true false false h = refl
  by_tests true true doomed h = absurd cc
  by_tests true false true h = absurd cc
  by_tests false over doomed h = absurd cc

  by_rest : (o : Option Bool) → answer_or verdicts.Ok o ≡ verdicts.Ok → o ≡ Some false
  by_rest None e = absurd cc
  by_rest (Some true) e = absurd cc
  by_rest (Some false) e = refl

living_so : (node : NodeState) (by : ℕ) → slice_get (rests_of node.mail) by ≡ Some false → is_living node (process_id node by) ≡ true
unfolding is_living life_here is_own life_of
living_so node by rests = ap (λ (b : Bool). option_map_or (λ life. not (is_over_life life)) (cond b (option_map (λ (p : Process). p.life) (slice_get node.mail by)) None) false) own_self
    ∙ by_process (slice_get node.mail by) (sym (slice_get-map (λ (p : Process). not (is_live p.life)) node.mail by) ∙ rests) where
      own_self : (same_node node.own node.own && (node.unique == node.unique)) ≡ true
      own_self = ap (λ (b : Bool). b && (node.unique == node.unique)) (node_self node.own) ∙ number_same node.unique

      by_life : (life : Life) → ◌≡◌ {A = Option Bool} (Some (not (is_live life))) (Some false) → not (is_over_life life) ≡ true
      by_life stages.Live e = refl
      by_life (stages.Doomed text) e = refl
      by_life (stages.Over reason) e = absurd cc

      by_process : (o : Option Process) → option_map (λ (p : Process). not (is_live p.life)) o ≡ Some false → option_map_or (λ life. not (is_over_life life)) (option_map (λ (p : Process). p.life) o) false ≡ true
      by_process None e = absurd cc
      by_process (Some process) e = by_life process.life e

-- ---- the room of a link

abbrev room_of : Link → Room
room_of link = record { up = is_up link.state; waits = counted_in link; given = length link.given }

room_is : (host : HostState) (end : ℕ) (node : NodeState) (by : ℕ) (to : ProcessId) (said : Message) → is_here node to.node ≡ false → room_for host end node.own (target_node node by (commands.Send (targets.Process to) said)) ≡ room_of (link_with host end to.node)
unfolding target_node host_room
room_is host end node by to said away = ap (λ (b : Bool). cond b no_room (host_room host end to.node)) away

besides_none : (node : NodeState) (at : Address) (room : Room) → node.to_nodes ≡ [] → opened_besides node at room ≡ room.given
unfolding opened_besides conn_to
besides_none node at room none = by_nodes node.to_nodes none where
  by_nodes : (l : List (Address × ℕ)) → l ≡ [] → cond (is_some (option_map (λ (known : Address × ℕ). known.1) (find (λ (known : Address × ℕ). same_node known.0 at) l))) (room.given - 1) room.given ≡ room.given
  by_nodes [] e = refl
  by_nodes (known ∷ rest) e = absurd cc

module _ (journal : List Line) (nodes : IsOfNodes journal) (log : List Entry) (world : World) (stands : Standing journal log world) (r : Ready journal log world) (says : AllSay journal log world) (gives : AllGive journal log world)
    (numbered : each_after is_said_in_epoch [] log ≡ true) (small : SaysSmall log) (own : each_between_after (has_own_first journal) [] log ≡ true) (place : each_after (stands_in_place journal) [] log ≡ true)
    (by to : ProcName) (away : bytes_eq by.node to.node ≡ false) (live : is_live_by log by ≡ true) (by_small : by.counter < 2 ^ 32) (to_small : to.counter < 2 ^ 32) (two : IsPairFor journal by.node to.node) where
  abbrev x : Side
  x = two.side

  abbrev party : Side → Party
  party = two.party

  abbrev link : Link
  link = link_of (scene_of party world) x

  abbrev said : List Saying
  said = sayings (party x).name (party (other x)).name log

  abbrev target : ProcessId
  target = process_as world.names to

  shown : SceneFacts party world
  shown = stands.each_pair.shown party two.pair

  -- ---- addresses and names

  address_so : (z : Side) (name : List ℕ) → (party z).name ≡ name → address_as world.names name ≡ (party z).address
  address_so z name is = ap (λ (ns : Names). address_as ns name) r.set.names ∙ ap (address_as (names_of journal)) (sym is) ∙ ap (λ (o : Option Named). (or_nobody o).address) (two.pair.named z).1 ∙ (two.pair.named z).3

  target_at_other : target.node ≡ (party (other x)).address
  target_at_other = address_so (other x) to.node two.second

  called_target : process_called world.names target ≡ to
  called_target = ap (λ (n : List ℕ). record to { node = n }) (ap (called world.names) target_at_other ∙ shown.called_as (other x) ∙ two.second)

  declared_target : target ≡ process_as world.names (process_called world.names target)
  declared_target = ap (process_as world.names) (sym called_target)

  -- ---- a node of the sender

  module _ (place_cell : Cell × ℕ) (at_cell : slice_get world.cells (party x).place ≡ Some place_cell) (there : ℕ × NodeState) (found : find (is_at (party x).address.id) place_cell.0.nodes ≡ Some there) (own_at : there.1.own ≡ (party x).address)
      (rests : slice_get (rests_of there.1.mail) by.counter ≡ Some false) where
    abbrev node : NodeState
    node = there.1

    node_so : node_of party world x ≡ Some node
    node_so = ap (λ (o : Option (Cell × ℕ)). node_in o (party x).address.id) at_cell ∙ ap (λ (o : Option (ℕ × NodeState)). elim o as (λ o. Option NodeState) [ None ↦ None | Some one ↦ Some one.1 ]) found

    called_sender : process_called world.names (process_id node by.counter) ≡ by
    called_sender = ap (λ (n : List ℕ). record by { node = n }) (ap (called world.names) own_at ∙ shown.called_as x ∙ two.first)

    is_away : is_here node target.node ≡ false
    is_away = by_test (is_here node target.node) refl where
      by_test : (b : Bool) → is_here node target.node ≡ b → b ≡ false
      by_test false e = refl
      by_test true e = absurd (addresses_differ journal party two.pair x (sym own_at ∙ sym (node_is target.node node.own e) ∙ target_at_other))

    plain : IsPlainNode node
    plain = ((stands.plain.cells (party x).place place_cell at_cell).nodes (party x).address.id there found).plain

    begins_so : begins_epoch log (lines.Send by (names.Process to) [] []) ≡ not (has_said by to said)
    begins_so = index_so journal (party x).name (party (other x)).name by to (sym two.first) (sym two.second) log stands.kinds numbered

    -- whether an id is left
    spent_as_told : (mark body : List ℕ) → (is_unopened (pair_for node by.counter target).mark && nat_le most_opened (opened_besides node target.node (room_of link))) ≡ is_spent log by to (record { mark = mark; body = body })
    spent_as_told mark body = by_mark (pair_for node by.counter target).mark refl where
      given_as_told : nat_le most_opened (opened_besides node target.node (room_of link)) ≡ nat_le 65535 (connections log by.node to.node)
      given_as_told = ap (nat_le most_opened) (besides_none node target.node (room_of link) plain.alone ∙ gives.level party two.pair x ∙ ap (λ (n : List ℕ). connections log n (party (other x)).name) two.first ∙ ap (connections log by.node) two.second)

      none_said : (pair_for node by.counter target).mark ≡ Unopened → has_said by to said ≡ false
      none_said is = ap (λ (p : ProcName). has_said p to said) (sym called_sender) ∙ ap (λ (q : ProcName). has_said (process_called world.names (process_id node by.counter)) q said) (sym called_target)
          ∙ (says party two.pair x).unopened node by.counter target node_so target_at_other declared_target is (living_so node by.counter rests)

      some_said : (conn : ℕ) → (pair_for node by.counter target).mark ≡ Opened conn → has_said by to said ≡ true
      some_said conn is = let o = (says party two.pair x).opened node by.counter target conn node_so target_at_other is in
          opens_said journal (party x).name (party (other x)).name by to (sym two.first) (sym two.second) o.opening
          (ap (λ (p : ProcName). pair_opening journal p (names.Process to)) (sym called_sender) ∙ ap (λ (q : ProcName). pair_opening journal (process_called world.names (process_id node by.counter)) (names.Process q)) (sym called_target) ∙ o.opens) by_small to_small log stands.kinds small
          (first_opens journal said [] 0 (words_in (all_towards party world x log)) (length said) o.id o.opening (says party two.pair x).words refl o.opened)

      by_mark : (m : Mark) → (pair_for node by.counter target).mark ≡ m → (is_unopened m && nat_le most_opened (opened_besides node target.node (room_of link))) ≡ is_spent log by to (record { mark = mark; body = body })
      by_mark Unopened is = given_as_told ∙ ap (λ (b : Bool). b && nat_le 65535 (connections log by.node to.node)) (sym (begins_so ∙ ap not (none_said is)))
      by_mark (Opened conn) is = ap (λ (b : Bool). b && nat_le 65535 (connections log by.node to.node)) (sym (begins_so ∙ ap not (some_said conn is)))
      by_mark Broken is = absurd ((says party two.pair x).unbroken node by.counter target node_so target_at_other is)

    -- whether there is room
    room_as_told : (is_up link.state || not (nat_le most_waiting (counted_in link))) ≡ has_room journal log by.node to.node
    room_as_told = by_up (is_up link.state) refl where
      up_so : is_up link.state ≡ is_up_with log by.node to.node
      up_so = up_as_told journal nodes log world stands party two.pair x ∙ ap (λ (n : List ℕ). is_up_with log n (party (other x)).name) two.first ∙ ap (is_up_with log by.node) two.second

      none_full : (n : ℕ) → n ≡ 0 → true ≡ not (nat_le 4096 n)
      none_full n is = ap (λ (m : ℕ). not (nat_le 4096 m)) (sym is)

      counted_so : is_up link.state ≡ false → counted_in link ≡ waiting journal log by.node to.node
      counted_so down = waits_as_said journal log world party x (says party two.pair x) (subst (λ (o : Option (Cell × ℕ)). AreWeighed (link_with (host_in o) (party x).address.id (party (other x)).address).waits) (sym at_cell) (waits_weighed place_cell.0.host (party x).address.id (party (other x)).address (gives.weighed (party x).place place_cell at_cell))) down
          ∙ ap (λ (n : List ℕ). length (sayings n (party (other x)).name log)) two.first ∙ ap (λ (n : List ℕ). length (sayings by.node n log)) two.second
          ∙ sym (waiting_said journal (names_of journal) nodes.is.lines by.node to.node away log stands.kinds own place (sym up_so ∙ down))

      by_up : (b : Bool) → is_up link.state ≡ b → (b || not (nat_le most_waiting (counted_in link))) ≡ has_room journal log by.node to.node
      by_up true is = none_full (waiting journal log by.node to.node) (none_waiting journal (names_of journal) nodes.is.lines by.node to.node away log (sym up_so ∙ is))
      by_up false is = ap (λ (n : ℕ). not (nat_le 4096 n)) (counted_so is)

    sends_as : (mark body : List ℕ) → SendsAs node by.counter target (room_of link) (has_room journal log by.node to.node) (is_spent log by to (record { mark = mark; body = body }))
    sends_as mark body = record { away = is_away; unbroken = by_mark (pair_for node by.counter target).mark refl; roomy_so = room_as_told; spent_so = spent_as_told mark body } where
      by_mark : (m : Mark) → (pair_for node by.counter target).mark ≡ m → is_broken m ≡ false
      by_mark Unopened is = refl
      by_mark (Opened conn) is = refl
      by_mark Broken is = absurd ((says party two.pair x).unbroken node by.counter target node_so target_at_other is)

    room_seen : (mark body : List ℕ) → room_for place_cell.0.host (party x).address.id node.own (target_node node by.counter (commands.Send (targets.Process target) (record { mark = mark; body = body }))) ≡ room_of link
    room_seen mark body = room_is place_cell.0.host (party x).address.id node by.counter target (record { mark = mark; body = body }) is_away
        ∙ ap (λ (at : Address). room_of (link_with place_cell.0.host (party x).address.id at)) target_at_other
        ∙ ap (λ (o : Option (Cell × ℕ)). room_of (link_with (host_in o) (party x).address.id (party (other x)).address)) (sym at_cell)

    pub node_answers : (mark body : List ℕ) → CelledSo (λ verdict. verdict ≡ sent_away (is_short (record { mark = mark; body = body })) (has_room journal log by.node to.node) (is_spent log by to (record { mark = mark; body = body }))) (commanded (party x).address.id by.counter (commands.Send (targets.Process target) (record { mark = mark; body = body })) place_cell.0 node)
    node_answers mark body = subst (λ (o : Option Bool). CelledSo (λ verdict. verdict ≡ answer_or (sent_away (is_short (record { mark = mark; body = body })) (has_room journal log by.node to.node) (is_spent log by to (record { mark = mark; body = body }))) o) (commanded (party x).address.id by.counter (commands.Send (targets.Process target) (record { mark = mark; body = body })) place_cell.0 node)) rests
        (away_answer (party x).address.id place_cell.0 node by.counter target (record { mark = mark; body = body }) (room_for place_cell.0.host (party x).address.id node.own (target_node node by.counter (commands.Send (targets.Process target) (record { mark = mark; body = body })))) (has_room journal log by.node to.node) (is_spent log by to (record { mark = mark; body = body }))
        (subst (λ (room : Room). SendsAs node by.counter target room (has_room journal log by.node to.node) (is_spent log by to (record { mark = mark; body = body }))) (sym (room_seen mark body)) (sends_as mark body)))

  -- ---- the line

  module _ (mark body : List ℕ) where
    abbrev message : Message
    message = record { mark = mark; body = body }

    abbrev verdict_so : Verdict → Type 0
    verdict_so verdict = verdict ≡ sent_away (is_short message) (has_room journal log by.node to.node) (is_spent log by to message)

    abbrev hears : Address → Answered
    hears at = elim (cell_of world at) as (λ o. Answered) [
      | None ↦ Ok ((verdicts.Nothing, []), world)
      | Some p ↦ cell_hears p (events.Command at.id by.counter (commands.Send (targets.Process target) message)) world
    ]

    told_so : (p : ℕ) (c : Cell × ℕ) (done : Celled) → CelledSo verdict_so done → AnsweredSo verdict_so (cell_told p c world done)
    told_so p c (Ok done) so = so
    told_so p c (Err stop) so = tt

    cell_at : cell_of world (party x).address ≡ Some (party x).place
    cell_at = address_stays (party x).address (world_new journal) world r.homes ∙ two.pair.placed x

    called_here : (own : Address) → own ≡ (party x).address → called (names_of journal) own ≡ by.node
    called_here own is = ap (called (names_of journal)) is ∙ ap (λ (ns : Names). called ns (party x).address) (sym r.set.names) ∙ shown.called_as x ∙ two.first

    by_node : (c : Cell × ℕ) → slice_get world.cells (party x).place ≡ Some c → (o : Option (ℕ × NodeState)) → find (is_at (party x).address.id) c.0.nodes ≡ o → option_map (λ (n : ℕ × NodeState). n.1.is_shut) o ≡ Some false
        → AnsweredSo verdict_so (cell_told (party x).place c world (elim o as (λ o. Celled) [
          | None ↦ refused verdicts.Nothing c.0
          | Some one ↦ commanded (party x).address.id by.counter (commands.Send (targets.Process target) message) c.0 one.1
        ]))
    by_node c at None found there = absurd cc
    by_node c at (Some one) found there = told_so (party x).place c (commanded (party x).address.id by.counter (commands.Send (targets.Process target) message) c.0 one.1) (node_answers c at one found own_so rests_so mark body) where
      own_so : one.1.own ≡ (party x).address
      own_so = own_is journal world (party x).address (party x).place c one (housed journal log world stands.all.sound) cell_at at found

      rests_so : slice_get (rests_of one.1.mail) by.counter ≡ Some false
      rests_so = ap (λ (l : List Bool). slice_get l by.counter) (r.rests.agrees (party x).place c at (party x).address.id (roll_of one.1) (roll_found (party x).address.id c.0.nodes one found) ∙ ap (λ (n : List ℕ). rests_told n log) (called_here one.1.own own_so)) ∙ live_rests journal log world by r live

    awake : (c : Cell × ℕ) → slice_get world.cells (party x).place ≡ Some c → option_map (λ (n : ℕ × NodeState). n.1.is_shut) (find (is_at (party x).address.id) c.0.nodes) ≡ Some false
    awake = awake_still world.cells (world_new journal).cells (party x).place (party x).address.id r.seats
        (subst (λ (at : Address). AwakeAt (world_new journal).cells (party x).place at.id) (two.pair.named x).3 (fresh_awake journal (named journal nodes.is) (party x).name (two.pair.named x).0 (party x).place (two.pair.named x).1 (ap (cell_of (world_new journal)) (two.pair.named x).3 ∙ two.pair.placed x)))

    heard_there : (c : Cell × ℕ) → slice_get world.cells (party x).place ≡ Some c → AnsweredSo verdict_so (hears (party x).address)
    heard_there c at = subst (λ (o : Option ℕ). AnsweredSo verdict_so (elim o as (λ o. Answered) [
      | None ↦ Ok ((verdicts.Nothing, []), world)
      | Some p ↦ cell_hears p (events.Command (party x).address.id by.counter (commands.Send (targets.Process target) message)) world
    ])) (sym cell_at) (subst (λ (o : Option (Cell × ℕ)). AnsweredSo verdict_so (elim o as (λ o. Answered) [
      | None ↦ Ok ((verdicts.Nothing, []), world)
      | Some one ↦ cell_told (party x).place one world (cell_step one.0 (events.Command (party x).address.id by.counter (commands.Send (targets.Process target) message)))
    ])) (sym at) (by_node c at (find (is_at (party x).address.id) c.0.nodes) refl (awake c at)))

    heard : AnsweredSo verdict_so (hears (address_as world.names by.node))
    heard = subst (λ (at : Address). AnsweredSo verdict_so (hears at)) (sym (address_so x by.node two.first)) (heard_there (shown.there x).0 (shown.there x).1)

    pub send_answered : AnsweredAs journal log (lines.Send by (names.Process to) mark body) (line_done (lines.Send by (names.Process to) mark body) world)
    send_answered = by_done (line_done (lines.Send by (names.Process to) mark body) world) heard where
      shows : sent_away (is_short message) (has_room journal log by.node to.node) (is_spent log by to message)
          ≡ cond (not (is_made log by)) verdicts.Unknown (cond (is_over log by || is_doomed log by && true) verdicts.Dead (sent_away (is_short message) (has_room journal log by.node to.node) (is_spent log by to message)))
      shows = ap (answer_or (sent_away (is_short message) (has_room journal log by.node to.node) (is_spent log by to message))) (sym (live_rests journal log world by r live))
          ∙ sym (or_answer log by (sent_away (is_short message) (has_room journal log by.node to.node) (is_spent log by to message)) r.lives.allowed r.unshut)

      by_done : (done : Answered) → AnsweredSo verdict_so done → AnsweredAs journal log (lines.Send by (names.Process to) mark body) done
      by_done (Ok done) e = e ∙ shows ∙ ap (λ (v : Verdict). cond (not (is_made log by)) verdicts.Unknown (cond (is_over log by || is_doomed log by && true) verdicts.Dead v))
          (sym (live_answer journal log by to message away (no_pair_broken log by (names.Process to) stands.kinds) ((bytes_eq-Decides by.node by.node).1 refl) ((bytes_eq-Decides to.node to.node).1 refl)))
      by_done (Err stop) e = tt
