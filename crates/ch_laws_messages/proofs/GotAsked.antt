-- A node makes a process, or does what a process asks of it: nothing changes of what was got from another node.
use Rattle.std.proofs.Common.{◌≡◌, ℕ, ◌+◌, Bool, true, false, ◌&&◌, List, [], ◌∷◌, ◌++◌, map, Ok, Err, refl, sym, ap, ◌∙◌, subst, arith}
use Rattle.std.specs.Prelude.{find, slice_get, Some, Result, ◌==◌}
use Rattle.std.specs.Str.{bytes_eq}
use Rattle.std.proofs.lemmas.Bool.{and_parts}
use Rattle.std.proofs.lemmas.Slice.Eq.{bytes_eq-Decides}
use Rattle.ch_base.specs.declared.address.Address.{Address}
use Rattle.ch_base.specs.declared.event.Room.{Room}
use Rattle.ch_ident.specs.declared.identifier.ProcessId.{ProcessId}
use Rattle.ch_ident.specs.declared.message.Message.{Message}
use Rattle.ch_static.specs.declared.command.Command.{Command}
use Rattle.ch_static.specs.declared.command.Command.TheVariants as commands
use Rattle.ch_static.specs.declared.target.Target.{Target}
use Rattle.ch_static.specs.declared.target.Target.TheVariants as targets
use Rattle.ch_model.specs.declared.act.Act.{Act}
use Rattle.ch_model.specs.declared.act.Act.TheVariants as acts
use Rattle.ch_model.specs.declared.entry.Entry.{Entry}
use Rattle.ch_model.specs.declared.line.Line.{Line}
use Rattle.ch_model.specs.declared.line.What.{What}
use Rattle.ch_model.specs.declared.line.What.TheVariants as lines
use Rattle.ch_model.specs.declared.local.LocalEntry.{LocalEntry}
use Rattle.ch_model.specs.declared.local.LocalEntry.TheVariants as local
use Rattle.ch_model.specs.declared.name.ProcName.{ProcName}
use Rattle.ch_model.specs.declared.name.TargetName.TheVariants as names
use Rattle.ch_model.specs.declared.note.Note.{Note}
use Rattle.ch_model.specs.declared.note.Note.TheVariants as notes
use Rattle.ch_model.specs.declared.step.EndError.{EndError}
use Rattle.ch_model.specs.declared.step.EndError.TheVariants as errors
use Rattle.ch_model.specs.declared.step.Step.{Step}
use Rattle.ch_model.specs.CellSteps.{Followed, after_entries, ◌then◌, is_at, with_node, told_steps, asked, act_on, acts_on}
use Rattle.ch_model.specs.HostCalls.{host_connect, host_send, host_close}
use Rattle.ch_model.specs.HostState.{HostState}
use Rattle.ch_model.specs.Naming.{Names, called, process_as, process_called, target_called}
use Rattle.ch_model.specs.Node.{node_command}
use Rattle.ch_model.specs.NodeIds.{process_id, is_here}
use Rattle.ch_model.specs.NodePairs.{conns_by}
use Rattle.ch_model.specs.NodeState.{NodeState, Arrived, Mark, Unopened, Opened, Broken}
use Rattle.ch_model.specs.Same.{same_process, same_target}
use Rattle.ch_model.specs.WorldHappenings.{with_cell}
use Rattle.ch_model.specs.WorldLines.{command_as}
use Rattle.ch_model.specs.WorldState.{Cell, World}
use Rattle.ch_model.specs.WorldSteps.{all_told}
use Rattle.ch_race.specs.Pair.{Side, other}
use Rattle.ch_laws_bytes.proofs.Told.{told_names}
use Rattle.ch_laws_connections.specs.Arrivals.{made_at}
use Rattle.ch_laws_connections.specs.Fits.{FitsAs}
use Rattle.ch_laws_connections.specs.Senders.{sender_of, Sender}
use Rattle.ch_laws_connections.specs.Tables.{LinksApart}
use Rattle.ch_laws_connections.proofs.Acts.{After, act_fits}
use Rattle.ch_laws_connections.proofs.MadeCalls.{ActQuiet, act_quiet}
use Rattle.ch_laws_ends.proofs.Changes.{told_cells}
use Rattle.ch_laws_lives.specs.Rolls.{LivesOn}
use Rattle.ch_laws_log.proofs.Keys.{node_is}
use Rattle.ch_laws_many.specs.ManyLines.{is_of_many}
use Rattle.ch_laws_plain_nodes.specs.Does.{Makes, sent_acts, pair_between, got_acts}
use Rattle.ch_laws_plain_nodes.specs.Plain.{IsPlain, IsPlainCommand}
use Rattle.ch_laws_plain_nodes.proofs.Commands as plain
use Rattle.ch_laws_race.specs.Scene.{Party}
use Rattle.ch_laws_calls.specs.Turns.{told_on}
use Rattle.ch_laws_peers.specs.Reads.{AllLeadHere, gets_of, read_of, Gets}
use Rattle.ch_laws_messages.proofs.GotMoves.{has_conn}
use Rattle.ch_laws_messages.proofs.GotLiving.{all_lead_here, lives_of}
use Rattle.ch_laws_messages.proofs.GotBounds.{SameGot}
use Rattle.ch_laws_messages.proofs.GotTold.{is_got, NoneGot, got_both, none_told}
use Rattle.ch_laws_messages.proofs.GotWorlds.{node_turn}

-- ---- what acts make of a cell

-- its nodes are as they were, and so are all connections that have arrived
pub record Calms (before after : Cell) : Type 0 where
  pub nodes : after.nodes ≡ before.nodes
  pub created : (e : ℕ) (p : Address) → made_at after.host e p ≡ made_at before.host e p

abbrev AllCalms : Cell → Followed → Type 0
AllCalms before (Ok done) = Calms before done.1
AllCalms before (Err stop) = Unit {0}

acts_calm : (b : Bool) (end : ℕ) (done : List Act) (s : Sender) (cell : Cell) → LinksApart cell.host.links → FitsAs b cell.host end done s → AllCalms cell (acts_on end done cell)
acts_calm b end [] s cell l f = record { nodes = refl; created = λ e p. refl }
acts_calm b end (act ∷ rest) s cell l f = by_first (act_on end act cell) (act_fits b end act rest s cell l f) (act_quiet end act cell l) (λ next m g. acts_calm b end rest s next m g) where
  then_calm : (one : Cell) (entries : List LocalEntry) (r : Followed) → Calms cell one → AllCalms one r → AllCalms cell (after_entries entries r)
  then_calm one entries (Ok more) c d = record { nodes = d.nodes ∙ c.nodes; created = λ e p. d.created e p ∙ c.created e p }
  then_calm one entries (Err stop) c d = tt

  by_first : (r : Followed) → After end cell b rest s r → ActQuiet cell r → ((next : Cell) → LinksApart next.host.links → FitsAs b next.host end rest s → AllCalms next (acts_on end rest next)) → AllCalms cell (r then acts_on end rest)
  by_first (Err stop) a q more = tt
  by_first (Ok one) a q more = then_calm one.1 one.0 (acts_on end rest one.1) (record { nodes = a.0; created = q.made }) (more one.1 (a.1.apart l) a.2)

-- ---- what is told of acts

-- a message that is got here was sent here
abbrev pub IsHome : Note → Type 0
IsHome (notes.Got from to receiver) = (process : ProcessId) × (to ≡ targets.Process process) × (from.node ≡ process.node)
IsHome note = Unit {0}

abbrev pub AreHome : List Act → Type 0
AreHome [] = Unit {0}
AreHome (acts.Note note ∷ rest) = IsHome note × AreHome rest
AreHome (act ∷ rest) = AreHome rest

abbrev pub ToldHome : List LocalEntry → Type 0
ToldHome [] = Unit {0}
ToldHome (local.Note note ∷ rest) = IsHome note × ToldHome rest
ToldHome (local.Step step ∷ rest) = ToldHome rest

pub home_both : (one two : List LocalEntry) → ToldHome one → ToldHome two → ToldHome (one ++ two)
home_both [] two h i = i
home_both (local.Note note ∷ one) two h i = (h.0, home_both one two h.1 i)
home_both (local.Step step ∷ one) two h i = home_both one two h i

pub steps_home : (done : List Step) → ToldHome (told_steps done)
steps_home [] = tt
steps_home (step ∷ rest) = steps_home rest

abbrev pub AllHome : Followed → Type 0
AllHome (Ok done) = ToldHome done.0
AllHome (Err stop) = Unit {0}

pub asked_home : (cell : Cell) (r : Result (List Step × HostState) EndError) → AllHome (asked cell r)
asked_home cell (Ok done) = steps_home done.0
asked_home cell (Err errors.Worn) = tt
asked_home cell (Err errors.OutOfMemory) = tt
asked_home cell (Err errors.NoEndPoint) = tt
asked_home cell (Err errors.NoConnection) = tt
asked_home cell (Err errors.QueueFull) = tt
asked_home cell (Err errors.PayloadLong) = tt
asked_home cell (Err errors.Spent) = tt

pub then_home : (end : ℕ) (rest : List Act) (r : Followed) → AllHome r → ((cell : Cell) → AllHome (acts_on end rest cell)) → AllHome (r then acts_on end rest)
then_home end rest (Err stop) h more = tt
then_home end rest (Ok one) h more = by_rest (acts_on end rest one.1) (more one.1) where
  by_rest : (r : Followed) → AllHome r → AllHome (after_entries one.0 r)
  by_rest (Ok two) i = home_both one.0 two.0 h i
  by_rest (Err stop) i = tt

pub acts_home : (end : ℕ) (done : List Act) (cell : Cell) → AreHome done → AllHome (acts_on end done cell)
acts_home end [] cell h = tt
acts_home end (acts.Note note ∷ rest) cell h = then_home end rest (act_on end (acts.Note note) cell) (h.0, tt) (λ c. acts_home end rest c h.1)
acts_home end (acts.Open conn peer ∷ rest) cell h = then_home end rest (act_on end (acts.Open conn peer) cell) (asked_home cell (host_connect cell.host end peer conn)) (λ c. acts_home end rest c h)
acts_home end (acts.Put conn payload weight ∷ rest) cell h = then_home end rest (act_on end (acts.Put conn payload weight) cell) (asked_home cell (host_send cell.host end conn payload weight)) (λ c. acts_home end rest c h)
acts_home end (acts.Close conn ∷ rest) cell h = then_home end rest (act_on end (acts.Close conn) cell) (asked_home cell (host_close cell.host end conn)) (λ c. acts_home end rest c h)

-- no message of a process of one node to one of another is got so
home_none : (known : Names) (p q : ProcName) (told : List LocalEntry) → (p.node ≡ q.node → ⊥) → ToldHome told → NoneGot known p q told
home_none known p q [] apart h = tt
home_none known p q (local.Step step ∷ rest) apart h = (refl, home_none known p q rest apart h)
home_none known p q (local.Note note ∷ rest) apart h = (by_note note h.0, home_none known p q rest apart h.1) where
  by_got : (from : ProcessId) (to : Target) (process : ProcessId) → to ≡ targets.Process process → from.node ≡ process.node → (b : Bool) → (same_process (process_called known from) p && same_target (target_called known to) (names.Process q)) ≡ b → b ≡ false
  by_got from to process t same false h = refl
  by_got from to process t same true h =
      let parts = and_parts (same_process (process_called known from) p) (same_target (target_called known to) (names.Process q)) h in
      let one = and_parts (bytes_eq (called known from.node) p.node) (from.counter == p.counter) parts.0 in
      let two = and_parts (bytes_eq (called known process.node) q.node) (process.counter == q.counter) (ap (λ (w : Target). same_target (target_called known w) (names.Process q)) (sym t) ∙ parts.1) in
      absurd (apart (sym ((bytes_eq-Decides (called known from.node) p.node).0 one.0) ∙ ap (called known) same ∙ (bytes_eq-Decides (called known process.node) q.node).0 two.0))

  by_note : (note : Note) → IsHome note → is_got known p q (local.Note note) ≡ false
  by_note (notes.Got from to receiver) i = by_got from to i.0 i.1 i.2 (same_process (process_called known from) p && same_target (target_called known to) (names.Process q)) refl
  by_note (notes.Made process origin) i = refl
  by_note (notes.Said by to epoch index message) i = refl
  by_note (notes.Again by to epoch) i = refl
  by_note (notes.Took by port message) i = refl
  by_note (notes.Port port) i = refl
  by_note (notes.Over process reason) i = refl
  by_note (notes.Doom process text) i = refl
  by_note (notes.Watch watch by target kind) i = refl
  by_note (notes.Unwatch watch) i = refl
  by_note (notes.Absent watch) i = refl
  by_note (notes.Told watch reason) i = refl
  by_note (notes.Asked question by at) i = refl
  by_note (notes.Spawned question process) i = refl
  by_note (notes.IsAt question found) i = refl
  by_note (notes.Named node name process) i = refl
  by_note (notes.Shut node) i = refl

pub told_same : (place : ℕ) (cell : Cell) (told : List LocalEntry) (world : World) (log : List Entry) (p q : ProcName) → NoneGot world.names p q told → gets_of p q (log ++ (all_told place cell told world).0) ≡ gets_of p q log
told_same place cell told world log p q n = got_both p q log (all_told place cell told world).0 ∙ no_more (gets_of p q log) (gets_of p q (all_told place cell told world).0) (none_told p q place cell told world n) where
  no_more : (n m : ℕ) → m ≡ 0 → n + m ≡ n
  no_more n m e = omega arith

-- ---- a turn of a node

-- where the cell is calm and what is told was said here
pub calm_turn : (journal : List Line) (log : List Entry) (world : World) (party : Side → Party) (x : Side) (place end k : ℕ) (cell : Cell × ℕ) (node next : NodeState) (done : List Act) (told : List LocalEntry) (after : Cell) → ((party x).name ≡ (party (other x)).name → ⊥) → Gets journal log world party x → slice_get world.cells place ≡ Some cell → find (is_at end) cell.0.nodes ≡ Some (k, node)
    → Calms (with_node end next cell.0) after → ToldHome told → next.arrived ≡ node.arrived → (AllLeadHere node.own node.arrived → LivesOn node done next)
    → let done = told_on place cell after told world in read_of party done.1 x (log ++ done.0) ≡ read_of party world x log → Gets journal (log ++ done.0) done.1 party x
calm_turn journal log world party x place end k cell node next done told after apart g at found calms home same lives read = node_turn journal log (log ++ final.0) world final.1 party x place end k cell (after, cell.1) node next g at (told_cells place after told kept) (told_names place after told kept) (λ p. calms.created (party (other x)).address.id (party (other (other x))).address) found calms.nodes
    (λ p h leads. let l = lives leads in (record { lives = lives_of node next done l; arrived = λ a f from. ap (λ (all : List Arrived). find (has_conn a.conn) all) (sym same) ∙ f }, all_lead_here next.own next.arrived l.reached)) read got where
      kept : World
      kept = with_cell place (after, cell.1) world

      final : List Entry × World
      final = all_told place after told kept

      got : SameGot (party x) (party (other x)) log (log ++ final.0)
      got p q a b = told_same place after told kept log p q (home_none world.names p q told (λ s. apart (sym a ∙ s ∙ b)) home)

-- the acts of a node that fit its host
pub acts_turn : (journal : List Line) (log : List Entry) (world : World) (party : Side → Party) (x : Side) (place end k : ℕ) (cell : Cell × ℕ) (node next : NodeState) (done : List Act) (told : List LocalEntry) (after : Cell) → ((party x).name ≡ (party (other x)).name → ⊥) → Gets journal log world party x → slice_get world.cells place ≡ Some cell → find (is_at end) cell.0.nodes ≡ Some (k, node)
    → LinksApart cell.0.host.links → FitsAs false cell.0.host end done (sender_of next) → AreHome done → next.arrived ≡ node.arrived → (AllLeadHere node.own node.arrived → LivesOn node done next) → acts_on end done (with_node end next cell.0) ≡ Ok (told, after)
    → let done = told_on place cell after told world in read_of party done.1 x (log ++ done.0) ≡ read_of party world x log → Gets journal (log ++ done.0) done.1 party x
acts_turn journal log world party x place end k cell node next done told after apart g at found links fits home same lives e read = calm_turn journal log world party x place end k cell node next done told after apart g at found (subst (AllCalms (with_node end next cell.0)) e (acts_calm false end done (sender_of next) (with_node end next cell.0) links fits)) (subst AllHome e (acts_home end done (with_node end next cell.0) home)) same lives read

-- ---- what is done

pub made_home : (node next : NodeState) (done : List Act) → Makes node done next → AreHome done
made_home node next done m = subst AreHome (sym m.did) (tt, tt)

sent_home : (node : NodeState) (by : ℕ) (to : ProcessId) (said : Message) (mark : Mark) → AreHome (sent_acts node by to said mark)
sent_home node by to said Unopened = tt
sent_home node by to said (Opened conn) = tt
sent_home node by to said Broken = tt

got_home : (b : Bool) (from to : ProcessId) → from.node ≡ to.node → AreHome (got_acts b from to)
got_home true from to e = ((to, refl, e), tt)
got_home false from to e = tt

closes_home : (conns : List ℕ) → AreHome (map (λ conn. acts.Close conn) conns)
closes_home [] = tt
closes_home (conn ∷ rest) = closes_home rest

pub command_home : (node next : NodeState) (by : ℕ) (command : Command) (room : Room) (done : List Act) → IsPlain node → IsPlainCommand command → node_command node by command room ≡ Ok (done, next) → AreHome done
command_home node next by (commands.Send (targets.Process to) said) room done p i e = by_here (is_here node to.node) refl where
  by_here : (b : Bool) → is_here node to.node ≡ b → AreHome done
  by_here true h = let s = plain.does_home node next by to said room done h e in subst AreHome (sym s.did) (tt, got_home s.is_got (process_id node by) to (sym (node_is to.node node.own h)))
  by_here false h = let s = plain.does_away node next by to said room done h e in subst AreHome (sym s.did) (tt, sent_home node by to said (pair_between node by to).mark)
command_home node next by (commands.Receive mark) room done p i e = let t = plain.does_take node next by mark room done p e in subst AreHome (sym t.did) (tt, tt)
command_home node next by commands.End room done p i e = let t = (plain.does_end node next by room done p e).0 in subst AreHome (sym t.did) (tt, closes_home (conns_by node.pairs by))
command_home node next by command room done p i e = absurd i

-- what a line of many nodes asks is plain
pub plain_asked : (known other_names : Names) (what : What) (by : ProcName) (command : Command) → is_of_many known what ≡ true → command_as other_names what ≡ Some (by, command) → IsPlainCommand command
plain_asked known others (lines.Send from (names.Process to) mark body) by command m e = let is : ◌≡◌ {A = ProcName × Command} (from, commands.Send (targets.Process (process_as others to)) (record { mark = mark; body = body })) (by, command) = cc in subst IsPlainCommand (ap (λ (x : ProcName × Command). x.1) is) tt
plain_asked known others (lines.Recv from mark) by command m e = let is : ◌≡◌ {A = ProcName × Command} (from, commands.Receive mark) (by, command) = cc in subst IsPlainCommand (ap (λ (x : ProcName × Command). x.1) is) tt
plain_asked known others (lines.End from) by command m e = let is : ◌≡◌ {A = ProcName × Command} (from, commands.End) (by, command) = cc in subst IsPlainCommand (ap (λ (x : ProcName × Command). x.1) is) tt
plain_asked known others (lines.Send from (names.Port process port) mark body) by command m e = absurd cc
plain_asked known others (lines.Send from (names.Named node name) mark body) by command m e = absurd cc
plain_asked known others (lines.Node name address unique) by command m e = absurd cc
plain_asked known others (lines.Proc node) by command m e = absurd cc
plain_asked known others (lines.Join sock) by command m e = absurd cc
plain_asked known others (lines.Come sock) by command m e = absurd cc
plain_asked known others (lines.Feed sock end count) by command m e = absurd cc
plain_asked known others what by command m e = absurd cc
