-- Each turn keeps that messages between nodes are got by the bytes that were fed last, and in the order in which they were written.
use Rattle.std.proofs.Common.{◌≡◌, ◌⊎◌, inl, inr, ℕ, Bool, true, false, ◌||◌, List, [], ◌∷◌, ◌++◌, Ok, refl, sym, ap, ◌∙◌, subst, append_assoc}
use Rattle.std.proofs.lemmas.Bool.{or_parts}
use Rattle.std.proofs.lemmas.List.{append-nil}
use Rattle.std.proofs.lemmas.List.Folds.{list_any-append}
use Rattle.std.proofs.lemmas.Slice.Eq.{bytes_eq-Decides}
use Rattle.std.specs.List.{list_any, list_all}
use Rattle.std.specs.Prelude.{find, slice_get, position, Option, Some}
use Rattle.std.specs.Str.{bytes_eq}
use Rattle.ch_static.specs.declared.command.Command.{Command}
use Rattle.ch_model.specs.declared.act.Act.{Act}
use Rattle.ch_model.specs.declared.entry.Entry.{Entry}
use Rattle.ch_model.specs.declared.entry.Entry.TheVariants as entries
use Rattle.ch_model.specs.declared.line.Line.{Line}
use Rattle.ch_model.specs.declared.line.What.{What}
use Rattle.ch_model.specs.declared.local.LocalEntry.{LocalEntry}
use Rattle.ch_model.specs.declared.local.LocalEntry.TheVariants as local
use Rattle.ch_model.specs.declared.name.ProcName.{ProcName}
use Rattle.ch_model.specs.declared.name.TargetName.{TargetName}
use Rattle.ch_model.specs.declared.step.SocketEvent.TheVariants as sockets
use Rattle.ch_model.specs.declared.step.Step.{Step}
use Rattle.ch_model.specs.AccountsFrames.{Saying, is_saying, carried, written_sayings}
use Rattle.ch_model.specs.AccountsMessages.{feeding, arrived, gets_by_bytes, got_before, gets_in_order_written}
use Rattle.ch_model.specs.Cell.{room_for}
use Rattle.ch_model.specs.CellSteps.{is_at, with_node, acts_on, steps_on}
use Rattle.ch_model.specs.Host.{host_next}
use Rattle.ch_model.specs.HostState.{HostState}
use Rattle.ch_model.specs.Logs.{each_after, some_and, none_or, last_of}
use Rattle.ch_model.specs.Node.{node_make, node_command, target_node}
use Rattle.ch_model.specs.NodeState.{NodeState}
use Rattle.ch_model.specs.Same.{node_of}
use Rattle.ch_model.specs.World.{names_of, world_new}
use Rattle.ch_model.specs.WorldHappenings.{with_cell}
use Rattle.ch_model.specs.WorldState.{Cell, World}
use Rattle.ch_model.specs.WorldSteps.{noted, stepped, all_told}
use Rattle.ch_laws_log.proofs.Blocks.{each_append}
use Rattle.ch_laws_bytes.proofs.Lines.{own_of}
use Rattle.ch_laws_calls.specs.Calls.{with_host, IsCalled}
use Rattle.ch_laws_risen.proofs.Logs.{is_feeding}
use Rattle.ch_laws_risen.proofs.Told.{step_unfed}
use Rattle.ch_laws_calls.specs.Turns.{told_on, IsAsked, end_in, KeepsTurns}
use Rattle.ch_laws_plain_logs.specs.Plain.{IsPlain}
use Rattle.ch_laws_plain_nodes.specs.Does.{Makes}
use Rattle.ch_laws_plain_nodes.specs.Plain.{IsPlain as IsPlainNode}
use Rattle.ch_laws_plain_nodes.proofs.Calls.{makes}
use Rattle.ch_laws_plain_nodes.proofs.Steps.{given_so}
use Rattle.ch_laws_peers.specs.Standing.{IsOfNodes, Standing}
use Rattle.ch_laws_messages.proofs.GotAsked.{command_home, plain_asked, made_home}
use Rattle.ch_laws_messages.proofs.GotHosts.{has_broke, Calm, ended_does}
use Rattle.ch_laws_messages.specs.WayReadingGoes.{OneRead, ReadingGoes}
use Rattle.ch_laws_messages.specs.GotReadingGoes.{KnownGot}
use Rattle.ch_laws_messages.proofs.GotTurn.{ItemGot, item_tells}
use Rattle.ch_laws_messages.proofs.GotTold.{is_receipt, NoGots, steps_tell, calm_told, none_broke}
use Rattle.ch_laws_messages.specs.ArrivedGets.{is_got, GetsCarried, GetsNexts, Arrives, AreGotSo}
use Rattle.ch_laws_messages.proofs.ArrivedBytes.{got_there}
use Rattle.ch_laws_messages.proofs.ArrivedEnding.{collected_grows}
use Rattle.ch_laws_messages.proofs.ArrivedHome.{GetsWithin, AllWithin, none_within_gots, acts_within}
use Rattle.ch_laws_messages.proofs.ArrivedOrder.{ordered_there}
use Rattle.ch_laws_messages.proofs.ArrivedWithin.{none_within, no_front}
use Rattle.ch_laws_messages.proofs.ArrivedKept.{both, note_unfed}

-- ---- what is told passes a test

-- each entry does, after what is told before it
pub all_pass : (test : List Entry → Entry → Bool) (log told : List Entry) → ((before behind : List Entry) (entry : Entry) → before ++ entry ∷ behind ≡ told → test (log ++ before) entry ≡ true) → each_after test log told ≡ true
all_pass test log [] each = refl
all_pass test log (entry ∷ told) each = both (test log entry) (each_after test (log ++ entry ∷ []) told) (subst (λ (l : List Entry). test l entry ≡ true) (append-nil log) (each [] told entry refl))
    (all_pass test (log ++ entry ∷ []) told (λ before behind z is. subst (λ (l : List Entry). test l z ≡ true) (sym (append_assoc log (entry ∷ []) before)) (each (entry ∷ before) behind z (ap (λ (l : List Entry). entry ∷ l) is))))

-- ---- within a node

within_at : (before behind : List Entry) (entry : Entry) → AllWithin (before ++ entry ∷ behind) → GetsWithin entry
within_at [] behind entry a = a.0
within_at (x ∷ before) behind entry a = within_at before behind entry a.1

bytes_within : (journal : List Line) (log : List Entry) (entry : Entry) → GetsWithin entry → gets_by_bytes journal log entry ≡ true
bytes_within journal log (entries.Got by to epoch index receiver) same = ap (λ b. b || some_and (λ f. list_any (is_saying by to epoch index) (arrived journal log f)) (last_of feeding log)) ((bytes_eq-Decides by.node (node_of to)).1 same)
bytes_within journal log entry same = refl

order_within : (journal : List Line) (log : List Entry) (entry : Entry) → ((x : List ℕ) → written_sayings journal log x x ≡ []) → GetsWithin entry → gets_in_order_written journal log entry ≡ true
order_within journal log (entries.Got by to epoch index receiver) none same = ap (λ (l : List Saying). none_or (λ place. list_all (got_before l place by.node (node_of to)) log) (position (is_saying by to epoch index) l)) (ap (written_sayings journal log by.node) (sym same) ∙ none by.node)
order_within journal log entry none same = refl

-- nothing was written within a node before what is told behind
none_before : (journal : List Line) (log told before behind : List Entry) (entry : Entry) (after : World) → Standing journal (log ++ told) after → before ++ entry ∷ behind ≡ told → (x : List ℕ) → written_sayings journal (log ++ before) x x ≡ []
none_before journal log told before behind entry after st is x = no_front (written_sayings journal (log ++ before) x x) grows.0 (sym grows.1 ∙ ap (λ (l : List Entry). written_sayings journal l x x) (append_assoc log before (entry ∷ behind) ∙ ap (λ (l : List Entry). log ++ l) is) ∙ none_within journal (log ++ told) after st x) where
  grows : (more : List Saying) × (written_sayings journal ((log ++ before) ++ entry ∷ behind) x x ≡ written_sayings journal (log ++ before) x x ++ more)
  grows = collected_grows (carried journal x x) (log ++ before) (entry ∷ behind)

-- what is got within nodes alone is got so
within_so : (journal : List Line) (log told : List Entry) (world after : World) → Standing journal (log ++ told) after → AllWithin told → AreGotSo journal log world → AreGotSo journal (log ++ told) after
within_so journal log told world after st all j = record {
  by_bytes = each_append (gets_by_bytes journal) [] log told j.by_bytes (all_pass (gets_by_bytes journal) log told (λ before behind entry is. bytes_within journal (log ++ before) entry (within_at before behind entry (subst AllWithin (sym is) all))));
  in_order = each_append (gets_in_order_written journal) [] log told j.in_order
      (all_pass (gets_in_order_written journal) log told (λ before behind entry is. order_within journal (log ++ before) entry (none_before journal log told before behind entry after st is) (within_at before behind entry (subst AllWithin (sym is) all))));
}

-- ---- a turn in which a host reads an item

told_unfed : (place : ℕ) (cell : Cell) (told : List LocalEntry) (world : World) → list_any is_feeding (all_told place cell told world).0 ≡ false
told_unfed place cell [] world = refl
told_unfed place cell (local.Note note ∷ rest) world = ap (λ b. b || list_any is_feeding (all_told place cell rest (noted note world).1).0) (note_unfed world.names world.last note) ∙ told_unfed place cell rest (noted note world).1
told_unfed place cell (local.Step step ∷ rest) world = list_any-append is_feeding (stepped place cell step world).0 (all_told place cell rest (stepped place cell step world).1).0
    ∙ ap (λ b. b || list_any is_feeding (all_told place cell rest (stepped place cell step world).1).0) (step_unfed place cell step world) ∙ told_unfed place cell rest (stepped place cell step world).1

front_unfed : (before behind told : List Entry) → before ++ behind ≡ told → list_any is_feeding told ≡ false → list_any is_feeding before ≡ false
front_unfed before behind told is quiet = (or_parts (list_any is_feeding before) (list_any is_feeding behind) (sym (list_any-append is_feeding before behind) ∙ ap (list_any is_feeding) is ∙ quiet)).0

or_true : (a b : Bool) → b ≡ true → (a || b) ≡ true
or_true true b h = refl
or_true false b h = h

-- nothing is told to be got, or one entry alone is told
abbrev pub IsAlone : List Entry → Type 0
IsAlone told = NoGots told ⊎ ((entry : Entry) × (told ≡ entry ∷ []))

receipt_got : (entry : Entry) → is_got entry ≡ true → is_receipt entry ≡ false → ⊥
receipt_got (entries.Got by to epoch index receiver) h n = absurd cc
receipt_got entry h n = absurd cc

no_more : (front behind : List Entry) (entry : Entry) → front ++ entry ∷ behind ≡ [] → ⊥
no_more [] behind entry e = absurd cc
no_more (y ∷ front) behind entry e = absurd cc

-- so nothing was got before
none_before_it : (before behind : List Entry) (entry : Entry) (told : List Entry) → before ++ entry ∷ behind ≡ told → is_got entry ≡ true → IsAlone told → list_any is_got before ≡ false
none_before_it before behind entry told is got (inl none) = absurd (there before (subst NoGots (sym is) none)) where
  there : (front : List Entry) → NoGots (front ++ entry ∷ behind) → ⊥
  there [] n = receipt_got entry got n.0
  there (y ∷ front) n = there front n.1
none_before_it [] behind entry told is got (inr one) = refl
none_before_it (y ∷ front) behind entry told is got (inr one) = absurd (no_more front behind entry (ap rest (is ∙ one.1))) where
  rest : List Entry → List Entry
  rest [] = []
  rest (z ∷ zs) = zs

item_so : (journal : List Line) → IsOfNodes journal → (log told : List Entry) (world after : World) (cell : Cell × ℕ) → Arrives journal log world → Standing journal (log ++ told) after → list_any is_feeding told ≡ false
    → ((before behind : List Entry) (by : ProcName) (to : TargetName) (epoch index : ℕ) (receiver : Option ProcName) → before ++ entries.Got by to epoch index receiver ∷ behind ≡ told → bytes_eq by.node (node_of to) ≡ false → GetsCarried journal log world cell by to epoch index) → IsAlone told → AreGotSo journal log world → AreGotSo journal (log ++ told) after
item_so journal nodes log told world after cell p st quiet nexts alone j = record {
  by_bytes = each_append (gets_by_bytes journal) [] log told j.by_bytes (all_pass (gets_by_bytes journal) log told bytes);
  in_order = each_append (gets_in_order_written journal) [] log told j.in_order (all_pass (gets_in_order_written journal) log told order);
} where
  bytes : (before behind : List Entry) (entry : Entry) → before ++ entry ∷ behind ≡ told → gets_by_bytes journal (log ++ before) entry ≡ true
  bytes before behind (entries.Got by to epoch index receiver) is = by_test (bytes_eq by.node (node_of to)) refl where
    by_test : (b : Bool) → bytes_eq by.node (node_of to) ≡ b → (bytes_eq by.node (node_of to) || some_and (λ f. list_any (is_saying by to epoch index) (arrived journal (log ++ before) f)) (last_of feeding (log ++ before))) ≡ true
    by_test true h = ap (λ b. b || some_and (λ f. list_any (is_saying by to epoch index) (arrived journal (log ++ before) f)) (last_of feeding (log ++ before))) h
    by_test false h = let g = nexts before behind by to epoch index receiver is h in
        or_true (bytes_eq by.node (node_of to)) (some_and (λ f. list_any (is_saying by to epoch index) (arrived journal (log ++ before) f)) (last_of feeding (log ++ before)))
        (got_there journal log world g.party g.x cell by to epoch index (record { nodes = nodes; pair = g.pair; standing = p.known.0.0.0; says = p.known.0.0.1.0 g.party g.pair g.x; comes = p.known.0.0.1.1 g.party g.pair g.x; gets = g.next }) p.last (p.written g.party g.pair g.x) before (front_unfed before (entries.Got by to epoch index receiver ∷ behind) told is quiet))
  bytes before behind entry is = refl

  order : (before behind : List Entry) (entry : Entry) → before ++ entry ∷ behind ≡ told → gets_in_order_written journal (log ++ before) entry ≡ true
  order before behind (entries.Got by to epoch index receiver) is = by_test (bytes_eq by.node (node_of to)) refl where
    by_test : (b : Bool) → bytes_eq by.node (node_of to) ≡ b → gets_in_order_written journal (log ++ before) (entries.Got by to epoch index receiver) ≡ true
    by_test true h = order_within journal (log ++ before) (entries.Got by to epoch index receiver) (none_before journal log told before behind (entries.Got by to epoch index receiver) after st is) ((bytes_eq-Decides by.node (node_of to)).0 h)
    by_test false h = let g = nexts before behind by to epoch index receiver is h in
        ordered_there journal log world g.party g.x cell by to epoch index receiver (p.written g.party g.pair g.x) (p.below g.party g.pair g.x) p.known.0.1.numbered.indexes g.next g.from g.goes before (none_before_it before behind (entries.Got by to epoch index receiver) told is refl alone)
  order before behind entry is = refl

-- ---- the other turns

ended_within : (journal : List Line) (log : List Entry) (world : World) (x : Entry) (place n : ℕ) (cell : Cell × ℕ) (steps : List Step) (host : HostState) (told : List LocalEntry) (after : Cell) → IsCalled world place cell (sockets.Ended n) steps host → steps_on steps (with_host cell host) ≡ Ok (told, after) → Standing journal log world
    → IsPlain (log ++ x ∷ (told_on place cell after told world).0) → NoGots (told_on place cell after told world).0
ended_within journal log world x place n cell steps host told after is ran st kinds = by_calm (ended_does (own_of journal place) cell.0.host host n steps (st.all.sound.links.naming place cell is.at).naming (st.all.sound.ends.flowing.orderly place cell is.at) is.does) where
  by_calm : Calm cell.0.host steps host ⊎ (has_broke steps ≡ true) → NoGots (told_on place cell after told world).0
  by_calm (inr broke) = none_broke place steps (with_host cell host) told after after (log ++ x ∷ []) (with_cell place (after, cell.1) world) broke ran (subst IsPlain (sym (append_assoc log (x ∷ []) (told_on place cell after told world).0)) kinds)
  by_calm (inl c) = subst (λ (t : List LocalEntry). NoGots (all_told place after t (with_cell place (after, cell.1) world)).0) (sym (calm_told steps (with_host cell host) told after c.posted ran).1) (steps_tell place after steps (with_cell place (after, cell.1) world))

made_within : (journal : List Line) (log : List Entry) (world : World) (place : ℕ) (cell : Cell × ℕ) (end number : ℕ) (node : NodeState) (done : List Act) (next : NodeState) (told : List LocalEntry) (after : Cell) → slice_get world.cells place ≡ Some cell → find (is_at end) cell.0.nodes ≡ Some (number, node) → node_make node ≡ Ok (done, next) → acts_on end done (with_node end next cell.0) ≡ Ok (told, after) → Standing journal log world
    → AllWithin (told_on place cell after told world).0
made_within journal log world place cell end number node done next told after at found e ran st = acts_within place end done (with_node end next cell.0) told after after (with_cell place (after, cell.1) world) (made_home node next done made) ran where
  made : Makes node done next
  made = given_so (Makes node) (node_make node) done next (makes node ((st.plain.cells place cell at).nodes end (number, node) found).plain) e

asked_within : (journal : List Line) (log : List Entry) (world : World) (what : What) (by : ProcName) (command : Command) (place : ℕ) (cell : Cell × ℕ) (number : ℕ) (node : NodeState) (done : List Act) (next : NodeState) (told : List LocalEntry) (after : Cell) → IsAsked journal world what by command place → slice_get world.cells place ≡ Some cell → find (is_at (end_in world by)) cell.0.nodes ≡ Some (number, node)
    → node_command node by.counter command (room_for cell.0.host (end_in world by) node.own (target_node node by.counter command)) ≡ Ok (done, next) → acts_on (end_in world by) done (with_node (end_in world by) next cell.0) ≡ Ok (told, after) → Standing journal log world → AllWithin (told_on place cell after told world).0
asked_within journal log world what by command place cell number node done next told after asks at found e ran st = acts_within place (end_in world by) done (with_node (end_in world by) next cell.0) told after after (with_cell place (after, cell.1) world)
    (command_home node next by.counter command (room_for cell.0.host (end_in world by) node.own (target_node node by.counter command)) done its_plain (plain_asked (names_of journal) world.names what by command asks.of asks.asks) e) ran
  where
    its_plain : IsPlainNode node
    its_plain = ((st.plain.cells place cell at).nodes (end_in world by) (number, node) found).plain

-- ---- all turns

-- where what is got is so, and reading goes on
pub got_so_kept : (journal : List Line) → IsOfNodes journal → ReadingGoes journal → GetsNexts journal (KnownGot journal) (KnownGot journal) → KeepsTurns journal (Arrives journal) (KnownGot journal) (AreGotSo journal)
got_so_kept journal nodes reading nexts = record {
  marked = λ log world number what answer line many p j q. within_so journal log _ world world q.0.0.0 (tt, tt) j;
  made = λ log world place cell end number node done next told after at found e ran p j q. within_so journal log _ world _ q.0.0.0 (made_within journal log world place cell end number node done next told after at found e ran p.known.0.0.0) j;
  asked = λ log world what by command place cell number node done next told after asks at found e ran p j q. within_so journal log _ world _ q.0.0.0 (asked_within journal log world what by command place cell number node done next told after asks at found e ran p.known.0.0.0) j;
  joined = λ log world socket place n cell steps host is may held call all p j q. within_so journal log _ world _ q.0.0.0 (tt, none_within_gots _ (steps_tell place (with_host cell host) steps _)) j;
  came = λ log world socket place cell steps host is may held call all p j q. within_so journal log _ world _ q.0.0.0 (tt, none_within_gots _ (steps_tell place (with_host cell host) steps _)) j;
  fed = λ log world socket which count b bytes place n cell steps host is may taken held call all p j q. within_so journal log _ world _ q.0.0.0 (tt, none_within_gots _ (steps_tell place (with_host cell host) steps _)) j;
  ended = λ log world socket which place n cell steps host told after is may none held call ran all p j q. within_so journal log _ world _ q.0.0.0 (tt, none_within_gots _ (ended_within journal log world (entries.Fed socket.name which 0) place n cell steps host told after call ran p.known.0.0.0 q.0.0.0.kinds)) j;
  item = λ log world place cell steps host told after at e ran p j q. item_so journal nodes log (told_on place cell after told world).0 world (told_on place cell after told world).1 cell p q.0.0.0 (told_unfed place after told (with_cell place (after, cell.1) world)) (nexts.item log world place cell steps host told after at e ran p.known q)
      (is_alone journal nodes log world p.known place cell steps host told after at ran (reading.item log world place cell steps host told after at e ran p.known.0.0 q.0.0) e q.0.0.0.kinds) j;
} where
  is_alone : (journal : List Line) (nodes : IsOfNodes journal) (log : List Entry) (world : World) → KnownGot journal log world → (place : ℕ) (cell : Cell × ℕ) (done : List Step) (host : HostState) (told : List LocalEntry) (after : Cell) → slice_get world.cells place ≡ Some cell → steps_on done (with_host cell host) ≡ Ok (told, after)
      → OneRead journal place cell log world (log ++ (told_on place cell after told world).0) (told_on place cell after told world).1 → host_next cell.0.host ≡ Ok (Some done, host) → IsPlain (log ++ (told_on place cell after told world).0) → IsAlone (told_on place cell after told world).0
  is_alone journal nodes log world k place cell done host told after at ran reads e plain = by_told (item_tells journal nodes log world k.0.0 k.0.1 k.1 place cell done host told after at ran reads e plain) where
    by_told : NoGots (told_on place cell after told world).0 ⊎ ItemGot journal nodes log world k.0.0 k.0.1 k.1 place cell done host told after at ran reads → IsAlone (told_on place cell after told world).0
    by_told (inl n) = inl n
    by_told (inr i) = inr (_, i.told_is)

pub fresh_so : (journal : List Line) → AreGotSo journal [] (world_new journal)
fresh_so journal = record { by_bytes = refl; in_order = refl }
