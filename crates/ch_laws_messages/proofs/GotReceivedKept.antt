-- What is so of receipts, over links and within nodes, is so after each turn.
use Rattle.std.proofs.Common.{◌≡◌, ◌⊎◌, inl, inr, ℕ, ◌+◌, ◌*◌, Bool, true, false, not, ◌&&◌, ◌||◌, List, [], ◌∷◌, ◌++◌, length, drop, Ok, refl, sym, ap, ◌∙◌, subst}
use Rattle.std.specs.Prelude.{count_by, find, slice_get, slice_set, Some, None, ◌==◌}
use Rattle.std.specs.Str.{bytes_eq}
use Rattle.std.proofs.lemmas.Slice.Eq.{bytes_eq-Decides}
use Rattle.ch_static.specs.declared.target.Target.TheVariants as targets
use Rattle.ch_model.specs.declared.act.Act.{Act}
use Rattle.ch_model.specs.declared.entry.Entry.{Entry}
use Rattle.ch_model.specs.declared.entry.Entry.TheVariants as entries
use Rattle.ch_model.specs.declared.line.Line.{Line}
use Rattle.ch_model.specs.declared.local.LocalEntry.{LocalEntry}
use Rattle.ch_model.specs.declared.local.LocalEntry.TheVariants as local
use Rattle.ch_model.specs.declared.name.End.{End}
use Rattle.ch_model.specs.declared.name.End.TheVariants.{O, T}
use Rattle.ch_model.specs.declared.name.ProcName.{ProcName}
use Rattle.ch_model.specs.declared.name.TargetName.TheVariants as names
use Rattle.ch_model.specs.declared.note.Note.TheVariants as notes
use Rattle.ch_model.specs.declared.step.SocketEvent.TheVariants as sockets
use Rattle.ch_model.specs.declared.step.Step.{Step}
use Rattle.ch_model.specs.declared.step.Step.TheVariants as steps
use Rattle.ch_model.specs.CellSteps.{is_at, with_node, told_steps, acts_on, steps_on, posted}
use Rattle.ch_model.specs.Delivery.{gets_in}
use Rattle.ch_model.specs.Host.{host_next}
use Rattle.ch_model.specs.HostState.{Socket, HostState}
use Rattle.ch_model.specs.Logs.{each_after}
use Rattle.ch_model.specs.Naming.{called, process_called}
use Rattle.ch_model.specs.Node.{node_make, node_event}
use Rattle.ch_model.specs.NodeState.{NodeState}
use Rattle.ch_model.specs.World.{world_new}
use Rattle.ch_model.specs.WorldHappenings.{with_cell}
use Rattle.ch_model.specs.WorldSockets.{opened}
use Rattle.ch_model.specs.WorldState.{Cell, WorldEnd, WorldSocket, World}
use Rattle.ch_model.specs.WorldSteps.{or_first, note_entry, stepped, all_told}
use Rattle.ch_laws_bytes.proofs.Lines.{own_of}
use Rattle.ch_laws_bytes.proofs.Told.{end_names, told_names}
use Rattle.ch_laws_ends.proofs.Changes.{cells_stay, told_cells}
use Rattle.ch_laws_ends.proofs.Places.{set_twice}
use Rattle.ch_laws_items.proofs.Nodes as stays
use Rattle.ch_laws_plain.proofs.AsksTurns.{asks, own_named}
use Rattle.ch_laws_plain_logs.specs.Plain.{IsPlain}
use Rattle.ch_laws_plain_nodes.specs.Does.{Makes}
use Rattle.ch_laws_plain_nodes.proofs.Calls.{makes}
use Rattle.ch_laws_plain_nodes.proofs.Steps.{given_so}
use Rattle.ch_laws_calls.specs.Calls.{with_host, done_at, joined_in, come_in, fed_in, IsCalled}
use Rattle.ch_laws_calls.specs.Turns.{told_on, end_in, KeepsTurns}
use Rattle.ch_laws_messages.specs.MailMail.{waiting_for}
use Rattle.ch_laws_messages.proofs.MailMails.{Changes, AllPut, put_changes}
use Rattle.ch_laws_messages.proofs.MailNodes as mail
use Rattle.ch_laws_messages.proofs.MailWorlds.{set_like}
use Rattle.ch_laws_peers.specs.Reads.{AllGet}
use Rattle.ch_laws_peers.specs.Standing.{IsOfNodes}
use Rattle.ch_laws_messages.specs.WayReadingGoes.{Known, OneRead, ReadingGoes}
use Rattle.ch_laws_messages.specs.GotReadingGoes.{KnownGot}
use Rattle.ch_laws_messages.specs.GotReceived.{gets_the_next_within, AllReceived}
use Rattle.ch_laws_messages.specs.GotSaidWell.{SaidWell}
use Rattle.ch_laws_messages.proofs.GotApart.{IsEven, even_both, note_even, ToldApart, told_even, steps_apart, ActsApart, acts_apart, acts_nodes}
use Rattle.ch_laws_messages.proofs.GotGotsKept.{ended_well}
use Rattle.ch_laws_messages.proofs.GotHomeTurns.{received_on, silent_on, made_turn, asked_turn}
use Rattle.ch_laws_messages.proofs.GotHosts.{has_broke, Calm, ended_does, Brought, NextDoes, next_does}
use Rattle.ch_laws_messages.proofs.GotLists.{clash}
use Rattle.ch_laws_messages.proofs.GotOver.{item_over}
use Rattle.ch_laws_messages.proofs.GotTold.{NoGots, steps_tell, calm_told, brought_told, HeardBy, heard_by, none_broke}
use Rattle.ch_laws_messages.proofs.GotTurn.{ItemGot, item_tells, one_done}
use Rattle.ch_laws_messages.proofs.GotWithin.{NoneBack, none_back_same, none_back_changes, Came, like_came, node_came, all_even, home_on}
use Rattle.ch_laws_messages.proofs.GotWorlds.{names_apart}

pub fresh_received : (journal : List Line) → AllReceived [] (world_new journal)
fresh_received journal = record { home = λ place cell end there i j at found alive. refl; within = refl; over = refl }

no_gots_second : (one two : List Entry) → NoGots (one ++ two) → NoGots two
no_gots_second [] two n = n
no_gots_second (x ∷ one) two n = no_gots_second one two n.1

module _ (journal : List Line) (nodes : IsOfNodes journal) (log : List Entry) (world : World) (k : Known journal log world) (r : AllReceived log world) where
  -- a host is called, once an entry was told and the sockets of the world have changed
  called_keeps : (entry : Entry) (now : World) (place : ℕ) (old cell : Cell × ℕ) (done : List Step) (host : HostState) → NoGots (entry ∷ []) → ((p q : ProcName) → IsEven p q (entry ∷ [])) → now.names ≡ world.names → slice_get world.cells place ≡ Some old → cell.0.nodes ≡ old.0.nodes
      → slice_set now.cells place (with_host cell host, cell.1) ≡ slice_set world.cells place (with_host cell host, cell.1) → let done = done_at place cell done host now in AllReceived (log ++ entry ∷ done.0) done.1
  called_keeps entry now place old cell done host none even names at nodes_same set = silent_on journal nodes log world k r (entry ∷ final.0) final.1 (told_names place (with_host cell host) (told_steps done) mid ∙ names)
      (like_came world final.1 (set_like world final.1 place old (with_host cell host, cell.1) at nodes_same (told_cells place (with_host cell host) (told_steps done) mid ∙ set)))
      (all_even world (entry ∷ final.0) final.1 (λ p q same. even_both p q (entry ∷ []) final.0 (even p q) (told_even place (with_host cell host) (told_steps done) mid (steps_apart mid.names done) p q same)))
      (none.0, steps_tell place (with_host cell host) done mid) where
        mid : World
        mid = with_cell place (with_host cell host, cell.1) now

        final : List Entry × World
        final = all_told place (with_host cell host) (told_steps done) mid

  -- an end is handed the end of its input
  ended_keeps : (socket : WorldSocket) (which : End) (place n : ℕ) (cell : Cell × ℕ) (done : List Step) (host : HostState) (told : List LocalEntry) (after : Cell) → IsCalled world place cell (sockets.Ended n) done host → steps_on done (with_host cell host) ≡ Ok (told, after)
      → let now = told_on place cell after told world in IsPlain (log ++ entries.Fed socket.name which 0 ∷ now.0) → AllReceived (log ++ entries.Fed socket.name which 0 ∷ now.0) now.1
  ended_keeps socket which place n cell done host told after is ran kinds = by_calm (ended_does (own_of journal place) cell.0.host host n done (k.0.all.sound.links.naming place cell is.at).naming (k.0.all.sound.ends.flowing.orderly place cell is.at) is.does) where
    kept : World
    kept = with_cell place (after, cell.1) world

    final : List Entry × World
    final = all_told place after told kept

    entry : Entry
    entry = entries.Fed socket.name which 0

    assoc : (xs ys : List Entry) (z : Entry) → xs ++ z ∷ ys ≡ (xs ++ z ∷ []) ++ ys
    assoc [] ys z = refl
    assoc (w ∷ xs) ys z = ap (λ (l : List Entry). w ∷ l) (assoc xs ys z)

    by_calm : Calm cell.0.host done host ⊎ (has_broke done ≡ true) → AllReceived (log ++ entries.Fed socket.name which 0 ∷ (all_told place after told (with_cell place (after, cell.1) world)).0) (all_told place after told (with_cell place (after, cell.1) world)).1
    by_calm (inr broke) = none_broke place done (with_host cell host) told after after (log ++ entry ∷ []) kept broke ran (subst IsPlain (assoc log final.0 entry) kinds)
    by_calm (inl c) = silent_on journal nodes log world k r (entry ∷ final.0) final.1 (told_names place after told kept) (like_came world final.1 (set_like world final.1 place cell (after, cell.1) is.at (ap (λ (x : Cell). x.nodes) same.0) (told_cells place after told kept)))
        (all_even world (entry ∷ final.0) final.1 (λ p q one. even_both p q (entry ∷ []) final.0 refl (told_even place after told kept (subst (ToldApart world.names) (sym same.1) (steps_apart world.names done)) p q one)))
        (refl, ended_well journal log world socket which place n cell done host told after is ran k kinds) where
          same : (after ≡ with_host cell host) × (told ≡ told_steps done)
          same = calm_told done (with_host cell host) told after c.posted ran

  -- a host reads an item
  module _ (well : SaidWell journal log) (g : AllGet journal log world) (place : ℕ) (cell : Cell × ℕ) (done : List Step) (host : HostState) (told : List LocalEntry) (after : Cell) (at : slice_get world.cells place ≡ Some cell) (ran : steps_on done (with_host cell host) ≡ Ok (told, after))
      (reading : OneRead journal place cell log world (log ++ (told_on place cell after told world).0) (told_on place cell after told world).1) (e : host_next cell.0.host ≡ Ok (Some done, host)) (plain : IsPlain (log ++ (told_on place cell after told world).0))
    where
      abbrev kept : World
      kept = with_cell place (after, cell.1) world

      abbrev final : List Entry × World
      final = told_on place cell after told world

      next : NextDoes cell.0.host done host
      next = next_does (own_of journal place) cell.0.host host done (k.0.all.sound.links.naming place cell at).naming (k.0.all.sound.ends.flowing.orderly place cell at) (k.0.plain.cells place cell at).host e

      like : after ≡ with_host cell host → Came world final.1
      like same = like_came world final.1 (set_like world final.1 place cell (after, cell.1) at (ap (λ (x : Cell). x.nodes) same) (told_cells place after told kept))

      even_told : ToldApart world.names told → (p q : ProcName) → p.node ≡ q.node → IsEven p q final.0
      even_told apart = told_even place after told kept apart

      -- what is brought
      module _ (known : Socket) (b : Brought cell.0.host known done host) where
        heard : (heard : List LocalEntry) × (told ≡ local.Step (steps.Read known.number) ∷ heard) × (posted b.end b.event (with_host cell host) ≡ Ok (heard, after))
        heard = brought_told known.number b.end b.event (with_host cell host) told after (ap (λ (l : List Step). steps_on l (with_host cell host)) (sym b.told_is) ∙ ran)

        module _ (h : HeardBy b.end b.event (with_host cell host) heard.0 after) where
          made_of : mail.EventMail h.there.1 b.event h.acts h.next
          made_of = mail.does_hear h.there.1 ((k.0.plain.cells place cell at).nodes b.end h.there h.found).plain b.event h.next h.acts h.does

          back : mail.EventMail h.there.1 b.event h.acts h.next → NoneBack h.there.1.mail h.next.mail
          back (inl n) = none_back_same h.there.1.mail h.next.mail n.1
          back (inr m) = none_back_changes h.there.1.mail h.next.mail m.to.counter changed.there changed.others where
            changed : Changes h.there.1.mail h.next.mail m.to.counter (waiting_for (slice_get h.there.1.mail m.to.counter) ++ m.said ∷ [])
            changed = let all : AllPut h.there.1.mail m.to.counter m.said (Ok h.next.mail) = subst (AllPut h.there.1.mail m.to.counter m.said) m.put (put_changes h.there.1.mail m.to.counter m.said) in all

          heard_came : Came world final.1
          heard_came = node_came world final.1 place b.end cell (after, cell.1) h.there h.next at (told_cells place after told kept) h.found (acts_nodes b.end h.acts (with_node b.end h.next (with_host cell host)) heard.0 after h.followed)
              (stays.node_after h.there.1 h.next h.acts (node_event h.there.1 b.event) (stays.on_event h.there.1 b.event) h.does).own (back made_of)

          heard_even : NoGots final.0 → mail.EventMail h.there.1 b.event h.acts h.next → (p q : ProcName) → p.node ≡ q.node → IsEven p q final.0
          heard_even none (inl n) = even_told (subst (ToldApart world.names) (sym heard.1) (acts_apart world.names b.end h.acts (with_node b.end h.next (with_host cell host)) heard.0 after (subst (ActsApart world.names) (sym n.0) tt) h.followed))
          heard_even none (inr m) = clash (no_gots_second (stepped place after (steps.Read known.number) kept).0 (got ∷ []) (subst NoGots told_is none)).0 where
            got : Entry
            got = note_entry (stepped place after (steps.Read known.number) kept).1.names (stepped place after (steps.Read known.number) kept).1.last (notes.Got m.from (targets.Process m.to) (Some m.to))

            one : heard.0 ≡ local.Note (notes.Got m.from (targets.Process m.to) (Some m.to)) ∷ []
            one = (one_done b.end (with_node b.end h.next (with_host cell host)) h.acts (notes.Got m.from (targets.Process m.to) (Some m.to)) heard.0 after m.did h.followed).0

            told_is : final.0 ≡ (stepped place after (steps.Read known.number) kept).0 ++ got ∷ []
            told_is = ap (λ (l : List LocalEntry). (all_told place after l kept).0) (heard.1 ∙ ap (λ (l : List LocalEntry). local.Step (steps.Read known.number) ∷ l) one)

        nobody_even : heard.0 ≡ [] → (p q : ProcName) → p.node ≡ q.node → IsEven p q final.0
        nobody_even none = even_told (subst (ToldApart world.names) (sym heard.1) (subst (ToldApart world.names) (sym none) tt))

        by_came : ((find (is_at b.end) cell.0.nodes ≡ None) × (heard.0 ≡ []) × (after ≡ with_host cell host)) ⊎ HeardBy b.end b.event (with_host cell host) heard.0 after → Came world final.1
        by_came (inl n) = like n.2
        by_came (inr h) = heard_came h

        by_even : NoGots final.0 → ((find (is_at b.end) cell.0.nodes ≡ None) × (heard.0 ≡ []) × (after ≡ with_host cell host)) ⊎ HeardBy b.end b.event (with_host cell host) heard.0 after → (p q : ProcName) → p.node ≡ q.node → IsEven p q final.0
        by_even none (inl n) = nobody_even n.1
        by_even none (inr h) = heard_even h none (made_of h)

        brought_came : Came world final.1
        brought_came = by_came (heard_by b.end b.event (with_host cell host) heard.0 after heard.2)

        brought_even : NoGots final.0 → (p q : ProcName) → p.node ≡ q.node → IsEven p q final.0
        brought_even none = by_even none (heard_by b.end b.event (with_host cell host) heard.0 after heard.2)

      item_came : NextDoes cell.0.host done host → Came world final.1
      item_came (inl c) = like (calm_told done (with_host cell host) told after c.0.posted ran).0
      item_came (inr (inl b)) = brought_came b.0 b.2
      item_came (inr (inr broke)) = none_broke place done (with_host cell host) told after after log kept broke ran plain

      item_even : NoGots final.0 → NextDoes cell.0.host done host → (p q : ProcName) → p.node ≡ q.node → IsEven p q final.0
      item_even none (inl c) = even_told (subst (ToldApart world.names) (sym (calm_told done (with_host cell host) told after c.0.posted ran).1) (steps_apart world.names done))
      item_even none (inr (inl b)) = brought_even b.0 b.2 none
      item_even none (inr (inr broke)) = none_broke place done (with_host cell host) told after after log kept broke ran plain

      -- a message of another node
      item_got : ItemGot journal nodes log world k well g place cell done host told after at ran reading → AllReceived (log ++ final.0) final.1
      item_got i = received_on journal nodes log world k r final.0 final.1 (home_on log final.0 world final.1 (told_names place after told kept) (item_came next) (all_even world final.0 final.1 even) r.home) (ap (each_after gets_the_next_within log) i.told_is ∙ within) (item_over journal nodes log world k well g place cell done host told after at ran reading i) where
        apart : called world.names i.from.node ≡ called world.names i.to.node → ⊥
        apart same = names_apart i.party world (k.0.each_pair.shown i.party i.pair) i.x (sym i.so.pair.from_node ∙ same ∙ i.so.pair.to_node)

        even : (p q : ProcName) → p.node ≡ q.node → IsEven p q final.0
        even p q same = subst (IsEven p q) (sym i.told_is) (note_even world.names i.word (notes.Got i.from (targets.Process i.to) (Some i.to)) apart p q same)

        differ : (b : Bool) → bytes_eq (called world.names i.from.node) (called world.names i.to.node) ≡ b → b ≡ false
        differ false h = refl
        differ true h = absurd (apart ((bytes_eq-Decides (called world.names i.from.node) (called world.names i.to.node)).0 h))

        passes : (b c : Bool) → b ≡ false → ((not b || c) && true) ≡ true
        passes false c e = refl
        passes true c e = absurd cc

        within : each_after gets_the_next_within log (entries.Got (process_called world.names i.from) (names.Process (process_called world.names i.to)) (or_first i.word).epoch (or_first i.word).index (Some (process_called world.names i.to)) ∷ []) ≡ true
        within = passes (bytes_eq (called world.names i.from.node) (called world.names i.to.node)) (count_by (gets_in (process_called world.names i.from) (names.Process (process_called world.names i.to)) (or_first i.word).epoch) log == (or_first i.word).index)
            (differ (bytes_eq (called world.names i.from.node) (called world.names i.to.node)) refl)

      pub item_keeps : AllReceived (log ++ final.0) final.1
      item_keeps = by_told (item_tells journal nodes log world k well g place cell done host told after at ran reading e plain) where
        by_told : NoGots final.0 ⊎ ItemGot journal nodes log world k well g place cell done host told after at ran reading → AllReceived (log ++ final.0) final.1
        by_told (inl n) = silent_on journal nodes log world k r final.0 final.1 (told_names place after told kept) (item_came next) (all_even world final.0 final.1 (item_even n next)) n
        by_told (inr i) = item_got i

  -- a node makes a process
  made_keeps : (place : ℕ) (cell : Cell × ℕ) (end number : ℕ) (node : NodeState) (done : List Act) (next : NodeState) (told : List LocalEntry) (after : Cell) → slice_get world.cells place ≡ Some cell → find (is_at end) cell.0.nodes ≡ Some (number, node) → node_make node ≡ Ok (done, next) → acts_on end done (with_node end next cell.0) ≡ Ok (told, after)
      → let now = told_on place cell after told world in AllReceived (log ++ now.0) now.1
  made_keeps place cell end number node done next told after at found e ran = made_turn journal nodes log world k r place end number cell node at found done next told after ran e
      (given_so (Makes node) (node_make node) done next (makes node ((k.0.plain.cells place cell at).nodes end (number, node) found).plain) e).did

pub received_kept : (journal : List Line) → IsOfNodes journal → ReadingGoes journal → KeepsTurns journal (KnownGot journal) (KnownGot journal) AllReceived
received_kept journal nodes reading = record {
  marked = λ log world number what answer line many p r q. silent_on journal nodes log world p.0.0 r (entries.Line number answer ∷ []) world refl (like_came world world (λ q c f. (c, f, refl))) (all_even world (entries.Line number answer ∷ []) world (λ a b same. refl)) (refl, tt);
  made = λ log world place cell end number node done next told after at found e ran p r q. made_keeps journal nodes log world p.0.0 r place cell end number node done next told after at found e ran;
  asked = λ log world what by command place cell number node done next told after asked at found e ran p r q. asked_turn journal nodes log world p.0.0 r place (end_in world by) number cell node at found done next told after ran by command _ e
      ((p.0.0.0.plain.cells place cell at).nodes (end_in world by) (number, node) found).plain
      (asks journal log world p.0.0.0.all.sound p.0.0.0.plain place cell at (p.0.0.0.meets place cell at).0 nodes.addresses what by command asked)
      (own_named journal log world p.0.0.0.all.sound p.0.0.0.plain place cell at (p.0.0.0.meets place cell at).0 nodes.addresses what by command asked number node found) q.0.0.0.kinds q.0.1;
  joined = λ log world socket place n cell done host is may held call all p r q. called_keeps journal nodes log world p.0.0 r (entries.Joined socket.name) (joined_in socket world) place cell cell done host (refl, tt) (λ a b. refl) (end_names socket.name O opened world) call.at refl
      (ap (λ (l : List (Cell × ℕ)). slice_set l place (with_host cell host, cell.1)) (cells_stay socket.name O opened world));
  came = λ log world socket place cell done host is may held call all p r q. called_keeps journal nodes log world p.0.0 r (entries.Came socket.name) (come_in place cell socket world) place cell (cell.0, cell.1 + 1) done host (refl, tt) (λ a b. refl)
      (end_names socket.name T (λ (end : WorldEnd). record (opened end) { number = Some (2 * cell.1 + 1) }) (with_cell place (cell.0, cell.1 + 1) world)) call.at refl
      (ap (λ (l : List (Cell × ℕ)). slice_set l place (with_host cell host, cell.1 + 1)) (cells_stay socket.name T (λ (end : WorldEnd). record (opened end) { number = Some (2 * cell.1 + 1) }) (with_cell place (cell.0, cell.1 + 1) world))
      ∙ set_twice world.cells place (cell.0, cell.1 + 1) (with_host cell host, cell.1 + 1));
  fed = λ log world socket which count b bytes place n cell done host is may taken held call all p r q. called_keeps journal nodes log world p.0.0 r (entries.Fed socket.name which (length (b ∷ bytes))) (fed_in which count socket world) place cell cell done host (refl, tt) (λ a c. refl)
      (end_names socket.name which (λ (end : WorldEnd). record end { unread = drop count end.unread }) world) call.at refl
      (ap (λ (l : List (Cell × ℕ)). slice_set l place (with_host cell host, cell.1)) (cells_stay socket.name which (λ (end : WorldEnd). record end { unread = drop count end.unread }) world));
  ended = λ log world socket which place n cell done host told after is may none held call ran all p r q. ended_keeps journal nodes log world p.0.0 r socket which place n cell done host told after call ran q.0.0.0.kinds;
  item = λ log world place cell done host told after at e ran p r q. item_keeps journal nodes log world p.0.0 r p.0.1 p.1 place cell done host told after at ran (reading.item log world place cell done host told after at e ran p.0.0 q.0.0) e q.0.0.0.kinds;
}
