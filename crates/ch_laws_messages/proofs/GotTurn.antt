-- The turn in which a host reads an item: for each two nodes, which of them reads, and what was got then.
use Rattle.std.proofs.Common.{◌≡◌, ◌⊎◌, inl, inr, ◌≤◌, ◌<◌, ℕ, zero, suc, ◌+◌, Bool, true, false, cond, ◌&&◌, List, [], ◌∷◌, ◌++◌, length, take, Ok, refl, sym, ap, ◌∙◌, subst, arith}
use Rattle.std.specs.Prelude.{find, slice_get, slice_set, Option, Some, None, ◌==◌}
use Rattle.std.specs.List.{list_all}
use Rattle.std.specs.Str.{bytes_eq}
use Rattle.std.proofs.lemmas.Bool.{and_parts}
use Rattle.std.proofs.lemmas.Slice.Eq.{bytes_eq-Decides}
use Rattle.ch_base.specs.declared.address.Address.{Address}
use Rattle.ch_base.specs.declared.event.Event.{Event}
use Rattle.ch_ident.specs.declared.identifier.ProcessId.{ProcessId}
use Rattle.ch_light.specs.declared.Connection.{Connection}
use Rattle.ch_light.specs.declared.TheConstants.{FIRST_ID}
use Rattle.ch_light.specs.Ids.{opened, conn_of}
use Rattle.ch_link.specs.declared.LinkState.TheVariants as states
use Rattle.ch_reader.specs.declared.item.Front.TheVariants.{Whole}
use Rattle.ch_reader.specs.declared.item.Item.TheVariants as items
use Rattle.ch_static.specs.declared.target.Target.TheVariants as targets
use Rattle.ch_watch.specs.Same.{same_node}
use Rattle.ch_wire.specs.declared.frame.Frame.{Frame}
use Rattle.ch_wire.specs.declared.frame.Frame.TheVariants as frames
use Rattle.ch_model.specs.declared.act.Act.{Act}
use Rattle.ch_model.specs.declared.act.Act.TheVariants as acts
use Rattle.ch_model.specs.declared.entry.Entry.{Entry}
use Rattle.ch_model.specs.declared.entry.Entry.TheVariants as entries
use Rattle.ch_model.specs.declared.line.Line.{Line}
use Rattle.ch_model.specs.declared.local.LocalEntry.{LocalEntry}
use Rattle.ch_model.specs.declared.local.LocalEntry.TheVariants as local
use Rattle.ch_model.specs.declared.name.End.{End}
use Rattle.ch_model.specs.declared.name.ProcName.{ProcName}
use Rattle.ch_model.specs.declared.name.SockName.{SockName}
use Rattle.ch_model.specs.declared.name.TargetName.{TargetName}
use Rattle.ch_model.specs.declared.name.TargetName.TheVariants as names
use Rattle.ch_model.specs.declared.note.Note.{Note}
use Rattle.ch_model.specs.declared.note.Note.TheVariants as notes
use Rattle.ch_model.specs.declared.step.Place.{Place}
use Rattle.ch_model.specs.declared.step.Step.{Step}
use Rattle.ch_model.specs.declared.step.Step.TheVariants as steps
use Rattle.ch_model.specs.AccountsItems.{data_of, first_payload}
use Rattle.ch_model.specs.CellSteps.{Followed, is_at, store_node, with_node, told_steps, acts_on, steps_on, posted}
use Rattle.ch_model.specs.Epochs.{epoch_of, is_said_in_epoch}
use Rattle.ch_model.specs.Logs.{each_after}
use Rattle.ch_model.specs.Host.{front_of, first_ready, host_next}
use Rattle.ch_model.specs.HostItems.{next_arrival}
use Rattle.ch_model.specs.HostState.{Link, Socket, HostState}
use Rattle.ch_model.specs.HostSteps.{link_with, is_socket}
use Rattle.ch_model.specs.Naming.{Names, process_called}
use Rattle.ch_model.specs.Node.{node_event}
use Rattle.ch_model.specs.NodeState.{NodeState}
use Rattle.ch_model.specs.Same.{same_process, same_target}
use Rattle.ch_model.specs.WorldHappenings.{with_cell}
use Rattle.ch_model.specs.World.{world_new}
use Rattle.ch_model.specs.WorldSockets.{find_end, cell_of}
use Rattle.ch_model.specs.WorldState.{Cell, World}
use Rattle.ch_model.specs.WorldSteps.{or_first, note_entry, reads_item, local_told, all_told}
use Rattle.ch_race.specs.Pair.{Side, other}
use Rattle.ch_laws_bytes.proofs.Lines.{own_of}
use Rattle.ch_laws_bytes.proofs.Told.{told_names}
use Rattle.ch_laws_connections.specs.Arrivals.{made_at, Meets, MeetsAs}
use Rattle.ch_laws_ends.proofs.Changes.{told_cells}
use Rattle.ch_laws_ends.proofs.Places.{got_same}
use Rattle.ch_laws_links.specs.Naming.{IsNaming, IsUpFor}
use Rattle.ch_laws_links.proofs.Says.{risen}
use Rattle.ch_laws_lives.specs.Rolls.{LivesOn}
use Rattle.ch_laws_lives.proofs.NodesTold.{node_lives, on_event}
use Rattle.ch_laws_log.proofs.Homes.{node_self}
use Rattle.ch_laws_log.proofs.Keys.{node_is}
use Rattle.ch_laws_log.proofs.Stored.{number_is, number_same}
use Rattle.ch_laws_plain_logs.specs.Plain.{is_plain, IsPlain}
use Rattle.ch_laws_plain_logs.proofs.Absent.{first_epoch}
use Rattle.ch_laws_race.proofs.Readings.{other_twice}
use Rattle.ch_laws_race.specs.Scene.{Party, host_in, link_of}
use Rattle.ch_laws_calls.specs.Calls.{with_host}
use Rattle.ch_laws_calls.specs.Scenes.{IsPairOf, SceneFacts, scene_of}
use Rattle.ch_laws_calls.specs.Turns.{told_on}
use Rattle.ch_laws_writes.proofs.Ordered.{is_key}
use Rattle.ch_laws_peers.specs.Words.{words_in, datas_in}
use Rattle.ch_laws_peers.specs.Says.{towards, node_in, node_of}
use Rattle.ch_laws_peers.specs.Reads.{reads, item_read, ReadsOne, ReadsNone, after_first, gets_of, read_of, Gets, AllGet}
use Rattle.ch_laws_peers.specs.Standing.{IsOfNodes}
use Rattle.ch_laws_messages.specs.WayReadingGoes.{Known, Grown, OneRead}
use Rattle.ch_laws_messages.specs.GotSaidWell.{SaidWell}
use Rattle.ch_laws_messages.proofs.GotLists.{clash, some_is, first_else, after_next, after_else}
use Rattle.ch_laws_messages.proofs.GotMoves.{GetsAt, at_party, of_party}
use Rattle.ch_laws_messages.proofs.GotLiving.{all_lead_to, all_lead_here}
use Rattle.ch_laws_messages.proofs.GotBounds.{AreAlone, SameGot, gets_nobody}
use Rattle.ch_laws_messages.proofs.GotArrivals.{conn_within, created_is, closed_is}
use Rattle.ch_laws_messages.proofs.GotHosts.{DoesAs, Brought, Calm, NextDoes, next_does}
use Rattle.ch_laws_messages.proofs.GotTold.{NoGots, steps_tell, calm_told, brought_told, HeardBy, heard_by, none_broke, NoneGot, steps_got, got_both, step_none, nothing_more}
use Rattle.ch_laws_messages.proofs.GotHearing.{GotOne, tells_got, GotSo, EventDone, created_done, closed_done, data_done}
use Rattle.ch_laws_messages.proofs.GotAsked.{told_same}
use Rattle.ch_laws_messages.proofs.GotNodes.{ok_is}
use Rattle.ch_laws_messages.proofs.GotLinks.{IsLinkOf, link_pair}
use Rattle.ch_laws_messages.proofs.GotItems.{SaysNext, SaysOf, word_next, read_last, got_entry}
use Rattle.ch_laws_messages.proofs.GotWorlds.{alone_read, read_same, read_more, read_no_data, node_at, created_at, cell_still, node_turn}

-- the endpoint and the peer of a link are these two nodes
pub record IsReader (place end : ℕ) (peer : Address) (party : Side → Party) (x : Side) : Type 0 where
  pub here : (party (other x)).place ≡ place
  pub end_is : (party (other x)).address.id ≡ end
  pub peer_is : (party x).address ≡ peer

is_reader : (place end : ℕ) (peer : Address) (party : Side → Party) (x : Side) → IsReader place end peer party x ⊎ (IsReader place end peer party x → ⊥)
is_reader place end peer party x = by_place ((party (other x)).place == place) refl where
  differ : (n m : ℕ) → (n == m) ≡ false → n ≡ m → ⊥
  differ n m h e = clash (sym (ap (λ (k : ℕ). k == m) e ∙ number_same m) ∙ h)

  by_peer : (party (other x)).place ≡ place → (party (other x)).address.id ≡ end → (b : Bool) → same_node (party x).address peer ≡ b → IsReader place end peer party x ⊎ (IsReader place end peer party x → ⊥)
  by_peer p m true h = inl (record { here = p; end_is = m; peer_is = node_is (party x).address peer h })
  by_peer p m false h = inr (λ r. clash (sym (ap (λ (a : Address). same_node a peer) r.peer_is ∙ node_self peer) ∙ h))

  by_end : (party (other x)).place ≡ place → (b : Bool) → ((party (other x)).address.id == end) ≡ b → IsReader place end peer party x ⊎ (IsReader place end peer party x → ⊥)
  by_end p true h = by_peer p (number_is (party (other x)).address.id end h) (same_node (party x).address peer) refl
  by_end p false h = inr (λ r. differ (party (other x)).address.id end h r.end_is)

  by_place : (b : Bool) → ((party (other x)).place == place) ≡ b → IsReader place end peer party x ⊎ (IsReader place end peer party x → ⊥)
  by_place true h = by_end (number_is (party (other x)).place place h) ((party (other x)).address.id == end) refl
  by_place false h = inr (λ r. differ (party (other x)).place place h r.here)

-- ---- the epoch of what was said

pub each_at : (test : List Entry → Entry → Bool) (before log : List Entry) (i : ℕ) (x : Entry) → each_after test before log ≡ true → slice_get log i ≡ Some x → test (before ++ take i log) x ≡ true
each_at test before [] i x e at = absurd cc
each_at test before (y ∷ log) zero x e at =
    let is : y ≡ x = cc in
    ap (λ (l : List Entry). test l x) (nothing before) ∙ ap (test before) (sym is) ∙ (and_parts (test before y) (each_after test (before ++ y ∷ []) log) e).0 where
      nothing : (xs : List Entry) → xs ++ [] ≡ xs
      nothing [] = refl
      nothing (z ∷ xs) = ap (λ (l : List Entry). z ∷ l) (nothing xs)
each_at test before (y ∷ log) (suc i) x e at = ap (λ (l : List Entry). test l x) (sym (assoc before (take i log))) ∙ each_at test (before ++ y ∷ []) log i x (and_parts (test before y) (each_after test (before ++ y ∷ []) log) e).1 at where
  assoc : (xs ys : List Entry) → (xs ++ y ∷ []) ++ ys ≡ xs ++ y ∷ ys
  assoc [] ys = refl
  assoc (z ∷ xs) ys = ap (λ (l : List Entry). z ∷ l) (assoc xs ys)

some_plain : (i : ℕ) (log : List Entry) → list_all is_plain log ≡ true → list_all is_plain (take i log) ≡ true
some_plain zero log p = refl
some_plain (suc i) [] p = refl
some_plain (suc i) (x ∷ log) p = let parts = and_parts (is_plain x) (list_all is_plain log) p in ap (λ (b : Bool). b && list_all is_plain (take i log)) parts.0 ∙ some_plain i log parts.1

-- what was said from process to process is of the first epoch
pub first_said : (journal : List Line) (log : List Entry) → IsPlain log → SaidWell journal log → (i : ℕ) (by : ProcName) (q : ProcName) (epoch index : ℕ) (mark body : List ℕ) → slice_get log i ≡ Some (entries.Said by (names.Process q) epoch index mark body) → epoch ≡ 0
first_said journal log p well i by q epoch index mark body at = number_is epoch (epoch_of (take i log) by (names.Process q)) (each_at is_said_in_epoch [] log i (entries.Said by (names.Process q) epoch index mark body) well.numbered.epochs at) ∙ first_epoch (take i log) by q (some_plain i log p)

-- ---- nodes that are stored

stored_self : (end : ℕ) (there : ℕ × NodeState) (next : NodeState) (all : List (ℕ × NodeState)) → find (is_at end) all ≡ Some there → find (is_at end) (store_node end next all) ≡ Some (end, next)
stored_self end there next [] e = absurd cc
stored_self end there next (known ∷ rest) e = by_test (is_at end known) refl e (stored_self end there next rest) where
  by_test : (b : Bool) → is_at end known ≡ b → cond b (Some known) (find (is_at end) rest) ≡ Some there → (find (is_at end) rest ≡ Some there → find (is_at end) (store_node end next rest) ≡ Some (end, next)) → find (is_at end) (cond b ((end, next) ∷ rest) (known ∷ store_node end next rest)) ≡ Some (end, next)
  by_test true h e more = ap (λ (b : Bool). cond b (Some (end, next)) (find (is_at end) rest)) (number_same end)
  by_test false h e more = ap (λ (b : Bool). cond b (Some known) (find (is_at end) (store_node end next rest))) h ∙ more e

-- what is told of nothing, and of one note
pub none_done : (end : ℕ) (cell : Cell) (did : List Act) (heard : List LocalEntry) (after : Cell) → did ≡ [] → acts_on end did cell ≡ Ok (heard, after) → (heard ≡ []) × (after ≡ cell)
none_done end cell did heard after none e =
    let done : ◌≡◌ {A = Followed} (Ok ([], cell)) (Ok (heard, after)) = ap (λ (l : List Act). acts_on end l cell) (sym none) ∙ e in
    let same : ◌≡◌ {A = List LocalEntry × Cell} ([], cell) (heard, after) = ok_is ([], cell) (heard, after) done in
    (sym (ap (λ (x : List LocalEntry × Cell). x.0) same), sym (ap (λ (x : List LocalEntry × Cell). x.1) same))

pub one_done : (end : ℕ) (cell : Cell) (did : List Act) (note : Note) (heard : List LocalEntry) (after : Cell) → did ≡ acts.Note note ∷ [] → acts_on end did cell ≡ Ok (heard, after) → (heard ≡ local.Note note ∷ []) × (after ≡ cell)
one_done end cell did note heard after one e =
    let done : ◌≡◌ {A = Followed} (Ok (local.Note note ∷ [], cell)) (Ok (heard, after)) = ap (λ (l : List Act). acts_on end l cell) (sym one) ∙ e in
    let same : ◌≡◌ {A = List LocalEntry × Cell} (local.Note note ∷ [], cell) (heard, after) = ok_is (local.Note note ∷ [], cell) (heard, after) done in
    (sym (ap (λ (x : List LocalEntry × Cell). x.0) same), sym (ap (λ (x : List LocalEntry × Cell). x.1) same))

abbrev id_in : Frame → ℕ
id_in (frames.Data id payload) = id
id_in frame = 0

-- where no message is got the id says nothing
with_id : (journal : List Line) (known : Names) (a b : Party) (node next : NodeState) (did : List Act) (now : List Connection) (id key : ℕ) (read : List (ℕ × List ℕ)) (log : List Entry) → EventDone journal known a b ⊥ node next did now id read read log → EventDone journal known a b ⊥ node next did now key read read log
with_id journal known a b node next did now id key read log d = record { told = by_told d.told; stays = d.stays } where
  by_told : ((did ≡ []) × ((after : List Entry) → SameGot a b log after → GetsAt journal known a b (Some next) now read after)) ⊎ ((from : ProcessId) × (to : ProcessId) × (did ≡ tells_got from to) × GotSo journal known a b node from to id read log × ⊥ × ((after : List Entry) → GotOne known a b from to log after → GetsAt journal known a b (Some next) now read after))
      → ((did ≡ []) × ((after : List Entry) → SameGot a b log after → GetsAt journal known a b (Some next) now read after)) ⊎ ((from : ProcessId) × (to : ProcessId) × (did ≡ tells_got from to) × GotSo journal known a b node from to key read log × ⊥ × ((after : List Entry) → GotOne known a b from to log after → GetsAt journal known a b (Some next) now read after))
  by_told (inl n) = inl n
  by_told (inr w) = absurd w.4

-- ---- the turn

module _ (journal : List Line) (nodes : IsOfNodes journal) (log : List Entry) (world : World) (k : Known journal log world) (well : SaidWell journal log) (g : AllGet journal log world) (place : ℕ) (cell : Cell × ℕ) (done : List Step) (host : HostState) (told : List LocalEntry) (after : Cell) (at : slice_get world.cells place ≡ Some cell)
    (ran : steps_on done (with_host cell host) ≡ Ok (told, after)) (reading : OneRead journal place cell log world (log ++ (told_on place cell after told world).0) (told_on place cell after told world).1) where
  abbrev kept : World
  kept = with_cell place (after, cell.1) world

  abbrev final : List Entry × World
  final = told_on place cell after told world

  cells_now : final.1.cells ≡ slice_set world.cells place (after, cell.1)
  cells_now = told_cells place after told kept

  names_now : final.1.names ≡ world.names
  names_now = told_names place after told kept

  scene : (party : Side → Party) → IsPairOf journal party → SceneFacts party world
  scene party pair = k.0.each_pair.shown party pair

  naming : IsNaming cell.0.host
  naming = (k.0.all.sound.links.naming place cell at).naming

  -- nothing is brought
  pub calm_gets : Calm cell.0.host done host → ((known : Socket) (frame : Frame) → first_ready cell.0.host.sockets ≡ Some known → (front_of known).0 ≡ Whole (items.Frame frame) → data_of frame ≡ None) → (party : Side → Party) → IsPairOf journal party → (x : Side) → Gets journal (log ++ final.0) final.1 party x
  calm_gets c none party pair x = cell_still journal log (log ++ final.0) world final.1 party x place cell (after, cell.1) (g party pair x) at cells_now names_now (λ p. (
    ap (λ (a : Cell). (link_with a.host (party (other x)).address.id (party (other (other x))).address).created) same.0 ∙ c.created (party (other x)).address.id (party (other (other x))).address,
    ap (λ (a : Cell). node_in (Some (a, cell.1)) (party (other x)).address.id) same.0,
  )) (by_one (reading party pair x).0 (reading party pair x).1) (λ p q a b. told_same place after told kept log p q (subst (NoneGot world.names p q) (sym same.1) (steps_got world.names p q done))) where
    same : (after ≡ with_host cell host) × (told ≡ told_steps done)
    same = calm_told done (with_host cell host) told after c.posted ran

    by_one : Grown party x log (log ++ final.0) → ReadsOne log world party x place cell (log ++ final.0) final.1 ⊎ ReadsNone log world party x place cell (log ++ final.0) final.1 → read_of party final.1 x (log ++ final.0) ≡ read_of party world x log
    by_one grown (inl w) = read_no_data party x log (log ++ final.0) world final.1 w.frame w.word grown w.reads_next.next w.more (none w.reads_next.known w.frame w.reads_next.ready w.reads_next.front)
    by_one grown (inr n) = read_same party x log (log ++ final.0) world final.1 (k.1.1 party pair x) grown n.0

  module _ (known : Socket) (first : first_ready cell.0.host.sockets ≡ Some known) (b : Brought cell.0.host known done host) where
    its_link : (party : Side → Party) (x : Side) → IsReader place b.end b.peer party x → link_of (scene_of party world) (other x) ≡ link_with cell.0.host b.end b.peer
    its_link party x r = ap (λ (o : Option (Cell × ℕ)). link_with (host_in o) (party (other x)).address.id (party (other (other x))).address) (ap (slice_get world.cells) r.here ∙ at) ∙ ap (λ (n : ℕ). link_with cell.0.host n (party (other (other x))).address) r.end_is ∙ ap (link_with cell.0.host b.end) (ap (λ (z : Side). (party z).address) (other_twice x) ∙ r.peer_is)

    -- what the reader reads
    record IsRead (party : Side → Party) (x : Side) : Type 0 where
      word : Option Place
      next : slice_get (towards (party x).name (party (other x)).name log) (reads party world x log) ≡ Some (b.frame, word)
      last : (item_read place known.number world).last ≡ word
      more : reads party final.1 x (log ++ final.0) ≡ suc (reads party world x log)

    frame_is : (x y : Frame) → Whole (items.Frame x) ≡ Whole (items.Frame y) → x ≡ y
    frame_is x y e = cc

    reader_reads : (party : Side → Party) → IsPairOf journal party → (x : Side) → IsReader place b.end b.peer party x → IsRead party x
    reader_reads party pair x r = by_one (reading party pair x).1 where
      by_one : ReadsOne log world party x place cell (log ++ final.0) final.1 ⊎ ReadsNone log world party x place cell (log ++ final.0) final.1 → IsRead party x
      by_one (inl w) =
          let same : w.reads_next.known ≡ known = some_is w.reads_next.known known (sym w.reads_next.ready ∙ first) in
          let frame : w.frame ≡ b.frame = frame_is w.frame b.frame (sym w.reads_next.front ∙ ap (λ (s : Socket). (front_of s).0) same ∙ b.front) in
          record { word = w.word; next = w.reads_next.next ∙ ap (λ (f : Frame). Some (f, w.word)) frame; last = ap (λ (n : ℕ). (item_read place n world).last) (sym (ap (λ (s : Socket). s.number) same) ∙ w.reads_next.number) ∙ w.last; more = w.more }
      by_one (inr n) = absurd (n.1 r.here known.number b.probed known b.frame (ap (λ (l : Link). l.state) (its_link party x r) ∙ b.up) first refl b.front)

    user_is : (n m : ℕ) (a c : Address) → ◌≡◌ {A = Option (ℕ × Address)} (Some (n, a)) (Some (m, c)) → (n ≡ m) × (a ≡ c)
    user_is n m a c e = let both : ◌≡◌ {A = ℕ × Address} (n, a) (m, c) = cc in (ap (λ (u : ℕ × Address). u.0) both, ap (λ (u : ℕ × Address). u.1) both)

    -- nobody else does
    other_reads : (party : Side → Party) → IsPairOf journal party → (x : Side) → (IsReader place b.end b.peer party x → ⊥) → reads party final.1 x (log ++ final.0) ≡ reads party world x log
    other_reads party pair x off = by_one (reading party pair x).1 where
      by_one : ReadsOne log world party x place cell (log ++ final.0) final.1 ⊎ ReadsNone log world party x place cell (log ++ final.0) final.1 → reads party final.1 x (log ++ final.0) ≡ reads party world x log
      by_one (inr n) = n.0
      by_one (inl w) = absurd (off (record { here = w.here; end_is = parts.0; peer_is = sym (ap (λ (z : Side). (party z).address) (other_twice x)) ∙ parts.1 })) where
        same : w.reads_next.known ≡ known
        same = some_is w.reads_next.known known (sym w.reads_next.ready ∙ first)

        number : w.reads_next.sock ≡ known.number
        number = sym w.reads_next.number ∙ ap (λ (s : Socket). s.number) same

        up : (link_with cell.0.host (party (other x)).address.id (party (other (other x))).address).state ≡ states.Up known.number w.reads_next.probed
        up = ap (λ (o : Option (Cell × ℕ)). (link_with (host_in o) (party (other x)).address.id (party (other (other x))).address).state) (sym w.reads_next.at) ∙ w.reads_next.up ∙ ap (λ (n : ℕ). states.Up n w.reads_next.probed) number

        one : (socket : Socket) × (find (is_socket known.number) cell.0.host.sockets ≡ Some socket) × IsUpFor (party (other x)).address.id (party (other (other x))).address socket
        one = risen cell.0.host (party (other x)).address.id (party (other (other x))).address known.number w.reads_next.probed naming up

        two : (socket : Socket) × (find (is_socket known.number) cell.0.host.sockets ≡ Some socket) × IsUpFor b.end b.peer socket
        two = risen cell.0.host b.end b.peer known.number b.probed naming b.up

        parts : ((party (other x)).address.id ≡ b.end) × ((party (other (other x))).address ≡ b.peer)
        parts = user_is (party (other x)).address.id b.end (party (other (other x))).address b.peer (sym one.2.user ∙ ap (λ (s : Socket). s.user) (some_is one.0 two.0 (sym one.1 ∙ two.1)) ∙ two.2.user)

    -- the connections of the reader's link
    its_created : (party : Side → Party) (x : Side) → IsReader place b.end b.peer party x → (link_of (scene_of party world) (other x)).created ≡ made_at cell.0.host b.end (party x).address
    its_created party x r = ap (λ (l : Link). l.created) (its_link party x r) ∙ ap (λ (a : Address). made_at cell.0.host b.end a) (sym r.peer_is)

    created_now : (party : Side → Party) (x : Side) → IsReader place b.end b.peer party x → after.host ≡ host → (link_of (scene_of party final.1) (other x)).created ≡ made_at host b.end (party x).address
    created_now party x r same = created_at party final.1 x (Some (after, cell.1)) (ap (λ (l : List (Cell × ℕ)). slice_get l (party (other x)).place) cells_now ∙ ap (slice_get (slice_set world.cells place (after, cell.1))) r.here ∙ got_same world.cells place cell (after, cell.1) at)
        ∙ ap (λ (h : HostState). (link_with h (party (other x)).address.id (party (other (other x))).address).created) same ∙ ap (λ (n : ℕ). (link_with host n (party (other (other x))).address).created) r.end_is ∙ ap (λ (z : Side). made_at host b.end (party z).address) (other_twice x)

    node_then : (party : Side → Party) (x : Side) → IsReader place b.end b.peer party x → node_of party world (other x) ≡ node_in (Some cell) b.end
    node_then party x r = node_at party world (other x) (Some cell) (ap (slice_get world.cells) r.here ∙ at) ∙ ap (node_in (Some cell)) r.end_is

    node_now : (party : Side → Party) (x : Side) → IsReader place b.end b.peer party x → node_of party final.1 (other x) ≡ node_in (Some (after, cell.1)) b.end
    node_now party x r = node_at party final.1 (other x) (Some (after, cell.1)) (ap (λ (l : List (Cell × ℕ)). slice_get l (party (other x)).place) cells_now ∙ ap (slice_get (slice_set world.cells place (after, cell.1))) r.here ∙ got_same world.cells place cell (after, cell.1) at) ∙ ap (node_in (Some (after, cell.1))) r.end_is

    -- what is told
    heard : (heard : List LocalEntry) × (told ≡ local.Step (steps.Read known.number) ∷ heard) × (posted b.end b.event (with_host cell host) ≡ Ok (heard, after))
    heard = brought_told known.number b.end b.event (with_host cell host) told after (ap (λ (l : List Step). steps_on l (with_host cell host)) (sym b.told_is) ∙ ran)

    step_first : (p q : ProcName) (rest : List LocalEntry) → told ≡ local.Step (steps.Read known.number) ∷ rest → NoneGot world.names p q rest → gets_of p q (log ++ final.0) ≡ gets_of p q log
    step_first p q rest is none = told_same place after told kept log p q (subst (NoneGot world.names p q) (sym is) (refl, none))

    does_reader : (party : Side → Party) (x : Side) → IsReader place b.end b.peer party x → DoesAs cell.0.host host b.end (party x).address b.frame b.event
    does_reader party x r = subst (λ (a : Address). DoesAs cell.0.host host b.end a b.frame b.event) (sym r.peer_is) b.does

    -- the endpoint has a node
    module _ (h : HeardBy b.end b.event (with_host cell host) heard.0 after) where
      its_node : (party : Side → Party) (x : Side) → IsReader place b.end b.peer party x → node_of party world (other x) ≡ Some h.there.1
      its_node party x r = node_then party x r ∙ ap (λ (o : Option (ℕ × NodeState)). elim o as (λ o. Option NodeState) [
        | None ↦ None
        | Some there ↦ Some there.1
      ]) h.found

      meets : Meets cell.0.host b.end h.there.1.arrived
      meets = subst (λ (s : Bool). MeetsAs s cell.0.host b.end h.there.1.arrived) ((k.0.plain.cells place cell at).nodes b.end h.there h.found).plain.unshut ((k.0.meets place cell at).1 b.end h.there h.found)

      lives : (party : Side → Party) → IsPairOf journal party → (x : Side) → IsReader place b.end b.peer party x → LivesOn h.there.1 h.acts h.next
      lives party pair x r = node_lives h.there.1 h.next h.acts (node_event h.there.1 b.event) (on_event h.there.1 b.event) (all_lead_to h.there.1.own h.there.1.arrived ((g party pair x).leads.reached h.there.1 (its_node party x r))) h.does

      was : (party : Side → Party) → IsPairOf journal party → (x : Side) → IsReader place b.end b.peer party x → GetsAt journal world.names (party x) (party (other x)) (Some h.there.1) (made_at cell.0.host b.end (party x).address) (read_of party world x log) log
      was party pair x r = subst (λ (n : Option NodeState). GetsAt journal world.names (party x) (party (other x)) n (made_at cell.0.host b.end (party x).address) (read_of party world x log) log) (its_node party x r)
          (subst (λ (c : List Connection). GetsAt journal world.names (party x) (party (other x)) (node_of party world (other x)) c (read_of party world x log) log) (its_created party x r) (at_party journal log world party x (g party pair x)))

      -- what the node made of it
      its_event : (party : Side → Party) (pair : IsPairOf journal party) (x : Side) (r : IsReader place b.end b.peer party x) → EventDone journal world.names (party x) (party (other x)) (SaysOf journal log world party x b.frame (reader_reads party pair x r).word) h.there.1 h.next h.acts (made_at host b.end (party x).address) (id_in b.frame) (read_of party world x log) (read_of party world x log ++ datas_in (words_in ((b.frame, (reader_reads party pair x r).word) ∷ []))) log
      its_event party pair x r = by_frame b.frame b.event (does_reader party x r) (reader_reads party pair x r).word (reader_reads party pair x r).next h.does where
        same_read : (f : Frame) (w : Option Place) (S : Type 0) (id : ℕ) → EventDone journal world.names (party x) (party (other x)) S h.there.1 h.next h.acts (made_at host b.end (party x).address) id (read_of party world x log) (read_of party world x log) log → EventDone journal world.names (party x) (party (other x)) S h.there.1 h.next h.acts (made_at host b.end (party x).address) id (read_of party world x log) (read_of party world x log ++ []) log
        same_read f w S id d = subst (λ (l : List (ℕ × List ℕ)). EventDone journal world.names (party x) (party (other x)) S h.there.1 h.next h.acts (made_at host b.end (party x).address) id (read_of party world x log) l log) (sym (nothing_more (read_of party world x log))) d

        by_frame : (f : Frame) (v : Event) → DoesAs cell.0.host host b.end (party x).address f v → (w : Option Place) → slice_get (towards (party x).name (party (other x)).name log) (reads party world x log) ≡ Some (f, w) → node_event h.there.1 v ≡ Ok (h.acts, h.next)
            → EventDone journal world.names (party x) (party (other x)) (SaysOf journal log world party x f w) h.there.1 h.next h.acts (made_at host b.end (party x).address) (id_in f) (read_of party world x log) (read_of party world x log ++ datas_in (words_in ((f, w) ∷ []))) log
        by_frame (frames.Created id) v d w next e = same_read (frames.Created id) w ⊥ 0 (with_id journal world.names (party x) (party (other x)) h.there.1 h.next h.acts (made_at host b.end (party x).address) id 0 (read_of party world x log) log
            (created_done journal world.names (party x) (party (other x)) ⊥ cell.0.host b.end h.there.1 h.next h.acts (made_at host b.end (party x).address) id (read_of party world x log) log meets (lives party pair x r) (was party pair x r) d.0 (ap (node_event h.there.1) (sym d.1) ∙ e)))
        by_frame (frames.Closed id) v d w next e = same_read (frames.Closed id) w ⊥ 0 (with_id journal world.names (party x) (party (other x)) h.there.1 h.next h.acts (made_at host b.end (party x).address) id 0 (read_of party world x log) log
            (closed_done journal world.names (party x) (party (other x)) ⊥ h.there.1 h.next h.acts (made_at cell.0.host b.end (party x).address) (made_at host b.end (party x).address) id d.0 (read_of party world x log) log (lives party pair x r) (was party pair x r) d.1 (ap (node_event h.there.1) (sym d.2) ∙ e)))
        by_frame (frames.Data id payload) v d w next e =
            let n = word_next journal log world party pair (scene party pair) well x (k.1.0 party pair x) id payload w next in
            subst (λ (c : List Connection). EventDone journal world.names (party x) (party (other x)) (SaysNext journal log world party x id payload w) h.there.1 h.next h.acts c id (read_of party world x log) (read_of party world x log ++ (id, payload) ∷ []) log) (sym d.2)
            (data_done journal world.names (party x) (party (other x)) (SaysNext journal log world party x id payload w) cell.0.host b.end h.there.1 h.next h.acts id d.0 payload (read_of party world x log) log meets (lives party pair x r) (was party pair x r) d.1 n.word n.says n.alone (ap (node_event h.there.1) (sym d.3) ∙ e))
        by_frame frames.EndClosed v d w next e = absurd d
        by_frame frames.Probe v d w next e = absurd d
        by_frame frames.ProbeAck v d w next e = absurd d

      -- the reader's node then, where the turn leaves this cell
      next_at : (party : Side → Party) (x : Side) → IsReader place b.end b.peer party x → after ≡ with_node b.end h.next (with_host cell host) → node_of party final.1 (other x) ≡ Some h.next
      next_at party x r is = node_now party x r ∙ ap (λ (a : Cell). node_in (Some (a, cell.1)) b.end) is ∙ ap (λ (o : Option (ℕ × NodeState)). elim o as (λ o. Option NodeState) [
        | None ↦ None
        | Some there ↦ Some there.1
      ]) (stored_self b.end h.there h.next cell.0.nodes h.found)

      -- one message is told
      told_one : (party : Side → Party) (x : Side) (from to : ProcessId) (word : Option Place) → (item_read place known.number world).last ≡ word → (or_first word).epoch ≡ 0 → heard.0 ≡ local.Note (notes.Got from (targets.Process to) (Some to)) ∷ [] → GotOne world.names (party x) (party (other x)) from to log (log ++ final.0)
      told_one party x from to word last epoch is p q x_node y_node = got_both p q log final.0 ∙ ap (λ (n : ℕ). gets_of p q log + n) counted where
        mid : World
        mid = (local_told place after (local.Step (steps.Read known.number)) kept).1

        first_entries : List Entry
        first_entries = (local_told place after (local.Step (steps.Read known.number)) kept).0

        known_last : (or_first (local_told place after (local.Step (steps.Read known.number)) kept).1.last).epoch ≡ 0
        known_last = ap (λ (w : Option Place). (or_first w).epoch) (read_last place known.number world (slice_set world.cells place (after, cell.1)) ∙ last) ∙ epoch

        entry : Entry
        entry = note_entry (local_told place after (local.Step (steps.Read known.number)) kept).1.names (local_told place after (local.Step (steps.Read known.number)) kept).1.last (notes.Got from (targets.Process to) (Some to))

        add : (n m : ℕ) → n ≡ 0 → n + m ≡ m
        add n m e = omega arith

        counted : gets_of p q (all_told place after told kept).0 ≡ cond (same_process (process_called world.names from) p && same_target (names.Process (process_called world.names to)) (names.Process q)) 1 0
        counted = ap (λ (l : List LocalEntry). gets_of p q (all_told place after l kept).0) (heard.1 ∙ ap (λ (l : List LocalEntry). local.Step (steps.Read known.number) ∷ l) is)
            ∙ got_both p q (local_told place after (local.Step (steps.Read known.number)) kept).0 (note_entry (local_told place after (local.Step (steps.Read known.number)) kept).1.names (local_told place after (local.Step (steps.Read known.number)) kept).1.last (notes.Got from (targets.Process to) (Some to)) ∷ [])
            ∙ add (gets_of p q (local_told place after (local.Step (steps.Read known.number)) kept).0) (gets_of p q (note_entry (local_told place after (local.Step (steps.Read known.number)) kept).1.names (local_told place after (local.Step (steps.Read known.number)) kept).1.last (notes.Got from (targets.Process to) (Some to)) ∷ [])) (step_none p q place after (steps.Read known.number) kept)
            ∙ got_entry p q (local_told place after (local.Step (steps.Read known.number)) kept).1.names (local_told place after (local.Step (steps.Read known.number)) kept).1.last from to known_last
            ∙ ap (λ (n : Names). cond (same_process (process_called n from) p && same_target (names.Process (process_called n to)) (names.Process q)) 1 0) (told_names place after (local.Step (steps.Read known.number) ∷ []) kept)

      -- the message that was read has its saying's place, of the first epoch
      first_place_of : (party : Side → Party) (x : Side) (f : Frame) (word : Option Place) → SaysOf journal log world party x f word → (or_first word).epoch ≡ 0
      first_place_of party x (frames.Data id payload) word s = ap (λ (w : Option Place). (or_first w).epoch) s.carries.place ∙ first_said journal log k.0.kinds well s.saying.i s.said.by (process_called world.names s.pair.receiver) s.said.epoch s.said.index s.said.mark s.said.body
          (s.saying.at ∙ ap (λ (t : TargetName). Some (entries.Said s.said.by t s.said.epoch s.said.index s.said.mark s.said.body)) s.pair.to_is)
      first_place_of party x (frames.Created id) word s = absurd s
      first_place_of party x (frames.Closed id) word s = absurd s
      first_place_of party x frames.EndClosed word s = absurd s
      first_place_of party x frames.Probe word s = absurd s
      first_place_of party x frames.ProbeAck word s = absurd s

      reader_gets : (party : Side → Party) (pair : IsPairOf journal party) (x : Side) → IsReader place b.end b.peer party x → Gets journal (log ++ final.0) final.1 party x
      reader_gets party pair x r = by_told (its_event party pair x r).told where
        rr : IsRead party x
        rr = reader_reads party pair x r

        read_then : read_of party final.1 x (log ++ final.0) ≡ read_of party world x log ++ datas_in (words_in ((b.frame, (reader_reads party pair x r).word) ∷ []))
        read_then = read_more party x log (log ++ final.0) world final.1 b.frame (reader_reads party pair x r).word (reading party pair x).0 (reader_reads party pair x r).next (reader_reads party pair x r).more

        ends : after ≡ with_node b.end h.next (with_host cell host) → GetsAt journal world.names (party x) (party (other x)) (Some h.next) (made_at host b.end (party x).address) (read_of party world x log ++ datas_in (words_in ((b.frame, (reader_reads party pair x r).word) ∷ []))) (log ++ final.0) → Gets journal (log ++ final.0) final.1 party x
        ends is got = of_party journal (log ++ final.0) final.1 party x
            (subst (λ (n : Names). GetsAt journal n (party x) (party (other x)) (node_of party final.1 (other x)) (link_of (scene_of party final.1) (other x)).created (read_of party final.1 x (log ++ final.0)) (log ++ final.0)) (sym names_now)
            (subst (λ (n : Option NodeState). GetsAt journal world.names (party x) (party (other x)) n (link_of (scene_of party final.1) (other x)).created (read_of party final.1 x (log ++ final.0)) (log ++ final.0)) (sym (next_at party x r is))
            (subst (λ (c : List Connection). GetsAt journal world.names (party x) (party (other x)) (Some h.next) c (read_of party final.1 x (log ++ final.0)) (log ++ final.0)) (sym (created_now party x r (ap (λ (a : Cell). a.host) is)))
            (subst (λ (l : List (ℕ × List ℕ)). GetsAt journal world.names (party x) (party (other x)) (Some h.next) (made_at host b.end (party x).address) l (log ++ final.0)) (sym read_then) got))))

        by_told : ((h.acts ≡ []) × ((more : List Entry) → SameGot (party x) (party (other x)) log more → GetsAt journal world.names (party x) (party (other x)) (Some h.next) (made_at host b.end (party x).address) (read_of party world x log ++ datas_in (words_in ((b.frame, (reader_reads party pair x r).word) ∷ []))) more))
            ⊎ ((from : ProcessId) × (to : ProcessId) × (h.acts ≡ tells_got from to) × GotSo journal world.names (party x) (party (other x)) h.there.1 from to (id_in b.frame) (read_of party world x log) log × SaysOf journal log world party x b.frame (reader_reads party pair x r).word × ((more : List Entry) → GotOne world.names (party x) (party (other x)) from to log more → GetsAt journal world.names (party x) (party (other x)) (Some h.next) (made_at host b.end (party x).address) (read_of party world x log ++ datas_in (words_in ((b.frame, (reader_reads party pair x r).word) ∷ []))) more))
            → Gets journal (log ++ final.0) final.1 party x
        by_told (inl n) = let d = none_done b.end (with_node b.end h.next (with_host cell host)) h.acts heard.0 after n.0 h.followed in ends d.1 (n.1 (log ++ final.0) (λ p q x y. step_first p q heard.0 heard.1 (subst (NoneGot world.names p q) (sym d.0) tt)))
        by_told (inr w) =
            let d = one_done b.end (with_node b.end h.next (with_host cell host)) h.acts (notes.Got w.0 (targets.Process w.1) (Some w.1)) heard.0 after w.2 h.followed in
            ends d.1 (w.5 (log ++ final.0) (told_one party x w.0 w.1 (reader_reads party pair x r).word (reader_reads party pair x r).last (first_place_of party x b.frame (reader_reads party pair x r).word w.4) d.0))

      -- two nodes of which the reader is another pair
      other_gets : IsLinkOf journal place b.end b.peer → (party : Side → Party) (pair : IsPairOf journal party) (x : Side) → (IsReader place b.end b.peer party x → ⊥) → Gets journal (log ++ final.0) final.1 party x
      other_gets l party pair x off = by_told event.told where
        r : IsReader place b.end b.peer l.party l.from
        r = record { here = l.here; end_is = l.end_is; peer_is = l.peer_is }

        event : EventDone journal world.names (l.party l.from) (l.party (other l.from)) (SaysOf journal log world l.party l.from b.frame (reader_reads l.party l.pair l.from r).word) h.there.1 h.next h.acts (made_at host b.end (l.party l.from).address) (id_in b.frame) (read_of l.party world l.from log) (read_of l.party world l.from log ++ datas_in (words_in ((b.frame, (reader_reads l.party l.pair l.from r).word) ∷ []))) log
        event = its_event l.party l.pair l.from r

        reads_same : read_of party final.1 x (log ++ final.0) ≡ read_of party world x log
        reads_same = read_same party x log (log ++ final.0) world final.1 (k.1.1 party pair x) (reading party pair x).0 (other_reads party pair x off)

        other_key : (party (other x)).place ≡ place → is_key b.end b.peer (party (other x)).address.id (party (other (other x))).address ≡ false
        other_key p = by_test (is_key b.end b.peer (party (other x)).address.id (party (other (other x))).address) refl where
          by_test : (t : Bool) → is_key b.end b.peer (party (other x)).address.id (party (other (other x))).address ≡ t → t ≡ false
          by_test false e = refl
          by_test true e = let parts = and_parts (b.end == (party (other x)).address.id) (same_node b.peer (party (other (other x))).address) e in
              absurd (off (record { here = p; end_is = sym (number_is b.end (party (other x)).address.id parts.0); peer_is = ap (λ (z : Side). (party z).address) (sym (other_twice x)) ∙ sym (node_is b.peer (party (other (other x))).address parts.1) }))

        other_peer : (party (other x)).place ≡ place → b.end ≡ (party (other x)).address.id → same_node (l.party l.from).address (party x).address ≡ false
        other_peer p m = by_test (same_node (l.party l.from).address (party x).address) refl where
          by_test : (t : Bool) → same_node (l.party l.from).address (party x).address ≡ t → t ≡ false
          by_test false e = refl
          by_test true e = absurd (off (record { here = p; end_is = sym m; peer_is = sym (node_is (l.party l.from).address (party x).address e) ∙ l.peer_is }))

        ends : after ≡ with_node b.end h.next (with_host cell host) → ((p q : ProcName) → p.node ≡ (party x).name → q.node ≡ (party (other x)).name → NoneGot world.names p q heard.0) → Gets journal (log ++ final.0) final.1 party x
        ends is none = node_turn journal log (log ++ final.0) world final.1 party x place b.end h.there.0 cell (after, cell.1) h.there.1 h.next (g party pair x) at cells_now names_now
            (λ p. ap (λ (a : Cell). (link_with a.host (party (other x)).address.id (party (other (other x))).address).created) is ∙ b.others (party (other x)).address.id (party (other (other x))).address (other_key p)) h.found (ap (λ (a : Cell). a.nodes) is)
            (λ p m leads. (event.stays (party x).address (other_peer p m), all_lead_here h.next.own h.next.arrived (lives l.party l.pair l.from r).reached)) reads_same (λ p q x y. step_first p q heard.0 heard.1 (none p q x y))

        -- the two are of other names than the reader's
        named_apart : (p q : ProcName) (from to : ProcessId) → p.node ≡ (party x).name → q.node ≡ (party (other x)).name → (process_called world.names from).node ≡ (l.party l.from).name → (process_called world.names to).node ≡ (l.party (other l.from)).name → (t : Bool) → (same_process (process_called world.names from) p && same_target (names.Process (process_called world.names to)) (names.Process q)) ≡ t → t ≡ false
        named_apart p q from to a c d f false e = refl
        named_apart p q from to a c d f true e = absurd (off (record { here = same_place; end_is = ap (λ (w : Address). w.id) second ∙ l.end_is; peer_is = one ∙ l.peer_is })) where
          parts : (same_process (process_called world.names from) p ≡ true) × (same_process (process_called world.names to) q ≡ true)
          parts = and_parts (same_process (process_called world.names from) p) (same_process (process_called world.names to) q) e

          node_same : (one two : ProcName) → same_process one two ≡ true → one.node ≡ two.node
          node_same one two e = (bytes_eq-Decides one.node two.node).0 (and_parts (bytes_eq one.node two.node) (one.counter == two.counter) e).0

          sl : SceneFacts l.party world
          sl = scene l.party l.pair

          one : (party x).address ≡ (l.party l.from).address
          one = sl.is_called l.from (party x).address ((scene party pair).called_as x ∙ sym a ∙ sym (node_same (process_called world.names from) p parts.0) ∙ d)

          second : (party (other x)).address ≡ (l.party (other l.from)).address
          second = sl.is_called (other l.from) (party (other x)).address ((scene party pair).called_as (other x) ∙ sym c ∙ sym (node_same (process_called world.names to) q parts.1) ∙ f)

          same_place : (party (other x)).place ≡ place
          same_place = some_is (party (other x)).place (l.party (other l.from)).place (sym (pair.placed (other x)) ∙ ap (cell_of (world_new journal)) second ∙ l.pair.placed (other l.from)) ∙ l.here

        by_told : ((h.acts ≡ []) × ((more : List Entry) → SameGot (l.party l.from) (l.party (other l.from)) log more → GetsAt journal world.names (l.party l.from) (l.party (other l.from)) (Some h.next) (made_at host b.end (l.party l.from).address) (read_of l.party world l.from log ++ datas_in (words_in ((b.frame, (reader_reads l.party l.pair l.from r).word) ∷ []))) more))
            ⊎ ((from : ProcessId) × (to : ProcessId) × (h.acts ≡ tells_got from to) × GotSo journal world.names (l.party l.from) (l.party (other l.from)) h.there.1 from to (id_in b.frame) (read_of l.party world l.from log) log × SaysOf journal log world l.party l.from b.frame (reader_reads l.party l.pair l.from r).word × ((more : List Entry) → GotOne world.names (l.party l.from) (l.party (other l.from)) from to log more → GetsAt journal world.names (l.party l.from) (l.party (other l.from)) (Some h.next) (made_at host b.end (l.party l.from).address) (read_of l.party world l.from log ++ datas_in (words_in ((b.frame, (reader_reads l.party l.pair l.from r).word) ∷ []))) more))
            → Gets journal (log ++ final.0) final.1 party x
        by_told (inl n) = let d = none_done b.end (with_node b.end h.next (with_host cell host)) h.acts heard.0 after n.0 h.followed in ends d.1 (λ p q x y. subst (NoneGot world.names p q) (sym d.0) tt)
        by_told (inr w) =
            let d = one_done b.end (with_node b.end h.next (with_host cell host)) h.acts (notes.Got w.0 (targets.Process w.1) (Some w.1)) heard.0 after w.2 h.followed in
            ends d.1 (λ p q x y. subst (NoneGot world.names p q) (sym d.0) (named_apart p q w.0 w.1 x y w.3.pair.from_node w.3.pair.to_node (same_process (process_called world.names w.0) p && same_target (names.Process (process_called world.names w.1)) (names.Process q)) refl, tt))

    -- the endpoint has none
    module _ (gone : (find (is_at b.end) cell.0.nodes ≡ None) × (heard.0 ≡ []) × (after ≡ with_host cell host)) where
      no_node : (party : Side → Party) (x : Side) → IsReader place b.end b.peer party x → node_of party world (other x) ≡ None
      no_node party x r = node_then party x r ∙ ap (λ (o : Option (ℕ × NodeState)). elim o as (λ o. Option NodeState) [
        | None ↦ None
        | Some there ↦ Some there.1
      ]) gone.0

      no_node_now : (party : Side → Party) (x : Side) → IsReader place b.end b.peer party x → node_of party final.1 (other x) ≡ None
      no_node_now party x r = node_now party x r ∙ ap (λ (a : Cell). node_in (Some (a, cell.1)) b.end) gone.2 ∙ ap (λ (o : Option (ℕ × NodeState)). elim o as (λ o. Option NodeState) [
        | None ↦ None
        | Some there ↦ Some there.1
      ]) gone.0

      same_got : (party : Side → Party) (x : Side) → SameGot (party x) (party (other x)) log (log ++ final.0)
      same_got party x p q a c = step_first p q heard.0 heard.1 (subst (NoneGot world.names p q) (sym gone.1) tt)

      nobody_other : (party : Side → Party) (pair : IsPairOf journal party) (x : Side) → (IsReader place b.end b.peer party x → ⊥) → Gets journal (log ++ final.0) final.1 party x
      nobody_other party pair x off = cell_still journal log (log ++ final.0) world final.1 party x place cell (after, cell.1) (g party pair x) at cells_now names_now
          (λ p. (ap (λ (a : Cell). (link_with a.host (party (other x)).address.id (party (other (other x))).address).created) gone.2 ∙ b.others (party (other x)).address.id (party (other (other x))).address (other_key p), ap (λ (a : Cell). node_in (Some (a, cell.1)) (party (other x)).address.id) gone.2))
          (read_same party x log (log ++ final.0) world final.1 (k.1.1 party pair x) (reading party pair x).0 (other_reads party pair x off)) (same_got party x) where
            other_key : (party (other x)).place ≡ place → is_key b.end b.peer (party (other x)).address.id (party (other (other x))).address ≡ false
            other_key p = by_test (is_key b.end b.peer (party (other x)).address.id (party (other (other x))).address) refl where
              by_test : (t : Bool) → is_key b.end b.peer (party (other x)).address.id (party (other (other x))).address ≡ t → t ≡ false
              by_test false e = refl
              by_test true e = let parts = and_parts (b.end == (party (other x)).address.id) (same_node b.peer (party (other (other x))).address) e in
                  absurd (off (record { here = p; end_is = sym (number_is b.end (party (other x)).address.id parts.0); peer_is = ap (λ (z : Side). (party z).address) (sym (other_twice x)) ∙ sym (node_is b.peer (party (other (other x))).address parts.1) }))

      nobody_reads : (party : Side → Party) (pair : IsPairOf journal party) (x : Side) → IsReader place b.end b.peer party x → Gets journal (log ++ final.0) final.1 party x
      nobody_reads party pair x r = of_party journal (log ++ final.0) final.1 party x
          (subst (λ (n : Names). GetsAt journal n (party x) (party (other x)) (node_of party final.1 (other x)) (link_of (scene_of party final.1) (other x)).created (read_of party final.1 x (log ++ final.0)) (log ++ final.0)) (sym names_now)
          (subst (λ (n : Option NodeState). GetsAt journal world.names (party x) (party (other x)) n (link_of (scene_of party final.1) (other x)).created (read_of party final.1 x (log ++ final.0)) (log ++ final.0)) (sym (no_node_now party x r))
          (subst (λ (c : List Connection). GetsAt journal world.names (party x) (party (other x)) None c (read_of party final.1 x (log ++ final.0)) (log ++ final.0)) (sym (created_now party x r (ap (λ (a : Cell). a.host) gone.2)))
          (subst (λ (l : List (ℕ × List ℕ)). GetsAt journal world.names (party x) (party (other x)) None (made_at host b.end (party x).address) l (log ++ final.0))
          (sym (read_more party x log (log ++ final.0) world final.1 b.frame (reader_reads party pair x r).word (reading party pair x).0 (reader_reads party pair x r).next (reader_reads party pair x r).more))
          (by_frame b.frame b.event (does_reader party x r) (reader_reads party pair x r).word (reader_reads party pair x r).next))))) where
            read : List (ℕ × List ℕ)
            read = read_of party world x log

            none : GetsAt journal world.names (party x) (party (other x)) None (made_at cell.0.host b.end (party x).address) (read_of party world x log) log
            none = subst (λ (n : Option NodeState). GetsAt journal world.names (party x) (party (other x)) n (made_at cell.0.host b.end (party x).address) (read_of party world x log) log) (no_node party x r)
                (subst (λ (c : List Connection). GetsAt journal world.names (party x) (party (other x)) (node_of party world (other x)) c (read_of party world x log) log) (its_created party x r) (at_party journal log world party x (g party pair x)))

            alone_here : AreAlone (read_of party world x log)
            alone_here = alone_read journal log world party x (k.1.0 party pair x)

            empty : (now : List Connection) → length (made_at cell.0.host b.end (party x).address) ≤ length now → GetsAt journal world.names (party x) (party (other x)) None now (read_of party world x log ++ []) (log ++ final.0)
            empty now long = gets_nobody journal world.names (party x) (party (other x)) (made_at cell.0.host b.end (party x).address) now (read_of party world x log) [] log (log ++ final.0) none (subst AreAlone (sym (nothing_more (read_of party world x log))) alone_here) (same_got party x)
                (λ id opening f. let less = none.below id opening (ap (first_payload id) (sym (nothing_more (read_of party world x log))) ∙ f) in omega arith)
                (λ id opening f. subst (λ (l : List (ℕ × List ℕ)). after_first id (read_of party world x log) ≤ after_first id l) (sym (nothing_more (read_of party world x log))) (omega arith))

            longer : (id : ℕ) (payload : List ℕ) (key : ℕ) (opening : List ℕ) → first_payload key (read_of party world x log) ≡ Some opening → after_first key (read_of party world x log) ≤ after_first key (read_of party world x log ++ (id, payload) ∷ [])
            longer id payload key opening f = by_test (id == key) refl where
              by_test : (t : Bool) → (id == key) ≡ t → after_first key (read_of party world x log) ≤ after_first key (read_of party world x log ++ (id, payload) ∷ [])
              by_test true e = let one_more = after_next (read_of party world x log) key (id, payload) opening f e in omega arith
              by_test false e = let same = after_else (read_of party world x log) key (id, payload) e in omega arith

            below_then : (id conn : ℕ) (payload : List ℕ) → conn_of (made_at cell.0.host b.end (party x).address) id ≡ Ok conn → (key : ℕ) (opening : List ℕ) → first_payload key (read_of party world x log ++ (id, payload) ∷ []) ≡ Some opening → key < FIRST_ID + length (made_at cell.0.host b.end (party x).address)
            below_then id conn payload c key opening f = by_test (id == key) refl where
              by_test : (t : Bool) → (id == key) ≡ t → key < FIRST_ID + length (made_at cell.0.host b.end (party x).address)
              by_test true e = subst (λ (n : ℕ). n < FIRST_ID + length (made_at cell.0.host b.end (party x).address)) (number_is id key e) (conn_within (made_at cell.0.host b.end (party x).address) id conn c)
              by_test false e = none.below key opening (sym (first_else key (read_of party world x log) (id, payload) e) ∙ f)

            long_push : (xs : List Connection) (c : Connection) → length xs ≤ length (xs ++ c ∷ [])
            long_push [] c = omega arith
            long_push (y ∷ xs) c = let more = long_push xs c in omega arith

            by_frame : (f : Frame) (v : Event) → DoesAs cell.0.host host b.end (party x).address f v → (w : Option Place) → slice_get (towards (party x).name (party (other x)).name log) (reads party world x log) ≡ Some (f, w) → GetsAt journal world.names (party x) (party (other x)) None (made_at host b.end (party x).address) (read_of party world x log ++ datas_in (words_in ((f, w) ∷ []))) (log ++ final.0)
            by_frame (frames.Created id) v d w next = empty (made_at host b.end (party x).address) (subst (λ (l : List Connection). length (made_at cell.0.host b.end (party x).address) ≤ length l) (sym (created_is (made_at cell.0.host b.end (party x).address) (made_at host b.end (party x).address) id (next_arrival cell.0.host b.end) d.0)) (long_push (made_at cell.0.host b.end (party x).address) (opened (next_arrival cell.0.host b.end))))
            by_frame (frames.Closed id) v d w next = empty (made_at host b.end (party x).address) (let same = (closed_is (made_at cell.0.host b.end (party x).address) (made_at host b.end (party x).address) id d.0 d.1).long in omega arith)
            by_frame (frames.Data id payload) v d w next =
                let n = word_next journal log world party pair (scene party pair) well x (k.1.0 party pair x) id payload w next in
                subst (λ (c : List Connection). GetsAt journal world.names (party x) (party (other x)) None c (read_of party world x log ++ (id, payload) ∷ []) (log ++ final.0)) (sym d.2)
                (gets_nobody journal world.names (party x) (party (other x)) (made_at cell.0.host b.end (party x).address) (made_at cell.0.host b.end (party x).address) (read_of party world x log) ((id, payload) ∷ []) log (log ++ final.0) none n.alone (same_got party x) (below_then id d.0 payload d.1) (longer id payload))
            by_frame frames.EndClosed v d w next = absurd d
            by_frame frames.Probe v d w next = absurd d
            by_frame frames.ProbeAck v d w next = absurd d

    pub brought_gets : (party : Side → Party) (pair : IsPairOf journal party) (x : Side) → Gets journal (log ++ final.0) final.1 party x
    brought_gets party pair x = by_heard (heard_by b.end b.event (with_host cell host) heard.0 after heard.2) (is_reader place b.end b.peer party x) where
      l : IsLinkOf journal place b.end b.peer
      l = link_pair journal nodes log world k.0 place cell b.end known.number b.peer b.probed at b.up

      by_heard : ((find (is_at b.end) cell.0.nodes ≡ None) × (heard.0 ≡ []) × (after ≡ with_host cell host)) ⊎ HeardBy b.end b.event (with_host cell host) heard.0 after → IsReader place b.end b.peer party x ⊎ (IsReader place b.end b.peer party x → ⊥) → Gets journal (log ++ final.0) final.1 party x
      by_heard (inl n) (inl r) = nobody_reads n party pair x r
      by_heard (inl n) (inr off) = nobody_other n party pair x off
      by_heard (inr h) (inl r) = reader_gets h party pair x r
      by_heard (inr h) (inr off) = other_gets h l party pair x off

  pub item_gets : host_next cell.0.host ≡ Ok (Some done, host) → IsPlain (log ++ final.0) → AllGet journal (log ++ final.0) final.1
  item_gets e plain party pair x = by_done (next_does (own_of journal place) cell.0.host host done naming (k.0.all.sound.ends.flowing.orderly place cell at) (k.0.plain.cells place cell at).host e) where
    by_done : NextDoes cell.0.host done host → Gets journal (log ++ final.0) final.1 party x
    by_done (inl c) = calm_gets c.0 c.1 party pair x
    by_done (inr (inl b)) = brought_gets b.0 b.1 b.2 party pair x
    by_done (inr (inr broke)) = none_broke place done (with_host cell host) told after after log kept broke ran plain

  -- ---- what is told of it

  -- a message of a process of one node was got by one of the other, as it was read there: it has the place that was read with it; and the
  -- frame that brought it stood at the front of the socket that the link of the two is up on
  pub record ItemGot : Type 0 where
    pub party : Side → Party
    pub pair : IsPairOf journal party
    pub x : Side
    pub id : ℕ
    pub payload : List ℕ
    pub word : Option Place
    pub next : slice_get (towards (party x).name (party (other x)).name log) (reads party world x log) ≡ Some (frames.Data id payload, word)
    pub node : NodeState
    pub from : ProcessId
    pub to : ProcessId
    pub so : GotSo journal world.names (party x) (party (other x)) node from to id (read_of party world x log) log
    pub told_is : final.0 ≡ entries.Got (process_called world.names from) (names.Process (process_called world.names to)) (or_first word).epoch (or_first word).index (Some (process_called world.names to)) ∷ []
    pub known : Socket
    pub frame : Frame
    pub probed : Bool
    pub stands : slice_get world.cells (party (other x)).place ≡ Some cell
    pub up : (link_of (scene_of party world) (other x)).state ≡ states.Up known.number probed
    pub ready : first_ready cell.0.host.sockets ≡ Some known
    pub front : (front_of known).0 ≡ Whole (items.Frame frame)

  read_tells : (sock : ℕ) (w : World) → (local_told place after (local.Step (steps.Read sock)) w).0 ≡ []
  read_tells sock w = by_end (find_end place sock w.sockets) where
    by_end : (o : Option (SockName × End)) → (elim o as (λ o. List Entry × World) [
      | None ↦ ([], w)
      | Some at ↦ reads_item at w
    ]).0 ≡ []
    by_end None = refl
    by_end (Some at) = refl

  calm_tells : Calm cell.0.host done host → NoGots final.0
  calm_tells c = subst (λ (l : List LocalEntry). NoGots (all_told place after l kept).0) (sym (calm_told done (with_host cell host) told after c.posted ran).1) (steps_tell place after done kept)

  brought_tells : (known : Socket) → first_ready cell.0.host.sockets ≡ Some known → Brought cell.0.host known done host → NoGots final.0 ⊎ ItemGot
  brought_tells known first b = by_heard (heard_by b.end b.event (with_host cell host) (heard known first b).0 after (heard known first b).2) where
    l : IsLinkOf journal place b.end b.peer
    l = link_pair journal nodes log world k.0 place cell b.end known.number b.peer b.probed at b.up

    r : IsReader place b.end b.peer l.party l.from
    r = record { here = l.here; end_is = l.end_is; peer_is = l.peer_is }

    reads_it : IsRead known first b l.party l.from
    reads_it = reader_reads known first b l.party l.pair l.from r

    quiet : (heard known first b).0 ≡ [] → NoGots final.0
    quiet none = subst (λ (t : List LocalEntry). NoGots (all_told place after t kept).0) (sym ((heard known first b).1 ∙ ap (λ (t : List LocalEntry). local.Step (steps.Read known.number) ∷ t) none)) (steps_tell place after (steps.Read known.number ∷ []) kept)

    mid : World
    mid = (local_told place after (local.Step (steps.Read known.number)) kept).1

    told_one_entry : (from to : ProcessId) → (heard known first b).0 ≡ local.Note (notes.Got from (targets.Process to) (Some to)) ∷ [] → final.0 ≡ entries.Got (process_called world.names from) (names.Process (process_called world.names to)) (or_first (reader_reads known first b l.party l.pair l.from r).word).epoch (or_first (reader_reads known first b l.party l.pair l.from r).word).index (Some (process_called world.names to)) ∷ []
    told_one_entry from to is = ap (λ (t : List LocalEntry). (all_told place after t kept).0) ((heard known first b).1 ∙ ap (λ (t : List LocalEntry). local.Step (steps.Read known.number) ∷ t) is)
        ∙ ap (λ (t : List Entry). t ++ note_entry (local_told place after (local.Step (steps.Read known.number)) kept).1.names (local_told place after (local.Step (steps.Read known.number)) kept).1.last (notes.Got from (targets.Process to) (Some to)) ∷ []) (read_tells known.number kept)
        ∙ ap (λ (w : Option Place). note_entry (local_told place after (local.Step (steps.Read known.number)) kept).1.names w (notes.Got from (targets.Process to) (Some to)) ∷ []) (read_last place known.number world (slice_set world.cells place (after, cell.1)) ∙ last_is)
        ∙ ap (λ (n : Names). note_entry n (reader_reads known first b l.party l.pair l.from r).word (notes.Got from (targets.Process to) (Some to)) ∷ []) (told_names place after (local.Step (steps.Read known.number) ∷ []) kept) where
          last_is : (item_read place known.number world).last ≡ (reader_reads known first b l.party l.pair l.from r).word
          last_is = (reader_reads known first b l.party l.pair l.from r).last

    by_told : (h : HeardBy b.end b.event (with_host cell host) (heard known first b).0 after) → ((h.acts ≡ []) × ((more : List Entry) → SameGot (l.party l.from) (l.party (other l.from)) log more → GetsAt journal world.names (l.party l.from) (l.party (other l.from)) (Some h.next) (made_at host b.end (l.party l.from).address) (read_of l.party world l.from log ++ datas_in (words_in ((b.frame, (reader_reads known first b l.party l.pair l.from r).word) ∷ []))) more))
        ⊎ ((from : ProcessId) × (to : ProcessId) × (h.acts ≡ tells_got from to) × GotSo journal world.names (l.party l.from) (l.party (other l.from)) h.there.1 from to (id_in b.frame) (read_of l.party world l.from log) log × SaysOf journal log world l.party l.from b.frame (reader_reads known first b l.party l.pair l.from r).word × ((more : List Entry) → GotOne world.names (l.party l.from) (l.party (other l.from)) from to log more → GetsAt journal world.names (l.party l.from) (l.party (other l.from)) (Some h.next) (made_at host b.end (l.party l.from).address) (read_of l.party world l.from log ++ datas_in (words_in ((b.frame, (reader_reads known first b l.party l.pair l.from r).word) ∷ []))) more))
        → NoGots final.0 ⊎ ItemGot
    by_told h (inl n) = inl (quiet (none_done b.end (with_node b.end h.next (with_host cell host)) h.acts (heard known first b).0 after n.0 h.followed).0)
    by_told h (inr w) = inr (by_frame b.frame (reader_reads known first b l.party l.pair l.from r).next w.3 w.4) where
      d : ((heard known first b).0 ≡ local.Note (notes.Got w.0 (targets.Process w.1) (Some w.1)) ∷ []) × (after ≡ with_node b.end h.next (with_host cell host))
      d = one_done b.end (with_node b.end h.next (with_host cell host)) h.acts (notes.Got w.0 (targets.Process w.1) (Some w.1)) (heard known first b).0 after w.2 h.followed

      by_frame : (f : Frame) → slice_get (towards (l.party l.from).name (l.party (other l.from)).name log) (reads l.party world l.from log) ≡ Some (f, (reader_reads known first b l.party l.pair l.from r).word) → GotSo journal world.names (l.party l.from) (l.party (other l.from)) h.there.1 w.0 w.1 (id_in f) (read_of l.party world l.from log) log → SaysOf journal log world l.party l.from f (reader_reads known first b l.party l.pair l.from r).word → ItemGot
      by_frame (frames.Data id payload) next so s = record { party = l.party; pair = l.pair; x = l.from; id = id; payload = payload; word = (reader_reads known first b l.party l.pair l.from r).word; next = next; node = h.there.1; from = w.0; to = w.1; so = so; told_is = told_one_entry w.0 w.1 d.0; known = known; frame = b.frame; probed = b.probed; stands = ap (slice_get world.cells) r.here ∙ at; up = ap (λ (l : Link). l.state) (its_link known first b l.party l.from r) ∙ b.up; ready = first; front = b.front }
      by_frame (frames.Created id) next so s = absurd s
      by_frame (frames.Closed id) next so s = absurd s
      by_frame frames.EndClosed next so s = absurd s
      by_frame frames.Probe next so s = absurd s
      by_frame frames.ProbeAck next so s = absurd s

    by_heard : ((find (is_at b.end) cell.0.nodes ≡ None) × ((heard known first b).0 ≡ []) × (after ≡ with_host cell host)) ⊎ HeardBy b.end b.event (with_host cell host) (heard known first b).0 after → NoGots final.0 ⊎ ItemGot
    by_heard (inl n) = inl (quiet n.1)
    by_heard (inr h) = by_told h (its_event known first b h l.party l.pair l.from r).told

  -- as it reads an item at most one message is got
  pub item_tells : host_next cell.0.host ≡ Ok (Some done, host) → IsPlain (log ++ final.0) → NoGots final.0 ⊎ ItemGot
  item_tells e plain = by_done (next_does (own_of journal place) cell.0.host host done naming (k.0.all.sound.ends.flowing.orderly place cell at) (k.0.plain.cells place cell at).host e) where
    by_done : NextDoes cell.0.host done host → NoGots final.0 ⊎ ItemGot
    by_done (inl c) = inl (calm_tells c.0)
    by_done (inr (inl b)) = brought_tells b.0 b.1 b.2
    by_done (inr (inr broke)) = none_broke place done (with_host cell host) told after after log kept broke ran plain
