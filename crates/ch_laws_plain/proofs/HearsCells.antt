-- What the nodes of a cell make of what its host has read.
use Rattle.std.proofs.Common.{◌≡◌, ℕ, Bool, true, false, cond, ◌&&◌, List, [], ◌∷◌, Ok, Err, inl, inr, refl, sym, ap, ◌∙◌, subst, ◌==◌}
use Rattle.std.specs.Prelude.{◌⊎◌, find, Option, Some, None, Result}
use Rattle.ch_base.specs.declared.address.Address.{Address}
use Rattle.ch_base.specs.declared.event.Event.{Event}
use Rattle.ch_base.specs.declared.event.Event.TheVariants as events
use Rattle.ch_base.specs.declared.memory.Stop.{Stop}
use Rattle.ch_wire.specs.declared.frame.Frame.{Frame}
use Rattle.ch_wire.specs.declared.frame.Frame.TheVariants as frames
use Rattle.ch_light.specs.declared.Connection.{Connection}
use Rattle.ch_watch.specs.Same.{same_node}
use Rattle.ch_model.specs.declared.act.Act.{Act}
use Rattle.ch_model.specs.declared.local.LocalEntry.{LocalEntry}
use Rattle.ch_model.specs.declared.step.Step.{Step}
use Rattle.ch_model.specs.CellSteps.{Followed, is_at, store_node, with_node, node_followed, posted, steps_on}
use Rattle.ch_model.specs.HostItems.{next_arrival}
use Rattle.ch_model.specs.HostState.{Socket, HostState}
use Rattle.ch_model.specs.HostSteps.{link_with, is_socket}
use Rattle.ch_model.specs.Node.{node_event}
use Rattle.ch_model.specs.NodeState.{NodeState}
use Rattle.ch_model.specs.Stages.{is_ended}
use Rattle.ch_model.specs.WorldState.{Cell}
use Rattle.ch_laws_bytes.specs.Streams.{reader_in}
use Rattle.ch_laws_connections.specs.Arrivals.{Meets, MeetsAs, CellMeets}
use Rattle.ch_laws_connections.proofs.Cells.{stored_there, stored_other}
use Rattle.ch_laws_calls.specs.FitsTurns.{bytes_at, NoDials}
use Rattle.ch_laws_links.specs.Naming.{IsNaming}
use Rattle.ch_laws_log.specs.HostEnds.{steps_in}
use Rattle.ch_laws_log.proofs.Stored.{number_is, number_same}
use Rattle.ch_laws_writes.specs.Dues.{due_at}
use Rattle.ch_laws_writes.proofs.Ordered.{is_key, at_key}
use Rattle.ch_laws_plain.specs.Plain.{is_unread_of, arrived_in, id_for, pending_for, pending_at, NodeIsPlain, CellIsPlain}
use Rattle.ch_laws_plain.specs.Streams.{PlainStep}
use Rattle.ch_laws_plain.specs.Talks.{HostIsPlain}
use Rattle.ch_laws_plain.specs.Turns.{ReaderPlain, WriterPlain}
use Rattle.ch_laws_plain.specs.ReadsReading.{AreOfNone, AllReadThere, Nothing, ReadOn, Opens, Closes, Receives, Loses, Brings, Reading, posts_in}
use Rattle.ch_laws_plain.specs.MeetsReads.{ReadsPlain}
use Rattle.ch_laws_plain.specs.HearsTurns.{AllPlainNotes, Moves, IsAfter, HearsPlainly, ReadTurn}
use Rattle.ch_laws_plain.proofs.HearsEnds.{step_read, not_it, is_it, reads_on}
use Rattle.ch_laws_plain.proofs.HearsLists.{found_stored, others_stored}
use Rattle.ch_laws_plain.proofs.HearsMoves.{by_none, moves}
use Rattle.ch_laws_plain.proofs.HearsNodes.{hears_lost, hears_comes, hears_goes, hears_payload_so}
use Rattle.ch_laws_plain.proofs.HearsTold.{OnlyNotes, only_notes, Told, unheard, Heard, heard, written, undialed}

-- ---- an event is posted

-- no node is there to hear it
pub record IsUnheard (cell : Cell) (end : ℕ) (after : Cell) : Type 0 where
  pub none : find (is_at end) cell.nodes ≡ None
  pub same : after ≡ cell

-- or one hears it so
pub record IsHeard (cell : Cell) (end : ℕ) (peer : Address) (created : List Connection) (read : List Frame) (after : Cell) : Type 0 where
  pub there : ℕ × NodeState
  pub done : List Act
  pub next : NodeState
  pub found : find (is_at end) cell.nodes ≡ Some there
  pub hears : HearsPlainly peer created read there.1 done next
  pub same : after ≡ with_node end next cell

pub record Posted (cell : Cell) (end : ℕ) (peer : Address) (created : List Connection) (read : List Frame) (told : List LocalEntry) (after : Cell) : Type 0 where
  pub none : steps_in told ≡ []
  pub notes : AllPlainNotes told
  pub went : IsUnheard cell end after ⊎ IsHeard cell end peer created read after

-- whoever is there hears it so
abbrev pub HearsSo : Cell → ℕ → Address → List Connection → List Frame → Event → Type 0
HearsSo cell end peer created read event = (there : ℕ × NodeState) (done : List Act) (next : NodeState) → find (is_at end) cell.nodes ≡ Some there → node_event there.1 event ≡ Ok (done, next) → HearsPlainly peer created read there.1 done next

posted_so : (cell : Cell) (end : ℕ) (peer : Address) (created : List Connection) (read : List Frame) (event : Event) (told : List LocalEntry) (after : Cell) → HearsSo cell end peer created read event → posted end event cell ≡ Ok (told, after) → Posted cell end peer created read told after
posted_so cell end peer created read event told after hears e = by_node (find (is_at end) cell.nodes) refl e where
  by_done : (there : ℕ × NodeState) → find (is_at end) cell.nodes ≡ Some there → (r : Result (List Act × NodeState) Stop) → node_event there.1 event ≡ r → node_followed end cell r ≡ Ok (told, after) → Posted cell end peer created read told after
  by_done there f (Err stop) is e = absurd cc
  by_done there f (Ok done) is e =
      let h : HearsPlainly peer created read there.1 done.0 done.1 = hears there done.0 done.1 f is in
      let o : OnlyNotes (with_node end done.1 cell) told after = only_notes end done.0 (with_node end done.1 cell) told after h.did e in
      record { none = o.none; notes = o.notes; went = inr (record { there = there; done = done.0; next = done.1; found = f; hears = h; same = o.same }) }

  by_node : (o : Option (ℕ × NodeState)) → find (is_at end) cell.nodes ≡ o → elim o as (λ o. Followed) [
    | None ↦ Ok ([], cell)
    | Some node ↦ node_followed end cell (node_event node.1 event)
  ] ≡ Ok (told, after) → Posted cell end peer created read told after
  by_node None f e = let same : ([], cell) ≡ (told, after) = cc in
      subst (λ (x : List LocalEntry × Cell). Posted cell end peer created read x.0 x.1) same (record { none = refl; notes = tt; went = inl (record { none = f; same = refl }) })
  by_node (Some there) f e = by_done there f (node_event there.1 event) refl e

-- ---- a cell whose nodes have heard it

pub record Turned (cell : Cell) (host : HostState) (after : Cell) : Type 0 where
  pub same : after.host ≡ host
  pub reads : (n : ℕ) (known : Socket) → find (is_socket n) cell.host.sockets ≡ Some known → ReaderPlain (reader_in (Some known)) (pending_at cell n) (reader_in (find (is_socket n) after.host.sockets)) (pending_at after n)
  pub plain : CellIsPlain after

-- with the host as it is then, and its nodes as they were
abbrev pub with_host : Cell → HostState → Cell
with_host cell host = record cell { host = host }

unheard_plain : (cell : Cell) (host : HostState) → HostIsPlain host → CellIsPlain cell → CellIsPlain (with_host cell host)
unheard_plain cell host h p = record { host = h; nodes = p.nodes }

heard_plain : (cell : Cell) (host : HostState) (end : ℕ) (next : NodeState) → HostIsPlain host → CellIsPlain cell → NodeIsPlain next → CellIsPlain (with_node end next (with_host cell host))
heard_plain cell host end next h p one = record { host = h; nodes = λ e there f. by_test e there (end == e) refl f } where
  by_test : (e : ℕ) (there : ℕ × NodeState) (b : Bool) → (end == e) ≡ b → find (is_at e) (store_node end next cell.nodes) ≡ Some there → NodeIsPlain there.1
  by_test e there true k f = subst NodeIsPlain (sym (stored_there end next e there cell.nodes f k)) one
  by_test e there false k f = p.nodes e there (stored_other end next e there cell.nodes f k)

-- nothing is posted
at_rest : (cell : Cell) (host : HostState) (done : List Step) → HostIsPlain host → CellIsPlain cell → Nothing cell.host done host → Turned cell host (with_host cell host)
at_rest cell host done h p w = record { same = refl; reads = reads_on cell (with_host cell host) w.frames w.read each; plain = unheard_plain cell host h p } where
  each : (n : ℕ) (known : Socket) (e : ℕ) (q : Address) → find (is_socket n) cell.host.sockets ≡ Some known → known.user ≡ Some (e, q) → is_ended known.stage ≡ false → Moves (pending_for cell e q) (w.frames n) (pending_for (with_host cell host) e q)
  each n known e q found u stands = subst (Moves (pending_for cell e q) (w.frames n)) (sym (ap (λ (c : List Connection). id_for c (find (is_unread_of q) (arrived_in (find (is_at e) cell.nodes)))) (w.created e q))) (by_none (pending_for cell e q) (w.frames n) (w.none n))

-- ---- an event of one link is

-- what is read at the ends of other links is of no connection, and at one of the link itself what leaves an opening unread as these frames do
pub record ReadBeside (cell : Cell) (host : HostState) (end : ℕ) (peer : Address) (read : List Frame) (all : ℕ → List Frame) : Type 0 where
  pub others : (e : ℕ) (p : Address) → is_key end peer e p ≡ false → (link_with host e p).created ≡ (link_with cell.host e p).created
  pub there : AllReadThere cell.host host all
  pub away : (n : ℕ) (known : Socket) (e : ℕ) (p : Address) → find (is_socket n) cell.host.sockets ≡ Some known → known.user ≡ Some (e, p) → is_key end peer e p ≡ false → AreOfNone (all n)
  pub here : (n : ℕ) (known : Socket) (x : Option ℕ) → find (is_socket n) cell.host.sockets ≡ Some known → known.user ≡ Some (end, peer) → is_ended known.stage ≡ false → IsAfter read x → IsAfter (all n) x

module _ (cell : Cell) (host : HostState) (end : ℕ) (peer : Address) (read : List Frame) (all : ℕ → List Frame) (w : ReadBeside cell host end peer read all) where
  -- where the ids of openings that are unread are as they were but for the link's, and this is as the frames leave it
  streams : (after : Cell) → after.host ≡ host → ((e : ℕ) (p : Address) → is_key end peer e p ≡ false → pending_for after e p ≡ pending_for cell e p) → IsAfter read (pending_for after end peer)
      → (n : ℕ) (known : Socket) → find (is_socket n) cell.host.sockets ≡ Some known → ReaderPlain (reader_in (Some known)) (pending_at cell n) (reader_in (find (is_socket n) after.host.sockets)) (pending_at after n)
  streams after same others here = reads_on cell after all (subst (λ (x : HostState). AllReadThere cell.host x all) (sym same) w.there) each where
    each : (n : ℕ) (known : Socket) (e : ℕ) (p : Address) → find (is_socket n) cell.host.sockets ≡ Some known → known.user ≡ Some (e, p) → is_ended known.stage ≡ false → Moves (pending_for cell e p) (all n) (pending_for after e p)
    each n known e p found u stands = by_key (is_key end peer e p) refl u where
      by_key : (b : Bool) → is_key end peer e p ≡ b → known.user ≡ Some (e, p) → Moves (pending_for cell e p) (all n) (pending_for after e p)
      by_key false k u = subst (Moves (pending_for cell e p) (all n)) (sym (others e p k)) (by_none (pending_for cell e p) (all n) (w.away n known e p found u k))
      by_key true k u = at_key (λ x q. known.user ≡ Some (x, q) → Moves (pending_for cell x q) (all n) (pending_for after x q)) end peer e p k
          (λ u. moves (pending_for cell end peer) (pending_for after end peer) (all n) (w.here n known (pending_for after end peer) found u stands here)) u

  -- nobody hears it
  turned_unheard : HostIsPlain host → CellIsPlain cell → find (is_at end) cell.nodes ≡ None → Turned cell host (with_host cell host)
  turned_unheard h p none = record {
    same = refl;
    reads = streams (with_host cell host) refl (λ e q off. ap (λ (c : List Connection). id_for c (find (is_unread_of q) (arrived_in (find (is_at e) cell.nodes)))) (w.others e q off))
        (inl (ap (λ (o : Option (ℕ × NodeState)). id_for (link_with host end peer).created (find (is_unread_of peer) (arrived_in o))) none));
    plain = unheard_plain cell host h p;
  }

  -- a node does
  turned_heard : HostIsPlain host → CellIsPlain cell → (there : ℕ × NodeState) (done : List Act) (next : NodeState) → find (is_at end) cell.nodes ≡ Some there → HearsPlainly peer (link_with host end peer).created read there.1 done next → Turned cell host (with_node end next (with_host cell host))
  turned_heard h p there done next found v = record {
    same = refl;
    reads = streams after refl others here;
    plain = heard_plain cell host end next h p v.plain;
  } where
    after : Cell
    after = with_node end next (with_host cell host)

    here : IsAfter read (pending_for after end peer)
    here = subst (λ (o : Option (ℕ × NodeState)). IsAfter read (id_for (link_with host end peer).created (find (is_unread_of peer) (arrived_in o)))) (sym (found_stored end next there cell.nodes found)) v.here

    unread : (e : ℕ) (q : Address) → is_key end peer e q ≡ false → find (is_unread_of q) (arrived_in (find (is_at e) (store_node end next cell.nodes))) ≡ find (is_unread_of q) (arrived_in (find (is_at e) cell.nodes))
    unread e q off = by_end (end == e) refl off where
      by_end : (b : Bool) → (end == e) ≡ b → (b && same_node peer q) ≡ false → find (is_unread_of q) (arrived_in (find (is_at e) (store_node end next cell.nodes))) ≡ find (is_unread_of q) (arrived_in (find (is_at e) cell.nodes))
      by_end false k off = ap (λ (o : Option (ℕ × NodeState)). find (is_unread_of q) (arrived_in o)) (others_stored end e next cell.nodes k)
      by_end true k off = subst (λ (x : ℕ). find (is_unread_of q) (arrived_in (find (is_at x) (store_node end next cell.nodes))) ≡ find (is_unread_of q) (arrived_in (find (is_at x) cell.nodes))) (number_is end e k)
          (ap (λ (o : Option (ℕ × NodeState)). find (is_unread_of q) (arrived_in o)) (found_stored end next there cell.nodes found) ∙ v.others q off ∙ sym (ap (λ (o : Option (ℕ × NodeState)). find (is_unread_of q) (arrived_in o)) found))

    others : (e : ℕ) (q : Address) → is_key end peer e q ≡ false → pending_for after e q ≡ pending_for cell e q
    others e q off = ap (λ (c : List Connection). id_for c (find (is_unread_of q) (arrived_in (find (is_at e) (store_node end next cell.nodes))))) (w.others e q off) ∙ ap (id_for (link_with cell.host e q).created) (unread e q off)

  turned_posted : HostIsPlain host → CellIsPlain cell → (told : List LocalEntry) (after : Cell) → Posted (with_host cell host) end peer (link_with host end peer).created read told after → Turned cell host after
  turned_posted h p told after done = by_went done.went where
    by_went : IsUnheard (with_host cell host) end after ⊎ IsHeard (with_host cell host) end peer (link_with host end peer).created read after → Turned cell host after
    by_went (inl u) = subst (Turned cell host) (sym u.same) (turned_unheard h p u.none)
    by_went (inr v) = subst (Turned cell host) (sym v.same) (turned_heard h p v.there v.done v.next v.found v.hears)

-- ---- what was read

-- beside a frame that was read on the socket that the link is up on
beside_frame : (cell : Cell) (host : HostState) (end : ℕ) (peer : Address) (frame : Frame) → IsNaming cell.host → (on : ReadOn cell.host end peer frame host) → ReadBeside cell host end peer (frame ∷ []) (λ n. cond (on.sock == n) (frame ∷ []) [])
beside_frame cell host end peer frame s on = record {
  others = on.others;
  there = on.read;
  away = λ n known e p found u off. subst (λ b. AreOfNone (cond b (frame ∷ []) [])) (sym (not_it cell host end peer frame s on n known e p found u off)) tt;
  here = λ n known x found u stands a. subst (λ b. IsAfter (cond b (frame ∷ []) []) x) (sym (is_self n (is_it cell host end peer frame s on n known found u stands))) a;
} where
  is_self : (n : ℕ) → on.sock ≡ n → (on.sock == n) ≡ true
  is_self n e = ap (λ (k : ℕ). on.sock == k) (sym e) ∙ number_same on.sock

-- beside a link that failed
beside_lost : (cell : Cell) (host : HostState) (done : List Step) (w : Loses cell.host done host) → ReadBeside cell host w.end w.peer [] w.frames
beside_lost cell host done w = record {
  others = w.others;
  there = w.read;
  away = λ n known e p found u off. w.none n;
  here = λ n known x found u stands a. by_after n x a;
} where
  by_after : (n : ℕ) (x : Option ℕ) → IsAfter [] x → IsAfter (w.frames n) x
  by_after n x (inl e) = inl e
  by_after n x (inr c) = let no : [] ≡ frames.Created c.0 ∷ [] = c.2 in absurd cc

-- ---- what is told of it

-- All is told so, and the cell is as it is after it.
pub record After (cell : Cell) (done : List Step) (host : HostState) (told : List LocalEntry) (after : Cell) : Type 0 where
  pub told_so : Told done told
  pub turned : Turned cell host after

module _ (cell : Cell) (host : HostState) (done : List Step) (told : List LocalEntry) (after : Cell) (s : IsNaming cell.host) (t : IsNaming host) (p : CellIsPlain cell) (m : CellMeets cell) (h : HostIsPlain host) (plain : ReadsPlain cell) (e : steps_on done (with_host cell host) ≡ Ok (told, after)) where
  -- one event is posted, and heard so
  with_one : (end : ℕ) (peer : Address) (event : Event) (read : List Frame) (all : ℕ → List Frame) → posts_in done ≡ (end, event) ∷ [] → ReadBeside cell host end peer read all → HearsSo (with_host cell host) end peer (link_with host end peer).created read event → After cell done host told after
  with_one end peer event read all posts w hears = record { told_so = v.so_told done_so.none done_so.notes; turned = turned_posted cell host end peer read all w h p v.heard after done_so } where
    v : Heard end event done (with_host cell host) told after
    v = heard end event done (with_host cell host) told after posts e

    done_so : Posted (with_host cell host) end peer (link_with host end peer).created read v.heard after
    done_so = posted_so (with_host cell host) end peer (link_with host end peer).created read event v.heard after hears v.followed

  -- the node keeps what was created
  meets : (end : ℕ) (there : ℕ × NodeState) → find (is_at end) cell.nodes ≡ Some there → Meets cell.host end there.1.arrived
  meets end there f = subst (λ b. MeetsAs b cell.host end there.1.arrived) (p.nodes end there f).plain.unshut (m end there f)

  -- of a frame that was read
  begins : (end : ℕ) (peer : Address) (frame : Frame) (there : ℕ × NodeState) → find (is_at end) cell.nodes ≡ Some there → ReadOn cell.host end peer frame host → (next : Option ℕ) × PlainStep (id_for (link_with cell.host end peer).created (find (is_unread_of peer) there.1.arrived)) frame next
  begins end peer frame there f on = let step = step_read cell host end peer frame s on t plain in
      (step.0, subst (λ (o : Option (ℕ × NodeState)). PlainStep (id_for (link_with cell.host end peer).created (find (is_unread_of peer) (arrived_in o))) frame step.0) f step.1)

  nothing : Nothing cell.host done host → After cell done host told after
  nothing w = let u = unheard done (with_host cell host) told after w.posted e in record { told_so = u.1; turned = subst (Turned cell host) (sym u.0) (at_rest cell host done h p w) }

  opens : Opens cell.host done host → After cell done host told after
  opens w = with_one w.end w.peer (events.ConnectionOpened (next_arrival cell.host w.end) w.peer) (frames.Created w.id ∷ []) (λ n. cond (w.on.sock == n) (frames.Created w.id ∷ []) []) w.posted (beside_frame cell host w.end w.peer (frames.Created w.id) s w.on)
      (λ there acts next f said. let b = begins w.end w.peer (frames.Created w.id) there f w.on in
      hears_comes cell.host w.end w.peer there.1 (p.nodes w.end there f) (meets w.end there f) w.id (link_with host w.end w.peer).created b.0 acts next w.created b.1 said)

  closes : Closes cell.host done host → After cell done host told after
  closes w = with_one w.end w.peer (events.ConnectionClosed w.conn) (frames.Closed w.id ∷ []) (λ n. cond (w.on.sock == n) (frames.Closed w.id ∷ []) []) w.posted (beside_frame cell host w.end w.peer (frames.Closed w.id) s w.on)
      (λ there acts next f said. let b = begins w.end w.peer (frames.Closed w.id) there f w.on in
      hears_goes cell.host w.end w.peer there.1 (p.nodes w.end there f) (meets w.end there f) w.id w.conn (link_with host w.end w.peer).created b.0 acts next w.created b.1 said)

  receives : Receives cell.host done host → After cell done host told after
  receives w = with_one w.end w.peer (events.Received w.conn w.payload) (frames.Data w.id w.payload ∷ []) (λ n. cond (w.on.sock == n) (frames.Data w.id w.payload ∷ []) []) w.posted (beside_frame cell host w.end w.peer (frames.Data w.id w.payload) s w.on)
      (λ there acts next f said. let b = begins w.end w.peer (frames.Data w.id w.payload) there f w.on in
      subst (λ (c : List Connection). HearsPlainly w.peer c (frames.Data w.id w.payload ∷ []) there.1 acts next) (sym w.created)
      (hears_payload_so cell.host w.end w.peer there.1 (p.nodes w.end there f) (meets w.end there f) w.id w.conn w.payload w.found acts next said b.0 b.1))

  loses : Loses cell.host done host → After cell done host told after
  loses w = with_one w.end w.peer (events.ConnectionLost w.peer w.why) [] w.frames w.posted (beside_lost cell host done w)
      (λ there acts next f said. hears_lost w.peer w.why (link_with host w.end w.peer).created [] there.1 acts next (p.nodes w.end there f) said)

  follows : Brings cell.host done host → After cell done host told after
  follows (inl w) = nothing w
  follows (inr (inl w)) = opens w
  follows (inr (inr (inl w))) = closes w
  follows (inr (inr (inr (inl w)))) = receives w
  follows (inr (inr (inr (inr w)))) = loses w

-- ---- a turn

pub turn_carries : (own : ℕ → Address) (cell : Cell) (done : List Step) (host : HostState) (told : List LocalEntry) (after : Cell) → IsNaming cell.host → IsNaming host → CellIsPlain cell → CellMeets cell → HostIsPlain host → ReadsPlain cell → ((n : ℕ) → WriterPlain own (due_at cell.host n) (bytes_at n done)) → Reading cell.host done host
    → steps_on done (record cell { host = host }) ≡ Ok (told, after) → ReadTurn own cell done host told after
turn_carries own cell done host told after s t p m h plain writes reading e = record {
  same_host = f.turned.same;
  same_steps = f.told_so.steps;
  written = bytes;
  dials = λ d. subst NoDials (sym f.told_so.steps) (undialed done d);
  notes = f.told_so.notes;
  carries = record { reads = f.turned.reads; writes = λ n known found. subst (WriterPlain own (due_at cell.host n)) (sym (bytes n)) (writes n) };
  plain = f.turned.plain;
} where
  f : After cell done host told after
  f = follows cell host done told after s t p m h plain e reading.1

  bytes : (n : ℕ) → bytes_at n (steps_in told) ≡ bytes_at n done
  bytes n = ap (bytes_at n) f.told_so.steps ∙ written done n
