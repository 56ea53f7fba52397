-- What a plain node asks of its host, in one turn: nothing is read, and what is written at each end is a plain stream.
use Rattle.std.proofs.Common.{◌≡◌, ◌≤◌, ℕ, Bool, true, false, cond, List, [], ◌∷◌, Ok, Err, refl, sym, ap, ◌∙◌, subst}
use Rattle.std.specs.Prelude.{find, Option, Some, None, ◌==◌}
use Rattle.ch_base.specs.declared.address.Address.{Address}
use Rattle.ch_light.specs.declared.Connection.{Connection}
use Rattle.ch_model.specs.declared.act.Act.{Act}
use Rattle.ch_model.specs.declared.local.LocalEntry.{LocalEntry}
use Rattle.ch_model.specs.declared.step.Step.{Step}
use Rattle.ch_model.specs.CellSteps.{Followed, is_at, store_node, with_node, acts_on}
use Rattle.ch_model.specs.HostState.{Socket}
use Rattle.ch_model.specs.HostSteps.{link_with, is_socket}
use Rattle.ch_model.specs.NodeState.{NodeState, Arrived}
use Rattle.ch_model.specs.WorldState.{Cell}
use Rattle.ch_laws_bytes.specs.Streams.{Reader, reader_in}
use Rattle.ch_laws_log.specs.HostEnds.{steps_in}
use Rattle.ch_laws_log.proofs.Stored.{number_is}
use Rattle.ch_laws_writes.specs.Orderly.{IsOrderly}
use Rattle.ch_laws_connections.specs.Tables.{LinksApart}
use Rattle.ch_laws_connections.specs.Senders.{sender_of}
use Rattle.ch_laws_connections.specs.Fits.{FitsAs}
use Rattle.ch_laws_connections.proofs.Acts.{After, acts_fit}
use Rattle.ch_laws_connections.proofs.Cells.{stored_there, stored_other}
use Rattle.ch_laws_plain_nodes.specs.Acts.{ArePlain}
use Rattle.ch_laws_plain_nodes.specs.Plain.{IsPlain}
use Rattle.ch_laws_plain.specs.Acts.{AreShort, AllSpeak, AskedTurn}
use Rattle.ch_laws_plain.specs.Plain.{is_unread_of, unread_from, arrived_in, id_for, pending_by, pending_in, pending_at, NodeIsPlain, CellIsPlain}
use Rattle.ch_laws_plain.specs.Streams.{PlainOn}
use Rattle.ch_laws_plain.specs.Talks.{HostIsPlain, Speaks}
use Rattle.ch_laws_plain.specs.Turns.{ReaderPlain, CellCarries}
use Rattle.ch_laws_plain.proofs.Acts.{acts_speak}
use Rattle.ch_laws_plain.proofs.Writes.{speaks_write}

-- ---- what is unread as it was

-- what has arrived at each node of a cell, where one is stored that has what the one in its place had
pub stored_arrived : (end k : ℕ) (node next : NodeState) (nodes : List (ℕ × NodeState)) → find (is_at end) nodes ≡ Some (k, node) → next.arrived ≡ node.arrived → (e : ℕ) → arrived_in (find (is_at e) (store_node end next nodes)) ≡ arrived_in (find (is_at e) nodes)
stored_arrived end k node next [] f same e = refl
stored_arrived end k node next (known ∷ rest) f same e = by_test (is_at end known) refl f (stored_arrived end k node next rest) where
  here : (b : Bool) → known ≡ (k, node) → arrived_in (cond b (Some (end, next)) (find (is_at e) rest)) ≡ arrived_in (cond b (Some known) (find (is_at e) rest))
  here true is = same ∙ sym (ap (λ (x : ℕ × NodeState). x.1.arrived) is)
  here false is = refl

  there : (b : Bool) → arrived_in (find (is_at e) (store_node end next rest)) ≡ arrived_in (find (is_at e) rest) → arrived_in (cond b (Some known) (find (is_at e) (store_node end next rest))) ≡ arrived_in (cond b (Some known) (find (is_at e) rest))
  there true more = refl
  there false more = more

  by_test : (b : Bool) → is_at end known ≡ b → cond b (Some known) (find (is_at end) rest) ≡ Some (k, node) → (find (is_at end) rest ≡ Some (k, node) → next.arrived ≡ node.arrived → (e : ℕ) → arrived_in (find (is_at e) (store_node end next rest)) ≡ arrived_in (find (is_at e) rest))
      → arrived_in (find (is_at e) (cond b ((end, next) ∷ rest) (known ∷ store_node end next rest))) ≡ arrived_in (find (is_at e) (known ∷ rest))
  by_test true h f more = let is : known ≡ (k, node) = cc in ap (λ (n : ℕ). arrived_in (cond (n == e) (Some (end, next)) (find (is_at e) rest))) (sym (number_is known.0 end h)) ∙ here (known.0 == e) is
  by_test false h f more = there (known.0 == e) (more f same e)

-- so are the ids of connections whose opening isn't read yet
pub pending_same : (cell after : Cell) → ((e : ℕ) (p : Address) → (link_with after.host e p).created ≡ (link_with cell.host e p).created) → ((e : ℕ) → arrived_in (find (is_at e) after.nodes) ≡ arrived_in (find (is_at e) cell.nodes)) → (user : Option (ℕ × Address)) → pending_by after user ≡ pending_by cell user
pending_same cell after created arrived None = refl
pending_same cell after created arrived (Some user) = ap (λ (c : List Connection). id_for c (find (is_unread_of user.1) (arrived_in (find (is_at user.0) after.nodes)))) (created user.0 user.1) ∙ ap (λ (l : List Arrived). id_for (link_with cell.host user.0 user.1).created (find (is_unread_of user.1) l)) (arrived user.0)

-- ---- a turn

unread_still : (reader : Option Reader) (one two : Option ℕ) → two ≡ one → ReaderPlain reader one reader two
unread_still None one two e = tt
unread_still (Some reader) one two e = ([], (refl, refl), λ more p. subst (λ (o : Option ℕ). PlainOn o more None) (sym e) p)

-- What a node asks, where its host speaks plainly and what has arrived at the nodes is as it was: all streams go on.
pub spoken_carries : (own : ℕ → Address) (cell after : Cell) (told : List Step) → IsOrderly own cell.host → Speaks cell.host told after.host → ((e : ℕ) → arrived_in (find (is_at e) after.nodes) ≡ arrived_in (find (is_at e) cell.nodes)) → CellCarries own cell told after
spoken_carries own cell after told o s arrived = record { reads = reads_at; writes = λ n known found. speaks_write own cell.host after.host told o s n } where
  reads_at : (n : ℕ) (known : Socket) → find (is_socket n) cell.host.sockets ≡ Some known → ReaderPlain (reader_in (Some known)) (pending_at cell n) (reader_in (find (is_socket n) after.host.sockets)) (pending_at after n)
  reads_at n known found = subst (λ (x : Option Socket). ReaderPlain (reader_in (Some known)) (pending_at cell n) (reader_in x) (pending_in after x)) (sym (s.sockets n known found))
      (unread_still (reader_in (Some known)) (pending_at cell n) (pending_by after known.user) (pending_same cell after s.created arrived known.user ∙ sym (ap (pending_in cell) found)))

-- the cell is plain then, where the node that is stored is, and has what the one in its place had
asked_plain : (end k : ℕ) (cell after : Cell) (node next : NodeState) → CellIsPlain cell → find (is_at end) cell.nodes ≡ Some (k, node) → IsPlain next → next.arrived ≡ node.arrived → after.nodes ≡ store_node end next cell.nodes → HostIsPlain after.host → CellIsPlain after
asked_plain end k cell after node next p found one same nodes host = record { host = host; nodes = λ e there f. by_test e there (end == e) refl (subst (λ (l : List (ℕ × NodeState)). find (is_at e) l ≡ Some there) nodes f) } where
  stored : NodeIsPlain next
  stored = record { plain = one; alone = λ peer. subst (λ (l : List Arrived). unread_from peer l ≤ 1) (sym same) ((p.nodes end (k, node) found).alone peer) }

  by_test : (e : ℕ) (there : ℕ × NodeState) (b : Bool) → (end == e) ≡ b → find (is_at e) (store_node end next cell.nodes) ≡ Some there → NodeIsPlain there.1
  by_test e there true h f = subst NodeIsPlain (sym (stored_there end next e there cell.nodes f h)) stored
  by_test e there false h f = p.nodes e there (stored_other end next e there cell.nodes f h)

-- the acts of a plain node, one after another
pub asked_turn : (own : ℕ → Address) (at : Address) (end k : ℕ) (cell after : Cell) (node next : NodeState) (done : List Act) (told : List LocalEntry) → find (is_at end) cell.nodes ≡ Some (k, node) → next.arrived ≡ node.arrived → IsPlain next → ArePlain at done → AreShort done → LinksApart cell.host.links → FitsAs false cell.host end done (sender_of next)
    → IsOrderly own cell.host → CellIsPlain cell → acts_on end done (with_node end next cell) ≡ Ok (told, after) → AskedTurn own cell (steps_in told) after
asked_turn own at end k cell after node next done told found same one plain short l f o p e = by_done (acts_on end done start) e (acts_speak own at end done (sender_of next) start plain short l f o p.host) (acts_fit false end done (sender_of next) start l f) where
  start : Cell
  start = with_node end next cell

  by_done : (r : Followed) → r ≡ Ok (told, after) → AllSpeak own start r → After end start false [] (sender_of next) r → AskedTurn own cell (steps_in told) after
  by_done (Err stop) e s a = absurd cc
  by_done (Ok done) e s a = let is : done ≡ (told, after) = cc in subst (λ (x : List LocalEntry × Cell). AskedTurn own cell (steps_in x.0) x.1) is (record {
    carries = spoken_carries own cell done.1 (steps_in done.0) o s.0 (λ n. ap (λ (l : List (ℕ × NodeState)). arrived_in (find (is_at n) l)) a.0 ∙ stored_arrived end k node next cell.nodes found same n);
    plain = asked_plain end k cell done.1 node next p found one same a.0 s.0.plain;
    orderly = s.1;
  })
