-- What a node makes of a frame of a connection from another node, and what it has got then.
use Rattle.std.proofs.Common.{◌≡◌, ◌⊎◌, inl, inr, ◌≤◌, ℕ, suc, ◌+◌, Bool, true, false, cond, ◌&&◌, List, [], ◌∷◌, ◌++◌, length, Ok, refl, sym, ap, ◌∙◌, subst, arith}
use Rattle.std.specs.Prelude.{find, Option, Some, None, ◌==◌}
use Rattle.std.specs.Str.{bytes_eq}
use Rattle.std.proofs.lemmas.Bool.{and_parts}
use Rattle.std.proofs.lemmas.Slice.Eq.{bytes_eq-Decides}
use Rattle.ch_base.specs.declared.address.Address.{Address}
use Rattle.ch_base.specs.declared.event.Event.TheVariants as events
use Rattle.ch_ident.specs.declared.identifier.Identifier.TheVariants as ends
use Rattle.ch_ident.specs.declared.identifier.ProcessId.{ProcessId}
use Rattle.ch_ident.specs.declared.message.Message.{Message}
use Rattle.ch_ident.specs.declared.node_message.NodeMessage.TheVariants.{Opening}
use Rattle.ch_ident.specs.Names.{is_name}
use Rattle.ch_ident.specs.Spelling.{message, user}
use Rattle.ch_light.specs.declared.Connection.{Connection}
use Rattle.ch_light.specs.Ids.{opened, id_of, created_of, closed_of, conn_of}
use Rattle.ch_static.specs.declared.target.Target.TheVariants as targets
use Rattle.ch_watch.specs.Same.{same_node}
use Rattle.ch_model.specs.declared.act.Act.{Act}
use Rattle.ch_model.specs.declared.act.Act.TheVariants as acts
use Rattle.ch_model.specs.declared.entry.Entry.{Entry}
use Rattle.ch_model.specs.declared.line.Line.{Line}
use Rattle.ch_model.specs.declared.name.ProcName.{ProcName}
use Rattle.ch_model.specs.declared.name.TargetName.TheVariants as names
use Rattle.ch_model.specs.declared.note.Note.TheVariants as notes
use Rattle.ch_model.specs.AccountsFrames.{pair_opening}
use Rattle.ch_model.specs.AccountsItems.{first_payload}
use Rattle.ch_model.specs.HostItems.{next_arrival}
use Rattle.ch_model.specs.HostState.{HostState}
use Rattle.ch_model.specs.Naming.{Names, process_called}
use Rattle.ch_model.specs.Node.{node_event}
use Rattle.ch_model.specs.NodeArrivals.{rebound, bind, arrives, departs}
use Rattle.ch_model.specs.NodeIds.{is_here, is_living}
use Rattle.ch_model.specs.NodeState.{NodeState, Bound, Unread, Void, FromNode, ToNames, ToTarget, Arrived}
use Rattle.ch_model.specs.Same.{same_process, same_target}
use Rattle.ch_laws_log.proofs.Homes.{node_self}
use Rattle.ch_laws_log.proofs.Stored.{number_is, number_same}
use Rattle.ch_laws_connections.specs.Arrivals.{made_at, Meets}
use Rattle.ch_laws_lives.specs.Rolls.{roll_of, Permits, ArePermitted, notes_in, LivesOn}
use Rattle.ch_laws_race.specs.Scene.{Party}
use Rattle.ch_laws_peers.specs.Reads.{IsBoundBy, after_first, gets_of, IsOfPair, AllLeadHere}
use Rattle.ch_laws_messages.proofs.GotLists.{clash, some_is, first_stays}
use Rattle.ch_laws_messages.proofs.GotMoves.{has_conn, GetsAt, Lives, Stays, gets_stay, found_in, gets_open, of_pair_opens}
use Rattle.ch_laws_messages.proofs.GotLiving.{roll_living, lives_of, all_lead_here}
use Rattle.ch_laws_messages.proofs.GotBounds.{AreAlone, SameGot, IsAt, bound_then, found_bound, gets_bind, GotMore, gets_more}
use Rattle.ch_laws_messages.proofs.GotArrivals.{next_absent, next_free, IsKept, kept_there, created_is, IsClosed, closed_is}
use Rattle.ch_laws_messages.proofs.GotNodes.{ok_is, void_does, opening_does, GotOr, message_does, departs_stay}

-- one message more was got of this pair, and no more of any other of the two nodes
abbrev pub GotOne : Names → Party → Party → ProcessId → ProcessId → List Entry → List Entry → Type 0
GotOne known a b from to log after = (p q : ProcName) → p.node ≡ a.name → q.node ≡ b.name → gets_of p q after ≡ gets_of p q log + cond (same_process (process_called known from) p && same_target (names.Process (process_called known to)) (names.Process q)) 1 0

abbrev pub tells_got : ProcessId → ProcessId → List Act
tells_got from to = acts.Note (notes.Got from (targets.Process to) (Some to)) ∷ []

-- a message was got on the connection under this id, from and to these processes, and all that was read there before had been
pub record GotSo (journal : List Line) (known : Names) (a b : Party) (node : NodeState) (from to : ProcessId) (id : ℕ) (before : List (ℕ × List ℕ)) (log : List Entry) : Type 0 where
  pub pair : IsOfPair journal known a.name b.name from to
  pub opened : first_payload id before ≡ Some (message (Opening (ends.Process from) (ends.Process to)))
  pub living : is_living node to ≡ true
  pub counted : gets_of (process_called known from) (process_called known to) log ≡ after_first id before

-- The node told nothing, or that it got a message of a process of the first node, of which more is known; what is got of the first node
-- then is as it should be; and what has arrived from others stays.
pub record EventDone (journal : List Line) (known : Names) (a b : Party) (S : Type 0) (node next : NodeState) (did : List Act) (now : List Connection) (id : ℕ) (before read : List (ℕ × List ℕ)) (log : List Entry) : Type 0 where
  pub told : ((did ≡ []) × ((after : List Entry) → SameGot a b log after → GetsAt journal known a b (Some next) now read after))
      ⊎ ((from : ProcessId) × (to : ProcessId) × (did ≡ tells_got from to) × GotSo journal known a b node from to id before log × S × ((after : List Entry) → GotOne known a b from to log after → GetsAt journal known a b (Some next) now read after))
  pub stays : (peer : Address) → same_node a.address peer ≡ false → Stays peer node next

-- what is read next under an id: the opening of a pair, or a user's message
pub record ReadsOpening (journal : List Line) (known : Names) (a b : Party) (payload : List ℕ) : Type 0 where
  pub from : ProcessId
  pub to : ProcessId
  pub pair : IsOfPair journal known a.name b.name from to
  pub is : payload ≡ message (Opening (ends.Process from) (ends.Process to))

pub record ReadsMessage (payload : List ℕ) : Type 0 where
  pub said : Message
  pub is : payload ≡ user said
  pub marked : is_name said.mark ≡ true

abbrev pub ReadsWord : List Line → Names → Party → Party → List ℕ → Option (List ℕ) → Type 0
ReadsWord journal known a b payload None = ReadsOpening journal known a b payload
ReadsWord journal known a b payload (Some opening) = ReadsMessage payload

leads_here : (node next : NodeState) (did : List Act) → LivesOn node did next → AllLeadHere next.own next.arrived
leads_here node next did l = all_lead_here next.own next.arrived l.reached

-- what is as it was of its processes, and has no more from this peer
same_lives : (node : NodeState) → Lives node node
same_lives node = record { own = refl; unique = refl; mail = omega arith; back = λ to less e. e }

-- ---- a connection is opened

pub created_done : (journal : List Line) (known : Names) (a b : Party) (S : Type 0) (host : HostState) (end : ℕ) (node next : NodeState) (did : List Act) (now : List Connection) (id : ℕ) (read : List (ℕ × List ℕ)) (log : List Entry) → Meets host end node.arrived → LivesOn node did next → GetsAt journal known a b (Some node) (made_at host end a.address) read log
    → created_of (made_at host end a.address) id (next_arrival host end) ≡ Ok now → node_event node (events.ConnectionOpened (next_arrival host end) a.address) ≡ Ok (did, next) → EventDone journal known a b S node next did now id read read log
unfolding node_event arrives
created_done journal known a b S host end node next did now id read log m lives g created e = record {
  told = inl (
    sym (ap (λ (x : List Act × NodeState). x.0) same),
    λ after got. subst (λ (n : NodeState). GetsAt journal known a b (Some n) now read after) is
        (subst (λ (l : List Connection). GetsAt journal known a b (Some new) l read after) (sym (created_is (made_at host end a.address) now id conn created))
        (gets_open journal known a b node (made_at host end a.address) conn a.address read log after g (next_absent host end node.arrived m) (next_free host end node.arrived m a.address) got (subst (λ (n : NodeState). AllLeadHere n.own n.arrived) (sym is) (leads_here node next did lives)))),
  );
  stays = λ peer other. record { lives = lives_of node next did lives; arrived = λ x found from. older x peer other from (ap (λ (n : NodeState). find (has_conn x.conn) n.arrived) is ∙ found) };
} where
  conn : ℕ
  conn = next_arrival host end

  new : NodeState
  new = arrives node conn a.address

  same : ◌≡◌ {A = List Act × NodeState} ([], arrives node (next_arrival host end) a.address) (did, next)
  same = ok_is ([], arrives node (next_arrival host end) a.address) (did, next) e

  is : arrives node (next_arrival host end) a.address ≡ next
  is = ap (λ (x : List Act × NodeState). x.1) same

  older : (x : Arrived) (peer : Address) → same_node a.address peer ≡ false → same_node x.peer peer ≡ true → find (has_conn x.conn) (arrives node (next_arrival host end) a.address).arrived ≡ Some x → find (has_conn x.conn) node.arrived ≡ Some x
  older x peer other from found = by_found (found_in (has_conn x.conn) node.arrived (record { conn = next_arrival host end; peer = a.address; bound = Unread }) x found) where
    by_found : (find (has_conn x.conn) node.arrived ≡ Some x) ⊎ ((has_conn x.conn (record { conn = next_arrival host end; peer = a.address; bound = Unread }) ≡ true) × (record { conn = next_arrival host end; peer = a.address; bound = Unread } ≡ x)) → find (has_conn x.conn) node.arrived ≡ Some x
    by_found (inl old) = old
    by_found (inr w) = clash (sym from ∙ ap (λ (y : Arrived). same_node y.peer peer) (sym w.1) ∙ other)

-- ---- one is closed

pub closed_done : (journal : List Line) (known : Names) (a b : Party) (S : Type 0) (node next : NodeState) (did : List Act) (created now : List Connection) (id conn : ℕ) (read : List (ℕ × List ℕ)) (log : List Entry) → LivesOn node did next → GetsAt journal known a b (Some node) created read log → closed_of created id ≡ Ok (conn, now) → node_event node (events.ConnectionClosed conn) ≡ Ok (did, next)
    → EventDone journal known a b S node next did now id read read log
unfolding node_event
closed_done journal known a b S node next did created now id conn read log lives g closed e = record {
  told = inl (
    sym (ap (λ (x : List Act × NodeState). x.0) same),
    λ after got. gets_stay journal known a b (Some node) (Some next) created now read log after g (λ n at. (node, refl, subst (Stays a.address node) (some_is next n at) (stay a.address)))
        (λ n x key at found from given. sym (gone.others x.conn (λ same_conn. (left x (ap (λ (o : NodeState). find (has_conn x.conn) o.arrived) (some_is next n at) ∙ found)).0 (sym same_conn))) ∙ given) (long gone.long) got (λ n at. subst (λ (o : NodeState). AllLeadHere o.own o.arrived) (some_is next n at) (leads_here node next did lives)),
  );
  stays = λ peer other. stay peer;
} where
  same : ◌≡◌ {A = List Act × NodeState} ([], departs node conn) (did, next)
  same = ok_is ([], departs node conn) (did, next) e

  is : departs node conn ≡ next
  is = ap (λ (x : List Act × NodeState). x.1) same

  gone : IsClosed created now conn
  gone = closed_is created now id conn closed

  long : length now ≡ length created → length created ≤ length now
  long h = omega arith

  left : (x : Arrived) → find (has_conn x.conn) next.arrived ≡ Some x → (conn ≡ x.conn → ⊥) × (find (has_conn x.conn) node.arrived ≡ Some x)
  left x found = departs_stay node conn x (ap (λ (n : NodeState). find (has_conn x.conn) n.arrived) is ∙ found)

  stay : (peer : Address) → Stays peer node next
  stay peer = record { lives = lives_of node next did lives; arrived = λ x found from. (left x found).1 }

-- ---- a payload is read

-- where the payload is on a connection from the first node
is_at : (a : Party) (host : HostState) (end : ℕ) (node : NodeState) (id conn : ℕ) (k : IsKept host end a.address node.arrived id conn) → IsAt a node (made_at host end a.address) k.one id
is_at a host end node id conn k = record {
  there = ap (λ (c : ℕ). find (has_conn c) node.arrived) k.conn_is ∙ k.there;
  peer = ap (λ (p : Address). same_node p a.address) k.peer_is ∙ node_self a.address;
  given = ap (id_of (made_at host end a.address)) k.conn_is ∙ k.given;
}

opening_done : (journal : List Line) (known : Names) (a b : Party) (S : Type 0) (host : HostState) (end : ℕ) (node next : NodeState) (did : List Act) (id conn : ℕ) (payload : List ℕ) (read : List (ℕ × List ℕ)) (log : List Entry) → LivesOn node did next → GetsAt journal known a b (Some node) (made_at host end a.address) read log
    → (k : IsKept host end a.address node.arrived id conn) → first_payload id read ≡ None → ReadsOpening journal known a b payload → AreAlone (read ++ (id, payload) ∷ []) → node_event node (events.Received conn payload) ≡ Ok (did, next) → EventDone journal known a b S node next did (made_at host end a.address) id read (read ++ (id, payload) ∷ []) log
unfolding bind
opening_done journal known a b S host end node next did id conn payload read log lives g k unread o alone e = record {
  told = inl (
    does.0,
    λ after got. subst (λ (w : List ℕ). GetsAt journal known a b (Some next) (made_at host end a.address) (read ++ (id, w) ∷ []) after) (sym o.is) (subst (λ (n : NodeState). GetsAt journal known a b (Some n) (made_at host end a.address) (read ++ (id, the_opening) ∷ []) after) (sym does.1)
        (gets_bind journal known a b node (made_at host end a.address) k.one id here o.from o.to read log after g at unread o.pair (subst (λ (w : List ℕ). AreAlone (read ++ (id, w) ∷ [])) o.is alone) got (subst (λ (n : NodeState). AllLeadHere node.own n.arrived) does.1 (subst (λ (w : Address). AllLeadHere w next.arrived) (lives_of node next did lives).own (leads_here node next did lives))))),
  );
  stays = λ peer other. record { lives = lives_of node next did lives; arrived = λ x found from. older x peer other from (ap (λ (n : NodeState). find (has_conn x.conn) n.arrived) (sym does.1) ∙ found) };
} where
  the_opening : List ℕ
  the_opening = message (Opening (ends.Process o.from) (ends.Process o.to))

  here : Bool
  here = same_node o.from.node k.one.peer && is_here node o.to.node

  at : IsAt a node (made_at host end a.address) k.one id
  at = is_at a host end node id conn k

  is_unread : (bound : Bound) → k.one.bound ≡ bound → IsBoundBy None bound → k.one.bound ≡ Unread
  is_unread Unread u b = u
  is_unread Void u b = absurd b
  is_unread FromNode u b = absurd b
  is_unread (ToNames from) u b = absurd b
  is_unread (ToTarget from to) u b = absurd b

  unbound : k.one.bound ≡ Unread
  unbound = is_unread k.one.bound refl (subst (λ (f : Option (List ℕ)). IsBoundBy f k.one.bound) unread (g.binds node k.one id refl at.there at.peer at.given))

  does : (did ≡ []) × (next ≡ bind node k.one.conn (bound_then (same_node o.from.node k.one.peer && is_here node o.to.node) (is_living node o.to) o.from o.to))
  does = opening_does node conn k.one o.from o.to did next k.there unbound o.pair.from_fits o.pair.to_fits (ap (λ (w : List ℕ). node_event node (events.Received conn w)) (sym o.is) ∙ e)

  older : (x : Arrived) (peer : Address) → same_node a.address peer ≡ false → same_node x.peer peer ≡ true → find (has_conn x.conn) (bind node k.one.conn (bound_then (same_node o.from.node k.one.peer && is_here node o.to.node) (is_living node o.to) o.from o.to)).arrived ≡ Some x → find (has_conn x.conn) node.arrived ≡ Some x
  older x peer other from found = by_conn it.0 it.1 it.2 (it.0.conn == k.one.conn) refl where
    now : Bound
    now = bound_then (same_node o.from.node k.one.peer && is_here node o.to.node) (is_living node o.to) o.from o.to

    it : (old : Arrived) × (find (has_conn x.conn) node.arrived ≡ Some old) × (x ≡ rebound k.one.conn (bound_then (same_node o.from.node k.one.peer && is_here node o.to.node) (is_living node o.to) o.from o.to) old)
    it = found_bound k.one.conn x.conn (bound_then (same_node o.from.node k.one.peer && is_here node o.to.node) (is_living node o.to) o.from o.to) node.arrived x found

    by_conn : (old : Arrived) → find (has_conn x.conn) node.arrived ≡ Some old → x ≡ rebound k.one.conn (bound_then (same_node o.from.node k.one.peer && is_here node o.to.node) (is_living node o.to) o.from o.to) old → (t : Bool) → (old.conn == k.one.conn) ≡ t → find (has_conn x.conn) node.arrived ≡ Some x
    by_conn old there is false h = there ∙ ap (λ (y : Arrived). Some y) (sym (is ∙ ap (λ (t : Bool). cond t (record old { bound = now }) old) h))
    by_conn old there is true h =
        let so : x ≡ record old { bound = bound_then (same_node o.from.node k.one.peer && is_here node o.to.node) (is_living node o.to) o.from o.to } = is ∙ ap (λ (t : Bool). cond t (record old { bound = bound_then (same_node o.from.node k.one.peer && is_here node o.to.node) (is_living node o.to) o.from o.to }) old) h in
        let one : old ≡ k.one = some_is old k.one (sym there ∙ ap (λ (c : ℕ). find (has_conn c) node.arrived) (ap (λ (y : Arrived). y.conn) so ∙ number_is old.conn k.one.conn h) ∙ at.there) in
        let mine : x.peer ≡ a.address = ap (λ (y : Arrived). y.peer) so ∙ ap (λ (y : Arrived). y.peer) one ∙ k.peer_is in
        clash (sym from ∙ ap (λ (p : Address). same_node p peer) mine ∙ other)

-- what one more of a pair is: of that pair alone
one_more : (journal : List Line) (known : Names) (a b : Party) (from to : ProcessId) (opening : List ℕ) (log after : List Entry) → IsOfPair journal known a.name b.name from to → opening ≡ message (Opening (ends.Process from) (ends.Process to)) → GotOne known a b from to log after → GotMore journal opening a b log after
one_more journal known a b from to opening log after pair is got p q x y = by_test (same_process (process_called known from) p && same_process (process_called known to) q) refl (got p q x y) where
  none : (n m : ℕ) → n ≡ m + 0 → n ≡ m
  none n m e = omega arith

  more : (n m : ℕ) → n ≡ m + 1 → n ≡ suc m
  more n m e = omega arith

  process_is : (one two : ProcName) → same_process one two ≡ true → one ≡ two
  process_is one two h = let parts = and_parts (bytes_eq one.node two.node) (one.counter == two.counter) h in
      ap (λ (n : List ℕ). record { node = n; counter = one.counter }) ((bytes_eq-Decides one.node two.node).0 parts.0) ∙ ap (λ (n : ℕ). record { node = two.node; counter = n }) (number_is one.counter two.counter parts.1)

  by_test : (t : Bool) → (same_process (process_called known from) p && same_process (process_called known to) q) ≡ t → gets_of p q after ≡ gets_of p q log + cond t 1 0 → (gets_of p q after ≡ gets_of p q log) ⊎ ((gets_of p q after ≡ suc (gets_of p q log)) × (pair_opening journal p (names.Process q) ≡ Some opening))
  by_test false h e = inl (none (gets_of p q after) (gets_of p q log) e)
  by_test true h e =
      let parts = and_parts (same_process (process_called known from) p) (same_process (process_called known to) q) h in
      inr (
        more (gets_of p q after) (gets_of p q log) e,
        ap (λ (w : ProcName). pair_opening journal w (names.Process q)) (sym (process_is (process_called known from) p parts.0)) ∙ ap (λ (w : ProcName). pair_opening journal (process_called known from) (names.Process w)) (sym (process_is (process_called known to) q parts.1))
            ∙ of_pair_opens journal known a.name b.name from to pair ∙ ap Some (sym is),
      )

pub same_itself : (p : ProcName) → same_process p p ≡ true
same_itself p = ap (λ (t : Bool). t && (p.counter == p.counter)) ((bytes_eq-Decides p.node p.node).1 refl) ∙ number_same p.counter

message_done : (journal : List Line) (known : Names) (a b : Party) (S : Type 0) (host : HostState) (end : ℕ) (node next : NodeState) (did : List Act) (id conn : ℕ) (payload opening : List ℕ) (read : List (ℕ × List ℕ)) (log : List Entry) → LivesOn node did next → GetsAt journal known a b (Some node) (made_at host end a.address) read log
    → (k : IsKept host end a.address node.arrived id conn) → first_payload id read ≡ Some opening → ReadsMessage payload → S → AreAlone read → node_event node (events.Received conn payload) ≡ Ok (did, next) → EventDone journal known a b S node next did (made_at host end a.address) id read (read ++ (id, payload) ∷ []) log
message_done journal known a b S host end node next did id conn payload opening read log lives g k opened r says alone e = by_bound k.one.bound refl (subst (λ (f : Option (List ℕ)). IsBoundBy f k.one.bound) opened (g.binds node k.one id refl at.there at.peer at.given)) where
  at : IsAt a node (made_at host end a.address) k.one id
  at = is_at a host end node id conn k

  -- what has arrived stands
  stay : next.arrived ≡ node.arrived → (peer : Address) → Stays peer node next
  stay same peer = record { lives = lives_of node next did lives; arrived = λ x found from. ap (λ (l : List Arrived). find (has_conn x.conn) l) (sym same) ∙ found }

  gets : next.arrived ≡ node.arrived → (after : List Entry) → GotMore journal opening a b log after → ((from to : ProcessId) → k.one.bound ≡ ToTarget from (targets.Process to) → is_living next to ≡ true → gets_of (process_called known from) (process_called known to) after ≡ suc (gets_of (process_called known from) (process_called known to) log))
      → GetsAt journal known a b (Some next) (made_at host end a.address) (read ++ (id, payload) ∷ []) after
  gets same after more got = gets_more journal known a b node next (made_at host end a.address) k.one id payload opening read log after g at opened alone (stay same a.address) more got (leads_here node next did lives)

  quiet : (did ≡ []) → next ≡ node → ((from to : ProcessId) → k.one.bound ≡ ToTarget from (targets.Process to) → is_living next to ≡ true → ⊥) → EventDone journal known a b S node next did (made_at host end a.address) id read (read ++ (id, payload) ∷ []) log
  quiet none is off = record { told = inl (none, λ after got. gets (ap (λ (n : NodeState). n.arrived) is) after (λ p q x y. inl (got p q x y)) (λ from to b living. absurd (off from to b living))); stays = λ peer other. stay (ap (λ (n : NodeState). n.arrived) is) peer }

  reads_user : node_event node (events.Received conn (user r.said)) ≡ Ok (did, next)
  reads_user = ap (λ (w : List ℕ). node_event node (events.Received conn w)) (sym r.is) ∙ e

  by_got : (from to : ProcessId) → k.one.bound ≡ ToTarget from (targets.Process to) → opening ≡ message (Opening (ends.Process from) (ends.Process to)) → GotOr node from to did next → EventDone journal known a b S node next did (made_at host end a.address) id read (read ++ (id, payload) ∷ []) log
  by_got from to h is (inr w) = quiet w.0 w.1 (λ by target c living. w.2 (ap (λ (n : NodeState). is_living n to) (sym w.1) ∙ ap (is_living next) (target_same by target c) ∙ living)) where
    target_same : (by target : ProcessId) → k.one.bound ≡ ToTarget by (targets.Process target) → to ≡ target
    target_same by target c = let both : ToTarget from (targets.Process to) ≡ ToTarget by (targets.Process target) = sym h ∙ c in cc
  by_got from to h is (inl w) = record {
    told = inr (from, to, w.0, record { pair = pair; opened = opened ∙ ap Some is; living = living; counted = g.all node k.one from to id refl at.there at.peer h living at.given }, says, λ after got. gets (ap (λ (n : NodeState). n.arrived) w.1) after (one_more journal known a b from to opening log after pair is got) (λ by target c living. counted by target c after got));
    stays = λ peer other. stay (ap (λ (n : NodeState). n.arrived) w.1) peer;
  } where
    pair : IsOfPair journal known a.name b.name from to
    pair = g.pairs node k.one from to refl at.there at.peer h

    got_permitted : Permits (roll_of node) (notes.Got from (targets.Process to) (Some to))
    got_permitted = (subst (λ (l : List Act). ArePermitted (notes_in l) (roll_of node)) w.0 lives.tells.permitted).0

    living : is_living node to ≡ true
    living = roll_living node to (g.made node k.one from to refl at.there at.peer h).0 got_permitted.there

    one : (n m : ℕ) → n ≡ m + 1 → n ≡ suc m
    one n m e = omega arith

    its_count : (after : List Entry) → GotOne known a b from to log after → gets_of (process_called known from) (process_called known to) after ≡ suc (gets_of (process_called known from) (process_called known to) log)
    its_count after got = one (gets_of (process_called known from) (process_called known to) after) (gets_of (process_called known from) (process_called known to) log)
        (got (process_called known from) (process_called known to) pair.from_node pair.to_node
        ∙ ap (λ (t : Bool). gets_of (process_called known from) (process_called known to) log + cond (t && same_process (process_called known to) (process_called known to)) 1 0) (same_itself (process_called known from))
        ∙ ap (λ (t : Bool). gets_of (process_called known from) (process_called known to) log + cond t 1 0) (same_itself (process_called known to)))

    counted : (by target : ProcessId) → k.one.bound ≡ ToTarget by (targets.Process target) → (after : List Entry) → GotOne known a b from to log after → gets_of (process_called known by) (process_called known target) after ≡ suc (gets_of (process_called known by) (process_called known target) log)
    counted by target c after got =
        let both : ToTarget from (targets.Process to) ≡ ToTarget by (targets.Process target) = sym h ∙ c in
        let one : from ≡ by = cc in
        let two : to ≡ target = cc in
        subst (λ (v : ProcessId). gets_of (process_called known by) (process_called known v) after ≡ suc (gets_of (process_called known by) (process_called known v) log)) two
        (subst (λ (v : ProcessId). gets_of (process_called known v) (process_called known to) after ≡ suc (gets_of (process_called known v) (process_called known to) log)) one (its_count after got))

  by_bound : (bound : Bound) → k.one.bound ≡ bound → IsBoundBy (Some opening) k.one.bound → EventDone journal known a b S node next did (made_at host end a.address) id read (read ++ (id, payload) ∷ []) log
  by_bound Unread b i = absurd (subst (IsBoundBy (Some opening)) b i)
  by_bound Void b i = let does = void_does node conn payload k.one did next k.there b e in quiet does.0 does.1 (λ from to c living. let never : Void ≡ ToTarget from (targets.Process to) = sym b ∙ c in absurd cc)
  by_bound FromNode b i = absurd (subst (IsBoundBy (Some opening)) b i)
  by_bound (ToNames from) b i = absurd (subst (IsBoundBy (Some opening)) b i)
  by_bound (ToTarget from (targets.Process to)) b i = by_got from to b (subst (IsBoundBy (Some opening)) b i) (message_does node conn r.said k.one from to did next k.there b r.marked reads_user)
  by_bound (ToTarget from (targets.Port to)) b i = absurd (subst (IsBoundBy (Some opening)) b i)
  by_bound (ToTarget from (targets.Named at name)) b i = absurd (subst (IsBoundBy (Some opening)) b i)

alone_before : (read : List (ℕ × List ℕ)) (word : ℕ × List ℕ) → AreAlone (read ++ word ∷ []) → AreAlone read
alone_before read word alone i j opening e f = alone i j opening (first_stays i read (word ∷ []) opening e) (first_stays j read (word ∷ []) opening f)

pub data_done : (journal : List Line) (known : Names) (a b : Party) (S : Type 0) (host : HostState) (end : ℕ) (node next : NodeState) (did : List Act) (id conn : ℕ) (payload : List ℕ) (read : List (ℕ × List ℕ)) (log : List Entry) → Meets host end node.arrived → LivesOn node did next → GetsAt journal known a b (Some node) (made_at host end a.address) read log
    → conn_of (made_at host end a.address) id ≡ Ok conn → ReadsWord journal known a b payload (first_payload id read) → ((opening : List ℕ) → first_payload id read ≡ Some opening → S) → AreAlone (read ++ (id, payload) ∷ []) → node_event node (events.Received conn payload) ≡ Ok (did, next) → EventDone journal known a b S node next did (made_at host end a.address) id read (read ++ (id, payload) ∷ []) log
data_done journal known a b S host end node next did id conn payload read log m lives g at word says alone e = by_first (first_payload id read) refl word where
  k : IsKept host end a.address node.arrived id conn
  k = kept_there host end a.address node.arrived id conn m at

  by_first : (o : Option (List ℕ)) → first_payload id read ≡ o → ReadsWord journal known a b payload o → EventDone journal known a b S node next did (made_at host end a.address) id read (read ++ (id, payload) ∷ []) log
  by_first None f w = opening_done journal known a b S host end node next did id conn payload read log lives g k f w alone e
  by_first (Some opening) f w = message_done journal known a b S host end node next did id conn payload opening read log lives g k f w (says opening f) (alone_before read (id, payload) alone) e
