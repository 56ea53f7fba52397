-- Whatever a cell makes of an event, each of its nodes that isn't shut keeps what the host has created.
use Rattle.std.proofs.Common.{◌≡◌, ◌≤◌, ℕ, zero, suc, ◌+◌, Bool, true, false, cond, not, ◌&&◌, ◌||◌, List, [], ◌∷◌, ◌++◌, Ok, Err, refl, sym, ap, ◌∙◌, subst, arith}
use Rattle.std.specs.List.{list_any}
use Rattle.std.specs.Prelude.{find, filter, ◌==◌, Option, Some, None, Result}
use Rattle.ch_base.specs.declared.address.Address.{Address}
use Rattle.ch_base.specs.declared.event.Event.{Event}
use Rattle.ch_base.specs.declared.event.Event.TheVariants as told_events
use Rattle.ch_base.specs.declared.memory.Stop.{Stop}
use Rattle.ch_watch.specs.Same.{same_node}
use Rattle.ch_model.specs.declared.act.Act.{Act}
use Rattle.ch_model.specs.declared.local.LocalEntry.{LocalEntry}
use Rattle.ch_model.specs.declared.local.LocalEntry.TheVariants as local
use Rattle.ch_model.specs.declared.step.Step.{Step}
use Rattle.ch_model.specs.declared.step.Step.TheVariants as steps
use Rattle.ch_model.specs.CellSteps.{Followed, after_entries, ◌then◌, is_at, store_node, with_node, act_on, acts_on, node_followed, posted, steps_on, kept_bytes, items_on, all_items}
use Rattle.ch_model.specs.Host.{host_next}
use Rattle.ch_model.specs.HostState.{Endpoint, HostState}
use Rattle.ch_model.specs.HostSteps.{is_endpoint, is_open_endpoint}
use Rattle.ch_model.specs.NodeArrivals.{arrives, departs}
use Rattle.ch_model.specs.NodeState.{NodeState, Arrived}
use Rattle.ch_model.specs.Node.{node_event}
use Rattle.ch_model.specs.WorldState.{Cell}
use Rattle.ch_laws_log.proofs.Keys.{node_is}
use Rattle.ch_laws_log.proofs.Posts.{PostsLast, next_last}
use Rattle.ch_laws_log.proofs.Stored.{number_is, number_same}
use Rattle.ch_laws_connections.specs.Tables.{LinksApart, is_standing}
use Rattle.ch_laws_connections.specs.Senders.{Sender, sender_of, Own, once, total}
use Rattle.ch_laws_connections.specs.Fits.{FitsAs, Fits, CellFits}
use Rattle.ch_laws_connections.specs.Arrivals.{made_at, made_so, has_come, after_told, MadeOnce, MeetsAs, CellMeets}
use Rattle.ch_laws_connections.proofs.HostLinks.{Goes}
use Rattle.ch_laws_connections.proofs.HostItems.{next_goes}
use Rattle.ch_laws_connections.proofs.Acts.{After, act_fits, acts_fit}
use Rattle.ch_laws_connections.proofs.Does.{Any, AllDo}
use Rattle.ch_laws_connections.proofs.Nodes as nodes
use Rattle.ch_laws_connections.proofs.Nodes.{AllLeft}
use Rattle.ch_laws_connections.proofs.Arriving as arriving
use Rattle.ch_laws_connections.proofs.Arriving.{come_in}
use Rattle.ch_laws_connections.proofs.Cells.{AllFit, Awaits, stored_there, stored_other, awaits, awaits_same, event_fits, steps_from}
use Rattle.ch_laws_connections.proofs.MadeLinks.{Quiet, at_rest, onward}
use Rattle.ch_laws_connections.proofs.MadeItems.{Comes, HasEnd, fewer_once, next_comes}
use Rattle.ch_laws_connections.proofs.MadeCalls.{ActQuiet, act_quiet}

abbrev pub AllMeet : {S E : Type 0} → Result (S × Cell) E → Type 0
AllMeet (Ok done) = CellMeets done.1
AllMeet (Err e) = Unit {0}

-- ---- lists of arrivals

abbrev pair_come : ℕ → Address → ℕ × Address → ℕ
pair_come c p k = cond (same_node k.1 p) (once (k.0 == c)) 0

listed : (c : ℕ) (p : Address) (all : List Arrived) → total (has_come c p) all ≡ total (pair_come c p) (come_in all)
listed c p [] = refl
listed c p (a ∷ rest) = ap (λ n. has_come c p a + n) (listed c p rest)

same_come : (c : ℕ) (p : Address) (one two : List Arrived) → come_in two ≡ come_in one → total (has_come c p) two ≡ total (has_come c p) one
same_come c p one two e = listed c p two ∙ ap (total (pair_come c p)) e ∙ sym (listed c p one)

none : (n : ℕ) → n ≡ 0 + n
none n = omega arith

come_last : (c n : ℕ) (p peer : Address) (x : Arrived) (all : List Arrived) → x.conn ≡ n → x.peer ≡ peer → total (has_come c p) (all ++ x ∷ []) ≡ once ((n == c) && same_node peer p) + total (has_come c p) all
come_last c n p peer x [] e f = ap (λ (m : ℕ). cond (same_node x.peer p) (once (m == c)) 0 + 0) e ∙ ap (λ (q : Address). cond (same_node q p) (once (n == c)) 0 + 0) f ∙ by_both (same_node peer p) (n == c) where
  by_both : (b d : Bool) → cond b (once d) 0 + 0 ≡ once (d && b) + 0
  by_both true true = refl
  by_both true false = refl
  by_both false true = refl
  by_both false false = refl
come_last c n p peer x (a ∷ rest) e f = ap (λ k. has_come c p a + k) (come_last c n p peer x rest e f) ∙ turned (has_come c p a) (once ((n == c) && same_node peer p)) (total (has_come c p) rest) where
  turned : (a b t : ℕ) → a + (b + t) ≡ b + (a + t)
  turned a b t = omega arith

come_closed : (c n : ℕ) (p : Address) (all : List Arrived) → total (has_come c p) (filter (λ a. not (a.conn == n)) all) ≡ cond (n == c) 0 (total (has_come c p) all)
come_closed c n p [] = sym (no_more (n == c)) where
  no_more : (b : Bool) → cond {A = ℕ} b 0 0 ≡ 0
  no_more true = refl
  no_more false = refl
come_closed c n p (a ∷ rest) = by_tests (a.conn == n) refl (n == c) refl (come_closed c n p rest) where
  F : List Arrived
  F = filter (λ a. not (a.conn == n)) rest

  no_has : (S : Bool) → cond {A = ℕ} S 0 0 ≡ 0
  no_has true = refl
  no_has false = refl

  none_has : (a.conn == c) ≡ false → has_come c p a ≡ 0
  none_has h = ap (λ b. cond (same_node a.peer p) (once b) 0) h ∙ no_has (same_node a.peer p)

  by_tests : (b : Bool) → (a.conn == n) ≡ b → (d : Bool) → (n == c) ≡ d → total (has_come c p) F ≡ cond d 0 (total (has_come c p) rest) → total (has_come c p) (cond (not b) (a ∷ F) F) ≡ cond d 0 (has_come c p a + total (has_come c p) rest)
  by_tests true h true g e = e
  by_tests true h false g e = e ∙ none (total (has_come c p) rest) ∙ ap (λ k. k + total (has_come c p) rest) (sym (none_has (ap (λ (m : ℕ). m == c) (number_is a.conn n h) ∙ g)))
  by_tests false h true g e = ap (λ k. k + total (has_come c p) F) (none_has (ap (λ (m : ℕ). a.conn == m) (sym (number_is n c g)) ∙ h)) ∙ sym (none (total (has_come c p) F)) ∙ e
  by_tests false h false g e = ap (λ k. has_come c p a + k) e

come_lost : (c : ℕ) (p peer : Address) (all : List Arrived) → total (has_come c p) (filter (λ a. not (same_node a.peer peer)) all) ≡ cond (same_node peer p) 0 (total (has_come c p) all)
come_lost c p peer [] = sym (no_more (same_node peer p)) where
  no_more : (b : Bool) → cond {A = ℕ} b 0 0 ≡ 0
  no_more true = refl
  no_more false = refl
come_lost c p peer (a ∷ rest) = by_tests (same_node a.peer peer) refl (same_node peer p) refl (come_lost c p peer rest) where
  F : List Arrived
  F = filter (λ a. not (same_node a.peer peer)) rest

  by_tests : (b : Bool) → same_node a.peer peer ≡ b → (d : Bool) → same_node peer p ≡ d → total (has_come c p) F ≡ cond d 0 (total (has_come c p) rest) → total (has_come c p) (cond (not b) (a ∷ F) F) ≡ cond d 0 (has_come c p a + total (has_come c p) rest)
  by_tests true h true g e = e
  by_tests true h false g e = e ∙ none (total (has_come c p) rest) ∙ ap (λ b. cond b (once (a.conn == c)) 0 + total (has_come c p) rest) (sym (ap (λ (q : Address). same_node q p) (node_is a.peer peer h) ∙ g))
  by_tests false h true g e = ap (λ b. cond b (once (a.conn == c)) 0 + total (has_come c p) F) (ap (same_node a.peer) (sym (node_is peer p g)) ∙ h) ∙ sym (none (total (has_come c p) F)) ∙ e
  by_tests false h false g e = ap (λ k. has_come c p a + k) e

-- ---- a host whose tables are the same

pub quiet_meets : (b : Bool) (one two : HostState) (end : ℕ) (arrived : List Arrived) → ((p : Address) → made_at two end p ≡ made_at one end p) → Rattle.ch_model.specs.HostItems.arrived_at two end ≡ Rattle.ch_model.specs.HostItems.arrived_at one end → MeetsAs b one end arrived → MeetsAs b two end arrived
quiet_meets true one two end arrived q k m = tt
quiet_meets false one two end arrived q k m = (fewer_once end one two (λ c p. below (made_so two end c p) (made_so one end c p) (so c p)) k m.0, λ c p. so c p ∙ m.1 c p) where
  so : (c : ℕ) (p : Address) → made_so two end c p ≡ made_so one end c p
  so c p = ap (λ (t : List Rattle.ch_light.specs.declared.Connection.Connection). Rattle.ch_laws_connections.specs.Tables.open_in t c) (q p)

  below : (a b : ℕ) → a ≡ b → a ≤ b
  below a b e = omega arith

pub listed_meets : (b : Bool) (host : HostState) (end : ℕ) (one two : List Arrived) → come_in two ≡ come_in one → MeetsAs b host end one → MeetsAs b host end two
listed_meets true host end one two e m = tt
listed_meets false host end one two e m = (m.0, λ c p. m.1 c p ∙ sym (same_come c p one two e))

-- ---- acts

acts_quiet : (b : Bool) (end : ℕ) (done : List Act) (s : Sender) (cell : Cell) → LinksApart cell.host.links → FitsAs b cell.host end done s → ActQuiet cell (acts_on end done cell)
acts_quiet b end [] s cell l f = at_rest cell.host
acts_quiet b end (act ∷ rest) s cell l f = by_first (act_on end act cell) (act_fits b end act rest s cell l f) (act_quiet end act cell l) (acts_quiet b end rest s) where
  by_more : (first : List LocalEntry × Cell) → Quiet cell.host first.1.host → (more : Followed) → ActQuiet first.1 more → ActQuiet cell (after_entries first.0 more)
  by_more first q (Ok more) a = onward cell.host first.1.host more.1.host q a
  by_more first q (Err stop) a = tt

  by_first : (first : Followed) → After end cell b rest s first → ActQuiet cell first → ((next : Cell) → LinksApart next.host.links → FitsAs b next.host end rest s → ActQuiet next (acts_on end rest next)) → ActQuiet cell (first then acts_on end rest)
  by_first (Ok first) a q more = by_more first q (acts_on end rest first.1) (more first.1 (a.1.apart l) a.2)
  by_first (Err stop) a q more = tt

abbrev pub OthersMeet : ℕ → Cell → Type 0
OthersMeet end cell = (e : ℕ) (there : ℕ × NodeState) → (end == e) ≡ false → find (is_at e) cell.nodes ≡ Some there → MeetsAs there.1.is_shut cell.host e there.1.arrived

pub acts_meet : (end : ℕ) (node : NodeState) (done : List Act) (cell : Cell) → LinksApart cell.host.links → Fits cell.host end done (sender_of node) → OthersMeet end cell → MeetsAs node.is_shut cell.host end node.arrived → AllMeet (acts_on end done (with_node end node cell))
acts_meet end node done cell l f o m = by_done (acts_on end done (with_node end node cell)) (acts_fit node.is_shut end done (sender_of node) (with_node end node cell) l f.1) (acts_quiet node.is_shut end done (sender_of node) (with_node end node cell) l f.1) where
  by_done : (r : Followed) → After end (with_node end node cell) node.is_shut [] (sender_of node) r → ActQuiet (with_node end node cell) r → AllMeet r
  by_done (Err stop) a q = tt
  by_done (Ok r) a q = λ e there found. by_end e there (end == e) refl (subst (λ (l : List (ℕ × NodeState)). find (is_at e) l ≡ Some there) a.0 found) where
    by_end : (e : ℕ) (there : ℕ × NodeState) (b : Bool) → (end == e) ≡ b → find (is_at e) (store_node end node cell.nodes) ≡ Some there → MeetsAs there.1.is_shut r.1.host e there.1.arrived
    by_end e there true h found = subst (λ (n : ℕ). MeetsAs there.1.is_shut r.1.host n there.1.arrived) (number_is end e h) (subst (λ (n : NodeState). MeetsAs n.is_shut r.1.host end n.arrived) (sym (stored_there end node e there cell.nodes found h)) (quiet_meets node.is_shut cell.host r.1.host end node.arrived (q.made end) (q.counts end) m))
    by_end e there false h found = quiet_meets there.1.is_shut cell.host r.1.host e there.1.arrived (q.made e) (q.counts e) (o e there h (stored_other end node e there cell.nodes found h))

-- ---- steps that are still to be told

abbrev OwesMade : Bool → List Step → HostState → ℕ → List Arrived → Type 0
OwesMade false told host end arrived = MadeOnce host end × ((c : ℕ) (p : Address) → made_so host end c p ≡ after_told told end c p (total (has_come c p) arrived))
OwesMade true told host end arrived = Unit {0}

abbrev pub AwaitsMade : List Step → Cell → Type 0
AwaitsMade told cell = (end : ℕ) (there : ℕ × NodeState) → find (is_at end) cell.nodes ≡ Some there → OwesMade there.1.is_shut told cell.host end there.1.arrived

has_end : (end : ℕ) (ends : List Endpoint) → list_any (is_open_endpoint end) ends ≡ true → list_any (is_endpoint end) ends ≡ true
has_end end [] e = e
has_end end (x ∷ l) e = by_test (x.number == end) x.is_open e (has_end end l) where
  by_test : (a b : Bool) → ((a && b) || list_any (is_open_endpoint end) l) ≡ true → (list_any (is_open_endpoint end) l ≡ true → list_any (is_endpoint end) l ≡ true) → (a || list_any (is_endpoint end) l) ≡ true
  by_test true b e more = refl
  by_test false b e more = more e

awaits_made : (cell : Cell) (after : HostState) (told : List Step) → ((end : ℕ) → HasEnd cell.host end → Comes end cell.host told after) → CellFits cell → CellMeets cell → AwaitsMade told (record cell { host = after })
awaits_made cell after told comes f m end there found = by_shut there.1.is_shut (f.nodes end there found).1 (m end there found) where
  by_shut : (b : Bool) → FitsAs b cell.host end [] (sender_of there.1) → MeetsAs b cell.host end there.1.arrived → OwesMade b told after end there.1.arrived
  by_shut true f m = tt
  by_shut false f m = let c = comes end (has_end end cell.host.ends f.1.standing) in (c.kept m.0, λ n p. c.made m.0 n p ∙ ap (after_told told end n p) (m.1 n p))

-- what an event of its endpoint makes of the node
record EventMeets (end : ℕ) (event : Event) (node after : NodeState) : Type 0 where
  shut : after.is_shut ≡ node.is_shut
  come : (c : ℕ) (p : Address) → total (has_come c p) after.arrived ≡ after_told (steps.Post end event ∷ []) end c p (total (has_come c p) node.arrived)

abbrev AllEvents : ℕ → Event → NodeState → Result (List Act × NodeState) Stop → Type 0
AllEvents end event node (Ok one) = EventMeets end event node one.1
AllEvents end event node (Err stop) = Unit {0}

here_so : (end : ℕ) (b : Bool) → ((end == end) && b) ≡ b
here_so end b = ap (λ x. x && b) (number_same end)

event_meets : (end : ℕ) (event : Event) (node : NodeState) → Own (sender_of node) → AllEvents end event node (node_event node event)
unfolding node_event arrives departs
event_meets end (told_events.ConnectionOpened conn peer) node o = record { shut = refl; come = λ c p. come_last c conn p peer (record { conn = conn; peer = peer; bound = Rattle.ch_model.specs.NodeState.Unread }) node.arrived refl refl ∙ ap (λ b. once b + total (has_come c p) node.arrived) (sym (here_so end ((conn == c) && same_node peer p))) }
event_meets end (told_events.ConnectionClosed conn) node o = record { shut = refl; come = λ c p. come_closed c conn p node.arrived ∙ ap (λ b. cond b 0 (total (has_come c p) node.arrived)) (sym (here_so end (conn == c))) }
event_meets end told_events.EndPointClosed node o = record { shut = refl; come = λ c p. refl }
event_meets end (told_events.Received conn payload) node o = by_done (node_event node (told_events.Received conn payload)) (nodes.on_event node (told_events.Received conn payload) tt) (arriving.came node conn payload) where
  by_done : (r : Result (List Act × NodeState) Stop) → AllDo Any (sender_of node) r → arriving.Stays node r → AllEvents end (told_events.Received conn payload) node r
  by_done (Ok one) d s = record { shut = (d o).shut; come = λ c p. same_come c p node.arrived one.1.arrived s }
  by_done (Err stop) d s = tt
event_meets end (told_events.ConnectionLost peer why) node o = by_done (node_event node (told_events.ConnectionLost peer why)) (nodes.lost node peer why) (arriving.lost node peer why) where
  by_done : (r : Result (List Act × NodeState) Stop) → AllLeft peer (sender_of node) r → arriving.LostStays peer node r → AllEvents end (told_events.ConnectionLost peer why) node r
  by_done (Ok one) d s = record { shut = (d.more (d.loses.own o)).shut ∙ d.loses.shut; come = λ c p. same_come c p (filter (λ arrived. not (same_node arrived.peer peer)) node.arrived) one.1.arrived s ∙ come_lost c p peer node.arrived ∙ ap (λ b. cond b 0 (total (has_come c p) node.arrived)) (sym (here_so end (same_node peer p))) }
  by_done (Err stop) d s = tt

after_event : (host : HostState) (end : ℕ) (event : Event) (node after : NodeState) → EventMeets end event node after → OwesMade node.is_shut (steps.Post end event ∷ []) host end node.arrived → MeetsAs after.is_shut host end after.arrived
after_event host end event node after v o = subst (λ b. MeetsAs b host end after.arrived) (sym v.shut) (by_shut node.is_shut o) where
  by_shut : (b : Bool) → OwesMade b (steps.Post end event ∷ []) host end node.arrived → MeetsAs b host end after.arrived
  by_shut true o = tt
  by_shut false o = (o.0, λ c p. o.1 c p ∙ sym (v.come c p))

others_meet : (end : ℕ) (event : Event) (cell : Cell) → AwaitsMade (steps.Post end event ∷ []) cell → OthersMeet end cell
others_meet end event cell w e there h found = by_shut there.1.is_shut (w e there found) where
  untold : (event : Event) (c : ℕ) (p : Address) (n : ℕ) → after_told (steps.Post end event ∷ []) e c p n ≡ n
  untold (told_events.ConnectionOpened conn peer) c p n = ap (λ b. once (b && ((conn == c) && same_node peer p)) + n) h ∙ sym (none n)
  untold (told_events.ConnectionClosed conn) c p n = ap (λ b. cond (b && (conn == c)) 0 n) h
  untold (told_events.ConnectionLost peer why) c p n = ap (λ b. cond (b && same_node peer p) 0 n) h
  untold (told_events.Received conn payload) c p n = refl
  untold told_events.EndPointClosed c p n = refl

  by_shut : (b : Bool) → OwesMade b (steps.Post end event ∷ []) cell.host e there.1.arrived → MeetsAs b cell.host e there.1.arrived
  by_shut true o = tt
  by_shut false o = (o.0, λ c p. o.1 c p ∙ untold event c p (total (has_come c p) there.1.arrived))

posted_meets : (end : ℕ) (event : Event) (cell : Cell) → Awaits (steps.Post end event ∷ []) cell → AwaitsMade (steps.Post end event ∷ []) cell → AllMeet (posted end event cell)
posted_meets end event cell w m = by_node (find (is_at end) cell.nodes) refl where
  o : OthersMeet end cell
  o = others_meet end event cell m

  by_done : (node : ℕ × NodeState) → find (is_at end) cell.nodes ≡ Some node → (r : Result (List Act × NodeState) Stop) → node_event node.1 event ≡ r → AllEvents end event node.1 r → AllMeet (node_followed end cell r)
  by_done node e (Ok one) is v = acts_meet end one.1 one.0 cell w.links (event_fits end event cell node.1 (w.nodes end node e) one is) o (after_event cell.host end event node.1 one.1 v (m end node e))
  by_done node e (Err stop) is v = tt

  by_node : (x : Option (ℕ × NodeState)) → find (is_at end) cell.nodes ≡ x → AllMeet (elim x as (λ x. Followed) [
    | None ↦ Ok ([], cell)
    | Some node ↦ node_followed end cell (node_event node.1 event)
  ])
  by_node None e = λ n there found. by_end n there (end == n) refl found where
    by_end : (n : ℕ) (there : ℕ × NodeState) (b : Bool) → (end == n) ≡ b → find (is_at n) cell.nodes ≡ Some there → MeetsAs there.1.is_shut cell.host n there.1.arrived
    by_end n there true h found = let never : None ≡ Some there = sym e ∙ ap (λ (k : ℕ). find (is_at k) cell.nodes) (number_is end n h) ∙ found in absurd cc
    by_end n there false h found = o n there h found
  by_node (Some node) e = by_done node e (node_event node.1 event) refl (event_meets end event node.1 (w.nodes end node e).0)

step_first : (step : Step) (more : Followed) → AllMeet more → AllMeet (after_entries (local.Step step ∷ []) more)
step_first step (Ok more) f = f
step_first step (Err stop) f = tt

then_none : (r : Followed) → AllMeet r → AllMeet (r then steps_on [])
then_none (Ok r) m = m
then_none (Err stop) m = tt

at_end : (cell : Cell) → AwaitsMade [] cell → CellMeets cell
at_end cell w end there found = by_shut there.1.is_shut (w end there found) where
  by_shut : (b : Bool) → OwesMade b [] cell.host end there.1.arrived → MeetsAs b cell.host end there.1.arrived
  by_shut true o = tt
  by_shut false o = o

untold_same : (step : Step) (rest : List Step) → ((e c : ℕ) (p : Address) (n : ℕ) → after_told (step ∷ rest) e c p n ≡ after_told rest e c p n) → (cell : Cell) → AwaitsMade (step ∷ rest) cell → AwaitsMade rest cell
untold_same step rest same cell w end there found = by_shut there.1.is_shut (w end there found) where
  by_shut : (b : Bool) → OwesMade b (step ∷ rest) cell.host end there.1.arrived → OwesMade b rest cell.host end there.1.arrived
  by_shut true o = tt
  by_shut false o = (o.0, λ c p. o.1 c p ∙ same end c p (total (has_come c p) there.1.arrived))

steps_meet : (told : List Step) (cell : Cell) → PostsLast told → Awaits told cell → AwaitsMade told cell → AllMeet (steps_on told cell)
steps_meet [] cell p w m = at_end cell m
steps_meet (steps.Post end event ∷ rest) cell p w m = subst (λ (l : List Step). AllMeet (posted end event cell then steps_on l)) (sym p) (then_none (posted end event cell) (posted_meets end event cell (subst (λ (l : List Step). Awaits (steps.Post end event ∷ l) cell) p w) (subst (λ (l : List Step). AwaitsMade (steps.Post end event ∷ l) cell) p m)))
steps_meet (steps.Dial sock end peer ∷ rest) cell p w m = step_first (steps.Dial sock end peer) (steps_on rest cell) (steps_meet rest cell p (awaits_same (steps.Dial sock end peer ∷ rest) rest (λ e q. refl) cell w) (untold_same (steps.Dial sock end peer) rest (λ e c q n. refl) cell m))
steps_meet (steps.Read sock ∷ rest) cell p w m = step_first (steps.Read sock) (steps_on rest cell) (steps_meet rest cell p (awaits_same (steps.Read sock ∷ rest) rest (λ e q. refl) cell w) (untold_same (steps.Read sock) rest (λ e c q n. refl) cell m))
steps_meet (steps.Write sock bytes said ∷ rest) cell p w m = step_first (steps.Write sock bytes said) (steps_on rest cell) (steps_meet rest cell p (awaits_same (steps.Write sock bytes said ∷ rest) rest (λ e q. refl) cell w) (untold_same (steps.Write sock bytes said) rest (λ e c q n. refl) cell m))
steps_meet (steps.Up sock ∷ rest) cell p w m = step_first (steps.Up sock) (steps_on rest cell) (steps_meet rest cell p (awaits_same (steps.Up sock ∷ rest) rest (λ e q. refl) cell w) (untold_same (steps.Up sock) rest (λ e c q n. refl) cell m))
steps_meet (steps.Down sock ∷ rest) cell p w m = step_first (steps.Down sock) (steps_on rest cell) (steps_meet rest cell p (awaits_same (steps.Down sock ∷ rest) rest (λ e q. refl) cell w) (untold_same (steps.Down sock) rest (λ e c q n. refl) cell m))
steps_meet (steps.Left sock ∷ rest) cell p w m = step_first (steps.Left sock) (steps_on rest cell) (steps_meet rest cell p (awaits_same (steps.Left sock ∷ rest) rest (λ e q. refl) cell w) (untold_same (steps.Left sock) rest (λ e c q n. refl) cell m))
steps_meet (steps.Broke end peer why ∷ rest) cell p w m = step_first (steps.Broke end peer why) (steps_on rest cell) (steps_meet rest cell p (awaits_same (steps.Broke end peer why ∷ rest) rest (λ e q. refl) cell w) (untold_same (steps.Broke end peer why) rest (λ e c q n. refl) cell m))

pub steps_all : (cell : Cell) (after : HostState) (told : List Step) → PostsLast told → Goes cell.host told after → ((end : ℕ) → HasEnd cell.host end → Comes end cell.host told after) → CellFits cell → CellMeets cell → AllMeet (steps_on told (record cell { host = after }))
steps_all cell after told p g c f m = steps_meet told (record cell { host = after }) p (awaits cell after told g f) (awaits_made cell after told c f m)

-- ---- items

pub chained_meet : (done : Followed) (f : Cell → Followed) → AllFit done → AllMeet done → ((next : Cell) → CellFits next → CellMeets next → AllMeet (f next)) → AllMeet (done then f)
chained_meet (Ok done) f a m g = from (f done.1) (g done.1 a m) where
  from : (more : Followed) → AllMeet more → AllMeet (after_entries done.0 more)
  from (Ok more) b = b
  from (Err stop) b = tt
chained_meet (Err stop) f a m g = tt

items_meet : (fuel : ℕ) (cell : Cell) → CellFits cell → CellMeets cell → AllMeet (items_on fuel cell)
items_meet zero cell f m = m
items_meet (suc fuel) cell f m = by_next (host_next cell.host) refl (items_meet fuel) where
  by_some : (o : Option (List Step)) (after : HostState) → host_next cell.host ≡ Ok (o, after) → ((c : Cell) → CellFits c → CellMeets c → AllMeet (items_on fuel c)) → AllMeet (elim o as (λ o. Followed) [
    | None ↦ Ok ([], cell)
    | Some done ↦ (steps_on done (record cell { host = after }) then items_on fuel)
  ])
  by_some None after e more = m
  by_some (Some done) after e more = chained_meet (steps_on done (record cell { host = after })) (items_on fuel) (steps_from cell after done (next_last cell.host after done e) (next_goes cell.host after done e) f)
      (steps_all cell after done (next_last cell.host after done e) (next_goes cell.host after done e) (λ end has. next_comes end cell.host after done has e) f m) more

  by_next : (next : Result (Option (List Step) × HostState) Stop) → host_next cell.host ≡ next → ((c : Cell) → CellFits c → CellMeets c → AllMeet (items_on fuel c)) → AllMeet (elim next as (λ n. Followed) [
    | Err stop ↦ Err stop
    | Ok next ↦ elim next.0 [
      | None ↦ Ok ([], cell)
      | Some done ↦ (steps_on done (record cell { host = next.1 }) then items_on fuel)
    ]
  ])
  by_next (Err stop) e more = tt
  by_next (Ok next) e more = by_some next.0 next.1 e more

pub all_meet : (cell : Cell) → CellFits cell → CellMeets cell → AllMeet (all_items cell)
all_meet cell f m = items_meet (kept_bytes cell.host) cell f m
