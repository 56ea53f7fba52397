-- Whatever a cell makes of an event, each of its nodes has open what the host gives.
use Rattle.std.proofs.Common.{◌≡◌, ◌≤◌, ℕ, zero, suc, ◌+◌, Bool, true, false, cond, ◌&&◌, ◌||◌, List, [], ◌∷◌, length, Ok, Err, refl, sym, ap, ◌∙◌, subst, arith}
use Rattle.std.specs.List.{list_any}
use Rattle.std.specs.Prelude.{find, ◌==◌, Option, Some, None, Result}
use Rattle.ch_base.specs.declared.address.Address.{Address}
use Rattle.ch_base.specs.declared.event.Event.{Event}
use Rattle.ch_base.specs.declared.event.Event.TheVariants as told_events
use Rattle.ch_base.specs.declared.event.Why.{Why}
use Rattle.ch_base.specs.declared.memory.Stop.{Stop}
use Rattle.ch_light.specs.declared.TheConstants.{MOST_IDS}
use Rattle.ch_light.specs.declared.Connection.{Connection}
use Rattle.ch_watch.specs.Same.{same_node}
use Rattle.ch_model.specs.declared.act.Act.{Act}
use Rattle.ch_model.specs.declared.local.LocalEntry.TheVariants as local
use Rattle.ch_model.specs.declared.step.Step.{Step}
use Rattle.ch_model.specs.declared.step.Step.TheVariants as steps
use Rattle.ch_model.specs.CellSteps.{Followed, after_entries, ◌then◌, is_at, store_node, with_node, acts_on, node_followed, posted, steps_on, kept_bytes, items_on, all_items}
use Rattle.ch_model.specs.Host.{host_next}
use Rattle.ch_model.specs.HostState.{HostState}
use Rattle.ch_model.specs.NodeState.{NodeState}
use Rattle.ch_model.specs.Node.{node_event}
use Rattle.ch_model.specs.WorldState.{Cell}
use Rattle.ch_laws_log.proofs.Stored.{number_is, number_same}
use Rattle.ch_laws_log.proofs.Posts.{PostsLast, next_last}
use Rattle.ch_laws_connections.specs.Tables.{given_at, given_so, open_in, LinksApart, is_standing, loses_at, roomy_at}
use Rattle.ch_laws_connections.specs.Senders.{Sender, sender_of, open_at, IsOfFirst, Own, open_after, kept_free}
use Rattle.ch_laws_connections.specs.Fits.{Agrees, IsDark, FitsAs, Fits, CellFits}
use Rattle.ch_laws_connections.proofs.HostLinks.{Goes}
use Rattle.ch_laws_connections.proofs.HostItems.{next_goes}
use Rattle.ch_laws_connections.proofs.Used.{alike_used}
use Rattle.ch_laws_connections.proofs.Acts.{After, acts_fit}
use Rattle.ch_laws_connections.proofs.Does.{Does, Any, AllDo, Loses}
use Rattle.ch_laws_connections.proofs.Nodes.{IsLeft, AllLeft, lost, on_event}

-- ---- an endpoint where nothing changes

module _ (end : ℕ) (before after : HostState) (same : (p : Address) → given_at after end p ≡ given_at before end p) (ends : is_standing after end ≡ is_standing before end) where
  same_agrees : (n : ℕ) (s : Sender) → Agrees before end n [] s → Agrees after end n [] s
  same_agrees n s a = record {
    standing = ends ∙ a.standing;
    given = λ conn p. so conn p ∙ a.given conn p;
    alone = λ conn p. subst (λ (k : ℕ). k ≤ 1) (sym (so conn p)) (a.alone conn p);
    one_link = λ conn p r x y. a.one_link conn p r (subst (λ (k : ℕ). 1 ≤ k) (so conn p) x) (subst (λ (k : ℕ). 1 ≤ k) (so conn r) y);
    drawn = λ conn p x. a.drawn conn p (subst (λ (k : ℕ). 1 ≤ k) (so conn p) x);
    opens = a.opens;
    used = tt;
    room = λ p. subst (λ (l : List Connection). length l + (0 + kept_free s p) ≤ MOST_IDS) (sym (same p)) (a.room p);
  } where
    so : (conn : ℕ) (p : Address) → given_so after end conn p ≡ given_so before end conn p
    so conn p = ap (λ (l : List Connection). open_in l conn) (same p)

  pub same_as : (b : Bool) (s : Sender) → FitsAs b before end [] s → FitsAs b after end [] s
  same_as false s f = (f.0, same_agrees f.0 s f.1)
  same_as true s f = record { closed = ends ∙ f.closed; given = λ p. same p ∙ f.given p }

-- ---- what a node did

less_room : (l k m : ℕ) → l + (0 + k) ≤ m → l + k ≤ m
less_room l k m h = omega arith

more_room : (l k m : ℕ) → l + k ≤ m → l + (0 + k) ≤ m
more_room l k m h = omega arith

-- how many are given to each peer
abbrev pub sizes : HostState → ℕ → Address → ℕ
sizes host end p = length (given_at host end p)

did : (Fit : (Address → ℕ) → (Address → Bool) → Type 0) (host : HostState) (end n : ℕ) (done : List Act) (s t : Sender) → Does Fit s done t → Fit (sizes host end) (roomy_at host end) → Agrees host end n [] s → Agrees host end s.opened done t
did Fit host end n done s t d fit a = record {
  standing = a.standing;
  given = λ conn p. ap (open_after done conn p) (a.given conn p) ∙ d.leaves conn p;
  alone = a.alone;
  one_link = a.one_link;
  drawn = λ conn p x. subst (λ (k : ℕ). IsOfFirst k conn) a.opens (a.drawn conn p x);
  opens = d.opens;
  used = alike_used done (open_at s) (given_so host end) (roomy_at host end) (roomy_at host end) (λ conn p. sym (a.given conn p)) (λ p x. x) (d.used (sizes host end) (roomy_at host end) fit);
  room = λ p. d.room (sizes host end) (roomy_at host end) fit (λ q. less_room (sizes host end q) (kept_free s q) MOST_IDS (a.room q)) p;
}

did_as : (Fit : (Address → ℕ) → (Address → Bool) → Type 0) (host : HostState) (end : ℕ) (done : List Act) (s t : Sender) → Does Fit s done t → Fit (sizes host end) (roomy_at host end) → (b : Bool) → FitsAs b host end [] s → FitsAs b host end done t
did_as Fit host end done s t d fit false f = (s.opened, did Fit host end f.0 done s t d fit f.1)
did_as Fit host end done s t d fit true f = f

-- the node has what the acts leave
pub node_fits : (Fit : (Address → ℕ) → (Address → Bool) → Type 0) (host : HostState) (end : ℕ) (done : List Act) (s t : Sender) → (Own s → Does Fit s done t) → Fit (sizes host end) (roomy_at host end) → Fits host end [] s → Fits host end done t
node_fits Fit host end done s t d fit f = let x = d f.0 in (x.own, subst (λ b. FitsAs b host end done t) (sym x.shut) (did_as Fit host end done s t x fit s.is_shut f.1))

-- ---- the nodes of a cell

abbrev pub AllFit : {S E : Type 0} → Result (S × Cell) E → Type 0
AllFit (Ok done) = CellFits done.1
AllFit (Err e) = Unit {0}

-- the links, and each node at another endpoint
pub record Others (end : ℕ) (cell : Cell) : Type 0 where
  pub links : LinksApart cell.host.links
  pub nodes : (e : ℕ) (there : ℕ × NodeState) → (end == e) ≡ false → find (is_at e) cell.nodes ≡ Some there → Fits cell.host e [] (sender_of there.1)

-- a node that is stored in its place is found there, and each other as before
pub stored_there : (end : ℕ) (node : NodeState) (e : ℕ) (x : ℕ × NodeState) (nodes : List (ℕ × NodeState)) → find (is_at e) (store_node end node nodes) ≡ Some x → (end == e) ≡ true → x.1 ≡ node
stored_there end node e x [] f h = absurd cc
stored_there end node e x (known ∷ rest) f h = by_test (is_at end known) refl f (stored_there end node e x rest) where
  by_test : (b : Bool) → is_at end known ≡ b → find (is_at e) (cond b ((end, node) ∷ rest) (known ∷ store_node end node rest)) ≡ Some x → (find (is_at e) (store_node end node rest) ≡ Some x → (end == e) ≡ true → x.1 ≡ node) → x.1 ≡ node
  by_test true g f more = let this : Some (end, node) ≡ Some x = sym (ap (λ b. cond b (Some (end, node)) (find (is_at e) rest)) h) ∙ f in let same : (end, node) ≡ x = cc in sym (ap (λ (y : ℕ × NodeState). y.1) same)
  by_test false g f more = more (sym (ap (λ b. cond b (Some known) (find (is_at e) (store_node end node rest))) (ap (λ (n : ℕ). known.0 == n) (sym (number_is end e h)) ∙ g)) ∙ f) h

pub stored_other : (end : ℕ) (node : NodeState) (e : ℕ) (x : ℕ × NodeState) (nodes : List (ℕ × NodeState)) → find (is_at e) (store_node end node nodes) ≡ Some x → (end == e) ≡ false → find (is_at e) nodes ≡ Some x
stored_other end node e x [] f h = f
stored_other end node e x (known ∷ rest) f h = by_test (is_at end known) refl f (stored_other end node e x rest) where
  by_test : (b : Bool) → is_at end known ≡ b → find (is_at e) (cond b ((end, node) ∷ rest) (known ∷ store_node end node rest)) ≡ Some x → (find (is_at e) (store_node end node rest) ≡ Some x → (end == e) ≡ false → find (is_at e) rest ≡ Some x) → find (is_at e) (known ∷ rest) ≡ Some x
  by_test true g f more = ap (λ b. cond b (Some known) (find (is_at e) rest)) (ap (λ (n : ℕ). n == e) (number_is known.0 end g) ∙ h) ∙ sym (ap (λ b. cond b (Some (end, node)) (find (is_at e) rest)) h) ∙ f
  by_test false g f more = by_known (is_at e known) f where
    by_known : (b : Bool) → cond b (Some known) (find (is_at e) (store_node end node rest)) ≡ Some x → cond b (Some known) (find (is_at e) rest) ≡ Some x
    by_known true f = f
    by_known false f = more f h

-- the acts of a node are done
pub acts_all : (end : ℕ) (node : NodeState) (done : List Act) (cell : Cell) → Others end cell → Fits cell.host end done (sender_of node) → AllFit (acts_on end done (with_node end node cell))
acts_all end node done cell o f = by_done (acts_on end done (with_node end node cell)) (acts_fit node.is_shut end done (sender_of node) (with_node end node cell) o.links f.1) where
  by_done : (r : Followed) → After end (with_node end node cell) node.is_shut [] (sender_of node) r → AllFit r
  by_done (Err stop) a = tt
  by_done (Ok r) a = record { links = a.1.apart o.links; nodes = λ e there found. by_end e there (end == e) refl (subst (λ (l : List (ℕ × NodeState)). find (is_at e) l ≡ Some there) a.0 found) } where
    by_end : (e : ℕ) (there : ℕ × NodeState) (b : Bool) → (end == e) ≡ b → find (is_at e) (store_node end node cell.nodes) ≡ Some there → Fits r.1.host e [] (sender_of there.1)
    by_end e there true h found = subst (λ (n : ℕ). Fits r.1.host n [] (sender_of there.1)) (number_is end e h) (subst (λ (n : NodeState). Fits r.1.host end [] (sender_of n)) (sym (stored_there end node e there cell.nodes found h)) (f.0, a.2))
    by_end e there false h found = let was = o.nodes e there h (stored_other end node e there cell.nodes found h) in (was.0, same_as e cell.host r.1.host (λ p. a.1.others e p h) (a.1.ends e) there.1.is_shut (sender_of there.1) was.1)

-- ---- what the host's steps tell, and is still to be told

-- The endpoint, where some steps are still to be told: nothing is given to a peer whose link they tell to have failed, and else
-- what the node has open.
pub record Behind (told : List Step) (host : HostState) (end : ℕ) (s : Sender) : Type 0 where
  standing : is_standing host end ≡ true
  given : (conn : ℕ) (peer : Address) → given_so host end conn peer ≡ cond (list_any (loses_at end peer) told) 0 (open_at s conn peer)
  empty : (peer : Address) → list_any (loses_at end peer) told ≡ true → given_at host end peer ≡ []
  alone : (conn : ℕ) (peer : Address) → given_so host end conn peer ≤ 1
  one_link : (conn : ℕ) (peer other : Address) → 1 ≤ given_so host end conn peer → 1 ≤ given_so host end conn other → peer ≡ other
  drawn : (conn : ℕ) (peer : Address) → 1 ≤ given_so host end conn peer → IsOfFirst s.opened conn
  room : (peer : Address) → length (given_at host end peer) + kept_free s peer ≤ MOST_IDS

abbrev pub OwesAs : Bool → List Step → HostState → ℕ → Sender → Type 0
OwesAs false told host end s = Behind told host end s
OwesAs true told host end s = IsDark host end

abbrev pub Owes : List Step → HostState → ℕ → Sender → Type 0
Owes told host end s = Own s × OwesAs s.is_shut told host end s

pub record Awaits (told : List Step) (cell : Cell) : Type 0 where
  pub links : LinksApart cell.host.links
  pub nodes : (end : ℕ) (there : ℕ × NodeState) → find (is_at end) cell.nodes ≡ Some there → Owes told cell.host end (sender_of there.1)

behind : (before after : HostState) (told : List Step) → Goes before told after → (end n : ℕ) (s : Sender) → Agrees before end n [] s → Behind told after end s
behind before after told g end n s a = record {
  standing = g.ends end ∙ a.standing;
  given = λ conn p. so conn p ∙ ap (cond (lost p) 0) (a.given conn p);
  empty = λ p h. g.given end p ∙ ap (λ b. cond b [] (given_at before end p)) h;
  alone = λ conn p. subst (λ (k : ℕ). k ≤ 1) (sym (so conn p)) (alone_by conn p (lost p));
  one_link = λ conn p r x y. a.one_link conn p r (was (lost p) (given_so before end conn p) (subst (λ (k : ℕ). 1 ≤ k) (so conn p) x)) (was (lost r) (given_so before end conn r) (subst (λ (k : ℕ). 1 ≤ k) (so conn r) y));
  drawn = λ conn p x. subst (λ (k : ℕ). IsOfFirst k conn) a.opens (a.drawn conn p (was (lost p) (given_so before end conn p) (subst (λ (k : ℕ). 1 ≤ k) (so conn p) x)));
  room = λ p. subst (λ (l : List Connection). length l + kept_free s p ≤ MOST_IDS) (sym (g.given end p)) (room_by p (lost p));
} where
  lost : Address → Bool
  lost p = list_any (loses_at end p) told

  so : (conn : ℕ) (p : Address) → given_so after end conn p ≡ cond (lost p) 0 (given_so before end conn p)
  so conn p = ap (λ (l : List Connection). open_in l conn) (g.given end p) ∙ by_test (lost p) where
    by_test : (b : Bool) → open_in (cond b [] (given_at before end p)) conn ≡ cond b 0 (given_so before end conn p)
    by_test true = refl
    by_test false = refl

  few : 0 ≤ 1
  few = omega arith

  alone_by : (conn : ℕ) (p : Address) (b : Bool) → cond b 0 (given_so before end conn p) ≤ 1
  alone_by conn p true = few
  alone_by conn p false = a.alone conn p

  was : (b : Bool) (k : ℕ) → 1 ≤ cond b 0 k → 1 ≤ k
  was true k x = absurd (never x) where
    never : 1 ≤ 0 → ⊥
    never l = omega arith
  was false k x = x

  none_left : (l k m : ℕ) → l + (0 + k) ≤ m → 0 + k ≤ m
  none_left l k m h = omega arith

  room_by : (p : Address) (b : Bool) → length (cond b [] (given_at before end p)) + kept_free s p ≤ MOST_IDS
  room_by p true = none_left (length (given_at before end p)) (kept_free s p) MOST_IDS (a.room p)
  room_by p false = less_room (length (given_at before end p)) (kept_free s p) MOST_IDS (a.room p)

owes_as : (before after : HostState) (told : List Step) → Goes before told after → (end : ℕ) (s : Sender) (b : Bool) → FitsAs b before end [] s → OwesAs b told after end s
owes_as before after told g end s false f = behind before after told g end f.0 s f.1
owes_as before after told g end s true f = record { closed = g.ends end ∙ f.closed; given = λ p. g.given end p ∙ ap (cond (list_any (loses_at end p) told) []) (f.given p) ∙ none (list_any (loses_at end p) told) } where
  none : (b : Bool) → cond {A = List Connection} b [] [] ≡ []
  none true = refl
  none false = refl

pub awaits : (cell : Cell) (after : HostState) (told : List Step) → Goes cell.host told after → CellFits cell → Awaits told (record cell { host = after })
awaits cell after told g f = record { links = g.apart f.links; nodes = λ end there found. let x = f.nodes end there found in (x.0, owes_as cell.host after told g end (sender_of there.1) there.1.is_shut x.1) }

-- where no link fails nothing is owed
paid : (told : List Step) (host : HostState) (end : ℕ) (s : Sender) → ((p : Address) → list_any (loses_at end p) told ≡ false) → Behind told host end s → Agrees host end s.opened [] s
paid told host end s none b = record {
  standing = b.standing;
  given = λ conn p. b.given conn p ∙ ap (λ x. cond x 0 (open_at s conn p)) (none p);
  alone = b.alone;
  one_link = b.one_link;
  drawn = b.drawn;
  opens = refl;
  used = tt;
  room = λ p. more_room (length (given_at host end p)) (kept_free s p) MOST_IDS (b.room p);
}

paid_as : (told : List Step) (host : HostState) (end : ℕ) (s : Sender) → ((p : Address) → list_any (loses_at end p) told ≡ false) → (b : Bool) → OwesAs b told host end s → FitsAs b host end [] s
paid_as told host end s none false o = (s.opened, paid told host end s none o)
paid_as told host end s none true o = o

all_paid : (told : List Step) (host : HostState) (end : ℕ) (s : Sender) → ((p : Address) → list_any (loses_at end p) told ≡ false) → Owes told host end s → Fits host end [] s
all_paid told host end s none o = (o.0, paid_as told host end s none s.is_shut o.1)

-- ---- a link that failed is told

lost_agrees : (host : HostState) (end : ℕ) (peer : Address) (why : Why) (s mid : Sender) → Loses peer s mid → Behind (steps.Post end (told_events.ConnectionLost peer why) ∷ []) host end s → Agrees host end mid.opened [] mid
lost_agrees host end peer why s mid l b = record {
  standing = b.standing;
  given = λ conn p. b.given conn p ∙ ap (λ x. cond x 0 (open_at s conn p)) (told_so p) ∙ sym (l.at conn p);
  alone = b.alone;
  one_link = b.one_link;
  drawn = λ conn p x. subst (λ (k : ℕ). IsOfFirst k conn) (sym l.opened) (b.drawn conn p x);
  opens = refl;
  used = tt;
  room = λ p. by_peer p (same_node peer p) refl;
} where
  or_false : (x : Bool) → (x || false) ≡ x
  or_false true = refl
  or_false false = refl

  told_so : (p : Address) → (((end == end) && same_node peer p) || false) ≡ same_node peer p
  told_so p = or_false ((end == end) && same_node peer p) ∙ ap (λ x. x && same_node peer p) (number_same end)

  one_kept : (x : Bool) → 0 + (0 + cond x 0 1) ≤ MOST_IDS
  one_kept true = omega arith
  one_kept false = omega arith

  by_peer : (p : Address) (x : Bool) → same_node peer p ≡ x → length (given_at host end p) + (0 + kept_free mid p) ≤ MOST_IDS
  by_peer p true h = subst (λ (t : List Connection). length t + (0 + kept_free mid p) ≤ MOST_IDS) (sym (b.empty p (told_so p ∙ h))) (one_kept (list_any (λ k. same_node k.0 p) mid.to_nodes))
  by_peer p false h = subst (λ (k : ℕ). length (given_at host end p) + (0 + k) ≤ MOST_IDS) (sym (l.free p h)) (more_room (length (given_at host end p)) (kept_free s p) MOST_IDS (b.room p))

lost_as : (host : HostState) (end : ℕ) (peer : Address) (why : Why) (s mid : Sender) → Loses peer s mid → (b : Bool) → OwesAs b (steps.Post end (told_events.ConnectionLost peer why) ∷ []) host end s → FitsAs b host end [] mid
lost_as host end peer why s mid l false o = (mid.opened, lost_agrees host end peer why s mid l o)
lost_as host end peer why s mid l true o = o

lost_fits : (host : HostState) (end : ℕ) (peer : Address) (why : Why) (s : Sender) (done : List Act × NodeState) → IsLeft peer s done → Owes (steps.Post end (told_events.ConnectionLost peer why) ∷ []) host end s → Fits host end done.0 (sender_of done.1)
lost_fits host end peer why s done l o = node_fits Any host end done.0 l.mid (sender_of done.1) l.more tt (l.loses.own o.0, subst (λ b. FitsAs b host end [] l.mid) (sym l.loses.shut) (lost_as host end peer why s l.mid l.loses s.is_shut o.1))

-- ---- an event is posted

-- each other endpoint is owed nothing
pub others_paid : (end : ℕ) (event : Event) (cell : Cell) → Awaits (steps.Post end event ∷ []) cell → Others end cell
others_paid end event cell w = record { links = w.links; nodes = λ e there h found. all_paid (steps.Post end event ∷ []) cell.host e (sender_of there.1) (λ p. none event e p h) (w.nodes e there found) } where
  none : (event : Event) (e : ℕ) (p : Address) → (end == e) ≡ false → list_any (loses_at e p) (steps.Post end event ∷ []) ≡ false
  none (told_events.ConnectionLost peer why) e p h = ap (λ b. (b && same_node peer p) || false) h
  none (told_events.ConnectionOpened conn peer) e p h = refl
  none (told_events.Received conn payload) e p h = refl
  none (told_events.ConnectionClosed conn) e p h = refl
  none told_events.EndPointClosed e p h = refl

followed_all : (end : ℕ) (cell : Cell) (done : Result (List Act × NodeState) Stop) → Others end cell → ((one : List Act × NodeState) → done ≡ Ok one → Fits cell.host end one.0 (sender_of one.1)) → AllFit (node_followed end cell done)
followed_all end cell (Ok one) o f = acts_all end one.1 one.0 cell o (f one refl)
followed_all end cell (Err stop) o f = tt

pub event_fits : (end : ℕ) (event : Event) (cell : Cell) (node : NodeState) → Owes (steps.Post end event ∷ []) cell.host end (sender_of node) → (one : List Act × NodeState) → node_event node event ≡ Ok one → Fits cell.host end one.0 (sender_of one.1)
unfolding node_event
event_fits end event cell node o one e = by_event event o e where
  by_done : (Fit : (Address → ℕ) → (Address → Bool) → Type 0) (r : Result (List Act × NodeState) Stop) → AllDo Fit (sender_of node) r → r ≡ Ok one → Own (sender_of node) → Does Fit (sender_of node) one.0 (sender_of one.1)
  by_done Fit r d e = subst (λ (x : Result (List Act × NodeState) Stop). AllDo Fit (sender_of node) x) e d

  by_left : (peer : Address) (r : Result (List Act × NodeState) Stop) → AllLeft peer (sender_of node) r → r ≡ Ok one → IsLeft peer (sender_of node) one
  by_left peer r d e = subst (λ (x : Result (List Act × NodeState) Stop). AllLeft peer (sender_of node) x) e d

  by_event : (event : Event) → Owes (steps.Post end event ∷ []) cell.host end (sender_of node) → node_event node event ≡ Ok one → Fits cell.host end one.0 (sender_of one.1)
  by_event (told_events.ConnectionLost peer why) o e = lost_fits cell.host end peer why (sender_of node) one (by_left peer (node_event node (told_events.ConnectionLost peer why)) (lost node peer why) e) o
  by_event (told_events.ConnectionOpened conn peer) o e = node_fits Any cell.host end one.0 (sender_of node) (sender_of one.1) (by_done Any (node_event node (told_events.ConnectionOpened conn peer)) (on_event node (told_events.ConnectionOpened conn peer) tt) e) tt (all_paid (steps.Post end (told_events.ConnectionOpened conn peer) ∷ []) cell.host end (sender_of node) (λ p. refl) o)
  by_event (told_events.Received conn payload) o e = node_fits Any cell.host end one.0 (sender_of node) (sender_of one.1) (by_done Any (node_event node (told_events.Received conn payload)) (on_event node (told_events.Received conn payload) tt) e) tt (all_paid (steps.Post end (told_events.Received conn payload) ∷ []) cell.host end (sender_of node) (λ p. refl) o)
  by_event (told_events.ConnectionClosed conn) o e = node_fits Any cell.host end one.0 (sender_of node) (sender_of one.1) (by_done Any (node_event node (told_events.ConnectionClosed conn)) (on_event node (told_events.ConnectionClosed conn) tt) e) tt (all_paid (steps.Post end (told_events.ConnectionClosed conn) ∷ []) cell.host end (sender_of node) (λ p. refl) o)
  by_event told_events.EndPointClosed o e = node_fits Any cell.host end one.0 (sender_of node) (sender_of one.1) (by_done Any (node_event node told_events.EndPointClosed) (on_event node told_events.EndPointClosed tt) e) tt (all_paid (steps.Post end told_events.EndPointClosed ∷ []) cell.host end (sender_of node) (λ p. refl) o)

posted_fits : (end : ℕ) (event : Event) (cell : Cell) → Awaits (steps.Post end event ∷ []) cell → AllFit (posted end event cell)
posted_fits end event cell w = by_node (find (is_at end) cell.nodes) refl where
  o : Others end cell
  o = others_paid end event cell w

  by_node : (x : Option (ℕ × NodeState)) → find (is_at end) cell.nodes ≡ x → AllFit (elim x as (λ x. Followed) [
    | None ↦ Ok ([], cell)
    | Some node ↦ node_followed end cell (node_event node.1 event)
  ])
  by_node None e = record { links = w.links; nodes = λ n there found. by_end n there (end == n) refl found } where
    by_end : (n : ℕ) (there : ℕ × NodeState) (b : Bool) → (end == n) ≡ b → find (is_at n) cell.nodes ≡ Some there → Fits cell.host n [] (sender_of there.1)
    by_end n there true h found = let never : None ≡ Some there = sym e ∙ ap (λ (k : ℕ). find (is_at k) cell.nodes) (number_is end n h) ∙ found in absurd cc
    by_end n there false h found = o.nodes n there h found
  by_node (Some node) e = followed_all end cell (node_event node.1 event) o (event_fits end event cell node.1 (w.nodes end node e))

-- ---- all steps

pub chained : (done : Followed) (f : Cell → Followed) → AllFit done → ((next : Cell) → CellFits next → AllFit (f next)) → AllFit (done then f)
chained (Ok done) f a g = from (f done.1) (g done.1 a) where
  from : (more : Followed) → AllFit more → AllFit (after_entries done.0 more)
  from (Ok more) b = b
  from (Err stop) b = tt
chained (Err stop) f a g = tt

step_first : (step : Step) (more : Followed) → AllFit more → AllFit (after_entries (local.Step step ∷ []) more)
step_first step (Ok more) f = f
step_first step (Err stop) f = tt

owed_same : (xs ys : List Step) → ((e : ℕ) (p : Address) → list_any (loses_at e p) xs ≡ list_any (loses_at e p) ys) → (host : HostState) (end : ℕ) (s : Sender) (b : Bool) → OwesAs b xs host end s → OwesAs b ys host end s
owed_same xs ys same host end s true o = o
owed_same xs ys same host end s false o = record { standing = o.standing; given = λ conn p. o.given conn p ∙ ap (λ x. cond x 0 (open_at s conn p)) (same end p); empty = λ p h. o.empty p (same end p ∙ h); alone = o.alone; one_link = o.one_link; drawn = o.drawn; room = o.room }

pub awaits_same : (xs ys : List Step) → ((e : ℕ) (p : Address) → list_any (loses_at e p) xs ≡ list_any (loses_at e p) ys) → (cell : Cell) → Awaits xs cell → Awaits ys cell
awaits_same xs ys same cell w = record { links = w.links; nodes = λ end there found. let x = w.nodes end there found in (x.0, owed_same xs ys same cell.host end (sender_of there.1) there.1.is_shut x.1) }

at_end : (cell : Cell) → Awaits [] cell → CellFits cell
at_end cell w = record { links = w.links; nodes = λ end there found. all_paid [] cell.host end (sender_of there.1) (λ p. refl) (w.nodes end there found) }

steps_fit : (told : List Step) (cell : Cell) → PostsLast told → Awaits told cell → AllFit (steps_on told cell)
steps_fit [] cell p w = at_end cell w
steps_fit (steps.Post end event ∷ rest) cell p w = subst (λ (l : List Step). AllFit (posted end event cell then steps_on l)) (sym p) (chained (posted end event cell) (steps_on []) (posted_fits end event cell (subst (λ (l : List Step). Awaits (steps.Post end event ∷ l) cell) p w)) (λ next f. f))
steps_fit (steps.Dial sock end peer ∷ rest) cell p w = step_first (steps.Dial sock end peer) (steps_on rest cell) (steps_fit rest cell p (awaits_same (steps.Dial sock end peer ∷ rest) rest (λ e q. refl) cell w))
steps_fit (steps.Read sock ∷ rest) cell p w = step_first (steps.Read sock) (steps_on rest cell) (steps_fit rest cell p (awaits_same (steps.Read sock ∷ rest) rest (λ e q. refl) cell w))
steps_fit (steps.Write sock bytes said ∷ rest) cell p w = step_first (steps.Write sock bytes said) (steps_on rest cell) (steps_fit rest cell p (awaits_same (steps.Write sock bytes said ∷ rest) rest (λ e q. refl) cell w))
steps_fit (steps.Up sock ∷ rest) cell p w = step_first (steps.Up sock) (steps_on rest cell) (steps_fit rest cell p (awaits_same (steps.Up sock ∷ rest) rest (λ e q. refl) cell w))
steps_fit (steps.Down sock ∷ rest) cell p w = step_first (steps.Down sock) (steps_on rest cell) (steps_fit rest cell p (awaits_same (steps.Down sock ∷ rest) rest (λ e q. refl) cell w))
steps_fit (steps.Left sock ∷ rest) cell p w = step_first (steps.Left sock) (steps_on rest cell) (steps_fit rest cell p (awaits_same (steps.Left sock ∷ rest) rest (λ e q. refl) cell w))
steps_fit (steps.Broke end peer why ∷ rest) cell p w = step_first (steps.Broke end peer why) (steps_on rest cell) (steps_fit rest cell p (awaits_same (steps.Broke end peer why ∷ rest) rest (λ e q. refl) cell w))

-- the steps of a host, from the cell before them
pub steps_from : (cell : Cell) (after : HostState) (told : List Step) → PostsLast told → Goes cell.host told after → CellFits cell → AllFit (steps_on told (record cell { host = after }))
steps_from cell after told p g f = steps_fit told (record cell { host = after }) p (awaits cell after told g f)

-- steps that tell of no link that failed
pub steps_dark : (told : List Step) (cell : Cell) → PostsLast told → ((e : ℕ) (p : Address) → list_any (loses_at e p) told ≡ false) → CellFits cell → AllFit (steps_on told cell)
steps_dark told cell p none f = steps_from cell cell.host told p (record { given = λ e q. sym (ap (λ b. cond b [] (given_at cell.host e q)) (none e q)); apart = λ a. a; ends = λ e. refl }) f

-- ---- items

items_fit : (fuel : ℕ) (cell : Cell) → CellFits cell → AllFit (items_on fuel cell)
items_fit zero cell f = f
items_fit (suc fuel) cell f = by_next (host_next cell.host) refl (items_fit fuel) where
  by_some : (o : Option (List Step)) (after : HostState) → host_next cell.host ≡ Ok (o, after) → ((c : Cell) → CellFits c → AllFit (items_on fuel c)) → AllFit (elim o as (λ o. Followed) [
    | None ↦ Ok ([], cell)
    | Some done ↦ (steps_on done (record cell { host = after }) then items_on fuel)
  ])
  by_some None after e more = f
  by_some (Some done) after e more = chained (steps_on done (record cell { host = after })) (items_on fuel) (steps_from cell after done (next_last cell.host after done e) (next_goes cell.host after done e) f) more

  by_next : (next : Result (Option (List Step) × HostState) Stop) → host_next cell.host ≡ next → ((c : Cell) → CellFits c → AllFit (items_on fuel c)) → AllFit (elim next as (λ n. Followed) [
    | Err stop ↦ Err stop
    | Ok next ↦ elim next.0 [
      | None ↦ Ok ([], cell)
      | Some done ↦ (steps_on done (record cell { host = next.1 }) then items_on fuel)
    ]
  ])
  by_next (Err stop) e more = tt
  by_next (Ok next) e more = by_some next.0 next.1 e more

pub all_fit : (cell : Cell) → CellFits cell → AllFit (all_items cell)
all_fit cell f = items_fit (kept_bytes cell.host) cell f
