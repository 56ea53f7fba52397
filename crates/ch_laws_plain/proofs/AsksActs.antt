-- What is dialed by all acts of a plain node, one after another.
use Rattle.std.proofs.Common.{◌≡◌, ◌⊎◌, inl, inr, ◌≤◌, ℕ, ◌+◌, ◌*◌, Bool, true, false, cond, List, [], ◌∷◌, ◌++◌, map, Ok, Err, refl, sym, ap, ◌∙◌, subst, arith}
use Rattle.std.specs.Prelude.{Result}
use Rattle.ch_base.specs.declared.address.Address.{Address}
use Rattle.ch_ident.specs.declared.identifier.ProcessId.{ProcessId}
use Rattle.ch_ident.specs.declared.identifier.Identifier.TheVariants as ends
use Rattle.ch_ident.specs.declared.message.Message.{Message}
use Rattle.ch_ident.specs.declared.node_message.NodeMessage.TheVariants.{Opening}
use Rattle.ch_ident.specs.Spelling.{message}
use Rattle.ch_link.specs.declared.LinkState.{LinkState}
use Rattle.ch_link.specs.declared.LinkState.TheVariants as states
use Rattle.ch_watch.specs.Same.{same_node}
use Rattle.ch_model.specs.declared.act.Act.{Act}
use Rattle.ch_model.specs.declared.act.Act.TheVariants as acts
use Rattle.ch_model.specs.declared.local.LocalEntry.{LocalEntry}
use Rattle.ch_model.specs.declared.local.LocalEntry.TheVariants as local
use Rattle.ch_model.specs.declared.step.EndError.{EndError}
use Rattle.ch_model.specs.declared.step.EndError.TheVariants as errors
use Rattle.ch_model.specs.declared.step.Step.{Step}
use Rattle.ch_model.specs.declared.step.Weight.TheVariants.{Free}
use Rattle.ch_model.specs.CellSteps.{Followed, after_entries, ◌then◌, asked, act_on, acts_on}
use Rattle.ch_model.specs.HostCalls.{host_connect, host_send, host_close}
use Rattle.ch_model.specs.HostState.{HostState}
use Rattle.ch_model.specs.HostSteps.{link_with}
use Rattle.ch_model.specs.NodePairs.{is_pair, with_pair}
use Rattle.ch_model.specs.NodeState.{NodeState, Pair, Mark, Unopened, Opened, Broken}
use Rattle.ch_model.specs.NodeIds.{process_id, target_at}
use Rattle.ch_model.specs.WorldState.{Cell}
use Rattle.ch_laws_log.specs.HostEnds.{steps_in}
use Rattle.ch_laws_log.proofs.Homes.{node_self}
use Rattle.ch_laws_log.proofs.Stored.{number_same}
use Rattle.ch_laws_links.specs.Naming.{IsNaming}
use Rattle.ch_laws_links.proofs.Cells.{steps_told}
use Rattle.ch_laws_links.proofs.Hosts as naming
use Rattle.ch_laws_connections.specs.Tables.{given_so, LinksApart}
use Rattle.ch_laws_connections.specs.Senders.{Sender, sender_of, once, marks, pair_has, node_has, total, open_at, open_after}
use Rattle.ch_laws_connections.specs.Fits.{FitsAs}
use Rattle.ch_laws_connections.proofs.Acts.{After, act_fits}
use Rattle.ch_laws_calls.specs.FitsTurns.{NoDials}
use Rattle.ch_laws_plain_nodes.specs.Acts.{AreNotes}
use Rattle.ch_laws_plain_nodes.specs.Does.{SendsAway, pair_between, said_note, said_on, sent_acts, sent_mark, said_pair}
use Rattle.ch_laws_plain.proofs.Opens.{IsAlone}
use Rattle.ch_laws_plain.specs.AsksAsks.{DialsOnce}
use Rattle.ch_laws_plain.proofs.AsksWants.{Rests, Dials, AsksFrom, Asks, AllAsk, asks_nothing, none_both, asks_then, AllDialNone}
use Rattle.ch_laws_plain.proofs.AsksWants as wants

-- ---- what followed at a cell

-- the steps that were told ask so of the link of this endpoint with this peer
abbrev pub AllAsked : ℕ → Address → Cell → Followed → Type 0
AllAsked end peer cell (Ok done) = Asks end peer cell.host (steps_in done.0) done.1.host
AllAsked end peer cell (Err stop) = Unit {0}

abbrev pub AllQuiet : Followed → Type 0
AllQuiet (Ok done) = NoDials (steps_in done.0)
AllQuiet (Err stop) = Unit {0}

abbrev pub AllNamed : Followed → Type 0
AllNamed (Ok done) = IsNaming done.1.host
AllNamed (Err stop) = Unit {0}

pub steps_append : (xs ys : List LocalEntry) → steps_in (xs ++ ys) ≡ steps_in xs ++ steps_in ys
steps_append [] ys = refl
steps_append (local.Step step ∷ xs) ys = ap (λ (l : List Step). step ∷ l) (steps_append xs ys)
steps_append (local.Note note ∷ xs) ys = steps_append xs ys

-- what the host did is told; what it refused does nothing
asked_so : (end : ℕ) (peer : Address) (cell : Cell) (r : Result (List Step × HostState) EndError) → AllAsk end peer cell.host r → AllAsked end peer cell (asked cell r)
asked_so end peer cell (Ok done) a = subst (λ (l : List Step). Asks end peer cell.host l done.1) (sym (steps_told done.0)) a
asked_so end peer cell (Err errors.Worn) a = tt
asked_so end peer cell (Err errors.OutOfMemory) a = tt
asked_so end peer cell (Err errors.NoEndPoint) a = asks_nothing end peer cell.host
asked_so end peer cell (Err errors.NoConnection) a = asks_nothing end peer cell.host
asked_so end peer cell (Err errors.QueueFull) a = asks_nothing end peer cell.host
asked_so end peer cell (Err errors.PayloadLong) a = asks_nothing end peer cell.host
asked_so end peer cell (Err errors.Spent) a = asks_nothing end peer cell.host

asked_quiet : (cell : Cell) (r : Result (List Step × HostState) EndError) → AllDialNone r → AllQuiet (asked cell r)
asked_quiet cell (Ok done) a = subst NoDials (sym (steps_told done.0)) a
asked_quiet cell (Err errors.Worn) a = tt
asked_quiet cell (Err errors.OutOfMemory) a = tt
asked_quiet cell (Err errors.NoEndPoint) a = tt
asked_quiet cell (Err errors.NoConnection) a = tt
asked_quiet cell (Err errors.QueueFull) a = tt
asked_quiet cell (Err errors.PayloadLong) a = tt
asked_quiet cell (Err errors.Spent) a = tt

asked_named : (cell : Cell) (r : Result (List Step × HostState) EndError) → naming.AllNaming cell.host r → IsNaming cell.host → AllNamed (asked cell r)
asked_named cell (Ok done) a s = (a s).naming
asked_named cell (Err errors.Worn) a s = tt
asked_named cell (Err errors.OutOfMemory) a s = tt
asked_named cell (Err errors.NoEndPoint) a s = s
asked_named cell (Err errors.NoConnection) a s = s
asked_named cell (Err errors.QueueFull) a s = s
asked_named cell (Err errors.PayloadLong) a s = s
asked_named cell (Err errors.Spent) a s = s

-- ---- links and ends name each other still

named_then : (one : Followed) (f : Cell → Followed) → AllNamed one → ((next : Cell) → IsNaming next.host → AllNamed (f next)) → AllNamed (one then f)
named_then (Ok one) f a each = from (f one.1) (each one.1 a) where
  from : (more : Followed) → AllNamed more → AllNamed (after_entries one.0 more)
  from (Ok more) b = b
  from (Err stop) b = tt
named_then (Err stop) f a each = tt

pub acts_named : (end : ℕ) (done : List Act) (cell : Cell) → IsNaming cell.host → AllNamed (acts_on end done cell)
acts_named end [] cell s = s
acts_named end (acts.Note note ∷ rest) cell s = named_then (act_on end (acts.Note note) cell) (acts_on end rest) s (acts_named end rest)
acts_named end (acts.Open conn peer ∷ rest) cell s = named_then (act_on end (acts.Open conn peer) cell) (acts_on end rest) (asked_named cell (host_connect cell.host end peer conn) (naming.connect_naming cell.host end peer conn) s) (acts_named end rest)
acts_named end (acts.Put conn payload weight ∷ rest) cell s = named_then (act_on end (acts.Put conn payload weight) cell) (acts_on end rest) (asked_named cell (host_send cell.host end conn payload weight) (naming.send_naming cell.host end conn payload weight) s) (acts_named end rest)
acts_named end (acts.Close conn ∷ rest) cell s = named_then (act_on end (acts.Close conn) cell) (acts_on end rest) (asked_named cell (host_close cell.host end conn) (naming.close_naming cell.host end conn) s) (acts_named end rest)

-- ---- acts that ask for no socket

-- things are told, and connections are closed, and no more
abbrev pub AreQuiet : List Act → Type 0
AreQuiet [] = Unit {0}
AreQuiet (acts.Note note ∷ rest) = AreQuiet rest
AreQuiet (acts.Close conn ∷ rest) = AreQuiet rest
AreQuiet (act ∷ rest) = ⊥

quiet_then : (one : Followed) (f : Cell → Followed) → AllQuiet one → ((next : Cell) → AllQuiet (f next)) → AllQuiet (one then f)
quiet_then (Ok one) f a each = from (f one.1) (each one.1) where
  from : (more : Followed) → AllQuiet more → AllQuiet (after_entries one.0 more)
  from (Ok more) b = subst NoDials (sym (steps_append one.0 more.0)) (none_both (steps_in one.0) (steps_in more.0) a b)
  from (Err stop) b = tt
quiet_then (Err stop) f a each = tt

pub acts_quiet : (end : ℕ) (done : List Act) (cell : Cell) → AreQuiet done → AllQuiet (acts_on end done cell)
acts_quiet end [] cell q = tt
acts_quiet end (acts.Note note ∷ rest) cell q = quiet_then (act_on end (acts.Note note) cell) (acts_on end rest) tt (λ next. acts_quiet end rest next q)
acts_quiet end (acts.Close conn ∷ rest) cell q = quiet_then (act_on end (acts.Close conn) cell) (acts_on end rest) (asked_quiet cell (host_close cell.host end conn) (wants.closed cell.host end conn)) (λ next. acts_quiet end rest next q)
acts_quiet end (acts.Open conn peer ∷ rest) cell q = absurd q
acts_quiet end (acts.Put conn payload weight ∷ rest) cell q = absurd q

pub notes_quiet : (done : List Act) → AreNotes done → AreQuiet done
notes_quiet [] a = tt
notes_quiet (acts.Note note ∷ rest) a = notes_quiet rest a.1
notes_quiet (acts.Open conn peer ∷ rest) a = absurd a
notes_quiet (acts.Put conn payload weight ∷ rest) a = absurd a
notes_quiet (acts.Close conn ∷ rest) a = absurd a

pub closes_quiet : (conns : List ℕ) → AreQuiet (map (λ conn. acts.Close conn) conns)
closes_quiet [] = tt
closes_quiet (conn ∷ rest) = closes_quiet rest

-- ---- acts on one link

more_asked : (end : ℕ) (peer : Address) (cell : Cell) (first : List LocalEntry × Cell) (more : Followed) → Asks end peer cell.host (steps_in first.0) first.1.host → AllAsked end peer first.1 more → AllAsked end peer cell (after_entries first.0 more)
more_asked end peer cell first (Ok more) a b = subst (λ (l : List Step). Asks end peer cell.host l more.1.host) (sym (steps_append first.0 more.0)) (asks_then end peer cell.host first.1.host more.1.host (steps_in first.0) (steps_in more.0) a b)
more_asked end peer cell first (Err stop) a b = tt

-- what the rest of the acts makes of the cell
abbrev Rest : ℕ → Address → List Act → Sender → Type 0
Rest end peer rest s = (next : Cell) → LinksApart next.host.links → FitsAs false next.host end rest s → AllAsked end peer next (acts_on end rest next)

one_asked : (end : ℕ) (peer : Address) (rest : List Act) (s : Sender) (cell : Cell) (one : Followed) → LinksApart cell.host.links → AllAsked end peer cell one → After end cell false rest s one → Rest end peer rest s → AllAsked end peer cell (one then acts_on end rest)
one_asked end peer rest s cell (Ok one) l a f more = more_asked end peer cell one (acts_on end rest one.1) a (more one.1 (f.1.apart l) f.2)
one_asked end peer rest s cell (Err stop) l a f more = tt

-- payloads alone are sent, and on this connection
abbrev pub PutsOn : ℕ → List Act → Type 0
PutsOn conn [] = Unit {0}
PutsOn conn (acts.Note note ∷ rest) = PutsOn conn rest
PutsOn conn (acts.Put on payload weight ∷ rest) = (on ≡ conn) × PutsOn conn rest
PutsOn conn (act ∷ rest) = ⊥

-- they leave open what is open
puts_open : (on conn : ℕ) (peer : Address) (done : List Act) (n : ℕ) → PutsOn on done → open_after done conn peer n ≡ n
puts_open on conn peer [] n p = refl
puts_open on conn peer (acts.Note note ∷ rest) n p = puts_open on conn peer rest n p
puts_open on conn peer (acts.Put c payload weight ∷ rest) n p = puts_open on conn peer rest n p.1
puts_open on conn peer (acts.Open c other ∷ rest) n p = absurd p
puts_open on conn peer (acts.Close c ∷ rest) n p = absurd p

pub puts_asked : (end conn : ℕ) (peer : Address) (done : List Act) (s : Sender) (cell : Cell) → PutsOn conn done → 1 ≤ open_at s conn peer → LinksApart cell.host.links → FitsAs false cell.host end done s → AllAsked end peer cell (acts_on end done cell)
puts_asked end conn peer [] s cell p there l f = asks_nothing end peer cell.host
puts_asked end conn peer (acts.Note note ∷ rest) s cell p there l f = one_asked end peer rest s cell (act_on end (acts.Note note) cell) l (asks_nothing end peer cell.host) (act_fits false end (acts.Note note) rest s cell l f) (λ next l f. puts_asked end conn peer rest s next p there l f)
puts_asked end conn peer (acts.Put c payload weight ∷ rest) s cell p there l f = one_asked end peer rest s cell (act_on end (acts.Put c payload weight) cell) l
    (asked_so end peer cell (host_send cell.host end c payload weight) (subst (λ (k : ℕ). AllAsk end peer cell.host (host_send cell.host end k payload weight)) (sym p.0) (wants.sent cell.host end conn peer payload weight alone))) (act_fits false end (acts.Put c payload weight) rest s cell l f) (λ next l f. puts_asked end conn peer rest s next p.1 there l f)
  where
    alone : IsAlone cell.host end conn peer
    alone = record { apart = l; there = subst (λ (n : ℕ). 1 ≤ n) (sym (f.1.given conn peer) ∙ puts_open conn conn peer rest (given_so cell.host end conn peer) p.1) there; one_link = λ x y. f.1.one_link conn x y }
puts_asked end conn peer (acts.Open c other ∷ rest) s cell p there l f = absurd p
puts_asked end conn peer (acts.Close c ∷ rest) s cell p there l f = absurd p

-- a connection to the peer is opened first
pub opens_asked : (end conn : ℕ) (peer : Address) (rest : List Act) (s : Sender) (cell : Cell) → PutsOn conn rest → 1 ≤ open_at s conn peer → LinksApart cell.host.links → FitsAs false cell.host end (acts.Open conn peer ∷ rest) s → AllAsked end peer cell (acts_on end (acts.Open conn peer ∷ rest) cell)
opens_asked end conn peer rest s cell p there l f = one_asked end peer rest s cell (act_on end (acts.Open conn peer) cell) l (asked_so end peer cell (host_connect cell.host end peer conn) (wants.connected cell.host end peer conn)) (act_fits false end (acts.Open conn peer) rest s cell l f) (λ next l f. puts_asked end conn peer rest s next p there l f)

pub noted_asked : (end : ℕ) (peer : Address) (act : Act) (rest : List Act) (s : Sender) (cell : Cell) → AllAsked end peer cell (act_on end act cell) → LinksApart cell.host.links → FitsAs false cell.host end (act ∷ rest) s → Rest end peer rest s → AllAsked end peer cell (acts_on end (act ∷ rest) cell)
noted_asked end peer act rest s cell a l f more = one_asked end peer rest s cell (act_on end act cell) l a (act_fits false end act rest s cell l f) more

-- ---- a message to a process of another node

more_than : (a b : ℕ) → 1 ≤ a → 1 ≤ a + b
more_than a b l = omega arith

more_with : (a b : ℕ) → 1 ≤ b → 1 ≤ a + b
more_with a b l = omega arith

-- what a pair that is stored counts, all count together
stored_counts : (f : Pair → ℕ) (pair : Pair) (pairs : List Pair) → 1 ≤ f pair → 1 ≤ total f (with_pair pair pairs)
stored_counts f pair [] l = more_than (f pair) 0 l
stored_counts f pair (known ∷ rest) l = by_test (is_pair pair.by pair.to known) (stored_counts f pair rest l) where
  by_test : (b : Bool) → 1 ≤ total f (with_pair pair rest) → 1 ≤ total f (cond b (pair ∷ rest) (known ∷ with_pair pair rest))
  by_test true more = more_than (f pair) (total f rest) l
  by_test false more = more_with (f known) (total f (with_pair pair rest)) more

-- the connection of a pair that is stored is open to its target's node
pair_open : (pair : Pair) (pairs : List Pair) (s : Sender) (conn : ℕ) → s.pairs ≡ with_pair pair pairs → pair.mark ≡ Opened conn → 1 ≤ open_at s conn (target_at pair.to)
pair_open pair pairs s conn stored marked = more_than (total (pair_has conn (target_at pair.to)) s.pairs) (total (node_has conn (target_at pair.to)) s.to_nodes) (subst (λ (l : List Pair). 1 ≤ total (pair_has conn (target_at pair.to)) l) (sym stored) (stored_counts (pair_has conn (target_at pair.to)) pair pairs one)) where
  itself : 1 ≤ 1
  itself = omega arith

  one : 1 ≤ pair_has conn (target_at pair.to) pair
  one = subst (λ (n : ℕ). 1 ≤ n) (sym (ap (λ b. cond b (marks conn pair.mark) 0) (node_self (target_at pair.to)) ∙ ap (marks conn) marked ∙ ap once (number_same conn))) itself

-- what is sent on a connection that is opened for a message
abbrev first_puts : NodeState → ℕ → ProcessId → Message → List Act
first_puts node by to said = acts.Put (2 * node.opened) (message (Opening (ends.Process (process_id node by)) (ends.Process to))) Free ∷ said_on node by to said (2 * node.opened) ∷ []

away_asked : (end : ℕ) (node next : NodeState) (by : ℕ) (to : ProcessId) (said : Message) (cell : Cell) (mark : Mark) → next.pairs ≡ with_pair (said_pair node by to (sent_mark (2 * node.opened) mark)) node.pairs → LinksApart cell.host.links → FitsAs false cell.host end (said_note node by to said ∷ sent_acts node by to said mark) (sender_of next)
    → AllAsked end to.node cell (acts_on end (said_note node by to said ∷ sent_acts node by to said mark) cell)
away_asked end node next by to said cell Unopened stored l f = noted_asked end to.node (said_note node by to said) (sent_acts node by to said Unopened) (sender_of next) cell (asks_nothing end to.node cell.host) l f
    (λ mid l f. opens_asked end (2 * node.opened) to.node (first_puts node by to said) (sender_of next) mid (refl, (refl, tt)) (pair_open (said_pair node by to (Opened (2 * node.opened))) node.pairs (sender_of next) (2 * node.opened) stored refl) l f)
away_asked end node next by to said cell (Opened conn) stored l f = puts_asked end conn to.node (said_note node by to said ∷ sent_acts node by to said (Opened conn)) (sender_of next) cell (refl, tt) (pair_open (said_pair node by to (Opened conn)) node.pairs (sender_of next) conn stored refl) l f
away_asked end node next by to said cell Broken stored l f = asks_nothing end to.node cell.host

pub sent_asked : (end : ℕ) (node next : NodeState) (by : ℕ) (to : ProcessId) (said : Message) (done : List Act) (cell : Cell) → SendsAway node by to said done next → LinksApart cell.host.links → FitsAs false cell.host end done (sender_of next) → AllAsked end to.node cell (acts_on end done cell)
sent_asked end node next by to said done cell s l f = subst (λ (d : List Act). AllAsked end to.node cell (acts_on end d cell)) (sym s.did)
    (away_asked end node next by to said cell (pair_between node by to).mark (ap (λ (n : NodeState). n.pairs) s.same) l (subst (λ (d : List Act). FitsAs false cell.host end d (sender_of next)) s.did f))

-- ---- what that is in the end

-- one socket was dialed at most
asked_once : (own : Address) (end : ℕ) (peer : Address) (host : HostState) (told : List Step) (after : HostState) → same_node peer own ≡ false → Asks end peer host told after → DialsOnce own end peer told after
asked_once own end peer host told after away a = by_state (link_with host end peer).state a where
  by_rest : (state : LinkState) → Rests host end peer state told after → DialsOnce own end peer told after
  by_rest state r = inl (subst NoDials (sym r.none) tt)

  by_idle : Rests host end peer states.Idle told after ⊎ Dials end peer told after → DialsOnce own end peer told after
  by_idle (inl r) = by_rest states.Idle r
  by_idle (inr d) = inr (record { sock = d.sock; alone = d.alone; away = away; known = d.known })

  by_state : (s : LinkState) → AsksFrom end peer host told after s → DialsOnce own end peer told after
  by_state states.Idle a = by_idle a
  by_state (states.Up sock probed) a = inl a.0
  by_state (states.Dialing sock) a = by_rest (states.Dialing sock) a
  by_state states.AwaitOther a = by_rest states.AwaitOther a

pub asks_once : (own : Address) (end : ℕ) (peer : Address) (cell after : Cell) (told : List LocalEntry) (r : Followed) → same_node peer own ≡ false → AllAsked end peer cell r → r ≡ Ok (told, after) → DialsOnce own end peer (steps_in told) after.host
asks_once own end peer cell after told r away a e = asked_once own end peer cell.host (steps_in told) after.host away (subst (AllAsked end peer cell) e a)

pub quiet_once : (told : List LocalEntry) (after : Cell) (r : Followed) → AllQuiet r → r ≡ Ok (told, after) → NoDials (steps_in told)
quiet_once told after r a e = subst AllQuiet e a

pub named_once : (told : List LocalEntry) (after : Cell) (r : Followed) → AllNamed r → r ≡ Ok (told, after) → IsNaming after.host
named_once told after r a e = subst AllNamed e a
