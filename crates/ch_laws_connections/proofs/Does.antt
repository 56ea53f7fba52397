-- What a node does to the connections that it has open is what its acts say.
use Rattle.std.proofs.Common.{◌≡◌, ◌≤◌, ◌<◌, ℕ, zero, suc, ◌+◌, ◌*◌, Bool, true, false, cond, not, ◌&&◌, ◌||◌, List, [], ◌∷◌, ◌++◌, map, refl, sym, ap, ◌∙◌, subst, arith, Ok, Err}
use Rattle.std.proofs.lemmas.List.Folds.{list_any-append}
use Rattle.std.specs.List.{list_any}
use Rattle.std.specs.Prelude.{filter, ◌==◌, Result}
use Rattle.ch_base.specs.declared.address.Address.{Address}
use Rattle.ch_light.specs.declared.TheConstants.{MOST_IDS}
use Rattle.ch_watch.specs.Same.{same_node}
use Rattle.ch_model.specs.declared.act.Act.{Act}
use Rattle.ch_model.specs.declared.act.Act.TheVariants as acts
use Rattle.ch_model.specs.declared.note.Note.{Note}
use Rattle.ch_model.specs.declared.step.Weight.{Weight}
use Rattle.ch_model.specs.NodeActs.{Done, after, ◌and_then◌}
use Rattle.ch_model.specs.NodeIds.{target_at}
use Rattle.ch_model.specs.NodePairs.{pair_of, with_pair, conn_of, conns_by, closed_pairs, closed_by}
use Rattle.ch_model.specs.NodeState.{NodeState, Pair, Mark, Unopened, Opened, Broken}
use Rattle.ch_laws_log.proofs.Homes.{node_self}
use Rattle.ch_laws_log.proofs.Keys.{node_is}
use Rattle.ch_laws_log.proofs.Stored.{number_is, number_same}
use Rattle.ch_laws_connections.specs.Senders.{Sender, sender_of, once, marks, pair_has, node_has, total, open_at, open_to_any, IsOfFirst, Own, open_after, opens_to, OpensFrom, kept_free, AllUsed}
use Rattle.ch_laws_connections.proofs.Pairs.{total_append, stored_total, IsKept, none_new, total_below, cond_below, of_by, closed_totals, closed_has, IsSome, closed_among, IsLost, gone_has, gone_fewer, gone_known, conns_occur, some_peer}
use Rattle.ch_laws_connections.proofs.Used.{alike_used, both_used, occurs, closes_used}
use Rattle.ch_model.specs.HostWrites.{is_counted}
use Rattle.ch_model.specs.declared.step.Weight.TheVariants.{Free}

-- What a node did to its connections by some acts, where what is given to each peer, and which have room, fits: it has what
-- the acts leave, under numbers that were drawn in order; the acts use open connections alone; and there are ids enough
-- where there were before.
pub record Does (Fit : (Address → ℕ) → (Address → Bool) → Type 0) (before : Sender) (done : List Act) (after : Sender) : Type 0 where
  pub own : Own after
  pub leaves : (conn : ℕ) (peer : Address) → open_after done conn peer (open_at before conn peer) ≡ open_at after conn peer
  pub opens : OpensFrom before.opened done after.opened
  pub used : (given : Address → ℕ) (roomy : Address → Bool) → Fit given roomy → AllUsed done (open_at before) roomy
  pub room : (given : Address → ℕ) (roomy : Address → Bool) → Fit given roomy → ((peer : Address) → given peer + kept_free before peer ≤ MOST_IDS) → (peer : Address) → given peer + (opens_to done peer + kept_free after peer) ≤ MOST_IDS
  pub shut : after.is_shut ≡ before.is_shut

-- whatever is given
abbrev pub Any : (Address → ℕ) → (Address → Bool) → Type 0
Any given roomy = Unit {0}

abbrev pub AllDo : {E : Type 0} → ((Address → ℕ) → (Address → Bool) → Type 0) → Sender → Result (List Act × NodeState) E → Type 0
AllDo Fit before (Ok done) = Own before → Does Fit before done.0 (sender_of done.1)
AllDo Fit before (Err e) = Unit {0}

-- ---- one thing and then another

pub after_both : (xs ys : List Act) (conn : ℕ) (peer : Address) (n : ℕ) → open_after (xs ++ ys) conn peer n ≡ open_after ys conn peer (open_after xs conn peer n)
after_both [] ys conn peer n = refl
after_both (acts.Open c p ∷ xs) ys conn peer n = after_both xs ys conn peer (once ((c == conn) && same_node p peer) + n)
after_both (acts.Close c ∷ xs) ys conn peer n = after_both xs ys conn peer (cond (c == conn) 0 n)
after_both (acts.Note note ∷ xs) ys conn peer n = after_both xs ys conn peer n
after_both (acts.Put c payload weight ∷ xs) ys conn peer n = after_both xs ys conn peer n

opens_both : (xs ys : List Act) (peer : Address) → opens_to (xs ++ ys) peer ≡ opens_to xs peer + opens_to ys peer
opens_both [] ys peer = none (opens_to ys peer) where
  none : (n : ℕ) → n ≡ 0 + n
  none n = omega arith
opens_both (acts.Open c p ∷ xs) ys peer = ap (λ n. once (same_node p peer) + n) (opens_both xs ys peer) ∙ onto (once (same_node p peer)) (opens_to xs peer) (opens_to ys peer) where
  onto : (a b c : ℕ) → a + (b + c) ≡ (a + b) + c
  onto a b c = omega arith
opens_both (acts.Close c ∷ xs) ys peer = opens_both xs ys peer
opens_both (acts.Note note ∷ xs) ys peer = opens_both xs ys peer
opens_both (acts.Put c payload weight ∷ xs) ys peer = opens_both xs ys peer

from_both : (xs ys : List Act) (n m k : ℕ) → OpensFrom n xs m → OpensFrom m ys k → OpensFrom n (xs ++ ys) k
from_both [] ys n m k a b = subst (λ (x : ℕ). OpensFrom x ys k) (sym a) b
from_both (acts.Open c p ∷ xs) ys n m k a b = (a.0, from_both xs ys (n + 1) m k a.1 b)
from_both (acts.Close c ∷ xs) ys n m k a b = from_both xs ys n m k a b
from_both (acts.Note note ∷ xs) ys n m k a b = from_both xs ys n m k a b
from_both (acts.Put c payload weight ∷ xs) ys n m k a b = from_both xs ys n m k a b

pub onward : (Fit : (Address → ℕ) → (Address → Bool) → Type 0) (one two three : Sender) (xs ys : List Act) → Does Fit one xs two → Does Any two ys three → Does Fit one (xs ++ ys) three
onward Fit one two three xs ys a b = record {
  own = b.own;
  leaves = λ conn p. after_both xs ys conn p (open_at one conn p) ∙ ap (open_after ys conn p) (a.leaves conn p) ∙ b.leaves conn p;
  opens = from_both xs ys one.opened two.opened three.opened a.opens b.opens;
  used = λ given roomy fit. both_used xs ys (open_at one) roomy (a.used given roomy fit) (λ q. alike_used ys (open_at two) (λ c p. open_after xs c p (open_at one c p)) q q (λ c p. sym (a.leaves c p)) (λ p x. x) (b.used given q tt));
  room = λ given roomy fit r p. subst (λ (o : ℕ). given p + (o + kept_free three p) ≤ MOST_IDS) (sym (opens_both xs ys p)) (turned (given p) (opens_to xs p) (opens_to ys p) (kept_free three p) MOST_IDS (b.room (λ q. given q + opens_to xs q) roomy tt (λ q. past (given q) (opens_to xs q) (kept_free two q) MOST_IDS (a.room given roomy fit r q)) p));
  shut = b.shut ∙ a.shut;
} where
  past : (g o k m : ℕ) → g + (o + k) ≤ m → (g + o) + k ≤ m
  past g o k m l = omega arith

  turned : (g o x k m : ℕ) → (g + o) + (x + k) ≤ m → g + ((o + x) + k) ≤ m
  turned g o x k m l = omega arith

pub later : (Fit : (Address → ℕ) → (Address → Bool) → Type 0) (done : List Act) (one two : Sender) (more : Done) → (Own one → Does Fit one done two) → AllDo Any two more → AllDo Fit one (after done more)
later Fit done one two (Ok more) a b = λ o. let first = a o in onward Fit one two (sender_of more.1) done more.0 first (b first.own)
later Fit done one two (Err stop) a b = tt

pub chained : (Fit : (Address → ℕ) → (Address → Bool) → Type 0) (one : Sender) (done : Done) (f : NodeState → Done) → AllDo Fit one done → ((next : NodeState) → AllDo Any (sender_of next) (f next)) → AllDo Fit one (done and_then f)
chained Fit one (Ok done) f a g = later Fit done.0 one (sender_of done.1) (f done.1) a (g done.1)
chained Fit one (Err stop) f a g = tt

-- ---- nothing changes

in_room : (g k m : ℕ) → g + k ≤ m → g + (0 + k) ≤ m
in_room g k m l = omega arith

pub same_does : (Fit : (Address → ℕ) → (Address → Bool) → Type 0) (s t : Sender) → t.is_shut ≡ s.is_shut → t.opened ≡ s.opened → t.to_nodes ≡ s.to_nodes → ((conn : ℕ) → open_to_any t conn ≡ open_to_any s conn) → ((conn : ℕ) (peer : Address) → open_at t conn peer ≡ open_at s conn peer) → Own s → Does Fit s [] t
same_does Fit s t shut opened known any at o = record {
  own = record { alone = λ conn. subst (λ (n : ℕ). n ≤ 1) (sym (any conn)) (o.alone conn); drawn = λ conn x. subst (λ (n : ℕ). IsOfFirst n conn) (sym opened) (o.drawn conn (subst (λ (n : ℕ). 1 ≤ n) (any conn) x)) };
  leaves = λ conn p. sym (at conn p);
  opens = sym opened;
  used = λ given roomy fit. tt;
  room = λ given roomy fit r p. subst (λ (l : List (Address × ℕ)). given p + (0 + cond (list_any (λ k. same_node k.0 p) l) 0 1) ≤ MOST_IDS) (sym known) (in_room (given p) (kept_free s p) MOST_IDS (r p));
  shut = shut;
}

pub at_rest : (Fit : (Address → ℕ) → (Address → Bool) → Type 0) (s : Sender) → Own s → Does Fit s [] s
at_rest Fit s o = same_does Fit s s refl refl refl (λ conn. refl) (λ conn p. refl) o

-- what is no opening and no closing comes before
pub noted : (Fit : (Address → ℕ) → (Address → Bool) → Type 0) (note : Note) (s t : Sender) (done : List Act) → Does Fit s done t → Does Fit s (acts.Note note ∷ done) t
noted Fit note s t done d = record { own = d.own; leaves = d.leaves; opens = d.opens; used = d.used; room = d.room; shut = d.shut }

pub puts_first : (Fit : (Address → ℕ) → (Address → Bool) → Type 0) (conn : ℕ) (payload : List ℕ) (weight : Weight) (peer : Address) (s : Sender) → Own s → 1 ≤ open_at s conn peer → ((given : Address → ℕ) (roomy : Address → Bool) → Fit given roomy → is_counted weight ≡ true → roomy peer ≡ true) → Does Fit s (acts.Put conn payload weight ∷ []) s
puts_first Fit conn payload weight peer s o there fits = let d = at_rest Fit s o in record { own = d.own; leaves = d.leaves; opens = d.opens; used = λ given roomy fit. ((peer, there, fits given roomy fit), tt); room = d.room; shut = d.shut }

-- ---- a connection is opened

not_first : (n k c : ℕ) → c ≡ 2 * n → c ≡ 2 * k → k < n → ⊥
not_first n k c e f l = omega arith

nothing : (n : ℕ) → (1 ≤ n → ⊥) → n ≡ 0
nothing zero f = refl
nothing (suc n) f = absurd (f (one n)) where
  one : (n : ℕ) → 1 ≤ suc n
  one n = omega arith

-- a number that is next has no connection yet
pub fresh : (s : Sender) → Own s → open_to_any s (2 * s.opened) ≡ 0
fresh s o = nothing (open_to_any s (2 * s.opened)) (λ x. let i = o.drawn (2 * s.opened) x in not_first s.opened i.0 (2 * s.opened) refl i.2 i.1)

-- a sender that has one connection more, under the next number, to a peer
pub record Opens (peer : Address) (s t : Sender) : Type 0 where
  pub any : (conn : ℕ) → open_to_any t conn ≡ once ((2 * s.opened) == conn) + open_to_any s conn
  pub at : (conn : ℕ) (p : Address) → open_at t conn p ≡ once (((2 * s.opened) == conn) && same_node peer p) + open_at s conn p
  pub opened : t.opened ≡ s.opened + 1

pub own_opened : (peer : Address) (s t : Sender) → Opens peer s t → Own s → Own t
own_opened peer s t x o = record { alone = λ conn. subst (λ (n : ℕ). n ≤ 1) (sym (x.any conn)) (alone_by conn ((2 * s.opened) == conn) refl); drawn = λ conn l. subst (λ (n : ℕ). IsOfFirst n conn) (sym x.opened) (drawn_by conn ((2 * s.opened) == conn) refl (subst (λ (n : ℕ). 1 ≤ n) (x.any conn) l)) } where
  one : (n : ℕ) → n ≡ 0 → 1 + n ≤ 1
  one n e = omega arith

  none : (n : ℕ) → n ≤ 1 → 0 + n ≤ 1
  none n l = omega arith

  less : (n : ℕ) → 1 ≤ 0 + n → 1 ≤ n
  less n l = omega arith

  alone_by : (conn : ℕ) (b : Bool) → ((2 * s.opened) == conn) ≡ b → once b + open_to_any s conn ≤ 1
  alone_by conn true h = one (open_to_any s conn) (ap (open_to_any s) (sym (number_is (2 * s.opened) conn h)) ∙ fresh s o)
  alone_by conn false h = none (open_to_any s conn) (o.alone conn)

  drawn_by : (conn : ℕ) (b : Bool) → ((2 * s.opened) == conn) ≡ b → 1 ≤ once b + open_to_any s conn → IsOfFirst (s.opened + 1) conn
  drawn_by conn true h l = (s.opened, next s.opened, sym (number_is (2 * s.opened) conn h)) where
    next : (k : ℕ) → k < k + 1
    next k = omega arith
  drawn_by conn false h l = let i = o.drawn conn (less (open_to_any s conn) l) in (i.0, more i.0 s.opened i.1, i.2) where
    more : (k n : ℕ) → k < n → k < n + 1
    more k n l = omega arith

-- a new connection is open to its peer
new_open : (conn : ℕ) (peer : Address) (s : Sender) → 1 ≤ once ((conn == conn) && same_node peer peer) + open_at s conn peer
new_open conn peer s = subst (λ b. 1 ≤ once (b && same_node peer peer) + open_at s conn peer) (sym (number_same conn)) (subst (λ b. 1 ≤ once b + open_at s conn peer) (sym (node_self peer)) (one (open_at s conn peer))) where
  one : (n : ℕ) → 1 ≤ 1 + n
  one n = omega arith

uncounted : false ≡ true → ⊥
uncounted e = cc

-- the node's own connection to a peer, with two payloads, of which the second may be counted
pub own_does : (peer : Address) (s : Sender) → list_any (λ k. same_node k.0 peer) s.to_nodes ≡ false → Own s → (opening said : List ℕ) (weight : Weight)
    → Does (λ given roomy. is_counted weight ≡ true → roomy peer ≡ true) s (acts.Open (2 * s.opened) peer ∷ acts.Put (2 * s.opened) opening Free ∷ acts.Put (2 * s.opened) said weight ∷ []) (record s { opened = s.opened + 1; to_nodes = s.to_nodes ++ (peer, 2 * s.opened) ∷ [] })
own_does peer s none o opening said weight = first where
  conn : ℕ
  conn = 2 * s.opened

  next : Sender
  next = record s { opened = s.opened + 1; to_nodes = s.to_nodes ++ (peer, 2 * s.opened) ∷ [] }

  last : (p t x : ℕ) → p + (t + (x + 0)) ≡ x + (p + t)
  last p t x = omega arith

  by_both : (b d : Bool) → cond b (once d) 0 ≡ once (d && b)
  by_both true true = refl
  by_both true false = refl
  by_both false true = refl
  by_both false false = refl

  opens : Opens peer s next
  opens = record {
    any = λ c. ap (λ n. total (λ pair. marks c pair.mark) s.pairs + n) (total_append (λ k. once (k.1 == c)) s.to_nodes ((peer, conn) ∷ [])) ∙ last (total (λ pair. marks c pair.mark) s.pairs) (total (λ k. once (k.1 == c)) s.to_nodes) (once (conn == c));
    at = λ c p. ap (λ n. total (pair_has c p) s.pairs + n) (total_append (node_has c p) s.to_nodes ((peer, conn) ∷ [])) ∙ last (total (pair_has c p) s.pairs) (total (node_has c p) s.to_nodes) (cond (same_node peer p) (once (conn == c)) 0)
        ∙ ap (λ n. n + open_at s c p) (by_both (same_node peer p) (conn == c));
    opened = refl;
  }

  free_by : (g m : ℕ) (p : Address) (b : Bool) → same_node peer p ≡ b → (x : Bool) → list_any (λ k. same_node k.0 p) s.to_nodes ≡ x → g + cond x 0 1 ≤ m → g + ((once b + 0) + cond (x || (b || false)) 0 1) ≤ m
  free_by g m p true h true f l = let never : false ≡ true = sym none ∙ ap (λ (q : Address). list_any (λ k. same_node k.0 q) s.to_nodes) (node_is peer p h) ∙ f in absurd cc
  free_by g m p true h false f l = as_is g m l where
    as_is : (g m : ℕ) → g + 1 ≤ m → g + ((1 + 0) + 0) ≤ m
    as_is g m l = omega arith
  free_by g m p false h true f l = as_is g m l where
    as_is : (g m : ℕ) → g + 0 ≤ m → g + ((0 + 0) + 0) ≤ m
    as_is g m l = omega arith
  free_by g m p false h false f l = as_is g m l where
    as_is : (g m : ℕ) → g + 1 ≤ m → g + ((0 + 0) + 1) ≤ m
    as_is g m l = omega arith

  first : Does (λ given roomy. is_counted weight ≡ true → roomy peer ≡ true) s (acts.Open conn peer ∷ acts.Put conn opening Free ∷ acts.Put conn said weight ∷ []) next
  first = record {
    own = own_opened peer s next opens o;
    leaves = λ c p. sym (opens.at c p);
    opens = (refl, refl);
    used = λ given roomy fit. ((peer, new_open conn peer s, λ e. absurd (uncounted e)), ((peer, new_open conn peer s, fit), tt));
    room = λ given roomy fit r p. subst (λ b. given p + ((once (same_node peer p) + 0) + cond b 0 1) ≤ MOST_IDS) (sym (list_any-append (λ k. same_node k.0 p) s.to_nodes ((peer, conn) ∷ []))) (free_by (given p) MOST_IDS p (same_node peer p) refl (list_any (λ k. same_node k.0 p) s.to_nodes) refl (r p));
    shut = refl;
  }

-- there is an id for the pair's connection, and room for what is counted
abbrev pub PairFits : Pair → Sender → Weight → (Address → ℕ) → (Address → Bool) → Type 0
PairFits pair s weight given roomy = (given (target_at pair.to) + (1 + kept_free s (target_at pair.to)) ≤ MOST_IDS) × (is_counted weight ≡ true → roomy (target_at pair.to) ≡ true)

-- the pair, where it stands in its place and has none, has a connection, with two payloads
pub pair_does : (pair : Pair) (s : Sender) → IsKept pair s.pairs → pair.mark ≡ Unopened → Own s → (opening said : List ℕ) (weight : Weight)
    → Does (PairFits pair s weight) s (acts.Open (2 * s.opened) (target_at pair.to) ∷ acts.Put (2 * s.opened) opening Free ∷ acts.Put (2 * s.opened) said weight ∷ []) (record s { opened = s.opened + 1; pairs = with_pair (record pair { mark = Opened (2 * s.opened) }) s.pairs })
pair_does pair s is unopened o opening said weight = first where
  conn : ℕ
  conn = 2 * s.opened

  peer : Address
  peer = target_at pair.to

  with_conn : Pair
  with_conn = record pair { mark = Opened conn }

  next : Sender
  next = record s { opened = s.opened + 1; pairs = with_pair with_conn s.pairs }

  more : (t f u x k : ℕ) → t + f ≡ u + x → f ≡ 0 → t + k ≡ x + (u + k)
  more t f u x k e z = omega arith

  by_both : (b d : Bool) → cond b (once d) 0 ≡ once (d && b)
  by_both true true = refl
  by_both true false = refl
  by_both false true = refl
  by_both false false = refl

  no_has : (S : Bool) → cond {A = ℕ} S 0 0 ≡ 0
  no_has true = refl
  no_has false = refl

  stored : (f : Pair → ℕ) → ((by : ℕ) (to : Rattle.ch_static.specs.declared.target.Target.Target) → f (Rattle.ch_model.specs.NodePairs.new_pair by to) ≡ 0) → total f (with_pair with_conn s.pairs) + f pair ≡ total f s.pairs + f with_conn
  stored f none = subst (λ (q : Pair). total f (with_pair with_conn s.pairs) + f q ≡ total f s.pairs + f with_conn) is (stored_total f none with_conn s.pairs)

  opens : Opens peer s next
  opens = record {
    any = λ c. more (total (λ q. marks c q.mark) (with_pair with_conn s.pairs)) (marks c pair.mark) (total (λ q. marks c q.mark) s.pairs) (once (conn == c)) (total (λ k. once (k.1 == c)) s.to_nodes) (stored (λ q. marks c q.mark) (λ by to. refl)) (ap (marks c) unopened);
    at = λ c p. more (total (pair_has c p) (with_pair with_conn s.pairs)) (pair_has c p pair) (total (pair_has c p) s.pairs) (cond (same_node peer p) (once (conn == c)) 0) (total (node_has c p) s.to_nodes) (stored (pair_has c p) (none_new c p)) (ap (λ (m : Mark). cond (same_node peer p) (marks c m) 0) unopened ∙ no_has (same_node peer p))
        ∙ ap (λ n. n + open_at s c p) (by_both (same_node peer p) (conn == c));
    opened = refl;
  }

  first : Does (PairFits pair s weight) s (acts.Open conn peer ∷ acts.Put conn opening Free ∷ acts.Put conn said weight ∷ []) next
  first = record {
    own = own_opened peer s next opens o;
    leaves = λ c p. sym (opens.at c p);
    opens = (refl, refl);
    used = λ given roomy fit. ((peer, new_open conn peer s, λ e. absurd (uncounted e)), ((peer, new_open conn peer s, fit.1), tt));
    room = λ given roomy fit r p. by_peer given fit.0 p (r p) (same_node peer p) refl;
    shut = refl;
  } where
    here : (g k m : ℕ) → g + (1 + k) ≤ m → g + ((1 + 0) + k) ≤ m
    here g k m l = omega arith

    there : (g k m : ℕ) → g + k ≤ m → g + ((0 + 0) + k) ≤ m
    there g k m l = omega arith

    by_peer : (given : Address → ℕ) → given peer + (1 + kept_free s peer) ≤ MOST_IDS → (p : Address) → given p + kept_free s p ≤ MOST_IDS → (b : Bool) → same_node peer p ≡ b → given p + ((once b + 0) + kept_free s p) ≤ MOST_IDS
    by_peer given fit p r true h = subst (λ (a : Address). given a + ((1 + 0) + kept_free s a) ≤ MOST_IDS) (node_is peer p h) (here (given peer) (kept_free s peer) MOST_IDS fit)
    by_peer given fit p r false h = there (given p) (kept_free s p) MOST_IDS r

-- ---- connections are closed

-- a sender that has no connection more, and where all of one number are gone
pub record Shuts (gone : ℕ → Bool) (s t : Sender) : Type 0 where
  pub fewer : (conn : ℕ) → open_to_any t conn ≤ open_to_any s conn
  pub at : (conn : ℕ) (p : Address) → open_at t conn p ≡ cond (gone conn) 0 (open_at s conn p)
  pub opened : t.opened ≡ s.opened

pub own_shut : (gone : ℕ → Bool) (s t : Sender) → Shuts gone s t → Own s → Own t
own_shut gone s t x o = record { alone = λ conn. within (open_to_any t conn) (open_to_any s conn) (x.fewer conn) (o.alone conn); drawn = λ conn l. subst (λ (n : ℕ). IsOfFirst n conn) (sym x.opened) (o.drawn conn (more (open_to_any t conn) (open_to_any s conn) l (x.fewer conn))) } where
  within : (a b : ℕ) → a ≤ b → b ≤ 1 → a ≤ 1
  within a b l m = omega arith

  more : (a b : ℕ) → 1 ≤ a → a ≤ b → 1 ≤ b
  more a b l m = omega arith

-- what is open to a peer is open to any
pub at_below : (s : Sender) (conn : ℕ) (p : Address) → open_at s conn p ≤ open_to_any s conn
at_below s conn p = both (total (pair_has conn p) s.pairs) (total (λ q. marks conn q.mark) s.pairs) (total (node_has conn p) s.to_nodes) (total (λ k. once (k.1 == conn)) s.to_nodes)
    (total_below (pair_has conn p) (λ q. marks conn q.mark) (λ q. cond_below (same_node (target_at q.to) p) (marks conn q.mark)) s.pairs) (total_below (node_has conn p) (λ k. once (k.1 == conn)) (λ k. cond_below (same_node k.0 p) (once (k.1 == conn))) s.to_nodes) where
      both : (a b c d : ℕ) → a ≤ b → c ≤ d → a + c ≤ b + d
      both a b c d l m = omega arith

closes_after : (ns : List ℕ) (conn : ℕ) (p : Address) (n : ℕ) → open_after (map (λ c. acts.Close c) ns) conn p n ≡ cond (list_any (λ m. m == conn) ns) 0 n
closes_after [] conn p n = refl
closes_after (m ∷ rest) conn p n = closes_after rest conn p (cond (m == conn) 0 n) ∙ by_tests (m == conn) (list_any (λ m. m == conn) rest) where
  by_tests : (a b : Bool) → cond b 0 (cond a 0 n) ≡ cond (a || b) 0 n
  by_tests true true = refl
  by_tests true false = refl
  by_tests false true = refl
  by_tests false false = refl

closes_open_none : (ns : List ℕ) (p : Address) → opens_to (map (λ c. acts.Close c) ns) p ≡ 0
closes_open_none [] p = refl
closes_open_none (m ∷ rest) p = closes_open_none rest p

closes_from : (ns : List ℕ) (n : ℕ) → OpensFrom n (map (λ c. acts.Close c) ns) n
closes_from [] n = refl
closes_from (m ∷ rest) n = closes_from rest n

pub shut_does : (ns : List ℕ) (s t : Sender) → ((c : ℕ) → occurs c ns ≤ 1) → ((c : ℕ) → 1 ≤ occurs c ns → (p : Address) × (1 ≤ open_at s c p)) → Shuts (λ conn. list_any (λ m. m == conn) ns) s t → t.to_nodes ≡ s.to_nodes → t.is_shut ≡ s.is_shut → Own s → Does Any s (map (λ c. acts.Close c) ns) t
shut_does ns s t one there x known shut o = record {
  own = own_shut (λ conn. list_any (λ m. m == conn) ns) s t x o;
  leaves = λ conn p. closes_after ns conn p (open_at s conn p) ∙ sym (x.at conn p);
  opens = subst (λ (n : ℕ). OpensFrom s.opened (map (λ c. acts.Close c) ns) n) (sym x.opened) (closes_from ns s.opened);
  used = λ given roomy fit. closes_used ns (open_at s) roomy one there;
  room = λ given roomy fit r p. subst (λ (k : ℕ). given p + (k + kept_free t p) ≤ MOST_IDS) (sym (closes_open_none ns p)) (subst (λ (l : List (Address × ℕ)). given p + (0 + cond (list_any (λ k. same_node k.0 p) l) 0 1) ≤ MOST_IDS) (sym known) (in_room (given p) (kept_free s p) MOST_IDS (r p)));
  shut = shut;
}

-- all connections of a process
pub process_does : (by : ℕ) (s : Sender) → Own s → Does Any s (map (λ c. acts.Close c) (conns_by s.pairs by)) (record s { pairs = closed_pairs s.pairs by })
unfolding closed_pairs
process_does by s o = shut_does (conns_by s.pairs by) s next one there shuts refl refl o where
  few : (a b n k : ℕ) → a + b ≡ n → n + k ≤ 1 → b ≤ 1
  few a b n k e l = omega arith

  one : (c : ℕ) → occurs c (conns_by s.pairs by) ≤ 1
  one c = subst (λ (n : ℕ). n ≤ 1) (sym (conns_occur by c s.pairs)) (few (total (λ q. marks c q.mark) (map (closed_by by) s.pairs)) (total (of_by by c) s.pairs) (total (λ q. marks c q.mark) s.pairs) (total (λ k. once (k.1 == c)) s.to_nodes) (closed_totals by c s.pairs) (o.alone c))

  there : (c : ℕ) → 1 ≤ occurs c (conns_by s.pairs by) → (p : Address) × (1 ≤ open_at s c p)
  there c l = let x = some_peer by c s.pairs (subst (λ (n : ℕ). 1 ≤ n) (conns_occur by c s.pairs) l) in (x.0, more (total (pair_has c x.0) s.pairs) (total (node_has c x.0) s.to_nodes) x.1) where
    more : (a b : ℕ) → 1 ≤ a → 1 ≤ a + b
    more a b l = omega arith

  next : Sender
  next = record s { pairs = map (closed_by by) s.pairs }

  fewer : (a b n k : ℕ) → a + b ≡ n → a + k ≤ n + k
  fewer a b n k e = omega arith

  gone : (x a b n k : ℕ) → x ≤ a + k → a + b ≡ n → n + k ≤ 1 → 1 ≤ b → x ≡ 0
  gone x a b n k l e m h = omega arith

  by_among : (conn : ℕ) (p : Address) (x : Bool) → IsSome x (total (of_by by conn) s.pairs) → open_at next conn p ≡ cond x 0 (open_at s conn p)
  by_among conn p true i = gone (open_at next conn p) (total (λ q. marks conn q.mark) next.pairs) (total (of_by by conn) s.pairs) (total (λ q. marks conn q.mark) s.pairs) (total (λ k. once (k.1 == conn)) s.to_nodes) (at_below next conn p) (closed_totals by conn s.pairs) (o.alone conn) i
  by_among conn p false i = ap (λ n. n + total (node_has conn p) s.to_nodes) (closed_has by conn p s.pairs i)

  shuts : Shuts (λ conn. list_any (λ m. m == conn) (conns_by s.pairs by)) s next
  shuts = record {
    fewer = λ conn. fewer (total (λ q. marks conn q.mark) next.pairs) (total (of_by by conn) s.pairs) (total (λ q. marks conn q.mark) s.pairs) (total (λ k. once (k.1 == conn)) s.to_nodes) (closed_totals by conn s.pairs);
    at = λ conn p. by_among conn p (list_any (λ m. m == conn) (conns_by s.pairs by)) (closed_among by conn s.pairs);
    opened = refl;
  }

-- ---- one pair

module _ (next pair : Pair) (s : Sender) (is : pair_of s.pairs next.by next.to ≡ pair) where
  stored_now : (f : Pair → ℕ) → ((by : ℕ) (to : Rattle.ch_static.specs.declared.target.Target.Target) → f (Rattle.ch_model.specs.NodePairs.new_pair by to) ≡ 0) → total f (with_pair next s.pairs) + f pair ≡ total f s.pairs + f next
  stored_now f none = subst (λ (q : Pair). total f (with_pair next s.pairs) + f q ≡ total f s.pairs + f next) is (stored_total f none next s.pairs)

  -- it is stored with the mark that it had
  pub unmarked_does : next.mark ≡ pair.mark → next.to ≡ pair.to → Own s → Does Any s [] (record s { pairs = with_pair next s.pairs })
  unmarked_does e f o = same_does Any s (record s { pairs = with_pair next s.pairs }) refl refl refl
      (λ conn. level (total (λ q. marks conn q.mark) (with_pair next s.pairs)) (marks conn pair.mark) (total (λ q. marks conn q.mark) s.pairs) (marks conn next.mark) (total (λ k. once (k.1 == conn)) s.to_nodes) (stored_now (λ q. marks conn q.mark) (λ by to. refl)) (ap (marks conn) e))
      (λ conn p. level (total (pair_has conn p) (with_pair next s.pairs)) (pair_has conn p pair) (total (pair_has conn p) s.pairs) (pair_has conn p next) (total (node_has conn p) s.to_nodes) (stored_now (pair_has conn p) (none_new conn p)) (ap (λ (m : Mark). cond (same_node (target_at next.to) p) (marks conn m) 0) e ∙ ap (λ (t : Rattle.ch_static.specs.declared.target.Target.Target). cond (same_node (target_at t) p) (marks conn pair.mark) 0) f)) o where
        level : (t a u b k : ℕ) → t + a ≡ u + b → b ≡ a → t + k ≡ u + k
        level t a u b k e f = omega arith

  -- it was broken, and has none
  pub unbroken_does : pair.mark ≡ Broken → next.mark ≡ Unopened → Own s → Does Any s [] (record s { pairs = with_pair next s.pairs })
  unbroken_does e f o = same_does Any s (record s { pairs = with_pair next s.pairs }) refl refl refl
      (λ conn. level (total (λ q. marks conn q.mark) (with_pair next s.pairs)) (marks conn pair.mark) (total (λ q. marks conn q.mark) s.pairs) (marks conn next.mark) (total (λ k. once (k.1 == conn)) s.to_nodes) (stored_now (λ q. marks conn q.mark) (λ by to. refl)) (ap (marks conn) e) (ap (marks conn) f))
      (λ conn p. level (total (pair_has conn p) (with_pair next s.pairs)) (pair_has conn p pair) (total (pair_has conn p) s.pairs) (pair_has conn p next) (total (node_has conn p) s.to_nodes) (stored_now (pair_has conn p) (none_new conn p)) (none conn p pair Broken e refl) (none conn p next Unopened f refl)) o where
        level : (t a u b k : ℕ) → t + a ≡ u + b → a ≡ 0 → b ≡ 0 → t + k ≡ u + k
        level t a u b k e f g = omega arith

        no_has : (S : Bool) → cond {A = ℕ} S 0 0 ≡ 0
        no_has true = refl
        no_has false = refl

        none : (conn : ℕ) (p : Address) (q : Pair) (m : Mark) → q.mark ≡ m → marks conn m ≡ 0 → pair_has conn p q ≡ 0
        none conn p q m e z = ap (λ (x : Mark). cond (same_node (target_at q.to) p) (marks conn x) 0) e ∙ ap (λ n. cond (same_node (target_at q.to) p) n 0) z ∙ no_has (same_node (target_at q.to) p)

  -- its connection is closed
  pub unpaired_does : (c : ℕ) → pair.mark ≡ Opened c → next.mark ≡ Unopened → Own s → Does Any s (acts.Close c ∷ []) (record s { pairs = with_pair next s.pairs })
  unpaired_does c e f o = shut_does (c ∷ []) s t once_only there shuts refl refl o where
    once_only : (d : ℕ) → occurs d (c ∷ []) ≤ 1
    once_only d = by_number (c == d) where
      by_number : (b : Bool) → once b + 0 ≤ 1
      by_number true = omega arith
      by_number false = omega arith

    there : (d : ℕ) → 1 ≤ occurs d (c ∷ []) → (p : Address) × (1 ≤ open_at s d p)
    there d l = by_number (c == d) refl l where
      unmarked : next.mark ≡ Unopened
      unmarked = f

      has : 1 ≤ open_at s c (target_at pair.to)
      has = more (total mine s.pairs) (total (node_has c (target_at pair.to)) s.to_nodes) (enough (total mine (with_pair next s.pairs)) (mine pair) (total mine s.pairs) (mine next) (stored_now mine (none_new c (target_at pair.to))) (ap (λ b. cond b (marks c pair.mark) 0) (node_self (target_at pair.to)) ∙ ap (marks c) e ∙ ap once (number_same c)) (ap (λ (m : Mark). cond (same_node (target_at next.to) (target_at pair.to)) (marks c m) 0) unmarked ∙ no_mark (same_node (target_at next.to) (target_at pair.to)))) where
        mine : Pair → ℕ
        mine = pair_has c (target_at pair.to)

        no_mark : (S : Bool) → cond {A = ℕ} S 0 0 ≡ 0
        no_mark true = refl
        no_mark false = refl

        enough : (t a u b : ℕ) → t + a ≡ u + b → a ≡ 1 → b ≡ 0 → 1 ≤ u
        enough t a u b e f g = omega arith

        more : (a b : ℕ) → 1 ≤ a → 1 ≤ a + b
        more a b l = omega arith

      never : 1 ≤ 0 + 0 → ⊥
      never l = omega arith

      by_number : (b : Bool) → (c == d) ≡ b → 1 ≤ once b + 0 → (p : Address) × (1 ≤ open_at s d p)
      by_number true h l = (target_at pair.to, subst (λ (n : ℕ). 1 ≤ open_at s n (target_at pair.to)) (number_is c d h) has)
      by_number false h l = absurd (never l)

    t : Sender
    t = record s { pairs = with_pair next s.pairs }

    fewer : (x a u b k : ℕ) → x + a ≡ u + b → b ≡ 0 → x + k ≤ u + k
    fewer x a u b k e f = omega arith

    gone : (y x u b k : ℕ) → y ≤ x + k → x + 1 ≡ u + b → b ≡ 0 → u + k ≤ 1 → y ≡ 0
    gone y x u b k l e f m = omega arith

    level : (x a u b k : ℕ) → x + a ≡ u + b → a ≡ 0 → b ≡ 0 → x + k ≡ u + k
    level x a u b k e f g = omega arith

    no_has : (S : Bool) → cond {A = ℕ} S 0 0 ≡ 0
    no_has true = refl
    no_has false = refl

    any : (conn : ℕ) → total (λ q. marks conn q.mark) t.pairs + marks conn pair.mark ≡ total (λ q. marks conn q.mark) s.pairs + marks conn next.mark
    any conn = stored_now (λ q. marks conn q.mark) (λ by to. refl)

    by_test : (conn : ℕ) (p : Address) (b : Bool) → (c == conn) ≡ b → open_at t conn p ≡ cond (b || false) 0 (open_at s conn p)
    by_test conn p true h = gone (open_at t conn p) (total (λ q. marks conn q.mark) t.pairs) (total (λ q. marks conn q.mark) s.pairs) (marks conn next.mark) (total (λ k. once (k.1 == conn)) s.to_nodes) (at_below t conn p)
        (subst (λ (n : ℕ). total (λ q. marks conn q.mark) t.pairs + n ≡ total (λ q. marks conn q.mark) s.pairs + marks conn next.mark) (ap (marks conn) e ∙ ap once h) (any conn)) (ap (marks conn) f) (o.alone conn)
    by_test conn p false h = level (total (pair_has conn p) t.pairs) (pair_has conn p pair) (total (pair_has conn p) s.pairs) (pair_has conn p next) (total (node_has conn p) s.to_nodes) (stored_now (pair_has conn p) (none_new conn p))
        (ap (λ (m : Mark). cond (same_node (target_at pair.to) p) (marks conn m) 0) e ∙ ap (λ b. cond (same_node (target_at pair.to) p) (once b) 0) h ∙ no_has (same_node (target_at pair.to) p))
        (ap (λ (m : Mark). cond (same_node (target_at next.to) p) (marks conn m) 0) f ∙ no_has (same_node (target_at next.to) p))

    shuts : Shuts (λ conn. list_any (λ m. m == conn) (c ∷ [])) s t
    shuts = record {
      fewer = λ conn. fewer (total (λ q. marks conn q.mark) t.pairs) (marks conn pair.mark) (total (λ q. marks conn q.mark) s.pairs) (marks conn next.mark) (total (λ k. once (k.1 == conn)) s.to_nodes) (any conn) (ap (marks conn) f);
      at = λ conn p. by_test conn p (c == conn) refl;
      opened = refl;
    }

-- ---- a link fails

-- a sender that has lost all that it had open to a peer
pub record Loses (peer : Address) (s t : Sender) : Type 0 where
  pub own : Own s → Own t
  pub at : (conn : ℕ) (p : Address) → open_at t conn p ≡ cond (same_node peer p) 0 (open_at s conn p)
  pub free : (p : Address) → same_node peer p ≡ false → kept_free t p ≡ kept_free s p
  pub opened : t.opened ≡ s.opened
  pub shut : t.is_shut ≡ s.is_shut

pub lost_all : (peer : Address) (s : Sender) (lost : List Pair) → IsLost peer s.pairs lost → Loses peer s (record s { pairs = lost; to_nodes = filter (λ k. not (same_node k.0 peer)) s.to_nodes })
lost_all peer s lost l = record {
  own = λ o. record { alone = λ conn. within (open_to_any t conn) (open_to_any s conn) (fewer conn) (o.alone conn); drawn = λ conn x. o.drawn conn (more (open_to_any t conn) (open_to_any s conn) x (fewer conn)) };
  at = λ conn p. ap (λ n. n + total (node_has conn p) t.to_nodes) (l.has conn p) ∙ ap (λ n. cond (same_node peer p) 0 (total (pair_has conn p) s.pairs) + n) (gone_has peer conn p s.to_nodes) ∙ sum (same_node peer p) (total (pair_has conn p) s.pairs) (total (node_has conn p) s.to_nodes);
  free = λ p h. ap (λ b. cond b 0 1) (gone_known peer p s.to_nodes h);
  opened = refl;
  shut = refl;
} where
  t : Sender
  t = record s { pairs = lost; to_nodes = filter (λ k. not (same_node k.0 peer)) s.to_nodes }

  sum : (B : Bool) (a b : ℕ) → cond B 0 a + cond B 0 b ≡ cond B 0 (a + b)
  sum true a b = refl
  sum false a b = refl

  both : (a b c d : ℕ) → a ≤ b → c ≤ d → a + c ≤ b + d
  both a b c d l m = omega arith

  within : (a b : ℕ) → a ≤ b → b ≤ 1 → a ≤ 1
  within a b l m = omega arith

  more : (a b : ℕ) → 1 ≤ a → a ≤ b → 1 ≤ b
  more a b l m = omega arith

  fewer : (conn : ℕ) → open_to_any t conn ≤ open_to_any s conn
  fewer conn = both (total (λ q. marks conn q.mark) lost) (total (λ q. marks conn q.mark) s.pairs) (total (λ k. once (k.1 == conn)) t.to_nodes) (total (λ k. once (k.1 == conn)) s.to_nodes) (l.fewer conn) (gone_fewer peer conn s.to_nodes)
