-- What a plain node hears, of no link that failed, leaves its pairs as they were, and its processes living or over as they were.
use Rattle.std.proofs.Common.{◌≡◌, ◌≤◌, ℕ, zero, suc, Bool, true, false, cond, List, [], ◌∷◌, ◌++◌, length, Ok, Err, refl, sym, ap, ◌∙◌, subst, arith}
use Rattle.std.specs.Option.{option_map, option_map_or}
use Rattle.std.specs.Prelude.{find, slice_get, slice_set, nat_lt, Option, Some, None, Result, not, ◌&&◌, ◌==◌}
use Rattle.ch_base.specs.declared.event.Event.{Event}
use Rattle.ch_base.specs.declared.event.Event.TheVariants as events
use Rattle.ch_ident.specs.declared.error.IdentError.{IdentError}
use Rattle.ch_ident.specs.declared.identifier.ProcessId.{ProcessId}
use Rattle.ch_ident.specs.declared.message.Message.{Message}
use Rattle.ch_mail.specs.declared.error.MailError.{MailError}
use Rattle.ch_mail.specs.declared.error.MailError.TheVariants as mails
use Rattle.ch_mail.specs.declared.life.Life.{Life}
use Rattle.ch_mail.specs.Lives.{is_over}
use Rattle.ch_mail.specs.Mail.{◌>>=◌, last_u64, waiting_in, appended, given_to, there_or, put_of, life_of}
use Rattle.ch_mail.specs.Process.{Process}
use Rattle.ch_static.specs.declared.target.Target.TheVariants as targets
use Rattle.ch_model.specs.declared.act.Act.{Act}
use Rattle.ch_model.specs.Node.{node_event}
use Rattle.ch_model.specs.NodeActs.{Done}
use Rattle.ch_ident.specs.Reading.{user_of}
use Rattle.ch_model.specs.NodeArrivals.{arrives, departs, bind, received, received_on, received_as, to_target}
use Rattle.ch_model.specs.NodeSends.{got_put, get, deliver}
use Rattle.ch_model.specs.NodeIds.{process_id, is_own, life_here, is_living}
use Rattle.ch_model.specs.NodeState.{NodeState, Bound, Unread, Void, FromNode, ToNames, ToTarget, Arrived}
use Rattle.ch_watch.specs.Same.{same_node}
use Rattle.ch_base.specs.declared.address.Address.{Address}
use Rattle.ch_laws_bytes.proofs.Event.{set_at}
use Rattle.ch_laws_plain_nodes.specs.Plain.{IsPlain, IsPlainlyBound, AllPlainlyBound}
use Rattle.ch_laws_writes.proofs.Worlds.{number_is}
use Rattle.ch_laws_messages.specs.SaidHeeds.{NodeHears}

-- it tells of no link that failed
abbrev pub IsCalmEvent : Event → Type 0
IsCalmEvent (events.ConnectionLost peer why) = ⊥
IsCalmEvent event = Unit {0}

-- ---- a message is put in a mailbox

abbrev Same : List Process → List Process → Type 0
Same before now = (length now ≡ length before) × ((k : ℕ) → life_of now k ≡ life_of before k)

pub set_length : (mail : List Process) (n : ℕ) (p : Process) → length (slice_set mail n p) ≡ length mail
set_length [] n p = refl
set_length (x ∷ mail) zero p = refl
set_length (x ∷ mail) (suc n) p = ap suc (set_length mail n p)

set_lives : (mail : List Process) (n : ℕ) (was now : Process) → slice_get mail n ≡ Some was → now.life ≡ was.life → Same mail (slice_set mail n now)
unfolding life_of
set_lives mail n was now at same = (set_length mail n now, λ k. ap (option_map (λ (p : Process). p.life)) (set_at mail n was now k at) ∙ by_test k (n == k) refl) where
  by_test : (k : ℕ) (b : Bool) → (n == k) ≡ b → option_map (λ (p : Process). p.life) (cond b (Some now) (slice_get mail k)) ≡ option_map (λ (p : Process). p.life) (slice_get mail k)
  by_test k true g = ap (λ (l : Life). Some l) same ∙ sym (ap (option_map (λ (p : Process). p.life)) (ap (slice_get mail) (sym (number_is n k g)) ∙ at))
  by_test k false g = refl

abbrev AllSame : List Process → Result (List Process) MailError → Type 0
AllSame mail (Ok now) = Same mail now
AllSame mail (Err e) = Unit {0}

put_lives : (mail : List Process) (n : ℕ) (said : Message) → AllSame mail (put_of mail n None said)
unfolding put_of given_to appended
put_lives mail n said = by_process (slice_get mail n) refl where
  by_room : (process : Process) → slice_get mail n ≡ Some process → (b : Bool) → AllSame mail (cond b (Ok (record process { mailbox = process.mailbox ++ said ∷ [] })) (Err mails.Worn) >>= (λ (given : Process). Ok (slice_set mail n given)))
  by_room process at true = set_lives mail n process (record process { mailbox = process.mailbox ++ said ∷ [] }) at refl
  by_room process at false = tt

  by_over : (process : Process) → slice_get mail n ≡ Some process → (b : Bool) → AllSame mail (cond b (Err mails.NotLive) (cond (nat_lt (waiting_in process) last_u64) (Ok (record process { mailbox = process.mailbox ++ said ∷ [] })) (Err mails.Worn)) >>= (λ (given : Process). Ok (slice_set mail n given)))
  by_over process at true = tt
  by_over process at false = by_room process at (nat_lt (waiting_in process) last_u64)

  by_process : (o : Option Process) → slice_get mail n ≡ o → AllSame mail (there_or mails.NotLive o >>= (λ (process : Process). given_to process None said >>= (λ (given : Process). Ok (slice_set mail n given))))
  by_process None at = tt
  by_process (Some process) at = by_over process at (is_over process.life)

-- ---- a node

-- pairs and lives are as they were
record Keeps (before now : NodeState) : Type 0 where
  own : now.own ≡ before.own
  unique : now.unique ≡ before.unique
  pairs : now.pairs ≡ before.pairs
  mail : Same before.mail now.mail

abbrev AllKeep : NodeState → Done → Type 0
AllKeep node (Ok did) = Keeps node did.1
AllKeep node (Err stop) = Unit {0}

stays : (node : NodeState) (arrived : List Arrived) → Keeps node (record node { arrived = arrived })
stays node arrived = record { own = refl; unique = refl; pairs = refl; mail = (refl, λ k. refl) }

it_self : (node : NodeState) → Keeps node node
it_self node = record { own = refl; unique = refl; pairs = refl; mail = (refl, λ k. refl) }

puts : (node : NodeState) (from to : ProcessId) (said : Message) → AllKeep node (deliver node from (targets.Process to) said)
unfolding deliver get
puts node from to said = by_put (put_of node.mail to.counter None said) (put_lives node.mail to.counter said) where
  by_put : (r : Result (List Process) MailError) → AllSame node.mail r → AllKeep node (got_put node from (targets.Process to) to r)
  by_put (Ok mail) s = record { own = refl; unique = refl; pairs = refl; mail = s }
  by_put (Err mails.NotLive) s = it_self node
  by_put (Err mails.Empty) s = it_self node
  by_put (Err mails.OutOfMemory) s = tt
  by_put (Err mails.Worn) s = tt

reads_as : (node : NodeState) (one : Arrived) (payload : List ℕ) (b : Bound) → IsPlainlyBound b → AllKeep node (received_as node one payload b)
unfolding bind
reads_as node one payload Unread i = record { own = refl; unique = refl; pairs = refl; mail = (refl, λ k. refl) }
reads_as node one payload Void i = it_self node
reads_as node one payload FromNode i = absurd i
reads_as node one payload (ToNames from) i = absurd i
reads_as node one payload (ToTarget from (targets.Port to)) i = absurd i
reads_as node one payload (ToTarget from (targets.Named at name)) i = absurd i
reads_as node one payload (ToTarget from (targets.Process to)) i = by_read (user_of payload) where
  by_read : (r : Result Message IdentError) → AllKeep node (to_target node from (targets.Process to) r)
  by_read (Ok said) = puts node from to said
  by_read (Err e) = it_self node

found_bound : (p : Arrived → Bool) (arrived : List Arrived) (one : Arrived) → find p arrived ≡ Some one → AllPlainlyBound arrived → IsPlainlyBound one.bound
found_bound p [] one e a = absurd cc
found_bound p (first ∷ rest) one e a = by_test (p first) (λ e. found_bound p rest one e a.1) e where
  by_test : (b : Bool) → (find p rest ≡ Some one → IsPlainlyBound one.bound) → cond b (Some first) (find p rest) ≡ Some one → IsPlainlyBound one.bound
  by_test true more e = let is : first ≡ one = cc in subst (λ (x : Arrived). IsPlainlyBound x.bound) is a.0
  by_test false more e = more e

hears : (node : NodeState) (event : Event) → IsPlain node → IsCalmEvent event → AllKeep node (node_event node event)
unfolding node_event arrives departs received
hears node (events.ConnectionOpened conn peer) p c = stays node _
hears node (events.ConnectionClosed conn) p c = stays node _
hears node events.EndPointClosed p c = it_self node
hears node (events.ConnectionLost peer why) p c = absurd c
hears node (events.Received conn payload) p c = by_found (find (λ (known : Arrived). known.conn == conn) node.arrived) refl where
  by_found : (o : Option Arrived) → find (λ (known : Arrived). known.conn == conn) node.arrived ≡ o → AllKeep node (received_on node payload o)
  by_found None e = it_self node
  by_found (Some one) e = reads_as node one payload one.bound (found_bound (λ (known : Arrived). known.conn == conn) node.arrived one e p.arrived)

abbrev pub lives_by : Bool → Option Life → Bool
lives_by own life = option_map_or (λ life. not (is_over life)) (cond own life None) false

pub living_is : (node : NodeState) (b : ℕ) → is_living node (process_id node b) ≡ lives_by (is_own node (process_id node b)) (life_of node.mail b)
unfolding is_living life_here
living_is node b = refl

pub own_so : (a b : NodeState) (k : ℕ) → a.own ≡ b.own → a.unique ≡ b.unique → is_own a (process_id a k) ≡ is_own b (process_id b k)
unfolding is_own
own_so a b k own unique = ap (λ (o : Address). same_node o o && (a.unique == a.unique)) own ∙ ap (λ (u : ℕ). same_node b.own b.own && (u == u)) unique

pub hears_keeps : (node : NodeState) (event : Event) (done : List Act) (next : NodeState) → IsPlain node → IsCalmEvent event → node_event node event ≡ Ok (done, next) → NodeHears node next
hears_keeps node event done next p c e = record {
  own = k.own;
  made = less (length node.mail) (length next.mail) k.mail.0;
  pairs = k.pairs;
  living = λ by living. living_is node by ∙ ap (λ (b : Bool). lives_by b (life_of node.mail by)) (sym (own_so next node by k.own k.unique)) ∙ ap (lives_by (is_own next (process_id next by))) (sym (k.mail.1 by)) ∙ sym (living_is next by) ∙ living;
} where
  k : Keeps node next
  k = subst (AllKeep node) e (hears node event p c)

  less : (a b : ℕ) → b ≡ a → a ≤ b
  less a b e = omega arith
