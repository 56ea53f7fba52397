-- What a plain node makes of a payload, told exactly.
use Rattle.std.proofs.Common.{◌≡◌, ◌⊎◌, inl, inr, ℕ, Bool, true, false, cond, not, ◌&&◌, List, [], ◌∷◌, ◌++◌, filter, Ok, Err, refl, sym, ap, ◌∙◌, subst}
use Rattle.std.specs.Prelude.{find, slice_get, slice_set, nat_lt, Option, Some, None, Result, ◌==◌}
use Rattle.std.specs.Option.{option_map, option_map_or}
use Rattle.ch_base.specs.declared.address.Address.{Address}
use Rattle.ch_base.specs.declared.event.Event.TheVariants as events
use Rattle.ch_ident.specs.declared.identifier.Identifier.TheVariants as ends
use Rattle.ch_ident.specs.declared.identifier.ProcessId.{ProcessId}
use Rattle.ch_ident.specs.declared.message.Message.{Message}
use Rattle.ch_ident.specs.declared.node_message.NodeMessage.TheVariants.{Opening}
use Rattle.ch_ident.specs.Fits.{IsProcess}
use Rattle.ch_ident.specs.Names.{is_name}
use Rattle.ch_ident.specs.Reading.{message_of, user_of}
use Rattle.ch_ident.specs.Spelling.{message, user}
use Rattle.ch_ident.proofs.Fields.{name_reads}
use Rattle.ch_mail.specs.declared.error.MailError.{MailError}
use Rattle.ch_mail.specs.declared.error.MailError.TheVariants as mails
use Rattle.ch_mail.specs.declared.life.Life.{Life}
use Rattle.ch_mail.specs.Lives.{is_over}
use Rattle.ch_mail.specs.Mail.{◌>>=◌, there_or, last_u64, waiting_in, appended, given_to, life_of, put_of}
use Rattle.ch_mail.specs.Process.{Process}
use Rattle.ch_static.specs.declared.target.Target.TheVariants as targets
use Rattle.ch_watch.specs.Same.{node_of, same_node}
use Rattle.ch_model.specs.declared.act.Act.{Act}
use Rattle.ch_model.specs.declared.act.Act.TheVariants as acts
use Rattle.ch_model.specs.declared.note.Note.TheVariants as notes
use Rattle.ch_model.specs.Node.{node_event}
use Rattle.ch_model.specs.NodeArrivals.{bound_between, bound_by, bind, to_target, received_as, received_on, received, departs}
use Rattle.ch_model.specs.NodeIds.{is_here, is_own, life_here, is_living}
use Rattle.ch_model.specs.NodeSends.{got_put, get, deliver}
use Rattle.ch_model.specs.NodeState.{NodeState, Bound, Unread, Void, ToTarget, Arrived}
use Rattle.ch_laws_log.proofs.Stored.{number_is, number_same}
use Rattle.ch_laws_plain_nodes.proofs.Openings.{opening_again}
use Rattle.ch_laws_messages.proofs.GotLists.{clash}
use Rattle.ch_laws_messages.proofs.GotMoves.{has_conn}
use Rattle.ch_laws_messages.proofs.GotBounds.{bound_then}

pub ok_is : {A E : Type 0} (x y : A) → ◌≡◌ {A = Result A E} (Ok x) (Ok y) → x ≡ y
ok_is x y e = cc

-- ---- a payload on the connection that was found

received_is : (node : NodeState) (conn : ℕ) (payload : List ℕ) (one : Arrived) (bound : Bound) → find (has_conn conn) node.arrived ≡ Some one → one.bound ≡ bound → node_event node (events.Received conn payload) ≡ received_as node one payload bound
unfolding node_event received
received_is node conn payload one bound e b = ap (received_on node payload) e ∙ ap (received_as node one payload) b

pub void_does : (node : NodeState) (conn : ℕ) (payload : List ℕ) (one : Arrived) (done : List Act) (next : NodeState) → find (has_conn conn) node.arrived ≡ Some one → one.bound ≡ Void → node_event node (events.Received conn payload) ≡ Ok (done, next) → (done ≡ []) × (next ≡ node)
void_does node conn payload one done next e b d =
    let same : ◌≡◌ {A = List Act × NodeState} ([], node) (done, next) = ok_is ([], node) (done, next) (sym (received_is node conn payload one Void e b) ∙ d) in
    (sym (ap (λ (x : List Act × NodeState). x.0) same), sym (ap (λ (x : List Act × NodeState). x.1) same))

-- an opening binds it
bound_as : (node : NodeState) (peer : Address) (from to : ProcessId) → IsProcess from → IsProcess to → bound_by node peer (message_of (message (Opening (ends.Process from) (ends.Process to)))) ≡ bound_then (same_node from.node peer && is_here node to.node) (is_living node to) from to
unfolding bound_between node_of
bound_as node peer from to f t = ap (bound_by node peer) (opening_again from to f t)

pub opening_does : (node : NodeState) (conn : ℕ) (one : Arrived) (from to : ProcessId) (done : List Act) (next : NodeState) → find (has_conn conn) node.arrived ≡ Some one → one.bound ≡ Unread → IsProcess from → IsProcess to → node_event node (events.Received conn (message (Opening (ends.Process from) (ends.Process to)))) ≡ Ok (done, next)
    → (done ≡ []) × (next ≡ bind node one.conn (bound_then (same_node from.node one.peer && is_here node to.node) (is_living node to) from to))
opening_does node conn one from to done next e b f t d =
    let same : ◌≡◌ {A = List Act × NodeState} ([], bind node one.conn (bound_by node one.peer (message_of (message (Opening (ends.Process from) (ends.Process to)))))) (done, next) =
    ok_is ([], bind node one.conn (bound_by node one.peer (message_of (message (Opening (ends.Process from) (ends.Process to)))))) (done, next) (sym (received_is node conn (message (Opening (ends.Process from) (ends.Process to))) one Unread e b) ∙ d) in
    (sym (ap (λ (x : List Act × NodeState). x.0) same), sym (ap (λ (x : List Act × NodeState). x.1) same) ∙ ap (bind node one.conn) (bound_as node one.peer from to f t))

-- ---- a message

-- a message that was said is read
pub user_again : (m : Message) → is_name m.mark ≡ true → user_of (user m) ≡ Ok m
unfolding user_of
user_again m is = rw (name_reads.again m.mark m.body is) refl

-- who lives can be given a message
lives_at : (node : NodeState) (to : ProcessId) → is_living node to ≡ true → (process : Process) × (slice_get node.mail to.counter ≡ Some process) × (is_over process.life ≡ false)
unfolding is_living life_here life_of
lives_at node to e = by_own (is_own node to) e where
  not_over : (b : Bool) → not b ≡ true → b ≡ false
  not_over false h = refl
  not_over true h = absurd cc

  by_found : (o : Option Process) → slice_get node.mail to.counter ≡ o → option_map_or (λ (life : Life). not (is_over life)) (option_map (λ (process : Process). process.life) o) false ≡ true → (process : Process) × (slice_get node.mail to.counter ≡ Some process) × (is_over process.life ≡ false)
  by_found None f h = absurd cc
  by_found (Some process) f h = (process, f, not_over (is_over process.life) h)

  by_own : (b : Bool) → option_map_or (λ (life : Life). not (is_over life)) (cond b (option_map (λ (process : Process). process.life) (slice_get node.mail to.counter)) None) false ≡ true → (process : Process) × (slice_get node.mail to.counter ≡ Some process) × (is_over process.life ≡ false)
  by_own true h = by_found (slice_get node.mail to.counter) refl h
  by_own false h = absurd cc

-- the message isn't refused for want of a process
abbrev pub IsTaken : Result (List Process) MailError → Type 0
IsTaken (Ok mail) = Unit {0}
IsTaken (Err mails.NotLive) = ⊥
IsTaken (Err mails.Empty) = ⊥
IsTaken (Err e) = Unit {0}

pub put_taken : (mail : List Process) (n : ℕ) (said : Message) (process : Process) → slice_get mail n ≡ Some process → is_over process.life ≡ false → IsTaken (put_of mail n None said)
unfolding put_of given_to appended
put_taken mail n said process at over = subst (λ (o : Option Process). IsTaken (there_or mails.NotLive o >>= (λ p. given_to p None said >>= (λ given. Ok (slice_set mail n given))))) (sym at)
    (subst (λ (b : Bool). IsTaken (cond b (Err mails.NotLive) (Ok (record process { mailbox = process.mailbox ++ said ∷ [] }) >>= (λ given. cond (nat_lt (waiting_in process) last_u64) (Ok given) (Err mails.Worn))) >>= (λ given. Ok (slice_set mail n given)))) (sym over) (by_room (nat_lt (waiting_in process) last_u64))) where
      by_room : (b : Bool) → IsTaken (cond b (Ok (record process { mailbox = process.mailbox ++ said ∷ [] })) (Err mails.Worn) >>= (λ given. Ok (slice_set mail n given)))
      by_room true = tt
      by_room false = tt

-- the message was got, or nothing was done as the process doesn't live
abbrev pub GotOr : NodeState → ProcessId → ProcessId → List Act → NodeState → Type 0
GotOr node from to done next = ((done ≡ acts.Note (notes.Got from (targets.Process to) (Some to)) ∷ []) × (next ≡ record node { mail = next.mail })) ⊎ ((done ≡ []) × (next ≡ node) × (is_living node to ≡ true → ⊥))

deliver_does : (node : NodeState) (from to : ProcessId) (said : Message) (done : List Act) (next : NodeState) → deliver node from (targets.Process to) said ≡ Ok (done, next) → GotOr node from to done next
unfolding deliver get
deliver_does node from to said done next e = by_put (put_of node.mail to.counter None said) refl e where
  silent_parts : ◌≡◌ {A = List Act × NodeState} ([], node) (done, next) → (is_living node to ≡ true → ⊥) → GotOr node from to done next
  silent_parts same off = inr (sym (ap (λ (x : List Act × NodeState). x.0) same), sym (ap (λ (x : List Act × NodeState). x.1) same), off)

  dead : (r : Result (List Process) MailError) → put_of node.mail to.counter None said ≡ r → (IsTaken r → ⊥) → is_living node to ≡ true → ⊥
  dead r f off living = let it = lives_at node to living in off (subst IsTaken f (put_taken node.mail to.counter said it.0 it.1 it.2))

  by_put : (r : Result (List Process) MailError) → put_of node.mail to.counter None said ≡ r → got_put node from (targets.Process to) to r ≡ Ok (done, next) → GotOr node from to done next
  by_put (Ok mail) f e =
      let same : ◌≡◌ {A = List Act × NodeState} (acts.Note (notes.Got from (targets.Process to) (Some to)) ∷ [], record node { mail = mail }) (done, next) = cc in
      let is : record node { mail = mail } ≡ next = ap (λ (x : List Act × NodeState). x.1) same in
      inl (sym (ap (λ (x : List Act × NodeState). x.0) same), sym is ∙ ap (λ (l : List Process). record node { mail = l }) (ap (λ (n : NodeState). n.mail) is))
  by_put (Err mails.NotLive) f e = silent_parts (ok_is ([], node) (done, next) e) (dead (Err mails.NotLive) f (λ t. t))
  by_put (Err mails.Empty) f e = silent_parts (ok_is ([], node) (done, next) e) (dead (Err mails.Empty) f (λ t. t))
  by_put (Err mails.OutOfMemory) f e = absurd cc
  by_put (Err mails.Worn) f e = absurd cc

pub message_does : (node : NodeState) (conn : ℕ) (m : Message) (one : Arrived) (from to : ProcessId) (done : List Act) (next : NodeState) → find (has_conn conn) node.arrived ≡ Some one → one.bound ≡ ToTarget from (targets.Process to) → is_name m.mark ≡ true → node_event node (events.Received conn (user m)) ≡ Ok (done, next) → GotOr node from to done next
message_does node conn m one from to done next e b is d = deliver_does node from to m done next (sym (received_is node conn (user m) one (ToTarget from (targets.Process to)) e b ∙ ap (to_target node from (targets.Process to)) (user_again m is)) ∙ d)

-- ---- what has arrived from another peer stays

-- a connection that is gone
left_in : (conn key : ℕ) (all : List Arrived) (a : Arrived) → find (has_conn key) (filter (λ (arrived : Arrived). not (arrived.conn == conn)) all) ≡ Some a → (conn ≡ key → ⊥) × (find (has_conn key) all ≡ Some a)
left_in conn key [] a e = absurd cc
left_in conn key (x ∷ all) a e = by_test (x.conn == conn) refl e (left_in conn key all a) where
  number : (n m : ℕ) → (n == m) ≡ true → n ≡ m
  number n m h = number_is n m h

  other_conn : (x.conn == conn) ≡ true → (conn ≡ key → ⊥) → (x.conn == key) ≡ false
  other_conn h d = by_key (x.conn == key) refl where
    by_key : (b : Bool) → (x.conn == key) ≡ b → b ≡ false
    by_key false k = refl
    by_key true k = absurd (d (sym (number x.conn conn h) ∙ number x.conn key k))

  by_key : (b : Bool) → (x.conn == key) ≡ b → (x.conn == conn) ≡ false → cond b (Some x) (find (has_conn key) (filter (λ (arrived : Arrived). not (arrived.conn == conn)) all)) ≡ Some a → (find (has_conn key) (filter (λ (arrived : Arrived). not (arrived.conn == conn)) all) ≡ Some a → (conn ≡ key → ⊥) × (find (has_conn key) all ≡ Some a))
      → (conn ≡ key → ⊥) × (cond b (Some x) (find (has_conn key) all) ≡ Some a)
  by_key true k h e more = (λ same. clash (sym (ap (λ (n : ℕ). n == conn) (number x.conn key k ∙ sym same) ∙ number_same conn) ∙ h), e)
  by_key false k h e more = more e

  by_test : (b : Bool) → (x.conn == conn) ≡ b → find (has_conn key) (cond (not b) (x ∷ filter (λ (arrived : Arrived). not (arrived.conn == conn)) all) (filter (λ (arrived : Arrived). not (arrived.conn == conn)) all)) ≡ Some a → (find (has_conn key) (filter (λ (arrived : Arrived). not (arrived.conn == conn)) all) ≡ Some a → (conn ≡ key → ⊥) × (find (has_conn key) all ≡ Some a))
      → (conn ≡ key → ⊥) × (find (has_conn key) (x ∷ all) ≡ Some a)
  by_test true h e more = let it = more e in (it.0, ap (λ (b : Bool). cond b (Some x) (find (has_conn key) all)) (other_conn h it.0) ∙ it.1)
  by_test false h e more = by_key (x.conn == key) refl h e more

pub departs_stay : (node : NodeState) (conn : ℕ) (a : Arrived) → find (has_conn a.conn) (departs node conn).arrived ≡ Some a → (conn ≡ a.conn → ⊥) × (find (has_conn a.conn) node.arrived ≡ Some a)
unfolding departs
departs_stay node conn a e = left_in conn a.conn node.arrived a e
