-- What each call of a plain node makes of its mailboxes, and what it tells of that.
use Rattle.std.proofs.Common.{◌≡◌, ◌⊎◌, inl, inr, ℕ, Bool, true, false, cond, List, [], ◌∷◌, ◌++◌, map, length, Ok, Err, refl, sym, ap, subst, ◌==◌}
use Rattle.std.specs.Prelude.{find, filter, nat_lt, Result, Option, Some, None}
use Rattle.ch_base.specs.declared.event.Event.{Event}
use Rattle.ch_base.specs.declared.event.Event.TheVariants as events
use Rattle.ch_base.specs.declared.event.Room.{Room}
use Rattle.ch_base.specs.declared.memory.Stop.TheVariants as stops
use Rattle.ch_ident.specs.declared.error.IdentError.{IdentError}
use Rattle.ch_ident.specs.declared.identifier.ProcessId.{ProcessId}
use Rattle.ch_ident.specs.declared.identifier.Ref.{Ref}
use Rattle.ch_ident.specs.declared.message.Message.{Message}
use Rattle.ch_ident.specs.declared.reason.Reason.TheVariants.{Normal}
use Rattle.ch_ident.specs.Reading.{user_of}
use Rattle.ch_mail.specs.declared.error.MailError.{MailError}
use Rattle.ch_mail.specs.declared.error.MailError.TheVariants as mails
use Rattle.ch_mail.specs.Mail.{make_of, put_of, take_of, end_of, newborn, last_u32, last_u64}
use Rattle.ch_mail.specs.Process.{Process}
use Rattle.ch_static.specs.declared.command.Command.TheVariants as commands
use Rattle.ch_static.specs.declared.target.Target.TheVariants as targets
use Rattle.ch_watch.specs.declared.named.Named.{Named}
use Rattle.ch_watch.specs.declared.watched.Watched.{Watched}
use Rattle.ch_watch.specs.Lists.{Lists}
use Rattle.ch_watch.specs.Watches.{ended_of, ending_of}
use Rattle.ch_model.specs.declared.act.Act.{Act}
use Rattle.ch_model.specs.declared.act.Act.TheVariants as acts
use Rattle.ch_model.specs.declared.command.CommandError.TheVariants as errors
use Rattle.ch_model.specs.declared.note.Note.{Note}
use Rattle.ch_model.specs.declared.note.Note.TheVariants as notes
use Rattle.ch_model.specs.Node.{node_make, node_command, node_event}
use Rattle.ch_model.specs.NodeActs.{◌>>=◌, ◌and_then◌, Done, doing, noting, growing, each_in_turn, stopping, mailed, or_unchanged}
use Rattle.ch_model.specs.NodeArrivals.{received_as, received_on, to_target, received, arrives, departs, bind}
use Rattle.ch_model.specs.NodeCommands.{send_of, receive_of, finish_of}
use Rattle.ch_model.specs.NodeEnds.{over, bereft, farewell}
use Rattle.ch_model.specs.NodeIds.{process_id, is_here}
use Rattle.ch_model.specs.NodeLives.{make, with_process}
use Rattle.ch_model.specs.NodePairs.{pair_of, keeping, conns_by}
use Rattle.ch_model.specs.NodeRoom.{acting, known, fitting, room_to_send}
use Rattle.ch_model.specs.NodeSends.{got_put, get, deliver, payload_of, weight_of, send_on, carry, say}
use Rattle.ch_model.specs.NodeState.{NodeState, Pair, Mark, Bound, Unread, Void, FromNode, ToNames, ToTarget, Arrived, Unopened, Opened, Broken}
use Rattle.ch_model.specs.NodeWatches.{tell_end}
use Rattle.ch_laws_plain_nodes.specs.Plain.{IsPlain, IsPlainlyBound, AllPlainlyBound}
use Rattle.ch_laws_plain_nodes.specs.Does.{pair_between, said_note, said_pair, sent_acts, SendsAway}
use Rattle.ch_laws_plain_nodes.proofs.Commands as plain
use Rattle.ch_laws_plain_nodes.proofs.Events.{loses}
use Rattle.ch_laws_plain_nodes.proofs.Lists.{is_theirs}
use Rattle.ch_laws_plain_nodes.proofs.Steps.{Claim, Holds, bound, stopped, later, so_too, given_so}
use Rattle.ch_laws_messages.proofs.MailMails.{Keeps, keeps_same, AllKept, end_keeps, make_keeps}
use Rattle.ch_laws_messages.proofs.GotHomeSends.{bound_is}

-- the node tells of nothing that enters a mailbox or leaves one
abbrev pub is_quiet : Note → Bool
is_quiet (notes.Got from to receiver) = false
is_quiet (notes.Took by port said) = false
is_quiet (notes.Told watch reason) = false
is_quiet (notes.Spawned question process) = false
is_quiet (notes.IsAt question found) = false
is_quiet note = true

abbrev pub AreQuiet : List Act → Type 0
AreQuiet [] = Unit {0}
AreQuiet (acts.Note note ∷ rest) = (is_quiet note ≡ true) × AreQuiet rest
AreQuiet (act ∷ rest) = AreQuiet rest

-- nothing is told of mailboxes, and nothing changes there, but that processes are made or over
pub record Rests (before : NodeState) (done : List Act) (after : NodeState) : Type 0 where
  pub quiet : AreQuiet done
  pub mail : Keeps before.mail after.mail

-- ---- a process is made

made : (node : NodeState) → Holds (Rests node) (make node None [])
unfolding make make_of
made node = by_count (nat_lt (length node.mail) last_u32) where
  one_more : ℕ × List Process
  one_more = (length node.mail, node.mail ++ newborn ∷ [])

  by_count : (b : Bool) → Holds (Rests node) (cond b (Ok one_more) (Err stops.Worn) >>= (λ made. noting (notes.Made (process_id node made.0) None) (with_process node made.1 [])))
  by_count true = record { quiet = (refl, tt); mail = make_keeps node.mail }
  by_count false = tt

make_rests : (node : NodeState) → Holds (Rests node) (node_make node)
unfolding node_make
make_rests node = by_shut node.is_shut where
  by_shut : (b : Bool) → Holds (Rests node) (cond b (Err errors.Dead) (stopping (make node None [])))
  by_shut true = tt
  by_shut false = stopped (Rests node) (make node None []) (made node)

pub does_make : (node after : NodeState) (done : List Act) → node_make node ≡ Ok (done, after) → Rests node done after
does_make node after done e = given_so (Rests node) (node_make node) done after (make_rests node) e

-- ---- a message is taken

abbrev pub TakesFrom : NodeState → ℕ → List ℕ → Claim
TakesFrom node by mark done after = (said : Message) × (done ≡ acts.Note (notes.Took (process_id node by) None said) ∷ []) × (take_of node.mail by mark ≡ Ok (said, after.mail))

takes_so : (node : NodeState) (by : ℕ) (mark : List ℕ) → Holds (TakesFrom node by mark) (receive_of node by mark)
unfolding receive_of
takes_so node by mark = bound (TakesFrom node by mark) (acting node by) _ (λ live. bound_is (TakesFrom node by mark) (mailed (take_of node.mail by mark)) _ (λ taken is. (taken.0, refl, by_mail (take_of node.mail by mark) taken is))) where
  by_mail : (given : Result (Message × List Process) MailError) (taken : Message × List Process) → mailed given ≡ Ok taken → given ≡ Ok (taken.0, taken.1)
  by_mail (Ok one) taken e = let same : one ≡ taken = cc in ap (λ (x : Message × List Process). Ok x) same
  by_mail (Err e) taken is = absurd cc

pub does_take : (node after : NodeState) (by : ℕ) (mark : List ℕ) (room : Room) (done : List Act) → node_command node by (commands.Receive mark) room ≡ Ok (done, after) → TakesFrom node by mark done after
unfolding node_command
does_take node after by mark room done e = given_so (TakesFrom node by mark) (receive_of node by mark) done after (takes_so node by mark) e

-- ---- a process is over

module _ (node : NodeState) (by : ℕ) (p : IsPlain node) where
  abbrev closes : List Act
  closes = map (λ conn. acts.Close conn) (conns_by node.pairs by)

  KeepsMail : Claim
  KeepsMail done after = Keeps node.mail after.mail

  over_keeps : (names : List (List ℕ)) (watches : List Ref) (lists : Lists) (mail : List Process) → names ≡ [] → watches ≡ [] → Keeps node.mail mail
      → Holds KeepsMail (doing (farewell node by Normal names) (bereft node mail lists by) and_then (λ n. each_in_turn (λ watch m. tell_end m watch Normal) watches n))
  unfolding farewell KeepsMail
  over_keeps [] [] lists mail e f k = k
  over_keeps (name ∷ names) watches lists mail e f k = absurd cc
  over_keeps [] (watch ∷ watches) lists mail e f k = absurd cc

  unchanged : (given : Result (List Process) MailError) → AllKept node.mail given → (mail : List Process) → or_unchanged node.mail given ≡ Ok mail → Keeps node.mail mail
  unchanged (Ok after) k mail e = let same : after ≡ mail = cc in subst (Keeps node.mail) same k
  unchanged (Err mails.NotLive) k mail e = let same : node.mail ≡ mail = cc in keeps_same node.mail mail (sym same)
  unchanged (Err mails.Empty) k mail e = let same : node.mail ≡ mail = cc in keeps_same node.mail mail (sym same)
  unchanged (Err mails.OutOfMemory) k mail e = absurd cc
  unchanged (Err mails.Worn) k mail e = absurd cc

  is_over : Holds KeepsMail (over node by Normal)
  unfolding over ended_of ending_of
  is_over = bound_is KeepsMail (or_unchanged node.mail (end_of node.mail by Normal)) _ (λ mail is. over_keeps _ _ _ mail
      (ap (λ (l : List Named). map (λ named. named.name) (filter (λ named. named.process == by) l)) p.names)
      (ap (λ (l : List Watched). map (λ watched. watched.watch) (filter (λ watched. watched.process == by) l)) p.watched)
      (unchanged (end_of node.mail by Normal) (end_keeps node.mail by Normal) mail is))

  finishes : Holds KeepsMail (finish_of node by Normal)
  unfolding finish_of
  finishes = bound KeepsMail (acting node by) _ (λ live. stopped KeepsMail (over node by Normal) is_over)

  closes_quiet : (conns : List ℕ) → AreQuiet (map (λ conn. acts.Close conn) conns)
  closes_quiet [] = tt
  closes_quiet (conn ∷ rest) = closes_quiet rest

  pub does_end : (after : NodeState) (room : Room) (done : List Act) → node_command node by commands.End room ≡ Ok (done, after) → Rests node done after
  unfolding node_command KeepsMail
  does_end after room done e = record {
    quiet = subst AreQuiet (sym (plain.does_end node after by room done p e).0.did) (refl, closes_quiet (conns_by node.pairs by));
    mail = given_so KeepsMail (finish_of node by Normal) done after finishes e;
  }

-- ---- a message is got

-- nobody got it, or this process did, into its mailbox
abbrev pub GotMail : NodeState → ProcessId → ProcessId → Message → Claim
GotMail node from to said done after = ((done ≡ []) × (after.mail ≡ node.mail)) ⊎ ((done ≡ acts.Note (notes.Got from (targets.Process to) (Some to)) ∷ []) × (put_of node.mail to.counter None said ≡ Ok after.mail))

got_so : (node : NodeState) (from to : ProcessId) (said : Message) (given : Result (List Process) MailError) → put_of node.mail to.counter None said ≡ given → Holds (GotMail node from to said) (got_put node from (targets.Process to) to given)
got_so node from to said (Ok mail) e = inr (refl, e)
got_so node from to said (Err mails.NotLive) e = inl (refl, refl)
got_so node from to said (Err mails.Empty) e = inl (refl, refl)
got_so node from to said (Err mails.OutOfMemory) e = tt
got_so node from to said (Err mails.Worn) e = tt

delivers : (node : NodeState) (from to : ProcessId) (said : Message) → Holds (GotMail node from to said) (deliver node from (targets.Process to) said)
unfolding deliver get
delivers node from to said = got_so node from to said (put_of node.mail to.counter None said) refl

-- ---- a message is said

-- to a process of another node: nothing changes here
sends_quiet : (node : NodeState) (by : ℕ) (to : ProcessId) (said : Message) (mark : Mark) → AreQuiet (sent_acts node by to said mark)
sends_quiet node by to said Unopened = tt
sends_quiet node by to said (Opened conn) = tt
sends_quiet node by to said Broken = tt

pub does_away : (node after : NodeState) (by : ℕ) (to : ProcessId) (said : Message) (room : Room) (done : List Act) → is_here node to.node ≡ false → node_command node by (commands.Send (targets.Process to) said) room ≡ Ok (done, after) → Rests node done after
does_away node after by to said room done away e = by_sends (plain.does_away node after by to said room done away e) where
  by_sends : SendsAway node by to said done after → Rests node done after
  by_sends s = record {
    quiet = subst AreQuiet (sym s.did) (refl, sends_quiet node by to said (pair_between node by to).mark);
    mail = keeps_same node.mail after.mail (ap (λ (n : NodeState). n.mail) s.same);
  }

-- to one of this node: it is there at once, where that isn't over
module _ (node : NodeState) (by : ℕ) (to : ProcessId) (said : Message) where
  abbrev pub HomeMail : Claim
  HomeMail done after = ((done ≡ said_note node by to said ∷ []) × (after.mail ≡ node.mail))
      ⊎ ((done ≡ said_note node by to said ∷ acts.Note (notes.Got (process_id node by) (targets.Process to) (Some to)) ∷ []) × (put_of node.mail to.counter None said ≡ Ok after.mail))

  abbrev kept : NodeState
  kept = keeping node (said_pair node by to (pair_between node by to).mark)

  with_note : (done : List Act) (after : NodeState) → GotMail kept (process_id node by) to said done after → HomeMail (said_note node by to said ∷ done) after
  with_note done after (inl none) = inl (ap (λ (l : List Act). said_note node by to said ∷ l) none.0, none.1)
  with_note done after (inr got) = inr (ap (λ (l : List Act). said_note node by to said ∷ l) got.0, got.1)

  abbrev carried : Bool → ℕ → Done
  carried here index = cond here (deliver kept (process_id node by) (targets.Process to) said) (send_on kept (said_pair node by to (pair_between node by to).mark) said (weight_of (pair_between node by to).epoch index) (pair_between node by to).mark)

  abbrev counted : Bool → Done
  counted here = growing (pair_between node by to).index >>= λ index. noting (notes.Said (process_id node by) (targets.Process to) (pair_between node by to).epoch index said) kept and_then (λ n. carried here index)

  is_counted : (here : Bool) → here ≡ true → Holds HomeMail (counted here)
  unfolding growing
  is_counted false h = absurd cc
  is_counted true h = by_count (nat_lt (pair_between node by to).index last_u64) where
    by_count : (b : Bool) → Holds HomeMail (cond b (Ok (pair_between node by to).index) (Err stops.Worn) >>= λ index. noting (notes.Said (process_id node by) (targets.Process to) (pair_between node by to).epoch index said) kept and_then (λ n. carried true index))
    by_count true = later HomeMail (GotMail kept (process_id node by) to said) (said_note node by to said ∷ []) (carried true (pair_between node by to).index) with_note (delivers kept (process_id node by) to said)
    by_count false = tt

  is_said : is_here node to.node ≡ true → Holds HomeMail (say node (pair_of node.pairs by (targets.Process to)) said)
  unfolding say carry
  is_said here = subst (λ (pair : Pair). Holds HomeMail (say node pair said)) (sym (is_theirs node by to)) (is_counted (is_here node to.node) here)

  is_sent : (room : Room) → is_here node to.node ≡ true → Holds HomeMail (send_of node by (targets.Process to) said room)
  unfolding send_of
  is_sent room here = bound HomeMail (acting node by) _ (λ live. bound HomeMail (known node (targets.Process to)) _ (λ there. bound HomeMail (fitting (payload_of (targets.Process to) said)) _ (λ short. bound HomeMail (room_to_send node (pair_of node.pairs by (targets.Process to)) room) _ (λ roomy. stopped HomeMail (say node (pair_of node.pairs by (targets.Process to)) said) (is_said here)))))

  pub does_home : (after : NodeState) (room : Room) (done : List Act) → is_here node to.node ≡ true → node_command node by (commands.Send (targets.Process to) said) room ≡ Ok (done, after) → HomeMail done after
  unfolding node_command
  does_home after room done here e = given_so HomeMail (send_of node by (targets.Process to) said room) done after (is_sent room here) e

-- ---- events

-- a payload came on a connection that is bound to messages between these two, and its message was put
pub record Gets (node : NodeState) (event : Event) (done : List Act) (after : NodeState) : Type 0 where
  pub conn : ℕ
  pub payload : List ℕ
  pub is : event ≡ events.Received conn payload
  pub from : ProcessId
  pub to : ProcessId
  pub said : Message
  pub arrived : Arrived
  pub came : find (λ known. known.conn == conn) node.arrived ≡ Some arrived
  pub bound_so : arrived.bound ≡ ToTarget from (targets.Process to)
  pub read : user_of payload ≡ Ok said
  pub did : done ≡ acts.Note (notes.Got from (targets.Process to) (Some to)) ∷ []
  pub put : put_of node.mail to.counter None said ≡ Ok after.mail

-- nothing is told, and the mail is as it was; or so
abbrev pub EventMail : NodeState → Event → Claim
EventMail node event done after = ((done ≡ []) × (after.mail ≡ node.mail)) ⊎ Gets node event done after

found_bound : (conn : ℕ) (arrived : List Arrived) (one : Arrived) → AllPlainlyBound arrived → find (λ known. known.conn == conn) arrived ≡ Some one → IsPlainlyBound one.bound
found_bound conn [] one a e = absurd cc
found_bound conn (x ∷ xs) one a e = by_test (x.conn == conn) e (found_bound conn xs one a.1) where
  by_test : (b : Bool) → cond b (Some x) (find (λ (known : Arrived). known.conn == conn) xs) ≡ Some one → (find (λ (known : Arrived). known.conn == conn) xs ≡ Some one → IsPlainlyBound one.bound) → IsPlainlyBound one.bound
  by_test true e more = let same : x ≡ one = cc in subst (λ (y : Arrived). IsPlainlyBound y.bound) same a.0
  by_test false e more = more e

module _ (node : NodeState) (p : IsPlain node) where
  module _ (conn : ℕ) (payload : List ℕ) where
    abbrev Heard : Claim
    Heard = EventMail node (events.Received conn payload)

    module _ (one : Arrived) (came : find (λ known. known.conn == conn) node.arrived ≡ Some one) where
      reads : (from to : ProcessId) → one.bound ≡ ToTarget from (targets.Process to) → (read : Result Message IdentError) → user_of payload ≡ read → Holds Heard (to_target node from (targets.Process to) read)
      reads from to is (Ok said) e = so_too (GotMail node from to said) Heard (deliver node from (targets.Process to) said) tells (delivers node from to said) where
        tells : (done : List Act) (after : NodeState) → GotMail node from to said done after → EventMail node (events.Received conn payload) done after
        tells done after (inl none) = inl none
        tells done after (inr got) = inr (record { conn = conn; payload = payload; is = refl; from = from; to = to; said = said; arrived = one; came = came; bound_so = is; read = e; did = got.0; put = got.1 })
      reads from to is (Err e) f = inl (refl, refl)

      by_bound : (b : Bound) → one.bound ≡ b → IsPlainlyBound b → Holds Heard (received_as node one payload b)
      unfolding bind
      by_bound Unread e i = inl (refl, refl)
      by_bound Void e i = inl (refl, refl)
      by_bound FromNode e i = absurd i
      by_bound (ToNames from) e i = absurd i
      by_bound (ToTarget from (targets.Process to)) e i = reads from to e (user_of payload) refl
      by_bound (ToTarget from (targets.Port to)) e i = absurd i
      by_bound (ToTarget from (targets.Named at name)) e i = absurd i

    by_found : (o : Option Arrived) → find (λ known. known.conn == conn) node.arrived ≡ o → Holds Heard (received_on node payload o)
    by_found None e = inl (refl, refl)
    by_found (Some one) e = by_bound one e one.bound refl (found_bound conn node.arrived one p.arrived e)

    hears : Holds Heard (node_event node (events.Received conn payload))
    unfolding node_event received
    hears = by_found (find (λ known. known.conn == conn) node.arrived) refl

  on_event : (event : Event) → Holds (EventMail node event) (node_event node event)
  unfolding node_event arrives departs
  on_event (events.ConnectionOpened conn peer) = inl (refl, refl)
  on_event (events.Received conn payload) = hears conn payload
  on_event (events.ConnectionClosed conn) = inl (refl, refl)
  on_event events.EndPointClosed = inl (refl, refl)
  on_event (events.ConnectionLost peer why) = so_too _ (EventMail node (events.ConnectionLost peer why)) (node_event node (events.ConnectionLost peer why)) (λ done after l. inl (l.0.did, ap (λ (n : NodeState). n.mail) l.0.same)) (loses node p peer why)

  pub does_hear : (event : Event) (after : NodeState) (done : List Act) → node_event node event ≡ Ok (done, after) → EventMail node event done after
  does_hear event after done e = given_so (EventMail node event) (node_event node event) done after (on_event event) e
