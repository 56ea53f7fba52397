-- A plain node sends a message of a process to a process.
use Rattle.std.proofs.Common.{◌≡◌, ℕ, ◌+◌, ◌*◌, Bool, true, false, cond, List, [], ◌∷◌, Ok, Err, refl, sym, ap, ◌∙◌, subst}
use Rattle.std.specs.Prelude.{Result, None, nat_lt, nat_le}
use Rattle.ch_base.specs.declared.event.Room.{Room}
use Rattle.ch_base.specs.declared.memory.Stop.TheVariants as stops
use Rattle.ch_ident.specs.declared.identifier.ProcessId.{ProcessId}
use Rattle.ch_ident.specs.declared.identifier.Identifier.TheVariants as ends
use Rattle.ch_ident.specs.declared.message.Message.{Message}
use Rattle.ch_ident.specs.declared.node_message.NodeMessage.TheVariants.{Opening}
use Rattle.ch_ident.specs.Spelling as spelling
use Rattle.ch_mail.specs.declared.error.MailError.{MailError}
use Rattle.ch_mail.specs.declared.error.MailError.TheVariants as mails
use Rattle.ch_mail.specs.Mail.{last_u64, put_of}
use Rattle.ch_mail.specs.Process.{Process}
use Rattle.ch_static.specs.declared.target.Target.TheVariants as targets
use Rattle.ch_model.specs.declared.act.Act.{Act}
use Rattle.ch_model.specs.declared.act.Act.TheVariants as acts
use Rattle.ch_model.specs.declared.note.Note.TheVariants as notes
use Rattle.ch_model.specs.declared.step.Weight.{Weight}
use Rattle.ch_model.specs.declared.step.Weight.TheVariants.{Free}
use Rattle.ch_model.specs.NodeState.{NodeState, Pair, Mark, Unopened, Opened, Broken}
use Rattle.ch_model.specs.NodeActs.{◌>>=◌, ◌and_then◌, Done, doing, noting, growing}
use Rattle.ch_model.specs.NodeIds.{process_id, is_here}
use Rattle.ch_model.specs.NodePairs.{pair_of, with_pair, keeping}
use Rattle.ch_model.specs.NodeConnections.{drawn, opening}
use Rattle.ch_model.specs.NodeSends.{got_put, get, deliver, payload_of, weight_of, send_first, send_on, carry, say}
use Rattle.ch_model.specs.NodeRoom.{acting, known, fitting, room_to_send}
use Rattle.ch_model.specs.NodeCommands.{send_of}
use Rattle.ch_laws_plain_nodes.specs.Plain.{AllToProcesses, IsPlain}
use Rattle.ch_laws_plain_nodes.specs.Acts.{ArePlain, AreNotes, OpensTo}
use Rattle.ch_laws_plain_nodes.specs.Does.{Does, pair_between, said_note, sent_acts, sent_mark, sent_count, said_pair, SendsAway, got_acts, SendsHome}
use Rattle.ch_laws_plain_nodes.proofs.Lists.{pairs_plain, stored_plain, is_theirs, theirs_test, stored_twice, stored_found, stored_other}
use Rattle.ch_laws_plain_nodes.proofs.Steps.{Claim, Holds, bound, stopped, later}

-- ---- a message is got

-- the process got the message or didn't, and all but the mail is as it was
abbrev pub IsGot : NodeState → ProcessId → ProcessId → Claim
IsGot node from to done after = (is_got : Bool) × (done ≡ got_acts is_got from to) × (after ≡ record node { mail = after.mail })

got : (node : NodeState) (from to : ProcessId) (given : Result (List Process) MailError) → Holds (IsGot node from to) (got_put node from (targets.Process to) to given)
got node from to (Ok mail) = (true, refl, refl)
got node from to (Err mails.NotLive) = (false, refl, refl)
got node from to (Err mails.Empty) = (false, refl, refl)
got node from to (Err mails.OutOfMemory) = tt
got node from to (Err mails.Worn) = tt

pub delivered : (node : NodeState) (from to : ProcessId) (said : Message) → Holds (IsGot node from to) (deliver node from (targets.Process to) said)
unfolding deliver get
delivered node from to said = got node from to (put_of node.mail to.counter None said)

-- ---- a message is said

module _ (node : NodeState) (by : ℕ) (to : ProcessId) (said : Message) where
  -- the pair after the message, with the mark that it had
  abbrev next : Pair
  next = said_pair node by to (pair_between node by to).mark

  abbrev kept : NodeState
  kept = keeping node next

  abbrev heavy : Weight
  heavy = weight_of (pair_between node by to).epoch (pair_between node by to).index

  -- what was sent, at the node that keeps the pair
  abbrev Sent : Mark → Claim
  Sent mark done after = (done ≡ sent_acts node by to said mark) × (after ≡ record (keeping node (said_pair node by to (sent_mark (2 * node.opened) mark))) { opened = sent_count node.opened mark })

  sent_first : Holds (Sent Unopened) (send_first kept next said heavy)
  unfolding send_first drawn opening
  sent_first = by_test (nat_le (2 * node.opened) last_u64)
    where
      same : record (keeping kept (record next { mark = Opened (2 * node.opened) })) { opened = node.opened + 1 } ≡ record (keeping node (said_pair node by to (Opened (2 * node.opened)))) { opened = node.opened + 1 }
      same = ap (λ (pairs : List Pair). record node { pairs = pairs; opened = node.opened + 1 }) (stored_twice next (Opened (2 * node.opened)) (theirs_test node by to ((pair_between node by to).index + 1) (pair_between node by to).mark) node.pairs)

      by_test : (b : Bool) → Holds (Sent Unopened) (cond b (Ok (2 * node.opened)) (Err stops.Worn) >>= (λ conn. doing (acts.Open conn to.node ∷ acts.Put conn (spelling.message (Opening (ends.Process (process_id node by)) (ends.Process to))) Free ∷ acts.Put conn (spelling.user said) heavy ∷ []) (record (keeping kept (record next { mark = Opened conn })) { opened = node.opened + 1 })))
      by_test true = (refl, same)
      by_test false = tt

  sent_on : (mark : Mark) → (pair_between node by to).mark ≡ mark → Holds (Sent mark) (send_on kept next said heavy mark)
  sent_on Unopened e = sent_first
  sent_on (Opened conn) e = (refl, ap (λ (m : Mark). keeping node (said_pair node by to m)) e)
  sent_on Broken e = (refl, ap (λ (m : Mark). keeping node (said_pair node by to m)) e)

  away_so : (done : List Act) (after : NodeState) → Sent (pair_between node by to).mark done after → SendsAway node by to said (said_note node by to said ∷ done) after
  away_so done after s = record { did = ap (λ (l : List Act). said_note node by to said ∷ l) s.0; same = s.1 }

  home_so : (done : List Act) (after : NodeState) → IsGot kept (process_id node by) to done after → SendsHome node by to said (said_note node by to said ∷ done) after
  home_so done after s = record { is_got = s.0; did = ap (λ (l : List Act). said_note node by to said ∷ l) s.1; same = s.2 }

  -- what follows the note, at the node that keeps the pair
  abbrev carried : Bool → ℕ → Done
  carried here index = cond here (deliver kept (process_id node by) (targets.Process to) said) (send_on kept next said (weight_of (pair_between node by to).epoch index) (pair_between node by to).mark)

  abbrev counted : Bool → Done
  counted here = growing (pair_between node by to).index >>= λ index. noting (notes.Said (process_id node by) (targets.Process to) (pair_between node by to).epoch index said) kept and_then (λ n. carried here index)

  by_count : (P : Claim) (here : Bool) → Holds P (noting (notes.Said (process_id node by) (targets.Process to) (pair_between node by to).epoch (pair_between node by to).index said) kept and_then (λ n. carried here (pair_between node by to).index)) → Holds P (counted here)
  unfolding growing
  by_count P here k = by_test (nat_lt (pair_between node by to).index last_u64)
    where
      by_test : (b : Bool) → Holds P (cond b (Ok (pair_between node by to).index) (Err stops.Worn) >>= λ index. noting (notes.Said (process_id node by) (targets.Process to) (pair_between node by to).epoch index said) kept and_then (λ n. carried here index))
      by_test true = k
      by_test false = tt

  said_away : (here : Bool) → here ≡ false → Holds (SendsAway node by to said) (counted here)
  said_away true h = absurd cc
  said_away false h = by_count (SendsAway node by to said) false (later (SendsAway node by to said) (Sent (pair_between node by to).mark) (said_note node by to said ∷ []) (carried false (pair_between node by to).index) away_so (sent_on (pair_between node by to).mark refl))

  said_home : (here : Bool) → here ≡ true → Holds (SendsHome node by to said) (counted here)
  said_home false h = absurd cc
  said_home true h = by_count (SendsHome node by to said) true (later (SendsHome node by to said) (IsGot kept (process_id node by) to) (said_note node by to said ∷ []) (carried true (pair_between node by to).index) home_so (delivered kept (process_id node by) to said))

  is_said : (P : Claim) → Holds P (counted (is_here node to.node)) → Holds P (say node (pair_between node by to) said)
  unfolding say carry
  is_said P k = subst (λ (pair : Pair). Holds P (say node pair said)) (sym (is_theirs node by to)) k

  is_sent : (P : Claim) (room : Room) → Holds P (counted (is_here node to.node)) → Holds P (send_of node by (targets.Process to) said room)
  unfolding send_of
  is_sent P room k = bound P (acting node by) _ (λ live. bound P (known node (targets.Process to)) _ (λ there. bound P (fitting (payload_of (targets.Process to) said)) _ (λ short. bound P (room_to_send node (pair_between node by to) room) _ (λ roomy. stopped P (say node (pair_between node by to) said) (is_said P k)))))

  pub sends_away : (room : Room) → is_here node to.node ≡ false → Holds (SendsAway node by to said) (send_of node by (targets.Process to) said room)
  sends_away room h = is_sent (SendsAway node by to said) room (said_away (is_here node to.node) h)

  pub sends_home : (room : Room) → is_here node to.node ≡ true → Holds (SendsHome node by to said) (send_of node by (targets.Process to) said room)
  sends_home room h = is_sent (SendsHome node by to said) room (said_home (is_here node to.node) h)

  -- ---- what is sent so is plain

  stored : IsPlain node → (mark : Mark) → AllToProcesses (with_pair (said_pair node by to mark) node.pairs)
  stored p mark = stored_plain (said_pair node by to mark) node.pairs tt p.pairs

  pub away_does : IsPlain node → (done : List Act) (after : NodeState) → SendsAway node by to said done after → Does node done after
  away_does p done after s = record { did = subst (ArePlain node.own) (sym s.did) (by_mark (pair_between node by to).mark); node = subst IsPlain (sym s.same) is_plain; arrived = ap (λ (n : NodeState). n.arrived) s.same }
    where
      by_mark : (mark : Mark) → ArePlain node.own (said_note node by to said ∷ sent_acts node by to said mark)
      by_mark Unopened = (tt, (record { from = process_id node by; to = to; same = refl; from_node = refl; to_node = refl; spelled = refl; free = refl }, ((said, refl), tt)))
      by_mark (Opened conn) = (tt, ((said, refl), tt))
      by_mark Broken = (tt, tt)

      is_plain : IsPlain (record node { pairs = with_pair (said_pair node by to (sent_mark (2 * node.opened) (pair_between node by to).mark)) node.pairs; opened = sent_count node.opened (pair_between node by to).mark })
      is_plain = pairs_plain node node.mail _ _ p (stored p (sent_mark (2 * node.opened) (pair_between node by to).mark))

  pub away_opens : is_here node to.node ≡ false → (done : List Act) (after : NodeState) → SendsAway node by to said done after → OpensTo node.own to.node done
  away_opens h done after s = subst (OpensTo node.own to.node) (sym s.did) (by_mark (pair_between node by to).mark)
    where
      by_mark : (mark : Mark) → OpensTo node.own to.node (said_note node by to said ∷ sent_acts node by to said mark)
      by_mark Unopened = (refl, h, tt)
      by_mark (Opened conn) = tt
      by_mark Broken = tt

  pub home_does : IsPlain node → (done : List Act) (after : NodeState) → SendsHome node by to said done after → Does node done after
  home_does p done after s = record { did = subst (ArePlain node.own) (sym s.did) (by_got s.is_got); node = subst IsPlain (sym s.same) is_plain; arrived = ap (λ (n : NodeState). n.arrived) s.same }
    where
      by_got : (b : Bool) → ArePlain node.own (said_note node by to said ∷ got_acts b (process_id node by) to)
      by_got true = (tt, (tt, tt))
      by_got false = (tt, tt)

      is_plain : IsPlain (record node { pairs = with_pair (said_pair node by to (pair_between node by to).mark) node.pairs; mail = after.mail })
      is_plain = pairs_plain node after.mail _ _ p (stored p (pair_between node by to).mark)

  pub home_notes : (done : List Act) (after : NodeState) → SendsHome node by to said done after → AreNotes done
  home_notes done after s = subst AreNotes (sym s.did) (by_got s.is_got)
    where
      by_got : (b : Bool) → AreNotes (said_note node by to said ∷ got_acts b (process_id node by) to)
      by_got true = (tt, (tt, tt))
      by_got false = (tt, tt)

  -- the pair after it has the mark that it is told
  pub away_pair : (done : List Act) (after : NodeState) → SendsAway node by to said done after → pair_between after by to ≡ said_pair node by to (sent_mark (2 * node.opened) (pair_between node by to).mark)
  away_pair done after s = ap (λ (n : NodeState). pair_between n by to) s.same ∙ stored_found (said_pair node by to (sent_mark (2 * node.opened) (pair_between node by to).mark)) (theirs_test node by to ((pair_between node by to).index + 1) (sent_mark (2 * node.opened) (pair_between node by to).mark)) node.pairs

  pub home_pair : (done : List Act) (after : NodeState) → SendsHome node by to said done after → pair_between after by to ≡ said_pair node by to (pair_between node by to).mark
  home_pair done after s = ap (λ (n : NodeState). pair_between n by to) s.same ∙ stored_found (said_pair node by to (pair_between node by to).mark) (theirs_test node by to ((pair_between node by to).index + 1) (pair_between node by to).mark) node.pairs

  -- no other pair changes
  module _ (other : ℕ) (target : ProcessId) (apart : (other ≡ by) × (target ≡ to) → ⊥) where
    stored_apart : (mark : Mark) → pair_of (with_pair (said_pair node by to mark) node.pairs) other (targets.Process target) ≡ pair_between node other target
    stored_apart mark = stored_other (said_pair node by to mark) other (targets.Process target) (λ same. apart (sym same.0, sym (process_in same.1))) node.pairs
      where
        process_in : targets.Process to ≡ targets.Process target → to ≡ target
        process_in e = cc

    pub away_others : (done : List Act) (after : NodeState) → SendsAway node by to said done after → pair_between after other target ≡ pair_between node other target
    away_others done after s = ap (λ (n : NodeState). pair_between n other target) s.same ∙ stored_apart (sent_mark (2 * node.opened) (pair_between node by to).mark)

    pub home_others : (done : List Act) (after : NodeState) → SendsHome node by to said done after → pair_between after other target ≡ pair_between node other target
    home_others done after s = ap (λ (n : NodeState). pair_between n other target) s.same ∙ stored_apart (pair_between node by to).mark
