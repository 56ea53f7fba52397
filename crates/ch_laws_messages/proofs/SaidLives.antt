-- Who of a node's processes is over: none more where a message is said, and one where a process ends.
use Rattle.std.proofs.Common.{◌≡◌, ◌≤◌, ℕ, zero, suc, Bool, true, false, cond, List, [], ◌∷◌, length, Ok, Err, refl, sym, ap, ◌∙◌, arith}
use Rattle.std.proofs.lemmas.List.{length-map}
use Rattle.std.proofs.lemmas.Option.{slice_get-map}
use Rattle.std.specs.Option.{option_map, option_map_or}
use Rattle.std.specs.Prelude.{Result, filter, map, not, slice_get, Option, Some, None, ◌==◌}
use Rattle.ch_base.specs.declared.event.Room.{Room}
use Rattle.ch_ident.specs.declared.identifier.ProcessId.{ProcessId}
use Rattle.ch_ident.specs.declared.identifier.Ref.{Ref}
use Rattle.ch_ident.specs.declared.message.Message.{Message}
use Rattle.ch_ident.specs.declared.reason.Reason.TheVariants.{Normal}
use Rattle.ch_mail.specs.declared.life.Life.{Life}
use Rattle.ch_mail.specs.declared.error.MailError.{MailError}
use Rattle.ch_mail.specs.declared.error.MailError.TheVariants as mails
use Rattle.ch_mail.specs.Lives.{is_over}
use Rattle.ch_mail.specs.Mail.{life_of, put_of, end_of}
use Rattle.ch_mail.specs.Process.{Process}
use Rattle.ch_static.specs.declared.command.Command.TheVariants as commands
use Rattle.ch_static.specs.declared.target.Target.{Target}
use Rattle.ch_static.specs.declared.target.Target.TheVariants as targets
use Rattle.ch_watch.specs.declared.watched.Watched.{Watched}
use Rattle.ch_watch.specs.Watches.{ended_of, ending_of}
use Rattle.ch_model.specs.declared.act.Act.{Act}
use Rattle.ch_model.specs.declared.act.Act.TheVariants as acts
use Rattle.ch_model.specs.declared.note.Note.TheVariants as notes
use Rattle.ch_model.specs.declared.step.Weight.{Weight}
use Rattle.ch_model.specs.Node.{node_command}
use Rattle.ch_model.specs.NodeActs.{◌>>=◌, ◌and_then◌, doing, each_in_turn, stopping, or_unchanged, growing}
use Rattle.ch_model.specs.NodeAsks.{standing}
use Rattle.ch_model.specs.NodeCommands.{send_of, finish_of}
use Rattle.ch_model.specs.NodeConnections.{drawn}
use Rattle.ch_model.specs.NodeEnds.{over, bereft, farewell}
use Rattle.ch_model.specs.NodeWatches.{tell_end}
use Rattle.ch_model.specs.NodeIds.{process_id, is_here, is_own, life_here, is_living, target_at}
use Rattle.ch_model.specs.NodePairs.{pair_of, keeping}
use Rattle.ch_model.specs.NodeRoom.{acting, known, fitting, room_to_send}
use Rattle.ch_model.specs.NodeSends.{got_put, get, get_standing, deliver, payload_of, weight_of, send_first, send_on, carry, with_said, say}
use Rattle.ch_model.specs.NodeState.{NodeState, Pair, Mark, Unopened, Opened, Broken}
use Rattle.ch_laws_lives.specs.Rolls.{ends_of, over_at}
use Rattle.ch_laws_lives.proofs.Mails.{Keeps, put_keeps, EndsOne, ends_one}
use Rattle.ch_laws_plain_nodes.specs.Plain.{IsPlain}
use Rattle.ch_laws_plain_nodes.proofs.Steps.{Claim, Holds, bound, stopped, later, given_so}
use Rattle.ch_laws_messages.proofs.SaidAsks.{acts_so, went}
use Rattle.ch_laws_messages.proofs.GotLiving.{over_long}
use Rattle.ch_laws_messages.proofs.SaidHears.{own_so}

-- ---- a process lives by what is told of it

abbrev alive : Option Bool → Bool
alive None = false
alive (Some over) = not over

living_in : (node : NodeState) (b : ℕ) → is_living node (process_id node b) ≡ cond (is_own node (process_id node b)) (alive (slice_get (ends_of node.mail) b)) false
unfolding is_living life_here life_of
living_in node b = by_own (is_own node (process_id node b)) ∙ ap (λ (o : Option Bool). cond (is_own node (process_id node b)) (alive o) false) (sym (slice_get-map (λ (p : Process). is_over p.life) node.mail b)) where
  by_process : (o : Option Process) → option_map_or (λ (life : Life). not (is_over life)) (option_map (λ (p : Process). p.life) o) false ≡ alive (option_map (λ (p : Process). is_over p.life) o)
  by_process None = refl
  by_process (Some p) = refl

  by_own : (own : Bool) → option_map_or (λ (life : Life). not (is_over life)) (cond own (option_map (λ (p : Process). p.life) (slice_get node.mail b)) None) false ≡ cond own (alive (option_map (λ (p : Process). is_over p.life) (slice_get node.mail b))) false
  by_own true = by_process (slice_get node.mail b)
  by_own false = refl

-- who is over as before lives as before
pub living_as : (node next : NodeState) (b : ℕ) → next.own ≡ node.own → next.unique ≡ node.unique → slice_get (ends_of next.mail) b ≡ slice_get (ends_of node.mail) b → is_living next (process_id next b) ≡ is_living node (process_id node b)
living_as node next b own unique same = living_in next b ∙ ap (λ (o : Option Bool). cond (is_own next (process_id next b)) (alive o) false) same ∙ ap (λ (t : Bool). cond t (alive (slice_get (ends_of node.mail) b)) false) (own_so next node b own unique) ∙ sym (living_in node b)

-- one that is over doesn't live
pub over_dead : (node : NodeState) (b : ℕ) → slice_get (ends_of node.mail) b ≡ Some true → is_living node (process_id node b) ≡ false
over_dead node b over = living_in node b ∙ ap (λ (o : Option Bool). cond (is_own node (process_id node b)) (alive o) false) over ∙ by_own (is_own node (process_id node b)) where
  by_own : (t : Bool) → cond t false false ≡ false
  by_own true = refl
  by_own false = refl

-- one that lives isn't over
pub live_there : (node : NodeState) (b : ℕ) → is_living node (process_id node b) ≡ true → slice_get (ends_of node.mail) b ≡ Some false
live_there node b lives = by_ends (slice_get (ends_of node.mail) b) refl where
  no : (t : Bool) → cond t false false ≡ true → ⊥
  no true e = cc
  no false e = cc

  by_ends : (o : Option Bool) → slice_get (ends_of node.mail) b ≡ o → o ≡ Some false
  by_ends (Some false) e = refl
  by_ends (Some true) e = absurd (no (is_own node (process_id node b)) (ap (λ (o : Option Bool). cond (is_own node (process_id node b)) (alive o) false) (sym e) ∙ sym (living_in node b) ∙ lives))
  by_ends None e = absurd (no (is_own node (process_id node b)) (ap (λ (o : Option Bool). cond (is_own node (process_id node b)) (alive o) false) (sym e) ∙ sym (living_in node b) ∙ lives))

pub ends_long : (node next : NodeState) → length (ends_of next.mail) ≡ length (ends_of node.mail) → length node.mail ≤ length next.mail
ends_long node next e = less (length node.mail) (length next.mail) (sym (length-map next.mail (λ (p : Process). is_over p.life)) ∙ e ∙ length-map node.mail (λ (p : Process). is_over p.life)) where
  less : (a b : ℕ) → b ≡ a → a ≤ b
  less a b e = omega arith

-- ---- a message is said

-- all are over or not as before
abbrev SameEnds : NodeState → Claim
SameEnds node done after = ends_of after.mail ≡ ends_of node.mail

kept_put : (n : NodeState) (from : ProcessId) (to : Target) (receiver : ProcessId) (number : ℕ) (r : Result (List Process) MailError) → Keeps n.mail number r → Holds (SameEnds n) (got_put n from to receiver r)
kept_put n from to receiver number (Ok mail) k = k.0
kept_put n from to receiver number (Err mails.NotLive) k = refl
kept_put n from to receiver number (Err mails.Empty) k = refl
kept_put n from to receiver number (Err mails.OutOfMemory) k = tt
kept_put n from to receiver number (Err mails.Worn) k = tt

got_same : (n : NodeState) (from : ProcessId) (to : Target) (receiver : ProcessId) (port : Option ℕ) (said : Message) → Holds (SameEnds n) (get n from to receiver port said)
unfolding get
got_same n from to receiver port said = kept_put n from to receiver receiver.counter (put_of n.mail receiver.counter port said) (put_keeps n.mail receiver.counter port said)

delivered_same : (n : NodeState) (from : ProcessId) (to : Target) (said : Message) → Holds (SameEnds n) (deliver n from to said)
unfolding deliver
delivered_same n from (targets.Process to) said = got_same n from (targets.Process to) to None said
delivered_same n from (targets.Port port) said = got_same n from (targets.Port port) port.process (Some port.port) said
delivered_same n from (targets.Named at name) said = by_standing (standing n name) where
  by_standing : (o : Option ProcessId) → Holds (SameEnds n) (get_standing n from (targets.Named at name) said o)
  by_standing None = refl
  by_standing (Some receiver) = got_same n from (targets.Named at name) receiver None said

sent_same : (n : NodeState) (pair : Pair) (said : Message) (weight : Weight) (mark : Mark) → Holds (SameEnds n) (send_on n pair said weight mark)
unfolding send_first
sent_same n pair said weight Unopened = bound (SameEnds n) (drawn n) _ (λ conn. refl)
sent_same n pair said weight (Opened conn) = refl
sent_same n pair said weight Broken = refl

carried_same : (n : NodeState) (pair : Pair) (said : Message) (weight : Weight) → Holds (SameEnds n) (carry n pair said weight)
unfolding carry
carried_same n pair said weight = by_here (is_here n (target_at pair.to)) where
  by_here : (b : Bool) → Holds (SameEnds n) (cond b (deliver n (process_id n pair.by) pair.to said) (send_on n pair said weight pair.mark))
  by_here true = delivered_same n (process_id n pair.by) pair.to said
  by_here false = sent_same n pair said weight pair.mark

said_same : (node : NodeState) (pair : Pair) (said : Message) → Holds (SameEnds node) (say node pair said)
unfolding say
said_same node pair said = bound (SameEnds node) (growing pair.index) _ (λ index. later (SameEnds node) (SameEnds (keeping node (with_said pair))) (acts.Note (notes.Said (process_id node pair.by) pair.to pair.epoch index said) ∷ []) (carry (keeping node (with_said pair)) (with_said pair) said (weight_of pair.epoch index)) (λ done after k. k)
    (carried_same (keeping node (with_said pair)) (with_said pair) said (weight_of pair.epoch index)))

send_same : (node : NodeState) (by : ℕ) (to : Target) (said : Message) (room : Room) → Holds (SameEnds node) (send_of node by to said room)
unfolding send_of
send_same node by to said room = bound P (acting node by) _ (λ live. bound P (known node to) _ (λ there. bound P (fitting (payload_of to said)) _ (λ short. bound P (room_to_send node (pair_of node.pairs by to) room) _ (λ roomy. stopped P (say node (pair_of node.pairs by to) said) (said_same node (pair_of node.pairs by to) said))))) where
  P : Claim
  P = SameEnds node

-- after it all are over or not as before
pub send_ends : (node next : NodeState) (by : ℕ) (to : Target) (said : Message) (room : Room) (done : List Act) → node_command node by (commands.Send to said) room ≡ Ok (done, next) → ends_of next.mail ≡ ends_of node.mail
unfolding node_command
send_ends node next by to said room done e = given_so (SameEnds node) (send_of node by to said room) done next (send_same node by to said room) e

-- ---- a process ends

over_there : (n : ℕ) (all : List Bool) → slice_get all n ≡ Some false → slice_get (over_at n all) n ≡ Some true
over_there n [] e = absurd cc
over_there zero (x ∷ all) e = refl
over_there (suc n) (x ∷ all) e = over_there n all e

over_else : (n k : ℕ) (all : List Bool) → (n ≡ k → ⊥) → slice_get (over_at n all) k ≡ slice_get all k
over_else n k [] d = refl
over_else zero zero (x ∷ all) d = absurd (d refl)
over_else zero (suc k) (x ∷ all) d = refl
over_else (suc n) zero (x ∷ all) d = refl
over_else (suc n) (suc k) (x ∷ all) d = over_else n k all (λ e. d (ap suc e))

module _ (node : NodeState) (by : ℕ) where
  -- that process is over, and no other more
  abbrev OneOver : Claim
  OneOver done after = ends_of after.mail ≡ over_at by (ends_of node.mail)

  nobody : IsPlain node → (ended_of node.watches by).0.watches ≡ []
  unfolding ended_of ending_of
  nobody p = ap (λ (l : List Watched). map (λ watched. watched.watch) (filter (λ watched. watched.process == by) l)) p.watched

  by_watches : (watches : List Ref) (front : List Act) (n : NodeState) → watches ≡ [] → OneOver front n → Holds OneOver (doing front n and_then (λ m. each_in_turn (λ watch m. tell_end m watch Normal) watches m))
  by_watches [] front n e k = k
  by_watches (w ∷ ws) front n e k = absurd cc

  over_one : IsPlain node → slice_get (ends_of node.mail) by ≡ Some false → Holds OneOver (over node by Normal)
  unfolding over
  over_one p there = by_end (end_of node.mail by Normal) (ends_one node.mail by Normal there) where
    by_end : (r : Result (List Process) MailError) → EndsOne node.mail by r → Holds OneOver (or_unchanged node.mail r >>= (λ mail. doing (farewell node by Normal (ended_of node.watches by).0.names) (bereft node mail (ended_of node.watches by).1 by) and_then (λ n. each_in_turn (λ watch m. tell_end m watch Normal) (ended_of node.watches by).0.watches n)))
    by_end (Ok mail) k = by_watches (ended_of node.watches by).0.watches (farewell node by Normal (ended_of node.watches by).0.names) (bereft node mail (ended_of node.watches by).1 by) (nobody p) k
    by_end (Err e) k = absurd k

-- who is over after it
pub record EndsOver (node next : NodeState) (by : ℕ) : Type 0 where
  pub long : length node.mail ≤ length next.mail
  pub over : slice_get (ends_of next.mail) by ≡ Some true
  pub others : (b : ℕ) → (by ≡ b → ⊥) → slice_get (ends_of next.mail) b ≡ slice_get (ends_of node.mail) b

pub end_over : (node next : NodeState) (by : ℕ) (room : Room) (done : List Act) → IsPlain node → node_command node by commands.End room ≡ Ok (done, next) → EndsOver node next by
unfolding node_command finish_of
end_over node next by room done p e = record {
  long = ends_long node next (ap (λ (l : List Bool). length l) is ∙ over_long by (ends_of node.mail));
  over = ap (λ (l : List Bool). slice_get l by) is ∙ over_there by (ends_of node.mail) there;
  others = λ b d. ap (λ (l : List Bool). slice_get l b) is ∙ over_else by b (ends_of node.mail) d;
} where
  acted : (live : Unit {0}) × (acting node by ≡ Ok live) × (stopping (over node by Normal) ≡ Ok (done, next))
  acted = went (acting node by) (λ live. stopping (over node by Normal)) (done, next) e

  there : slice_get (ends_of node.mail) by ≡ Some false
  there = live_there node by (acts_so node by acted.1).lives

  is : ends_of next.mail ≡ over_at by (ends_of node.mail)
  is = given_so (OneOver node by) (stopping (over node by Normal)) done next (stopped (OneOver node by) (over node by Normal) (over_one node by p there)) acted.2
