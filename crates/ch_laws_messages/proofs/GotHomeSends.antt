-- What a node does as one of its processes sends a message to another of it: it is put, or the receiver was made and is over.
use Rattle.std.proofs.Common.{◌≡◌, ◌⊎◌, inl, inr, ℕ, Bool, true, false, cond, not, ◌||◌, List, [], ◌∷◌, Ok, Err, refl, sym, ap, ◌∙◌, subst}
use Rattle.std.specs.Prelude.{is_some, nat_lt, slice_get, Result, Option, Some, None}
use Rattle.std.specs.Option.{option_map}
use Rattle.ch_base.specs.declared.event.Room.{Room}
use Rattle.ch_base.specs.declared.memory.Stop.TheVariants as stops
use Rattle.ch_ident.specs.declared.identifier.ProcessId.{ProcessId}
use Rattle.ch_ident.specs.declared.message.Message.{Message}
use Rattle.ch_mail.specs.declared.error.MailError.{MailError}
use Rattle.ch_mail.specs.declared.error.MailError.TheVariants as mails
use Rattle.ch_mail.specs.Lives.{is_over}
use Rattle.ch_mail.specs.Mail.{last_u64, life_of, put_of}
use Rattle.ch_mail.specs.Process.{Process}
use Rattle.ch_static.specs.declared.command.Command.TheVariants as commands
use Rattle.ch_static.specs.declared.target.Target.TheVariants as targets
use Rattle.ch_model.specs.declared.act.Act.{Act}
use Rattle.ch_model.specs.declared.act.Act.TheVariants as acts
use Rattle.ch_model.specs.declared.command.CommandError.{CommandError}
use Rattle.ch_model.specs.declared.command.CommandError.TheVariants as errors
use Rattle.ch_model.specs.declared.note.Note.TheVariants as notes
use Rattle.ch_model.specs.Node.{node_command}
use Rattle.ch_model.specs.NodeActs.{◌>>=◌, ◌and_then◌, Done, noting, growing}
use Rattle.ch_model.specs.NodeCommands.{send_of}
use Rattle.ch_model.specs.NodeIds.{process_id, is_here, is_own, life_here}
use Rattle.ch_model.specs.NodePairs.{pair_of, keeping}
use Rattle.ch_model.specs.NodeRoom.{acting, is_known, known, fitting, room_to_send}
use Rattle.ch_model.specs.NodeSends.{got_put, get, deliver, payload_of, weight_of, send_on, carry, say}
use Rattle.ch_model.specs.NodeState.{NodeState, Pair}
use Rattle.ch_laws_plain_nodes.specs.Does.{pair_between, said_note, said_pair}
use Rattle.ch_laws_plain_nodes.proofs.Lists.{is_theirs}
use Rattle.ch_laws_plain_nodes.proofs.Steps.{Claim, Holds, bound, stopped, later, given_so}
use Rattle.ch_laws_messages.specs.MailMail.{is_gone}
use Rattle.ch_laws_messages.proofs.GotNodes.{IsTaken, put_taken}

-- ---- who is sent to was made

pub bound_is : {A E : Type 0} (P : Claim) (given : Result A E) (f : A → Result (List Act × NodeState) E) → ((x : A) → given ≡ Ok x → Holds P (f x)) → Holds P (given >>= f)
bound_is P (Ok x) f k = k x refl
bound_is P (Err e) f k = tt

-- a process of the number was made
abbrev pub IsMade : NodeState → ProcessId → Type 0
IsMade node to = (process : Process) × (slice_get node.mail to.counter ≡ Some process)

made_there : (node : NodeState) (to : ProcessId) (there : Unit {0}) → is_here node to.node ≡ true → known node (targets.Process to) ≡ Ok there → IsMade node to
unfolding known is_known life_here life_of
made_there node to there here e = by_own (is_own node to) (subst (λ (h : Bool). (cond (not h || is_some (cond (is_own node to) (option_map (λ (process : Process). process.life) (slice_get node.mail to.counter)) None)) (Ok tt) (Err errors.Unknown)) ≡ Ok there) here e) where
  by_found : (o : Option Process) → slice_get node.mail to.counter ≡ o → ◌≡◌ {A = Result (Unit {0}) CommandError} (cond (false || is_some (option_map (λ (process : Process). process.life) o)) (Ok tt) (Err errors.Unknown)) (Ok there) → IsMade node to
  by_found None f e = absurd cc
  by_found (Some process) f e = (process, f)

  by_own : (b : Bool) → ◌≡◌ {A = Result (Unit {0}) CommandError} (cond (false || is_some (cond b (option_map (λ (process : Process). process.life) (slice_get node.mail to.counter)) None)) (Ok tt) (Err errors.Unknown)) (Ok there) → IsMade node to
  by_own true e = by_found (slice_get node.mail to.counter) refl e
  by_own false e = absurd cc

-- ---- a message is put, or not

gone_where : (mail : List Process) (n : ℕ) (said : Message) (process : Process) → slice_get mail n ≡ Some process → (IsTaken (put_of mail n None said) → ⊥) → is_gone (slice_get mail n) ≡ true
gone_where mail n said process at off = ap is_gone at ∙ by_over (is_over process.life) refl where
  by_over : (b : Bool) → is_over process.life ≡ b → b ≡ true
  by_over true o = refl
  by_over false o = absurd (off (put_taken mail n said process at o))

-- nobody got it, as the receiver is over, or this process did, into its mailbox
abbrev GotMail : NodeState → ProcessId → ProcessId → Message → Claim
GotMail node from to said done after = ((done ≡ []) × (after.mail ≡ node.mail) × (is_gone (slice_get node.mail to.counter) ≡ true)) ⊎ ((done ≡ acts.Note (notes.Got from (targets.Process to) (Some to)) ∷ []) × (put_of node.mail to.counter None said ≡ Ok after.mail))

got_so : (node : NodeState) (from to : ProcessId) (said : Message) (made : IsMade node to) (given : Result (List Process) MailError) → put_of node.mail to.counter None said ≡ given → Holds (GotMail node from to said) (got_put node from (targets.Process to) to given)
got_so node from to said made (Ok mail) e = inr (refl, e)
got_so node from to said made (Err mails.NotLive) e = inl (refl, refl, gone_where node.mail to.counter said made.0 made.1 (λ t. subst IsTaken e t))
got_so node from to said made (Err mails.Empty) e = inl (refl, refl, gone_where node.mail to.counter said made.0 made.1 (λ t. subst IsTaken e t))
got_so node from to said made (Err mails.OutOfMemory) e = tt
got_so node from to said made (Err mails.Worn) e = tt

delivers : (node : NodeState) (from to : ProcessId) (said : Message) → IsMade node to → Holds (GotMail node from to said) (deliver node from (targets.Process to) said)
unfolding deliver get
delivers node from to said made = got_so node from to said made (put_of node.mail to.counter None said) refl

-- ---- a message is said

module _ (node : NodeState) (by : ℕ) (to : ProcessId) (said : Message) where
  abbrev pub HomeMail : Claim
  HomeMail done after = ((done ≡ said_note node by to said ∷ []) × (after.mail ≡ node.mail) × (is_gone (slice_get node.mail to.counter) ≡ true))
      ⊎ ((done ≡ said_note node by to said ∷ acts.Note (notes.Got (process_id node by) (targets.Process to) (Some to)) ∷ []) × (put_of node.mail to.counter None said ≡ Ok after.mail))

  abbrev kept : NodeState
  kept = keeping node (said_pair node by to (pair_between node by to).mark)

  with_note : (done : List Act) (after : NodeState) → GotMail kept (process_id node by) to said done after → HomeMail (said_note node by to said ∷ done) after
  with_note done after (inl none) = inl (ap (λ (l : List Act). said_note node by to said ∷ l) none.0, none.1, none.2)
  with_note done after (inr got) = inr (ap (λ (l : List Act). said_note node by to said ∷ l) got.0, got.1)

  abbrev carried : Bool → ℕ → Done
  carried here index = cond here (deliver kept (process_id node by) (targets.Process to) said) (send_on kept (said_pair node by to (pair_between node by to).mark) said (weight_of (pair_between node by to).epoch index) (pair_between node by to).mark)

  abbrev counted : Bool → Done
  counted here = growing (pair_between node by to).index >>= λ index. noting (notes.Said (process_id node by) (targets.Process to) (pair_between node by to).epoch index said) kept and_then (λ n. carried here index)

  is_counted : (here : Bool) → here ≡ true → IsMade node to → Holds HomeMail (counted here)
  unfolding growing
  is_counted false h made = absurd cc
  is_counted true h made = by_count (nat_lt (pair_between node by to).index last_u64) where
    by_count : (b : Bool) → Holds HomeMail (cond b (Ok (pair_between node by to).index) (Err stops.Worn) >>= λ index. noting (notes.Said (process_id node by) (targets.Process to) (pair_between node by to).epoch index said) kept and_then (λ n. carried true index))
    by_count true = later HomeMail (GotMail kept (process_id node by) to said) (said_note node by to said ∷ []) (carried true (pair_between node by to).index) with_note (delivers kept (process_id node by) to said made)
    by_count false = tt

  is_said : is_here node to.node ≡ true → IsMade node to → Holds HomeMail (say node (pair_of node.pairs by (targets.Process to)) said)
  unfolding say carry
  is_said here made = subst (λ (pair : Pair). Holds HomeMail (say node pair said)) (sym (is_theirs node by to)) (is_counted (is_here node to.node) here made)

  is_sent : (room : Room) → is_here node to.node ≡ true → Holds HomeMail (send_of node by (targets.Process to) said room)
  unfolding send_of
  is_sent room here = bound HomeMail (acting node by) _ (λ live. bound_is HomeMail (known node (targets.Process to)) _ (λ there is. bound HomeMail (fitting (payload_of (targets.Process to) said)) _ (λ short. bound HomeMail (room_to_send node (pair_of node.pairs by (targets.Process to)) room) _ (λ roomy. stopped HomeMail (say node (pair_of node.pairs by (targets.Process to)) said) (is_said here (made_there node to there here is))))))

  pub does_home : (after : NodeState) (room : Room) (done : List Act) → is_here node to.node ≡ true → node_command node by (commands.Send (targets.Process to) said) room ≡ Ok (done, after) → HomeMail done after
  unfolding node_command
  does_home after room done here e = given_so HomeMail (send_of node by (targets.Process to) said room) done after (is_sent room here) e
