-- What a turn of one node does to all that stands in mailboxes by the log.
use Rattle.std.proofs.Common.{◌≡◌, ◌⊎◌, inl, inr, ℕ, Bool, true, false, ◌&&◌, List, [], ◌∷◌, ◌++◌, refl, sym, ap, ◌∙◌, subst, append_assoc, ◌==◌}
use Rattle.std.specs.Prelude.{slice_get, Option, Some, None}
use Rattle.std.specs.Str.{bytes_eq}
use Rattle.ch_ident.specs.declared.message.Message.{Message}
use Rattle.ch_model.specs.declared.entry.Entry.{Entry}
use Rattle.ch_model.specs.declared.entry.Entry.TheVariants as entries
use Rattle.ch_model.specs.declared.line.Line.{Line}
use Rattle.ch_model.specs.declared.name.ProcName.{ProcName}
use Rattle.ch_model.specs.declared.name.TargetName.TheVariants as targets
use Rattle.ch_model.specs.Logs.{each_after}
use Rattle.ch_model.specs.Mailboxes.{message_of, takes_the_first}
use Rattle.ch_model.specs.Naming.{Names, called, process_called}
use Rattle.ch_model.specs.NodeIds.{process_id}
use Rattle.ch_model.specs.NodeState.{NodeState}
use Rattle.ch_model.specs.Same.{same_process}
use Rattle.ch_laws_log.proofs.Blocks.{each_append}
use Rattle.ch_laws_log.proofs.Stored.{number_is, bytes_same}
use Rattle.ch_laws_one_node.proofs.Appending.{IsTaken}
use Rattle.ch_laws_messages.specs.MailMail.{MailStands, waiting_for, is_gone}
use Rattle.ch_laws_messages.proofs.MailLogs.{AreSilent, silent_all, silent_tests, got_here, got_elsewhere, took_here, took_elsewhere, took_first}
use Rattle.ch_laws_messages.proofs.MailMails.{Changes, Keeps}

-- the name of the node's process of a number
abbrev pub name_of : Names → NodeState → ℕ → ProcName
name_of known node number = process_called known (process_id node number)

-- nothing is told of mailboxes, and nothing changes there, but that processes are made or over
pub record QuietIn (told : List Entry) (node next : NodeState) : Type 0 where
  pub silent : AreSilent told
  pub mail : Keeps node.mail next.mail

-- a process of the node got a message that was said
pub record GotIn (known : Names) (log told : List Entry) (node next : NodeState) : Type 0 where
  pub number : ℕ
  pub before : List Entry
  pub behind : List Entry
  pub from : ProcName
  pub to : ProcName
  pub epoch : ℕ
  pub index : ℕ
  pub message : Message
  pub split : told ≡ before ++ entries.Got from (targets.Process to) epoch index (Some (name_of known node number)) ∷ behind
  pub still_before : AreSilent before
  pub still_behind : AreSilent behind
  pub said : message_of (log ++ before) from (targets.Process to) epoch index ≡ Some message
  pub changes : Changes node.mail next.mail number (waiting_for (slice_get node.mail number) ++ message ∷ [])

-- a process of the node took a message from its mailbox
pub record TookIn (known : Names) (told : List Entry) (node next : NodeState) : Type 0 where
  pub number : ℕ
  pub message : Message
  pub rest : List Message
  pub split : told ≡ entries.Took (name_of known node number) None message.mark message.body ∷ []
  pub changes : Changes node.mail next.mail number rest
  pub taken : IsTaken message.mark (waiting_for (slice_get node.mail number)) message rest

abbrev pub Turned : Names → List Entry → List Entry → NodeState → NodeState → Type 0
Turned known log told node next = QuietIn told node next ⊎ (GotIn known log told node next ⊎ TookIn known told node next)

module _ (journal : List Line) (known : Names) (log told : List Entry) (node next : NodeState) where
  around : (before : List Entry) (x : Entry) (behind : List Entry) → ((log ++ before) ++ x ∷ []) ++ behind ≡ log ++ (before ++ x ∷ behind)
  around before x behind = append_assoc (log ++ before) (x ∷ []) behind ∙ append_assoc log before (x ∷ behind)

  -- what an entry between such that touch no mailbox makes of what stands there
  between : (p : ProcName) (messages rest : List Message) (before : List Entry) (x : Entry) (behind : List Entry) → told ≡ before ++ x ∷ behind → AreSilent before → AreSilent behind → MailStands journal log p messages
      → (MailStands journal (log ++ before) p messages → MailStands journal ((log ++ before) ++ x ∷ []) p rest) → MailStands journal (log ++ told) p rest
  between p messages rest before x behind split a b m one = subst (λ (l : List Entry). MailStands journal l p rest) (around before x behind ∙ ap (λ (l : List Entry). log ++ l) (sym split))
      (silent_all journal ((log ++ before) ++ x ∷ []) behind p rest b (one (silent_all journal log before p messages a m)))

  -- ---- processes of other nodes

  not_same : (p : ProcName) (number : ℕ) → bytes_eq (called known node.own) p.node ≡ false → same_process (name_of known node number) p ≡ false
  not_same p number other = ap (λ b. b && number == p.counter) other

  pub others_stand : Turned known log told node next → (p : ProcName) (messages : List Message) → bytes_eq (called known node.own) p.node ≡ false → MailStands journal log p messages → MailStands journal (log ++ told) p messages
  others_stand (inl q) p messages other m = silent_all journal log told p messages q.silent m
  others_stand (inr (inl g)) p messages other m = between p messages messages g.before (entries.Got g.from (targets.Process g.to) g.epoch g.index (Some (name_of known node g.number))) g.behind g.split g.still_before g.still_behind m
      (λ m. got_elsewhere journal (log ++ g.before) g.from g.to (name_of known node g.number) p g.epoch g.index messages (not_same p g.number other) m)
  others_stand (inr (inr t)) p messages other m = subst (λ (l : List Entry). MailStands journal (log ++ l) p messages) (sym t.split)
      (took_elsewhere journal log (name_of known node t.number) p t.message.mark t.message.body messages (not_same p t.number other) m)

  -- ---- processes of the node

  -- what stood in their mailboxes before
  abbrev pub Stood : Type 0
  Stood = (n : ℕ) → is_gone (slice_get node.mail n) ≡ false → MailStands journal log (name_of known node n) (waiting_for (slice_get node.mail n))

  apart_here : (number n : ℕ) → (number == n) ≡ false → same_process (name_of known node number) (name_of known node n) ≡ false
  apart_here number n d = ap (λ b. b && number == n) (bytes_same (called known node.own)) ∙ d

  -- a process whose mailbox isn't touched
  elsewhere : (n number : ℕ) (messages : List Message) → Changes node.mail next.mail number messages → (number == n) ≡ false → is_gone (slice_get next.mail n) ≡ false → Stood
      → (MailStands journal log (name_of known node n) (waiting_for (slice_get node.mail n)) → MailStands journal (log ++ told) (name_of known node n) (waiting_for (slice_get node.mail n))) → MailStands journal (log ++ told) (name_of known node n) (waiting_for (slice_get next.mail n))
  elsewhere n number messages c d alive stood one = subst (λ (x : Option _). MailStands journal (log ++ told) (name_of known node n) (waiting_for x)) (sym (c.others n d)) (one (stood n (ap is_gone (sym (c.others n d)) ∙ alive)))

  pub here_stands : Turned known log told node next → Stood → (n : ℕ) → is_gone (slice_get next.mail n) ≡ false → MailStands journal (log ++ told) (name_of known node n) (waiting_for (slice_get next.mail n))
  here_stands (inl q) stood n alive = let k = q.mail n alive in subst (MailStands journal (log ++ told) (name_of known node n)) (sym k.1) (silent_all journal log told (name_of known node n) (waiting_for (slice_get node.mail n)) q.silent (stood n k.0))
  here_stands (inr (inl g)) stood n alive = by_number (g.number == n) refl where
    got : Entry
    got = entries.Got g.from (targets.Process g.to) g.epoch g.index (Some (name_of known node g.number))

    at_it : MailStands journal (log ++ told) (name_of known node g.number) (waiting_for (slice_get next.mail g.number))
    at_it = subst (MailStands journal (log ++ told) (name_of known node g.number)) (sym g.changes.now)
        (between (name_of known node g.number) (waiting_for (slice_get node.mail g.number)) (waiting_for (slice_get node.mail g.number) ++ g.message ∷ []) g.before got g.behind g.split g.still_before g.still_behind (stood g.number g.changes.there)
        (λ m. got_here journal (log ++ g.before) g.from g.to (name_of known node g.number) g.epoch g.index g.message (waiting_for (slice_get node.mail g.number)) g.said m))

    by_number : (b : Bool) → (g.number == n) ≡ b → MailStands journal (log ++ told) (name_of known node n) (waiting_for (slice_get next.mail n))
    by_number true h = subst (λ (k : ℕ). MailStands journal (log ++ told) (name_of known node k) (waiting_for (slice_get next.mail k))) (number_is g.number n h) at_it
    by_number false h = elsewhere n g.number (waiting_for (slice_get node.mail g.number) ++ g.message ∷ []) g.changes h alive stood
        (λ m. between (name_of known node n) (waiting_for (slice_get node.mail n)) (waiting_for (slice_get node.mail n)) g.before got g.behind g.split g.still_before g.still_behind m
        (λ m. got_elsewhere journal (log ++ g.before) g.from g.to (name_of known node g.number) (name_of known node n) g.epoch g.index (waiting_for (slice_get node.mail n)) (apart_here g.number n h) m))
  here_stands (inr (inr t)) stood n alive = by_number (t.number == n) refl where
    at_it : MailStands journal (log ++ told) (name_of known node t.number) (waiting_for (slice_get next.mail t.number))
    at_it = subst (MailStands journal (log ++ told) (name_of known node t.number)) (sym t.changes.now) (subst (λ (l : List Entry). MailStands journal (log ++ l) (name_of known node t.number) t.rest) (sym t.split)
        (took_here journal log (name_of known node t.number) (waiting_for (slice_get node.mail t.number)) t.rest t.message t.taken (stood t.number t.changes.there)))

    by_number : (b : Bool) → (t.number == n) ≡ b → MailStands journal (log ++ told) (name_of known node n) (waiting_for (slice_get next.mail n))
    by_number true h = subst (λ (k : ℕ). MailStands journal (log ++ told) (name_of known node k) (waiting_for (slice_get next.mail k))) (number_is t.number n h) at_it
    by_number false h = elsewhere n t.number t.rest t.changes h alive stood
        (λ m. subst (λ (l : List Entry). MailStands journal (log ++ l) (name_of known node n) (waiting_for (slice_get node.mail n))) (sym t.split)
        (took_elsewhere journal log (name_of known node t.number) (name_of known node n) t.message.mark t.message.body (waiting_for (slice_get node.mail n)) (apart_here t.number n h) m))

  -- ---- what is taken is the first that is left

  one_test : (log : List Entry) (x : Entry) → takes_the_first journal log x ≡ true → each_after (takes_the_first journal) log (x ∷ []) ≡ true
  one_test log x h = ap (λ b. b && true) h

  pub first_taken : Turned known log told node next → Stood → each_after (takes_the_first journal) log told ≡ true
  first_taken (inl q) stood = silent_tests journal log told q.silent
  first_taken (inr (inl g)) stood = subst (λ (l : List Entry). each_after (takes_the_first journal) log l ≡ true) (sym g.split)
      (each_append (takes_the_first journal) log g.before (got ∷ g.behind) (silent_tests journal log g.before g.still_before) (silent_tests journal ((log ++ g.before) ++ got ∷ []) g.behind g.still_behind)) where
        got : Entry
        got = entries.Got g.from (targets.Process g.to) g.epoch g.index (Some (name_of known node g.number))
  first_taken (inr (inr t)) stood = subst (λ (l : List Entry). each_after (takes_the_first journal) log l ≡ true) (sym t.split)
      (one_test log (entries.Took (name_of known node t.number) None t.message.mark t.message.body) (took_first journal log (name_of known node t.number) (waiting_for (slice_get node.mail t.number)) t.rest t.message t.taken (stood t.number t.changes.there)))
