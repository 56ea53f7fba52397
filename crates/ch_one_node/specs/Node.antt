-- What a node makes of each command: the notes of what it did, and the node after it, or a refusal.
use Rattle.std.specs.Prelude.{◌≡◌, ℕ, ◌+◌, Bool, ◌&&◌, List, [], ◌∷◌, Option, Some, None, Result, Ok, Err, nat_lt, ◌==◌, if◌then◌else◌}
use Rattle.std.specs.Str.{bytes_eq}
use Rattle.ch_base.specs.AddressValues.{AddressValue}
use Rattle.ch_ident.specs.declared.identifier.ProcessId.{ProcessId}
use Rattle.ch_ident.specs.declared.message.Message.{Message}
use Rattle.ch_ident.specs.declared.reason.Reason.TheVariants.{Normal}
use Rattle.ch_base.specs.declared.memory.Stop.{Stop}
use Rattle.ch_base.specs.declared.memory.Stop.TheVariants as stops
use Rattle.ch_mail.specs.declared.life.Life.{Life}
use Rattle.ch_mail.specs.declared.error.MailError.{MailError}
use Rattle.ch_mail.specs.declared.error.MailError.TheVariants as mails
use Rattle.ch_mail.specs.Process.{Process}
use Rattle.ch_mail.specs.Lives.{is_live, is_over}
use Rattle.ch_mail.specs.Mail.{make_of, life_of, put_of, take_of, end_of, last_u64}
use Rattle.ch_one_node.specs.declared.note.Note.{Note}
use Rattle.ch_one_node.specs.declared.note.Note.TheVariants.{Made, Said, Got, Took, Over}
use Rattle.ch_one_node.specs.declared.command.Command.{Command}
use Rattle.ch_one_node.specs.declared.command.Command.TheVariants.{Send, Receive, End}
use Rattle.ch_one_node.specs.declared.command.CommandError.{CommandError}
use Rattle.ch_one_node.specs.declared.command.CommandError.TheVariants.{Unknown, Dead, Empty, OutOfMemory, Worn}
use Rattle.ch_one_node.specs.States.{NodeState}

infixl 10 ◌>>=◌
-- what follows a step, where that isn't refused
abbrev pub ◌>>=◌ : {A B : Type 0} → Result A CommandError → (A → Result B CommandError) → Result B CommandError
(Ok x) >>= f = f x
(Err e) >>= f = Err e

-- a refusal is the one that is defined, but that want of memory may come at any call
abbrev pub Fails : {A : Type 0} → CommandError → Result A CommandError → Type 0
Fails OutOfMemory given = Unit {0}
Fails e given = given ≡ Err e

-- how a refusal of the mail is told to the process that asked
abbrev pub of_mail_error : MailError → CommandError
of_mail_error mails.NotLive = Dead
of_mail_error mails.Empty = Empty
of_mail_error mails.OutOfMemory = OutOfMemory
of_mail_error mails.Worn = Worn

-- how a stop is told to the process that asked
abbrev pub of_stop : Stop → CommandError
of_stop stops.OutOfMemory = OutOfMemory
of_stop stops.Worn = Worn

abbrev pub mailed : {A : Type 0} → Result A MailError → Result A CommandError
mailed (Ok x) = Ok x
mailed (Err e) = Err (of_mail_error e)

-- a process acts only where it was made and is live
unfoldable pub acting : Option Life → Result Life CommandError
acting None = Err Unknown
acting (Some life) = if is_live life then Ok life else Err Dead

-- the id of the node's process with this number
abbrev pub process_id : NodeState → ℕ → ProcessId
process_id node counter = record { node = node.own; unique = node.unique; counter = counter }

-- the addresses are the same
abbrev pub same_address : AddressValue → AddressValue → Bool
same_address a b = bytes_eq a.host b.host && a.port == b.port && a.id == b.id

-- the id is of this node, and of this run of it
abbrev pub is_own : NodeState → ProcessId → Bool
is_own node process = same_address process.node node.own && process.unique == node.unique

abbrev pub made_or_unknown : Option Life → Result Life CommandError
made_or_unknown None = Err Unknown
made_or_unknown (Some life) = Ok life

-- the life of the process that is sent to, where this node made it
unfoldable pub target_of : NodeState → ProcessId → Result Life CommandError
target_of node to = if is_own node to then made_or_unknown (life_of node.mail to.counter) else Err Unknown

abbrev pub same_pair : ℕ × ℕ → ℕ × ℕ → Bool
same_pair p q = p.0 == q.0 && p.1 == q.1

-- how many messages a pair has said, which is the index of its next
abbrev pub next_index : List ((ℕ × ℕ) × ℕ) → ℕ × ℕ → ℕ
next_index [] pair = 0
next_index (known ∷ others) pair = if same_pair pair known.0 then known.1 else next_index others pair

-- the pairs, with this number said by one of them
abbrev pub with_said : List ((ℕ × ℕ) × ℕ) → ℕ × ℕ → ℕ → List ((ℕ × ℕ) × ℕ)
with_said [] pair said = (pair, said) ∷ []
with_said (known ∷ others) pair said = if same_pair pair known.0 then (known.0, said) ∷ others else known ∷ with_said others pair said

-- a count that can grow
unfoldable pub growing : ℕ → Result ℕ CommandError
growing count = if nat_lt count last_u64 then Ok count else Err Worn

-- a message is put into the mailbox of a process that isn't over; else it goes nowhere
unfoldable pub delivered : List Process → ℕ → Life → Message → Result (List Process) CommandError
delivered mail to life message = if is_over life then Ok mail else mailed (put_of mail to None message)

-- a message that was said is got at once where the receiver isn't over
abbrev pub got_at_once : ProcessId → ProcessId → Life → List Note
got_at_once by to life = if is_over life then [] else Got by to to ∷ []

-- A live process says a message to a process of its node that was made. The pair's messages have epoch 0.
unfoldable pub send_of : NodeState → ℕ → ProcessId → Message → Result (List Note × NodeState) CommandError
send_of node by to message = do
  live ← acting (life_of node.mail by)
  life ← target_of node to
  index ← growing (next_index node.pairs (by, to.counter))
  mail ← delivered node.mail to.counter life message
  Ok (
    Said (process_id node by) to 0 index message ∷ got_at_once (process_id node by) to life,
    record node { mail = mail; pairs = with_said node.pairs (by, to.counter) (index + 1) },
  )

-- a live process takes the first message of a mark
unfoldable pub receive_of : NodeState → ℕ → List ℕ → Result (List Note × NodeState) CommandError
receive_of node by mark = do
  live ← acting (life_of node.mail by)
  taken ← mailed (take_of node.mail by mark)
  Ok (Took (process_id node by) taken.0 ∷ [], record node { mail = taken.1 })

-- a live process is over by itself
unfoldable pub finish_of : NodeState → ℕ → Result (List Note × NodeState) CommandError
finish_of node by = do
  live ← acting (life_of node.mail by)
  mail ← mailed (end_of node.mail by Normal)
  Ok (Over (process_id node by) Normal ∷ [], record node { mail = mail })

-- what a node makes of a command of one of its processes
abbrev pub command_of : NodeState → ℕ → Command → Result (List Note × NodeState) CommandError
command_of node by (Send to message) = send_of node by to message
command_of node by (Receive mark) = receive_of node by mark
command_of node by End = finish_of node by

abbrev pub made_note : NodeState → ℕ × List Process → List Note × NodeState
made_note node made = (Made (process_id node made.0) ∷ [], record node { mail = made.1 })

abbrev pub made_by : NodeState → Result (ℕ × List Process) Stop → Result (List Note × NodeState) CommandError
made_by node (Ok made) = Ok (made_note node made)
made_by node (Err stops.OutOfMemory) = Err OutOfMemory
made_by node (Err stops.Worn) = Err Worn

-- a process is made, with the number of those made before
unfoldable pub node_make : NodeState → Result (List Note × NodeState) CommandError
node_make node = made_by node (make_of node.mail)

-- a node that has made no process
abbrev pub new_node : AddressValue → ℕ → NodeState
new_node own unique = record { own = own; unique = unique; mail = []; pairs = [] }
