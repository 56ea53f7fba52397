-- How what a node does is put together: acts in order, and the node after them.
use Rattle.std.specs.Prelude.{ℕ, List, [], ◌∷◌, ◌++◌, Result, Ok, Err, nat_lt, if◌then◌else◌}
use Rattle.ch_base.specs.declared.memory.Stop.{Stop}
use Rattle.ch_base.specs.declared.memory.Stop.TheVariants as stops
use Rattle.ch_mail.specs.declared.error.MailError.{MailError}
use Rattle.ch_mail.specs.declared.error.MailError.TheVariants as mails
use Rattle.ch_mail.specs.Mail.{last_u64}
use Rattle.ch_watch.specs.declared.error.WatchError.{WatchError}
use Rattle.ch_watch.specs.declared.error.WatchError.TheVariants as watches
use Rattle.ch_model.specs.declared.note.Note.{Note}
use Rattle.ch_model.specs.declared.act.Act.{Act}
use Rattle.ch_model.specs.declared.act.Act.TheVariants as acts
use Rattle.ch_model.specs.declared.command.CommandError.{CommandError}
use Rattle.ch_model.specs.declared.command.CommandError.TheVariants as errors
use Rattle.ch_model.specs.NodeState.{NodeState}
use Rattle.ch_model.specs.Refusals.{of_mail_error, of_stop}

infixl 10 ◌>>=◌
-- what follows a step, where that isn't refused
abbrev pub ◌>>=◌ : {A B E : Type 0} → Result A E → (A → Result B E) → Result B E
(Ok x) >>= f = f x
(Err e) >>= f = Err e

-- what a node did by itself: its acts in order, and the node after them; or it stopped, as a count can't grow
abbrev pub Done : Type 0
Done = Result (List Act × NodeState) Stop

-- what a node did for a process that asked: the same, or a refusal
abbrev pub Answered : Type 0
Answered = Result (List Act × NodeState) CommandError

-- these acts, and the node after them
abbrev pub doing : List Act → NodeState → Done
doing acts node = Ok (acts, node)

-- no act
abbrev pub silent : NodeState → Done
silent node = doing [] node

-- the node tells one thing
abbrev pub noting : Note → NodeState → Done
noting note node = doing (acts.Note note ∷ []) node

-- acts stand before those of what follows
abbrev pub after : List Act → Done → Done
after acts (Ok did) = Ok (acts ++ did.0, did.1)
after acts (Err e) = Err e

infixl 10 ◌and_then◌
-- one thing is done, and the next by the node that it leaves, with the acts of both in order
abbrev pub ◌and_then◌ : Done → (NodeState → Done) → Done
(Ok did) and_then next = after did.0 (next did.1)
(Err e) and_then next = Err e

-- the same is done for each of a list, in order
abbrev pub each_in_turn : {A : Type 0} → (A → NodeState → Done) → List A → NodeState → Done
each_in_turn f [] node = silent node
each_in_turn f (x ∷ rest) node = f x node and_then (λ n. each_in_turn f rest n)

-- a stop, as it is told to the process that asked
abbrev pub stopping : {A : Type 0} → Result A Stop → Result A CommandError
stopping (Ok x) = Ok x
stopping (Err e) = Err (of_stop e)

-- a refusal of the mail, as it is told to the process that asked
abbrev pub mailed : {A : Type 0} → Result A MailError → Result A CommandError
mailed (Ok x) = Ok x
mailed (Err e) = Err (of_mail_error e)

-- how a refusal of the watches and names is told to the process that asked
abbrev pub of_watch_error : WatchError → CommandError
of_watch_error watches.Taken = errors.Taken
of_watch_error watches.NoName = errors.NoName
of_watch_error watches.NoRef = errors.NoRef
of_watch_error watches.OutOfMemory = errors.OutOfMemory

-- a refusal of the watches and names, as it is told to the process that asked
abbrev pub watching : {A : Type 0} → Result A WatchError → Result A CommandError
watching (Ok x) = Ok x
watching (Err e) = Err (of_watch_error e)

-- what a change of the mail gives, where a process that gets nothing more leaves it as it was
abbrev pub or_unchanged : {A : Type 0} → A → Result A MailError → Result A Stop
or_unchanged before (Ok x) = Ok x
or_unchanged before (Err mails.NotLive) = Ok before
or_unchanged before (Err mails.Empty) = Ok before
or_unchanged before (Err mails.OutOfMemory) = Err stops.OutOfMemory
or_unchanged before (Err mails.Worn) = Err stops.Worn

-- a count of eight bytes that can grow
unfoldable pub growing : ℕ → Result ℕ Stop
growing count = if nat_lt count last_u64 then Ok count else Err stops.Worn
