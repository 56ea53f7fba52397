-- Mailboxes: what a process takes of a mark is what it got of that mark, in that order.
use Rattle.std.specs.Prelude.{◌≡◌, ℕ, List, [], ◌∷◌, ◌++◌, Option, Some, None, slice_get, if◌then◌else◌}
use Rattle.std.specs.Str.{bytes_eq}
use Rattle.ch_ident.specs.declared.message.Message.{Message}
use Rattle.ch_model.specs.declared.name.ProcName.{ProcName}
use Rattle.ch_model.specs.declared.name.TargetName.TheVariants.{Process}
use Rattle.ch_model.specs.declared.entry.Entry.{Entry}
use Rattle.ch_model.specs.declared.entry.Entry.TheVariants.{Said, Got}
use Rattle.ch_laws_one_node.specs.Counts.{same_process, taken_in}
use Rattle.ch_laws_one_node.specs.Delivery.{is_the_said}
use Rattle.ch_laws_one_node.specs.Life.{Lives}

-- the message that the entry says, where it is of this pair, epoch and index
abbrev pub said_by : ProcName → ProcName → ℕ → ℕ → Entry → Option Message
said_by p q e k (Said by (Process to) epoch index mark body) = if is_the_said p q e k (Said by (Process to) epoch index mark body) then Some (record { mark = mark; body = body }) else None
said_by p q e k entry = None

-- the first of two that is there
abbrev pub first_some : {A : Type 0} → Option A → Option A → Option A
first_some None other = other
first_some (Some x) other = Some x

-- the message that was said first as this one of its pair and epoch
abbrev pub message_of : List Entry → ProcName → ProcName → ℕ → ℕ → Option Message
message_of [] p q e k = None
message_of (entry ∷ rest) p q e k = first_some (said_by p q e k entry) (message_of rest p q e k)

-- the body, where the message has the mark
abbrev pub body_of_mark : List ℕ → Option Message → List (List ℕ)
body_of_mark word None = []
body_of_mark word (Some message) = if bytes_eq message.mark word then message.body ∷ [] else []

-- the body of the mark that enters the process's mailbox by an entry, after the log before it
abbrev pub entering : List Entry → ProcName → List ℕ → Entry → List (List ℕ)
entering log p word (Got by (Process to) epoch index (Some receiver)) = if same_process p receiver then body_of_mark word (message_of log by to epoch index) else []
entering log p word entry = []

-- the same by each entry of the rest of a log, in order
abbrev pub entered_after : List Entry → ProcName → List ℕ → List Entry → List (List ℕ)
entered_after log p word [] = []
entered_after log p word (entry ∷ rest) = entering log p word entry ++ entered_after (log ++ entry ∷ []) p word rest

-- the bodies of the mark that entered the process's mailbox, in order
abbrev pub entered : List Entry → ProcName → List ℕ → List (List ℕ)
entered log p word = entered_after [] p word log

-- a living process takes the first body of the mark that it hasn't taken
pub record IsLawfulTake (log : List Entry) (by : ProcName) (word body : List ℕ) : Type 0 where
  pub living : Lives log by
  pub first_left : slice_get (entered log by word) (taken_in log by word) ≡ Some body
