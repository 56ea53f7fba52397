-- The mail of a node: its processes by number, in order of making, and what each call makes of them.
use Rattle.std.specs.Prelude.{◌≡◌, ℕ, ◌+◌, Bool, true, false, List, [], ◌∷◌, ◌++◌, length, sum_by, Option, Some, None, Result, Ok, Err, nat_lt, slice_get, slice_set, if◌then◌else◌}
use Rattle.std.specs.Option.{option_map, option_map_or}
use Rattle.ch_base.specs.declared.memory.Stop.{Stop}
use Rattle.ch_base.specs.declared.memory.Stop.TheVariants as stops
use Rattle.ch_ident.specs.declared.reason.Reason.{Reason}
use Rattle.ch_ident.specs.declared.reason.Reason.TheVariants.{NodeDown}
use Rattle.ch_ident.specs.declared.message.Message.{Message}
use Rattle.ch_mail.specs.declared.life.Life.{Life}
use Rattle.ch_mail.specs.declared.life.Life.TheVariants.{Live, Doomed, Over}
use Rattle.ch_mail.specs.declared.error.MailError.{MailError}
use Rattle.ch_mail.specs.declared.error.MailError.TheVariants.{NotLive, Empty, OutOfMemory, Worn}
use Rattle.ch_mail.specs.Lives.{is_live, is_over}
use Rattle.ch_mail.specs.Process.{Process}
use Rattle.ch_mail.specs.Queue.{first_of_mark, first_of}

infixl 10 ◌>>=◌
-- what follows a step, where that isn't refused
abbrev pub ◌>>=◌ : {A B : Type 0} → Result A MailError → (A → Result B MailError) → Result B MailError
(Ok x) >>= f = f x
(Err e) >>= f = Err e

-- a refusal is the one that is defined, but that want of memory may come at any call
abbrev pub Fails : {A : Type 0} → MailError → Result A MailError → Type 0
Fails OutOfMemory given = Unit {0}
Fails e given = given ≡ Err e

-- a stop is the one that is defined, but that want of memory may come at any call
abbrev pub Stops : {A : Type 0} → Stop → Result A Stop → Type 0
Stops stops.OutOfMemory given = Unit {0}
Stops stops.Worn given = given ≡ Err stops.Worn

-- what is there, or the refusal where it isn't
abbrev pub there_or : {A : Type 0} → MailError → Option A → Result A MailError
there_or e None = Err e
there_or e (Some x) = Ok x

-- the last values of the counts
abbrev pub last_u32 : ℕ
last_u32 = 4294967295

abbrev pub last_u64 : ℕ
last_u64 = 18446744073709551615

-- ---- one process

-- a new process is live, and nothing waits
unfoldable pub newborn : Process
newborn = record { life = Live; mailbox = []; ports = [] }

-- how many messages wait, in the mailbox and in all ports
unfoldable pub waiting_in : Process → ℕ
waiting_in process = length process.mailbox + sum_by length process.ports

-- where a message is put: at the end of the mailbox, or of the port, which has to be there
unfoldable pub appended : Process → Option ℕ → Message → Result Process MailError
appended process None message = Ok (record process { mailbox = process.mailbox ++ message ∷ [] })
appended process (Some port) message = do
  messages ← there_or NotLive (slice_get process.ports port)
  Ok (record process { ports = slice_set process.ports port (messages ++ message ∷ []) })

-- a process that isn't over gets a message, while their count can grow
unfoldable pub given_to : Process → Option ℕ → Message → Result Process MailError
given_to process port message = if is_over process.life then Err NotLive else (do
  given ← appended process port message
  if nat_lt (waiting_in process) last_u64 then Ok given else Err Worn)

-- a live process takes the first message of a mark, and the rest keep their order
unfoldable pub taken_from : Process → List ℕ → Result (Message × Process) MailError
taken_from process mark = if is_live process.life then (do
  taken ← there_or Empty (first_of_mark mark process.mailbox)
  Ok (taken.0, record process { mailbox = taken.1 })) else Err NotLive

-- a live process takes the first message of a port
unfoldable pub taken_from_port : Process → ℕ → Result (Message × Process) MailError
taken_from_port process port = if is_live process.life then (do
  messages ← there_or Empty (slice_get process.ports port)
  taken ← there_or Empty (first_of messages)
  Ok (taken.0, record process { ports = slice_set process.ports port taken.1 })) else Err NotLive

-- a live process opens its next port, which has the number of those opened before, while their count can grow
unfoldable pub opened_by : Process → Result (ℕ × Process) MailError
opened_by process = if is_live process.life then (if nat_lt (length process.ports) last_u32 then Ok (length process.ports, record process { ports = process.ports ++ [] ∷ [] }) else Err Worn) else Err NotLive

-- a process that isn't over is over from then on, for that reason; what waits stays
unfoldable pub ended : Process → Reason → Result Process MailError
ended process reason = if is_over process.life then Err NotLive else Ok (record process { life = Over reason })

-- the end of its node ends a process that isn't over; what waits stays
abbrev pub downed : Process → Process
downed process = if is_over process.life then process else record process { life = Over NodeDown }

-- a live process is doomed, with that text; any other stays as it is
unfoldable pub doomed : Process → List ℕ → Bool × Process
doomed process text = if is_live process.life then (true, record process { life = Doomed text }) else (false, process)

-- ---- all processes of a node

-- the process of a number, where it was made
abbrev pub made_at : List Process → ℕ → Result Process MailError
made_at mail number = there_or NotLive (slice_get mail number)

-- a process is made, and has the number of those made before, while their count can grow
unfoldable pub make_of : List Process → Result (ℕ × List Process) Stop
make_of mail = if nat_lt (length mail) last_u32 then Ok (length mail, mail ++ newborn ∷ []) else Err stops.Worn

-- the life of a process, where it was made
unfoldable pub life_of : List Process → ℕ → Option Life
life_of mail number = option_map (λ process. process.life) (slice_get mail number)

-- what doom leaves of the process that was found
abbrev pub doom_at : List Process → ℕ → List ℕ → Option Process → Bool × List Process
doom_at mail number text None = (false, mail)
doom_at mail number text (Some process) = ((doomed process text).0, slice_set mail number (doomed process text).1)

-- whether the process was live, and so is doomed now; any other call changes nothing
unfoldable pub doom_of : List Process → ℕ → List ℕ → Bool × List Process
doom_of mail number text = doom_at mail number text (slice_get mail number)

-- a process that was made and isn't over is over from then on
unfoldable pub end_of : List Process → ℕ → Reason → Result (List Process) MailError
end_of mail number reason = do
  process ← made_at mail number
  over ← ended process reason
  Ok (slice_set mail number over)

-- a message is put at the end of a mailbox, or of a port
unfoldable pub put_of : List Process → ℕ → Option ℕ → Message → Result (List Process) MailError
put_of mail number port message = do
  process ← made_at mail number
  given ← given_to process port message
  Ok (slice_set mail number given)

-- the first message of a mark is taken from a mailbox
unfoldable pub take_of : List Process → ℕ → List ℕ → Result (Message × List Process) MailError
take_of mail number mark = do
  process ← made_at mail number
  taken ← taken_from process mark
  Ok (taken.0, slice_set mail number taken.1)

-- the first message is taken from a port
unfoldable pub take_port_of : List Process → ℕ → ℕ → Result (Message × List Process) MailError
take_port_of mail number port = do
  process ← made_at mail number
  taken ← taken_from_port process port
  Ok (taken.0, slice_set mail number taken.1)

-- a process opens its next port
unfoldable pub open_port_of : List Process → ℕ → Result (ℕ × List Process) MailError
open_port_of mail number = do
  process ← made_at mail number
  opened ← opened_by process
  Ok (opened.0, slice_set mail number opened.1)

-- how many messages wait in a process's mailbox and ports, none where it wasn't made
unfoldable pub waiting_of : List Process → ℕ → ℕ
waiting_of mail number = option_map_or waiting_in (slice_get mail number) 0
