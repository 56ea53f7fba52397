-- What each call makes of a node's watches and names.
use Rattle.std.specs.Prelude.{◌≡◌, ℕ, ◌+◌, Bool, not, ◌==◌, List, [], ◌∷◌, ◌++◌, map, find, filter, Option, Some, None, Result, Ok, Err, nat_lt, if◌then◌else◌}
use Rattle.std.specs.Option.{option_map}
use Rattle.std.specs.List.{list_any}
use Rattle.ch_base.specs.declared.address.Address.{Address}
use Rattle.ch_base.specs.declared.memory.Stop.{Stop}
use Rattle.ch_base.specs.declared.memory.Stop.TheVariants as stops
use Rattle.ch_ident.specs.declared.identifier.Identifier.{Identifier}
use Rattle.ch_ident.specs.declared.identifier.Ref.{Ref}
use Rattle.ch_watch.specs.declared.error.WatchError.{WatchError}
use Rattle.ch_watch.specs.declared.error.WatchError.TheVariants.{Taken, NoName, NoRef, OutOfMemory}
use Rattle.ch_watch.specs.declared.waiting.Kind.{Kind}
use Rattle.ch_watch.specs.declared.waiting.Waiting.{Waiting}
use Rattle.ch_watch.specs.declared.watched.Watched.{Watched}
use Rattle.ch_watch.specs.declared.named.Named.{Named}
use Rattle.ch_watch.specs.declared.ending.Ending.{Ending}
use Rattle.ch_watch.specs.Firsts.{first_that}
use Rattle.ch_watch.specs.Same.{same_node, same_ref}
use Rattle.ch_watch.specs.Open.{has_number, is_watch_of, awaits}
use Rattle.ch_watch.specs.Names.{has_name}
use Rattle.ch_watch.specs.Lists.{Lists}

infixl 10 ◌>>=◌
-- what follows a step, where that isn't refused
abbrev pub ◌>>=◌ : {A B : Type 0} → Result A WatchError → (A → Result B WatchError) → Result B WatchError
(Ok x) >>= f = f x
(Err e) >>= f = Err e

-- a refusal is the one that is defined, but that want of memory may come at any call
abbrev pub Fails : {A : Type 0} → WatchError → Result A WatchError → Type 0
Fails OutOfMemory given = Unit {0}
Fails e given = given ≡ Err e

-- a stop is the one that is defined, but that want of memory may come at any call
abbrev pub Stops : {A : Type 0} → Stop → Result A Stop → Type 0
Stops stops.OutOfMemory given = Unit {0}
Stops stops.Worn given = given ≡ Err stops.Worn

-- what is there, or the refusal where it isn't
abbrev pub there_or : {A : Type 0} → WatchError → Option A → Result A WatchError
there_or e None = Err e
there_or e (Some x) = Ok x

-- the last value of the counter of numbers
abbrev pub last_u32 : ℕ
last_u32 = 4294967295

-- nothing is open, kept or named
unfoldable pub nothing : Lists
nothing = record { next = 0; waiting = []; watched = []; names = [] }

-- ---- open numbers

-- the next number is opened, while the counter can grow
unfoldable pub watch_of : Lists → ℕ → Kind → Identifier → Result (ℕ × Lists) Stop
watch_of lists owner kind target = if nat_lt lists.next last_u32 then Ok (lists.next, record lists { next = lists.next + 1; waiting = lists.waiting ++ record { number = lists.next; owner = owner; kind = kind; target = target } ∷ [] }) else Err stops.Worn

-- a monitor or link of that owner is closed
unfoldable pub unwatch_of : Lists → ℕ → ℕ → Result (Waiting × Lists) WatchError
unwatch_of lists owner number = do
  closed ← there_or NoRef (first_that (is_watch_of owner number) lists.waiting)
  Ok (closed.0, record lists { waiting = closed.1 })

-- an open number of any kind is closed
unfoldable pub told_of : Lists → ℕ → Result (Waiting × Lists) WatchError
told_of lists number = do
  closed ← there_or NoRef (first_that (has_number number) lists.waiting)
  Ok (closed.0, record lists { waiting = closed.1 })

-- the monitor or link of that owner that is open under a number
unfoldable pub waiting_of : Lists → ℕ → ℕ → Option Waiting
waiting_of lists owner number = find (is_watch_of owner number) lists.waiting

-- a break with a peer closes what awaits something of it, and drops what its processes watch here
unfoldable pub lost_of : Lists → Address → List Waiting × Lists
lost_of lists peer = (filter (awaits peer) lists.waiting, record lists { waiting = filter (λ waiting. not (awaits peer waiting)) lists.waiting; watched = filter (λ watched. not (same_node watched.watch.node peer)) lists.watched })

-- ---- watches on own processes

-- a watch on an own process is kept
unfoldable pub arrive_of : Lists → ℕ → Ref → Lists
arrive_of lists process watch = record lists { watched = lists.watched ++ record { process = process; watch = watch } ∷ [] }

-- whether that watch was kept; it is no more
unfoldable pub forget_of : Lists → Ref → Bool × Lists
forget_of lists watch = (list_any (λ watched. same_ref watched.watch watch) lists.watched, record lists { watched = filter (λ watched. not (same_ref watched.watch watch)) lists.watched })

-- ---- the end of a process

-- what the end of a process leaves to be told: its names in order of registering, and the watches on it in order of arrival
unfoldable pub ending_of : List Named → List Watched → ℕ → Ending
ending_of names watched process = record { names = map (λ named. named.name) (filter (λ named. named.process == process) names); watches = map (λ watched. watched.watch) (filter (λ watched. watched.process == process) watched) }

-- the end of a process hands out its names and the watches on it, drops both, and closes its own numbers
unfoldable pub ended_of : Lists → ℕ → Ending × Lists
ended_of lists process = (ending_of lists.names lists.watched process, record lists { waiting = filter (λ waiting. not (waiting.owner == process)) lists.waiting; watched = filter (λ watched. not (watched.process == process)) lists.watched; names = filter (λ named. not (named.process == process)) lists.names })

-- ---- names

-- a name that stands for no process is registered
unfoldable pub register_of : Lists → List ℕ → ℕ → Result Lists WatchError
register_of lists name process = if list_any (has_name name) lists.names then Err Taken else Ok (record lists { names = lists.names ++ record { name = name; process = process } ∷ [] })

-- a name falls away, and with it is told the process that it stood for
unfoldable pub unregister_of : Lists → List ℕ → Result (ℕ × Lists) WatchError
unregister_of lists name = do
  named ← there_or NoName (first_that (has_name name) lists.names)
  Ok (named.0.process, record lists { names = named.1 })

-- the process for which a name stands
unfoldable pub find_of : Lists → List ℕ → Option ℕ
find_of lists name = option_map (λ named. named.process) (find (has_name name) lists.names)
