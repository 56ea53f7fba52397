-- Which lines send to another node, and what is counted of them: in the log, and in the host of the sender.
use Rattle.std.specs.Prelude.{◌≡◌, ◌<◌, ◌^◌, ℕ, Bool, true, false, not, ◌&&◌, List, [], ◌∷◌, ◌++◌, length, slice_get, Option, Some, None, Ok, is_some, if◌then◌else◌}
use Rattle.std.specs.Str.{bytes_eq}
use Rattle.ch_wire.specs.declared.frame.Frame.{Frame}
use Rattle.ch_model.specs.declared.entry.Entry.{Entry}
use Rattle.ch_model.specs.declared.entry.Entry.TheVariants as entries
use Rattle.ch_model.specs.declared.line.Line.{Line}
use Rattle.ch_model.specs.declared.line.What.{What}
use Rattle.ch_model.specs.declared.line.What.TheVariants as lines
use Rattle.ch_model.specs.declared.name.TargetName.TheVariants as targets
use Rattle.ch_model.specs.declared.step.Weight.{Weight}
use Rattle.ch_model.specs.declared.step.Weight.TheVariants.{Counted, Free}
use Rattle.ch_model.specs.AnswersCounts.{connections}
use Rattle.ch_model.specs.Life.{is_live}
use Rattle.ch_model.specs.Marks.{done_by}
use Rattle.ch_model.specs.World.{world_new, log_from}
use Rattle.ch_model.specs.HostState.{Link}
use Rattle.ch_model.specs.WorldState.{Cell, World}
use Rattle.ch_race.specs.Pair.{Side, other}
use Rattle.ch_laws_race.specs.Scene.{Party, link_of}
use Rattle.ch_laws_calls.specs.Scenes.{IsPairOf, scene_of}
use Rattle.ch_laws_many.specs.InOrder.{is_answered_where}
use Rattle.ch_laws_peers.specs.Says.{AllSay}
use Rattle.ch_laws_peers.specs.Standing.{Standing}

-- ---- lines

-- a process that lives sends to one of another node
abbrev pub is_of_sends : List Entry → What → Bool
is_of_sends log (lines.Send by (targets.Process to) mark body) = is_live log by && not (bytes_eq by.node to.node)
is_of_sends log what = false

-- such a line has its answer
abbrev pub is_answered_send : List Line → List Entry → Entry → Bool
is_answered_send journal log entry = is_answered_where (is_of_sends log) journal log entry

-- the line sends from x to a process of y
abbrev pub sends_to : List ℕ → List ℕ → What → Bool
sends_to x y (lines.Send by (targets.Process to) mark body) = bytes_eq by.node x && bytes_eq to.node y
sends_to x y what = false

-- the line that this entry marks as done, where it sends from x to y
abbrev pub send_done : List Line → List ℕ → List ℕ → Entry → Option What
send_done journal x y entry = elim (done_by journal entry) [
  | None ↦ None
  | Some what ↦ if sends_to x y what then Some what else None
]

-- ---- counters

-- the counter of a process fits its word of four bytes, and so does that of one to which it sends
abbrev pub IsSmall : What → Type 0
IsSmall (lines.Send by (targets.Process to) mark body) = (by.counter < 2 ^ 32) × (to.counter < 2 ^ 32)
IsSmall what = Unit {0}

abbrev pub AreSmall : List Line → Type 0
AreSmall [] = Unit {0}
AreSmall (line ∷ rest) = IsSmall line.what × AreSmall rest

-- a message is said by and to processes with such counters
abbrev pub SaidSmall : Entry → Type 0
SaidSmall (entries.Said by (targets.Process to) epoch index mark body) = (by.counter < 2 ^ 32) × (to.counter < 2 ^ 32)
SaidSmall entry = Unit {0}

abbrev pub SaysSmall : List Entry → Type 0
SaysSmall [] = Unit {0}
SaysSmall (entry ∷ rest) = SaidSmall entry × SaysSmall rest

-- ---- what a host keeps

-- it waits uncounted, or counted as a message that was said
abbrev pub IsWeighed : Weight → Type 0
IsWeighed Free = Unit {0}
IsWeighed (Counted place) = is_some place ≡ true

abbrev pub AreWeighed : List (Frame × Weight) → Type 0
AreWeighed [] = Unit {0}
AreWeighed (wait ∷ rest) = IsWeighed wait.1 × AreWeighed rest

-- so it is of each link of a host
abbrev pub LinksWeighed : List Link → Type 0
LinksWeighed [] = Unit {0}
LinksWeighed (link ∷ rest) = AreWeighed link.waits × LinksWeighed rest

-- What waits at each host is weighed so; and of each two nodes of the journal, both ways, a link has given one id for each pair of
-- processes that has said something.
pub record AllGive (journal : List Line) (log : List Entry) (world : World) : Type 0 where
  pub weighed : (place : ℕ) (cell : Cell × ℕ) → slice_get world.cells place ≡ Some cell → LinksWeighed cell.0.host.links
  pub level : (party : Side → Party) → IsPairOf journal party → (x : Side) → length (link_of (scene_of party world) x).given ≡ connections log (party x).name (party (other x)).name

-- ---- after each front

-- After any first lines of the journal hosts and nodes stand so, all that was said is carried, and links have given an id for each pair.
abbrev pub FrontsStand : List Line → Type 0
FrontsStand journal = (front rest : List Line) → front ++ rest ≡ journal → (log : List Entry) (world : World) → log_from (world_new journal) front ≡ Ok (log, world) → Standing journal log world × AllSay journal log world × AllGive journal log world
