-- What more is so of each message that is got: between two nodes it comes over their link, and within a node none that was said is passed over.
use Rattle.std.specs.Prelude.{◌≡◌, ℕ, ◌==◌, Bool, true, false, not, ◌||◌, List, count_by, find, slice_get, Some}
use Rattle.std.specs.Str.{bytes_eq}
use Rattle.ch_model.specs.declared.entry.Entry.{Entry}
use Rattle.ch_model.specs.declared.entry.Entry.TheVariants as entries
use Rattle.ch_model.specs.declared.name.ProcName.{ProcName}
use Rattle.ch_model.specs.declared.name.TargetName.TheVariants as names
use Rattle.ch_model.specs.CellSteps.{is_at}
use Rattle.ch_model.specs.Delivery.{gets_in, gets_over_link}
use Rattle.ch_model.specs.Epochs.{says_in}
use Rattle.ch_model.specs.Logs.{each}
use Rattle.ch_model.specs.Naming.{process_called}
use Rattle.ch_model.specs.NodeIds.{process_id}
use Rattle.ch_model.specs.NodeState.{NodeState}
use Rattle.ch_model.specs.Same.{node_of}
use Rattle.ch_model.specs.WorldState.{Cell, World}
use Rattle.ch_laws_peers.specs.Reads.{gets_of}
use Rattle.ch_laws_messages.specs.MailMail.{is_gone}

-- what was said of the pair, in its first epoch
abbrev pub says_of : ProcName → ProcName → List Entry → ℕ
says_of p q log = count_by (says_in p (names.Process q) 0) log

-- of each two processes of a node, of which the second isn't over, or wasn't made, as much was got as was said
abbrev pub AllGotHome : List Entry → World → Type 0
AllGotHome log world = (place : ℕ) (cell : Cell × ℕ) (end : ℕ) (there : ℕ × NodeState) (i j : ℕ) → slice_get world.cells place ≡ Some cell → find (is_at end) cell.0.nodes ≡ Some there → is_gone (slice_get there.1.mail j) ≡ false
    → gets_of (process_called world.names (process_id there.1 i)) (process_called world.names (process_id there.1 j)) log ≡ says_of (process_called world.names (process_id there.1 i)) (process_called world.names (process_id there.1 j)) log

-- within a node, the messages of its pair and epoch that were got before are those with lower indexes: as many as its index
abbrev pub gets_the_next_within : List Entry → Entry → Bool
gets_the_next_within log (entries.Got by to epoch index receiver) = not (bytes_eq by.node (node_of to)) || (count_by (gets_in by to epoch) log == index)
gets_the_next_within log entry = true

-- so it is within nodes, as long as receivers live; each message within a node is the next; and each between two comes over their link
pub record AllReceived (log : List Entry) (world : World) : Type 0 where
  pub home : AllGotHome log world
  pub within : each gets_the_next_within log ≡ true
  pub over : each gets_over_link log ≡ true
