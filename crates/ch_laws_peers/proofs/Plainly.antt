-- Each turn keeps the log plain, where nothing breaks.
use Rattle.std.proofs.Common.{◌≡◌, ℕ, ◌+◌, true, ◌&&◌, List, [], ◌∷◌, ◌++◌, length, Ok, refl, sym, ap, ◌∙◌}
use Rattle.std.proofs.lemmas.Bool.{and_parts}
use Rattle.std.proofs.lemmas.List.Folds.{list_all-append}
use Rattle.std.specs.List.{list_all}
use Rattle.std.specs.Prelude.{find, slice_get, Some}
use Rattle.ch_model.specs.declared.act.Act.{Act}
use Rattle.ch_model.specs.declared.entry.Entry.{Entry}
use Rattle.ch_model.specs.declared.entry.Entry.TheVariants as entries
use Rattle.ch_model.specs.declared.line.Line.{Line}
use Rattle.ch_model.specs.declared.local.LocalEntry.{LocalEntry}
use Rattle.ch_model.specs.Cell.{room_for}
use Rattle.ch_model.specs.CellSteps.{is_at, with_node, acts_on, told_steps}
use Rattle.ch_model.specs.Node.{node_make, target_node}
use Rattle.ch_model.specs.NodeState.{NodeState}
use Rattle.ch_model.specs.World.{names_of}
use Rattle.ch_model.specs.WorldHappenings.{with_cell}
use Rattle.ch_model.specs.WorldState.{Cell, World}
use Rattle.ch_model.specs.WorldSteps.{all_told}
use Rattle.ch_laws_bytes.specs.Streams.{AreAddresses}
use Rattle.ch_laws_calls.specs.Calls.{Claim, with_host, joined_in, come_in, fed_in}
use Rattle.ch_laws_many.proofs.Reached.{IsJournal}
use Rattle.ch_laws_plain.proofs.AsksCommands.{plain_command}
use Rattle.ch_laws_plain.proofs.AsksTurns.{asks}
use Rattle.ch_laws_plain.specs.HearsTurns.{AllPlainNotes}
use Rattle.ch_laws_plain_logs.specs.Plain.{is_plain, IsPlain}
use Rattle.ch_laws_plain_nodes.specs.Does.{Makes}
use Rattle.ch_laws_plain_nodes.specs.Plain.{IsPlain as IsPlainNode}
use Rattle.ch_laws_plain_nodes.proofs.Calls.{makes, told_does}
use Rattle.ch_laws_plain_nodes.proofs.Commands.{on_command}
use Rattle.ch_laws_plain_nodes.proofs.Steps.{given_so}
use Rattle.ch_laws_calls.specs.Turns.{end_in, KeepsTurns}
use Rattle.ch_laws_raced.specs.UnbrokenBreaks.{is_no_break, NoBreaks}
use Rattle.ch_laws_peers.proofs.Dialed.{Known, item_reads, end_reads}
use Rattle.ch_laws_peers.proofs.Told.{no_notes, told_plain, plain_told}

-- what is told behind a log that has no break has none
calm_behind : (log more : List Entry) → NoBreaks (log ++ more) → NoBreaks more
calm_behind log more b = (and_parts (list_all is_no_break log) (list_all is_no_break more) (sym (list_all-append is_no_break log more) ∙ b)).1

-- plain entries behind a plain log
plain_behind : (log more : List Entry) → IsPlain log → list_all is_plain more ≡ true → IsPlain (log ++ more)
plain_behind log more one two = list_all-append is_plain log more ∙ ap (λ b. b && list_all is_plain more) one ∙ two

-- what a turn of a cell tells, behind what its line tells first
turn_behind : (place : ℕ) (cell : Cell) (told : List LocalEntry) (world : World) (log : List Entry) (first : List Entry) → list_all is_plain first ≡ true → AllPlainNotes told → IsPlain log → NoBreaks (log ++ (first ++ (all_told place cell told world).0)) → IsPlain (log ++ (first ++ (all_told place cell told world).0))
turn_behind place cell told world log first plain notes p b = plain_behind log (first ++ (all_told place cell told world).0) p
    (plain_behind first (all_told place cell told world).0 plain (told_plain place cell told world notes (calm_behind first (all_told place cell told world).0 (calm_behind log (first ++ (all_told place cell told world).0) b))))

-- the node of a cell of a plain world
its_plain : (journal : List Line) (log : List Entry) (world : World) (place : ℕ) (cell : Cell × ℕ) (end number : ℕ) (node : NodeState) → slice_get world.cells place ≡ Some cell → find (is_at end) cell.0.nodes ≡ Some (number, node) → Known journal log world → IsPlainNode node
its_plain journal log world place cell end number node at there k = ((k.1.1.cells place cell at).nodes end (number, node) there).plain

made_notes : (node : NodeState) (end : ℕ) (cell : Cell) (acts : List Act) (next : NodeState) (told : List LocalEntry) (after : Cell) → IsPlainNode node → node_make node ≡ Ok (acts, next) → acts_on end acts cell ≡ Ok (told, after) → AllPlainNotes told
made_notes node end cell acts next told after plain does all = plain_told node.own end acts cell told after (told_does node acts next made.tells).did all where
  made : Makes node acts next
  made = given_so (Makes node) (node_make node) acts next (makes node plain) does

-- nothing breaks in the log
abbrev pub Unbroken : Claim
Unbroken log world = NoBreaks log

pub plainly_kept : (journal : List Line) → IsJournal journal → AreAddresses (names_of journal) → KeepsTurns journal (Known journal) Unbroken (λ log world. IsPlain log)
plainly_kept journal j addresses = record {
  marked = λ log world number what answer line of k p b. plain_behind log (entries.Line number answer ∷ []) p refl;
  made = λ log world place cell end number node acts next told after at there does all k p b. turn_behind place after told (with_cell place (after, cell.1) world) log [] refl (made_notes node end (with_node end next cell.0) acts next told after (its_plain journal log world place cell end number node at there k) does all) p b;
  asked = λ log world what by command place cell number node acts next told after line at there does all k p b. turn_behind place after told (with_cell place (after, cell.1) world) log [] refl
      (plain_told node.own (end_in world by) acts (with_node (end_in world by) next cell.0) told after
      (on_command node next by.counter command (room_for cell.0.host (end_in world by) node.own (target_node node by.counter command)) acts (its_plain journal log world place cell (end_in world by) number node at there k)
      (plain_command world.names command (asks journal log world k.0.0.sound k.1.1 place cell at (k.0.1 place cell at).0 addresses what by command line).sends) does).did all) p b;
  joined = λ log world socket place n cell steps host is can held called read k p b. turn_behind place (with_host cell host) (told_steps steps) (with_cell place (with_host cell host, cell.1) (joined_in socket world)) log (entries.Joined socket.name ∷ []) refl (no_notes steps) p b;
  came = λ log world socket place cell steps host is can at called read k p b. turn_behind place (with_host (cell.0, cell.1 + 1) host) (told_steps steps) (with_cell place (with_host (cell.0, cell.1 + 1) host, cell.1 + 1) (come_in place cell socket world)) log (entries.Came socket.name ∷ []) refl (no_notes steps) p b;
  fed = λ log world socket which count first bytes place n cell steps host is can taken held called read k p b. turn_behind place (with_host cell host) (told_steps steps) (with_cell place (with_host cell host, cell.1) (fed_in which count socket world)) log (entries.Fed socket.name which (length (first ∷ bytes)) ∷ []) refl (no_notes steps) p b;
  ended = λ log world socket which place n cell steps host told after is can none held called all read k p b. turn_behind place after told (with_cell place (after, cell.1) world) log (entries.Fed socket.name which 0 ∷ []) refl (end_reads journal j addresses log world place n cell steps host told after called.at called.does all k).notes p b;
  item = λ log world place cell steps host told after at does all k p b. turn_behind place after told (with_cell place (after, cell.1) world) log [] refl (item_reads journal j addresses log world place cell steps host told after at does all k).notes p b;
}
