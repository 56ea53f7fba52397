-- Turns that leave a plain world where what its cell does is plain: the end of an end's input, and an item that is read. What is
-- told of a line of the journal changes no world.
use Rattle.std.proofs.Common.{◌≡◌, ℕ, true, List, [], Ok, refl, sym, ap, ◌∙◌, subst}
use Rattle.std.specs.Prelude.{find, slice_get, Some}
use Rattle.ch_model.specs.declared.entry.Entry.{Entry}
use Rattle.ch_model.specs.declared.entry.Verdict.{Verdict}
use Rattle.ch_model.specs.declared.line.Line.{Line}
use Rattle.ch_model.specs.declared.line.What.{What}
use Rattle.ch_model.specs.declared.local.LocalEntry.{LocalEntry}
use Rattle.ch_model.specs.declared.name.End.{End}
use Rattle.ch_model.specs.declared.step.SocketEvent.TheVariants as sockets
use Rattle.ch_model.specs.declared.step.Step.{Step}
use Rattle.ch_model.specs.CellSteps.{steps_on}
use Rattle.ch_model.specs.Host.{host_next}
use Rattle.ch_model.specs.HostState.{HostState}
use Rattle.ch_model.specs.Marks.{line_numbered}
use Rattle.ch_model.specs.World.{names_of}
use Rattle.ch_model.specs.WorldLines.{can_feed}
use Rattle.ch_model.specs.WorldSockets.{end_of, is_socket_named}
use Rattle.ch_model.specs.WorldState.{Cell, WorldSocket, World}
use Rattle.ch_laws_bytes.specs.Streams.{readers_of, reads_at, first_at, is_over}
use Rattle.ch_laws_bytes.proofs.Lines.{own_of}
use Rattle.ch_laws_calls.specs.Calls.{with_host, IsCalled, IsHeldBy, IsIn, AllRead}
use Rattle.ch_laws_calls.specs.Sound.{Sound}
use Rattle.ch_laws_log.specs.HostEnds.{steps_in}
use Rattle.ch_laws_many.specs.ManyLines.{is_of_many}
use Rattle.ch_laws_calls.specs.FitsTurns.{NoDials}
use Rattle.ch_laws_calls.proofs.FitsTold.{asked_before}
use Rattle.ch_laws_calls.specs.Turns.{told_on}
use Rattle.ch_laws_plain.specs.Plain.{pending_of, CellIsPlain, PlainAt, WorldIsPlain}
use Rattle.ch_laws_plain.specs.Turns.{CellCarries}
use Rattle.ch_laws_plain.proofs.Worlds.{turn_plain}

-- a world of the same cells, names and sockets
pub world_same : (journal : List Line) (world after : World) → after.cells ≡ world.cells → after.names ≡ world.names → after.sockets ≡ world.sockets → WorldIsPlain journal world → WorldIsPlain journal after
world_same journal world after cells names sockets p = record {
  cells = λ place cell at. p.cells place cell (ap (λ (l : List (Cell × ℕ)). slice_get l place) (sym cells) ∙ at);
  ends = λ s socket e found may. subst (λ (l : List (Cell × ℕ)). PlainAt (reads_at (readers_of l) (first_at e) (end_of e socket).cell (end_of e socket).number) (is_over (end_of e socket)) (end_of e socket).unread (pending_of l (end_of e socket).cell (end_of e socket).number)) (sym cells)
      (p.ends s socket e (ap (λ (l : List WorldSocket). find (is_socket_named s) l) (sym sockets) ∙ found) (asked_before journal world after socket socket names refl refl may));
}

pub marked_plain : (journal : List Line) (log : List Entry) (world : World) (number : ℕ) (what : What) (answer : Verdict) → line_numbered journal number ≡ Some what → is_of_many (names_of journal) what ≡ true → Sound journal log world → WorldIsPlain journal world → WorldIsPlain journal world
marked_plain journal log world number what answer line of p j = j

-- where the cell carries its streams on, is plain, and dials nothing
pub ended_plain : (journal : List Line) (log : List Entry) (world : World) (socket : WorldSocket) (which : End) (place n : ℕ) (cell : Cell × ℕ) (steps : List Step) (host : HostState) (told : List LocalEntry) (after : Cell) → IsIn socket world → can_feed which socket ≡ true → (end_of which socket).unread ≡ [] → IsHeldBy place n (end_of which socket)
    → IsCalled world place cell (sockets.Ended n) steps host → steps_on steps (with_host cell host) ≡ Ok (told, after) → AllRead world → Sound journal log world → WorldIsPlain journal world → CellCarries (own_of journal place) cell.0 (steps_in told) after → CellIsPlain after → NoDials (steps_in told) → WorldIsPlain journal (told_on place cell after told world).1
ended_plain journal log world socket which place n cell steps host told after is can none held c follows read p j carries plain alone = turn_plain journal log world place cell told after p.ends.sure p.ends.flowing j c.at alone carries plain

pub item_plain : (journal : List Line) (log : List Entry) (world : World) (place : ℕ) (cell : Cell × ℕ) (steps : List Step) (host : HostState) (told : List LocalEntry) (after : Cell) → slice_get world.cells place ≡ Some cell → host_next cell.0.host ≡ Ok (Some steps, host) → steps_on steps (with_host cell host) ≡ Ok (told, after) → Sound journal log world → WorldIsPlain journal world
    → CellCarries (own_of journal place) cell.0 (steps_in told) after → CellIsPlain after → NoDials (steps_in told) → WorldIsPlain journal (told_on place cell after told world).1
item_plain journal log world place cell steps host told after at does follows p j carries plain alone = turn_plain journal log world place cell told after p.ends.sure p.ends.flowing j at alone carries plain
