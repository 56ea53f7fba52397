-- Nothing that happens in a journal of many nodes is a stranger's knock.
use Rattle.std.proofs.Common.{ℕ, ◌+◌, Bool, ◌&&◌, List, [], ◌∷◌, ◌++◌, length, refl, ap, ◌∙◌}
use Rattle.std.proofs.lemmas.List.Folds.{list_all-append}
use Rattle.std.specs.List.{list_all}
use Rattle.std.specs.Prelude.{Option, Some, None}
use Rattle.ch_model.specs.declared.entry.Entry.{Entry}
use Rattle.ch_model.specs.declared.entry.Entry.TheVariants as entries
use Rattle.ch_model.specs.declared.line.Line.{Line}
use Rattle.ch_model.specs.declared.local.LocalEntry.{LocalEntry}
use Rattle.ch_model.specs.declared.local.LocalEntry.TheVariants as local
use Rattle.ch_model.specs.declared.name.End.{End}
use Rattle.ch_model.specs.declared.name.SockName.{SockName}
use Rattle.ch_model.specs.declared.note.Note.{Note}
use Rattle.ch_model.specs.declared.note.Note.TheVariants as notes
use Rattle.ch_model.specs.declared.step.Place.{Place}
use Rattle.ch_model.specs.declared.step.Step.{Step}
use Rattle.ch_model.specs.declared.step.Step.TheVariants as steps
use Rattle.ch_model.specs.CellSteps.{told_steps}
use Rattle.ch_model.specs.HostState.{HostState}
use Rattle.ch_model.specs.Naming.{Names}
use Rattle.ch_model.specs.WorldHappenings.{with_cell}
use Rattle.ch_model.specs.WorldSockets.{other, item_arrives, with_end_of, find_end}
use Rattle.ch_model.specs.WorldState.{Cell, World}
use Rattle.ch_model.specs.WorldSteps.{note_entry, on_end, reads_item, end_closes, local_told, all_told}
use Rattle.ch_laws_calls.specs.Calls.{Anything, KeepsCalls, with_host, done_at, joined_in, come_in, fed_in}
use Rattle.ch_laws_calls.specs.ScenesKnocks.{is_unknocked, Unknocked}

both_quiet : (xs ys : List Entry) → Unknocked xs → Unknocked ys → Unknocked (xs ++ ys)
both_quiet xs ys a b = list_all-append is_unknocked xs ys ∙ ap (λ (t : Bool). t && list_all is_unknocked ys) a ∙ b

note_quiet : (known : Names) (last : Option Place) (note : Note) → Unknocked (note_entry known last note ∷ [])
note_quiet known last (notes.Made process origin) = refl
note_quiet known last note = refl

end_quiet : (place sock : ℕ) (f : SockName × End → World → List Entry × World) (world : World) → ((at : SockName × End) → Unknocked (f at world).0) → Unknocked (on_end place sock f world).0
end_quiet place sock f world each = by_end (find_end place sock world.sockets) where
  by_end : (o : Option (SockName × End)) → Unknocked (elim o as (λ o. List Entry × World) [
    | None ↦ ([], world)
    | Some at ↦ f at world
  ]).0
  by_end None = refl
  by_end (Some at) = each at

one_quiet : (place : ℕ) (cell : Cell) (entry : LocalEntry) (world : World) → Unknocked (local_told place cell entry world).0
one_quiet place cell (local.Note note) world = note_quiet world.names world.last note
one_quiet place cell (local.Step (steps.Dial sock end peer)) world = refl
one_quiet place cell (local.Step (steps.Read sock)) world = end_quiet place sock reads_item world (λ at. refl)
one_quiet place cell (local.Step (steps.Write sock bytes said)) world = end_quiet place sock (λ at now. (entries.Wrote at.0 at.1 bytes ∷ [], with_end_of at.0 (other at.1) (item_arrives bytes said) now)) world (λ at. refl)
one_quiet place cell (local.Step (steps.Up sock)) world = end_quiet place sock (λ at now. (entries.Up at.0 at.1 ∷ [], now)) world (λ at. refl)
one_quiet place cell (local.Step (steps.Down sock)) world = end_quiet place sock (λ at now. (entries.Down at.0 at.1 ∷ [], end_closes at now)) world (λ at. refl)
one_quiet place cell (local.Step (steps.Left sock)) world = end_quiet place sock (λ at now. (entries.Left at.0 at.1 ∷ [], end_closes at now)) world (λ at. refl)
one_quiet place cell (local.Step (steps.Broke end peer why)) world = refl
one_quiet place cell (local.Step (steps.Post end event)) world = refl

told_quiet : (place : ℕ) (cell : Cell) (told : List LocalEntry) (world : World) → Unknocked (all_told place cell told world).0
told_quiet place cell [] world = refl
told_quiet place cell (entry ∷ rest) world = both_quiet (local_told place cell entry world).0 (all_told place cell rest (local_told place cell entry world).1).0 (one_quiet place cell entry world) (told_quiet place cell rest (local_told place cell entry world).1)

done_quiet : (place : ℕ) (cell : Cell × ℕ) (told : List Step) (host : HostState) (world : World) → Unknocked (done_at place cell told host world).0
done_quiet place cell told host world = told_quiet place (with_host cell host) (told_steps told) (with_cell place (with_host cell host, cell.1) world)

pub unknocked_kept : (journal : List Line) → KeepsCalls journal Anything Anything (λ log world. Unknocked log)
unknocked_kept journal = record {
  marked = λ log world number answer p j q. both_quiet log (entries.Line number answer ∷ []) j refl;
  noted = λ log world note p j q. both_quiet log (note_entry world.names world.last note ∷ []) j (note_quiet world.names world.last note);
  seated = λ log world place cell nodes at seats p j q. j;
  connected = λ log world place cell end peer conn told host at does p j q. both_quiet log (done_at place cell told host world).0 j (done_quiet place cell told host world);
  sent = λ log world place cell end conn payload weight told host at does p j q. both_quiet log (done_at place cell told host world).0 j (done_quiet place cell told host world);
  closed = λ log world place cell end conn told host at does p j q. both_quiet log (done_at place cell told host world).0 j (done_quiet place cell told host world);
  joined = λ log world socket place n cell told host is can held called read p j q. both_quiet log (entries.Joined socket.name ∷ (done_at place cell told host (joined_in socket world)).0) j (done_quiet place cell told host (joined_in socket world));
  came = λ log world socket place cell told host is can to called read p j q. both_quiet log (entries.Came socket.name ∷ (done_at place (cell.0, cell.1 + 1) told host (come_in place cell socket world)).0) j (done_quiet place (cell.0, cell.1 + 1) told host (come_in place cell socket world));
  fed = λ log world socket which count b bytes place n cell told host is can some held called read p j q. both_quiet log (entries.Fed socket.name which (length (b ∷ bytes)) ∷ (done_at place cell told host (fed_in which count socket world)).0) j (done_quiet place cell told host (fed_in which count socket world));
  ended = λ log world socket which place n cell told host is can none held called read p j q. both_quiet log (entries.Fed socket.name which 0 ∷ (done_at place cell told host world).0) j (done_quiet place cell told host world);
  item = λ log world place cell told host at does p j q. both_quiet log (done_at place cell told host world).0 j (done_quiet place cell told host world);
}
