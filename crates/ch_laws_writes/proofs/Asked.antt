-- After any lines each request of the log is from an address that the opener's name stands for.
use Rattle.std.proofs.Common.{◌≡◌, ◌≤◌, ℕ, ◌+◌, ◌*◌, Bool, true, false, cond, ◌&&◌, List, [], ◌∷◌, ◌++◌, drop, length, take, Ok, refl, sym, ap, ◌∙◌, subst, append_assoc, arith}
use Rattle.std.proofs.lemmas.Bool.Decides.{nat_tests}
use Rattle.std.proofs.lemmas.List.{append-nil}
use Rattle.std.specs.Prelude.{find, is_some, slice_get, slice_set, Option, Some, None, ◌==◌}
use Rattle.std.specs.Option.{option_map}
use Rattle.std.specs.Str.{bytes_eq}
use Rattle.ch_base.specs.declared.address.Address.{Address}
use Rattle.ch_wire.specs.Spelling.{answer_spelling}
use Rattle.ch_wire.specs.declared.answer.Answer.TheVariants.{Accepted}
use Rattle.ch_model.specs.declared.entry.Entry.{Entry}
use Rattle.ch_model.specs.declared.entry.Entry.TheVariants as entries
use Rattle.ch_model.specs.declared.entry.Verdict.{Verdict}
use Rattle.ch_model.specs.declared.line.Line.{Line}
use Rattle.ch_model.specs.declared.local.LocalEntry.{LocalEntry}
use Rattle.ch_model.specs.declared.local.LocalEntry.TheVariants as local
use Rattle.ch_model.specs.declared.local.LocalEvent.{LocalEvent}
use Rattle.ch_model.specs.declared.local.LocalEvent.TheVariants as events
use Rattle.ch_model.specs.declared.name.End.{End}
use Rattle.ch_model.specs.declared.name.End.TheVariants.{O, T}
use Rattle.ch_model.specs.declared.name.SockName.{SockName}
use Rattle.ch_model.specs.declared.note.Note.{Note}
use Rattle.ch_model.specs.declared.note.Note.TheVariants as notes
use Rattle.ch_model.specs.declared.step.Place.{Place}
use Rattle.ch_model.specs.declared.step.Step.{Step}
use Rattle.ch_model.specs.declared.step.Step.TheVariants as steps
use Rattle.ch_model.specs.Cell.{cell_step}
use Rattle.ch_model.specs.HostState.{Socket}
use Rattle.ch_model.specs.HostSteps.{is_socket, own_address}
use Rattle.ch_model.specs.Naming.{Names, called, address_as}
use Rattle.ch_model.specs.Sockets.{writings}
use Rattle.ch_model.specs.Stages.{Stage, Pending, is_pending}
use Rattle.ch_model.specs.World.{names_of, world_new, log_from}
use Rattle.ch_model.specs.WorldHappenings.{with_cell}
use Rattle.ch_model.specs.WorldSockets.{end_of, other, with_end, opened, cut, arrives, same_number, ended, item_arrives, end_of_nobody, is_socket_named, store_in, with_socket, with_end_of, is_end_of, find_end, cell_of, target_end, new_socket}
use Rattle.ch_model.specs.WorldState.{Cell, WorldEnd, WorldSocket, World}
use Rattle.ch_model.specs.WorldSteps.{note_entry, on_end, later_places, item_is_read, reads_item, end_closes, stepped, local_told, all_told}
use Rattle.ch_laws_log.specs.HostEnds.{stage_at, IsNewTo, AreNewTo, steps_in}
use Rattle.ch_laws_log.proofs.Agreeing.{Good, AnyCount, keeps_good, with_end_is}
use Rattle.ch_laws_log.proofs.Kept.{one_told, stranger_socket, IsIn}
use Rattle.ch_laws_log.proofs.Stored.{next_is_new}
use Rattle.ch_laws_writes.specs.Dues.{Due, Asking, Answering, Framing, due_of, due_at, due_past, due_after, due_after_all, due_told, IsDue, WritesDue, AllDue}
use Rattle.ch_laws_writes.specs.Orderly.{WritesOn, ComesNewTo}
use Rattle.ch_laws_writes.specs.Writings.{AsksByName, EachAsksByName}
use Rattle.ch_laws_writes.proofs.CellEnds.{Stages, TellsFrom, cell_tells}
use Rattle.ch_laws_writes.proofs.Cells.{cell_writes}
use Rattle.ch_laws_writes.proofs.Dues.{Dues}
use Rattle.ch_laws_writes.proofs.Found.{KeepsPlace, or_new, new_found, same_found}
use Rattle.ch_laws_writes.proofs.Logs.{Written, WrittenMid, note_quiet, same_fits, same_due, none_of, keeps_written, fresh_written, opened_keeps, cut_keeps, fed_keeps}
use Rattle.ch_laws_writes.proofs.Runs.{Keeps, comes_none, after_all}
use Rattle.ch_laws_writes.proofs.Walks.{SameEnds, same_sockets, kept_same, Quiet, quiet_entry, quiet_none, end_quiet, read_quiet, Walk, step_walk, walk_quiet, ended_keeps, arrives_keeps, item_keeps, new_same, over_less}
use Rattle.ch_laws_writes.proofs.Worlds.{got_set, got_other, number_is, number_same, numbers_differ, end_cells, all_cells, CellFits, nothing_new, no_more, come_new, come_end, holds_after}
use Rattle.ch_laws_writes.proofs.Written.{FitsDue}

-- ---- names

end_names : (s : SockName) (e : End) (f : WorldEnd → WorldEnd) (world : World) → (with_end_of s e f world).names ≡ world.names
end_names s e f world = by_socket (find (is_socket_named s) world.sockets) where
  by_socket : (o : Option WorldSocket) → (elim o as (λ o. World) [
    | None ↦ world
    | Some socket ↦ with_socket (with_end e (f (end_of e socket)) socket) world
  ]).names ≡ world.names
  by_socket None = refl
  by_socket (Some socket) = refl

on_end_names : (place sock : ℕ) (f : SockName × End → World → List Entry × World) (world : World) → ((at : SockName × End) → (f at world).1.names ≡ world.names) → (on_end place sock f world).1.names ≡ world.names
on_end_names place sock f world each = by_end (find_end place sock world.sockets) where
  by_end : (o : Option (SockName × End)) → (elim o as (λ o. List Entry × World) [
    | None ↦ ([], world)
    | Some at ↦ f at world
  ]).1.names ≡ world.names
  by_end None = refl
  by_end (Some at) = each at

read_names : (at : SockName × End) (o : Option WorldSocket) (world : World) → (item_is_read at o world).names ≡ world.names
read_names at None world = refl
read_names at (Some socket) world = end_names at.0 at.1 (λ end. record end { places = later_places end.places }) world

step_names : (place : ℕ) (cell : Cell) (step : Step) (world : World) → (stepped place cell step world).1.names ≡ world.names
step_names place cell (steps.Dial sock end peer) world = refl
step_names place cell (steps.Read sock) world = on_end_names place sock reads_item world (λ at. read_names at (find (is_socket_named at.0) world.sockets) world)
step_names place cell (steps.Write sock bytes said) world = on_end_names place sock (λ at now. (entries.Wrote at.0 at.1 bytes ∷ [], with_end_of at.0 (other at.1) (item_arrives bytes said) now)) world (λ at. end_names at.0 (other at.1) (item_arrives bytes said) world)
step_names place cell (steps.Up sock) world = on_end_names place sock (λ at now. (entries.Up at.0 at.1 ∷ [], now)) world (λ at. refl)
step_names place cell (steps.Down sock) world = on_end_names place sock (λ at now. (entries.Down at.0 at.1 ∷ [], end_closes at now)) world (λ at. end_names at.0 at.1 ended world)
step_names place cell (steps.Left sock) world = on_end_names place sock (λ at now. (entries.Left at.0 at.1 ∷ [], end_closes at now)) world (λ at. end_names at.0 at.1 ended world)
step_names place cell (steps.Broke end peer why) world = refl
step_names place cell (steps.Post end event) world = refl

-- ---- who asks

-- the name of each end at which a request is due stands for the address that asks
abbrev Called : Names → (ℕ → Address) → Dues → ℕ → List WorldSocket → Type 0
Called known own d place sockets = (n end : ℕ) (peer : Address) (at : SockName × End) → d n ≡ Some (Asking end peer) → find_end place n sockets ≡ Some at → called known (own end) ≡ at.0.from

asks_more : (known : Names) (before log : List Entry) (x : Entry) → EachAsksByName known before log → AsksByName known (before ++ log) x → EachAsksByName known before (log ++ x ∷ [])
asks_more known before [] x a w = (subst (λ (l : List Entry). AsksByName known l x) (append-nil before) w, tt)
asks_more known before (first ∷ rest) x a w = (a.0, asks_more known (before ++ first ∷ []) rest x a.1 (subst (λ (l : List Entry). AsksByName known l x) (sym (append_assoc before (first ∷ []) rest)) w))

record Asks (known : Names) (own : ℕ → Address) (place : ℕ) (d : Dues) (log : List Entry) (world : World) : Type 0 where
  names : world.names ≡ known
  each : EachAsksByName known [] log
  here : Called known own d place world.sockets
  others : (p : ℕ) (cell : Cell × ℕ) → (place == p) ≡ false → slice_get world.cells p ≡ Some cell → Called known (own_address cell.0.host) (due_at cell.0.host) p world.sockets

-- where the same ends are found
asks_same : (known : Names) (own : ℕ → Address) (place : ℕ) (d e : Dues) (log now : List Entry) (one two : World) → SameEnds one two → two.names ≡ one.names → EachAsksByName known [] now → ((n end : ℕ) (peer : Address) → e n ≡ Some (Asking end peer) → d n ≡ Some (Asking end peer)) → Asks known own place d log one → Asks known own place e now two
asks_same known own place d e log now one two same names each less a = record {
  names = names ∙ a.names;
  each = each;
  here = λ n end peer at is found. a.here n end peer at (less n end peer is) (sym (same.ends place n) ∙ found);
  others = λ p cell off there n end peer at is found. a.others p cell off (ap (λ (cells : List (Cell × ℕ)). slice_get cells p) (sym same.cells) ∙ there) n end peer at is (sym (same.ends p n) ∙ found);
}

-- ---- steps

abbrev IsQuietStep : Step → Type 0
IsQuietStep (steps.Dial sock end peer) = ⊥
IsQuietStep (steps.Write sock bytes said) = ⊥
IsQuietStep step = Unit {0}

step_quiet : (log : List Entry) (place : ℕ) (cell : Cell) (step : Step) (world : World) → IsQuietStep step → Quiet log world (log ++ (stepped place cell step world).0) (stepped place cell step world).1
step_quiet log place cell (steps.Dial sock end peer) world q = absurd q
step_quiet log place cell (steps.Read sock) world q = end_quiet log place sock reads_item world (λ at. read_quiet log at world)
step_quiet log place cell (steps.Write sock bytes said) world q = absurd q
step_quiet log place cell (steps.Up sock) world q = end_quiet log place sock (λ at now. (entries.Up at.0 at.1 ∷ [], now)) world (λ at. quiet_entry log (entries.Up at.0 at.1) world world (same_sockets world world refl refl) (λ s e. refl) tt refl)
step_quiet log place cell (steps.Down sock) world q = end_quiet log place sock (λ at now. (entries.Down at.0 at.1 ∷ [], end_closes at now)) world (λ at. quiet_entry log (entries.Down at.0 at.1) world (end_closes at world) (kept_same at.0 at.1 ended world ended_keeps) (λ s e. refl) tt refl)
step_quiet log place cell (steps.Left sock) world q = end_quiet log place sock (λ at now. (entries.Left at.0 at.1 ∷ [], end_closes at now)) world (λ at. quiet_entry log (entries.Left at.0 at.1) world (end_closes at world) (kept_same at.0 at.1 ended world ended_keeps) (λ s e. refl) tt refl)
step_quiet log place cell (steps.Broke end peer why) world q = quiet_entry log _ world world (same_sockets world world refl refl) (λ s e. refl) tt refl
step_quiet log place cell (steps.Post end event) world q = quiet_none log world world (same_sockets world world refl refl)

end_asks : (known : Names) (log : List Entry) (place sock : ℕ) (f : SockName × End → World → List Entry × World) (world : World) → EachAsksByName known [] log → ((at : SockName × End) → EachAsksByName known [] (log ++ (f at world).0)) → EachAsksByName known [] (log ++ (on_end place sock f world).0)
end_asks known log place sock f world a each = by_end (find_end place sock world.sockets) where
  by_end : (o : Option (SockName × End)) → EachAsksByName known [] (log ++ (elim o as (λ o. List Entry × World) [
    | None ↦ ([], world)
    | Some at ↦ f at world
  ]).0)
  by_end None = subst (λ (l : List Entry). EachAsksByName known [] l) (sym (append-nil log)) a
  by_end (Some at) = each at

step_asks : (known : Names) (log : List Entry) (place : ℕ) (cell : Cell) (step : Step) (world : World) → IsQuietStep step → EachAsksByName known [] log → EachAsksByName known [] (log ++ (stepped place cell step world).0)
step_asks known log place cell (steps.Dial sock end peer) world q a = absurd q
step_asks known log place cell (steps.Read sock) world q a = end_asks known log place sock reads_item world a (λ at. subst (λ (l : List Entry). EachAsksByName known [] l) (sym (append-nil log)) a)
step_asks known log place cell (steps.Write sock bytes said) world q a = absurd q
step_asks known log place cell (steps.Up sock) world q a = end_asks known log place sock (λ at now. (entries.Up at.0 at.1 ∷ [], now)) world a (λ at. asks_more known [] log (entries.Up at.0 at.1) a tt)
step_asks known log place cell (steps.Down sock) world q a = end_asks known log place sock (λ at now. (entries.Down at.0 at.1 ∷ [], end_closes at now)) world a (λ at. asks_more known [] log (entries.Down at.0 at.1) a tt)
step_asks known log place cell (steps.Left sock) world q a = end_asks known log place sock (λ at now. (entries.Left at.0 at.1 ∷ [], end_closes at now)) world a (λ at. asks_more known [] log (entries.Left at.0 at.1) a tt)
step_asks known log place cell (steps.Broke end peer why) world q a = asks_more known [] log _ a tt
step_asks known log place cell (steps.Post end event) world q a = subst (λ (l : List Entry). EachAsksByName known [] l) (sym (append-nil log)) a

step_less : (d : Dues) (step : Step) → IsQuietStep step → (n end : ℕ) (peer : Address) → due_after n step (d n) ≡ Some (Asking end peer) → d n ≡ Some (Asking end peer)
step_less d (steps.Dial sock end peer) q n e p is = absurd q
step_less d (steps.Write sock bytes said) q n e p is = absurd q
step_less d (steps.Read sock) q n e p is = is
step_less d (steps.Up sock) q n e p is = is
step_less d (steps.Down sock) q n e p is = over_less d sock n (Asking e p) is
step_less d (steps.Left sock) q n e p is = over_less d sock n (Asking e p) is
step_less d (steps.Broke end peer why) q n e p is = is
step_less d (steps.Post end event) q n e p is = is

quiet_asks : (known : Names) (own : ℕ → Address) (place : ℕ) (cell : Cell) (step : Step) (world : World) (log : List Entry) (d : Dues) → IsQuietStep step → Asks known own place d log world → Asks known own place (λ n. due_after n step (d n)) (log ++ (stepped place cell step world).0) (stepped place cell step world).1
quiet_asks known own place cell step world log d q a = asks_same known own place d (λ n. due_after n step (d n)) log (log ++ (stepped place cell step world).0) world (stepped place cell step world).1 (step_quiet log place cell step world q).same (step_names place cell step world) (step_asks known log place cell step world q a.each) (step_less d step q) a

-- a dial is of an end whose name stands for the address that will ask
dial_asks : (known : Names) (own : ℕ → Address) (place sock end : ℕ) (peer : Address) (peer_name from_host : List ℕ) (world : World) (log : List Entry) (d : Dues) → find (is_socket_named (new_socket world (called world.names (own end)) peer_name from_host (end_of_nobody (Some place) (Some sock) Pending) peer).name) world.sockets ≡ None → find_end place sock world.sockets ≡ None → Asks known own place d log world
    → Asks known own place (λ n. cond (sock == n) (Some (Asking end peer)) (d n)) (log ++ entries.Dial (new_socket world (called world.names (own end)) peer_name from_host (end_of_nobody (Some place) (Some sock) Pending) peer).name ∷ []) (with_socket (new_socket world (called world.names (own end)) peer_name from_host (end_of_nobody (Some place) (Some sock) Pending) peer) world)
dial_asks known own place sock end peer peer_name from_host world log d none free a = record {
  names = a.names;
  each = asks_more known [] log (entries.Dial new.name) a.each tt;
  here = λ n e p at is found. by_number n e p at (sock == n) refl is found;
  others = λ p cell off there n e q at is found. a.others p cell off there n e q at is (sym (elsewhere p n (ap (λ b. b && (sock == n)) off)) ∙ found);
} where
  new : WorldSocket
  new = new_socket world (called world.names (own end)) peer_name from_host (end_of_nobody (Some place) (Some sock) Pending) peer

  number : new.t.number ≡ None
  number = by_cell (cell_of world peer) where
    by_cell : (o : Option ℕ) → (target_end o).number ≡ None
    by_cell None = refl
    by_cell (Some place) = refl

  elsewhere : (p n : ℕ) → ((place == p) && (sock == n)) ≡ false → find_end p n (store_in new world.sockets) ≡ find_end p n world.sockets
  elsewhere p n off = new_same p n new world.sockets none number off

  there_now : find_end place sock (store_in new world.sockets) ≡ Some (new.name, O)
  there_now = new_found place sock new world.sockets none ∙ ap (or_new new place sock) free ∙ ap (λ (e : Option End). elim e as (λ x. Option (SockName × End)) [
    | Some end ↦ Some (new.name, end)
    | None ↦ None
  ]) (ap (λ b. cond b (Some O) (cond (is_end_of place sock new.t) (Some T) None)) (ap (λ b. b && (sock == sock)) (number_same place) ∙ number_same sock))

  by_number : (n e : ℕ) (p : Address) (at : SockName × End) (b : Bool) → (sock == n) ≡ b → cond b (Some (Asking end peer)) (d n) ≡ Some (Asking e p) → find_end place n (store_in new world.sockets) ≡ Some at → called known (own e) ≡ at.0.from
  by_number n e p at true h is found =
      let which : end ≡ e = cc in
      let both : ◌≡◌ {A = Option (SockName × End)} (Some (new.name, O)) (Some at) = sym there_now ∙ ap (λ (m : ℕ). find_end place m (store_in new world.sockets)) (number_is sock n h) ∙ found in
      let one : (new.name, O) ≡ at = cc in
      ap (λ (m : ℕ). called known (own m)) (sym which) ∙ ap (λ (k : Names). called k (own end)) (sym a.names) ∙ ap (λ (z : SockName × End). z.0.from) one
  by_number n e p at false h is found = a.here n e p at is (sym (elsewhere place n (ap (λ b. b && (sock == n)) (number_same place) ∙ h)) ∙ found)

-- what is written is no request again
no_request : (bytes : List ℕ) (due : Option Due) (end : ℕ) (peer : Address) → due_past bytes due ≡ Some (Asking end peer) → ⊥
no_request bytes None end peer e = absurd cc
no_request bytes (Some (Asking x y)) end peer e = absurd cc
no_request bytes (Some Answering) end peer e = by_test (bytes_eq bytes (answer_spelling Accepted)) e where
  by_test : (b : Bool) → ◌≡◌ {A = Option Due} (cond b (Some Framing) None) (Some (Asking end peer)) → ⊥
  by_test true e = absurd cc
  by_test false e = absurd cc
no_request bytes (Some Framing) end peer e = absurd cc

write_asks : (known : Names) (own : ℕ → Address) (place sock : ℕ) (bytes : List ℕ) (said : Option Place) (world : World) (log : List Entry) (d : Dues) (st : Stages) → IsDue own (d sock) bytes → Walk place d st log world → Asks known own place d log world → (o : Option (SockName × End)) → find_end place sock world.sockets ≡ o
    → Asks known own place (λ n. cond (sock == n) (due_past bytes (d n)) (d n)) (log ++ (elim o as (λ o. List Entry × World) [
      | None ↦ ([], world)
      | Some at ↦ (entries.Wrote at.0 at.1 bytes ∷ [], with_end_of at.0 (other at.1) (item_arrives bytes said) world)
    ]).0) (elim o as (λ o. List Entry × World) [
      | None ↦ ([], world)
      | Some at ↦ (entries.Wrote at.0 at.1 bytes ∷ [], with_end_of at.0 (other at.1) (item_arrives bytes said) world)
    ]).1
write_asks known own place sock bytes said world log d st due w a None none = subst (λ (l : List Entry). Asks known own place (λ n. cond (sock == n) (due_past bytes (d n)) (d n)) l world) (sym (append-nil log))
    (asks_same known own place d (λ n. cond (sock == n) (due_past bytes (d n)) (d n)) log log world world (same_sockets world world refl refl) refl a.each (λ n e p is. by_number n e p (sock == n) is) a) where
      by_number : (n e : ℕ) (p : Address) (b : Bool) → cond b (due_past bytes (d n)) (d n) ≡ Some (Asking e p) → d n ≡ Some (Asking e p)
      by_number n e p true is = absurd (no_request bytes (d n) e p is)
      by_number n e p false is = is
write_asks known own place sock bytes said world log d st due w a (Some at) found = asks_same known own place d (λ n. cond (sock == n) (due_past bytes (d n)) (d n)) log (log ++ entries.Wrote at.0 at.1 bytes ∷ []) world (with_end_of at.0 (other at.1) (item_arrives bytes said) world)
    (kept_same at.0 (other at.1) (item_arrives bytes said) world (item_keeps bytes said)) (end_names at.0 (other at.1) (item_arrives bytes said) world) (asks_more known [] log (entries.Wrote at.0 at.1 bytes) a.each (by_due (d sock) refl due)) (λ n e p is. by_number n e p (sock == n) is) a where
      by_number : (n e : ℕ) (p : Address) (b : Bool) → cond b (due_past bytes (d n)) (d n) ≡ Some (Asking e p) → d n ≡ Some (Asking e p)
      by_number n e p true is = absurd (no_request bytes (d n) e p is)
      by_number n e p false is = is

      begun : (pieces : List (List ℕ)) → FitsDue Framing O pieces → (length pieces == 0) ≡ true → ⊥
      begun [] f e = f
      begun (piece ∷ rest) f e = let no : true ≡ false = sym e ∙ not_empty in absurd cc where
        not_empty : (length (piece ∷ rest) == 0) ≡ false
        not_empty = grind (arith, nat_tests)

      by_end : (which : End) (x : Due) → FitsDue x which (writings log at.0 which) → IsDue own (Some x) bytes → ((end : ℕ) (peer : Address) → x ≡ Asking end peer → called known (own end) ≡ at.0.from) → AsksByName known log (entries.Wrote at.0 which bytes)
      by_end T x f due name = tt
      by_end O (Asking end peer) f due name = λ empty. (record { target = peer.id; from = own end }, due, name end peer refl)
      by_end O Answering f due name = let no : O ≡ T = f.0 in absurd cc
      by_end O Framing f due name = λ empty. absurd (begun (writings log at.0 O) f empty)

      by_due : (o : Option Due) → d sock ≡ o → IsDue own o bytes → AsksByName known log (entries.Wrote at.0 at.1 bytes)
      by_due None is due = absurd due
      by_due (Some x) is due = by_end at.1 x (w.here sock x at is found) due (λ end peer same. a.here sock end peer at (is ∙ ap Some same) found)

step_asked : (known : Names) (own : ℕ → Address) (journal : List Line) (place : ℕ) (cell : Cell) (step : Step) (world : World) (log : List Entry) (d : Dues) (st : Stages) → ((end : ℕ) → own_address cell.host end ≡ own end) → Good journal log world → ((n : ℕ) → WritesDue own n step (d n)) → ((n : ℕ) → IsNewTo n step (st n)) → Walk place d st log world → Asks known own place d log world
    → Asks known own place (λ n. due_after n step (d n)) (log ++ (stepped place cell step world).0) (stepped place cell step world).1
step_asked known own journal place cell (steps.Dial sock end peer) world log d st same g due new w a =
    subst (λ (x : Address). Asks known own place (λ n. cond (sock == n) (Some (Asking end peer)) (d n)) (log ++ entries.Dial (new_socket world (called world.names x) (called world.names peer) cell.host.host (end_of_nobody (Some place) (Some sock) Pending) peer).name ∷ []) (with_socket (new_socket world (called world.names x) (called world.names peer) cell.host.host (end_of_nobody (Some place) (Some sock) Pending) peer) world)) (sym (same end))
    (dial_asks known own place sock end peer (called world.names peer) cell.host.host world log d (next_is_new world (called world.names (own end)) (called world.names peer) g.numbered) (w.known sock (new sock (number_same sock))) a)
step_asked known own journal place cell (steps.Write sock bytes said) world log d st same g due new w a = write_asks known own place sock bytes said world log d st (due sock (number_same sock)) w a (find_end place sock world.sockets) refl
step_asked known own journal place cell (steps.Read sock) world log d st same g due new w a = quiet_asks known own place cell (steps.Read sock) world log d tt a
step_asked known own journal place cell (steps.Up sock) world log d st same g due new w a = quiet_asks known own place cell (steps.Up sock) world log d tt a
step_asked known own journal place cell (steps.Down sock) world log d st same g due new w a = quiet_asks known own place cell (steps.Down sock) world log d tt a
step_asked known own journal place cell (steps.Left sock) world log d st same g due new w a = quiet_asks known own place cell (steps.Left sock) world log d tt a
step_asked known own journal place cell (steps.Broke end peer why) world log d st same g due new w a = quiet_asks known own place cell (steps.Broke end peer why) world log d tt a
step_asked known own journal place cell (steps.Post end event) world log d st same g due new w a = quiet_asks known own place cell (steps.Post end event) world log d tt a

-- ---- all that followed

note_asks : (known : Names) (log : List Entry) (names : Names) (last : Option Place) (note : Note) → AsksByName known log (note_entry names last note)
note_asks known log names last (notes.Made process origin) = tt
note_asks known log names last (notes.Said by to epoch index message) = tt
note_asks known log names last (notes.Again by to epoch) = tt
note_asks known log names last (notes.Got by to receiver) = tt
note_asks known log names last (notes.Took by port message) = tt
note_asks known log names last (notes.Port port) = tt
note_asks known log names last (notes.Over process reason) = tt
note_asks known log names last (notes.Doom process text) = tt
note_asks known log names last (notes.Watch watch by target kind) = tt
note_asks known log names last (notes.Unwatch watch) = tt
note_asks known log names last (notes.Absent watch) = tt
note_asks known log names last (notes.Told watch reason) = tt
note_asks known log names last (notes.Asked question by at) = tt
note_asks known log names last (notes.Spawned question process) = tt
note_asks known log names last (notes.IsAt question found) = tt
note_asks known log names last (notes.Named node name process) = tt
note_asks known log names last (notes.Shut node) = tt

note_walk : (place : ℕ) (cell : Cell) (note : Note) (world : World) (log : List Entry) (d : Dues) (st : Stages) → Walk place d st log world → Walk place d st (log ++ (local_told place cell (local.Note note) world).0) (local_told place cell (local.Note note) world).1
note_walk place cell note world log d st w = let q = note_quiet log world.names world.last note in walk_quiet place d d st st log _ world (local_told place cell (local.Note note) world).1
    (quiet_entry log (note_entry world.names world.last note) world (local_told place cell (local.Note note) world).1 (same_sockets world (local_told place cell (local.Note note) world).1 refl refl) q.none q.one q.accepting) (λ n x e. e) (λ n e. e) w

all_asked : (known : Names) (own : ℕ → Address) (journal : List Line) (place : ℕ) (cell : Cell) (told : List LocalEntry) (world : World) (log : List Entry) (d : Dues) (st : Stages) → ((end : ℕ) → own_address cell.host end ≡ own end) → Good journal log world → ((n : ℕ) → AllDue own n (steps_in told) (d n)) → ((n : ℕ) → AreNewTo n (steps_in told) (st n)) → Walk place d st log world → Asks known own place d log world
    → Asks known own place (λ n. due_after_all n (steps_in told) (d n)) (log ++ (all_told place cell told world).0) (all_told place cell told world).1
all_asked known own journal place cell [] world log d st same g due new w a = subst (λ (l : List Entry). Asks known own place d l world) (sym (append-nil log)) a
all_asked known own journal place cell (local.Step step ∷ rest) world log d st same g due new w a =
    subst (λ (l : List Entry). Asks known own place (λ n. due_after_all n (steps_in (local.Step step ∷ rest)) (d n)) l (all_told place cell (local.Step step ∷ rest) world).1)
    (append_assoc log (local_told place cell (local.Step step) world).0 (all_told place cell rest (local_told place cell (local.Step step) world).1).0)
    (all_asked known own journal place cell rest (local_told place cell (local.Step step) world).1 (log ++ (local_told place cell (local.Step step) world).0) _ _ same
    (one_told (Good journal) (keeps_good journal) log place cell (local.Step step) world g) (λ n. (due n).1) (λ n. (new n).1) (step_walk own journal place cell step world log d st g (λ n. (due n).0) (λ n. (new n).0) w)
    (step_asked known own journal place cell step world log d st same g (λ n. (due n).0) (λ n. (new n).0) w a))
all_asked known own journal place cell (local.Note note ∷ rest) world log d st same g due new w a =
    subst (λ (l : List Entry). Asks known own place (λ n. due_after_all n (steps_in rest) (d n)) l (all_told place cell (local.Note note ∷ rest) world).1)
    (append_assoc log (local_told place cell (local.Note note) world).0 (all_told place cell rest (local_told place cell (local.Note note) world).1).0)
    (all_asked known own journal place cell rest (local_told place cell (local.Note note) world).1 (log ++ (local_told place cell (local.Note note) world).0) d st same
    (one_told (Good journal) (keeps_good journal) log place cell (local.Note note) world g) due new (note_walk place cell note world log d st w)
    (asks_same known own place d d log _ world (local_told place cell (local.Note note) world).1 (same_sockets world (local_told place cell (local.Note note) world).1 refl refl) refl (asks_more known [] log (note_entry world.names world.last note) a.each (note_asks known log world.names world.last note)) (λ n e p is. is) a))

all_names : (place : ℕ) (cell : Cell) (told : List LocalEntry) (world : World) → (all_told place cell told world).1.names ≡ world.names
all_names place cell [] world = refl
all_names place cell (local.Step step ∷ rest) world = all_names place cell rest (local_told place cell (local.Step step) world).1 ∙ step_names place cell step world
all_names place cell (local.Note note ∷ rest) world = all_names place cell rest (local_told place cell (local.Note note) world).1

-- ---- a world and its log

record Asked (journal : List Line) (log : List Entry) (world : World) : Type 0 where
  written : Written journal log world
  names : world.names ≡ names_of journal
  each : EachAsksByName (names_of journal) [] log
  calls : (place : ℕ) (cell : Cell × ℕ) → slice_get world.cells place ≡ Some cell → Called (names_of journal) (own_address cell.0.host) (due_at cell.0.host) place world.sockets

record AskedMid (journal : List Line) (place number : ℕ) (log : List Entry) (world : World) : Type 0 where
  written : WrittenMid journal place number log world
  names : world.names ≡ names_of journal
  each : EachAsksByName (names_of journal) [] log
  calls : (p : ℕ) (cell : Cell × ℕ) → slice_get world.cells p ≡ Some cell → Called (names_of journal) (own_address cell.0.host) (due_at cell.0.host) p world.sockets

hears_asked : (journal : List Line) (log : List Entry) (world : World) (place : ℕ) (cell : Cell × ℕ) (event : LocalEvent) (verdict : Verdict) (told : List LocalEntry) (after : Cell) → CellFits cell → ComesNewTo cell.0.host event → cell_step cell.0 event ≡ Ok ((verdict, told), after) → Good journal log world
    → Written journal (log ++ (after_all place after cell.1 told world).0) (after_all place after cell.1 told world).1
    → ((tells : TellsFrom cell.0.host event told after.host) → Walk place (λ n. due_told event n (due_at cell.0.host n)) tells.first log (with_cell place (after, cell.1) world))
    → world.names ≡ names_of journal → EachAsksByName (names_of journal) [] log
    → ((p : ℕ) (other : Cell × ℕ) → slice_get world.cells p ≡ Some other → Called (names_of journal) (own_address other.0.host) (due_at other.0.host) p world.sockets)
    → Called (names_of journal) (own_address cell.0.host) (λ n. due_told event n (due_at cell.0.host n)) place world.sockets
    → Asked journal (log ++ (after_all place after cell.1 told world).0) (after_all place after cell.1 told world).1
hears_asked journal log world place cell event verdict told after fits new e g written start names each calls here = record {
  written = written;
  names = all_names place after told world0 ∙ names;
  each = asked.each;
  calls = λ p other at. by_calls p other (place == p) refl (was p other at);
} where
  world0 : World
  world0 = with_cell place (after, cell.1) world

  end : World
  end = (all_told place after told world0).1

  writes : WritesOn (own_address cell.0.host) (λ n. due_told event n (due_at cell.0.host n)) (steps_in told) after.host
  writes = cell_writes (own_address cell.0.host) cell.0 after event verdict told fits.orderly new e

  tells : TellsFrom cell.0.host event told after.host
  tells = cell_tells (own_address cell.0.host) cell.0 after event verdict told fits.orderly new e

  asked : Asks (names_of journal) (own_address cell.0.host) place (λ n. due_after_all n (steps_in told) (due_told event n (due_at cell.0.host n))) (log ++ (all_told place after told world0).0) end
  asked = all_asked (names_of journal) (own_address cell.0.host) journal place after told world0 log (λ n. due_told event n (due_at cell.0.host n)) tells.first writes.orderly.own_is ((keeps_good journal).cell log world place (after, cell.1) g) writes.writes.due tells.new (start tells) (record {
    names = names;
    each = each;
    here = here;
    others = λ p other off at. calls p other (got_other world.cells place p (after, cell.1) other (numbers_differ place p off) at);
  })

  was : (p : ℕ) (other : Cell × ℕ) → slice_get end.cells p ≡ Some other → slice_get world0.cells p ≡ Some other
  was p other at = ap (λ (cells : List (Cell × ℕ)). slice_get cells p) (sym (all_cells place after told world0)) ∙ at

  still : (p : ℕ) (other : Cell × ℕ) → slice_get world0.cells p ≡ Some other → slice_get end.cells p ≡ Some other
  still p other at = ap (λ (cells : List (Cell × ℕ)). slice_get cells p) (all_cells place after told world0) ∙ at

  is_after : (p : ℕ) (other : Cell × ℕ) → (place == p) ≡ true → slice_get world0.cells p ≡ Some other → other ≡ (after, cell.1)
  is_after p other h at = got_set world.cells place (after, cell.1) other (subst (λ (n : ℕ). slice_get (slice_set world.cells place (after, cell.1)) n ≡ Some other) (sym (number_is place p h)) at)

  by_calls : (p : ℕ) (other : Cell × ℕ) (b : Bool) → (place == p) ≡ b → slice_get world0.cells p ≡ Some other → Called (names_of journal) (own_address other.0.host) (due_at other.0.host) p end.sockets
  by_calls p other true h at = subst (λ (c : Cell × ℕ). Called (names_of journal) (own_address c.0.host) (due_at c.0.host) p end.sockets) (sym (is_after p other h at))
      (subst (λ (m : ℕ). Called (names_of journal) (own_address after.host) (due_at after.host) m end.sockets) (number_is place p h)
      (λ n x peer a is found. ap (called (names_of journal)) (writes.orderly.own_is x) ∙ asked.here n x peer a (sym (writes.writes.leads n) ∙ is) found))
  by_calls p other false h at = asked.others p other h (still p other at)

none_some : (o : Option Stage) → o ≡ None → is_some o ≡ false
none_some None h = refl
none_some (Some stage) h = absurd cc

heard_asked : (journal : List Line) (log : List Entry) (world : World) (place : ℕ) (cell : Cell × ℕ) (event : LocalEvent) (verdict : Verdict) (told : List LocalEntry) (after : Cell) → comes_none event ≡ true → slice_get world.cells place ≡ Some cell → cell_step cell.0 event ≡ Ok ((verdict, told), after) → Asked journal log world
    → Asked journal (log ++ (after_all place after cell.1 told world).0) (after_all place after cell.1 told world).1
heard_asked journal log world place cell event verdict told after none at e a = let w : Written journal log world = a.written in
    hears_asked journal log world place cell event verdict told after (w.base.cells place cell at) (nothing_new cell.0.host event none) e w.base.good ((keeps_written journal).heard log world place cell event verdict told after none at e w) (λ tells. record {
      fits = same_fits log world (with_cell place (after, cell.1) world) refl w.fits;
      here = λ n due end is found. w.agrees place cell at n due end (sym (same_due event none n (due_at cell.0.host n)) ∙ is) found;
      known = λ n h. w.known place cell at n (none_of (stage_at cell.0.host n) (sym (tells.has n ∙ no_more event none n (is_some (stage_at cell.0.host n))) ∙ none_some (tells.first n) h));
      others = λ p other off there. w.agrees p other (got_other world.cells place p (after, cell.1) other (numbers_differ place p off) there);
      others_known = λ p other off there. w.known p other (got_other world.cells place p (after, cell.1) other (numbers_differ place p off) there);
    }) a.names a.each a.calls (λ n x peer end is found. a.calls place cell at n x peer end (sym (same_due event none n (due_at cell.0.host n)) ∙ is) found)

heard_come_asked : (journal : List Line) (log : List Entry) (world : World) (place number mark : ℕ) (host : List ℕ) (cell : Cell × ℕ) (verdict : Verdict) (told : List LocalEntry) (after : Cell) → slice_get world.cells place ≡ Some cell → cell_step cell.0 (events.Came mark number host) ≡ Ok ((verdict, told), after) → AskedMid journal place number log world
    → Asked journal (log ++ (after_all place after cell.1 told world).0) (after_all place after cell.1 told world).1
heard_come_asked journal log world place number mark host cell verdict told after at e a = let w : WrittenMid journal place number log world = a.written in
    hears_asked journal log world place cell (events.Came mark number host) verdict told after (w.base.cells place cell at) (come_new number mark host cell (w.base.come cell at)) e w.base.good ((keeps_written journal).heard_come log world place number mark host cell verdict told after at e w) (λ tells. record {
      fits = same_fits log world (with_cell place (after, cell.1) world) refl w.fits;
      here = w.here cell at;
      known = λ n h. by_known n (number == n) refl (sym (tells.has n) ∙ none_some (tells.first n) h);
      others = λ p other off there. w.agrees p other off (got_other world.cells place p (after, cell.1) other (numbers_differ place p off) there);
      others_known = λ p other off there. w.known p other off (got_other world.cells place p (after, cell.1) other (numbers_differ place p off) there);
    }) a.names a.each a.calls (λ n x peer end is found. by_call n x peer end (number == n) is found) where
      by_known : (n : ℕ) (b : Bool) → (number == n) ≡ b → cond b true (is_some (stage_at cell.0.host n)) ≡ false → find_end place n world.sockets ≡ None
      by_known n true g h = absurd cc
      by_known n false g h = a.written.here_known cell at n g (none_of (stage_at cell.0.host n) h)

      by_call : (n x : ℕ) (peer : Address) (end : SockName × End) (b : Bool) → cond b (Some Answering) (due_at cell.0.host n) ≡ Some (Asking x peer) → find_end place n world.sockets ≡ Some end → called (names_of journal) (own_address cell.0.host x) ≡ end.0.from
      by_call n x peer end true is found = absurd cc
      by_call n x peer end false is found = a.calls place cell at n x peer end is found

asked_same : (journal : List Line) (log now : List Entry) (one two : World) → SameEnds one two → two.names ≡ one.names → EachAsksByName (names_of journal) [] now → Written journal now two → Asked journal log one → Asked journal now two
asked_same journal log now one two same names each w a = record {
  written = w;
  names = names ∙ a.names;
  each = each;
  calls = λ place cell at n x peer end is found. a.calls place cell (ap (λ (cells : List (Cell × ℕ)). slice_get cells place) (sym same.cells) ∙ at) n x peer end is (sym (same.ends place n) ∙ found);
}

plain_asked : (journal : List Line) (log : List Entry) (x : Entry) (world : World) → AsksByName (names_of journal) log x → Written journal (log ++ x ∷ []) world → Asked journal log world → Asked journal (log ++ x ∷ []) world
plain_asked journal log x world q w a = asked_same journal log (log ++ x ∷ []) world world (same_sockets world world refl refl) refl (asks_more (names_of journal) [] log x a.each q) w a

came_asked : (journal : List Line) (log : List Entry) (world : World) (socket : WorldSocket) (place : ℕ) (cell : Cell × ℕ) → IsIn socket world → is_pending socket.t.stage ≡ true → socket.t.cell ≡ Some place → slice_get world.cells place ≡ Some cell → Asked journal log world
    → AskedMid journal place (2 * cell.1 + 1) (log ++ entries.Came socket.name ∷ []) (with_end_of socket.name T (come_end (2 * cell.1 + 1)) (with_cell place (cell.0, cell.1 + 1) world))
came_asked journal log world socket place cell is pending of at a = record {
  written = (keeps_written journal).came log world socket place cell is pending of at a.written;
  names = end_names socket.name T (come_end number) counted ∙ a.names;
  each = asks_more (names_of journal) [] log (entries.Came socket.name) a.each tt;
  calls = λ p other there n x peer end due found. by_place p other (place == p) refl (ap (λ (cells : List (Cell × ℕ)). slice_get cells p) (sym (end_cells socket.name T (come_end number) counted)) ∙ there) n x peer end due
      (sym (ap (λ (v : World). find_end p n v.sockets) (with_end_is socket.name T (come_end number) counted socket is)) ∙ found);
} where
  number : ℕ
  number = 2 * cell.1 + 1

  counted : World
  counted = with_cell place (cell.0, cell.1 + 1) world

  new : WorldSocket
  new = with_end T (come_end number (end_of T socket)) socket

  no_number : (p n : ℕ) → is_end_of p n socket.t ≡ false
  no_number p n = ap (λ (o : Option ℕ). same_number socket.t.cell p && same_number o n) (a.written.fits.waiting socket.name socket is pending).0 ∙ by_test (same_number socket.t.cell p) where
    by_test : (b : Bool) → (b && false) ≡ false
    by_test true = refl
    by_test false = refl

  elsewhere : (p n : ℕ) → ((place == p) && (number == n)) ≡ false → find_end p n (store_in new world.sockets) ≡ find_end p n world.sockets
  elsewhere p n off = same_found p n new socket world.sockets is (ap (λ b. cond (is_end_of p n socket.o) (Some O) (cond b (Some T) None)) (ap (λ (o : Option ℕ). same_number o p && (number == n)) of ∙ off ∙ sym (no_number p n)))

  self : (n : ℕ) → n ≤ n
  self n = omega arith

  nothing_due : (o : Option Socket) → option_map (λ (w : Socket). w.stage) o ≡ None → due_of o ≡ None
  nothing_due None e = refl
  nothing_due (Some w) e = absurd cc

  by_number : (n x : ℕ) (peer : Address) (end : SockName × End) (b : Bool) → (number == n) ≡ b → due_at cell.0.host n ≡ Some (Asking x peer) → find_end place n (store_in new world.sockets) ≡ Some end → called (names_of journal) (own_address cell.0.host x) ≡ end.0.from
  by_number n x peer end true h due found =
      let none : due_at cell.0.host n ≡ None = subst (λ (m : ℕ). due_at cell.0.host m ≡ None) (number_is number n h) (nothing_due (find (is_socket number) cell.0.host.sockets) ((a.written.base.cells place cell at).odd cell.1 (self cell.1))) in
      let no : ◌≡◌ {A = Option Due} None (Some (Asking x peer)) = sym none ∙ due in absurd cc
  by_number n x peer end false h due found = a.calls place cell at n x peer end due (sym (elsewhere place n (ap (λ b. b && (number == n)) (number_same place) ∙ h)) ∙ found)

  by_place : (p : ℕ) (other : Cell × ℕ) (b : Bool) → (place == p) ≡ b → slice_get counted.cells p ≡ Some other → (n x : ℕ) (peer : Address) (end : SockName × End) → due_at other.0.host n ≡ Some (Asking x peer) → find_end p n (store_in new world.sockets) ≡ Some end → called (names_of journal) (own_address other.0.host x) ≡ end.0.from
  by_place p other true h there n x peer end due found =
      let same : other ≡ (cell.0, cell.1 + 1) = got_set world.cells place (cell.0, cell.1 + 1) other (subst (λ (m : ℕ). slice_get (slice_set world.cells place (cell.0, cell.1 + 1)) m ≡ Some other) (sym (number_is place p h)) there) in
      ap (λ (c : Cell × ℕ). called (names_of journal) (own_address c.0.host x)) same ∙ by_number n x peer end (number == n) refl (ap (λ (c : Cell × ℕ). due_at c.0.host n) (sym same) ∙ due) (ap (λ (m : ℕ). find_end m n (store_in new world.sockets)) (number_is place p h) ∙ found)
  by_place p other false h there n x peer end due found = a.calls p other (got_other world.cells place p (cell.0, cell.1 + 1) other (numbers_differ place p h) there) n x peer end due (sym (elsewhere p n (ap (λ b. b && (number == n)) h)) ∙ found)

-- an entry that changes one end
end_asked : (journal : List Line) (log : List Entry) (x : Entry) (world : World) (s : SockName) (e : End) (f : WorldEnd → WorldEnd) → KeepsPlace f → AsksByName (names_of journal) log x → Written journal (log ++ x ∷ []) (with_end_of s e f world) → Asked journal log world → Asked journal (log ++ x ∷ []) (with_end_of s e f world)
end_asked journal log x world s e f k q w a = asked_same journal log (log ++ x ∷ []) world (with_end_of s e f world) (kept_same s e f world k) (end_names s e f world) (asks_more (names_of journal) [] log x a.each q) w a

knocked_asked : (journal : List Line) (log : List Entry) (world : World) (stranger node : List ℕ) → Asked journal log world → Asked journal (log ++ entries.Knocked (stranger_socket stranger node world).name ∷ []) (with_socket (stranger_socket stranger node world) world)
knocked_asked journal log world stranger node a = record {
  written = (keeps_written journal).knocked log world stranger node a.written;
  names = a.names;
  each = asks_more (names_of journal) [] log (entries.Knocked (stranger_socket stranger node world).name) a.each tt;
  calls = λ place cell at n x peer end is found. a.calls place cell at n x peer end is (sym (new_same place n (stranger_socket stranger node world) world.sockets (next_is_new world stranger node a.written.base.good.numbered) number refl) ∙ found);
} where
  number : (stranger_socket stranger node world).t.number ≡ None
  number = by_cell (cell_of world (address_as world.names node)) where
    by_cell : (o : Option ℕ) → (target_end o).number ≡ None
    by_cell None = refl
    by_cell (Some place) = refl

keeps_asked : (journal : List Line) → Keeps (Unit {0}) AnyCount (AskedMid journal) (Asked journal)
keeps_asked journal = record {
  whole = λ left. tt;
  distinct = λ log world a. a.written.base.good.apart;
  mark = λ log world number answer a. plain_asked journal log (entries.Line number answer) world tt ((keeps_written journal).mark log world number answer a.written) a;
  settled = λ log world a. plain_asked journal log entries.Settled world tt ((keeps_written journal).settled log world a.written) a;
  heard = heard_asked journal;
  heard_come = heard_come_asked journal;
  heard_nowhere = λ log world place number none a. record { written = (keeps_written journal).heard_nowhere log world place number none a.written; names = a.names; each = a.each; calls = a.calls };
  joined = λ log world socket is pending a. end_asked journal log (entries.Joined socket.name) world socket.name O opened opened_keeps tt ((keeps_written journal).joined log world socket is pending a.written) a;
  refused = λ r log world socket is pending a. plain_asked journal log (entries.Refused socket.name) world tt ((keeps_written journal).refused r log world socket is pending a.written) a;
  came = came_asked journal;
  came_nowhere = λ log world socket place is of at a. plain_asked journal log (entries.Came socket.name) world tt ((keeps_written journal).came_nowhere log world socket place is of at a.written) a;
  fed = λ log world socket which count is stands input u a. end_asked journal log (entries.Fed socket.name which (length (take count (end_of which socket).unread))) world socket.name which (λ end. record end { unread = drop count end.unread }) (fed_keeps count) tt ((keeps_written journal).fed log world socket which count is stands input u a.written) a;
  lost = λ log world socket which a. plain_asked journal log (entries.Lost socket.name which) world tt ((keeps_written journal).lost log world socket which a.written) a;
  timed = λ log world node peer a. plain_asked journal log (entries.Timed node peer) world tt ((keeps_written journal).timed log world node peer a.written) a;
  was_cut = λ log world socket which is a. end_asked journal log (entries.Cut socket.name which) world socket.name which cut cut_keeps tt ((keeps_written journal).was_cut log world socket which is a.written) a;
  knocked = knocked_asked journal;
  poked = λ log world socket bytes is a. end_asked journal log (entries.Poked socket.name bytes) world socket.name T (arrives bytes) (arrives_keeps bytes) tt ((keeps_written journal).poked log world socket bytes is a.written) a;
  quitted = λ log world socket is a. end_asked journal log (entries.Quitted socket.name) world socket.name O ended ended_keeps tt ((keeps_written journal).quitted log world socket is a.written) a;
}

fresh_asked : (journal : List Line) → Asked journal [] (world_new journal)
fresh_asked journal = record { written = fresh_written journal; names = refl; each = tt; calls = λ place cell at n x peer end is found. absurd cc }

pub log_asks_by_name : (journal lines : List Line) (log : List Entry) (world : World) → log_from (world_new journal) lines ≡ Ok (log, world) → EachAsksByName (names_of journal) [] log
log_asks_by_name journal lines log world is = let a : Asked journal log world = holds_after (Asked journal) (keeps_asked journal) journal lines (fresh_asked journal) log world is in a.each
