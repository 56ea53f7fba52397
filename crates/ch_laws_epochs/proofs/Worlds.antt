-- In the log of a journal of many nodes messages are numbered as they come.
use Rattle.std.proofs.Common.{◌≡◌, ℕ, zero, suc, ◌+◌, ◌*◌, Bool, true, false, cond, ◌&&◌, List, [], ◌∷◌, ◌++◌, map, length, take, drop, Ok, Err, refl, sym, ap, ◌∙◌, subst, ◌==◌, append_assoc}
use Rattle.std.proofs.lemmas.Bool.{eqb-true, and_parts}
use Rattle.std.proofs.lemmas.List.{append-nil}
use Rattle.std.proofs.lemmas.Slice.Eq.{bytes_eq-Decides}
use Rattle.std.specs.Prelude.{find, position, slice_get, slice_set, Option, Some, None}
use Rattle.std.specs.Str.{bytes_eq}
use Rattle.ch_base.specs.declared.address.Address.{Address}
use Rattle.ch_ident.specs.declared.identifier.ProcessId.{ProcessId}
use Rattle.ch_static.specs.declared.command.Command.TheVariants as commands
use Rattle.ch_static.specs.declared.target.Target.{Target}
use Rattle.ch_static.specs.declared.target.Target.TheVariants as targets
use Rattle.ch_model.specs.declared.entry.Entry.{Entry}
use Rattle.ch_model.specs.declared.entry.Entry.TheVariants as entries
use Rattle.ch_model.specs.declared.entry.Verdict.TheVariants as verdicts
use Rattle.ch_model.specs.declared.line.Line.{Line}
use Rattle.ch_model.specs.declared.line.What.{What}
use Rattle.ch_model.specs.declared.line.What.TheVariants as lines
use Rattle.ch_model.specs.declared.local.LocalEvent.{LocalEvent}
use Rattle.ch_model.specs.declared.local.LocalEvent.TheVariants as events
use Rattle.ch_model.specs.declared.name.End.{End}
use Rattle.ch_model.specs.declared.name.End.TheVariants.{O, T}
use Rattle.ch_model.specs.declared.name.ProcName.{ProcName}
use Rattle.ch_model.specs.declared.name.SockName.{SockName}
use Rattle.ch_model.specs.declared.name.TargetName.TheVariants as names
use Rattle.ch_model.specs.declared.note.Note.{Note}
use Rattle.ch_model.specs.declared.note.Note.TheVariants as notes
use Rattle.ch_model.specs.declared.step.SocketEvent.{SocketEvent}
use Rattle.ch_model.specs.declared.step.SocketEvent.TheVariants as sockets
use Rattle.ch_model.specs.Cell.{Celled, cell_step, cell_new}
use Rattle.ch_model.specs.CellSteps.{is_at}
use Rattle.ch_model.specs.Epochs.{FollowsEpochs, is_said_in_epoch, has_next_index, begins_next_epoch}
use Rattle.ch_model.specs.Logs.{each_after}
use Rattle.ch_model.specs.Naming.{Names, called, address_as, process_as, process_called}
use Rattle.ch_model.specs.Node.{node_new}
use Rattle.ch_model.specs.NodeIds.{process_id, is_own}
use Rattle.ch_model.specs.NodePairs.{pair_of}
use Rattle.ch_model.specs.NodeState.{NodeState, Pair}
use Rattle.ch_model.specs.Same.{same_process}
use Rattle.ch_model.specs.Settle.{Happened}
use Rattle.ch_model.specs.World.{◌>>=◌, names_of, cell_at, world_new, world_step, line_answered, log_from, log_of}
use Rattle.ch_model.specs.WorldHappenings.{Answered, after_entry, with_cell, cell_told, cell_hears, end_hears, joins, comes_at, comes, hands, feeds, mark_of}
use Rattle.ch_model.specs.WorldLines.{node_hears, on_socket, can_join, can_come, can_feed, line_done}
use Rattle.ch_model.specs.WorldSockets.{end_of, opened, is_host_of, is_socket_named, with_end_of, cell_of}
use Rattle.ch_model.specs.WorldState.{Cell, WorldEnd, WorldSocket, World}
use Rattle.ch_model.specs.WorldSteps.{all_told}
use Rattle.ch_laws_items.specs.Stays.{Who, seats_of, CellStays, NodeStays}
use Rattle.ch_laws_items.proofs.Seats.{cell_after, node_there}
use Rattle.ch_laws_world.specs.Grows.{Home, home_of}
use Rattle.ch_laws_world.proofs.Journals.{address_stays}
use Rattle.ch_laws_world.proofs.Steps.{celled}
use Rattle.ch_laws_ends.proofs.Changes.{cells_stay, told_cells}
use Rattle.ch_laws_log.specs.Declared.{is_declared}
use Rattle.ch_laws_log.specs.Lines.{AllLines}
use Rattle.ch_laws_log.proofs.Homes.{SeatsAt, AllAtHome, Housed, fresh_housed, housed_kept, own_is, called_so}
use Rattle.ch_laws_log.proofs.Kept.{LedOn}
use Rattle.ch_laws_log.proofs.Keys.{pair_named}
use Rattle.ch_laws_log.proofs.Stored.{number_same, bytes_same}
use Rattle.ch_laws_delivery.proofs.Keys.{process_self, process_is, target_self, target_is}
use Rattle.ch_laws_many.specs.ManyLines.{is_of_many}
use Rattle.ch_laws_many.proofs.Reached.{IsJournal}
use Rattle.ch_laws_epochs.specs.Numbers.{pair_stands, stands, stands_at, AreSeated, is_between, Numbers, notes_in}
use Rattle.ch_laws_epochs.proofs.Calm.{is_silent}
use Rattle.ch_laws_epochs.proofs.Numbered.{AllNotes}
use Rattle.ch_laws_epochs.proofs.Cells.{EventPasses, tallied_after}
use Rattle.ch_laws_epochs.proofs.Told.{is_plain, AllFit, fit_both, Fits, told_of, NoneAgain, plain_none, plain_told, IsOfThese, walk, told_names, end_names}

-- ---- a cell that is set in its place

abbrev Placed : List (Cell × ℕ) → ℕ → Cell × ℕ → ℕ → Cell × ℕ → Bool → Type 0
Placed cells place new other cell true = (other ≡ place) × (cell ≡ new)
Placed cells place new other cell false = (other ≡ place → ⊥) × (slice_get cells other ≡ Some cell)

got : (cells : List (Cell × ℕ)) (place : ℕ) (new : Cell × ℕ) (other : ℕ) (cell : Cell × ℕ) → slice_get (slice_set cells place new) other ≡ Some cell → (b : Bool) × Placed cells place new other cell b
got [] place new other cell e = absurd cc
got (known ∷ rest) zero new zero cell e = let same : new ≡ cell = cc in (true, (refl, sym same))
got (known ∷ rest) zero new (suc other) cell e = (false, ((λ h. absurd cc), e))
got (known ∷ rest) (suc place) new zero cell e = (false, ((λ h. absurd cc), e))
got (known ∷ rest) (suc place) new (suc other) cell e = by_rest (got rest place new other cell e)
  where
    down : suc other ≡ suc place → other ≡ place
    down h = cc

    by_rest : ((b : Bool) × Placed rest place new other cell b) → (b : Bool) × Placed (known ∷ rest) (suc place) new (suc other) cell b
    by_rest (true, is) = (true, (ap suc is.0, is.1))
    by_rest (false, is) = (false, ((λ h. is.0 (down h)), is.1))

same_home : (before now : Cell) → CellStays before now → home_of now ≡ home_of before
same_home before now k = by_parts _ _ _ _ _ _ _ _ k.host.host k.host.port k.host.circle k.nodes where
  by_parts : (a e : List ℕ) (b f : ℕ) (c g : List (List ℕ)) (d h : List (ℕ × Who)) → e ≡ a → f ≡ b → g ≡ c → h ≡ d → ◌≡◌ {A = Home} (e, f, g, h) (a, b, c, d)
  by_parts a e b f c g d h k l m n = cc

-- an address is at the same place where a cell is set in its place
set_stays : (one two : World) (place : ℕ) (cell new : Cell × ℕ) (own : Address) → slice_get one.cells place ≡ Some cell → home_of new.0 ≡ home_of cell.0 → two.cells ≡ slice_set one.cells place new → cell_of two own ≡ cell_of one own
set_stays one two place cell new own at same e = ap (λ (cs : List (Cell × ℕ)). position (is_host_of own) cs) e ∙ address_stays own (record one { sockets = [] }) (with_cell place new (record one { sockets = [] })) (celled place cell new (record one { sockets = [] }) tt at same).homes

-- ---- names

name_is : (a b : ProcName) → same_process a b ≡ true → a ≡ b
name_is a b h =
    let parts = and_parts (bytes_eq a.node b.node) (a.counter == b.counter) h in
    ap (λ (z : List ℕ). record a { node = z }) ((bytes_eq-Decides a.node b.node).0 parts.0) ∙ ap (λ (z : ℕ). record b { counter = z }) (eqb-true a.counter b.counter parts.1)

name_self : (a : ProcName) → same_process a a ≡ true
name_self a = ap (λ b. b && a.counter == a.counter) (bytes_same a.node) ∙ number_same a.counter

both_true : (a b : Bool) → a ≡ true → b ≡ true → (a && b) ≡ true
both_true true b h g = g
both_true false b h g = h

same_test : (x y : Bool) → (x ≡ true → y ≡ true) → (y ≡ true → x ≡ true) → x ≡ y
same_test true y a b = sym (a refl)
same_test false true a b = b refl
same_test false false a b = refl

module _ (journal : List Line) (j : IsJournal journal) where
  -- the node of a declared process's name stands here
  record IsHere (world : World) (p : ProcName) (place : ℕ) (cell : Cell × ℕ) (there : ℕ × NodeState) : Type 0 where
    declared : is_declared (names_of journal) p.node ≡ true
    of : cell_of world (address_as (names_of journal) p.node) ≡ Some place
    at : slice_get world.cells place ≡ Some cell
    found : find (is_at (address_as (names_of journal) p.node).id) cell.0.nodes ≡ Some there

  -- the world and the log agree on the numbers of each pair
  record Good (log : List Entry) (world : World) : Type 0 where
    names : world.names ≡ names_of journal
    seated : (place : ℕ) (cell : Cell × ℕ) → slice_get world.cells place ≡ Some cell → AreSeated cell.0
    none : NoneAgain log
    stands : (p q : ProcName) (place : ℕ) (cell : Cell × ℕ) (there : ℕ × NodeState) → is_declared (names_of journal) q.node ≡ true → IsHere world p place cell there
        → stands_at cell.0 (process_id there.1 p.counter) (process_as (names_of journal) q) ≡ (0, told_of log p q)

  same_good : (log : List Entry) (one two : World) → two.cells ≡ one.cells → two.names ≡ one.names → Good log one → Good log two
  same_good log one two c n g = record {
    names = n ∙ g.names;
    seated = λ place cell at. g.seated place cell (ap (λ (cs : List (Cell × ℕ)). slice_get cs place) (sym c) ∙ at);
    none = g.none;
    stands = λ p q place cell there d h. g.stands p q place cell there d (record { declared = h.declared; of = ap (λ (cs : List (Cell × ℕ)). position (is_host_of (address_as (names_of journal) p.node)) cs) (sym c) ∙ h.of; at = ap (λ (cs : List (Cell × ℕ)). slice_get cs place) (sym c) ∙ h.at; found = h.found });
  }

  plain_good : (log : List Entry) (x : Entry) (world : World) → is_plain x ≡ true → Good log world → Good (log ++ x ∷ []) world
  plain_good log x world h g = record {
    names = g.names;
    seated = g.seated;
    none = plain_none log x h g.none;
    stands = λ p q place cell there d here. g.stands p q place cell there d here ∙ ap (λ (n : ℕ). (0, n)) (sym (plain_told log x p q h));
  }

  -- a socket more was accepted
  counted_good : (log : List Entry) (world : World) (place count : ℕ) (cell : Cell × ℕ) → slice_get world.cells place ≡ Some cell → Good log world → Good log (with_cell place (cell.0, count) world)
  counted_good log world place count cell at g = record {
    names = g.names;
    seated = λ other now is. seated other now (got world.cells place (cell.0, count) other now is);
    none = g.none;
    stands = λ p q other now there d here. stands p q other now there d here (got world.cells place (cell.0, count) other now here.at);
  }
    where
      seated : (other : ℕ) (now : Cell × ℕ) → ((b : Bool) × Placed world.cells place (cell.0, count) other now b) → AreSeated now.0
      seated other now (true, is) = subst (λ (c : Cell × ℕ). AreSeated c.0) (sym is.1) (g.seated place cell at)
      seated other now (false, is) = g.seated other now is.1

      stands : (p q : ProcName) (other : ℕ) (now : Cell × ℕ) (there : ℕ × NodeState) → is_declared (names_of journal) q.node ≡ true → IsHere (with_cell place (cell.0, count) world) p other now there → ((b : Bool) × Placed world.cells place (cell.0, count) other now b)
          → stands_at now.0 (process_id there.1 p.counter) (process_as (names_of journal) q) ≡ (0, told_of log p q)
      stands p q other now there d here (true, is) =
          ap (λ (c : Cell × ℕ). stands_at c.0 (process_id there.1 p.counter) (process_as (names_of journal) q)) is.1
          ∙ g.stands p q place cell there d (record { declared = here.declared; of = sym (set_stays world (with_cell place (cell.0, count) world) place cell (cell.0, count) (address_as (names_of journal) p.node) at refl refl) ∙ here.of ∙ ap Some is.0; at = at; found = ap (λ (c : Cell × ℕ). find (is_at (address_as (names_of journal) p.node).id) c.0.nodes) (sym is.1) ∙ here.found })
      stands p q other now there d here (false, is) =
          g.stands p q other now there d (record { declared = here.declared; of = sym (set_stays world (with_cell place (cell.0, count) world) place cell (cell.0, count) (address_as (names_of journal) p.node) at refl refl) ∙ here.of; at = is.1; found = here.found })

  -- ---- a cell hears an event

  module _ (log : List Entry) (one : World) (place : ℕ) (cell : Cell × ℕ) where
    abbrev who_at : Option (ℕ × NodeState) → ProcName → ProcessId
    who_at None p = process_as (names_of journal) p
    who_at (Some there) p = process_id there.1 p.counter

    abbrev who : ProcName → ProcessId
    who p = who_at (find (is_at (address_as (names_of journal) p.node).id) cell.0.nodes) p

    record Looks (p q : ProcName) : Type 0 where
      target : is_declared (names_of journal) q.node ≡ true
      there : ℕ × NodeState
      here : IsHere one p place cell there

    record Off (p : ProcName) : Type 0 where
      other : ℕ
      of : cell_of one (address_as (names_of journal) p.node) ≡ Some other
      apart : other ≡ place → ⊥

    abbrev passing : Note → Type 0
    passing note = IsOfThese (names_of journal) who Looks Off note

    quiet : (note : Note) → is_silent note ≡ true → passing note
    quiet (notes.Said sender target epoch index message) s = absurd cc
    quiet (notes.Again sender target epoch) s = absurd cc
    quiet note s = tt

    who_is_there : (p : ProcName) (there : ℕ × NodeState) → find (is_at (address_as (names_of journal) p.node).id) cell.0.nodes ≡ Some there → who p ≡ process_id there.1 p.counter
    who_is_there p there found = ap (λ (o : Option (ℕ × NodeState)). who_at o p) found

  -- what happened fits the log, and world and log agree after it
  abbrev Passes : List Entry → Answered → Type 0
  Passes log (Ok done) = AllFit log done.0.1 × Good (log ++ done.0.1) done.1
  Passes log (Err stop) = Unit {0}

  nothing : (log : List Entry) (world : World) → Good log world → Passes log (Ok ((verdicts.Nothing, []), world))
  nothing log world g = (tt, subst (λ (l : List Entry). Good l world) (sym (append-nil log)) g)

  same_unique : (a b : NodeState) (n : ℕ) → NodeStays a b → process_id b n ≡ process_id a n
  same_unique a b n s = ap (λ (z : Address). record { node = z; unique = b.unique; counter = n }) s.own ∙ ap (λ (z : ℕ). record { node = a.own; unique = z; counter = n }) s.unique

  told : (log : List Entry) (one : World) (place : ℕ) (cell : Cell × ℕ) (event : LocalEvent) → Good log one → slice_get one.cells place ≡ Some cell → EventPasses (passing log one place cell) (quiet log one place cell) cell.0 event
      → (done : Celled) → cell_step cell.0 event ≡ done → Passes log (cell_told place cell one done)
  told log one place cell event g at p (Err stop) is = tt
  told log one place cell event g at p (Ok done) is = (
    walked.0,
    record {
      names = told_names place done.1 done.0.1 next ∙ g.names;
      seated = λ other now found. seated other now (got one.cells place (done.1, cell.1) other now (sym (ap (λ (cs : List (Cell × ℕ)). slice_get cs other) (told_cells place done.1 done.0.1 next)) ∙ found));
      none = walked.1.0;
      stands = λ p q other now there d here. stands p q other now there d here (got one.cells place (done.1, cell.1) other now (sym (ap (λ (cs : List (Cell × ℕ)). slice_get cs other) (told_cells place done.1 done.0.1 next)) ∙ here.at));
    },
  )
    where
      next : World
      next = with_cell place (done.1, cell.1) one

      at_who : ProcName → ProcessId
      at_who p = who log one place cell p

      tallied : AreSeated done.1 × ((by to : ProcessId) → Numbers by to (notes_in done.0.1) (stands_at cell.0 by to) (stands_at done.1 by to)) × AllNotes (passing log one place cell) (notes_in done.0.1)
      tallied = tallied_after (passing log one place cell) (quiet log one place cell) cell.0 done.1 event done.0.0 done.0.1 p (g.seated place cell at) is

      before : (p q : ProcName) → Looks log one place cell p q → stands_at cell.0 (at_who p) (process_as (names_of journal) q) ≡ (0, told_of log p q)
      before p q d = ap (λ (w : ProcessId). stands_at cell.0 w (process_as (names_of journal) q)) (who_is_there log one place cell p d.there d.here.found) ∙ g.stands p q place cell d.there d.target d.here

      walked : AllFit log (all_told place done.1 done.0.1 next).0
          × (NoneAgain (log ++ (all_told place done.1 done.0.1 next).0) × ((p q : ProcName) → Looks log one place cell p q → stands_at done.1 (at_who p) (process_as (names_of journal) q) ≡ (0, told_of (log ++ (all_told place done.1 done.0.1 next).0) p q)))
          × ((p q : ProcName) → Off log one place cell p → told_of (log ++ (all_told place done.1 done.0.1 next).0) p q ≡ told_of log p q)
      walked = walk (names_of journal) (who log one place cell) (Looks log one place cell) (Off log one place cell) place done.1 done.0.1 next log (λ p q. stands_at cell.0 (at_who p) (process_as (names_of journal) q)) (λ p q. stands_at done.1 (at_who p) (process_as (names_of journal) q))
          g.names (g.none, before) (λ p q d. tallied.1 (at_who p) (process_as (names_of journal) q)) tallied.2

      seated : (other : ℕ) (now : Cell × ℕ) → ((b : Bool) × Placed one.cells place (done.1, cell.1) other now b) → AreSeated now.0
      seated other now (true, is) = subst (λ (c : Cell × ℕ). AreSeated c.0) (sym is.1) tallied.0
      seated other now (false, is) = g.seated other now is.1

      stays : CellStays cell.0 done.1
      stays = cell_after cell.0 done.1 event done.0 is

      same_place : (p : ProcName) → cell_of (all_told place done.1 done.0.1 next).1 (address_as (names_of journal) p.node) ≡ cell_of one (address_as (names_of journal) p.node)
      same_place p = set_stays one (all_told place done.1 done.0.1 next).1 place cell (done.1, cell.1) (address_as (names_of journal) p.node) at (same_home cell.0 done.1 stays) (told_cells place done.1 done.0.1 next)

      stands : (p q : ProcName) (other : ℕ) (now : Cell × ℕ) (there : ℕ × NodeState) → is_declared (names_of journal) q.node ≡ true → IsHere (all_told place done.1 done.0.1 next).1 p other now there → ((b : Bool) × Placed one.cells place (done.1, cell.1) other now b)
          → stands_at now.0 (process_id there.1 p.counter) (process_as (names_of journal) q) ≡ (0, told_of (log ++ (all_told place done.1 done.0.1 next).0) p q)
      stands p q other now there d here (false, is) = g.stands p q other now there d (record { declared = here.declared; of = sym (same_place p) ∙ here.of; at = is.1; found = here.found })
          ∙ ap (λ (n : ℕ). (0, n)) (sym (walked.2 p q (record { other = other; of = sym (same_place p) ∙ here.of; apart = is.0 })))
      stands p q other now there d here (true, is) =
          let found_now : find (is_at (address_as (names_of journal) p.node).id) done.1.nodes ≡ Some there = ap (λ (c : Cell × ℕ). find (is_at (address_as (names_of journal) p.node).id) c.0.nodes) (sym is.1) ∙ here.found in
          let back = node_there (address_as (names_of journal) p.node).id there done.1.nodes cell.0.nodes (sym stays.nodes) found_now in
          ap (λ (c : Cell × ℕ). stands_at c.0 (process_id there.1 p.counter) (process_as (names_of journal) q)) is.1
          ∙ ap (λ (w : ProcessId). stands_at done.1 w (process_as (names_of journal) q)) (sym (same_unique there.1 back.0.1 p.counter back.2) ∙ sym (who_is_there log one place cell p back.0 back.1))
          ∙ walked.1.1 p q (record { target = d; there = back.0; here = record { declared = here.declared; of = sym (same_place p) ∙ here.of ∙ ap Some is.0; at = at; found = back.1 } })

  -- ---- a message that a line sends

  module _ (log : List Entry) (one : World) (place : ℕ) (cell : Cell × ℕ) (g : Good log one) (h : Housed journal one) (b d : ProcName) (db : is_declared (names_of journal) b.node ≡ true) (dd : is_declared (names_of journal) d.node ≡ true)
      (of : cell_of one (address_as (names_of journal) b.node) ≡ Some place) (at : slice_get one.cells place ≡ Some cell) where
    named_back : (q : ProcName) → is_declared (names_of journal) q.node ≡ true → process_called (names_of journal) (process_as (names_of journal) q) ≡ q
    named_back q dq = ap (λ (z : List ℕ). record q { node = z }) (called_so (names_of journal) q.node j.apart dq)

    node_back : (q : ProcName) (there : ℕ × NodeState) → IsHere one q place cell there → process_called (names_of journal) (process_id there.1 q.counter) ≡ q
    node_back q there here = ap (λ (z : List ℕ). record q { node = z }) (ap (called (names_of journal)) (own_is journal one (address_as (names_of journal) q.node) place cell there h here.of here.at here.found) ∙ called_so (names_of journal) q.node j.apart here.declared)

    module _ (there : ℕ × NodeState) (found : find (is_at (address_as (names_of journal) b.node).id) cell.0.nodes ≡ Some there) where
      here : IsHere one b place cell there
      here = record { declared = db; of = of; at = at; found = found }

      agree : (p q : ProcName) → Looks log one place cell p q → is_between (who log one place cell p) (process_as (names_of journal) q) (process_id there.1 b.counter) (targets.Process (process_as (names_of journal) d)) ≡ (same_process b p && same_process d q)
      agree p q l = same_test (is_between (who log one place cell p) (process_as (names_of journal) q) (process_id there.1 b.counter) (targets.Process (process_as (names_of journal) d))) (same_process b p && same_process d q) forth back
        where
          forth : is_between (who log one place cell p) (process_as (names_of journal) q) (process_id there.1 b.counter) (targets.Process (process_as (names_of journal) d)) ≡ true → (same_process b p && same_process d q) ≡ true
          forth e =
              let parts = and_parts _ _ e in
              let sender : b ≡ p = sym (node_back b there here) ∙ ap (process_called (names_of journal)) (process_is (process_id there.1 b.counter) (who log one place cell p) parts.0 ∙ who_is_there log one place cell p l.there l.here.found) ∙ node_back p l.there l.here in
              let same : process_as (names_of journal) d ≡ process_as (names_of journal) q = process_of (target_is (targets.Process (process_as (names_of journal) d)) (targets.Process (process_as (names_of journal) q)) parts.1) in
              let target : d ≡ q = sym (named_back d dd) ∙ ap (process_called (names_of journal)) same ∙ named_back q l.target in
              both_true (same_process b p) (same_process d q) (ap (λ (z : ProcName). same_process b z) (sym sender) ∙ name_self b) (ap (λ (z : ProcName). same_process d z) (sym target) ∙ name_self d)
            where
              process_of : {a c : ProcessId} → targets.Process a ≡ targets.Process c → a ≡ c
              process_of e = cc

          back : (same_process b p && same_process d q) ≡ true → is_between (who log one place cell p) (process_as (names_of journal) q) (process_id there.1 b.counter) (targets.Process (process_as (names_of journal) d)) ≡ true
          back e =
              let parts = and_parts (same_process b p) (same_process d q) e in
              ap (λ (z : ProcName). is_between (who log one place cell z) (process_as (names_of journal) q) (process_id there.1 b.counter) (targets.Process (process_as (names_of journal) d))) (sym (name_is b p parts.0))
              ∙ ap (λ (z : ProcName). is_between (who log one place cell b) (process_as (names_of journal) z) (process_id there.1 b.counter) (targets.Process (process_as (names_of journal) d))) (sym (name_is d q parts.1))
              ∙ ap (λ (z : ProcessId). is_between z (process_as (names_of journal) d) (process_id there.1 b.counter) (targets.Process (process_as (names_of journal) d))) (who_is_there log one place cell b there found)
              ∙ both_true _ _ (process_self (process_id there.1 b.counter)) (target_self (targets.Process (process_as (names_of journal) d)))

      off : (p : ProcName) → Off log one place cell p → same_process b p ≡ false
      off p o = by_test (same_process b p) refl
        where
          some_is : {a c : ℕ} → Some a ≡ Some c → a ≡ c
          some_is e = cc

          by_test : (x : Bool) → same_process b p ≡ x → same_process b p ≡ false
          by_test false e = e
          by_test true e = absurd (o.apart (some_is (sym o.of ∙ ap (λ (z : ProcName). cell_of one (address_as (names_of journal) z.node)) (sym (name_is b p e)) ∙ of)))

      is_passed : (pair : Pair) (epoch index : ℕ) (said : _) → pair.by ≡ b.counter → pair.to ≡ targets.Process (process_as (names_of journal) d) → passing log one place cell (notes.Said (process_id there.1 pair.by) pair.to epoch index said)
      is_passed pair epoch index said by to =
          subst (λ (n : ℕ). passing log one place cell (notes.Said (process_id there.1 n) pair.to epoch index said)) (sym by)
          (subst (λ (t : Target). passing log one place cell (notes.Said (process_id there.1 b.counter) t epoch index said)) (sym to) (
            subst (λ (z : ProcName). Looks log one place cell z (process_called (names_of journal) (process_as (names_of journal) d))) (sym (node_back b there here)) (subst (λ (z : ProcName). Looks log one place cell b z) (sym (named_back d dd)) (record { target = dd; there = there; here = here })),
            λ p q l. agree p q l ∙ ap (λ (z : ProcName). same_process z p && same_process d q) (sym (node_back b there here)) ∙ ap (λ (z : ProcName). same_process (process_called (names_of journal) (process_id there.1 b.counter)) p && same_process z q) (sym (named_back d dd)),
            λ p o. ap (λ (z : ProcName). same_process z p) (node_back b there here) ∙ off p o,
          ))

    send_passes : (mark body : List ℕ) → EventPasses (passing log one place cell) (quiet log one place cell) cell.0 (events.Command (address_as (names_of journal) b.node).id b.counter (commands.Send (targets.Process (process_as (names_of journal) d)) (record { mark = mark; body = body })))
    send_passes mark body there found =
        let is = pair_named there.1.pairs b.counter (targets.Process (process_as (names_of journal) d)) in
        is_passed there found (pair_of there.1.pairs b.counter (targets.Process (process_as (names_of journal) d))) _ _ (record { mark = mark; body = body }) is.0 is.1

  -- ---- what happens

  hears : (log : List Entry) (place : ℕ) (event : LocalEvent) (world : World) → Good log world → ((cell : Cell × ℕ) → slice_get world.cells place ≡ Some cell → EventPasses (passing log world place cell) (quiet log world place cell) cell.0 event) → Passes log (cell_hears place event world)
  hears log place event world g each = by_cell (slice_get world.cells place) refl
    where
      by_cell : (o : Option (Cell × ℕ)) → slice_get world.cells place ≡ o → Passes log (elim o as (λ o. Answered) [
        | None ↦ Ok ((verdicts.Nothing, []), world)
        | Some cell ↦ cell_told place cell world (cell_step cell.0 event)
      ])
      by_cell None e = nothing log world g
      by_cell (Some cell) e = told log world place cell event g e (each cell e) (cell_step cell.0 event) refl

  at_end : (log : List Entry) (end : WorldEnd) (event : ℕ → SocketEvent) (world : World) → Good log world → Passes log (end_hears end event world)
  at_end log end event world g = by_cell end.cell end.number
    where
      by_cell : (o n : Option ℕ) → Passes log (elim o as (λ o. Answered) [
        | None ↦ Ok ((verdicts.Nothing, []), world)
        | Some place ↦ elim n [
          | None ↦ Ok ((verdicts.Nothing, []), world)
          | Some number ↦ cell_hears place (events.Socket (event number)) world
        ]
      ])
      by_cell None n = nothing log world g
      by_cell (Some place) None = nothing log world g
      by_cell (Some place) (Some number) = hears log place (events.Socket (event number)) world g (λ cell at. tt)

  entry_first : (log : List Entry) (x : Entry) (done : Answered) → is_plain x ≡ true → Fits log x → Passes (log ++ x ∷ []) done → Passes log (after_entry x done)
  entry_first log x (Ok done) h f p = ((f, p.0), subst (λ (l : List Entry). Good l done.1) (append_assoc log (x ∷ []) done.0.1) p.1)
  entry_first log x (Err stop) h f p = tt

  end_good : (log : List Entry) (s : SockName) (e : End) (f : WorldEnd → WorldEnd) (world : World) → Good log world → Good log (with_end_of s e f world)
  end_good log s e f world g = same_good log world (with_end_of s e f world) (cells_stay s e f world) (end_names s e f world) g

  joins_pass : (log : List Entry) (socket : WorldSocket) (world : World) → Good log world → Passes log (joins socket world)
  joins_pass log socket world g = entry_first log (entries.Joined socket.name) (end_hears socket.o (λ sock. sockets.Joined sock) (with_end_of socket.name O opened world)) refl (refl, refl, refl)
      (at_end (log ++ entries.Joined socket.name ∷ []) socket.o (λ sock. sockets.Joined sock) (with_end_of socket.name O opened world) (end_good _ socket.name O opened world (plain_good log (entries.Joined socket.name) world refl g)))

  comes_pass : (log : List Entry) (socket : WorldSocket) (world : World) → Good log world → Passes log (comes socket world)
  comes_pass log socket world g = by_place socket.t.cell
    where
      good : Good (log ++ entries.Came socket.name ∷ []) world
      good = plain_good log (entries.Came socket.name) world refl g

      by_cell : (place : ℕ) (o : Option (Cell × ℕ)) → slice_get world.cells place ≡ o → Passes (log ++ entries.Came socket.name ∷ []) (elim o as (λ o. Answered) [
        | None ↦ Ok ((verdicts.Nothing, []), world)
        | Some cell ↦ cell_hears place (events.Came (mark_of socket.o) (2 * cell.1 + 1) socket.from_host)
            (with_end_of socket.name T (λ end. record (opened end) { number = Some (2 * cell.1 + 1) }) (with_cell place (cell.0, cell.1 + 1) world))
      ])
      by_cell place None e = nothing (log ++ entries.Came socket.name ∷ []) world good
      by_cell place (Some cell) e = hears (log ++ entries.Came socket.name ∷ []) place (events.Came (mark_of socket.o) (2 * cell.1 + 1) socket.from_host)
          (with_end_of socket.name T (λ end. record (opened end) { number = Some (2 * cell.1 + 1) }) (with_cell place (cell.0, cell.1 + 1) world))
          (end_good (log ++ entries.Came socket.name ∷ []) socket.name T (λ end. record (opened end) { number = Some (2 * cell.1 + 1) }) (with_cell place (cell.0, cell.1 + 1) world) (counted_good (log ++ entries.Came socket.name ∷ []) world place (cell.1 + 1) cell e good)) (λ c at. tt)

      by_place : (o : Option ℕ) → Passes log (elim o as (λ o. Answered) [
        | None ↦ Ok ((verdicts.Nothing, []), world)
        | Some place ↦ after_entry (entries.Came socket.name) (comes_at place socket world)
      ])
      by_place None = nothing log world g
      by_place (Some place) = entry_first log (entries.Came socket.name) (comes_at place socket world) refl (refl, refl, refl) (by_cell place (slice_get world.cells place) refl)

  hands_pass : (log : List Entry) (bytes : List ℕ) (end : WorldEnd) (world : World) → Good log world → Passes log (hands bytes end world)
  hands_pass log [] end world g = at_end log end (λ sock. sockets.Ended sock) world g
  hands_pass log (b ∷ bytes) end world g = at_end log end (λ sock. sockets.Fed sock (b ∷ bytes)) world g

  feeds_pass : (log : List Entry) (which : End) (count : ℕ) (socket : WorldSocket) (world : World) → Good log world → Passes log (feeds which count socket world)
  feeds_pass log which count socket world g =
      let bytes = take count (end_of which socket).unread in
      let x : Entry = entries.Fed socket.name which (length bytes) in
      let rest : World = with_end_of socket.name which (λ end. record end { unread = drop count end.unread }) world in
      entry_first log x (hands bytes (end_of which socket) rest) refl (refl, refl, refl) (hands_pass (log ++ x ∷ []) bytes (end_of which socket) rest (end_good (log ++ x ∷ []) socket.name which (λ end. record end { unread = drop count end.unread }) world (plain_good log x world refl g)))

  at_socket : (log : List Entry) (sock : SockName) (test : WorldSocket → Bool) (f : WorldSocket → World → Answered) (world : World) → Good log world → ((socket : WorldSocket) → Passes log (f socket world)) → Passes log (on_socket sock test f world)
  at_socket log sock test f world g each = by_socket (find (is_socket_named sock) world.sockets)
    where
      by_test : (s : WorldSocket) (b : Bool) → Passes log (cond b (f s world) (Ok ((verdicts.Nothing, []), world)))
      by_test s true = each s
      by_test s false = nothing log world g

      by_socket : (o : Option WorldSocket) → Passes log (elim o as (λ o. Answered) [
        | None ↦ Ok ((verdicts.Nothing, []), world)
        | Some socket ↦ cond (test socket) (f socket world) (Ok ((verdicts.Nothing, []), world))
      ])
      by_socket None = nothing log world g
      by_socket (Some s) = by_test s (test s)

  at_node : (log : List Entry) (name : List ℕ) (event : ℕ → LocalEvent) (world : World) → Good log world
      → ((place : ℕ) → cell_of world (address_as world.names name) ≡ Some place → (cell : Cell × ℕ) → slice_get world.cells place ≡ Some cell → EventPasses (passing log world place cell) (quiet log world place cell) cell.0 (event (address_as world.names name).id))
      → Passes log (node_hears name event world)
  at_node log name event world g each = by_place (cell_of world (address_as world.names name)) refl
    where
      by_place : (o : Option ℕ) → cell_of world (address_as world.names name) ≡ o → Passes log (elim o as (λ o. Answered) [
        | None ↦ Ok ((verdicts.Nothing, []), world)
        | Some place ↦ cell_hears place (event (address_as world.names name).id) world
      ])
      by_place None e = nothing log world g
      by_place (Some place) e = hears log place (event (address_as world.names name).id) world g (each place e)

  -- ---- lines

  sends : (log : List Entry) (world : World) (b d : ProcName) (mark body : List ℕ) → is_declared (names_of journal) b.node ≡ true → is_declared (names_of journal) d.node ≡ true → Housed journal world → Good log world
      → Passes log (node_hears b.node (λ end. events.Command end b.counter (commands.Send (targets.Process (process_as world.names d)) (record { mark = mark; body = body }))) world)
  sends log world b d mark body db dd h g = at_node log b.node (λ end. events.Command end b.counter (commands.Send (targets.Process (process_as world.names d)) (record { mark = mark; body = body }))) world g
      (λ place of cell at. subst (λ (ns : Names). EventPasses (passing log world place cell) (quiet log world place cell) cell.0 (events.Command (address_as ns b.node).id b.counter (commands.Send (targets.Process (process_as ns d)) (record { mark = mark; body = body })))) (sym g.names)
      (send_passes log world place cell g h b d db dd (subst (λ (ns : Names). cell_of world (address_as ns b.node) ≡ Some place) g.names of) at mark body))

  line_passes : (log : List Entry) (what : What) (world : World) → is_of_many (names_of journal) what ≡ true → Housed journal world → Good log world → Passes log (line_done what world)
  line_passes log (lines.Node name address unique) world of h g = nothing log world g
  line_passes log (lines.Proc node) world of h g = at_node log node (λ end. events.Make end) world g (λ place is cell at. tt)
  line_passes log (lines.Send by (names.Process to) mark body) world of h g =
      let parts = and_parts (is_declared (names_of journal) by.node) (is_declared (names_of journal) to.node) of in
      sends log world by to mark body parts.0 parts.1 h g
  line_passes log (lines.Send by (names.Port to port) mark body) world of h g = absurd cc
  line_passes log (lines.Send by (names.Named node name) mark body) world of h g = absurd cc
  line_passes log (lines.Recv by mark) world of h g = at_node log by.node (λ end. events.Command end by.counter (commands.Receive mark)) world g (λ place is cell at there found. tt)
  line_passes log (lines.End by) world of h g = at_node log by.node (λ end. events.Command end by.counter commands.End) world g (λ place is cell at there found. tt)
  line_passes log (lines.Join sock) world of h g = at_socket log sock can_join joins world g (λ s. joins_pass log s world g)
  line_passes log (lines.Come sock) world of h g = at_socket log sock can_come comes world g (λ s. comes_pass log s world g)
  line_passes log (lines.Feed sock end count) world of h g = at_socket log sock (can_feed end) (feeds end count) world g (λ s. feeds_pass log end count s world g)
  line_passes log what world of h g = absurd cc

  abbrev Steps : List Entry → Happened → Type 0
  Steps log (Ok done) = AllFit log done.0 × Good (log ++ done.0) done.1
  Steps log (Err stop) = Unit {0}

  marked : (log : List Entry) (number : ℕ) (done : Answered) → ((v : _) → Passes (log ++ entries.Line number v ∷ []) done) → Steps log (line_answered number done)
  marked log number (Ok done) p = let one = p done.0.0 in (((refl, refl, refl), one.0), subst (λ (l : List Entry). Good l done.1) (append_assoc log (entries.Line number done.0.0 ∷ []) done.0.1) one.1)
  marked log number (Err stop) p = tt

  step_passes : (log : List Entry) (number : ℕ) (what : What) (world : World) → is_of_many (names_of journal) what ≡ true → Housed journal world → Good log world → Steps log (world_step world (record { number = number; what = what }))
  step_passes log number (lines.Node name address unique) world of h g = (tt, subst (λ (l : List Entry). Good l world) (sym (append-nil log)) g)
  step_passes log number (lines.Away name address unique) world of h g = absurd cc
  step_passes log number (lines.Label node label) world of h g = absurd cc
  step_passes log number (lines.Stranger name host) world of h g = absurd cc
  step_passes log number lines.Settle world of h g = absurd cc
  step_passes log number what world of h g = marked log number (line_done what world) (λ v. line_passes (log ++ entries.Line number v ∷ []) what world of h (plain_good log (entries.Line number v) world refl g))

  all_pass : (rest : List Line) (log : List Entry) (world : World) → AllLines (is_of_many (names_of journal)) rest → Housed journal world → Good log world → Steps log (log_from world rest)
  all_pass [] log world of h g = (tt, subst (λ (l : List Entry). Good l world) (sym (append-nil log)) g)
  all_pass (line ∷ rest) log world of h g = by_step (world_step world line) (step_passes log line.number line.what world of.0 h g) (housed_kept journal log world line.number line.what h) (λ l w hw gw. all_pass rest l w of.1 hw gw)
    where
      by_rest : (told : List Entry) (w : World) (more : Happened) → AllFit log told → Steps (log ++ told) more → Steps log (more >>= λ more. Ok (told ++ more.0, more.1))
      by_rest told w (Ok more) a s = (fit_both log told more.0 a s.0, subst (λ (l : List Entry). Good l more.1) (append_assoc log told more.0) s.1)
      by_rest told w (Err stop) a s = tt

      by_step : (one : Happened) → Steps log one → LedOn (λ l w. Housed journal w) log one → ((l : List Entry) (w : World) → Housed journal w → Good l w → Steps l (log_from w rest)) → Steps log (one >>= λ done. log_from done.1 rest >>= λ more. Ok (done.0 ++ more.0, more.1))
      by_step (Ok done) s h more = by_rest done.0 done.1 (log_from done.1 rest) s.0 (more (log ++ done.0) done.1 h s.1)
      by_step (Err stop) s h more = tt

-- ---- where nothing has happened

seated_at : (host : List ℕ) (port end : ℕ) (nodes : List (ℕ × NodeState)) (there : ℕ × NodeState) → SeatsAt host port (seats_of nodes) → find (is_at end) nodes ≡ Some there → there.1.own.id ≡ end
seated_at host port end [] there at e = absurd cc
seated_at host port end (known ∷ rest) there at e = by_test (known.0 == end) refl e (seated_at host port end rest there at.1)
  where
    by_test : (b : Bool) → (known.0 == end) ≡ b → cond b (Some known) (find (is_at end) rest) ≡ Some there → (find (is_at end) rest ≡ Some there → there.1.own.id ≡ end) → there.1.own.id ≡ end
    by_test true is e more = let same : known ≡ there = cc in ap (λ (n : ℕ × NodeState). n.1.own.id) (sym same) ∙ ap (λ (a : Address). a.id) at.0 ∙ eqb-true known.0 end is
    by_test false is e more = more e

made_seats : (host : List ℕ) (port : ℕ) (nodes : List (ℕ × ℕ × List (List ℕ))) → SeatsAt host port (seats_of (map (λ (node : ℕ × ℕ × List (List ℕ)). (node.0, node_new (record { host = host; port = port; id = node.0 }) node.1 node.2)) nodes))
unfolding node_new
made_seats host port [] = tt
made_seats host port (node ∷ rest) = (refl, made_seats host port rest)

cells_seated : (cells : List (Cell × ℕ)) → AllAtHome cells → (place : ℕ) (cell : Cell × ℕ) → slice_get cells place ≡ Some cell → AreSeated cell.0
cells_seated [] a place cell e = absurd cc
cells_seated (first ∷ rest) a zero cell e = let same : first ≡ cell = cc in subst (λ (c : Cell × ℕ). AreSeated c.0) same (λ end node is. seated_at first.0.host.host first.0.host.port end first.0.nodes node a.0 is)
cells_seated (first ∷ rest) a (suc place) cell e = cells_seated rest a.1 place cell e

-- no node has a pair
abbrev Unused : List (ℕ × NodeState) → Type 0
Unused [] = Unit {0}
Unused (node ∷ rest) = (node.1.pairs ≡ []) × Unused rest

new_unused : (host : List ℕ) (port : ℕ) (nodes : List (ℕ × ℕ × List (List ℕ))) → Unused (map (λ (node : ℕ × ℕ × List (List ℕ)). (node.0, node_new (record { host = host; port = port; id = node.0 }) node.1 node.2)) nodes)
unfolding node_new
new_unused host port [] = tt
new_unused host port (node ∷ rest) = (refl, new_unused host port rest)

unused_found : (end : ℕ) (nodes : List (ℕ × NodeState)) (there : ℕ × NodeState) → Unused nodes → find (is_at end) nodes ≡ Some there → there.1.pairs ≡ []
unused_found end [] there u e = absurd cc
unused_found end (known ∷ rest) there u e = by_test (known.0 == end) e (unused_found end rest there u.1)
  where
    by_test : (b : Bool) → cond b (Some known) (find (is_at end) rest) ≡ Some there → (find (is_at end) rest ≡ Some there → there.1.pairs ≡ []) → there.1.pairs ≡ []
    by_test true e more = let same : known ≡ there = cc in ap (λ (n : ℕ × NodeState). n.1.pairs) (sym same) ∙ u.0
    by_test false e more = more e

unused_stands : (cell : Cell) → Unused cell.nodes → (by to : ProcessId) → stands_at cell by to ≡ (0, 0)
unfolding pair_of
unused_stands cell u by to = by_node (find (is_at by.node.id) cell.nodes) refl
  where
    by_test : (b : Bool) (pairs : List Pair) → pairs ≡ [] → cond b (pair_stands pairs by.counter to) (0, 0) ≡ (0, 0)
    by_test true pairs e = ap (λ (ps : List Pair). pair_stands ps by.counter to) e
    by_test false pairs e = refl

    by_node : (o : Option (ℕ × NodeState)) → find (is_at by.node.id) cell.nodes ≡ o → (elim o as (λ o. ℕ × ℕ) [
      | None ↦ (0, 0)
      | Some node ↦ stands node.1 by to
    ]) ≡ (0, 0)
    by_node None e = refl
    by_node (Some node) e = by_test (is_own node.1 by) node.1.pairs (unused_found by.node.id cell.nodes node u e)

all_unused : (journal : List Line) (addresses : List Address) (place : ℕ) (cell : Cell × ℕ) → slice_get (map (λ (address : Address). (cell_at journal address, 0)) addresses) place ≡ Some cell → Unused cell.0.nodes
all_unused journal [] place cell e = absurd cc
all_unused journal (address ∷ rest) zero cell e = let same : (cell_at journal address, 0) ≡ cell = cc in subst (λ (c : Cell × ℕ). Unused c.0.nodes) same (new_unused address.host address.port _)
all_unused journal (address ∷ rest) (suc place) cell e = all_unused journal rest place cell e

-- the same of one node, and of one cell
pub node_fresh : (own : Address) (unique : ℕ) (labels : List (List ℕ)) (by to : ProcessId) → stands (node_new own unique labels) by to ≡ (0, 0)
unfolding node_new pair_of
node_fresh own unique labels by to = by_test (is_own (node_new own unique labels) by)
  where
    by_test : (b : Bool) → cond b (pair_stands [] by.counter to) (0, 0) ≡ (0, 0)
    by_test true = refl
    by_test false = refl

pub cell_fresh : (host : List ℕ) (port : ℕ) (circle : List (List ℕ)) (nodes : List (ℕ × ℕ × List (List ℕ))) → AreSeated (cell_new host port circle nodes)
cell_fresh host port circle nodes = λ end node is. seated_at host port end (map (λ (node : ℕ × ℕ × List (List ℕ)). (node.0, node_new (record { host = host; port = port; id = node.0 }) node.1 node.2)) nodes) node (made_seats host port nodes) is

fresh_good : (journal : List Line) (j : IsJournal journal) → Good journal j [] (world_new journal)
fresh_good journal j = record {
  names = refl;
  seated = cells_seated (world_new journal).cells (fresh_housed journal).homes;
  none = λ p d. refl;
  stands = λ p q place cell there d here. unused_stands cell.0 (all_unused journal _ place cell here.at) (process_id there.1 p.counter) (process_as (names_of journal) q);
}

-- ---- the whole log

each_fits : (log rest : List Entry) → AllFit log rest → (each_after is_said_in_epoch log rest ≡ true) × (each_after has_next_index log rest ≡ true) × (each_after begins_next_epoch log rest ≡ true)
each_fits log [] a = (refl, refl, refl)
each_fits log (x ∷ rest) a =
    let more = each_fits (log ++ x ∷ []) rest a.1 in
    (both_true (is_said_in_epoch log x) _ a.0.0 more.0, both_true (has_next_index log x) _ a.0.1 more.1, both_true (begins_next_epoch log x) _ a.0.2 more.2)

pub follows : (journal : List Line) → IsJournal journal → (log : List Entry) → log_of journal ≡ Ok log → FollowsEpochs log
follows journal j log is = by_log (log_from (world_new journal) journal) (all_pass journal j journal [] (world_new journal) j.lines (fresh_housed journal) (fresh_good journal j)) is
  where
    by_log : (done : Happened) → Steps journal j [] done → (done >>= λ done. Ok done.0) ≡ Ok log → FollowsEpochs log
    by_log (Ok done) s e =
        let same : done.0 ≡ log = cc in
        let fits = each_fits [] log (subst (λ (l : List Entry). AllFit [] l) same s.0) in
        record { epochs = fits.0; indexes = fits.1; next_epochs = fits.2 }
    by_log (Err stop) s e = absurd cc
