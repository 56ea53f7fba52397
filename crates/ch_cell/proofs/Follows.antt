-- What follows, piece by piece.
use Rattle.std.proofs.Common.{◌≡◌, ◌≤◌, ◌<◌, ℕ, suc, List, [], ◌∷◌, ◌++◌, Ok, Err, refl, sym, ap, ◌∙◌, subst, append_assoc, arith}
use Rattle.std.specs.Prelude.{find, Result, Option, Some, None, option_map}
use Rattle.ch_base.specs.declared.memory.Stop.{Stop}
use Rattle.ch_base.specs.declared.memory.Stop.TheVariants as stops
use Rattle.ch_model.specs.declared.local.LocalEntry.{LocalEntry}
use Rattle.ch_model.specs.declared.step.Step.{Step}
use Rattle.ch_model.specs.HostState.{HostState}
use Rattle.ch_model.specs.Host.{host_next}
use Rattle.ch_model.specs.WorldState.{Cell}
use Rattle.ch_model.specs.CellSteps.{Followed, after_entries, ◌then◌, steps_on, kept_bytes, items_on, all_items, is_at}
use Rattle.ch_laws_items.specs.Kept.{Apart}
use Rattle.ch_laws_items.proofs.Cells.{Follows, steps_of, kept_is, enough}
use Rattle.ch_static.specs.declared.command.Command.{Command}
use Rattle.ch_model.specs.declared.entry.Verdict.TheVariants as verdicts
use Rattle.ch_model.specs.NodeState.{NodeState}
use Rattle.ch_model.specs.Node.{node_command}
use Rattle.ch_model.specs.Cell.{Celled, refused, node_did, at_node, room_for, commanded}
use Rattle.ch_cell.specs.Stops.{Stops}
use Rattle.ch_cell.specs.Items.{NextItem}
use Rattle.ch_cell.specs.Seats.{Whither, directed_from, directed_of}
use Rattle.ch_cell.specs.Did.{commanded_in}

-- no entries before what follows
pub none_before : (done : Followed) → after_entries [] done ≡ done
none_before (Ok done) = refl
none_before (Err stop) = refl

-- entries, and then more, before what follows
pub more_before : (one two : List LocalEntry) (done : Followed) → after_entries one (after_entries two done) ≡ after_entries (one ++ two) done
more_before one two (Ok done) = ap (λ (es : List LocalEntry). Ok (es, done.1)) (sym (append_assoc one two done.0))
more_before one two (Err stop) = refl

-- ---- a turn of a loop

-- one thing was done, and its entries are told
pub turn : (before told : List LocalEntry) (next : Cell) (one whole : Followed) (rest : Cell → Followed) → after_entries before (one then rest) ≡ whole → one ≡ Ok (told, next) → after_entries (before ++ told) (rest next) ≡ whole
turn before told next one whole rest i e = sym (more_before before told (rest next)) ∙ ap (λ (done : Followed). after_entries before (done then rest)) (sym e) ∙ i

-- a stop of one thing stops the whole
pub stopped : (stop : Stop) (before : List LocalEntry) (one whole : Followed) (rest : Cell → Followed) → after_entries before (one then rest) ≡ whole → Stops stop one → Stops stop whole
stopped stops.OutOfMemory before one whole rest i s = tt
stopped stops.Worn before one whole rest i s = sym i ∙ ap (λ (done : Followed). after_entries before (done then rest)) s

-- ---- items

-- one item, and what follows
abbrev one_more : (Cell → Followed) → Cell → Result (Option (List Step) × HostState) Stop → Followed
one_more more cell (Err stop) = Err stop
one_more more cell (Ok next) = elim next.0 [
  | None ↦ Ok ([], cell)
  | Some done ↦ (steps_on done (record cell { host = next.1 }) then more)
]

-- a count that can't grow at the next item stops the cell
pub stop_first : (cell : Cell) (stop : Stop) → Apart cell.host.sockets → host_next cell.host ≡ Err stop → all_items cell ≡ Err stop
stop_first cell stop apart e = enough _ (suc (kept_bytes cell.host)) cell apart (within _ _ (kept_is cell.host.sockets)) (more _ _ (kept_is cell.host.sockets)) ∙ ap (one_more (items_on (kept_bytes cell.host)) cell) e
  where
    within : (m n : ℕ) → m ≡ n → n ≤ m
    within m n e = omega arith

    more : (m n : ℕ) → m ≡ n → n ≤ suc m
    more m n e = omega arith

-- a stop at the next item stops the whole
pub item_stops : (stop : Stop) (before : List LocalEntry) (items whole : Followed) → after_entries before items ≡ whole → Stops stop items → Stops stop whole
item_stops stops.OutOfMemory before items whole i s = tt
item_stops stops.Worn before items whole i s = sym i ∙ ap (after_entries before) s

-- where none is left, the entries so far are all
pub no_item : {X : Type 0} (view : X → List Step) (before : List LocalEntry) (cell next : Cell) (whole : Followed) (o : Option X) → after_entries before (all_items cell) ≡ whole → o ≡ None → NextItem cell (option_map view o) next → whole ≡ Ok (before, next)
no_item {X = X} view before cell next whole o i e n = by_none (subst (λ (o : Option X). NextItem cell (option_map view o) next) e n)
  where
    append_nothing : (es : List LocalEntry) → (es ++ []) ≡ es
    append_nothing [] = refl
    append_nothing (x ∷ es) = ap (λ (rest : List LocalEntry). x ∷ rest) (append_nothing es)

    by_none : NextItem cell None next → whole ≡ Ok (before, next)
    by_none n = sym i ∙ ap (after_entries before) n.0 ∙ ap (λ (es : List LocalEntry). Ok (es, cell)) (append_nothing before) ∙ ap (λ (c : Cell). Ok (before, c)) (sym n.1)

-- an item with all that follows from it, and then the rest
pub item_first : {X : Type 0} (view : X → List Step) (before : List LocalEntry) (cell next : Cell) (whole : Followed) (o : Option X) (steps : X) → after_entries before (all_items cell) ≡ whole → o ≡ Some steps → NextItem cell (option_map view o) next → after_entries before (steps_on (view steps) next then all_items) ≡ whole
item_first {X = X} view before cell next whole o steps i e n = by_some (subst (λ (o : Option X). NextItem cell (option_map view o) next) e n)
  where
    by_some : NextItem cell (Some (view steps)) next → after_entries before (steps_on (view steps) next then all_items) ≡ whole
    by_some n = ap (after_entries before) (sym n.0) ∙ i

-- an item and what followed leave fewer bytes unread
pub fewer_left : {X : Type 0} (view : X → List Step) (cell next last : Cell) (told : List LocalEntry) (o : Option X) (steps : X) → o ≡ Some steps → NextItem cell (option_map view o) next → steps_on (view steps) next ≡ Ok (told, last) → kept_bytes last.host < kept_bytes cell.host
fewer_left {X = X} view cell next last told o steps e n s = by_some (subst (λ (o : Option X). NextItem cell (option_map view o) next) e n)
  where
    follows : Follows next (Ok (told, last))
    follows = subst (Follows next) s (steps_of (view steps) next)

    counted : (n l k a b : ℕ) → k ≡ l → a ≡ b → b ≤ l → k < n → a < n
    counted n l k a b p q f u = omega arith

    by_some : NextItem cell (Some (view steps)) next → kept_bytes last.host < kept_bytes cell.host
    by_some n = counted _ _ _ _ _ (kept_is next.host.sockets) (kept_is last.host.sockets) follows.kept n.1

-- ---- the room of a command

-- a command has the room of the link to the node that it is directed to
pub with_room : (end by : ℕ) (command : Command) (cell : Cell) (d : Whither) → Some d ≡ directed_of by command (find (is_at end) cell.nodes) → commanded_in (room_for cell.host end d.own d.peer) end by command cell ≡ at_node end cell (commanded end by command cell)
with_room end by command cell d e = by_found (find (is_at end) cell.nodes) e
  where
    by_found : (o : Option (ℕ × NodeState)) → Some d ≡ directed_of by command o → (elim o as (λ o. Celled) [
      | None ↦ refused verdicts.Nothing cell
      | Some node ↦ node_did end cell (node_command node.1 by command (room_for cell.host end d.own d.peer))
    ]) ≡ (elim o as (λ o. Celled) [
      | None ↦ refused verdicts.Nothing cell
      | Some node ↦ commanded end by command cell node.1
    ])
    by_found None e = absurd cc
    by_found (Some node) e = let same : d ≡ directed_from by command node.1 = cc in ap (λ (d : Whither). node_did end cell (node_command node.1 by command (room_for cell.host end d.own d.peer))) same

-- where no node is there, nothing happens
pub no_room : (end by : ℕ) (command : Command) (cell : Cell) → None ≡ directed_of by command (find (is_at end) cell.nodes) → at_node end cell (commanded end by command cell) ≡ refused verdicts.Nothing cell
no_room end by command cell e = by_found (find (is_at end) cell.nodes) e
  where
    by_found : (o : Option (ℕ × NodeState)) → None ≡ directed_of by command o → (elim o as (λ o. Celled) [
      | None ↦ refused verdicts.Nothing cell
      | Some node ↦ commanded end by command cell node.1
    ]) ≡ refused verdicts.Nothing cell
    by_found None e = refl
    by_found (Some node) e = absurd cc
