-- What a cell makes of one event leaves each of its nodes with what the host gives.
use Rattle.std.proofs.Common.{◌≡◌, ℕ, Bool, true, false, cond, not, ◌||◌, List, [], ◌∷◌, Ok, Err, refl, sym, ap, subst, map}
use Rattle.std.specs.Prelude.{nat_le, find, ◌==◌, Option, Some, None, Result}
use Rattle.ch_base.specs.declared.address.Address.{Address}
use Rattle.ch_base.specs.declared.event.Room.{Room}
use Rattle.ch_mail.specs.Mail.{downed}
use Rattle.ch_model.specs.declared.act.Act.{Act}
use Rattle.ch_model.specs.declared.act.Act.TheVariants as acts
use Rattle.ch_model.specs.declared.note.Note.TheVariants as notes
use Rattle.ch_model.specs.declared.command.CommandError.{CommandError}
use Rattle.ch_model.specs.declared.command.CommandError.TheVariants as refusals
use Rattle.ch_model.specs.declared.entry.Verdict.{Verdict}
use Rattle.ch_model.specs.declared.entry.Verdict.TheVariants as verdicts
use Rattle.ch_model.specs.declared.local.LocalEntry.{LocalEntry}
use Rattle.ch_model.specs.declared.local.LocalEntry.TheVariants as local
use Rattle.ch_model.specs.declared.local.LocalEvent.{LocalEvent}
use Rattle.ch_model.specs.declared.local.LocalEvent.TheVariants as events
use Rattle.ch_model.specs.declared.step.EndError.{EndError}
use Rattle.ch_model.specs.declared.step.EndError.TheVariants as errors
use Rattle.ch_model.specs.declared.step.SocketEvent.TheVariants as sockets
use Rattle.ch_model.specs.declared.step.Step.{Step}
use Rattle.ch_model.specs.CellSteps.{Followed, after_entries, ◌then◌, is_at, store_node, with_node, acts_on, steps_on, all_items}
use Rattle.ch_model.specs.Cell.{Celled, answered, refused, refusal, node_did, at_node, no_room, room_for, commanded, closes_after, shut_node, host_did, heard_as, cell_step}
use Rattle.ch_model.specs.Host.{host_on}
use Rattle.ch_model.specs.HostCalls.{most_waiting, host_room, host_close_endpoint}
use Rattle.ch_model.specs.HostState.{HostState}
use Rattle.ch_model.specs.HostSteps.{Stepped}
use Rattle.ch_model.specs.NodeEnds.{shut_lists}
use Rattle.ch_model.specs.NodeState.{NodeState}
use Rattle.ch_model.specs.Node.{node_make, node_command, node_shut, target_node}
use Rattle.ch_model.specs.WorldState.{Cell}
use Rattle.ch_laws_items.specs.Stays.{numbers_of}
use Rattle.ch_laws_items.proofs.Seats.{cell_after}
use Rattle.ch_laws_log.proofs.Stored.{number_is}
use Rattle.ch_laws_log.proofs.Posts.{AllLast, event_last, endpoint_last}
use Rattle.ch_laws_connections.specs.Tables.{is_standing, roomy_at}
use Rattle.ch_laws_connections.specs.Senders.{sender_of, Own}
use Rattle.ch_laws_connections.specs.Fits.{FitsAs, Fits, CellFits, CellHolds, AllDiffer}
use Rattle.ch_laws_connections.proofs.HostLinks.{AllGo}
use Rattle.ch_laws_connections.proofs.HostItems.{event_goes}
use Rattle.ch_laws_connections.proofs.Does.{Any, AllDo}
use Rattle.ch_laws_connections.proofs.Nodes.{RoomFits, on_make, on_command}
use Rattle.ch_laws_connections.proofs.Cells.{AllFit, Others, sizes, same_as, node_fits, acts_all, chained, steps_dark, stored_there, stored_other, steps_from, all_fit}
use Rattle.ch_laws_connections.proofs.Shuts.{Darkens, AllDark, closes_all}

answered_fit : (verdict : Verdict) (done : Followed) → AllFit done → AllFit (answered verdict done)
answered_fit verdict (Ok done) f = f
answered_fit verdict (Err stop) f = tt

pub refusal_fits : (e : CommandError) (cell : Cell) → CellFits cell → AllFit (refusal e cell)
refusal_fits refusals.OutOfMemory cell f = tt
refusal_fits refusals.Worn cell f = tt
refusal_fits refusals.Unknown cell f = f
refusal_fits refusals.Dead cell f = f
refusal_fits refusals.Long cell f = f
refusal_fits refusals.Full cell f = f
refusal_fits refusals.Spent cell f = f
refusal_fits refusals.Taken cell f = f
refusal_fits refusals.NoName cell f = f
refusal_fits refusals.NoRef cell f = f
refusal_fits refusals.Empty cell f = f
refusal_fits refusals.Hale cell f = f

pub others_fit : (end : ℕ) (cell : Cell) → CellFits cell → Others end cell
others_fit end cell f = record { links = f.links; nodes = λ e there h found. f.nodes e there found }

pub did_fit : (Fit : (Address → ℕ) → (Address → Bool) → Type 0) (end : ℕ) (cell : Cell) (there : ℕ × NodeState) (done : Result (List Act × NodeState) CommandError) → find (is_at end) cell.nodes ≡ Some there → AllDo Fit (sender_of there.1) done → Fit (sizes cell.host end) (roomy_at cell.host end) → CellFits cell → AllFit (node_did end cell done)
did_fit Fit end cell there (Ok done) found d fit f = answered_fit verdicts.Ok (acts_on end done.0 (with_node end done.1 cell) then all_items)
    (chained (acts_on end done.0 (with_node end done.1 cell)) all_items (acts_all end done.1 done.0 cell (others_fit end cell f) (node_fits Fit cell.host end done.0 (sender_of there.1) (sender_of done.1) d fit (f.nodes end there found))) all_fit)
did_fit Fit end cell there (Err e) found d fit f = refusal_fits e cell f

-- the room that a command is told is that of the host's link
pub room_fits : (host : HostState) (end : ℕ) (node : NodeState) (o : Option Address) → RoomFits node o (room_for host end node.own o) (sizes host end) (roomy_at host end)
unfolding host_room
room_fits host end node None = tt
room_fits host end node (Some peer) = λ away. (ap (λ (b : Bool). (room_of b).given) away, ap (λ (b : Bool). (room_of b).up || not (nat_le most_waiting (room_of b).waits)) away) where
  room_of : Bool → Room
  room_of b = cond b no_room (host_room host end peer)

at_fit : (end : ℕ) (cell : Cell) (f : NodeState → Celled) → CellFits cell → ((there : ℕ × NodeState) → find (is_at end) cell.nodes ≡ Some there → AllFit (f there.1)) → AllFit (at_node end cell f)
at_fit end cell f c k = by_node (find (is_at end) cell.nodes) refl where
  by_node : (o : Option (ℕ × NodeState)) → find (is_at end) cell.nodes ≡ o → AllFit (elim o as (λ o. Celled) [
    | None ↦ refused verdicts.Nothing cell
    | Some node ↦ f node.1
  ])
  by_node None found = c
  by_node (Some node) found = k node found

-- ---- a node is shut

-- the node after it was shut
abbrev pub shut_from : NodeState → NodeState
shut_from node = record node { is_shut = true; mail = map downed node.mail; watches = shut_lists node.watches }

-- the cell, where its endpoint is closed then
pub dark_cell : (end : ℕ) (cell : Cell) (there : ℕ × NodeState) (host : HostState) → find (is_at end) cell.nodes ≡ Some there → CellFits cell → Darkens end cell.host host → CellFits (record (with_node end (shut_from there.1) cell) { host = host })
dark_cell end cell there host found f k = record { links = k.apart f.links; nodes = λ e x at. by_end e x (end == e) refl at } where
  by_end : (e : ℕ) (x : ℕ × NodeState) (b : Bool) → (end == e) ≡ b → find (is_at e) (store_node end (shut_from there.1) cell.nodes) ≡ Some x → Fits host e [] (sender_of x.1)
  by_end e x true h at = subst (λ (n : ℕ). Fits host n [] (sender_of x.1)) (number_is end e h) (subst (λ (n : NodeState). Fits host end [] (sender_of n)) (sym (stored_there end (shut_from there.1) e x cell.nodes at h)) (own_kept (f.nodes end there found).0, record { closed = k.closed; given = k.given })) where
    own_kept : Own (sender_of there.1) → Own (sender_of (shut_from there.1))
    own_kept o = record { alone = o.alone; drawn = o.drawn }
  by_end e x false h at = let was = f.nodes e x (stored_other end (shut_from there.1) e x cell.nodes at h) in (was.0, same_as e cell.host host (λ p. k.others e p h) (k.ends e h) x.1.is_shut (sender_of x.1) was.1)

pub stands_there : (end : ℕ) (cell : Cell) (there : ℕ × NodeState) → find (is_at end) cell.nodes ≡ Some there → CellFits cell → there.1.is_shut ≡ false → is_standing cell.host end ≡ true
stands_there end cell there found f h = (subst (λ b. FitsAs b cell.host end [] (sender_of there.1)) h (f.nodes end there found).1).1.standing

shut_fit : (end : ℕ) (cell : Cell) (there : ℕ × NodeState) → find (is_at end) cell.nodes ≡ Some there → AllDiffer (numbers_of cell.host.ends) → CellFits cell → AllFit (shut_node end cell (node_shut there.1))
unfolding node_shut
shut_fit end cell there found d f = by_shut there.1.is_shut refl where
  now : Cell
  now = with_node end (shut_from there.1) cell

  by_close : (done : Result (List Step × HostState) EndError) → AllDark end cell.host done → AllLast done → AllFit (closes_after end now done)
  by_close (Ok done) k p = steps_dark done.0 (record now { host = done.1 }) p k.1 (dark_cell end cell there done.1 found f k.0)
  by_close (Err errors.Worn) k p = tt
  by_close (Err errors.OutOfMemory) k p = tt
  by_close (Err errors.NoEndPoint) k p = absurd k
  by_close (Err errors.NoConnection) k p = absurd k
  by_close (Err errors.QueueFull) k p = absurd k
  by_close (Err errors.PayloadLong) k p = absurd k
  by_close (Err errors.Spent) k p = absurd k

  by_shut : (b : Bool) → there.1.is_shut ≡ b → AllFit (shut_node end cell (cond b (Err refusals.Dead) (Ok (acts.Note (notes.Shut there.1.own) ∷ [], shut_from there.1))))
  by_shut true h = f
  by_shut false h = answered_fit verdicts.Ok (acts_on end (acts.Note (notes.Shut there.1.own) ∷ []) now then (λ told. closes_after end told (host_close_endpoint told.host end)) then all_items)
      (chained (acts_on end (acts.Note (notes.Shut there.1.own) ∷ []) now then (λ told. closes_after end told (host_close_endpoint told.host end))) all_items
      (told_first (closes_after end now (host_close_endpoint cell.host end)) (by_close (host_close_endpoint cell.host end) (closes_all cell.host end d (stands_there end cell there found f h)) (endpoint_last cell.host end))) all_fit) where
        told_first : (more : Followed) → AllFit more → AllFit (after_entries (local.Note (notes.Shut there.1.own) ∷ []) more)
        told_first (Ok more) a = a
        told_first (Err stop) a = tt

-- ---- sockets

host_fit : (verdict : Verdict) (cell : Cell) (done : Stepped) → AllGo cell.host done → AllLast done → CellFits cell → AllFit (host_did verdict cell done)
host_fit verdict cell (Ok done) g p f = answered_fit verdict (steps_on done.0 (record cell { host = done.1 }) then all_items) (chained (steps_on done.0 (record cell { host = done.1 })) all_items (steps_from cell done.1 done.0 p g f) all_fit)
host_fit verdict cell (Err stop) g p f = tt

-- ---- one event

event_fit : (cell : Cell) (event : LocalEvent) → AllDiffer (numbers_of cell.host.ends) → CellFits cell → AllFit (cell_step cell event)
event_fit cell (events.Make end) d f = at_fit end cell (λ node. node_did end cell (node_make node)) f (λ there found. did_fit Any end cell there (node_make there.1) found (on_make there.1) tt f)
event_fit cell (events.Command end by command) d f = at_fit end cell (commanded end by command cell) f (λ there found.
    did_fit (RoomFits there.1 (target_node there.1 by command) (room_for cell.host end there.1.own (target_node there.1 by command))) end cell there (node_command there.1 by command (room_for cell.host end there.1.own (target_node there.1 by command))) found
    (on_command there.1 by command (room_for cell.host end there.1.own (target_node there.1 by command))) (room_fits cell.host end there.1 (target_node there.1 by command)) f)
event_fit cell (events.Shut end) d f = at_fit end cell (λ node. shut_node end cell (node_shut node)) f (λ there found. shut_fit end cell there found d f)
event_fit cell (events.Came mark sock peer_host) d f = host_fit verdicts.Ok cell (host_on cell.host (sockets.Came sock peer_host)) (event_goes cell.host (sockets.Came sock peer_host)) (event_last cell.host (sockets.Came sock peer_host)) f
event_fit cell (events.Socket event) d f = host_fit (heard_as cell.host event) cell (host_on cell.host event) (event_goes cell.host event) (event_last cell.host event) f

pub cell_fits : (cell after : Cell) (event : LocalEvent) (done : Verdict × List LocalEntry) → AllDiffer (numbers_of cell.host.ends) → CellFits cell → cell_step cell event ≡ Ok (done, after) → CellFits after
cell_fits cell after event done d f e = subst (λ (r : Celled). AllFit r) e (event_fit cell event d f)

pub cell_holds : (cell after : Cell) (event : LocalEvent) (done : Verdict × List LocalEntry) → CellHolds cell → cell_step cell event ≡ Ok (done, after) → CellHolds after
cell_holds cell after event done h e = (subst AllDiffer (sym (cell_after cell after event done e).host.ends) h.0, cell_fits cell after event done h.0 h.1 e)
