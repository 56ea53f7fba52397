-- What a cell makes of one event leaves each of its nodes with what the host has created; and so it begins.
use Rattle.std.proofs.Common.{◌≡◌, ◌≤◌, ℕ, Bool, true, false, cond, List, [], ◌∷◌, ◌++◌, map, Ok, Err, refl, sym, ap, ◌∙◌, subst, arith}
use Rattle.std.specs.List.{list_any}
use Rattle.std.specs.Prelude.{find, ◌==◌, Option, Some, None, Result}
use Rattle.ch_base.specs.declared.address.Address.{Address}
use Rattle.ch_model.specs.declared.act.Act.{Act}
use Rattle.ch_model.specs.declared.act.Act.TheVariants as acts
use Rattle.ch_model.specs.declared.note.Note.TheVariants as notes
use Rattle.ch_model.specs.declared.command.CommandError.{CommandError}
use Rattle.ch_model.specs.declared.command.CommandError.TheVariants as refusals
use Rattle.ch_model.specs.declared.entry.Entry.{Entry}
use Rattle.ch_model.specs.declared.entry.Verdict.{Verdict}
use Rattle.ch_model.specs.declared.entry.Verdict.TheVariants as verdicts
use Rattle.ch_model.specs.declared.line.Line.{Line}
use Rattle.ch_model.specs.declared.local.LocalEntry.{LocalEntry}
use Rattle.ch_model.specs.declared.local.LocalEntry.TheVariants as local
use Rattle.ch_model.specs.declared.local.LocalEvent.{LocalEvent}
use Rattle.ch_model.specs.declared.local.LocalEvent.TheVariants as events
use Rattle.ch_model.specs.declared.step.EndError.{EndError}
use Rattle.ch_model.specs.declared.step.EndError.TheVariants as errors
use Rattle.ch_model.specs.declared.step.SocketEvent.TheVariants as sockets
use Rattle.ch_model.specs.declared.step.Step.{Step}
use Rattle.ch_model.specs.CellSteps.{Followed, after_entries, ◌then◌, is_at, with_node, acts_on, steps_on, all_items}
use Rattle.ch_model.specs.Cell.{Celled, answered, refused, refusal, node_did, at_node, room_for, commanded, closes_after, shut_node, host_did, heard_as, cell_step, opened_for, cell_new}
use Rattle.ch_model.specs.Host.{host_on}
use Rattle.ch_model.specs.HostCalls.{host_new, host_open, host_close_endpoint}
use Rattle.ch_model.specs.HostState.{Link, HostState}
use Rattle.ch_model.specs.HostSteps.{Stepped, is_endpoint}
use Rattle.ch_model.specs.NodeState.{NodeState}
use Rattle.ch_model.specs.Node.{node_new, node_make, node_command, node_shut, target_node}
use Rattle.ch_model.specs.World.{cell_at, first_of_hosts, nodes_of, world_new, log_from}
use Rattle.ch_model.specs.WorldState.{Cell, World}
use Rattle.ch_laws_items.specs.Stays.{numbers_of}
use Rattle.ch_laws_log.proofs.Posts.{AllLast, event_last, endpoint_last}
use Rattle.ch_laws_connections.specs.Tables.{given_at}
use Rattle.ch_laws_connections.specs.Senders.{sender_of}
use Rattle.ch_laws_connections.specs.Fits.{CellFits, CellHolds, AllDiffer, AllCells}
use Rattle.ch_laws_connections.specs.Tables.{roomy_at}
use Rattle.ch_laws_connections.specs.Arrivals.{made_so, MeetsAs, CellMeets}
use Rattle.ch_laws_connections.proofs.HostLinks.{Goes, AllGo}
use Rattle.ch_laws_connections.proofs.HostItems.{event_goes}
use Rattle.ch_laws_connections.proofs.Does.{Any, AllDo}
use Rattle.ch_laws_connections.proofs.Nodes.{RoomFits, on_make, on_command}
use Rattle.ch_laws_connections.proofs.Arriving as arriving
use Rattle.ch_laws_connections.proofs.Cells.{AllFit, sizes, node_fits, acts_all, steps_from, steps_dark, stored_there, stored_other}
use Rattle.ch_laws_connections.proofs.Shuts.{AllDark, closes_all}
use Rattle.ch_laws_connections.proofs.CellSteps.{others_fit, room_fits, shut_from, dark_cell, stands_there, cell_holds}
use Rattle.ch_laws_connections.proofs.MadeItems.{AllCome, event_comes}
use Rattle.ch_laws_connections.proofs.MadeCalls.{OthersSame, AllOthers, closed_others, ShutSteps, shut_steps}
use Rattle.ch_laws_connections.proofs.MadeCells.{AllMeet, quiet_meets, listed_meets, acts_meet, steps_all, chained_meet, all_meet}
use Rattle.ch_laws_connections.proofs.NewCells.{new_cells}
use Rattle.ch_laws_connections.proofs.Worlds.{cells_after}
use Rattle.ch_laws_connections.proofs.OpenGiven.{every_cell}

answered_meet : (verdict : Verdict) (done : Followed) → AllMeet done → AllMeet (answered verdict done)
answered_meet verdict (Ok done) m = m
answered_meet verdict (Err stop) m = tt

refusal_meets : (e : CommandError) (cell : Cell) → CellMeets cell → AllMeet (refusal e cell)
refusal_meets refusals.OutOfMemory cell m = tt
refusal_meets refusals.Worn cell m = tt
refusal_meets refusals.Unknown cell m = m
refusal_meets refusals.Dead cell m = m
refusal_meets refusals.Long cell m = m
refusal_meets refusals.Full cell m = m
refusal_meets refusals.Spent cell m = m
refusal_meets refusals.Taken cell m = m
refusal_meets refusals.NoName cell m = m
refusal_meets refusals.NoRef cell m = m
refusal_meets refusals.Empty cell m = m
refusal_meets refusals.Hale cell m = m

did_meet : (Fit : (Address → ℕ) → (Address → Bool) → Type 0) (end : ℕ) (cell : Cell) (there : ℕ × NodeState) (r : Result (List Act × NodeState) CommandError) → find (is_at end) cell.nodes ≡ Some there → AllDo Fit (sender_of there.1) r → arriving.Stays there.1 r → Fit (sizes cell.host end) (roomy_at cell.host end) → CellFits cell → CellMeets cell → AllMeet (node_did end cell r)
did_meet Fit end cell there (Ok one) found d s fit f m =
    let fits = node_fits Fit cell.host end one.0 (sender_of there.1) (sender_of one.1) d fit (f.nodes end there found) in
    let shut = (d (f.nodes end there found).0).shut in
    answered_meet verdicts.Ok (acts_on end one.0 (with_node end one.1 cell) then all_items) (chained_meet (acts_on end one.0 (with_node end one.1 cell)) all_items (acts_all end one.1 one.0 cell (others_fit end cell f) fits)
    (acts_meet end one.1 one.0 cell f.links fits (λ e x h at. m e x at) (subst (λ b. MeetsAs b cell.host end one.1.arrived) (sym shut) (listed_meets there.1.is_shut cell.host end there.1.arrived one.1.arrived s (m end there found)))) all_meet)
did_meet Fit end cell there (Err e) found d s fit f m = refusal_meets e cell m

at_meet : (end : ℕ) (cell : Cell) (f : NodeState → Celled) → CellMeets cell → ((there : ℕ × NodeState) → find (is_at end) cell.nodes ≡ Some there → AllMeet (f there.1)) → AllMeet (at_node end cell f)
at_meet end cell f c k = by_node (find (is_at end) cell.nodes) refl where
  by_node : (o : Option (ℕ × NodeState)) → find (is_at end) cell.nodes ≡ o → AllMeet (elim o as (λ o. Celled) [
    | None ↦ refused verdicts.Nothing cell
    | Some node ↦ f node.1
  ])
  by_node None found = c
  by_node (Some node) found = k node found

-- ---- a node is shut

shut_meet : (end : ℕ) (cell : Cell) (there : ℕ × NodeState) → find (is_at end) cell.nodes ≡ Some there → AllDiffer (numbers_of cell.host.ends) → CellFits cell → CellMeets cell → AllMeet (shut_node end cell (node_shut there.1))
unfolding node_shut
shut_meet end cell there found d f m = by_shut there.1.is_shut refl where
  now : Cell
  now = with_node end (shut_from there.1) cell

  dark_meets : (host : HostState) → OthersSame end cell.host host → CellMeets (record now { host = host })
  dark_meets host k e x at = by_end (end == e) refl where
    by_end : (b : Bool) → (end == e) ≡ b → MeetsAs x.1.is_shut host e x.1.arrived
    by_end true h = subst (λ (n : NodeState). MeetsAs n.is_shut host e n.arrived) (sym (stored_there end (shut_from there.1) e x cell.nodes at h)) tt
    by_end false h = quiet_meets x.1.is_shut cell.host host e x.1.arrived (λ p. k.made e p h) (k.counts e h) (m e x (stored_other end (shut_from there.1) e x cell.nodes at h))

  -- steps that tell of a failed link or of a connection are none of these
  by_close : (r : Result (List Step × HostState) EndError) → AllDark end cell.host r → AllLast r → AllOthers end cell.host r → ShutSteps end cell.host r → AllMeet (closes_after end now r) × AllFit (closes_after end now r)
  by_close (Ok done) k p o t =
      let fits = dark_cell end cell there done.1 found f k.0 in
      let still : Goes done.1 done.0 done.1 = record { given = λ e q. sym (ap (λ b. cond b [] (given_at done.1 e q)) (k.1 e q)); apart = λ a. a; ends = λ e. refl } in
      (steps_all (record now { host = done.1 }) done.1 done.0 p still (λ e has. record { kept = λ x. x; made = λ x c q. sym (t e c q (made_so done.1 e c q)) }) fits (dark_meets done.1 o), steps_dark done.0 (record now { host = done.1 }) p k.1 fits)
  by_close (Err errors.Worn) k p o t = (tt, tt)
  by_close (Err errors.OutOfMemory) k p o t = (tt, tt)
  by_close (Err errors.NoEndPoint) k p o t = absurd k
  by_close (Err errors.NoConnection) k p o t = absurd k
  by_close (Err errors.QueueFull) k p o t = absurd k
  by_close (Err errors.PayloadLong) k p o t = absurd k
  by_close (Err errors.Spent) k p o t = absurd k

  note_fits : (more : Followed) → AllFit more → AllFit (after_entries (local.Note (notes.Shut there.1.own) ∷ []) more)
  note_fits (Ok more) a = a
  note_fits (Err stop) a = tt

  note_meets : (more : Followed) → AllMeet more → AllMeet (after_entries (local.Note (notes.Shut there.1.own) ∷ []) more)
  note_meets (Ok more) a = a
  note_meets (Err stop) a = tt

  by_shut : (b : Bool) → there.1.is_shut ≡ b → AllMeet (shut_node end cell (cond b (Err refusals.Dead) (Ok (acts.Note (notes.Shut there.1.own) ∷ [], shut_from there.1))))
  by_shut true h = m
  by_shut false h = let both = by_close (host_close_endpoint cell.host end) (closes_all cell.host end d (stands_there end cell there found f h)) (endpoint_last cell.host end) (closed_others cell.host end) (shut_steps end cell.host) in
      answered_meet verdicts.Ok (acts_on end (acts.Note (notes.Shut there.1.own) ∷ []) now then (λ told. closes_after end told (host_close_endpoint told.host end)) then all_items)
      (chained_meet (acts_on end (acts.Note (notes.Shut there.1.own) ∷ []) now then (λ told. closes_after end told (host_close_endpoint told.host end))) all_items (note_fits (closes_after end now (host_close_endpoint cell.host end)) both.1) (note_meets (closes_after end now (host_close_endpoint cell.host end)) both.0) all_meet)

-- ---- one event

host_meet : (verdict : Verdict) (cell : Cell) (r : Stepped) → AllGo cell.host r → AllLast r → ((end : ℕ) → AllCome end cell.host r) → CellFits cell → CellMeets cell → AllMeet (host_did verdict cell r)
host_meet verdict cell (Ok done) g p c f m = answered_meet verdict (steps_on done.0 (record cell { host = done.1 }) then all_items) (chained_meet (steps_on done.0 (record cell { host = done.1 })) all_items (steps_from cell done.1 done.0 p g f) (steps_all cell done.1 done.0 p g (λ end has. c end) f m) all_meet)
host_meet verdict cell (Err stop) g p c f m = tt

event_meet : (cell : Cell) (event : LocalEvent) → CellHolds cell → CellMeets cell → AllMeet (cell_step cell event)
event_meet cell (events.Make end) h m = at_meet end cell (λ node. node_did end cell (node_make node)) m (λ there found. did_meet Any end cell there (node_make there.1) found (on_make there.1) (arriving.on_make there.1) tt h.1 m)
event_meet cell (events.Command end by command) h m = at_meet end cell (commanded end by command cell) m (λ there found.
    did_meet (RoomFits there.1 (target_node there.1 by command) (room_for cell.host end there.1.own (target_node there.1 by command))) end cell there (node_command there.1 by command (room_for cell.host end there.1.own (target_node there.1 by command))) found
    (on_command there.1 by command (room_for cell.host end there.1.own (target_node there.1 by command))) (arriving.on_command there.1 by command (room_for cell.host end there.1.own (target_node there.1 by command))) (room_fits cell.host end there.1 (target_node there.1 by command)) h.1 m)
event_meet cell (events.Shut end) h m = at_meet end cell (λ node. shut_node end cell (node_shut node)) m (λ there found. shut_meet end cell there found h.0 h.1 m)
event_meet cell (events.Came mark sock peer_host) h m = host_meet verdicts.Ok cell (host_on cell.host (sockets.Came sock peer_host)) (event_goes cell.host (sockets.Came sock peer_host)) (event_last cell.host (sockets.Came sock peer_host)) (λ end. event_comes end cell.host (sockets.Came sock peer_host)) h.1 m
event_meet cell (events.Socket event) h m = host_meet (heard_as cell.host event) cell (host_on cell.host event) (event_goes cell.host event) (event_last cell.host event) (λ end. event_comes end cell.host event) h.1 m

abbrev pub Both : Cell → Type 0
Both cell = CellHolds cell × CellMeets cell

pub cell_meets : (cell after : Cell) (event : LocalEvent) (done : Verdict × List LocalEntry) → CellHolds cell → CellMeets cell → cell_step cell event ≡ Ok (done, after) → CellMeets after
cell_meets cell after event done h m e = subst (λ (r : Celled). AllMeet r) e (event_meet cell event h m)

-- ---- new cells, and worlds

opened_links : (end : ℕ) (host : HostState) → (host_open host end).1.links ≡ host.links
unfolding host_open
opened_links end host = by_test (list_any (is_endpoint end) host.ends) where
  by_test : (b : Bool) → (cond {A = Bool × HostState} b (false, host) (true, record host { ends = host.ends ++ record { number = end; is_open = true; arrived = 0 } ∷ [] })).1.links ≡ host.links
  by_test true = refl
  by_test false = refl

links_none : (nodes : List (ℕ × NodeState)) (host : HostState) → host.links ≡ [] → (opened_for nodes host).links ≡ []
links_none [] host e = e
links_none (node ∷ rest) host e = links_none rest (host_open host node.0).1 (one_open node.0 host e) where
  one_open : (end : ℕ) (host : HostState) → host.links ≡ [] → (host_open host end).1.links ≡ []
  one_open end host e = opened_links end host ∙ e

new_meets : (host : List ℕ) (port : ℕ) (circle : List (List ℕ)) (nodes : List (ℕ × ℕ × List (List ℕ))) → CellMeets (cell_new host port circle nodes)
unfolding node_new
new_meets host port circle nodes end there found = in_all nodes found where
  made : List (ℕ × ℕ × List (List ℕ)) → List (ℕ × NodeState)
  made l = map (λ (node : ℕ × ℕ × List (List ℕ)). (node.0, node_new (record { host = host; port = port; id = node.0 }) node.1 node.2)) l

  now : HostState
  now = opened_for (made nodes) (host_new host port circle)

  few : 0 ≤ 1
  few = omega arith

  never : 1 ≤ 0 → ⊥
  never l = omega arith

  so : (c : ℕ) (p : Address) → made_so now end c p ≡ 0
  so c p = ap (λ (l : List Link). made_so (record now { links = l }) end c p) (links_none (made nodes) (host_new host port circle) refl)

  bare : MeetsAs false now end []
  bare = (record { alone = λ c p. subst (λ (n : ℕ). n ≤ 1) (sym (so c p)) few; one_link = λ c p q x y. absurd (never (subst (λ (n : ℕ). 1 ≤ n) (so c p) x)); drawn = λ c p x. absurd (never (subst (λ (n : ℕ). 1 ≤ n) (so c p) x)) }, so)

  in_all : (l : List (ℕ × ℕ × List (List ℕ))) → find (is_at end) (made l) ≡ Some there → MeetsAs there.1.is_shut now end there.1.arrived
  in_all [] e = absurd cc
  in_all (node ∷ rest) e = by_test (node.0 == end) e (in_all rest) where
    one : ℕ × NodeState
    one = (node.0, node_new (record { host = host; port = port; id = node.0 }) node.1 node.2)

    by_test : (b : Bool) → cond b (Some one) (find (is_at end) (made rest)) ≡ Some there → (find (is_at end) (made rest) ≡ Some there → MeetsAs there.1.is_shut now end there.1.arrived) → MeetsAs there.1.is_shut now end there.1.arrived
    by_test true e ih = let this : one ≡ there = cc in subst (λ (n : ℕ × NodeState). MeetsAs n.1.is_shut now end n.1.arrived) this bare
    by_test false e ih = ih e

pub fresh_meets : (host : List ℕ) (port : ℕ) (circle : List (List ℕ)) (nodes : List (ℕ × ℕ × List (List ℕ))) → CellMeets (cell_new host port circle nodes)
fresh_meets = new_meets

new_both : (journal : List Line) → AllCells Both (world_new journal).cells
new_both journal = of_all (first_of_hosts [] (nodes_of journal)) (new_cells journal) where
  of_all : (addresses : List Address) → AllCells CellHolds (map (λ (address : Address). (cell_at journal address, 0)) addresses) → AllCells Both (map (λ (address : Address). (cell_at journal address, 0)) addresses)
  of_all [] a = tt
  of_all (address ∷ rest) a = ((a.0, new_meets address.host address.port _ _), of_all rest a.1)

pub worlds_meet : (journal lines : List Line) (log : List Entry) (world : World) → log_from (world_new journal) lines ≡ Ok (log, world) → AllCells CellMeets world.cells
worlds_meet journal lines log world e = every_cell Both CellMeets (λ cell b. b.1) world.cells (cells_after Both (λ cell after event done b s. (cell_holds cell after event done b.0 s, cell_meets cell after event done b.0 b.1 s)) (world_new journal) world lines log (new_both journal) e)
