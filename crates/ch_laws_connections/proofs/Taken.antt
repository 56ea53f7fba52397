-- The host takes all that its nodes ask.
use Rattle.std.proofs.Common.{◌≡◌, ◌≤◌, ℕ, zero, suc, Bool, true, false, cond, List, [], ◌∷◌, Ok, Err, refl, sym, ap, subst, arith}
use Rattle.std.specs.Prelude.{find, Option, Some, None, Result}
use Rattle.ch_base.specs.declared.address.Address.{Address}
use Rattle.ch_base.specs.declared.event.Event.{Event}
use Rattle.ch_base.specs.declared.memory.Stop.{Stop}
use Rattle.ch_model.specs.declared.act.Act.{Act}
use Rattle.ch_model.specs.declared.act.Act.TheVariants as acts
use Rattle.ch_model.specs.declared.note.Note.TheVariants as notes
use Rattle.ch_model.specs.declared.command.CommandError.{CommandError}
use Rattle.ch_model.specs.declared.command.CommandError.TheVariants as refusals
use Rattle.ch_model.specs.declared.local.LocalEvent.{LocalEvent}
use Rattle.ch_model.specs.declared.local.LocalEvent.TheVariants as events
use Rattle.ch_model.specs.declared.step.EndError.{EndError}
use Rattle.ch_model.specs.declared.step.EndError.TheVariants as errors
use Rattle.ch_model.specs.declared.step.SocketEvent.TheVariants as sockets
use Rattle.ch_model.specs.declared.step.Step.{Step}
use Rattle.ch_model.specs.declared.step.Step.TheVariants as steps
use Rattle.ch_model.specs.Cell.{room_for}
use Rattle.ch_model.specs.CellSteps.{Followed, is_at, with_node, act_on, acts_on, posted, steps_on, kept_bytes}
use Rattle.ch_model.specs.Host.{host_on, host_next}
use Rattle.ch_model.specs.HostCalls.{host_connect, host_send, host_close, host_close_endpoint}
use Rattle.ch_model.specs.HostState.{HostState}
use Rattle.ch_model.specs.HostSteps.{Stepped}
use Rattle.ch_model.specs.NodeState.{NodeState}
use Rattle.ch_model.specs.Node.{node_make, node_command, node_event, node_shut, target_node}
use Rattle.ch_model.specs.WorldState.{Cell}
use Rattle.ch_laws_items.specs.Stays.{numbers_of}
use Rattle.ch_laws_log.proofs.Posts.{PostsLast, AllLast, next_last, event_last, endpoint_last}
use Rattle.ch_laws_connections.specs.Tables.{given_at, given_so, LinksApart, roomy_at}
use Rattle.ch_laws_connections.specs.Senders.{Sender, sender_of}
use Rattle.ch_laws_connections.specs.Fits.{Agrees, FitsAs, Fits, CellFits, CellHolds, AllDiffer}
use Rattle.ch_laws_connections.specs.Taken.{IsDone, IsDoneButLong, ActTaken, AfterThat, ActsTaken, MadeTaken, PostTaken, StepsTaken, StepsThen, NextTaken, ItemsTaken, AllItemsTaken, CallTaken, CloseTaken, ShutTaken, HostTaken, AtNode, EventTaken}
use Rattle.ch_laws_connections.proofs.HostLinks.{Goes, AllGo}
use Rattle.ch_laws_connections.proofs.HostItems.{next_goes, event_goes}
use Rattle.ch_laws_connections.proofs.HostCalls.{SetsFree, IsTaken, with_opened, connected, SentButLong, takes_payload, ClosesAll, closed_conn}
use Rattle.ch_laws_connections.proofs.Acts.{After, open_room, act_fits}
use Rattle.ch_laws_connections.proofs.Does.{Any, AllDo}
use Rattle.ch_laws_connections.proofs.Nodes.{RoomFits, on_make, on_command}
use Rattle.ch_laws_connections.proofs.Cells.{AllFit, Awaits, sizes, node_fits, acts_all, awaits, awaits_same, event_fits, steps_from}
use Rattle.ch_laws_connections.proofs.Shuts.{AllDark, closes_all}
use Rattle.ch_laws_connections.proofs.CellSteps.{others_fit, room_fits, shut_from, dark_cell, stands_there}

-- ---- one act

opened_so : (P : HostState → Type 0) (r : Result (List Step × HostState) EndError) → IsTaken P r → IsDone r
opened_so P (Ok done) t = tt
opened_so P (Err errors.Worn) t = tt
opened_so P (Err errors.OutOfMemory) t = tt
opened_so P (Err errors.NoEndPoint) t = absurd t
opened_so P (Err errors.NoConnection) t = absurd t
opened_so P (Err errors.QueueFull) t = absurd t
opened_so P (Err errors.PayloadLong) t = absurd t
opened_so P (Err errors.Spent) t = absurd t

sent_so : (payload : List ℕ) (r : Result (List Step × HostState) EndError) → SentButLong payload r → IsDoneButLong payload r
sent_so payload (Ok done) t = tt
sent_so payload (Err errors.Worn) t = tt
sent_so payload (Err errors.OutOfMemory) t = tt
sent_so payload (Err errors.PayloadLong) t = t
sent_so payload (Err errors.NoEndPoint) t = absurd t
sent_so payload (Err errors.NoConnection) t = absurd t
sent_so payload (Err errors.QueueFull) t = absurd t
sent_so payload (Err errors.Spent) t = absurd t

closed_so : (host : HostState) (end conn : ℕ) (peer : Address) (r : Result (List Step × HostState) EndError) → 1 ≤ given_so host end conn peer → ClosesAll host end conn r → IsDone r
closed_so host end conn peer (Ok done) l t = tt
closed_so host end conn peer (Err errors.NoConnection) l t = absurd (never (given_so host end conn peer) l (t peer)) where
  never : (n : ℕ) → 1 ≤ n → n ≡ 0 → ⊥
  never n l e = omega arith
closed_so host end conn peer (Err errors.Worn) l t = tt
closed_so host end conn peer (Err errors.OutOfMemory) l t = tt
closed_so host end conn peer (Err errors.NoEndPoint) l t = absurd t
closed_so host end conn peer (Err errors.QueueFull) l t = absurd t
closed_so host end conn peer (Err errors.PayloadLong) l t = absurd t
closed_so host end conn peer (Err errors.Spent) l t = absurd t

act_taken : (end n : ℕ) (act : Act) (rest : List Act) (s : Sender) (host : HostState) → LinksApart host.links → Agrees host end n (act ∷ rest) s → ActTaken end host act
act_taken end n (acts.Note note) rest s host l a = tt
act_taken end n (acts.Open conn peer) rest s host l a = opened_so (SetsFree (with_opened host end peer conn) host) (host_connect host end peer conn) (connected host end peer conn a.standing (open_room end n rest s conn peer host host a))
act_taken end n (acts.Put conn payload weight) rest s host l a = sent_so payload (host_send host end conn payload weight) (takes_payload host end conn payload weight l a.used.0.0 a.used.0.1 (λ other x. a.one_link conn a.used.0.0 other a.used.0.1 x) a.used.0.2)
act_taken end n (acts.Close conn) rest s host l a = closed_so host end conn a.used.0.0 (host_close host end conn) a.used.0.1 (closed_conn host end conn l)

-- ---- some acts

acts_taken : (end : ℕ) (done : List Act) (s : Sender) (cell : Cell) → LinksApart cell.host.links → FitsAs false cell.host end done s → ActsTaken end done cell
acts_taken end [] s cell l f = tt
acts_taken end (act ∷ rest) s cell l f = (act_taken end f.0 act rest s cell.host l f.1, by_next (act_on end act cell) (act_fits false end act rest s cell l f) (acts_taken end rest s)) where
  by_next : (r : Followed) → After end cell false rest s r → ((next : Cell) → LinksApart next.host.links → FitsAs false next.host end rest s → ActsTaken end rest next) → AfterThat r (λ next. ActsTaken end rest next)
  by_next (Ok r) a more = more r.1 (a.1.apart l) a.2
  by_next (Err stop) a more = tt

node_taken : (end : ℕ) (cell : Cell) (one : List Act × NodeState) → LinksApart cell.host.links → Fits cell.host end one.0 (sender_of one.1) → one.1.is_shut ≡ false → ActsTaken end one.0 (with_node end one.1 cell)
node_taken end cell one l f standing = acts_taken end one.0 (sender_of one.1) (with_node end one.1 cell) l (subst (λ b. FitsAs b cell.host end one.0 (sender_of one.1)) standing f.1)

after_that : (r : Followed) (P : Cell → Type 0) → AllFit r → ((next : Cell) → CellFits next → P next) → AfterThat r P
after_that (Ok r) P f k = k r.1 f
after_that (Err stop) P f k = tt

-- ---- the steps of a host

made_taken : (end : ℕ) (cell : Cell) (r : Result (List Act × NodeState) Stop) → LinksApart cell.host.links → ((one : List Act × NodeState) → r ≡ Ok one → Fits cell.host end one.0 (sender_of one.1)) → MadeTaken end cell r
made_taken end cell (Ok one) l f = node_taken end cell one l (f one refl)
made_taken end cell (Err stop) l f = tt

post_taken : (end : ℕ) (event : Event) (cell : Cell) → Awaits (steps.Post end event ∷ []) cell → PostTaken (find (is_at end) cell.nodes) (steps.Post end event) cell
post_taken end event cell w = by_node (find (is_at end) cell.nodes) refl where
  by_node : (o : Option (ℕ × NodeState)) → find (is_at end) cell.nodes ≡ o → PostTaken o (steps.Post end event) cell
  by_node None e = tt
  by_node (Some node) e = made_taken end cell (node_event node.1 event) w.links (event_fits end event cell node.1 (w.nodes end node e))

nothing_more : (r : Followed) → AfterThat r (λ next. StepsTaken [] next)
nothing_more (Ok r) = tt
nothing_more (Err stop) = tt

dial_plain : (o : Option (ℕ × NodeState)) (sock end : ℕ) (peer : Address) (cell : Cell) → PostTaken o (steps.Dial sock end peer) cell
dial_plain None sock end peer cell = tt
dial_plain (Some node) sock end peer cell = tt

read_plain : (o : Option (ℕ × NodeState)) (sock : ℕ) (cell : Cell) → PostTaken o (steps.Read sock) cell
read_plain None sock cell = tt
read_plain (Some node) sock cell = tt

write_plain : (o : Option (ℕ × NodeState)) (sock : ℕ) (bytes : List ℕ) (said : Option Rattle.ch_model.specs.declared.step.Place.Place) (cell : Cell) → PostTaken o (steps.Write sock bytes said) cell
write_plain None sock bytes said cell = tt
write_plain (Some node) sock bytes said cell = tt

up_plain : (o : Option (ℕ × NodeState)) (sock : ℕ) (cell : Cell) → PostTaken o (steps.Up sock) cell
up_plain None sock cell = tt
up_plain (Some node) sock cell = tt

down_plain : (o : Option (ℕ × NodeState)) (sock : ℕ) (cell : Cell) → PostTaken o (steps.Down sock) cell
down_plain None sock cell = tt
down_plain (Some node) sock cell = tt

left_plain : (o : Option (ℕ × NodeState)) (sock : ℕ) (cell : Cell) → PostTaken o (steps.Left sock) cell
left_plain None sock cell = tt
left_plain (Some node) sock cell = tt

broke_plain : (o : Option (ℕ × NodeState)) (end : ℕ) (peer : Address) (why : Rattle.ch_base.specs.declared.event.Why.Why) (cell : Cell) → PostTaken o (steps.Broke end peer why) cell
broke_plain None end peer why cell = tt
broke_plain (Some node) end peer why cell = tt

steps_taken : (told : List Step) (cell : Cell) → PostsLast told → Awaits told cell → StepsTaken told cell
steps_taken [] cell p w = tt
steps_taken (steps.Post end event ∷ rest) cell p w = (post_taken end event cell (subst (λ (l : List Step). Awaits (steps.Post end event ∷ l) cell) p w), subst (λ (l : List Step). AfterThat (posted end event cell) (λ next. StepsTaken l next)) (sym p) (nothing_more (posted end event cell)))
steps_taken (steps.Dial sock end peer ∷ rest) cell p w = (dial_plain (find (is_at 0) cell.nodes) sock end peer cell, steps_taken rest cell p (awaits_same (steps.Dial sock end peer ∷ rest) rest (λ e q. refl) cell w))
steps_taken (steps.Read sock ∷ rest) cell p w = (read_plain (find (is_at 0) cell.nodes) sock cell, steps_taken rest cell p (awaits_same (steps.Read sock ∷ rest) rest (λ e q. refl) cell w))
steps_taken (steps.Write sock bytes said ∷ rest) cell p w = (write_plain (find (is_at 0) cell.nodes) sock bytes said cell, steps_taken rest cell p (awaits_same (steps.Write sock bytes said ∷ rest) rest (λ e q. refl) cell w))
steps_taken (steps.Up sock ∷ rest) cell p w = (up_plain (find (is_at 0) cell.nodes) sock cell, steps_taken rest cell p (awaits_same (steps.Up sock ∷ rest) rest (λ e q. refl) cell w))
steps_taken (steps.Down sock ∷ rest) cell p w = (down_plain (find (is_at 0) cell.nodes) sock cell, steps_taken rest cell p (awaits_same (steps.Down sock ∷ rest) rest (λ e q. refl) cell w))
steps_taken (steps.Left sock ∷ rest) cell p w = (left_plain (find (is_at 0) cell.nodes) sock cell, steps_taken rest cell p (awaits_same (steps.Left sock ∷ rest) rest (λ e q. refl) cell w))
steps_taken (steps.Broke end peer why ∷ rest) cell p w = (broke_plain (find (is_at 0) cell.nodes) end peer why cell, steps_taken rest cell p (awaits_same (steps.Broke end peer why ∷ rest) rest (λ e q. refl) cell w))

-- the steps of a host from the cell before them, and what follows
steps_then : (cell : Cell) (after : HostState) (told : List Step) (P : Cell → Type 0) → PostsLast told → Goes cell.host told after → CellFits cell → ((next : Cell) → CellFits next → P next) → StepsThen told (record cell { host = after }) P
steps_then cell after told P p g f k = (steps_taken told (record cell { host = after }) p (awaits cell after told g f), after_that (steps_on told (record cell { host = after })) P (steps_from cell after told p g f) k)

-- ---- items

items_taken : (fuel : ℕ) (cell : Cell) → CellFits cell → ItemsTaken fuel cell
items_taken zero cell f = tt
items_taken (suc fuel) cell f = by_next (host_next cell.host) refl (items_taken fuel) where
  by_next : (r : Result (Option (List Step) × HostState) Stop) → host_next cell.host ≡ r → ((next : Cell) → CellFits next → ItemsTaken fuel next) → NextTaken cell (λ next. ItemsTaken fuel next) r
  by_next (Err stop) e more = tt
  by_next (Ok (None, host)) e more = tt
  by_next (Ok (Some done, host)) e more = steps_then cell host done (λ next. ItemsTaken fuel next) (next_last cell.host host done e) (next_goes cell.host host done e) f more

all_taken : (cell : Cell) → CellFits cell → AllItemsTaken cell
all_taken cell f = items_taken (kept_bytes cell.host) cell f

-- ---- one event

call_taken : (Fit : (Address → ℕ) → (Address → Bool) → Type 0) (end : ℕ) (cell : Cell) (there : ℕ × NodeState) (r : Result (List Act × NodeState) CommandError) → find (is_at end) cell.nodes ≡ Some there → AllDo Fit (sender_of there.1) r → Fit (sizes cell.host end) (roomy_at cell.host end) → CellFits cell → CallTaken end cell r
call_taken Fit end cell there (Ok one) found d fit f = let fits = node_fits Fit cell.host end one.0 (sender_of there.1) (sender_of one.1) d fit (f.nodes end there found) in
    (node_taken end cell one f.links fits, after_that (acts_on end one.0 (with_node end one.1 cell)) AllItemsTaken (acts_all end one.1 one.0 cell (others_fit end cell f) fits) all_taken)
call_taken Fit end cell there (Err e) found d fit f = tt

at_taken : (end : ℕ) (cell : Cell) (P : NodeState → Type 0) → ((there : ℕ × NodeState) → find (is_at end) cell.nodes ≡ Some there → P there.1) → AtNode (find (is_at end) cell.nodes) P
at_taken end cell P k = by_node (find (is_at end) cell.nodes) refl where
  by_node : (o : Option (ℕ × NodeState)) → find (is_at end) cell.nodes ≡ o → AtNode o P
  by_node None e = tt
  by_node (Some node) e = k node e

shut_taken : (end : ℕ) (cell : Cell) (there : ℕ × NodeState) → find (is_at end) cell.nodes ≡ Some there → AllDiffer (numbers_of cell.host.ends) → CellFits cell → ShutTaken end cell (node_shut there.1)
unfolding node_shut
shut_taken end cell there found d f = by_shut there.1.is_shut refl where
  now : Cell
  now = with_node end (shut_from there.1) cell

  by_close : (r : Result (List Step × HostState) EndError) → AllDark end cell.host r → AllLast r → CloseTaken now r
  by_close (Ok done) k p = let dark = dark_cell end cell there done.1 found f k.0 in
      steps_then (record now { host = done.1 }) done.1 done.0 AllItemsTaken p (record { given = λ e q. sym (ap (λ b. cond b [] (given_at done.1 e q)) (k.1 e q)); apart = λ a. a; ends = λ e. refl }) dark all_taken
  by_close (Err errors.Worn) k p = tt
  by_close (Err errors.OutOfMemory) k p = tt
  by_close (Err errors.NoEndPoint) k p = absurd k
  by_close (Err errors.NoConnection) k p = absurd k
  by_close (Err errors.QueueFull) k p = absurd k
  by_close (Err errors.PayloadLong) k p = absurd k
  by_close (Err errors.Spent) k p = absurd k

  by_shut : (b : Bool) → there.1.is_shut ≡ b → ShutTaken end cell (cond b (Err refusals.Dead) (Ok (acts.Note (notes.Shut there.1.own) ∷ [], shut_from there.1)))
  by_shut true h = tt
  by_shut false h = by_close (host_close_endpoint cell.host end) (closes_all cell.host end d (stands_there end cell there found f h)) (endpoint_last cell.host end)

host_taken : (cell : Cell) (r : Stepped) → AllGo cell.host r → AllLast r → CellFits cell → HostTaken cell r
host_taken cell (Ok done) g p f = steps_then cell done.1 done.0 AllItemsTaken p g f all_taken
host_taken cell (Err stop) g p f = tt

pub event_taken : (cell : Cell) (event : LocalEvent) → CellHolds cell → EventTaken cell event
event_taken cell (events.Make end) h = at_taken end cell (λ node. CallTaken end cell (node_make node)) (λ there found. call_taken Any end cell there (node_make there.1) found (on_make there.1) tt h.1)
event_taken cell (events.Command end by command) h = at_taken end cell (λ node. CallTaken end cell (node_command node by command (room_for cell.host end node.own (target_node node by command)))) (λ there found.
    call_taken (RoomFits there.1 (target_node there.1 by command) (room_for cell.host end there.1.own (target_node there.1 by command))) end cell there (node_command there.1 by command (room_for cell.host end there.1.own (target_node there.1 by command))) found
    (on_command there.1 by command (room_for cell.host end there.1.own (target_node there.1 by command))) (room_fits cell.host end there.1 (target_node there.1 by command)) h.1)
event_taken cell (events.Shut end) h = at_taken end cell (λ node. ShutTaken end cell (node_shut node)) (λ there found. shut_taken end cell there found h.0 h.1)
event_taken cell (events.Came mark sock peer_host) h = host_taken cell (host_on cell.host (sockets.Came sock peer_host)) (event_goes cell.host (sockets.Came sock peer_host)) (event_last cell.host (sockets.Came sock peer_host)) h.1
event_taken cell (events.Socket event) h = host_taken cell (host_on cell.host event) (event_goes cell.host event) (event_last cell.host event) h.1
