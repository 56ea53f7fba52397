-- What follows at a cell is told as the rolls of its nodes permit.
use Rattle.std.proofs.Common.{◌≡◌, ℕ, zero, suc, Bool, true, false, cond, ◌==◌, List, [], ◌∷◌, ◌++◌, Ok, Err, refl, sym, ap, ◌∙◌, subst}
use Rattle.std.specs.Prelude.{find, Result, Option, Some, None}
use Rattle.ch_base.specs.declared.event.Event.{Event}
use Rattle.ch_base.specs.declared.memory.Stop.{Stop}
use Rattle.ch_model.specs.declared.act.Act.{Act}
use Rattle.ch_model.specs.declared.act.Act.TheVariants as acts
use Rattle.ch_model.specs.declared.command.CommandError.{CommandError}
use Rattle.ch_model.specs.declared.command.CommandError.TheVariants as refusals
use Rattle.ch_model.specs.declared.entry.Verdict.{Verdict}
use Rattle.ch_model.specs.declared.entry.Verdict.TheVariants as verdicts
use Rattle.ch_model.specs.declared.local.LocalEntry.{LocalEntry}
use Rattle.ch_model.specs.declared.local.LocalEntry.TheVariants as local
use Rattle.ch_model.specs.declared.local.LocalEvent.{LocalEvent}
use Rattle.ch_model.specs.declared.local.LocalEvent.TheVariants as events
use Rattle.ch_model.specs.declared.step.EndError.{EndError}
use Rattle.ch_model.specs.declared.step.EndError.TheVariants as errors
use Rattle.ch_model.specs.declared.step.SocketEvent.TheVariants as sockets
use Rattle.ch_model.specs.declared.step.Step.{Step}
use Rattle.ch_model.specs.declared.step.Step.TheVariants as steps
use Rattle.ch_model.specs.Cell.{Celled, answered, refused, refusal, node_did, at_node, commanded, room_for, closes_after, shut_node, host_did, heard_as, cell_step}
use Rattle.ch_model.specs.CellSteps.{Followed, after_entries, ◌then◌, is_at, store_node, with_node, told_steps, asked, acts_on, node_followed, posted, step_on, steps_on, kept_bytes, items_on, all_items}
use Rattle.ch_model.specs.Host.{host_on, host_next}
use Rattle.ch_model.specs.HostCalls.{host_connect, host_send, host_close, host_close_endpoint}
use Rattle.ch_model.specs.HostState.{HostState}
use Rattle.ch_model.specs.HostSteps.{Stepped}
use Rattle.ch_model.specs.Node.{node_make, node_command, node_event, node_shut, target_node}
use Rattle.ch_model.specs.NodeState.{NodeState}
use Rattle.ch_model.specs.WorldState.{Cell}
use Rattle.ch_laws_log.proofs.Stored.{number_is, number_same}
use Rattle.ch_laws_lives.specs.Cells.{AllReached}
use Rattle.ch_laws_lives.specs.Rolls.{notes_in, IsReached}
use Rattle.ch_laws_acting.specs.Rolls.{Roll, roll_of, roll_after, Tells, RestsOn}
use Rattle.ch_laws_acting.specs.Cells.{rolls_of, roll_at, store_roll, AllToldBy, CellRestsOn}
use Rattle.ch_laws_acting.proofs.NodeRests.{Told, on_make, on_command, on_event, on_shut}

-- ---- rolls by endpoint

pub roll_found : (end : ℕ) (nodes : List (ℕ × NodeState)) (node : ℕ × NodeState) → find (is_at end) nodes ≡ Some node → roll_at end (rolls_of nodes) ≡ Some (roll_of node.1)
roll_found end [] node f = absurd cc
roll_found end (x ∷ xs) node f = by_test (x.0 == end) f (roll_found end xs node) where
  by_test : (b : Bool) → cond b (Some x) (find (is_at end) xs) ≡ Some node → (find (is_at end) xs ≡ Some node → roll_at end (rolls_of xs) ≡ Some (roll_of node.1)) → cond b (Some (roll_of x.1)) (roll_at end (rolls_of xs)) ≡ Some (roll_of node.1)
  by_test true f more = let is : x ≡ node = cc in ap (λ (n : ℕ × NodeState). Some (roll_of n.1)) is
  by_test false f more = more f

rolls_stored : (end : ℕ) (node : NodeState) (nodes : List (ℕ × NodeState)) → rolls_of (store_node end node nodes) ≡ store_roll end (roll_of node) (rolls_of nodes)
rolls_stored end node [] = refl
rolls_stored end node (x ∷ xs) = by_test (x.0 == end) (rolls_stored end node xs) where
  by_test : (b : Bool) → rolls_of (store_node end node xs) ≡ store_roll end (roll_of node) (rolls_of xs)
      → rolls_of (cond b ((end, node) ∷ xs) (x ∷ store_node end node xs)) ≡ cond b ((end, roll_of node) ∷ rolls_of xs) ((x.0, roll_of x.1) ∷ store_roll end (roll_of node) (rolls_of xs))
  by_test true more = refl
  by_test false more = ap (λ (l : List (ℕ × Roll)). (x.0, roll_of x.1) ∷ l) more

stored_twice : (end : ℕ) (a b : Roll) (rolls : List (ℕ × Roll)) → store_roll end b (store_roll end a rolls) ≡ store_roll end b rolls
stored_twice end a b [] = refl
stored_twice end a b (x ∷ xs) = by_test (x.0 == end) refl (stored_twice end a b xs) where
  by_test : (t : Bool) → (x.0 == end) ≡ t → store_roll end b (store_roll end a xs) ≡ store_roll end b xs
      → store_roll end b (cond t ((end, a) ∷ xs) (x ∷ store_roll end a xs)) ≡ cond t ((end, b) ∷ xs) (x ∷ store_roll end b xs)
  by_test true e more = ap (λ (t : Bool). cond t ((end, b) ∷ xs) ((end, a) ∷ store_roll end b xs)) (number_same end)
  by_test false e more = ap (λ (t : Bool). cond t ((end, b) ∷ store_roll end a xs) (x ∷ store_roll end b (store_roll end a xs))) e ∙ ap (λ (l : List (ℕ × Roll)). x ∷ l) more

stored_same : (end : ℕ) (roll : Roll) (rolls : List (ℕ × Roll)) → roll_at end rolls ≡ Some roll → store_roll end roll rolls ≡ rolls
stored_same end roll [] f = refl
stored_same end roll (x ∷ xs) f = by_test (x.0 == end) refl f (stored_same end roll xs) where
  by_test : (t : Bool) → (x.0 == end) ≡ t → cond t (Some x.1) (roll_at end xs) ≡ Some roll → (roll_at end xs ≡ Some roll → store_roll end roll xs ≡ xs) → cond t ((end, roll) ∷ xs) (x ∷ store_roll end roll xs) ≡ x ∷ xs
  by_test true e f more = let is : x.1 ≡ roll = cc in ap (λ (r : Roll). (end, r) ∷ xs) (sym is) ∙ ap (λ (n : ℕ). (n, x.1) ∷ xs) (sym (number_is x.0 end e))
  by_test false e f more = ap (λ (l : List (ℕ × Roll)). x ∷ l) (more f)

at_stored : (end : ℕ) (old new : Roll) (rolls : List (ℕ × Roll)) → roll_at end rolls ≡ Some old → roll_at end (store_roll end new rolls) ≡ Some new
at_stored end old new [] f = absurd cc
at_stored end old new (x ∷ xs) f = by_test (x.0 == end) refl f (at_stored end old new xs) where
  by_test : (t : Bool) → (x.0 == end) ≡ t → cond t (Some x.1) (roll_at end xs) ≡ Some old → (roll_at end xs ≡ Some old → roll_at end (store_roll end new xs) ≡ Some new) → roll_at end (cond t ((end, new) ∷ xs) (x ∷ store_roll end new xs)) ≡ Some new
  by_test true e f more = ap (λ (t : Bool). cond t (Some new) (roll_at end xs)) (number_same end)
  by_test false e f more = ap (λ (t : Bool). cond t (Some x.1) (roll_at end (store_roll end new xs))) e ∙ more f

reached_at : (end : ℕ) (nodes : List (ℕ × NodeState)) (node : ℕ × NodeState) → AllReached nodes → find (is_at end) nodes ≡ Some node → IsReached node.1
reached_at end [] node r f = absurd cc
reached_at end (x ∷ xs) node r f = by_test (x.0 == end) f (reached_at end xs node r.1) where
  by_test : (b : Bool) → cond b (Some x) (find (is_at end) xs) ≡ Some node → (find (is_at end) xs ≡ Some node → IsReached node.1) → IsReached node.1
  by_test true f more = let is : x ≡ node = cc in subst (λ (n : ℕ × NodeState). IsReached n.1) is r.0
  by_test false f more = more f

reached_stored : (end : ℕ) (node : NodeState) (nodes : List (ℕ × NodeState)) → IsReached node → AllReached nodes → AllReached (store_node end node nodes)
reached_stored end node [] n r = tt
reached_stored end node (x ∷ xs) n r = by_test (x.0 == end) (reached_stored end node xs n r.1) where
  by_test : (b : Bool) → AllReached (store_node end node xs) → AllReached (cond b ((end, node) ∷ xs) (x ∷ store_node end node xs))
  by_test true more = (n, r.1)
  by_test false more = (r.0, more)

-- ---- what followed

pub told_append : (a b c : List (ℕ × Roll)) (xs ys : List LocalEntry) → AllToldBy a xs b → AllToldBy b ys c → AllToldBy a (xs ++ ys) c
told_append a b c [] ys s t = subst (λ (l : List (ℕ × Roll)). AllToldBy l ys c) s t
told_append a b c (local.Step step ∷ xs) ys s t = told_append a b c xs ys s t
told_append a b c (local.Note note ∷ xs) ys s t = (s.0, s.1, s.2, s.3, told_append (store_roll s.0 (roll_after note s.1) a) b c xs ys s.4 t)

steps_untold : (a b : List (ℕ × Roll)) (done : List Step) (ys : List LocalEntry) → AllToldBy a ys b → AllToldBy a (told_steps done ++ ys) b
steps_untold a b [] ys t = t
steps_untold a b (step ∷ done) ys t = steps_untold a b done ys t

-- what followed is told as the rolls permit
abbrev Lives : Cell → Followed → Type 0
Lives before (Ok done) = AllReached before.nodes → CellRestsOn before done.0 done.1
Lives before (Err stop) = Unit {0}

at_rest : (cell : Cell) → AllReached cell.nodes → CellRestsOn cell [] cell
at_rest cell r = record { tells = refl; reached = r }

chained : (before : Cell) (done : Followed) (f : Cell → Followed) → Lives before done → ((next : Cell) → Lives next (f next)) → Lives before (done then f)
chained before (Ok done) f a g = by_more (f done.1) (g done.1) where
  by_more : (more : Followed) → Lives done.1 more → Lives before (after_entries done.0 more)
  by_more (Ok more) b = λ r. let one = a r in let two = b one.reached in record { tells = told_append (rolls_of before.nodes) (rolls_of done.1.nodes) (rolls_of more.1.nodes) done.0 more.0 one.tells two.tells; reached = two.reached }
  by_more (Err stop) b = tt
chained before (Err stop) f a g = tt

-- ---- a node's acts

-- the rolls go from the one to the other, and the nodes stay
abbrev Goes : List (ℕ × Roll) → List (ℕ × Roll) → List (ℕ × NodeState) → Followed → Type 0
Goes rolls later nodes (Ok done) = AllToldBy rolls done.0 later × (done.1.nodes ≡ nodes)
Goes rolls later nodes (Err stop) = Unit {0}

asked_goes : (rolls later : List (ℕ × Roll)) (cell : Cell) (done : Result (List Step × HostState) EndError) (f : Cell → Followed) → ((next : Cell) → next.nodes ≡ cell.nodes → Goes rolls later cell.nodes (f next)) → Goes rolls later cell.nodes (asked cell done then f)
asked_goes rolls later cell done f g = by_done done where
  by_more : (told : List Step) (more : Followed) → Goes rolls later cell.nodes more → Goes rolls later cell.nodes (after_entries (told_steps told) more)
  by_more told (Ok more) m = (steps_untold rolls later told more.0 m.0, m.1)
  by_more told (Err stop) m = tt

  by_none : (more : Followed) → Goes rolls later cell.nodes more → Goes rolls later cell.nodes (after_entries [] more)
  by_none (Ok more) m = m
  by_none (Err stop) m = tt

  by_done : (done : Result (List Step × HostState) EndError) → Goes rolls later cell.nodes (asked cell done then f)
  by_done (Ok did) = by_more did.0 (f (record cell { host = did.1 })) (g (record cell { host = did.1 }) refl)
  by_done (Err errors.Worn) = tt
  by_done (Err errors.OutOfMemory) = tt
  by_done (Err errors.NoEndPoint) = by_none (f cell) (g cell refl)
  by_done (Err errors.NoConnection) = by_none (f cell) (g cell refl)
  by_done (Err errors.QueueFull) = by_none (f cell) (g cell refl)
  by_done (Err errors.PayloadLong) = by_none (f cell) (g cell refl)
  by_done (Err errors.Spent) = by_none (f cell) (g cell refl)

goes_at : (rolls later : List (ℕ × Roll)) (one two : List (ℕ × NodeState)) (done : Followed) → two ≡ one → Goes rolls later two done → Goes rolls later one done
goes_at rolls later one two (Ok done) e g = (g.0, g.1 ∙ e)
goes_at rolls later one two (Err stop) e g = tt

acts_go : (end : ℕ) (done : List Act) (cell : Cell) (rolls : List (ℕ × Roll)) (before after : Roll) → roll_at end rolls ≡ Some before → Tells before (notes_in done) after → Goes rolls (store_roll end after rolls) cell.nodes (acts_on end done cell)
acts_go end [] cell rolls before after f t = (ap (λ (r : Roll). store_roll end r rolls) t.moved ∙ stored_same end before rolls f, refl)
acts_go end (acts.Note note ∷ rest) cell rolls before after f t = by_more (acts_on end rest cell) (acts_go end rest cell (store_roll end (roll_after note before) rolls) (roll_after note before) after (at_stored end before (roll_after note before) rolls f) (record { permitted = t.permitted.1; moved = t.moved })) where
  by_more : (more : Followed) → Goes (store_roll end (roll_after note before) rolls) (store_roll end after (store_roll end (roll_after note before) rolls)) cell.nodes more → Goes rolls (store_roll end after rolls) cell.nodes (after_entries (local.Note note ∷ []) more)
  by_more (Ok more) m = ((end, before, f, t.permitted.0, subst (AllToldBy (store_roll end (roll_after note before) rolls) more.0) (stored_twice end (roll_after note before) after rolls) m.0), m.1)
  by_more (Err stop) m = tt
acts_go end (acts.Open conn peer ∷ rest) cell rolls before after f t = asked_goes rolls (store_roll end after rolls) cell (host_connect cell.host end peer conn) (acts_on end rest) (λ next e. goes_at rolls (store_roll end after rolls) cell.nodes next.nodes (acts_on end rest next) e (acts_go end rest next rolls before after f (record { permitted = t.permitted; moved = t.moved })))
acts_go end (acts.Put conn payload weight ∷ rest) cell rolls before after f t = asked_goes rolls (store_roll end after rolls) cell (host_send cell.host end conn payload weight) (acts_on end rest) (λ next e. goes_at rolls (store_roll end after rolls) cell.nodes next.nodes (acts_on end rest next) e (acts_go end rest next rolls before after f (record { permitted = t.permitted; moved = t.moved })))
acts_go end (acts.Close conn ∷ rest) cell rolls before after f t = asked_goes rolls (store_roll end after rolls) cell (host_close cell.host end conn) (acts_on end rest) (λ next e. goes_at rolls (store_roll end after rolls) cell.nodes next.nodes (acts_on end rest next) e (acts_go end rest next rolls before after f (record { permitted = t.permitted; moved = t.moved })))

acts_live : (end : ℕ) (cell : Cell) (node : ℕ × NodeState) (done : List Act) (next : NodeState) → find (is_at end) cell.nodes ≡ Some node → (IsReached node.1 → RestsOn node.1 done next) → Lives cell (acts_on end done (with_node end next cell))
acts_live end cell node done next f k = by_done (acts_on end done (with_node end next cell)) (λ t. acts_go end done (with_node end next cell) (rolls_of cell.nodes) (roll_of node.1) (roll_of next) (roll_found end cell.nodes node f) t) where
  by_done : (given : Followed) → (Tells (roll_of node.1) (notes_in done) (roll_of next) → Goes (rolls_of cell.nodes) (store_roll end (roll_of next) (rolls_of cell.nodes)) (store_node end next cell.nodes) given) → Lives cell given
  by_done (Ok given) g = λ r. let one = k (reached_at end cell.nodes node r f) in let goes = g one.tells in record {
    tells = subst (AllToldBy (rolls_of cell.nodes) given.0) (sym (rolls_stored end next cell.nodes) ∙ ap rolls_of (sym goes.1)) goes.0;
    reached = subst AllReached (sym goes.1) (reached_stored end next cell.nodes one.reached r);
  }
  by_done (Err stop) g = tt

posted_lives : (end : ℕ) (event : Event) (cell : Cell) → Lives cell (posted end event cell)
posted_lives end event cell = by_node (find (is_at end) cell.nodes) refl where
  by_given : (node : ℕ × NodeState) (given : Result (List Act × NodeState) Stop) → find (is_at end) cell.nodes ≡ Some node → Told node.1 given → Lives cell (node_followed end cell given)
  by_given node (Ok given) f t = acts_live end cell node given.0 given.1 f t
  by_given node (Err stop) f t = tt

  by_node : (o : Option (ℕ × NodeState)) → find (is_at end) cell.nodes ≡ o → Lives cell (elim o as (λ o. Followed) [
    | None ↦ Ok ([], cell)
    | Some node ↦ node_followed end cell (node_event node.1 event)
  ])
  by_node None f = at_rest cell
  by_node (Some node) f = by_given node (node_event node.1 event) f (on_event node.1 event)

-- ---- steps and items

one_step : (step : Step) (cell : Cell) → AllReached cell.nodes → CellRestsOn cell (local.Step step ∷ []) cell
one_step step cell r = record { tells = refl; reached = r }

step_lives : (step : Step) (cell : Cell) → Lives cell (step_on step cell)
step_lives (steps.Post end event) cell = posted_lives end event cell
step_lives (steps.Dial sock end peer) cell = one_step (steps.Dial sock end peer) cell
step_lives (steps.Read sock) cell = one_step (steps.Read sock) cell
step_lives (steps.Write sock bytes said) cell = one_step (steps.Write sock bytes said) cell
step_lives (steps.Up sock) cell = one_step (steps.Up sock) cell
step_lives (steps.Down sock) cell = one_step (steps.Down sock) cell
step_lives (steps.Left sock) cell = one_step (steps.Left sock) cell
step_lives (steps.Broke end peer why) cell = one_step (steps.Broke end peer why) cell

steps_live : (told : List Step) (cell : Cell) → Lives cell (steps_on told cell)
steps_live [] cell = at_rest cell
steps_live (step ∷ rest) cell = chained cell (step_on step cell) (steps_on rest) (step_lives step cell) (steps_live rest)

-- a host's change leaves the nodes
with_host : (cell : Cell) (host : HostState) (done : Followed) → Lives (record cell { host = host }) done → Lives cell done
with_host cell host (Ok done) l = λ r. let k = l r in record { tells = k.tells; reached = k.reached }
with_host cell host (Err stop) l = tt

items_live : (fuel : ℕ) (cell : Cell) → Lives cell (items_on fuel cell)
items_live zero cell = at_rest cell
items_live (suc fuel) cell = by_next (host_next cell.host) (items_live fuel) where
  by_some : (o : Option (List Step)) (after : HostState) → ((next : Cell) → Lives next (items_on fuel next)) → Lives cell (elim o as (λ o. Followed) [
    | None ↦ Ok ([], cell)
    | Some done ↦ (steps_on done (record cell { host = after }) then items_on fuel)
  ])
  by_some None after more = at_rest cell
  by_some (Some done) after more = chained cell (steps_on done (record cell { host = after })) (items_on fuel) (with_host cell after (steps_on done (record cell { host = after })) (steps_live done (record cell { host = after }))) more

  by_next : (next : Result (Option (List Step) × HostState) Stop) → ((c : Cell) → Lives c (items_on fuel c)) → Lives cell (elim next as (λ n. Followed) [
    | Err stop ↦ Err stop
    | Ok next ↦ elim next.0 [
      | None ↦ Ok ([], cell)
      | Some done ↦ (steps_on done (record cell { host = next.1 }) then items_on fuel)
    ]
  ])
  by_next (Err stop) more = tt
  by_next (Ok next) more = by_some next.0 next.1 more

all_live : (cell : Cell) → Lives cell (all_items cell)
all_live cell = items_live (kept_bytes cell.host) cell

-- ---- one event

abbrev CellRests : Cell → Celled → Type 0
CellRests before (Ok done) = AllReached before.nodes → CellRestsOn before done.0.1 done.1
CellRests before (Err stop) = Unit {0}

answered_lives : (before : Cell) (verdict : Verdict) (done : Followed) → Lives before done → CellRests before (answered verdict done)
answered_lives before verdict (Ok done) l = l
answered_lives before verdict (Err stop) l = tt

refusal_lives : (e : CommandError) (cell : Cell) → CellRests cell (refusal e cell)
refusal_lives refusals.OutOfMemory cell = tt
refusal_lives refusals.Worn cell = tt
refusal_lives refusals.Unknown cell = at_rest cell
refusal_lives e cell = at_rest cell

did_live : (end : ℕ) (cell : Cell) (node : ℕ × NodeState) (done : Result (List Act × NodeState) CommandError) → find (is_at end) cell.nodes ≡ Some node → Told node.1 done → CellRests cell (node_did end cell done)
did_live end cell node (Ok done) f t = answered_lives cell verdicts.Ok (acts_on end done.0 (with_node end done.1 cell) then all_items) (chained cell (acts_on end done.0 (with_node end done.1 cell)) all_items (acts_live end cell node done.0 done.1 f t) all_live)
did_live end cell node (Err e) f t = refusal_lives e cell

closes_live : (end : ℕ) (cell : Cell) (done : Result (List Step × HostState) EndError) → Lives cell (closes_after end cell done)
closes_live end cell (Ok done) = with_host cell done.1 (steps_on done.0 (record cell { host = done.1 })) (steps_live done.0 (record cell { host = done.1 }))
closes_live end cell (Err errors.Worn) = tt
closes_live end cell (Err errors.OutOfMemory) = tt
closes_live end cell (Err errors.NoEndPoint) = at_rest cell
closes_live end cell (Err errors.NoConnection) = at_rest cell
closes_live end cell (Err errors.QueueFull) = at_rest cell
closes_live end cell (Err errors.PayloadLong) = at_rest cell
closes_live end cell (Err errors.Spent) = at_rest cell

shut_lives : (end : ℕ) (cell : Cell) (node : ℕ × NodeState) (done : Result (List Act × NodeState) CommandError) → find (is_at end) cell.nodes ≡ Some node → Told node.1 done → CellRests cell (shut_node end cell done)
shut_lives end cell node (Ok done) f t = answered_lives cell verdicts.Ok (acts_on end done.0 (with_node end done.1 cell) then (λ told. closes_after end told (host_close_endpoint told.host end)) then all_items)
    (chained cell (acts_on end done.0 (with_node end done.1 cell) then (λ told. closes_after end told (host_close_endpoint told.host end))) all_items
    (chained cell (acts_on end done.0 (with_node end done.1 cell)) (λ told. closes_after end told (host_close_endpoint told.host end)) (acts_live end cell node done.0 done.1 f t)
    (λ next. closes_live end next (host_close_endpoint next.host end))) all_live)
shut_lives end cell node (Err e) f t = refusal_lives e cell

at_node_lives : (end : ℕ) (cell : Cell) (f : NodeState → Celled) → ((node : ℕ × NodeState) → find (is_at end) cell.nodes ≡ Some node → CellRests cell (f node.1)) → CellRests cell (at_node end cell f)
at_node_lives end cell f each = by_node (find (is_at end) cell.nodes) refl where
  by_node : (o : Option (ℕ × NodeState)) → find (is_at end) cell.nodes ≡ o → CellRests cell (elim o as (λ o. Celled) [
    | None ↦ refused verdicts.Nothing cell
    | Some node ↦ f node.1
  ])
  by_node None e = at_rest cell
  by_node (Some node) e = each node e

host_lives : (verdict : Verdict) (cell : Cell) (done : Stepped) → CellRests cell (host_did verdict cell done)
host_lives verdict cell (Ok done) = answered_lives cell verdict (steps_on done.0 (record cell { host = done.1 }) then all_items)
    (chained cell (steps_on done.0 (record cell { host = done.1 })) all_items (with_host cell done.1 (steps_on done.0 (record cell { host = done.1 })) (steps_live done.0 (record cell { host = done.1 }))) all_live)
host_lives verdict cell (Err stop) = tt

event_lives : (cell : Cell) (event : LocalEvent) → CellRests cell (cell_step cell event)
event_lives cell (events.Make end) = at_node_lives end cell (λ node. node_did end cell (node_make node)) (λ node f. did_live end cell node (node_make node.1) f (on_make node.1))
event_lives cell (events.Command end by command) = at_node_lives end cell (commanded end by command cell) (λ node f. did_live end cell node (node_command node.1 by command (room_for cell.host end node.1.own (target_node node.1 by command))) f (on_command node.1 by command (room_for cell.host end node.1.own (target_node node.1 by command))))
event_lives cell (events.Shut end) = at_node_lives end cell (λ node. shut_node end cell (node_shut node)) (λ node f. shut_lives end cell node (node_shut node.1) f (on_shut node.1))
event_lives cell (events.Came mark sock peer_host) = host_lives verdicts.Ok cell (host_on cell.host (sockets.Came sock peer_host))
event_lives cell (events.Socket event) = host_lives (heard_as cell.host event) cell (host_on cell.host event)

pub cell_rests : (cell after : Cell) (event : LocalEvent) (verdict : Verdict) (told : List LocalEntry) → AllReached cell.nodes → cell_step cell event ≡ Ok ((verdict, told), after) → CellRestsOn cell told after
cell_rests cell after event verdict told r e = by_done (cell_step cell event) (event_lives cell event) e where
  by_done : (done : Celled) → CellRests cell done → done ≡ Ok ((verdict, told), after) → CellRestsOn cell told after
  by_done done l e = subst (λ (d : Celled). CellRests cell d) e l r
