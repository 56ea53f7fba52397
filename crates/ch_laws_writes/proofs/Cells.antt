-- What follows at a cell writes what is due.
use Rattle.std.proofs.Common.{◌≡◌, ℕ, zero, suc, List, [], ◌∷◌, ◌++◌, map, Ok, Err, Bool, true, false, cond, refl, sym, ap, ◌∙◌, subst, append_assoc}
use Rattle.std.proofs.lemmas.List.{append-nil}
use Rattle.std.specs.List.{list_any}
use Rattle.std.specs.Prelude.{find, Result, Option, Some, None}
use Rattle.ch_base.specs.declared.address.Address.{Address}
use Rattle.ch_base.specs.declared.event.Event.{Event}
use Rattle.ch_base.specs.declared.memory.Stop.{Stop}
use Rattle.ch_model.specs.declared.act.Act.{Act}
use Rattle.ch_model.specs.declared.act.Act.TheVariants as acts
use Rattle.ch_model.specs.declared.command.CommandError.{CommandError}
use Rattle.ch_model.specs.declared.command.CommandError.TheVariants as refusals
use Rattle.ch_model.specs.declared.entry.Verdict.{Verdict}
use Rattle.ch_model.specs.declared.entry.Verdict.TheVariants as verdicts
use Rattle.ch_model.specs.declared.local.LocalEntry.{LocalEntry}
use Rattle.ch_model.specs.declared.local.LocalEntry.TheVariants as local
use Rattle.ch_model.specs.declared.local.LocalEvent.{LocalEvent}
use Rattle.ch_model.specs.declared.local.LocalEvent.TheVariants as events
use Rattle.ch_model.specs.declared.step.EndError.{EndError}
use Rattle.ch_model.specs.declared.step.EndError.TheVariants as errors
use Rattle.ch_model.specs.declared.step.SocketEvent.TheVariants as sockets
use Rattle.ch_model.specs.declared.step.Step.{Step}
use Rattle.ch_model.specs.declared.step.Step.TheVariants as steps
use Rattle.ch_model.specs.Cell.{Celled, answered, refused, refusal, node_did, at_node, commanded, room_for, closes_after, shut_node, host_did, heard_as, cell_step, opened_for, cell_new}
use Rattle.ch_model.specs.CellSteps.{Followed, after_entries, ◌then◌, is_at, with_node, told_steps, asked, act_on, acts_on, node_followed, posted, steps_on, kept_bytes, items_on, all_items}
use Rattle.ch_model.specs.Host.{host_on, host_next}
use Rattle.ch_model.specs.HostCalls.{host_new, host_open, host_connect, host_send, host_close, host_close_endpoint}
use Rattle.ch_model.specs.HostState.{HostState}
use Rattle.ch_model.specs.HostSteps.{Stepped, is_endpoint, own_address}
use Rattle.ch_model.specs.Node.{node_make, node_command, node_event, node_shut, node_new, target_node}
use Rattle.ch_model.specs.NodeState.{NodeState}
use Rattle.ch_model.specs.WorldState.{Cell}
use Rattle.ch_laws_log.specs.HostEnds.{steps_in}
use Rattle.ch_laws_log.proofs.Posts.{PostsLast, AllLast, next_last, event_last, endpoint_last}
use Rattle.ch_laws_writes.specs.Dues.{Due, due_at, due_after, due_told, AllDue}
use Rattle.ch_laws_writes.specs.Orderly.{IsOrderly, WritesOn, AllWrite, ComesNewTo}
use Rattle.ch_laws_writes.proofs.Dues.{Dues, nothing_said, and_then, all_past}
use Rattle.ch_laws_writes.proofs.Calls.{connected, sent, closed_conn, endpoint_closed}
use Rattle.ch_laws_writes.proofs.Items.{next_writes}
use Rattle.ch_laws_writes.proofs.Events.{event_writes, fresh_orderly}

-- ---- the steps among what followed

steps_append : (xs ys : List LocalEntry) → steps_in (xs ++ ys) ≡ steps_in xs ++ steps_in ys
steps_append [] ys = refl
steps_append (local.Step step ∷ xs) ys = ap (λ l. step ∷ l) (steps_append xs ys)
steps_append (local.Note note ∷ xs) ys = steps_append xs ys

steps_told : (done : List Step) → steps_in (told_steps done) ≡ done
steps_told [] = refl
steps_told (step ∷ done) = ap (λ l. step ∷ l) (steps_told done)

-- what followed writes what is due
abbrev AllFollow : (ℕ → Address) → Dues → Followed → Type 0
AllFollow own d (Ok done) = WritesOn own d (steps_in done.0) done.1.host
AllFollow own d (Err stop) = Unit {0}

onward : (own : ℕ → Address) (d : Dues) (one two : HostState) (xs ys : List Step) → WritesOn own d xs one → WritesOn own (due_at one) ys two → WritesOn own d (xs ++ ys) two
onward own d one two xs ys a b = record { orderly = b.orderly; writes = and_then own d (due_at one) (due_at two) xs ys a.writes b.writes }

chained : (own : ℕ → Address) (d : Dues) (done : Followed) (f : Cell → Followed) → AllFollow own d done → ((next : Cell) → IsOrderly own next.host → AllFollow own (due_at next.host) (f next)) → AllFollow own d (done then f)
chained own d (Ok done) f a g = from (f done.1) (g done.1 a.orderly) where
  from : (more : Followed) → AllFollow own (due_at done.1.host) more → AllFollow own d (after_entries done.0 more)
  from (Ok more) b = subst (λ (l : List Step). WritesOn own d l more.1.host) (sym (steps_append done.0 more.0)) (onward own d done.1.host more.1.host (steps_in done.0) (steps_in more.0) a b)
  from (Err stop) b = tt
chained own d (Err stop) f a g = tt

rests : (own : ℕ → Address) (host : HostState) → IsOrderly own host → WritesOn own (due_at host) [] host
rests own host o = record { orderly = o; writes = nothing_said own (due_at host) (due_at host) (λ n. refl) }

-- ---- a node's acts

asked_writes : (own : ℕ → Address) (cell : Cell) (done : Result (List Step × HostState) EndError) → IsOrderly own cell.host → AllWrite own (due_at cell.host) done → AllFollow own (due_at cell.host) (asked cell done)
asked_writes own cell (Ok done) o t = subst (λ (l : List Step). WritesOn own (due_at cell.host) l done.1) (sym (steps_told done.0)) t
asked_writes own cell (Err errors.Worn) o t = tt
asked_writes own cell (Err errors.OutOfMemory) o t = tt
asked_writes own cell (Err errors.NoEndPoint) o t = rests own cell.host o
asked_writes own cell (Err errors.NoConnection) o t = rests own cell.host o
asked_writes own cell (Err errors.QueueFull) o t = rests own cell.host o
asked_writes own cell (Err errors.PayloadLong) o t = rests own cell.host o
asked_writes own cell (Err errors.Spent) o t = rests own cell.host o

act_writes : (own : ℕ → Address) (end : ℕ) (act : Act) (cell : Cell) → IsOrderly own cell.host → AllFollow own (due_at cell.host) (act_on end act cell)
act_writes own end (acts.Note note) cell o = rests own cell.host o
act_writes own end (acts.Open conn peer) cell o = asked_writes own cell (host_connect cell.host end peer conn) o (connected own cell.host end peer conn o)
act_writes own end (acts.Put conn payload weight) cell o = asked_writes own cell (host_send cell.host end conn payload weight) o (sent own cell.host end conn payload weight o)
act_writes own end (acts.Close conn) cell o = asked_writes own cell (host_close cell.host end conn) o (closed_conn own cell.host end conn o)

acts_write : (own : ℕ → Address) (end : ℕ) (done : List Act) (cell : Cell) → IsOrderly own cell.host → AllFollow own (due_at cell.host) (acts_on end done cell)
acts_write own end [] cell o = rests own cell.host o
acts_write own end (act ∷ rest) cell o = chained own (due_at cell.host) (act_on end act cell) (acts_on end rest) (act_writes own end act cell o) (acts_write own end rest)

followed_writes : (own : ℕ → Address) (end : ℕ) (cell : Cell) (done : Result (List Act × NodeState) Stop) → IsOrderly own cell.host → AllFollow own (due_at cell.host) (node_followed end cell done)
followed_writes own end cell (Ok done) o = acts_write own end done.0 (with_node end done.1 cell) o
followed_writes own end cell (Err stop) o = tt

posted_writes : (own : ℕ → Address) (end : ℕ) (event : Event) (cell : Cell) → IsOrderly own cell.host → AllFollow own (due_at cell.host) (posted end event cell)
posted_writes own end event cell o = by_node (find (is_at end) cell.nodes) where
  by_node : (x : Option (ℕ × NodeState)) → AllFollow own (due_at cell.host) (elim x as (λ o. Followed) [
    | None ↦ Ok ([], cell)
    | Some node ↦ node_followed end cell (node_event node.1 event)
  ])
  by_node None = rests own cell.host o
  by_node (Some node) = followed_writes own end cell (node_event node.1 event) o

-- ---- a host's steps, with what a node makes of an event that is posted last

-- all that was written since some time, some steps of which stand before what followed
abbrev FromStart : (ℕ → Address) → Dues → List Step → Followed → Type 0
FromStart own d before (Ok done) = WritesOn own d (before ++ steps_in done.0) done.1.host
FromStart own d before (Err stop) = Unit {0}

first_due : (own : ℕ → Address) (n : ℕ) (xs ys : List Step) (due : Option Due) → AllDue own n (xs ++ ys) due → AllDue own n xs due
first_due own n [] ys due a = tt
first_due own n (x ∷ xs) ys due a = (a.0, first_due own n xs ys (due_after n x due) a.1)

without_post : (own : ℕ → Address) (d : Dues) (after : HostState) (before : List Step) (end : ℕ) (event : Event) → WritesOn own d (before ++ steps.Post end event ∷ []) after → WritesOn own d before after
without_post own d after before end event t = record {
  orderly = t.orderly;
  writes = record {
    due = λ n. first_due own n before (steps.Post end event ∷ []) (d n) (t.writes.due n);
    leads = λ n. t.writes.leads n ∙ all_past n before (steps.Post end event ∷ []) (d n);
  };
}

post_last : (own : ℕ → Address) (d : Dues) (before : List Step) (end : ℕ) (event : Event) (cell : Cell) (done : Followed) → AllFollow own (due_at cell.host) done → WritesOn own d (before ++ steps.Post end event ∷ []) cell.host → FromStart own d before (done then steps_on [])
post_last own d before end event cell (Ok done) f t = subst (λ (l : List LocalEntry). WritesOn own d (before ++ steps_in l) done.1.host) (sym (append-nil done.0))
    (onward own d cell.host done.1.host before (steps_in done.0) (without_post own d cell.host before end event t) f)
post_last own d before end event cell (Err stop) f t = tt

step_first : (own : ℕ → Address) (d : Dues) (before : List Step) (step : Step) (more : Followed) → FromStart own d (before ++ step ∷ []) more → FromStart own d before (after_entries (local.Step step ∷ []) more)
step_first own d before step (Ok more) t = subst (λ (l : List Step). WritesOn own d l more.1.host) (append_assoc before (step ∷ []) (steps_in more.0)) t
step_first own d before step (Err stop) t = tt

moved : (own : ℕ → Address) (d : Dues) (after : HostState) (before : List Step) (step : Step) (rest : List Step) → WritesOn own d (before ++ step ∷ rest) after → WritesOn own d ((before ++ step ∷ []) ++ rest) after
moved own d after before step rest t = subst (λ (l : List Step). WritesOn own d l after) (sym (append_assoc before (step ∷ []) rest)) t

steps_of : (own : ℕ → Address) (d : Dues) (before told : List Step) (cell : Cell) → PostsLast told → WritesOn own d (before ++ told) cell.host → FromStart own d before (steps_on told cell)
steps_of own d before [] cell p t = t
steps_of own d before (steps.Post end event ∷ rest) cell p t = subst (λ (l : List Step). FromStart own d before (posted end event cell then steps_on l)) (sym p) (post_last own d before end event cell (posted end event cell) (posted_writes own end event cell t.orderly) (subst (λ (l : List Step). WritesOn own d (before ++ steps.Post end event ∷ l) cell.host) p t))
steps_of own d before (steps.Dial sock end peer ∷ rest) cell p t = step_first own d before (steps.Dial sock end peer) (steps_on rest cell) (steps_of own d (before ++ steps.Dial sock end peer ∷ []) rest cell p (moved own d cell.host before (steps.Dial sock end peer) rest t))
steps_of own d before (steps.Read sock ∷ rest) cell p t = step_first own d before (steps.Read sock) (steps_on rest cell) (steps_of own d (before ++ steps.Read sock ∷ []) rest cell p (moved own d cell.host before (steps.Read sock) rest t))
steps_of own d before (steps.Write sock bytes said ∷ rest) cell p t = step_first own d before (steps.Write sock bytes said) (steps_on rest cell) (steps_of own d (before ++ steps.Write sock bytes said ∷ []) rest cell p (moved own d cell.host before (steps.Write sock bytes said) rest t))
steps_of own d before (steps.Up sock ∷ rest) cell p t = step_first own d before (steps.Up sock) (steps_on rest cell) (steps_of own d (before ++ steps.Up sock ∷ []) rest cell p (moved own d cell.host before (steps.Up sock) rest t))
steps_of own d before (steps.Down sock ∷ rest) cell p t = step_first own d before (steps.Down sock) (steps_on rest cell) (steps_of own d (before ++ steps.Down sock ∷ []) rest cell p (moved own d cell.host before (steps.Down sock) rest t))
steps_of own d before (steps.Left sock ∷ rest) cell p t = step_first own d before (steps.Left sock) (steps_on rest cell) (steps_of own d (before ++ steps.Left sock ∷ []) rest cell p (moved own d cell.host before (steps.Left sock) rest t))
steps_of own d before (steps.Broke end peer why ∷ rest) cell p t = step_first own d before (steps.Broke end peer why) (steps_on rest cell) (steps_of own d (before ++ steps.Broke end peer why ∷ []) rest cell p (moved own d cell.host before (steps.Broke end peer why) rest t))

-- with nothing before
from_start : (own : ℕ → Address) (d : Dues) (done : Followed) → FromStart own d [] done → AllFollow own d done
from_start own d (Ok done) f = f
from_start own d (Err stop) f = tt

steps_write : (own : ℕ → Address) (d : Dues) (told : List Step) (cell : Cell) → PostsLast told → WritesOn own d told cell.host → AllFollow own d (steps_on told cell)
steps_write own d told cell p t = from_start own d (steps_on told cell) (steps_of own d [] told cell p t)

-- ---- items

items_write : (own : ℕ → Address) (fuel : ℕ) (cell : Cell) → IsOrderly own cell.host → AllFollow own (due_at cell.host) (items_on fuel cell)
items_write own zero cell o = rests own cell.host o
items_write own (suc fuel) cell o = by_next (host_next cell.host) refl (items_write own fuel) where
  by_some : (x : Option (List Step)) (after : HostState) → host_next cell.host ≡ Ok (x, after) → ((next : Cell) → IsOrderly own next.host → AllFollow own (due_at next.host) (items_on fuel next)) → AllFollow own (due_at cell.host) (elim x as (λ o. Followed) [
    | None ↦ Ok ([], cell)
    | Some done ↦ (steps_on done (record cell { host = after }) then items_on fuel)
  ])
  by_some None after e more = rests own cell.host o
  by_some (Some done) after e more = chained own (due_at cell.host) (steps_on done (record cell { host = after })) (items_on fuel)
      (steps_write own (due_at cell.host) done (record cell { host = after }) (next_last cell.host after done e) (next_writes own cell.host after done o e)) more

  by_next : (next : Result (Option (List Step) × HostState) Stop) → host_next cell.host ≡ next → ((c : Cell) → IsOrderly own c.host → AllFollow own (due_at c.host) (items_on fuel c)) → AllFollow own (due_at cell.host) (elim next as (λ n. Followed) [
    | Err stop ↦ Err stop
    | Ok next ↦ elim next.0 [
      | None ↦ Ok ([], cell)
      | Some done ↦ (steps_on done (record cell { host = next.1 }) then items_on fuel)
    ]
  ])
  by_next (Err stop) e more = tt
  by_next (Ok next) e more = by_some next.0 next.1 e more

all_write : (own : ℕ → Address) (cell : Cell) → IsOrderly own cell.host → AllFollow own (due_at cell.host) (all_items cell)
all_write own cell o = items_write own (kept_bytes cell.host) cell o

-- ---- one event

abbrev AllCelled : (ℕ → Address) → Dues → Celled → Type 0
AllCelled own d (Ok done) = WritesOn own d (steps_in done.0.1) done.1.host
AllCelled own d (Err stop) = Unit {0}

answered_writes : (own : ℕ → Address) (d : Dues) (verdict : Verdict) (done : Followed) → AllFollow own d done → AllCelled own d (answered verdict done)
answered_writes own d verdict (Ok done) f = f
answered_writes own d verdict (Err stop) f = tt

refusal_writes : (own : ℕ → Address) (e : CommandError) (cell : Cell) → IsOrderly own cell.host → AllCelled own (due_at cell.host) (refusal e cell)
refusal_writes own refusals.OutOfMemory cell o = tt
refusal_writes own refusals.Worn cell o = tt
refusal_writes own refusals.Unknown cell o = rests own cell.host o
refusal_writes own e cell o = rests own cell.host o

node_writes : (own : ℕ → Address) (end : ℕ) (cell : Cell) (done : Result (List Act × NodeState) CommandError) → IsOrderly own cell.host → AllCelled own (due_at cell.host) (node_did end cell done)
node_writes own end cell (Ok done) o = answered_writes own (due_at cell.host) verdicts.Ok (acts_on end done.0 (with_node end done.1 cell) then all_items) (chained own (due_at cell.host) (acts_on end done.0 (with_node end done.1 cell)) all_items (acts_write own end done.0 (with_node end done.1 cell) o) (all_write own))
node_writes own end cell (Err e) o = refusal_writes own e cell o

closes_write : (own : ℕ → Address) (end : ℕ) (cell : Cell) (done : Result (List Step × HostState) EndError) → IsOrderly own cell.host → AllWrite own (due_at cell.host) done → AllLast done → AllFollow own (due_at cell.host) (closes_after end cell done)
closes_write own end cell (Ok done) o t p = steps_write own (due_at cell.host) done.0 (record cell { host = done.1 }) p t
closes_write own end cell (Err e) o t p = asked_writes own cell (Err e) o tt

shut_writes : (own : ℕ → Address) (end : ℕ) (cell : Cell) (done : Result (List Act × NodeState) CommandError) → IsOrderly own cell.host → AllCelled own (due_at cell.host) (shut_node end cell done)
shut_writes own end cell (Ok done) o = answered_writes own (due_at cell.host) verdicts.Ok (acts_on end done.0 (with_node end done.1 cell) then (λ told. closes_after end told (host_close_endpoint told.host end)) then all_items)
    (chained own (due_at cell.host) (acts_on end done.0 (with_node end done.1 cell) then (λ told. closes_after end told (host_close_endpoint told.host end))) all_items
    (chained own (due_at cell.host) (acts_on end done.0 (with_node end done.1 cell)) (λ told. closes_after end told (host_close_endpoint told.host end)) (acts_write own end done.0 (with_node end done.1 cell) o)
    (λ next k. closes_write own end next (host_close_endpoint next.host end) k (endpoint_closed own next.host end k) (endpoint_last next.host end))) (all_write own))
shut_writes own end cell (Err e) o = refusal_writes own e cell o

at_node_writes : (own : ℕ → Address) (end : ℕ) (cell : Cell) (f : NodeState → Celled) → IsOrderly own cell.host → ((node : NodeState) → AllCelled own (due_at cell.host) (f node)) → AllCelled own (due_at cell.host) (at_node end cell f)
at_node_writes own end cell f o each = by_node (find (is_at end) cell.nodes) where
  by_node : (x : Option (ℕ × NodeState)) → AllCelled own (due_at cell.host) (elim x as (λ o. Celled) [
    | None ↦ refused verdicts.Nothing cell
    | Some node ↦ f node.1
  ])
  by_node None = rests own cell.host o
  by_node (Some node) = each node.1

host_writes : (own : ℕ → Address) (d : Dues) (verdict : Verdict) (cell : Cell) (done : Stepped) → AllWrite own d done → AllLast done → AllCelled own d (host_did verdict cell done)
host_writes own d verdict cell (Ok done) t p = answered_writes own d verdict (steps_on done.0 (record cell { host = done.1 }) then all_items)
    (chained own d (steps_on done.0 (record cell { host = done.1 })) all_items (steps_write own d done.0 (record cell { host = done.1 }) p t) (all_write own))
host_writes own d verdict cell (Err stop) t p = tt

event_is_written : (own : ℕ → Address) (cell : Cell) (event : LocalEvent) → IsOrderly own cell.host → ComesNewTo cell.host event → AllCelled own (λ n. due_told event n (due_at cell.host n)) (cell_step cell event)
event_is_written own cell (events.Make end) o new = at_node_writes own end cell (λ node. node_did end cell (node_make node)) o (λ node. node_writes own end cell (node_make node) o)
event_is_written own cell (events.Command end by command) o new = at_node_writes own end cell (commanded end by command cell) o (λ node. node_writes own end cell (node_command node by command (room_for cell.host end node.own (target_node node by command))) o)
event_is_written own cell (events.Shut end) o new = at_node_writes own end cell (λ node. shut_node end cell (node_shut node)) o (λ node. shut_writes own end cell (node_shut node) o)
event_is_written own cell (events.Came mark sock peer_host) o new = host_writes own _ verdicts.Ok cell (host_on cell.host (sockets.Came sock peer_host)) (event_writes own cell.host (sockets.Came sock peer_host) o new) (event_last cell.host (sockets.Came sock peer_host))
event_is_written own cell (events.Socket event) o new = host_writes own _ (heard_as cell.host event) cell (host_on cell.host event) (event_writes own cell.host event o new) (event_last cell.host event)

pub cell_writes : (own : ℕ → Address) (cell after : Cell) (event : LocalEvent) (verdict : Verdict) (told : List LocalEntry) → IsOrderly own cell.host → ComesNewTo cell.host event → cell_step cell event ≡ Ok ((verdict, told), after) → WritesOn own (λ n. due_told event n (due_at cell.host n)) (steps_in told) after.host
cell_writes own cell after event verdict told o new e = subst (λ (c : Celled). AllCelled own (λ n. due_told event n (due_at cell.host n)) c) e (event_is_written own cell event o new)

-- ---- a new cell

open_orderly : (own : ℕ → Address) (host : HostState) (end : ℕ) → IsOrderly own host → IsOrderly own (host_open host end).1
unfolding host_open
open_orderly own host end o = by_test (list_any (is_endpoint end) host.ends) where
  by_test : (b : Bool) → IsOrderly own (cond {A = Bool × HostState} b (false, host) (true, record host { ends = host.ends ++ record { number = end; is_open = true; arrived = 0 } ∷ [] })).1
  by_test true = o
  by_test false = record { sound = record { apart = o.sound.apart; free = o.sound.free; used = o.sound.used }; own_is = o.own_is; apart = o.apart; links = o.links; sockets = o.sockets }

opened_orderly : (own : ℕ → Address) (nodes : List (ℕ × NodeState)) (host : HostState) → IsOrderly own host → IsOrderly own (opened_for nodes host)
opened_orderly own [] host o = o
opened_orderly own (node ∷ rest) host o = opened_orderly own rest (host_open host node.0).1 (open_orderly own host node.0 o)

pub fresh_cell : (host : List ℕ) (port : ℕ) (circle : List (List ℕ)) (nodes : List (ℕ × ℕ × List (List ℕ))) → IsOrderly (own_address (host_new host port circle)) (cell_new host port circle nodes).host
fresh_cell host port circle nodes = opened_orderly (own_address (host_new host port circle)) (map (λ (node : ℕ × ℕ × List (List ℕ)). (node.0, node_new (record { host = host; port = port; id = node.0 }) node.1 node.2)) nodes) (host_new host port circle) (fresh_orderly host port circle)
