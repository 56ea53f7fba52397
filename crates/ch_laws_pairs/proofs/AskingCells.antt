-- What follows at a cell tells who asks on the ends of its host.
use Rattle.std.proofs.Common.{◌≡◌, ℕ, zero, suc, List, [], ◌∷◌, ◌++◌, Ok, Err, refl, sym, ap, ◌∙◌, subst, append_assoc}
use Rattle.std.proofs.lemmas.List.{append-nil}
use Rattle.std.specs.Prelude.{find, Result, Option, Some, None}
use Rattle.ch_base.specs.declared.event.Event.{Event}
use Rattle.ch_base.specs.declared.memory.Stop.{Stop}
use Rattle.ch_model.specs.declared.act.Act.{Act}
use Rattle.ch_model.specs.declared.act.Act.TheVariants as acts
use Rattle.ch_model.specs.declared.command.CommandError.{CommandError}
use Rattle.ch_model.specs.declared.command.CommandError.TheVariants as refusals
use Rattle.ch_model.specs.declared.entry.Verdict.{Verdict}
use Rattle.ch_model.specs.declared.entry.Verdict.TheVariants as verdicts
use Rattle.ch_model.specs.declared.local.LocalEntry.{LocalEntry}
use Rattle.ch_model.specs.declared.local.LocalEntry.TheVariants as local
use Rattle.ch_model.specs.declared.local.LocalEvent.{LocalEvent}
use Rattle.ch_model.specs.declared.local.LocalEvent.TheVariants as events
use Rattle.ch_model.specs.declared.step.SocketEvent.TheVariants as sockets
use Rattle.ch_model.specs.declared.step.EndError.{EndError}
use Rattle.ch_model.specs.declared.step.EndError.TheVariants as errors
use Rattle.ch_model.specs.declared.step.Step.{Step}
use Rattle.ch_model.specs.declared.step.Step.TheVariants as steps
use Rattle.ch_model.specs.Cell.{Celled, answered, refused, refusal, node_did, at_node, commanded, room_for, closes_after, shut_node, host_did, heard_as, cell_step}
use Rattle.ch_model.specs.CellSteps.{Followed, after_entries, ◌then◌, is_at, with_node, told_steps, asked, act_on, acts_on, node_followed, posted, steps_on, kept_bytes, items_on, all_items}
use Rattle.ch_model.specs.Host.{host_on, host_next}
use Rattle.ch_model.specs.HostCalls.{host_connect, host_send, host_close, host_close_endpoint}
use Rattle.ch_model.specs.HostState.{HostState}
use Rattle.ch_model.specs.HostSteps.{Stepped}
use Rattle.ch_model.specs.Node.{node_make, node_command, node_event, node_shut, target_node}
use Rattle.ch_model.specs.NodeState.{NodeState}
use Rattle.ch_model.specs.WorldState.{Cell}
use Rattle.ch_laws_log.specs.HostEnds.{steps_in}
use Rattle.ch_laws_pairs.specs.Askers.{Asker, asker_at, asker_after, AreFresh, IsAsking, Asks, AllAsk, ComesOddTo}
use Rattle.ch_laws_pairs.proofs.Asking.{all_after, onward, at_rest}
use Rattle.ch_laws_pairs.proofs.AskingItems.{next_asks, connected, sent, closed_conn, endpoint_closed}
use Rattle.ch_laws_pairs.proofs.AskingEvents.{event_asks}
use Rattle.ch_laws_log.proofs.Posts.{PostsLast, AllLast, next_last, event_last, endpoint_last}

-- ---- the steps among what followed

steps_append : (xs ys : List LocalEntry) → steps_in (xs ++ ys) ≡ steps_in xs ++ steps_in ys
steps_append [] ys = refl
steps_append (local.Step step ∷ xs) ys = ap (λ l. step ∷ l) (steps_append xs ys)
steps_append (local.Note note ∷ xs) ys = steps_append xs ys

steps_told : (done : List Step) → steps_in (told_steps done) ≡ done
steps_told [] = refl
steps_told (step ∷ done) = ap (λ l. step ∷ l) (steps_told done)

-- what followed tells how the ends stand
abbrev FollowsAsk : HostState → Followed → Type 0
FollowsAsk before (Ok done) = IsAsking before → Asks before (steps_in done.0) done.1.host
FollowsAsk before (Err stop) = Unit {0}

chained : (before : HostState) (done : Followed) (f : Cell → Followed) → FollowsAsk before done → ((next : Cell) → FollowsAsk next.host (f next)) → FollowsAsk before (done then f)
chained before (Ok done) f a g = from (f done.1) (g done.1) where
  from : (more : Followed) → FollowsAsk done.1.host more → FollowsAsk before (after_entries done.0 more)
  from (Ok more) b = λ s. let one = a s in subst (λ (l : List Step). Asks before l more.1.host) (sym (steps_append done.0 more.0)) (onward before done.1.host more.1.host (steps_in done.0) (steps_in more.0) one (b one.asking))
  from (Err stop) b = tt
chained before (Err stop) f a g = tt

-- ---- a node's acts

asked_told : (cell : Cell) (done : Result (List Step × HostState) EndError) → AllAsk cell.host done → FollowsAsk cell.host (asked cell done)
asked_told cell (Ok done) t = λ s. subst (λ (l : List Step). Asks cell.host l done.1) (sym (steps_told done.0)) (t s)
asked_told cell (Err errors.Worn) t = tt
asked_told cell (Err errors.OutOfMemory) t = tt
asked_told cell (Err errors.NoEndPoint) t = at_rest cell.host
asked_told cell (Err errors.NoConnection) t = at_rest cell.host
asked_told cell (Err errors.QueueFull) t = at_rest cell.host
asked_told cell (Err errors.PayloadLong) t = at_rest cell.host
asked_told cell (Err errors.Spent) t = at_rest cell.host

act_told : (end : ℕ) (act : Act) (cell : Cell) → FollowsAsk cell.host (act_on end act cell)
act_told end (acts.Note note) cell = at_rest cell.host
act_told end (acts.Open conn peer) cell = asked_told cell (host_connect cell.host end peer conn) (connected cell.host end peer conn)
act_told end (acts.Put conn payload weight) cell = asked_told cell (host_send cell.host end conn payload weight) (sent cell.host end conn payload weight)
act_told end (acts.Close conn) cell = asked_told cell (host_close cell.host end conn) (closed_conn cell.host end conn)

acts_told : (end : ℕ) (done : List Act) (cell : Cell) → FollowsAsk cell.host (acts_on end done cell)
acts_told end [] cell = at_rest cell.host
acts_told end (act ∷ rest) cell = chained cell.host (act_on end act cell) (acts_on end rest) (act_told end act cell) (acts_told end rest)

followed_told : (end : ℕ) (cell : Cell) (done : Result (List Act × NodeState) Stop) → FollowsAsk cell.host (node_followed end cell done)
followed_told end cell (Ok done) = acts_told end done.0 (with_node end done.1 cell)
followed_told end cell (Err stop) = tt

posted_told : (end : ℕ) (event : Event) (cell : Cell) → FollowsAsk cell.host (posted end event cell)
posted_told end event cell = by_node (find (is_at end) cell.nodes) where
  by_node : (o : Option (ℕ × NodeState)) → FollowsAsk cell.host (elim o as (λ o. Followed) [
    | None ↦ Ok ([], cell)
    | Some node ↦ node_followed end cell (node_event node.1 event)
  ])
  by_node None = at_rest cell.host
  by_node (Some node) = followed_told end cell (node_event node.1 event)

-- ---- a host's steps, with what a node makes of an event that is posted last

-- all that was told since a host, some steps of which stand before what followed
abbrev FromStart : HostState → List Step → Followed → Type 0
FromStart start before (Ok done) = Asks start (before ++ steps_in done.0) done.1.host
FromStart start before (Err stop) = Unit {0}

first_fresh : (n : ℕ) (xs ys : List Step) (asker : Asker) → AreFresh n (xs ++ ys) asker → AreFresh n xs asker
first_fresh n [] ys asker a = tt
first_fresh n (x ∷ xs) ys asker a = (a.0, first_fresh n xs ys (asker_after n x asker) a.1)

without_post : (start after : HostState) (before : List Step) (end : ℕ) (event : Event) → Asks start (before ++ steps.Post end event ∷ []) after → Asks start before after
without_post start after before end event t = record {
  asking = t.asking;
  home = t.home;
  askers = λ n. t.askers n ∙ all_after n before (steps.Post end event ∷ []) (asker_at start n);
  fresh = λ n. first_fresh n before (steps.Post end event ∷ []) (asker_at start n) (t.fresh n);
}

post_last : (start : HostState) (before : List Step) (end : ℕ) (event : Event) (cell : Cell) (done : Followed) → FollowsAsk cell.host done → Asks start (before ++ steps.Post end event ∷ []) cell.host → FromStart start before (done then steps_on [])
post_last start before end event cell (Ok done) f t = subst (λ (l : List LocalEntry). Asks start (before ++ steps_in l) done.1.host) (sym (append-nil done.0))
    (onward start cell.host done.1.host before (steps_in done.0) (without_post start cell.host before end event t) (f t.asking))
post_last start before end event cell (Err stop) f t = tt

step_first : (start : HostState) (before : List Step) (step : Step) (more : Followed) → FromStart start (before ++ step ∷ []) more → FromStart start before (after_entries (local.Step step ∷ []) more)
step_first start before step (Ok more) t = subst (λ (l : List Step). Asks start l more.1.host) (append_assoc before (step ∷ []) (steps_in more.0)) t
step_first start before step (Err stop) t = tt

moved : (start after : HostState) (before : List Step) (step : Step) (rest : List Step) → Asks start (before ++ step ∷ rest) after → Asks start ((before ++ step ∷ []) ++ rest) after
moved start after before step rest t = subst (λ (l : List Step). Asks start l after) (sym (append_assoc before (step ∷ []) rest)) t

steps_of : (start : HostState) (before told : List Step) (cell : Cell) → PostsLast told → Asks start (before ++ told) cell.host → FromStart start before (steps_on told cell)
steps_of start before [] cell p t = t
steps_of start before (steps.Post end event ∷ rest) cell p t = subst (λ (l : List Step). FromStart start before (posted end event cell then steps_on l)) (sym p)
    (post_last start before end event cell (posted end event cell) (posted_told end event cell) (subst (λ (l : List Step). Asks start (before ++ steps.Post end event ∷ l) cell.host) p t))
steps_of start before (steps.Dial sock end peer ∷ rest) cell p t = step_first start before (steps.Dial sock end peer) (steps_on rest cell) (steps_of start (before ++ steps.Dial sock end peer ∷ []) rest cell p (moved start cell.host before (steps.Dial sock end peer) rest t))
steps_of start before (steps.Read sock ∷ rest) cell p t = step_first start before (steps.Read sock) (steps_on rest cell) (steps_of start (before ++ steps.Read sock ∷ []) rest cell p (moved start cell.host before (steps.Read sock) rest t))
steps_of start before (steps.Write sock bytes said ∷ rest) cell p t = step_first start before (steps.Write sock bytes said) (steps_on rest cell) (steps_of start (before ++ steps.Write sock bytes said ∷ []) rest cell p (moved start cell.host before (steps.Write sock bytes said) rest t))
steps_of start before (steps.Up sock ∷ rest) cell p t = step_first start before (steps.Up sock) (steps_on rest cell) (steps_of start (before ++ steps.Up sock ∷ []) rest cell p (moved start cell.host before (steps.Up sock) rest t))
steps_of start before (steps.Down sock ∷ rest) cell p t = step_first start before (steps.Down sock) (steps_on rest cell) (steps_of start (before ++ steps.Down sock ∷ []) rest cell p (moved start cell.host before (steps.Down sock) rest t))
steps_of start before (steps.Left sock ∷ rest) cell p t = step_first start before (steps.Left sock) (steps_on rest cell) (steps_of start (before ++ steps.Left sock ∷ []) rest cell p (moved start cell.host before (steps.Left sock) rest t))
steps_of start before (steps.Broke end peer why ∷ rest) cell p t = step_first start before (steps.Broke end peer why) (steps_on rest cell) (steps_of start (before ++ steps.Broke end peer why ∷ []) rest cell p (moved start cell.host before (steps.Broke end peer why) rest t))

-- the same since the host before these steps
from_host : (before : HostState) (done : Followed) → (IsAsking before → FromStart before [] done) → FollowsAsk before done
from_host before (Ok done) f = f
from_host before (Err stop) f = tt

-- ---- items

items_of : (fuel : ℕ) (cell : Cell) → FollowsAsk cell.host (items_on fuel cell)
items_of zero cell = at_rest cell.host
items_of (suc fuel) cell = by_next (host_next cell.host) refl (items_of fuel) where
  by_some : (o : Option (List Step)) (after : HostState) → host_next cell.host ≡ Ok (o, after) → ((next : Cell) → FollowsAsk next.host (items_on fuel next)) → FollowsAsk cell.host (elim o as (λ o. Followed) [
    | None ↦ Ok ([], cell)
    | Some done ↦ (steps_on done (record cell { host = after }) then items_on fuel)
  ])
  by_some None after e more = at_rest cell.host
  by_some (Some done) after e more = chained cell.host (steps_on done (record cell { host = after })) (items_on fuel)
      (from_host cell.host (steps_on done (record cell { host = after })) (λ s. steps_of cell.host [] done (record cell { host = after }) (next_last cell.host after done e) (next_asks cell.host after done s e))) more

  by_next : (next : Result (Option (List Step) × HostState) Stop) → host_next cell.host ≡ next → ((c : Cell) → FollowsAsk c.host (items_on fuel c)) → FollowsAsk cell.host (elim next as (λ n. Followed) [
    | Err stop ↦ Err stop
    | Ok next ↦ elim next.0 [
      | None ↦ Ok ([], cell)
      | Some done ↦ (steps_on done (record cell { host = next.1 }) then items_on fuel)
    ]
  ])
  by_next (Err stop) e more = tt
  by_next (Ok next) e more = by_some next.0 next.1 e more

all_told : (cell : Cell) → FollowsAsk cell.host (all_items cell)
all_told cell = items_of (kept_bytes cell.host) cell

-- ---- one event

abbrev CelledAsk : HostState → Celled → Type 0
CelledAsk before (Ok done) = IsAsking before → Asks before (steps_in done.0.1) done.1.host
CelledAsk before (Err stop) = Unit {0}

answered_told : (before : HostState) (verdict : Verdict) (done : Followed) → FollowsAsk before done → CelledAsk before (answered verdict done)
answered_told before verdict (Ok done) f = f
answered_told before verdict (Err stop) f = tt

refusal_told : (e : CommandError) (cell : Cell) → CelledAsk cell.host (refusal e cell)
refusal_told refusals.OutOfMemory cell = tt
refusal_told refusals.Worn cell = tt
refusal_told refusals.Unknown cell = at_rest cell.host
refusal_told e cell = at_rest cell.host

node_told : (end : ℕ) (cell : Cell) (done : Result (List Act × NodeState) CommandError) → CelledAsk cell.host (node_did end cell done)
node_told end cell (Ok done) = answered_told cell.host verdicts.Ok (acts_on end done.0 (with_node end done.1 cell) then all_items) (chained cell.host (acts_on end done.0 (with_node end done.1 cell)) all_items (acts_told end done.0 (with_node end done.1 cell)) all_told)
node_told end cell (Err e) = refusal_told e cell

closes_told : (end : ℕ) (cell : Cell) (done : Result (List Step × HostState) EndError) → AllAsk cell.host done → AllLast done → FollowsAsk cell.host (closes_after end cell done)
closes_told end cell (Ok done) t p = from_host cell.host (steps_on done.0 (record cell { host = done.1 })) (λ s. steps_of cell.host [] done.0 (record cell { host = done.1 }) p (t s))
closes_told end cell (Err e) t p = asked_told cell (Err e) tt

shut_told : (end : ℕ) (cell : Cell) (done : Result (List Act × NodeState) CommandError) → CelledAsk cell.host (shut_node end cell done)
shut_told end cell (Ok done) = answered_told cell.host verdicts.Ok (acts_on end done.0 (with_node end done.1 cell) then (λ told. closes_after end told (host_close_endpoint told.host end)) then all_items)
    (chained cell.host (acts_on end done.0 (with_node end done.1 cell) then (λ told. closes_after end told (host_close_endpoint told.host end))) all_items
    (chained cell.host (acts_on end done.0 (with_node end done.1 cell)) (λ told. closes_after end told (host_close_endpoint told.host end)) (acts_told end done.0 (with_node end done.1 cell))
    (λ next. closes_told end next (host_close_endpoint next.host end) (endpoint_closed next.host end) (endpoint_last next.host end))) all_told)
shut_told end cell (Err e) = refusal_told e cell

at_node_told : (end : ℕ) (cell : Cell) (f : NodeState → Celled) → ((node : NodeState) → CelledAsk cell.host (f node)) → CelledAsk cell.host (at_node end cell f)
at_node_told end cell f each = by_node (find (is_at end) cell.nodes) where
  by_node : (o : Option (ℕ × NodeState)) → CelledAsk cell.host (elim o as (λ o. Celled) [
    | None ↦ refused verdicts.Nothing cell
    | Some node ↦ f node.1
  ])
  by_node None = at_rest cell.host
  by_node (Some node) = each node.1

host_told : (verdict : Verdict) (cell : Cell) (done : Stepped) → AllAsk cell.host done → AllLast done → CelledAsk cell.host (host_did verdict cell done)
host_told verdict cell (Ok done) t p = answered_told cell.host verdict (steps_on done.0 (record cell { host = done.1 }) then all_items)
    (chained cell.host (steps_on done.0 (record cell { host = done.1 })) all_items (from_host cell.host (steps_on done.0 (record cell { host = done.1 })) (λ s. steps_of cell.host [] done.0 (record cell { host = done.1 }) p (t s))) all_told)
host_told verdict cell (Err stop) t p = tt

event_is_told : (cell : Cell) (event : LocalEvent) → ComesOddTo event → CelledAsk cell.host (cell_step cell event)
event_is_told cell (events.Make end) of = at_node_told end cell (λ node. node_did end cell (node_make node)) (λ node. node_told end cell (node_make node))
event_is_told cell (events.Command end by command) of = at_node_told end cell (commanded end by command cell) (λ node. node_told end cell (node_command node by command (room_for cell.host end node.own (target_node node by command))))
event_is_told cell (events.Shut end) of = at_node_told end cell (λ node. shut_node end cell (node_shut node)) (λ node. shut_told end cell (node_shut node))
event_is_told cell (events.Came mark sock peer_host) of = host_told verdicts.Ok cell (host_on cell.host (sockets.Came sock peer_host)) (event_asks cell.host (sockets.Came sock peer_host) of) (event_last cell.host (sockets.Came sock peer_host))
event_is_told cell (events.Socket event) of = host_told (heard_as cell.host event) cell (host_on cell.host event) (event_asks cell.host event of) (event_last cell.host event)

pub cell_asks : (cell after : Cell) (event : LocalEvent) (verdict : Verdict) (told : List LocalEntry) → ComesOddTo event → IsAsking cell.host → cell_step cell event ≡ Ok ((verdict, told), after) → Asks cell.host (steps_in told) after.host
cell_asks cell after event verdict told of s e = by_done (cell_step cell event) (event_is_told cell event of) e where
  by_done : (done : Celled) → CelledAsk cell.host done → done ≡ Ok ((verdict, told), after) → Asks cell.host (steps_in told) after.host
  by_done done t e = subst (λ (d : Celled). CelledAsk cell.host d) e t s
