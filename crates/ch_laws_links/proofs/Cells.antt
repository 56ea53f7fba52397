-- What a cell makes of an event keeps its host naming, and tells how its ends stand.
use Rattle.std.proofs.Common.{◌≡◌, ℕ, zero, suc, ◌+◌, ◌*◌, List, [], ◌∷◌, ◌++◌, Ok, Err, refl, sym, ap, ◌∙◌, subst, append_assoc}
use Rattle.std.proofs.lemmas.List.{append-nil}
use Rattle.std.specs.Prelude.{find, Result, Option, Some, None}
use Rattle.ch_base.specs.declared.event.Event.{Event}
use Rattle.ch_base.specs.declared.memory.Stop.{Stop}
use Rattle.ch_model.specs.declared.act.Act.{Act}
use Rattle.ch_model.specs.declared.act.Act.TheVariants as acts
use Rattle.ch_model.specs.declared.command.CommandError.{CommandError}
use Rattle.ch_model.specs.declared.command.CommandError.TheVariants as refusals
use Rattle.ch_model.specs.declared.entry.Verdict.{Verdict}
use Rattle.ch_model.specs.declared.entry.Verdict.TheVariants as verdicts
use Rattle.ch_model.specs.declared.local.LocalEntry.{LocalEntry}
use Rattle.ch_model.specs.declared.local.LocalEntry.TheVariants as local
use Rattle.ch_model.specs.declared.local.LocalEvent.{LocalEvent}
use Rattle.ch_model.specs.declared.local.LocalEvent.TheVariants as events
use Rattle.ch_model.specs.declared.step.EndError.{EndError}
use Rattle.ch_model.specs.declared.step.EndError.TheVariants as errors
use Rattle.ch_model.specs.declared.step.SocketEvent.{SocketEvent}
use Rattle.ch_model.specs.declared.step.SocketEvent.TheVariants as sockets
use Rattle.ch_model.specs.declared.step.Step.{Step}
use Rattle.ch_model.specs.declared.step.Step.TheVariants as steps
use Rattle.ch_model.specs.Cell.{Celled, answered, refused, refusal, node_did, at_node, commanded, room_for, closes_after, shut_node, host_did, heard_as, cell_step}
use Rattle.ch_model.specs.CellSteps.{Followed, after_entries, ◌then◌, is_at, with_node, told_steps, asked, act_on, acts_on, node_followed, posted, steps_on, kept_bytes, items_on, all_items}
use Rattle.ch_model.specs.Host.{host_on, host_next}
use Rattle.ch_model.specs.HostCalls.{host_connect, host_send, host_close, host_close_endpoint}
use Rattle.ch_model.specs.HostState.{HostState}
use Rattle.ch_model.specs.HostSteps.{Stepped, is_socket}
use Rattle.ch_model.specs.Node.{node_make, node_command, node_event, node_shut, target_node}
use Rattle.ch_model.specs.NodeState.{NodeState}
use Rattle.ch_model.specs.WorldState.{Cell}
use Rattle.ch_laws_log.specs.HostEnds.{steps_in}
use Rattle.ch_laws_log.proofs.Posts.{PostsLast, AllLast, next_last, event_last, endpoint_last}
use Rattle.ch_laws_links.specs.Naming.{IsNaming}
use Rattle.ch_laws_links.specs.Standing.{Standing, standing_at, standing_after, standing_after_all, AreRight, standing_heard, ComesFree, TellsEnds}
use Rattle.ch_laws_links.specs.Cells.{standing_local, ComesFreeTo}
use Rattle.ch_laws_links.proofs.Goes.{all_after, right_as, right_after}
use Rattle.ch_laws_links.proofs.Calls.{opened_by}
use Rattle.ch_laws_links.proofs.Hosts.{Goes, AllNaming, event_naming, next_naming, connect_naming, send_naming, close_naming, close_endpoint_naming}

-- From where ends stood so, and where these odd numbers were free, the host came about, naming, and that was told.
pub record GoesFrom (now : ℕ → Option Standing) (free : ℕ → Type 0) (told : List Step) (after : HostState) : Type 0 where
  pub naming : IsNaming after
  pub tells : TellsEnds now told after
  pub odd : (k : ℕ) → free k → find (is_socket (2 * k + 1)) after.sockets ≡ None

-- the odd numbers that are free at a host
abbrev pub IsFreeAt : HostState → ℕ → Type 0
IsFreeAt host k = find (is_socket (2 * k + 1)) host.sockets ≡ None

abbrev pub GoesFromHost : HostState → List Step → HostState → Type 0
GoesFromHost before told after = GoesFrom (standing_at before) (IsFreeAt before) told after

from_goes : (before : HostState) (told : List Step) (after : HostState) → Goes before told after → GoesFromHost before told after
from_goes before told after g = record { naming = g.naming; tells = g.tells; odd = g.odd }

onward : (now : ℕ → Option Standing) (free : ℕ → Type 0) (two three : HostState) (xs ys : List Step) → GoesFrom now free xs two → GoesFromHost two ys three → GoesFrom now free (xs ++ ys) three
onward now free two three xs ys a b = record {
  naming = b.naming;
  tells = record {
    right = right_after now xs ys a.tells.right (right_as (standing_at two) (λ n. standing_after_all xs n (now n)) a.tells.stands ys b.tells.right);
    stands = λ n. b.tells.stands n ∙ ap (standing_after_all ys n) (a.tells.stands n) ∙ sym (all_after xs ys n (now n));
  };
  odd = λ k f. b.odd k (a.odd k f);
}

at_rest : (host : HostState) → IsNaming host → GoesFromHost host [] host
at_rest host s = record { naming = s; tells = record { right = tt; stands = λ n. refl }; odd = λ k f. f }

-- ---- the steps among what followed

steps_append : (xs ys : List LocalEntry) → steps_in (xs ++ ys) ≡ steps_in xs ++ steps_in ys
steps_append [] ys = refl
steps_append (local.Step step ∷ xs) ys = ap (λ l. step ∷ l) (steps_append xs ys)
steps_append (local.Note note ∷ xs) ys = steps_append xs ys

pub steps_told : (done : List Step) → steps_in (told_steps done) ≡ done
steps_told [] = refl
steps_told (step ∷ done) = ap (λ l. step ∷ l) (steps_told done)

-- what followed keeps the host naming, and tells so
abbrev FollowsTold : HostState → Followed → Type 0
FollowsTold before (Ok done) = IsNaming before → GoesFromHost before (steps_in done.0) done.1.host
FollowsTold before (Err stop) = Unit {0}

-- the same since another time
abbrev SinceTold : (ℕ → Option Standing) → (ℕ → Type 0) → List Step → Followed → Type 0
SinceTold now free before (Ok done) = GoesFrom now free (before ++ steps_in done.0) done.1.host
SinceTold now free before (Err stop) = Unit {0}

then_told : (now : ℕ → Option Standing) (free : ℕ → Type 0) (done : Followed) (f : Cell → Followed) → SinceTold now free [] done → ((next : Cell) → FollowsTold next.host (f next)) → SinceTold now free [] (done then f)
then_told now free (Ok done) f a g = from (f done.1) (g done.1) where
  from : (more : Followed) → FollowsTold done.1.host more → SinceTold now free [] (after_entries done.0 more)
  from (Ok more) b = subst (λ (l : List Step). GoesFrom now free l more.1.host) (sym (steps_append done.0 more.0)) (onward now free done.1.host more.1.host (steps_in done.0) (steps_in more.0) a (b a.naming))
  from (Err stop) b = tt
then_told now free (Err stop) f a g = tt

chained : (before : HostState) (done : Followed) (f : Cell → Followed) → FollowsTold before done → ((next : Cell) → FollowsTold next.host (f next)) → FollowsTold before (done then f)
chained before (Ok done) f a g = from (f done.1) (g done.1) where
  from : (more : Followed) → FollowsTold done.1.host more → FollowsTold before (after_entries done.0 more)
  from (Ok more) b = λ s. let one = a s in subst (λ (l : List Step). GoesFromHost before l more.1.host) (sym (steps_append done.0 more.0)) (onward (standing_at before) (IsFreeAt before) done.1.host more.1.host (steps_in done.0) (steps_in more.0) one (b one.naming))
  from (Err stop) b = tt
chained before (Err stop) f a g = tt

-- ---- a node's acts

asked_told : (cell : Cell) (done : Result (List Step × HostState) EndError) → AllNaming cell.host done → FollowsTold cell.host (asked cell done)
asked_told cell (Ok done) t = λ s. subst (λ (l : List Step). GoesFromHost cell.host l done.1) (sym (steps_told done.0)) (from_goes cell.host done.0 done.1 (t s))
asked_told cell (Err errors.Worn) t = tt
asked_told cell (Err errors.OutOfMemory) t = tt
asked_told cell (Err errors.NoEndPoint) t = at_rest cell.host
asked_told cell (Err errors.NoConnection) t = at_rest cell.host
asked_told cell (Err errors.QueueFull) t = at_rest cell.host
asked_told cell (Err errors.PayloadLong) t = at_rest cell.host
asked_told cell (Err errors.Spent) t = at_rest cell.host

act_told : (end : ℕ) (act : Act) (cell : Cell) → FollowsTold cell.host (act_on end act cell)
act_told end (acts.Note note) cell = at_rest cell.host
act_told end (acts.Open conn peer) cell = asked_told cell (host_connect cell.host end peer conn) (connect_naming cell.host end peer conn)
act_told end (acts.Put conn payload weight) cell = asked_told cell (host_send cell.host end conn payload weight) (send_naming cell.host end conn payload weight)
act_told end (acts.Close conn) cell = asked_told cell (host_close cell.host end conn) (close_naming cell.host end conn)

acts_told : (end : ℕ) (done : List Act) (cell : Cell) → FollowsTold cell.host (acts_on end done cell)
acts_told end [] cell = at_rest cell.host
acts_told end (act ∷ rest) cell = chained cell.host (act_on end act cell) (acts_on end rest) (act_told end act cell) (acts_told end rest)

followed_told : (end : ℕ) (cell : Cell) (done : Result (List Act × NodeState) Stop) → FollowsTold cell.host (node_followed end cell done)
followed_told end cell (Ok done) = acts_told end done.0 (with_node end done.1 cell)
followed_told end cell (Err stop) = tt

posted_told : (end : ℕ) (event : Event) (cell : Cell) → FollowsTold cell.host (posted end event cell)
posted_told end event cell = by_node (find (is_at end) cell.nodes) where
  by_node : (o : Option (ℕ × NodeState)) → FollowsTold cell.host (elim o as (λ o. Followed) [
    | None ↦ Ok ([], cell)
    | Some node ↦ node_followed end cell (node_event node.1 event)
  ])
  by_node None = at_rest cell.host
  by_node (Some node) = followed_told end cell (node_event node.1 event)

-- ---- a host's steps, with what a node makes of an event that is posted last

first_right : (now : ℕ → Option Standing) (xs ys : List Step) → AreRight now (xs ++ ys) → AreRight now xs
first_right now [] ys a = tt
first_right now (x ∷ xs) ys a = (a.0, first_right (λ n. standing_after x n (now n)) xs ys a.1)

without_post : (now : ℕ → Option Standing) (free : ℕ → Type 0) (after : HostState) (before : List Step) (end : ℕ) (event : Event) → GoesFrom now free (before ++ steps.Post end event ∷ []) after → GoesFrom now free before after
without_post now free after before end event t = record {
  naming = t.naming;
  tells = record {
    right = first_right now before (steps.Post end event ∷ []) t.tells.right;
    stands = λ n. t.tells.stands n ∙ all_after before (steps.Post end event ∷ []) n (now n);
  };
  odd = t.odd;
}

post_last : (now : ℕ → Option Standing) (free : ℕ → Type 0) (before : List Step) (end : ℕ) (event : Event) (cell : Cell) (done : Followed) → FollowsTold cell.host done → GoesFrom now free (before ++ steps.Post end event ∷ []) cell.host → SinceTold now free before (done then steps_on [])
post_last now free before end event cell (Ok done) f t = subst (λ (l : List LocalEntry). GoesFrom now free (before ++ steps_in l) done.1.host) (sym (append-nil done.0))
    (onward now free cell.host done.1.host before (steps_in done.0) (without_post now free cell.host before end event t) (f t.naming))
post_last now free before end event cell (Err stop) f t = tt

step_first : (now : ℕ → Option Standing) (free : ℕ → Type 0) (before : List Step) (step : Step) (more : Followed) → SinceTold now free (before ++ step ∷ []) more → SinceTold now free before (after_entries (local.Step step ∷ []) more)
step_first now free before step (Ok more) t = subst (λ (l : List Step). GoesFrom now free l more.1.host) (append_assoc before (step ∷ []) (steps_in more.0)) t
step_first now free before step (Err stop) t = tt

steps_of : (now : ℕ → Option Standing) (free : ℕ → Type 0) (before told : List Step) (cell : Cell) → PostsLast told → GoesFrom now free (before ++ told) cell.host → SinceTold now free before (steps_on told cell)
steps_of now free before [] cell p t = t
steps_of now free before (steps.Post end event ∷ rest) cell p t = subst (λ (l : List Step). SinceTold now free before (posted end event cell then steps_on l)) (sym p)
    (post_last now free before end event cell (posted end event cell) (posted_told end event cell) (subst (λ (l : List Step). GoesFrom now free (before ++ steps.Post end event ∷ l) cell.host) p t))
steps_of now free before (steps.Dial sock end peer ∷ rest) cell p t = step_first now free before (steps.Dial sock end peer) (steps_on rest cell) (steps_of now free (before ++ steps.Dial sock end peer ∷ []) rest cell p (subst (λ (l : List Step). GoesFrom now free l cell.host) (sym (append_assoc before (steps.Dial sock end peer ∷ []) rest)) t))
steps_of now free before (steps.Read sock ∷ rest) cell p t = step_first now free before (steps.Read sock) (steps_on rest cell) (steps_of now free (before ++ steps.Read sock ∷ []) rest cell p (subst (λ (l : List Step). GoesFrom now free l cell.host) (sym (append_assoc before (steps.Read sock ∷ []) rest)) t))
steps_of now free before (steps.Write sock bytes said ∷ rest) cell p t = step_first now free before (steps.Write sock bytes said) (steps_on rest cell) (steps_of now free (before ++ steps.Write sock bytes said ∷ []) rest cell p (subst (λ (l : List Step). GoesFrom now free l cell.host) (sym (append_assoc before (steps.Write sock bytes said ∷ []) rest)) t))
steps_of now free before (steps.Up sock ∷ rest) cell p t = step_first now free before (steps.Up sock) (steps_on rest cell) (steps_of now free (before ++ steps.Up sock ∷ []) rest cell p (subst (λ (l : List Step). GoesFrom now free l cell.host) (sym (append_assoc before (steps.Up sock ∷ []) rest)) t))
steps_of now free before (steps.Down sock ∷ rest) cell p t = step_first now free before (steps.Down sock) (steps_on rest cell) (steps_of now free (before ++ steps.Down sock ∷ []) rest cell p (subst (λ (l : List Step). GoesFrom now free l cell.host) (sym (append_assoc before (steps.Down sock ∷ []) rest)) t))
steps_of now free before (steps.Left sock ∷ rest) cell p t = step_first now free before (steps.Left sock) (steps_on rest cell) (steps_of now free (before ++ steps.Left sock ∷ []) rest cell p (subst (λ (l : List Step). GoesFrom now free l cell.host) (sym (append_assoc before (steps.Left sock ∷ []) rest)) t))
steps_of now free before (steps.Broke end peer why ∷ rest) cell p t = step_first now free before (steps.Broke end peer why) (steps_on rest cell) (steps_of now free (before ++ steps.Broke end peer why ∷ []) rest cell p (subst (λ (l : List Step). GoesFrom now free l cell.host) (sym (append_assoc before (steps.Broke end peer why ∷ []) rest)) t))

-- the same since the host before these steps
from_host : (before : HostState) (done : Followed) → (IsNaming before → SinceTold (standing_at before) (IsFreeAt before) [] done) → FollowsTold before done
from_host before (Ok done) f = f
from_host before (Err stop) f = tt

-- ---- items

items_of : (fuel : ℕ) (cell : Cell) → FollowsTold cell.host (items_on fuel cell)
items_of zero cell = at_rest cell.host
items_of (suc fuel) cell = by_next (host_next cell.host) refl (items_of fuel) where
  by_some : (o : Option (List Step)) (after : HostState) → host_next cell.host ≡ Ok (o, after) → ((next : Cell) → FollowsTold next.host (items_on fuel next)) → FollowsTold cell.host (elim o as (λ o. Followed) [
    | None ↦ Ok ([], cell)
    | Some done ↦ (steps_on done (record cell { host = after }) then items_on fuel)
  ])
  by_some None after e more = at_rest cell.host
  by_some (Some done) after e more = chained cell.host (steps_on done (record cell { host = after })) (items_on fuel)
      (from_host cell.host (steps_on done (record cell { host = after })) (λ s. steps_of (standing_at cell.host) (IsFreeAt cell.host) [] done (record cell { host = after }) (next_last cell.host after done e) (from_goes cell.host done after (next_naming cell.host after done s e)))) more

  by_next : (next : Result (Option (List Step) × HostState) Stop) → host_next cell.host ≡ next → ((c : Cell) → FollowsTold c.host (items_on fuel c)) → FollowsTold cell.host (elim next as (λ n. Followed) [
    | Err stop ↦ Err stop
    | Ok next ↦ elim next.0 [
      | None ↦ Ok ([], cell)
      | Some done ↦ (steps_on done (record cell { host = next.1 }) then items_on fuel)
    ]
  ])
  by_next (Err stop) e more = tt
  by_next (Ok next) e more = by_some next.0 next.1 e more

all_told : (cell : Cell) → FollowsTold cell.host (all_items cell)
all_told cell = items_of (kept_bytes cell.host) cell

-- ---- one event

-- what a cell made of an event keeps its host naming, and tells so
abbrev CelledTold : (ℕ → Option Standing) → (ℕ → Type 0) → HostState → Celled → Type 0
CelledTold now free before (Ok done) = IsNaming before → GoesFrom now free (steps_in done.0.1) done.1.host
CelledTold now free before (Err stop) = Unit {0}

abbrev CelledAt : HostState → Celled → Type 0
CelledAt before done = CelledTold (standing_at before) (IsFreeAt before) before done

answered_told : (before : HostState) (verdict : Verdict) (done : Followed) → FollowsTold before done → CelledAt before (answered verdict done)
answered_told before verdict (Ok done) f = f
answered_told before verdict (Err stop) f = tt

refusal_told : (e : CommandError) (cell : Cell) → CelledAt cell.host (refusal e cell)
refusal_told refusals.OutOfMemory cell = tt
refusal_told refusals.Worn cell = tt
refusal_told refusals.Unknown cell = at_rest cell.host
refusal_told e cell = at_rest cell.host

node_told : (end : ℕ) (cell : Cell) (done : Result (List Act × NodeState) CommandError) → CelledAt cell.host (node_did end cell done)
node_told end cell (Ok done) = answered_told cell.host verdicts.Ok (acts_on end done.0 (with_node end done.1 cell) then all_items) (chained cell.host (acts_on end done.0 (with_node end done.1 cell)) all_items (acts_told end done.0 (with_node end done.1 cell)) all_told)
node_told end cell (Err e) = refusal_told e cell

closes_told : (end : ℕ) (cell : Cell) (done : Result (List Step × HostState) EndError) → AllNaming cell.host done → AllLast done → FollowsTold cell.host (closes_after end cell done)
closes_told end cell (Ok done) t p = from_host cell.host (steps_on done.0 (record cell { host = done.1 })) (λ s. steps_of (standing_at cell.host) (IsFreeAt cell.host) [] done.0 (record cell { host = done.1 }) p (from_goes cell.host done.0 done.1 (t s)))
closes_told end cell (Err e) t p = asked_told cell (Err e) tt

shut_told : (end : ℕ) (cell : Cell) (done : Result (List Act × NodeState) CommandError) → CelledAt cell.host (shut_node end cell done)
shut_told end cell (Ok done) = answered_told cell.host verdicts.Ok (acts_on end done.0 (with_node end done.1 cell) then (λ told. closes_after end told (host_close_endpoint told.host end)) then all_items)
    (chained cell.host (acts_on end done.0 (with_node end done.1 cell) then (λ told. closes_after end told (host_close_endpoint told.host end))) all_items
    (chained cell.host (acts_on end done.0 (with_node end done.1 cell)) (λ told. closes_after end told (host_close_endpoint told.host end)) (acts_told end done.0 (with_node end done.1 cell))
    (λ next. closes_told end next (host_close_endpoint next.host end) (close_endpoint_naming next.host end) (endpoint_last next.host end))) all_told)
shut_told end cell (Err e) = refusal_told e cell

at_node_told : (end : ℕ) (cell : Cell) (f : NodeState → Celled) → ((node : NodeState) → CelledAt cell.host (f node)) → CelledAt cell.host (at_node end cell f)
at_node_told end cell f each = by_node (find (is_at end) cell.nodes) where
  by_node : (o : Option (ℕ × NodeState)) → CelledAt cell.host (elim o as (λ o. Celled) [
    | None ↦ refused verdicts.Nothing cell
    | Some node ↦ f node.1
  ])
  by_node None = at_rest cell.host
  by_node (Some node) = each node.1

-- the odd numbers that are free once the event's end is open
abbrev pub IsFreeOnce : SocketEvent → HostState → ℕ → Type 0
IsFreeOnce event host k = IsFreeAt (opened_by event host) k

host_told : (verdict : Verdict) (cell : Cell) (event : SocketEvent) → ComesFree cell.host event → CelledTold (λ n. standing_heard event n (standing_at cell.host n)) (IsFreeOnce event cell.host) cell.host (host_did verdict cell (host_on cell.host event))
host_told verdict cell event f = by_done (host_on cell.host event) refl (event_last cell.host event) where
  now : ℕ → Option Standing
  now = λ n. standing_heard event n (standing_at cell.host n)

  free : ℕ → Type 0
  free = IsFreeOnce event cell.host

  as_answered : (done : Followed) → (IsNaming cell.host → SinceTold now free [] done) → CelledTold now free cell.host (answered verdict done)
  as_answered (Ok done) t = t
  as_answered (Err stop) t = tt

  by_done : (done : Stepped) → host_on cell.host event ≡ done → AllLast done → CelledTold now free cell.host (host_did verdict cell done)
  by_done (Ok done) e p = as_answered (steps_on done.0 (record cell { host = done.1 }) then all_items)
      (λ s. let g = event_naming cell.host done.1 event done.0 f s e in then_told now free (steps_on done.0 (record cell { host = done.1 })) all_items (steps_of now free [] done.0 (record cell { host = done.1 }) p (record { naming = g.naming; tells = g.tells; odd = g.odd })) all_told)
  by_done (Err stop) e p = tt

-- the odd numbers that are free once an event's end is open
abbrev pub IsFreeLocal : LocalEvent → HostState → ℕ → Type 0
IsFreeLocal (events.Came mark sock peer_host) host k = IsFreeOnce (sockets.Came sock peer_host) host k
IsFreeLocal (events.Socket event) host k = IsFreeOnce event host k
IsFreeLocal event host k = IsFreeAt host k

event_told : (cell : Cell) (event : LocalEvent) → ComesFreeTo cell.host event → CelledTold (λ n. standing_local event n (standing_at cell.host n)) (IsFreeLocal event cell.host) cell.host (cell_step cell event)
event_told cell (events.Make end) f = at_node_told end cell (λ node. node_did end cell (node_make node)) (λ node. node_told end cell (node_make node))
event_told cell (events.Command end by command) f = at_node_told end cell (commanded end by command cell) (λ node. node_told end cell (node_command node by command (room_for cell.host end node.own (target_node node by command))))
event_told cell (events.Shut end) f = at_node_told end cell (λ node. shut_node end cell (node_shut node)) (λ node. shut_told end cell (node_shut node))
event_told cell (events.Came mark sock peer_host) f = host_told verdicts.Ok cell (sockets.Came sock peer_host) f
event_told cell (events.Socket event) f = host_told (heard_as cell.host event) cell event f

pub cell_naming : (cell after : Cell) (event : LocalEvent) (verdict : Verdict) (told : List LocalEntry) → ComesFreeTo cell.host event → IsNaming cell.host → cell_step cell event ≡ Ok ((verdict, told), after)
    → GoesFrom (λ n. standing_local event n (standing_at cell.host n)) (IsFreeLocal event cell.host) (steps_in told) after.host
cell_naming cell after event verdict told f s e = by_done (cell_step cell event) (event_told cell event f) e where
  by_done : (done : Celled) → CelledTold (λ n. standing_local event n (standing_at cell.host n)) (IsFreeLocal event cell.host) cell.host done → done ≡ Ok ((verdict, told), after)
      → GoesFrom (λ n. standing_local event n (standing_at cell.host n)) (IsFreeLocal event cell.host) (steps_in told) after.host
  by_done done t e = subst (λ (d : Celled). CelledTold (λ n. standing_local event n (standing_at cell.host n)) (IsFreeLocal event cell.host) cell.host d) e t s
