-- What a cell makes of an event that shuts no node leaves each node shut as it was.
use Rattle.std.proofs.Common.{◌≡◌, ℕ, zero, suc, Bool, true, false, cond, List, [], ◌∷◌, Ok, Err, refl, sym, ap, ◌∙◌, subst}
use Rattle.std.specs.Prelude.{find, Result, Option, Some, None}
use Rattle.ch_base.specs.declared.event.Event.{Event}
use Rattle.ch_base.specs.declared.memory.Stop.{Stop}
use Rattle.ch_model.specs.declared.act.Act.{Act}
use Rattle.ch_model.specs.declared.act.Act.TheVariants as acts
use Rattle.ch_model.specs.declared.command.CommandError.{CommandError}
use Rattle.ch_model.specs.declared.command.CommandError.TheVariants as commands
use Rattle.ch_model.specs.declared.entry.Verdict.{Verdict}
use Rattle.ch_model.specs.declared.entry.Verdict.TheVariants as verdicts
use Rattle.ch_model.specs.declared.local.LocalEntry.{LocalEntry}
use Rattle.ch_model.specs.declared.local.LocalEvent.{LocalEvent}
use Rattle.ch_model.specs.declared.local.LocalEvent.TheVariants as events
use Rattle.ch_model.specs.declared.step.EndError.{EndError}
use Rattle.ch_model.specs.declared.step.EndError.TheVariants as errors
use Rattle.ch_model.specs.declared.step.SocketEvent.TheVariants as sockets
use Rattle.ch_model.specs.declared.step.Step.{Step}
use Rattle.ch_model.specs.declared.step.Step.TheVariants as steps
use Rattle.ch_model.specs.HostState.{HostState}
use Rattle.ch_model.specs.HostSteps.{Stepped}
use Rattle.ch_model.specs.Host.{host_on, host_next}
use Rattle.ch_model.specs.HostCalls.{host_connect, host_send, host_close}
use Rattle.ch_model.specs.NodeState.{NodeState}
use Rattle.ch_model.specs.Node.{node_make, node_command, node_event, target_node}
use Rattle.ch_model.specs.WorldState.{Cell}
use Rattle.ch_model.specs.CellSteps.{Followed, after_entries, ◌then◌, is_at, store_node, with_node, asked, act_on, acts_on, node_followed, posted, step_on, steps_on, kept_bytes, items_on, all_items}
use Rattle.ch_model.specs.Cell.{Celled, answered, refused, refusal, node_did, at_node, room_for, commanded, host_did, heard_as, cell_step}
use Rattle.ch_laws_items.proofs.Sockets.{number_is}
use Rattle.ch_laws_items.proofs.Hosts as hosts
use Rattle.ch_laws_many.proofs.Unshut as nodes

-- the number of the endpoint of each node, and whether that node is shut
abbrev pub seats_of : List (ℕ × NodeState) → List (ℕ × Bool)
seats_of [] = []
seats_of (node ∷ rest) = (node.0, node.1.is_shut) ∷ seats_of rest

-- where a cell's host is, and which of its nodes are shut
abbrev pub Home : Type 0
Home = hosts.Where × List (ℕ × Bool)

abbrev pub home_of : Cell → Home
home_of cell = (hosts.where_is cell.host, seats_of cell.nodes)

-- whatever was done, the cell is the same
abbrev pub Stays : {S E : Type 0} → Cell → Result (S × Cell) E → Type 0
Stays before (Ok done) = home_of done.1 ≡ home_of before
Stays before (Err e) = Unit {0}

-- ---- one thing and then another

from : {S E : Type 0} (one two : Cell) (done : Result (S × Cell) E) → home_of two ≡ home_of one → Stays two done → Stays one done
from one two (Ok done) a b = b ∙ a
from one two (Err e) a b = tt

later : (entries : List LocalEntry) (one two : Cell) (done : Followed) → home_of two ≡ home_of one → Stays two done → Stays one (after_entries entries done)
later entries one two (Ok done) a b = b ∙ a
later entries one two (Err stop) a b = tt

chained : (cell : Cell) (done : Followed) (f : Cell → Followed) → Stays cell done → ((next : Cell) → Stays next (f next)) → Stays cell (done then f)
chained cell (Ok done) f a g = later done.0 cell done.1 (f done.1) a (g done.1)
chained cell (Err stop) f a g = tt

answer_stays : (verdict : Verdict) (cell : Cell) (done : Followed) → Stays cell done → Stays cell (answered verdict done)
answer_stays verdict cell (Ok done) k = k
answer_stays verdict cell (Err stop) k = tt

refusal_stays : (error : CommandError) (cell : Cell) → Stays cell (refusal error cell)
refusal_stays commands.Unknown cell = refl
refusal_stays commands.Dead cell = refl
refusal_stays commands.Long cell = refl
refusal_stays commands.Full cell = refl
refusal_stays commands.Spent cell = refl
refusal_stays commands.Taken cell = refl
refusal_stays commands.NoName cell = refl
refusal_stays commands.NoRef cell = refl
refusal_stays commands.Empty cell = refl
refusal_stays commands.Hale cell = refl
refusal_stays commands.OutOfMemory cell = tt
refusal_stays commands.Worn cell = tt

-- ---- a host or a node that is kept in its place

with_host : (cell : Cell) (host : HostState) → hosts.where_is host ≡ hosts.where_is cell.host → home_of (record cell { host = host }) ≡ home_of cell
with_host cell host e = ap (λ (w : hosts.Where). (w, seats_of cell.nodes)) e

seat : (end number : ℕ) (who known : Bool) (rest : List (ℕ × Bool)) → end ≡ number → who ≡ known → ((end, who) ∷ rest) ≡ ((number, known) ∷ rest)
seat end number who known rest e f = cc

-- the same node, kept in its place
seated : (end : ℕ) (node : NodeState) (there : ℕ × NodeState) (seats : List (ℕ × NodeState)) → node.is_shut ≡ there.1.is_shut → find (is_at end) seats ≡ Some there → seats_of (store_node end node seats) ≡ seats_of seats
seated end node there [] same found = refl
seated end node there (known ∷ rest) same found = by_test (is_at end known) refl found (seated end node there rest same)
  where
    by_test : (b : Bool) → is_at end known ≡ b → cond b (Some known) (find (is_at end) rest) ≡ Some there → (find (is_at end) rest ≡ Some there → seats_of (store_node end node rest) ≡ seats_of rest) → seats_of (cond b ((end, node) ∷ rest) (known ∷ store_node end node rest)) ≡ (known.0, known.1.is_shut) ∷ seats_of rest
    by_test true is found ih =
        let this : known ≡ there = cc in
        seat end known.0 (node.is_shut) (known.1.is_shut) (seats_of rest) (sym (number_is known.0 end is)) (same ∙ ap (λ (s : ℕ × NodeState). s.1.is_shut) (sym this))
    by_test false is found ih = ap (λ (seats : List (ℕ × Bool)). (known.0, known.1.is_shut) ∷ seats) (ih found)

kept : (end : ℕ) (node : NodeState) (there : ℕ × NodeState) (cell : Cell) → node.is_shut ≡ there.1.is_shut → find (is_at end) cell.nodes ≡ Some there → home_of (with_node end node cell) ≡ home_of cell
kept end node there cell same found = ap (λ (seats : List (ℕ × Bool)). (hosts.where_is cell.host, seats)) (seated end node there cell.nodes same found)

-- ---- what a node's acts ask of the host

asked_of : (cell : Cell) (done : Result (List Step × HostState) EndError) → hosts.Stays cell.host done → Stays cell (asked cell done)
asked_of cell (Ok done) k = with_host cell done.1 k
asked_of cell (Err errors.Worn) k = tt
asked_of cell (Err errors.OutOfMemory) k = tt
asked_of cell (Err errors.NoEndPoint) k = refl
asked_of cell (Err errors.NoConnection) k = refl
asked_of cell (Err errors.QueueFull) k = refl
asked_of cell (Err errors.PayloadLong) k = refl
asked_of cell (Err errors.Spent) k = refl

act_of : (end : ℕ) (act : Act) (cell : Cell) → Stays cell (act_on end act cell)
act_of end (acts.Note note) cell = refl
act_of end (acts.Open conn peer) cell = asked_of cell (host_connect cell.host end peer conn) (hosts.connected cell.host end peer conn)
act_of end (acts.Put conn payload weight) cell = asked_of cell (host_send cell.host end conn payload weight) (hosts.sent cell.host end conn payload weight)
act_of end (acts.Close conn) cell = asked_of cell (host_close cell.host end conn) (hosts.closed cell.host end conn)

acts_of : (end : ℕ) (done : List Act) (cell : Cell) → Stays cell (acts_on end done cell)
acts_of end [] cell = refl
acts_of end (act ∷ rest) cell = chained cell (act_on end act cell) (acts_on end rest) (act_of end act cell) (acts_of end rest)

-- ---- what a step of the host tells a node

followed_of : (end : ℕ) (cell : Cell) (there : ℕ × NodeState) (done : Result (List Act × NodeState) Stop) → find (is_at end) cell.nodes ≡ Some there → nodes.Stays there.1 done → Stays cell (node_followed end cell done)
followed_of end cell there (Ok done) found k = from cell (with_node end done.1 cell) (acts_on end done.0 (with_node end done.1 cell)) (kept end done.1 there cell k found) (acts_of end done.0 (with_node end done.1 cell))
followed_of end cell there (Err stop) found k = tt

posted_of : (end : ℕ) (event : Event) (cell : Cell) → Stays cell (posted end event cell)
posted_of end event cell = by_node (find (is_at end) cell.nodes) refl
  where
    by_node : (o : Option (ℕ × NodeState)) → find (is_at end) cell.nodes ≡ o → Stays cell (elim o as (λ o. Followed) [
      | None ↦ Ok ([], cell)
      | Some node ↦ node_followed end cell (node_event node.1 event)
    ])
    by_node None found = refl
    by_node (Some node) found = followed_of end cell node (node_event node.1 event) found (nodes.on_event node.1 event)

step_of : (step : Step) (cell : Cell) → Stays cell (step_on step cell)
step_of (steps.Post end event) cell = posted_of end event cell
step_of (steps.Dial sock end peer) cell = refl
step_of (steps.Read sock) cell = refl
step_of (steps.Write sock bytes said) cell = refl
step_of (steps.Up sock) cell = refl
step_of (steps.Down sock) cell = refl
step_of (steps.Left sock) cell = refl
step_of (steps.Broke end peer why) cell = refl

steps_of : (done : List Step) (cell : Cell) → Stays cell (steps_on done cell)
steps_of [] cell = refl
steps_of (step ∷ rest) cell = chained cell (step_on step cell) (steps_on rest) (step_of step cell) (steps_of rest)

-- the steps of a host, from the cell before them
steps_from : (cell : Cell) (host : HostState) (done : List Step) → hosts.where_is host ≡ hosts.where_is cell.host → Stays cell (steps_on done (record cell { host = host }))
steps_from cell host done k = from cell (record cell { host = host }) (steps_on done (record cell { host = host })) (with_host cell host k) (steps_of done (record cell { host = host }))

-- ---- items

items_of : (fuel : ℕ) (cell : Cell) → Stays cell (items_on fuel cell)
items_of zero cell = refl
items_of (suc fuel) cell = by_next (host_next cell.host) (hosts.next_item cell.host) (items_of fuel)
  where
    by_some : (o : Option (List Step)) (host : HostState) → hosts.where_is host ≡ hosts.where_is cell.host → ((next : Cell) → Stays next (items_on fuel next)) → Stays cell (elim o as (λ o. Followed) [
      | None ↦ Ok ([], cell)
      | Some done ↦ (steps_on done (record cell { host = host }) then items_on fuel)
    ])
    by_some None host k ih = refl
    by_some (Some done) host k ih = chained cell (steps_on done (record cell { host = host })) (items_on fuel) (steps_from cell host done k) ih

    by_next : (next : Result (Option (List Step) × HostState) Stop) → hosts.Stays cell.host next → ((c : Cell) → Stays c (items_on fuel c)) → Stays cell (elim next as (λ next. Followed) [
      | Err stop ↦ Err stop
      | Ok next ↦ elim next.0 as (λ o. Followed) [
        | None ↦ Ok ([], cell)
        | Some done ↦ (steps_on done (record cell { host = next.1 }) then items_on fuel)
      ]
    ])
    by_next (Err stop) k ih = tt
    by_next (Ok next) k ih = by_some next.0 next.1 k ih

all_of : (cell : Cell) → Stays cell (all_items cell)
all_of cell = items_of (kept_bytes cell.host) cell

-- ---- one event

-- the node at an endpoint does something
at_of : (end : ℕ) (cell : Cell) (f : NodeState → Celled) → ((there : ℕ × NodeState) → find (is_at end) cell.nodes ≡ Some there → Stays cell (f there.1)) → Stays cell (at_node end cell f)
at_of end cell f k = by_node (find (is_at end) cell.nodes) refl
  where
    by_node : (o : Option (ℕ × NodeState)) → find (is_at end) cell.nodes ≡ o → Stays cell (elim o as (λ o. Celled) [
      | None ↦ refused verdicts.Nothing cell
      | Some node ↦ f node.1
    ])
    by_node None found = refl
    by_node (Some node) found = k node found

did_of : (end : ℕ) (cell : Cell) (there : ℕ × NodeState) (done : Result (List Act × NodeState) CommandError) → find (is_at end) cell.nodes ≡ Some there → nodes.Stays there.1 done → Stays cell (node_did end cell done)
did_of end cell there (Ok done) found k = answer_stays verdicts.Ok cell (acts_on end done.0 (with_node end done.1 cell) then all_items) (from cell (with_node end done.1 cell) (acts_on end done.0 (with_node end done.1 cell) then all_items) (kept end done.1 there cell k found) (chained (with_node end done.1 cell) (acts_on end done.0 (with_node end done.1 cell)) all_items (acts_of end done.0 (with_node end done.1 cell)) all_of))
did_of end cell there (Err e) found k = refusal_stays e cell

host_of : (verdict : Verdict) (cell : Cell) (done : Stepped) → hosts.Stays cell.host done → Stays cell (host_did verdict cell done)
host_of verdict cell (Ok done) k = answer_stays verdict cell (steps_on done.0 (record cell { host = done.1 }) then all_items) (chained cell (steps_on done.0 (record cell { host = done.1 })) all_items (steps_from cell done.1 done.0 k) all_of)
host_of verdict cell (Err stop) k = tt

-- the event shuts no node
abbrev pub ShutsNone : LocalEvent → Type 0
ShutsNone (events.Make end) = Unit {0}
ShutsNone (events.Command end by command) = nodes.IsOfMany command
ShutsNone (events.Shut end) = ⊥
ShutsNone event = Unit {0}

event_of : (cell : Cell) (event : LocalEvent) → ShutsNone event → Stays cell (cell_step cell event)
event_of cell (events.Make end) of = at_of end cell (λ node. node_did end cell (node_make node)) (λ there found. did_of end cell there (node_make there.1) found (nodes.on_make there.1))
event_of cell (events.Command end by command) of = at_of end cell (commanded end by command cell) (λ there found. did_of end cell there (node_command there.1 by command (room_for cell.host end there.1.own (target_node there.1 by command))) found (nodes.on_command there.1 by command (room_for cell.host end there.1.own (target_node there.1 by command)) of))
event_of cell (events.Shut end) of = absurd of
event_of cell (events.Came mark sock peer_host) of = host_of verdicts.Ok cell (host_on cell.host (sockets.Came sock peer_host)) (hosts.on_event cell.host (sockets.Came sock peer_host))
event_of cell (events.Socket event) of = host_of (heard_as cell.host event) cell (host_on cell.host event) (hosts.on_event cell.host event)

-- at each endpoint the node is shut as it was
pub cell_after : (cell after : Cell) (event : LocalEvent) (done : Verdict × List LocalEntry) → ShutsNone event → cell_step cell event ≡ Ok (done, after) → seats_of after.nodes ≡ seats_of cell.nodes
cell_after cell after event done of is = by_done (cell_step cell event) (event_of cell event of) is where
  cell_in : Celled → Cell
  cell_in (Ok one) = one.1
  cell_in (Err stop) = cell

  by_done : (one : Celled) → Stays cell one → one ≡ Ok (done, after) → seats_of after.nodes ≡ seats_of cell.nodes
  by_done (Ok one) k e = let same : one.1 ≡ after = ap cell_in e in ap (λ (h : Home). h.1) (subst (λ (c : Cell). home_of c ≡ home_of cell) same k)
  by_done (Err stop) k e = absurd cc
