-- What a cell makes of an event, turn by turn: each keeps the claim.
use Rattle.std.specs.Prelude.{◌≡◌, ℕ, zero, suc, Bool, true, false, cond, List, [], ◌∷◌, find, slice_get, Option, Some, None, Result, Ok, Err}
use Rattle.std.proofs.Common.{refl, ap, sym, ◌∙◌, subst}
use Rattle.ch_base.specs.declared.address.Address.{Address}
use Rattle.ch_base.specs.declared.memory.Stop.{Stop}
use Rattle.ch_wire.specs.Spelling.{request_spelling}
use Rattle.ch_model.specs.declared.act.Act.{Act}
use Rattle.ch_model.specs.declared.command.CommandError.{CommandError}
use Rattle.ch_model.specs.declared.command.CommandError.TheVariants as refusals
use Rattle.ch_model.specs.declared.entry.Entry.{Entry}
use Rattle.ch_model.specs.declared.entry.Verdict.{Verdict}
use Rattle.ch_model.specs.declared.entry.Verdict.TheVariants as verdicts
use Rattle.ch_model.specs.declared.line.Line.{Line}
use Rattle.ch_model.specs.declared.local.LocalEntry.{LocalEntry}
use Rattle.ch_model.specs.declared.local.LocalEntry.TheVariants as local
use Rattle.ch_model.specs.declared.step.SocketEvent.{SocketEvent}
use Rattle.ch_model.specs.declared.step.SocketEvent.TheVariants as sockets
use Rattle.ch_model.specs.declared.step.Step.{Step}
use Rattle.ch_model.specs.declared.step.Step.TheVariants as steps
use Rattle.ch_model.specs.Cell.{Celled, answered, refused, refusal, node_did, at_node, host_did}
use Rattle.ch_model.specs.CellSteps.{Followed, after_entries, ◌then◌, is_at, with_node, told_steps, acts_on, steps_on, kept_bytes, items_on, all_items}
use Rattle.ch_model.specs.Host.{on_socket, joins, keeps, host_on, host_next}
use Rattle.ch_model.specs.HostState.{Socket, HostState}
use Rattle.ch_model.specs.HostSteps.{Stepped, still, is_socket, own_address, with_socket}
use Rattle.ch_model.specs.HostWrites.{writes}
use Rattle.ch_model.specs.NodeState.{NodeState}
use Rattle.ch_model.specs.Stages.{Stage, Open, is_pending, is_open}
use Rattle.ch_model.specs.WorldHappenings.{cell_told}
use Rattle.ch_model.specs.WorldState.{Cell, World}
use Rattle.ch_laws_log.proofs.Kept.{Led}
use Rattle.ch_laws_log.proofs.Posts.{PostsNone, AllNone}
use Rattle.ch_laws_calls.specs.Calls.{Claim, Anything, with_host, done_at}
use Rattle.ch_laws_calls.proofs.Cells.{AllRun}
use Rattle.ch_laws_calls.proofs.Runs.{HoldsAfter, Runs, more_told, runs_both, runs_none}
use Rattle.ch_laws_calls.specs.Turns.{told_on, KeepsTurns}
use Rattle.ch_laws_calls.proofs.TurnsOfCalls.{silent, item_runs}

-- ---- steps that post nothing

-- they are told, and nothing follows
nothing_posted : (done : List Step) (mid : Cell) → PostsNone done → steps_on done mid ≡ Ok (told_steps done, mid)
nothing_posted [] mid none = refl
nothing_posted (steps.Post end event ∷ rest) mid none = absurd none
nothing_posted (step ∷ rest) mid none = ap (after_entries (local.Step step ∷ [])) (nothing_posted rest mid none)

at_socket : (test : Stage → Bool) (sock : ℕ) (f : Socket → HostState → Stepped) (host : HostState) → ((socket : Socket) → AllNone (f socket host)) → AllNone (on_socket test sock f host)
at_socket test sock f host each = by_socket (find (is_socket sock) host.sockets) where
  by_test : (socket : Socket) (b : Bool) → AllNone (cond b (f socket host) (still host))
  by_test socket true = each socket
  by_test socket false = tt

  by_socket : (o : Option Socket) → AllNone (elim o as (λ o. Stepped) [
    | None ↦ still host
    | Some socket ↦ cond (test socket.stage) (f socket host) (still host)
  ])
  by_socket None = tt
  by_socket (Some socket) = by_test socket (test socket.stage)

join_posts_none : (socket : Socket) (host : HostState) → AllNone (joins socket host)
join_posts_none socket host = by_user socket.user where
  by_user : (user : Option (ℕ × Address)) → AllNone (elim user as (λ o. Stepped) [
    | None ↦ still host
    | Some user ↦ writes socket.number (request_spelling (record { target = user.1.id; from = own_address host user.0 })) (with_socket (record socket { stage = Open }) host)
  ])
  by_user None = tt
  by_user (Some user) = tt

-- no event of these posts anything
abbrev IsQuiet : SocketEvent → Type 0
IsQuiet event = (host : HostState) → AllNone (host_on host event)

pub join_quiet : (sock : ℕ) → IsQuiet (sockets.Joined sock)
unfolding host_on
join_quiet sock = λ host. at_socket is_pending sock joins host (λ socket. join_posts_none socket host)

pub come_quiet : (sock : ℕ) (peer_host : List ℕ) → IsQuiet (sockets.Came sock peer_host)
unfolding host_on
come_quiet sock peer_host = λ host. tt

pub feed_quiet : (sock : ℕ) (bytes : List ℕ) → IsQuiet (sockets.Fed sock bytes)
unfolding host_on
feed_quiet sock bytes = λ host. at_socket is_open sock (keeps bytes) host (λ socket. tt)

-- after such an event all is told at once
pub quiet_holds : (J : Claim) (event : SocketEvent) (place : ℕ) (cell : Cell × ℕ) (after : Cell) (done : List Step) (host : HostState) (told : List LocalEntry) (log : List Entry) (world : World) → IsQuiet event → host_on cell.0.host event ≡ Ok (done, host)
    → steps_on done (with_host cell host) ≡ Ok (told, after) → HoldsAfter J log (done_at place cell done host world) → HoldsAfter J log (told_on place cell after told world)
quiet_holds J event place cell after done host told log world quiet does is held = subst Holds (sym (nothing_posted done (with_host cell host) none) ∙ is) held where
  Holds : Followed → Type 0
  Holds (Ok all) = HoldsAfter J log (told_on place cell all.1 all.0 world)
  Holds (Err stop) = Unit {0}

  none : PostsNone done
  none = subst (λ (d : Stepped). AllNone d) does (quiet cell.0.host)

-- ---- one thing after another

module _ (J : Claim) (place : ℕ) where
  both_run : (before : Cell) (done : Followed) (f : Cell → Followed) → AllRun J place before done → ((next : Cell) → AllRun J place next (f next)) → AllRun J place before (done then f)
  both_run before (Ok done) f a each = by_more (f done.1) (each done.1) where
    by_more : (more : Followed) → AllRun J place done.1 more → AllRun J place before (after_entries done.0 more)
    by_more (Ok more) b = runs_both J place before done.1 more.1 done.0 more.0 a b
    by_more (Err stop) b = tt
  both_run before (Err stop) f a each = tt

  each_runs : (before : Cell) (done : Followed) → ((told : List LocalEntry) (after : Cell) → done ≡ Ok (told, after) → Runs J place before told after) → AllRun J place before done
  each_runs before (Ok done) each = each done.0 done.1 refl
  each_runs before (Err stop) each = tt

  -- nothing is told, and the cell stays
  rest_led : (log : List Entry) (world : World) (cell : Cell × ℕ) (verdict : Verdict) → slice_get world.cells place ≡ Some cell → J log world → Led J log (cell_told place cell world (refused verdict cell.0))
  rest_led log world cell verdict at j = (runs_none J place cell.0).keeps log world cell.1 at j

  refusal_led : (e : CommandError) (log : List Entry) (world : World) (cell : Cell × ℕ) → slice_get world.cells place ≡ Some cell → J log world → Led J log (cell_told place cell world (refusal e cell.0))
  refusal_led refusals.OutOfMemory log world cell at j = tt
  refusal_led refusals.Worn log world cell at j = tt
  refusal_led e log world cell at j = rest_led log world cell verdicts.Nothing at j

  -- the node at an endpoint, if one is there, does something
  pub seat_led : (log : List Entry) (world : World) (cell : Cell × ℕ) (end : ℕ) (f : NodeState → Celled) → slice_get world.cells place ≡ Some cell → J log world
      → ((there : ℕ × NodeState) → find (is_at end) cell.0.nodes ≡ Some there → Led J log (cell_told place cell world (f there.1))) → Led J log (cell_told place cell world (at_node end cell.0 f))
  seat_led log world cell end f at j each = by_node (find (is_at end) cell.0.nodes) refl where
    by_node : (o : Option (ℕ × NodeState)) → find (is_at end) cell.0.nodes ≡ o → Led J log (cell_told place cell world (elim o as (λ o. Celled) [
      | None ↦ refused verdicts.Nothing cell.0
      | Some node ↦ f node.1
    ]))
    by_node None found = rest_led log world cell verdicts.Nothing at j
    by_node (Some there) found = each there found

-- ---- turns

module _ (journal : List Line) (J : Claim) (t : KeepsTurns journal Anything Anything J) (place : ℕ) where
  item_turn : (cell after : Cell) (done : List Step) (host : HostState) (told : List LocalEntry) → host_next cell.host ≡ Ok (Some done, host) → steps_on done (record cell { host = host }) ≡ Ok (told, after) → Runs J place cell told after
  item_turn cell after done host told does is = let runs = item_runs journal Anything (silent journal) place cell after done host told does is in record {
    text = runs.text;
    port = runs.port;
    apart = runs.apart;
    keeps = λ log world count at j. t.item log world place (cell, count) done host told after at does is tt j tt;
  }

  items_turn : (fuel : ℕ) (cell : Cell) → AllRun J place cell (items_on fuel cell)
  items_turn zero cell = runs_none J place cell
  items_turn (suc fuel) cell = by_next (host_next cell.host) refl (items_turn fuel) where
    by_some : (o : Option (List Step)) (host : HostState) → host_next cell.host ≡ Ok (o, host) → ((next : Cell) → AllRun J place next (items_on fuel next)) → AllRun J place cell (elim o as (λ o. Followed) [
      | None ↦ Ok ([], cell)
      | Some done ↦ (steps_on done (record cell { host = host }) then items_on fuel)
    ])
    by_some None host e more = runs_none J place cell
    by_some (Some done) host e more = both_run J place cell (steps_on done (record cell { host = host })) (items_on fuel)
        (each_runs J place cell (steps_on done (record cell { host = host })) (λ told after is. item_turn cell after done host told e is)) more

    by_next : (next : Result (Option (List Step) × HostState) Stop) → host_next cell.host ≡ next → ((next : Cell) → AllRun J place next (items_on fuel next)) → AllRun J place cell (elim next as (λ o. Followed) [
      | Err stop ↦ Err stop
      | Ok next ↦ elim next.0 [
        | None ↦ Ok ([], cell)
        | Some done ↦ (steps_on done (record cell { host = next.1 }) then items_on fuel)
      ]
    ])
    by_next (Err stop) e more = tt
    by_next (Ok next) e more = by_some next.0 next.1 e more

  -- after a turn all items are read, each in a turn
  items_last : (log : List Entry) (world : World) (cell : Cell × ℕ) (verdict : Verdict) (one : Followed) → slice_get world.cells place ≡ Some cell
      → ((told : List LocalEntry) (after : Cell) → one ≡ Ok (told, after) → HoldsAfter J log (told_on place cell after told world)) → Led J log (cell_told place cell world (answered verdict (one then all_items)))
  items_last log world cell verdict (Ok one) at each = by_more (all_items one.1) (items_turn (kept_bytes one.1.host) one.1) where
    by_more : (more : Followed) → AllRun J place one.1 more → Led J log (cell_told place cell world (answered verdict (after_entries one.0 more)))
    by_more (Ok more) a = more_told J place cell.1 cell one.1 more.1 one.0 more.0 log world at a (each one.0 one.1 refl)
    by_more (Err stop) a = tt
  items_last log world cell verdict (Err stop) at each = tt

  -- what a node made of a call, where its acts keep the claim
  pub node_led : (log : List Entry) (world : World) (cell : Cell × ℕ) (end : ℕ) (made : Result (List Act × NodeState) CommandError) → slice_get world.cells place ≡ Some cell → J log world
      → ((acts : List Act) (next : NodeState) (told : List LocalEntry) (after : Cell) → made ≡ Ok (acts, next) → acts_on end acts (with_node end next cell.0) ≡ Ok (told, after) → HoldsAfter J log (told_on place cell after told world))
      → Led J log (cell_told place cell world (node_did end cell.0 made))
  node_led log world cell end (Ok made) at j each = items_last log world cell verdicts.Ok (acts_on end made.0 (with_node end made.1 cell.0)) at (λ told after is. each made.0 made.1 told after refl is)
  node_led log world cell end (Err e) at j each = refusal_led J place e log world cell at j

  -- what a host made of an event, where its steps and what they post keep the claim
  pub host_led : (log : List Entry) (world : World) (cell : Cell × ℕ) (verdict : Verdict) (event : SocketEvent) → slice_get world.cells place ≡ Some cell
      → ((done : List Step) (host : HostState) (told : List LocalEntry) (after : Cell) → host_on cell.0.host event ≡ Ok (done, host) → steps_on done (with_host cell host) ≡ Ok (told, after) → HoldsAfter J log (told_on place cell after told world))
      → Led J log (cell_told place cell world (host_did verdict cell.0 (host_on cell.0.host event)))
  host_led log world cell verdict event at each = by_done (host_on cell.0.host event) refl where
    by_done : (done : Stepped) → host_on cell.0.host event ≡ done → Led J log (cell_told place cell world (host_did verdict cell.0 done))
    by_done (Ok done) e = items_last log world cell verdict (steps_on done.0 (with_host cell done.1)) at (λ told after is. each done.0 done.1 told after e is)
    by_done (Err stop) e = tt
