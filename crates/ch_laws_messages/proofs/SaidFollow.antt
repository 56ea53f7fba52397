-- What a host's steps tell its nodes, of no link that failed, and of one event at most: each node only hears.
use Rattle.std.proofs.Common.{◌≡◌, ◌≤◌, ℕ, Bool, true, false, List, [], ◌∷◌, length, Ok, Err, refl, sym, subst, arith}
use Rattle.std.specs.Prelude.{find, Option, Some, None, Result, ◌==◌}
use Rattle.ch_base.specs.declared.event.Event.{Event}
use Rattle.ch_base.specs.declared.event.Event.TheVariants as events
use Rattle.ch_model.specs.declared.act.Act.{Act}
use Rattle.ch_model.specs.declared.act.Act.TheVariants as acts
use Rattle.ch_model.specs.declared.step.EndError.{EndError}
use Rattle.ch_model.specs.declared.step.EndError.TheVariants as errors
use Rattle.ch_base.specs.declared.memory.Stop.{Stop}
use Rattle.ch_model.specs.declared.local.LocalEntry.{LocalEntry}
use Rattle.ch_model.specs.declared.local.LocalEntry.TheVariants as local
use Rattle.ch_model.specs.declared.step.Step.{Step}
use Rattle.ch_model.specs.declared.step.Step.TheVariants as steps
use Rattle.ch_model.specs.CellSteps.{Followed, ◌then◌, after_entries, is_at, store_node, with_node, asked, act_on, acts_on, node_followed, step_on, steps_on}
use Rattle.ch_model.specs.HostCalls.{host_connect, host_send, host_close}
use Rattle.ch_model.specs.HostState.{HostState}
use Rattle.ch_model.specs.Node.{node_event}
use Rattle.ch_model.specs.NodeState.{NodeState}
use Rattle.ch_model.specs.WorldState.{Cell}
use Rattle.ch_laws_calls.specs.Calls.{with_host}
use Rattle.ch_laws_connections.proofs.Cells.{stored_other, stored_there}
use Rattle.ch_laws_plain.specs.Plain.{CellIsPlain}
use Rattle.ch_laws_plain_nodes.specs.Plain.{IsPlain}
use Rattle.ch_laws_writes.proofs.Worlds.{number_is}
use Rattle.ch_laws_messages.specs.SaidHeeds.{AreCalm, NodeHears, NodesHear}
use Rattle.ch_laws_messages.proofs.SaidHears.{IsCalmEvent, hears_keeps}

-- no step posts an event; or one does at most
abbrev pub PostsNone : List Step → Type 0
PostsNone [] = Unit {0}
PostsNone (steps.Post end event ∷ rest) = ⊥
PostsNone (step ∷ rest) = PostsNone rest

abbrev pub PostsOne : List Step → Type 0
PostsOne [] = Unit {0}
PostsOne (steps.Post end event ∷ rest) = PostsNone rest
PostsOne (step ∷ rest) = PostsOne rest

-- the nodes of a cell after what followed are these
abbrev Has : List (ℕ × NodeState) → Followed → Type 0
Has nodes (Ok done) = done.1.nodes ≡ nodes
Has nodes (Err stop) = Unit {0}

then_has : (nodes : List (ℕ × NodeState)) (first : Followed) (f : Cell → Followed) → Has nodes first → ((cell : Cell) → cell.nodes ≡ nodes → Has nodes (f cell)) → Has nodes (first then f)
then_has nodes (Err stop) f h g = tt
then_has nodes (Ok done) f h g = entries done.0 (f done.1) (g done.1 h) where
  entries : (l : List LocalEntry) (r : Followed) → Has nodes r → Has nodes (after_entries l r)
  entries l (Ok more) h = h
  entries l (Err stop) h = tt

asked_has : (cell : Cell) (r : Result (List Step × HostState) EndError) → Has cell.nodes (asked cell r)
asked_has cell (Ok done) = refl
asked_has cell (Err errors.Worn) = tt
asked_has cell (Err errors.OutOfMemory) = tt
asked_has cell (Err e) = refl

-- acts change no node
act_has : (end : ℕ) (act : Act) (cell : Cell) → Has cell.nodes (act_on end act cell)
act_has end (acts.Note note) cell = refl
act_has end (acts.Open conn peer) cell = asked_has cell (host_connect cell.host end peer conn)
act_has end (acts.Put conn payload weight) cell = asked_has cell (host_send cell.host end conn payload weight)
act_has end (acts.Close conn) cell = asked_has cell (host_close cell.host end conn)

acts_has : (end : ℕ) (done : List Act) (cell : Cell) (nodes : List (ℕ × NodeState)) → cell.nodes ≡ nodes → Has nodes (acts_on end done cell)
acts_has end [] cell nodes e = e
acts_has end (act ∷ rest) cell nodes e = then_has nodes (act_on end act cell) (acts_on end rest) (subst (λ (n : List (ℕ × NodeState)). Has n (act_on end act cell)) e (act_has end act cell)) (λ c f. acts_has end rest c nodes f)

none_has : (done : List Step) (cell : Cell) (nodes : List (ℕ × NodeState)) → PostsNone done → cell.nodes ≡ nodes → Has nodes (steps_on done cell)
none_has [] cell nodes p e = e
none_has (steps.Post end event ∷ rest) cell nodes p e = absurd p
none_has (steps.Dial sock end peer ∷ rest) cell nodes p e = then_has nodes (step_on (steps.Dial sock end peer) cell) (steps_on rest) e (λ c f. none_has rest c nodes p f)
none_has (steps.Read sock ∷ rest) cell nodes p e = then_has nodes (step_on (steps.Read sock) cell) (steps_on rest) e (λ c f. none_has rest c nodes p f)
none_has (steps.Write sock bytes said ∷ rest) cell nodes p e = then_has nodes (step_on (steps.Write sock bytes said) cell) (steps_on rest) e (λ c f. none_has rest c nodes p f)
none_has (steps.Up sock ∷ rest) cell nodes p e = then_has nodes (step_on (steps.Up sock) cell) (steps_on rest) e (λ c f. none_has rest c nodes p f)
none_has (steps.Down sock ∷ rest) cell nodes p e = then_has nodes (step_on (steps.Down sock) cell) (steps_on rest) e (λ c f. none_has rest c nodes p f)
none_has (steps.Left sock ∷ rest) cell nodes p e = then_has nodes (step_on (steps.Left sock) cell) (steps_on rest) e (λ c f. none_has rest c nodes p f)
none_has (steps.Broke end peer why ∷ rest) cell nodes p e = then_has nodes (step_on (steps.Broke end peer why) cell) (steps_on rest) e (λ c f. none_has rest c nodes p f)

-- ---- what nodes hear

-- each of these was there before, and has only heard
abbrev Heard : List (ℕ × NodeState) → List (ℕ × NodeState) → Type 0
Heard before now = (end : ℕ) (there : ℕ × NodeState) → find (is_at end) now ≡ Some there → (number : ℕ) × (was : NodeState) × (find (is_at end) before ≡ Some (number, was)) × NodeHears was there.1

abbrev AllHeard : List (ℕ × NodeState) → Followed → Type 0
AllHeard before (Ok done) = Heard before done.1.nodes
AllHeard before (Err stop) = Unit {0}

self : (node : NodeState) → NodeHears node node
self node = record { own = refl; made = less (length node.mail); pairs = refl; living = λ by living. living } where
  less : (n : ℕ) → n ≤ n
  less n = omega arith

unheard : (nodes : List (ℕ × NodeState)) → Heard nodes nodes
unheard nodes = λ end there found. (there.0, there.1, found, self there.1)

has_heard : (before nodes : List (ℕ × NodeState)) (r : Followed) → Heard before nodes → Has nodes r → AllHeard before r
has_heard before nodes (Ok done) k h = subst (Heard before) (sym h) k
has_heard before nodes (Err stop) k h = tt

entries_heard : (before : List (ℕ × NodeState)) (l : List LocalEntry) (r : Followed) → AllHeard before r → AllHeard before (after_entries l r)
entries_heard before l (Ok more) h = h
entries_heard before l (Err stop) h = tt

-- one of them has heard
stored_heard : (end : ℕ) (there : ℕ × NodeState) (next : NodeState) (nodes : List (ℕ × NodeState)) → find (is_at end) nodes ≡ Some there → NodeHears there.1 next → Heard nodes (store_node end next nodes)
stored_heard end there next nodes found k = λ e x is. by_test e x is (end == e) refl where
  by_test : (e : ℕ) (x : ℕ × NodeState) → find (is_at e) (store_node end next nodes) ≡ Some x → (b : Bool) → (end == e) ≡ b → (number : ℕ) × (was : NodeState) × (find (is_at e) nodes ≡ Some (number, was)) × NodeHears was x.1
  by_test e x is true h = (there.0, there.1, subst (λ (n : ℕ). find (is_at n) nodes ≡ Some there) (number_is end e h) found, subst (NodeHears there.1) (sym (stored_there end next e x nodes is h)) k)
  by_test e x is false h = (x.0, x.1, stored_other end next e x nodes is h, self x.1)

calm_event : (end : ℕ) (event : Event) (rest : List Step) → AreCalm (steps.Post end event ∷ rest) → IsCalmEvent event
calm_event end (events.ConnectionLost peer why) rest c = absurd c
calm_event end (events.ConnectionOpened conn peer) rest c = tt
calm_event end (events.ConnectionClosed conn) rest c = tt
calm_event end (events.Received conn payload) rest c = tt
calm_event end events.EndPointClosed rest c = tt

abbrev ArePlain : List (ℕ × NodeState) → Type 0
ArePlain nodes = (end : ℕ) (there : ℕ × NodeState) → find (is_at end) nodes ≡ Some there → IsPlain there.1

one_heard : (done : List Step) (cell : Cell) → AreCalm done → PostsOne done → ArePlain cell.nodes → AllHeard cell.nodes (steps_on done cell)
one_heard [] cell c p plain = unheard cell.nodes
one_heard (steps.Post end event ∷ rest) cell c p plain = by_node (find (is_at end) cell.nodes) refl where
  behind : (nodes : List (ℕ × NodeState)) (first : Followed) → Has nodes first → Has nodes (first then steps_on rest)
  behind nodes first h = then_has nodes first (steps_on rest) h (λ a f. none_has rest a nodes p f)

  by_event : (there : ℕ × NodeState) → find (is_at end) cell.nodes ≡ Some there → (r : Result (List Act × NodeState) Stop) → node_event there.1 event ≡ r → AllHeard cell.nodes (node_followed end cell r then steps_on rest)
  by_event there found (Err stop) e = tt
  by_event there found (Ok did) e = has_heard cell.nodes (store_node end did.1 cell.nodes) (acts_on end did.0 (with_node end did.1 cell) then steps_on rest) (stored_heard end there did.1 cell.nodes found (hears_keeps there.1 event did.0 did.1 (plain end there found) (calm_event end event rest c) e))
      (behind (store_node end did.1 cell.nodes) (acts_on end did.0 (with_node end did.1 cell)) (acts_has end did.0 (with_node end did.1 cell) (store_node end did.1 cell.nodes) refl))

  by_node : (o : Option (ℕ × NodeState)) → find (is_at end) cell.nodes ≡ o → AllHeard cell.nodes ((elim o as (λ o. Followed) [
    | None ↦ Ok ([], cell)
    | Some node ↦ node_followed end cell (node_event node.1 event)
  ]) then steps_on rest)
  by_node None found = has_heard cell.nodes cell.nodes (Ok ([], cell) then steps_on rest) (unheard cell.nodes) (behind cell.nodes (Ok ([], cell)) refl)
  by_node (Some there) found = by_event there found (node_event there.1 event) refl
one_heard (steps.Broke end peer why ∷ rest) cell c p plain = absurd c
one_heard (steps.Dial sock end peer ∷ rest) cell c p plain = entries_heard cell.nodes (local.Step (steps.Dial sock end peer) ∷ []) (steps_on rest cell) (one_heard rest cell c p plain)
one_heard (steps.Read sock ∷ rest) cell c p plain = entries_heard cell.nodes (local.Step (steps.Read sock) ∷ []) (steps_on rest cell) (one_heard rest cell c p plain)
one_heard (steps.Write sock bytes said ∷ rest) cell c p plain = entries_heard cell.nodes (local.Step (steps.Write sock bytes said) ∷ []) (steps_on rest cell) (one_heard rest cell c p plain)
one_heard (steps.Up sock ∷ rest) cell c p plain = entries_heard cell.nodes (local.Step (steps.Up sock) ∷ []) (steps_on rest cell) (one_heard rest cell c p plain)
one_heard (steps.Down sock ∷ rest) cell c p plain = entries_heard cell.nodes (local.Step (steps.Down sock) ∷ []) (steps_on rest cell) (one_heard rest cell c p plain)
one_heard (steps.Left sock ∷ rest) cell c p plain = entries_heard cell.nodes (local.Step (steps.Left sock) ∷ []) (steps_on rest cell) (one_heard rest cell c p plain)

-- of a cell whose nodes are plain
pub nodes_hear : (cell : Cell × ℕ) (done : List Step) (host : HostState) (told : List LocalEntry) (after : Cell) → steps_on done (with_host cell host) ≡ Ok (told, after) → AreCalm done → PostsOne done → CellIsPlain cell.0 → NodesHear cell.0 after
nodes_hear cell done host told after e c p plain = subst (AllHeard cell.0.nodes) e (one_heard done (with_host cell host) c p (λ end there found. (plain.nodes end there found).plain))
