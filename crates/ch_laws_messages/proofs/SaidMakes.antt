-- A process is made, or takes a message: nothing is said.
use Rattle.std.proofs.Common.{◌≡◌, ◌⊎◌, inl, inr, ◌≤◌, ℕ, suc, zero, Bool, true, false, cond, List, [], ◌∷◌, ◌++◌, length, Ok, Err, refl, sym, ap, ◌∙◌, subst, arith}
use Rattle.std.specs.Option.{option_map, option_map_or}
use Rattle.std.specs.Prelude.{find, slice_get, Option, Some, None, not, nat_lt, ◌==◌, ◌&&◌}
use Rattle.ch_base.specs.declared.address.Address.{Address}
use Rattle.ch_base.specs.declared.memory.Stop.TheVariants as stops
use Rattle.ch_ident.specs.declared.identifier.ProcessId.{ProcessId}
use Rattle.ch_mail.specs.Lives.{is_over}
use Rattle.ch_mail.specs.Mail.{make_of, life_of, newborn, last_u32}
use Rattle.ch_mail.specs.Process.{Process}
use Rattle.ch_model.specs.declared.act.Act.{Act}
use Rattle.ch_model.specs.declared.act.Act.TheVariants as acts
use Rattle.ch_model.specs.declared.command.CommandError.TheVariants as errors
use Rattle.ch_model.specs.declared.entry.Entry.{Entry}
use Rattle.ch_model.specs.declared.line.Line.{Line}
use Rattle.ch_model.specs.declared.local.LocalEntry.{LocalEntry}
use Rattle.ch_model.specs.declared.local.LocalEntry.TheVariants as local
use Rattle.ch_model.specs.declared.note.Note.{Note}
use Rattle.ch_model.specs.declared.note.Note.TheVariants as notes
use Rattle.ch_static.specs.declared.target.Target.TheVariants as targets
use Rattle.ch_watch.specs.Same.{same_node}
use Rattle.ch_laws_writes.proofs.Worlds.{number_is}
use Rattle.ch_model.specs.CellSteps.{is_at, store_node, with_node, acts_on}
use Rattle.ch_model.specs.Node.{node_make}
use Rattle.ch_model.specs.NodeActs.{◌>>=◌, noting, stopping}
use Rattle.ch_model.specs.NodeIds.{process_id, is_own, life_here, is_living}
use Rattle.ch_model.specs.NodeLives.{make, with_process}
use Rattle.ch_model.specs.NodePairs.{is_pair, pair_of}
use Rattle.ch_model.specs.NodeState.{NodeState, Pair, Unopened}
use Rattle.ch_model.specs.WorldState.{Cell, World}
use Rattle.ch_race.specs.Pair.{Side}
use Rattle.ch_laws_calls.specs.Scenes.{IsPairOf}
use Rattle.ch_laws_connections.proofs.Cells.{stored_there, stored_other}
use Rattle.ch_laws_plain_nodes.specs.Does.{Makes}
use Rattle.ch_laws_plain_nodes.specs.Plain.{IsPlain}
use Rattle.ch_laws_plain_nodes.proofs.Calls.{makes}
use Rattle.ch_laws_plain_nodes.proofs.Steps.{Claim, Holds, stopped, given_so}
use Rattle.ch_laws_race.specs.Scene.{Party}
use Rattle.ch_laws_calls.specs.Turns.{told_on}
use Rattle.ch_laws_peers.specs.Says.{node_in, node_of, Says, AllSay}
use Rattle.ch_laws_peers.specs.Standing.{Standing}
use Rattle.ch_laws_messages.specs.SaidGoes.{given_to, mark_of, NodeStays}
use Rattle.ch_laws_messages.proofs.SaidStill.{AreQuiet, node_same, quiet_turn}

-- ---- who lives

-- one process more is made
made_mail : (node : NodeState) → Holds (λ done after. after.mail ≡ node.mail ++ newborn ∷ []) (node_make node)
unfolding node_make make make_of
made_mail node = by_shut node.is_shut where
  Grows : Claim
  Grows done after = after.mail ≡ node.mail ++ newborn ∷ []

  one_more : ℕ × List Process
  one_more = (length node.mail, node.mail ++ newborn ∷ [])

  by_room : (b : Bool) → Holds Grows (cond b (Ok one_more) (Err stops.Worn) >>= (λ made. noting (notes.Made (process_id node made.0) None) (with_process node made.1 [])))
  by_room true = refl
  by_room false = tt

  by_shut : (b : Bool) → Holds Grows (cond b (Err errors.Dead) (stopping (make node None [])))
  by_shut true = tt
  by_shut false = stopped Grows (make node None []) (by_room (nat_lt (length node.mail) last_u32))

-- whoever lives by the mail after lived by it before, or is new
abbrev lives_in : Bool → List Process → ℕ → Bool
lives_in own mail by = option_map_or (λ life. not (is_over life)) (cond own (life_of mail by) None) false

got_before : {A : Type 0} (xs : List A) (x : A) (n : ℕ) → (slice_get (xs ++ x ∷ []) n ≡ slice_get xs n) ⊎ (length xs ≤ n)
got_before [] x n = inr (omega arith)
got_before (y ∷ xs) x zero = inl refl
got_before (y ∷ xs) x (suc n) = later (got_before xs x n) where
  more : (a b : ℕ) → a ≤ b → suc a ≤ suc b
  more a b l = omega arith

  later : (slice_get (xs ++ x ∷ []) n ≡ slice_get xs n) ⊎ (length xs ≤ n) → (slice_get (xs ++ x ∷ []) n ≡ slice_get xs n) ⊎ (suc (length xs) ≤ suc n)
  later (inl e) = inl e
  later (inr l) = inr (more (length xs) n l)

lived : (own : Bool) (mail : List Process) (x : Process) (by : ℕ) → lives_in own (mail ++ x ∷ []) by ≡ true → (lives_in own mail by ≡ true) ⊎ (length mail ≤ by)
unfolding life_of
lived own mail x by e = by_got (got_before mail x by) where
  by_got : (slice_get (mail ++ x ∷ []) by ≡ slice_get mail by) ⊎ (length mail ≤ by) → (lives_in own mail by ≡ true) ⊎ (length mail ≤ by)
  by_got (inl same) = inl (ap (λ (o : Option Process). option_map_or (λ life. not (is_over life)) (cond own (option_map (λ (process : Process). process.life) o) None) false) (sym same) ∙ e)
  by_got (inr l) = inr l

living_in : (node : NodeState) (by : ℕ) → is_living node (process_id node by) ≡ lives_in (is_own node (process_id node by)) node.mail by
unfolding is_living life_here
living_in node by = refl

own_same : (a b : NodeState) (by : ℕ) → a.own ≡ b.own → a.unique ≡ b.unique → is_own a (process_id a by) ≡ is_own b (process_id b by)
unfolding is_own
own_same a b by own unique = ap (λ (o : Address). same_node o o && (a.unique == a.unique)) own ∙ ap (λ (u : ℕ). same_node b.own b.own && (u == u)) unique

-- ---- a process is made

pub made_stays : (journal : List Line) (log : List Entry) (party : Side → Party) (x : Side) (world after : World) (node next : NodeState) → Says journal log world party x → node_of party world x ≡ Some node → next ≡ record node { mail = next.mail; args = next.args } → next.mail ≡ node.mail ++ newborn ∷ []
    → ((conn id : ℕ) → given_to party world x conn ≡ Some id → given_to party after x conn ≡ Some id) → NodeStays party x world after next
made_stays journal log party x world after node next s there same mail kept = record {
  was = node;
  there = there;
  own = own;
  made = subst (λ (l : List Process). length node.mail ≤ length l) (sym mail) (longer node.mail);
  declared = λ pair to found is at. s.declared node pair to there (subst (λ (l : List Pair). find (is_pair pair.by pair.to) l ≡ Some pair) pairs found) is at;
  opened = λ by to conn at marked. (marks by to ∙ marked, λ id given. kept conn id given);
  unopened = λ by to at marked living. by_life by to marked (lived (is_own next (process_id next by)) node.mail newborn by (ap (λ (l : List Process). lives_in (is_own next (process_id next by)) l by) (sym mail) ∙ sym (living_in next by) ∙ living));
  unbroken = λ by to at marked. marks by to ∙ marked;
} where
  own : next.own ≡ node.own
  own = ap (λ (n : NodeState). n.own) same

  pairs : next.pairs ≡ node.pairs
  pairs = ap (λ (n : NodeState). n.pairs) same

  marks : (by : ℕ) (to : ProcessId) → mark_of node by to ≡ mark_of next by to
  marks by to = ap (λ (l : List Pair). (pair_of l by (targets.Process to)).mark) (sym pairs)

  longer : (l : List Process) → length l ≤ length (l ++ newborn ∷ [])
  longer [] = omega arith
  longer (y ∷ l) = more (length l) (length (l ++ newborn ∷ [])) (longer l) where
    more : (a b : ℕ) → a ≤ b → suc a ≤ suc b
    more a b l = omega arith

  by_life : (by : ℕ) (to : ProcessId) → mark_of next by to ≡ Unopened → (lives_in (is_own next (process_id next by)) node.mail by ≡ true) ⊎ (length node.mail ≤ by) → ((mark_of node by to ≡ Unopened) × (is_living node (process_id node by) ≡ true)) ⊎ (length node.mail ≤ by)
  by_life by to marked (inl living) = inl (marks by to ∙ marked, living_in node by ∙ ap (λ (b : Bool). lives_in b node.mail by) (sym (own_same next node by own (ap (λ (n : NodeState). n.unique) same))) ∙ living)
  by_life by to marked (inr l) = inr l

-- ---- a turn that tells notes

-- what acts that are one quiet note give
pub one_note : (end : ℕ) (note : Note) (cell : Cell) (told : List LocalEntry) (after : Cell) → acts_on end (acts.Note note ∷ []) cell ≡ Ok (told, after) → (told ≡ local.Note note ∷ []) × (after ≡ cell)
one_note end note cell told after e = let same : (local.Note note ∷ [], cell) ≡ (told, after) = cc in (sym (ap (λ (p : List LocalEntry × Cell). p.0) same), sym (ap (λ (p : List LocalEntry × Cell). p.1) same))

-- the node found at an endpoint of a cell in which one was stored
pub stored_in : (end id count : ℕ) (next node : NodeState) (cell : Cell) → node_in (Some (with_node end next cell, count)) id ≡ Some node → ((end ≡ id) × (node ≡ next)) ⊎ (node_in (Some (cell, count)) id ≡ Some node)
stored_in end id count next node cell e = by_found (find (is_at id) (store_node end next cell.nodes)) refl e where
  by_test : (there : ℕ × NodeState) → find (is_at id) (store_node end next cell.nodes) ≡ Some there → there.1 ≡ node → (b : Bool) → (end == id) ≡ b → ((end ≡ id) × (node ≡ next)) ⊎ (node_in (Some (cell, count)) id ≡ Some node)
  by_test there found is true h = inl (number_is end id h, sym is ∙ stored_there end next id there cell.nodes found h)
  by_test there found is false h = inr (subst (λ (o : Option (ℕ × NodeState)). (elim o as (λ o. Option NodeState) [
    | None ↦ None
    | Some there ↦ Some there.1
  ]) ≡ Some node) (sym (stored_other end next id there cell.nodes found h)) (ap Some is))

  by_found : (o : Option (ℕ × NodeState)) → find (is_at id) (store_node end next cell.nodes) ≡ o → (elim o as (λ o. Option NodeState) [
    | None ↦ None
    | Some there ↦ Some there.1
  ]) ≡ Some node → ((end ≡ id) × (node ≡ next)) ⊎ (node_in (Some (cell, count)) id ≡ Some node)
  by_found None found e = absurd cc
  by_found (Some there) found e = let is : there.1 ≡ node = cc in by_test there found is (end == id) refl

-- a node of the cell as it was before, seen in the world
pub seen_in : (party : Side → Party) (x : Side) (world : World) (place end number : ℕ) (cell : Cell × ℕ) (node : NodeState) → slice_get world.cells place ≡ Some cell → place ≡ (party x).place → end ≡ (party x).address.id → find (is_at end) cell.0.nodes ≡ Some (number, node) → node_of party world x ≡ Some node
seen_in party x world place end number cell node at here there found =
    ap (λ (p : ℕ). node_in (slice_get world.cells p) (party x).address.id) (sym here) ∙ ap (λ (o : Option (Cell × ℕ)). node_in o (party x).address.id) at ∙ ap (λ (e : ℕ). node_in (Some cell) e) (sym there) ∙ ap as_node found where
      as_node : Option (ℕ × NodeState) → Option NodeState
      as_node None = None
      as_node (Some there) = Some there.1

pub made_say : (journal : List Line) (log : List Entry) (world : World) (place : ℕ) (cell : Cell × ℕ) (end number : ℕ) (node : NodeState) (done : List Act) (next : NodeState) (told : List LocalEntry) (after : Cell) → slice_get world.cells place ≡ Some cell → find (is_at end) cell.0.nodes ≡ Some (number, node) → node_make node ≡ Ok (done, next)
    → acts_on end done (with_node end next cell.0) ≡ Ok (told, after) → Standing journal log world → AllSay journal log world → let all = told_on place cell after told world in AllSay journal (log ++ all.0) all.1
made_say journal log world place cell end number node done next told after at found does all st say = quiet_turn journal log world place cell told after at (subst AreQuiet (sym is.0) (tt, tt)) (ap (λ (c : Cell). c.host) is.1) st say
    (λ party x now pair here there kept. by_stored party x now pair here kept (stored_in end (party x).address.id cell.1 next now cell.0 (subst (λ (c : Cell). node_in (Some (c, cell.1)) (party x).address.id ≡ Some now) is.1 there)))
  where
    plain : IsPlain node
    plain = ((st.plain.cells place cell at).nodes end (number, node) found).plain

    m : Makes node done next
    m = given_so (Makes node) (node_make node) done next (makes node plain) does

    mail : next.mail ≡ node.mail ++ newborn ∷ []
    mail = given_so (λ acts after. after.mail ≡ node.mail ++ newborn ∷ []) (node_make node) done next (made_mail node) does

    is : (told ≡ local.Note (notes.Made (process_id node (length node.mail)) None) ∷ []) × (after ≡ with_node end next cell.0)
    is = one_note end (notes.Made (process_id node (length node.mail)) None) (with_node end next cell.0) told after (subst (λ (l : List Act). acts_on end l (with_node end next cell.0) ≡ Ok (told, after)) m.did all)

    by_stored : (party : Side → Party) (x : Side) (now : NodeState) → IsPairOf journal party → place ≡ (party x).place → ((conn id : ℕ) → given_to party world x conn ≡ Some id → given_to party (told_on place cell after told world).1 x conn ≡ Some id) → ((end ≡ (party x).address.id) × (now ≡ next)) ⊎ (node_in (Some cell) (party x).address.id ≡ Some now) → NodeStays party x world (told_on place cell after told world).1 now
    by_stored party x now pair here kept (inl own) = subst (NodeStays party x world (told_on place cell after told world).1) (sym own.1) (made_stays journal log party x world (told_on place cell after told world).1 node next (say party pair x) (seen_in party x world place end number cell node at here own.0 found) m.tells.same mail kept)
    by_stored party x now pair here kept (inr there) = node_same journal log party x world (told_on place cell after told world).1 now (say party pair x) (ap (λ (p : ℕ). node_in (slice_get world.cells p) (party x).address.id) (sym here) ∙ ap (λ (o : Option (Cell × ℕ)). node_in o (party x).address.id) at ∙ there) kept
