-- As much is got within each node as is said there, as long as the receiver isn't over: what is so after a turn, by what is told in it and who is over.
use Rattle.std.proofs.Common.{◌≡◌, ℕ, ◌+◌, Bool, true, false, cond, ◌&&◌, List, [], ◌∷◌, ◌++◌, refl, sym, ap, ◌∙◌, subst}
use Rattle.std.specs.Prelude.{find, slice_get, slice_set, Option, Some, ◌==◌}
use Rattle.std.specs.Str.{bytes_eq}
use Rattle.std.proofs.lemmas.Bool.{and_parts}
use Rattle.std.proofs.lemmas.Slice.Eq.{bytes_eq-Decides}
use Rattle.ch_base.specs.declared.address.Address.{Address}
use Rattle.ch_mail.specs.Process.{Process}
use Rattle.ch_model.specs.declared.entry.Entry.{Entry}
use Rattle.ch_model.specs.declared.entry.Entry.TheVariants as entries
use Rattle.ch_model.specs.declared.line.Line.{Line}
use Rattle.ch_model.specs.declared.name.ProcName.{ProcName}
use Rattle.ch_model.specs.declared.name.TargetName.TheVariants as names
use Rattle.ch_model.specs.CellSteps.{is_at, store_node}
use Rattle.ch_model.specs.Naming.{Names, called, process_called}
use Rattle.ch_model.specs.NodeIds.{process_id}
use Rattle.ch_model.specs.NodeState.{NodeState}
use Rattle.ch_model.specs.Same.{same_process, same_target}
use Rattle.ch_model.specs.World.{names_of, world_new}
use Rattle.ch_model.specs.WorldState.{Cell, World}
use Rattle.ch_laws_connections.proofs.Cells.{stored_there, stored_other}
use Rattle.ch_laws_ends.proofs.Places.{set_split}
use Rattle.ch_laws_log.proofs.Stored.{number_is, number_same}
use Rattle.ch_laws_world.specs.Grows.{homes_of}
use Rattle.ch_laws_many.specs.ManyLines.{AreNamedApart}
use Rattle.ch_laws_many.proofs.Reached.{IsJournal}
use Rattle.ch_laws_messages.specs.MailMail.{is_gone}
use Rattle.ch_laws_messages.proofs.MailMails.{Keeps}
use Rattle.ch_laws_messages.proofs.MailPlaces.{one_place}
use Rattle.ch_laws_messages.proofs.MailWorlds.{IsLike}
use Rattle.ch_laws_messages.specs.GotReceived.{AllGotHome}
use Rattle.ch_laws_messages.proofs.GotApart.{IsEven, even_both}
use Rattle.ch_laws_messages.proofs.GotLists.{clash}

-- ---- who isn't over wasn't over before

-- of a mail, after a call
abbrev pub NoneBack : List Process → List Process → Type 0
NoneBack mail after = (n : ℕ) → is_gone (slice_get after n) ≡ false → is_gone (slice_get mail n) ≡ false

pub none_back_same : (mail after : List Process) → after ≡ mail → NoneBack mail after
none_back_same mail after e n alive = ap (λ (l : List Process). is_gone (slice_get l n)) (sym e) ∙ alive

pub none_back_keeps : (mail after : List Process) → Keeps mail after → NoneBack mail after
none_back_keeps mail after k n alive = (k n alive).0

pub none_back_changes : (mail after : List Process) (number : ℕ) → is_gone (slice_get mail number) ≡ false → ((k : ℕ) → (number == k) ≡ false → slice_get after k ≡ slice_get mail k) → NoneBack mail after
none_back_changes mail after number there others n alive = by_number (number == n) refl where
  by_number : (b : Bool) → (number == n) ≡ b → is_gone (slice_get mail n) ≡ false
  by_number true h = ap (λ (m : ℕ). is_gone (slice_get mail m)) (sym (number_is number n h)) ∙ there
  by_number false h = ap is_gone (sym (others n h)) ∙ alive

-- the node stood there before, at its address, and who isn't over wasn't
pub record Was (world : World) (q e : ℕ) (x : ℕ × NodeState) : Type 0 where
  pub cell : Cell × ℕ
  pub at : slice_get world.cells q ≡ Some cell
  pub was : ℕ × NodeState
  pub found : find (is_at e) cell.0.nodes ≡ Some was
  pub own : x.1.own ≡ was.1.own
  pub back : NoneBack was.1.mail x.1.mail

-- so it is of all nodes
abbrev pub Came : World → World → Type 0
Came world after = (q : ℕ) (c : Cell × ℕ) (e : ℕ) (x : ℕ × NodeState) → slice_get after.cells q ≡ Some c → find (is_at e) c.0.nodes ≡ Some x → Was world q e x

pub like_came : (world after : World) → IsLike after world → Came world after
like_came world after like q c e x at found = let old = like q c at in record { cell = old.0; at = old.1; was = x; found = ap (find (is_at e)) (sym old.2) ∙ found; own = refl; back = λ n alive. alive }

-- a node is stored in place of another
pub node_came : (world after : World) (place end : ℕ) (cell now : Cell × ℕ) (there : ℕ × NodeState) (next : NodeState) → slice_get world.cells place ≡ Some cell → after.cells ≡ slice_set world.cells place now → find (is_at end) cell.0.nodes ≡ Some there → now.0.nodes ≡ store_node end next cell.0.nodes → next.own ≡ there.1.own → NoneBack there.1.mail next.mail → Came world after
node_came world after place end cell now there next at set found stored own back q c e x to here = set_split world.cells place cell now at (λ i y. (e : ℕ) (x : ℕ × NodeState) → find (is_at e) y.0.nodes ≡ Some x → Was world i e x)
    (λ e x here. at_cell e x (ap (find (is_at e)) (sym stored) ∙ here) (end == e) refl)
    (λ i y d to e x here. record { cell = y; at = to; was = x; found = here; own = refl; back = λ n alive. alive })
    q c (ap (λ (l : List (Cell × ℕ)). slice_get l q) (sym set) ∙ to) e x here where
      at_cell : (e : ℕ) (x : ℕ × NodeState) → find (is_at e) (store_node end next cell.0.nodes) ≡ Some x → (b : Bool) → (end == e) ≡ b → Was world place e x
      at_cell e x here true h =
          let is : x.1 ≡ next = stored_there end next e x cell.0.nodes here h in
          record {
            cell = cell;
            at = at;
            was = there;
            found = ap (λ (m : ℕ). find (is_at m) cell.0.nodes) (sym (number_is end e h)) ∙ found;
            own = ap (λ (n : NodeState). n.own) is ∙ own;
            back = λ n alive. back n (ap (λ (m : NodeState). is_gone (slice_get m.mail n)) (sym is) ∙ alive);
          }
      at_cell e x here false h = record { cell = cell; at = at; was = x; found = stored_other end next e x cell.0.nodes here h; own = refl; back = λ n alive. alive }

-- ---- what is so after a turn

-- of what is told, as many messages are got as are said of each pair of a node whose receiver isn't over after it
abbrev pub AllEven : World → List Entry → World → Type 0
AllEven world more after = (q : ℕ) (c : Cell × ℕ) (e : ℕ) (x : ℕ × NodeState) (i j : ℕ) → slice_get after.cells q ≡ Some c → find (is_at e) c.0.nodes ≡ Some x → is_gone (slice_get x.1.mail j) ≡ false → IsEven (process_called world.names (process_id x.1 i)) (process_called world.names (process_id x.1 j)) more

pub all_even : (world : World) (more : List Entry) (after : World) → ((p q : ProcName) → p.node ≡ q.node → IsEven p q more) → AllEven world more after
all_even world more after each q c e x i j at found alive = each (process_called world.names (process_id x.1 i)) (process_called world.names (process_id x.1 j)) refl

pub home_on : (log more : List Entry) (world after : World) → after.names ≡ world.names → Came world after → AllEven world more after → AllGotHome log world → AllGotHome (log ++ more) after
home_on log more world after same came even h place cell end there i j at found alive = subst (λ (known : Names). IsEven (process_called known (process_id there.1 i)) (process_called known (process_id there.1 j)) (log ++ more)) (sym same)
    (even_both (process_called world.names (process_id there.1 i)) (process_called world.names (process_id there.1 j)) log more before (even place cell end there i j at found alive)) where
      w : Was world place end there
      w = came place cell end there at found

      before : IsEven (process_called world.names (process_id there.1 i)) (process_called world.names (process_id there.1 j)) log
      before = subst (λ (own : Address). IsEven (record { node = called world.names own; counter = i }) (record { node = called world.names own; counter = j }) log) (sym w.own) (h place w.cell end w.was i j w.at w.found (w.back j alive))

-- ---- what is said and got at once

-- both of one message
pub one_even : (p q by to : ProcName) (epoch index : ℕ) (mark body : List ℕ) (receiver : Option ProcName) → IsEven p q (entries.Said by (names.Process to) epoch index mark body ∷ entries.Got by (names.Process to) epoch index receiver ∷ [])
one_even p q by to epoch index mark body receiver = by_test (same_process by p && same_target (names.Process to) (names.Process q) && epoch == 0) where
  by_test : (b : Bool) → ((0 + 0) + cond b 1 0) ≡ ((0 + cond b 1 0) + 0)
  by_test true = refl
  by_test false = refl

-- one that isn't got, of a process of a node to one that is over after it
module _ (journal : List Line) (j : IsJournal journal) (named : AreNamedApart (names_of journal)) (world : World) (known : world.names ≡ names_of journal) (homes : homes_of world.cells ≡ homes_of (world_new journal).cells) where
  pub lost_even : (after : World) (place end : ℕ) (cell now : Cell × ℕ) (there : ℕ × NodeState) (next : NodeState) (by to : ℕ) (epoch index : ℕ) (mark body : List ℕ) → slice_get world.cells place ≡ Some cell → after.cells ≡ slice_set world.cells place now → find (is_at end) cell.0.nodes ≡ Some there → now.0.nodes ≡ store_node end next cell.0.nodes
      → is_gone (slice_get next.mail to) ≡ true → AllEven world (entries.Said (process_called world.names (process_id there.1 by)) (names.Process (process_called world.names (process_id there.1 to))) epoch index mark body ∷ []) after
  lost_even after place end cell now there next by to epoch index mark body at set found stored gone q c e x i k to_q here alive = sym (none_first (same_process from p && same_target (names.Process goal) (names.Process r)) (epoch == 0) (by_test (same_process from p && same_target (names.Process goal) (names.Process r)) refl)) where
    from : ProcName
    from = process_called world.names (process_id there.1 by)

    goal : ProcName
    goal = process_called world.names (process_id there.1 to)

    p : ProcName
    p = process_called world.names (process_id x.1 i)

    r : ProcName
    r = process_called world.names (process_id x.1 k)

    none_first : (b c : Bool) → b ≡ false → (0 + cond (b && c) 1 0) ≡ 0
    none_first false c e = refl
    none_first true c e = absurd cc

    -- it is of the same node
    same_node : called world.names there.1.own ≡ called world.names x.1.own → to ≡ k → ⊥
    same_node same is = set_split world.cells place cell now at (λ i y. (e : ℕ) (x : ℕ × NodeState) → find (is_at e) y.0.nodes ≡ Some x → called world.names there.1.own ≡ called world.names x.1.own → is_gone (slice_get x.1.mail k) ≡ false → ⊥)
        (λ e x here same alive. at_cell e x (ap (find (is_at e)) (sym stored) ∙ here) same alive (end == e) refl)
        (λ i y d to_i e x here same alive. clash (sym (number_so place i (one_place journal j named world known homes place i cell y end e there x at to_i found here same).0) ∙ d))
        q c (ap (λ (l : List (Cell × ℕ)). slice_get l q) (sym set) ∙ to_q) e x here same alive where
          number_so : (n m : ℕ) → n ≡ m → (n == m) ≡ true
          number_so n m e = subst (λ (l : ℕ). (n == l) ≡ true) e (number_same n)

          at_cell : (e : ℕ) (x : ℕ × NodeState) → find (is_at e) (store_node end next cell.0.nodes) ≡ Some x → called world.names there.1.own ≡ called world.names x.1.own → is_gone (slice_get x.1.mail k) ≡ false → (b : Bool) → (end == e) ≡ b → ⊥
          at_cell e x here same alive true h = clash (sym (ap (λ (m : ℕ). is_gone (slice_get next.mail m)) (sym is) ∙ gone) ∙ ap (λ (n : NodeState). is_gone (slice_get n.mail k)) (sym (stored_there end next e x cell.0.nodes here h)) ∙ alive)
          at_cell e x here same alive false h = clash (sym (number_so end e (one_place journal j named world known homes place place cell cell end e there x at at found (stored_other end next e x cell.0.nodes here h) same).1) ∙ h)

    by_test : (b : Bool) → (same_process from p && same_target (names.Process goal) (names.Process r)) ≡ b → b ≡ false
    by_test false h = refl
    by_test true h =
        let parts = and_parts (same_process from p) (same_target (names.Process goal) (names.Process r)) h in
        let one = and_parts (bytes_eq from.node p.node) (from.counter == p.counter) parts.0 in
        let two = and_parts (bytes_eq goal.node r.node) (goal.counter == r.counter) parts.1 in
        absurd (same_node ((bytes_eq-Decides from.node p.node).0 one.0) (number_is to k two.1))
