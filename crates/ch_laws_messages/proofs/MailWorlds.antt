-- What stands in the mailboxes of a world, after a turn at one of its cells.
use Rattle.std.proofs.Common.{◌≡◌, ℕ, Bool, true, false, ◌==◌, List, ◌++◌, refl, sym, ap, ◌∙◌, subst}
use Rattle.std.proofs.lemmas.Slice.Eq.{bytes_eq-Decides}
use Rattle.std.specs.Prelude.{find, slice_get, slice_set, Some}
use Rattle.std.specs.Str.{bytes_eq}
use Rattle.ch_model.specs.declared.entry.Entry.{Entry}
use Rattle.ch_model.specs.declared.line.Line.{Line}
use Rattle.ch_model.specs.declared.local.LocalEntry.{LocalEntry}
use Rattle.ch_model.specs.CellSteps.{is_at, store_node}
use Rattle.ch_model.specs.Logs.{each_after}
use Rattle.ch_model.specs.Mailboxes.{takes_the_first}
use Rattle.ch_model.specs.Naming.{Names, called, process_called}
use Rattle.ch_model.specs.NodeIds.{process_id}
use Rattle.ch_model.specs.NodeState.{NodeState}
use Rattle.ch_model.specs.World.{names_of, world_new}
use Rattle.ch_model.specs.WorldHappenings.{with_cell}
use Rattle.ch_model.specs.WorldState.{Cell, World}
use Rattle.ch_laws_bytes.proofs.Told.{told_names}
use Rattle.ch_laws_connections.proofs.Cells.{stored_there, stored_other}
use Rattle.ch_laws_ends.proofs.Changes.{told_cells}
use Rattle.ch_laws_ends.proofs.Places.{set_split}
use Rattle.ch_laws_lives.specs.Cells.{AllReached}
use Rattle.ch_laws_log.proofs.Stored.{number_same}
use Rattle.ch_laws_world.specs.Grows.{homes_of}
use Rattle.ch_laws_many.specs.ManyLines.{AreNamedApart}
use Rattle.ch_laws_many.proofs.Reached.{IsJournal}
use Rattle.ch_laws_calls.specs.Turns.{told_on}
use Rattle.ch_laws_messages.specs.MailMail.{MailStands, AllMail, waiting_for, is_gone}
use Rattle.ch_laws_messages.proofs.MailLogs.{AreSilent, silent_all}
use Rattle.ch_laws_messages.proofs.MailPlaces.{one_place}
use Rattle.ch_laws_messages.proofs.MailTurned.{name_of, Turned, others_stand, here_stands, first_taken}

-- ---- no mailbox is touched

-- at each place stand the nodes that stood there
abbrev pub IsLike : World → World → Type 0
IsLike after before = (q : ℕ) (c : Cell × ℕ) → slice_get after.cells q ≡ Some c → (old : Cell × ℕ) × (slice_get before.cells q ≡ Some old) × (c.0.nodes ≡ old.0.nodes)

-- a cell with the same nodes is set in a place
pub set_like : (world after : World) (place : ℕ) (cell now : Cell × ℕ) → slice_get world.cells place ≡ Some cell → now.0.nodes ≡ cell.0.nodes → after.cells ≡ slice_set world.cells place now → IsLike after world
set_like world after place cell now at nodes set q c f = set_split world.cells place cell now at (λ i x. (old : Cell × ℕ) × (slice_get world.cells i ≡ Some old) × (x.0.nodes ≡ old.0.nodes))
    (cell, at, nodes) (λ i x d g. (x, g, refl)) q c (ap (λ (l : List (Cell × ℕ)). slice_get l q) (sym set) ∙ f)

pub like_mail : (journal : List Line) (log more : List Entry) (before after : World) → after.names ≡ before.names → IsLike after before → AreSilent more → AllMail journal log before → AllMail journal (log ++ more) after
like_mail journal log more before after names like silent a = record {
  stands = λ place cell end there number at found alive. let old = like place cell at in
      silent_all journal log more (process_called after.names (process_id there.1 number)) (waiting_for (slice_get there.1.mail number)) silent
      (subst (λ (k : Names). MailStands journal log (process_called k (process_id there.1 number)) (waiting_for (slice_get there.1.mail number))) (sym names)
      (a.stands place old.0 end there number old.1 (ap (find (is_at end)) (sym old.2) ∙ found) alive));
  reached = λ place cell at. let old = like place cell at in subst AllReached (sym old.2) (a.reached place old.0 old.1);
}

-- ---- a turn of a node

module _ (journal : List Line) (j : IsJournal journal) (named : AreNamedApart (names_of journal)) (world : World) (names : world.names ≡ names_of journal) (homes : homes_of world.cells ≡ homes_of (world_new journal).cells) (place : ℕ) (cell : Cell × ℕ) (at : slice_get world.cells place ≡ Some cell) (log : List Entry) (a : AllMail journal log world) where
  module _ (end : ℕ) (there : ℕ × NodeState) (next : NodeState) (found : find (is_at end) cell.0.nodes ≡ Some there) (told : List LocalEntry) (after : Cell) where
    abbrev entries : List Entry
    entries = (told_on place cell after told world).0

    abbrev now : World
    now = (told_on place cell after told world).1

    -- what stood in the mailboxes of the node
    stood : (n : ℕ) → is_gone (slice_get there.1.mail n) ≡ false → MailStands journal log (name_of world.names there.1 n) (waiting_for (slice_get there.1.mail n))
    stood n alive = a.stands place cell end there n at found alive

    -- the node of another place has another name
    other_name : (q e : ℕ) (c : Cell × ℕ) (x : ℕ × NodeState) → slice_get world.cells q ≡ Some c → find (is_at e) c.0.nodes ≡ Some x → ((place ≡ q) × (end ≡ e) → ⊥) → bytes_eq (called world.names there.1.own) (called world.names x.1.own) ≡ false
    other_name q e c x to here apart = by_test (bytes_eq (called world.names there.1.own) (called world.names x.1.own)) refl where
      by_test : (b : Bool) → bytes_eq (called world.names there.1.own) (called world.names x.1.own) ≡ b → b ≡ false
      by_test false h = refl
      by_test true h = absurd (apart (one_place journal j named world names homes place q cell c end e there x at to found here ((bytes_eq-Decides (called world.names there.1.own) (called world.names x.1.own)).0 h)))

    unlike : (i k : ℕ) → (i == k) ≡ false → i ≡ k → ⊥
    unlike i k d is = let same : (i == k) ≡ true = subst (λ (m : ℕ). (i == m) ≡ true) is (number_same i) in let clash : true ≡ false = sym same ∙ d in absurd cc

    pub turn_mail : after.nodes ≡ store_node end next cell.0.nodes → next.own ≡ there.1.own → AllReached after.nodes → Turned world.names log (told_on place cell after told world).0 there.1 next
        → let done = told_on place cell after told world in AllMail journal (log ++ done.0) done.1
    turn_mail nodes own reached t = record {
      stands = λ q c e x n to here alive. set_split world.cells place cell (after, cell.1) at
          (λ i y. (e : ℕ) (x : ℕ × NodeState) → find (is_at e) y.0.nodes ≡ Some x → is_gone (slice_get x.1.mail n) ≡ false → MailStands journal (log ++ entries) (process_called now.names (process_id x.1 n)) (waiting_for (slice_get x.1.mail n)))
          (λ e x here alive. at_cell n e x here alive (end == e) refl)
          (λ i y d to e x here alive. renamed n x (others_stand journal world.names log entries there.1 next t (name_of world.names x.1 n) (waiting_for (slice_get x.1.mail n)) (other_name i e y x to here (λ both. unlike place i d both.0)) (a.stands i y e x n to here alive)))
          q c (placed q c to) e x here alive;
      reached = λ q c to. set_split world.cells place cell (after, cell.1) at (λ i y. AllReached y.0.nodes) reached (λ i y d to. a.reached i y to) q c (placed q c to);
    } where
      placed : (q : ℕ) (c : Cell × ℕ) → slice_get now.cells q ≡ Some c → slice_get (slice_set world.cells place (after, cell.1)) q ≡ Some c
      placed q c to = ap (λ (l : List (Cell × ℕ)). slice_get l q) (sym (told_cells place after told (with_cell place (after, cell.1) world))) ∙ to

      renamed : (n : ℕ) (x : ℕ × NodeState) → MailStands journal (log ++ entries) (name_of world.names x.1 n) (waiting_for (slice_get x.1.mail n)) → MailStands journal (log ++ entries) (process_called now.names (process_id x.1 n)) (waiting_for (slice_get x.1.mail n))
      renamed n x m = subst (λ (k : Names). MailStands journal (log ++ entries) (process_called k (process_id x.1 n)) (waiting_for (slice_get x.1.mail n))) (sym (told_names place after told (with_cell place (after, cell.1) world))) m

      at_cell : (n e : ℕ) (x : ℕ × NodeState) → find (is_at e) after.nodes ≡ Some x → is_gone (slice_get x.1.mail n) ≡ false → (b : Bool) → (end == e) ≡ b → MailStands journal (log ++ entries) (process_called now.names (process_id x.1 n)) (waiting_for (slice_get x.1.mail n))
      at_cell n e x here alive true h =
          let is : x.1 ≡ next = stored_there end next e x cell.0.nodes (ap (find (is_at e)) (sym nodes) ∙ here) h in
          renamed n x (subst (λ (y : NodeState). MailStands journal (log ++ entries) (name_of world.names y n) (waiting_for (slice_get y.mail n))) (sym is)
          (subst (λ own. MailStands journal (log ++ entries) (record { node = called world.names own; counter = n }) (waiting_for (slice_get next.mail n))) (sym own)
          (here_stands journal world.names log entries there.1 next t stood n (ap (λ (y : NodeState). is_gone (slice_get y.mail n)) (sym is) ∙ alive))))
      at_cell n e x here alive false h =
          let was : find (is_at e) cell.0.nodes ≡ Some x = stored_other end next e x cell.0.nodes (ap (find (is_at e)) (sym nodes) ∙ here) h in
          renamed n x (others_stand journal world.names log entries there.1 next t (name_of world.names x.1 n) (waiting_for (slice_get x.1.mail n)) (other_name place e cell x at was (λ both. unlike end e h both.1)) (a.stands place cell e x n at was alive))

    -- what is taken in the turn is the first that is left
    pub turn_takes : Turned world.names log (told_on place cell after told world).0 there.1 next → each_after (takes_the_first journal) log (told_on place cell after told world).0 ≡ true
    turn_takes t = first_taken journal world.names log entries there.1 next t stood
