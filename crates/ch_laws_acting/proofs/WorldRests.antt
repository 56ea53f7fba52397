-- After any lines of many nodes, the log tells which processes of each node of the world act no more.
use Rattle.std.proofs.Common.{◌≡◌, ℕ, zero, suc, ◌+◌, ◌*◌, Bool, true, false, cond, ◌==◌, List, [], ◌∷◌, ◌++◌, length, take, drop, Ok, Err, refl, sym, ap, ◌∙◌, subst, append_assoc, arith}
use Rattle.std.proofs.lemmas.List.{append-nil}
use Rattle.std.proofs.lemmas.Slice.Eq.{bytes_eq-Decides}
use Rattle.std.specs.Prelude.{find, slice_get, slice_set, Option, Some, None}
use Rattle.std.specs.Str.{bytes_eq}
use Rattle.ch_base.specs.declared.address.Address.{Address}
use Rattle.ch_static.specs.declared.command.Command.TheVariants as commands
use Rattle.ch_model.specs.declared.entry.Entry.{Entry}
use Rattle.ch_model.specs.declared.entry.Entry.TheVariants as entries
use Rattle.ch_model.specs.declared.entry.Verdict.{Verdict}
use Rattle.ch_model.specs.declared.entry.Verdict.TheVariants as verdicts
use Rattle.ch_model.specs.declared.line.Line.{Line}
use Rattle.ch_model.specs.declared.line.What.{What}
use Rattle.ch_model.specs.declared.line.What.TheVariants as lines
use Rattle.ch_model.specs.declared.local.LocalEvent.{LocalEvent}
use Rattle.ch_model.specs.declared.local.LocalEvent.TheVariants as events
use Rattle.ch_model.specs.declared.name.End.{End}
use Rattle.ch_model.specs.declared.name.End.TheVariants.{O, T}
use Rattle.ch_model.specs.declared.name.SockName.{SockName}
use Rattle.ch_model.specs.declared.name.TargetName.TheVariants as targets
use Rattle.ch_model.specs.declared.step.SocketEvent.{SocketEvent}
use Rattle.ch_model.specs.declared.step.SocketEvent.TheVariants as sockets
use Rattle.ch_model.specs.Cell.{Celled, cell_step}
use Rattle.ch_model.specs.Naming.{Names, called, address_as, target_as}
use Rattle.ch_model.specs.Settle.{Happened}
use Rattle.ch_model.specs.World.{names_of, nodes_of, first_of_hosts, world_new, world_step, line_answered}
use Rattle.ch_model.specs.WorldHappenings.{Answered, after_entry, with_cell, cell_told, cell_hears, end_hears, joins, comes_at, comes, hands, feeds, mark_of}
use Rattle.ch_model.specs.WorldLines.{node_hears, on_socket, can_join, can_come, can_feed, line_done}
use Rattle.ch_model.specs.WorldSockets.{end_of, with_end_of, opened, is_socket_named, cell_of}
use Rattle.ch_mail.specs.Process.{Process}
use Rattle.ch_model.specs.NodeState.{NodeState}
use Rattle.ch_model.specs.WorldState.{Cell, WorldEnd, WorldSocket, World}
use Rattle.ch_model.specs.WorldSteps.{all_told}
use Rattle.ch_laws_log.specs.Declared.{AreApart}
use Rattle.ch_laws_many.specs.ManyLines.{is_of_many, AreNamedApart}
use Rattle.ch_laws_lives.specs.Cells.{AllReached}
use Rattle.ch_laws_lives.specs.Cells as lives_cells
use Rattle.ch_laws_lives.specs.Rolls.{ends_of}
use Rattle.ch_laws_lives.specs.Rolls as lives_rolls
use Rattle.ch_laws_lives.proofs.Beginnings.{fresh_at, fresh_reached_at, fresh_apart}
use Rattle.ch_laws_lives.proofs.ToldLives.{AreLifeless, SameWorld, end_same}
use Rattle.ch_laws_acting.specs.Rolls.{Roll, rests_of, roll_of}
use Rattle.ch_laws_acting.specs.Cells.{rolls_of, roll_at, CellRestsOn}
use Rattle.ch_laws_acting.proofs.CellRests.{cell_rests}
use Rattle.ch_laws_acting.proofs.ToldRests.{seat, Agrees, Goes, lifeless_told, all_go}
use Rattle.ch_laws_acting.proofs.Uniques.{IsOnce, fresh_once}

-- the address is of the host at this place, and of this endpoint
abbrev pub IsAt : List Address → ℕ → ℕ → Address → Type 0
IsAt hosts p end own = (address : Address) × (slice_get hosts p ≡ Some address) × (own.host ≡ address.host) × (own.port ≡ address.port) × (own.id ≡ end)

-- The log tells of each node which of its processes act no more; nodes of one name are one, and each stands at its host,
-- under its endpoint.
pub record Alive (known : Names) (hosts : List Address) (log : List Entry) (world : World) : Type 0 where
  pub names : world.names ≡ known
  pub agrees : (p : ℕ) (cell : Cell × ℕ) → slice_get world.cells p ≡ Some cell → Agrees known log (rolls_of cell.0.nodes)
  pub reached : (p : ℕ) (cell : Cell × ℕ) → slice_get world.cells p ≡ Some cell → AllReached cell.0.nodes
  pub apart : (p q : ℕ) (c d : Cell × ℕ) (e f : ℕ) (r s : Roll) → slice_get world.cells p ≡ Some c → slice_get world.cells q ≡ Some d → roll_at e (rolls_of c.0.nodes) ≡ Some r → roll_at f (rolls_of d.0.nodes) ≡ Some s → called known r.lives.own ≡ called known s.lives.own → (p ≡ q) × (e ≡ f)
  pub placed : (p : ℕ) (cell : Cell × ℕ) (end : ℕ) (roll : Roll) → slice_get world.cells p ≡ Some cell → roll_at end (rolls_of cell.0.nodes) ≡ Some roll → IsAt hosts p end roll.lives.own
  pub once : (p : ℕ) (cell : Cell × ℕ) (end : ℕ) (roll : Roll) → slice_get world.cells p ≡ Some cell → roll_at end (rolls_of cell.0.nodes) ≡ Some roll → IsOnce known roll.lives.own roll.lives.unique

-- the roll at an endpoint is the one of a node there
rolled : (end : ℕ) (nodes : List (ℕ × NodeState)) (roll : Roll) → roll_at end (rolls_of nodes) ≡ Some roll → (node : NodeState) × (lives_cells.roll_at end (lives_cells.rolls_of nodes) ≡ Some (lives_rolls.roll_of node)) × (roll_of node ≡ roll)
rolled end [] roll f = absurd cc
rolled end (x ∷ xs) roll f = by_test (x.0 == end) f (rolled end xs roll) where
  by_test : (b : Bool) → cond b (Some (roll_of x.1)) (roll_at end (rolls_of xs)) ≡ Some roll
      → (roll_at end (rolls_of xs) ≡ Some roll → (node : NodeState) × (lives_cells.roll_at end (lives_cells.rolls_of xs) ≡ Some (lives_rolls.roll_of node)) × (roll_of node ≡ roll))
      → (node : NodeState) × (cond b (Some (lives_rolls.roll_of x.1)) (lives_cells.roll_at end (lives_cells.rolls_of xs)) ≡ Some (lives_rolls.roll_of node)) × (roll_of node ≡ roll)
  by_test true f more = let is : roll_of x.1 ≡ roll = cc in (x.1, refl, is)
  by_test false f more = more f

none_made : (mail : List Process) → ends_of mail ≡ [] → rests_of mail ≡ []
none_made [] e = refl
none_made (x ∷ xs) e = absurd cc

pub fresh_alive : (journal : List Line) → AreApart (names_of journal) → AreNamedApart (names_of journal) → Alive (names_of journal) (first_of_hosts [] (nodes_of journal)) [] (world_new journal)
fresh_alive journal places apart = record {
  names = refl;
  agrees = λ p cell at end roll r. let n = rolled end cell.0.nodes roll r in ap (λ (x : Roll). x.rests) (sym n.2) ∙ none_made n.0.mail (fresh_at journal apart p cell end (lives_rolls.roll_of n.0) at n.1).2.made_none;
  reached = fresh_reached_at journal;
  apart = λ p q c d e f r s at of g h same. let n = rolled e c.0.nodes r g in let m = rolled f d.0.nodes s h in
      fresh_apart journal apart p q c d e f (lives_rolls.roll_of n.0) (lives_rolls.roll_of m.0) at of n.1 m.1 (ap (λ (x : Roll). called (names_of journal) x.lives.own) n.2 ∙ same ∙ ap (λ (x : Roll). called (names_of journal) x.lives.own) (sym m.2));
  placed = λ p cell end roll at r. let n = rolled end cell.0.nodes roll r in let new = fresh_at journal apart p cell end (lives_rolls.roll_of n.0) at n.1 in
      subst (λ (x : Roll). IsAt (first_of_hosts [] (nodes_of journal)) p end x.lives.own) n.2 (new.0, new.1, new.2.host, new.2.port, new.2.id);
  once = λ p cell end roll at r. fresh_once journal places p cell end roll at r;
}

-- ---- one cell in place of another

clash : (j : ℕ) → suc j ≡ zero → ⊥
clash j e = absurd cc

clash_back : (j : ℕ) → zero ≡ suc j → ⊥
clash_back j e = absurd cc

down : (i j : ℕ) → suc i ≡ suc j → i ≡ j
down i j e = omega arith

set_is : {A : Type 0} (P : A → Type 0) (xs : List A) (i : ℕ) (x : A) (j : ℕ) (y : A) → slice_get (slice_set xs i x) j ≡ Some y → (j ≡ i → P x) → ((j ≡ i → ⊥) → slice_get xs j ≡ Some y → P y) → P y
set_is P [] i x j y e f g = absurd cc
set_is P (z ∷ xs) zero x zero y e f g = let is : x ≡ y = cc in subst P is (f refl)
set_is P (z ∷ xs) zero x (suc j) y e f g = g (clash j) e
set_is P (z ∷ xs) (suc i) x zero y e f g = g (clash_back i) e
set_is P (z ∷ xs) (suc i) x (suc j) y e f g = set_is P xs i x j y e (λ is. f (ap suc is)) (λ ne k. g (λ is. ne (down j i is)) k)

-- the same nodes stand in each place
abbrev IsLike : World → World → Type 0
IsLike after before = (q : ℕ) (c : Cell × ℕ) → slice_get after.cells q ≡ Some c → (old : Cell × ℕ) × (slice_get before.cells q ≡ Some old) × (old.0 ≡ c.0)

alive_like : (known : Names) (hosts : List Address) (log told : List Entry) (before after : World) → after.names ≡ before.names → IsLike after before → AreLifeless told → Alive known hosts log before → Alive known hosts (log ++ told) after
alive_like known hosts log told before after n like l a = record {
  names = n ∙ a.names;
  agrees = λ p cell at end roll r. let old = like p cell at in a.agrees p old.0 old.1 end roll (ap (λ (c : Cell). roll_at end (rolls_of c.nodes)) old.2 ∙ r) ∙ sym (lifeless_told (called known roll.lives.own) log told l);
  reached = λ p cell at. let old = like p cell at in subst (λ (c : Cell). AllReached c.nodes) old.2 (a.reached p old.0 old.1);
  apart = λ p q c d e f r s at of g h. let one = like p c at in let two = like q d of in a.apart p q one.0 two.0 e f r s one.1 two.1 (ap (λ (c : Cell). roll_at e (rolls_of c.nodes)) one.2 ∙ g) (ap (λ (c : Cell). roll_at f (rolls_of c.nodes)) two.2 ∙ h);
  placed = λ p cell end roll at r. let old = like p cell at in a.placed p old.0 end roll old.1 (ap (λ (c : Cell). roll_at end (rolls_of c.nodes)) old.2 ∙ r);
  once = λ p cell end roll at r. let old = like p cell at in a.once p old.0 end roll old.1 (ap (λ (c : Cell). roll_at end (rolls_of c.nodes)) old.2 ∙ r);
}

same_like : (before after : World) → SameWorld after before → IsLike after before
same_like before after s q c e = (c, ap (λ (l : List (Cell × ℕ)). slice_get l q) (sym s.1) ∙ e, refl)

-- ---- what followed at a cell

abbrev pub Lived : Names → List Address → List Entry → Answered → Type 0
Lived known hosts log (Ok done) = Alive known hosts (log ++ done.0.1) done.1
Lived known hosts log (Err stop) = Unit {0}

at_rest : (known : Names) (hosts : List Address) (log : List Entry) (world : World) → Alive known hosts log world → Alive known hosts (log ++ []) world
at_rest known hosts log world a = subst (λ (l : List Entry). Alive known hosts l world) (sym (append-nil log)) a

told_lives : (known : Names) (hosts : List Address) (log : List Entry) (place : ℕ) (cell : Cell × ℕ) (world : World) (event : LocalEvent) → Alive known hosts log world → slice_get world.cells place ≡ Some cell → Lived known hosts log (cell_told place cell world (cell_step cell.0 event))
told_lives known hosts log place cell world event a at = by_done (cell_step cell.0 event) refl where
  by_done : (done : Celled) → cell_step cell.0 event ≡ done → Lived known hosts log (cell_told place cell world done)
  by_done (Err stop) e = tt
  by_done (Ok done) e = record {
    names = go.1.0 ∙ a.names;
    agrees = λ q c f. set_is (λ (x : Cell × ℕ). Agrees known (log ++ told) (rolls_of x.0.nodes)) world.cells place (done.1, cell.1) q c (back q c f)
        (λ is. go.0.agrees)
        (λ ne k end roll r. a.agrees q c k end roll r ∙ sym (go.0.others (called known roll.lives.own) (λ end2 roll2 r2. differs roll2 roll q c end2 end ne k r2 r (bytes_eq (called known roll2.lives.own) (called known roll.lives.own)) refl)));
    reached = λ q c f. set_is (λ (x : Cell × ℕ). AllReached x.0.nodes) world.cells place (done.1, cell.1) q c (back q c f) (λ is. lives.reached) (λ ne k. a.reached q c k);
    apart = λ p q c d e f r s i j g h same. let one = traced p c e r i g in let two = traced q d f s j h in a.apart p q one.0 two.0 e f one.1 two.1 one.2 two.2 one.3 two.3 (ap (λ (x : Address × ℕ). called known x.0) one.4 ∙ same ∙ ap (λ (x : Address × ℕ). called known x.0) (sym two.4));
    placed = λ q c f s i g. let one = traced q c f s i g in subst (λ (x : Address × ℕ). IsAt hosts q f x.0) one.4 (a.placed q one.0 f one.1 one.2 one.3);
    once = λ q c f s i g. let one = traced q c f s i g in subst (λ (x : Address × ℕ). IsOnce known x.0 x.1) one.4 (a.once q one.0 f one.1 one.2 one.3);
  } where
    lives : CellRestsOn cell.0 done.0.1 done.1
    lives = cell_rests cell.0 done.1 event done.0.0 done.0.1 (a.reached place cell at) e

    told : List Entry
    told = (all_told place done.1 done.0.1 (with_cell place (done.1, cell.1) world)).0

    go : Goes known (rolls_of cell.0.nodes) (rolls_of done.1.nodes) log (all_told place done.1 done.0.1 (with_cell place (done.1, cell.1) world)).0 × SameWorld (all_told place done.1 done.0.1 (with_cell place (done.1, cell.1) world)).1 (with_cell place (done.1, cell.1) world)
    go = all_go known place done.1 done.0.1 (with_cell place (done.1, cell.1) world) log (rolls_of cell.0.nodes) (rolls_of done.1.nodes) a.names lives.tells (a.agrees place cell at) (λ e f r s g h same. (a.apart place place cell cell e f r s at at g h same).1)

    back : (q : ℕ) (c : Cell × ℕ) → slice_get (all_told place done.1 done.0.1 (with_cell place (done.1, cell.1) world)).1.cells q ≡ Some c → slice_get (slice_set world.cells place (done.1, cell.1)) q ≡ Some c
    back q c f = ap (λ (l : List (Cell × ℕ)). slice_get l q) (sym go.1.1) ∙ f

    differs : (one two : Roll) (q : ℕ) (c : Cell × ℕ) (e f : ℕ) → (q ≡ place → ⊥) → slice_get world.cells q ≡ Some c → roll_at e (rolls_of cell.0.nodes) ≡ Some one → roll_at f (rolls_of c.0.nodes) ≡ Some two → (b : Bool) → bytes_eq (called known one.lives.own) (called known two.lives.own) ≡ b → b ≡ false
    differs one two q c e f ne k r s true h = absurd (ne (sym (a.apart place q cell c e f one two at k r s ((bytes_eq-Decides (called known one.lives.own) (called known two.lives.own)).0 h)).0))
    differs one two q c e f ne k r s false h = refl

    traced : (q : ℕ) (c : Cell × ℕ) (f : ℕ) (s : Roll) → slice_get (all_told place done.1 done.0.1 (with_cell place (done.1, cell.1) world)).1.cells q ≡ Some c → roll_at f (rolls_of c.0.nodes) ≡ Some s
        → (old : Cell × ℕ) × (was : Roll) × (slice_get world.cells q ≡ Some old) × (roll_at f (rolls_of old.0.nodes) ≡ Some was) × (seat was ≡ seat s)
    traced q c f s i = set_is (λ (x : Cell × ℕ). roll_at f (rolls_of x.0.nodes) ≡ Some s → (old : Cell × ℕ) × (was : Roll) × (slice_get world.cells q ≡ Some old) × (roll_at f (rolls_of old.0.nodes) ≡ Some was) × (seat was ≡ seat s)) world.cells place (done.1, cell.1) q c (back q c i)
        (λ is r. let old = go.0.owned f s r in (cell, old.0, ap (slice_get world.cells) is ∙ at, old.1, old.2))
        (λ ne k r. (c, s, k, r, refl))

hears : (known : Names) (hosts : List Address) (log : List Entry) (place : ℕ) (event : LocalEvent) (world : World) → Alive known hosts log world → Lived known hosts log (cell_hears place event world)
hears known hosts log place event world a = by_cell (slice_get world.cells place) refl where
  by_cell : (o : Option (Cell × ℕ)) → slice_get world.cells place ≡ o → Lived known hosts log (elim o as (λ o. Answered) [
    | None ↦ Ok ((verdicts.Nothing, []), world)
    | Some cell ↦ cell_told place cell world (cell_step cell.0 event)
  ])
  by_cell None e = at_rest known hosts log world a
  by_cell (Some cell) e = told_lives known hosts log place cell world event a e

end_hears_lives : (known : Names) (hosts : List Address) (log : List Entry) (end : WorldEnd) (event : ℕ → SocketEvent) (world : World) → Alive known hosts log world → Lived known hosts log (end_hears end event world)
end_hears_lives known hosts log end event world a = by_cell end.cell end.number where
  by_cell : (o n : Option ℕ) → Lived known hosts log (elim o as (λ o. Answered) [
    | None ↦ Ok ((verdicts.Nothing, []), world)
    | Some place ↦ elim n [
      | None ↦ Ok ((verdicts.Nothing, []), world)
      | Some number ↦ cell_hears place (events.Socket (event number)) world
    ]
  ])
  by_cell None n = at_rest known hosts log world a
  by_cell (Some place) None = at_rest known hosts log world a
  by_cell (Some place) (Some number) = hears known hosts log place (events.Socket (event number)) world a

entry_first : (known : Names) (hosts : List Address) (log : List Entry) (entry : Entry) (done : Answered) → Lived known hosts (log ++ entry ∷ []) done → Lived known hosts log (after_entry entry done)
entry_first known hosts log entry (Ok done) l = subst (λ (k : List Entry). Alive known hosts k done.1) (append_assoc log (entry ∷ []) done.0.1) l
entry_first known hosts log entry (Err stop) l = tt

-- ---- sockets

joining : (known : Names) (hosts : List Address) (log : List Entry) (socket : WorldSocket) (world : World) → Alive known hosts log world → Lived known hosts log (joins socket world)
joining known hosts log socket world a = let next : World = with_end_of socket.name O opened world in entry_first known hosts log (entries.Joined socket.name) (end_hears socket.o (λ sock. sockets.Joined sock) next)
    (end_hears_lives known hosts (log ++ entries.Joined socket.name ∷ []) socket.o (λ sock. sockets.Joined sock) next (alive_like known hosts log (entries.Joined socket.name ∷ []) world next (end_same socket.name O opened world).0 (same_like world next (end_same socket.name O opened world)) (refl, tt) a))

coming : (known : Names) (hosts : List Address) (log : List Entry) (socket : WorldSocket) (world : World) → Alive known hosts log world → Lived known hosts log (comes socket world)
coming known hosts log socket world a = by_place socket.t.cell where
  marked : Alive known hosts (log ++ entries.Came socket.name ∷ []) world
  marked = alive_like known hosts log (entries.Came socket.name ∷ []) world world refl (same_like world world (refl, refl)) (refl, tt) a

  by_cell : (place : ℕ) (o : Option (Cell × ℕ)) → slice_get world.cells place ≡ o → Lived known hosts (log ++ entries.Came socket.name ∷ []) (elim o as (λ o. Answered) [
    | None ↦ Ok ((verdicts.Nothing, []), world)
    | Some cell ↦ cell_hears place (events.Came (mark_of socket.o) (2 * cell.1 + 1) socket.from_host)
        (with_end_of socket.name T (λ end. record (opened end) { number = Some (2 * cell.1 + 1) }) (with_cell place (cell.0, cell.1 + 1) world))
  ])
  by_cell place None e = at_rest known hosts (log ++ entries.Came socket.name ∷ []) world marked
  by_cell place (Some cell) e = hears known hosts (log ++ entries.Came socket.name ∷ []) place (events.Came (mark_of socket.o) (2 * cell.1 + 1) socket.from_host) next
      (alive_like known hosts log (entries.Came socket.name ∷ []) world next same.0 (λ q c f. set_is (λ (x : Cell × ℕ). (old : Cell × ℕ) × (slice_get world.cells q ≡ Some old) × (old.0 ≡ x.0)) world.cells place (cell.0, cell.1 + 1) q c (ap (λ (l : List (Cell × ℕ)). slice_get l q) (sym same.1) ∙ f) (λ is. (cell, ap (slice_get world.cells) is ∙ e, refl)) (λ ne k. (c, k, refl))) (refl, tt) a) where
        counted : World
        counted = with_cell place (cell.0, cell.1 + 1) world

        next : World
        next = with_end_of socket.name T (λ end. record (opened end) { number = Some (2 * cell.1 + 1) }) (with_cell place (cell.0, cell.1 + 1) world)

        same : SameWorld (with_end_of socket.name T (λ end. record (opened end) { number = Some (2 * cell.1 + 1) }) (with_cell place (cell.0, cell.1 + 1) world)) (with_cell place (cell.0, cell.1 + 1) world)
        same = end_same socket.name T (λ end. record (opened end) { number = Some (2 * cell.1 + 1) }) (with_cell place (cell.0, cell.1 + 1) world)

  by_place : (o : Option ℕ) → Lived known hosts log (elim o as (λ o. Answered) [
    | None ↦ Ok ((verdicts.Nothing, []), world)
    | Some place ↦ after_entry (entries.Came socket.name) (comes_at place socket world)
  ])
  by_place None = at_rest known hosts log world a
  by_place (Some place) = entry_first known hosts log (entries.Came socket.name) (comes_at place socket world) (by_cell place (slice_get world.cells place) refl)

feeding : (known : Names) (hosts : List Address) (log : List Entry) (end : End) (count : ℕ) (socket : WorldSocket) (world : World) → Alive known hosts log world → Lived known hosts log (feeds end count socket world)
feeding known hosts log end count socket world a = entry_first known hosts log (entries.Fed socket.name end (length (take count (end_of end socket).unread))) (hands (take count (end_of end socket).unread) (end_of end socket) next) (by_bytes (take count (end_of end socket).unread) fed) where
  next : World
  next = with_end_of socket.name end (λ e. record e { unread = drop count e.unread }) world

  fed : Alive known hosts (log ++ entries.Fed socket.name end (length (take count (end_of end socket).unread)) ∷ []) (with_end_of socket.name end (λ e. record e { unread = drop count e.unread }) world)
  fed = let same = end_same socket.name end (λ e. record e { unread = drop count e.unread }) world in alive_like known hosts log (entries.Fed socket.name end (length (take count (end_of end socket).unread)) ∷ []) world (with_end_of socket.name end (λ e. record e { unread = drop count e.unread }) world) same.0 (same_like world (with_end_of socket.name end (λ e. record e { unread = drop count e.unread }) world) same) (refl, tt) a

  by_bytes : (bytes : List ℕ) → Alive known hosts (log ++ entries.Fed socket.name end (length (take count (end_of end socket).unread)) ∷ []) next → Lived known hosts (log ++ entries.Fed socket.name end (length (take count (end_of end socket).unread)) ∷ []) (hands bytes (end_of end socket) next)
  by_bytes [] b = end_hears_lives known hosts (log ++ entries.Fed socket.name end (length (take count (end_of end socket).unread)) ∷ []) (end_of end socket) (λ sock. sockets.Ended sock) next b
  by_bytes (x ∷ bytes) b = end_hears_lives known hosts (log ++ entries.Fed socket.name end (length (take count (end_of end socket).unread)) ∷ []) (end_of end socket) (λ sock. sockets.Fed sock (x ∷ bytes)) next b

-- ---- lines

node_lives : (known : Names) (hosts : List Address) (log : List Entry) (name : List ℕ) (event : ℕ → LocalEvent) (world : World) → Alive known hosts log world → Lived known hosts log (node_hears name event world)
node_lives known hosts log name event world a = by_place (cell_of world (address_as world.names name)) where
  by_place : (o : Option ℕ) → Lived known hosts log (elim o as (λ o. Answered) [
    | None ↦ Ok ((verdicts.Nothing, []), world)
    | Some place ↦ cell_hears place (event (address_as world.names name).id) world
  ])
  by_place None = at_rest known hosts log world a
  by_place (Some place) = hears known hosts log place (event (address_as world.names name).id) world a

socket_lives : (known : Names) (hosts : List Address) (log : List Entry) (name : SockName) (test : WorldSocket → Bool) (f : WorldSocket → World → Answered) (world : World) → Alive known hosts log world → ((socket : WorldSocket) → Lived known hosts log (f socket world)) → Lived known hosts log (on_socket name test f world)
socket_lives known hosts log name test f world a k = by_socket (find (is_socket_named name) world.sockets) where
  by_test : (socket : WorldSocket) (b : Bool) → Lived known hosts log (cond b (f socket world) (Ok ((verdicts.Nothing, []), world)))
  by_test socket true = k socket
  by_test socket false = at_rest known hosts log world a

  by_socket : (o : Option WorldSocket) → Lived known hosts log (elim o as (λ o. Answered) [
    | None ↦ Ok ((verdicts.Nothing, []), world)
    | Some socket ↦ cond (test socket) (f socket world) (Ok ((verdicts.Nothing, []), world))
  ])
  by_socket None = at_rest known hosts log world a
  by_socket (Some socket) = by_test socket (test socket)

line_lives : (known : Names) (hosts : List Address) (log : List Entry) (what : What) (world : World) → is_of_many known what ≡ true → Alive known hosts log world → Lived known hosts log (line_done what world)
line_lives known hosts log (lines.Node name address unique) world of a = at_rest known hosts log world a
line_lives known hosts log (lines.Proc node) world of a = node_lives known hosts log node (λ end. events.Make end) world a
line_lives known hosts log (lines.Send by (targets.Process to) mark body) world of a = node_lives known hosts log by.node (λ end. events.Command end by.counter (commands.Send (target_as world.names (targets.Process to)) (record { mark = mark; body = body }))) world a
line_lives known hosts log (lines.Recv by mark) world of a = node_lives known hosts log by.node (λ end. events.Command end by.counter (commands.Receive mark)) world a
line_lives known hosts log (lines.End by) world of a = node_lives known hosts log by.node (λ end. events.Command end by.counter commands.End) world a
line_lives known hosts log (lines.Join sock) world of a = socket_lives known hosts log sock can_join joins world a (λ socket. joining known hosts log socket world a)
line_lives known hosts log (lines.Come sock) world of a = socket_lives known hosts log sock can_come comes world a (λ socket. coming known hosts log socket world a)
line_lives known hosts log (lines.Feed sock end count) world of a = socket_lives known hosts log sock (can_feed end) (feeds end count) world a (λ socket. feeding known hosts log end count socket world a)
line_lives known hosts log what world of a = absurd cc

abbrev pub LivedOn : Names → List Address → List Entry → Happened → Type 0
LivedOn known hosts log (Ok done) = Alive known hosts (log ++ done.0) done.1
LivedOn known hosts log (Err stop) = Unit {0}

pub step_lives : (known : Names) (hosts : List Address) (log : List Entry) (number : ℕ) (what : What) (world : World) → is_of_many known what ≡ true → Alive known hosts log world → LivedOn known hosts log (world_step world (record { number = number; what = what }))
step_lives known hosts log number what world of a = by_what what of where
  marked : (verdict : Verdict) → Alive known hosts (log ++ entries.Line number verdict ∷ []) world
  marked verdict = alive_like known hosts log (entries.Line number verdict ∷ []) world world refl (same_like world world (refl, refl)) (refl, tt) a

  by_done : (done : Answered) → ((verdict : Verdict) → Lived known hosts (log ++ entries.Line number verdict ∷ []) done) → LivedOn known hosts log (line_answered number done)
  by_done (Ok done) k = subst (λ (l : List Entry). Alive known hosts l done.1) (append_assoc log (entries.Line number done.0.0 ∷ []) done.0.1) (k done.0.0)
  by_done (Err stop) k = tt

  one : (what : What) → is_of_many known what ≡ true → LivedOn known hosts log (line_answered number (line_done what world))
  one what of = by_done (line_done what world) (λ verdict. line_lives known hosts (log ++ entries.Line number verdict ∷ []) what world of (marked verdict))

  by_what : (what : What) → is_of_many known what ≡ true → LivedOn known hosts log (world_step world (record { number = number; what = what }))
  by_what (lines.Node name address unique) of = at_rest known hosts log world a
  by_what (lines.Proc node) of = one (lines.Proc node) of
  by_what (lines.Send by to mark body) of = one (lines.Send by to mark body) of
  by_what (lines.Recv by mark) of = one (lines.Recv by mark) of
  by_what (lines.End by) of = one (lines.End by) of
  by_what (lines.Join sock) of = one (lines.Join sock) of
  by_what (lines.Come sock) of = one (lines.Come sock) of
  by_what (lines.Feed sock end count) of = one (lines.Feed sock end count) of
  by_what what of = absurd cc
