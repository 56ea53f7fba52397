-- A test that each entry but feedings and refusals passes, and these where it is known what was fed and refused, is passed throughout.
use Rattle.std.proofs.Common.{◌≡◌, ℕ, Bool, true, false, cond, ◌&&◌, List, [], ◌∷◌, ◌++◌, length, take, drop, refl, sym, ap, ◌∙◌, subst}
use Rattle.std.proofs.lemmas.List.{append-nil}
use Rattle.std.specs.Prelude.{find, is_some, Option, Some, None}
use Rattle.ch_model.specs.declared.entry.Entry.{Entry}
use Rattle.ch_model.specs.declared.entry.Entry.TheVariants as entries
use Rattle.ch_model.specs.declared.line.Line.{Line}
use Rattle.ch_model.specs.declared.name.End.{End}
use Rattle.ch_model.specs.declared.name.End.TheVariants.{O, T}
use Rattle.ch_model.specs.declared.name.SockName.{SockName}
use Rattle.ch_model.specs.declared.note.Note.{Note}
use Rattle.ch_model.specs.declared.note.Note.TheVariants as notes
use Rattle.ch_model.specs.declared.step.Place.{Place}
use Rattle.ch_model.specs.declared.step.Step.{Step}
use Rattle.ch_model.specs.declared.step.Step.TheVariants as steps
use Rattle.ch_model.specs.Declarations.{has_host}
use Rattle.ch_model.specs.HostSteps.{own_address}
use Rattle.ch_model.specs.Logs.{each_after}
use Rattle.ch_model.specs.Naming.{Names, called}
use Rattle.ch_model.specs.Same.{same_socket}
use Rattle.ch_model.specs.Stages.{Pending}
use Rattle.ch_model.specs.WorldHappenings.{with_cell}
use Rattle.ch_model.specs.WorldSockets.{end_of, other, ended, cut, opened, arrives, item_arrives, end_of_nobody, has_input, is_socket_named, with_end, with_socket, with_end_of, find_end, next_name, new_socket}
use Rattle.ch_model.specs.WorldState.{Cell, WorldEnd, WorldSocket, World}
use Rattle.ch_model.specs.WorldSteps.{note_entry, on_end, later_places, item_is_read, reads_item, end_closes, stepped}
use Rattle.ch_laws_log.specs.Agrees.{IsPlaced, AllPlaced}
use Rattle.ch_laws_log.proofs.Agreeing.{KeepsCell, with_end_is, name_of_end, cell_of_end, arrived_in_cell, poked_in_cell, Good, AnyCount, keeps_good}
use Rattle.ch_laws_log.proofs.Blocks.{each_append}
use Rattle.ch_laws_log.proofs.Kept.{IsIn, stranger_socket, Keeps}
use Rattle.ch_laws_log.proofs.Stored.{same_is, self_same, find_name, find_stored, found_end, next_is_new}

-- the entry feeds nothing and refuses nothing
abbrev pub is_plain : Entry → Bool
is_plain (entries.Fed sock end count) = false
is_plain (entries.Refused sock) = false
is_plain entry = true

abbrev pub Test : Type 0
Test = List Entry → Entry → Bool

-- what is no feeding and no refusal passes
abbrev pub PassesPlain : Test → Type 0
PassesPlain test = (log : List Entry) (x : Entry) → is_plain x ≡ true → test log x ≡ true

-- The log agrees with the world, and each entry passes the test where something holds of both.
pub record Tested (journal : List Line) (P : List Entry → World → Type 0) (test : Test) (log : List Entry) (world : World) : Type 0 where
  pub good : Good journal log world
  pub well : P log world → each_after test [] log ≡ true

-- ---- sockets that are placed later were before

abbrev pub Back : List Line → World → World → Type 0
Back journal before after = AllPlaced journal after → AllPlaced journal before

back_stored : (journal : List Line) (world : World) (n : SockName) (old new : WorldSocket) → find (is_socket_named n) world.sockets ≡ Some old → new.name ≡ n → new.t.cell ≡ old.t.cell → Back journal world (with_socket new world)
back_stored journal world n old new is name cell all s socket found = by_name (same_socket new.name s) refl where
  by_name : (b : Bool) → same_socket new.name s ≡ b → IsPlaced journal socket
  by_name true h =
      let at_s : new.name ≡ s = same_is new.name s h in
      let old_is : find (is_socket_named s) world.sockets ≡ Some old = subst (λ (m : SockName). find (is_socket_named m) world.sockets ≡ Some old) (sym name ∙ at_s) is in
      let same : old ≡ socket = cc in
      subst (λ (w : WorldSocket). IsPlaced journal w) same (of_old (find_name n world.sockets old is) (all n new (find_stored new world.sockets n ∙ ap (λ b. cond b (Some new) (find (is_socket_named n) world.sockets)) (subst (λ (m : SockName). same_socket new.name m ≡ true) name (self_same new.name)))))
    where
      of_old : old.name ≡ n → IsPlaced journal new → IsPlaced journal old
      of_old o p = ap (λ (c : Option ℕ). is_some c) (sym cell) ∙ p ∙ ap (λ (m : SockName). has_host journal m.to) (name ∙ sym o)
  by_name false h = all s socket (find_stored new world.sockets s ∙ ap (λ b. cond b (Some new) (find (is_socket_named s) world.sockets)) h ∙ found)

pub back_end : (journal : List Line) (world : World) (n : SockName) (e : End) (f : WorldEnd → WorldEnd) (old : WorldSocket) → find (is_socket_named n) world.sockets ≡ Some old → KeepsCell f → Back journal world (with_end_of n e f world)
back_end journal world n e f old is k = subst (λ (w : World). Back journal world w) (sym (with_end_is n e f world old is))
    (back_stored journal world n old (with_end e (f (end_of e old)) old) is (name_of_end e (f (end_of e old)) old ∙ find_name n world.sockets old is) (cell_of_end e f old k))

back_new : (journal : List Line) (world : World) (new : WorldSocket) → find (is_socket_named new.name) world.sockets ≡ None → Back journal world (with_socket new world)
back_new journal world new none all s socket found = by_name (same_socket new.name s) refl where
  by_name : (b : Bool) → same_socket new.name s ≡ b → IsPlaced journal socket
  by_name true h = let gone : find (is_socket_named s) world.sockets ≡ None = subst (λ (m : SockName). find (is_socket_named m) world.sockets ≡ None) (same_is new.name s h) none in absurd cc
  by_name false h = all s socket (find_stored new world.sockets s ∙ ap (λ b. cond b (Some new) (find (is_socket_named s) world.sockets)) h ∙ found)

-- what holds later held before
abbrev pub HeldBefore : List Line → (List Entry → World → Type 0) → Type 0
HeldBefore journal P = (log told : List Entry) (world after : World) → Back journal world after → P (log ++ told) after → P log world

-- ---- one more thing

more_tested : (journal : List Line) (P : List Entry → World → Type 0) (test : Test) → HeldBefore journal P → (log told : List Entry) (world after : World) → Good journal (log ++ told) after → Back journal world after → (P log world → each_after test log told ≡ true) → Tested journal P test log world → Tested journal P test (log ++ told) after
more_tested journal P test held log told world after g back passes f = record {
  good = g;
  well = λ p. each_append test [] log told (f.well (held log told world after back p)) (passes (held log told world after back p));
}

alone : (test : Test) (log : List Entry) (x : Entry) → test log x ≡ true → each_after test log (x ∷ []) ≡ true
alone test log x e = ap (λ b. b && true) e

note_plain : (known : Names) (last : Option Place) (note : Note) → is_plain (note_entry known last note) ≡ true
note_plain known last (notes.Made process origin) = refl
note_plain known last note = refl

at_end_back : (journal : List Line) (place sock : ℕ) (f : SockName × End → World → List Entry × World) (world : World) → ((at : SockName × End) (old : WorldSocket) → find (is_socket_named at.0) world.sockets ≡ Some old → Back journal world (f at world).1) → Back journal world (on_end place sock f world).1
at_end_back journal place sock f world each = by_end (find_end place sock world.sockets) refl where
  told : Option (SockName × End) → List Entry × World
  told o = elim o as (λ o. List Entry × World) [
    | None ↦ ([], world)
    | Some at ↦ f at world
  ]

  by_end : (o : Option (SockName × End)) → find_end place sock world.sockets ≡ o → Back journal world (told o).1
  by_end None e = λ all. all
  by_end (Some at) e = let held = found_end place sock world.sockets at e in each at held.socket held.is

at_end_passes : (test : Test) (log : List Entry) (place sock : ℕ) (f : SockName × End → World → List Entry × World) (world : World) → ((at : SockName × End) → each_after test log (f at world).0 ≡ true) → each_after test log (on_end place sock f world).0 ≡ true
at_end_passes test log place sock f world each = by_end (find_end place sock world.sockets) where
  by_end : (o : Option (SockName × End)) → each_after test log (elim o as (λ o. List Entry × World) [
    | None ↦ ([], world)
    | Some at ↦ f at world
  ]).0 ≡ true
  by_end None = refl
  by_end (Some at) = each at

read_back : (journal : List Line) (at : SockName × End) (world : World) (old : WorldSocket) → find (is_socket_named at.0) world.sockets ≡ Some old → Back journal world (reads_item at world).1
read_back journal at world old is = subst (λ (o : Option WorldSocket). Back journal world (item_is_read at o world)) (sym is) (back_end journal world at.0 at.1 (λ end. record end { places = later_places end.places }) old is (λ end. refl))

step_back : (journal : List Line) (log : List Entry) (world : World) (place : ℕ) (cell : Cell) (step : Step) → Good journal log world → Back journal world (stepped place cell step world).1
step_back journal log world place cell (steps.Dial sock end peer) g = back_new journal world (new_socket world (called world.names (own_address cell.host end)) (called world.names peer) cell.host.host (end_of_nobody (Some place) (Some sock) Pending) peer) (next_is_new world (called world.names (own_address cell.host end)) (called world.names peer) g.numbered)
step_back journal log world place cell (steps.Read sock) g = at_end_back journal place sock reads_item world (λ at old is. read_back journal at world old is)
step_back journal log world place cell (steps.Write sock bytes said) g = at_end_back journal place sock (λ at now. (entries.Wrote at.0 at.1 bytes ∷ [], with_end_of at.0 (other at.1) (item_arrives bytes said) now)) world (λ at old is. back_end journal world at.0 (other at.1) (item_arrives bytes said) old is (arrived_in_cell bytes said))
step_back journal log world place cell (steps.Up sock) g = at_end_back journal place sock (λ at now. (entries.Up at.0 at.1 ∷ [], now)) world (λ at old is all. all)
step_back journal log world place cell (steps.Down sock) g = at_end_back journal place sock (λ at now. (entries.Down at.0 at.1 ∷ [], end_closes at now)) world (λ at old is. back_end journal world at.0 at.1 ended old is (λ end. refl))
step_back journal log world place cell (steps.Left sock) g = at_end_back journal place sock (λ at now. (entries.Left at.0 at.1 ∷ [], end_closes at now)) world (λ at old is. back_end journal world at.0 at.1 ended old is (λ end. refl))
step_back journal log world place cell (steps.Broke end peer why) g = λ all. all
step_back journal log world place cell (steps.Post end event) g = λ all. all

step_passes : (test : Test) → PassesPlain test → (log : List Entry) (world : World) (place : ℕ) (cell : Cell) (step : Step) → each_after test log (stepped place cell step world).0 ≡ true
step_passes test plain log world place cell (steps.Dial sock end peer) = alone test log (entries.Dial (next_name world (called world.names (own_address cell.host end)) (called world.names peer))) (plain log (entries.Dial (next_name world (called world.names (own_address cell.host end)) (called world.names peer))) refl)
step_passes test plain log world place cell (steps.Read sock) = at_end_passes test log place sock reads_item world (λ at. refl)
step_passes test plain log world place cell (steps.Write sock bytes said) = at_end_passes test log place sock (λ at now. (entries.Wrote at.0 at.1 bytes ∷ [], with_end_of at.0 (other at.1) (item_arrives bytes said) now)) world (λ at. alone test log (entries.Wrote at.0 at.1 bytes) (plain log (entries.Wrote at.0 at.1 bytes) refl))
step_passes test plain log world place cell (steps.Up sock) = at_end_passes test log place sock (λ at now. (entries.Up at.0 at.1 ∷ [], now)) world (λ at. alone test log (entries.Up at.0 at.1) (plain log (entries.Up at.0 at.1) refl))
step_passes test plain log world place cell (steps.Down sock) = at_end_passes test log place sock (λ at now. (entries.Down at.0 at.1 ∷ [], end_closes at now)) world (λ at. alone test log (entries.Down at.0 at.1) (plain log (entries.Down at.0 at.1) refl))
step_passes test plain log world place cell (steps.Left sock) = at_end_passes test log place sock (λ at now. (entries.Left at.0 at.1 ∷ [], end_closes at now)) world (λ at. alone test log (entries.Left at.0 at.1) (plain log (entries.Left at.0 at.1) refl))
step_passes test plain log world place cell (steps.Broke end peer why) = alone test log (entries.Broke (called world.names (own_address cell.host end)) (called world.names peer) why) (plain log (entries.Broke (called world.names (own_address cell.host end)) (called world.names peer) why) refl)
step_passes test plain log world place cell (steps.Post end event) = refl

-- ---- all of it

-- feedings pass where W holds of them, and refusals where R holds
abbrev pub PassesFed : List Line → (List Entry → World → Type 0) → Test → (ℕ → List ℕ → Type 0) → Type 0
PassesFed journal P test W = (log : List Entry) (world : World) (socket : WorldSocket) (which : End) (count : ℕ) → Good journal log world → IsIn socket world → has_input which socket ≡ true → W count (end_of which socket).unread → P log world → test log (entries.Fed socket.name which (length (take count (end_of which socket).unread))) ≡ true

pub keeps_tested : (journal : List Line) (P : List Entry → World → Type 0) (test : Test) (R : Type 0) (W : ℕ → List ℕ → Type 0) → ((left : List ℕ) → W (length left) left) → HeldBefore journal P → PassesPlain test → PassesFed journal P test W → (R → (log : List Entry) (s : SockName) → test log (entries.Refused s) ≡ true) → Keeps R W (Tested journal P test)
keeps_tested journal P test R W whole_fits held plain passes_fed passes_refused = record {
  whole = whole_fits;
  distinct = λ log world f. f.good.apart;
  cell = λ log world place cell f. record { good = k.cell log world place cell f.good; well = λ p. f.well (held_here log world (with_cell place cell world) (λ all. all) p) };
  mark = λ log world number answer f. more_tested journal P test held log (entries.Line number answer ∷ []) world world (k.mark log world number answer f.good) (λ all. all) (λ q. alone test log (entries.Line number answer) (plain log (entries.Line number answer) refl)) f;
  settled = λ log world f. more_tested journal P test held log (entries.Settled ∷ []) world world (k.settled log world f.good) (λ all. all) (λ q. alone test log (entries.Settled) (plain log (entries.Settled) refl)) f;
  note = λ log world note f. more_tested journal P test held log (note_entry world.names world.last note ∷ []) world _ (k.note log world note f.good) (λ all. all) (λ q. alone test log (note_entry world.names world.last note) (plain log (note_entry world.names world.last note) (note_plain world.names world.last note))) f;
  step = λ log world place cell step f. more_tested journal P test held log (stepped place cell step world).0 world (stepped place cell step world).1 (k.step log world place cell step f.good) (step_back journal log world place cell step f.good) (λ q. step_passes test plain log world place cell step) f;
  joined = λ log world socket is p f. more_tested journal P test held log (entries.Joined socket.name ∷ []) world (with_end_of socket.name O opened world) (k.joined log world socket is p f.good) (back_end journal world socket.name O opened socket is (λ end. refl)) (λ q. alone test log (entries.Joined socket.name) (plain log (entries.Joined socket.name) refl)) f;
  refused = λ r log world socket is p f. more_tested journal P test held log (entries.Refused socket.name ∷ []) world world (k.refused tt log world socket is p f.good) (λ all. all) (λ q. alone test log (entries.Refused socket.name) (passes_refused r log socket.name)) f;
  came = λ log world socket number is p f. more_tested journal P test held log (entries.Came socket.name ∷ []) world (with_end_of socket.name T (λ end. record (opened end) { number = Some number }) world) (k.came log world socket number is p f.good) (back_end journal world socket.name T (λ end. record (opened end) { number = Some number }) socket is (λ end. refl)) (λ q. alone test log (entries.Came socket.name) (plain log (entries.Came socket.name) refl)) f;
  came_nowhere = λ log world socket place is at none f. more_tested journal P test held log (entries.Came socket.name ∷ []) world world (k.came_nowhere log world socket place is at none f.good) (λ all. all) (λ q. alone test log (entries.Came socket.name) (plain log (entries.Came socket.name) refl)) f;
  fed = λ log world socket which count is stands input w f. more_tested journal P test held log (entries.Fed socket.name which (length (take count (end_of which socket).unread)) ∷ []) world (with_end_of socket.name which (λ end. record end { unread = drop count end.unread }) world)
      (k.fed log world socket which count is stands input tt f.good) (back_end journal world socket.name which (λ end. record end { unread = drop count end.unread }) socket is (λ end. refl)) (λ q. alone test log (entries.Fed socket.name which (length (take count (end_of which socket).unread))) (passes_fed log world socket which count f.good is input w q)) f;
  lost = λ log world socket which f. more_tested journal P test held log (entries.Lost socket.name which ∷ []) world world (k.lost log world socket which f.good) (λ all. all) (λ q. alone test log (entries.Lost socket.name which) (plain log (entries.Lost socket.name which) refl)) f;
  timed = λ log world node peer f. more_tested journal P test held log (entries.Timed node peer ∷ []) world world (k.timed log world node peer f.good) (λ all. all) (λ q. alone test log (entries.Timed node peer) (plain log (entries.Timed node peer) refl)) f;
  was_cut = λ log world socket which is f. more_tested journal P test held log (entries.Cut socket.name which ∷ []) world (with_end_of socket.name which cut world) (k.was_cut log world socket which is f.good) (back_end journal world socket.name which cut socket is (λ end. refl)) (λ q. alone test log (entries.Cut socket.name which) (plain log (entries.Cut socket.name which) refl)) f;
  knocked = λ log world stranger node f. more_tested journal P test held log (entries.Knocked (stranger_socket stranger node world).name ∷ []) world (with_socket (stranger_socket stranger node world) world) (k.knocked log world stranger node f.good) (back_new journal world (stranger_socket stranger node world) (next_is_new world stranger node f.good.numbered)) (λ q. alone test log (entries.Knocked (stranger_socket stranger node world).name) (plain log (entries.Knocked (stranger_socket stranger node world).name) refl)) f;
  poked = λ log world socket bytes is f. more_tested journal P test held log (entries.Poked socket.name bytes ∷ []) world (with_end_of socket.name T (arrives bytes) world) (k.poked log world socket bytes is f.good) (back_end journal world socket.name T (arrives bytes) socket is (poked_in_cell bytes)) (λ q. alone test log (entries.Poked socket.name bytes) (plain log (entries.Poked socket.name bytes) refl)) f;
  quitted = λ log world socket is f. more_tested journal P test held log (entries.Quitted socket.name ∷ []) world (with_end_of socket.name O ended world) (k.quitted log world socket is f.good) (back_end journal world socket.name O ended socket is (λ end. refl)) (λ q. alone test log (entries.Quitted socket.name) (plain log (entries.Quitted socket.name) refl)) f;
} where
  k : Keeps (Unit {0}) AnyCount (Good journal)
  k = keeps_good journal

  held_here : (log : List Entry) (world after : World) → Back journal world after → P log after → P log world
  held_here log world after back p = held log [] world after back (subst (λ (l : List Entry). P l after) (sym (append-nil log)) p)
