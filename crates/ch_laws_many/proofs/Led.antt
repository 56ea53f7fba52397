-- What the lines of many nodes do: no socket is a stranger's, none leads to a declared name whose host isn't there, none
-- is refused, and nothing is settled.
use Rattle.std.proofs.Common.{◌≡◌, ◌≤◌, ℕ, ◌+◌, ◌*◌, Bool, true, false, cond, List, [], ◌∷◌, ◌++◌, length, take, drop, Ok, Err, refl, sym, ap, ◌∙◌, subst, arith}
use Rattle.std.proofs.lemmas.Bool.{and_parts}
use Rattle.std.specs.Prelude.{find, is_some, slice_get, Option, Some, None}
use Rattle.ch_static.specs.declared.command.Command.TheVariants as commands
use Rattle.ch_model.specs.declared.entry.Entry.{Entry}
use Rattle.ch_model.specs.declared.entry.Entry.TheVariants as entries
use Rattle.ch_model.specs.declared.entry.Verdict.TheVariants as verdicts
use Rattle.ch_model.specs.declared.line.What.{What}
use Rattle.ch_model.specs.declared.line.What.TheVariants as lines
use Rattle.ch_model.specs.declared.local.LocalEntry.{LocalEntry}
use Rattle.ch_model.specs.declared.local.LocalEntry.TheVariants as local
use Rattle.ch_model.specs.declared.local.LocalEvent.{LocalEvent}
use Rattle.ch_model.specs.declared.local.LocalEvent.TheVariants as events
use Rattle.ch_model.specs.declared.name.End.{End}
use Rattle.ch_model.specs.declared.name.End.TheVariants.{O, T}
use Rattle.ch_model.specs.declared.name.SockName.{SockName}
use Rattle.ch_model.specs.declared.note.Note.{Note}
use Rattle.ch_model.specs.declared.note.Note.TheVariants as notes
use Rattle.ch_model.specs.declared.step.Place.{Place}
use Rattle.ch_model.specs.declared.step.SocketEvent.{SocketEvent}
use Rattle.ch_model.specs.declared.step.SocketEvent.TheVariants as sockets
use Rattle.ch_model.specs.declared.step.Step.{Step}
use Rattle.ch_model.specs.declared.step.Step.TheVariants as steps
use Rattle.ch_model.specs.Cell.{Celled, cell_step}
use Rattle.ch_model.specs.HostSteps.{own_address}
use Rattle.ch_model.specs.Naming.{Names, called, address_as, target_as}
use Rattle.ch_model.specs.Same.{same_socket}
use Rattle.ch_model.specs.Settle.{Happened}
use Rattle.ch_model.specs.Stages.{Stage, Pending, Open, is_pending}
use Rattle.ch_model.specs.World.{world_step, line_answered}
use Rattle.ch_model.specs.WorldHappenings.{Answered, after_entry, with_cell, cell_told, cell_hears, end_hears, joins, comes_at, comes, hands, feeds, mark_of}
use Rattle.ch_model.specs.WorldLines.{node_hears, on_socket, can_join, can_come, can_feed, line_done}
use Rattle.ch_model.specs.WorldSockets.{end_of, other, with_end, opened, item_arrives, end_of_nobody, is_socket_named, store_in, with_socket, with_end_of, find_end, cell_of, target_end, new_socket}
use Rattle.ch_model.specs.WorldState.{Cell, Named, WorldEnd, WorldSocket, World}
use Rattle.ch_model.specs.WorldSteps.{note_entry, on_end, reads_item, end_closes, stepped, local_told, all_told}
use Rattle.ch_laws_items.specs.Stays.{Who, CellStays}
use Rattle.ch_laws_items.proofs.Seats.{cell_after}
use Rattle.ch_laws_world.specs.Grows.{stage_rank, EndGoes, Home, home_of, Numbered, Grows}
use Rattle.ch_laws_world.proofs.Sockets.{end_goes}
use Rattle.ch_laws_world.proofs.Steps.{as_far, celled, told_all}
use Rattle.ch_laws_log.specs.Declared.{is_declared}
use Rattle.ch_laws_log.proofs.Agreeing.{KeepsCell}
use Rattle.ch_laws_log.proofs.Kept.{IsIn}
use Rattle.ch_laws_log.proofs.Stored.{find_name, find_stored}
use Rattle.ch_laws_ends.proofs.Changes.{OnDial, step_as}
use Rattle.ch_laws_ends.proofs.Known.{pending_is}
use Rattle.ch_laws_many.specs.ManyLines.{is_of_many}
use Rattle.ch_laws_many.proofs.Addresses.{AllHomed, AllNamed, homed_still, called_homed}

-- ---- sockets

-- the opener's end is of a cell, and so is the target's, where its name is declared
pub record IsLed (known : List Named) (socket : WorldSocket) : Type 0 where
  pub o : is_some socket.o.cell ≡ true
  pub t : is_declared known socket.name.to ≡ true → is_some socket.t.cell ≡ true

abbrev pub AllLed : List Named → List WorldSocket → Type 0
AllLed known sockets = (s : SockName) (socket : WorldSocket) → find (is_socket_named s) sockets ≡ Some socket → IsLed known socket

led_stored : (known : List Named) (new : WorldSocket) (sockets : List WorldSocket) → IsLed known new → AllLed known sockets → AllLed known (store_in new sockets)
led_stored known new sockets k all s socket f = by_name (same_socket new.name s) (sym (find_stored new sockets s) ∙ f) where
  by_name : (b : Bool) → cond b (Some new) (find (is_socket_named s) sockets) ≡ Some socket → IsLed known socket
  by_name true f = let is : new ≡ socket = cc in subst (IsLed known) is k
  by_name false f = all s socket f

end_led : (known : List Named) (e : End) (f : WorldEnd → WorldEnd) (old : WorldSocket) → KeepsCell f → IsLed known old → IsLed known (with_end e (f (end_of e old)) old)
end_led known O f old k l = record { o = ap is_some (k old.o) ∙ l.o; t = l.t }
end_led known T f old k l = record { o = l.o; t = λ d. ap is_some (k old.t) ∙ l.t d }

pub led_end : (known : List Named) (s : SockName) (e : End) (f : WorldEnd → WorldEnd) (world : World) → KeepsCell f → AllLed known world.sockets → AllLed known (with_end_of s e f world).sockets
led_end known s e f world k all = by_socket (find (is_socket_named s) world.sockets) refl where
  by_socket : (o : Option WorldSocket) → find (is_socket_named s) world.sockets ≡ o → AllLed known (elim o as (λ o. World) [
    | None ↦ world
    | Some socket ↦ with_socket (with_end e (f (end_of e socket)) socket) world
  ]).sockets
  by_socket None is = all
  by_socket (Some old) is = led_stored known (with_end e (f (end_of e old)) old) world.sockets (end_led known e f old k (all s old is)) all

-- ---- worlds

-- The world has the journal's names, each with its cell, and its sockets are led.
pub record IsSet (known : List Named) (world : World) : Type 0 where
  pub names : world.names ≡ known
  pub homed : AllHomed world known
  pub numbered : Numbered world.sockets
  pub led : AllLed known world.sockets

pub grown_set : (known : List Named) (one two : World) → IsSet known one → Grows one two → AllLed known two.sockets → IsSet known two
grown_set known one two i g led = record { names = g.names ∙ i.names; homed = homed_still one two known g.homes i.homed; numbered = g.numbered; led = led }

-- ---- entries

-- the entry is no stranger's knock, refuses nothing, and settles nothing
abbrev pub is_calm : Entry → Bool
is_calm (entries.Knocked sock) = false
is_calm (entries.Refused sock) = false
is_calm entries.Settled = false
is_calm entry = true

abbrev pub AreCalm : List Entry → Type 0
AreCalm [] = Unit {0}
AreCalm (entry ∷ rest) = (is_calm entry ≡ true) × AreCalm rest

pub calm_both : (xs ys : List Entry) → AreCalm xs → AreCalm ys → AreCalm (xs ++ ys)
calm_both [] ys a b = b
calm_both (x ∷ xs) ys a b = (a.0, calm_both xs ys a.1 b)

-- ---- what a cell tells

note_calm : (known : Names) (last : Option Place) (note : Note) → is_calm (note_entry known last note) ≡ true
note_calm known last (notes.Made process origin) = refl
note_calm known last note = refl

end_calm : (place sock : ℕ) (f : SockName × End → World → List Entry × World) (world : World) → ((at : SockName × End) → AreCalm (f at world).0) → AreCalm (on_end place sock f world).0
end_calm place sock f world each = by_end (find_end place sock world.sockets) where
  by_end : (o : Option (SockName × End)) → AreCalm (elim o as (λ o. List Entry × World) [
    | None ↦ ([], world)
    | Some at ↦ f at world
  ]).0
  by_end None = tt
  by_end (Some at) = each at

step_calm : (place : ℕ) (cell : Cell) (step : Step) (world : World) → AreCalm (stepped place cell step world).0
step_calm place cell (steps.Dial sock end peer) world = (refl, tt)
step_calm place cell (steps.Read sock) world = end_calm place sock reads_item world (λ at. tt)
step_calm place cell (steps.Write sock bytes said) world = end_calm place sock (λ at now. (entries.Wrote at.0 at.1 bytes ∷ [], with_end_of at.0 (other at.1) (item_arrives bytes said) now)) world (λ at. (refl, tt))
step_calm place cell (steps.Up sock) world = end_calm place sock (λ at now. (entries.Up at.0 at.1 ∷ [], now)) world (λ at. (refl, tt))
step_calm place cell (steps.Down sock) world = end_calm place sock (λ at now. (entries.Down at.0 at.1 ∷ [], end_closes at now)) world (λ at. (refl, tt))
step_calm place cell (steps.Left sock) world = end_calm place sock (λ at now. (entries.Left at.0 at.1 ∷ [], end_closes at now)) world (λ at. (refl, tt))
step_calm place cell (steps.Broke end peer why) world = (refl, tt)
step_calm place cell (steps.Post end event) world = tt

one_calm : (place : ℕ) (cell : Cell) (entry : LocalEntry) (world : World) → AreCalm (local_told place cell entry world).0
one_calm place cell (local.Step step) world = step_calm place cell step world
one_calm place cell (local.Note note) world = (note_calm world.names world.last note, tt)

target_homed : (c : Option ℕ) → (target_end c).cell ≡ c
target_homed None = refl
target_homed (Some place) = refl

dial_led : (known : List Named) → AllNamed known → (place : ℕ) (cell : Cell) (step : Step) (world : World) → IsSet known world → OnDial (λ w. AllLed known w.sockets) place cell step world
dial_led known named place cell (steps.Dial sock end peer) world i = led_stored known (new_socket world (called world.names (own_address cell.host end)) (called world.names peer) cell.host.host (end_of_nobody (Some place) (Some sock) Pending) peer) world.sockets
    (record { o = refl; t = λ d. ap is_some (target_homed (cell_of world peer)) ∙ called_homed world known peer named i.homed (subst (λ (ns : List Named). is_declared known (called ns peer) ≡ true) i.names d) }) i.led
dial_led known named place cell step world i = tt

one_led : (known : List Named) → AllNamed known → (place : ℕ) (cell : Cell) (entry : LocalEntry) (world : World) → IsSet known world → AllLed known (local_told place cell entry world).1.sockets
one_led known named place cell (local.Note note) world i = i.led
one_led known named place cell (local.Step step) world i = step_as (λ w. AllLed known w.sockets) (λ one two c s k. subst (AllLed known) (sym s) k) place cell step world (dial_led known named place cell step world i) (λ s e f c. led_end known s e f world (λ end. (c.changes.place end).0) i.led) i.led

pub all_set : (known : List Named) → AllNamed known → (place : ℕ) (cell : Cell) (told : List LocalEntry) (world : World) → IsSet known world → AreCalm (all_told place cell told world).0 × IsSet known (all_told place cell told world).1
all_set known named place cell [] world i = (tt, i)
all_set known named place cell (entry ∷ rest) world i =
    let next : IsSet known (local_told place cell entry world).1 = grown_set known world (local_told place cell entry world).1 i (told_all place cell (entry ∷ []) world i.numbered) (one_led known named place cell entry world i) in
    let more = all_set known named place cell rest (local_told place cell entry world).1 next in
    (calm_both (local_told place cell entry world).0 (all_told place cell rest (local_told place cell entry world).1).0 (one_calm place cell entry world) more.0, more.1)

-- ---- what happens

-- what is told is calm, and the world is set after it
abbrev pub Goes : List Named → Answered → Type 0
Goes known (Ok done) = AreCalm done.0.1 × IsSet known done.1
Goes known (Err stop) = Unit {0}

same_home : (before now : Cell) → CellStays before now → home_of now ≡ home_of before
same_home before now k = by_parts _ _ _ _ _ _ _ _ k.host.host k.host.port k.host.circle k.nodes where
  by_parts : (a e : List ℕ) (b f : ℕ) (c g : List (List ℕ)) (d h : List (ℕ × Who)) → e ≡ a → f ≡ b → g ≡ c → h ≡ d → ◌≡◌ {A = Home} (e, f, g, h) (a, b, c, d)
  by_parts a e b f c g d h k l m n = cc

told_goes : (known : List Named) → AllNamed known → (place : ℕ) (cell : Cell × ℕ) (event : LocalEvent) (world : World) → IsSet known world → slice_get world.cells place ≡ Some cell → (done : Celled) → cell_step cell.0 event ≡ done → Goes known (cell_told place cell world done)
told_goes known named place cell event world i found (Err stop) is = tt
told_goes known named place cell event world i found (Ok done) is = all_set known named place done.1 done.0.1 (with_cell place (done.1, cell.1) world)
    (grown_set known world (with_cell place (done.1, cell.1) world) i (celled place cell (done.1, cell.1) world i.numbered found (same_home cell.0 done.1 (cell_after cell.0 done.1 event done.0 is))) i.led)

hears_goes : (known : List Named) → AllNamed known → (place : ℕ) (event : LocalEvent) (world : World) → IsSet known world → Goes known (cell_hears place event world)
hears_goes known named place event world i = by_cell (slice_get world.cells place) refl where
  by_cell : (o : Option (Cell × ℕ)) → slice_get world.cells place ≡ o → Goes known (elim o as (λ o. Answered) [
    | None ↦ Ok ((verdicts.Nothing, []), world)
    | Some cell ↦ cell_told place cell world (cell_step cell.0 event)
  ])
  by_cell None e = (tt, i)
  by_cell (Some cell) e = told_goes known named place cell event world i e (cell_step cell.0 event) refl

end_goes_on : (known : List Named) → AllNamed known → (end : WorldEnd) (event : ℕ → SocketEvent) (world : World) → IsSet known world → Goes known (end_hears end event world)
end_goes_on known named end event world i = by_cell end.cell end.number where
  by_cell : (o n : Option ℕ) → Goes known (elim o as (λ o. Answered) [
    | None ↦ Ok ((verdicts.Nothing, []), world)
    | Some place ↦ elim n [
      | None ↦ Ok ((verdicts.Nothing, []), world)
      | Some number ↦ cell_hears place (events.Socket (event number)) world
    ]
  ])
  by_cell None n = (tt, i)
  by_cell (Some place) None = (tt, i)
  by_cell (Some place) (Some number) = hears_goes known named place (events.Socket (event number)) world i

entry_goes : (known : List Named) (entry : Entry) (done : Answered) → is_calm entry ≡ true → Goes known done → Goes known (after_entry entry done)
entry_goes known entry (Ok done) calm g = ((calm, g.0), g.1)
entry_goes known entry (Err stop) calm g = tt

opens_on : (end now : WorldEnd) → is_pending end.stage ≡ true → now.cell ≡ end.cell → now.stage ≡ Open → EndGoes end now
opens_on end now pending c s = record { cell = c; stage = subst (λ (stage : Stage). stage_rank end.stage ≤ stage_rank stage) (sym s) (subst (λ (stage : Stage). stage_rank stage ≤ 1) (sym (pending_is end.stage pending)) (omega arith)) }

-- a pending end of the socket is opened
pub opened_set : (known : List Named) (which : End) (f : WorldEnd → WorldEnd) (socket : WorldSocket) (world : World) → IsSet known world → IsIn socket world → is_pending (end_of which socket).stage ≡ true → ((end : WorldEnd) → ((f end).cell ≡ end.cell) × ((f end).stage ≡ Open)) → IsSet known (with_end_of socket.name which f world)
opened_set known which f socket world i is pending g = grown_set known world (with_end_of socket.name which f world) i (end_goes socket.name which f world i.numbered (λ found e. by_same found (one found e))) (led_end known socket.name which f world (λ end. (g end).0) i.led) where
  one : (found : WorldSocket) → find (is_socket_named socket.name) world.sockets ≡ Some found → socket ≡ found
  one found e = cc

  by_same : (found : WorldSocket) → socket ≡ found → EndGoes (end_of which found) (f (end_of which found))
  by_same found same = subst (λ (s : WorldSocket). EndGoes (end_of which s) (f (end_of which s))) same (opens_on (end_of which socket) (f (end_of which socket)) pending (g (end_of which socket)).0 (g (end_of which socket)).1)

joins_goes : (known : List Named) → AllNamed known → (socket : WorldSocket) (world : World) → IsIn socket world → is_pending socket.o.stage ≡ true → IsSet known world → Goes known (joins socket world)
joins_goes known named socket world is pending i = entry_goes known (entries.Joined socket.name) (end_hears socket.o (λ sock. sockets.Joined sock) (with_end_of socket.name O opened world)) refl
    (end_goes_on known named socket.o (λ sock. sockets.Joined sock) (with_end_of socket.name O opened world) (opened_set known O opened socket world i is pending (λ end. (refl, refl))))

comes_goes : (known : List Named) → AllNamed known → (socket : WorldSocket) (world : World) → IsIn socket world → is_pending socket.t.stage ≡ true → IsSet known world → Goes known (comes socket world)
comes_goes known named socket world is pending i = by_place socket.t.cell where
  came_there : ℕ → Cell × ℕ → World
  came_there place cell = with_end_of socket.name T (λ end. record (opened end) { number = Some (2 * cell.1 + 1) }) (with_cell place (cell.0, cell.1 + 1) world)

  by_cell : (place : ℕ) (o : Option (Cell × ℕ)) → slice_get world.cells place ≡ o → Goes known (elim o as (λ o. Answered) [
    | None ↦ Ok ((verdicts.Nothing, []), world)
    | Some cell ↦ cell_hears place (events.Came (mark_of socket.o) (2 * cell.1 + 1) socket.from_host) (came_there place cell)
  ])
  by_cell place None e = (tt, i)
  by_cell place (Some cell) e = hears_goes known named place (events.Came (mark_of socket.o) (2 * cell.1 + 1) socket.from_host) (came_there place cell)
      (opened_set known T (λ end. record (opened end) { number = Some (2 * cell.1 + 1) }) socket (with_cell place (cell.0, cell.1 + 1) world)
      (grown_set known world (with_cell place (cell.0, cell.1 + 1) world) i (celled place cell (cell.0, cell.1 + 1) world i.numbered e refl) i.led) is pending (λ end. (refl, refl)))

  by_place : (o : Option ℕ) → Goes known (elim o as (λ o. Answered) [
    | None ↦ Ok ((verdicts.Nothing, []), world)
    | Some place ↦ after_entry (entries.Came socket.name) (comes_at place socket world)
  ])
  by_place None = (tt, i)
  by_place (Some place) = entry_goes known (entries.Came socket.name) (comes_at place socket world) refl (by_cell place (slice_get world.cells place) refl)

hands_goes : (known : List Named) → AllNamed known → (bytes : List ℕ) (end : WorldEnd) (world : World) → IsSet known world → Goes known (hands bytes end world)
hands_goes known named [] end world i = end_goes_on known named end (λ sock. sockets.Ended sock) world i
hands_goes known named (b ∷ bytes) end world i = end_goes_on known named end (λ sock. sockets.Fed sock (b ∷ bytes)) world i

feeds_goes : (known : List Named) → AllNamed known → (which : End) (count : ℕ) (socket : WorldSocket) (world : World) → IsSet known world → Goes known (feeds which count socket world)
feeds_goes known named which count socket world i = entry_goes known (entries.Fed socket.name which (length (take count (end_of which socket).unread))) (hands (take count (end_of which socket).unread) (end_of which socket) rest) refl
    (hands_goes known named (take count (end_of which socket).unread) (end_of which socket) rest (grown_set known world rest i (end_goes socket.name which taken world i.numbered (λ found e. as_far (end_of which found) (taken (end_of which found)) refl refl)) (led_end known socket.name which taken world (λ end. refl) i.led))) where
      taken : WorldEnd → WorldEnd
      taken end = record end { unread = drop count end.unread }

      rest : World
      rest = with_end_of socket.name which taken world

node_goes : (known : List Named) → AllNamed known → (name : List ℕ) (event : ℕ → LocalEvent) (world : World) → IsSet known world → Goes known (node_hears name event world)
node_goes known named name event world i = by_cell (cell_of world (address_as world.names name)) where
  by_cell : (o : Option ℕ) → Goes known (elim o as (λ o. Answered) [
    | None ↦ Ok ((verdicts.Nothing, []), world)
    | Some place ↦ cell_hears place (event (address_as world.names name).id) world
  ])
  by_cell None = (tt, i)
  by_cell (Some place) = hears_goes known named place (event (address_as world.names name).id) world i

at_socket : (known : List Named) (sock : SockName) (test : WorldSocket → Bool) (f : WorldSocket → World → Answered) (world : World) → IsSet known world → ((socket : WorldSocket) → IsIn socket world → test socket ≡ true → Goes known (f socket world)) → Goes known (on_socket sock test f world)
at_socket known sock test f world i each = by_socket (find (is_socket_named sock) world.sockets) refl where
  by_test : (s : WorldSocket) → IsIn s world → (b : Bool) → test s ≡ b → Goes known (cond b (f s world) (Ok ((verdicts.Nothing, []), world)))
  by_test s is true e = each s is e
  by_test s is false e = (tt, i)

  by_socket : (o : Option WorldSocket) → find (is_socket_named sock) world.sockets ≡ o → Goes known (elim o as (λ o. Answered) [
    | None ↦ Ok ((verdicts.Nothing, []), world)
    | Some socket ↦ cond (test socket) (f socket world) (Ok ((verdicts.Nothing, []), world))
  ])
  by_socket None e = (tt, i)
  by_socket (Some s) e = by_test s (subst (λ (n : SockName). find (is_socket_named n) world.sockets ≡ Some s) (sym (find_name sock world.sockets s e)) e) (test s) refl

-- ---- lines

line_goes : (known : List Named) → AllNamed known → (what : What) (world : World) → is_of_many known what ≡ true → IsSet known world → Goes known (line_done what world)
line_goes known named (lines.Node name address unique) world of i = (tt, i)
line_goes known named (lines.Proc node) world of i = node_goes known named node (λ end. events.Make end) world i
line_goes known named (lines.Send by to mark body) world of i = node_goes known named by.node (λ end. events.Command end by.counter (commands.Send (target_as world.names to) (record { mark = mark; body = body }))) world i
line_goes known named (lines.Recv by mark) world of i = node_goes known named by.node (λ end. events.Command end by.counter (commands.Receive mark)) world i
line_goes known named (lines.End by) world of i = node_goes known named by.node (λ end. events.Command end by.counter commands.End) world i
line_goes known named (lines.Join sock) world of i = at_socket known sock can_join joins world i (λ s is e. joins_goes known named s world is (and_parts (is_pending s.o.stage) (is_some s.t.cell) e).0 i)
line_goes known named (lines.Come sock) world of i = at_socket known sock can_come comes world i (λ s is e. comes_goes known named s world is e i)
line_goes known named (lines.Feed sock end count) world of i = at_socket known sock (can_feed end) (feeds end count) world i (λ s is e. feeds_goes known named end count s world i)
line_goes known named what world of i = absurd cc

abbrev pub GoesOn : List Named → Happened → Type 0
GoesOn known (Ok done) = AreCalm done.0 × IsSet known done.1
GoesOn known (Err stop) = Unit {0}

marked : (known : List Named) (number : ℕ) (done : Answered) → Goes known done → GoesOn known (line_answered number done)
marked known number (Ok done) g = ((refl, g.0), g.1)
marked known number (Err stop) g = tt

pub step_goes : (known : List Named) → AllNamed known → (number : ℕ) (what : What) (world : World) → is_of_many known what ≡ true → IsSet known world → GoesOn known (world_step world (record { number = number; what = what }))
step_goes known named number (lines.Node name address unique) world of i = (tt, i)
step_goes known named number (lines.Away name address unique) world of i = absurd cc
step_goes known named number (lines.Label node label) world of i = absurd cc
step_goes known named number (lines.Stranger name host) world of i = absurd cc
step_goes known named number lines.Settle world of i = absurd cc
step_goes known named number what world of i = marked known number (line_done what world) (line_goes known named what world of i)
