-- Which ends have a host and a number: the opener's from the start, the target's since it has come.
use Rattle.std.proofs.Common.{◌≡◌, ℕ, Bool, true, false, cond, List, drop, refl, sym, ◌∙◌, subst}
use Rattle.std.specs.Prelude.{find, is_some, Option, Some, None}
use Rattle.ch_base.specs.declared.address.Address.{Address}
use Rattle.ch_model.specs.declared.entry.Entry.{Entry}
use Rattle.ch_model.specs.declared.line.Line.{Line}
use Rattle.ch_model.specs.declared.name.End.{End}
use Rattle.ch_model.specs.declared.name.End.TheVariants.{O, T}
use Rattle.ch_model.specs.declared.name.SockName.{SockName}
use Rattle.ch_model.specs.declared.step.Step.{Step}
use Rattle.ch_model.specs.declared.step.Step.TheVariants as steps
use Rattle.ch_model.specs.Same.{same_socket}
use Rattle.ch_model.specs.Stages.{Stage, Pending, Open, Ended, is_pending}
use Rattle.ch_model.specs.Naming.{address_as}
use Rattle.ch_model.specs.WorldLines.{stranger_host}
use Rattle.ch_model.specs.WorldSockets.{end_of, with_end, ended, cut, opened, arrives, end_of_nobody, is_socket_named, store_in, with_socket, with_end_of, cell_of, target_end, new_socket}
use Rattle.ch_model.specs.WorldState.{Cell, WorldEnd, WorldSocket, World}
use Rattle.ch_laws_log.proofs.Agreeing.{Good, AnyCount, keeps_good}
use Rattle.ch_laws_log.proofs.Kept.{Keeps, stranger_socket}
use Rattle.ch_laws_log.proofs.Stored.{find_stored}
use Rattle.ch_laws_ends.proofs.Changes.{GoesOn, Changes, OnDial, step_as, cutting, taking, getting, closing}

-- an opener's end of a host has a number, and a stranger's never pends
abbrev pub OpenerIs : Stage → Option ℕ → Option ℕ → Type 0
OpenerIs Pending cell number = (is_some cell ≡ true) × (is_some number ≡ true)
OpenerIs Open cell number = is_some number ≡ is_some cell
OpenerIs Ended cell number = Unit {0}

-- a target's end is of a host until it has ended; it gets its number as it comes
abbrev pub TargetIs : Stage → Option ℕ → Option ℕ → Type 0
TargetIs Pending cell number = (is_some cell ≡ true) × (number ≡ None)
TargetIs Open cell number = (is_some cell ≡ true) × (is_some number ≡ true)
TargetIs Ended cell number = Unit {0}

pub record IsKnown (socket : WorldSocket) : Type 0 where
  pub o : OpenerIs socket.o.stage socket.o.cell socket.o.number
  pub t : TargetIs socket.t.stage socket.t.cell socket.t.number

abbrev pub AllKnown : List WorldSocket → Type 0
AllKnown sockets = (s : SockName) (socket : WorldSocket) → find (is_socket_named s) sockets ≡ Some socket → IsKnown socket

-- ---- one socket is stored

pub known_stored : (new : WorldSocket) (sockets : List WorldSocket) → IsKnown new → AllKnown sockets → AllKnown (store_in new sockets)
known_stored new sockets k all s socket f = by_name (same_socket new.name s) (sym (find_stored new sockets s) ∙ f) where
  by_name : (b : Bool) → cond b (Some new) (find (is_socket_named s) sockets) ≡ Some socket → IsKnown socket
  by_name true f = let is : new ≡ socket = cc in subst IsKnown is k
  by_name false f = all s socket f

pub known_end : (s : SockName) (e : End) (f : WorldEnd → WorldEnd) (world : World) → ((old : WorldSocket) → find (is_socket_named s) world.sockets ≡ Some old → IsKnown old → IsKnown (with_end e (f (end_of e old)) old)) → AllKnown world.sockets → AllKnown (with_end_of s e f world).sockets
known_end s e f world keeps all = by_socket (find (is_socket_named s) world.sockets) refl where
  by_socket : (o : Option WorldSocket) → find (is_socket_named s) world.sockets ≡ o → AllKnown (elim o as (λ o. World) [
    | None ↦ world
    | Some socket ↦ with_socket (with_end e (f (end_of e socket)) socket) world
  ]).sockets
  by_socket None is = all
  by_socket (Some old) is = known_stored (with_end e (f (end_of e old)) old) world.sockets (keeps old is (all s old is)) all

-- ---- an end goes on

opener_on : (a b : Stage) (cell number : Option ℕ) → GoesOn a b → OpenerIs a cell number → OpenerIs b cell number
opener_on a Ended cell number g k = tt
opener_on Pending Pending cell number g k = k
opener_on Open Open cell number g k = k
opener_on Pending Open cell number g k = absurd g
opener_on Open Pending cell number g k = absurd g
opener_on Ended Pending cell number g k = absurd g
opener_on Ended Open cell number g k = absurd g

target_on : (a b : Stage) (cell number : Option ℕ) → GoesOn a b → TargetIs a cell number → TargetIs b cell number
target_on a Ended cell number g k = tt
target_on Pending Pending cell number g k = k
target_on Open Open cell number g k = k
target_on Pending Open cell number g k = absurd g
target_on Open Pending cell number g k = absurd g
target_on Ended Pending cell number g k = absurd g
target_on Ended Open cell number g k = absurd g

placed : (P : Option ℕ → Option ℕ → Type 0) (one two : WorldEnd) → (two.cell ≡ one.cell) × (two.number ≡ one.number) → P one.cell one.number → P two.cell two.number
placed P one two same p = subst (λ (c : Option ℕ). P c two.number) (sym same.0) (subst (λ (n : Option ℕ). P one.cell n) (sym same.1) p)

pub goes_on : (e : End) (f : WorldEnd → WorldEnd) (old : WorldSocket) → Changes f → IsKnown old → IsKnown (with_end e (f (end_of e old)) old)
goes_on O f old c k = record { o = placed (OpenerIs (f old.o).stage) old.o (f old.o) (c.place old.o) (opener_on old.o.stage (f old.o).stage old.o.cell old.o.number (c.stage old.o) k.o); t = k.t }
goes_on T f old c k = record { o = k.o; t = placed (TargetIs (f old.t).stage) old.t (f old.t) (c.place old.t) (target_on old.t.stage (f old.t).stage old.t.cell old.t.number (c.stage old.t) k.t) }

pub known_change : (s : SockName) (e : End) (f : WorldEnd → WorldEnd) (world : World) → Changes f → AllKnown world.sockets → AllKnown (with_end_of s e f world).sockets
known_change s e f world c all = known_end s e f world (λ old is k. goes_on e f old c k) all

-- ---- an end opens

pub pending_is : (stage : Stage) → is_pending stage ≡ true → stage ≡ Pending
pending_is Pending e = refl
pending_is Open e = absurd cc
pending_is Ended e = absurd cc

joined_known : (old : WorldSocket) → is_pending old.o.stage ≡ true → IsKnown old → IsKnown (with_end O (opened old.o) old)
joined_known old p k = record { o = by_opener (subst (λ (s : Stage). OpenerIs s old.o.cell old.o.number) (pending_is old.o.stage p) k.o); t = k.t } where
  by_opener : OpenerIs Pending old.o.cell old.o.number → is_some old.o.number ≡ is_some old.o.cell
  by_opener k = k.1 ∙ sym k.0

came_known : (old : WorldSocket) (number : ℕ) → is_pending old.t.stage ≡ true → IsKnown old → IsKnown (with_end T (record (opened old.t) { number = Some number }) old)
came_known old number p k = record { o = k.o; t = by_target (subst (λ (s : Stage). TargetIs s old.t.cell old.t.number) (pending_is old.t.stage p) k.t) } where
  by_target : TargetIs Pending old.t.cell old.t.number → TargetIs Open old.t.cell (Some number)
  by_target k = (k.0, refl)

-- the socket of this name is the one that stands there
its_stage : (P : WorldSocket → Type 0) (sockets : List WorldSocket) (s : SockName) (socket old : WorldSocket) → find (is_socket_named s) sockets ≡ Some socket → find (is_socket_named s) sockets ≡ Some old → P socket → P old
its_stage P sockets s socket old is f p = let same : ◌≡◌ {A = Option WorldSocket} (Some socket) (Some old) = sym is ∙ f in subst P (one same) p where
  one : ◌≡◌ {A = Option WorldSocket} (Some socket) (Some old) → socket ≡ old
  one e = cc

-- ---- a new socket

target_known : (c : Option ℕ) → TargetIs (target_end c).stage (target_end c).cell (target_end c).number
target_known None = tt
target_known (Some place) = (refl, refl)

new_known : (world : World) (from to from_host : List ℕ) (opener : WorldEnd) (address : Address) → OpenerIs opener.stage opener.cell opener.number → IsKnown (new_socket world from to from_host opener address)
new_known world from to from_host opener address o = record { o = o; t = target_known (cell_of world address) }

dial_known : (place : ℕ) (cell : Cell) (step : Step) (world : World) → AllKnown world.sockets → OnDial (λ w. AllKnown w.sockets) place cell step world
dial_known place cell (steps.Dial sock end peer) world all = known_stored (new_socket world _ _ cell.host.host (end_of_nobody (Some place) (Some sock) Pending) peer) world.sockets (new_known world _ _ cell.host.host (end_of_nobody (Some place) (Some sock) Pending) peer (refl, refl)) all
dial_known place cell step world all = tt

-- ---- all of it

-- with what the log tells
abbrev pub Sorted : List Line → List Entry → World → Type 0
Sorted journal log world = Good journal log world × AllKnown world.sockets

pub keeps_sorted : (journal : List Line) → Keeps (Unit {0}) AnyCount (Sorted journal)
keeps_sorted journal = record {
  whole = λ left. tt;
  distinct = λ log world g. g.0.apart;
  cell = λ log world place cell g. ((keeps_good journal).cell log world place cell g.0, g.1);
  mark = λ log world number answer g. ((keeps_good journal).mark log world number answer g.0, g.1);
  settled = λ log world g. ((keeps_good journal).settled log world g.0, g.1);
  note = λ log world note g. ((keeps_good journal).note log world note g.0, g.1);
  step = λ log world place cell step g. ((keeps_good journal).step log world place cell step g.0, step_as (λ w. AllKnown w.sockets) (λ one two c s k. subst AllKnown (sym s) k) place cell step world (dial_known place cell step world g.1) (λ s e f c. known_change s e f world c.changes g.1) g.1);
  joined = λ log world socket is p g. ((keeps_good journal).joined log world socket is p g.0, known_end socket.name O opened world (λ old f k. its_stage (λ w. IsKnown w → IsKnown (with_end O (opened w.o) w)) world.sockets socket.name socket old is f (joined_known socket p) k) g.1);
  refused = λ r log world socket is p g. ((keeps_good journal).refused r log world socket is p g.0, g.1);
  came = λ log world socket number is p g. ((keeps_good journal).came log world socket number is p g.0, known_end socket.name T (λ end. record (opened end) { number = Some number }) world (λ old f k. its_stage (λ w. IsKnown w → IsKnown (with_end T (record (opened w.t) { number = Some number }) w)) world.sockets socket.name socket old is f (came_known socket number p) k) g.1);
  came_nowhere = λ log world socket place is at none g. ((keeps_good journal).came_nowhere log world socket place is at none g.0, g.1);
  fed = λ log world socket which count is stands input w g. ((keeps_good journal).fed log world socket which count is stands input w g.0, known_change socket.name which (λ end. record end { unread = drop count end.unread }) world (taking (drop count)) g.1);
  lost = λ log world socket which g. ((keeps_good journal).lost log world socket which g.0, g.1);
  timed = λ log world node peer g. ((keeps_good journal).timed log world node peer g.0, g.1);
  was_cut = λ log world socket which is g. ((keeps_good journal).was_cut log world socket which is g.0, known_change socket.name which cut world cutting g.1);
  knocked = λ log world stranger node g. ((keeps_good journal).knocked log world stranger node g.0, known_stored (stranger_socket stranger node world) world.sockets (new_known world stranger node (stranger_host world stranger) (end_of_nobody None None Open) (address_as world.names node) refl) g.1);
  poked = λ log world socket bytes is g. ((keeps_good journal).poked log world socket bytes is g.0, known_change socket.name T (arrives bytes) world (getting bytes) g.1);
  quitted = λ log world socket is g. ((keeps_good journal).quitted log world socket is g.0, known_change socket.name O ended world closing.changes g.1);
}
