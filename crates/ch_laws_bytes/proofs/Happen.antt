-- What happens without bytes keeps the streams: a refusal, a loss, a timer, a cut, what a node does, and what strangers do.
use Rattle.std.proofs.Common.{◌≡◌, ℕ, Bool, true, false, cond, ◌&&◌, ◌||◌, not, List, [], ◌++◌, Ok, Err, refl, sym, ap, ◌∙◌, subst}
use Rattle.std.specs.Option.{option_map}
use Rattle.std.specs.Prelude.{find, is_some, slice_get, Option, Some, None, ◌==◌}
use Rattle.ch_base.specs.declared.address.Address.{Address}
use Rattle.ch_reader.specs.declared.item.Expected.TheVariants as expected
use Rattle.ch_model.specs.declared.entry.Entry.{Entry}
use Rattle.ch_model.specs.declared.entry.Entry.TheVariants as entries
use Rattle.ch_model.specs.declared.entry.Verdict.{Verdict}
use Rattle.ch_model.specs.declared.entry.Verdict.TheVariants as verdicts
use Rattle.ch_model.specs.declared.line.Line.{Line}
use Rattle.ch_model.specs.declared.local.LocalEntry.{LocalEntry}
use Rattle.ch_model.specs.declared.local.LocalEvent.{LocalEvent}
use Rattle.ch_model.specs.declared.local.LocalEvent.TheVariants as events
use Rattle.ch_model.specs.declared.name.End.{End}
use Rattle.ch_model.specs.declared.name.End.TheVariants.{O, T}
use Rattle.ch_model.specs.declared.name.SockName.{SockName}
use Rattle.ch_model.specs.declared.step.SocketEvent.{SocketEvent}
use Rattle.ch_model.specs.declared.step.SocketEvent.TheVariants as sockets
use Rattle.ch_model.specs.Cell.{Celled, cell_step}
use Rattle.ch_model.specs.HostState.{Socket, HostState}
use Rattle.ch_model.specs.HostSteps.{is_socket}
use Rattle.ch_model.specs.Naming.{Names, address_as, named_as}
use Rattle.ch_model.specs.Stages.{Stage, is_ended}
use Rattle.ch_model.specs.WorldHappenings.{Answered, after_entry, cell_told, cell_hears, end_hears, refuses, loses, times_out}
use Rattle.ch_model.specs.WorldLines.{node_hears, cuts, is_strangers, knocks, pokes, quits}
use Rattle.ch_model.specs.WorldSockets.{end_of, with_end, ended, cut, arrives, is_socket_named, with_end_of, cell_of, target_end}
use Rattle.ch_model.specs.WorldState.{Cell, WorldEnd, WorldSocket, World}
use Rattle.ch_laws_log.specs.HostEnds.{AreNewTo, IsSound, opens_no_end, steps_in}
use Rattle.ch_laws_log.specs.WorldEnds.{stage_held}
use Rattle.ch_laws_log.proofs.CellTold as cells
use Rattle.ch_laws_log.proofs.Kept.{IsIn, stranger_socket}
use Rattle.ch_laws_log.proofs.Stored.{number_is}
use Rattle.ch_laws_ends.proofs.Changes.{cells_stay}
use Rattle.ch_laws_ends.proofs.Told.{Ends, Sure}
use Rattle.ch_laws_reads.specs.Reads.{handed}
use Rattle.ch_laws_writes.specs.Dues.{Due, due_at, due_told}
use Rattle.ch_laws_writes.specs.Orderly.{ComesNewTo}
use Rattle.ch_laws_bytes.specs.Streams.{Reader, reader_in, reader_at, readers_of, due_in, dues_of, reads_at, writes_at, AsksNothing, ToOpener, FromOpener, is_over, BothFlow, AllFlow}
use Rattle.ch_laws_bytes.proofs.Event.{Flowing, given_readers, given_dues, Given, told_flowing}
use Rattle.ch_laws_bytes.proofs.Reading.{read_as}
use Rattle.ch_laws_bytes.proofs.Sockets.{all_as, stored_flow, end_flow}
use Rattle.ch_laws_bytes.proofs.Stepped.{from_any}
use Rattle.ch_laws_bytes.proofs.Steps.{over_flows, answered_over, asked_still}
use Rattle.ch_laws_bytes.proofs.Told.{end_names}

-- what happened keeps the streams, where no count stood at its last value
abbrev pub Flown : (ℕ → ℕ → Address) → Answered → Type 0
Flown own (Ok done) = Flowing own done.1
Flown own (Err stop) = Unit {0}

pub entry_flown : (own : ℕ → ℕ → Address) (entry : Entry) (done : Answered) → Flown own done → Flown own (after_entry entry done)
entry_flown own entry (Ok done) f = f
entry_flown own entry (Err stop) f = tt

-- ---- a cell hears something

pub given_flown : (own : ℕ → ℕ → Address) (journal : List Line) (log : List Entry) (world : World) (place : ℕ) (cell : Cell × ℕ) (event : LocalEvent) → Given own journal log world place cell event
    → ((after : Cell) (verdict : Verdict) (told : List LocalEntry) → cell_step cell.0 event ≡ Ok ((verdict, told), after) → (n : ℕ) → AreNewTo n (steps_in told) (stage_held place n world.sockets)) → Flown own (cell_told place cell world (cell_step cell.0 event))
given_flown own journal log world place cell event g new = by_done (cell_step cell.0 event) refl where
  by_done : (done : Celled) → cell_step cell.0 event ≡ done → Flown own (cell_told place cell world done)
  by_done (Err stop) e = tt
  by_done (Ok done) e = told_flowing own journal log world place cell event done.1 done.0.0 done.0.1 g (new done.1 done.0.0 done.0.1 e) e

-- the streams are as each host reads and writes, so as this one does
pub readers_there : (cells : List (Cell × ℕ)) (place : ℕ) (cell : Cell × ℕ) → slice_get cells place ≡ Some cell → (p n : ℕ) → given_readers place cell.0.host cells p n ≡ readers_of cells p n
readers_there cells place cell at p n = by_test (place == p) refl where
  by_test : (b : Bool) → (place == p) ≡ b → cond b (reader_in (find (is_socket n) cell.0.host.sockets)) (readers_of cells p n) ≡ readers_of cells p n
  by_test true e = sym (ap (λ (k : ℕ). readers_of cells k n) (sym (number_is place p e)) ∙ ap (λ (o : Option (Cell × ℕ)). reader_at o n) at)
  by_test false e = refl

pub dues_there : (cells : List (Cell × ℕ)) (place : ℕ) (cell : Cell × ℕ) → slice_get cells place ≡ Some cell → (p n : ℕ) → given_dues place (due_at cell.0.host) cells p n ≡ dues_of cells p n
dues_there cells place cell at p n = by_test (place == p) refl where
  by_test : (b : Bool) → (place == p) ≡ b → cond b (due_at cell.0.host n) (dues_of cells p n) ≡ dues_of cells p n
  by_test true e = sym (ap (λ (k : ℕ). dues_of cells k n) (sym (number_is place p e)) ∙ ap (λ (o : Option (Cell × ℕ)). due_in o n) at)
  by_test false e = refl

pub is_some_map : {A B : Type 0} (f : A → B) (o : Option A) → is_some o ≡ is_some (option_map f o)
is_some_map f None = refl
is_some_map f (Some x) = refl

-- what changes nothing of what is read or due before it is heard
pub record IsQuiet (event : LocalEvent) : Type 0 where
  pub hands : (host : HostState) → handed event host ≡ host
  pub dues : (n : ℕ) (due : Option Due) → due_told event n due ≡ due
  pub comes : (host : HostState) → ComesNewTo host event
  pub opens : opens_no_end event ≡ true

pub hears_flown : (own : ℕ → ℕ → Address) (journal : List Line) (log : List Entry) (place : ℕ) (event : LocalEvent) (world : World) → IsQuiet event → Ends journal log world → Flowing own world → Flown own (cell_hears place event world)
hears_flown own journal log place event world q s f = by_cell (slice_get world.cells place) refl where
  there : (cell : Cell × ℕ) → slice_get world.cells place ≡ Some cell → Flown own (cell_told place cell world (cell_step cell.0 event))
  there cell at = given_flown own journal log world place cell event (record {
    at = at;
    sorted = s.sorted;
    each = s.each;
    orderly = f.orderly;
    sound = subst IsSound (sym (q.hands cell.0.host)) (s.agrees.sound place cell at);
    comes = q.comes cell.0.host;
    there = λ n. ap (λ (h : HostState). is_some (find (is_socket n) h.sockets)) (q.hands cell.0.host) ∙ is_some_map (λ (w : Socket). w.stage) (find (is_socket n) cell.0.host.sockets) ∙ ap is_some (s.agrees.ends place cell at n);
    flow = read_as own world.names (readers_of world.cells) (given_readers place (handed event cell.0.host) world.cells) (given_dues place (λ n. due_told event n (due_at cell.0.host n)) world.cells) world.sockets
        (λ p n. ap (λ (h : HostState). given_readers place h world.cells p n) (q.hands cell.0.host) ∙ readers_there world.cells place cell at p n)
        (all_as own world.names (readers_of world.cells) (dues_of world.cells) (given_dues place (λ n. due_told event n (due_at cell.0.host n)) world.cells) world.sockets
        (λ p n. ap (λ (d : Option Due). cond (place == p) d (dues_of world.cells p n)) (q.dues n (due_at cell.0.host n)) ∙ dues_there world.cells place cell at p n) f.flow);
  }) (λ after verdict told e n. subst (λ (o : Option Stage). AreNewTo n (steps_in told) o) (s.agrees.ends place cell at n) ((cells.cell_told cell.0 after event verdict told q.opens (s.agrees.sound place cell at) e).new n))

  by_cell : (o : Option (Cell × ℕ)) → slice_get world.cells place ≡ o → Flown own (elim o as (λ o. Answered) [
    | None ↦ Ok ((verdicts.Nothing, []), world)
    | Some cell ↦ cell_told place cell world (cell_step cell.0 event)
  ])
  by_cell None at = f
  by_cell (Some cell) at = there cell at

pub end_hears_flown : (own : ℕ → ℕ → Address) (journal : List Line) (log : List Entry) (end : WorldEnd) (event : ℕ → SocketEvent) (world : World) → ((n : ℕ) → IsQuiet (events.Socket (event n))) → Ends journal log world → Flowing own world → Flown own (end_hears end event world)
end_hears_flown own journal log end event world q s f = by_end end.cell end.number where
  by_end : (c n : Option ℕ) → Flown own (elim c as (λ o. Answered) [
    | None ↦ Ok ((verdicts.Nothing, []), world)
    | Some place ↦ elim n [
      | None ↦ Ok ((verdicts.Nothing, []), world)
      | Some number ↦ cell_hears place (events.Socket (event number)) world
    ]
  ])
  by_end None n = f
  by_end (Some place) None = f
  by_end (Some place) (Some number) = hears_flown own journal log place (events.Socket (event number)) world (q number) s f

pub refuses_flown : (own : ℕ → ℕ → Address) (journal : List Line) (log : List Entry) (socket : WorldSocket) (world : World) → Sure journal log world → Flowing own world → Flown own (refuses socket world)
refuses_flown own journal log socket world s f = entry_flown own (entries.Refused socket.name) (end_hears socket.o (λ sock. sockets.Refused sock) world)
    (end_hears_flown own journal log socket.o (λ sock. sockets.Refused sock) world (λ n. record { hands = λ host. refl; dues = λ n due. refl; comes = λ host. tt; opens = refl }) s.ends f)

pub loses_flown : (own : ℕ → ℕ → Address) (journal : List Line) (log : List Entry) (which : End) (socket : WorldSocket) (world : World) → Sure journal log world → Flowing own world → Flown own (loses which socket world)
loses_flown own journal log which socket world s f = entry_flown own (entries.Lost socket.name which) (end_hears (end_of which socket) (λ sock. sockets.Lost sock) world)
    (end_hears_flown own journal log (end_of which socket) (λ sock. sockets.Lost sock) world (λ n. record { hands = λ host. refl; dues = λ n due. refl; comes = λ host. tt; opens = refl }) s.ends f)

pub times_flown : (own : ℕ → ℕ → Address) (journal : List Line) (log : List Entry) (node peer : List ℕ) (world : World) → Sure journal log world → Flowing own world → Flown own (times_out node peer world)
times_flown own journal log node peer world s f = by_cell (cell_of world (named_as world.names node).address) where
  late_event : LocalEvent
  late_event = events.Socket (sockets.Late (named_as world.names node).address.id (named_as world.names peer).address)

  by_cell : (o : Option ℕ) → Flown own (elim o as (λ o. Answered) [
    | None ↦ Ok ((verdicts.Nothing, []), world)
    | Some place ↦ after_entry (entries.Timed node peer) (cell_hears place late_event world)
  ])
  by_cell None = f
  by_cell (Some place) = entry_flown own (entries.Timed node peer) (cell_hears place late_event world) (hears_flown own journal log place late_event world (record { hands = λ host. refl; dues = λ n due. refl; comes = λ host. tt; opens = refl }) s.ends f)

pub node_flown : (own : ℕ → ℕ → Address) (journal : List Line) (log : List Entry) (name : List ℕ) (event : ℕ → LocalEvent) (world : World) → ((end : ℕ) → IsQuiet (event end)) → Sure journal log world → Flowing own world → Flown own (node_hears name event world)
node_flown own journal log name event world q s f = by_cell (cell_of world (address_as world.names name)) where
  by_cell : (o : Option ℕ) → Flown own (elim o as (λ o. Answered) [
    | None ↦ Ok ((verdicts.Nothing, []), world)
    | Some place ↦ cell_hears place (event (address_as world.names name).id) world
  ])
  by_cell None = f
  by_cell (Some place) = hears_flown own journal log place (event (address_as world.names name).id) world (q (address_as world.names name).id) s.ends f

-- ---- an end is changed

-- the cells stay, and so do all other sockets
pub changed_flowing : (own : ℕ → ℕ → Address) (s : SockName) (e : End) (f : WorldEnd → WorldEnd) (world : World)
    → ((old : WorldSocket) → find (is_socket_named s) world.sockets ≡ Some old → BothFlow own world.names (readers_of world.cells) (dues_of world.cells) old → BothFlow own world.names (readers_of world.cells) (dues_of world.cells) (with_end e (f (end_of e old)) old)) → Flowing own world → Flowing own (with_end_of s e f world)
changed_flowing own s e f world mine w = record {
  orderly = λ p c at. w.orderly p c (ap (λ (l : List (Cell × ℕ)). slice_get l p) (sym (cells_stay s e f world)) ∙ at);
  flow = subst (λ (known : Names). AllFlow own known (readers_of now.cells) (dues_of now.cells) now.sockets) (sym (end_names s e f world))
      (subst (λ (l : List (Cell × ℕ)). AllFlow own world.names (readers_of l) (dues_of l) now.sockets) (sym (cells_stay s e f world))
      (end_flow own world.names (readers_of world.cells) (dues_of world.cells) s e f world (λ old is. mine old is (w.flow s old is)) (λ t socket h is. w.flow t socket is)));
} where
  now : World
  now = with_end_of s e f world

or_true : (b : Bool) → (b || true) ≡ true
or_true true = refl
or_true false = refl

-- nothing more is read at an end that is over
over_end : (own : ℕ → ℕ → Address) (known : Names) (readers : ℕ → ℕ → Option Reader) (dues : ℕ → ℕ → Option Due) (e : End) (end : WorldEnd) (old : WorldSocket) → is_over end ≡ true → end.cell ≡ (end_of e old).cell → end.number ≡ (end_of e old).number → end.unread ≡ [] → BothFlow own known readers dues old → BothFlow own known readers dues (with_end e end old)
over_end own known readers dues O end old over c m u f = record {
  opener = subst (λ (b : Bool). ToOpener reader b end.unread (writes_at dues old.t.cell old.t.number)) (sym over) (answered_over reader end.unread (writes_at dues old.t.cell old.t.number) f.opener.answers);
  target = subst (λ (p : Option ℕ). FromOpener own known old.name p (reads_at readers expected.Request old.t.cell old.t.number) (is_over old.t) old.t.unread (writes_at dues p end.number)) (sym c)
      (subst (λ (n : Option ℕ). FromOpener own known old.name old.o.cell (reads_at readers expected.Request old.t.cell old.t.number) (is_over old.t) old.t.unread (writes_at dues old.o.cell n)) (sym m) f.target);
} where
  reader : Option Reader
  reader = reads_at readers expected.Answer end.cell end.number
over_end own known readers dues T end old over c m u f = record {
  opener = subst (λ (p : Option ℕ). ToOpener one (is_over old.o) old.o.unread (writes_at dues p end.number)) (sym c) (subst (λ (n : Option ℕ). ToOpener one (is_over old.o) old.o.unread (writes_at dues old.t.cell n)) (sym m) f.opener);
  target = subst (λ (b : Bool). FromOpener own known old.name old.o.cell reader b end.unread due) (sym over)
      (from_any own known old.name old.o.cell was reader (is_over old.t) true old.t.unread end.unread due due (λ p. asked_still (own p) known old.name was reader (is_over old.t) true old.t.unread end.unread due (λ x. over_flows reader end.unread due)) f.target);
} where
  one : Option Reader
  one = reads_at readers expected.Answer old.o.cell old.o.number

  was : Option Reader
  was = reads_at readers expected.Request old.t.cell old.t.number

  reader : Option Reader
  reader = reads_at readers expected.Request end.cell end.number

  due : Option Due
  due = writes_at dues old.o.cell old.o.number

pub cuts_flown : (own : ℕ → ℕ → Address) (which : End) (socket : WorldSocket) (world : World) → Flowing own world → Flown own (cuts which socket world)
cuts_flown own which socket world w = changed_flowing own socket.name which cut world (λ old is f. over_end own world.names (readers_of world.cells) (dues_of world.cells) which (cut (end_of which old)) old (or_true (is_ended (end_of which old).stage)) refl refl refl f) w

-- ---- strangers

pub quits_flown : (own : ℕ → ℕ → Address) (socket : WorldSocket) (world : World) → Flowing own world → Flown own (quits socket world)
quits_flown own socket world w = changed_flowing own socket.name O ended world (λ old is f. over_end own world.names (readers_of world.cells) (dues_of world.cells) O (ended old.o) old refl refl refl refl f) w

-- an opener's end that is a stranger's
stranger_is : (socket : WorldSocket) → is_strangers socket ≡ true → socket.o.cell ≡ None
stranger_is socket = by_cell socket.o.cell (not (is_ended socket.o.stage)) where
  by_cell : (c : Option ℕ) (b : Bool) → (not (is_some c) && b) ≡ true → c ≡ None
  by_cell None b e = refl
  by_cell (Some p) b e = absurd cc

poked : (own : ℕ → ℕ → Address) (known : Names) (readers : ℕ → ℕ → Option Reader) (dues : ℕ → ℕ → Option Due) (bytes : List ℕ) (old : WorldSocket) → old.o.cell ≡ None → BothFlow own known readers dues old → BothFlow own known readers dues (with_end T (arrives bytes old.t) old)
poked own known readers dues bytes old none f = by_over (is_over old.t) where
  after : Bool → WorldEnd
  after b = cond b old.t (record old.t { unread = old.t.unread ++ bytes })

  strangers : (reader : Option Reader) (over : Bool) (unread : List ℕ) (due : Option Due) → FromOpener own known old.name old.o.cell reader over unread due
  strangers reader over unread due = subst (λ (c : Option ℕ). FromOpener own known old.name c reader over unread due) (sym none) tt

  by_over : (b : Bool) → BothFlow own known readers dues (with_end T (after b) old)
  by_over true = record { opener = f.opener; target = f.target }
  by_over false = record { opener = f.opener; target = strangers (reads_at readers expected.Request old.t.cell old.t.number) (is_over old.t) (old.t.unread ++ bytes) (writes_at dues old.o.cell old.o.number) }

pub pokes_flown : (own : ℕ → ℕ → Address) (bytes : List ℕ) (socket : WorldSocket) (world : World) → IsIn socket world → is_strangers socket ≡ true → Flowing own world → Flown own (pokes bytes socket world)
pokes_flown own bytes socket world is of w = changed_flowing own socket.name T (arrives bytes) world (λ old f b. poked own world.names (readers_of world.cells) (dues_of world.cells) bytes old (same old f) b) w where
  same : (old : WorldSocket) → find (is_socket_named socket.name) world.sockets ≡ Some old → old.o.cell ≡ None
  same old f = let both : ◌≡◌ {A = Option WorldSocket} (Some socket) (Some old) = sym is ∙ f in subst (λ (v : WorldSocket). v.o.cell ≡ None) (one both) (stranger_is socket of) where
    one : ◌≡◌ {A = Option WorldSocket} (Some socket) (Some old) → socket ≡ old
    one e = cc

pub knocks_flown : (own : ℕ → ℕ → Address) (stranger node : List ℕ) (world : World) → Flowing own world → Flown own (knocks stranger node world)
knocks_flown own stranger node world w = record {
  orderly = w.orderly;
  flow = stored_flow own world.names (readers_of world.cells) (dues_of world.cells) (stranger_socket stranger node world) world.sockets (record { opener = record { answers = asks (cell_of world (address_as world.names node)); flows = tt }; target = tt }) (λ s socket h f. w.flow s socket f);
} where
  asks : (c : Option ℕ) → AsksNothing (writes_at (dues_of world.cells) (target_end c).cell (target_end c).number)
  asks None = tt
  asks (Some p) = tt
