-- Bytes that are fed to an end keep the streams: they go from those that are unread to those that its host has.
use Rattle.std.proofs.Common.{◌≡◌, ℕ, Bool, true, false, cond, ◌&&◌, List, [], ◌∷◌, ◌++◌, length, take, drop, Ok, refl, sym, ap, ◌∙◌, subst, append_assoc}
use Rattle.std.proofs.lemmas.List.{take-append-drop}
use Rattle.std.specs.Option.{option_map}
use Rattle.std.specs.Prelude.{find, is_some, slice_get, Option, Some, None, ◌==◌}
use Rattle.ch_base.specs.declared.address.Address.{Address}
use Rattle.ch_reader.specs.declared.item.Expected.{Expected}
use Rattle.ch_reader.specs.declared.item.Expected.TheVariants as expected
use Rattle.ch_model.specs.declared.entry.Entry.{Entry}
use Rattle.ch_model.specs.declared.entry.Entry.TheVariants as entries
use Rattle.ch_model.specs.declared.entry.Verdict.TheVariants as verdicts
use Rattle.ch_model.specs.declared.line.Line.{Line}
use Rattle.ch_model.specs.declared.local.LocalEvent.TheVariants as events
use Rattle.ch_model.specs.declared.name.End.{End}
use Rattle.ch_model.specs.declared.name.End.TheVariants.{O, T}
use Rattle.ch_model.specs.declared.name.SockName.{SockName}
use Rattle.ch_model.specs.declared.step.SocketEvent.TheVariants as sockets
use Rattle.ch_model.specs.Cell.{cell_step}
use Rattle.ch_model.specs.HostState.{Socket, HostState}
use Rattle.ch_model.specs.HostSteps.{is_socket, with_socket}
use Rattle.ch_model.specs.Naming.{Names}
use Rattle.ch_model.specs.Same.{same_socket, same_end}
use Rattle.ch_model.specs.Stages.{Stage, Pending, Open, Ended, is_open, is_pending, is_ended}
use Rattle.ch_model.specs.WorldHappenings.{Answered, cell_told, cell_hears, end_hears, hands, feeds}
use Rattle.ch_model.specs.WorldSockets.{end_of, with_end, is_of_host, has_input, is_socket_named, with_end_of, same_number, is_end_of, find_end}
use Rattle.ch_model.specs.WorldState.{Cell, WorldEnd, WorldSocket, World}
use Rattle.ch_laws_log.specs.HostEnds.{stage_at, AreNewTo, IsSound, steps_in}
use Rattle.ch_laws_log.specs.WorldEnds.{stage_held}
use Rattle.ch_laws_log.proofs.CellTold as cells
use Rattle.ch_laws_log.proofs.HostTold as hosts
use Rattle.ch_laws_log.proofs.Kept.{IsIn}
use Rattle.ch_laws_log.proofs.Stored.{number_is, number_same, self_same}
use Rattle.ch_laws_ends.proofs.Changes.{cells_stay, taking}
use Rattle.ch_laws_ends.proofs.Found.{quiet_held, each_kept}
use Rattle.ch_laws_ends.proofs.Happen.{its_place, its_stage}
use Rattle.ch_laws_ends.proofs.Known.{IsKnown, OpenerIs, TargetIs, keeps_sorted}
use Rattle.ch_laws_ends.proofs.Told.{Ends, Sure, agrees_still}
use Rattle.ch_laws_reads.specs.Reads.{handed, handed_to}
use Rattle.ch_laws_writes.specs.Dues.{Due, due_at}
use Rattle.ch_laws_bytes.specs.Streams.{Reader, reader_in, readers_of, dues_of, first_at, reads_at, writes_at, Flows, is_over, ToOpener, FromOpener, BothFlow, AllFlow}
use Rattle.ch_laws_bytes.proofs.Event.{Flowing, given_readers, given_dues, Given}
use Rattle.ch_laws_bytes.proofs.Happen.{Flown, entry_flown, given_flown, readers_there, dues_there, is_some_map, end_hears_flown, changed_flowing}
use Rattle.ch_laws_bytes.proofs.Sockets.{flip, all_as, not_found, other_end_there, end_flow}
use Rattle.ch_laws_bytes.proofs.Stepped.{from_any}
use Rattle.ch_laws_bytes.proofs.Steps.{asked_still}
use Rattle.ch_laws_bytes.proofs.Told.{end_names}

-- ---- what reads at an end

-- but at one place and number, the same is read
abbrev pub ReadElsewhere : ℕ → ℕ → (ℕ → ℕ → Option Reader) → (ℕ → ℕ → Option Reader) → Type 0
ReadElsewhere place sock one two = (p n : ℕ) → ((p == place) && (n == sock)) ≡ false → two p n ≡ one p n

pub reads_elsewhere : (place sock : ℕ) (one two : ℕ → ℕ → Option Reader) (first : Expected) (end : WorldEnd) → ReadElsewhere place sock one two → is_end_of place sock end ≡ false → reads_at two first end.cell end.number ≡ reads_at one first end.cell end.number
reads_elsewhere place sock one two first end each = by_end end.cell end.number where
  by_end : (c m : Option ℕ) → (same_number c place && same_number m sock) ≡ false → reads_at two first c m ≡ reads_at one first c m
  by_end None m h = refl
  by_end (Some p) None h = refl
  by_end (Some p) (Some n) h = each p n h

pub reads_there : (readers : ℕ → ℕ → Option Reader) (first : Expected) (end : WorldEnd) (place sock : ℕ) → end.cell ≡ Some place → end.number ≡ Some sock → reads_at readers first end.cell end.number ≡ readers place sock
reads_there readers first end place sock c m = ap (λ (o : Option ℕ). reads_at readers first o end.number) c ∙ ap (λ (o : Option ℕ). reads_at readers first (Some place) o) m

-- both ways as before, where the same is read
pub both_read_as : (own : ℕ → ℕ → Address) (known : Names) (one two : ℕ → ℕ → Option Reader) (dues : ℕ → ℕ → Option Due) (socket : WorldSocket) → reads_at two expected.Answer socket.o.cell socket.o.number ≡ reads_at one expected.Answer socket.o.cell socket.o.number
    → reads_at two expected.Request socket.t.cell socket.t.number ≡ reads_at one expected.Request socket.t.cell socket.t.number → BothFlow own known one dues socket → BothFlow own known two dues socket
both_read_as own known one two dues socket o t f = record {
  opener = subst (λ (r : Option Reader). ToOpener r (is_over socket.o) socket.o.unread (writes_at dues socket.t.cell socket.t.number)) (sym o) f.opener;
  target = subst (λ (r : Option Reader). FromOpener own known socket.name socket.o.cell r (is_over socket.t) socket.t.unread (writes_at dues socket.o.cell socket.o.number)) (sym t) f.target;
}

-- ---- one end is fed

flows_fed : (one two : Option Reader) (over : Bool) (unread left bytes since : List ℕ) (due : Option Due) (e : Expected) → one ≡ Some (e, since) → two ≡ Some (e, since ++ bytes) → bytes ++ left ≡ unread → Flows one over unread due → Flows two over left due
flows_fed one two over unread left bytes since due e was now all f = subst (λ (r : Option Reader). Flows r over left due) (sym now) (by_over over (subst (λ (r : Option Reader). Flows r over unread due) was f)) where
  by_over : (b : Bool) → Flows (Some (e, since)) b unread due → Flows (Some (e, since ++ bytes)) b left due
  by_over true f = tt
  by_over false f = record { items = f.items; whole = append_assoc since bytes left ∙ ap (λ (l : List ℕ). since ++ l) all ∙ f.whole; each = f.each; next = f.next }

-- what reads at one end of a socket has these bytes more, and at the other the same
record IsFed (one two : ℕ → ℕ → Option Reader) (which : End) (socket : WorldSocket) (e : Expected) (since bytes : List ℕ) : Type 0 where
  was : reads_at one (first_at which) (end_of which socket).cell (end_of which socket).number ≡ Some (e, since)
  now : reads_at two (first_at which) (end_of which socket).cell (end_of which socket).number ≡ Some (e, since ++ bytes)
  other : (w : End) → same_end which w ≡ false → reads_at two (first_at w) (end_of w socket).cell (end_of w socket).number ≡ reads_at one (first_at w) (end_of w socket).cell (end_of w socket).number

fed_both : (own : ℕ → ℕ → Address) (known : Names) (one two : ℕ → ℕ → Option Reader) (dues : ℕ → ℕ → Option Due) (which : End) (socket : WorldSocket) (e : Expected) (since bytes left : List ℕ) → IsFed one two which socket e since bytes → bytes ++ left ≡ (end_of which socket).unread
    → BothFlow own known one dues socket → BothFlow own known two dues (with_end which (record (end_of which socket) { unread = left }) socket)
fed_both own known one two dues O socket e since bytes left h all f = record {
  opener = record { answers = f.opener.answers; flows = flows_fed (reads_at one expected.Answer socket.o.cell socket.o.number) (reads_at two expected.Answer socket.o.cell socket.o.number) (is_over socket.o) socket.o.unread left bytes since (writes_at dues socket.t.cell socket.t.number) e h.was h.now all f.opener.flows };
  target = subst (λ (r : Option Reader). FromOpener own known socket.name socket.o.cell r (is_over socket.t) socket.t.unread (writes_at dues socket.o.cell socket.o.number)) (sym (h.other T refl)) f.target;
}
fed_both own known one two dues T socket e since bytes left h all f = record {
  opener = subst (λ (r : Option Reader). ToOpener r (is_over socket.o) socket.o.unread (writes_at dues socket.t.cell socket.t.number)) (sym (h.other O refl)) f.opener;
  target = from_any own known socket.name socket.o.cell was now (is_over socket.t) (is_over socket.t) socket.t.unread left due due
      (λ p. asked_still (own p) known socket.name was now (is_over socket.t) (is_over socket.t) socket.t.unread left due (flows_fed was now (is_over socket.t) socket.t.unread left bytes since due e h.was h.now all)) f.target;
} where
  was : Option Reader
  was = reads_at one expected.Request socket.t.cell socket.t.number

  now : Option Reader
  now = reads_at two expected.Request socket.t.cell socket.t.number

  due : Option Due
  due = writes_at dues socket.o.cell socket.o.number

-- ---- an end of a host is fed

-- its number, where it is open
number_of : (which : End) (socket : WorldSocket) → IsKnown socket → is_open (end_of which socket).stage ≡ true → is_some (end_of which socket).cell ≡ true → is_some (end_of which socket).number ≡ true
number_of O socket k o c = subst (λ (s : Stage). OpenerIs s socket.o.cell socket.o.number) (open_is socket.o.stage o) k.o ∙ c where
  open_is : (stage : Stage) → is_open stage ≡ true → stage ≡ Open
  open_is Pending e = absurd cc
  open_is Open e = refl
  open_is Ended e = absurd cc
number_of T socket k o c = (subst (λ (s : Stage). TargetIs s socket.t.cell socket.t.number) (open_is socket.t.stage o) k.t).1 where
  open_is : (stage : Stage) → is_open stage ≡ true → stage ≡ Open
  open_is Pending e = absurd cc
  open_is Open e = refl
  open_is Ended e = absurd cc

pub same_end_gone : (socket old : WorldSocket) (s : SockName) (l : List WorldSocket) → find (is_socket_named s) l ≡ Some socket → find (is_socket_named s) l ≡ Some old → socket ≡ old
same_end_gone socket old s l is f = let both : ◌≡◌ {A = Option WorldSocket} (Some socket) (Some old) = sym is ∙ f in one both where
  one : ◌≡◌ {A = Option WorldSocket} (Some socket) (Some old) → socket ≡ old
  one e = cc

-- the host's record of an open end
record HasOpen (host : HostState) (number : ℕ) : Type 0 where
  socket : Socket
  found : find (is_socket number) host.sockets ≡ Some socket
  stands : is_open socket.stage ≡ true

has_open : (host : HostState) (number : ℕ) (stage : Stage) → stage_at host number ≡ Some stage → is_open stage ≡ true → HasOpen host number
has_open host number stage e o = by_socket (find (is_socket number) host.sockets) refl e where
  by_socket : (f : Option Socket) → find (is_socket number) host.sockets ≡ f → option_map (λ (w : Socket). w.stage) f ≡ Some stage → HasOpen host number
  by_socket None f e = absurd cc
  by_socket (Some socket) f e = record { socket = socket; found = f; stands = ap is_open (one e) ∙ o } where
    one : ◌≡◌ {A = Option Stage} (Some socket.stage) (Some stage) → socket.stage ≡ stage
    one e = cc

not_ended : (stage : Stage) → is_open stage ≡ true → is_ended stage ≡ false
not_ended Pending e = absurd cc
not_ended Open e = refl
not_ended Ended e = absurd cc

not_pending : {A : Type 0} (stage : Stage) → is_open stage ≡ true → is_pending stage ≡ true → A
not_pending Pending e h = absurd cc
not_pending Open e h = absurd cc
not_pending Ended e h = absurd cc

-- the host with the bytes that are fed reads these too, and else the same
record HasMore (before after : HostState) (number : ℕ) (bytes : List ℕ) : Type 0 where
  e : Expected
  since : List ℕ
  was : reader_in (find (is_socket number) before.sockets) ≡ Some (e, since)
  now : reader_in (find (is_socket number) after.sockets) ≡ Some (e, since ++ bytes)
  other : (n : ℕ) → (n == number) ≡ false → find (is_socket n) after.sockets ≡ find (is_socket n) before.sockets
  some : (n : ℕ) → is_some (find (is_socket n) after.sockets) ≡ is_some (find (is_socket n) before.sockets)
  sound : IsSound before → IsSound after

has_more : (host : HostState) (number : ℕ) (bytes : List ℕ) → HasOpen host number → HasMore host (handed (events.Socket (sockets.Fed number bytes)) host) number bytes
has_more host number bytes h = subst (λ (w : HostState). HasMore host w number bytes) (sym is) (record {
  e = h.socket.expected;
  since = h.socket.since;
  was = ap reader_in h.found ∙ ap (λ b. cond b None (Some (h.socket.expected, h.socket.since))) (not_ended h.socket.stage h.stands);
  now = ap reader_in (stored number ∙ ap (λ b. cond b (Some new) (find (is_socket number) host.sockets)) (ap (λ (k : ℕ). k == number) named ∙ number_same number)) ∙ ap (λ b. cond b None (Some (h.socket.expected, h.socket.since ++ bytes))) (not_ended h.socket.stage h.stands);
  other = λ n o. stored n ∙ ap (λ b. cond b (Some new) (find (is_socket n) host.sockets)) (ap (λ (k : ℕ). k == n) named ∙ flip number n ∙ o);
  some = λ n. ap is_some (stored n) ∙ by_some n (new.number == n) refl;
  sound = λ s. (hosts.keeps new h.socket host there refl (λ p. not_pending h.socket.stage h.stands p) s).sound;
}) where
  new : Socket
  new = record h.socket { since = h.socket.since ++ bytes }

  named : h.socket.number ≡ number
  named = hosts.number_found number host.sockets h.socket h.found

  there : find (is_socket h.socket.number) host.sockets ≡ Some h.socket
  there = subst (λ (n : ℕ). find (is_socket n) host.sockets ≡ Some h.socket) (sym named) h.found

  is : handed (events.Socket (sockets.Fed number bytes)) host ≡ with_socket new host
  is = ap (handed_to number bytes host) h.found ∙ ap (λ b. cond b (with_socket new host) host) h.stands

  stored : (n : ℕ) → find (is_socket n) (with_socket new host).sockets ≡ cond (new.number == n) (Some new) (find (is_socket n) host.sockets)
  stored n = hosts.find_stored new host.sockets n

  by_some : (n : ℕ) (b : Bool) → (new.number == n) ≡ b → is_some (cond b (Some new) (find (is_socket n) host.sockets)) ≡ is_some (find (is_socket n) host.sockets)
  by_some n true e = sym (ap is_some (subst (λ (k : ℕ). find (is_socket k) host.sockets ≡ Some h.socket) (number_is h.socket.number n e) there))
  by_some n false e = refl

-- ---- feeding

pub feeds_flown : (own : ℕ → ℕ → Address) (journal : List Line) (log : List Entry) (which : End) (count : ℕ) (socket : WorldSocket) (world : World) → IsIn socket world → is_open (end_of which socket).stage ≡ true → is_of_host (end_of which socket) ≡ true → has_input which socket ≡ true → Sure journal log world → Flowing own world → Flown own (feeds which count socket world)
feeds_flown own journal log which count socket world is stands of input s w = entry_flown own (entries.Fed socket.name which (length bytes)) (hands bytes (end_of which socket) rest) (by_bytes bytes refl) where
  bytes : List ℕ
  bytes = take count (end_of which socket).unread

  left : List ℕ
  left = drop count (end_of which socket).unread

  rest : World
  rest = with_end_of socket.name which (λ end. record end { unread = drop count end.unread }) world

  more : List Entry
  more = log ++ entries.Fed socket.name which (length bytes) ∷ []

  sure : Ends journal more rest
  sure = record {
    sorted = (keeps_sorted journal).fed log world socket which count is stands input tt s.ends.sorted;
    each = each_kept socket.name which (λ end. record end { unread = drop count end.unread }) world (taking (drop count)).place s.ends.each;
    agrees = agrees_still world rest (cells_stay socket.name which (λ end. record end { unread = drop count end.unread }) world)
        (λ p n. quiet_held p n socket.name which (λ end. record end { unread = drop count end.unread }) world socket s.ends.sorted.0.apart s.ends.each is (λ end. (refl, refl)) refl) s.ends.agrees;
  }

  halves : bytes ++ left ≡ (end_of which socket).unread
  halves = take-append-drop count (end_of which socket).unread

  -- nothing is unread: the end of the input is handed to it
  still : bytes ≡ [] → Flowing own rest
  still none = changed_flowing own socket.name which (λ end. record end { unread = drop count end.unread }) world (λ old f b. by_end old (same_end_gone socket old socket.name world.sockets is f) b) w where
    by_which : (e : End) → drop count (end_of e socket).unread ≡ (end_of e socket).unread → BothFlow own world.names (readers_of world.cells) (dues_of world.cells) socket → BothFlow own world.names (readers_of world.cells) (dues_of world.cells) (with_end e (record (end_of e socket) { unread = drop count (end_of e socket).unread }) socket)
    by_which O h f = record { opener = subst (λ (l : List ℕ). ToOpener (reads_at (readers_of world.cells) expected.Answer socket.o.cell socket.o.number) (is_over socket.o) l (writes_at (dues_of world.cells) socket.t.cell socket.t.number)) (sym h) f.opener; target = f.target }
    by_which T h f = record { opener = f.opener; target = subst (λ (l : List ℕ). FromOpener own world.names socket.name socket.o.cell (reads_at (readers_of world.cells) expected.Request socket.t.cell socket.t.number) (is_over socket.t) l (writes_at (dues_of world.cells) socket.o.cell socket.o.number)) (sym h) f.target }

    by_end : (old : WorldSocket) → socket ≡ old → BothFlow own world.names (readers_of world.cells) (dues_of world.cells) old → BothFlow own world.names (readers_of world.cells) (dues_of world.cells) (with_end which (record (end_of which old) { unread = drop count (end_of which old).unread }) old)
    by_end old e = subst (λ (v : WorldSocket). BothFlow own world.names (readers_of world.cells) (dues_of world.cells) v → BothFlow own world.names (readers_of world.cells) (dues_of world.cells) (with_end which (record (end_of which v) { unread = drop count (end_of which v).unread }) v)) e (by_which which (ap (λ (l : List ℕ). l ++ left) (sym none) ∙ halves))

  cells_same : rest.cells ≡ world.cells
  cells_same = cells_stay socket.name which (λ end. record end { unread = drop count end.unread }) world

  fed_at : (place number : ℕ) (cell : Cell × ℕ) → (end_of which socket).cell ≡ Some place → (end_of which socket).number ≡ Some number → slice_get world.cells place ≡ Some cell → Given own journal more rest place cell (events.Socket (sockets.Fed number bytes))
  fed_at place number cell c m at = record {
    at = ap (λ (l : List (Cell × ℕ)). slice_get l place) cells_same ∙ at;
    sorted = sure.sorted;
    each = sure.each;
    orderly = λ p x f. w.orderly p x (ap (λ (l : List (Cell × ℕ)). slice_get l p) (sym cells_same) ∙ f);
    sound = has.sound (s.ends.agrees.sound place cell at);
    comes = tt;
    there = λ n. has.some n ∙ is_some_map (λ (v : Socket). v.stage) (find (is_socket n) cell.0.host.sockets) ∙ ap is_some (sure.agrees.ends place cell (ap (λ (l : List (Cell × ℕ)). slice_get l place) cells_same ∙ at) n);
    flow = subst (λ (known : Names). AllFlow own known (given_readers place now rest.cells) (given_dues place (due_at cell.0.host) rest.cells) rest.sockets) (sym (end_names socket.name which (λ end. record end { unread = drop count end.unread }) world))
        (subst (λ (l : List (Cell × ℕ)). AllFlow own world.names (given_readers place now l) (given_dues place (due_at cell.0.host) l) rest.sockets) (sym cells_same)
        (all_as own world.names two (dues_of world.cells) (given_dues place (due_at cell.0.host) world.cells) rest.sockets (dues_there world.cells place cell at) fed));
  } where
    stage : stage_held place number world.sockets ≡ Some (end_of which socket).stage
    stage = its_stage journal log world socket which place number s is c m

    now : HostState
    now = handed (events.Socket (sockets.Fed number bytes)) cell.0.host

    has : HasMore cell.0.host now number bytes
    has = has_more cell.0.host number bytes (has_open cell.0.host number (end_of which socket).stage (s.ends.agrees.ends place cell at number ∙ stage) stands)

    one : ℕ → ℕ → Option Reader
    one = readers_of world.cells

    two : ℕ → ℕ → Option Reader
    two = given_readers place now world.cells

    here : {A : Type 0} (x y : A) → cond (place == place) x y ≡ x
    here x y = ap (λ b. cond b x y) (number_same place)

    else : ReadElsewhere place number one two
    else p n h = by_tests (place == p) refl (n == number) refl (ap (λ b. b && (n == number)) (flip place p) ∙ h) where
      by_tests : (a : Bool) → (place == p) ≡ a → (b : Bool) → (n == number) ≡ b → (a && b) ≡ false → cond a (reader_in (find (is_socket n) now.sockets)) (one p n) ≡ one p n
      by_tests true g true k h = absurd cc
      by_tests true g false k h = ap reader_in (has.other n k) ∙ sym (ap (λ b. cond b (reader_in (find (is_socket n) cell.0.host.sockets)) (one p n)) g) ∙ readers_there world.cells place cell at p n
      by_tests false g b k h = refl

    found : find_end place number world.sockets ≡ Some (socket.name, which)
    found = s.ends.each socket.name socket which place number is (its_place (end_of which socket) place number c m place number ∙ ap (λ b. b && (number == number)) (number_same place) ∙ number_same number)

    was_here : one place number ≡ Some (has.e, has.since)
    was_here = sym (readers_there world.cells place cell at place number) ∙ here (reader_in (find (is_socket number) cell.0.host.sockets)) (one place number) ∙ has.was

    is_fed : IsFed one two which socket has.e has.since bytes
    is_fed = record {
      was = reads_there one (first_at which) (end_of which socket) place number c m ∙ was_here;
      now = reads_there two (first_at which) (end_of which socket) place number c m ∙ here (reader_in (find (is_socket number) now.sockets)) (one place number) ∙ has.now;
      other = λ e h. reads_elsewhere place number one two (first_at e) (end_of e socket) else (other_end_there place number world.sockets (socket.name, which) socket e s.ends.each found is h);
    }

    fed : AllFlow own world.names two (dues_of world.cells) rest.sockets
    fed = end_flow own world.names two (dues_of world.cells) socket.name which (λ end. record end { unread = drop count end.unread }) world
        (λ old f. subst (λ (v : WorldSocket). BothFlow own world.names two (dues_of world.cells) (with_end which (record (end_of which v) { unread = drop count (end_of which v).unread }) v)) (same_end_gone socket old socket.name world.sockets is f)
        (fed_both own world.names one two (dues_of world.cells) which socket has.e has.since bytes left is_fed halves (w.flow socket.name socket is)))
        (λ t other h f. elsewhere t other h f) where
          name_in : Option (SockName × End) → SockName
          name_in None = socket.name
          name_in (Some a) = a.0

          gone : (t : SockName) (e : End) → same_socket socket.name t ≡ false → find_end place number world.sockets ≡ Some (t, e) → ⊥
          gone t e h f = let same : socket.name ≡ t = ap name_in (sym found ∙ f) in let yes : same_socket socket.name t ≡ true = subst (λ (k : SockName). same_socket socket.name k ≡ true) same (self_same socket.name) in absurd cc

          elsewhere : (t : SockName) (other : WorldSocket) → same_socket socket.name t ≡ false → find (is_socket_named t) world.sockets ≡ Some other → BothFlow own world.names two (dues_of world.cells) other
          elsewhere t other h f = both_read_as own world.names one two (dues_of world.cells) other
              (reads_elsewhere place number one two expected.Answer other.o else (not_found place number world.sockets t other O s.ends.each f (gone t O h)))
              (reads_elsewhere place number one two expected.Request other.t else (not_found place number world.sockets t other T s.ends.each f (gone t T h))) (w.flow t other f)

  by_cell : (place number : ℕ) → (end_of which socket).cell ≡ Some place → (end_of which socket).number ≡ Some number → (o : Option (Cell × ℕ)) → slice_get rest.cells place ≡ o → Flown own (elim o as (λ o. Answered) [
    | None ↦ Ok ((verdicts.Nothing, []), rest)
    | Some cell ↦ cell_told place cell rest (cell_step cell.0 (events.Socket (sockets.Fed number bytes)))
  ])
  by_cell place number c m None at =
      let held = its_stage journal log world socket which place number s is c m in
      let gone = s.ends.agrees.nowhere place number (ap (λ (l : List (Cell × ℕ)). slice_get l place) (sym cells_same) ∙ at) in absurd cc
  by_cell place number c m (Some cell) at = given_flown own journal more rest place cell (events.Socket (sockets.Fed number bytes)) (fed_at place number cell c m (ap (λ (l : List (Cell × ℕ)). slice_get l place) (sym cells_same) ∙ at))
      (λ after verdict told e n. subst (λ (o : Option Stage). AreNewTo n (steps_in told) o) (sure.agrees.ends place cell at n) ((cells.cell_told cell.0 after (events.Socket (sockets.Fed number bytes)) verdict told refl (sure.agrees.sound place cell at) e).new n))

  by_end : (c n : Option ℕ) → (end_of which socket).cell ≡ c → (end_of which socket).number ≡ n → is_some c ≡ true → is_some n ≡ true → Flown own (elim c as (λ o. Answered) [
    | None ↦ Ok ((verdicts.Nothing, []), rest)
    | Some place ↦ elim n [
      | None ↦ Ok ((verdicts.Nothing, []), rest)
      | Some number ↦ cell_hears place (events.Socket (sockets.Fed number bytes)) rest
    ]
  ])
  by_end None n c m h k = absurd cc
  by_end (Some place) None c m h k = absurd cc
  by_end (Some place) (Some number) c m h k = by_cell place number c m (slice_get rest.cells place) refl

  by_bytes : (l : List ℕ) → bytes ≡ l → Flown own (hands l (end_of which socket) rest)
  by_bytes [] e = end_hears_flown own journal more (end_of which socket) (λ sock. sockets.Ended sock) rest (λ n. record { hands = λ host. refl; dues = λ n due. refl; comes = λ host. tt; opens = refl }) sure (still e)
  by_bytes (b ∷ l) e = subst (λ (k : List ℕ). Flown own (end_hears (end_of which socket) (λ sock. sockets.Fed sock k) rest)) e
      (by_end (end_of which socket).cell (end_of which socket).number refl refl of (number_of which socket (s.ends.sorted.1 socket.name socket is) stands of))
