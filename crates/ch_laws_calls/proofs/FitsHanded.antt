-- What is handed to a host keeps that what is unread fits: a target's end that comes, and bytes that are fed.
use Rattle.std.proofs.Common.{◌≡◌, ◌⊎◌, inl, inr, ◌≤◌, ℕ, ◌+◌, ◌*◌, Bool, true, false, cond, ◌&&◌, ◌||◌, List, [], ◌∷◌, ◌++◌, take, drop, Ok, refl, sym, ap, ◌∙◌, subst, append_assoc, arith}
use Rattle.std.proofs.lemmas.Bool.{and_parts}
use Rattle.std.proofs.lemmas.List.{take-append-drop}
use Rattle.std.specs.Option.{option_map}
use Rattle.std.specs.Prelude.{find, slice_get, slice_set, Option, Some, None, ◌==◌}
use Rattle.ch_reader.specs.Items.{MayFollow}
use Rattle.ch_reader.specs.declared.item.Expected.{Expected}
use Rattle.ch_reader.specs.declared.item.Expected.TheVariants as expected
use Rattle.ch_model.specs.declared.entry.Entry.{Entry}
use Rattle.ch_model.specs.declared.line.Line.{Line}
use Rattle.ch_model.specs.declared.name.End.{End}
use Rattle.ch_model.specs.declared.name.End.TheVariants.{O, T}
use Rattle.ch_model.specs.declared.name.SockName.{SockName}
use Rattle.ch_model.specs.declared.step.SocketEvent.TheVariants as sockets
use Rattle.ch_model.specs.declared.step.Step.{Step}
use Rattle.ch_model.specs.Host.{accepted, keeps, host_on}
use Rattle.ch_model.specs.HostState.{Link, Socket, HostState}
use Rattle.ch_model.specs.HostSteps.{Stepped, still, is_socket, with_socket}
use Rattle.ch_model.specs.NodeState.{NodeState}
use Rattle.ch_model.specs.Same.{same_socket, same_end}
use Rattle.ch_model.specs.Stages.{Stage, Pending, Open, Ended, is_pending, is_open, is_ended}
use Rattle.ch_model.specs.WorldHappenings.{with_cell}
use Rattle.ch_model.specs.WorldLines.{can_come, can_feed, is_at_work}
use Rattle.ch_model.specs.WorldSockets.{end_of, other, with_end, opened, is_of_host, has_input, is_socket_named, same_number, is_end_of, find_end}
use Rattle.ch_model.specs.WorldState.{Cell, WorldEnd, WorldSocket, World}
use Rattle.ch_laws_bytes.specs.Streams.{Reader, reader_in, reader_at, readers_of, reads_at, first_at, is_over, reader_of}
use Rattle.ch_laws_bytes.proofs.Event.{set_at}
use Rattle.ch_laws_bytes.proofs.Sockets.{flip, not_found, other_end_there}
use Rattle.ch_laws_bytes.proofs.Told.{end_names}
use Rattle.ch_laws_calls.specs.Calls.{with_host, done_at, IsCalled, IsIn, IsHeldBy, come_in, fed_in}
use Rattle.ch_laws_calls.specs.Sound.{Sound}
use Rattle.ch_laws_calls.specs.Tables.{Table, frames_on}
use Rattle.ch_laws_ends.proofs.Changes.{cells_stay}
use Rattle.ch_laws_ends.proofs.Found.{EachFound, none_found}
use Rattle.ch_laws_ends.proofs.Happen.{its_stage}
use Rattle.ch_laws_ends.proofs.Known.{TargetIs}
use Rattle.ch_laws_ends.proofs.Places.{got_same, set_twice}
use Rattle.ch_laws_links.proofs.Says.{risen}
use Rattle.ch_laws_log.proofs.HostTold.{number_found, find_stored}
use Rattle.ch_laws_log.proofs.Stored.{number_is, number_same, self_same}
use Rattle.ch_laws_calls.specs.FitsFit.{up_on, ids_of, given_at, final_in, final_there, start_there, final_for, start_for, final_of, start_of, frames_in, Leads, FitAt, MayAskWell, EndFits, Fit}
use Rattle.ch_laws_calls.proofs.FitsSockets.{IsChanged, IsAnother, changed_or}
use Rattle.ch_laws_calls.proofs.FitsTold.{end_kept, asked_before, hosts_hold}
use Rattle.ch_laws_calls.proofs.FitsUps.{none_up}

-- ---- the same text

-- the same items are read, of the same bytes
abbrev SameText : Option Reader → List ℕ → Option Reader → List ℕ → Type 0
SameText before unread None left = Unit {0}
SameText None unread (Some now) left = ⊥
SameText (Some reader) unread (Some now) left = (now.0 ≡ reader.0) × (now.1 ++ left ≡ reader.1 ++ unread)

text_same : (reader : Option Reader) (unread : List ℕ) → SameText reader unread reader unread
text_same None unread = tt
text_same (Some reader) unread = (refl, refl)

fit_moved : (before now : Option Reader) (over : Bool) (unread left : List ℕ) (start next : Table) (final after : Option Table) → SameText before unread now left → next ≡ start → after ≡ final → FitAt before over unread start final → FitAt now over left next after
fit_moved before None over unread left start next final after t s f fit = tt
fit_moved before (Some now) true unread left start next final after t s f fit = tt
fit_moved None (Some now) false unread left start next final after t s f fit = absurd t
fit_moved (Some reader) (Some now) false unread left start next final after t s f fit = λ all whole each. subst (λ (x : Option Table). Leads x (frames_on (frames_in all) next)) (sym f) (subst (λ (x : Table). Leads final (frames_on (frames_in all) x)) (sym s) (fit all (sym t.1 ∙ whole) (subst (λ (e : Expected). MayFollow e all) t.0 each)))

-- ---- a host that keeps another record

and_off : (a b : Bool) → (a && b) ≡ false → a ≡ true → b ≡ false
and_off true b h e = h
and_off false b h e = absurd cc

-- what is so of each cell, where one is another now
slot_same : {A : Type 0} (f : Option (Cell × ℕ) → A) (cells : List (Cell × ℕ)) (place : ℕ) (cell now : Cell × ℕ) (p : ℕ) → slice_get cells place ≡ Some cell → ((place == p) ≡ true → f (Some now) ≡ f (Some cell)) → f (slice_get (slice_set cells place now) p) ≡ f (slice_get cells p)
slot_same f cells place cell now p at same = ap f (set_at cells place cell now p at) ∙ by_test (place == p) refl where
  by_test : (b : Bool) → (place == p) ≡ b → f (cond b (Some now) (slice_get cells p)) ≡ f (slice_get cells p)
  by_test true h = same h ∙ ap f (sym (ap (slice_get cells) (sym (number_is place p h)) ∙ at))
  by_test false h = refl

-- the cell with that record kept
abbrev keeping : Cell × ℕ → Socket → ℕ → Cell × ℕ
keeping cell kept count = (with_host cell (with_socket kept cell.0.host), count)

start_same : (cells : List (Cell × ℕ)) (place : ℕ) (cell : Cell × ℕ) (kept : Socket) (count : ℕ) (c m : Option ℕ) → slice_get cells place ≡ Some cell → start_for (slice_set cells place (keeping cell kept count)) c m ≡ start_for cells c m
start_same cells place cell kept count None m at = refl
start_same cells place cell kept count (Some p) None at = refl
start_same cells place cell kept count (Some p) (Some n) at = slot_same (λ (o : Option (Cell × ℕ)). start_there o n) cells place cell (keeping cell kept count) p at (λ h. refl)

found_off : (host : HostState) (kept : Socket) (n : ℕ) → (n == kept.number) ≡ false → find (is_socket n) (with_socket kept host).sockets ≡ find (is_socket n) host.sockets
found_off host kept n off = find_stored kept host.sockets n ∙ ap (λ b. cond b (Some kept) (find (is_socket n) host.sockets)) (flip kept.number n ∙ off)

reads_off : (cells : List (Cell × ℕ)) (place : ℕ) (cell : Cell × ℕ) (kept : Socket) (count : ℕ) (first : Expected) (c m : Option ℕ) → slice_get cells place ≡ Some cell → (same_number c place && same_number m kept.number) ≡ false → reads_at (readers_of (slice_set cells place (keeping cell kept count))) first c m ≡ reads_at (readers_of cells) first c m
reads_off cells place cell kept count first None m at off = refl
reads_off cells place cell kept count first (Some p) None at off = refl
reads_off cells place cell kept count first (Some p) (Some n) at off = slot_same (λ (o : Option (Cell × ℕ)). reader_at o n) cells place cell (keeping cell kept count) p at (λ h. ap reader_in (found_off cell.0.host kept n (and_off (p == place) (n == kept.number) off (flip p place ∙ h))))

final_off : (cells : List (Cell × ℕ)) (place : ℕ) (cell : Cell × ℕ) (kept : Socket) (count : ℕ) (c m : Option ℕ) → slice_get cells place ≡ Some cell → (same_number c place && same_number m kept.number) ≡ false → final_for (slice_set cells place (keeping cell kept count)) c m ≡ final_for cells c m
final_off cells place cell kept count None m at off = refl
final_off cells place cell kept count (Some p) None at off = refl
final_off cells place cell kept count (Some p) (Some n) at off = slot_same (λ (o : Option (Cell × ℕ)). final_there o n) cells place cell (keeping cell kept count) p at (λ h. ap (λ (o : Option Socket). final_in o (given_at cell.0.host n)) (found_off cell.0.host kept n (and_off (p == place) (n == kept.number) off (flip p place ∙ h))))

-- an end that isn't of it fits as it did, where the other end isn't of it either
off_fits : (journal : List Line) (world after : World) (place : ℕ) (cell : Cell × ℕ) (kept : Socket) (count : ℕ) (socket : WorldSocket) (e : End) → slice_get world.cells place ≡ Some cell → after.cells ≡ slice_set world.cells place (keeping cell kept count) → ((x : End) → is_end_of place kept.number (end_of x socket) ≡ false) → EndFits journal world socket e → EndFits journal after socket e
off_fits journal world after place cell kept count socket e at cells off fit = fit_moved (reader_of world socket e) (reader_of after socket e) (is_over (end_of e socket)) (end_of e socket).unread (end_of e socket).unread (start_of world socket e) (start_of after socket e) (final_of world socket (other e)) (final_of after socket (other e))
    (subst (λ (r : Option Reader). SameText (reader_of world socket e) (end_of e socket).unread r (end_of e socket).unread) (sym (ap (λ (cs : List (Cell × ℕ)). reads_at (readers_of cs) (first_at e) (end_of e socket).cell (end_of e socket).number) cells ∙ reads_off world.cells place cell kept count (first_at e) (end_of e socket).cell (end_of e socket).number at (off e))) (text_same (reader_of world socket e) (end_of e socket).unread))
    (ap (λ (cs : List (Cell × ℕ)). start_for cs (end_of e socket).cell (end_of e socket).number) cells ∙ start_same world.cells place cell kept count (end_of e socket).cell (end_of e socket).number at)
    (ap (λ (cs : List (Cell × ℕ)). final_for cs (end_of (other e) socket).cell (end_of (other e) socket).number) cells ∙ final_off world.cells place cell kept count (end_of (other e) socket).cell (end_of (other e) socket).number at (off (other e)))
    fit

-- ---- a target's end comes

came_kept : (journal : List Line) (log more : List Entry) (world : World) (socket : WorldSocket) (place : ℕ) (cell : Cell × ℕ) → IsIn socket world → is_pending socket.t.stage ≡ true → socket.t.cell ≡ Some place → slice_get world.cells place ≡ Some cell → Sound journal log world → Fit journal log world
    → Fit journal more (done_at place (cell.0, cell.1 + 1) [] (with_socket (accepted (2 * cell.1 + 1) socket.from_host) cell.0.host) (come_in place cell socket world)).1
came_kept journal log more world socket place cell is pending at_cell at p j = record {
  hosts = hosts_hold world after place cell (keeping cell kept (cell.1 + 1)) at cells j.hosts (j.hosts place cell at);
  ends = λ s w e found may. by_change s w e may (changed_or socket.name T comes (with_cell place (cell.0, cell.1 + 1) world) s w found);
} where
  number : ℕ
  number = 2 * cell.1 + 1

  kept : Socket
  kept = accepted number socket.from_host

  comes : WorldEnd → WorldEnd
  comes end = record (opened end) { number = Some number }

  after : World
  after = (done_at place (cell.0, cell.1 + 1) [] (with_socket kept cell.0.host) (come_in place cell socket world)).1

  cells : after.cells ≡ slice_set world.cells place (keeping cell kept (cell.1 + 1))
  cells = ap (λ (l : List (Cell × ℕ)). slice_set l place (keeping cell kept (cell.1 + 1))) (cells_stay socket.name T comes (with_cell place (cell.0, cell.1 + 1) world)) ∙ set_twice world.cells place (cell.0, cell.1 + 1) (keeping cell kept (cell.1 + 1))

  names : after.names ≡ world.names
  names = end_names socket.name T comes (with_cell place (cell.0, cell.1 + 1) world)

  self : (n : ℕ) → n ≤ n
  self n = omega arith

  nowhere : find_end place number world.sockets ≡ None
  nowhere = none_found place number world.sockets (p.ends.sure.ends.agrees.accepted place cell at cell.1 (self cell.1))

  off : (s : SockName) (w : WorldSocket) (x : End) → find (is_socket_named s) world.sockets ≡ Some w → is_end_of place number (end_of x w) ≡ false
  off s w x found = not_found place number world.sockets s w x p.ends.sure.ends.each found (λ h. clash (sym nowhere ∙ h)) where
    clash : ◌≡◌ {A = Option (SockName × End)} None (Some (s, x)) → ⊥
    clash h = cc

  before : (s : SockName) (w one : WorldSocket) → w.name ≡ one.name → w.o.cell ≡ one.o.cell → MayAskWell journal after w → MayAskWell journal world one
  before s w one name same may = asked_before journal world after one w names name same may

  none : up_on number cell.0.host.links ≡ None
  none = none_up cell.0.host number (p.links.naming place cell at).naming (λ end peer probed e. let one = risen cell.0.host end peer number probed (p.links.naming place cell at).naming e in
      let no : ◌≡◌ {A = Option Socket} None (Some one.0) = sym ((p.links.naming place cell at).free cell.1 (self cell.1)) ∙ one.1 in absurd cc)

  -- its number is none yet
  unnumbered : socket.t.number ≡ None
  unnumbered = by_stage socket.t.stage pending (p.ends.sure.ends.sorted.1 socket.name socket is).t where
    by_stage : (stage : Stage) → is_pending stage ≡ true → TargetIs stage socket.t.cell socket.t.number → socket.t.number ≡ None
    by_stage Pending e k = k.1
    by_stage Open e k = absurd cc
    by_stage Ended e k = absurd cc

  come : WorldSocket
  come = with_end T (comes socket.t) socket

  here : slice_get after.cells place ≡ Some (keeping cell kept (cell.1 + 1))
  here = ap (λ (l : List (Cell × ℕ)). slice_get l place) cells ∙ got_same world.cells place cell (keeping cell kept (cell.1 + 1)) at

  there : find (is_socket number) (with_socket kept cell.0.host).sockets ≡ Some kept
  there = find_stored kept cell.0.host.sockets number ∙ ap (λ b. cond b (Some kept) (find (is_socket number) cell.0.host.sockets)) (number_same number)

  come_fits : (e : End) → MayAskWell journal world socket → EndFits journal after come e
  come_fits O may = fit_moved (reader_of world socket O) (reader_of after come O) (is_over socket.o) socket.o.unread socket.o.unread (start_of world socket O) (start_of after come O) (final_of world socket T) (final_of after come T)
      (subst (λ (r : Option Reader). SameText (reader_of world socket O) socket.o.unread r socket.o.unread) (sym (ap (λ (cs : List (Cell × ℕ)). reads_at (readers_of cs) expected.Answer socket.o.cell socket.o.number) cells ∙ reads_off world.cells place cell kept (cell.1 + 1) expected.Answer socket.o.cell socket.o.number at (off socket.name socket O is))) (text_same (reader_of world socket O) socket.o.unread))
      (ap (λ (cs : List (Cell × ℕ)). start_for cs socket.o.cell socket.o.number) cells ∙ start_same world.cells place cell kept (cell.1 + 1) socket.o.cell socket.o.number at)
      (ap (λ (c : Option ℕ). final_for after.cells c (Some number)) at_cell ∙ ap (λ (o : Option (Cell × ℕ)). final_there o number) here ∙ ap (λ (o : Option Socket). final_in o (given_at cell.0.host number)) there ∙ ap (λ (o : Option Link). Some (ids_of (λ link. link.given) o)) none ∙ sym (ap (λ (c : Option ℕ). final_for world.cells c socket.t.number) at_cell ∙ ap (final_for world.cells (Some place)) unnumbered))
      (j.ends socket.name socket O is may)
  come_fits T may = fit_moved (reader_of world socket T) (reader_of after come T) (is_over come.t) socket.t.unread socket.t.unread (start_of world socket T) (start_of after come T) (final_of world socket O) (final_of after come O)
      (subst (λ (r : Option Reader). SameText r socket.t.unread (reader_of after come T) socket.t.unread) (sym reader_was) (subst (λ (r : Option Reader). SameText (Some (expected.Request, [])) socket.t.unread r socket.t.unread) (sym reader_is) (refl, refl)))
      (ap (λ (c : Option ℕ). start_for after.cells c (Some number)) at_cell ∙ ap (λ (o : Option (Cell × ℕ)). start_there o number) here ∙ ap (ids_of (λ link. link.created)) none ∙ sym (ap (λ (c : Option ℕ). start_for world.cells c socket.t.number) at_cell ∙ ap (start_for world.cells (Some place)) unnumbered))
      (ap (λ (cs : List (Cell × ℕ)). final_for cs socket.o.cell socket.o.number) cells ∙ final_off world.cells place cell kept (cell.1 + 1) socket.o.cell socket.o.number at (off socket.name socket O is))
      (subst (λ (b : Bool). FitAt (reader_of world socket T) b socket.t.unread (start_of world socket T) (final_of world socket O)) (over_is socket.t.stage pending) (j.ends socket.name socket T is may))
    where
      reader_was : reader_of world socket T ≡ Some (expected.Request, [])
      reader_was = ap (λ (c : Option ℕ). reads_at (readers_of world.cells) expected.Request c socket.t.number) at_cell ∙ ap (reads_at (readers_of world.cells) expected.Request (Some place)) unnumbered

      reader_is : reader_of after come T ≡ Some (expected.Request, [])
      reader_is = ap (λ (c : Option ℕ). reads_at (readers_of after.cells) expected.Request c (Some number)) at_cell ∙ ap (λ (o : Option (Cell × ℕ)). reader_at o number) here ∙ ap reader_in there

      over_is : (stage : Stage) → is_pending stage ≡ true → (is_ended stage || socket.t.is_cut) ≡ (false || socket.t.is_cut)
      over_is Pending e = refl
      over_is Open e = refl
      over_is Ended e = absurd cc

  by_change : (s : SockName) (w : WorldSocket) (e : End) → MayAskWell journal after w → IsChanged socket.name T comes (with_cell place (cell.0, cell.1 + 1) world) s w ⊎ IsAnother socket.name (with_cell place (cell.0, cell.1 + 1) world) s w → EndFits journal after w e
  by_change s w e may (inl c) = subst (λ (v : WorldSocket). EndFits journal after v e) come_is (come_fits e (before s w socket (ap (λ (v : WorldSocket). v.name) (sym come_is)) (ap (λ (v : WorldSocket). v.o.cell) (sym come_is)) may)) where
    old_is : socket ≡ c.old
    old_is = let same : ◌≡◌ {A = Option WorldSocket} (Some socket) (Some c.old) = sym is ∙ c.found in cc

    come_is : come ≡ w
    come_is = ap (λ (v : WorldSocket). with_end T (comes v.t) v) old_is ∙ c.is
  by_change s w e may (inr a) = off_fits journal world after place cell kept (cell.1 + 1) w e at cells (λ x. off s w x a.found) (j.ends s w e a.found (before s w w refl refl may))

pub came_fits : (journal : List Line) (log more : List Entry) (world : World) (socket : WorldSocket) (place : ℕ) (cell : Cell × ℕ) (told : List Step) (host : HostState) → IsIn socket world → can_come socket ≡ true → socket.t.cell ≡ Some place → IsCalled world place cell (sockets.Came (2 * cell.1 + 1) socket.from_host) told host → Sound journal log world → Fit journal log world
    → Fit journal more (done_at place (cell.0, cell.1 + 1) told host (come_in place cell socket world)).1
unfolding host_on
came_fits journal log more world socket place cell told host is can at_cell c p j = as_done (Ok ([], now)) c.does (came_kept journal log more world socket place cell is can at_cell c.at p j) where
  now : HostState
  now = with_socket (accepted (2 * cell.1 + 1) socket.from_host) cell.0.host

  told_in : Stepped → List Step
  told_in (Ok done) = done.0
  told_in done = told

  host_in : Stepped → HostState
  host_in (Ok done) = done.1
  host_in done = host

  as_done : (done : Stepped) → done ≡ Ok (told, host) → Fit journal more (done_at place (cell.0, cell.1 + 1) (told_in done) (host_in done) (come_in place cell socket world)).1 → Fit journal more (done_at place (cell.0, cell.1 + 1) told host (come_in place cell socket world)).1
  as_done done e f = subst (λ (d : Stepped). Fit journal more (done_at place (cell.0, cell.1 + 1) (told_in d) (host_in d) (come_in place cell socket world)).1) e f

-- ---- bytes are fed

-- the record that a host keeps with the bytes
abbrev with_bytes : Socket → List ℕ → Socket
with_bytes known bytes = record known { since = known.since ++ bytes }

-- an end that is fed, whose host keeps that
record IsFed (world : World) (socket : WorldSocket) (which : End) (place n : ℕ) (cell : Cell × ℕ) (known : Socket) : Type 0 where
  at : slice_get world.cells place ≡ Some cell
  is : find (is_socket_named socket.name) world.sockets ≡ Some socket
  held : IsHeldBy place n (end_of which socket)
  kept : find (is_socket n) cell.0.host.sockets ≡ Some known
  each : EachFound world.sockets

of_end : (place n : ℕ) (end : WorldEnd) → IsHeldBy place n end → is_end_of place n end ≡ true
of_end place n end h = ap (λ (c : Option ℕ). same_number c place && same_number end.number n) h.cell ∙ ap (λ (m : Option ℕ). same_number (Some place) place && same_number m n) h.number ∙ ap (λ b. b && (n == n)) (number_same place) ∙ number_same n

final_kept : (cells : List (Cell × ℕ)) (place n : ℕ) (cell : Cell × ℕ) (known : Socket) (bytes : List ℕ) (count : ℕ) (c m : Option ℕ) → slice_get cells place ≡ Some cell → find (is_socket n) cell.0.host.sockets ≡ Some known → final_for (slice_set cells place (keeping cell (with_bytes known bytes) count)) c m ≡ final_for cells c m
final_kept cells place n cell known bytes count None m at found = refl
final_kept cells place n cell known bytes count (Some p) None at found = refl
final_kept cells place n cell known bytes count (Some p) (Some k) at found = slot_same (λ (o : Option (Cell × ℕ)). final_there o k) cells place cell (keeping cell (with_bytes known bytes) count) p at (λ h. ap (λ (o : Option Socket). final_in o (given_at cell.0.host k)) (find_stored (with_bytes known bytes) cell.0.host.sockets k) ∙ by_test (known.number == k) refl) where
  by_test : (b : Bool) → (known.number == k) ≡ b → final_in (cond b (Some (with_bytes known bytes)) (find (is_socket k) cell.0.host.sockets)) (given_at cell.0.host k) ≡ final_in (find (is_socket k) cell.0.host.sockets) (given_at cell.0.host k)
  by_test true h =
      let here : n ≡ k = sym (number_found n cell.0.host.sockets known found) ∙ number_is known.number k h in
      ap (λ (o : Option Socket). final_in o (given_at cell.0.host k)) (sym (ap (λ (m : ℕ). find (is_socket m) cell.0.host.sockets) (sym here) ∙ found))
  by_test false h = refl

fed_kept : (journal : List Line) (log more : List Entry) (world : World) (socket : WorldSocket) (which : End) (count : ℕ) (place n : ℕ) (cell : Cell × ℕ) (known : Socket) → IsFed world socket which place n cell known → Fit journal log world
    → Fit journal more (done_at place cell [] (with_socket (with_bytes known (take count (end_of which socket).unread)) cell.0.host) (fed_in which count socket world)).1
fed_kept journal log more world socket which count place n cell known f j = record {
  hosts = hosts_hold world after place cell now f.at cells j.hosts (j.hosts place cell f.at);
  ends = λ s w e found may. by_change s w e may (changed_or socket.name which feeds world s w found);
} where
  bytes : List ℕ
  bytes = take count (end_of which socket).unread

  kept : Socket
  kept = with_bytes known bytes

  now : Cell × ℕ
  now = keeping cell kept cell.1

  feeds : WorldEnd → WorldEnd
  feeds end = record end { unread = drop count end.unread }

  after : World
  after = (done_at place cell [] (with_socket kept cell.0.host) (fed_in which count socket world)).1

  cells : after.cells ≡ slice_set world.cells place now
  cells = ap (λ (l : List (Cell × ℕ)). slice_set l place now) (cells_stay socket.name which feeds world)

  names : after.names ≡ world.names
  names = end_names socket.name which feeds world

  number : known.number ≡ n
  number = number_found n cell.0.host.sockets known f.kept

  found_end : find_end place n world.sockets ≡ Some (socket.name, which)
  found_end = f.each socket.name socket which place n f.is (of_end place n (end_of which socket) f.held)

  as_kept : (end : WorldEnd) → is_end_of place n end ≡ false → is_end_of place kept.number end ≡ false
  as_kept end off = subst (λ (m : ℕ). is_end_of place m end ≡ false) (sym number) off

  start_is : (c m : Option ℕ) → start_for after.cells c m ≡ start_for world.cells c m
  start_is c m = ap (λ (cs : List (Cell × ℕ)). start_for cs c m) cells ∙ start_same world.cells place cell kept cell.1 c m f.at

  final_is : (c m : Option ℕ) → final_for after.cells c m ≡ final_for world.cells c m
  final_is c m = ap (λ (cs : List (Cell × ℕ)). final_for cs c m) cells ∙ final_kept world.cells place n cell known bytes cell.1 c m f.at f.kept

  -- what is read elsewhere is the same
  text_off : (first : Expected) (end : WorldEnd) → is_end_of place n end ≡ false → SameText (reads_at (readers_of world.cells) first end.cell end.number) end.unread (reads_at (readers_of after.cells) first end.cell end.number) end.unread
  text_off first end off = subst (λ (r : Option Reader). SameText (reads_at (readers_of world.cells) first end.cell end.number) end.unread r end.unread) (sym (ap (λ (cs : List (Cell × ℕ)). reads_at (readers_of cs) first end.cell end.number) cells ∙ reads_off world.cells place cell kept cell.1 first end.cell end.number f.at (as_kept end off)))
      (text_same (reads_at (readers_of world.cells) first end.cell end.number) end.unread)

  here : slice_get after.cells place ≡ Some now
  here = ap (λ (l : List (Cell × ℕ)). slice_get l place) cells ∙ got_same world.cells place cell now f.at

  there : find (is_socket n) (with_socket kept cell.0.host).sockets ≡ Some kept
  there = find_stored kept cell.0.host.sockets n ∙ ap (λ b. cond b (Some kept) (find (is_socket n) cell.0.host.sockets)) (subst (λ (m : ℕ). (m == n) ≡ true) (sym number) (number_same n))

  -- what is fed is read with what is unread
  text_fed : (first : Expected) (end : WorldEnd) → IsHeldBy place n end → bytes ≡ take count end.unread → SameText (reads_at (readers_of world.cells) first end.cell end.number) end.unread (reads_at (readers_of after.cells) first end.cell end.number) (drop count end.unread)
  text_fed first end held fed = subst (λ (r : Option Reader). SameText r end.unread (reads_at (readers_of after.cells) first end.cell end.number) (drop count end.unread)) (sym was) (subst (λ (r : Option Reader). SameText (reader_in (Some known)) end.unread r (drop count end.unread)) (sym is_now) (by_stage (is_ended known.stage))) where
    was : reads_at (readers_of world.cells) first end.cell end.number ≡ reader_in (Some known)
    was = ap (λ (c : Option ℕ). reads_at (readers_of world.cells) first c end.number) held.cell ∙ ap (reads_at (readers_of world.cells) first (Some place)) held.number ∙ ap (λ (o : Option (Cell × ℕ)). reader_at o n) f.at ∙ ap reader_in f.kept

    is_now : reads_at (readers_of after.cells) first end.cell end.number ≡ reader_in (Some kept)
    is_now = ap (λ (c : Option ℕ). reads_at (readers_of after.cells) first c end.number) held.cell ∙ ap (reads_at (readers_of after.cells) first (Some place)) held.number ∙ ap (λ (o : Option (Cell × ℕ)). reader_at o n) here ∙ ap reader_in there

    by_stage : (b : Bool) → SameText (cond b None (Some (known.expected, known.since))) end.unread (cond b None (Some (known.expected, known.since ++ bytes))) (drop count end.unread)
    by_stage true = tt
    by_stage false = (refl, append_assoc known.since bytes (drop count end.unread) ∙ ap (λ (l : List ℕ). known.since ++ (l ++ drop count end.unread)) fed ∙ ap (λ (l : List ℕ). known.since ++ l) (take-append-drop count end.unread))

  off_other : (x : End) → same_end which x ≡ false → is_end_of place n (end_of x socket) ≡ false
  off_other x not_same = other_end_there place n world.sockets (socket.name, which) socket x f.each found_end f.is not_same

  which_fits : (w e : End) → IsHeldBy place n (end_of w socket) → bytes ≡ take count (end_of w socket).unread → ((x : End) → same_end w x ≡ false → is_end_of place n (end_of x socket) ≡ false) → EndFits journal world socket e → EndFits journal after (with_end w (feeds (end_of w socket)) socket) e
  which_fits O O held fed others fit = fit_moved (reader_of world socket O) (reader_of after socket O) (is_over socket.o) socket.o.unread (drop count socket.o.unread) (start_of world socket O) (start_of after socket O) (final_of world socket T) (final_of after socket T) (text_fed expected.Answer socket.o held fed) (start_is socket.o.cell socket.o.number) (final_is socket.t.cell socket.t.number) fit
  which_fits O T held fed others fit = fit_moved (reader_of world socket T) (reader_of after socket T) (is_over socket.t) socket.t.unread socket.t.unread (start_of world socket T) (start_of after socket T) (final_of world socket O) (final_of after socket O) (text_off expected.Request socket.t (others T refl)) (start_is socket.t.cell socket.t.number) (final_is socket.o.cell socket.o.number) fit
  which_fits T O held fed others fit = fit_moved (reader_of world socket O) (reader_of after socket O) (is_over socket.o) socket.o.unread socket.o.unread (start_of world socket O) (start_of after socket O) (final_of world socket T) (final_of after socket T) (text_off expected.Answer socket.o (others O refl)) (start_is socket.o.cell socket.o.number) (final_is socket.t.cell socket.t.number) fit
  which_fits T T held fed others fit = fit_moved (reader_of world socket T) (reader_of after socket T) (is_over socket.t) socket.t.unread (drop count socket.t.unread) (start_of world socket T) (start_of after socket T) (final_of world socket O) (final_of after socket O) (text_fed expected.Request socket.t held fed) (start_is socket.t.cell socket.t.number) (final_is socket.o.cell socket.o.number) fit

  fed_name : (w : End) (end : WorldEnd) → (with_end w end socket).name ≡ socket.name
  fed_name O end = refl
  fed_name T end = refl

  fed_cell : (w : End) → (with_end w (feeds (end_of w socket)) socket).o.cell ≡ socket.o.cell
  fed_cell O = refl
  fed_cell T = refl

  by_change : (s : SockName) (w : WorldSocket) (e : End) → MayAskWell journal after w → IsChanged socket.name which feeds world s w ⊎ IsAnother socket.name world s w → EndFits journal after w e
  by_change s w e may (inl c) = subst (λ (v : WorldSocket). EndFits journal after v e) fed_is
      (which_fits which e f.held refl off_other (j.ends socket.name socket e f.is (asked_before journal world after socket w names (ap (λ (v : WorldSocket). v.name) (sym fed_is) ∙ fed_name which (feeds (end_of which socket))) (ap (λ (v : WorldSocket). v.o.cell) (sym fed_is) ∙ fed_cell which) may)))
    where
      old_is : socket ≡ c.old
      old_is = let same : ◌≡◌ {A = Option WorldSocket} (Some socket) (Some c.old) = sym f.is ∙ c.found in cc

      fed_is : with_end which (feeds (end_of which socket)) socket ≡ w
      fed_is = ap (λ (v : WorldSocket). with_end which (feeds (end_of which v)) v) old_is ∙ c.is
  by_change s w e may (inr a) = fit_moved (reader_of world w e) (reader_of after w e) (is_over (end_of e w)) (end_of e w).unread (end_of e w).unread (start_of world w e) (start_of after w e) (final_of world w (other e)) (final_of after w (other e))
      (text_off (first_at e) (end_of e w) (not_found place n world.sockets s w e f.each a.found (λ h. clash (sym found_end ∙ h)))) (start_is (end_of e w).cell (end_of e w).number) (final_is (end_of (other e) w).cell (end_of (other e) w).number) (j.ends s w e a.found (asked_before journal world after w w names refl refl may))
    where
      name_in : Option (SockName × End) → SockName
      name_in None = s
      name_in (Some at) = at.0

      clash : ◌≡◌ {A = Option (SockName × End)} (Some (socket.name, which)) (Some (s, e)) → ⊥
      clash h = let same : socket.name ≡ s = ap name_in h in let yes : same_socket socket.name s ≡ true = subst (λ (m : SockName). same_socket socket.name m ≡ true) same (self_same socket.name) in let no : same_socket socket.name s ≡ false = a.other in absurd cc

-- what a host does with bytes for an open end of it
feeds_host : (host : HostState) (n : ℕ) (bytes : List ℕ) (known : Socket) → find (is_socket n) host.sockets ≡ Some known → is_open known.stage ≡ true → ◌≡◌ {A = Stepped} (Ok ([], with_socket (with_bytes known bytes) host)) (host_on host (sockets.Fed n bytes))
unfolding host_on
feeds_host host n bytes known found stands = sym (ap (λ (o : Option Socket). elim o as (λ o. Stepped) [
  | None ↦ still host
  | Some socket ↦ cond (is_open socket.stage) (keeps bytes socket host) (still host)
]) found ∙ ap (λ b. cond b (keeps bytes known host) (still host)) stands)

pub fed_fits : (journal : List Line) (log more : List Entry) (world : World) (socket : WorldSocket) (which : End) (count b : ℕ) (bytes : List ℕ) (place n : ℕ) (cell : Cell × ℕ) (told : List Step) (host : HostState) → IsIn socket world → can_feed which socket ≡ true → take count (end_of which socket).unread ≡ b ∷ bytes → IsHeldBy place n (end_of which socket)
    → IsCalled world place cell (sockets.Fed n (b ∷ bytes)) told host → Sound journal log world → Fit journal log world → Fit journal more (done_at place cell told host (fed_in which count socket world)).1
fed_fits journal log more world socket which count b bytes place n cell told host is can taken held c p j = as_done (Ok ([], with_socket (with_bytes known (b ∷ bytes)) cell.0.host)) (feeds_host cell.0.host n (b ∷ bytes) known kept.1 stands ∙ c.does)
    (subst (λ (l : List ℕ). Fit journal more (done_at place cell [] (with_socket (with_bytes known l) cell.0.host) (fed_in which count socket world)).1) taken
    (fed_kept journal log more world socket which count place n cell known (record { at = c.at; is = is; held = held; kept = kept.1; each = p.ends.sure.ends.each }) j))
  where
    kept : (known : Socket) × (find (is_socket n) cell.0.host.sockets ≡ Some known)
    kept = end_kept journal log world socket.name socket which place cell p.ends.sure is c.at n held.cell held.number

    known : Socket
    known = kept.0

    -- its end is open
    stage : known.stage ≡ (end_of which socket).stage
    stage = one (sym (ap (option_map (λ (w : Socket). w.stage)) kept.1) ∙ p.ends.sure.ends.agrees.ends place cell c.at n ∙ its_stage journal log world socket which place n p.ends.sure is held.cell held.number) where
      one : ◌≡◌ {A = Option Stage} (Some known.stage) (Some (end_of which socket).stage) → known.stage ≡ (end_of which socket).stage
      one e = cc

    stands : is_open known.stage ≡ true
    stands = ap is_open stage ∙ (and_parts (is_open (end_of which socket).stage) (is_of_host (end_of which socket)) (and_parts (is_at_work which socket) (has_input which socket) can).0).0

    told_in : Stepped → List Step
    told_in (Ok done) = done.0
    told_in done = told

    host_in : Stepped → HostState
    host_in (Ok done) = done.1
    host_in done = host

    as_done : (done : Stepped) → done ≡ Ok (told, host) → Fit journal more (done_at place cell (told_in done) (host_in done) (fed_in which count socket world)).1 → Fit journal more (done_at place cell told host (fed_in which count socket world)).1
    as_done done e f = subst (λ (d : Stepped). Fit journal more (done_at place cell (told_in d) (host_in d) (fed_in which count socket world)).1) e f

-- ---- the nodes of a cell are others

pub seated_fits : (journal : List Line) (log more : List Entry) (world : World) (place : ℕ) (cell : Cell × ℕ) (nodes : List (ℕ × NodeState)) → slice_get world.cells place ≡ Some cell → Fit journal log world → Fit journal more (with_cell place (record (cell.0) { nodes = nodes }, cell.1) world)
seated_fits journal log more world place cell nodes at j = record {
  hosts = hosts_hold world after place cell now at refl j.hosts (j.hosts place cell at);
  ends = λ s w e found may. fit_moved (reader_of world w e) (reader_of after w e) (is_over (end_of e w)) (end_of e w).unread (end_of e w).unread (start_of world w e) (start_of after w e) (final_of world w (other e)) (final_of after w (other e))
      (subst (λ (r : Option Reader). SameText (reader_of world w e) (end_of e w).unread r (end_of e w).unread) (sym (reads_is (first_at e) (end_of e w).cell (end_of e w).number)) (text_same (reader_of world w e) (end_of e w).unread))
      (start_is (end_of e w).cell (end_of e w).number) (final_is (end_of (other e) w).cell (end_of (other e) w).number) (j.ends s w e found (asked_before journal world after w w refl refl refl may));
} where
  now : Cell × ℕ
  now = (record (cell.0) { nodes = nodes }, cell.1)

  after : World
  after = with_cell place now world

  reads_is : (first : Expected) (c m : Option ℕ) → reads_at (readers_of after.cells) first c m ≡ reads_at (readers_of world.cells) first c m
  reads_is first None m = refl
  reads_is first (Some p) None = refl
  reads_is first (Some p) (Some n) = slot_same (λ (o : Option (Cell × ℕ)). reader_at o n) world.cells place cell now p at (λ h. refl)

  start_is : (c m : Option ℕ) → start_for after.cells c m ≡ start_for world.cells c m
  start_is None m = refl
  start_is (Some p) None = refl
  start_is (Some p) (Some n) = slot_same (λ (o : Option (Cell × ℕ)). start_there o n) world.cells place cell now p at (λ h. refl)

  final_is : (c m : Option ℕ) → final_for after.cells c m ≡ final_for world.cells c m
  final_is None m = refl
  final_is (Some p) None = refl
  final_is (Some p) (Some n) = slot_same (λ (o : Option (Cell × ℕ)). final_there o n) world.cells place cell now p at (λ h. refl)
