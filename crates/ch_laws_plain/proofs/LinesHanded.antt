-- What is handed to a host leaves a plain world: a target's end that comes, and bytes that are fed.
use Rattle.std.proofs.Common.{◌≡◌, ◌⊎◌, inl, inr, ◌≤◌, ℕ, ◌+◌, ◌*◌, Bool, true, false, cond, ◌&&◌, ◌||◌, List, [], ◌∷◌, ◌++◌, take, drop, Ok, refl, sym, ap, ◌∙◌, subst, append_assoc, arith}
use Rattle.std.proofs.lemmas.Bool.{and_parts}
use Rattle.std.proofs.lemmas.List.{take-append-drop}
use Rattle.std.specs.Option.{option_map}
use Rattle.std.specs.Prelude.{find, slice_get, slice_set, Option, Some, None, ◌==◌}
use Rattle.ch_reader.specs.declared.item.Expected.{Expected}
use Rattle.ch_reader.specs.declared.item.Expected.TheVariants as expected
use Rattle.ch_model.specs.declared.entry.Entry.{Entry}
use Rattle.ch_model.specs.declared.line.Line.{Line}
use Rattle.ch_model.specs.declared.name.End.{End}
use Rattle.ch_model.specs.declared.name.End.TheVariants.{O, T}
use Rattle.ch_model.specs.declared.name.SockName.{SockName}
use Rattle.ch_model.specs.declared.step.SocketEvent.TheVariants as sockets
use Rattle.ch_model.specs.declared.step.Step.{Step}
use Rattle.ch_model.specs.Host.{accepted, keeps, host_on}
use Rattle.ch_model.specs.HostState.{Socket, HostState}
use Rattle.ch_model.specs.HostSteps.{Stepped, still, is_socket, with_socket}
use Rattle.ch_model.specs.Same.{same_socket, same_end}
use Rattle.ch_model.specs.Stages.{Stage, Pending, Open, Ended, is_pending, is_open, is_ended}
use Rattle.ch_model.specs.WorldHappenings.{with_cell}
use Rattle.ch_model.specs.WorldLines.{can_come, can_feed, is_at_work}
use Rattle.ch_model.specs.WorldSockets.{end_of, with_end, opened, is_of_host, has_input, is_socket_named, same_number, is_end_of, find_end}
use Rattle.ch_model.specs.WorldState.{Cell, WorldEnd, WorldSocket, World}
use Rattle.ch_laws_bytes.specs.Streams.{Reader, reader_in, reader_at, readers_of, reads_at, is_over, reader_of}
use Rattle.ch_laws_bytes.proofs.Sockets.{not_found, other_end_there}
use Rattle.ch_laws_bytes.proofs.Told.{end_names}
use Rattle.ch_laws_calls.specs.Calls.{done_at, IsCalled, IsIn, IsHeldBy, AllRead, come_in, fed_in}
use Rattle.ch_laws_calls.specs.Sound.{Sound}
use Rattle.ch_laws_ends.proofs.Changes.{cells_stay}
use Rattle.ch_laws_ends.proofs.Found.{EachFound, none_found}
use Rattle.ch_laws_ends.proofs.Happen.{its_stage}
use Rattle.ch_laws_ends.proofs.Known.{TargetIs}
use Rattle.ch_laws_ends.proofs.Places.{got_same, set_twice}
use Rattle.ch_laws_log.proofs.HostTold.{number_found}
use Rattle.ch_laws_log.proofs.Stored.{number_same, self_same}
use Rattle.ch_laws_calls.specs.FitsFit.{MayAskWell}
use Rattle.ch_laws_calls.proofs.FitsSockets.{IsChanged, IsAnother, changed_or}
use Rattle.ch_laws_calls.proofs.FitsTold.{end_kept, asked_before}
use Rattle.ch_laws_plain.specs.Plain.{pending_in, pending_there, pending_of, PlainAt, EndIsPlain, WorldIsPlain}
use Rattle.ch_laws_plain.proofs.LinesRests.{links_plain}
use Rattle.ch_laws_plain.proofs.LinesJoined.{cells_plain}
use Rattle.ch_laws_plain.proofs.LinesKept.{keeping, found_kept, pending_kept, off_plain}

-- ---- a target's end comes

came_kept : (journal : List Line) (log : List Entry) (world : World) (socket : WorldSocket) (place : ℕ) (cell : Cell × ℕ) → IsIn socket world → is_pending socket.t.stage ≡ true → socket.t.cell ≡ Some place → slice_get world.cells place ≡ Some cell → Sound journal log world → WorldIsPlain journal world
    → WorldIsPlain journal (done_at place (cell.0, cell.1 + 1) [] (with_socket (accepted (2 * cell.1 + 1) socket.from_host) cell.0.host) (come_in place cell socket world)).1
came_kept journal log world socket place cell is pending at_cell at p j = record {
  cells = cells_plain world after place cell (keeping cell kept (cell.1 + 1)) at cells j.cells (links_plain cell (with_socket kept cell.0.host) refl (j.cells place cell at));
  ends = λ s w e found may. by_change s w e may (changed_or socket.name T comes (with_cell place (cell.0, cell.1 + 1) world) s w found);
} where
  number : ℕ
  number = 2 * cell.1 + 1

  kept : Socket
  kept = accepted number socket.from_host

  comes : WorldEnd → WorldEnd
  comes end = record (opened end) { number = Some number }

  after : World
  after = (done_at place (cell.0, cell.1 + 1) [] (with_socket kept cell.0.host) (come_in place cell socket world)).1

  cells : after.cells ≡ slice_set world.cells place (keeping cell kept (cell.1 + 1))
  cells = ap (λ (l : List (Cell × ℕ)). slice_set l place (keeping cell kept (cell.1 + 1))) (cells_stay socket.name T comes (with_cell place (cell.0, cell.1 + 1) world)) ∙ set_twice world.cells place (cell.0, cell.1 + 1) (keeping cell kept (cell.1 + 1))

  names : after.names ≡ world.names
  names = end_names socket.name T comes (with_cell place (cell.0, cell.1 + 1) world)

  self : (n : ℕ) → n ≤ n
  self n = omega arith

  nowhere : find_end place number world.sockets ≡ None
  nowhere = none_found place number world.sockets (p.ends.sure.ends.agrees.accepted place cell at cell.1 (self cell.1))

  off : (s : SockName) (w : WorldSocket) (x : End) → find (is_socket_named s) world.sockets ≡ Some w → is_end_of place number (end_of x w) ≡ false
  off s w x found = not_found place number world.sockets s w x p.ends.sure.ends.each found (λ h. clash (sym nowhere ∙ h)) where
    clash : ◌≡◌ {A = Option (SockName × End)} None (Some (s, x)) → ⊥
    clash h = cc

  -- the host had no record of it
  free : find (is_socket number) cell.0.host.sockets ≡ None
  free = (p.links.naming place cell at).free cell.1 (self cell.1)

  pending_is : (c m : Option ℕ) → pending_of after.cells c m ≡ pending_of world.cells c m
  pending_is c m = ap (λ (cs : List (Cell × ℕ)). pending_of cs c m) cells ∙ pending_kept world.cells place cell kept (cell.1 + 1) c m at (ap (pending_in cell.0) free)

  -- its number is none yet
  unnumbered : socket.t.number ≡ None
  unnumbered = by_stage socket.t.stage pending (p.ends.sure.ends.sorted.1 socket.name socket is).t where
    by_stage : (stage : Stage) → is_pending stage ≡ true → TargetIs stage socket.t.cell socket.t.number → socket.t.number ≡ None
    by_stage Pending e k = k.1
    by_stage Open e k = absurd cc
    by_stage Ended e k = absurd cc

  come : WorldSocket
  come = with_end T (comes socket.t) socket

  here : slice_get after.cells place ≡ Some (keeping cell kept (cell.1 + 1))
  here = ap (λ (l : List (Cell × ℕ)). slice_get l place) cells ∙ got_same world.cells place cell (keeping cell kept (cell.1 + 1)) at

  reader_was : reader_of world socket T ≡ Some (expected.Request, [])
  reader_was = ap (λ (c : Option ℕ). reads_at (readers_of world.cells) expected.Request c socket.t.number) at_cell ∙ ap (reads_at (readers_of world.cells) expected.Request (Some place)) unnumbered

  reader_is : reader_of after come T ≡ Some (expected.Request, [])
  reader_is = ap (λ (c : Option ℕ). reads_at (readers_of after.cells) expected.Request c (Some number)) at_cell ∙ ap (λ (o : Option (Cell × ℕ)). reader_at o number) here ∙ ap reader_in (found_kept kept cell.0.host number refl)

  over_is : (stage : Stage) → is_pending stage ≡ true → (is_ended stage || socket.t.is_cut) ≡ (false || socket.t.is_cut)
  over_is Pending e = refl
  over_is Open e = refl
  over_is Ended e = absurd cc

  pending_was : pending_of world.cells socket.t.cell socket.t.number ≡ None
  pending_was = ap (λ (c : Option ℕ). pending_of world.cells c socket.t.number) at_cell ∙ ap (pending_of world.cells (Some place)) unnumbered

  pending_now : pending_of after.cells socket.t.cell (Some number) ≡ None
  pending_now = pending_is socket.t.cell (Some number) ∙ ap (λ (c : Option ℕ). pending_of world.cells c (Some number)) at_cell ∙ ap (λ (o : Option (Cell × ℕ)). pending_there o number) at ∙ ap (pending_in cell.0) free

  come_plain : (e : End) → MayAskWell journal world socket → EndIsPlain after come e
  come_plain O may = off_plain world after place cell kept (cell.1 + 1) socket O at cells (off socket.name socket O is) (pending_is socket.o.cell socket.o.number) (j.ends socket.name socket O is may)
  come_plain T may = subst (λ (r : Option Reader). PlainAt r (is_over come.t) socket.t.unread (pending_of after.cells socket.t.cell (Some number))) (reader_was ∙ sym reader_is) (subst (λ (o : Option ℕ). PlainAt (reader_of world socket T) (is_over come.t) socket.t.unread o) (pending_was ∙ sym pending_now)
      (subst (λ (b : Bool). PlainAt (reader_of world socket T) b socket.t.unread (pending_of world.cells socket.t.cell socket.t.number)) (over_is socket.t.stage pending) (j.ends socket.name socket T is may)))

  before : (s : SockName) (w one : WorldSocket) → w.name ≡ one.name → w.o.cell ≡ one.o.cell → MayAskWell journal after w → MayAskWell journal world one
  before s w one name same may = asked_before journal world after one w names name same may

  by_change : (s : SockName) (w : WorldSocket) (e : End) → MayAskWell journal after w → IsChanged socket.name T comes (with_cell place (cell.0, cell.1 + 1) world) s w ⊎ IsAnother socket.name (with_cell place (cell.0, cell.1 + 1) world) s w → EndIsPlain after w e
  by_change s w e may (inl c) = subst (λ (v : WorldSocket). EndIsPlain after v e) come_is (come_plain e (before s w socket (ap (λ (v : WorldSocket). v.name) (sym come_is)) (ap (λ (v : WorldSocket). v.o.cell) (sym come_is)) may)) where
    old_is : socket ≡ c.old
    old_is = let same : ◌≡◌ {A = Option WorldSocket} (Some socket) (Some c.old) = sym is ∙ c.found in cc

    come_is : come ≡ w
    come_is = ap (λ (v : WorldSocket). with_end T (comes v.t) v) old_is ∙ c.is
  by_change s w e may (inr a) = off_plain world after place cell kept (cell.1 + 1) w e at cells (off s w e a.found) (pending_is (end_of e w).cell (end_of e w).number) (j.ends s w e a.found (before s w w refl refl may))

pub came_plain : (journal : List Line) (log : List Entry) (world : World) (socket : WorldSocket) (place : ℕ) (cell : Cell × ℕ) (steps : List Step) (host : HostState) → IsIn socket world → can_come socket ≡ true → socket.t.cell ≡ Some place → IsCalled world place cell (sockets.Came (2 * cell.1 + 1) socket.from_host) steps host → AllRead world → Sound journal log world
    → WorldIsPlain journal world → WorldIsPlain journal (done_at place (cell.0, cell.1 + 1) steps host (come_in place cell socket world)).1
unfolding host_on
came_plain journal log world socket place cell steps host is can at_cell c read p j = as_done (Ok ([], now)) c.does (came_kept journal log world socket place cell is can at_cell c.at p j) where
  now : HostState
  now = with_socket (accepted (2 * cell.1 + 1) socket.from_host) cell.0.host

  told_in : Stepped → List Step
  told_in (Ok done) = done.0
  told_in done = steps

  host_in : Stepped → HostState
  host_in (Ok done) = done.1
  host_in done = host

  as_done : (done : Stepped) → done ≡ Ok (steps, host) → WorldIsPlain journal (done_at place (cell.0, cell.1 + 1) (told_in done) (host_in done) (come_in place cell socket world)).1 → WorldIsPlain journal (done_at place (cell.0, cell.1 + 1) steps host (come_in place cell socket world)).1
  as_done done e f = subst (λ (d : Stepped). WorldIsPlain journal (done_at place (cell.0, cell.1 + 1) (told_in d) (host_in d) (come_in place cell socket world)).1) e f

-- ---- bytes are fed

-- the record that a host keeps with the bytes
abbrev with_bytes : Socket → List ℕ → Socket
with_bytes known bytes = record known { since = known.since ++ bytes }

-- what is fed is read with what is unread
fed_end : (known : Socket) (count : ℕ) (unread : List ℕ) (over : Bool) (pending : Option ℕ) → PlainAt (reader_in (Some known)) over unread pending → PlainAt (reader_in (Some (with_bytes known (take count unread)))) over (drop count unread) pending
fed_end known count unread over pending plain = by_tests (is_ended known.stage) over plain where
  text : (known.since ++ take count unread) ++ drop count unread ≡ known.since ++ unread
  text = append_assoc known.since (take count unread) (drop count unread) ∙ ap (λ (l : List ℕ). known.since ++ l) (take-append-drop count unread)

  by_tests : (a b : Bool) → PlainAt (cond a None (Some (known.expected, known.since))) b unread pending → PlainAt (cond a None (Some (known.expected, known.since ++ take count unread))) b (drop count unread) pending
  by_tests true b plain = tt
  by_tests false true plain = tt
  by_tests false false plain = λ all whole each. plain all (sym text ∙ whole) each

held_is : (place n : ℕ) (end : WorldEnd) → IsHeldBy place n end → is_end_of place n end ≡ true
held_is place n end h = ap (λ (c : Option ℕ). same_number c place && same_number end.number n) h.cell ∙ ap (λ (m : Option ℕ). same_number (Some place) place && same_number m n) h.number ∙ ap (λ b. b && (n == n)) (number_same place) ∙ number_same n

-- an end that is fed, of which its host has this record
record IsFed (world : World) (socket : WorldSocket) (which : End) (place n : ℕ) (cell : Cell × ℕ) (known : Socket) : Type 0 where
  at : slice_get world.cells place ≡ Some cell
  is : find (is_socket_named socket.name) world.sockets ≡ Some socket
  held : IsHeldBy place n (end_of which socket)
  kept : find (is_socket n) cell.0.host.sockets ≡ Some known
  each : EachFound world.sockets

fed_kept : (journal : List Line) (world : World) (socket : WorldSocket) (which : End) (count : ℕ) (place n : ℕ) (cell : Cell × ℕ) (known : Socket) → IsFed world socket which place n cell known → WorldIsPlain journal world
    → WorldIsPlain journal (done_at place cell [] (with_socket (with_bytes known (take count (end_of which socket).unread)) cell.0.host) (fed_in which count socket world)).1
fed_kept journal world socket which count place n cell known f j = record {
  cells = cells_plain world after place cell now f.at cells j.cells (links_plain cell (with_socket kept cell.0.host) refl (j.cells place cell f.at));
  ends = λ s w e found may. by_change s w e may (changed_or socket.name which feeds world s w found);
} where
  bytes : List ℕ
  bytes = take count (end_of which socket).unread

  kept : Socket
  kept = with_bytes known bytes

  now : Cell × ℕ
  now = keeping cell kept cell.1

  feeds : WorldEnd → WorldEnd
  feeds end = record end { unread = drop count end.unread }

  after : World
  after = (done_at place cell [] (with_socket kept cell.0.host) (fed_in which count socket world)).1

  cells : after.cells ≡ slice_set world.cells place now
  cells = ap (λ (l : List (Cell × ℕ)). slice_set l place now) (cells_stay socket.name which feeds world)

  names : after.names ≡ world.names
  names = end_names socket.name which feeds world

  number : known.number ≡ n
  number = number_found n cell.0.host.sockets known f.kept

  found_end : find_end place n world.sockets ≡ Some (socket.name, which)
  found_end = f.each socket.name socket which place n f.is (held_is place n (end_of which socket) f.held)

  as_kept : (end : WorldEnd) → is_end_of place n end ≡ false → is_end_of place kept.number end ≡ false
  as_kept end off = subst (λ (m : ℕ). is_end_of place m end ≡ false) (sym number) off

  pending_is : (c m : Option ℕ) → pending_of after.cells c m ≡ pending_of world.cells c m
  pending_is c m = ap (λ (cs : List (Cell × ℕ)). pending_of cs c m) cells ∙ pending_kept world.cells place cell kept cell.1 c m f.at (ap (pending_in cell.0) (ap (λ (k : ℕ). find (is_socket k) cell.0.host.sockets) number ∙ f.kept))

  -- another end
  off_is : (w : WorldSocket) (e : End) → is_end_of place n (end_of e w) ≡ false → EndIsPlain world w e → EndIsPlain after w e
  off_is w e off plain = off_plain world after place cell kept cell.1 w e f.at cells (as_kept (end_of e w) off) (pending_is (end_of e w).cell (end_of e w).number) plain

  here : slice_get after.cells place ≡ Some now
  here = ap (λ (l : List (Cell × ℕ)). slice_get l place) cells ∙ got_same world.cells place cell now f.at

  -- the end that is fed
  fed_there : (first : Expected) (end : WorldEnd) (over : Bool) → IsHeldBy place n end → bytes ≡ take count end.unread → PlainAt (reads_at (readers_of world.cells) first end.cell end.number) over end.unread (pending_of world.cells end.cell end.number) → PlainAt (reads_at (readers_of after.cells) first end.cell end.number) over (drop count end.unread) (pending_of after.cells end.cell end.number)
  fed_there first end over held fed plain = subst (λ (r : Option Reader). PlainAt r over (drop count end.unread) (pending_of after.cells end.cell end.number)) (sym is_now) (subst (λ (o : Option ℕ). PlainAt (reader_in (Some kept)) over (drop count end.unread) o) (sym (pending_is end.cell end.number))
      (subst (λ (l : List ℕ). PlainAt (reader_in (Some (with_bytes known l))) over (drop count end.unread) (pending_of world.cells end.cell end.number)) (sym fed) (fed_end known count end.unread over (pending_of world.cells end.cell end.number) (subst (λ (r : Option Reader). PlainAt r over end.unread (pending_of world.cells end.cell end.number)) was plain))))
    where
      was : reads_at (readers_of world.cells) first end.cell end.number ≡ reader_in (Some known)
      was = ap (λ (c : Option ℕ). reads_at (readers_of world.cells) first c end.number) held.cell ∙ ap (reads_at (readers_of world.cells) first (Some place)) held.number ∙ ap (λ (o : Option (Cell × ℕ)). reader_at o n) f.at ∙ ap reader_in f.kept

      is_now : reads_at (readers_of after.cells) first end.cell end.number ≡ reader_in (Some kept)
      is_now = ap (λ (c : Option ℕ). reads_at (readers_of after.cells) first c end.number) held.cell ∙ ap (reads_at (readers_of after.cells) first (Some place)) held.number ∙ ap (λ (o : Option (Cell × ℕ)). reader_at o n) here ∙ ap reader_in (found_kept kept cell.0.host n number)

  off_other : (x : End) → same_end which x ≡ false → is_end_of place n (end_of x socket) ≡ false
  off_other x not_same = other_end_there place n world.sockets (socket.name, which) socket x f.each found_end f.is not_same

  which_plain : (w e : End) → IsHeldBy place n (end_of w socket) → bytes ≡ take count (end_of w socket).unread → ((x : End) → same_end w x ≡ false → is_end_of place n (end_of x socket) ≡ false) → EndIsPlain world socket e → EndIsPlain after (with_end w (feeds (end_of w socket)) socket) e
  which_plain O O held fed others plain = fed_there expected.Answer socket.o (is_over socket.o) held fed plain
  which_plain O T held fed others plain = off_is socket T (others T refl) plain
  which_plain T O held fed others plain = off_is socket O (others O refl) plain
  which_plain T T held fed others plain = fed_there expected.Request socket.t (is_over socket.t) held fed plain

  fed_name : (w : End) (end : WorldEnd) → (with_end w end socket).name ≡ socket.name
  fed_name O end = refl
  fed_name T end = refl

  fed_cell : (w : End) → (with_end w (feeds (end_of w socket)) socket).o.cell ≡ socket.o.cell
  fed_cell O = refl
  fed_cell T = refl

  by_change : (s : SockName) (w : WorldSocket) (e : End) → MayAskWell journal after w → IsChanged socket.name which feeds world s w ⊎ IsAnother socket.name world s w → EndIsPlain after w e
  by_change s w e may (inl c) = subst (λ (v : WorldSocket). EndIsPlain after v e) fed_is
      (which_plain which e f.held refl off_other (j.ends socket.name socket e f.is (asked_before journal world after socket w names (ap (λ (v : WorldSocket). v.name) (sym fed_is) ∙ fed_name which (feeds (end_of which socket))) (ap (λ (v : WorldSocket). v.o.cell) (sym fed_is) ∙ fed_cell which) may)))
    where
      old_is : socket ≡ c.old
      old_is = let same : ◌≡◌ {A = Option WorldSocket} (Some socket) (Some c.old) = sym f.is ∙ c.found in cc

      fed_is : with_end which (feeds (end_of which socket)) socket ≡ w
      fed_is = ap (λ (v : WorldSocket). with_end which (feeds (end_of which v)) v) old_is ∙ c.is
  by_change s w e may (inr a) = off_is w e (not_found place n world.sockets s w e f.each a.found (λ h. clash (sym found_end ∙ h))) (j.ends s w e a.found (asked_before journal world after w w names refl refl may)) where
    name_in : Option (SockName × End) → SockName
    name_in None = s
    name_in (Some at) = at.0

    clash : ◌≡◌ {A = Option (SockName × End)} (Some (socket.name, which)) (Some (s, e)) → ⊥
    clash h = let same : socket.name ≡ s = ap name_in h in let yes : same_socket socket.name s ≡ true = subst (λ (m : SockName). same_socket socket.name m ≡ true) same (self_same socket.name) in let no : same_socket socket.name s ≡ false = a.other in absurd cc

-- what a host does with bytes for an open end of it
kept_bytes : (host : HostState) (n : ℕ) (bytes : List ℕ) (known : Socket) → find (is_socket n) host.sockets ≡ Some known → is_open known.stage ≡ true → ◌≡◌ {A = Stepped} (Ok ([], with_socket (with_bytes known bytes) host)) (host_on host (sockets.Fed n bytes))
unfolding host_on
kept_bytes host n bytes known found stands = sym (ap (λ (o : Option Socket). elim o as (λ o. Stepped) [
  | None ↦ still host
  | Some socket ↦ cond (is_open socket.stage) (keeps bytes socket host) (still host)
]) found ∙ ap (λ b. cond b (keeps bytes known host) (still host)) stands)

pub fed_plain : (journal : List Line) (log : List Entry) (world : World) (socket : WorldSocket) (which : End) (count b : ℕ) (bytes : List ℕ) (place n : ℕ) (cell : Cell × ℕ) (steps : List Step) (host : HostState) → IsIn socket world → can_feed which socket ≡ true → take count (end_of which socket).unread ≡ b ∷ bytes → IsHeldBy place n (end_of which socket)
    → IsCalled world place cell (sockets.Fed n (b ∷ bytes)) steps host → AllRead world → Sound journal log world → WorldIsPlain journal world → WorldIsPlain journal (done_at place cell steps host (fed_in which count socket world)).1
fed_plain journal log world socket which count b bytes place n cell steps host is can taken held c read p j = as_done (Ok ([], with_socket (with_bytes known (b ∷ bytes)) cell.0.host)) (kept_bytes cell.0.host n (b ∷ bytes) known kept.1 stands ∙ c.does)
    (subst (λ (l : List ℕ). WorldIsPlain journal (done_at place cell [] (with_socket (with_bytes known l) cell.0.host) (fed_in which count socket world)).1) taken
    (fed_kept journal world socket which count place n cell known (record { at = c.at; is = is; held = held; kept = kept.1; each = p.ends.sure.ends.each }) j))
  where
    kept : (known : Socket) × (find (is_socket n) cell.0.host.sockets ≡ Some known)
    kept = end_kept journal log world socket.name socket which place cell p.ends.sure is c.at n held.cell held.number

    known : Socket
    known = kept.0

    -- its end is open
    stage : known.stage ≡ (end_of which socket).stage
    stage = one (sym (ap (option_map (λ (w : Socket). w.stage)) kept.1) ∙ p.ends.sure.ends.agrees.ends place cell c.at n ∙ its_stage journal log world socket which place n p.ends.sure is held.cell held.number) where
      one : ◌≡◌ {A = Option Stage} (Some known.stage) (Some (end_of which socket).stage) → known.stage ≡ (end_of which socket).stage
      one e = cc

    stands : is_open known.stage ≡ true
    stands = ap is_open stage ∙ (and_parts (is_open (end_of which socket).stage) (is_of_host (end_of which socket)) (and_parts (is_at_work which socket) (has_input which socket) can).0).0

    told_in : Stepped → List Step
    told_in (Ok done) = done.0
    told_in done = steps

    host_in : Stepped → HostState
    host_in (Ok done) = done.1
    host_in done = host

    as_done : (done : Stepped) → done ≡ Ok (steps, host) → WorldIsPlain journal (done_at place cell (told_in done) (host_in done) (fed_in which count socket world)).1 → WorldIsPlain journal (done_at place cell steps host (fed_in which count socket world)).1
    as_done done e f = subst (λ (d : Stepped). WorldIsPlain journal (done_at place cell (told_in d) (host_in d) (fed_in which count socket world)).1) e f
