-- Bytes are fed to an end: they are no longer unread in the world, and the host has them.
use Rattle.std.proofs.Common.{◌≡◌, ℕ, Bool, true, false, cond, ◌&&◌, List, [], ◌∷◌, ◌++◌, length, take, drop, refl, sym, ap, ◌∙◌, subst, append_assoc}
use Rattle.std.proofs.lemmas.Bool.{and_parts}
use Rattle.std.proofs.lemmas.List.{append-nil, take-append-drop}
use Rattle.std.specs.Prelude.{find, slice_get, Option, Some, None, ◌==◌}
use Rattle.ch_reader.specs.declared.item.Expected.{Expected}
use Rattle.ch_model.specs.declared.entry.Entry.{Entry}
use Rattle.ch_model.specs.declared.entry.Entry.TheVariants as entries
use Rattle.ch_model.specs.declared.line.Line.{Line}
use Rattle.ch_model.specs.declared.name.End.{End}
use Rattle.ch_model.specs.declared.name.SockName.{SockName}
use Rattle.ch_model.specs.declared.step.SocketEvent.TheVariants as sockets
use Rattle.ch_model.specs.declared.step.Step.{Step}
use Rattle.ch_model.specs.CellSteps.{told_steps}
use Rattle.ch_model.specs.HostState.{Socket, HostState}
use Rattle.ch_model.specs.HostSteps.{Stepped, is_socket}
use Rattle.ch_model.specs.Naming.{Names}
use Rattle.ch_model.specs.Stages.{Stage, Pending, Open, Ended, is_open, is_ended}
use Rattle.ch_model.specs.World.{names_of}
use Rattle.ch_model.specs.WorldHappenings.{with_cell}
use Rattle.ch_model.specs.WorldLines.{is_at_work, can_feed}
use Rattle.ch_model.specs.WorldSockets.{end_of, is_of_host, has_input, find_end, with_end_of}
use Rattle.ch_model.specs.WorldState.{Cell, Named, WorldEnd, WorldSocket, World}
use Rattle.ch_laws_items.proofs.Hosts as hosts
use Rattle.ch_laws_world.specs.Grows.{homes_of}
use Rattle.ch_laws_world.proofs.Sockets.{end_goes}
use Rattle.ch_laws_world.proofs.Steps.{as_far}
use Rattle.ch_laws_log.specs.HostEnds.{stage_at, Tells, AllTold, steps_in}
use Rattle.ch_laws_log.proofs.HostEventsTold.{event_told}
use Rattle.ch_laws_log.proofs.HostTold as ends
use Rattle.ch_laws_log.proofs.HostTold.{number_found}
use Rattle.ch_laws_log.proofs.Kept.{IsIn}
use Rattle.ch_laws_log.proofs.Stored.{number_same}
use Rattle.ch_laws_ends.proofs.Changes.{cells_stay, taking}
use Rattle.ch_laws_ends.proofs.Found.{quiet_held, each_kept}
use Rattle.ch_laws_ends.proofs.Happen.{its_place, its_stage}
use Rattle.ch_laws_ends.proofs.Known.{keeps_sorted}
use Rattle.ch_laws_ends.proofs.Over.{refused_in, same_over, change_over, refused_still}
use Rattle.ch_laws_ends.proofs.Places.{some_is}
use Rattle.ch_laws_ends.proofs.Told.{Sure, told_sure, agrees_still}
use Rattle.ch_laws_reads.specs.Reads.{Reads}
use Rattle.ch_laws_reads.proofs.HostReads as host_reads
use Rattle.ch_laws_writes.specs.Dues.{Due, due_at}
use Rattle.ch_laws_writes.specs.Orderly.{WritesOn, AllWrite}
use Rattle.ch_laws_writes.proofs.Events.{event_writes}
use Rattle.ch_laws_bytes.specs.Streams.{Reader, reader_in, readers_of, dues_of, first_at, reads_at, Flows, is_over, AllFlow}
use Rattle.ch_laws_bytes.proofs.Event.{given_readers, given_dues}
use Rattle.ch_laws_bytes.proofs.Feeds.{ReadElsewhere, reads_there}
use Rattle.ch_laws_bytes.proofs.Happen.{readers_there, dues_there}
use Rattle.ch_laws_bytes.proofs.Lines.{own_of}
use Rattle.ch_laws_bytes.proofs.Sockets.{flip, writes_same}
use Rattle.ch_laws_bytes.proofs.Told.{end_names}
use Rattle.ch_laws_many.proofs.Addresses.{AllNamed}
use Rattle.ch_laws_many.proofs.Led.{IsSet, grown_set, led_end}
use Rattle.ch_laws_calls.specs.Calls.{IsCalled, IsHeldBy, with_host, done_at, fed_in}
use Rattle.ch_laws_calls.specs.Sound.{SoundEnds}
use Rattle.ch_laws_calls.proofs.SoundCalled.{called_sound, steps_told, home_kept}
use Rattle.ch_laws_calls.proofs.SoundChanged.{IsOnly, but_at, flow_changed}
use Rattle.ch_laws_calls.proofs.SoundHears.{IsFed, fed_so, found_after}

-- ---- an end that may be fed

pub is_working : (which : End) (socket : WorldSocket) → can_feed which socket ≡ true → (is_open (end_of which socket).stage ≡ true) × (has_input which socket ≡ true)
is_working which socket e = let both = and_parts (is_at_work which socket) (has_input which socket) e in ((and_parts (is_open (end_of which socket).stage) (is_of_host (end_of which socket)) both.0).0, both.1)

not_ended : (stage : Stage) → is_open stage ≡ true → is_ended stage ≡ false
not_ended Pending e = refl
not_ended Open e = refl
not_ended Ended e = absurd cc

-- ---- the world once bytes are taken from an end

abbrev taken : ℕ → WorldEnd → WorldEnd
taken count end = record end { unread = drop count end.unread }

taken_set : (known : List Named) (s : SockName) (which : End) (count : ℕ) (world : World) → IsSet known world → IsSet known (with_end_of s which (taken count) world)
taken_set known s which count world i = grown_set known world (with_end_of s which (taken count) world) i (end_goes s which (taken count) world i.numbered (λ old found. as_far (end_of which old) (taken count (end_of which old)) refl refl)) (led_end known s which (taken count) world (λ end. refl) i.led)

pub taken_sure : (journal : List Line) (log : List Entry) (which : End) (count : ℕ) (socket : WorldSocket) (world : World) → IsIn socket world → can_feed which socket ≡ true → Sure journal log world → Sure journal (log ++ entries.Fed socket.name which (length (take count (end_of which socket).unread)) ∷ []) (fed_in which count socket world)
taken_sure journal log which count socket world is may s = record {
  ends = record {
    sorted = (keeps_sorted journal).fed log world socket which count is (is_working which socket may).0 (is_working which socket may).1 tt s.ends.sorted;
    each = each_kept socket.name which (taken count) world (taking (drop count)).place s.ends.each;
    agrees = agrees_still world (fed_in which count socket world) (cells_stay socket.name which (taken count) world) (λ p n. quiet_held p n socket.name which (taken count) world socket s.ends.sorted.0.apart s.ends.each is (λ end. (refl, refl)) refl) s.ends.agrees;
  };
  over = same_over (refused_in log) (refused_in (log ++ fed ∷ [])) (fed_in which count socket world).sockets (λ t. refused_still log (fed ∷ []) t refl) (change_over (refused_in log) socket.name which (taken count) world (taking (drop count)) s.over);
} where
  fed : Entry
  fed = entries.Fed socket.name which (length (take count (end_of which socket).unread))

-- ---- the streams

-- bytes go from those that are unread to those that its host has
flows_on : (e : Expected) (since bytes left : List ℕ) (over : Bool) (due : Option Due) → Flows (Some (e, since)) over (bytes ++ left) due → Flows (Some (e, since ++ bytes)) over left due
flows_on e since bytes left true due f = tt
flows_on e since bytes left false due f = record { items = f.items; whole = append_assoc since bytes left ∙ f.whole; each = f.each; next = f.next }

-- ---- all of it

pub fed_sound : (journal : List Line) → AllNamed (names_of journal) → (log : List Entry) (world : World) (socket : WorldSocket) (which : End) (count : ℕ) (bytes : List ℕ) (place n : ℕ) (cell : Cell × ℕ) (steps : List Step) (host : HostState) → IsIn socket world → can_feed which socket ≡ true → take count (end_of which socket).unread ≡ bytes → IsHeldBy place n (end_of which socket)
    → IsCalled world place cell (sockets.Fed n bytes) steps host → SoundEnds journal log world → let done = done_at place cell steps host (fed_in which count socket world) in SoundEnds journal (log ++ entries.Fed socket.name which (length bytes) ∷ done.0) done.1
fed_sound journal named log world socket which count bytes place n cell steps host is may takes held c s = subst (λ (l : List Entry). SoundEnds journal l (done_at place cell steps host now).1) (append_assoc log (entries.Fed socket.name which (length bytes) ∷ []) (done_at place cell steps host now).0)
    (called_sound journal log_now now place cell host (due_at cell.0.host) (told_steps steps) (with_host cell host) (record {
      named = named;
      at = at;
      sure = subst (λ (l : List Entry). Sure journal l (with_cell place (with_host cell host, cell.1) now)) (append-nil log_now) (told_sure journal log_now now place cell (with_host cell host) [] sure at tells);
      set = taken_set (names_of journal) socket.name which count world s.set;
      homes = ap homes_of same_cells ∙ s.homes;
      home = home_kept cell.0 host (subst (λ (d : Stepped). hosts.Stays cell.0.host d) c.does (hosts.on_event cell.0.host (sockets.Fed n bytes)));
      orderly = λ q x f. s.flowing.orderly q x (ap (λ (l : List (Cell × ℕ)). slice_get l q) (sym same_cells) ∙ f);
      tells = subst (λ (l : List Step). Tells host l host) (sym told) (ends.at_rest host writes.orderly.sound);
      reads = subst (λ (l : List Step). Reads host l host) (sym told) (host_reads.at_rest host writes.orderly.sound);
      writes = subst (λ (l : List Step). WritesOn (own_of journal place) (due_at cell.0.host) l host) (sym (steps_told steps)) writes;
      flow = subst (λ (known : Names). AllFlow (own_of journal) known (given_readers place host now.cells) (given_dues place (due_at cell.0.host) now.cells) now.sockets) (sym (end_names socket.name which (taken count) world))
          (subst (λ (l : List (Cell × ℕ)). AllFlow (own_of journal) world.names (given_readers place host l) (given_dues place (due_at cell.0.host) l) now.sockets) (sym same_cells) flow);
    }))
  where
    now : World
    now = fed_in which count socket world

    log_now : List Entry
    log_now = log ++ entries.Fed socket.name which (length bytes) ∷ []

    same_cells : now.cells ≡ world.cells
    same_cells = cells_stay socket.name which (taken count) world

    at : slice_get now.cells place ≡ Some cell
    at = ap (λ (l : List (Cell × ℕ)). slice_get l place) same_cells ∙ c.at

    -- ---- the host

    stage : stage_at cell.0.host n ≡ Some (end_of which socket).stage
    stage = s.sure.ends.agrees.ends place cell c.at n ∙ its_stage journal log world socket which place n s.sure is held.cell held.number

    h : IsFed cell.0.host n bytes steps host
    h = fed_so cell.0.host n bytes steps host (end_of which socket).stage stage (is_working which socket may).0 c.does

    new : Socket
    new = record (h.socket) { since = h.socket.since ++ bytes }

    named_so : h.socket.number ≡ n
    named_so = number_found n cell.0.host.sockets h.socket h.found

    told : steps_in (told_steps steps) ≡ []
    told = steps_told steps ∙ h.now.steps_are

    writes : WritesOn (own_of journal place) (due_at cell.0.host) steps host
    writes = subst (λ (d : Stepped). AllWrite (own_of journal place) (due_at cell.0.host) d) c.does (event_writes (own_of journal place) cell.0.host (sockets.Fed n bytes) (s.flowing.orderly place cell c.at) tt)

    tells : Tells cell.0.host [] host
    tells = subst (λ (l : List Step). Tells cell.0.host l host) h.now.steps_are (subst (λ (d : Stepped). AllTold cell.0.host d) c.does (event_told cell.0.host (sockets.Fed n bytes) refl) (s.sure.ends.agrees.sound place cell c.at))

    -- ---- the ends

    sure : Sure journal log_now now
    sure = subst (λ (l : List ℕ). Sure journal (log ++ entries.Fed socket.name which (length l) ∷ []) now) takes (taken_sure journal log which count socket world is may s.sure)

    found : find_end place n world.sockets ≡ Some (socket.name, which)
    found = s.sure.ends.each socket.name socket which place n is (its_place (end_of which socket) place n held.cell held.number place n ∙ ap (λ b. b && (n == n)) (number_same place) ∙ number_same n)

    only : IsOnly place n socket which world.sockets
    only t e f = let same = some_is (t, e) (socket.name, which) (sym f ∙ found) in (ap (λ (a : SockName × End). a.0) same, ap (λ (a : SockName × End). a.1) same)

    -- ---- the streams

    one : ℕ → ℕ → Option Reader
    one = readers_of world.cells

    two : ℕ → ℕ → Option Reader
    two = given_readers place host world.cells

    next : ℕ → ℕ → Option Due
    next = given_dues place (due_at cell.0.host) world.cells

    here : {A : Type 0} (x y : A) → cond (place == place) x y ≡ x
    here x y = ap (λ b. cond b x y) (number_same place)

    found_now : (m : ℕ) → find (is_socket m) host.sockets ≡ cond (h.socket.number == m) (Some new) (find (is_socket m) cell.0.host.sockets)
    found_now m = found_after cell.0.host new [] steps host h.now m

    reads : ReadElsewhere place n one two
    reads q m e = but_at place n q m (reader_in (find (is_socket m) host.sockets)) (reader_in (find (is_socket m) cell.0.host.sockets)) (one q m)
        (λ k. ap reader_in (found_now m ∙ ap (λ b. cond b (Some new) (find (is_socket m) cell.0.host.sockets)) (ap (λ (i : ℕ). i == m) named_so ∙ flip n m ∙ k))) (readers_there world.cells place cell c.at q m) e

    live : (since : List ℕ) → cond {A = Option Reader} (is_ended h.socket.stage) None (Some (h.socket.expected, since)) ≡ Some (h.socket.expected, since)
    live since = ap (λ b. cond {A = Option Reader} b None (Some (h.socket.expected, since))) (not_ended h.socket.stage h.stands)

    reads_one : reads_at one (first_at which) (end_of which socket).cell (end_of which socket).number ≡ Some (h.socket.expected, h.socket.since)
    reads_one = reads_there one (first_at which) (end_of which socket) place n held.cell held.number ∙ sym (readers_there world.cells place cell c.at place n) ∙ here (reader_in (find (is_socket n) cell.0.host.sockets)) (one place n) ∙ ap reader_in h.found ∙ live h.socket.since

    reads_two : reads_at two (first_at which) (end_of which socket).cell (end_of which socket).number ≡ Some (h.socket.expected, h.socket.since ++ bytes)
    reads_two = reads_there two (first_at which) (end_of which socket) place n held.cell held.number ∙ here (reader_in (find (is_socket n) host.sockets)) (one place n)
        ∙ ap reader_in (found_now n ∙ ap (λ b. cond b (Some new) (find (is_socket n) cell.0.host.sockets)) (ap (λ (i : ℕ). i == n) named_so ∙ number_same n)) ∙ live (h.socket.since ++ bytes)

    halves : (end_of which socket).unread ≡ bytes ++ drop count (end_of which socket).unread
    halves = sym (ap (λ (l : List ℕ). l ++ drop count (end_of which socket).unread) (sym takes) ∙ take-append-drop count (end_of which socket).unread)

    flows : (due : Option Due) → Flows (reads_at one (first_at which) (end_of which socket).cell (end_of which socket).number) (is_over (end_of which socket)) (end_of which socket).unread due
        → Flows (reads_at two (first_at which) (end_of which socket).cell (end_of which socket).number) (is_over (end_of which socket)) (drop count (end_of which socket).unread) due
    flows due f = subst (λ (r : Option Reader). Flows r (is_over (end_of which socket)) (drop count (end_of which socket).unread) due) (sym reads_two)
        (flows_on h.socket.expected h.socket.since bytes (drop count (end_of which socket).unread) (is_over (end_of which socket)) due
        (subst (λ (l : List ℕ). Flows (Some (h.socket.expected, h.socket.since)) (is_over (end_of which socket)) l due) halves (subst (λ (r : Option Reader). Flows r (is_over (end_of which socket)) (end_of which socket).unread due) reads_one f)))

    flow : AllFlow (own_of journal) world.names two next now.sockets
    flow = flow_changed (own_of journal) world.names one two (dues_of world.cells) next place n which (taken count) socket world is s.sure.ends.each only reads (λ q m e. dues_there world.cells place cell c.at q m) refl flows
        (writes_same (dues_of world.cells) next (end_of which socket).cell (end_of which socket).number (dues_there world.cells place cell c.at)) s.flowing.flow
