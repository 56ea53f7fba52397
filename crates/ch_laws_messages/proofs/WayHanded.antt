-- What is handed to a host: a target's end that comes, and bytes that are fed; what is read there then is the same.
use Rattle.std.proofs.Common.{◌≡◌, ◌⊎◌, inl, inr, ◌≤◌, ℕ, ◌+◌, ◌*◌, Bool, true, false, cond, ◌&&◌, ◌||◌, List, [], ◌∷◌, ◌++◌, take, drop, Ok, refl, sym, ap, ◌∙◌, subst, append_assoc, arith}
use Rattle.std.proofs.lemmas.Bool.{and_parts}
use Rattle.std.proofs.lemmas.List.{take-append-drop}
use Rattle.std.specs.Option.{option_map}
use Rattle.std.specs.Prelude.{find, length, slice_get, slice_set, Option, Some, None, ◌==◌}
use Rattle.ch_reader.specs.declared.item.Expected.{Expected}
use Rattle.ch_reader.specs.declared.item.Expected.TheVariants as expected
use Rattle.ch_model.specs.declared.entry.Entry.{Entry}
use Rattle.ch_model.specs.declared.entry.Entry.TheVariants as entries
use Rattle.ch_model.specs.declared.line.Line.{Line}
use Rattle.ch_model.specs.declared.name.End.{End}
use Rattle.ch_model.specs.declared.name.End.TheVariants.{O, T}
use Rattle.ch_model.specs.declared.name.SockName.{SockName}
use Rattle.ch_model.specs.declared.step.SocketEvent.TheVariants as sockets
use Rattle.ch_model.specs.declared.step.Step.{Step}
use Rattle.ch_model.specs.Host.{accepted, keeps, host_on}
use Rattle.ch_model.specs.HostState.{Socket, HostState}
use Rattle.ch_model.specs.HostSteps.{Stepped, still, is_socket, with_socket}
use Rattle.ch_model.specs.Same.{same_socket, same_end}
use Rattle.ch_model.specs.Stages.{Stage, Pending, Open, Ended, is_pending, is_open, is_ended}
use Rattle.ch_model.specs.WorldHappenings.{with_cell}
use Rattle.ch_model.specs.WorldLines.{can_come, can_feed, is_at_work}
use Rattle.ch_model.specs.WorldSockets.{end_of, with_end, opened, is_of_host, has_input, is_socket_named, same_number, is_end_of, find_end}
use Rattle.ch_model.specs.WorldState.{Cell, WorldEnd, WorldSocket, World}
use Rattle.ch_laws_bytes.specs.Streams.{Reader, reader_in, reader_at, readers_of, reads_at, first_at, is_over, reader_of}
use Rattle.ch_laws_bytes.proofs.Event.{set_at}
use Rattle.ch_laws_bytes.proofs.Sockets.{flip, not_found, other_end_there}
use Rattle.ch_laws_calls.specs.Calls.{with_host, done_at, IsCalled, IsIn, IsHeldBy, come_in, fed_in}
use Rattle.ch_laws_calls.specs.Sound.{Sound}
use Rattle.ch_laws_ends.proofs.Changes.{cells_stay}
use Rattle.ch_laws_ends.proofs.Found.{EachFound, none_found}
use Rattle.ch_laws_ends.proofs.Happen.{its_stage}
use Rattle.ch_laws_ends.proofs.Known.{TargetIs}
use Rattle.ch_laws_ends.proofs.Places.{got_same, set_twice}
use Rattle.ch_laws_live.proofs.Fresh.{end_none}
use Rattle.ch_laws_log.proofs.HostTold.{number_found, find_stored}
use Rattle.ch_laws_log.proofs.Stored.{number_is, number_same, self_same}
use Rattle.ch_laws_calls.proofs.FitsSockets.{IsChanged, IsAnother, changed_or}
use Rattle.ch_laws_calls.proofs.FitsTold.{end_kept}
use Rattle.ch_laws_messages.specs.WayGoes.{AllTurn}
use Rattle.ch_laws_messages.proofs.WayRests.{SameText, text_same, none_new, Rests, rest_turns, wrote_none}

-- ---- a host that keeps another record

and_off : (a b : Bool) → (a && b) ≡ false → a ≡ true → b ≡ false
and_off true b h e = h
and_off false b h e = absurd cc

-- what is so of each cell, where one is another now
slot_same : {A : Type 0} (f : Option (Cell × ℕ) → A) (cells : List (Cell × ℕ)) (place : ℕ) (cell now : Cell × ℕ) (p : ℕ) → slice_get cells place ≡ Some cell → ((place == p) ≡ true → f (Some now) ≡ f (Some cell)) → f (slice_get (slice_set cells place now) p) ≡ f (slice_get cells p)
slot_same f cells place cell now p at same = ap f (set_at cells place cell now p at) ∙ by_test (place == p) refl where
  by_test : (b : Bool) → (place == p) ≡ b → f (cond b (Some now) (slice_get cells p)) ≡ f (slice_get cells p)
  by_test true h = same h ∙ ap f (sym (ap (slice_get cells) (sym (number_is place p h)) ∙ at))
  by_test false h = refl

-- the cell with that record kept
abbrev keeping : Cell × ℕ → Socket → ℕ → Cell × ℕ
keeping cell kept count = (with_host cell (with_socket kept cell.0.host), count)

found_off : (host : HostState) (kept : Socket) (n : ℕ) → (n == kept.number) ≡ false → find (is_socket n) (with_socket kept host).sockets ≡ find (is_socket n) host.sockets
found_off host kept n off = find_stored kept host.sockets n ∙ ap (λ b. cond b (Some kept) (find (is_socket n) host.sockets)) (flip kept.number n ∙ off)

reads_off : (cells : List (Cell × ℕ)) (place : ℕ) (cell : Cell × ℕ) (kept : Socket) (count : ℕ) (first : Expected) (c m : Option ℕ) → slice_get cells place ≡ Some cell → (same_number c place && same_number m kept.number) ≡ false → reads_at (readers_of (slice_set cells place (keeping cell kept count))) first c m ≡ reads_at (readers_of cells) first c m
reads_off cells place cell kept count first None m at off = refl
reads_off cells place cell kept count first (Some p) None at off = refl
reads_off cells place cell kept count first (Some p) (Some n) at off = slot_same (λ (o : Option (Cell × ℕ)). reader_at o n) cells place cell (keeping cell kept count) p at (λ h. ap reader_in (found_off cell.0.host kept n (and_off (p == place) (n == kept.number) off (flip p place ∙ h))))

-- an end that isn't of it is read as it was
text_off : (world after : World) (place : ℕ) (cell : Cell × ℕ) (kept : Socket) (count : ℕ) (socket : WorldSocket) (e : End) → slice_get world.cells place ≡ Some cell → after.cells ≡ slice_set world.cells place (keeping cell kept count) → is_end_of place kept.number (end_of e socket) ≡ false
    → SameText (reader_of world socket e) (end_of e socket).unread (reader_of after socket e) (end_of e socket).unread
text_off world after place cell kept count socket e at cells off = subst (λ (r : Option Reader). SameText (reader_of world socket e) (end_of e socket).unread r (end_of e socket).unread) (sym (ap (λ (cs : List (Cell × ℕ)). reads_at (readers_of cs) (first_at e) (end_of e socket).cell (end_of e socket).number) cells ∙ reads_off world.cells place cell kept count (first_at e) (end_of e socket).cell (end_of e socket).number at off)) (text_same (reader_of world socket e) (end_of e socket).unread)

-- ---- a target's end comes

came_kept : (journal : List Line) (log : List Entry) (world : World) (socket : WorldSocket) (place : ℕ) (cell : Cell × ℕ) → IsIn socket world → is_pending socket.t.stage ≡ true → socket.t.cell ≡ Some place → slice_get world.cells place ≡ Some cell → Sound journal log world
    → AllTurn 0 [] none_new log world (log ++ entries.Came socket.name ∷ []) (done_at place (cell.0, cell.1 + 1) [] (with_socket (accepted (2 * cell.1 + 1) socket.from_host) cell.0.host) (come_in place cell socket world)).1
came_kept journal log world socket place cell is pending at_cell at p = rest_turns log world (log ++ entries.Came socket.name ∷ []) after (λ s w found. by_change s w (changed_or socket.name T comes (with_cell place (cell.0, cell.1 + 1) world) s w found)) (λ s none. end_none socket.name T comes (with_cell place (cell.0, cell.1 + 1) world) s none) (λ s e. wrote_none log (entries.Came socket.name) s e refl) where
  number : ℕ
  number = 2 * cell.1 + 1

  kept : Socket
  kept = accepted number socket.from_host

  comes : WorldEnd → WorldEnd
  comes end = record (opened end) { number = Some number }

  after : World
  after = (done_at place (cell.0, cell.1 + 1) [] (with_socket kept cell.0.host) (come_in place cell socket world)).1

  cells : after.cells ≡ slice_set world.cells place (keeping cell kept (cell.1 + 1))
  cells = ap (λ (l : List (Cell × ℕ)). slice_set l place (keeping cell kept (cell.1 + 1))) (cells_stay socket.name T comes (with_cell place (cell.0, cell.1 + 1) world)) ∙ set_twice world.cells place (cell.0, cell.1 + 1) (keeping cell kept (cell.1 + 1))

  self : (n : ℕ) → n ≤ n
  self n = omega arith

  nowhere : find_end place number world.sockets ≡ None
  nowhere = none_found place number world.sockets (p.ends.sure.ends.agrees.accepted place cell at cell.1 (self cell.1))

  off : (s : SockName) (w : WorldSocket) (x : End) → find (is_socket_named s) world.sockets ≡ Some w → is_end_of place number (end_of x w) ≡ false
  off s w x found = not_found place number world.sockets s w x p.ends.sure.ends.each found (λ h. clash (sym nowhere ∙ h)) where
    clash : ◌≡◌ {A = Option (SockName × End)} None (Some (s, x)) → ⊥
    clash h = cc

  -- its number is none yet
  unnumbered : socket.t.number ≡ None
  unnumbered = by_stage socket.t.stage pending (p.ends.sure.ends.sorted.1 socket.name socket is).t where
    by_stage : (stage : Stage) → is_pending stage ≡ true → TargetIs stage socket.t.cell socket.t.number → socket.t.number ≡ None
    by_stage Pending e k = k.1
    by_stage Open e k = absurd cc
    by_stage Ended e k = absurd cc

  come : WorldSocket
  come = with_end T (comes socket.t) socket

  here : slice_get after.cells place ≡ Some (keeping cell kept (cell.1 + 1))
  here = ap (λ (l : List (Cell × ℕ)). slice_get l place) cells ∙ got_same world.cells place cell (keeping cell kept (cell.1 + 1)) at

  there : find (is_socket number) (with_socket kept cell.0.host).sockets ≡ Some kept
  there = find_stored kept cell.0.host.sockets number ∙ ap (λ b. cond b (Some kept) (find (is_socket number) cell.0.host.sockets)) (number_same number)

  reader_was : reader_of world socket T ≡ Some (expected.Request, [])
  reader_was = ap (λ (c : Option ℕ). reads_at (readers_of world.cells) expected.Request c socket.t.number) at_cell ∙ ap (reads_at (readers_of world.cells) expected.Request (Some place)) unnumbered

  reader_is : reader_of after come T ≡ Some (expected.Request, [])
  reader_is = ap (λ (c : Option ℕ). reads_at (readers_of after.cells) expected.Request c (Some number)) at_cell ∙ ap (λ (o : Option (Cell × ℕ)). reader_at o number) here ∙ ap reader_in there

  over_is : (stage : Stage) → is_pending stage ≡ true → (false || socket.t.is_cut) ≡ (is_ended stage || socket.t.is_cut)
  over_is Pending e = refl
  over_is Open e = refl
  over_is Ended e = absurd cc

  come_texts : (e : End) → SameText (reader_of world socket e) (end_of e socket).unread (reader_of after come e) (end_of e come).unread
  come_texts O = text_off world after place cell kept (cell.1 + 1) socket O at cells (off socket.name socket O is)
  come_texts T = subst (λ (r : Option Reader). SameText r socket.t.unread (reader_of after come T) socket.t.unread) (sym reader_was) (subst (λ (r : Option Reader). SameText (Some (expected.Request, [])) socket.t.unread r socket.t.unread) (sym reader_is) (refl, refl))

  come_places : (e : End) → (end_of e come).places ≡ (end_of e socket).places
  come_places O = refl
  come_places T = refl

  come_lives : (e : End) → is_over (end_of e come) ≡ false → is_over (end_of e socket) ≡ false
  come_lives O h = h
  come_lives T h = sym (over_is socket.t.stage pending) ∙ h

  come_number : (e : End) (n : ℕ) → (end_of e socket).number ≡ Some n → (end_of e come).number ≡ Some n
  come_number O n h = h
  come_number T n h = let no : ◌≡◌ {A = Option ℕ} None (Some n) = sym unnumbered ∙ h in absurd cc

  by_change : (s : SockName) (w : WorldSocket) → IsChanged socket.name T comes (with_cell place (cell.0, cell.1 + 1) world) s w ⊎ IsAnother socket.name (with_cell place (cell.0, cell.1 + 1) world) s w → Rests world after s w
  by_change s w (inl c) = subst (Rests world after s) come_is (record { before = socket; found = subst (λ (n : SockName). find (is_socket_named n) world.sockets ≡ Some socket) c.name is; texts = come_texts; places = come_places; lives = come_lives; number = come_number }) where
    old_is : socket ≡ c.old
    old_is = let same : ◌≡◌ {A = Option WorldSocket} (Some socket) (Some c.old) = sym is ∙ c.found in cc

    come_is : come ≡ w
    come_is = ap (λ (v : WorldSocket). with_end T (comes v.t) v) old_is ∙ c.is
  by_change s w (inr a) = record { before = w; found = a.found; texts = λ e. text_off world after place cell kept (cell.1 + 1) w e at cells (off s w e a.found); places = λ e. refl; lives = λ e h. h; number = λ e n h. h }

pub came_turns : (journal : List Line) (log : List Entry) (world : World) (socket : WorldSocket) (place : ℕ) (cell : Cell × ℕ) (told : List Step) (host : HostState) → IsIn socket world → can_come socket ≡ true → socket.t.cell ≡ Some place → IsCalled world place cell (sockets.Came (2 * cell.1 + 1) socket.from_host) told host → Sound journal log world
    → AllTurn 0 [] none_new log world (log ++ entries.Came socket.name ∷ (done_at place (cell.0, cell.1 + 1) told host (come_in place cell socket world)).0) (done_at place (cell.0, cell.1 + 1) told host (come_in place cell socket world)).1
unfolding host_on
came_turns journal log world socket place cell told host is can at_cell c p = as_done (Ok ([], now)) c.does (came_kept journal log world socket place cell is can at_cell c.at p) where
  now : HostState
  now = with_socket (accepted (2 * cell.1 + 1) socket.from_host) cell.0.host

  told_in : Stepped → List Step
  told_in (Ok done) = done.0
  told_in done = told

  host_in : Stepped → HostState
  host_in (Ok done) = done.1
  host_in done = host

  Turned : List Step → HostState → Type 0
  Turned l h = AllTurn 0 [] none_new log world (log ++ entries.Came socket.name ∷ (done_at place (cell.0, cell.1 + 1) l h (come_in place cell socket world)).0) (done_at place (cell.0, cell.1 + 1) l h (come_in place cell socket world)).1

  as_done : (done : Stepped) → done ≡ Ok (told, host) → Turned (told_in done) (host_in done) → Turned told host
  as_done done e f = subst (λ (d : Stepped). Turned (told_in d) (host_in d)) e f

-- ---- bytes are fed

-- the record that a host keeps with the bytes
abbrev with_bytes : Socket → List ℕ → Socket
with_bytes known bytes = record known { since = known.since ++ bytes }

-- an end that is fed, whose host keeps that
record IsFed (world : World) (socket : WorldSocket) (which : End) (place n : ℕ) (cell : Cell × ℕ) (known : Socket) : Type 0 where
  at : slice_get world.cells place ≡ Some cell
  is : find (is_socket_named socket.name) world.sockets ≡ Some socket
  held : IsHeldBy place n (end_of which socket)
  kept : find (is_socket n) cell.0.host.sockets ≡ Some known
  each : EachFound world.sockets

of_end : (place n : ℕ) (end : WorldEnd) → IsHeldBy place n end → is_end_of place n end ≡ true
of_end place n end h = ap (λ (c : Option ℕ). same_number c place && same_number end.number n) h.cell ∙ ap (λ (m : Option ℕ). same_number (Some place) place && same_number m n) h.number ∙ ap (λ b. b && (n == n)) (number_same place) ∙ number_same n

fed_kept : (log : List Entry) (world : World) (socket : WorldSocket) (which : End) (count : ℕ) (place n : ℕ) (cell : Cell × ℕ) (known : Socket) (fed : ℕ) → IsFed world socket which place n cell known
    → AllTurn 0 [] none_new log world (log ++ entries.Fed socket.name which fed ∷ []) (done_at place cell [] (with_socket (with_bytes known (take count (end_of which socket).unread)) cell.0.host) (fed_in which count socket world)).1
fed_kept log world socket which count place n cell known fed f = rest_turns log world (log ++ entries.Fed socket.name which fed ∷ []) after (λ s w found. by_change s w (changed_or socket.name which feeds world s w found)) (λ s none. end_none socket.name which feeds world s none) (λ s e. wrote_none log (entries.Fed socket.name which fed) s e refl) where
  bytes : List ℕ
  bytes = take count (end_of which socket).unread

  kept : Socket
  kept = with_bytes known bytes

  now : Cell × ℕ
  now = keeping cell kept cell.1

  feeds : WorldEnd → WorldEnd
  feeds end = record end { unread = drop count end.unread }

  after : World
  after = (done_at place cell [] (with_socket kept cell.0.host) (fed_in which count socket world)).1

  cells : after.cells ≡ slice_set world.cells place now
  cells = ap (λ (l : List (Cell × ℕ)). slice_set l place now) (cells_stay socket.name which feeds world)

  number : known.number ≡ n
  number = number_found n cell.0.host.sockets known f.kept

  found_end : find_end place n world.sockets ≡ Some (socket.name, which)
  found_end = f.each socket.name socket which place n f.is (of_end place n (end_of which socket) f.held)

  as_kept : (end : WorldEnd) → is_end_of place n end ≡ false → is_end_of place kept.number end ≡ false
  as_kept end off = subst (λ (m : ℕ). is_end_of place m end ≡ false) (sym number) off

  -- what is read elsewhere is the same
  same_off : (w : WorldSocket) (e : End) → is_end_of place n (end_of e w) ≡ false → SameText (reader_of world w e) (end_of e w).unread (reader_of after w e) (end_of e w).unread
  same_off w e off = text_off world after place cell kept cell.1 w e f.at cells (as_kept (end_of e w) off)

  here : slice_get after.cells place ≡ Some now
  here = ap (λ (l : List (Cell × ℕ)). slice_get l place) cells ∙ got_same world.cells place cell now f.at

  there : find (is_socket n) (with_socket kept cell.0.host).sockets ≡ Some kept
  there = find_stored kept cell.0.host.sockets n ∙ ap (λ b. cond b (Some kept) (find (is_socket n) cell.0.host.sockets)) (subst (λ (m : ℕ). (m == n) ≡ true) (sym number) (number_same n))

  -- what is fed is read with what is unread
  text_fed : (first : Expected) (end : WorldEnd) → IsHeldBy place n end → bytes ≡ take count end.unread → SameText (reads_at (readers_of world.cells) first end.cell end.number) end.unread (reads_at (readers_of after.cells) first end.cell end.number) (drop count end.unread)
  text_fed first end held fed = subst (λ (r : Option Reader). SameText r end.unread (reads_at (readers_of after.cells) first end.cell end.number) (drop count end.unread)) (sym was) (subst (λ (r : Option Reader). SameText (reader_in (Some known)) end.unread r (drop count end.unread)) (sym is_now) (by_stage (is_ended known.stage))) where
    was : reads_at (readers_of world.cells) first end.cell end.number ≡ reader_in (Some known)
    was = ap (λ (c : Option ℕ). reads_at (readers_of world.cells) first c end.number) held.cell ∙ ap (reads_at (readers_of world.cells) first (Some place)) held.number ∙ ap (λ (o : Option (Cell × ℕ)). reader_at o n) f.at ∙ ap reader_in f.kept

    is_now : reads_at (readers_of after.cells) first end.cell end.number ≡ reader_in (Some kept)
    is_now = ap (λ (c : Option ℕ). reads_at (readers_of after.cells) first c end.number) held.cell ∙ ap (reads_at (readers_of after.cells) first (Some place)) held.number ∙ ap (λ (o : Option (Cell × ℕ)). reader_at o n) here ∙ ap reader_in there

    by_stage : (b : Bool) → SameText (cond b None (Some (known.expected, known.since))) end.unread (cond b None (Some (known.expected, known.since ++ bytes))) (drop count end.unread)
    by_stage true = tt
    by_stage false = (refl, append_assoc known.since bytes (drop count end.unread) ∙ ap (λ (l : List ℕ). known.since ++ (l ++ drop count end.unread)) fed ∙ ap (λ (l : List ℕ). known.since ++ l) (take-append-drop count end.unread))

  off_other : (x : End) → same_end which x ≡ false → is_end_of place n (end_of x socket) ≡ false
  off_other x not_same = other_end_there place n world.sockets (socket.name, which) socket x f.each found_end f.is not_same

  fed_socket : End → WorldSocket
  fed_socket w = with_end w (feeds (end_of w socket)) socket

  which_texts : (w e : End) → IsHeldBy place n (end_of w socket) → bytes ≡ take count (end_of w socket).unread → ((x : End) → same_end w x ≡ false → is_end_of place n (end_of x socket) ≡ false) → SameText (reader_of world socket e) (end_of e socket).unread (reader_of after (fed_socket w) e) (end_of e (fed_socket w)).unread
  which_texts O O held fed others = text_fed expected.Answer socket.o held fed
  which_texts O T held fed others = same_off socket T (others T refl)
  which_texts T O held fed others = same_off socket O (others O refl)
  which_texts T T held fed others = text_fed expected.Request socket.t held fed

  fed_places : (w e : End) → (end_of e (fed_socket w)).places ≡ (end_of e socket).places
  fed_places O O = refl
  fed_places O T = refl
  fed_places T O = refl
  fed_places T T = refl

  fed_lives : (w e : End) → is_over (end_of e (fed_socket w)) ≡ false → is_over (end_of e socket) ≡ false
  fed_lives O O h = h
  fed_lives O T h = h
  fed_lives T O h = h
  fed_lives T T h = h

  fed_number : (w e : End) (m : ℕ) → (end_of e socket).number ≡ Some m → (end_of e (fed_socket w)).number ≡ Some m
  fed_number O O m h = h
  fed_number O T m h = h
  fed_number T O m h = h
  fed_number T T m h = h

  by_change : (s : SockName) (w : WorldSocket) → IsChanged socket.name which feeds world s w ⊎ IsAnother socket.name world s w → Rests world after s w
  by_change s w (inl c) = subst (Rests world after s) fed_is (record { before = socket; found = subst (λ (m : SockName). find (is_socket_named m) world.sockets ≡ Some socket) c.name f.is; texts = λ e. which_texts which e f.held refl off_other; places = fed_places which; lives = fed_lives which; number = fed_number which }) where
    old_is : socket ≡ c.old
    old_is = let same : ◌≡◌ {A = Option WorldSocket} (Some socket) (Some c.old) = sym f.is ∙ c.found in cc

    fed_is : fed_socket which ≡ w
    fed_is = ap (λ (v : WorldSocket). with_end which (feeds (end_of which v)) v) old_is ∙ c.is
  by_change s w (inr a) = record { before = w; found = a.found; texts = λ e. same_off w e (not_found place n world.sockets s w e f.each a.found (λ h. clash e (sym found_end ∙ h))); places = λ e. refl; lives = λ e h. h; number = λ e m h. h } where
    name_in : Option (SockName × End) → SockName
    name_in None = s
    name_in (Some at) = at.0

    clash : (e : End) → ◌≡◌ {A = Option (SockName × End)} (Some (socket.name, which)) (Some (s, e)) → ⊥
    clash e h = let same : socket.name ≡ s = ap name_in h in let yes : same_socket socket.name s ≡ true = subst (λ (m : SockName). same_socket socket.name m ≡ true) same (self_same socket.name) in let no : same_socket socket.name s ≡ false = a.other in absurd cc

-- what a host does with bytes for an open end of it
feeds_host : (host : HostState) (n : ℕ) (bytes : List ℕ) (known : Socket) → find (is_socket n) host.sockets ≡ Some known → is_open known.stage ≡ true → ◌≡◌ {A = Stepped} (Ok ([], with_socket (with_bytes known bytes) host)) (host_on host (sockets.Fed n bytes))
unfolding host_on
feeds_host host n bytes known found stands = sym (ap (λ (o : Option Socket). elim o as (λ o. Stepped) [
  | None ↦ still host
  | Some socket ↦ cond (is_open socket.stage) (keeps bytes socket host) (still host)
]) found ∙ ap (λ b. cond b (keeps bytes known host) (still host)) stands)

pub fed_turns : (journal : List Line) (log : List Entry) (world : World) (socket : WorldSocket) (which : End) (count b : ℕ) (bytes : List ℕ) (place n : ℕ) (cell : Cell × ℕ) (told : List Step) (host : HostState) → IsIn socket world → can_feed which socket ≡ true → take count (end_of which socket).unread ≡ b ∷ bytes → IsHeldBy place n (end_of which socket)
    → IsCalled world place cell (sockets.Fed n (b ∷ bytes)) told host → Sound journal log world → AllTurn 0 [] none_new log world (log ++ entries.Fed socket.name which (length (b ∷ bytes)) ∷ (done_at place cell told host (fed_in which count socket world)).0) (done_at place cell told host (fed_in which count socket world)).1
fed_turns journal log world socket which count b bytes place n cell told host is can taken held c p = as_done (Ok ([], with_socket (with_bytes known (b ∷ bytes)) cell.0.host)) (feeds_host cell.0.host n (b ∷ bytes) known kept.1 stands ∙ c.does)
    (subst (λ (l : List ℕ). AllTurn 0 [] none_new log world (log ++ entries.Fed socket.name which (length (b ∷ bytes)) ∷ []) (done_at place cell [] (with_socket (with_bytes known l) cell.0.host) (fed_in which count socket world)).1) taken
    (fed_kept log world socket which count place n cell known (length (b ∷ bytes)) (record { at = c.at; is = is; held = held; kept = kept.1; each = p.ends.sure.ends.each })))
  where
    kept : (known : Socket) × (find (is_socket n) cell.0.host.sockets ≡ Some known)
    kept = end_kept journal log world socket.name socket which place cell p.ends.sure is c.at n held.cell held.number

    known : Socket
    known = kept.0

    -- its end is open
    stage : known.stage ≡ (end_of which socket).stage
    stage = one (sym (ap (option_map (λ (w : Socket). w.stage)) kept.1) ∙ p.ends.sure.ends.agrees.ends place cell c.at n ∙ its_stage journal log world socket which place n p.ends.sure is held.cell held.number) where
      one : ◌≡◌ {A = Option Stage} (Some known.stage) (Some (end_of which socket).stage) → known.stage ≡ (end_of which socket).stage
      one e = cc

    stands : is_open known.stage ≡ true
    stands = ap is_open stage ∙ (and_parts (is_open (end_of which socket).stage) (is_of_host (end_of which socket)) (and_parts (is_at_work which socket) (has_input which socket) can).0).0

    told_in : Stepped → List Step
    told_in (Ok done) = done.0
    told_in done = told

    host_in : Stepped → HostState
    host_in (Ok done) = done.1
    host_in done = host

    Turned : List Step → HostState → Type 0
    Turned l h = AllTurn 0 [] none_new log world (log ++ entries.Fed socket.name which (length (b ∷ bytes)) ∷ (done_at place cell l h (fed_in which count socket world)).0) (done_at place cell l h (fed_in which count socket world)).1

    as_done : (done : Stepped) → done ≡ Ok (told, host) → Turned (told_in done) (host_in done) → Turned told host
    as_done done e f = subst (λ (d : Stepped). Turned (told_in d) (host_in d)) e f
