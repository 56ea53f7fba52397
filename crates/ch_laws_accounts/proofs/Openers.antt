-- In a journal of many nodes an opener's end is joined, and writes, only under a declared name.
use Rattle.std.proofs.Common.{◌≡◌, ℕ, ◌+◌, ◌*◌, ◌≤◌, Bool, true, false, cond, not, ◌&&◌, ◌||◌, List, [], ◌∷◌, ◌++◌, length, take, drop, Ok, Err, refl, sym, ap, ◌∙◌, subst, append_assoc, arith}
use Rattle.std.proofs.lemmas.Bool.{and_parts}
use Rattle.std.proofs.lemmas.List.{append-nil}
use Rattle.std.specs.List.{list_any, list_all}
use Rattle.std.specs.Option.{option_map}
use Rattle.std.specs.Prelude.{find, is_some, slice_get, Option, Some, None, ◌==◌}
use Rattle.ch_static.specs.declared.command.Command.TheVariants as commands
use Rattle.ch_model.specs.declared.entry.Entry.{Entry}
use Rattle.ch_model.specs.declared.entry.Entry.TheVariants as entries
use Rattle.ch_model.specs.declared.entry.Verdict.TheVariants as verdicts
use Rattle.ch_model.specs.declared.line.Line.{Line}
use Rattle.ch_model.specs.declared.line.What.{What}
use Rattle.ch_model.specs.declared.line.What.TheVariants as lines
use Rattle.ch_model.specs.declared.local.LocalEvent.{LocalEvent}
use Rattle.ch_model.specs.declared.local.LocalEvent.TheVariants as events
use Rattle.ch_model.specs.declared.name.End.{End}
use Rattle.ch_model.specs.declared.name.End.TheVariants.{O, T}
use Rattle.ch_model.specs.declared.name.SockName.{SockName}
use Rattle.ch_model.specs.declared.step.SocketEvent.{SocketEvent}
use Rattle.ch_model.specs.declared.step.SocketEvent.TheVariants as sockets
use Rattle.ch_model.specs.HostState.{Socket, HostState}
use Rattle.ch_model.specs.HostSteps.{is_socket}
use Rattle.ch_model.specs.Naming.{address_as, target_as}
use Rattle.ch_model.specs.Settle.{Happened}
use Rattle.ch_model.specs.Sockets.{is_opening, opens_opener, ends_opener, closes, end_state}
use Rattle.ch_model.specs.Stages.{Stage, Pending, Open, Ended, is_pending, is_open}
use Rattle.ch_model.specs.World.{◌>>=◌, names_of, world_new, world_step, line_answered, log_from, log_of}
use Rattle.ch_model.specs.WorldHappenings.{Answered, after_entry, with_cell, cell_hears, end_hears, joins, comes_at, comes, hands, feeds, mark_of}
use Rattle.ch_model.specs.WorldLines.{node_hears, on_socket, can_join, can_come, can_feed, is_at_work, line_done}
use Rattle.ch_model.specs.WorldSockets.{end_of, opened, is_of_host, has_input, is_socket_named, with_end_of, same_number, is_end_of, find_end, cell_of}
use Rattle.ch_model.specs.WorldState.{Cell, Named, WorldEnd, WorldSocket, World}
use Rattle.ch_laws_log.specs.Declared.{is_declared}
use Rattle.ch_laws_log.specs.HostEnds.{stage_at}
use Rattle.ch_laws_log.specs.Lines.{AllLines}
use Rattle.ch_laws_log.specs.WorldEnds.{stage_found}
use Rattle.ch_laws_log.proofs.Agreeing.{Good, keeps_good}
use Rattle.ch_laws_log.proofs.Kept.{IsIn, LedOn}
use Rattle.ch_laws_log.proofs.Stored.{IsHeld, number_is, number_same, same_is, find_name, found_end}
use Rattle.ch_laws_ends.proofs.Came.{MayCome, come_as, come_found, come_sockets}
use Rattle.ch_laws_ends.proofs.Found.{none_found}
use Rattle.ch_laws_ends.proofs.Known.{TargetIs, pending_is}
use Rattle.ch_laws_ends.proofs.Lines.{step_sure, fresh_sure}
use Rattle.ch_laws_ends.proofs.Mirrored.{opener_stands}
use Rattle.ch_laws_ends.proofs.Places.{some_is}
use Rattle.ch_laws_ends.proofs.Told.{Sure}
use Rattle.ch_laws_links.specs.Cells.{standing_local, ComesFreeTo}
use Rattle.ch_laws_links.specs.Naming.{Word, stage_says}
use Rattle.ch_laws_links.specs.Standing.{Standing, IsOpen, standing, standing_of, standing_at, is_there, joined}
use Rattle.ch_laws_links.proofs.Happenings.{step_led}
use Rattle.ch_laws_links.proofs.Worlds.{came_may, end_cells, set_here, Named as NamedCells, holds_named, named_after}
use Rattle.ch_laws_many.specs.ManyLines.{is_of_many}
use Rattle.ch_laws_many.proofs.Led.{IsSet, step_goes, GoesOn}
use Rattle.ch_laws_many.proofs.Reached.{IsJournal, named, fresh_reached}
use Rattle.ch_laws_writes.proofs.Found.{KeepsPlace, kept_ends}
use Rattle.ch_laws_accounts.specs.Openers.{is_of_declared}
use Rattle.ch_laws_accounts.proofs.Told.{AreOf, of_both, Fit, fit_still, AnsweredOf, MayTell, hears_of}

-- ---- what holds before each line

-- Hosts and world agree, hosts are naming, the sockets are led, and the log so far is such.
pub record Here (journal : List Line) (log : List Entry) (world : World) : Type 0 where
  pub sure : Sure journal log world
  pub naming : NamedCells journal log world
  pub set : IsSet (names_of journal) world
  pub of : AreOf (names_of journal) log

-- an opener's end that the log opens is of a declared name
opened_by : (known : List Named) (s : SockName) (x : Entry) → is_of_declared known x ≡ true → opens_opener s x ≡ true → is_declared known s.from ≡ true
opened_by known s (entries.Joined sock) of h = subst (λ (n : SockName). is_declared known n.from ≡ true) (same_is sock s h) of
opened_by known s (entries.Knocked sock) of h = absurd cc
opened_by known s x of h = absurd cc

opened_in : (known : List Named) (s : SockName) (log : List Entry) → AreOf known log → list_any (opens_opener s) log ≡ true → is_declared known s.from ≡ true
opened_in known s [] of h = absurd cc
opened_in known s (x ∷ log) of h = by_test (opens_opener s x) refl h (opened_in known s log of.1) where
  by_test : (b : Bool) → opens_opener s x ≡ b → (b || list_any (opens_opener s) log) ≡ true → (list_any (opens_opener s) log ≡ true → is_declared known s.from ≡ true) → is_declared known s.from ≡ true
  by_test true e h more = opened_by known s x of.0 e
  by_test false e h more = more h

open_told : (journal : List Line) (log : List Entry) (s : SockName) → end_state journal log s O ≡ Some Open → list_any (opens_opener s) log ≡ true
open_told journal log s e = by_all (list_any (is_opening s) log) (list_any (closes s O) log) (list_any (ends_opener s) log) (list_any (opens_opener s) log) e where
  by_all : (a b c d : Bool) → ◌≡◌ {A = Option Stage} (cond (not a) None (cond b (Some Ended) (Some (cond c Ended (cond d Open Pending))))) (Some Open) → d ≡ true
  by_all a b c true e = refl
  by_all false b c false e = absurd cc
  by_all true true c false e = absurd cc
  by_all true false true false e = absurd cc
  by_all true false false false e = absurd cc

there_open : (host : HostState) (n : ℕ) → is_there (standing_at host n) ≡ true → stage_at host n ≡ Some Open
there_open host n = by_socket (find (is_socket n) host.sockets) where
  by_stage : (stage : Stage) (word : Word) → is_there (Some (standing stage word)) ≡ true → ◌≡◌ {A = Option Stage} (Some stage) (Some Open)
  by_stage Pending word h = absurd cc
  by_stage Open word h = refl
  by_stage Ended word h = absurd cc

  by_socket : (o : Option Socket) → is_there (option_map standing_of o) ≡ true → option_map (λ (socket : Socket). socket.stage) o ≡ Some Open
  by_socket None h = absurd cc
  by_socket (Some socket) h = by_stage socket.stage (stage_says socket.stage socket.expected) h

-- so each opener's end that a host has open is of a declared name
base_fits : (journal : List Line) (log : List Entry) (world : World) → Here journal log world → (place : ℕ) (cell : Cell × ℕ) → slice_get world.cells place ≡ Some cell → Fit (names_of journal) (standing_at cell.0.host) place world.sockets
base_fits journal log world h place cell at n end found there is_o = opened_in (names_of journal) end.0 log h.of (open_told journal log end.0 (opener_stands journal log world end.0 held.socket h.sure held.is ∙ ap Some stands)) where
  held : IsHeld end.0 world.sockets
  held = found_end place n world.sockets end found

  stage : ◌≡◌ {A = Option Stage} (Some (end_of end.1 held.socket).stage) (Some Open)
  stage = sym (ap (λ (o : Option (SockName × End)). stage_found o world.sockets) found ∙ ap (option_map (λ (w : WorldSocket). (end_of end.1 w).stage)) held.is) ∙ sym (h.sure.ends.agrees.ends place cell at n) ∙ there_open cell.0.host n there

  stands : held.socket.o.stage ≡ Open
  stands = ap (λ (e : End). (end_of e held.socket).stage) (sym is_o) ∙ some_is (end_of end.1 held.socket).stage Open stage

-- ---- what is heard

-- an event that opens no end, where the ends are found as before
plain_tells : (journal : List Line) (log : List Entry) (world : World) → Here journal log world → (place : ℕ) (cell : Cell × ℕ) (event : LocalEvent) (all : List WorldSocket) → slice_get world.cells place ≡ Some cell → ComesFreeTo cell.0.host event → ((n : ℕ) (x : Option Standing) → is_there (standing_local event n x) ≡ true → is_there x ≡ true)
    → ((n : ℕ) → find_end place n all ≡ find_end place n world.sockets) → MayTell (names_of journal) place cell.0 event all
plain_tells journal log world h place cell event all at comes less same = record {
  naming = (h.naming.1 place cell at).naming;
  comes = comes;
  fit = fit_still (names_of journal) (standing_at cell.0.host) (λ n. standing_local event n (standing_at cell.0.host n)) place world.sockets all same (λ n. less n (standing_at cell.0.host n)) (base_fits journal log world h place cell at);
}

node_of : (journal : List Line) (log : List Entry) (world : World) → Here journal log world → (name : List ℕ) (event : ℕ → LocalEvent) → ((end : ℕ) (host : HostState) → ComesFreeTo host (event end)) → ((end n : ℕ) (x : Option Standing) → is_there (standing_local (event end) n x) ≡ true → is_there x ≡ true) → AnsweredOf (names_of journal) (node_hears name event world)
node_of journal log world h name event comes less = by_cell (cell_of world (address_as world.names name)) where
  end : ℕ
  end = (address_as world.names name).id

  by_cell : (o : Option ℕ) → AnsweredOf (names_of journal) (elim o as (λ o. Answered) [
    | None ↦ Ok ((verdicts.Nothing, []), world)
    | Some place ↦ cell_hears place (event end) world
  ])
  by_cell None = tt
  by_cell (Some place) = hears_of (names_of journal) journal log place (event end) world h.naming.0 (λ cell at. plain_tells journal log world h place cell (event end) world.sockets at (comes end cell.0.host) (less end) (λ n. refl))

end_of_host : (known : List Named) (journal : List Line) (log : List Entry) (end : WorldEnd) (event : ℕ → SocketEvent) (world : World) → Good journal log world
    → ((place number : ℕ) (cell : Cell × ℕ) → end.cell ≡ Some place → end.number ≡ Some number → slice_get world.cells place ≡ Some cell → MayTell known place cell.0 (events.Socket (event number)) world.sockets) → AnsweredOf known (end_hears end event world)
end_of_host known journal log end event world g may = by_cell end.cell refl end.number refl where
  by_cell : (o : Option ℕ) → end.cell ≡ o → (n : Option ℕ) → end.number ≡ n → AnsweredOf known (elim o as (λ o. Answered) [
    | None ↦ Ok ((verdicts.Nothing, []), world)
    | Some place ↦ elim n [
      | None ↦ Ok ((verdicts.Nothing, []), world)
      | Some number ↦ cell_hears place (events.Socket (event number)) world
    ]
  ])
  by_cell None c n e = tt
  by_cell (Some place) c None e = tt
  by_cell (Some place) c (Some number) e = hears_of known journal log place (events.Socket (event number)) world g (λ cell at. may place number cell c e at)

entry_of : (known : List Named) (entry : Entry) (done : Answered) → is_of_declared known entry ≡ true → AnsweredOf known done → AnsweredOf known (after_entry entry done)
entry_of known entry (Ok done) e a = (e, a)
entry_of known entry (Err stop) e a = tt

-- ---- sockets

socket_of : (known : List Named) (sock : SockName) (test : WorldSocket → Bool) (f : WorldSocket → World → Answered) (world : World) → ((s : WorldSocket) → s.name ≡ sock → IsIn s world → test s ≡ true → AnsweredOf known (f s world)) → AnsweredOf known (on_socket sock test f world)
socket_of known sock test f world each = by_socket (find (is_socket_named sock) world.sockets) refl where
  by_test : (s : WorldSocket) → s.name ≡ sock → IsIn s world → (b : Bool) → test s ≡ b → AnsweredOf known (cond b (f s world) (Ok ((verdicts.Nothing, []), world)))
  by_test s name is true e = each s name is e
  by_test s name is false e = tt

  by_socket : (o : Option WorldSocket) → find (is_socket_named sock) world.sockets ≡ o → AnsweredOf known (elim o as (λ o. Answered) [
    | None ↦ Ok ((verdicts.Nothing, []), world)
    | Some socket ↦ cond (test socket) (f socket world) (Ok ((verdicts.Nothing, []), world))
  ])
  by_socket None e = tt
  by_socket (Some s) e = let name = find_name sock world.sockets s e in
      by_test s name (subst (λ (n : SockName). find (is_socket_named n) world.sockets ≡ Some s) (sym name) e) (test s) refl

fed_keeps : (count : ℕ) → KeepsPlace (λ end. record end { unread = drop count end.unread })
fed_keeps count = record { cell = λ end. refl; number = λ end. refl; pending = λ end e. e }

opened_keeps : KeepsPlace opened
opened_keeps = record { cell = λ end. refl; number = λ end. refl; pending = λ end e. absurd cc }

feeds_of : (journal : List Line) (log : List Entry) (world : World) → Here journal log world → (which : End) (count : ℕ) (socket : WorldSocket) → IsIn socket world → can_feed which socket ≡ true → AnsweredOf (names_of journal) (feeds which count socket world)
feeds_of journal log world h which count socket is can = entry_of known (entries.Fed socket.name which (length bytes)) (hands bytes (end_of which socket) later) refl (handed bytes) where
  known : List Named
  known = names_of journal

  bytes : List ℕ
  bytes = take count (end_of which socket).unread

  later : World
  later = with_end_of socket.name which (λ end. record end { unread = drop count end.unread }) world

  parts : (is_at_work which socket ≡ true) × (has_input which socket ≡ true)
  parts = and_parts (is_at_work which socket) (has_input which socket) can

  good : Good journal (log ++ entries.Fed socket.name which (length bytes) ∷ []) later
  good = (keeps_good journal).fed log world socket which count is (and_parts (is_open (end_of which socket).stage) (is_of_host (end_of which socket)) parts.0).0 parts.1 tt h.naming.0

  tells : (place : ℕ) (cell : Cell × ℕ) (event : LocalEvent) → slice_get later.cells place ≡ Some cell → ComesFreeTo cell.0.host event → ((n : ℕ) (x : Option Standing) → is_there (standing_local event n x) ≡ true → is_there x ≡ true) → MayTell known place cell.0 event later.sockets
  tells place cell event at comes less = plain_tells journal log world h place cell event later.sockets (ap (λ (cells : List (Cell × ℕ)). slice_get cells place) (sym (end_cells socket.name which (λ end. record end { unread = drop count end.unread }) world)) ∙ at) comes less
      (kept_ends socket.name which (λ end. record end { unread = drop count end.unread }) world (fed_keeps count) place)

  handed : (all : List ℕ) → AnsweredOf known (hands all (end_of which socket) later)
  handed [] = end_of_host known journal (log ++ entries.Fed socket.name which (length bytes) ∷ []) (end_of which socket) (λ sock. sockets.Ended sock) later good (λ place number cell c n at. tells place cell (events.Socket (sockets.Ended number)) at tt (λ m x t. t))
  handed (b ∷ rest) = end_of_host known journal (log ++ entries.Fed socket.name which (length bytes) ∷ []) (end_of which socket) (λ sock. sockets.Fed sock (b ∷ rest)) later good (λ place number cell c n at. tells place cell (events.Socket (sockets.Fed number (b ∷ rest))) at tt (λ m x t. t))

joins_of : (journal : List Line) (log : List Entry) (world : World) → Here journal log world → (socket : WorldSocket) → IsIn socket world → is_pending socket.o.stage ≡ true → is_declared (names_of journal) socket.name.from ≡ true → AnsweredOf (names_of journal) (joins socket world)
joins_of journal log world h socket is pending declared = entry_of known (entries.Joined socket.name) (end_hears socket.o (λ sock. sockets.Joined sock) later) declared
    (end_of_host known journal (log ++ entries.Joined socket.name ∷ []) socket.o (λ sock. sockets.Joined sock) later ((keeps_good journal).joined log world socket is pending h.naming.0) tells) where
      known : List Named
      known = names_of journal

      later : World
      later = with_end_of socket.name O opened world

      tells : (place number : ℕ) (cell : Cell × ℕ) → socket.o.cell ≡ Some place → socket.o.number ≡ Some number → slice_get later.cells place ≡ Some cell → MayTell known place cell.0 (events.Socket (sockets.Joined number)) later.sockets
      tells place number cell c m at = record { naming = (h.naming.1 place cell was).naming; comes = tt; fit = λ n end found there is_o. by_test n end (number == n) refl (sym (kept_ends socket.name O opened world opened_keeps place n) ∙ found) there is_o } where
        was : slice_get world.cells place ≡ Some cell
        was = ap (λ (cells : List (Cell × ℕ)). slice_get cells place) (sym (end_cells socket.name O opened world)) ∙ at

        own : is_end_of place number socket.o ≡ true
        own = ap (λ (o : Option ℕ). same_number o place && same_number socket.o.number number) c ∙ ap (λ (o : Option ℕ). (place == place) && same_number o number) m ∙ ap (λ b. b && (number == number)) (number_same place) ∙ number_same number

        by_test : (n : ℕ) (end : SockName × End) (b : Bool) → (number == n) ≡ b → find_end place n world.sockets ≡ Some end → is_there (cond b (joined (standing_at cell.0.host n)) (standing_at cell.0.host n)) ≡ true → end.1 ≡ O → is_declared known end.0.from ≡ true
        by_test n end true e found there is_o = let its : (socket.name, O) ≡ end = some_is (socket.name, O) end (sym (h.sure.ends.each socket.name socket O place n is (subst (λ (k : ℕ). is_end_of place k socket.o ≡ true) (number_is number n e) own)) ∙ found) in
            subst (λ (a : SockName × End). is_declared known a.0.from ≡ true) its declared
        by_test n end false e found there is_o = base_fits journal log world h place cell was n end found there is_o

comes_of : (journal : List Line) (log : List Entry) (world : World) → Here journal log world → (socket : WorldSocket) → IsIn socket world → is_pending socket.t.stage ≡ true → AnsweredOf (names_of journal) (comes socket world)
comes_of journal log world h socket is pending = by_place socket.t.cell refl where
  known : List Named
  known = names_of journal

  target : TargetIs Pending socket.t.cell socket.t.number
  target = subst (λ (x : Stage). TargetIs x socket.t.cell socket.t.number) (pending_is socket.t.stage pending) (h.sure.ends.sorted.1 socket.name socket is).t

  later : ℕ → Cell × ℕ → World
  later place cell = with_end_of socket.name T (come_as (2 * cell.1 + 1)) (with_cell place (cell.0, cell.1 + 1) world)

  self : (n : ℕ) → n ≤ n
  self n = omega arith

  may : (place : ℕ) (cell : Cell × ℕ) → socket.t.cell ≡ Some place → slice_get world.cells place ≡ Some cell → MayCome place (2 * cell.1 + 1) socket world.sockets
  may place cell c at = record { is = is; apart = h.sure.ends.sorted.0.apart; each = h.sure.ends.each; cell = c; unnumbered = target.1; free = none_found place (2 * cell.1 + 1) world.sockets (h.sure.ends.agrees.accepted place cell at cell.1 (self cell.1)) }

  good : (place : ℕ) (cell : Cell × ℕ) → Good journal (log ++ entries.Came socket.name ∷ []) (later place cell)
  good place cell = (keeps_good journal).came log (with_cell place (cell.0, cell.1 + 1) world) socket (2 * cell.1 + 1) is pending ((keeps_good journal).cell log world place (cell.0, cell.1 + 1) h.naming.0)

  now_found : (place : ℕ) (cell : Cell × ℕ) → socket.t.cell ≡ Some place → slice_get world.cells place ≡ Some cell → (n : ℕ) (b : Bool) → (2 * cell.1 + 1 == n) ≡ b → find_end place n (later place cell).sockets ≡ cond b (Some (socket.name, T)) (find_end place n world.sockets)
  now_found place cell c at n b e = ap (find_end place n) (come_sockets (2 * cell.1 + 1) socket (with_cell place (cell.0, cell.1 + 1) world) is) ∙ come_found place (2 * cell.1 + 1) socket world.sockets (may place cell c at) place n
      ∙ ap (λ b. cond b (Some (socket.name, T)) (find_end place n world.sockets)) (ap (λ b. b && (2 * cell.1 + 1 == n)) (number_same place) ∙ e)

  fits : (place : ℕ) (cell : Cell × ℕ) → socket.t.cell ≡ Some place → slice_get world.cells place ≡ Some cell → Fit known (λ n. cond (2 * cell.1 + 1 == n) (Some IsOpen) (standing_at cell.0.host n)) place (later place cell).sockets
  fits place cell c at n end found there is_o = by_test (2 * cell.1 + 1 == n) refl there where
    target_not : (a : SockName × End) → (socket.name, T) ≡ a → a.1 ≡ O → ⊥
    target_not a e o = let no : ◌≡◌ {A = End} T O = ap (λ (x : SockName × End). x.1) e ∙ o in absurd cc

    by_test : (b : Bool) → (2 * cell.1 + 1 == n) ≡ b → is_there (cond b (Some IsOpen) (standing_at cell.0.host n)) ≡ true → is_declared known end.0.from ≡ true
    by_test true e there = absurd (target_not end (some_is (socket.name, T) end (sym (now_found place cell c at n true e) ∙ found)) is_o)
    by_test false e there = base_fits journal log world h place cell at n end (sym (now_found place cell c at n false e) ∙ found) there is_o

  tells : (place : ℕ) (cell : Cell × ℕ) → socket.t.cell ≡ Some place → slice_get world.cells place ≡ Some cell → (next : Cell × ℕ) → slice_get (later place cell).cells place ≡ Some next → MayTell known place next.0 (events.Came (mark_of socket.o) (2 * cell.1 + 1) socket.from_host) (later place cell).sockets
  tells place cell c at next there = subst (λ (k : Cell × ℕ). MayTell known place k.0 (events.Came (mark_of socket.o) (2 * cell.1 + 1) socket.from_host) (later place cell).sockets)
      (sym (set_here world.cells place cell (cell.0, cell.1 + 1) next at (ap (λ (cells : List (Cell × ℕ)). slice_get cells place) (sym (end_cells socket.name T (come_as (2 * cell.1 + 1)) (with_cell place (cell.0, cell.1 + 1) world))) ∙ there)))
      (record { naming = (h.naming.1 place cell at).naming; comes = (came_may cell (mark_of socket.o) socket.from_host (h.naming.1 place cell at)).comes; fit = fits place cell c at })

  by_cell : (place : ℕ) → socket.t.cell ≡ Some place → (o : Option (Cell × ℕ)) → slice_get world.cells place ≡ o → AnsweredOf known (elim o as (λ o. Answered) [
    | None ↦ Ok ((verdicts.Nothing, []), world)
    | Some cell ↦ cell_hears place (events.Came (mark_of socket.o) (2 * cell.1 + 1) socket.from_host) (later place cell)
  ])
  by_cell place c None at = tt
  by_cell place c (Some cell) at = hears_of known journal (log ++ entries.Came socket.name ∷ []) place (events.Came (mark_of socket.o) (2 * cell.1 + 1) socket.from_host) (later place cell) (good place cell) (tells place cell c at)

  by_place : (o : Option ℕ) → socket.t.cell ≡ o → AnsweredOf known (elim o as (λ o. Answered) [
    | None ↦ Ok ((verdicts.Nothing, []), world)
    | Some place ↦ after_entry (entries.Came socket.name) (comes_at place socket world)
  ])
  by_place None c = tt
  by_place (Some place) c = entry_of known (entries.Came socket.name) (comes_at place socket world) refl (by_cell place c (slice_get world.cells place) refl)

-- ---- lines

line_of : (journal : List Line) (log : List Entry) (what : What) (world : World) → is_of_many (names_of journal) what ≡ true → Here journal log world → AnsweredOf (names_of journal) (line_done what world)
line_of journal log (lines.Node name address unique) world of h = tt
line_of journal log (lines.Proc node) world of h = node_of journal log world h node (λ end. events.Make end) (λ end host. tt) (λ end n x t. t)
line_of journal log (lines.Send by to mark body) world of h = node_of journal log world h by.node (λ end. events.Command end by.counter (commands.Send (target_as world.names to) (record { mark = mark; body = body }))) (λ end host. tt) (λ end n x t. t)
line_of journal log (lines.Recv by mark) world of h = node_of journal log world h by.node (λ end. events.Command end by.counter (commands.Receive mark)) (λ end host. tt) (λ end n x t. t)
line_of journal log (lines.End by) world of h = node_of journal log world h by.node (λ end. events.Command end by.counter commands.End) (λ end host. tt) (λ end n x t. t)
line_of journal log (lines.Join sock) world of h = socket_of (names_of journal) sock can_join joins world (λ s name is e. joins_of journal log world h s is (and_parts (is_pending s.o.stage) (is_some s.t.cell) e).0
    (ap (λ (n : SockName). is_declared (names_of journal) n.from) name ∙ (and_parts (is_declared (names_of journal) sock.from) (is_declared (names_of journal) sock.to) of).0))
line_of journal log (lines.Come sock) world of h = socket_of (names_of journal) sock can_come comes world (λ s name is e. comes_of journal log world h s is e)
line_of journal log (lines.Feed sock end count) world of h = socket_of (names_of journal) sock (can_feed end) (feeds end count) world (λ s name is e. feeds_of journal log world h end count s is e)
line_of journal log what world of h = absurd cc

abbrev HappenedOf : List Named → Happened → Type 0
HappenedOf known (Ok done) = AreOf known done.0
HappenedOf known (Err stop) = Unit {0}

answered_of : (known : List Named) (number : ℕ) (done : Answered) → AnsweredOf known done → HappenedOf known (line_answered number done)
answered_of known number (Ok done) a = (refl, a)
answered_of known number (Err stop) a = tt

step_of : (journal : List Line) (log : List Entry) (number : ℕ) (what : What) (world : World) → is_of_many (names_of journal) what ≡ true → Here journal log world → HappenedOf (names_of journal) (world_step world (record { number = number; what = what }))
step_of journal log number (lines.Node name address unique) world of h = tt
step_of journal log number (lines.Away name address unique) world of h = absurd cc
step_of journal log number (lines.Label node label) world of h = absurd cc
step_of journal log number (lines.Stranger name host) world of h = absurd cc
step_of journal log number lines.Settle world of h = absurd cc
step_of journal log number what world of h = answered_of (names_of journal) number (line_done what world) (line_of journal log what world of h)

here_kept : (journal : List Line) → IsJournal journal → (log : List Entry) (world : World) (number : ℕ) (what : What) → is_of_many (names_of journal) what ≡ true → Here journal log world → LedOn (Here journal) log (world_step world (record { number = number; what = what }))
here_kept journal j log world number what of h = by_done (world_step world (record { number = number; what = what })) (step_sure journal log world number what h.sure) (step_led (NamedCells journal) (holds_named journal) log world number what h.naming) (step_goes (names_of journal) (named journal j) number what world of h.set) (step_of journal log number what world of h) where
  by_done : (done : Happened) → LedOn (Sure journal) log done → LedOn (NamedCells journal) log done → GoesOn (names_of journal) done → HappenedOf (names_of journal) done → LedOn (Here journal) log done
  by_done (Ok done) s n g o = record { sure = s; naming = n; set = g.1; of = of_both (names_of journal) log done.0 h.of o }
  by_done (Err stop) s n g o = tt

all_here : (journal : List Line) → IsJournal journal → (rest : List Line) (log : List Entry) (world : World) → AllLines (is_of_many (names_of journal)) rest → Here journal log world → LedOn (Here journal) log (log_from world rest)
all_here journal j [] log world of h = subst (λ (l : List Entry). Here journal l world) (sym (append-nil log)) h
all_here journal j (line ∷ rest) log world of h = by_step (world_step world line) (here_kept journal j log world line.number line.what of.0 h) (λ l w k. all_here journal j rest l w of.1 k) where
  by_rest : (told : List Entry) (more : Happened) → LedOn (Here journal) (log ++ told) more → LedOn (Here journal) log (more >>= λ more. Ok (told ++ more.0, more.1))
  by_rest told (Ok more) l = subst (λ (k : List Entry). Here journal k more.1) (append_assoc log told more.0) l
  by_rest told (Err stop) l = tt

  by_step : (one : Happened) → LedOn (Here journal) log one → ((l : List Entry) (w : World) → Here journal l w → LedOn (Here journal) l (log_from w rest)) → LedOn (Here journal) log (one >>= λ done. log_from done.1 rest >>= λ more. Ok (done.0 ++ more.0, more.1))
  by_step (Ok done) a more = by_rest done.0 (log_from done.1 rest) (more (log ++ done.0) done.1 a)
  by_step (Err stop) a more = tt

fresh_here : (journal : List Line) → IsJournal journal → Here journal [] (world_new journal)
fresh_here journal j = record { sure = fresh_sure journal; naming = named_after journal [] [] (world_new journal) refl; set = (fresh_reached journal j).set; of = tt }

-- the log and the last world of such a journal
pub record Ends (journal : List Line) (log : List Entry) : Type 0 where
  pub world : World
  pub is : log_from (world_new journal) journal ≡ Ok (log, world)
  pub here : Here journal log world

pub journal_ends : (journal : List Line) → IsJournal journal → (log : List Entry) → log_of journal ≡ Ok log → Ends journal log
journal_ends journal j log is = by_log (log_from (world_new journal) journal) refl (all_here journal j journal [] (world_new journal) j.lines (fresh_here journal j)) is where
  by_log : (done : Happened) → log_from (world_new journal) journal ≡ done → LedOn (Here journal) [] done → (done >>= λ done. Ok done.0) ≡ Ok log → Ends journal log
  by_log (Ok done) f h e = let same : done.0 ≡ log = cc in subst (λ (l : List Entry). Ends journal l) same (record { world = done.1; is = f; here = h })
  by_log (Err stop) f h e = absurd cc

pub all_declared : (journal : List Line) → IsJournal journal → (log : List Entry) → log_of journal ≡ Ok log → list_all (is_of_declared (names_of journal)) log ≡ true
all_declared journal j log is = each log (journal_ends journal j log is).here.of where
  each : (all : List Entry) → AreOf (names_of journal) all → list_all (is_of_declared (names_of journal)) all ≡ true
  each [] a = refl
  each (x ∷ rest) a = ap (λ b. b && list_all (is_of_declared (names_of journal)) rest) a.0 ∙ each rest a.1
