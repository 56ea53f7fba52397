-- An end that is joined, or that comes, is open before its host is called.
use Rattle.std.proofs.Common.{◌≡◌, ◌≤◌, ℕ, ◌+◌, ◌*◌, Bool, true, false, cond, ◌&&◌, List, [], ◌∷◌, ◌++◌, refl, sym, ap, ◌∙◌, subst, arith}
use Rattle.std.specs.Option.{option_map}
use Rattle.std.specs.Prelude.{slice_get, slice_set, Option, Some, None, is_some, ◌==◌}
use Rattle.ch_model.specs.declared.entry.Entry.{Entry}
use Rattle.ch_model.specs.declared.entry.Entry.TheVariants as entries
use Rattle.ch_model.specs.declared.line.Line.{Line}
use Rattle.ch_model.specs.declared.name.End.TheVariants.{O, T}
use Rattle.ch_model.specs.declared.step.SocketEvent.TheVariants as sockets
use Rattle.ch_model.specs.declared.step.Step.{Step}
use Rattle.ch_model.specs.HostState.{HostState}
use Rattle.ch_model.specs.Stages.{is_pending}
use Rattle.ch_model.specs.WorldHappenings.{with_cell}
use Rattle.ch_model.specs.WorldSockets.{opened}
use Rattle.ch_model.specs.WorldState.{Cell, WorldEnd, WorldSocket, World}
use Rattle.ch_laws_log.proofs.Agreeing.{keeps_good}
use Rattle.ch_laws_ends.proofs.Places.{got_same}
use Rattle.ch_laws_bytes.proofs.Event as events
use Rattle.ch_laws_bytes.proofs.Lines.{own_of}
use Rattle.ch_laws_links.specs.Cells.{IsNamingCell}
use Rattle.ch_laws_links.specs.Risings.{IsToldAs}
use Rattle.ch_laws_links.specs.Standing.{Standing, IsOpen, standing_of, standing_at, joined, standing_heard}
use Rattle.ch_laws_links.proofs.Journals.{now_at, now_of, here_set, there_set, opens_in_place, not_both}
use Rattle.ch_laws_links.proofs.Logs.{came_told}
use Rattle.ch_laws_links.proofs.Risen.{quietly, restand, rekept, set_at, joined_told}
use Rattle.ch_laws_links.proofs.Worlds.{AllNaming, set_naming, end_cells, joined_may, came_may}
use Rattle.ch_laws_pairs.proofs.Heard.{changed_asked, counted_asked}
use Rattle.ch_laws_calls.specs.Calls.{IsIn, IsCalled, done_at, joined_in, come_in}
use Rattle.ch_laws_calls.specs.Sound.{SoundLinks}
use Rattle.ch_laws_calls.proofs.StandingMakes.{makes_from, event_makes}
use Rattle.ch_laws_calls.proofs.StandingTold.{Ready, call_links, stands_there, after_entry}

-- ---- an end that is joined

-- the end under this number is joined
abbrev pub joined_now : ℕ → ℕ → List (Cell × ℕ) → ℕ → ℕ → Option Standing
joined_now place n all = set_at place n joined (now_of all)

joined_ready : (journal : List Line) (log : List Entry) (world : World) (socket : WorldSocket) (place n : ℕ) → IsIn socket world → is_pending socket.o.stage ≡ true → Ready journal (now_of world.cells) log world
    → Ready journal (joined_now place n world.cells) (log ++ entries.Joined socket.name ∷ []) (joined_in socket world)
joined_ready journal log world socket place n is pending r = record {
  good = (keeps_good journal).joined log world socket is pending r.good;
  naming = subst AllNaming (sym (end_cells socket.name O opened world)) r.naming;
  agrees = restand (now_of world.cells) (joined_now place n world.cells) (log ++ entries.Joined socket.name ∷ []) (joined_in socket world).sockets
      (λ p m risen closed t. still ((place == p) && (n == m)) (now_of world.cells p m) risen closed t) (λ p m h. known ((place == p) && (n == m)) (now_of world.cells p m) h)
      (quietly (now_of world.cells) log (joined_in socket world).sockets (entries.Joined socket.name) tt
      (rekept (now_of world.cells) log world socket.name O opened socket is opens_in_place (λ h. absurd (not_both socket.o.stage pending h)) r.agrees));
  asked = changed_asked (own_of journal) socket.name O opened world (λ end. (refl, refl)) r.asked;
} where
  still : (b : Bool) (x : Option Standing) (risen closed : Bool) → IsToldAs x risen closed → IsToldAs (cond b (joined x) x) risen closed
  still true x risen closed t = joined_told x risen closed t
  still false x risen closed t = t

  known : (b : Bool) (x : Option Standing) → is_some (cond b (joined x) x) ≡ true → is_some x ≡ true
  known true None h = h
  known true (Some s) h = refl
  known false x h = h

pub joined_links : (journal : List Line) (log : List Entry) (world : World) (socket : WorldSocket) (place n : ℕ) (cell : Cell × ℕ) (steps : List Step) (host : HostState) → IsIn socket world → is_pending socket.o.stage ≡ true
    → IsCalled world place cell (sockets.Joined n) steps host → Ready journal (now_of world.cells) log world
    → let done = done_at place cell steps host (joined_in socket world) in SoundLinks journal (log ++ entries.Joined socket.name ∷ done.0) done.1
joined_links journal log world socket place n cell steps host is pending called r = after_entry journal log (entries.Joined socket.name) done.0 done.1
    (call_links journal (log ++ entries.Joined socket.name ∷ []) (joined_in socket world) place cell steps host (joined_now place n world.cells) (joined_ready journal log world socket place n is pending r) (ap (λ (all : List (Cell × ℕ)). slice_get all place) same ∙ called.at)
    (makes_from cell (λ m. standing_heard (sockets.Joined n) m (standing_at cell.0.host m)) (joined_now place n world.cells place) steps host (λ m. sym (here_set place n joined (now_of world.cells) m (standing_at cell.0.host m) (stands_there world.cells place cell called.at m)))
    (event_makes cell (sockets.Joined n) steps host (joined_may cell n (r.naming place cell called.at)) tt (r.naming place cell called.at).naming (r.asked.homes place cell called.at).asking called.does))
    (λ p m h. there_set place n p m joined (now_of world.cells) h ∙ ap (λ (all : List (Cell × ℕ)). now_of all p m) (sym same))) where
      done : List Entry × World
      done = done_at place cell steps host (joined_in socket world)

      same : (joined_in socket world).cells ≡ world.cells
      same = end_cells socket.name O opened world

-- ---- an end that comes

-- the end under this number is open
abbrev pub come_now : ℕ → ℕ → List (Cell × ℕ) → ℕ → ℕ → Option Standing
come_now place n all = set_at place n (λ x. Some IsOpen) (now_of all)

-- the end of the next socket that the cell accepts
abbrev pub comes : ℕ → WorldEnd → WorldEnd
comes count end = record (opened end) { number = Some (2 * count + 1) }

-- the cells as one accepts a socket
come_cells : (place : ℕ) (cell : Cell × ℕ) (socket : WorldSocket) (world : World) → (come_in place cell socket world).cells ≡ slice_set world.cells place (cell.0, cell.1 + 1)
come_cells place cell socket world = end_cells socket.name T (comes cell.1) (with_cell place (cell.0, cell.1 + 1) world)

one_more : (cell : Cell × ℕ) → IsNamingCell cell → IsNamingCell (cell.0, cell.1 + 1)
one_more cell s = record { naming = s.naming; free = λ k l. s.free k (below cell.1 k l) } where
  below : (c k : ℕ) → c + 1 ≤ k → c ≤ k
  below c k l = omega arith

-- no end of the host stands under that number
none_stands : (cell : Cell × ℕ) → IsNamingCell cell → standing_at cell.0.host (2 * cell.1 + 1) ≡ None
none_stands cell s = ap (option_map standing_of) (s.free cell.1 (same_as cell.1)) where
  same_as : (n : ℕ) → n ≤ n
  same_as n = omega arith

come_ready : (journal : List Line) (log : List Entry) (world : World) (socket : WorldSocket) (place : ℕ) (cell : Cell × ℕ) → IsIn socket world → is_pending socket.t.stage ≡ true → socket.t.cell ≡ Some place → slice_get world.cells place ≡ Some cell → Ready journal (now_of world.cells) log world
    → Ready journal (come_now place (2 * cell.1 + 1) world.cells) (log ++ entries.Came socket.name ∷ []) (come_in place cell socket world)
come_ready journal log world socket place cell is pending to at r = record {
  good = (keeps_good journal).came log counted socket (2 * cell.1 + 1) is pending ((keeps_good journal).cell log world place (cell.0, cell.1 + 1) r.good);
  naming = subst AllNaming (sym (come_cells place cell socket world)) (set_naming world.cells place (cell.0, cell.1 + 1) r.naming (one_more cell (r.naming place cell at)));
  agrees = quietly (come_now place (2 * cell.1 + 1) world.cells) log (come_in place cell socket world).sockets (entries.Came socket.name) tt
      (came_told (now_of world.cells) log counted socket.name socket place (2 * cell.1 + 1) is pending to (stands_there world.cells place cell at (2 * cell.1 + 1) ∙ none_stands cell (r.naming place cell at)) r.agrees);
  asked = changed_asked (own_of journal) socket.name T (comes cell.1) counted (λ end odd. (cell.1, refl)) (counted_asked (own_of journal) place (cell.1 + 1) cell world at r.asked);
} where
  counted : World
  counted = with_cell place (cell.0, cell.1 + 1) world

pub came_links : (journal : List Line) (log : List Entry) (world : World) (socket : WorldSocket) (place : ℕ) (cell : Cell × ℕ) (steps : List Step) (host : HostState) → IsIn socket world → is_pending socket.t.stage ≡ true → socket.t.cell ≡ Some place
    → IsCalled world place cell (sockets.Came (2 * cell.1 + 1) socket.from_host) steps host → Ready journal (now_of world.cells) log world
    → let done = done_at place (cell.0, cell.1 + 1) steps host (come_in place cell socket world) in SoundLinks journal (log ++ entries.Came socket.name ∷ done.0) done.1
came_links journal log world socket place cell steps host is pending to called r = after_entry journal log (entries.Came socket.name) done.0 done.1
    (call_links journal (log ++ entries.Came socket.name ∷ []) (come_in place cell socket world) place (cell.0, cell.1 + 1) steps host (come_now place (2 * cell.1 + 1) world.cells) (come_ready journal log world socket place cell is pending to called.at r)
    (ap (λ (all : List (Cell × ℕ)). slice_get all place) same ∙ got_same world.cells place cell (cell.0, cell.1 + 1) called.at)
    (makes_from (cell.0, cell.1 + 1) (λ m. standing_heard (sockets.Came (2 * cell.1 + 1) socket.from_host) m (standing_at cell.0.host m)) (come_now place (2 * cell.1 + 1) world.cells place) steps host
    (λ m. sym (here_set place (2 * cell.1 + 1) (λ x. Some IsOpen) (now_of world.cells) m (standing_at cell.0.host m) (stands_there world.cells place cell called.at m)))
    (event_makes (cell.0, cell.1 + 1) (sockets.Came (2 * cell.1 + 1) socket.from_host) steps host (let may = came_may cell 0 socket.from_host (r.naming place cell called.at) in record { comes = may.comes; free = may.free }) (cell.1, refl)
    (r.naming place cell called.at).naming (r.asked.homes place cell called.at).asking called.does))
    elsewhere) where
      done : List Entry × World
      done = done_at place (cell.0, cell.1 + 1) steps host (come_in place cell socket world)

      same : (come_in place cell socket world).cells ≡ slice_set world.cells place (cell.0, cell.1 + 1)
      same = come_cells place cell socket world

      elsewhere : (p m : ℕ) → (place == p) ≡ false → come_now place (2 * cell.1 + 1) world.cells p m ≡ now_of (come_in place cell socket world).cells p m
      elsewhere p m h = there_set place (2 * cell.1 + 1) p m (λ x. Some IsOpen) (now_of world.cells) h
          ∙ sym (ap (λ (all : List (Cell × ℕ)). now_of all p m) same ∙ ap (λ (o : Option (Cell × ℕ)). now_at o m) (events.set_at world.cells place cell (cell.0, cell.1 + 1) p called.at ∙ ap (λ b. cond b (Some (cell.0, cell.1 + 1)) (slice_get world.cells p)) h))
