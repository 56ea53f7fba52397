-- An opener's end that is joined leaves a plain world.
use Rattle.std.proofs.Common.{◌≡◌, ℕ, true, false, List, [], ◌∷◌, ◌++◌, Ok, refl, sym, ap, ◌∙◌, subst}
use Rattle.std.proofs.lemmas.Bool.{and_parts}
use Rattle.std.specs.Prelude.{find, slice_get, slice_set, is_some, Option, Some, Result}
use Rattle.ch_base.specs.declared.address.Address.{Address}
use Rattle.ch_model.specs.declared.entry.Entry.{Entry}
use Rattle.ch_model.specs.declared.entry.Entry.TheVariants as entries
use Rattle.ch_model.specs.declared.line.Line.{Line}
use Rattle.ch_model.specs.declared.name.End.TheVariants.{O}
use Rattle.ch_model.specs.declared.name.SockName.{SockName}
use Rattle.ch_model.specs.declared.step.SocketEvent.TheVariants as sockets
use Rattle.ch_model.specs.declared.step.Step.{Step}
use Rattle.ch_model.specs.CellSteps.{told_steps}
use Rattle.ch_model.specs.Host.{host_on}
use Rattle.ch_model.specs.HostState.{HostState}
use Rattle.ch_model.specs.Stages.{Stage, Pending, Open, Ended, is_pending, is_ended}
use Rattle.ch_model.specs.WorldHappenings.{with_cell}
use Rattle.ch_model.specs.WorldLines.{can_join}
use Rattle.ch_model.specs.WorldSockets.{opened, is_socket_named}
use Rattle.ch_model.specs.WorldState.{Cell, WorldSocket, World}
use Rattle.ch_laws_bytes.proofs.Lines.{own_of}
use Rattle.ch_laws_bytes.proofs.Told.{end_names, told_names}
use Rattle.ch_laws_calls.specs.Calls.{with_host, done_at, IsCalled, IsHeldBy, IsIn, AllRead, joined_in}
use Rattle.ch_laws_calls.specs.Sound.{Sound}
use Rattle.ch_laws_ends.proofs.Changes.{cells_stay, told_cells}
use Rattle.ch_laws_ends.proofs.Found.{EachFound, each_kept}
use Rattle.ch_laws_ends.proofs.Known.{Sorted, keeps_sorted}
use Rattle.ch_laws_ends.proofs.Places.{set_split}
use Rattle.ch_laws_calls.specs.FitsTurns.{NoDials}
use Rattle.ch_laws_calls.proofs.FitsEvents.{AllAlone, joined_alone}
use Rattle.ch_laws_calls.proofs.FitsSockets.{WasThere, opened_goes, none_first_goes, told_goes}
use Rattle.ch_laws_plain.specs.Plain.{CellIsPlain, WorldIsPlain}
use Rattle.ch_laws_plain.proofs.Ends.{there_plain}
use Rattle.ch_laws_plain.specs.LinesRests.{Rests, AllRest}
use Rattle.ch_laws_plain.proofs.LinesRests.{rests_carries, links_plain, rests_joined}

-- what was done
rests_done : {E : Type 0} (own : ℕ → Address) (host after : HostState) (told : List Step) (done : Result (List Step × HostState) E) → AllRest own host done → done ≡ Ok (told, after) → Rests own host told after
rests_done own host after told done r e = subst (AllRest own host) e r

-- the cells are plain, where one is another now
pub cells_plain : (world after : World) (place : ℕ) (cell now : Cell × ℕ) → slice_get world.cells place ≡ Some cell → after.cells ≡ slice_set world.cells place now → ((p : ℕ) (c : Cell × ℕ) → slice_get world.cells p ≡ Some c → CellIsPlain c.0) → CellIsPlain now.0 → (p : ℕ) (c : Cell × ℕ) → slice_get after.cells p ≡ Some c → CellIsPlain c.0
cells_plain world after place cell now at cells all one p c f = set_split world.cells place cell now at (λ p c. CellIsPlain c.0) one (λ p c e g. all p c g) p c (ap (λ (l : List (Cell × ℕ)). slice_get l p) (sym cells) ∙ f)

-- each socket was there before an opener's end was joined, and what the host wrote then has come to its ends
joined_were : (journal : List Line) (log : List Entry) (world : World) (socket : WorldSocket) (place : ℕ) (cell : Cell × ℕ) (told : List Step) (host : HostState) → IsIn socket world → can_join socket ≡ true → Sound journal log world → NoDials told → (s : SockName) (w : WorldSocket)
    → find (is_socket_named s) (done_at place cell told host (joined_in socket world)).1.sockets ≡ Some w → WasThere place told world s w
joined_were journal log world socket place cell told host is can p alone s w found =
    let later = told_goes journal place (with_host cell host) told (log ++ entries.Joined socket.name ∷ []) kept ((keeps_sorted journal).cell (log ++ entries.Joined socket.name ∷ []) open_world place (with_host cell host, cell.1) sorted) each alone s w found in
    let first = opened_goes place socket.name O world live s later.before later.found in
    record { before = first.before; found = first.found; goes = none_first_goes place told first.before later.before w first.goes later.goes }
  where
    open_world : World
    open_world = joined_in socket world

    kept : World
    kept = with_cell place (with_host cell host, cell.1) open_world

    pending : is_pending socket.o.stage ≡ true
    pending = (and_parts (is_pending socket.o.stage) (is_some socket.t.cell) can).0

    sorted : Sorted journal (log ++ entries.Joined socket.name ∷ []) open_world
    sorted = (keeps_sorted journal).joined log world socket is pending p.ends.sure.ends.sorted

    each : EachFound open_world.sockets
    each = each_kept socket.name O opened world (λ end. (refl, refl)) p.ends.sure.ends.each

    not_ended : (stage : Stage) → is_pending stage ≡ true → is_ended stage ≡ false
    not_ended Pending e = refl
    not_ended Open e = refl
    not_ended Ended e = absurd cc

    live : (old : WorldSocket) → find (is_socket_named socket.name) world.sockets ≡ Some old → is_ended old.o.stage ≡ false
    live old found = let same : ◌≡◌ {A = Option WorldSocket} (Some socket) (Some old) = sym is ∙ found in subst (λ (w : WorldSocket). is_ended w.o.stage ≡ false) (one same) (not_ended socket.o.stage pending) where
      one : ◌≡◌ {A = Option WorldSocket} (Some socket) (Some old) → socket ≡ old
      one e = cc

pub joined_plain : (journal : List Line) (log : List Entry) (world : World) (socket : WorldSocket) (place n : ℕ) (cell : Cell × ℕ) (steps : List Step) (host : HostState) → IsIn socket world → can_join socket ≡ true → IsHeldBy place n socket.o → IsCalled world place cell (sockets.Joined n) steps host → AllRead world → Sound journal log world → WorldIsPlain journal world
    → WorldIsPlain journal (done_at place cell steps host (joined_in socket world)).1
joined_plain journal log world socket place n cell steps host is can held c read p j = record {
  cells = cells_plain world after place cell (with_host cell host, cell.1) c.at cells j.cells (links_plain cell host rests.links (j.cells place cell c.at));
  ends = λ s w e found may. there_plain journal log world after place cell (with_host cell host, cell.1) steps p.ends.sure p.ends.flowing j c.at cells names (rests_carries (own_of journal place) cell steps host rests) s w e (joined_were journal log world socket place cell steps host is can p alone s w found) may;
} where
  open_world : World
  open_world = joined_in socket world

  kept : World
  kept = with_cell place (with_host cell host, cell.1) open_world

  after : World
  after = (done_at place cell steps host open_world).1

  cells : after.cells ≡ slice_set world.cells place (with_host cell host, cell.1)
  cells = told_cells place (with_host cell host) (told_steps steps) kept ∙ ap (λ (l : List (Cell × ℕ)). slice_set l place (with_host cell host, cell.1)) (cells_stay socket.name O opened world)

  names : after.names ≡ world.names
  names = told_names place (with_host cell host) (told_steps steps) kept ∙ end_names socket.name O opened world

  rests : Rests (own_of journal place) cell.0.host steps host
  rests = rests_done (own_of journal place) cell.0.host host steps (host_on cell.0.host (sockets.Joined n)) (rests_joined (own_of journal place) cell.0.host n (p.ends.flowing.orderly place cell c.at)) c.does

  alone : NoDials steps
  alone = subst AllAlone c.does (joined_alone cell.0.host n)
