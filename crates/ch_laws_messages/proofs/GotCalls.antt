-- An end is joined, has come, is handed bytes or the end of its input: nothing changes of what was got.
use Rattle.std.proofs.Common.{◌≡◌, ℕ, ◌+◌, Bool, true, false, cond, List, [], ◌∷◌, ◌++◌, Ok, Err, refl, ap, ◌∙◌, subst, arith}
use Rattle.std.specs.Prelude.{find, slice_get, slice_set, Option, Some, None}
use Rattle.ch_base.specs.declared.address.Address.{Address}
use Rattle.ch_model.specs.declared.entry.Entry.{Entry}
use Rattle.ch_model.specs.declared.line.Line.{Line}
use Rattle.ch_model.specs.declared.name.ProcName.{ProcName}
use Rattle.ch_model.specs.declared.step.SocketEvent.{SocketEvent}
use Rattle.ch_model.specs.declared.step.SocketEvent.TheVariants as sockets
use Rattle.ch_model.specs.declared.step.Step.{Step}
use Rattle.ch_model.specs.CellSteps.{told_steps}
use Rattle.ch_model.specs.Host.{on_socket, joins, keeps, host_on}
use Rattle.ch_wire.specs.Spelling.{request_spelling}
use Rattle.ch_model.specs.HostWrites.{writes}
use Rattle.ch_model.specs.HostState.{Link, Socket, HostState}
use Rattle.ch_model.specs.HostSteps.{Stepped, still, own_address, link_with, with_socket, is_socket}
use Rattle.ch_model.specs.Stages.{Stage, Open, is_pending, is_open}
use Rattle.ch_model.specs.WorldHappenings.{with_cell}
use Rattle.ch_model.specs.WorldState.{Cell, World}
use Rattle.ch_model.specs.WorldSteps.{all_told}
use Rattle.ch_race.specs.Pair.{Side, other}
use Rattle.ch_laws_bytes.proofs.Told.{told_names}
use Rattle.ch_laws_ends.proofs.Changes.{told_cells}
use Rattle.ch_laws_race.specs.Scene.{Party}
use Rattle.ch_laws_calls.specs.Calls.{with_host, done_at}
use Rattle.ch_laws_writes.specs.Orderly.{link_at}
use Rattle.ch_laws_peers.specs.Reads.{gets_of, read_of, Gets}
use Rattle.ch_laws_messages.proofs.GotBounds.{SameGot}
use Rattle.ch_laws_messages.proofs.GotTold.{steps_got, got_both}
use Rattle.ch_laws_messages.proofs.GotAsked.{told_same}
use Rattle.ch_laws_messages.proofs.GotWorlds.{cell_still}

-- ---- links stand

abbrev KeepsLinks : HostState → Stepped → Type 0
KeepsLinks host (Ok done) = done.1.links ≡ host.links
KeepsLinks host (Err stop) = Unit {0}

on_end_links : (test : Stage → Bool) (sock : ℕ) (f : Socket → HostState → Stepped) (host : HostState) → ((socket : Socket) → KeepsLinks host (f socket host)) → KeepsLinks host (on_socket test sock f host)
on_end_links test sock f host each = by_socket (find (is_socket sock) host.sockets) where
  by_test : (socket : Socket) (b : Bool) → KeepsLinks host (cond b (f socket host) (still host))
  by_test socket true = each socket
  by_test socket false = refl

  by_socket : (o : Option Socket) → KeepsLinks host (elim o as (λ o. Stepped) [
    | None ↦ still host
    | Some socket ↦ cond (test socket.stage) (f socket host) (still host)
  ])
  by_socket None = refl
  by_socket (Some socket) = by_test socket (test socket.stage)

joined_links : (host : HostState) (n : ℕ) → KeepsLinks host (host_on host (sockets.Joined n))
unfolding host_on
joined_links host n = on_end_links is_pending n joins host each where
  by_user : (socket : Socket) (u : Option (ℕ × Address)) → KeepsLinks host (elim u as (λ u. Stepped) [
    | None ↦ still host
    | Some user ↦ writes socket.number (request_spelling (record { target = user.1.id; from = own_address host user.0 })) (with_socket (record socket { stage = Open }) host)
  ])
  by_user socket None = refl
  by_user socket (Some user) = refl

  each : (socket : Socket) → KeepsLinks host (joins socket host)
  each socket = by_user socket socket.user

came_links : (host : HostState) (n : ℕ) (text : List ℕ) → KeepsLinks host (host_on host (sockets.Came n text))
unfolding host_on
came_links host n text = refl

fed_links : (host : HostState) (n : ℕ) (bytes : List ℕ) → KeepsLinks host (host_on host (sockets.Fed n bytes))
unfolding host_on
fed_links host n bytes = on_end_links is_open n (keeps bytes) host (λ socket. refl)

-- it is an event that leaves links as they are
abbrev pub IsOfSocket : SocketEvent → Type 0
IsOfSocket (sockets.Joined n) = Unit {0}
IsOfSocket (sockets.Came n text) = Unit {0}
IsOfSocket (sockets.Fed n bytes) = Unit {0}
IsOfSocket event = ⊥

pub links_stand : (event : SocketEvent) (host after : HostState) (steps : List Step) → IsOfSocket event → host_on host event ≡ Ok (steps, after) → after.links ≡ host.links
links_stand (sockets.Joined n) host after steps i e = subst (KeepsLinks host) e (joined_links host n)
links_stand (sockets.Came n text) host after steps i e = subst (KeepsLinks host) e (came_links host n text)
links_stand (sockets.Fed n bytes) host after steps i e = subst (KeepsLinks host) e (fed_links host n bytes)
links_stand event host after steps i e = absurd i

-- ---- the calls

pub host_still : (journal : List Line) (log : List Entry) (entry : Entry) (world mid : World) (party : Side → Party) (x : Side) (place n : ℕ) (cell : Cell × ℕ) (steps : List Step) (host : HostState) → Gets journal log world party x → slice_get world.cells place ≡ Some cell → ((p q : ProcName) → gets_of p q (entry ∷ []) ≡ 0)
    → ((e : ℕ) (p : Address) → (link_with host e p).created ≡ (link_with cell.0.host e p).created) → (with_cell place (with_host cell host, n) mid).cells ≡ slice_set world.cells place (with_host cell host, n) → mid.names ≡ world.names
    → let done = done_at place (cell.0, n) steps host mid in read_of party done.1 x (log ++ entry ∷ done.0) ≡ read_of party world x log → Gets journal (log ++ entry ∷ done.0) done.1 party x
host_still journal log entry world mid party x place n cell steps host g at none created cells names read = cell_still journal log (log ++ entry ∷ final.0) world final.1 party x place cell (with_host cell host, n) g at (told_cells place (with_host cell host) (told_steps steps) kept ∙ cells) (told_names place (with_host cell host) (told_steps steps) kept ∙ names) (λ p. (created (party (other x)).address.id (party (other (other x))).address, refl)) read got where
  kept : World
  kept = with_cell place (with_host cell host, n) mid

  final : List Entry × World
  final = all_told place (with_host cell host) (told_steps steps) kept

  assoc : (xs ys : List Entry) (z : Entry) → xs ++ z ∷ ys ≡ (xs ++ z ∷ []) ++ ys
  assoc [] ys z = refl
  assoc (w ∷ xs) ys z = ap (λ (l : List Entry). w ∷ l) (assoc xs ys z)

  no_more : (k m : ℕ) → m ≡ 0 → k + m ≡ k
  no_more k m e = omega arith

  got : SameGot (party x) (party (other x)) log (log ++ entry ∷ final.0)
  got p q a b = ap (gets_of p q) (assoc log final.0 entry) ∙ told_same place (with_host cell host) (told_steps steps) kept (log ++ entry ∷ []) p q (steps_got kept.names p q steps) ∙ got_both p q log (entry ∷ []) ∙ no_more (gets_of p q log) (gets_of p q (entry ∷ [])) (none p q)

pub links_created : (host after : HostState) → after.links ≡ host.links → (e : ℕ) (p : Address) → (link_with after e p).created ≡ (link_with host e p).created
links_created host after same e p = ap (λ (l : List Link). (link_at l e p).created) same
