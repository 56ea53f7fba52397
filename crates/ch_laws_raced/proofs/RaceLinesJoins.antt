-- A socket that is joined, as a move of two nodes.
use Rattle.std.specs.Prelude.{◌≡◌, ◌⊎◌, ℕ, Bool, true, false, cond, List, [], ◌∷◌, find, is_some, slice_get, slice_set, Option, Some, None}
use Rattle.std.proofs.Common.{inl, inr, refl, ap, sym, ◌∙◌, subst}
use Rattle.std.proofs.lemmas.Bool.{and_parts}
use Rattle.ch_base.specs.declared.address.Address.{Address}
use Rattle.ch_wire.specs.Spelling.{request_spelling}
use Rattle.ch_model.specs.declared.entry.Entry.{Entry}
use Rattle.ch_model.specs.declared.line.Line.{Line}
use Rattle.ch_model.specs.declared.name.End.TheVariants.{O}
use Rattle.ch_model.specs.declared.step.SocketEvent.TheVariants as sockets
use Rattle.ch_model.specs.declared.step.Step.{Step}
use Rattle.ch_model.specs.Host.{host_on}
use Rattle.ch_model.specs.HostState.{Socket, HostState}
use Rattle.ch_model.specs.HostSteps.{Stepped, still, own_address, is_socket, with_socket}
use Rattle.ch_model.specs.HostWrites.{writes}
use Rattle.ch_model.specs.Same.{is_between}
use Rattle.ch_model.specs.Stages.{Stage, Pending, Open, is_pending}
use Rattle.ch_model.specs.WorldLines.{can_join}
use Rattle.ch_model.specs.WorldSockets.{opened, with_end, is_socket_named}
use Rattle.ch_model.specs.WorldState.{Cell, WorldSocket, World}
use Rattle.ch_race.specs.Moves.{Join}
use Rattle.ch_race.specs.Pair.{Side, Lesser, Greater, other}
use Rattle.ch_laws_ends.proofs.Known.{pending_is}
use Rattle.ch_laws_writes.specs.Dues.{Asking, due_of, due_staged, due_asked, due_at}
use Rattle.ch_laws_race.specs.Arrivals.{Joins}
use Rattle.ch_laws_race.specs.Others.{IsOthers, KeepsPair, IsFree}
use Rattle.ch_laws_race.specs.Reading.{IsUser}
use Rattle.ch_laws_race.specs.Scene.{Party, Scene, host_in, host_of}
use Rattle.ch_laws_race.specs.Sound.{HasEnd}
use Rattle.ch_laws_race.proofs.Joined.{joins_it}
use Rattle.ch_laws_race.proofs.OtherReads.{Stays, keeps_socket, socket_numbered}
use Rattle.ch_laws_race.proofs.Sockets.{by_test, alike_self, alike_with, at_alike, end_changed}
use Rattle.ch_laws_calls.specs.Calls.{IsIn, IsHeldBy, IsCalled, done_at, joined_in}
use Rattle.ch_laws_calls.specs.Scenes.{SceneFacts, IsOfSide, IsMoved, scene_of}
use Rattle.ch_laws_calls.specs.Sound.{Sound}
use Rattle.ch_laws_raced.proofs.RaceLinesBeside.{IsBeside, beside_set, stays_moved, keeps_own}
use Rattle.ch_laws_raced.proofs.RaceLinesEnds.{place_found, held_is, moved_from, own_end, free_end}

-- ---- at a socket of others

-- a host that joins an end writes there alone
join_stays : (scene : Scene) (place n : ℕ) (host : HostState) → IsFree scene place n → KeepsPair scene place host → Stays scene place (host_on host (sockets.Joined n))
unfolding host_on
join_stays scene place n host free keeps = by_socket (find (is_socket n) host.sockets) refl where
  joined : Socket → Option (ℕ × Address) → Stepped
  joined known o = elim o as (λ o. Stepped) [
    | None ↦ still host
    | Some user ↦ writes known.number (request_spelling (record { target = user.1.id; from = own_address host user.0 })) (with_socket (record known { stage = Open }) host)
  ]

  by_user : (known : Socket) → known.number ≡ n → (o : Option (ℕ × Address)) → Stays scene place (joined known o)
  by_user known is None = (tt, keeps)
  by_user known is (Some user) = let mine : IsFree scene place known.number = subst (λ (m : ℕ). IsFree scene place m) (sym is) free in ((mine, tt), keeps_socket scene place (record known { stage = Open }) host mine keeps)

  by_stage : (known : Socket) → known.number ≡ n → (b : Bool) → Stays scene place (cond b (joined known known.user) (still host))
  by_stage known is true = by_user known is known.user
  by_stage known is false = (tt, keeps)

  by_socket : (o : Option Socket) → find (is_socket n) host.sockets ≡ o → Stays scene place (elim o as (λ o. Stepped) [
    | None ↦ still host
    | Some socket ↦ cond (is_pending socket.stage) (joined socket socket.user) (still host)
  ])
  by_socket None is = (tt, keeps)
  by_socket (Some known) is = by_stage known (socket_numbered n known host.sockets is) (is_pending known.stage)

module _ (journal : List Line) (log : List Entry) (world : World) (sound : Sound journal log world) (party : Side → Party) (facts : SceneFacts party world) (socket : WorldSocket) (place n : ℕ) (cell : Cell × ℕ) (steps : List Step) (host : HostState)
    (is : IsIn socket world) (can : can_join socket ≡ true) (held : IsHeldBy place n socket.o) (called : IsCalled world place cell (sockets.Joined n) steps host) where
  abbrev Now : World
  Now = joined_in socket world

  there : (i : ℕ) × (slice_get world.sockets i ≡ Some socket)
  there = place_found (is_socket_named socket.name) world.sockets socket is

  pending : is_pending socket.o.stage ≡ true
  pending = (and_parts (is_pending socket.o.stage) (is_some socket.t.cell) can).0

  now_is : Now ≡ record world { sockets = slice_set world.sockets there.0 (with_end O (opened socket.o) socket) }
  now_is = end_changed world there.0 socket O opened facts.apart there.1

  at_now : slice_get Now.cells place ≡ Some cell
  at_now = ap (λ (w : World). slice_get w.cells place) now_is ∙ called.at

  -- ---- of others

  beside : IsOthers party socket.name → IsBeside party world Now
  beside off = beside_set party world Now there.0 socket (with_end O (opened socket.o) socket) (ap (λ (w : World). λ (p : ℕ). host_in (slice_get w.cells p)) now_is) (ap (λ (w : World). w.sockets) now_is) there.1 refl off
      (λ c m h. at_alike socket (with_end O (opened socket.o) socket) c m (alike_with O socket socket (opened socket.o) (alike_self socket) refl refl))

  joins_others : IsOthers party socket.name → IsMoved party world (done_at place cell steps host Now).1
  joins_others off = stays_moved party world Now facts (beside off) place cell at_now (host_on cell.0.host (sockets.Joined n)) (steps, host)
      (join_stays (scene_of party Now) place n cell.0.host
      (λ j u got between e. free_end party world facts there.0 socket there.1 O place n (held_is place n socket.o held) off j u ((beside off).same j u got between) between e) (keeps_own party Now place cell at_now)) called.does

  -- ---- between the two

  module _ (between : is_between (party Lesser).name (party Greater).name socket.name ≡ true) where
    side : IsOfSide party O socket
    side = facts.sides there.0 socket there.1 between O

    abbrev X : Side
    X = side.side

    here : place ≡ (party X).place
    here = one (sym held.cell ∙ side.cell) where
      one : Some place ≡ Some (party X).place → place ≡ (party X).place
      one h = cc

    at_side : slice_get world.cells (party X).place ≡ Some cell
    at_side = subst (λ (p : ℕ). slice_get world.cells p ≡ Some cell) here called.at

    its_host : host_of (scene_of party world) X ≡ cell.0.host
    its_host = ap host_in at_side

    has : HasEnd (scene_of party world) X O there.0 n socket
    has = own_end party world facts there.0 socket there.1 O side n between held.number

    kept : (known : Socket) × (find (is_socket n) (host_of (scene_of party world) X).sockets ≡ Some known)
    kept = facts.kept X O there.0 n socket has

    abbrev Known : Socket
    Known = kept.0

    number : Known.number ≡ n
    number = socket_numbered n Known (host_of (scene_of party world) X).sockets kept.1

    at_cell : find (is_socket n) cell.0.host.sockets ≡ Some Known
    at_cell = subst (λ (h : HostState). find (is_socket n) h.sockets ≡ Some Known) its_host kept.1

    waits : Known.stage ≡ Pending
    waits = facts.stands X O there.0 n socket Known has kept.1 ∙ pending_is socket.o.stage pending

    its_user : IsUser (scene_of party world) X Known
    its_user = by_user (facts.users X O there.0 n socket Known has kept.1) where
      by_user : (Known.user ≡ None) ⊎ IsUser (scene_of party world) X Known → IsUser (scene_of party world) X Known
      by_user (inl nobody) = absurd (no (sym (ap is_some nobody) ∙ (sound.ends.flowing.orderly (party X).place cell at_side).sound.used n Known at_cell (ap is_pending waits))) where
        no : false ≡ true → ⊥
        no h = cc
      by_user (inr user) = user

    due : due_at (host_of (scene_of party world) X) n ≡ Some (Asking (party X).address.id (party (other X)).address)
    due = ap due_of kept.1 ∙ ap (λ (s : Stage). due_staged s Known) waits ∙ ap due_asked its_user

    the_joins : Joins (scene_of party world) X cell there.0 socket Known
    the_joins = record {
      acts = facts.acts X cell at_side;
      has = subst (λ (m : ℕ). HasEnd (scene_of party world) X O there.0 m socket) (sym number) has;
      waiting = pending_is socket.o.stage pending;
      kept = subst (λ (m : ℕ). find (is_socket m) (host_of (scene_of party world) X).sockets ≡ Some Known) (sym number) kept.1;
      waits = waits;
      asks = ((sound.ends.flowing.orderly (party X).place cell at_side).sockets n Known at_cell).asks (ap is_pending waits);
      user = its_user;
      way = facts.takes_request X there.0 n socket has due;
    }

    joins_own : IsMoved party world (done_at place cell steps host Now).1
    joins_own = subst (λ (p : ℕ). IsMoved party world (done_at p cell steps host Now).1) (sym here)
        (moved_from party world Now X cell (host_on (host_of (scene_of party world) X) (sockets.Joined Known.number)) (Join there.0 ∷ []) (steps, host) (joins_it (scene_of party world) X cell there.0 socket Known the_joins)
        (ap (λ (h : HostState). host_on h (sockets.Joined Known.number)) its_host ∙ ap (λ (m : ℕ). host_on cell.0.host (sockets.Joined m)) number ∙ called.does))

  -- a socket that is joined
  pub joins_moved : IsMoved party world (done_at place cell steps host Now).1
  joins_moved = by_test (is_between (party Lesser).name (party Greater).name socket.name) joins_own joins_others
