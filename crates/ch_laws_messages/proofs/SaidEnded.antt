-- The input of an end has ended, and no link fails: the end is left, or nothing is done; nothing is written, and nothing said.
use Rattle.std.proofs.Common.{◌≡◌, ◌⊎◌, inl, inr, ℕ, Bool, true, false, cond, List, [], ◌∷◌, ◌++◌, Ok, Err, refl, sym, ap, ◌∙◌, subst}
use Rattle.std.specs.Prelude.{find, slice_get, Option, Some, None}
use Rattle.ch_base.specs.declared.address.Address.{Address}
use Rattle.ch_link.specs.Sockets.{names}
use Rattle.ch_link.specs.Table.{step_of}
use Rattle.ch_link.specs.declared.LinkIn.TheVariants as inputs
use Rattle.ch_link.specs.declared.LinkState.{LinkState}
use Rattle.ch_link.specs.declared.LinkState.TheVariants as states
use Rattle.ch_model.specs.declared.entry.Entry.{Entry}
use Rattle.ch_model.specs.declared.entry.Entry.TheVariants as entries
use Rattle.ch_model.specs.declared.line.Line.{Line}
use Rattle.ch_model.specs.declared.local.LocalEntry.{LocalEntry}
use Rattle.ch_model.specs.declared.local.LocalEntry.TheVariants as local
use Rattle.ch_model.specs.declared.name.End.{End}
use Rattle.ch_model.specs.declared.name.SockName.{SockName}
use Rattle.ch_model.specs.declared.step.SocketEvent.TheVariants as sockets
use Rattle.ch_model.specs.declared.step.Step.{Step}
use Rattle.ch_model.specs.declared.step.Step.TheVariants as steps
use Rattle.ch_model.specs.CellSteps.{Followed, steps_on}
use Rattle.ch_model.specs.Greater.{is_greater}
use Rattle.ch_model.specs.Host.{host_on}
use Rattle.ch_model.specs.HostItems.{gone_from, is_gone}
use Rattle.ch_model.specs.HostLinks.{does_act, hears}
use Rattle.ch_model.specs.HostState.{Link, Socket, HostState}
use Rattle.ch_model.specs.HostSteps.{Stepped, still, is_socket, own_address, link_with, with_link}
use Rattle.ch_model.specs.HostWrites.{leaves}
use Rattle.ch_model.specs.Stages.{is_open}
use Rattle.ch_model.specs.WorldHappenings.{with_cell}
use Rattle.ch_model.specs.WorldSockets.{find_end}
use Rattle.ch_model.specs.WorldState.{Cell, WorldSocket, World}
use Rattle.ch_model.specs.WorldSteps.{end_closes}
use Rattle.ch_laws_bytes.proofs.Told.{told_names}
use Rattle.ch_laws_calls.specs.Calls.{with_host, IsCalled}
use Rattle.ch_laws_ends.proofs.Changes.{told_cells}
use Rattle.ch_laws_links.proofs.Keys.{ended_rest}
use Rattle.ch_laws_race.specs.Scene.{host_in}
use Rattle.ch_laws_calls.specs.Turns.{told_on}
use Rattle.ch_laws_peers.specs.Says.{node_in, AllSay}
use Rattle.ch_laws_peers.specs.Standing.{Standing}
use Rattle.ch_laws_calls.specs.FitsTurns.{NoDials}
use Rattle.ch_laws_log.specs.HostEnds.{steps_in}
use Rattle.ch_laws_messages.specs.SaidHeeds.{AreCalm}
use Rattle.ch_laws_messages.proofs.SaidFed.{cells_rest, rests_say}
use Rattle.ch_laws_messages.proofs.SaidStill.{AllStill}
use Rattle.ch_laws_messages.proofs.SaidTold.{told_found}

-- ---- what the host does

-- links are as they were; and nothing is told, or that an end is left
abbrev pub Leaves : HostState → List Step → HostState → Type 0
Leaves host told after = (after.links ≡ host.links) × ((told ≡ []) ⊎ ((n : ℕ) × (told ≡ steps.Left n ∷ [])))

abbrev AllLeave : HostState → Stepped → Type 0
AllLeave host (Ok done) = AreCalm done.0 → Leaves host done.0 done.1
AllLeave host (Err stop) = Unit {0}

left_so : (host : HostState) (n : ℕ) → AllLeave host (leaves n host)
left_so host n = λ calm. ((ended_rest n host).0, inr (n, refl))

-- a link that names the socket would fail
gone_in : (host : HostState) (link : Link) (n : ℕ) (state : LinkState) (greater : Bool) → names state n ≡ true → AllLeave host (does_act (step_of state inputs.Gone greater).1 state inputs.Gone (record link { state = (step_of state inputs.Gone greater).0 }) (with_link (record link { state = (step_of state inputs.Gone greater).0 }) host))
unfolding step_of
gone_in host link n states.Idle greater named = absurd cc
gone_in host link n states.AwaitOther greater named = absurd cc
gone_in host link n (states.Dialing d) greater named = λ calm. absurd calm
gone_in host link n (states.Up u probed) greater named = λ calm. absurd calm

ended_leaves : (host : HostState) (sock : ℕ) → AllLeave host (host_on host (sockets.Ended sock))
unfolding host_on
ended_leaves host sock = by_socket (find (is_socket sock) host.sockets) where
  by_named : (link : Link) (n : ℕ) (b : Bool) → names link.state n ≡ b → AllLeave host (cond b (hears inputs.Gone link host) (leaves n host))
  by_named link n true h = gone_in host link n link.state (is_greater (own_address host link.end) link.peer) h
  by_named link n false h = left_so host n

  by_user : (n : ℕ) (w : Option (ℕ × Address)) → AllLeave host (elim w as (λ w. Stepped) [
    | None ↦ leaves n host
    | Some user ↦ gone_from n (link_with host user.0 user.1) host
  ])
  by_user n None = left_so host n
  by_user n (Some user) = by_named (link_with host user.0 user.1) n (names (link_with host user.0 user.1).state n) refl

  by_open : (socket : Socket) (b : Bool) → AllLeave host (cond b (is_gone socket host) (still host))
  by_open socket true = by_user socket.number socket.user
  by_open socket false = λ calm. (refl, inl refl)

  by_socket : (o : Option Socket) → AllLeave host (elim o as (λ x. Stepped) [
    | None ↦ still host
    | Some socket ↦ cond (is_open socket.stage) (is_gone socket host) (still host)
  ])
  by_socket None = λ calm. (refl, inl refl)
  by_socket (Some socket) = by_open socket (is_open socket.stage)

-- ---- what follows

abbrev entries_of : Followed → List LocalEntry
entries_of (Ok done) = done.0
entries_of (Err stop) = []

abbrev cell_of : Cell → Followed → Cell
cell_of cell (Ok done) = done.1
cell_of cell (Err stop) = cell

-- ---- the turn of field ended

pub ended_say : (journal : List Line) (log : List Entry) (world : World) (socket : WorldSocket) (which : End) (place n : ℕ) (cell : Cell × ℕ) (done : List Step) (host : HostState) (told : List LocalEntry) (after : Cell) → IsCalled world place cell (sockets.Ended n) done host → steps_on done (with_host cell host) ≡ Ok (told, after) → AreCalm done → Standing journal log world → AllSay journal log world
    → let all = told_on place cell after told world in AllSay journal (log ++ entries.Fed socket.name which 0 ∷ all.0) all.1
ended_say journal log world socket which place n cell done host told after c followed calm st say = by_left left.1 where
  left : Leaves cell.0.host done host
  left = leaves_in calm (subst (AllLeave cell.0.host) c.does (ended_leaves cell.0.host n)) where
    leaves_in : AreCalm done → (AreCalm done → Leaves cell.0.host done host) → Leaves cell.0.host done host
    leaves_in calm f = f calm

  Said : List LocalEntry → Cell → Type 0
  Said l a = let all = told_on place cell a l world in AllSay journal (log ++ entries.Fed socket.name which 0 ∷ all.0) all.1

  said_of : (l : List LocalEntry) → NoDials (steps_in l) → AllStill (told_on place cell (with_host cell host) l world).0 → Said l (with_host cell host)
  said_of l none quiet = let all = told_on place cell (with_host cell host) l world in rests_say journal log world (entries.Fed socket.name which 0 ∷ all.0) all.1 st say (record { silent = λ s e. refl; unsaid = λ x y. refl }, quiet) (record {
    names = told_names place (with_host cell host) l (with_cell place (with_host cell host, cell.1) world);
    hosts = λ p end peer. ap (λ (k : List (Cell × ℕ)). link_with (host_in (slice_get k p)) end peer) (told_cells place (with_host cell host) l (with_cell place (with_host cell host, cell.1) world)) ∙ (cells_rest world.cells place cell host cell.1 p c.at left.0).0 end peer;
    nodes = λ p end. ap (λ (k : List (Cell × ℕ)). node_in (slice_get k p) end) (told_cells place (with_host cell host) l (with_cell place (with_host cell host, cell.1) world)) ∙ (cells_rest world.cells place cell host cell.1 p c.at left.0).1 end;
    found = λ p m at found. told_found place (with_host cell host) l (with_cell place (with_host cell host, cell.1) world) none p m ∙ found;
  })

  now : World
  now = with_cell place (with_host cell host, cell.1) world

  by_end : (o : Option (SockName × End)) → AllStill ((elim o as (λ o. List Entry × World) [
    | None ↦ ([], now)
    | Some at ↦ (entries.Left at.0 at.1 ∷ [], end_closes at now)
  ]).0 ++ [])
  by_end None = tt
  by_end (Some at) = (record { silent = λ s e. refl; unsaid = λ x y. refl }, tt)

  -- what followed is what was told
  as_told : (l : List LocalEntry) → ◌≡◌ {A = Followed} (Ok (l, with_host cell host)) (Ok (told, after)) → Said l (with_host cell host) → Said told after
  as_told l e s = subst (λ (a : Cell). Said told a) (ap (cell_of (with_host cell host)) e) (subst (λ (k : List LocalEntry). Said k (with_host cell host)) (ap entries_of e) s)

  by_left : (done ≡ []) ⊎ ((m : ℕ) × (done ≡ steps.Left m ∷ [])) → Said told after
  by_left (inl none) = as_told [] (ap (λ (l : List Step). steps_on l (with_host cell host)) (sym none) ∙ followed) (said_of [] tt tt)
  by_left (inr k) = as_told (local.Step (steps.Left k.0) ∷ []) (ap (λ (l : List Step). steps_on l (with_host cell host)) (sym k.1) ∙ followed) (said_of (local.Step (steps.Left k.0) ∷ []) tt (by_end (find_end place k.0 now.sockets)))
