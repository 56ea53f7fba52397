-- The opener's end of a socket is joined: its request is written, which is no frame.
use Rattle.std.proofs.Common.{◌≡◌, ◌⊎◌, inl, inr, ℕ, Bool, true, false, cond, ◌&&◌, List, [], ◌∷◌, ◌++◌, length, Ok, Err, refl, sym, ap, ◌∙◌, subst, append_assoc}
use Rattle.std.proofs.lemmas.Bool.{and_parts}
use Rattle.std.proofs.lemmas.List.{append-nil}
use Rattle.std.proofs.lemmas.List.Elements.{filter_map-append}
use Rattle.std.specs.Prelude.{find, slice_get, slice_set, not, Option, Some, None, ◌==◌}
use Rattle.ch_base.specs.declared.address.Address.{Address}
use Rattle.ch_light.specs.Ids.{id_of}
use Rattle.ch_wire.specs.Spelling.{request_spelling}
use Rattle.ch_wire.specs.declared.frame.Frame.{Frame}
use Rattle.ch_model.specs.declared.entry.Entry.{Entry}
use Rattle.ch_model.specs.declared.entry.Entry.TheVariants as entries
use Rattle.ch_model.specs.declared.line.Line.{Line}
use Rattle.ch_model.specs.declared.name.End.{End}
use Rattle.ch_model.specs.declared.name.End.TheVariants.{O}
use Rattle.ch_model.specs.declared.name.SockName.{SockName}
use Rattle.ch_model.specs.declared.step.SocketEvent.TheVariants as sockets
use Rattle.ch_model.specs.declared.step.Step.{Step}
use Rattle.ch_model.specs.declared.step.Step.TheVariants as steps
use Rattle.ch_model.specs.AccountsItems.{frame_of, frames_of}
use Rattle.ch_model.specs.CellSteps.{told_steps}
use Rattle.ch_model.specs.Host.{joins, host_on}
use Rattle.ch_model.specs.HostState.{Link, Socket, HostState}
use Rattle.ch_model.specs.HostSteps.{Stepped, still, is_socket, own_address, link_with, with_socket}
use Rattle.ch_model.specs.HostWrites.{writes}
use Rattle.ch_model.specs.Logs.{kept_with}
use Rattle.ch_model.specs.Same.{is_end_of, same_socket, same_end}
use Rattle.ch_model.specs.Sockets.{writings}
use Rattle.ch_model.specs.Stages.{Stage, Pending, Open, Ended, is_pending}
use Rattle.ch_model.specs.WorldHappenings.{with_cell}
use Rattle.ch_model.specs.WorldSockets as ends
use Rattle.ch_model.specs.WorldSockets.{end_of, is_socket_named, find_end, opened, item_arrives, with_end_of}
use Rattle.ch_model.specs.WorldState.{Cell, WorldSocket, World}
use Rattle.ch_race.specs.Pair.{other}
use Rattle.ch_laws_bytes.proofs.Told.{end_names, told_names}
use Rattle.ch_laws_calls.specs.Calls.{with_host, done_at, IsCalled, IsIn, joined_in}
use Rattle.ch_laws_calls.specs.Scenes.{scene_of}
use Rattle.ch_laws_ends.proofs.Changes.{cells_stay, told_cells}
use Rattle.ch_laws_calls.specs.FitsTurns.{NoDials}
use Rattle.ch_laws_ids.specs.Runs.{RunsThere, RunsFor, AllRun}
use Rattle.ch_laws_items.proofs.Sockets.{number_is}
use Rattle.ch_laws_links.proofs.Found.{KeepsPlace, found_kept}
use Rattle.ch_laws_log.proofs.Stored.{same_is, found_end}
use Rattle.ch_laws_log.proofs.WorldEnds.{found_is}
use Rattle.ch_laws_log.specs.HostEnds.{steps_in}
use Rattle.ch_laws_plain_logs.specs.Plain.{said_by}
use Rattle.ch_laws_race.specs.Scene.{host_in, link_of}
use Rattle.ch_laws_writes.specs.Dues.{Asking, due_of, due_asked, due_staged, due_at}
use Rattle.ch_laws_writes.proofs.Worlds.{number_same}
use Rattle.ch_laws_peers.specs.Words.{sayings}
use Rattle.ch_laws_peers.specs.Says.{frames_towards, node_in, written_by, Says, AllSay}
use Rattle.ch_laws_peers.specs.Standing.{Standing}
use Rattle.ch_laws_messages.proofs.SaidFed.{Rests, cells_rest}
use Rattle.ch_laws_messages.proofs.SaidLogs.{later, towards_more, frames_more, silent_towards, silent_frames}
use Rattle.ch_laws_messages.proofs.SaidQuiet.{stays}
use Rattle.ch_laws_messages.proofs.SaidStill.{still_streams, up_waits, node_same}
use Rattle.ch_laws_messages.proofs.SaidTold.{told_found}
use Rattle.ch_laws_messages.proofs.SaidTurned.{numbers_are}
use Rattle.ch_laws_messages.proofs.SaidWritten.{wrote_both}
use Rattle.ch_laws_messages.proofs.CarriedAlone.{same_end_is}

-- ---- entries that bring no frame

-- no saying is told, and no frame stands written that didn't
pub record BringsNone (log told : List Entry) : Type 0 where
  pub unsaid : (x y : List ℕ) → sayings x y (log ++ told) ≡ sayings x y log
  pub towards : (x y : List ℕ) → frames_towards x y (log ++ told) ≡ frames_towards x y log
  pub frames : (s : SockName) (e : End) → frames_of (log ++ told) s e ≡ frames_of log s e

-- links, nodes and names stay, and ends are found still
pub brings_say : (journal : List Line) (log : List Entry) (world : World) (told : List Entry) (after : World) → Standing journal log world → AllSay journal log world → BringsNone log told → Rests world after → AllSay journal (log ++ told) after
brings_say journal log world told after st say b r party pair x = stays journal log world party x (log ++ told) after s (record {
  named = r.names;
  said = b.unsaid (party x).name (party (other x)).name;
  new = [];
  silent = refl;
  streams = still_streams party x log world (log ++ told) after (record { one = s.one; down = s.down }) (up_waits journal log world party x pair st) link_same (b.towards (party x).name (party (other x)).name) b.frames (λ n at found. r.found (party x).place n at found);
  nodes = λ now there. node_same journal log party x world after now s (sym (r.nodes (party x).place (party x).address.id) ∙ there) (λ conn id given. ap (λ (l : Link). id_of l.given conn) link_same ∙ given);
}) where
  s : Says journal log world party x
  s = say party pair x

  link_same : link_of (scene_of party after) x ≡ link_of (scene_of party world) x
  link_same = r.hosts (party x).place (party x).address.id (party (other x)).address

-- nothing is told, or what an end writes first
abbrev pub IsFirstOf : List Entry → List Entry → Type 0
IsFirstOf log told = (told ≡ []) ⊎ ((s : SockName) × (e : End) × (bytes : List ℕ) × (told ≡ entries.Wrote s e bytes ∷ []) × (writings log s e ≡ []))

unwritten : (x y : List ℕ) (log : List Entry) (s : SockName) (e : End) (bytes : List ℕ) → writings log s e ≡ [] → written_by x y log (entries.Wrote s e bytes) ≡ None
unwritten x y log s e bytes none = ap (λ (l : List (List ℕ)). (elim (is_end_of x y s e && not (length l == 0)) as (λ b. Option Frame) [ true ↦ frame_of bytes | false ↦ None ])) none ∙ by_both (is_end_of x y s e) (0 == 0) (number_same 0) where
  by_both : (a z : Bool) → z ≡ true → (elim (a && not z) as (λ b. Option Frame) [ true ↦ frame_of bytes | false ↦ None ]) ≡ None
  by_both true true h = refl
  by_both false true h = refl
  by_both a false h = absurd cc

first_brings : (log told : List Entry) → IsFirstOf log told → BringsNone log told
first_brings log told (inl e) = subst (BringsNone log) (sym e) (record { unsaid = λ x y. ap (sayings x y) (append-nil log); towards = λ x y. ap (frames_towards x y) (append-nil log); frames = λ s e. ap (λ (l : List Entry). frames_of l s e) (append-nil log) })
first_brings log told (inr k) = subst (BringsNone log) (sym k.3) (record {
  unsaid = λ x y. filter_map-append (said_by x y) log (entries.Wrote k.0 k.1 k.2 ∷ []) ∙ append-nil (sayings x y log);
  towards = λ x y. towards_more x y log (entries.Wrote k.0 k.1 k.2) ∙ ap (λ (o : Option Frame). kept_with o (frames_towards x y log)) (unwritten x y log k.0 k.1 k.2 k.4);
  frames = λ s e. frames_more log (entries.Wrote k.0 k.1 k.2) s e ∙ by_same s e (same_socket k.0 s && same_end k.1 e) refl;
}) where
  none_later : (s : SockName) (e : End) (pieces : List (List ℕ)) → frames_of log s e ++ later pieces None ≡ frames_of log s e
  none_later s e [] = append-nil (frames_of log s e)
  none_later s e (first ∷ rest) = append-nil (frames_of log s e)

  by_same : (s : SockName) (e : End) (b : Bool) → (same_socket k.0 s && same_end k.1 e) ≡ b → frames_of log s e ++ later (writings log s e) (cond b (Some k.2) None) ≡ frames_of log s e
  by_same s e false h = none_later s e (writings log s e)
  by_same s e true h =
      let parts = and_parts (same_socket k.0 s) (same_end k.1 e) h in
      let none : writings log s e ≡ [] = ap (λ (t : SockName). writings log t e) (sym (same_is k.0 s parts.0)) ∙ ap (λ (f : End). writings log k.0 f) (sym (same_end_is k.1 e parts.1)) ∙ k.4 in
      ap (λ (l : List (List ℕ)). frames_of log s e ++ later l (Some k.2)) none ∙ append-nil (frames_of log s e)

-- an entry that writes and says nothing may go before
joined_brings : (log told : List Entry) (s : SockName) → BringsNone (log ++ entries.Joined s ∷ []) told → BringsNone log (entries.Joined s ∷ told)
joined_brings log told s b = record {
  unsaid = λ x y. ap (sayings x y) (sym assoc) ∙ b.unsaid x y ∙ filter_map-append (said_by x y) log (entries.Joined s ∷ []) ∙ append-nil (sayings x y log);
  towards = λ x y. ap (frames_towards x y) (sym assoc) ∙ b.towards x y ∙ silent_towards x y log (entries.Joined s) (λ t e. refl);
  frames = λ t e. ap (λ (l : List Entry). frames_of l t e) (sym assoc) ∙ b.frames t e ∙ silent_frames log (entries.Joined s) t e (λ t e. refl);
} where
  assoc : (log ++ entries.Joined s ∷ []) ++ told ≡ log ++ entries.Joined s ∷ told
  assoc = append_assoc log (entries.Joined s ∷ []) told

-- ---- what the host does

-- links are as they were; and nothing is told, or the request is written where it is due
abbrev pub Asks : HostState → ℕ → List Step → HostState → Type 0
Asks host n told after = (after.links ≡ host.links) × ((told ≡ []) ⊎ ((bytes : List ℕ) × (end : ℕ) × (peer : Address) × (told ≡ steps.Write n bytes None ∷ []) × (due_at host n ≡ Some (Asking end peer))))

abbrev AllAsk : HostState → ℕ → Stepped → Type 0
AllAsk host n (Ok done) = Asks host n done.0 done.1
AllAsk host n (Err stop) = Unit {0}

found_number : (n : ℕ) (known : List Socket) (socket : Socket) → find (is_socket n) known ≡ Some socket → socket.number ≡ n
found_number n [] socket e = absurd cc
found_number n (one ∷ rest) socket e = by_test (one.number == n) refl (found_number n rest socket) e where
  by_test : (b : Bool) → (one.number == n) ≡ b → (find (is_socket n) rest ≡ Some socket → socket.number ≡ n) → cond b (Some one) (find (is_socket n) rest) ≡ Some socket → socket.number ≡ n
  by_test true h more e = let is : one ≡ socket = cc in ap (λ (s : Socket). s.number) (sym is) ∙ number_is one.number n h
  by_test false h more e = more e

joined_asks : (host : HostState) (n : ℕ) → AllAsk host n (host_on host (sockets.Joined n))
unfolding host_on
joined_asks host n = by_socket (find (is_socket n) host.sockets) refl where
  due_is : (stage : Stage) (socket : Socket) (user : ℕ × Address) → is_pending stage ≡ true → socket.user ≡ Some user → due_staged stage socket ≡ Some (Asking user.0 user.1)
  due_is Pending socket user e u = ap due_asked u
  due_is Open socket user e u = absurd cc
  due_is Ended socket user e u = absurd cc

  by_user : (socket : Socket) → find (is_socket n) host.sockets ≡ Some socket → is_pending socket.stage ≡ true → (w : Option (ℕ × Address)) → socket.user ≡ w → AllAsk host n (elim w as (λ w. Stepped) [
    | None ↦ still host
    | Some user ↦ writes socket.number (request_spelling (record { target = user.1.id; from = own_address host user.0 })) (with_socket (record socket { stage = Open }) host)
  ])
  by_user socket f p None u = (refl, inl refl)
  by_user socket f p (Some user) u = (
    refl,
    inr (
      request_spelling (record { target = user.1.id; from = own_address host user.0 }),
      user.0,
      user.1,
      ap (λ (m : ℕ). steps.Write m (request_spelling (record { target = user.1.id; from = own_address host user.0 })) None ∷ []) (found_number n host.sockets socket f),
      ap due_of f ∙ due_is socket.stage socket user p u,
    ),
  )

  by_stage : (socket : Socket) → find (is_socket n) host.sockets ≡ Some socket → (b : Bool) → is_pending socket.stage ≡ b → AllAsk host n (cond b (joins socket host) (still host))
  by_stage socket f true p = by_user socket f p socket.user refl
  by_stage socket f false p = (refl, inl refl)

  by_socket : (o : Option Socket) → find (is_socket n) host.sockets ≡ o → AllAsk host n (elim o as (λ x. Stepped) [
    | None ↦ still host
    | Some socket ↦ cond (is_pending socket.stage) (joins socket host) (still host)
  ])
  by_socket None f = (refl, inl refl)
  by_socket (Some socket) f = by_stage socket f (is_pending socket.stage) refl

-- ---- the turn of field joined

pub joined_say : (journal : List Line) (log : List Entry) (world : World) (socket : WorldSocket) (place n : ℕ) (cell : Cell × ℕ) (told : List Step) (host : HostState) → IsIn socket world → IsCalled world place cell (sockets.Joined n) told host → Standing journal log world → AllRun log world → AllSay journal log world
    → let done = done_at place cell told host (joined_in socket world) in AllSay journal (log ++ entries.Joined socket.name ∷ done.0) done.1
joined_say journal log world socket place n cell told host is c st run say = by_asked asks.1 where
  asks : Asks cell.0.host n told host
  asks = subst (AllAsk cell.0.host n) c.does (joined_asks cell.0.host n)

  kept : KeepsPlace opened
  kept = λ end. (refl, refl, λ e. absurd cc)

  Said : List Step → Type 0
  Said l = let done = done_at place cell l host (joined_in socket world) in AllSay journal (log ++ entries.Joined socket.name ∷ done.0) done.1

  now : World
  now = with_cell place (with_host cell host, cell.1) (joined_in socket world)

  cells : (l : List Step) → (done_at place cell l host (joined_in socket world)).1.cells ≡ slice_set world.cells place (with_host cell host, cell.1)
  cells l = told_cells place (with_host cell host) (told_steps l) now ∙ ap (λ (k : List (Cell × ℕ)). slice_set k place (with_host cell host, cell.1)) (cells_stay socket.name O opened world)

  rests : (l : List Step) → NoDials (steps_in (told_steps l)) → Rests world (done_at place cell l host (joined_in socket world)).1
  rests l none = record {
    names = told_names place (with_host cell host) (told_steps l) now ∙ end_names socket.name O opened world;
    hosts = λ p end peer. ap (λ (k : List (Cell × ℕ)). link_with (host_in (slice_get k p)) end peer) (cells l) ∙ (cells_rest world.cells place cell host cell.1 p c.at asks.0).0 end peer;
    nodes = λ p end. ap (λ (k : List (Cell × ℕ)). node_in (slice_get k p) end) (cells l) ∙ (cells_rest world.cells place cell host cell.1 p c.at asks.0).1 end;
    found = λ p m at found. told_found place (with_host cell host) (told_steps l) now none p m ∙ found_kept p m socket.name O opened world socket is kept ∙ found;
  }

  told_so : (l : List Step) → NoDials (steps_in (told_steps l)) → IsFirstOf (log ++ entries.Joined socket.name ∷ []) (done_at place cell l host (joined_in socket world)).0 → Said l
  told_so l none first = let done = done_at place cell l host (joined_in socket world) in brings_say journal log world (entries.Joined socket.name ∷ done.0) done.1 st say (joined_brings log done.0 socket.name (first_brings (log ++ entries.Joined socket.name ∷ []) done.0 first)) (rests l none)

  -- nothing was written where the request is due
  unwritten_at : (end : ℕ) (peer : Address) → due_at cell.0.host n ≡ Some (Asking end peer) → (at : SockName × End) → find_end place n now.sockets ≡ Some at → writings (log ++ entries.Joined socket.name ∷ []) at.0 at.1 ≡ []
  unwritten_at end peer due at h =
      let found : find_end place n world.sockets ≡ Some at = sym (found_kept place n socket.name O opened world socket is kept) ∙ h in
      let held = found_end place n world.sockets at found in
      let both = numbers_are place n (end_of at.1 held.socket).cell (end_of at.1 held.socket).number (found_is place n world.sockets at held.socket st.all.sound.ends.sure.ends.sorted.0.apart found held.is) in
      let there : RunsThere (slice_get world.cells place) n at.1 (writings log at.0 at.1) = subst (λ (m : Option ℕ). RunsFor world.cells (Some place) m at.1 (writings log at.0 at.1)) both.1 (subst (λ (o : Option ℕ). RunsFor world.cells o (end_of at.1 held.socket).number at.1 (writings log at.0 at.1)) both.0 (run.ends at.0 held.socket at.1 held.is)) in
      wrote_both log (entries.Joined socket.name ∷ []) at.0 at.1 ∙ append-nil (writings log at.0 at.1) ∙ ((subst (λ (o : Option (Cell × ℕ)). RunsThere o n at.1 (writings log at.0 at.1)) c.at there).due (Asking end peer) due).1

  Written : List ℕ → List Entry × World → Type 0
  Written bytes done = IsFirstOf (log ++ entries.Joined socket.name ∷ []) (done.0 ++ [])

  by_end : (bytes : List ℕ) (end : ℕ) (peer : Address) → due_at cell.0.host n ≡ Some (Asking end peer) → (o : Option (SockName × End)) → find_end place n now.sockets ≡ o → Written bytes (elim o as (λ o. List Entry × World) [
    | None ↦ ([], now)
    | Some at ↦ (entries.Wrote at.0 at.1 bytes ∷ [], with_end_of at.0 (ends.other at.1) (item_arrives bytes None) now)
  ])
  by_end bytes end peer due None h = inl refl
  by_end bytes end peer due (Some at) h = inr (at.0, at.1, bytes, refl, unwritten_at end peer due at h)

  by_asked : (told ≡ []) ⊎ ((bytes : List ℕ) × (end : ℕ) × (peer : Address) × (told ≡ steps.Write n bytes None ∷ []) × (due_at cell.0.host n ≡ Some (Asking end peer))) → Said told
  by_asked (inl none) = subst Said (sym none) (told_so [] tt (inl refl))
  by_asked (inr k) = subst Said (sym k.3) (told_so (steps.Write n k.0 None ∷ []) tt (by_end k.0 k.1 k.2 k.4 (find_end place n now.sockets) refl))
