-- After a call of a host, with all its steps, what is unread at each end of each socket fits.
use Rattle.std.proofs.Common.{◌≡◌, ◌⊎◌, inl, inr, ℕ, Bool, true, false, cond, List, [], ◌∷◌, ◌++◌, refl, sym, ap, ◌∙◌, subst}
use Rattle.std.specs.Option.{option_map}
use Rattle.std.specs.Prelude.{find, slice_get, slice_set, Option, Some, None}
use Rattle.ch_base.specs.declared.address.Address.{Address}
use Rattle.ch_reader.specs.declared.item.Expected.{Expected}
use Rattle.ch_reader.specs.declared.item.Expected.TheVariants as expected
use Rattle.ch_reader.specs.declared.item.Item.{Item}
use Rattle.ch_model.specs.declared.entry.Entry.{Entry}
use Rattle.ch_model.specs.declared.line.Line.{Line}
use Rattle.ch_model.specs.declared.name.End.{End}
use Rattle.ch_model.specs.declared.name.End.TheVariants.{O, T}
use Rattle.ch_model.specs.declared.name.SockName.{SockName}
use Rattle.ch_model.specs.declared.step.Step.{Step}
use Rattle.ch_model.specs.declared.step.Step.TheVariants as steps
use Rattle.ch_model.specs.CellSteps.{told_steps}
use Rattle.ch_model.specs.HostState.{Socket, HostState}
use Rattle.ch_model.specs.HostSteps.{own_address, is_socket}
use Rattle.ch_model.specs.Naming.{Names, called}
use Rattle.ch_model.specs.Same.{same_socket}
use Rattle.ch_model.specs.Stages.{Stage, Pending, is_ended}
use Rattle.ch_model.specs.WorldHappenings.{with_cell}
use Rattle.ch_model.specs.WorldSockets.{end_of, other, end_of_nobody, is_socket_named, cell_of, target_end, new_socket}
use Rattle.ch_model.specs.WorldState.{Cell, WorldSocket, World}
use Rattle.ch_laws_bytes.specs.Streams.{reader_in, reader_at, readers_of, reads_at, first_at, is_over, reader_of, due_of_end, MayBeAsked}
use Rattle.ch_laws_bytes.proofs.Event.{Flowing}
use Rattle.ch_laws_bytes.proofs.Lines.{own_of}
use Rattle.ch_laws_bytes.proofs.Told.{told_names}
use Rattle.ch_laws_calls.specs.Calls.{with_host, done_at}
use Rattle.ch_laws_calls.specs.Tables.{Table, frames_on}
use Rattle.ch_laws_ends.proofs.Changes.{told_cells}
use Rattle.ch_laws_ends.proofs.Happen.{its_stage}
use Rattle.ch_laws_ends.proofs.Known.{keeps_sorted}
use Rattle.ch_laws_ends.proofs.Places.{got_same, set_split}
use Rattle.ch_laws_ends.proofs.Told.{Sure}
use Rattle.ch_laws_links.specs.Naming.{IsNaming}
use Rattle.ch_laws_log.specs.HostEnds.{stage_at, AreNewTo}
use Rattle.ch_laws_log.proofs.Stored.{number_same, find_name, find_stored}
use Rattle.ch_laws_reads.specs.Reads.{IsFresh, Reads}
use Rattle.ch_laws_calls.specs.FitsFit.{up_on, ids_of, given_at, created_at, HostHolds, final_in, final_at, final_there, start_there, final_for, start_for, final_of, start_of, frames_in, Leads, FitsIn, FitAt, MayAskWell, EndFits, Fit}
use Rattle.ch_laws_calls.specs.FitsTurns.{NoDials, DialsAlone, Turn, ReaderGoes, WriterGoes, Carries}
use Rattle.ch_laws_calls.proofs.FitsEnds.{goes_at, own_by, FlowsThere, flows_there, IsKept, reader_goes, writer_goes}
use Rattle.ch_laws_calls.proofs.FitsFrames.{spelled_once}
use Rattle.ch_laws_calls.proofs.FitsSockets.{bytes_of, WasThere, dial_rests, told_goes}
use Rattle.ch_laws_calls.proofs.FitsTurns.{carried}
use Rattle.ch_laws_calls.proofs.FitsUps.{IsUpOn, IsUnrisen, stands}

-- ---- what a host keeps of an end

pub end_kept : (journal : List Line) (log : List Entry) (world : World) (s : SockName) (socket : WorldSocket) (e : End) (place : ℕ) (cell : Cell × ℕ) → Sure journal log world → find (is_socket_named s) world.sockets ≡ Some socket → slice_get world.cells place ≡ Some cell → IsKept place cell.0.host (end_of e socket).cell (end_of e socket).number
end_kept journal log world s socket e place cell sure found at n c m = by_found (find (is_socket n) cell.0.host.sockets) (sure.ends.agrees.ends place cell at n ∙ its_stage journal log world socket e place n sure (subst (λ (k : SockName). find (is_socket_named k) world.sockets ≡ Some socket) (sym (find_name s world.sockets socket found)) found) c m) where
  by_found : (o : Option Socket) → option_map (λ (w : Socket). w.stage) o ≡ Some (end_of e socket).stage → (known : Socket) × (o ≡ Some known)
  by_found None h = absurd cc
  by_found (Some known) h = (known, refl)

-- ---- a socket that was there

-- what may be asked under its name could be before
pub asked_before : (journal : List Line) (world after : World) (before socket : WorldSocket) → after.names ≡ world.names → socket.name ≡ before.name → socket.o.cell ≡ before.o.cell → MayAskWell journal after socket → MayAskWell journal world before
asked_before journal world after before socket names name cell m = record {
  place = m.place;
  cell = sym cell ∙ m.cell;
  may = subst (λ (k : Names). MayBeAsked (own_of journal m.place) k before.name) names (subst (λ (n : SockName). MayBeAsked (own_of journal m.place) after.names n) name m.may);
}

pub there_fits : (journal : List Line) (log : List Entry) (world after : World) (place : ℕ) (cell now : Cell × ℕ) (told : List Step) → Sure journal log world → Flowing (own_of journal) world → Fit journal log world → slice_get world.cells place ≡ Some cell → after.cells ≡ slice_set world.cells place now → after.names ≡ world.names
    → Carries (own_of journal place) cell.0.host told now.0.host → (s : SockName) (socket : WorldSocket) (e : End) → WasThere place told world s socket → MayAskWell journal after socket → EndFits journal after socket e
there_fits journal log world after place cell now told sure flowing fit at cells names carries s socket e was may =
    goes_at (own_by journal (end_of (other e) was.before).cell) (due_of_end world was.before (other e)) (reader_of world was.before e) (reader_of after socket e) (is_over (end_of e was.before)) (is_over (end_of e socket)) (end_of e was.before).unread (bytes_of place told (end_of (other e) was.before)) (end_of e socket).unread (start_of world was.before e) (start_of after socket e) (final_of world was.before (other e)) (final_of after socket (other e))
    (was.goes.ends e).lives (was.goes.ends e).unread flows.flows flows.may (fit.ends s was.before e was.found may_before) reader writer
  where
    may_before : MayAskWell journal world was.before
    may_before = asked_before journal world after was.before socket names was.goes.name (was.goes.ends O).cell may

    flows : FlowsThere journal world was.before e
    flows = flows_there journal world s was.before e flowing was.found may_before

    kept : (x : End) → IsKept place cell.0.host (end_of x was.before).cell (end_of x was.before).number
    kept x = end_kept journal log world s was.before x place cell sure was.found at

    Read : List (Cell × ℕ) → Option ℕ → Option ℕ → Type 0
    Read cs c m = ReaderGoes (reader_of world was.before e) (start_of world was.before e) (reads_at (readers_of cs) (first_at e) c m) (start_for cs c m)

    reader : Read after.cells (end_of e socket).cell (end_of e socket).number
    reader = subst (λ (cs : List (Cell × ℕ)). Read cs (end_of e socket).cell (end_of e socket).number) (sym cells) (subst (λ (c : Option ℕ). Read (slice_set world.cells place now) c (end_of e socket).number) (sym (was.goes.ends e).cell) (subst (λ (m : Option ℕ). Read (slice_set world.cells place now) (end_of e was.before).cell m) (sym (was.goes.ends e).number)
        (reader_goes (own_of journal place) world.cells place cell now told (first_at e) (end_of e was.before).cell (end_of e was.before).number at carries (kept e))))

    Write : List (Cell × ℕ) → Option ℕ → Option ℕ → Type 0
    Write cs c m = WriterGoes (own_by journal (end_of (other e) was.before).cell) (due_of_end world was.before (other e)) (final_of world was.before (other e)) (bytes_of place told (end_of (other e) was.before)) (final_for cs c m)

    writer : Write after.cells (end_of (other e) socket).cell (end_of (other e) socket).number
    writer = subst (λ (cs : List (Cell × ℕ)). Write cs (end_of (other e) socket).cell (end_of (other e) socket).number) (sym cells) (subst (λ (c : Option ℕ). Write (slice_set world.cells place now) c (end_of (other e) socket).number) (sym (was.goes.ends (other e)).cell) (subst (λ (m : Option ℕ). Write (slice_set world.cells place now) (end_of (other e) was.before).cell m) (sym (was.goes.ends (other e)).number)
        (writer_goes journal world.cells place cell now told (end_of (other e) was.before).cell (end_of (other e) was.before).number at carries (kept (other e)))))

-- ---- a socket that is dialed

-- of no bytes there are no items, and no frames
none_fit : (e : Expected) (since : List ℕ) (start : Table) (final : Option Table) → since ≡ [] → Leads final (Some start) → FitsIn (e, since) [] start final
none_fit e since start final none leads all whole each = subst (λ (l : List Item). Leads final (frames_on (frames_in l) start)) (sym (spelled_once e all [] each tt (sym whole ∙ ap (λ (l : List ℕ). l ++ []) none))) leads

-- none is up on it
fresh_none : (host : HostState) (sock : ℕ) (known : Socket) → IsNaming host → find (is_socket sock) host.sockets ≡ Some known → is_ended known.stage ≡ false → known.expected ≡ expected.Answer → up_on sock host.links ≡ None
fresh_none host sock known s found live e = by_stands (stands host sock known s found live) where
  by_stands : IsUpOn host sock known ⊎ IsUnrisen host sock known → up_on sock host.links ≡ None
  by_stands (inl u) = let no : expected.Answer ≡ expected.Frame = sym e ∙ u.expects in absurd cc
  by_stands (inr u) = u.none

new_opener : (host : HostState) (sock : ℕ) (final : Option Table) → IsNaming host → IsFresh (find (is_socket sock) host.sockets) → ((start : Table) → start ≡ [] → Leads final (Some start)) → FitAt (reader_in (find (is_socket sock) host.sockets)) false [] (created_at host sock) final
new_opener host sock final s fresh leads = by_found (find (is_socket sock) host.sockets) refl fresh where
  by_found : (o : Option Socket) → find (is_socket sock) host.sockets ≡ o → IsFresh o → FitAt (reader_in o) false [] (created_at host sock) final
  by_found None found f = tt
  by_found (Some known) found f = by_test (is_ended known.stage) refl where
    by_test : (b : Bool) → is_ended known.stage ≡ b → FitAt (cond b None (Some (known.expected, known.since))) false [] (created_at host sock) final
    by_test true live = tt
    by_test false live = none_fit known.expected known.since (created_at host sock) final (f live).1 (leads (created_at host sock) (ap (ids_of (λ link. link.created)) (fresh_none host sock known s found live (f live).0)))

new_final : (host : HostState) (sock : ℕ) → IsNaming host → IsFresh (find (is_socket sock) host.sockets) → Leads (final_at host sock) (Some [])
new_final host sock s fresh = by_found (find (is_socket sock) host.sockets) refl fresh where
  by_found : (o : Option Socket) → find (is_socket sock) host.sockets ≡ o → IsFresh o → Leads (final_in o (given_at host sock)) (Some [])
  by_found None found f = refl
  by_found (Some known) found f = by_test (is_ended known.stage) refl where
    by_test : (b : Bool) → is_ended known.stage ≡ b → Leads (cond b None (Some (given_at host sock))) (Some [])
    by_test true live = refl
    by_test false live = ap Some (sym (ap (ids_of (λ link. link.given)) (fresh_none host sock known s found live (f live).0)))

new_fits : (journal : List Line) (after world : World) (place : ℕ) (now : Cell × ℕ) (sock : ℕ) (from to from_host : List ℕ) (address : Address) (e : End) → slice_get after.cells place ≡ Some now → IsNaming now.0.host → IsFresh (find (is_socket sock) now.0.host.sockets) → EndFits journal after (new_socket world from to from_host (end_of_nobody (Some place) (Some sock) Pending) address) e
new_fits journal after world place now sock from to from_host address O at s fresh = subst (λ (o : Option (Cell × ℕ)). FitAt (reader_at o sock) false [] (start_there o sock) final) (sym at) (new_opener now.0.host sock final s fresh (λ start none. by_cell (cell_of world address) start none)) where
  final : Option Table
  final = final_for after.cells (target_end (cell_of world address)).cell (target_end (cell_of world address)).number

  by_cell : (c : Option ℕ) (start : Table) → start ≡ [] → Leads (final_for after.cells (target_end c).cell (target_end c).number) (Some start)
  by_cell None start none = refl
  by_cell (Some p) start none = ap Some none
new_fits journal after world place now sock from to from_host address T at s fresh = by_cell (cell_of world address) where
  by_cell : (c : Option ℕ) → FitAt (reads_at (readers_of after.cells) expected.Request (target_end c).cell (target_end c).number) (is_over (target_end c)) (target_end c).unread (start_for after.cells (target_end c).cell (target_end c).number) (final_there (slice_get after.cells place) sock)
  by_cell None = tt
  by_cell (Some p) = none_fit expected.Request [] [] (final_there (slice_get after.cells place) sock) refl (subst (λ (o : Option (Cell × ℕ)). Leads (final_there o sock) (Some [])) (sym at) (new_final now.0.host sock s fresh))

-- ---- a call

-- what dials dials alone
alone_split : (told : List Step) → DialsAlone told → NoDials told ⊎ ((sock : ℕ) × (end : ℕ) × (peer : Address) × (told ≡ steps.Dial sock end peer ∷ []))
alone_split [] a = inl tt
alone_split (steps.Dial sock end peer ∷ rest) a = inr (sock, end, peer, ap (λ (l : List Step). steps.Dial sock end peer ∷ l) a)
alone_split (steps.Read sock ∷ rest) a = inl a
alone_split (steps.Write sock bytes said ∷ rest) a = inl a
alone_split (steps.Up sock ∷ rest) a = inl a
alone_split (steps.Down sock ∷ rest) a = inl a
alone_split (steps.Left sock ∷ rest) a = inl a
alone_split (steps.Broke end peer why ∷ rest) a = inl a
alone_split (steps.Post end event ∷ rest) a = inl a

-- what is so of a call of a host, in a log and its world
pub record MayCall (journal : List Line) (log : List Entry) (world : World) (place : ℕ) (cell : Cell × ℕ) (told : List Step) (host : HostState) : Type 0 where
  pub at : slice_get world.cells place ≡ Some cell
  pub sure : Sure journal log world
  pub flowing : Flowing (own_of journal) world
  pub fit : Fit journal log world
  pub before : IsNaming cell.0.host
  pub later : IsNaming host
  pub reads : Reads cell.0.host told host
  pub turn : (end : ℕ) × (peer : Address) × Turn (own_of journal place) cell.0.host end peer told host

pub carries_on : (journal : List Line) (log : List Entry) (world : World) (place : ℕ) (cell : Cell × ℕ) (told : List Step) (host : HostState) → MayCall journal log world place cell told host → Carries (own_of journal place) cell.0.host told host
carries_on journal log world place cell told host c = carried (own_of journal place) cell.0.host c.turn.0 c.turn.1 told host c.before c.later c.reads (c.fit.hosts place cell c.at) c.turn.2

-- the hosts hold, where one is another now
pub hosts_hold : (world after : World) (place : ℕ) (cell now : Cell × ℕ) → slice_get world.cells place ≡ Some cell → after.cells ≡ slice_set world.cells place now → ((p : ℕ) (c : Cell × ℕ) → slice_get world.cells p ≡ Some c → HostHolds c.0.host) → HostHolds now.0.host → (p : ℕ) (c : Cell × ℕ) → slice_get after.cells p ≡ Some c → HostHolds c.0.host
hosts_hold world after place cell now at cells all one p c f = set_split world.cells place cell now at (λ p c. HostHolds c.0.host) one (λ p c e g. all p c g) p c (ap (λ (l : List (Cell × ℕ)). slice_get l p) (sym cells) ∙ f)

-- the same where its steps dial
dial_fits : (journal : List Line) (log : List Entry) (world : World) (place : ℕ) (cell : Cell × ℕ) (host : HostState) (sock end : ℕ) (peer : Address) → MayCall journal log world place cell (steps.Dial sock end peer ∷ []) host → find (is_socket sock) cell.0.host.sockets ≡ None → (s : SockName) (socket : WorldSocket) (e : End)
    → find (is_socket_named s) (done_at place cell (steps.Dial sock end peer ∷ []) host world).1.sockets ≡ Some socket → MayAskWell journal (done_at place cell (steps.Dial sock end peer ∷ []) host world).1 socket → EndFits journal (done_at place cell (steps.Dial sock end peer ∷ []) host world).1 socket e
dial_fits journal log world place cell host sock end peer c none s socket e found may = by_name (same_socket new.name s) refl (sym (find_stored new world.sockets s) ∙ found) where
  kept : World
  kept = with_cell place (with_host cell host, cell.1) world

  after : World
  after = (done_at place cell (steps.Dial sock end peer ∷ []) host world).1

  new : WorldSocket
  new = new_socket kept (called kept.names (own_address host end)) (called kept.names peer) host.host (end_of_nobody (Some place) (Some sock) Pending) peer

  by_name : (b : Bool) → same_socket new.name s ≡ b → cond b (Some new) (find (is_socket_named s) world.sockets) ≡ Some socket → EndFits journal after socket e
  by_name true h f = let is : new ≡ socket = cc in subst (λ (w : WorldSocket). EndFits journal after w e) is
      (new_fits journal after kept place (with_host cell host, cell.1) sock (called kept.names (own_address host end)) (called kept.names peer) host.host peer e (got_same world.cells place cell (with_host cell host, cell.1) c.at) c.later (c.reads.fresh sock none))
  by_name false h f = there_fits journal log world after place cell (with_host cell host, cell.1) (steps.Dial sock end peer ∷ []) c.sure c.flowing c.fit c.at refl refl (carries_on journal log world place cell (steps.Dial sock end peer ∷ []) host c) s socket e (record { before = socket; found = f; goes = dial_rests place sock end peer socket }) may

pub call_fits : (journal : List Line) (log more : List Entry) (world : World) (place : ℕ) (cell : Cell × ℕ) (told : List Step) (host : HostState) → MayCall journal log world place cell told host → ((n : ℕ) → AreNewTo n told (stage_at cell.0.host n)) → Fit journal more (done_at place cell told host world).1
call_fits journal log more world place cell told host c new = record {
  hosts = hosts_hold world after place cell (with_host cell host, cell.1) c.at cells c.fit.hosts (carries_on journal log world place cell told host c).holds;
  ends = λ s socket e found may. by_split (alone_split told c.turn.2.alone) s socket e found may;
} where
  kept : World
  kept = with_cell place (with_host cell host, cell.1) world

  after : World
  after = (done_at place cell told host world).1

  cells : after.cells ≡ slice_set world.cells place (with_host cell host, cell.1)
  cells = told_cells place (with_host cell host) (told_steps told) kept

  names : after.names ≡ world.names
  names = told_names place (with_host cell host) (told_steps told) kept

  none : (sock end : ℕ) (peer : Address) → told ≡ steps.Dial sock end peer ∷ [] → find (is_socket sock) cell.0.host.sockets ≡ None
  none sock end peer is = by_found (find (is_socket sock) cell.0.host.sockets) ((subst (λ (l : List Step). AreNewTo sock l (stage_at cell.0.host sock)) is (new sock)).0 (number_same sock)) where
    by_found : (o : Option Socket) → ◌≡◌ {A = Option Stage} (option_map (λ (w : Socket). w.stage) o) None → o ≡ None
    by_found None e = refl
    by_found (Some known) e = absurd cc

  were : (s : SockName) (socket : WorldSocket) → find (is_socket_named s) after.sockets ≡ Some socket → WasThere place told kept s socket → WasThere place told world s socket
  were s socket found w = record { before = w.before; found = w.found; goes = w.goes }

  by_split : NoDials told ⊎ ((sock : ℕ) × (end : ℕ) × (peer : Address) × (told ≡ steps.Dial sock end peer ∷ [])) → (s : SockName) (socket : WorldSocket) (e : End) → find (is_socket_named s) after.sockets ≡ Some socket → MayAskWell journal after socket → EndFits journal after socket e
  by_split (inl n) s socket e found may = there_fits journal log world after place cell (with_host cell host, cell.1) told c.sure c.flowing c.fit c.at cells names (carries_on journal log world place cell told host c) s socket e
      (were s socket found (told_goes journal place (with_host cell host) told log kept ((keeps_sorted journal).cell log world place (with_host cell host, cell.1) c.sure.ends.sorted) c.sure.ends.each n s socket found)) may
  by_split (inr d) s socket e found may = subst (λ (l : List Step). MayCall journal log world place cell l host → find (is_socket_named s) (done_at place cell l host world).1.sockets ≡ Some socket → MayAskWell journal (done_at place cell l host world).1 socket → EndFits journal (done_at place cell l host world).1 socket e) (sym d.3)
      (λ c found may. dial_fits journal log world place cell host d.0 d.1 d.2 c (none d.0 d.1 d.2 d.3) s socket e found may) c found may
