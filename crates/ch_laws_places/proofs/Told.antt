-- After a call of a host, with all its steps, the places at each end of each socket stand by their items.
use Rattle.std.proofs.Common.{◌≡◌, ◌⊎◌, inl, inr, ℕ, Bool, true, false, cond, List, [], ◌∷◌, ◌++◌, refl, sym, ap, ◌∙◌, subst}
use Rattle.std.specs.Option.{option_map}
use Rattle.std.specs.Prelude.{find, slice_get, slice_set, Option, Some, None}
use Rattle.ch_base.specs.declared.address.Address.{Address}
use Rattle.ch_reader.specs.declared.item.Expected.{Expected}
use Rattle.ch_reader.specs.declared.item.Expected.TheVariants as expected
use Rattle.ch_model.specs.declared.entry.Entry.{Entry}
use Rattle.ch_model.specs.declared.line.Line.{Line}
use Rattle.ch_model.specs.declared.name.End.{End}
use Rattle.ch_model.specs.declared.name.End.TheVariants.{O, T}
use Rattle.ch_model.specs.declared.name.SockName.{SockName}
use Rattle.ch_model.specs.declared.step.Step.{Step}
use Rattle.ch_model.specs.declared.step.Step.TheVariants as steps
use Rattle.ch_model.specs.CellSteps.{told_steps}
use Rattle.ch_model.specs.HostState.{Socket, HostState}
use Rattle.ch_model.specs.HostSteps.{own_address, is_socket}
use Rattle.ch_model.specs.Naming.{called}
use Rattle.ch_model.specs.Same.{same_socket}
use Rattle.ch_model.specs.Stages.{Stage, Pending, is_ended}
use Rattle.ch_model.specs.WorldHappenings.{with_cell}
use Rattle.ch_model.specs.WorldSockets.{end_of, other, end_of_nobody, is_socket_named, cell_of, target_end, new_socket}
use Rattle.ch_model.specs.WorldState.{Cell, WorldSocket, World}
use Rattle.ch_laws_bytes.specs.Streams.{reader_in, reader_at, readers_of, reads_at, first_at, is_over, reader_of, due_of_end}
use Rattle.ch_laws_bytes.proofs.Event.{Flowing}
use Rattle.ch_laws_bytes.proofs.Lines.{own_of}
use Rattle.ch_laws_bytes.proofs.Told.{told_names}
use Rattle.ch_laws_calls.specs.Calls.{with_host, done_at}
use Rattle.ch_laws_ends.proofs.Changes.{told_cells}
use Rattle.ch_laws_ends.proofs.Known.{keeps_sorted}
use Rattle.ch_laws_ends.proofs.Places.{got_same, set_split}
use Rattle.ch_laws_ends.proofs.Told.{Sure}
use Rattle.ch_laws_log.specs.HostEnds.{stage_at, AreNewTo}
use Rattle.ch_laws_log.proofs.Stored.{number_same, find_stored}
use Rattle.ch_laws_reads.specs.Reads.{IsFresh}
use Rattle.ch_laws_calls.specs.FitsFit.{MayAskWell}
use Rattle.ch_laws_calls.specs.FitsTurns.{NoDials, DialsAlone}
use Rattle.ch_laws_calls.proofs.FitsEnds.{own_by, FlowsThere, flows_there}
use Rattle.ch_laws_calls.proofs.FitsTold.{end_kept, asked_before}
use Rattle.ch_laws_places.specs.Places.{Carried, CarriedAt, EndPlaced, HostPlaced, Placed}
use Rattle.ch_laws_places.specs.Said.{Written}
use Rattle.ch_laws_places.proofs.Ends.{ReaderReads, carried_at, Calls, IsKnown, reader_reads, writer_writes}
use Rattle.ch_laws_places.proofs.Sockets.{pieces_of, reads_at_end, WasThere, dial_rests, told_goes}

-- ---- a socket that was there

pub there_placed : (journal : List Line) (log : List Entry) (world after : World) (place : ℕ) (cell now : Cell × ℕ) (told : List Step) → Sure journal log world → Flowing (own_of journal) world → Placed journal log world → slice_get world.cells place ≡ Some cell → after.cells ≡ slice_set world.cells place now → after.names ≡ world.names
    → Calls (own_of journal place) cell.0.host told now.0.host → (s : SockName) (socket : WorldSocket) (e : End) → WasThere place told world s socket → MayAskWell journal after socket → EndPlaced after socket e
there_placed journal log world after place cell now told sure flowing placed at cells names calls s socket e was may =
    carried_at (own_by journal (end_of (other e) was.before).cell) (due_of_end world was.before (other e)) (reader_of world was.before e) (reader_of after socket e) (is_over (end_of e was.before)) (is_over (end_of e socket)) (end_of e was.before).unread (end_of e socket).unread
    (pieces_of place told (end_of (other e) was.before)) (reads_at_end place told (end_of e was.before)) (end_of e was.before).places (end_of e socket).places
    (was.goes.ends e).lives (was.goes.ends e).unread (was.goes.ends e).places flows.flows flows.may (placed.ends s was.before e was.found may_before) reader writer
  where
    may_before : MayAskWell journal world was.before
    may_before = asked_before journal world after was.before socket names was.goes.name (was.goes.ends O).cell may

    flows : FlowsThere journal world was.before e
    flows = flows_there journal world s was.before e flowing was.found may_before

    known : IsKnown place cell.0.host (end_of e was.before).cell (end_of e was.before).number
    known = end_kept journal log world s was.before e place cell sure was.found at

    Read : List (Cell × ℕ) → Option ℕ → Option ℕ → Type 0
    Read cs c m = ReaderReads (reader_of world was.before e) (reads_at_end place told (end_of e was.before)) (reads_at (readers_of cs) (first_at e) c m)

    reader : Read after.cells (end_of e socket).cell (end_of e socket).number
    reader = subst (λ (cs : List (Cell × ℕ)). Read cs (end_of e socket).cell (end_of e socket).number) (sym cells) (subst (λ (c : Option ℕ). Read (slice_set world.cells place now) c (end_of e socket).number) (sym (was.goes.ends e).cell) (subst (λ (m : Option ℕ). Read (slice_set world.cells place now) (end_of e was.before).cell m) (sym (was.goes.ends e).number)
        (reader_reads (own_of journal place) world.cells place cell now told (first_at e) (end_of e was.before).cell (end_of e was.before).number at calls known)))

    writer : Written (own_by journal (end_of (other e) was.before).cell) (due_of_end world was.before (other e)) (pieces_of place told (end_of (other e) was.before))
    writer = writer_writes journal world.cells place cell now told (end_of (other e) was.before).cell (end_of (other e) was.before).number at calls

-- ---- a socket that is dialed

-- of no bytes there are no items, and no places
none_carried : (e : Expected) (since : List ℕ) → since ≡ [] → Carried (e, since) [] []
none_carried e since none = record { all = []; whole = ap (λ (l : List ℕ). l ++ []) none; each = tt; stand = tt }

new_opener : (host : HostState) (sock : ℕ) → IsFresh (find (is_socket sock) host.sockets) → CarriedAt (reader_in (find (is_socket sock) host.sockets)) false [] []
new_opener host sock fresh = by_found (find (is_socket sock) host.sockets) fresh where
  by_found : (o : Option Socket) → IsFresh o → CarriedAt (reader_in o) false [] []
  by_found None f = tt
  by_found (Some known) f = by_test (is_ended known.stage) refl where
    by_test : (b : Bool) → is_ended known.stage ≡ b → CarriedAt (cond b None (Some (known.expected, known.since))) false [] []
    by_test true live = tt
    by_test false live = none_carried known.expected known.since (f live).1

new_placed : (after world : World) (place : ℕ) (now : Cell × ℕ) (sock : ℕ) (from to from_host : List ℕ) (address : Address) (e : End) → slice_get after.cells place ≡ Some now → IsFresh (find (is_socket sock) now.0.host.sockets) → EndPlaced after (new_socket world from to from_host (end_of_nobody (Some place) (Some sock) Pending) address) e
new_placed after world place now sock from to from_host address O at fresh = subst (λ (o : Option (Cell × ℕ)). CarriedAt (reader_at o sock) false [] []) (sym at) (new_opener now.0.host sock fresh)
new_placed after world place now sock from to from_host address T at fresh = by_cell (cell_of world address) where
  by_cell : (c : Option ℕ) → CarriedAt (reads_at (readers_of after.cells) expected.Request (target_end c).cell (target_end c).number) (is_over (target_end c)) (target_end c).unread (target_end c).places
  by_cell None = tt
  by_cell (Some p) = none_carried expected.Request [] refl

-- ---- a call

-- what dials dials alone
pub alone_split : (told : List Step) → DialsAlone told → NoDials told ⊎ ((sock : ℕ) × (end : ℕ) × (peer : Address) × (told ≡ steps.Dial sock end peer ∷ []))
alone_split [] a = inl tt
alone_split (steps.Dial sock end peer ∷ rest) a = inr (sock, end, peer, ap (λ (l : List Step). steps.Dial sock end peer ∷ l) a)
alone_split (steps.Read sock ∷ rest) a = inl a
alone_split (steps.Write sock bytes said ∷ rest) a = inl a
alone_split (steps.Up sock ∷ rest) a = inl a
alone_split (steps.Down sock ∷ rest) a = inl a
alone_split (steps.Left sock ∷ rest) a = inl a
alone_split (steps.Broke end peer why ∷ rest) a = inl a
alone_split (steps.Post end event ∷ rest) a = inl a

-- what is so of a call of a host, in a log and its world
pub record MayCall (journal : List Line) (log : List Entry) (world : World) (place : ℕ) (cell : Cell × ℕ) (told : List Step) (host : HostState) : Type 0 where
  pub at : slice_get world.cells place ≡ Some cell
  pub sure : Sure journal log world
  pub flowing : Flowing (own_of journal) world
  pub placed : Placed journal log world
  pub calls : Calls (own_of journal place) cell.0.host told host
  pub waits : HostPlaced host
  pub alone : DialsAlone told

-- so it is of each host, where one is another now
pub hosts_placed : (world after : World) (place : ℕ) (cell now : Cell × ℕ) → slice_get world.cells place ≡ Some cell → after.cells ≡ slice_set world.cells place now → ((p : ℕ) (c : Cell × ℕ) → slice_get world.cells p ≡ Some c → HostPlaced c.0.host) → HostPlaced now.0.host → (p : ℕ) (c : Cell × ℕ) → slice_get after.cells p ≡ Some c → HostPlaced c.0.host
hosts_placed world after place cell now at cells all one p c f = set_split world.cells place cell now at (λ p c. HostPlaced c.0.host) one (λ p c e g. all p c g) p c (ap (λ (l : List (Cell × ℕ)). slice_get l p) (sym cells) ∙ f)

-- the same where its steps dial
dial_placed : (journal : List Line) (log : List Entry) (world : World) (place : ℕ) (cell : Cell × ℕ) (host : HostState) (sock end : ℕ) (peer : Address) → MayCall journal log world place cell (steps.Dial sock end peer ∷ []) host → find (is_socket sock) cell.0.host.sockets ≡ None → (s : SockName) (socket : WorldSocket) (e : End)
    → find (is_socket_named s) (done_at place cell (steps.Dial sock end peer ∷ []) host world).1.sockets ≡ Some socket → MayAskWell journal (done_at place cell (steps.Dial sock end peer ∷ []) host world).1 socket → EndPlaced (done_at place cell (steps.Dial sock end peer ∷ []) host world).1 socket e
dial_placed journal log world place cell host sock end peer c none s socket e found may = by_name (same_socket new.name s) refl (sym (find_stored new world.sockets s) ∙ found) where
  kept : World
  kept = with_cell place (with_host cell host, cell.1) world

  after : World
  after = (done_at place cell (steps.Dial sock end peer ∷ []) host world).1

  new : WorldSocket
  new = new_socket kept (called kept.names (own_address host end)) (called kept.names peer) host.host (end_of_nobody (Some place) (Some sock) Pending) peer

  by_name : (b : Bool) → same_socket new.name s ≡ b → cond b (Some new) (find (is_socket_named s) world.sockets) ≡ Some socket → EndPlaced after socket e
  by_name true h f = let is : new ≡ socket = cc in subst (λ (w : WorldSocket). EndPlaced after w e) is
      (new_placed after kept place (with_host cell host, cell.1) sock (called kept.names (own_address host end)) (called kept.names peer) host.host peer e (got_same world.cells place cell (with_host cell host, cell.1) c.at) (c.calls.reads.fresh sock none))
  by_name false h f = there_placed journal log world after place cell (with_host cell host, cell.1) (steps.Dial sock end peer ∷ []) c.sure c.flowing c.placed c.at refl refl c.calls s socket e (record { before = socket; found = f; goes = dial_rests place sock end peer socket }) may

pub call_placed : (journal : List Line) (log more : List Entry) (world : World) (place : ℕ) (cell : Cell × ℕ) (told : List Step) (host : HostState) → MayCall journal log world place cell told host → ((n : ℕ) → AreNewTo n told (stage_at cell.0.host n)) → Placed journal more (done_at place cell told host world).1
call_placed journal log more world place cell told host c new = record {
  hosts = hosts_placed world after place cell (with_host cell host, cell.1) c.at cells c.placed.hosts c.waits;
  ends = λ s socket e found may. by_split (alone_split told c.alone) s socket e found may;
} where
  kept : World
  kept = with_cell place (with_host cell host, cell.1) world

  after : World
  after = (done_at place cell told host world).1

  cells : after.cells ≡ slice_set world.cells place (with_host cell host, cell.1)
  cells = told_cells place (with_host cell host) (told_steps told) kept

  names : after.names ≡ world.names
  names = told_names place (with_host cell host) (told_steps told) kept

  none : (sock end : ℕ) (peer : Address) → told ≡ steps.Dial sock end peer ∷ [] → find (is_socket sock) cell.0.host.sockets ≡ None
  none sock end peer is = by_found (find (is_socket sock) cell.0.host.sockets) ((subst (λ (l : List Step). AreNewTo sock l (stage_at cell.0.host sock)) is (new sock)).0 (number_same sock)) where
    by_found : (o : Option Socket) → ◌≡◌ {A = Option Stage} (option_map (λ (w : Socket). w.stage) o) None → o ≡ None
    by_found None e = refl
    by_found (Some known) e = absurd cc

  were : (s : SockName) (socket : WorldSocket) → find (is_socket_named s) after.sockets ≡ Some socket → WasThere place told kept s socket → WasThere place told world s socket
  were s socket found w = record { before = w.before; found = w.found; goes = w.goes }

  by_split : NoDials told ⊎ ((sock : ℕ) × (end : ℕ) × (peer : Address) × (told ≡ steps.Dial sock end peer ∷ [])) → (s : SockName) (socket : WorldSocket) (e : End) → find (is_socket_named s) after.sockets ≡ Some socket → MayAskWell journal after socket → EndPlaced after socket e
  by_split (inl n) s socket e found may = there_placed journal log world after place cell (with_host cell host, cell.1) told c.sure c.flowing c.placed c.at cells names c.calls s socket e
      (were s socket found (told_goes journal place (with_host cell host) told log kept ((keeps_sorted journal).cell log world place (with_host cell host, cell.1) c.sure.ends.sorted) c.sure.ends.each n s socket found)) may
  by_split (inr d) s socket e found may = subst (λ (l : List Step). MayCall journal log world place cell l host → find (is_socket_named s) (done_at place cell l host world).1.sockets ≡ Some socket → MayAskWell journal (done_at place cell l host world).1 socket → EndPlaced (done_at place cell l host world).1 socket e) (sym d.3)
      (λ c found may. dial_placed journal log world place cell host d.0 d.1 d.2 c (none d.0 d.1 d.2 d.3) s socket e found may) c found may
