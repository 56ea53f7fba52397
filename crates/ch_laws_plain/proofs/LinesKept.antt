-- A host that keeps another record of one of its sockets: what is read at each end, and whose opening isn't read yet.
use Rattle.std.proofs.Common.{◌≡◌, ℕ, Bool, true, false, cond, ◌&&◌, List, refl, sym, ap, ◌∙◌, subst}
use Rattle.std.specs.Prelude.{find, slice_get, slice_set, Option, Some, None, ◌==◌}
use Rattle.ch_reader.specs.declared.item.Expected.{Expected}
use Rattle.ch_model.specs.declared.name.End.{End}
use Rattle.ch_model.specs.HostState.{Socket, HostState}
use Rattle.ch_model.specs.HostSteps.{is_socket, with_socket}
use Rattle.ch_model.specs.WorldSockets.{end_of, same_number, is_end_of}
use Rattle.ch_model.specs.WorldState.{Cell, WorldEnd, WorldSocket, World}
use Rattle.ch_laws_bytes.specs.Streams.{Reader, reader_in, reader_at, readers_of, reads_at, first_at, is_over, reader_of}
use Rattle.ch_laws_bytes.proofs.Event.{set_at}
use Rattle.ch_laws_bytes.proofs.Sockets.{flip}
use Rattle.ch_laws_calls.specs.Calls.{with_host}
use Rattle.ch_laws_log.proofs.HostTold.{find_stored}
use Rattle.ch_laws_log.proofs.Stored.{number_is, number_same}
use Rattle.ch_laws_plain.specs.Plain.{pending_by, pending_in, pending_at, pending_there, pending_of, PlainAt, EndIsPlain}
use Rattle.ch_laws_plain.proofs.LinesRests.{same_pending}

-- ---- cells of which one is another now

-- the cell once its host keeps that record
abbrev pub keeping : Cell × ℕ → Socket → ℕ → Cell × ℕ
keeping cell kept count = (with_host cell (with_socket kept cell.0.host), count)

-- what is so at each place, where it is so of that one too
one_set : {A : Type 0} (f : Option (Cell × ℕ) → A) (cells : List (Cell × ℕ)) (place : ℕ) (cell now : Cell × ℕ) (p : ℕ) → slice_get cells place ≡ Some cell → (place ≡ p → f (Some now) ≡ f (Some cell)) → f (slice_get (slice_set cells place now) p) ≡ f (slice_get cells p)
one_set f cells place cell now p at same = ap f (set_at cells place cell now p at) ∙ by_test (place == p) refl where
  by_test : (b : Bool) → (place == p) ≡ b → f (cond b (Some now) (slice_get cells p)) ≡ f (slice_get cells p)
  by_test true h = let here = number_is place p h in same here ∙ ap f (sym (ap (slice_get cells) (sym here) ∙ at))
  by_test false h = refl

-- at an end the same is read, where its host reads the same
reads_same : (cells : List (Cell × ℕ)) (place : ℕ) (cell now : Cell × ℕ) (first : Expected) (c m : Option ℕ) → slice_get cells place ≡ Some cell → ((n : ℕ) → c ≡ Some place → m ≡ Some n → reader_in (find (is_socket n) now.0.host.sockets) ≡ reader_in (find (is_socket n) cell.0.host.sockets))
    → reads_at (readers_of (slice_set cells place now)) first c m ≡ reads_at (readers_of cells) first c m
reads_same cells place cell now first None m at same = refl
reads_same cells place cell now first (Some p) None at same = refl
reads_same cells place cell now first (Some p) (Some n) at same = one_set (λ (o : Option (Cell × ℕ)). reader_at o n) cells place cell now p at (λ here. same n (ap Some (sym here)) refl)

pending_same : (cells : List (Cell × ℕ)) (place : ℕ) (cell now : Cell × ℕ) (c m : Option ℕ) → slice_get cells place ≡ Some cell → ((n : ℕ) → pending_at now.0 n ≡ pending_at cell.0 n) → pending_of (slice_set cells place now) c m ≡ pending_of cells c m
pending_same cells place cell now None m at same = refl
pending_same cells place cell now (Some p) None at same = refl
pending_same cells place cell now (Some p) (Some n) at same = one_set (λ (o : Option (Cell × ℕ)). pending_there o n) cells place cell now p at (λ here. same n)

-- ---- a record that is kept

pub found_kept : (kept : Socket) (host : HostState) (n : ℕ) → kept.number ≡ n → find (is_socket n) (with_socket kept host).sockets ≡ Some kept
found_kept kept host n is = find_stored kept host.sockets n ∙ ap (λ b. cond b (Some kept) (find (is_socket n) host.sockets)) (subst (λ (k : ℕ). (kept.number == k) ≡ true) is (number_same kept.number))

found_off : (kept : Socket) (host : HostState) (n : ℕ) → (kept.number == n) ≡ false → find (is_socket n) (with_socket kept host).sockets ≡ find (is_socket n) host.sockets
found_off kept host n off = find_stored kept host.sockets n ∙ ap (λ b. cond b (Some kept) (find (is_socket n) host.sockets)) off

-- nothing else is pending anywhere, where what was pending under its number is what its link has
pub pending_kept : (cells : List (Cell × ℕ)) (place : ℕ) (cell : Cell × ℕ) (kept : Socket) (count : ℕ) (c m : Option ℕ) → slice_get cells place ≡ Some cell → pending_at cell.0 kept.number ≡ pending_by cell.0 kept.user → pending_of (slice_set cells place (keeping cell kept count)) c m ≡ pending_of cells c m
pending_kept cells place cell kept count c m at was = pending_same cells place cell (keeping cell kept count) c m at (λ n. by_test n (kept.number == n) refl) where
  now : Cell
  now = with_host cell (with_socket kept cell.0.host)

  as_before : (o : Option Socket) → pending_in now o ≡ pending_in cell.0 o
  as_before None = refl
  as_before (Some socket) = same_pending cell (with_socket kept cell.0.host) socket.user refl

  by_test : (n : ℕ) (b : Bool) → (kept.number == n) ≡ b → pending_at now n ≡ pending_at cell.0 n
  by_test n true h = let is = number_is kept.number n h in ap (pending_in now) (found_kept kept cell.0.host n is) ∙ as_before (Some kept) ∙ sym was ∙ ap (pending_at cell.0) is
  by_test n false h = ap (pending_in now) (found_off kept cell.0.host n h) ∙ as_before (find (is_socket n) cell.0.host.sockets)

-- ---- an end

-- where the same is read, and the same is pending
pub end_same : (world after : World) (socket : WorldSocket) (e : End) → reader_of after socket e ≡ reader_of world socket e → pending_of after.cells (end_of e socket).cell (end_of e socket).number ≡ pending_of world.cells (end_of e socket).cell (end_of e socket).number → EndIsPlain world socket e → EndIsPlain after socket e
end_same world after socket e reader pending plain = subst (λ (r : Option Reader). PlainAt r (is_over (end_of e socket)) (end_of e socket).unread (pending_of after.cells (end_of e socket).cell (end_of e socket).number)) (sym reader)
    (subst (λ (o : Option ℕ). PlainAt (reader_of world socket e) (is_over (end_of e socket)) (end_of e socket).unread o) (sym pending) plain)

number_off : (place k n : ℕ) (end : WorldEnd) → is_end_of place k end ≡ false → end.cell ≡ Some place → end.number ≡ Some n → (n == k) ≡ false
number_off place k n end off c m = sym (ap (λ (o : Option ℕ). same_number o place && same_number end.number k) c ∙ ap (λ (o : Option ℕ). same_number (Some place) place && same_number o k) m ∙ ap (λ b. b && (n == k)) (number_same place)) ∙ off

-- an end of another number is plain as it was
pub off_plain : (world after : World) (place : ℕ) (cell : Cell × ℕ) (kept : Socket) (count : ℕ) (socket : WorldSocket) (e : End) → slice_get world.cells place ≡ Some cell → after.cells ≡ slice_set world.cells place (keeping cell kept count) → is_end_of place kept.number (end_of e socket) ≡ false
    → pending_of after.cells (end_of e socket).cell (end_of e socket).number ≡ pending_of world.cells (end_of e socket).cell (end_of e socket).number → EndIsPlain world socket e → EndIsPlain after socket e
off_plain world after place cell kept count socket e at cells off pending plain = end_same world after socket e (ap (λ (cs : List (Cell × ℕ)). reads_at (readers_of cs) (first_at e) (end_of e socket).cell (end_of e socket).number) cells
    ∙ reads_same world.cells place cell (keeping cell kept count) (first_at e) (end_of e socket).cell (end_of e socket).number at (λ n c m. ap reader_in (found_off kept cell.0.host n (flip kept.number n ∙ number_off place kept.number n (end_of e socket) off c m)))) pending plain
