-- What is carried of sockets at whose ends a host's one record isn't, which was stored.
use Rattle.std.proofs.Common.{◌≡◌, ℕ, Bool, true, false, cond, ◌&&◌, List, ◌++◌, refl, sym, ap, ◌∙◌, subst}
use Rattle.std.specs.Prelude.{find, slice_get, Option, Some, ◌==◌}
use Rattle.ch_reader.specs.declared.item.Expected.TheVariants as expected
use Rattle.ch_model.specs.declared.line.Line.{Line}
use Rattle.ch_model.specs.HostState.{Socket, HostState}
use Rattle.ch_model.specs.HostSteps.{is_socket, with_socket}
use Rattle.ch_model.specs.Naming.{Names}
use Rattle.ch_model.specs.WorldSockets.{same_number, is_end_of}
use Rattle.ch_model.specs.WorldState.{Cell, WorldSocket}
use Rattle.ch_laws_log.proofs.HostTold.{find_stored}
use Rattle.ch_laws_log.proofs.Stored.{number_is}
use Rattle.ch_laws_writes.specs.Dues.{Due, due_of, due_at}
use Rattle.ch_laws_bytes.proofs.Event.{given_readers, given_dues}
use Rattle.ch_laws_bytes.proofs.Feeds.{ReadElsewhere, reads_elsewhere}
use Rattle.ch_laws_bytes.proofs.Lines.{own_of}
use Rattle.ch_laws_bytes.proofs.Sockets.{flip, Elsewhere, writes_elsewhere}
use Rattle.ch_laws_bytes.specs.Streams.{reader_in, reader_at, readers_of, due_in, dues_of}
use Rattle.ch_laws_calls.specs.UsersCarried.{record_at, records_of, IsSeated, AsksOn, Answered, IsBegun}
use Rattle.ch_laws_calls.proofs.UsersDone.{given_records}

-- ---- a record is stored

-- a host that has one more record, or another one under this number
abbrev pub Stored : ℕ → Socket → HostState → HostState → Type 0
Stored number new before after = ((n : ℕ) → find (is_socket n) after.sockets ≡ cond (number == n) (Some new) (find (is_socket n) before.sockets))

pub stored : (number : ℕ) (new : Socket) (host : HostState) → new.number ≡ number → Stored number new host (with_socket new host)
stored number new host e n = find_stored new host.sockets n ∙ ap (λ (k : ℕ). cond (k == n) (Some new) (find (is_socket n) host.sockets)) e

-- what is so of each record elsewhere is as it was
elsewhere : {A : Type 0} (f : Option Socket → A) (g : ℕ → ℕ → A) (place number : ℕ) (new : Socket) (before after : HostState) → ((n : ℕ) → g place n ≡ f (find (is_socket n) before.sockets)) → Stored number new before after → (p n : ℕ) → ((p == place) && (n == number)) ≡ false
    → cond (place == p) (f (find (is_socket n) after.sockets)) (g p n) ≡ g p n
elsewhere f g place number new before after at s p n h = by_tests (place == p) refl (number == n) refl (ap (λ b. b && (number == n)) (flip place p) ∙ ap (λ b. (p == place) && b) (flip number n) ∙ h) where
  by_tests : (a : Bool) → (place == p) ≡ a → (b : Bool) → (number == n) ≡ b → (a && b) ≡ false → cond a (f (find (is_socket n) after.sockets)) (g p n) ≡ g p n
  by_tests false e b k h = refl
  by_tests true e true k h = absurd cc
  by_tests true e false k h = ap f (s n ∙ ap (λ b. cond b (Some new) (find (is_socket n) before.sockets)) k) ∙ sym (at n) ∙ ap (λ (q : ℕ). g q n) (number_is place p e)

pub records_else : (cells : List (Cell × ℕ)) (place number : ℕ) (new : Socket) (cell : Cell × ℕ) (after : HostState) → slice_get cells place ≡ Some cell → Stored number new cell.0.host after → (p n : ℕ) → ((p == place) && (n == number)) ≡ false → given_records place after cells p n ≡ records_of cells p n
records_else cells place number new cell after at s = elsewhere (λ (o : Option Socket). o) (records_of cells) place number new cell.0.host after (λ n. ap (λ (o : Option (Cell × ℕ)). record_at o n) at) s

pub readers_else : (cells : List (Cell × ℕ)) (place number : ℕ) (new : Socket) (cell : Cell × ℕ) (after : HostState) → slice_get cells place ≡ Some cell → Stored number new cell.0.host after → ReadElsewhere place number (readers_of cells) (given_readers place after cells)
readers_else cells place number new cell after at s = elsewhere reader_in (readers_of cells) place number new cell.0.host after (λ n. ap (λ (o : Option (Cell × ℕ)). reader_at o n) at) s

pub dues_else : (cells : List (Cell × ℕ)) (place number : ℕ) (new : Socket) (cell : Cell × ℕ) (after : HostState) → slice_get cells place ≡ Some cell → Stored number new cell.0.host after → Elsewhere place number (dues_of cells) (given_dues place (due_at after) cells)
dues_else cells place number new cell after at s = elsewhere due_of (dues_of cells) place number new cell.0.host after (λ n. ap (λ (o : Option (Cell × ℕ)). due_in o n) at) s

-- ---- a socket elsewhere

-- a target's end that the number isn't of
pub target_else : (place number p n : ℕ) (socket : WorldSocket) → socket.t.cell ≡ Some p → socket.t.number ≡ Some n → is_end_of place number socket.t ≡ false → ((p == place) && (n == number)) ≡ false
target_else place number p n socket c m e = sym (ap (λ (o : Option ℕ). same_number o place && same_number socket.t.number number) c ∙ ap (λ (o : Option ℕ). (p == place) && same_number o number) m) ∙ e

pub seated_else : (journal : List Line) (known : Names) (cells : List (Cell × ℕ)) (place number : ℕ) (new : Socket) (cell : Cell × ℕ) (after : HostState) (socket : WorldSocket) → slice_get cells place ≡ Some cell → Stored number new cell.0.host after → is_end_of place number socket.t ≡ false
    → IsSeated journal known (records_of cells) socket → IsSeated journal known (given_records place after cells) socket
seated_else journal known cells place number new cell after socket at stored t s = record {
  opener = s.opener;
  at = s.at;
  from_host = s.from_host;
  taken = s.taken;
  uncut = s.uncut;
  target = λ p n held c m r. s.target p n held c m (sym (records_else cells place number new cell after at stored p n (target_else place number p n socket c m t)) ∙ r);
}

pub begun_else : (journal : List Line) (known : Names) (cells : List (Cell × ℕ)) (place number : ℕ) (new : Socket) (cell : Cell × ℕ) (after : HostState) (socket : WorldSocket) → slice_get cells place ≡ Some cell → Stored number new cell.0.host after → is_end_of place number socket.o ≡ false → is_end_of place number socket.t ≡ false
    → IsBegun journal known (readers_of cells) (dues_of cells) socket → IsBegun journal known (given_readers place after cells) (given_dues place (due_at after) cells) socket
begun_else journal known cells place number new cell after socket at stored o t b = record {
  leads = b.leads;
  answer = λ clean over since r. subst (λ (d : Option Due). Answered (since ++ socket.o.unread) d) (sym (writes_elsewhere place number (dues_of cells) (given_dues place (due_at after) cells) socket.t (dues_else cells place number new cell after at stored) t))
      (b.answer clean over since (sym (reads_elsewhere place number (readers_of cells) (given_readers place after cells) expected.Answer socket.o (readers_else cells place number new cell after at stored) o) ∙ r));
  request = λ p c over since r. subst (λ (d : Option Due). AsksOn (own_of journal p) known b.leads.asked socket.name (since ++ socket.t.unread) d) (sym (writes_elsewhere place number (dues_of cells) (given_dues place (due_at after) cells) socket.o (dues_else cells place number new cell after at stored) o))
      (b.request p c over since (sym (reads_elsewhere place number (readers_of cells) (given_readers place after cells) expected.Request socket.t (readers_else cells place number new cell after at stored) t) ∙ r));
}
