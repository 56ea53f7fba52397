-- What hosts read keeps the streams: the items that were read are the first of those that were unread.
use Rattle.std.proofs.Common.{◌≡◌, ℕ, Bool, true, false, cond, ◌&&◌, List, [], ◌∷◌, ◌++◌, drop, refl, sym, ap, ◌∙◌, subst}
use Rattle.std.specs.Prelude.{find, Option, Some, None, ◌==◌}
use Rattle.ch_base.specs.declared.address.Address.{Address}
use Rattle.ch_reader.specs.Items.{expected_after}
use Rattle.ch_reader.specs.Reading.{reading}
use Rattle.ch_reader.specs.declared.item.Expected.{Expected}
use Rattle.ch_reader.specs.declared.item.Expected.TheVariants as expected
use Rattle.ch_reader.specs.declared.item.Item.{Item}
use Rattle.ch_model.specs.declared.name.End.{End}
use Rattle.ch_model.specs.declared.name.End.TheVariants.{O, T}
use Rattle.ch_model.specs.declared.name.SockName.{SockName}
use Rattle.ch_model.specs.declared.step.Step.{Step}
use Rattle.ch_model.specs.HostState.{Socket, HostState}
use Rattle.ch_model.specs.HostSteps.{is_socket}
use Rattle.ch_model.specs.Naming.{Names}
use Rattle.ch_model.specs.Stages.{is_ended}
use Rattle.ch_model.specs.WorldSockets.{end_of, is_socket_named, same_number, is_end_of}
use Rattle.ch_model.specs.WorldState.{WorldEnd, WorldSocket}
use Rattle.ch_laws_log.proofs.Stored.{number_same}
use Rattle.ch_laws_reads.specs.Reads.{AreRead, GoesOn, IsKept, IsFresh, Reads, reads_of}
use Rattle.ch_laws_reads.proofs.Stays.{read_of_spelled}
use Rattle.ch_laws_writes.specs.Dues.{Due}
use Rattle.ch_laws_bytes.specs.Streams.{Reader, reader_in, Fits, Spelled, Flows, is_over, reads_at, writes_at, BothFlow, AllFlow}
use Rattle.ch_laws_bytes.proofs.Steps.{asked_still}
use Rattle.ch_laws_bytes.proofs.Stepped.{from_any, ReadsFirst}

-- items were read, or nothing is read any more
abbrev pub After : Option Reader → Option Reader → Type 0
After before None = Unit {0}
After None (Some now) = ⊥
After (Some reader) (Some now) = (items : List Item) × AreRead reader.0 reader.1 items now.0 now.1

pub after_none : (reader : Option Reader) → After reader reader
after_none None = tt
after_none (Some reader) = ([], (refl, refl))

-- ---- one end

frames_next : (next : Expected) (since left : List ℕ) (items : List Item) → AreRead expected.Frame since items next left → next ≡ expected.Frame
frames_next next since left [] r = r.0
frames_next next since left (item ∷ more) r = frames_next next (drop (reading expected.Frame since).1 since) left more r.1

frames_after : (items : List Item) → expected_after expected.Frame items ≡ expected.Frame
frames_after [] = refl
frames_after (item ∷ items) = refl

expected_on : (e next : Expected) (since left : List ℕ) (items rest : List Item) → AreRead e since items next left → expected_after next rest ≡ expected_after e (items ++ rest)
expected_on e next since left [] rest r = ap (λ (k : Expected). expected_after k rest) r.0
expected_on e next since left (item ∷ more) rest r = ap (λ (k : Expected). expected_after k rest) (frames_next next (drop (reading e since).1 since) left more r.1) ∙ frames_after rest

spelled_after : (reader now : Reader) (unread : List ℕ) (due : Option Due) (items : List Item) → AreRead reader.0 reader.1 items now.0 now.1 → Spelled reader unread due → Spelled now unread due
spelled_after reader now unread due items read s =
    let of = read_of_spelled reader.0 now.0 reader.1 now.1 unread s.items items s.whole s.each read in
    record {
      items = of.rest;
      whole = of.whole;
      each = of.each;
      next = subst (λ (k : Expected). Fits k due) (sym (expected_on reader.0 now.0 reader.1 now.1 items of.rest read ∙ ap (expected_after reader.0) (sym of.split))) s.next;
    }

pub flows_after : (one two : Option Reader) (over : Bool) (unread : List ℕ) (due : Option Due) → After one two → Flows one over unread due → Flows two over unread due
flows_after one None over unread due a f = tt
flows_after None (Some now) over unread due a f = absurd a
flows_after (Some reader) (Some now) true unread due a f = tt
flows_after (Some reader) (Some now) false unread due a f = spelled_after reader now unread due a.0 a.1 f

at_after : (before after : ℕ → ℕ → Option Reader) (first : Expected) (end : WorldEnd) → ((p n : ℕ) → is_end_of p n end ≡ true → After (before p n) (after p n)) → After (reads_at before first end.cell end.number) (reads_at after first end.cell end.number)
at_after before after first end each = by_end end.cell end.number each where
  by_end : (c m : Option ℕ) → ((p n : ℕ) → (same_number c p && same_number m n) ≡ true → After (before p n) (after p n)) → After (reads_at before first c m) (reads_at after first c m)
  by_end None m each = tt
  by_end (Some p) None each = ([], (refl, refl))
  by_end (Some p) (Some n) each = each p n (ap (λ b. b && (n == n)) (number_same p) ∙ number_same n)

-- ---- all sockets

-- At each end that is of a cell under a number, items were read, or nothing is read any more.
pub reading_flow : (own : ℕ → ℕ → Address) (known : Names) (before after : ℕ → ℕ → Option Reader) (dues : ℕ → ℕ → Option Due) (sockets : List WorldSocket)
    → ((s : SockName) (socket : WorldSocket) (e : End) (p n : ℕ) → find (is_socket_named s) sockets ≡ Some socket → is_end_of p n (end_of e socket) ≡ true → After (before p n) (after p n)) → AllFlow own known before dues sockets → AllFlow own known after dues sockets
reading_flow own known before after dues sockets each all s socket is = record {
  opener = record { answers = f.opener.answers; flows = flows_after (reads_at before expected.Answer socket.o.cell socket.o.number) (reads_at after expected.Answer socket.o.cell socket.o.number) (is_over socket.o) socket.o.unread (writes_at dues socket.t.cell socket.t.number) (at_after before after expected.Answer socket.o (λ p n h. each s socket O p n is h)) f.opener.flows };
  target = from_any own known socket.name socket.o.cell one two (is_over socket.t) (is_over socket.t) socket.t.unread socket.t.unread due due
      (λ p. asked_still (own p) known socket.name one two (is_over socket.t) (is_over socket.t) socket.t.unread socket.t.unread due (flows_after one two (is_over socket.t) socket.t.unread due (at_after before after expected.Request socket.t (λ p n h. each s socket T p n is h)))) f.target;
} where
  f : BothFlow own known before dues socket
  f = all s socket is

  one : Option Reader
  one = reads_at before expected.Request socket.t.cell socket.t.number

  two : Option Reader
  two = reads_at after expected.Request socket.t.cell socket.t.number

  due : Option Due
  due = writes_at dues socket.o.cell socket.o.number

-- the same is read
pub read_as : (own : ℕ → ℕ → Address) (known : Names) (before after : ℕ → ℕ → Option Reader) (dues : ℕ → ℕ → Option Due) (sockets : List WorldSocket) → ((p n : ℕ) → after p n ≡ before p n) → AllFlow own known before dues sockets → AllFlow own known after dues sockets
read_as own known before after dues sockets same all = reading_flow own known before after dues sockets (λ s socket e p n is h. subst (λ (r : Option Reader). After (before p n) r) (sym (same p n)) (after_none (before p n))) all

-- ---- what a host has read

socket_after : (count : ℕ) (one two : Socket) → GoesOn count one two → After (reader_in (Some one)) (reader_in (Some two))
socket_after count one two g = by_tests (is_ended one.stage) refl (is_ended two.stage) refl where
  by_tests : (a : Bool) → is_ended one.stage ≡ a → (b : Bool) → is_ended two.stage ≡ b → After (cond a None (Some (one.expected, one.since))) (cond b None (Some (two.expected, two.since)))
  by_tests a e true h = tt
  by_tests true e false h = let over : is_ended two.stage ≡ true = g.over e in absurd cc
  by_tests false e false h = let read = g.read h in (read.items, read.front)

pub host_after : (before after : HostState) (told : List Step) (n : ℕ) (socket : Socket) → Reads before told after → find (is_socket n) before.sockets ≡ Some socket → After (reader_in (find (is_socket n) before.sockets)) (reader_in (find (is_socket n) after.sockets))
host_after before after told n socket r is = subst (λ (o : Option Socket). After (reader_in o) (reader_in (find (is_socket n) after.sockets))) (sym is) (by_kept (find (is_socket n) after.sockets) (r.known n socket is)) where
  by_kept : (o : Option Socket) → IsKept (reads_of n told) socket o → After (reader_in (Some socket)) (reader_in o)
  by_kept None k = absurd k
  by_kept (Some two) k = socket_after (reads_of n told) socket two k

pub host_first : (before after : HostState) (told : List Step) (n : ℕ) → Reads before told after → find (is_socket n) before.sockets ≡ None → ReadsFirst (reader_in (find (is_socket n) after.sockets))
host_first before after told n r none = by_fresh (find (is_socket n) after.sockets) (r.fresh n none) where
  by_stage : (socket : Socket) (b : Bool) → is_ended socket.stage ≡ b → IsFresh (Some socket) → ReadsFirst (cond b None (Some (socket.expected, socket.since)))
  by_stage socket true e f = tt
  by_stage socket false e f = f e

  by_fresh : (o : Option Socket) → IsFresh o → ReadsFirst (reader_in o)
  by_fresh None f = tt
  by_fresh (Some socket) f = by_stage socket (is_ended socket.stage) refl f
