-- One end of a socket is changed in the world, and its host with it: the streams go on where those of that end do.
use Rattle.std.proofs.Common.{◌≡◌, ℕ, Bool, true, false, cond, ◌&&◌, List, refl, sym, ap, ◌∙◌, subst}
use Rattle.std.specs.Prelude.{find, Option, Some, ◌==◌}
use Rattle.ch_base.specs.declared.address.Address.{Address}
use Rattle.ch_reader.specs.declared.item.Expected.TheVariants as expected
use Rattle.ch_model.specs.declared.name.End.{End}
use Rattle.ch_model.specs.declared.name.End.TheVariants.{O, T}
use Rattle.ch_model.specs.declared.name.SockName.{SockName}
use Rattle.ch_model.specs.Naming.{Names}
use Rattle.ch_model.specs.Same.{same_socket, same_end}
use Rattle.ch_model.specs.WorldSockets.{end_of, other, with_end, is_socket_named, with_end_of, is_end_of, find_end}
use Rattle.ch_model.specs.WorldState.{WorldEnd, WorldSocket, World}
use Rattle.ch_laws_log.proofs.Kept.{IsIn}
use Rattle.ch_laws_log.proofs.Stored.{self_same}
use Rattle.ch_laws_ends.proofs.Found.{EachFound}
use Rattle.ch_laws_writes.specs.Dues.{Due}
use Rattle.ch_laws_bytes.specs.Streams.{Reader, first_at, reads_at, writes_at, Flows, is_over, ToOpener, FromOpener, BothFlow, AllFlow}
use Rattle.ch_laws_bytes.proofs.Feeds.{ReadElsewhere, reads_elsewhere, both_read_as, same_end_gone}
use Rattle.ch_laws_bytes.proofs.Sockets.{flip, Elsewhere, writes_elsewhere, both_as, not_found, end_flow}
use Rattle.ch_laws_bytes.proofs.Stepped.{from_any}
use Rattle.ch_laws_bytes.proofs.Steps.{asked_still}

-- one end of a socket is changed: what flowed to it does still, it writes next what it did, and the other end is as it was
pub both_with : (own : ℕ → ℕ → Address) (known : Names) (one two : ℕ → ℕ → Option Reader) (was now : ℕ → ℕ → Option Due) (which : End) (end : WorldEnd) (socket : WorldSocket) → end.cell ≡ (end_of which socket).cell
    → ((due : Option Due) → Flows (reads_at one (first_at which) (end_of which socket).cell (end_of which socket).number) (is_over (end_of which socket)) (end_of which socket).unread due → Flows (reads_at two (first_at which) end.cell end.number) (is_over end) end.unread due)
    → writes_at now end.cell end.number ≡ writes_at was (end_of which socket).cell (end_of which socket).number
    → reads_at two (first_at (other which)) (end_of (other which) socket).cell (end_of (other which) socket).number ≡ reads_at one (first_at (other which)) (end_of (other which) socket).cell (end_of (other which) socket).number
    → writes_at now (end_of (other which) socket).cell (end_of (other which) socket).number ≡ writes_at was (end_of (other which) socket).cell (end_of (other which) socket).number → BothFlow own known one was socket → BothFlow own known two now (with_end which end socket)
both_with own known one two was now O end socket c flows due reads writes f = record {
  opener = subst (λ (d : Option Due). ToOpener (reads_at two expected.Answer end.cell end.number) (is_over end) end.unread d) (sym writes) (record { answers = f.opener.answers; flows = flows (writes_at was socket.t.cell socket.t.number) f.opener.flows });
  target = subst (λ (p : Option ℕ). FromOpener own known socket.name p (reads_at two expected.Request socket.t.cell socket.t.number) (is_over socket.t) socket.t.unread (writes_at now end.cell end.number)) (sym c)
      (subst (λ (r : Option Reader). FromOpener own known socket.name socket.o.cell r (is_over socket.t) socket.t.unread (writes_at now end.cell end.number)) (sym reads)
      (subst (λ (d : Option Due). FromOpener own known socket.name socket.o.cell (reads_at one expected.Request socket.t.cell socket.t.number) (is_over socket.t) socket.t.unread d) (sym due) f.target));
}
both_with own known one two was now T end socket c flows due reads writes f = record {
  opener = subst (λ (r : Option Reader). ToOpener r (is_over socket.o) socket.o.unread (writes_at now end.cell end.number)) (sym reads)
      (subst (λ (d : Option Due). ToOpener (reads_at one expected.Answer socket.o.cell socket.o.number) (is_over socket.o) socket.o.unread d) (sym due) f.opener);
  target = subst (λ (d : Option Due). FromOpener own known socket.name socket.o.cell reader (is_over end) end.unread d) (sym writes)
      (from_any own known socket.name socket.o.cell before reader (is_over socket.t) (is_over end) socket.t.unread end.unread next next (λ p. asked_still (own p) known socket.name before reader (is_over socket.t) (is_over end) socket.t.unread end.unread next (flows next)) f.target);
} where
  before : Option Reader
  before = reads_at one expected.Request socket.t.cell socket.t.number

  reader : Option Reader
  reader = reads_at two expected.Request end.cell end.number

  next : Option Due
  next = writes_at was socket.o.cell socket.o.number

-- no end but this one is found under that number
abbrev pub IsOnly : ℕ → ℕ → WorldSocket → End → List WorldSocket → Type 0
IsOnly place number socket which sockets = (t : SockName) (e : End) → find_end place number sockets ≡ Some (t, e) → (t ≡ socket.name) × (e ≡ which)

-- What is read and due changes only at the place and number of the end that is changed.
pub flow_changed : (own : ℕ → ℕ → Address) (known : Names) (one two : ℕ → ℕ → Option Reader) (was now : ℕ → ℕ → Option Due) (place number : ℕ) (which : End) (f : WorldEnd → WorldEnd) (socket : WorldSocket) (world : World) → IsIn socket world → EachFound world.sockets → IsOnly place number socket which world.sockets
    → ReadElsewhere place number one two → Elsewhere place number was now → (f (end_of which socket)).cell ≡ (end_of which socket).cell
    → ((due : Option Due) → Flows (reads_at one (first_at which) (end_of which socket).cell (end_of which socket).number) (is_over (end_of which socket)) (end_of which socket).unread due
    → Flows (reads_at two (first_at which) (f (end_of which socket)).cell (f (end_of which socket)).number) (is_over (f (end_of which socket))) (f (end_of which socket)).unread due)
    → writes_at now (f (end_of which socket)).cell (f (end_of which socket)).number ≡ writes_at was (end_of which socket).cell (end_of which socket).number
    → AllFlow own known one was world.sockets → AllFlow own known two now (with_end_of socket.name which f world).sockets
flow_changed own known one two was now place number which f socket world is each only reads writes c flows due all = end_flow own known two now socket.name which f world
    (λ old found. subst (λ (v : WorldSocket). BothFlow own known two now (with_end which (f (end_of which v)) v)) (same_end_gone socket old socket.name world.sockets is found) mine)
    (λ t v h found. both_as own known two was now v (writes_elsewhere place number was now v.o writes (apart t v O h found)) (writes_elsewhere place number was now v.t writes (apart t v T h found))
    (both_read_as own known one two was v (reads_elsewhere place number one two expected.Answer v.o reads (apart t v O h found)) (reads_elsewhere place number one two expected.Request v.t reads (apart t v T h found)) (all t v found)))
  where
    not_named : (t : SockName) → same_socket socket.name t ≡ false → t ≡ socket.name → ⊥
    not_named t h e = let yes : same_socket socket.name t ≡ true = subst (λ (k : SockName). same_socket socket.name k ≡ true) (sym e) (self_same socket.name) in absurd cc

    not_itself : (w : End) → other w ≡ w → ⊥
    not_itself O e = let yes : same_end T O ≡ true = subst (λ (w : End). same_end T w ≡ true) e refl in absurd cc
    not_itself T e = let yes : same_end O T ≡ true = subst (λ (w : End). same_end O w ≡ true) e refl in absurd cc

    apart : (t : SockName) (v : WorldSocket) (e : End) → same_socket socket.name t ≡ false → find (is_socket_named t) world.sockets ≡ Some v → is_end_of place number (end_of e v) ≡ false
    apart t v e h found = not_found place number world.sockets t v e each found (λ m. not_named t h (only t e m).0)

    apart_here : is_end_of place number (end_of (other which) socket) ≡ false
    apart_here = not_found place number world.sockets socket.name socket (other which) each is (λ m. not_itself which (only socket.name (other which) m).1)

    mine : BothFlow own known two now (with_end which (f (end_of which socket)) socket)
    mine = both_with own known one two was now which (f (end_of which socket)) socket c flows due (reads_elsewhere place number one two (first_at (other which)) (end_of (other which) socket) reads apart_here)
        (writes_elsewhere place number was now (end_of (other which) socket) writes apart_here) (all socket.name socket is)

-- ---- a host that has one record more, or another in its place

-- what is seen of the host at a place is as it was but under one number, and so all is elsewhere
pub but_at : {A : Type 0} (place number p n : ℕ) (new old all : A) → ((n == number) ≡ false → new ≡ old) → cond (place == p) old all ≡ all → ((p == place) && (n == number)) ≡ false → cond (place == p) new all ≡ all
but_at {A = A} place number p n new old all same there h = by_tests (place == p) (n == number) refl there (ap (λ b. b && (n == number)) (flip place p) ∙ h) where
  by_tests : (a b : Bool) → (n == number) ≡ b → cond a old all ≡ all → (a && b) ≡ false → cond a new all ≡ all
  by_tests true true k there h = absurd cc
  by_tests true false k there h = same k ∙ there
  by_tests false b k there h = refl
