-- What is seen after changes at two sockets, one after the other.
use mathlib.Core.Path.{fun_ext}
use Rattle.std.specs.Prelude.{◌≡◌, ℕ, Bool, true, false, cond, ◌==◌, nat_eq, List, find, slice_get, slice_set, Some}
use Rattle.std.proofs.Common.{refl, ap, sym, ◌∙◌, subst}
use Rattle.ch_link.specs.declared.LinkState.{LinkState}
use Rattle.ch_model.specs.declared.name.End.{End}
use Rattle.ch_model.specs.declared.name.End.TheVariants.{O, T}
use Rattle.ch_model.specs.HostState.{Socket, HostState}
use Rattle.ch_model.specs.HostSteps.{is_socket}
use Rattle.ch_model.specs.Same.{is_between}
use Rattle.ch_reader.specs.declared.item.Expected.{Expected}
use Rattle.ch_model.specs.WorldState.{WorldEnd, WorldSocket}
use Rattle.ch_model.specs.WorldSockets.{end_of, is_end_of}
use Rattle.ch_model.specs.WorldSockets as world
use Rattle.ch_race.specs.Pair.{Side, Lesser, Greater, other, Sock, put, point}
use Rattle.ch_laws_race.specs.Scene.{Party}
use Rattle.ch_laws_race.specs.View.{Reader, reader_of, reader_at, place_of, with_places, seen}
use Rattle.ch_laws_race.specs.Sound.{AreApart, first_of}
use Rattle.ch_laws_race.proofs.Sockets.{by_test, Alike, end_alike, ends_differ}
use Rattle.ch_laws_race.proofs.Views.{at_place, host_here, Kept, own_reader, reader_same, seen_changed}
use Rattle.ch_laws_race.proofs.Socks.{sock_by}
use Rattle.ch_laws_race.proofs.One.{same_end, by_end}

-- the last host of a place stays
pub placed_twice : (p : ℕ) (a b : HostState) (hosts : ℕ → HostState) → at_place p a (at_place p b hosts) ≡ at_place p a hosts
placed_twice p a b hosts = fun_ext at where
  at : (q : ℕ) → cond (nat_eq q p) a (cond (nat_eq q p) b (hosts q)) ≡ cond (nat_eq q p) a (hosts q)
  at q = by (nat_eq q p) where
    by : (z : Bool) → cond z a (cond z b (hosts q)) ≡ cond z a (hosts q)
    by true = refl
    by false = refl

module _ (party : Side → Party) (x : Side) (hosts : ℕ → HostState) (before now : HostState) (xs : List WorldSocket) (quiet : Bool)
    (i number : ℕ) (e : End) (s t : WorldSocket) (state : LinkState) (known : Socket)
    (differ : (party (other x)).place ≡ (party x).place → ((party x).address.id == (party (other x)).address.id) ≡ false)
    (apart : AreApart xs) (at : slice_get xs i ≡ Some s) (own : is_end_of (party x).place number (end_of e s) ≡ true)
    (between : is_between (party Lesser).name (party Greater).name s.name ≡ true) (alike : Alike s t)
    (here : hosts (party x).place ≡ before)
    (kept : Kept number (party x).address.id (party (other x)).address before now state)
    (found : find (is_socket number) now.sockets ≡ Some known) where
  abbrev P : ℕ
  P = (party x).place

  abbrev Their : Reader
  Their = reader_at hosts (first_of (world.other e)) (end_of (world.other e) s)

  kept_here : Kept number (party x).address.id (party (other x)).address (hosts P) now state
  kept_here = subst (λ (h : HostState). Kept number (party x).address.id (party (other x)).address h now state) (sym here) kept

  other_off : is_end_of P number (end_of (world.other e) s) ≡ false
  other_off = off e own where
    off : (f : End) → is_end_of P number (end_of f s) ≡ true → is_end_of P number (end_of (world.other f) s) ≡ false
    off O mine = by_test (is_end_of P number s.t) (λ h. ends_differ (apart.numbered i i s s O T P number at at mine h).1) (λ h. h)
    off T mine = by_test (is_end_of P number s.o) (λ h. ends_differ (apart.numbered i i s s O T P number at at h mine).1) (λ h. h)

  pub stage : seen party (at_place P now hosts) (slice_set xs i t) quiet
      ≡ point x (with_places (place_of P xs) state) (put i (sock_by party e (known.expected, known.since) Their t) (seen party hosts xs quiet))
  stage = seen_changed party x hosts now xs quiet i number e s t state differ apart at own between alike kept_here
      ∙ ap (λ (z : Sock). point x (with_places (place_of P xs) state) (put i z (seen party hosts xs quiet))) (by_end e party (at_place P now hosts) t
      ∙ ap (λ (r : Reader). sock_by party e r (reader_at (at_place P now hosts) (first_of (world.other e)) (end_of (world.other e) t)) t) mine
      ∙ ap (λ (r : Reader). sock_by party e (known.expected, known.since) r t) theirs) where
        mine : reader_at (at_place P now hosts) (first_of e) (end_of e t) ≡ (known.expected, known.since)
        mine = own_reader (at_place P now hosts) P number (first_of e) (end_of e t) (end_alike s t P number e alike ∙ own)
            ∙ ap (λ (h : HostState). reader_of (first_of e) (find (is_socket number) h.sockets)) (host_here P now hosts) ∙ ap (reader_of (first_of e)) found

        theirs : reader_at (at_place P now hosts) (first_of (world.other e)) (end_of (world.other e) t) ≡ Their
        theirs = same_end (world.other e) s t alike (at_place P now hosts) (first_of (world.other e))
            ∙ reader_same party x hosts now xs quiet i number e s t state differ apart at own between alike kept_here (first_of (world.other e)) (end_of (world.other e) s) other_off

  -- the reader of an end that isn't its own
  pub reader_stays : (first : Expected) (end : WorldEnd) → is_end_of P number end ≡ false → reader_at (at_place P now hosts) first end ≡ reader_at hosts first end
  reader_stays first end off = reader_same party x hosts now xs quiet i number e s t state differ apart at own between alike kept_here first end off
