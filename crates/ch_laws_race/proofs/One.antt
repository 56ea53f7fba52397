-- What is seen after a host's steps at one socket.
use Rattle.std.specs.Prelude.{◌≡◌, ℕ, true, false, cond, List, find, slice_set, Option, Some}
use Rattle.std.proofs.Common.{refl, ap, sym, ◌∙◌}
use Rattle.ch_reader.specs.declared.item.Expected.{Expected}
use Rattle.ch_link.specs.declared.LinkState.{LinkState}
use Rattle.ch_model.specs.declared.name.End.{End}
use Rattle.ch_model.specs.declared.name.End.TheVariants.{O, T}
use Rattle.ch_model.specs.declared.step.Place.{Place}
use Rattle.ch_model.specs.declared.step.Step.{Step}
use Rattle.ch_model.specs.declared.step.Step.TheVariants as steps
use Rattle.ch_model.specs.HostState.{Socket, HostState}
use Rattle.ch_model.specs.HostSteps.{is_socket}
use Rattle.ch_model.specs.WorldState.{Cell, WorldSocket, World}
use Rattle.ch_model.specs.WorldSockets.{end_of, with_end, is_end_of}
use Rattle.ch_model.specs.WorldSockets as world
use Rattle.ch_model.specs.WorldSteps.{first_place, stepped}
use Rattle.ch_model.specs.WorldHappenings.{with_cell}
use Rattle.ch_race.specs.Pair.{Side, other, Sock, Pair, dead, put, point}
use Rattle.ch_laws_race.specs.Scene.{Party, Scene, hosts_of, done_by, after_steps}
use Rattle.ch_laws_race.specs.View.{Reader, reader_of, reader_at, sock_of, sock_seen, place_of, with_places, seen, view}
use Rattle.ch_laws_race.specs.Sound.{Acts, HasEnd, first_of}
use Rattle.ch_laws_race.proofs.Sockets.{by_test, Alike, alike_self, end_alike, ends_differ, place_found, set_same}
use Rattle.ch_laws_race.proofs.Views.{at_place, host_here, hosts_set, Kept, own_reader, reader_same, seen_changed}
use Rattle.ch_laws_race.proofs.Steps.{one_read, reads_there}
use Rattle.ch_laws_race.proofs.Socks.{sock_by}

pub same_end : (e : End) (s t : WorldSocket) → Alike s t → (hosts : ℕ → HostState) (first : Expected) → reader_at hosts first (end_of e t) ≡ reader_at hosts first (end_of e s)
same_end O s t a hosts first = ap (λ (z : Option ℕ). reader_at hosts first (record (t.o) { cell = z })) a.o_cell ∙ ap (λ (z : Option ℕ). reader_at hosts first (record (s.o) { number = z })) a.o_number
same_end T s t a hosts first = ap (λ (z : Option ℕ). reader_at hosts first (record (t.t) { cell = z })) a.t_cell ∙ ap (λ (z : Option ℕ). reader_at hosts first (record (s.t) { number = z })) a.t_number

-- a socket by its readers, from an end
pub by_end : (e : End) (party : Side → Party) (hosts : ℕ → HostState) (t : WorldSocket) → sock_of party hosts t ≡ sock_by party e (reader_at hosts (first_of e) (end_of e t)) (reader_at hosts (first_of (world.other e)) (end_of (world.other e) t)) t
by_end O party hosts t = refl
by_end T party hosts t = refl

module _ (scene : Scene) (x : Side) (cell : Cell × ℕ) (e : End) (i number : ℕ) (s : WorldSocket) (acts : Acts scene x cell) (has : HasEnd scene x e i number s) where
  abbrev W : World
  W = scene.world

  abbrev xs : List WorldSocket
  xs = W.sockets

  abbrev P : ℕ
  P = (scene.party x).place

  abbrev H : ℕ → HostState
  H = hosts_of W

  abbrev V : Pair
  V = view scene

  abbrev pub Theirs : Reader
  Theirs = reader_at H (first_of (world.other e)) (end_of (world.other e) s)

  -- the place of its socket is i
  pub place_is : place_of P xs number ≡ i
  place_is = place_found xs i s e P number acts.apart has.at has.end

  pub sock_is : V.sock i ≡ sock_of scene.party H s
  sock_is = ap (sock_seen scene.party H) has.at ∙ ap (λ b. cond b (sock_of scene.party H s) dead) has.between

  pub other_off : is_end_of P number (end_of (world.other e) s) ≡ false
  other_off = off e has.end where
    off : (f : End) → is_end_of P number (end_of f s) ≡ true → is_end_of P number (end_of (world.other f) s) ≡ false
    off O own = by_test (is_end_of P number s.t) (λ h. ends_differ (acts.apart.numbered i i s s O T P number has.at has.at own h).1) (λ h. h)
    off T own = by_test (is_end_of P number s.o) (λ h. ends_differ (acts.apart.numbered i i s s O T P number has.at has.at h own).1) (λ h. h)

  -- the world in which the cell's host is another
  abbrev pub World_of : HostState → World
  World_of host = with_cell P (record (cell.0) { host = host }, cell.1) W

  pub seen_after : (steps : List Step) (host : HostState) (state : LinkState) (t : WorldSocket) (known : Socket) (last : Option Place)
      → done_by P cell steps host W ≡ record (World_of host) { sockets = slice_set xs i t; last = last }
      → Alike s t → Kept number (scene.party x).address.id (scene.party (other x)).address (H P) host state → find (is_socket number) host.sockets ≡ Some known
      → view (after_steps scene x cell steps host) ≡ point x (with_places (place_of P xs) state) (put i (sock_by scene.party e (known.expected, known.since) Theirs t) V)
  seen_after steps host state t known last did alike kept found =
      ap (λ (w : World). view (record scene { world = w })) did
      ∙ ap (λ (f : ℕ → HostState). seen scene.party f (slice_set xs i t) scene.quiet) (hosts_set W P cell (record (cell.0) { host = host }) cell.1 acts.there)
      ∙ seen_changed scene.party x H host xs scene.quiet i number e s t state acts.differ acts.apart has.at has.end has.between alike kept
      ∙ ap (λ (z : Sock). point x (with_places (place_of P xs) state) (put i z V)) (by_end e scene.party (at_place P host H) t
      ∙ ap (λ (r : Reader). sock_by scene.party e r (reader_at (at_place P host H) (first_of (world.other e)) (end_of (world.other e) t)) t) mine
      ∙ ap (λ (r : Reader). sock_by scene.party e (known.expected, known.since) r t) theirs) where
        mine : reader_at (at_place P host H) (first_of e) (end_of e t) ≡ (known.expected, known.since)
        mine = own_reader (at_place P host H) P number (first_of e) (end_of e t) (end_alike s t P number e alike ∙ has.end)
            ∙ ap (λ (h : HostState). reader_of (first_of e) (find (is_socket number) h.sockets)) (host_here P host H) ∙ ap (reader_of (first_of e)) found

        theirs : reader_at (at_place P host H) (first_of (world.other e)) (end_of (world.other e) t) ≡ Theirs
        theirs = same_end (world.other e) s t alike (at_place P host H) (first_of (world.other e))
            ∙ reader_same scene.party x H host xs scene.quiet i number e s t state acts.differ acts.apart has.at has.end has.between alike kept (first_of (world.other e)) (end_of (world.other e) s) other_off

  -- the world after the step of reading
  pub read_told : (host : HostState) → (stepped P (record (cell.0) { host = host }) (steps.Read number) (World_of host)).1
      ≡ record (World_of host) { sockets = slice_set xs i (with_end e (one_read (end_of e s)) s); last = first_place (end_of e s).places }
  read_told host = ap (λ (z : List WorldSocket). (stepped P (record (cell.0) { host = host }) (steps.Read number) (record (World_of host) { sockets = z })).1) (sym (set_same xs i s has.at))
      ∙ reads_there (World_of host) i s s e P number (record (cell.0) { host = host }) acts.apart has.at (alike_self s) has.end
