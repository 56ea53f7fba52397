-- What a change at one host and at one socket changes of what is seen.
use mathlib.Core.Path.{fun_ext}
use Rattle.std.specs.Prelude.{◌≡◌, ℕ, ◌+◌, Bool, true, false, cond, not, ◌&&◌, ◌||◌, ◌==◌, nat_eq, List, [], ◌∷◌, find, slice_get, slice_set, Option, Some, None}
use Rattle.std.specs.List.{list_any}
use Rattle.std.proofs.Common.{refl, ap, sym, ◌∙◌, arith}
use Rattle.std.proofs.lemmas.Bool.{eqb-true, and_parts}
use Rattle.std.proofs.lemmas.Bool.Decides.{nat_tests}
use Rattle.std.proofs.lemmas.Option.{slice_get_within}
use Rattle.ch_base.specs.declared.address.Address.{Address}
use Rattle.ch_reader.specs.declared.item.Expected.{Expected}
use Rattle.ch_reader.specs.declared.item.Expected.TheVariants as expected
use Rattle.ch_light.proofs.Lists.{set_here, set_other}
use Rattle.ch_link.specs.declared.LinkState.{LinkState}
use Rattle.ch_model.specs.declared.name.End.{End}
use Rattle.ch_model.specs.declared.name.End.TheVariants.{O, T}
use Rattle.ch_model.specs.HostState.{Endpoint, Link, Socket, HostState}
use Rattle.ch_model.specs.HostSteps.{is_endpoint, is_open_endpoint, store_endpoint, with_endpoint, is_socket, link_with, with_link, with_socket}
use Rattle.ch_model.specs.HostItems.{with_arrival}
use Rattle.ch_model.specs.Same.{is_between}
use Rattle.ch_model.specs.WorldState.{Cell, WorldEnd, WorldSocket, World}
use Rattle.ch_model.specs.WorldSockets.{end_of, same_number, is_end_of}
use Rattle.ch_model.specs.WorldHappenings.{with_cell}
use Rattle.ch_race.specs.Pair.{Side, Lesser, Greater, other, same, Sock, Pair, dead, put, point}
use Rattle.ch_laws_race.specs.Scene.{Party, host_in, hosts_of}
use Rattle.ch_laws_race.specs.View.{Reader, reader_of, record_of, reader_at, sock_with, sock_of, sock_seen, place_of, with_places, is_shut, seen}
use Rattle.ch_laws_race.specs.Sound.{AreApart}
use Rattle.ch_laws_race.proofs.Keys.{equal_numbers, link_kept, other_link, other_socket}
use Rattle.ch_laws_race.proofs.Sockets.{by_test, given, none, same_place, other_place, Alike, no_other_end, places_stay}

-- pairs that agree in all their parts are one
pub alike_pairs : (p q : Pair) → ((x : Side) → p.link x ≡ q.link x) → ((x : Side) → p.shut x ≡ q.shut x) → ((i : ℕ) → p.sock i ≡ q.sock i) → p.quiet ≡ q.quiet → p ≡ q
alike_pairs p q links shuts socks quiets =
    ap (λ (z : Side → LinkState). record p { link = z }) (fun_ext links)
    ∙ ap (λ (z : Side → Bool). record p { link = q.link; shut = z }) (fun_ext shuts)
    ∙ ap (λ (z : ℕ → Sock). record p { link = q.link; shut = q.shut; sock = z }) (fun_ext socks)
    ∙ ap (λ (z : Bool). record q { quiet = z }) quiets

-- ---- the hosts with one in its place

abbrev pub at_place : ℕ → HostState → (ℕ → HostState) → ℕ → HostState
at_place p host hosts q = cond (nat_eq q p) host (hosts q)

pub self_number : (i : ℕ) → nat_eq i i ≡ true
self_number i = grind (arith, nat_tests)

pub host_here : (p : ℕ) (host : HostState) (hosts : ℕ → HostState) → at_place p host hosts p ≡ host
host_here p host hosts = ap (λ b. cond b host (hosts p)) (self_number p)

pub hosts_set : (w : World) (p : ℕ) (cell : Cell × ℕ) (now : Cell) (k : ℕ) → slice_get w.cells p ≡ Some cell → hosts_of (with_cell p (now, k) w) ≡ at_place p now.host (hosts_of w)
hosts_set w p cell now k there = fun_ext at where
  at : (q : ℕ) → host_in (slice_get (slice_set w.cells p (now, k)) q) ≡ cond (nat_eq q p) now.host (host_in (slice_get w.cells q))
  at q = by_test (nat_eq q p)
      (λ h. let e = same_place p q h in
      ap (λ (z : ℕ). host_in (slice_get (slice_set w.cells p (now, k)) z)) (sym e) ∙ ap host_in (set_here w.cells p (now, k) (slice_get_within w.cells p cell there)) ∙ ap (λ b. cond b now.host (host_in (slice_get w.cells q))) (sym h))
      (λ h. ap host_in (set_other w.cells p (now, k) q (other_place p q h)) ∙ ap (λ b. cond b now.host (host_in (slice_get w.cells q))) (sym h))

-- ---- a host with one link and one socket changed

-- The link is in this state; links of other endpoints, sockets of other numbers, and which endpoints are open are as before.
pub record Kept (number end : ℕ) (peer : Address) (before now : HostState) (state : LinkState) : Type 0 where
  pub link : (link_with now end peer).state ≡ state
  pub links : (other : ℕ) (address : Address) → (end == other) ≡ false → link_with now other address ≡ link_with before other address
  pub sockets : (m : ℕ) → (number == m) ≡ false → find (is_socket m) now.sockets ≡ find (is_socket m) before.sockets
  pub ends : (other : ℕ) → is_shut other now ≡ is_shut other before

pub kept_all : (number end : ℕ) (peer : Address) (host : HostState) → Kept number end peer host host (link_with host end peer).state
kept_all number end peer host = record { link = refl; links = λ z a h. refl; sockets = λ m h. refl; ends = λ z. refl }

pub kept_link : (number end : ℕ) (peer : Address) (link : Link) (before now : HostState) (state : LinkState) → link.end ≡ end → link.peer ≡ peer → Kept number end peer before now state
    → Kept number end peer before (with_link link now) link.state
kept_link number end peer link before now state a b k = record {
  link = ap (λ (z : ℕ). (link_with (with_link link now) z peer).state) (sym a) ∙ ap (λ (z : Address). (link_with (with_link link now) link.end z).state) (sym b) ∙ ap (λ (l : Link). l.state) (link_kept link now);
  links = λ z address h. other_link link now z address (ap (λ (y : ℕ). y == z) a ∙ h) ∙ k.links z address h;
  sockets = k.sockets;
  ends = k.ends;
}

pub kept_socket : (socket : Socket) (end : ℕ) (peer : Address) (before now : HostState) (state : LinkState) → Kept socket.number end peer before now state
    → Kept socket.number end peer before (with_socket socket now) state
kept_socket socket end peer before now state k = record {
  link = k.link;
  links = k.links;
  sockets = λ m h. other_socket socket m h now.sockets ∙ k.sockets m h;
  ends = k.ends;
}

-- one more connection has arrived at an endpoint: which are open is as before
number_found : (end : ℕ) (endpoint : Endpoint) (ends : List Endpoint) → find (is_endpoint end) ends ≡ Some endpoint → endpoint.number ≡ end
number_found end endpoint [] found = none endpoint found
number_found end endpoint (known ∷ rest) found = by_own (is_endpoint end known) refl found (number_found end endpoint rest) where
  by_own : (b : Bool) → is_endpoint end known ≡ b → cond b (Some known) (find (is_endpoint end) rest) ≡ Some endpoint → (find (is_endpoint end) rest ≡ Some endpoint → endpoint.number ≡ end) → endpoint.number ≡ end
  by_own true is h f = ap (λ (z : Endpoint). z.number) (sym (given known endpoint h)) ∙ eqb-true known.number end is
  by_own false is h f = f h

opened_still : (end other : ℕ) (endpoint : Endpoint) (ends : List Endpoint) → find (is_endpoint end) ends ≡ Some endpoint
    → list_any (is_open_endpoint other) (store_endpoint (record endpoint { arrived = endpoint.arrived + 1 }) ends) ≡ list_any (is_open_endpoint other) ends
opened_still end other endpoint [] found = refl
opened_still end other endpoint (known ∷ rest) found = by_own (is_endpoint end known) refl found (opened_still end other endpoint rest) where
  by_own : (b : Bool) → is_endpoint end known ≡ b → cond b (Some known) (find (is_endpoint end) rest) ≡ Some endpoint
      → (find (is_endpoint end) rest ≡ Some endpoint → list_any (is_open_endpoint other) (store_endpoint (record endpoint { arrived = endpoint.arrived + 1 }) rest) ≡ list_any (is_open_endpoint other) rest)
      → list_any (is_open_endpoint other) (cond (is_endpoint endpoint.number known) (record endpoint { arrived = endpoint.arrived + 1 } ∷ rest) (known ∷ store_endpoint (record endpoint { arrived = endpoint.arrived + 1 }) rest))
      ≡ list_any (is_open_endpoint other) (known ∷ rest)
  by_own true is h f = ap (λ b. list_any (is_open_endpoint other) (cond b (record endpoint { arrived = endpoint.arrived + 1 } ∷ rest) (known ∷ store_endpoint (record endpoint { arrived = endpoint.arrived + 1 }) rest)))
      (ap (λ (n : ℕ). is_endpoint n known) (number_found end endpoint (known ∷ rest) found) ∙ is)
      ∙ ap (λ (z : Endpoint). list_any (is_open_endpoint other) (z ∷ rest)) (sym (given known endpoint h))
  by_own false is h f = ap (λ b. list_any (is_open_endpoint other) (cond b (record endpoint { arrived = endpoint.arrived + 1 } ∷ rest) (known ∷ store_endpoint (record endpoint { arrived = endpoint.arrived + 1 }) rest)))
      (ap (λ (n : ℕ). is_endpoint n known) (number_found end endpoint (known ∷ rest) found) ∙ is)
      ∙ ap (λ b. is_open_endpoint other known || b) (f h)

pub arrival_ends : (end other : ℕ) (host : HostState) → is_shut other (with_arrival end host) ≡ is_shut other host
arrival_ends end other host = by_found (find (is_endpoint end) host.ends) refl where
  by_found : (o : Option Endpoint) → find (is_endpoint end) host.ends ≡ o → is_shut other (elim o [ None ↦ host | Some endpoint ↦ with_endpoint (record endpoint { arrived = endpoint.arrived + 1 }) host ]) ≡ is_shut other host
  by_found None is = refl
  by_found (Some endpoint) is = ap not (opened_still end other endpoint host.ends is)

pub arrival_links : (end number : ℕ) (peer : Address) (host : HostState) → link_with (with_arrival end host) number peer ≡ link_with host number peer
arrival_links end number peer host = by_found (find (is_endpoint end) host.ends) where
  by_found : (o : Option Endpoint) → link_with (elim o [ None ↦ host | Some endpoint ↦ with_endpoint (record endpoint { arrived = endpoint.arrived + 1 }) host ]) number peer ≡ link_with host number peer
  by_found None = refl
  by_found (Some endpoint) = refl

pub arrival_sockets : (end : ℕ) (host : HostState) (m : ℕ) → find (is_socket m) (with_arrival end host).sockets ≡ find (is_socket m) host.sockets
arrival_sockets end host m = by_found (find (is_endpoint end) host.ends) where
  by_found : (o : Option Endpoint) → find (is_socket m) (elim o as (λ o. HostState) [ None ↦ host | Some endpoint ↦ with_endpoint (record endpoint { arrived = endpoint.arrived + 1 }) host ]).sockets ≡ find (is_socket m) host.sockets
  by_found None = refl
  by_found (Some endpoint) = refl

pub kept_arrival : (number end : ℕ) (peer : Address) (at : ℕ) (before now : HostState) (state : LinkState) → Kept number end peer before now state → Kept number end peer before (with_arrival at now) state
kept_arrival number end peer at before now state k = record {
  link = ap (λ (l : Link). l.state) (arrival_links at end peer now) ∙ k.link;
  links = λ z a h. arrival_links at z a now ∙ k.links z a h;
  sockets = λ m h. arrival_sockets at now m ∙ k.sockets m h;
  ends = λ z. arrival_ends at z now ∙ k.ends z;
}

-- ---- the record of an end

not_true : {A : Type 0} → false ≡ true → A
not_true h = absurd (clash h) where
  clash : false ≡ true → ⊥
  clash h = cc

own_record : (hosts : ℕ → HostState) (p number : ℕ) (c m : Option ℕ) → (same_number c p && same_number m number) ≡ true → record_of hosts c m ≡ find (is_socket number) (hosts p).sockets
own_record hosts p number None m h = not_true h
own_record hosts p number (Some c) None h = not_true (sym (never (c == p)) ∙ h) where
  never : (b : Bool) → (b && false) ≡ false
  never true = refl
  never false = refl
own_record hosts p number (Some c) (Some m) h = let parts = and_parts (c == p) (m == number) h in
    ap (λ (z : ℕ). find (is_socket m) (hosts z).sockets) (eqb-true c p parts.0) ∙ ap (λ (z : ℕ). find (is_socket z) (hosts p).sockets) (eqb-true m number parts.1)

-- what is read at an end is what its host's record says
pub own_reader : (hosts : ℕ → HostState) (p number : ℕ) (first : Expected) (end : WorldEnd) → is_end_of p number end ≡ true → reader_at hosts first end ≡ reader_of first (find (is_socket number) (hosts p).sockets)
own_reader hosts p number first end h = ap (reader_of first) (own_record hosts p number end.cell end.number h)

-- ---- what is seen

pub by_side : {X : Type 0} (f g : Side → X) (x : Side) (k : X) → f x ≡ k → f (other x) ≡ g (other x) → (z : Side) → f z ≡ cond (same z x) k (g z)
by_side f g Lesser k own peer Lesser = own
by_side f g Lesser k own peer Greater = peer
by_side f g Greater k own peer Lesser = peer
by_side f g Greater k own peer Greater = own

module _ (party : Side → Party) (x : Side) (hosts : ℕ → HostState) (now : HostState) (xs : List WorldSocket) (quiet : Bool)
    (i number : ℕ) (e : End) (s t : WorldSocket) (state : LinkState)
    (differ : (party (other x)).place ≡ (party x).place → ((party x).address.id == (party (other x)).address.id) ≡ false)
    (apart : AreApart xs) (at : slice_get xs i ≡ Some s) (own : is_end_of (party x).place number (end_of e s) ≡ true)
    (between : is_between (party Lesser).name (party Greater).name s.name ≡ true) (alike : Alike s t)
    (kept : Kept number (party x).address.id (party (other x)).address (hosts (party x).place) now state) where
  abbrev P : ℕ
  P = (party x).place

  abbrev Now : ℕ → HostState
  Now = at_place P now hosts

  places : (p : ℕ) → place_of p (slice_set xs i t) ≡ place_of p xs
  places p = fun_ext (λ n. places_stay xs i s t p n at alike)

  link_own : with_places (place_of P (slice_set xs i t)) (link_with (Now P) (party x).address.id (party (other x)).address).state ≡ with_places (place_of P xs) state
  link_own = ap (λ (f : ℕ → ℕ). with_places f (link_with (Now P) (party x).address.id (party (other x)).address).state) (places P)
      ∙ ap (λ (h : HostState). with_places (place_of P xs) (link_with h (party x).address.id (party (other x)).address).state) (host_here P now hosts)
      ∙ ap (with_places (place_of P xs)) kept.link

  abbrev Q : ℕ
  Q = (party (other x)).place

  abbrev Theirs : HostState → Link
  Theirs h = link_with h (party (other x)).address.id (party (other (other x))).address

  their_host : Theirs (Now Q) ≡ Theirs (hosts Q)
  their_host = by_test (nat_eq Q P)
      (λ h. let same = same_place P Q h in
      ap (λ b. Theirs (cond b now (hosts Q))) h ∙ kept.links (party (other x)).address.id (party (other (other x))).address (differ (sym same)) ∙ ap (λ (z : ℕ). Theirs (hosts z)) same)
      (λ h. ap (λ b. Theirs (cond b now (hosts Q))) h)

  link_theirs : with_places (place_of Q (slice_set xs i t)) (Theirs (Now Q)).state ≡ with_places (place_of Q xs) (Theirs (hosts Q)).state
  link_theirs = ap (λ (f : ℕ → ℕ). with_places f (Theirs (Now Q)).state) (places Q) ∙ ap (λ (l : Link). with_places (place_of Q xs) l.state) their_host

  shut_same : (z : Side) → is_shut (party z).address.id (Now (party z).place) ≡ is_shut (party z).address.id (hosts (party z).place)
  shut_same z = by_test (nat_eq (party z).place P)
      (λ h. ap (λ b. is_shut (party z).address.id (cond b now (hosts (party z).place))) h ∙ kept.ends (party z).address.id
      ∙ ap (λ (p : ℕ). is_shut (party z).address.id (hosts p)) (same_place P (party z).place h))
      (λ h. ap (λ b. is_shut (party z).address.id (cond b now (hosts (party z).place))) h)

  -- the record of another end is as before
  record_same : (c m : Option ℕ) → (same_number c P && same_number m number) ≡ false → record_of Now c m ≡ record_of hosts c m
  record_same None m off = refl
  record_same (Some c) None off = refl
  record_same (Some c) (Some m) off = by_test (nat_eq c P)
      (λ h. ap (λ b. find (is_socket m) (cond b now (hosts c)).sockets) h ∙ kept.sockets m (differs (same_place P c h)) ∙ ap (λ (z : ℕ). find (is_socket m) (hosts z).sockets) (same_place P c h))
      (λ h. ap (λ b. find (is_socket m) (cond b now (hosts c)).sockets) h) where
        turned : (a b : ℕ) → (a == b) ≡ false → (b == a) ≡ false
        turned a b h = grind (arith, nat_tests)

        differs : P ≡ c → (number == m) ≡ false
        differs is = turned m number (ap (λ b. b && (m == number)) (sym (ap (λ (z : ℕ). z == P) (sym is) ∙ equal_numbers P)) ∙ off)

  pub reader_same : (first : Expected) (end : WorldEnd) → is_end_of P number end ≡ false → reader_at Now first end ≡ reader_at hosts first end
  reader_same first end off = ap (reader_of first) (record_same end.cell end.number off)

  sock_same : (j : ℕ) (u : WorldSocket) → slice_get xs j ≡ Some u → nat_eq j i ≡ false → sock_of party Now u ≡ sock_of party hosts u
  sock_same j u there off = ap (λ (r : Reader). sock_with party r (reader_at Now expected.Request u.t) u) (reader_same expected.Answer u.o (no_other_end xs i j s u e O P number apart at there own off))
      ∙ ap (λ (r : Reader). sock_with party (reader_at hosts expected.Answer u.o) r u) (reader_same expected.Request u.t (no_other_end xs i j s u e T P number apart at there own off))

  seen_same : (j : ℕ) (o : Option WorldSocket) → slice_get xs j ≡ o → nat_eq j i ≡ false → sock_seen party Now o ≡ sock_seen party hosts o
  seen_same j None there off = refl
  seen_same j (Some u) there off = ap (λ (z : Sock). cond (is_between (party Lesser).name (party Greater).name u.name) z dead) (sock_same j u there off)

  sock_now : (j : ℕ) → sock_seen party Now (slice_get (slice_set xs i t) j) ≡ cond (nat_eq j i) (sock_of party Now t) (sock_seen party hosts (slice_get xs j))
  sock_now j = by_test (nat_eq j i)
      (λ h. ap (λ (z : ℕ). sock_seen party Now (slice_get (slice_set xs i t) z)) (sym (same_place i j h))
      ∙ ap (sock_seen party Now) (set_here xs i t (slice_get_within xs i s at))
      ∙ ap (λ b. cond b (sock_of party Now t) dead) (ap (is_between (party Lesser).name (party Greater).name) alike.name ∙ between)
      ∙ ap (λ b. cond b (sock_of party Now t) (sock_seen party hosts (slice_get xs j))) (sym h))
      (λ h. ap (sock_seen party Now) (set_other xs i t j (other_place i j h)) ∙ seen_same j (slice_get xs j) refl h
      ∙ ap (λ b. cond b (sock_of party Now t) (sock_seen party hosts (slice_get xs j))) (sym h))

  -- a link points to its new state, and the socket is what its ends are now
  pub seen_changed : seen party Now (slice_set xs i t) quiet ≡ point x (with_places (place_of P xs) state) (put i (sock_of party Now t) (seen party hosts xs quiet))
  seen_changed = alike_pairs (seen party Now (slice_set xs i t) quiet) (point x (with_places (place_of P xs) state) (put i (sock_of party Now t) (seen party hosts xs quiet)))
      (by_side (seen party Now (slice_set xs i t) quiet).link (seen party hosts xs quiet).link x (with_places (place_of P xs) state) link_own link_theirs)
      shut_same sock_now refl
