-- What a change at a host alone, and a socket that is opened, change of what is seen.
use Rattle.std.specs.Prelude.{◌≡◌, ℕ, zero, suc, Bool, true, false, cond, ◌&&◌, ◌||◌, ◌==◌, nat_eq, List, [], ◌∷◌, ◌++◌, length, find, is_some, slice_get, Option, Some, None}
use Rattle.std.specs.List.{list_any}
use Rattle.std.proofs.Common.{refl, ap, sym, ◌∙◌, arith}
use Rattle.std.proofs.lemmas.Bool.Decides.{nat_tests}
use Rattle.ch_base.specs.declared.address.Address.{Address}
use Rattle.ch_reader.specs.declared.item.Expected.{Expected}
use Rattle.ch_reader.specs.declared.item.Expected.TheVariants as expected
use Rattle.ch_light.proofs.Lists.{push_here, push_other}
use Rattle.ch_link.specs.declared.LinkState.{LinkState}
use Rattle.ch_model.specs.declared.name.End.{End}
use Rattle.ch_model.specs.declared.name.End.TheVariants.{O, T}
use Rattle.ch_model.specs.HostState.{Link, HostState}
use Rattle.ch_model.specs.HostSteps.{is_socket, link_with}
use Rattle.ch_model.specs.Same.{is_between}
use Rattle.ch_model.specs.WorldState.{WorldEnd, WorldSocket}
use Rattle.ch_model.specs.WorldSockets.{end_of, same_number, is_end_of, is_socket_named, store_in}
use Rattle.ch_race.specs.Pair.{Side, Lesser, Greater, other, same, Sock, dead, put, point}
use Rattle.ch_laws_race.specs.Scene.{Party}
use Rattle.ch_laws_race.specs.View.{Reader, reader_of, record_of, reader_at, sock_with, sock_of, sock_seen, has_end, place_of, with_places, is_shut, seen}
use Rattle.ch_laws_race.proofs.Keys.{equal_numbers}
use Rattle.ch_laws_race.proofs.Sockets.{by_test, same_place, other_place, given}
use Rattle.ch_laws_race.proofs.Views.{alike_pairs, by_side, at_place, host_here}

-- ---- places

or_left : (a b : Bool) → (a || b) ≡ false → a ≡ false
or_left false b h = refl
or_left true b h = h

or_right : (a b : Bool) → (a || b) ≡ false → b ≡ false
or_right false b h = h
or_right true b h = absurd (clash h) where
  clash : true ≡ false → ⊥
  clash h = cc

no_end : (o t : Bool) → is_some (cond o (Some O) (cond t (Some T) None)) ≡ false → (o ≡ false) × (t ≡ false)
no_end false false h = (refl, refl)
no_end true t h = absurd (clash h) where
  clash : true ≡ false → ⊥
  clash h = cc
no_end false true h = absurd (clash h) where
  clash : true ≡ false → ⊥
  clash h = cc

-- an end that no socket has
pub nobody_has : (cell number : ℕ) (xs : List WorldSocket) → list_any (has_end cell number) xs ≡ false → (j : ℕ) (u : WorldSocket) → slice_get xs j ≡ Some u → (e : End) → is_end_of cell number (end_of e u) ≡ false
nobody_has cell number [] h j u at e = absurd (clash at) where
  clash : ◌≡◌ {A = Option WorldSocket} None (Some u) → ⊥
  clash q = cc
nobody_has cell number (known ∷ rest) h zero u at e = of_end e (no_end (is_end_of cell number u.o) (is_end_of cell number u.t) (ap (has_end cell number) (sym (given known u at)) ∙ or_left (has_end cell number known) (list_any (has_end cell number) rest) h)) where
  of_end : (f : End) → (is_end_of cell number u.o ≡ false) × (is_end_of cell number u.t ≡ false) → is_end_of cell number (end_of f u) ≡ false
  of_end O q = q.0
  of_end T q = q.1
nobody_has cell number (known ∷ rest) h (suc j) u at e = nobody_has cell number rest (or_right (has_end cell number known) (list_any (has_end cell number) rest) h) j u at e

-- the place of a known end stays
pub place_stays : (cell number : ℕ) (xs : List WorldSocket) (new : WorldSocket) → list_any (has_end cell number) xs ≡ true → place_of cell (xs ++ new ∷ []) number ≡ place_of cell xs number
place_stays cell number [] new h = absurd (clash h) where
  clash : false ≡ true → ⊥
  clash q = cc
place_stays cell number (known ∷ rest) new h = by_own (has_end cell number known) h (place_stays cell number rest new) where
  by_own : (b : Bool) → (b || list_any (has_end cell number) rest) ≡ true → (list_any (has_end cell number) rest ≡ true → place_of cell (rest ++ new ∷ []) number ≡ place_of cell rest number)
      → cond b 0 (suc (place_of cell (rest ++ new ∷ []) number)) ≡ cond b 0 (suc (place_of cell rest number))
  by_own true q f = refl
  by_own false q f = ap suc (f q)

-- that of a new one is the last
pub place_new : (cell number : ℕ) (xs : List WorldSocket) (new : WorldSocket) → list_any (has_end cell number) xs ≡ false → has_end cell number new ≡ true → place_of cell (xs ++ new ∷ []) number ≡ length xs
place_new cell number [] new h own = ap (λ b. cond b 0 (suc 0)) own
place_new cell number (known ∷ rest) new h own = ap (λ b. cond b 0 (suc (place_of cell (rest ++ new ∷ []) number))) (or_left (has_end cell number known) (list_any (has_end cell number) rest) h)
    ∙ ap suc (place_new cell number rest new (or_right (has_end cell number known) (list_any (has_end cell number) rest) h) own)

-- a socket of a new name comes last
pub stored_last : (new : WorldSocket) (xs : List WorldSocket) → find (is_socket_named new.name) xs ≡ None → store_in new xs ≡ xs ++ new ∷ []
stored_last new [] h = refl
stored_last new (known ∷ rest) h = by_own (is_socket_named new.name known) h (stored_last new rest) where
  clash : {A : Type 0} → Some known ≡ None → A
  clash q = absurd (no q) where
    no : Some known ≡ None → ⊥
    no q = cc

  by_own : (b : Bool) → cond b (Some known) (find (is_socket_named new.name) rest) ≡ None → (find (is_socket_named new.name) rest ≡ None → store_in new rest ≡ rest ++ new ∷ [])
      → cond b (new ∷ rest) (known ∷ store_in new rest) ≡ known ∷ (rest ++ new ∷ [])
  by_own true q f = clash q
  by_own false q f = ap (λ (z : List WorldSocket). known ∷ z) (f q)

pub none_past : {X : Type 0} (xs : List X) → slice_get xs (length xs) ≡ None
none_past [] = refl
none_past (x ∷ xs) = none_past xs

-- ---- a reader elsewhere

-- a host's change of one record is no other end's
pub reader_off : (hosts : ℕ → HostState) (p number : ℕ) (now : HostState) → ((m : ℕ) → (number == m) ≡ false → find (is_socket m) now.sockets ≡ find (is_socket m) (hosts p).sockets)
    → (first : Expected) (end : WorldEnd) → is_end_of p number end ≡ false → reader_at (at_place p now hosts) first end ≡ reader_at hosts first end
reader_off hosts p number now same first end off = ap (reader_of first) (record_same end.cell end.number off) where
  turned : (a b : ℕ) → (a == b) ≡ false → (b == a) ≡ false
  turned a b h = grind (arith, nat_tests)

  differs : (c m : ℕ) → ((c == p) && (m == number)) ≡ false → p ≡ c → (number == m) ≡ false
  differs c m off is = turned m number (ap (λ b. b && (m == number)) (sym (ap (λ (z : ℕ). z == p) (sym is) ∙ equal_numbers p)) ∙ off)

  record_same : (c m : Option ℕ) → (same_number c p && same_number m number) ≡ false → record_of (at_place p now hosts) c m ≡ record_of hosts c m
  record_same None m off = refl
  record_same (Some c) None off = refl
  record_same (Some c) (Some m) off = by_test (nat_eq c p)
      (λ h. ap (λ b. find (is_socket m) (cond b now (hosts c)).sockets) h ∙ same m (differs c m off (same_place p c h)) ∙ ap (λ (z : ℕ). find (is_socket m) (hosts z).sockets) (same_place p c h))
      (λ h. ap (λ b. find (is_socket m) (cond b now (hosts c)).sockets) h)

-- ---- what is seen

module _ (party : Side → Party) (x : Side) (hosts : ℕ → HostState) (now : HostState) (xs : List WorldSocket) (quiet : Bool) (state : LinkState)
    (differ : (party (other x)).place ≡ (party x).place → ((party x).address.id == (party (other x)).address.id) ≡ false)
    (link : (link_with now (party x).address.id (party (other x)).address).state ≡ state)
    (links : (z : ℕ) (address : Address) → ((party x).address.id == z) ≡ false → link_with now z address ≡ link_with (hosts (party x).place) z address)
    (ends : (z : ℕ) → is_shut z now ≡ is_shut z (hosts (party x).place)) where
  abbrev P : ℕ
  P = (party x).place

  abbrev Q : ℕ
  Q = (party (other x)).place

  abbrev Now : ℕ → HostState
  Now = at_place P now hosts

  abbrev Theirs : HostState → Link
  Theirs h = link_with h (party (other x)).address.id (party (other (other x))).address

  own_state : (link_with (Now P) (party x).address.id (party (other x)).address).state ≡ state
  own_state = ap (λ (h : HostState). (link_with h (party x).address.id (party (other x)).address).state) (host_here P now hosts) ∙ link

  their_state : Theirs (Now Q) ≡ Theirs (hosts Q)
  their_state = by_test (nat_eq Q P)
      (λ h. let here = same_place P Q h in ap (λ b. Theirs (cond b now (hosts Q))) h ∙ links (party (other x)).address.id (party (other (other x))).address (differ (sym here)) ∙ ap (λ (z : ℕ). Theirs (hosts z)) here)
      (λ h. ap (λ b. Theirs (cond b now (hosts Q))) h)

  shut_same : (z : Side) → is_shut (party z).address.id (Now (party z).place) ≡ is_shut (party z).address.id (hosts (party z).place)
  shut_same z = by_test (nat_eq (party z).place P)
      (λ h. ap (λ b. is_shut (party z).address.id (cond b now (hosts (party z).place))) h ∙ ends (party z).address.id ∙ ap (λ (p : ℕ). is_shut (party z).address.id (hosts p)) (same_place P (party z).place h))
      (λ h. ap (λ b. is_shut (party z).address.id (cond b now (hosts (party z).place))) h)

  -- where each end of a socket that is there is read as before
  module _ (records : (j : ℕ) (u : WorldSocket) → slice_get xs j ≡ Some u → (first : Expected) (e : End) → reader_at Now first (end_of e u) ≡ reader_at hosts first (end_of e u)) where
    seen_as : (j : ℕ) (o : Option WorldSocket) → slice_get xs j ≡ o → sock_seen party Now o ≡ sock_seen party hosts o
    seen_as j None at = refl
    seen_as j (Some u) at = ap (λ (z : Sock). cond (is_between (party Lesser).name (party Greater).name u.name) z dead)
        (ap (λ (r : Reader). sock_with party r (reader_at Now expected.Request u.t) u) (records j u at expected.Answer O) ∙ ap (λ (r : Reader). sock_with party (reader_at hosts expected.Answer u.o) r u) (records j u at expected.Request T))

    -- a link alone changes
    pub seen_alone : seen party Now xs quiet ≡ point x (with_places (place_of P xs) state) (seen party hosts xs quiet)
    seen_alone = alike_pairs (seen party Now xs quiet) (point x (with_places (place_of P xs) state) (seen party hosts xs quiet))
        (by_side (seen party Now xs quiet).link (seen party hosts xs quiet).link x (with_places (place_of P xs) state) (ap (with_places (place_of P xs)) own_state) (ap (λ (l : Link). with_places (place_of Q xs) l.state) their_state))
        shut_same (λ j. seen_as j (slice_get xs j) refl) refl

    -- a link changes, and a socket is opened
    pub seen_grown : (new : WorldSocket) → is_between (party Lesser).name (party Greater).name new.name ≡ true
        → with_places (place_of Q (xs ++ new ∷ [])) (Theirs (hosts Q)).state ≡ with_places (place_of Q xs) (Theirs (hosts Q)).state
        → seen party Now (xs ++ new ∷ []) quiet ≡ point x (with_places (place_of P (xs ++ new ∷ [])) state) (put (length xs) (sock_of party Now new) (seen party hosts xs quiet))
    seen_grown new between theirs = alike_pairs (seen party Now (xs ++ new ∷ []) quiet) (point x (with_places (place_of P (xs ++ new ∷ [])) state) (put (length xs) (sock_of party Now new) (seen party hosts xs quiet)))
        (by_side (seen party Now (xs ++ new ∷ []) quiet).link (seen party hosts xs quiet).link x (with_places (place_of P (xs ++ new ∷ [])) state) (ap (with_places (place_of P (xs ++ new ∷ []))) own_state)
        (ap (λ (l : Link). with_places (place_of Q (xs ++ new ∷ [])) l.state) their_state ∙ theirs))
        shut_same at refl where
          at : (j : ℕ) → sock_seen party Now (slice_get (xs ++ new ∷ []) j) ≡ cond (nat_eq j (length xs)) (sock_of party Now new) (sock_seen party hosts (slice_get xs j))
          at j = by_test (nat_eq j (length xs))
              (λ h. ap (λ (z : ℕ). sock_seen party Now (slice_get (xs ++ new ∷ []) z)) (sym (same_place (length xs) j h)) ∙ ap (sock_seen party Now) (push_here xs new) ∙ ap (λ b. cond b (sock_of party Now new) dead) between
              ∙ ap (λ b. cond b (sock_of party Now new) (sock_seen party hosts (slice_get xs j))) (sym h))
              (λ h. ap (sock_seen party Now) (push_other xs new j (other_place (length xs) j h)) ∙ seen_as j (slice_get xs j) refl ∙ ap (λ b. cond b (sock_of party Now new) (sock_seen party hosts (slice_get xs j))) (sym h))
