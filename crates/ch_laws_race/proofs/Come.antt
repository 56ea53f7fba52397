-- A socket that has come to its target, as a move.
use Rattle.std.specs.Prelude.{◌≡◌, ℕ, zero, suc, ◌+◌, Bool, true, false, cond, ◌&&◌, ◌==◌, nat_eq, List, [], ◌∷◌, find, is_some, slice_get, slice_set, Option, Some, None, Ok}
use Rattle.std.specs.List.{list_any}
use Rattle.std.proofs.Common.{refl, ap, sym, ◌∙◌}
use Rattle.std.proofs.lemmas.Bool.{eqb-true, and_parts}
use Rattle.std.proofs.lemmas.Option.{slice_get_within}
use Rattle.ch_reader.specs.declared.item.Expected.{Expected}
use Rattle.ch_reader.specs.declared.item.Expected.TheVariants as expected
use Rattle.ch_light.proofs.Lists.{set_here, set_other}
use Rattle.ch_link.specs.Sockets.{names}
use Rattle.ch_link.specs.declared.LinkState.{LinkState}
use Rattle.ch_link.specs.declared.LinkState.TheVariants.{Idle, Dialing, AwaitOther, Up}
use Rattle.ch_model.specs.declared.name.End.{End}
use Rattle.ch_model.specs.declared.name.End.TheVariants.{O, T}
use Rattle.ch_model.specs.Stages.{Stage, Open}
use Rattle.ch_model.specs.HostState.{Link, Socket, HostState}
use Rattle.ch_model.specs.HostSteps.{is_socket, link_with, with_socket}
use Rattle.ch_model.specs.Host.{accepted, host_on}
use Rattle.ch_model.specs.Same.{is_between}
use Rattle.ch_model.specs.WorldState.{Cell, WorldEnd, WorldSocket, World}
use Rattle.ch_model.specs.WorldSockets.{end_of, with_end, opened, same_number, is_end_of}
use Rattle.ch_model.specs.WorldHappenings.{with_cell}
use Rattle.ch_race.specs.Pair as pair
use Rattle.ch_race.specs.Pair.{Side, Lesser, Greater, other, Sock, Pair, dead, put}
use Rattle.ch_race.specs.Moves.{Come}
use Rattle.ch_laws_race.specs.Scene.{Scene, hosts_of, host_of, link_of, done_by}
use Rattle.ch_laws_race.specs.View.{Reader, reader_of, record_of, reader_at, target_end, sock_with, sock_of, sock_seen, has_end, place_of, with_places, is_shut, seen, view}
use Rattle.ch_laws_race.specs.Arrivals.{IsSeenFrom, next_accepted, Comes, accepting, come_in, hears_come}
use Rattle.ch_laws_race.proofs.Keys.{other_socket, socket_kept}
use Rattle.ch_laws_race.proofs.Sockets.{by_test, same_place, other_place, given, none, end_changed, set_set}
use Rattle.ch_laws_race.proofs.Views.{alike_pairs, at_place, host_here, hosts_set, self_number}
use Rattle.ch_laws_race.proofs.Grown.{nobody_has, reader_off}

-- places are as before where the cell has the changed socket as before
places_same : (xs : List WorldSocket) (i : ℕ) (s t : WorldSocket) (cell number : ℕ) → slice_get xs i ≡ Some s → has_end cell number t ≡ has_end cell number s → place_of cell (slice_set xs i t) number ≡ place_of cell xs number
places_same [] i s t cell number at same = none s at
places_same (known ∷ rest) zero s t cell number at same = ap (λ b. cond b 0 (suc (place_of cell rest number))) (same ∙ ap (has_end cell number) (sym (given known s at)))
places_same (known ∷ rest) (suc k) s t cell number at same = ap (λ (n : ℕ). cond (has_end cell number known) 0 (suc n)) (places_same rest k s t cell number at same)

module _ (scene : Scene) (x : Side) (cell : Cell × ℕ) (i : ℕ) (s : WorldSocket) (h : Comes scene x cell i s) where
  abbrev V : Pair
  V = view scene

  abbrev Own : HostState
  Own = host_of scene x

  abbrev H : ℕ → HostState
  H = hosts_of scene.world

  abbrev P : ℕ
  P = (scene.party x).place

  abbrev xs : List WorldSocket
  xs = scene.world.sockets

  abbrev Next : ℕ
  Next = next_accepted cell

  abbrev Taken : Socket
  Taken = accepted Next s.from_host

  abbrev After : HostState
  After = with_socket Taken Own

  abbrev Now : ℕ → HostState
  Now = at_place P After H

  abbrev End_now : WorldEnd
  End_now = record (opened s.t) { number = Some Next }

  abbrev Came : WorldSocket
  Came = with_end T End_now s

  abbrev Cell_now : Cell
  Cell_now = record (cell.0) { host = After }

  did : hears_come scene x cell s ≡ Ok ([], After)
  unfolding host_on
  did = refl

  -- ---- the world

  told : come_in scene x cell s ≡ record (with_cell P (accepting cell) scene.world) { sockets = slice_set xs i Came }
  told = end_changed (with_cell P (accepting cell) scene.world) i s T (λ end. record (opened end) { number = Some Next }) h.acts.apart h.at

  cells_now : done_by P (accepting cell) [] After (come_in scene x cell s) ≡ record (with_cell P (Cell_now, cell.1 + 1) scene.world) { sockets = slice_set xs i Came }
  cells_now = ap (λ (w : World). done_by P (accepting cell) [] After w) told
      ∙ ap (λ (z : List (Cell × ℕ)). record scene.world { cells = z; sockets = slice_set xs i Came }) (set_set scene.world.cells P (accepting cell) (Cell_now, cell.1 + 1))

  -- ---- what is seen

  -- an end that is known isn't the new one
  not_new : (p m : ℕ) → list_any (has_end p m) xs ≡ true → ((P == p) && (Next == m)) ≡ false
  not_new p m known = by_test ((P == p) && (Next == m))
      (λ q. let parts = and_parts (P == p) (Next == m) q in clash (sym known ∙ ap (λ (z : ℕ). list_any (has_end z m) xs) (sym (eqb-true P p parts.0)) ∙ ap (λ (z : ℕ). list_any (has_end P z) xs) (sym (eqb-true Next m parts.1)) ∙ h.new_number))
      (λ q. q) where
        clash : {A : Type 0} → true ≡ false → A
        clash q = absurd (no q) where
          no : true ≡ false → ⊥
          no q = cc

  -- the target's end under another number
  off_before : (p m : ℕ) → is_end_of p m s.t ≡ false
  off_before p m = ap (λ (n : Option ℕ). same_number s.t.cell p && same_number n m) h.unnumbered ∙ never (same_number s.t.cell p) where
    never : (b : Bool) → (b && false) ≡ false
    never true = refl
    never false = refl

  has_same : (p m : ℕ) → list_any (has_end p m) xs ≡ true → has_end p m Came ≡ has_end p m s
  has_same p m known = ap (λ b. is_some (cond (is_end_of p m s.o) (Some O) (cond b (Some T) None))) (ap (λ (c : Option ℕ). same_number c p && (Next == m)) h.cell_is ∙ not_new p m known ∙ sym (off_before p m))

  places_now : (p : ℕ) (k : LinkState) → ((m : ℕ) → names k m ≡ true → list_any (has_end p m) xs ≡ true) → with_places (place_of p (slice_set xs i Came)) k ≡ with_places (place_of p xs) k
  places_now p Idle f = refl
  places_now p AwaitOther f = refl
  places_now p (Dialing d) f = ap (λ (z : ℕ). Dialing z) (places_same xs i s Came p d h.at (has_same p d (f d (self_number d))))
  places_now p (Up u b) f = ap (λ (z : ℕ). Up z b) (places_same xs i s Came p u h.at (has_same p u (f u (self_number u))))

  -- links and endpoints are as before
  host_same : {A : Type 0} (f : HostState → A) → f After ≡ f Own → (q : ℕ) → f (Now q) ≡ f (H q)
  host_same f same q = by_test (nat_eq q P) (λ z. ap (λ b. f (cond b After (H q))) z ∙ same ∙ ap (λ (y : ℕ). f (H y)) (same_place P q z)) (λ z. ap (λ b. f (cond b After (H q))) z)

  link_now : (z : Side) → (seen scene.party Now (slice_set xs i Came) scene.quiet).link z ≡ V.link z
  link_now z = ap (λ (l : Link). with_places (place_of (scene.party z).place (slice_set xs i Came)) l.state)
      (host_same (λ host. link_with host (scene.party z).address.id (scene.party (other z)).address) refl (scene.party z).place)
      ∙ places_now (scene.party z).place (link_of scene z).state (h.known z)

  others_same : (j : ℕ) (u : WorldSocket) → slice_get xs j ≡ Some u → (first : Expected) (e : End) → reader_at Now first (end_of e u) ≡ reader_at H first (end_of e u)
  others_same j u at first e = reader_off H P Next After (λ m q. other_socket Taken m q Own.sockets) first (end_of e u) (nobody_has P Next xs h.new_number j u at e)

  own_now : reader_at Now expected.Request End_now ≡ (expected.Request, [])
  own_now = ap (λ (c : Option ℕ). reader_of expected.Request (record_of Now c (Some Next))) h.cell_is
      ∙ ap (λ (z : HostState). reader_of expected.Request (find (is_socket Next) z.sockets)) (host_here P After H) ∙ ap (reader_of expected.Request) (socket_kept Taken Own.sockets)

  own_before : reader_at H expected.Request s.t ≡ (expected.Request, [])
  own_before = ap (λ (n : Option ℕ). reader_of expected.Request (record_of H s.t.cell n)) h.unnumbered ∙ by_cell s.t.cell where
    by_cell : (c : Option ℕ) → reader_of expected.Request (record_of H c None) ≡ (expected.Request, [])
    by_cell None = refl
    by_cell (Some c) = refl

  sock_at : V.sock i ≡ sock_of scene.party H s
  sock_at = ap (sock_seen scene.party H) h.at ∙ ap (λ b. cond b (sock_of scene.party H s) dead) h.between

  came_now : sock_of scene.party Now Came ≡ record (V.sock i) { t = pair.TOpen }
  came_now = ap (λ (r : Reader). sock_with scene.party r (reader_at Now expected.Request End_now) Came) (others_same i s h.at expected.Answer O)
      ∙ ap (λ (r : Reader). sock_with scene.party (reader_at H expected.Answer s.o) r Came) own_now
      ∙ ap (λ (c : Option ℕ). record (sock_with scene.party (reader_at H expected.Answer s.o) (expected.Request, []) s) { t = target_end (is_some c) Open expected.Request }) h.cell_is
      ∙ ap (λ (r : Reader). record (sock_with scene.party (reader_at H expected.Answer s.o) r s) { t = pair.TOpen }) (sym own_before)
      ∙ ap (λ (z : Sock). record z { t = pair.TOpen }) (sym sock_at)

  seen_as : (j : ℕ) (o : Option WorldSocket) → slice_get xs j ≡ o → sock_seen scene.party Now o ≡ sock_seen scene.party H o
  seen_as j None at = refl
  seen_as j (Some u) at = ap (λ (z : Sock). cond (is_between (scene.party Lesser).name (scene.party Greater).name u.name) z dead)
      (ap (λ (r : Reader). sock_with scene.party r (reader_at Now expected.Request u.t) u) (others_same j u at expected.Answer O) ∙ ap (λ (r : Reader). sock_with scene.party (reader_at H expected.Answer u.o) r u) (others_same j u at expected.Request T))

  sock_now : (j : ℕ) → sock_seen scene.party Now (slice_get (slice_set xs i Came) j) ≡ cond (nat_eq j i) (record (V.sock i) { t = pair.TOpen }) (V.sock j)
  sock_now j = by_test (nat_eq j i)
      (λ q. ap (λ (z : ℕ). sock_seen scene.party Now (slice_get (slice_set xs i Came) z)) (sym (same_place i j q)) ∙ ap (sock_seen scene.party Now) (set_here xs i Came (slice_get_within xs i s h.at))
      ∙ ap (λ b. cond b (sock_of scene.party Now Came) dead) h.between ∙ came_now ∙ ap (λ b. cond b (record (V.sock i) { t = pair.TOpen }) (V.sock j)) (sym q))
      (λ q. ap (sock_seen scene.party Now) (set_other xs i Came j (other_place i j q)) ∙ seen_as j (slice_get xs j) refl ∙ ap (λ b. cond b (record (V.sock i) { t = pair.TOpen }) (V.sock j)) (sym q))

  pub comes_it : IsSeenFrom scene x (accepting cell) (come_in scene x cell s) (hears_come scene x cell s) (Come i ∷ [])
  comes_it = record {
    steps = [];
    host = After;
    does = did;
    allowed = (ap (λ (z : Sock). z.t) sock_at ∙ ap (λ (c : Option ℕ). target_end (is_some c) s.t.stage (reader_at H expected.Request s.t).0) h.cell_is ∙ ap (λ (z : Stage). target_end true z (reader_at H expected.Request s.t).0) h.waiting, tt);
    seen = ap (λ (w : World). view (record scene { world = w })) cells_now
        ∙ ap (λ (f : ℕ → HostState). seen scene.party f (slice_set xs i Came) scene.quiet) (hosts_set scene.world P cell Cell_now (cell.1 + 1) h.acts.there)
        ∙ alike_pairs (seen scene.party Now (slice_set xs i Came) scene.quiet) (put i (record (V.sock i) { t = pair.TOpen }) V) link_now (λ z. host_same (is_shut (scene.party z).address.id) refl (scene.party z).place) sock_now refl;
  }
