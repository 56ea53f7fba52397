-- What is done at sockets and links of others shows nothing of two nodes.
use Rattle.std.specs.Prelude.{◌≡◌, ℕ, zero, suc, Bool, true, false, cond, ◌&&◌, ◌||◌, ◌==◌, nat_eq, List, [], ◌∷◌, ◌++◌, find, is_some, slice_get, Option, Some, None}
use Rattle.std.specs.List.{list_any}
use Rattle.std.specs.Str.{bytes_eq}
use Rattle.std.proofs.Common.{refl, ap, sym, ◌∙◌, subst}
use Rattle.std.proofs.lemmas.Bool.{eqb-true, and_parts}
use Rattle.std.proofs.lemmas.Slice.Eq.{bytes_eq-Decides}
use Rattle.ch_link.specs.Sockets.{names}
use Rattle.ch_link.specs.declared.LinkState.{LinkState}
use Rattle.ch_link.specs.declared.LinkState.TheVariants.{Idle, Dialing, AwaitOther, Up}
use Rattle.ch_reader.specs.declared.item.Expected.{Expected}
use Rattle.ch_reader.specs.declared.item.Expected.TheVariants as expected
use Rattle.ch_model.specs.declared.entry.Entry.{Entry}
use Rattle.ch_model.specs.declared.entry.Entry.TheVariants as entries
use Rattle.ch_model.specs.declared.name.End.{End}
use Rattle.ch_model.specs.declared.name.End.TheVariants.{O, T}
use Rattle.ch_model.specs.declared.name.SockName.{SockName}
use Rattle.ch_model.specs.declared.step.Place.{Place}
use Rattle.ch_model.specs.declared.step.Step.{Step}
use Rattle.ch_model.specs.declared.step.Step.TheVariants as steps
use Rattle.ch_model.specs.Stages.{Pending, is_ended}
use Rattle.ch_model.specs.HostState.{HostState}
use Rattle.ch_model.specs.HostSteps.{Stepped, own_address, is_socket, link_with}
use Rattle.ch_model.specs.Naming.{called}
use Rattle.ch_model.specs.Same.{same_socket, is_between}
use Rattle.ch_model.specs.WorldState.{Cell, WorldEnd, WorldSocket, World}
use Rattle.ch_model.specs.WorldSockets as world
use Rattle.ch_model.specs.WorldSockets.{end_of, with_end, with_end_of, is_end_of, end_at, end_of_nobody, is_socket_named, store_in, find_end, item_arrives, ended, new_socket}
use Rattle.ch_model.specs.WorldSteps.{later_places, on_end, item_is_read, reads_item, end_closes, stepped, all_told}
use Rattle.ch_model.specs.WorldHappenings.{Answered, nothing, with_cell, cell_told, cell_hears}
use Rattle.ch_model.specs.CellSteps.{told_steps}
use Rattle.ch_race.specs.Pair.{Side, Lesser, Greater, other, Sock, dead}
use Rattle.ch_laws_race.specs.Scene.{Party, Scene, host_in, hosts_of, link_of, done_by}
use Rattle.ch_laws_race.specs.View.{Reader, reader_of, record_of, reader_at, sock_with, sock_of, sock_seen, has_end, place_of, with_places, is_shut, seen, view}
use Rattle.ch_laws_race.specs.Reading.{IsSeen}
use Rattle.ch_laws_race.specs.Others.{IsOthers, IsElsewhere, StepsElsewhere, AreElsewhere, KeepsPair, AreKnown, DoneElsewhere, IsUnseen, DialsNew, AreNew, HearsThird}
use Rattle.ch_laws_race.specs.Chains.{steps_told}
use Rattle.ch_laws_race.specs.Happenings.{IsHappening}
use Rattle.ch_model.specs.declared.local.LocalEvent.{LocalEvent}
use Rattle.ch_model.specs.Cell.{cell_step}
use Rattle.ch_laws_race.proofs.Keys.{equal_numbers}
use Rattle.ch_laws_race.proofs.Sockets.{by_test, same_place, other_place, given, name_self, Alike, alike_self, alike_with, at_alike}
use Rattle.ch_laws_race.proofs.Views.{alike_pairs, at_place, hosts_set, self_number}
use Rattle.ch_laws_race.proofs.Grown.{stored_last}
use Rattle.ch_laws_race.proofs.Same.{Same, all_same, all_cells}

not_true : {A : Type 0} → false ≡ true → A
not_true h = absurd (clash h) where
  clash : false ≡ true → ⊥
  clash h = cc

-- sockets that show the same of the two, where all ends that were there are in their places
pub record Shows (party : Side → Party) (xs ys : List WorldSocket) : Type 0 where
  pub socks : (hosts : ℕ → HostState) (j : ℕ) → sock_seen party hosts (slice_get ys j) ≡ sock_seen party hosts (slice_get xs j)
  pub places : (c m : ℕ) → list_any (has_end c m) xs ≡ true → place_of c ys m ≡ place_of c xs m
  pub ends : (c m : ℕ) → list_any (has_end c m) xs ≡ true → list_any (has_end c m) ys ≡ true
  pub third : (c m : ℕ) → IsElsewhere party (find_end c m xs) → IsElsewhere party (find_end c m ys)

pub shows_self : (party : Side → Party) (xs : List WorldSocket) → Shows party xs xs
shows_self party xs = record { socks = λ hosts j. refl; places = λ c m h. refl; ends = λ c m h. h; third = λ c m h. h }

shows_more : (party : Side → Party) (xs ys zs : List WorldSocket) → Shows party xs ys → Shows party ys zs → Shows party xs zs
shows_more party xs ys zs a b = record {
  socks = λ hosts j. b.socks hosts j ∙ a.socks hosts j;
  places = λ c m h. b.places c m (a.ends c m h) ∙ a.places c m h;
  ends = λ c m h. b.ends c m (a.ends c m h);
  third = λ c m h. b.third c m (a.third c m h);
}

-- what a cell has under a number, where the first socket has that name, and that end is the cell's
abbrev found_in : ℕ → ℕ → List WorldSocket → SockName → Option End → Option (SockName × End)
found_in c m rest name None = find_end c m rest
found_in c m rest name (Some e) = Some (name, e)

-- another's socket is dead
is_dead : (party : Side → Party) (hosts : ℕ → HostState) (u : WorldSocket) → IsOthers party u.name → sock_seen party hosts (Some u) ≡ dead
is_dead party hosts u off = ap (λ b. cond b (sock_of party hosts u) dead) off

-- the first is another's, and is changed
shows_first : (party : Side → Party) (s t : WorldSocket) (rest : List WorldSocket) → Alike s t → IsOthers party s.name → Shows party (s ∷ rest) (t ∷ rest)
shows_first party s t rest a off = record {
  socks = socks;
  places = λ c m h. ap (λ (o : Option End). cond (is_some o) 0 (suc (place_of c rest m))) (at_alike s t c m a);
  ends = λ c m h. ap (λ (o : Option End). is_some o || list_any (has_end c m) rest) (at_alike s t c m a) ∙ h;
  third = λ c m h. subst (IsElsewhere party) (sym (ap (λ (o : Option End). found_in c m rest t.name o) (at_alike s t c m a) ∙ ap (λ (n : SockName). found_in c m rest n (end_at c m s)) a.name)) h;
} where
  socks : (hosts : ℕ → HostState) (j : ℕ) → sock_seen party hosts (slice_get (t ∷ rest) j) ≡ sock_seen party hosts (slice_get (s ∷ rest) j)
  socks hosts zero = is_dead party hosts t (ap (is_between (party Lesser).name (party Greater).name) a.name ∙ off) ∙ sym (is_dead party hosts s off)
  socks hosts (suc j) = refl

-- the rest is changed
shows_rest : (party : Side → Party) (known : WorldSocket) (xs ys : List WorldSocket) → Shows party xs ys → Shows party (known ∷ xs) (known ∷ ys)
shows_rest party known xs ys a = record {
  socks = socks;
  places = λ c m h. place_by c m (has_end c m known) h;
  ends = λ c m h. end_by c m (has_end c m known) h;
  third = λ c m h. third_by c m (end_at c m known) h;
} where
  socks : (hosts : ℕ → HostState) (j : ℕ) → sock_seen party hosts (slice_get (known ∷ ys) j) ≡ sock_seen party hosts (slice_get (known ∷ xs) j)
  socks hosts zero = refl
  socks hosts (suc j) = a.socks hosts j

  place_by : (c m : ℕ) (b : Bool) → (b || list_any (has_end c m) xs) ≡ true → cond b 0 (suc (place_of c ys m)) ≡ cond b 0 (suc (place_of c xs m))
  place_by c m true h = refl
  place_by c m false h = ap suc (a.places c m h)

  end_by : (c m : ℕ) (b : Bool) → (b || list_any (has_end c m) xs) ≡ true → (b || list_any (has_end c m) ys) ≡ true
  end_by c m true h = refl
  end_by c m false h = a.ends c m h

  third_by : (c m : ℕ) (o : Option End) → IsElsewhere party (found_in c m xs known.name o) → IsElsewhere party (found_in c m ys known.name o)
  third_by c m None h = a.third c m h
  third_by c m (Some e) h = h

-- another's socket is opened
shows_last : (party : Side → Party) (new : WorldSocket) (xs : List WorldSocket) → IsOthers party new.name → Shows party xs (xs ++ new ∷ [])
shows_last party new [] off = record {
  socks = socks;
  places = λ c m h. not_true h;
  ends = λ c m h. not_true h;
  third = λ c m h. third_by c m (end_at c m new);
} where
  socks : (hosts : ℕ → HostState) (j : ℕ) → sock_seen party hosts (slice_get (new ∷ []) j) ≡ sock_seen party hosts (slice_get [] j)
  socks hosts zero = is_dead party hosts new off
  socks hosts (suc j) = refl

  third_by : (c m : ℕ) (o : Option End) → IsElsewhere party (found_in c m [] new.name o)
  third_by c m None = tt
  third_by c m (Some e) = off
shows_last party new (known ∷ rest) off = shows_rest party known rest (rest ++ new ∷ []) (shows_last party new rest off)

name_is : (a b : SockName) → same_socket a b ≡ true → a ≡ b
name_is a b h =
    let parts = and_parts (bytes_eq a.from b.from && bytes_eq a.to b.to) (a.number == b.number) h in
    let texts = and_parts (bytes_eq a.from b.from) (bytes_eq a.to b.to) parts.0 in
    ap (λ (z : List ℕ). record a { from = z }) ((bytes_eq-Decides a.from b.from).0 texts.0)
    ∙ ap (λ (z : List ℕ). record a { from = b.from; to = z }) ((bytes_eq-Decides a.to b.to).0 texts.1)
    ∙ ap (λ (z : ℕ). record b { number = z }) (eqb-true a.number b.number parts.1)

found_name : (name : SockName) (ys : List WorldSocket) (s : WorldSocket) → find (is_socket_named name) ys ≡ Some s → s.name ≡ name
found_name name [] s q = absurd (clash q) where
  clash : ◌≡◌ {A = Option WorldSocket} None (Some s) → ⊥
  clash q = cc
found_name name (y ∷ ys) s q = by_first (is_socket_named name y) refl q (found_name name ys s) where
  by_first : (b : Bool) → is_socket_named name y ≡ b → cond b (Some y) (find (is_socket_named name) ys) ≡ Some s → (find (is_socket_named name) ys ≡ Some s → s.name ≡ name) → s.name ≡ name
  by_first true is q f = ap (λ (z : WorldSocket). z.name) (sym (given y s q)) ∙ name_is y.name name is
  by_first false is q f = f q

-- the socket that is found by a name is changed
shows_stored : (party : Side → Party) (name : SockName) (change : WorldSocket → WorldSocket) → ((s : WorldSocket) → Alike s (change s)) → IsOthers party name
    → (xs : List WorldSocket) (s : WorldSocket) → find (is_socket_named name) xs ≡ Some s → Shows party xs (store_in (change s) xs)
shows_stored party name change keeps off [] s found = absurd (clash found) where
  clash : ◌≡◌ {A = Option WorldSocket} None (Some s) → ⊥
  clash q = cc
shows_stored party name change keeps off (known ∷ rest) s found = by_own (is_socket_named name known) refl found (shows_stored party name change keeps off rest s) where
  by_own : (b : Bool) → is_socket_named name known ≡ b → cond b (Some known) (find (is_socket_named name) rest) ≡ Some s → (find (is_socket_named name) rest ≡ Some s → Shows party rest (store_in (change s) rest)) → Shows party (known ∷ rest) (cond (same_socket known.name (change s).name) (change s ∷ rest) (known ∷ store_in (change s) rest))
  by_own true is q f = let same = given known s q in
      subst (λ b. Shows party (known ∷ rest) (cond b (change s ∷ rest) (known ∷ store_in (change s) rest)))
      (sym (ap (λ (z : SockName). same_socket known.name z) ((keeps s).name ∙ ap (λ (z : WorldSocket). z.name) (sym same)) ∙ name_self known.name))
      (shows_first party known (change s) rest (subst (λ (z : WorldSocket). Alike z (change s)) (sym same) (keeps s)) (ap (is_between (party Lesser).name (party Greater).name) (name_is known.name name is) ∙ off))
  by_own false is q f =
      subst (λ b. Shows party (known ∷ rest) (cond b (change s ∷ rest) (known ∷ store_in (change s) rest)))
      (sym (ap (λ (z : SockName). same_socket known.name z) ((keeps s).name ∙ found_name name rest s q) ∙ is))
      (shows_rest party known rest (store_in (change s) rest) (f q))

-- ---- steps

-- a change of an end keeps its keys
abbrev KeepsKeys : (WorldEnd → WorldEnd) → Type 0
KeepsKeys f = (end : WorldEnd) → ((f end).cell ≡ end.cell) × ((f end).number ≡ end.number)

arrives_keys : (bytes : List ℕ) (said : Option Place) → KeepsKeys (item_arrives bytes said)
arrives_keys bytes said end = by (is_ended end.stage || end.is_cut) where
  by : (b : Bool) → ((cond b end (record end { unread = end.unread ++ bytes; places = end.places ++ said ∷ [] })).cell ≡ end.cell) × ((cond b end (record end { unread = end.unread ++ bytes; places = end.places ++ said ∷ [] })).number ≡ end.number)
  by true = (refl, refl)
  by false = (refl, refl)

shows_end : (party : Side → Party) (name : SockName) (e : End) (f : WorldEnd → WorldEnd) (w : World) → KeepsKeys f → IsOthers party name → Shows party w.sockets (with_end_of name e f w).sockets
shows_end party name e f w keeps off = by_found (find (is_socket_named name) w.sockets) refl where
  by_found : (o : Option WorldSocket) → find (is_socket_named name) w.sockets ≡ o → Shows party w.sockets (elim o as (λ o. World) [ None ↦ w | Some socket ↦ world.with_socket (with_end e (f (end_of e socket)) socket) w ]).sockets
  by_found None is = shows_self party w.sockets
  by_found (Some s) is = shows_stored party name (λ u. with_end e (f (end_of e u)) u) (λ u. alike_with e u u (f (end_of e u)) (alike_self u) (keeps (end_of e u)).0 (keeps (end_of e u)).1) off w.sockets s is

shows_on : (party : Side → Party) (place sock : ℕ) (f : SockName × End → World → List Entry × World) (w : World) → ((at : SockName × End) → IsOthers party at.0 → Shows party w.sockets (f at w).1.sockets)
    → IsElsewhere party (find_end place sock w.sockets) → Shows party w.sockets (on_end place sock f w).1.sockets
shows_on party place sock f w each off = by_found (find_end place sock w.sockets) off where
  by_found : (o : Option (SockName × End)) → IsElsewhere party o → Shows party w.sockets (elim o as (λ o. List Entry × World) [ None ↦ ([], w) | Some at ↦ f at w ]).1.sockets
  by_found None q = shows_self party w.sockets
  by_found (Some at) q = each at q

shows_up : (party : Side → Party) (place sock : ℕ) (w : World) → Shows party w.sockets (on_end place sock (λ at now. (entries.Up at.0 at.1 ∷ [], now)) w).1.sockets
shows_up party place sock w = by_found (find_end place sock w.sockets) where
  by_found : (o : Option (SockName × End)) → Shows party w.sockets (elim o as (λ o. List Entry × World) [ None ↦ ([], w) | Some at ↦ (entries.Up at.0 at.1 ∷ [], w) ]).1.sockets
  by_found None = shows_self party w.sockets
  by_found (Some at) = shows_self party w.sockets

shows_read : (party : Side → Party) (at : SockName × End) (w : World) → IsOthers party at.0 → Shows party w.sockets (reads_item at w).1.sockets
shows_read party at w off = by_found (find (is_socket_named at.0) w.sockets) where
  by_found : (o : Option WorldSocket) → Shows party w.sockets (item_is_read at o w).sockets
  by_found None = shows_self party w.sockets
  by_found (Some socket) = shows_end party at.0 at.1 (λ end. record end { places = later_places end.places }) w (λ end. (refl, refl)) off

pub shows_step : (party : Side → Party) (place : ℕ) (c : Cell) (step : Step) (w : World) → StepsElsewhere party place c step w → Shows party w.sockets (stepped place c step w).1.sockets
shows_step party place c (steps.Dial sock end peer) w h =
    let new = new_socket w (called w.names (own_address c.host end)) (called w.names peer) c.host.host (end_of_nobody (Some place) (Some sock) Pending) peer in
    subst (Shows party w.sockets) (sym (stored_last new w.sockets h.1)) (shows_last party new w.sockets h.0)
shows_step party place c (steps.Read sock) w h = shows_on party place sock reads_item w (λ at off. shows_read party at w off) h
shows_step party place c (steps.Write sock bytes said) w h = shows_on party place sock (λ at now. (entries.Wrote at.0 at.1 bytes ∷ [], with_end_of at.0 (world.other at.1) (item_arrives bytes said) now)) w
    (λ at off. shows_end party at.0 (world.other at.1) (item_arrives bytes said) w (arrives_keys bytes said) off) h
shows_step party place c (steps.Up sock) w h = shows_up party place sock w
shows_step party place c (steps.Down sock) w h = shows_on party place sock (λ at now. (entries.Down at.0 at.1 ∷ [], end_closes at now)) w (λ at off. shows_end party at.0 at.1 ended w (λ end. (refl, refl)) off) h
shows_step party place c (steps.Left sock) w h = shows_on party place sock (λ at now. (entries.Left at.0 at.1 ∷ [], end_closes at now)) w (λ at off. shows_end party at.0 at.1 ended w (λ end. (refl, refl)) off) h
shows_step party place c (steps.Broke end peer why) w h = shows_self party w.sockets
shows_step party place c (steps.Post end event) w h = shows_self party w.sockets

shows_steps : (party : Side → Party) (place : ℕ) (c : Cell) (done : List Step) (w : World) → AreElsewhere party place c done w → Shows party w.sockets (all_told place c (told_steps done) w).1.sockets
shows_steps party place c [] w h = shows_self party w.sockets
shows_steps party place c (step ∷ rest) w h = shows_more party w.sockets (stepped place c step w).1.sockets (all_told place c (told_steps rest) (stepped place c step w).1).1.sockets
    (shows_step party place c step w h.0) (shows_steps party place c rest (stepped place c step w).1 h.1)

-- ---- the host, and all

module _ (scene : Scene) (place : ℕ) (cell : Cell × ℕ) (now : HostState) (keeps : KeepsPair scene place now) where
  abbrev H : ℕ → HostState
  H = hosts_of scene.world

  abbrev Now : ℕ → HostState
  Now = at_place place now H

  abbrev StateOf : Side → HostState → LinkState
  StateOf z h = (link_with h (scene.party z).address.id (scene.party (other z)).address).state

  state_same : (z : Side) → StateOf z (Now (scene.party z).place) ≡ StateOf z (H (scene.party z).place)
  state_same z = by_test (nat_eq (scene.party z).place place)
      (λ h. let here = same_place place (scene.party z).place h in
      ap (λ b. StateOf z (cond b now (H (scene.party z).place))) h ∙ keeps.link z (sym here) ∙ ap (λ (p : ℕ). StateOf z (H p)) here)
      (λ h. ap (λ b. StateOf z (cond b now (H (scene.party z).place))) h)

  shut_same : (z : Side) → is_shut (scene.party z).address.id (Now (scene.party z).place) ≡ is_shut (scene.party z).address.id (H (scene.party z).place)
  shut_same z = by_test (nat_eq (scene.party z).place place)
      (λ h. let here = same_place place (scene.party z).place h in
      ap (λ b. is_shut (scene.party z).address.id (cond b now (H (scene.party z).place))) h ∙ keeps.ends z (sym here) ∙ ap (λ (p : ℕ). is_shut (scene.party z).address.id (H p)) here)
      (λ h. ap (λ b. is_shut (scene.party z).address.id (cond b now (H (scene.party z).place))) h)

  record_same : (c m : Option ℕ) → ((n : ℕ) → (world.same_number c place && world.same_number m n) ≡ true → find (is_socket n) now.sockets ≡ find (is_socket n) (H place).sockets) → record_of Now c m ≡ record_of H c m
  record_same None m f = refl
  record_same (Some c) None f = refl
  record_same (Some c) (Some m) f = by_test (nat_eq c place)
      (λ h. let here = same_place place c h in
      ap (λ b. find (is_socket m) (cond b now (H c)).sockets) h
      ∙ f m (ap (λ (z : ℕ). (c == z) && (m == m)) here ∙ ap (λ b. b && (m == m)) (equal_numbers c) ∙ equal_numbers m)
      ∙ ap (λ (p : ℕ). find (is_socket m) (H p).sockets) here)
      (λ h. ap (λ b. find (is_socket m) (cond b now (H c)).sockets) h)

  reader_same : (j : ℕ) (u : WorldSocket) → slice_get scene.world.sockets j ≡ Some u → is_between (scene.party Lesser).name (scene.party Greater).name u.name ≡ true
      → (first : Expected) (e : End) → reader_at Now first (end_of e u) ≡ reader_at H first (end_of e u)
  reader_same j u at own first e = ap (reader_of first) (record_same (end_of e u).cell (end_of e u).number (λ n h. keeps.records j u at own e n h))

  sock_same : (j : ℕ) (o : Option WorldSocket) → slice_get scene.world.sockets j ≡ o → sock_seen scene.party Now o ≡ sock_seen scene.party H o
  sock_same j None at = refl
  sock_same j (Some u) at = by_test (is_between (scene.party Lesser).name (scene.party Greater).name u.name)
      (λ h. ap (λ (z : Sock). cond (is_between (scene.party Lesser).name (scene.party Greater).name u.name) z dead)
      (ap (λ (r : Reader). sock_with scene.party r (reader_at Now expected.Request u.t) u) (reader_same j u at h expected.Answer O)
      ∙ ap (λ (r : Reader). sock_with scene.party (reader_at H expected.Answer u.o) r u) (reader_same j u at h expected.Request T)))
      (λ h. is_dead scene.party Now u h ∙ sym (is_dead scene.party H u h))

  places_same : (ys : List WorldSocket) → Shows scene.party scene.world.sockets ys → (c : ℕ) (k : LinkState) → ((m : ℕ) → names k m ≡ true → list_any (has_end c m) scene.world.sockets ≡ true)
      → with_places (place_of c ys) k ≡ with_places (place_of c scene.world.sockets) k
  places_same ys shows c Idle f = refl
  places_same ys shows c AwaitOther f = refl
  places_same ys shows c (Dialing d) f = ap (λ (z : ℕ). Dialing z) (shows.places c d (f d (self_number d)))
  places_same ys shows c (Up u b) f = ap (λ (z : ℕ). Up z b) (shows.places c u (f u (self_number u)))

  pub all_unseen : (ys : List WorldSocket) → Shows scene.party scene.world.sockets ys → AreKnown scene → seen scene.party Now ys scene.quiet ≡ view scene
  all_unseen ys shows known = alike_pairs (seen scene.party Now ys scene.quiet) (view scene)
      (λ z. ap (with_places (place_of (scene.party z).place ys)) (state_same z) ∙ places_same ys shows (scene.party z).place (link_of scene z).state (known z))
      shut_same (λ j. shows.socks Now j ∙ sock_same j (slice_get scene.world.sockets j) refl) refl

-- steps at sockets of others, of a host that keeps what the two have of it
pub same_view : (scene : Scene) (place : ℕ) (cell : Cell × ℕ) (done : List Step) (now : HostState) → slice_get scene.world.cells place ≡ Some cell → AreKnown scene
    → AreElsewhere scene.party place (record (cell.0) { host = now }) done (with_cell place (record (cell.0) { host = now }, cell.1) scene.world) → KeepsPair scene place now
    → view (record scene { world = done_by place cell done now scene.world }) ≡ view scene
same_view scene place cell done now there known elsewhere keeps =
    ap (λ (f : ℕ → HostState). seen scene.party f (done_by place cell done now scene.world).sockets scene.quiet) hosts_now
    ∙ all_unseen scene place cell now keeps (done_by place cell done now scene.world).sockets
    (shows_steps scene.party place (record (cell.0) { host = now }) done (with_cell place (record (cell.0) { host = now }, cell.1) scene.world) elsewhere) known where
      hosts_now : hosts_of (done_by place cell done now scene.world) ≡ at_place place now (hosts_of scene.world)
      hosts_now = ap (λ (z : List (Cell × ℕ)). λ (p : ℕ). host_in (slice_get z p)) (all_cells place (record (cell.0) { host = now }) (told_steps done) (with_cell place (record (cell.0) { host = now }, cell.1) scene.world))
          ∙ hosts_set scene.world place cell (record (cell.0) { host = now }) cell.1 there

pub unseen : (scene : Scene) (place : ℕ) (cell : Cell × ℕ) (done : Stepped) → DoneElsewhere scene place cell done → IsUnseen scene place cell done
unseen scene place cell done h = record { steps = h.steps; host = h.host; does = h.does; same = same_view scene place cell h.steps h.host h.there h.known h.elsewhere h.keeps }

-- at a host of the two
pub no_moves : (scene : Scene) (x : Side) (cell : Cell × ℕ) (done : Stepped) → IsUnseen scene (scene.party x).place cell done → IsSeen scene x cell done []
no_moves scene x cell done u = record { steps = u.steps; host = u.host; does = u.does; allowed = tt; seen = u.same }

-- ---- a third host

-- a cell that has no end of a socket between the two
pub free_found : (party : Side → Party) (place m : ℕ) (xs : List WorldSocket)
    → ((j : ℕ) (u : WorldSocket) → slice_get xs j ≡ Some u → is_between (party Lesser).name (party Greater).name u.name ≡ true → (e : End) → is_end_of place m (end_of e u) ≡ false) → IsElsewhere party (find_end place m xs)
free_found party place m [] f = tt
free_found party place m (known ∷ rest) f = by_end (end_at place m known) refl (free_found party place m rest (λ j u at own e. f (suc j) u at own e)) where
  clash : {A : Type 0} (e : End) → ◌≡◌ {A = Option End} (Some e) None → A
  clash e h = absurd (no h) where
    no : ◌≡◌ {A = Option End} (Some e) None → ⊥
    no q = cc

  none_here : is_between (party Lesser).name (party Greater).name known.name ≡ true → end_at place m known ≡ None
  none_here own = ap (λ b. cond b (Some O) (cond (is_end_of place m known.t) (Some T) None)) (f 0 known refl own O) ∙ ap (λ b. cond b (Some T) None) (f 0 known refl own T)

  by_end : (o : Option End) → end_at place m known ≡ o → IsElsewhere party (find_end place m rest) → IsElsewhere party (found_in place m rest known.name o)
  by_end None is later = later
  by_end (Some e) is later = by_test (is_between (party Lesser).name (party Greater).name known.name) (λ own. clash e (sym is ∙ none_here own)) (λ off. off)

step_third : (party : Side → Party) (place : ℕ) (c : Cell) (step : Step) (w : World) → ((m : ℕ) → IsElsewhere party (find_end place m w.sockets)) → DialsNew party place c step w → StepsElsewhere party place c step w
step_third party place c (steps.Dial sock end peer) w third new = new
step_third party place c (steps.Read sock) w third new = third sock
step_third party place c (steps.Write sock bytes said) w third new = third sock
step_third party place c (steps.Up sock) w third new = tt
step_third party place c (steps.Down sock) w third new = third sock
step_third party place c (steps.Left sock) w third new = third sock
step_third party place c (steps.Broke end peer why) w third new = tt
step_third party place c (steps.Post end event) w third new = tt

steps_third : (party : Side → Party) (place : ℕ) (c : Cell) (done : List Step) (w : World) → ((m : ℕ) → IsElsewhere party (find_end place m w.sockets)) → AreNew party place c done w → AreElsewhere party place c done w
steps_third party place c [] w third new = tt
steps_third party place c (step ∷ rest) w third new = let here = step_third party place c step w third new.0 in
    (here, steps_third party place c rest (stepped place c step w).1 (λ m. (shows_step party place c step w here).third place m (third m)) new.1)

pub third_hears : (scene : Scene) (place : ℕ) (cell : Cell × ℕ) (event : LocalEvent) → HearsThird scene place cell event → IsHappening scene (cell_hears place event scene.world) []
third_hears scene place cell event h = record {
  verdict = h.verdict;
  entries = (all_told place h.after h.told (with_cell place (h.after, cell.1) scene.world)).0;
  now = (all_told place h.after h.told (with_cell place (h.after, cell.1) scene.world)).1;
  does = ap (λ (o : Option (Cell × ℕ)). elim o as (λ o. Answered) [ None ↦ nothing scene.world | Some c ↦ cell_told place c scene.world (cell_step c.0 event) ]) h.there ∙ ap (cell_told place cell scene.world) h.does;
  allowed = tt;
  seen = ap (λ (f : ℕ → HostState). seen scene.party f (all_told place h.after h.told W).1.sockets scene.quiet) hosts_now
      ∙ ap (λ (z : List WorldSocket). seen scene.party (at_place place h.after.host (hosts_of scene.world)) z scene.quiet) steps_alone.sockets
      ∙ all_unseen scene place cell h.after.host keeps (all_told place h.after (told_steps (steps_told h.told)) W).1.sockets
      (shows_steps scene.party place h.after (steps_told h.told) W (steps_third scene.party place h.after (steps_told h.told) W none_theirs h.dials)) h.known;
} where
  W : World
  W = with_cell place (h.after, cell.1) scene.world

  not_at : {A : Type 0} (z : Side) → (scene.party z).place ≡ place → A
  not_at z q = absurd (other_place place (scene.party z).place (h.away z) q)

  keeps : KeepsPair scene place h.after.host
  keeps = record { link = λ z q. not_at z q; ends = λ z q. not_at z q; records = λ j u at own e m q. not_true (sym (h.free j u at own e m) ∙ q) }

  none_theirs : (m : ℕ) → IsElsewhere scene.party (find_end place m scene.world.sockets)
  none_theirs m = free_found scene.party place m scene.world.sockets (λ j u at own e. h.free j u at own e m)

  steps_alone : Same (all_told place h.after h.told W).1 (all_told place h.after (told_steps (steps_told h.told)) W).1
  steps_alone = all_same place h.after h.after h.told W W refl refl (record { names = refl; sockets = refl; places = λ a. refl })

  hosts_now : hosts_of (all_told place h.after h.told W).1 ≡ at_place place h.after.host (hosts_of scene.world)
  hosts_now = ap (λ (z : List (Cell × ℕ)). λ (p : ℕ). host_in (slice_get z p)) (all_cells place h.after h.told W) ∙ hosts_set scene.world place cell h.after cell.1 h.there
