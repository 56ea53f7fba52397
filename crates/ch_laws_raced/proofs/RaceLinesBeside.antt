-- What happens to a socket of others shows nothing of two nodes: the world's part, and what the host of its end does.
use Rattle.std.specs.Prelude.{◌≡◌, ℕ, zero, suc, Bool, true, false, cond, ◌||◌, nat_eq, List, [], ◌∷◌, is_some, slice_get, slice_set, Option, Some, None, Ok}
use Rattle.std.specs.List.{list_any}
use Rattle.std.proofs.Common.{refl, ap, sym, ◌∙◌, subst}
use Rattle.std.proofs.lemmas.Option.{slice_get_within}
use Rattle.ch_light.proofs.Lists.{set_here, set_other}
use Rattle.ch_model.specs.declared.name.End.{End}
use Rattle.ch_model.specs.declared.name.SockName.{SockName}
use Rattle.ch_model.specs.declared.step.Step.{Step}
use Rattle.ch_link.specs.Sockets.{names}
use Rattle.ch_model.specs.HostState.{HostState}
use Rattle.ch_model.specs.HostSteps.{Stepped, link_with}
use Rattle.ch_model.specs.Same.{is_between}
use Rattle.ch_model.specs.WorldSockets.{end_at, find_end}
use Rattle.ch_model.specs.WorldState.{Cell, WorldSocket, World}
use Rattle.ch_model.specs.WorldHappenings.{with_cell}
use Rattle.ch_race.specs.Pair.{Side, Lesser, Greater, other, dead}
use Rattle.ch_laws_race.specs.Others.{IsOthers, IsElsewhere, KeepsPair, AreKnown}
use Rattle.ch_laws_race.specs.Scene.{Party, host_in, hosts_of}
use Rattle.ch_laws_race.specs.View.{has_end, place_of, sock_of, sock_seen, seen, view}
use Rattle.ch_laws_race.proofs.InTurn.{placed_same}
use Rattle.ch_laws_race.proofs.Others.{Shows, shows_self, all_unseen, same_view, free_found}
use Rattle.ch_laws_race.proofs.OtherReads.{AreFree, Stays, free_steps}
use Rattle.ch_laws_race.proofs.Sockets.{by_test, same_place, other_place, given, none}
use Rattle.ch_laws_calls.specs.Calls.{done_at}
use Rattle.ch_laws_calls.specs.Scenes.{SceneFacts, IsMoved, scene_of}

clash : {A : Type 0} → true ≡ false → A
clash h = absurd (no h) where
  no : true ≡ false → ⊥
  no h = cc

-- ---- the world's part

-- what a cell has under a number among these sockets, where the first has that name, and that end is the cell's
abbrev found_in : ℕ → ℕ → List WorldSocket → SockName → Option End → Option (SockName × End)
found_in c m rest name None = find_end c m rest
found_in c m rest name (Some e) = Some (name, e)

-- an end that is there is where it was
abbrev KeepsEnds : List WorldSocket → WorldSocket → WorldSocket → Type 0
KeepsEnds xs s t = (c m : ℕ) → list_any (has_end c m) xs ≡ true → end_at c m t ≡ end_at c m s

-- another's socket is changed, where it is
pub shows_set : (party : Side → Party) (xs : List WorldSocket) (i : ℕ) (s t : WorldSocket) → slice_get xs i ≡ Some s → t.name ≡ s.name → IsOthers party s.name → KeepsEnds xs s t → Shows party xs (slice_set xs i t)
shows_set party [] i s t at same off keeps = none s at
shows_set party (known ∷ rest) zero s t at same off keeps = record {
  socks = socks;
  places = λ c m h. ap (λ (o : Option End). cond (is_some o) 0 (suc (place_of c rest m))) (as_was c m h);
  ends = λ c m h. ap (λ (o : Option End). is_some o || list_any (has_end c m) rest) (as_was c m h) ∙ h;
  third = λ c m h. by_end c m (end_at c m known) refl (end_at c m t) refl h;
} where
  is : known ≡ s
  is = given known s at

  gone : (hosts : ℕ → HostState) (u : WorldSocket) → IsOthers party u.name → sock_seen party hosts (Some u) ≡ dead
  gone hosts u h = ap (λ b. cond b (sock_of party hosts u) dead) h

  known_off : IsOthers party known.name
  known_off = subst (λ (u : WorldSocket). IsOthers party u.name) (sym is) off

  t_off : IsOthers party t.name
  t_off = subst (IsOthers party) (sym same) off

  as_was : (c m : ℕ) → list_any (has_end c m) (known ∷ rest) ≡ true → end_at c m t ≡ end_at c m known
  as_was c m h = keeps c m h ∙ ap (end_at c m) (sym is)

  socks : (hosts : ℕ → HostState) (j : ℕ) → sock_seen party hosts (slice_get (t ∷ rest) j) ≡ sock_seen party hosts (slice_get (known ∷ rest) j)
  socks hosts zero = gone hosts t t_off ∙ sym (gone hosts known known_off)
  socks hosts (suc j) = refl

  by_end : (c m : ℕ) (o : Option End) → end_at c m known ≡ o → (q : Option End) → end_at c m t ≡ q → IsElsewhere party (found_in c m rest known.name o) → IsElsewhere party (found_in c m rest t.name q)
  by_end c m o is_o (Some e) is_q h = t_off
  by_end c m None is_o None is_q h = h
  by_end c m (Some e) is_o None is_q h = let there : list_any (has_end c m) (known ∷ rest) ≡ true = ap (λ (z : Option End). is_some z || list_any (has_end c m) rest) is_o in
      none e (sym is_q ∙ as_was c m there ∙ is_o)
shows_set party (known ∷ rest) (suc i) s t at same off keeps = shows_rest (shows_set party rest i s t at same off (λ c m h. keeps c m (or_true (has_end c m known) (list_any (has_end c m) rest) h))) where
  or_true : (a b : Bool) → b ≡ true → (a || b) ≡ true
  or_true true b h = refl
  or_true false b h = h

  place_by : Shows party rest (slice_set rest i t) → (c m : ℕ) (b : Bool) → (b || list_any (has_end c m) rest) ≡ true → cond b 0 (suc (place_of c (slice_set rest i t) m)) ≡ cond b 0 (suc (place_of c rest m))
  place_by later c m true h = refl
  place_by later c m false h = ap suc (later.places c m h)

  end_by : Shows party rest (slice_set rest i t) → (c m : ℕ) (b : Bool) → (b || list_any (has_end c m) rest) ≡ true → (b || list_any (has_end c m) (slice_set rest i t)) ≡ true
  end_by later c m true h = refl
  end_by later c m false h = later.ends c m h

  third_by : Shows party rest (slice_set rest i t) → (c m : ℕ) (o : Option End) → IsElsewhere party (found_in c m rest known.name o) → IsElsewhere party (found_in c m (slice_set rest i t) known.name o)
  third_by later c m None h = later.third c m h
  third_by later c m (Some e) h = h

  socks_by : Shows party rest (slice_set rest i t) → (hosts : ℕ → HostState) (j : ℕ) → sock_seen party hosts (slice_get (known ∷ slice_set rest i t) j) ≡ sock_seen party hosts (slice_get (known ∷ rest) j)
  socks_by later hosts zero = refl
  socks_by later hosts (suc j) = later.socks hosts j

  shows_rest : Shows party rest (slice_set rest i t) → Shows party (known ∷ rest) (known ∷ slice_set rest i t)
  shows_rest later = record {
    socks = socks_by later;
    places = λ c m h. place_by later c m (has_end c m known) h;
    ends = λ c m h. end_by later c m (has_end c m known) h;
    third = λ c m h. third_by later c m (end_at c m known) h;
  }

-- A world beside another: with the same hosts, and the same sockets between the two.
pub record IsBeside (party : Side → Party) (before now : World) : Type 0 where
  pub hosts : hosts_of now ≡ hosts_of before
  pub shows : Shows party before.sockets now.sockets
  pub same : (j : ℕ) (u : WorldSocket) → slice_get now.sockets j ≡ Some u → is_between (party Lesser).name (party Greater).name u.name ≡ true → slice_get before.sockets j ≡ Some u

-- a world is beside itself
pub beside_self : (party : Side → Party) (world : World) → IsBeside party world world
beside_self party world = record { hosts = refl; shows = shows_self party world.sockets; same = λ j u got between. got }

-- it is so where one socket of others is changed
pub beside_set : (party : Side → Party) (before now : World) (i : ℕ) (s t : WorldSocket) → hosts_of now ≡ hosts_of before → now.sockets ≡ slice_set before.sockets i t → slice_get before.sockets i ≡ Some s → t.name ≡ s.name → IsOthers party s.name → KeepsEnds before.sockets s t → IsBeside party before now
beside_set party before now i s t hosts sockets at same off keeps = record {
  hosts = hosts;
  shows = subst (Shows party before.sockets) (sym sockets) (shows_set party before.sockets i s t at same off keeps);
  same = λ j u got between. by_test (nat_eq j i)
      (λ h. clash (sym between ∙ ap (λ (w : WorldSocket). is_between (party Lesser).name (party Greater).name w.name) (here j u h (ap (λ (l : List WorldSocket). slice_get l j) (sym sockets) ∙ got)) ∙ ap (is_between (party Lesser).name (party Greater).name) same ∙ off))
      (λ h. sym (set_other before.sockets i t j (other_place i j h)) ∙ ap (λ (l : List WorldSocket). slice_get l j) (sym sockets) ∙ got);
} where
  here : (j : ℕ) (u : WorldSocket) → nat_eq j i ≡ true → slice_get (slice_set before.sockets i t) j ≡ Some u → u ≡ t
  here j u h got = given u t (sym got ∙ ap (slice_get (slice_set before.sockets i t)) (sym (same_place i j h)) ∙ set_here before.sockets i t (slice_get_within before.sockets i s at))

module _ (party : Side → Party) (before now : World) (facts : SceneFacts party before) (beside : IsBeside party before now) (place : ℕ) (cell : Cell × ℕ) (at : slice_get now.cells place ≡ Some cell) where
  -- what is seen is the same
  beside_view : view (scene_of party now) ≡ view (scene_of party before)
  beside_view = ap (λ (hosts : ℕ → HostState). seen party hosts now.sockets true) (beside.hosts ∙ sym (placed_same place (hosts_of before)))
      ∙ all_unseen (scene_of party before) place cell (hosts_of before place) (record { link = λ z q. refl; ends = λ z q. refl; records = λ j u got own e m q. refl }) now.sockets beside.shows facts.known

  known_now : AreKnown (scene_of party now)
  known_now z m named = beside.shows.ends (party z).place m (facts.known z m (ap (λ (hosts : ℕ → HostState). names (link_with (hosts (party z).place) (party z).address.id (party (other z)).address).state m) (sym beside.hosts) ∙ named))

  -- what the host of a cell does is at sockets of others
  pub beside_moved : (steps : List Step) (host : HostState) → AreFree (scene_of party now) place steps → KeepsPair (scene_of party now) place host → IsMoved party before (done_at place cell steps host now).1
  beside_moved steps host free keeps = record {
    moves = [];
    allowed = tt;
    seen = same_view (scene_of party now) place cell steps host at known_now
        (free_steps (scene_of party now) place (record (cell.0) { host = host }) steps (with_cell place (record (cell.0) { host = host }, cell.1) now) free (λ m f. free_found party place m now.sockets f)) keeps
        ∙ beside_view;
  }

  -- whatever it does
  pub stays_moved : (done : Stepped) (d : List Step × HostState) → Stays (scene_of party now) place done → done ≡ Ok d → IsMoved party before (done_at place cell d.0 d.1 now).1
  stays_moved done d stays so = let both = subst (λ (r : Stepped). Stays (scene_of party now) place r) so stays in beside_moved d.0 d.1 both.0 both.1

-- a host keeps what it has
pub keeps_own : (party : Side → Party) (world : World) (place : ℕ) (cell : Cell × ℕ) → slice_get world.cells place ≡ Some cell → KeepsPair (scene_of party world) place cell.0.host
keeps_own party world place cell at = subst (λ (host : HostState). KeepsPair (scene_of party world) place host) (ap host_in at) (record { link = λ z q. refl; ends = λ z q. refl; records = λ j u got own e m q. refl })
