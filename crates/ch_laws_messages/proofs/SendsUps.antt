-- A node's link with another is up where the log says so.
use Rattle.std.proofs.Common.{◌≡◌, ℕ, suc, Bool, true, false, cond, ◌&&◌, ◌||◌, List, [], ◌∷◌, length, refl, sym, ap, ◌∙◌, subst, arith}
use Rattle.std.proofs.lemmas.Bool.{and_parts}
use Rattle.std.proofs.lemmas.Bool.Decides.{nat_tests}
use Rattle.std.proofs.lemmas.Slice.Eq.{bytes_eq-Decides}
use Rattle.std.specs.List.{list_all, filter_map, cons_option}
use Rattle.std.specs.Prelude.{find, nat_le, nat_eq, slice_get, Option, Some, None}
use Rattle.std.specs.Str.{bytes_eq}
use Rattle.ch_link.specs.declared.LinkState.{LinkState}
use Rattle.ch_link.specs.declared.LinkState.TheVariants.{Idle, Dialing, AwaitOther, Up}
use Rattle.ch_model.specs.declared.entry.Entry.{Entry}
use Rattle.ch_model.specs.declared.entry.Entry.TheVariants as entries
use Rattle.ch_model.specs.declared.line.Line.{Line}
use Rattle.ch_model.specs.declared.name.End.{End}
use Rattle.ch_model.specs.declared.name.End.TheVariants.{O, T}
use Rattle.ch_model.specs.declared.name.SockName.{SockName}
use Rattle.ch_model.specs.HostState.{HostState}
use Rattle.ch_model.specs.HostSteps.{is_socket, link_with}
use Rattle.ch_model.specs.HostWrites.{is_up}
use Rattle.ch_model.specs.Links.{rises, goes_down, has_risen, is_closed, risen_with, is_up_with}
use Rattle.ch_model.specs.Same.{same_socket, same_end, is_between, owner, across, is_end_of}
use Rattle.ch_model.specs.WorldSockets.{is_socket_named}
use Rattle.ch_model.specs.WorldState.{Cell, WorldSocket, World}
use Rattle.ch_laws_log.proofs.Stored.{same_is, self_same}
use Rattle.ch_laws_links.specs.Risings.{IsToldAs}
use Rattle.ch_laws_links.specs.Standing.{Standing as Stance, IsRisen, standing_at}
use Rattle.ch_laws_links.proofs.Journals.{now_of, now_at}
use Rattle.ch_laws_links.proofs.Says.{risen, up_stands}
use Rattle.ch_laws_ends.proofs.Apart.{found_there}
use Rattle.ch_race.specs.Naming as naming
use Rattle.ch_race.specs.Naming.{role}
use Rattle.ch_race.specs.Pair.{Side, Lesser, Greater, other}
use Rattle.ch_laws_race.specs.Scene.{Party, host_in, host_of, link_of}
use Rattle.ch_laws_race.specs.Sound.{HasEnd, opener_by}
use Rattle.ch_laws_race.specs.View.{opener_of, with_places, view}
use Rattle.ch_laws_calls.specs.Scenes.{IsPairOf, SceneFacts, scene_of}
use Rattle.ch_laws_live.specs.Lives.{Given, is_unended}
use Rattle.ch_laws_live.proofs.Logs.{clash, up_unclosed}
use Rattle.ch_laws_live.proofs.Seen.{side_twice, at_names, up_o, up_t, opener_is, so}
use Rattle.ch_laws_live.proofs.Tests.{IsUp}
use Rattle.ch_laws_plain_logs.specs.Plain.{is_plain, IsPlain}
use Rattle.ch_laws_plain_logs.proofs.None.{none_any}
use Rattle.ch_laws_plain_logs.proofs.Absent.{no_downs}
use Rattle.ch_laws_plain_logs.proofs.Simply.{up_since_risen}
use Rattle.ch_laws_peers.specs.Standing.{IsOfNodes, Standing}

-- ---- what a log tells of ends that came up

-- an end of x towards y came up
record HasRisen (x y : List ℕ) (log : List Entry) : Type 0 where
  s : SockName
  e : End
  rose : has_risen log s e ≡ true
  of : is_end_of x y s e ≡ true

one_more : (n : ℕ) → nat_le 1 (suc n) ≡ true
one_more n = grind (arith, nat_tests)

one_there : {A : Type 0} (o : Option A) (rest : List A) → nat_le 1 (length rest) ≡ true → nat_le 1 (length (cons_option o rest)) ≡ true
one_there None rest h = h
one_there (Some a) rest h = one_more (length rest)

or_right : (a b : Bool) → b ≡ true → (a || b) ≡ true
or_right true b h = refl
or_right false b h = h

same_end_is : (e f : End) → same_end e f ≡ true → e ≡ f
same_end_is O O h = refl
same_end_is T T h = refl
same_end_is O T h = absurd cc
same_end_is T O h = absurd cc

end_self : (e : End) → same_end e e ≡ true
end_self O = refl
end_self T = refl

risen_there : (x y : List ℕ) (s : SockName) (e : End) → is_end_of x y s e ≡ true → (log : List Entry) → has_risen log s e ≡ true → nat_le 1 (length (filter_map (risen_with x y) log)) ≡ true
risen_there x y s e of [] h = absurd cc
risen_there x y s e of (entries.Up sock end ∷ log) h = by_test (same_socket sock s && same_end end e) refl h (risen_there x y s e of log) where
  by_test : (b : Bool) → (same_socket sock s && same_end end e) ≡ b → (b || has_risen log s e) ≡ true → (has_risen log s e ≡ true → nat_le 1 (length (filter_map (risen_with x y) log)) ≡ true) → nat_le 1 (length (cons_option (risen_with x y (entries.Up sock end)) (filter_map (risen_with x y) log))) ≡ true
  by_test true is h more = let parts = and_parts (same_socket sock s) (same_end end e) is in
      ap (λ (b : Bool). nat_le 1 (length (cons_option (cond b (Some sock) None) (filter_map (risen_with x y) log)))) (ap (λ (t : SockName). is_end_of x y t end) (same_is sock s parts.0) ∙ ap (is_end_of x y s) (same_end_is end e parts.1) ∙ of) ∙ one_more (length (filter_map (risen_with x y) log))
  by_test false is h more = one_there (risen_with x y (entries.Up sock end)) (filter_map (risen_with x y) log) (more h)
risen_there x y s e of (entry ∷ log) h = risen_there x y s e of log h

risen_more : (x y : List ℕ) (entry : Entry) (log : List Entry) → HasRisen x y log → HasRisen x y (entry ∷ log)
risen_more x y entry log r = record { s = r.s; e = r.e; rose = or_right (rises r.s r.e entry) (has_risen log r.s r.e) r.rose; of = r.of }

there_risen : (x y : List ℕ) (log : List Entry) → nat_le 1 (length (filter_map (risen_with x y) log)) ≡ true → HasRisen x y log
there_risen x y [] h = absurd cc
there_risen x y (entries.Up sock end ∷ log) h = by_test (is_end_of x y sock end) refl h (there_risen x y log) where
  by_test : (b : Bool) → is_end_of x y sock end ≡ b → nat_le 1 (length (cons_option (cond b (Some sock) None) (filter_map (risen_with x y) log))) ≡ true → (nat_le 1 (length (filter_map (risen_with x y) log)) ≡ true → HasRisen x y log) → HasRisen x y (entries.Up sock end ∷ log)
  by_test true is h more = record { s = sock; e = end; rose = ap (λ (b : Bool). b && same_end end end || has_risen log sock end) (self_same sock) ∙ ap (λ (b : Bool). b || has_risen log sock end) (end_self end); of = is }
  by_test false is h more = risen_more x y (entries.Up sock end) log (more h)
there_risen x y (entry ∷ log) h = risen_more x y entry log (there_risen x y log h)

all_unended : (log : List Entry) → IsPlain log → list_all is_unended log ≡ true
all_unended [] p = refl
all_unended (entry ∷ log) p = let parts = and_parts (is_plain entry) (list_all is_plain log) p in
    ap (λ (b : Bool). b && list_all is_unended log) (unended entry parts.0) ∙ all_unended log parts.1
  where
    unended : (x : Entry) → is_plain x ≡ true → is_unended x ≡ true
    unended (entries.Refused sock) h = absurd cc
    unended (entries.Quitted sock) h = absurd cc
    unended x h = refl

-- ---- what is seen of links

role_up : (k : LinkState) (i : ℕ) → role k i ≡ naming.IsUp → is_up k ≡ true
role_up Idle i e = absurd cc
role_up AwaitOther i e = absurd cc
role_up (Up u probed) i e = refl
role_up (Dialing d) i e = by_test (nat_eq i d) e where
  by_test : (b : Bool) → cond b naming.Asks naming.Not ≡ naming.IsUp → false ≡ true
  by_test true e = absurd cc
  by_test false e = absurd cc

placed_up : (f : ℕ → ℕ) (k : LinkState) → is_up (with_places f k) ≡ is_up k
placed_up f Idle = refl
placed_up f AwaitOther = refl
placed_up f (Up u probed) = refl
placed_up f (Dialing d) = refl

-- ---- names of ends

-- an end of this side, of a socket between the two
end_named : (party : Side → Party) → bytes_eq (party Greater).name (party Lesser).name ≡ false → (x : Side) (e : End) (socket : WorldSocket) → is_between (party Lesser).name (party Greater).name socket.name ≡ true → opener_of party socket ≡ opener_by e x
    → is_end_of (party x).name (party (other x)).name socket.name e ≡ true
end_named party differ x e socket between opener = by_tests (bytes_eq socket.name.from (party Lesser).name) refl (bytes_eq socket.name.to (party Greater).name) refl (bytes_eq socket.name.from (party Greater).name) refl (bytes_eq socket.name.to (party Lesser).name) refl between opener where
  both : (a b : Bool) → a ≡ true → b ≡ true → (a && b) ≡ true
  both true b h g = g
  both false b h g = absurd cc

  is_side : (x y : Side) (e : End) → x ≡ y → bytes_eq (owner socket.name e) (party y).name ≡ true → bytes_eq (owner socket.name (across e)) (party (other y)).name ≡ true → is_end_of (party x).name (party (other x)).name socket.name e ≡ true
  is_side x y e same a b = subst (λ (z : Side). is_end_of (party z).name (party (other z)).name socket.name e ≡ true) (sym same) (both (bytes_eq (owner socket.name e) (party y).name) (bytes_eq (owner socket.name (across e)) (party (other y)).name) a b)

  by_lesser : (e : End) (x : Side) → bytes_eq socket.name.from (party Lesser).name ≡ true → bytes_eq socket.name.to (party Greater).name ≡ true → Lesser ≡ opener_by e x → is_end_of (party x).name (party (other x)).name socket.name e ≡ true
  by_lesser O x from to is = is_side x Lesser O (sym is) from to
  by_lesser T Greater from to is = is_side Greater Greater T refl to from
  by_lesser T Lesser from to is = absurd cc

  by_greater : (e : End) (x : Side) → bytes_eq socket.name.from (party Greater).name ≡ true → bytes_eq socket.name.to (party Lesser).name ≡ true → Greater ≡ opener_by e x → is_end_of (party x).name (party (other x)).name socket.name e ≡ true
  by_greater O x from to is = is_side x Greater O (sym is) from to
  by_greater T Lesser from to is = is_side Lesser Lesser T refl to from
  by_greater T Greater from to is = absurd cc

  -- the opener can't be both
  not_both : bytes_eq socket.name.from (party Lesser).name ≡ true → bytes_eq socket.name.from (party Greater).name ≡ true → ⊥
  not_both a b = clash (bytes_eq (party Greater).name (party Lesser).name) ((bytes_eq-Decides (party Greater).name (party Lesser).name).1 (sym ((bytes_eq-Decides socket.name.from (party Greater).name).0 b) ∙ (bytes_eq-Decides socket.name.from (party Lesser).name).0 a)) differ

  by_tests : (a : Bool) → bytes_eq socket.name.from (party Lesser).name ≡ a → (b : Bool) → bytes_eq socket.name.to (party Greater).name ≡ b → (c : Bool) → bytes_eq socket.name.from (party Greater).name ≡ c → (d : Bool) → bytes_eq socket.name.to (party Lesser).name ≡ d
      → (a && b || c && d) ≡ true → cond a Lesser Greater ≡ opener_by e x → is_end_of (party x).name (party (other x)).name socket.name e ≡ true
  by_tests true a true b c h d g between opener = by_lesser e x a b opener
  by_tests true a false b true h d g between opener = absurd (not_both a h)
  by_tests true a false b false h d g between opener = absurd cc
  by_tests false a b bs true h true g between opener = by_greater e x h g opener
  by_tests false a b bs true h false g between opener = absurd cc
  by_tests false a b bs false h d g between opener = absurd cc

-- ---- both ways

both_ways : (a b : Bool) → (a ≡ true → b ≡ true) → (b ≡ true → a ≡ true) → a ≡ b
both_ways true b f g = sym (f refl)
both_ways false true f g = g refl
both_ways false false f g = refl

module _ (journal : List Line) (nodes : IsOfNodes journal) (log : List Entry) (world : World) (stands : Standing journal log world) where
  g : Given journal log world
  g = record { sound = stands.all.sound; shown = stands.each_pair.shown; raced = stands.raced; peers = stands.peers; unknocked = stands.all.unknocked }

  unended : list_all is_unended log ≡ true
  unended = all_unended log stands.kinds

  socket_of : (s : SockName) (e : End) → has_risen log s e ≡ true → (socket : WorldSocket) × (find (is_socket_named s) world.sockets ≡ Some socket)
  socket_of s e r = by_found (find (is_socket_named s) world.sockets) refl where
    by_found : (o : Option WorldSocket) → find (is_socket_named s) world.sockets ≡ o → (socket : WorldSocket) × (find (is_socket_named s) world.sockets ≡ Some socket)
    by_found None n = absurd (clash (has_risen log s e) r (stands.all.sound.links.tells.unopened s e n).0)
    by_found (Some socket) is = (socket, is)

  module _ (party : Side → Party) (pair : IsPairOf journal party) (x : Side) where
    shown : SceneFacts party world
    shown = stands.each_pair.shown party pair

    told_up : HasRisen (party x).name (party (other x)).name log → is_up (link_of (scene_of party world) x).state ≡ true
    told_up r = by_end r.s r.e r.rose (and_parts (bytes_eq (owner r.s r.e) (party x).name) (bytes_eq (owner r.s (across r.e)) (party (other x)).name) r.of) where
      seen_up : (z : Side) (i : ℕ) → z ≡ x → role ((view (scene_of party world)).link z) i ≡ naming.IsUp → is_up (link_of (scene_of party world) x).state ≡ true
      seen_up z i is up = sym (placed_up _ (link_of (scene_of party world) x).state) ∙ role_up ((view (scene_of party world)).link x) i (ap (λ (y : Side). role ((view (scene_of party world)).link y) i) (sym is) ∙ up)

      is_up_there : (s : SockName) (e : End) → has_risen log s e ≡ true → IsUp log s e
      is_up_there s e rose = record { risen = rose; still = none_any (goes_down s e) (no_downs s e) log stands.kinds }

      unclosed : (s : SockName) (e : End) (up : IsUp log s e) → is_closed log s e ≡ false
      unclosed s e up = up_unclosed log stands.all.sound.links.tells.well s e up.risen up.still

      by_end : (s : SockName) (e : End) → has_risen log s e ≡ true → (bytes_eq (owner s e) (party x).name ≡ true) × (bytes_eq (owner s (across e)) (party (other x)).name ≡ true) → is_up (link_of (scene_of party world) x).state ≡ true
      by_end s O rose own =
          let found = socket_of s O rose in
          let a = at_names journal nodes.is log world g unended party pair x s found.0 found.1 ((bytes_eq-Decides s.from (party x).name).0 own.0) ((bytes_eq-Decides s.to (party (other x)).name).0 own.1) in
          let up = is_up_there s O rose in
          seen_up ((view (scene_of party world)).sock a.i).opener a.i (opener_is journal nodes.is log world g unended party pair x s a)
          (sym ((so journal nodes.is log world g unended party pair).named a.i).own ∙ ap naming.role_o (up_o journal nodes.is log world g unended party pair x s a up (unclosed s O up)))
      by_end s T rose own =
          let found = socket_of s T rose in
          let a = at_names journal nodes.is log world g unended party pair (other x) s found.0 found.1 ((bytes_eq-Decides s.from (party (other x)).name).0 own.1) ((bytes_eq-Decides s.to (party x).name).0 own.0 ∙ ap (λ (y : Side). (party y).name) (sym (side_twice T x))) in
          let up = is_up_there s T rose in
          seen_up (other ((view (scene_of party world)).sock a.i).opener) a.i (ap other (opener_is journal nodes.is log world g unended party pair (other x) s a) ∙ side_twice T x)
          (sym ((so journal nodes.is log world g unended party pair).named a.i).peer ∙ ap naming.role_t (up_t journal nodes.is log world g unended party pair (other x) s a up (unclosed s T up)))

    up_told : is_up (link_of (scene_of party world) x).state ≡ true → HasRisen (party x).name (party (other x)).name log
    up_told up = by_state (link_of (scene_of party world) x).state refl up where
      cell : (cell : Cell × ℕ) × (slice_get world.cells (party x).place ≡ Some cell)
      cell = shown.there x

      here : host_of (scene_of party world) x ≡ cell.0.0.host
      here = ap host_in cell.1

      told : (n : ℕ) (at : SockName × End) → standing_at cell.0.0.host n ≡ Some IsRisen → IsToldAs (now_of world.cells (party x).place n) (has_risen log at.0 at.1) (is_closed log at.0 at.1) → has_risen log at.0 at.1 ≡ true
      told n at stance t = by_told (now_of world.cells (party x).place n) (ap (λ (o : Option (Cell × ℕ)). now_at o n) cell.1 ∙ stance) t where
        by_told : (o : Option Stance) → o ≡ Some IsRisen → IsToldAs o (has_risen log at.0 at.1) (is_closed log at.0 at.1) → has_risen log at.0 at.1 ≡ true
        by_told o is t = (subst (λ (p : Option Stance). IsToldAs p (has_risen log at.0 at.1) (is_closed log at.0 at.1)) is t).0

      by_end : (n : ℕ) → standing_at cell.0.0.host n ≡ Some IsRisen → (i : ℕ) (socket : WorldSocket) (e : End) → HasEnd (scene_of party world) x e i n socket → HasRisen (party x).name (party (other x)).name log
      by_end n stance i socket e has =
          let is = found_there world.sockets i socket stands.all.sound.ends.sure.ends.sorted.0.apart has.at in
          record { s = socket.name; e = e; rose = told n (socket.name, e) stance (stands.all.sound.links.tells.held (party x).place n (socket.name, e) (stands.all.sound.ends.sure.ends.each socket.name socket e (party x).place n is has.end)); of = end_named party shown.names_differ x e socket has.between has.opener }

      by_state : (k : LinkState) → (link_of (scene_of party world) x).state ≡ k → is_up k ≡ true → HasRisen (party x).name (party (other x)).name log
      by_state (Up n probed) is up =
          let host = (stands.all.sound.links.naming (party x).place cell.0 cell.1).naming in
          let state = subst (λ (h : HostState). (link_with h (party x).address.id (party (other x)).address).state ≡ Up n probed) here is in
          let known = risen cell.0.0.host (party x).address.id (party (other x)).address n probed host state in
          let at = shown.between x n known.0 (subst (λ (h : HostState). find (is_socket n) h.sockets ≡ Some known.0) (sym here) known.1) known.2.user in
          by_end n (up_stands cell.0.0.host (party x).address.id (party (other x)).address n probed host state) at.0 at.1 at.2 at.3
      by_state Idle is up = absurd cc
      by_state AwaitOther is up = absurd cc
      by_state (Dialing d) is up = absurd cc

    -- the link is up where the log says that the node is
    pub up_as_told : is_up (link_of (scene_of party world) x).state ≡ is_up_with log (party x).name (party (other x)).name
    up_as_told = both_ways (is_up (link_of (scene_of party world) x).state) (is_up_with log (party x).name (party (other x)).name)
        (λ up. let r = up_told up in ap (λ (l : List SockName). nat_le 1 (length l)) (up_since_risen log (party x).name (party (other x)).name stands.kinds) ∙ risen_there (party x).name (party (other x)).name r.s r.e r.of log r.rose)
        (λ told. told_up (there_risen (party x).name (party (other x)).name log (ap (λ (l : List SockName). nat_le 1 (length l)) (sym (up_since_risen log (party x).name (party (other x)).name stands.kinds)) ∙ told)))
