-- What is so of the log at the end of a call, by the machine of the two nodes of each socket.
use Rattle.std.proofs.Common.{◌≡◌, ◌⊎◌, inl, inr, ℕ, Bool, true, false, ◌&&◌, List, refl, sym, ap, ◌∙◌, subst}
use Rattle.std.proofs.lemmas.Bool.{and_parts}
use Rattle.std.proofs.lemmas.Slice.Eq.{bytes_eq-Decides}
use Rattle.std.specs.List.{list_any, list_all}
use Rattle.std.specs.Prelude.{find, slice_get, Option, Some, None}
use Rattle.std.specs.Str.{bytes_eq}
use Rattle.ch_link.specs.Sockets.{names}
use Rattle.ch_model.specs.declared.entry.Entry.{Entry}
use Rattle.ch_model.specs.declared.line.Line.{Line}
use Rattle.ch_model.specs.declared.name.End.{End}
use Rattle.ch_model.specs.declared.name.End.TheVariants.{O, T}
use Rattle.ch_model.specs.declared.name.SockName.{SockName}
use Rattle.ch_model.specs.Declarations.{has_host}
use Rattle.ch_model.specs.Links.{has_risen, is_closed}
use Rattle.ch_model.specs.Same.{owner, across}
use Rattle.ch_model.specs.Sockets.{is_opening}
use Rattle.ch_model.specs.World.{names_of}
use Rattle.ch_model.specs.HostSteps.{is_socket}
use Rattle.ch_model.specs.WorldSockets.{end_of, is_end_of, is_socket_named, find_end}
use Rattle.ch_model.specs.WorldState.{Cell, WorldSocket, World}
use Rattle.ch_race.specs.Naming.{IsLive}
use Rattle.ch_race.specs.Pair.{Side, other}
use Rattle.ch_race.proofs.Names.{one_live, bundle}
use Rattle.ch_laws_log.proofs.Agreeing.{At}
use Rattle.ch_laws_log.proofs.Seen.{opened_is}
use Rattle.ch_laws_log.proofs.Stored.{find_name, found_end}
use Rattle.ch_laws_log.proofs.WorldEnds.{found_is}
use Rattle.ch_laws_log.proofs.Views.{Seen, seen_in}
use Rattle.ch_laws_many.proofs.Reached.{IsJournal}
use Rattle.ch_laws_bytes.specs.Streams.{AreAddresses}
use Rattle.ch_laws_race.specs.Scene.{Party, host_in, hosts_of}
use Rattle.ch_laws_race.specs.View.{view}
use Rattle.ch_laws_race.proofs.Readings.{other_twice}
use Rattle.ch_laws_race.proofs.Sockets.{given}
use Rattle.ch_laws_calls.specs.Scenes.{IsPairOf, scene_of}
use Rattle.ch_laws_calls.specs.ScenesPairs.{IsPairFor}
use Rattle.ch_laws_calls.proofs.ScenesHeld.{held_by}
use Rattle.ch_laws_calls.proofs.ScenesPeers.{ArePeers, opened_by_peers}
use Rattle.ch_laws_calls.proofs.ScenesSides.{pairs_of}
use Rattle.ch_laws_live.specs.Accepts.{IsAnswered}
use Rattle.ch_laws_live.specs.Lives.{Given, is_unended}
use Rattle.ch_laws_live.proofs.Logs.{clash, or_either, unclosed_stays, up_unclosed}
use Rattle.ch_laws_live.proofs.Seen.{names_one, side_of, side_twice, IsAt, opened_in, so, at_names, cell_is, target_expects, up_t, names_up, opener_stands, names_dial, target_behind}
use Rattle.ch_laws_live.proofs.Tests.{IsUp, IsLiveIn, IsOfBoth, AreOne, Facts}

-- a socket of the world on which the link of this node is up, or which it dials
record IsNamed (party : Side → Party) (world : World) (x : Side) (s : SockName) : Type 0 where
  i : ℕ
  socket : WorldSocket
  at : slice_get world.sockets i ≡ Some socket
  name : socket.name ≡ s
  named : names ((view (scene_of party world)).link x) i ≡ true

module _ (journal : List Line) (j : IsJournal journal) (addresses : AreAddresses (names_of journal)) (log : List Entry) (world : World) (g : Given journal log world) (unended : list_all is_unended log ≡ true) where
  -- ---- sockets of the world

  risen_in : (s : SockName) (e : End) → has_risen log s e ≡ true → (socket : WorldSocket) × (find (is_socket_named s) world.sockets ≡ Some socket)
  risen_in s e r = by_found (find (is_socket_named s) world.sockets) refl where
    by_found : (o : Option WorldSocket) → find (is_socket_named s) world.sockets ≡ o → (socket : WorldSocket) × (find (is_socket_named s) world.sockets ≡ Some socket)
    by_found None n = absurd (clash (has_risen log s e) r (g.sound.links.tells.unopened s e n).0)
    by_found (Some socket) is = (socket, is)

  dialed_in : (s : SockName) → list_any (is_opening s) log ≡ true → (socket : WorldSocket) × (find (is_socket_named s) world.sockets ≡ Some socket)
  dialed_in s o = by_found (find (is_socket_named s) world.sockets) refl where
    by_found : (w : Option WorldSocket) → find (is_socket_named s) world.sockets ≡ w → (socket : WorldSocket) × (find (is_socket_named s) world.sockets ≡ Some socket)
    by_found None n = absurd (clash (list_any (is_opening s) log) o (sym (opened_is log s) ∙ ap (λ (v : Seen). v.opened) (subst (At (has_host journal s.to) (seen_in log s)) n (g.sound.ends.sure.ends.sorted.0.agrees s))))
    by_found (Some socket) is = (socket, is)

  peers_of : (s : SockName) (socket : WorldSocket) → find (is_socket_named s) world.sockets ≡ Some socket → ArePeers (names_of journal) s
  peers_of s socket is = opened_by_peers (names_of journal) s log g.peers g.unknocked (opened_in journal j log world g unended s socket is)

  flipped : (a b : List ℕ) → bytes_eq a b ≡ false → bytes_eq b a ≡ false
  flipped a b e = by_test (bytes_eq b a) refl where
    by_test : (t : Bool) → bytes_eq b a ≡ t → t ≡ false
    by_test false h = refl
    by_test true h = absurd (clash (bytes_eq a b) ((bytes_eq-Decides a b).1 (sym ((bytes_eq-Decides b a).0 h))) e)

  -- the two nodes of a socket, the one of this end first
  pair_for : (s : SockName) (e : End) → ArePeers (names_of journal) s → IsPairFor journal (owner s e) (owner s (across e))
  pair_for s O p = pairs_of journal j addresses s.from s.to p.from p.to p.apart
  pair_for s T p = pairs_of journal j addresses s.to s.from p.to p.from (flipped s.from s.to p.apart)

  module _ (party : Side → Party) (pair : IsPairOf journal party) where
    at_owner : (x : Side) (s : SockName) (e : End) (socket : WorldSocket) → find (is_socket_named s) world.sockets ≡ Some socket → owner s e ≡ (party x).name → owner s (across e) ≡ (party (other x)).name → IsAt party world (side_of e x) s
    at_owner x s O socket is own across_is = at_names journal j log world g unended party pair x s socket is own across_is
    at_owner x s T socket is own across_is = at_names journal j log world g unended party pair (other x) s socket is across_is (own ∙ ap (λ (y : Side). (party y).name) (sym (other_twice x)))

    named_at : (x z : Side) (s : SockName) (a : IsAt party world z s) → names ((view (scene_of party world)).link x) a.i ≡ true → IsNamed party world x s
    named_at x z s a n = record { i = a.i; socket = a.socket; at = a.at; name = find_name s world.sockets a.socket a.is; named = n }

    up_named : (may : (t : SockName) (f : End) → IsUp log t f → is_closed log t f ≡ false) (x : Side) (s : SockName) (e : End) → owner s e ≡ (party x).name → owner s (across e) ≡ (party (other x)).name → IsUp log s e → IsNamed party world x s
    up_named may x s e own across_is up =
        let there = risen_in s e up.risen in
        let a = at_owner x s e there.0 there.1 own across_is in
        named_at x (side_of e x) s a (subst (λ (y : Side). names ((view (scene_of party world)).link y) a.i ≡ true) (side_twice e x) (names_up journal j log world g unended party pair (side_of e x) s a e up (may s e up)))

    one_socket : (s t : SockName) (i k : ℕ) (v w : WorldSocket) → i ≡ k → slice_get world.sockets i ≡ Some v → slice_get world.sockets k ≡ Some w → v.name ≡ s → w.name ≡ t → s ≡ t
    one_socket s t i k v w same at there name other_name = sym name ∙ ap (λ (u : WorldSocket). u.name) (given v w (sym at ∙ ap (slice_get world.sockets) same ∙ there)) ∙ other_name

    one_named : (x : Side) (s t : SockName) → IsNamed party world x s → IsNamed party world x t → s ≡ t
    one_named x s t a b = one_socket s t a.i b.i a.socket b.socket (names_one ((view (scene_of party world)).link x) a.i b.i a.named b.named) a.at b.at a.name b.name

    live_at : (may : (t : SockName) (f : End) → IsUp log t f → is_closed log t f ≡ false) (z : Side) (s : SockName) → s.from ≡ (party z).name → s.to ≡ (party (other z)).name → IsLiveIn log s → (a : IsAt party world z s) × IsLive ((view (scene_of party world)).sock a.i)
    live_at may z s from to live =
        let there = risen_in s T live.risen in
        let a = at_names journal j log world g unended party pair z s there.0 there.1 from to in
        (a, (up_t journal j log world g unended party pair z s a (record { risen = live.risen; still = unclosed_stays s T log live.target }) live.target, opener_stands journal j log world g unended party pair z s a live.opener))

  -- ---- what is so

  module _ (journal_may : (t : SockName) (f : End) → IsUp log t f → is_closed log t f ≡ false) where
    alone_so : (s t : SockName) (e f : End) → owner s e ≡ owner t f → owner s (across e) ≡ owner t (across f) → IsUp log s e → IsUp log t f → s ≡ t
    alone_so s t e f own across_is up also =
        let there = risen_in s e up.risen in
        let two = pair_for s e (peers_of s there.0 there.1) in
        one_named two.party two.pair two.side s t (up_named two.party two.pair journal_may two.side s e (sym two.first) (sym two.second) up) (up_named two.party two.pair journal_may two.side t f (sym own ∙ sym two.first) (sym across_is ∙ sym two.second) also)

    dials_so : (s t : SockName) (f : End) → list_any (is_opening s) log ≡ true → is_closed log s O ≡ false → owner t f ≡ s.from → owner t (across f) ≡ s.to → IsUp log t f → s ≡ t
    dials_so s t f opened unclosed own across_is up =
        let there = dialed_in s opened in
        let two = pair_for s O (peers_of s there.0 there.1) in
        let a = at_owner two.party two.pair two.side s O there.0 there.1 (sym two.first) (sym two.second) in
        one_named two.party two.pair two.side s t (named_at two.party two.pair two.side two.side s a (names_dial journal j log world g unended two.party two.pair two.side s a unclosed)) (up_named two.party two.pair journal_may two.side t f (own ∙ sym two.first) (across_is ∙ sym two.second) up)

    one_so : AreOne log
    one_so s t live also same =
        let there = risen_in s T live.risen in
        let two = pair_for s O (peers_of s there.0 there.1) in
        let a = live_at two.party two.pair journal_may two.side s (sym two.first) (sym two.second) live in
        by_way two a (or_either (bytes_eq t.from s.from && bytes_eq t.to s.to) (bytes_eq t.from s.to && bytes_eq t.to s.from) same) where
          by_live : (two : IsPairFor journal s.from s.to) → (a : IsAt two.party world two.side s) × IsLive ((view (scene_of two.party world)).sock a.i) → (z : Side) → (b : IsAt two.party world z t) × IsLive ((view (scene_of two.party world)).sock b.i) → s ≡ t
          by_live two a z b = one_socket two.party two.pair s t a.0.i b.0.i a.0.socket b.0.socket (one_live (view (scene_of two.party world)) (so journal j log world g unended two.party two.pair).named a.0.i b.0.i a.1 b.1) a.0.at b.0.at (find_name s world.sockets a.0.socket a.0.is) (find_name t world.sockets b.0.socket b.0.is)

          by_way : (two : IsPairFor journal s.from s.to) → (a : IsAt two.party world two.side s) × IsLive ((view (scene_of two.party world)).sock a.i) → ((bytes_eq t.from s.from && bytes_eq t.to s.to) ≡ true) ⊎ ((bytes_eq t.from s.to && bytes_eq t.to s.from) ≡ true) → s ≡ t
          by_way two a (inl h) = let parts = and_parts (bytes_eq t.from s.from) (bytes_eq t.to s.to) h in
              by_live two a two.side (live_at two.party two.pair journal_may two.side t ((bytes_eq-Decides t.from s.from).0 parts.0 ∙ sym two.first) ((bytes_eq-Decides t.to s.to).0 parts.1 ∙ sym two.second) also)
          by_way two a (inr h) = let parts = and_parts (bytes_eq t.from s.to) (bytes_eq t.to s.from) h in
              by_live two a (other two.side) (live_at two.party two.pair journal_may (other two.side) t ((bytes_eq-Decides t.from s.to).0 parts.0 ∙ sym two.second)
              ((bytes_eq-Decides t.to s.from).0 parts.1 ∙ sym two.first ∙ ap (λ (y : Side). (two.party y).name) (sym (other_twice two.side))) also)

    beside_so : (s t : SockName) (f : End) → IsLiveIn log s → IsUp log t f → IsOfBoth s t f → s ≡ t
    beside_so s t f live up both =
        let there = risen_in s T live.risen in
        let two = pair_for s O (peers_of s there.0 there.1) in
        by_way two (live_at two.party two.pair journal_may two.side s (sym two.first) (sym two.second) live) both where
          by_named : (two : IsPairFor journal s.from s.to) → (a : IsAt two.party world two.side s) × IsLive ((view (scene_of two.party world)).sock a.i) → (x : Side) → IsNamed two.party world x t → s ≡ t
          by_named two a x b = one_socket two.party two.pair s t a.0.i b.i a.0.socket b.socket (sym (bundle (view (scene_of two.party world)) (so journal j log world g unended two.party two.pair).named a.0.i a.1 x b.i b.named)) a.0.at b.at (find_name s world.sockets a.0.socket a.0.is) b.name

          by_way : (two : IsPairFor journal s.from s.to) → (a : IsAt two.party world two.side s) × IsLive ((view (scene_of two.party world)).sock a.i) → IsOfBoth s t f → s ≡ t
          by_way two a (inl own) = by_named two a two.side (up_named two.party two.pair journal_may two.side t f (own.0 ∙ sym two.first) (own.1 ∙ sym two.second) up)
          by_way two a (inr own) = by_named two a (other two.side) (up_named two.party two.pair journal_may (other two.side) t f (own.0 ∙ sym two.second) (own.1 ∙ sym two.first ∙ ap (λ (y : Side). (two.party y).name) (sym (other_twice two.side))) up)

    behind_so : (s : SockName) → IsUp log s O → (has_risen log s T ≡ true) ⊎ (is_closed log s T ≡ true)
    behind_so s up = by_test (is_closed log s T) refl where
      rose : is_closed log s T ≡ false → has_risen log s T ≡ true
      rose stays =
          let there = risen_in s O up.risen in
          let peers = peers_of s there.0 there.1 in
          let two = pair_for s O peers in
          let a = at_owner two.party two.pair two.side s O there.0 there.1 (sym two.first) (sym two.second) in
          target_behind journal j log world g unended two.party two.pair two.side s a peers.to up (journal_may s O up) stays

      by_test : (b : Bool) → is_closed log s T ≡ b → (has_risen log s T ≡ true) ⊎ (is_closed log s T ≡ true)
      by_test true c = inr c
      by_test false c = inl (rose c)

  -- no host expects an answer at a target's end
  pub no_target : (place : ℕ) (cell : Cell × ℕ) → slice_get world.cells place ≡ Some cell → (n : ℕ) (at : SockName × End) → IsAnswered cell.0.host n → find_end place n world.sockets ≡ Some at → at.1 ≡ T → ⊥
  no_target place cell there n at answered found target = by_end at found target where
    by_end : (at : SockName × End) → find_end place n world.sockets ≡ Some at → at.1 ≡ T → ⊥
    by_end at found target =
        let held = found_end place n world.sockets at found in
        let peers = peers_of at.0 held.socket held.is in
        let two = pair_for at.0 O peers in
        let a = at_owner two.party two.pair two.side at.0 O held.socket held.is (sym two.first) (sym two.second) in
        let of : is_end_of place n (end_of T a.socket) ≡ true = subst (λ (e : End). is_end_of place n (end_of e a.socket) ≡ true) target (found_is place n world.sockets at a.socket g.sound.ends.sure.ends.sorted.0.apart found a.is) in
        let mine = held_by place n a.socket.t of in
        let its_place : place ≡ (two.party (other two.side)).place = given place (two.party (other two.side)).place (sym mine.0 ∙ cell_is journal j log world g unended two.party two.pair two.side at.0 a T) in
        target_expects journal j log world g unended two.party two.pair two.side at.0 a n mine.1 answered.0
        (subst (λ (p : ℕ). find (is_socket n) (hosts_of world p).sockets ≡ Some answered.0) its_place (ap (λ (o : Option (Cell × ℕ)). find (is_socket n) (host_in o).sockets) there ∙ answered.1)) answered.2 answered.3

  pub facts_hold : Facts log
  facts_hold = record {
    may = g.sound.links.tells.well;
    apart = λ s e r. let there = risen_in s e r in (peers_of s there.0 there.1).apart;
    alone = alone_so unclosed;
    dials = dials_so unclosed;
    one = one_so unclosed;
    beside = beside_so unclosed;
    behind = behind_so unclosed;
  } where
    unclosed : (t : SockName) (f : End) → IsUp log t f → is_closed log t f ≡ false
    unclosed t f up = up_unclosed log g.sound.links.tells.well t f up.risen up.still
