-- Bytes that are fed, as no move: an item is what it was, until it is read.
use Rattle.std.specs.Prelude.{◌≡◌, ℕ, List, [], ◌++◌, take, drop, slice_set, Option, Some, None, Ok, if◌then◌else◌}
use Rattle.std.proofs.Common.{refl, ap, sym, ◌∙◌, append_assoc}
use Rattle.std.proofs.lemmas.List.{take-append-drop}
use Rattle.ch_base.specs.declared.address.Address.{Address}
use Rattle.ch_model.specs.declared.name.End.{End}
use Rattle.ch_model.specs.declared.name.End.TheVariants.{O, T}
use Rattle.ch_model.specs.Stages.{Stage, is_open}
use Rattle.ch_model.specs.HostState.{Link, Socket, HostState}
use Rattle.ch_model.specs.HostSteps.{Stepped, still, with_socket}
use Rattle.ch_model.specs.Host.{keeps, host_on}
use Rattle.ch_model.specs.WorldState.{Cell, WorldSocket, World}
use Rattle.ch_model.specs.WorldSockets as world
use Rattle.ch_model.specs.WorldSockets.{end_of, with_end}
use Rattle.ch_race.specs.Pair.{Side, other, Sock, Pair, put, point}
use Rattle.ch_laws_race.specs.Scene.{Scene, hosts_of, host_of, link_of, done_by}
use Rattle.ch_laws_race.specs.View.{Reader, reader_of, reader_at, whole_items, seen, view}
use Rattle.ch_laws_race.specs.Sound.{first_of}
use Rattle.ch_laws_race.specs.Arrivals.{IsSeenFrom, Feeds, fed_in, hears_fed}
use Rattle.ch_laws_race.proofs.Keys.{socket_kept}
use Rattle.ch_laws_race.proofs.Sockets.{Alike, alike_self, alike_with, end_changed}
use Rattle.ch_laws_race.proofs.Views.{hosts_set, own_reader, kept_all, kept_socket}
use Rattle.ch_laws_race.proofs.Pairs.{put_same, point_same}
use Rattle.ch_laws_race.proofs.Socks.{sock_by}
use Rattle.ch_laws_race.proofs.One.{by_end, sock_is}
use Rattle.ch_laws_race.proofs.Two.{stage}

module _ (scene : Scene) (x : Side) (cell : Cell × ℕ) (e : End) (i count : ℕ) (s : WorldSocket) (known : Socket) (h : Feeds scene x cell e i s known) where
  abbrev V : Pair
  V = view scene

  abbrev Own : HostState
  Own = host_of scene x

  abbrev H : ℕ → HostState
  H = hosts_of scene.world

  abbrev P : ℕ
  P = (scene.party x).place

  abbrev Number : ℕ
  Number = (scene.party x).address.id

  abbrev Peer : Address
  Peer = (scene.party (other x)).address

  abbrev L : Link
  L = link_of scene x

  abbrev xs : List WorldSocket
  xs = scene.world.sockets

  abbrev Bytes : List ℕ
  Bytes = take count (end_of e s).unread

  abbrev Fed : Socket
  Fed = record known { since = known.since ++ Bytes }

  abbrev After : HostState
  After = with_socket Fed Own

  abbrev Left : WorldSocket
  Left = with_end e (record (end_of e s) { unread = drop count (end_of e s).unread }) s

  abbrev Theirs : Reader
  Theirs = reader_at H (first_of (world.other e)) (end_of (world.other e) s)

  did : hears_fed scene x e count s known ≡ Ok ([], After)
  unfolding host_on
  did = ap (λ (o : Option Socket). elim o as (λ o. Stepped) [ None ↦ still Own | Some socket ↦ (if is_open socket.stage then keeps Bytes socket Own else still Own) ]) h.kept
      ∙ ap (λ (z : Stage). if is_open z then keeps Bytes known Own else still Own) h.stands

  left_alike : Alike s Left
  left_alike = alike_with e s s (record (end_of e s) { unread = drop count (end_of e s).unread }) (alike_self s) refl refl

  same_bytes : (known.since ++ Bytes) ++ drop count (end_of e s).unread ≡ known.since ++ (end_of e s).unread
  same_bytes = append_assoc known.since Bytes (drop count (end_of e s).unread) ∙ ap (λ (z : List ℕ). known.since ++ z) (take-append-drop count (end_of e s).unread)

  same_items : (f : End) → (known.since ++ Bytes) ++ drop count (end_of f s).unread ≡ known.since ++ (end_of f s).unread
      → sock_by scene.party f (known.expected, known.since ++ Bytes) Theirs (with_end f (record (end_of f s) { unread = drop count (end_of f s).unread }) s) ≡ sock_by scene.party f (known.expected, known.since) Theirs s
  same_items O same = ap (λ (z : List ℕ). record (sock_by scene.party O (known.expected, known.since) Theirs s) { in_o = whole_items known.expected z }) same
  same_items T same = ap (λ (z : List ℕ). record (sock_by scene.party T (known.expected, known.since) Theirs s) { in_t = whole_items known.expected z }) same

  here : sock_by scene.party e (known.expected, known.since) Theirs s ≡ V.sock i
  here = ap (λ (r : Reader). sock_by scene.party e r Theirs s) (sym (own_reader H P known.number (first_of e) (end_of e s) h.has.end ∙ ap (reader_of (first_of e)) h.kept))
      ∙ sym (by_end e scene.party H s) ∙ sym (sock_is scene x cell e i known.number s h.acts h.has)

  pub fed_it : IsSeenFrom scene x cell (fed_in scene e count s) (hears_fed scene x e count s known) []
  fed_it = record {
    steps = [];
    host = After;
    does = did;
    allowed = tt;
    seen = ap (λ (w : World). view (record scene { world = done_by P cell [] After w })) (end_changed scene.world i s e (λ end. record end { unread = drop count end.unread }) h.acts.apart h.has.at)
        ∙ ap (λ (f : ℕ → HostState). seen scene.party f (slice_set xs i Left) scene.quiet) (hosts_set scene.world P cell (record (cell.0) { host = After }) cell.1 h.acts.there)
        ∙ stage scene.party x H Own After xs scene.quiet i known.number e s Left L.state Fed h.acts.differ h.acts.apart h.has.at h.has.end h.has.between left_alike refl
        (kept_socket Fed Number Peer Own Own L.state (kept_all known.number Number Peer Own)) (socket_kept Fed Own.sockets)
        ∙ ap (λ (z : Sock). point x (V.link x) (put i z V)) (same_items e same_bytes ∙ here)
        ∙ point_same x (V.link x) (put i (V.sock i) V) refl ∙ put_same i V;
  }
