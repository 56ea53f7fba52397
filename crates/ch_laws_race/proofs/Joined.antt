-- A socket that is joined, as a move.
use Rattle.std.specs.Prelude.{◌≡◌, ℕ, List, [], ◌∷◌, slice_set, Option, Some, None, Ok, if◌then◌else◌}
use Rattle.std.proofs.Common.{refl, ap, sym, ◌∙◌}
use Rattle.ch_base.specs.declared.address.Address.{Address}
use Rattle.ch_wire.specs.Spelling.{request_spelling}
use Rattle.ch_wire.specs.declared.request.Request.{Request}
use Rattle.ch_reader.specs.declared.item.Expected.{Expected}
use Rattle.ch_reader.specs.declared.item.Expected.TheVariants as expected
use Rattle.ch_reader.specs.declared.item.Item.TheVariants as items
use Rattle.ch_model.specs.declared.name.End.TheVariants.{O, T}
use Rattle.ch_model.specs.declared.step.Step.TheVariants as steps
use Rattle.ch_model.specs.Stages.{Stage, Open, is_pending}
use Rattle.ch_model.specs.HostState.{Link, Socket, HostState}
use Rattle.ch_model.specs.HostSteps.{Stepped, still, own_address, with_socket}
use Rattle.ch_model.specs.HostWrites.{writes}
use Rattle.ch_model.specs.Host.{joins, host_on}
use Rattle.ch_model.specs.WorldState.{Cell, WorldSocket, World}
use Rattle.ch_model.specs.WorldSockets as world
use Rattle.ch_model.specs.WorldSockets.{end_of, with_end, opened}
use Rattle.ch_race.specs.Pair as pair
use Rattle.ch_race.specs.Pair.{Side, other, Sock, Pair, put, point, says}
use Rattle.ch_race.specs.Moves.{Join}
use Rattle.ch_laws_race.specs.Scene.{Scene, hosts_of, host_of, link_of, done_by}
use Rattle.ch_laws_race.specs.View.{Reader, reader_of, reader_at, opener_end, seen, view}
use Rattle.ch_laws_race.specs.Arrivals.{IsSeenFrom, request_from, Joins, joined_in, hears_joined}
use Rattle.ch_laws_race.proofs.Keys.{socket_kept}
use Rattle.ch_laws_race.proofs.Sockets.{Alike, alike_self, alike_with, end_changed}
use Rattle.ch_laws_race.proofs.Views.{hosts_set, own_reader, kept_all, kept_socket}
use Rattle.ch_laws_race.proofs.Pairs.{point_same}
use Rattle.ch_laws_race.proofs.Steps.{arrived_alike, writes_there}
use Rattle.ch_laws_race.proofs.Socks.{sock_by, wrote, says_at}
use Rattle.ch_laws_race.proofs.One.{by_end, World_of, sock_is}
use Rattle.ch_laws_race.proofs.Two.{stage}

module _ (scene : Scene) (x : Side) (cell : Cell × ℕ) (i : ℕ) (s : WorldSocket) (known : Socket) (h : Joins scene x cell i s known) where
  abbrev V : Pair
  V = view scene

  abbrev Own : HostState
  Own = host_of scene x

  abbrev H : ℕ → HostState
  H = hosts_of scene.world

  abbrev P : ℕ
  P = (scene.party x).place

  abbrev Number : ℕ
  Number = (scene.party x).address.id

  abbrev Peer : Address
  Peer = (scene.party (other x)).address

  abbrev L : Link
  L = link_of scene x

  abbrev xs : List WorldSocket
  xs = scene.world.sockets

  abbrev Opened : Socket
  Opened = record known { stage = Open }

  abbrev After : HostState
  After = with_socket Opened Own

  abbrev The : Request
  The = request_from scene x

  abbrev Joined : WorldSocket
  Joined = with_end O (opened s.o) s

  abbrev Wrote : WorldSocket
  Wrote = with_end T (world.item_arrives (request_spelling The) None s.t) Joined

  abbrev Theirs : Reader
  Theirs = reader_at H expected.Request s.t

  did : hears_joined scene x known ≡ Ok (steps.Write known.number (request_spelling The) None ∷ [], After)
  unfolding host_on
  did = ap (λ (o : Option Socket). elim o as (λ o. Stepped) [ None ↦ still Own | Some socket ↦ (if is_pending socket.stage then joins socket Own else still Own) ]) h.kept
      ∙ ap (λ (z : Stage). if is_pending z then joins known Own else still Own) h.waits
      ∙ ap (λ (o : Option (ℕ × Address)). elim o as (λ o. Stepped) [ None ↦ still Own | Some user ↦ writes known.number (request_spelling (record { target = user.1.id; from = own_address Own user.0 })) After ]) h.user
      ∙ ap (λ (a : Address). writes known.number (request_spelling (record { target = Peer.id; from = a })) After) h.acts.own

  joined_alike : Alike s Joined
  joined_alike = alike_with O s s (opened s.o) (alike_self s) refl refl

  told : done_by P cell (steps.Write known.number (request_spelling The) None ∷ []) After (joined_in scene s) ≡ record (World_of scene x cell O i known.number s h.acts h.has After) { sockets = slice_set xs i Wrote }
  told = ap (λ (w : World). done_by P cell (steps.Write known.number (request_spelling The) None ∷ []) After w) (end_changed scene.world i s O opened h.acts.apart h.has.at)
      ∙ writes_there (World_of scene x cell O i known.number s h.acts h.has After) i s Joined O P known.number (record (cell.0) { host = After }) h.acts.apart h.has.at joined_alike h.has.end (request_spelling The) None

  here : sock_by scene.party O (known.expected, known.since) Theirs s ≡ V.sock i
  here = ap (λ (r : Reader). sock_by scene.party O r Theirs s) (sym (own_reader H P known.number expected.Answer s.o h.has.end ∙ ap (reader_of expected.Answer) h.kept))
      ∙ sym (by_end O scene.party H s) ∙ sym (sock_is scene x cell O i known.number s h.acts h.has)

  socket_now : sock_by scene.party O (known.expected, known.since) Theirs Wrote ≡ pair.to_t pair.Request (record (V.sock i) { o = pair.OAsking })
  socket_now = wrote scene.party O x (known.expected, known.since) Theirs Joined (items.Request The) None h.has.opener h.has.target h.way
      ∙ ap (says x pair.Request) (ap (λ (z : Expected). record (sock_by scene.party O (known.expected, known.since) Theirs s) { o = opener_end Open z }) h.asks ∙ ap (λ (z : Sock). record z { o = pair.OAsking }) here)
      ∙ says_at O x pair.Request (record (V.sock i) { o = pair.OAsking }) (ap (λ (z : Sock). z.opener) (sock_is scene x cell O i known.number s h.acts h.has) ∙ h.has.opener)

  pub joins_it : IsSeenFrom scene x cell (joined_in scene s) (hears_joined scene x known) (Join i ∷ [])
  joins_it = record {
    steps = steps.Write known.number (request_spelling The) None ∷ [];
    host = After;
    does = did;
    allowed = (ap (λ (z : Sock). z.o) (sock_is scene x cell O i known.number s h.acts h.has) ∙ ap (λ (z : Stage). opener_end z (reader_at H expected.Answer s.o).0) h.waiting, tt);
    seen = ap (λ (w : World). view (record scene { world = w })) told
        ∙ ap (λ (f : ℕ → HostState). seen scene.party f (slice_set xs i Wrote) scene.quiet) (hosts_set scene.world P cell (record (cell.0) { host = After }) cell.1 h.acts.there)
        ∙ stage scene.party x H Own After xs scene.quiet i known.number O s Wrote L.state Opened h.acts.differ h.acts.apart h.has.at h.has.end h.has.between
        (arrived_alike T s Joined (request_spelling The) None joined_alike) refl (kept_socket Opened Number Peer Own Own L.state (kept_all known.number Number Peer Own)) (socket_kept Opened Own.sockets)
        ∙ ap (λ (z : Sock). point x (V.link x) (put i z V)) socket_now
        ∙ point_same x (V.link x) (put i (pair.to_t pair.Request (record (V.sock i) { o = pair.OAsking })) V) refl;
  }
