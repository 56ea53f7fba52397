-- A link that is up is that of two nodes of the journal, which are a pair.
use Rattle.std.proofs.Common.{◌≡◌, ◌⊎◌, inl, inr, ℕ, Bool, true, List, sym, ap, ◌∙◌, subst}
use Rattle.std.specs.Prelude.{find, is_some, option_map, slice_get, Option, Some, None}
use Rattle.ch_base.specs.declared.address.Address.{Address}
use Rattle.ch_link.specs.declared.LinkState.TheVariants as states
use Rattle.ch_model.specs.declared.entry.Entry.{Entry}
use Rattle.ch_model.specs.declared.line.Line.{Line}
use Rattle.ch_model.specs.declared.name.End.{End}
use Rattle.ch_model.specs.declared.name.End.TheVariants.{T}
use Rattle.ch_model.specs.declared.name.SockName.{SockName}
use Rattle.ch_model.specs.Declarations.{has_host}
use Rattle.ch_model.specs.HostState.{Socket}
use Rattle.ch_model.specs.HostSteps.{link_with, is_socket}
use Rattle.ch_model.specs.Same.{is_between}
use Rattle.ch_model.specs.World.{names_of}
use Rattle.ch_model.specs.WorldSockets.{end_of, is_end_of, find_end}
use Rattle.ch_model.specs.WorldState.{Cell, World}
use Rattle.ch_race.specs.Pair.{Side, Lesser, Greater, other}
use Rattle.ch_laws_ends.proofs.Apart.{found_there}
use Rattle.ch_laws_log.proofs.Agreeing.{At}
use Rattle.ch_laws_log.proofs.Kept.{IsIn}
use Rattle.ch_laws_log.proofs.Seen.{opened_is}
use Rattle.ch_laws_log.proofs.Views.{seen_in}
use Rattle.ch_laws_links.specs.Naming.{IsUpFor}
use Rattle.ch_laws_links.proofs.Says.{risen}
use Rattle.ch_laws_race.specs.Scene.{Party}
use Rattle.ch_laws_race.specs.Sound.{HasEnd}
use Rattle.ch_laws_race.specs.Reading.{IsUser}
use Rattle.ch_laws_race.proofs.Readings.{other_twice}
use Rattle.ch_laws_race.proofs.Sockets.{given}
use Rattle.ch_laws_calls.specs.Scenes.{IsPairOf, scene_of, IsOfSide}
use Rattle.ch_laws_calls.specs.ScenesPairs.{IsPairFor}
use Rattle.ch_laws_calls.proofs.ScenesGiven.{IsGiven}
use Rattle.ch_laws_calls.proofs.ScenesHeld.{held_by, IsFoundAt, found_at, found_held}
use Rattle.ch_laws_calls.proofs.ScenesPeers.{ArePeers, opened_by_peers}
use Rattle.ch_laws_calls.proofs.ScenesSides.{pairs_of}
use Rattle.ch_laws_calls.proofs.ScenesDialed.{opened_as, of_side, used_for}
use Rattle.ch_laws_calls.proofs.UsersKept.{users_used}
use Rattle.ch_laws_messages.proofs.GotLists.{none_some}
use Rattle.ch_laws_peers.specs.Standing.{IsOfNodes, Standing}

-- This endpoint, at the place of its host, and this peer are two nodes of the journal: the peer the one of this side, the endpoint's the other.
pub record IsLinkOf (journal : List Line) (place end : ℕ) (peer : Address) : Type 0 where
  pub party : Side → Party
  pub pair : IsPairOf journal party
  pub from : Side
  pub here : (party (other from)).place ≡ place
  pub end_is : (party (other from)).address.id ≡ end
  pub peer_is : (party from).address ≡ peer

user_parts : (a c : ℕ) (b d : Address) → ◌≡◌ {A = Option (ℕ × Address)} (Some (a, b)) (Some (c, d)) → (a ≡ c) × (b ≡ d)
user_parts a c b d e = let both : ◌≡◌ {A = ℕ × Address} (a, b) (c, d) = cc in (ap (λ (p : ℕ × Address). p.0) both, ap (λ (p : ℕ × Address). p.1) both)

pub link_pair : (journal : List Line) → IsOfNodes journal → (log : List Entry) (world : World) → Standing journal log world → (place : ℕ) (cell : Cell × ℕ) (end n : ℕ) (peer : Address) (probed : Bool) → slice_get world.cells place ≡ Some cell → (link_with cell.0.host end peer).state ≡ states.Up n probed → IsLinkOf journal place end peer
link_pair journal o log world s place cell end n peer probed at up = by_end held.0.1 where
  known : (socket : Socket) × (find (is_socket n) cell.0.host.sockets ≡ Some socket) × IsUpFor end peer socket
  known = risen cell.0.host end peer n probed (s.all.sound.links.naming place cell at).naming up

  held : (at : SockName × End) × (find_end place n world.sockets ≡ Some at)
  held = found_held (find_end place n world.sockets) world.sockets known.0.stage (sym (s.all.sound.ends.sure.ends.agrees.ends place cell at n) ∙ ap (option_map (λ (w : Socket). w.stage)) known.1)

  it : IsFoundAt place n held.0 world.sockets
  it = found_at place n world.sockets held.0 held.1

  is : IsIn it.socket world
  is = found_there world.sockets it.i it.socket s.all.sound.ends.sure.ends.sorted.0.apart it.there

  fits : At (has_host journal it.socket.name.to) (seen_in log it.socket.name) (Some it.socket)
  fits = subst (At (has_host journal it.socket.name.to) (seen_in log it.socket.name)) is (s.all.sound.ends.sure.ends.sorted.0.agrees it.socket.name)

  peers : ArePeers (names_of journal) it.socket.name
  peers = opened_by_peers (names_of journal) it.socket.name log s.peers s.all.unknocked (sym (opened_is log it.socket.name) ∙ fits.is_opened)

  two : IsPairFor journal it.socket.name.from it.socket.name.to
  two = pairs_of journal o.is o.addresses it.socket.name.from it.socket.name.to peers.from peers.to peers.apart

  g : IsGiven journal log world two.party
  g = record { many = o.is; names = o.apart; addresses = o.addresses; sound = s.all.sound; used = users_used journal log world o.is s.all.users; peers = s.peers; unknocked = s.all.unknocked; pair = two.pair }

  between : is_between (two.party Lesser).name (two.party Greater).name it.socket.name ≡ true
  between = (opened_as journal log world two.party g it.socket two.side (sym two.first) (sym two.second)).0

  by_end : End → IsLinkOf journal place end peer
  by_end e = by_user (used_for journal log world two.party g side.side held.0.1 it.i n it.socket known.0 has cell (subst (λ (q : ℕ). slice_get world.cells q ≡ Some cell) here at) known.1) where
    side : IsOfSide two.party held.0.1 it.socket
    side = of_side journal log world two.party g it.socket is between held.0.1

    here : place ≡ (two.party side.side).place
    here = given place (two.party side.side).place (sym (held_by place n (end_of held.0.1 it.socket) it.of).0 ∙ side.cell)

    has : HasEnd (scene_of two.party world) side.side held.0.1 it.i n it.socket
    has = record { at = it.there; end = subst (λ (q : ℕ). is_end_of q n (end_of held.0.1 it.socket) ≡ true) here it.of; between = between; opener = side.opener; target = ap is_some (of_side journal log world two.party g it.socket is between T).cell }

    by_user : (known.0.user ≡ None) ⊎ IsUser (scene_of two.party world) side.side known.0 → IsLinkOf journal place end peer
    by_user (inl e) = none_some (end, peer) known.0.user e known.2.user
    by_user (inr e) =
        let parts = user_parts (two.party side.side).address.id end (two.party (other side.side)).address peer (sym e ∙ known.2.user) in
        record { party = two.party; pair = two.pair; from = other side.side; here = ap (λ (z : Side). (two.party z).place) (other_twice side.side) ∙ sym here; end_is = ap (λ (z : Side). (two.party z).address.id) (other_twice side.side) ∙ parts.0; peer_is = parts.1 }
