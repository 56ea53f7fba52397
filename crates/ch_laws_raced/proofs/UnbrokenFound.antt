-- Between which two nodes a socket is, and whose an end of it is.
use Rattle.std.proofs.Common.{◌≡◌, ℕ, Bool, true, false, ◌&&◌, ◌||◌, List, refl, sym, ap, ◌∙◌, subst}
use Rattle.std.proofs.lemmas.Slice.Eq.{bytes_eq-Decides}
use Rattle.std.specs.Option.{option_map}
use Rattle.std.specs.Prelude.{find, is_some, slice_get, Option, Some, None}
use Rattle.std.specs.Str.{bytes_eq}
use Rattle.ch_model.specs.declared.entry.Entry.{Entry}
use Rattle.ch_model.specs.declared.line.Line.{Line}
use Rattle.ch_model.specs.declared.name.End.{End}
use Rattle.ch_model.specs.declared.name.End.TheVariants.{T}
use Rattle.ch_model.specs.declared.name.SockName.{SockName}
use Rattle.ch_model.specs.HostState.{Socket}
use Rattle.ch_model.specs.HostSteps.{is_socket}
use Rattle.ch_model.specs.Same.{is_between}
use Rattle.ch_model.specs.World.{names_of}
use Rattle.ch_model.specs.WorldSockets.{end_of, is_end_of, find_end, is_socket_named}
use Rattle.ch_model.specs.WorldState.{Cell, WorldSocket, World}
use Rattle.ch_race.specs.Pair.{Side, Lesser, Greater, other}
use Rattle.ch_laws_log.specs.WorldEnds.{stage_found}
use Rattle.ch_laws_log.proofs.Seen.{opened_is}
use Rattle.ch_laws_log.proofs.Stored.{find_name}
use Rattle.ch_laws_log.proofs.Told.{fits_after}
use Rattle.ch_laws_log.proofs.WorldEnds.{found_is}
use Rattle.ch_laws_ends.proofs.Places.{some_is}
use Rattle.ch_laws_ends.proofs.Told.{Ends}
use Rattle.ch_laws_many.proofs.Reached.{IsJournal}
use Rattle.ch_laws_bytes.specs.Streams.{AreAddresses}
use Rattle.ch_laws_race.specs.Scene.{Party}
use Rattle.ch_laws_race.specs.Sound.{HasEnd}
use Rattle.ch_laws_calls.specs.Calls.{IsIn}
use Rattle.ch_laws_calls.specs.Scenes.{IsPairOf, scene_of, IsOfSide, SceneFacts}
use Rattle.ch_laws_calls.specs.ScenesPairs.{IsPairFor}
use Rattle.ch_laws_calls.proofs.ScenesPeers.{ArePeers, opened_by_peers}
use Rattle.ch_laws_calls.proofs.ScenesSides.{pairs_of}
use Rattle.ch_laws_raced.proofs.RaceItemsFound.{place_found, end_keys}
use Rattle.ch_laws_raced.specs.UnbrokenGiven.{Given}

-- ---- the world's socket of a host's record

-- an end of a socket of the world is of the cell at this place under this number
pub record IsWorlds (place n : ℕ) (world : World) : Type 0 where
  pub socket : WorldSocket
  pub e : End
  pub is : IsIn socket world
  pub end : is_end_of place n (end_of e socket) ≡ true

pub worlds_end : (journal : List Line) (log : List Entry) (world : World) (place n : ℕ) (cell : Cell × ℕ) (known : Socket) → Ends journal log world → slice_get world.cells place ≡ Some cell → find (is_socket n) cell.0.host.sockets ≡ Some known → IsWorlds place n world
worlds_end journal log world place n cell known ends at found = by_found (find_end place n world.sockets) refl (sym (ends.agrees.ends place cell at n) ∙ ap (option_map (λ (w : Socket). w.stage)) found) where
  by_socket : (a : SockName × End) → find_end place n world.sockets ≡ Some a → (o : Option WorldSocket) → find (is_socket_named a.0) world.sockets ≡ o → option_map (λ (w : WorldSocket). (end_of a.1 w).stage) o ≡ Some known.stage → IsWorlds place n world
  by_socket a f None is h = absurd cc
  by_socket a f (Some socket) is h = record {
    socket = socket;
    e = a.1;
    is = subst (λ (s : SockName). find (is_socket_named s) world.sockets ≡ Some socket) (sym (find_name a.0 world.sockets socket is)) is;
    end = found_is place n world.sockets a socket ends.sorted.0.apart f is;
  }

  by_found : (o : Option (SockName × End)) → find_end place n world.sockets ≡ o → stage_found o world.sockets ≡ Some known.stage → IsWorlds place n world
  by_found None f h = absurd cc
  by_found (Some a) f h = by_socket a f (find (is_socket_named a.0) world.sockets) refl h

-- ---- its two nodes

-- Two nodes of the journal between which a socket is, and the end of it that the cell at this place has under this number.
pub record IsTheirs (journal : List Line) (world : World) (place n : ℕ) (e : End) (socket : WorldSocket) : Type 0 where
  pub party : Side → Party
  pub pair : IsPairOf journal party
  pub side : Side
  pub i : ℕ
  pub here : (party side).place ≡ place
  pub has : HasEnd (scene_of party world) side e i n socket

between_two : (party : Side → Party) (z : Side) (name : SockName) → bytes_eq (party Greater).name (party Lesser).name ≡ false → name.from ≡ (party z).name → name.to ≡ (party (other z)).name → is_between (party Lesser).name (party Greater).name name ≡ true
between_two party Lesser name differ from to =
    ap (λ (b : Bool). b && bytes_eq name.to (party Greater).name || bytes_eq name.from (party Greater).name && bytes_eq name.to (party Lesser).name) ((bytes_eq-Decides name.from (party Lesser).name).1 from)
    ∙ ap (λ (b : Bool). b || bytes_eq name.from (party Greater).name && bytes_eq name.to (party Lesser).name) ((bytes_eq-Decides name.to (party Greater).name).1 to)
between_two party Greater name differ from to =
    ap (λ (b : Bool). b && bytes_eq name.to (party Greater).name || bytes_eq name.from (party Greater).name && bytes_eq name.to (party Lesser).name) (ap (λ (x : List ℕ). bytes_eq x (party Lesser).name) from ∙ differ)
    ∙ ap (λ (b : Bool). b && bytes_eq name.to (party Lesser).name) ((bytes_eq-Decides name.from (party Greater).name).1 from)
    ∙ (bytes_eq-Decides name.to (party Lesser).name).1 to

module _ (journal : List Line) (j : IsJournal journal) (addresses : AreAddresses (names_of journal)) (log : List Entry) (world : World) (g : Given journal log world) where
  peers_of : (socket : WorldSocket) → IsIn socket world → ArePeers (names_of journal) socket.name
  peers_of socket is = opened_by_peers (names_of journal) socket.name log g.peers g.unknocked (sym (opened_is log socket.name) ∙ (fits_after journal log world socket.name socket g.sound.ends.sure.ends.sorted.0 is).is_opened)

  -- each socket is between two nodes of the journal, and each end of it one of theirs
  pub theirs : (place n : ℕ) (e : End) (socket : WorldSocket) → IsIn socket world → is_end_of place n (end_of e socket) ≡ true → IsTheirs journal world place n e socket
  theirs place n e socket is end = record {
    party = two.party;
    pair = two.pair;
    side = side.side;
    i = there.0;
    here = here;
    has = record {
      at = there.1;
      end = ap (λ (p : ℕ). is_end_of p n (end_of e socket)) here ∙ end;
      between = own;
      opener = side.opener;
      target = ap is_some (facts.sides there.0 socket there.1 own T).cell;
    };
  } where
    peers : ArePeers (names_of journal) socket.name
    peers = peers_of socket is

    two : IsPairFor journal socket.name.from socket.name.to
    two = pairs_of journal j addresses socket.name.from socket.name.to peers.from peers.to peers.apart

    facts : SceneFacts two.party world
    facts = g.shown two.party two.pair

    there : (i : ℕ) × (slice_get world.sockets i ≡ Some socket)
    there = place_found (is_socket_named socket.name) world.sockets socket is

    own : is_between (two.party Lesser).name (two.party Greater).name socket.name ≡ true
    own = between_two two.party two.side socket.name facts.names_differ (sym two.first) (sym two.second)

    side : IsOfSide two.party e socket
    side = facts.sides there.0 socket there.1 own e

    here : (two.party side.side).place ≡ place
    here = some_is (two.party side.side).place place (sym side.cell ∙ (end_keys place n (end_of e socket) end).0)
