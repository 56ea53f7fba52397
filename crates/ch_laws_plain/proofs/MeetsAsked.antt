-- What may be asked under the name of a socket between two nodes of a journal may be read.
use Rattle.std.proofs.Common.{◌≡◌, ℕ, true, List, [], refl, sym, ◌∙◌, subst}
use Rattle.std.specs.Prelude.{find, is_some, Option, Some, None}
use Rattle.ch_model.specs.declared.entry.Entry.{Entry}
use Rattle.ch_model.specs.declared.line.Line.{Line}
use Rattle.ch_model.specs.declared.name.SockName.{SockName}
use Rattle.ch_model.specs.Declarations.{has_host}
use Rattle.ch_model.specs.Naming.{Names, is_named}
use Rattle.ch_model.specs.World.{names_of}
use Rattle.ch_model.specs.WorldSockets.{is_socket_named}
use Rattle.ch_model.specs.WorldState.{Named, WorldSocket, World}
use Rattle.ch_laws_log.specs.Declared.{is_declared}
use Rattle.ch_laws_log.proofs.Agreeing.{At}
use Rattle.ch_laws_log.proofs.Kept.{IsIn}
use Rattle.ch_laws_log.proofs.Seen.{opened_is}
use Rattle.ch_laws_log.proofs.Stored.{find_name}
use Rattle.ch_laws_log.proofs.Views.{seen_in}
use Rattle.ch_laws_many.proofs.Addresses.{AllNamed}
use Rattle.ch_laws_many.proofs.Reached.{IsJournal, named}
use Rattle.ch_laws_bytes.specs.Streams.{MayBeAsked, AreAddresses}
use Rattle.ch_laws_bytes.proofs.Asked.{may_be_asked}
use Rattle.ch_laws_bytes.proofs.Lines.{own_of}
use Rattle.ch_laws_calls.specs.Peers.{Peers}
use Rattle.ch_laws_calls.specs.Sound.{Sound}
use Rattle.ch_laws_calls.specs.ScenesKnocks.{Unknocked}
use Rattle.ch_laws_calls.proofs.ScenesNames.{name_found, some_name}
use Rattle.ch_laws_calls.proofs.ScenesPeers.{ArePeers, opened_by_peers}
use Rattle.ch_laws_calls.specs.FitsFit.{MayAskWell}

-- each socket of the world was dialed by a node to another
dialed_by_peers : (journal : List Line) (log : List Entry) (world : World) → Sound journal log world → Unknocked log → Peers journal log world → (socket : WorldSocket) → IsIn socket world → ArePeers (names_of journal) socket.name
dialed_by_peers journal log world sound quiet peers socket is = opened_by_peers (names_of journal) socket.name log peers quiet
    (sym (opened_is log socket.name) ∙ told.is_opened)
  where
    told : At (has_host journal socket.name.to) (seen_in log socket.name) (Some socket)
    told = subst (At (has_host journal socket.name.to) (seen_in log socket.name)) is (sound.ends.sure.ends.sorted.0.agrees socket.name)

-- a declared name isn't empty
not_empty : (known : Names) (name : List ℕ) → AllNamed known → is_declared known name ≡ true → name ≡ [] → ⊥
not_empty known name all declared empty = by_found (find (is_named name) known) refl declared where
  by_found : (o : Option Named) → find (is_named name) known ≡ o → is_some o ≡ true → ⊥
  by_found None e some = absurd cc
  by_found (Some d) e some = some_name known name d all e (name_found known name d e ∙ empty)

well_asked : (journal : List Line) (world : World) (socket : WorldSocket) → is_some socket.o.cell ≡ true → ((place : ℕ) → MayBeAsked (own_of journal place) world.names socket.name) → MayAskWell journal world socket
well_asked journal world socket some may = by_cell socket.o.cell refl some where
  by_cell : (c : Option ℕ) → socket.o.cell ≡ c → is_some c ≡ true → MayAskWell journal world socket
  by_cell None e some = absurd cc
  by_cell (Some place) e some = record { place = place; cell = e; may = may place }

pub peers_may_ask : (journal : List Line) → IsJournal journal → AreAddresses (names_of journal) → (log : List Entry) (world : World) → Sound journal log world → Unknocked log → Peers journal log world → (s : SockName) (socket : WorldSocket) → find (is_socket_named s) world.sockets ≡ Some socket → MayAskWell journal world socket
peers_may_ask journal j addresses log world sound quiet peers s socket found = well_asked journal world socket (sound.ends.set.led s socket found).o
    (λ place. may_be_asked (own_of journal place) world.names socket.name (subst AreAddresses (sym sound.ends.set.names) addresses) (not_empty (names_of journal) socket.name.from (named journal j) between.from) (not_empty (names_of journal) socket.name.to (named journal j) between.to))
  where
    is : IsIn socket world
    is = subst (λ (n : SockName). find (is_socket_named n) world.sockets ≡ Some socket) (sym (find_name s world.sockets socket found)) found

    between : ArePeers (names_of journal) socket.name
    between = dialed_by_peers journal log world sound quiet peers socket is
