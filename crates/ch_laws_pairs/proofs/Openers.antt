-- The opener's end of each socket has its user.
use Rattle.std.proofs.Common.{◌≡◌, ℕ, List, Ok, refl, ap, ◌∙◌, subst}
use Rattle.std.specs.Prelude.{find, slice_get, Option, Some, None}
use Rattle.ch_base.specs.declared.address.Address.{Address}
use Rattle.ch_model.specs.declared.entry.Entry.{Entry}
use Rattle.ch_model.specs.declared.line.Line.{Line}
use Rattle.ch_model.specs.declared.name.SockName.{SockName}
use Rattle.ch_model.specs.HostState.{Socket}
use Rattle.ch_model.specs.HostSteps.{is_socket, own_address}
use Rattle.ch_model.specs.Naming.{Names, called}
use Rattle.ch_model.specs.World.{world_new, log_from}
use Rattle.ch_model.specs.WorldSockets.{is_socket_named}
use Rattle.ch_model.specs.WorldState.{Cell, WorldSocket, World}
use Rattle.ch_laws_log.proofs.Stored.{find_name}
use Rattle.ch_laws_pairs.specs.Askers.{Asker, asker_with, asker_of}
use Rattle.ch_laws_pairs.specs.Users.{asker_in, askers_of, AsksAs, OpenerAsks, IsUsedAs}
use Rattle.ch_laws_pairs.proofs.Lines.{own_of, asked_after}

-- where somebody asks, the host has a record of whom
used_by : (own asks : ℕ → Address) (known : Names) (name : SockName) (o : Option Socket) → ((end : ℕ) → own end ≡ asks end) → AsksAs asks known name (asker_of o) → (held : Socket) × (o ≡ Some held) × IsUsedAs own known name held
used_by own asks known name None is a = absurd a
used_by own asks known name (Some held) is a = (held, refl, by_record held.peer_host refl held.user refl a) where
  by_record : (h : Option (List ℕ)) → held.peer_host ≡ h → (u : Asker) → held.user ≡ u → AsksAs asks known name (asker_with h u) → IsUsedAs own known name held
  by_record (Some host) e u f a = absurd a
  by_record None e None f a = absurd a
  by_record None e (Some user) f a = record { end = user.0; peer = user.1; opener = e; user = f; from = ap (called known) (is user.0) ∙ a.0; to = a.1 }

pub opener_used : (journal lines : List Line) (log : List Entry) (world : World) (s : SockName) (socket : WorldSocket) (place n : ℕ) (cell : Cell × ℕ) → log_from (world_new journal) lines ≡ Ok (log, world) → find (is_socket_named s) world.sockets ≡ Some socket → socket.o.cell ≡ Some place → socket.o.number ≡ Some n → slice_get world.cells place ≡ Some cell
    → (held : Socket) × (find (is_socket n) cell.0.host.sockets ≡ Some held) × IsUsedAs (own_address cell.0.host) world.names s held
opener_used journal lines log world s socket place n cell is found c m at =
    let all = asked_after journal lines log world is in
    let one : OpenerAsks (own_of journal) world.names (askers_of world.cells) s (Some place) (Some n) = subst (λ (k : Option ℕ). OpenerAsks (own_of journal) world.names (askers_of world.cells) s k (Some n)) c
    (subst (λ (k : Option ℕ). OpenerAsks (own_of journal) world.names (askers_of world.cells) s socket.o.cell k) m
    (subst (λ (name : SockName). OpenerAsks (own_of journal) world.names (askers_of world.cells) name socket.o.cell socket.o.number) (find_name s world.sockets socket found) (all.named s socket found).0)) in
    used_by (own_address cell.0.host) (own_of journal place) world.names s (find (is_socket n) cell.0.host.sockets) ((all.homes place cell at).own_is) (subst (λ (asker : Asker). AsksAs (own_of journal place) world.names s asker) (ap (λ (o : Option (Cell × ℕ)). asker_in o n) at) one)
