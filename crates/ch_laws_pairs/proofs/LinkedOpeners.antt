-- What a link that dials, or is up on an opener's end, is called.
use Rattle.std.proofs.Common.{◌≡◌, ℕ, Bool, true, List, Ok, refl, sym, ap, ◌∙◌, subst}
use Rattle.std.proofs.lemmas.Bool.{and_parts}
use Rattle.std.specs.Prelude.{find, is_some, slice_get, Option, Some, None}
use Rattle.ch_base.specs.declared.address.Address.{Address}
use Rattle.ch_link.specs.declared.LinkState.TheVariants.{Dialing, Up}
use Rattle.ch_model.specs.declared.entry.Entry.{Entry}
use Rattle.ch_model.specs.declared.line.Line.{Line}
use Rattle.ch_model.specs.declared.name.End.{End}
use Rattle.ch_model.specs.declared.name.End.TheVariants.{O, T}
use Rattle.ch_model.specs.declared.name.SockName.{SockName}
use Rattle.ch_model.specs.HostState.{Socket}
use Rattle.ch_model.specs.HostSteps.{is_socket, link_with, own_address}
use Rattle.ch_model.specs.Naming.{Names, called}
use Rattle.ch_model.specs.World.{world_new, log_from}
use Rattle.ch_model.specs.WorldSockets.{same_number, is_end_of, find_end}
use Rattle.ch_model.specs.WorldState.{Cell, WorldEnd, World}
use Rattle.ch_laws_log.proofs.Stored.{number_is, found_end}
use Rattle.ch_laws_log.proofs.WorldEnds.{found_is}
use Rattle.ch_laws_ends.proofs.Lines.{sure_after}
use Rattle.ch_laws_links.specs.Naming.{IsDialedBy}
use Rattle.ch_laws_links.proofs.Journals.{numbers_in}
use Rattle.ch_laws_links.proofs.Says.{dialing, risen}
use Rattle.ch_laws_links.proofs.Worlds.{naming_in}
use Rattle.ch_laws_pairs.specs.Askers.{asker_with, asker_of, asker_at}
use Rattle.ch_laws_pairs.specs.Users.{IsOdd, IsUsedAs, IsCalled}
use Rattle.ch_laws_pairs.proofs.Lines.{asked_after}
use Rattle.ch_laws_pairs.proofs.Openers.{opener_used}

-- an end of a cell under a number has both
one_number : (m : Option ℕ) (n : ℕ) → same_number m n ≡ true → m ≡ Some n
one_number None n e = absurd cc
one_number (Some m) n e = ap Some (number_is m n e)

its_place : (place n : ℕ) (end : WorldEnd) → is_end_of place n end ≡ true → (end.cell ≡ Some place) × (end.number ≡ Some n)
its_place place n end e = let both = and_parts (same_number end.cell place) (same_number end.number n) e in (one_number end.cell place both.0, one_number end.number n both.1)

-- the user of a host's record is one alone
used_alone : (own : ℕ → Address) (known : Names) (name : SockName) (o : Option Socket) (held other : Socket) (end : ℕ) (peer : Address) → o ≡ Some held → IsUsedAs own known name held → o ≡ Some other → other.user ≡ Some (end, peer) → IsCalled own known name end peer
used_alone own known name o held other end peer is u as_other e = (ap (λ (k : ℕ). called known (own k)) (ap end_in both) ∙ u.from, ap (called known) (ap peer_in both) ∙ u.to) where
  same : held ≡ other
  same = one (sym is ∙ as_other) where
    one : ◌≡◌ {A = Option Socket} (Some held) (Some other) → held ≡ other
    one h = cc

  both : ◌≡◌ {A = Option (ℕ × Address)} (Some (end, peer)) (Some (u.end, u.peer))
  both = sym e ∙ ap (λ (s : Socket). s.user) (sym same) ∙ u.user

  end_in : Option (ℕ × Address) → ℕ
  end_in None = end
  end_in (Some user) = user.0

  peer_in : Option (ℕ × Address) → Address
  peer_in None = peer
  peer_in (Some user) = user.1

-- the user of an opener's end that a cell has under a number
pub opener_found : (journal lines : List Line) (log : List Entry) (world : World) (place n : ℕ) (cell : Cell × ℕ) (s : SockName) → log_from (world_new journal) lines ≡ Ok (log, world) → slice_get world.cells place ≡ Some cell → find_end place n world.sockets ≡ Some (s, O)
    → (held : Socket) × (find (is_socket n) cell.0.host.sockets ≡ Some held) × IsUsedAs (own_address cell.0.host) world.names s held
opener_found journal lines log world place n cell s is at f =
    let there = found_end place n world.sockets (s, O) f in
    let its = its_place place n there.socket.o (found_is place n world.sockets (s, O) there.socket (sure_after journal lines log world is).ends.sorted.0.apart f there.is) in
    opener_used journal lines log world s there.socket place n cell is there.is its.0 its.1 at

opener_called : (journal lines : List Line) (log : List Entry) (world : World) (place : ℕ) (cell : Cell × ℕ) (end : ℕ) (peer : Address) (n : ℕ) (s : SockName) (other : Socket) → log_from (world_new journal) lines ≡ Ok (log, world) → slice_get world.cells place ≡ Some cell
    → find_end place n world.sockets ≡ Some (s, O) → find (is_socket n) cell.0.host.sockets ≡ Some other → other.user ≡ Some (end, peer) → IsCalled (own_address cell.0.host) world.names s end peer
opener_called journal lines log world place cell end peer n s other is at f found user =
    let held = opener_found journal lines log world place n cell s is at f in
    used_alone (own_address cell.0.host) world.names s (find (is_socket n) cell.0.host.sockets) held.0 other end peer held.1 held.2 found user

pub up_called : (journal lines : List Line) (log : List Entry) (world : World) (place : ℕ) (cell : Cell × ℕ) (end : ℕ) (peer : Address) (n : ℕ) (probed : Bool) (s : SockName) → log_from (world_new journal) lines ≡ Ok (log, world) → slice_get world.cells place ≡ Some cell
    → (link_with cell.0.host end peer).state ≡ Up n probed → find_end place n world.sockets ≡ Some (s, O) → IsCalled (own_address cell.0.host) world.names s end peer
up_called journal lines log world place cell end peer n probed s is at e f =
    let held = risen cell.0.host end peer n probed ((naming_in journal lines log world place cell is at).naming) e in
    opener_called journal lines log world place cell end peer n s held.0 is at f held.1 held.2.user

pub dialing_called : (journal lines : List Line) (log : List Entry) (world : World) (place : ℕ) (cell : Cell × ℕ) (end : ℕ) (peer : Address) (n : ℕ) → log_from (world_new journal) lines ≡ Ok (log, world) → slice_get world.cells place ≡ Some cell
    → (link_with cell.0.host end peer).state ≡ Dialing n → (s : SockName) × (find_end place n world.sockets ≡ Some (s, O)) × IsCalled (own_address cell.0.host) world.names s end peer
dialing_called journal lines log world place cell end peer n is at e = by_found (find_end place n world.sockets) refl (numbers_in journal lines log world place cell n is at ∙ ap is_some held.1) where
  held : (socket : Socket) × (find (is_socket n) cell.0.host.sockets ≡ Some socket) × IsDialedBy end peer socket
  held = dialing cell.0.host end peer n ((naming_in journal lines log world place cell is at).naming) e

  by_which : (s : SockName) (w : End) → find_end place n world.sockets ≡ Some (s, w) → (s : SockName) × (find_end place n world.sockets ≡ Some (s, O)) × IsCalled (own_address cell.0.host) world.names s end peer
  by_which s O f = (s, f, opener_called journal lines log world place cell end peer n s held.0 is at f held.1 held.2.user)
  by_which s T f =
      let there = found_end place n world.sockets (s, T) f in
      let its = its_place place n there.socket.t (found_is place n world.sockets (s, T) there.socket (sure_after journal lines log world is).ends.sorted.0.apart f there.is) in
      let all = asked_after journal lines log world is in
      let odd = subst IsOdd its.1 (all.named s there.socket there.is).1 in
      let none : asker_at cell.0.host n ≡ None = subst (λ (m : ℕ). asker_at cell.0.host m ≡ None) (sym odd.1) ((all.homes place cell at).asking.odd odd.0) in
      let some : asker_at cell.0.host n ≡ Some (end, peer) = ap asker_of held.1 ∙ ap (λ (h : Option (List ℕ)). asker_with h held.0.user) held.2.opener ∙ held.2.user in
      absurd cc

  by_found : (o : Option (SockName × End)) → find_end place n world.sockets ≡ o → is_some o ≡ true → (s : SockName) × (find_end place n world.sockets ≡ Some (s, O)) × IsCalled (own_address cell.0.host) world.names s end peer
  by_found None f h = absurd cc
  by_found (Some a) f h = by_which a.0 a.1 f
