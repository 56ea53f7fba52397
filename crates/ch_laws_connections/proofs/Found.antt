-- What a node is to ask for is found by its host.
use Rattle.std.proofs.Common.{◌≡◌, ◌≤◌, ◌<◌, ℕ, ◌+◌, ◌*◌, Bool, true, false, cond, List, [], length, Ok, Err, refl, sym, ap, ◌∙◌, subst, arith}
use Rattle.std.specs.Prelude.{find, is_some, Option, Some, None, Result}
use Rattle.ch_base.specs.declared.address.Address.{Address}
use Rattle.ch_light.specs.declared.Connection.{Connection}
use Rattle.ch_light.specs.declared.TheConstants.{MOST_IDS}
use Rattle.ch_model.specs.declared.step.EndError.{EndError}
use Rattle.ch_model.specs.declared.step.EndError.TheVariants as errors
use Rattle.ch_model.specs.CellSteps.{is_at}
use Rattle.ch_model.specs.HostCalls.{open_endpoint, carries}
use Rattle.ch_model.specs.HostState.{Link, HostState}
use Rattle.ch_model.specs.HostSteps.{link_with}
use Rattle.ch_model.specs.NodeConnections.{conn_to}
use Rattle.ch_model.specs.NodeState.{NodeState}
use Rattle.ch_model.specs.WorldState.{Cell}
use Rattle.ch_laws_connections.specs.Tables.{given_at, given_so, open_in}
use Rattle.ch_laws_connections.specs.Senders.{sender_of, open_at}
use Rattle.ch_laws_connections.specs.Fits.{Agrees, FitsAs, CellHolds}
use Rattle.ch_laws_connections.proofs.GivenIn.{some_open}
use Rattle.ch_laws_connections.proofs.HostCalls.{IsCarried, carried, none_given}
use Rattle.ch_laws_connections.proofs.Nodes.{known_so}

agrees_at : (cell : Cell) (end : ℕ) (there : ℕ × NodeState) → CellHolds cell → find (is_at end) cell.nodes ≡ Some there → there.1.is_shut ≡ false → FitsAs false cell.host end [] (sender_of there.1)
agrees_at cell end there h found standing = subst (λ b. FitsAs b cell.host end [] (sender_of there.1)) standing (h.1.nodes end there found).1

pub endpoint_open : (cell : Cell) (end : ℕ) (there : ℕ × NodeState) → CellHolds cell → find (is_at end) cell.nodes ≡ Some there → there.1.is_shut ≡ false → open_endpoint cell.host end ≡ Ok end
endpoint_open cell end there h found standing = ap answer (agrees_at cell end there h found standing).1.standing where
  answer : Bool → Result ℕ EndError
  answer b = cond b (Ok end) (Err errors.NoEndPoint)

-- a connection is given where its link is found
given_there : (host : HostState) (end conn : ℕ) (link : Link) → IsCarried host end conn link → 1 ≤ given_so host end conn link.peer
given_there host end conn link c = subst (λ (t : List Connection). 1 ≤ open_in t conn) (ap (λ (l : Link). l.given) (sym c.is_there) ∙ ap (λ (e : ℕ). given_at host e link.peer) c.end_is) (some_open link.given conn c.placed)

never : (n : ℕ) → 1 ≤ n → n ≡ 0 → ⊥
never n l e = omega arith

pub is_carried : (cell : Cell) (end conn : ℕ) (peer : Address) (there : ℕ × NodeState) → CellHolds cell → find (is_at end) cell.nodes ≡ Some there → there.1.is_shut ≡ false → 1 ≤ open_at (sender_of there.1) conn peer → find (carries end conn) cell.host.links ≡ Some (link_with cell.host end peer)
is_carried cell end conn peer there h found standing l = by_found (find (carries end conn) cell.host.links) refl where
  a : Agrees cell.host end (agrees_at cell end there h found standing).0 [] (sender_of there.1)
  a = (agrees_at cell end there h found standing).1

  given : 1 ≤ given_so cell.host end conn peer
  given = subst (λ (n : ℕ). 1 ≤ n) (sym (a.given conn peer)) l

  by_found : (o : Option Link) → find (carries end conn) cell.host.links ≡ o → o ≡ Some (link_with cell.host end peer)
  by_found None e = absurd (never (given_so cell.host end conn peer) given (none_given cell.host end conn e peer))
  by_found (Some link) e = let c = carried cell.host end conn link h.1.links e in
      ap Some (sym c.is_there ∙ ap (λ (n : ℕ). link_with cell.host n link.peer) c.end_is ∙ ap (link_with cell.host end) (a.one_link conn link.peer peer (given_there cell.host end conn link c) given))

pub not_carried : (cell : Cell) (end : ℕ) (there : ℕ × NodeState) → CellHolds cell → find (is_at end) cell.nodes ≡ Some there → find (carries end (2 * there.1.opened)) cell.host.links ≡ None
not_carried cell end there h found = by_found (find (carries end (2 * there.1.opened)) cell.host.links) refl where
  conn : ℕ
  conn = 2 * there.1.opened

  not_first : (n k m : ℕ) → n ≡ m → 2 * m ≡ 2 * k → k < n → ⊥
  not_first n k m e f l = omega arith

  by_shut : (b : Bool) → FitsAs b cell.host end [] (sender_of there.1) → (link : Link) → IsCarried cell.host end conn link → ⊥
  by_shut false f link c = let i = f.1.drawn conn link.peer (given_there cell.host end conn link c) in not_first f.0 i.0 there.1.opened f.1.opens i.2 i.1
  by_shut true f link c = never (given_so cell.host end conn link.peer) (given_there cell.host end conn link c) (ap (λ (t : List Connection). open_in t conn) (f.given link.peer))

  by_found : (o : Option Link) → find (carries end conn) cell.host.links ≡ o → o ≡ None
  by_found None e = refl
  by_found (Some link) e = absurd (by_shut there.1.is_shut (h.1.nodes end there found).1 link (carried cell.host end conn link h.1.links e))

pub id_is_left : (cell : Cell) (end : ℕ) (peer : Address) (there : ℕ × NodeState) → CellHolds cell → find (is_at end) cell.nodes ≡ Some there → there.1.is_shut ≡ false → conn_to there.1 peer ≡ None → length (link_with cell.host end peer).given < MOST_IDS
id_is_left cell end peer there h found standing none = fewer (length (given_at cell.host end peer)) MOST_IDS (subst (λ b. length (given_at cell.host end peer) + (0 + cond b 0 1) ≤ MOST_IDS) (sym (known_so there.1 peer) ∙ ap (λ (o : Option ℕ). is_some o) none) ((agrees_at cell end there h found standing).1.room peer)) where
  fewer : (n m : ℕ) → n + (0 + 1) ≤ m → n < m
  fewer n m l = omega arith
