-- A node and its host agree on the connections that the node has open.
use Rattle.std.specs.Prelude.{◌≡◌, ◌≤◌, ℕ, ◌+◌, Bool, true, false, List, [], ◌∷◌, length, find, ◌==◌, Some}
use Rattle.std.specs.List.{list_any}
use Rattle.ch_base.specs.declared.address.Address.{Address}
use Rattle.ch_light.specs.declared.TheConstants.{MOST_IDS}
use Rattle.ch_model.specs.declared.act.Act.{Act}
use Rattle.ch_model.specs.CellSteps.{is_at}
use Rattle.ch_model.specs.HostState.{HostState}
use Rattle.ch_model.specs.NodeState.{NodeState}
use Rattle.ch_model.specs.WorldState.{Cell}
use Rattle.ch_laws_items.specs.Stays.{numbers_of}
use Rattle.ch_laws_connections.specs.Tables.{given_at, given_so, LinksApart, is_standing, roomy_at}
use Rattle.ch_laws_connections.specs.Senders.{Sender, sender_of, open_at, Own, IsOfFirst, open_after, opens_to, OpensFrom, kept_free, AllUsed}

-- The host, where it has yet to do some acts of the node, which has opened n connections before them: the endpoint is open;
-- what it has given is what the node has open, once the acts are done; each is given once, on one link alone, under a
-- number that was drawn before; the acts use what is given; and there are ids enough for what they open, and for the node's
-- own connection.
pub record Agrees (host : HostState) (end n : ℕ) (acts : List Act) (s : Sender) : Type 0 where
  pub standing : is_standing host end ≡ true
  pub given : (conn : ℕ) (peer : Address) → open_after acts conn peer (given_so host end conn peer) ≡ open_at s conn peer
  pub alone : (conn : ℕ) (peer : Address) → given_so host end conn peer ≤ 1
  pub one_link : (conn : ℕ) (peer other : Address) → 1 ≤ given_so host end conn peer → 1 ≤ given_so host end conn other → peer ≡ other
  pub drawn : (conn : ℕ) (peer : Address) → 1 ≤ given_so host end conn peer → IsOfFirst n conn
  pub opens : OpensFrom n acts s.opened
  pub used : AllUsed acts (given_so host end) (roomy_at host end)
  pub room : (peer : Address) → length (given_at host end peer) + (opens_to acts peer + kept_free s peer) ≤ MOST_IDS

-- the endpoint is closed, and nothing is given there
pub record IsDark (host : HostState) (end : ℕ) : Type 0 where
  pub closed : is_standing host end ≡ false
  pub given : (peer : Address) → given_at host end peer ≡ []

-- a node that isn't shut agrees with its host; one that is has nothing there
abbrev pub FitsAs : Bool → HostState → ℕ → List Act → Sender → Type 0
FitsAs false host end acts s = (n : ℕ) × Agrees host end n acts s
FitsAs true host end acts s = IsDark host end

-- a node has what its host gives, where some of its acts are still to be done
abbrev pub Fits : HostState → ℕ → List Act → Sender → Type 0
Fits host end acts s = Own s × FitsAs s.is_shut host end acts s

-- no two links of the host are for one use, and each node has what the host gives
pub record CellFits (cell : Cell) : Type 0 where
  pub links : LinksApart cell.host.links
  pub nodes : (end : ℕ) (there : ℕ × NodeState) → find (is_at end) cell.nodes ≡ Some there → Fits cell.host end [] (sender_of there.1)

-- each number is another
abbrev pub AllDiffer : List ℕ → Type 0
AllDiffer [] = Unit {0}
AllDiffer (n ∷ rest) = (list_any (λ m. m == n) rest ≡ false) × AllDiffer rest

-- a cell in which node and host agree: its endpoints have different numbers, and each node has what the host gives
abbrev pub CellHolds : Cell → Type 0
CellHolds cell = AllDiffer (numbers_of cell.host.ends) × CellFits cell

-- each cell of a world has it
abbrev pub AllCells : (Cell → Type 0) → List (Cell × ℕ) → Type 0
AllCells P [] = Unit {0}
AllCells P (cell ∷ rest) = P cell.0 × AllCells P rest
