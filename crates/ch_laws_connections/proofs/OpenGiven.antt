-- What a node has open has an id on the link with its peer, and what has an id is open.
use Rattle.std.proofs.Common.{◌≡◌, ◌≤◌, ℕ, Bool, true, false, List, [], ◌∷◌, Ok, refl, sym, ap, subst, arith}
use Rattle.std.specs.Prelude.{find, is_some, Some}
use Rattle.ch_base.specs.declared.address.Address.{Address}
use Rattle.ch_light.specs.declared.Connection.{Connection}
use Rattle.ch_light.specs.Ids.{id_of}
use Rattle.ch_model.specs.CellSteps.{is_at}
use Rattle.ch_model.specs.HostState.{HostState}
use Rattle.ch_model.specs.HostSteps.{link_with}
use Rattle.ch_model.specs.NodeState.{NodeState}
use Rattle.ch_model.specs.World.{world_new, log_from}
use Rattle.ch_model.specs.WorldState.{Cell, World}
use Rattle.ch_model.specs.declared.entry.Entry.{Entry}
use Rattle.ch_model.specs.declared.line.Line.{Line}
use Rattle.ch_laws_connections.specs.Tables.{given_at, given_so, open_in}
use Rattle.ch_laws_connections.specs.Senders.{Sender, sender_of, open_at}
use Rattle.ch_laws_connections.specs.Fits.{IsDark, FitsAs, CellHolds, AllCells}
use Rattle.ch_laws_connections.proofs.CellSteps.{cell_holds}
use Rattle.ch_laws_connections.proofs.NewCells.{new_cells}
use Rattle.ch_laws_connections.proofs.Worlds.{cells_after}
use Rattle.ch_laws_connections.proofs.GivenIn.{some_open, with_id, without_id}

none_left : (n : ℕ) → 1 ≤ n → n ≡ 0 → ⊥
none_left n l e = omega arith

has_id : (table : List Connection) (conn : ℕ) → 1 ≤ open_in table conn → is_some (id_of table conn) ≡ true
has_id table conn l = by_test (is_some (id_of table conn)) refl where
  by_test : (b : Bool) → is_some (id_of table conn) ≡ b → b ≡ true
  by_test true h = refl
  by_test false h = absurd (none_left (open_in table conn) l (without_id table conn h))

pub is_given : (cell : Cell) (end conn : ℕ) (peer : Address) (there : ℕ × NodeState) → CellHolds cell → find (is_at end) cell.nodes ≡ Some there → there.1.is_shut ≡ false → 1 ≤ open_at (sender_of there.1) conn peer → is_some (id_of (link_with cell.host end peer).given conn) ≡ true
is_given cell end conn peer there h found standing l =
    let a = (subst (λ b. FitsAs b cell.host end [] (sender_of there.1)) standing (h.1.nodes end there found).1).1 in
    has_id (given_at cell.host end peer) conn (subst (λ (n : ℕ). 1 ≤ n) (sym (a.given conn peer)) l)

-- what has an id is open at a node that isn't shut
module _ (host : HostState) (end conn : ℕ) (peer : Address) (s : Sender) (id : is_some (id_of (given_at host end peer) conn) ≡ true) where
  there : 1 ≤ given_so host end conn peer
  there = some_open (given_at host end peer) conn (with_id (given_at host end peer) conn id)

  nothing_dark : IsDark host end → ⊥
  nothing_dark d = none_left (given_so host end conn peer) there (ap (λ (t : List Connection). open_in t conn) (d.given peer))

  one : (n m : ℕ) → n ≡ m → 1 ≤ n → n ≤ 1 → m ≡ 1
  one n m e l k = omega arith

  open_as : (b : Bool) → FitsAs b host end [] s → open_at s conn peer ≡ 1
  open_as false f = one (given_so host end conn peer) (open_at s conn peer) (f.1.given conn peer) there (f.1.alone conn peer)
  open_as true f = absurd (nothing_dark f)

pub is_open : (cell : Cell) (end conn : ℕ) (peer : Address) (there : ℕ × NodeState) → CellHolds cell → find (is_at end) cell.nodes ≡ Some there → is_some (id_of (link_with cell.host end peer).given conn) ≡ true → open_at (sender_of there.1) conn peer ≡ 1
is_open cell end conn peer there h found id = open_as cell.host end conn peer (sender_of there.1) id there.1.is_shut (h.1.nodes end there found).1

one_as : (host : HostState) (end conn : ℕ) (peer other : Address) (s : Sender) → is_some (id_of (given_at host end peer) conn) ≡ true → is_some (id_of (given_at host end other) conn) ≡ true → (b : Bool) → FitsAs b host end [] s → peer ≡ other
one_as host end conn peer other s i j false f = f.1.one_link conn peer other (there host end conn peer s i) (there host end conn other s j)
one_as host end conn peer other s i j true f = absurd (nothing_dark host end conn peer s i f)

pub at_one : (cell : Cell) (end conn : ℕ) (peer other : Address) (there : ℕ × NodeState) → CellHolds cell → find (is_at end) cell.nodes ≡ Some there → is_some (id_of (link_with cell.host end peer).given conn) ≡ true → is_some (id_of (link_with cell.host end other).given conn) ≡ true → peer ≡ other
at_one cell end conn peer other there h found i j = one_as cell.host end conn peer other (sender_of there.1) i j there.1.is_shut (h.1.nodes end there found).1

-- ---- worlds

pub worlds_hold : (journal lines : List Line) (log : List Entry) (world : World) → log_from (world_new journal) lines ≡ Ok (log, world) → AllCells CellHolds world.cells
worlds_hold journal lines log world e = cells_after CellHolds (λ cell after event done h s. cell_holds cell after event done h s) (world_new journal) world lines log (new_cells journal) e

pub every_cell : (P Q : Cell → Type 0) → ((cell : Cell) → P cell → Q cell) → (cells : List (Cell × ℕ)) → AllCells P cells → AllCells Q cells
every_cell P Q f [] a = tt
every_cell P Q f (cell ∷ rest) a = (f cell.0 a.0, every_cell P Q f rest a.1)
