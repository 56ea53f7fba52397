-- Where nothing is left to do at the sockets.
use Rattle.std.specs.Prelude.{◌≡◌, ℕ, Bool, true, false}
use Rattle.ch_link.specs.declared.LinkState.TheVariants.{Dialing, Up}
use Rattle.ch_race.specs.Pair.{Side, other, Pair}
use Rattle.ch_race.specs.Moves.{AllStill}

-- no link dials, none is probed, and a node that is up is up with the other, on the same socket
pub record Quiescent (p : Pair) : Type 0 where
  pub no_dial : (x : Side) (i : ℕ) → p.link x ≡ Dialing i → ⊥
  pub no_probe : (x : Side) (i : ℕ) → p.link x ≡ Up i true → ⊥
  pub both : (x : Side) (i : ℕ) (probed : Bool) → p.link x ≡ Up i probed → p.link (other x) ≡ Up i false

-- it is so wherever nothing is to be done at the sockets
abbrev pub WhenStill : Pair → Type 0
WhenStill p = AllStill p → Quiescent p
