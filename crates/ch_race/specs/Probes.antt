-- The account of probes: a probed link has its Probe, or the Ack to it, under way.
use Rattle.std.specs.Prelude.{◌≡◌, ℕ, ◌+◌, ◌≤◌, Bool, true, false, cond, ◌||◌, List, [], ◌∷◌}
use Rattle.ch_link.specs.declared.LinkState.{LinkState}
use Rattle.ch_link.specs.declared.LinkState.TheVariants.{Up}
use Rattle.ch_race.specs.Pair.{other, OUp, TUp, Item, Probe, Ack, Sock, Pair, o_ended, t_ended}

-- the item is a Probe
abbrev pub is_probe : Item → Bool
is_probe Probe = true
is_probe item = false

-- the item is an Ack
abbrev pub is_ack : Item → Bool
is_ack Ack = true
is_ack item = false

-- 1 where it is true
abbrev pub bit : Bool → ℕ
bit b = cond b 1 0

-- how many items pass
abbrev pub count : (Item → Bool) → List Item → ℕ
count f [] = 0
count f (item ∷ w) = bit (f item) + count f w

-- the link is up and probed
abbrev pub flag : LinkState → Bool
flag (Up u b) = b
flag k = false

-- at most one is under way, none where the link is not probed, and just one where nothing can have been lost
pub record Account (probed : Bool) (n : ℕ) (loose : Bool) : Type 0 where
  pub most : n ≤ bit probed
  pub exact : loose ≡ false → n ≡ bit probed

-- the account of the opener's probes, and of the target's
pub record Probed (kx ky : LinkState) (s : Sock) : Type 0 where
  pub own : s.o ≡ OUp → Account (flag kx) (count is_probe s.in_t + count is_ack s.in_o) (t_ended s.t || s.cut_o || s.cut_t)
  pub peer : s.t ≡ TUp → Account (flag ky) (count is_probe s.in_o + count is_ack s.in_t) (o_ended s.o || s.cut_o || s.cut_t)

-- the same of every socket of the pair
abbrev pub Probing : Pair → Type 0
Probing p = (i : ℕ) → Probed (p.link (p.sock i).opener) (p.link (other (p.sock i).opener)) (p.sock i)
