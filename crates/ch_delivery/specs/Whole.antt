-- Whole delivery: when all that was said is owed, and when it has to be there.
use Rattle.std.specs.Prelude.{◌≡◌, ℕ, nat_eq, Bool, true, false, cond, ◌&&◌, List, [], ◌∷◌}
use Rattle.ch_delivery.specs.Passage.{Mark, Unopened, Opened, Passage, is_there, is_bound}
use Rattle.ch_delivery.specs.Moves.{Move, Say, Break, Shut, Stand, after}
use Rattle.ch_delivery.specs.Log.{gots, saids}

-- both nodes are up on one socket, which isn't cut, and nothing is unread there
pub record Drained (p : Passage) : Type 0 where
  pub up : p.up ≡ true
  pub one : p.at ≡ p.on
  pub whole : p.cut p.on ≡ false
  pub read : p.flight p.on ≡ []

-- all messages of this epoch were got, if nothing is under way
abbrev pub AllGot : ℕ → ℕ → Passage → Type 0
AllGot c e p = Drained p → gots c e p.log ≡ saids c e p.log

-- so it is of the epoch that a pair is in, where its connection is open and leads to its target
abbrev pub PresentGot : Passage → Type 0
PresentGot p = (c : ℕ) → p.mark c ≡ Opened → is_bound (p.bound c (p.epoch c)) ≡ true → AllGot c (p.epoch c) p

-- the first message of an epoch is said: is its target there? Of later ones the answer stays
abbrev pub owed_first : Mark → Bool → Bool → Bool
owed_first Unopened there owed = there
owed_first m there owed = owed

-- Whether the epoch e of pair c is owed whole after the move, by whether it was: from its first message on, if the target
-- is there then, until that is there no more, the link breaks or the sending node is shut. Neither a reconnect nor the
-- sender's end takes it back.
abbrev pub still_owed : ℕ → ℕ → Move → Passage → Bool → Bool
still_owed c e (Say d) p owed = cond (nat_eq c d && nat_eq e (p.epoch d)) (owed_first (p.mark d) (is_there (p.named d) (p.stands d)) owed) owed
still_owed c e (Stand f) p owed = is_there (p.named c) (f c) && owed
still_owed c e Break p owed = false
still_owed c e Shut p owed = false
still_owed c e m p owed = owed

-- the same after all the moves
abbrev pub is_owed : ℕ → ℕ → List Move → Passage → Bool → Bool
is_owed c e [] p owed = owed
is_owed c e (m ∷ ms) p owed = is_owed c e ms (after m p) (still_owed c e m p owed)
