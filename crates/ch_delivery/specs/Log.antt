-- When a log is lawful: each entry after those before it, which follow it in the list.
use Rattle.std.specs.Prelude.{◌≡◌, ◌<◌, ℕ, suc, nat_eq, Bool, true, false, not, ◌&&◌, ◌||◌, List, [], ◌∷◌, ◌++◌, Option, Some, None}
use Rattle.ch_delivery.specs.Passage.{Entry, Said, Again, Got, Rose, Broke, Came, Fell, Stood, is_there}

-- they are one pair, and one epoch of it
abbrev pub same : ℕ → ℕ → ℕ → ℕ → Bool
same c e d f = nat_eq c d && nat_eq e f

-- one more, if so
abbrev pub plus : Bool → ℕ → ℕ
plus true n = suc n
plus false n = n

-- how many messages the pair said in the epoch
abbrev pub saids : ℕ → ℕ → List Entry → ℕ
saids c e [] = 0
saids c e (Said d f k ∷ l) = plus (same c e d f) (saids c e l)
saids c e (x ∷ l) = saids c e l

-- how many of them were got
abbrev pub gots : ℕ → ℕ → List Entry → ℕ
gots c e [] = 0
gots c e (Got d f k r ∷ l) = plus (same c e d f) (gots c e l)
gots c e (x ∷ l) = gots c e l

-- The pair's epoch: how often it was reconnected; with a name, also how many breaks came after a message of the epoch
-- that was the pair's then.
abbrev pub epoch_of : Bool → ℕ → List Entry → ℕ
epoch_of name c [] = 0
epoch_of name c (Again d e ∷ l) = plus (nat_eq c d) (epoch_of name c l)
epoch_of name c (Broke ∷ l) = plus (name && not (nat_eq (saids c (epoch_of name c l) l) 0)) (epoch_of name c l)
epoch_of name c (x ∷ l) = epoch_of name c l

-- the epoch has broken: the link did after its first message
abbrev pub has_broken : ℕ → ℕ → List Entry → Bool
has_broken c e [] = false
has_broken c e (Broke ∷ l) = not (nat_eq (saids c e l) 0)
has_broken c e (x ∷ l) = has_broken c e l

-- how many messages were said in the epoch before it broke
abbrev pub meant : ℕ → ℕ → List Entry → ℕ
meant c e [] = 0
meant c e (Said d f k ∷ l) = plus (same c e d f && not (has_broken c e l)) (meant c e l)
meant c e (x ∷ l) = meant c e l

-- who stands for the pair's target
abbrev pub stood : ℕ → List Entry → Option ℕ
stood c [] = None
stood c (Stood f ∷ l) = f c
stood c (x ∷ l) = stood c l

-- the sending node came up on the socket
abbrev pub has_risen : ℕ → List Entry → Bool
has_risen i [] = false
has_risen i (Rose j ∷ l) = nat_eq i j || has_risen i l
has_risen i (x ∷ l) = has_risen i l

-- the socket that the receiving node is up on
abbrev pub up_at : List Entry → Option ℕ
up_at [] = None
up_at (Came i ∷ l) = Some i
up_at (Fell ∷ l) = None
up_at (x ∷ l) = up_at l

-- the receiving node is up on a socket on which the sending node has come up
abbrev pub hears : Option ℕ → List Entry → Bool
hears None l = false
hears (Some i) l = has_risen i l

-- A message is got: it was said before its epoch broke; those of its epoch that were got are those before it; none of a
-- later epoch was got; it is got by who stands for the target then, which is there; and over a link that is up.
pub record LawfulGot (name : Bool) (c e k : ℕ) (r : Option ℕ) (l : List Entry) : Type 0 where
  pub said : k < meant c e l
  pub order : k ≡ gots c e l
  pub no_later : (f : ℕ) → e < f → gots c f l ≡ 0
  pub receiver : r ≡ stood c l
  pub living : is_there name r ≡ true
  pub over_link : hears (up_at l) l ≡ true

-- Each message has its pair's epoch and the next index in it, each reconnect the next epoch, and each receipt is lawful.
abbrev pub Lawful : (ℕ → Bool) → List Entry → Type 0
Lawful named [] = Unit {0}
Lawful named (Said c e k ∷ l) = (e ≡ epoch_of (named c) c l) × (k ≡ saids c e l) × Lawful named l
Lawful named (Again c e ∷ l) = (e ≡ suc (epoch_of (named c) c l)) × Lawful named l
Lawful named (Got c e k r ∷ l) = LawfulGot (named c) c e k r l × Lawful named l
Lawful named (x ∷ l) = Lawful named l

-- the very message was said, while its epoch wasn't broken
pub record WasSaid (c e k : ℕ) (l : List Entry) : Type 0 where
  pub later : List Entry
  pub earlier : List Entry
  pub stands : l ≡ later ++ Said c e k ∷ earlier
  pub sound : has_broken c e earlier ≡ false

-- each message that was got was said before
abbrev pub AllSaid : List Entry → Type 0
AllSaid [] = Unit {0}
AllSaid (Got c e k r ∷ l) = WasSaid c e k l × AllSaid l
AllSaid (x ∷ l) = AllSaid l
