-- That nothing stray is read: an item comes where its connection stands.
use Rattle.std.specs.Prelude.{◌≡◌, true, false, List, ◌∷◌}
use Rattle.ch_delivery.specs.Passage.{Item, Created, Message, Closed, Passage, is_known}

-- a connection is created that isn't known, and a message or a close comes on one that is
abbrev pub IsExpected : Item → Passage → Type 0
IsExpected (Created c e) p = is_known (p.bound c e) ≡ false
IsExpected (Message c e k) p = is_known (p.bound c e) ≡ true
IsExpected (Closed c e) p = is_known (p.bound c e) ≡ true

-- whatever is read next is expected
abbrev pub NoneStray : Passage → Type 0
NoneStray p = (item : Item) (rest : List Item) → p.flight p.at ≡ item ∷ rest → IsExpected item p
