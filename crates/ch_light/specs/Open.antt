-- Which ids are open, and what a call changes of that.
use Rattle.std.specs.Prelude.{◌≡◌, ◌≢◌, ℕ, List, Result, Ok}
use Rattle.ch_light.specs.declared.Connection.{Connection}
use Rattle.ch_light.specs.declared.error.LightError.{LightError}
use Rattle.ch_light.specs.Ids.{conn_of}

-- the id is answered so in the new list, and each other id as before
pub record ChangesOnly (old new : List Connection) (id : ℕ) (answer : Result ℕ LightError) : Type 0 where
  pub here : conn_of new id ≡ answer
  pub others : (i : ℕ) → i ≢ id → conn_of new i ≡ conn_of old i

-- each number has at most one open id
abbrev pub OneEach : List Connection → Type 0
OneEach table = (number i j : ℕ) → conn_of table i ≡ Ok number → conn_of table j ≡ Ok number → i ≡ j
