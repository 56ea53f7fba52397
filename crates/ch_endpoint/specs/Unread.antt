-- What the bytes of a socket that are fed and not read are to callers.
use Rattle.std.specs.Prelude.{ℕ, List}
use Rattle.ch_reader.specs.declared.item.Expected.{Expected}

-- which item is read next, and the bytes since the last item
pub record Unread : Type 0 where
  pub expected : Expected
  pub since : List ℕ
