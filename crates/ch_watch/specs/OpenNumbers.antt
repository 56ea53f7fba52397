-- What a node keeps of open numbers.
use Rattle.std.specs.Prelude.{ℕ, List}
use Rattle.ch_watch.specs.declared.waiting.Waiting.{Waiting}

-- the next number, and the open ones in order of opening
pub record OpenNumbers : Type 0 where
  pub next : ℕ
  pub waiting : List Waiting
