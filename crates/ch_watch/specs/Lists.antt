-- What a node keeps of watches and names.
use Rattle.std.specs.Prelude.{ℕ, List}
use Rattle.ch_watch.specs.declared.waiting.Waiting.{Waiting}
use Rattle.ch_watch.specs.declared.watched.Watched.{Watched}
use Rattle.ch_watch.specs.declared.named.Named.{Named}

-- the next number, the open numbers in order of opening, the watches kept for others in order of arrival, the names in order of registering
pub record Lists : Type 0 where
  pub next : ℕ
  pub waiting : List Waiting
  pub watched : List Watched
  pub names : List Named
