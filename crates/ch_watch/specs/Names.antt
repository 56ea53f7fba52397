-- What stands in a list of names.
use Rattle.std.specs.Prelude.{ℕ, Bool, List}
use Rattle.std.specs.Str.{bytes_eq}
use Rattle.ch_watch.specs.declared.named.Named.{Named}

-- it is that name
unfoldable pub has_name : List ℕ → Named → Bool
has_name name named = bytes_eq named.name name
