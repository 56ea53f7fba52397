-- What an open number is for.
use Rattle.std.specs.Prelude.{ℕ, Bool, true, false, ◌&&◌, ◌==◌}
use Rattle.ch_base.specs.declared.address.Address.{Address}
use Rattle.ch_watch.specs.declared.waiting.Kind.{Kind}
use Rattle.ch_watch.specs.declared.waiting.Kind.TheVariants.{Monitor, Link, Spawn, Ask}
use Rattle.ch_watch.specs.declared.waiting.Waiting.{Waiting}
use Rattle.ch_watch.specs.Same.{same_node, node_of}

-- a number is open for a monitor or a link, and not for an answer
abbrev pub is_watch : Kind → Bool
is_watch Monitor = true
is_watch Link = true
is_watch Spawn = false
is_watch Ask = false

-- an open number is that one
unfoldable pub has_number : ℕ → Waiting → Bool
has_number number waiting = waiting.number == number

-- an open number is a monitor or link of that owner, under that number
unfoldable pub is_watch_of : ℕ → ℕ → Waiting → Bool
is_watch_of owner number waiting = (waiting.number == number) && ((waiting.owner == owner) && is_watch waiting.kind)

-- an open number awaits something of that node
unfoldable pub awaits : Address → Waiting → Bool
awaits peer waiting = same_node (node_of waiting.target) peer
