-- Names that are declared, each at an address of its own, and the lines of declared nodes.
use Rattle.std.specs.Prelude.{◌≡◌, ℕ, Bool, not, ◌&&◌, List, [], ◌∷◌, find, is_some, None}
use Rattle.std.specs.Str.{bytes_eq}
use Rattle.ch_watch.specs.Same.{same_node}
use Rattle.ch_model.specs.declared.line.What.{What}
use Rattle.ch_model.specs.declared.line.What.TheVariants as lines
use Rattle.ch_model.specs.Naming.{is_named}
use Rattle.ch_model.specs.Same.{node_of}
use Rattle.ch_model.specs.WorldState.{Named}
use Rattle.ch_laws_log.specs.Lines.{is_of_network}

-- no two names are at one address
abbrev pub AreApart : List Named → Type 0
AreApart [] = Unit {0}
AreApart (named ∷ rest) = (find (λ (other : Named). same_node named.address other.address) rest ≡ None) × AreApart rest

-- the name is declared
abbrev pub is_declared : List Named → List ℕ → Bool
is_declared known name = is_some (find (is_named name) known)

-- The line is of a declared node that is shut or makes a process, or of a process of one: what it says, takes and
-- opens, what it watches, which names it registers, what it spawns, and its end. What it says and watches is of a
-- declared node, and it spawns at one. It asks for names, and dooms, at other nodes alone. Or the line is of the network.
abbrev pub begins_own : List Named → What → Bool
begins_own known (lines.Proc node) = is_declared known node
begins_own known (lines.Shut node) = is_declared known node
begins_own known (lines.Send by to mark body) = is_declared known by.node && is_declared known (node_of to)
begins_own known (lines.Nsend by to mark body) = is_declared known by.node && is_declared known (node_of to)
begins_own known (lines.Again by to) = is_declared known by.node && is_declared known (node_of to)
begins_own known (lines.Recv by mark) = is_declared known by.node
begins_own known (lines.Port by) = is_declared known by.node
begins_own known (lines.Take by port) = is_declared known by.node
begins_own known (lines.End by) = is_declared known by.node
begins_own known (lines.Fail by text) = is_declared known by.node
begins_own known (lines.Fall by) = is_declared known by.node
begins_own known (lines.Monitor by target) = is_declared known by.node && is_declared known target.node
begins_own known (lines.Link by target) = is_declared known by.node && is_declared known target.node
begins_own known (lines.Unwatch by watch) = is_declared known by.node && is_declared known watch.node
begins_own known (lines.Register by name) = is_declared known by.node
begins_own known (lines.Unregister by name) = is_declared known by.node
begins_own known (lines.Spawn by at label args) = is_declared known by.node && is_declared known at
begins_own known (lines.Whereis by at name) = not (bytes_eq by.node at) && is_declared known by.node && is_declared known at
begins_own known (lines.Exit by target text) = not (bytes_eq by.node target.node)
begins_own known (lines.Kill by target text) = not (bytes_eq by.node target.node)
begins_own known what = is_of_network what
