-- The lines that the grammar of many nodes reads: which they are, and that what they name is declared.
use Rattle.std.specs.Prelude.{◌≡◌, Bool, false, ◌&&◌, List, [], ◌∷◌, find, None, nat_lt}
use Rattle.ch_model.specs.declared.line.What.{What}
use Rattle.ch_model.specs.declared.line.What.TheVariants as lines
use Rattle.ch_model.specs.declared.name.TargetName.TheVariants as targets
use Rattle.ch_model.specs.Fields.{is_node_name_of}
use Rattle.ch_model.specs.Naming.{is_named}
use Rattle.ch_model.specs.WorldState.{Named}
use Rattle.ch_laws_log.specs.Declared.{is_declared}

-- The line declares a node under a node's name, is of a declared node or a process of one, which sends to a process of a
-- declared node, takes or ends; or it joins a socket of declared nodes, takes it, or feeds it some bytes.
abbrev pub is_of_many : List Named → What → Bool
is_of_many known (lines.Node name address unique) = is_node_name_of name
is_of_many known (lines.Proc node) = is_declared known node
is_of_many known (lines.Send by (targets.Process to) mark body) = is_declared known by.node && is_declared known to.node
is_of_many known (lines.Recv by mark) = is_declared known by.node
is_of_many known (lines.End by) = is_declared known by.node
is_of_many known (lines.Join sock) = is_declared known sock.from && is_declared known sock.to
is_of_many known (lines.Come sock) = is_declared known sock.from && is_declared known sock.to
is_of_many known (lines.Feed sock end count) = is_declared known sock.from && is_declared known sock.to && nat_lt 0 count
is_of_many known what = false

-- no name is declared twice
abbrev pub AreNamedApart : List Named → Type 0
AreNamedApart [] = Unit {0}
AreNamedApart (named ∷ rest) = (find (is_named named.name) rest ≡ None) × AreNamedApart rest
