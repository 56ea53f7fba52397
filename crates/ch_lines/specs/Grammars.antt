-- Which lines each grammar has.
use Rattle.std.specs.Prelude.{List, ◌∷◌, [], ◌++◌, codes}
use Rattle.ch_model.specs.Lines.{Built, LineWord, reads, acting, happening, whole}
use Rattle.ch_model.specs.LinesBuilt.{one_node, many_nodes}
use Rattle.ch_model.specs.LinesOfPeers.{monitor_line, link_line, unwatch_line, exit_line, kill_line, spawn_line, whereis_line}
use Rattle.ch_lines.specs.declared.grammar.Grammar.{Grammar}
use Rattle.ch_lines.specs.declared.grammar.Grammar.TheVariants.{OneNode, ManyNodes, Whole}

-- the lines of a grammar
abbrev pub built_of : Grammar → Built
built_of OneNode = one_node
built_of ManyNodes = many_nodes
built_of Whole = whole

-- ---- the words of the whole grammar from a place on, in its order

-- from the lines of processes on
abbrev pub from_acting : List LineWord
from_acting = acting ++ happening

-- from the lines by which a process acts on another, or asks a node, on
abbrev pub from_watching : List LineWord
from_watching =
    reads (codes "monitor") monitor_line ∷ reads (codes "link") link_line ∷ reads (codes "unwatch") unwatch_line ∷ reads (codes "exit") exit_line
    ∷ reads (codes "kill") kill_line ∷ reads (codes "spawn") spawn_line ∷ reads (codes "whereis") whereis_line ∷ happening
