-- A journal of one node among those of many: its log is that of the model of one node, and so lawful.
use Rattle.std.specs.Prelude.{◌≡◌, ℕ, ◌+◌, List, take, None, Ok}
use Rattle.std.proofs.Common.{sym, ◌∙◌}
use Rattle.ch_model.specs.declared.entry.Entry.{Entry}
use Rattle.ch_model.specs.Journal.{journal_of, first_fault, raw_lines, longest_journal}
use Rattle.ch_model.specs.Lawful.{IsPromised}
use Rattle.ch_model.specs.LinesBuilt.{many_nodes}
use Rattle.ch_model.specs.World.{log_of as whole_log_of}
use Rattle.ch_one_node.specs.World.{log_of}
use Rattle.ch_laws_one_node.specs.Lawful.{IsLawful}
use Rattle.ch_laws_one_node.specs.OneNode.{IsOfOneNode, FitFrames}
use Rattle.ch_laws_one_node.specs.Places.{AreNumbered}
use Rattle.ch_laws_one_node.proofs.Law.{lawful_log}
use Rattle.ch_laws_one_node.proofs.Places.{all_numbered}
use Rattle.ch_laws_one_node.proofs.Blocks.{without_fault}
use Rattle.ch_laws_one_node.proofs.WholeModel.{same_log}
use Rattle.ch_laws_one_node.proofs.WholeLaw.{GoesFurther, lawful_of_one_node, sharper_of_one_node}
use Rattle.ch_laws_lines.proofs.ManyNodes.{all_many_framed}

pub many_fit : (bytes : List ℕ) → FitFrames (journal_of many_nodes bytes)
many_fit bytes = all_many_framed (raw_lines (take (longest_journal + 1) bytes))

pub many_numbered : (bytes : List ℕ) → AreNumbered 1 (journal_of many_nodes bytes) None
many_numbered bytes = without_fault 1 (journal_of many_nodes bytes) (first_fault many_nodes bytes) (all_numbered many_nodes (raw_lines (take (longest_journal + 1) bytes)))

pub one_same_log : (bytes : List ℕ) → IsOfOneNode (journal_of many_nodes bytes) → whole_log_of (journal_of many_nodes bytes) ≡ log_of (journal_of many_nodes bytes)
one_same_log bytes of = same_log (journal_of many_nodes bytes) of (many_fit bytes)

-- the log of the model of one node
pub one_log : (bytes : List ℕ) (log : List Entry) → IsOfOneNode (journal_of many_nodes bytes) → whole_log_of (journal_of many_nodes bytes) ≡ Ok log → log_of (journal_of many_nodes bytes) ≡ Ok log
one_log bytes log of is = sym (one_same_log bytes of) ∙ is

pub one_lawful : (bytes : List ℕ) (log : List Entry) → IsOfOneNode (journal_of many_nodes bytes) → whole_log_of (journal_of many_nodes bytes) ≡ Ok log → IsLawful (journal_of many_nodes bytes) log
one_lawful bytes log of is = lawful_log (journal_of many_nodes bytes) log of (one_log bytes log of is)

pub one_promised : (bytes : List ℕ) (log : List Entry) → IsOfOneNode (journal_of many_nodes bytes) → whole_log_of (journal_of many_nodes bytes) ≡ Ok log → IsPromised (journal_of many_nodes bytes) log
one_promised bytes log of is = lawful_of_one_node 1 (journal_of many_nodes bytes) log of (many_fit bytes) (many_numbered bytes) (one_log bytes log of is)

-- and it goes further
pub one_further : (bytes : List ℕ) (log : List Entry) → IsOfOneNode (journal_of many_nodes bytes) → whole_log_of (journal_of many_nodes bytes) ≡ Ok log → GoesFurther (journal_of many_nodes bytes) log
one_further bytes log of is = sharper_of_one_node 1 (journal_of many_nodes bytes) log of (many_fit bytes) (many_numbered bytes) (one_log bytes log of is)
