use Rattle.std.proofs.Common.{arith}
use Rattle.ps_json.proofs.TreeLemmas.{parsed_text, tree_text}
use Rattle.ps_json.proofs.tree.write_tree.Goals as goal

pub returns-clause-parses : goal.returns-clause-parses
returns-clause-parses c = λ shallow. parsed_text _ _ c.in_ok-to_vec.ensures.utf8 (c.in_ok-to_vec.ensures.reads_back shallow)

pub returns-clause-reads : goal.returns-clause-reads
returns-clause-reads c = λ shallow. tree_text _ _ c.in_ok-to_vec.ensures.utf8 (c.in_ok-to_vec.ensures.reads_back (omega arith)) shallow
