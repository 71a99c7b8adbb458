use Rattle.ps_json.proofs.TreeLemmas.{parsed_utf8}
use Rattle.ps_json.proofs.tree.write_text.Goals as goal

pub unreachable-requires : goal.unreachable-requires
unreachable-requires c = let no = c.in-Err.ensures.succeeds (parsed_utf8 _ _ (c.in_ok-write_tree.ensures.parses c.requires.flat)) in cc
