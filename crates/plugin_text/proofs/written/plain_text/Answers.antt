use Rattle.std.proofs.Common.{ap, subst, ◌∙◌}
use Rattle.std.specs.Str.{IsUtf8}
use Rattle.ps_json.specs.Tree.{tree_of}
use Rattle.plugin_text.proofs.BackLemmas.{text_back}
use Rattle.plugin_text.proofs.StraightLemmas.{test_straight}
use Rattle.plugin_text.proofs.written.plain_text.Goals as goal

pub returns-clause-text : goal.returns-clause-text
returns-clause-text c = c.in_ok-text.ensures.text ∙ test_straight c.args.test.now c.requires.test c.requires.plain

pub returns-clause-tree : goal.returns-clause-tree
returns-clause-tree c =
    let same = c.in_ok-text.ensures.text ∙ test_straight c.args.test.now c.requires.test c.requires.plain in
    ap tree_of same ∙ text_back c.args.test.now (subst IsUtf8 same c.in_ok-text.ensures.utf8)
