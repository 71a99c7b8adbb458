use Rattle.plugin_tool.proofs.ChoiceLemmas.{choice_of, none_of}
use Rattle.plugin_tool.proofs.choice.choose_tool.Goals as goal

pub returns-clause-choice : goal.returns-clause-choice
returns-clause-choice c = choice_of c.args.lists.now c.args.wanted.now c.chosen.result c.chosen.ensures

pub returns-clause-none : goal.returns-clause-none
returns-clause-none c = none_of c.args.lists.now c.args.wanted.now c.chosen.result c.chosen.ensures
