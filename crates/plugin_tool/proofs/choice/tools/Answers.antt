use Rattle.plugin_tool.proofs.ChoiceLemmas.{every_tool}
use Rattle.plugin_tool.proofs.choice.tools.Goals as goal

pub returns-clause-every : goal.returns-clause-every
returns-clause-every c = every_tool
