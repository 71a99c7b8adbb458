use Rattle.std.proofs.Common.{◌≡◌, sym, subst}
use Rattle.host_model.specs.Heard.{meaning_of}
use Rattle.lead_orders.proofs.hear.meaning_of.Goals as goal

pub returns-in-Free : goal.returns-in-Free
returns-in-Free c = subst (λ b. c.meaning_to_question.result ≡ meaning_of b c.args.answer) (sym c.in-Free.is) (c.meaning_to_question.ensures c.in-Free.field-0)

pub returns-in-Propose : goal.returns-in-Propose
returns-in-Propose c = subst (λ b. c.meaning_to_proposal.result ≡ meaning_of b c.args.answer) (sym c.in-Propose.is) (c.meaning_to_proposal.ensures c.in-Propose.field-0)

pub returns-in-Material : goal.returns-in-Material
returns-in-Material c = subst (λ b. c.meaning_to_material.result ≡ meaning_of b c.args.answer) (sym c.in-Material.is) (c.meaning_to_material.ensures c.in-Material.field-0)
