use Rattle.std.proofs.Common.{◌∙◌, ap, subst}
use Rattle.run_states.specs.Rows.{IsAscendingRows}
use Rattle.run_states.specs.TaskRows.{number_of}
use Rattle.run_states.proofs.TaskLemmas.{greatest_last}
use Rattle.host_draft.specs.Draft.{Seen}
use Rattle.host_draft.proofs.hosting.DraftHosting.greatest_number.Goals as goal

pub returns-clause-ascending : goal.returns-clause-ascending
returns-clause-ascending c = subst (λ (s : Seen). IsAscendingRows s.draft.book.rows) c.self.view_is c.self.invariant.lawful.ascending

-- numbers of a task rise
pub returns-clause-number : goal.returns-clause-number
returns-clause-number c =
    let up = subst (λ (s : Seen). IsAscendingRows s.draft.book.rows) c.self.view_is c.self.invariant.lawful.ascending in
    c.number_of.ensures ∙ (ap number_of c.newest.ensures ∙ greatest_last c.args.lead c.args.serial c.args.self.now.draft.book.rows up)
