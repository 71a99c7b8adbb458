use Rattle.std.specs.List.{last_or, slice_get}
use Rattle.std.proofs.Common.{◌∙◌, ◌-◌, None, length, ap, sym}
use Rattle.run_states.proofs.TaskLemmas.{last_get}
use Rattle.host_draft.specs.Draft.{Seen}
use Rattle.host_draft.proofs.hosting.DraftHosting.latest_limits.Goals as goal

-- the last of the epochs, which stay as they were
pub returns : goal.returns
returns c =
    let began = c.self.inside.book.now.book in
    c.last.ensures.value
    ∙ (ap (λ xs. slice_get xs (length xs - 1)) c.epochs.ensures
    ∙ (last_get began.epochs
    ∙ (ap (last_or None) (sym c.self.invariant.epochs)
    ∙ ap (λ (s : Seen). last_or None s.draft.book.epochs) c.self.view_is)))
