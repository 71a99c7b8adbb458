use Rattle.std.proofs.Common.{◌≡◌, ◌++◌, ℕ, List, Option, Some, None}
use Rattle.std.specs.Fmt.{AppendsText, WritesText}
use Rattle.std.proofs.lemmas.Fmt.{contents_after_writes}
use Rattle.rehearsal_report.proofs.report.ReportText.write_fmt.Goals as goal

-- each call that a writer makes appends, so all of them do
appended : (old new : List ℕ) (text : Option (List ℕ)) → WritesText (λ s bs t. t ≡ s ++ bs) old text new → AppendsText old new text
appended old new None wrote = tt
appended old new (Some bs) wrote = contents_after_writes (λ s bs t. t ≡ s ++ bs) (λ s. s) (λ _ _ _ t. t) old bs new wrote

pub returns-in-Ok : goal.returns-in-Ok
returns-in-Ok g c = appended _ _ _ c.in-Ok.ensures.writes
