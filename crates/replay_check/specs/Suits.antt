-- What a change brings to a lawful book, so that the book is lawful after it.
use Rattle.std.specs.Prelude.{◌≡◌, IsNone, IsSome, List, MatchOption, ℕ}
use Rattle.ps_time.specs.declared.key.RunKey.{RunKey}
use Rattle.archive_retry.specs.Merge.{IsResult, IsTreeText}
use Rattle.run_states.specs.LawfulRow.{IsFreeAnswer}
use Rattle.run_states.specs.declared.answer.Other.{Other}
use Rattle.run_states.specs.declared.row.RunRow.{RunRow}
use Rattle.host_model.specs.Book.{Book}
use Rattle.host_model.specs.Heard.{other_at}
use Rattle.host_model.specs.MayFollow.{CanApply, WithRow}
use Rattle.host_model.specs.declared.change.Change.{Change}
use Rattle.host_model.specs.declared.change.Change.TheVariants.{FreeHeard, Merged, ResultHeard}
use Rattle.host_model.proofs.Brings.{Brings}

-- this holds of what is known of the participant at a place of the row
abbrev pub WithOther : Book → RunKey → ℕ → (Other → Type 0) → Type 0
WithOther b k place P = WithRow b k (λ r. MatchOption (other_at r place) ⊥ P)

-- what is merged for the first time is a text of a run that this host leads and that ended
abbrev pub IsFirstMerge : ℕ → RunKey → List ℕ → RunRow → Type 0
IsFirstMerge self k body r = IsNone r.merged → IsTreeText body × (k.lead ≡ self) × IsSome r.ended

-- what is heard or merged already stays, so it may come again in any form
abbrev pub Suits : ℕ → Book → Change → Type 0
Suits self b (FreeHeard k place answer) = WithOther b k place (λ o. IsNone o.free → IsFreeAnswer answer)
Suits self b (ResultHeard k place result) = WithOther b k place (λ o. IsNone o.heard → IsResult result)
Suits self b (Merged k body) = WithRow b k (IsFirstMerge self k body)
Suits self b c = Brings self b.moment b c

-- it can be applied, and suits the book
abbrev pub FitsBook : ℕ → Book → Change → Type 0
FitsBook self b c = CanApply b c × Suits self b c
