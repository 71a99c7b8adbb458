-- What is asked of a change that a step makes and reads on.
pub use Rattle.draft_parts.specs.ReadOn.{HasTests, IsReadOn}
use Rattle.std.specs.Prelude.{◌≡◌, Some, true, ℕ}
use Rattle.host_model.specs.Apply.{apply}
use Rattle.host_model.specs.Draft.{make}
use Rattle.host_model.specs.Lawful.{Lawful}
use Rattle.host_model.specs.MayFollow.{CanApply}
use Rattle.host_model.specs.RecordLength.{change_bytes}
use Rattle.host_model.specs.declared.change.Change.{Change}
use Rattle.host_draft.specs.Draft.{Seen, admits, with_draft}

-- the draft after a change is made, where there is place for it
abbrev pub made_in : Change → Seen → Seen
made_in c s = with_draft (make s.draft.book.moment (Some c) s.draft) s

-- the change can be made, leaves a lawful book, takes so many bytes, and there is place for it
pub record IsAdmitted (length : ℕ) (c : Change) (s : Seen) : Type 0 where
  pub can : CanApply s.draft.book c
  pub lawful : Lawful s.number (apply s.draft.book.moment c s.draft.book)
  pub bytes : length ≡ change_bytes c
  pub admits : admits length s.draft ≡ true
