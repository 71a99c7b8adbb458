-- What a turn wishes for, and what its draft keeps through its groups.
use Rattle.std.specs.Prelude.{◌≡◌, Bool, IsSome, List, None, Option, Some, false, filter, true, ℕ}
use Rattle.ps_time.specs.Class.{conflicting_classes}
use Rattle.ps_time.specs.declared.class.Class.{Class}
use Rattle.ps_time.specs.declared.class.Class.TheVariants.{Exclusive, Normal}
use Rattle.ps_time.specs.declared.key.RunKey.{RunKey}
use Rattle.plugin_core.specs.TestSpec.{test_class}
use Rattle.limit_apply.specs.Limits.{LimitsConfig as Limits}
use Rattle.run_states.specs.Rows.{find_row}
use Rattle.run_states.specs.declared.row.RunRow.{RunRow}
use Rattle.host_rows.specs.LiveKeys.{find_own}
use Rattle.host_model.specs.Apply.{apply}
use Rattle.host_model.specs.Book.{Book, limits_in}
use Rattle.host_model.specs.Ending.{end_run}
use Rattle.host_model.specs.Lawful.{Lawful}
use Rattle.host_model.specs.MayFollow.{CanApply}
use Rattle.host_model.specs.Merging.{merge_run}
use Rattle.host_model.specs.Plan.{plan_run}
use Rattle.host_model.specs.Starting.{start_run}
use Rattle.host_model.specs.declared.change.Change.{Change}
use Rattle.host_model.specs.declared.config.Config.{Config}
use Rattle.host_model.specs.declared.task_row.TaskRow.{TaskRow}
use Rattle.host_draft.specs.Draft.{Seen}
use Rattle.host_draft.specs.Making.{IsReadOn}
use Rattle.host_turns.specs.Wishes.{HoldActive}
use Rattle.host_turns.specs.declared.due.Due.{Due}
use Rattle.host_turns.specs.declared.due.Due.TheVariants.{End, Merge, Start, Plan}

-- the change that is due of a run, if there is one
abbrev pub wish_of : Due → Config → ℕ → Book → RunRow → Option Change
wish_of End c m b r = end_run c m b r
wish_of Merge c m b r = merge_run c m b r
wish_of Start c m b r = start_run m b r
wish_of Plan c m b r = plan_run c m b r

-- a lawful book of the host with this configuration, where these limits are in force and these tasks stand
pub record IsOfHost (c : Config) (in_force : Limits) (known : List TaskRow) (b : Book) : Type 0 where
  pub lawful : Lawful c.number b
  pub limits : limits_in c b ≡ in_force
  pub tasks : b.tasks ≡ known

-- the draft of such a book
pub record IsTurn (c : Config) (known : List TaskRow) (s : Seen) : Type 0 where
  pub number : s.number ≡ c.number
  pub book : IsOfHost c s.limits known s.draft.book

-- an exclusive run is there
abbrev pub is_exclusive_at : Option RunRow → Bool
is_exclusive_at None = false
is_exclusive_at (Some r) = conflicting_classes (test_class r.test) Normal

-- those of these keys that are of exclusive runs
abbrev pub exclusive_keys : List RunRow → List RunKey → List RunKey
exclusive_keys rows ks = filter (λ k. is_exclusive_at (find_row rows k)) ks

-- each of the first keys that is of an exclusive run is among the others
abbrev pub HoldExclusive : List RunKey → List RunKey → List RunRow → Type 0
HoldExclusive live exclusive rows = (k : RunKey) (r : RunRow) → find_row rows k ≡ Some r → conflicting_classes (test_class r.test) Normal ≡ true → IsSome (find_own live k) → IsSome (find_own exclusive k)

-- the keys of what may hinder a run of this class: runs that aren't exclusive hinder only exclusive ones
abbrev pub hindering_keys : Class → List RunKey → List RunKey → List RunKey
hindering_keys Exclusive live exclusive = live
hindering_keys _ live exclusive = exclusive

-- the same, where every active run's key is one of the live ones, and every exclusive one's of those also among the others
pub record IsLiveTurn (c : Config) (known : List TaskRow) (live exclusive : List RunKey) (s : Seen) : Type 0 where
  pub turn : IsTurn c known s
  pub active : HoldActive live s.draft.book.rows
  pub exclusive_held : HoldExclusive live exclusive s.draft.book.rows

-- a draft can make this change
pub record MayMake (s : Seen) (x : Change) : Type 0 where
  pub kind : IsReadOn x
  pub can : CanApply s.draft.book x
  pub lawful : Lawful s.number (apply s.draft.book.moment x s.draft.book)
