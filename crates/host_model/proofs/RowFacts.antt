-- What is known of the rows of a lawful book, in the words of those who change them.
use Rattle.std.specs.Cmp.Derive.{both_true}
use Rattle.std.specs.Prelude.{IfSome, IsNone, IsSome, IsTrue, MatchOption}
use Rattle.std.proofs.Common.{◌≡◌, ℕ, true, not, List, Option, Some, None, is_some, refl, sym, subst, ap}
use Rattle.ps_time.specs.declared.key.RunKey.{RunKey}
use Rattle.ps_time.proofs.PictureLemmas.{and_true}
use Rattle.run_states.specs.LawfulRow.{HasLife, HasOrigin, Needs}
use Rattle.run_states.specs.Life.{is_booked, may_take}
use Rattle.run_states.specs.Rows.{find_row}
use Rattle.run_states.specs.declared.life.LifeStep.TheVariants.{Close}
use Rattle.run_states.specs.declared.row.RunRow.{RunRow}
use Rattle.run_states.specs.declared.why.Why.{Why}
use Rattle.host_model.specs.Book.{Book}
use Rattle.host_model.specs.Lawful.{Lawful}
use Rattle.host_model.specs.LawfulRow.{HasLead, IsHostRow}
use Rattle.host_model.specs.MayFollow.{WithRow}
use Rattle.host_model.specs.declared.task_row.TaskRow.{TaskRow}
use Rattle.host_model.proofs.RowLemmas.{found_of_all}
use Rattle.host_model.proofs.Wishes.{none_of}

pub with_row : (b : Book) (k : RunKey) (P : RunRow → Type 0) (r : RunRow) → find_row b.rows k ≡ Some r → P r → WithRow b k P
with_row b k P r at holds = subst (λ o. MatchOption o ⊥ P) (sym at) holds

pub lawful_at : (self : ℕ) (b : Book) → Lawful self b → (k : RunKey) (r : RunRow) → find_row b.rows k ≡ Some r → IsHostRow self b.tasks b.moment r
lawful_at self b lawful k r at = found_of_all (IsHostRow self b.tasks b.moment) k r b.rows lawful.rows at

-- ---- where it stands in its life
pub may_close : (why : Why) (r : RunRow) → r.started ≡ None → r.closed ≡ None → IsTrue (may_take (Close why) r)
may_close why r unstarted unclosed = both_true (ap (λ o. not (is_some o)) unclosed) (ap (λ o. not (is_some o)) unstarted)

pub booked_row : (r : RunRow) → is_booked r ≡ true → IsSome r.accepted × (r.closed ≡ None)
booked_row r booked = let both = and_true (is_some r.accepted) (not (is_some r.closed)) booked in (both.0, none_of r.closed both.1)

-- what isn't confirmed isn't started
pub unstarted : (r : RunRow) → HasLife r → IsNone r.confirmed → r.started ≡ None
unstarted r life unconfirmed = go r.started life.started
  where
    go : (o : Option ℕ) → IfSome o (λ m. IsSome r.confirmed × IsNone r.closed) → o ≡ None
    go None has = refl
    go (Some s) has = let is : is_some r.confirmed ≡ true = has.0 in cc

-- what isn't accepted isn't confirmed
pub unconfirmed : (r : RunRow) → HasLife r → IsNone r.accepted → IsNone r.confirmed
unconfirmed r life unaccepted = go r.confirmed life.confirmed
  where
    go : (o : Option ℕ) → Needs o r.accepted → IsNone o
    go None has = refl
    go (Some s) has = let is : is_some r.accepted ≡ true = has in cc

-- a row of another lead was accepted
pub accepted_there : (self : ℕ) (tasks : List TaskRow) (m : ℕ) (r : RunRow) → IsHostRow self tasks m r → (r.key.lead ≡ self → ⊥) → IsSome r.accepted
accepted_there self tasks m r row other = go r.asked row.lead row.row.origin
  where
    go : (o : Option ℕ) → HasLead self tasks r o → HasOrigin r o → IsSome r.accepted
    go None led has = has.0
    go (Some asked) led has = absurd (other led.0)
