-- What a text of a moment shows, from its parts.
use Rattle.std.proofs.Common.{◌≡◌, ℕ, true, List, drop, Some, refl, codes, false, cond, ◌&&◌, None, Err, ℤ, pos}
use Rattle.ps_time.specs.declared.read_moment.Offset.{Offset}
use Rattle.jiff_core.specs.Calendar.{days_from_civil}
use Rattle.ps_time.specs.declared.moment.Round.{Round}
use Rattle.ps_time.specs.declared.moment.TimeFault.TheVariants.{Range}
use Rattle.ps_time.specs.declared.read_moment.Stamp.{Stamp}
use Rattle.ps_time.specs.Calendar.{is_date, day_of_date}
use Rattle.ps_time.specs.Moment.{seconds_at, offset_of, stamp, stamp_of, on_clock, utc_of, moment_at, moment_shown}
use Rattle.ps_time.specs.Picture.{begins_as}

pub stamp_from : (bs : List ℕ) (seconds : ℕ × ℕ × List ℕ) (offset : Offset) → begins_as (codes "0000-00-00T00:00") bs ≡ true →
    seconds ≡ seconds_at (drop 16 bs) → Some offset ≡ offset_of seconds.2 → Some (stamp bs seconds offset) ≡ stamp_of bs
unfolding stamp_of
stamp_from bs seconds offset form at_sixteen at_end = rw (form, ← at_sixteen, ← at_end) refl

-- a stamp of a day and a time that exist shows the moment at its second in UTC
pub shown_at : (round : Round) (s : Stamp) (day : ℤ) → day_of_date s.year s.month s.day ≡ Some day → on_clock s ≡ true →
    moment_shown round (Some s) ≡ moment_at (utc_of day round s)
shown_at round s day dated clock =
    let number = days_from_civil (pos s.year) s.month s.day in
    elim (is_date s.year s.month s.day) as (λ b. cond b (Some number) None ≡ Some day → cond (b && on_clock s) (moment_at (utc_of number round s)) (Err Range) ≡ moment_at (utc_of day round s)) [
      | true ↦ λ is. let same : number ≡ day = cc in rw (clock, same) refl
      | false ↦ λ is. cc
    ] dated
