use Rattle.std.proofs.Common.{◌≡◌, ◌∙◌, sym, ap, true, Some, rules, FitsSigned, w64}
use Rattle.std.proofs.lemmas.Int.{to_z-of_z}
use Rattle.ps_time.specs.Calendar.{day_of_date}
use Rattle.ps_time.specs.Moment.{on_clock, moment_at}
use Rattle.ps_time.proofs.MomentLemmas.{shown_at}
use Rattle.ps_time.proofs.read_moment.moment_of_stamp.Goals as goal

pub returns-clause-value : goal.returns-clause-value
returns-clause-value c =
    let s = c.args.stamp.now in
    let day : FitsSigned w64 c.in_ok-day.day = search rules in
    let dated : day_of_date s.year s.month s.day ≡ Some c.in_ok-day.day = search rules in
    let clock : on_clock s ≡ true = sym c.is_on_clock.ensures ∙ c.if-not-is_on_clock.false in
    let second = simp to_z-of_z at c.utc_second.ensures in
    let fits : FitsSigned w64 c.utc_second.result = search rules in
    let within = simp to_z-of_z at c.moment_within.ensures.value in
    within ∙ ap moment_at second ∙ sym (shown_at c.args.round s c.in_ok-day.day dated clock)
