use Rattle.std.proofs.Common.{◌≡◌, ◌≤◌, ◌*◌, ◌∷◌, ◌∙◌, sym, string_bytes}
use Rattle.std.specs.List.{flat_map}
use Rattle.std.proofs.lemmas.List.{append_assoc}
use Rattle.std.proofs.lemmas.List.Elements.{All-drop}
use Rattle.ps_time.specs.Numbers.{greatest_moment}
use Rattle.result_table.specs.Report.{day_line}
use Rattle.result_table.proofs.report.Tally.add_days.Goals as goal

pub loop-day-preserved : goal.loop-day-preserved
loop-day-preserved c =
    let steps : c.loop-day.day-iterator ≡ (c.in-Some.day.now, c.in-Some.counts.now) ∷ c.next.new.self = c.in-Some.ensures.steps in
    let all = rw steps at c.loop-day.invariant.days in
    record {
      text = rw c.in_ok-add_day.ensures (c.loop-day.invariant.text ∙ rw steps (sym (append_assoc (string_bytes c.loop-day.text) (day_line (c.in-Some.day.now, c.in-Some.counts.now)) (flat_map day_line c.next.new.self))));
      days = All-drop (λ e. e.0 * 86_400 ≤ greatest_moment) 1 ((c.in-Some.day.now, c.in-Some.counts.now) ∷ c.next.new.self) all;
    }
