-- The report on a table, and the pages of its listing.
use Rattle.std.specs.Prelude.{◌-◌, ◌*◌, ◌/◌, ℕ, Bool, ◌==◌, ◌&&◌, nat_le, nat_lt, List, [], ◌++◌, length, filter, take, drop, if◌then◌else◌, codes}
use Rattle.std.specs.Fmt.{decimal}
use Rattle.std.specs.List.{flat_map}
use Rattle.std.specs.Ordering.{nat_cmp, on, then_cmp}
use Rattle.std.specs.declared.cmp.Ordering.{Ordering}
use Rattle.ps_time.specs.Id.{id_text}
use Rattle.ps_time.specs.Moment.{day_text_of, moment_text_of}
use Rattle.ps_time.specs.declared.id.Id.TheVariants.{Task, Run}
use Rattle.result_table.specs.Tally.{counts_of, counts_by, counts_text, counted_in, counted_one, none_counted}
use Rattle.result_table.specs.declared.record.Record.{Record}
use Rattle.result_table.specs.declared.report.TaskKey.{TaskKey}
use Rattle.result_table.specs.declared.tally.Counts.{Counts}

-- the records whose first result came in [from, to)
abbrev pub is_within : ℕ → ℕ → Record → Bool
is_within from to r = nat_le from r.since && nat_lt r.since to

abbrev pub records_within : ℕ → ℕ → List Record → List Record
records_within from to table = filter (is_within from to) table

-- the task of a record; tasks are ordered by their lead, and then by their number there
abbrev pub task_of : Record → TaskKey
task_of r = record { lead = r.key.lead; task = r.key.task }

abbrev pub task_cmp : TaskKey → TaskKey → Ordering
task_cmp = then_cmp (on (λ k. k.lead) nat_cmp) (on (λ k. k.task) nat_cmp)

-- the day on which a record's first result came, in UTC: days since 1970-01-01
abbrev pub day_of : Record → ℕ
day_of r = r.since / 86_400

-- `task ID` and the counts
abbrev pub task_line : TaskKey × Counts → List ℕ
task_line e = codes "task " ++ id_text (Task e.0.lead e.0.task) ++ counts_text e.1 ++ codes "\n"

-- `day YYYY-MM-DD` and the counts
abbrev pub day_line : ℕ × Counts → List ℕ
day_line e = codes "day " ++ day_text_of (e.0 * 86_400) ++ counts_text e.1 ++ codes "\n"

-- `total` and the counts
abbrev pub total_line : Counts → List ℕ
total_line counts = codes "total" ++ counts_text counts ++ codes "\n"

-- a line for each task by lead and task, one for each day, and the total
abbrev pub report_of : List Record → List ℕ
report_of rs = flat_map task_line (counts_by task_cmp task_of rs) ++ flat_map day_line (counts_by nat_cmp day_of rs) ++ total_line (counts_of rs)

-- the report on the records whose first result came in [from, to)
abbrev pub report_text : List Record → ℕ → ℕ → List ℕ
report_text table from to = report_of (records_within from to table)

-- `ID SINCE LATEST good|bad N`, with N the bytes of the body
abbrev pub good_text : Bool → List ℕ
good_text good = if good then codes "good" else codes "bad"

abbrev pub record_line : Record → List ℕ
record_line r =
    id_text (Run r.key) ++ codes " " ++ moment_text_of r.since ++ codes " " ++ moment_text_of r.latest ++ codes " " ++ good_text r.good
    ++ codes " " ++ decimal (length r.body) ++ codes "\n"

-- the page with this number, the first being 1: fifty records, or those that are left
abbrev pub page_of : List Record → ℕ → List Record
page_of table page = take 50 (drop ((page - 1) * 50) table)

abbrev pub listing_text : List Record → ℕ → List ℕ
listing_text table page = flat_map record_line (page_of table page)

-- ---- one record after another

-- the bounds, and the counts so far
pub record TallyState : Type 0 where
  pub from : ℕ
  pub to : ℕ
  pub tasks : List (TaskKey × Counts)
  pub days : List (ℕ × Counts)
  pub total : Counts

abbrev pub no_tally : ℕ → ℕ → TallyState
no_tally from to = record { from = from; to = to; tasks = []; days = []; total = none_counted }

abbrev pub with_record : TallyState → Record → TallyState
with_record s r = record {
  from = s.from;
  to = s.to;
  tasks = counted_in task_cmp s.tasks (task_of r) r.good;
  days = counted_in nat_cmp s.days (day_of r) r.good;
  total = counted_one s.total r.good;
}

abbrev pub tallied : TallyState → Record → TallyState
tallied s r = if is_within s.from s.to r then with_record s r else s

-- the text of the counts
abbrev pub tally_text : TallyState → List ℕ
tally_text s = flat_map task_line s.tasks ++ flat_map day_line s.days ++ total_line s.total

-- how many records are still to be skipped, how many are still to be listed, and the lines so far
pub record PageState : Type 0 where
  pub skip : ℕ
  pub left : ℕ
  pub text : List ℕ

abbrev pub listed : PageState → Record → PageState
listed s r =
    if s.left == 0 then s
    else if s.skip == 0 then record { skip = s.skip; left = s.left - 1; text = s.text ++ record_line r }
    else record { skip = s.skip - 1; left = s.left; text = s.text }
