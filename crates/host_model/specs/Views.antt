-- What each page shows.
use Rattle.std.specs.Ordering.{nat_cmp, on, then_cmp}
use Rattle.std.specs.Prelude.{◌&&◌, ◌∷◌, List, None, Option, Some, [], filter, filter_map, if◌then◌else◌, is_some, map, option_map, ℕ}
use Rattle.std.specs.declared.cmp.Ordering.{Ordering}
use Rattle.ps_time.specs.Key.{key_cmp}
use Rattle.ps_time.specs.Sorted.{insert_key}
use Rattle.ps_time.specs.Span.{Span, overlap}
use Rattle.ps_time.specs.declared.key.RunKey.{RunKey}
use Rattle.plugin_core.specs.Kind.{kind_class, kind_of_text}
use Rattle.plugin_core.specs.TestSpec.{test_class}
use Rattle.run_states.specs.Life.{state_of}
use Rattle.run_states.specs.Rows.{find_row}
use Rattle.run_states.specs.declared.row.RunRow.{RunRow}
use Rattle.run_states.specs.TaskRows.{is_of_task}
use Rattle.host_model.specs.Book.{Book, find_task, keys_of_rows}
use Rattle.host_model.specs.Effect.{archives_of}
use Rattle.host_model.specs.Propose.{answered}
use Rattle.host_model.specs.declared.config.Config.{Config}
use Rattle.host_model.specs.declared.reply.Outcome.{Outcome}
use Rattle.host_model.specs.declared.reply.Reply.TheVariants.{View as view_reply, NotFound}
use Rattle.host_model.specs.declared.view.Line.{Line}
use Rattle.host_model.specs.declared.view.Page.{Page}
use Rattle.host_model.specs.declared.view.View.{View}
use Rattle.host_model.specs.declared.view.Page.TheVariants as page
use Rattle.host_model.specs.declared.view.View.TheVariants as view

-- ---- tests
-- the test of a name, if there is one
abbrev pub test_view : List ℕ → Option View
test_view name = option_map (λ kind. view.Test name (kind_class kind)) (kind_of_text name)

-- ---- tasks and runs
-- the runs of the host's task that have an interval
abbrev pub runs_of : ℕ → List RunRow → ℕ → List RunKey
runs_of self rows serial = keys_of_rows (filter (λ r. is_of_task self serial r && is_some r.interval) rows)

-- the runs of a task, if there is such a task
abbrev pub runs_view : Config → Book → ℕ → Option View
runs_view c b serial = option_map (λ t. view.Runs (runs_of c.number b.rows serial)) (find_task b.tasks serial)

-- the archivers of its archive states, of which there are none before it is merged
abbrev pub archivers_of : Book → RunRow → List (List ℕ)
archivers_of b r = if is_some r.merged then map (λ a. a.archiver) (archives_of b.tasks r.key) else []

-- a run, with its state at m
abbrev pub run_view : Book → ℕ → RunRow → View
run_view b m r = view.Run r (archivers_of b r) (state_of r m)

-- ---- the schedule
-- by start, then by end, then by key
abbrev pub line_cmp : Line → Line → Ordering
line_cmp = then_cmp (on (λ l. l.interval.start) nat_cmp) (then_cmp (on (λ l. l.interval.end) nat_cmp) (on (λ l. l.key) key_cmp))

-- the lines in this order
abbrev pub in_order : List Line → List Line
in_order [] = []
in_order (l ∷ ls) = insert_key line_cmp (λ line. line) (in_order ls) l

-- the line of a row that overlaps the interval
abbrev pub line_of : ℕ → Span → RunRow → Option Span → Option Line
line_of m w r None = None
line_of m w r (Some s) = if overlap s w then Some (record { key = r.key; class = test_class r.test; interval = s; priority = r.priority; state = state_of r m }) else None

-- the rows that overlap the interval, in order
abbrev pub schedule_lines : List RunRow → ℕ → Span → List Line
schedule_lines rows m w = in_order (filter_map (λ r. line_of m w r r.interval) rows)

-- ---- each page, over a book that is settled at m; None where there is no such test, task or run
abbrev pub view_of : Config → Book → ℕ → Page → Option View
view_of c b m page.Home = Some view.Home
view_of c b m page.Clock = Some (view.Clock m)
view_of c b m page.Tests = Some view.Tests
view_of c b m page.Tools = Some view.Tools
view_of c b m page.Archivers = Some view.Archivers
view_of c b m (page.Test name) = test_view name
view_of c b m page.Tasks = Some (view.Tasks (map (λ t. t.serial) b.tasks))
view_of c b m (page.Task serial) = option_map view.Task (find_task b.tasks serial)
view_of c b m (page.Runs serial) = runs_view c b serial
view_of c b m (page.Run k) = option_map (run_view b m) (find_row b.rows k)
view_of c b m (page.Schedule start end) = Some (view.Schedule (schedule_lines b.rows m (record { start = start; end = end })))

-- what is shown, or that there is nothing
abbrev pub shown : Option View → Outcome
shown None = answered NotFound
shown (Some v) = answered (view_reply v)
