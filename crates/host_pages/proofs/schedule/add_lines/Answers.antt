use Rattle.std.proofs.Common.{◌≡◌, ◌∙◌, ◌++◌, List, Some, Option, find, sym, ap, append-nil}
use Rattle.std.specs.List.{filter_map}
use Rattle.ps_time.specs.declared.key.RunKey.{RunKey}
use Rattle.host_timeline.specs.Booking.{is_after}
use Rattle.host_model.specs.Book.{keys_of_rows}
use Rattle.host_model.specs.declared.view.Line.{Line}
use Rattle.host_inputs.specs.Runs.{keys_after}
use Rattle.host_inputs.proofs.WalkLemmas.{all_left, fewer, keys_up, next_is, none_left}
use Rattle.host_pages.specs.Walks.{line_at}
use Rattle.host_pages.proofs.ShownLemmas.{one_more, one_passed}
use Rattle.host_pages.proofs.schedule.add_lines.Goals as goal

pub loop-key-init : goal.loop-key-init
loop-key-init g c =
    let rows = g.R.Reading.seen c.args.book.now in
    let shown : RunKey → Option Line = line_at (g.R.Reading.at c.args.book.now) (record { start = c.args.start; end = c.args.end }) rows in
    ap (λ ks. c.args.lines.now.items ++ filter_map shown ks) (all_left (keys_of_rows rows))

-- the next run's line is added, and those above it are left
pub loop-key-preserved-in_ok-push : goal.loop-key-preserved-in_ok-push
loop-key-preserved-in_ok-push g c =
    let rows = g.R.Reading.seen c.args.book.now in
    let shown : RunKey → Option Line = line_at (g.R.Reading.at c.args.book.now) (record { start = c.args.start; end = c.args.end }) rows in
    let keys : List RunKey = keys_of_rows rows in
    let key : RunKey = c.in-Some.key in
    let found : find (is_after c.loop-key.last) keys ≡ Some key = sym c.next_row.ensures.key ∙ c.in-Some.is in
    let next = next_is c.loop-key.last keys key (keys_up rows c.next_row.ensures.ascending) found in
    one_more shown key (keys_after (Some key) keys) c.loop-key.lines.items c.in-Some-line_at.line c.push.new.self.items (sym c.line_at.ensures ∙ c.in-Some-line_at.is) c.in_ok-push.ensures.items
    ∙ (ap (λ ks. c.loop-key.lines.items ++ filter_map shown ks) (sym next) ∙ c.loop-key.invariant)

-- a run beside the interval adds nothing
pub loop-key-preserved : goal.loop-key-preserved
loop-key-preserved g c =
    let rows = g.R.Reading.seen c.args.book.now in
    let shown : RunKey → Option Line = line_at (g.R.Reading.at c.args.book.now) (record { start = c.args.start; end = c.args.end }) rows in
    let keys : List RunKey = keys_of_rows rows in
    let key : RunKey = c.in-Some.key in
    let found : find (is_after c.loop-key.last) keys ≡ Some key = sym c.next_row.ensures.key ∙ c.in-Some.is in
    let next = next_is c.loop-key.last keys key (keys_up rows c.next_row.ensures.ascending) found in
    one_passed shown key (keys_after (Some key) keys) c.loop-key.lines.items (sym c.line_at.ensures ∙ c.in_default-line_at.is)
    ∙ (ap (λ ks. c.loop-key.lines.items ++ filter_map shown ks) (sym next) ∙ c.loop-key.invariant)

pub loop-key-smaller-in_ok-push : goal.loop-key-smaller-in_ok-push
loop-key-smaller-in_ok-push g c =
    let rows = g.R.Reading.seen c.args.book.now in
    let keys : List RunKey = keys_of_rows rows in
    let found : find (is_after c.loop-key.last) keys ≡ Some c.in-Some.key = sym c.next_row.ensures.key ∙ c.in-Some.is in
    fewer c.loop-key.last keys c.in-Some.key (keys_up rows c.next_row.ensures.ascending) found

pub loop-key-smaller : goal.loop-key-smaller
loop-key-smaller g c =
    let rows = g.R.Reading.seen c.args.book.now in
    let keys : List RunKey = keys_of_rows rows in
    let found : find (is_after c.loop-key.last) keys ≡ Some c.in-Some.key = sym c.next_row.ensures.key ∙ c.in-Some.is in
    fewer c.loop-key.last keys c.in-Some.key (keys_up rows c.next_row.ensures.ascending) found

-- none is left
pub returns-clause-list : goal.returns-clause-list
returns-clause-list g c =
    let rows = g.R.Reading.seen c.args.book.now in
    let shown : RunKey → Option Line = line_at (g.R.Reading.at c.args.book.now) (record { start = c.args.start; end = c.args.end }) rows in
    let keys : List RunKey = keys_of_rows rows in
    let none = none_left c.loop-key.last keys (sym c.next_row.ensures.key ∙ c.in_default.is) in
    sym (append-nil c.loop-key.lines.items) ∙ (ap (λ ks. c.loop-key.lines.items ++ filter_map shown ks) (sym none) ∙ c.loop-key.invariant)
