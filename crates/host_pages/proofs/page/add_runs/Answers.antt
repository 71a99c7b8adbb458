use Rattle.std.proofs.Common.{◌≡◌, ◌∙◌, ◌++◌, List, Some, find, sym, ap, append-nil}
use Rattle.std.specs.List.{filter_map}
use Rattle.ps_time.specs.declared.key.RunKey.{RunKey}
use Rattle.host_timeline.specs.Booking.{is_after}
use Rattle.host_inputs.specs.Runs.{keys_after, runs_of_task}
use Rattle.host_inputs.proofs.WalkLemmas.{all_left, fewer, next_is, none_left, runs_up}
use Rattle.host_pages.specs.Walks.{run_at}
use Rattle.host_pages.proofs.ShownLemmas.{one_more, one_passed}
use Rattle.host_pages.proofs.page.add_runs.Goals as goal

pub loop-key-init : goal.loop-key-init
loop-key-init g c =
    let rows = g.R.Reading.seen c.args.book.now in
    ap (λ ks. c.args.runs.now ++ filter_map (run_at rows) ks) (all_left (runs_of_task c.args.lead c.args.serial rows))

-- the next run is shown, and those above it are left
pub loop-key-preserved-in_ok-push : goal.loop-key-preserved-in_ok-push
loop-key-preserved-in_ok-push g c =
    let rows = g.R.Reading.seen c.args.book.now in
    let keys : List RunKey = runs_of_task c.args.lead c.args.serial rows in
    let key : RunKey = c.in-Some.key in
    let found : find (is_after c.loop-key.last) keys ≡ Some key = sym c.next_of_task.ensures.key ∙ c.in-Some.is in
    let next = next_is c.loop-key.last keys key (runs_up c.args.lead c.args.serial rows c.next_of_task.ensures.ascending) found in
    one_more (run_at rows) key (keys_after (Some key) keys) c.loop-key.runs c.in-Some-run_at.shown c.push.new.self (sym c.run_at.ensures ∙ c.in-Some-run_at.is) c.in_ok-push.ensures.ok
    ∙ (ap (λ ks. c.loop-key.runs ++ filter_map (run_at rows) ks) (sym next) ∙ c.loop-key.invariant)

-- a run without an interval isn't
pub loop-key-preserved : goal.loop-key-preserved
loop-key-preserved g c =
    let rows = g.R.Reading.seen c.args.book.now in
    let keys : List RunKey = runs_of_task c.args.lead c.args.serial rows in
    let key : RunKey = c.in-Some.key in
    let found : find (is_after c.loop-key.last) keys ≡ Some key = sym c.next_of_task.ensures.key ∙ c.in-Some.is in
    let next = next_is c.loop-key.last keys key (runs_up c.args.lead c.args.serial rows c.next_of_task.ensures.ascending) found in
    one_passed (run_at rows) key (keys_after (Some key) keys) c.loop-key.runs (sym c.run_at.ensures ∙ c.in_default-run_at.is)
    ∙ (ap (λ ks. c.loop-key.runs ++ filter_map (run_at rows) ks) (sym next) ∙ c.loop-key.invariant)

pub loop-key-smaller-in_ok-push : goal.loop-key-smaller-in_ok-push
loop-key-smaller-in_ok-push g c =
    let rows = g.R.Reading.seen c.args.book.now in
    let keys : List RunKey = runs_of_task c.args.lead c.args.serial rows in
    let found : find (is_after c.loop-key.last) keys ≡ Some c.in-Some.key = sym c.next_of_task.ensures.key ∙ c.in-Some.is in
    fewer c.loop-key.last keys c.in-Some.key (runs_up c.args.lead c.args.serial rows c.next_of_task.ensures.ascending) found

pub loop-key-smaller : goal.loop-key-smaller
loop-key-smaller g c =
    let rows = g.R.Reading.seen c.args.book.now in
    let keys : List RunKey = runs_of_task c.args.lead c.args.serial rows in
    let found : find (is_after c.loop-key.last) keys ≡ Some c.in-Some.key = sym c.next_of_task.ensures.key ∙ c.in-Some.is in
    fewer c.loop-key.last keys c.in-Some.key (runs_up c.args.lead c.args.serial rows c.next_of_task.ensures.ascending) found

-- none is left
pub returns-clause-list : goal.returns-clause-list
returns-clause-list g c =
    let rows = g.R.Reading.seen c.args.book.now in
    let keys : List RunKey = runs_of_task c.args.lead c.args.serial rows in
    let none = none_left c.loop-key.last keys (sym c.next_of_task.ensures.key ∙ c.in_default.is) in
    sym (append-nil c.loop-key.runs) ∙ (ap (λ ks. c.loop-key.runs ++ filter_map (run_at rows) ks) (sym none) ∙ c.loop-key.invariant)
