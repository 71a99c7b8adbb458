use Rattle.std.proofs.Common.{◌≡◌, ◌∙◌, ◌++◌, List, Some, find, sym, ap, append-nil}
use Rattle.ps_time.specs.declared.key.RunKey.{RunKey}
use Rattle.host_timeline.specs.Booking.{is_after}
use Rattle.host_inputs.specs.Runs.{canceled_runs, keys_after, runs_of_task}
use Rattle.host_inputs.proofs.WalkLemmas.{all_left, fewer, next_is, none_left, runs_up}
use Rattle.host_inputs.proofs.CancelLemmas.{one_changed, one_passed}
use Rattle.host_inputs.proofs.cancel.cancel_runs.Goals as goal

pub loop-key-init : goal.loop-key-init
loop-key-init g c =
    let rows = g.R.Reading.seen c.args.book.now in
    ap (λ ks. c.args.list.now ++ canceled_runs c.args.lead c.args.serial rows ks) (all_left (runs_of_task c.args.lead c.args.serial rows))

-- the next run's change is listed, and those of the runs above it are left
pub loop-key-preserved-in_ok-push : goal.loop-key-preserved-in_ok-push
loop-key-preserved-in_ok-push g c =
    let rows = g.R.Reading.seen c.args.book.now in
    let runs : List RunKey = runs_of_task c.args.lead c.args.serial rows in
    let key : RunKey = c.in-Some.key in
    let found : find (is_after c.loop-key.last) runs ≡ Some key = sym c.next_of_task.ensures.key ∙ c.in-Some.is in
    let next = next_is c.loop-key.last runs key (runs_up c.args.lead c.args.serial rows c.next_of_task.ensures.ascending) found in
    one_changed c.args.lead c.args.serial rows key (keys_after (Some key) runs) c.loop-key.list c.in-Some-cancel_run.change c.push.new.self (sym c.cancel_run.ensures ∙ c.in-Some-cancel_run.is) c.in_ok-push.ensures.ok
    ∙ (ap (λ ks. c.loop-key.list ++ canceled_runs c.args.lead c.args.serial rows ks) (sym next) ∙ c.loop-key.invariant)

-- a run that stays as it is lists nothing
pub loop-key-preserved : goal.loop-key-preserved
loop-key-preserved g c =
    let rows = g.R.Reading.seen c.args.book.now in
    let runs : List RunKey = runs_of_task c.args.lead c.args.serial rows in
    let key : RunKey = c.in-Some.key in
    let found : find (is_after c.loop-key.last) runs ≡ Some key = sym c.next_of_task.ensures.key ∙ c.in-Some.is in
    let next = next_is c.loop-key.last runs key (runs_up c.args.lead c.args.serial rows c.next_of_task.ensures.ascending) found in
    one_passed c.args.lead c.args.serial rows key (keys_after (Some key) runs) c.loop-key.list (sym c.cancel_run.ensures ∙ c.in_default-cancel_run.is)
    ∙ (ap (λ ks. c.loop-key.list ++ canceled_runs c.args.lead c.args.serial rows ks) (sym next) ∙ c.loop-key.invariant)

pub loop-key-smaller-in_ok-push : goal.loop-key-smaller-in_ok-push
loop-key-smaller-in_ok-push g c =
    let rows = g.R.Reading.seen c.args.book.now in
    let runs : List RunKey = runs_of_task c.args.lead c.args.serial rows in
    let found : find (is_after c.loop-key.last) runs ≡ Some c.in-Some.key = sym c.next_of_task.ensures.key ∙ c.in-Some.is in
    fewer c.loop-key.last runs c.in-Some.key (runs_up c.args.lead c.args.serial rows c.next_of_task.ensures.ascending) found

pub loop-key-smaller : goal.loop-key-smaller
loop-key-smaller g c =
    let rows = g.R.Reading.seen c.args.book.now in
    let runs : List RunKey = runs_of_task c.args.lead c.args.serial rows in
    let found : find (is_after c.loop-key.last) runs ≡ Some c.in-Some.key = sym c.next_of_task.ensures.key ∙ c.in-Some.is in
    fewer c.loop-key.last runs c.in-Some.key (runs_up c.args.lead c.args.serial rows c.next_of_task.ensures.ascending) found

-- none is left
pub returns-clause-list : goal.returns-clause-list
returns-clause-list g c =
    let rows = g.R.Reading.seen c.args.book.now in
    let runs : List RunKey = runs_of_task c.args.lead c.args.serial rows in
    let none = none_left c.loop-key.last runs (sym c.next_of_task.ensures.key ∙ c.in_default.is) in
    sym (append-nil c.loop-key.list) ∙ (ap (λ ks. c.loop-key.list ++ canceled_runs c.args.lead c.args.serial rows ks) (sym none) ∙ c.loop-key.invariant)
