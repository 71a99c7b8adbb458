use Rattle.std.proofs.Common.{◌≡◌, ◌∙◌, ◌++◌, List, Some, Option, find, sym, ap, append-nil}
use Rattle.std.specs.List.{filter_map}
use Rattle.ps_time.specs.declared.key.RunKey.{RunKey}
use Rattle.host_timeline.specs.Booking.{is_after}
use Rattle.host_model.specs.Book.{keys_of_rows}
use Rattle.host_model.specs.declared.change.Change.{Change}
use Rattle.host_inputs.specs.Kept.{book_of}
use Rattle.host_inputs.specs.Runs.{keys_after}
use Rattle.host_inputs.proofs.WalkLemmas.{all_left, fewer, keys_up, next_is, none_left}
use Rattle.host_pages.proofs.ShownLemmas.{one_more, one_passed}
use Rattle.host_core.specs.Restarts.{restart_at}
use Rattle.host_core.proofs.opening.add_restarts.Goals as goal

pub loop-key-init : goal.loop-key-init
loop-key-init g c =
    let rows = g.R.Reading.seen c.args.book.now in
    let ends : RunKey → Option Change = restart_at c.args.config.now (book_of (g.R.Reading.at c.args.book.now) rows (g.R.Hosting.kept c.args.book.now)) in
    ap (λ ks. c.args.list.now ++ filter_map ends ks) (all_left (keys_of_rows rows))

-- the next run ends, and those above it are left
pub loop-key-preserved-in_ok-push : goal.loop-key-preserved-in_ok-push
loop-key-preserved-in_ok-push g c =
    let rows = g.R.Reading.seen c.args.book.now in
    let ends : RunKey → Option Change = restart_at c.args.config.now (book_of (g.R.Reading.at c.args.book.now) rows (g.R.Hosting.kept c.args.book.now)) in
    let keys : List RunKey = keys_of_rows rows in
    let key : RunKey = c.in-Some.key in
    let found : find (is_after c.loop-key.last) keys ≡ Some key = sym c.next_row.ensures.key ∙ c.in-Some.is in
    let next = next_is c.loop-key.last keys key (keys_up rows c.next_row.ensures.ascending) found in
    one_more ends key (keys_after (Some key) keys) c.loop-key.list c.in-Some-2.change c.push.new.self (sym c.in_ok-change.ensures ∙ c.in-Some-2.is) c.in_ok-push.ensures.ok
    ∙ (ap (λ ks. c.loop-key.list ++ filter_map ends ks) (sym next) ∙ c.loop-key.invariant)

-- one that isn't active changes nothing
pub loop-key-preserved : goal.loop-key-preserved
loop-key-preserved g c =
    let rows = g.R.Reading.seen c.args.book.now in
    let ends : RunKey → Option Change = restart_at c.args.config.now (book_of (g.R.Reading.at c.args.book.now) rows (g.R.Hosting.kept c.args.book.now)) in
    let keys : List RunKey = keys_of_rows rows in
    let key : RunKey = c.in-Some.key in
    let found : find (is_after c.loop-key.last) keys ≡ Some key = sym c.next_row.ensures.key ∙ c.in-Some.is in
    let next = next_is c.loop-key.last keys key (keys_up rows c.next_row.ensures.ascending) found in
    one_passed ends key (keys_after (Some key) keys) c.loop-key.list (sym c.in_ok-change.ensures ∙ c.in_default-2.is)
    ∙ (ap (λ ks. c.loop-key.list ++ filter_map ends ks) (sym next) ∙ c.loop-key.invariant)

pub loop-key-smaller-in_ok-push : goal.loop-key-smaller-in_ok-push
loop-key-smaller-in_ok-push g c =
    let rows = g.R.Reading.seen c.args.book.now in
    let keys : List RunKey = keys_of_rows rows in
    let found : find (is_after c.loop-key.last) keys ≡ Some c.in-Some.key = sym c.next_row.ensures.key ∙ c.in-Some.is in
    fewer c.loop-key.last keys c.in-Some.key (keys_up rows c.next_row.ensures.ascending) found

pub loop-key-smaller : goal.loop-key-smaller
loop-key-smaller g c =
    let rows = g.R.Reading.seen c.args.book.now in
    let keys : List RunKey = keys_of_rows rows in
    let found : find (is_after c.loop-key.last) keys ≡ Some c.in-Some.key = sym c.next_row.ensures.key ∙ c.in-Some.is in
    fewer c.loop-key.last keys c.in-Some.key (keys_up rows c.next_row.ensures.ascending) found

-- none is left
pub returns-clause-list : goal.returns-clause-list
returns-clause-list g c =
    let rows = g.R.Reading.seen c.args.book.now in
    let ends : RunKey → Option Change = restart_at c.args.config.now (book_of (g.R.Reading.at c.args.book.now) rows (g.R.Hosting.kept c.args.book.now)) in
    let keys : List RunKey = keys_of_rows rows in
    let none = none_left c.loop-key.last keys (sym c.next_row.ensures.key ∙ c.in_default.is) in
    sym (append-nil c.loop-key.list) ∙ (ap (λ ks. c.loop-key.list ++ filter_map ends ks) (sym none) ∙ c.loop-key.invariant)
