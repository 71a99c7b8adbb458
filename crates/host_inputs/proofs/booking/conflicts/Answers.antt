use Rattle.std.proofs.Common.{◌≡◌, ◌∙◌, ◌∷◌, ◌++◌, [], List, None, Some, find, sym, ap, append_assoc, append-nil}
use Rattle.ps_time.specs.declared.key.RunKey.{RunKey}
use Rattle.run_states.specs.Preemption.{conflicts}
use Rattle.host_timeline.specs.Booking.{is_after}
use Rattle.host_model.specs.Book.{keys_of_rows}
use Rattle.host_inputs.specs.Runs.{keys_after}
use Rattle.host_inputs.proofs.WalkLemmas.{all_left, conflicts_up, fewer, next_is, none_left}
use Rattle.host_inputs.proofs.booking.conflicts.Goals as goal

pub loop-key-init : goal.loop-key-init
loop-key-init g c =
    let all : List RunKey = keys_of_rows (conflicts c.args.run c.args.class c.args.interval.now (g.R.Reading.seen c.args.book.now)) in
    ap (λ ks. ks ++ keys_after None all) c.new-keys.ensures ∙ all_left all

-- the next key is listed, and those above it are left
pub loop-key-preserved : goal.loop-key-preserved
loop-key-preserved g c =
    let rows = g.R.Reading.seen c.args.book.now in
    let all : List RunKey = keys_of_rows (conflicts c.args.run c.args.class c.args.interval.now rows) in
    let key : RunKey = c.in-Some.key in
    let found : find (is_after c.loop-key.last) all ≡ Some key = sym c.next_conflict.ensures ∙ c.in-Some.is in
    let next = next_is c.loop-key.last all key (conflicts_up c.args.run c.args.class c.args.interval.now rows c.requires.ascending) found in
    ap (λ ks. ks ++ keys_after (Some key) all) c.in_ok-push.ensures.ok
    ∙ (append_assoc c.loop-key.keys (key ∷ []) (keys_after (Some key) all)
    ∙ (ap (λ ks. c.loop-key.keys ++ ks) (sym next) ∙ c.loop-key.invariant))

pub loop-key-smaller : goal.loop-key-smaller
loop-key-smaller g c =
    let rows = g.R.Reading.seen c.args.book.now in
    let all : List RunKey = keys_of_rows (conflicts c.args.run c.args.class c.args.interval.now rows) in
    let found : find (is_after c.loop-key.last) all ≡ Some c.in-Some.key = sym c.next_conflict.ensures ∙ c.in-Some.is in
    fewer c.loop-key.last all c.in-Some.key (conflicts_up c.args.run c.args.class c.args.interval.now rows c.requires.ascending) found

-- none is left
pub returns : goal.returns
returns g c =
    let all : List RunKey = keys_of_rows (conflicts c.args.run c.args.class c.args.interval.now (g.R.Reading.seen c.args.book.now)) in
    let none = none_left c.loop-key.last all (sym c.next_conflict.ensures ∙ c.in_default.is) in
    sym (append-nil c.loop-key.keys) ∙ (ap (λ ks. c.loop-key.keys ++ ks) (sym none) ∙ c.loop-key.invariant)
