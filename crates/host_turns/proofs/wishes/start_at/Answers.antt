use Rattle.std.proofs.Common.{◌∙◌, ap, subst, sym}
use Rattle.plugin_core.specs.TestSpec.{test_class}
use Rattle.host_turns.specs.Wishes.{HoldHindering}
use Rattle.host_turns.specs.Turns.{hindering_keys}
use Rattle.host_turns.proofs.KeepLemmas.{hindering_held}
use Rattle.host_turns.proofs.wishes.start_at.Goals as goal

pub start_run-requires-clause-hindering : goal.start_run-requires-clause-hindering
start_run-requires-clause-hindering c =
    let live = c.args.live.now in
    let exclusive = c.args.exclusive.now in
    let rows = c.args.draft.now.draft.book.rows in
    let class = test_class c.in-Some.row.now.test in
    subst (λ ks. HoldHindering class ks rows) (sym (c.hindering_keys-keys.ensures ∙ ap (λ x. hindering_keys x live exclusive) c.class_of.ensures)) (hindering_held live exclusive rows c.requires.active c.requires.exclusive_held class)
