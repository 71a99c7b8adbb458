use Rattle.std.specs.Option.{option_copied}
use Rattle.std.proofs.Common.{◌∙◌, ap, sym}
use Rattle.run_states.specs.Rows.{find_row}
use Rattle.replay_check.proofs.FitLemmas.{found_test, plan_fits}
use Rattle.replay_check.proofs.comes.fits_planned.Goals as goal

pub may_plan-requires : goal.may_plan-requires
may_plan-requires c =
    let book = c.args.book.now in
    let at = ap (λ rows. find_row rows c.args.key) (sym c.rows.ensures.list) ∙ (sym c.find.ensures ∙ ap option_copied c.in-Some.is) in
    found_test c.args.number book.number book.book c.rows.ensures.lawful c.args.key c.args.start c.args.tool.now c.args.epoch c.in-Some.row.now at

pub returns-in-Some : goal.returns-in-Some
returns-in-Some c =
    let book = c.args.book.now in
    let at = ap (λ rows. find_row rows c.args.key) (sym c.rows.ensures.list) ∙ (sym c.find.ensures ∙ ap option_copied c.in-Some.is) in
    let both = plan_fits c.args.number book.number book.book c.rows.ensures.lawful c.args.key c.args.start c.args.tool.now c.args.epoch c.in-Some.row.now at in
    (λ is. both.0 (c.may_plan.ensures.0 is), λ fits. c.may_plan.ensures.1 (both.1 fits))
