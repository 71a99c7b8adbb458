use Rattle.std.proofs.Common.{refl, rules}
use Rattle.std.proofs.lemmas.Result.{IfOk-weaker}
use Rattle.psched_top.proofs.OutcomeLemmas.{comes_unread, rehearsed_of, unread_fails}
use Rattle.psched_top.proofs.psched.rehearse_source.Goals as goal

pub returns-in-Ok-clause-rehearsed : goal.returns-in-Ok-clause-rehearsed
returns-in-Ok-clause-rehearsed g c =
    IfOk-weaker c.rehearse_bytes.result _ _ (λ outcome safe zero. rehearsed_of _ _ _ _ outcome c.in-Ok.ensures.all (search rules)) c.rehearse_bytes.ensures.safe

pub returns-in-Err-clause-comes : goal.returns-in-Err-clause-comes
returns-in-Err-clause-comes g c =
    IfOk-weaker c.without_input.result _ _ (λ outcome is. comes_unread _ _ _ (g.S.Source.left c.read_all.new.source) _ _ c.in-Err.fault outcome refl
    (λ e. c.read_all.ensures.too_long (search rules)) (λ e. c.read_all.ensures.held_more (search rules)) (λ e. c.read_all.ensures.fault (search rules)) is) c.without_input.ensures

pub returns-in-Err-clause-rehearsed : goal.returns-in-Err-clause-rehearsed
returns-in-Err-clause-rehearsed g c =
    IfOk-weaker c.without_input.result _ _ (λ outcome is zero. absurd (unread_fails _ outcome is zero)) c.without_input.ensures
