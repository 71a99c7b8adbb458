use Rattle.std.specs.Prelude.{filter_map}
use Rattle.std.proofs.Common.{◌∷◌, ◌∙◌, ap, map, sym}
use Rattle.run_states.specs.declared.answer.FreeAnswer.{FreeAnswer}
use Rattle.run_states.specs.declared.answer.Other.{Other}
use Rattle.slot_search.specs.CommonStart.{earliest}
use Rattle.host_model.specs.Plan.{answers_of, common_start, startable_window}
use Rattle.lead_core.proofs.plan.common_start.Goals as goal

pub returns-in_ok-lists-in-Some : goal.returns-in_ok-lists-in-Some
returns-in_ok-lists-in-Some c =
    let lists = c.in_ok-lists-in-Some.ensures ∙ ap (λ os. map (λ (a : FreeAnswer). a.tiers) (c.args.own.now ∷ filter_map (λ (o : Other). o.free) os)) c.as_slice.ensures in
    c.earliest_from.ensures
    ∙ (ap (earliest (startable_window c.args.moment c.in-Some.question)) (c.as_slice-in-Some.ensures ∙ lists)
    ∙ sym (ap (λ q. common_start c.args.moment q (c.args.own.now ∷ answers_of c.args.row.now)) c.in-Some.is))
