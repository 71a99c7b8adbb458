use Rattle.std.proofs.Common.{◌∙◌, Bool, ap, filter, not, rules, tests}
use Rattle.std.proofs.lemmas.Fn.{filter_same}
use Rattle.host_timeline.specs.Booking.{conflicts_with}
use Rattle.host_timeline.specs.declared.booking.Booking.{Booking}
use Rattle.draft_parts.specs.Overlay.{hides}
use Rattle.draft_parts.proofs.FilterLemmas.{filter_twice}
use Rattle.draft_parts.proofs.gather.bare_beside.Goals as goal

-- those that are near, and then those of them that aren't hidden
pub returns : goal.returns
returns c =
    let bare : Booking → Bool = λ b. not (hides c.args.touched.now.list c.args.gone.now b.key) in
    filter_same _ bare _ (λ x b f' k. search (rules, tests)) _ _ c.retain.ensures.filtered
    ∙ ap (filter bare) c.in_ok-made.ensures
    ∙ filter_twice (conflicts_with c.args.class c.args.interval.now) bare c.args.timeline.now.list
