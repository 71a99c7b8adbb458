use Rattle.std.proofs.Common.{◌∙◌, ◌-◌, take, drop, ap, sym}
use Rattle.host_timeline.specs.Lane.{how_many}
use Rattle.host_timeline.proofs.LaneLemmas.{between_all, none_between}
use Rattle.host_timeline.proofs.lane.between.Goals as goal

-- none starts before an end that isn't behind the first moment
pub returns-then-not-starts_by : goal.returns-then-not-starts_by
returns-then-not-starts_by c test others =
    let bookings = c.args.bookings.now.list in
    ap (how_many test) (c.part.ensures ∙ ap (take 0) c.in_order.ensures) ∙ none_between bookings c.args.from c.args.until test others (sym c.starts_by.ensures ∙ c.if-not-starts_by.true)

-- those in front start too early, those at the end too late
pub returns : goal.returns
returns c test others =
    let bookings = c.args.bookings.now.list in
    let first = c.starting_before-first.result in
    let end = c.start_by-end.result in
    ap (how_many test) (c.part-2.ensures ∙ ap (λ l. take (end - first) (drop first l)) c.in_order-2.ensures)
    ∙ between_all bookings c.args.from c.args.until first end test others c.starting_before-first.ensures.parted c.start_by-end.ensures.behind c.start_by-end.ensures.others
