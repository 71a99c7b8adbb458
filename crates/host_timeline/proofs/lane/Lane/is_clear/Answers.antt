use Rattle.std.proofs.Common.{◌≡◌, ◌∙◌, true, false, ap, sym}
use Rattle.std.specs.List.{list_all}
use Rattle.host_timeline.specs.Lane.{Lane, how_many, reaches, starts_by}
use Rattle.host_timeline.proofs.LaneLemmas.{none_near}
use Rattle.host_timeline.proofs.Tests.{not_true}
use Rattle.host_timeline.proofs.lane.Lane.is_clear.Goals as goal

-- none starts before the end
pub returns : goal.returns
returns c test outside is =
    let seen : c.self.inside.bookings.list ≡ c.args.self.now.list = ap (λ (l : Lane). l.list) c.self.view_is in
    let reach : list_all (reaches c.args.earliest c.args.from) c.self.inside.bookings.list ≡ true = ap (list_all (reaches c.args.earliest c.args.from)) seen ∙ c.requires in
    let over : starts_by c.args.until c.args.earliest ≡ false = sym c.starts_by.ensures ∙ not_true c.starts_by.result is in
    ap (how_many test) (sym seen) ∙ none_near c.self.inside.bookings.list c.self.inside.longest c.args.earliest c.args.from c.args.until test c.self.invariant reach outside over
