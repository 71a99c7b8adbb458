use Rattle.std.proofs.Common.{◌≡◌, ◌∙◌, ◌-◌, max, true, ap}
use Rattle.std.specs.List.{list_all}
use Rattle.host_timeline.specs.Lane.{Lane, FailsOthers, how_many, reaches, starts_between}
use Rattle.host_timeline.proofs.LaneLemmas.{others_pass}
use Rattle.host_timeline.proofs.lane.Lane.near.Goals as goal

-- none is longer than the longest
pub returns : goal.returns
returns c test outside =
    let seen : c.self.inside.bookings.list ≡ c.args.self.now.list = ap (λ (l : Lane). l.list) c.self.view_is in
    let reach : list_all (reaches c.args.earliest c.args.from) c.self.inside.bookings.list ≡ true = ap (list_all (reaches c.args.earliest c.args.from)) seen ∙ c.requires in
    let others : FailsOthers c.self.inside.bookings.list (starts_between (max (c.args.from - c.self.inside.longest) c.args.earliest) c.args.until) test = others_pass c.self.inside.bookings.list c.self.inside.longest c.args.earliest c.args.from c.args.until test c.self.invariant reach outside in
    c.between.ensures test (rw (c.max-first.ensures, c.saturating_sub.ensures) others) ∙ ap (how_many test) seen
