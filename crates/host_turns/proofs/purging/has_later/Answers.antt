use Rattle.std.proofs.Common.{sym, ap, ◌∙◌}
use Rattle.std.specs.Ordering.{is_lt}
use Rattle.host_turns.proofs.PurgeLemmas.{is_above, later_newest}
use Rattle.host_turns.proofs.purging.has_later.Goals as goal

pub returns-in-Some : goal.returns-in-Some
returns-in-Some g c =
    c.is_lt.ensures ∙ (ap is_lt c.order.ensures ∙ (ap (is_above c.args.key) c.in-Some.ensures ∙ sym (later_newest c.args.key (g.R.Reading.seen c.args.book.now) c.requires)))

pub returns-in-None : goal.returns-in-None
returns-in-None g c = ap (is_above c.args.key) c.in-None.ensures ∙ sym (later_newest c.args.key (g.R.Reading.seen c.args.book.now) c.requires)
