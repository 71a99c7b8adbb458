use Rattle.std.proofs.Common.{◌∙◌}
use Rattle.std.proofs.lemmas.Result.{on_ok_weaker}
use Rattle.host_turns.proofs.TurnLemmas.{all_purged, live_purged}
use Rattle.host_turns.proofs.wishes.Turn.make_last.Goals as goal

pub returns-then-looks_at_all : goal.returns-then-looks_at_all
returns-then-looks_at_all c =
    let host = c.args.book.now in
    on_ok_weaker c.make_purges.result
    (all_purged c.args.self.now.config.now host.number c.args.moment host.book c.requires.number c.rows-rows.ensures.lawful c.args.self.now.live.now c.args.draft.now c.requires.live c.requires.made c.in_order.result c.make_purges.new.draft
    (c.in_order.ensures.rows ∙ c.rows-rows.ensures.list))
    c.make_purges.ensures

pub returns-else-looks_at_all : goal.returns-else-looks_at_all
returns-else-looks_at_all c =
    let host = c.args.book.now in
    let none = c.looks_at_all.ensures c.if-looks_at_all.false in
    on_ok_weaker c.purge_keys.result
    (live_purged c.args.self.now.config.now host.number c.args.moment host.book c.requires.number c.rows-rows.ensures.lawful c.args.self.now.live.now c.args.draft.now c.requires.live c.requires.made c.purge_keys.new.draft none.0 none.1)
    c.purge_keys.ensures
