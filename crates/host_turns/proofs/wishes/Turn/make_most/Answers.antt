use Rattle.std.proofs.lemmas.Result.{on_ok_weaker}
use Rattle.host_turns.proofs.TurnLemmas.{five}
use Rattle.host_turns.proofs.wishes.Turn.make_most.Goals as goal

pub returns-clause-made : goal.returns-clause-made
returns-clause-made c =
    on_ok_weaker c.make_asks.result
    (five c.args.self.now.config.now c.args.self.now.live.now c.args.book.now.number c.args.book.now.book.rows c.args.self.now.tasks.now c.args.draft.now c.make_due.new.draft c.make_due-2.new.draft c.make_due-3.new.draft c.make_due-4.new.draft c.make_asks.new.draft
    c.in_ok-make_due.ensures.made c.in_ok-make_due-2.ensures.made c.in_ok-make_due-3.ensures.made c.in_ok-make_due-4.ensures.made)
    c.make_asks.ensures.made
