use Rattle.std.proofs.Common.{◌≡◌, drop}
use Rattle.host_draft.specs.Draft.{with_draft}
use Rattle.live_law.specs.Waking.{make_asked}
use Rattle.host_turns.specs.Awake.{awake_among}
use Rattle.host_turns.specs.Turns.{IsTurn}
use Rattle.host_turns.proofs.groups.make_asks.Given as goal

-- what is left decides
abbrev pub invariant-loop-task : goal.invariant-loop-task
invariant-loop-task l =
    let m = l.initial.draft.draft.book.moment in
    record {
      left : with_draft (make_asked l.config m (awake_among l.book.number l.book.book.rows m l.tasks) l.initial.draft.draft) l.initial.draft ≡ with_draft (make_asked l.config m (awake_among l.book.number l.book.book.rows m (drop l.task-index l.tasks)) l.draft.draft) l.draft;
      turn : IsTurn l.config l.tasks l.draft;
      at : l.draft.draft.book.moment ≡ m;
    }
