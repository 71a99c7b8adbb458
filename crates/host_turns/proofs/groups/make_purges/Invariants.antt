use Rattle.std.proofs.Common.{◌≡◌}
use Rattle.host_model.specs.Purging.{purge_run}
use Rattle.host_draft.specs.Draft.{with_draft}
use Rattle.live_law.specs.Groups.{going_keys, make_keys}
use Rattle.host_turns.specs.Turns.{IsTurn}
use Rattle.host_turns.proofs.groups.make_purges.Given as goal

-- what is left decides
abbrev pub invariant-loop-row : goal.invariant-loop-row
invariant-loop-row l =
    let m = l.initial.draft.draft.book.moment in
    record {
      left : with_draft (make_keys (purge_run l.config m) m (going_keys l.config.number m l.fn.rows) l.initial.draft.draft) l.initial.draft ≡ with_draft (make_keys (purge_run l.config m) m (going_keys l.config.number m l.row-iterator) l.draft.draft) l.draft;
      turn : IsTurn l.config l.tasks l.draft;
      at : l.draft.draft.book.moment ≡ m;
    }
