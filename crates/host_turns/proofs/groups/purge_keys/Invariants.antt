use Rattle.std.proofs.Common.{◌≡◌, drop}
use Rattle.host_model.specs.Purging.{purge_run}
use Rattle.host_draft.specs.Draft.{with_draft}
use Rattle.live_law.specs.Groups.{make_keys}
use Rattle.host_turns.specs.Turns.{IsTurn}
use Rattle.host_turns.proofs.groups.purge_keys.Given as goal

-- what is left decides
abbrev pub invariant-loop-key : goal.invariant-loop-key
invariant-loop-key l =
    let m = l.initial.draft.draft.book.moment in
    record {
      left : with_draft (make_keys (purge_run l.config m) m l.keys l.initial.draft.draft) l.initial.draft ≡ with_draft (make_keys (purge_run l.config m) m (drop l.key-index l.keys) l.draft.draft) l.draft;
      turn : IsTurn l.config l.tasks l.draft;
      at : l.draft.draft.book.moment ≡ m;
    }
