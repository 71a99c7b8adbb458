use Rattle.std.proofs.Common.{◌≡◌, drop}
use Rattle.host_draft.specs.Draft.{with_draft}
use Rattle.live_law.specs.Groups.{make_keys}
use Rattle.host_turns.specs.Turns.{IsLiveTurn, wish_of}
use Rattle.host_turns.proofs.wishes.Turn.make_due.Given as goal

-- what is left decides
abbrev pub invariant-loop-key : goal.invariant-loop-key
invariant-loop-key l =
    let m = l.initial.draft.draft.book.moment in
    let wish = wish_of l.due l.self.config.now m in
    record {
      left : with_draft (make_keys wish m l.self.live.now l.initial.draft.draft) l.initial.draft ≡ with_draft (make_keys wish m (drop l.key-index l.self.live.now) l.draft.draft) l.draft;
      turn : IsLiveTurn l.self.config.now l.self.tasks.now l.self.live.now l.self.exclusive.now l.draft;
      at : l.draft.draft.book.moment ≡ m;
    }
