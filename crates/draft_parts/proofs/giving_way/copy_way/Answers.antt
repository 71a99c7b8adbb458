use Rattle.std.proofs.Common.{◌∙◌, ap}
use Rattle.draft_parts.specs.Overlay.{below, over}
use Rattle.draft_parts.proofs.OverLemmas.{below_own, found_touched}
use Rattle.draft_parts.proofs.giving_way.copy_way.Goals as goal

-- the run's own row is one copy more
pub returns-clause-same : goal.returns-clause-same
returns-clause-same c = λ k.
    let gone = c.args.gone.now in
    let book = c.args.book.now.list in
    ap (λ l. over l gone book k) c.in_ok-touch.ensures.ok ∙ (found_touched (below gone book) (below_own gone book) c.touch_conflicts.new.touched.list c.args.run.now.key k ∙ c.touch_conflicts.ensures.same k)
