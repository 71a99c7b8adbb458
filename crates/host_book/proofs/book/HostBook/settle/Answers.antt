use Rattle.std.proofs.Common.{◌∙◌, ap₂, map, sym}
use Rattle.live_law.specs.Waking.{wake_in}
use Rattle.host_book.proofs.WakeLemmas.{wakes_settled}
use Rattle.host_book.proofs.book.HostBook.settle.Goals as goal

-- tasks wake as before
pub invariant_of-self : goal.invariant_of-self
invariant_of-self c =
    let h = c.self.inside.indexed in
    c.self.invariant ∙ (sym (wakes_settled h.number c.args.moment h.book.rows h.book.tasks) ∙ ap₂ (λ n b. map (wake_in n b.rows) b.tasks) (sym c.settle.ensures.number) (sym c.settle.ensures.book))
