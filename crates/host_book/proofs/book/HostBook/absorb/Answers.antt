use Rattle.std.proofs.Common.{◌≡◌, ◌∙◌, drop, length, map, ap, ap₂, sym}
use Rattle.host_model.specs.Book.{Book}
use Rattle.live_law.specs.Waking.{wake_in}
use Rattle.host_book.specs.Waking.{extended, renewed, touched}
use Rattle.host_book.proofs.WakeLemmas.{renewed_front, wakes_after}
use Rattle.host_book.proofs.book.HostBook.absorb.Goals as goal

-- only the task that the change is about wakes otherwise, and a new one comes
pub invariant_of-self : goal.invariant_of-self
invariant_of-self c =
    let h = c.self.inside.indexed in
    let ws = c.self.inside.wakes.items in
    let change = c.args.ready.change in
    let new = c.absorb.new.self in
    let front = renewed_front (wake_in new.number new.book.rows) c.touched-task.result new.book.tasks ws c.renew.new.wakes (drop (length c.renew.new.wakes) ws) c.self.inside.wakes.len
    (c.renew.ensures ∙ ap (renewed (wake_in new.number new.book.rows) c.touched-task.result new.book.tasks) c.as_mut_slice.ensures.value) (sym c.as_mut_slice.ensures.len ∙ ap length c.as_mut_slice.ensures.value) in
    let about : c.touched-task.result ≡ touched h.number change = c.touched-task.ensures ∙ ap (λ n. touched n change) c.number.ensures in
    c.extend.ensures.list
    ∙ (ap (extended (wake_in new.number new.book.rows) new.book.tasks) front
    ∙ (ap₂ (λ o l. extended (wake_in new.number new.book.rows) new.book.tasks (renewed (wake_in new.number new.book.rows) o new.book.tasks l)) about c.self.invariant
    ∙ (ap₂ (λ n (b : Book). extended (wake_in n b.rows) b.tasks (renewed (wake_in n b.rows) (touched h.number change) b.tasks (map (wake_in h.number h.book.rows) h.book.tasks))) c.absorb.ensures.number c.absorb.ensures.book
    ∙ (wakes_after h.number h.book.moment h.book change
    ∙ ap₂ (λ n (b : Book). map (wake_in n b.rows) b.tasks) (sym c.absorb.ensures.number) (sym c.absorb.ensures.book)))))
