use Rattle.std.proofs.Common.{◌≡◌, ◌∙◌, List, true, false, ap, subst, sym}
use Rattle.std.specs.List.Sorted.{IsPartitionPoint}
use Rattle.std.specs.Ordering.{is_lt}
use Rattle.ps_time.specs.Key.{key_cmp}
use Rattle.ps_time.proofs.KeyLemmas.{key_cmp_same, key_cmp_total}
use Rattle.host_timeline.specs.declared.booking.Booking.{Booking}
use Rattle.host_timeline.proofs.FoundLemmas.{there}
use Rattle.host_timeline.proofs.timeline.last_place.Goals as goal

-- its key is on it alone
pub returns : goal.returns
returns c =
    let xs = c.args.bookings.now.list in
    let e = c.last_cell.result.now in
    let at = c.below.result in
    let seen : c.of.result ≡ xs = c.of.ensures ∙ c.in_order.ensures in
    let parted = subst (λ (l : List Booking). IsPartitionPoint (λ b. is_lt (key_cmp b.key e.key) ≡ true) (λ b. is_lt (key_cmp b.key e.key) ≡ false) l at) seen c.below.ensures.parted in
    there key_cmp_total (λ b. b.key) xs c.requires.ascending e.key at parted c.args.bookings.now.last e c.last_cell.ensures.within
    (ap (λ (b : Booking). key_cmp b.key e.key) (sym c.last_cell.ensures.value) ∙ key_cmp_same e.key)
