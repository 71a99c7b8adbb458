use Rattle.std.proofs.Common.{◌≤◌, ◌-◌, not, length, reverse, subst, sym, rules}
use Rattle.std.proofs.lemmas.List.Sorted.{IsPartitionPoint-from_clause}
use Rattle.host_rows.specs.Deadlines.{is_before, IsAscendingDeadlines}
use Rattle.host_rows.proofs.DeadlineLemmas.{Parts}
use Rattle.host_rows.proofs.ReverseLemmas.{from_parted, reverse_late}
use Rattle.host_rows.proofs.deadlines.count_from.Goals as goal

-- the test goes along with the order
pub returns-clause-parted : goal.returns-clause-parted
returns-clause-parted c =
    let ds = c.in_order.result in
    let d = c.args.deadline.now in
    let at = c.partition_point.result in
    let up : IsAscendingDeadlines (reverse ds) = subst (λ l. IsAscendingDeadlines (reverse l)) (sym c.in_order.ensures) c.requires in
    let within : at ≤ length ds = c.partition_point.ensures.bound in
    subst (λ l. Parts (reverse l) d (length l - at)) c.in_order.ensures
    (reverse_late ds d at within (IsPartitionPoint-from_clause (λ e. not (is_before d e)) ds at c.partition_point.ensures.partitioned (from_parted ds up d) (λ a r f called. search rules)))
