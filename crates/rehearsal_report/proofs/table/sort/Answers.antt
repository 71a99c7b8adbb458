use Rattle.std.proofs.Common.{rules}
use Rattle.std.specs.Ordering.{is_lt}
use Rattle.std.proofs.lemmas.List.Sorted.{answers_always}
use Rattle.rehearsal_report.specs.Table.{entry_cmp}
use Rattle.rehearsal_report.proofs.OrderLemmas.{entry_weak, sorted_is_ordered}
use Rattle.rehearsal_report.proofs.table.sort.Goals as goal

-- the closure compares by the order of entries
pub returns : goal.returns
returns c =
    let order = answers_always _ _ _ (λ f a r g called. search rules) in
    sorted_is_ordered _ _ (c.in_ok-sort_by.ensures.sorted (λ a b. is_lt (entry_cmp a b)) entry_weak order) (c.sort_by.ensures.stable (λ a b. is_lt (entry_cmp a b)) entry_weak order)
