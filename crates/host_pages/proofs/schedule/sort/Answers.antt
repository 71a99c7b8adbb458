use Rattle.std.proofs.Common.{rules}
use Rattle.std.specs.Ordering.{is_lt}
use Rattle.std.proofs.lemmas.List.Sorted.{answers_always}
use Rattle.host_model.specs.Views.{line_cmp}
use Rattle.host_pages.proofs.OrderLemmas.{line_weak, sorted_is_order}
use Rattle.host_pages.proofs.schedule.sort.Goals as goal

-- the closure compares by the order of lines
pub returns : goal.returns
returns c =
    let order = answers_always _ _ _ (λ f a r g called. search rules) in
    sorted_is_order _ _ c.requires (c.in_ok-sort_by.ensures.sorted (λ a b. is_lt (line_cmp a b)) line_weak order) (c.sort_by.ensures.stable (λ a b. is_lt (line_cmp a b)) line_weak order)
