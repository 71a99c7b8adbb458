use Rattle.std.proofs.Common.{◌≡◌, ◌∙◌, ◌++◌, rules, ap, subst}
use Rattle.std.specs.List.{filter}
use Rattle.std.specs.List.Sorted.{IsPermutation}
use Rattle.std.proofs.lemmas.List.Sorted.{IsNonDecreasingBy-from_sort_by_key}
use Rattle.host_timeline.specs.Sweep.{is_near}
use Rattle.host_timeline.proofs.NearLemmas.{both_swept}
use Rattle.host_timeline.proofs.free_starts.near_bookings.Goals as goal

-- all that are near were taken, and then sorted
pub returns-clause-all : goal.returns-clause-all
returns-clause-all c =
    let near = filter (is_near c.args.class c.args.length c.args.window.now) in
    let first : c.add_near.new.near.items ≡ near c.args.some = c.in_ok-add_near.ensures ∙ ap (λ l. l ++ near c.args.some) c.new-near.ensures.items in
    let both : c.add_near-2.new.near.items ≡ near c.args.some ++ near c.args.others = c.in_ok-add_near-2.ensures ∙ ap (λ l. l ++ near c.args.others) first in
    subst (λ l. IsPermutation l c.sort_by_key.new.self.items) both c.sort_by_key.ensures.permutation

pub returns-clause-swept : goal.returns-clause-swept
returns-clause-swept c =
    both_swept c.args.class c.args.length c.args.window.now c.args.some c.args.others c.sort_by_key.new.self.items (returns-clause-all c) (IsNonDecreasingBy-from_sort_by_key (λ b. b.interval.start) _ c.in_ok-sort_by_key.ensures.sorted (λ a r q k. search rules))
