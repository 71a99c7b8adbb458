use Rattle.std.proofs.Common.{◌≡◌, ◌∷◌, [], ◌++◌, rules, sym, ap, subst, ◌∙◌, None}
use Rattle.ps_disks.specs.Rack.{first_by, without_first, is_under, IsFirst, find_pair, opened_pair, after_take}
use Rattle.ps_disks.proofs.RackLemmas.{pair_here, name_here, none_goes}
use Rattle.ps_disks.proofs.shelf.Shelf.take.Goals as goal

first : (c : goal.After-reopened-in-Some) → IsFirst (is_under c.args.folder.now) c.self.inside.pairs.items c.in-Some.at
first c = subst (λ pairs. IsFirst (is_under c.args.folder.now) pairs c.in-Some.at) c.deref.ensures.value c.in-Some.ensures.some

pub returns-in_ok-push-in-Some-clause-pair : goal.returns-in_ok-push-in-Some-clause-pair
returns-in_ok-push-in-Some-clause-pair c =
    let folder = c.args.folder.now in
    let here = pair_here folder c.self.inside.pairs.items c.in-Some.at c.remove-name.result (first c) c.remove-name.ensures.value in
    (λ i. (c.reopened.ensures.disk i, c.reopened-in-Some.ensures.disk i)) ∙ ap opened_pair (sym here) ∙ ap (λ s. opened_pair (find_pair folder s.pairs)) c.self.view_is

pub returns-in_ok-push-in-Some-clause-after : goal.returns-in_ok-push-in-Some-clause-after
returns-in_ok-push-in-Some-clause-after c =
    let folder = c.args.folder.now in
    let inside = c.self.inside in
    let pairs : c.remove-name.new.self.items ≡ without_first (is_under folder) inside.pairs.items = c.remove-name.ensures.items ∙ sym (first c).rest in
    let name : c.remove-name.result.0 ≡ folder = name_here folder inside.pairs.items c.in-Some.at c.remove-name.result (first c) c.remove-name.ensures.value in
    let pushed : c.push.new.self.items ≡ inside.out.items ++ c.remove-name.result.0 ∷ [] = search rules in
    let out : c.push.new.self.items ≡ inside.out.items ++ folder ∷ [] = pushed ∙ ap (λ n. inside.out.items ++ n ∷ []) name in
    let made : record { pairs = c.remove-name.new.self.items; out = c.push.new.self.items } ≡ after_take folder (record { pairs = inside.pairs.items; out = inside.out.items }) =
    λ i. record { pairs = pairs i; out = out i } in
    made ∙ ap (after_take folder) c.self.view_is

pub returns-in_ok-push-in-None-clause-after : goal.returns-in_ok-push-in-None-clause-after
returns-in_ok-push-in-None-clause-after c =
    let folder = c.args.folder.now in
    let inside = c.self.inside in
    let none : first_by (is_under folder) inside.pairs.items ≡ None = search rules in
    let pairs : c.reserve-in-None.new.self.items ≡ without_first (is_under folder) inside.pairs.items = c.reserve-in-None.ensures.items ∙ sym (none_goes (is_under folder) inside.pairs.items none) in
    let out : c.push-in-None.new.self.items ≡ inside.out.items ++ folder ∷ [] = search rules in
    let made : record { pairs = c.reserve-in-None.new.self.items; out = c.push-in-None.new.self.items } ≡ after_take folder (record { pairs = inside.pairs.items; out = inside.out.items }) =
    λ i. record { pairs = pairs i; out = out i } in
    made ∙ ap (after_take folder) c.self.view_is
