use Rattle.std.proofs.Common.{◌≡◌, ◌<◌, [], rules, tests, arith, sym, ap, subst, ◌∙◌, length, List}
use Rattle.std.proofs.lemmas.List.{take_at, length-replicate}
use Rattle.ps_doors.specs.Door.{DoorState, new_door}
use Rattle.ps_doors.specs.Porch.{dealt_count}
use Rattle.ps_doors.proofs.DealLemmas.{dealt_is, behind_is}
use Rattle.ps_doors.proofs.memory_porch.deal_all.Goals as goal

pub deal-requires-clause-somewhere : goal.deal-requires-clause-somewhere
deal-requires-clause-somewhere c = λ more.
    let some : 0 < c.args.number = c.dealt_count-count.ensures.somewhere more in
    subst (λ (l : List DoorState). 0 < length l) (sym (c.deref_mut.ensures.value ∙ c.in_ok-doors.ensures)) (omega (arith, length-replicate c.args.number (new_door [] [])))

pub returns-clause-dealt : goal.returns-clause-dealt
returns-clause-dealt c =
    let waiting : c.len.result ≡ length c.args.guests.now.items = search (rules, tests) in
    dealt_is (length c.deref_mut.result.now) c.args.number c.dealt_count-count.result c.args.most c.args.guests.now.items c.deal.new.doors _
    (ap length (c.deref_mut.ensures.value ∙ c.in_ok-doors.ensures) ∙ length-replicate c.args.number (new_door [] []))
    (c.dealt_count-count.ensures.count ∙ ap (dealt_count c.args.number c.args.most) waiting)
    (take_at c.deal.new.doors _ c.in_ok-doors.doors.len (c.deal.auto.doors ∙ c.deref_mut.ensures.len))
    c.in_ok-deal.ensures.dealt

pub returns-clause-rest : goal.returns-clause-rest
returns-clause-rest c =
    let waiting : c.len.result ≡ length c.args.guests.now.items = search (rules, tests) in
    c.in_ok-deal.ensures.rest
    ∙ behind_is c.args.number c.dealt_count-count.result c.args.most c.args.guests.now.items (c.dealt_count-count.ensures.count ∙ ap (dealt_count c.args.number c.args.most) waiting)
