use Rattle.std.proofs.Common.{◌≡◌, ◌<◌, ◌≤◌, ◌∷◌, rules, tests, sym, subst, length, All, List}
use Rattle.std.proofs.lemmas.List.Elements.{All-drop}
use Rattle.ps_doors.specs.Door.{HasShortAddress, Guest}
use Rattle.ps_doors.proofs.DealLemmas.{Left, left_first, left_next, left_done}
use Rattle.ps_doors.proofs.memory_porch.deal.Goals as goal

pub loop-init : goal.loop-init
loop-init c = left_first c.args.count c.args.guests.now.items c.args.doors.now c.requires.short c.requires.nobody c.requires.enough c.requires.somewhere

pub loop-preserved : goal.loop-preserved
loop-preserved c =
    let within : c.loop.counter < c.args.count = search (rules, tests) in
    let items : c.loop.guests.items ≡ c.in-Some.guest ∷ c.pop_front.new.self.items = c.in-Some.ensures.items in
    left_next (length c.args.doors.now) c.args.count c.args.guests.now.items c.loop.at c.loop.counter c.next_place-at.result c.in-Some.guest c.pop_front.new.self.items c.loop.doors c.add.new.self
    c.index-doors-at.result within c.in_ok-add.ensures c.next_place-at.ensures
    (subst (λ (l : List Guest). Left (length c.args.doors.now) c.args.count c.args.guests.now.items c.loop.at c.loop.counter l c.loop.doors) items c.loop.invariant)

pub returns-clause-dealt : goal.returns-clause-dealt
returns-clause-dealt c =
    let done : c.args.count ≤ c.loop.counter = search (rules, tests) in
    left_done (length c.args.doors.now) c.args.count c.args.guests.now.items c.loop.at c.loop.counter c.loop.guests.items c.loop.doors done c.loop.invariant

pub returns-in_err-add-clause-short : goal.returns-in_err-add-clause-short
returns-in_err-add-clause-short c = subst (All HasShortAddress) (sym c.pop_front.ensures.rest) (All-drop HasShortAddress 1 c.loop.guests.items c.loop.invariant.short)
