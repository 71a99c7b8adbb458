use Rattle.std.proofs.Common.{◌≡◌, rules, bytes_eq, is_some, IfOk, OnOk, OnErr, IsTrue, subst, sym, ◌∙◌}
use Rattle.std.proofs.lemmas.Result.{IfOk-weaker, on_ok_weaker}
use Rattle.ps_disks.specs.Rack.{first_by, find_pair, opened_pair, after_take}
use Rattle.ps_disks.proofs.RackLemmas.{is_last, fresh_pair, take_leaves, take_keeps_open}
use Rattle.ps_disks.proofs.memory_rack.MemoryRackRack.open_pair.Goals as goal

pub returns-clause-fresh : goal.returns-clause-fresh
returns-clause-fresh c =
    let kept = find_pair c.args.folder.now c.args.self.now.shelf.pairs in
    let given : IfOk c.match-take.result (λ pair. pair ≡ opened_pair kept) = search rules in
    IfOk-weaker c.match-take.result _ _ (λ pair is none. let fresh = fresh_pair kept pair is none in (fresh.first, fresh.second, fresh.only_first, fresh.only_second)) given

pub returns-clause-open : goal.returns-clause-open
returns-clause-open c =
    let folder = c.args.folder.now in
    let shelf = c.args.self.now.shelf in
    let left : OnOk c.match-take.result (c.take.new.self ≡ after_take folder shelf) = search rules in
    on_ok_weaker c.match-take.result (λ is. subst (λ s. IsTrue (is_some (first_by (bytes_eq folder) s.out))) (sym is) (is_last folder shelf.out)) left

pub returns-clause-others : goal.returns-clause-others
returns-clause-others c other first second apart =
    let folder = c.args.folder.now in
    let shelf = c.args.self.now.shelf in
    let taken : OnOk c.take.result (c.take.new.self ≡ after_take folder shelf) = search rules in
    let same : OnErr c.take.result (c.take.new.self ≡ shelf) = search rules in
    let leaves = take_leaves folder shelf c.take.new.self c.take.result taken same other apart in
    (λ kept. leaves ∙ kept, λ kept. sym leaves ∙ kept)

pub returns-clause-open_others : goal.returns-clause-open_others
returns-clause-open_others c other apart is =
    let folder = c.args.folder.now in
    let shelf = c.args.self.now.shelf in
    let taken : OnOk c.take.result (c.take.new.self ≡ after_take folder shelf) = search rules in
    let same : OnErr c.take.result (c.take.new.self ≡ shelf) = search rules in
    take_keeps_open folder shelf c.take.new.self c.take.result taken same other is
