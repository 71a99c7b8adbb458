use Rattle.std.proofs.Common.{◌≡◌, rules, bytes_eq, is_some, ap, sym, ◌∙◌}
use Rattle.ps_disks.specs.Rack.{first_by, find_pair, after_give}
use Rattle.ps_disks.proofs.RackLemmas.{given_elsewhere, open_elsewhere}
use Rattle.ps_disks.proofs.memory_rack.MemoryRackRack.close_pair.Goals as goal

pub returns-clause-others : goal.returns-clause-others
returns-clause-others c other first second apart =
    let folder = c.args.folder.now in
    let shelf = c.args.self.now.shelf in
    let given : c.give_back.new.self ≡ after_give folder c.args.first c.args.second shelf = search rules in
    let leaves = ap (λ s. find_pair other s.pairs) given ∙ given_elsewhere folder other apart shelf.pairs c.args.first c.args.second in
    (λ kept. leaves ∙ kept, λ kept. sym leaves ∙ kept)

pub returns-clause-open_others : goal.returns-clause-open_others
returns-clause-open_others c other apart is =
    let folder = c.args.folder.now in
    let shelf = c.args.self.now.shelf in
    let given : c.give_back.new.self ≡ after_give folder c.args.first c.args.second shelf = search rules in
    ap (λ s. is_some (first_by (bytes_eq other) s.out)) given ∙ ap is_some (open_elsewhere folder other apart shelf.out) ∙ is
