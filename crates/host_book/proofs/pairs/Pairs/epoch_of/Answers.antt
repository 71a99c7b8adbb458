use Rattle.std.proofs.Common.{◌≡◌, ℕ, Some, sym, ap, option_map}
use Rattle.ps_time.specs.declared.key.RunKey.{RunKey}
use Rattle.host_book.specs.Pairs.{Pairs}
use Rattle.host_book.proofs.PairLemmas.{find_gap, find_place}
use Rattle.host_book.proofs.pairs.Pairs.epoch_of.Goals as goal

-- the pair at the place has the key
pub returns-in-Ok : goal.returns-in-Ok
returns-in-Ok c =
    let seen : c.self.inside.pairs.list ≡ c.args.self.now.list = ap (λ (t : Pairs). t.list) c.self.view_is in
    rw (← seen, find_place _ c.self.invariant _ _ c.index.result.now c.in-Ok.ensures.found) (ap (λ (p : RunKey × ℕ). Some p.1) c.index.ensures)

-- no pair has it
pub returns-in-Err : goal.returns-in-Err
returns-in-Err c =
    let seen : c.self.inside.pairs.list ≡ c.args.self.now.list = ap (λ (t : Pairs). t.list) c.self.view_is in
    rw (← seen) (ap (option_map (λ (p : RunKey × ℕ). p.1)) (sym (find_gap _ _ _ c.in-Err.ensures.absent)))
