use Rattle.std.proofs.Common.{◌≡◌, ◌-◌, ℕ, length, take, arith, sym, ◌∙◌, ap}
use Rattle.std.proofs.lemmas.List.{take_all}
use Rattle.ps_disks.specs.History.{undone}
use Rattle.ps_disks.proofs.RecentLemmas.{undone_back}
use Rattle.ps_disks.proofs.history.undo_all.Goals as goal

pub loop-place-init : goal.loop-place-init
loop-place-init c = ap (λ l. undone l c.args.bytes.now.items) (take_all (length c.args.recent.now) c.args.recent.now (omega arith))

pub loop-place-preserved : goal.loop-place-preserved
loop-place-preserved c =
    let made = c.in_ok-undo.ensures in
    ap (undone (take (c.loop-place.place - 1) c.args.recent.now)) made
    ∙ undone_back c.args.recent.now c.loop-place.place c.index-recent-place.result c.loop-place.bytes.items c.loop-place-test.true c.loop-place.auto.place c.index-recent-place.is
    ∙ c.loop-place.invariant

pub returns : goal.returns
returns c =
    let none : c.loop-place.place ≡ 0 = omega (arith, c.loop-place-test.false) in
    ap (λ (n : ℕ). undone (take n c.args.recent.now) c.loop-place.bytes.items) (sym none) ∙ c.loop-place.invariant
