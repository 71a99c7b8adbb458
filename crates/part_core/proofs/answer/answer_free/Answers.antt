use Rattle.std.proofs.Common.{subst, sym}
use Rattle.ps_time.specs.declared.tiers.Tiers.{Tiers}
use Rattle.plugin_core.specs.TestSpec.{test_class, test_length}
use Rattle.host_model.specs.FreeTier.{IsFreeStart, IsFreeableStart, IsTier}
use Rattle.host_model.proofs.TierLemmas.{free_tiers_are}
use Rattle.part_core.proofs.answer.answer_free.Goals as goal

pub returns-clause-free : goal.returns-clause-free
returns-clause-free g c =
    let q = c.args.question.now in
    let rows = g.R.Reading.seen c.args.book.now in
    let are = free_tiers_are (test_class q.test) (test_length q.test) q.priority (g.R.Reading.at c.args.book.now) rows c.tiers_of.ensures.ascending q.window in
    subst (λ (tiers : Tiers). IsTier (IsFreeStart rows (test_class q.test) (test_length q.test)) q.window tiers.first) (sym c.in_ok-tiers.ensures.tiers) are.0

pub returns-clause-freeable : goal.returns-clause-freeable
returns-clause-freeable g c =
    let q = c.args.question.now in
    let rows = g.R.Reading.seen c.args.book.now in
    let m = g.R.Reading.at c.args.book.now in
    let are = free_tiers_are (test_class q.test) (test_length q.test) q.priority m rows c.tiers_of.ensures.ascending q.window in
    subst (λ (tiers : Tiers). IsTier (IsFreeableStart rows m (test_class q.test) (test_length q.test) q.priority) q.window tiers.second) (sym c.in_ok-tiers.ensures.tiers) are.1
