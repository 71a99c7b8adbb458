use Rattle.std.proofs.Common.{◌≡◌, ◌-◌, ◌∙◌, false, true, length, ap, subst, sym, arith}
use Rattle.std.specs.Ordering.{is_eq}
use Rattle.host_rows.specs.Deadlines.{deadline_cmp, Deadlines, IsGapFor, IsPlaceOf}
use Rattle.host_rows.proofs.ReverseLemmas.{gap_behind, gap_beside, place_there}
use Rattle.host_rows.proofs.deadlines.Deadlines.search.Goals as goal

-- all stand before it
pub returns-then-behind-eq0-clause-absent : goal.returns-then-behind-eq0-clause-absent
returns-then-behind-eq0-clause-absent c =
    let ds = c.self.inside.entries.list in
    let d = c.args.deadline.now in
    let seen = ap (λ (t : Deadlines). t.list) c.self.view_is in
    let counted = c.count_from-behind.ensures in
    subst (λ n. IsGapFor c.args.self.now.list d (n - c.count_from-behind.result)) (sym c.len.ensures.value) (subst (λ l. IsGapFor l d (length ds - c.count_from-behind.result)) seen (gap_behind ds c.self.invariant d c.count_from-behind.result counted.within counted.parted c.if-behind-eq0.true))

-- the last of those that don't is another
pub returns-else-is_eq-clause-absent : goal.returns-else-is_eq-clause-absent
returns-else-is_eq-clause-absent c =
    let ds = c.self.inside.entries.list in
    let d = c.args.deadline.now in
    let seen = ap (λ (t : Deadlines). t.list) c.self.view_is in
    let counted = c.count_from-behind.ensures in
    let other : is_eq (deadline_cmp c.index.result.now d) ≡ false = ap is_eq (sym c.cmp.ensures) ∙ (sym c.is_eq.ensures ∙ c.if-is_eq.false) in
    subst (λ n. IsGapFor c.args.self.now.list d (n - c.count_from-behind.result)) (sym c.len.ensures.value) (subst (λ l. IsGapFor l d (length ds - c.count_from-behind.result)) seen (gap_beside ds c.self.invariant d c.count_from-behind.result counted.within counted.parted c.index.result.now (omega (arith, c.if-behind-eq0.false)) c.index.ensures other))

-- it is the deadline
pub returns-then-is_eq-clause-found : goal.returns-then-is_eq-clause-found
returns-then-is_eq-clause-found c =
    let ds = c.self.inside.entries.list in
    let d = c.args.deadline.now in
    let seen = ap (λ (t : Deadlines). t.list) c.self.view_is in
    let counted = c.count_from-behind.ensures in
    let same : is_eq (deadline_cmp c.index.result.now d) ≡ true = ap is_eq (sym c.cmp.ensures) ∙ (sym c.is_eq.ensures ∙ c.if-is_eq.true) in
    subst (λ n. IsPlaceOf c.args.self.now.list d (n - c.count_from-behind.result)) (sym c.len.ensures.value) (subst (λ l. IsPlaceOf l d (length ds - c.count_from-behind.result)) seen (place_there ds c.self.invariant d c.count_from-behind.result counted.within counted.parted c.index.result.now (omega (arith, c.if-behind-eq0.false)) c.index.ensures same))
