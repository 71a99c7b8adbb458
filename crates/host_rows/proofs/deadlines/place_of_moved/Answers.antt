use Rattle.std.proofs.Common.{◌≡◌, ◌∙◌, ◌-◌, ℕ, true, get_or, length, reverse, ap, sym, arith}
use Rattle.std.proofs.lemmas.List.{length-reverse}
use Rattle.std.specs.Ordering.{is_eq}
use Rattle.host_rows.specs.Deadlines.{deadline_cmp}
use Rattle.host_rows.proofs.DeadlineLemmas.{one_place}
use Rattle.host_rows.proofs.ReverseLemmas.{at_reverse, found_last}
use Rattle.host_rows.proofs.deadlines.place_of_moved.Goals as goal

-- it is the one that goes
pub returns-then-is_eq : goal.returns-then-is_eq
returns-then-is_eq c =
    let ds = c.args.entries.now.list in
    let n : ℕ = length ds in
    let last = c.args.entries.now.last in
    let x = c.index.result.now in
    let d = c.last_cell-last.result.now in
    let same : is_eq (deadline_cmp x d) ≡ true = ap is_eq (sym c.cmp.ensures) ∙ (sym c.is_eq.ensures ∙ c.if-is_eq.true) in
    let at_x : x ≡ get_or (reverse ds) (n - 1 - c.args.at) x = c.index.ensures ∙ sym (at_reverse ds c.args.at x c.requires.within) in
    let at_d : d ≡ get_or (reverse ds) (n - 1 - last) d = c.last_cell-last.ensures.value ∙ sym (at_reverse ds last d c.last_cell-last.ensures.within) in
    let one = one_place (reverse ds) c.requires.ascending (n - 1 - c.args.at) (n - 1 - last) x d (omega (arith, c.requires.within, length-reverse ds)) (omega (arith, c.last_cell-last.ensures.within, length-reverse ds)) at_x at_d same in
    omega (arith, one, c.requires.within, c.last_cell-last.ensures.within)

-- a search finds it
pub returns : goal.returns
returns c =
    let ds = c.args.entries.now.list in
    let found = found_last ds c.requires.ascending c.last_cell-last.result.now c.count_from.result c.args.entries.now.last c.count_from.ensures.within c.count_from.ensures.parted c.last_cell-last.ensures.within c.last_cell-last.ensures.value in
    omega (arith, found)

pub overflow_sub-result : goal.overflow_sub-result
overflow_sub-result c =
    let ds = c.args.entries.now.list in
    let found = found_last ds c.requires.ascending c.last_cell-last.result.now c.count_from.result c.args.entries.now.last c.count_from.ensures.within c.count_from.ensures.parted c.last_cell-last.ensures.within c.last_cell-last.ensures.value in
    omega (arith, found)
