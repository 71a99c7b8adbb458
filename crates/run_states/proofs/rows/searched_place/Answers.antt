use Rattle.std.proofs.Common.{◌≡◌, ◌≤◌, ◌∙◌, true, false, length, sym, ap, subst}
use Rattle.std.proofs.lemmas.List.{get_or_default}
use Rattle.std.specs.List.Sorted.{IsPartitionPoint}
use Rattle.std.specs.Ordering.{is_eq}
use Rattle.ps_time.specs.Key.{key_cmp}
use Rattle.run_states.specs.declared.row.RunRow.{RunRow}
use Rattle.run_states.specs.Rows.{is_below}
use Rattle.run_states.proofs.Place.{gap_found}
use Rattle.run_states.proofs.rows.searched_place.Goals as goal

-- the row behind those below the key has another one
pub returns-else-is_eq-clause-absent : goal.returns-else-is_eq-clause-absent
returns-else-is_eq-clause-absent c =
    let rows = c.args.rows.now.list in
    let k = c.args.key in
    let at = c.place_below-at.result in
    let x = c.index.result.now in
    let part = subst (λ l. IsPartitionPoint (λ r. is_below k r ≡ true) (λ r. is_below k r ≡ false) l at) c.in_order.ensures c.place_below-at.ensures.parted in
    let other : is_eq (key_cmp x.key k) ≡ false = sym (c.is_eq.ensures ∙ ap is_eq c.order.ensures) ∙ c.if-is_eq.false in
    let within : at ≤ length rows = subst (λ l. at ≤ length l) c.in_order.ensures c.place_below-at.ensures.within in
    gap_found rows c.requires k at within part (λ lt d. ap (λ (r : RunRow). is_eq (key_cmp r.key k)) (get_or_default rows at d x lt ∙ sym c.index.ensures) ∙ other)
