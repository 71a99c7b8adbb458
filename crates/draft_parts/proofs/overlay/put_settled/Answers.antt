use Rattle.std.proofs.Common.{ap₂, sym, ◌∙◌}
use Rattle.run_states.specs.Rows.{find_row, put_row}
use Rattle.draft_parts.proofs.OverLemmas.{new_settled, none_there}
use Rattle.draft_parts.proofs.overlay.put_settled.Goals as goal

pub put-requires-clause-new_key : goal.put-requires-clause-new_key
put-requires-clause-new_key c =
    let none = none_there (find_row c.args.touched.now.list c.args.row.now.key) (sym c.has.ensures ∙ c.if-has.false) in
    rw (c.in_ok-reserve.ensures.same, c.in_ok-copy.ensures.key) none

pub returns : goal.returns
returns c =
    let none = none_there (find_row c.args.touched.now.list c.args.row.now.key) (sym c.has.ensures ∙ c.if-has.false) in
    c.put.ensures.rows ∙ (ap₂ put_row c.in_ok-reserve.ensures.same c.in_ok-copy.ensures.value ∙ sym (new_settled c.args.moment c.args.row.now c.args.touched.now.list none))
