use Rattle.std.proofs.Common.{◌≡◌, ◌≤◌, ◌+◌, ◌∙◌, length, ap, arith}
use Rattle.host_rows.specs.Ledger.{most_counted}
use Rattle.host_draft.proofs.DraftLemmas.{opened_sound}
use Rattle.host_draft.proofs.draft.Draft.new.Goals as goal

-- the lapsed rows lie over the book, and no other
pub invariant_of-result : goal.invariant_of-result
invariant_of-result c =
    let b = c.args.book.now.book in
    let epochs : c.in-Ok.epoch ≡ length b.epochs = c.in-Ok.ensures.1 ∙ ap length c.epochs.ensures in
    let fits : c.result_bytes-bytes.result + 4194292 ≤ most_counted = omega (arith, c.if-bytes.false) in
    rw (c.new.ensures.items, c.new-2.ensures.changes, c.new-2.ensures.left)
    (opened_sound c.args.book.now.number c.args.moment b c.in_ok-touched.touched.list c.in-Ok.epoch c.len.result c.result_bytes-bytes.result 4194292 c.in_ok-touched.ensures c.requires.later c.requires.bound c.rows.ensures.lawful epochs (c.len.ensures ∙ ap length c.rows.ensures.list) c.result_bytes-bytes.ensures fits)
