use Rattle.std.proofs.Common.{sym}
use Rattle.run_states.specs.Life.{HasMoments}
use Rattle.host_model.proofs.RowLemmas.{found_of_all}
use Rattle.draft_parts.proofs.overlay.put_lapsed.Goals as goal

-- the row that is found is one of the book's
pub lapse-requires : goal.lapse-requires
lapse-requires c = found_of_all HasMoments c.args.key c.in-Some.row.now c.args.book.now.list c.requires (sym c.in-Some.ensures)

pub put_settled-requires : goal.put_settled-requires
put_settled-requires c = found_of_all HasMoments c.args.key c.in-Some.row.now c.args.book.now.list c.requires (sym c.in-Some.ensures)
