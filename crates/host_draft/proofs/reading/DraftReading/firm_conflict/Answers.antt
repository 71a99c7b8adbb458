use Rattle.std.proofs.Common.{◌∙◌, sym}
use Rattle.std.proofs.Math.Facts.{to_z-of_z}
use Rattle.draft_parts.proofs.PickLemmas.{firm_sought}
use Rattle.host_draft.proofs.reading.DraftReading.firm_conflict.Goals as goal

-- the first that stands firm
pub returns : goal.returns
returns c =
    let found = rw (to_z-of_z c.ranges.priority) at c.sought.ensures in
    found ∙ sym (firm_sought c.args.self.now.draft.book.moment c.args.key c.args.class c.args.interval.now c.args.self.now.draft.book.rows c.args.priority)
