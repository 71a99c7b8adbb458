use Rattle.std.proofs.Common.{◌∙◌, sym}
use Rattle.draft_parts.proofs.PickLemmas.{next_sought}
use Rattle.host_draft.proofs.reading.DraftReading.next_conflict.Goals as goal

-- the first above the key
pub returns : goal.returns
returns c = c.sought.ensures ∙ sym (next_sought c.args.self.now.draft.book.moment c.args.key c.args.class c.args.interval.now c.args.self.now.draft.book.rows c.args.after)
