use Rattle.std.proofs.Common.{refl}
use Rattle.limit_apply.proofs.KeptLemmas.{made_kept}
use Rattle.limit_apply.proofs.read.Lists.counted.Goals as goal

pub invariant_of-result : goal.invariant_of-result
invariant_of-result c =
    rw (c.from_entries.ensures, c.from_entries-2.ensures, c.into_items.ensures)
    (made_kept c.args.self c.args.priorities c.args.text (c.if-not-fit.ensures refl) c.requires)
