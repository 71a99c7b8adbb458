use Rattle.std.proofs.Common.{sym, subst}
use Rattle.host_rows.specs.LiveKeys.{IsAscendingKeys}
use Rattle.host_rows.proofs.KeyLemmas.{live_up}
use Rattle.host_rows.proofs.live_keys.LiveKeys.refill.Goals as goal

-- the keys of ascending rows ascend
pub invariant_of-self : goal.invariant_of-self
invariant_of-self c = subst IsAscendingKeys (sym c.fill.ensures.list) (live_up c.args.number c.args.rows.now c.requires.ascending)
