use Rattle.std.proofs.Common.{◌∙◌, subst, sym}
use Rattle.host_rows.specs.LiveKeys.{IsAscendingKeys}
use Rattle.host_rows.proofs.live_keys.LiveKeys.copy.Goals as goal

-- the same keys ascend
pub invariant_of-result : goal.invariant_of-result
invariant_of-result c = subst IsAscendingKeys (sym (c.in_ok-add_all.ensures ∙ c.in_order.ensures)) c.self.invariant
