use Rattle.std.proofs.Common.{ap, take}
use Rattle.ps_time.specs.Numbers.{most_orders}
use Rattle.host_model.specs.Archives.{due_from_index}
use Rattle.host_model.specs.Orders.{row_orders}
use Rattle.live_law.proofs.StillLemmas.{listed, silent, silent_due, silent_orders, silent_restart, unlive_settled}
use Rattle.live_law.proofs.law.law_still.Goals as goal

pub returns : goal.returns
returns call = record {
  stands = λ self m r out. unlive_settled self m r out;
  opened = λ c b r out. silent_restart r (silent c.number r out) c b;
  orders = λ self m rows. ap (take most_orders) (listed self (row_orders m) (λ r out. silent_orders r (silent self r out) m) rows);
  due = λ self m rows. listed self (λ r. due_from_index r.key m 0 r.archives) (λ r out. silent_due r (silent self r out) m) rows;
}
