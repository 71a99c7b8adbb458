-- Kept hosts grow as any state behind a gate does.
use Rattle.std.proofs.Common.{◌∙◌, ℕ, refl, subst, sym}
use Rattle.std.proofs.Math.Nat.{le_trans}
use Rattle.std.proofs.Common.{le_refl}
use Rattle.host_journal.specs.State.{first_disk, second_disk}
use Rattle.host_model.specs.declared.config.Config.{Config}
use Rattle.host_model.proofs.GrownLemmas.{Grown-refl, Grown-trans}
use Rattle.host_keep.specs.Standing.{IsAsked}
use Rattle.shared_host.specs.Gated.{Gated, IsLater, MayAsk}
use Rattle.shared_host.specs.declared.call.KeepCall.{KeepCall}
use Rattle.shared_host.specs.declared.call.KeepCall.TheVariants.{Apply, Orders, Due, Attempt}

module _ {D : Type 0} (faults : D → ℕ) where
  pub later_refl : (x : Gated D) → IsLater faults x x
  later_refl x = record { config = refl; book = Grown-refl x.machine.book; first = le_refl (faults (first_disk x.journal)); second = le_refl (faults (second_disk x.journal)) }

  pub later_trans : (x y z : Gated D) → IsLater faults x y → IsLater faults y z → IsLater faults x z
  later_trans x y z f g = record {
    config = g.config ∙ f.config;
    book = Grown-trans x.machine.book y.machine.book z.machine.book f.book g.book;
    first = le_trans f.first g.first;
    second = le_trans f.second g.second;
  }

  -- what may be asked depends on the configuration alone
  pub may_later : (x y : Gated D) (call : KeepCall) → IsLater faults x y → MayAsk x call → MayAsk y call
  may_later x y (Apply call) f may = subst (λ (c : Config). IsAsked c call) (sym f.config) may
  may_later x y (Orders clock) f may = may
  may_later x y (Due clock) f may = may
  may_later x y (Attempt key index) f may = may
