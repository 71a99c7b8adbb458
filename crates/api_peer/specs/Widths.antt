-- The widths of the numbers of a reply, which every reply in memory has.
use Rattle.std.specs.Prelude.{◌-◌, ◌^◌, ◌≤◌, negsuc, pos}
use Rattle.std.specs.Int.Signed.{◌≤ℤ◌}
use Rattle.ps_time.specs.Id.{InRange}
use Rattle.ps_time.specs.declared.asker.Verdict.{Verdict}
use Rattle.ps_time.specs.declared.asker.Verdict.TheVariants.{AboveCeiling, Stopped}
use Rattle.ps_time.specs.declared.id.Id.TheVariants.{Run}
use Rattle.run_states.specs.declared.why.Denial.{Denial}
use Rattle.run_states.specs.declared.why.Denial.TheVariants as denial
use Rattle.host_model.specs.declared.reply.Reply.{Reply}
use Rattle.host_model.specs.declared.reply.Reply.TheVariants.{Denied}

abbrev pub HasVerdictWidth : Verdict → Type 0
HasVerdictWidth (Stopped i) = i ≤ 4_294_967_295
HasVerdictWidth (AboveCeiling z) = (negsuc 32_767 ≤ℤ z) × (z ≤ℤ pos 32_767)
HasVerdictWidth _ = Unit {0}

abbrev pub HasDenialWidths : Denial → Type 0
HasDenialWidths (denial.Limits verdict) = HasVerdictWidth verdict
HasDenialWidths (denial.Conflict k) = InRange (Run k)
HasDenialWidths (denial.Full what count) = count ≤ 2 ^ 64 - 1
HasDenialWidths _ = Unit {0}

abbrev pub HasWidths : Reply → Type 0
HasWidths (Denied denial) = HasDenialWidths denial
HasWidths _ = Unit {0}
