-- Why limits can't be kept, beside so many epochs.
use Rattle.std.specs.Prelude.{None, Option, Some, if◌then◌else◌, length, nat_le, ℕ}
use Rattle.ps_time.specs.Numbers.{most_epochs}
use Rattle.limit_apply.specs.Limits.{LimitsConfig as Limits}
use Rattle.host_model.specs.Epochs.{is_too_long}
use Rattle.host_model.specs.declared.reply.LimitsWrong.{LimitsWrong as Wrong}
use Rattle.host_model.specs.declared.reply.LimitsWrong.TheVariants.{Bytes, Epochs}

-- their text is too long, or there is no place for one more
abbrev pub wrong_of : Limits → ℕ → Option Wrong
wrong_of l epochs = if is_too_long l then Some (Bytes (length l.text)) else if nat_le most_epochs epochs then Some (Epochs epochs) else None
