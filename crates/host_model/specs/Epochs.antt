-- How the limits become part of a book: as a host is opened, and as an operator sets others.
use Rattle.std.specs.List.{last_or}
use Rattle.std.specs.Prelude.{◌&&◌, ◌+◌, ◌==◌, ◌∷◌, Bool, List, None, Option, Some, [], bytes_eq, false, if◌then◌else◌, length, nat_le, nat_lt, ℕ}
use Rattle.ps_time.specs.Numbers.{most_epochs, most_limits_bytes}
use Rattle.limit_apply.specs.Limits.{LimitsConfig as Limits}
use Rattle.host_model.specs.Book.{Book, latest_epoch}
use Rattle.host_model.specs.Ending.{restart_run}
use Rattle.host_model.specs.Propose.{answered}
use Rattle.host_model.specs.Turn.{changed}
use Rattle.host_model.specs.Walk.{each_row, in_turn}
use Rattle.host_model.specs.declared.change.Change.{Change}
use Rattle.host_model.specs.declared.change.Change.TheVariants.{LimitsSet as limits_change}
use Rattle.host_model.specs.declared.config.Config.{Config}
use Rattle.host_model.specs.declared.reply.LimitsWrong.{LimitsWrong as Wrong}
use Rattle.host_model.specs.declared.reply.LimitsWrong.TheVariants.{Bytes, Epochs}
use Rattle.host_model.specs.declared.reply.Outcome.{Outcome}
use Rattle.host_model.specs.declared.reply.Reply.TheVariants.{LimitsSet, LimitsWrong}

-- the text of the limits is longer
abbrev pub is_too_long : Limits → Bool
is_too_long l = nat_lt most_limits_bytes (length l.text)

-- the limits are refused
abbrev pub refused : Wrong → Outcome
refused wrong = answered (LimitsWrong wrong)

-- ---- setting limits
-- these limits have the text
abbrev pub has_text : List ℕ → Option Limits → Bool
has_text text None = false
has_text text (Some l) = bytes_eq l.text text

-- they are those of the latest epoch already
abbrev pub is_latest : Book → Limits → Bool
is_latest b l = has_text l.text (last_or None b.epochs)

-- those of the latest epoch change nothing; others are refused for their length or for want of a place, or are a new epoch
abbrev pub set_limits : Book → Limits → Outcome
set_limits b l =
    if is_latest b l then answered (LimitsSet (latest_epoch b))
    else if is_too_long l then refused (Bytes (length l.text))
    else if nat_le most_epochs (latest_epoch b) then refused (Epochs (latest_epoch b))
    else record { reply = LimitsSet (latest_epoch b + 1); list = limits_change l ∷ [] }

-- ---- opening
-- the configuration's limits are the first epoch of a book that has none
abbrev pub first_limits : Limits → Book → List Change
first_limits l b = if latest_epoch b == 0 then limits_change l ∷ [] else []

-- and each active run ends as failed
abbrev pub open_changes : Config → Book → ℕ → List Change
open_changes c b m = in_turn m (first_limits c.limits ∷ each_row (restart_run c) m ∷ []) b

-- refused where the limits that would be the first epoch are too long
abbrev pub open_host : Config → Book → ℕ → Outcome
open_host c b m = if (latest_epoch b == 0) && is_too_long c.limits then refused (Bytes (length c.limits.text)) else changed (open_changes c b m)
