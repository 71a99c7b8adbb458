-- Limits that are too long, and the longest.
use Rattle.std.specs.Prelude.{◌∷◌, ◌≡◌, [], bytes_eq, false, length, true}
use Rattle.std.proofs.Common.{refl}
use Rattle.limit_apply.specs.Limits.{LimitsConfig as Limits}
use Rattle.host_model.specs.Book.{Book, empty_book}
use Rattle.host_model.specs.Epochs.{set_limits}
use Rattle.host_model.specs.Propose.{answered}
use Rattle.host_model.specs.declared.change.Change.TheVariants.{LimitsSet as limits_change}
use Rattle.host_model.specs.declared.reply.LimitsWrong.TheVariants.{Bytes}
use Rattle.host_model.specs.declared.reply.Reply.TheVariants.{LimitsSet, LimitsWrong}
use Rattle.host_model_tests.proofs.Given.{nobody, ours}

-- at 1002, with three epochs
abbrev replaced : Book
replaced = record empty_book { moment = 1002; epochs = ours ∷ nobody ∷ ours ∷ [] }

-- they are refused, and nothing changes
too_long : (l : Limits) → bytes_eq ours.text l.text ≡ false → length l.text ≡ 1_048_577 → set_limits replaced l ≡ answered (LimitsWrong (Bytes 1_048_577))
too_long l other long = rw other (rw long refl)

longest : (l : Limits) → bytes_eq ours.text l.text ≡ false → length l.text ≡ 1_048_576 → set_limits replaced l ≡ record { reply = LimitsSet 4; list = limits_change l ∷ [] }
longest l other long = rw other (rw long refl)

-- they are those of the latest epoch already
once_more : (l : Limits) → bytes_eq l.text l.text ≡ true → set_limits (record replaced { moment = 1003; epochs = ours ∷ nobody ∷ ours ∷ l ∷ [] }) l ≡ answered (LimitsSet 4)
once_more l same = rw same refl
