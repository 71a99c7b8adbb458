-- Which schedule a JSON tree is.
use Rattle.std.specs.Prelude.{ℕ, nat_lt, pos, unsigned_abs, List, [], is_some, Result, Ok, Err, if◌then◌else◌, false, codes}
use Rattle.serde_json.specs.Data.{Data, Members}
use Rattle.serde_json.specs.Find.{as_object}
use Rattle.ps_json.specs.Each.{read_each}
use Rattle.ps_json.specs.Answer.{then_with}
use Rattle.ps_json.specs.Fields.{without_member}
use Rattle.limit_ident.specs.Fault.{wrapped}
use Rattle.ps_json.specs.Member.{required, optional, member_then}
use Rattle.limit_ident.specs.Member.{flag_in, object_in, some_in, whole_in, ended}
use Rattle.limit_ident.specs.declared.fault.LimitFault.{LimitFault}
use Rattle.limit_ident.specs.declared.fault.LimitFault.TheVariants.{BadRange}
use Rattle.limit_rule.specs.declared.bounds.Bounds.{Bounds}
use Rattle.limit_rule.specs.declared.schedule.Schedule.{Schedule}

-- a whole number from `least` to `most`; one out of these bounds is refused as of `place`
abbrev pub number_in : List ℕ → ℕ → ℕ → List ℕ → Data → Result ℕ LimitFault
number_in place least most name d =
    then_with (whole_in place (pos least) (pos most) name d) (λ z. Ok (unsigned_abs z))

abbrev pub range_in : ℕ → ℕ → List ℕ → Data → Result Bounds LimitFault
range_in least most place d =
    then_with (object_in place d) (λ ms.
    member_then (codes "lower") (required wrapped (number_in place least most)) ms (λ lower ms.
    member_then (codes "upper") (required wrapped (number_in place least most)) ms (λ upper ms.
    if nat_lt upper lower then Err (BadRange place)
    else then_with (ended ms) (λ _. Ok (record { lower = lower; upper = upper })))))

-- a number, or a range of numbers
abbrev pub item_of : ℕ → ℕ → List ℕ → Data → Result Bounds LimitFault
item_of least most place d =
    if is_some (as_object d) then range_in least most place d
    else then_with (number_in place least most place d) (λ n. Ok (record { lower = n; upper = n }))

abbrev pub numbers_in : ℕ → ℕ → List ℕ → Data → Result (List Bounds) LimitFault
numbers_in least most place d = then_with (some_in place d) (read_each (item_of least most place))

-- each list may be left out, and isn't empty where it is there
abbrev pub schedule_of : Members → Result Schedule LimitFault
schedule_of ms =
    member_then (codes "month") (optional [] (numbers_in 1 12)) ms (λ month ms.
    member_then (codes "monthday") (optional [] (numbers_in 1 31)) ms (λ monthday ms.
    member_then (codes "weekday") (optional [] (numbers_in 1 7)) ms (λ weekday ms.
    member_then (codes "hour") (optional [] (numbers_in 0 23)) ms (λ hour ms.
    member_then (codes "minute") (optional [] (numbers_in 0 59)) ms (λ minute ms.
    member_then (codes "overlap") (optional false flag_in) ms (λ overlap ms.
    Ok (record { month = month; monthday = monthday; weekday = weekday; hour = hour; minute = minute; overlap = overlap })))))))

abbrev pub after_schedule : Members → Members
after_schedule ms =
    without_member (codes "overlap") (without_member (codes "minute") (without_member (codes "hour")
    (without_member (codes "weekday") (without_member (codes "monthday") (without_member (codes "month") ms)))))

abbrev pub schedule_in : List ℕ → Data → Result Schedule LimitFault
schedule_in name d =
    then_with (object_in name d) (λ ms.
    then_with (schedule_of ms) (λ schedule.
    then_with (ended (after_schedule ms)) (λ _. Ok schedule)))
