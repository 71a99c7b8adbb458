-- Which policy a JSON tree is.
use Rattle.std.specs.Prelude.{ℕ, ◌&&◌, nat_le, length, Result, Ok, Err, if◌then◌else◌, codes}
use Rattle.serde_json.specs.Data.{Data}
use Rattle.ps_json.specs.Answer.{then_with, lifted}
use Rattle.ps_json.specs.Each.{read_each}
use Rattle.ps_json.specs.Fields.{without_member, need_of, end_of}
use Rattle.ps_json.specs.Kinds.{count_of, text_of, list_of, members_of}
use Rattle.ps_json.specs.declared.fault.JsonFault.TheVariants.{WrongKind}
use Rattle.ps_time.specs.Length.{length_of}
use Rattle.archive_retry.specs.declared.fault.PolicyFault.{PolicyFault}
use Rattle.archive_retry.specs.declared.fault.PolicyFault.TheVariants.{Json, BadTime}
use Rattle.archive_retry.specs.declared.policy.Entry.{Entry}
use Rattle.archive_retry.specs.declared.policy.Policy.{Policy}
use Rattle.archive_retry.specs.Fault.{in_json}

-- a length
abbrev pub wait_in : Data → Result ℕ PolicyFault
wait_in d = then_with (in_json (text_of (codes "wait") d)) (λ bs. lifted (BadTime (codes "wait")) (length_of bs))

-- an entry: `attempts` from 1 to 1,000, and then `wait`
abbrev pub entry_of : Data → Result Entry PolicyFault
entry_of d =
    then_with (in_json (members_of (codes "retry-policy") d)) (λ ms.
    then_with (in_json (need_of (codes "attempts") ms)) (λ d.
    then_with (in_json (count_of (codes "attempts") 1 1_000 d)) (λ attempts.
    let ms = without_member (codes "attempts") ms in
    then_with (in_json (need_of (codes "wait") ms)) (λ d.
    then_with (wait_in d) (λ wait.
    let ms = without_member (codes "wait") ms in
    then_with (in_json (end_of ms)) (λ _. Ok (record { attempts = attempts; wait = wait })))))))

-- a list of 1 to 16 entries
abbrev pub policy_of : Data → Result Policy PolicyFault
policy_of d =
    then_with (in_json (list_of (codes "retry-policy") d)) (λ ds.
    if nat_le 1 (length ds) && nat_le (length ds) 16 then then_with (read_each entry_of ds) (λ es. Ok (record { entries = es }))
    else Err (Json (WrongKind (codes "retry-policy"))))
