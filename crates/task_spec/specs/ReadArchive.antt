-- Which archive a JSON tree is.
use Rattle.std.specs.Prelude.{ℕ, Bool, true, nat_le, List, [], ◌∷◌, length, Option, Some, None, option_and_then, unwrap_or, Result, Ok, Err, if◌then◌else◌, codes}
use Rattle.std.specs.Str.{bytes_eq}
use Rattle.serde_json.specs.Data.{Data, unsigned, number, object, Members, no_members, member}
use Rattle.serde_json.specs.Find.{get, as_number, as_u64}
use Rattle.serde_json.specs.Written.{compact_text}
use Rattle.ps_json.specs.Each.{read_each}
use Rattle.ps_json.specs.Answer.{then_with, lifted}
use Rattle.ps_json.specs.Fields.{without_member, end_of}
use Rattle.ps_json.specs.Kinds.{count_of, text_of, list_of, members_of}
use Rattle.ps_json.specs.declared.fault.JsonFault.TheVariants.{WrongKind}
use Rattle.ps_json.specs.TreeText.{kept_tree}
use Rattle.ps_json.specs.Member.{required, optional, member_then}
use Rattle.archive_retry.specs.ReadPolicy.{policy_of}
use Rattle.archive_retry.specs.declared.policy.Policy.{Policy}
use Rattle.task_spec.specs.declared.fault.TaskFault.{TaskFault}
use Rattle.task_spec.specs.declared.fault.TaskFault.TheVariants.{Json, UnknownArchiver}
use Rattle.task_spec.specs.declared.task.Archive.{Archive}
use Rattle.task_spec.specs.Fault.{wrapped, in_json, wrapped_policy}

-- the archivers that there are
abbrev pub is_archiver : List ℕ → Bool
is_archiver name = if bytes_eq name (codes "bitbucket") then true else bytes_eq name (codes "failer")

-- their names, ascending
abbrev pub archivers_by_name : List (List ℕ)
archivers_by_name = codes "bitbucket" ∷ codes "failer" ∷ []

abbrev pub archiver_in : List ℕ → Data → Result (List ℕ) TaskFault
archiver_in name d = then_with (in_json (text_of name d)) (λ bs. if is_archiver bs then Ok bs else Err (UnknownArchiver bs))

-- how many attempts fail before one succeeds
abbrev pub fail_in : List ℕ → Data → Result (Option ℕ) TaskFault
fail_in name d = then_with (in_json (count_of name 0 1_000 d)) (λ n. Ok (Some n))

-- only `failer` has the member `fail`
abbrev pub fail_of : List ℕ → List ℕ → Members → Result (Option ℕ) TaskFault
fail_of archiver name ms = if bytes_eq archiver (codes "failer") then optional None fail_in name ms else Ok None

-- what is left after it
abbrev pub after_fail : List ℕ → Members → Members
after_fail archiver ms = if bytes_eq archiver (codes "failer") then without_member (codes "fail") ms else ms

-- the settings as an object, and as its compact text
abbrev pub settings_members : Option ℕ → Members
settings_members None = no_members
settings_members (Some n) = member (codes "fail") (number (unsigned n)) no_members

abbrev pub settings_text : Option ℕ → List ℕ
settings_text fail = compact_text (object (settings_members fail))

-- how many attempts fail by settings; none where these don't say
abbrev pub fails_by : List ℕ → ℕ
fails_by settings = unwrap_or (option_and_then as_u64 (option_and_then as_number (get (codes "fail") (kept_tree (Some settings))))) 0

abbrev pub policy_in : List ℕ → Data → Result Policy TaskFault
policy_in name d = lifted wrapped_policy (policy_of d)

-- the members of `data`, in the order in which they are read
abbrev pub data_members : List ℕ → Members → Result Archive TaskFault
data_members archiver ms =
    then_with (fail_of archiver (codes "fail") ms) (λ fail.
    member_then (codes "retry-policy") (optional (record { entries = [] }) policy_in) (after_fail archiver ms) (λ policy ms.
    then_with (in_json (end_of ms)) (λ _.
    Ok (record { archiver = archiver; settings = settings_text fail; policy = policy }))))

abbrev pub data_in : List ℕ → List ℕ → Data → Result Archive TaskFault
data_in archiver name d = then_with (in_json (members_of name d)) (data_members archiver)

-- an archive without `data`
abbrev pub plain : List ℕ → Archive
plain archiver = record { archiver = archiver; settings = settings_text None; policy = record { entries = [] } }

-- an entry of `archives`: `archiver`, and then `data`
abbrev pub archive_of : Data → Result Archive TaskFault
archive_of d =
    then_with (in_json (members_of (codes "archives") d)) (λ ms.
    member_then (codes "archiver") (required wrapped archiver_in) ms (λ archiver ms.
    member_then (codes "data") (optional (plain archiver) (data_in archiver)) ms (λ archive ms.
    then_with (in_json (end_of ms)) (λ _. Ok archive))))

-- a list of up to 8
abbrev pub archives_in : List ℕ → Data → Result (List Archive) TaskFault
archives_in name d =
    then_with (in_json (list_of name d)) (λ ds. if nat_le (length ds) 8 then read_each archive_of ds else Err (Json (WrongKind name)))
