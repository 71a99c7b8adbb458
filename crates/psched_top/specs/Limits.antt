-- What `validate-limits` makes of its input.
use Rattle.std.specs.Prelude.{ℕ, List, ◌++◌, codes, decimal}
use Rattle.limit_ident.specs.Fault.{limit_fault_text}
use Rattle.limit_ident.specs.declared.fault.LimitFault.{LimitFault}
use Rattle.limit_apply.specs.Limits.{LimitsConfig, counts_of}
use Rattle.limit_apply.specs.declared.limits.Counts.{Counts}

-- how many entries of each list there are
abbrev pub counts_text : Counts → List ℕ
counts_text counts =
    codes "valid: " ++ decimal counts.identifiers ++ codes " identifiers, " ++ decimal counts.classifiers ++ codes " classifiers, "
    ++ decimal counts.limits ++ codes " limits, " ++ decimal counts.applications ++ codes " applications"

abbrev pub valid_text : LimitsConfig → List ℕ
valid_text config = counts_text (counts_of config)

-- a refusal as a user reads it: `limits: bad cidr 10.0.0.0/33`
abbrev pub refusal_text : LimitFault → List ℕ
refusal_text fault = codes "limits: " ++ limit_fault_text fault
