-- Which applications and priorities a JSON tree is.
use Rattle.std.specs.Prelude.{ℕ, ℤ, pos, negsuc, List, [], Option, Some, None, Result, Ok, false, codes}
use Rattle.serde_json.specs.Data.{Data, Members}
use Rattle.ps_json.specs.Each.{read_each}
use Rattle.ps_json.specs.Answer.{then_with}
use Rattle.ps_json.specs.Fields.{without_member}
use Rattle.ps_json.specs.Kinds.{list_of}
use Rattle.limit_ident.specs.Fault.{in_json, wrapped}
use Rattle.ps_json.specs.Member.{required, optional, member_then}
use Rattle.limit_ident.specs.Member.{flag_in, object_in, some_in, whole_in, described}
use Rattle.limit_ident.specs.Named.{place_in}
use Rattle.limit_ident.specs.ReadClassifiers.{require_in, places_in}
use Rattle.limit_ident.specs.declared.classifier.Classifier.{Classifier}
use Rattle.limit_ident.specs.declared.fault.LimitFault.{LimitFault}
use Rattle.limit_ident.specs.declared.named.Named.{Named}
use Rattle.limit_apply.specs.declared.application.Application.{Application}
use Rattle.limit_apply.specs.declared.application.Group.{Group}
use Rattle.limit_rule.specs.declared.limit.Limit.{Limit}
use Rattle.limit_apply.specs.declared.limits.Ceiling.{Ceiling}
use Rattle.limit_apply.specs.declared.limits.Priorities.{Priorities}

-- ---- applications

abbrev pub group_of : List (Named Limit) → Data → Result Group LimitFault
group_of ls d =
    then_with (object_in (codes "apply") d) (λ ms.
    member_then (codes "require") (required wrapped require_in) ms (λ require ms.
    member_then (codes "limits") (required wrapped (places_in ls)) ms (λ places ms.
    then_with (described ms) (λ _. Ok (record { require = require; limits = places })))))

abbrev pub apply_in : List (Named Limit) → List ℕ → Data → Result (List Group) LimitFault
apply_in ls name d = then_with (some_in name d) (read_each (group_of ls))

abbrev pub told_of : List (Named Classifier) → List (Named Limit) → Members → Result Application LimitFault
told_of cs ls ms =
    member_then (codes "classifier") (required wrapped (place_in cs)) ms (λ classifier ms.
    member_then (codes "apply") (required wrapped (apply_in ls)) ms (λ apply ms.
    member_then (codes "invert") (optional false flag_in) ms (λ invert ms.
    member_then (codes "stop-on-failure") (optional false flag_in) ms (λ stop ms.
    Ok (record { classifier = classifier; apply = apply; invert = invert; stop_on_failure = stop })))))

abbrev pub after_told : Members → Members
after_told ms =
    without_member (codes "stop-on-failure") (without_member (codes "invert") (without_member (codes "apply") (without_member (codes "classifier") ms)))

abbrev pub application_of : List (Named Classifier) → List (Named Limit) → Data → Result Application LimitFault
application_of cs ls d =
    then_with (object_in (codes "applications") d) (λ ms.
    then_with (told_of cs ls ms) (λ application.
    then_with (described (after_told ms)) (λ _. Ok application)))

abbrev pub applications_in : List (Named Classifier) → List (Named Limit) → List ℕ → Data → Result (List Application) LimitFault
applications_in cs ls name d = then_with (some_in name d) (read_each (application_of cs ls))

-- ---- priorities

-- a whole number from -1000 to 1000
abbrev pub ceiling_in : List ℕ → Data → Result ℤ LimitFault
ceiling_in name d = whole_in name (negsuc 999) (pos 1_000) name d

abbrev pub ceiling_of : List (Named Classifier) → Members → Result Ceiling LimitFault
ceiling_of cs ms =
    member_then (codes "classifier") (required wrapped (place_in cs)) ms (λ classifier ms.
    member_then (codes "ceiling") (required wrapped ceiling_in) ms (λ ceiling ms.
    Ok (record { classifier = classifier; ceiling = ceiling })))

abbrev pub entry_of : List (Named Classifier) → Data → Result Ceiling LimitFault
entry_of cs d =
    then_with (object_in (codes "classifiers") d) (λ ms.
    then_with (ceiling_of cs ms) (λ entry.
    let ms = without_member (codes "ceiling") (without_member (codes "classifier") ms) in
    then_with (described ms) (λ _. Ok entry)))

abbrev pub entries_in : List (Named Classifier) → List ℕ → Data → Result (List Ceiling) LimitFault
entries_in cs name d = then_with (in_json (list_of name d)) (read_each (entry_of cs))

abbrev pub default_of : Members → Result ℤ LimitFault
default_of ms = optional (pos 0) ceiling_in (codes "default") ms

abbrev pub ceilings_of : List (Named Classifier) → Members → Result (List Ceiling) LimitFault
ceilings_of cs ms = optional [] (entries_in cs) (codes "classifiers") ms

-- what is left out is 0 for all
abbrev pub priorities_of : List (Named Classifier) → Option Data → Result Priorities LimitFault
priorities_of cs None = Ok (record { default = pos 0; ceilings = [] })
priorities_of cs (Some d) =
    then_with (object_in (codes "priorities") d) (λ ms.
    then_with (default_of ms) (λ default.
    let ms = without_member (codes "default") ms in
    then_with (ceilings_of cs ms) (λ ceilings.
    let ms = without_member (codes "classifiers") ms in
    then_with (described ms) (λ _. Ok (record { default = default; ceilings = ceilings })))))
