-- Which configuration of limits a JSON tree is.
use Rattle.std.specs.Prelude.{◌≡◌, ℕ, ◌<◌, ◌^◌, pos, List, length, Option, Some, None, Result, Ok, Err, ⊤, bytes_eq, if◌then◌else◌, codes}
use Rattle.serde_json.specs.Data.{Data, Members}
use Rattle.serde_json.specs.Find.{get_member}
use Rattle.ps_json.specs.Answer.{then_with}
use Rattle.ps_json.specs.Fields.{without_member}
use Rattle.limit_ident.specs.Fault.{in_json, wrapped}
use Rattle.ps_json.specs.Member.{required, optional, member_then}
use Rattle.limit_ident.specs.Member.{object_in, whole_in, described}
use Rattle.limit_ident.specs.ReadClassifiers.{classifiers_of}
use Rattle.limit_ident.specs.ReadIdentifiers.{identifiers_of}
use Rattle.limit_ident.specs.declared.classifier.Classifier.{Classifier}
use Rattle.limit_ident.specs.declared.fault.LimitFault.{LimitFault}
use Rattle.limit_ident.specs.declared.identifier.Identifier.{Identifier}
use Rattle.limit_ident.specs.declared.named.Named.{Named}
use Rattle.ps_json.specs.Tree.{tree_of}
use Rattle.limit_apply.specs.Bare.{bare, bare_text}
use Rattle.limit_apply.specs.Limits.{LimitsConfig, AreBounded}
use Rattle.limit_apply.specs.ReadApplications.{applications_in, priorities_of}
use Rattle.limit_rule.specs.ReadLimits.{limits_in}
use Rattle.limit_apply.specs.declared.limits.Priorities.{Priorities}
use Rattle.limit_apply.specs.declared.read.Lists.{Lists}

-- a whole number from 1 to 5, which means nothing
abbrev pub schema_in : List ℕ → Data → Result ⊤ LimitFault
schema_in name d = then_with (whole_in name (pos 1) (pos 5) name d) (λ _. Ok tt)

abbrev pub schema_of : Members → Result ⊤ LimitFault
schema_of ms = optional tt schema_in (codes "schema") ms

abbrev pub identifiers_in : List ℕ → Data → Result (List (Named Identifier)) LimitFault
identifiers_in name d = identifiers_of d

abbrev pub classifiers_in : List (Named Identifier) → List ℕ → Data → Result (List (Named Classifier)) LimitFault
classifiers_in is name d = classifiers_of is d

abbrev pub lists_of : Members → Result Lists LimitFault
lists_of ms =
    member_then (codes "identifiers") (required wrapped identifiers_in) ms (λ is ms.
    member_then (codes "classifiers") (required wrapped (classifiers_in is)) ms (λ cs ms.
    member_then (codes "limits") (required wrapped limits_in) ms (λ ls ms.
    member_then (codes "applications") (required wrapped (applications_in cs ls)) ms (λ applications ms.
    Ok (record { identifiers = is; classifiers = cs; limits = ls; applications = applications })))))

abbrev pub after_lists : Members → Members
after_lists ms =
    without_member (codes "applications") (without_member (codes "limits") (without_member (codes "classifiers") (without_member (codes "identifiers") ms)))

-- each list has fewer than 2^32 entries
pub record AreCounted (lists : Lists) : Type 0 where
  pub identifiers : length lists.identifiers < 2 ^ 32
  pub classifiers : length lists.classifiers < 2 ^ 32
  pub limits : length lists.limits < 2 ^ 32
  pub applications : length lists.applications < 2 ^ 32

abbrev pub config : Lists → Priorities → List ℕ → LimitsConfig
config lists priorities text = record {
  identifiers = lists.identifiers;
  classifiers = lists.classifiers;
  limits = lists.limits;
  applications = lists.applications;
  priorities = priorities;
  text = text;
}

-- the priorities, behind which a description may be, and nothing else but comments
abbrev pub ended_priorities : List (Named Classifier) → Members → Result Priorities LimitFault
ended_priorities cs ms =
    then_with (priorities_of cs (get_member (codes "priorities") ms)) (λ priorities.
    then_with (described (without_member (codes "priorities") ms)) (λ _. Ok priorities))

-- the entries and priorities of a tree
unfoldable pub parts_of : Data → Result (Lists × Priorities) LimitFault
parts_of d =
    then_with (object_in (codes "limits") d) (λ ms.
    then_with (schema_of ms) (λ _.
    let ms = without_member (codes "schema") ms in
    then_with (lists_of ms) (λ lists.
    then_with (ended_priorities lists.classifiers (after_lists ms)) (λ priorities. Ok (lists, priorities)))))

-- comments are left out before all else
abbrev pub config_of : Data → Result LimitsConfig LimitFault
config_of d = then_with (parts_of (bare d)) (λ parts. Ok (config parts.0 parts.1 (bare_text d)))

-- the configuration that a text is
unfoldable pub config_in : List ℕ → Result LimitsConfig LimitFault
config_in text = then_with (in_json (tree_of text)) config_of

-- places and counts of entries fit 32 bits, priorities are bounded, and the text is read again as the same configuration
pub record IsKept (config : LimitsConfig) : Type 0 where
  pub identifiers : length config.identifiers < 2 ^ 32
  pub classifiers : length config.classifiers < 2 ^ 32
  pub limits : length config.limits < 2 ^ 32
  pub applications : length config.applications < 2 ^ 32
  pub priorities : AreBounded config.priorities
  pub again : config_in config.text ≡ Ok config

-- what was read, where this is its own text
abbrev pub of_own : List ℕ → Result LimitsConfig LimitFault → Option LimitsConfig
of_own text (Err fault) = None
of_own text (Ok config) = if bytes_eq config.text text then Some config else None

-- the configuration that has exactly this text, if one has
abbrev pub own_config : List ℕ → Option LimitsConfig
own_config text = of_own text (config_in text)

-- some configuration has exactly this text
pub record IsLimitsText (text : List ℕ) : Type 0 where
  pub config : LimitsConfig
  pub reads : config_in text ≡ Ok config
  pub same : config.text ≡ text
