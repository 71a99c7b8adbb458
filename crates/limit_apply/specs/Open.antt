-- The configuration that stands where there is none.
use Rattle.std.specs.Prelude.{ℕ, pos, true, false, List, [], ◌∷◌, codes}
use Rattle.limit_ident.specs.declared.classifier.Classifier.{Classifier}
use Rattle.limit_ident.specs.declared.identifier.Condition.TheVariants.{Always}
use Rattle.limit_ident.specs.declared.identifier.Identifier.{Identifier}
use Rattle.limit_ident.specs.declared.named.Named.{Named}
use Rattle.limit_ident.specs.declared.require.Require.TheVariants.{All, Any}
use Rattle.limit_apply.specs.Limits.{LimitsConfig}
use Rattle.limit_apply.specs.declared.application.Application.{Application}
use Rattle.limit_rule.specs.declared.limit.Limit.{Limit}
use Rattle.limit_rule.specs.declared.limit.Rule.TheVariants.{PassFail}

abbrev pub open_identifiers : List (Named Identifier)
open_identifiers = record { name = codes "everybody"; value = record { condition = Always; invert = false } } ∷ []

abbrev pub open_classifiers : List (Named Classifier)
open_classifiers = record { name = codes "default"; value = record { identifiers = 0 ∷ []; require = Any } } ∷ []

abbrev pub open_limits : List (Named Limit)
open_limits = record { name = codes "always"; value = record { rule = PassFail true; invert = false } } ∷ []

abbrev pub open_applications : List Application
open_applications = record { classifier = 0; apply = record { require = All; limits = 0 ∷ [] } ∷ []; invert = false; stop_on_failure = false } ∷ []

abbrev pub open_text : List ℕ
open_text = codes "{\"applications\":[{\"apply\":[{\"limits\":[\"always\"],\"require\":\"all\"}],\"classifier\":\"default\"}],\"classifiers\":[{\"identifiers\":[\"everybody\"],\"name\":\"default\"}],\"identifiers\":[{\"name\":\"everybody\",\"type\":\"always\"}],\"limits\":[{\"data\":{\"pass\":true},\"name\":\"always\",\"type\":\"pass-fail\"}],\"priorities\":{\"default\":1000}}"

abbrev pub open_config : LimitsConfig
open_config = record {
  identifiers = open_identifiers;
  classifiers = open_classifiers;
  limits = open_limits;
  applications = open_applications;
  priorities = record { default = pos 1_000; ceilings = [] };
  text = open_text;
}
