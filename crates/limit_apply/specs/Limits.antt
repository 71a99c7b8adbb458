-- What a configuration of limits answers.
use Rattle.std.specs.Prelude.{ℕ, ◌+◌, ℤ, pos, negsuc, ◌≤ℤ◌, int_lt, Bool, List, [], ◌∷◌, length, map, filter, All, Option, Some, None, if◌then◌else◌}
use Rattle.std.specs.Int.{int_max}
use Rattle.std.specs.Option.{unwrap_or}
use Rattle.ps_time.specs.Span.{Span}
use Rattle.ps_time.specs.declared.asker.Asker.{Asker}
use Rattle.ps_time.specs.declared.asker.Verdict.{Verdict}
use Rattle.ps_time.specs.declared.asker.Verdict.TheVariants.{Permitted, Stopped, Exhausted, AboveCeiling}
use Rattle.plugin_core.specs.declared.test_spec.TestSpec.{TestSpec}
use Rattle.limit_ident.specs.Classifier.{held_at}
use Rattle.limit_ident.specs.declared.classifier.Classifier.{Classifier}
use Rattle.limit_ident.specs.declared.identifier.Identifier.{Identifier}
use Rattle.limit_ident.specs.declared.named.Named.{Named}
use Rattle.limit_apply.specs.declared.application.Application.{Application}
use Rattle.limit_rule.specs.declared.limit.Limit.{Limit}
use Rattle.limit_apply.specs.declared.limits.Ceiling.{Ceiling}
use Rattle.limit_apply.specs.declared.limits.Counts.{Counts}
use Rattle.limit_apply.specs.declared.limits.Priorities.{Priorities}
use Rattle.limit_apply.specs.Application.{decided}

pub record LimitsConfig : Type 0 where
  pub identifiers : List (Named Identifier)
  pub classifiers : List (Named Classifier)
  pub limits : List (Named Limit)
  pub applications : List Application
  pub priorities : Priorities
  -- the compact text of the tree without comments
  pub text : List ℕ

abbrev pub counts_of : LimitsConfig → Counts
counts_of config = record {
  identifiers = length config.identifiers;
  classifiers = length config.classifiers;
  limits = length config.limits;
  applications = length config.applications;
}

-- the classifier at a place holds
abbrev pub holds_at : LimitsConfig → Asker → ℕ → Bool
holds_at config asker place = held_at config.classifiers config.identifiers asker place

-- ---- applications

-- the list of applications, from that at `index` on, that take part, each with its index and what it decides
abbrev pub written_from : LimitsConfig → Asker → TestSpec → Option Span → ℕ → List Application → List (ℕ × Option Verdict)
written_from config asker test run index [] = []
written_from config asker test run index (a ∷ others) =
    let rest = written_from config asker test run (index + 1) others in
    if holds_at config asker a.classifier then (index, decided config.limits test run index a) ∷ rest else rest

-- the first that decides
abbrev pub first_verdict : List (ℕ × Option Verdict) → Verdict
first_verdict [] = Exhausted
first_verdict (entry ∷ entries) = unwrap_or entry.1 (first_verdict entries)

abbrev pub verdict_at : LimitsConfig → Asker → TestSpec → Option Span → Verdict
verdict_at config asker test run = first_verdict (written_from config asker test run 0 config.applications)

-- ---- priorities

-- the greatest of a number and of those of a list
abbrev pub greatest : ℤ → List ℤ → ℤ
greatest z [] = z
greatest z (y ∷ ys) = int_max y (greatest z ys)

-- the ceilings whose classifier holds
abbrev pub held_ceilings : LimitsConfig → Asker → List Ceiling → List ℤ
held_ceilings config asker cs = map (λ c. c.ceiling) (filter (λ c. holds_at config asker c.classifier) cs)

-- the greatest of the default and of the ceilings of classifiers that hold
abbrev pub ceiling_of : LimitsConfig → Asker → ℤ
ceiling_of config asker = greatest config.priorities.default (held_ceilings config asker config.priorities.ceilings)

abbrev pub IsPriority : ℤ → Type 0
IsPriority z = (negsuc 999 ≤ℤ z) × (z ≤ℤ pos 1_000)

-- the default and each ceiling lie from -1000 to 1000
pub record AreBounded (priorities : Priorities) : Type 0 where
  pub default : IsPriority priorities.default
  pub ceilings : All (λ c. IsPriority c.ceiling) priorities.ceilings

-- ---- the answers

-- what is permitted is so up to the asker's ceiling
abbrev pub below_ceiling : LimitsConfig → Asker → ℤ → Verdict → Verdict
below_ceiling config asker priority (Permitted index) = if int_lt (ceiling_of config asker) priority then AboveCeiling (ceiling_of config asker) else Permitted index
below_ceiling config asker priority (Stopped index) = Stopped index
below_ceiling config asker priority Exhausted = Exhausted
below_ceiling config asker priority (AboveCeiling ceiling) = AboveCeiling ceiling

abbrev pub permits_of : LimitsConfig → Asker → TestSpec → Span → ℤ → Verdict
permits_of config asker test span priority = below_ceiling config asker priority (verdict_at config asker test (Some span))

abbrev pub admits_of : LimitsConfig → Asker → TestSpec → Verdict
admits_of config asker test = verdict_at config asker test None
