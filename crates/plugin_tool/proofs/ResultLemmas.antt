-- Texts of results, and their ticks.
use Rattle.std.proofs.Common.{◌≡◌, ℕ, ◌+◌, ◌*◌, ◌<◌, ◌≤◌, List, [], ◌∷◌, ◌++◌, map, sym, arith}
use Rattle.std.proofs.lemmas.List.{map-append}
use Rattle.std.proofs.lemmas.List.FromFn.{map-range_with_len_more}
use Rattle.std.proofs.Math.Nat.{mul-le-mul_right}
use Rattle.serde_json.specs.Data.{Data}
use Rattle.ps_time.specs.declared.moment.TheConstants.{MAX_LENGTH, MAX_MOMENT}
use Rattle.plugin_tool.specs.declared.run.Outcome.{Outcome}
use Rattle.plugin_tool.specs.declared.run.Outcome.TheVariants.{Good}
use Rattle.plugin_tool.specs.declared.run.ToolView.{ToolView}
use Rattle.plugin_core.specs.declared.test_spec.TestSpec.{TestSpec}
use Rattle.plugin_core.specs.declared.test_spec.TestSpec.TheVariants.{Idlebgm}
use Rattle.plugin_core.specs.Bounds.{IsTest}
use Rattle.plugin_tool.specs.ResultText.{tick, ticks, TicksFit}

-- a tick isn't after the last one
pub tick_within : (started interval count passed most : ℕ) → passed < count → started + count * interval ≤ most → started + (passed + 1) * interval ≤ most
tick_within started interval count passed most lt within =
    let h : (passed + 1) * interval ≤ count * interval = mul-le-mul_right interval (omega arith) in omega arith

-- one more tick comes after the others
pub ticks_more : {V : Type 0} (view : V → Data) (vs : List V) (v : V) (started interval passed : ℕ) → map view vs ≡ ticks started interval passed → view v ≡ tick (started + (passed + 1) * interval) → map view (vs ++ v ∷ []) ≡ ticks started interval (passed + 1)
ticks_more view vs v started interval passed before is =
    rw (map-append view vs (v ∷ []), before, is) (sym (map-range_with_len_more (λ i. tick (started + i * interval)) 1 passed (passed + 1) (omega arith)))

-- the ticks of a run that starts ten years before the last moment are moments
pub ticks_fit : (test : TestSpec) (tool : ToolView) (outcome : Outcome) → IsTest test → tool.started + MAX_LENGTH ≤ MAX_MOMENT → TicksFit test tool outcome
ticks_fit (Idlebgm z i) tool Good is early = omega (arith, is.0.short)
ticks_fit test tool outcome is early = tt
