-- The trees of results have whole numbers alone, and aren't deep.
use Rattle.std.proofs.Common.{◌≡◌, ℕ, ◌+◌, ◌*◌, ◌/◌, ◌≤◌, List, [], ◌∷◌, map, false, refl, arith}
use Rattle.std.specs.List.{range_with_len}
use Rattle.serde_json.specs.Data.{depth, items_depth}
use Rattle.serde_json.specs.View.{items_of}
use Rattle.serde_json.specs.Written.{has_float, items_have_float}
use Rattle.plugin_core.specs.declared.test_spec.TestSpec.{TestSpec}
use Rattle.plugin_core.specs.declared.test_spec.TestSpec.TheVariants.{Idle, Idleex, Idlebgm, Idlemany, Simplestream}
use Rattle.plugin_tool.specs.ResultText.{tick, streamed, good_result, result_data}
use Rattle.plugin_tool.specs.declared.run.Outcome.{Outcome}
use Rattle.plugin_tool.specs.declared.run.Outcome.TheVariants.{Good, TimedOut, NotTaken, Restarted}
use Rattle.plugin_tool.specs.declared.run.Role.{Role}
use Rattle.plugin_tool.specs.declared.run.Role.TheVariants.{Only, Source, Dest}
use Rattle.plugin_tool.specs.declared.run.ToolView.{ToolView}

ticks_whole : (at : ℕ → ℕ) (xs : List ℕ) → items_have_float (items_of (map (λ i. tick (at i)) xs)) ≡ false
ticks_whole at [] = refl
ticks_whole at (x ∷ xs) = ticks_whole at xs

ticks_flat : (at : ℕ → ℕ) (xs : List ℕ) → items_depth (items_of (map (λ i. tick (at i)) xs)) ≤ 1
ticks_flat at [] = omega arith
ticks_flat at (x ∷ xs) = omega (arith, ticks_flat at xs)

streamed_whole : (bs : List ℕ) (r : Role) → has_float (streamed bs r) ≡ false
streamed_whole bs Only = refl
streamed_whole bs Source = refl
streamed_whole bs Dest = refl

streamed_flat : (bs : List ℕ) (r : Role) → depth (streamed bs r) ≤ 3
streamed_flat bs Only = omega arith
streamed_flat bs Source = omega arith
streamed_flat bs Dest = omega arith

good_whole : (test : TestSpec) (tool : ToolView) → has_float (good_result test tool) ≡ false
good_whole (Idle z) tool = refl
good_whole (Idleex z) tool = refl
good_whole (Idlebgm z i) tool = rw (ticks_whole (λ n. tool.started + n * i) (range_with_len 1 (z.duration / i))) refl
good_whole (Idlemany z h) tool = refl
good_whole (Simplestream to m w t) tool = streamed_whole m tool.role

good_flat : (test : TestSpec) (tool : ToolView) → depth (good_result test tool) ≤ 3
good_flat (Idle z) tool = omega arith
good_flat (Idleex z) tool = omega arith
good_flat (Idlebgm z i) tool = omega (arith, ticks_flat (λ n. tool.started + n * i) (range_with_len 1 (z.duration / i)))
good_flat (Idlemany z h) tool = omega arith
good_flat (Simplestream to m w t) tool = streamed_flat m tool.role

pub result_whole : (test : TestSpec) (tool : ToolView) (outcome : Outcome) → has_float (result_data test tool outcome) ≡ false
result_whole test tool Good = good_whole test tool
result_whole test tool TimedOut = refl
result_whole test tool NotTaken = refl
result_whole test tool Restarted = refl

pub result_flat : (test : TestSpec) (tool : ToolView) (outcome : Outcome) → depth (result_data test tool outcome) ≤ 3
result_flat test tool Good = good_flat test tool
result_flat test tool TimedOut = omega arith
result_flat test tool NotTaken = omega arith
result_flat test tool Restarted = omega arith
