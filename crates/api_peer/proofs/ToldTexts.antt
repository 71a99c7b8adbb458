-- The results that tools give are read again as their trees.
use Rattle.std.proofs.Common.{arith, refl}
use Rattle.serde_json.specs.Written.{compact_text}
use Rattle.ps_json.proofs.TreeLemmas.{tree_text}
use Rattle.plugin_core.specs.Bounds.{IsTest}
use Rattle.plugin_core.specs.declared.test_spec.TestSpec.{TestSpec}
use Rattle.plugin_tool.proofs.LengthLemmas.{result_short}
use Rattle.plugin_tool.proofs.ShapeLemmas.{result_flat, result_whole}
use Rattle.plugin_tool.specs.ResultText.{result_data, TicksFit}
use Rattle.plugin_tool.specs.declared.run.Outcome.{Outcome}
use Rattle.plugin_tool.specs.declared.run.ToolView.{ToolView}
use Rattle.host_model.proofs.ResultTexts.{IsOfText, result_read}
use Rattle.host_model.proofs.WrittenTrees.{read_again, text_utf8}
use Rattle.api_peer.specs.Replied.{IsResultTold}

-- such a result is kept as its compact text
pub tool_told : (test : TestSpec) (view : ToolView) (outcome : Outcome) → IsTest test → IsOfText test → TicksFit test view outcome → IsResultTold (compact_text (result_data test view outcome))
tool_told test view outcome is text fits =
    let d = result_data test view outcome in
    let read = result_read test view outcome is text fits in
    let whole = result_whole test view outcome in
    let flat = result_flat test view outcome in
    record {
      kept = record {
        tree = d;
        reads = tree_text (compact_text d) d (text_utf8 d read whole) (read_again d read whole (omega (arith, flat))) (omega (arith, flat));
        flat = omega (arith, flat);
        whole = whole;
      };
      compact = refl;
      short = result_short test view outcome is;
    }
