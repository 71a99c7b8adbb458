use Rattle.std.proofs.Common.{◌≡◌, ◌≤◌, ℕ, List, length, Ok, subst, sym, ap, ◌∙◌, arith}
use Rattle.std.proofs.lemmas.Result.{IfOk-weaker}
use Rattle.serde_json.specs.Data.{Data, depth}
use Rattle.serde_json.specs.Written.{compact_text}
use Rattle.ps_json.specs.Tree.{tree_of}
use Rattle.ps_time.specs.Numbers.{most_result_bytes}
use Rattle.plugin_tool.proofs.LengthLemmas.{result_short}
use Rattle.plugin_tool.proofs.ShapeLemmas.{result_whole, result_flat}
use Rattle.plugin_tool.proofs.result.result_text.Goals as goal

pub returns-in_err-value-clause-whole : goal.returns-in_err-value-clause-whole
returns-in_err-value-clause-whole c = result_whole c.args.test.now c.args.tool.now c.args.outcome

pub returns-in_err-value-clause-flat : goal.returns-in_err-value-clause-flat
returns-in_err-value-clause-flat c = result_flat c.args.test.now c.args.tool.now c.args.outcome

pub write_text-requires-clause-whole : goal.write_text-requires-clause-whole
write_text-requires-clause-whole c = rw c.in_ok-value.ensures (result_whole c.args.test.now c.args.tool.now c.args.outcome)

pub write_text-requires-clause-flat : goal.write_text-requires-clause-flat
write_text-requires-clause-flat c = rw c.in_ok-value.ensures (omega (arith, result_flat c.args.test.now c.args.tool.now c.args.outcome))

pub returns-clause-whole : goal.returns-clause-whole
returns-clause-whole c = result_whole c.args.test.now c.args.tool.now c.args.outcome

pub returns-clause-flat : goal.returns-clause-flat
returns-clause-flat c = result_flat c.args.test.now c.args.tool.now c.args.outcome

pub returns-clause-reads : goal.returns-clause-reads
returns-clause-reads c =
    let flat = result_flat c.args.test.now c.args.tool.now c.args.outcome in
    IfOk-weaker c.write_text.result _ _ (λ text reads. subst (λ (d : Data). depth d ≤ 64 → tree_of text ≡ Ok d) c.in_ok-value.ensures reads (omega (arith, flat))) c.write_text.ensures.reads

pub returns-clause-short : goal.returns-clause-short
returns-clause-short c =
    IfOk-weaker c.write_text.result _ _ (λ text is. subst (λ (bs : List ℕ). length bs ≤ most_result_bytes) (sym (is ∙ ap compact_text c.in_ok-value.ensures)) (result_short c.args.test.now c.args.tool.now c.args.outcome c.requires.test)) c.write_text.ensures.text
