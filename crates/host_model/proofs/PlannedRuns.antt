-- A run that was asked about, planned for a start to which the host doesn't object, brings what is lawful.
use Rattle.std.specs.Prelude.{IfSome, IsNone, nat_le}
use Rattle.std.proofs.Common.{◌≡◌, ◌≤◌, ℕ, true, List, Option, Some, None, option_map, unwrap_or, refl, sym, ap, subst, arith}
use Rattle.ps_time.specs.Numbers.{greatest_moment}
use Rattle.ps_time.specs.Span.{Span}
use Rattle.ps_time.proofs.PictureLemmas.{and_true}
use Rattle.plugin_tool.specs.Choice.{is_tool_for}
use Rattle.plugin_core.specs.Kind.{test_kind}
use Rattle.plugin_core.specs.Participants.{is_named}
use Rattle.plugin_core.specs.TestSpec.{test_class}
use Rattle.plugin_core.specs.declared.test_spec.TestSpec.{TestSpec}
use Rattle.run_states.specs.Conflict.{in_conflict}
use Rattle.run_states.specs.LawfulRow.{Reserves}
use Rattle.run_states.specs.Preemption.{firm_conflict, planned_run, planned_span}
use Rattle.run_states.specs.Rows.{find_row}
use Rattle.run_states.specs.declared.proposal.Proposal.{Proposal}
use Rattle.run_states.specs.declared.row.RunRow.{RunRow}
use Rattle.run_states.specs.declared.why.Denial.TheVariants.{NoTool, Past}
use Rattle.host_model.specs.Book.{Book, latest_epoch, limits_in}
use Rattle.host_model.specs.Fits.{has_tool, limits_denial, objection, unless, verdict_of, wanted_span}
use Rattle.host_model.specs.Plan.{planned_proposal}
use Rattle.host_model.specs.declared.change.Change.TheVariants.{Planned}
use Rattle.host_model.specs.declared.config.Config.{Config}
use Rattle.host_model.proofs.AcceptBrings.{held, neither, no_conflict, tool_there, way_free}
use Rattle.host_model.proofs.Brings.{Brings}

-- what isn't accepted has no interval yet
no_interval : (test : TestSpec) (a : Option ℕ) (t : Option (List ℕ)) (i : Option Span) → Reserves test a t i → IsNone a → i ≡ None
no_interval test None None None has none = refl
no_interval test (Some a) t i has none = cc
no_interval test None (Some t) i has none = absurd has
no_interval test None None (Some i) has none = absurd has

pub planning_brings : (config : Config) (m : ℕ) (b : Book) (r : RunRow) (start : ℕ) (tool : List ℕ) → find_row b.rows r.key ≡ Some r → Reserves r.test r.accepted r.tool r.interval → IsNone r.accepted → start ≤ greatest_moment →
    objection config.installed (limits_in config b) b.rows m (planned_proposal r start tool) ≡ None → Brings config.number m b (Planned r.key start tool (latest_epoch b))
planning_brings config m b r start tool at has none low fits =
    let p : Proposal = planned_proposal r start tool in
    let tools = neither (unless (has_tool config.installed p) (NoTool p.tool)) _ fits in
    let starts = neither (unless (nat_le m p.start) (Past m p.start)) _ tools.1 in
    let permits = neither (limits_denial (verdict_of (limits_in config b) p)) _ starts.1 in
    let firm = no_conflict (firm_conflict p.key (test_class p.test) (wanted_span p) p.priority m b.rows) permits.1 in
    let runs = and_true (is_named p.tool config.installed) (is_tool_for (test_kind p.test) p.tool) (held (has_tool config.installed p) _ tools.0) in
    let free : r.interval ≡ None = no_interval r.test r.accepted r.tool r.interval has none in
    let span : unwrap_or r.interval (planned_span start r) ≡ wanted_span p = ap (λ o. unwrap_or o (planned_span start r)) free in (
      tool_there (test_kind p.test) p.tool runs.1,
      low,
      record {
        known = omega arith;
        way = λ s found. subst (λ o. IfSome (option_map (planned_run start) o) (λ i. in_conflict i.key i.class i.interval s ≡ true → IsNone s.started)) (sym at)
            (λ hit. way_free b.rows m p firm s found (subst (λ i. in_conflict r.key (test_class r.test) i s ≡ true) span hit));
      },
    )
