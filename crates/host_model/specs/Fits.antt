-- Whether a proposed run fits among rows that are settled at m, and why not. The entry is `denial_of`, near the end: the
-- first of the reasons against the run, which are asked for in this order:
-- 1. the host doesn't take part: NotParticipant;
-- 2. `objection`, which a lead asks for as well (in `Plan`):
--    - `has_tool`: the tool isn't installed, or doesn't run the test: NoTool;
--    - the start is before m: Past;
--    - `verdict_of` and `limits_denial`: the limits don't permit it: Limits;
--    - `firm_conflict`, of `Preemption` in `run_states`, and `conflict_denial`: a row in conflict with it can't be
--      preempted: Conflict;
-- 3. `full_denial`: no place for one more row, or for more results: Full.
-- What each of them means in words of rows is said by `Fits`, of `Fitting`.
use Rattle.std.specs.Prelude.{◌&&◌, Bool, List, None, Option, Some, false, is_none, length, nat_le, nat_lt, true, ℕ}
use Rattle.ps_time.specs.Span.{Span, span_of}
use Rattle.ps_time.specs.declared.asker.Verdict.{Verdict}
use Rattle.ps_time.specs.declared.asker.Verdict.TheVariants.{Permitted}
use Rattle.ps_time.specs.declared.key.RunKey.{RunKey}
use Rattle.ps_time.specs.Numbers.{most_kept_bytes, most_rows}
use Rattle.plugin_tool.specs.Choice.{is_tool_for}
use Rattle.plugin_core.specs.Kind.{test_kind}
use Rattle.plugin_core.specs.Participants.{is_named, participants}
use Rattle.plugin_core.specs.TestSpec.{test_class, test_length}
use Rattle.limit_apply.specs.Limits.{LimitsConfig as Limits, permits_of}
use Rattle.run_states.specs.Life.{first_there}
use Rattle.run_states.specs.declared.proposal.Proposal.{Proposal}
use Rattle.run_states.specs.declared.row.RunRow.{RunRow}
use Rattle.run_states.specs.declared.why.Denial.{Denial}
use Rattle.run_states.specs.declared.why.Denial.TheVariants.{Limits as against_limits, Past, Conflict, Full, NotParticipant, NoTool}
use Rattle.run_states.specs.declared.why.What.TheVariants.{Runs, Results}
use Rattle.run_states.specs.Preemption.{conflicts, firm_conflict}
use Rattle.run_states.specs.ResultBytes.{result_bytes}
use Rattle.host_model.specs.Book.{Book, keys_of_rows, limits_in}
use Rattle.host_model.specs.declared.config.Config.{Config}

-- what a host decides a proposal by, besides its rows
pub record Place : Type 0 where
  -- the host's name
  pub name : List ℕ
  -- the name of the proposal's lead
  pub lead : List ℕ
  -- the names of the tools that the host has
  pub installed : List (List ℕ)
  -- the limits in force
  pub limits : Limits
  -- of all results that its rows keep
  pub bytes : ℕ

-- the place of a host with this book, for a proposal of this lead
abbrev pub place_of : Config → Book → List ℕ → Place
place_of c b lead = record { name = c.name; lead = lead; installed = c.installed; limits = limits_in c b; bytes = result_bytes b.rows }

-- the denial, unless the test holds
abbrev pub unless : Bool → Denial → Option Denial
unless true denial = None
unless false denial = Some denial

-- what the run reserves
abbrev pub wanted_span : Proposal → Span
wanted_span p = span_of p.start (test_length p.test)

-- the tool is installed, and runs the test
abbrev pub has_tool : List (List ℕ) → Proposal → Bool
has_tool installed p = is_named p.tool installed && is_tool_for (test_kind p.test) p.tool

-- what limits say of it at its priority
abbrev pub verdict_of : Limits → Proposal → Verdict
verdict_of l p = permits_of l p.asker p.test (wanted_span p) p.priority

-- any verdict but a permission is a denial
abbrev pub limits_denial : Verdict → Option Denial
limits_denial (Permitted index) = None
limits_denial verdict = Some (against_limits verdict)

-- the row with which it conflicts, if there is one
abbrev pub conflict_denial : Option RunRow → Option Denial
conflict_denial None = None
conflict_denial (Some r) = Some (Conflict r.key)

-- the first of what a participant and the lead alike hold against it at m: the tool, the start, the limits, a conflict
-- Without one the limits permit the run: see `unobjected_granted` of `proofs/FitLemmas`.
abbrev pub objection : List (List ℕ) → Limits → List RunRow → ℕ → Proposal → Option Denial
objection installed l rows m p =
    first_there (unless (has_tool installed p) (NoTool p.tool)) (
    first_there (unless (nat_le m p.start) (Past m p.start)) (
    first_there (limits_denial (verdict_of l p)) (
    conflict_denial (firm_conflict p.key (test_class p.test) (wanted_span p) p.priority m rows))))

-- there is no place for more rows, or they keep as many bytes of results as a book takes
abbrev pub full_denial : List RunRow → ℕ → Option Denial
full_denial rows bytes =
    first_there (unless (nat_lt (length rows) most_rows) (Full Runs (length rows))) (unless (nat_lt bytes most_kept_bytes) (Full Results bytes))

-- the first reason that speaks against it at m; None where it fits
-- It is None exactly where `Fits` of `Fitting` holds: see `fits_exactly` of `proofs/FitLemmas`.
abbrev pub denial_of : Place → List RunRow → ℕ → Proposal → Option Denial
denial_of place rows m p =
    first_there (unless (is_named place.name (participants p.test place.lead)) NotParticipant) (
    first_there (objection place.installed place.limits rows m p) (full_denial rows place.bytes))

-- nothing speaks against it
-- In words of rows it is `Fits` of `Fitting`: see `fits_decided` of `proofs/FitLemmas`.
abbrev pub fits : Place → List RunRow → ℕ → Proposal → Bool
fits place rows m p = is_none (denial_of place rows m p)

-- the runs that it preempts where it is accepted, ascending
abbrev pub preempted_keys : List RunRow → Proposal → List RunKey
preempted_keys rows p = keys_of_rows (conflicts p.key (test_class p.test) (wanted_span p) rows)
