-- The body of each denial, and its status.
use Rattle.std.specs.Prelude.{List, codes, ℕ}
use Rattle.serde_json.specs.Data.{Data, no_members, member, number, object, string}
use Rattle.serde_json.specs.Find.{of_integer}
use Rattle.ps_time.specs.declared.asker.Verdict.{Verdict}
use Rattle.ps_time.specs.declared.asker.Verdict.TheVariants.{Permitted, Stopped, Exhausted, AboveCeiling}
use Rattle.plugin_core.specs.WriteTest.{test_data}
use Rattle.run_states.specs.State.{state_text}
use Rattle.run_states.specs.declared.proposal.Proposal.{Proposal}
use Rattle.run_states.specs.declared.why.Denial.{Denial}
use Rattle.run_states.specs.declared.why.Denial.TheVariants as denial
use Rattle.run_states.specs.declared.why.What.{What}
use Rattle.run_states.specs.declared.why.What.TheVariants.{Runs, Results, Numbers}
use Rattle.task_spec.specs.WriteTask.{count_data}
use Rattle.api_reply.specs.Shown.{error_with, run_text, second_data}

-- ---- limits
-- `{"error":"limits","index":I,"verdict":V}`
abbrev pub at_application : ℕ → List ℕ → Data
at_application i verdict =
    object (member (codes "error") (string (codes "limits")) (
    member (codes "index") (count_data i) (
    member (codes "verdict") (string verdict) no_members)))

-- what is permitted is never denied
abbrev pub limits_data : Verdict → Data
limits_data (Permitted i) = at_application i (codes "permitted")
limits_data (Stopped i) = at_application i (codes "stopped")
limits_data Exhausted = error_with (codes "limits") (codes "verdict") (codes "exhausted")
limits_data (AboveCeiling z) =
    object (member (codes "ceiling") (number (of_integer z)) (
    member (codes "error") (string (codes "limits")) (
    member (codes "verdict") (string (codes "above-ceiling")) no_members)))

-- ---- the others
-- `{"error":"past","moment":M,"start":S}`
abbrev pub past_data : ℕ → ℕ → Data
past_data m start =
    object (member (codes "error") (string (codes "past")) (
    member (codes "moment") (second_data m) (
    member (codes "start") (second_data start) no_members)))

-- `{"count":N,"error":"full","what":W}`
abbrev pub full_data : ℕ → List ℕ → Data
full_data count what =
    object (member (codes "count") (count_data count) (
    member (codes "error") (string (codes "full")) (
    member (codes "what") (string what) no_members)))

abbrev pub what_text : What → List ℕ
what_text Runs = codes "runs"
what_text Results = codes "results"
what_text Numbers = codes "numbers"

-- `{"key":ID,"priority":P,"requester":ADDRESS,"start":S,"test":TEST,"tool":T}`, the body of a proposal
abbrev pub proposal_data : Proposal → Data
proposal_data p =
    object (member (codes "key") (string (run_text p.key)) (
    member (codes "priority") (number (of_integer p.priority)) (
    member (codes "requester") (string p.asker.requester) (
    member (codes "start") (second_data p.start) (
    member (codes "test") (test_data p.test) (
    member (codes "tool") (string p.tool) no_members))))))

-- `{"error":"differs","kept":P,"sent":P}`
abbrev pub differs_data : Proposal → Proposal → Data
differs_data kept sent =
    object (member (codes "error") (string (codes "differs")) (
    member (codes "kept") (proposal_data kept) (
    member (codes "sent") (proposal_data sent) no_members)))

-- ---- each denial, by the host of this name
abbrev pub denial_data : List ℕ → Denial → Data
denial_data name (denial.Limits verdict) = limits_data verdict
denial_data name (denial.Past m start) = past_data m start
denial_data name (denial.Conflict k) = error_with (codes "conflict") (codes "run") (run_text k)
denial_data name (denial.Full what count) = full_data count (what_text what)
denial_data name (denial.Differs kept sent) = differs_data kept sent
denial_data name (denial.Closed s) = error_with (codes "closed") (codes "why") (state_text s)
denial_data name denial.NotParticipant = error_with (codes "not a participant") (codes "host") name
denial_data name (denial.NoTool tool) = error_with (codes "no tool") (codes "tool") tool

abbrev pub denial_status : Denial → ℕ
denial_status (denial.Limits verdict) = 403
denial_status (denial.Full what count) = 507
denial_status _ = 409
