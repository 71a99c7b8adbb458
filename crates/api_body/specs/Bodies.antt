-- The bodies of requests of peers: their members, in the order in which they are read.
use Rattle.std.specs.Prelude.{◌+◌, Bool, Err, List, None, Ok, Option, Result, Some, codes, if◌then◌else◌, length, min, nat_le, negsuc, option_and_then, pos, ℕ, ℤ}
use Rattle.serde_json.specs.Data.{Data, Members}
use Rattle.serde_json.specs.Find.{as_i64, as_number}
use Rattle.ps_json.specs.Answer.{lifted, then_with}
use Rattle.ps_json.specs.Fields.{end_of}
use Rattle.ps_json.specs.Kinds.{count_of, integer_within, members_of, text_of}
use Rattle.ps_json.specs.Member.{member_then, required}
use Rattle.ps_json.specs.Tree.{tree_of}
use Rattle.ps_json.specs.declared.fault.JsonFault.{JsonFault}
use Rattle.ps_json.specs.declared.fault.JsonFault.TheVariants.{WrongKind}
use Rattle.ps_time.specs.Id.{id_of_text}
use Rattle.ps_time.specs.Numbers.{greatest_moment, horizon, most_request_bytes}
use Rattle.ps_time.specs.declared.id.Id.{Id}
use Rattle.ps_time.specs.declared.id.Id.TheVariants.{Run}
use Rattle.ps_time.specs.declared.key.RunKey.{RunKey}
use Rattle.plugin_core.specs.ReadTest.{test_of}
use Rattle.plugin_core.specs.declared.test_spec.TestSpec.{TestSpec}
use Rattle.run_states.specs.declared.proposal.Proposal.{Proposal}
use Rattle.run_states.specs.declared.proposal.Question.{Question}
use Rattle.task_spec.specs.Fault.{in_json, wrapped, wrapped_spec}
use Rattle.task_spec.specs.declared.fault.TaskFault.{TaskFault}
use Rattle.task_spec.specs.declared.fault.TaskFault.TheVariants.{BadPriority, Json}

-- the tree of a body
abbrev pub body_tree : List ℕ → Result Data TaskFault
body_tree bytes = in_json (tree_of bytes)

-- ---- contents of members
abbrev pub moment_in : List ℕ → Data → Result ℕ TaskFault
moment_in name d = in_json (count_of name 0 greatest_moment d)

-- a moment from the first on, at most a day later
abbrev pub last_in : ℕ → List ℕ → Data → Result ℕ TaskFault
last_in first name d = in_json (count_of name first (min greatest_moment (first + horizon)) d)

-- the identifier of a run
abbrev pub key_or : List ℕ → Option Id → Result RunKey JsonFault
key_or name (Some (Run k)) = Ok k
key_or name _ = Err (WrongKind name)

abbrev pub key_at : List ℕ → Data → Result RunKey TaskFault
key_at name d = in_json (then_with (text_of name d) (λ text. key_or name (id_of_text text)))

-- a whole number of 16 bits
abbrev pub priority_or : Option ℤ → Result ℤ TaskFault
priority_or None = Err BadPriority
priority_or (Some z) = Ok z

abbrev pub priority_at : List ℕ → Data → Result ℤ TaskFault
priority_at name d = priority_or (integer_within (negsuc 32_767) (pos 32_767) (option_and_then as_i64 (as_number d)))

-- a test, whose first host may be any
abbrev pub test_at : List ℕ → Data → Result TestSpec TaskFault
test_at name d = lifted wrapped_spec (test_of d)

abbrev pub text_at : List ℕ → Data → Result (List ℕ) TaskFault
text_at name d = in_json (text_of name d)

-- nothing but comments is left
abbrev pub ended : {A : Type 0} → Members → A → Result A TaskFault
ended ms a = then_with (in_json (end_of ms)) (λ _. Ok a)

-- ---- a question for free starts
abbrev pub question_of : Data → Result Question TaskFault
question_of d =
    then_with (in_json (members_of (codes "question") d)) (λ ms.
    member_then (codes "first") (required wrapped moment_in) ms (λ first ms.
    member_then (codes "key") (required wrapped key_at) ms (λ key ms.
    member_then (codes "last") (required wrapped (last_in first)) ms (λ last ms.
    member_then (codes "priority") (required wrapped priority_at) ms (λ priority ms.
    member_then (codes "test") (required wrapped test_at) ms (λ test ms.
    ended ms (record { key = key; test = test; priority = priority; window = record { first = first; last = last } })))))))

-- ---- a proposal
-- its texts have together at most so many bytes
abbrev pub are_short : ℕ → List ℕ → List ℕ → List ℕ → Bool
are_short most requester tool server = nat_le (length requester + length tool + length server) most

abbrev pub proposal_end : ℕ → Members → Proposal → Result Proposal TaskFault
proposal_end most ms p =
    then_with (in_json (end_of ms)) (λ _.
    if are_short most p.asker.requester p.tool p.asker.server then Ok p else Err (Json (WrongKind (codes "tool"))))

-- the lead is the host that sends it
abbrev pub proposal_of : ℕ → List ℕ → Data → Result Proposal TaskFault
proposal_of most lead d =
    then_with (in_json (members_of (codes "proposal") d)) (λ ms.
    member_then (codes "key") (required wrapped key_at) ms (λ key ms.
    member_then (codes "priority") (required wrapped priority_at) ms (λ priority ms.
    member_then (codes "requester") (required wrapped text_at) ms (λ requester ms.
    member_then (codes "start") (required wrapped moment_in) ms (λ start ms.
    member_then (codes "test") (required wrapped test_at) ms (λ test ms.
    member_then (codes "tool") (required wrapped text_at) ms (λ tool ms.
    proposal_end most ms (record { key = key; test = test; tool = tool; start = start; priority = priority; asker = record { requester = requester; server = lead } }))))))))

-- ---- material
-- no text of a body is longer than the body
abbrev pub material_end : Members → List ℕ → Result (List ℕ) TaskFault
material_end ms text =
    then_with (in_json (end_of ms)) (λ _. if nat_le (length text) most_request_bytes then Ok text else Err (Json (WrongKind (codes "material"))))

abbrev pub material_of : Data → Result (List ℕ) TaskFault
material_of d =
    then_with (in_json (members_of (codes "material") d)) (λ ms.
    member_then (codes "material") (required wrapped text_at) ms (λ text ms.
    material_end ms text))
