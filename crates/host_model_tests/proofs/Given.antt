-- A host, and what it is asked.
use Rattle.std.specs.Prelude.{◌∷◌, Bool, List, None, Option, Some, [], codes, false, pos, true, ℕ, ℤ}
use Rattle.ps_time.specs.Span.{Range}
use Rattle.ps_time.specs.declared.class.Class.{Class}
use Rattle.ps_time.specs.declared.key.RunKey.{RunKey}
use Rattle.schedule_rule.specs.Rule.{Schedule}
use Rattle.plugin_core.specs.TestSpec.{sleep_of}
use Rattle.plugin_core.specs.declared.kind.TestKind.TheVariants as kind
use Rattle.plugin_core.specs.declared.test_spec.TestSpec.{TestSpec}
use Rattle.plugin_core.specs.declared.test_spec.TestSpec.TheVariants.{Idle, Idlemany, Simplestream}
use Rattle.archive_retry.specs.declared.state.ArchiveState.{ArchiveState}
use Rattle.limit_ident.specs.declared.address.Address.TheVariants.{V4}
use Rattle.limit_ident.specs.declared.address.Block.{Block}
use Rattle.limit_ident.specs.declared.classifier.Classifier.{Classifier}
use Rattle.limit_ident.specs.declared.identifier.Condition.TheVariants.{Always, CidrList}
use Rattle.limit_ident.specs.declared.identifier.Identifier.{Identifier}
use Rattle.limit_ident.specs.declared.named.Named.{Named}
use Rattle.limit_ident.specs.declared.require.Require.TheVariants.{All, Any}
use Rattle.limit_rule.specs.declared.limit.Limit.{Limit}
use Rattle.limit_rule.specs.declared.limit.Rule.{Rule}
use Rattle.limit_rule.specs.declared.limit.Rule.TheVariants.{PassFail, TestType}
use Rattle.limit_apply.specs.Limits.{LimitsConfig as Limits}
use Rattle.limit_apply.specs.declared.application.Application.{Application}
use Rattle.run_states.specs.declared.answer.FreeAnswer.{FreeAnswer}
use Rattle.run_states.specs.declared.proposal.Proposal.{Proposal}
use Rattle.run_states.specs.declared.proposal.Question.{Question}
use Rattle.run_states.specs.declared.state.State.{State}
use Rattle.task_spec.specs.declared.task.Archive.{Archive}
use Rattle.task_spec.specs.declared.task.Task.{Task}
use Rattle.host_model.specs.declared.config.Config.{Config}
use Rattle.host_model.specs.declared.config.Peer.{Peer}
use Rattle.host_model.specs.declared.order.Order.{Order}
use Rattle.host_model.specs.declared.order.OrderBody.{OrderBody}
use Rattle.host_model.specs.declared.view.Line.{Line as Shown}
use Rattle.host_model.specs.declared.order.OrderBody.TheVariants as order

-- ---- limits
abbrev addresses : List Block → Identifier
addresses blocks = record { condition = CidrList blocks; invert = false }

-- an address of 32 bits, of which the last so many don't count
abbrev block : ℕ → ℕ → Block
block address free = record { address = V4 address; free_bits = free }

abbrev named : {T : Type 0} → List ℕ → T → Named T
named name value = record { name = name; value = value }

abbrev one_of : ℕ → Classifier
one_of place = record { identifiers = place ∷ []; require = Any }

abbrev rule_limit : Rule → Limit
rule_limit r = record { rule = r; invert = false }

-- those of a classifier have to pass the limit
abbrev applied : ℕ → ℕ → Application
applied classifier limit = record { classifier = classifier; apply = record { require = All; limits = limit ∷ [] } ∷ []; invert = false; stop_on_failure = false }

-- Who posts from 10.0.0.0/8 or from this host may have anything, with priorities up to 100, and guests, from 192.0.2.0/24, may
-- have `idle` alone. Who posts from 198.51.100.0/24 is stopped.
abbrev pub ours : Limits
ours = record {
  identifiers = named (codes "bad") (addresses (block 3_325_256_704 8 ∷ [])) ∷ named (codes "ours") (addresses (block 167_772_160 24 ∷ block 2_130_706_432 24 ∷ [])) ∷ named (codes "guests") (addresses (block 3_221_225_984 8 ∷ [])) ∷ [];
  classifiers = named (codes "bad") (one_of 0) ∷ named (codes "ours") (one_of 1) ∷ named (codes "guests") (one_of 2) ∷ [];
  limits = named (codes "nothing") (rule_limit (PassFail false)) ∷ named (codes "anything") (rule_limit (PassFail true)) ∷ named (codes "idle") (rule_limit (TestType (kind.Idle ∷ []))) ∷ [];
  applications = record (applied 0 0) { stop_on_failure = true } ∷ applied 1 1 ∷ applied 2 2 ∷ [];
  priorities = record { default = pos 0; ceilings = record { classifier = 1; ceiling = pos 100 } ∷ [] };
  text = codes "ours";
}

-- Nobody may have anything.
abbrev pub nobody : Limits
nobody = record {
  identifiers = named (codes "all") (record { condition = Always; invert = false }) ∷ [];
  classifiers = named (codes "all") (one_of 0) ∷ [];
  limits = named (codes "nothing") (rule_limit (PassFail false)) ∷ [];
  applications = applied 0 0 ∷ [];
  priorities = record { default = pos 1_000; ceilings = [] };
  text = codes "nobody";
}

-- ---- hosts
abbrev pub peer : ℕ → List ℕ → Peer
peer number name = record { number = number; name = name; authority = []; key = [] }

-- host a, with every tool but `sleepbgm`
abbrev pub host_a : Config
host_a = record { number = 1; name = codes "a"; authority = []; peers = peer 2 (codes "b") ∷ peer 3 (codes "c") ∷ []; installed = codes "simplestreamer" ∷ codes "sleep" ∷ codes "snooze" ∷ []; limits = ours }

-- ---- runs
-- of a lead, a task, a number, an attempt
abbrev pub k : ℕ → ℕ → ℕ → ℕ → RunKey
k lead task number attempt = record { lead = lead; task = task; number = number; attempt = attempt }

abbrev pub window : ℕ → ℕ → Range
window first last = record { first = first; last = last }

abbrev pub idle : TestSpec
idle = Idle (sleep_of 10)

-- of hosts b and a, and of b and d
abbrev pub many : TestSpec
many = Idlemany (sleep_of 10) (codes "b" ∷ codes "a" ∷ [])

abbrev pub others : TestSpec
others = Idlemany (sleep_of 10) (codes "b" ∷ codes "d" ∷ [])

-- a text that is sent to a host
abbrev pub stream_to : List ℕ → TestSpec
stream_to dest = Simplestream dest (codes "hello") 2 5

abbrev pub stream : TestSpec
stream = stream_to (codes "a")

abbrev pub question : RunKey → TestSpec → ℤ → ℕ → ℕ → Question
question key test priority first last = record { key = key; test = test; priority = priority; window = window first last }

abbrev pub proposal : RunKey → TestSpec → List ℕ → ℕ → ℤ → List ℕ → List ℕ → Proposal
proposal key test tool start priority requester lead = record { key = key; test = test; tool = tool; start = start; priority = priority; asker = record { requester = requester; server = lead } }

-- ---- tasks, by the moment at which they are posted
abbrev pub once : ℕ → Schedule
once m = record { anchor = m; slip = 300; repeat = None; until = None; max_runs = None }

abbrev pub task_of : TestSpec → ℕ → Task
task_of test m = record { test = test; tools = []; rule = once m; archives = []; reference = None; priority = pos 0 }

abbrev pub pair : ℕ → Task
pair = task_of (Idlemany (sleep_of 10) (codes "a" ∷ codes "b" ∷ []))

abbrev pub stranger : ℕ → Task
stranger = task_of (Idlemany (sleep_of 10) (codes "a" ∷ codes "d" ∷ []))

abbrev pub stream_out : ℕ → Task
stream_out = task_of (stream_to (codes "b"))

abbrev pub urgent : ℕ → Task
urgent m = record (task_of idle m) { priority = pos 500 }

-- every hour, twice
abbrev pub hourly : ℕ → Task
hourly m = record (task_of idle m) { rule = record (once m) { repeat = Some 3600; max_runs = Some 2 } }

abbrev bitbucket : Archive
bitbucket = record { archiver = codes "bitbucket"; settings = codes "{}"; policy = record { entries = [] } }

abbrev failer : Archive
failer = record { archiver = codes "failer"; settings = codes "{\"fail\":2}"; policy = record { entries = record { attempts = 2; wait = 60 } ∷ [] } }

abbrev pub archived : ℕ → Task
archived m = record (task_of idle m) { archives = bitbucket ∷ failer ∷ [] }

-- ---- what was answered to an order: of what the order asks about, only its kind matters
abbrev pub order_to_b : RunKey → ℕ → OrderBody → Order
order_to_b key place body = record { key = key; place = place; to = codes "b"; body = body }

abbrev pub free_of : RunKey → OrderBody
free_of key = order.Free (question key idle (pos 0) 1000 2000)

abbrev pub propose_of : RunKey → OrderBody
propose_of key = order.Propose (proposal key idle (codes "sleep") 1007 (pos 0) (codes "10.0.0.9") (codes "a"))

abbrev pub good_result : List ℕ
good_result = codes "{\"schema\":1,\"succeeded\":true}"

abbrev pub free_in : List (List ℕ) → List Range → List Range → FreeAnswer
free_in tools first second = record { tools = tools; tiers = record { first = first; second = second } }

abbrev pub free_with : List ℕ → ℕ → ℕ → FreeAnswer
free_with tool first last = free_in (tool ∷ []) (window first last ∷ []) []

-- ---- what is shown
abbrev pub tried_so : ℕ → Option ℕ → Bool → ArchiveState
tried_so tried next done = record { tried = tried; next = next; done = done }

abbrev pub line : RunKey → Class → ℕ → ℕ → ℤ → State → Shown
line key class start end priority state = record { key = key; class = class; interval = record { start = start; end = end }; priority = priority; state = state }
