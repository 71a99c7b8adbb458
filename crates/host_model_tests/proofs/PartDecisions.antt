-- What a participant decides beside one run that it has, computed: proposals, confirmations, cancellations, free starts.
use Rattle.std.specs.Prelude.{◌∷◌, ◌≡◌, List, None, Option, Some, [], codes, map, pos, ℕ, ℤ}
use Rattle.std.proofs.Common.{refl}
use Rattle.ps_time.specs.declared.key.RunKey.{RunKey}
use Rattle.plugin_core.specs.TestSpec.{sleep_of}
use Rattle.plugin_core.specs.declared.test_spec.TestSpec.{TestSpec}
use Rattle.plugin_core.specs.declared.test_spec.TestSpec.TheVariants.{Idleex, Idlemany}
use Rattle.limit_apply.specs.Open.{open_config}
use Rattle.run_states.specs.Life.{settled_rows}
use Rattle.run_states.specs.Rows.{find_row}
use Rattle.run_states.specs.declared.proposal.Proposal.{Proposal}
use Rattle.run_states.specs.declared.row.RunRow.{RunRow}
use Rattle.run_states.specs.declared.why.Cause.TheVariants.{HoldEnded}
use Rattle.run_states.specs.declared.why.Why.TheVariants.{Canceled, Nonstart}
use Rattle.host_model.specs.Confirm.{confirm_changes, confirm_reply, drop_changes}
use Rattle.host_model.specs.Fits.{Place}
use Rattle.host_model.specs.FreeStarts.{free_answer}
use Rattle.host_model.specs.NewRow.{accepted_row}
use Rattle.host_model.specs.Propose.{decide}
use Rattle.host_model.specs.declared.change.Change.{Change}
use Rattle.host_model.specs.declared.part.Decision.{Decision}
use Rattle.host_model.specs.declared.part.PartReply.{PartReply}
use Rattle.host_model_tests.proofs.Given.{free_in, k, proposal, question, window}
use Rattle.host_model.specs.declared.change.Change.TheVariants as change
use Rattle.host_model.specs.declared.part.Decision.TheVariants as decision
use Rattle.host_model.specs.declared.part.PartReply.TheVariants as told
use Rattle.run_states.specs.declared.why.Denial.TheVariants as denial

-- ---- a run of host a, and host b, which has it
-- on both hosts
abbrev together : TestSpec
together = Idlemany (sleep_of 10) (codes "a" ∷ codes "b" ∷ [])

-- of its lead alone
abbrev alone : TestSpec
alone = Idleex (sleep_of 10)

abbrev key : RunKey
key = k 1 1 0 0

-- the next run of its task
abbrev next : RunKey
next = k 1 1 1 0

-- it was accepted at 1003
abbrev row_of : TestSpec → ℕ → Option ℕ → RunRow
row_of test start confirmed = record (accepted_row 1003 (proposal key test (codes "sleep") start (pos 0) (codes "10.0.0.9") (codes "a")) (codes "a" ∷ codes "b" ∷ [])) { confirmed = confirmed }

-- with the tool `sleep`, for a proposal of this lead
abbrev at_b : List ℕ → Place
at_b lead = record { name = codes "b"; lead = lead; installed = codes "sleep" ∷ []; limits = open_config; bytes = 0 }

-- ---- a proposal is sent again or changed: beside a run of the same key with the start 1007
abbrev sent : TestSpec → List ℕ → ℕ → ℤ → List ℕ → Proposal
sent test tool start priority requester = proposal key test tool start priority requester (codes "a")

abbrev kept : Proposal
kept = sent together (codes "sleep") 1007 (pos 0) (codes "10.0.0.9")

abbrev changed : List Proposal
changed =
    sent together (codes "sleep") 1008 (pos 0) (codes "10.0.0.9") ∷
    sent together (codes "sleep") 1007 (pos 1) (codes "10.0.0.9") ∷
    sent together (codes "snooze") 1007 (pos 0) (codes "10.0.0.9") ∷
    sent alone (codes "sleep") 1007 (pos 0) (codes "10.0.0.9") ∷
    sent together (codes "sleep") 1007 (pos 0) (codes "10.0.0.8") ∷ []

abbrev decided_again : Proposal → Decision
decided_again p = decide (at_b (codes "a")) (settled_rows 990 (row_of together 1007 None ∷ [])) 1005 p

sent_again : decided_again kept ≡ decision.Known 1003
sent_again = refl

sent_otherwise : map decided_again changed ≡ map (λ p. decision.Denied (denial.Differs kept p)) changed
sent_otherwise = refl

-- ---- a proposal of another key, beside an exclusive run from 1010 to 1020
abbrev beside : ℕ → List ℕ → ℕ → ℤ → Decision
beside m tool start priority = decide (at_b (codes "b")) (settled_rows 990 (row_of alone 1010 None ∷ [])) m (proposal next alone tool start priority (codes "10.0.0.9") (codes "a"))

in_the_middle : beside 990 (codes "sleep") 1005 (pos 0) ≡ decision.Denied (denial.Conflict key)
in_the_middle = refl

up_to_its_start : beside 990 (codes "sleep") 1000 (pos 0) ≡ decision.New
up_to_its_start = refl

from_its_end : beside 990 (codes "sleep") 1020 (pos 0) ≡ decision.New
from_its_end = refl

before_its_end : beside 990 (codes "sleep") 1019 (pos 0) ≡ decision.Denied (denial.Conflict key)
before_its_end = refl

of_higher_priority : beside 990 (codes "sleep") 1005 (pos 1) ≡ decision.New
of_higher_priority = refl

on_deck : beside 1000 (codes "sleep") 1005 (pos 1) ≡ decision.Denied (denial.Conflict key)
on_deck = refl

past : beside 990 (codes "sleep") 989 (pos 0) ≡ decision.Denied (denial.Past 990 989)
past = refl

not_past : beside 990 (codes "sleep") 990 (pos 0) ≡ decision.New
not_past = refl

no_tool : beside 990 (codes "snooze") 1005 (pos 0) ≡ decision.Denied (denial.NoTool (codes "snooze"))
no_tool = refl

-- ---- what is told of a confirmation, what it changes, and what a cancellation in its place changes
pub record Answers : Type 0 where
  pub reply : PartReply
  pub confirms : List Change
  pub cancels : List Change

abbrev answers_at : ℕ → Option RunRow → Answers
answers_at m found = record { reply = confirm_reply m found; confirms = confirm_changes found; cancels = drop_changes found }

-- of a run that was accepted at 1003 with the start 1007
abbrev answers : ℕ → RunKey → Option ℕ → Answers
answers m asked confirmed = answers_at m (find_row (settled_rows m (row_of together 1007 confirmed ∷ [])) asked)

abbrev canceled : List Change
canceled = change.Closed key Canceled ∷ []

confirmed : answers 1006 key None ≡ record { reply = told.Confirmed 1006; confirms = change.Confirmed key ∷ []; cancels = canceled }
confirmed = refl

confirmed_again : answers 1007 key (Some 1006) ≡ record { reply = told.Confirmed 1006; confirms = []; cancels = canceled }
confirmed_again = refl

confirmed_too_late : answers 1007 key None ≡ record { reply = told.Closed (Nonstart HoldEnded); confirms = []; cancels = [] }
confirmed_too_late = refl

confirmed_unknown : answers 1006 next None ≡ record { reply = told.Unknown; confirms = []; cancels = [] }
confirmed_unknown = refl

-- ---- free starts from 1000 to 1030 around an exclusive run from 1010 to 1020
freeable : free_answer (codes "sleep" ∷ []) (settled_rows 990 (row_of alone 1010 None ∷ [])) 990 (question next alone (pos 1) 1000 1030)
    ≡ free_in (codes "sleep" ∷ []) (window 1000 1000 ∷ window 1020 1030 ∷ []) (window 1000 1030 ∷ [])
freeable = refl

not_freeable : free_answer (codes "sleep" ∷ []) (settled_rows 990 (row_of alone 1010 None ∷ [])) 990 (question next alone (pos 0) 1000 1030)
    ≡ free_in (codes "sleep" ∷ []) (window 1000 1000 ∷ window 1020 1030 ∷ []) (window 1000 1000 ∷ window 1020 1030 ∷ [])
not_freeable = refl
