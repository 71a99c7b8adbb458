-- Proposals, and why a run was denied or closed, as bytes.
use Rattle.std.specs.Prelude.{◌∷◌, List, Option, refl, ℕ, ℤ}
use Rattle.ps_time.specs.declared.asker.Asker.{Asker}
use Rattle.ps_time.specs.declared.key.RunKey.{RunKey}
use Rattle.plugin_core.specs.declared.test_spec.TestSpec.{TestSpec}
use Rattle.run_states.specs.declared.proposal.Proposal.{Proposal}
use Rattle.run_states.specs.declared.why.Cause.{Cause}
use Rattle.run_states.specs.declared.why.Cause.TheVariants.{Denied, HoldEnded, NoSlot, NoTool as no_tool, Silent}
use Rattle.run_states.specs.declared.why.Closing.{Closing}
use Rattle.run_states.specs.declared.why.Denial.{Denial}
use Rattle.run_states.specs.declared.why.Denial.TheVariants.{Closed, Conflict, Differs, Full, Limits, NoTool, NotParticipant, Past}
use Rattle.run_states.specs.declared.why.Why.{Why}
use Rattle.run_states.specs.declared.why.Why.TheVariants.{Canceled, Missed, Nonstart, Preempted}
use Rattle.value_bytes.specs.Keys.{asker, asker_is, key, key_is}
use Rattle.value_bytes.specs.States.{state, state_is, verdict, verdict_is, what, what_is}
use Rattle.value_bytes.specs.Tests.{test, test_is}
use Rattle.value_bytes.specs.Codec.{◌&◌, Codec, built, nothing, number_64, signed_16, text, variant}
use Rattle.value_bytes.specs.Laws.{IsCodec, ReadAgain}
use Rattle.value_bytes.specs.NumberLaws.{number_64_is, signed_16_is}
use Rattle.value_bytes.specs.PairLaws.{built_is, case_reads, made_again, no_case_reads, nothing_is, pair_is, variant_is}
use Rattle.value_bytes.specs.Reading.{case_at, made_at, no_case_at, variant_at}
use Rattle.value_bytes.specs.TextLaws.{text_is}

-- ---- a proposal: key, test, tool, start, priority, who asks
abbrev pub ProposalParts : Type 0
ProposalParts = (RunKey × (TestSpec × List ℕ)) × (ℕ × (ℤ × Asker))

abbrev pub proposal_of : ProposalParts → Proposal
proposal_of p = record { key = p.0.0; test = p.0.1.0; tool = p.0.1.1; start = p.1.0; priority = p.1.1.0; asker = p.1.1.1 }

abbrev pub parts_of_proposal : Proposal → ProposalParts
parts_of_proposal x = ((x.key, (x.test, x.tool)), (x.start, (x.priority, x.asker)))

abbrev pub proposal : Codec Proposal
proposal = built proposal_of parts_of_proposal ((key & (test & text)) & (number_64 & (signed_16 & asker)))

pub proposal_is : IsCodec proposal
proposal_is = built_is proposal_of parts_of_proposal (λ x. refl) (λ p. refl) (pair_is (pair_is key_is (pair_is test_is text_is)) (pair_is number_64_is (pair_is signed_16_is asker_is)))

-- ---- a denial, by its number
abbrev pub WritableDenial : Denial → Type 0
WritableDenial (Limits said) = verdict.Writable said
WritableDenial (Past moment start) = (number_64 & number_64).Writable (moment, start)
WritableDenial (Conflict run) = key.Writable run
WritableDenial (Full full count) = (what & number_64).Writable (full, count)
WritableDenial (Differs kept sent) = (proposal & proposal).Writable (kept, sent)
WritableDenial (Closed name) = state.Writable name
WritableDenial NotParticipant = nothing.Writable tt
WritableDenial (NoTool tool) = text.Writable tool

abbrev pub FitsDenial : Denial → Type 0
FitsDenial (Limits said) = verdict.Fits said
FitsDenial (Past moment start) = (number_64 & number_64).Fits (moment, start)
FitsDenial (Conflict run) = key.Fits run
FitsDenial (Full full count) = (what & number_64).Fits (full, count)
FitsDenial (Differs kept sent) = (proposal & proposal).Fits (kept, sent)
FitsDenial (Closed name) = state.Fits name
FitsDenial NotParticipant = nothing.Fits tt
FitsDenial (NoTool tool) = text.Fits tool

abbrev pub denial_code : Denial → List ℕ
denial_code (Limits said) = 1 ∷ verdict.code said
denial_code (Past moment start) = 2 ∷ (number_64 & number_64).code (moment, start)
denial_code (Conflict run) = 3 ∷ key.code run
denial_code (Full full count) = 4 ∷ (what & number_64).code (full, count)
denial_code (Differs kept sent) = 5 ∷ (proposal & proposal).code (kept, sent)
denial_code (Closed name) = 6 ∷ state.code name
denial_code NotParticipant = 7 ∷ nothing.code tt
denial_code (NoTool tool) = 8 ∷ text.code tool

abbrev pub denial_cases : ℕ → List ℕ → Option (Denial × List ℕ)
denial_cases =
    case_at 1 (made_at Limits verdict.read) (
    case_at 2 (made_at (λ p. Past p.0 p.1) (number_64 & number_64).read) (
    case_at 3 (made_at Conflict key.read) (
    case_at 4 (made_at (λ p. Full p.0 p.1) (what & number_64).read) (
    case_at 5 (made_at (λ p. Differs p.0 p.1) (proposal & proposal).read) (
    case_at 6 (made_at Closed state.read) (
    case_at 7 (made_at (λ u. NotParticipant) nothing.read) (
    case_at 8 (made_at NoTool text.read) no_case_at)))))))

abbrev pub denial : Codec Denial
denial = variant WritableDenial FitsDenial denial_code denial_cases

denial_again : ReadAgain FitsDenial denial_code (variant_at denial_cases)
denial_again (Limits said) rest fits = made_again Limits verdict_is said rest fits
denial_again (Past moment start) rest fits = made_again (λ p. Past p.0 p.1) (pair_is number_64_is number_64_is) (moment, start) rest fits
denial_again (Conflict run) rest fits = made_again Conflict key_is run rest fits
denial_again (Full full count) rest fits = made_again (λ p. Full p.0 p.1) (pair_is what_is number_64_is) (full, count) rest fits
denial_again (Differs kept sent) rest fits = made_again (λ p. Differs p.0 p.1) (pair_is proposal_is proposal_is) (kept, sent) rest fits
denial_again (Closed name) rest fits = made_again Closed state_is name rest fits
denial_again NotParticipant rest fits = made_again (λ u. NotParticipant) nothing_is tt rest fits
denial_again (NoTool tool) rest fits = made_again NoTool text_is tool rest fits

pub denial_is : IsCodec denial
denial_is =
    variant_is WritableDenial FitsDenial denial_code denial_cases denial_again (
    case_reads 1 Limits (λ b. refl) verdict_is (
    case_reads 2 (λ p. Past p.0 p.1) (λ b. refl) (pair_is number_64_is number_64_is) (
    case_reads 3 Conflict (λ b. refl) key_is (
    case_reads 4 (λ p. Full p.0 p.1) (λ b. refl) (pair_is what_is number_64_is) (
    case_reads 5 (λ p. Differs p.0 p.1) (λ b. refl) (pair_is proposal_is proposal_is) (
    case_reads 6 Closed (λ b. refl) state_is (
    case_reads 7 (λ u. NotParticipant) (λ b. refl) nothing_is (
    case_reads 8 NoTool (λ b. refl) text_is (no_case_reads denial_code)))))))))

-- ---- a cause
abbrev pub WritableCause : Cause → Type 0
WritableCause NoSlot = nothing.Writable tt
WritableCause no_tool = nothing.Writable tt
WritableCause (Denied host answer) = (text & denial).Writable (host, answer)
WritableCause Silent = nothing.Writable tt
WritableCause HoldEnded = nothing.Writable tt

abbrev pub FitsCause : Cause → Type 0
FitsCause NoSlot = nothing.Fits tt
FitsCause no_tool = nothing.Fits tt
FitsCause (Denied host answer) = (text & denial).Fits (host, answer)
FitsCause Silent = nothing.Fits tt
FitsCause HoldEnded = nothing.Fits tt

abbrev pub cause_code : Cause → List ℕ
cause_code NoSlot = 0 ∷ nothing.code tt
cause_code no_tool = 1 ∷ nothing.code tt
cause_code (Denied host answer) = 2 ∷ (text & denial).code (host, answer)
cause_code Silent = 3 ∷ nothing.code tt
cause_code HoldEnded = 4 ∷ nothing.code tt

abbrev pub cause_cases : ℕ → List ℕ → Option (Cause × List ℕ)
cause_cases =
    case_at 0 (made_at (λ u. NoSlot) nothing.read) (
    case_at 1 (made_at (λ u. no_tool) nothing.read) (
    case_at 2 (made_at (λ p. Denied p.0 p.1) (text & denial).read) (
    case_at 3 (made_at (λ u. Silent) nothing.read) (
    case_at 4 (made_at (λ u. HoldEnded) nothing.read) no_case_at))))

abbrev pub cause : Codec Cause
cause = variant WritableCause FitsCause cause_code cause_cases

cause_again : ReadAgain FitsCause cause_code (variant_at cause_cases)
cause_again NoSlot rest fits = made_again (λ u. NoSlot) nothing_is tt rest fits
cause_again no_tool rest fits = made_again (λ u. no_tool) nothing_is tt rest fits
cause_again (Denied host answer) rest fits = made_again (λ p. Denied p.0 p.1) (pair_is text_is denial_is) (host, answer) rest fits
cause_again Silent rest fits = made_again (λ u. Silent) nothing_is tt rest fits
cause_again HoldEnded rest fits = made_again (λ u. HoldEnded) nothing_is tt rest fits

pub cause_is : IsCodec cause
cause_is =
    variant_is WritableCause FitsCause cause_code cause_cases cause_again (
    case_reads 0 (λ u. NoSlot) (λ b. refl) nothing_is (
    case_reads 1 (λ u. no_tool) (λ b. refl) nothing_is (
    case_reads 2 (λ p. Denied p.0 p.1) (λ b. refl) (pair_is text_is denial_is) (
    case_reads 3 (λ u. Silent) (λ b. refl) nothing_is (
    case_reads 4 (λ u. HoldEnded) (λ b. refl) nothing_is (no_case_reads cause_code))))))

-- ---- why a row was closed
abbrev pub WritableWhy : Why → Type 0
WritableWhy Missed = nothing.Writable tt
WritableWhy (Preempted run) = key.Writable run
WritableWhy (Nonstart because) = cause.Writable because
WritableWhy Canceled = nothing.Writable tt

abbrev pub FitsWhy : Why → Type 0
FitsWhy Missed = nothing.Fits tt
FitsWhy (Preempted run) = key.Fits run
FitsWhy (Nonstart because) = cause.Fits because
FitsWhy Canceled = nothing.Fits tt

abbrev pub why_code : Why → List ℕ
why_code Missed = 0 ∷ nothing.code tt
why_code (Preempted run) = 1 ∷ key.code run
why_code (Nonstart because) = 2 ∷ cause.code because
why_code Canceled = 3 ∷ nothing.code tt

abbrev pub why_cases : ℕ → List ℕ → Option (Why × List ℕ)
why_cases =
    case_at 0 (made_at (λ u. Missed) nothing.read) (
    case_at 1 (made_at Preempted key.read) (
    case_at 2 (made_at Nonstart cause.read) (
    case_at 3 (made_at (λ u. Canceled) nothing.read) no_case_at)))

abbrev pub why : Codec Why
why = variant WritableWhy FitsWhy why_code why_cases

why_again : ReadAgain FitsWhy why_code (variant_at why_cases)
why_again Missed rest fits = made_again (λ u. Missed) nothing_is tt rest fits
why_again (Preempted run) rest fits = made_again Preempted key_is run rest fits
why_again (Nonstart because) rest fits = made_again Nonstart cause_is because rest fits
why_again Canceled rest fits = made_again (λ u. Canceled) nothing_is tt rest fits

pub why_is : IsCodec why
why_is =
    variant_is WritableWhy FitsWhy why_code why_cases why_again (
    case_reads 0 (λ u. Missed) (λ b. refl) nothing_is (
    case_reads 1 Preempted (λ b. refl) key_is (
    case_reads 2 Nonstart (λ b. refl) cause_is (
    case_reads 3 (λ u. Canceled) (λ b. refl) nothing_is (no_case_reads why_code)))))

-- ---- a closing: when and why
abbrev pub ClosingParts : Type 0
ClosingParts = ℕ × Why

abbrev pub closing_of : ClosingParts → Closing
closing_of p = record { moment = p.0; why = p.1 }

abbrev pub parts_of_closing : Closing → ClosingParts
parts_of_closing x = (x.moment, x.why)

abbrev pub closing : Codec Closing
closing = built closing_of parts_of_closing (number_64 & why)

pub closing_is : IsCodec closing
closing_is = built_is closing_of parts_of_closing (λ x. refl) (λ p. refl) (pair_is number_64_is why_is)
