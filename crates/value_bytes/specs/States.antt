-- Verdicts, names of states, acknowledgements and states of archives as bytes.
use Rattle.std.specs.Prelude.{◌∷◌, Bool, List, Option, refl, ℕ}
use Rattle.ps_time.specs.declared.asker.Verdict.{Verdict}
use Rattle.ps_time.specs.declared.asker.Verdict.TheVariants.{AboveCeiling, Exhausted, Permitted, Stopped}
use Rattle.archive_retry.specs.declared.state.ArchiveState.{ArchiveState}
use Rattle.run_states.specs.declared.answer.Told.{Told}
use Rattle.run_states.specs.declared.answer.Told.TheVariants.{Cancel, Confirm, Material}
use Rattle.run_states.specs.declared.state.State.{State}
use Rattle.run_states.specs.declared.state.State.TheVariants.{Canceled, Cleanup, Failed, Finished, Missed, Nonstart, OnDeck, Overdue, Pending, Preempted, Running}
use Rattle.run_states.specs.declared.why.What.{What}
use Rattle.run_states.specs.declared.why.What.TheVariants.{Numbers, Results, Runs}
use Rattle.value_bytes.specs.Codec.{◌&◌, Codec, built, mark, nothing, number_32, number_64, option, signed_16, variant}
use Rattle.value_bytes.specs.Laws.{IsCodec, ReadAgain}
use Rattle.value_bytes.specs.ListLaws.{option_is}
use Rattle.value_bytes.specs.NumberLaws.{mark_is, number_32_is, number_64_is, signed_16_is}
use Rattle.value_bytes.specs.PairLaws.{built_is, case_reads, made_again, no_case_reads, nothing_is, pair_is, variant_is}
use Rattle.value_bytes.specs.Reading.{case_at, made_at, no_case_at, variant_at}

-- ---- a verdict of limits
abbrev pub WritableVerdict : Verdict → Type 0
WritableVerdict (Permitted place) = number_32.Writable place
WritableVerdict (Stopped place) = number_32.Writable place
WritableVerdict Exhausted = nothing.Writable tt
WritableVerdict (AboveCeiling ceiling) = signed_16.Writable ceiling

abbrev pub FitsVerdict : Verdict → Type 0
FitsVerdict (Permitted place) = number_32.Fits place
FitsVerdict (Stopped place) = number_32.Fits place
FitsVerdict Exhausted = nothing.Fits tt
FitsVerdict (AboveCeiling ceiling) = signed_16.Fits ceiling

abbrev pub verdict_code : Verdict → List ℕ
verdict_code (Permitted place) = 0 ∷ number_32.code place
verdict_code (Stopped place) = 1 ∷ number_32.code place
verdict_code Exhausted = 2 ∷ nothing.code tt
verdict_code (AboveCeiling ceiling) = 3 ∷ signed_16.code ceiling

abbrev pub verdict_cases : ℕ → List ℕ → Option (Verdict × List ℕ)
verdict_cases =
    case_at 0 (made_at Permitted number_32.read) (
    case_at 1 (made_at Stopped number_32.read) (
    case_at 2 (made_at (λ u. Exhausted) nothing.read) (
    case_at 3 (made_at AboveCeiling signed_16.read) no_case_at)))

abbrev pub verdict : Codec Verdict
verdict = variant WritableVerdict FitsVerdict verdict_code verdict_cases

verdict_again : ReadAgain FitsVerdict verdict_code (variant_at verdict_cases)
verdict_again (Permitted place) rest fits = made_again Permitted number_32_is place rest fits
verdict_again (Stopped place) rest fits = made_again Stopped number_32_is place rest fits
verdict_again Exhausted rest fits = made_again (λ u. Exhausted) nothing_is tt rest fits
verdict_again (AboveCeiling ceiling) rest fits = made_again AboveCeiling signed_16_is ceiling rest fits

pub verdict_is : IsCodec verdict
verdict_is =
    variant_is WritableVerdict FitsVerdict verdict_code verdict_cases verdict_again (
    case_reads 0 Permitted (λ b. refl) number_32_is (
    case_reads 1 Stopped (λ b. refl) number_32_is (
    case_reads 2 (λ u. Exhausted) (λ b. refl) nothing_is (
    case_reads 3 AboveCeiling (λ b. refl) signed_16_is (no_case_reads verdict_code)))))

-- ---- what there is no more room for
abbrev pub WritableWhat : What → Type 0
WritableWhat Runs = nothing.Writable tt
WritableWhat Results = nothing.Writable tt
WritableWhat Numbers = nothing.Writable tt

abbrev pub FitsWhat : What → Type 0
FitsWhat Runs = nothing.Fits tt
FitsWhat Results = nothing.Fits tt
FitsWhat Numbers = nothing.Fits tt

abbrev pub what_code : What → List ℕ
what_code Runs = 0 ∷ nothing.code tt
what_code Results = 1 ∷ nothing.code tt
what_code Numbers = 2 ∷ nothing.code tt

abbrev pub what_cases : ℕ → List ℕ → Option (What × List ℕ)
what_cases =
    case_at 0 (made_at (λ u. Runs) nothing.read) (
    case_at 1 (made_at (λ u. Results) nothing.read) (
    case_at 2 (made_at (λ u. Numbers) nothing.read) no_case_at))

abbrev pub what : Codec What
what = variant WritableWhat FitsWhat what_code what_cases

what_again : ReadAgain FitsWhat what_code (variant_at what_cases)
what_again Runs rest fits = made_again (λ u. Runs) nothing_is tt rest fits
what_again Results rest fits = made_again (λ u. Results) nothing_is tt rest fits
what_again Numbers rest fits = made_again (λ u. Numbers) nothing_is tt rest fits

pub what_is : IsCodec what
what_is =
    variant_is WritableWhat FitsWhat what_code what_cases what_again (
    case_reads 0 (λ u. Runs) (λ b. refl) nothing_is (
    case_reads 1 (λ u. Results) (λ b. refl) nothing_is (
    case_reads 2 (λ u. Numbers) (λ b. refl) nothing_is (no_case_reads what_code))))

-- ---- the name of a state
abbrev pub WritableState : State → Type 0
WritableState Missed = nothing.Writable tt
WritableState Preempted = nothing.Writable tt
WritableState Nonstart = nothing.Writable tt
WritableState Canceled = nothing.Writable tt
WritableState Finished = nothing.Writable tt
WritableState Failed = nothing.Writable tt
WritableState Running = nothing.Writable tt
WritableState Cleanup = nothing.Writable tt
WritableState Overdue = nothing.Writable tt
WritableState OnDeck = nothing.Writable tt
WritableState Pending = nothing.Writable tt

abbrev pub FitsState : State → Type 0
FitsState Missed = nothing.Fits tt
FitsState Preempted = nothing.Fits tt
FitsState Nonstart = nothing.Fits tt
FitsState Canceled = nothing.Fits tt
FitsState Finished = nothing.Fits tt
FitsState Failed = nothing.Fits tt
FitsState Running = nothing.Fits tt
FitsState Cleanup = nothing.Fits tt
FitsState Overdue = nothing.Fits tt
FitsState OnDeck = nothing.Fits tt
FitsState Pending = nothing.Fits tt

abbrev pub state_code : State → List ℕ
state_code Missed = 0 ∷ nothing.code tt
state_code Preempted = 1 ∷ nothing.code tt
state_code Nonstart = 2 ∷ nothing.code tt
state_code Canceled = 3 ∷ nothing.code tt
state_code Finished = 4 ∷ nothing.code tt
state_code Failed = 5 ∷ nothing.code tt
state_code Running = 6 ∷ nothing.code tt
state_code Cleanup = 7 ∷ nothing.code tt
state_code Overdue = 8 ∷ nothing.code tt
state_code OnDeck = 9 ∷ nothing.code tt
state_code Pending = 10 ∷ nothing.code tt

abbrev pub state_cases : ℕ → List ℕ → Option (State × List ℕ)
state_cases =
    case_at 0 (made_at (λ u. Missed) nothing.read) (
    case_at 1 (made_at (λ u. Preempted) nothing.read) (
    case_at 2 (made_at (λ u. Nonstart) nothing.read) (
    case_at 3 (made_at (λ u. Canceled) nothing.read) (
    case_at 4 (made_at (λ u. Finished) nothing.read) (
    case_at 5 (made_at (λ u. Failed) nothing.read) (
    case_at 6 (made_at (λ u. Running) nothing.read) (
    case_at 7 (made_at (λ u. Cleanup) nothing.read) (
    case_at 8 (made_at (λ u. Overdue) nothing.read) (
    case_at 9 (made_at (λ u. OnDeck) nothing.read) (
    case_at 10 (made_at (λ u. Pending) nothing.read) no_case_at))))))))))

abbrev pub state : Codec State
state = variant WritableState FitsState state_code state_cases

state_again : ReadAgain FitsState state_code (variant_at state_cases)
state_again Missed rest fits = made_again (λ u. Missed) nothing_is tt rest fits
state_again Preempted rest fits = made_again (λ u. Preempted) nothing_is tt rest fits
state_again Nonstart rest fits = made_again (λ u. Nonstart) nothing_is tt rest fits
state_again Canceled rest fits = made_again (λ u. Canceled) nothing_is tt rest fits
state_again Finished rest fits = made_again (λ u. Finished) nothing_is tt rest fits
state_again Failed rest fits = made_again (λ u. Failed) nothing_is tt rest fits
state_again Running rest fits = made_again (λ u. Running) nothing_is tt rest fits
state_again Cleanup rest fits = made_again (λ u. Cleanup) nothing_is tt rest fits
state_again Overdue rest fits = made_again (λ u. Overdue) nothing_is tt rest fits
state_again OnDeck rest fits = made_again (λ u. OnDeck) nothing_is tt rest fits
state_again Pending rest fits = made_again (λ u. Pending) nothing_is tt rest fits

pub state_is : IsCodec state
state_is =
    variant_is WritableState FitsState state_code state_cases state_again (
    case_reads 0 (λ u. Missed) (λ b. refl) nothing_is (
    case_reads 1 (λ u. Preempted) (λ b. refl) nothing_is (
    case_reads 2 (λ u. Nonstart) (λ b. refl) nothing_is (
    case_reads 3 (λ u. Canceled) (λ b. refl) nothing_is (
    case_reads 4 (λ u. Finished) (λ b. refl) nothing_is (
    case_reads 5 (λ u. Failed) (λ b. refl) nothing_is (
    case_reads 6 (λ u. Running) (λ b. refl) nothing_is (
    case_reads 7 (λ u. Cleanup) (λ b. refl) nothing_is (
    case_reads 8 (λ u. Overdue) (λ b. refl) nothing_is (
    case_reads 9 (λ u. OnDeck) (λ b. refl) nothing_is (
    case_reads 10 (λ u. Pending) (λ b. refl) nothing_is (no_case_reads state_code))))))))))))

-- ---- what a participant acknowledges
abbrev pub WritableTold : Told → Type 0
WritableTold Confirm = nothing.Writable tt
WritableTold Cancel = nothing.Writable tt
WritableTold Material = nothing.Writable tt

abbrev pub FitsTold : Told → Type 0
FitsTold Confirm = nothing.Fits tt
FitsTold Cancel = nothing.Fits tt
FitsTold Material = nothing.Fits tt

abbrev pub told_code : Told → List ℕ
told_code Confirm = 1 ∷ nothing.code tt
told_code Cancel = 2 ∷ nothing.code tt
told_code Material = 3 ∷ nothing.code tt

abbrev pub told_cases : ℕ → List ℕ → Option (Told × List ℕ)
told_cases =
    case_at 1 (made_at (λ u. Confirm) nothing.read) (
    case_at 2 (made_at (λ u. Cancel) nothing.read) (
    case_at 3 (made_at (λ u. Material) nothing.read) no_case_at))

abbrev pub told : Codec Told
told = variant WritableTold FitsTold told_code told_cases

told_again : ReadAgain FitsTold told_code (variant_at told_cases)
told_again Confirm rest fits = made_again (λ u. Confirm) nothing_is tt rest fits
told_again Cancel rest fits = made_again (λ u. Cancel) nothing_is tt rest fits
told_again Material rest fits = made_again (λ u. Material) nothing_is tt rest fits

pub told_is : IsCodec told
told_is =
    variant_is WritableTold FitsTold told_code told_cases told_again (
    case_reads 1 (λ u. Confirm) (λ b. refl) nothing_is (
    case_reads 2 (λ u. Cancel) (λ b. refl) nothing_is (
    case_reads 3 (λ u. Material) (λ b. refl) nothing_is (no_case_reads told_code))))

-- ---- how far an archive has come: attempts, the next one, whether it is done
abbrev pub ArchiveStateParts : Type 0
ArchiveStateParts = ℕ × (Option ℕ × Bool)

abbrev pub archive_state_of : ArchiveStateParts → ArchiveState
archive_state_of p = record { tried = p.0; next = p.1.0; done = p.1.1 }

abbrev pub parts_of_archive_state : ArchiveState → ArchiveStateParts
parts_of_archive_state x = (x.tried, (x.next, x.done))

abbrev pub archive_state : Codec ArchiveState
archive_state = built archive_state_of parts_of_archive_state (number_32 & (option number_64 & mark))

pub archive_state_is : IsCodec archive_state
archive_state_is = built_is archive_state_of parts_of_archive_state (λ x. refl) (λ p. refl) (pair_is number_32_is (pair_is (option_is number_64 number_64_is) mark_is))
