-- Changes and records as bytes.
use Rattle.std.specs.Prelude.{◌∷◌, List, Option, refl, ℕ, ℤ}
use Rattle.ps_time.specs.Span.{Range}
use Rattle.ps_time.specs.declared.asker.Asker.{Asker}
use Rattle.ps_time.specs.declared.key.RunKey.{RunKey}
use Rattle.plugin_core.specs.declared.test_spec.TestSpec.{TestSpec}
use Rattle.run_states.specs.declared.proposal.Proposal.{Proposal}
use Rattle.run_states.specs.declared.proposal.Question.{Question}
use Rattle.host_model.specs.declared.change.Change.{Change}
use Rattle.host_model.specs.declared.change.Change.TheVariants.{AcceptHeard, Accepted, Asked, Closed, Confirmed, Ended, FreeHeard, LimitsSet, MaterialHeard, Merged, Planned, Posted, Purged, ResultHeard, Started, TaskClosed, Told as told_there, Tried}
use Rattle.host_model.specs.declared.change.Changes.{Changes}
use Rattle.value_bytes.specs.Keys.{asker, asker_is, key, key_is, window, window_is}
use Rattle.value_bytes.specs.Reasons.{why, why_is}
use Rattle.value_bytes.specs.Rows.{answer, answer_is}
use Rattle.value_bytes.specs.States.{archive_state, archive_state_is, told, told_is}
use Rattle.value_bytes.specs.Tasks.{limits, limits_is, task_row, task_row_is}
use Rattle.value_bytes.specs.Tests.{test, test_is}
use Rattle.value_bytes.specs.Codec.{◌&◌, Codec, built, list, mark, number_32, number_64, number_8, option, signed_16, text, variant}
use Rattle.value_bytes.specs.Laws.{IsCodec, ReadAgain}
use Rattle.value_bytes.specs.ListLaws.{list_is, option_is}
use Rattle.value_bytes.specs.NumberLaws.{mark_is, number_32_is, number_64_is, number_8_is, signed_16_is}
use Rattle.value_bytes.specs.PairLaws.{built_is, case_reads, made_again, no_case_reads, pair_is, variant_is}
use Rattle.value_bytes.specs.Reading.{case_at, made_at, no_case_at, variant_at}
use Rattle.value_bytes.specs.TextLaws.{text_is}

-- ---- what an acceptance has: key, test, tool, start, priority, participants, who asks, epoch
abbrev pub AcceptedParts : Type 0
AcceptedParts = (RunKey × (TestSpec × List ℕ)) × ((ℕ × (ℤ × List (List ℕ))) × (Asker × ℕ))

abbrev pub accepted : Codec AcceptedParts
accepted = (key & (test & text)) & ((number_64 & (signed_16 & list text)) & (asker & number_32))

accepted_is : IsCodec accepted
accepted_is = pair_is (pair_is key_is (pair_is test_is text_is)) (pair_is (pair_is number_64_is (pair_is signed_16_is (list_is text text_is))) (pair_is asker_is number_32_is))

abbrev pub accepted_of : AcceptedParts → Change
accepted_of = λ p. Accepted (record { key = p.0.0; test = p.0.1.0; tool = p.0.1.1; start = p.1.0.0; priority = p.1.0.1.0; asker = p.1.1.0 }) p.1.0.1.1 p.1.1.1

-- ---- what a question has: key, test, priority, participants, who asks, the window
abbrev pub AskedParts : Type 0
AskedParts = (RunKey × (TestSpec × ℤ)) × (List (List ℕ) × (Asker × Range))

abbrev pub asked : Codec AskedParts
asked = (key & (test & signed_16)) & (list text & (asker & window))

asked_is : IsCodec asked
asked_is = pair_is (pair_is key_is (pair_is test_is signed_16_is)) (pair_is (list_is text text_is) (pair_is asker_is window_is))

abbrev pub asked_of : AskedParts → Change
asked_of = λ p. Asked (record { key = p.0.0; test = p.0.1.0; priority = p.0.1.1; window = p.1.1.1 }) p.1.0 p.1.1.0

abbrev pub parts_accepted : Proposal → List (List ℕ) → ℕ → AcceptedParts
parts_accepted p participants epoch = ((p.key, (p.test, p.tool)), ((p.start, (p.priority, participants)), (p.asker, epoch)))

abbrev pub parts_asked : Question → List (List ℕ) → Asker → AskedParts
parts_asked q participants who = ((q.key, (q.test, q.priority)), (participants, (who, q.window)))

-- ---- a change, by its tag
abbrev pub WritableChange : Change → Type 0
WritableChange (Posted row) = task_row.Writable row
WritableChange (TaskClosed serial) = number_32.Writable serial
WritableChange (Accepted p participants epoch) = accepted.Writable (parts_accepted p participants epoch)
WritableChange (Asked q participants who) = asked.Writable (parts_asked q participants who)
WritableChange (Planned run start tool epoch) = (key & (number_64 & (text & number_32))).Writable (run, (start, (tool, epoch)))
WritableChange (Confirmed run) = key.Writable run
WritableChange (Closed run reason) = (key & why).Writable (run, reason)
WritableChange (Started run) = key.Writable run
WritableChange (Ended run good body) = (key & (mark & text)).Writable (run, (good, body))
WritableChange (FreeHeard run place free) = (key & (number_8 & answer)).Writable (run, (place, free))
WritableChange (AcceptHeard run place) = (key & number_8).Writable (run, place)
WritableChange (told_there run place kind) = (key & (number_8 & told)).Writable (run, (place, kind))
WritableChange (MaterialHeard run) = key.Writable run
WritableChange (ResultHeard run place result) = (key & (number_8 & (option text))).Writable (run, (place, result))
WritableChange (Merged run body) = (key & text).Writable (run, body)
WritableChange (Tried run index state) = (key & (number_8 & archive_state)).Writable (run, (index, state))
WritableChange (LimitsSet config) = limits.Writable config
WritableChange (Purged run) = key.Writable run

abbrev pub FitsChange : Change → Type 0
FitsChange (Posted row) = task_row.Fits row
FitsChange (TaskClosed serial) = number_32.Fits serial
FitsChange (Accepted p participants epoch) = accepted.Fits (parts_accepted p participants epoch)
FitsChange (Asked q participants who) = asked.Fits (parts_asked q participants who)
FitsChange (Planned run start tool epoch) = (key & (number_64 & (text & number_32))).Fits (run, (start, (tool, epoch)))
FitsChange (Confirmed run) = key.Fits run
FitsChange (Closed run reason) = (key & why).Fits (run, reason)
FitsChange (Started run) = key.Fits run
FitsChange (Ended run good body) = (key & (mark & text)).Fits (run, (good, body))
FitsChange (FreeHeard run place free) = (key & (number_8 & answer)).Fits (run, (place, free))
FitsChange (AcceptHeard run place) = (key & number_8).Fits (run, place)
FitsChange (told_there run place kind) = (key & (number_8 & told)).Fits (run, (place, kind))
FitsChange (MaterialHeard run) = key.Fits run
FitsChange (ResultHeard run place result) = (key & (number_8 & (option text))).Fits (run, (place, result))
FitsChange (Merged run body) = (key & text).Fits (run, body)
FitsChange (Tried run index state) = (key & (number_8 & archive_state)).Fits (run, (index, state))
FitsChange (LimitsSet config) = limits.Fits config
FitsChange (Purged run) = key.Fits run

abbrev pub change_code : Change → List ℕ
change_code (Posted row) = 1 ∷ task_row.code row
change_code (TaskClosed serial) = 2 ∷ number_32.code serial
change_code (Accepted p participants epoch) = 3 ∷ accepted.code (parts_accepted p participants epoch)
change_code (Asked q participants who) = 4 ∷ asked.code (parts_asked q participants who)
change_code (Planned run start tool epoch) = 5 ∷ (key & (number_64 & (text & number_32))).code (run, (start, (tool, epoch)))
change_code (Confirmed run) = 6 ∷ key.code run
change_code (Closed run reason) = 7 ∷ (key & why).code (run, reason)
change_code (Started run) = 8 ∷ key.code run
change_code (Ended run good body) = 9 ∷ (key & (mark & text)).code (run, (good, body))
change_code (FreeHeard run place free) = 10 ∷ (key & (number_8 & answer)).code (run, (place, free))
change_code (AcceptHeard run place) = 11 ∷ (key & number_8).code (run, place)
change_code (told_there run place kind) = 12 ∷ (key & (number_8 & told)).code (run, (place, kind))
change_code (MaterialHeard run) = 13 ∷ key.code run
change_code (ResultHeard run place result) = 14 ∷ (key & (number_8 & (option text))).code (run, (place, result))
change_code (Merged run body) = 15 ∷ (key & text).code (run, body)
change_code (Tried run index state) = 16 ∷ (key & (number_8 & archive_state)).code (run, (index, state))
change_code (LimitsSet config) = 17 ∷ limits.code config
change_code (Purged run) = 18 ∷ key.code run

-- the changes in three parts, by their tags
abbrev pub last_cases : ℕ → List ℕ → Option (Change × List ℕ)
last_cases =
    case_at 13 (made_at MaterialHeard key.read) (
    case_at 14 (made_at (λ p. ResultHeard p.0 p.1.0 p.1.1) (key & (number_8 & (option text))).read) (
    case_at 15 (made_at (λ p. Merged p.0 p.1) (key & text).read) (
    case_at 16 (made_at (λ p. Tried p.0 p.1.0 p.1.1) (key & (number_8 & archive_state)).read) (
    case_at 17 (made_at LimitsSet limits.read) (
    case_at 18 (made_at Purged key.read) no_case_at)))))

abbrev pub later_cases : ℕ → List ℕ → Option (Change × List ℕ)
later_cases =
    case_at 7 (made_at (λ p. Closed p.0 p.1) (key & why).read) (
    case_at 8 (made_at Started key.read) (
    case_at 9 (made_at (λ p. Ended p.0 p.1.0 p.1.1) (key & (mark & text)).read) (
    case_at 10 (made_at (λ p. FreeHeard p.0 p.1.0 p.1.1) (key & (number_8 & answer)).read) (
    case_at 11 (made_at (λ p. AcceptHeard p.0 p.1) (key & number_8).read) (
    case_at 12 (made_at (λ p. told_there p.0 p.1.0 p.1.1) (key & (number_8 & told)).read) last_cases)))))

abbrev pub change_cases : ℕ → List ℕ → Option (Change × List ℕ)
change_cases =
    case_at 1 (made_at Posted task_row.read) (
    case_at 2 (made_at TaskClosed number_32.read) (
    case_at 3 (made_at accepted_of accepted.read) (
    case_at 4 (made_at asked_of asked.read) (
    case_at 5 (made_at (λ p. Planned p.0 p.1.0 p.1.1.0 p.1.1.1) (key & (number_64 & (text & number_32))).read) (
    case_at 6 (made_at Confirmed key.read) later_cases)))))

abbrev pub change : Codec Change
change = variant WritableChange FitsChange change_code change_cases

change_again : ReadAgain FitsChange change_code (variant_at change_cases)
change_again (Posted row) rest fits = made_again Posted task_row_is row rest fits
change_again (TaskClosed serial) rest fits = made_again TaskClosed number_32_is serial rest fits
change_again (Accepted p participants epoch) rest fits = made_again accepted_of accepted_is (parts_accepted p participants epoch) rest fits
change_again (Asked q participants who) rest fits = made_again asked_of asked_is (parts_asked q participants who) rest fits
change_again (Planned run start tool epoch) rest fits = made_again (λ p. Planned p.0 p.1.0 p.1.1.0 p.1.1.1) (pair_is key_is (pair_is number_64_is (pair_is text_is number_32_is))) (run, (start, (tool, epoch))) rest fits
change_again (Confirmed run) rest fits = made_again Confirmed key_is run rest fits
change_again (Closed run reason) rest fits = made_again (λ p. Closed p.0 p.1) (pair_is key_is why_is) (run, reason) rest fits
change_again (Started run) rest fits = made_again Started key_is run rest fits
change_again (Ended run good body) rest fits = made_again (λ p. Ended p.0 p.1.0 p.1.1) (pair_is key_is (pair_is mark_is text_is)) (run, (good, body)) rest fits
change_again (FreeHeard run place free) rest fits = made_again (λ p. FreeHeard p.0 p.1.0 p.1.1) (pair_is key_is (pair_is number_8_is answer_is)) (run, (place, free)) rest fits
change_again (AcceptHeard run place) rest fits = made_again (λ p. AcceptHeard p.0 p.1) (pair_is key_is number_8_is) (run, place) rest fits
change_again (told_there run place kind) rest fits = made_again (λ p. told_there p.0 p.1.0 p.1.1) (pair_is key_is (pair_is number_8_is told_is)) (run, (place, kind)) rest fits
change_again (MaterialHeard run) rest fits = made_again MaterialHeard key_is run rest fits
change_again (ResultHeard run place result) rest fits = made_again (λ p. ResultHeard p.0 p.1.0 p.1.1) (pair_is key_is (pair_is number_8_is ((option_is text text_is)))) (run, (place, result)) rest fits
change_again (Merged run body) rest fits = made_again (λ p. Merged p.0 p.1) (pair_is key_is text_is) (run, body) rest fits
change_again (Tried run index state) rest fits = made_again (λ p. Tried p.0 p.1.0 p.1.1) (pair_is key_is (pair_is number_8_is archive_state_is)) (run, (index, state)) rest fits
change_again (LimitsSet config) rest fits = made_again LimitsSet limits_is config rest fits
change_again (Purged run) rest fits = made_again Purged key_is run rest fits

pub change_is : IsCodec change
change_is =
    variant_is WritableChange FitsChange change_code change_cases change_again (
    case_reads 1 Posted (λ b. refl) task_row_is (
    case_reads 2 TaskClosed (λ b. refl) number_32_is (
    case_reads 3 accepted_of (λ b. refl) accepted_is (
    case_reads 4 asked_of (λ b. refl) asked_is (
    case_reads 5 (λ p. Planned p.0 p.1.0 p.1.1.0 p.1.1.1) (λ b. refl) (pair_is key_is (pair_is number_64_is (pair_is text_is number_32_is))) (
    case_reads 6 Confirmed (λ b. refl) key_is (
    case_reads 7 (λ p. Closed p.0 p.1) (λ b. refl) (pair_is key_is why_is) (
    case_reads 8 Started (λ b. refl) key_is (
    case_reads 9 (λ p. Ended p.0 p.1.0 p.1.1) (λ b. refl) (pair_is key_is (pair_is mark_is text_is)) (
    case_reads 10 (λ p. FreeHeard p.0 p.1.0 p.1.1) (λ b. refl) (pair_is key_is (pair_is number_8_is answer_is)) (
    case_reads 11 (λ p. AcceptHeard p.0 p.1) (λ b. refl) (pair_is key_is number_8_is) (
    case_reads 12 (λ p. told_there p.0 p.1.0 p.1.1) (λ b. refl) (pair_is key_is (pair_is number_8_is told_is)) (
    case_reads 13 MaterialHeard (λ b. refl) key_is (
    case_reads 14 (λ p. ResultHeard p.0 p.1.0 p.1.1) (λ b. refl) (pair_is key_is (pair_is number_8_is ((option_is text text_is)))) (
    case_reads 15 (λ p. Merged p.0 p.1) (λ b. refl) (pair_is key_is text_is) (
    case_reads 16 (λ p. Tried p.0 p.1.0 p.1.1) (λ b. refl) (pair_is key_is (pair_is number_8_is archive_state_is)) (
    case_reads 17 LimitsSet (λ b. refl) limits_is (
    case_reads 18 Purged (λ b. refl) key_is (no_case_reads change_code)))))))))))))))))))

-- ---- a record: its moment, and the list of its changes
abbrev pub ChangesParts : Type 0
ChangesParts = ℕ × List Change

abbrev pub changes_of : ChangesParts → Changes
changes_of p = record { moment = p.0; list = p.1 }

abbrev pub parts_of_changes : Changes → ChangesParts
parts_of_changes x = (x.moment, x.list)

abbrev pub changes : Codec Changes
changes = built changes_of parts_of_changes (number_64 & list change)

pub changes_is : IsCodec changes
changes_is = built_is changes_of parts_of_changes (λ x. refl) (λ p. refl) (pair_is number_64_is ((list_is change change_is)))
