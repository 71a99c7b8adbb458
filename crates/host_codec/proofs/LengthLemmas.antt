-- How many bytes a change and a record take: as many as the host's definitions say.
use Rattle.std.specs.Prelude.{sum_by}
use Rattle.std.specs.Int.{to_be_bytes, w32}
use Rattle.std.specs.List.{flat_map}
use Rattle.std.proofs.Common.{◌≡◌, ◌+◌, ℕ, Bool, true, false, List, [], ◌∷◌, length, Option, Some, None, refl, ◌∙◌, arith, length-append}
use Rattle.std.proofs.lemmas.List.Concat.{flat_map-cons}
use Rattle.std.proofs.lemmas.List.Sums.{sum-map, sum_by-cons}
use Rattle.ps_time.specs.declared.asker.Asker.{Asker}
use Rattle.ps_time.specs.declared.asker.Verdict.{Verdict}
use Rattle.ps_time.specs.declared.asker.Verdict.TheVariants.{AboveCeiling, Exhausted, Permitted, Stopped}
use Rattle.run_states.specs.declared.answer.Told.{Told}
use Rattle.run_states.specs.declared.answer.Told.TheVariants.{Cancel, Confirm, Material}
use Rattle.run_states.specs.declared.proposal.Proposal.{Proposal}
use Rattle.run_states.specs.declared.proposal.Question.{Question}
use Rattle.run_states.specs.declared.state.State.{State}
use Rattle.run_states.specs.declared.state.State.TheVariants as name
use Rattle.run_states.specs.declared.why.Cause.{Cause}
use Rattle.run_states.specs.declared.why.Cause.TheVariants.{Denied, HoldEnded, NoSlot, NoTool as no_tool, Silent}
use Rattle.run_states.specs.declared.why.Denial.{Denial}
use Rattle.run_states.specs.declared.why.Denial.TheVariants.{Closed as closed_there, Conflict, Differs, Full, Limits, NoTool, NotParticipant, Past}
use Rattle.run_states.specs.declared.why.What.{What}
use Rattle.run_states.specs.declared.why.What.TheVariants.{Numbers, Results, Runs}
use Rattle.run_states.specs.declared.why.Why.{Why}
use Rattle.run_states.specs.declared.why.Why.TheVariants.{Canceled, Missed, Nonstart, Preempted}
use Rattle.host_model.specs.RecordLength.{answer_bytes, asker_bytes, cause_bytes, change_bytes, denial_bytes, list_bytes, option_bytes, proposal_bytes, record_bytes, state_bytes, task_row_bytes, test_bytes, text_bytes, verdict_bytes, why_bytes, window_bytes}
use Rattle.host_model.specs.declared.change.Change.{Change}
use Rattle.host_model.specs.declared.change.Change.TheVariants.{AcceptHeard, Accepted, Asked, Closed, Confirmed, Ended, FreeHeard, LimitsSet, MaterialHeard, Merged, Planned, Posted, Purged, ResultHeard, Started, TaskClosed, Told as told_there, Tried}
use Rattle.host_model.specs.declared.change.Changes.{Changes}
use Rattle.value_bytes.specs.Changes.{change, changes, parts_accepted, parts_asked, parts_of_changes}
use Rattle.value_bytes.specs.Codec.{◌&◌, Codec, list, mark, number_32, number_64, number_8, option, signed_16, text}
use Rattle.value_bytes.specs.Keys.{asker, key, parts_of_asker, parts_of_tiers, tiers, window}
use Rattle.value_bytes.specs.Reasons.{cause, denial, parts_of_proposal, proposal, why}
use Rattle.value_bytes.specs.Rows.{answer, parts_of_answer}
use Rattle.value_bytes.specs.States.{archive_state, parts_of_archive_state, state, told, verdict, what}
use Rattle.value_bytes.specs.Tasks.{parts_of_task_row, task_row}
use Rattle.value_bytes.specs.Tests.{test, test_text}

-- the bytes of each value are so many
record IsLong {A : Type 0} (c : Codec A) (size : A → ℕ) : Type 0 where
  pub is : (x : A) → length (c.code x) ≡ size x

-- the same number, said otherwise
said : {A : Type 0} {c : Codec A} {size : A → ℕ} (other : A → ℕ) → IsLong c size → ((x : A) → size x ≡ other x) → IsLong c other
said other long same = record { is = λ x. long.is x ∙ same x }

module _ {A B : Type 0} {c : Codec A} {d : Codec B} {s : A → ℕ} {t : B → ℕ} where
  pair_long : IsLong c s → IsLong d t → IsLong (c & d) (λ p. s p.0 + t p.1)
  pair_long first second = record { is = λ p. omega (arith, length-append (c.code p.0) (d.code p.1), first.is p.0, second.is p.1) }

module _ {A : Type 0} {c : Codec A} {size : A → ℕ} (long : IsLong c size) where
  option_is_long : (o : Option A) → length ((option c).code o) ≡ option_bytes size o
  option_is_long None = refl
  option_is_long (Some x) = omega (arith, long.is x)

  option_long : IsLong (option c) (option_bytes size)
  option_long = record { is = option_is_long }

  each_long : (xs : List A) → length (flat_map c.code xs) ≡ sum_by size xs
  each_long [] = refl
  each_long (x ∷ xs) = rw (flat_map-cons c.code x xs) (omega (arith, length-append (c.code x) (flat_map c.code xs), long.is x, each_long xs, sum_by-cons size x xs))

  list_long : IsLong (list c) (list_bytes size)
  list_long = record { is = λ xs. omega (arith, length-append (to_be_bytes w32 (length xs)) (flat_map c.code xs), each_long xs, sum-map size xs) }

-- ---- numbers, marks, texts
byte_long : IsLong number_8 (λ n. 1)
byte_long = record { is = λ n. refl }

number_32_long : IsLong number_32 (λ n. 4)
number_32_long = record { is = λ n. refl }

moment_long : IsLong number_64 (λ n. 8)
moment_long = record { is = λ n. refl }

priority_long : IsLong signed_16 (λ z. 2)
priority_long = record { is = λ z. refl }

mark_is_long : (b : Bool) → length (mark.code b) ≡ 1
mark_is_long true = refl
mark_is_long false = refl

mark_long : IsLong mark (λ b. 1)
mark_long = record { is = mark_is_long }

text_long : IsLong text text_bytes
text_long = record { is = λ t. omega (arith, length-append (to_be_bytes w32 (length t)) t) }

-- ---- what a change has
key_long : IsLong key (λ k. 12)
key_long = record { is = λ k. refl }

asker_long : IsLong asker asker_bytes
asker_long = record { is = λ a. (pair_long text_long text_long).is (parts_of_asker a) }

window_long : IsLong window window_bytes
window_long = record { is = λ w. refl }

test_long : IsLong test test_bytes
test_long = record { is = λ t. text_long.is (test_text t) }

tiers_long : IsLong tiers (λ t. list_bytes window_bytes t.first + list_bytes window_bytes t.second)
tiers_long = record { is = λ t. (pair_long (list_long window_long) (list_long window_long)).is (parts_of_tiers t) }

answer_long : IsLong answer answer_bytes
answer_long = record { is = λ a. omega (arith, (pair_long (list_long text_long) tiers_long).is (parts_of_answer a)) }

proposal_long : IsLong proposal proposal_bytes
proposal_long = record { is = λ p. omega (arith, (pair_long (pair_long key_long (pair_long test_long text_long)) (pair_long moment_long (pair_long priority_long asker_long))).is (parts_of_proposal p)) }

archive_state_long : IsLong archive_state state_bytes
archive_state_long = record { is = λ s. omega (arith, (pair_long number_32_long (pair_long (option_long moment_long) mark_long)).is (parts_of_archive_state s)) }

task_row_long : IsLong task_row task_row_bytes
task_row_long = record { is = λ t. omega (arith, (pair_long number_32_long (pair_long text_long (pair_long asker_long (pair_long moment_long (option_long moment_long))))).is (parts_of_task_row t)) }

-- ---- why a run was closed
verdict_is_long : (v : Verdict) → length (verdict.code v) ≡ verdict_bytes v
verdict_is_long (Permitted place) = refl
verdict_is_long (Stopped place) = refl
verdict_is_long Exhausted = refl
verdict_is_long (AboveCeiling ceiling) = refl

what_is_long : (w : What) → length (what.code w) ≡ 1
what_is_long Runs = refl
what_is_long Results = refl
what_is_long Numbers = refl

state_is_long : (s : State) → length (state.code s) ≡ 1
state_is_long name.Missed = refl
state_is_long name.Preempted = refl
state_is_long name.Nonstart = refl
state_is_long name.Canceled = refl
state_is_long name.Finished = refl
state_is_long name.Failed = refl
state_is_long name.Running = refl
state_is_long name.Cleanup = refl
state_is_long name.Overdue = refl
state_is_long name.OnDeck = refl
state_is_long name.Pending = refl

told_is_long : (t : Told) → length (told.code t) ≡ 1
told_is_long Confirm = refl
told_is_long Cancel = refl
told_is_long Material = refl

what_long : IsLong what (λ w. 1)
what_long = record { is = what_is_long }

told_long : IsLong told (λ t. 1)
told_long = record { is = told_is_long }

denial_is_long : (d : Denial) → length (denial.code d) ≡ denial_bytes d
denial_is_long (Limits said) = omega (arith, verdict_is_long said)
denial_is_long (Past moment start) = refl
denial_is_long (Conflict run) = refl
denial_is_long (Full full count) = omega (arith, (pair_long what_long moment_long).is (full, count))
denial_is_long (Differs kept sent) = omega (arith, (pair_long proposal_long proposal_long).is (kept, sent))
denial_is_long (closed_there s) = omega (arith, state_is_long s)
denial_is_long NotParticipant = refl
denial_is_long (NoTool tool) = omega (arith, text_long.is tool)

denial_long : IsLong denial denial_bytes
denial_long = record { is = denial_is_long }

cause_is_long : (c : Cause) → length (cause.code c) ≡ cause_bytes c
cause_is_long NoSlot = refl
cause_is_long no_tool = refl
cause_is_long (Denied host answer) = omega (arith, (pair_long text_long denial_long).is (host, answer))
cause_is_long Silent = refl
cause_is_long HoldEnded = refl

why_is_long : (w : Why) → length (why.code w) ≡ why_bytes w
why_is_long Missed = refl
why_is_long (Preempted run) = refl
why_is_long (Nonstart because) = omega (arith, cause_is_long because)
why_is_long Canceled = refl

why_long : IsLong why why_bytes
why_long = record { is = why_is_long }

-- ---- changes
accepted_long : (p : Proposal) (participants : List (List ℕ)) (epoch : ℕ) → length (change.code (Accepted p participants epoch)) ≡ change_bytes (Accepted p participants epoch)
accepted_long p participants epoch =
    let all = (pair_long (pair_long key_long (pair_long test_long text_long)) (pair_long (pair_long moment_long (pair_long priority_long (list_long text_long))) (pair_long asker_long number_32_long))).is (parts_accepted p participants epoch) in
    omega (arith, all)

asked_long : (q : Question) (participants : List (List ℕ)) (who : Asker) → length (change.code (Asked q participants who)) ≡ change_bytes (Asked q participants who)
asked_long q participants who =
    let all = (pair_long (pair_long key_long (pair_long test_long priority_long)) (pair_long (list_long text_long) (pair_long asker_long window_long))).is (parts_asked q participants who) in
    omega (arith, all)

pub change_is_long : (c : Change) → length (change.code c) ≡ change_bytes c
change_is_long (Posted row) = omega (arith, task_row_long.is row)
change_is_long (TaskClosed serial) = refl
change_is_long (Accepted p participants epoch) = accepted_long p participants epoch
change_is_long (Asked q participants who) = asked_long q participants who
change_is_long (Planned run start tool epoch) = omega (arith, (pair_long key_long (pair_long moment_long (pair_long text_long number_32_long))).is (run, (start, (tool, epoch))))
change_is_long (Confirmed run) = refl
change_is_long (Closed run reason) = omega (arith, (pair_long key_long why_long).is (run, reason))
change_is_long (Started run) = refl
change_is_long (Ended run good body) = omega (arith, (pair_long key_long (pair_long mark_long text_long)).is (run, (good, body)))
change_is_long (FreeHeard run place free) = omega (arith, (pair_long key_long (pair_long byte_long answer_long)).is (run, (place, free)))
change_is_long (AcceptHeard run place) = refl
change_is_long (told_there run place kind) = omega (arith, (pair_long key_long (pair_long byte_long told_long)).is (run, (place, kind)))
change_is_long (MaterialHeard run) = refl
change_is_long (ResultHeard run place result) = omega (arith, (pair_long key_long (pair_long byte_long (option_long text_long))).is (run, (place, result)))
change_is_long (Merged run body) = omega (arith, (pair_long key_long text_long).is (run, body))
change_is_long (Tried run index s) = omega (arith, (pair_long key_long (pair_long byte_long archive_state_long)).is (run, (index, s)))
change_is_long (LimitsSet config) = omega (arith, text_long.is config.text)
change_is_long (Purged run) = refl

change_long : IsLong change change_bytes
change_long = record { is = change_is_long }

pub record_is_long : (r : Changes) → length (changes.code r) ≡ record_bytes r.list
record_is_long r = (pair_long moment_long (list_long change_long)).is (parts_of_changes r)
