-- What keeps its bounds may be written.
use Rattle.std.specs.Prelude.{IfSome}
use Rattle.std.proofs.Common.{ℕ, List, [], ◌∷◌, All, Option, Some, None}
use Rattle.std.proofs.lemmas.List.Elements.{All-cons, All-nil, All-weaker}
use Rattle.ps_time.specs.declared.asker.Verdict.{Verdict}
use Rattle.ps_time.specs.declared.asker.Verdict.TheVariants.{AboveCeiling, Exhausted, Permitted, Stopped}
use Rattle.plugin_core.specs.Bounds.{IsTest}
use Rattle.run_states.specs.LawfulRow.{IsCause, IsDenial, IsProposal, IsWhy}
use Rattle.run_states.specs.declared.answer.Told.{Told}
use Rattle.run_states.specs.declared.answer.Told.TheVariants.{Cancel, Confirm, Material}
use Rattle.run_states.specs.declared.proposal.Proposal.{Proposal}
use Rattle.run_states.specs.declared.row.RunRow.{RunRow}
use Rattle.run_states.specs.declared.state.State.{State}
use Rattle.run_states.specs.declared.state.State.TheVariants as name
use Rattle.run_states.specs.declared.why.Cause.{Cause}
use Rattle.run_states.specs.declared.why.Cause.TheVariants.{Denied, HoldEnded, NoSlot, NoTool as no_tool, Silent}
use Rattle.run_states.specs.declared.why.Closing.{Closing}
use Rattle.run_states.specs.declared.why.Denial.{Denial}
use Rattle.run_states.specs.declared.why.Denial.TheVariants.{Closed as closed_there, Conflict, Differs, Full, Limits, NoTool, NotParticipant, Past}
use Rattle.run_states.specs.declared.why.What.{What}
use Rattle.run_states.specs.declared.why.What.TheVariants.{Numbers, Results, Runs}
use Rattle.run_states.specs.declared.why.Why.{Why}
use Rattle.run_states.specs.declared.why.Why.TheVariants.{Canceled, Missed, Nonstart, Preempted}
use Rattle.host_model.specs.Book.{Book}
use Rattle.host_model.specs.Lawful.{IsLawfulTask, Lawful}
use Rattle.host_model.specs.LawfulRow.{IsHostRow}
use Rattle.host_model.specs.declared.change.Change.{Change}
use Rattle.host_model.specs.declared.change.Change.TheVariants.{AcceptHeard, Accepted, Asked, Closed, Confirmed, Ended, FreeHeard, LimitsSet, MaterialHeard, Merged, Planned, Posted, Purged, ResultHeard, Started, TaskClosed, Told as told_there, Tried}
use Rattle.host_model.specs.declared.change.Changes.{Changes}
use Rattle.value_bytes.specs.Changes.{change, changes}
use Rattle.value_bytes.specs.Codec.{Codec, list, number_64, option, text}
use Rattle.value_bytes.specs.Keys.{asker, key, tiers}
use Rattle.value_bytes.specs.Reasons.{cause, closing, denial, proposal, why}
use Rattle.value_bytes.specs.Rows.{answer, ends, ends_of_row, lead, lead_of_row, other, row, steps, steps_of_row, work, work_of_row}
use Rattle.value_bytes.specs.States.{archive_state, state, told, verdict, what}
use Rattle.value_bytes.specs.Tasks.{task_row}
use Rattle.host_codec.specs.Books.{book, pair}
use Rattle.host_codec.specs.Bounds.{KeepsBounds}

-- every value may be written
abbrev IsPlain : {A : Type 0} → Codec A → Type 0
IsPlain {A} c = (x : A) → c.Writable x

-- what holds of each value holds of one that may be there, and of a list
module _ {A : Type 0} {W : A → Type 0} where
  option_written : {P : A → Type 0} → ((x : A) → P x → W x) → (o : Option A) → IfSome o P → IfSome o W
  option_written written None keeps = tt
  option_written written (Some x) keeps = written x keeps

  option_plain : ((x : A) → W x) → (o : Option A) → IfSome o W
  option_plain plain None = tt
  option_plain plain (Some x) = plain x

  list_plain : ((x : A) → W x) → (xs : List A) → All W xs
  list_plain plain [] = All-nil W
  list_plain plain (x ∷ xs) = All-cons W x xs (plain x) (list_plain plain xs)

-- ---- texts, keys, who asks, spans
texts_plain : IsPlain (list text)
texts_plain = list_plain (λ t. tt)

key_plain : IsPlain key
key_plain k = (tt, (tt, (tt, tt)))

asker_plain : IsPlain asker
asker_plain a = (tt, tt)

tiers_plain : IsPlain tiers
tiers_plain t = (list_plain (λ w. tt) t.first, list_plain (λ w. tt) t.second)

-- ---- what hosts tell each other
answer_plain : IsPlain answer
answer_plain a = (texts_plain a.tools, tiers_plain a.tiers)

verdict_plain : (v : Verdict) → verdict.Writable v
verdict_plain (Permitted place) = tt
verdict_plain (Stopped place) = tt
verdict_plain Exhausted = tt
verdict_plain (AboveCeiling ceiling) = tt

what_plain : (w : What) → what.Writable w
what_plain Runs = tt
what_plain Results = tt
what_plain Numbers = tt

state_plain : (s : State) → state.Writable s
state_plain name.Missed = tt
state_plain name.Preempted = tt
state_plain name.Nonstart = tt
state_plain name.Canceled = tt
state_plain name.Finished = tt
state_plain name.Failed = tt
state_plain name.Running = tt
state_plain name.Cleanup = tt
state_plain name.Overdue = tt
state_plain name.OnDeck = tt
state_plain name.Pending = tt

told_plain : (t : Told) → told.Writable t
told_plain Confirm = tt
told_plain Cancel = tt
told_plain Material = tt

moments_plain : IsPlain (option number_64)
moments_plain = option_plain (λ m. tt)

archive_state_plain : IsPlain archive_state
archive_state_plain s = (tt, (moments_plain s.next, tt))

-- ---- why a run was closed
proposal_written : (p : Proposal) → IsProposal p → proposal.Writable p
proposal_written p is = ((key_plain p.key, (is.test, tt)), (tt, (tt, asker_plain p.asker)))

denial_written : (d : Denial) → IsDenial d → denial.Writable d
denial_written (Limits said) is = verdict_plain said
denial_written (Past moment start) is = (tt, tt)
denial_written (Conflict run) is = key_plain run
denial_written (Full full count) is = (what_plain full, tt)
denial_written (Differs kept sent) is = (proposal_written kept is.0, proposal_written sent is.1)
denial_written (closed_there s) is = state_plain s
denial_written NotParticipant is = tt
denial_written (NoTool tool) is = tt

cause_written : (c : Cause) → IsCause c → cause.Writable c
cause_written NoSlot is = tt
cause_written no_tool is = tt
cause_written (Denied host answer) is = (tt, denial_written answer is)
cause_written Silent is = tt
cause_written HoldEnded is = tt

why_written : (w : Why) → IsWhy w → why.Writable w
why_written Missed is = tt
why_written (Preempted run) is = key_plain run
why_written (Nonstart because) is = cause_written because is
why_written Canceled is = tt

closing_written : (c : Closing) → IsWhy c.why → closing.Writable c
closing_written c is = (tt, why_written c.why is)

-- ---- rows
other_plain : IsPlain other
other_plain o = (option_plain answer_plain o.free, (tt, (tt, (tt, (tt, option_plain (option_plain (λ t. tt)) o.heard)))))

-- its test and why it was closed keep their bounds
record RowKeeps (r : RunRow) : Type 0 where
  pub test : IsTest r.test
  pub closed : IfSome r.closed (λ c. IsWhy c.why)

row_written : (r : RunRow) → RowKeeps r → row.Writable r
row_written r keeps =
    let work : work.Writable (work_of_row r) = (key_plain r.key, (keeps.test, (option_plain (λ t. tt) r.tool, (option_plain (λ s. tt) r.interval, tt)))) in
    let steps : steps.Writable (steps_of_row r) = (texts_plain r.participants, (asker_plain r.asker, (moments_plain r.accepted, (moments_plain r.confirmed, moments_plain r.started)))) in
    let ends : ends.Writable (ends_of_row r) = (option_plain (λ e. (tt, (tt, tt))) r.ended, (moments_plain r.material, (option_written closing_written r.closed keeps.closed, (option_plain (λ w. tt) r.question, moments_plain r.asked)))) in
    let lead : lead.Writable (lead_of_row r) = (list_plain other_plain r.others, (option_plain (λ t. tt) r.merged, list_plain archive_state_plain r.archives)) in
    (work, (steps, (ends, lead)))

-- ---- changes
change_written : (c : Change) → KeepsBounds c → change.Writable c
change_written (Posted r) is = is
change_written (TaskClosed serial) is = tt
change_written (Accepted p participants epoch) is = ((key_plain p.key, (is, tt)), ((tt, (tt, texts_plain participants)), (asker_plain p.asker, tt)))
change_written (Asked q participants who) is = ((key_plain q.key, (is, tt)), (texts_plain participants, (asker_plain who, tt)))
change_written (Planned run start tool epoch) is = (key_plain run, (tt, (tt, tt)))
change_written (Confirmed run) is = key_plain run
change_written (Closed run reason) is = (key_plain run, why_written reason is)
change_written (Started run) is = key_plain run
change_written (Ended run good body) is = (key_plain run, (tt, tt))
change_written (FreeHeard run place free) is = (key_plain run, (tt, answer_plain free))
change_written (AcceptHeard run place) is = (key_plain run, tt)
change_written (told_there run place kind) is = (key_plain run, (tt, told_plain kind))
change_written (MaterialHeard run) is = key_plain run
change_written (ResultHeard run place result) is = (key_plain run, (tt, option_plain (λ t. tt) result))
change_written (Merged run body) is = (key_plain run, tt)
change_written (Tried run index s) is = (key_plain run, (tt, archive_state_plain s))
change_written (LimitsSet config) is = tt
change_written (Purged run) is = key_plain run

pub record_written : (r : Changes) → All KeepsBounds r.list → changes.Writable r
record_written r keeps = (tt, All-weaker KeepsBounds change.Writable change_written r.list keeps)

-- ---- books
pub lawful_written : (self : ℕ) (b : Book) → Lawful self b → book.Writable b
lawful_written self b lawful =
    let tasks = All-weaker (IsLawfulTask b.moment) task_row.Writable (λ t is. is.task) b.tasks lawful.tasks in
    let rows = All-weaker (IsHostRow self b.tasks b.moment) row.Writable (λ r is. row_written r (record { test = is.row.test; closed = is.row.closed })) b.rows lawful.rows in
    (tt, ((tt, (list_plain (λ l. tt) b.epochs, list_plain {W = pair.Writable} (λ p. (key_plain p.0, tt)) b.pairs)), (tasks, rows)))
