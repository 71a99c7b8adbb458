-- Every run that any step accepts, books or plans is granted by the limits of the epoch that it names.
use Rattle.std.specs.List.{AllByRecursion}
use Rattle.std.proofs.Common.{◌≡◌, ◌&&◌, ◌||◌, ◌==◌, ◌+◌, ℕ, ℤ, Bool, true, false, not, is_some, nat_le, nat_lt, length, bytes_eq, cond, List, [], ◌∷◌, Option, Some, None, subst}
use Rattle.archive_retry.specs.declared.state.ArchiveState.{ArchiveState}
use Rattle.archive_retry.specs.Retry.{is_due}
use Rattle.task_spec.specs.declared.task.Archive.{Archive}
use Rattle.ps_time.specs.Numbers.{most_epochs, most_tasks}
use Rattle.ps_time.specs.declared.asker.Verdict.{Verdict}
use Rattle.ps_time.specs.declared.asker.Verdict.TheVariants.{Permitted}
use Rattle.ps_time.specs.declared.class.Class.{Class}
use Rattle.ps_time.specs.declared.key.RunKey.{RunKey}
use Rattle.limit_apply.specs.Limits.{LimitsConfig as Limits, admits_of}
use Rattle.run_states.specs.Life.{is_active, is_booked}
use Rattle.run_states.specs.Rows.{IsAscendingRows, find_row}
use Rattle.run_states.specs.TaskRows.{greatest_number}
use Rattle.run_states.specs.declared.answer.Answer.{Answer}
use Rattle.run_states.specs.declared.answer.Answer.TheVariants as told
use Rattle.run_states.specs.declared.answer.Other.{Other}
use Rattle.run_states.specs.declared.proposal.Proposal.{Proposal}
use Rattle.run_states.specs.declared.row.RunRow.{RunRow}
use Rattle.run_states.specs.declared.why.Closing.{Closing}
use Rattle.run_states.specs.declared.why.Denial.{Denial}
use Rattle.run_states.specs.declared.why.Denial.TheVariants.{Full, NotParticipant}
use Rattle.run_states.specs.declared.why.What.TheVariants.{Numbers}
use Rattle.host_model.specs.Book.{Book, find_task, latest_epoch, limits_in}
use Rattle.host_model.specs.Booking.{book_run, booked_as, booking, booking_outcome, last_booking}
use Rattle.host_model.specs.Collect.{heard_material, material_at}
use Rattle.host_model.specs.Confirm.{confirm_changes, drop_changes}
use Rattle.host_model.specs.Fits.{denial_of, place_of}
use Rattle.host_model.specs.Granting.{AcceptsGranted}
use Rattle.host_model.specs.Heard.{changes_of_move, fact_of, heard_at, hear, heard_changes, meaning_of, move_of, other_at}
use Rattle.host_model.specs.Post.{cancel_changes, cancel_run, cancel_task, close_unless, if_admitted, if_known, post, posted, posted_row, poster, unknown_host}
use Rattle.host_model.specs.Propose.{answered, decide, decided_outcome, for_lead, lead_name, propose}
use Rattle.host_model.specs.Archives.{try_at, tried_to}
use Rattle.host_model.specs.Ending.{restart_run}
use Rattle.host_model.specs.Epochs.{first_limits, is_latest, is_too_long, open_changes, refused}
use Rattle.host_model.specs.FreeStarts.{free_answer, free_here}
use Rattle.host_model.specs.Step.{outcome_of}
use Rattle.host_model.specs.Turn.{changed}
use Rattle.host_model.specs.Views.{shown, view_of}
use Rattle.host_model.specs.Walk.{change_if, each_row}
use Rattle.plugin_core.specs.Participants.{is_named, participants}
use Rattle.task_spec.specs.declared.task.Task.{Task}
use Rattle.run_states.specs.declared.proposal.Question.{Question}
use Rattle.run_states.specs.declared.why.Why.TheVariants.{Canceled as canceled}
use Rattle.host_model.specs.declared.change.Change.{Change}
use Rattle.host_model.specs.declared.change.Change.TheVariants.{TaskClosed, Confirmed, Closed as closed_change, MaterialHeard, LimitsSet}
use Rattle.host_model.specs.declared.input.Input.{Input}
use Rattle.host_model.specs.declared.input.Input.TheVariants as input
use Rattle.host_model.specs.declared.reply.LimitsWrong.TheVariants.{Bytes, Epochs}
use Rattle.host_model.specs.declared.task_row.TaskRow.{TaskRow}
use Rattle.host_model.specs.declared.view.View.{View}
use Rattle.host_model.specs.declared.config.Config.{Config}
use Rattle.host_model.specs.declared.lead.LeadMove.{LeadMove}
use Rattle.host_model.specs.declared.lead.LeadMove.TheVariants.{Keep, KeepAndConfirm, Close}
use Rattle.host_model.specs.declared.lead.Meaning.{Meaning}
use Rattle.host_model.specs.declared.lead.Meaning.TheVariants as meaning
use Rattle.host_model.specs.declared.order.Order.{Order}
use Rattle.host_model.specs.declared.order.PeerAnswer.{PeerAnswer}
use Rattle.host_model.specs.declared.part.Decision.{Decision}
use Rattle.host_model.specs.declared.part.Decision.TheVariants.{New, Known, Denied}
use Rattle.host_model.specs.declared.reply.Outcome.{Outcome}
use Rattle.host_model.specs.declared.reply.Reply.TheVariants.{Denied as denied_reply, TasksFull, Canceled, NotPoster, Free as free_reply, NotRunning, MaterialHeard as material_reply, Archive as archive_reply, LimitsSet as limits_reply}
use Rattle.host_model.proofs.AnswerLemmas.{booking_granted, proposal_granted}
use Rattle.host_model.proofs.TurnGrants.{turn_granted}
use Rattle.host_model.proofs.WalkLemmas.{AllAlong, groups_along, rows_along}

module _ (c : Config) (m : ℕ) (b : Book) where
  abbrev pub AllGranted : Outcome → Type 0
  AllGranted o = AllAlong (AcceptsGranted c) m b o.list

  abbrev Each : Outcome → Type 0
  Each o = AllByRecursion (AcceptsGranted c b) o.list

  -- ---- at a participant
  decided_along : (lead : List ℕ) (p : Proposal) (d : Decision) → Each (decided_outcome b m lead p d) → AllGranted (decided_outcome b m lead p d)
  decided_along lead p New x = x
  decided_along lead p (Known accepted) x = tt
  decided_along lead p (Denied denial) x = tt

  led_along : (p : Proposal) (o : Option (List ℕ)) → Each (for_lead o (λ lead. decided_outcome b m lead p (decide (place_of c b lead) b.rows m p))) → AllGranted (for_lead o (λ lead. decided_outcome b m lead p (decide (place_of c b lead) b.rows m p)))
  led_along p None x = tt
  led_along p (Some lead) x = decided_along lead p (decide (place_of c b lead) b.rows m p) x

  propose_along : IsAscendingRows b.rows → (sender : ℕ) (p : Proposal) → AllGranted (propose c b m sender p)
  propose_along up sender p = led_along p (lead_name c sender p.key) (proposal_granted c b m up sender p)

  -- ---- bookings
  booking_along : (p : Proposal) (o : Option Denial) → Each (booking_outcome c b p o) → AllGranted (booking_outcome c b p o)
  booking_along p None x = (x.0, (tt, tt))
  booking_along p (Some denial) x = tt

  numbered_along : (p : Proposal) (full : Denial) (t : Bool) → Each (cond t (answered (denied_reply full)) (booked_as c b m p)) → AllGranted (cond t (answered (denied_reply full)) (booked_as c b m p))
  numbered_along p full true x = tt
  numbered_along p full false x = booking_along p (denial_of (place_of c b c.name) b.rows m p) x

  book_along : IsAscendingRows b.rows → (class : Class) (priority : ℤ) (start len : ℕ) → AllGranted (book_run c b m class priority start len)
  book_along up class priority start len =
      let last = greatest_number c.number 0 b.rows in
      numbered_along (booking c (last + 1) class priority start len) (Full Numbers last) (last == last_booking) (booking_granted c b m up class priority start len)

  -- ---- what the lead hears
  fact_granted : (k : RunKey) (place : ℕ) (a : Answer) → AcceptsGranted c b (fact_of k place a)
  fact_granted k place (told.Free answer) = tt
  fact_granted k place told.Accepted = tt
  fact_granted k place (told.Acknowledged what) = tt
  fact_granted k place (told.Result result) = tt

  move_granted : (k : RunKey) (place : ℕ) (said : Meaning) (move : LeadMove) → AllAlong (AcceptsGranted c) m b (changes_of_move k place said move)
  move_granted k place (meaning.Told answer) Keep = (fact_granted k place answer, tt)
  move_granted k place (meaning.Told answer) KeepAndConfirm = (fact_granted k place answer, tt)
  move_granted k place said (Close why) = (tt, tt)
  move_granted k place said move = tt

  heard_at_granted : (place : ℕ) (said : Meaning) (r : RunRow) (o : Option Other) → AllAlong (AcceptsGranted c) m b (heard_at place said r o)
  heard_at_granted place said r None = tt
  heard_at_granted place said r (Some o) = move_granted r.key place said (move_of r place o said)

  heard_granted : (order : Order) (answer : PeerAnswer) (o : Option RunRow) → AllAlong (AcceptsGranted c) m b (heard_changes order answer o)
  heard_granted order answer None = tt
  heard_granted order answer (Some r) = go (is_some r.asked)
    where
      go : (t : Bool) → AllAlong (AcceptsGranted c) m b (cond t (heard_at order.place (meaning_of order.body answer) r (other_at r order.place)) [])
      go true = heard_at_granted order.place (meaning_of order.body answer) r (other_at r order.place)
      go false = tt

  hear_along : (order : Order) (answer : PeerAnswer) → AllGranted (hear b order answer)
  hear_along order answer = heard_granted order answer (find_row b.rows order.key)

  -- ---- posting and canceling
  admitted_along : (v : Verdict) (o : Outcome) → AllGranted o → AllGranted (if_admitted v o)
  admitted_along (Permitted index) o x = x
  admitted_along v o x = tt

  known_along : (u : Option (List ℕ)) (o : Outcome) → AllGranted o → AllGranted (if_known u o)
  known_along None o x = x
  known_along (Some name) o x = tt

  full_along : (t : TaskRow) (few : Bool) → AllGranted (cond few (posted t) (answered (TasksFull most_tasks)))
  full_along t true = (tt, tt)
  full_along t false = tt

  post_along : (task : Task) (requester : List ℕ) → AllGranted (post c b m task requester)
  post_along task requester =
      known_along (unknown_host c task.test) _ (admitted_along (admits_of (limits_in c b) (poster c requester) task.test) _ (full_along (posted_row c b m task (poster c requester)) (nat_lt (length b.tasks) most_tasks)))

  test_along : (a : Book) (t : Bool) (y x : Change) → AcceptsGranted c a y → change_if t y ≡ Some x → AcceptsGranted c a x
  test_along a true y x is e = let same : y ≡ x = cc in subst (AcceptsGranted c a) same is
  test_along a false y x is e = cc

  closing_along : (t : TaskRow) (closed : Bool) (a : Book) → AllAlong (AcceptsGranted c) m a (cond closed [] (TaskClosed t.serial ∷ []))
  closing_along t true a = tt
  closing_along t false a = (tt, tt)

  cancel_along : (requester : List ℕ) (o : Option TaskRow) → AllGranted (cancel_task c b m requester o)
  cancel_along requester None = tt
  cancel_along requester (Some t) = go (bytes_eq t.asker.requester requester)
    where
      go : (same : Bool) → AllGranted (cond same (record { reply = Canceled; list = cancel_changes c.number b m t }) (answered NotPoster))
      go true = groups_along (AcceptsGranted c) m ((λ a. close_unless t) ∷ each_row (cancel_run c.number t.serial) m ∷ [])
          ((λ a. closing_along t (is_some t.closed) a), (rows_along (AcceptsGranted c) m (cancel_run c.number t.serial) (λ a r x found e. test_along a _ _ x tt e), tt)) b
      go false = tt

  -- ---- questions and news of the lead
  shown_along : (o : Option View) → AllGranted (shown o)
  shown_along None = tt
  shown_along (Some v) = tt

  asked_along : (o : Option (List ℕ)) (next : List ℕ → Outcome) → ((lead : List ℕ) → AllGranted (next lead)) → AllGranted (for_lead o next)
  asked_along None next each = tt
  asked_along (Some lead) next each = each lead

  free_along : (q : Question) (here : Bool) → AllGranted (cond here (answered (free_reply (free_answer c.installed b.rows m q))) (answered (denied_reply NotParticipant)))
  free_along q true = tt
  free_along q false = tt

  confirm_along : (o : Option RunRow) → AllAlong (AcceptsGranted c) m b (confirm_changes o)
  confirm_along None = tt
  confirm_along (Some r) = go (is_some r.closed || is_some r.confirmed)
    where
      go : (t : Bool) → AllAlong (AcceptsGranted c) m b (cond t [] (Confirmed r.key ∷ []))
      go true = tt
      go false = (tt, tt)

  drop_along : (o : Option RunRow) → AllAlong (AcceptsGranted c) m b (drop_changes o)
  drop_along None = tt
  drop_along (Some r) = go (is_booked r && not (is_some r.started))
    where
      go : (t : Bool) → AllAlong (AcceptsGranted c) m b (cond t (closed_change r.key canceled ∷ []) [])
      go true = (tt, tt)
      go false = tt

  active_along : (r : RunRow) (idle had : Bool) → AllGranted (cond idle (answered NotRunning) (cond had (answered material_reply) (record { reply = material_reply; list = MaterialHeard r.key ∷ [] })))
  active_along r true had = tt
  active_along r false true = tt
  active_along r false false = (tt, tt)

  material_along : (r : RunRow) (o : Option Closing) → AllGranted (heard_material r o)
  material_along r (Some x) = tt
  material_along r None = active_along r (not (is_active r)) (is_some r.material)

  material_at_along : (o : Option RunRow) → AllGranted (material_at o)
  material_at_along None = tt
  material_at_along (Some r) = material_along r r.closed

  -- ---- archives, limits, opening
  due_along : (k : RunKey) (index : ℕ) (s t : ArchiveState) (is : Bool) → AllGranted (cond is (tried_to k index t) (answered (archive_reply s)))
  due_along k index s t true = (tt, tt)
  due_along k index s t false = tt

  tried_along : (k : RunKey) (index : ℕ) (good : Bool) (retry : Option ℕ) (s : Option ArchiveState) (a : Option Archive) → AllGranted (try_at m k index good retry s a)
  tried_along k index good retry (Some s) (Some a) = due_along k index s _ (is_due s m)
  tried_along k index good retry s a = tt

  limits_along : (l : Limits) (same long many : Bool) → AllGranted (cond same (answered (limits_reply (latest_epoch b))) (cond long (refused (Bytes (length l.text))) (cond many (refused (Epochs (latest_epoch b))) (record { reply = limits_reply (latest_epoch b + 1); list = LimitsSet l ∷ [] }))))
  limits_along l true long many = tt
  limits_along l false true many = tt
  limits_along l false false true = tt
  limits_along l false false false = (tt, tt)

  first_along : (l : Limits) (t : Bool) (a : Book) → AllAlong (AcceptsGranted c) m a (cond t (LimitsSet l ∷ []) [])
  first_along l true a = (tt, tt)
  first_along l false a = tt

  open_along : (long : Bool) → AllGranted (cond long (refused (Bytes (length c.limits.text))) (changed (open_changes c b m)))
  open_along true = tt
  open_along false = groups_along (AcceptsGranted c) m (first_limits c.limits ∷ each_row (restart_run c) m ∷ [])
      ((λ a. first_along c.limits (latest_epoch a == 0) a), (rows_along (AcceptsGranted c) m (restart_run c) (λ a r x found e. test_along a _ _ x tt e), tt)) b

  -- ---- every step, of a settled book
  pub step_granted : IsAscendingRows b.rows → (i : Input) → AllGranted (outcome_of c m b i)
  step_granted up (input.Book class priority start len) = book_along up class priority start len
  step_granted up (input.Post task requester) = post_along task requester
  step_granted up (input.Cancel serial requester) = cancel_along requester (find_task b.tasks serial)
  step_granted up (input.View page) = shown_along (view_of c b m page)
  step_granted up (input.Free sender question) = asked_along (lead_name c sender question.key) (free_here c b m question) (λ lead. free_along question (is_named c.name (participants question.test lead)))
  step_granted up (input.Propose sender proposal) = propose_along up sender proposal
  step_granted up (input.Confirm sender key) = asked_along (lead_name c sender key) _ (λ lead. confirm_along (find_row b.rows key))
  step_granted up (input.Drop sender key) = asked_along (lead_name c sender key) _ (λ lead. drop_along (find_row b.rows key))
  step_granted up (input.Collect sender key) = asked_along (lead_name c sender key) _ (λ lead. tt)
  step_granted up (input.Material sender key text) = asked_along (lead_name c sender key) _ (λ lead. material_at_along (find_row b.rows key))
  step_granted up (input.Heard order answer) = hear_along order answer
  step_granted up (input.Tried key index good retry) = tried_along key index good retry _ _
  step_granted up input.Turn = turn_granted c m b up
  step_granted up input.Open = open_along ((latest_epoch b == 0) && is_too_long c.limits)
  step_granted up (input.Limits limits) = limits_along limits (is_latest b limits) (is_too_long limits) (nat_le most_epochs (latest_epoch b))
