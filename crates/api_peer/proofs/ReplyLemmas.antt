-- What a step of a lawful book replies can be shown.
use Rattle.std.specs.Prelude.{IfSome, bytes_eq, nat_le, nat_lt, option_and_then, slice_get}
use Rattle.std.proofs.Common.{◌+◌, ◌==◌, ◌&&◌, ◌∷◌, ◌≡◌, ◌≤◌, [], Bool, List, None, Option, Some, arith, cond, false, is_some, length, not, option_map, refl, true, ℕ, ℤ}
use Rattle.std.proofs.lemmas.List.Elements.{recursion_from_All}
use Rattle.ps_time.specs.Numbers.{greatest_moment, most_epochs, most_tasks}
use Rattle.ps_time.specs.declared.asker.Verdict.{Verdict}
use Rattle.ps_time.specs.declared.asker.Verdict.TheVariants.{Permitted, Stopped, Exhausted, AboveCeiling}
use Rattle.ps_time.specs.declared.class.Class.{Class}
use Rattle.ps_time.specs.declared.key.RunKey.{RunKey}
use Rattle.archive_retry.specs.Merge.{IsResultText, IsTreeText}
use Rattle.archive_retry.specs.Retry.{is_due, state_after}
use Rattle.archive_retry.specs.declared.state.ArchiveState.{ArchiveState}
use Rattle.plugin_core.specs.Kind.{kind_class, kind_of_text}
use Rattle.plugin_core.specs.Participants.{is_named, participants}
use Rattle.plugin_core.specs.declared.kind.TestKind.{TestKind}
use Rattle.limit_apply.specs.Limits.{LimitsConfig as Limits, admits_of}
use Rattle.run_states.specs.LawfulRow.{HasArchives, IsDenial, IsProposal}
use Rattle.run_states.specs.Life.{is_active}
use Rattle.run_states.specs.Rows.{find_row}
use Rattle.run_states.specs.TaskRows.{greatest_number}
use Rattle.run_states.specs.declared.proposal.Proposal.{Proposal}
use Rattle.run_states.specs.declared.proposal.Question.{Question}
use Rattle.run_states.specs.declared.row.Ending.{Ending}
use Rattle.run_states.specs.declared.row.RunRow.{RunRow}
use Rattle.run_states.specs.declared.why.Closing.{Closing}
use Rattle.run_states.specs.declared.why.Denial.{Denial}
use Rattle.run_states.specs.declared.why.Denial.TheVariants.{Full, NotParticipant}
use Rattle.run_states.specs.declared.why.What.TheVariants.{Numbers}
use Rattle.task_spec.specs.declared.task.Archive.{Archive}
use Rattle.host_model.specs.Apply.{settled}
use Rattle.host_model.specs.Archives.{state_at_index, tried_to, try_at}
use Rattle.host_model.specs.Book.{Book, find_task, latest_epoch, limits_in, moment_at}
use Rattle.host_model.specs.Booking.{book_run, booked_as, booking, booking_outcome, last_booking}
use Rattle.host_model.specs.Collect.{collect, hear_material, heard_material, material_at, result_reply, told_result}
use Rattle.host_model.specs.Conditions.{MayStep}
use Rattle.host_model.specs.Confirm.{confirm, confirm_changes, confirm_reply, confirm_standing, drop_changes, drop_run, part_reply}
use Rattle.host_model.specs.Effect.{archives_of}
use Rattle.host_model.specs.Epochs.{is_latest, is_too_long, open_changes, refused}
use Rattle.host_model.specs.Fits.{denial_of, place_of}
use Rattle.host_model.specs.FreeStarts.{free, free_answer, free_here}
use Rattle.host_model.specs.Lawful.{IsLawfulTask, Lawful}
use Rattle.host_model.specs.Post.{cancel_changes, cancel_task, if_admitted, if_known, posted, posted_row, poster, unknown_host}
use Rattle.host_model.specs.Propose.{answered, decide, decided_outcome, for_lead, lead_name, propose}
use Rattle.host_model.specs.Step.{step_reply}
use Rattle.host_model.specs.Turn.{changed}
use Rattle.host_model.specs.Views.{run_view, runs_of, shown, view_of}
use Rattle.host_model.specs.declared.change.Change.TheVariants.{LimitsSet as limits_change, MaterialHeard as material_change}
use Rattle.host_model.specs.declared.config.Config.{Config}
use Rattle.host_model.specs.declared.input.Input.{Input}
use Rattle.host_model.specs.declared.input.Input.TheVariants as input
use Rattle.host_model.specs.declared.part.Decision.{Decision}
use Rattle.host_model.specs.declared.part.Decision.TheVariants.{New, Known, Denied as denied_decision}
use Rattle.host_model.specs.declared.part.PartReply.TheVariants.{Dropped as dropped_here}
use Rattle.host_model.specs.declared.reply.LimitsWrong.TheVariants.{Bytes, Epochs}
use Rattle.host_model.specs.declared.reply.Outcome.{Outcome}
use Rattle.host_model.specs.declared.reply.Reply.TheVariants as reply
use Rattle.host_model.specs.declared.task_row.TaskRow.{TaskRow}
use Rattle.host_model.specs.declared.view.Page.{Page}
use Rattle.host_model.specs.declared.view.Page.TheVariants as page
use Rattle.host_model.specs.declared.view.View.TheVariants as view
use Rattle.host_model.proofs.RowFacts.{lawful_at}
use Rattle.host_model.proofs.SettledBook.{book_settled}
use Rattle.host_model.proofs.StepGrown.{task_of_all}
use Rattle.world_law.proofs.Messages.{denied_in, objected_in}
use Rattle.api_reply.specs.Bounds.{IsReplyShown}

abbrev IsShown : Outcome → Type 0
IsShown o = IsReplyShown o.reply

-- ---- posts and cancellations
post_shown : (o : Option (List ℕ)) (v : Verdict) (t : Bool) (row : TaskRow) → IsShown (if_known o (if_admitted v (cond t (posted row) (answered (reply.TasksFull most_tasks)))))
post_shown (Some name) v t row = tt
post_shown None (Permitted i) true row = tt
post_shown None (Permitted i) false row = tt
post_shown None (Stopped i) t row = tt
post_shown None Exhausted t row = tt
post_shown None (AboveCeiling z) t row = tt

-- ---- archives and limits
try_shown : (k : RunKey) (i m : ℕ) (good : Bool) (retry : Option ℕ) (s : Option ArchiveState) (a : Option Archive) → IsShown (try_at m k i good retry s a)
try_shown k i m good retry None a = tt
try_shown k i m good retry (Some s) None = tt
try_shown k i m good retry (Some s) (Some a) = go (is_due s m)
  where
    go : (t : Bool) → IsShown (cond t (tried_to k i (state_after a.policy s m retry good)) (answered (reply.Archive s)))
    go true = tt
    go false = tt

limits_shown : (b : Book) (l : Limits) (t u v : Bool) → IsShown (cond t (answered (reply.LimitsSet (latest_epoch b))) (cond u (refused (Bytes (length l.text))) (cond v (refused (Epochs (latest_epoch b))) (record { reply = reply.LimitsSet (latest_epoch b + 1); list = limits_change l ∷ [] }))))
limits_shown b l true u v = tt
limits_shown b l false true v = tt
limits_shown b l false false true = tt
limits_shown b l false false false = tt

open_shown : (c : Config) (m : ℕ) (b : Book) (t : Bool) → IsShown (cond t (refused (Bytes (length c.limits.text))) (changed (open_changes c b m)))
open_shown c m b true = tt
open_shown c m b false = tt

cancel_shown : (c : Config) (b : Book) (m : ℕ) (requester : List ℕ) (o : Option TaskRow) → IsShown (cancel_task c b m requester o)
cancel_shown c b m requester None = tt
cancel_shown c b m requester (Some t) = go (bytes_eq t.asker.requester requester)
  where
    go : (x : Bool) → IsShown (cond x (record { reply = reply.Canceled; list = cancel_changes c.number b m t }) (answered reply.NotPoster))
    go true = tt
    go false = tt

-- ---- what only the lead may ask for
lead_shown : (o : Option (List ℕ)) (next : List ℕ → Outcome) → ((lead : List ℕ) → IsShown (next lead)) → IsShown (for_lead o next)
lead_shown None next each = tt
lead_shown (Some lead) next each = each lead

-- ---- of a book that is settled at m
module _ (c : Config) (b : Book) (m : ℕ) (within : m ≤ greatest_moment) (lawful : Lawful c.number (settled m b)) where
  abbrev s : Book
  s = settled m b

  -- ---- a booking
  booked_shown : (p : Proposal) → p.start ≤ greatest_moment → IsShown (booked_as c s m p)
  booked_shown p low = go (denial_of (place_of c s c.name) s.rows m p) (objected_in c b m within lawful c.name p low)
    where
      go : (o : Option Denial) → IfSome o IsDenial → IsShown (booking_outcome c s p o)
      go None is = tt
      go (Some d) is = is

  pub book_shown : (class : Class) (priority : ℤ) (start len : ℕ) → start ≤ greatest_moment → IsShown (book_run c s m class priority start len)
  book_shown class priority start len low = go (greatest_number c.number 0 s.rows) (greatest_number c.number 0 s.rows == last_booking)
    where
      go : (last : ℕ) (t : Bool) → IsShown (cond t (answered (reply.Denied (Full Numbers last))) (booked_as c s m (booking c (last + 1) class priority start len)))
      go last true = tt
      go last false = booked_shown (booking c (last + 1) class priority start len) low

  -- ---- a page
  task_shown : (o : Option TaskRow) (serial : ℕ) → find_task s.tasks serial ≡ o → IsShown (shown (option_map view.Task o))
  task_shown None serial at = tt
  task_shown (Some t) serial at =
      let task : IsLawfulTask m t = task_of_all (IsLawfulTask m) serial t s.tasks (recursion_from_All (IsLawfulTask m) s.tasks lawful.tasks) at in
      record { test = task.task.test; rest = task.task.rest }

  merged_shown : (r : RunRow) (o : Option (List ℕ)) → HasArchives r o → IfSome o IsTreeText
  merged_shown r None has = tt
  merged_shown r (Some text) has = has.0

  run_shown : (o : Option RunRow) (k : RunKey) → find_row s.rows k ≡ o → IsShown (shown (option_map (run_view s m) o))
  run_shown None k at = tt
  run_shown (Some r) k at =
      let row = lawful_at c.number s lawful k r at in
      record { own = row.row.result; merged = merged_shown r r.merged row.row.merged }

  pub page_shown : (p : Page) → IsShown (shown (view_of c s m p))
  page_shown page.Home = tt
  page_shown page.Clock = tt
  page_shown page.Tests = tt
  page_shown page.Tools = tt
  page_shown page.Archivers = tt
  page_shown (page.Test name) = go (kind_of_text name)
    where
      go : (o : Option TestKind) → IsShown (shown (option_map (λ kind. view.Test name (kind_class kind)) o))
      go None = tt
      go (Some kind) = tt
  page_shown page.Tasks = tt
  page_shown (page.Task serial) = task_shown (find_task s.tasks serial) serial refl
  page_shown (page.Runs serial) = go (find_task s.tasks serial)
    where
      go : (o : Option TaskRow) → IsShown (shown (option_map (λ t. view.Runs (runs_of c.number s.rows serial)) o))
      go None = tt
      go (Some t) = tt
  page_shown (page.Run k) = run_shown (find_row s.rows k) k refl
  page_shown (page.Schedule start end) = tt

  -- ---- a question, and a proposal
  pub free_shown : (sender : ℕ) (q : Question) → IsShown (free c s m sender q)
  free_shown sender q = lead_shown (lead_name c sender q.key) (free_here c s m q) (λ lead. go (is_named c.name (participants q.test lead)))
    where
      go : (t : Bool) → IsShown (cond t (answered (reply.Free (free_answer c.installed s.rows m q))) (answered (reply.Denied NotParticipant)))
      go true = tt
      go false = tt

  pub propose_shown : (sender : ℕ) (p : Proposal) → IsProposal p → IsShown (propose c s m sender p)
  propose_shown sender p sent =
      lead_shown (lead_name c sender p.key) (λ lead. decided_outcome s m lead p (decide (place_of c s lead) s.rows m p)) (λ lead. go lead (decide (place_of c s lead) s.rows m p) refl)
    where
      go : (lead : List ℕ) (d : Decision) → decide (place_of c s lead) s.rows m p ≡ d → IsShown (decided_outcome s m lead p d)
      go lead New e = tt
      go lead (Known n) e = tt
      go lead (denied_decision d) e = denied_in c b m within lawful lead p sent (find_row s.rows p.key) refl d e

  -- ---- a run that is taken part in
  pub confirm_shown : (sender : ℕ) (k : RunKey) → IsShown (confirm c s m sender k)
  confirm_shown sender k =
      lead_shown (lead_name c sender k) (λ lead. record { reply = part_reply (confirm_reply m (find_row s.rows k)); list = confirm_changes (find_row s.rows k) }) (λ lead. row (find_row s.rows k))
    where
      standing : (r : RunRow) (o : Option Closing) → IsReplyShown (part_reply (confirm_standing m r o))
      standing r None = tt
      standing r (Some x) = tt

      row : (o : Option RunRow) → IsReplyShown (part_reply (confirm_reply m o))
      row None = tt
      row (Some r) = standing r r.closed

  pub drop_shown : (sender : ℕ) (k : RunKey) → IsShown (drop_run c s sender k)
  drop_shown sender k = lead_shown (lead_name c sender k) (λ lead. record { reply = part_reply dropped_here; list = drop_changes (find_row s.rows k) }) (λ lead. tt)

  pub material_shown : (sender : ℕ) (k : RunKey) → IsShown (hear_material c s sender k)
  material_shown sender k = lead_shown (lead_name c sender k) (λ lead. material_at (find_row s.rows k)) (λ lead. row (find_row s.rows k))
    where
      heard : (r : RunRow) (o : Option Closing) → IsShown (heard_material r o)
      heard r (Some x) = tt
      heard r None = go (is_active r) (is_some r.material)
        where
          go : (t u : Bool) → IsShown (cond (not t) (answered reply.NotRunning) (cond u (answered reply.MaterialHeard) (record { reply = reply.MaterialHeard; list = material_change r.key ∷ [] })))
          go false u = tt
          go true true = tt
          go true false = tt

      row : (o : Option RunRow) → IsShown (material_at o)
      row None = tt
      row (Some r) = heard r r.closed

  pub collect_shown : (sender : ℕ) (k : RunKey) → IsShown (collect c s m sender k)
  collect_shown sender k = lead_shown (lead_name c sender k) (λ lead. answered (result_reply m (find_row s.rows k))) (λ lead. row (find_row s.rows k) refl)
    where
      told : (r : RunRow) (o : Option Closing) (x : Option Ending) → IfSome (option_map (λ e. e.body) x) IsResultText → IsReplyShown (told_result m r o x)
      told r (Some y) x is = tt
      told r None (Some e) is = is
      told r None None is = tt

      row : (o : Option RunRow) → find_row s.rows k ≡ o → IsReplyShown (result_reply m o)
      row None e = tt
      row (Some r) e = told r r.closed r.ended (lawful_at c.number s lawful k r e).row.result

-- ---- every input
pub reply_shown : (c : Config) (b : Book) (clock : ℕ) (i : Input) → MayStep c b clock i → IsReplyShown (step_reply c b clock i)
reply_shown c b clock i may = go i may
  where
    m : ℕ
    m = moment_at b clock

    low : (x : Input) → MayStep c b clock x → m ≤ greatest_moment
    low x may = omega (arith, may.book.moment, may.moment)

    lawful : (x : Input) → MayStep c b clock x → Lawful c.number (settled m b)
    lawful x may = book_settled c.number b m (omega arith) (low x may) may.book

    go : (x : Input) → MayStep c b clock x → IsReplyShown (step_reply c b clock x)
    go (input.Book class priority start len) may = book_shown c b m (low _ may) (lawful _ may) class priority start len may.bounds.0
    go (input.Post task requester) may =
        post_shown (unknown_host c task.test) (admits_of (limits_in c (settled m b)) (poster c requester) task.test) (nat_lt (length b.tasks) most_tasks) (posted_row c (settled m b) m task (poster c requester))
    go (input.Cancel serial requester) may = cancel_shown c (settled m b) m requester (find_task b.tasks serial)
    go (input.View p) may = page_shown c b m (low _ may) (lawful _ may) p
    go (input.Free sender q) may = free_shown c b m (low _ may) (lawful _ may) sender q
    go (input.Propose sender p) may = propose_shown c b m (low _ may) (lawful _ may) sender p (record { test = may.bounds.0; start = may.bounds.1 })
    go (input.Confirm sender k) may = confirm_shown c b m (low _ may) (lawful _ may) sender k
    go (input.Drop sender k) may = drop_shown c b m (low _ may) (lawful _ may) sender k
    go (input.Collect sender k) may = collect_shown c b m (low _ may) (lawful _ may) sender k
    go (input.Material sender k text) may = material_shown c b m (low _ may) (lawful _ may) sender k
    go (input.Heard order answer) may = tt
    go (input.Tried k index good retry) may =
        try_shown k index m good retry (option_and_then (λ r. state_at_index r index) (find_row (settled m b).rows k)) (slice_get (archives_of b.tasks k) index)
    go input.Turn may = tt
    go input.Open may = open_shown c m (settled m b) ((latest_epoch b == 0) && is_too_long c.limits)
    go (input.Limits l) may = limits_shown (settled m b) l (is_latest (settled m b) l) (is_too_long l) (nat_le most_epochs (latest_epoch b))
