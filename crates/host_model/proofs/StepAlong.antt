-- What the changes of each input's step are made for: what holds where they are made for it holds of each change of the step.
use Rattle.std.specs.Prelude.{◌||◌, ◌&&◌, ◌==◌, bytes_eq, nat_le, nat_lt, not, ℤ}
use Rattle.std.proofs.Common.{◌≡◌, ◌+◌, ℕ, Bool, true, false, cond, List, [], ◌∷◌, length, Option, Some, None, is_some, option_and_then, slice_get, refl}
use Rattle.ps_time.specs.declared.asker.Verdict.{Verdict}
use Rattle.ps_time.specs.declared.asker.Verdict.TheVariants.{Permitted}
use Rattle.ps_time.specs.declared.class.Class.{Class}
use Rattle.ps_time.specs.declared.key.RunKey.{RunKey}
use Rattle.ps_time.specs.Numbers.{most_epochs, most_tasks}
use Rattle.plugin_core.specs.Participants.{is_named, participants}
use Rattle.archive_retry.specs.Retry.{is_due, state_after}
use Rattle.archive_retry.specs.declared.state.ArchiveState.{ArchiveState}
use Rattle.limit_apply.specs.Limits.{LimitsConfig as Limits, admits_of}
use Rattle.run_states.specs.Life.{is_active, is_booked}
use Rattle.run_states.specs.Rows.{find_row}
use Rattle.run_states.specs.TaskRows.{greatest_number}
use Rattle.run_states.specs.declared.answer.Answer.{Answer}
use Rattle.run_states.specs.declared.answer.Other.{Other}
use Rattle.run_states.specs.declared.proposal.Proposal.{Proposal}
use Rattle.run_states.specs.declared.proposal.Question.{Question}
use Rattle.run_states.specs.declared.row.RunRow.{RunRow}
use Rattle.run_states.specs.declared.why.Closing.{Closing}
use Rattle.run_states.specs.declared.why.Denial.{Denial}
use Rattle.run_states.specs.declared.why.Why.{Why}
use Rattle.run_states.specs.declared.why.Why.TheVariants.{Canceled}
use Rattle.task_spec.specs.declared.task.Archive.{Archive}
use Rattle.task_spec.specs.declared.task.Task.{Task}
use Rattle.host_model.specs.Apply.{apply_all}
use Rattle.host_model.specs.Archives.{state_at_index, try_archive, try_at}
use Rattle.host_model.specs.Book.{Book, find_task, latest_epoch, limits_in}
use Rattle.host_model.specs.Booking.{book_run, booked_as, booking, booking_outcome, last_booking}
use Rattle.host_model.specs.Collect.{collect, hear_material, heard_material, material_at}
use Rattle.host_model.specs.Confirm.{confirm, confirm_changes, drop_changes, drop_run}
use Rattle.host_model.specs.Effect.{archives_of}
use Rattle.host_model.specs.Ending.{restart_run}
use Rattle.host_model.specs.Epochs.{first_limits, is_latest, is_too_long, open_host, set_limits}
use Rattle.host_model.specs.Fits.{denial_of, place_of}
use Rattle.host_model.specs.FreeStarts.{free, free_here}
use Rattle.host_model.specs.Heard.{changes_of_move, fact_of, hear, heard_at, heard_changes, meaning_of, move_of, other_at}
use Rattle.host_model.specs.Post.{cancel, cancel_run, cancel_task, close_unless, if_admitted, if_known, post, posted_row, poster, unknown_host, unless_full}
use Rattle.host_model.specs.Propose.{decide, decided_outcome, for_lead, lead_name, propose}
use Rattle.host_model.specs.Views.{shown, view_of}
use Rattle.host_model.specs.Walk.{each_row}
use Rattle.host_model.specs.declared.change.Change.{Change}
use Rattle.host_model.specs.declared.change.Change.TheVariants.{Posted, TaskClosed, Accepted, Confirmed, Closed, MaterialHeard, Tried, LimitsSet}
use Rattle.host_model.specs.declared.config.Config.{Config}
use Rattle.host_model.specs.declared.lead.LeadMove.{LeadMove}
use Rattle.host_model.specs.declared.lead.LeadMove.TheVariants.{Keep, KeepAndConfirm, Close, Nothing}
use Rattle.host_model.specs.declared.lead.Meaning.{Meaning}
use Rattle.host_model.specs.declared.order.Order.{Order}
use Rattle.host_model.specs.declared.order.PeerAnswer.{PeerAnswer}
use Rattle.host_model.specs.declared.part.Decision.{Decision}
use Rattle.host_model.specs.declared.part.Decision.TheVariants.{New, Known, Denied as denied_decision}
use Rattle.host_model.specs.declared.reply.Outcome.{Outcome}
use Rattle.host_model.specs.declared.task_row.TaskRow.{TaskRow}
use Rattle.host_model.specs.declared.view.Page.{Page}
use Rattle.host_model.specs.declared.view.View.{View}
use Rattle.host_model.proofs.WalkLemmas.{AllAlong, GrantsRow, both_along, rows_along}
use Rattle.host_model.specs.declared.lead.Meaning.TheVariants as meaning

module _ (P : Book → Change → Type 0) (m : ℕ) (c : Config) (b : Book) where
  abbrev Along : List Change → Type 0
  Along cs = AllAlong P m b cs

  by_test : (t : Bool) (o p : Outcome) → (t ≡ true → Along o.list) → (t ≡ false → Along p.list) → Along (cond t o p).list
  by_test true o p holds fails = holds refl
  by_test false o p holds fails = fails refl

  list_by_test : (t : Bool) (xs ys : List Change) → (t ≡ true → Along xs) → (t ≡ false → Along ys) → Along (cond t xs ys)
  list_by_test true xs ys holds fails = holds refl
  list_by_test false xs ys holds fails = fails refl

  -- ---- clients
  -- a booking that nothing speaks against
  pub book_along : (class : Class) (priority : ℤ) (start len : ℕ) →
      ((p : Proposal) → p ≡ booking c (greatest_number c.number 0 b.rows + 1) class priority start len → denial_of (place_of c b c.name) b.rows m p ≡ None → Along (Accepted p (participants p.test c.name) (latest_epoch b) ∷ Confirmed p.key ∷ [])) →
      Along (book_run c b m class priority start len).list
  book_along class priority start len fits =
      let p : Proposal = booking c (greatest_number c.number 0 b.rows + 1) class priority start len in
      by_test (greatest_number c.number 0 b.rows == last_booking) _ (booked_as c b m p) (λ last. tt) (λ more. go p (denial_of (place_of c b c.name) b.rows m p) (fits p refl))
    where
      go : (p : Proposal) (o : Option Denial) → (o ≡ None → Along (Accepted p (participants p.test c.name) (latest_epoch b) ∷ Confirmed p.key ∷ [])) → Along (booking_outcome c b p o).list
      go p None fits = fits refl
      go p (Some denial) fits = tt

  -- a task that is known, admitted and has a place
  pub post_along : (task : Task) (requester : List ℕ) → (nat_lt (length b.tasks) most_tasks ≡ true → P b (Posted (posted_row c b m task (poster c requester)))) → Along (post c b m task requester).list
  post_along task requester has = known (unknown_host c task.test) (if_admitted (admits_of (limits_in c b) (poster c requester) task.test) full) (admitted (admits_of (limits_in c b) (poster c requester) task.test) full room)
    where
      full : Outcome
      full = unless_full c b m task (poster c requester)

      room : Along full.list
      room = by_test (nat_lt (length b.tasks) most_tasks) _ _ (λ holds. (has holds, tt)) (λ fails. tt)

      admitted : (v : Verdict) (o : Outcome) → Along o.list → Along (if_admitted v o).list
      admitted (Permitted index) o all = all
      admitted v o all = tt

      known : (name : Option (List ℕ)) (o : Outcome) → Along o.list → Along (if_known name o).list
      known (Some name) o all = tt
      known None o all = all

  -- the task is open; its runs are neither started nor closed
  pub cancel_along : (serial : ℕ) (requester : List ℕ) → ((t : TaskRow) → find_task b.tasks serial ≡ Some t → t.closed ≡ None → P b (TaskClosed t.serial)) → ((number : ℕ) → GrantsRow P m (cancel_run c.number number)) →
      Along (cancel c b m serial requester).list
  cancel_along serial requester closes runs = go (find_task b.tasks serial) refl
    where
      close : (t : TaskRow) (o : Option ℕ) → (o ≡ None → P b (TaskClosed t.serial)) → Along (cond (is_some o) [] (TaskClosed t.serial ∷ []))
      close t None has = (has refl, tt)
      close t (Some n) has = tt

      go : (o : Option TaskRow) → find_task b.tasks serial ≡ o → Along (cancel_task c b m requester o).list
      go None at = tt
      go (Some t) at =
          let rest : Book = apply_all m (close_unless t) b in
          let gone : AllAlong P m rest (each_row (cancel_run c.number t.serial) m rest) = rows_along P m (cancel_run c.number t.serial) (runs t.serial) rest in
          by_test (bytes_eq t.asker.requester requester) _ _ (λ own. both_along P m (close_unless t) _ b (close t t.closed (closes t at)) (both_along P m (each_row (cancel_run c.number t.serial) m rest) [] rest gone tt)) (λ other. tt)

  -- ---- a participant
  of_lead : (k : Option (List ℕ)) (next : List ℕ → Outcome) → ((lead : List ℕ) → k ≡ Some lead → Along (next lead).list) → Along (for_lead k next).list
  of_lead None next each = tt
  of_lead (Some lead) next each = each lead refl

  -- a question and a view change nothing
  pub free_along : (sender : ℕ) (q : Question) → Along (free c b m sender q).list
  free_along sender q = of_lead (lead_name c sender q.key) (free_here c b m q) (λ lead at. by_test (is_named c.name (participants q.test lead)) _ _ (λ holds. tt) (λ fails. tt))

  pub collect_along : (sender : ℕ) (k : RunKey) → Along (collect c b m sender k).list
  collect_along sender k = of_lead (lead_name c sender k) _ (λ lead at. tt)

  pub view_along : (page : Page) → Along (shown (view_of c b m page)).list
  view_along page = go (view_of c b m page)
    where
      go : (o : Option View) → Along (shown o).list
      go None = tt
      go (Some v) = tt

  -- a proposal that is new
  pub propose_along : (sender : ℕ) (p : Proposal) → ((lead : List ℕ) → lead_name c sender p.key ≡ Some lead → decide (place_of c b lead) b.rows m p ≡ New → P b (Accepted p (participants p.test lead) (latest_epoch b))) →
      Along (propose c b m sender p).list
  propose_along sender p new = of_lead (lead_name c sender p.key) _ (λ lead at. go lead (decide (place_of c b lead) b.rows m p) (new lead at))
    where
      go : (lead : List ℕ) (d : Decision) → (d ≡ New → P b (Accepted p (participants p.test lead) (latest_epoch b))) → Along (decided_outcome b m lead p d).list
      go lead New has = (has refl, tt)
      go lead (Known accepted) has = tt
      go lead (denied_decision denial) has = tt

  -- a row that is neither closed nor confirmed
  pub confirm_along : (sender : ℕ) (k : RunKey) → ((lead : List ℕ) (r : RunRow) → lead_name c sender k ≡ Some lead → find_row b.rows k ≡ Some r → r.closed ≡ None → P b (Confirmed r.key)) → Along (confirm c b m sender k).list
  confirm_along sender k fresh = of_lead (lead_name c sender k) _ (λ lead at. go lead at (find_row b.rows k) refl)
    where
      row : (r : RunRow) (o : Option Closing) (p : Option ℕ) → (o ≡ None → P b (Confirmed r.key)) → Along (cond (is_some o || is_some p) [] (Confirmed r.key ∷ []))
      row r None None has = (has refl, tt)
      row r None (Some n) has = tt
      row r (Some n) p has = tt

      go : (lead : List ℕ) → lead_name c sender k ≡ Some lead → (o : Option RunRow) → find_row b.rows k ≡ o → Along (confirm_changes o)
      go lead at None found = tt
      go lead at (Some r) found = row r r.closed r.confirmed (fresh lead r at found)

  -- a row that is booked, and not started
  pub drop_along : (sender : ℕ) (k : RunKey) → ((r : RunRow) → find_row b.rows k ≡ Some r → is_booked r ≡ true → r.started ≡ None → P b (Closed r.key Canceled)) → Along (drop_run c b sender k).list
  drop_along sender k booked = of_lead (lead_name c sender k) _ (λ lead at. go (find_row b.rows k) refl)
    where
      row : (r : RunRow) (t : Bool) (o : Option ℕ) → (t ≡ true → o ≡ None → P b (Closed r.key Canceled)) → Along (cond (t && not (is_some o)) (Closed r.key Canceled ∷ []) [])
      row r true None has = (has refl refl, tt)
      row r true (Some n) has = tt
      row r false o has = tt

      go : (o : Option RunRow) → find_row b.rows k ≡ o → Along (drop_changes o)
      go None found = tt
      go (Some r) found = row r (is_booked r) r.started (booked r found)

  -- an active row
  pub material_along : (sender : ℕ) (k : RunKey) → ((r : RunRow) → find_row b.rows k ≡ Some r → is_active r ≡ true → P b (MaterialHeard r.key)) → Along (hear_material c b sender k).list
  material_along sender k active = of_lead (lead_name c sender k) _ (λ lead at. go (find_row b.rows k) refl)
    where
      row : (r : RunRow) (o : Option Closing) → (is_active r ≡ true → P b (MaterialHeard r.key)) → Along (heard_material r o).list
      row r (Some n) has = tt
      row r None has = by_test (not (is_active r)) _ _ (λ fails. tt) (λ holds. by_test (is_some r.material) _ _ (λ was. tt) (λ new. (has (is (is_active r) holds), tt)))
        where
          is : (t : Bool) → not t ≡ false → t ≡ true
          is true e = refl
          is false e = cc

      go : (o : Option RunRow) → find_row b.rows k ≡ o → Along (material_at o).list
      go None found = tt
      go (Some r) found = row r r.closed (active r found)

  -- ---- a lead
  -- a row that was asked about, and another participant: what it told is kept, or the row is closed
  pub hear_along : (order : Order) (answer : PeerAnswer) →
      ((r : RunRow) (o : Other) (told : Answer) → find_row b.rows order.key ≡ Some r → is_some r.asked ≡ true → other_at r order.place ≡ Some o → meaning_of order.body answer ≡ meaning.Told told → P b (fact_of r.key order.place told)) →
      ((r : RunRow) (o : Other) (why : Why) → find_row b.rows order.key ≡ Some r → is_some r.asked ≡ true → other_at r order.place ≡ Some o → move_of r order.place o (meaning_of order.body answer) ≡ Close why → P b (Closed r.key why)) →
      Along (hear b order answer).list
  hear_along order answer keeps closes = go (find_row b.rows order.key) refl
    where
      move : (k : RunKey) (said : Meaning) (v : LeadMove) → ((told : Answer) → said ≡ meaning.Told told → P b (fact_of k order.place told)) → ((why : Why) → v ≡ Close why → P b (Closed k why)) → Along (changes_of_move k order.place said v)
      move k (meaning.Told told) Keep keep close = (keep told refl, tt)
      move k (meaning.Told told) KeepAndConfirm keep close = (keep told refl, tt)
      move k (meaning.Told told) (Close why) keep close = (close why refl, tt)
      move k (meaning.Told told) Nothing keep close = tt
      move k (meaning.Denied denial) (Close why) keep close = (close why refl, tt)
      move k (meaning.Denied denial) v keep close = tt
      move k meaning.Lost (Close why) keep close = (close why refl, tt)
      move k meaning.Lost v keep close = tt
      move k meaning.Nothing (Close why) keep close = (close why refl, tt)
      move k meaning.Nothing v keep close = tt

      place : (r : RunRow) → find_row b.rows order.key ≡ Some r → is_some r.asked ≡ true → (o : Option Other) → other_at r order.place ≡ o → Along (heard_at order.place (meaning_of order.body answer) r o)
      place r found asked None at = tt
      place r found asked (Some o) at =
          move r.key (meaning_of order.body answer) (move_of r order.place o (meaning_of order.body answer)) (λ told is. keeps r o told found asked at is) (λ why is. closes r o why found asked at is)

      go : (o : Option RunRow) → find_row b.rows order.key ≡ o → Along (heard_changes order answer o)
      go None found = tt
      go (Some r) found = list_by_test (is_some r.asked) _ _ (λ asked. place r found asked (other_at r order.place) refl) (λ fails. tt)

  -- an archive that is due
  pub tried_along : (k : RunKey) (index : ℕ) (good : Bool) (retry : Option ℕ) →
      ((r : RunRow) (s : ArchiveState) (a : Archive) → find_row b.rows k ≡ Some r → state_at_index r index ≡ Some s → slice_get (archives_of b.tasks k) index ≡ Some a → is_due s m ≡ true → P b (Tried k index (state_after a.policy s m retry good))) →
      Along (try_archive b m k index good retry).list
  tried_along k index good retry due = go (find_row b.rows k) refl
    where
      at_row : (r : RunRow) → find_row b.rows k ≡ Some r → (o : Option ArchiveState) (p : Option Archive) → state_at_index r index ≡ o → slice_get (archives_of b.tasks k) index ≡ p → Along (try_at m k index good retry o p).list
      at_row r found (Some s) (Some a) e f = by_test (is_due s m) _ _ (λ is. (due r s a found e f is, tt)) (λ fails. tt)
      at_row r found (Some s) None e f = tt
      at_row r found None p e f = tt

      go : (o : Option RunRow) → find_row b.rows k ≡ o → Along (try_at m k index good retry (option_and_then (λ r. state_at_index r index) o) (slice_get (archives_of b.tasks k) index)).list
      go None found = tt
      go (Some r) found = at_row r found (state_at_index r index) (slice_get (archives_of b.tasks k) index) refl refl

  -- ---- an operator
  pub limits_along : (l : Limits) → (is_too_long l ≡ false → nat_le most_epochs (latest_epoch b) ≡ false → P b (LimitsSet l)) → Along (set_limits b l).list
  limits_along l has = by_test (is_latest b l) _ _ (λ is. tt) (λ new. by_test (is_too_long l) _ _ (λ long. tt) (λ short. by_test (nat_le most_epochs (latest_epoch b)) _ _ (λ full. tt) (λ room. (has short room, tt))))

  pub open_along : ((latest_epoch b == 0) ≡ true → P b (LimitsSet c.limits)) → GrantsRow P m (restart_run c) → Along (open_host c b m).list
  open_along first runs =
      let rest : Book = apply_all m (first_limits c.limits b) b in
      let ends : AllAlong P m rest (each_row (restart_run c) m rest) = rows_along P m (restart_run c) runs rest in
      by_test ((latest_epoch b == 0) && is_too_long c.limits) _ _ (λ long. tt)
      (λ fits. both_along P m (first_limits c.limits b) _ b (list_by_test (latest_epoch b == 0) _ _ (λ none. (first none, tt)) (λ some. tt)) (both_along P m (each_row (restart_run c) m rest) [] rest ends tt))
