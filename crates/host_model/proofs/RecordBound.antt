-- The record of every step is at most 8,388,608 bytes long.
use Rattle.std.specs.Fmt.{digits}
use Rattle.std.specs.List.{list_all}
use Rattle.std.specs.Prelude.{◌&&◌, ◌||◌, bytes_eq, codes, option_and_then, sum_by, unwrap_or, ℤ}
use Rattle.std.proofs.Common.{◌*◌, ◌++◌, ◌+◌, ◌==◌, ◌∷◌, ◌≡◌, ◌≤◌, [], All, arith, Bool, cond, false, is_some, length, List, nat_le, nat_lt, None, not, Option, refl, slice_get, Some, subst, suc, true, zero, ℕ}
use Rattle.std.proofs.lemmas.Bool.Decides.{nat_tests}
use Rattle.std.proofs.lemmas.List.{length-map}
use Rattle.std.proofs.lemmas.List.Sums.{sum-map, sum_by-append, sum_by-cons}
use Rattle.json.specs.Print.{escape_byte}
use Rattle.serde_json.specs.Written.{compact_text}
use Rattle.ps_time.specs.Name.{is_name, is_name_byte, is_name_start}
use Rattle.ps_time.specs.Numbers.{greatest_length, greatest_moment, most_epochs, most_rows, most_tasks}
use Rattle.ps_time.specs.declared.asker.Verdict.{Verdict}
use Rattle.ps_time.specs.declared.asker.Verdict.TheVariants.{AboveCeiling, Exhausted, Permitted, Stopped}
use Rattle.ps_time.specs.declared.class.Class.{Class}
use Rattle.ps_time.specs.declared.class.Class.TheVariants.{Background, BackgroundMulti, Exclusive, Normal}
use Rattle.ps_time.specs.declared.key.RunKey.{RunKey}
use Rattle.ps_time.proofs.PictureLemmas.{and_true}
use Rattle.plugin_core.specs.Bounds.{IsTest}
use Rattle.plugin_core.specs.Participants.{HasParticipants, is_named, participants}
use Rattle.plugin_tool.specs.ResultText.{failed}
use Rattle.plugin_tool.specs.Tool.{tool_text}
use Rattle.plugin_core.specs.declared.test_spec.TestSpec.{TestSpec}
use Rattle.plugin_core.proofs.LengthLemmas.{test_short}
use Rattle.archive_retry.specs.Retry.{is_due, state_after}
use Rattle.archive_retry.specs.declared.state.ArchiveState.{ArchiveState}
use Rattle.limit_apply.specs.Limits.{admits_of, ceiling_of, LimitsConfig as Limits}
use Rattle.limit_apply.specs.Read.{IsKept}
use Rattle.run_states.specs.Life.{is_active, is_booked}
use Rattle.run_states.specs.Rows.{find_row}
use Rattle.run_states.specs.TaskRows.{greatest_number}
use Rattle.run_states.specs.declared.answer.Answer.{Answer}
use Rattle.run_states.specs.declared.answer.Answer.TheVariants as told
use Rattle.run_states.specs.declared.answer.Other.{Other}
use Rattle.run_states.specs.declared.proposal.Proposal.{Proposal}
use Rattle.run_states.specs.declared.proposal.Question.{Question}
use Rattle.run_states.specs.declared.row.RunRow.{RunRow}
use Rattle.run_states.specs.declared.why.Closing.{Closing}
use Rattle.run_states.specs.declared.why.Denial.{Denial}
use Rattle.run_states.specs.declared.why.Denial.TheVariants.{Closed as closed_there, Conflict, Differs, Full, Limits as LimitsDenial, NoTool, NotParticipant, Past}
use Rattle.run_states.specs.declared.why.What.TheVariants.{Numbers}
use Rattle.run_states.specs.declared.why.Why.{Why}
use Rattle.run_states.specs.declared.why.Why.TheVariants.{Canceled}
use Rattle.task_spec.specs.Bounds.{IsTask}
use Rattle.task_spec.specs.declared.task.Archive.{Archive}
use Rattle.task_spec.specs.declared.task.Task.{Task}
use Rattle.task_spec.proofs.LengthLemmas.{task_short}
use Rattle.host_model.specs.Apply.{apply, apply_all, settled}
use Rattle.host_model.specs.Archives.{state_at_index, tried_to, try_archive, try_at}
use Rattle.host_model.specs.Book.{Book, find_task, keys_of_rows, latest_epoch, limits_in, moment_at}
use Rattle.host_model.specs.Booking.{book_run, booked_as, booking, booking_outcome, booking_tool, last_booking}
use Rattle.host_model.specs.Collect.{collect, hear_material, heard_material, material_at, result_reply}
use Rattle.host_model.specs.Conditions.{IsConfig, IsInput, MayStep}
use Rattle.host_model.specs.Confirm.{confirm, confirm_changes, confirm_reply, drop_changes, drop_run, part_reply}
use Rattle.host_model.specs.Effect.{archives_of}
use Rattle.host_model.specs.Ending.{restart_run}
use Rattle.host_model.specs.Epochs.{is_latest, is_too_long, open_host, refused, set_limits}
use Rattle.host_model.specs.Fits.{denial_of, place_of}
use Rattle.host_model.specs.FreeStarts.{free, free_answer, free_here}
use Rattle.host_model.specs.Heard.{changes_of_move, close_if, denies_question, fact_of, hear, heard_at, heard_changes, meaning_of, move_of, other_at}
use Rattle.host_model.specs.InputLength.{denial_texts, heard_texts, input_texts, most_input_texts, most_step_bytes}
use Rattle.host_model.specs.Lawful.{Lawful}
use Rattle.host_model.specs.Post.{cancel, cancel_changes, cancel_run, cancel_task, clipped, if_admitted, if_known, post, posted, posted_row, poster, unknown_host, unless_full}
use Rattle.host_model.specs.Propose.{answered, decide, decided_outcome, for_lead, lead_name, propose}
use Rattle.host_model.specs.RecordLength.{answer_bytes, asker_bytes, change_bytes, denial_bytes, list_bytes, moment_bytes, option_bytes, record_bytes, state_bytes, test_bytes, text_bytes, verdict_bytes, why_bytes}
use Rattle.host_model.specs.Step.{outcome_of, step_changes}
use Rattle.host_model.specs.Turn.{changed}
use Rattle.host_model.specs.Views.{shown, view_of}
use Rattle.host_model.specs.Walk.{each, each_row, in_turn, then_change}
use Rattle.host_model.specs.declared.change.Change.{Change}
use Rattle.host_model.specs.declared.change.Change.TheVariants.{Accepted, Closed, Confirmed, LimitsSet, MaterialHeard as material_change, Posted, TaskClosed, Tried}
use Rattle.host_model.specs.declared.config.Config.{Config}
use Rattle.host_model.specs.declared.input.Input.{Input}
use Rattle.host_model.specs.declared.input.Input.TheVariants as input
use Rattle.host_model.specs.declared.lead.LeadMove.{LeadMove}
use Rattle.host_model.specs.declared.lead.LeadMove.TheVariants.{Close, Keep, KeepAndConfirm, Nothing}
use Rattle.host_model.specs.declared.lead.Meaning.{Meaning}
use Rattle.host_model.specs.declared.lead.Meaning.TheVariants as meaning
use Rattle.host_model.specs.declared.order.Order.{Order}
use Rattle.host_model.specs.declared.order.OrderBody.{OrderBody}
use Rattle.host_model.specs.declared.order.OrderBody.TheVariants.{Cancel, Confirm, Free as free_order, Material, Propose, Result as result_order}
use Rattle.host_model.specs.declared.order.PeerAnswer.{PeerAnswer}
use Rattle.host_model.specs.declared.order.PeerAnswer.TheVariants as heard
use Rattle.host_model.specs.declared.part.Decision.{Decision}
use Rattle.host_model.specs.declared.part.Decision.TheVariants.{Denied as denied_decision, Known, New}
use Rattle.host_model.specs.declared.part.PartReply.TheVariants.{Dropped as dropped_here}
use Rattle.host_model.specs.declared.reply.LimitsWrong.TheVariants.{Bytes, Epochs}
use Rattle.host_model.specs.declared.reply.Outcome.{Outcome}
use Rattle.host_model.specs.declared.reply.Reply.TheVariants.{Archive as archive_reply, Canceled as Canceled_reply, Denied, Free, LimitsSet as LimitsSet_reply, MaterialHeard, NotPoster, NotRunning, TasksFull}
use Rattle.host_model.specs.declared.task_row.TaskRow.{TaskRow}
use Rattle.host_model.specs.declared.view.View.{View}
use Rattle.host_model.proofs.AcceptBrings.{has_participants, lead_named}
use Rattle.host_model.proofs.BookBrings.{booked_test, posted_task}
use Rattle.host_model.proofs.RowFacts.{lawful_at}
use Rattle.host_model.proofs.SettledBook.{book_settled}
use Rattle.host_model.proofs.StepBrings.{closes_why}
use Rattle.host_model.proofs.StepCan.{told_keeps}
use Rattle.host_model.proofs.TurnLemmas.{turn_bytes}
use Rattle.host_model.proofs.Wishes.{cancel_granted, restart_granted}

-- ---- sums
abbrev total : List Change → ℕ
total cs = sum_by change_bytes cs

pub record_total : (cs : List Change) → record_bytes cs ≡ 12 + total cs
record_total cs = omega (arith, sum-map change_bytes cs)

total_cons : (c : Change) (cs : List Change) → total (c ∷ cs) ≡ change_bytes c + total cs
total_cons c cs = sum_by-cons change_bytes c cs

one : (c : Change) → total (c ∷ []) ≡ change_bytes c
one c = omega (arith, total_cons c [])

-- at most so many bytes for each of these
each_short : {K : Type 0} (most : ℕ) (wish : Book → K → Option Change) → ((b : Book) (k : K) (c : Change) → wish b k ≡ Some c → change_bytes c ≤ most) → (m : ℕ) (ks : List K) (b : Book) → total (each wish m ks b) ≤ length ks * most
each_short most wish short m [] b = omega arith
each_short {K} most wish short m (k ∷ ks) b = go (wish b k) refl (each_short most wish short m ks)
  where
    go : (o : Option Change) → wish b k ≡ o → ((a : Book) → total (each wish m ks a) ≤ length ks * most) → total (then_change m b o (each wish m ks)) ≤ length (k ∷ ks) * most
    go None e rest = omega (arith, rest b)
    go (Some c) e rest = omega (arith, rest (apply m c b), short b k c e, total_cons c (each wish m ks (apply m c b)))

-- ---- names
name_short : (bs : List ℕ) → is_name bs ≡ true → length bs ≤ 63
name_short [] named = cc
name_short (x ∷ xs) named =
    let start = and_true (is_name_start x) _ named in
    let few = (and_true (nat_le (length xs) 62) (list_all is_name_byte xs) start.1).0 in
    let low : length xs ≤ 62 = grind (arith, nat_tests, few) in
    omega (arith, low)

names_short : (names : List (List ℕ)) → list_all is_name names ≡ true → sum_by text_bytes names ≤ length names * 67
names_short [] named = omega arith
names_short (n ∷ ns) named =
    let both = and_true (is_name n) (list_all is_name ns) named in
    omega (arith, sum_by-cons text_bytes n ns, name_short n both.0, names_short ns both.1)

hosts_short : (names : List (List ℕ)) → HasParticipants names → list_bytes text_bytes names ≤ 540
hosts_short names has = omega (arith, sum-map text_bytes names, names_short names has.named, has.few)

test_bytes_short : (test : TestSpec) → IsTest test → test_bytes test ≤ 65_540
test_bytes_short test is = omega (arith, test_short test is)

-- ---- limits
limits_one : (l : Limits) → is_too_long l ≡ false → change_bytes (LimitsSet l) ≤ 1_048_581
limits_one l fits = let low : length l.text ≤ 1_048_576 = grind (arith, nat_tests, fits) in omega (arith, low)

-- ---- a booking, and a proposal
-- what an acceptance takes, with who asks and the tool of its input
accepted_short : (p : Proposal) (hosts : List (List ℕ)) (epoch : ℕ) → IsTest p.test → HasParticipants hosts → change_bytes (Accepted p hosts epoch) ≤ 66_200 + text_bytes p.tool + asker_bytes p.asker
accepted_short p hosts epoch is has = omega (arith, test_bytes_short p.test is, hosts_short hosts has)

tool_short : (class : Class) → length (tool_text (booking_tool class)) ≤ 63
tool_short BackgroundMulti = omega arith
tool_short Background = omega arith
tool_short Normal = omega arith
tool_short Exclusive = omega arith

abbrev Short : ℕ → Outcome → Type 0
Short most o = total o.list ≤ most

none_short : (most : ℕ) → total [] ≤ most
none_short most = omega arith

module _ (c : Config) (m : ℕ) (b : Book) (epochs : All IsKept b.epochs) where
  -- a booking
  book_short : IsConfig c → (class : Class) (priority : ℤ) (start len : ℕ) → 1 ≤ len → len ≤ greatest_length → Short 67_000 (book_run c b m class priority start len)
  book_short config class priority start len some low = go (greatest_number c.number 0 b.rows == last_booking)
    where
      p : Proposal
      p = booking c (greatest_number c.number 0 b.rows + 1) class priority start len

      is : IsTest p.test
      is = booked_test c.name class len config.name some low

      fits : (o : Option Denial) → Short 67_000 (booking_outcome c b p o)
      fits (Some denial) = none_short 67_000
      fits None =
          omega (
            arith,
            total_cons (Accepted p (participants p.test c.name) (latest_epoch b)) (Confirmed p.key ∷ []),
            one (Confirmed p.key),
            accepted_short p (participants p.test c.name) (latest_epoch b) is (has_participants p.test c.name is config.name),
            tool_short class,
            name_short c.name config.name,
          )

      go : (t : Bool) → Short 67_000 (cond t (answered (Denied (Full Numbers (greatest_number c.number 0 b.rows)))) (booked_as c b m p))
      go true = none_short 67_000
      go false = fits (denial_of (place_of c b c.name) b.rows m p)

  -- a proposal
  propose_short : (sender : ℕ) (p : Proposal) → IsConfig c → IsTest p.test → Short (66_300 + text_bytes p.tool + asker_bytes p.asker) (propose c b m sender p)
  propose_short sender p config is = go (lead_name c sender p.key) refl
    where
      most : ℕ
      most = 66_300 + text_bytes p.tool + asker_bytes p.asker

      decided : (lead : List ℕ) → is_name lead ≡ true → (d : Decision) → Short most (decided_outcome b m lead p d)
      decided lead named New =
          let accepted : Change = Accepted p (participants p.test lead) (latest_epoch b) in
          omega (arith, one accepted, accepted_short p (participants p.test lead) (latest_epoch b) is (has_participants p.test lead is named))
      decided lead named (Known accepted) = none_short most
      decided lead named (denied_decision denial) = none_short most

      go : (o : Option (List ℕ)) → lead_name c sender p.key ≡ o → Short most (for_lead o (λ lead. decided_outcome b m lead p (decide (place_of c b lead) b.rows m p)))
      go None at = none_short most
      go (Some lead) at = decided lead (lead_named c sender p.key lead config at) (decide (place_of c b lead) b.rows m p)

  -- ---- clients
  post_one : (task : Task) (requester : List ℕ) → IsConfig c → IsTask c.name task → change_bytes (Posted (posted_row c b m task (poster c requester))) ≤ 164_000 + text_bytes requester
  post_one task requester config is =
      let ceiling : ℤ = ceiling_of (limits_in c b) (poster c requester) in
      omega (arith, task_short c.name (record task { priority = clipped ceiling task.priority }) (posted_task c b task requester config epochs is), name_short c.name config.name)

  post_short : (task : Task) (requester : List ℕ) → IsConfig c → IsTask c.name task → Short (164_000 + text_bytes requester) (post c b m task requester)
  post_short task requester config is = known (unknown_host c task.test)
    where
      most : ℕ
      most = 164_000 + text_bytes requester

      room : (t : Bool) → Short most (cond t (posted (posted_row c b m task (poster c requester))) (answered (TasksFull most_tasks)))
      room true = omega (arith, one (Posted (posted_row c b m task (poster c requester))), post_one task requester config is)
      room false = none_short most

      admitted : (v : Verdict) → Short most (if_admitted v (unless_full c b m task (poster c requester)))
      admitted (Permitted index) = room (nat_lt (length b.tasks) most_tasks)
      admitted (Stopped index) = none_short most
      admitted Exhausted = none_short most
      admitted (AboveCeiling ceiling) = none_short most

      known : (o : Option (List ℕ)) → Short most (if_known o (if_admitted (admits_of (limits_in c b) (poster c requester) task.test) (unless_full c b m task (poster c requester))))
      known (Some name) = none_short most
      known None = admitted (admits_of (limits_in c b) (poster c requester) task.test)

  -- ---- a participant
  confirm_short : (sender : ℕ) (k : RunKey) → Short 13 (confirm c b m sender k)
  confirm_short sender k = go (lead_name c sender k)
    where
      row : (r : RunRow) (t : Bool) → total (cond t [] (Confirmed r.key ∷ [])) ≤ 13
      row r true = none_short 13
      row r false = omega (arith, one (Confirmed r.key))

      found : (o : Option RunRow) → total (confirm_changes o) ≤ 13
      found None = none_short 13
      found (Some r) = row r (is_some r.closed || is_some r.confirmed)

      go : (o : Option (List ℕ)) → Short 13 (for_lead o (λ lead. record { reply = part_reply (confirm_reply m (find_row b.rows k)); list = confirm_changes (find_row b.rows k) }))
      go None = none_short 13
      go (Some lead) = found (find_row b.rows k)

  drop_short : (sender : ℕ) (k : RunKey) → Short 14 (drop_run c b sender k)
  drop_short sender k = go (lead_name c sender k)
    where
      row : (r : RunRow) (t : Bool) → total (cond t (Closed r.key Canceled ∷ []) []) ≤ 14
      row r true = omega (arith, one (Closed r.key Canceled))
      row r false = none_short 14

      found : (o : Option RunRow) → total (drop_changes o) ≤ 14
      found None = none_short 14
      found (Some r) = row r (is_booked r && not (is_some r.started))

      go : (o : Option (List ℕ)) → Short 14 (for_lead o (λ lead. record { reply = part_reply dropped_here; list = drop_changes (find_row b.rows k) }))
      go None = none_short 14
      go (Some lead) = found (find_row b.rows k)

  material_short : (sender : ℕ) (k : RunKey) → Short 13 (hear_material c b sender k)
  material_short sender k = go (lead_name c sender k)
    where
      new : (r : RunRow) (t : Bool) → Short 13 (cond t (answered MaterialHeard) (record { reply = MaterialHeard; list = material_change r.key ∷ [] }))
      new r true = none_short 13
      new r false = omega (arith, one (material_change r.key))

      active : (r : RunRow) (t : Bool) → Short 13 (cond t (answered NotRunning) (cond (is_some r.material) (answered MaterialHeard) (record { reply = MaterialHeard; list = material_change r.key ∷ [] })))
      active r true = none_short 13
      active r false = new r (is_some r.material)

      row : (r : RunRow) (o : Option Closing) → Short 13 (heard_material r o)
      row r (Some c) = none_short 13
      row r None = active r (not (is_active r))

      found : (o : Option RunRow) → Short 13 (material_at o)
      found None = none_short 13
      found (Some r) = row r r.closed

      go : (o : Option (List ℕ)) → Short 13 (for_lead o (λ lead. material_at (find_row b.rows k)))
      go None = none_short 13
      go (Some lead) = found (find_row b.rows k)

  -- what only answers
  free_short : (sender : ℕ) (q : Question) → Short 0 (free c b m sender q)
  free_short sender q = go (lead_name c sender q.key)
    where
      here : (lead : List ℕ) (t : Bool) → Short 0 (cond t (answered (Free (free_answer c.installed b.rows m q))) (answered (Denied NotParticipant)))
      here lead true = none_short 0
      here lead false = none_short 0

      go : (o : Option (List ℕ)) → Short 0 (for_lead o (free_here c b m q))
      go None = none_short 0
      go (Some lead) = here lead (is_named c.name (participants q.test lead))

  collect_short : (sender : ℕ) (k : RunKey) → Short 0 (collect c b m sender k)
  collect_short sender k = go (lead_name c sender k)
    where
      go : (o : Option (List ℕ)) → Short 0 (for_lead o (λ lead. answered (result_reply m (find_row b.rows k))))
      go None = none_short 0
      go (Some lead) = none_short 0

  view_short : (o : Option View) → Short 0 (shown o)
  view_short None = none_short 0
  view_short (Some v) = none_short 0

  -- ---- archives and limits
  tried_short : (k : RunKey) (index : ℕ) (good : Bool) (retry : Option ℕ) → Short 28 (try_archive b m k index good retry)
  tried_short k index good retry = go (option_and_then (λ r. state_at_index r index) (find_row b.rows k)) (slice_get (archives_of b.tasks k) index)
    where
      state_short : (s : ArchiveState) → state_bytes s ≤ 14
      state_short s = next s.next
        where
          next : (o : Option ℕ) → 4 + option_bytes (λ n. moment_bytes) o + 1 ≤ 14
          next None = omega arith
          next (Some n) = omega arith

      due_now : (s : ArchiveState) (a : Archive) (t : Bool) → Short 28 (cond t (tried_to k index (state_after a.policy s m retry good)) (answered (archive_reply s)))
      due_now s a true = omega (arith, one (Tried k index (state_after a.policy s m retry good)), state_short (state_after a.policy s m retry good))
      due_now s a false = none_short 28

      go : (o : Option ArchiveState) (p : Option Archive) → Short 28 (try_at m k index good retry o p)
      go (Some s) (Some a) = due_now s a (is_due s m)
      go (Some s) None = none_short 28
      go None p = none_short 28

  limits_short : (l : Limits) → Short 1_048_581 (set_limits b l)
  limits_short l = go (is_latest b l) (is_too_long l) (nat_le most_epochs (latest_epoch b)) refl
    where
      go : (s t u : Bool) → is_too_long l ≡ t → Short 1_048_581 (cond s (answered (LimitsSet_reply (latest_epoch b))) (cond t (refused (Bytes (length l.text))) (cond u (refused (Epochs (latest_epoch b))) (record { reply = LimitsSet_reply (latest_epoch b + 1); list = LimitsSet l ∷ [] }))))
      go true t u e = none_short 1_048_581
      go false true u e = none_short 1_048_581
      go false false true e = none_short 1_048_581
      go false false false e = omega (arith, one (LimitsSet l), limits_one l e)

-- ---- what is heard
-- the bytes of what an answer means
abbrev meaning_texts : Meaning → ℕ
meaning_texts (meaning.Told (told.Free free)) = answer_bytes free
meaning_texts (meaning.Told (told.Result result)) = option_bytes text_bytes result
meaning_texts (meaning.Denied denial) = denial_texts denial
meaning_texts said = 0

question_texts : (t : Bool) (denial : Denial) → meaning_texts (cond t (meaning.Denied denial) meaning.Nothing) ≤ denial_texts denial
question_texts true denial = omega arith
question_texts false denial = omega arith

meant_texts : (body : OrderBody) (said : PeerAnswer) → meaning_texts (meaning_of body said) ≤ 1 + heard_texts said
meant_texts (free_order q) (heard.Free free) = omega arith
meant_texts (free_order q) (heard.Denied denial) = omega (arith, question_texts (denies_question denial) denial)
meant_texts (Propose p) (heard.Accepted n) = omega arith
meant_texts (Propose p) (heard.Denied denial) = omega arith
meant_texts Confirm (heard.Confirmed n) = omega arith
meant_texts Confirm heard.Unknown = omega arith
meant_texts Confirm (heard.Denied (closed_there state)) = omega arith
meant_texts Cancel heard.Dropped = omega arith
meant_texts (Material text) heard.MaterialHeard = omega arith
meant_texts result_order (heard.Result text) = omega arith
meant_texts result_order (heard.Denied (closed_there state)) = omega arith
meant_texts body said = omega arith

denial_short : (denial : Denial) → denial_bytes denial ≤ 50 + denial_texts denial
denial_short (LimitsDenial verdict) = omega (arith, verdict_short verdict)
  where
    verdict_short : (v : Verdict) → verdict_bytes v ≤ 5
    verdict_short (Permitted index) = omega arith
    verdict_short (Stopped index) = omega arith
    verdict_short Exhausted = omega arith
    verdict_short (AboveCeiling ceiling) = omega arith
denial_short (Past m start) = omega arith
denial_short (Conflict k) = omega arith
denial_short (Full what count) = omega arith
denial_short (Differs kept sent) = omega arith
denial_short (closed_there state) = omega arith
denial_short NotParticipant = omega arith
denial_short (NoTool tool) = omega arith

-- the name of a participant, or none
named_short : (names : List (List ℕ)) (place : ℕ) → list_all is_name names ≡ true → length (unwrap_or (slice_get names place) []) ≤ 63
named_short [] place named = omega arith
named_short (n ∷ ns) zero named = name_short n (and_true (is_name n) (list_all is_name ns) named).0
named_short (n ∷ ns) (suc place) named = named_short ns place (and_true (is_name n) (list_all is_name ns) named).1

closes_short : (t : Bool) (why is : Why) (most : ℕ) → why_bytes is ≤ most → close_if t is ≡ Close why → why_bytes why ≤ most
closes_short true why is most low e = subst (λ w. why_bytes w ≤ most) (closes_why true why is e) low
closes_short false why is most low e = cc

why_short : (r : RunRow) (place : ℕ) (o : Other) (said : Meaning) (why : Why) → list_all is_name r.participants ≡ true → move_of r place o said ≡ Close why → why_bytes why ≤ 120 + meaning_texts said
why_short r place o (meaning.Told fact) why named e = absurd (told_keeps r place o fact why e)
why_short r place o (meaning.Denied denial) why named e = closes_short _ why _ _ (omega (arith, denial_short denial, named_short r.participants place named)) e
why_short r place o meaning.Lost why named e = closes_short _ why _ _ (omega arith) e
why_short r place o meaning.Nothing why named e = cc

module _ (b : Book) (order : Order) (said : PeerAnswer) where
  fact_short : (k : RunKey) (place : ℕ) (fact : Answer) → total (fact_of k place fact ∷ []) ≤ 20 + meaning_texts (meaning.Told fact)
  fact_short k place (told.Free free) = omega (arith, one (fact_of k place (told.Free free)))
  fact_short k place told.Accepted = omega (arith, one (fact_of k place told.Accepted))
  fact_short k place (told.Acknowledged what) = omega (arith, one (fact_of k place (told.Acknowledged what)))
  fact_short k place (told.Result result) = omega (arith, one (fact_of k place (told.Result result)))

  close_short : (k : RunKey) (m : Meaning) (why : Why) → why_bytes why ≤ 120 + meaning_texts m → total (Closed k why ∷ []) ≤ 140 + meaning_texts m
  close_short k m why low = omega (arith, one (Closed k why), low)

  move_short : (k : RunKey) (m : Meaning) (v : LeadMove) → ((why : Why) → v ≡ Close why → why_bytes why ≤ 120 + meaning_texts m) → total (changes_of_move k order.place m v) ≤ 140 + meaning_texts m
  move_short k (meaning.Told fact) Keep low = omega (arith, fact_short k order.place fact)
  move_short k (meaning.Told fact) KeepAndConfirm low = omega (arith, fact_short k order.place fact)
  move_short k (meaning.Told fact) (Close why) low = close_short k (meaning.Told fact) why (low why refl)
  move_short k (meaning.Told fact) Nothing low = omega arith
  move_short k (meaning.Denied denial) (Close why) low = close_short k (meaning.Denied denial) why (low why refl)
  move_short k (meaning.Denied denial) v low = omega arith
  move_short k meaning.Lost (Close why) low = close_short k meaning.Lost why (low why refl)
  move_short k meaning.Lost v low = omega arith
  move_short k meaning.Nothing (Close why) low = close_short k meaning.Nothing why (low why refl)
  move_short k meaning.Nothing v low = omega arith

  hear_short : ((r : RunRow) → find_row b.rows order.key ≡ Some r → list_all is_name r.participants ≡ true) → total (hear b order said).list ≤ 141 + heard_texts said
  hear_short named = go (find_row b.rows order.key) refl
    where
      at_place : (r : RunRow) → list_all is_name r.participants ≡ true → (o : Option Other) → total (heard_at order.place (meaning_of order.body said) r o) ≤ 141 + heard_texts said
      at_place r is None = omega arith
      at_place r is (Some o) =
          omega (arith, meant_texts order.body said, move_short r.key (meaning_of order.body said) (move_of r order.place o (meaning_of order.body said)) (λ why e. why_short r order.place o (meaning_of order.body said) why is e))

      asked : (r : RunRow) → list_all is_name r.participants ≡ true → (t : Bool) → total (cond t (heard_at order.place (meaning_of order.body said) r (other_at r order.place)) []) ≤ 141 + heard_texts said
      asked r is true = at_place r is (other_at r order.place)
      asked r is false = omega arith

      go : (o : Option RunRow) → find_row b.rows order.key ≡ o → total (heard_changes order said o) ≤ 141 + heard_texts said
      go None at = omega arith
      go (Some r) at = asked r (named r at) (is_some r.asked)

-- ---- many changes: a canceled task, and an opening
both_totals : (cs ds : List Change) → total (cs ++ ds) ≡ total cs + total ds
both_totals cs ds = sum_by-append change_bytes cs ds

-- of a wish for each row
rows_short : (most : ℕ) (wish : Book → RunRow → Option Change) → ((b : Book) (r : RunRow) (c : Change) → wish b r ≡ Some c → change_bytes c ≤ most) → (m : ℕ) (b : Book) → total (each_row wish m b) ≤ length b.rows * most
rows_short most wish short m b =
    subst (λ n. total (each_row wish m b) ≤ n * most) (length-map b.rows (λ (r : RunRow). r.key))
    (each_short most (λ b k. option_and_then (wish b) (find_row b.rows k)) (λ a k c e. found a (find_row a.rows k) c e) m (keys_of_rows b.rows) b)
  where
    found : (a : Book) (o : Option RunRow) (c : Change) → option_and_then (wish a) o ≡ Some c → change_bytes c ≤ most
    found a None c e = cc
    found a (Some r) c e = short a r c e

canceled_short : (self serial : ℕ) (b : Book) (r : RunRow) (c : Change) → cancel_run self serial b r ≡ Some c → change_bytes c ≤ 14
canceled_short self serial b r c e = let g = cancel_granted self serial b r c e in subst (λ x. change_bytes x ≤ 14) g.2 (omega arith)

restart_text : length (compact_text (failed (codes "host restarted"))) ≡ 55
unfolding escape_byte digits
restart_text = refl

restarted_short : (config : Config) (b : Book) (r : RunRow) (c : Change) → restart_run config b r ≡ Some c → change_bytes c ≤ 120
restarted_short config b r c e =
    let g = restart_granted config b r c e in
    subst (λ x. change_bytes x ≤ 120) g.1 (omega (arith, restart_text))

module _ (c : Config) (m : ℕ) (b : Book) (few : length b.rows ≤ most_rows) where
  cancel_short : (serial : ℕ) (requester : List ℕ) → total (cancel c b m serial requester).list ≤ 700_005
  cancel_short serial requester = go (find_task b.tasks serial)
    where
      runs : (t : TaskRow) (o : Option ℕ) → total (in_turn m ((λ b. cond (is_some o) [] (TaskClosed t.serial ∷ [])) ∷ each_row (cancel_run c.number t.serial) m ∷ []) b) ≤ 700_005
      runs t (Some n) = omega (arith, both_totals (each_row (cancel_run c.number t.serial) m b) [], rows_short 14 (cancel_run c.number t.serial) (canceled_short c.number t.serial) m b, few)
      runs t None =
          let after : Book = apply m (TaskClosed t.serial) b in
          let same : length after.rows ≡ length b.rows = length-map b.rows _ in
          omega (
            arith,
            both_totals (TaskClosed t.serial ∷ []) (each_row (cancel_run c.number t.serial) m after ++ []),
            one (TaskClosed t.serial),
            both_totals (each_row (cancel_run c.number t.serial) m after) [],
            rows_short 14 (cancel_run c.number t.serial) (canceled_short c.number t.serial) m after,
            same,
            few,
          )

      own : (t : TaskRow) (u : Bool) → total (cond u (record { reply = Canceled_reply; list = cancel_changes c.number b m t }) (answered NotPoster)).list ≤ 700_005
      own t true = runs t t.closed
      own t false = omega arith

      go : (o : Option TaskRow) → total (cancel_task c b m requester o).list ≤ 700_005
      go None = omega arith
      go (Some t) = own t (bytes_eq t.asker.requester requester)

  open_short : total (open_host c b m).list ≤ 7_048_581
  open_short = go (latest_epoch b == 0) (is_too_long c.limits) refl
    where
      ends : (a : Book) → length a.rows ≤ most_rows → total (each_row (restart_run c) m a ++ []) ≤ 6_000_000
      ends a low = omega (arith, both_totals (each_row (restart_run c) m a) [], rows_short 120 (restart_run c) (restarted_short c) m a, low)

      first : List Change
      first = LimitsSet c.limits ∷ []

      same : length (apply m (LimitsSet c.limits) b).rows ≡ length b.rows
      same = length-map b.rows _

      go : (t u : Bool) → is_too_long c.limits ≡ u →
          total (cond (t && u) (refused (Bytes (length c.limits.text))) (changed (cond t first [] ++ (each_row (restart_run c) m (apply_all m (cond t first []) b) ++ [])))).list ≤ 7_048_581
      go true true e = omega arith
      go true false e =
          omega (
            arith,
            both_totals first (each_row (restart_run c) m (apply m (LimitsSet c.limits) b) ++ []),
            one (LimitsSet c.limits),
            limits_one c.limits e,
            ends (apply m (LimitsSet c.limits) b) (omega (arith, same, few)),
          )
      go false u e = omega (arith, ends b few)

-- ---- every step
-- of a book that is settled at m
input_short : (c : Config) (m : ℕ) (b : Book) (i : Input) → Lawful c.number b → IsConfig c → IsInput c i → input_texts i ≤ most_input_texts → record_bytes (outcome_of c m b i).list ≤ most_step_bytes
input_short c m b (input.Book class priority start len) lawful config is short = omega (arith, record_total (book_run c b m class priority start len).list, book_short c m b lawful.epochs config class priority start len is.1 is.2)
input_short c m b (input.Post task requester) lawful config is short = omega (arith, record_total (post c b m task requester).list, post_short c m b lawful.epochs task requester config is, short)
input_short c m b (input.Cancel serial requester) lawful config is short = omega (arith, record_total (cancel c b m serial requester).list, cancel_short c m b lawful.few_rows serial requester)
input_short c m b (input.View page) lawful config is short = omega (arith, record_total (shown (view_of c b m page)).list, view_short c m b lawful.epochs (view_of c b m page))
input_short c m b (input.Free sender question) lawful config is short = omega (arith, record_total (free c b m sender question).list, free_short c m b lawful.epochs sender question)
input_short c m b (input.Propose sender proposal) lawful config is short = omega (arith, record_total (propose c b m sender proposal).list, propose_short c m b lawful.epochs sender proposal config is.0, short)
input_short c m b (input.Confirm sender key) lawful config is short = omega (arith, record_total (confirm c b m sender key).list, confirm_short c m b lawful.epochs sender key)
input_short c m b (input.Drop sender key) lawful config is short = omega (arith, record_total (drop_run c b sender key).list, drop_short c m b lawful.epochs sender key)
input_short c m b (input.Collect sender key) lawful config is short = omega (arith, record_total (collect c b m sender key).list, collect_short c m b lawful.epochs sender key)
input_short c m b (input.Material sender key text) lawful config is short = omega (arith, record_total (hear_material c b sender key).list, material_short c m b lawful.epochs sender key)
input_short c m b (input.Heard order said) lawful config is short =
    omega (arith, record_total (hear b order said).list, hear_short b order said (λ r at. (lawful_at c.number b lawful order.key r at).row.participants.named), short)
input_short c m b (input.Tried key index good retry) lawful config is short = omega (arith, record_total (try_archive b m key index good retry).list, tried_short c m b lawful.epochs key index good retry)
input_short c m b input.Turn lawful config is short = omega (arith, turn_bytes c m b)
input_short c m b input.Open lawful config is short = omega (arith, record_total (open_host c b m).list, open_short c m b lawful.few_rows)
input_short c m b (input.Limits limits) lawful config is short = omega (arith, record_total (set_limits b limits).list, limits_short c m b lawful.epochs limits)

-- the record of a step whose input isn't too long
pub step_short : (c : Config) (b : Book) (clock : ℕ) (i : Input) → MayStep c b clock i → input_texts i ≤ most_input_texts → record_bytes (step_changes c b clock i).list ≤ most_step_bytes
step_short c b clock i may short =
    let m : ℕ = moment_at b clock in
    let later : b.moment ≤ m = omega arith in
    let within : m ≤ greatest_moment = omega (arith, may.book.moment, may.moment) in
    input_short c m (settled m b) i (book_settled c.number b m later within may.book) may.config may.bounds short
