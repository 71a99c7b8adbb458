-- The trees of answers have whole numbers alone.
use Rattle.std.proofs.Common.{◌==◌, ◌≡◌, ◌∷◌, Bool, IfSome, List, None, Option, Some, [], codes, false, if◌then◌else◌, map, negsuc, option_map, pos, refl, true, ℕ, ℤ}
use Rattle.std.specs.Ordering.{match_ordering, nat_cmp}
use Rattle.std.specs.Cmp.Lexicographic.{slice_cmp}
use Rattle.std.specs.declared.cmp.Ordering.{Ordering}
use Rattle.std.specs.declared.cmp.Ordering.TheVariants.{Less, Equal, Greater}
use Rattle.serde_json.specs.Data.{Data, Members, member, no_members, put}
use Rattle.serde_json.specs.Find.{is_float, of_integer}
use Rattle.serde_json.specs.View.{items_of}
use Rattle.serde_json.specs.Written.{has_float, items_have_float, members_have_float}
use Rattle.ps_json.specs.TreeText.{kept_tree}
use Rattle.ps_time.specs.Span.{Range}
use Rattle.ps_time.specs.declared.asker.Verdict.{Verdict}
use Rattle.ps_time.specs.declared.asker.Verdict.TheVariants.{Permitted, Stopped, Exhausted, AboveCeiling}
use Rattle.plugin_core.proofs.ShapeLemmas.{names_whole, test_whole}
use Rattle.plugin_core.specs.Kind.{kind_text, kinds_by_name}
use Rattle.plugin_core.specs.Participants.{participants}
use Rattle.plugin_core.specs.WriteTest.{names_data}
use Rattle.archive_retry.specs.Merge.{IsResult, IsTreeText}
use Rattle.archive_retry.specs.declared.state.ArchiveState.{ArchiveState}
use Rattle.run_states.specs.ResultBytes.{own_result}
use Rattle.run_states.specs.declared.answer.FreeAnswer.{FreeAnswer}
use Rattle.run_states.specs.declared.proposal.Proposal.{Proposal}
use Rattle.run_states.specs.declared.row.RunRow.{RunRow}
use Rattle.run_states.specs.declared.state.State.{State}
use Rattle.run_states.specs.declared.why.Denial.{Denial}
use Rattle.run_states.specs.declared.why.Denial.TheVariants as denial
use Rattle.task_spec.proofs.ShapeLemmas.{task_whole as posted_whole}
use Rattle.task_spec.specs.ReadArchive.{archivers_by_name}
use Rattle.task_spec.specs.WriteTask.{members_in, task_data}
use Rattle.host_model.specs.declared.config.Config.{Config}
use Rattle.host_model.specs.declared.reply.Reply.{Reply}
use Rattle.host_model.specs.declared.reply.Reply.TheVariants as reply
use Rattle.host_model.specs.declared.task_row.TaskRow.{TaskRow}
use Rattle.host_model.specs.declared.view.Line.{Line}
use Rattle.host_model.specs.declared.view.View.{View}
use Rattle.host_model.specs.declared.view.View.TheVariants as view
use Rattle.api_reply.specs.Denials.{denial_data, limits_data, proposal_data}
use Rattle.api_reply.specs.Bounds.{IsReplyShown, IsRunShown, IsTaskShown, IsViewShown}
use Rattle.api_reply.specs.Replies.{free_told, reply_data, window_data}
use Rattle.api_reply.specs.Shown.{moment_data, second_data}
use Rattle.api_reply.specs.Views.{archivings, detail_data, line_data, run_link, run_view, shown_result, some_moment, some_text, task_link, task_view, tools_of, view_data}

-- ---- lists, and members that are put
all_whole : {A : Type 0} (f : A → Data) → ((x : A) → has_float (f x) ≡ false) → (xs : List A) → items_have_float (items_of (map f xs)) ≡ false
all_whole f each [] = refl
all_whole f each (x ∷ xs) = rw (each x) (all_whole f each xs)

put_whole : (k : List ℕ) (d : Data) (ms : Members) → has_float d ≡ false → members_have_float ms ≡ false → members_have_float (put k d ms) ≡ false
put_whole k d no_members whole rest = rw whole refl
put_whole k d (member l e ms) whole rest = go (has_float e) (slice_cmp nat_cmp k l) refl (λ plain. put_whole k d ms whole plain) rest
  where
    go : (b : Bool) (o : Ordering) → has_float e ≡ b → (members_have_float ms ≡ false → members_have_float (put k d ms) ≡ false) → members_have_float (member l e ms) ≡ false
        → members_have_float (match_ordering o (member k d (member l e ms)) (member l d ms) (member l e (put k d ms))) ≡ false
    go true o is more rest = let wrong = rw is at rest in cc
    go false Less is more rest = rw whole rest
    go false Equal is more rest = rw whole (rw is at rest)
    go false Greater is more rest = rw is (more (rw is at rest))

-- ---- values
integer_whole : (z : ℤ) → is_float (of_integer z) ≡ false
integer_whole (pos n) = refl
integer_whole (negsuc n) = refl

moment_whole : (m : ℕ) → has_float (moment_data m) ≡ false
unfolding moment_data
moment_whole m = refl

second_whole : (m : ℕ) → has_float (second_data m) ≡ false
unfolding second_data
second_whole m = refl

window_whole : (w : Range) → has_float (window_data w) ≡ false
window_whole w = rw (second_whole w.first, second_whole w.last) refl

-- ---- denials
limits_whole : (v : Verdict) → has_float (limits_data v) ≡ false
limits_whole (Permitted i) = refl
limits_whole (Stopped i) = refl
limits_whole Exhausted = refl
limits_whole (AboveCeiling z) = rw (integer_whole z) refl

proposal_whole : (p : Proposal) → has_float (proposal_data p) ≡ false
proposal_whole p = rw (integer_whole p.priority, second_whole p.start, test_whole p.test) refl

denial_whole : (name : List ℕ) (d : Denial) → has_float (denial_data name d) ≡ false
denial_whole name (denial.Limits v) = limits_whole v
denial_whole name (denial.Past m start) = rw (second_whole m, second_whole start) refl
denial_whole name (denial.Conflict k) = refl
denial_whole name (denial.Full what count) = refl
denial_whole name (denial.Differs kept sent) = rw (proposal_whole kept, proposal_whole sent) refl
denial_whole name (denial.Closed s) = refl
denial_whole name denial.NotParticipant = refl
denial_whole name (denial.NoTool tool) = refl

-- ---- views
kept_whole : (text : Option (List ℕ)) → IfSome text IsTreeText → has_float (kept_tree text) ≡ false
kept_whole None is = refl
kept_whole (Some bs) is = rw is.reads is.whole

own_whole : (text : Option (List ℕ)) → IsResult text → has_float (kept_tree text) ≡ false
own_whole None is = refl
own_whole (Some bs) is = rw is.reads is.whole

some_moment_whole : (m : Option ℕ) → has_float (some_moment m) ≡ false
some_moment_whole None = refl
some_moment_whole (Some m) = moment_whole m

some_text_whole : (text : Option (List ℕ)) → has_float (some_text text) ≡ false
some_text_whole None = refl
some_text_whole (Some text) = refl

archivings_whole : (archivers : List (List ℕ)) (states : List ArchiveState) → items_have_float (items_of (archivings archivers states)) ≡ false
archivings_whole [] states = refl
archivings_whole (a ∷ archivers) [] = refl
archivings_whole (a ∷ archivers) (s ∷ states) = archivings_whole archivers states

result_whole : (self : ℕ) (r : RunRow) → IsRunShown r → has_float (kept_tree (shown_result self r)) ≡ false
result_whole self r is = go (r.key.lead == self)
  where
    go : (b : Bool) → has_float (kept_tree (if b then r.merged else own_result r)) ≡ false
    go true = kept_whole r.merged is.merged
    go false = own_whole (own_result r) is.own

run_whole : (self : ℕ) (r : RunRow) (archivers : List (List ℕ)) (s : State) → IsRunShown r → has_float (run_view self r archivers s) ≡ false
run_whole self r archivers s is =
    rw (archivings_whole archivers r.archives, some_moment_whole (option_map (λ i. i.end) r.interval), names_whole r.participants, integer_whole r.priority, result_whole self r is, some_moment_whole (option_map (λ i. i.start) r.interval), some_text_whole r.tool) refl

detail_whole : (t : TaskRow) → has_float (detail_data t) ≡ false
detail_whole t = rw (names_whole (participants t.task.test t.asker.server)) refl

task_whole : (t : TaskRow) → IsTaskShown t.task → has_float (task_view t) ≡ false
task_whole t is =
    put_whole (codes "tools") (names_data t.task.tools) (put (codes "detail") (detail_data t) (members_in (task_data t.task))) (names_whole t.task.tools)
    (put_whole (codes "detail") (detail_data t) (members_in (task_data t.task)) (detail_whole t) (posted_whole t.task is.rest))

line_whole : (l : Line) → has_float (line_data l) ≡ false
line_whole l = rw (moment_whole l.interval.end, integer_whole l.priority, moment_whole l.interval.start) refl

view_whole : (c : Config) (v : View) → IsViewShown v → has_float (view_data c v) ≡ false
view_whole c view.Home is = refl
view_whole c (view.Clock m) is = rw (moment_whole m) refl
view_whole c view.Tests is = names_whole (map kind_text kinds_by_name)
view_whole c view.Tools is = names_whole (tools_of c.installed)
view_whole c view.Archivers is = names_whole archivers_by_name
view_whole c (view.Test name class) is = refl
view_whole c (view.Tasks serials) is = all_whole (task_link c) (λ serial. refl) serials
view_whole c (view.Task t) is = task_whole t is
view_whole c (view.Runs keys) is = all_whole (run_link c) (λ k. refl) keys
view_whole c (view.Run r archivers s) is = run_whole c.number r archivers s is
view_whole c (view.Schedule lines) is = all_whole line_data line_whole lines

-- ---- replies
free_whole : (answer : FreeAnswer) → has_float (free_told answer) ≡ false
free_whole answer =
    rw (all_whole window_data window_whole answer.tiers.first, all_whole window_data window_whole answer.tiers.second, names_whole answer.tools) refl

pub reply_whole : (c : Config) (r : Reply) → IsReplyShown r → has_float (reply_data c r) ≡ false
reply_whole c (reply.Booked k preempted) is = refl
reply_whole c (reply.Posted serial) is = refl
reply_whole c (reply.UnknownHost name) is = refl
reply_whole c (reply.NotAdmitted v) is = limits_whole v
reply_whole c (reply.TasksFull count) is = refl
reply_whole c reply.Canceled is = refl
reply_whole c reply.NotPoster is = refl
reply_whole c reply.NotFound is = refl
reply_whole c reply.NotLead is = refl
reply_whole c (reply.View v) is = view_whole c v is
reply_whole c (reply.Free answer) is = free_whole answer
reply_whole c (reply.Accepted m) is = rw (second_whole m) refl
reply_whole c (reply.Denied d) is = denial_whole c.name d
reply_whole c (reply.Confirmed m) is = rw (second_whole m) refl
reply_whole c reply.Unknown is = refl
reply_whole c (reply.Closed why) is = refl
reply_whole c reply.Dropped is = refl
reply_whole c reply.MaterialHeard is = refl
reply_whole c reply.NotRunning is = refl
reply_whole c (reply.Result text) is = rw (own_whole (Some text) is) refl
reply_whole c (reply.State s) is = refl
reply_whole c reply.Heard is = refl
reply_whole c (reply.Archive s) is = refl
reply_whole c (reply.Changes n) is = refl
reply_whole c (reply.LimitsSet n) is = refl
reply_whole c (reply.LimitsWrong wrong) is = refl
