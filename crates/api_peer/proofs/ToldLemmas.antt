-- What is told with status 200 is read again.
use Rattle.std.proofs.Common.{◌&&◌, ◌≡◌, ◌≤◌, ◌∷◌, All, List, Ok, Some, [], arith, codes, false, length, map, min, nat_le, refl, true, ℕ}
use Rattle.std.proofs.lemmas.Bool.Decides.{nat_tests}
use Rattle.std.proofs.lemmas.List.{length-map}
use Rattle.serde_json.specs.Data.{Data, Members, depth, member, no_members, object, string}
use Rattle.serde_json.specs.Written.{compact_text, has_float}
use Rattle.ps_json.proofs.EachLemmas.{read_each-back}
use Rattle.ps_json.proofs.TreeLemmas.{items_list-items_of}
use Rattle.ps_json.specs.Each.{read_each}
use Rattle.ps_time.specs.Numbers.{greatest_moment, most_intervals, most_result_bytes}
use Rattle.ps_time.specs.Span.{Range}
use Rattle.plugin_core.specs.WriteTest.{names_data}
use Rattle.run_states.specs.LawfulRow.{IsWindow}
use Rattle.run_states.specs.State.{state_text}
use Rattle.run_states.specs.declared.answer.FreeAnswer.{FreeAnswer}
use Rattle.run_states.specs.declared.state.State.{State}
use Rattle.run_states.specs.declared.state.State.TheVariants.{Missed, Preempted, Nonstart, Canceled, Finished, Failed, Running, Cleanup, Overdue, OnDeck, Pending}
use Rattle.host_model.specs.declared.order.PeerAnswer.TheVariants as answer
use Rattle.api_body.specs.Bodies.{moment_in, text_at}
use Rattle.api_reply.specs.Replies.{free_told as free_data, moment_told as moment_data, result_told as result_data, state_told as state_data, window_data, windows_data}
use Rattle.api_reply.specs.Shown.{second_data}
use Rattle.api_answer.specs.Told.{are_tools, first_in, free_told, moment_of, moment_told, outcome_told, second_in, state_named, tools_in, window_in, windows_in}
use Rattle.api_peer.proofs.BodyLemmas.{moment_back}
use Rattle.api_peer.specs.Replied.{IsFreeTold, IsResultTold}

-- ---- one moment
accepted_put : (m : ℕ) (d : Data) → moment_in (codes "accepted") d ≡ Ok m → moment_told (codes "accepted") (object (member (codes "accepted") d no_members)) ≡ Ok m
accepted_put m d is = rw is refl

confirmed_put : (m : ℕ) (d : Data) → moment_in (codes "confirmed") d ≡ Ok m → moment_told (codes "confirmed") (object (member (codes "confirmed") d no_members)) ≡ Ok m
confirmed_put m d is = rw is refl

pub accepted_back : (m : ℕ) → m ≤ greatest_moment → moment_told (codes "accepted") (moment_data (codes "accepted") m) ≡ Ok m
accepted_back m small = accepted_put m (second_data m) (moment_back (codes "accepted") m small)

pub confirmed_back : (m : ℕ) → m ≤ greatest_moment → moment_told (codes "confirmed") (moment_data (codes "confirmed") m) ≡ Ok m
confirmed_back m small = confirmed_put m (second_data m) (moment_back (codes "confirmed") m small)

-- ---- windows and tools
end_back : (m : ℕ) → m ≤ greatest_moment → moment_of (second_data m) ≡ Some m
unfolding second_data
end_back m small =
    let same : min m greatest_moment ≡ m = omega arith in
    let within : nat_le 0 m && nat_le m greatest_moment ≡ true = grind (arith, nat_tests) in
    rw (same, within) refl

window_back : (name : List ℕ) (w : Range) → IsWindow w → window_in name (window_data w) ≡ Ok w
window_back name w is =
    let in_order : nat_le w.first w.last ≡ true = grind (arith, nat_tests, is.ordered) in
    rw (end_back w.first (omega (arith, is.ordered, is.last)), end_back w.last is.last, in_order) refl

windows_back : (name : List ℕ) (ws : List Range) → All IsWindow ws → length ws ≤ most_intervals → windows_in name (windows_data ws) ≡ Ok ws
windows_back name ws are few =
    let count : nat_le (length ws) most_intervals ≡ true = grind (arith, nat_tests) in
    rw (items_list-items_of (map window_data ws), length-map ws window_data, count) (read_each-back (window_in name) IsWindow window_data (window_back name) ws are)

names_back : (names : List (List ℕ)) → read_each (text_at (codes "tools")) (map string names) ≡ Ok names
names_back [] = refl
names_back (n ∷ names) = rw (names_back names) refl

tools_back : (names : List (List ℕ)) → are_tools names ≡ true → tools_in (codes "tools") (names_data names) ≡ Ok names
tools_back names are = rw (items_list-items_of (map string names), names_back names, are) refl

first_put : (ws : List Range) (d : Data) (ms : Members) → windows_in (codes "first-tier") d ≡ Ok ws → first_in (member (codes "first-tier") d ms) ≡ Ok ws
unfolding first_in
first_put ws d ms is = rw is refl

second_put : (ws : List Range) (d : Data) (ms : Members) → windows_in (codes "second-tier") d ≡ Ok ws → second_in (member (codes "second-tier") d ms) ≡ Ok ws
unfolding second_in
second_put ws d ms is = rw is refl

free_put : (first second : List Range) (tools : List (List ℕ)) (f s t : Data) → windows_in (codes "first-tier") f ≡ Ok first → windows_in (codes "second-tier") s ≡ Ok second → tools_in (codes "tools") t ≡ Ok tools
    → free_told (object (member (codes "first-tier") f (member (codes "second-tier") s (member (codes "tools") t no_members)))) ≡ Ok (record { tools = tools; tiers = record { first = first; second = second } })
free_put first second tools f s t hf hs ht =
    let rest = member (codes "tools") t no_members in
    rw (first_put first f (member (codes "second-tier") s rest) hf, second_put second s rest hs, ht) refl

pub free_back : (answer : FreeAnswer) → IsFreeTold answer → free_told (free_data answer) ≡ Ok answer
free_back answer is =
    free_put answer.tiers.first answer.tiers.second answer.tools (windows_data answer.tiers.first) (windows_data answer.tiers.second) (names_data answer.tools)
    (windows_back (codes "first-tier") answer.tiers.first is.first is.few_first)
    (windows_back (codes "second-tier") answer.tiers.second is.second is.few_second)
    (tools_back answer.tools is.tools)

-- ---- how a run went
pub state_named_back : (s : State) → state_named (state_text s) ≡ Some s
state_named_back Missed = refl
state_named_back Preempted = refl
state_named_back Nonstart = refl
state_named_back Canceled = refl
state_named_back Finished = refl
state_named_back Failed = refl
state_named_back Running = refl
state_named_back Cleanup = refl
state_named_back Overdue = refl
state_named_back OnDeck = refl
state_named_back Pending = refl

state_put : (s : State) (text : List ℕ) → state_named text ≡ Some s → outcome_told (object (member (codes "state") (string text) no_members)) ≡ Ok (answer.State s)
state_put s text is = rw is refl

pub state_back : (s : State) → outcome_told (state_data s) ≡ Ok (answer.State s)
state_back s = state_put s (state_text s) (state_named_back s)

result_put : (d : Data) (text : List ℕ) → has_float d ≡ false → nat_le (depth d) 60 && nat_le (length (compact_text d)) most_result_bytes ≡ true → compact_text d ≡ text
    → outcome_told (object (member (codes "result") d no_members)) ≡ Ok (answer.Result text)
result_put d text whole fits same = rw (whole, fits, same) refl

pub result_back : (text : List ℕ) → IsResultTold text → outcome_told (result_data text) ≡ Ok (answer.Result text)
result_back text is =
    let short : length (compact_text is.kept.tree) ≤ most_result_bytes = rw is.compact is.short in
    let fits : nat_le (depth is.kept.tree) 60 && nat_le (length (compact_text is.kept.tree)) most_result_bytes ≡ true = grind (arith, nat_tests, is.kept.flat, short) in
    rw is.kept.reads (result_put is.kept.tree text is.kept.whole fits is.compact)
