use Rattle.std.proofs.Common.{◌<◌, length, arith}
use Rattle.std.proofs.lemmas.Bool.Decides.{nat_tests}
use Rattle.serde_json.specs.View.{members_view}
use Rattle.task_spec.proofs.WriteLemmas.{policy_put}
use Rattle.task_spec.proofs.write_task.put_policy.Goals as goal

pub returns : goal.returns
returns c =
    let here : 0 < length c.as_slice-entries.result.now = grind (arith, nat_tests, c.is_empty.ensures, c.if-is_empty.ensures) in
    let some = rw c.as_slice-entries.ensures at here in
    let tree = rw c.as_slice-entries.ensures at c.in_ok-entries.ensures in
    let done = rw tree at c.in_ok-put.ensures.ok in
    rw (policy_put c.args.policy.now.entries (members_view c.args.members.now.entries) some) done
