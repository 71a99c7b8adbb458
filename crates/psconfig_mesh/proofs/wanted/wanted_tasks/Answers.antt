use Rattle.std.proofs.Common.{◌≡◌, ◌<◌, ◌≤◌, length, slice_index_or, rules}
use Rattle.psconfig_mesh.specs.Mesh.{wanted_by, wanted_of}
use Rattle.psconfig_mesh.proofs.WantedLemmas.{task_pushed, all_pushed, counted}
use Rattle.psconfig_mesh.proofs.wanted.wanted_tasks.Goals as goal

pub loop-task-preserved : goal.loop-task-preserved
loop-task-preserved c =
    let mesh = c.args.mesh.now in
    let tasks = c.as_slice-task-items.result.now in
    let i = c.loop-task.task-index in
    let within : i < length tasks = search rules in
    let read : c.task-item.result ≡ slice_index_or tasks i c.task-item.result = search rules in
    record {
      value = task_pushed (wanted_of mesh) c.loop-task.wanted.items c.push_wanted.new.wanted.items (wanted_by mesh) tasks i c.task-item.result within read c.loop-task.invariant.value c.in_ok-push_wanted.ensures.value;
      reads = c.in_ok-push_wanted.ensures.reads c.loop-task.invariant.reads;
    }

pub returns-clause-few : goal.returns-clause-few
returns-clause-few c =
    let mesh = c.args.mesh.now in
    let tasks = c.as_slice-task-items.result.now in
    let over : length tasks ≤ c.loop-task.task-index = search rules in
    rw (all_pushed (wanted_of mesh) c.loop-task.wanted.items (wanted_by mesh) tasks c.loop-task.task-index over c.loop-task.invariant.value, counted mesh) c.requires.few
