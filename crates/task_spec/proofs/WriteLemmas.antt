-- What is put into a task's objects, and the shape of its tree.
use Rattle.std.proofs.Common.{◌≡◌, ◌<◌, List, [], ◌∷◌, length, map, codes, refl, arith}
use Rattle.serde_json.specs.Data.{Members, array, put}
use Rattle.serde_json.specs.View.{items_of}
use Rattle.archive_retry.specs.declared.policy.Entry.{Entry}
use Rattle.task_spec.specs.WriteTask.{entry_data, with_policy}

-- a policy with entries is put
pub policy_put : (es : List Entry) (ms : Members) → 0 < length es → with_policy es ms ≡ put (codes "retry-policy") (array (items_of (map entry_data es))) ms
policy_put [] ms some = absurd (omega arith)
policy_put (e ∷ es) ms some = refl
