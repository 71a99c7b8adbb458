-- The JSON tree of a test. Members stand in the order of the bytes of their names.
use Rattle.std.specs.Prelude.{ℕ, List, map, Option, Some, None, codes}
use Rattle.serde_json.specs.Data.{Data, string, array, object, Members, no_members, member, put}
use Rattle.serde_json.specs.View.{items_of}
use Rattle.ps_time.specs.Length.{length_text_of}
use Rattle.plugin_core.specs.declared.test_spec.Sleep.{Sleep}
use Rattle.plugin_core.specs.declared.test_spec.TestSpec.{TestSpec}
use Rattle.plugin_core.specs.declared.test_spec.TestSpec.TheVariants.{Idle, Idleex, Idlebgm, Idlemany, Simplestream}
use Rattle.plugin_core.specs.Kind.{kind_text, test_kind}

-- the most bytes that the compact text of a test has
abbrev pub most_test_bytes : ℕ
most_test_bytes = 65_536

-- a length as it is written
abbrev pub length_data : ℕ → Data
length_data len = string (length_text_of len)

-- a list of names
abbrev pub names_data : List (List ℕ) → Data
names_data names = array (items_of (map string names))

-- a comment, where there is one
abbrev pub with_comment : List ℕ → Option (List ℕ) → Members → Members
with_comment name None ms = ms
with_comment name (Some bs) ms = put name (string bs) ms

abbrev pub sleep_members : Sleep → Members
sleep_members sleep =
    with_comment (codes "starting-comment") sleep.starting_comment (
    with_comment (codes "parting-comment") sleep.parting_comment (member (codes "duration") (length_data sleep.duration) no_members))

abbrev pub spec_members : TestSpec → Members
spec_members (Idle sleep) = sleep_members sleep
spec_members (Idleex sleep) = sleep_members sleep
spec_members (Idlebgm sleep interval) = put (codes "interval") (length_data interval) (sleep_members sleep)
spec_members (Idlemany sleep hosts) = put (codes "hosts") (names_data hosts) (sleep_members sleep)
spec_members (Simplestream dest material dawdle timeout) =
    member (codes "dawdle") (length_data dawdle) (
    member (codes "dest") (string dest) (
    member (codes "test-material") (string material) (
    member (codes "timeout") (length_data timeout) no_members)))

abbrev pub test_data : TestSpec → Data
test_data test =
    object (member (codes "spec") (object (spec_members test)) (member (codes "type") (string (kind_text (test_kind test))) no_members))
