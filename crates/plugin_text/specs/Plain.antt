-- Texts that stand in JSON as they are.
use Rattle.std.specs.Prelude.{ℕ, Bool, true, not, ◌&&◌, ◌==◌, nat_le, List, Option, Some, None}
use Rattle.std.specs.List.{list_all}
use Rattle.plugin_core.specs.declared.test_spec.Sleep.{Sleep}
use Rattle.plugin_core.specs.declared.test_spec.TestSpec.{TestSpec}
use Rattle.plugin_core.specs.declared.test_spec.TestSpec.TheVariants.{Idle, Idleex, Idlebgm, Idlemany, Simplestream}

-- no control, '"' or '\'
abbrev pub is_plain_byte : ℕ → Bool
is_plain_byte x = nat_le 32 x && (not (x == 34) && not (x == 92))

abbrev pub is_plain : List ℕ → Bool
is_plain = list_all is_plain_byte

abbrev pub is_plain_note : Option (List ℕ) → Bool
is_plain_note None = true
is_plain_note (Some bs) = is_plain bs

abbrev pub is_plain_sleep : Sleep → Bool
is_plain_sleep sleep = is_plain_note sleep.starting_comment && is_plain_note sleep.parting_comment

-- the texts of the test that may have any bytes are plain
abbrev pub is_plain_test : TestSpec → Bool
is_plain_test (Idle sleep) = is_plain_sleep sleep
is_plain_test (Idleex sleep) = is_plain_sleep sleep
is_plain_test (Idlebgm sleep interval) = is_plain_sleep sleep
is_plain_test (Idlemany sleep hosts) = is_plain_sleep sleep
is_plain_test (Simplestream dest material dawdle timeout) = is_plain material
