-- The class of a test, and how long it takes; a sleep without comments.
use Rattle.std.specs.Prelude.{ℕ, ◌+◌, None}
use Rattle.ps_time.specs.declared.class.Class.{Class}
use Rattle.ps_time.specs.declared.class.Class.TheVariants.{BackgroundMulti, Background, Normal, Exclusive}
use Rattle.plugin_core.specs.declared.test_spec.Sleep.{Sleep}
use Rattle.plugin_core.specs.declared.test_spec.TestSpec.{TestSpec}
use Rattle.plugin_core.specs.declared.test_spec.TestSpec.TheVariants.{Idle, Idleex, Idlebgm, Idlemany, Simplestream}

abbrev pub test_class : TestSpec → Class
test_class (Idle sleep) = Background
test_class (Idleex sleep) = Exclusive
test_class (Idlebgm sleep interval) = BackgroundMulti
test_class (Idlemany sleep hosts) = Exclusive
test_class (Simplestream dest material dawdle timeout) = Normal

-- in seconds
abbrev pub test_length : TestSpec → ℕ
test_length (Idle sleep) = sleep.duration
test_length (Idleex sleep) = sleep.duration
test_length (Idlebgm sleep interval) = sleep.duration
test_length (Idlemany sleep hosts) = sleep.duration
test_length (Simplestream dest material dawdle timeout) = dawdle + timeout

-- a sleep of so many seconds, without comments
abbrev pub sleep_of : ℕ → Sleep
sleep_of duration = record { duration = duration; starting_comment = None; parting_comment = None }
