-- The bounds that every test keeps.
use Rattle.std.specs.Prelude.{ℕ, ◌≡◌, ◌≤◌, ◌+◌, ◌/◌, true, List, length, Option, IfSome}
use Rattle.std.specs.List.{list_all}
use Rattle.std.specs.Str.{IsUtf8}
use Rattle.ps_time.specs.Name.{is_name}
use Rattle.ps_time.specs.Numbers.{greatest_length}
use Rattle.plugin_core.specs.declared.test_spec.Sleep.{Sleep}
use Rattle.plugin_core.specs.declared.test_spec.TestSpec.{TestSpec}
use Rattle.plugin_core.specs.declared.test_spec.TestSpec.TheVariants.{Idle, Idleex, Idlebgm, Idlemany, Simplestream}
use Rattle.plugin_core.specs.ReadTest.{are_hosts}

abbrev pub IsComment : Option (List ℕ) → Type 0
IsComment comment = IfSome comment (λ bs. length bs ≤ 1_024)

pub record IsSleep (sleep : Sleep) : Type 0 where
  pub lasts : 1 ≤ sleep.duration
  pub short : sleep.duration ≤ greatest_length
  pub starting : IsComment sleep.starting_comment
  pub parting : IsComment sleep.parting_comment

pub record IsPaced (duration interval : ℕ) : Type 0 where
  pub lasts : 1 ≤ interval
  pub within : interval ≤ duration
  pub few : duration / interval ≤ 64

pub record AreHosts (hosts : List (List ℕ)) : Type 0 where
  pub names : list_all is_name hosts ≡ true
  pub differ : are_hosts hosts ≡ true

pub record IsStream (to text : List ℕ) (dawdle timeout : ℕ) : Type 0 where
  pub dest : is_name to ≡ true
  pub utf8 : IsUtf8 text
  pub material : length text ≤ 8_192
  pub lasts : 1 ≤ timeout
  pub short : dawdle + timeout ≤ greatest_length

abbrev pub IsTest : TestSpec → Type 0
IsTest (Idle sleep) = IsSleep sleep
IsTest (Idleex sleep) = IsSleep sleep
IsTest (Idlebgm sleep interval) = IsSleep sleep × IsPaced sleep.duration interval
IsTest (Idlemany sleep hosts) = IsSleep sleep × AreHosts hosts
IsTest (Simplestream dest material dawdle timeout) = IsStream dest material dawdle timeout
