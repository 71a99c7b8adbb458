-- What the bounds of a test say of its length and its hosts.
use Rattle.std.proofs.Common.{◌≡◌, ℕ, ◌≤◌, ◌&&◌, nat_le, true, List, length, arith}
use Rattle.std.proofs.lemmas.Bool.Decides.{nat_tests}
use Rattle.ps_time.proofs.PictureLemmas.{and_true}
use Rattle.ps_time.specs.declared.moment.TheConstants.{MAX_LENGTH}
use Rattle.plugin_core.specs.declared.test_spec.TestSpec.{TestSpec}
use Rattle.plugin_core.specs.declared.test_spec.TestSpec.TheVariants.{Idle, Idleex, Idlebgm, Idlemany, Simplestream}
use Rattle.plugin_core.specs.Bounds.{IsTest}
use Rattle.plugin_core.specs.ReadTest.{all_differ, are_hosts}
use Rattle.plugin_core.specs.TestSpec.{test_length}

pub length_within : (test : TestSpec) → IsTest test → test_length test ≤ MAX_LENGTH
length_within (Idle z) is = is.short
length_within (Idleex z) is = is.short
length_within (Idlebgm z i) is = is.0.short
length_within (Idlemany z h) is = is.0.short
length_within (Simplestream to m w t) is = is.short

pub length_lasts : (test : TestSpec) → IsTest test → 1 ≤ test_length test
length_lasts (Idle z) is = is.lasts
length_lasts (Idleex z) is = is.lasts
length_lasts (Idlebgm z i) is = is.0.lasts
length_lasts (Idlemany z h) is = is.0.lasts
length_lasts (Simplestream to m w t) is = omega (arith, is.lasts)

-- the counts of hosts
pub hosts_few : (hosts : List (List ℕ)) → are_hosts hosts ≡ true → (2 ≤ length hosts) × (length hosts ≤ 8)
hosts_few hosts are =
    let first = and_true (nat_le 2 (length hosts)) (nat_le (length hosts) 8 && all_differ hosts) are in
    let second = and_true (nat_le (length hosts) 8) (all_differ hosts) first.1 in
    (grind (arith, nat_tests, first.0), grind (arith, nat_tests, second.0))
