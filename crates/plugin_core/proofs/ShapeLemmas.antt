-- The trees of tests have whole numbers alone, and aren't deep.
use Rattle.std.proofs.Common.{◌≡◌, ℕ, ◌≤◌, List, [], ◌∷◌, map, false, Option, Some, None, refl, arith}
use Rattle.serde_json.specs.Data.{string, depth, items_depth}
use Rattle.serde_json.specs.View.{items_of}
use Rattle.serde_json.specs.Written.{has_float, items_have_float}
use Rattle.plugin_core.specs.declared.test_spec.Sleep.{Sleep}
use Rattle.plugin_core.specs.declared.test_spec.TestSpec.{TestSpec}
use Rattle.plugin_core.specs.declared.test_spec.TestSpec.TheVariants.{Idle, Idleex, Idlebgm, Idlemany, Simplestream}
use Rattle.plugin_core.specs.WriteTest.{test_data}

pub names_whole : (names : List (List ℕ)) → items_have_float (items_of (map string names)) ≡ false
names_whole [] = refl
names_whole (x ∷ xs) = names_whole xs

pub names_flat : (names : List (List ℕ)) → items_depth (items_of (map string names)) ≡ 0
names_flat [] = refl
names_flat (x ∷ xs) = rw (names_flat xs) refl

abbrev sleep : ℕ → Option (List ℕ) → Option (List ℕ) → Sleep
sleep d s p = record { duration = d; starting_comment = s; parting_comment = p }

idle_whole : (d : ℕ) (s p : Option (List ℕ)) → has_float (test_data (Idle (sleep d s p))) ≡ false
idle_whole d None None = refl
idle_whole d None (Some p) = refl
idle_whole d (Some s) None = refl
idle_whole d (Some s) (Some p) = refl

idleex_whole : (d : ℕ) (s p : Option (List ℕ)) → has_float (test_data (Idleex (sleep d s p))) ≡ false
idleex_whole d None None = refl
idleex_whole d None (Some p) = refl
idleex_whole d (Some s) None = refl
idleex_whole d (Some s) (Some p) = refl

idlebgm_whole : (d : ℕ) (s p : Option (List ℕ)) (i : ℕ) → has_float (test_data (Idlebgm (sleep d s p) i)) ≡ false
idlebgm_whole d None None i = refl
idlebgm_whole d None (Some p) i = refl
idlebgm_whole d (Some s) None i = refl
idlebgm_whole d (Some s) (Some p) i = refl

idlemany_whole : (d : ℕ) (s p : Option (List ℕ)) (h : List (List ℕ)) → has_float (test_data (Idlemany (sleep d s p) h)) ≡ false
idlemany_whole d None None h = rw (names_whole h) refl
idlemany_whole d None (Some p) h = rw (names_whole h) refl
idlemany_whole d (Some s) None h = rw (names_whole h) refl
idlemany_whole d (Some s) (Some p) h = rw (names_whole h) refl

pub test_whole : (test : TestSpec) → has_float (test_data test) ≡ false
test_whole (Idle z) = idle_whole z.duration z.starting_comment z.parting_comment
test_whole (Idleex z) = idleex_whole z.duration z.starting_comment z.parting_comment
test_whole (Idlebgm z i) = idlebgm_whole z.duration z.starting_comment z.parting_comment i
test_whole (Idlemany z h) = idlemany_whole z.duration z.starting_comment z.parting_comment h
test_whole (Simplestream to m w t) = refl

idlemany_flat : (d : ℕ) (s p : Option (List ℕ)) (h : List (List ℕ)) → depth (test_data (Idlemany (sleep d s p) h)) ≡ 3
idlemany_flat d None None h = rw (names_flat h) refl
idlemany_flat d None (Some p) h = rw (names_flat h) refl
idlemany_flat d (Some s) None h = rw (names_flat h) refl
idlemany_flat d (Some s) (Some p) h = rw (names_flat h) refl

sleep_flat : (d : ℕ) (s p : Option (List ℕ)) → depth (test_data (Idle (sleep d s p))) ≡ 2
sleep_flat d None None = refl
sleep_flat d None (Some p) = refl
sleep_flat d (Some s) None = refl
sleep_flat d (Some s) (Some p) = refl

paced_flat : (d : ℕ) (s p : Option (List ℕ)) (i : ℕ) → depth (test_data (Idlebgm (sleep d s p) i)) ≡ 2
paced_flat d None None i = refl
paced_flat d None (Some p) i = refl
paced_flat d (Some s) None i = refl
paced_flat d (Some s) (Some p) i = refl

pub test_flat : (test : TestSpec) → depth (test_data test) ≤ 3
test_flat (Idle z) = omega (arith, sleep_flat z.duration z.starting_comment z.parting_comment)
test_flat (Idleex z) = omega (arith, sleep_flat z.duration z.starting_comment z.parting_comment)
test_flat (Idlebgm z i) = omega (arith, paced_flat z.duration z.starting_comment z.parting_comment i)
test_flat (Idlemany z h) = omega (arith, idlemany_flat z.duration z.starting_comment z.parting_comment h)
test_flat (Simplestream to m w t) = omega arith
