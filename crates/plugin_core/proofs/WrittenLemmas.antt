-- The tree of a test is read again.
use Rattle.std.proofs.Common.{◌≡◌, ℕ, ◌+◌, ◌/◌, ◌==◌, ◌≤◌, nat_le, nat_lt, List, [], ◌∷◌, length, map, true, false, Option, Some, None, Ok, refl, arith}
use Rattle.std.proofs.lemmas.Bool.Decides.{nat_tests}
use Rattle.std.specs.List.{list_all}
use Rattle.serde_json.specs.Data.{string}
use Rattle.serde_json.specs.View.{items_of}
use Rattle.ps_json.specs.Each.{read_each}
use Rattle.ps_json.specs.Kinds.{items_list}
use Rattle.ps_json.proofs.TreeLemmas.{items_list-items_of}
use Rattle.ps_time.proofs.PictureLemmas.{and_true}
use Rattle.ps_time.specs.Length.{length_of, length_text_of}
use Rattle.ps_time.specs.Name.{is_name}
use Rattle.ps_time.specs.declared.moment.TheConstants.{MAX_LENGTH}
use Rattle.plugin_core.specs.declared.test_spec.Sleep.{Sleep}
use Rattle.plugin_core.specs.declared.test_spec.TestSpec.{TestSpec}
use Rattle.plugin_core.specs.declared.test_spec.TestSpec.TheVariants.{Idle, Idleex, Idlebgm, Idlemany, Simplestream}
use Rattle.plugin_core.specs.Bounds.{IsTest, IsComment}
use Rattle.plugin_core.specs.ReadTest.{host_in, are_hosts, test_of}
use Rattle.plugin_core.specs.WriteTest.{test_data}

-- the names of hosts, one after another
names_back : (name : List ℕ) (names : List (List ℕ)) → list_all is_name names ≡ true → read_each (host_in name) (map string names) ≡ Ok names
names_back name [] are = refl
names_back name (x ∷ xs) are =
    let each = and_true (is_name x) (list_all is_name xs) are in rw (each.0, names_back name xs each.1) refl

-- the same, as the list that is read
pub hosts_back : (name : List ℕ) (names : List (List ℕ)) → list_all is_name names ≡ true → read_each (host_in name) (items_list (items_of (map string names))) ≡ Ok names
hosts_back name names are = rw (items_list-items_of (map string names)) (names_back name names are)

abbrev Fits : Option (List ℕ) → Type 0
Fits None = Unit {0}
Fits (Some bs) = nat_le (length bs) 1_024 ≡ true

fits : (o : Option (List ℕ)) → IsComment o → Fits o
fits None is = tt
fits (Some bs) is = grind (arith, nat_tests)

abbrev sleep : ℕ → Option (List ℕ) → Option (List ℕ) → Sleep
sleep d s p = record { duration = d; starting_comment = s; parting_comment = p }

-- what is read of a duration
record IsBack (n : ℕ) : Type 0 where
  value : length_of (length_text_of n) ≡ Ok n
  lasts : (n == 0) ≡ false

module _ (d : ℕ) (b : IsBack d) where
  idle : (s p : Option (List ℕ)) → Fits s → Fits p → test_of (test_data (Idle (sleep d s p))) ≡ Ok (Idle (sleep d s p))
  idle None None hs hp = rw (b.value, b.lasts) refl
  idle None (Some p) hs hp = rw (b.value, b.lasts, hp) refl
  idle (Some s) None hs hp = rw (b.value, b.lasts, hs) refl
  idle (Some s) (Some p) hs hp = rw (b.value, b.lasts, hs, hp) refl

  idleex : (s p : Option (List ℕ)) → Fits s → Fits p → test_of (test_data (Idleex (sleep d s p))) ≡ Ok (Idleex (sleep d s p))
  idleex None None hs hp = rw (b.value, b.lasts) refl
  idleex None (Some p) hs hp = rw (b.value, b.lasts, hp) refl
  idleex (Some s) None hs hp = rw (b.value, b.lasts, hs) refl
  idleex (Some s) (Some p) hs hp = rw (b.value, b.lasts, hs, hp) refl

  module _ (i : ℕ) (c : IsBack i) (within : nat_lt d i ≡ false) (few : nat_lt 64 (d / i) ≡ false) where
    idlebgm : (s p : Option (List ℕ)) → Fits s → Fits p → test_of (test_data (Idlebgm (sleep d s p) i)) ≡ Ok (Idlebgm (sleep d s p) i)
    idlebgm None None hs hp = rw (b.value, b.lasts, c.value, c.lasts, within, few) refl
    idlebgm None (Some p) hs hp = rw (b.value, b.lasts, hp, c.value, c.lasts, within, few) refl
    idlebgm (Some s) None hs hp = rw (b.value, b.lasts, hs, c.value, c.lasts, within, few) refl
    idlebgm (Some s) (Some p) hs hp = rw (b.value, b.lasts, hs, hp, c.value, c.lasts, within, few) refl

  module _ (h : List (List ℕ)) (names : list_all is_name h ≡ true) (differ : are_hosts h ≡ true) where
    idlemany : (s p : Option (List ℕ)) → Fits s → Fits p → test_of (test_data (Idlemany (sleep d s p) h)) ≡ Ok (Idlemany (sleep d s p) h)
    idlemany None None hs hp = rw (b.value, b.lasts, hosts_back _ h names, differ) refl
    idlemany None (Some p) hs hp = rw (b.value, b.lasts, hp, hosts_back _ h names, differ) refl
    idlemany (Some s) None hs hp = rw (b.value, b.lasts, hs, hosts_back _ h names, differ) refl
    idlemany (Some s) (Some p) hs hp = rw (b.value, b.lasts, hs, hp, hosts_back _ h names, differ) refl

module _ (back : (n : ℕ) → n ≤ MAX_LENGTH → length_of (length_text_of n) ≡ Ok n) where
  is_back : (n : ℕ) → 1 ≤ n → n ≤ MAX_LENGTH → IsBack n
  is_back n lasts short = record { value = back n short; lasts = grind (arith, nat_tests) }

  -- the tree of a test is read again as that test
  pub test_back : (test : TestSpec) → IsTest test → test_of (test_data test) ≡ Ok test
  test_back (Idle z) is = idle z.duration (is_back z.duration is.lasts is.short) z.starting_comment z.parting_comment (fits z.starting_comment is.starting) (fits z.parting_comment is.parting)
  test_back (Idleex z) is = idleex z.duration (is_back z.duration is.lasts is.short) z.starting_comment z.parting_comment (fits z.starting_comment is.starting) (fits z.parting_comment is.parting)
  test_back (Idlebgm z i) is =
      idlebgm z.duration (is_back z.duration is.0.lasts is.0.short) i (is_back i is.1.lasts (omega (arith, is.0.short, is.1.within)))
      (grind (arith, nat_tests, is.1.within)) (grind (arith, nat_tests, is.1.few)) z.starting_comment z.parting_comment (fits z.starting_comment is.0.starting) (fits z.parting_comment is.0.parting)
  test_back (Idlemany z h) is = idlemany z.duration (is_back z.duration is.0.lasts is.0.short) h is.1.names is.1.differ z.starting_comment z.parting_comment (fits z.starting_comment is.0.starting) (fits z.parting_comment is.0.parting)
  test_back (Simplestream to m w t) is =
      let material : nat_le (length m) 8_192 ≡ true = grind (arith, nat_tests, is.material) in
      let wait = back w (omega (arith, is.short)) in
      let b = is_back t is.lasts (omega (arith, is.short)) in
      let short : nat_lt MAX_LENGTH (w + t) ≡ false = grind (arith, nat_tests, is.short) in
      rw (is.dest, material, wait, b.value, b.lasts, short) refl
