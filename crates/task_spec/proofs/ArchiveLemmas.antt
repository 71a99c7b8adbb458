-- The tree of an archive is read again.
use Rattle.std.proofs.Common.{◌≡◌, ℕ, ◌&&◌, ◌≤◌, nat_le, if◌then◌else◌, Bool, List, [], ◌∷◌, length, map, All, true, false, Option, Some, None, Ok, refl, sym, codes, arith}
use Rattle.std.proofs.lemmas.Bool.Decides.{nat_tests}
use Rattle.std.proofs.lemmas.List.{length-map}
use Rattle.std.proofs.lemmas.Slice.Eq.{bytes_eq-Decides}
use Rattle.std.specs.List.{Contains}
use Rattle.std.specs.Option.{unwrap_or, option_and_then}
use Rattle.std.specs.Str.{bytes_eq}
use Rattle.serde_json.specs.Data.{array, object}
use Rattle.serde_json.specs.Find.{get, as_number, as_u64}
use Rattle.serde_json.specs.View.{items_of}
use Rattle.ps_json.proofs.EachLemmas.{read_each-back}
use Rattle.ps_json.specs.Each.{read_each}
use Rattle.ps_json.proofs.TreeLemmas.{items_list-items_of}
use Rattle.ps_time.specs.Length.{length_of, length_text_of}
use Rattle.ps_time.specs.declared.moment.TheConstants.{MAX_LENGTH}
use Rattle.archive_retry.specs.Bounds.{IsEntry, IsPolicy}
use Rattle.archive_retry.specs.ReadPolicy.{entry_of, policy_of}
use Rattle.archive_retry.specs.declared.policy.Entry.{Entry}
use Rattle.task_spec.specs.Bounds.{FitsArchiver, IsArchive}
use Rattle.task_spec.specs.ReadArchive.{is_archiver, archivers_by_name, fails_by, settings_members, settings_text, data_members, archive_of, archives_in}
use Rattle.task_spec.specs.WriteTask.{entry_data, with_policy, archive_data}
use Rattle.task_spec.specs.declared.task.Archive.{Archive}

module _ (lengths : (n : ℕ) → n ≤ MAX_LENGTH → length_of (length_text_of n) ≡ Ok n) where
  entry_back : (e : Entry) → IsEntry e → entry_of (entry_data e) ≡ Ok e
  entry_back e is =
      let count : nat_le 1 e.attempts && nat_le e.attempts 1_000 ≡ true = grind (arith, nat_tests) in
      rw (count, lengths e.wait is.short) refl

  entries_back : (es : List Entry) → All IsEntry es → read_each entry_of (map entry_data es) ≡ Ok es
  entries_back es are = read_each-back entry_of IsEntry entry_data entry_back es are

  -- a policy with entries
  policy_back : (es : List Entry) → 1 ≤ length es → IsPolicy (record { entries = es }) → policy_of (array (items_of (map entry_data es))) ≡ Ok (record { entries = es })
  policy_back es some is =
      let count : nat_le 1 (length es) && nat_le (length es) 16 ≡ true = grind (arith, nat_tests, is.few) in
      rw (items_list-items_of (map entry_data es), length-map es entry_data, count, entries_back es is.entries) refl

  data_back : (archiver : List ℕ) (fail : Option ℕ) (es : List Entry) → FitsArchiver archiver fail → IsPolicy (record { entries = es }) → data_members archiver (with_policy es (settings_members fail)) ≡ Ok (record { archiver = archiver; settings = settings_text fail; policy = record { entries = es } })
  data_back archiver None [] fits is =
      elim (bytes_eq archiver (codes "failer")) as (λ b. bytes_eq archiver (codes "failer") ≡ b → data_members archiver (with_policy [] (settings_members None)) ≡ Ok (record { archiver = archiver; settings = settings_text None; policy = record { entries = [] } })) [
        | true ↦ λ yes. rw yes refl
        | false ↦ λ no. rw no refl
      ] refl
  data_back archiver None (e ∷ es) fits is =
      elim (bytes_eq archiver (codes "failer")) as (λ b. bytes_eq archiver (codes "failer") ≡ b → data_members archiver (with_policy (e ∷ es) (settings_members None)) ≡ Ok (record { archiver = archiver; settings = settings_text None; policy = record { entries = e ∷ es } })) [
        | true ↦ λ yes. rw (yes, policy_back (e ∷ es) (omega arith) is) refl
        | false ↦ λ no. rw (no, policy_back (e ∷ es) (omega arith) is) refl
      ] refl
  data_back archiver (Some n) [] fits is =
      let few : nat_le 0 n && nat_le n 1_000 ≡ true = grind (arith, nat_tests, fits.1) in rw (fits.0, few) refl
  data_back archiver (Some n) (e ∷ es) fits is =
      let few : nat_le 0 n && nat_le n 1_000 ≡ true = grind (arith, nat_tests, fits.1) in rw (fits.0, few, policy_back (e ∷ es) (omega arith) is) refl

  archive_back : (a : Archive) → IsArchive a → archive_of (archive_data a) ≡ Ok a
  archive_back a is =
      let made = data_back a.archiver is.fail a.policy.entries is.fits is.policy in
      rw (is.reads, is.known, made, is.text) refl

  pub archives_back : (name : List ℕ) (archives : List Archive) → All IsArchive archives → length archives ≤ 8 → archives_in name (array (items_of (map archive_data archives))) ≡ Ok archives
  archives_back name archives are few =
      let count : nat_le (length (map archive_data archives)) 8 ≡ true = rw (length-map archives archive_data) (grind (arith, nat_tests)) in
      rw (items_list-items_of (map archive_data archives), count) (read_each-back archive_of IsArchive archive_data archive_back archives are)

-- each archiver stands in the list of all
pub every_archiver : (name : List ℕ) → is_archiver name ≡ true → Contains archivers_by_name name
every_archiver name = by_test (bytes_eq name (codes "bitbucket")) refl
  where
    by_test : (b : Bool) → bytes_eq name (codes "bitbucket") ≡ b → (if b then true else bytes_eq name (codes "failer")) ≡ true → Contains archivers_by_name name
    by_test true here is = (0, omega arith, sym ((bytes_eq-Decides name (codes "bitbucket")).0 here))
    by_test false other is = (1, omega arith, sym ((bytes_eq-Decides name (codes "failer")).0 is))

-- what the settings of an archive say
fails_given : (a : Archive) (is : IsArchive a) → fails_by a.settings ≡ unwrap_or is.fail 0
fails_given a is = rw is.reads (by_fail is.fail)
  where
    by_fail : (fail : Option ℕ) → unwrap_or (option_and_then as_u64 (option_and_then as_number (get (codes "fail") (object (settings_members fail))))) 0 ≡ unwrap_or fail 0
    by_fail None = refl
    by_fail (Some n) = refl

pub fails_given_by : (settings : List ℕ) (a : Archive) (is : IsArchive a) → a.settings ≡ settings → fails_by settings ≡ unwrap_or is.fail 0
fails_given_by settings a is same = rw (sym same) (fails_given a is)
