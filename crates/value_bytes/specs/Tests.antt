-- Tests as bytes: the compact JSON text of the tree of each.
use Rattle.std.specs.Prelude.{◌≡◌, Bool, List, None, Ok, Option, Result, Some, bytes_eq, cond, false, if◌then◌else◌, option_and_then, refl, true, Err, ℕ}
use Rattle.std.proofs.Common.{◌∙◌, ap, sym}
use Rattle.std.proofs.lemmas.Slice.Eq.{bytes_eq-Decides}
use Rattle.serde_json.specs.Written.{compact_text}
use Rattle.ps_json.specs.Tree.{tree_of}
use Rattle.ps_time.proofs.LengthTextLemmas.{length_text_read}
use Rattle.plugin_core.specs.Bounds.{IsTest}
use Rattle.plugin_core.specs.ReadTest.{test_of}
use Rattle.plugin_core.specs.WriteTest.{test_data}
use Rattle.plugin_core.specs.declared.test_spec.TestSpec.{TestSpec}
use Rattle.plugin_core.proofs.WrittenLemmas.{test_back}
use Rattle.value_bytes.specs.Codec.{Codec, IsText, partly, text}
use Rattle.value_bytes.specs.Laws.{IsCodec}
use Rattle.value_bytes.specs.PairLaws.{partly_is, some_is}
use Rattle.value_bytes.specs.TextLaws.{text_is}

-- what was read, where it was
abbrev pub ok_of : {A E : Type 0} → Result A E → Option A
ok_of (Ok a) = Some a
ok_of (Err e) = None

-- the text of a test
abbrev pub test_text : TestSpec → List ℕ
test_text t = compact_text (test_data t)

-- the test, where this is its text
abbrev pub own_test : List ℕ → TestSpec → Option TestSpec
own_test bytes t = if bytes_eq (test_text t) bytes then Some t else None

-- the test that has exactly this text
abbrev pub test_in : List ℕ → Option TestSpec
test_in bytes = option_and_then (λ d. option_and_then (own_test bytes) (ok_of (test_of d))) (ok_of (tree_of bytes))

-- a test in its bounds, whose text is read again as its tree
pub record FitsTest (t : TestSpec) : Type 0 where
  pub test : IsTest t
  pub text : IsText (test_text t)
  pub tree : tree_of (test_text t) ≡ Ok (test_data t)

abbrev pub test : Codec TestSpec
test = partly test_in test_text IsTest FitsTest text

pub same_text : (t : List ℕ) → bytes_eq t t ≡ true
same_text t = (bytes_eq-Decides t t).1 refl

test_again : (t : TestSpec) → FitsTest t → test_in (test_text t) ≡ Some t
test_again t fits = rw (fits.tree, test_back length_text_read t fits.test, same_text (test_text t)) refl

test_read : (bytes : List ℕ) (t : TestSpec) → test_in bytes ≡ Some t → test_text t ≡ bytes
test_read bytes t e = by_tree (ok_of (tree_of bytes)) e
  where
    by_same : (u : TestSpec) (b : Bool) → bytes_eq (test_text u) bytes ≡ b → cond b (Some u) None ≡ Some t → test_text t ≡ bytes
    by_same u true same e = ap test_text (sym (some_is u t e)) ∙ (bytes_eq-Decides (test_text u) bytes).0 same
    by_same u false same e = absurd cc

    by_test : (o : Option TestSpec) → option_and_then (own_test bytes) o ≡ Some t → test_text t ≡ bytes
    by_test (Some u) e = by_same u (bytes_eq (test_text u) bytes) refl e
    by_test None e = absurd cc

    by_tree : (o : Option _) → option_and_then (λ d. option_and_then (own_test bytes) (ok_of (test_of d))) o ≡ Some t → test_text t ≡ bytes
    by_tree (Some d) e = by_test (ok_of (test_of d)) e
    by_tree None e = absurd cc

pub test_is : IsCodec test
test_is = partly_is test_in test_text IsTest FitsTest test_again (λ t fits. fits.text) test_read text_is
