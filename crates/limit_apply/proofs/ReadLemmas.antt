-- A configuration that was read is read again from its text, and which texts are a configuration's own.
use Rattle.std.proofs.Common.{◌≡◌, ℕ, Bool, true, false, cond, List, Some, None, Result, Ok, Err, bytes_eq, refl, ◌∙◌, ap, subst}
use Rattle.std.proofs.lemmas.Slice.Eq.{bytes_eq-Decides}
use Rattle.serde_json.specs.Data.{Data}
use Rattle.serde_json.specs.Written.{compact_text}
use Rattle.ps_json.specs.Tree.{tree_of}
use Rattle.limit_ident.specs.declared.fault.LimitFault.{LimitFault}
use Rattle.limit_apply.specs.Bare.{bare}
use Rattle.limit_apply.specs.Limits.{LimitsConfig}
use Rattle.limit_apply.specs.Read.{parts_of, config, config_in, of_own, own_config, IsKept, IsLimitsText}
use Rattle.limit_apply.specs.declared.limits.Priorities.{Priorities}
use Rattle.limit_apply.specs.declared.read.Lists.{Lists}
use Rattle.limit_apply.proofs.BareLemmas.{bare-bare}

pub read_again : (d e : Data) (lists : Lists) (priorities : Priorities) (text : List ℕ) → e ≡ bare d → parts_of e ≡ Ok (lists, priorities) → text ≡ compact_text e → tree_of text ≡ Ok e
    → config_in text ≡ Ok (config lists priorities text)
unfolding config_in
read_again d e lists priorities text same parts written tree = rw (tree, same, bare-bare d, ← same, parts, ← written) refl

-- ---- texts that are a configuration's own

some_same : {A : Type 0} (a b : A) → Some a ≡ Some b → a ≡ b
some_same a b is = cc

pub own_sound : (text : List ℕ) (config : LimitsConfig) → own_config text ≡ Some config → (config_in text ≡ Ok config) × (config.text ≡ text)
own_sound text config own = read (config_in text) refl own
  where
    read : (r : Result LimitsConfig LimitFault) → config_in text ≡ r → of_own text r ≡ Some config → (config_in text ≡ Ok config) × (config.text ≡ text)
    read (Err fault) is own = absurd cc
    read (Ok c) is own = same (bytes_eq c.text text) refl own
      where
        same : (b : Bool) → bytes_eq c.text text ≡ b → cond b (Some c) None ≡ Some config → (config_in text ≡ Ok config) × (config.text ≡ text)
        same true equal own = let e = some_same c config own in (is ∙ ap Ok e, subst (λ x. x.text ≡ text) e ((bytes_eq-Decides c.text text).0 equal))
        same false equal own = absurd cc

pub own_complete : (text : List ℕ) (own : IsLimitsText text) → own_config text ≡ Some own.config
own_complete text own = rw (own.reads, (bytes_eq-Decides own.config.text text).1 own.same) refl

pub own_kept : (config : LimitsConfig) → IsKept config → IsLimitsText config.text
own_kept config kept = record { config = config; reads = kept.again; same = refl }
