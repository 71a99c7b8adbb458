-- `generate` is named by its word, and its count is within its bound.
use Rattle.std.specs.Prelude.{bytes_eq, codes, if◌then◌else◌, nat_le, option_and_then}
use Rattle.std.proofs.Common.{◌≡◌, ◌≤◌, ℕ, Bool, true, false, List, [], ◌∷◌, Option, Some, None, ap, arith, refl, subst}
use Rattle.std.proofs.lemmas.Bool.Decides.{nat_tests}
use Rattle.clap.specs.Faults.{fault_of}
use Rattle.clap.specs.Kinds.{Kinds}
use Rattle.clap.specs.Simple.{matches_of}
use Rattle.clap.specs.Walk.{first_of}
use Rattle.ps_time.specs.Number.{decimal_of}
use Rattle.psched_top.specs.Command.{command_of, generate_of, generating, is_generate, most_posts, one_word}
use Rattle.psched_top.specs.Words.{count_word, generate_app, unless_faulty}
use Rattle.psched_top.specs.declared.command.Command.{Command}
use Rattle.psched_top.specs.declared.command.Command.TheVariants.{Rehearse, ValidateLimits, Generate, Help, Version}

-- ---- the word of the count
pub word_right : (words : List (List ℕ)) → fault_of generate_app words ≡ [] → count_word words ≡ first_of (codes "count") (matches_of generate_app words)
unfolding count_word
word_right words none = ap (λ (ks : Kinds). unless_faulty ks words) none

no_word : (words : List (List ℕ)) (ks : Kinds) → (ks ≡ [] → ⊥) → None ≡ unless_faulty ks words
no_word words [] some = absurd (some refl)
no_word words (k ∷ ks) some = refl

pub word_wrong : (words : List (List ℕ)) → (fault_of generate_app words ≡ [] → ⊥) → None ≡ count_word words
unfolding count_word
word_wrong words some = no_word words (fault_of generate_app words) some

-- ---- other words name other commands
other_word : (a b c d : Bool) (n : ℕ) → (if a then Some Rehearse else if b then Some ValidateLimits else if c then Some Help else if d then Some Version else None) ≡ Some (Generate n) → ⊥
other_word true b c d n is = cc
other_word false true c d n is = cc
other_word false false true d n is = cc
other_word false false false true n is = cc
other_word false false false false n is = cc

other_words : (words : List (List ℕ)) (n : ℕ) → one_word words ≡ Some (Generate n) → ⊥
other_words [] n is = cc
other_words (word ∷ []) n is = other_word (bytes_eq word (codes "rehearse")) (bytes_eq word (codes "validate-limits")) (bytes_eq word (codes "--help")) (bytes_eq word (codes "--version")) n is
other_words (word ∷ next ∷ words) n is = cc

pub generate_word : (words : List (List ℕ)) (n : ℕ) → command_of words ≡ Some (Generate n) → is_generate words ≡ true
unfolding command_of
generate_word words n is = go (is_generate words) refl is
  where
    go : (b : Bool) → is_generate words ≡ b → (if b then option_and_then generate_of (count_word words) else one_word words) ≡ Some (Generate n) → is_generate words ≡ true
    go true first e = first
    go false first e = absurd (other_words words n e)

-- ---- the count
within : (k n : ℕ) → generating k ≡ Some (Generate n) → n ≤ most_posts
within k n is = go (nat_le k most_posts) refl is
  where
    go : (b : Bool) → nat_le k most_posts ≡ b → (if b then Some (Generate k) else None) ≡ Some (Generate n) → n ≤ most_posts
    go true low e =
        let same : k ≡ n = cc in
        let few : k ≤ most_posts = grind (arith, nat_tests, low) in
        subst (λ (m : ℕ). m ≤ most_posts) same few
    go false low e = absurd (cc)

from_digits : (o : Option ℕ) (n : ℕ) → option_and_then generating o ≡ Some (Generate n) → n ≤ most_posts
from_digits None n is = absurd (cc)
from_digits (Some k) n is = within k n is

from_word : (o : Option (List ℕ)) (n : ℕ) → option_and_then generate_of o ≡ Some (Generate n) → n ≤ most_posts
unfolding generate_of
from_word None n is = absurd (cc)
from_word (Some word) n is = from_digits (decimal_of 1 10 word) n is

pub few_posts : (words : List (List ℕ)) (n : ℕ) → command_of words ≡ Some (Generate n) → n ≤ most_posts
unfolding command_of
few_posts words n is = go (is_generate words) is
  where
    go : (b : Bool) → (if b then option_and_then generate_of (count_word words) else one_word words) ≡ Some (Generate n) → n ≤ most_posts
    go true e = from_word (count_word words) n e
    go false e = absurd (other_words words n e)

pub same_count : (o : Option Command) (a b : ℕ) → o ≡ Some (Generate a) → o ≡ Some (Generate b) → a ≡ b
same_count o a b is also = cc
