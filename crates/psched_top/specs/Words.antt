-- The words of `generate`, as clap reads them.
use Rattle.std.specs.Prelude.{List, [], ◌∷◌, None, Option, Some, codes, true, ℕ}
use Rattle.clap.specs.Faults.{fault_of}
use Rattle.clap.specs.Kinds.{Kinds}
use Rattle.clap.specs.Simple.{App, matches_of, new_app, new_rule, on_top, with_rule}
use Rattle.clap.specs.Walk.{Rule, first_of}
use Rattle.clap.specs.declared.builder.action.ArgAction.TheVariants.{Set}

-- one word has to follow
abbrev pub count_rule : Rule
count_rule = record (new_rule (codes "count")) { action = Some Set; required = true }

abbrev pub plain_app : App
plain_app = on_top (λ s. record s { disable_help_flag = true }) (new_app (codes "generate"))

abbrev pub generate_app : App
generate_app = with_rule plain_app count_rule

-- the word that stands for the count, where no fault is found
abbrev pub unless_faulty : Kinds → List (List ℕ) → Option (List ℕ)
unless_faulty [] words = first_of (codes "count") (matches_of generate_app words)
unless_faulty (fault ∷ faults) words = None

unfoldable pub count_word : List (List ℕ) → Option (List ℕ)
count_word words = unless_faulty (fault_of generate_app words) words
