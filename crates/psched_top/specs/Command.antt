-- The grammar of the words.
use Rattle.std.specs.Prelude.{ℕ, Bool, true, false, nat_le, ◌||◌, List, [], ◌∷◌, map, String, Option, Some, None, option_and_then, if◌then◌else◌, codes}
use Rattle.std.specs.Str.{bytes_eq}
use Rattle.std.specs.String.{string_bytes}
use Rattle.ps_time.specs.Number.{decimal_of}
use Rattle.psched_top.specs.Words.{count_word}
use Rattle.psched_top.specs.declared.command.Command.{Command}
use Rattle.psched_top.specs.declared.command.Command.TheVariants.{Rehearse, ValidateLimits, Generate, Help, Version}

-- ---- commands of one word
abbrev pub command_of_word : List ℕ → Option Command
command_of_word word =
    if bytes_eq word (codes "rehearse") then Some Rehearse
    else if bytes_eq word (codes "validate-limits") then Some ValidateLimits
    else if bytes_eq word (codes "--help") then Some Help
    else if bytes_eq word (codes "--version") then Some Version
    else None

-- there is one word, and no more
abbrev pub one_word : List (List ℕ) → Option Command
one_word (word ∷ []) = command_of_word word
one_word _ = None

-- ---- `generate N`
abbrev pub is_generate : List (List ℕ) → Bool
is_generate [] = false
is_generate (word ∷ words) = bytes_eq word (codes "generate")

abbrev pub most_posts : ℕ
most_posts = 2000

abbrev pub generating : ℕ → Option Command
generating count = if nat_le count most_posts then Some (Generate count) else None

-- the count has 1 to 10 digits
unfoldable pub generate_of : List ℕ → Option Command
generate_of word = option_and_then generating (decimal_of 1 10 word)

-- ---- the command that the words name
unfoldable pub command_of : List (List ℕ) → Option Command
command_of words = if is_generate words then option_and_then generate_of (count_word words) else one_word words

abbrev pub asked : {Z : Type 0} → List (String Z) → Option Command
asked words = command_of (map string_bytes words)

-- it is a command that reads the input
abbrev pub takes_input : Option Command → Bool
takes_input (Some Rehearse) = true
takes_input (Some ValidateLimits) = true
takes_input (Some (Generate count)) = false
takes_input (Some Help) = false
takes_input (Some Version) = false
takes_input None = false

-- memory may run out to it, or to the reading of its words
abbrev pub wants_memory : {Z : Type 0} → List (String Z) → Bool
wants_memory words = is_generate (map string_bytes words) || takes_input (asked words)
