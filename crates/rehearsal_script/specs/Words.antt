-- The forms of a line's fields.
use Rattle.std.specs.Prelude.{ℕ, ℤ, pos, ◌-ℤ◌, Bool, ◌==◌, ◌&&◌, nat_le, List, [], ◌∷◌, length, Option, Some, None, option_map, option_and_then, if◌then◌else◌, codes}
use Rattle.std.specs.List.{list_all, slice_split}
use Rattle.std.specs.Str.{bytes_eq}
use Rattle.ps_disks.specs.declared.image.Image.{Image}
use Rattle.ps_disks.specs.declared.image.Image.TheVariants.{Old, New, Torn}
use Rattle.ps_time.specs.Number.{decimal_of}
use Rattle.ps_time.specs.Numbers.{greatest_moment}
use Rattle.plugin_core.specs.ReadTest.{all_differ}
use Rattle.task_spec.specs.ReadTask.{is_tool}

-- the value, where it lies from low to high
abbrev pub within : ℕ → ℕ → ℕ → Option ℕ
within low high n = if nat_le low n && nat_le n high then Some n else None

-- a number from low to high: 1 to 10 digits
unfoldable pub number_of : ℕ → ℕ → List ℕ → Option ℕ
number_of low high field = option_and_then (within low high) (decimal_of 1 10 field)

-- T, START
abbrev pub moment_of : List ℕ → Option ℕ
moment_of field = number_of 0 greatest_moment field

-- N, K: any number of 1 to 10 digits
unfoldable pub numeral_of : List ℕ → Option ℕ
numeral_of field = decimal_of 1 10 field

-- IMAGE
abbrev pub image_of : List ℕ → Option Image
image_of field =
    if bytes_eq field (codes "old") then Some Old
    else if bytes_eq field (codes "new") then Some New
    else if bytes_eq field (codes "torn") then Some Torn
    else None

-- PRIORITY, from -1000 to 1000: the digits of its size, after '-' where it is negative
unfoldable pub priority_of : List ℕ → Option ℤ
priority_of [] = None
priority_of (c ∷ cs) =
    if c == 45 then option_map (λ n. pos 0 -ℤ pos n) (number_of 0 1000 cs)
    else option_map (λ n. pos n) (number_of 0 1000 (c ∷ cs))

-- ADDRESS: at most 255 bytes
abbrev pub is_address : List ℕ → Bool
is_address field = nat_le (length field) 255

-- `T,T`: the names between commas, where each is of a tool and none stands there twice
unfoldable pub tools_of : List ℕ → Option (List (List ℕ))
tools_of field = if list_all is_tool names && all_differ names then Some names else None
  where
    names : List (List ℕ)
    names = slice_split (λ b. b == 44) field
