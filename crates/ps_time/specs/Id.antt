-- Identifiers: the UUID of a task or run, and what a UUID names.
use Rattle.std.specs.Prelude.{◌≡◌, ℕ, ◌+◌, ◌*◌, ◌/◌, ◌%◌, ◌^◌, ◌<◌, ◌==◌, ◌&&◌, List, Option, Some, None, if◌then◌else◌, option_map, option_and_then}
use Rattle.std.specs.Cmp.Lexicographic.{slice_cmp}
use Rattle.std.specs.Int.{w128, to_be_bytes, from_be_bytes}
use Rattle.std.specs.Ordering.{nat_cmp}
use Rattle.uuid.specs.Text.{parsed, hyphenated_text, lower}
use Rattle.ps_time.specs.declared.id.Id.{Id}
use Rattle.ps_time.specs.declared.id.Id.TheVariants.{Task, Run}
use Rattle.ps_time.specs.declared.key.RunKey.{RunKey}
use Rattle.ps_time.specs.Key.{key_cmp}

-- from the highest bit: lead 16, task 32, version 4 (8), kind 12, variant 2 (binary 10), zero 14, number 32, attempt 16
abbrev pub uuid_with : ℕ → ℕ → ℕ → ℕ → ℕ → ℕ
uuid_with lead task kind number attempt =
    (lead * 2 ^ 48 + task * 2 ^ 16 + 8 * 2 ^ 12 + kind) * 2 ^ 64 + (2 * 2 ^ 62 + number * 2 ^ 16 + attempt)

-- kind 0 is a task, with number and attempt 0; kind 1 is a run
abbrev pub uuid_of : Id → ℕ
uuid_of (Task lead task) = uuid_with lead task 0 0 0
uuid_of (Run k) = uuid_with k.lead k.task 1 k.number k.attempt

-- the fields of a UUID that has the version, the variant and the zero bits
abbrev pub id_with : ℕ → ℕ → ℕ → ℕ → ℕ → Option Id
id_with lead task kind number attempt =
    if kind == 0 then (if (number == 0) && (attempt == 0) then Some (Task lead task) else None)
    else if kind == 1 then Some (Run (record { lead = lead; task = task; number = number; attempt = attempt }))
    else None

-- the same by the halves of the UUID
abbrev pub id_of_halves : ℕ → ℕ → Option Id
id_of_halves high low =
    if (high / 2 ^ 12 % 2 ^ 4 == 8) && ((low / 2 ^ 62 == 2) && (low / 2 ^ 48 % 2 ^ 14 == 0))
    then id_with (high / 2 ^ 48) (high / 2 ^ 16 % 2 ^ 32) (high % 2 ^ 12) (low / 2 ^ 16 % 2 ^ 32) (low % 2 ^ 16)
    else None

-- what a UUID names; None outside the layout
abbrev pub id_of : ℕ → Option Id
id_of value = id_of_halves (value / 2 ^ 64) (value % 2 ^ 64)

-- lower-case hexadecimal digits and hyphens
abbrev pub id_text : Id → List ℕ
id_text id = hyphenated_text lower (to_be_bytes w128 (uuid_of id))

-- what a text names, in every form in which a UUID is written
abbrev pub id_of_text : List ℕ → Option Id
id_of_text text = option_and_then id_of (option_map (from_be_bytes w128) (parsed text))

-- the fields have their widths
abbrev pub InRange : Id → Type 0
InRange (Task lead task) = (lead < 2 ^ 16) × (task < 2 ^ 32)
InRange (Run k) = (k.lead < 2 ^ 16) × (k.task < 2 ^ 32) × (k.number < 2 ^ 32) × (k.attempt < 2 ^ 16)

-- identifiers of runs are ordered as their keys: as numbers, and as texts byte by byte
pub record OrderedAsKeys : Type 0 where
  pub numbers : (a b : RunKey) → InRange (Run a) → InRange (Run b) → nat_cmp (uuid_of (Run a)) (uuid_of (Run b)) ≡ key_cmp a b
  pub texts : (a b : RunKey) → InRange (Run a) → InRange (Run b) → slice_cmp nat_cmp (id_text (Run a)) (id_text (Run b)) ≡ key_cmp a b
