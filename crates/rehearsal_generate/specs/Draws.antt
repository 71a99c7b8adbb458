-- The draws of generated work: a sequence of numbers that looks random.
use Rattle.std.specs.Prelude.{◌+◌, ◌*◌, ◌/◌, ◌%◌, ◌^◌, ◌==◌, Bool, ℕ}

-- each draw takes the seed on, modulo 2^64
unfoldable pub next_seed : ℕ → ℕ
next_seed seed = (seed * 6364136223846793005 + 1442695040888963407) % 2 ^ 64

-- the number that is drawn where the seed came to this: its upper 31 bits
unfoldable pub drawn : ℕ → ℕ
drawn seed = seed / 2 ^ 33

-- ---- what the number says of a message
-- a host crashes before it
abbrev pub is_crash : ℕ → Bool
is_crash number = number % 64 == 0

-- it is lost
abbrev pub is_loss : ℕ → Bool
is_loss number = number % 8 == 1
