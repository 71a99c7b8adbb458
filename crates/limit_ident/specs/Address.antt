-- Addresses of the internet protocol: which texts write them, and which lie in a block.
use Rattle.std.specs.Prelude.{◌≡◌, ℕ, ◌-◌, ◌/◌, ◌^◌, ◌==◌, ◌&&◌, Bool, false, nat_lt, eqb, List, length, slice_index, Option, Some, None, option_map, if◌then◌else◌}
use Rattle.std.specs.Int.{w32, w128, from_be_bytes}
use Rattle.std.specs.List.{list_any, position_or_len, before_first, after_first}
use Rattle.std.specs.Net.Addr.{ipv4_bits, ipv6_bits, octets_of}
use Rattle.std.specs.Net.Grammar.{IsIpv4Text, IsIpv6Text}
use Rattle.std.specs.Net.Reader.{read_ipv4, read_ipv6, whole_value}
use Rattle.std.specs.declared.net.ipv4_addr.Ipv4Addr.{Ipv4Addr}
use Rattle.std.specs.declared.net.ipv6_addr.Ipv6Addr.{Ipv6Addr}
use Rattle.ps_time.specs.Number.{decimal_of}
use Rattle.limit_ident.specs.declared.address.Address.{Address}
use Rattle.limit_ident.specs.declared.address.Address.TheVariants.{V4, V6}
use Rattle.limit_ident.specs.declared.address.Block.{Block}

-- four decimals from 0 to 255 without leading zeros, with dots between them
unfoldable pub ipv4_of : List ℕ → Option ℕ
ipv4_of bs = option_map (from_be_bytes w32) (whole_value (read_ipv4 bs))

-- eight groups of 1 to 4 hexadecimal digits with colons between them, or fewer with one `::` for one zero group or
-- more (RFC 4291, 2.2, but for texts that end in an IPv4 address)
unfoldable pub ipv6_of : List ℕ → Option ℕ
ipv6_of bs = if list_any (λ b. b == 46) bs then None else option_map (λ groups. from_be_bytes w128 (octets_of groups)) (whole_value (read_ipv6 bs))

-- the address that a text writes
abbrev pub address_of : List ℕ → Option Address
address_of bs = first (ipv4_of bs) (ipv6_of bs)
  where
    first : Option ℕ → Option ℕ → Option Address
    first (Some a) other = Some (V4 a)
    first None (Some a) = Some (V6 a)
    first None None = None

-- ---- the grammar, as std states it: which texts write an address
-- `IsDotted`: four decimals below 256, without leading zeros, with dots between them
abbrev pub WritesIpv4 : List ℕ → ℕ → Type 0
WritesIpv4 bs n = (a : Ipv4Addr) × IsIpv4Text bs a × (n ≡ ipv4_bits a)

-- `IsColonHex`: groups with colons between them, where `::` may stand for one zero group or more (RFC 4291, 2.2); no dot among them
abbrev pub WritesIpv6 : List ℕ → ℕ → Type 0
WritesIpv6 bs n = (a : Ipv6Addr) × IsIpv6Text bs a × (list_any (λ b. b == 46) bs ≡ false) × (n ≡ ipv6_bits a)

abbrev pub Writes : List ℕ → Address → Type 0
Writes bs (V4 n) = WritesIpv4 bs n
Writes bs (V6 n) = WritesIpv6 bs n

-- what was read is written; where nothing was read, nothing is
abbrev pub IsReading : {A : Type 0} → (A → Type 0) → Option A → Type 0
IsReading {A} writes None = (a : A) → writes a → ⊥
IsReading writes (Some a) = writes a

-- ---- blocks

abbrev pub width : Address → ℕ
width (V4 a) = 32
width (V6 a) = 128

-- up to three decimal digits, without leading zeros
abbrev pub block_length : List ℕ → Option ℕ
block_length bs = if nat_lt 1 (length bs) && (slice_index bs 0 == 48) then None else decimal_of 1 3 bs

abbrev pub is_slash : ℕ → Bool
is_slash b = eqb b 47

-- an address whole, or an address, a slash and how many of its first bits count
abbrev pub block_of : List ℕ → Option Block
block_of bs =
    if nat_lt (position_or_len is_slash bs) (length bs) then long (address_of (before_first is_slash bs)) (block_length (after_first is_slash bs))
    else option_map (λ a. record { address = a; free_bits = 0 }) (address_of bs)
  where
    long : Option Address → Option ℕ → Option Block
    long None n = None
    long (Some a) None = None
    long (Some a) (Some n) = if nat_lt (width a) n then None else Some (record { address = a; free_bits = width a - n })

-- two numbers agree in all bits but the last so many
abbrev pub agree : ℕ → ℕ → ℕ → Bool
agree free a b = a / 2 ^ free == b / 2 ^ free

abbrev pub is_within : Block → Address → Bool
is_within block address = same_kind block.address address
  where
    same_kind : Address → Address → Bool
    same_kind (V4 a) (V4 b) = agree block.free_bits a b
    same_kind (V6 a) (V6 b) = agree block.free_bits a b
    same_kind (V4 a) (V6 b) = false
    same_kind (V6 a) (V4 b) = false
