-- The identifier of a run is read as that of the run.
use Rattle.std.proofs.Common.{◌%◌, ◌*◌, ◌+◌, ◌/◌, ◌<◌, ◌^◌, ◌≡◌, ◌∙◌, Some, ap, arith, inl, option_map, refl, suc, sym, zero, ℕ}
use Rattle.std.proofs.lemmas.List.Elements.{All-cons, All-nil}
use Rattle.std.specs.Int.{byte_at, bytes_high_first, from_be_bytes, to_be_bytes, w128}
use Rattle.std.specs.List.{All}
use Rattle.std.specs.Prelude.{option_and_then}
use Rattle.uuid.proofs.OrderLemmas.{from_be_bytes-to_be_bytes_16}
use Rattle.uuid.proofs.RoundTrips.{parses_hyphenated}
use Rattle.uuid.specs.Text.{hyphenated_text, lower, parsed}
use Rattle.ps_time.specs.Id.{InRange, id_of, id_of_halves, uuid_of}
use Rattle.ps_time.specs.declared.id.Id.TheVariants.{Run}
use Rattle.ps_time.specs.declared.key.RunKey.{RunKey}
use Rattle.api_reply.specs.Shown.{run_text}
use Rattle.api_peer.specs.Meant.{IsReadKey}

remainder_small : (x : ℕ) → x % 256 < 256
remainder_small x = omega arith

byte_small : (i n : ℕ) → byte_at i n < 256
byte_small zero n = remainder_small n
byte_small (suc i) n = remainder_small (n / 256 ^ suc i)

bytes_small : (k n : ℕ) → All (λ b. b < 256) (bytes_high_first k n)
bytes_small zero n = All-nil (λ b. b < 256)
bytes_small (suc k) n = All-cons (λ b. b < 256) (byte_at k n) (bytes_high_first k n) (byte_small k n) (bytes_small k n)

-- the fields of the two halves
parts_back : (high low lead task number attempt : ℕ) → high / 2 ^ 12 % 2 ^ 4 ≡ 8 → low / 2 ^ 62 ≡ 2 → low / 2 ^ 48 % 2 ^ 14 ≡ 0 → high % 2 ^ 12 ≡ 1
    → high / 2 ^ 48 ≡ lead → high / 2 ^ 16 % 2 ^ 32 ≡ task → low / 2 ^ 16 % 2 ^ 32 ≡ number → low % 2 ^ 16 ≡ attempt
    → id_of_halves high low ≡ Some (Run (record { lead = lead; task = task; number = number; attempt = attempt }))
parts_back high low lead task number attempt version variant zeros kind hl ht hn ha = rw (version, variant, zeros, kind, hl, ht, hn, ha) refl

id_back : (k : RunKey) → InRange (Run k) → id_of (uuid_of (Run k)) ≡ Some (Run k)
id_back k is =
    let high = k.lead * 2 ^ 48 + k.task * 2 ^ 16 + 8 * 2 ^ 12 + 1 in
    let low = 2 * 2 ^ 62 + k.number * 2 ^ 16 + k.attempt in
    let upper : uuid_of (Run k) / 2 ^ 64 ≡ high = omega (arith, is) in
    let under : uuid_of (Run k) % 2 ^ 64 ≡ low = omega (arith, is) in
    rw (upper, under) (parts_back high low k.lead k.task k.number k.attempt (omega (arith, is)) (omega (arith, is)) (omega (arith, is)) (omega (arith, is)) (omega (arith, is)) (omega (arith, is)) (omega (arith, is)) (omega (arith, is)))

pub key_read : (k : RunKey) → InRange (Run k) → IsReadKey k
unfolding run_text
key_read k is =
    let bytes = to_be_bytes w128 (uuid_of (Run k)) in
    let read : parsed (hyphenated_text lower bytes) ≡ Some bytes = sym (parses_hyphenated lower bytes (inl refl) refl (bytes_small 16 (uuid_of (Run k)))) in
    let back : from_be_bytes w128 bytes ≡ uuid_of (Run k) = from_be_bytes-to_be_bytes_16 (uuid_of (Run k)) (omega (arith, is)) in
    ap (λ p. option_and_then id_of (option_map (from_be_bytes w128) p)) read ∙ (ap id_of back ∙ id_back k is)
