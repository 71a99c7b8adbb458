-- What std's readers of addresses give, as a function of the text.
use Rattle.std.proofs.Common.{nat_le, ◌==◌, true, false, ◌≡◌, ℕ, List, [], ◌∷◌, ◌<◌, ◌≤◌, ◌^◌, ◌/◌, arith, length, Option, Some, None, option_map, eqb, append-nil, sym, refl, ◌∙◌, ap, lit≤, MatchOption}
use Rattle.std.specs.Borrow.{Bor}
use Rattle.std.specs.Int.{w32, w128, from_be_bytes}
use Rattle.std.specs.List.{list_any, position_or_len, before_first, after_first}
use Rattle.std.specs.declared.net.ipv4_addr.Ipv4Addr.{Ipv4Addr}
use Rattle.std.specs.declared.net.ipv6_addr.Ipv6Addr.{Ipv6Addr}
use Rattle.std.specs.Net.Addr.{ipv4_bits, ipv6_bits, octets_of}
use Rattle.std.specs.Net.Grammar.{IsIpv4Text, IsIpv6Text}
use Rattle.std.specs.Net.Reader.{Read, read_ipv4, read_ipv6, whole_value}
use Rattle.std.proofs.NetLemmas.Ipv4.{read_ipv4_complete, read_ipv4_sound}
use Rattle.std.proofs.NetLemmas.Ipv6.{read_ipv6_complete, read_ipv6_sound, EndsGroups-nil}
use Rattle.limit_ident.specs.Address.{ipv4_of, ipv6_of, agree, IsReading, Writes, WritesIpv4, WritesIpv6}
use Rattle.limit_ident.specs.declared.address.Address.TheVariants.{V4, V6}
use Rattle.std.proofs.lemmas.Bool.Decides.{nat_tests}
use Rattle.std.proofs.lemmas.Nat.{div_below}
use Rattle.std.proofs.Math.Pow.{pow_mono}
use Rattle.std.proofs.lemmas.Str.Pattern.{IsSplitOnceResult, split_once_first}

pub ipv4_read : (bs : List ℕ) (a : Ipv4Addr) → IsIpv4Text bs a → Some (ipv4_bits a) ≡ ipv4_of bs
unfolding ipv4_bits ipv4_of
ipv4_read bs a spelled = ap (λ o. option_map (from_be_bytes w32) (whole_value o)) (sym (ap read_ipv4 (sym (append-nil bs)) ∙ read_ipv4_complete bs _ [] spelled (lit≤ tt)))

pub ipv4_refused : (bs : List ℕ) → ((a : Ipv4Addr) → ¬ (IsIpv4Text bs a)) → None ≡ ipv4_of bs
unfolding ipv4_of
ipv4_refused bs unspelled = none (read_ipv4 bs) refl
  where
    none : (o : Read (List ℕ)) → read_ipv4 bs ≡ o → None ≡ option_map (from_be_bytes w32) (whole_value o)
    none None is = refl
    none (Some (octets, [])) is = let sound = read_ipv4_sound bs octets [] is in
        absurd (unspelled (record { octets = octets }) (rw (sound.1 ∙ append-nil sound.0) sound.2))
    none (Some (octets, b ∷ rest)) is = grind (arith, nat_tests)

pub dotted_ipv6 : (bs : List ℕ) → list_any (λ b. b == 46) bs ≡ true → None ≡ ipv6_of bs
unfolding ipv6_of
dotted_ipv6 bs dot = rw dot refl

pub ipv6_read : (bs : List ℕ) (a : Ipv6Addr) → list_any (λ b. b == 46) bs ≡ false → IsIpv6Text bs a → Some (ipv6_bits a) ≡ ipv6_of bs
unfolding ipv6_bits ipv6_of
ipv6_read bs a no_dot spelled = rw no_dot (ap (λ o. option_map (λ groups. from_be_bytes w128 (octets_of groups)) (whole_value o)) (sym (ap read_ipv6 (sym (append-nil bs)) ∙ read_ipv6_complete bs _ [] spelled EndsGroups-nil)))

pub ipv6_refused : (bs : List ℕ) → list_any (λ b. b == 46) bs ≡ false → ((a : Ipv6Addr) → ¬ (IsIpv6Text bs a)) → None ≡ ipv6_of bs
unfolding ipv6_of
ipv6_refused bs no_dot unspelled = rw no_dot (none (read_ipv6 bs) refl)
  where
    none : (o : Read (List ℕ)) → read_ipv6 bs ≡ o → None ≡ option_map (λ groups. from_be_bytes w128 (octets_of groups)) (whole_value o)
    none None is = refl
    none (Some (segments, [])) is = let sound = read_ipv6_sound bs segments [] is in
        absurd (unspelled (record { segments = segments }) (rw (sound.1 ∙ append-nil sound.0) sound.2))
    none (Some (segments, b ∷ rest)) is = grind (arith, nat_tests)

-- a text that writes an address of neither kind writes none
pub none_written : (bs : List ℕ) → IsReading (WritesIpv4 bs) None → IsReading (WritesIpv6 bs) None → IsReading (Writes bs) None
none_written bs no_four no_six (V4 n) written = no_four n written
none_written bs no_four no_six (V6 n) written = no_six n written

pub split : (bs : List ℕ) (r : Option (Bor (List ℕ) × Bor (List ℕ))) → IsSplitOnceResult 47 bs r → MatchOption r (position_or_len (λ b. eqb b 47) bs ≡ length bs) (λ x. (position_or_len (λ b. eqb b 47) bs < length bs) × (x.0.now ≡ before_first (λ b. eqb b 47) bs) × (x.1.now ≡ after_first (λ b. eqb b 47) bs))
split bs r is = split_once_first 47 bs r is (lit≤ tt)

-- bits past the end don't count
far_shifted : (a k : ℕ) → a < 2 ^ 128 → 128 ≤ k → a / 2 ^ k ≡ 0
far_shifted a k small far = shifted a (2 ^ k) small (pow_mono {i = 128} {j = k} far)
  where
    shifted : (a p : ℕ) → a < 2 ^ 128 → 2 ^ 128 ≤ p → a / p ≡ 0
    shifted a p small far = omega (arith, div_below a p 1 (omega (arith, far)) (omega (arith, small, far)))

pub far_agree : (a b k : ℕ) → a < 2 ^ 128 → b < 2 ^ 128 → 128 ≤ k → nat_le 128 k ≡ agree k a b
far_agree a b k small_a small_b far = rw (far_shifted a k small_a far, far_shifted b k small_b far) grind (arith, nat_tests, far)
