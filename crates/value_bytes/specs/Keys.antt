-- Keys, askers, intervals, windows and tiers as bytes.
use Rattle.std.specs.Prelude.{◌<◌, ◌^◌, ◌≡◌, ◌≤◌, Bool, List, None, Option, Some, cond, false, if◌then◌else◌, nat_le, nat_lt, refl, true, ℕ}
use Rattle.std.proofs.Common.{arith}
use Rattle.std.proofs.lemmas.Bool.{le-leb, lt-ltb}
use Rattle.ps_time.specs.Span.{Range, Span}
use Rattle.ps_time.specs.declared.asker.Asker.{Asker}
use Rattle.ps_time.specs.declared.key.RunKey.{RunKey}
use Rattle.ps_time.specs.declared.tiers.Tiers.{Tiers}
use Rattle.value_bytes.specs.Codec.{◌&◌, Codec, built, list, number_16, number_32, number_64, partly, text}
use Rattle.value_bytes.specs.Laws.{IsCodec}
use Rattle.value_bytes.specs.ListLaws.{list_is}
use Rattle.value_bytes.specs.NumberLaws.{number_16_is, number_32_is, number_64_is}
use Rattle.value_bytes.specs.PairLaws.{built_is, pair_is, partly_is, some_is}
use Rattle.value_bytes.specs.TextLaws.{text_is}

-- ---- a key: lead, task, number, attempt
abbrev pub KeyParts : Type 0
KeyParts = ℕ × (ℕ × (ℕ × ℕ))

abbrev pub key_of : KeyParts → RunKey
key_of p = record { lead = p.0; task = p.1.0; number = p.1.1.0; attempt = p.1.1.1 }

abbrev pub parts_of_key : RunKey → KeyParts
parts_of_key k = (k.lead, (k.task, (k.number, k.attempt)))

abbrev pub key : Codec RunKey
key = built key_of parts_of_key (number_16 & (number_32 & (number_32 & number_16)))

pub key_is : IsCodec key
key_is = built_is key_of parts_of_key (λ k. refl) (λ p. refl) (pair_is number_16_is (pair_is number_32_is (pair_is number_32_is number_16_is)))

-- ---- who asks: requester, server
abbrev pub asker_of : List ℕ × List ℕ → Asker
asker_of p = record { requester = p.0; server = p.1 }

abbrev pub parts_of_asker : Asker → List ℕ × List ℕ
parts_of_asker a = (a.requester, a.server)

abbrev pub asker : Codec Asker
asker = built asker_of parts_of_asker (text & text)

pub asker_is : IsCodec asker
asker_is = built_is asker_of parts_of_asker (λ a. refl) (λ p. refl) (pair_is text_is text_is)

-- ---- an interval: start, and an end after it
abbrev pub interval_of : ℕ × ℕ → Option Span
interval_of p = if nat_lt p.0 p.1 then Some (record { start = p.0; end = p.1 }) else None

abbrev pub parts_of_interval : Span → ℕ × ℕ
parts_of_interval s = (s.start, s.end)

pub record IsInterval (s : Span) : Type 0 where
  pub ordered : s.start < s.end
  pub end : s.end < 2 ^ 64

abbrev pub interval : Codec Span
interval = partly interval_of parts_of_interval (λ s. Unit {0}) IsInterval (number_64 & number_64)

interval_back : (p : ℕ × ℕ) (s : Span) → interval_of p ≡ Some s → parts_of_interval s ≡ p
interval_back p s e = by (nat_lt p.0 p.1) e
  where
    by : (b : Bool) → cond b (Some (record { start = p.0; end = p.1 })) None ≡ Some s → parts_of_interval s ≡ p
    by true e = let same = some_is (record { start = p.0; end = p.1 }) s e in rw (← same) refl
    by false e = absurd cc

pub interval_is : IsCodec interval
interval_is = partly_is interval_of parts_of_interval (λ s. Unit {0}) IsInterval (λ s fits. rw (lt-ltb s.start s.end fits.ordered) refl) (λ s fits. (omega (arith, fits.ordered, fits.end), fits.end)) interval_back (pair_is number_64_is number_64_is)

-- ---- a window: its first start, and a last one that isn't before
abbrev pub window_of : ℕ × ℕ → Option Range
window_of p = if nat_le p.0 p.1 then Some (record { first = p.0; last = p.1 }) else None

abbrev pub parts_of_window : Range → ℕ × ℕ
parts_of_window w = (w.first, w.last)

pub record IsRange (w : Range) : Type 0 where
  pub ordered : w.first ≤ w.last
  pub last : w.last < 2 ^ 64

abbrev pub window : Codec Range
window = partly window_of parts_of_window (λ w. Unit {0}) IsRange (number_64 & number_64)

window_back : (p : ℕ × ℕ) (w : Range) → window_of p ≡ Some w → parts_of_window w ≡ p
window_back p w e = by (nat_le p.0 p.1) e
  where
    by : (b : Bool) → cond b (Some (record { first = p.0; last = p.1 })) None ≡ Some w → parts_of_window w ≡ p
    by true e = let same = some_is (record { first = p.0; last = p.1 }) w e in rw (← same) refl
    by false e = absurd cc

pub window_is : IsCodec window
window_is = partly_is window_of parts_of_window (λ w. Unit {0}) IsRange (λ w fits. rw (le-leb w.first w.last fits.ordered) refl) (λ w fits. (omega (arith, fits.ordered, fits.last), fits.last)) window_back (pair_is number_64_is number_64_is)

-- ---- tiers: the first, the second
abbrev pub tiers_of : List Range × List Range → Tiers
tiers_of p = record { first = p.0; second = p.1 }

abbrev pub parts_of_tiers : Tiers → List Range × List Range
parts_of_tiers t = (t.first, t.second)

abbrev pub tiers : Codec Tiers
tiers = built tiers_of parts_of_tiers (list window & list window)

pub tiers_is : IsCodec tiers
tiers_is = built_is tiers_of parts_of_tiers (λ t. refl) (λ p. refl) (pair_is (list_is window window_is) (list_is window window_is))
