-- Bytes that are no text.
use Rattle.std.proofs.Common.{◌≡◌, ℕ, true, false, List, refl}
use Rattle.std.specs.Str.{IsUtf8, is_utf8}
use Rattle.std.proofs.lemmas.Str.{IsUtf8-from_is_utf8}

-- the test fails on them
pub not_text : (bs : List ℕ) → ¬ IsUtf8 bs → false ≡ is_utf8 bs
not_text bs other =
    let cases = elim (is_utf8 bs) as (λ b. is_utf8 bs ≡ b → false ≡ b) [
      | true ↦ λ yes. absurd (other (IsUtf8-from_is_utf8 bs yes))
      | false ↦ λ _. refl
    ] in
    cases refl
