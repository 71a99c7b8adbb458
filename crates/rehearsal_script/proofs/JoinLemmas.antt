-- Parts with a space between each two.
use Rattle.std.proofs.Common.{◌≡◌, ℕ, ◌-◌, ◌≤◌, List, [], ◌∷◌, ◌++◌, length, map, take, drop, refl, ap, sym, ◌∙◌, arith}
use Rattle.std.proofs.lemmas.List.{append-nil, drop-map, length-drop, take_all}
use Rattle.std.specs.Borrow.{Bor}
use Rattle.std.specs.List.{join_by, join_with_byte}

pub spaced_parts : (parts : List (Bor (List ℕ))) → join_by (λ x. x.now) (32 ∷ []) parts ≡ join_with_byte 32 (map (λ x. x.now) parts)
spaced_parts [] = refl
spaced_parts (x ∷ []) = append-nil x.now
spaced_parts (x ∷ y ∷ parts) = ap (λ w. x.now ++ (32 ∷ w)) (spaced_parts (y ∷ parts))

-- the parts of a slice from a place on, where the slice is seen as these fields
pub rest_parts : (slice parts : List (Bor (List ℕ))) (fields : List (List ℕ)) (place : ℕ) → slice ≡ parts → map (λ x. x.now) parts ≡ fields → map (λ x. x.now) (take (length slice - place) (drop place slice)) ≡ drop place fields
rest_parts slice parts fields place same seen =
    let shown : List (Bor (List ℕ)) → List (List ℕ) = map (λ x. x.now) in
    let whole : length (drop place slice) ≤ length slice - place = simp length-drop (omega arith) in
    ap shown (take_all (length slice - place) (drop place slice) whole) ∙ (sym (drop-map (λ x. x.now) place slice) ∙ ap (drop place) (ap shown same ∙ seen))
