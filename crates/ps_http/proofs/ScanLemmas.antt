-- The places of the lines tell whether the head has ended.
use Rattle.std.proofs.Common.{◌≡◌, ◌==◌, ◌≤◌, ◌+◌, ◌-◌, ℕ, Bool, true, false, ◌&&◌, ◌||◌, List, [], ◌∷◌, ◌++◌, refl, sym, ap, ◌∙◌, arith, take, drop, take-add}
use Rattle.std.proofs.lemmas.Bool.{eqb-true}
use Rattle.ps_http.specs.Lines.{begins_empty, has_empty_line, has_head_end}
use Rattle.ps_http.specs.Scan.{is_ended, position_after, positions_after}
use Rattle.ps_http.specs.declared.lines.LinePosition.{LinePosition}
use Rattle.ps_http.specs.declared.lines.LinePosition.TheVariants.{Before, BeforeCr, Inside, Start, StartCr, Ended}

abbrev begins_feed : List ℕ → Bool
begins_feed [] = false
begins_feed (b ∷ bytes) = b == 10

-- whether the head ends in these bytes, from a place on
abbrev ends_from : LinePosition → List ℕ → Bool
ends_from Before bytes = has_head_end bytes
ends_from BeforeCr bytes = has_head_end (13 ∷ bytes)
ends_from Inside bytes = has_empty_line bytes
ends_from Start bytes = begins_empty bytes || has_empty_line bytes
ends_from StartCr bytes = begins_feed bytes || has_empty_line bytes
ends_from Ended bytes = true

ended_stays : (bytes : List ℕ) → is_ended (positions_after Ended bytes) ≡ true
ended_stays [] = refl
ended_stays (b ∷ bytes) = ended_stays bytes

head_feed : (b : ℕ) (bytes : List ℕ) → (b == 10) ≡ true → has_head_end (b ∷ bytes) ≡ has_head_end bytes
head_feed b [] feed = refl
head_feed b (c ∷ bytes) feed = rw feed refl

head_cr : (b : ℕ) (bytes : List ℕ) → (b == 13) ≡ true → has_head_end (b ∷ bytes) ≡ has_head_end (13 ∷ bytes)
head_cr b bytes cr = ap (λ a. has_head_end (a ∷ bytes)) (eqb-true b 13 cr)

head_other : (b : ℕ) (bytes : List ℕ) → (b == 10) ≡ false → (b == 13) ≡ false → has_head_end (b ∷ bytes) ≡ has_empty_line bytes
head_other b [] feed cr = refl
head_other b (c ∷ bytes) feed cr = rw (feed, cr) refl

begins_at : (b : ℕ) (bytes : List ℕ) → begins_empty (b ∷ bytes) ≡ (b == 10 || (b == 13 && begins_feed bytes))
begins_at b [] = by_test (b == 10) (b == 13)
  where
    by_test : (t u : Bool) → t ≡ (t || (u && false))
    by_test true u = refl
    by_test false true = refl
    by_test false false = refl
begins_at b (c ∷ bytes) = refl

pub positions-append : (place : LinePosition) (a b : List ℕ) → positions_after place (a ++ b) ≡ positions_after (positions_after place a) b
positions-append place [] b = refl
positions-append place (x ∷ a) b = positions-append (position_after place x) a b

-- the head has ended exactly where it has an end from that place on
pub scanned : (place : LinePosition) (bytes : List ℕ) → is_ended (positions_after place bytes) ≡ ends_from place bytes
scanned Ended bytes = ended_stays bytes
scanned Before [] = refl
scanned BeforeCr [] = refl
scanned Inside [] = refl
scanned Start [] = refl
scanned StartCr [] = refl
scanned Before (b ∷ bytes) = by_byte (scanned Before bytes) (scanned BeforeCr bytes) (scanned Inside bytes) (b == 10) (b == 13) refl refl
  where
    by_byte : is_ended (positions_after Before bytes) ≡ has_head_end bytes → is_ended (positions_after BeforeCr bytes) ≡ has_head_end (13 ∷ bytes)
        → is_ended (positions_after Inside bytes) ≡ has_empty_line bytes → (t u : Bool) → (b == 10) ≡ t → (b == 13) ≡ u
        → is_ended (positions_after Before (b ∷ bytes)) ≡ has_head_end (b ∷ bytes)
    by_byte blank cr inside true u feed _ = rw feed (blank ∙ sym (head_feed b bytes feed))
    by_byte blank cr inside false true feed is_cr = rw (feed, is_cr) (cr ∙ sym (head_cr b bytes is_cr))
    by_byte blank cr inside false false feed other = rw (feed, other) (inside ∙ sym (head_other b bytes feed other))
scanned BeforeCr (b ∷ bytes) = by_byte (scanned Before bytes) (scanned Inside bytes) (b == 10) refl
  where
    by_byte : is_ended (positions_after Before bytes) ≡ has_head_end bytes → is_ended (positions_after Inside bytes) ≡ has_empty_line bytes
        → (t : Bool) → (b == 10) ≡ t → is_ended (positions_after BeforeCr (b ∷ bytes)) ≡ has_head_end (13 ∷ b ∷ bytes)
    by_byte blank inside true feed = rw feed blank
    by_byte blank inside false other = rw other inside
scanned Inside (b ∷ bytes) = grind (arith, scanned Start bytes, scanned Inside bytes)
scanned Start (b ∷ bytes) = grind (arith, begins_at b bytes, scanned StartCr bytes, scanned Ended bytes, scanned Inside bytes)
scanned StartCr (b ∷ bytes) = grind (arith, scanned Ended bytes, scanned Inside bytes)

-- from the start of a message on
pub scanned_head : (bytes : List ℕ) → is_ended (positions_after Before bytes) ≡ has_head_end bytes
scanned_head bytes = scanned Before bytes

-- the place behind the first upto bytes, from the place behind the first seen
pub placed_more : (held : List ℕ) (place : LinePosition) (seen upto : ℕ) → seen ≤ upto → place ≡ positions_after Before (take seen held)
    → positions_after place (take (upto - seen) (drop seen held)) ≡ positions_after Before (take upto held)
placed_more held place seen upto order placed =
    let all : seen + (upto - seen) ≡ upto = omega (arith, order) in
    ap (λ p. positions_after p (take (upto - seen) (drop seen held))) placed ∙ sym (positions-append Before (take seen held) (take (upto - seen) (drop seen held)))
    ∙ ap (positions_after Before) (sym (take-add seen (upto - seen) held) ∙ ap (λ n. take n held) all)
