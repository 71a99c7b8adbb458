-- What moves within a vector leave of the items behind its first cells.
use Rattle.std.proofs.Common.{◌≡◌, ◌∙◌, ◌<◌, ◌≤◌, ◌+◌, ◌-◌, ℕ, List, [], ◌∷◌, ◌++◌, length, get_or, set, take, drop, sym, ap, ap₂, arith}
use Rattle.std.specs.List.{copy_within, insert, remove_range}
use Rattle.std.proofs.lemmas.List.{append-nil, append_assoc, drop-append-le, drop-drop, drop-set-add, drop-take, drop_all, drop_at, drop_more, length-append, length-drop, length-take-le, set_at, take-append-le, take_all, take_at, take_more}
use Rattle.std.proofs.lemmas.List.Edits.{take-paste}
use lib.Seq.{paste}

-- from where a copy went
drop_copied : {X : Type 0} (xs : List X) (to n : ℕ) (ys : List X) → to ≤ length xs → drop to (paste xs to ys n) ≡ take n ys ++ drop (to + n) xs
drop_copied xs to n ys within =
    ap (drop to) (append_assoc (take to xs) (take n ys) (drop (to + n) xs)) ∙ drop_at (take to xs) (take n ys ++ drop (to + n) xs) to (length-take-le to xs within)

-- the first ones a cell forward, and one more behind them
pub opened : {X : Type 0} (xs : List X) (first at : ℕ) (x : X) → 0 < first → first + at ≤ length xs → drop (first - 1) (set (copy_within xs first (first + at) (first - 1)) (first + at - 1) x) ≡ insert (drop first xs) at x
opened xs first at x some within =
    let rest = drop first xs in
    let gap = (first - 1) + at in
    let count : first + at - first ≡ at = omega arith in
    let place : first + at - 1 ≡ gap = omega (arith, some) in
    let next : gap + 1 ≡ first + at = omega (arith, some) in
    let few : at ≤ length rest = omega (arith, within, length-drop first xs) in
    ap₂ (λ n k. drop (first - 1) (set (paste xs (first - 1) rest n) k x)) count place
    ∙ drop-set-add (first - 1) (paste xs (first - 1) rest at) at x
    ∙ ap (λ l. set l at x) (drop_copied xs (first - 1) at rest (omega (arith, within)) ∙ ap (λ l. take at rest ++ l) (drop_more xs gap x (omega (arith, some, within))))
    ∙ set_at (take at rest) (get_or xs gap x) (drop (gap + 1) xs) x at (length-take-le at rest few)
    ∙ ap (λ l. take at rest ++ x ∷ l) (ap (λ k. drop k xs) next ∙ sym (drop-drop at first xs))

-- those behind a range over it
pub closed_behind : {X : Type 0} (xs : List X) (first from until len left : ℕ) → from ≤ until → first + until ≤ len → len ≡ length xs → left ≡ len - (until - from) → drop first (take left (copy_within xs (first + until) len (first + from))) ≡ remove_range (drop first xs) from until
closed_behind xs first from until len left ordered within full is =
    let behind = drop (first + until) xs in
    let count : left ≡ (first + from) + (len - (first + until)) = omega (arith, is, ordered, within) in
    let size : length behind ≡ len - (first + until) = omega (arith, full, length-drop (first + until) xs) in
    let front : length (take (first + from) xs) ≡ first + from = length-take-le (first + from) xs (omega (arith, ordered, within, full)) in
    ap (λ n. drop first (take n (paste xs (first + from) behind (len - (first + until))))) count
    ∙ ap (drop first) (take-paste xs (first + from) behind (len - (first + until)) (omega (arith, ordered, within, full)) (omega (arith, size)) ∙ ap (λ l. take (first + from) xs ++ l) (take_all (len - (first + until)) behind (omega (arith, size))))
    ∙ drop-append-le first (take (first + from) xs) behind (omega (arith, front))
    ∙ ap₂ (λ a b. a ++ b) (drop-take first from xs) (sym (drop-drop until first xs))

-- one more, which came last: those from its place on a cell back, and it is written there
pub made_room : {X : Type 0} (xs more : List X) (at len : ℕ) (x : X) → at ≤ len → len ≡ length xs → more ≡ xs ++ x ∷ [] → set (copy_within more at len (at + 1)) at x ≡ insert xs at x
made_room xs more at len x within full is =
    let old = get_or more at x in
    let size : length more ≡ len + 1 = omega (arith, full, ap length is, length-append xs (x ∷ [])) in
    let inside : at ≤ length xs = omega (arith, within, full) in
    let before : take (at + 1) more ≡ take at xs ++ old ∷ [] = take_more more at x (omega (arith, within, size)) ∙ ap (λ l. l ++ old ∷ []) (ap (take at) is ∙ take-append-le at xs (x ∷ []) inside) in
    let behind : take (len - at) (drop at more) ≡ drop at xs =
    ap (take (len - at)) (ap (drop at) is ∙ drop-append-le at xs (x ∷ []) inside) ∙ take_at (drop at xs) (x ∷ []) (len - at) (omega (arith, full, length-drop at xs)) in
    let over : drop (at + 1 + (len - at)) more ≡ [] = drop_all (at + 1 + (len - at)) more (omega (arith, size, within)) in
    ap (λ l. set l at x) (
    ap₂ (λ a b. a ++ b) (ap₂ (λ a b. a ++ b) before behind) over
    ∙ append-nil ((take at xs ++ old ∷ []) ++ drop at xs)
    ∙ append_assoc (take at xs) (old ∷ []) (drop at xs))
    ∙ set_at (take at xs) old (drop at xs) x at (length-take-le at xs inside)

-- one more among those behind the first cells
pub put_behind : {X : Type 0} (xs : List X) (first at : ℕ) (x : X) → first + at ≤ length xs → drop first (insert xs (first + at) x) ≡ insert (drop first xs) at x
put_behind xs first at x within =
    let front : length (take (first + at) xs) ≡ first + at = length-take-le (first + at) xs within in
    drop-append-le first (take (first + at) xs) (x ∷ drop (first + at) xs) (omega (arith, front))
    ∙ ap₂ (λ a b. a ++ x ∷ b) (drop-take first at xs) (sym (drop-drop at first xs))
