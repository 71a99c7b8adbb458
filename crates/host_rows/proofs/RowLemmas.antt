-- What is counted over rows, as one of them changes, comes or goes.
use Rattle.std.proofs.Common.{◌≡◌, ℕ, zero, suc, ◌+◌, ◌≤◌, Bool, true, false, not, cond, ◌&&◌, List, [], ◌∷◌, map, sum, Option, Some, None, option_map, option_and_then, IfSome, length, refl, ap, ap₂, sym, subst, ◌∙◌, arith}
use Rattle.std.proofs.lemmas.List.Sums.{sum_by-cons}
use Rattle.std.specs.List.{AllByRecursion}
use Rattle.std.specs.Ordering.{is_eq, match_ordering, ordering_reverse}
use Rattle.std.specs.declared.cmp.Ordering.{Ordering}
use Rattle.std.specs.declared.cmp.Ordering.TheVariants.{Less, Equal, Greater}
use Rattle.ps_time.specs.Key.{key_cmp}
use Rattle.ps_time.specs.declared.key.RunKey.{RunKey}
use Rattle.ps_time.proofs.KeyLemmas.{key_cmp_same, key_cmp_total}
use Rattle.run_states.specs.Effect.{accept_row, change_at, change_other, confirmed_complete, confirmed_if, is_acceptance, is_alone, is_complete, noted_row, with_answer}
use Rattle.run_states.specs.Life.{first_there, is_booked, closed_by, lapse_of, marked_row, settled_row, settled_rows}
use Rattle.run_states.specs.ResultBytes.{bytes_in, other_result, result_bytes, row_bytes}
use Rattle.run_states.specs.Rows.{find_row, put_row, lift_row, change_row, IsAscendingRows}
use Rattle.run_states.specs.declared.answer.Answer.{Answer}
use Rattle.run_states.specs.declared.answer.Answer.TheVariants.{Free, Accepted, Acknowledged, Result}
use Rattle.run_states.specs.declared.answer.Told.TheVariants.{Confirm as told_confirm, Cancel as told_cancel, Material as told_material}
use Rattle.run_states.specs.declared.answer.Other.{Other}
use Rattle.run_states.specs.declared.fact.Fact.{Fact}
use Rattle.run_states.specs.declared.fact.Fact.TheVariants.{Planned, Answered, MaterialHeard, Merged, Tried}
use Rattle.run_states.specs.declared.life.LifeStep.{LifeStep}
use Rattle.run_states.specs.declared.life.LifeStep.TheVariants.{Confirm, Start, End, Close}
use Rattle.run_states.specs.declared.row.Ending.{Ending}
use Rattle.run_states.specs.declared.row.RunRow.{RunRow}
use Rattle.run_states.specs.declared.why.Closing.{Closing}
use Rattle.run_states.proofs.Place.{key_is}
use Rattle.host_rows.specs.Ledger.{answer_bytes, bytes_at, counted_at, fact_bytes, step_bytes}

-- ---- sums
-- what is counted of one row more
pub count_cons : (count : RunRow → ℕ) (r : RunRow) (rs : List RunRow) → sum (map count (r ∷ rs)) ≡ count r + sum (map count rs)
count_cons count r rs = sum_by-cons (λ n. n) (count r) (map count rs)

-- its bytes
pub bytes_cons : (r : RunRow) (rs : List RunRow) → result_bytes (r ∷ rs) ≡ row_bytes r + result_bytes rs
bytes_cons r rs = count_cons row_bytes r rs

other_way : (a b : ℕ) → a + b ≡ b + a
other_way a b = omega arith

swapped : (a b c d x y z : ℕ) → a ≡ x + y → c ≡ x + z → y + b ≡ z + d → a + b ≡ c + d
swapped a b c d x y z e f g = omega (arith, e, f, g)

swapped_own : (a b c d z : ℕ) → a ≡ d + z → c ≡ b + z → a + b ≡ c + d
swapped_own a b c d z e f = omega (arith, e, f)

-- ---- one row among ascending ones
-- keys above another are others
pub above_other : (k : RunKey) (rs : List RunRow) → AllByRecursion (λ y. key_cmp k y.key ≡ Less) rs → AllByRecursion (λ y. is_eq (key_cmp y.key k) ≡ false) rs
above_other k [] all = tt
above_other k (r ∷ rs) all = (ap is_eq (key_cmp_total.antisymm r.key k ∙ ap ordering_reverse all.0), above_other k rs all.1)

-- a row that is found behind another is found
found_behind : (r : RunRow) (rs xs : List RunRow) → AllByRecursion (λ y. key_cmp r.key y.key ≡ Less) xs → AllByRecursion (λ x. find_row rs x.key ≡ Some x) xs → AllByRecursion (λ x. find_row (r ∷ rs) x.key ≡ Some x) xs
found_behind r rs [] above found = tt
found_behind r rs (x ∷ xs) above found = (ap (λ z. cond (is_eq z) (Some r) (find_row rs x.key)) above.0 ∙ found.0, found_behind r rs xs above.1 found.1)

-- each row is found by its key
pub each_found : (rows : List RunRow) → IsAscendingRows rows → AllByRecursion (λ x. find_row rows x.key ≡ Some x) rows
each_found [] up = tt
each_found (r ∷ rs) up = (ap (λ z. cond (is_eq z) (Some r) (find_row rs r.key)) (key_cmp_same r.key), found_behind r rs rs up.0 (each_found rs up.1))

-- a row that is found has the key
pub found_is : (k : RunKey) (xs : List RunRow) (r : RunRow) → find_row xs k ≡ Some r → is_eq (key_cmp r.key k) ≡ true
found_is k [] r at = cc
found_is k (x ∷ xs) r at = one (is_eq (key_cmp x.key k)) refl at (found_is k xs r)
  where
    one : (b : Bool) → is_eq (key_cmp x.key k) ≡ b → cond b (Some x) (find_row xs k) ≡ Some r → (find_row xs k ≡ Some r → is_eq (key_cmp r.key k) ≡ true) → is_eq (key_cmp r.key k) ≡ true
    one true is found later = let i : x ≡ r = cc in subst (λ y. is_eq (key_cmp y.key k) ≡ true) i is
    one false is found later = later found

module _ (f : RunRow → RunRow) where
  -- rows of other keys stay as they are
  pub change_none : (k : RunKey) (rs : List RunRow) → AllByRecursion (λ y. is_eq (key_cmp y.key k) ≡ false) rs → change_row f rs k ≡ rs
  change_none k [] all = refl
  change_none k (r ∷ rs) all = ap₂ (λ b l. cond b (f r) r ∷ l) all.0 (change_none k rs all.1)

  module _ (same : (r : RunRow) → (f r).key ≡ r.key) where
    pub either_key : (b : Bool) (r : RunRow) → (cond b (f r) r).key ≡ r.key
    either_key true r = same r
    either_key false r = refl

    -- the row of another key is found as it was; the one of the key is changed
    pub found_change : (rows : List RunRow) (j k : RunKey) → find_row (change_row f rows j) k ≡ option_map (λ r. cond (is_eq (key_cmp r.key j)) (f r) r) (find_row rows k)
    found_change [] j k = refl
    found_change (r ∷ rs) j k =
        let x : RunRow = cond (is_eq (key_cmp r.key j)) (f r) r in
        ap (λ i. cond (is_eq (key_cmp i k)) (Some x) (find_row (change_row f rs j) k)) (either_key (is_eq (key_cmp r.key j)) r)
        ∙ elim (is_eq (key_cmp r.key k)) as (λ b. cond b (Some x) (find_row (change_row f rs j) k) ≡ option_map (λ y. cond (is_eq (key_cmp y.key j)) (f y) y) (cond b (Some r) (find_row rs k))) [
          | true ↦ refl
          | false ↦ found_change rs j k
        ]

    pub others_of : (r : RunRow) (rs : List RunRow) (k : RunKey) → is_eq (key_cmp r.key k) ≡ true → AllByRecursion (λ y. key_cmp r.key y.key ≡ Less) rs → AllByRecursion (λ y. is_eq (key_cmp y.key k) ≡ false) rs
    others_of r rs k is above = subst (λ j. AllByRecursion (λ y. is_eq (key_cmp y.key j) ≡ false) rs) (key_is r.key k is) (above_other r.key rs above)

    -- what is counted of the rows changes as that of the one row
    module _ (count : RunRow → ℕ) where
      abbrev of_all : List RunRow → ℕ
      of_all rows = sum (map count rows)

      pub count_changed : (rows : List RunRow) (k : RunKey) → IsAscendingRows rows
          → sum (map count (change_row f rows k)) + counted_at count (find_row rows k) ≡ sum (map count rows) + counted_at count (find_row (change_row f rows k) k)
      count_changed [] k up = refl
      count_changed (r ∷ rs) k up = go (is_eq (key_cmp r.key k)) refl (count_changed rs k up.1)
        where
          here : is_eq (key_cmp r.key k) ≡ true → is_eq (key_cmp (f r).key k) ≡ true
          here is = ap (λ j. is_eq (key_cmp j k)) (same r) ∙ is

          go : (b : Bool) → is_eq (key_cmp r.key k) ≡ b → of_all (change_row f rs k) + counted_at count (find_row rs k) ≡ of_all rs + counted_at count (find_row (change_row f rs k) k)
              → of_all (cond b (f r) r ∷ change_row f rs k) + counted_at count (cond b (Some r) (find_row rs k))
              ≡ of_all (r ∷ rs) + counted_at count (cond (is_eq (key_cmp (cond b (f r) r).key k)) (Some (cond b (f r) r)) (find_row (change_row f rs k) k))
          go true is later =
              ap (λ l. of_all (f r ∷ l) + count r) (change_none k rs (others_of r rs k is up.0))
              ∙ (swapped_own (of_all (f r ∷ rs)) (count r) (of_all (r ∷ rs)) (count (f r)) (of_all rs) (count_cons count (f r) rs) (count_cons count r rs)
              ∙ sym (ap (λ b. of_all (r ∷ rs) + counted_at count (cond b (Some (f r)) (find_row (change_row f rs k) k))) (here is)))
          go false is later =
              swapped (of_all (r ∷ change_row f rs k)) (counted_at count (find_row rs k)) (of_all (r ∷ rs)) (counted_at count (find_row (change_row f rs k) k)) (count r) (of_all (change_row f rs k)) (of_all rs)
              (count_cons count r (change_row f rs k)) (count_cons count r rs) later
              ∙ sym (ap (λ b. of_all (r ∷ rs) + counted_at count (cond b (Some r) (find_row (change_row f rs k) k))) is)

    -- and so do the bytes
    pub bytes_changed : (rows : List RunRow) (k : RunKey) → IsAscendingRows rows
        → result_bytes (change_row f rows k) + bytes_at (find_row rows k) ≡ result_bytes rows + bytes_at (find_row (change_row f rows k) k)
    bytes_changed rows k up = count_changed row_bytes rows k up

    -- what holds of the changed row
    module _ (P : RunRow → Type 0) where
      pub own_row : (rows : List RunRow) (k : RunKey) (o : Option RunRow) → find_row rows k ≡ o → IfSome (find_row (change_row f rows k) k) P → IfSome o (λ r. P (f r))
      own_row rows k None at holds = tt
      own_row rows k (Some r) at holds = go (is_eq (key_cmp r.key k)) (found_is k rows r at) (subst (λ o. IfSome o P) (found_change rows k k ∙ ap (option_map (λ x. cond (is_eq (key_cmp x.key k)) (f x) x)) at) holds)
        where
          go : (b : Bool) → b ≡ true → P (cond b (f r) r) → P (f r)
          go true is holds = holds
          go false is holds = cc

-- ---- a row that comes or goes
three : (a b c d x y : ℕ) → a ≡ x + b → b ≡ c + y → d ≡ x + c → a ≡ d + y
three a b c d x y e f g = omega (arith, e, f, g)

lift_none : (k : RunKey) (xs : List RunRow) → AllByRecursion (λ y. is_eq (key_cmp y.key k) ≡ false) xs → lift_row xs k ≡ xs
lift_none k [] all = refl
lift_none k (x ∷ xs) all = ap₂ (λ b l. cond (not b) (x ∷ l) l) all.0 (lift_none k xs all.1)

joined : (a b c d x : ℕ) → a ≡ x + b → b + c ≡ d → a + c ≡ x + d
joined a b c d x e f = omega (arith, e, f)

module _ (count : RunRow → ℕ) where
  abbrev total : List RunRow → ℕ
  total rows = sum (map count rows)

  pub count_put : (rows : List RunRow) (r : RunRow) → sum (map count (put_row rows r)) ≡ sum (map count rows) + count r
  count_put [] r = count_cons count r [] ∙ omega arith
  count_put (x ∷ xs) r = go (key_cmp x.key r.key) (three (total (x ∷ put_row xs r)) (total (put_row xs r)) (total xs) (total (x ∷ xs)) (count x) (count r) (count_cons count x (put_row xs r)) (count_put xs r) (count_cons count x xs))
    where
      go : (c : Ordering) → total (x ∷ put_row xs r) ≡ total (x ∷ xs) + count r → total (match_ordering c (x ∷ put_row xs r) (x ∷ put_row xs r) (r ∷ x ∷ xs)) ≡ total (x ∷ xs) + count r
      go Less later = later
      go Equal later = later
      go Greater later = count_cons count r (x ∷ xs) ∙ other_way (count r) (total (x ∷ xs))

  pub count_lifted : (rows : List RunRow) (k : RunKey) → IsAscendingRows rows → sum (map count (lift_row rows k)) + counted_at count (find_row rows k) ≡ sum (map count rows)
  count_lifted [] k up = refl
  count_lifted (r ∷ rs) k up = go (is_eq (key_cmp r.key k)) refl (count_lifted rs k up.1)
    where
      go : (b : Bool) → is_eq (key_cmp r.key k) ≡ b → total (lift_row rs k) + counted_at count (find_row rs k) ≡ total rs
          → total (cond (not b) (r ∷ lift_row rs k) (lift_row rs k)) + counted_at count (cond b (Some r) (find_row rs k)) ≡ total (r ∷ rs)
      go true is later =
          let others : AllByRecursion (λ y. is_eq (key_cmp y.key k) ≡ false) rs = subst (λ j. AllByRecursion (λ y. is_eq (key_cmp y.key j) ≡ false) rs) (key_is r.key k is) (above_other r.key rs up.0) in
          ap (λ l. total l + count r) (lift_none k rs others) ∙ (other_way (total rs) (count r) ∙ sym (count_cons count r rs))
      go false is later = joined (total (r ∷ lift_row rs k)) (total (lift_row rs k)) (counted_at count (find_row rs k)) (total rs) (count r) (count_cons count r (lift_row rs k)) later ∙ sym (count_cons count r rs)

pub bytes_put : (rows : List RunRow) (r : RunRow) → result_bytes (put_row rows r) ≡ result_bytes rows + row_bytes r
bytes_put rows r = count_put row_bytes rows r

pub bytes_lifted : (rows : List RunRow) (k : RunKey) → IsAscendingRows rows → result_bytes (lift_row rows k) + bytes_at (find_row rows k) ≡ result_bytes rows
bytes_lifted rows k up = count_lifted row_bytes rows k up

-- a row's bytes are among those of all
pub bytes_within : (rows : List RunRow) (k : RunKey) → bytes_at (find_row rows k) ≤ result_bytes rows
bytes_within [] k = omega arith
bytes_within (r ∷ rs) k = go (is_eq (key_cmp r.key k)) (bytes_within rs k)
  where
    go : (b : Bool) → bytes_at (find_row rs k) ≤ result_bytes rs → bytes_at (cond b (Some r) (find_row rs k)) ≤ result_bytes (r ∷ rs)
    go true later = let all = bytes_cons r rs in omega (arith, all)
    go false later = let all = bytes_cons r rs in omega (arith, all, later)

-- ---- settling and closing leave results as they are
closed_bytes : (o : Option Closing) (r : RunRow) → row_bytes (closed_by o r) ≡ row_bytes r
closed_bytes None r = refl
closed_bytes (Some c) r = refl

pub bytes_settled : (m : ℕ) (rows : List RunRow) → result_bytes (settled_rows m rows) ≡ result_bytes rows
bytes_settled m [] = refl
bytes_settled m (r ∷ rs) = bytes_cons (settled_row m r) (settled_rows m rs) ∙ (ap₂ (λ x y. x + y) (closed_bytes (lapse_of m r) r) (bytes_settled m rs) ∙ sym (bytes_cons r rs))

-- ---- how many bytes a step or a fact brings
ending_bytes : (o : Option Ending) (e : Ending) → bytes_in (option_map (λ x. x.body) (first_there o (Some e))) ≤ bytes_in (option_map (λ x. x.body) o) + length e.body
ending_bytes None e = omega arith
ending_bytes (Some x) e = omega arith

pub step_brings : (step : LifeStep) (m : ℕ) (r : RunRow) → row_bytes (marked_row step m r) ≤ row_bytes r + step_bytes step
step_brings Confirm m r = omega arith
step_brings Start m r = omega arith
step_brings (End good body) m r = let own = ending_bytes r.ended (record { moment = m; good = good; body = body }) in omega (arith, own)
step_brings (Close why) m r = omega arith

module _ (f : Other → Other) (n : ℕ) (each : (o : Other) → bytes_in (other_result (f o)) ≤ bytes_in (other_result o) + n) where
  abbrev heard_bytes : Other → ℕ
  heard_bytes o = bytes_in (other_result o)

  heard_cons : (x : Other) (xs : List Other) → sum (map heard_bytes (x ∷ xs)) ≡ heard_bytes x + sum (map heard_bytes xs)
  heard_cons x xs = sum_by-cons (λ n. n) (heard_bytes x) (map heard_bytes xs)

  heard_at : (i : ℕ) (xs : List Other) → sum (map heard_bytes (change_at f i xs)) ≤ sum (map heard_bytes xs) + n
  heard_at i [] = omega arith
  heard_at zero (x ∷ xs) = first_less (sum (map heard_bytes (f x ∷ xs))) (sum (map heard_bytes (x ∷ xs))) (heard_bytes (f x)) (heard_bytes x) (sum (map heard_bytes xs)) (heard_cons (f x) xs) (heard_cons x xs) (each x)
    where
      first_less : (a b c d x : ℕ) → a ≡ c + x → b ≡ d + x → c ≤ d + n → a ≤ b + n
      first_less a b c d x e g le = omega (arith, e, g, le)
  heard_at (suc i) (x ∷ xs) = rest_less (sum (map heard_bytes (x ∷ change_at f i xs))) (sum (map heard_bytes (x ∷ xs))) (heard_bytes x) (sum (map heard_bytes (change_at f i xs))) (sum (map heard_bytes xs)) (heard_cons x (change_at f i xs)) (heard_cons x xs) (heard_at i xs)
    where
      rest_less : (a b x c d : ℕ) → a ≡ x + c → b ≡ x + d → c ≤ d + n → a ≤ b + n
      rest_less a b x c d e g le = omega (arith, e, g, le)

  heard_row : (place : ℕ) (r : RunRow) → row_bytes (change_other f place r) ≤ row_bytes r + n
  heard_row zero r = omega arith
  heard_row (suc i) r = let own = heard_at i r.others in omega (arith, own)

heard_result : (result : Option (List ℕ)) (o : Option (Option (List ℕ))) → bytes_in (option_and_then (λ told. told) (first_there o (Some result))) ≤ bytes_in (option_and_then (λ told. told) o) + bytes_in result
heard_result result None = omega arith
heard_result result (Some x) = omega arith

answer_brings : (answer : Answer) (o : Other) → bytes_in (other_result (with_answer answer o)) ≤ bytes_in (other_result o) + answer_bytes answer
answer_brings (Free answer) o = omega arith
answer_brings Accepted o = omega arith
answer_brings (Acknowledged told_confirm) o = omega arith
answer_brings (Acknowledged told_cancel) o = omega arith
answer_brings (Acknowledged told_material) o = omega arith
answer_brings (Result result) o = heard_result result o.heard

confirmed_bytes : (test : Bool) (m : ℕ) (r : RunRow) → row_bytes (confirmed_if test m r) ≡ row_bytes r
confirmed_bytes true m r = refl
confirmed_bytes false m r = refl

answered_bytes : (test : Bool) (m : ℕ) (r : RunRow) → row_bytes (cond test (confirmed_complete m r) r) ≡ row_bytes r
answered_bytes true m r = confirmed_bytes (is_booked r && is_complete r) m r
answered_bytes false m r = refl

merged_bytes : (o : Option (List ℕ)) (body : List ℕ) → bytes_in (first_there o (Some body)) ≤ bytes_in o + length body
merged_bytes None body = omega arith
merged_bytes (Some x) body = omega arith

pub fact_brings : (fact : Fact) (m : ℕ) (r : RunRow) → row_bytes (noted_row fact m r) ≤ row_bytes r + fact_bytes fact
fact_brings (Planned tool s) m r =
    let accepted = accept_row m s tool r in
    let own = confirmed_bytes (is_booked accepted && is_alone accepted) m accepted in omega (arith, own)
fact_brings (Answered place answer) m r =
    let heard = change_other (with_answer answer) place r in
    let same = answered_bytes (is_acceptance answer) m heard in
    let own = heard_row (with_answer answer) (answer_bytes answer) (answer_brings answer) place r in omega (arith, same, own)
fact_brings MaterialHeard m r = omega arith
fact_brings (Merged body states) m r = let own = merged_bytes r.merged body in omega (arith, own)
fact_brings (Tried index state) m r = omega arith

-- a change is that of its row
pub change_found : (f : RunRow → RunRow) (k : RunKey) (r : RunRow) (rows : List RunRow) → IsAscendingRows rows → find_row rows k ≡ Some r → change_row f rows k ≡ change_row (λ before. f r) rows k
change_found f k r [] up at = refl
change_found f k r (x ∷ xs) up at = go (is_eq (key_cmp x.key k)) refl at (change_found f k r xs up.1)
  where
    go : (b : Bool) → is_eq (key_cmp x.key k) ≡ b → cond b (Some x) (find_row xs k) ≡ Some r → (find_row xs k ≡ Some r → change_row f xs k ≡ change_row (λ before. f r) xs k)
        → cond b (f x) x ∷ change_row f xs k ≡ cond b (f r) x ∷ change_row (λ before. f r) xs k
    go true is here later =
        let own : x ≡ r = cc in
        let others : AllByRecursion (λ y. is_eq (key_cmp y.key k) ≡ false) xs = subst (λ j. AllByRecursion (λ y. is_eq (key_cmp y.key j) ≡ false) xs) (key_is x.key k is) (above_other x.key xs up.0) in
        ap₂ (λ y l. f y ∷ l) own (change_none f k xs others ∙ sym (change_none (λ before. f r) k xs others))
    go false is here later = ap (λ l. x ∷ l) (later here)
