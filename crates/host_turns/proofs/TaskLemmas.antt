-- Tasks whose serials count up are found by them.
use Rattle.std.specs.List.{range_with_len}
use Rattle.std.specs.Prelude.{slice_get}
use Rattle.std.proofs.Common.{◌≡◌, ◌<◌, ◌+◌, ℕ, zero, suc, true, false, cond, List, [], ◌∷◌, length, map, get_or, None, Some, nat_eq, refl, ap, ◌∙◌, arith}
use Rattle.std.proofs.lemmas.Bool.Decides.{nat_tests}
use Rattle.host_model.specs.Book.{find_task}
use Rattle.host_model.specs.declared.task_row.TaskRow.{TaskRow}

head_serial : (a n : ℕ) (t : TaskRow) (ts : List TaskRow) → map (λ x. x.serial) (t ∷ ts) ≡ range_with_len a (suc n) → (t.serial ≡ a) × (map (λ x. x.serial) ts ≡ range_with_len (a + 1) n)
head_serial a n t ts same = (cc, cc)

serial_at : (ts : List TaskRow) (a i : ℕ) (d : TaskRow) → map (λ x. x.serial) ts ≡ range_with_len a (length ts) → i < length ts → (get_or ts i d).serial ≡ a + i
serial_at [] a i d same lt = absurd (omega arith)
serial_at (t ∷ ts) a zero d same lt = let h = head_serial a (length ts) t ts same in omega (arith, h.0)
serial_at (t ∷ ts) a (suc i) d same lt = let h = head_serial a (length ts) t ts same in omega (arith, serial_at ts (a + 1) i d h.1 (omega arith))

-- each task is found by its serial
pub task_at : (ts : List TaskRow) (a i : ℕ) (d : TaskRow) → map (λ x. x.serial) ts ≡ range_with_len a (length ts) → i < length ts → find_task ts (get_or ts i d).serial ≡ Some (get_or ts i d)
task_at [] a i d same lt = absurd (omega arith)
task_at (t ∷ ts) a zero d same lt = let own : nat_eq t.serial t.serial ≡ true = grind (arith, nat_tests) in ap (λ b. cond b (Some t) (find_task ts t.serial)) own
task_at (t ∷ ts) a (suc i) d same lt =
    let h = head_serial a (length ts) t ts same in
    let later : (get_or ts i d).serial ≡ a + 1 + i = serial_at ts (a + 1) i d h.1 (omega arith) in
    let first : t.serial ≡ a = h.0 in
    let other : nat_eq t.serial (get_or ts i d).serial ≡ false = grind (arith, nat_tests, first, later) in
    ap (λ b. cond b (Some t) (find_task ts (get_or ts i d).serial)) other ∙ task_at ts (a + 1) i d h.1 (omega arith)

-- what is found by a serial stands at its place
pub serial_found : (ts : List TaskRow) (a i : ℕ) → map (λ x. x.serial) ts ≡ range_with_len a (length ts) → find_task ts (a + i) ≡ slice_get ts i
serial_found [] a i same = refl
serial_found (t ∷ ts) a zero same =
    let first : t.serial ≡ a = (head_serial a (length ts) t ts same).0 in
    let own : nat_eq t.serial (a + 0) ≡ true = grind (arith, nat_tests, first) in
    ap (λ b. cond b (Some t) (find_task ts (a + 0))) own
serial_found (t ∷ ts) a (suc i) same =
    let h = head_serial a (length ts) t ts same in
    let first : t.serial ≡ a = h.0 in
    let other : nat_eq t.serial (a + suc i) ≡ false = grind (arith, nat_tests, first) in
    let next : a + suc i ≡ a + 1 + i = omega arith in
    ap (λ b. cond b (Some t) (find_task ts (a + suc i))) other ∙ (ap (find_task ts) next ∙ serial_found ts (a + 1) i h.1)

-- none has a serial below the first
pub none_below : (ts : List TaskRow) (a n : ℕ) → map (λ x. x.serial) ts ≡ range_with_len a (length ts) → n < a → find_task ts n ≡ None
none_below [] a n same low = refl
none_below (t ∷ ts) a n same low =
    let h = head_serial a (length ts) t ts same in
    let first : t.serial ≡ a = h.0 in
    let other : nat_eq t.serial n ≡ false = grind (arith, nat_tests, first, low) in
    ap (λ b. cond b (Some t) (find_task ts n)) other ∙ none_below ts (a + 1) n h.1 (omega (arith, low))
