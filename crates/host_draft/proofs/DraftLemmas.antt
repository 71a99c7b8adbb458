-- What a draft keeps of its parts, as it opens and as changes are made.
use Rattle.std.proofs.Common.{◌≡◌, ◌==◌, ◌≤◌, ◌+◌, ◌-◌, ◌&&◌, ◌++◌, ◌∷◌, ℕ, zero, suc, Bool, true, false, cond, not, nat_le, nat_lt, List, [], Some, length, refl, ap, ap₂, sym, subst, ◌∙◌, arith}
use Rattle.std.proofs.lemmas.List.{length-map}
use Rattle.std.proofs.lemmas.Bool.Decides.{nat_tests}
use Rattle.std.specs.List.{AllByRecursion}
use Rattle.std.specs.Ordering.{is_eq}
use Rattle.ps_time.specs.Key.{key_cmp}
use Rattle.ps_time.specs.declared.key.RunKey.{RunKey}
use Rattle.ps_time.specs.declared.moment.TheConstants.{MAX_MOMENT}
use Rattle.limit_apply.specs.Limits.{LimitsConfig as Limits}
use Rattle.run_states.specs.Life.{settled_row, settled_rows}
use Rattle.run_states.specs.ResultBytes.{result_bytes, row_bytes}
use Rattle.run_states.specs.Rows.{change_row, find_row, lift_row, IsAscendingRows}
use Rattle.run_states.specs.declared.row.RunRow.{RunRow}
use Rattle.host_model.specs.Apply.{apply, apply_all, settled}
use Rattle.host_model.specs.Book.{Book}
use Rattle.host_model.specs.Draft.{Draft, ended, made, make, make_with}
use Rattle.host_model.specs.Lawful.{Lawful}
use Rattle.host_model.specs.RecordLength.{change_bytes}
use Rattle.host_model.specs.declared.change.Change.{Change}
use Rattle.run_states.proofs.Place.{key_is}
use Rattle.host_model.proofs.SettledBook.{book_settled}
use Rattle.host_rows.specs.Ledger.{most_counted}
use Rattle.host_rows.proofs.RowLemmas.{above_other, bytes_cons, bytes_settled}
use Rattle.host_draft.specs.Draft.{IsDraft, Seen, admits, book_now, with_draft}
use Rattle.draft_parts.specs.Overlay.{over}

-- a draft without changes
pub opened_sound : (number m : ℕ) (b : Book) (touched : List RunRow) (epoch count bytes left : ℕ) → ((k : RunKey) → find_row (settled_rows m b.rows) k ≡ over touched [] b.rows k) → b.moment ≤ m → m ≤ MAX_MOMENT → Lawful number b → epoch ≡ length b.epochs → count ≡ length b.rows → bytes ≡ result_bytes b.rows → bytes + left ≤ most_counted
    → IsDraft number m b (book_now m [] b) touched [] epoch count bytes left
opened_sound number m b touched epoch count bytes left found later low lawful epochs rows kept fits = record {
  moment = low;
  at = refl;
  lawful = book_settled number b m later low lawful;
  found = found;
  tasks = refl;
  epochs = refl;
  epoch = epochs;
  count = let same = length-map b.rows (settled_row m) in omega (arith, rows, same);
  bytes = kept ∙ sym (bytes_settled m b.rows);
  room = fits;
}

-- one more change comes last
apply_last : (m : ℕ) (cs : List Change) (c : Change) (b : Book) → apply_all m (cs ++ c ∷ []) b ≡ apply m c (apply_all m cs b)
apply_last m [] c b = refl
apply_last m (d ∷ ds) c b = apply_last m ds c (apply m d b)

pub now_last : (m : ℕ) (cs later : List Change) (c : Change) (b : Book) → later ≡ cs ++ c ∷ [] → book_now m later b ≡ apply m c (book_now m cs b)
now_last m cs later c b is = ap (λ l. book_now m l b) is ∙ apply_last m cs c (settled m b)

-- ---- what is made ----
is_place : (n : ℕ) → nat_lt 0 (suc n) ≡ true
is_place n = grind (arith, nat_tests)

module _ (m : ℕ) (c : Change) (d : Draft) where
  -- a change for which there is place
  pub made_admitted : admits (change_bytes c) d ≡ true → make m (Some c) d ≡ made m c d (d.places - 1)
  made_admitted fits = go d.places refl fits
    where
      go : (p : ℕ) → d.places ≡ p → (nat_lt 0 p && nat_le (change_bytes c) d.left) ≡ true → make_with m c d p ≡ made m c d (p - 1)
      go zero e is = cc
      go (suc n) e is =
          let fits : nat_le (change_bytes c) d.left ≡ true = ap (λ b. b && nat_le (change_bytes c) d.left) (sym (is_place n)) ∙ is in
          let less : n ≡ suc n - 1 = omega arith in
          ap (λ b. cond b (made m c d n) (ended d)) fits ∙ ap (made m c d) less

-- ---- what is shown ----
abbrev pub shown : ℕ → Limits → Book → List Change → ℕ → ℕ → Seen
shown number limits b cs places left = record { number = number; limits = limits; draft = record { book = b; changes = cs; places = places; left = left } }

module _ (number m : ℕ) (limits : Limits) (b : Book) (cs : List Change) (places left : ℕ) (c : Change) (s : Seen) (seen : shown number limits (book_now m cs b) cs places left ≡ s) (at : (book_now m cs b).moment ≡ m) where
  moment_is : s.draft.book.moment ≡ m
  moment_is = ap (λ (x : Seen). x.draft.book.moment) (sym seen) ∙ at

  -- a change was made
  pub made_shown : (later : List Change) → later ≡ cs ++ c ∷ [] → admits (change_bytes c) s.draft ≡ true → shown number limits (book_now m later b) later (places - 1) (left - change_bytes c) ≡ with_draft (make s.draft.book.moment (Some c) s.draft) s
  made_shown later next fits =
      ap₂ (λ x l. shown number limits x l (places - 1) (left - change_bytes c)) (now_last m cs later c b next) next
      ∙ (ap (λ (x : Seen). with_draft (made m c x.draft (x.draft.places - 1)) x) seen
      ∙ (ap (λ d. with_draft d s) (sym (made_admitted m c s.draft fits))
      ∙ ap (λ n. with_draft (make n (Some c) s.draft) s) (sym moment_is)))

zero_from : (n : ℕ) → (n == 0) ≡ true → n ≡ 0
zero_from n e = grind (arith, nat_tests)

-- a draft without place stays as it is
pub full_shown : (c : Change) (s : Seen) → (s.draft.places == 0) ≡ true → s ≡ with_draft (make s.draft.book.moment (Some c) s.draft) s
full_shown c s full = sym (ap (λ n. with_draft (make_with s.draft.book.moment c s.draft n) s) (zero_from s.draft.places full))

-- ---- bytes of results ----
-- a change that leaves each row's results leaves all
pub bytes_kept : (f : RunRow → RunRow) → ((r : RunRow) → row_bytes (f r) ≡ row_bytes r) → (rows : List RunRow) (k : RunKey) → result_bytes (change_row f rows k) ≡ result_bytes rows
bytes_kept f same [] k = refl
bytes_kept f same (r ∷ rs) k =
    let b : Bool = is_eq (key_cmp r.key k) in
    bytes_cons (cond b (f r) r) (change_row f rs k)
    ∙ (ap₂ (λ x y. x + y) (either b) (bytes_kept f same rs k)
    ∙ sym (bytes_cons r rs))
  where
    either : (b : Bool) → row_bytes (cond b (f r) r) ≡ row_bytes r
    either true = same r
    either false = refl

-- ---- a row that goes ----
lift_none : (k : RunKey) (xs : List RunRow) → AllByRecursion (λ y. is_eq (key_cmp y.key k) ≡ false) xs → lift_row xs k ≡ xs
lift_none k [] all = refl
lift_none k (x ∷ xs) all = ap₂ (λ b l. cond (not b) (x ∷ l) l) all.0 (lift_none k xs all.1)

-- there is one row less
pub fewer_rows : (rows : List RunRow) (k : RunKey) (r : RunRow) → IsAscendingRows rows → find_row rows k ≡ Some r → length (lift_row rows k) + 1 ≡ length rows
fewer_rows [] k r up e = cc
fewer_rows (x ∷ xs) k r up e = go (is_eq (key_cmp x.key k)) refl e (fewer_rows xs k r up.1)
  where
    go : (b : Bool) → is_eq (key_cmp x.key k) ≡ b → cond b (Some x) (find_row xs k) ≡ Some r → (find_row xs k ≡ Some r → length (lift_row xs k) + 1 ≡ length xs) → length (cond (not b) (x ∷ lift_row xs k) (lift_row xs k)) + 1 ≡ length (x ∷ xs)
    go true h is later =
        let others : AllByRecursion (λ y. is_eq (key_cmp y.key k) ≡ false) xs = subst (λ j. AllByRecursion (λ y. is_eq (key_cmp y.key j) ≡ false) xs) (key_is x.key k h) (above_other x.key xs up.0) in
        let same : length (lift_row xs k) ≡ length xs = ap length (lift_none k xs others) in
        omega (arith, same)
    go false h is later = let one = later is in omega (arith, one)
