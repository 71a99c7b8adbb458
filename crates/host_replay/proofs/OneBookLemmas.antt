-- A list stands for one book alone.
use Rattle.std.proofs.Common.{◌++◌, ◌<◌, ◌^◌, ◌∙◌, ◌∷◌, ◌≡◌, Bool, List, None, Some, [], ap, append_assoc, arith, false, inl, inr, subst, sym, true, ℕ}
use Rattle.value_bytes.proofs.WholeLemmas.{one_code}
use Rattle.value_bytes.specs.Changes.{changes, changes_is}
use Rattle.value_bytes.specs.Codec.{◌&◌, Codec, list, number_32, number_64}
use Rattle.value_bytes.specs.Laws.{IsCodec}
use Rattle.value_bytes.specs.NumberLaws.{number_64_is}
use Rattle.value_bytes.specs.Rows.{row}
use Rattle.value_bytes.specs.Tasks.{task_row}
use Rattle.host_codec.specs.Books.{back, back_of, book, book_is, front, front_of}
use Rattle.host_codec.specs.FirstFormat.{first_book, first_changes}
use Rattle.host_model.specs.Apply.{recorded}
use Rattle.host_model.specs.Book.{Book}
use Rattle.host_model.specs.Lawful.{Lawful}
use Rattle.host_model.specs.declared.change.Changes.{Changes}
use Rattle.host_replay.specs.Stands.{IsRecord, IsSnapshot, Leads, StandsFor, StandsIn}

one_value : {A : Type 0} (c : Codec A) → IsCodec c → (bytes : List ℕ) (a b : A) → c.Fits a → c.Fits b → bytes ≡ c.code a → bytes ≡ c.code b → a ≡ b
one_value c is bytes a b fits_a fits_b here there = (one_code c is a b [] [] fits_a fits_b (ap (λ (t : List ℕ). t ++ []) (sym here ∙ there))).0

-- ---- both formats: they begin with a number, which is above each moment in the one, and a moment in the other
abbrev the_first : ℕ
the_first = 18_446_744_073_709_551_615

-- what is behind the mark's number
behind_first : Book → List ℕ
behind_first b = number_32.code 2 ++ (front & back).code (front_of b, back_of b)

second_begins : (bytes : List ℕ) (b : Book) → bytes ≡ book.code b → bytes ≡ number_64.code the_first ++ behind_first b
unfolding behind_first
second_begins bytes b is = is ∙ append_assoc (number_64.code the_first) (number_32.code 2) ((front & back).code (front_of b, back_of b))

first_begins : (bytes : List ℕ) (b : Book) → bytes ≡ first_book.code b → bytes ≡ number_64.code b.moment ++ (list task_row & list row).code (b.tasks, b.rows)
first_begins bytes b is = is

-- neither is a snapshot of no bytes
no_bytes : (rest : List ℕ) → [] ≡ number_64.code the_first ++ rest → ⊥
no_bytes rest is =
    let none : None ≡ Some (the_first, rest) = ap number_64.read is ∙ number_64_is.again the_first rest (omega arith) in
    cc

other_moment : (m : ℕ) (x y : List ℕ) → m < 2 ^ 64 → number_64.code the_first ++ x ≡ number_64.code m ++ y → the_first ≡ m
other_moment m x y fits is = (one_code number_64 number_64_is the_first m x y (omega arith) fits is).0

pub apart : (self : ℕ) (bytes : List ℕ) (a b : Book) → IsSnapshot true bytes a → IsSnapshot false bytes b → Lawful self b → ⊥
apart self [] a b second first lawful = no_bytes (behind_first a) (second_begins [] a second.1)
apart self (n ∷ bytes) a b second first lawful =
    let moment : the_first ≡ b.moment = other_moment b.moment (behind_first a) ((list task_row & list row).code (b.tasks, b.rows)) first.0.parts.0 (sym (second_begins (n ∷ bytes) a second.1) ∙ first_begins (n ∷ bytes) b first.1) in
    let low = lawful.moment in
    omega arith

module _ (records_are : IsCodec first_changes) (books_are : IsCodec first_book) where
  -- ---- one format
  same_record : (second : Bool) (bytes : List ℕ) (a b : Changes) → IsRecord second bytes a → IsRecord second bytes b → a ≡ b
  same_record true bytes a b x y = one_value changes changes_is bytes a b x.0 y.0 x.1 y.1
  same_record false bytes a b x y = one_value first_changes records_are bytes a b x.0 y.0 x.1 y.1

  same_snapshot : (second : Bool) (bytes : List ℕ) (a b : Book) → IsSnapshot second bytes a → IsSnapshot second bytes b → a ≡ b
  same_snapshot true bytes a b x y = one_value book book_is bytes a b x.0 y.0 x.1 y.1
  same_snapshot false [] a b x y = x ∙ sym y
  same_snapshot false (n ∷ bytes) a b x y = one_value first_book books_are (n ∷ bytes) a b x.0 y.0 x.1 y.1

  same_end : (second : Bool) (self : ℕ) (records : List (List ℕ)) (from a b : Book) → Leads second self from records a → Leads second self from records b → a ≡ b
  same_end second self [] from a b x y = sym x ∙ y
  same_end second self (bytes ∷ more) from a b x y =
      let same : y.0 ≡ x.0 = same_record second bytes y.0 x.0 y.1 x.1 in
      same_end second self more (recorded from x.0) a b x.3 (subst (λ (c : Changes). Leads second self (recorded from c) more b) same y.3)

  one_in : (second : Bool) (self : ℕ) (snapshot : List ℕ) (records : List (List ℕ)) (a b : Book) → StandsIn second self snapshot records a → StandsIn second self snapshot records b → a ≡ b
  one_in second self snapshot records a b x y =
      let same : y.from ≡ x.from = same_snapshot second snapshot y.from x.from y.is x.is in
      same_end second self records x.from a b x.leads (subst (λ (c : Book). Leads second self c records b) same y.leads)

  -- ---- either
  pub one_book : (self : ℕ) (list : List (List ℕ)) (a b : Book) → StandsFor self list a → StandsFor self list b → a ≡ b
  one_book self [] a b x y = absurd x
  one_book self (snapshot ∷ records) a b (inl x) (inl y) = one_in true self snapshot records a b x y
  one_book self (snapshot ∷ records) a b (inl x) (inr y) = absurd (apart self snapshot x.from y.from x.is y.is y.lawful)
  one_book self (snapshot ∷ records) a b (inr x) (inl y) = absurd (apart self snapshot y.from x.from y.is x.is x.lawful)
  one_book self (snapshot ∷ records) a b (inr x) (inr y) = one_in false self snapshot records a b x y
