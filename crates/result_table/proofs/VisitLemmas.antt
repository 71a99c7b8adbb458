-- What is left above the last record of a piece.
use Rattle.std.proofs.Common.{◌≡◌, ℕ, zero, suc, ◌<◌, ◌-◌, ◌^◌, Bool, true, false, ◌||◌, cond, nat_lt, slice_get, option_map, All, IfSome, List, [], ◌∷◌, ◌++◌, length, take, drop, get_or, Option, Some, None, refl, ap, sym, subst, ◌∙◌, arith}
use Rattle.std.specs.List.{AllByRecursion, fold}
use Rattle.std.specs.Ordering.{is_lt}
use Rattle.std.specs.declared.cmp.Ordering.{Ordering}
use Rattle.std.specs.declared.cmp.Ordering.TheVariants.{Less, Equal, Greater}
use Rattle.std.proofs.lemmas.List.{take-append-drop, append_assoc}
use Rattle.std.proofs.lemmas.List.Sums.{fold-append}
use Rattle.std.proofs.lemmas.Option.{slice_get-get_or}
use Rattle.ps_time.specs.Key.{key_cmp}
use Rattle.ps_time.proofs.KeyLemmas.{key_cmp_total, key_cmp_same}
use Rattle.ps_time.proofs.SortedLemmas.{below_all}
use Rattle.ps_time.specs.declared.key.RunKey.{RunKey}
use Rattle.result_table.specs.Record.{above, first_above, IsTable, IsAbove}
use Rattle.result_table.specs.Visit.{left_above, next_key, IsFurther}
use Rattle.ps_time.specs.Id.{uuid_of}
use Rattle.ps_time.specs.declared.id.Id.TheVariants.{Run}
use Rattle.std.proofs.lemmas.Bool.Decides.{nat_tests}
use Rattle.result_table.specs.declared.record.Record.{Record}

abbrev key_of : Record → RunKey
key_of r = r.key

-- above a key that is below the first record all are
all_above : (key : RunKey) (table : List Record) → AllByRecursion (λ r. key_cmp key r.key ≡ Less) table → above (Some key) table ≡ table
all_above key [] all = refl
all_above key (r ∷ rs) all = rw all.0 (ap (λ xs. r ∷ xs) (all_above key rs all.1))

-- what is above a key stands behind the rest
pub behind : (after : Option RunKey) (table : List Record) → IsTable table → (front : List Record) × (table ≡ front ++ above after table)
behind None table up = ([], refl)
behind (Some key) [] up = ([], refl)
behind (Some key) (r ∷ rs) up =
    let more = behind (Some key) rs up.1 in
    let cases = elim (key_cmp key r.key) as (λ c. key_cmp key r.key ≡ c → (front : List Record) × (r ∷ rs ≡ front ++ cond (is_lt c) (r ∷ above (Some key) rs) (above (Some key) rs))) [
      | Less ↦ λ is. ([], ap (λ xs. r ∷ xs) (sym (all_above key rs (below_all key_cmp_total key_of rs key r.key is up.0))))
      | Equal ↦ λ is. (r ∷ more.0, ap (λ xs. r ∷ xs) more.1)
      | Greater ↦ λ is. (r ∷ more.0, ap (λ xs. r ∷ xs) more.1)
    ] in
    cases refl

-- above the key of a record stand those behind it
pub above_record : (front : List Record) (r : Record) (rest : List Record) → IsTable (front ++ r ∷ rest) → above (Some r.key) (front ++ r ∷ rest) ≡ rest
above_record [] r rest up = rw (key_cmp_same r.key) (all_above r.key rest up.0)
above_record (x ∷ front) r rest up =
    let below : key_cmp x.key r.key ≡ Less = first_of front up.0 in
    let over : key_cmp r.key x.key ≡ Greater = rw (key_cmp_total.antisymm r.key x.key, below) refl in
    rw over (above_record front r rest up.1)
  where
    first_of : (front : List Record) → AllByRecursion (λ y. key_cmp x.key y.key ≡ Less) (front ++ r ∷ rest) → key_cmp x.key r.key ≡ Less
    first_of [] all = all.0
    first_of (y ∷ front) all = first_of front all.1

-- the last of a piece, and what comes behind it
pub last_split : (xs : List Record) (d : Record) → 0 < length xs → xs ≡ take (length xs - 1) xs ++ get_or xs (length xs - 1) d ∷ []
last_split [] d some = absurd (omega arith)
last_split (x ∷ []) d some = refl
last_split (x ∷ y ∷ xs) d some =
    let more : length (x ∷ y ∷ xs) - 1 ≡ suc (length (y ∷ xs) - 1) = omega arith in rw more (ap (λ l. x ∷ l) (last_split (y ∷ xs) d (omega arith)))

-- above the last of the first records stand the others
pub above_last : (table : List Record) (after : Option RunKey) (n : ℕ) (d : Record) → IsTable table → 0 < length (first_above table after n)
    → above (Some (get_or (first_above table after n) (length (first_above table after n) - 1) d).key) table ≡ drop n (above after table)
above_last table after n d up some =
    let piece = first_above table after n in
    let last = get_or piece (length piece - 1) d in
    let rest = drop n (above after table) in
    let front = behind after table up in
    let before = front.0 ++ take (length piece - 1) piece in
    let whole : table ≡ before ++ last ∷ rest =
    front.1 ∙ (ap (λ xs. front.0 ++ xs) (sym (take-append-drop n (above after table)) ∙ (ap (λ xs. xs ++ rest) (last_split piece d some) ∙ append_assoc (take (length piece - 1) piece) (last ∷ []) rest))
    ∙ sym (append_assoc front.0 (take (length piece - 1) piece) (last ∷ rest))) in
    ap (above (Some last.key)) whole ∙ above_record before last rest (subst IsTable whole up)

-- a piece that isn't as long as it may be is the last one
pub short_take : (xs : List Record) (n : ℕ) → length (take n xs) < n → take n xs ≡ xs
short_take [] zero short = refl
short_take [] (suc n) short = refl
short_take (x ∷ xs) zero short = absurd (omega arith)
short_take (x ∷ xs) (suc n) short = ap (λ l. x ∷ l) (short_take xs n (omega arith))

-- ---- a walk that visits a piece

module _ {V : Type 0} (after : V → Record → V) where
  whole_piece : (v : V) (table : List Record) (from : Option RunKey) (n : ℕ) → fold after v (above from table) ≡ fold after (fold after v (first_above table from n)) (drop n (above from table))
  whole_piece v table from n =
      sym (ap (fold after v) (take-append-drop n (above from table))) ∙ fold-append after v (take n (above from table)) (drop n (above from table))

  -- it goes on above the last record
  pub piece_on : (v : V) (table piece : List Record) (from : Option RunKey) (n : ℕ) (d : Record) → IsTable table → piece ≡ first_above table from n → 0 < length piece
      → fold after v (above from table) ≡ fold after (fold after v piece) (above (Some (get_or piece (length piece - 1) d).key) table)
  piece_on v table piece from n d up is some =
      let some_there : 0 < length (first_above table from n) = subst (λ xs. 0 < length xs) is some in
      let last = above_last table from n d up some_there in
      subst (λ xs. fold after v (above from table) ≡ fold after (fold after v xs) (above (Some (get_or xs (length xs - 1) d).key) table)) (sym is)
      (whole_piece v table from n ∙ ap (fold after (fold after v (first_above table from n))) (sym last))

  -- a short piece is the last one
  pub piece_last : (v : V) (table piece : List Record) (from : Option RunKey) (n : ℕ) → piece ≡ first_above table from n → length piece < n → fold after v (above from table) ≡ fold after v piece
  piece_last v table piece from n is short =
      ap (fold after v) (sym (is ∙ short_take (above from table) n (subst (λ xs. length xs < n) is short)))

  -- what is full stays
  all_full : (full : V → Bool) → ((v : V) (r : Record) → full v ≡ true → after v r ≡ v) → (v : V) (rs : List Record) → full v ≡ true → fold after v rs ≡ v
  all_full full stays v [] is = refl
  all_full full stays v (r ∷ rs) is = rw (stays v r is) (all_full full stays v rs is)

  -- so nothing comes behind the piece that fills it
  pub piece_full : (full : V → Bool) → ((v : V) (r : Record) → full v ≡ true → after v r ≡ v) → (v : V) (table piece : List Record) (from : Option RunKey) (n : ℕ) → piece ≡ first_above table from n
      → full (fold after v piece) ≡ true → fold after v (above from table) ≡ fold after v piece
  piece_full full stays v table piece from n is filled =
      whole_piece v table from n ∙ (ap (λ xs. fold after (fold after v xs) (drop n (above from table))) (sym is) ∙ all_full full stays (fold after v piece) (drop n (above from table)) filled)

  -- the piece, and what its last record leaves
  pub piece_next : (full : V → Bool) → ((v : V) (r : Record) → full v ≡ true → after v r ≡ v) → (v : V) (table piece : List Record) (from : Option RunKey) → IsTable table → piece ≡ first_above table from 64
      → fold after v (above from table) ≡ fold after (fold after v piece) (left_above (next_key (full (fold after v piece)) piece) table)
  piece_next full stays v table piece from up is = cases (full (fold after v piece)) refl (nat_lt (length piece) 64) refl piece refl
    where
      cases : (b : Bool) → full (fold after v piece) ≡ b → (s : Bool) → nat_lt (length piece) 64 ≡ s → (xs : List Record) → piece ≡ xs
          → fold after v (above from table) ≡ fold after (fold after v piece) (left_above (cond (b || s) None (option_map (λ r. r.key) (slice_get piece (length piece - 1)))) table)
      cases true filled s short xs same = piece_full full stays v table piece from 64 is filled
      cases false filled true short xs same = piece_last v table piece from 64 is (grind (arith, nat_tests))
      cases false filled false long [] same = absurd (let none : length piece ≡ 0 = ap length same in grind (arith, nat_tests))
      cases false filled false long (x ∷ xs) same =
          let some : 0 < length piece = let more : length piece ≡ suc (length xs) = ap length same in omega arith in
          let last : slice_get piece (length piece - 1) ≡ Some (get_or piece (length piece - 1) x) = slice_get-get_or piece (length piece - 1) x (omega arith) in
          rw last (piece_on v table piece from 64 x up is some)

lt_is : (c : Ordering) → is_lt c ≡ true → c ≡ Less
lt_is Less is = refl
lt_is Equal is = absurd cc
lt_is Greater is = absurd cc

-- a record above a key is further
further : (from : Option RunKey) (r : Record) → IsAbove from r → IsFurther from r.key
further None r is = tt
further (Some key) r is = lt_is (key_cmp key r.key) is

further_last : (from : Option RunKey) (piece : List Record) (at : ℕ) → All (IsAbove from) piece → IfSome (option_map (λ r. r.key) (slice_get piece at)) (IsFurther from)
further_last from [] at all = tt
further_last from (x ∷ xs) zero all = further from x (all 0 x (omega arith))
further_last from (x ∷ xs) (suc at) all = further_last from xs at (λ i d low. all (suc i) d (omega arith))

pub further_next : (from : Option RunKey) (full : Bool) (piece : List Record) → All (IsAbove from) piece → IfSome (next_key full piece) (IsFurther from)
further_next from full piece all =
    elim (full || nat_lt (length piece) 64) as (λ b. IfSome (cond b None (option_map (λ r. r.key) (slice_get piece (length piece - 1)))) (IsFurther from)) [
      | true ↦ tt
      | false ↦ further_last from piece (length piece - 1) all
    ]

-- ---- how far a walk may still go

abbrev pub room_above : Option RunKey → ℕ
room_above None = 0
room_above (Some key) = 2 ^ 128 - uuid_of (Run key)
