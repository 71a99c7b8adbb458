-- From the head of a disk, and from whether it has its first gate byte, to its front.
use Rattle.std.proofs.Common.{◌≡◌, ℕ, zero, suc, ◌+◌, ◌≤◌, Bool, true, false, if◌then◌else◌, List, [], ◌∷◌, length, take, drop, Option, Some, None, refl, sym, ◌∙◌, ap, arith, length-take, length-drop}
use Rattle.std.specs.Prelude.{◌==◌, nat_le}
use Rattle.std.specs.Int.{w32, w64, from_be_bytes}
use Rattle.std.proofs.lemmas.List.{drop-take}
use Rattle.std.proofs.lemmas.Bool.Decides.{nat_tests}
use Rattle.host_journal.specs.Format.{magic, open_head, agreeing, stands, sized, with_snapshot, body_of}
use Rattle.host_journal.specs.Front.{generation_in, numbers_by, numbers_behind, numbers_in, IsFrontOf}
use Rattle.host_journal.specs.Pair.{number_of, headless}
use Rattle.host_journal.specs.declared.reading.DiskPlace.{DiskPlace}
use Rattle.host_journal.specs.declared.reading.Front.{Front}
use Rattle.host_journal.specs.declared.reading.Front.TheVariants.{Open, Closed}
use Rattle.host_journal.specs.declared.reading.Numbers.{Numbers}
use Rattle.host_journal.proofs.FrontLemmas.{long_enough}

-- the first bytes decide
agreeing_take : (wanted bytes : List ℕ) (n : ℕ) → length wanted ≤ n → agreeing wanted (take n bytes) ≡ agreeing wanted bytes
agreeing_take [] bytes n le = refl
agreeing_take (w ∷ wanted) bytes zero le = absurd (omega arith)
agreeing_take (w ∷ wanted) [] (suc n) le = refl
agreeing_take (w ∷ wanted) (b ∷ bytes) (suc n) le = ap (λ (k : ℕ). if b == w then suc k else 0) (agreeing_take wanted bytes n (omega arith))

by_take : (generation : ℕ) (bytes : List ℕ) → numbers_by generation (take 4 bytes) ≡ numbers_by generation bytes
by_take generation [] = refl
by_take generation (a ∷ []) = refl
by_take generation (a ∷ b ∷ []) = refl
by_take generation (a ∷ b ∷ c ∷ []) = refl
by_take generation (a ∷ b ∷ c ∷ d ∷ bytes) = refl

behind_take : (bytes : List ℕ) → numbers_behind (take 12 bytes) ≡ numbers_behind bytes
behind_take [] = refl
behind_take (a ∷ []) = refl
behind_take (a ∷ b ∷ []) = refl
behind_take (a ∷ b ∷ c ∷ []) = refl
behind_take (a ∷ b ∷ c ∷ d ∷ []) = refl
behind_take (a ∷ b ∷ c ∷ d ∷ e ∷ []) = refl
behind_take (a ∷ b ∷ c ∷ d ∷ e ∷ f ∷ []) = refl
behind_take (a ∷ b ∷ c ∷ d ∷ e ∷ f ∷ g ∷ []) = refl
behind_take (a ∷ b ∷ c ∷ d ∷ e ∷ f ∷ g ∷ h ∷ bytes) = by_take (from_be_bytes w64 (a ∷ b ∷ c ∷ d ∷ e ∷ f ∷ g ∷ h ∷ [])) bytes

-- the generation, where a disk of so many bytes has its first gate byte
abbrev reached : Option Numbers → ℕ → Option ℕ
reached None count = None
reached (Some numbers) count = if nat_le (numbers.start + 1) count then Some numbers.generation else None

by_size : (generation size : ℕ) (bytes : List ℕ) (t u : Bool) → t ≡ u → generation_in (with_snapshot generation (if t then Some (take size bytes, drop size bytes) else None)) ≡ (if u then Some generation else None)
by_size generation size bytes true true same = refl
by_size generation size bytes false false same = refl
by_size generation size bytes true false same = absurd (cc same)
by_size generation size bytes false true same = absurd (cc same)

fits_same : (size n count : ℕ) → count ≡ 21 + n → nat_le (size + 1) n ≡ nat_le (21 + size + 1) count
fits_same size n count is = grind (arith, nat_tests)

by_start : (generation count : ℕ) (bytes : List ℕ) → count ≡ 17 + length bytes → generation_in (with_snapshot generation (sized bytes)) ≡ reached (numbers_by generation bytes) count
by_start generation count [] is = refl
by_start generation count (a ∷ []) is = refl
by_start generation count (a ∷ b ∷ []) is = refl
by_start generation count (a ∷ b ∷ c ∷ []) is = refl
by_start generation count (a ∷ b ∷ c ∷ d ∷ bytes) is =
    let size = from_be_bytes w32 (a ∷ b ∷ c ∷ d ∷ []) in
    by_size generation size bytes _ _ (fits_same size (length bytes) count (omega (arith, is)))

generation_by : (count : ℕ) (bytes : List ℕ) → count ≡ 9 + length bytes → generation_in (body_of bytes) ≡ reached (numbers_behind bytes) count
generation_by count [] is = refl
generation_by count (a ∷ []) is = refl
generation_by count (a ∷ b ∷ []) is = refl
generation_by count (a ∷ b ∷ c ∷ []) is = refl
generation_by count (a ∷ b ∷ c ∷ d ∷ []) is = refl
generation_by count (a ∷ b ∷ c ∷ d ∷ e ∷ []) is = refl
generation_by count (a ∷ b ∷ c ∷ d ∷ e ∷ f ∷ []) is = refl
generation_by count (a ∷ b ∷ c ∷ d ∷ e ∷ f ∷ g ∷ []) is = refl
generation_by count (a ∷ b ∷ c ∷ d ∷ e ∷ f ∷ g ∷ h ∷ bytes) is = by_start (from_be_bytes w64 (a ∷ b ∷ c ∷ d ∷ e ∷ f ∷ g ∷ h ∷ [])) count bytes (omega (arith, is))

nine_same : (n m : ℕ) → (9 ≤ n → 9 ≤ m) → (9 ≤ m → 9 ≤ n) → nat_le 9 n ≡ nat_le 9 m
nine_same n m there back = grind (arith, nat_tests)

abbrev headless_by : Bool → ℕ → Bool → Option DiskPlace
headless_by second place long =
    if place == 8
    then (if long then None else Some (record { disk = number_of second; place = 8 }))
    else Some (record { disk = number_of second; place = place })

numbers_stand : (t : Bool) (o : Option Numbers) (numbers : Numbers) → (if t then o else None) ≡ Some numbers → (t ≡ true) × (o ≡ Some numbers)
numbers_stand true o numbers is = (refl, is)
numbers_stand false o numbers is = absurd (cc is)

module _ (second : Bool) (file head : List ℕ) (is_head : head ≡ take 21 file) where
  agrees : (wanted : List ℕ) → length wanted ≤ 21 → agreeing wanted head ≡ agreeing wanted file
  agrees wanted le = ap (agreeing wanted) is_head ∙ agreeing_take wanted file 21 le

  stands_same : stands head ≡ stands file
  stands_same = ap (λ (n : ℕ). n == 9) (agrees open_head (omega arith))

  headless_same : headless second head ≡ headless second file
  headless_same =
      let count : length head ≡ length (take 21 file) = ap length is_head in
      let long : nat_le 9 (length head) ≡ nat_le 9 (length file) = nine_same (length head) (length file) (λ le. omega (arith, le, count, length-take 21 file)) (λ le. omega (arith, le, count, length-take 21 file)) in
      ap (λ (n : ℕ). headless_by second n (nat_le 9 (length head))) (agrees magic (omega arith)) ∙ ap (λ (t : Bool). headless_by second (agreeing magic file) t) long

  behind_same : numbers_behind (drop 9 head) ≡ numbers_behind (drop 9 file)
  behind_same = ap (λ (l : List ℕ). numbers_behind (drop 9 l)) is_head ∙ ap numbers_behind (drop-take 9 12 file) ∙ behind_take (drop 9 file)

  -- from the head alone, where it has no numbers
  pub front_known : (front : Front) → numbers_in head ≡ None → IsFrontOf second head front → IsFrontOf second file front
  front_known (Closed place at) none is = (sym stands_same ∙ is.0, is.1 ∙ agrees open_head (omega arith), is.2 ∙ headless_same)
  front_known (Open generation) none is =
      let without : numbers_behind (drop 9 head) ≡ None = sym (ap (λ (t : Bool). if t then numbers_behind (drop 9 head) else None) is.0) ∙ none in
      let here : generation_in (body_of (drop 9 head)) ≡ None =
      generation_by (9 + length (drop 9 head)) (drop 9 head) refl ∙ ap (λ (o : Option Numbers). reached o (9 + length (drop 9 head))) without in
      let there : generation_in (body_of (drop 9 file)) ≡ None =
      generation_by (9 + length (drop 9 file)) (drop 9 file) refl ∙ ap (λ (o : Option Numbers). reached o (9 + length (drop 9 file))) (sym behind_same ∙ without) in
      (sym stands_same ∙ is.0, is.1 ∙ here ∙ sym there)

  -- and where it has some, by the first gate byte
  pub front_seen : (numbers : Numbers) (has : Bool) → numbers_in head ≡ Some numbers → has ≡ nat_le (numbers.start + 1) (length file) → IsFrontOf second file (Open (if has then Some numbers.generation else None))
  front_seen numbers has some is =
      let found = numbers_stand (stands head) (numbers_behind (drop 9 head)) numbers some in
      let file_stands : stands file ≡ true = sym stands_same ∙ found.0 in
      let count : length file ≡ 9 + length (drop 9 file) = omega (arith, length-drop 9 file, long_enough file file_stands) in
      let there : generation_in (body_of (drop 9 file)) ≡ reached (Some numbers) (length file) =
      generation_by (length file) (drop 9 file) count ∙ ap (λ (o : Option Numbers). reached o (length file)) (sym behind_same ∙ found.1) in
      (file_stands, ap (λ (t : Bool). if t then Some numbers.generation else None) is ∙ sym there)
