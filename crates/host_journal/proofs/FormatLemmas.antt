-- What bytes say, from what they are made of, and the other way round.
use Rattle.std.proofs.Common.{◌≡◌, ◌≢◌, ℕ, zero, suc, ◌+◌, ◌≤◌, ◌<◌, Bool, true, false, if◌then◌else◌, List, [], ◌∷◌, ◌++◌, length, take, drop, Result, Ok, Err, Option, Some, None, refl, sym, ◌∙◌, ap, subst, arith, append_assoc, length-append, length-take, length-drop, take-append-drop}
use Rattle.std.specs.Prelude.{nat_le, ◌==◌}
use Rattle.std.specs.Int.{w32, w64, from_be_bytes}
use Rattle.std.proofs.lemmas.List.{take_at, drop_at}
use Rattle.std.proofs.lemmas.Bool.Decides.{nat_tests}
use Rattle.host_journal.specs.Format.{agreeing, sized, Body, with_snapshot, body_of, record_bytes, joined, behind, records_within, records_of}

-- the front decides, where it is long enough
pub agreeing_front : (wanted front rest : List ℕ) → length wanted ≤ length front → agreeing wanted (front ++ rest) ≡ agreeing wanted front
agreeing_front [] front rest le = refl
agreeing_front (w ∷ wanted) [] rest le = absurd (omega arith)
agreeing_front (w ∷ wanted) (b ∷ front) rest le = ap (λ (n : ℕ). if b == w then suc n else 0) (agreeing_front wanted front rest (omega arith))

-- A length, so many bytes, and a gate byte.
pub record Sized (bytes payload gate_bytes : List ℕ) : Type 0 where
  pub size : List ℕ
  pub split : bytes ≡ size ++ (payload ++ gate_bytes)
  pub four : length size ≡ 4
  pub is : from_be_bytes w32 size ≡ length payload
  pub gate_byte : 0 < length gate_bytes

pub eq_from : (n m : ℕ) → (n == m) ≡ true → n ≡ m
eq_from n m is = grind (arith, nat_tests)

pub eq_true : (n m : ℕ) → n ≡ m → (n == m) ≡ true
eq_true n m is = grind (arith, nat_tests)

pub ne_false : (n m : ℕ) → n ≢ m → (n == m) ≡ false
ne_false n m is = grind (arith, nat_tests)

pub le_from : (n m : ℕ) → nat_le n m ≡ true → n ≤ m
le_from n m is = grind (arith, nat_tests)

pub le_true : (n m : ℕ) → n ≤ m → nat_le n m ≡ true
le_true n m le = grind (arith, nat_tests)

pub some_is : {A : Type 0} (x y : A) → Some x ≡ Some y → x ≡ y
some_is x y is = cc is

abbrev cut_at : ℕ → List ℕ → List ℕ × List ℕ
cut_at n bytes = (take n bytes, drop n bytes)

cut_front : (n : ℕ) (payload gate_bytes : List ℕ) → n ≡ length payload → 0 < length gate_bytes → (if nat_le (n + 1) (length (payload ++ gate_bytes)) then Some (cut_at n (payload ++ gate_bytes)) else None) ≡ Some (payload, gate_bytes)
cut_front n payload gate_bytes is gate_byte =
    let fits : n + 1 ≤ length (payload ++ gate_bytes) = omega (arith, is, gate_byte, length-append payload gate_bytes) in
    ap (λ (t : Bool). if t then Some (cut_at n (payload ++ gate_bytes)) else None) (le_true (n + 1) (length (payload ++ gate_bytes)) fits)
    ∙ ap (λ (l : List ℕ). Some (l, drop n (payload ++ gate_bytes))) (take_at payload gate_bytes n (sym is)) ∙ ap (λ (l : List ℕ). Some (payload, l)) (drop_at payload gate_bytes n (sym is))

pub sized_made : (size payload gate_bytes : List ℕ) → length size ≡ 4 → from_be_bytes w32 size ≡ length payload → 0 < length gate_bytes → sized (size ++ (payload ++ gate_bytes)) ≡ Some (payload, gate_bytes)
sized_made (a ∷ b ∷ c ∷ d ∷ []) payload gate_bytes four is gate_byte = cut_front (from_be_bytes w32 (a ∷ b ∷ c ∷ d ∷ [])) payload gate_bytes is gate_byte
sized_made [] payload gate_bytes four is gate_byte = absurd (omega arith)
sized_made (a ∷ []) payload gate_bytes four is gate_byte = absurd (omega arith)
sized_made (a ∷ b ∷ []) payload gate_bytes four is gate_byte = absurd (omega arith)
sized_made (a ∷ b ∷ c ∷ []) payload gate_bytes four is gate_byte = absurd (omega arith)
sized_made (a ∷ b ∷ c ∷ d ∷ e ∷ size) payload gate_bytes four is gate_byte = absurd (omega arith)

record Front (n : ℕ) (rest payload gate_bytes : List ℕ) : Type 0 where
  whole : rest ≡ payload ++ gate_bytes
  count : n ≡ length payload
  gate_byte : 0 < length gate_bytes

is_front : (n : ℕ) (rest payload gate_bytes : List ℕ) (t : Bool) → nat_le (n + 1) (length rest) ≡ t → (if t then Some (cut_at n rest) else None) ≡ Some (payload, gate_bytes) → Front n rest payload gate_bytes
is_front n rest payload gate_bytes true fits is =
    let both = some_is (cut_at n rest) (payload, gate_bytes) is in
    let one : take n rest ≡ payload = ap (λ (q : List ℕ × List ℕ). q.0) both in
    let two : drop n rest ≡ gate_bytes = ap (λ (q : List ℕ × List ℕ). q.1) both in
    let le : n + 1 ≤ length rest = le_from (n + 1) (length rest) fits in
    record {
      whole = sym (take-append-drop n rest) ∙ ap (λ (l : List ℕ). l ++ drop n rest) one ∙ ap (λ (l : List ℕ). payload ++ l) two;
      count = omega (arith, ap length one, length-take n rest, le);
      gate_byte = omega (arith, ap length two, length-drop n rest, le);
    }
is_front n rest payload gate_bytes false fits is = absurd (cc is)

pub sized_is : (bytes payload gate_bytes : List ℕ) → sized bytes ≡ Some (payload, gate_bytes) → Sized bytes payload gate_bytes
sized_is (a ∷ b ∷ c ∷ d ∷ rest) payload gate_bytes is =
    let n = from_be_bytes w32 (a ∷ b ∷ c ∷ d ∷ []) in
    let made = is_front n rest payload gate_bytes (nat_le (n + 1) (length rest)) refl is in
    record { size = a ∷ b ∷ c ∷ d ∷ []; split = ap (λ (l : List ℕ). a ∷ b ∷ c ∷ d ∷ l) made.whole; four = refl; is = made.count; gate_byte = made.gate_byte }
sized_is [] payload gate_bytes is = absurd (cc is)
sized_is (a ∷ []) payload gate_bytes is = absurd (cc is)
sized_is (a ∷ b ∷ []) payload gate_bytes is = absurd (cc is)
sized_is (a ∷ b ∷ c ∷ []) payload gate_bytes is = absurd (cc is)

-- A generation, and then a snapshot.
pub body_made : (bytes rest : List ℕ) → length bytes ≡ 8 → body_of (bytes ++ rest) ≡ with_snapshot (from_be_bytes w64 bytes) (sized rest)
body_made (a ∷ b ∷ c ∷ d ∷ e ∷ f ∷ g ∷ h ∷ []) rest eight = refl
body_made [] rest eight = absurd (omega arith)
body_made (a ∷ []) rest eight = absurd (omega arith)
body_made (a ∷ b ∷ []) rest eight = absurd (omega arith)
body_made (a ∷ b ∷ c ∷ []) rest eight = absurd (omega arith)
body_made (a ∷ b ∷ c ∷ d ∷ []) rest eight = absurd (omega arith)
body_made (a ∷ b ∷ c ∷ d ∷ e ∷ []) rest eight = absurd (omega arith)
body_made (a ∷ b ∷ c ∷ d ∷ e ∷ f ∷ []) rest eight = absurd (omega arith)
body_made (a ∷ b ∷ c ∷ d ∷ e ∷ f ∷ g ∷ []) rest eight = absurd (omega arith)
body_made (a ∷ b ∷ c ∷ d ∷ e ∷ f ∷ g ∷ h ∷ i ∷ bytes) rest eight = absurd (omega arith)

pub record Bodied (bytes : List ℕ) (body : Body) : Type 0 where
  pub number : List ℕ
  pub rest : List ℕ
  pub split : bytes ≡ number ++ rest
  pub eight : length number ≡ 8
  pub is : from_be_bytes w64 number ≡ body.generation
  pub sized : Sized rest body.snapshot body.gate_bytes

abbrev body_at : ℕ → List ℕ × List ℕ → Body
body_at generation piece = record { generation = generation; snapshot = piece.0; gate_bytes = piece.1 }

bodied : (number rest : List ℕ) (body : Body) (o : Option (List ℕ × List ℕ)) → length number ≡ 8 → sized rest ≡ o → with_snapshot (from_be_bytes w64 number) o ≡ Some body → Bodied (number ++ rest) body
bodied number rest body None eight is has = absurd (cc has)
bodied number rest body (Some piece) eight is has =
    let made = some_is (body_at (from_be_bytes w64 number) piece) body has in
    record {
      number = number;
      rest = rest;
      split = refl;
      eight = eight;
      is = ap (λ (b : Body). b.generation) made;
      sized = subst (λ (b : Body). Sized rest b.snapshot b.gate_bytes) made (sized_is rest piece.0 piece.1 is);
    }

pub body_is : (bytes : List ℕ) (body : Body) → body_of bytes ≡ Some body → Bodied bytes body
body_is (a ∷ b ∷ c ∷ d ∷ e ∷ f ∷ g ∷ h ∷ rest) body is = bodied (a ∷ b ∷ c ∷ d ∷ e ∷ f ∷ g ∷ h ∷ []) rest body _ refl refl is
body_is [] body is = absurd (cc is)
body_is (a ∷ []) body is = absurd (cc is)
body_is (a ∷ b ∷ []) body is = absurd (cc is)
body_is (a ∷ b ∷ c ∷ []) body is = absurd (cc is)
body_is (a ∷ b ∷ c ∷ d ∷ []) body is = absurd (cc is)
body_is (a ∷ b ∷ c ∷ d ∷ e ∷ []) body is = absurd (cc is)
body_is (a ∷ b ∷ c ∷ d ∷ e ∷ f ∷ []) body is = absurd (cc is)
body_is (a ∷ b ∷ c ∷ d ∷ e ∷ f ∷ g ∷ []) body is = absurd (cc is)

-- Records, and those behind them.
pub record_bytes-append : (xs ys : List (List ℕ)) → record_bytes (xs ++ ys) ≡ record_bytes xs + record_bytes ys
record_bytes-append [] ys = omega arith
record_bytes-append (x ∷ xs) ys = omega (arith, record_bytes-append xs ys)

pub joined-joined : (xs ys : List (List ℕ)) (r : Result (List (List ℕ)) ℕ) → joined xs (joined ys r) ≡ joined (xs ++ ys) r
joined-joined xs ys (Ok more) = ap (λ (l : List (List ℕ)). Ok l) (sym (append_assoc xs ys more))
joined-joined xs ys (Err at) =
    let same : record_bytes xs + (record_bytes ys + at) ≡ record_bytes (xs ++ ys) + at = omega (arith, record_bytes-append xs ys) in
    ap (λ (n : ℕ). Err n) same

pub joined-none : (r : Result (List (List ℕ)) ℕ) → joined [] r ≡ r
joined-none (Ok more) = refl
joined-none (Err at) = let same : 0 + at ≡ at = omega arith in ap (λ (n : ℕ). Err n) same

-- so many steps are enough
behind_same : (n m : ℕ) (rest : List ℕ) (o : Option (List ℕ × List ℕ)) → sized rest ≡ o
    → ((gate_bytes : List ℕ) → length gate_bytes < length rest → records_within n gate_bytes ≡ records_within m gate_bytes) → behind o (λ gate_bytes. records_within n gate_bytes) ≡ behind o (λ gate_bytes. records_within m gate_bytes)
behind_same n m rest None is same = refl
behind_same n m rest (Some piece) is same =
    let made = sized_is rest piece.0 piece.1 is in
    let less : length piece.1 < length rest = omega (arith, ap length made.split, length-append made.size (piece.0 ++ piece.1), length-append piece.0 piece.1, made.four) in
    ap (λ (r : Result (List (List ℕ)) ℕ). joined (piece.0 ∷ []) r) (same piece.1 less)

pub enough : (n m : ℕ) (gate_bytes : List ℕ) → length gate_bytes ≤ n → length gate_bytes ≤ m → records_within n gate_bytes ≡ records_within m gate_bytes
enough zero zero gate_bytes one two = refl
enough zero (suc m) [] one two = refl
enough zero (suc m) (g ∷ rest) one two = absurd (omega arith)
enough (suc n) zero [] one two = refl
enough (suc n) zero (g ∷ rest) one two = absurd (omega arith)
enough (suc n) (suc m) [] one two = refl
enough (suc n) (suc m) (g ∷ rest) one two =
    ap (λ (r : Result (List (List ℕ)) ℕ). if g == 1 then r else Ok [])
    (behind_same n m rest (sized rest) refl (λ gate_bytes less. enough n m gate_bytes (omega (arith, less, one)) (omega (arith, less, two))))

pub records_of-shut : (gate_byte : ℕ) (rest : List ℕ) → gate_byte ≢ 1 → records_of (gate_byte ∷ rest) ≡ Ok []
records_of-shut gate_byte rest shut = ap (λ (t : Bool). if t then behind (sized rest) (λ gate_bytes. records_within (length rest) gate_bytes) else Ok []) (ne_false gate_byte 1 shut)

pub records_of-open : (rest payload gate_bytes : List ℕ) → sized rest ≡ Some (payload, gate_bytes) → records_of (1 ∷ rest) ≡ joined (payload ∷ []) (records_of gate_bytes)
records_of-open rest payload gate_bytes is =
    let made = sized_is rest payload gate_bytes is in
    let less : length gate_bytes ≤ length rest = omega (arith, ap length made.split, length-append made.size (payload ++ gate_bytes), length-append payload gate_bytes) in
    ap (λ (o : Option (List ℕ × List ℕ)). behind o (λ gate_bytes. records_within (length rest) gate_bytes)) is
    ∙ ap (λ (r : Result (List (List ℕ)) ℕ). joined (payload ∷ []) r) (enough (length rest) (length gate_bytes) gate_bytes less (omega arith))

pub records_of-bad : (rest : List ℕ) → sized rest ≡ None → records_of (1 ∷ rest) ≡ Err 0
records_of-bad rest is = ap (λ (o : Option (List ℕ × List ℕ)). behind o (λ gate_bytes. records_within (length rest) gate_bytes)) is

-- In the middle of a walk: the records so far were added to the list, and those that are left decide.
pub record Walking (old now : List (List ℕ)) (gate_bytes rest : List ℕ) : Type 0 where
  pub records : List (List ℕ)
  pub list : now ≡ old ++ records
  pub bytes : record_bytes records + length rest ≡ length gate_bytes
  pub decides : joined records (records_of rest) ≡ records_of gate_bytes
  pub some : 0 < length rest

pub walking_on : (old now : List (List ℕ)) (gate_bytes rest payload next : List ℕ) → Walking old now gate_bytes (1 ∷ rest) → sized rest ≡ Some (payload, next) → Walking old (now ++ payload ∷ []) gate_bytes next
walking_on old now gate_bytes rest payload next so_far is =
    let made = sized_is rest payload next is in
    record {
      records = so_far.records ++ payload ∷ [];
      list = ap (λ (l : List (List ℕ)). l ++ payload ∷ []) so_far.list ∙ append_assoc old so_far.records (payload ∷ []);
      bytes = omega (arith, so_far.bytes, record_bytes-append so_far.records (payload ∷ []), ap length made.split, length-append made.size (payload ++ next), length-append payload next, made.four);
      decides = sym (joined-joined so_far.records (payload ∷ []) (records_of next)) ∙ ap (λ (r : Result (List (List ℕ)) ℕ). joined so_far.records r) (sym (records_of-open rest payload next is)) ∙ so_far.decides;
      some = made.gate_byte;
    }

pub walking_step : (old now : List (List ℕ)) (gate_bytes rest behind payload next : List ℕ) → Walking old now gate_bytes rest → rest ≡ 1 ∷ behind → sized behind ≡ Some (payload, next) → Walking old (now ++ payload ∷ []) gate_bytes next
walking_step old now gate_bytes rest behind payload next so_far is_open is = walking_on old now gate_bytes behind payload next (subst (Walking old now gate_bytes) is_open so_far) is
