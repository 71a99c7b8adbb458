-- Fronts of disks, behind which gate bytes stand: where they begin, how a record makes one longer, and what bytes stand for that have one.
use Rattle.std.proofs.Common.{◌≡◌, ◌≢◌, inl, inr, ℕ, zero, suc, ◌+◌, ◌≤◌, ◌<◌, Bool, true, false, if◌then◌else◌, List, [], ◌∷◌, ◌++◌, length, take, drop, Result, Ok, Err, Option, Some, None, refl, sym, ◌∙◌, ap, subst, arith, append_assoc, length-append, length-take, take-append-drop}
use Rattle.std.specs.Prelude.{◌==◌}
use Rattle.std.specs.Int.{w32, w64, from_be_bytes}
use Rattle.std.proofs.lemmas.List.{append-nil, drop_at}
use Rattle.std.proofs.lemmas.Bool.{cases_eq}
use Rattle.host_journal.specs.Format.{open_head, agreeing, stands, sized, Body, with_snapshot, body_of, record_bytes, joined, records_of}
use Rattle.host_journal.specs.Pair.{gates_at}
use Rattle.host_journal.specs.State.{IsFront, IsWhole, Stands}
use Rattle.host_journal.proofs.FormatLemmas.{eq_from, agreeing_front, sized_made, sized_is, body_made, body_is, record_bytes-append, joined-joined, joined-none, records_of-shut, records_of-open, records_of-bad}

-- a head, a generation and a snapshot
abbrev pub first_front : List ℕ → List ℕ → List ℕ → List ℕ → List ℕ
first_front head number size snapshot = head ++ (number ++ (size ++ snapshot))

pub first_split : (head number size snapshot gate_bytes : List ℕ) → first_front head number size snapshot ++ gate_bytes ≡ head ++ (number ++ (size ++ (snapshot ++ gate_bytes)))
first_split head number size snapshot gate_bytes =
    append_assoc head (number ++ (size ++ snapshot)) gate_bytes
    ∙ ap (λ (l : List ℕ). head ++ l) (append_assoc number (size ++ snapshot) gate_bytes ∙ ap (λ (l : List ℕ). number ++ l) (append_assoc size snapshot gate_bytes))

module _ (head number size snapshot : List ℕ) (generation : ℕ)
    (nine : length head ≡ 9) (opens : stands head ≡ true) (eight : length number ≡ 8) (number_is : from_be_bytes w64 number ≡ generation) (four : length size ≡ 4) (size_is : from_be_bytes w32 size ≡ length snapshot) where
  first_stands : (gate_bytes : List ℕ) → stands (first_front head number size snapshot ++ gate_bytes) ≡ true
  first_stands gate_bytes =
      ap stands (first_split head number size snapshot gate_bytes)
      ∙ ap (λ (n : ℕ). n == 9) (agreeing_front open_head head (number ++ (size ++ (snapshot ++ gate_bytes))) (omega (arith, nine)))
      ∙ opens

  first_body : (gate_byte : ℕ) (rest : List ℕ) → body_of (drop 9 (first_front head number size snapshot ++ gate_byte ∷ rest)) ≡ Some (record { generation = generation; snapshot = snapshot; gate_bytes = gate_byte ∷ rest })
  first_body gate_byte rest =
      let gate_bytes = gate_byte ∷ rest in
      ap (λ (l : List ℕ). body_of (drop 9 l)) (first_split head number size snapshot gate_bytes)
      ∙ ap body_of (drop_at head (number ++ (size ++ (snapshot ++ gate_bytes))) 9 nine)
      ∙ body_made number (size ++ (snapshot ++ gate_bytes)) eight
      ∙ ap (λ (o : Option (List ℕ × List ℕ)). with_snapshot (from_be_bytes w64 number) o) (sized_made size snapshot gate_bytes four size_is (omega arith))
      ∙ ap (λ (n : ℕ). Some (record { generation = n; snapshot = snapshot; gate_bytes = gate_bytes })) number_is

  pub is_first_front : IsFront generation snapshot [] (first_front head number size snapshot)
  is_first_front = record {
    is_standing = first_stands;
    frames = [];
    is_body = first_body;
    goes_on = λ gate_byte rest. sym (joined-none (records_of (gate_byte ∷ rest)));
    size = omega (arith, length-append head (number ++ (size ++ snapshot)), length-append number (size ++ snapshot), length-append size snapshot, nine, eight, four);
  }

-- one record more
pub is_longer_front : (generation : ℕ) (snapshot : List ℕ) (records : List (List ℕ)) (front size payload : List ℕ) → IsFront generation snapshot records front
    → length size ≡ 4 → from_be_bytes w32 size ≡ length payload → IsFront generation snapshot (records ++ payload ∷ []) (front ++ 1 ∷ (size ++ payload))
is_longer_front generation snapshot records front size payload is_front four size_is =
    let frame = size ++ payload in
    let split : (l gate_bytes : List ℕ) → (l ++ 1 ∷ frame) ++ gate_bytes ≡ l ++ 1 ∷ (frame ++ gate_bytes) = λ l gate_bytes. append_assoc l (1 ∷ frame) gate_bytes in
    let step : (gate_byte : ℕ) (rest : List ℕ) → records_of (1 ∷ (frame ++ gate_byte ∷ rest)) ≡ joined (payload ∷ []) (records_of (gate_byte ∷ rest)) = λ gate_byte rest.
    ap (λ (l : List ℕ). records_of (1 ∷ l)) (append_assoc size payload (gate_byte ∷ rest)) ∙ records_of-open (size ++ (payload ++ gate_byte ∷ rest)) payload (gate_byte ∷ rest) (sized_made size payload (gate_byte ∷ rest) four size_is (omega arith)) in
    record {
      is_standing = λ gate_bytes. ap stands (split front gate_bytes) ∙ is_front.is_standing (1 ∷ (frame ++ gate_bytes));
      frames = is_front.frames ++ 1 ∷ frame;
      is_body = λ gate_byte rest. ap (λ (l : List ℕ). body_of (drop 9 l)) (split front (gate_byte ∷ rest)) ∙ is_front.is_body 1 (frame ++ gate_byte ∷ rest)
          ∙ ap (λ (l : List ℕ). Some (record { generation = generation; snapshot = snapshot; gate_bytes = l })) (sym (split is_front.frames (gate_byte ∷ rest)));
      goes_on = λ gate_byte rest. ap records_of (split is_front.frames (gate_byte ∷ rest)) ∙ is_front.goes_on 1 (frame ++ gate_byte ∷ rest)
          ∙ ap (λ (r : Result (List (List ℕ)) ℕ). joined records r) (step gate_byte rest) ∙ joined-joined records (payload ∷ []) (records_of (gate_byte ∷ rest));
      size = omega (arith, is_front.size, length-append front (1 ∷ frame), length-append size payload, four, record_bytes-append records (payload ∷ []));
    }

-- what whole bytes stand for
pub stands_whole : (generation start end : ℕ) (list : List (List ℕ)) (bytes : List ℕ) → IsWhole generation start end list bytes → Stands generation list bytes
stands_whole generation start end list bytes whole =
    let front = whole.is_front in record {
      is_standing = ap stands whole.split ∙ front.is_standing (whole.gate_byte ∷ whole.tail);
      body = record { generation = generation; snapshot = whole.snapshot; gate_bytes = front.frames ++ whole.gate_byte ∷ whole.tail };
      is_body = ap (λ (l : List ℕ). body_of (drop 9 l)) whole.split ∙ front.is_body whole.gate_byte whole.tail;
      is_generation = refl;
      records = whole.records;
      are_records = front.goes_on whole.gate_byte whole.tail ∙ ap (λ (r : Result (List (List ℕ)) ℕ). joined whole.records r) (records_of-shut whole.gate_byte whole.tail whole.is_shut)
          ∙ ap (λ (l : List (List ℕ)). Ok l) (append-nil whole.records);
      is_list = whole.is_list;
    }

agreeing_short : (wanted bytes : List ℕ) → agreeing wanted bytes ≤ length bytes
agreeing_short [] bytes = omega arith
agreeing_short (w ∷ wanted) [] = omega arith
agreeing_short (w ∷ wanted) (b ∷ bytes) = by_test (b == w) (agreeing_short wanted bytes)
  where
    by_test : (t : Bool) → agreeing wanted bytes ≤ length bytes → (if t then suc (agreeing wanted bytes) else 0) ≤ suc (length bytes)
    by_test true le = omega arith
    by_test false le = omega arith

pub long_enough : (bytes : List ℕ) → stands bytes ≡ true → 9 ≤ length bytes
long_enough bytes opens = let nine : agreeing open_head bytes ≡ 9 = eq_from (agreeing open_head bytes) 9 opens in omega (arith, agreeing_short open_head bytes, nine)

ok_more : (payload : List ℕ) (r : Result (List (List ℕ)) ℕ) (more : List (List ℕ)) → joined (payload ∷ []) r ≡ Ok more → (rest : List (List ℕ)) × (r ≡ Ok rest) × (more ≡ payload ∷ rest)
ok_more payload (Ok rest) more is = (rest, refl, sym (cc is))
ok_more payload (Err at) more is = absurd (cc is)

-- From what bytes stand for to their parts: over the gate bytes that are left.
module _ (generation : ℕ) (snapshot bytes : List ℕ) where
  abbrev Walks : ℕ → Type 0
  Walks most = (records : List (List ℕ)) (front gate_bytes : List ℕ) (more : List (List ℕ)) → length gate_bytes ≤ most → IsFront generation snapshot records front → bytes ≡ front ++ gate_bytes → 0 < length gate_bytes → records_of gate_bytes ≡ Ok more
      → IsWhole generation (gates_at snapshot) (gates_at snapshot + record_bytes (records ++ more)) (snapshot ∷ (records ++ more)) bytes

  walk_open : (most : ℕ) → Walks most → (records : List (List ℕ)) (front rest : List ℕ) (more : List (List ℕ)) (o : Option (List ℕ × List ℕ)) → sized rest ≡ o → length rest ≤ most → IsFront generation snapshot records front
      → bytes ≡ front ++ 1 ∷ rest → records_of (1 ∷ rest) ≡ Ok more → IsWhole generation (gates_at snapshot) (gates_at snapshot + record_bytes (records ++ more)) (snapshot ∷ (records ++ more)) bytes
  walk_open most walks records front rest more None is le is_front split are = absurd (cc (records_of-bad rest is, are))
  walk_open most walks records front rest more (Some piece) is le is_front split are =
      let made = sized_is rest piece.0 piece.1 is in
      let left = ok_more piece.0 (records_of piece.1) more (sym (records_of-open rest piece.0 piece.1 is) ∙ are) in
      let frame = made.size ++ piece.0 in
      let longer = is_longer_front generation snapshot records front made.size piece.0 is_front made.four made.is in
      let parts : bytes ≡ (front ++ 1 ∷ frame) ++ piece.1 =
      split ∙ ap (λ (l : List ℕ). front ++ 1 ∷ l) (made.split ∙ sym (append_assoc made.size piece.0 piece.1)) ∙ sym (append_assoc front (1 ∷ frame) piece.1) in
      let same : (records ++ piece.0 ∷ []) ++ left.0 ≡ records ++ more = append_assoc records (piece.0 ∷ []) left.0 ∙ ap (λ (l : List (List ℕ)). records ++ l) (sym left.2) in
      subst (λ (l : List (List ℕ)). IsWhole generation (gates_at snapshot) (gates_at snapshot + record_bytes l) (snapshot ∷ l) bytes) same
      (walks (records ++ piece.0 ∷ []) (front ++ 1 ∷ frame) piece.1 left.0
      (omega (arith, le, ap length made.split, length-append made.size (piece.0 ++ piece.1), length-append piece.0 piece.1)) longer parts made.gate_byte left.1)

  walk_shut : (records : List (List ℕ)) (front rest : List ℕ) (more : List (List ℕ)) (gate_byte : ℕ) → gate_byte ≢ 1 → IsFront generation snapshot records front → bytes ≡ front ++ gate_byte ∷ rest → records_of (gate_byte ∷ rest) ≡ Ok more
      → IsWhole generation (gates_at snapshot) (gates_at snapshot + record_bytes (records ++ more)) (snapshot ∷ (records ++ more)) bytes
  walk_shut records front rest more gate_byte shut is_front split are =
      let none : more ≡ [] = cc (records_of-shut gate_byte rest shut, are) in
      let same : records ≡ records ++ more = sym (append-nil records) ∙ ap (λ (l : List (List ℕ)). records ++ l) (sym none) in
      subst (λ (l : List (List ℕ)). IsWhole generation (gates_at snapshot) (gates_at snapshot + record_bytes l) (snapshot ∷ l) bytes) same
      (record {
        front = front;
        gate_byte = gate_byte;
        tail = rest;
        split = split;
        is_shut = shut;
        snapshot = snapshot;
        records = records;
        is_list = refl;
        is_front = is_front;
        is_start = refl;
        is_end = sym is_front.size;
      })

  pub walk_whole : (most : ℕ) (records : List (List ℕ)) (front gate_bytes : List ℕ) (more : List (List ℕ)) → length gate_bytes ≤ most → IsFront generation snapshot records front → bytes ≡ front ++ gate_bytes → 0 < length gate_bytes → records_of gate_bytes ≡ Ok more
      → IsWhole generation (gates_at snapshot) (gates_at snapshot + record_bytes (records ++ more)) (snapshot ∷ (records ++ more)) bytes
  walk_whole zero records front gate_bytes more le is_front split some are = absurd (omega arith)
  walk_whole (suc most) records front [] more le is_front split some are = absurd (omega arith)
  walk_whole (suc most) records front (gate_byte ∷ rest) more le is_front split some are = elim (cases_eq gate_byte 1) [
    | inl is_open ↦ walk_open most (walk_whole most) records front rest more (sized rest) refl (omega arith) is_front
        (split ∙ ap (λ (g : ℕ). front ++ g ∷ rest) is_open) (ap (λ (g : ℕ). records_of (g ∷ rest)) (sym is_open) ∙ are)
    | inr shut ↦ walk_shut records front rest more gate_byte shut is_front split are
  ]

-- bytes that stand, with a body and records, are whole
pub whole_from : (bytes : List ℕ) (body : Body) (records : List (List ℕ)) → stands bytes ≡ true → body_of (drop 9 bytes) ≡ Some body → records_of body.gate_bytes ≡ Ok records
    → IsWhole body.generation (gates_at body.snapshot) (gates_at body.snapshot + record_bytes records) (body.snapshot ∷ records) bytes
whole_from bytes body records opens is_body are =
    let parts = body_is (drop 9 bytes) body is_body in
    let sized_parts = parts.sized in
    let long : 9 ≤ length bytes = long_enough bytes opens in
    let head = take 9 bytes in
    let nine : length head ≡ 9 = omega (arith, length-take 9 bytes, long) in
    let whole : head ++ drop 9 bytes ≡ bytes = take-append-drop 9 bytes in
    let head_opens : stands head ≡ true =
    ap (λ (n : ℕ). n == 9) (sym (agreeing_front open_head head (drop 9 bytes) (omega (arith, nine)))) ∙ ap stands whole ∙ opens in
    let front = first_front head parts.number sized_parts.size body.snapshot in
    let split : bytes ≡ front ++ body.gate_bytes =
    sym whole ∙ ap (λ (l : List ℕ). head ++ l) (parts.split ∙ ap (λ (l : List ℕ). parts.number ++ l) sized_parts.split)
    ∙ sym (first_split head parts.number sized_parts.size body.snapshot body.gate_bytes) in
    walk_whole body.generation body.snapshot bytes (length body.gate_bytes) [] front body.gate_bytes records (omega arith)
    (is_first_front head parts.number sized_parts.size body.snapshot body.generation nine head_opens parts.eight parts.is sized_parts.four sized_parts.is) split sized_parts.gate_byte are
