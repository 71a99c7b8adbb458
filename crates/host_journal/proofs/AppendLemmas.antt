-- What the calls of an append and of a cut leave on the disk that counts.
use Rattle.std.proofs.Common.{◌≡◌, ◌≢◌, ◌⊎◌, inl, inr, ℕ, ◌+◌, ◌≤◌, ◌<◌, ◌^◌, List, [], ◌∷◌, ◌++◌, length, get_or, take, drop, refl, sym, ◌∙◌, ap, arith, append_assoc, length-append, take-append-drop}
use Rattle.std.specs.Int.{w32, to_be_bytes}
use Rattle.std.proofs.lemmas.List.{take_at, drop_at, drop_more, take-take}
use Rattle.std.proofs.lemmas.Bool.{cases_eq}
use Rattle.std.proofs.lemmas.Nat.{from_be_bytes-to_be_bytes_4}
use Rattle.ps_disks.specs.Disk.{written, Torn, Shortened}
use Rattle.ps_disks.proofs.DiskLemmas.{written_within, torn_front}
use Rattle.host_journal.specs.State.{IsWhole, IsStaged}
use Rattle.host_journal.proofs.FrontLemmas.{is_longer_front}

module _ (generation start end : ℕ) (list : List (List ℕ)) where
  pub whole_long : (c : List ℕ) → IsWhole generation start end list c → end + 1 ≤ length c
  whole_long c whole = omega (arith, ap length whole.split, length-append whole.front (whole.gate_byte ∷ whole.tail), whole.is_end)

  -- the gate byte and all before it
  upto : (c : List ℕ) (whole : IsWhole generation start end list c) → take (end + 1) c ≡ whole.front ++ whole.gate_byte ∷ []
  upto c whole =
      ap (take (end + 1)) (whole.split ∙ sym (append_assoc whole.front (whole.gate_byte ∷ []) whole.tail))
      ∙ take_at (whole.front ++ whole.gate_byte ∷ []) whole.tail (end + 1) (omega (arith, whole.is_end, length-append whole.front (whole.gate_byte ∷ [])))

  -- these decide
  pub whole_same : (c d : List ℕ) → IsWhole generation start end list c → take (end + 1) d ≡ take (end + 1) c → IsWhole generation start end list d
  whole_same c d whole same = record {
    front = whole.front;
    gate_byte = whole.gate_byte;
    tail = drop (end + 1) d;
    split = sym (take-append-drop (end + 1) d) ∙ ap (λ (l : List ℕ). l ++ drop (end + 1) d) (same ∙ upto c whole) ∙ append_assoc whole.front (whole.gate_byte ∷ []) (drop (end + 1) d);
    is_shut = whole.is_shut;
    snapshot = whole.snapshot;
    records = whole.records;
    is_list = whole.is_list;
    is_front = whole.is_front;
    is_start = whole.is_start;
    is_end = whole.is_end;
  }

  -- a write behind the gate byte, any part of it
  pub whole_torn : (n : ℕ) (c d : List ℕ) → IsWhole generation start end list c → Torn (end + 1) n c d → IsWhole generation start end list d
  whole_torn n c d whole torn = whole_same c d whole (torn_front (end + 1) (end + 1) n c d torn (omega arith) (whole_long c whole))

  -- a cut behind the gate byte, any part of it
  pub whole_cut : (c d : List ℕ) → IsWhole generation start end list c → Shortened (end + 1) c d → IsWhole generation start end list d
  whole_cut c d whole cut =
      let long : end + 1 ≤ length d = omega (arith, cut.no_shorter, whole_long c whole) in
      whole_same c d whole (ap (take (end + 1)) (sym cut.front) ∙ take-take (end + 1) (length d) c long)

  -- the record stands behind the gate byte
  pub staged_written : (payload c d : List ℕ) → IsWhole generation start end list c → length payload < 2 ^ 32 → d ≡ written (end + 1) (to_be_bytes w32 (length payload) ++ (payload ++ 0 ∷ [])) c
      → IsStaged generation start end (end + 5 + length payload) list payload d
  staged_written payload c d whole small is =
      let size = to_be_bytes w32 (length payload) in
      let four : length size ≡ 4 = refl in
      let piece = size ++ (payload ++ 0 ∷ []) in
      let tail = drop (end + 1 + length piece) c in
      let parts : d ≡ (whole.front ++ whole.gate_byte ∷ []) ++ piece ++ tail = is ∙ written_within (end + 1) piece c (whole_long c whole) ∙ ap (λ (l : List ℕ). l ++ piece ++ tail) (upto c whole) in
      let inner : piece ++ tail ≡ (size ++ payload) ++ 0 ∷ tail =
      append_assoc size (payload ++ 0 ∷ []) tail ∙ ap (λ (l : List ℕ). size ++ l) (append_assoc payload (0 ∷ []) tail) ∙ sym (append_assoc size payload (0 ∷ tail)) in
      record {
        front = whole.front;
        gate_byte = whole.gate_byte;
        frame = size ++ payload;
        last = 0;
        tail = tail;
        split = parts ∙ append_assoc (whole.front ++ whole.gate_byte ∷ []) piece tail ∙ append_assoc whole.front (whole.gate_byte ∷ []) (piece ++ tail) ∙ ap (λ (l : List ℕ). whole.front ++ whole.gate_byte ∷ l) inner;
        is_shut = omega arith;
        snapshot = whole.snapshot;
        records = whole.records;
        is_list = whole.is_list;
        is_front = whole.is_front;
        is_longer = is_longer_front generation whole.snapshot whole.records whole.front size payload whole.is_front four (from_be_bytes-to_be_bytes_4 (length payload) small);
        is_start = whole.is_start;
        is_end = whole.is_end;
        is_next = omega (arith, whole.is_end, length-append size payload, four);
      }

  module _ (next : ℕ) (payload : List ℕ) where
    pub staged_long : (c : List ℕ) → IsStaged generation start end next list payload c → end + 1 ≤ length c
    staged_long c staged = omega (arith, ap length staged.split, length-append staged.front (staged.gate_byte ∷ (staged.frame ++ staged.last ∷ staged.tail)), staged.is_end)

    -- another gate byte
    abbrev regated : (c d : List ℕ) (gate_byte : ℕ) (staged : IsStaged generation start end next list payload c) → d ≡ staged.front ++ gate_byte ∷ (staged.frame ++ staged.last ∷ staged.tail) → IsStaged generation start end next list payload d
    regated c d gate_byte staged split = record {
      front = staged.front;
      gate_byte = gate_byte;
      frame = staged.frame;
      last = staged.last;
      tail = staged.tail;
      split = split;
      is_shut = staged.is_shut;
      snapshot = staged.snapshot;
      records = staged.records;
      is_list = staged.is_list;
      is_front = staged.is_front;
      is_longer = staged.is_longer;
      is_start = staged.is_start;
      is_end = staged.is_end;
      is_next = staged.is_next;
    }

    before : (c : List ℕ) (staged : IsStaged generation start end next list payload c) → take end c ≡ staged.front
    before c staged = ap (take end) staged.split ∙ take_at staged.front (staged.gate_byte ∷ (staged.frame ++ staged.last ∷ staged.tail)) end (sym staged.is_end)

    after : (c : List ℕ) (staged : IsStaged generation start end next list payload c) → drop (end + 1) c ≡ staged.frame ++ staged.last ∷ staged.tail
    after c staged =
        ap (drop (end + 1)) (staged.split ∙ sym (append_assoc staged.front (staged.gate_byte ∷ []) (staged.frame ++ staged.last ∷ staged.tail)))
        ∙ drop_at (staged.front ++ staged.gate_byte ∷ []) (staged.frame ++ staged.last ∷ staged.tail) (end + 1) (omega (arith, staged.is_end, length-append staged.front (staged.gate_byte ∷ [])))

    -- a write over the gate byte, any part of it
    pub staged_torn : (c d : List ℕ) → IsStaged generation start end next list payload c → Torn end 1 c d → IsStaged generation start end next list payload d
    staged_torn c d staged torn =
        let long = staged_long c staged in
        let front : take end d ≡ staged.front = torn_front end end 1 c d torn (omega arith) (omega (arith, long)) ∙ before c staged in
        let rest : drop end d ≡ get_or d end 0 ∷ (staged.frame ++ staged.last ∷ staged.tail) =
        drop_more d end 0 (omega (arith, torn.no_shorter, long)) ∙ ap (λ (l : List ℕ). get_or d end 0 ∷ l) (torn.after ∙ after c staged) in
        regated c d (get_or d end 0) staged (sym (take-append-drop end d) ∙ ap (λ (l : List ℕ). l ++ drop end d) front ∙ ap (λ (l : List ℕ). staged.front ++ l) rest)

    -- the gate byte is closed, or it is open
    pub staged_shut : (c : List ℕ) (staged : IsStaged generation start end next list payload c) → staged.gate_byte ≢ 1 → IsWhole generation start end list c
    staged_shut c staged shut = record {
      front = staged.front;
      gate_byte = staged.gate_byte;
      tail = staged.frame ++ staged.last ∷ staged.tail;
      split = staged.split;
      is_shut = shut;
      snapshot = staged.snapshot;
      records = staged.records;
      is_list = staged.is_list;
      is_front = staged.is_front;
      is_start = staged.is_start;
      is_end = staged.is_end;
    }

    pub staged_open : (c : List ℕ) (staged : IsStaged generation start end next list payload c) → staged.gate_byte ≡ 1 → IsWhole generation start next (list ++ payload ∷ []) c
    staged_open c staged opened_gate = record {
      front = staged.front ++ 1 ∷ staged.frame;
      gate_byte = staged.last;
      tail = staged.tail;
      split = staged.split ∙ ap (λ (g : ℕ). staged.front ++ g ∷ (staged.frame ++ staged.last ∷ staged.tail)) opened_gate ∙ sym (append_assoc staged.front (1 ∷ staged.frame) (staged.last ∷ staged.tail));
      is_shut = staged.is_shut;
      snapshot = staged.snapshot;
      records = staged.records ++ payload ∷ [];
      is_list = ap (λ (l : List (List ℕ)). l ++ payload ∷ []) staged.is_list;
      is_front = staged.is_longer;
      is_start = staged.is_start;
      is_end = omega (arith, staged.is_next, length-append staged.front (1 ∷ staged.frame));
    }

    pub staged_either : (c : List ℕ) → IsStaged generation start end next list payload c → IsWhole generation start end list c ⊎ IsWhole generation start next (list ++ payload ∷ []) c
    staged_either c staged = elim (cases_eq staged.gate_byte 1) [
      | inl at_one ↦ inr (staged_open c staged at_one)
      | inr shut ↦ inl (staged_shut c staged shut)
    ]

    -- the gate byte was written open
    pub opened : (c d : List ℕ) → IsStaged generation start end next list payload c → d ≡ written end (1 ∷ []) c → IsWhole generation start next (list ++ payload ∷ []) d
    opened c d staged is =
        let long = staged_long c staged in
        let parts : d ≡ staged.front ++ 1 ∷ (staged.frame ++ staged.last ∷ staged.tail) =
        is ∙ written_within end (1 ∷ []) c (omega (arith, long)) ∙ ap (λ (l : List ℕ). l ++ (1 ∷ []) ++ drop (end + 1) c) (before c staged)
        ∙ ap (λ (l : List ℕ). staged.front ++ (1 ∷ []) ++ l) (after c staged) ∙ append_assoc staged.front (1 ∷ []) (staged.frame ++ staged.last ∷ staged.tail) in
        staged_open d (regated c d 1 staged parts) refl
