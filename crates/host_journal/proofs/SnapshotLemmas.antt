-- What the calls of a snapshot leave on the disk that doesn't count.
use Rattle.std.proofs.Common.{◌≡◌, ◌≢◌, ◌⊎◌, inl, inr, ℕ, ◌+◌, ◌≤◌, ◌<◌, ◌^◌, Bool, true, false, not, List, [], ◌∷◌, ◌++◌, length, get_or, take, drop, refl, sym, ◌∙◌, ap, subst, arith, append_assoc, take-append-drop}
use Rattle.std.specs.Int.{w32, w64, to_be_bytes}
use Rattle.std.proofs.lemmas.List.{drop_more}
use Rattle.std.proofs.lemmas.Bool.{cases_eq}
use Rattle.std.proofs.lemmas.Bool.Decides.{nat_tests}
use Rattle.std.proofs.lemmas.Nat.{from_be_bytes-to_be_bytes_4, from_be_bytes-to_be_bytes_8}
use Rattle.ps_disks.specs.Disk.{written, Torn}
use Rattle.ps_disks.proofs.DiskLemmas.{written_within, written_behind, torn_front}
use Rattle.host_journal.specs.Calls.{KeepsHead}
use Rattle.host_journal.specs.Format.{magic, open_head}
use Rattle.host_journal.specs.Pair.{gates_at}
use Rattle.host_journal.specs.State.{IsClosed, IsOlder, IsAside, IsLess, IsWhole, IsImage, image_bytes, closing}
use Rattle.host_journal.proofs.FrontLemmas.{first_front, is_first_front, stands_whole}
use Rattle.host_journal.proofs.HeadLemmas.{closed_made, closed_same, closed_split, stands_split}

-- any part of a write over a head gate byte changes no more than the gate byte
pub gate_torn : (old new rest : List ℕ) (gate_byte : ℕ) → old ≡ magic ++ gate_byte ∷ rest → Torn 8 1 old new → new ≡ magic ++ get_or new 8 0 ∷ rest
gate_torn old new rest gate_byte split torn =
    let long : 9 ≤ length old = omega (arith, ap length split) in
    let front : take 8 new ≡ magic = torn_front 8 8 1 old new torn (omega arith) (omega (arith, long)) ∙ ap (take 8) split in
    let behind : drop 9 new ≡ rest = torn.after ∙ ap (drop 9) split in
    let next : drop 8 new ≡ get_or new 8 0 ∷ rest = drop_more new 8 0 (omega (arith, torn.no_shorter, long)) ∙ ap (λ (l : List ℕ). get_or new 8 0 ∷ l) behind in
    sym (take-append-drop 8 new) ∙ ap (λ (l : List ℕ). l ++ drop 8 new) front ∙ ap (λ (l : List ℕ). magic ++ l) next

pub gate_written : (old rest : List ℕ) (gate_byte byte : ℕ) → old ≡ magic ++ gate_byte ∷ rest → written 8 (byte ∷ []) old ≡ magic ++ byte ∷ rest
gate_written old rest gate_byte byte split =
    let long : 8 ≤ length old = omega (arith, ap length split) in
    written_within 8 (byte ∷ []) old long ∙ ap (λ (l : List ℕ). take 8 l ++ (byte ∷ []) ++ drop 9 l) split

pub close_torn : (second : Bool) (generation : ℕ) (shut : Bool) (old new : List ℕ) → IsAside second generation shut old → Torn 8 (length (closing shut)) old new → IsAside second generation shut new
close_torn second generation true old new closed torn =
    let long = closed.has_gate in
    let front : take 8 new ≡ take 8 old = torn_front 8 8 0 old new torn (omega arith) (omega (arith, long)) in
    let same : new ≡ old = sym (take-append-drop 8 new) ∙ ap (λ (l : List ℕ). l ++ drop 8 new) front ∙ ap (λ (l : List ℕ). take 8 old ++ l) torn.after ∙ take-append-drop 8 old in
    subst IsClosed (sym same) closed
close_torn second generation false old new has torn = record { gate_byte = get_or new 8 0; rest = has.rest; split = gate_torn old new has.rest has.gate_byte has.split torn; older = has.older }

pub close_written : (second : Bool) (generation : ℕ) (shut : Bool) (old new : List ℕ) → IsAside second generation shut old → new ≡ written 8 (closing shut) old → IsClosed new
close_written second generation true old new closed is = subst IsClosed (sym is) closed
close_written second generation false old new has is = subst IsClosed (sym (is ∙ gate_written old has.rest has.gate_byte 0 has.split)) (closed_made 0 has.rest (omega arith))

pub kept_closed : (old new : List ℕ) → IsClosed old → KeepsHead old new → IsClosed new
kept_closed old new closed keeps = let kept = keeps closed.has_gate in closed_same old new closed kept.0 kept.1

-- What stands behind the head gate byte from then on.
module _ (generation : ℕ) (image : List ℕ) (fits : generation < 2 ^ 64) (small : length image < 2 ^ 32) where
  abbrev number : List ℕ
  number = to_be_bytes w64 generation

  abbrev size : List ℕ
  size = to_be_bytes w32 (length image)

  abbrev pub front : List ℕ
  front = first_front open_head number size image

  pub image_whole : IsWhole generation (gates_at image) (gates_at image) (image ∷ []) (magic ++ 1 ∷ image_bytes generation image)
  image_whole =
      let is_front = is_first_front open_head number size image generation refl refl refl (from_be_bytes-to_be_bytes_8 generation fits) refl (from_be_bytes-to_be_bytes_4 (length image) small) in
      let parts : open_head ++ (number ++ (size ++ (image ++ 0 ∷ []))) ≡ front ++ 0 ∷ [] =
      sym (append_assoc open_head (number ++ (size ++ image)) (0 ∷ [])
      ∙ ap (λ (l : List ℕ). open_head ++ l) (append_assoc number (size ++ image) (0 ∷ []) ∙ ap (λ (l : List ℕ). number ++ l) (append_assoc size image (0 ∷ [])))) in
      record {
        front = front;
        gate_byte = 0;
        tail = [];
        split = parts;
        is_shut = omega arith;
        snapshot = image;
        records = [];
        is_list = refl;
        is_front = is_front;
        is_start = refl;
        is_end = sym (is_front.size ∙ none);
      }
    where
      none : gates_at image + 0 ≡ gates_at image
      none = omega arith

  pub image_written : (old new : List ℕ) → IsClosed old → new ≡ written 9 (image_bytes generation image) (take 9 old) → IsImage generation (gates_at image) image new
  image_written old new closed is =
      let head : take 9 old ≡ magic ++ get_or old 8 0 ∷ [] = ap (take 9) (closed_split old closed) in
      let nine : 9 ≡ length (take 9 old) = omega (arith, ap length head) in
      record {
        gate_byte = get_or old 8 0;
        rest = image_bytes generation image;
        split = is ∙ written_behind 9 (image_bytes generation image) (take 9 old) nine ∙ ap (λ (l : List ℕ). l ++ image_bytes generation image) head;
        is_whole = image_whole;
      }

module _ (generation start : ℕ) (image : List ℕ) where
  pub image_torn : (old new : List ℕ) → IsImage generation start image old → Torn 8 1 old new → IsImage generation start image new
  image_torn old new is torn = record { gate_byte = get_or new 8 0; rest = is.rest; split = gate_torn old new is.rest is.gate_byte is.split torn; is_whole = is.is_whole }

  pub image_open : (bytes : List ℕ) (is : IsImage generation start image bytes) → is.gate_byte ≡ 1 → IsWhole generation start start (image ∷ []) bytes
  image_open bytes is opened_gate = subst (IsWhole generation start start (image ∷ [])) (sym (is.split ∙ ap (λ (g : ℕ). magic ++ g ∷ is.rest) opened_gate)) is.is_whole

  pub image_shut : (bytes : List ℕ) (is : IsImage generation start image bytes) → is.gate_byte ≢ 1 → IsClosed bytes
  image_shut bytes is shut = subst IsClosed (sym is.split) (closed_made is.gate_byte is.rest shut)

  pub image_either : (bytes : List ℕ) → IsImage generation start image bytes → IsClosed bytes ⊎ IsWhole generation start start (image ∷ []) bytes
  image_either bytes is = elim (cases_eq is.gate_byte 1) [
    | inl at_one ↦ inr (image_open bytes is at_one)
    | inr shut ↦ inl (image_shut bytes is shut)
  ]

  pub image_opened : (old new : List ℕ) → IsImage generation start image old → new ≡ written 8 (1 ∷ []) old → IsWhole generation start start (image ∷ []) new
  image_opened old new is made = subst (IsWhole generation start start (image ∷ [])) (sym (made ∙ gate_written old is.rest is.gate_byte 1 is.split)) is.is_whole

-- the disk that counted is the older one beside the next generation
pub older_now : (second : Bool) (generation start end : ℕ) (list : List (List ℕ)) (bytes : List ℕ) → IsWhole generation start end list bytes → IsAside (not second) (generation + 1) false bytes
older_now second generation start end list bytes whole =
    let made = stands_whole generation start end list bytes whole in
    let split = stands_split bytes made.is_standing in
    record {
      gate_byte = 1;
      rest = drop 9 bytes;
      split = split;
      older = subst (IsOlder (not second) (generation + 1)) split (record { is_standing = made.is_standing; body = made.body; is_body = made.is_body; is_less = less second made.body.generation made.is_generation });
    }
  where
    less : (s : Bool) (g : ℕ) → g ≡ generation → IsLess (not s) (generation + 1) g
    less true g is = grind (arith, nat_tests)
    less false g is = grind (arith, nat_tests)
