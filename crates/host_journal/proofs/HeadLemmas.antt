-- Heads of disks, open and closed.
use Rattle.std.proofs.Common.{◌≡◌, ◌≢◌, inl, inr, ℕ, suc, ◌≤◌, Bool, true, false, if◌then◌else◌, List, [], ◌∷◌, ◌++◌, length, get_or, take, drop, refl, sym, ◌∙◌, ap, subst, arith, length-take, take-append-drop}
use Rattle.std.specs.Prelude.{◌==◌}
use Rattle.std.proofs.lemmas.List.{drop_more}
use Rattle.std.proofs.lemmas.Bool.{cases_eq}
use Rattle.host_journal.specs.Format.{magic, open_head, agreeing, stands}
use Rattle.host_journal.specs.State.{IsClosed, IsOlder, HasOlder, IsAside, IsBelow}
use Rattle.host_journal.proofs.FormatLemmas.{eq_from, ne_false, agreeing_front}

-- all of the wanted bytes are there
pub agreeing_all : (wanted bytes : List ℕ) → agreeing wanted bytes ≡ length wanted → bytes ≡ wanted ++ drop (length wanted) bytes
agreeing_all [] bytes all = refl
agreeing_all (w ∷ wanted) [] all = absurd (omega arith)
agreeing_all (w ∷ wanted) (b ∷ bytes) all = by_test (b == w) refl all (agreeing_all wanted bytes)
  where
    by_test : (t : Bool) → (b == w) ≡ t → (if t then suc (agreeing wanted bytes) else 0) ≡ suc (length wanted) → (agreeing wanted bytes ≡ length wanted → bytes ≡ wanted ++ drop (length wanted) bytes) → b ∷ bytes ≡ w ∷ (wanted ++ drop (length wanted) bytes)
    by_test true same all rest = let is : b ≡ w = eq_from b w same in let tail = rest (omega arith) in ap (λ (c : ℕ). c ∷ bytes) is ∙ ap (λ (l : List ℕ). w ∷ l) tail
    by_test false same all rest = absurd (omega arith)

-- a disk that stands is the magic, an open gate byte, and the rest
pub stands_split : (bytes : List ℕ) → stands bytes ≡ true → bytes ≡ magic ++ 1 ∷ drop 9 bytes
stands_split bytes opens = agreeing_all open_head bytes (eq_from (agreeing open_head bytes) 9 opens)

-- the magic, and a gate byte that isn't open
pub closed_made : (gate_byte : ℕ) (rest : List ℕ) → gate_byte ≢ 1 → IsClosed (magic ++ gate_byte ∷ rest)
closed_made gate_byte rest shut = record {
  not_standing = ap (λ (t : Bool). suc (suc (suc (suc (suc (suc (suc (suc (if t then suc (agreeing [] rest) else 0)))))))) == 9) (ne_false gate_byte 1 shut);
  has_magic = refl;
  has_gate = omega arith;
}

pub closed_split : (bytes : List ℕ) → IsClosed bytes → bytes ≡ magic ++ get_or bytes 8 0 ∷ drop 9 bytes
closed_split bytes closed =
    let rest : drop 8 bytes ≡ get_or bytes 8 0 ∷ drop 9 bytes = drop_more bytes 8 0 (omega (arith, closed.has_gate)) in
    agreeing_all magic bytes closed.has_magic ∙ ap (λ (l : List ℕ). magic ++ l) rest

-- the first nine bytes decide
pub closed_same : (old new : List ℕ) → IsClosed old → take 9 new ≡ take 9 old → 9 ≤ length new → IsClosed new
closed_same old new closed same long =
    record {
      not_standing = ap (λ (n : ℕ). n == 9) (front_same open_head (omega arith)) ∙ closed.not_standing;
      has_magic = front_same magic (omega arith) ∙ closed.has_magic;
      has_gate = long;
    }
  where
    by_nine : (wanted bytes : List ℕ) → length wanted ≤ 9 → 9 ≤ length bytes → agreeing wanted bytes ≡ agreeing wanted (take 9 bytes)
    by_nine wanted bytes le long =
        ap (agreeing wanted) (sym (take-append-drop 9 bytes)) ∙ agreeing_front wanted (take 9 bytes) (drop 9 bytes) (omega (arith, le, long, length-take 9 bytes))

    front_same : (wanted : List ℕ) → length wanted ≤ 9 → agreeing wanted new ≡ agreeing wanted old
    front_same wanted le = by_nine wanted new le long ∙ ap (agreeing wanted) same ∙ sym (by_nine wanted old le closed.has_gate)

-- a disk that stands with a smaller generation is one behind any gate byte
pub older_has : (second : Bool) (generation : ℕ) (bytes : List ℕ) → IsOlder second generation bytes → HasOlder second generation bytes
older_has second generation bytes older =
    let split = stands_split bytes older.is_standing in
    record { gate_byte = 1; rest = drop 9 bytes; split = split; older = subst (IsOlder second generation) split older }

pub aside_below : (second : Bool) (generation : ℕ) (shut : Bool) (bytes : List ℕ) → IsAside second generation shut bytes → IsBelow second generation bytes
aside_below second generation true bytes closed = inl closed
aside_below second generation false bytes has = elim (cases_eq has.gate_byte 1) [
  | inl is_open ↦ inr (subst (IsOlder second generation) (sym (has.split ∙ ap (λ (g : ℕ). magic ++ g ∷ has.rest) is_open)) has.older)
  | inr shut ↦ inl (subst IsClosed (sym has.split) (closed_made has.gate_byte has.rest shut))
]
