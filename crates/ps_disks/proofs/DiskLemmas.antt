-- For crates that write to a disk: what a write leaves, and how a run of calls goes on. Stated over any disk.
use Rattle.std.proofs.Common.{◌≡◌, inl, inr, ⊎_elim, ℕ, ◌+◌, ◌-◌, ◌≤◌, min, List, [], ◌∷◌, ◌++◌, length, take, drop, sym, ◌∙◌, ap, arith, take-append-drop}
use Rattle.std.specs.Prelude.{replicate}
use Rattle.std.proofs.lemmas.List.{append-nil, take_all, drop_all, take-take}
use Rattle.ps_disks.specs.Disk.{written, Torn, Elapses, LeavesOnly}

-- a write that begins within the bytes or at their end
pub written_within : (at : ℕ) (bytes old : List ℕ) → at ≤ length old → written at bytes old ≡ take at old ++ bytes ++ drop (at + length bytes) old
written_within at [] old le =
    let same : at + 0 ≡ at = omega arith in
    sym (ap (λ (l : List ℕ). l ++ drop (at + 0) old) (append-nil (take at old)) ∙ ap (λ (n : ℕ). take at old ++ drop n old) same ∙ take-append-drop at old)
written_within at (b ∷ bytes) old le =
    let none : at - length old ≡ 0 = omega (arith, le) in
    ap (λ (n : ℕ). take at old ++ replicate n 0 ++ (b ∷ bytes) ++ drop (at + length (b ∷ bytes)) old) none
    ∙ ap (λ (l : List ℕ). l ++ (b ∷ bytes) ++ drop (at + length (b ∷ bytes)) old) (append-nil (take at old))

-- one behind them
pub written_behind : (at : ℕ) (bytes old : List ℕ) → at ≡ length old → written at bytes old ≡ old ++ bytes
written_behind at bytes old is =
    written_within at bytes old (omega (arith, is))
    ∙ ap (λ (l : List ℕ). l ++ bytes ++ drop (at + length bytes) old) (take_all at old (omega (arith, is)))
    ∙ ap (λ (l : List ℕ). old ++ bytes ++ l) (drop_all (at + length bytes) old (omega (arith, is)))
    ∙ append-nil (old ++ bytes)

-- any part of a write leaves what lies before it
pub torn_front : (k at n : ℕ) (old new : List ℕ) → Torn at n old new → k ≤ at → k ≤ length old → take k new ≡ take k old
torn_front k at n old new torn le fits =
    let before : take (min at (length old)) new ≡ take at old = torn.before in
    sym (take-take k (min at (length old)) new (omega (arith, le, fits))) ∙ ap (take k) before ∙ take-take k at old le

module _ {D : Type 0} (moment : D → ℕ) (left_since : D → ℕ → List ℕ → Type 0) where
  -- before the first call
  pub leaves_at_first : (old : D) (P : List ℕ → Type 0) → ((c : List ℕ) → left_since old (moment old) c → P c) → LeavesOnly moment left_since old old P
  leaves_at_first old P here = record { later = omega arith; each = here; before = λ t c le left. inl left }

  -- after one call more, from which on a crash leaves what has P
  pub leaves_after_call : (old mid new : D) (P images : List ℕ → Type 0) → LeavesOnly moment left_since old mid P
      → Elapses (moment mid) (moment new) (left_since mid) (left_since new) images → ((c : List ℕ) → images c → P c) → LeavesOnly moment left_since old new P
  leaves_after_call old mid new P images so_far time here = record {
    later = omega (arith, so_far.later, time.later);
    each = λ c left. ⊎_elim (so_far.each c) (here c) (time.nothing_else (moment old) c so_far.later left);
    before = λ t c le left. ⊎_elim (so_far.before t c le) (λ now. inr (here c now)) (time.nothing_else t c (omega (arith, le, so_far.later)) left);
  }
