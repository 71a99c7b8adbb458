-- What is known of a step once it is counted.
use Rattle.std.proofs.Common.{◌≡◌, ◌+◌, max, ℕ, Bool, true, false, Option, Some, refl, sym, ap, ◌∙◌, ⊎_elim, arith}
use Rattle.std.proofs.lemmas.Option.{same_Some}
use Rattle.host_gate.specs.declared.view.Mark.{Mark}
use Rattle.host_gate.specs.Marks.{Follows, Meets, HasFront, added}
use Rattle.host_gate.specs.Plays.{mark}
use Rattle.host_gate.specs.Calls.{Stepped}
use Rattle.host_gate.proofs.LineKept.{follows_trans}

none_added : (b : Bool) → added b ≡ 0 → b ≡ false
none_added true e = absurd (omega arith)
none_added false e = refl

module _ {K : Type 0} (grown : K → K → Type 0) (grown_refl : (x : K) → grown x x) (grown_trans : (x y z : K) → grown x y → grown y z → grown x z) where
  pub stepped : {Call Reply : Type 0} (steps : K → Call → Reply → Bool → K → Type 0) (was is : Option (Mark K)) (before found : Mark K) (call : Call) (reply : Reply) (changed : Bool) (y : K) (front : ℕ)
      → was ≡ Some before → is ≡ Some (mark y front) → Follows grown before found → steps found.state call reply changed y → grown found.state y
      → (changed ≡ false → y ≡ found.state) → front ≡ found.front + added changed → Stepped grown steps was call reply is
  stepped steps was is before found call reply changed y front before_is after_is later step grows same adds =
      let next : Follows grown found (mark y front) = record { front = omega arith; grows = grows; same = λ level. sym (same (none_added changed (omega arith))) } in record {
        before = before;
        found = found;
        after = mark y front;
        changed = changed;
        before_is = before_is;
        after_is = after_is;
        later = later;
        step = step;
        front = adds;
        next = next;
        grows = follows_trans grown grown_refl grown_trans before found (mark y front) later next;
      }

  -- what is kept of two has the greater front
  pub later_front : (mine theirs kept : Option (Mark K)) (n k : ℕ) → HasFront mine n → HasFront theirs k → Meets grown mine theirs kept → HasFront kept (max n k)
  later_front mine theirs kept n k a b m =
      let x : m.first ≡ a.0 = same_Some m.first a.0 (sym m.first_is ∙ a.1) in
      let y : m.second ≡ b.0 = same_Some m.second b.0 (sym m.second_is ∙ b.1) in
      let f : m.first.front ≡ n = ap (λ (z : Mark K). z.front) x ∙ a.2 in
      let g : m.second.front ≡ k = ap (λ (z : Mark K). z.front) y ∙ b.2 in
      let p = m.follows_first.front in
      let q = m.follows_second.front in (
        m.last,
        m.last_is,
        ⊎_elim (λ (e : m.last ≡ m.first). let h : m.last.front ≡ m.first.front = ap (λ (z : Mark K). z.front) e in omega arith)
            (λ (e : m.last ≡ m.second). let h : m.last.front ≡ m.second.front = ap (λ (z : Mark K). z.front) e in omega arith) m.one,
      )
