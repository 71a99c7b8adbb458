-- A journal over two disks of which a crash leaves nothing but what they read, and what a snapshot or a `reload` has made of their order.
use Rattle.std.proofs.Common.{◌≡◌, ℕ, Bool, List, refl, sym, ◌∙◌, ap, subst}
use Rattle.ps_disks.specs.Disk.{Only}
use Rattle.host_journal.specs.State.{State, pair_in, stored, EachImage, IsAt, IsAside, IsWhole, Counting, Beside, IsSound}
use Rattle.host_journal.specs.declared.pending.Pending.{Pending}
use Rattle.host_journal.specs.declared.pending.Pending.TheVariants.{Nothing}
use Rattle.host_journal.proofs.HeadLemmas.{aside_below}
use Rattle.host_journal.proofs.PairLemmas.{counts_as, pair_whole}
use Rattle.host_journal.proofs.StateLemmas.{stored_of, stored_in, images_in}

-- The disk that counts is whole, the other lies beside it, and both are fixed.
pub record Fixed {D : Type 0} (seen : D → List ℕ) (may_leave : D → List ℕ → Type 0) (s : State D) (list : List (List ℕ)) : Type 0 where
  pub whole : IsWhole s.generation s.start s.end list (seen s.counting)
  pub aside : IsAside s.second s.generation s.shut (seen s.other)
  pub only : Only (seen s.counting) (may_leave s.counting)
  pub only_other : Only (seen s.other) (may_leave s.other)

module _ {D : Type 0} (seen : D → List ℕ) (may_leave : D → List ℕ → Type 0) (s : State D) (list : List (List ℕ)) (fixed : Fixed seen may_leave s list) where
  pub fixed_counts : stored seen s ≡ counts_as s.second s.generation s.start s.end list
  fixed_counts =
      stored_in seen s.second s.counting s.other
      ∙ pair_whole s.second s.generation s.start s.end list (seen s.counting) (seen s.other) fixed.whole (aside_below s.second s.generation s.shut (seen s.other) fixed.aside)

  pub fixed_place : IsAt s (stored seen s)
  fixed_place = subst (IsAt s) (sym fixed_counts) (refl, refl, refl, refl)

  pub fixed_durable : EachImage may_leave s (λ pair. pair ≡ stored seen s)
  fixed_durable =
      images_in may_leave s.second s.counting s.other (λ pair. pair ≡ stored seen s)
      (λ c d now now_other.
      ap (λ (b : List ℕ). pair_in s.second b d) (fixed.only c now) ∙ ap (pair_in s.second (seen s.counting)) (fixed.only_other d now_other) ∙ sym (stored_in seen s.second s.counting s.other))

  pub fixed_sound : s.pending ≡ Nothing → IsSound seen may_leave s
  fixed_sound is = record {
    list = list;
    counting = λ c now. subst (λ (p : Pending). Counting s list p c) (sym is) (subst (IsWhole s.generation s.start s.end list) (sym (fixed.only c now)) fixed.whole);
    other = λ d now. subst (λ (p : Pending). Beside s p d) (sym is) (subst (IsAside s.second s.generation s.shut) (sym (fixed.only_other d now)) fixed.aside);
    fixed = λ _. (fixed.only, fixed.only_other);
  }

-- The order of a pair.
pub same_order : {D : Type 0} (seen : D → List ℕ) (second : Bool) (counting other counting_new other_new : D) → seen counting_new ≡ seen counting → seen other_new ≡ seen other
    → stored_of seen second counting_new other_new ≡ stored_of seen second counting other
same_order seen second counting other counting_new other_new same same_other =
    stored_in seen second counting_new other_new ∙ ap (λ (b : List ℕ). pair_in second b (seen other_new)) same ∙ ap (pair_in second (seen counting)) same_other ∙ sym (stored_in seen second counting other)
