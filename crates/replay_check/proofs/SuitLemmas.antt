-- A change may follow a lawful book exactly where it can be applied and suits it.
use Rattle.std.specs.Prelude.{◌↔◌, IsNone, IsSome, MatchOption}
use Rattle.std.specs.Ordering.{is_eq}
use Rattle.std.proofs.Common.{◌≡◌, ◌∙◌, ℕ, Bool, true, false, cond, List, Option, Some, None, is_some, map, refl, subst, sym, ap}
use Rattle.ps_time.specs.Key.{key_cmp}
use Rattle.ps_time.specs.declared.key.RunKey.{RunKey}
use Rattle.run_states.specs.LawfulRow.{IsFreeAnswer}
use Rattle.archive_retry.specs.Merge.{IsResult}
use Rattle.run_states.specs.Rows.{find_row}
use Rattle.run_states.specs.declared.answer.FreeAnswer.{FreeAnswer}
use Rattle.run_states.specs.declared.answer.Other.{Other}
use Rattle.run_states.specs.declared.row.RunRow.{RunRow}
use Rattle.host_model.specs.Apply.{apply}
use Rattle.host_model.specs.Book.{Book}
use Rattle.host_model.specs.Effect.{effect}
use Rattle.host_model.specs.Heard.{other_at}
use Rattle.host_model.specs.Lawful.{Lawful}
use Rattle.host_model.specs.LawfulRow.{IsHostRow}
use Rattle.host_model.specs.MayFollow.{CanApply}
use Rattle.host_model.specs.declared.change.Change.{Change}
use Rattle.host_model.specs.declared.change.Change.TheVariants.{FreeHeard, Merged, ResultHeard}
use Rattle.host_model.proofs.Brings.{Brings, brings_suits}
use Rattle.host_model.proofs.LawfulBook.{apply_lawful}
use Rattle.host_model.proofs.Placed.{find_row-key}
use Rattle.host_model.proofs.RowLemmas.{found_of_all}
use Rattle.replay_check.proofs.NeedLemmas.{needs}
use Rattle.replay_check.proofs.UnchangedLemmas.{free_same, merge_same, result_same, rows_same}
use Rattle.replay_check.specs.Follows.{Follows}
use Rattle.replay_check.specs.Suits.{IsFirstMerge, Suits}

module _ (self : ℕ) (b : Book) (lawful : Lawful self b) where
  abbrev m : ℕ
  m = b.moment

  brought : (c : Change) → CanApply b c → Brings self m b c → Lawful self (apply m c b)
  brought c can brings = apply_lawful self m b c refl lawful (brings_suits self m b c can brings)

  -- ---- a change that leaves the row of its key as it is
  unchanged : (c : Change) (k : RunKey) (q : RunRow) → find_row b.rows k ≡ Some q → effect m b.tasks c q ≡ q → apply m c b ≡ record b { rows = map (λ r. cond (is_eq (key_cmp r.key k)) (effect m b.tasks c r) r) b.rows } → Lawful self (apply m c b)
  unchanged c k q at same is =
      subst (Lawful self) (sym (is ∙ ap (λ (rows : List RunRow). record b { rows = rows }) (rows_same (effect m b.tasks c) k q b.rows lawful.ascending at same))) lawful

  free_lawful : (k : RunKey) (place : ℕ) (answer : FreeAnswer) → CanApply b (FreeHeard k place answer) → Suits self b (FreeHeard k place answer) → Lawful self (apply m (FreeHeard k place answer) b)
  free_lawful k place answer can suits = go (find_row b.rows k) refl suits
    where
      by : (r : RunRow) (o : Other) (t : Bool) → find_row b.rows k ≡ Some r → other_at r place ≡ Some o → is_some o.free ≡ t → (IsNone o.free → IsFreeAnswer answer) → Lawful self (apply m (FreeHeard k place answer) b)
      by r o true at there heard brings = unchanged (FreeHeard k place answer) k r at (free_same answer place r o there heard) refl
      by r o false at there heard brings = brought (FreeHeard k place answer) can (brings heard)

      other : (r : RunRow) (o : Option Other) → find_row b.rows k ≡ Some r → other_at r place ≡ o → MatchOption o ⊥ (λ x. IsNone x.free → IsFreeAnswer answer) → Lawful self (apply m (FreeHeard k place answer) b)
      other r None at there none = absurd none
      other r (Some o) at there brings = by r o (is_some o.free) at there refl brings

      go : (o : Option RunRow) → find_row b.rows k ≡ o → MatchOption o ⊥ (λ r. MatchOption (other_at r place) ⊥ (λ x. IsNone x.free → IsFreeAnswer answer)) → Lawful self (apply m (FreeHeard k place answer) b)
      go None at none = absurd none
      go (Some r) at there = other r (other_at r place) at refl there

  result_lawful : (k : RunKey) (place : ℕ) (result : Option (List ℕ)) → CanApply b (ResultHeard k place result) → Suits self b (ResultHeard k place result) → Lawful self (apply m (ResultHeard k place result) b)
  result_lawful k place result can suits = go (find_row b.rows k) refl suits
    where
      by : (r : RunRow) (o : Other) (t : Bool) → find_row b.rows k ≡ Some r → other_at r place ≡ Some o → is_some o.heard ≡ t → (IsNone o.heard → IsResult result) → Lawful self (apply m (ResultHeard k place result) b)
      by r o true at there heard brings = unchanged (ResultHeard k place result) k r at (result_same result place r o there heard) refl
      by r o false at there heard brings = brought (ResultHeard k place result) can (brings heard)

      other : (r : RunRow) (o : Option Other) → find_row b.rows k ≡ Some r → other_at r place ≡ o → MatchOption o ⊥ (λ x. IsNone x.heard → IsResult result) → Lawful self (apply m (ResultHeard k place result) b)
      other r None at there none = absurd none
      other r (Some o) at there brings = by r o (is_some o.heard) at there refl brings

      go : (o : Option RunRow) → find_row b.rows k ≡ o → MatchOption o ⊥ (λ r. MatchOption (other_at r place) ⊥ (λ x. IsNone x.heard → IsResult result)) → Lawful self (apply m (ResultHeard k place result) b)
      go None at none = absurd none
      go (Some r) at there = other r (other_at r place) at refl there

  merge_lawful : (k : RunKey) (body : List ℕ) → CanApply b (Merged k body) → Suits self b (Merged k body) → Lawful self (apply m (Merged k body) b)
  merge_lawful k body can suits = go (find_row b.rows k) refl suits
    where
      with_ended : (r : RunRow) → find_row b.rows k ≡ Some r → IsSome r.ended → MatchOption (find_row b.rows k) ⊥ (λ x. IsSome x.ended)
      with_ended r at ended = subst (λ o. MatchOption o ⊥ (λ x. IsSome x.ended)) (sym at) ended

      by : (r : RunRow) (t : Bool) → find_row b.rows k ≡ Some r → is_some r.merged ≡ t → IsFirstMerge self k body r → Lawful self (apply m (Merged k body) b)
      by r true at merged brings =
          let host : IsHostRow self b.tasks m r = found_of_all (IsHostRow self b.tasks m) k r b.rows lawful.rows at in
          let same : effect m b.tasks (Merged k body) r ≡ r = subst (λ j. effect m b.tasks (Merged j body) r ≡ r) (find_row-key b.rows k r at) (merge_same self m m b.tasks body r host merged) in
          unchanged (Merged k body) k r at same refl
      by r false at merged brings = let new = brings merged in brought (Merged k body) can (new.0, new.1, with_ended r at new.2)

      go : (o : Option RunRow) → find_row b.rows k ≡ o → MatchOption o ⊥ (IsFirstMerge self k body) → Lawful self (apply m (Merged k body) b)
      go None at none = absurd none
      go (Some r) at brings = by r (is_some r.merged) at refl brings

  -- ---- any change
  suits_lawful : (c : Change) → CanApply b c → Suits self b c → Lawful self (apply m c b)
  suits_lawful (FreeHeard k place answer) can suits = free_lawful k place answer can suits
  suits_lawful (ResultHeard k place result) can suits = result_lawful k place result can suits
  suits_lawful (Merged k body) can suits = merge_lawful k body can suits
  suits_lawful c can suits = brought c can suits

  pub suits_follows : (c : Change) → (CanApply b c × Suits self b c) ↔ Follows self b c
  suits_follows c = (λ both. (both.0, suits_lawful c both.0 both.1), λ follows. (follows.0, needs self b lawful c follows.0 follows.1))
