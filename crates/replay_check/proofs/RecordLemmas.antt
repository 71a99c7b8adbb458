-- Changes in a row, as the first of them is taken in.
use Rattle.std.specs.Prelude.{◌↔◌}
use Rattle.std.proofs.Common.{◌≡◌, ◌≤◌, ◌+◌, ◌∙◌, ℕ, List, ◌∷◌, All, length, subst, sym, ap, arith}
use Rattle.std.proofs.lemmas.List.Elements.{All-tail}
use Rattle.host_model.specs.Apply.{apply, apply_all}
use Rattle.host_model.specs.Book.{Book}
use Rattle.host_model.specs.Lawful.{Lawful}
use Rattle.host_model.specs.MayFollow.{CanApplyAll}
use Rattle.host_model.specs.declared.change.Change.{Change}
use Rattle.replay_check.specs.Follows.{Follows}
use Rattle.replay_check.specs.ReadChange.{IsReadChange}

module _ (number m : ℕ) (items rest all : List Change) (x : Change) (b after first : Book) (steps : items ≡ x ∷ rest) (moment : b.moment ≡ m) (follows : Follows number b x) (taken : after ≡ apply b.moment x b) where
  here : after ≡ apply m x b
  here = taken ∙ ap (λ n. apply n x b) moment

  pub moment_on : after.moment ≡ m
  moment_on = ap (λ (a : Book). a.moment) taken ∙ moment

  -- the others decide
  pub may_on : (CanApplyAll number m items b ↔ CanApplyAll number m all first) → (CanApplyAll number m rest after ↔ CanApplyAll number m all first)
  may_on so_far = (
    λ can. so_far.0 (subst (λ (l : List Change). CanApplyAll number m l b) (sym steps) (follows.0, subst (λ n. Lawful number (apply n x b)) moment follows.1, subst (CanApplyAll number m rest) here can)),
    λ every. subst (CanApplyAll number m rest) (sym here) (subst (λ (l : List Change). CanApplyAll number m l b) steps (so_far.1 every)).2,
  )

  -- and lead to the same book
  pub book_on : apply_all m items b ≡ apply_all m all first → apply_all m rest after ≡ apply_all m all first
  book_on so_far = ap (apply_all m rest) here ∙ (ap (λ (l : List Change). apply_all m l b) (sym steps) ∙ so_far)

pub read_on : (items rest : List Change) (x : Change) → items ≡ x ∷ rest → All IsReadChange items → All IsReadChange rest
read_on items rest x steps read = All-tail IsReadChange x rest (subst (All IsReadChange) steps read)

pub room_on : (items rest : List Change) (x : Change) (before after : ℕ) → items ≡ x ∷ rest → length items ≤ before → before ≤ after + 1 → length rest ≤ after
room_on items rest x before after steps enough less = let more : length items ≡ length (x ∷ rest) = ap length steps in omega (arith, more, enough, less)
