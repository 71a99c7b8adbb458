-- What small tests decide: orders, names, and a test itself.
use Rattle.std.specs.Bool.{Decides}
use Rattle.std.specs.Cmp.{int_ranks}
use Rattle.std.specs.List.{Contains}
use Rattle.std.specs.Ordering.{MatchOrdering, int_cmp, is_lt}
use Rattle.std.specs.declared.cmp.Ordering.{Ordering}
use Rattle.std.specs.declared.cmp.Ordering.TheVariants.{Less, Equal, Greater}
use Rattle.std.proofs.Common.{bytes_eq, ◌≡◌, ◌<ℤ◌, ◌≤◌, ℕ, ℤ, Bool, true, nat_le, List, refl, arith}
use Rattle.std.proofs.lemmas.Bool.{le-leb, leb-true}
use Rattle.std.proofs.lemmas.Bool.Decides.{Decides-by_or}
use Rattle.std.proofs.lemmas.Int.{ints}
use Rattle.std.proofs.lemmas.List.Elements.{Decides-contains}
use Rattle.std.proofs.lemmas.Slice.Eq.{bytes_eq-Decides}
use Rattle.plugin_core.specs.Participants.{is_named}

pub itself : (b : Bool) → Decides b (b ≡ true)
itself b = ((λ e. e), (λ e. e))

pub leb_decided : (a b : ℕ) → Decides (nat_le a b) (a ≤ b)
leb_decided a b = ((λ e. leb-true a b e), (λ le. le-leb a b le))

lower_is : (x y : ℤ) (o : Ordering) → MatchOrdering o (x <ℤ y) (x ≡ y) (y <ℤ x) → Decides (is_lt o) (x <ℤ y)
lower_is x y Less below = ((λ e. below), (λ lt. refl))
lower_is x y Equal same = ((λ e. cc), (λ lt. absurd (omega (arith, ints, same, lt))))
lower_is x y Greater above = ((λ e. cc), (λ lt. absurd (omega (arith, ints, above, lt))))

pub lower_decided : (x y : ℤ) → Decides (is_lt (int_cmp x y)) (x <ℤ y)
lower_decided x y = lower_is x y (int_cmp x y) (int_ranks x y)

pub named_decided : (name : List ℕ) (names : List (List ℕ)) → Decides (is_named name names) (Contains names name)
named_decided name names =
    Decides-contains names name (is_named name names) (Decides-by_or (λ other. bytes_eq other name) (λ other. other ≡ name) (is_named name) (λ other. bytes_eq-Decides other name) refl (λ _ _. refl) names)
