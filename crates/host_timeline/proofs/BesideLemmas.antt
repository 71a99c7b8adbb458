-- Which lanes a run of a class looks at, and that these decide.
use Rattle.std.proofs.Common.{◌≡◌, ◌∙◌, ◌+◌, ℕ, List, [], ◌∷◌, Bool, true, false, cond, not, ◌&&◌, ◌||◌, eqb, Option, refl, sym, ap, ap₂, arith}
use Rattle.std.specs.List.{list_all}
use Rattle.std.proofs.lemmas.Bool.Decides.{nat_tests}
use Rattle.ps_time.specs.Class.{conflicting_classes}
use Rattle.ps_time.specs.declared.class.Class.{Class}
use Rattle.ps_time.specs.declared.class.Class.TheVariants.{BackgroundMulti, Background, Normal, Exclusive}
use Rattle.host_timeline.specs.declared.booking.Booking.{Booking}
use Rattle.host_timeline.specs.Lane.{Lanes, lane_of, how_many, same_class, spans, is_beside, Decide, FailsOutside, Have, HoldLanes}
use Rattle.host_timeline.proofs.Tests.{and_false}
use Rattle.host_timeline.proofs.CountLemmas.{all_none, count_alike}

fails_as : (s q : Bool) → (s && not q) ≡ not (not s || q)
fails_as true q = refl
fails_as false q = refl

pub outside_spans : (from : ℕ) (until : Option ℕ) (test : Booking → Bool) (class : Class) → FailsOutside (is_beside class from until) test → FailsOutside (spans from until) test
outside_spans from until test class outside b over = outside b (ap (λ x. conflicting_classes class b.class && x) over ∙ and_false (conflicting_classes class b.class))

pub none_conflicts : (class : Class) → (class ≡ Normal → ⊥) → (class ≡ Exclusive → ⊥) → (k : Class) → conflicting_classes class k ≡ false
none_conflicts BackgroundMulti normal exclusive k = refl
none_conflicts Background normal exclusive k = refl
none_conflicts Normal normal exclusive k = absurd (normal refl)
none_conflicts Exclusive normal exclusive k = absurd (exclusive refl)

count_sum : (p q r : Booking → Bool) → ((b : Booking) → (cond (p b) 1 0) + (cond (q b) 1 0) ≡ (cond (r b) 1 0)) → (bs : List Booking) → how_many p bs + how_many q bs ≡ how_many r bs
count_sum p q r each [] = refl
count_sum p q r each (b ∷ bs) = omega (arith, each b, count_sum p q r each bs)

count_nothing : (q : Booking → Bool) → ((b : Booking) → q b ≡ false) → (bs : List Booking) → how_many q bs ≡ 0
count_nothing q none [] = refl
count_nothing q none (b ∷ bs) = rw (none b) (omega (arith, count_nothing q none bs))

no_more : (x : Bool) → (cond x 1 0) + 0 ≡ (cond x 1 0)
no_more true = refl
no_more false = refl

no_less : (x : Bool) → 0 + (cond x 1 0) ≡ (cond x 1 0)
no_less true = refl
no_less false = refl

module _ (bs : List Booking) (lanes : Lanes) (hold : HoldLanes bs lanes) where
  -- a test of all of a lane is one of all bookings
  pub all_lane : (c : Class) (q : Booking → Bool) → list_all q (lane_of c lanes).list ≡ list_all (λ b. not (same_class c b.class) || q b) bs
  all_lane c q =
      all_none q (lane_of c lanes).list
      ∙ ap (λ n. eqb n 0) (hold c (λ b. not (q b)) ∙ count_alike (λ b. same_class c b.class && not (q b)) (λ b. not (not (same_class c b.class) || q b)) (λ b. fails_as (same_class c b.class) (q b)) bs)
      ∙ sym (all_none (λ b. not (same_class c b.class) || q b) bs)

  module _ (from : ℕ) (until : Option ℕ) (test : Booking → Bool) where
    exclusive_at : (b : Booking) (k : Class) → ((conflicting_classes Exclusive k && spans from until b) ≡ false → test b ≡ false) → (cond (same_class Exclusive k && test b) 1 0) + (cond (same_class Normal k && test b) 1 0) ≡ (cond (test b) 1 0)
    exclusive_at b BackgroundMulti f = rw (f refl) refl
    exclusive_at b Background f = rw (f refl) refl
    exclusive_at b Normal f = no_less (test b)
    exclusive_at b Exclusive f = no_more (test b)

    normal_at : (b : Booking) (k : Class) → ((conflicting_classes Normal k && spans from until b) ≡ false → test b ≡ false) → (same_class Exclusive k && test b) ≡ test b
    normal_at b BackgroundMulti f = sym (f refl)
    normal_at b Background f = sym (f refl)
    normal_at b Normal f = sym (f refl)
    normal_at b Exclusive f = refl

    none_at : (b : Booking) (class k : Class) → conflicting_classes class k ≡ false → ((conflicting_classes class k && spans from until b) ≡ false → test b ≡ false) → test b ≡ false
    none_at b class k none f = f (rw none refl)

    pub have_exclusive : (some others : List Booking) → FailsOutside (is_beside Exclusive from until) test → how_many test some ≡ how_many test lanes.exclusive.list → how_many test others ≡ how_many test lanes.normal.list → how_many test some + how_many test others ≡ how_many test bs
    have_exclusive some others outside first second =
        ap₂ (λ m n. m + n) (first ∙ hold Exclusive test) (second ∙ hold Normal test)
        ∙ count_sum (λ b. same_class Exclusive b.class && test b) (λ b. same_class Normal b.class && test b) test (λ b. exclusive_at b b.class (outside b)) bs

    pub have_normal : (some : List Booking) → FailsOutside (is_beside Normal from until) test → how_many test some ≡ how_many test lanes.exclusive.list → how_many test some + 0 ≡ how_many test bs
    have_normal some outside first =
        let none : how_many test some + 0 ≡ how_many test some = omega arith in
        none ∙ first ∙ hold Exclusive test ∙ count_alike (λ b. same_class Exclusive b.class && test b) test (λ b. normal_at b b.class (outside b)) bs

    pub have_none : (class : Class) → ((k : Class) → conflicting_classes class k ≡ false) → FailsOutside (is_beside class from until) test → 0 ≡ how_many test bs
    have_none class none outside = sym (count_nothing test (λ b. none_at b class b.class (none b.class) (outside b)) bs)

zero_sum : (m n : ℕ) → (eqb m 0 && eqb n 0) ≡ eqb (m + n) 0
zero_sum m n = grind (arith, nat_tests)

-- what has as many decides
pub have_decide : (class : Class) (from : ℕ) (until : Option ℕ) (bs some others : List Booking) → Have class from until bs some others → Decide class from until bs some others
have_decide class from until bs some others have = λ test outside.
    let fails : Booking → Bool = λ b. not (test b) in
    ap₂ (λ x y. x && y) (all_none test some) (all_none test others)
    ∙ zero_sum (how_many fails some) (how_many fails others)
    ∙ ap (λ n. eqb n 0) (have fails (λ b off. rw (outside b off) refl))
    ∙ sym (all_none test bs)
