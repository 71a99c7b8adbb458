-- The rows of a lawful book have their moments in bounds.
use Rattle.std.proofs.Common.{◌≡◌, ℕ, ◌≤◌, ◌+◌, List, Option, Some, None, IfSome, All, ap, arith}
use Rattle.std.proofs.lemmas.List.Elements.{All-weaker}
use Rattle.ps_time.specs.Numbers.{greatest_length, greatest_moment}
use Rattle.ps_time.specs.Span.{Span}
use Rattle.plugin_core.specs.Bounds.{IsTest}
use Rattle.plugin_core.specs.TestSpec.{test_length}
use Rattle.plugin_core.specs.declared.test_spec.TestSpec.{TestSpec}
use Rattle.plugin_core.specs.declared.test_spec.TestSpec.TheVariants.{Idle, Idleex, Idlebgm, Idlemany, Simplestream}
use Rattle.run_states.specs.LawfulRow.{IsLawfulRow, IsUpTo, Reserves}
use Rattle.run_states.specs.Life.{HasMoments, IsInTime}
use Rattle.run_states.specs.declared.row.RunRow.{RunRow}
use Rattle.host_model.specs.Book.{Book}
use Rattle.host_model.specs.Lawful.{Lawful}
use Rattle.host_model.specs.LawfulRow.{IsHostRow}

up_to : (m n : ℕ) → m ≤ n → (o : Option ℕ) → IsUpTo m o → IfSome o (λ x. x ≤ n)
up_to m n low None within = tt
up_to m n low (Some x) within = omega (arith, low, within)

-- a test lasts a second at least
pub test_lasts : (test : TestSpec) → IsTest test → 1 ≤ test_length test
test_lasts (Idle sleep) is = is.lasts
test_lasts (Idleex sleep) is = is.lasts
test_lasts (Idlebgm sleep interval) is = is.0.lasts
test_lasts (Idlemany sleep hosts) is = is.0.lasts
test_lasts (Simplestream dest material dawdle timeout) is = let some = is.lasts in omega (arith, some)

-- and ten years at most
pub test_short : (test : TestSpec) → IsTest test → test_length test ≤ greatest_length
test_short (Idle sleep) is = is.short
test_short (Idleex sleep) is = is.short
test_short (Idlebgm sleep interval) is = is.0.short
test_short (Idlemany sleep hosts) is = is.0.short
test_short (Simplestream dest material dawdle timeout) is = is.short

in_time : (test : TestSpec) → IsTest test → (a : Option ℕ) (t : Option (List ℕ)) (o : Option Span) → Reserves test a t o → IfSome o IsInTime
in_time test is None None None has = tt
in_time test is (Some a) (Some t) (Some s) has =
    let short = test_short test is in
    let end : s.end ≡ s.start + test_length test = ap (λ (x : Span). x.end) has.2 in
    (has.1, omega (arith, end, short, has.1))
in_time test is None None (Some s) has = absurd has
in_time test is None (Some t) o has = absurd has
in_time test is (Some a) None o has = absurd has
in_time test is (Some a) (Some t) None has = tt

pub lawful_moments : (m : ℕ) (r : RunRow) → m ≤ greatest_moment → IsLawfulRow m r → HasMoments r
lawful_moments m r low lawful = record {
  asked = up_to m greatest_moment low r.asked lawful.moments.asked;
  accepted = up_to m greatest_moment low r.accepted lawful.moments.accepted;
  interval = in_time r.test lawful.test r.accepted r.tool r.interval lawful.reserves;
}

-- and so have the rows of a lawful book
pub book_moments : (self : ℕ) (b : Book) → Lawful self b → All HasMoments b.rows
book_moments self b lawful = All-weaker (IsHostRow self b.tasks b.moment) HasMoments (λ r row. lawful_moments b.moment r lawful.moment row.row) b.rows lawful.rows
