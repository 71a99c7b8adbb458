-- The tree of a schedule is read again.
use Rattle.std.proofs.Common.{◌≡◌, ℕ, ◌==◌, ◌≤◌, List, false, true, ◌&&◌, nat_le, Option, Some, None, Ok, refl, arith}
use Rattle.std.proofs.lemmas.Bool.Decides.{nat_tests}
use Rattle.std.specs.Option.{ForSome}
use Rattle.ps_time.specs.Length.{length_of, length_text_of}
use Rattle.ps_time.specs.Moment.{moment_of, moment_text_of}
use Rattle.ps_time.specs.Start.{start_of}
use Rattle.ps_time.specs.declared.moment.Round.{Round}
use Rattle.ps_time.specs.declared.moment.Round.TheVariants.{Down}
use Rattle.ps_time.specs.declared.moment.TheConstants.{MAX_LENGTH, MAX_MOMENT}
use Rattle.schedule_rule.specs.Rule.{Schedule, IsRule}
use Rattle.task_spec.specs.ReadSchedule.{schedule_in}
use Rattle.task_spec.specs.WriteTask.{schedule_data}

abbrev Back : Option ℕ → Type 0
Back None = Unit {0}
Back (Some r) = (length_of (length_text_of r) ≡ Ok r) × ((r == 0) ≡ false)

abbrev UntilBack : Option ℕ → Type 0
UntilBack None = Unit {0}
UntilBack (Some u) = moment_of Down (moment_text_of u) ≡ Ok u

abbrev RunsBack : Option ℕ → Type 0
RunsBack None = Unit {0}
RunsBack (Some n) = nat_le 1 n && nat_le n 4_294_967_295 ≡ true

module _ (now a s : ℕ) (name : List ℕ) (start : start_of now (moment_text_of a) ≡ Ok a) (slip : length_of (length_text_of s) ≡ Ok s) where
  parts : (r u n : Option ℕ) → Back r → UntilBack u → RunsBack n → schedule_in now name (schedule_data (record { anchor = a; slip = s; repeat = r; until = u; max_runs = n })) ≡ Ok (record { anchor = a; slip = s; repeat = r; until = u; max_runs = n })
  parts None None None hr hu hn = rw (start, slip) refl
  parts None None (Some n) hr hu hn = rw (start, slip, hn) refl
  parts None (Some u) None hr hu hn = rw (start, slip, hu) refl
  parts None (Some u) (Some n) hr hu hn = rw (start, slip, hu, hn) refl
  parts (Some r) None None hr hu hn = rw (start, slip, hr.0, hr.1) refl
  parts (Some r) None (Some n) hr hu hn = rw (start, slip, hr.0, hr.1, hn) refl
  parts (Some r) (Some u) None hr hu hn = rw (start, slip, hr.0, hr.1, hu) refl
  parts (Some r) (Some u) (Some n) hr hu hn = rw (start, slip, hr.0, hr.1, hu, hn) refl

module _ (lengths : (n : ℕ) → n ≤ MAX_LENGTH → length_of (length_text_of n) ≡ Ok n) (moments : (round : Round) (m : ℕ) → m ≤ MAX_MOMENT → moment_of round (moment_text_of m) ≡ Ok m) (starts : (now m : ℕ) → m ≤ MAX_MOMENT → start_of now (moment_text_of m) ≡ Ok m) where
  repeats : (r : Option ℕ) → ForSome r (λ r. (1 ≤ r) × (r ≤ MAX_LENGTH)) → Back r
  repeats None is = tt
  repeats (Some r) is = let bounds = is r refl in (lengths r bounds.1, grind (arith, nat_tests, bounds.0))

  untils : (u : Option ℕ) → ForSome u (λ u. u ≤ MAX_MOMENT) → UntilBack u
  untils None is = tt
  untils (Some u) is = moments Down u (is u refl)

  runs : (n : Option ℕ) → ForSome n (λ n. 1 ≤ n) → ForSome n (λ n. n ≤ 4_294_967_295) → RunsBack n
  runs None some few = tt
  runs (Some n) some few = grind (arith, nat_tests, some n refl, few n refl)

  pub schedule_back : (now : ℕ) (name : List ℕ) (rule : Schedule) → IsRule rule → ForSome rule.max_runs (λ n. n ≤ 4_294_967_295) → schedule_in now name (schedule_data rule) ≡ Ok rule
  schedule_back now name rule is few =
      parts now rule.anchor rule.slip name (starts now rule.anchor is.anchor) (lengths rule.slip is.slip) rule.repeat rule.until rule.max_runs
      (repeats rule.repeat is.repeat) (untils rule.until is.until) (runs rule.max_runs is.max_runs few)
