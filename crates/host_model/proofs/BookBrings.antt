-- What a booking and a posted task bring is lawful.
use Rattle.std.specs.Prelude.{int_lt, ℤ}
use Rattle.std.specs.Str.{bytes_eq}
use Rattle.std.proofs.Common.{◌∷◌, ◌≡◌, ◌≤◌, [], All, arith, Bool, cond, false, length, List, refl, subst, sym, true, ℕ}
use Rattle.std.proofs.Math.Nat.{div_self}
use Rattle.std.proofs.lemmas.Bool.Decides.{nat_tests}
use Rattle.std.proofs.lemmas.List.Elements.{All-head, All-tail}
use Rattle.std.proofs.lemmas.Slice.Eq.{bytes_eq-Decides}
use Rattle.std.proofs.lemmas.Str.{IsUtf8-nil}
use Rattle.ps_time.specs.Name.{is_name}
use Rattle.ps_time.specs.Numbers.{greatest_length, greatest_moment}
use Rattle.ps_time.specs.declared.class.Class.{Class}
use Rattle.ps_time.specs.declared.class.Class.TheVariants.{Background, BackgroundMulti, Exclusive, Normal}
use Rattle.plugin_core.specs.Bounds.{IsTest}
use Rattle.plugin_core.specs.Participants.{participants}
use Rattle.limit_apply.specs.Limits.{ceiling_of, LimitsConfig as Limits, IsPriority}
use Rattle.limit_apply.specs.Read.{IsKept}
use Rattle.limit_apply.proofs.CeilingLemmas.{ceiling_within}
use Rattle.run_states.specs.LawfulRow.{IsProposal}
use Rattle.task_spec.specs.Bounds.{IsTask}
use Rattle.task_spec.specs.declared.task.Task.{Task}
use Rattle.host_model.specs.Book.{Book, last_limits, limits_in}
use Rattle.host_model.specs.Booking.{book_run, booking_test}
use Rattle.host_model.specs.Conditions.{IsConfig}
use Rattle.host_model.specs.Post.{clipped, post, poster}
use Rattle.host_model.specs.declared.config.Config.{Config}
use Rattle.host_model.proofs.AcceptBrings.{accepted_brings}
use Rattle.host_model.proofs.Brings.{BringsLawful}
use Rattle.host_model.proofs.StepAlong.{book_along, post_along}
use Rattle.host_model.proofs.WalkLemmas.{AllAlong}

-- ---- a booking
-- the test of a booking is within bounds
pub booked_test : (name : List ℕ) (class : Class) (len : ℕ) → is_name name ≡ true → 1 ≤ len → len ≤ greatest_length → IsTest (booking_test name class len)
booked_test name BackgroundMulti len named some short = (record { lasts = some; short = short; starting = tt; parting = tt }, record { lasts = some; within = omega arith; few = omega (arith, some, div_self some) })
booked_test name Background len named some short = record { lasts = some; short = short; starting = tt; parting = tt }
booked_test name Normal len named some short = record { dest = named; utf8 = IsUtf8-nil; material = omega arith; lasts = some; short = omega (arith, short) }
booked_test name Exclusive len named some short = record { lasts = some; short = short; starting = tt; parting = tt }

-- its host is alone
alone : (name : List ℕ) (class : Class) (len : ℕ) → length (participants (booking_test name class len) name) ≡ 1
alone name BackgroundMulti len = refl
alone name Background len = refl
alone name Normal len = go (bytes_eq name name) ((bytes_eq-Decides name name).1 refl)
  where
    go : (t : Bool) → t ≡ true → length (cond t (name ∷ []) (name ∷ name ∷ [])) ≡ 1
    go true e = refl
    go false e = cc
alone name Exclusive len = refl

module _ (c : Config) (m : ℕ) (b : Book) (config : IsConfig c) where
  pub book_brings : (class : Class) (priority : ℤ) (start len : ℕ) → start ≤ greatest_moment → 1 ≤ len → len ≤ greatest_length → AllAlong (BringsLawful c.number m) m b (book_run c b m class priority start len).list
  book_brings class priority start len early some short = book_along (BringsLawful c.number m) m c b class priority start len (λ p is fits. (
    (λ now lawful. accepted_brings c m b c.name p fits
        (subst (λ q. IsProposal q) (sym is) (record { test = booked_test c.name class len config.name some short; start = early }))
        config.name
        (λ own. subst (λ q. (q.key.task ≡ 0) × (length (participants q.test c.name) ≡ 1)) (sym is) (refl, alone c.name class len))),
    ((λ now lawful. tt), tt),
  ))

-- ---- a posted task
-- the limits in force are read again from their text
pub in_force : (c : Config) (b : Book) → IsKept c.limits → All IsKept b.epochs → IsKept (limits_in c b)
in_force c b first epochs = go c.limits b.epochs first epochs
  where
    go : (l : Limits) (ls : List Limits) → IsKept l → All IsKept ls → IsKept (last_limits l ls)
    go l [] here all = here
    go l (x ∷ xs) here all = go x xs (All-head IsKept x xs all) (All-tail IsKept x xs all)

-- what isn't above the ceiling stays
clipped_within : (ceiling priority : ℤ) → IsPriority ceiling → IsPriority priority → IsPriority (clipped ceiling priority)
clipped_within ceiling priority high low = go (int_lt ceiling priority)
  where
    go : (t : Bool) → IsPriority (cond t ceiling priority)
    go true = high
    go false = low

-- a task with another priority
with_priority : (host : List ℕ) (task : Task) (priority : ℤ) → IsTask host task → IsPriority priority → IsTask host (record task { priority = priority })
with_priority host task priority is within = record {
  test = is.test;
  lead = is.lead;
  rest = record {
    tools = is.rest.tools;
    few_tools = is.rest.few_tools;
    rule = is.rest.rule;
    runs = is.rest.runs;
    archives = is.rest.archives;
    few_archives = is.rest.few_archives;
    reference = is.rest.reference;
    priority = within;
  };
}

-- what is kept of a posted task is one that the host may lead
pub posted_task : (c : Config) (b : Book) (task : Task) (requester : List ℕ) → IsConfig c → All IsKept b.epochs → IsTask c.name task → IsTask c.name (record task { priority = clipped (ceiling_of (limits_in c b) (poster c requester)) task.priority })
posted_task c b task requester config epochs is =
    let ceiling : ℤ = ceiling_of (limits_in c b) (poster c requester) in
    with_priority c.name task (clipped ceiling task.priority) is (clipped_within ceiling task.priority (ceiling_within (limits_in c b) (poster c requester) (in_force c b config.limits epochs).priorities) is.rest.priority)

pub post_brings : (c : Config) (m : ℕ) (b : Book) (task : Task) (requester : List ℕ) → IsConfig c → IsTask c.name task → AllAlong (BringsLawful c.number m) m b (post c b m task requester).list
post_brings c m b task requester config is = post_along (BringsLawful c.number m) m c b task requester (λ room now lawful.
    (record { task = posted_task c b task requester config lawful.epochs is; posted = omega arith; closed = tt }, grind (arith, nat_tests)))
