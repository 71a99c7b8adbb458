-- When a row lapses, and what settles as rows close.
use Rattle.std.proofs.Common.{◌≡◌, ℕ, ◌≤◌, ◌<◌, ◌+◌, Bool, true, false, cond, List, [], ◌∷◌, Option, Some, None, option_and_then, All, nat_le, nat_lt, min, refl, ap, ap₂, sym, ◌∙◌, arith}
use Rattle.std.specs.Ordering.{is_eq}
use Rattle.ps_time.specs.Key.{key_cmp}
use Rattle.ps_time.specs.declared.key.RunKey.{RunKey}
use Rattle.std.proofs.lemmas.Bool.Decides.{nat_tests}
use Rattle.std.proofs.lemmas.List.Elements.{recursion_from_All}
use Rattle.std.specs.List.{AllByRecursion}
use Rattle.ps_time.specs.Span.{Span}
use Rattle.run_states.specs.declared.row.RunRow.{RunRow}
use Rattle.run_states.specs.declared.why.Closing.{Closing}
use Rattle.run_states.specs.Life.{first_there, close_row, closed_by, lapse_asked, lapse_at, lapse_held, lapse_missed, lapse_of, settled_rows, HasMoments}
use Rattle.run_states.specs.Rows.{change_row, find_row, IsAscendingRows}
use Rattle.host_rows.proofs.RowLemmas.{change_none, others_of}

-- ---- what doesn't lapse by a moment, or lapses at one, doesn't lapse before; what lapses at one has lapsed later ----
-- a lapse that comes at a moment, where that has come
abbrev due : Bool → Closing → Option Closing
due b c = cond b (Some c) None

not_due : (m n : ℕ) (c : Closing) → ¬ (n ≤ m) → due (nat_le n m) c ≡ None
not_due m n c later = let is : nat_le n m ≡ false = grind (arith, nat_tests) in ap (λ b. due b c) is

not_yet_due : (m n : ℕ) (c : Closing) → ¬ (n < m) → due (nat_lt n m) c ≡ None
not_yet_due m n c later = let is : nat_lt n m ≡ false = grind (arith, nat_tests) in ap (λ b. due b c) is

due_moment : (b : Bool) (c d : Closing) → due b c ≡ Some d → c.moment ≡ d.moment
due_moment true c d is = cc
due_moment false c d is = cc

now_due : (m n : ℕ) (c : Closing) → n ≤ m → due (nat_le n m) c ≡ Some c
now_due m n c come = let is : nat_le n m ≡ true = grind (arith, nat_tests) in ap (λ b. due b c) is

past_due : (m n : ℕ) (c : Closing) → n < m → due (nat_lt n m) c ≡ Some c
past_due m n c come = let is : nat_lt n m ≡ true = grind (arith, nat_tests) in ap (λ b. due b c) is

due_is : (b : Bool) (c d : Closing) → due b c ≡ Some d → c ≡ d
due_is true c d is = cc
due_is false c d is = cc

due_later : (n m : ℕ) (c : Closing) → due (nat_le n m) c ≡ None → m < n
due_later n m c none = go (nat_le n m) refl none
  where
    go : (b : Bool) → nat_le n m ≡ b → due b c ≡ None → m < n
    go true is gone = cc
    go false is gone = grind (arith, nat_tests)

due_not_earlier : (n m : ℕ) (c : Closing) → due (nat_lt n m) c ≡ None → m ≤ n
due_not_earlier n m c none = go (nat_lt n m) refl none
  where
    go : (b : Bool) → nat_lt n m ≡ b → due b c ≡ None → m ≤ n
    go true is gone = cc
    go false is gone = grind (arith, nat_tests)

module _ (m until : ℕ) (before : m ≤ until) where
  asked_none : (o : Option ℕ) → lapse_asked until o ≡ None → lapse_asked m o ≡ None
  asked_none None none = refl
  asked_none (Some a) none = let later = due_later (a + 60) until _ none in not_due m (a + 60) _ (omega arith)

  held_none : (a : ℕ) (o : Option Span) → lapse_held until a o ≡ None → lapse_held m a o ≡ None
  held_none a None none = refl
  held_none a (Some i) none = let later = due_later (min (a + 60) i.start) until _ none in not_due m (min (a + 60) i.start) _ (omega arith)

  missed_none : (o : Option Span) → lapse_missed until o ≡ None → lapse_missed m o ≡ None
  missed_none None none = refl
  missed_none (Some i) none = let later = due_not_earlier (i.start + 15) until _ none in not_yet_due m (i.start + 15) _ (omega arith)

  at_none : (r : RunRow) (c : Option Closing) (a f s : Option ℕ) → lapse_at until r c a f s ≡ None → lapse_at m r c a f s ≡ None
  at_none r (Some c) a f s none = refl
  at_none r None None f s none = asked_none r.asked none
  at_none r None (Some a) None s none = held_none a r.interval none
  at_none r None (Some a) (Some f) None none = missed_none r.interval none
  at_none r None (Some a) (Some f) (Some s) none = refl

module _ (m until : ℕ) (d : Closing) (before : m < d.moment) where
  asked_some : (o : Option ℕ) → lapse_asked until o ≡ Some d → lapse_asked m o ≡ None
  asked_some None some = cc
  asked_some (Some a) some = let at = due_moment _ _ d some in not_due m (a + 60) _ (omega (arith, at, before))

  held_some : (a : ℕ) (o : Option Span) → lapse_held until a o ≡ Some d → lapse_held m a o ≡ None
  held_some a None some = cc
  held_some a (Some i) some = let at = due_moment _ _ d some in not_due m (min (a + 60) i.start) _ (omega (arith, at, before))

  missed_some : (o : Option Span) → lapse_missed until o ≡ Some d → lapse_missed m o ≡ None
  missed_some None some = cc
  missed_some (Some i) some = let at = due_moment _ _ d some in not_yet_due m (i.start + 15) _ (omega (arith, at, before))

  at_some : (r : RunRow) (c : Option Closing) (a f s : Option ℕ) → lapse_at until r c a f s ≡ Some d → lapse_at m r c a f s ≡ None
  at_some r (Some c) a f s some = refl
  at_some r None None f s some = asked_some r.asked some
  at_some r None (Some a) None s some = held_some a r.interval some
  at_some r None (Some a) (Some f) None some = missed_some r.interval some
  at_some r None (Some a) (Some f) (Some s) some = refl

module _ (m until : ℕ) (d : Closing) (come : d.moment ≤ m) where
  asked_since : (o : Option ℕ) → lapse_asked until o ≡ Some d → lapse_asked m o ≡ Some d
  asked_since None some = cc
  asked_since (Some a) some = let at = due_moment _ _ d some in now_due m (a + 60) _ (omega (arith, at, come)) ∙ ap Some (due_is _ _ d some)

  held_since : (a : ℕ) (o : Option Span) → lapse_held until a o ≡ Some d → lapse_held m a o ≡ Some d
  held_since a None some = cc
  held_since a (Some i) some = let at = due_moment _ _ d some in now_due m (min (a + 60) i.start) _ (omega (arith, at, come)) ∙ ap Some (due_is _ _ d some)

  missed_since : (o : Option Span) → lapse_missed until o ≡ Some d → lapse_missed m o ≡ Some d
  missed_since None some = cc
  missed_since (Some i) some = let at = due_moment _ _ d some in past_due m (i.start + 15) _ (omega (arith, at, come)) ∙ ap Some (due_is _ _ d some)

  at_since : (r : RunRow) (c : Option Closing) (a f s : Option ℕ) → lapse_at until r c a f s ≡ Some d → lapse_at m r c a f s ≡ Some d
  at_since r (Some c) a f s some = cc
  at_since r None None f s some = asked_since r.asked some
  at_since r None (Some a) None s some = held_since a r.interval some
  at_since r None (Some a) (Some f) None some = missed_since r.interval some
  at_since r None (Some a) (Some f) (Some s) some = cc

module _ (m until : ℕ) (r : RunRow) where
  pub none_before : m ≤ until → lapse_of until r ≡ None → lapse_of m r ≡ None
  none_before before none = at_none m until before r r.closed r.accepted r.confirmed r.started none

  pub none_yet : (d : Closing) → m < d.moment → lapse_of until r ≡ Some d → lapse_of m r ≡ None
  none_yet d before some = at_some m until d before r r.closed r.accepted r.confirmed r.started some

  pub some_since : (d : Closing) → d.moment ≤ m → lapse_of until r ≡ Some d → lapse_of m r ≡ Some d
  some_since d come some = at_since m until d come r r.closed r.accepted r.confirmed r.started some

-- ---- what changes do ----
-- a row that is closed doesn't lapse
pub closed_none : (m : ℕ) (r : RunRow) (c : Closing) (o : Option Closing) → lapse_at m (close_row c r) (first_there o (Some c)) r.accepted r.confirmed r.started ≡ None
closed_none m r c None = refl
closed_none m r c (Some d) = refl

-- ---- settling where no row lapses ----
settled_each : (m : ℕ) (rows : List RunRow) → AllByRecursion (λ r. lapse_of m r ≡ None) rows → settled_rows m rows ≡ rows
settled_each m [] none = refl
settled_each m (r ∷ rs) none = ap₂ (λ x xs. x ∷ xs) (ap (λ o. closed_by o r) none.0) (settled_each m rs none.1)

pub settled_same : (m : ℕ) (rows : List RunRow) → All (λ r. lapse_of m r ≡ None) rows → settled_rows m rows ≡ rows
settled_same m rows none = settled_each m rows (recursion_from_All (λ r. lapse_of m r ≡ None) rows none)

-- ---- settling after one row was closed as it lapses ----
settled_closed : (m : ℕ) (c : Closing) (k : RunKey) (r : RunRow) (rows : List RunRow) → IsAscendingRows rows → find_row rows k ≡ Some r → lapse_of m r ≡ Some c → settled_rows m (change_row (close_row c) rows k) ≡ settled_rows m rows
settled_closed m c k r [] up at lapses = refl
settled_closed m c k r (x ∷ xs) up at lapses = go (is_eq (key_cmp x.key k)) refl at (λ found. settled_closed m c k r xs up.1 found lapses)
  where
    go : (b : Bool) → is_eq (key_cmp x.key k) ≡ b → cond b (Some x) (find_row xs k) ≡ Some r → (find_row xs k ≡ Some r → settled_rows m (change_row (close_row c) xs k) ≡ settled_rows m xs)
        → settled_rows m (cond b (close_row c x) x ∷ change_row (close_row c) xs k) ≡ settled_rows m (x ∷ xs)
    go true is found later =
        let own : x ≡ r = cc in
        let now : lapse_of m x ≡ Some c = ap (lapse_of m) own ∙ lapses in
        let closed : closed_by (lapse_of m (close_row c x)) (close_row c x) ≡ closed_by (lapse_of m x) x = ap (λ o. closed_by o (close_row c x)) (closed_none m x c x.closed) ∙ sym (ap (λ o. closed_by o x) now) in
        ap₂ (λ y ys. y ∷ ys) closed (ap (settled_rows m) (change_none (close_row c) k xs (others_of (close_row c) (λ y. refl) x xs k is up.0)))
    go false is found later = ap (λ ys. closed_by (lapse_of m x) x ∷ ys) (later found)

pub settled_at : (m : ℕ) (c : Closing) (k : RunKey) (rows : List RunRow) → IsAscendingRows rows → option_and_then (lapse_of m) (find_row rows k) ≡ Some c → settled_rows m (change_row (close_row c) rows k) ≡ settled_rows m rows
settled_at m c k rows up lapses = go (find_row rows k) refl lapses
  where
    go : (o : Option RunRow) → find_row rows k ≡ o → option_and_then (lapse_of m) o ≡ Some c → settled_rows m (change_row (close_row c) rows k) ≡ settled_rows m rows
    go None at e = cc
    go (Some r) at e = settled_closed m c k r rows up at e

-- ---- closing ----
pub moments_closed : (c : Closing) (r : RunRow) → HasMoments r → HasMoments (close_row c r)
moments_closed c r within = record { asked = within.asked; accepted = within.accepted; interval = within.interval }
