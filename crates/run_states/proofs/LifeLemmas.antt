-- A row that has lapsed by m has lapsed alike by each later moment, so an earlier settling makes no difference;
-- and a row that settles or takes a step keeps the bounds of its moments.
use Rattle.std.proofs.Common.{◌≡◌, ℕ, ◌≤◌, Option, Some, None, List, [], ◌∷◌, All, get_or, refl, arith}
use Rattle.std.proofs.lemmas.List.Elements.{All-map}
use Rattle.std.proofs.lemmas.Bool.Decides.{nat_tests}
use Rattle.ps_time.specs.Span.{Span}
use Rattle.run_states.specs.declared.row.RunRow.{RunRow}
use Rattle.run_states.specs.declared.why.Closing.{Closing}
use Rattle.run_states.specs.Life.{first_there, close_row, lapse_asked, lapse_held, lapse_missed, lapse_at, lapse_of, closed_by, settled_row, settled_rows, HasMoments}

module _ (m n : ℕ) (later : m ≤ n) (c : Closing) where
  asked_alike : (o : Option ℕ) → lapse_asked m o ≡ Some c → lapse_asked n o ≡ Some c
  asked_alike None lapsed = lapsed
  asked_alike (Some a) lapsed = grind (arith, nat_tests)

  held_alike : (a : ℕ) (o : Option Span) → lapse_held m a o ≡ Some c → lapse_held n a o ≡ Some c
  held_alike a None lapsed = lapsed
  held_alike a (Some i) lapsed = grind (arith, nat_tests)

  missed_alike : (o : Option Span) → lapse_missed m o ≡ Some c → lapse_missed n o ≡ Some c
  missed_alike None lapsed = lapsed
  missed_alike (Some i) lapsed = grind (arith, nat_tests)

  at_alike : (r : RunRow) (o : Option Closing) (a k s : Option ℕ) → lapse_at m r o a k s ≡ Some c → lapse_at n r o a k s ≡ Some c
  at_alike r (Some d) a k s lapsed = lapsed
  at_alike r None None k s lapsed = asked_alike r.asked lapsed
  at_alike r None (Some a) None s lapsed = held_alike a r.interval lapsed
  at_alike r None (Some a) (Some k) None lapsed = missed_alike r.interval lapsed
  at_alike r None (Some a) (Some k) (Some s) lapsed = lapsed

-- a row that lapses is open
open_before : (m : ℕ) (r : RunRow) (c : Closing) (o : Option Closing) (a k s : Option ℕ) → lapse_at m r o a k s ≡ Some c → o ≡ None
open_before m r c (Some d) a k s lapsed = cc
open_before m r c None a k s lapsed = refl

-- and one that is closed no longer lapses
closed_stays : (n : ℕ) (r : RunRow) (c : Closing) (o : Option Closing) → o ≡ Some c → (a k s : Option ℕ) → closed_by (lapse_at n r o a k s) r ≡ r
closed_stays n r c (Some d) is a k s = refl
closed_stays n r c None is a k s = cc

first_here : (c : Closing) (o : Option Closing) → o ≡ None → first_there o (Some c) ≡ Some c
first_here c None is = refl
first_here c (Some d) is = cc

pub settled_earlier : (m n : ℕ) → m ≤ n → (r : RunRow) → settled_row n (settled_row m r) ≡ settled_row n r
settled_earlier m n later r = go (lapse_of m r) refl
  where
    go : (o : Option Closing) → lapse_of m r ≡ o → settled_row n (closed_by o r) ≡ settled_row n r
    go None is = refl
    go (Some c) is =
        let here : (close_row c r).closed ≡ Some c = first_here c r.closed (open_before m r c r.closed r.accepted r.confirmed r.started is) in
        let alike : lapse_of n r ≡ Some c = at_alike m n later c r r.closed r.accepted r.confirmed r.started is in
        rw alike (closed_stays n (close_row c r) c (close_row c r).closed here r.accepted r.confirmed r.started)

pub settled_rows_earlier : (m n : ℕ) → m ≤ n → (rows : List RunRow) → settled_rows n (settled_rows m rows) ≡ settled_rows n rows
settled_rows_earlier m n later [] = refl
settled_rows_earlier m n later (r ∷ rs) = rw (settled_earlier m n later r, settled_rows_earlier m n later rs) refl

-- ---- bounds stay ----
closed_moments : (o : Option Closing) (r : RunRow) → HasMoments r → HasMoments (closed_by o r)
closed_moments None r within = within
closed_moments (Some c) r within = record { asked = within.asked; accepted = within.accepted; interval = within.interval }

pub settled_moments : (m : ℕ) (r : RunRow) → HasMoments r → HasMoments (settled_row m r)
settled_moments m r within = closed_moments (lapse_of m r) r within

pub settled_rows_moments : (m : ℕ) (rows : List RunRow) → All HasMoments rows → All HasMoments (settled_rows m rows)
settled_rows_moments m rows within = All-map HasMoments (settled_row m) rows (λ k d lt. settled_moments m (get_or rows k d) (within k d lt))
