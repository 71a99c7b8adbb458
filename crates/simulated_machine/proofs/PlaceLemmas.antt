-- Where a disk that counts has its first gate byte and its last, and where these are behind a step.
use Rattle.std.specs.Prelude.{⊤, nat_le, option_map}
use Rattle.std.proofs.Common.{◌≡◌, ◌∙◌, ℕ, ◌≤◌, Bool, true, false, not, if◌then◌else◌, List, length, drop, Option, None, Some, Result, Ok, Err, ap, arith, refl, sym, subst, ◌+◌}
use Rattle.host_journal.specs.Format.{Body, body_of, records_of, stands}
use Rattle.host_journal.specs.Pair.{counted, greater, headless, need_body, pair_by, pair_of, unless_at, with_records}
use Rattle.host_journal.specs.State.{IsAt, State, with_room}
use Rattle.host_journal.specs.declared.reading.Counted.{Counted}
use Rattle.host_journal.specs.declared.reading.DiskPlace.{DiskPlace}
use Rattle.machine_keep.specs.Course.{Moves}
use Rattle.simulated_machine.specs.Held.{Place, place_after, place_at}

-- ---- whatever two disks stand for
-- the first gate byte comes behind a head, a generation and a length, and the last one not before it
abbrev pub IsInOrder : Counted → Type 0
IsInOrder k = (21 ≤ k.start) × (k.start ≤ k.end)

abbrev InOrder : Result Counted DiskPlace → Type 0
InOrder (Ok k) = IsInOrder k
InOrder (Err place) = ⊤

records_in_order : (second : Bool) (body : Body) (r : Result (List (List ℕ)) ℕ) → InOrder (with_records second body r)
records_in_order second body (Ok records) = (omega arith, omega arith)
records_in_order second body (Err at) = tt

counted_in_order : (second : Bool) (body : Body) → InOrder (counted second body)
counted_in_order second body = records_in_order second body (records_of body.gate_bytes)

body_in_order : (second : Bool) (o : Option Body) (next : Body → Result Counted DiskPlace) → ((body : Body) → InOrder (next body)) → InOrder (need_body second o next)
body_in_order second None next each = tt
body_in_order second (Some body) next each = each body

unless_in_order : (o : Option DiskPlace) (next : Result Counted DiskPlace) → InOrder next → InOrder (unless_at o next)
unless_in_order None next behind = behind
unless_in_order (Some place) next behind = tt

greater_in_order : (one two : Body) → InOrder (greater one two)
greater_in_order one two = by (nat_le two.generation one.generation)
  where
    by : (b : Bool) → InOrder (if b then counted false one else counted true two)
    by true = counted_in_order false one
    by false = counted_in_order true two

by_in_order : (p q : Bool) (first second : List ℕ) → InOrder (pair_by p q first second)
by_in_order false false first second = tt
by_in_order true false first second =
    unless_in_order (headless true second) (need_body false (body_of (drop 9 first)) (λ body. counted false body)) (body_in_order false (body_of (drop 9 first)) (λ body. counted false body) (counted_in_order false))
by_in_order false true first second =
    unless_in_order (headless false first) (need_body true (body_of (drop 9 second)) (λ body. counted true body)) (body_in_order true (body_of (drop 9 second)) (λ body. counted true body) (counted_in_order true))
by_in_order true true first second =
    body_in_order false (body_of (drop 9 first)) (λ one. need_body true (body_of (drop 9 second)) (λ two. greater one two))
    (λ one. body_in_order true (body_of (drop 9 second)) (λ two. greater one two) (λ two. greater_in_order one two))

pub pair_in_order : (first second : List ℕ) (k : Counted) → pair_of first second ≡ Ok k → IsInOrder k
pair_in_order first second k is = subst InOrder is (by_in_order (stands first) (stands second) first second)

-- ---- behind a step
pub same_place : (a b : Place) → a.second ≡ b.second → a.generation ≡ b.generation → a.snapshot ≡ b.snapshot → a.records ≡ b.records → a ≡ b
same_place a b second generation snapshot records =
    ap (λ (x : Bool). record { second = x; generation = a.generation; snapshot = a.snapshot; records = a.records }) second
    ∙ (ap (λ (x : ℕ). record { second = b.second; generation = x; snapshot = a.snapshot; records = a.records }) generation
    ∙ (ap (λ (x : ℕ). record { second = b.second; generation = b.generation; snapshot = x; records = a.records }) snapshot ∙ ap (λ (x : ℕ). record { second = b.second; generation = b.generation; snapshot = b.snapshot; records = x }) records))

module _ {D : Type 0} (place now : State D) (k l : Counted) (order : IsInOrder k) (at : IsAt place (Ok k)) (at_now : IsAt now (Ok l)) where
  stayed : now ≡ with_room place now.room → place_at l ≡ place_at k
  stayed same =
      let start : l.start ≡ k.start = at_now.2 ∙ (ap (λ (s : State D). s.start) same ∙ sym at.2) in
      let end : l.end ≡ k.end = at_now.3 ∙ (ap (λ (s : State D). s.end) same ∙ sym at.3) in
      same_place (place_at l) (place_at k) (at_now.0 ∙ (ap (λ (s : State D). s.second) same ∙ sym at.0)) (at_now.1 ∙ (ap (λ (s : State D). s.generation) same ∙ sym at.1)) (omega (arith, start)) (omega (arith, start, end))

  -- so is what is held
  pub place_moved : (payload image : Option (List ℕ)) → (payload ≡ None → image ≡ None) → Moves place payload image now → place_at l ≡ place_after (place_at k) (option_map length payload) (option_map length image)
  place_moved None None none moved = stayed moved
  place_moved None (Some image) none moved = absurd (cc (none refl))
  place_moved (Some payload) None none moved =
      same_place (place_at l) (place_after (place_at k) (Some (length payload)) None) (at_now.0 ∙ (moved.second ∙ sym at.0))
      (at_now.1 ∙ (moved.generation ∙ sym at.1))
      (omega (arith, at_now.2, moved.start, at.2))
      (omega (arith, at_now.2, moved.start, at.2, at_now.3, moved.end, at.3, order.1))
  place_moved (Some payload) (Some image) none moved =
      same_place (place_at l) (place_after (place_at k) (Some (length payload)) (Some (length image))) (at_now.0 ∙ (moved.second ∙ ap not (sym at.0)))
      (at_now.1 ∙ (moved.generation ∙ ap (λ (n : ℕ). n + 1) (sym at.1)))
      (omega (arith, at_now.2, moved.start))
      (omega (arith, at_now.2, at_now.3, moved.end))
