-- A turn makes at most 64 changes, and its record is at most 4,194,304 bytes long.
use Rattle.std.specs.List.{sum_by}
use Rattle.std.proofs.Common.{◌≡◌, ◌≤◌, ◌+◌, ◌-◌, ℕ, Bool, true, false, nat_le, List, [], ◌∷◌, length, take, if◌then◌else◌, refl, arith}
use Rattle.std.proofs.lemmas.List.{length-take}
use Rattle.std.proofs.lemmas.List.Sums.{sum_by-cons, sum-map}
use Rattle.std.proofs.lemmas.Bool.Decides.{nat_tests}
use Rattle.ps_time.specs.Numbers.{most_changes}
use Rattle.host_model.specs.Book.{Book}
use Rattle.host_model.specs.RecordLength.{change_bytes, record_bytes}
use Rattle.host_model.specs.Turn.{due_changes, most_record_bytes, turn_changes, within_bytes}
use Rattle.host_model.specs.declared.change.Change.{Change}
use Rattle.host_model.specs.declared.config.Config.{Config}

within_bound : (left : ℕ) (cs : List Change) → sum_by change_bytes (within_bytes left cs) ≤ left
within_bound left [] = omega arith
within_bound left (c ∷ cs) = go (nat_le (change_bytes c) left) refl (within_bound (left - change_bytes c) cs)
  where
    go : (b : Bool) → nat_le (change_bytes c) left ≡ b → sum_by change_bytes (within_bytes (left - change_bytes c) cs) ≤ left - change_bytes c → sum_by change_bytes (if b then c ∷ within_bytes (left - change_bytes c) cs else []) ≤ left
    go false here rest = omega arith
    go true here rest =
        let fits : change_bytes c ≤ left = grind (arith, nat_tests) in
        let head : sum_by change_bytes (c ∷ within_bytes (left - change_bytes c) cs) ≡ change_bytes c + sum_by change_bytes (within_bytes (left - change_bytes c) cs) = sum_by-cons change_bytes c (within_bytes (left - change_bytes c) cs) in
        omega (arith, fits, head, rest)

-- the record of a turn, with its moment and its count
pub turn_bytes : (config : Config) (m : ℕ) (b : Book) → record_bytes (turn_changes config b m) ≤ most_record_bytes
turn_bytes config m b =
    let cs : List Change = take most_changes (due_changes config m b) in
    let left : ℕ = most_record_bytes - record_bytes [] in
    omega (arith, within_bound left cs, sum-map change_bytes (within_bytes left cs))

within_count : (left : ℕ) (cs : List Change) → length (within_bytes left cs) ≤ length cs
within_count left [] = omega arith
within_count left (c ∷ cs) = go (nat_le (change_bytes c) left) (within_count (left - change_bytes c) cs)
  where
    go : (b : Bool) → length (within_bytes (left - change_bytes c) cs) ≤ length cs → length (if b then c ∷ within_bytes (left - change_bytes c) cs else []) ≤ length (c ∷ cs)
    go false rest = omega arith
    go true rest = omega (arith, rest)

pub turn_count : (config : Config) (m : ℕ) (b : Book) → length (turn_changes config b m) ≤ most_changes
turn_count config m b =
    let cs : List Change = take most_changes (due_changes config m b) in
    omega (arith, within_count (most_record_bytes - record_bytes []) cs, length-take most_changes (due_changes config m b))
