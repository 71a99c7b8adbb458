-- What a change that is made keeps.
use Rattle.std.proofs.Common.{ℕ, zero, suc, Bool, true, false, nat_le, Some, if◌then◌else◌}
use Rattle.host_model.specs.Apply.{apply}
use Rattle.host_model.specs.Book.{Book}
use Rattle.host_model.specs.Draft.{Draft, ended, made, make, make_with}
use Rattle.host_model.specs.RecordLength.{change_bytes}
use Rattle.host_model.specs.declared.change.Change.{Change}

-- what holds of a draft's book, and of that with a change applied, holds once the change is made
pub made_keeps : (P : Book → Type 0) (m : ℕ) (x : Change) (d : Draft) → P d.book → P (apply m x d.book) → P (make m (Some x) d).book
made_keeps P m x d here next = go d.places
  where
    fits : (n : ℕ) (t : Bool) → P (if t then made m x d n else ended d).book
    fits n true = next
    fits n false = here

    go : (n : ℕ) → P (make_with m x d n).book
    go zero = here
    go (suc n) = fits n (nat_le (change_bytes x) d.left)

-- the same of what holds of a draft
pub draft_keeps : (P : Draft → Type 0) (m : ℕ) (x : Change) (d : Draft) → P d → P (ended d) → ((n : ℕ) → P (made m x d n)) → P (make m (Some x) d)
draft_keeps P m x d here full next = go d.places
  where
    fits : (n : ℕ) (t : Bool) → P (if t then made m x d n else ended d)
    fits n true = next n
    fits n false = full

    go : (n : ℕ) → P (make_with m x d n)
    go zero = here
    go (suc n) = fits n (nat_le (change_bytes x) d.left)
