-- For which book a snapshot and the records behind it stand. Both are of one format: true is the second, false the first.
use Rattle.std.specs.Prelude.{◌∷◌, ◌≡◌, ◌⊎◌, Bool, List, [], false, true, ℕ}
use Rattle.value_bytes.specs.Changes.{changes}
use Rattle.host_codec.specs.Books.{book}
use Rattle.host_codec.specs.FirstFormat.{IsFirstSnapshot, first_changes}
use Rattle.host_model.specs.Apply.{recorded}
use Rattle.host_model.specs.Book.{Book}
use Rattle.host_model.specs.Lawful.{Lawful}
use Rattle.host_model.specs.MayFollow.{MayFollow}
use Rattle.host_model.specs.declared.change.Changes.{Changes}

-- the bytes are the snapshot of the book
abbrev pub IsSnapshot : Bool → List ℕ → Book → Type 0
IsSnapshot true bytes b = book.Fits b × (bytes ≡ book.code b)
IsSnapshot false bytes b = IsFirstSnapshot bytes b

-- the bytes are the record of the changes
abbrev pub IsRecord : Bool → List ℕ → Changes → Type 0
IsRecord true bytes c = changes.Fits c × (bytes ≡ changes.code c)
IsRecord false bytes c = first_changes.Fits c × (bytes ≡ first_changes.code c)

-- the records lead from the first book to the second: each may follow the book that those before it left
abbrev pub Leads : Bool → ℕ → Book → List (List ℕ) → Book → Type 0
Leads second self a [] b = a ≡ b
Leads second self a (bytes ∷ more) b = (c : Changes) × IsRecord second bytes c × MayFollow self a c × Leads second self (recorded a c) more b

-- a snapshot of a lawful book, and records that lead from it to this one
pub record StandsIn (second : Bool) (self : ℕ) (snapshot : List ℕ) (records : List (List ℕ)) (b : Book) : Type 0 where
  pub from : Book
  pub is : IsSnapshot second snapshot from
  pub lawful : Lawful self from
  pub leads : Leads second self from records b

-- a list of one format stands for a book of the host with this number
abbrev pub StandsAs : Bool → ℕ → List (List ℕ) → Book → Type 0
StandsAs second self [] b = ⊥
StandsAs second self (snapshot ∷ records) b = StandsIn second self snapshot records b

-- so does a list of either
abbrev pub StandsFor : ℕ → List (List ℕ) → Book → Type 0
StandsFor self [] b = ⊥
StandsFor self (snapshot ∷ records) b = StandsIn true self snapshot records b ⊎ StandsIn false self snapshot records b
