-- What a list stands for, as a snapshot is written and as a list is refused.
use Rattle.std.specs.Prelude.{IfOk}
use Rattle.std.proofs.Common.{◌⊎◌, ◌≡◌, ◌∷◌, Err, List, Ok, Result, [], false, refl, subst, true, ℕ}
use Rattle.host_codec.specs.Books.{book}
use Rattle.host_journal.specs.Image.{ImageState}
use Rattle.host_model.specs.Book.{Book}
use Rattle.host_model.specs.Lawful.{Lawful}
use Rattle.host_model.specs.declared.config.Config.{Config}
use Rattle.host_replay.specs.Stands.{StandsAs, StandsFor}
use Rattle.host_replay.proofs.ListLemmas.{either_stands, stands_either}
use Rattle.machine_keep.specs.Refusal.{StandsOf}
use Rattle.host_keep.specs.Standing.{Standing, StandsNow, StoodOnce}

-- an image of a lawful book stands for it
pub image_stands : {E : Type 0} (r : Result ImageState E) (n : ℕ) (b : Book) → IfOk r (λ made. made.bytes ≡ book.code b) → IfOk r (λ made. book.Fits b) → IfOk r (λ made. Lawful n b) → IfOk r (λ made. StandsAs true n (made.bytes ∷ []) b)
image_stands (Ok made) n b code fits lawful = record { from = b; is = (fits, code); lawful = lawful; leads = refl }
image_stands (Err e) n b code fits lawful = tt

-- in either format a list stands for a host of this configuration where it stands for a book of its number
module _ (c : Config) where
  abbrev pub OfHost : List (List ℕ) → Standing → Type 0
  OfHost = StandsOf (λ (s : Standing). s.config) c StandsNow StoodOnce

  pub to_host : (list : List (List ℕ)) (b : Book) → StandsFor c.number list b → (s : Standing) × OfHost list s
  to_host list b stands = (record { config = c; book = b }, (refl, stands_either c.number list b stands))

  pub to_book : (list : List (List ℕ)) (s : Standing) → OfHost list s → (b : Book) × StandsFor c.number list b
  to_book list s stands = (s.book, either_stands c.number list s.book (subst (λ (x : Config). StandsAs true x.number list s.book ⊎ StandsAs false x.number list s.book) stands.0 stands.1))
