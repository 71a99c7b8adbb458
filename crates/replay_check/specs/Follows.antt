-- Whether one change may follow a book, at the book's moment.
use Rattle.std.specs.Prelude.{ℕ}
use Rattle.host_model.specs.Apply.{apply}
use Rattle.host_model.specs.Book.{Book}
use Rattle.host_model.specs.Lawful.{Lawful}
use Rattle.host_model.specs.MayFollow.{CanApply}
use Rattle.host_model.specs.declared.change.Change.{Change}

-- it can be applied, and leaves a lawful book of the host with this number
abbrev pub Follows : ℕ → Book → Change → Type 0
Follows self b c = CanApply b c × Lawful self (apply b.moment c b)
